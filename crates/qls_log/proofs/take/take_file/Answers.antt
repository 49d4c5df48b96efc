use Rattle.qls_pool.specs.declared.file.Linked.{Linked}
use Rattle.std.proofs.Common.{rules, ◌≡◌, [], ◌∷◌, Ok, Err, Result, sym, subst, ap, ◌∙◌}
use Rattle.qls_filehdr.specs.declared.FileHeader.{FileHeader}
use Rattle.qls_pool.specs.Files.{HeadedFile, BlankThere, IsPoolOf}
use Rattle.qls_pool.specs.Taking.{TakesBlank}
use Rattle.qls_pool.proofs.Calls.{carried}
use Rattle.qls_log.proofs.Steps.{failed, ok_again, two_orderly, three_orderly, takes_told, one_sync}
use Rattle.qls_log.proofs.Takes.{told_whole, told_pool}
use Rattle.qls_log.proofs.Making.{IsOwnHeader, own_header, may_at, told_blank_failed, told_blank_goes, site_goes, told_head_failed, told_link_failed, told_file, told_next, blank_drawn, site_inexact, file_drawn, brought_arrives}
use Rattle.qls_log.specs.Steps.{IsLogStep, GoesBy, is_exact}
use Rattle.qls_log.specs.Keeping.{IsTakeStep}
use Rattle.qls_log.proofs.Going.{told_weaker}
use Rattle.qls_log.specs.Faults.{fault_of_site, fault_of_take}
use Rattle.qls_log.specs.Logs.{header_for}
use Rattle.qls_log.specs.declared.opening.Opening.{Opening}
use Rattle.qls_pool.proofs.Serials.{told_at_most, drawn_at_most}
use Rattle.qls_pool.specs.Files.{BlankFile}
use Rattle.qls_pool.specs.Taking.{put_in_use}
use Rattle.qls_pool.specs.Serials.{DrawsTaken}
use Rattle.qls_site.specs.Content.{Tells, Acts, MayAct, Leads}
use Rattle.qls_log.specs.declared.fault.LogError.{LogError}
use Rattle.qls_site.specs.declared.site.SiteError.{SiteError}
use Rattle.qls_log.proofs.take.take_file.Goals as goal

pub head-requires-clause-there : goal.head-requires-clause-there
head-requires-clause-there g c =
    carried (TakesBlank c.args.opening.now.home c.args.pool.now (Ok c.in_ok-blank.blank)) (IsPoolOf c.args.pool.now []) (BlankThere c.in_ok-blank.blank) _ _ c.in_ok-blank.ensures.told
    (c.in_ok-blank.ensures.there []) c.requires.pool

pub returns-in_err-headed-clause-orderly : goal.returns-in_err-headed-clause-orderly
returns-in_err-headed-clause-orderly g c =
    two_orderly c.args.opening.now.home c.args.pool.now c.in_ok-blank.blank c.from_residual-in_err-headed.result _ _ _ c.in_ok-blank.ensures.told c.in_ok-blank.ensures.orderly
    c.in_ok-blank.ensures.ids (c.in_ok-blank.ensures.there [])
    (failed HeadedFile (BlankThere c.in_ok-blank.blank) c.in_err-headed.field-0.0 c.from_residual-in_err-headed.result _ _ c.from_residual-in_err-headed.ensures.0 c.in_err-headed.ensures.orderly)

pub returns-in_err-linked-clause-orderly : goal.returns-in_err-linked-clause-orderly
returns-in_err-linked-clause-orderly g c =
    three_orderly c.args.opening.now.home c.args.pool.now c.in_ok-blank.blank c.header-header.result c.in_ok-headed.headed c.from_residual-in_err-linked.result _ _ _ _
    (ap (λ (h : FileHeader). h.part) c.header-header.ensures.exact) (ap (λ (h : FileHeader). h.kib) c.header-header.ensures.exact) c.in_ok-headed.ensures.headed
    c.in_ok-blank.ensures.told c.in_ok-blank.ensures.orderly c.in_ok-blank.ensures.ids c.in_ok-blank.ensures.least (c.in_ok-blank.ensures.there [])
    c.in_ok-headed.ensures.told c.in_ok-headed.ensures.orderly c.in_ok-headed.ensures.ids c.in_ok-headed.ensures.least
    (failed HeadedFile _ c.in_err-linked.field-0.0 c.from_residual-in_err-linked.result _ _ c.from_residual-in_err-linked.ensures.0 c.in_err-linked.ensures.orderly)

pub returns-clause-told : goal.returns-clause-told
returns-clause-told g c =
    takes_told c.args.opening.now.home c.args.pool.now c.blank.new.self c.in_ok-blank.blank c.header-header.result c.in_ok-headed.headed c.in_ok-linked.linked _ _ _ _
    c.in_ok-headed.ensures.headed c.in_ok-linked.ensures.linked (λ spent. search (rules, c.in_ok-blank.ensures.spent, c.in_ok-blank.was, spent)) c.in_ok-blank.ensures.handed c.in_ok-blank.ensures.told
    c.in_ok-headed.ensures.told c.in_ok-linked.ensures.told

pub returns-clause-syncs : goal.returns-clause-syncs
returns-clause-syncs g c =
    one_sync LogError (TakesBlank c.args.opening.now.home c.args.pool.now (Ok c.in_ok-blank.blank)) c.in_ok-headed.headed c.in_ok-linked.linked _ _ _ _ _ _ c.in_ok-blank.ensures.told c.in_ok-blank.ensures.syncs c.in_ok-headed.ensures.syncs c.in_ok-linked.ensures.syncs

pub returns-clause-orderly : goal.returns-clause-orderly
returns-clause-orderly g c =
    ok_again SiteError LogError (IsPoolOf c.args.pool.now []) c.in_ok-linked.linked c.in_ok-linked.linked _ _ (three_orderly {F = SiteError} c.args.opening.now.home c.args.pool.now c.in_ok-blank.blank c.header-header.result c.in_ok-headed.headed (Ok c.in_ok-linked.linked) _ _ _ _
    (ap (λ (h : FileHeader). h.part) c.header-header.ensures.exact) (ap (λ (h : FileHeader). h.kib) c.header-header.ensures.exact) c.in_ok-headed.ensures.headed
    c.in_ok-blank.ensures.told c.in_ok-blank.ensures.orderly c.in_ok-blank.ensures.ids c.in_ok-blank.ensures.least (c.in_ok-blank.ensures.there [])
    c.in_ok-headed.ensures.told c.in_ok-headed.ensures.orderly c.in_ok-headed.ensures.ids c.in_ok-headed.ensures.least
    c.in_ok-linked.ensures.orderly)

pub returns-clause-legal : goal.returns-clause-legal
returns-clause-legal g c = search rules

pub returns-clause-pool : goal.returns-clause-pool
returns-clause-pool g c =
    told_pool c.args.opening.now.home c.args.pool.now c.blank.new.self c.in_ok-linked.linked _ _ (returns-clause-told g c) (returns-clause-legal g c) (ap (λ (h : HeadedFile). h.header.part) (c.in_ok-linked.ensures.linked ∙ c.in_ok-headed.ensures.headed) ∙ ap (λ (h : FileHeader). h.part) c.header-header.ensures.exact) (ap (λ (h : HeadedFile). h.header.kib) (c.in_ok-linked.ensures.linked ∙ c.in_ok-headed.ensures.headed) ∙ ap (λ (h : FileHeader). h.kib) c.header-header.ensures.exact) c.requires.pool

pub returns-clause-whole : goal.returns-clause-whole
returns-clause-whole g c =
    told_whole c.args.opening.now.home c.args.pool.now c.blank.new.self c.in_ok-linked.linked _ _ (returns-clause-told g c) (returns-clause-legal g c) (ap (λ (h : HeadedFile). h.header.part) (c.in_ok-linked.ensures.linked ∙ c.in_ok-headed.ensures.headed) ∙ ap (λ (h : FileHeader). h.part) c.header-header.ensures.exact) (ap (λ (h : HeadedFile). h.header.kib) (c.in_ok-linked.ensures.linked ∙ c.in_ok-headed.ensures.headed) ∙ ap (λ (h : FileHeader). h.kib) c.header-header.ensures.exact)

pub returns-in_err-blank-clause-kept : goal.returns-in_err-blank-clause-kept
returns-in_err-blank-clause-kept g c =
    let is : Err (fault_of_take c.in_err-blank.field-0.0) ≡ c.from_residual.result = search (rules, c.from_residual.ensures) in
    subst (λ (r : Result Linked LogError). Tells (GoesBy (IsTakeStep c.args.opening.now) r) (g.S.Site.told c.args.site.now) (g.S.Site.told c.blank.new.site)) is
    (told_blank_goes c.args.opening.now c.args.pool.now c.args.number Linked c.in_err-blank.field-0.0 _ _ c.requires.start c.in_err-blank.ensures.told)

pub returns-in_err-blank-clause-drew : goal.returns-in_err-blank-clause-drew
returns-in_err-blank-clause-drew g c =
    let is : Err (fault_of_take c.in_err-blank.field-0.0) ≡ c.from_residual.result = search (rules, c.from_residual.ensures) in
    subst (λ (r : Result Linked LogError). DrawsTaken (is_exact r) (g.S.Site.told c.args.site.now) (g.S.Site.told c.blank.new.site) (g.N.Serials.drawn c.args.serials.now) (g.N.Serials.drawn c.blank.new.serials)) is
    (blank_drawn (IsTakeStep c.args.opening.now) Linked c.in_err-blank.field-0.0 _ _ _ _
    (told_blank_failed c.args.opening.now c.args.pool.now c.args.number c.in_err-blank.field-0.0 _ _ c.requires.start c.in_err-blank.ensures.told) c.in_err-blank.ensures.drawn)

pub returns-in_err-headed-clause-kept : goal.returns-in_err-headed-clause-kept
returns-in_err-headed-clause-kept g c =
    let o : Opening = c.args.opening.now in
    let b : BlankFile = c.in_ok-blank.blank in
    let h : FileHeader = c.header-header.result in
    let at : b.home ≡ o.home = c.in_ok-blank.ensures.home in
    let own : IsOwnHeader o b h = own_header o b c.args.fresh h c.serial.result c.args.number c.header-header.ensures.exact c.serial.ensures at (search rules) in
    let may = may_at o c.args.pool.now h.number c.args.number _ (ap (λ (x : FileHeader). x.number) c.header-header.ensures.exact) c.requires.start in
    let failed = told_head_failed o b h own c.args.pool.now c.blank.new.self at c.in_ok-blank.ensures.handed c.in_err-headed.field-0.0 _ (g.S.Site.told c.blank.new.site) _ may c.in_ok-blank.ensures.told c.in_err-headed.ensures.told in
    let is : Err (fault_of_site c.in_err-headed.field-0.0) ≡ c.from_residual-in_err-headed.result = search (rules, c.from_residual-in_err-headed.ensures) in
    subst (λ (r : Result Linked LogError). Tells (GoesBy (IsTakeStep o) r) (g.S.Site.told c.args.site.now) (g.S.Site.told c.head.new.site)) is
    (site_goes (IsTakeStep o) Linked c.in_err-headed.field-0.0 _ _ (told_at_most (IsTakeStep o) b.serial _ _ failed))

pub returns-in_err-headed-clause-drew : goal.returns-in_err-headed-clause-drew
returns-in_err-headed-clause-drew g c =
    let o : Opening = c.args.opening.now in
    let b : BlankFile = c.in_ok-blank.blank in
    let h : FileHeader = c.header-header.result in
    let at : b.home ≡ o.home = c.in_ok-blank.ensures.home in
    let own : IsOwnHeader o b h = own_header o b c.args.fresh h c.serial.result c.args.number c.header-header.ensures.exact c.serial.ensures at (search rules) in
    let may = may_at o c.args.pool.now h.number c.args.number _ (ap (λ (x : FileHeader). x.number) c.header-header.ensures.exact) c.requires.start in
    let failed = told_head_failed o b h own c.args.pool.now c.blank.new.self at c.in_ok-blank.ensures.handed c.in_err-headed.field-0.0 _ (g.S.Site.told c.blank.new.site) _ may c.in_ok-blank.ensures.told c.in_err-headed.ensures.told in
    let is : Err (fault_of_site c.in_err-headed.field-0.0) ≡ c.from_residual-in_err-headed.result = search (rules, c.from_residual-in_err-headed.ensures) in
    let inexact = ap is_exact (sym is) ∙ site_inexact Linked c.in_err-headed.field-0.0 in
    subst (λ e. DrawsTaken e (g.S.Site.told c.args.site.now) (g.S.Site.told c.head.new.site) (g.N.Serials.drawn c.args.serials.now) (g.N.Serials.drawn c.blank.new.serials)) (sym inexact)
    (drawn_at_most (IsTakeStep o) _ b.serial _ _ _ _ failed c.in_ok-blank.ensures.drawn)

pub returns-in_err-linked-clause-kept : goal.returns-in_err-linked-clause-kept
returns-in_err-linked-clause-kept g c =
    let o : Opening = c.args.opening.now in
    let b : BlankFile = c.in_ok-blank.blank in
    let h : FileHeader = c.header-header.result in
    let at : b.home ≡ o.home = c.in_ok-blank.ensures.home in
    let own : IsOwnHeader o b h = own_header o b c.args.fresh h c.serial.result c.args.number c.header-header.ensures.exact c.serial.ensures at (search rules) in
    let may = may_at o c.args.pool.now h.number c.args.number _ (ap (λ (x : FileHeader). x.number) c.header-header.ensures.exact) c.requires.start in
    let same : c.in_ok-headed.headed ≡ record { id = b.id; header = h } = c.in_ok-headed.ensures.headed in
    let failed = told_link_failed o b h own c.args.pool.now c.blank.new.self at c.in_ok-blank.ensures.handed c.in_err-linked.field-0.0 _ (g.S.Site.told c.blank.new.site) (g.S.Site.told c.head.new.site) _ may c.in_ok-blank.ensures.told c.in_ok-headed.ensures.told
    (subst (λ (x : HeadedFile). Tells (Leads {X = Unit {0}} (Acts (put_in_use x.id)) (MayAct (put_in_use x.id)) (Err c.in_err-linked.field-0.0)) (g.S.Site.told c.head.new.site) (g.S.Site.told c.link.new.site)) same c.in_err-linked.ensures.told) in
    let is : Err (fault_of_site c.in_err-linked.field-0.0) ≡ c.from_residual-in_err-linked.result = search (rules, c.from_residual-in_err-linked.ensures) in
    subst (λ (r : Result Linked LogError). Tells (GoesBy (IsTakeStep o) r) (g.S.Site.told c.args.site.now) (g.S.Site.told c.link.new.site)) is
    (site_goes (IsTakeStep o) Linked c.in_err-linked.field-0.0 _ _ (told_at_most (IsTakeStep o) b.serial _ _ failed))

pub returns-in_err-linked-clause-drew : goal.returns-in_err-linked-clause-drew
returns-in_err-linked-clause-drew g c =
    let o : Opening = c.args.opening.now in
    let b : BlankFile = c.in_ok-blank.blank in
    let h : FileHeader = c.header-header.result in
    let at : b.home ≡ o.home = c.in_ok-blank.ensures.home in
    let own : IsOwnHeader o b h = own_header o b c.args.fresh h c.serial.result c.args.number c.header-header.ensures.exact c.serial.ensures at (search rules) in
    let may = may_at o c.args.pool.now h.number c.args.number _ (ap (λ (x : FileHeader). x.number) c.header-header.ensures.exact) c.requires.start in
    let same : c.in_ok-headed.headed ≡ record { id = b.id; header = h } = c.in_ok-headed.ensures.headed in
    let failed = told_link_failed o b h own c.args.pool.now c.blank.new.self at c.in_ok-blank.ensures.handed c.in_err-linked.field-0.0 _ (g.S.Site.told c.blank.new.site) (g.S.Site.told c.head.new.site) _ may c.in_ok-blank.ensures.told c.in_ok-headed.ensures.told
    (subst (λ (x : HeadedFile). Tells (Leads {X = Unit {0}} (Acts (put_in_use x.id)) (MayAct (put_in_use x.id)) (Err c.in_err-linked.field-0.0)) (g.S.Site.told c.head.new.site) (g.S.Site.told c.link.new.site)) same c.in_err-linked.ensures.told) in
    let is : Err (fault_of_site c.in_err-linked.field-0.0) ≡ c.from_residual-in_err-linked.result = search (rules, c.from_residual-in_err-linked.ensures) in
    let inexact = ap is_exact (sym is) ∙ site_inexact Linked c.in_err-linked.field-0.0 in
    subst (λ e. DrawsTaken e (g.S.Site.told c.args.site.now) (g.S.Site.told c.link.new.site) (g.N.Serials.drawn c.args.serials.now) (g.N.Serials.drawn c.blank.new.serials)) (sym inexact)
    (drawn_at_most (IsTakeStep o) _ b.serial _ _ _ _ failed c.in_ok-blank.ensures.drawn)

pub returns-clause-kept : goal.returns-clause-kept
returns-clause-kept g c =
    let o : Opening = c.args.opening.now in
    let b : BlankFile = c.in_ok-blank.blank in
    let h : FileHeader = c.header-header.result in
    let at : b.home ≡ o.home = c.in_ok-blank.ensures.home in
    let own : IsOwnHeader o b h = own_header o b c.args.fresh h c.serial.result c.args.number c.header-header.ensures.exact c.serial.ensures at (search rules) in
    let may = may_at o c.args.pool.now h.number c.args.number _ (ap (λ (x : FileHeader). x.number) c.header-header.ensures.exact) c.requires.start in
    let same : c.in_ok-headed.headed ≡ record { id = b.id; header = h } = c.in_ok-headed.ensures.headed in
    let done = told_file o b h own c.args.pool.now c.blank.new.self at c.in_ok-blank.ensures.handed _ (g.S.Site.told c.blank.new.site) (g.S.Site.told c.head.new.site) (g.S.Site.told c.link.new.site) may c.in_ok-blank.ensures.told c.in_ok-headed.ensures.told
    (subst (λ (x : HeadedFile). Tells (Acts (put_in_use x.id)) (g.S.Site.told c.head.new.site) (g.S.Site.told c.link.new.site)) same c.in_ok-linked.ensures.told) in
    brought_arrives (IsTakeStep o) (b.serial ∷ []) _ _ done

pub returns-clause-drew : goal.returns-clause-drew
returns-clause-drew g c =
    let o : Opening = c.args.opening.now in
    let b : BlankFile = c.in_ok-blank.blank in
    let h : FileHeader = c.header-header.result in
    let at : b.home ≡ o.home = c.in_ok-blank.ensures.home in
    let own : IsOwnHeader o b h = own_header o b c.args.fresh h c.serial.result c.args.number c.header-header.ensures.exact c.serial.ensures at (search rules) in
    let may = may_at o c.args.pool.now h.number c.args.number _ (ap (λ (x : FileHeader). x.number) c.header-header.ensures.exact) c.requires.start in
    let same : c.in_ok-headed.headed ≡ record { id = b.id; header = h } = c.in_ok-headed.ensures.headed in
    let done = told_file o b h own c.args.pool.now c.blank.new.self at c.in_ok-blank.ensures.handed _ (g.S.Site.told c.blank.new.site) (g.S.Site.told c.head.new.site) (g.S.Site.told c.link.new.site) may c.in_ok-blank.ensures.told c.in_ok-headed.ensures.told
    (subst (λ (x : HeadedFile). Tells (Acts (put_in_use x.id)) (g.S.Site.told c.head.new.site) (g.S.Site.told c.link.new.site)) same c.in_ok-linked.ensures.told) in
    file_drawn (IsTakeStep o) b.serial _ _ _ _ done c.in_ok-blank.ensures.drawn

pub returns-clause-next : goal.returns-clause-next
returns-clause-next g c =
    let o : Opening = c.args.opening.now in
    let is : c.in_ok-linked.linked.header ≡ header_for o c.serial.result c.args.number c.args.fresh = ap (λ (x : HeadedFile). x.header) (c.in_ok-linked.ensures.linked ∙ c.in_ok-headed.ensures.headed) ∙ c.header-header.ensures.exact in
    told_next o c.args.pool.now c.blank.new.self c.in_ok-linked.linked (returns-clause-legal g c) (ap (λ (x : FileHeader). x.part) is) (ap (λ (x : FileHeader). x.kib) is) (ap (λ (x : FileHeader). x.kind) is)
    (ap (λ (x : FileHeader). x.name) is) (ap (λ (x : FileHeader). x.epoch) is) c.args.number (ap (λ (x : FileHeader). x.number) is) _ _ (returns-clause-told g c) c.requires.start

pub returns-in_err-blank-clause-went : goal.returns-in_err-blank-clause-went
returns-in_err-blank-clause-went g c = told_weaker (IsTakeStep c.args.opening.now) (IsLogStep c.args.opening.now) (λ m n h. h.step) c.from_residual.result _ _ (returns-in_err-blank-clause-kept g c)

pub returns-in_err-headed-clause-went : goal.returns-in_err-headed-clause-went
returns-in_err-headed-clause-went g c = told_weaker (IsTakeStep c.args.opening.now) (IsLogStep c.args.opening.now) (λ m n h. h.step) c.from_residual-in_err-headed.result _ _ (returns-in_err-headed-clause-kept g c)

pub returns-in_err-linked-clause-went : goal.returns-in_err-linked-clause-went
returns-in_err-linked-clause-went g c = told_weaker (IsTakeStep c.args.opening.now) (IsLogStep c.args.opening.now) (λ m n h. h.step) c.from_residual-in_err-linked.result _ _ (returns-in_err-linked-clause-kept g c)

pub returns-clause-went : goal.returns-clause-went
returns-clause-went g c = told_weaker (IsTakeStep c.args.opening.now) (IsLogStep c.args.opening.now) (λ m n h. h.step) (Ok c.in_ok-linked.linked) _ _ (returns-clause-kept g c)
