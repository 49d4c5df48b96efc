use Rattle.std.proofs.Common.{rules, ◌≡◌, Bool, IfSome, Err, ap, sym, ◌∙◌, subst}
use Rattle.qls_site.specs.Disk.{full}
use Rattle.qls_meaning.specs.Meaning.{meaning}
use Rattle.qls_pool.specs.Files.{OnDisk}
use Rattle.qls_pool.specs.Serials.{DrawsTaken}
use Rattle.qls_look.specs.declared.fault.OpenFault.{OpenFault}
use Rattle.qls_look.specs.declared.fault.OpenFault.TheVariants as opening
use Rattle.qls_store.specs.Opening.{OpensAs, is_exact_opening}
use Rattle.qls_store.specs.Stores.{StoreState}
use Rattle.qls_top.specs.declared.fault.Fault.{Fault}
use Rattle.qls_top.specs.Serials.{is_exact}
use Rattle.qls_top.specs.Shows.{TellsDamage, damage_line}
use Rattle.qls_top.specs.Status.{fault_of_opening}
use Rattle.qls_top.specs.Run.{RunsToEnd, EndsClean, HadClean, HadFiles, is_too_long, status_of_result}
use Rattle.qls_top.proofs.Beginning.{opened, lines_quiet, lines_drawn, if_ok, run_done, run_spent, opening_spent}
use Rattle.qls_top.proofs.Chains.{silent_quiet}
use Rattle.qls_top.proofs.Damaging.{looks_damaged, opening_untouched, opening_tells, opening_short, exact_opening, spent_opening, failed_opening, drew_opening, reads_none, shows_if_damaged, damaged_drawn}
use Rattle.qls_top.proofs.DueRuns.{opening_in_order, lines_in_order}
use Rattle.qls_top.proofs.FirstMoments.{opening_writes, opening_keeps, damaged_keeps, run_writes, run_keeps}
use Rattle.qls_top.proofs.Having.{run_had}
use Rattle.qls_top.proofs.Replying.{run_replies, opening_replies}
use Rattle.qls_top.proofs.Shown.{shows, told_quiet, told_in_order, told_writes}
use Rattle.qls_top.proofs.Working.{run_works, opening_works}
use Rattle.qls_top.proofs.run_script.Goals as goal

-- ---- the store was opened, and its lines were run

pub returns-clause-done : goal.returns-clause-done
returns-clause-done g c =
    if_ok (EndsClean c.in-Ok.store (g.S.Site.told c.open.new.site) (g.S.Site.told c.run_lines.new.site) (g.R.Source.left c.args.source.now) (g.R.Source.left c.run_lines.new.source))
    (RunsToEnd (g.S.Site.told c.args.site.now) (g.S.Site.told c.run_lines.new.site) (g.R.Source.left c.args.source.now) (g.R.Source.left c.run_lines.new.source)) c.run_lines.result c.run_lines.ensures.done
    (run_done c.args.home c.in-Ok.store _ (g.S.Site.told c.open.new.site) _ _ _ (opened c.args.home c.in-Ok.store _ _ c.in-Ok.ensures.meaning c.in-Ok.ensures.rid c.in-Ok.ensures.homes c.in-Ok.ensures.told) c.run_lines.ensures.went)

pub returns-clause-had : goal.returns-clause-had
returns-clause-had g c =
    if_ok (HadClean c.in-Ok.store (g.S.Site.told c.open.new.site) (g.S.Site.told c.run_lines.new.site) (g.R.Source.left c.args.source.now))
    (HadFiles c.args.home (g.S.Site.told c.args.site.now) (g.S.Site.told c.run_lines.new.site) (g.R.Source.left c.args.source.now)) c.run_lines.result c.run_lines.ensures.had
    (run_had c.args.home c.in-Ok.store _ (g.S.Site.told c.open.new.site) _ _ (opened c.args.home c.in-Ok.store _ _ c.in-Ok.ensures.meaning c.in-Ok.ensures.rid c.in-Ok.ensures.homes c.in-Ok.ensures.told) c.run_lines.ensures.went)

pub returns-clause-writes : goal.returns-clause-writes
returns-clause-writes g c =
    run_writes c.args.home c.in-Ok.store _ (g.S.Site.told c.open.new.site) _ (opened c.args.home c.in-Ok.store _ _ c.in-Ok.ensures.meaning c.in-Ok.ensures.rid c.in-Ok.ensures.homes c.in-Ok.ensures.told)
    c.in-Ok.ensures.writes c.run_lines.ensures.went c.run_lines.ensures.writes

pub returns-clause-orderly : goal.returns-clause-orderly
returns-clause-orderly g c =
    lines_in_order c.args.home c.in-Ok.store _ (g.S.Site.told c.open.new.site) _ c.open.ensures.rising (opened c.args.home c.in-Ok.store _ _ c.in-Ok.ensures.meaning c.in-Ok.ensures.rid c.in-Ok.ensures.homes c.in-Ok.ensures.told) c.in-Ok.ensures.pools c.run_lines.ensures.went c.run_lines.ensures.takes

pub returns-clause-discipline : goal.returns-clause-discipline
returns-clause-discipline g c =
    run_keeps c.args.home c.in-Ok.store _ (g.S.Site.told c.open.new.site) _ (opened c.args.home c.in-Ok.store _ _ c.in-Ok.ensures.meaning c.in-Ok.ensures.rid c.in-Ok.ensures.homes c.in-Ok.ensures.told) c.in-Ok.ensures.writes c.in-Ok.ensures.leaves c.run_lines.ensures.went
    (lines_in_order c.args.home c.in-Ok.store _ (g.S.Site.told c.open.new.site) _ c.open.ensures.rising (opened c.args.home c.in-Ok.store _ _ c.in-Ok.ensures.meaning c.in-Ok.ensures.rid c.in-Ok.ensures.homes c.in-Ok.ensures.told) c.in-Ok.ensures.pools c.run_lines.ensures.went c.run_lines.ensures.takes)
    c.run_lines.ensures.writes c.run_lines.ensures.leaves c.run_lines.ensures.answers

pub returns-clause-commands : goal.returns-clause-commands
returns-clause-commands g c =
    run_works c.args.home c.in-Ok.store _ (g.S.Site.told c.open.new.site) _ _ (opened c.args.home c.in-Ok.store _ _ c.in-Ok.ensures.meaning c.in-Ok.ensures.rid c.in-Ok.ensures.homes c.in-Ok.ensures.told)
    c.in-Ok.ensures.pools c.run_lines.ensures.went c.run_lines.ensures.commands

pub returns-clause-quiet : goal.returns-clause-quiet
returns-clause-quiet g c =
    lines_quiet c.args.home c.in-Ok.store _ (g.S.Site.told c.open.new.site) _ (opened c.args.home c.in-Ok.store _ _ c.in-Ok.ensures.meaning c.in-Ok.ensures.rid c.in-Ok.ensures.homes c.in-Ok.ensures.told) c.run_lines.ensures.quiet

pub returns-clause-replied : goal.returns-clause-replied
returns-clause-replied g c =
    run_replies c.args.home c.in-Ok.store _ (g.S.Site.told c.open.new.site) _ _ (opened c.args.home c.in-Ok.store _ _ c.in-Ok.ensures.meaning c.in-Ok.ensures.rid c.in-Ok.ensures.homes c.in-Ok.ensures.told)
    c.run_lines.ensures.went c.run_lines.ensures.replied

pub returns-clause-drawn : goal.returns-clause-drawn
returns-clause-drawn g c =
    lines_drawn c.args.home c.in-Ok.store (is_exact c.run_lines.result) _ (g.S.Site.told c.open.new.site) _ _ (g.N.Serials.drawn c.open.new.serials) _
    (opened c.args.home c.in-Ok.store _ _ c.in-Ok.ensures.meaning c.in-Ok.ensures.rid c.in-Ok.ensures.homes c.in-Ok.ensures.told) c.run_lines.ensures.went c.in-Ok.ensures.drawn c.run_lines.ensures.drawn

pub returns-clause-spent : goal.returns-clause-spent
returns-clause-spent g c = λ e.
    run_spent c.args.home c.in-Ok.store _ (g.S.Site.told c.open.new.site) _ _ (opened c.args.home c.in-Ok.store _ _ c.in-Ok.ensures.meaning c.in-Ok.ensures.rid c.in-Ok.ensures.homes c.in-Ok.ensures.told)
    c.run_lines.ensures.went (c.run_lines.ensures.spent e)

-- ---- the store is damaged, and the line of its damage was answered

pub returns-in-Damaged-clause-untouched : goal.returns-in-Damaged-clause-untouched
returns-in-Damaged-clause-untouched g c =
    let bad = subst (λ (e : OpenFault). IfSome (g.S.Site.told c.args.site.now) (OnDisk (λ d. OpensAs (meaning (full d)) (Err e)))) c.in-Damaged.is c.in-Err.ensures.meaning in
    shows_if_damaged _ _ (shows (Err (c.in-Damaged.file, c.in-Damaged.rule)) _ _ _ bad (looks_damaged (c.in-Damaged.file, c.in-Damaged.rule) _ _ bad c.in-Err.ensures.looks) c.answer_damage.ensures.told)

pub returns-in-Damaged-clause-orderly : goal.returns-in-Damaged-clause-orderly
returns-in-Damaged-clause-orderly g c =
    let bad = subst (λ (e : OpenFault). IfSome (g.S.Site.told c.args.site.now) (OnDisk (λ d. OpensAs (meaning (full d)) (Err e)))) c.in-Damaged.is c.in-Err.ensures.meaning in
    told_in_order _ _ c.in-Err.ensures.rising
    (shows (Err (c.in-Damaged.file, c.in-Damaged.rule)) _ _ _ bad (looks_damaged (c.in-Damaged.file, c.in-Damaged.rule) _ _ bad c.in-Err.ensures.looks) c.answer_damage.ensures.told)

pub returns-in-Damaged-clause-writes : goal.returns-in-Damaged-clause-writes
returns-in-Damaged-clause-writes g c =
    let bad = subst (λ (e : OpenFault). IfSome (g.S.Site.told c.args.site.now) (OnDisk (λ d. OpensAs (meaning (full d)) (Err e)))) c.in-Damaged.is c.in-Err.ensures.meaning in
    told_writes _ _ c.in-Err.ensures.rising
    (shows (Err (c.in-Damaged.file, c.in-Damaged.rule)) _ _ _ bad (looks_damaged (c.in-Damaged.file, c.in-Damaged.rule) _ _ bad c.in-Err.ensures.looks) c.answer_damage.ensures.told)

pub returns-in-Damaged-clause-discipline : goal.returns-in-Damaged-clause-discipline
returns-in-Damaged-clause-discipline g c =
    let bad = subst (λ (e : OpenFault). IfSome (g.S.Site.told c.args.site.now) (OnDisk (λ d. OpensAs (meaning (full d)) (Err e)))) c.in-Damaged.is c.in-Err.ensures.meaning in
    damaged_keeps (c.in-Damaged.file, c.in-Damaged.rule) _ _ bad
    (told_writes _ _ c.in-Err.ensures.rising
    (shows (Err (c.in-Damaged.file, c.in-Damaged.rule)) _ _ _ bad (looks_damaged (c.in-Damaged.file, c.in-Damaged.rule) _ _ bad c.in-Err.ensures.looks) c.answer_damage.ensures.told))

pub returns-in-Damaged-clause-quiet : goal.returns-in-Damaged-clause-quiet
returns-in-Damaged-clause-quiet g c =
    let bad = subst (λ (e : OpenFault). IfSome (g.S.Site.told c.args.site.now) (OnDisk (λ d. OpensAs (meaning (full d)) (Err e)))) c.in-Damaged.is c.in-Err.ensures.meaning in
    told_quiet _ _ (shows (Err (c.in-Damaged.file, c.in-Damaged.rule)) _ _ _ bad (looks_damaged (c.in-Damaged.file, c.in-Damaged.rule) _ _ bad c.in-Err.ensures.looks) c.answer_damage.ensures.told)

pub returns-in-Damaged-clause-drawn : goal.returns-in-Damaged-clause-drawn
returns-in-Damaged-clause-drawn g c =
    let bad = subst (λ (e : OpenFault). IfSome (g.S.Site.told c.args.site.now) (OnDisk (λ d. OpensAs (meaning (full d)) (Err e)))) c.in-Damaged.is c.in-Err.ensures.meaning in
    damaged_drawn (is_exact c.answer_damage.result) (damage_line (c.in-Damaged.file, c.in-Damaged.rule)) _ (g.S.Site.told c.open.new.site) _ _ _ c.in-Err.ensures.rising (looks_damaged (c.in-Damaged.file, c.in-Damaged.rule) _ _ bad c.in-Err.ensures.looks)
    c.answer_damage.ensures.told
    (subst (λ (e : OpenFault). DrawsTaken (is_exact_opening {X = StoreState} (Err e)) (g.S.Site.told c.args.site.now) (g.S.Site.told c.open.new.site) (g.N.Serials.drawn c.args.serials.now) (g.N.Serials.drawn c.open.new.serials)) c.in-Damaged.is
    c.in-Err.ensures.drawn)

-- ---- the store couldn't be opened

pub returns-in_default-clause-writes : goal.returns-in_default-clause-writes
returns-in_default-clause-writes g c = opening_writes (Err c.in-Err.fault) _ _ c.in-Err.ensures.writes

pub returns-in_default-clause-orderly : goal.returns-in_default-clause-orderly
returns-in_default-clause-orderly g c = opening_in_order c.args.home _ _ c.open.ensures.rising c.in-Err.ensures.told c.in-Err.ensures.pools

pub returns-in_default-clause-discipline : goal.returns-in_default-clause-discipline
returns-in_default-clause-discipline g c =
    opening_keeps (Err c.in-Err.fault) _ _ c.in-Err.ensures.told (opening_in_order c.args.home _ _ c.open.ensures.rising c.in-Err.ensures.told c.in-Err.ensures.pools) c.in-Err.ensures.writes c.in-Err.ensures.leaves

pub returns-in_default-clause-commands : goal.returns-in_default-clause-commands
returns-in_default-clause-commands g c = opening_works c.args.home _ _ (g.R.Source.left c.args.source.now) c.in-Err.ensures.told c.in-Err.ensures.pools

pub returns-in_default-clause-quiet : goal.returns-in_default-clause-quiet
returns-in_default-clause-quiet g c = silent_quiet _ _ c.in-Err.ensures.told

pub returns-in_default-clause-replied : goal.returns-in_default-clause-replied
returns-in_default-clause-replied g c = opening_replies _ _ (g.R.Source.left c.args.source.now) c.in-Err.ensures.told

pub returns-in_default-clause-drawn : goal.returns-in_default-clause-drawn
returns-in_default-clause-drawn g c =
    let is : fault_of_opening c.in-Err.fault ≡ c.from.result = search (rules, c.from.ensures, c.in_default.fault-is) in
    subst (λ (b : Bool). DrawsTaken b (g.S.Site.told c.args.site.now) (g.S.Site.told c.open.new.site) (g.N.Serials.drawn c.args.serials.now) (g.N.Serials.drawn c.open.new.serials))
    (exact_opening c.in-Err.fault ∙ ap (λ (f : Fault). is_exact {X = Unit {0}} (Err f)) is) c.in-Err.ensures.drawn

pub returns-in_default-clause-spent : goal.returns-in_default-clause-spent
returns-in_default-clause-spent g c = λ e.
    let is : fault_of_opening c.in-Err.fault ≡ c.from.result = search (rules, c.from.ensures, c.in_default.fault-is) in
    let spent : c.in-Err.fault ≡ opening.Spent = spent_opening c.in-Err.fault (ap (λ (f : Fault). Err f) is ∙ e) in
    opening_spent c.args.home _ _ (g.R.Source.left c.args.source.now) (c.in-Err.ensures.spent (ap (λ (o : OpenFault). Err o) spent))

pub returns-in_default-clause-damaged_start : goal.returns-in_default-clause-damaged_start
returns-in_default-clause-damaged_start g c =
    let is : fault_of_opening c.in-Err.fault ≡ c.from.result = search (rules, c.from.ensures, c.in_default.fault-is) in
    subst (λ (f : Fault). IfSome (g.S.Site.told c.args.site.now) (TellsDamage (status_of_result (Err f)))) is (opening_tells c.in-Err.fault _ c.in-Err.ensures.meaning)

pub returns-in_default-clause-untouched : goal.returns-in_default-clause-untouched
returns-in_default-clause-untouched g c = opening_untouched _ _ c.in-Err.ensures.looks

pub returns-in_default-clause-site : goal.returns-in_default-clause-site
returns-in_default-clause-site g c = λ e.
    let is : fault_of_opening c.in-Err.fault ≡ c.from.result = search (rules, c.from.ensures, c.in_default.fault-is) in
    c.in-Err.ensures.causes.failed (ap (λ (o : OpenFault). Err o) (failed_opening c.in-Err.fault (ap (λ (f : Fault). Err f) is ∙ e)))

pub returns-in_default-clause-serials : goal.returns-in_default-clause-serials
returns-in_default-clause-serials g c = λ e.
    let is : fault_of_opening c.in-Err.fault ≡ c.from.result = search (rules, c.from.ensures, c.in_default.fault-is) in
    c.in-Err.ensures.causes.draw (ap (λ (o : OpenFault). Err o) (drew_opening c.in-Err.fault (ap (λ (f : Fault). Err f) is ∙ e)))

pub returns-in_default-clause-too_long : goal.returns-in_default-clause-too_long
returns-in_default-clause-too_long g c =
    let is : fault_of_opening c.in-Err.fault ≡ c.from.result = search (rules, c.from.ensures, c.in_default.fault-is) in
    reads_none c.from.result (g.R.Source.left c.args.source.now) (ap (λ (f : Fault). is_too_long (Err f)) (sym is) ∙ opening_short c.in-Err.fault)
