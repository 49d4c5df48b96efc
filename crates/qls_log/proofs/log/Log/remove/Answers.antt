use Rattle.std.proofs.Common.{◌≡◌, [], ◌++◌, IfSome, Ok, Err, refl, sym, ap, ◌∙◌, subst, append-nil, rules}
use Rattle.qls_site.specs.Content.{Tells}
use Rattle.qls_pool.specs.Files.{OnDisk}
use Rattle.qls_log.specs.Faults.{fault_of_site}
use Rattle.qls_log.specs.Logs.{LogState, IsSound}
use Rattle.qls_log.specs.Standing.{LogThere, files_on}
use Rattle.qls_log.specs.Steps.{IsLogStep, GoesBy}
use Rattle.qls_log.specs.Returning.{MayReturn, Returned}
use Rattle.qls_log.specs.Appending.{LeavesOthers}
use Rattle.qls_log.proofs.OwnWrites.{stopped_own, goes_of, none_of}
use Rattle.qls_log.proofs.Releases.{told_may_return, told_whole, told_gone, told_leaves, told_goes}
use Rattle.qls_log.proofs.BackSteps.{told_backs_well}
use Rattle.qls_log.proofs.log.Log.remove.Goals as goal

pub give_back_each-requires : goal.give_back_each-requires
give_back_each-requires g c =
    let l : LogState = record { opening = c.self.inside.opening; files = c.self.inside.files.items; older = c.self.inside.older; newest = c.self.inside.newest; used = c.self.inside.used; rid = c.self.inside.rid; unsynced = c.self.inside.unsynced; ended = c.self.inside.ended } in
    let sound : IsSound l = c.self.invariant (ap (λ (x : LogState). x.ended) c.self.view_is ∙ c.requires.unended) in
    let there : IfSome (g.S.Site.told c.args.site.now) (OnDisk (LogThere l)) = subst (λ (x : LogState). IfSome (g.S.Site.told c.args.site.now) (OnDisk (LogThere x))) (sym c.self.view_is) c.requires.there in
    let may : IfSome (g.S.Site.told c.args.site.now) (OnDisk (MayReturn l.opening c.args.pool.now (l.files ++ []))) = told_may_return l c.args.pool.now (l.files ++ []) _ (append-nil l.files) sound there c.requires.pool in
    record { may = (l.opening, [], may) }

pub returns-in_err-give_back_each-clause-went : goal.returns-in_err-give_back_each-clause-went
returns-in_err-give_back_each-clause-went g c =
    let l : LogState = record { opening = c.self.inside.opening; files = c.self.inside.files.items; older = c.self.inside.older; newest = c.self.inside.newest; used = c.self.inside.used; rid = c.self.inside.rid; unsynced = c.self.inside.unsynced; ended = c.self.inside.ended } in
    let sound : IsSound l = c.self.invariant (ap (λ (x : LogState). x.ended) c.self.view_is ∙ c.requires.unended) in
    let there : IfSome (g.S.Site.told c.args.site.now) (OnDisk (LogThere l)) = subst (λ (x : LogState). IfSome (g.S.Site.told c.args.site.now) (OnDisk (LogThere x))) (sym c.self.view_is) c.requires.there in
    let may : IfSome (g.S.Site.told c.args.site.now) (OnDisk (MayReturn l.opening c.args.pool.now (l.files ++ []))) = told_may_return l c.args.pool.now (l.files ++ []) _ (append-nil l.files) sound there c.requires.pool in
    let is : Err (fault_of_site c.in_err-give_back_each.field-0.0) ≡ c.from_residual.result = search (rules, c.from_residual.ensures) in
    let went = stopped_own l.opening [] c.in_err-give_back_each.field-0.0 c.from_residual.result _ _ is (c.in_err-give_back_each.ensures.back l.opening [] may) in
    subst (λ (x : LogState). Tells (GoesBy (IsLogStep x.opening) c.from_residual.result) (g.S.Site.told c.args.site.now) (g.S.Site.told c.give_back_each.new.site)) c.self.view_is (goes_of l.opening c.from_residual.result _ _ went)

pub returns-in_err-give_back_each-clause-none : goal.returns-in_err-give_back_each-clause-none
returns-in_err-give_back_each-clause-none g c =
    let l : LogState = record { opening = c.self.inside.opening; files = c.self.inside.files.items; older = c.self.inside.older; newest = c.self.inside.newest; used = c.self.inside.used; rid = c.self.inside.rid; unsynced = c.self.inside.unsynced; ended = c.self.inside.ended } in
    let sound : IsSound l = c.self.invariant (ap (λ (x : LogState). x.ended) c.self.view_is ∙ c.requires.unended) in
    let there : IfSome (g.S.Site.told c.args.site.now) (OnDisk (LogThere l)) = subst (λ (x : LogState). IfSome (g.S.Site.told c.args.site.now) (OnDisk (LogThere x))) (sym c.self.view_is) c.requires.there in
    let may : IfSome (g.S.Site.told c.args.site.now) (OnDisk (MayReturn l.opening c.args.pool.now (l.files ++ []))) = told_may_return l c.args.pool.now (l.files ++ []) _ (append-nil l.files) sound there c.requires.pool in
    let is : Err (fault_of_site c.in_err-give_back_each.field-0.0) ≡ c.from_residual.result = search (rules, c.from_residual.ensures) in
    let went = stopped_own l.opening [] c.in_err-give_back_each.field-0.0 c.from_residual.result _ _ is (c.in_err-give_back_each.ensures.back l.opening [] may) in
    none_of l.opening c.from_residual.result _ _ went

pub returns-clause-gone : goal.returns-clause-gone
returns-clause-gone g c =
    let l : LogState = record { opening = c.self.inside.opening; files = c.self.inside.files.items; older = c.self.inside.older; newest = c.self.inside.newest; used = c.self.inside.used; rid = c.self.inside.rid; unsynced = c.self.inside.unsynced; ended = c.self.inside.ended } in
    let sound : IsSound l = c.self.invariant (ap (λ (x : LogState). x.ended) c.self.view_is ∙ c.requires.unended) in
    let there : IfSome (g.S.Site.told c.args.site.now) (OnDisk (LogThere l)) = subst (λ (x : LogState). IfSome (g.S.Site.told c.args.site.now) (OnDisk (LogThere x))) (sym c.self.view_is) c.requires.there in
    let may : IfSome (g.S.Site.told c.args.site.now) (OnDisk (MayReturn l.opening c.args.pool.now (l.files ++ []))) = told_may_return l c.args.pool.now (l.files ++ []) _ (append-nil l.files) sound there c.requires.pool in
    let back : Tells (Returned l.opening c.give_back_each.new.pool [] l.files) (g.S.Site.told c.args.site.now) (g.S.Site.told c.give_back_each.new.site) = c.in_ok-give_back_each.ensures.back l.opening [] may in
    subst (λ (x : LogState). IfSome (g.S.Site.told c.give_back_each.new.site) (OnDisk (λ d. files_on x.opening d ≡ []))) c.self.view_is (told_gone l.opening c.give_back_each.new.pool [] l.files _ _ refl back)

pub returns-clause-pool : goal.returns-clause-pool
returns-clause-pool g c =
    let l : LogState = record { opening = c.self.inside.opening; files = c.self.inside.files.items; older = c.self.inside.older; newest = c.self.inside.newest; used = c.self.inside.used; rid = c.self.inside.rid; unsynced = c.self.inside.unsynced; ended = c.self.inside.ended } in
    let sound : IsSound l = c.self.invariant (ap (λ (x : LogState). x.ended) c.self.view_is ∙ c.requires.unended) in
    let there : IfSome (g.S.Site.told c.args.site.now) (OnDisk (LogThere l)) = subst (λ (x : LogState). IfSome (g.S.Site.told c.args.site.now) (OnDisk (LogThere x))) (sym c.self.view_is) c.requires.there in
    let may : IfSome (g.S.Site.told c.args.site.now) (OnDisk (MayReturn l.opening c.args.pool.now (l.files ++ []))) = told_may_return l c.args.pool.now (l.files ++ []) _ (append-nil l.files) sound there c.requires.pool in
    let back : Tells (Returned l.opening c.give_back_each.new.pool [] l.files) (g.S.Site.told c.args.site.now) (g.S.Site.told c.give_back_each.new.site) = c.in_ok-give_back_each.ensures.back l.opening [] may in
    told_whole l.opening c.give_back_each.new.pool [] l.files _ _ back

pub returns-clause-others : goal.returns-clause-others
returns-clause-others g c =
    let l : LogState = record { opening = c.self.inside.opening; files = c.self.inside.files.items; older = c.self.inside.older; newest = c.self.inside.newest; used = c.self.inside.used; rid = c.self.inside.rid; unsynced = c.self.inside.unsynced; ended = c.self.inside.ended } in
    let sound : IsSound l = c.self.invariant (ap (λ (x : LogState). x.ended) c.self.view_is ∙ c.requires.unended) in
    let there : IfSome (g.S.Site.told c.args.site.now) (OnDisk (LogThere l)) = subst (λ (x : LogState). IfSome (g.S.Site.told c.args.site.now) (OnDisk (LogThere x))) (sym c.self.view_is) c.requires.there in
    let may : IfSome (g.S.Site.told c.args.site.now) (OnDisk (MayReturn l.opening c.args.pool.now (l.files ++ []))) = told_may_return l c.args.pool.now (l.files ++ []) _ (append-nil l.files) sound there c.requires.pool in
    let back : Tells (Returned l.opening c.give_back_each.new.pool [] l.files) (g.S.Site.told c.args.site.now) (g.S.Site.told c.give_back_each.new.site) = c.in_ok-give_back_each.ensures.back l.opening [] may in
    subst (λ (x : LogState). Tells (LeavesOthers x.files) (g.S.Site.told c.args.site.now) (g.S.Site.told c.give_back_each.new.site)) c.self.view_is (told_leaves l.opening c.give_back_each.new.pool [] l.files _ _ back)

pub returns-clause-went : goal.returns-clause-went
returns-clause-went g c =
    let l : LogState = record { opening = c.self.inside.opening; files = c.self.inside.files.items; older = c.self.inside.older; newest = c.self.inside.newest; used = c.self.inside.used; rid = c.self.inside.rid; unsynced = c.self.inside.unsynced; ended = c.self.inside.ended } in
    let sound : IsSound l = c.self.invariant (ap (λ (x : LogState). x.ended) c.self.view_is ∙ c.requires.unended) in
    let there : IfSome (g.S.Site.told c.args.site.now) (OnDisk (LogThere l)) = subst (λ (x : LogState). IfSome (g.S.Site.told c.args.site.now) (OnDisk (LogThere x))) (sym c.self.view_is) c.requires.there in
    let may : IfSome (g.S.Site.told c.args.site.now) (OnDisk (MayReturn l.opening c.args.pool.now (l.files ++ []))) = told_may_return l c.args.pool.now (l.files ++ []) _ (append-nil l.files) sound there c.requires.pool in
    let back : Tells (Returned l.opening c.give_back_each.new.pool [] l.files) (g.S.Site.told c.args.site.now) (g.S.Site.told c.give_back_each.new.site) = c.in_ok-give_back_each.ensures.back l.opening [] may in
    subst (λ (x : LogState). Tells (GoesBy (IsLogStep x.opening) (Ok (tt {0}))) (g.S.Site.told c.args.site.now) (g.S.Site.told c.give_back_each.new.site)) c.self.view_is
    (goes_of l.opening (Ok (tt {0})) _ _ (told_goes l.opening c.give_back_each.new.pool [] l.files _ _ back))

pub returns-clause-none : goal.returns-clause-none
returns-clause-none g c =
    let l : LogState = record { opening = c.self.inside.opening; files = c.self.inside.files.items; older = c.self.inside.older; newest = c.self.inside.newest; used = c.self.inside.used; rid = c.self.inside.rid; unsynced = c.self.inside.unsynced; ended = c.self.inside.ended } in
    let sound : IsSound l = c.self.invariant (ap (λ (x : LogState). x.ended) c.self.view_is ∙ c.requires.unended) in
    let there : IfSome (g.S.Site.told c.args.site.now) (OnDisk (LogThere l)) = subst (λ (x : LogState). IfSome (g.S.Site.told c.args.site.now) (OnDisk (LogThere x))) (sym c.self.view_is) c.requires.there in
    let may : IfSome (g.S.Site.told c.args.site.now) (OnDisk (MayReturn l.opening c.args.pool.now (l.files ++ []))) = told_may_return l c.args.pool.now (l.files ++ []) _ (append-nil l.files) sound there c.requires.pool in
    let back : Tells (Returned l.opening c.give_back_each.new.pool [] l.files) (g.S.Site.told c.args.site.now) (g.S.Site.told c.give_back_each.new.site) = c.in_ok-give_back_each.ensures.back l.opening [] may in
    none_of l.opening (Ok (tt {0})) _ _ (told_goes l.opening c.give_back_each.new.pool [] l.files _ _ back)

pub returns-in_err-give_back_each-clause-writes : goal.returns-in_err-give_back_each-clause-writes
returns-in_err-give_back_each-clause-writes g c =
    let l : LogState = record { opening = c.self.inside.opening; files = c.self.inside.files.items; older = c.self.inside.older; newest = c.self.inside.newest; used = c.self.inside.used; rid = c.self.inside.rid; unsynced = c.self.inside.unsynced; ended = c.self.inside.ended } in
    let there : IfSome (g.S.Site.told c.args.site.now) (OnDisk (LogThere l)) = subst (λ (x : LogState). IfSome (g.S.Site.told c.args.site.now) (OnDisk (LogThere x))) (sym c.self.view_is) c.requires.there in
    told_backs_well l l.files (Err c.in_err-give_back_each.field-0.0) _ _ there c.in_err-give_back_each.ensures.told

pub returns-clause-writes : goal.returns-clause-writes
returns-clause-writes g c =
    let l : LogState = record { opening = c.self.inside.opening; files = c.self.inside.files.items; older = c.self.inside.older; newest = c.self.inside.newest; used = c.self.inside.used; rid = c.self.inside.rid; unsynced = c.self.inside.unsynced; ended = c.self.inside.ended } in
    let there : IfSome (g.S.Site.told c.args.site.now) (OnDisk (LogThere l)) = subst (λ (x : LogState). IfSome (g.S.Site.told c.args.site.now) (OnDisk (LogThere x))) (sym c.self.view_is) c.requires.there in
    told_backs_well l l.files (Ok (tt {0})) _ _ there c.in_ok-give_back_each.ensures.told
