use Rattle.std.proofs.Common.{◌≡◌, ◌<◌, ◌∙◌, true, false, List, [], ◌++◌, IfSome, Ok, Err, refl, sym, ap, subst, take, rules}
use Rattle.qls_site.specs.Content.{Tells}
use Rattle.qls_pool.specs.Files.{HeadedFile, OnDisk}
use Rattle.qls_log.specs.Faults.{fault_of_site}
use Rattle.qls_log.specs.Logs.{LogState, IsSound}
use Rattle.qls_log.specs.Standing.{LogThere}
use Rattle.qls_log.specs.Steps.{IsLogStep, GoesBy}
use Rattle.qls_log.specs.Returning.{MayReturn, Returned, released}
use Rattle.qls_log.specs.Appending.{LeavesOthers}
use Rattle.qls_log.proofs.OwnWrites.{stopped_own, goes_of, none_of}
use Rattle.qls_log.proofs.Releases.{cut_files, released_is, sound_without, told_may_return, told_left, told_spare, told_leaves, told_goes}
use Rattle.qls_log.specs.Unwritten.{StaysWritten}
use Rattle.qls_log.proofs.BackSteps.{told_backs_well, told_err_written, told_still_written, told_kept_written, some_kept}
use Rattle.qls_log.proofs.log.Log.release_before.Goals as goal

pub give_back_each-requires : goal.give_back_each-requires
give_back_each-requires g c =
    let l : LogState = record { opening = c.self.inside.opening; files = c.self.inside.files.items; older = c.self.inside.older; newest = c.self.inside.newest; used = c.self.inside.used; rid = c.self.inside.rid; unsynced = c.self.inside.unsynced; ended = c.self.inside.ended } in
    let sound : IsSound l = c.self.invariant (ap (λ (x : LogState). x.ended) c.self.view_is ∙ c.requires.unended) in
    let there : IfSome (g.S.Site.told c.args.site.now) (OnDisk (LogThere l)) = subst (λ (x : LogState). IfSome (g.S.Site.told c.args.site.now) (OnDisk (LogThere x))) (sym c.self.view_is) c.requires.there in
    let given : List HeadedFile = c.replace-given.result.items in
    let kept : List HeadedFile = c.in_ok-kept.kept.items in
    let cut : given ++ kept ≡ l.files = cut_files c.count_released-count.result l.files given kept (search rules) c.in_ok-kept.ensures.tail in
    let may : IfSome (g.S.Site.told c.args.site.now) (OnDisk (MayReturn l.opening c.args.pool.now (given ++ kept))) = told_may_return l c.args.pool.now (given ++ kept) _ cut sound there c.requires.pool in
    record { may = (l.opening, kept, may) }

pub returns-in_err-give_back_each-clause-went : goal.returns-in_err-give_back_each-clause-went
returns-in_err-give_back_each-clause-went g c =
    let l : LogState = record { opening = c.self.inside.opening; files = c.self.inside.files.items; older = c.self.inside.older; newest = c.self.inside.newest; used = c.self.inside.used; rid = c.self.inside.rid; unsynced = c.self.inside.unsynced; ended = c.self.inside.ended } in
    let sound : IsSound l = c.self.invariant (ap (λ (x : LogState). x.ended) c.self.view_is ∙ c.requires.unended) in
    let there : IfSome (g.S.Site.told c.args.site.now) (OnDisk (LogThere l)) = subst (λ (x : LogState). IfSome (g.S.Site.told c.args.site.now) (OnDisk (LogThere x))) (sym c.self.view_is) c.requires.there in
    let given : List HeadedFile = c.replace-given.result.items in
    let kept : List HeadedFile = c.in_ok-kept.kept.items in
    let cut : given ++ kept ≡ l.files = cut_files c.count_released-count.result l.files given kept (search rules) c.in_ok-kept.ensures.tail in
    let may : IfSome (g.S.Site.told c.args.site.now) (OnDisk (MayReturn l.opening c.args.pool.now (given ++ kept))) = told_may_return l c.args.pool.now (given ++ kept) _ cut sound there c.requires.pool in
    let is : Err (fault_of_site c.in_err-give_back_each.field-0.0) ≡ c.from_residual-in_err-give_back_each.result = search (rules, c.from_residual-in_err-give_back_each.ensures) in
    let went = stopped_own l.opening [] c.in_err-give_back_each.field-0.0 c.from_residual-in_err-give_back_each.result _ _ is (c.in_err-give_back_each.ensures.back l.opening kept may) in
    subst (λ (x : LogState). Tells (GoesBy (IsLogStep x.opening) c.from_residual-in_err-give_back_each.result) (g.S.Site.told c.args.site.now) (g.S.Site.told c.give_back_each.new.site)) c.self.view_is
    (goes_of l.opening c.from_residual-in_err-give_back_each.result _ _ went)

pub returns-in_err-give_back_each-clause-none : goal.returns-in_err-give_back_each-clause-none
returns-in_err-give_back_each-clause-none g c =
    let l : LogState = record { opening = c.self.inside.opening; files = c.self.inside.files.items; older = c.self.inside.older; newest = c.self.inside.newest; used = c.self.inside.used; rid = c.self.inside.rid; unsynced = c.self.inside.unsynced; ended = c.self.inside.ended } in
    let sound : IsSound l = c.self.invariant (ap (λ (x : LogState). x.ended) c.self.view_is ∙ c.requires.unended) in
    let there : IfSome (g.S.Site.told c.args.site.now) (OnDisk (LogThere l)) = subst (λ (x : LogState). IfSome (g.S.Site.told c.args.site.now) (OnDisk (LogThere x))) (sym c.self.view_is) c.requires.there in
    let given : List HeadedFile = c.replace-given.result.items in
    let kept : List HeadedFile = c.in_ok-kept.kept.items in
    let cut : given ++ kept ≡ l.files = cut_files c.count_released-count.result l.files given kept (search rules) c.in_ok-kept.ensures.tail in
    let may : IfSome (g.S.Site.told c.args.site.now) (OnDisk (MayReturn l.opening c.args.pool.now (given ++ kept))) = told_may_return l c.args.pool.now (given ++ kept) _ cut sound there c.requires.pool in
    let is : Err (fault_of_site c.in_err-give_back_each.field-0.0) ≡ c.from_residual-in_err-give_back_each.result = search (rules, c.from_residual-in_err-give_back_each.ensures) in
    let went = stopped_own l.opening [] c.in_err-give_back_each.field-0.0 c.from_residual-in_err-give_back_each.result _ _ is (c.in_err-give_back_each.ensures.back l.opening kept may) in
    none_of l.opening c.from_residual-in_err-give_back_each.result _ _ went

pub invariant_of-self-2 : goal.invariant_of-self-2
invariant_of-self-2 g c = λ e.
    let l : LogState = record { opening = c.self.inside.opening; files = c.self.inside.files.items; older = c.self.inside.older; newest = c.self.inside.newest; used = c.self.inside.used; rid = c.self.inside.rid; unsynced = c.self.inside.unsynced; ended = c.self.inside.ended } in
    let sound : IsSound l = c.self.invariant (ap (λ (x : LogState). x.ended) c.self.view_is ∙ c.requires.unended) in
    let there : IfSome (g.S.Site.told c.args.site.now) (OnDisk (LogThere l)) = subst (λ (x : LogState). IfSome (g.S.Site.told c.args.site.now) (OnDisk (LogThere x))) (sym c.self.view_is) c.requires.there in
    let given : List HeadedFile = c.replace-given.result.items in
    let kept : List HeadedFile = c.in_ok-kept.kept.items in
    let cut : given ++ kept ≡ l.files = cut_files c.count_released-count.result l.files given kept (search rules) c.in_ok-kept.ensures.tail in
    let may : IfSome (g.S.Site.told c.args.site.now) (OnDisk (MayReturn l.opening c.args.pool.now (given ++ kept))) = told_may_return l c.args.pool.now (given ++ kept) _ cut sound there c.requires.pool in
    let new : LogState = record { opening = c.self.inside.opening; files = c.replace-given.new.dest.items; older = c.saturating_sub-self-inside.result; newest = c.self.inside.newest; used = c.self.inside.used; rid = c.self.inside.rid; unsynced = c.self.inside.unsynced; ended = false } in
    let some : 0 < c.count_released-count.result = search rules in
    let flushed : l.unsynced ≡ [] = c.count_released-count.ensures.pending some in
    let files : new.files ≡ kept = search rules in
    sound_without l new c.count_released-count.result sound (search rules) flushed refl (files ∙ c.in_ok-kept.ensures.tail) (search rules) refl refl refl refl

pub returns-clause-there : goal.returns-clause-there
returns-clause-there g c =
    let l : LogState = record { opening = c.self.inside.opening; files = c.self.inside.files.items; older = c.self.inside.older; newest = c.self.inside.newest; used = c.self.inside.used; rid = c.self.inside.rid; unsynced = c.self.inside.unsynced; ended = c.self.inside.ended } in
    let sound : IsSound l = c.self.invariant (ap (λ (x : LogState). x.ended) c.self.view_is ∙ c.requires.unended) in
    let there : IfSome (g.S.Site.told c.args.site.now) (OnDisk (LogThere l)) = subst (λ (x : LogState). IfSome (g.S.Site.told c.args.site.now) (OnDisk (LogThere x))) (sym c.self.view_is) c.requires.there in
    let given : List HeadedFile = c.replace-given.result.items in
    let kept : List HeadedFile = c.in_ok-kept.kept.items in
    let cut : given ++ kept ≡ l.files = cut_files c.count_released-count.result l.files given kept (search rules) c.in_ok-kept.ensures.tail in
    let may : IfSome (g.S.Site.told c.args.site.now) (OnDisk (MayReturn l.opening c.args.pool.now (given ++ kept))) = told_may_return l c.args.pool.now (given ++ kept) _ cut sound there c.requires.pool in
    let back : Tells (Returned l.opening c.give_back_each.new.pool kept given) (g.S.Site.told c.args.site.now) (g.S.Site.told c.give_back_each.new.site) = c.in_ok-give_back_each.ensures.back l.opening kept may in
    let new : LogState = record { opening = c.self.inside.opening; files = c.replace-given.new.dest.items; older = c.saturating_sub-self-inside.result; newest = c.self.inside.newest; used = c.self.inside.used; rid = c.self.inside.rid; unsynced = c.self.inside.unsynced; ended = false } in
    let some : 0 < c.count_released-count.result = search rules in
    let flushed : l.unsynced ≡ [] = c.count_released-count.ensures.pending some in
    let files : new.files ≡ kept = search rules in
    told_left l new c.give_back_each.new.pool given kept _ _ cut flushed refl files flushed there back

pub returns-clause-pool : goal.returns-clause-pool
returns-clause-pool g c =
    let l : LogState = record { opening = c.self.inside.opening; files = c.self.inside.files.items; older = c.self.inside.older; newest = c.self.inside.newest; used = c.self.inside.used; rid = c.self.inside.rid; unsynced = c.self.inside.unsynced; ended = c.self.inside.ended } in
    let sound : IsSound l = c.self.invariant (ap (λ (x : LogState). x.ended) c.self.view_is ∙ c.requires.unended) in
    let there : IfSome (g.S.Site.told c.args.site.now) (OnDisk (LogThere l)) = subst (λ (x : LogState). IfSome (g.S.Site.told c.args.site.now) (OnDisk (LogThere x))) (sym c.self.view_is) c.requires.there in
    let given : List HeadedFile = c.replace-given.result.items in
    let kept : List HeadedFile = c.in_ok-kept.kept.items in
    let cut : given ++ kept ≡ l.files = cut_files c.count_released-count.result l.files given kept (search rules) c.in_ok-kept.ensures.tail in
    let may : IfSome (g.S.Site.told c.args.site.now) (OnDisk (MayReturn l.opening c.args.pool.now (given ++ kept))) = told_may_return l c.args.pool.now (given ++ kept) _ cut sound there c.requires.pool in
    let back : Tells (Returned l.opening c.give_back_each.new.pool kept given) (g.S.Site.told c.args.site.now) (g.S.Site.told c.give_back_each.new.site) = c.in_ok-give_back_each.ensures.back l.opening kept may in
    told_spare l.opening c.give_back_each.new.pool kept given _ _ back

pub returns-clause-others : goal.returns-clause-others
returns-clause-others g c =
    let l : LogState = record { opening = c.self.inside.opening; files = c.self.inside.files.items; older = c.self.inside.older; newest = c.self.inside.newest; used = c.self.inside.used; rid = c.self.inside.rid; unsynced = c.self.inside.unsynced; ended = c.self.inside.ended } in
    let sound : IsSound l = c.self.invariant (ap (λ (x : LogState). x.ended) c.self.view_is ∙ c.requires.unended) in
    let there : IfSome (g.S.Site.told c.args.site.now) (OnDisk (LogThere l)) = subst (λ (x : LogState). IfSome (g.S.Site.told c.args.site.now) (OnDisk (LogThere x))) (sym c.self.view_is) c.requires.there in
    let given : List HeadedFile = c.replace-given.result.items in
    let kept : List HeadedFile = c.in_ok-kept.kept.items in
    let cut : given ++ kept ≡ l.files = cut_files c.count_released-count.result l.files given kept (search rules) c.in_ok-kept.ensures.tail in
    let may : IfSome (g.S.Site.told c.args.site.now) (OnDisk (MayReturn l.opening c.args.pool.now (given ++ kept))) = told_may_return l c.args.pool.now (given ++ kept) _ cut sound there c.requires.pool in
    let back : Tells (Returned l.opening c.give_back_each.new.pool kept given) (g.S.Site.told c.args.site.now) (g.S.Site.told c.give_back_each.new.site) = c.in_ok-give_back_each.ensures.back l.opening kept may in
    let some : 0 < c.count_released-count.result = search rules in
    let first : take c.count_released-count.result l.files ≡ given = search rules in
    let is : given ≡ released c.args.number l = released_is c.args.number c.count_released-count.result l given first (search rules) in
    subst (λ (x : LogState). Tells (LeavesOthers (released c.args.number x)) (g.S.Site.told c.args.site.now) (g.S.Site.told c.give_back_each.new.site)) c.self.view_is
    (subst (λ (hs : List HeadedFile). Tells (LeavesOthers hs) (g.S.Site.told c.args.site.now) (g.S.Site.told c.give_back_each.new.site)) is (told_leaves l.opening c.give_back_each.new.pool kept given _ _ back))

pub returns-clause-went : goal.returns-clause-went
returns-clause-went g c =
    let l : LogState = record { opening = c.self.inside.opening; files = c.self.inside.files.items; older = c.self.inside.older; newest = c.self.inside.newest; used = c.self.inside.used; rid = c.self.inside.rid; unsynced = c.self.inside.unsynced; ended = c.self.inside.ended } in
    let sound : IsSound l = c.self.invariant (ap (λ (x : LogState). x.ended) c.self.view_is ∙ c.requires.unended) in
    let there : IfSome (g.S.Site.told c.args.site.now) (OnDisk (LogThere l)) = subst (λ (x : LogState). IfSome (g.S.Site.told c.args.site.now) (OnDisk (LogThere x))) (sym c.self.view_is) c.requires.there in
    let given : List HeadedFile = c.replace-given.result.items in
    let kept : List HeadedFile = c.in_ok-kept.kept.items in
    let cut : given ++ kept ≡ l.files = cut_files c.count_released-count.result l.files given kept (search rules) c.in_ok-kept.ensures.tail in
    let may : IfSome (g.S.Site.told c.args.site.now) (OnDisk (MayReturn l.opening c.args.pool.now (given ++ kept))) = told_may_return l c.args.pool.now (given ++ kept) _ cut sound there c.requires.pool in
    let back : Tells (Returned l.opening c.give_back_each.new.pool kept given) (g.S.Site.told c.args.site.now) (g.S.Site.told c.give_back_each.new.site) = c.in_ok-give_back_each.ensures.back l.opening kept may in
    subst (λ (x : LogState). Tells (GoesBy (IsLogStep x.opening) (Ok (tt {0}))) (g.S.Site.told c.args.site.now) (g.S.Site.told c.give_back_each.new.site)) c.self.view_is
    (goes_of l.opening (Ok (tt {0})) _ _ (told_goes l.opening c.give_back_each.new.pool kept given _ _ back))

pub returns-clause-none : goal.returns-clause-none
returns-clause-none g c =
    let l : LogState = record { opening = c.self.inside.opening; files = c.self.inside.files.items; older = c.self.inside.older; newest = c.self.inside.newest; used = c.self.inside.used; rid = c.self.inside.rid; unsynced = c.self.inside.unsynced; ended = c.self.inside.ended } in
    let sound : IsSound l = c.self.invariant (ap (λ (x : LogState). x.ended) c.self.view_is ∙ c.requires.unended) in
    let there : IfSome (g.S.Site.told c.args.site.now) (OnDisk (LogThere l)) = subst (λ (x : LogState). IfSome (g.S.Site.told c.args.site.now) (OnDisk (LogThere x))) (sym c.self.view_is) c.requires.there in
    let given : List HeadedFile = c.replace-given.result.items in
    let kept : List HeadedFile = c.in_ok-kept.kept.items in
    let cut : given ++ kept ≡ l.files = cut_files c.count_released-count.result l.files given kept (search rules) c.in_ok-kept.ensures.tail in
    let may : IfSome (g.S.Site.told c.args.site.now) (OnDisk (MayReturn l.opening c.args.pool.now (given ++ kept))) = told_may_return l c.args.pool.now (given ++ kept) _ cut sound there c.requires.pool in
    let back : Tells (Returned l.opening c.give_back_each.new.pool kept given) (g.S.Site.told c.args.site.now) (g.S.Site.told c.give_back_each.new.site) = c.in_ok-give_back_each.ensures.back l.opening kept may in
    none_of l.opening (Ok (tt {0})) _ _ (told_goes l.opening c.give_back_each.new.pool kept given _ _ back)

pub returns-then-count-eq0-clause-writes : goal.returns-then-count-eq0-clause-writes
returns-then-count-eq0-clause-writes g c = told_still_written (tt {0}) c.args.self.now (g.S.Site.told c.args.site.now)

pub returns-in_err-give_back_each-clause-writes : goal.returns-in_err-give_back_each-clause-writes
returns-in_err-give_back_each-clause-writes g c =
    let l : LogState = record { opening = c.self.inside.opening; files = c.self.inside.files.items; older = c.self.inside.older; newest = c.self.inside.newest; used = c.self.inside.used; rid = c.self.inside.rid; unsynced = c.self.inside.unsynced; ended = c.self.inside.ended } in
    let new : LogState = record { opening = c.self.inside.opening; files = c.replace-given.new.dest.items; older = c.self.inside.older; newest = c.self.inside.newest; used = c.self.inside.used; rid = c.self.inside.rid; unsynced = c.self.inside.unsynced; ended = true } in
    let there : IfSome (g.S.Site.told c.args.site.now) (OnDisk (LogThere l)) = subst (λ (x : LogState). IfSome (g.S.Site.told c.args.site.now) (OnDisk (LogThere x))) (sym c.self.view_is) c.requires.there in
    let is : Err (fault_of_site c.in_err-give_back_each.field-0.0) ≡ c.from_residual-in_err-give_back_each.result = search (rules, c.from_residual-in_err-give_back_each.ensures) in
    told_err_written (fault_of_site c.in_err-give_back_each.field-0.0) c.from_residual-in_err-give_back_each.result c.args.self.now new _ _ is
    (told_backs_well l c.replace-given.result.items (Err c.in_err-give_back_each.field-0.0) _ _ there c.in_err-give_back_each.ensures.told)

pub returns-clause-writes : goal.returns-clause-writes
returns-clause-writes g c =
    let l : LogState = record { opening = c.self.inside.opening; files = c.self.inside.files.items; older = c.self.inside.older; newest = c.self.inside.newest; used = c.self.inside.used; rid = c.self.inside.rid; unsynced = c.self.inside.unsynced; ended = c.self.inside.ended } in
    let there : IfSome (g.S.Site.told c.args.site.now) (OnDisk (LogThere l)) = subst (λ (x : LogState). IfSome (g.S.Site.told c.args.site.now) (OnDisk (LogThere x))) (sym c.self.view_is) c.requires.there in
    let given : List HeadedFile = c.replace-given.result.items in
    let kept : List HeadedFile = c.in_ok-kept.kept.items in
    let cut : given ++ kept ≡ l.files = cut_files c.count_released-count.result l.files given kept (search rules) c.in_ok-kept.ensures.tail in
    let new : LogState = record { opening = c.self.inside.opening; files = c.replace-given.new.dest.items; older = c.saturating_sub-self-inside.result; newest = c.self.inside.newest; used = c.self.inside.used; rid = c.self.inside.rid; unsynced = c.self.inside.unsynced; ended = false } in
    let some : 0 < c.count_released-count.result = search rules in
    let flushed : l.unsynced ≡ [] = c.count_released-count.ensures.pending some in
    let files : new.files ≡ kept = search rules in
    subst (λ (x : LogState). Tells (StaysWritten (Ok (tt {0})) x new) (g.S.Site.told c.args.site.now) (g.S.Site.told c.give_back_each.new.site)) c.self.view_is
    (told_kept_written (tt {0}) l new given kept _ _ cut flushed (some_kept c.count_released-count.result l.files kept c.in_ok-kept.ensures.tail (search rules)) refl files refl there c.in_ok-give_back_each.ensures.told)
