use Rattle.std.proofs.Common.{rules, ◌≡◌, List, [], ◌∷◌, ◌++◌, IfSome, sym, ap, ◌∙◌, subst, append_assoc}
use Rattle.std.specs.Vec.Iter.{into_iter_items}
use Rattle.qls_pool.specs.Files.{HeadedFile, OnDisk}
use Rattle.qls_log.specs.Returning.{MayReturn, EndsBack}
use Rattle.qls_log.proofs.Returns.{BackSo, back_none, back_next, back_stopped, next_linked, next_pool, told_next}
use Rattle.qls_log.proofs.release.give_back_each.Goals as goal

pub loop-file-init : goal.loop-file-init
loop-file-init g c = record {
  items = search rules;
  len = search rules;
  told = search rules;
  back = back_none c.args.pool.now (into_iter_items c.into_iter-file-iterator.result) _;
  greatest = search rules;
  faults = search rules;
  syncs = search rules;
  reads = search rules;
}

pub give_back-requires-clause-there : goal.give_back-requires-clause-there
give_back-requires-clause-there g c =
    let h : HeadedFile = c.in-Some.file in
    let rest : List HeadedFile = into_iter_items c.next.new.self in
    let done : List HeadedFile = c.loop-file.yielded in
    let cut : into_iter_items c.loop-file.file-iterator ≡ h ∷ rest = search rules in
    let back : BackSo c.args.pool.now c.loop-file.pool done (h ∷ rest) (g.S.Site.told c.args.site.now) (g.S.Site.told c.loop-file.site) =
    subst (λ (xs : List HeadedFile). BackSo c.args.pool.now c.loop-file.pool done xs (g.S.Site.told c.args.site.now) (g.S.Site.told c.loop-file.site)) cut c.loop-file.invariant.back in
    let all : c.args.files.items ≡ done ++ h ∷ rest = search (rules, cut, c.loop-file.invariant.items) in
    let o = c.requires.may.0 in
    let kept = c.requires.may.1 in
    let may : IfSome (g.S.Site.told c.args.site.now) (OnDisk (MayReturn o c.args.pool.now (done ++ ((h ∷ rest) ++ kept)))) =
    subst (λ (xs : List HeadedFile). IfSome (g.S.Site.told c.args.site.now) (OnDisk (MayReturn o c.args.pool.now xs))) (ap (λ (xs : List HeadedFile). xs ++ kept) all ∙ append_assoc done (h ∷ rest) kept) c.requires.may.2 in
    next_linked c.args.pool.now c.loop-file.pool c.loop-file.pool done h rest o kept _ _ back may

pub give_back-requires-clause-pool : goal.give_back-requires-clause-pool
give_back-requires-clause-pool g c =
    let h : HeadedFile = c.in-Some.file in
    let rest : List HeadedFile = into_iter_items c.next.new.self in
    let done : List HeadedFile = c.loop-file.yielded in
    let cut : into_iter_items c.loop-file.file-iterator ≡ h ∷ rest = search rules in
    let back : BackSo c.args.pool.now c.loop-file.pool done (h ∷ rest) (g.S.Site.told c.args.site.now) (g.S.Site.told c.loop-file.site) =
    subst (λ (xs : List HeadedFile). BackSo c.args.pool.now c.loop-file.pool done xs (g.S.Site.told c.args.site.now) (g.S.Site.told c.loop-file.site)) cut c.loop-file.invariant.back in
    let all : c.args.files.items ≡ done ++ h ∷ rest = search (rules, cut, c.loop-file.invariant.items) in
    let o = c.requires.may.0 in
    let kept = c.requires.may.1 in
    let may : IfSome (g.S.Site.told c.args.site.now) (OnDisk (MayReturn o c.args.pool.now (done ++ ((h ∷ rest) ++ kept)))) =
    subst (λ (xs : List HeadedFile). IfSome (g.S.Site.told c.args.site.now) (OnDisk (MayReturn o c.args.pool.now xs))) (ap (λ (xs : List HeadedFile). xs ++ kept) all ∙ append_assoc done (h ∷ rest) kept) c.requires.may.2 in
    next_pool c.args.pool.now c.loop-file.pool c.loop-file.pool done h rest o kept _ _ back may

pub loop-file-preserved : goal.loop-file-preserved
loop-file-preserved g c =
    let h : HeadedFile = c.in-Some.file in
    let rest : List HeadedFile = into_iter_items c.next.new.self in
    let done : List HeadedFile = c.loop-file.yielded in
    let cut : into_iter_items c.loop-file.file-iterator ≡ h ∷ rest = search rules in
    let back : BackSo c.args.pool.now c.loop-file.pool done (h ∷ rest) (g.S.Site.told c.args.site.now) (g.S.Site.told c.loop-file.site) =
    subst (λ (xs : List HeadedFile). BackSo c.args.pool.now c.loop-file.pool done xs (g.S.Site.told c.args.site.now) (g.S.Site.told c.loop-file.site)) cut c.loop-file.invariant.back in
    let all : c.args.files.items ≡ done ++ h ∷ rest = search (rules, cut, c.loop-file.invariant.items) in
    record {
      items = append_assoc done (h ∷ []) rest ∙ ap (λ (xs : List HeadedFile). done ++ xs) (sym cut) ∙ c.loop-file.invariant.items;
      len = search rules;
      told = told_next c.args.pool.now c.loop-file.pool c.give_back.new.self done h rest _ _ _ c.loop-file.invariant.told c.in_ok-give_back.ensures.told;
      back = back_next c.args.pool.now c.loop-file.pool c.give_back.new.self done h rest _ _ _ back c.in_ok-give_back.ensures.told c.in_ok-give_back.ensures.pool;
      greatest = search rules;
      faults = search rules;
      syncs = search rules;
      reads = search rules;
    }

pub returns-in_err-give_back-clause-back : goal.returns-in_err-give_back-clause-back
returns-in_err-give_back-clause-back g c =
    let h : HeadedFile = c.in-Some.file in
    let rest : List HeadedFile = into_iter_items c.next.new.self in
    let done : List HeadedFile = c.loop-file.yielded in
    let cut : into_iter_items c.loop-file.file-iterator ≡ h ∷ rest = search rules in
    let back : BackSo c.args.pool.now c.loop-file.pool done (h ∷ rest) (g.S.Site.told c.args.site.now) (g.S.Site.told c.loop-file.site) =
    subst (λ (xs : List HeadedFile). BackSo c.args.pool.now c.loop-file.pool done xs (g.S.Site.told c.args.site.now) (g.S.Site.told c.loop-file.site)) cut c.loop-file.invariant.back in
    let all : c.args.files.items ≡ done ++ h ∷ rest = search (rules, cut, c.loop-file.invariant.items) in
    subst (λ (xs : List HeadedFile). EndsBack c.args.pool.now c.give_back.new.self xs c.from_residual.result (g.S.Site.told c.args.site.now) (g.S.Site.told c.give_back.new.site)) (sym all)
    (back_stopped c.args.pool.now c.loop-file.pool c.give_back.new.self done h rest c.in_err-give_back.field-0.0 c.from_residual.result _ _ _ c.from_residual.ensures.0 back c.in_err-give_back.ensures.told)
