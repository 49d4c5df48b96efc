use Rattle.std.proofs.Common.{rules, ◌≡◌, ◌+◌, ◌-◌, suc, List, [], ◌∷◌, ◌++◌, length, Err, refl, sym, ap, ◌∙◌, subst, arith}
use Rattle.qls_site.specs.Content.{Tells}
use Rattle.qls_pool.specs.Files.{HeadedFile}
use Rattle.qls_pool.specs.Moments.{EndsIn}
use Rattle.qls_log.specs.Returning.{GivesBack}
use Rattle.qls_log.specs.Steps.{PassesOwn}
use Rattle.qls_log.specs.Trimming.{newest_first, Trims}
use Rattle.qls_log.proofs.Trims.{TrimSo, trim_begun, trim_linked, trim_pool, trim_next, trim_fails, kept_less, none_cut}
use Rattle.qls_log.proofs.trim.give_back_newest.Goals as goal

pub loop-at-init : goal.loop-at-init
loop-at-init g c = record {
  count = search rules;
  kept = none_cut c.args.files.now.items;
  so = trim_begun c.args.pool.now c.args.many c.args.files.now.items _;
  greatest = refl;
  faults = search rules;
  syncs = refl;
  reads = refl;
}

pub give_back-requires-clause-there : goal.give_back-requires-clause-there
give_back-requires-clause-there g c =
    let kept : List HeadedFile = c.pop.new.self.items in
    let h : HeadedFile = c.in-Some.file in
    let k = c.args.many - (c.loop-at.at + 1) in
    let one : c.args.many - c.loop-at.at ≡ suc k = omega (arith, c.loop-at-test.true) in
    let items : c.loop-at.files.items ≡ kept ++ h ∷ [] = c.in-Some.ensures.items in
    let so : TrimSo c.args.pool.now c.loop-at.pool c.args.many c.args.files.now.items (suc k) (kept ++ h ∷ []) (g.S.Site.told c.args.site.now) (g.S.Site.told c.loop-at.site) =
    subst (λ (xs : List HeadedFile). TrimSo c.args.pool.now c.loop-at.pool c.args.many c.args.files.now.items (suc k) xs (g.S.Site.told c.args.site.now) (g.S.Site.told c.loop-at.site)) items
    (subst (λ n. TrimSo c.args.pool.now c.loop-at.pool c.args.many c.args.files.now.items n c.loop-at.files.items (g.S.Site.told c.args.site.now) (g.S.Site.told c.loop-at.site)) one c.loop-at.invariant.so) in
    trim_linked c.args.pool.now c.loop-at.pool c.loop-at.pool c.args.many c.args.files.now.items k kept h _ _ so c.requires.may.0 c.requires.may.1 c.requires.may.2 c.requires.may.3

pub give_back-requires-clause-pool : goal.give_back-requires-clause-pool
give_back-requires-clause-pool g c =
    let kept : List HeadedFile = c.pop.new.self.items in
    let h : HeadedFile = c.in-Some.file in
    let k = c.args.many - (c.loop-at.at + 1) in
    let one : c.args.many - c.loop-at.at ≡ suc k = omega (arith, c.loop-at-test.true) in
    let items : c.loop-at.files.items ≡ kept ++ h ∷ [] = c.in-Some.ensures.items in
    let so : TrimSo c.args.pool.now c.loop-at.pool c.args.many c.args.files.now.items (suc k) (kept ++ h ∷ []) (g.S.Site.told c.args.site.now) (g.S.Site.told c.loop-at.site) =
    subst (λ (xs : List HeadedFile). TrimSo c.args.pool.now c.loop-at.pool c.args.many c.args.files.now.items (suc k) xs (g.S.Site.told c.args.site.now) (g.S.Site.told c.loop-at.site)) items
    (subst (λ n. TrimSo c.args.pool.now c.loop-at.pool c.args.many c.args.files.now.items n c.loop-at.files.items (g.S.Site.told c.args.site.now) (g.S.Site.told c.loop-at.site)) one c.loop-at.invariant.so) in
    trim_pool c.args.pool.now c.loop-at.pool c.loop-at.pool c.args.many c.args.files.now.items k kept h _ _ so c.requires.may.0 c.requires.may.1 c.requires.may.2 c.requires.may.3

pub returns-in_err-give_back-clause-told : goal.returns-in_err-give_back-clause-told
returns-in_err-give_back-clause-told g c =
    let kept : List HeadedFile = c.pop.new.self.items in
    let h : HeadedFile = c.in-Some.file in
    let k = c.args.many - (c.loop-at.at + 1) in
    let one : c.args.many - c.loop-at.at ≡ suc k = omega (arith, c.loop-at-test.true) in
    let items : c.loop-at.files.items ≡ kept ++ h ∷ [] = c.in-Some.ensures.items in
    let so : TrimSo c.args.pool.now c.loop-at.pool c.args.many c.args.files.now.items (suc k) (kept ++ h ∷ []) (g.S.Site.told c.args.site.now) (g.S.Site.told c.loop-at.site) =
    subst (λ (xs : List HeadedFile). TrimSo c.args.pool.now c.loop-at.pool c.args.many c.args.files.now.items (suc k) xs (g.S.Site.told c.args.site.now) (g.S.Site.told c.loop-at.site)) items
    (subst (λ n. TrimSo c.args.pool.now c.loop-at.pool c.args.many c.args.files.now.items n c.loop-at.files.items (g.S.Site.told c.args.site.now) (g.S.Site.told c.loop-at.site)) one c.loop-at.invariant.so) in
    let is : Err c.in_err-give_back.field-0.0 ≡ c.from_residual.result = search (rules, c.from_residual.ensures) in
    subst (λ r. Tells (GivesBack (newest_first c.args.many c.args.files.now.items) r) (g.S.Site.told c.args.site.now) (g.S.Site.told c.give_back.new.site)) is
    (trim_fails c.args.pool.now c.loop-at.pool c.loop-at.pool c.args.many c.args.files.now.items k kept h c.in_err-give_back.field-0.0 _ _ _ so c.in_err-give_back.ensures.told c.requires.may.0 c.requires.may.1 c.requires.may.2 c.requires.may.3).1

pub returns-in_err-give_back-clause-trims : goal.returns-in_err-give_back-clause-trims
returns-in_err-give_back-clause-trims g c = λ o rid row may.
    let kept : List HeadedFile = c.pop.new.self.items in
    let h : HeadedFile = c.in-Some.file in
    let k = c.args.many - (c.loop-at.at + 1) in
    let one : c.args.many - c.loop-at.at ≡ suc k = omega (arith, c.loop-at-test.true) in
    let items : c.loop-at.files.items ≡ kept ++ h ∷ [] = c.in-Some.ensures.items in
    let so : TrimSo c.args.pool.now c.loop-at.pool c.args.many c.args.files.now.items (suc k) (kept ++ h ∷ []) (g.S.Site.told c.args.site.now) (g.S.Site.told c.loop-at.site) =
    subst (λ (xs : List HeadedFile). TrimSo c.args.pool.now c.loop-at.pool c.args.many c.args.files.now.items (suc k) xs (g.S.Site.told c.args.site.now) (g.S.Site.told c.loop-at.site)) items
    (subst (λ n. TrimSo c.args.pool.now c.loop-at.pool c.args.many c.args.files.now.items n c.loop-at.files.items (g.S.Site.told c.args.site.now) (g.S.Site.told c.loop-at.site)) one c.loop-at.invariant.so) in
    let is : Err c.in_err-give_back.field-0.0 ≡ c.from_residual.result = search (rules, c.from_residual.ensures) in
    subst (λ r. Tells (EndsIn (λ _. Trims o c.give_back.new.self kept 0 rid (newest_first c.args.many c.args.files.now.items)) (PassesOwn o) r) (g.S.Site.told c.args.site.now) (g.S.Site.told c.give_back.new.site)) is
    (trim_fails c.args.pool.now c.loop-at.pool c.loop-at.pool c.args.many c.args.files.now.items k kept h c.in_err-give_back.field-0.0 _ _ _ so c.in_err-give_back.ensures.told o rid row may).0

pub returns-in_err-give_back-clause-leaves : goal.returns-in_err-give_back-clause-leaves
returns-in_err-give_back-clause-leaves g c =
    let kept : List HeadedFile = c.pop.new.self.items in
    let h : HeadedFile = c.in-Some.file in
    let k = c.args.many - (c.loop-at.at + 1) in
    let one : c.args.many - c.loop-at.at ≡ suc k = omega (arith, c.loop-at-test.true) in
    let items : c.loop-at.files.items ≡ kept ++ h ∷ [] = c.in-Some.ensures.items in
    let so : TrimSo c.args.pool.now c.loop-at.pool c.args.many c.args.files.now.items (suc k) (kept ++ h ∷ []) (g.S.Site.told c.args.site.now) (g.S.Site.told c.loop-at.site) =
    subst (λ (xs : List HeadedFile). TrimSo c.args.pool.now c.loop-at.pool c.args.many c.args.files.now.items (suc k) xs (g.S.Site.told c.args.site.now) (g.S.Site.told c.loop-at.site)) items
    (subst (λ n. TrimSo c.args.pool.now c.loop-at.pool c.args.many c.args.files.now.items n c.loop-at.files.items (g.S.Site.told c.args.site.now) (g.S.Site.told c.loop-at.site)) one c.loop-at.invariant.so) in
    (trim_fails c.args.pool.now c.loop-at.pool c.loop-at.pool c.args.many c.args.files.now.items k kept h c.in_err-give_back.field-0.0 _ _ _ so c.in_err-give_back.ensures.told c.requires.may.0 c.requires.may.1 c.requires.may.2 c.requires.may.3).2

pub loop-at-preserved : goal.loop-at-preserved
loop-at-preserved g c =
    let kept : List HeadedFile = c.pop.new.self.items in
    let h : HeadedFile = c.in-Some.file in
    let k = c.args.many - (c.loop-at.at + 1) in
    let one : c.args.many - c.loop-at.at ≡ suc k = omega (arith, c.loop-at-test.true) in
    let items : c.loop-at.files.items ≡ kept ++ h ∷ [] = c.in-Some.ensures.items in
    let so : TrimSo c.args.pool.now c.loop-at.pool c.args.many c.args.files.now.items (suc k) (kept ++ h ∷ []) (g.S.Site.told c.args.site.now) (g.S.Site.told c.loop-at.site) =
    subst (λ (xs : List HeadedFile). TrimSo c.args.pool.now c.loop-at.pool c.args.many c.args.files.now.items (suc k) xs (g.S.Site.told c.args.site.now) (g.S.Site.told c.loop-at.site)) items
    (subst (λ n. TrimSo c.args.pool.now c.loop-at.pool c.args.many c.args.files.now.items n c.loop-at.files.items (g.S.Site.told c.args.site.now) (g.S.Site.told c.loop-at.site)) one c.loop-at.invariant.so) in
    record {
      count = search (rules, ap length items);
      kept = kept_less c.loop-at.at (length c.args.files.now.items) c.args.files.now.items kept h (sym items ∙ c.loop-at.invariant.kept) (ap (λ (xs : List HeadedFile). length xs + c.loop-at.at) (sym items) ∙ c.loop-at.invariant.count);
      so = trim_next c.args.pool.now c.loop-at.pool c.give_back.new.self c.args.many c.args.files.now.items k kept h _ _ _ so c.in_ok-give_back.ensures.told c.in_ok-give_back.ensures.pool;
      greatest = search rules;
      faults = search rules;
      syncs = search rules;
      reads = search rules;
    }
