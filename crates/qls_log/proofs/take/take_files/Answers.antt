use Rattle.std.proofs.Common.{◌≡◌, ◌+◌, inr, length, IfSome, Err, [], ◌∷◌, ◌++◌, Ok, subst, sym, rules, take, List, arith}
use Rattle.qls_filehdr.specs.Limits.{is_legal_header}
use Rattle.std.proofs.Common.{IsTrue}
use Rattle.std.specs.List.{AllByRecursion}
use Rattle.qls_site.specs.Content.{Tells}
use Rattle.qls_pool.specs.Files.{HeadedFile, IsPoolOf, IsWholePool, OnDisk}
use Rattle.qls_log.specs.declared.fault.LogError.{LogError}
use Rattle.qls_log.specs.declared.fault.LogError.TheVariants.{Memory}
use Rattle.qls_log.specs.Logs.{AreHeaded, FitsFile}
use Rattle.qls_log.specs.Taking.{TakesFiles, TakesFirst, DrawsEach, StopsAfter}
use Rattle.qls_pool.specs.declared.file.Linked.{Linked}
use Rattle.qls_pool.proofs.Moments.{told_arrives}
use Rattle.qls_log.specs.Steps.{IsLogStep, is_exact}
use Rattle.qls_log.specs.Keeping.{IsTakeStep}
use Rattle.qls_log.proofs.Going.{draws_on, draws_handed, told_handed, told_on, told_arrived, told_stops}
use Rattle.qls_pool.proofs.Serials.{drawn_any}
use Rattle.qls_pool.specs.Pools.{PoolState, IsSpent}
use Rattle.qls_log.specs.declared.opening.Opening.{Opening}
use Rattle.qls_log.proofs.Steps.{failed, ok_again}
use Rattle.qls_log.proofs.Chains.{take_next, all_get, told_push, draws_push, headed_push, all_push, counts_push, orderly_chain, orderly_stays, whole_then, takes_first}
use Rattle.qls_log.proofs.take.take_files.Goals as goal

pub returns-in_err-file-clause-orderly : goal.returns-in_err-file-clause-orderly
returns-in_err-file-clause-orderly g c =
    orderly_chain c.args.opening.now.home c.args.pool.now c.loop-at.pool c.loop-at.files.items c.from_residual-in_err-file.result _ _ _ c.loop-at.invariant.told c.loop-at.invariant.orderly c.loop-at.invariant.whole
    (failed HeadedFile (IsPoolOf c.loop-at.pool []) c.in_err-file.field-0.0 c.from_residual-in_err-file.result _ _ c.from_residual-in_err-file.ensures.0 c.in_err-file.ensures.orderly)

pub returns-in_err-push-clause-orderly : goal.returns-in_err-push-clause-orderly
returns-in_err-push-clause-orderly g c =
    orderly_chain c.args.opening.now.home c.args.pool.now c.loop-at.pool c.loop-at.files.items c.from_residual-in_err-push.result _ _ _ c.loop-at.invariant.told c.loop-at.invariant.orderly c.loop-at.invariant.whole
    (failed HeadedFile (IsPoolOf c.loop-at.pool []) Memory c.from_residual-in_err-push.result _ _ c.from_residual-in_err-push.ensures.0
    (orderly_stays LogError HeadedFile (IsPoolOf c.loop-at.pool []) c.in_ok-file.file Memory _ _ c.in_ok-file.ensures.orderly))

pub loop-at-preserved : goal.loop-at-preserved
loop-at-preserved g c =
    let pushed : c.push.new.self.items ≡ c.loop-at.files.items ++ c.in_ok-file.file ∷ [] = c.in_ok-push.ensures.items in
    record {
      count = search rules;
      number = search rules;
      last = search rules;
      headers =
          subst (λ (hs : List HeadedFile). AreHeaded c.args.opening.now c.args.newest (take (c.loop-at.at + 1) c.args.fresh.now) hs) (sym pushed)
          (headed_push c.args.opening.now c.args.newest c.loop-at.number c.loop-at.at (take c.loop-at.at c.args.fresh.now) c.loop-at.files.items c.fresh_at.result c.in_ok-file.file (take (c.loop-at.at + 1) c.args.fresh.now) c.loop-at.invariant.headers c.loop-at.invariant.count c.loop-at.invariant.number c.in_ok-file.ensures.file (take_next c.args.fresh.now c.loop-at.at c.fresh_at.result c.fresh_at.ensures.exact));
      legal = subst (λ (hs : List HeadedFile). AllByRecursion (λ h. IsTrue (is_legal_header h.header)) hs) (sym pushed) (all_push (λ h. IsTrue (is_legal_header h.header)) c.loop-at.files.items c.in_ok-file.file c.loop-at.invariant.legal c.in_ok-file.ensures.legal);
      told =
          subst (λ (hs : List HeadedFile). Tells (TakesFiles c.args.opening.now.home c.args.pool.now c.take_file.new.pool hs) (g.S.Site.told c.args.site.now) (g.S.Site.told c.take_file.new.site)) (sym pushed)
          (told_push c.args.opening.now.home c.args.pool.now c.loop-at.pool c.take_file.new.pool c.loop-at.files.items c.in_ok-file.file _ _ _ c.loop-at.invariant.told c.in_ok-file.ensures.told);
      drawn =
          subst (λ (hs : List HeadedFile). DrawsEach hs (g.N.Serials.drawn c.args.serials.now) (g.N.Serials.drawn c.take_file.new.serials)) (sym pushed)
          (draws_push c.loop-at.files.items c.in_ok-file.file _ _ _ c.loop-at.invariant.drawn c.in_ok-file.ensures.drawn);
      pool = c.in_ok-file.ensures.pool;
      whole =
          whole_then (IsWholePool c.args.pool.now) (IsWholePool c.loop-at.pool) (IsWholePool c.take_file.new.pool) (TakesFiles c.args.opening.now.home c.args.pool.now c.loop-at.pool c.loop-at.files.items) _ _ _
          c.loop-at.invariant.told c.loop-at.invariant.whole c.in_ok-file.ensures.whole;
      limit = λ h. c.take_file.ensures.limit;
      none = search rules;
      some = search rules;
      below = search rules;
      unspent = search rules;
      sites = search rules;
      draws = search rules;
      syncs =
          counts_push LogError LogError (TakesFiles c.args.opening.now.home c.args.pool.now c.loop-at.pool c.loop-at.files.items) (tt {0}) c.in_ok-file.file (tt {0}) _ _ c.loop-at.at _ _ _
          c.loop-at.invariant.told c.loop-at.invariant.syncs c.in_ok-file.ensures.syncs;
      reads = search rules;
      went = told_arrives (IsLogStep c.args.opening.now) _ _ _ c.loop-at.invariant.went c.in_ok-file.ensures.went;
      kept = told_arrives (IsTakeStep c.args.opening.now) _ _ _ c.loop-at.invariant.kept c.in_ok-file.ensures.kept;
      drew = draws_on (IsLogStep c.args.opening.now) {X = Linked} (Ok c.in_ok-file.file) _ _ _ _ _ _ c.loop-at.invariant.went c.in_ok-file.ensures.went c.loop-at.invariant.drew c.in_ok-file.ensures.drew;
      next = c.in_ok-file.ensures.next;
      same = λ e. absurd (omega (arith, e));
      orderly =
          orderly_chain {F = LogError} c.args.opening.now.home c.args.pool.now c.loop-at.pool c.loop-at.files.items (Ok (tt {0})) _ _ _ c.loop-at.invariant.told c.loop-at.invariant.orderly c.loop-at.invariant.whole
          (ok_again LogError LogError (IsPoolOf c.loop-at.pool []) c.in_ok-file.file (tt {0}) _ _ c.in_ok-file.ensures.orderly);
    }

pub take_file-requires-clause-fits : goal.take_file-requires-clause-fits
take_file-requires-clause-fits g c = all_get (FitsFile c.args.opening.now.home.kib) c.args.fresh.now c.loop-at.at c.fresh_at.result c.requires.fits c.fresh_at.ensures.exact

pub returns-in_err-file-clause-went : goal.returns-in_err-file-clause-went
returns-in_err-file-clause-went g c =
    let is : Err c.in_err-file.field-0.0 ≡ c.from_residual-in_err-file.result = search (rules, c.from_residual-in_err-file.ensures) in
    told_handed (IsLogStep c.args.opening.now) Linked c.in_err-file.field-0.0 c.from_residual-in_err-file.result _ _ is
    (told_on (IsLogStep c.args.opening.now) {X = Linked} (Err c.in_err-file.field-0.0) _ _ _ c.loop-at.invariant.went c.in_err-file.ensures.went)

pub returns-in_err-file-clause-drew : goal.returns-in_err-file-clause-drew
returns-in_err-file-clause-drew g c =
    let is : Err c.in_err-file.field-0.0 ≡ c.from_residual-in_err-file.result = search (rules, c.from_residual-in_err-file.ensures) in
    draws_handed Linked c.in_err-file.field-0.0 c.from_residual-in_err-file.result _ _ _ _ is
    (draws_on (IsLogStep c.args.opening.now) {X = Linked} (Err c.in_err-file.field-0.0) _ _ _ _ _ _ c.loop-at.invariant.went c.in_err-file.ensures.went c.loop-at.invariant.drew c.in_err-file.ensures.drew)

pub returns-in_err-file-clause-ends : goal.returns-in_err-file-clause-ends
returns-in_err-file-clause-ends g c = λ e.
    let o : Opening = c.args.opening.now in
    let spent : IsSpent o.home c.loop-at.pool = c.in_err-file.ensures.spent (search rules) in
    let site : c.take_file.new.site ≡ c.loop-at.site = c.in_err-file.ensures.spent_site (search rules) in
    let pool : c.take_file.new.pool ≡ c.loop-at.pool = c.in_err-file.ensures.spent_pool (search rules) in
    subst (λ (p : PoolState). IfSome (g.S.Site.told c.take_file.new.site) (OnDisk (StopsAfter o c.args.newest (length c.args.fresh.now) p))) (sym pool)
    (subst (λ x. IfSome (g.S.Site.told x) (OnDisk (StopsAfter o c.args.newest (length c.args.fresh.now) c.loop-at.pool))) (sym site)
    (told_stops o c.args.newest c.loop-at.number c.loop-at.at (length c.args.fresh.now) c.loop-at.pool _ c.loop-at.invariant.number c.loop-at-test.true c.loop-at.invariant.next (inr (inr spent))))

pub returns-in_err-file-clause-some : goal.returns-in_err-file-clause-some
returns-in_err-file-clause-some g c = λ e.
    let o : Opening = c.args.opening.now in
    let site : c.take_file.new.site ≡ c.loop-at.site = c.in_err-file.ensures.spent_site (search rules) in
    let pool : c.take_file.new.pool ≡ c.loop-at.pool = c.in_err-file.ensures.spent_pool (search rules) in
    subst (λ (p : PoolState). TakesFirst o c.args.newest c.args.fresh.now c.args.pool.now p (g.S.Site.told c.args.site.now) (g.S.Site.told c.take_file.new.site)) (sym pool)
    (subst (λ x. TakesFirst o c.args.newest c.args.fresh.now c.args.pool.now c.loop-at.pool (g.S.Site.told c.args.site.now) (g.S.Site.told x)) (sym site)
    (takes_first o c.args.newest c.args.fresh.now c.loop-at.at c.args.pool.now c.loop-at.pool c.loop-at.files.items _ _ c.loop-at.invariant.count c.loop-at.invariant.headers c.loop-at.invariant.legal c.loop-at.invariant.told))

pub returns-in_err-push-clause-went : goal.returns-in_err-push-clause-went
returns-in_err-push-clause-went g c =
    told_arrived (IsLogStep c.args.opening.now) c.from_residual-in_err-push.result _ _ (told_arrives (IsLogStep c.args.opening.now) _ _ _ c.loop-at.invariant.went c.in_ok-file.ensures.went)

pub returns-in_err-push-clause-drew : goal.returns-in_err-push-clause-drew
returns-in_err-push-clause-drew g c =
    drawn_any (is_exact c.from_residual-in_err-push.result) _ _ _ _
    (draws_on (IsLogStep c.args.opening.now) {X = Linked} (Ok c.in_ok-file.file) _ _ _ _ _ _ c.loop-at.invariant.went c.in_ok-file.ensures.went c.loop-at.invariant.drew c.in_ok-file.ensures.drew)

pub returns-in_err-file-clause-kept : goal.returns-in_err-file-clause-kept
returns-in_err-file-clause-kept g c =
    let is : Err c.in_err-file.field-0.0 ≡ c.from_residual-in_err-file.result = search (rules, c.from_residual-in_err-file.ensures) in
    told_handed (IsTakeStep c.args.opening.now) Linked c.in_err-file.field-0.0 c.from_residual-in_err-file.result _ _ is
    (told_on (IsTakeStep c.args.opening.now) {X = Linked} (Err c.in_err-file.field-0.0) _ _ _ c.loop-at.invariant.kept c.in_err-file.ensures.kept)

pub returns-in_err-push-clause-kept : goal.returns-in_err-push-clause-kept
returns-in_err-push-clause-kept g c =
    told_arrived (IsTakeStep c.args.opening.now) c.from_residual-in_err-push.result _ _ (told_arrives (IsTakeStep c.args.opening.now) _ _ _ c.loop-at.invariant.kept c.in_ok-file.ensures.kept)
