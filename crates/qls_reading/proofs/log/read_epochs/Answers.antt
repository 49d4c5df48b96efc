use Rattle.std.proofs.Common.{◌≡◌, ◌+◌, ◌-◌, ℕ, refl, ap, subst, ◌∙◌, take, drop, length, eqb, Result, Ok, Err, IfSome, arith, rules, length-take, length-drop}
use Rattle.qls_site.specs.Content.{OnlyLooks}
use Rattle.qls_site.proofs.Told.{Tells-then, OnlyLooks-then}
use Rattle.qls_meaning.specs.Journals.{epochs}
use Rattle.qls_scan.proofs.HeadSteps.{looked_back}
use Rattle.qls_reading.specs.declared.fault.LogFault.{LogFault}
use Rattle.qls_reading.specs.Groups.{first_run}
use Rattle.qls_reading.specs.Left.{files_on, ReadsEpoch, ReadsEpochs}
use Rattle.qls_reading.proofs.Told.{still_on}
use Rattle.qls_reading.proofs.Newest.{past_last}
use Rattle.qls_reading.proofs.Runs.{rest_whole, counted_between, on_between, told_one, told_one_broken}
use Rattle.qls_reading.proofs.log.read_epochs.Goals as goal

pub read_epoch-requires-clause-counted : goal.read_epoch-requires-clause-counted
read_epoch-requires-clause-counted g c = counted_between _ c.loop-from.from c.args.files.now c.requires.counted

pub read_epoch-requires-clause-there : goal.read_epoch-requires-clause-there
read_epoch-requires-clause-there g c =
    on_between (g.S.Site.told c.loop-from.site) _ c.loop-from.from c.args.files.now
    (still_on (g.S.Site.told c.args.site.now) (g.S.Site.told c.loop-from.site) c.args.files.now c.loop-from.invariant.told c.requires.there)

pub returns-in_err-past-clause-told : goal.returns-in_err-past-clause-told
returns-in_err-past-clause-told g c = Tells-then OnlyLooks OnlyLooks OnlyLooks _ _ _ c.loop-from.invariant.told c.read_epoch.ensures.told OnlyLooks-then

pub returns-in_err-past-clause-says : goal.returns-in_err-past-clause-says
returns-in_err-past-clause-says g c =
    let told = g.S.Site.told c.args.site.now in
    let hs = c.args.files.now in
    let from = c.loop-from.from in
    let to = from + c.run_length.result in
    let fault = c.in_err-past.field-0.0 in
    let answer : Result ℕ LogFault = Err fault in
    let is : answer ≡ c.from_residual.result = search (rules, c.from_residual.ensures) in
    let read = looked_back (λ d. ReadsEpoch (eqb from 0) (eqb to (length hs)) (files_on d (take (to - from) (drop from hs))) c.loop-from.tally c.read_epoch.new.tally (Err fault)) told (g.S.Site.told c.loop-from.site)
    c.loop-from.invariant.told c.in_err-past.ensures.says in
    subst (λ r. IfSome told (λ k. ReadsEpochs _ (epochs (files_on k.now.disk hs)) c.args.tally.now c.read_epoch.new.tally r)) is
    (told_one_broken hs c.args.tally.now from to c.loop-from.tally c.loop-from.past c.loop-from-test.true (ap (λ n. from + n) (c.run_length.ensures.exact ∙ ap (λ gs. length (first_run gs)) (rest_whole from hs))) (eqb to (length hs)) refl told c.read_epoch.new.tally c.read_epoch.new.tally
    fault c.loop-from.invariant.rest read)

pub loop-from-preserved : goal.loop-from-preserved
loop-from-preserved g c =
    let told = g.S.Site.told c.args.site.now in
    let hs = c.args.files.now in
    let from = c.loop-from.from in
    let to = from + c.run_length.result in
    let so = c.loop-from.invariant in
    let read = looked_back (λ d. ReadsEpoch (eqb from 0) (eqb to (length hs)) (files_on d (take (to - from) (drop from hs))) c.loop-from.tally c.read_epoch.new.tally (Ok c.in_ok-past.past)) told (g.S.Site.told c.loop-from.site)
    so.told c.in_ok-past.ensures.says in
    record {
      rest = told_one hs c.args.tally.now from to c.loop-from.tally c.loop-from.past c.loop-from-test.true (ap (λ n. from + n) (c.run_length.ensures.exact ∙ ap (λ gs. length (first_run gs)) (rest_whole from hs))) (eqb to (length hs)) refl told c.read_epoch.new.tally c.in_ok-past.past so.rest read;
      within = omega (arith, c.run_length.ensures.within, length-take (length hs - from) (drop from hs), length-drop from hs, c.loop-from-test.true);
      past = λ end. past_last hs from to c.in_ok-past.past (ap (λ n. from + n) (c.run_length.ensures.exact ∙ ap (λ gs. length (first_run gs)) (rest_whole from hs))) end c.in_ok-past.ensures.within;
      given = λ rid h. c.in_ok-past.ensures.given rid (so.given rid h);
      told = Tells-then OnlyLooks OnlyLooks OnlyLooks _ _ _ so.told c.read_epoch.ensures.told OnlyLooks-then;
      kept = omega (arith, so.kept, c.read_epoch.ensures.cause.kept);
      syncs = c.read_epoch.ensures.syncs ∙ so.syncs;
    }
