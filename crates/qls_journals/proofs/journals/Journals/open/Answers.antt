use Rattle.std.proofs.Common.{rules, ◌≡◌, List, [], ◌∷◌, Result, Err, sym, subst, arith}
use Rattle.std.specs.Vec.Iter.{into_iter_items}
use Rattle.qls_site.specs.Content.{Tells}
use Rattle.qls_pool.specs.Moments.{EndsIn, Passes}
use Rattle.qls_journals.specs.declared.cause.Cause.{Cause}
use Rattle.qls_journals.specs.State.{JournalsState}
use Rattle.qls_journals.specs.Moments.{IsStoreStep}
use Rattle.qls_journals.specs.Opening.{ReadingState, Opens, OpensWritten}
use Rattle.qls_journals.proofs.ReadingAll.{none_left}
use Rattle.qls_journals.proofs.OpenedAll.{SoFar, Answered, none_so_far, one_so_far, is_next, is_opened, opened_journals, opened_numbered, opened_readings, told_begins, told_stands, told_pool, told_next, told_stopped, stopped_passes, stopped_none, stopped_leaves, stopped_writes, all_opens, all_writes, all_still}
use Rattle.qls_journals.proofs.OpenedSteps.{UnderWay, Stopped}
use Rattle.qls_journals.proofs.journals.Journals.open.Given.{Over}
use Rattle.qls_journals.proofs.journals.Journals.open.Goals as goal

pub loop-reading-init : goal.loop-reading-init
loop-reading-init g c =
    let all : List ReadingState = c.args.readings.items in
    let rest : List ReadingState = into_iter_items c.into_iter-reading-iterator.result in
    let items : rest ≡ all = search rules in
    record {
      len = search rules;
      so_far = none_so_far c.args.home all rest c.new-queues.result.items c.new-list.result items c.new-queues.ensures.items c.new-list.ensures.list c.new-list.ensures.sound c.requires.rise;
      limit = c.requires.limit;
      told = told_begins c.args.home all rest c.args.pool c.new-queues.result.items c.new-list.result (g.S.Site.told c.args.site.now) items c.new-queues.ensures.items c.new-list.ensures.list c.requires.fit c.requires.may;
      kept = search rules;
    }

pub open_one-requires-clause-stands : goal.open_one-requires-clause-stands
open_one-requires-clause-stands g c =
    let r : ReadingState = c.in-Some.reading in
    let rest : List ReadingState = into_iter_items c.next.new.self in
    let cut : into_iter_items c.loop-reading.reading-iterator ≡ r ∷ rest = search rules in
    let so = c.loop-reading.invariant in
    let told = g.S.Site.told c.args.site.now in
    let mid = g.S.Site.told c.loop-reading.site in
    told_stands c.args.home c.args.readings.items rest r c.loop-reading.pool c.loop-reading.queues.items c.loop-reading.list told mid
    (subst (λ (rs : List ReadingState). Tells (UnderWay c.args.home c.args.readings.items rs c.loop-reading.pool c.loop-reading.queues.items c.loop-reading.list) told mid) cut so.told)

pub open_one-requires-clause-pool : goal.open_one-requires-clause-pool
open_one-requires-clause-pool g c =
    told_pool c.args.home c.args.readings.items (into_iter_items c.loop-reading.reading-iterator) c.loop-reading.pool c.loop-reading.queues.items c.loop-reading.list (g.S.Site.told c.args.site.now) (g.S.Site.told c.loop-reading.site)
    c.loop-reading.invariant.told

pub loop-reading-preserved : goal.loop-reading-preserved
loop-reading-preserved g c =
    let all : List ReadingState = c.args.readings.items in
    let r : ReadingState = c.in-Some.reading in
    let rest : List ReadingState = into_iter_items c.next.new.self in
    let cut : into_iter_items c.loop-reading.reading-iterator ≡ r ∷ rest = search rules in
    let old = c.loop-reading in
    let new = c.open_one.new in
    let is = c.in_ok-open_one.ensures in
    let told = g.S.Site.told c.args.site.now in
    let mid = g.S.Site.told old.site in
    let so : SoFar c.args.home all (r ∷ rest) old.queues.items old.list = subst (λ (rs : List ReadingState). SoFar c.args.home all rs old.queues.items old.list) cut old.invariant.so_far in
    let answer : Answered c.args.home r old.queues.items new.queues.items old.list new.list = record { queues = is.queues; list = is.list; well = is.well; legal = is.legal; reading = is.reading } in
    record {
      len = search rules;
      so_far = one_so_far c.args.home all r rest old.queues.items new.queues.items old.list new.list so answer;
      limit = is.limit old.invariant.limit;
      told =
          told_next c.args.home all r rest old.queues.items new.queues.items old.list new.list (is_next c.args.home all r rest old.queues.items new.queues.items old.list new.list so answer) old.pool new.pool told mid (g.S.Site.told new.site)
          (subst (λ (rs : List ReadingState). Tells (UnderWay c.args.home all rs old.pool old.queues.items old.list) told mid) cut old.invariant.told) is.told;
      kept = omega (arith, old.invariant.kept, is.causes.kept);
    }

-- ---- a journal wasn't opened

stopped_so : (g : Over) (c : goal.After-drop-pool-inside g) → Tells Stopped (g.S.Site.told c.args.site.now) (g.S.Site.told c.open_one.new.site)
stopped_so g c =
    told_stopped c.args.home c.args.readings.items (into_iter_items c.loop-reading.reading-iterator) c.in-Some.reading c.loop-reading.pool c.loop-reading.queues.items c.loop-reading.list (g.S.Site.told c.args.site.now)
    (g.S.Site.told c.loop-reading.site) (g.S.Site.told c.open_one.new.site) c.loop-reading.invariant.told c.in_err-open_one.ensures.told

pub returns-in_err-open_one-clause-told : goal.returns-in_err-open_one-clause-told
returns-in_err-open_one-clause-told g c =
    let fault : Cause = c.in_err-open_one.field-0.0 in
    let is : c.from_residual.result ≡ Err fault = search (rules, c.from_residual.ensures) in
    subst (λ (r : Result JournalsState Cause). Tells (EndsIn Opens (Passes IsStoreStep) r) (g.S.Site.told c.args.site.now) (g.S.Site.told c.open_one.new.site)) (sym is) (stopped_passes _ _ (stopped_so g c))

pub returns-in_err-open_one-clause-none : goal.returns-in_err-open_one-clause-none
returns-in_err-open_one-clause-none g c = stopped_none _ _ (stopped_so g c)

pub returns-in_err-open_one-clause-leaves : goal.returns-in_err-open_one-clause-leaves
returns-in_err-open_one-clause-leaves g c = stopped_leaves _ _ (stopped_so g c)

pub returns-in_err-open_one-clause-writes : goal.returns-in_err-open_one-clause-writes
returns-in_err-open_one-clause-writes g c =
    let fault : Cause = c.in_err-open_one.field-0.0 in
    let is : c.from_residual.result ≡ Err fault = search (rules, c.from_residual.ensures) in
    subst (λ (r : Result JournalsState Cause). Tells (OpensWritten r (λ x. x)) (g.S.Site.told c.args.site.now) (g.S.Site.told c.open_one.new.site)) (sym is) (stopped_writes _ _ (stopped_so g c) fault)

-- ---- all are open

module _ (g : Over) (c : goal.After-drop-reading-iterator-2 g) where
  abbrev rest : List ReadingState
  rest = into_iter_items c.loop-reading.reading-iterator

  abbrev done : rest ≡ []
  done = none_left _ _ c.loop-reading.invariant.len c.in-None.ensures.steps.0

  abbrev all_so : SoFar c.args.home c.args.readings.items rest c.loop-reading.queues.items c.loop-reading.list
  all_so = c.loop-reading.invariant.so_far

pub invariant_of-result : goal.invariant_of-result
invariant_of-result g c =
    let old = c.loop-reading in
    opened_journals c.args.home c.args.readings.items (rest g c) old.pool old.queues.items old.list (all_so g c) (done g c) c.requires.home c.requires.rise

pub returns-clause-kept : goal.returns-clause-kept
returns-clause-kept g c =
    let old = c.loop-reading in
    opened_journals c.args.home c.args.readings.items (rest g c) old.pool old.queues.items old.list (all_so g c) (done g c) c.requires.home c.requires.rise

pub returns-clause-numbered : goal.returns-clause-numbered
returns-clause-numbered g c =
    let old = c.loop-reading in
    opened_numbered c.args.home c.args.readings.items (rest g c) old.pool old.queues.items old.list (all_so g c) (done g c)

pub returns-clause-told : goal.returns-clause-told
returns-clause-told g c =
    let all : List ReadingState = c.args.readings.items in
    let old = c.loop-reading in
    let s : JournalsState = record { home = c.args.home; pool = old.pool; queues = old.queues.items; list = old.list } in
    all_opens c.args.home all s (is_opened c.args.home all (rest g c) old.pool old.queues.items old.list (all_so g c) (done g c)) (rest g c) (done g c) c.args.pool (g.S.Site.told c.args.site.now) (g.S.Site.told old.site) c.requires.may
    old.invariant.told (opened_readings c.args.home all (rest g c) old.pool old.queues.items old.list (all_so g c) (done g c)) old.invariant.limit

pub returns-clause-writes : goal.returns-clause-writes
returns-clause-writes g c =
    let all : List ReadingState = c.args.readings.items in
    let old = c.loop-reading in
    let s : JournalsState = record { home = c.args.home; pool = old.pool; queues = old.queues.items; list = old.list } in
    all_writes c.args.home all s (is_opened c.args.home all (rest g c) old.pool old.queues.items old.list (all_so g c) (done g c)) (rest g c) (done g c) c.args.pool (g.S.Site.told c.args.site.now) (g.S.Site.told old.site) c.requires.may
    old.invariant.told

pub returns-clause-still : goal.returns-clause-still
returns-clause-still g c =
    let all : List ReadingState = c.args.readings.items in
    let old = c.loop-reading in
    let s : JournalsState = record { home = c.args.home; pool = old.pool; queues = old.queues.items; list = old.list } in
    all_still c.args.home all s (is_opened c.args.home all (rest g c) old.pool old.queues.items old.list (all_so g c) (done g c)) (rest g c) (done g c) c.args.pool (g.S.Site.told c.args.site.now) (g.S.Site.told old.site) c.requires.may
    old.invariant.told
