use Rattle.std.proofs.Common.{◌≡◌, ◌-◌, refl, ap, sym, subst, ◌∙◌, Result, Ok, Err, IfSome, drop, rules, arith}
use Rattle.qls_reading.specs.Tested.{come_on}
use Rattle.qls_reading.proofs.Given.{tallied_more}
use Rattle.qls_reading.proofs.Begins.{told_begins, begun_within, begun_some}
use Rattle.qls_reading.specs.declared.rules.Course.{Course}
use Rattle.qls_reading.specs.declared.fault.LogFault.{LogFault}
use Rattle.qls_reading.specs.declared.fault.LogFault.TheVariants.{Damaged}
use Rattle.qls_reading.specs.Left.{files_on, ReadsOn}
use Rattle.qls_reading.proofs.Told.{looks_none, none_ahead, looks_on, ends_at, steps_on, still_there, reads_back, told_takes, told_refuses, told_ends, told_refuses_end, told_full, told_refuses_full}
use Rattle.qls_reading.proofs.epoch.read_on.Goals as goal

pub loop-init : goal.loop-init
loop-init g c = record {
  way = told_begins (g.S.Site.told c.args.site.now) c.args.files.now c.args.from c.args.tally.now (c.units-end.result - 0) c.args.reader.now.place c.requires.counted c.requires.legal c.requires.begun c.requires.there
      (ap (λ r. r.place) c.requires.reader) (omega (arith, c.units-end.ensures.exact));
  files = ap (λ r. r.files) c.requires.reader;
  going = ap (λ r. r.ended) c.requires.reader;
  ahead = none_ahead (g.S.Site.told c.args.site.now) c.args.reader.now (ap (λ r. r.held) c.requires.reader);
  within = begun_within c.args.files.now c.args.from c.requires.begun;
  some = begun_some c.args.files.now c.args.from c.requires.begun;
  given = λ rid h. h;
  told = looks_none (g.S.Site.told c.args.site.now);
  kept = omega arith;
  syncs = refl;
}

pub next-requires : goal.next-requires
next-requires g c = record {
  there = still_there (g.S.Site.told c.args.site.now) (g.S.Site.told c.loop.site) c.args.files.now c.loop.reader.files c.loop.invariant.told c.requires.there c.loop.invariant.files;
  ahead = c.loop.invariant.ahead;
}

pub returns-in_err-file-clause-told : goal.returns-in_err-file-clause-told
returns-in_err-file-clause-told g c =
    looks_on (g.S.Site.told c.args.site.now) (g.S.Site.told c.loop.site) (g.S.Site.told c.next.new.site) c.loop.invariant.told c.next.ensures.told

pub returns-in_err-end-in-End-clause-says : goal.returns-in_err-end-in-End-clause-says
returns-in_err-end-in-End-clause-says g c =
    let told = g.S.Site.told c.args.site.now in
    let so = c.loop.invariant in
    let fault = c.in_err-end-in-End.field-0.0 in
    let answer : Result Course LogFault = Err (Damaged fault.0 fault.1) in
    let is : answer ≡ c.from_residual-in_err-end-in-End.result = search (rules, c.from_residual-in_err-end-in-End.ensures) in
    let reads = reads_back c.args.files.now c.args.from c.args.tally.now c.requires.counted c.loop.tally c.loop.course c.loop.reader so.files told (g.S.Site.told c.loop.site) c.next.new.self _ _ so.told
    (ap Ok c.in-End.is) (c.in_ok-file.ensures.read so.going) in
    subst (λ r. IfSome told (λ k. ReadsOn (files_on k.now.disk c.args.files.now) c.args.from c.args.tally.now c.loop.tally r)) is
    (told_refuses_end c.args.files.now c.args.from c.args.tally.now c.requires.counted c.loop.tally c.loop.course c.loop.reader so.files c.next.new.self c.in-End.file c.in-End.at
    (ends_at c.loop.reader c.next.new.self c.in_ok-file.field-0 c.in-End.file c.in-End.at c.in-End.is c.in_ok-file.ensures.steps) told _ fault c.requires.there so.way reads
    (sym c.in_err-end-in-End.ensures.exact) c.loop.tally)

pub returns-in_err-end-in-End-clause-told : goal.returns-in_err-end-in-End-clause-told
returns-in_err-end-in-End-clause-told g c =
    looks_on (g.S.Site.told c.args.site.now) (g.S.Site.told c.loop.site) (g.S.Site.told c.next.new.site) c.loop.invariant.told c.next.ensures.told

pub returns-in-End-clause-says : goal.returns-in-End-clause-says
returns-in-End-clause-says g c =
    let told = g.S.Site.told c.args.site.now in
    let so = c.loop.invariant in
    let reads = reads_back c.args.files.now c.args.from c.args.tally.now c.requires.counted c.loop.tally c.loop.course c.loop.reader so.files told (g.S.Site.told c.loop.site) c.next.new.self _ _ so.told
    (ap Ok c.in-End.is) (c.in_ok-file.ensures.read so.going) in
    told_ends c.args.files.now c.args.from c.args.tally.now c.requires.counted c.loop.tally c.loop.course c.loop.reader so.files c.next.new.self c.in-End.file c.in-End.at
    (ends_at c.loop.reader c.next.new.self c.in_ok-file.field-0 c.in-End.file c.in-End.at c.in-End.is c.in_ok-file.ensures.steps) told _ c.in_ok-end-in-End.end c.requires.there so.way reads
    (sym c.in_ok-end-in-End.ensures.exact)

pub returns-in-End-clause-told : goal.returns-in-End-clause-told
returns-in-End-clause-told g c =
    looks_on (g.S.Site.told c.args.site.now) (g.S.Site.told c.loop.site) (g.S.Site.told c.next.new.site) c.loop.invariant.told c.next.ensures.told

pub returns-in_err-course-in-Got-clause-says : goal.returns-in_err-course-in-Got-clause-says
returns-in_err-course-in-Got-clause-says g c =
    let told = g.S.Site.told c.args.site.now in
    let so = c.loop.invariant in
    let answer : Result Course LogFault = Err c.in_err-course-in-Got.field-0.0 in
    let is : answer ≡ c.from_residual-in_err-course-in-Got.result = search (rules, c.from_residual-in_err-course-in-Got.ensures) in
    let reads = reads_back c.args.files.now c.args.from c.args.tally.now c.requires.counted c.loop.tally c.loop.course c.loop.reader so.files told (g.S.Site.told c.loop.site) c.next.new.self _ _ so.told
    (ap Ok c.in-Got.is) (c.in_ok-file.ensures.read so.going) in
    subst (λ r. IfSome told (λ k. ReadsOn (files_on k.now.disk c.args.files.now) c.args.from c.args.tally.now c.take.new.tally r)) is
    (told_refuses c.args.files.now c.args.from c.args.tally.now c.requires.counted c.loop.tally c.loop.course c.loop.reader so.files c.next.new.self c.in-Got.got told c.loop.counter c.units-end.result c.take.new.tally c.in_err-course-in-Got.field-0.0
    c.requires.there c.loop-test.true so.way reads c.in_err-course-in-Got.ensures.takes c.take.new.tally)

pub returns-in_err-course-in-Got-clause-told : goal.returns-in_err-course-in-Got-clause-told
returns-in_err-course-in-Got-clause-told g c =
    looks_on (g.S.Site.told c.args.site.now) (g.S.Site.told c.loop.site) (g.S.Site.told c.next.new.site) c.loop.invariant.told c.next.ensures.told

pub loop-preserved : goal.loop-preserved
loop-preserved g c =
    let told = g.S.Site.told c.args.site.now in
    let so = c.loop.invariant in
    let reads = reads_back c.args.files.now c.args.from c.args.tally.now c.requires.counted c.loop.tally c.loop.course c.loop.reader so.files told (g.S.Site.told c.loop.site) c.next.new.self _ _ so.told
    (ap Ok c.in-Got.is) (c.in_ok-file.ensures.read so.going) in
    let steps = steps_on c.loop.reader c.next.new.self c.in_ok-file.field-0 c.in-Got.got c.in-Got.is c.in_ok-file.ensures.steps in
    record {
      way = told_takes c.args.files.now c.args.from c.args.tally.now c.requires.counted c.loop.tally c.loop.course c.loop.reader so.files c.next.new.self c.in-Got.got told c.loop.counter c.units-end.result c.take.new.tally
          c.in_ok-course-in-Got.course c.requires.there c.loop-test.true so.way reads c.in_ok-course-in-Got.ensures.takes;
      files = steps.1 ∙ so.files;
      going = steps.0;
      ahead = c.next.ensures.ahead;
      within = c.in_ok-course-in-Got.ensures.within;
      some = omega (arith, so.some, c.in_ok-course-in-Got.ensures.onward);
      given = λ rid h. tallied_more rid c.args.files.now c.loop.course c.in_ok-course-in-Got.course c.loop.tally c.take.new.tally c.in-Got.got (so.given rid h) c.in_ok-course-in-Got.ensures.takes;
      told = looks_on told (g.S.Site.told c.loop.site) (g.S.Site.told c.next.new.site) so.told c.next.ensures.told;
      kept = omega (arith, so.kept, c.next.ensures.cause.kept);
      syncs = c.next.ensures.syncs ∙ so.syncs;
    }

pub returns-in_err-end-clause-says : goal.returns-in_err-end-clause-says
returns-in_err-end-clause-says g c =
    let told = g.S.Site.told c.args.site.now in
    let so = c.loop.invariant in
    let fault = c.in_err-end.field-0.0 in
    let answer : Result Course LogFault = Err (Damaged fault.0 fault.1) in
    let is : answer ≡ c.from_residual-in_err-end.result = search (rules, c.from_residual-in_err-end.ensures) in
    subst (λ r. IfSome told (λ k. ReadsOn (files_on k.now.disk c.args.files.now) c.args.from c.args.tally.now c.loop.tally r)) is
    (told_refuses_full c.args.files.now c.args.from c.args.tally.now c.requires.counted c.loop.tally c.loop.course c.loop.reader so.files told c.loop.counter c.units-end.result fault
    c.requires.there c.loop-test.false so.way (ap (λ s. come_on c.loop.course c.loop.tally.rid s (drop c.loop.course.came c.args.files.now)) (sym c.end_of.ensures.exact) ∙ sym c.in_err-end.ensures.exact) c.loop.tally)

pub returns-clause-says : goal.returns-clause-says
returns-clause-says g c =
    let told = g.S.Site.told c.args.site.now in
    let so = c.loop.invariant in
    told_full c.args.files.now c.args.from c.args.tally.now c.requires.counted c.loop.tally c.loop.course c.loop.reader so.files told c.loop.counter c.units-end.result c.in_ok-end.end
    c.requires.there c.loop-test.false so.way (ap (λ s. come_on c.loop.course c.loop.tally.rid s (drop c.loop.course.came c.args.files.now)) (sym c.end_of.ensures.exact) ∙ sym c.in_ok-end.ensures.exact)
