use Rattle.std.proofs.Common.{◌≡◌, false, [], ap, sym, subst, ◌∙◌, Result, Err, IfSome, ℕ, map, rules}
use Rattle.qls_reader.specs.Places.{AreSound}
use Rattle.qls_reader.specs.Spots.{begin_of}
use Rattle.qls_reading.specs.declared.fault.LogFault.{LogFault}
use Rattle.qls_reading.specs.declared.fault.LogFault.TheVariants.{Damaged}
use Rattle.qls_reading.specs.Groups.{spot_of}
use Rattle.qls_reading.specs.Left.{files_on, ReadsEpoch}
use Rattle.qls_reading.proofs.Told.{looks_none}
use Rattle.qls_reading.proofs.Begins.{are_sound}
use Rattle.qls_reading.proofs.Claims.{begun_given, told_begun_broken, told_broken, told_end_broken, told_epoch}
use Rattle.qls_reading.proofs.epoch.read_epoch.Goals as goal

pub new-reader-requires : goal.new-reader-requires
new-reader-requires g c = record { sound = subst AreSound (sym c.in_ok-spots.ensures.exact) (are_sound c.args.files.now c.requires.legal) }

pub returns-in_err-course-clause-says : goal.returns-in_err-course-clause-says
returns-in_err-course-clause-says g c =
    let told = g.S.Site.told c.args.site.now in
    let fault = c.in_err-course.field-0.0 in
    let answer : Result ℕ LogFault = Err (Damaged fault.0 fault.1) in
    let is : answer ≡ c.from_residual-in_err-course.result = search (rules, c.from_residual-in_err-course.ensures) in
    subst (λ r. IfSome told (λ k. ReadsEpoch c.args.oldest c.args.last (files_on k.now.disk c.args.files.now) c.args.tally.now c.args.tally.now r)) is
    (told_begun_broken c.args.files.now c.args.oldest c.args.last c.args.tally.now c.requires.some c.requires.legal told fault c.args.tally.now c.requires.there (sym c.in_err-course.ensures.exact))

pub returns-in_err-course-clause-told : goal.returns-in_err-course-clause-told
returns-in_err-course-clause-told g c = looks_none (g.S.Site.told c.args.site.now)

pub read_on-requires-clause-reader : goal.read_on-requires-clause-reader
read_on-requires-clause-reader g c =
    let given = begun_given c.args.oldest c.args.tally.now.rid c.args.files.now c.in_ok-course.course (sym c.in_ok-course.ensures.exact) in
    c.new-reader.ensures.exact
    ∙ ap (λ ss. record { files = ss; place = begin_of c.args.oldest ss; held = []; ended = false }) c.in_ok-spots.ensures.exact
    ∙ ap (λ b. record { files = map spot_of c.args.files.now; place = begin_of b (map spot_of c.args.files.now); held = []; ended = false }) (sym given)

pub returns-in_err-end-clause-says : goal.returns-in_err-end-clause-says
returns-in_err-end-clause-says g c =
    let told = g.S.Site.told c.args.site.now in
    let fault = c.in_err-end.field-0.0 in
    let answer : Result ℕ LogFault = Err fault in
    let is : answer ≡ c.from_residual-in_err-end.result = search (rules, c.from_residual-in_err-end.ensures) in
    subst (λ r. IfSome told (λ k. ReadsEpoch c.args.oldest c.args.last (files_on k.now.disk c.args.files.now) c.args.tally.now c.read_on.new.tally r)) is
    (told_broken c.args.files.now c.args.oldest c.args.last c.args.tally.now c.requires.some c.requires.legal told c.in_ok-course.course fault c.read_on.new.tally c.read_on.new.tally c.requires.there
    (sym c.in_ok-course.ensures.exact) c.in_err-end.ensures.says)

pub returns-in_err-past-clause-says : goal.returns-in_err-past-clause-says
returns-in_err-past-clause-says g c =
    let told = g.S.Site.told c.args.site.now in
    let fault = c.in_err-past.field-0.0 in
    let answer : Result ℕ LogFault = Err (Damaged fault.0 fault.1) in
    let is : answer ≡ c.from_residual-in_err-past.result = search (rules, c.from_residual-in_err-past.ensures) in
    subst (λ r. IfSome told (λ k. ReadsEpoch c.args.oldest c.args.last (files_on k.now.disk c.args.files.now) c.args.tally.now c.read_on.new.tally r)) is
    (told_end_broken c.args.files.now c.args.oldest c.args.last c.args.tally.now c.requires.some c.requires.legal told c.in_ok-course.course c.in_ok-end.end fault c.read_on.new.tally c.read_on.new.tally c.requires.there
    (sym c.in_ok-course.ensures.exact) c.in_ok-end.ensures.says (sym c.in_err-past.ensures.exact))

pub returns-clause-says : goal.returns-clause-says
returns-clause-says g c =
    told_epoch c.args.files.now c.args.oldest c.args.last c.args.tally.now c.requires.some c.requires.legal (g.S.Site.told c.args.site.now) c.in_ok-course.course c.in_ok-end.end c.read_on.new.tally c.in_ok-past.past c.requires.there
    (sym c.in_ok-course.ensures.exact) c.in_ok-end.ensures.says (sym c.in_ok-past.ensures.exact)
