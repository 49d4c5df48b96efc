use Rattle.std.proofs.Common.{rules, ◌≡◌, List, ◌∷◌, ◌++◌, sym, ap, ◌∙◌, subst, IfSome, arith}
use Rattle.std.specs.List.{AllByRecursion}
use Rattle.std.specs.Vec.Iter.{into_iter_items}
use Rattle.qls_scan.specs.declared.answers.JournalFiles.{JournalFiles}
use Rattle.qls_scan.specs.Found.{IsInOrder}
use Rattle.qls_journals.specs.Opening.{ReadingState, journals_in}
use Rattle.qls_journals.proofs.ReadingAll.{AllThere, AllSoFar, looks_on, others_there, one_read, so_far_next, stand_next}
use Rattle.qls_journals.proofs.opening.read_all.Goals as goal

pub returns-in_err-log-clause-told : goal.returns-in_err-log-clause-told
returns-in_err-log-clause-told g c = looks_on _ _ _ c.loop-files.invariant.told c.read.ensures.told

pub returns-in_err-add_reading-clause-told : goal.returns-in_err-add_reading-clause-told
returns-in_err-add_reading-clause-told g c = looks_on _ _ _ c.loop-files.invariant.told c.read.ensures.told

pub loop-files-preserved : goal.loop-files-preserved
loop-files-preserved g c =
    let f : JournalFiles = c.in-Some.files in
    let rest : List JournalFiles = into_iter_items c.next.new.self in
    let cut : into_iter_items c.loop-files.files-iterator ≡ f ∷ rest = search rules in
    let told = g.S.Site.told c.args.site.now in
    let mid = g.S.Site.told c.loop-files.site in
    let so = c.loop-files.invariant in
    let is = c.in_ok-log.ensures in
    let r : ReadingState = record { log = c.in_ok-log.log; records = c.in_ok-log.records } in
    let order : AllByRecursion IsInOrder (f ∷ rest) = subst (AllByRecursion IsInOrder) cut so.order in
    let there : IfSome told (AllThere (f ∷ rest)) = subst (λ (fs : List JournalFiles). IfSome told (AllThere fs)) cut so.there in
    let says : IfSome told (AllSoFar c.args.journals (f ∷ rest)) = subst (λ (fs : List JournalFiles). IfSome told (AllSoFar c.args.journals fs)) cut so.says in
    let added = c.in_ok-add_reading.ensures.added in
    record {
      len = search rules;
      order = order.1;
      there = others_there f rest told there;
      journals = one_read c.loop-files.readings.items c.add_reading.new.readings.items r f rest c.args.journals added is.given.files (ap (λ (fs : List JournalFiles). journals_in c.loop-files.readings.items ++ fs) (sym cut) ∙ so.journals);
      says = so_far_next c.args.journals rest f r.log r.records told mid so.told says is.says;
      stand = stand_next c.loop-files.readings.items c.add_reading.new.readings.items r f told mid so.told added is.given.files so.stand is.stands;
      told = looks_on _ _ _ so.told is.told;
      kept = omega (arith, so.kept, is.cause.kept);
      syncs = is.syncs ∙ so.syncs;
    }
