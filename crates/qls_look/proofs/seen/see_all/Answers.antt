use Rattle.std.proofs.Common.{rules, ◌≡◌, List, [], ◌∷◌, Err, IfSome, sym, ap, ◌∙◌, subst, arith}
use Rattle.std.specs.List.{AllByRecursion}
use Rattle.std.specs.Vec.Iter.{into_iter_items}
use Rattle.qls_shape.specs.Claims.{each}
use Rattle.qls_model.specs.Machine.{MachineState}
use Rattle.qls_site.specs.Content.{OnlyLooks}
use Rattle.qls_site.proofs.Told.{Tells-then, OnlyLooks-then}
use Rattle.qls_meaning.specs.Damage.{reading_claims}
use Rattle.qls_meaning.specs.Meaning.{meaning_of}
use Rattle.qls_scan.specs.declared.answers.JournalFiles.{JournalFiles}
use Rattle.qls_scan.specs.Found.{IsInOrder, JournalsRise}
use Rattle.qls_reading.specs.ReadLogs.{IsThere}
use Rattle.qls_look.specs.declared.fault.OpenFault.{OpenFault}
use Rattle.qls_look.specs.Looking.{Says}
use Rattle.qls_look.specs.Seen.{NamesBefore, answered, sight_of}
use Rattle.qls_look.proofs.Lists.{none_left}
use Rattle.qls_look.proofs.There.{still_there, first_there, others_there}
use Rattle.qls_look.proofs.Whole.{within, all_from, sight_is, seen_begins, seen_next, seen_stops, seen_end, none_before, before_next}
use Rattle.qls_look.proofs.seen.see_all.Goals as goal

pub loop-files-init : goal.loop-files-init
loop-files-init g c =
    let told = g.S.Site.told c.args.site.now in
    let items : into_iter_items c.into_iter-files-iterator.result ≡ c.args.journals = search rules in
    record {
      len = search rules;
      rise = subst JournalsRise (sym items) c.requires.rise;
      order = subst (AllByRecursion IsInOrder) (sym items) c.requires.order;
      after = none_before (into_iter_items c.into_iter-files-iterator.result) c.in_ok-seen.seen.state.queues (ap (λ (S : MachineState). S.queues) c.in_ok-seen.ensures.state);
      there = subst (λ (fs : List JournalFiles). IfSome told (λ c. AllByRecursion (λ j. IsThere j c) fs)) (sym items) c.requires.there;
      means =
          subst (λ (fs : List JournalFiles). IfSome told (λ k. answered (meaning_of (within k c.args.journals)) (each reading_claims (within k c.args.journals)) ≡ all_from (sight_of c.in_ok-seen.seen) (within k fs))) (sym items)
          (seen_begins c.args.journals (sight_of c.in_ok-seen.seen) told c.requires.rise (sight_is c.in_ok-seen.seen [] c.in_ok-seen.ensures.state c.in_ok-seen.ensures.states));
      told = search rules;
      kept = search rules;
      syncs = search rules;
    }

pub see-requires-clause-order : goal.see-requires-clause-order
see-requires-clause-order g c =
    let f : JournalFiles = c.in-Some.files in
    let rest : List JournalFiles = into_iter_items c.next.new.self in
    let cut : into_iter_items c.loop-files.files-iterator ≡ f ∷ rest = search rules in
    let all : AllByRecursion IsInOrder (f ∷ rest) = subst (AllByRecursion IsInOrder) cut c.loop-files.invariant.order in
    all.0

pub see-requires-clause-there : goal.see-requires-clause-there
see-requires-clause-there g c =
    let f : JournalFiles = c.in-Some.files in
    let rest : List JournalFiles = into_iter_items c.next.new.self in
    let cut : into_iter_items c.loop-files.files-iterator ≡ f ∷ rest = search rules in
    let told = g.S.Site.told c.args.site.now in
    first_there f rest (g.S.Site.told c.loop-files.site)
    (still_there (f ∷ rest) told (g.S.Site.told c.loop-files.site) c.loop-files.invariant.told
    (subst (λ (fs : List JournalFiles). IfSome told (λ k. AllByRecursion (λ j. IsThere j k) fs)) cut c.loop-files.invariant.there))

pub see-requires-clause-after : goal.see-requires-clause-after
see-requires-clause-after g c =
    let f : JournalFiles = c.in-Some.files in
    let rest : List JournalFiles = into_iter_items c.next.new.self in
    let cut : into_iter_items c.loop-files.files-iterator ≡ f ∷ rest = search rules in
    let all : AllByRecursion (λ (k : JournalFiles). NamesBefore k.name c.loop-files.seen.state.queues) (f ∷ rest) = subst (AllByRecursion (λ (k : JournalFiles). NamesBefore k.name c.loop-files.seen.state.queues)) cut c.loop-files.invariant.after in
    all.0

pub loop-files-preserved : goal.loop-files-preserved
loop-files-preserved g c =
    let f : JournalFiles = c.in-Some.files in
    let rest : List JournalFiles = into_iter_items c.next.new.self in
    let cut : into_iter_items c.loop-files.files-iterator ≡ f ∷ rest = search rules in
    let told = g.S.Site.told c.args.site.now in
    let so = c.loop-files.invariant in
    let old = c.loop-files.seen in
    let new = c.see.new.seen in
    let rise : JournalsRise (f ∷ rest) = subst JournalsRise cut so.rise in
    let order : AllByRecursion IsInOrder (f ∷ rest) = subst (AllByRecursion IsInOrder) cut so.order in
    let after : AllByRecursion (λ (k : JournalFiles). NamesBefore k.name old.state.queues) (f ∷ rest) = subst (AllByRecursion (λ (k : JournalFiles). NamesBefore k.name old.state.queues)) cut so.after in
    record {
      len = search rules;
      rise = rise.1;
      order = order.1;
      after = before_next f rest old.state.queues new.state.queues c.in_ok-see.ensures.next rise.0 after.1;
      there = others_there f rest told (subst (λ (fs : List JournalFiles). IfSome told (λ k. AllByRecursion (λ j. IsThere j k) fs)) cut so.there);
      means =
          seen_next c.args.journals rest f (sight_of old) (sight_of new) told (g.S.Site.told c.loop-files.site) so.told
          (subst (λ (fs : List JournalFiles). IfSome told (λ k. answered (meaning_of (within k c.args.journals)) (each reading_claims (within k c.args.journals)) ≡ all_from (sight_of old) (within k fs))) cut so.means)
          c.in_ok-see.ensures.says;
      told = Tells-then OnlyLooks OnlyLooks OnlyLooks _ _ _ so.told c.in_ok-see.ensures.told OnlyLooks-then;
      kept = omega (arith, so.kept, c.in_ok-see.ensures.cause.kept);
      syncs = c.in_ok-see.ensures.syncs ∙ so.syncs;
    }

pub returns-in_err-see-clause-told : goal.returns-in_err-see-clause-told
returns-in_err-see-clause-told g c = Tells-then OnlyLooks OnlyLooks OnlyLooks _ _ _ c.loop-files.invariant.told c.in_err-see.ensures.told OnlyLooks-then

pub returns-in_err-see-clause-says : goal.returns-in_err-see-clause-says
returns-in_err-see-clause-says g c =
    let f : JournalFiles = c.in-Some.files in
    let rest : List JournalFiles = into_iter_items c.next.new.self in
    let cut : into_iter_items c.loop-files.files-iterator ≡ f ∷ rest = search rules in
    let told = g.S.Site.told c.args.site.now in
    let so = c.loop-files.invariant in
    let fault : OpenFault = c.in_err-see.field-0.0 in
    let is : c.from_residual-in_err-see.result ≡ Err fault = search (rules, c.from_residual-in_err-see.ensures) in
    subst (λ r. IfSome told (λ k. Says (answered (meaning_of (within k c.args.journals)) (each reading_claims (within k c.args.journals))) r)) (sym is)
    (seen_stops c.args.journals rest f (sight_of c.loop-files.seen) fault told (g.S.Site.told c.loop-files.site) so.told
    (subst (λ (fs : List JournalFiles). IfSome told (λ k. answered (meaning_of (within k c.args.journals)) (each reading_claims (within k c.args.journals)) ≡ all_from (sight_of c.loop-files.seen) (within k fs))) cut so.means)
    c.in_err-see.ensures.says)

pub returns-clause-says : goal.returns-clause-says
returns-clause-says g c =
    let so = c.loop-files.invariant in
    let done : into_iter_items c.loop-files.files-iterator ≡ [] = none_left _ _ so.len c.in-None.ensures.steps.0 in
    seen_end c.args.journals (into_iter_items c.loop-files.files-iterator) (sight_of c.loop-files.seen) (g.S.Site.told c.args.site.now) done so.means
