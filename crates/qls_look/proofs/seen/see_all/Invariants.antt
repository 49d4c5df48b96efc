use Rattle.std.proofs.Common.{◌≡◌, ◌≤◌, length, IfSome}
use Rattle.std.specs.List.{AllByRecursion}
use Rattle.std.specs.Vec.Iter.{into_iter_items, into_iter_len}
use Rattle.qls_shape.specs.Claims.{each}
use Rattle.qls_site.specs.Content.{Tells, OnlyLooks}
use Rattle.qls_meaning.specs.Damage.{reading_claims}
use Rattle.qls_meaning.specs.Meaning.{meaning_of}
use Rattle.qls_scan.specs.Found.{IsInOrder, JournalsRise}
use Rattle.qls_reading.specs.ReadLogs.{IsThere}
use Rattle.qls_look.specs.Seen.{NamesBefore, answered, sight_of}
use Rattle.qls_look.proofs.Whole.{within, all_from}
use Rattle.qls_look.proofs.seen.see_all.Given as goal

abbrev pub invariant-loop-files : goal.invariant-loop-files
invariant-loop-files g l = record {
  len : into_iter_len l.files-iterator ≡ length (into_iter_items l.files-iterator);
  rise : JournalsRise (into_iter_items l.files-iterator);
  order : AllByRecursion IsInOrder (into_iter_items l.files-iterator);
  after : AllByRecursion (λ k. NamesBefore k.name l.seen.state.queues) (into_iter_items l.files-iterator);
  there : IfSome (g.S.Site.told l.fn.site) (λ c. AllByRecursion (λ j. IsThere j c) (into_iter_items l.files-iterator));
  means : IfSome (g.S.Site.told l.fn.site) (λ c. answered (meaning_of (within c l.fn.journals)) (each reading_claims (within c l.fn.journals)) ≡ all_from (sight_of l.seen) (within c (into_iter_items l.files-iterator)));
  told : Tells OnlyLooks (g.S.Site.told l.fn.site) (g.S.Site.told l.site);
  kept : g.S.Site.faults l.fn.site ≤ g.S.Site.faults l.site;
  syncs : g.S.Site.syncs l.site ≡ g.S.Site.syncs l.fn.site;
}
