use Rattle.std.proofs.Common.{◌≡◌, ◌++◌, map, length, IfSome}
use Rattle.std.specs.List.{AllByRecursion}
use Rattle.std.specs.Vec.Iter.{into_iter_items, into_iter_len}
use Rattle.qls_scan.specs.Heads.{HasLegalHeader}
use Rattle.qls_pool.specs.Files.{OnDisk, RestsThere}
use Rattle.qls_reading.specs.ReadLogs.{linked}
use Rattle.qls_reading.proofs.trim.adopt_all.Given as goal

abbrev pub invariant-loop-file : goal.invariant-loop-file
invariant-loop-file g l = record {
  len : into_iter_len l.file-iterator ≡ length (into_iter_items l.file-iterator);
  done : l.all.items ++ map linked (into_iter_items l.file-iterator) ≡ map linked l.fn.files.items;
  legal : AllByRecursion HasLegalHeader (into_iter_items l.file-iterator);
  there : IfSome (g.S.Site.told l.fn.site) (OnDisk (λ d. AllByRecursion (λ h. RestsThere h d) (map linked (into_iter_items l.file-iterator))));
}
