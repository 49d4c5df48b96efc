use Rattle.std.proofs.Common.{◌≡◌, ◌<◌, ◌^◌, [], length, false, IfSome}
use Rattle.qls_filehdr.specs.declared.JournalKind.TheVariants.{Queue}
use Rattle.qls_pool.specs.Files.{IsPoolOf, OnDisk}
use Rattle.qls_log.specs.Standing.{LogThere}
use Rattle.qls_reading.specs.ReadLogs.{AreGiven, rid_behind}
use Rattle.qls_queue.proofs.open_tests.opened.Given as goal

abbrev pub invariant-loop-word : goal.invariant-loop-word
invariant-loop-word g l = record {
  rid : l.log.rid < 2 ^ 62;
  unended : l.log.ended ≡ false;
  kind : l.log.opening.kind ≡ Queue;
  files : 0 < length l.log.files;
  flushed : l.log.unsynced ≡ [];
  there : IfSome (g.S.Site.told l.site) (OnDisk (LogThere l.log));
  pool : IfSome (g.S.Site.told l.site) (OnDisk (IsPoolOf l.pool []));
  given : AreGiven 0 l.reads;
  last : l.log.rid ≡ rid_behind 0 l.reads;
}
