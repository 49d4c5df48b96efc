use Rattle.std.proofs.Common.{[], Ok}
use Rattle.qls_pool.specs.Files.{IsPoolOf}
use Rattle.qls_pool.proofs.Calls.{carried}
use Rattle.qls_log.specs.Appending.{SyncsAll}
use Rattle.qls_log.proofs.Puts.{told_put}
use Rattle.qls_log.proofs.Sound.{told_put_undamaged}
use Rattle.qls_log.proofs.tests.put.Goals as goal

pub returns-clause-pool : goal.returns-clause-pool
returns-clause-pool g c =
    carried (SyncsAll c.append.new.self.unsynced (Ok c.in_ok-flush.field-0)) (IsPoolOf c.append.new.pool []) (IsPoolOf c.append.new.pool []) _ _ c.in_ok-flush.ensures.told
    (c.in_ok-flush.ensures.pool c.append.new.pool []) c.in_ok-spots.ensures.pool

pub returns-clause-read : goal.returns-clause-read
returns-clause-read g c = (
  c.in_ok-batch.batch,
  c.in_ok-batch.ensures.some,
  told_put c.in_ok-batch.batch c.args.log.now c.append.new.self c.flush.new.self c.append.new.self.unsynced c.in_ok-flush.field-0 _ _ _ c.in_ok-spots.ensures.reading c.in_ok-flush.ensures.told c.in_ok-flush.ensures.read,
)

pub returns-clause-sound : goal.returns-clause-sound
returns-clause-sound g c =
    told_put_undamaged c.in_ok-batch.batch c.args.log.now c.append.new.self c.flush.new.self c.append.new.self.unsynced c.in_ok-flush.field-0 _ _ _ c.in_ok-spots.ensures.reading c.in_ok-spots.ensures.sound
    c.in_ok-flush.ensures.told c.in_ok-flush.ensures.sound
