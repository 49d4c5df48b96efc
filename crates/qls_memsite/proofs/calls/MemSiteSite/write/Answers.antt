use Rattle.std.proofs.Common.{length}
use Rattle.qls_memsite.specs.Memory.{content_of}
use Rattle.qls_memsite.proofs.Kept.{kept_range}
use Rattle.qls_memsite.proofs.calls.MemSiteSite.write.Goals as goal

pub write_bytes-requires-clause-range : goal.write_bytes-requires-clause-range
write_bytes-requires-clause-range c =
    kept_range c.args.id c.args.at (length c.args.bytes.now) (content_of c.args.self.now).now.disk c.args.self.now.files.items c.args.self.now.seen c.requires.range
