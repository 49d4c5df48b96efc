use Rattle.std.proofs.Common.{length, sym, subst}
use Rattle.qls_memsite.specs.Seen.{HasBytes, seen_of}
use Rattle.qls_memsite.specs.Memory.{content_of}
use Rattle.qls_memsite.proofs.Kept.{kept_range}
use Rattle.qls_memsite.proofs.calls.MemSiteSite.read.Goals as goal

pub read_bytes-requires-clause-range : goal.read_bytes-requires-clause-range
read_bytes-requires-clause-range c =
    subst (λ i. HasBytes c.args.at (length c.args.into.now) (seen_of c.args.id i)) (sym c.deref.ensures.value)
    (kept_range c.args.id c.args.at (length c.args.into.now) (content_of c.args.self.now).now.disk c.args.self.now.files.items c.args.self.now.seen c.requires)
