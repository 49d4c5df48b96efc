use Rattle.std.proofs.Common.{arith, rules, length, ◌-◌}
use Rattle.std.proofs.lemmas.Grind.{common_steps}
use Rattle.qls_reader.proofs.Told.{only_read}
use Rattle.qls_reader.proofs.Ahead.{if_read, buffer_is}
use Rattle.qls_reader.proofs.window.read_onto.Goals as goal

pub returns-then-is_err-clause-told : goal.returns-then-is_err-clause-told
returns-then-is_err-clause-told g c = only_read c.read-read.result (g.S.Site.told c.args.site.now) (g.S.Site.told c.read-read.new.self) c.read-read.ensures.told

pub returns-else-is_err-clause-bytes : goal.returns-else-is_err-clause-bytes
returns-else-is_err-clause-bytes g c =
    if_read c.read-read.result (g.S.Site.told c.args.site.now) c.args.spot.now c.args.within _ c.args.count c.read-read.new.into c.args.buffer.now.items _ c.read-read.ensures.read (search rules)
    (buffer_is c.resize.new.self.len c.len-from.result (length c.deref_mut.result.now - c.len-from.result) c.deref_mut.result.now c.resize.new.self.items c.args.buffer.now.items c.read-read.new.into
    (grind (arith, common_steps, c.in_ok-resize.ensures.items, c.deref_mut.ensures.value, c.len-from.ensures))
    (grind (arith, common_steps, c.in_ok-resize.ensures.items, c.deref_mut.ensures.value, c.len-from.ensures))
    (grind (arith, common_steps, c.in_ok-resize.ensures.items, c.in_ok-resize.ensures.len, c.deref_mut.ensures.value, c.len-from.ensures)))

pub returns-else-is_err-clause-told : goal.returns-else-is_err-clause-told
returns-else-is_err-clause-told g c = only_read c.read-read.result (g.S.Site.told c.args.site.now) (g.S.Site.told c.read-read.new.self) c.read-read.ensures.told
