use Rattle.std.proofs.Common.{◌≡◌, Bool, true, false, not, refl}
use Rattle.qls_pool.proofs.Order.{one_more, undone}
use Rattle.qls_pool.proofs.pooled.add.Goals as goal

pub returns-clause-added : goal.returns-clause-added
returns-clause-added c = one_more c.args.file _ _ c.in_ok-insert.ensures.updates

not_there : (b n : Bool) → n ≡ not b → n ≡ true → b ≡ false
not_there true n e k = absurd (cc)
not_there false n e k = refl

pub returns-clause-undone : goal.returns-clause-undone
returns-clause-undone c = λ new. undone c.args.file c.args.files.now.keys c.insert.new.self.keys c.in_ok-insert.ensures.keys (not_there _ _ c.in_ok-insert.ensures.added new)
