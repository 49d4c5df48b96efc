use Rattle.std.proofs.Common.{subst}
use Rattle.std.specs.List.{IsDistinct}
use Rattle.std.specs.Map.{keys_of}
use Rattle.qls_model.proofs.XidKeys.{xid_eq_is}
use Rattle.qls_replay.proofs.list.listed.Goals as goal

pub returns-clause-once : goal.returns-clause-once
returns-clause-once c =
    subst (λ f. IsDistinct f (keys_of c.args.entries.entries)) xid_eq_is c.into_iter-xid-iterator.ensures.into_iter_gives.4
