use Rattle.std.proofs.Common.{◌≡◌, true}
use Rattle.qls_laws.proofs.Layers.{crash_then}
use Rattle.qls_laws.proofs.crashes.one_call_after_another.Goals as goal

pub returns : goal.returns
returns c = record { composed = λ areas inner_areas test old mid new xs ys first second at free a b. crash_then areas inner_areas (λ m i. test m i ≡ true) old mid new xs ys first second at free a b }
