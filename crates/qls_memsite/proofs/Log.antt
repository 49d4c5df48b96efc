-- One call more in the log.
use Rattle.std.proofs.Common.{◌≡◌, List, [], ◌∷◌, ◌++◌, refl}
use Rattle.qls_memsite.specs.declared.call.Call.{Call}
use Rattle.qls_site.specs.Content.{Content}
use Rattle.qls_memsite.specs.Log.{after, content_after}

pub one_more : (calls : List Call) (call : Call) (c : Content) → content_after (calls ++ call ∷ []) c ≡ after call (content_after calls c)
one_more [] call c = refl
one_more (first ∷ calls) call c = one_more calls call (after first c)
