-- A site on which nothing has happened is quiet.
use Rattle.std.proofs.Common.{[], ◌∷◌, refl, sym, subst}
use Rattle.qls_site.specs.Disk.{Image, IsQuiet, at_rest}
use Rattle.qls_site.specs.Content.{Content}
use Rattle.qls_memsite.specs.declared.memory.MemSite.{MemSite}
use Rattle.qls_memsite.specs.Memory.{BeginsOn, content_of}

rest_is_quiet : (i : Image) → IsQuiet (at_rest i)
rest_is_quiet [] = tt
rest_is_quiet (f ∷ i) = (refl, rest_is_quiet i)

pub begins_quietly : (files : Image) (m : MemSite) → BeginsOn files m → IsQuiet (content_of m).now.disk
begins_quietly files m begins = subst (λ (c : Content). IsQuiet c.now.disk) (sym begins.content) (rest_is_quiet files)
