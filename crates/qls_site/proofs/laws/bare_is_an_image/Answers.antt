use Rattle.qls_site.proofs.DiskLaws.{IsImage-bare}
use Rattle.qls_site.proofs.laws.bare_is_an_image.Goals as goal

pub returns : goal.returns
returns c = record { bare = IsImage-bare }
