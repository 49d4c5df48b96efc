use Rattle.qls_site.proofs.DiskLaws.{IsImage-full}
use Rattle.qls_site.proofs.laws.full_is_an_image.Goals as goal

pub returns : goal.returns
returns c = record { full = IsImage-full }
