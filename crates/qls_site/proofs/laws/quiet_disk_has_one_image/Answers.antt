use Rattle.qls_site.proofs.DiskLaws.{only_image}
use Rattle.qls_site.proofs.laws.quiet_disk_has_one_image.Goals as goal

pub returns : goal.returns
returns c = record { one = only_image }
