-- A quiet disk's one image.
use Rattle.std.proofs.Common.{◌≡◌, List, Ok, ap, ◌∙◌}
use Rattle.qls_site.specs.Disk.{Disk, Image, IsImage, IsQuiet, full}
use Rattle.qls_site.proofs.DiskLaws.{only_image}
use Rattle.qls_meaning.specs.Journals.{Journal}
use Rattle.qls_meaning.specs.Damage.{undamaged}

pub quiet_is_undamaged : (d : Disk) (i : Image) (js : List Journal) → IsQuiet d → IsImage d i → undamaged (full d) ≡ Ok js → undamaged i ≡ Ok js
quiet_is_undamaged d i js quiet image whole = ap undamaged (only_image d i quiet image) ∙ whole
