use Rattle.qls_site.proofs.ChosenLaws.{IsImage-chosen}
use Rattle.qls_site.proofs.laws.chosen_is_an_image.Goals as goal

pub returns : goal.returns
returns c = record { chosen = IsImage-chosen }
