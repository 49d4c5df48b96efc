use Rattle.qls_laws.proofs.Undamaged as laws
use Rattle.qls_laws.proofs.damage.sound_journals_make_a_sound_image.Goals as goal

pub returns : goal.returns
returns c = record { whole = laws.whole_is_undamaged }
