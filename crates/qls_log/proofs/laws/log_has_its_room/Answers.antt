use Rattle.qls_log.proofs.Room.{log_room}
use Rattle.qls_log.proofs.laws.log_has_its_room.Goals as goal

pub returns : goal.returns
returns c = record { room = log_room }
