use Rattle.qls_replay.proofs.Whole.{all_records, all_files}
use Rattle.qls_replay.proofs.held_is_the_replay.Goals as goal

pub returns : goal.returns
returns c = record { messages = λ rs hs q e. all_records rs hs q e; files = λ rs. all_files rs }
