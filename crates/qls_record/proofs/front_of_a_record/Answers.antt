use Rattle.qls_record.proofs.Front.{read_in_all, read_in_front, head_in_front}
use Rattle.qls_record.proofs.front_of_a_record.Goals as goal

pub returns-clause-in_all : goal.returns-clause-in_all
returns-clause-in_all c = read_in_all

pub returns-clause-in_front : goal.returns-clause-in_front
returns-clause-in_front c = read_in_front

pub returns-clause-head : goal.returns-clause-head
returns-clause-head c = head_in_front
