use Rattle.qls_record.proofs.Assembled.{head_with, record_is_legal, length-record_with}
use Rattle.qls_record.proofs.record_of_a_head.Goals as goal

pub returns-clause-head : goal.returns-clause-head
returns-clause-head c = head_with

pub returns-clause-legal : goal.returns-clause-legal
returns-clause-legal c = record_is_legal

pub returns-clause-length : goal.returns-clause-length
returns-clause-length c = length-record_with
