use Rattle.qls_pool.specs.Files.{IsBlank, IsHeaded, IsLinked, IsAtRest}
use Rattle.qls_pool.proofs.Others.{stays}
use Rattle.qls_pool.proofs.laws.other_calls_leave_a_file.Goals as goal

pub returns-clause-blank : goal.returns-clause-blank
returns-clause-blank c = λ b. stays (IsBlank b) b.id

pub returns-clause-headed : goal.returns-clause-headed
returns-clause-headed c = λ h. stays (IsHeaded h) h.id

pub returns-clause-linked : goal.returns-clause-linked
returns-clause-linked c = λ h. stays (IsLinked h) h.id

pub returns-clause-rests : goal.returns-clause-rests
returns-clause-rests c = λ h. stays (IsAtRest h) h.id
