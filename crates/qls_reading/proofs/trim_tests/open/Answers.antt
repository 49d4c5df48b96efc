use Rattle.std.proofs.Common.{List, subst}
use Rattle.std.specs.List.{AllByRecursion}
use Rattle.qls_scan.specs.declared.answers.JournalFiles.{JournalFiles}
use Rattle.qls_scan.specs.Found.{IsInOrder}
use Rattle.qls_reading.proofs.There.{last_of}
use Rattle.qls_reading.proofs.trim_tests.open.Goals as goal

pub read-requires-clause-order : goal.read-requires-clause-order
read-requires-clause-order c =
    last_of IsInOrder c.pop.new.self c.in-Some.files (subst (λ (js : List JournalFiles). AllByRecursion IsInOrder js) c.in-Some.ensures.last c.in_ok-found.ensures.sound.journals)
