use Rattle.std.proofs.Common.{List, Some, subst}
use Rattle.std.specs.List.{AllByRecursion}
use Rattle.qls_memsite.specs.Memory.{content_of}
use Rattle.qls_scan.specs.declared.answers.JournalFiles.{JournalFiles}
use Rattle.qls_scan.specs.Found.{IsInOrder}
use Rattle.qls_reading.proofs.There.{last_of, found_there}
use Rattle.qls_reading.proofs.tests.read.Goals as goal

pub read-requires-clause-order : goal.read-requires-clause-order
read-requires-clause-order c =
    last_of IsInOrder c.pop.new.self c.in-Some.files (subst (λ (js : List JournalFiles). AllByRecursion IsInOrder js) c.in-Some.ensures.last c.in_ok-found.ensures.sound.journals)

pub read-requires-clause-there : goal.read-requires-clause-there
read-requires-clause-there c =
    found_there (Some (content_of c.args.site.now)) (Some (content_of c.scan.new.site)) c.in_ok-found.found c.pop.new.self c.in-Some.files
    c.in_ok-found.ensures.rising c.in_ok-found.ensures.found c.in_ok-found.ensures.told c.in-Some.ensures.last
