use Rattle.std.proofs.Common.{List, [], ◌∷◌, sym, ap, ◌∙◌}
use Rattle.qls_record.specs.declared.Head.{Head}
use Rattle.qls_record.specs.Head.{record_with}
use Rattle.qls_record.specs.Record.{Record}
use Rattle.qls_log.specs.declared.opening.Opening.{Opening}
use Rattle.qls_queue.proofs.Applied.{behind, more_files}
use Rattle.qls_queue.proofs.open_tests.add.Goals as goal

pub returns-clause-rid : goal.returns-clause-rid
returns-clause-rid g c = (behind _ _ _ _ _ _ _ _ _ c.in_ok-got.ensures.written).rid ∙ ap (λ (h : Head). h.rid) (sym c.in_ok-got.ensures.head)

pub returns-clause-kind : goal.returns-clause-kind
returns-clause-kind g c = ap (λ (o : Opening). o.kind) (behind _ _ _ _ _ _ _ _ _ c.in_ok-got.ensures.written).opening ∙ c.requires.kind

pub returns-clause-files : goal.returns-clause-files
returns-clause-files g c = let b = behind _ _ _ _ _ _ _ _ _ c.in_ok-got.ensures.written in more_files _ b.taken _ b.files c.requires.files

pub returns-clause-flushed : goal.returns-clause-flushed
returns-clause-flushed g c = (behind _ _ _ _ _ _ _ _ _ c.in_ok-got.ensures.written).unsynced
