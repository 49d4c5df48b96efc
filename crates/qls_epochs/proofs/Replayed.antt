-- Records one behind the other, replayed.
use Rattle.std.proofs.Common.{◌≡◌, false, cond, List, [], ◌∷◌, ◌++◌, refl, ap}
use Rattle.qls_model.specs.declared.machine.QueueState.{QueueState}
use Rattle.qls_decide.specs.declared.ListEntry.{ListEntry}
use Rattle.qls_record.specs.Record.{Record}
use Rattle.qls_meaning.specs.Journals.{Journal, is_queue}
use Rattle.qls_meaning.specs.Meaning.{records_of, entries_of}
use Rattle.qls_meaning.specs.Replay.{after_record, queue_after, after_list_record, entries_after}

pub queue_both : (xs ys : List Record) (q : QueueState) → queue_after (xs ++ ys) q ≡ queue_after ys (queue_after xs q)
queue_both [] ys q = refl
queue_both (x ∷ xs) ys q = queue_both xs ys (after_record x.kind x q)

pub entries_both : (xs ys : List Record) (es : List ListEntry) → entries_after (xs ++ ys) es ≡ entries_after ys (entries_after xs es)
entries_both [] ys es = refl
entries_both (x ∷ xs) ys es = entries_both xs ys (after_list_record x.kind x es)

pub entries_of-list : (j : Journal) → is_queue j.kind ≡ false → entries_of (j ∷ []) ≡ entries_after (records_of j) []
entries_of-list j q = ap (λ b. cond b [] (entries_after (records_of j) [])) q
