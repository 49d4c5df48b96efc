-- The records that the list writes, and what they make of its entries.
use Rattle.std.specs.Prelude.{ℕ, ◌+◌, Bool, true, false, not, List, [], ◌∷◌, map}
use Rattle.std.specs.List.{filter}
use Rattle.qls_model.specs.Bytes.{is_listed}
use Rattle.qls_record.specs.declared.Kind.TheVariants.{Enqueue, Dequeue, Commit}
use Rattle.qls_record.specs.Record.{Record}
use Rattle.qls_decide.specs.declared.ListEntry.{ListEntry}
use Rattle.qls_decide.specs.declared.ListState.{ListState}
use Rattle.qls_decide.specs.declared.ListState.TheVariants.{Prepared, DecidedCommit}

-- the entry of x: in one phase where that is said, else prepared
abbrev pub enqueue_of : ℕ → List ℕ → Bool → Record
enqueue_of rid x one_phase = record { kind = Enqueue; flagged = one_phase; rid = rid; target = 0; xid = x; props = []; body = [] }

-- the decision of the entry of x with the record id `target`: commit where that is said, else abort
abbrev pub decision_of : ℕ → ℕ → List ℕ → Bool → Record
decision_of rid target x commit = record { kind = Dequeue; flagged = commit; rid = rid; target = target; xid = x; props = []; body = [] }

-- the end of the entry of x
abbrev pub end_of : ℕ → List ℕ → Record
end_of rid x = record { kind = Commit; flagged = false; rid = rid; target = 0; xid = x; props = []; body = [] }

-- a prepare, behind the record id in force
abbrev pub prepare_records : ℕ → List ℕ → List Record
prepare_records rid x = enqueue_of (rid + 1) x false ∷ []

-- a commit in one phase
abbrev pub one_phase_records : ℕ → List ℕ → List Record
one_phase_records rid x = enqueue_of (rid + 1) x true ∷ decision_of (rid + 1) (rid + 1) x true ∷ []

-- a transaction that enters: in one phase where that is said
abbrev pub entry_records : ℕ → List ℕ → Bool → List Record
entry_records rid x true = one_phase_records rid x
entry_records rid x false = prepare_records rid x

abbrev pub entered_state : Bool → ListState
entered_state true = DecidedCommit
entered_state false = Prepared

abbrev pub end_records : ℕ → List (List ℕ) → List Record
end_records rid xs = map (end_of rid) xs

-- the entries without those of these xids
abbrev pub without_entries : List (List ℕ) → List ListEntry → List ListEntry
without_entries xs es = filter (λ e. not (is_listed e.xid xs)) es
