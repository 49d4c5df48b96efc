-- The list over the journals that were read: that of its journal, and without one the list that there was.
use Rattle.std.proofs.Common.{◌≡◌, Bool, true, false, cond, ◌&&◌, List, [], ◌∷◌, None, refl, ap}
use Rattle.std.specs.List.{AllByRecursion}
use Rattle.qls_model.specs.Bytes.{same}
use Rattle.qls_model.specs.declared.machine.PoolId.{PoolId}
use Rattle.qls_filehdr.specs.declared.JournalKind.{JournalKind}
use Rattle.qls_filehdr.specs.declared.JournalKind.TheVariants.{List as Listed}
use Rattle.qls_meaning.specs.Journals.{same_kind}
use Rattle.qls_prepared.specs.Lists.{PreparedState}
use Rattle.qls_journals.specs.Opened.{log_behind, list_with}
use Rattle.qls_journals.specs.Opening.{ReadingState}
use Rattle.qls_journals.proofs.OpenedFrom.{is_queue_reading, list_from, list_after, kind_queue, kind_list}
use Rattle.qls_journals.proofs.OpenedNamed.{is_read, later_than}

-- a list that has no file yet
abbrev pub new_list : PoolId → PreparedState
new_list home = record { home = home; log = None; entries = []; held = []; ended = false }

module _ (home : PoolId) (P : PreparedState → Type 0) where
  -- where the journal is the list's, this holds of the list over it
  abbrev pub IfListed : ReadingState → Type 0
  IfListed r = r.log.journal.kind ≡ Listed → P (list_from home r)

  list_all : (rs : List ReadingState) (p : PreparedState) → AllByRecursion IfListed rs → P p → P (list_after home rs p)
  list_all [] p h k = k
  list_all (r ∷ rs) p h k = list_all rs (list_with home r.log.journal.kind (log_behind r.log) r.records p) h.1 (by (is_queue_reading r) refl)
    where
      by : (b : Bool) → is_queue_reading r ≡ b → P (cond b p (list_from home r))
      by true e = k
      by false e = h.0 (kind_list r.log.journal.kind e)

  list_some : (rs : List ReadingState) (p : PreparedState) → AllByRecursion IfListed rs → is_read rs Listed [] ≡ true → P (list_after home rs p)
  list_some [] p h e = absurd (cc)
  list_some (r ∷ rs) p h e = by (is_queue_reading r) refl (list_some rs p h.1)
    where
      by : (b : Bool) → is_queue_reading r ≡ b → (is_read rs Listed [] ≡ true → P (list_after home rs p)) → P (list_after home rs (cond b p (list_from home r)))
      by true k later =
          later (later_than (same_kind r.log.journal.kind Listed && same r.log.journal.name []) (is_read rs Listed [])
          (ap (λ (c : JournalKind). same_kind c Listed && same r.log.journal.name []) (kind_queue r.log.journal.kind k)) e)
      by false k later = list_all rs (list_from home r) h.1 (h.0 (kind_list r.log.journal.kind k))

  -- this holds of the list if it does of that over each journal of the list, and where there is none of a list without a file
  pub list_by : (rs : List ReadingState) → AllByRecursion IfListed rs → (is_read rs Listed [] ≡ false → P (new_list home)) → P (list_after home rs (new_list home))
  list_by rs h none = by (is_read rs Listed []) refl
    where
      by : (b : Bool) → is_read rs Listed [] ≡ b → P (list_after home rs (new_list home))
      by true e = list_some rs (new_list home) h e
      by false e = list_all rs (new_list home) h (none e)
