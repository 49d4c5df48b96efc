-- What journals that were read become, by what was read of them alone.
use Rattle.std.proofs.Common.{◌≡◌, ℕ, Bool, true, false, cond, ◌&&◌, ◌<◌, List, [], ◌∷◌, ◌++◌, length, refl, sym, ap, ◌∙◌, subst, arith, append_assoc, append-nil}
use Rattle.std.proofs.lemmas.Bool.Decides.{nat_tests}
use Rattle.std.specs.List.{AllByRecursion}
use Rattle.qls_model.specs.Bytes.{same, comes_before}
use Rattle.qls_model.specs.Sound.{IsNumbered}
use Rattle.qls_model.specs.declared.machine.PoolId.{PoolId}
use Rattle.qls_filehdr.specs.declared.JournalKind.{JournalKind}
use Rattle.qls_filehdr.specs.declared.JournalKind.TheVariants.{Queue, List as Listed}
use Rattle.qls_filehdr.proofs.HeaderTrip.{legal_parts}
use Rattle.qls_filehdr.specs.Limits.{is_name}
use Rattle.qls_meaning.specs.Journals.{is_queue, same_kind}
use Rattle.qls_scan.specs.declared.answers.JournalFiles.{JournalFiles}
use Rattle.qls_scan.specs.declared.answers.HeadedFile.{HeadedFile}
use Rattle.qls_scan.specs.Found.{IsFileOf, IsInOrder, JournalsRise, goes_before, kind_before}
use Rattle.qls_reading.specs.ReadLogs.{opening_behind}
use Rattle.qls_log.specs.Logs.{IsSound as IsSoundLog}
use Rattle.qls_log.specs.Steps.{is_own}
use Rattle.qls_queue.specs.Live.{LiveState}
use Rattle.qls_prepared.specs.Lists.{PreparedState, IsSound as IsSoundList}
use Rattle.qls_journals.specs.State.{IsKept, IsKeptList, NamesRise, names_of}
use Rattle.qls_journals.specs.Opened.{log_behind, queue_over, list_over, queues_with, list_with, IsWellQueue, IsWell}
use Rattle.qls_journals.specs.Opening.{ReadingState, journals_in}
use Rattle.qls_journals.proofs.Names.{before_differs, behind_differs}

-- ---- the journals that are opened

abbrev pub is_queue_reading : ReadingState → Bool
is_queue_reading r = is_queue r.log.journal.kind

abbrev pub queue_from : ReadingState → LiveState
queue_from r = queue_over (log_behind r.log) r.records

abbrev pub list_from : PoolId → ReadingState → PreparedState
list_from home r = list_over home (log_behind r.log) r.records

abbrev pub queues_from : List ReadingState → List LiveState
queues_from [] = []
queues_from (r ∷ rs) = cond (is_queue_reading r) (queue_from r ∷ queues_from rs) (queues_from rs)

-- the list after these readings, where it was this one before them
abbrev pub list_after : PoolId → List ReadingState → PreparedState → PreparedState
list_after home [] p = p
list_after home (r ∷ rs) p = list_after home rs (list_with home r.log.journal.kind (log_behind r.log) r.records p)

-- no file lies past its reading
abbrev pub HasNonePast : ReadingState → Type 0
HasNonePast r = r.log.past ≡ 0

-- one more: the others follow
pub queues_next : (r : ReadingState) (rest : List ReadingState) (qs us : List LiveState) → us ≡ queues_with r.log.journal.kind (log_behind r.log) r.records qs → us ++ queues_from rest ≡ qs ++ queues_from (r ∷ rest)
queues_next r rest qs us e = ap (λ (xs : List LiveState). xs ++ queues_from rest) e ∙ by (is_queue_reading r)
  where
    by : (b : Bool) → cond b (qs ++ queue_from r ∷ []) qs ++ queues_from rest ≡ qs ++ cond b (queue_from r ∷ queues_from rest) (queues_from rest)
    by true = append_assoc qs (queue_from r ∷ []) (queues_from rest)
    by false = refl

pub queues_end : (rest : List ReadingState) (qs all : List LiveState) → rest ≡ [] → qs ++ queues_from rest ≡ all → qs ≡ all
queues_end rest qs all e h = sym (append-nil qs) ∙ ap (λ (rs : List ReadingState). qs ++ queues_from rs) (sym e) ∙ h

pub list_next : (home : PoolId) (r : ReadingState) (rest : List ReadingState) (p u : PreparedState) → u ≡ list_with home r.log.journal.kind (log_behind r.log) r.records p → list_after home rest u ≡ list_after home (r ∷ rest) p
list_next home r rest p u e = ap (list_after home rest) e

pub list_end : (home : PoolId) (rest : List ReadingState) (p q : PreparedState) → rest ≡ [] → list_after home rest p ≡ q → p ≡ q
list_end home rest p q e h = ap (λ (rs : List ReadingState). list_after home rs p) (sym e) ∙ h

-- ---- kinds

pub kind_queue : (kind : JournalKind) → is_queue kind ≡ true → kind ≡ Queue
kind_queue Queue e = refl
kind_queue Listed e = absurd (cc)

pub kind_list : (kind : JournalKind) → is_queue kind ≡ false → kind ≡ Listed
kind_list Queue e = absurd (cc)
kind_list Listed e = refl

-- ---- each is sound

legal_name : (j : JournalFiles) (fs : List HeadedFile) → AllByRecursion (IsFileOf j) fs → 0 < length fs → is_name j.kind j.name ≡ true
legal_name j [] h l = absurd (omega (arith, l))
legal_name j (f ∷ fs) h l =
    subst (λ (X : Type 0). X) (λ i. is_name (h.0.kind i) (h.0.name i) ≡ true) (legal_parts f.header h.0.legal).name

pub own_name : (j : JournalFiles) → IsInOrder j → is_name j.kind j.name ≡ true
own_name j o = legal_name j j.files o.own o.some

pub no_bytes : (name : List ℕ) → is_name Listed name ≡ true → name ≡ []
no_bytes [] e = refl
no_bytes (b ∷ name) e = absurd (grind (arith, nat_tests, e))

-- a list's journal has no name
pub list_name : (j : JournalFiles) → IsInOrder j → j.kind ≡ Listed → j.name ≡ []
list_name j o e = no_bytes j.name (ap (λ (k : JournalKind). is_name k j.name) (sym e) ∙ own_name j o)

pub queue_kept : (r : ReadingState) → IsInOrder r.log.journal → r.log.journal.kind ≡ Queue → IsSoundLog (log_behind r.log) → IsWellQueue (log_behind r.log) r.records → IsKept (queue_from r)
queue_kept r o kind log well = record {
  unended = refl;
  sound = well.sound;
  log = log;
  name = ap (λ (k : JournalKind). is_name k r.log.journal.name) (sym kind) ∙ own_name r.log.journal o;
}

pub list_kept : (home : PoolId) (r : ReadingState) → IsSoundList (list_from home r) → IsKeptList home (list_from home r)
list_kept home r sound = record { unended = refl; sound = sound; home = refl }

all_end : {A : Type 0} (P : A → Type 0) (xs : List A) (y : A) → AllByRecursion P xs → P y → AllByRecursion P (xs ++ y ∷ [])
all_end P [] y h k = (k, tt)
all_end P (x ∷ xs) y h k = (h.0, all_end P xs y h.1 k)

-- what holds of every queue holds with one more
pub queues_by : (P : LiveState → Type 0) (r : ReadingState) → (r.log.journal.kind ≡ Queue → P (queue_from r)) → (qs us : List LiveState) → us ≡ queues_with r.log.journal.kind (log_behind r.log) r.records qs → AllByRecursion P qs → AllByRecursion P us
queues_by P r own qs us e h = subst (AllByRecursion P) (sym e) (by (is_queue_reading r) refl)
  where
    by : (b : Bool) → is_queue_reading r ≡ b → AllByRecursion P (cond b (qs ++ queue_from r ∷ []) qs)
    by true t = all_end P qs (queue_from r) h (own (kind_queue r.log.journal.kind t))
    by false t = h

module _ (home : PoolId) (r : ReadingState) (order : IsInOrder r.log.journal) (sound : IsSoundLog (log_behind r.log)) (well : IsWell r.log.journal.kind home (log_behind r.log) r.records) where
  well_queue : r.log.journal.kind ≡ Queue → IsWellQueue (log_behind r.log) r.records
  well_queue e = (subst (λ (k : JournalKind). IsWell k home (log_behind r.log) r.records) e well).0

  well_list : r.log.journal.kind ≡ Listed → IsSoundList (list_from home r)
  well_list e = (subst (λ (k : JournalKind). IsWell k home (log_behind r.log) r.records) e well).0

  pub queues_kept : (qs us : List LiveState) → us ≡ queues_with r.log.journal.kind (log_behind r.log) r.records qs → AllByRecursion IsKept qs → AllByRecursion IsKept us
  queues_kept = queues_by IsKept r (λ e. queue_kept r order e sound (well_queue e))

  pub queues_numbered : (qs us : List LiveState) → us ≡ queues_with r.log.journal.kind (log_behind r.log) r.records qs → AllByRecursion (λ q. IsNumbered q.queue) qs → AllByRecursion (λ q. IsNumbered q.queue) us
  queues_numbered = queues_by (λ q. IsNumbered q.queue) r (λ e. (well_queue e).numbered)

  pub list_is_kept : (p u : PreparedState) → u ≡ list_with home r.log.journal.kind (log_behind r.log) r.records p → IsKeptList home p → IsKeptList home u
  list_is_kept p u e h = subst (IsKeptList home) (sym e) (by (is_queue_reading r) refl)
    where
      by : (b : Bool) → is_queue_reading r ≡ b → IsKeptList home (cond b p (list_from home r))
      by true t = h
      by false t = list_kept home r (well_list (kind_list r.log.journal.kind t))

-- ---- one journal isn't another

differs_behind : (a b : JournalKind) (m n : List ℕ) → kind_before a b m n ≡ true → (same_kind a b && same m n) ≡ false
differs_behind Queue Queue m n h = before_differs m n h
differs_behind Queue Listed m n h = absurd (cc)
differs_behind Listed Queue m n h = refl
differs_behind Listed Listed m n h = absurd (cc)

differs_before : (a b : JournalKind) (m n : List ℕ) → kind_before a b m n ≡ true → (same_kind b a && same n m) ≡ false
differs_before Queue Queue m n h = behind_differs n m h
differs_before Queue Listed m n h = absurd (cc)
differs_before Listed Queue m n h = refl
differs_before Listed Listed m n h = absurd (cc)

-- the steps of a journal's log aren't another's
abbrev pub IsOther : JournalFiles → JournalKind → List ℕ → Type 0
IsOther j kind name = is_own (opening_behind j) kind name ≡ false

pub other_behind : (j k : JournalFiles) → goes_before j k ≡ true → IsOther j k.kind k.name
other_behind j k h = differs_behind j.kind k.kind j.name k.name h

pub other_before : (j k : JournalFiles) → goes_before j k ≡ true → IsOther k j.kind j.name
other_before j k h = differs_before j.kind k.kind j.name k.name h

-- a queue isn't any of the journals that are read
abbrev pub IsApart : List JournalFiles → LiveState → Type 0
IsApart js q = AllByRecursion (λ j. IsOther j q.log.opening.kind q.log.opening.name) js

abbrev pub AreApart : List ReadingState → List LiveState → Type 0
AreApart rest qs = AllByRecursion (IsApart (journals_in rest)) qs

apart_less : (j : JournalFiles) (js : List JournalFiles) (qs : List LiveState) → AllByRecursion (IsApart (j ∷ js)) qs → AllByRecursion (IsApart js) qs
apart_less j js [] h = tt
apart_less j js (q ∷ qs) h = (h.0.1, apart_less j js qs h.1)

apart_own : (j : JournalFiles) (js : List JournalFiles) → AllByRecursion (λ k. goes_before j k ≡ true) js → AllByRecursion (λ k. IsOther k j.kind j.name) js
apart_own j [] h = tt
apart_own j (k ∷ js) h = (other_before j k h.0, apart_own j js h.1)

pub apart_next : (r : ReadingState) (rest : List ReadingState) (qs us : List LiveState) → us ≡ queues_with r.log.journal.kind (log_behind r.log) r.records qs → JournalsRise (journals_in (r ∷ rest)) → AreApart (r ∷ rest) qs → AreApart rest us
apart_next r rest qs us e rise h = subst (AreApart rest) (sym e) (by (is_queue_reading r))
  where
    less : AreApart rest qs
    less = apart_less r.log.journal (journals_in rest) qs h

    by : (b : Bool) → AreApart rest (cond b (qs ++ queue_from r ∷ []) qs)
    by true = all_end (IsApart (journals_in rest)) qs (queue_from r) less (apart_own r.log.journal (journals_in rest) rise.0)
    by false = less

pub apart_first : (r : ReadingState) (rest : List ReadingState) (qs : List LiveState) → AreApart (r ∷ rest) qs → AllByRecursion (λ q. IsOther r.log.journal q.log.opening.kind q.log.opening.name) qs
apart_first r rest [] h = tt
apart_first r rest (q ∷ qs) h = (h.0.0, apart_first r rest qs h.1)

-- ---- names rise

names_behind : (j : JournalFiles) (rs : List ReadingState) → j.kind ≡ Queue → AllByRecursion (λ k. goes_before j k ≡ true) (journals_in rs) → AllByRecursion (λ n. comes_before j.name n ≡ true) (names_of (queues_from rs))
names_behind j [] e h = tt
names_behind j (r ∷ rs) e h = by (is_queue_reading r) refl (names_behind j rs e h.1)
  where
    by : (b : Bool) → is_queue_reading r ≡ b → AllByRecursion (λ n. comes_before j.name n ≡ true) (names_of (queues_from rs)) → AllByRecursion (λ n. comes_before j.name n ≡ true) (names_of (cond b (queue_from r ∷ queues_from rs) (queues_from rs)))
    by true t rest = (subst (λ (X : Type 0). X) (λ i. kind_before (e i) (kind_queue r.log.journal.kind t i) j.name r.log.journal.name ≡ true) h.0, rest)
    by false t rest = rest

pub names_rise : (rs : List ReadingState) → JournalsRise (journals_in rs) → NamesRise (names_of (queues_from rs))
names_rise [] h = tt
names_rise (r ∷ rs) h = by (is_queue_reading r) refl (names_rise rs h.1)
  where
    by : (b : Bool) → is_queue_reading r ≡ b → NamesRise (names_of (queues_from rs)) → NamesRise (names_of (cond b (queue_from r ∷ queues_from rs) (queues_from rs)))
    by true t rest = (names_behind r.log.journal rs (kind_queue r.log.journal.kind t) h.0, rest)
    by false t rest = rest
