-- The discipline over the moments of one call and then of the next, and where the disk stays as it is.
use Rattle.std.proofs.Common.{◌≡◌, Bool, true, false, List, [], ◌∷◌, ◌++◌, length, Option, Some, None, refl, sym, ap, subst, arith, append_assoc, append-nil, length-append}
use Rattle.std.specs.List.{AllByRecursion}
use Rattle.qls_model.specs.declared.machine.PoolId.{PoolId}
use Rattle.qls_site.specs.Disk.{Disk, FileState, Write, file_of, full}
use Rattle.qls_site.specs.Content.{Moment}
use Rattle.qls_meaning.specs.Chance.{EachPlaceOf, SpellsWritten}
use Rattle.qls_meaning.specs.Dead.{NoneDead}
use Rattle.qls_meaning.specs.History.{History, FreeArea, last_of, now, next}
use Rattle.qls_meaning.specs.Journals.{is_in_use}
use Rattle.qls_meaning.specs.Orderly.{FileSteps, IsOrderlyFrom, AnswersWhole}
use Rattle.qls_pool.specs.Discipline.{TakesFile, TakesInOrder}
use Rattle.qls_pool.specs.Files.{IdsDiffer, HeadedFile}
use Rattle.qls_pool.specs.Moments.{Chain}
use Rattle.qls_pool.proofs.Moments.{last-append}
use Rattle.qls_pool.proofs.Steps.{all_found, all_weaken, all_both}
use Rattle.qls_log.specs.Logs.{LogState}
use Rattle.qls_log.specs.Standing.{LogThere}
use Rattle.qls_log.specs.Leaving.{LeavesFile, LeavesInOrder, WritesFile, IsWritingStep, WritesInOrder}
use Rattle.qls_log.specs.Unwritten.{IsWrittenTo, LeaveFiles, history_with}
use Rattle.qls_queue.specs.Live.{LiveState, QueueThere}
use Rattle.qls_prepared.specs.Lists.{IsOwn, ThereBy}
use Rattle.qls_prepared.specs.Moments.{WrittenBy}
use Rattle.qls_journals.specs.State.{IsKept}
use Rattle.qls_journals.specs.Homes.{Homes, TakesFrom, TakesFromHome}
use Rattle.qls_store.specs.Stores.{StoreState, IsStore, Fits, IsClean}
use Rattle.qls_journals.specs.Moments.{AreWritten}
use Rattle.qls_top.specs.Running.{AnswersInOrder}

-- ---- histories

abbrev of_since : Moment → List Moment → History
of_since m ms = record { start = m; since = ms }

pub now_next : (h : History) (m : Moment) → now (next h m) ≡ m
now_next h m = last_two h.start h.since
  where
    last_two : (k : Moment) (xs : List Moment) → last_of k (xs ++ m ∷ []) ≡ m
    last_two k [] = refl
    last_two k (x ∷ xs) = last_two x xs

pub now_with : (h : History) (ms : List Moment) → now (history_with h ms) ≡ last_of (now h) ms
now_with h ms = last-append (λ m n. Unit {0}) h.start h.since ms

pub with_none : (h : History) → history_with h [] ≡ h
with_none h = ap (of_since h.start) (append-nil h.since)

pub with_next : (h : History) (m : Moment) (ms : List Moment) → history_with (next h m) ms ≡ history_with h (m ∷ ms)
with_next h m ms = ap (of_since h.start) (append_assoc h.since (m ∷ []) ms)

pub with_then : (h : History) (xs ys : List Moment) → history_with (history_with h xs) ys ≡ history_with h (xs ++ ys)
with_then h xs ys = ap (of_since h.start) (append_assoc h.since xs ys)

pub writes_then : (areas : List FreeArea) (h : History) (xs ys : List Moment) → WritesInOrder areas h xs → WritesInOrder areas (history_with h xs) ys → WritesInOrder areas h (xs ++ ys)
writes_then areas h [] ys a b = subst (λ (k : History). WritesInOrder areas k ys) (with_none h) b
writes_then areas h (m ∷ xs) ys a b = (a.0, writes_then areas (next h m) xs ys a.1 (subst (λ (k : History). WritesInOrder areas k ys) (sym (with_next h m xs)) b))

pub answers_then : (h : History) (xs ys : List Moment) → AnswersInOrder h xs → AnswersInOrder (history_with h xs) ys → AnswersInOrder h (xs ++ ys)
answers_then h [] ys a b = subst (λ (k : History). AnswersInOrder k ys) (with_none h) b
answers_then h (m ∷ xs) ys a b = (a.0, answers_then (next h m) xs ys a.1 (subst (λ (k : History). AnswersInOrder k ys) (sym (with_next h m xs)) b))

-- from the moment that is now on, and from the next one
chain_next : (R : Moment → Moment → Type 0) (h : History) (m : Moment) (ms : List Moment) → Chain R m ms → Chain R (now (next h m)) ms
chain_next R h m ms c = subst (λ (k : Moment). Chain R k ms) (sym (now_next h m)) c

-- ---- the whole of it, from its four parts

file_steps : (areas : List FreeArea) (h : History) (p : Option FileState) (g : FileState) → TakesFile areas h p g → WritesFile areas h p g → LeavesFile (now h) p g → FileSteps areas h p g
file_steps areas h None g takes writes leaves = takes
file_steps areas h (Some f) g takes writes leaves = record { taken = takes; returned = leaves; written = writes }

module _ (h : History) where
  abbrev was : FileState → Option FileState
  was g = file_of g.id (now h).disk

  abbrev Taken : FileState → Type 0
  Taken g = TakesFile [] h (was g) g

  abbrev Written : FileState → Type 0
  Written g = WritesFile [] h (was g) g

  abbrev Left : FileState → Type 0
  Left g = LeavesFile (now h) (was g) g

  all_steps : (d : Disk) → AllByRecursion Taken d → AllByRecursion Written d → AllByRecursion Left d → AllByRecursion (λ g. FileSteps [] h (was g) g) d
  all_steps d takes writes leaves =
      all_both (λ g. Taken g × Written g) Left (λ g. FileSteps [] h (was g) g) (λ g two l. file_steps [] h (was g) g two.0 two.1 l) d (all_both Taken Written (λ g. Taken g × Written g) (λ g t w. (t, w)) d takes writes) leaves

pub orderly_from : (h : History) (ms : List Moment) → TakesInOrder [] h ms → WritesInOrder [] h ms → Chain LeavesInOrder (now h) ms → AnswersInOrder h ms → IsOrderlyFrom [] h ms
orderly_from h [] takes writes leaves answers = tt
orderly_from h (m ∷ ms) takes writes leaves answers = (
  record { files = all_steps h m.disk takes.0 writes.0 leaves.0; answers = answers.0 },
  orderly_from (next h m) ms takes.1 writes.1 (chain_next LeavesInOrder h m ms leaves.1) answers.1,
)

-- ---- while nothing is answered

abbrev pub Silent : Moment → Moment → Type 0
Silent m n = n.answered ≡ m.answered

pub silent_answers : (h : History) (ms : List Moment) → Chain Silent (now h) ms → AnswersInOrder h ms
silent_answers h [] c = tt
silent_answers h (m ∷ ms) c = ((λ less. absurd (omega (arith, less, ap length c.0))), silent_answers (next h m) ms (chain_next Silent h m ms c.1))

-- ---- while the disk stays

abbrev pub SameDisk : Moment → Moment → Type 0
SameDisk m n = n.disk ≡ m.disk

not_both : (b : Bool) → b ≡ true → b ≡ false → ⊥
not_both b e k = cc

-- each file is the one that it was
each_same : (P : Option FileState → FileState → Type 0) (m n : Moment) → ((g : FileState) → P (Some g) g) → IdsDiffer m.disk → n.disk ≡ m.disk → AllByRecursion (λ g. P (file_of g.id m.disk) g) n.disk
each_same P m n one differ e =
    subst (λ (d : Disk). AllByRecursion (λ g. P (file_of g.id m.disk) g) d) (sym e)
    (all_weaken (λ g. file_of g.id m.disk ≡ Some g) (λ g. P (file_of g.id m.disk) g) (λ g found. subst (λ (o : Option FileState). P o g) (sym found) (one g)) m.disk (all_found m.disk differ))

pub same_leaves : (m n : Moment) → IdsDiffer m.disk → n.disk ≡ m.disk → LeavesInOrder m n
same_leaves m n differ e = each_same (LeavesFile m) m n (λ g used not. absurd (not_both (is_in_use g.place) used not)) differ e

pub same_pools : (homes : Homes) (m n : Moment) → IdsDiffer m.disk → n.disk ≡ m.disk → TakesFromHome homes m n
same_pools homes m n differ e = each_same (TakesFrom homes m.disk) m n (λ g not used. absurd (not_both (is_in_use g.place) used not)) differ e

no_more : (ws : List Write) (w : Write) → ws ≡ ws ++ w ∷ [] → ⊥
no_more ws w e = omega (arith, ap length e, length-append ws (w ∷ []))

same_writing : (areas : List FreeArea) (h : History) (m : Moment) → IdsDiffer (now h).disk → m.disk ≡ (now h).disk → IsWritingStep areas h m
same_writing areas h m differ e = each_same (WritesFile areas h) (now h) m (λ g w more. absurd (no_more g.pending w more)) differ e

pub same_chain : (R : Moment → Moment → Type 0) → ((m n : Moment) → IdsDiffer m.disk → n.disk ≡ m.disk → R m n) → (m : Moment) (ms : List Moment) → IdsDiffer m.disk → Chain SameDisk m ms → Chain R m ms
same_chain R one m [] differ c = tt
same_chain R one m (n ∷ ns) differ c = (one m n differ c.0, same_chain R one n ns (subst IdsDiffer (sym c.0) differ) c.1)

pub same_writes : (areas : List FreeArea) (h : History) (ms : List Moment) → IdsDiffer (now h).disk → Chain SameDisk (now h) ms → WritesInOrder areas h ms
same_writes areas h [] differ c = tt
same_writes areas h (m ∷ ms) differ c = (
  same_writing areas h m differ c.0,
  same_writes areas (next h m) ms (subst (λ (k : Moment). IdsDiffer k.disk) (sym (now_next h m)) (subst IdsDiffer (sym c.0) differ)) (chain_next SameDisk h m ms c.1),
)

pub same_takes : (areas : List FreeArea) (h : History) (ms : List Moment) → IdsDiffer (now h).disk → Chain SameDisk (now h) ms → TakesInOrder areas h ms
same_takes areas h [] differ c = tt
same_takes areas h (m ∷ ms) differ c = (
  each_same (TakesFile areas h) (now h) m (λ g not used. absurd (not_both (is_in_use g.place) used not)) differ c.0,
  same_takes areas (next h m) ms (subst (λ (k : Moment). IdsDiffer k.disk) (sym (now_next h m)) (subst IdsDiffer (sym c.0) differ)) (chain_next SameDisk h m ms c.1),
)

-- ---- what was written of a store's files stays so while the disk does

abbrev pub FilesStayWritten : Type 0
FilesStayWritten =
    (areas : List FreeArea) (h : History) (l : LogState) (ms : List Moment) → LogThere l (now h).disk → l.unsynced ≡ [] → LeaveFiles l (now h) ms → IsWrittenTo areas h l
    → IsWrittenTo areas (history_with h ms) l

each_file : (P : HeadedFile → Type 0) → ((f : HeadedFile) → P f) → (fs : List HeadedFile) → AllByRecursion P fs
each_file P one [] = tt
each_file P one (f ∷ fs) = (one f, each_file P one fs)

left_alone : (l : LogState) (m : Moment) (ms : List Moment) → Chain SameDisk m ms → LeaveFiles l m ms
left_alone l m [] c = tt
left_alone l m (n ∷ ns) c = (each_file (λ f. file_of f.id n.disk ≡ file_of f.id m.disk) (λ f. ap (file_of f.id) c.0) l.files, left_alone l n ns c.1)

queues_written : FilesStayWritten → (areas : List FreeArea) (h : History) (ms : List Moment) → Chain SameDisk (now h) ms → (qs : List LiveState) → AllByRecursion IsKept qs → AllByRecursion (λ q. QueueThere q (now h).disk) qs
    → AllByRecursion (λ q. IsWrittenTo areas h q.log) qs → AllByRecursion (λ q. IsWrittenTo areas (history_with h ms) q.log) qs
queues_written law areas h ms c [] kept there written = tt
queues_written law areas h ms c (q ∷ qs) kept there written = (
  law areas h q.log ms there.0 kept.0.sound.flushed (left_alone q.log (now h) ms c) written.0,
  queues_written law areas h ms c qs kept.1 there.1 written.1,
)

list_written : FilesStayWritten → (areas : List FreeArea) (h : History) (ms : List Moment) → Chain SameDisk (now h) ms → (home : PoolId) (l : Option LogState) → IsOwn l → ThereBy home l (now h).disk → WrittenBy areas h l
    → WrittenBy areas (history_with h ms) l
list_written law areas h ms c home None own there written = tt
list_written law areas h ms c home (Some l) own there written = law areas h l ms there own.flushed (left_alone l (now h) ms c) written

pub stays_written : FilesStayWritten → (areas : List FreeArea) (h : History) (ms : List Moment) (s : StoreState) → IsStore s → Fits s (now h).disk → Chain SameDisk (now h) ms → AreWritten areas h s.journals
    → AreWritten areas (history_with h ms) s.journals
stays_written law areas h ms s store fits c written = record {
  queues = queues_written law areas h ms c s.journals.queues store.journals.kept fits.queues written.queues;
  list = list_written law areas h ms c s.journals.list.home s.journals.list.log store.journals.list.sound.log fits.list written.list;
}

-- ---- the answer of a clean store

abbrev pub NothingDead : Type 0
NothingDead = (s : StoreState) (d : Disk) → IsStore s → Fits s d → IsClean s d → NoneDead (full d)

abbrev pub ReadsWritten : Type 0
ReadsWritten =
    (areas : List FreeArea) (h : History) (s : StoreState) → IsStore s → Fits s (now h).disk → IsClean s (now h).disk → AreWritten areas h s.journals
    → EachPlaceOf (SpellsWritten areas h) (full (now h).disk)

module _ (alive : NothingDead) (reads : ReadsWritten) (stays : FilesStayWritten) (s : StoreState) (store : IsStore s) where
  answers_whole : (h : History) (m : Moment) → Fits s m.disk → IsClean s m.disk → AreWritten [] (next h m) s.journals → AnswersWhole [] h m
  answers_whole h m fits clean written =
      let at : now (next h m) ≡ m = now_next h m in
      record {
        none_dead = alive s m.disk store fits clean;
        written = subst (λ (k : Moment). EachPlaceOf (SpellsWritten [] (next h m)) (full k.disk)) at
            (reads [] (next h m) s store (subst (λ (k : Moment). Fits s k.disk) (sym at) fits) (subst (λ (k : Moment). IsClean s k.disk) (sym at) clean) written);
      }

  -- moments that change no disk, of which some may answer
  pub whole_answers : (h : History) (ms : List Moment) → Fits s (now h).disk → IsClean s (now h).disk → Chain SameDisk (now h) ms → AreWritten [] h s.journals → AnswersInOrder h ms
  whole_answers h [] fits clean c written = tt
  whole_answers h (m ∷ ms) fits clean c written =
      let fits_now : Fits s m.disk = subst (Fits s) (sym c.0) fits in
      let clean_now : IsClean s m.disk = subst (IsClean s) (sym c.0) clean in
      let after : AreWritten [] (next h m) s.journals = stays_written stays [] h (m ∷ []) s store fits (c.0, tt) written in (
        (λ more. answers_whole h m fits_now clean_now after),
        whole_answers (next h m) ms (subst (λ (k : Moment). Fits s k.disk) (sym (now_next h m)) fits_now) (subst (λ (k : Moment). IsClean s k.disk) (sym (now_next h m)) clean_now) (chain_next SameDisk h m ms c.1) after,
      )
