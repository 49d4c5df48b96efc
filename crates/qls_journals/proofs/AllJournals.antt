-- The journals on the disk of a store are the prepared list's, where it has a file, and those of the queues, in order of their names.
use Rattle.std.proofs.Common.{◌≡◌, inl, inr, ℕ, ◌<◌, Bool, true, false, cond, not, ◌&&◌, ◌||◌, List, [], ◌∷◌, ◌++◌, map, length, Option, Some, None, refl, sym, ap, ap₂, ◌∙◌, subst, arith}
use Rattle.std.proofs.lemmas.Bool.{and_parts}
use Rattle.std.specs.List.{AllByRecursion, filter, list_any}
use Rattle.qls_model.specs.Bytes.{same, comes_before, is_listed}
use Rattle.qls_model.specs.declared.machine.PoolId.{PoolId}
use Rattle.qls_model.proofs.XidKeys.{same_true, same_self}
use Rattle.qls_site.specs.declared.site.ImageFile.{ImageFile}
use Rattle.qls_site.specs.Disk.{Disk, FileState, full, full_file, file_of}
use Rattle.qls_filehdr.specs.declared.FileHeader.{FileHeader}
use Rattle.qls_filehdr.specs.declared.JournalKind.{JournalKind}
use Rattle.qls_filehdr.specs.declared.JournalKind.TheVariants.{Queue, List as Listed}
use Rattle.qls_meaning.specs.Journals.{Headed, Journal, is_queue, is_of, is_in_use, in_use, empties, headed, by_number, journal, with_name, queue_names, journals_of}
use Rattle.qls_meaning.specs.Orderly.{journal_on}
use Rattle.qls_laws.proofs.EntryOrder.{is_less}
use Rattle.qls_laws.proofs.NameOrder.{SortedNames, sorted_names, same_names}
use Rattle.qls_pool.specs.Files.{IdsDiffer}
use Rattle.qls_pool.proofs.Steps.{all_found}
use Rattle.qls_log.specs.Logs.{LogState, capacity_in}
use Rattle.qls_log.specs.Standing.{files_on, LogThere}
use Rattle.qls_log.proofs.Older.{those_count}
use Rattle.qls_log.proofs.Splits.{heads, by_number-back}
use Rattle.qls_queue.specs.Live.{LiveState, QueueThere}
use Rattle.qls_prepared.specs.Lists.{PreparedState, IsOwn, ThereBy}
use Rattle.qls_journals.specs.State.{JournalsState, queue_held, IsKept, NamesRise, names_of, AreJournals, NamesList, NamesJournal, AllNamed, Fits}

-- ---- what holds of all

pub all_weaken : {A : Type 0} (P Q : A → Type 0) → ((x : A) → P x → Q x) → (xs : List A) → AllByRecursion P xs → AllByRecursion Q xs
all_weaken P Q w [] h = tt
all_weaken P Q w (x ∷ xs) h = (w x h.0, all_weaken P Q w xs h.1)

pub all_joined : {A : Type 0} (P Q R : A → Type 0) → ((x : A) → P x → Q x → R x) → (xs : List A) → AllByRecursion P xs → AllByRecursion Q xs → AllByRecursion R xs
all_joined P Q R w [] h k = tt
all_joined P Q R w (x ∷ xs) h k = (w x h.0 k.0, all_joined P Q R w xs h.1 k.1)

pub all_mapped : {A B : Type 0} (P : B → Type 0) (f : A → B) (xs : List A) → AllByRecursion (λ x. P (f x)) xs → AllByRecursion P (map f xs)
all_mapped P f [] h = tt
all_mapped P f (x ∷ xs) h = (h.0, all_mapped P f xs h.1)

-- ---- files of a disk

filtered : {A : Type 0} (P : A → Type 0) (test : A → Bool) (xs : List A) → AllByRecursion (λ x. test x ≡ true → P x) xs → AllByRecursion P (filter test xs)
filtered P test [] h = tt
filtered P test (x ∷ xs) h = by (test x) refl (filtered P test xs h.1)
  where
    by : (b : Bool) → test x ≡ b → AllByRecursion P (filter test xs) → AllByRecursion P (cond b (x ∷ filter test xs) (filter test xs))
    by true e rest = (h.0 e, rest)
    by false e rest = rest

pub all_in_use : (P : ImageFile → Type 0) (d : Disk) → AllByRecursion (λ f. is_in_use f.place ≡ true → P (full_file f)) d → AllByRecursion P (in_use (full d))
all_in_use P d h = filtered P (λ f. is_in_use f.place) (full d) (all_mapped (λ (f : ImageFile). is_in_use f.place ≡ true → P f) full_file d h)

pub all_empty : (P : ImageFile → Type 0) (d : Disk) → AllByRecursion (λ f. not (is_in_use f.place) ≡ true → P (full_file f)) d → AllByRecursion P (empties (full d))
all_empty P d h = filtered P (λ f. not (is_in_use f.place)) (full d) (all_mapped (λ (f : ImageFile). not (is_in_use f.place) ≡ true → P f) full_file d h)

pub named_files : (qs : List LiveState) (d : Disk) → IdsDiffer d → AllNamed qs d → AllByRecursion (λ f. NamesJournal qs (headed f).header) (in_use (full d))
named_files qs d differ named =
    all_in_use (λ f. NamesJournal qs (headed f).header) d
    (all_weaken (λ (g : FileState). file_of g.id d ≡ Some g) (λ g. is_in_use g.place ≡ true → NamesJournal qs (headed (full_file g)).header) (λ g found used. named g.id g found used) d (all_found d differ))

named_heads : (qs : List LiveState) (d : Disk) → IdsDiffer d → AllNamed qs d → AllByRecursion (λ f. NamesJournal qs f.header) (heads d)
named_heads qs d differ named = all_mapped (λ f. NamesJournal qs f.header) headed (in_use (full d)) (named_files qs d differ named)

-- ---- the queue of a name

pub held_has : (P : LiveState → Type 0) (name : List ℕ) (qs : List LiveState) (q : LiveState) → AllByRecursion P qs → queue_held name qs ≡ Some q → P q
held_has P name [] q h e = absurd (cc)
held_has P name (r ∷ qs) q h e = by (same r.queue.name name) (held_has P name qs q h.1) e
  where
    by : (b : Bool) → (queue_held name qs ≡ Some q → P q) → cond b (Some r) (queue_held name qs) ≡ Some q → P q
    by true later e = let is : r ≡ q = cc in subst P is h.0
    by false later e = later e

pub held_name : (name : List ℕ) (qs : List LiveState) (q : LiveState) → queue_held name qs ≡ Some q → q.queue.name ≡ name
held_name name [] q e = absurd (cc)
held_name name (r ∷ qs) q e = by (same r.queue.name name) refl (held_name name qs q) e
  where
    by : (b : Bool) → same r.queue.name name ≡ b → (queue_held name qs ≡ Some q → q.queue.name ≡ name) → cond b (Some r) (queue_held name qs) ≡ Some q → q.queue.name ≡ name
    by true is later e = let own : r ≡ q = cc in ap (λ (x : LiveState). x.queue.name) (sym own) ∙ same_true r.queue.name name is
    by false is later e = later e

-- ---- names

not_both : true ≡ false → ⊥
not_both e = cc

either : (a b : Bool) → (a ≡ true → b ≡ true) → (b ≡ true → a ≡ true) → a ≡ b
either true b f g = sym (f refl)
either false true f g = absurd (cc (g refl))
either false false f g = refl

here_or : (a b : Bool) → a ≡ true → (a || b) ≡ true
here_or a b e = ap (λ x. x || b) e

later_or : (a b : Bool) → b ≡ true → (a || b) ≡ true
later_or true b e = refl
later_or false b e = e

turned : (a b : List ℕ) → same a b ≡ true → same b a ≡ true
turned a b e = ap (λ x. same b x) (same_true a b e) ∙ same_self b

held_listed : (name : List ℕ) (qs : List LiveState) (q : LiveState) → queue_held name qs ≡ Some q → is_listed name (names_of qs) ≡ true
held_listed name [] q e = absurd (cc)
held_listed name (r ∷ qs) q e = by (same r.queue.name name) refl (held_listed name qs q) e
  where
    by : (b : Bool) → same r.queue.name name ≡ b → (queue_held name qs ≡ Some q → is_listed name (names_of qs) ≡ true) → cond b (Some r) (queue_held name qs) ≡ Some q → is_listed name (names_of (r ∷ qs)) ≡ true
    by true is later e = here_or (same name r.queue.name) (is_listed name (names_of qs)) (turned r.queue.name name is)
    by false is later e = later_or (same name r.queue.name) (is_listed name (names_of qs)) (later e)

or_twice : (a b : Bool) → (a || b) ≡ (a || (a || b))
or_twice true b = refl
or_twice false b = refl

or_turn : (a b c : Bool) → (a || (b || c)) ≡ (b || (a || c))
or_turn true true c = refl
or_turn true false c = refl
or_turn false true c = refl
or_turn false false c = refl

listed_step : (x n m : List ℕ) (ms : List (List ℕ)) (b c : Bool) → same n m ≡ b → is_listed x (with_name n ms) ≡ (same x n || is_listed x ms)
    → is_listed x (cond b (m ∷ ms) (cond c (n ∷ m ∷ ms) (m ∷ with_name n ms))) ≡ (same x n || is_listed x (m ∷ ms))
listed_step x n m ms true c e h = or_twice (same x m) (is_listed x ms) ∙ ap (λ k. same x k || is_listed x (m ∷ ms)) (sym (same_true n m e))
listed_step x n m ms false true e h = refl
listed_step x n m ms false false e h = ap (λ b. same x m || b) h ∙ or_turn (same x m) (same x n) (is_listed x ms)

listed_with : (x n : List ℕ) (ns : List (List ℕ)) → is_listed x (with_name n ns) ≡ (same x n || is_listed x ns)
listed_with x n [] = refl
listed_with x n (m ∷ ms) = listed_step x n m ms (same n m) (comes_before n m) refl (listed_with x n ms)

-- a name is listed where a queue's file has it
listed_names : (x : List ℕ) (fs : List Headed) → is_listed x (queue_names fs) ≡ list_any (is_of Queue x) fs
listed_names x [] = refl
listed_names x (f ∷ fs) =
    elim (is_queue f.header.kind) as (λ b. is_listed x (cond b (with_name f.header.name (queue_names fs)) (queue_names fs)) ≡ ((b && same x f.header.name) || list_any (is_of Queue x) fs)) [
      | true ↦ listed_with x f.header.name (queue_names fs) ∙ ap (λ b. same x f.header.name || b) (listed_names x fs)
      | false ↦ listed_names x fs
    ]

module _ (qs : List LiveState) (x : List ℕ) where
  -- a file of the name is of a queue of the store
  file_listed : (f : Headed) → NamesJournal qs f.header → is_of Queue x f ≡ true → is_listed x (names_of qs) ≡ true
  file_listed f (inl n) own =
      let is : x ≡ f.header.name = same_true x f.header.name (and_parts (is_queue f.header.kind) (same x f.header.name) own).1 in
      ap (λ z. is_listed z (names_of qs)) is ∙ held_listed f.header.name qs n.queue n.there
  file_listed f (inr n) own = absurd (not_both (sym (and_parts (is_queue f.header.kind) (same x f.header.name) own).0 ∙ ap is_queue n.kind))

  files_listed : (fs : List Headed) → AllByRecursion (λ f. NamesJournal qs f.header) fs → list_any (is_of Queue x) fs ≡ true → is_listed x (names_of qs) ≡ true
  files_listed [] h e = absurd (cc)
  files_listed (f ∷ fs) h e = by (is_of Queue x f) refl (files_listed fs h.1) e
    where
      by : (b : Bool) → is_of Queue x f ≡ b → (list_any (is_of Queue x) fs ≡ true → is_listed x (names_of qs) ≡ true) → (b || list_any (is_of Queue x) fs) ≡ true → is_listed x (names_of qs) ≡ true
      by true own later e = file_listed f h.0 own
      by false own later e = later e

-- a queue of the store has a file
listed_has : (x : List ℕ) (fs : List Headed) (qs : List LiveState) → AllByRecursion (λ q. list_any (is_of Queue q.queue.name) fs ≡ true) qs → is_listed x (names_of qs) ≡ true → list_any (is_of Queue x) fs ≡ true
listed_has x fs [] h e = absurd (cc)
listed_has x fs (q ∷ qs) h e = by (same x q.queue.name) refl (listed_has x fs qs h.1) e
  where
    by : (b : Bool) → same x q.queue.name ≡ b → (is_listed x (names_of qs) ≡ true → list_any (is_of Queue x) fs ≡ true) → (b || is_listed x (names_of qs)) ≡ true → list_any (is_of Queue x) fs ≡ true
    by true is later e = ap (λ z. list_any (is_of Queue z) fs) (same_true x q.queue.name is) ∙ h.0
    by false is later e = later e

none_left : (test : Headed → Bool) (fs : List Headed) → list_any test fs ≡ false → filter test fs ≡ []
none_left test [] e = refl
none_left test (f ∷ fs) e = by (test f) (none_left test fs) e
  where
    by : (b : Bool) → (list_any test fs ≡ false → filter test fs ≡ []) → (b || list_any test fs) ≡ false → cond b (f ∷ filter test fs) (filter test fs) ≡ []
    by true later e = absurd (cc)
    by false later e = later e

-- a log that stands has a file
some_file : (l : LogState) (d : Disk) → 0 < length l.files → LogThere l d → list_any (is_of l.opening.kind l.opening.name) (heads d) ≡ true
some_file l d some there = by (list_any own (heads d)) refl
  where
    own : Headed → Bool
    own = is_of l.opening.kind l.opening.name

    count : length (files_on l.opening d) ≡ length l.files
    count = those_count (capacity_in l.opening) l.files (files_on l.opening d) there.there.files

    by : (b : Bool) → list_any own (heads d) ≡ b → b ≡ true
    by true e = refl
    by false e =
        let none : length (files_on l.opening d) ≡ 0 = ap (λ (x : List Headed). length (by_number x)) (none_left own (heads d) e) in
        absurd (omega (arith, count, none, some))

-- the kind and the name under which the log's files stand
own_name : (q : LiveState) → IsKept q → (P : JournalKind → List ℕ → Type 0) → P q.log.opening.kind q.log.opening.name → P Queue q.queue.name
own_name q kept P h = subst (λ (X : Type 0). X) (λ i. P (kept.sound.kind i) (sym kept.sound.name i)) h

has_file : (q : LiveState) (d : Disk) → IsKept q → QueueThere q d → list_any (is_of Queue q.queue.name) (heads d) ≡ true
has_file q d kept there = own_name q kept (λ kind name. list_any (is_of kind name) (heads d) ≡ true) (some_file q.log d kept.sound.some there)

sorted : (ns : List (List ℕ)) → NamesRise ns → SortedNames ns
sorted [] h = tt
sorted (n ∷ ns) h = (all_weaken (λ m. comes_before n m ≡ true) _ (λ m e. is_less _ e) ns h.0, sorted ns h.1)

pub names_on : (s : JournalsState) (d : Disk) → AreJournals s → Fits s d → queue_names (heads d) ≡ names_of s.queues
names_on s d are fits =
    same_names (queue_names (heads d)) (names_of s.queues) (sorted_names (heads d)) (sorted (names_of s.queues) are.rising)
    (λ x. listed_names x (heads d) ∙ either (list_any (is_of Queue x) (heads d)) (is_listed x (names_of s.queues)) (files_listed s.queues x (heads d) (named_heads s.queues d fits.pool.0 fits.own)) (listed_has x (heads d) s.queues files))
  where
    files : AllByRecursion (λ q. list_any (is_of Queue q.queue.name) (heads d) ≡ true) s.queues
    files = all_joined IsKept (λ q. QueueThere q d) _ (λ q k t. has_file q d k t) s.queues are.kept fits.queues

-- ---- the list's journal

abbrev pub log_journal : Disk → LogState → Journal
log_journal d l = journal_on d l.opening.kind l.opening.name

abbrev pub list_part : Disk → Option LogState → List Journal
list_part d None = []
list_part d (Some l) = log_journal d l ∷ []

abbrev is_list : Headed → Bool
is_list f = not (is_queue f.header.kind)

names_none : (f : Headed) → (is_of Listed [] f ≡ true → ⊥) → NamesList f.header → ⊥
names_none f none n = none (ap₂ (λ k (m : List ℕ). not (is_queue k) && same [] m) n.kind n.name)

-- where no file is the list's, each is a queue's
no_list : (qs : List LiveState) (fs : List Headed) → AllByRecursion (λ f. NamesJournal qs f.header) fs → AllByRecursion (λ f. is_of Listed [] f ≡ true → ⊥) fs → list_any is_list fs ≡ false
no_list qs [] h none = refl
no_list qs (f ∷ fs) h none = by h.0 (no_list qs fs h.1 none.1)
  where
    by : NamesJournal qs f.header → list_any is_list fs ≡ false → list_any is_list (f ∷ fs) ≡ false
    by (inl n) later = ap (λ k. not (is_queue k) || list_any is_list fs) n.kind ∙ later
    by (inr n) later = absurd (names_none f none.0 n)

some_list : (name : List ℕ) (fs : List Headed) → list_any (is_of Listed name) fs ≡ true → list_any is_list fs ≡ true
some_list name [] e = absurd (cc)
some_list name (f ∷ fs) e = by (is_list f) refl (some_list name fs) e
  where
    by : (b : Bool) → is_list f ≡ b → (list_any (is_of Listed name) fs ≡ true → list_any is_list fs ≡ true) → ((b && same name f.header.name) || list_any (is_of Listed name) fs) ≡ true → (b || list_any is_list fs) ≡ true
    by true is later e = refl
    by false is later e = later e

unfiltered : {A : Type 0} (test : A → Bool) (xs : List A) → AllByRecursion (λ x. ⊥) (filter test xs) → AllByRecursion (λ x. test x ≡ true → ⊥) xs
unfiltered test [] h = tt
unfiltered test (x ∷ xs) h = (here (test x) refl h, unfiltered test xs (rest (test x) h))
  where
    here : (b : Bool) → test x ≡ b → AllByRecursion (λ y. ⊥) (cond b (x ∷ filter test xs) (filter test xs)) → test x ≡ true → ⊥
    here true e k = λ u. k.0
    here false e k = λ u. not_both (sym u ∙ e)

    rest : (b : Bool) → AllByRecursion (λ y. ⊥) (cond b (x ∷ filter test xs) (filter test xs)) → AllByRecursion (λ y. ⊥) (filter test xs)
    rest true k = k.1
    rest false k = k

none_listed : (home : PoolId) (d : Disk) → ThereBy home None d → AllByRecursion (λ f. is_of Listed [] f ≡ true → ⊥) (heads d)
none_listed home d there = unfiltered (is_of Listed []) (heads d) (by_number-back (λ f. ⊥) (filter (is_of Listed []) (heads d)) (subst (AllByRecursion (λ f. ⊥)) (sym there) tt))

-- only a list with a log has files
abbrev pub MayName : Option LogState → FileHeader → Type 0
MayName None h = NamesList h → ⊥
MayName (Some l) h = Unit {0}

unmapped : {A B : Type 0} (P : B → Type 0) (f : A → B) (xs : List A) → AllByRecursion P (map f xs) → AllByRecursion (λ x. P (f x)) xs
unmapped P f [] h = tt
unmapped P f (x ∷ xs) h = (h.0, unmapped P f xs h.1)

pub may_name : (home : PoolId) (d : Disk) (log : Option LogState) → ThereBy home log d → AllByRecursion (λ f. MayName log (headed f).header) (in_use (full d))
may_name home d None there = unmapped (λ f. MayName None f.header) headed (in_use (full d)) (all_weaken (λ f. is_of Listed [] f ≡ true → ⊥) (λ f. NamesList f.header → ⊥) names_none (heads d) (none_listed home d there))
may_name home d (Some l) there = unmapped (λ f. MayName (Some l) f.header) headed (in_use (full d)) (all_of (heads d))
  where
    all_of : (fs : List Headed) → AllByRecursion (λ f. Unit {0}) fs
    all_of [] = tt
    all_of (f ∷ fs) = (tt, all_of fs)

list_is : (qs : List LiveState) (p : PreparedState) (d : Disk) → AllByRecursion (λ f. NamesJournal qs f.header) (heads d) → (log : Option LogState) → IsOwn log → ThereBy p.home log d
    → cond (list_any is_list (heads d)) (journal (heads d) Listed [] ∷ []) [] ≡ list_part d log
list_is qs p d named None own there =
    ap (λ b. cond b (journal (heads d) Listed [] ∷ []) [])
    (no_list qs (heads d) named (none_listed p.home d there))
list_is qs p d named (Some l) own there =
    ap (λ b. cond b (journal (heads d) Listed [] ∷ []) [])
    (some_list [] (heads d) ((λ i. list_any (is_of (sym own.kind i) (sym own.name i)) (heads d)) ∙ some_file l d own.sound.some there))
    ∙ (λ i. journal (heads d) (sym own.kind i) (sym own.name i) ∷ [])

-- ---- journals

abbrev pub journal_of : Disk → LiveState → Journal
journal_of d q = log_journal d q.log

own_journals : (d : Disk) (qs : List LiveState) → AllByRecursion IsKept qs → map (journal (heads d) Queue) (names_of qs) ≡ map (journal_of d) qs
own_journals d [] h = refl
own_journals d (q ∷ qs) h =
    ap₂ (λ (j : Journal) (js : List Journal). j ∷ js) (λ i. journal (heads d) (sym h.0.sound.kind i) (h.0.sound.name i)) (own_journals d qs h.1)

pub all_journals : (s : JournalsState) (d : Disk) → AreJournals s → Fits s d → journals_of (full d) ≡ list_part d s.list.log ++ map (journal_of d) s.queues
all_journals s d are fits =
    ap (λ (js : List Journal). js ++ map (journal (heads d) Queue) (queue_names (heads d))) (list_is s.queues s.list d (named_heads s.queues d fits.pool.0 fits.own) s.list.log are.list.sound.log fits.list)
    ∙ ap (λ (js : List Journal). list_part d s.list.log ++ js) (ap (map (journal (heads d) Queue)) (names_on s d are fits) ∙ own_journals d s.queues are.kept)
