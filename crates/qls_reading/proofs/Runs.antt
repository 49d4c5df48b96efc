-- The epochs of a journal, one after another.
use Rattle.std.proofs.Common.{◌≡◌, ℕ, zero, suc, ◌+◌, ◌-◌, ◌<◌, ◌≤◌, Bool, true, false, cond, not, List, [], ◌∷◌, ◌++◌, map, length, take, drop, Option, Some, None, IfSome, Ok, Err, refl, sym, ap, ap₂, ◌∙◌, subst, arith, eqb, append_assoc, length-append, length-drop}
use Rattle.std.specs.List.{AllByRecursion, filter}
use Rattle.std.proofs.lemmas.List.{drop-drop}
use Rattle.std.proofs.Math.Seq.{take-length}
use Rattle.std.proofs.lemmas.Bool.Decides.{nat_tests}
use Rattle.qls_shape.specs.Claims.{◌>>=◌}
use Rattle.qls_site.specs.Disk.{Disk}
use Rattle.qls_site.specs.Content.{Content}
use Rattle.qls_record.specs.Record.{is_filler, is_enqueue}
use Rattle.qls_meaning.specs.Journals.{Headed, onto_epoch, epochs}
use Rattle.qls_meaning.specs.Reading.{Placed, Read, located, epoch_reading, reads_of, read_of}
use Rattle.qls_meaning.specs.Damage.{Checked, Damage, rid_at_end, epoch_claims, epochs_claims}
use Rattle.qls_meaning.specs.Dead.{past_in}
use Rattle.qls_meaning.specs.Spent.{rid_of_reads}
use Rattle.qls_laws.proofs.Rules.{filter-append}
use Rattle.qls_scan.specs.declared.answers.HeadedFile.{HeadedFile}
use Rattle.qls_reading.specs.declared.tally.Tally.{Tally}
use Rattle.qls_reading.specs.declared.fault.LogFault.{LogFault}
use Rattle.qls_reading.specs.declared.fault.LogFault.TheVariants.{Failed, Memory, Damaged}
use Rattle.qls_reading.specs.Groups.{run_of, first_run, AreCounted}
use Rattle.qls_reading.specs.Left.{file_on, files_on, AreOnSite, AreTallied, IsEpochRead, ReadsEpoch, AreEpochsRead, ReadsEpochs}
use Rattle.qls_reading.proofs.Enter.{counted_rest}

-- ---- runs of one epoch

same_number : (m n : ℕ) → eqb m n ≡ eqb n m
same_number m n = by_test (eqb n m) refl
  where
    by_test : (b : Bool) → eqb n m ≡ b → eqb m n ≡ b
    by_test true e = grind (arith, nat_tests, e)
    by_test false e = grind (arith, nat_tests, e)

take_run : (epoch : ℕ) (hs : List HeadedFile) → take (length (run_of epoch hs)) hs ≡ run_of epoch hs
take_run epoch [] = refl
take_run epoch (h ∷ hs) = elim (eqb h.header.epoch epoch) as (λ b. take (length (cond b (h ∷ run_of epoch hs) [])) (h ∷ hs) ≡ cond b (h ∷ run_of epoch hs) []) [
  | true ↦ ap (λ (r : List HeadedFile). h ∷ r) (take_run epoch hs)
  | false ↦ refl
]

pub take_first : (hs : List HeadedFile) → take (length (first_run hs)) hs ≡ first_run hs
take_first [] = refl
take_first (h ∷ hs) = ap (λ (r : List HeadedFile). h ∷ r) (take_run h.header.epoch hs)

module _ (d : Disk) where
  -- the first epoch and the others
  runs : (h : HeadedFile) (hs : List HeadedFile) → epochs (files_on d (h ∷ hs)) ≡ files_on d (h ∷ run_of h.header.epoch hs) ∷ epochs (files_on d (drop (length (run_of h.header.epoch hs)) hs))
  runs h [] = refl
  runs h (g ∷ hs) =
      ap (onto_epoch (file_on d h)) (runs g hs)
      ∙ by_test (eqb h.header.epoch g.header.epoch) refl (runs g hs)
    where
      by_test : (b : Bool) → eqb h.header.epoch g.header.epoch ≡ b
          → epochs (files_on d (g ∷ hs)) ≡ files_on d (g ∷ run_of g.header.epoch hs) ∷ epochs (files_on d (drop (length (run_of g.header.epoch hs)) hs))
          → cond b ((file_on d h ∷ file_on d g ∷ files_on d (run_of g.header.epoch hs)) ∷ epochs (files_on d (drop (length (run_of g.header.epoch hs)) hs)))
          ((file_on d h ∷ []) ∷ (file_on d g ∷ files_on d (run_of g.header.epoch hs)) ∷ epochs (files_on d (drop (length (run_of g.header.epoch hs)) hs)))
          ≡ files_on d (h ∷ run_of h.header.epoch (g ∷ hs)) ∷ epochs (files_on d (drop (length (run_of h.header.epoch (g ∷ hs))) (g ∷ hs)))
      by_test true e rest =
          let same : g.header.epoch ≡ h.header.epoch = grind (arith, nat_tests, e) in
          let is : run_of h.header.epoch (g ∷ hs) ≡ g ∷ run_of h.header.epoch hs = ap (λ b. cond b (g ∷ run_of h.header.epoch hs) []) (same_number g.header.epoch h.header.epoch ∙ e) in
          ap (λ n. (file_on d h ∷ file_on d g ∷ files_on d (run_of n hs)) ∷ epochs (files_on d (drop (length (run_of n hs)) hs))) same
          ∙ ap (λ r. files_on d (h ∷ r) ∷ epochs (files_on d (drop (length r) (g ∷ hs)))) (sym is)
      by_test false e rest =
          let is : run_of h.header.epoch (g ∷ hs) ≡ [] = ap (λ b. cond b (g ∷ run_of h.header.epoch hs) []) (same_number g.header.epoch h.header.epoch ∙ e) in
          ap (λ (es : List (List Headed)). (file_on d h ∷ []) ∷ es) (sym rest)
          ∙ ap (λ r. files_on d (h ∷ r) ∷ epochs (files_on d (drop (length r) (g ∷ hs)))) (sym is)

  pub first_epoch : (hs : List HeadedFile) → 0 < length hs → epochs (files_on d hs) ≡ files_on d (first_run hs) ∷ epochs (files_on d (drop (length (first_run hs)) hs))
  first_epoch [] l = absurd (omega (arith, l))
  first_epoch (h ∷ hs) l = runs h hs

some_onto : (f : Headed) (es : List (List Headed)) → 0 < length (onto_epoch f es)
some_onto f [] = omega arith
some_onto f ([] ∷ es) = omega arith
some_onto f ((g ∷ e) ∷ es) = elim (eqb f.header.epoch g.header.epoch) as (λ b. 0 < length (cond b ((f ∷ g ∷ e) ∷ es) ((f ∷ []) ∷ (g ∷ e) ∷ es))) [ true ↦ omega arith | false ↦ omega arith ]

-- ---- tallies

rid_append : (rid : ℕ) (xs ys : List Read) → rid_of_reads rid (xs ++ ys) ≡ rid_of_reads (rid_of_reads rid xs) ys
rid_append rid [] ys = refl
rid_append rid (x ∷ xs) ys = rid_append (cond (is_enqueue x.what.kind) x.what.rid rid) xs ys

rid_at : (fs : List Headed) (rid : ℕ) (rs : List Placed) → rid_of_reads rid (map (located fs) rs) ≡ rid_at_end rid rs
rid_at fs rid [] = refl
rid_at fs rid (r ∷ rs) = rid_at fs (cond (is_enqueue r.what.kind) r.what.rid rid) rs

-- what was taken, and what these records add to it, is all
pub record AddUp (rs all : List Read) (old now : Tally) : Type 0 where
  pub reads : map read_of now.reads ++ filter (λ r. not (is_filler r.what.kind)) rs ≡ map read_of old.reads ++ filter (λ r. not (is_filler r.what.kind)) all
  pub rid : rid_of_reads now.rid rs ≡ rid_of_reads old.rid all
  pub fillers : now.fillers + length (filter (λ r. is_filler r.what.kind) rs) ≡ old.fillers + length (filter (λ r. is_filler r.what.kind) all)

adds_up : (xs ys all : List Read) (old now after : Tally) → AddUp (xs ++ ys) all old now → AreTallied xs now after → AddUp ys all old after
adds_up xs ys all old now after so t =
    let keeps : Read → Bool = λ r. not (is_filler r.what.kind) in
    let fills : Read → Bool = λ r. is_filler r.what.kind in
    let apart = ap length (filter-append fills xs ys) in
    record {
      reads = ap (λ (rs : List Read). rs ++ filter keeps ys) t.reads ∙ append_assoc (map read_of now.reads) (filter keeps xs) (filter keeps ys)
          ∙ ap (λ (rs : List Read). map read_of now.reads ++ rs) (sym (filter-append keeps xs ys)) ∙ so.reads;
      rid = ap (λ n. rid_of_reads n ys) t.rid ∙ sym (rid_append now.rid xs ys) ∙ so.rid;
      fillers = omega (arith, t.fillers, so.fillers, apart, length-append (filter fills xs) (filter fills ys));
    }

-- ---- the epochs that are left

-- how many files are past, or will be
abbrev pub PastLeft : Bool → ℕ → List (List Headed) → ℕ → Type 0
PastLeft oldest past [] all = past ≡ all
PastLeft oldest past (e ∷ es) all = length (past_in oldest (e ∷ es)) ≡ all

pub record AreLeft (oldest : Bool) (es all : List (List Headed)) (old now : Tally) (count : ℕ) : Type 0 where
  pub claims : epochs_claims true old.rid all ≡ epochs_claims oldest now.rid es
  pub taken : AddUp (reads_of oldest es) (reads_of true all) old now
  pub past : PastLeft oldest count es (length (past_in true all))

abbrev pub is_none : List (List Headed) → Bool
is_none [] = true
is_none (e ∷ es) = false

pub none_taken : (all : List (List Headed)) (old : Tally) → AreLeft true all all old old 0
none_taken all old = record { claims = refl; taken = record { reads = refl; rid = refl; fillers = refl }; past = past all }
  where
    past : (es : List (List Headed)) → PastLeft true 0 es (length (past_in true es))
    past [] = refl
    past (e ∷ es) = refl

pub all_taken : (oldest : Bool) (all : List (List Headed)) (old now : Tally) (count : ℕ) → AreLeft oldest [] all old now count → AreEpochsRead true all old now count
all_taken oldest all old now count so = record {
  claims = so.claims;
  tallied = record {
    reads = sym (no_more (map read_of now.reads)) ∙ so.taken.reads;
    rid = so.taken.rid;
    fillers = none_more now.fillers ∙ so.taken.fillers;
  };
  past = so.past;
}
  where
    no_more : (rs : List Read) → rs ++ [] ≡ rs
    no_more [] = refl
    no_more (r ∷ rs) = ap (λ (xs : List Read). r ∷ xs) (no_more rs)

    none_more : (n : ℕ) → n ≡ n + 0
    none_more n = omega arith

next_ok : (a : Checked) (b : Checked) → a ≡ Ok tt → (a >>= λ _. b) ≡ b
next_ok (Ok u) b e = refl
next_ok (Err d) b e = absurd (cc)

next_fails : (a b : Checked) (fault : Damage) → a ≡ Err fault → (a >>= λ _. b) ≡ Err fault
next_fails (Ok u) b fault e = absurd (cc)
next_fails (Err d) b fault e = let one : Checked = Err d in let same : d ≡ fault = cc in ap Err same

module _ (oldest : Bool) (e : List Headed) (es all : List (List Headed)) (old now : Tally) (count : ℕ) (so : AreLeft oldest (e ∷ es) all old now count) where
  pub one_taken : (after : Tally) (past : ℕ) → IsEpochRead oldest (is_none es) e now after past → AreLeft false es all old after past
  one_taken after past read = record {
    claims = so.claims ∙ claims es read.claims;
    taken = adds_up (map (located e) (epoch_reading oldest e)) (reads_of false es) (reads_of true all) old now after so.taken read.tallied;
    past = past_left es so.past;
  }
    where
      claims : (es : List (List Headed)) → epoch_claims oldest (is_none es) now.rid e (epoch_reading oldest e) ≡ Ok tt → epochs_claims oldest now.rid (e ∷ es) ≡ epochs_claims false after.rid es
      claims [] kept = kept
      claims (f ∷ es) kept =
          next_ok (epoch_claims oldest false now.rid e (epoch_reading oldest e)) (epochs_claims false (rid_at_end now.rid (epoch_reading oldest e)) (f ∷ es)) kept
          ∙ ap (λ n. epochs_claims false n (f ∷ es)) (sym (read.tallied.rid ∙ rid_at e now.rid (epoch_reading oldest e)))

      past_left : (es : List (List Headed)) → length (past_in oldest (e ∷ es)) ≡ length (past_in true all) → PastLeft false past es (length (past_in true all))
      past_left [] h = read.past ∙ h
      past_left (f ∷ es) h = h

  pub one_broken : (fault : Damage) → epoch_claims oldest (is_none es) now.rid e (epoch_reading oldest e) ≡ Err fault → epochs_claims true old.rid all ≡ Err fault
  one_broken fault broken = so.claims ∙ claims es broken
    where
      claims : (es : List (List Headed)) → epoch_claims oldest (is_none es) now.rid e (epoch_reading oldest e) ≡ Err fault → epochs_claims oldest now.rid (e ∷ es) ≡ Err fault
      claims [] h = h
      claims (f ∷ es) h = next_fails (epoch_claims oldest false now.rid e (epoch_reading oldest e)) (epochs_claims false (rid_at_end now.rid (epoch_reading oldest e)) (f ∷ es)) fault h

-- ---- slices of files

pub rest_whole : (m : ℕ) (hs : List HeadedFile) → take (length hs - m) (drop m hs) ≡ drop m hs
rest_whole m hs = ap (λ n. take n (drop m hs)) (sym (length-drop m hs)) ∙ take-length (drop m hs)

AllTake : (P : HeadedFile → Type 0) (n : ℕ) (hs : List HeadedFile) → AllByRecursion P hs → AllByRecursion P (take n hs)
AllTake P zero hs h = tt
AllTake P (suc n) [] h = tt
AllTake P (suc n) (f ∷ hs) h = (h.0, AllTake P n hs h.1)

AllDrop : (P : HeadedFile → Type 0) (n : ℕ) (hs : List HeadedFile) → AllByRecursion P hs → AllByRecursion P (drop n hs)
AllDrop P zero hs h = h
AllDrop P (suc n) [] h = tt
AllDrop P (suc n) (f ∷ hs) h = AllDrop P n hs h.1

pub all_between : (P : HeadedFile → Type 0) (n m : ℕ) (hs : List HeadedFile) → AllByRecursion P hs → AllByRecursion P (take n (drop m hs))
all_between P n m hs h = AllTake P n (drop m hs) (AllDrop P m hs h)

counted_front : (n : ℕ) (hs : List HeadedFile) → AreCounted hs → AreCounted (take n hs)
counted_front zero hs c = tt
counted_front (suc n) [] c = tt
counted_front (suc zero) (f ∷ hs) c = tt
counted_front (suc (suc n)) (f ∷ []) c = tt
counted_front (suc (suc n)) (f ∷ g ∷ hs) c = (c.0, counted_front (suc n) (g ∷ hs) c.1)

pub counted_between : (n m : ℕ) (hs : List HeadedFile) → AreCounted hs → AreCounted (take n (drop m hs))
counted_between n m hs c = counted_front n (drop m hs) (counted_rest m hs c)

pub some_run : (hs : List HeadedFile) → 0 < length hs → 0 < length (first_run hs)
some_run [] l = l
some_run (h ∷ hs) l = omega arith

run_within : (epoch : ℕ) (hs : List HeadedFile) → length (run_of epoch hs) ≤ length hs
run_within epoch [] = omega arith
run_within epoch (h ∷ hs) =
    let rest = run_within epoch hs in
    elim (eqb h.header.epoch epoch) as (λ b. length (cond b (h ∷ run_of epoch hs) []) ≤ suc (length hs)) [ true ↦ omega (arith, rest) | false ↦ omega arith ]

pub first_within : (hs : List HeadedFile) → length (first_run hs) ≤ length hs
first_within [] = omega arith
first_within (h ∷ hs) = let rest = run_within h.header.epoch hs in omega (arith, rest)

-- ---- where the site tells

pub on_between : (a : Option Content) (n m : ℕ) (hs : List HeadedFile) → IfSome a (AreOnSite hs) → IfSome a (AreOnSite (take n (drop m hs)))
on_between None n m hs h = tt
on_between (Some c) n m hs h = all_between _ n m hs h

module _ (hs : List HeadedFile) (old : Tally) where
  abbrev pub LeftAt : ℕ → Tally → ℕ → Content → Type 0
  LeftAt from now count c = AreLeft (eqb from 0) (epochs (files_on c.now.disk (drop from hs))) (epochs (files_on c.now.disk hs)) old now count

  pub told_none : (a : Option Content) → IfSome a (LeftAt 0 old 0)
  told_none None = tt
  told_none (Some c) = none_taken (epochs (files_on c.now.disk hs)) old

  pub told_all : (a : Option Content) (from : ℕ) (now : Tally) (count : ℕ) → length hs ≤ from → IfSome a (LeftAt from now count) → IfSome a (λ c. ReadsEpochs true (epochs (files_on c.now.disk hs)) old now (Ok count))
  told_all None from now count l so = tt
  told_all (Some c) from now count l so =
      all_taken (eqb from 0) (epochs (files_on c.now.disk hs)) old now count
      (subst (λ gs. AreLeft (eqb from 0) (epochs (files_on c.now.disk gs)) (epochs (files_on c.now.disk hs)) old now count) (drop_past from hs l) so)
    where
      drop_past : (n : ℕ) (hs : List HeadedFile) → length hs ≤ n → drop n hs ≡ []
      drop_past zero [] l = refl
      drop_past zero (f ∷ hs) l = absurd (omega (arith, l))
      drop_past (suc n) [] l = refl
      drop_past (suc n) (f ∷ hs) l = drop_past n hs (omega (arith, l))

  module _ (from to : ℕ) (now : Tally) (count : ℕ) (some : from < length hs) (to_is : to ≡ from + length (first_run (drop from hs))) (last : Bool) (last_is : last ≡ eqb to (length hs)) where
    abbrev epoch : List HeadedFile
    epoch = take (to - from) (drop from hs)

    epoch_is : epoch ≡ first_run (drop from hs)
    epoch_is = ap (λ n. take n (drop from hs)) (omega (arith, to_is)) ∙ take_first (drop from hs)

    behind : drop (length (first_run (drop from hs))) (drop from hs) ≡ drop to hs
    behind = drop-drop (length (first_run (drop from hs))) from hs ∙ ap (λ n. drop n hs) (sym to_is)

    split : (c : Content) → epochs (files_on c.now.disk (drop from hs)) ≡ files_on c.now.disk epoch ∷ epochs (files_on c.now.disk (drop to hs))
    split c =
        first_epoch c.now.disk (drop from hs) (omega (arith, some, length-drop from hs))
        ∙ ap₂ (λ (a b : List HeadedFile). files_on c.now.disk a ∷ epochs (files_on c.now.disk b)) (sym epoch_is) behind

    to_some : eqb to 0 ≡ false
    to_some = let more = some_run (drop from hs) (omega (arith, some, length-drop from hs)) in let up : 0 < to = omega (arith, more, to_is) in grind (arith, nat_tests, up)

    is_last : (c : Content) → last ≡ is_none (epochs (files_on c.now.disk (drop to hs)))
    is_last c = last_is ∙ by_rest (drop to hs) refl
      where
        within : to ≤ length hs
        within = let most = first_within (drop from hs) in omega (arith, most, to_is, some, length-drop from hs)

        by_rest : (gs : List HeadedFile) → drop to hs ≡ gs → eqb to (length hs) ≡ is_none (epochs (files_on c.now.disk gs))
        by_rest [] e =
            let none = ap length e in
            let low = within in
            let all : to ≡ length hs = omega (arith, none, low, length-drop to hs) in
            grind (arith, nat_tests, all)
        by_rest (g ∷ gs) e =
            let more = ap length e in
            let less : to < length hs = omega (arith, more, length-drop to hs) in
            let is : eqb to (length hs) ≡ false = grind (arith, nat_tests, less) in
            is ∙ sym (not_none (epochs (files_on c.now.disk (g ∷ gs))) (some_onto (file_on c.now.disk g) (epochs (files_on c.now.disk gs))))
          where
            not_none : (es : List (List Headed)) → 0 < length es → is_none es ≡ false
            not_none [] l = absurd (omega (arith, l))
            not_none (x ∷ es) l = refl

    pub told_one : (a : Option Content) (after : Tally) (past : ℕ) → IfSome a (LeftAt from now count) → IfSome a (λ c. ReadsEpoch (eqb from 0) last (files_on c.now.disk epoch) now after (Ok past)) → IfSome a (LeftAt to after past)
    told_one None after past so read = tt
    told_one (Some c) after past so read =
        let es = epochs (files_on c.now.disk (drop to hs)) in
        let all = epochs (files_on c.now.disk hs) in
        subst (λ b. AreLeft b es all old after past) (sym to_some)
        (one_taken (eqb from 0) (files_on c.now.disk epoch) es all old now count (subst (λ xs. AreLeft (eqb from 0) xs all old now count) (split c) so) after past
        (subst (λ b. IsEpochRead (eqb from 0) b (files_on c.now.disk epoch) now after past) (is_last c) read))

    pub told_one_broken : (a : Option Content) (after any : Tally) (fault : LogFault) → IfSome a (LeftAt from now count) → IfSome a (λ c. ReadsEpoch (eqb from 0) last (files_on c.now.disk epoch) now after (Err fault))
        → IfSome a (λ c. ReadsEpochs true (epochs (files_on c.now.disk hs)) old any (Err fault))
    told_one_broken None after any fault so read = tt
    told_one_broken (Some c) after any Failed so read = tt
    told_one_broken (Some c) after any Memory so read = tt
    told_one_broken (Some c) after any (Damaged id broken) so read =
        let es = epochs (files_on c.now.disk (drop to hs)) in
        let all = epochs (files_on c.now.disk hs) in
        one_broken (eqb from 0) (files_on c.now.disk epoch) es all old now count (subst (λ xs. AreLeft (eqb from 0) xs all old now count) (split c) so) (id, broken)
        (subst (λ b. epoch_claims (eqb from 0) b now.rid (files_on c.now.disk epoch) (epoch_reading (eqb from 0) (files_on c.now.disk epoch)) ≡ Err (id, broken)) (is_last c) read)
