-- What holds of each answer, whether the site tells its content or not.
use Rattle.std.proofs.Common.{◌≡◌, ℕ, ◌<◌, ◌^◌, Bool, true, false, cond, not, ◌&&◌, ◌||◌, max, List, [], ◌∷◌, ◌++◌, map, length, eqb, ltb, Option, Some, None, IfSome, Ok, Err, IsTrue, refl, sym, ap, ◌∙◌, subst, arith}
use Rattle.std.specs.List.{AllByRecursion, filter, list_any}
use Rattle.std.proofs.lemmas.Bool.Decides.{nat_tests}
use Rattle.qls_model.specs.Bytes.{same, is_listed}
use Rattle.qls_model.proofs.XidKeys.{same_true, same_self}
use Rattle.qls_shape.specs.Claims.{each, claim, of_file, ◌>>=◌}
use Rattle.qls_site.specs.declared.site.FileAt.{FileAt}
use Rattle.qls_site.specs.Disk.{Disk}
use Rattle.qls_site.specs.Content.{Content}
use Rattle.qls_filehdr.specs.declared.JournalKind.{JournalKind}
use Rattle.qls_filehdr.specs.declared.JournalKind.TheVariants.{Queue, List as Listed}
use Rattle.qls_filehdr.specs.declared.Rule.{Rule}
use Rattle.qls_filehdr.specs.declared.Rule.TheVariants as rule
use Rattle.qls_filehdr.specs.Limits.{is_counter, is_legal_header}
use Rattle.qls_meaning.specs.Journals.{Headed, Journal, is_in_use, is_of, is_queue, same_kind, with_numbered, by_number, journal, queue_names, list_journals, journals}
use Rattle.qls_meaning.specs.Damage.{Checked, is_pool, chain_claims}
use Rattle.qls_scan.specs.declared.answers.HeadedFile.{HeadedFile}
use Rattle.qls_scan.specs.declared.answers.JournalFiles.{JournalFiles}
use Rattle.qls_scan.specs.Found.{head_of, with_no_area, files_of, greatest, IsFileOf, IsInOrder, goes_before, JournalsRise, IsSound, IsSpelledOn, AreSpelledOn}
use Rattle.qls_scan.specs.Listed.{listed_id_claim, listed_pool_claim, listed_claims, ListedAbove, ListedRise}
use Rattle.qls_scan.specs.Heads.{HasLegalHeader}
use Rattle.qls_scan.specs.Groups.{LacksId, IdsDiffer}
use Rattle.std.specs.declared.cmp.Ordering.TheVariants.{Less}
use Rattle.std.specs.Ordering.{is_lt}
use Rattle.qls_scan.proofs.Names.{order, NamesRise, names_are, names_rise}
use Rattle.qls_scan.proofs.Grouping.{HasItsName, any_list, lists_named, all_group, all_by_number}
use Rattle.qls_scan.proofs.Whole.{both_kept}

-- ---- ids

above_in_use : (id : ℕ) (fs : List FileAt) → ListedAbove id fs → ListedAbove id (filter (λ f. is_in_use f.place) fs)
above_in_use id [] h = tt
above_in_use id (f ∷ fs) h = elim (is_in_use f.place) as (λ b. ListedAbove id (cond b (f ∷ filter (λ f. is_in_use f.place) fs) (filter (λ f. is_in_use f.place) fs))) [
  | true ↦ (h.0, above_in_use id fs h.1)
  | false ↦ above_in_use id fs h.1
]

rise_in_use : (fs : List FileAt) → ListedRise fs → ListedRise (filter (λ f. is_in_use f.place) fs)
rise_in_use [] h = tt
rise_in_use (f ∷ fs) h = elim (is_in_use f.place) as (λ b. ListedRise (cond b (f ∷ filter (λ f. is_in_use f.place) fs) (filter (λ f. is_in_use f.place) fs))) [
  | true ↦ (above_in_use f.id fs h.0, rise_in_use fs h.1)
  | false ↦ rise_in_use fs h.1
]

abbrev IdsAbove : ℕ → List ℕ → Type 0
IdsAbove id [] = Unit {0}
IdsAbove id (n ∷ ns) = (id < n) × IdsAbove id ns

abbrev NumbersRise : List ℕ → Type 0
NumbersRise [] = Unit {0}
NumbersRise (n ∷ ns) = IdsAbove n ns × NumbersRise ns

ids_above : (id : ℕ) (fs : List FileAt) → ListedAbove id fs → IdsAbove id (map (λ (f : FileAt). f.id) fs)
ids_above id [] h = tt
ids_above id (f ∷ fs) h = (h.0, ids_above id fs h.1)

ids_rise : (fs : List FileAt) → ListedRise fs → NumbersRise (map (λ (f : FileAt). f.id) fs)
ids_rise [] h = tt
ids_rise (f ∷ fs) h = (ids_above f.id fs h.0, ids_rise fs h.1)

lacks : (id : ℕ) (hs : List HeadedFile) → IdsAbove id (map (λ (h : HeadedFile). h.id) hs) → LacksId id (map with_no_area hs)
lacks id [] h = tt
lacks id (f ∷ hs) h = ((λ e. omega (arith, h.0, e)), lacks id hs h.1)

differ : (hs : List HeadedFile) → NumbersRise (map (λ (h : HeadedFile). h.id) hs) → IdsDiffer (map with_no_area hs)
differ [] h = tt
differ (f ∷ hs) h = (lacks f.id hs h.0, differ hs h.1)

-- the heads of files whose ids rise differ in their ids
pub heads_differ : (hs : List HeadedFile) (fs : List FileAt) → map (λ (h : HeadedFile). h.id) hs ≡ map (λ (f : FileAt). f.id) (filter (λ f. is_in_use f.place) fs) → ListedRise fs → IdsDiffer (map with_no_area hs)
heads_differ hs fs e rise = differ hs (subst NumbersRise (sym e) (ids_rise (filter (λ f. is_in_use f.place) fs) (rise_in_use fs rise)))

-- ---- the listing

passed : (file : ℕ) (b : Bool) (r : Rule) (rest : Checked) → (of_file file (claim b r) >>= λ _. rest) ≡ Ok tt → (b ≡ true) × (rest ≡ Ok tt)
passed file true r rest e = (refl, e)
passed file false r rest e = absurd (cc)

all_pools : (fs : List FileAt) → each listed_pool_claim fs ≡ Ok tt → AllByRecursion (λ f. is_pool f.size f.place ≡ true) fs
all_pools [] e = tt
all_pools (f ∷ fs) e = let both = passed f.id (is_pool f.size f.place) rule.Pool (each listed_pool_claim fs) e in (both.0, all_pools fs both.1)

below : (m n : ℕ) → is_counter m ≡ true → n < 2 ^ 62 → max m n < 2 ^ 62
below m n c l = let small : m < 2 ^ 62 = grind (arith, nat_tests, c) in omega (arith, small, l)

greatest_below : (fs : List FileAt) → each listed_id_claim fs ≡ Ok tt → greatest (map (λ (f : FileAt). f.id) fs) < 2 ^ 62
greatest_below [] e = omega arith
greatest_below (f ∷ fs) e =
    let both = passed f.id (is_counter f.id) rule.Id (each listed_id_claim fs) e in below f.id (greatest (map (λ (g : FileAt). g.id) fs)) both.0 (greatest_below fs both.1)

-- ---- journals

abbrev IsLegal : Headed → Type 0
IsLegal f = IsTrue (is_legal_header f.header)

record IsWell (j : Journal) : Type 0 where
  pub some : 0 < length j.files
  pub own : AllByRecursion (λ f. is_of j.kind j.name f ≡ true) j.files
  pub legal : AllByRecursion IsLegal j.files

some_with : (f : Headed) (fs : List Headed) → 0 < length (with_numbered f fs)
some_with f [] = omega arith
some_with f (g ∷ fs) = elim (ltb f.header.number g.header.number || (eqb f.header.number g.header.number && ltb f.id g.id)) as (λ b. 0 < length (cond b (f ∷ g ∷ fs) (g ∷ with_numbered f fs))) [
  | true ↦ omega arith
  | false ↦ omega arith
]

some_of : (test : Headed → Bool) (fs : List Headed) → list_any test fs ≡ true → 0 < length (by_number (filter test fs))
some_of test [] e = absurd (cc)
some_of test (f ∷ fs) e = by_test (test f) (some_of test fs) e
  where
    by_test : (b : Bool) → (list_any test fs ≡ true → 0 < length (by_number (filter test fs))) → (b || list_any test fs) ≡ true → 0 < length (by_number (cond b (f ∷ filter test fs) (filter test fs)))
    by_test true rest x = some_with f (by_number (filter test fs))
    by_test false rest x = rest x

passing : (test : Headed → Bool) (fs : List Headed) → AllByRecursion (λ f. test f ≡ true) (filter test fs)
passing test [] = tt
passing test (f ∷ fs) = by_test (test f) refl (passing test fs)
  where
    by_test : (b : Bool) → test f ≡ b → AllByRecursion (λ f. test f ≡ true) (filter test fs) → AllByRecursion (λ f. test f ≡ true) (cond b (f ∷ filter test fs) (filter test fs))
    by_test true t rest = (t, rest)
    by_test false t rest = rest

well : (fs : List Headed) (kind : JournalKind) (name : List ℕ) → AllByRecursion IsLegal fs → list_any (is_of kind name) fs ≡ true → IsWell (journal fs kind name)
well fs kind name legal some = record {
  some = some_of (is_of kind name) fs some;
  own = all_by_number (λ f. is_of kind name f ≡ true) (filter (is_of kind name) fs) (passing (is_of kind name) fs);
  legal = all_group IsLegal (is_of kind name) fs legal;
}

all_listed_more : (n : List ℕ) (ns : List (List ℕ)) (ms : List (List ℕ)) → AllByRecursion (λ x. is_listed x ns ≡ true) ms → AllByRecursion (λ x. is_listed x (n ∷ ns) ≡ true) ms
all_listed_more n ns [] h = tt
all_listed_more n ns (m ∷ ms) h = (either (same m n) (is_listed m ns) h.0, all_listed_more n ns ms h.1)
  where
    either : (a b : Bool) → b ≡ true → (a || b) ≡ true
    either true b e = refl
    either false b e = e

all_listed : (ns : List (List ℕ)) → AllByRecursion (λ x. is_listed x ns ≡ true) ns
all_listed [] = tt
all_listed (n ∷ ns) = (ap (λ b. b || is_listed n ns) (same_self n), all_listed_more n ns ns (all_listed ns))

all_both : (js ks : List Journal) → AllByRecursion IsWell js → AllByRecursion IsWell ks → AllByRecursion IsWell (js ++ ks)
all_both [] ks h k = k
all_both (j ∷ js) ks h k = (h.0, all_both js ks h.1 k)

module _ (fs : List Headed) (legal : AllByRecursion IsLegal fs) where
  wells_of : (ns : List (List ℕ)) → AllByRecursion (λ x. is_listed x (queue_names fs) ≡ true) ns → AllByRecursion IsWell (map (journal fs Queue) ns)
  wells_of [] h = tt
  wells_of (n ∷ ns) h = (well fs Queue n legal (sym (names_are n fs) ∙ h.0), wells_of ns h.1)

  well_list : (b : Bool) → list_any (is_of Listed []) fs ≡ b → AllByRecursion IsWell (cond b (journal fs Listed [] ∷ []) [])
  well_list true e = (well fs Listed [] legal e, tt)
  well_list false e = tt

  wells : AllByRecursion HasItsName fs → AllByRecursion IsWell (journals fs)
  wells named = all_both (list_journals fs) (map (journal fs Queue) (queue_names fs))
      (subst (λ b. AllByRecursion IsWell (cond b (journal fs Listed [] ∷ []) [])) (any_list fs named) (well_list (list_any (is_of Listed []) fs) refl))
      (wells_of (queue_names fs) (all_listed (queue_names fs)))

kinds : (a b : JournalKind) → same_kind a b ≡ true → b ≡ a
kinds Queue Queue e = refl
kinds Queue Listed e = absurd (cc)
kinds Listed Queue e = absurd (cc)
kinds Listed Listed e = refl

halves : (a b : Bool) → (a && b) ≡ true → (a ≡ true) × (b ≡ true)
halves true b e = (refl, e)
halves false b e = absurd (cc)

files_own : (j : Journal) (fs : List Headed) → AllByRecursion (λ f. is_of j.kind j.name f ≡ true) fs → AllByRecursion IsLegal fs → AllByRecursion (IsFileOf (files_of j)) (map head_of fs)
files_own j [] own legal = tt
files_own j (f ∷ fs) own legal =
    let parts = halves (same_kind j.kind f.header.kind) (same j.name f.header.name) own.0 in (
      record { legal = legal.0; kind = kinds j.kind f.header.kind parts.0; name = sym (same_true j.name f.header.name parts.1) },
      files_own j fs own.1 legal.1,
    )

some_heads : (fs : List Headed) → 0 < length fs → 0 < length (map head_of fs)
some_heads [] h = h
some_heads (f ∷ fs) h = omega arith

in_order : (js : List Journal) → AllByRecursion IsWell js → each (λ j. chain_claims (map with_no_area j.files)) (map files_of js) ≡ Ok tt → AllByRecursion IsInOrder (map files_of js)
in_order [] h e = tt
in_order (j ∷ js) h e =
    let both = chained (chain_claims (map with_no_area (map head_of j.files))) (each (λ j. chain_claims (map with_no_area j.files)) (map files_of js)) e in (
      record { some = some_heads j.files h.0.some; own = files_own j j.files h.0.own h.0.legal; chain = both.0 },
      in_order js h.1 both.1,
    )
  where
    chained : (c rest : Checked) → (c >>= λ _. rest) ≡ Ok tt → (c ≡ Ok tt) × (rest ≡ Ok tt)
    chained (Ok u) rest e = (refl, e)
    chained (Err x) rest e = absurd (cc)

legal_heads : (hs : List HeadedFile) → AllByRecursion HasLegalHeader hs → AllByRecursion IsLegal (map with_no_area hs)
legal_heads [] h = tt
legal_heads (f ∷ hs) h = (h.0, legal_heads hs h.1)

-- ---- the order of journals

module _ (fs : List Headed) where
  abbrev queues_named : List (List ℕ) → List JournalFiles
  queues_named ns = map files_of (map (journal fs Queue) ns)

  later_queues : (n : List ℕ) (ns : List (List ℕ)) → AllByRecursion (λ x. order n x ≡ Less) ns → AllByRecursion (λ k. goes_before (files_of (journal fs Queue n)) k ≡ true) (queues_named ns)
  later_queues n [] h = tt
  later_queues n (m ∷ ns) h = (ap is_lt h.0, later_queues n ns h.1)

  queues_rise : (ns : List (List ℕ)) → NamesRise ns → JournalsRise (queues_named ns)
  queues_rise [] h = tt
  queues_rise (n ∷ ns) h = (later_queues n ns h.0, queues_rise ns h.1)

  behind_list : (ns : List (List ℕ)) → AllByRecursion (λ k. goes_before (files_of (journal fs Listed [])) k ≡ true) (queues_named ns)
  behind_list [] = tt
  behind_list (n ∷ ns) = (refl, behind_list ns)

  journals_rise : JournalsRise (map files_of (journals fs))
  journals_rise = elim (list_any (λ f. not (is_queue f.header.kind)) fs) as (λ b. JournalsRise (map files_of (cond b (journal fs Listed [] ∷ []) [] ++ map (journal fs Queue) (queue_names fs)))) [
    | true ↦ (behind_list (queue_names fs), queues_rise (queue_names fs) (names_rise fs))
    | false ↦ queues_rise (queue_names fs) (names_rise fs)
  ]

-- ---- the whole

pub all_sound : (files empty : List FileAt) (heads : List HeadedFile) (found : List JournalFiles) → listed_claims files ≡ Ok tt → AllByRecursion HasLegalHeader heads
    → found ≡ map files_of (journals (map with_no_area heads)) → each (λ j. chain_claims (map with_no_area j.files)) found ≡ Ok tt → empty ≡ filter (λ f. not (is_in_use f.place)) files
    → IsSound (record { greatest = greatest (map (λ f. f.id) files); empties = empty; journals = found })
all_sound files empty heads found kept legal grouped chain none =
    let own = both_kept (each listed_id_claim files) (each listed_pool_claim (filter (λ f. not (is_in_use f.place)) files)) kept in
    let js = journals (map with_no_area heads) in
    record {
      rise = subst JournalsRise (sym grouped) (journals_rise (map with_no_area heads));
      journals = subst (AllByRecursion IsInOrder) (sym grouped)
          (in_order js (wells (map with_no_area heads) (legal_heads heads legal) (lists_named heads legal)) (ap (each (λ j. chain_claims (map with_no_area j.files))) (sym grouped) ∙ chain));
      empties = subst (AllByRecursion (λ f. is_pool f.size f.place ≡ true)) (sym none) (all_pools (filter (λ f. not (is_in_use f.place)) files) own.1);
      greatest = greatest_below files own.0;
    }

-- ---- the spelling of headers

module _ (d : Disk) where
  abbrev IsSpelled : Headed → Type 0
  IsSpelled f = IsSpelledOn d (head_of f)

  spelled_heads : (hs : List HeadedFile) → AllByRecursion (IsSpelledOn d) hs → AllByRecursion IsSpelled (map with_no_area hs)
  spelled_heads [] h = tt
  spelled_heads (f ∷ hs) h = (h.0, spelled_heads hs h.1)

  spelled_files : (fs : List Headed) → AllByRecursion IsSpelled fs → AllByRecursion (IsSpelledOn d) (map head_of fs)
  spelled_files [] h = tt
  spelled_files (f ∷ fs) h = (h.0, spelled_files fs h.1)

  module _ (fs : List Headed) (spelled : AllByRecursion IsSpelled fs) where
    spelled_in : (kind : JournalKind) (name : List ℕ) → AreSpelledOn d (files_of (journal fs kind name))
    spelled_in kind name = spelled_files (by_number (filter (is_of kind name) fs)) (all_group IsSpelled (is_of kind name) fs spelled)

    spelled_named : (ns : List (List ℕ)) → AllByRecursion (AreSpelledOn d) (map files_of (map (journal fs Queue) ns))
    spelled_named [] = tt
    spelled_named (n ∷ ns) = (spelled_in Queue n, spelled_named ns)

    spelled_journals : AllByRecursion (AreSpelledOn d) (map files_of (journals fs))
    spelled_journals = elim (list_any (λ f. not (is_queue f.header.kind)) fs) as (λ b. AllByRecursion (AreSpelledOn d) (map files_of (cond b (journal fs Listed [] ∷ []) [] ++ map (journal fs Queue) (queue_names fs)))) [
      | true ↦ (spelled_in Listed [], spelled_named (queue_names fs))
      | false ↦ spelled_named (queue_names fs)
    ]

pub all_spelled : (o : Option Content) (heads : List HeadedFile) (found : List JournalFiles) → found ≡ map files_of (journals (map with_no_area heads))
    → IfSome o (λ c. AllByRecursion (IsSpelledOn c.now.disk) heads) → IfSome o (λ c. AllByRecursion (AreSpelledOn c.now.disk) found)
all_spelled None heads found grouped h = tt
all_spelled (Some c) heads found grouped h =
    subst (AllByRecursion (AreSpelledOn c.now.disk)) (sym grouped) (spelled_journals c.now.disk (map with_no_area heads) (spelled_heads c.now.disk heads h))
