-- An image whose files and journals break no rule has no damage.
use Rattle.std.proofs.Common.{◌≡◌, ℕ, suc, Bool, true, false, cond, not, ◌||◌, List, [], ◌∷◌, ◌++◌, map, length, take, Result, Ok, Err, refl, ap, ◌∙◌, subst, eqb, arith}
use Rattle.std.proofs.lemmas.Bool.Decides.{nat_tests}
use Rattle.std.specs.List.{AllByRecursion, list_any}
use Rattle.qls_model.specs.Bytes.{same, comes_before}
use Rattle.qls_shape.specs.Claims.{claim, each, of_file, ◌>>=◌, ◌>>◌}
use Rattle.qls_site.specs.declared.site.ImageFile.{ImageFile}
use Rattle.qls_site.specs.Disk.{Image}
use Rattle.qls_filehdr.specs.declared.FileHeader.{FileHeader}
use Rattle.qls_filehdr.specs.declared.JournalKind.{JournalKind}
use Rattle.qls_filehdr.specs.declared.JournalKind.TheVariants.{Queue, List as Listed}
use Rattle.qls_filehdr.specs.declared.Rule.{Rule}
use Rattle.qls_filehdr.specs.declared.Rule.TheVariants as rule
use Rattle.qls_filehdr.specs.Limits.{is_counter, is_name}
use Rattle.qls_filehdr.specs.Header.{header_fields, number_claims, header_of}
use Rattle.qls_meaning.specs.Journals.{Headed, Journal, is_queue, in_use, empties, headed, journal, with_name, queue_names, list_journals, journals, journals_of}
use Rattle.qls_meaning.specs.Damage.{Checked, Damage, id_claim, is_pool, pool_claim, header_claims, chain_claims, reading_claims, undamaged}
use Rattle.qls_laws.specs.Undamaged.{FilesBreakNoRule, BreaksNoRule, journal_with, JournalsBreakNoRule}
use Rattle.qls_laws.proofs.Claimed.{claims, claims_all}

-- ---- the name of the list

header_there : (id : ℕ) (s : Result (Unit {0}) Rule) (r : Result FileHeader Rule) (size : FileHeader → Result (Unit {0}) Rule) → of_file id (s >> (r >>= size)) ≡ Ok tt → (h : FileHeader) × (r ≡ Ok h)
header_there id (Ok u) (Ok h) size e = (h, refl)
header_there id (Ok u) (Err x) size e = absurd (cc)
header_there id (Err x) r size e = absurd (cc)

name_claimed : (a c : Result (Unit {0}) Rule) (b : Bool) (x h : FileHeader) → (a >> (claim b rule.Name >> (c >> Ok x))) ≡ Ok h → b ≡ true
name_claimed (Ok u) c true x h e = refl
name_claimed (Ok u) c false x h e = absurd (cc)
name_claimed (Err r) c b x h e = absurd (cc)

named : (f : ImageFile) → header_claims f ≡ Ok tt → is_name (headed f).header.kind (headed f).header.name ≡ true
named f h =
    let there = header_there f.id _ (header_of (take 4096 f.bytes)) _ h in
    name_claimed (number_claims (take 4096 f.bytes)) _ _ (header_fields (take 4096 f.bytes)) there.0 there.1

no_name : (name : List ℕ) → is_name Listed name ≡ true → name ≡ []
no_name [] e = refl
no_name (b ∷ name) e = absurd (some (length name) e)
  where
    some : (n : ℕ) → eqb (suc n) 0 ≡ true → ⊥
    some n e = grind (arith, nat_tests)

-- ---- each journal is that of a file

all_with_name : (P : List ℕ → Type 0) (n : List ℕ) (ms : List (List ℕ)) → P n → AllByRecursion P ms → AllByRecursion P (with_name n ms)
all_with_name P n [] p h = (p, tt)
all_with_name P n (m ∷ ms) p h =
    elim (same n m) as (λ b. AllByRecursion P (cond b (m ∷ ms) (cond (comes_before n m) (n ∷ m ∷ ms) (m ∷ with_name n ms)))) [
      | true ↦ h
      | false ↦
          elim (comes_before n m) as (λ b. AllByRecursion P (cond b (n ∷ m ∷ ms) (m ∷ with_name n ms))) [
            | true ↦ (p, h)
            | false ↦ (h.0, all_with_name P n ms p h.1)
          ]
    ]

all_names : (P : List ℕ → Type 0) (fs : List Headed) → AllByRecursion (λ f. is_queue f.header.kind ≡ true → P f.header.name) fs → AllByRecursion P (queue_names fs)
all_names P [] h = tt
all_names P (f ∷ fs) h = by (is_queue f.header.kind) refl (all_names P fs h.1)
  where
    by : (b : Bool) → is_queue f.header.kind ≡ b → AllByRecursion P (queue_names fs) → AllByRecursion P (cond b (with_name f.header.name (queue_names fs)) (queue_names fs))
    by true e rest = all_with_name P f.header.name (queue_names fs) (h.0 e) rest
    by false e rest = rest

all_map : (P : Journal → Type 0) (g : List ℕ → Journal) (ns : List (List ℕ)) → AllByRecursion (λ n. P (g n)) ns → AllByRecursion P (map g ns)
all_map P g [] h = tt
all_map P g (n ∷ ns) h = (h.0, all_map P g ns h.1)

all_both : (P : Journal → Type 0) (js ks : List Journal) → AllByRecursion P js → AllByRecursion P ks → AllByRecursion P (js ++ ks)
all_both P [] ks h k = k
all_both P (j ∷ js) ks h k = (h.0, all_both P js ks h.1 k)

-- a file of the list among them
one_listed : (Q : Type 0) (fs : List Headed) → AllByRecursion (λ f. is_queue f.header.kind ≡ false → Q) fs → list_any (λ f. not (is_queue f.header.kind)) fs ≡ true → Q
one_listed Q [] h e = absurd (cc)
one_listed Q (f ∷ fs) h e = by (is_queue f.header.kind) refl e (one_listed Q fs h.1)
  where
    by : (b : Bool) → is_queue f.header.kind ≡ b → (not b || list_any (λ f. not (is_queue f.header.kind)) fs) ≡ true → (list_any (λ f. not (is_queue f.header.kind)) fs ≡ true → Q) → Q
    by true k e rest = rest e
    by false k e rest = h.0 k

module _ (P : Journal → Type 0) (fs : List Headed) where
  -- a property of the journals of files: the list has no name
  abbrev Holds : Headed → Type 0
  Holds f = P (journal_with fs f) × (is_name f.header.kind f.header.name ≡ true)

  queue_kind : (f : Headed) (kind : JournalKind) → P (journal fs kind f.header.name) → is_queue kind ≡ true → P (journal fs Queue f.header.name)
  queue_kind f Queue p e = p
  queue_kind f Listed p e = absurd (cc)

  list_kind : (name : List ℕ) (kind : JournalKind) → P (journal fs kind name) → is_name kind name ≡ true → is_queue kind ≡ false → P (journal fs Listed [])
  list_kind name Queue p n e = absurd (cc)
  list_kind name Listed p n e = subst (λ (m : List ℕ). P (journal fs Listed m)) (no_name name n) p

  of_queues : (gs : List Headed) → AllByRecursion Holds gs → AllByRecursion (λ f. is_queue f.header.kind ≡ true → P (journal fs Queue f.header.name)) gs
  of_queues [] h = tt
  of_queues (g ∷ gs) h = (queue_kind g g.header.kind h.0.0, of_queues gs h.1)

  of_list : (gs : List Headed) → AllByRecursion Holds gs → AllByRecursion (λ f. is_queue f.header.kind ≡ false → P (journal fs Listed [])) gs
  of_list [] h = tt
  of_list (g ∷ gs) h = (list_kind g.header.name g.header.kind h.0.0 h.0.1, of_list gs h.1)

  pub all_journals : AllByRecursion Holds fs → AllByRecursion P (journals fs)
  all_journals h =
      all_both P (list_journals fs) (map (journal fs Queue) (queue_names fs)) (by (list_any (λ f. not (is_queue f.header.kind)) fs) refl)
      (all_map P (journal fs Queue) (queue_names fs) (all_names (λ n. P (journal fs Queue n)) fs (of_queues fs h)))
    where
      by : (b : Bool) → list_any (λ f. not (is_queue f.header.kind)) fs ≡ b → AllByRecursion P (cond b (journal fs Listed [] ∷ []) [])
      by true e = (one_listed (P (journal fs Listed [])) fs (of_list fs h) e, tt)
      by false e = tt

-- ---- the image

all_named : (P : Headed → Type 0) (i : Image) → AllByRecursion (λ f. header_claims f ≡ Ok tt) i → AllByRecursion P (map headed i) → AllByRecursion (λ f. P f × (is_name f.header.kind f.header.name ≡ true)) (map headed i)
all_named P [] h k = tt
all_named P (f ∷ i) h k = ((k.0, named f h.0), all_named P i h.1 k.1)

all_ok : {A : Type 0} (check : A → Checked) (xs : List A) → AllByRecursion (λ x. check x ≡ Ok tt) xs → each check xs ≡ Ok tt
all_ok check xs h = claims_all (λ x. check x ≡ Ok tt) check (λ x e. e) xs h

all_parts : (js : List Journal) → AllByRecursion BreaksNoRule js → (each (λ j. chain_claims j.files) js ≡ Ok tt) × (each reading_claims js ≡ Ok tt)
all_parts js h = (claims_all BreaksNoRule (λ j. chain_claims j.files) (λ j b. b.chain) js h, claims_all BreaksNoRule reading_claims (λ j b. b.reading) js h)

abbrev read_of : Result (List Journal) Damage → Result (List Journal) Damage
read_of r = r >>= λ js. (each reading_claims js >> Ok js)

pub whole_is_undamaged : (i : Image) → FilesBreakNoRule i → JournalsBreakNoRule i → undamaged i ≡ Ok (journals_of i)
whole_is_undamaged i files sound =
    let J : List Journal = journals_of i in
    let parts = all_parts J (all_journals BreaksNoRule (map headed (in_use i)) (all_named (λ f. BreaksNoRule (journal_with (map headed (in_use i)) f)) (in_use i) files.headers sound)) in
    let ids : each id_claim i ≡ Ok tt = claims_all (λ f. is_counter f.id ≡ true) id_claim (λ f h. claims f.id _ rule.Id h) i files.ids in
    let pools : each pool_claim (empties i) ≡ Ok tt = claims_all (λ f. is_pool (length f.bytes) f.place ≡ true) pool_claim (λ f h. claims f.id _ rule.Pool h) (empties i) files.pools in
    let headers : each header_claims (in_use i) ≡ Ok tt = all_ok header_claims (in_use i) files.headers in
    (λ k. read_of (ids k >> (pools k >> (headers k >> (parts.0 k >> Ok J))))) ∙ ap (λ (r : Checked). r >> Ok J) parts.1
