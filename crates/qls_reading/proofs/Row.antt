-- The files of a journal in order, as files that a log is opened over.
use Rattle.std.proofs.Common.{◌≡◌, ℕ, ◌+◌, ◌≤◌, Bool, true, false, ◌&&◌, List, [], ◌∷◌, map, max, Ok, IsTrue, refl, sym, ap, ◌∙◌, subst, arith, eqb, leb}
use Rattle.std.proofs.lemmas.Bool.{and_parts}
use Rattle.std.proofs.lemmas.Bool.Decides.{nat_tests}
use Rattle.std.specs.List.{AllByRecursion}
use Rattle.qls_shape.specs.Claims.{claim, of_file, ◌>>◌}
use Rattle.qls_model.specs.declared.machine.PoolId.{PoolId}
use Rattle.qls_filehdr.specs.declared.FileHeader.{FileHeader}
use Rattle.qls_filehdr.specs.declared.Rule.TheVariants as rule
use Rattle.qls_filehdr.specs.Limits.{is_legal_header}
use Rattle.qls_meaning.specs.Journals.{Headed}
use Rattle.qls_meaning.specs.Damage.{next_claims, chain_claims}
use Rattle.qls_meaning.specs.Spent.{greatest_epoch}
use Rattle.qls_laws.proofs.Claimed.{next_ok}
use Rattle.qls_pool.specs.Files.{HeadedFile as LinkedFile}
use Rattle.qls_log.specs.declared.opening.Opening.{Opening}
use Rattle.qls_log.specs.Logs.{IsOfJournal}
use Rattle.qls_log.specs.Standing.{AreThoseFiles}
use Rattle.qls_log.specs.Trimming.{last_epoch, EpochsRise, CountFrom, AreInRow}
use Rattle.qls_scan.specs.declared.answers.HeadedFile.{HeadedFile}
use Rattle.qls_scan.specs.declared.answers.JournalFiles.{JournalFiles}
use Rattle.qls_scan.specs.Found.{with_no_area, IsFileOf, IsInOrder}
use Rattle.qls_reading.specs.ReadLogs.{linked, linked_files, first_home}

-- ---- what the rules say of neighbours

three : (id : ℕ) (a b c : Bool) → of_file id (claim a rule.Number >> (claim b rule.Epoch >> claim c rule.Home)) ≡ Ok tt → (a ≡ true) × (b ≡ true) × (c ≡ true)
three id true true true e = (refl, refl, refl)
three id true true false e = absurd (cc)
three id true false c e = absurd (cc)
three id false b c e = absurd (cc)

is_same : (m n : ℕ) → eqb m n ≡ true → m ≡ n
is_same m n e = grind (arith, nat_tests, e)

is_most : (m n : ℕ) → leb m n ≡ true → m ≤ n
is_most m n e = grind (arith, nat_tests, e)

-- the number goes on, the epoch doesn't fall, and the pool is the same
pub record IsNeighbour (f g : Headed) : Type 0 where
  pub number : g.header.number ≡ f.header.number + 1
  pub epoch : f.header.epoch ≤ g.header.epoch
  pub part : g.header.part ≡ f.header.part
  pub kib : g.header.kib ≡ f.header.kib

neighbour : (f g : Headed) → next_claims f g ≡ Ok tt → IsNeighbour f g
neighbour f g e =
    let is = three g.id (eqb g.header.number (f.header.number + 1)) (leb f.header.epoch g.header.epoch) (eqb g.header.part f.header.part && eqb g.header.kib f.header.kib) e in
    let home = and_parts (eqb g.header.part f.header.part) (eqb g.header.kib f.header.kib) is.2 in
    record {
      number = is_same g.header.number (f.header.number + 1) is.0;
      epoch = is_most f.header.epoch g.header.epoch is.1;
      part = is_same g.header.part f.header.part home.0;
      kib = is_same g.header.kib f.header.kib home.1;
    }

chained : (f g : Headed) (fs : List Headed) → chain_claims (f ∷ g ∷ fs) ≡ Ok tt → IsNeighbour f g × (chain_claims (g ∷ fs) ≡ Ok tt)
chained f g fs e = let parts = next_ok (next_claims f g) (chain_claims (g ∷ fs)) e in (neighbour f g parts.0, parts.1)

-- ---- the row

abbrev bare : List HeadedFile → List Headed
bare hs = map with_no_area hs

rise : (hs : List HeadedFile) → chain_claims (bare hs) ≡ Ok tt → EpochsRise (map linked hs)
rise [] e = tt
rise (f ∷ []) e = tt
rise (f ∷ g ∷ hs) e = let parts = chained (with_no_area f) (with_no_area g) (bare hs) e in (parts.0.epoch, rise (g ∷ hs) parts.1)

counts : (n : ℕ) (f : HeadedFile) (hs : List HeadedFile) → f.header.number ≡ n → chain_claims (bare (f ∷ hs)) ≡ Ok tt → CountFrom n (map linked (f ∷ hs))
counts n f [] is e = (is, tt)
counts n f (g ∷ hs) is e =
    let parts = chained (with_no_area f) (with_no_area g) (bare hs) e in
    (is, counts (n + 1) g hs (parts.0.number ∙ ap (λ k. k + 1) is) parts.1)

-- each is of this pool
abbrev pub IsOfPool : PoolId → FileHeader → Type 0
IsOfPool home h = (h.part ≡ home.part) × (h.kib ≡ home.kib)

of_pool : (home : PoolId) (f : HeadedFile) (hs : List HeadedFile) → IsOfPool home f.header → chain_claims (bare (f ∷ hs)) ≡ Ok tt → AllByRecursion (λ h. IsOfPool home h.header) (f ∷ hs)
of_pool home f [] is e = (is, tt)
of_pool home f (g ∷ hs) is e =
    let parts = chained (with_no_area f) (with_no_area g) (bare hs) e in
    (is, of_pool home g hs (parts.0.part ∙ is.0, parts.0.kib ∙ is.1) parts.1)

pub in_pool : (hs : List HeadedFile) → chain_claims (bare hs) ≡ Ok tt → AllByRecursion (λ h. IsOfPool (first_home hs) h.header) hs
in_pool [] e = tt
in_pool (f ∷ hs) e = of_pool (first_home (f ∷ hs)) f hs (refl, refl) e

owned : (o : Opening) (j : JournalFiles) (hs : List HeadedFile) → o.kind ≡ j.kind → o.name ≡ j.name → AllByRecursion (IsFileOf j) hs → AllByRecursion (λ h. IsOfPool o.home h.header) hs → AllByRecursion (IsOfJournal o) (map linked hs)
owned o j [] kind name own home = tt
owned o j (f ∷ hs) kind name own home = (here, owned o j hs kind name own.1 home.1)
  where
    here : IsOfJournal o (linked f)
    here = λ i. record {
      serial = f.header.serial;
      rid = f.header.rid;
      part = home.0.0 i;
      kib = home.0.1 i;
      first = f.header.first;
      number = f.header.number;
      epoch = f.header.epoch;
      kind = (own.0.kind ∙ sym kind) i;
      name = (own.0.name ∙ sym name) i;
    }

legal : (j : JournalFiles) (hs : List HeadedFile) → AllByRecursion (IsFileOf j) hs → AllByRecursion (λ h. IsTrue (is_legal_header h.header)) (map linked hs)
legal j [] own = tt
legal j (f ∷ hs) own = (own.0.legal, legal j hs own.1)

numbered : (hs : List HeadedFile) → chain_claims (bare hs) ≡ Ok tt → (n : ℕ) × CountFrom n (map linked hs)
numbered [] e = (0, tt)
numbered (f ∷ hs) e = (f.header.number, counts f.header.number f hs refl e)

pub in_row : (o : Opening) (j : JournalFiles) → IsInOrder j → o.kind ≡ j.kind → o.name ≡ j.name → o.home ≡ first_home j.files → AreInRow o (linked_files j)
in_row o j order kind name home =
    let numbers = numbered j.files order.chain in
    record {
      own = owned o j j.files kind name order.own (subst (λ (p : PoolId). AllByRecursion (λ h. IsOfPool p h.header) j.files) (sym home) (in_pool j.files order.chain));
      legal = legal j j.files order.own;
      rise = rise j.files order.chain;
      first = numbers.0;
      numbers = numbers.1;
    }

-- ---- the greatest epoch is that of the newest file

most_is : (a b c : ℕ) → a ≤ b → c ≡ b → max a c ≡ b
most_is a b c l e = grind (arith, l, e)

no_more : (a : ℕ) → max a 0 ≡ a
no_more a = grind arith

pub rising_greatest : (capacity : ℕ) (hs : List LinkedFile) (fs : List Headed) → AreThoseFiles capacity hs fs → chain_claims fs ≡ Ok tt → greatest_epoch fs ≡ last_epoch hs
rising_greatest capacity [] [] those e = refl
rising_greatest capacity [] (f ∷ fs) those e = absurd those
rising_greatest capacity (h ∷ hs) [] those e = absurd those
rising_greatest capacity (h ∷ []) (f ∷ []) those e = no_more f.header.epoch ∙ ap (λ (x : FileHeader). x.epoch) those.0.header
rising_greatest capacity (h ∷ []) (f ∷ g ∷ fs) those e = absurd those.1
rising_greatest capacity (h ∷ k ∷ hs) (f ∷ []) those e = absurd those.1
rising_greatest capacity (h ∷ k ∷ hs) (f ∷ g ∷ fs) those e =
    let parts = chained f g fs e in
    let rest = rising_greatest capacity (k ∷ hs) (g ∷ fs) those.1 parts.1 in
    up (greatest_epoch (g ∷ fs)) parts.0.epoch (most g fs) rest
  where
    most : (x : Headed) (xs : List Headed) → x.header.epoch ≤ greatest_epoch (x ∷ xs)
    most x xs = omega arith

    up : (n : ℕ) → f.header.epoch ≤ g.header.epoch → g.header.epoch ≤ n → n ≡ last_epoch (k ∷ hs) → max f.header.epoch n ≡ last_epoch (k ∷ hs)
    up n a b e = most_is f.header.epoch (last_epoch (k ∷ hs)) n (omega (arith, a, b, e)) e
