-- Ids that are counted, and the greatest epoch of a journal's files.
use Rattle.std.proofs.Common.{◌≡◌, ◌⊎◌, inl, inr, ℕ, zero, suc, ◌+◌, ◌<◌, ◌≤◌, Bool, true, false, cond, ◌||◌, ◌==◌, List, [], ◌∷◌, map, length, take, drop, refl, sym, ap, ◌∙◌, subst, arith, max}
use Rattle.std.proofs.Math.Nat.{max-zero, max_comm, max-eq_left}
use Rattle.std.proofs.lemmas.Bool.{cases_lt}
use Rattle.std.specs.List.{AllByRecursion}
use Rattle.qls_filehdr.specs.declared.FileHeader.{FileHeader}
use Rattle.qls_meaning.specs.Journals.{Headed}
use Rattle.qls_meaning.specs.Spent.{greatest_epoch}
use Rattle.qls_pool.specs.Files.{HeadedFile, is_among}
use Rattle.qls_pool.proofs.Disks.{eqb_is, eqb_own}
use Rattle.qls_log.specs.declared.opening.Opening.{Opening}
use Rattle.qls_log.specs.Logs.{IsOfOpening, EndBefore, ids}
use Rattle.qls_log.specs.Standing.{AreThoseFiles, AreApart}

-- ---- numbers, none twice

abbrev pub Differ : List ℕ → Type 0
Differ [] = Unit {0}
Differ (x ∷ xs) = AllByRecursion (λ y. (y ≡ x) → ⊥) xs × Differ xs

-- without the first that is this one
abbrev without : ℕ → List ℕ → List ℕ
without x [] = []
without x (y ∷ ys) = cond (y == x) ys (y ∷ without x ys)

without_length : (x : ℕ) (ys : List ℕ) → is_among x ys ≡ true → length ys ≡ suc (length (without x ys))
without_length x [] e = absurd (cc)
without_length x (y ∷ ys) e = by (y == x) (without_length x ys) e
  where
    by : (b : Bool) → (is_among x ys ≡ true → length ys ≡ suc (length (without x ys))) → (b || is_among x ys) ≡ true → suc (length ys) ≡ suc (length (cond b ys (y ∷ without x ys)))
    by true later e = refl
    by false later e = ap suc (later e)

without_among : (x z : ℕ) (ys : List ℕ) → (z ≡ x → ⊥) → is_among z ys ≡ true → is_among z (without x ys) ≡ true
without_among x z [] ne h = h
without_among x z (y ∷ ys) ne h = by (y == x) refl (y == z) refl (without_among x z ys ne) h
  where
    by : (b : Bool) → (y == x) ≡ b → (c : Bool) → (y == z) ≡ c → (is_among z ys ≡ true → is_among z (without x ys) ≡ true) → (c || is_among z ys) ≡ true → is_among z (cond b ys (y ∷ without x ys)) ≡ true
    by true e true f later k = absurd (ne (sym (eqb_is y z f) ∙ eqb_is y x e))
    by true e false f later k = k
    by false e true f later k = ap (λ t. t || is_among z (without x ys)) f
    by false e false f later k = ap (λ t. t || is_among z (without x ys)) f ∙ later k

all_without : (x : ℕ) (xs ys : List ℕ) → AllByRecursion (λ z. (z ≡ x) → ⊥) xs → AllByRecursion (λ z. is_among z ys ≡ true) xs → AllByRecursion (λ z. is_among z (without x ys) ≡ true) xs
all_without x [] ys ne h = tt
all_without x (z ∷ xs) ys ne h = (without_among x z ys ne.0 h.0, all_without x xs ys ne.1 h.1)

-- they are no more than others among which they are
pub no_more : (xs ys : List ℕ) → Differ xs → AllByRecursion (λ x. is_among x ys ≡ true) xs → length xs ≤ length ys
no_more [] ys d h = omega arith
no_more (x ∷ xs) ys d h = omega (arith, without_length x ys h.0, no_more xs (without x ys) d.1 (all_without x xs ys d.0 h.1))

-- ---- ids of files

pub ids_differ : (hs : List HeadedFile) → AreApart hs → Differ (ids hs)
ids_differ [] a = tt
ids_differ (h ∷ hs) a = (apart hs a.0, ids_differ hs a.1)
  where
    apart : (gs : List HeadedFile) → AllByRecursion (λ g. (g.id ≡ h.id) → ⊥) gs → AllByRecursion (λ y. (y ≡ h.id) → ⊥) (ids gs)
    apart [] k = tt
    apart (g ∷ gs) k = (k.0, apart gs k.1)

pub apart_take : (n : ℕ) (hs : List HeadedFile) → AreApart hs → AreApart (take n hs)
apart_take zero hs a = tt
apart_take (suc n) [] a = tt
apart_take (suc n) (h ∷ hs) a = (first n hs a.0, apart_take n hs a.1)
  where
    first : (n : ℕ) (gs : List HeadedFile) → AllByRecursion (λ g. (g.id ≡ h.id) → ⊥) gs → AllByRecursion (λ g. (g.id ≡ h.id) → ⊥) (take n gs)
    first zero gs k = tt
    first (suc n) [] k = tt
    first (suc n) (g ∷ gs) k = (k.0, first n gs k.1)

abbrev pub ids_in : List Headed → List ℕ
ids_in fs = map (λ f. f.id) fs

or_later : (a b : Bool) → b ≡ true → (a || b) ≡ true
or_later true b e = refl
or_later false b e = e

pub all_among : (fs : List Headed) → AllByRecursion (λ f. is_among f.id (ids_in fs) ≡ true) fs
all_among [] = tt
all_among (f ∷ fs) = (ap (λ b. b || is_among f.id (ids_in fs)) (eqb_own f.id), more fs (all_among fs))
  where
    more : (gs : List Headed) → AllByRecursion (λ g. is_among g.id (ids_in fs) ≡ true) gs → AllByRecursion (λ g. is_among g.id (ids_in (f ∷ fs)) ≡ true) gs
    more [] k = tt
    more (g ∷ gs) k = (or_later (f.id == g.id) (is_among g.id (ids_in fs)) k.0, more gs k.1)

-- ---- the greatest epoch

max_right : (a b : ℕ) → a ≤ b → max a b ≡ b
max_right a b h = max_comm a b ∙ max-eq_left h

-- a file has it
pub greatest_there : (e : ℕ) (P : Headed → Type 0) (fs : List Headed) → 0 < e → greatest_epoch fs ≡ e → AllByRecursion P fs → (f : Headed) × P f × (f.header.epoch ≡ e)
greatest_there e P [] some is all = absurd (omega (arith, some, is))
greatest_there e P (f ∷ fs) some is all = by (λ k. greatest_there e P fs some k all.1) (cases_lt f.header.epoch (greatest_epoch fs))
  where
    by : (greatest_epoch fs ≡ e → (g : Headed) × P g × (g.header.epoch ≡ e)) → (f.header.epoch < greatest_epoch fs) ⊎ (greatest_epoch fs ≤ f.header.epoch) → (g : Headed) × P g × (g.header.epoch ≡ e)
    by rest (inl less) = rest (sym (max_right f.header.epoch (greatest_epoch fs) (omega (arith, less))) ∙ is)
    by rest (inr more) = (f, all.0, sym (max-eq_left more) ∙ is)

-- where the files behind the first so many are of this opening and there is one, it is this opening's
pub greatest_own : (o : Opening) (n cap : ℕ) (hs : List HeadedFile) (fs : List Headed) → n < length hs → AreThoseFiles cap hs fs → AllByRecursion (λ h. h.header.epoch < o.epoch) (take n hs) → AllByRecursion (IsOfOpening o) (drop n hs) → greatest_epoch fs ≡ o.epoch
greatest_own o n cap [] fs less t olds own = absurd (omega (arith, less))
greatest_own o n cap (h ∷ hs) [] less t olds own = absurd t
greatest_own o zero cap (h ∷ []) (f ∷ []) less t olds own = max-zero f.header.epoch ∙ ap (λ (x : FileHeader). x.epoch) (t.0.header ∙ own.0)
greatest_own o zero cap (h ∷ []) (f ∷ g ∷ fs) less t olds own = absurd t.1
greatest_own o zero cap (h ∷ k ∷ hs) (f ∷ fs) less t olds own =
    let rest : greatest_epoch fs ≡ o.epoch = greatest_own o zero cap (k ∷ hs) fs (omega arith) t.1 tt own.1 in
    let first : f.header.epoch ≡ o.epoch = ap (λ (x : FileHeader). x.epoch) (t.0.header ∙ own.0) in
    max_right f.header.epoch (greatest_epoch fs) (omega (arith, rest, first)) ∙ rest
greatest_own o (suc n) cap (h ∷ hs) (f ∷ fs) less t olds own =
    let rest : greatest_epoch fs ≡ o.epoch = greatest_own o n cap hs fs (omega (arith, less)) t.1 olds.1 own in
    let lesser : f.header.epoch < o.epoch = subst (λ (x : FileHeader). x.epoch < o.epoch) (sym t.0.header) olds.0 in
    max_right f.header.epoch (greatest_epoch fs) (omega (arith, rest, lesser)) ∙ rest

-- where all are of earlier openings, it is that of the newest file
pub greatest_before : (e cap : ℕ) (hs : List HeadedFile) (fs : List Headed) → 0 < length hs → AreThoseFiles cap hs fs → AllByRecursion (λ h. h.header.epoch < e) hs → EndBefore e hs → greatest_epoch fs + 1 ≡ e
greatest_before e cap [] fs some t less end = absurd (omega (arith, some))
greatest_before e cap (h ∷ hs) [] some t less end = absurd t
greatest_before e cap (h ∷ []) (f ∷ []) some t less end = ap (λ n. n + 1) (max-zero f.header.epoch ∙ ap (λ (x : FileHeader). x.epoch) t.0.header) ∙ end
greatest_before e cap (h ∷ []) (f ∷ g ∷ fs) some t less end = absurd t.1
greatest_before e cap (h ∷ k ∷ hs) (f ∷ []) some t less end = absurd t.1
greatest_before e cap (h ∷ k ∷ hs) (f ∷ g ∷ fs) some t less end =
    let rest : greatest_epoch (g ∷ fs) + 1 ≡ e = greatest_before e cap (k ∷ hs) (g ∷ fs) (omega arith) t.1 less.1 end in
    let lesser : f.header.epoch < e = subst (λ (x : FileHeader). x.epoch < e) (sym t.0.header) less.0 in
    ap (λ n. n + 1) (max_right f.header.epoch (greatest_epoch (g ∷ fs)) (omega (arith, rest, lesser))) ∙ rest
