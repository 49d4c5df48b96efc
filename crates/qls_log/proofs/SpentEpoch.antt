-- An opening with the epoch past the last: the journal has no file of it.
use Rattle.std.proofs.Common.{◌≡◌, ℕ, zero, suc, ◌+◌, ◌-◌, ◌^◌, ◌<◌, ◌≤◌, true, not, ◌&&◌, ◌==◌, nat_lt, List, [], ◌∷◌, length, take, drop, Option, Some, None, IfSome, IsTrue, refl, sym, ap, ap₂, ◌∙◌, subst, arith, length-drop, ltb-true, max}
use Rattle.std.proofs.Math.Nat.{max-zero, max_comm, max-eq_left}
use Rattle.std.proofs.lemmas.Bool.{and_parts}
use Rattle.std.proofs.lemmas.Bool.Decides.{nat_tests}
use Rattle.std.specs.List.{AllByRecursion}
use Rattle.qls_site.specs.Disk.{Disk}
use Rattle.qls_site.specs.Content.{Content}
use Rattle.qls_filehdr.specs.declared.FileHeader.{FileHeader}
use Rattle.qls_filehdr.specs.Limits.{is_counter, is_legal_header}
use Rattle.qls_filehdr.proofs.HeaderTrip.{legal_parts}
use Rattle.qls_meaning.specs.Journals.{Headed}
use Rattle.qls_meaning.specs.Spent.{last_count, greatest_epoch}
use Rattle.qls_blocks.specs.declared.plan.FreshFile.{FreshFile}
use Rattle.qls_pool.specs.Pools.{PoolState}
use Rattle.qls_pool.specs.Files.{HeadedFile, OnDisk}
use Rattle.qls_log.specs.declared.opening.Opening.{Opening}
use Rattle.qls_log.specs.Logs.{LogState, IsSound, IsOfOpening, EndBefore, AreHeaded, capacity_in}
use Rattle.qls_log.specs.Standing.{AreThoseFiles, LogThere, files_on}
use Rattle.qls_log.specs.Taking.{TakesFiles, TakesFirst}
use Rattle.qls_log.proofs.Older.{those_count}
use Rattle.qls_log.proofs.Appended.{headed_own}

-- where the epoch is past the last, the journal on the disk has no file of it, and its greatest epoch is the last
abbrev pub HasNoEpoch : LogState → Disk → Type 0
HasNoEpoch l d = l.opening.epoch ≡ 2 ^ 62 → (not (nat_lt l.older (length (files_on l.opening d))) && (greatest_epoch (files_on l.opening d) == last_count)) ≡ true

max_right : (a b : ℕ) → a ≤ b → max a b ≡ b
max_right a b h = max_comm a b ∙ max-eq_left h

-- the newest file's epoch is the greatest
greatest_is : (e cap : ℕ) (hs : List HeadedFile) (fs : List Headed) → 0 < length hs → AreThoseFiles cap hs fs → AllByRecursion (λ h. h.header.epoch < e) hs → EndBefore e hs → greatest_epoch fs + 1 ≡ e
greatest_is e cap [] fs some t less end = absurd (omega (arith, some))
greatest_is e cap (h ∷ hs) [] some t less end = absurd t
greatest_is e cap (h ∷ []) (f ∷ []) some t less end = ap (λ n. n + 1) (max-zero f.header.epoch ∙ ap (λ (x : FileHeader). x.epoch) t.0.header) ∙ end
greatest_is e cap (h ∷ []) (f ∷ g ∷ fs) some t less end = absurd t.1
greatest_is e cap (h ∷ k ∷ hs) (f ∷ []) some t less end = absurd t.1
greatest_is e cap (h ∷ k ∷ hs) (f ∷ g ∷ fs) some t less end =
    let rest : greatest_epoch (g ∷ fs) + 1 ≡ e = greatest_is e cap (k ∷ hs) (g ∷ fs) (omega arith) t.1 less.1 end in
    let lesser : f.header.epoch < e = subst (λ (x : FileHeader). x.epoch < e) (sym t.0.header) less.0 in
    ap (λ n. n + 1) (max_right f.header.epoch (greatest_epoch (g ∷ fs)) (omega (arith, rest, lesser))) ∙ rest

counted : (e : ℕ) → is_counter e ≡ true → e < 2 ^ 62
counted e is = ltb-true e (2 ^ 62) (and_parts _ _ is).1

-- no legal header has that epoch
none_of_it : (o : Opening) (hs : List HeadedFile) → o.epoch ≡ 2 ^ 62 → AllByRecursion (IsOfOpening o) hs → AllByRecursion (λ h. IsTrue (is_legal_header h.header)) hs → hs ≡ []
none_of_it o [] last own legal = refl
none_of_it o (h ∷ hs) last own legal = absurd (below h.header.epoch (counted h.header.epoch (legal_parts h.header legal.0).epoch) (ap (λ (x : FileHeader). x.epoch) own.0 ∙ last))
  where
    below : (e : ℕ) → e < 2 ^ 62 → e ≡ 2 ^ 62 → ⊥
    below e a b = omega (arith, a, b)

no_less : (m n : ℕ) → m ≡ n → not (nat_lt m n) ≡ true
no_less m n e = grind (arith, nat_tests, e)

equal_of : (a b : ℕ) → a ≡ b → (a == b) ≡ true
equal_of a b e = grind (arith, nat_tests, e)

all_dropped : (P : HeadedFile → Type 0) (k : ℕ) (hs : List HeadedFile) → AllByRecursion P hs → AllByRecursion P (drop k hs)
all_dropped P zero hs a = a
all_dropped P (suc k) [] a = tt
all_dropped P (suc k) (h ∷ hs) a = all_dropped P k hs a.1

module _ (l : LogState) (sound : IsSound l) where
  all_older : l.opening.epoch ≡ 2 ^ 62 → l.older ≡ length l.files
  all_older last =
      let none : drop l.older l.files ≡ [] = none_of_it l.opening (drop l.older l.files) last sound.own (all_dropped (λ h. IsTrue (is_legal_header h.header)) l.older l.files sound.legal) in
      omega (arith, sym (length-drop l.older l.files) ∙ ap length none, sound.older)

  spent_at : (d : Disk) → LogThere l d → HasNoEpoch l d
  spent_at d there = λ last.
      let older : l.older ≡ length l.files = all_older last in
      let count : l.older ≡ length (files_on l.opening d) = older ∙ sym (those_count (capacity_in l.opening) l.files (files_on l.opening d) there.there.files) in
      let olds : AllByRecursion (λ h. h.header.epoch < l.opening.epoch) l.files = subst (AllByRecursion (λ h. h.header.epoch < l.opening.epoch)) (ap (λ n. take n l.files) older ∙ take_all l.files) sound.olds in
      let greatest : greatest_epoch (files_on l.opening d) + 1 ≡ l.opening.epoch = greatest_is l.opening.epoch (capacity_in l.opening) l.files (files_on l.opening d) sound.some there.there.files olds (sound.next older) in
      ap₂ (λ a b. a && b) (no_less l.older (length (files_on l.opening d)) count) (equal_of (greatest_epoch (files_on l.opening d)) last_count (one_less (greatest_epoch (files_on l.opening d)) l.opening.epoch greatest last))
    where
      take_all : (hs : List HeadedFile) → take (length hs) hs ≡ hs
      take_all [] = refl
      take_all (h ∷ hs) = ap (λ (xs : List HeadedFile). h ∷ xs) (take_all hs)

      one_less : (g e : ℕ) → g + 1 ≡ e → e ≡ 2 ^ 62 → g ≡ 2 ^ 62 - 1
      one_less g e a b = omega (arith, a, b)

  module _ (fs : List FreshFile) (pool left : PoolState) where
    none_taken : (taken : List HeadedFile) (a b : Content) → AreHeaded l.opening l.newest fs taken → AllByRecursion (λ h. IsTrue (is_legal_header h.header)) taken → TakesFiles l.opening.home pool left taken a b → LogThere l a.now.disk → HasNoEpoch l b.now.disk
    none_taken [] a b headers legal t there = subst (λ (c : Content). HasNoEpoch l c.now.disk) (sym t.1) (spent_at a.now.disk there)
    none_taken (h ∷ hs) a b headers legal t there = λ last. absurd (some h hs (none_of_it l.opening (h ∷ hs) last (headed_own l.opening l.newest fs (h ∷ hs) headers) legal))
      where
        some : (h : HeadedFile) (hs : List HeadedFile) → h ∷ hs ≡ [] → ⊥
        some h hs e = cc

  pub told_no_epoch : (fresh : List FreshFile) (pool left : PoolState) (a b : Option Content) → TakesFirst l.opening l.newest fresh pool left a b → IfSome a (OnDisk (LogThere l)) → IfSome b (OnDisk (HasNoEpoch l))
  told_no_epoch fresh pool left a None t there = tt
  told_no_epoch fresh pool left None (Some y) t there = absurd t.told
  told_no_epoch fresh pool left (Some x) (Some y) t there = none_taken (take (length t.files) fresh) pool left t.files x y t.headers t.legal t.told there
