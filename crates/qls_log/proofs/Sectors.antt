-- Which sectors stay unwritten, and what writes meet, over the moments of one call after another.
use Rattle.std.proofs.Common.{◌≡◌, ℕ, ◌+◌, ◌*◌, ◌≤◌, Bool, true, false, not, ◌&&◌, ◌||◌, nat_le, List, [], ◌∷◌, ◌++◌, Option, Some, None, refl, sym, ap, ◌∙◌, subst, append_assoc, append-nil}
use Rattle.std.proofs.lemmas.Bool.{le-leb}
use Rattle.std.specs.List.{AllByRecursion}
use Rattle.qls_site.specs.declared.site.Place.{Place}
use Rattle.qls_site.specs.declared.site.Place.TheVariants.{InUse, Empty}
use Rattle.qls_site.specs.Disk.{FileState, Write, file_of}
use Rattle.qls_site.specs.Content.{Moment}
use Rattle.qls_meaning.specs.History.{History, FreeArea, last_of, now, next, is_file_in_use, is_pending, uses, is_covered, unwritten_since, is_free, is_unwritten}
use Rattle.qls_meaning.specs.Orderly.{MeetsOnly}
use Rattle.qls_laws.proofs.HistoryLaws.{unwritten_since-append}
use Rattle.qls_pool.specs.Files.{HeadedFile}
use Rattle.qls_pool.specs.Moments.{Chain}
use Rattle.qls_pool.proofs.Moments.{last-append}
use Rattle.qls_pool.proofs.Steps.{all_weaken}
use Rattle.qls_log.specs.declared.opening.Opening.{Opening}
use Rattle.qls_log.specs.Leaving.{WritesFile, IsWritingStep, WritesInOrder}
use Rattle.qls_log.specs.Keeping.{MeetsEmpty, WritesEmptyFile, WritesEmpty, IsTakeStep}
use Rattle.qls_log.specs.Unwritten.{IsFreeFrom, IsClear, AreWrittenTo, history_with}

-- ---- one sector

-- a file in use stays so, and no more of its sectors are covered
abbrev pub KeepsSectors : ℕ → Moment → Moment → Type 0
KeepsSectors id m n = uses id m ≡ true → (uses id n ≡ true) × ((k : ℕ) → is_covered id k n ≡ true → is_covered id k m ≡ true)

pub same_file_keeps : (id : ℕ) (m n : Moment) → file_of id n.disk ≡ file_of id m.disk → KeepsSectors id m n
same_file_keeps id m n e = λ used. (ap is_file_in_use e ∙ used, λ k c. sym (ap (is_pending k) e) ∙ c)

pub take_keeps : (o : Opening) (id : ℕ) (m n : Moment) → IsTakeStep o m n → KeepsSectors id m n
take_keeps o id m n t = λ used. same_file_keeps id m n (t.still id used) used

no_both : (b : Bool) → b ≡ true → b ≡ false → ⊥
no_both b x y = cc

false_by : (b : Bool) → (b ≡ true → ⊥) → b ≡ false
false_by true h = absurd (h refl)
false_by false h = refl

kept_bool : (u c free v : Bool) → u ≡ true → v ≡ true → (free ≡ true → c ≡ false) → (u && not c && (free || not v)) ≡ free
kept_bool true true true v a b h = absurd (no_both true refl (h refl))
kept_bool true false true v a b h = refl
kept_bool true true false true a b h = refl
kept_bool true false false true a b h = refl
kept_bool true c false false a b h = absurd (no_both false b refl)
kept_bool false c free v a b h = absurd (no_both false a refl)

fresh_bool : (u c free v : Bool) → u ≡ true → c ≡ false → v ≡ false → (u && not c && (free || not v)) ≡ true
fresh_bool true false true false a b d = refl
fresh_bool true false false false a b d = refl
fresh_bool u c free true a b d = absurd (no_both true refl d)
fresh_bool u true free v a b d = absurd (no_both true refl b)
fresh_bool false c free v a b d = absurd (no_both false a refl)

uncovered : (u c x : Bool) → (u && not c && x) ≡ true → c ≡ false
uncovered true true x e = absurd (no_both false e refl)
uncovered true false x e = refl
uncovered false c x e = absurd (no_both false e refl)

record IsKeptAt (id k : ℕ) (free : Bool) (m : Moment) (ms : List Moment) : Type 0 where
  used : uses id (last_of m ms) ≡ true
  same : unwritten_since id k free m ms ≡ free
  clear : free ≡ true → is_covered id k (last_of m ms) ≡ false

kept_since : (id k : ℕ) (free : Bool) (m : Moment) (ms : List Moment) → Chain (KeepsSectors id) m ms → uses id m ≡ true → (free ≡ true → is_covered id k m ≡ false) → IsKeptAt id k free m ms
kept_since id k free m [] h used clear = record { used = used; same = refl; clear = clear }
kept_since id k free m (n ∷ ns) h used clear =
    let step = h.0 used in
    let here : free ≡ true → is_covered id k n ≡ false = λ e. false_by (is_covered id k n) (λ c. no_both (is_covered id k m) (step.1 k c) (clear e)) in
    let rest : IsKeptAt id k free n ns = kept_since id k free n ns h.1 step.0 here in
    record {
      used = rest.used;
      same = ap (λ b. unwritten_since id k b n ns) (kept_bool (uses id n) (is_covered id k n) free (uses id m) step.0 used here) ∙ rest.same;
      clear = rest.clear;
    }

-- what is unwritten isn't being written
pub clear_last : (id k : ℕ) (free : Bool) (m : Moment) (ms : List Moment) → (free ≡ true → is_covered id k m ≡ false) → unwritten_since id k free m ms ≡ true → is_covered id k (last_of m ms) ≡ false
clear_last id k free m [] h e = h e
clear_last id k free m (n ∷ ns) h e =
    clear_last id k (uses id n && not (is_covered id k n) && (free || not (uses id m))) n ns (uncovered (uses id n) (is_covered id k n) (free || not (uses id m))) e

-- a file that came into use is unwritten
pub fresh_since : (o : Opening) (id k : ℕ) (free : Bool) (m : Moment) (ms : List Moment) → Chain (IsTakeStep o) m ms → uses id m ≡ false → uses id (last_of m ms) ≡ true → unwritten_since id k free m ms ≡ true
fresh_since o id k free m [] h out used = absurd (no_both (uses id m) used out)
fresh_since o id k free m (n ∷ ns) h out used =
    by (uses id n) refl (λ e. fresh_since o id k (uses id n && not (is_covered id k n) && (free || not (uses id m))) n ns h.1 e used)
  where
    take_all : (m : Moment) (ms : List Moment) → Chain (IsTakeStep o) m ms → Chain (KeepsSectors id) m ms
    take_all m [] h = tt
    take_all m (n ∷ ns) h = (take_keeps o id m n h.0, take_all n ns h.1)

    by : (b : Bool) → uses id n ≡ b → (uses id n ≡ false → unwritten_since id k free m (n ∷ ns) ≡ true) → unwritten_since id k free m (n ∷ ns) ≡ true
    by true e later =
        let clear : is_covered id k n ≡ false = h.0.quiet id k out e in
        ap (λ b. unwritten_since id k b n ns) (fresh_bool (uses id n) (is_covered id k n) free (uses id m) e clear out) ∙ (kept_since id k true n ns (take_all n ns h.1) e (λ t. clear)).same
    by false e later = later e

-- ---- histories

pub now_with : (h : History) (ms : List Moment) → now (history_with h ms) ≡ last_of (now h) ms
now_with h ms = last-append (λ m n. Unit {0}) h.start h.since ms

pub with_more : (h : History) (m : Moment) (ms : List Moment) → history_with (next h m) ms ≡ history_with h (m ∷ ms)
with_more h m ms = ap (λ (s : List Moment). record { start = h.start; since = s }) (append_assoc h.since (m ∷ []) ms)

pub with_both : (h : History) (xs ys : List Moment) → history_with (history_with h xs) ys ≡ history_with h (xs ++ ys)
with_both h xs ys = ap (λ (s : List Moment). record { start = h.start; since = s }) (append_assoc h.since xs ys)

pub with_none : (h : History) → history_with h [] ≡ h
with_none h = ap (λ (s : List Moment). record { start = h.start; since = s }) (append-nil h.since)

module _ (areas : List FreeArea) where
  pub unwritten_with : (h : History) (ms : List Moment) (id k : ℕ) → is_unwritten areas (history_with h ms) id k ≡ unwritten_since id k (is_unwritten areas h id k) (now h) ms
  unwritten_with h ms id k = unwritten_since-append id k (is_free areas id k) h.start h.since ms

  pub settled_next : (h : History) (m : Moment) (id : ℕ) → IsClear areas (next h m) id
  settled_next h m id k e =
      ap (is_covered id k) (now_with h (m ∷ []))
      ∙ uncovered (uses id m) (is_covered id k m) (is_unwritten areas h id k || not (uses id (now h))) (sym (unwritten_with h (m ∷ []) id k) ∙ e)

  -- it stays so
  pub clear_with : (h : History) (ms : List Moment) (id : ℕ) → IsClear areas h id → IsClear areas (history_with h ms) id
  clear_with h ms id clear k e =
      ap (is_covered id k) (now_with h ms) ∙ clear_last id k (is_unwritten areas h id k) (now h) ms (clear k) (sym (unwritten_with h ms id k) ∙ e)

  pub kept_sectors : (h : History) (id : ℕ) (ms : List Moment) → Chain (KeepsSectors id) (now h) ms → uses id (now h) ≡ true → IsClear areas h id → (k : ℕ) → is_unwritten areas (history_with h ms) id k ≡ is_unwritten areas h id k
  kept_sectors h id ms c used clear k = unwritten_with h ms id k ∙ (kept_since id k (is_unwritten areas h id k) (now h) ms c used (clear k)).same

  pub kept_free : (h : History) (id : ℕ) (ms : List Moment) (cap from : ℕ) → Chain (KeepsSectors id) (now h) ms → uses id (now h) ≡ true → IsClear areas h id → IsFreeFrom areas h cap from id → IsFreeFrom areas (history_with h ms) cap from id
  kept_free h id ms cap from c used clear free = λ k low high. kept_sectors h id ms c used clear k ∙ free k low high

  pub fresh_free : (o : Opening) (h : History) (id : ℕ) (ms : List Moment) (cap : ℕ) → Chain (IsTakeStep o) (now h) ms → uses id (now h) ≡ false → uses id (last_of (now h) ms) ≡ true → IsFreeFrom areas (history_with h ms) cap 0 id
  fresh_free o h id ms cap c out used = λ k low high.
      unwritten_with h ms id k ∙ fresh_since o id k (is_unwritten areas h id k) (now h) ms c out used ∙ sym (past k low)
    where
      past : (k : ℕ) → 4096 ≤ 512 * k → nat_le (4096 + 0) (512 * k) ≡ true
      past k low = le-leb 4096 (512 * k) low

  -- ---- what writes meet

  pub in_order_then : (h : History) (xs ys : List Moment) → WritesInOrder areas h xs → WritesInOrder areas (history_with h xs) ys → WritesInOrder areas h (xs ++ ys)
  in_order_then h [] ys p q = subst (λ (g : History). WritesInOrder areas g ys) (with_none h) q
  in_order_then h (x ∷ xs) ys p q = (p.0, in_order_then (next h x) xs ys p.1 (subst (λ (g : History). WritesInOrder areas g ys) (sym (with_more h x xs)) q))

  pub in_order_cut : (h : History) (xs ys : List Moment) → WritesInOrder areas h (xs ++ ys) → WritesInOrder areas h xs
  in_order_cut h [] ys p = tt
  in_order_cut h (x ∷ xs) ys p = (p.0, in_order_cut (next h x) xs ys p.1)

  meets_only : (h : History) (f : FileState) (p : Place) (w : Write) → MeetsEmpty p w → MeetsOnly areas h f p w
  meets_only h f InUse w e = absurd e
  meets_only h f (Empty part kib) w e = e

  empty_file : (h : History) (p : Option FileState) (g : FileState) → WritesEmptyFile p g → WritesFile areas h p g
  empty_file h None g e = tt
  empty_file h (Some f) g e = λ w k. meets_only h f f.place w (e w k)

  pub empty_step : (h : History) (m : Moment) → WritesEmpty (now h) m → IsWritingStep areas h m
  empty_step h m e = all_weaken (λ g. WritesEmptyFile (file_of g.id (now h).disk) g) (λ g. WritesFile areas h (file_of g.id (now h).disk) g) (λ g k. empty_file h (file_of g.id (now h).disk) g k) m.disk e

  pub empty_in_order : (R : Moment → Moment → Type 0) → ((m n : Moment) → R m n → WritesEmpty m n) → (h : History) (ms : List Moment) → Chain R (now h) ms → WritesInOrder areas h ms
  empty_in_order R w h [] c = tt
  empty_in_order R w h (m ∷ ms) c =
      (empty_step h m (w (now h) m c.0), empty_in_order R w (next h m) ms (subst (λ (n : Moment). Chain R n ms) (sym (now_with h (m ∷ []))) c.1))

-- ---- all files of a log

module _ (areas : List FreeArea) (g h : History) (cap : ℕ) where
  -- each file that stays free from where it was
  abbrev pub StaysFree : ℕ → Type 0
  StaysFree id = (from : ℕ) → IsFreeFrom areas h cap from id → IsFreeFrom areas g cap from id

  pub written_still : (used : ℕ) (hs : List HeadedFile) → AllByRecursion (λ f. StaysFree f.id) hs → AreWrittenTo areas h cap used hs → AreWrittenTo areas g cap used hs
  written_still used [] a w = tt
  written_still used (f ∷ []) a w = a.0 used w
  written_still used (f ∷ k ∷ hs) a w = (a.0 cap w.0, written_still used (k ∷ hs) a.1 w.1)
