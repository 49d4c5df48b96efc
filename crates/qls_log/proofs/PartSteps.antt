-- The writes of a batch, moment by moment: which sectors they meet, and which are left.
use Rattle.std.proofs.Common.{◌≡◌, ℕ, ◌+◌, ◌-◌, ◌*◌, ◌≤◌, Bool, true, false, not, ◌&&◌, ◌||◌, ◌==◌, nat_le, nat_lt, List, [], ◌∷◌, ◌++◌, length, take, drop, Option, Some, None, Result, Ok, Err, refl, sym, ap, ◌∙◌, subst, arith, append_assoc, append-nil}
use Rattle.std.proofs.lemmas.Bool.Decides.{nat_tests}
use Rattle.std.proofs.lemmas.List.{append_cancel_left}
use Rattle.std.specs.List.{list_any, AllByRecursion}
use Rattle.qls_site.specs.declared.site.Place.{Place}
use Rattle.qls_site.specs.declared.site.Place.TheVariants.{InUse, Empty}
use Rattle.qls_site.specs.Disk.{FileState, Write, file_of, write_at}
use Rattle.qls_site.specs.Content.{Moment, Content, on_disk}
use Rattle.qls_meaning.specs.Journals.{is_in_use}
use Rattle.qls_meaning.specs.History.{History, FreeArea, now, next, is_file_in_use, is_pending, covers, uses, is_covered, is_unwritten}
use Rattle.qls_meaning.specs.Orderly.{MeetsOnly}
use Rattle.qls_pool.specs.Files.{HeadedFile, IdsDiffer, is_among}
use Rattle.qls_pool.specs.Moments.{Chain, Passes}
use Rattle.qls_pool.proofs.Disks.{eqb_is, found_id}
use Rattle.qls_pool.proofs.Steps.{own_change, differ_change}
use Rattle.qls_log.specs.Leaving.{RemainsInUse, NoneLeaves, WritesFile, IsWritingStep}
use Rattle.qls_log.specs.Logs.{ids}
use Rattle.qls_log.specs.Unwritten.{IsFreeFrom, IsClear}
use Rattle.qls_log.specs.Writing.{with_write, with_parts, WritesParts}
use Rattle.qls_log.proofs.Sectors.{KeepsSectors, same_file_keeps, unwritten_with}
use Rattle.qls_log.proofs.Takes.{other_changed}
use Rattle.qls_log.proofs.TakeSteps.{longer, same_last, each_change, stays_in_use}

abbrev writing : ℕ → List ℕ → FileState → FileState
writing at bytes f = record f { pending = f.pending ++ (record { at = at; bytes = bytes }) ∷ [] }

-- ---- the moments

abbrev pub parts_moments : ℕ → List ℕ → ℕ → List ℕ → Moment → List Moment
parts_moments cap [] from bytes m = []
parts_moments cap (id ∷ ids) from bytes m =
    let n = on_disk (write_at id (4096 + from) (take (cap - from) bytes)) m in n ∷ parts_moments cap ids 0 (drop (cap - from) bytes) n

pub parts_since : (cap : ℕ) (own : List ℕ) (from : ℕ) (bytes : List ℕ) (c : Content) → (with_parts cap own from bytes c).moments ≡ c.moments ++ parts_moments cap own from bytes c.now
parts_since cap [] from bytes c = sym (append-nil c.moments)
parts_since cap (id ∷ own) from bytes c =
    let n : Content = with_write id (4096 + from) (take (cap - from) bytes) c in
    parts_since cap own 0 (drop (cap - from) bytes) n ∙ append_assoc c.moments (n.now ∷ []) (parts_moments cap own 0 (drop (cap - from) bytes) n.now)

-- the moments that were added are the first of those of the whole, and all of them at Ok
pub record PartsMade (cap : ℕ) (own : List ℕ) (from : ℕ) (bytes : List ℕ) (x y : Content) : Type 0 where
  pub since : List Moment
  pub rest : List Moment
  pub moments : y.moments ≡ x.moments ++ since
  pub whole : parts_moments cap own from bytes x.now ≡ since ++ rest

abbrev pub parts_made : {X E : Type 0} (cap : ℕ) (own : List ℕ) (from : ℕ) (bytes : List ℕ) (r : Result X E) (x y : Content) → WritesParts cap own from bytes r x y → PartsMade cap own from bytes x y
parts_made cap own from bytes (Ok v) x y w = record {
  since = parts_moments cap own from bytes x.now;
  rest = [];
  moments = ap (λ (c : Content). c.moments) w ∙ parts_since cap own from bytes x;
  whole = sym (append-nil (parts_moments cap own from bytes x.now));
}
parts_made cap own from bytes (Err e) x y w = record {
  since = w.since;
  rest = w.rest;
  moments = w.moments;
  whole =
      append_cancel_left x.moments (parts_moments cap own from bytes x.now) (w.since ++ w.rest)
      (sym (parts_since cap own from bytes x) ∙ w.whole ∙ ap (λ (ms : List Moment). ms ++ w.rest) w.moments ∙ append_assoc x.moments w.since w.rest);
}

chain_cut : (R : Moment → Moment → Type 0) (m : Moment) (xs ys : List Moment) → Chain R m (xs ++ ys) → Chain R m xs
chain_cut R m [] ys c = tt
chain_cut R m (x ∷ xs) ys c = (c.0, chain_cut R x xs ys c.1)

-- ---- no file leaves use

parts_leave : (cap : ℕ) (own : List ℕ) (from : ℕ) (bytes : List ℕ) (m : Moment) → IdsDiffer m.disk → Chain NoneLeaves m (parts_moments cap own from bytes m)
parts_leave cap [] from bytes m differ = tt
parts_leave cap (id ∷ own) from bytes m differ =
    let part : List ℕ = take (cap - from) bytes in
    let n : Moment = on_disk (write_at id (4096 + from) part) m in (
      each_change RemainsInUse id (writing (4096 + from) part) (λ f. refl) m.disk differ (λ f. stays_in_use f f refl) (λ f e. stays_in_use f (writing (4096 + from) part f) refl),
      parts_leave cap own 0 (drop (cap - from) bytes) n (differ_change id (writing (4096 + from) part) (λ f. refl) m.disk differ),
    )

pub parts_pass : {X E : Type 0} (cap : ℕ) (own : List ℕ) (from : ℕ) (bytes : List ℕ) (r : Result X E) (x y : Content) → IdsDiffer x.now.disk → WritesParts cap own from bytes r x y → Passes NoneLeaves x y
parts_pass cap own from bytes r x y differ w =
    let made : PartsMade cap own from bytes x y = parts_made cap own from bytes r x y w in
    record {
      since = made.since;
      moments = made.moments;
      chain = chain_cut NoneLeaves x.now made.since made.rest (subst (Chain NoneLeaves x.now) made.whole (parts_leave cap own from bytes x.now differ));
    }

-- ---- files that aren't written

turned : (m n : ℕ) → (m == n) ≡ false → (n == m) ≡ false
turned m n e = grind (arith, nat_tests, e)

or_false : (a b : Bool) → (a || b) ≡ false → (a ≡ false) × (b ≡ false)
or_false true b e = absurd (cc)
or_false false b e = (refl, e)

pub unequal : (m n : ℕ) → ((m ≡ n) → ⊥) → (m == n) ≡ false
unequal m n h = from (m == n) refl
  where
    from : (b : Bool) → (m == n) ≡ b → (m == n) ≡ false
    from true e = absurd (h (eqb_is m n e))
    from false e = e

pub not_among : (id : ℕ) (hs : List HeadedFile) → AllByRecursion (λ g. (g.id ≡ id) → ⊥) hs → is_among id (ids hs) ≡ false
not_among id [] a = refl
not_among id (h ∷ hs) a = (λ i. unequal h.id id a.0 i || not_among id hs a.1 i)

pub parts_keep : (id cap : ℕ) (own : List ℕ) (from : ℕ) (bytes : List ℕ) (m : Moment) → is_among id own ≡ false → Chain (KeepsSectors id) m (parts_moments cap own from bytes m)
parts_keep id cap [] from bytes m e = tt
parts_keep id cap (k ∷ own) from bytes m e =
    let part : List ℕ = take (cap - from) bytes in
    let n : Moment = on_disk (write_at k (4096 + from) part) m in
    let both = or_false (k == id) (is_among id own) e in
    (same_file_keeps id m n (other_changed k id (writing (4096 + from) part) (λ f. refl) (turned k id both.0) m.disk), parts_keep id cap own 0 (drop (cap - from) bytes) n both.1)

-- ---- one write

found_used : (p : Option FileState) → is_file_in_use p ≡ true → (f : FileState) × (p ≡ Some f) × (is_in_use f.place ≡ true)
found_used None e = absurd (cc)
found_used (Some f) e = (f, refl, e)

any_push : (k : ℕ) (ws : List Write) (w : Write) → list_any (covers k) (ws ++ w ∷ []) ≡ (list_any (covers k) ws || covers k w)
any_push k [] w = or_none (covers k w)
  where
    or_none : (b : Bool) → (b || false) ≡ b
    or_none true = refl
    or_none false = refl
any_push k (v ∷ ws) w = ap (λ b. covers k v || b) (any_push k ws w) ∙ regroup (covers k v) (list_any (covers k) ws) (covers k w)
  where
    regroup : (a b c : Bool) → (a || (b || c)) ≡ ((a || b) || c)
    regroup true b c = refl
    regroup false b c = refl

written_bool : (u v c x free : Bool) → u ≡ true → v ≡ true → (free ≡ true → c ≡ false) → (u && not (c || x) && (free || not v)) ≡ (free && not x)
written_bool true true true x true a b h = absurd (cc (h refl))
written_bool true true false x true a b h = and_true (not x)
  where
    and_true : (b : Bool) → (b && true) ≡ b
    and_true true = refl
    and_true false = refl
written_bool true true c x false a b h = and_false (not (c || x))
  where
    and_false : (b : Bool) → (b && false) ≡ false
    and_false true = refl
    and_false false = refl
written_bool true false c x free a b h = absurd (cc)
written_bool false v c x free a b h = absurd (cc)

left_over : (a n q : ℕ) → (nat_le a q && not (nat_le a q && nat_lt q (a + n))) ≡ nat_le (a + n) q
left_over a n q = grind (arith, nat_tests)

module _ (areas : List FreeArea) (h : History) (m : Moment) (at : now h ≡ m) (id from : ℕ) (part : List ℕ) (cap : ℕ) (used : uses id m ≡ true) (free : IsFreeFrom areas h cap from id) (fits : from + length part ≤ cap) where
  abbrev n : Moment
  n = on_disk (write_at id (4096 + from) part) m

  abbrev w : Write
  w = record { at = 4096 + from; bytes = part }

  own : (f : FileState) × (file_of id m.disk ≡ Some f) × (is_in_use f.place ≡ true)
  own = found_used (file_of id m.disk) used

  after : file_of id n.disk ≡ Some (writing (4096 + from) part own.0)
  after = own_change id (writing (4096 + from) part) (λ f. refl) m.disk own.0 own.1

  pub used_after : uses id n ≡ true
  used_after = ap is_file_in_use after ∙ own.2

  meets : (f : FileState) (p : Place) → f.id ≡ id → is_in_use p ≡ true → MeetsOnly areas h f p w
  meets f InUse e u = (omega arith, λ k low high. ap (λ i. is_unwritten areas h i k) e ∙ free k (omega (arith, low)) (omega (arith, high, fits)) ∙ le_is (4096 + from) (512 * k) low)
    where
      le_is : (a q : ℕ) → a ≤ q → nat_le a q ≡ true
      le_is a q l = grind (arith, nat_tests)
  meets f (Empty part kib) e u = absurd (cc)

  pub write_meets : IdsDiffer m.disk → IsWritingStep areas h n
  write_meets differ =
      subst (λ (x : Moment). AllByRecursion (λ g. WritesFile areas h (file_of g.id x.disk) g) n.disk) (sym at)
      (each_change (WritesFile areas h) id (writing (4096 + from) part) (λ f. refl) m.disk differ (λ f v e. absurd (longer f.pending v e))
      (λ f e v k. subst (MeetsOnly areas h f f.place) (same_last f.pending w v k) (meets f f.place (found_id id f m.disk e) (sym (ap is_file_in_use e) ∙ used))))

  pub write_free : IsClear areas h id → IsFreeFrom areas (next h n) cap (from + length part) id
  write_free clear = λ k low high.
      let u : Bool = is_unwritten areas h id k in
      let pending : is_covered id k n ≡ (list_any (covers k) own.0.pending || covers k w) = ap (is_pending k) after ∙ any_push k own.0.pending w in
      let before : is_covered id k (now h) ≡ list_any (covers k) own.0.pending = ap (is_covered id k) at ∙ ap (is_pending k) own.1 in
      unwritten_with areas h (n ∷ []) id k ∙ ap (λ b. uses id n && not b && (u || not (uses id (now h)))) pending
      ∙ written_bool (uses id n) (uses id (now h)) (list_any (covers k) own.0.pending) (covers k w) u used_after (ap (uses id) at ∙ used) (λ e. sym before ∙ clear k e)
      ∙ ap (λ b. b && not (covers k w)) (free k low high) ∙ left_over (4096 + from) (length part) (512 * k) ∙ ap (λ a. nat_le a (512 * k)) (regroup (length part))
    where
      regroup : (a : ℕ) → 4096 + from + a ≡ 4096 + (from + a)
      regroup a = omega arith
