-- Counts of blocks, after a record more or less, and what passing blocks passes.
use Rattle.std.proofs.Common.{◌≡◌, ℕ, zero, suc, ◌+◌, ◌-◌, ◌*◌, ◌/◌, ◌<◌, ◌≤◌, min, nat_lt, nat_eq, Bool, true, false, ◌&&◌, cond, List, [], ◌∷◌, ◌++◌, length, take, get_or, set, slice_get, Option, Some, None, is_some, refl, ap, sym, ◌∙◌, arith, length-set}
use Rattle.std.proofs.Math.Nat.{mul_comm, mul-le-mul_right}
use Rattle.std.proofs.lemmas.List.{get_or-set_same, get_or-set_other}
use Rattle.std.specs.List.{cons_option}
use Rattle.qls_enqmap.specs.declared.Held.{Held}
use Rattle.std.specs.Map.{lookup, set_value}
use Rattle.qls_enqmap.specs.declared.blocks.Blocks.{Blocks}
use Rattle.qls_enqmap.specs.Slots.{Slots, held_in, occupied, all_of, before, RisesFrom, IsSlotOf, Gains, Loses, IsCounted, AreCounted}
use Rattle.qls_enqmap.proofs.Kept.{few}

-- ---- how many before a place

take_le : (es : Slots) (n : ℕ) → length (take n es) ≤ length es
take_le es zero = omega arith
take_le [] (suc n) = omega arith
take_le (e ∷ es) (suc n) = omega (arith, take_le es n)

pub before_le : (es : Slots) (n : ℕ) → before es n ≤ length es
before_le es n = omega (arith, few (take n es), take_le es n)

more_by : (v : Option Held) (hs gs : List Held) → length hs ≤ length gs → length (cons_option v hs) ≤ length (cons_option v gs)
more_by None hs gs l = l
more_by (Some h) hs gs l = omega arith

pub before_past : (es : Slots) (n : ℕ) → length es ≤ n → before es n ≡ length (held_in es)
before_past [] zero l = refl
before_past [] (suc n) l = refl
before_past (e ∷ es) zero l = absurd (omega arith)
before_past (e ∷ es) (suc n) l = past_by e.1 (held_in (take n es)) (held_in es) (before_past es n (omega arith))
  where
    past_by : (v : Option Held) (hs gs : List Held) → length hs ≡ length gs → length (cons_option v hs) ≡ length (cons_option v gs)
    past_by None hs gs e = e
    past_by (Some h) hs gs e = ap suc e

pub before_mono : (es : Slots) (n m : ℕ) → n ≤ m → before es n ≤ before es m
before_mono es zero m l = omega arith
before_mono [] (suc n) zero l = absurd (omega arith)
before_mono [] (suc n) (suc m) l = omega arith
before_mono (e ∷ es) (suc n) zero l = absurd (omega arith)
before_mono (e ∷ es) (suc n) (suc m) l = more_by e.1 (held_in (take n es)) (held_in (take m es)) (before_mono es n m (omega arith))

one_by : (v : Option Held) (hs : List Held) (n k : ℕ) (b : Bool) → (is_some v && b) ≡ true → length hs ≡ min n k → length (cons_option v hs) ≡ min (suc n) (suc k)
one_by None hs n k b a e = absurd (cc)
one_by (Some h) hs n k b a e = omega arith

rest_all : (a b : Bool) → (a && b) ≡ true → b ≡ true
rest_all true b h = h
rest_all false b h = absurd (cc)

pub before_all : (us : Slots) (n : ℕ) → all_of (occupied us) ≡ true → before us n ≡ min n (length us)
before_all us zero a = omega arith
before_all [] (suc n) a = omega arith
before_all (u ∷ us) (suc n) a =
    one_by u.1 (held_in (take n us)) n (length us) (all_of (occupied us)) a (before_all us n (rest_all (is_some u.1) (all_of (occupied us)) a))

-- ---- the block of a place

block_from : (p w : ℕ) → 0 < w → (p / w) * w ≤ p
block_from p w l = omega (arith, mul_comm (p / w) w)

block_to : (p w : ℕ) → 0 < w → p < (p / w) * w + w
block_to p w l = omega (arith, mul_comm (p / w) w)

next_block : (a b w : ℕ) → a < b → a * w + w ≤ b * w
next_block a b w l = let m : (a + 1) * w ≤ b * w = mul-le-mul_right w (omega arith) in let e : (a + 1) * w ≡ a * w + w = grind arith in omega arith

both_past : (p x y : ℕ) → x ≤ p → y ≤ p → nat_lt p x ≡ nat_lt p y
both_past p x y l m = grind arith

both_behind : (p x y : ℕ) → p < x → p < y → nat_lt p x ≡ nat_lt p y
both_behind p x y l m = grind arith

apart_by : (c d : Bool) (p w b q : ℕ) → c ≡ nat_lt b q → d ≡ nat_lt q b → (b ≡ q → ⊥) → q * w ≤ p → p < q * w + w → nat_lt p (b * w + w) ≡ nat_lt p (b * w)
apart_by true d p w b q e f n l m = let g : b < q = grind arith in both_past p (b * w + w) (b * w) (omega (arith, next_block b q w g)) (omega (arith, next_block b q w g))
apart_by false true p w b q e f n l m = let g : q < b = grind arith in both_behind p (b * w + w) (b * w) (omega (arith, next_block q b w g)) (omega (arith, next_block q b w g))
apart_by false false p w b q e f n l m = let g : b ≡ q = grind arith in absurd (n g)

-- another block does not have the place
apart : (p w b q : ℕ) → (b ≡ q → ⊥) → q * w ≤ p → p < q * w + w → nat_lt p (b * w + w) ≡ nat_lt p (b * w)
apart p w b q n l m = apart_by (nat_lt b q) (nat_lt q b) p w b q refl refl n l m

inside_to : (p w q : ℕ) → p < q * w + w → nat_lt p (q * w + w) ≡ true
inside_to p w q m = grind arith

inside_from : (p w q : ℕ) → q * w ≤ p → nat_lt p (q * w) ≡ false
inside_from p w q l = grind arith

-- ---- a record more

more_at : (c : Bool) (w p b q x : ℕ) (counts : List ℕ) (es us : Slots) → c ≡ nat_eq b q → q * w ≤ p → p < q * w + w → q < length counts → x ≡ get_or counts q 0 + 1
    → ((n : ℕ) → before es (n * w + w) ≡ before es (n * w) + get_or counts n 0) → Gains es us p → before us (b * w + w) ≡ before us (b * w) + get_or (set counts q x) b 0
more_at true w p b q x counts es us e l m r v i g =
    let z : b ≡ q = grind arith in
    let up = g (b * w + w) ∙ ap (λ t. before es (b * w + w) + cond t 1 0) (ap (λ k. nat_lt p (k * w + w)) z ∙ inside_to p w q m) in
    let down = g (b * w) ∙ ap (λ t. before es (b * w) + cond t 1 0) (ap (λ k. nat_lt p (k * w)) z ∙ inside_from p w q l) in
    let at = ap (λ k. get_or (set counts q x) k 0) z ∙ get_or-set_same counts q x 0 r in
    let was = i b in
    let same = ap (λ k. get_or counts k 0) z in
    omega arith
more_at false w p b q x counts es us e l m r v i g =
    let z : b ≡ q → ⊥ = λ h. absurd (grind arith) in
    let up = g (b * w + w) ∙ ap (λ t. before es (b * w + w) + cond t 1 0) (apart p w b q z l m) in
    let down = g (b * w) in
    let at = get_or-set_other counts q b x 0 z in
    let was = i b in
    omega arith

-- ---- a record less

less_at : (c : Bool) (w p b q x : ℕ) (counts : List ℕ) (es us : Slots) → c ≡ nat_eq b q → q * w ≤ p → p < q * w + w → q < length counts → x ≡ get_or counts q 0 - 1
    → ((n : ℕ) → before es (n * w + w) ≡ before es (n * w) + get_or counts n 0) → Loses es us p → before us (b * w + w) ≡ before us (b * w) + get_or (set counts q x) b 0
less_at true w p b q x counts es us e l m r v i g =
    let z : b ≡ q = grind arith in
    let up = sym (ap (λ t. before us (b * w + w) + cond t 1 0) (ap (λ k. nat_lt p (k * w + w)) z ∙ inside_to p w q m)) ∙ g (b * w + w) in
    let down = sym (ap (λ t. before us (b * w) + cond t 1 0) (ap (λ k. nat_lt p (k * w)) z ∙ inside_from p w q l)) ∙ g (b * w) in
    let at = ap (λ k. get_or (set counts q x) k 0) z ∙ get_or-set_same counts q x 0 r in
    let was = i b in
    let same = ap (λ k. get_or counts k 0) z in
    let mono = before_mono us (b * w) (b * w + w) (omega arith) in
    omega arith
less_at false w p b q x counts es us e l m r v i g =
    let z : b ≡ q → ⊥ = λ h. absurd (grind arith) in
    let up = sym (ap (λ t. before us (b * w + w) + cond t 1 0) (apart p w b q z l m)) ∙ g (b * w + w) in
    let down = g (b * w) in
    let at = get_or-set_other counts q b x 0 z in
    let was = i b in
    omega arith

low_block : (p w k : ℕ) → 0 < w → p < k * w → p / w < k
low_block p w k l m = low_by (nat_lt (p / w) k) refl
  where
    low_by : (c : Bool) → c ≡ nat_lt (p / w) k → p / w < k
    low_by true e = grind arith
    low_by false e = let g : k ≤ p / w = grind arith in let h : k * w ≤ (p / w) * w = mul-le-mul_right w g in absurd (omega (arith, block_from p w l))

pub counted_more : (w p x : ℕ) (counts : List ℕ) (es us : Slots) → 0 < w → IsCounted w counts es → p < length counts * w → x ≡ get_or counts (p / w) 0 + 1 → length us ≡ p + 1 → Gains es us p
    → IsCounted w (set counts (p / w) x) us
counted_more w p x counts es us l i r v n g = record {
  each = λ b. more_at (nat_eq b (p / w)) w p b (p / w) x counts es us refl (block_from p w l) (block_to p w l) (low_block p w (length counts) l r) v i.each g;
  covers = let e = ap (λ k. k * w) (length-set counts (p / w) x) in omega arith;
}

pub counted_less : (w p x : ℕ) (counts : List ℕ) (es us : Slots) → 0 < w → IsCounted w counts es → p < length es → x ≡ get_or counts (p / w) 0 - 1 → length us ≡ length es → Loses es us p
    → IsCounted w (set counts (p / w) x) us
counted_less w p x counts es us l i r v n g = record {
  each = λ b. less_at (nat_eq b (p / w)) w p b (p / w) x counts es us refl (block_from p w l) (block_to p w l) (low_block p w (length counts) l (omega (arith, i.covers))) v i.each g;
  covers = let e = ap (λ k. k * w) (length-set counts (p / w) x) in omega (arith, i.covers);
}

-- the count of the block does not pass the number of slots
pub count_small : (w p : ℕ) (counts : List ℕ) (es : Slots) → IsCounted w counts es → get_or counts (p / w) 0 ≤ length es
count_small w p counts es i = omega (arith, i.each (p / w), before_le es ((p / w) * w + w))

-- ---- the same records, in fewer slots

pub counted_same : (w : ℕ) (counts : List ℕ) (es us : Slots) → IsCounted w counts es → ((n : ℕ) → before us n ≡ before es n) → length us ≤ length es → IsCounted w counts us
counted_same w counts es us i b l = record {
  each = λ n. b (n * w + w) ∙ i.each n ∙ ap (λ k. k + get_or counts n 0) (sym (b (n * w)));
  covers = omega (arith, i.covers);
}

-- ---- each slot has a record

filled_at : (c : Bool) (w n b x : ℕ) → min (b * w + w) n ≡ min (b * w) n + min w (n - b * w)
filled_at c w n b x = omega arith

past_at : (w n b k : ℕ) → k ≤ b → n ≤ k * w → min (b * w + w) n ≡ min (b * w) n + 0
past_at w n b k l m = let h : k * w ≤ b * w = mul-le-mul_right w l in omega arith

get_past : (xs : List ℕ) (b : ℕ) → length xs ≤ b → get_or xs b 0 ≡ 0
get_past [] b l = refl
get_past (x ∷ xs) zero l = absurd (omega arith)
get_past (x ∷ xs) (suc b) l = get_past xs b (omega arith)

filled_by : (c : Bool) (w n b : ℕ) (counts : List ℕ) → c ≡ nat_lt b (length counts) → n ≤ length counts * w → ((b : ℕ) → b < length counts → get_or counts b 0 ≡ min w (n - b * w)) → min (b * w + w) n ≡ min (b * w) n + get_or counts b 0
filled_by true w n b counts e l f = filled_at true w n b 0 ∙ ap (λ k. min (b * w) n + k) (sym (f b (grind arith)))
filled_by false w n b counts e l f =
    let g : length counts ≤ b = grind arith in
    past_at w n b (length counts) g l ∙ ap (λ k. min (b * w) n + k) (sym (get_past counts b g))

pub counted_all : (w n : ℕ) (counts old : List ℕ) (es us : Slots) → IsCounted w old es → length counts ≡ length old → length us ≤ length es → length us ≡ n → all_of (occupied us) ≡ true
    → ((b : ℕ) → b < length counts → get_or counts b 0 ≡ min w (n - b * w)) → IsCounted w counts us
counted_all w n counts old es us i k l m a f =
    let e = ap (λ x. x * w) k in
    let c : n ≤ length counts * w = omega (arith, i.covers) in
    record {
      each = λ b.
          before_all us (b * w + w) a ∙ ap (λ x. min (b * w + w) x) m ∙ filled_by (nat_lt b (length counts)) w n b counts refl c f
          ∙ ap (λ x. x + get_or counts b 0) (sym (before_all us (b * w) a ∙ ap (λ x. min (b * w) x) m));
      covers = omega arith;
    }

-- behind all slots no record is counted
pub none_past : (w were b : ℕ) (counts : List ℕ) (es : Slots) → IsCounted w counts es → length es ≡ were → were ≤ b * w → get_or counts b 0 ≡ 0
none_past w were b counts es i l m =
    let a = before_past es (b * w) (omega arith) in
    let z = before_past es (b * w + w) (omega arith) in
    omega (arith, i.each b, a, z)

block_past : (w were b : ℕ) → 0 < w → were / w + 1 ≤ b → were ≤ b * w
block_past w were b l m = let h : (were / w + 1) * w ≤ b * w = mul-le-mul_right w m in let e : (were / w + 1) * w ≡ (were / w) * w + w = grind arith in omega (arith, block_to were w l)

filled_or_past : (c : Bool) (w n were bound b : ℕ) (counts old : List ℕ) (es : Slots) → c ≡ nat_lt b bound → 0 < w → IsCounted w old es → length es ≡ were → n ≤ were
    → bound ≡ min (length old) (were / w + 1) → b < length old → ((b : ℕ) → b < bound → get_or counts b 0 ≡ min w (n - b * w)) → ((b : ℕ) → bound ≤ b → get_or counts b 0 ≡ get_or old b 0)
    → get_or counts b 0 ≡ min w (n - b * w)
filled_or_past true w n were bound b counts old es e l i m k d r f g = f b (grind arith)
filled_or_past false w n were bound b counts old es e l i m k d r f g =
    let h : bound ≤ b = grind arith in
    let p = block_past w were b l (omega arith) in
    let z = none_past w were b old es i m p in
    omega (arith, g b h)

-- the blocks of the slots that there were are filled, and the others are as they were
pub filled_all : (w n were bound b : ℕ) (counts old : List ℕ) (es : Slots) → 0 < w → IsCounted w old es → length es ≡ were → n ≤ were
    → bound ≡ min (length old) (were / w + 1) → b < length old → ((b : ℕ) → b < bound → get_or counts b 0 ≡ min w (n - b * w)) → ((b : ℕ) → bound ≤ b → get_or counts b 0 ≡ get_or old b 0)
    → get_or counts b 0 ≡ min w (n - b * w)
filled_all w n were bound b counts old es = filled_or_past (nat_lt b bound) w n were bound b counts old es refl

pub any_default : (xs : List ℕ) (i d e : ℕ) → i < length xs → get_or xs i d ≡ get_or xs i e
any_default [] i d e l = absurd (omega arith)
any_default (x ∷ xs) zero d e l = refl
any_default (x ∷ xs) (suc i) d e l = any_default xs i d e (omega arith)

place_by : (b : Bool) (es : Slots) (p : ℕ) → b ≡ nat_lt p (length es) → before es p < before es (length es) → p < length es
place_by true es p e l = grind arith
place_by false es p e l = let g : length es ≤ p = grind arith in absurd (omega (arith, before_mono es (length es) p g))

-- a place before which there are fewer records than in all lies within the slots
pub place_within : (es : Slots) (p k n : ℕ) → before es p + k ≡ n → n < before es (length es) → p < length es
place_within es p k n e l = place_by (nat_lt p (length es)) es p refl (omega arith)

-- the same place, counted in smaller blocks
pub at_same : (es : Slots) (p q k n : ℕ) → p ≡ q → before es q + k ≡ n → before es p + k ≡ n
at_same es p q k n e h = ap (λ x. before es x + k) e ∙ h

-- ---- which slots have a record, that alone counts

same_by : (v w : Option Held) (hs gs : List Held) → is_some v ≡ is_some w → length hs ≡ length gs → length (cons_option v hs) ≡ length (cons_option w gs)
same_by None None hs gs e l = l
same_by None (Some h) hs gs e l = absurd (cc)
same_by (Some g) None hs gs e l = absurd (cc)
same_by (Some g) (Some h) hs gs e l = ap suc l

head_same : (a b : Bool) (xs ys : List Bool) → a ∷ xs ≡ b ∷ ys → a ≡ b
head_same a b xs ys e = cc

tail_same : (a b : Bool) (xs ys : List Bool) → a ∷ xs ≡ b ∷ ys → xs ≡ ys
tail_same a b xs ys e = cc

pub before_same : (us es : Slots) (n : ℕ) → occupied us ≡ occupied es → before us n ≡ before es n
before_same us es zero o = refl
before_same [] [] (suc n) o = refl
before_same [] (e ∷ es) (suc n) o = absurd (cc)
before_same (u ∷ us) [] (suc n) o = absurd (cc)
before_same (u ∷ us) (e ∷ es) (suc n) o =
    same_by u.1 e.1 (held_in (take n us)) (held_in (take n es)) (head_same (is_some u.1) (is_some e.1) (occupied us) (occupied es) o) (before_same us es n (tail_same (is_some u.1) (is_some e.1) (occupied us) (occupied es) o))

pub counts_same : (blocks : Blocks) (es us : Slots) → AreCounted blocks es → ((n : ℕ) → before us n ≡ before es n) → length us ≤ length es → AreCounted blocks us
counts_same blocks es us a b l = record {
  small = counted_same 64 blocks.small.items es us a.small b l;
  middle = counted_same 4096 blocks.middle.items es us a.middle b l;
  large = counted_same 262144 blocks.large.items es us a.large b l;
  huge = counted_same 16777216 blocks.huge.items es us a.huge b l;
}

-- ---- the slot that gains a record, or loses it

none_below : (a x : ℕ) → x ≡ x + cond (nat_lt a 0) 1 0
none_below a x = let t : nat_lt a 0 ≡ false = grind arith in let e = ap (λ b. x + cond b 1 0) t in omega arith

all_behind : (n x : ℕ) → x + cond (nat_lt 0 (suc n)) 1 0 ≡ suc x
all_behind n x = let t : nat_lt 0 (suc n) ≡ true = grind arith in let e = ap (λ b. x + cond b 1 0) t in omega arith

gain_at : (es : Slots) (k : ℕ) (h : Held) (n : ℕ) → before (es ++ (k, Some h) ∷ []) n ≡ before es n + cond (nat_lt (length es) n) 1 0
gain_at es k h zero = none_below (length es) 0
gain_at [] k h (suc zero) = sym (all_behind 0 0)
gain_at [] k h (suc (suc n)) = sym (all_behind (suc n) 0)
gain_at (e ∷ es) k h (suc n) = gain_by e.1 (held_in (take n (es ++ (k, Some h) ∷ []))) (held_in (take n es)) (cond (nat_lt (length es) n) 1 0) (gain_at es k h n) ∙ ap (λ t. length (cons_option e.1 (held_in (take n es))) + cond t 1 0) (lt_suc (length es) n)
  where
    gain_by : (v : Option Held) (hs gs : List Held) (x : ℕ) → length hs ≡ length gs + x → length (cons_option v hs) ≡ length (cons_option v gs) + x
    gain_by None hs gs x e = e
    gain_by (Some g) hs gs x e = omega arith

    lt_suc : (a b : ℕ) → nat_lt a b ≡ nat_lt (suc a) (suc b)
    lt_suc a b = grind arith

pub gains_last : (es us : Slots) (k : ℕ) (h : Held) → us ≡ es ++ (k, Some h) ∷ [] → Gains es us (length es)
gains_last es us k h e n = ap (λ x. before x n) e ∙ gain_at es k h n

pub slot_within : (es : Slots) (p rid : ℕ) (v : Option Held) → slice_get es p ≡ Some (rid, v) → p < length es
slot_within [] p rid v e = absurd (cc)
slot_within (x ∷ es) zero rid v e = omega arith
slot_within (x ∷ es) (suc p) rid v e = omega (arith, slot_within es p rid v e)

slot_above : (n : ℕ) (es : Slots) (p rid : ℕ) (v : Option Held) → RisesFrom n es → slice_get es p ≡ Some (rid, v) → n ≤ rid
slot_above n [] p rid v r e = absurd (cc)
slot_above n (x ∷ es) zero rid v r e = let q : x ≡ (rid, v) = (cc) in let k : x.0 ≡ rid = ap (λ (y : ℕ × Option Held). y.0) q in omega (arith, r.0)
slot_above n (x ∷ es) (suc p) rid v r e = omega (arith, slot_above (x.0 + 1) es p rid v r.2 e, r.0)

lose_first : (b : Bool) (rid : ℕ) (v : Option Held) (h : Held) (k : ℕ) (es : Slots) (n : ℕ) → b ≡ true → cond b (Some v) (lookup (nat_eq rid) es) ≡ Some (Some h)
    → before (cond b ((k, None) ∷ es) ((k, v) ∷ set_value (nat_eq rid) es None)) n + cond (nat_lt 0 n) 1 0 ≡ before ((k, v) ∷ es) n
lose_first true rid v h k es zero e l = sym (none_below 0 0)
lose_first true rid v h k es (suc n) e l = let q : v ≡ Some h = (cc) in all_behind n (length (held_in (take n es))) ∙ ap (λ w. length (cons_option w (held_in (take n es)))) (sym q)
lose_first false rid v h k es n e l = absurd (cc)

lose_later : (b : Bool) (rid : ℕ) (v : Option Held) (h : Held) (k : ℕ) (es : Slots) (p n : ℕ) → b ≡ false → cond b (Some v) (lookup (nat_eq rid) es) ≡ Some (Some h)
    → (lookup (nat_eq rid) es ≡ Some (Some h) → (m : ℕ) → before (set_value (nat_eq rid) es None) m + cond (nat_lt p m) 1 0 ≡ before es m)
    → before (cond b ((k, None) ∷ es) ((k, v) ∷ set_value (nat_eq rid) es None)) n + cond (nat_lt (suc p) n) 1 0 ≡ before ((k, v) ∷ es) n
lose_later true rid v h k es p n e l i = absurd (cc)
lose_later false rid v h k es p zero e l i = sym (none_below (suc p) 0)
lose_later false rid v h k es p (suc n) e l i =
    ap (λ t. before ((k, v) ∷ set_value (nat_eq rid) es None) (suc n) + cond t 1 0) (lt_suc p n)
    ∙ lose_by v (held_in (take n (set_value (nat_eq rid) es None))) (held_in (take n es)) (cond (nat_lt p n) 1 0) (i l n)
  where
    lt_suc : (a b : ℕ) → nat_lt (suc a) (suc b) ≡ nat_lt a b
    lt_suc a b = grind arith

    lose_by : (v : Option Held) (hs gs : List Held) (x : ℕ) → length hs + x ≡ length gs → length (cons_option v hs) + x ≡ length (cons_option v gs)
    lose_by None hs gs x e = e
    lose_by (Some g) hs gs x e = omega arith

equal_nat : (a b : ℕ) → b ≡ a → nat_eq a b ≡ true
equal_nat a b e = grind arith

above_nat : (a b : ℕ) → b < a → nat_eq a b ≡ false
above_nat a b l = grind arith

loses_at : (rid n : ℕ) (h : Held) (es : Slots) (p : ℕ) (v : Option Held) → RisesFrom n es → slice_get es p ≡ Some (rid, v) → lookup (nat_eq rid) es ≡ Some (Some h)
    → (m : ℕ) → before (set_value (nat_eq rid) es None) m + cond (nat_lt p m) 1 0 ≡ before es m
loses_at rid n h [] p v r e l m = absurd (cc)
loses_at rid n h (x ∷ es) zero v r e l m =
    let q : x ≡ (rid, v) = (cc) in
    lose_first (nat_eq rid x.0) rid x.1 h x.0 es m (equal_nat rid x.0 (ap (λ (y : ℕ × Option Held). y.0) q)) l
loses_at rid n h (x ∷ es) (suc p) v r e l m =
    lose_later (nat_eq rid x.0) rid x.1 h x.0 es p m (above_nat rid x.0 (omega (arith, slot_above (x.0 + 1) es p rid v r.2 e))) l
    (λ k. loses_at rid (x.0 + 1) h es p v r.2 e k)

-- a record that goes out is lost from its slot on
pub loses_slot : (rid : ℕ) (h : Held) (es us : Slots) → RisesFrom 0 es → lookup (nat_eq rid) es ≡ Some (Some h) → us ≡ set_value (nat_eq rid) es None → (p : ℕ) → IsSlotOf es p rid → Loses es us p
loses_slot rid h es us r l e p i n = ap (λ x. before x n + cond (nat_lt p n) 1 0) e ∙ loses_at rid 0 h es p i.0 r i.1 l n

-- all records are before the end
pub all_before : (es : Slots) → before es (length es) ≡ length (held_in es)
all_before [] = refl
all_before (e ∷ es) = all_by e.1 (held_in (take (length es) es)) (held_in es) (all_before es)
  where
    all_by : (v : Option Held) (hs gs : List Held) → length hs ≡ length gs → length (cons_option v hs) ≡ length (cons_option v gs)
    all_by None hs gs e = e
    all_by (Some g) hs gs e = ap suc e
