-- How many records there are before a place.
use Rattle.std.proofs.Common.{◌≡◌, ℕ, zero, suc, ◌+◌, ◌-◌, ◌<◌, ◌≤◌, Bool, true, false, ◌&&◌, List, [], ◌∷◌, ◌++◌, length, take, drop, slice_get, Option, Some, None, is_some, min, nat_lt, refl, ap, sym, subst, ◌∙◌, arith}
use Rattle.std.specs.List.{cons_option}
use Rattle.qls_enqmap.specs.declared.Held.{Held}
use Rattle.qls_enqmap.specs.Records.{least_from, least_file, lesser}
use Rattle.qls_enqmap.specs.Slots.{Slots, held_in, occupied, none_of, first_of, all_of, record_in, file_in, FilesRise, IsPlace}
use Rattle.qls_enqmap.proofs.Kept.{few}

-- ---- the record at a place

at_cons : (v : Option Held) (k n : ℕ) (es : Slots) (p : ℕ) → length (cons_option v (held_in (take p es))) ≡ n
    → ((m : ℕ) → length (held_in (take p es)) ≡ m → slice_get (held_in es) m ≡ record_in (slice_get es p))
    → slice_get (cons_option v (held_in es)) n ≡ record_in (slice_get es p)
at_cons None k n es p e i = i n e
at_cons (Some g) k zero es p e i = absurd (cc)
at_cons (Some g) k (suc n) es p e i = i n (omega arith)

at_first : (v : Option Held) (hs : List Held) (n : ℕ) → is_some v ≡ true → zero ≡ n → slice_get (cons_option v hs) n ≡ v
at_first None hs n s e = absurd (cc)
at_first (Some g) hs zero s e = refl
at_first (Some g) hs (suc n) s e = absurd (cc)

pub at_place : (es : Slots) (p n : ℕ) → length (held_in (take p es)) ≡ n → first_of (drop p (occupied es)) ≡ true → slice_get (held_in es) n ≡ record_in (slice_get es p)
at_place [] p n e f = refl
at_place (x ∷ es) zero n e f = at_first x.1 (held_in es) n f e
at_place (x ∷ es) (suc p) n e f = at_cons x.1 x.0 n es p e (λ m h. at_place es p m h f)

pub past_all : (hs : List Held) (n : ℕ) → length hs ≤ n → None ≡ slice_get hs n
past_all [] n l = refl
past_all (h ∷ hs) zero l = absurd (omega arith)
past_all (h ∷ hs) (suc n) l = past_all hs n (omega arith)

-- ---- one record more

more_cons : (v : Option Held) (m n : ℕ) (hs gs : List Held) → length gs ≡ length hs + 1 → length (cons_option v gs) ≡ length (cons_option v hs) + 1
more_cons None m n hs gs e = e
more_cons (Some g) m n hs gs e = omega arith

one_first : (v : Option Held) → is_some v ≡ true → length (cons_option v []) ≡ 1
one_first None s = absurd (cc)
one_first (Some g) s = refl

one_more : (es : Slots) (p : ℕ) → p < length es → first_of (drop p (occupied es)) ≡ true → length (held_in (take (suc p) es)) ≡ length (held_in (take p es)) + 1
one_more [] p l f = absurd (omega arith)
one_more (x ∷ es) zero l f = one_first x.1 f
one_more (x ∷ es) (suc p) l f = more_cons x.1 0 0 (held_in (take p es)) (held_in (take (suc p) es)) (one_more es p (omega arith) f)

pub next_count : (es : Slots) (p q : ℕ) → q ≡ p + 1 → p < length es → first_of (drop p (occupied es)) ≡ true → length (held_in (take q es)) ≡ length (held_in (take p es)) + 1
next_count es p q e l f = subst (λ n. length (held_in (take n es)) ≡ length (held_in (take p es)) + 1) (let s : suc p ≡ q = omega arith in s) (one_more es p l f)

take_all : (es : Slots) (p : ℕ) → length es ≤ p → take p es ≡ es
take_all [] zero l = refl
take_all [] (suc p) l = refl
take_all (x ∷ es) zero l = absurd (omega arith)
take_all (x ∷ es) (suc p) l = ap (λ l. x ∷ l) (take_all es p (omega arith))

within_by : (es : Slots) (p n : ℕ) (b : Bool) → b ≡ nat_lt p (length es) → length (held_in (take p es)) ≡ n → n < length (held_in es) → p < length es
within_by es p n true b e l = grind arith
within_by es p n false b e l = let m : length es ≤ p = grind arith in let q = ap (λ x. length (held_in x)) (take_all es p m) in absurd (omega arith)

-- fewer records than there are: the place is not past the slots
pub within : (es : Slots) (p n : ℕ) → length (held_in (take p es)) ≡ n → n < length (held_in es) → p < length es
within es p n e l = within_by es p n (nat_lt p (length es)) refl e l

-- ---- no hole between the records

none_head : (b : Bool) (bs : List Bool) → none_of (b ∷ bs) ≡ true → b ≡ false
none_head true bs h = cc
none_head false bs h = refl

none_tail : (b : Bool) (bs : List Bool) → none_of (b ∷ bs) ≡ true → none_of bs ≡ true
none_tail true bs h = absurd (cc)
none_tail false bs h = h

no_record : (v : Option Held) (hs : List Held) → is_some v ≡ false → cons_option v hs ≡ hs
no_record None hs s = refl
no_record (Some g) hs s = absurd (cc)

pub none_held : (es : Slots) (n : ℕ) → none_of (take n (occupied es)) ≡ true → held_in (take n es) ≡ []
none_held es zero h = refl
none_held [] (suc n) h = refl
none_held (x ∷ es) (suc n) h =
    no_record x.1 (held_in (take n es)) (none_head (is_some x.1) (take n (occupied es)) h) ∙ none_held es n (none_tail (is_some x.1) (take n (occupied es)) h)

full_cons : (v : Option Held) (hs : List Held) (n : ℕ) → length hs ≤ n → length (cons_option v hs) ≡ suc n → (is_some v ≡ true) × (length hs ≡ n)
full_cons None hs n l e = absurd (omega arith)
full_cons (Some g) hs n l e = (refl, omega arith)

and_true : (a b : Bool) → a ≡ true → b ≡ true → (a && b) ≡ true
and_true true b h g = g
and_true false b h g = absurd (cc)

full : (es : Slots) → length (held_in es) ≡ length es → all_of (occupied es) ≡ true
full [] e = refl
full (x ∷ es) e =
    let f = full_cons x.1 (held_in es) (length es) (few es) e in
    and_true (is_some x.1) (all_of (occupied es)) f.0 (full es f.1)

full_from : (es : Slots) (start : ℕ) → start ≤ length es → none_of (take start (occupied es)) ≡ true → length es - start ≡ length (held_in es) → all_of (drop start (occupied es)) ≡ true
full_from es zero l h e = full es (omega arith)
full_from [] (suc n) l h e = refl
full_from (x ∷ es) (suc n) l h e =
    let r = no_record x.1 (held_in es) (none_head (is_some x.1) (take n (occupied es)) h) in
    full_from es n (omega arith) (none_tail (is_some x.1) (take n (occupied es)) h) (let m = ap length r in omega arith)

all_head : (b : Bool) (bs : List Bool) → all_of (b ∷ bs) ≡ true → b ≡ true
all_head true bs h = refl
all_head false bs h = h

all_tail : (b : Bool) (bs : List Bool) → all_of (b ∷ bs) ≡ true → all_of bs ≡ true
all_tail true bs h = h
all_tail false bs h = absurd (cc)

place_cons : (v : Option Held) (hs : List Held) (n : ℕ) → is_some v ≡ true → length hs ≡ n → length (cons_option v hs) ≡ suc n
place_cons None hs n s e = absurd (cc)
place_cons (Some g) hs n s e = omega arith

place_all : (es : Slots) (at : ℕ) → all_of (occupied es) ≡ true → at ≤ length es → IsPlace es at at
place_all [] zero a l = record { before = refl; first = refl }
place_all [] (suc at) a l = absurd (omega arith)
place_all (x ∷ es) zero a l = record { before = refl; first = all_head (is_some x.1) (occupied es) a }
place_all (x ∷ es) (suc at) a l =
    let p = place_all es at (all_tail (is_some x.1) (occupied es) a) (omega arith) in
    record { before = place_cons x.1 (held_in (take at es)) at (all_head (is_some x.1) (occupied es) a) p.before; first = p.first }

place_full : (es : Slots) (start at : ℕ) → none_of (take start (occupied es)) ≡ true → all_of (drop start (occupied es)) ≡ true → start + at ≤ length es → (n : ℕ) → n ≡ start + at → IsPlace es at n
place_full es zero at h a l n e = subst (λ n. IsPlace es at n) (let q : at ≡ n = omega arith in q) (place_all es at a (omega arith))
place_full [] (suc s) at h a l n e = absurd (omega arith)
place_full (x ∷ es) (suc s) at h a l zero e = absurd (omega arith)
place_full (x ∷ es) (suc s) at h a l (suc n) e =
    let p = place_full es s at (none_tail (is_some x.1) (take s (occupied es)) h) a (omega arith) n (omega arith) in
    record { before = ap length (no_record x.1 (held_in (take n es)) (none_head (is_some x.1) (take s (occupied es)) h)) ∙ p.before; first = p.first }

-- the records stand in a row from the first on
pub place_in_row : (es : Slots) (start at : ℕ) → start ≤ length es → none_of (take start (occupied es)) ≡ true → length es - start ≡ length (held_in es) → at < length (held_in es) → IsPlace es at (start + at)
place_in_row es start at l h e b = place_full es start at h (full_from es start l h e) (omega arith) (start + at) refl

-- ---- the least file

least_rising : (file : ℕ) (hs : List Held) → FilesRise file hs → least_from file hs ≡ file
least_rising file [] r = refl
least_rising file (h ∷ hs) r =
    let m : min file h.file ≡ file = omega (arith, r.0) in
    ap (λ f. least_from f hs) m ∙ least_rising file hs (later file h.file hs r.0 r.1)
  where
    later : (f g : ℕ) (hs : List Held) → f ≤ g → FilesRise g hs → FilesRise f hs
    later f g [] l r = tt
    later f g (h ∷ hs) l r = (omega (arith, r.0), r.1)

least_first : (v : Option Held) (hs : List Held) → is_some v ≡ true → FilesRise 0 (cons_option v hs) → file_in v ≡ least_file (cons_option v hs)
least_first None hs s r = absurd (cc)
least_first (Some g) hs s r = ap Some (sym (least_rising g.file hs r.1))

pub least_at : (es : Slots) (start : ℕ) → none_of (take start (occupied es)) ≡ true → first_of (drop start (occupied es)) ≡ true → FilesRise 0 (held_in es)
    → file_in (record_in (slice_get es start)) ≡ least_file (held_in es)
least_at [] start h f r = refl
least_at (x ∷ es) zero h f r = least_first x.1 (held_in es) f r
least_at (x ∷ es) (suc n) h f r =
    let e = no_record x.1 (held_in es) (none_head (is_some x.1) (take n (occupied es)) h) in
    least_at es n (none_tail (is_some x.1) (take n (occupied es)) h) f (subst (λ hs. FilesRise 0 hs) e r) ∙ ap least_file (sym e)

least_append : (file : ℕ) (hs : List Held) (v : Option Held) → Some (least_from file (hs ++ cons_option v [])) ≡ lesser (Some (least_from file hs)) (file_in v)
least_append file [] None = refl
least_append file [] (Some g) = refl
least_append file (h ∷ hs) v = least_append (min file h.file) hs v

least_more : (hs : List Held) (v : Option Held) → least_file (hs ++ cons_option v []) ≡ lesser (least_file hs) (file_in v)
least_more [] None = refl
least_more [] (Some g) = refl
least_more (h ∷ hs) v = least_append h.file hs v

taken_more : (es : Slots) (p : ℕ) → p < length es → held_in (take (suc p) es) ≡ held_in (take p es) ++ cons_option (record_in (slice_get es p)) []
taken_more [] p l = absurd (omega arith)
taken_more (x ∷ es) zero l = refl
taken_more (x ∷ es) (suc p) l = more_by x.1 (held_in (take (suc p) es)) (held_in (take p es)) (cons_option (record_in (slice_get es p)) []) (taken_more es p (omega arith))
  where
    more_by : (v : Option Held) (hs gs fs : List Held) → hs ≡ gs ++ fs → cons_option v hs ≡ cons_option v gs ++ fs
    more_by None hs gs fs e = e
    more_by (Some g) hs gs fs e = ap (λ l. g ∷ l) e

pub least_step : (es : Slots) (p q : ℕ) → q ≡ p + 1 → p < length es → lesser (least_file (held_in (take p es))) (file_in (record_in (slice_get es p))) ≡ least_file (held_in (take q es))
least_step es p q e l =
    sym (ap (λ n. least_file (held_in (take n es))) (let s : q ≡ suc p = omega arith in s) ∙ ap least_file (taken_more es p l) ∙ least_more (held_in (take p es)) (record_in (slice_get es p)))

pub least_all : (es : Slots) (n : ℕ) → length es ≤ n → least_file (held_in (take n es)) ≡ least_file (held_in es)
least_all es n l = ap (λ x. least_file (held_in x)) (take_all es n l)
