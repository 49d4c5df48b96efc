-- The record that stands at the front, told from its head, its tail and its padding.
use Rattle.std.proofs.Common.{◌≡◌, ℕ, ◌+◌, ◌-◌, ◌^◌, ◌<◌, ◌≤◌, Bool, true, false, cond, ◌&&◌, List, [], ◌∷◌, ◌++◌, length, take, drop, Option, Some, None, option_map, refl, sym, ap, ◌∙◌, subst, append-nil, arith, eqb, nat_eq, nat_le, lit<, replicate, length-append, length-drop, length-take, take-add, drop-drop, eq-eqb, take-take, le_refl, ◌==◌}
use Rattle.std.proofs.lemmas.Bool.{eqb-true}
use Rattle.std.proofs.lemmas.List.{length-replicate, take_rest}
use Rattle.std.specs.List.{starts_with, list_all}
use Rattle.std.specs.Cmp.Lexicographic.{bytes_decides, pointwise}
use Rattle.std.specs.Int.{Width, w32, w64, from_le_bytes}
use Rattle.qls_shape.specs.Fields.{number_at}
use Rattle.qls_shape.specs.Tables.{numbers_of}
use Rattle.qls_record.specs.declared.tables.TheConstants.{TAIL}
use Rattle.qls_shape.specs.Adler.{adler_of}
use Rattle.qls_shape.specs.Lengths.{padding}
use Rattle.qls_shape.specs.declared.Version.TheVariants.{Two}
use Rattle.qls_record.specs.declared.Kind.{Kind}
use Rattle.qls_record.specs.declared.Kind.TheVariants.{Enqueue, Dequeue, Commit, Abort, Filler}
use Rattle.qls_record.specs.declared.Head.{Head}
use Rattle.qls_record.specs.Record.{Record, is_legal, is_filler, header_length, tail_length}
use Rattle.qls_record.specs.Spelling.{inverted_magic, spelling, header, covered, tail, tail_with, padded, kind_of, fields_at, of_kind, record_at}
use Rattle.qls_record.specs.Head.{head_of, is_legal_head, head_record_length, head_covered_length, head_bytes, head_fields, head_of_kind, head_at}
use Rattle.qls_record.proofs.Stands.{AreBytes, same_test, stands-append, joined, AllHaveFields, fields_stand}
use Rattle.qls_record.proofs.HeadRead.{field_kind, length-head_bytes}
use Rattle.qls_record.proofs.HeadTrip.{header_is-head_bytes, same_legal, head_of_record_at, record_fits}
use Rattle.qls_record.proofs.RoundTrip.{made}

-- what the head at the front tells
pub record Heads (s : ℕ) (xs : List ℕ) (h : Head) : Type 0 where
  pub kind : kind_of (take 4 xs) ≡ Some h.kind
  pub fields : head_fields h.kind xs ≡ h
  pub legal : is_legal_head h ≡ true
  pub stands : starts_with nat_eq xs (head_bytes Two s h) ≡ true

pub head_at_heads : (s : ℕ) (xs : List ℕ) (h : Head) → head_at Two s xs ≡ Some h → Heads s xs h
head_at_heads s xs h e = go (kind_of (take 4 xs)) refl e
  where
    chosen : (k : Kind) (b c : Bool) (q : Head) → kind_of (take 4 xs) ≡ Some k → head_fields k xs ≡ q → is_legal_head q ≡ b → starts_with nat_eq xs (head_bytes Two s q) ≡ c
        → cond (b && c) (Some q) None ≡ Some h → Heads s xs h
    chosen k true true q kind fields legal stands e =
        let same : q ≡ h = cc in
        let k_is : k ≡ q.kind = sym (field_kind k xs) ∙ ap (λ f. f.kind) fields in
        subst (Heads s xs) same (record {
          kind = kind ∙ ap Some k_is;
          fields = subst (λ k. head_fields k xs ≡ q) k_is fields;
          legal = legal;
          stands = stands;
        })
    chosen k true false q kind fields legal stands e = absurd (cc)
    chosen k false c q kind fields legal stands e = absurd (cc)

    go : (o : Option Kind) → kind_of (take 4 xs) ≡ o → head_of_kind Two s xs o ≡ Some h → Heads s xs h
    go None is e = absurd (cc)
    go (Some k) is e = let q = head_fields k xs in chosen k (is_legal_head q) (starts_with nat_eq xs (head_bytes Two s q)) q is refl refl refl e

-- ---- the sizes and the covered part

joined_takes : (a b c : ℕ) (xs : List ℕ) → ((take a xs ++ take b (drop a xs)) ++ []) ++ take c (drop b (drop a xs)) ≡ take (a + b + c) xs
joined_takes a b c xs =
    ap (λ f. f ++ take c (drop b (drop a xs))) (append-nil (take a xs ++ take b (drop a xs)))
    ∙ ap (λ f. f ++ take c (drop b (drop a xs))) (sym (take-add a b xs))
    ∙ ap (λ ys. take (a + b) xs ++ take c ys) (drop-drop b a xs)
    ∙ sym (take-add (a + b) c xs)

front_of : (a b : ℕ) (xs : List ℕ) → ((take a xs ++ take b (drop a xs)) ++ []) ++ [] ≡ take (a + b + 0) xs
front_of a b xs = joined_takes a b 0 xs

-- the xid and the body are as long as told where their bytes are there
xid_long : (a x : ℕ) (xs : List ℕ) → a + x ≤ length xs → length (take x (drop a xs)) ≡ x
xid_long a x xs fits = omega (arith, length-take x (drop a xs), length-drop a xs)

body_long : (a x y : ℕ) (xs : List ℕ) → a + x + y ≤ length xs → length (take y (drop x (drop a xs))) ≡ y
body_long a x y xs fits = omega (arith, length-take y (drop x (drop a xs)), length-drop x (drop a xs), length-drop a xs)

sizes_there : (k : Kind) (b : Bool) (rid target a x y : ℕ) (xid body : List ℕ) → length xid ≡ x → length body ≡ y
    → head_of (made k b rid target xid [] body) ≡ record { kind = k; flagged = b; rid = rid; target = target; xid_size = x; body_size = y }
sizes_there k b rid target a x y xid body e f = λ i. record { kind = k; flagged = b; rid = rid; target = target; xid_size = e i; body_size = f i }

weaker : (a x y : ℕ) (xs : List ℕ) → a + x + y ≤ length xs → a + x ≤ length xs
weaker a x y xs h = omega arith

-- where their bytes are there, the record that is read has the sizes that the head tells
sizes_read : (k : Kind) (xs : List ℕ) → head_covered_length (head_fields k xs) ≤ length xs → head_of (fields_at Two k xs) ≡ head_fields k xs
sizes_read Enqueue xs fits =
    let x = number_at w64 24 xs in
    let y = number_at w64 32 xs in
    sizes_there Enqueue _ _ _ 40 x y (take x (drop 40 xs)) (take y (drop x (drop 40 xs))) (xid_long 40 x xs (weaker 40 x y xs fits)) (body_long 40 x y xs fits)
sizes_read Dequeue xs fits =
    let x = number_at w64 32 xs in
    sizes_there Dequeue _ _ _ 40 x 0 (take x (drop 40 xs)) [] (xid_long 40 x xs (weaker 40 x 0 xs fits)) refl
sizes_read Commit xs fits =
    let x = number_at w64 24 xs in
    sizes_there Commit _ _ _ 32 x 0 (take x (drop 32 xs)) [] (xid_long 32 x xs (weaker 32 x 0 xs fits)) refl
sizes_read Abort xs fits =
    let x = number_at w64 24 xs in
    sizes_there Abort _ _ _ 32 x 0 (take x (drop 32 xs)) [] (xid_long 32 x xs (weaker 32 x 0 xs fits)) refl
sizes_read Filler xs fits = refl

-- header, xid and body are the bytes at the front
covered_read : (s : ℕ) (k : Kind) (xs : List ℕ) → header Two s (fields_at Two k xs) ≡ take (header_length Two k) xs
    → covered Two s (fields_at Two k xs) ≡ take (header_length Two k + (head_fields k xs).xid_size + (head_fields k xs).body_size) xs
covered_read s Enqueue xs e =
    let x = number_at w64 24 xs in
    let y = number_at w64 32 xs in
    ap (λ f. ((f ++ take x (drop 40 xs)) ++ []) ++ take y (drop x (drop 40 xs))) e ∙ joined_takes 40 x y xs
covered_read s Dequeue xs e = let x = number_at w64 32 xs in ap (λ f. ((f ++ take x (drop 40 xs)) ++ []) ++ []) e ∙ front_of 40 x xs
covered_read s Commit xs e = let x = number_at w64 24 xs in ap (λ f. ((f ++ take x (drop 32 xs)) ++ []) ++ []) e ∙ front_of 32 x xs
covered_read s Abort xs e = let x = number_at w64 24 xs in ap (λ f. ((f ++ take x (drop 32 xs)) ++ []) ++ []) e ∙ front_of 32 x xs
covered_read s Filler xs e = ap (λ f. ((f ++ []) ++ []) ++ []) e ∙ append-nil (take 24 xs ++ [] ++ []) ∙ append-nil (take 24 xs ++ []) ∙ append-nil (take 24 xs)

-- the header that stands there is that of the record that is read
header_there : (s : ℕ) (xs : List ℕ) (h : Head) → Heads s xs h → head_covered_length h ≤ length xs → header Two s (fields_at Two h.kind xs) ≡ take (header_length Two h.kind) xs
header_there s xs h heads fits =
    let same_head : head_of (fields_at Two h.kind xs) ≡ h = sizes_read h.kind xs (subst (λ q. head_covered_length q ≤ length xs) (sym heads.fields) fits) ∙ heads.fields in
    header_is-head_bytes s (fields_at Two h.kind xs) ∙ ap (head_bytes Two s) same_head
    ∙ (bytes_decides (head_bytes Two s h) (take (length (head_bytes Two s h)) xs)).0 heads.stands ∙ ap (λ k. take k xs) (length-head_bytes s h)

-- the record that is read has the head that stands there
pub head_is : (s : ℕ) (xs : List ℕ) (h : Head) → Heads s xs h → head_covered_length h ≤ length xs → head_of (fields_at Two h.kind xs) ≡ h
head_is s xs h heads fits = sizes_read h.kind xs (subst (λ q. head_covered_length q ≤ length xs) (sym heads.fields) fits) ∙ heads.fields

covered_there : (s : ℕ) (xs : List ℕ) (h : Head) → Heads s xs h → head_covered_length h ≤ length xs → covered Two s (fields_at Two h.kind xs) ≡ take (head_covered_length h) xs
covered_there s xs h heads fits =
    covered_read s h.kind xs (header_there s xs h heads fits) ∙ ap (λ q. take (header_length Two h.kind + q.xid_size + q.body_size) xs) heads.fields

-- the tail and the padding of the record that is read
read_kind : (k : Kind) (xs : List ℕ) → (fields_at Two k xs).kind ≡ k
read_kind Enqueue xs = refl
read_kind Dequeue xs = refl
read_kind Commit xs = refl
read_kind Abort xs = refl
read_kind Filler xs = refl

pub length-tail_with : (k : Kind) (sum s rid : ℕ) → length (tail_with k sum s rid) ≡ tail_length k
length-tail_with Enqueue sum s rid = refl
length-tail_with Dequeue sum s rid = refl
length-tail_with Commit sum s rid = refl
length-tail_with Abort sum s rid = refl
length-tail_with Filler sum s rid = refl

pub tail_there : (s : ℕ) (xs : List ℕ) (h : Head) → Heads s xs h → head_covered_length h ≤ length xs
    → tail Two s (fields_at Two h.kind xs).kind (fields_at Two h.kind xs) ≡ tail_with h.kind (adler_of (take (head_covered_length h) xs)) s h.rid
tail_there s xs h heads fits =
    let same_head = head_is s xs h heads fits in
    λ i. tail_with (read_kind h.kind xs i) (adler_of (covered_there s xs h heads fits i)) s (same_head i).rid

-- a spelling in three parts
pub parts_there : (xs c t : List ℕ) (k : ℕ) → take (length c) xs ≡ c
    → starts_with nat_eq xs ((c ++ t) ++ replicate k 255) ≡ (starts_with nat_eq (drop (length c) xs) t && starts_with nat_eq (drop (length c + length t) xs) (replicate k 255))
parts_there xs c t k e =
    let first : starts_with nat_eq xs c ≡ true = (bytes_decides c (take (length c) xs)).1 (sym e) in
    stands-append xs (c ++ t) (replicate k 255)
    ∙ ap (λ b. b && starts_with nat_eq (drop (length (c ++ t)) xs) (replicate k 255)) (stands-append xs c t ∙ ap (λ b. b && starts_with nat_eq (drop (length c) xs) t) first)
    ∙ ap (λ n. starts_with nat_eq (drop (length c) xs) t && starts_with nat_eq (drop n xs) (replicate k 255)) (length-append c t)

-- The spelling stands there exactly where its tail and its padding do.
pub spelling_there : (s : ℕ) (xs : List ℕ) (h : Head) → Heads s xs h → head_record_length h ≤ length xs
    → starts_with nat_eq xs (spelling Two s (fields_at Two h.kind xs))
    ≡ (starts_with nat_eq (drop (head_covered_length h) xs) (tail_with h.kind (adler_of (take (head_covered_length h) xs)) s h.rid)
    && starts_with nat_eq (drop (head_covered_length h + tail_length h.kind) xs) (replicate (head_record_length h - (head_covered_length h + tail_length h.kind)) 255))
spelling_there s xs h heads fits =
    let n = head_covered_length h in
    let t = tail_with h.kind (adler_of (take n xs)) s h.rid in
    let room : head_covered_length h ≤ length xs = omega (arith, fits) in
    let long : length (take n xs) ≡ n = omega (arith, length-take n xs) in
    let tail_long : length t ≡ tail_length h.kind = length-tail_with h.kind (adler_of (take n xs)) s h.rid in
    let whole : length (take n xs ++ t) ≡ n + tail_length h.kind = omega (arith, length-append (take n xs) t) in
    let same : spelling Two s (fields_at Two h.kind xs) ≡ padded (take n xs ++ t) = λ i. padded (covered_there s xs h heads room i ++ tail_there s xs h heads room i) in
    ap (starts_with nat_eq xs) same
    ∙ parts_there xs (take n xs) t (padding (length (take n xs ++ t))) (ap (λ k. take k xs) long)
    ∙ (λ i. starts_with nat_eq (drop (long i) xs) t && starts_with nat_eq (drop (long i + tail_long i) xs) (replicate (padding (whole i)) 255))

-- ---- the whole record

-- Where a head stands and its bytes are there, the record stands there exactly where the spelling of its fields does.
pub whole_there : (s : ℕ) (xs : List ℕ) (h : Head) (b : Bool) → head_at Two s xs ≡ Some h → head_record_length h ≤ length xs
    → b ≡ starts_with nat_eq xs (spelling Two s (fields_at Two h.kind xs)) → option_map head_of (record_at Two s xs) ≡ cond b (Some h) None
whole_there s xs h b at fits e =
    let heads = head_at_heads s xs h at in
    let r = fields_at Two h.kind xs in
    let same_head : head_of (fields_at Two h.kind xs) ≡ h = head_is s xs h heads (omega (arith, fits)) in
    let legal : is_legal Two (fields_at Two h.kind xs) ≡ true = same_legal r (no_props_read h.kind xs) ∙ ap is_legal_head same_head ∙ heads.legal in
    ap (λ o. option_map head_of (of_kind Two s xs o)) heads.kind
    ∙ ap (λ l. option_map head_of (cond (l && starts_with nat_eq xs (spelling Two s r)) (Some r) None)) legal
    ∙ ap (λ t. option_map head_of (cond t (Some r) None)) (sym e)
    ∙ chosen b r h same_head
  where
    no_props_read : (k : Kind) (xs : List ℕ) → nat_le (length (fields_at Two k xs).props) 0 ≡ true
    no_props_read Enqueue xs = refl
    no_props_read Dequeue xs = refl
    no_props_read Commit xs = refl
    no_props_read Abort xs = refl
    no_props_read Filler xs = refl

    chosen : (b : Bool) (r : Record) (h : Head) → head_of r ≡ h → option_map head_of (cond b (Some r) None) ≡ cond b (Some h) None
    chosen true r h e = ap Some e
    chosen false r h e = refl

-- No record where no head stands, or where the bytes aren't there.
pub none_headed : (s : ℕ) (xs : List ℕ) → head_at Two s xs ≡ None → option_map head_of (record_at Two s xs) ≡ None
none_headed s xs e = go (record_at Two s xs) refl
  where
    go : (o : Option Record) → record_at Two s xs ≡ o → option_map head_of o ≡ None
    go None is = refl
    go (Some r) is = let there = head_of_record_at s xs r is in absurd (cc)

pub none_whole : (s : ℕ) (xs : List ℕ) (h : Head) → head_at Two s xs ≡ Some h → length xs < head_record_length h → option_map head_of (record_at Two s xs) ≡ None
none_whole s xs h at short = go (record_at Two s xs) refl
  where
    go : (o : Option Record) → record_at Two s xs ≡ o → option_map head_of o ≡ None
    go None is = refl
    go (Some r) is =
        let there = head_of_record_at s xs r is in
        let same_head : head_of r ≡ h = cc in
        let fits = subst (λ q. head_record_length q ≤ length xs) same_head (record_fits s xs r is) in
        absurd (omega arith)

-- ---- what the tests say

same_byte : (a b : ℕ) → eqb a b ≡ eqb b a
same_byte a b = same_test (eqb a b) (eqb b a) (λ e. eq-eqb b a (sym (eqb-true a b e))) (λ e. eq-eqb a b (sym (eqb-true b a e)))

all_same : (ys : List ℕ) (x : ℕ) → list_all (λ b. b == x) ys ≡ starts_with nat_eq ys (replicate (length ys) x)
all_same [] x = refl
all_same (y ∷ ys) x = λ i. same_byte y x i && all_same ys x i

-- the padding stands there where all of its bytes are padding
padding_there : (xs : List ℕ) (m k : ℕ) → m + k ≤ length xs → list_all (λ b. b == 255) (take k (drop m xs)) ≡ starts_with nat_eq (drop m xs) (replicate k 255)
padding_there xs m k fits =
    let long : length (take k (drop m xs)) ≡ k = omega (arith, length-take k (drop m xs), length-drop m xs) in
    let pad_long : length (replicate k 255) ≡ k = length-replicate k 255 in
    all_same (take k (drop m xs)) 255
    ∙ ap (λ n. starts_with nat_eq (take k (drop m xs)) (replicate n 255)) long
    ∙ ap (λ n. pointwise eqb (replicate k 255) (take n (take k (drop m xs)))) pad_long
    ∙ ap (pointwise eqb (replicate k 255)) (take-take k k (drop m xs) (le_refl k))
    ∙ ap (λ n. pointwise eqb (replicate k 255) (take n (drop m xs))) (sym pad_long)

rest_there : (xs : List ℕ) (n : ℕ) → take (length xs - n) (drop n xs) ≡ drop n xs
rest_there xs n = take_rest xs n

-- the two tests together say that the spelling stands there
pub both_tests : (s : ℕ) (xs : List ℕ) (h : Head) (n k w : ℕ) (t p : Bool) → head_at Two s xs ≡ Some h → head_record_length h ≤ length xs
    → n ≡ head_covered_length h → k ≡ tail_length h.kind → w ≡ head_record_length h
    → t ≡ starts_with nat_eq (take (length xs - n) (drop n xs)) (tail_with h.kind (adler_of (take n xs)) s h.rid)
    → p ≡ list_all (λ b. b == 255) (take (w - (n + k)) (drop (n + k) xs))
    → (t && p) ≡ starts_with nat_eq xs (spelling Two s (fields_at Two h.kind xs))
both_tests s xs h n k w t p at fits is_n is_k is_w is_t is_p =
    let tail_is : t ≡ starts_with nat_eq (drop n xs) (tail_with h.kind (adler_of (take n xs)) s h.rid) =
    is_t ∙ ap (λ ys. starts_with nat_eq ys (tail_with h.kind (adler_of (take n xs)) s h.rid)) (rest_there xs n) in
    let pad_is : p ≡ starts_with nat_eq (drop (n + k) xs) (replicate (w - (n + k)) 255) = is_p ∙ padding_there xs (n + k) (w - (n + k)) (omega (arith, is_n, is_k, is_w, fits)) in
    (λ i. tail_is i && pad_is i)
    ∙ (λ i. starts_with nat_eq (drop (is_n i) xs) (tail_with h.kind (adler_of (take (is_n i) xs)) s h.rid) && starts_with nat_eq (drop (is_n i + is_k i) xs) (replicate (is_w i - (is_n i + is_k i)) 255))
    ∙ sym (spelling_there s xs h (head_at_heads s xs h at) fits)

pub first_test : (s : ℕ) (xs : List ℕ) (h : Head) (n : ℕ) (t : Bool) → head_at Two s xs ≡ Some h → head_record_length h ≤ length xs
    → n ≡ head_covered_length h → t ≡ starts_with nat_eq (take (length xs - n) (drop n xs)) (tail_with h.kind (adler_of (take n xs)) s h.rid) → t ≡ false
    → t ≡ starts_with nat_eq xs (spelling Two s (fields_at Two h.kind xs))
first_test s xs h n t at fits is_n is_t fails =
    let k = tail_length h.kind in
    let w = head_record_length h in
    fails ∙ sym (ap (λ b. b && list_all (λ b. b == 255) (take (w - (n + k)) (drop (n + k) xs))) fails)
    ∙ both_tests s xs h n k w t (list_all (λ b. b == 255) (take (w - (n + k)) (drop (n + k) xs))) at fits is_n refl refl is_t refl

-- ---- the tail by its numbers

inverted_small : (k : Kind) → from_le_bytes w32 (inverted_magic k) < 2 ^ 32
inverted_small Enqueue = lit< tt
inverted_small Dequeue = lit< tt
inverted_small Commit = lit< tt
inverted_small Abort = lit< tt
inverted_small Filler = lit< tt

abbrev pub tail_numbers : Kind → ℕ → ℕ → ℕ → List (Width × ℕ)
tail_numbers k sum s rid = (w32, from_le_bytes w32 (inverted_magic k)) ∷ (w32, sum) ∷ (w64, s) ∷ (w64, rid) ∷ []

pub tail_fits : (k : Kind) (sum s rid : ℕ) → sum < 2 ^ 32 → s < 2 ^ 64 → rid < 2 ^ 64 → AllHaveFields (tail_numbers k sum s rid)
tail_fits k sum s rid a b c = (inverted_small k, (a, (b, (c, tt))))

pub tail_joined : (k : Kind) (sum s rid : ℕ) → is_filler k ≡ false → tail_with k sum s rid ≡ joined (tail_numbers k sum s rid)
tail_joined Enqueue sum s rid h = refl
tail_joined Dequeue sum s rid h = refl
tail_joined Commit sum s rid h = refl
tail_joined Abort sum s rid h = refl
tail_joined Filler sum s rid h = absurd (cc)

pub tail_long : (k : Kind) → is_filler k ≡ false → tail_length k ≡ 24
tail_long Enqueue h = refl
tail_long Dequeue h = refl
tail_long Commit h = refl
tail_long Abort h = refl
tail_long Filler h = absurd (cc)

-- the numbers that were got are those of the tail exactly where the tail stands there
pub tail_tested : (k : Kind) (xs ns : List ℕ) (inverted sum s rid : ℕ) (b : Bool) → AreBytes xs → is_filler k ≡ false → tail_length k ≤ length xs → sum < 2 ^ 32 → s < 2 ^ 64 → rid < 2 ^ 64
    → ns ≡ numbers_of TAIL xs → inverted ≡ from_le_bytes w32 (inverted_magic k) → b ≡ pointwise eqb ns (inverted ∷ sum ∷ s ∷ rid ∷ []) → b ≡ starts_with nat_eq xs (tail_with k sum s rid)
tail_tested k xs ns inverted sum s rid b h real room a c d numbers is e =
    let long = tail_long k real in
    e ∙ (λ i. pointwise eqb (numbers i) (is i ∷ sum ∷ s ∷ rid ∷ []))
    ∙ sym (fields_stand (tail_numbers k sum s rid) 0 xs h (tail_fits k sum s rid a c d) (omega arith))
    ∙ ap (starts_with nat_eq xs) (sym (tail_joined k sum s rid real))
