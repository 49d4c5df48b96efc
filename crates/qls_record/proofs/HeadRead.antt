-- The header that stands at the front, told from its numbers.
use Rattle.std.proofs.Common.{◌≡◌, ℕ, ◌^◌, ◌<◌, ◌≤◌, Bool, true, false, cond, ◌&&◌, List, [], ◌∷◌, map, length, take, get_or, Option, Some, None, refl, sym, ap, ◌∙◌, subst, arith, eqb, nat_eq, eq-eqb, lit<, ap₂}
use Rattle.std.proofs.lemmas.Bool.{and_from, eqb-true}
use Rattle.std.proofs.lemmas.Nat.{from_le_bytes-to_le_bytes_4}
use Rattle.std.specs.List.{starts_with}
use Rattle.std.specs.Cmp.Lexicographic.{bytes_decides}
use Rattle.std.specs.Int.{w16, w32, w64, Width, to_le_bytes, from_le_bytes}
use Rattle.qls_model.specs.Bytes.{same}
use Rattle.qls_shape.specs.Fields.{number_at, version_number}
use Rattle.qls_shape.specs.Tables.{numbers_of}
use Rattle.qls_record.specs.declared.tables.TheConstants.{RECORD}
use Rattle.qls_shape.specs.declared.Version.{Version}
use Rattle.qls_shape.specs.declared.Version.TheVariants.{Two}
use Rattle.qls_record.specs.declared.Kind.{Kind}
use Rattle.qls_record.specs.declared.Kind.TheVariants.{Enqueue, Dequeue, Commit, Abort, Filler}
use Rattle.qls_record.specs.declared.Head.{Head}
use Rattle.qls_record.specs.Record.{header_length}
use Rattle.qls_record.specs.Spelling.{magic, magic_number, flags, kind_of}
use Rattle.qls_record.specs.Head.{head_numbers, head_bytes, head_fields, head_at, head_of_kind, is_legal_head}
use Rattle.qls_record.proofs.Stands.{AreBytes, joined, AllHaveFields, fields_stand, has_64, bytes_there_32, same_test, too_short}
use Rattle.qls_record.proofs.RecordLength.{least_header}

abbrev number_64 : ℕ → Width × ℕ
number_64 n = (w64, n)

-- the header's numbers with their widths
abbrev pub header_numbers : Version → ℕ → Head → List (Width × ℕ)
header_numbers v serial h =
    (w32, magic_number h.kind) ∷ (w16, version_number v) ∷ (w16, flags h.flagged) ∷ (w64, serial) ∷ (w64, h.rid)
    ∷ map number_64 (head_numbers h.kind h)

abbrev pub headed : Kind → Bool → ℕ → ℕ → ℕ → ℕ → Head
headed kind flagged rid target xid_size body_size = record { kind = kind; flagged = flagged; rid = rid; target = target; xid_size = xid_size; body_size = body_size }

of_kind : (v : Version) (s : ℕ) (k : Kind) (b : Bool) (r t x y : ℕ) → head_bytes v s (headed k b r t x y) ≡ joined (header_numbers v s (headed k b r t x y))
of_kind v s Enqueue b r t x y = refl
of_kind v s Dequeue b r t x y = refl
of_kind v s Commit b r t x y = refl
of_kind v s Abort b r t x y = refl
of_kind v s Filler b r t x y = refl

pub head_bytes-joined : (v : Version) (s : ℕ) (h : Head) → head_bytes v s h ≡ joined (header_numbers v s h)
head_bytes-joined v s h = of_kind v s h.kind h.flagged h.rid h.target h.xid_size h.body_size

-- ---- the magic

told : (m x : List ℕ) (k kind : Kind) (others : Option Kind) (b : Bool) → same m x ≡ b → (magic k ≡ x) → (others ≡ Some kind → m ≡ magic kind)
    → cond b (Some k) others ≡ Some kind → m ≡ magic kind
told m x k kind others true is e more h = let s : k ≡ kind = cc in (bytes_decides m x).0 is ∙ sym e ∙ ap magic s
told m x k kind others false is e more h = more h

-- the bytes of which a kind is told are its magic
pub kind_of-magic : (m : List ℕ) (kind : Kind) → kind_of m ≡ Some kind → m ≡ magic kind
kind_of-magic m kind h =
    told m (magic Enqueue) Enqueue kind _ (same m (magic Enqueue)) refl refl
    (told m (magic Dequeue) Dequeue kind _ (same m (magic Dequeue)) refl refl
    (told m (magic Commit) Commit kind _ (same m (magic Commit)) refl refl
    (told m (magic Abort) Abort kind _ (same m (magic Abort)) refl refl
    (told m (magic Filler) Filler kind None (same m (magic Filler)) refl refl (λ e. absurd (cc)))))) h

pub magic_there : (kind : Kind) (xs : List ℕ) → kind_of (take 4 xs) ≡ Some kind → number_at w32 0 xs ≡ magic_number kind
magic_there kind xs h = ap (from_le_bytes w32) (kind_of-magic (take 4 xs) kind h)

-- ---- the stamp: the version, the flags and the serial

self : (n : ℕ) → eqb n n ≡ true
self n = eq-eqb n n refl

abbrev pub stamp : ℕ → Bool → List ℕ → Bool
stamp s flagged xs = eqb (number_at w16 4 xs) 2 && eqb (number_at w16 6 xs) (flags flagged) && eqb (number_at w64 8 xs) s

collapse : (m v f s rest : Bool) → m ≡ true → rest ≡ true → (m && (v && (f && (s && rest)))) ≡ (v && f && s)
collapse m false f s rest is_m is_rest = ap (λ b. b && false) is_m
collapse m true false s rest is_m is_rest = ap (λ b. b && false) is_m
collapse m true true false rest is_m is_rest = ap (λ b. b && false) is_m
collapse m true true true rest is_m is_rest = ap₂ (λ a b. a && b) is_m is_rest

pub small_flags : (b : Bool) → flags b < 2 ^ 16
small_flags true = lit< tt
small_flags false = lit< tt

-- the header whose fields were read stands at the front exactly where its stamp does
abbrev IsStamped : Kind → Type 0
IsStamped kind = (s : ℕ) (xs : List ℕ) → AreBytes xs → s < 2 ^ 64 → kind_of (take 4 xs) ≡ Some kind → header_length Two kind ≤ length xs
    → starts_with nat_eq xs (head_bytes Two s (head_fields kind xs)) ≡ stamp s (head_fields kind xs).flagged xs

-- the five numbers that each header begins with have fields, and those behind them
front_fit : (kind : Kind) (b : Bool) (s : ℕ) (xs : List ℕ) (further : List (Width × ℕ)) → magic_number kind < 2 ^ 32 → s < 2 ^ 64 → AreBytes xs → AllHaveFields further
    → AllHaveFields ((w32, magic_number kind) ∷ (w16, 2) ∷ (w16, flags b) ∷ (w64, s) ∷ (w64, number_at w64 16 xs) ∷ further)
front_fit kind b s xs further m small h others = (m, (lit< tt, (small_flags b, (small, (has_64 16 xs h, others)))))

stamped : (kind : Kind) (s : ℕ) (xs : List ℕ) (rest : Bool) → kind_of (take 4 xs) ≡ Some kind → rest ≡ true
    → (eqb (number_at w32 0 xs) (magic_number kind) && (eqb (number_at w16 4 xs) 2 && (eqb (number_at w16 6 xs) (flags (head_fields kind xs).flagged) && (eqb (number_at w64 8 xs) s && (eqb (number_at w64 16 xs) (number_at w64 16 xs) && rest)))))
    ≡ stamp s (head_fields kind xs).flagged xs
stamped kind s xs rest is all =
    collapse (eqb (number_at w32 0 xs) (magic_number kind)) (eqb (number_at w16 4 xs) 2) (eqb (number_at w16 6 xs) (flags (head_fields kind xs).flagged)) (eqb (number_at w64 8 xs) s) (eqb (number_at w64 16 xs) (number_at w64 16 xs) && rest)
    (eq-eqb (number_at w32 0 xs) (magic_number kind) (magic_there kind xs is))
    (and_from (eqb (number_at w64 16 xs) (number_at w64 16 xs)) rest (self (number_at w64 16 xs)) all)

-- one more number that was read stands where it was read
again : (at : ℕ) (xs : List ℕ) (rest : Bool) → rest ≡ true → (eqb (number_at w64 at xs) (number_at w64 at xs) && rest) ≡ true
again at xs rest h = and_from (eqb (number_at w64 at xs) (number_at w64 at xs)) rest (self (number_at w64 at xs)) h

abbrev pair_read : List ℕ → List (Width × ℕ)
pair_read xs = (w64, number_at w64 24 xs) ∷ (w64, number_at w64 32 xs) ∷ []

abbrev one_read : List ℕ → List (Width × ℕ)
one_read xs = (w64, number_at w64 24 xs) ∷ []

pair_fit : (xs : List ℕ) → AreBytes xs → AllHaveFields (pair_read xs)
pair_fit xs h = (has_64 24 xs h, (has_64 32 xs h, tt))

one_fits : (xs : List ℕ) → AreBytes xs → AllHaveFields (one_read xs)
one_fits xs h = (has_64 24 xs h, tt)

pair_again : (xs : List ℕ) → (eqb (number_at w64 24 xs) (number_at w64 24 xs) && (eqb (number_at w64 32 xs) (number_at w64 32 xs) && true)) ≡ true
pair_again xs = again 24 xs (eqb (number_at w64 32 xs) (number_at w64 32 xs) && true) (again 32 xs true refl)

pub head_stamped : (kind : Kind) → IsStamped kind
head_stamped Enqueue s xs h small is fits =
    fields_stand (header_numbers Two s (head_fields Enqueue xs)) 0 xs h (front_fit Enqueue (head_fields Enqueue xs).flagged s xs (pair_read xs) (lit< tt) small h (pair_fit xs h)) fits
    ∙ stamped Enqueue s xs _ is (pair_again xs)
head_stamped Dequeue s xs h small is fits =
    fields_stand (header_numbers Two s (head_fields Dequeue xs)) 0 xs h (front_fit Dequeue (head_fields Dequeue xs).flagged s xs (pair_read xs) (lit< tt) small h (pair_fit xs h)) fits
    ∙ stamped Dequeue s xs _ is (pair_again xs)
head_stamped Commit s xs h small is fits =
    fields_stand (header_numbers Two s (head_fields Commit xs)) 0 xs h (front_fit Commit false s xs (one_read xs) (lit< tt) small h (one_fits xs h)) fits
    ∙ stamped Commit s xs _ is (again 24 xs true refl)
head_stamped Abort s xs h small is fits =
    fields_stand (header_numbers Two s (head_fields Abort xs)) 0 xs h (front_fit Abort false s xs (one_read xs) (lit< tt) small h (one_fits xs h)) fits
    ∙ stamped Abort s xs _ is (again 24 xs true refl)
head_stamped Filler s xs h small is fits =
    fields_stand (header_numbers Two s (head_fields Filler xs)) 0 xs h (front_fit Filler false s xs [] (lit< tt) small h tt) fits
    ∙ stamped Filler s xs true is refl

-- ---- the kind told from a number

same_magic : (m : ℕ) (k : Kind) → m < 2 ^ 32 → (small : magic_number k < 2 ^ 32) → to_le_bytes w32 (magic_number k) ≡ magic k → same (to_le_bytes w32 m) (magic k) ≡ eqb m (magic_number k)
same_magic m k h small e =
    same_test (same (to_le_bytes w32 m) (magic k)) (eqb m (magic_number k))
    (λ b. eq-eqb m (magic_number k) (sym (from_le_bytes-to_le_bytes_4 m h) ∙ ap (from_le_bytes w32) ((bytes_decides (to_le_bytes w32 m) (magic k)).0 b)))
    (λ b. (bytes_decides (to_le_bytes w32 m) (magic k)).1 (ap (to_le_bytes w32) (eqb-true m (magic_number k) b) ∙ e))

-- each kind by its number, and none by any other
abbrev pub told_by_number : ℕ → Option Kind
told_by_number m =
    cond (eqb m 0x65534c51) (Some Enqueue) (cond (eqb m 0x64534c51) (Some Dequeue) (cond (eqb m 0x63534c51) (Some Commit)
    (cond (eqb m 0x61534c51) (Some Abort) (cond (eqb m 0x78534c51) (Some Filler) None))))

pub kind_of-number : (m : ℕ) → m < 2 ^ 32 → kind_of (to_le_bytes w32 m) ≡ told_by_number m
kind_of-number m h =
    let e = same_magic m Enqueue h (lit< tt) refl in
    let d = same_magic m Dequeue h (lit< tt) refl in
    let c = same_magic m Commit h (lit< tt) refl in
    let a = same_magic m Abort h (lit< tt) refl in
    let f = same_magic m Filler h (lit< tt) refl in
    λ i. cond (e i) (Some Enqueue) (cond (d i) (Some Dequeue) (cond (c i) (Some Commit) (cond (a i) (Some Abort) (cond (f i) (Some Filler) None))))

-- ---- where the header has no room

pub length-head_bytes : (s : ℕ) (h : Head) → length (head_bytes Two s h) ≡ header_length Two h.kind
length-head_bytes s h = by_kind h.kind h.flagged h.rid h.target h.xid_size h.body_size
  where
    by_kind : (k : Kind) (b : Bool) (r t x y : ℕ) → length (head_bytes Two s (headed k b r t x y)) ≡ header_length Two k
    by_kind Enqueue b r t x y = refl
    by_kind Dequeue b r t x y = refl
    by_kind Commit b r t x y = refl
    by_kind Abort b r t x y = refl
    by_kind Filler b r t x y = refl

pub field_kind : (k : Kind) (xs : List ℕ) → (head_fields k xs).kind ≡ k
field_kind Enqueue xs = refl
field_kind Dequeue xs = refl
field_kind Commit xs = refl
field_kind Abort xs = refl
field_kind Filler xs = refl

not_headed : (b c : Bool) (h : Head) → c ≡ false → cond (b && c) (Some h) None ≡ None
not_headed true c h e = ap (λ c. cond c (Some h) None) e
not_headed false c h e = refl

-- no header where its bytes aren't there
pub no_room : (s : ℕ) (xs : List ℕ) (k : Kind) → kind_of (take 4 xs) ≡ Some k → length xs < header_length Two k → head_at Two s xs ≡ None
no_room s xs k is short =
    let long : length (head_bytes Two s (head_fields k xs)) ≡ header_length Two k = length-head_bytes s (head_fields k xs) ∙ ap (header_length Two) (field_kind k xs) in
    ap (head_of_kind Two s xs) is
    ∙ not_headed (is_legal_head (head_fields k xs)) (starts_with nat_eq xs (head_bytes Two s (head_fields k xs))) (head_fields k xs) (too_short xs (head_bytes Two s (head_fields k xs)) (omega arith))

pub least_two : (k : Kind) → 24 ≤ header_length Two k
least_two k = least_header Two k

-- none in fewer than 24 bytes
pub too_few : (s : ℕ) (xs : List ℕ) → length xs < 24 → head_at Two s xs ≡ None
too_few s xs short = go (kind_of (take 4 xs)) refl
  where
    go : (o : Option Kind) → kind_of (take 4 xs) ≡ o → head_at Two s xs ≡ None
    go None e = ap (head_of_kind Two s xs) e
    go (Some k) e = let least = least_two k in no_room s xs k e (omega arith)

-- none where no kind's magic stands
pub no_kind : (s : ℕ) (xs : List ℕ) → kind_of (take 4 xs) ≡ None → head_at Two s xs ≡ None
no_kind s xs e = ap (head_of_kind Two s xs) e

-- ---- what the calls have to show

pub kind_there : (xs : List ℕ) (m : ℕ) (k : Option Kind) → AreBytes xs → 24 ≤ length xs → m ≡ number_at w32 0 xs → k ≡ kind_of (to_le_bytes w32 m) → k ≡ kind_of (take 4 xs)
kind_there xs m k h room is e = e ∙ ap (λ n. kind_of (to_le_bytes w32 n)) is ∙ ap kind_of (bytes_there_32 xs 0 h (omega arith))

pub stamp_there : (h : Head) (s : ℕ) (xs : List ℕ) → AreBytes xs → s < 2 ^ 64 → kind_of (take 4 xs) ≡ Some h.kind → header_length Two h.kind ≤ length xs → h ≡ head_fields h.kind xs
    → starts_with nat_eq xs (head_bytes Two s h) ≡ stamp s h.flagged xs
stamp_there h s xs small serial is room fields =
    subst (λ q. starts_with nat_eq xs (head_bytes Two s q) ≡ stamp s q.flagged xs) (sym fields) (head_stamped h.kind s xs small serial is room)

-- the three tests in a row
pub three_tests : (a b c : Bool) → (a && (b && (c && true))) ≡ (a && b && c)
three_tests true true true = refl
three_tests true true false = refl
three_tests true false c = refl
three_tests false b c = refl

-- the tests on the numbers that were got
pub tested : (xs ns : List ℕ) (b : Bool) (s f : ℕ) (r : Bool) → ns ≡ numbers_of RECORD xs → f ≡ flags b
    → r ≡ (eqb (get_or ns 1 0) 2 && (eqb (get_or ns 2 0) f && (eqb (get_or ns 3 0) s && true))) → r ≡ stamp s b xs
tested xs ns b s f r numbers is e =
    e
    ∙ (λ i. eqb (get_or (numbers i) 1 0) 2 && (eqb (get_or (numbers i) 2 0) (is i) && (eqb (get_or (numbers i) 3 0) s && true)))
    ∙ three_tests (eqb (number_at w16 4 xs) 2) (eqb (number_at w16 6 xs) (flags b)) (eqb (number_at w64 8 xs) s)
