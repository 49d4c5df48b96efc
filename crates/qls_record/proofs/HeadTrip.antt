-- The head of a record that is spelled at the front.
use Rattle.std.proofs.Common.{◌≡◌, ℕ, ◌^◌, ◌≤◌, Bool, true, false, cond, ◌&&◌, List, [], ◌++◌, length, take, drop, Some, None, refl, sym, ap, ◌∙◌, arith, nat_eq, nat_le, nat_lt, lit<, replicate, length-append}
use Rattle.std.proofs.lemmas.Bool.{and_parts, and_from, leb-true}
use Rattle.std.specs.List.{starts_with}
use Rattle.qls_shape.specs.Lengths.{padding, padded_length}
use Rattle.qls_shape.specs.declared.Version.{Version}
use Rattle.qls_shape.specs.declared.Version.TheVariants.{Two}
use Rattle.qls_record.specs.declared.Kind.{Kind}
use Rattle.qls_record.specs.declared.Kind.TheVariants.{Enqueue, Dequeue, Commit, Abort, Filler}
use Rattle.qls_record.specs.declared.Head.{Head}
use Rattle.qls_record.specs.Record.{Record, is_legal, least_xid, most_xid, most_props, most_body, above_target, may_be_flagged, implies, record_length}
use Rattle.qls_record.specs.Spelling.{spelling, header, covered, tail, kind_of, record_at}
use Rattle.qls_record.specs.Head.{head_of, is_legal_head, head_record_length, head_bytes, head_fields, if_headed, head_of_kind, head_at}
use Rattle.qls_record.proofs.RoundTrip.{Legal, legal_facts, made, number_back, size_back, flag_back, not_flagged, zero_of, none_of, kind_read, regrouped, stands_at_front, record_at_spells}
use Rattle.qls_record.proofs.RecordLength.{length-spelling, stands_split}

-- a record's header is that of its head
header-head : (s : ℕ) (kind : Kind) (b : Bool) (rid target : ℕ) (xid props body : List ℕ)
    → header Two s (made kind b rid target xid props body) ≡ head_bytes Two s (head_of (made kind b rid target xid props body))
header-head s Enqueue b rid target xid props body = refl
header-head s Dequeue b rid target xid props body = refl
header-head s Commit b rid target xid props body = refl
header-head s Abort b rid target xid props body = refl
header-head s Filler b rid target xid props body = refl

pub header_is-head_bytes : (s : ℕ) (r : Record) → header Two s r ≡ head_bytes Two s (head_of r)
header_is-head_bytes s r = header-head s r.kind r.flagged r.rid r.target r.xid r.props r.body

-- in version 2 nothing is said of properties but that there are none
props_none : (kind : Kind) (props : List ℕ) → length props ≤ most_props Two kind → length props ≤ 0
props_none kind props h = h

pub no_props : (r : Record) → is_legal Two r ≡ true → [] ≡ r.props
no_props r legal = none_of r.props (legal_facts Two r legal).props

drop_true : (x p y : Bool) → p ≡ true → ((x && p) && y) ≡ (x && y)
drop_true true p y e = ap (λ b. b && y) e
drop_true false p y e = refl

abbrev before_props : Record → Bool
before_props r =
    nat_lt r.rid (2 ^ 64) && nat_lt r.target (above_target r.kind) && implies r.flagged (may_be_flagged r.kind)
    && nat_le (least_xid r.kind) (length r.xid) && nat_le (length r.xid) (most_xid r.kind)

-- a record without properties is legal exactly where its head is
pub same_legal : (r : Record) → nat_le (length r.props) 0 ≡ true → is_legal Two r ≡ is_legal_head (head_of r)
same_legal r e = drop_true (before_props r) (nat_le (length r.props) 0) (nat_le (length r.body) (most_body r.kind)) e

pub head_is_legal : (r : Record) → is_legal Two r ≡ true → is_legal_head (head_of r) ≡ true
head_is_legal r legal = sym (same_legal r (ap (λ (p : List ℕ). nat_le (length p) 0) (sym (no_props r legal)))) ∙ legal

-- the length that the head gives is the record's
pub head_length : (r : Record) → is_legal Two r ≡ true → head_record_length (head_of r) ≡ record_length Two r
head_length r legal = let p = (legal_facts Two r legal).props in let none : length r.props ≡ 0 = omega arith in
    ap padded_length (omega arith)

-- ---- what is spelled has its head read

head_back : (v : Version) (s : ℕ) (kind : Kind) (b : Bool) (rid target : ℕ) (xid props body more : List ℕ) → Legal Two (made kind b rid target xid props body)
    → head_fields kind (header Two s (made kind b rid target xid props body) ++ more) ≡ head_of (made kind b rid target xid props body)
head_back v s Enqueue b rid target xid props body more h =
    λ i. record { kind = Enqueue; flagged = flag_back b i; rid = number_back rid h.rid i; target = zero_of target h.target i; xid_size = size_back xid 128 h.xid (lit< tt) i; body_size = size_back body 1048576 h.body (lit< tt) i }
head_back v s Dequeue b rid target xid props body more h =
    λ i. record { kind = Dequeue; flagged = flag_back b i; rid = number_back rid h.rid i; target = number_back target h.target i; xid_size = size_back xid 128 h.xid (lit< tt) i; body_size = length (none_of body h.body i) }
head_back v s Commit b rid target xid props body more h =
    λ i. record { kind = Commit; flagged = not_flagged b h.flag i; rid = number_back rid h.rid i; target = zero_of target h.target i; xid_size = size_back xid 128 h.xid (lit< tt) i; body_size = length (none_of body h.body i) }
head_back v s Abort b rid target xid props body more h =
    λ i. record { kind = Abort; flagged = not_flagged b h.flag i; rid = number_back rid h.rid i; target = zero_of target h.target i; xid_size = size_back xid 128 h.xid (lit< tt) i; body_size = length (none_of body h.body i) }
head_back v s Filler b rid target xid props body more h =
    λ i. record { kind = Filler; flagged = not_flagged b h.flag i; rid = number_back rid h.rid i; target = zero_of target h.target i; xid_size = length (none_of xid h.xid i); body_size = length (none_of body h.body i) }

-- What is spelled has its head read, whatever follows it.
pub head_at-spelling : (s : ℕ) (r : Record) (rest : List ℕ) → is_legal Two r ≡ true → head_at Two s (spelling Two s r ++ rest) ≡ Some (head_of r)
head_at-spelling s r rest legal =
    let pad = replicate (padding (length (covered Two s r ++ tail Two s r.kind r))) 255 in
    let more = r.xid ++ (r.props ++ (r.body ++ (tail Two s r.kind r ++ (pad ++ rest)))) in
    let parts : spelling Two s r ++ rest ≡ header Two s r ++ more =
    regrouped (header Two s r) r.xid r.props r.body (tail Two s r.kind r) pad rest in
    let kind_is : kind_of (take 4 (header Two s r ++ more)) ≡ Some r.kind = kind_read Two s r.kind r.flagged r.rid r.target r.xid r.props r.body more in
    let fields_are : head_fields r.kind (header Two s r ++ more) ≡ head_of r =
    head_back Two s r.kind r.flagged r.rid r.target r.xid r.props r.body more (legal_facts Two r legal) in
    let there : starts_with nat_eq (header Two s r ++ more) (head_bytes Two s (head_of r)) ≡ true =
    ap (starts_with nat_eq (header Two s r ++ more)) (sym (header_is-head_bytes s r)) ∙ stands_at_front (header Two s r) more in
    ap (head_at Two s) parts
    ∙ ap (head_of_kind Two s (header Two s r ++ more)) kind_is
    ∙ ap (if_headed Two s (header Two s r ++ more)) fields_are
    ∙ ap (λ b. cond b (Some (head_of r)) None) (and_from (is_legal_head (head_of r)) (starts_with nat_eq (header Two s r ++ more) (head_bytes Two s (head_of r))) (head_is_legal r legal) there)

-- a record that stands at the front
pub record_splits : (s : ℕ) (xs : List ℕ) (r : Record) → record_at Two s xs ≡ Some r → xs ≡ spelling Two s r ++ drop (length (spelling Two s r)) xs
record_splits s xs r h = let spells = record_at_spells Two s xs r h in stands_split xs (spelling Two s r) spells.stands

-- The head of a record that stands at the front is the head that stands there.
pub head_of_record_at : (s : ℕ) (xs : List ℕ) (r : Record) → record_at Two s xs ≡ Some r → head_at Two s xs ≡ Some (head_of r)
head_of_record_at s xs r h =
    let spells = record_at_spells Two s xs r h in
    ap (head_at Two s) (record_splits s xs r h) ∙ head_at-spelling s r (drop (length (spelling Two s r)) xs) spells.legal

-- It is whole: the bytes are there.
pub record_fits : (s : ℕ) (xs : List ℕ) (r : Record) → record_at Two s xs ≡ Some r → head_record_length (head_of r) ≤ length xs
record_fits s xs r h =
    let spells = record_at_spells Two s xs r h in
    let split = ap length (record_splits s xs r h) in
    omega (arith, split, head_length r spells.legal, length-spelling Two s r, length-append (spelling Two s r) (drop (length (spelling Two s r)) xs))

-- ---- the limits of a legal head

xid_within : (k : Kind) (n : ℕ) → n ≤ most_xid k → n ≤ 128
xid_within Enqueue n h = h
xid_within Dequeue n h = h
xid_within Commit n h = h
xid_within Abort n h = h
xid_within Filler n h = omega arith

body_within : (k : Kind) (n : ℕ) → n ≤ most_body k → n ≤ 1048576
body_within Enqueue n h = h
body_within Dequeue n h = omega arith
body_within Commit n h = omega arith
body_within Abort n h = omega arith
body_within Filler n h = omega arith

pub within_limits : (h : Head) → is_legal_head h ≡ true → (h.xid_size ≤ 128) × (h.body_size ≤ 1048576)
within_limits h legal =
    let a = and_parts _ _ legal in
    let b = and_parts _ _ a.0 in
    (xid_within h.kind h.xid_size (leb-true h.xid_size (most_xid h.kind) b.1), body_within h.kind h.body_size (leb-true h.body_size (most_body h.kind) a.1))
