-- A spelling put together part by part.
use Rattle.std.proofs.Common.{◌≡◌, true, refl, ℕ, ◌+◌, ◌-◌, List, [], ◌++◌, length, take, drop, replicate, sym, ap, ◌∙◌, append-nil, arith, length-append, length-drop}
use Rattle.std.proofs.lemmas.List.{take_at}
use Rattle.qls_shape.specs.Adler.{adler_of}
use Rattle.qls_shape.specs.Lengths.{padding}
use Rattle.qls_shape.specs.declared.Version.TheVariants.{Two}
use Rattle.qls_record.specs.declared.Head.{Head}
use Rattle.qls_record.specs.Record.{header_length, tail_length, is_legal, record_length}
use Rattle.qls_record.specs.Spelling.{spelling, covered, tail_with, padded}
use Rattle.qls_record.specs.Head.{head_of, is_legal_head, head_bytes, head_record_length, record_with}
use Rattle.qls_record.proofs.HeadRead.{length-head_bytes}
use Rattle.qls_record.proofs.HeadTrip.{header_is-head_bytes, same_legal, head_length}
use Rattle.qls_record.proofs.WholeRead.{length-tail_with}
use Rattle.qls_record.proofs.Put.{put_behind}

-- the record with these sizes has this head
pub head_with : (h : Head) (xid body : List ℕ) → length xid ≡ h.xid_size → length body ≡ h.body_size → head_of (record_with h xid body) ≡ h
head_with h xid body x y = λ i. record { kind = h.kind; flagged = h.flagged; rid = h.rid; target = h.target; xid_size = x i; body_size = y i }

covered_with : (h : Head) (s : ℕ) (xid body : List ℕ) → length xid ≡ h.xid_size → length body ≡ h.body_size → covered Two s (record_with h xid body) ≡ (head_bytes Two s h ++ xid) ++ body
covered_with h s xid body x y =
    ap (λ f. ((f ++ xid) ++ []) ++ body) (header_is-head_bytes s (record_with h xid body) ∙ ap (head_bytes Two s) (head_with h xid body x y))
    ∙ ap (λ f. f ++ body) (append-nil (head_bytes Two s h ++ xid))

-- one more part behind what stands
next_part : (new old F R b : List ℕ) (a : ℕ) → old ≡ F ++ R → length F ≡ a → new ≡ take a old ++ b ++ drop (a + length b) old → new ≡ (F ++ b) ++ drop (length b) R
next_part new old F R b a is long e = e ∙ ap (λ l. take a l ++ b ++ drop (a + length b) l) is ∙ put_behind F R b a long

-- the header, the xid, the body, the tail and the padding, put one behind another, are the spelling
pub assembled : (h : Head) (s n k : ℕ) (xid body start i1 i2 i3 i4 i5 : List ℕ) → length xid ≡ h.xid_size → length body ≡ h.body_size → length start ≡ head_record_length h
    → n ≡ header_length Two h.kind → k ≡ tail_length h.kind
    → i1 ≡ head_bytes Two s h ++ drop (header_length Two h.kind) start
    → i2 ≡ take n i1 ++ xid ++ drop (n + length xid) i1
    → i3 ≡ take (n + length xid) i2 ++ body ++ drop (n + length xid + length body) i2
    → i4 ≡ take (n + length xid + length body) i3 ++ tail_with h.kind (adler_of (take (n + length xid + length body) i3)) s h.rid ++ drop (n + length xid + length body + tail_length h.kind) i3
    → i5 ≡ take (n + length xid + length body + k) i4 ++ replicate (length i4 - (n + length xid + length body + k)) 255
    → i5 ≡ spelling Two s (record_with h xid body)
assembled h s n k xid body start i1 i2 i3 i4 i5 x y room is_n is_k e1 e2 e3 e4 e5 =
    let H = head_bytes Two s h in
    let C = (H ++ xid) ++ body in
    let r1 = drop (header_length Two h.kind) start in
    let r2 = drop (length xid) r1 in
    let r3 = drop (length body) r2 in
    let t = tail_length h.kind in
    let c = n + length xid + length body in
    let hl : length (head_bytes Two s h) ≡ n = length-head_bytes s h ∙ sym is_n in
    let xl : length (head_bytes Two s h ++ xid) ≡ n + length xid = omega (arith, hl, length-append H xid) in
    let cl : length ((head_bytes Two s h ++ xid) ++ body) ≡ n + length xid + length body = omega (arith, xl, length-append (H ++ xid) body) in
    let f2 : i2 ≡ (H ++ xid) ++ r2 = next_part i2 i1 H r1 xid n e1 hl e2 in
    let f3 : i3 ≡ C ++ r3 = next_part i3 i2 (H ++ xid) r2 body (n + length xid) f2 xl e3 in
    let front : take c i3 ≡ C = ap (take c) f3 ∙ take_at C r3 c cl in
    let T = tail_with h.kind (adler_of C) s h.rid in
    let tl : length T ≡ t = length-tail_with h.kind (adler_of C) s h.rid in
    let g4 : i4 ≡ take c i3 ++ T ++ drop (c + length T) i3 = e4 ∙ (λ i. take c i3 ++ tail_with h.kind (adler_of (front i)) s h.rid ++ drop (c + sym tl i) i3) in
    let f4 : i4 ≡ (C ++ T) ++ drop (length T) r3 = next_part i4 i3 C r3 T c f3 cl g4 in
    let wl : length (C ++ T) ≡ c + t = omega (arith, cl, tl, length-append C T) in
    let left : length i4 - (c + t) ≡ padding (length (C ++ T)) =
    omega (arith, ap length f4, length-append (C ++ T) (drop (length T) r3), length-drop (length T) r3, length-drop (length body) r2, length-drop (length xid) r1, length-drop (header_length Two h.kind) start, room, is_n, wl, tl, x, y) in
    let same : covered Two s (record_with h xid body) ≡ C = covered_with h s xid body x y in
    e5
    ∙ ap (λ k. take (c + k) i4 ++ replicate (length i4 - (c + k)) 255) is_k
    ∙ ap (λ l. take (c + t) l ++ replicate (length i4 - (c + t)) 255) f4
    ∙ ap (λ f. f ++ replicate (length i4 - (c + t)) 255) (take_at (C ++ T) (drop (length T) r3) (c + t) wl)
    ∙ ap (λ k. (C ++ T) ++ replicate k 255) left
    ∙ (λ i. padded (sym same i ++ tail_with h.kind (adler_of (sym same i)) s h.rid))

-- ---- the record of a legal head

pub record_is_legal : (h : Head) (xid body : List ℕ) → is_legal_head h ≡ true → length xid ≡ h.xid_size → length body ≡ h.body_size → is_legal Two (record_with h xid body) ≡ true
record_is_legal h xid body legal x y = same_legal (record_with h xid body) refl ∙ ap is_legal_head (head_with h xid body x y) ∙ legal

pub length-record_with : (h : Head) (xid body : List ℕ) → is_legal_head h ≡ true → length xid ≡ h.xid_size → length body ≡ h.body_size → record_length Two (record_with h xid body) ≡ head_record_length h
length-record_with h xid body legal x y =
    sym (head_length (record_with h xid body) (record_is_legal h xid body legal x y)) ∙ ap head_record_length (head_with h xid body x y)
