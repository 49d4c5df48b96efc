-- What stands at the front is told from the bytes that it takes: those behind it don't matter.
use Rattle.std.proofs.Common.{◌≡◌, ℕ, ◌+◌, ◌-◌, ◌≤◌, false, cond, ◌&&◌, List, ◌++◌, length, take, drop, Option, Some, None, refl, sym, ap, ◌∙◌, append_assoc, arith, nat_eq, take-append-drop, take-take, lit≤}
use Rattle.std.proofs.Math.Seq.{take-append-add}
use Rattle.std.proofs.lemmas.List.{drop-take}
use Rattle.std.specs.List.{starts_with}
use Rattle.std.specs.Cmp.Lexicographic.{pointwise}
use Rattle.std.specs.Int.{Width, w16, w64, byte_len, from_le_bytes}
use Rattle.qls_shape.specs.Fields.{number_at}
use Rattle.qls_shape.specs.declared.Version.{Version}
use Rattle.qls_shape.specs.declared.Version.TheVariants.{Two}
use Rattle.qls_record.specs.declared.Kind.{Kind}
use Rattle.qls_record.specs.declared.Kind.TheVariants.{Enqueue, Dequeue, Commit, Abort, Filler}
use Rattle.qls_record.specs.declared.Head.{Head}
use Rattle.qls_record.specs.Record.{Record, record_length, header_length}
use Rattle.qls_record.specs.Spelling.{spelling, record_at, kind_of}
use Rattle.qls_record.specs.Head.{head_at, head_bytes, head_fields, head_of_kind, if_headed, is_legal_head}
use Rattle.qls_record.proofs.RoundTrip.{record_at-spelling, record_at_spells}
use Rattle.qls_record.proofs.RecordLength.{length-spelling, stands_split}
use Rattle.qls_record.proofs.HeadRead.{length-head_bytes}

-- What is read in the first bytes is read in all.
pub read_in_all : (v : Version) (s n : ℕ) (xs : List ℕ) (r : Record) → record_at v s (take n xs) ≡ Some r → record_at v s xs ≡ Some r
read_in_all v s n xs r h =
    let spells = record_at_spells v s (take n xs) r h in
    let front : take n xs ≡ spelling v s r ++ drop (length (spelling v s r)) (take n xs) = stands_split (take n xs) (spelling v s r) spells.stands in
    let whole : xs ≡ spelling v s r ++ (drop (length (spelling v s r)) (take n xs) ++ drop n xs) =
    sym (take-append-drop n xs) ∙ ap (λ f. f ++ drop n xs) front ∙ append_assoc (spelling v s r) (drop (length (spelling v s r)) (take n xs)) (drop n xs) in
    ap (record_at v s) whole ∙ record_at-spelling v s r (drop (length (spelling v s r)) (take n xs) ++ drop n xs) spells.legal

-- What is read in all is read in as many bytes as it takes.
pub read_in_front : (v : Version) (s n : ℕ) (xs : List ℕ) (r : Record) → record_at v s xs ≡ Some r → record_length v r ≤ n → record_at v s (take n xs) ≡ Some r
read_in_front v s n xs r h fits =
    let spells = record_at_spells v s xs r h in
    let l = length (spelling v s r) in
    let rest = drop (length (spelling v s r)) xs in
    let split : xs ≡ spelling v s r ++ drop (length (spelling v s r)) xs = stands_split xs (spelling v s r) spells.stands in
    let more : n ≡ l + (n - l) = omega (arith, length-spelling v s r, fits) in
    let front : take n xs ≡ spelling v s r ++ take (n - l) rest = (λ i. take (more i) (split i)) ∙ take-append-add (spelling v s r) rest (n - l) in
    ap (record_at v s) front ∙ record_at-spelling v s r (take (n - l) rest) spells.legal

-- ---- the head

in_front : (at k n : ℕ) (xs : List ℕ) → at + k ≤ n → take k (drop at (take n xs)) ≡ take k (drop at xs)
in_front at k n xs h =
    let more : n ≡ at + (n - at) = omega (arith, h) in
    ap (λ m. take k (drop at (take m xs))) more ∙ ap (take k) (drop-take at (n - at) xs) ∙ take-take k (n - at) (drop at xs) (omega (arith, h))

number_in_front : (w : Width) (at n : ℕ) (xs : List ℕ) → at + byte_len w ≤ n → number_at w at (take n xs) ≡ number_at w at xs
number_in_front w at n xs h = ap (from_le_bytes w) (in_front at (byte_len w) n xs h)

stands_in_front : (n : ℕ) (xs needle : List ℕ) → length needle ≤ n → starts_with nat_eq (take n xs) needle ≡ starts_with nat_eq xs needle
stands_in_front n xs needle h = ap (pointwise nat_eq needle) (take-take (length needle) n xs h)

fields_in_front : (k : Kind) (n : ℕ) (xs : List ℕ) → 40 ≤ n → head_fields k (take n xs) ≡ head_fields k xs
fields_in_front k n xs h =
    let f = number_in_front w16 6 n xs (omega arith) in
    let r = number_in_front w64 16 n xs (omega arith) in
    let a = number_in_front w64 24 n xs (omega arith) in
    let b = number_in_front w64 32 n xs (omega arith) in
    by_kind k f r a b
  where
    by_kind : (k : Kind) → number_at w16 6 (take n xs) ≡ number_at w16 6 xs → number_at w64 16 (take n xs) ≡ number_at w64 16 xs
        → number_at w64 24 (take n xs) ≡ number_at w64 24 xs → number_at w64 32 (take n xs) ≡ number_at w64 32 xs → head_fields k (take n xs) ≡ head_fields k xs
    by_kind Enqueue f r a b = λ i. record { kind = Enqueue; flagged = nat_eq (f i) 0x10; rid = r i; target = 0; xid_size = a i; body_size = b i }
    by_kind Dequeue f r a b = λ i. record { kind = Dequeue; flagged = nat_eq (f i) 0x10; rid = r i; target = a i; xid_size = b i; body_size = 0 }
    by_kind Commit f r a b = λ i. record { kind = Commit; flagged = false; rid = r i; target = 0; xid_size = a i; body_size = 0 }
    by_kind Abort f r a b = λ i. record { kind = Abort; flagged = false; rid = r i; target = 0; xid_size = a i; body_size = 0 }
    by_kind Filler f r a b = λ i. record { kind = Filler; flagged = false; rid = r i; target = 0; xid_size = 0; body_size = 0 }

most_two : (k : Kind) → header_length Two k ≤ 40
most_two Enqueue = lit≤ tt
most_two Dequeue = lit≤ tt
most_two Commit = lit≤ tt
most_two Abort = lit≤ tt
most_two Filler = lit≤ tt

-- Forty bytes tell whether a head stands there, and which.
pub head_in_front : (s n : ℕ) (xs : List ℕ) → 40 ≤ n → head_at Two s (take n xs) ≡ head_at Two s xs
head_in_front s n xs h = ap (λ m. head_of_kind Two s (take n xs) (kind_of m)) (take-take 4 n xs (omega arith)) ∙ go (kind_of (take 4 xs))
  where
    headed_in_front : (q : Head) → if_headed Two s (take n xs) q ≡ if_headed Two s xs q
    headed_in_front q =
        let most = most_two q.kind in
        ap (λ b. cond (is_legal_head q && b) (Some q) None) (stands_in_front n xs (head_bytes Two s q) (omega (arith, length-head_bytes s q)))

    go : (o : Option Kind) → head_of_kind Two s (take n xs) o ≡ head_of_kind Two s xs o
    go None = refl
    go (Some k) = ap (if_headed Two s (take n xs)) (fields_in_front k n xs h) ∙ headed_in_front (head_fields k xs)
