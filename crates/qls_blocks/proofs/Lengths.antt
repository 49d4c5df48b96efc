-- Lengths of records and of batches.
use Rattle.std.proofs.Common.{◌≡◌, ℕ, zero, suc, ◌+◌, ◌-◌, ◌*◌, ◌/◌, ◌%◌, ◌<◌, ◌≤◌, true, List, [], ◌∷◌, ◌++◌, length, replicate, map, drop, refl, sym, ap, ◌∙◌, arith, leb→le, leb, subst, T, lit≤}
use Rattle.std.proofs.lemmas.Bool.{and_parts}
use Rattle.qls_shape.specs.Lengths.{padded_length}
use Rattle.qls_shape.specs.declared.Version.TheVariants.{Two}
use Rattle.qls_record.specs.declared.Kind.{Kind}
use Rattle.qls_record.specs.declared.Kind.TheVariants.{Enqueue, Dequeue, Commit, Abort, Filler}
use Rattle.qls_record.specs.declared.Head.{Head}
use Rattle.qls_record.specs.Record.{Record, record_length, most_xid, most_body, header_length, tail_length}
use Rattle.qls_record.specs.Head.{is_legal_head, head_record_length, record_with}
use Rattle.qls_blocks.specs.declared.entry.Entry.{Entry}
use Rattle.qls_blocks.specs.Entries.{record_of}
use Rattle.qls_blocks.specs.Batching.{length_of, block_length, filler_count, filler_of, last_rid, with_fillers}

-- ---- one record

most_of : (m n : ℕ) → leb m n ≡ true → m ≤ n
most_of m n h = leb→le m n (subst T (sym h) tt)

xid_within : (kind : Kind) (n : ℕ) → n ≤ most_xid kind → n ≤ 128
xid_within Enqueue n h = h
xid_within Dequeue n h = h
xid_within Commit n h = h
xid_within Abort n h = h
xid_within Filler n h = omega arith

body_within : (kind : Kind) (n : ℕ) → n ≤ most_body kind → n ≤ 1048576
body_within Enqueue n h = h
body_within Dequeue n h = omega arith
body_within Commit n h = omega arith
body_within Abort n h = omega arith
body_within Filler n h = omega arith

-- the sizes of a legal head
pub legal_sizes : (h : Head) → is_legal_head h ≡ true → (h.xid_size ≤ 128) × (h.body_size ≤ 1048576)
legal_sizes h legal =
    let a = and_parts _ _ legal in
    let b = and_parts _ _ a.0 in (
      xid_within h.kind h.xid_size (most_of h.xid_size (most_xid h.kind) b.1),
      body_within h.kind h.body_size (most_of h.body_size (most_body h.kind) a.1),
    )

pub legal_xid : (h : Head) → is_legal_head h ≡ true → h.xid_size ≤ 128
legal_xid h legal = (legal_sizes h legal).0

pub legal_body : (h : Head) → is_legal_head h ≡ true → h.body_size ≤ 1048576
legal_body h legal = (legal_sizes h legal).1

-- the length that the head tells is the record's
pub length_with : (h : Head) (xid body : List ℕ) → length xid ≡ h.xid_size → length body ≡ h.body_size → record_length Two (record_with h xid body) ≡ head_record_length h
length_with h xid body x b = ap padded_length (omega (arith, x, b))

pub entry_length : (e : Entry) → record_length Two (record_of e) ≡ head_record_length e.head
entry_length e = length_with e.head e.xid e.body e.xid_size e.body_size

header_within : (kind : Kind) → header_length Two kind + tail_length kind ≤ 64
header_within Enqueue = lit≤ tt
header_within Dequeue = lit≤ tt
header_within Commit = lit≤ tt
header_within Abort = lit≤ tt
header_within Filler = lit≤ tt

-- no record is longer
pub length_within : (h : Head) → is_legal_head h ≡ true → head_record_length h ≤ 1048832
length_within h legal = let sizes = legal_sizes h legal in let head = header_within h.kind in omega (arith, sizes.0, sizes.1, head)

header_least : (kind : Kind) → 24 ≤ header_length Two kind
header_least Enqueue = lit≤ tt
header_least Dequeue = lit≤ tt
header_least Commit = lit≤ tt
header_least Abort = lit≤ tt
header_least Filler = lit≤ tt

-- nor shorter
pub length_least : (r : Record) → 128 ≤ record_length Two r
length_least r = let h = header_least r.kind in omega (arith, h)

pub length_units : (r : Record) → record_length Two r % 128 ≡ 0
length_units r = omega arith

-- ---- several

pub length_of-append : (rs qs : List Record) → length_of (rs ++ qs) ≡ length_of rs + length_of qs
length_of-append [] qs = omega arith
length_of-append (r ∷ rs) qs = omega (arith, length_of-append rs qs)

pub pushed_length : (es : List Entry) (e : Entry) → length_of (map record_of (es ++ e ∷ [])) ≡ length_of (map record_of es) + head_record_length e.head
pushed_length [] e = omega (arith, entry_length e)
pushed_length (d ∷ es) e = omega (arith, pushed_length es e)

last_of_more : (rid : ℕ) (es : List Entry) (e : Entry) → last_rid rid (map record_of (es ++ e ∷ [])) ≡ e.head.rid
last_of_more rid [] e = refl
last_of_more rid (d ∷ es) e = last_of_more d.head.rid es e

pub pushed_rid : (es : List Entry) (e : Entry) → last_rid 0 (map record_of (es ++ e ∷ [])) ≡ e.head.rid
pushed_rid es e = last_of_more 0 es e

-- while a record is left, its place lies before the end
pub before_end : (es : List Entry) (i p end : ℕ) → i < length es → p + length_of (map record_of (drop i es)) ≤ end → p < end
before_end [] i p end l h = absurd (omega arith)
before_end (e ∷ es) zero p end l h = omega (arith, length_least (record_of e), h)
before_end (e ∷ es) (suc i) p end l h = before_end es i p end (omega arith) h

pub before_filler : (k n p end rid : ℕ) (r : Record) → k < n → p + length_of (replicate (n - k) r) ≤ end → p < end
before_filler k n p end rid r l h = some (n - k) (omega arith) h
  where
    some : (m : ℕ) → 0 < m → p + length_of (replicate m r) ≤ end → p < end
    some zero l h = absurd (omega arith)
    some (suc m) l h = omega (arith, length_least r, h)

pub units_of : (rs : List Record) → length_of rs % 128 ≡ 0
units_of [] = refl
units_of (r ∷ rs) = omega (arith, length_units r, units_of rs)

pub length_of-replicate : (k rid : ℕ) → length_of (replicate k (filler_of rid)) ≡ 128 * k
length_of-replicate zero rid = refl
length_of-replicate (suc k) rid = omega (arith, length_of-replicate k rid)

fill : (n : ℕ) → n % 128 ≡ 0 → n + 128 * ((block_length n - n) / 128) ≡ block_length n
fill n h = omega arith

-- with its fillers a batch ends at a block's end
pub length_of-with_fillers : (rs : List Record) → length_of (with_fillers rs) ≡ block_length (length_of rs)
length_of-with_fillers rs =
    length_of-append rs (replicate (filler_count rs) (filler_of (last_rid 0 rs)))
    ∙ ap (λ k. length_of rs + k) (length_of-replicate (filler_count rs) (last_rid 0 rs))
    ∙ fill (length_of rs) (units_of rs)
