-- What a batch spells, put together from its parts.
use Rattle.std.proofs.Common.{◌≡◌, ℕ, ◌+◌, List, [], ◌∷◌, ◌++◌, length, refl, sym, ap, ◌∙◌, arith, append_assoc, length-append, ap₂, ◌<◌, ◌-◌, suc, replicate}
use Rattle.qls_shape.specs.declared.Version.TheVariants.{Two}
use Rattle.qls_record.specs.Record.{Record, record_length}
use Rattle.qls_record.specs.Spelling.{spelling}
use Rattle.qls_record.proofs.RecordLength.{length-spelling}
use Rattle.qls_blocks.specs.Batching.{length_of, filler_count, filler_of, last_rid, with_fillers}
use Rattle.qls_blocks.specs.Spelled.{serial_at, spelled_over}

pub spelled_over-append : (capacity : ℕ) (serials : List ℕ) (p q : ℕ) (rs qs : List Record) → q ≡ p + length_of rs
    → spelled_over capacity serials p (rs ++ qs) ≡ spelled_over capacity serials p rs ++ spelled_over capacity serials q qs
spelled_over-append capacity serials p q [] qs e = ap (λ k. spelled_over capacity serials k qs) (omega (arith, e))
spelled_over-append capacity serials p q (r ∷ rs) qs e =
    let text = spelling Two (serial_at capacity serials p) r in
    let after = p + record_length Two r in
    ap (λ t. text ++ t) (spelled_over-append capacity serials after q rs qs (omega (arith, e)))
    ∙ sym (append_assoc text (spelled_over capacity serials after rs) (spelled_over capacity serials q qs))

pub length-spelled_over : (capacity : ℕ) (serials : List ℕ) (p : ℕ) (rs : List Record) → length (spelled_over capacity serials p rs) ≡ length_of rs
length-spelled_over capacity serials p [] = refl
length-spelled_over capacity serials p (r ∷ rs) =
    let text = spelling Two (serial_at capacity serials p) r in
    omega (arith, length-append text (spelled_over capacity serials (p + record_length Two r) rs), length-spelling Two (serial_at capacity serials p) r, length-spelled_over capacity serials (p + record_length Two r) rs)

-- ---- fillers

one_more : (n k : ℕ) (r : Record) → k < n → replicate (n - k) r ≡ r ∷ replicate (n - (k + 1)) r
one_more n k r h = ap (λ m. replicate m r) (less n k h)
  where
    less : (n k : ℕ) → k < n → n - k ≡ suc (n - (k + 1))
    less n k h = omega arith

pub filler_length : (n k p len all : ℕ) (r : Record) → k < n → len ≡ record_length Two r → p + length_of (replicate (n - k) r) ≡ all → p + len + length_of (replicate (n - (k + 1)) r) ≡ all
filler_length n k p len all r h size e = omega (arith, e, size, ap length_of (one_more n k r h))

pub filler_spelled : (capacity n k p len serial : ℕ) (serials old new all : List ℕ) (r : Record) → k < n → len ≡ record_length Two r → serial ≡ serial_at capacity serials p
    → new ≡ old ++ spelling Two serial r → old ++ spelled_over capacity serials p (replicate (n - k) r) ≡ all → new ++ spelled_over capacity serials (p + len) (replicate (n - (k + 1)) r) ≡ all
filler_spelled capacity n k p len serial serials old new all r h size at e done =
    let rest = spelled_over capacity serials (p + record_length Two r) (replicate (n - (k + 1)) r) in
    ap₂ (λ (a : List ℕ) (l : ℕ). a ++ spelled_over capacity serials (p + l) (replicate (n - (k + 1)) r)) (e ∙ ap (λ s. old ++ spelling Two s r) at) size
    ∙ append_assoc old (spelling Two (serial_at capacity serials p) r) rest
    ∙ ap (λ (rs : List Record). old ++ spelled_over capacity serials p rs) (sym (one_more n k r h)) ∙ done

-- the records, and then the fillers
pub joined : (capacity used place k : ℕ) (serials : List ℕ) (rs : List Record) (r : Record) (none front all : List ℕ) → none ≡ []
    → front ≡ none ++ spelled_over capacity serials used rs → all ≡ front ++ spelled_over capacity serials place (replicate k r)
    → place ≡ used + length_of rs → k ≡ filler_count rs → r ≡ filler_of (last_rid 0 rs) → all ≡ spelled_over capacity serials used (with_fillers rs)
joined capacity used place k serials rs r none front all e first second at count filler =
    second
    ∙ ap₂ (λ (a b : List ℕ). a ++ b) (first ∙ ap (λ t. t ++ spelled_over capacity serials used rs) e) (ap₂ (λ n q. spelled_over capacity serials place (replicate n q)) count filler)
    ∙ sym (spelled_over-append capacity serials used place rs (replicate (filler_count rs) (filler_of (last_rid 0 rs))) at)
