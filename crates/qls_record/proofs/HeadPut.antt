-- The header that is put at the front.
use Rattle.std.proofs.Common.{◌≡◌, ℕ, ◌+◌, ◌-◌, ◌^◌, ◌<◌, ◌≤◌, Bool, List, [], ◌∷◌, ◌++◌, length, take, drop, sym, ap, ◌∙◌, arith, lit<, false, append-nil, append_assoc, length-drop, drop-drop}
use Rattle.std.proofs.lemmas.List.{take_rest, drop_all}
use Rattle.std.specs.Int.{w32, from_le_bytes}
use Rattle.qls_shape.specs.declared.layout.Field.{Field}
use Rattle.qls_shape.specs.Tables.{with_numbers}
use Rattle.qls_shape.specs.declared.Version.TheVariants.{Two}
use Rattle.qls_record.specs.declared.Kind.{Kind}
use Rattle.qls_record.specs.declared.Kind.TheVariants.{Enqueue, Dequeue, Commit, Abort, Filler}
use Rattle.qls_record.specs.declared.Head.{Head}
use Rattle.qls_record.specs.declared.tables.TheConstants.{RECORD, RECORD_AND_ONE, RECORD_AND_TWO, TAIL}
use Rattle.qls_record.specs.Record.{header_length, tail_length, is_filler}
use Rattle.qls_record.specs.Spelling.{magic_number, inverted_magic, flags, tail_with}
use Rattle.qls_record.specs.Head.{head_numbers, head_bytes}
use Rattle.qls_record.proofs.HeadRead.{header_numbers, headed, small_flags}
use Rattle.qls_record.proofs.WholeRead.{tail_numbers, tail_fits, tail_joined, tail_long}
use Rattle.qls_record.proofs.Put.{numbers_put}

-- the table of a kind's header
abbrev pub kind_table : Kind → List Field
kind_table Enqueue = RECORD_AND_TWO
kind_table Dequeue = RECORD_AND_TWO
kind_table Commit = RECORD_AND_ONE
kind_table Abort = RECORD_AND_ONE
kind_table Filler = RECORD

put_of : (k : Kind) (b : Bool) (r t x y s : ℕ) (old : List ℕ) → r < 2 ^ 64 → t < 2 ^ 64 → x < 2 ^ 64 → y < 2 ^ 64 → s < 2 ^ 64
    → with_numbers (kind_table k) (magic_number k ∷ 2 ∷ flags b ∷ s ∷ r ∷ head_numbers k (headed k b r t x y)) old ≡ head_bytes Two s (headed k b r t x y) ++ drop (header_length Two k) old
put_of Enqueue b r t x y s old hr ht hx hy hs = numbers_put (header_numbers Two s (headed Enqueue b r t x y)) old (lit< tt, (lit< tt, (small_flags b, (hs, (hr, (hx, (hy, tt)))))))
put_of Dequeue b r t x y s old hr ht hx hy hs = numbers_put (header_numbers Two s (headed Dequeue b r t x y)) old (lit< tt, (lit< tt, (small_flags b, (hs, (hr, (ht, (hx, tt)))))))
put_of Commit b r t x y s old hr ht hx hy hs = numbers_put (header_numbers Two s (headed Commit b r t x y)) old (lit< tt, (lit< tt, (small_flags b, (hs, (hr, (hx, tt))))))
put_of Abort b r t x y s old hr ht hx hy hs = numbers_put (header_numbers Two s (headed Abort b r t x y)) old (lit< tt, (lit< tt, (small_flags b, (hs, (hr, (hx, tt))))))
put_of Filler b r t x y s old hr ht hx hy hs = numbers_put (header_numbers Two s (headed Filler b r t x y)) old (lit< tt, (lit< tt, (small_flags b, (hs, (hr, tt)))))

-- the numbers of a head, put into its kind's table, are its header
pub header_put : (h : Head) (k : Kind) (s m f : ℕ) (T : List Field) (further old new : List ℕ) → h.kind ≡ k → m ≡ magic_number h.kind → f ≡ flags h.flagged → T ≡ kind_table k
    → further ≡ head_numbers k h → h.rid < 2 ^ 64 → h.target < 2 ^ 64 → h.xid_size < 2 ^ 64 → h.body_size < 2 ^ 64 → s < 2 ^ 64
    → new ≡ with_numbers T (m ∷ 2 ∷ f ∷ s ∷ h.rid ∷ further) old → new ≡ head_bytes Two s h ++ drop (header_length Two h.kind) old
header_put h k s m f T further old new kind is_m is_f is_T is_further hr ht hx hy hs e =
    let number : m ≡ magic_number k = is_m ∙ ap magic_number kind in
    let others : further ≡ head_numbers k (headed k h.flagged h.rid h.target h.xid_size h.body_size) =
    is_further ∙ (λ i. head_numbers k (headed (kind i) h.flagged h.rid h.target h.xid_size h.body_size)) in
    e ∙ (λ i. with_numbers (is_T i) (number i ∷ 2 ∷ is_f i ∷ s ∷ h.rid ∷ others i) old)
    ∙ put_of k h.flagged h.rid h.target h.xid_size h.body_size s old hr ht hx hy hs
    ∙ (λ i. head_bytes Two s (headed (sym kind i) h.flagged h.rid h.target h.xid_size h.body_size) ++ drop (header_length Two (sym kind i)) old)

-- the numbers of a tail put behind the first bytes
pub tail_put : (k : Kind) (sum s rid a n : ℕ) (T : List Field) (old part : List ℕ) → is_filler k ≡ false → sum < 2 ^ 32 → s < 2 ^ 64 → rid < 2 ^ 64 → a + tail_length k ≤ length old
    → T ≡ TAIL → n ≡ from_le_bytes w32 (inverted_magic k) → part ≡ with_numbers T (n ∷ sum ∷ s ∷ rid ∷ []) (take (length old - a) (drop a old))
    → take a old ++ (part ++ drop (length old - a) (drop a old)) ≡ take a old ++ tail_with k sum s rid ++ drop (a + tail_length k) old
tail_put k sum s rid a n T old part real hsum hs hrid room is_T is_n e =
    let long = tail_long k real in
    let put = numbers_put (tail_numbers k sum s rid) (drop a old) (tail_fits k sum s rid hsum hs hrid) in
    let same : part ≡ tail_with k sum s rid ++ drop 24 (drop a old) =
    e ∙ (λ i. with_numbers (is_T i) (is_n i ∷ sum ∷ s ∷ rid ∷ []) (take_rest old a i)) ∙ put ∙ ap (λ f. f ++ drop 24 (drop a old)) (sym (tail_joined k sum s rid real)) in
    let none : drop (length old - a) (drop a old) ≡ [] = drop_all (length old - a) (drop a old) (omega (arith, length-drop a old)) in
    (λ i. take a old ++ (same i ++ none i))
    ∙ ap (λ f. take a old ++ f) (append-nil (tail_with k sum s rid ++ drop 24 (drop a old)))
    ∙ ap (λ r. take a old ++ (tail_with k sum s rid ++ r)) (drop-drop 24 a old)
    ∙ ap (λ n. take a old ++ (tail_with k sum s rid ++ drop (a + n) old)) (sym long)
    ∙ sym (append_assoc (take a old) (tail_with k sum s rid) (drop (a + tail_length k) old))
