-- The record at the front of some bytes, from as many of them as were read.
use Rattle.std.proofs.Common.{◌≡◌, ◌⊎◌, inl, inr, ℕ, zero, suc, ◌+◌, ◌-◌, ◌<◌, ◌≤◌, List, [], ◌∷◌, ◌++◌, length, take, drop, get_or, Option, Some, None, refl, sym, ap, ap₂, ◌∙◌, subst, arith, length-append, length-drop, append_assoc, replicate, lit≤}
use Rattle.std.specs.Prelude.{IfSome}
use Rattle.std.specs.Option.{option_map}
use Rattle.std.proofs.Math.Seq.{take-append_seam, drop-append_seam}
use Rattle.qls_shape.specs.Lengths.{padding}
use Rattle.qls_shape.specs.declared.Version.TheVariants.{Two}
use Rattle.qls_record.specs.declared.Head.{Head}
use Rattle.qls_record.specs.declared.Kind.{Kind}
use Rattle.qls_record.specs.declared.Kind.TheVariants.{Enqueue, Dequeue, Commit, Abort, Filler}
use Rattle.qls_record.specs.Record.{Record, header_length}
use Rattle.qls_record.specs.Spelling.{record_at, spelling, header, covered, tail}
use Rattle.qls_record.specs.Head.{head_at, head_of, head_record_length}
use Rattle.qls_record.proofs.RoundTrip.{record_at_spells, regrouped}
use Rattle.qls_record.proofs.RecordLength.{length-header, stands_split}
use Rattle.qls_record.proofs.HeadTrip.{no_props, head_length, head_of_record_at, record_fits}
use Rattle.qls_record.proofs.Front.{read_in_all, read_in_front, head_in_front}
use Rattle.qls_site.specs.Content.{Content}
use Rattle.qls_reader.specs.declared.spot.FileSpot.{FileSpot}
use Rattle.qls_reader.specs.declared.spot.Position.{Position}
use Rattle.qls_reader.specs.declared.window.Window.{Window}
use Rattle.qls_reader.specs.Spots.{stream_on, all_length, AreThere}
use Rattle.qls_reader.specs.Places.{place_at}
use Rattle.qls_reader.specs.Windows.{held, IsWindow, IsAhead, IsFilled}
use Rattle.qls_reader.specs.Records.{record_on, record_from}
use Rattle.qls_reader.proofs.Stream.{length-stream, rest_on}
use Rattle.qls_reader.proofs.Places.{none}

-- ---- a record's xid and body

front_part : (n : ℕ) (a b rest xs : List ℕ) → n ≡ length a → xs ≡ a ++ (b ++ rest) → take (length b) (drop n xs) ≡ b
front_part n a b rest xs size e =
    ap₂ (λ k ys. take (length b) (drop k ys)) size e ∙ ap (take (length b)) (drop-append_seam a (b ++ rest)) ∙ take-append_seam b rest

-- what is read has its xid and its body behind the header
pub from_bytes : (s : ℕ) (bytes : List ℕ) (r : Record) → record_at Two s bytes ≡ Some r → record_from bytes (head_of r) ≡ r
from_bytes s bytes r e =
    let spells = record_at_spells Two s bytes r e in
    let h : List ℕ = header Two s r in
    let t : List ℕ = tail Two s r.kind r in
    let pad : List ℕ = replicate (padding (length (covered Two s r ++ t))) 255 in
    let rest : List ℕ = drop (length (spelling Two s r)) bytes in
    let behind : List ℕ = t ++ (pad ++ rest) in
    let split : bytes ≡ h ++ (r.xid ++ (r.props ++ (r.body ++ behind))) = stands_split bytes (spelling Two s r) spells.stands ∙ regrouped h r.xid r.props r.body t pad rest in
    let size : header_length Two r.kind ≡ length h = sym (length-header Two s r.kind r.flagged r.rid r.target r.xid r.props r.body) in
    let no : [] ≡ r.props = no_props r spells.legal in
    let xid : take (length r.xid) (drop (header_length Two r.kind) bytes) ≡ r.xid = front_part (header_length Two r.kind) h r.xid (r.props ++ (r.body ++ behind)) bytes size split in
    let joined : bytes ≡ (h ++ r.xid) ++ (r.body ++ behind) =
    split ∙ ap (λ p. h ++ (r.xid ++ (p ++ (r.body ++ behind)))) (sym no) ∙ sym (append_assoc h r.xid (r.body ++ behind)) in
    let both : header_length Two r.kind + length r.xid ≡ length (h ++ r.xid) = ap (λ k. k + length r.xid) size ∙ sym (length-append h r.xid) in
    let body : take (length r.body) (drop (header_length Two r.kind + length r.xid) bytes) ≡ r.body = front_part (header_length Two r.kind + length r.xid) (h ++ r.xid) r.body behind bytes both joined in
    λ i. record { kind = r.kind; flagged = r.flagged; rid = r.rid; target = r.target; xid = xid i; props = no i; body = body i }

-- ---- how many bytes tell it

take_whole : (n : ℕ) (xs : List ℕ) → length xs ≤ n → take n xs ≡ xs
take_whole zero [] l = refl
take_whole zero (x ∷ xs) l = absurd (omega arith)
take_whole (suc n) [] l = refl
take_whole (suc n) (x ∷ xs) l = ap (λ (ys : List ℕ). x ∷ ys) (take_whole n xs (omega arith))

head_front : (s n : ℕ) (all : List ℕ) → (40 ≤ n) ⊎ (length all ≤ n) → head_at Two s (take n all) ≡ head_at Two s all
head_front s n all (inl le) = head_in_front s n all le
head_front s n all (inr le) = ap (head_at Two s) (take_whole n all le)

no_head : (s : ℕ) (all : List ℕ) → head_at Two s all ≡ None → record_at Two s all ≡ None
no_head s all none = go (record_at Two s all) refl
  where
    go : (o : Option Record) → record_at Two s all ≡ o → record_at Two s all ≡ None
    go None e = e
    go (Some r) e = let h = head_of_record_at s all r e in absurd (cc)

same_record : (s n : ℕ) (all : List ℕ) (h : Head) → head_at Two s all ≡ Some h → head_record_length h ≤ n → record_at Two s (take n all) ≡ record_at Two s all
same_record s n all h is le = go (record_at Two s (take n all)) (record_at Two s all) refl refl
  where
    go : (o o' : Option Record) → record_at Two s (take n all) ≡ o → record_at Two s all ≡ o' → record_at Two s (take n all) ≡ record_at Two s all
    go None None e e' = e ∙ sym e'
    go (Some r) o' e e' = e ∙ sym (read_in_all Two s n all r e)
    go None (Some r) e e' =
        let found = head_of_record_at s all r e' in
        let same : h ≡ head_of r = cc in
        let size = head_length r (record_at_spells Two s all r e').legal in
        let there = read_in_front Two s n all r e' (omega (arith, le, size, ap head_record_length same)) in
        absurd (cc)

-- what is read whole is read of bytes that are the record's, or all that there are
whole_there : (s n : ℕ) (all bytes : List ℕ) (h : Head) (found : Option Head) → head_at Two s all ≡ Some h → bytes ≡ take n all → (head_record_length h ≤ n) ⊎ (length all ≤ n)
    → found ≡ option_map head_of (record_at Two s bytes) → option_map (record_from bytes) found ≡ record_at Two s all
whole_there s n all bytes h found is front enough e = go (record_at Two s bytes) refl ∙ same enough
  where
    same : (head_record_length h ≤ n) ⊎ (length all ≤ n) → record_at Two s bytes ≡ record_at Two s all
    same (inl le) = ap (record_at Two s) front ∙ same_record s n all h is le
    same (inr le) = ap (record_at Two s) (front ∙ take_whole n all le)

    go : (o : Option Record) → record_at Two s bytes ≡ o → option_map (record_from bytes) found ≡ record_at Two s bytes
    go None at = ap (option_map (record_from bytes)) (e ∙ ap (option_map head_of) at) ∙ sym at
    go (Some r) at = ap (option_map (record_from bytes)) (e ∙ ap (option_map head_of) at) ∙ ap Some (from_bytes s bytes r at) ∙ sym at

-- what was read whole has its bytes
pub fits_there : (s : ℕ) (bytes : List ℕ) (found : Option Head) → found ≡ option_map head_of (record_at Two s bytes) → IfSome found (λ h. head_record_length h ≤ length bytes)
fits_there s bytes found e = subst (λ o. IfSome o (λ h. head_record_length h ≤ length bytes)) (sym e) (go (record_at Two s bytes) refl)
  where
    go : (o : Option Record) → record_at Two s bytes ≡ o → IfSome (option_map head_of o) (λ h. head_record_length h ≤ length bytes)
    go None at = tt
    go (Some r) at = record_fits s bytes r at

pub sizes_there : (found : Option Head) (n : ℕ) → IfSome found (λ h. (h.xid_size ≤ 128) × (h.body_size ≤ 1048576)) → IfSome found (λ h. head_record_length h ≤ n)
    → IfSome found (λ h. (h.xid_size ≤ 128) × (h.body_size ≤ 1048576) × (head_record_length h ≤ n))
sizes_there None n limits fits = tt
sizes_there (Some h) n limits fits = (limits.0, limits.1, fits)

header_least : (k : Kind) → 24 ≤ header_length Two k
header_least Enqueue = lit≤ tt
header_least Dequeue = lit≤ tt
header_least Commit = lit≤ tt
header_least Abort = lit≤ tt
header_least Filler = lit≤ tt

-- a record takes a unit at least
pub head_least : (h : Head) → 128 ≤ head_record_length h
head_least h = let l = header_least h.kind in omega arith

-- ---- where the site tells its disk

record_on-first : (c : Content) (files : List FileSpot) (k w s : ℕ) → AreThere files c → k < length files → s ≡ (get_or files k none).serial
    → record_at Two s (drop (all_length (take k files) + w) (stream_on c.now.disk files)) ≡ record_on c.now.disk (drop k files) w
record_on-first c files k w s there l e = ap (record_at Two s) (rest_on k w files c there) ∙ go files k l e
  where
    go : (files : List FileSpot) (k : ℕ) → k < length files → s ≡ (get_or files k none).serial → record_at Two s (drop w (stream_on c.now.disk (drop k files))) ≡ record_on c.now.disk (drop k files) w
    go [] k l e = absurd (omega arith)
    go (f ∷ fs) zero l e = ap (λ n. record_at Two n (drop w (stream_on c.now.disk (f ∷ fs)))) e
    go (f ∷ fs) (suc k) l e = go fs k (omega arith) e

-- what the window holds: the first of all that stands from its place on, and all of it where the files end before
abbrev bytes_from : Content → List FileSpot → Position → List ℕ
bytes_from c files at = drop (place_at files at) (stream_on c.now.disk files)

enough : (c : Content) (files : List FileSpot) (w : Window) (least : ℕ) → AreThere files c → IsWindow files w → IsFilled least files w
    → (least ≤ length (held w)) ⊎ (length (bytes_from c files w.at) ≤ length (held w))
enough c files w least there sound (inl le) = inl le
enough c files w least there sound (inr end) =
    let reach : place_at files w.end ≡ place_at files w.at + length (held w) = sound.reach in
    let all : length (drop (place_at files w.at) (stream_on c.now.disk files)) ≡ length (stream_on c.now.disk files) - place_at files w.at = length-drop (place_at files w.at) (stream_on c.now.disk files) in
    inr (rest_is (place_at files w.at) (place_at files w.end) (length (held w)) (all_length files) _ _ reach end (length-stream files c there) all)
  where
    rest_is : (from to n all size rest : ℕ) → to ≡ from + n → to ≡ all → size ≡ all → rest ≡ size - from → rest ≤ n
    rest_is from to n all size rest reach end is e = omega (arith, reach, end, is, e)

head_told : (c : Content) (files : List FileSpot) (s : ℕ) (w : Window) → AreThere files c → IsWindow files w → IsFilled 40 files w → IsAhead c.now.disk files w
    → head_at Two s (held w) ≡ head_at Two s (bytes_from c files w.at)
head_told c files s w there sound filled ahead =
    ap (head_at Two s) ahead ∙ head_front s (length (held w)) (bytes_from c files w.at) (enough c files w 40 there sound filled)

-- no head stands there
pub no_head_told : (files : List FileSpot) (at : Position) (w : Window) (s : ℕ) (bytes : List ℕ) (a : Option Content) → IfSome a (AreThere files) → w.at ≡ at → at.file < length files
    → s ≡ (get_or files at.file none).serial → IsWindow files w → IsFilled 40 files w → IfSome a (λ c. IsAhead c.now.disk files w) → bytes ≡ held w → None ≡ head_at Two s bytes
    → IfSome a (λ c. None ≡ record_on c.now.disk (drop at.file files) at.within)
no_head_told files at w s bytes None there same l serial sound filled ahead is e = tt
no_head_told files at w s bytes (Some c) there same l serial sound filled ahead is e =
    let none : head_at Two s (bytes_from c files w.at) ≡ None = sym (head_told c files s w there sound filled ahead) ∙ ap (head_at Two s) (sym is) ∙ sym e in
    sym (no_head s (bytes_from c files w.at) none)
    ∙ ap (λ (p : Position). record_at Two s (bytes_from c files p)) same
    ∙ record_on-first c files at.file at.within s there l serial

-- a head stands there, and the record with it or not
pub whole_told : (files : List FileSpot) (at : Position) (w more : Window) (s whole : ℕ) (bytes all : List ℕ) (h : Head) (found : Option Head) (a : Option Content) → IfSome a (AreThere files)
    → w.at ≡ at → more.at ≡ w.at → at.file < length files → s ≡ (get_or files at.file none).serial
    → IsWindow files w → IsFilled 40 files w → IfSome a (λ c. IsAhead c.now.disk files w) → bytes ≡ held w → Some h ≡ head_at Two s bytes
    → whole ≡ head_record_length h → IsWindow files more → IsFilled whole files more → IfSome a (λ c. IsAhead c.now.disk files more) → all ≡ held more → found ≡ option_map head_of (record_at Two s all)
    → IfSome a (λ c. option_map (record_from (held more)) found ≡ record_on c.now.disk (drop at.file files) at.within)
whole_told files at w more s whole bytes all h found None there same on l serial sound filled ahead is e size sound' filled' ahead' is' e' = tt
whole_told files at w more s whole bytes all h found (Some c) there same on l serial sound filled ahead is e size sound' filled' ahead' is' e' =
    let here : head_at Two s (bytes_from c files w.at) ≡ Some h = sym (head_told c files s w there sound filled ahead) ∙ ap (head_at Two s) (sym is) ∙ sym e in
    let there_too : head_at Two s (bytes_from c files more.at) ≡ Some h = ap (λ (p : Position). head_at Two s (bytes_from c files p)) on ∙ here in
    let long : IsFilled (head_record_length h) files more = subst (λ n. IsFilled n files more) size filled' in
    whole_there s (length (held more)) (bytes_from c files more.at) (held more) h found there_too ahead' (enough c files more (head_record_length h) there sound' long)
    (e' ∙ ap (λ (bs : List ℕ). option_map head_of (record_at Two s bs)) is')
    ∙ ap (λ (p : Position). record_at Two s (bytes_from c files p)) (on ∙ same)
    ∙ record_on-first c files at.file at.within s there l serial

-- the bytes behind those that were passed, as a slice
pub slice_from : (k : ℕ) (xs ys : List ℕ) → xs ≡ ys → take (length xs - k) (drop k xs) ≡ drop k ys
slice_from k xs ys e = take_whole (length xs - k) (drop k xs) (omega (arith, length-drop k xs)) ∙ ap (drop k) e
