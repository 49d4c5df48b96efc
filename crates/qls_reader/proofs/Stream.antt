-- The joined data areas, from a place of one of the files on.
use Rattle.std.proofs.Common.{◌≡◌, ℕ, zero, suc, ◌+◌, ◌-◌, ◌<◌, ◌≤◌, Bool, true, false, cond, eqb, List, [], ◌∷◌, ◌++◌, length, take, drop, Option, Some, None, refl, sym, ap, ap₂, ◌∙◌, arith, length-append, length-drop}
use Rattle.qls_shape.specs.declared.Version.TheVariants.{Two}
use Rattle.qls_record.specs.Spelling.{record_at}
use Rattle.qls_site.specs.Disk.{Disk, FileState, file_of, seen_bytes}
use Rattle.qls_site.specs.Content.{Content}
use Rattle.qls_meaning.specs.Journals.{Headed}
use Rattle.qls_meaning.specs.Reading.{holder, stream, record_in, held_record, number_of, place_of, begin_place, first_place}
use Rattle.qls_reader.specs.declared.spot.FileSpot.{FileSpot}
use Rattle.qls_reader.specs.Spots.{data_length, all_length, area_on, stream_on, IsThere, AreThere, HasSize, IsSpotOf, AreSpotsOf, AreSeen, first_spot, begin_of}
use Rattle.qls_reader.specs.Places.{IsWithin, number_at}
use Rattle.qls_reader.specs.Records.{record_on}
use Rattle.qls_reader.proofs.Places.{not_before, before}

-- ---- lengths

area_of : (o : Option FileState) (n : ℕ) → HasSize (4096 + n) o → length (drop 4096 (seen_bytes o)) ≡ n
area_of None n h = absurd h
area_of (Some f) n h = length-drop 4096 (seen_bytes (Some f)) ∙ omega (arith, h)

pub length-area : (s : FileSpot) (c : Content) → IsThere s c → length (area_on c.now.disk s) ≡ data_length s
length-area s c h = area_of (file_of s.id c.now.disk) (data_length s) h

pub length-stream : (ss : List FileSpot) (c : Content) → AreThere ss c → length (stream_on c.now.disk ss) ≡ all_length ss
length-stream [] c h = refl
length-stream (s ∷ ss) c h = omega (arith, length-append (area_on c.now.disk s) (stream_on c.now.disk ss), length-area s c h.0, length-stream ss c h.1)

-- ---- with headers

pub seen_spots : (d : Disk) (ss : List FileSpot) (fs : List Headed) → AreSeen d ss fs → AreSpotsOf ss fs
seen_spots d [] [] h = tt
seen_spots d [] (f ∷ fs) h = absurd h
seen_spots d (s ∷ ss) [] h = absurd h
seen_spots d (s ∷ ss) (f ∷ fs) h = (h.0, seen_spots d ss fs h.2)

pub seen_stream : (d : Disk) (ss : List FileSpot) (fs : List Headed) → AreSeen d ss fs → stream fs ≡ stream_on d ss
seen_stream d [] [] h = refl
seen_stream d [] (f ∷ fs) h = absurd h
seen_stream d (s ∷ ss) [] h = absurd h
seen_stream d (s ∷ ss) (f ∷ fs) h = ap₂ (λ (a b : List ℕ). a ++ b) h.1 (seen_stream d ss fs h.2)

pub seen_rest : (d : Disk) (k : ℕ) (ss : List FileSpot) (fs : List Headed) → AreSeen d ss fs → AreSeen d (drop k ss) (drop k fs)
seen_rest d zero ss fs h = h
seen_rest d (suc k) [] [] h = tt
seen_rest d (suc k) [] (f ∷ fs) h = absurd h
seen_rest d (suc k) (s ∷ ss) [] h = absurd h
seen_rest d (suc k) (s ∷ ss) (f ∷ fs) h = seen_rest d k ss fs h.2

pub spots_rest : (k : ℕ) (ss : List FileSpot) (fs : List Headed) → AreSpotsOf ss fs → AreSpotsOf (drop k ss) (drop k fs)
spots_rest zero ss fs h = h
spots_rest (suc k) [] [] h = tt
spots_rest (suc k) [] (f ∷ fs) h = absurd h
spots_rest (suc k) (s ∷ ss) [] h = absurd h
spots_rest (suc k) (s ∷ ss) (f ∷ fs) h = spots_rest k ss fs h.1

past : (a b : List ℕ) (p : ℕ) → length a ≤ p → drop p (a ++ b) ≡ drop (p - length a) b
past [] b p l = ap (λ n. drop n b) (omega arith)
past (x ∷ a) b zero l = absurd (omega arith)
past (x ∷ a) b (suc p) l = past a b p (omega arith) ∙ ap (λ n. drop n b) (omega arith)

nothing : (n : ℕ) → drop n (stream []) ≡ []
nothing zero = refl
nothing (suc n) = refl

-- a place of all the files, and of those behind some
pub rest_on : (k w : ℕ) (ss : List FileSpot) (c : Content) → AreThere ss c → drop (all_length (take k ss) + w) (stream_on c.now.disk ss) ≡ drop w (stream_on c.now.disk (drop k ss))
rest_on zero w ss c h = ap (λ p. drop p (stream_on c.now.disk ss)) (omega arith)
rest_on (suc k) w [] c h = nothing (all_length (take (suc k) []) + w) ∙ sym (nothing w)
rest_on (suc k) w (s ∷ ss) c h =
    let size = length-area s c h.0 in
    past (area_on c.now.disk s) (stream_on c.now.disk ss) (data_length s + all_length (take k ss) + w) (omega (arith, size))
    ∙ ap (λ p. drop p (stream_on c.now.disk ss)) (omega (arith, size)) ∙ rest_on k w ss c h.1

-- ---- the file that holds a place

behind : (f : Headed) (fs : List Headed) (p : ℕ) → length f.area ≤ p → holder (f ∷ fs) p ≡ holder fs (p - length f.area)
behind f fs p h = ap (λ b. cond b (Some (record { file = f; within = p })) (holder fs (p - length f.area))) (not_before p (length f.area) h)

inside : (f : Headed) (fs : List Headed) (p : ℕ) → p < length f.area → holder (f ∷ fs) p ≡ Some (record { file = f; within = p })
inside f fs p h = ap (λ b. cond b (Some (record { file = f; within = p })) (holder fs (p - length f.area))) (before p (length f.area) h)

pub holder_rest : (k w : ℕ) (ss : List FileSpot) (fs : List Headed) → AreSpotsOf ss fs → holder fs (all_length (take k ss) + w) ≡ holder (drop k fs) w
holder_rest zero w ss fs h = ap (holder fs) (omega arith)
holder_rest (suc k) w [] [] h = refl
holder_rest (suc k) w [] (f ∷ fs) h = absurd h
holder_rest (suc k) w (s ∷ ss) [] h = absurd h
holder_rest (suc k) w (s ∷ ss) (f ∷ fs) h =
    let size = h.0.size in
    behind f fs (data_length s + all_length (take k ss) + w) (omega (arith, size))
    ∙ ap (holder fs) (omega (arith, size)) ∙ holder_rest k w ss fs h.1

pub stream_rest : (k w : ℕ) (ss : List FileSpot) (fs : List Headed) → AreSpotsOf ss fs → drop (all_length (take k ss) + w) (stream fs) ≡ drop w (stream (drop k fs))
stream_rest zero w ss fs h = ap (λ p. drop p (stream fs)) (omega arith)
stream_rest (suc k) w [] [] h = nothing (all_length (take (suc k) []) + w) ∙ sym (nothing w)
stream_rest (suc k) w [] (f ∷ fs) h = absurd h
stream_rest (suc k) w (s ∷ ss) [] h = absurd h
stream_rest (suc k) w (s ∷ ss) (f ∷ fs) h =
    let size = h.0.size in
    past f.area (stream fs) (data_length s + all_length (take k ss) + w) (omega (arith, size))
    ∙ ap (λ p. drop p (stream fs)) (omega (arith, size)) ∙ stream_rest k w ss fs h.1

holder_first : (w : ℕ) (s : FileSpot) (f : Headed) (fs : List Headed) → IsSpotOf s f → w < data_length s → holder (f ∷ fs) w ≡ Some (record { file = f; within = w })
holder_first w s f fs h l = inside f fs w (omega (arith, h.size, l))

pub number_there : (w : ℕ) (ss : List FileSpot) (fs : List Headed) → AreSpotsOf ss fs → IsWithin w ss → number_at ss ≡ number_of (holder fs w)
number_there w [] [] h l = refl
number_there w [] (f ∷ fs) h l = absurd h
number_there w (s ∷ ss) [] h l = absurd h
number_there w (s ∷ ss) (f ∷ fs) h l = sym h.0.number ∙ sym (ap number_of (holder_first w s f fs h.0 l))

-- a record is there, so a file is
pub place_there : (w n : ℕ) (ss : List FileSpot) (fs : List Headed) → AreSpotsOf ss fs → IsWithin w ss → 0 < n → w + n ≤ all_length ss → 4096 + w ≡ place_of (holder fs w)
place_there w n [] [] h l some fits = absurd (omega (arith, fits, some))
place_there w n [] (f ∷ fs) h l some fits = absurd h
place_there w n (s ∷ ss) [] h l some fits = absurd h
place_there w n (s ∷ ss) (f ∷ fs) h l some fits = sym (ap place_of (holder_first w s f fs h.0 l))

-- ---- the record at a place

record_first : (d : Disk) (w : ℕ) (ss : List FileSpot) (fs : List Headed) → AreSeen d ss fs → IsWithin w ss → held_record (drop w (stream fs)) (holder fs w) ≡ record_on d ss w
record_first d w [] [] h l = refl
record_first d w [] (f ∷ fs) h l = absurd h
record_first d w (s ∷ ss) [] h l = absurd h
record_first d w (s ∷ ss) (f ∷ fs) h l =
    ap (held_record (drop w (stream (f ∷ fs)))) (holder_first w s f fs h.0 l)
    ∙ ap₂ (λ (n : ℕ) (t : List ℕ). record_at Two n (drop w t)) h.0.serial (seen_stream d (s ∷ ss) (f ∷ fs) h)

pub record_there : (d : Disk) (k w : ℕ) (ss : List FileSpot) (fs : List Headed) → AreSeen d ss fs → IsWithin w (drop k ss)
    → record_in fs (all_length (take k ss) + w) ≡ record_on d (drop k ss) w
record_there d k w ss fs h l =
    let spots = seen_spots d ss fs h in
    ap₂ held_record (stream_rest k w ss fs spots) (holder_rest k w ss fs spots)
    ∙ record_first d w (drop k ss) (drop k fs) (seen_rest d k ss fs h) l

-- ---- where a reading begins

first_there : (ss : List FileSpot) (fs : List Headed) → AreSpotsOf ss fs → first_spot ss ≡ first_place fs
first_there [] [] h = refl
first_there [] (f ∷ fs) h = absurd h
first_there (s ∷ ss) [] h = absurd h
first_there (s ∷ ss) (f ∷ fs) h =
    let first = sym h.0.first in
    let size = sym h.0.size in
    let rest = first_there ss fs h.1 in
    λ i. cond (eqb (first i) 0) (size i + rest i) (first i - 4096)

pub begin_there : (oldest : Bool) (ss : List FileSpot) (fs : List Headed) → AreSpotsOf ss fs → begin_of oldest ss ≡ begin_place oldest fs
begin_there true ss fs h = first_there ss fs h
begin_there false ss fs h = refl
