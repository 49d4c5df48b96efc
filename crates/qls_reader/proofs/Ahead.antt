-- Bytes that are read ahead.
use Rattle.std.proofs.Common.{◌≡◌, inr, ℕ, zero, suc, ◌+◌, ◌-◌, ◌<◌, ◌≤◌, List, [], ◌∷◌, ◌++◌, length, take, drop, min, get_or, Option, Some, None, Result, Ok, Err, refl, sym, ap, ap₂, ◌∙◌, subst, arith, length-append, length-take, length-drop, append-nil}
use Rattle.std.specs.Prelude.{IfSome, IfOk}
use Rattle.std.proofs.Math.Seq.{take-append_seam}
use Rattle.std.proofs.lemmas.List.{drop-drop}
use Rattle.qls_site.specs.declared.site.SiteError.{SiteError}
use Rattle.qls_site.specs.Disk.{Disk, file_of}
use Rattle.qls_site.specs.Content.{Content, Tells, IsRead}
use Rattle.std.specs.List.{AllByRecursion}
use Rattle.qls_reader.specs.declared.spot.FileSpot.{FileSpot}
use Rattle.qls_reader.specs.declared.spot.Position.{Position}
use Rattle.qls_reader.specs.declared.window.Window.{Window}
use Rattle.qls_reader.specs.Spots.{data_length, all_length, area_on, stream_on, IsThere, AreThere, HasSize}
use Rattle.qls_reader.specs.Places.{IsWithin, IsPlaced, place_at}
use Rattle.qls_reader.specs.Windows.{AreAhead, held, IsWindow, IsAhead, IsFilled, windows, windows_from, ReadsOnce}
use Rattle.qls_reader.specs.Reads.{OnlyReads}
use Rattle.qls_reader.proofs.Places.{none, all_of, at_most_all}
use Rattle.qls_reader.proofs.Stream.{length-area, rest_on}
use Rattle.qls_reader.proofs.Told.{still, before, bytes_read}

-- ---- lists

first_in : (n : ℕ) (a b : List ℕ) → n ≤ length a → take n (a ++ b) ≡ take n a
first_in zero a b l = refl
first_in (suc n) [] b l = absurd (omega arith)
first_in (suc n) (x ∷ a) b l = ap (λ (ys : List ℕ). x ∷ ys) (first_in n a b (omega arith))

drop_in : (p : ℕ) (a b : List ℕ) → p ≤ length a → drop p (a ++ b) ≡ drop p a ++ b
drop_in zero a b l = refl
drop_in (suc p) [] b l = absurd (omega arith)
drop_in (suc p) (x ∷ a) b l = drop_in p a b (omega arith)

take_none : (k : ℕ) → take {A = ℕ} k [] ≡ []
take_none zero = refl
take_none (suc k) = refl

take_more : (m n : ℕ) (xs : List ℕ) → take (m + n) xs ≡ take m xs ++ take n (drop m xs)
take_more zero n xs = ap (λ k. take k xs) (omega arith)
take_more (suc m) n [] = take_none (suc m + n) ∙ sym (take_none n)
take_more (suc m) n (x ∷ xs) = ap (λ k. take k (x ∷ xs)) (more m n) ∙ ap (λ (ys : List ℕ). x ∷ ys) (take_more m n xs)
  where
    more : (m n : ℕ) → suc m + n ≡ suc (m + n)
    more m n = omega arith

drop_taken : (k n : ℕ) (xs : List ℕ) → drop k (take n xs) ≡ take (n - k) (drop k xs)
drop_taken zero n xs = ap (λ j. take j xs) (omega arith)
drop_taken (suc k) zero xs = ap (λ j. take j (drop (suc k) xs)) (less k)
  where
    less : (k : ℕ) → 0 ≡ 0 - suc k
    less k = omega arith
drop_taken (suc k) (suc n) [] = sym (take_none (suc n - suc k))
drop_taken (suc k) (suc n) (x ∷ xs) = drop_taken k n xs ∙ ap (λ j. take j (drop k xs)) (same n k)
  where
    same : (n k : ℕ) → n - k ≡ suc n - suc k
    same n k = omega arith

-- what a buffer holds of which the part behind the old bytes was written
pub buffer_is : (len from k : ℕ) (now items old into : List ℕ) → take from now ≡ old → length now ≤ from + k → len ≡ length old + length into
    → take len ((take from now ++ (into ++ drop k (drop from now))) ++ drop (length (take from now ++ (into ++ drop k (drop from now)))) items) ≡ old ++ into
buffer_is len from k now items old into front all size =
    let none_behind : drop k (drop from now) ≡ [] = nothing k (drop from now) (omega (arith, all, length-drop from now)) in
    let whole : take from now ++ (into ++ drop k (drop from now)) ≡ old ++ into =
    ap₂ (λ (a b : List ℕ). a ++ (into ++ b)) front none_behind ∙ ap (λ (a : List ℕ). old ++ a) (append-nil into) in
    ap (λ (xs : List ℕ). take len (xs ++ drop (length xs) items)) whole
    ∙ ap (λ n. take n ((old ++ into) ++ drop (length (old ++ into)) items)) (size ∙ sym (length-append old into))
    ∙ take-append_seam (old ++ into) (drop (length (old ++ into)) items)
  where
    nothing : (n : ℕ) (xs : List ℕ) → length xs ≤ n → drop n xs ≡ []
    nothing zero [] l = refl
    nothing zero (x ∷ xs) l = absurd (omega arith)
    nothing (suc n) [] l = refl
    nothing (suc n) (x ∷ xs) l = nothing n xs (omega arith)

-- the bytes of a read that may have failed
pub if_read : (r : Result (Unit {0}) SiteError) (a : Option Content) (s : FileSpot) (within n count : ℕ) (into old new : List ℕ) → IsRead a s.id (4096 + within) n into r → n ≡ count → new ≡ old ++ into
    → IfOk r (λ _. IfSome a (λ c. new ≡ old ++ take count (drop within (area_on c.now.disk s))))
if_read (Ok x) a s within n count into old new read size is = bytes_read a s within n count x into old new read size is
if_read (Err e) a s within n count into old new read size is = tt

-- ---- the files

there_one : (files : List FileSpot) (i : ℕ) (c : Content) → AreThere files c → i < length files → IsThere (get_or files i none) c
there_one [] i c h l = absurd (omega arith)
there_one (s ∷ ss) zero c h l = h.0
there_one (s ∷ ss) (suc i) c h l = there_one ss i c h.1 (omega arith)

pub file_there : (files : List FileSpot) (i : ℕ) (a : Option Content) → i < length files → IfSome a (AreThere files) → IfSome a (IsThere (get_or files i none))
file_there files i None l h = tt
file_there files i (Some c) l h = there_one files i c h l

pub there_still : (files : List FileSpot) (a b : Option Content) → Tells OnlyReads a b → IfSome a (AreThere files) → IfSome b (AreThere files)
there_still files a b t h = still (λ d. AllByRecursion (λ s. HasSize (4096 + data_length s) (file_of s.id d)) files) a b t h

-- the bytes of a file from a place on are those of the files' joined data areas there
bytes_on : (files : List FileSpot) (k w n : ℕ) (c : Content) → AreThere files c → k < length files → w + n ≤ data_length (get_or files k none)
    → take n (drop (all_length (take k files) + w) (stream_on c.now.disk files)) ≡ take n (drop w (area_on c.now.disk (get_or files k none)))
bytes_on files k w n c there l room = ap (take n) (rest_on k w files c there) ∙ go files k there l room
  where
    go : (files : List FileSpot) (k : ℕ) → AreThere files c → k < length files → w + n ≤ data_length (get_or files k none)
        → take n (drop w (stream_on c.now.disk (drop k files))) ≡ take n (drop w (area_on c.now.disk (get_or files k none)))
    go [] k there l room = absurd (omega arith)
    go (s ∷ ss) zero there l room =
        let size = length-area s c there.0 in
        ap (take n) (drop_in w (area_on c.now.disk s) (stream_on c.now.disk ss) (omega (arith, size, room)))
        ∙ first_in n (drop w (area_on c.now.disk s)) (stream_on c.now.disk ss) (omega (arith, size, room, length-drop w (area_on c.now.disk s)))
    go (s ∷ ss) (suc k) there l room = go ss k there.1 (omega arith) room

-- ---- one window more

room_in : (files : List FileSpot) (k w part size : ℕ) → k < length files → IsWithin w (drop k files) → size ≡ data_length (get_or files k none) → part ≡ min (size - w) 65536
    → w + part ≤ data_length (get_or files k none)
room_in [] k w part size l h e is = absurd (omega arith)
room_in (s ∷ ss) zero w part size l h e is = grind (arith, h, e, is)
room_in (s ∷ ss) (suc k) w part size l h e is = room_in ss k w part size (omega arith) h e is

ahead_more : (files : List FileSpot) (end : Position) (place part : ℕ) (before after : List ℕ) (c : Content) → AreThere files c → end.file < length files
    → end.within + part ≤ data_length (get_or files end.file none) → place_at files end ≡ place + length before
    → after ≡ before ++ take part (drop end.within (area_on c.now.disk (get_or files end.file none))) → AreAhead c.now.disk files place before → AreAhead c.now.disk files place after
ahead_more files end place part before after c there l room reach is ahead =
    let all : List ℕ = stream_on c.now.disk files in
    let more : List ℕ = take part (drop end.within (area_on c.now.disk (get_or files end.file none))) in
    let count : length more ≡ part =
    length-take part (drop end.within (area_on c.now.disk (get_or files end.file none)))
    ∙ grind (arith, room, length-drop end.within (area_on c.now.disk (get_or files end.file none)), length-area (get_or files end.file none) c (there_one files end.file c there l)) in
    let here : drop (length before) (drop place all) ≡ drop (place_at files end) all = drop-drop (length before) place all ∙ ap (λ p. drop p all) (sym reach) in
    let bytes : take part (drop (length before) (drop place all)) ≡ more = ap (take part) here ∙ bytes_on files end.file end.within part c there l room in
    let joined : after ≡ take (length before + part) (drop place all) =
    is ∙ ap₂ (λ (a b : List ℕ). a ++ b) ahead (sym bytes) ∙ sym (take_more (length before) part (drop place all)) in
    let size : length after ≡ length before + part = ap length is ∙ length-append before more ∙ ap (λ n. length before + n) count in
    joined ∙ ap (λ n. take n (drop place all)) (sym size)

pub window_more : (files : List FileSpot) (at old_at end : Position) (passed part size : ℕ) (before old items : List ℕ) (a : Option Content) → IfSome a (AreThere files) → end.file < length files
    → IsPlaced files end → size ≡ data_length (get_or files end.file none) → part ≡ min (size - end.within) 65536
    → at ≡ old_at → passed ≡ 0 → drop passed old ≡ before → place_at files end ≡ place_at files old_at + length before
    → IfSome a (λ c. items ≡ old ++ take part (drop end.within (area_on c.now.disk (get_or files end.file none))))
    → IfSome a (λ c. AreAhead c.now.disk files (place_at files old_at) before) → IfSome a (λ c. AreAhead c.now.disk files (place_at files at) (drop passed items))
window_more files at old_at end passed part size known old items None there l placed e is same zero_passed is_held reach read ahead = tt
window_more files at old_at end passed part size known old items (Some c) there l placed e is same zero_passed is_held reach read ahead =
    let room = room_in files end.file end.within part size l placed.within e is in
    let old_is : old ≡ known = sym (ap (λ n. drop n old) zero_passed) ∙ is_held in
    let read_is : items ≡ known ++ take part (drop end.within (area_on c.now.disk (get_or files end.file none))) =
    read ∙ ap (λ (bs : List ℕ). bs ++ take part (drop end.within (area_on c.now.disk (get_or files end.file none)))) old_is in
    let now : AreAhead c.now.disk files (place_at files old_at) items = ahead_more files end (place_at files old_at) part known items c there l room reach read_is ahead in
    let whole : items ≡ drop passed items = sym (ap (λ n. drop n items) zero_passed) in
    subst (λ (bs : List ℕ). AreAhead c.now.disk files (place_at files at) bs) whole (subst (λ (p : Position). AreAhead c.now.disk files (place_at files p) items) (sym same) now)

-- at the end of the files all is held
pub filled_to_end : (least : ℕ) (files : List FileSpot) (w : Window) → IsWindow files w → length files ≤ w.end.file → IsFilled least files w
filled_to_end least files w sound l = inr (all_of files w.end.file w.end.within l sound.end.within)

reach_at_most : (files : List FileSpot) (w : Window) → IsWindow files w → place_at files w.end ≤ all_length files
reach_at_most files w sound = at_most_all files w.end.file w.end.within sound.end.file sound.end.within

-- what is held lies in the files
split_length : (files : List FileSpot) (k : ℕ) → all_length files ≡ all_length (take k files) + all_length (drop k files)
split_length [] zero = refl
split_length [] (suc k) = refl
split_length (s ∷ ss) zero = omega arith
split_length (s ∷ ss) (suc k) = omega (arith, split_length ss k)

pub room_behind : (files : List FileSpot) (w : Window) (n : ℕ) → IsWindow files w → n ≤ length (held w) → w.at.within + n ≤ all_length (drop w.at.file files)
room_behind files w n sound l =
    let reach : place_at files w.end ≡ place_at files w.at + length (held w) = sound.reach in
    omega (arith, l, reach, reach_at_most files w sound, split_length files w.at.file)

-- each window comes nearer to the end
pub nearer : (files : List FileSpot) (old new : Window) → IsWindow files new → place_at files old.end < place_at files new.end
    → all_length files - place_at files new.end < all_length files - place_at files old.end
nearer files old new sound l = omega (arith, l, reach_at_most files new sound)

-- ---- each byte once

one_window_less : (m part : ℕ) → 0 < m → part ≡ min m 65536 → windows (m - part) + 1 ≤ windows m
one_window_less m part some is = grind (arith, is)

-- a window fewer is left
fewer : (files : List FileSpot) (k w part size : ℕ) → k < length files → IsWithin w (drop k files) → size ≡ data_length (get_or files k none) → part ≡ min (size - w) 65536
    → windows_from (all_length (take k files) + w + part) files + 1 ≤ windows_from (all_length (take k files) + w) files
fewer [] k w part size l h e is = absurd (omega arith)
fewer (s ∷ ss) zero w part size l h e is =
    let room = room_in (s ∷ ss) zero w part size l h e is in
    let behind : windows_from (0 + w + part - data_length s) ss ≡ windows_from (0 + w - data_length s) ss = ap (λ n. windows_from n ss) (omega (arith, room, h)) in
    let first : windows (data_length s - (0 + w + part)) ≡ windows (data_length s - w - part) = ap windows (omega arith) in
    let before : windows (data_length s - w) ≡ windows (data_length s - (0 + w)) = ap windows (omega arith) in
    let less = one_window_less (data_length s - w) part (omega (arith, h)) (is ∙ ap (λ n. min (n - w) 65536) e) in
    sums_of _ _ _ _ _ _ first before behind less
  where
    sums_of : (a b c d x y : ℕ) → a ≡ b → c ≡ d → x ≡ y → b + 1 ≤ c → a + x + 1 ≤ d + y
    sums_of a b c d x y e f g l = omega (arith, e, f, g, l)
fewer (s ∷ ss) (suc k) w part size l h e is =
    let rest = fewer ss k w part size (omega arith) h e is in
    let new : windows_from (data_length s + all_length (take k ss) + w + part - data_length s) ss ≡ windows_from (all_length (take k ss) + w + part) ss = ap (λ n. windows_from n ss) (omega arith) in
    let old : windows_from (data_length s + all_length (take k ss) + w - data_length s) ss ≡ windows_from (all_length (take k ss) + w) ss = ap (λ n. windows_from n ss) (omega arith) in
    let none_left : windows (data_length s - (data_length s + all_length (take k ss) + w + part)) ≡ windows (data_length s - (data_length s + all_length (take k ss) + w)) = ap windows (omega arith) in
    sums_on _ _ _ _ _ _ none_left new old rest
  where
    sums_on : (a b x y u v : ℕ) → a ≡ b → x ≡ u → y ≡ v → u + 1 ≤ v → a + x + 1 ≤ b + y
    sums_on a b x y u v e f g l = omega (arith, e, f, g, l)

pub once_more : (files : List FileSpot) (old new : Window) (part size before now : ℕ) → old.end.file < length files → IsPlaced files old.end → size ≡ data_length (get_or files old.end.file none)
    → part ≡ min (size - old.end.within) 65536 → place_at files new.end ≡ place_at files old.end + part → now ≤ before + 1 → ReadsOnce files old new before now
once_more files old new part size before now l placed e is further count =
    let less = fewer files old.end.file old.end.within part size l placed.within e is in
    let place : windows_from (place_at files new.end) files ≡ windows_from (place_at files old.end + part) files = ap (λ n. windows_from n files) further in
    sums _ _ _ less place count
  where
    sums : (x y z : ℕ) → y + 1 ≤ z → x ≡ y → now ≤ before + 1 → now + x ≤ before + z
    sums x y z l e c = omega (arith, l, e, c)

pub once_then : (files : List FileSpot) (a b c : Window) (i j k : ℕ) → ReadsOnce files a b i j → ReadsOnce files b c j k → ReadsOnce files a c i k
once_then files a b c i j k x y = omega (arith, x, y)

-- ---- over reads

pub ahead_still : (files : List FileSpot) (w : Window) (a b : Option Content) → Tells OnlyReads a b → IfSome a (λ c. IsAhead c.now.disk files w) → IfSome b (λ c. IsAhead c.now.disk files w)
ahead_still files w a b t h = still (λ d. IsAhead d files w) a b t h

pub ahead_before : (files : List FileSpot) (w : Window) (a b : Option Content) → Tells OnlyReads a b → IfSome b (λ c. IsAhead c.now.disk files w) → IfSome a (λ c. IsAhead c.now.disk files w)
ahead_before files w a b t h = before (λ d. IsAhead d files w) a b t h

-- some bytes are passed
pub ahead_on : (d : Disk) (files : List FileSpot) (place k : ℕ) (bytes : List ℕ) → k ≤ length bytes → AreAhead d files place bytes → AreAhead d files (place + k) (drop k bytes)
ahead_on d files place k bytes l h =
    let all : List ℕ = stream_on d files in
    ap (drop k) h ∙ drop_taken k (length bytes) (drop place all)
    ∙ ap₂ (λ (n : ℕ) (xs : List ℕ). take n xs) (sym (length-drop k bytes)) (drop-drop k place all)
