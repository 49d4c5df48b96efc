-- Files that are clean from an offset on, and what each call leaves of them.
use Rattle.std.proofs.Common.{◌≡◌, ℕ, ◌+◌, ◌-◌, ◌*◌, ◌≤◌, Bool, true, false, not, cond, ◌&&◌, ◌||◌, ◌==◌, ltb, nat_lt, nat_le, List, [], ◌∷◌, ◌++◌, map, length, take, drop, replicate, Option, Some, None, option_map, refl, sym, ap, ◌∙◌, subst, arith, take-take, drop-drop, length-append, length-take, length-drop}
use Rattle.std.proofs.lemmas.Bool.Decides.{nat_tests}
use Rattle.std.proofs.lemmas.Bool.{and_parts}
use Rattle.std.proofs.lemmas.List.{drop-take}
use Rattle.std.proofs.lemmas.List.Folds.{list_any-append}
use Rattle.std.proofs.lemmas.Slice.{drop-append-drop}
use Rattle.std.specs.List.{list_any, filter, AllByRecursion}
use Rattle.std.specs.Int.{w64, from_le_bytes}
use Rattle.qls_shape.specs.Fields.{number_at}
use Rattle.qls_site.specs.declared.site.Place.{Place}
use Rattle.qls_site.specs.declared.site.Place.TheVariants.{Empty}
use Rattle.qls_site.specs.declared.site.ImageFile.{ImageFile}
use Rattle.qls_site.specs.Disk.{Disk, FileState, Write, written, all_written, size_of, full, full_file, bare_file, file_of, changed, change_file, with_file, write_at, sync_at, relocate_at, create_at}
use Rattle.qls_site.specs.Content.{Moment, InFile}
use Rattle.qls_site.proofs.DiskLaws.{length-written, front-all_written}
use Rattle.qls_site.proofs.Told.{KeepsId, file_of-change_file}
use Rattle.qls_meaning.specs.Journals.{Headed, headed, in_use, is_in_use}
use Rattle.qls_meaning.specs.History.{FreeArea, IsUnmarked, IsCleanIn, CleanFile, IsClean, is_taken_before, is_free, is_pending, covers, uses, newly_used}
use Rattle.qls_meaning.specs.Kept.{NothingPending}
use Rattle.qls_laws.specs.Areas.{IsUnmarkedFrom, HasSameFiles, with_free_from}

-- ---- numbers in bytes

pub number_past : (p n : ℕ) (bytes : List ℕ) → number_at w64 n (drop p bytes) ≡ number_at w64 (p + n) bytes
number_past p n bytes = ap (λ (b : List ℕ). from_le_bytes w64 (take 8 b)) (drop-drop n p bytes)

pub number_front : (at more : ℕ) (bytes : List ℕ) → 8 ≤ more → number_at w64 at (take (at + more) bytes) ≡ number_at w64 at bytes
number_front at more bytes h = ap (λ (b : List ℕ). from_le_bytes w64 (take 8 b)) (drop-take at more bytes) ∙ ap (from_le_bytes w64) (take-take 8 more (drop at bytes) h)

-- the serial in a header of 4,096 bytes, or of as many as there are
serial_is : (bytes : List ℕ) → number_at w64 8 (take 4096 bytes) ≡ number_at w64 8 bytes
serial_is bytes = number_front 8 4088 bytes (omega arith)

-- ---- a file that came into use

unmarked_area : (i : ImageFile) → IsUnmarked (headed i) → IsUnmarkedFrom (number_at w64 8 i.bytes) 4096 i.bytes
unmarked_area i h unit from fits e =
    let u : ℕ = unit - 32 in
    let there : 4096 + (128 * u + 8) ≡ 128 * unit + 8 = omega arith in
    h u (omega (arith, length-drop 4096 i.bytes))
    (number_past 4096 (128 * u + 8) i.bytes ∙ ap (λ k. number_at w64 k i.bytes) there ∙ e ∙ sym (serial_is i.bytes))

none_pending : (f : FileState) → f.pending ≡ [] → (k : ℕ) → is_pending k (Some f) ≡ false
none_pending f e k = ap (list_any (covers k)) e

pub clean_bare : (f : FileState) → f.pending ≡ [] → IsUnmarked (headed (bare_file f)) → IsCleanIn 4096 f (number_at w64 8 f.stable)
clean_bare f e h = record { quiet = λ k l. none_pending f e k; unmarked = unmarked_area (bare_file f) h }

pub clean_full : (f : FileState) → f.pending ≡ [] → IsUnmarked (headed (full_file f)) → IsCleanIn 4096 f (number_at w64 8 f.stable)
clean_full f e h =
    clean_bare f e (subst (λ (bytes : List ℕ). IsUnmarked (headed (record { id = f.id; place = f.place; bytes = bytes }))) (ap (λ (ps : List Write). all_written ps f.stable) e) h)

pub clean_there : (id : ℕ) (d : Disk) (f : FileState) → file_of id d ≡ Some f → f.pending ≡ [] → IsUnmarked (headed (full_file f)) → CleanFile 4096 (file_of id d)
clean_there id d f is e h = subst (CleanFile 4096) (sym is) (clean_full f e h)

-- and what is clean is unmarked in the data area
area_unmarked : (p : ℕ) (bytes : List ℕ) → IsUnmarkedFrom (number_at w64 8 bytes) (4096 + p) bytes → IsUnmarkedFrom (number_at w64 8 (take 4096 bytes)) p (drop 4096 bytes)
area_unmarked p bytes h unit from fits e =
    let there : 4096 + (128 * unit + 8) ≡ 128 * (32 + unit) + 8 = omega arith in
    h (32 + unit) (omega (arith, from)) (omega (arith, fits, length-drop 4096 bytes))
    (ap (λ k. number_at w64 k bytes) (sym there) ∙ sym (number_past 4096 (128 * unit + 8) bytes) ∙ e ∙ serial_is bytes)

pub clean_area : (p : ℕ) (f : FileState) → f.pending ≡ [] → IsCleanIn (4096 + p) f (number_at w64 8 f.stable) → IsUnmarkedFrom (headed (full_file f)).header.serial p (headed (full_file f)).area
clean_area p f e h =
    subst (λ (bytes : List ℕ). IsUnmarkedFrom (number_at w64 8 (take 4096 bytes)) p (drop 4096 bytes)) (sym (ap (λ (ps : List Write). all_written ps f.stable) e)) (area_unmarked p f.stable h.unmarked)

-- ---- among the files that came into use

same_tested : (id : ℕ) (f : FileState) → (f.id == id) ≡ true → f.id ≡ id
same_tested id f e = grind (arith, nat_tests, e)

own_test : (n : ℕ) → (n == n) ≡ true
own_test n = grind (arith, nat_tests)

some_same : (g f : FileState) → ◌≡◌ {A = Option FileState} (Some g) (Some f) → g ≡ f
some_same g f e = cc

not_both : (b : Bool) → b ≡ false → b ≡ true → ⊥
not_both b e k = cc

pub found_is : (id : ℕ) (d : Disk) (f : FileState) → file_of id d ≡ Some f → (f.id == id) ≡ true
found_is id [] f e = absurd (cc)
found_is id (g ∷ d) f e = go (g.id == id) refl e (found_is id d f)
  where
    go : (b : Bool) → (g.id == id) ≡ b → cond b (Some g) (file_of id d) ≡ Some f → (file_of id d ≡ Some f → (f.id == id) ≡ true) → (f.id == id) ≡ true
    go true t e ih = ap (λ (x : FileState). x.id == id) (sym (some_same g f e)) ∙ t
    go false t e ih = ih e

-- the headed files of the disk that are in use and pass the test
abbrev picked : (Headed → Bool) → Disk → List Headed
picked test d = filter test (map headed (in_use (full d)))

-- the first of them, and the others
picked_first : (P : Headed → Type 0) (x : Headed) (test : Headed → Bool) (b : Bool) (is : ImageFile) (i : List ImageFile) → x ≡ headed is → b ≡ true → test x ≡ true
    → AllByRecursion P (filter test (map headed (cond b (is ∷ i) i))) → P x
picked_first P x test true is i same u passes h = subst P (sym same) (first (test (headed is)) (ap test (sym same) ∙ passes) h)
  where
    first : (c : Bool) → c ≡ true → AllByRecursion P (cond c (headed is ∷ filter test (map headed i)) (filter test (map headed i))) → P (headed is)
    first true e h = h.0
    first false e h = absurd (cc)
picked_first P x test false is i same u passes h = absurd (cc)

picked_rest : (P : Headed → Type 0) (test : Headed → Bool) (b : Bool) (is : ImageFile) (i : List ImageFile)
    → AllByRecursion P (filter test (map headed (cond b (is ∷ i) i))) → AllByRecursion P (filter test (map headed i))
picked_rest P test true is i h = rest (test (headed is)) h
  where
    rest : (c : Bool) → AllByRecursion P (cond c (headed is ∷ filter test (map headed i)) (filter test (map headed i))) → AllByRecursion P (filter test (map headed i))
    rest true h = h.1
    rest false h = h
picked_rest P test false is i h = h

pub All-picked : (test : Headed → Bool) (P : Headed → Type 0) (id : ℕ) (d : Disk) (f : FileState) → AllByRecursion P (picked test d) → file_of id d ≡ Some f → is_in_use f.place ≡ true
    → test (headed (full_file f)) ≡ true → P (headed (full_file f))
All-picked test P id [] f all e used passes = absurd (cc)
All-picked test P id (g ∷ d) f all e used passes = go (g.id == id) e (λ k. All-picked test P id d f (picked_rest P test (is_in_use g.place) (full_file g) (in_use (full d)) all) k used passes)
  where
    go : (b : Bool) → cond b (Some g) (file_of id d) ≡ Some f → (file_of id d ≡ Some f → P (headed (full_file f))) → P (headed (full_file f))
    go true e ih =
        let same : f ≡ g = sym (some_same g f e) in
        picked_first P (headed (full_file f)) test (is_in_use g.place) (full_file g) (in_use (full d)) (ap (λ (x : FileState). headed (full_file x)) same)
        (ap (λ (x : FileState). is_in_use x.place) (sym same) ∙ used) passes all
    go false e ih = ih e

pub newly_unmarked : (m n : Moment) (f : FileState) → file_of f.id n.disk ≡ Some f → is_in_use f.place ≡ true → uses f.id m ≡ false
    → AllByRecursion IsUnmarked (newly_used m n) → IsUnmarked (headed (full_file f))
newly_unmarked m n f e used fresh all = All-picked (λ h. not (uses h.id m)) IsUnmarked f.id n.disk f all e used (ap not fresh)

-- ---- other files

-- a change of another file
pub other_file : (id own : ℕ) (c : FileState → FileState) → KeepsId c → (id == own) ≡ false → (d : Disk) → file_of id (change_file own c d) ≡ file_of id d
other_file id own c keeps apart d = file_of-change_file id own c keeps d ∙ go (file_of id d) refl
  where
    away : (f : FileState) → (f.id == id) ≡ true → (f.id == own) ≡ false
    away f e = ap (λ n. n == own) (same_tested id f e) ∙ apart

    go : (o : Option FileState) → file_of id d ≡ o → option_map (changed own c) o ≡ o
    go None e = refl
    go (Some f) e = ap (λ b. Some (cond b (c f) f)) (away f (found_is id d f e))

-- a new file
pub other_new : (f : FileState) (id : ℕ) → (f.id == id) ≡ false → (d : Disk) → file_of id (with_file f d) ≡ file_of id d
other_new f id e [] = ap (λ b. cond b (Some f) None) e
other_new f id e (g ∷ d) =
    elim (ltb f.id g.id) as (λ b. file_of id (cond b (f ∷ g ∷ d) (g ∷ with_file f d)) ≡ file_of id (g ∷ d)) [
      | true ↦ ap (λ b. cond b (Some f) (file_of id (g ∷ d))) e
      | false ↦ ap (λ (o : Option FileState). cond (g.id == id) (Some g) o) (other_new f id e d)
    ]

turned : (m n : ℕ) → (m == n) ≡ false → (n == m) ≡ false
turned m n e = grind (arith, nat_tests, e)

or_false : (b c : Bool) → (b || c) ≡ false → (b ≡ false) × (c ≡ false)
or_false true c e = absurd (cc)
or_false false c e = (refl, e)

all_same : (areas : List FreeArea) (id : ℕ) (d e : Disk) → ((other : ℕ) → (other == id) ≡ false → file_of other e ≡ file_of other d) → is_taken_before areas id ≡ false → HasSameFiles areas d e
all_same [] id d e same h = tt
all_same (a ∷ areas) id d e same h =
    let parts = or_false (a.id == id) (is_taken_before areas id) h in
    (same a.id parts.0, all_same areas id d e same parts.1)

pub same_change : (areas : List FreeArea) (id : ℕ) (c : FileState → FileState) → KeepsId c → (d : Disk) → is_taken_before areas id ≡ false → HasSameFiles areas d (change_file id c d)
same_change areas id c keeps d h = all_same areas id d (change_file id c d) (λ other e. other_file other id c keeps e d) h

abbrev write : ℕ → List ℕ → FileState → FileState
write at bytes f = record f { pending = f.pending ++ (record { at = at; bytes = bytes }) ∷ [] }

abbrev sync : FileState → FileState
sync f = record f { stable = all_written f.pending f.stable; pending = [] }

abbrev move : Place → FileState → FileState
move to f = record f { place = to }

pub same_write : (areas : List FreeArea) (id at : ℕ) (bytes : List ℕ) (d : Disk) → is_taken_before areas id ≡ false → HasSameFiles areas d (write_at id at bytes d)
same_write areas id at bytes d h = same_change areas id (write at bytes) (λ f. refl) d h

pub same_sync : (areas : List FreeArea) (id : ℕ) (d : Disk) → is_taken_before areas id ≡ false → HasSameFiles areas d (sync_at id d)
same_sync areas id d h = same_change areas id sync (λ f. refl) d h

pub same_relocate : (areas : List FreeArea) (id : ℕ) (to : Place) (d : Disk) → is_taken_before areas id ≡ false → HasSameFiles areas d (relocate_at id to d)
same_relocate areas id to d h = same_change areas id (move to) (λ f. refl) d h

pub same_create : (areas : List FreeArea) (id part kib : ℕ) (d : Disk) → is_taken_before areas id ≡ false → HasSameFiles areas d (create_at id part kib d)
same_create areas id part kib d h =
    all_same areas id d (create_at id part kib d)
    (λ other e. other_new (record { id = id; place = Empty part kib; stable = replicate (4096 + 1024 * kib) 0; pending = [] }) other (turned other id e) d) h

-- clean areas name only files that are there
pub absent_unnamed : (areas : List FreeArea) (id : ℕ) (d : Disk) → IsClean areas d → file_of id d ≡ None → is_taken_before areas id ≡ false
absent_unnamed [] id d h e = refl
absent_unnamed (a ∷ areas) id d h e = go (a.id == id) refl (absent_unnamed areas id d h.1 e)
  where
    is_same : (m n : ℕ) → (m == n) ≡ true → m ≡ n
    is_same m n e = grind (arith, nat_tests, e)

    go : (b : Bool) → (a.id == id) ≡ b → is_taken_before areas id ≡ false → (b || is_taken_before areas id) ≡ false
    go true t ih = absurd (subst (CleanFile a.from) (ap (λ n. file_of n d) (is_same a.id id t) ∙ e) h.0)
    go false t ih = ih

pub clean_same : (areas : List FreeArea) (d e : Disk) → HasSameFiles areas d e → IsClean areas d → IsClean areas e
clean_same [] d e same h = tt
clean_same (a ∷ areas) d e same h = (subst (CleanFile a.from) (sym same.0) h.0, clean_same areas d e same.1 h.1)

pub clean_write : (areas : List FreeArea) (id at : ℕ) (bytes : List ℕ) (d : Disk) → is_taken_before areas id ≡ false → IsClean areas d → IsClean areas (write_at id at bytes d)
clean_write areas id at bytes d h = clean_same areas d (write_at id at bytes d) (same_write areas id at bytes d h)

pub clean_sync : (areas : List FreeArea) (id : ℕ) (d : Disk) → is_taken_before areas id ≡ false → IsClean areas d → IsClean areas (sync_at id d)
clean_sync areas id d h = clean_same areas d (sync_at id d) (same_sync areas id d h)

pub clean_create : (areas : List FreeArea) (id part kib : ℕ) (d : Disk) → is_taken_before areas id ≡ false → IsClean areas d → IsClean areas (create_at id part kib d)
clean_create areas id part kib d h = clean_same areas d (create_at id part kib d) (same_create areas id part kib d h)

pub clean_create_new : (areas : List FreeArea) (id part kib : ℕ) (d : Disk) → file_of id d ≡ None → IsClean areas d → IsClean areas (create_at id part kib d)
clean_create_new areas id part kib d e h = clean_create areas id part kib d (absent_unnamed areas id d h e) h

-- where a file lies doesn't matter
moved_clean : (from own : ℕ) (to : Place) (o : Option FileState) → CleanFile from o → CleanFile from (option_map (changed own (move to)) o)
moved_clean from own to None h = h
moved_clean from own to (Some f) h =
    elim (f.id == own) as (λ b. CleanFile from (Some (cond b (move to f) f))) [ true ↦ record { quiet = h.quiet; unmarked = h.unmarked } | false ↦ h ]

pub clean_relocate : (areas : List FreeArea) (id : ℕ) (to : Place) (d : Disk) → IsClean areas d → IsClean areas (relocate_at id to d)
clean_relocate [] id to d h = tt
clean_relocate (a ∷ areas) id to d h =
    (subst (CleanFile a.from) (sym (file_of-change_file a.id id (move to) (λ f. refl) d)) (moved_clean a.from id to (file_of a.id d) h.0), clean_relocate areas id to d h.1)

-- ---- the own file

pub later_clean : (from more : ℕ) (o : Option FileState) → from ≤ more → CleanFile from o → CleanFile more o
later_clean from more None l h = h
later_clean from more (Some f) l h = record { quiet = λ k a. h.quiet k (omega (arith, l, a)); unmarked = λ unit a. h.unmarked unit (omega (arith, l, a)) }

pub free_clean : (areas : List FreeArea) (id k : ℕ) (d : Disk) → is_free areas id k ≡ true → IsClean areas d → CleanFile (512 * k) (file_of id d)
free_clean [] id k d e h = absurd (cc)
free_clean (a ∷ areas) id k d e h = go (a.id == id && nat_le a.from (512 * k)) refl e (λ l. free_clean areas id k d l h.1)
  where
    is_same : (m n : ℕ) → (m == n) ≡ true → m ≡ n
    is_same m n e = grind (arith, nat_tests, e)

    not_more : (m n : ℕ) → nat_le m n ≡ true → m ≤ n
    not_more m n e = grind (arith, nat_tests, e)

    go : (b : Bool) → (a.id == id && nat_le a.from (512 * k)) ≡ b → (b || is_free areas id k) ≡ true → (is_free areas id k ≡ true → CleanFile (512 * k) (file_of id d)) → CleanFile (512 * k) (file_of id d)
    go true t e ih =
        let parts = and_parts (a.id == id) (nat_le a.from (512 * k)) t in
        later_clean a.from (512 * k) (file_of id d) (not_more a.from (512 * k) parts.1) (subst (λ n. CleanFile a.from (file_of n d)) (is_same a.id id parts.0) h.0)
    go false t e ih = ih e

-- the own file after a change
pub own_file : (own : ℕ) (c : FileState → FileState) → KeepsId c → (d : Disk) (o : Option FileState) → file_of own d ≡ o → file_of own (change_file own c d) ≡ option_map c o
own_file own c keeps d None e = file_of-change_file own own c keeps d ∙ ap (option_map (changed own c)) e
own_file own c keeps d (Some f) e = file_of-change_file own own c keeps d ∙ ap (option_map (changed own c)) e ∙ ap (λ b. Some (cond b (c f) f)) (found_is own d f e)

-- a write covers nothing behind it
behind_write : (k at n : ℕ) → at + n ≤ 512 * k → (nat_le at (512 * k) && nat_lt (512 * k) (at + n)) ≡ false
behind_write k at n h = grind (arith, nat_tests, h)

write_covers : (f : FileState) (from k : ℕ) (bytes : List ℕ) → from + length bytes ≤ 512 * k → is_pending k (Some f) ≡ false → is_pending k (Some (write from bytes f)) ≡ false
write_covers f from k bytes h e =
    list_any-append (covers k) f.pending ((record { at = from; bytes = bytes }) ∷ [])
    ∙ ap (λ b. b || (covers k (record { at = from; bytes = bytes }) || false)) e
    ∙ ap (λ b. b || false) (behind_write k from (length bytes) h)

written_clean : (from : ℕ) (bytes : List ℕ) (o : Option FileState) → CleanFile from o → CleanFile (from + length bytes) (option_map (write from bytes) o)
written_clean from bytes None h = h
written_clean from bytes (Some f) h = record {
  quiet = λ k a. write_covers f from k bytes a (h.quiet k (omega (arith, a)));
  unmarked = λ unit a. h.unmarked unit (omega (arith, a));
}

pub front_write : (id from : ℕ) (bytes : List ℕ) (d : Disk) → CleanFile from (file_of id d) → CleanFile (from + length bytes) (file_of id (write_at id from bytes d))
front_write id from bytes d h =
    subst (CleanFile (from + length bytes)) (sym (own_file id (write from bytes) (λ f. refl) d (file_of id d) refl)) (written_clean from bytes (file_of id d) h)

-- bytes behind a write stay
number_behind : (q : ℕ) (w : Write) (old : List ℕ) → w.at + length w.bytes ≤ q → w.at + length w.bytes ≤ length old → number_at w64 q (written w old) ≡ number_at w64 q old
number_behind q w old h fits =
    ap (λ (b : List ℕ). from_le_bytes w64 (take 8 b))
    (drop-append-drop (w.at + length w.bytes) old (take w.at old ++ w.bytes) q h (omega (arith, fits, length-append (take w.at old) w.bytes, length-take w.at old)))

-- and those of the header
number_before : (w : Write) (old : List ℕ) → 4096 ≤ w.at → w.at + length w.bytes ≤ length old → number_at w64 8 (written w old) ≡ number_at w64 8 old
number_before w old low fits =
    sym (serial_is (written w old)) ∙ ap (number_at w64 8) (front-all_written 4096 (w ∷ []) old (low, tt) (fits, tt)) ∙ serial_is old

unmarked_behind : (w : Write) (old : List ℕ) → 4096 ≤ w.at → w.at + length w.bytes ≤ length old → IsUnmarkedFrom (number_at w64 8 old) w.at old
    → IsUnmarkedFrom (number_at w64 8 (written w old)) (w.at + length w.bytes) (written w old)
unmarked_behind w old low fits h unit from within e =
    h unit (omega (arith, from)) (subst (λ n. 128 * unit + 128 ≤ n) (length-written w old fits) within)
    (sym (number_behind (128 * unit + 8) w old (omega (arith, from)) fits) ∙ e ∙ number_before w old low fits)

seen_write : (f : FileState) (from : ℕ) (bytes : List ℕ) → f.pending ≡ [] → all_written (write from bytes f).pending f.stable ≡ written (record { at = from; bytes = bytes }) f.stable
seen_write f from bytes e = ap (λ (ps : List Write). all_written (ps ++ (record { at = from; bytes = bytes }) ∷ []) f.stable) e

stable_size : (f : FileState) → f.pending ≡ [] → size_of f ≡ length f.stable
stable_size f e = ap (λ (ps : List Write). length (all_written ps f.stable)) e

synced_clean : (from : ℕ) (bytes : List ℕ) (o : Option FileState) → 4096 ≤ from → InFile from (length bytes) o → NothingPending o → CleanFile from o
    → CleanFile (from + length bytes) (option_map sync (option_map (write from bytes) o))
synced_clean from bytes None low fits quiet h = h
synced_clean from bytes (Some f) low fits quiet h = record {
  quiet = λ k a. refl;
  unmarked =
      subst (λ (s : List ℕ). IsUnmarkedFrom (number_at w64 8 s) (from + length bytes) s) (sym (seen_write f from bytes quiet))
      (unmarked_behind (record { at = from; bytes = bytes }) f.stable low (subst (λ n. from + length bytes ≤ n) (stable_size f quiet) fits) h.unmarked);
}

pub front_sync : (id from : ℕ) (bytes : List ℕ) (d : Disk) → 4096 ≤ from → InFile from (length bytes) (file_of id d) → NothingPending (file_of id d)
    → CleanFile from (file_of id d) → CleanFile (from + length bytes) (file_of id (sync_at id (write_at id from bytes d)))
front_sync id from bytes d low fits quiet h =
    let wrote : file_of id (write_at id from bytes d) ≡ option_map (write from bytes) (file_of id d) = own_file id (write from bytes) (λ f. refl) d (file_of id d) refl in
    subst (CleanFile (from + length bytes)) (sym (own_file id sync (λ f. refl) (write_at id from bytes d) (option_map (write from bytes) (file_of id d)) wrote))
    (synced_clean from bytes (file_of id d) low fits quiet h)

-- ---- the own file among others

-- the own file is clean from its new offset on, and the others are the same
clean_but_own : (areas : List FreeArea) (id from : ℕ) (d e : Disk) → CleanFile from (file_of id e) → ((other : ℕ) → (other == id) ≡ false → file_of other e ≡ file_of other d)
    → IsClean areas d → IsClean (with_free_from id from areas) e
clean_but_own [] id from d e own same h = tt
clean_but_own (a ∷ areas) id from d e own same h = (go (a.id == id) refl, clean_but_own areas id from d e own same h.1)
  where
    is_same : (m n : ℕ) → (m == n) ≡ true → n ≡ m
    is_same m n e = grind (arith, nat_tests, e)

    go : (b : Bool) → (a.id == id) ≡ b → let x = cond b (record a { from = from }) a in CleanFile x.from (file_of x.id e)
    go true t = subst (λ n. CleanFile from (file_of n e)) (is_same a.id id t) own
    go false t = subst (CleanFile a.from) (sym (same a.id t)) h.0

pub areas_write : (areas : List FreeArea) (id from : ℕ) (bytes : List ℕ) (d : Disk) → CleanFile from (file_of id d)
    → IsClean areas d → IsClean (with_free_from id (from + length bytes) areas) (write_at id from bytes d)
areas_write areas id from bytes d own =
    clean_but_own areas id (from + length bytes) d (write_at id from bytes d) (front_write id from bytes d own) (λ other e. other_file other id (write from bytes) (λ f. refl) e d)

pub areas_sync : (areas : List FreeArea) (id from : ℕ) (bytes : List ℕ) (d : Disk) → 4096 ≤ from → InFile from (length bytes) (file_of id d) → NothingPending (file_of id d)
    → CleanFile from (file_of id d) → IsClean areas d → IsClean (with_free_from id (from + length bytes) areas) (sync_at id (write_at id from bytes d))
areas_sync areas id from bytes d low fits quiet own =
    clean_but_own areas id (from + length bytes) d (sync_at id (write_at id from bytes d)) (front_sync id from bytes d low fits quiet own)
    (λ other e. other_file other id sync (λ f. refl) e (write_at id from bytes d) ∙ other_file other id (write from bytes) (λ f. refl) e d)
