-- No record stands where the serial of its file doesn't, so a reading ends there.
use Rattle.std.proofs.Common.{◌≡◌, ◌≢◌, ℕ, true, false, Bool, cond, ltb, eqb, ◌+◌, ◌-◌, ◌*◌, ◌/◌, ◌<◌, ◌≤◌, ◌^◌, List, [], ◌∷◌, ◌++◌, map, length, take, drop, Option, Some, None, refl, sym, ap, ◌∙◌, subst, arith, length-append, append_assoc, append-nil, drop-drop, length-drop, ltb→lt, T}
use Rattle.std.specs.Int.{w64, from_le_bytes}
use Rattle.std.proofs.Math.Seq.{drop-append_seam}
use Rattle.std.proofs.lemmas.List.{drop-append-le, take-append-le}
use Rattle.qls_shape.specs.Fields.{u64, bytes_from, number_at}
use Rattle.qls_shape.specs.declared.Version.TheVariants.{Two}
use Rattle.qls_record.specs.Record.{Record, record_length, header_length, tail_length}
use Rattle.qls_record.specs.Spelling.{spelling, record_at}
use Rattle.qls_record.specs.declared.Kind.{Kind}
use Rattle.qls_record.specs.declared.Kind.TheVariants.{Enqueue, Dequeue, Commit, Abort, Filler}
use Rattle.qls_record.proofs.RoundTrip.{record_at_spells, record_at-spelling, number_back}
use Rattle.qls_record.proofs.RecordLength.{length-spelling, record_length_least, stands_split}
use Rattle.qls_meaning.specs.Journals.{Headed}
use Rattle.qls_meaning.specs.Reading.{Holder, holder, stream, record_in, held_record, length_in, held_length, held_spelling, spelled_from, placed_from, end_from, epoch_reading, begin_place}
use Rattle.qls_meaning.specs.Kept.{BeginsWith}
use Rattle.qls_laws.specs.Readings.{IsReading, held_legal, LegalFrom}
use Rattle.qls_laws.specs.Areas.{IsUnmarkedFrom, IsMarkedAt, UnmarkedFor, IsUnmarkedAt, AllLegal, spelled}
use Rattle.qls_laws.proofs.Ends.{record_fits}
use Rattle.qls_laws.proofs.Unique.{epoch_only_reading, read_where_spelled, spelled_where_read}
use Rattle.qls_laws.proofs.CleanAreas.{number_past}

-- ---- the serial of a record

-- byte 8 of a spelling
spelled_serial : (serial : ℕ) (r : Record) (more : List ℕ) → take 8 (drop 8 (spelling Two serial r ++ more)) ≡ u64 serial
spelled_serial serial r more = by_kind r.kind
  where
    by_kind : (kind : Kind) → take 8 (drop 8 (spelling Two serial (record r { kind = kind }) ++ more)) ≡ u64 serial
    by_kind Enqueue = refl
    by_kind Dequeue = refl
    by_kind Commit = refl
    by_kind Abort = refl
    by_kind Filler = refl

held_serial : (bytes : List ℕ) (h : Holder) (r : Record) → held_record bytes (Some h) ≡ Some r → bytes_from 8 8 bytes ≡ u64 h.file.header.serial
held_serial bytes h r e =
    let serial : ℕ = h.file.header.serial in
    let spells = record_at_spells Two serial bytes r e in
    ap (λ (b : List ℕ). take 8 (drop 8 b)) (stands_split bytes (spelling Two serial r) spells.stands) ∙ spelled_serial serial r (drop (length (spelling Two serial r)) bytes)

marked_by : (fs : List Headed) (p : ℕ) (r : Record) → (p + 128 ≤ length (stream fs)) → (o : Option Holder) → holder fs p ≡ o → held_record (drop p (stream fs)) o ≡ Some r → IsMarkedAt fs p
marked_by fs p r room None is e = absurd (cc)
marked_by fs p r room (Some h) is e =
    let bytes : bytes_from 8 8 (drop p (stream fs)) ≡ u64 h.file.header.serial = held_serial (drop p (stream fs)) h r e in
    record { at = h; is = is; bytes = bytes; serial = λ fits. ap (from_le_bytes w64) bytes ∙ number_back h.file.header.serial fits; room = room }

pub marked : (fs : List Headed) (p : ℕ) (r : Record) → record_in fs p ≡ Some r → IsMarkedAt fs p
marked fs p r e = let fits = record_fits fs p r e in marked_by fs p r (omega (arith, fits.0, fits.1)) (holder fs p) refl e

pub none_unmarked : (fs : List Headed) (p : ℕ) → IsUnmarkedAt fs p → record_in fs p ≡ None
none_unmarked fs p h = go (record_in fs p) refl
  where
    no_mark : (m : IsMarkedAt fs p) → UnmarkedFor (Some m.at) (drop p (stream fs)) → ⊥
    no_mark m u = u.1 (omega (arith, m.room, length-drop p (stream fs))) (m.serial u.0)

    go : (o : Option Record) → record_in fs p ≡ o → record_in fs p ≡ None
    go None e = e
    go (Some r) e = let m = marked fs p r e in absurd (no_mark m (subst (λ (o : Option Holder). UnmarkedFor o (drop p (stream fs))) m.is h))

-- ---- the bytes of the file that holds a place

-- they go on with what follows the file
pub record HeldBytes (fs : List Headed) (p : ℕ) (h : Holder) : Type 0 where
  pub more : List ℕ
  pub is : drop p (stream fs) ≡ drop h.within h.file.area ++ more

less_back : (p s : ℕ) → ltb p s ≡ true → p < s
less_back p s h = ltb→lt p s (subst T (sym h) tt)

not_less_back : (p s : ℕ) → ltb p s ≡ false → s ≤ p
not_less_back p s h = grind arith

some_holder : (g h : Holder) → ◌≡◌ {A = Option Holder} (Some g) (Some h) → g ≡ h
some_holder g h e = cc

past_front : (p : ℕ) (a b : List ℕ) → length a ≤ p → drop p (a ++ b) ≡ drop (p - length a) b
past_front p a b h =
    let split : p ≡ length a + (p - length a) = omega arith in
    ap (λ k. drop k (a ++ b)) split ∙ sym (drop-drop (p - length a) (length a) (a ++ b)) ∙ ap (drop (p - length a)) (drop-append_seam a b)

pub held_bytes : (fs : List Headed) (p : ℕ) (h : Holder) → holder fs p ≡ Some h → HeldBytes fs p h
held_bytes [] p h e = absurd (cc)
held_bytes (f ∷ fs) p h e = go (ltb p (length f.area)) refl e (held_bytes fs (p - length f.area) h)
  where
    go : (b : Bool) → ltb p (length f.area) ≡ b → cond b (Some (record { file = f; within = p })) (holder fs (p - length f.area)) ≡ Some h
        → (holder fs (p - length f.area) ≡ Some h → HeldBytes fs (p - length f.area) h) → HeldBytes (f ∷ fs) p h
    go true t e ih =
        let l : p < length f.area = less_back p (length f.area) t in
        subst (HeldBytes (f ∷ fs) p) (some_holder (record { file = f; within = p }) h e) (record { more = stream fs; is = drop-append-le p f.area (stream fs) (omega (arith, l)) })
    go false t e ih =
        let more = ih e in
        record { more = more.more; is = past_front p f.area (stream fs) (not_less_back p (length f.area) t) ∙ more.is }

number_in_front : (at : ℕ) (a b : List ℕ) → at + 8 ≤ length a → number_at w64 at (a ++ b) ≡ number_at w64 at a
number_in_front at a b h =
    ap (λ (c : List ℕ). from_le_bytes w64 (take 8 c)) (drop-append-le at a b (omega (arith, h)))
    ∙ ap (from_le_bytes w64) (take-append-le 8 (drop at a) b (omega (arith, h, length-drop at a)))

pub held_unmarked : (fs : List Headed) (p unit : ℕ) (h : Holder) → holder fs p ≡ Some h → h.file.header.serial < 2 ^ 64 → h.within ≡ 128 * unit
    → 128 * unit + 128 ≤ length h.file.area → IsUnmarkedFrom h.file.header.serial (128 * unit) h.file.area → IsUnmarkedAt fs p
held_unmarked fs p unit h is fits at room u =
    let held = held_bytes fs p h is in
    let front : 8 + 8 ≤ length (drop h.within h.file.area) = omega (arith, at, room, length-drop h.within h.file.area) in
    let number : number_at w64 8 (drop p (stream fs)) ≡ number_at w64 (128 * unit + 8) h.file.area =
    ap (number_at w64 8) held.is ∙ number_in_front 8 (drop h.within h.file.area) held.more front ∙ number_past h.within 8 h.file.area ∙ ap (λ k. number_at w64 (k + 8) h.file.area) at in
    subst (λ (o : Option Holder). UnmarkedFor o (drop p (stream fs))) (sym is) (fits, λ l e. u unit (omega arith) room (sym number ∙ e))

-- ---- the reading of an epoch

held_spells : (o : Option Holder) (bytes more : List ℕ) (r : Record) → held_legal o r ≡ true → bytes ≡ held_spelling o r ++ more → held_record bytes o ≡ Some r
held_spells None bytes more r legal e = absurd (cc)
held_spells (Some h) bytes more r legal e = ap (record_at Two h.file.header.serial) e ∙ record_at-spelling Two h.file.header.serial r more legal

held_spelling_length : (o : Option Holder) (r : Record) → length (held_spelling o r) ≡ held_length o r
held_spelling_length None r = refl
held_spelling_length (Some h) r = length-spelling Two h.file.header.serial r

some_record : (r q : Record) → ◌≡◌ {A = Option Record} None (Some r) → ⊥
some_record r q e = cc

spelled_is_reading : (fs : List Headed) (p : ℕ) (rs : List Record) (rest : List ℕ) → LegalFrom fs p rs → drop p (stream fs) ≡ spelled_from fs p rs ++ rest
    → record_in fs (end_from p (placed_from fs p rs)) ≡ None → IsReading fs p (placed_from fs p rs)
spelled_is_reading fs p [] rest legal e none = λ r s. some_record r r (sym none ∙ read_where_spelled fs p r s)
spelled_is_reading fs p (r ∷ rs) rest legal e none =
    let text : List ℕ = held_spelling (holder fs p) r in
    let next : ℕ = p + length_in fs p r in
    let split : drop p (stream fs) ≡ text ++ (spelled_from fs next rs ++ rest) = e ∙ append_assoc text (spelled_from fs next rs) rest in
    let here : record_in fs p ≡ Some r = held_spells (holder fs p) (drop p (stream fs)) (spelled_from fs next rs ++ rest) r legal.0 split in
    let behind : drop next (stream fs) ≡ spelled_from fs next rs ++ rest =
    ap (λ k. drop (p + k) (stream fs)) (sym (held_spelling_length (holder fs p) r)) ∙ sym (drop-drop (length text) p (stream fs))
    ∙ ap (drop (length text)) split ∙ drop-append_seam text (spelled_from fs next rs ++ rest) in
    (refl, spelled_where_read fs p r here, refl, spelled_is_reading fs next rs rest legal.1 behind none)

pub reading_ends : (oldest : Bool) (fs : List Headed) (rs : List Record) → LegalFrom fs (begin_place oldest fs) rs
    → BeginsWith (drop (begin_place oldest fs) (stream fs)) (spelled_from fs (begin_place oldest fs) rs)
    → IsUnmarkedAt fs (end_from (begin_place oldest fs) (placed_from fs (begin_place oldest fs) rs))
    → epoch_reading oldest fs ≡ placed_from fs (begin_place oldest fs) rs
reading_ends oldest fs rs legal (rest, e) u =
    let p : ℕ = begin_place oldest fs in
    sym (epoch_only_reading oldest fs (placed_from fs p rs) (spelled_is_reading fs p rs rest legal e (none_unmarked fs (end_from p (placed_from fs p rs)) u)))

-- ---- one file

module _ (f : Headed) where
  abbrev fs : List Headed
  fs = f ∷ []

  abbrev serial : ℕ
  serial = f.header.serial

  whole_stream : stream fs ≡ f.area
  whole_stream = append-nil f.area

  held : (p : ℕ) → p < length f.area → holder fs p ≡ Some (record { file = f; within = p })
  held p h = ap (λ b. cond b (Some (record { file = f; within = p })) None) (less p (length f.area) h)
    where
      less : (p n : ℕ) → p < n → ltb p n ≡ true
      less p n h = grind arith

  -- the holder of a place is this file at that place, where there is one
  held_or_none : (P : Option Holder → Type 0) (p : ℕ) → P None → P (Some (record { file = f; within = p })) → P (holder fs p)
  held_or_none P p none some = elim (ltb p (length f.area)) as (λ b. P (cond b (Some (record { file = f; within = p })) None)) [ true ↦ some | false ↦ none ]

  pub none_behind : (front rest : List ℕ) → serial < 2 ^ 64 → f.area ≡ front ++ rest → (128 ≤ length rest → number_at w64 8 rest ≢ serial) → record_in fs (length front) ≡ None
  none_behind front rest fits e u =
      let left : drop (length front) (stream fs) ≡ rest = ap (drop (length front)) (whole_stream ∙ e) ∙ drop-append_seam front rest in
      none_unmarked fs (length front)
      (held_or_none (λ o. UnmarkedFor o (drop (length front) (stream fs))) (length front) tt
      (subst (λ (b : List ℕ). UnmarkedFor (Some (record { file = f; within = length front })) b) (sym left) (fits, u)))

  -- what the records of one file spell, one behind the other, and where they end
  pub record Spelled (p : ℕ) (rs : List Record) : Type 0 where
    pub legal : LegalFrom fs p rs
    pub text : spelled_from fs p rs ≡ spelled serial rs
    pub end : end_from p (placed_from fs p rs) ≡ p + length (spelled serial rs)
    pub whats : map (λ r. r.what) (placed_from fs p rs) ≡ rs

  pub spelled_there : (p : ℕ) (rs : List Record) → AllLegal rs → p + length (spelled serial rs) ≤ length f.area → Spelled p rs
  spelled_there p [] legal room = record { legal = tt; text = refl; end = omega arith; whats = refl }
  spelled_there p (r ∷ rs) legal room =
      let text : List ℕ = spelling Two serial r in
      let size : length text ≡ record_length Two r = length-spelling Two serial r in
      let least = record_length_least Two r in
      let both : length (text ++ spelled serial rs) ≡ length text + length (spelled serial rs) = length-append text (spelled serial rs) in
      let at : holder fs p ≡ Some (record { file = f; within = p }) = held p (omega (arith, both, room, size, least)) in
      let len : length_in fs p r ≡ record_length Two r = ap (λ h. held_length h r) at in
      let more = spelled_there (p + length_in fs p r) rs legal.1 (omega (arith, both, len, size, room)) in record {
        legal = (ap (λ h. held_legal h r) at ∙ legal.0, more.legal);
        text = ap (λ h. held_spelling h r ++ spelled_from fs (p + length_in fs p r) rs) at ∙ ap (λ (t : List ℕ). text ++ t) more.text;
        end = more.end ∙ omega (arith, both, len, size);
        whats = ap (λ (t : List Record). r ∷ t) more.whats;
      }

-- spellings are whole units
pub whole_units : (serial : ℕ) (rs : List Record) → (units : ℕ) × (length (spelled serial rs) ≡ 128 * units)
whole_units serial [] = (0, refl)
whole_units serial (r ∷ rs) =
    let more = whole_units serial rs in
    let size = header_length Two r.kind + length r.xid + length r.props + length r.body + tail_length r.kind in
    ((size + 127) / 128 + more.0, omega (arith, length-append (spelling Two serial r) (spelled serial rs), length-spelling Two serial r, more.1))

pub file_reading : (f : Headed) (rs : List Record) (rest : List ℕ) → AllLegal rs → f.header.first ≡ 4096 → f.header.serial < 2 ^ 64
    → f.area ≡ spelled f.header.serial rs ++ rest → IsUnmarkedFrom f.header.serial (length (spelled f.header.serial rs)) f.area
    → map (λ r. r.what) (epoch_reading true (f ∷ [])) ≡ rs
file_reading f rs rest legal first fits e u =
    let serial : ℕ = f.header.serial in
    let fs : List Headed = f ∷ [] in
    let front : List ℕ = spelled serial rs in
    let size : length f.area ≡ length front + length rest = ap length e ∙ length-append front rest in
    let there = spelled_there f 0 rs legal (omega (arith, size)) in
    let begin : begin_place true fs ≡ 0 = ap (λ k. cond (eqb k 0) (length f.area + 0) (k - 4096)) first in
    let units = whole_units serial rs in
    let rest_is : drop (length front) f.area ≡ rest = ap (drop (length front)) e ∙ drop-append_seam front rest in
    let number : number_at w64 8 rest ≡ number_at w64 (128 * units.0 + 8) f.area =
    ap (number_at w64 8) (sym rest_is) ∙ number_past (length front) 8 f.area ∙ ap (λ k. number_at w64 (k + 8) f.area) units.1 in
    let none : record_in fs (length front) ≡ None =
    none_behind f front rest fits e (λ l k. u units.0 (omega (arith, units.1)) (omega (arith, size, units.1, l)) (sym number ∙ k)) in
    let ended : record_in fs (end_from 0 (placed_from fs 0 rs)) ≡ None = ap (record_in fs) (there.end ∙ omega arith) ∙ none in
    let text : drop 0 (stream fs) ≡ spelled_from fs 0 rs ++ rest = append-nil f.area ∙ e ∙ ap (λ (t : List ℕ). t ++ rest) (sym there.text) in
    let reading : IsReading fs 0 (placed_from fs 0 rs) = spelled_is_reading fs 0 rs rest there.legal text ended in
    ap (map (λ r. r.what)) (sym (epoch_only_reading true fs (placed_from fs 0 rs) (subst (λ p. IsReading fs p (placed_from fs 0 rs)) (sym begin) reading))) ∙ there.whats
