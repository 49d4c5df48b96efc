-- A batch in the stream of the files that it lies over.
use Rattle.std.proofs.Common.{◌≡◌, ℕ, suc, ◌+◌, ◌-◌, ◌/◌, ◌<◌, ◌≤◌, Bool, true, false, cond, ◌&&◌, ltb, List, [], ◌∷◌, ◌++◌, map, length, Option, Some, refl, sym, ap, ap₂, ◌∙◌, arith, get_or, length-append, subst, T, ltb→lt}
use Rattle.std.proofs.Math.Nat.{div-eq_of_lt}
use Rattle.qls_shape.specs.declared.Version.TheVariants.{Two}
use Rattle.qls_record.specs.Record.{Record, record_length, is_enqueue}
use Rattle.qls_record.specs.Spelling.{spelling}
use Rattle.qls_meaning.specs.Journals.{Headed}
use Rattle.qls_meaning.specs.Reading.{Holder, holder, stream, length_in, held_length, held_spelling, spelled_from, placed_from, end_from}
use Rattle.qls_meaning.specs.Damage.{first_in, rid_before}
use Rattle.qls_blocks.specs.Batching.{length_of, laid_from, places_from}
use Rattle.qls_blocks.specs.Spelled.{serial_at, spelled_over}
use Rattle.qls_blocks.specs.Laws.{HaveCapacity, serials_of}
use Rattle.qls_blocks.proofs.Lengths.{length_least}

less : (p s : ℕ) → p < s → ltb p s ≡ true
less p s h = grind arith

not_less : (p s : ℕ) → s ≤ p → ltb p s ≡ false
not_less p s h = grind arith

-- ---- which file holds a place

behind : (f : Headed) (fs : List Headed) (p : ℕ) → length f.area ≤ p → holder (f ∷ fs) p ≡ holder fs (p - length f.area)
behind f fs p h = ap (λ b. cond b (Some (record { file = f; within = p })) (holder fs (p - length f.area))) (not_less p (length f.area) h)

within : (f : Headed) (fs : List Headed) (p : ℕ) → p < length f.area → holder (f ∷ fs) p ≡ Some (record { file = f; within = p })
within f fs p h = ap (λ b. cond b (Some (record { file = f; within = p })) (holder fs (p - length f.area))) (less p (length f.area) h)

pub holder-behind : (before fs : List Headed) (p : ℕ) → holder (before ++ fs) (length (stream before) + p) ≡ holder fs p
holder-behind [] fs p = ap (holder fs) (omega arith)
holder-behind (f ∷ before) fs p =
    let size = length-append f.area (stream before) in
    behind f (before ++ fs) (length (stream (f ∷ before)) + p) (omega (arith, size))
    ∙ ap (holder (before ++ fs)) (omega (arith, size))
    ∙ holder-behind before fs p

-- a file holds each place of the stream, and its serial is the one that division finds
pub record Holds (serial : ℕ) (o : Option Holder) : Type 0 where
  pub at : Holder
  pub is : o ≡ Some at
  pub serial_is : at.file.header.serial ≡ serial

divided : (capacity p : ℕ) → 0 < capacity → capacity ≤ p → p / capacity ≡ suc ((p - capacity) / capacity)
divided capacity p some h = grind arith

holds_from : (capacity p n : ℕ) (f : Headed) (fs : List Headed) → n ≡ suc ((p - capacity) / capacity) → Holds (get_or (serials_of fs) ((p - capacity) / capacity) 0) (holder fs (p - capacity))
    → length f.area ≡ capacity → capacity ≤ p → Holds (get_or (serials_of (f ∷ fs)) n 0) (holder (f ∷ fs) p)
holds_from capacity p n f fs e h size le = record {
  at = h.at;
  is = behind f fs p (omega (arith, size, le)) ∙ ap (λ k. holder fs (p - k)) size ∙ h.is;
  serial_is = h.serial_is ∙ ap (λ k. get_or (serials_of (f ∷ fs)) k 0) (sym e);
}

less_back : (p s : ℕ) → ltb p s ≡ true → p < s
less_back p s h = ltb→lt p s (subst T (sym h) tt)

not_less_back : (p s : ℕ) → ltb p s ≡ false → s ≤ p
not_less_back p s h = grind arith

pub holds : (capacity p : ℕ) (fs : List Headed) → 0 < capacity → HaveCapacity capacity fs → p < length (stream fs) → Holds (get_or (serials_of fs) (p / capacity) 0) (holder fs p)
holds capacity p [] some have l = absurd (omega arith)
holds capacity p (f ∷ fs) some have l =
    go (ltb p capacity) refl (λ le. holds capacity (p - capacity) fs some have.1 (omega (arith, l, le, have.0, length-append f.area (stream fs))))
  where
    go : (b : Bool) → ltb p capacity ≡ b → (capacity ≤ p → Holds (get_or (serials_of fs) ((p - capacity) / capacity) 0) (holder fs (p - capacity)))
        → Holds (get_or (serials_of (f ∷ fs)) (p / capacity) 0) (holder (f ∷ fs) p)
    go true e more =
        let lt = less_back p capacity e in record {
          at = record { file = f; within = p };
          is = within f fs p (omega (arith, lt, have.0));
          serial_is = ap (λ k. get_or (serials_of (f ∷ fs)) k 0) (sym (div-eq_of_lt {n = p} {m = capacity} lt));
        }
    go false e more =
        let le = not_less_back p capacity e in
        holds_from capacity p (p / capacity) f fs (divided capacity p some le) (more le) have.0 le

pub spelled_behind : (capacity p : ℕ) (before fs : List Headed) (rs : List Record) → 0 < capacity → HaveCapacity capacity fs → p + length_of rs ≤ length (stream fs)
    → spelled_from (before ++ fs) (length (stream before) + p) rs ≡ spelled_over capacity (serials_of fs) p rs
spelled_behind capacity p before fs [] some have l = refl
spelled_behind capacity p before fs (r ∷ rs) some have l =
    let least = length_least r in
    let h = holds capacity p fs some have (omega (arith, least, l)) in
    let q : ℕ = length (stream before) + p in
    let held : holder (before ++ fs) q ≡ Some h.at = holder-behind before fs p ∙ h.is in
    let text : held_spelling (holder (before ++ fs) q) r ≡ spelling Two (serial_at capacity (serials_of fs) p) r =
    ap (λ o. held_spelling o r) held ∙ ap (λ s. spelling Two s r) h.serial_is in
    let size : length_in (before ++ fs) q r ≡ record_length Two r = ap (λ o. held_length o r) held in
    let next : q + length_in (before ++ fs) q r ≡ length (stream before) + (p + record_length Two r) = omega (arith, size) in
    ap₂ (λ (a b : List ℕ). a ++ b) text (ap (λ k. spelled_from (before ++ fs) k rs) next ∙ spelled_behind capacity (p + record_length Two r) before fs rs some have (omega (arith, l)))

-- ---- where the records lie

pub record IsHeld (o : Option Holder) : Type 0 where
  pub at : Holder
  pub is : o ≡ Some at

pub is_held : (p : ℕ) (fs : List Headed) → p < length (stream fs) → IsHeld (holder fs p)
is_held p [] l = absurd (omega arith)
is_held p (f ∷ fs) l =
    go (ltb p (length f.area)) refl (λ le. is_held (p - length f.area) fs (omega (arith, l, le, length-append f.area (stream fs))))
  where
    go : (b : Bool) → ltb p (length f.area) ≡ b → (length f.area ≤ p → IsHeld (holder fs (p - length f.area))) → IsHeld (holder (f ∷ fs) p)
    go true e more = record { at = record { file = f; within = p }; is = within f fs p (less_back p (length f.area) e) }
    go false e more =
        let le = not_less_back p (length f.area) e in
        let h = more le in
        record { at = h.at; is = behind f fs p le ∙ h.is }

pub placed-laid : (p : ℕ) (fs : List Headed) (rs : List Record) → p + length_of rs ≤ length (stream fs) → placed_from fs p rs ≡ laid_from p rs
placed-laid p fs [] l = refl
placed-laid p fs (r ∷ rs) l =
    let least = length_least r in
    let h = is_held p fs (omega (arith, least, l)) in
    let size : length_in fs p r ≡ record_length Two r = ap (λ o. held_length o r) h.is in
    let after : p + length_in fs p r ≡ p + record_length Two r = ap (λ k. p + k) size in
    let rest : placed_from fs (p + length_in fs p r) rs ≡ laid_from (p + record_length Two r) rs =
    ap (λ k. placed_from fs k rs) after ∙ placed-laid (p + record_length Two r) fs rs (omega (arith, l)) in
    λ i. record { what = r; at = p; after = after i } ∷ rest i

pub places-laid : (p : ℕ) (rs : List Record) → map (λ r. r.at) (laid_from p rs) ++ end_from p (laid_from p rs) ∷ [] ≡ places_from p rs
places-laid p [] = refl
places-laid p (r ∷ rs) = ap (λ (ps : List ℕ). p ∷ ps) (places-laid (p + record_length Two r) rs)

-- ---- counted from an earlier file on

shifted : (k p s : ℕ) → ltb (k + p) (k + s) ≡ ltb p s
shifted k p s = grind arith

pub first_in-shifted : (k start size p : ℕ) (rs : List Record) → first_in (k + start) size (places_from (k + p) rs) ≡ first_in start size (places_from p rs)
first_in-shifted k start size p [] =
    let a = shifted k p start in
    let b : ltb (k + p) (k + start + size) ≡ ltb p (start + size) = ap (ltb (k + p)) (omega arith) ∙ shifted k p (start + size) in
    let d : k + p - (k + start) ≡ p - start = omega arith in
    λ i. cond (a i) 0 (cond (b i) (4096 + d i) 0)
first_in-shifted k start size p (r ∷ rs) =
    let a = shifted k p start in
    let b : ltb (k + p) (k + start + size) ≡ ltb p (start + size) = ap (ltb (k + p)) (omega arith) ∙ shifted k p (start + size) in
    let d : k + p - (k + start) ≡ p - start = omega arith in
    let rest : first_in (k + start) size (places_from (k + p + record_length Two r) rs) ≡ first_in start size (places_from (p + record_length Two r) rs) =
    ap (λ q. first_in (k + start) size (places_from q rs)) (omega arith) ∙ first_in-shifted k start size (p + record_length Two r) rs in
    λ i. cond (a i) (rest i) (cond (b i) (4096 + d i) 0)

pub rid_before-shifted : (k start rid p : ℕ) (rs : List Record) → rid_before rid (laid_from (k + p) rs) (k + start) ≡ rid_before rid (laid_from p rs) start
rid_before-shifted k start rid p [] = refl
rid_before-shifted k start rid p (r ∷ rs) =
    ap (λ b. rid_before (cond (is_enqueue r.kind && b) r.rid rid) (laid_from (k + p + record_length Two r) rs) (k + start)) (shifted k p start)
    ∙ ap (λ q. rid_before (cond (is_enqueue r.kind && ltb p start) r.rid rid) (laid_from q rs) (k + start)) (omega arith)
    ∙ rid_before-shifted k start (cond (is_enqueue r.kind && ltb p start) r.rid rid) (p + record_length Two r) rs
