-- Batches in the stream of a log's files.
use Rattle.std.proofs.Common.{◌≡◌, ℕ, ◌+◌, ◌-◌, ◌<◌, ◌≤◌, Bool, true, false, cond, ltb, List, [], ◌∷◌, ◌++◌, length, take, drop, Option, Some, None, IsTrue, refl, sym, ap, ap₂, ◌∙◌, subst, arith, length-append, append_assoc}
use Rattle.std.proofs.Math.Seq.{drop-append_seam, drop-drop}
use Rattle.qls_shape.specs.declared.Version.TheVariants.{Two}
use Rattle.qls_record.specs.Record.{Record, is_legal}
use Rattle.qls_record.specs.Spelling.{record_at}
use Rattle.qls_record.proofs.RoundTrip.{record_at-spelling}
use Rattle.qls_record.proofs.RecordLength.{length-spelling}
use Rattle.qls_site.specs.Disk.{written}
use Rattle.qls_meaning.specs.Journals.{Headed}
use Rattle.qls_meaning.specs.Reading.{Holder, Placed, holder, stream, held_record, length_in, held_length, held_spelling, spelled_from, placed_from, end_from}
use Rattle.qls_laws.specs.Readings.{Stand, AgreeUpTo, LegalFrom, held_legal}
use Rattle.qls_laws.proofs.Reaches.{stand_there}
use Rattle.qls_blocks.proofs.Stream.{IsHeld}

-- ---- bytes laid over a list from a place on

abbrev pub splice : ℕ → List ℕ → List ℕ → List ℕ
splice p bytes old = written (record { at = p; bytes = bytes }) old

-- ---- the same files with other bytes

-- one for one, under the same headers and of the same lengths
abbrev pub HaveSameHeads : List Headed → List Headed → Type 0
HaveSameHeads [] [] = Unit {0}
HaveSameHeads [] (g ∷ gs) = ⊥
HaveSameHeads (f ∷ fs) [] = ⊥
HaveSameHeads (f ∷ fs) (g ∷ gs) = (g.header ≡ f.header) × (length g.area ≡ length f.area) × HaveSameHeads fs gs

pub same_length : (fs gs : List Headed) → HaveSameHeads fs gs → length (stream gs) ≡ length (stream fs)
same_length [] [] h = refl
same_length [] (g ∷ gs) h = absurd h
same_length (f ∷ fs) [] h = absurd h
same_length (f ∷ fs) (g ∷ gs) h =
    length-append g.area (stream gs) ∙ ap₂ (λ m n. m + n) h.1 (same_length fs gs h.2) ∙ sym (length-append f.area (stream fs))

held_step : (f g : Headed) (p : ℕ) (bytes : List ℕ) (x y : Option Holder) → g.header ≡ f.header → held_record bytes y ≡ held_record bytes x → (b : Bool)
    → held_record bytes (cond b (Some (record { file = g; within = p })) y) ≡ held_record bytes (cond b (Some (record { file = f; within = p })) x)
held_step f g p bytes x y e rest true = ap (λ (h : Rattle.qls_filehdr.specs.declared.FileHeader.FileHeader). record_at Two h.serial bytes) e
held_step f g p bytes x y e rest false = rest

held_same : (fs gs : List Headed) → HaveSameHeads fs gs → (p : ℕ) (bytes : List ℕ) → held_record bytes (holder gs p) ≡ held_record bytes (holder fs p)
held_same [] [] h p bytes = refl
held_same [] (g ∷ gs) h p bytes = absurd h
held_same (f ∷ fs) [] h p bytes = absurd h
held_same (f ∷ fs) (g ∷ gs) h p bytes =
    ap (λ n. held_record bytes (cond (ltb p n) (Some (record { file = g; within = p })) (holder gs (p - n)))) h.1
    ∙ held_step f g p bytes (holder fs (p - length f.area)) (holder gs (p - length f.area)) h.0 (held_same fs gs h.2 (p - length f.area) bytes) (ltb p (length f.area))

lengths_step : (f g : Headed) (p : ℕ) (r : Record) (x y : Option Holder) → held_length y r ≡ held_length x r → (b : Bool)
    → held_length (cond b (Some (record { file = g; within = p })) y) r ≡ held_length (cond b (Some (record { file = f; within = p })) x) r
lengths_step f g p r x y rest true = refl
lengths_step f g p r x y rest false = rest

lengths_same : (fs gs : List Headed) → HaveSameHeads fs gs → (p : ℕ) (r : Record) → length_in gs p r ≡ length_in fs p r
lengths_same [] [] h p r = refl
lengths_same [] (g ∷ gs) h p r = absurd h
lengths_same (f ∷ fs) [] h p r = absurd h
lengths_same (f ∷ fs) (g ∷ gs) h p r =
    ap (λ n. held_length (cond (ltb p n) (Some (record { file = g; within = p })) (holder gs (p - n))) r) h.1
    ∙ lengths_step f g p r (holder fs (p - length f.area)) (holder gs (p - length f.area)) (lengths_same fs gs h.2 (p - length f.area) r) (ltb p (length f.area))

-- with more files behind, the holder of an earlier place is the same
front_step : (f : Headed) (p : ℕ) (x y : Option Holder) (b : Bool) → ltb p (length f.area) ≡ b → (b ≡ false → x ≡ y) → cond b (Some (record { file = f; within = p })) x ≡ cond b (Some (record { file = f; within = p })) y
front_step f p x y true e h = refl
front_step f p x y false e h = h refl

not_less : (p s : ℕ) → ltb p s ≡ false → s ≤ p
not_less p s h = grind arith

pub holder_front : (fs more : List Headed) (p : ℕ) → p < length (stream fs) → holder (fs ++ more) p ≡ holder fs p
holder_front [] more p h = absurd (omega arith)
holder_front (f ∷ fs) more p h =
    front_step f p (holder (fs ++ more) (p - length f.area)) (holder fs (p - length f.area)) (ltb p (length f.area)) refl
    (λ e. let l : length f.area ≤ p = not_less p (length f.area) e in holder_front fs more (p - length f.area) (omega (arith, h, l, length-append f.area (stream fs))))

-- up to a place before which the bytes are the same, both read the same
pub agree : (limit : ℕ) (fs gs more : List Headed) → HaveSameHeads fs gs → limit ≤ length (stream fs) → take limit (stream (gs ++ more)) ≡ take limit (stream fs) → AgreeUpTo limit fs (gs ++ more)
agree limit fs gs more h fits front = record {
  records = λ p bytes l. ap (held_record bytes) (holder_front gs more p (omega (arith, l, fits, same_length fs gs h))) ∙ held_same fs gs h p bytes;
  lengths = λ p r l. ap (λ o. held_length o r) (holder_front gs more p (omega (arith, l, fits, same_length fs gs h))) ∙ lengths_same fs gs h p r;
  front = front;
}

-- ---- a batch stands where it is spelled

held_stands : (o : Option Holder) (r : Record) (rest : List ℕ) → held_legal o r ≡ true → held_record (held_spelling o r ++ rest) o ≡ Some r
held_stands None r rest legal = absurd (cc)
held_stands (Some h) r rest legal = record_at-spelling Two h.file.header.serial r rest legal

held_size : (o : Option Holder) (r : Record) → length (held_spelling o r) ≡ held_length o r
held_size None r = refl
held_size (Some h) r = length-spelling Two h.file.header.serial r

pub batch_stands : (fs : List Headed) (p : ℕ) (rs : List Record) (rest : List ℕ) → LegalFrom fs p rs → drop p (stream fs) ≡ spelled_from fs p rs ++ rest → Stand fs p (placed_from fs p rs)
batch_stands fs p [] rest legal e = tt
batch_stands fs p (r ∷ rs) rest legal e =
    let text : List ℕ = held_spelling (holder fs p) r in
    let len : ℕ = length_in fs p r in
    let size : length text ≡ len = held_size (holder fs p) r in
    let more : List ℕ = spelled_from fs (p + len) rs in
    let whole : drop p (stream fs) ≡ text ++ (more ++ rest) = e ∙ append_assoc text more rest in
    let behind : drop (p + len) (stream fs) ≡ more ++ rest = sym (drop-drop len p (stream fs)) ∙ ap (drop len) whole ∙ ap (λ k. drop k (text ++ (more ++ rest))) (sym size) ∙ drop-append_seam text (more ++ rest) in
    (refl, ap (λ (b : List ℕ). held_record b (holder fs p)) whole ∙ held_stands (holder fs p) r (more ++ rest) legal.0, refl, batch_stands fs (p + len) rs rest legal.1 behind)

-- records within the stream are legal where they are held
pub legal_held : (o : Option Holder) (r : Record) → IsHeld o → IsTrue (is_legal Two r) → IsTrue (held_legal o r)
legal_held o r h legal = subst (λ x. IsTrue (held_legal x r)) (sym h.is) legal

-- ---- joined

pub stand_append : (fs : List Headed) (p : ℕ) (xs ys : List Placed) → Stand fs p xs → Stand fs (end_from p xs) ys → Stand fs p (xs ++ ys)
stand_append fs p [] ys h k = k
stand_append fs p (x ∷ xs) ys h k = (h.0, h.1, h.2, stand_append fs x.after xs ys h.3 k)

pub end_append : (p : ℕ) (xs ys : List Placed) → end_from p (xs ++ ys) ≡ end_from (end_from p xs) ys
end_append p [] ys = refl
end_append p (x ∷ xs) ys = end_append x.after xs ys

-- what stood before, and then the batch
pub stand_more : (limit : ℕ) (fs gs : List Headed) (kept more : List Placed) → AgreeUpTo limit fs gs → Stand fs 0 kept → end_from 0 kept ≡ limit → Stand gs limit more → Stand gs 0 (kept ++ more)
stand_more limit fs gs kept more agrees stand ends batch =
    stand_append gs 0 kept more (stand_there limit fs gs agrees 0 kept stand (omega (arith, ends))) (subst (λ p. Stand gs p more) (sym ends) batch)
