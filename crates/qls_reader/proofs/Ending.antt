-- Where a reading ends, by spots and by files.
use Rattle.std.proofs.Common.{◌≡◌, ℕ, ◌+◌, ◌-◌, ◌<◌, ◌≤◌, Bool, true, false, cond, ltb, List, [], ◌∷◌, length, Option, Some, refl, sym, ap, ◌∙◌, arith}
use Rattle.qls_meaning.specs.Journals.{Headed}
use Rattle.qls_meaning.specs.Reading.{Holder, holder, number_of, place_of}
use Rattle.qls_meaning.specs.Damage.{ends_in}
use Rattle.qls_reader.specs.declared.spot.FileSpot.{FileSpot}
use Rattle.qls_reader.specs.declared.spot.EndSpot.{EndSpot}
use Rattle.qls_reader.specs.Spots.{data_length, all_length, end_spot, AreSpotsOf}

chosen : {A B : Type 0} (f : A → B) (b : Bool) (x y : A) → f (cond b x y) ≡ cond b (f x) (f y)
chosen f true x y = refl
chosen f false x y = refl

pub end_file : (p : ℕ) (s : FileSpot) (ss : List FileSpot) (f : Headed) (fs : List Headed) → AreSpotsOf (s ∷ ss) (f ∷ fs) → (end_spot (s ∷ ss) p).file ≡ (ends_in p f fs).header.number
end_file p s [] f [] h = sym h.0.number
end_file p s [] f (g ∷ fs) h = absurd h.1
end_file p s (t ∷ ss) f [] h = absurd h.1
end_file p s (t ∷ ss) f (g ∷ fs) h =
    let first : s.number ≡ f.header.number = sym h.0.number in
    let size : data_length s ≡ length f.area = sym h.0.size in
    let rest : (end_spot (t ∷ ss) (p - data_length s)).file ≡ (ends_in (p - length f.area) g fs).header.number =
    ap (λ n. (end_spot (t ∷ ss) (p - n)).file) size ∙ end_file (p - length f.area) t ss g fs h.1 in
    chosen (λ (e : EndSpot). e.file) (ltb p (data_length s)) (record { file = s.number; at = 4096 + p }) (end_spot (t ∷ ss) (p - data_length s))
    ∙ (λ i. cond (ltb p (size i)) (first i) (rest i))
    ∙ sym (chosen (λ (k : Headed). k.header.number) (ltb p (length f.area)) f (ends_in (p - length f.area) g fs))

less : (p n : ℕ) → p < n → ltb p n ≡ true
less p n h = grind arith

not_less : (p n : ℕ) → ltb p n ≡ false → n ≤ p
not_less p n h = grind arith

abbrev spot_in : Option Holder → EndSpot
spot_in o = record { file = number_of o; at = place_of o }

-- in this file, or in a later one
in_or_behind : (p : ℕ) (f : Headed) (fs : List Headed) (end : EndSpot) (b : Bool) → ltb p (length f.area) ≡ b → (length f.area ≤ p → end ≡ spot_in (holder fs (p - length f.area)))
    → cond b (record { file = f.header.number; at = 4096 + p }) end ≡ spot_in (cond b (Some (record { file = f; within = p })) (holder fs (p - length f.area)))
in_or_behind p f fs end true e more = refl
in_or_behind p f fs end false e more = more (not_less p (length f.area) e)

pub end_place : (p : ℕ) (ss : List FileSpot) (fs : List Headed) → AreSpotsOf ss fs → p < all_length ss → end_spot ss p ≡ spot_in (holder fs p)
end_place p [] [] h l = absurd (omega arith)
end_place p [] (f ∷ fs) h l = absurd h
end_place p (s ∷ ss) [] h l = absurd h
end_place p (s ∷ []) (f ∷ []) h l =
    let number : s.number ≡ f.header.number = sym h.0.number in
    let size = h.0.size in
    let here = less p (length f.area) (omega (arith, size, l)) in
    (λ i. record { file = number i; at = 4096 + p })
    ∙ ap (λ b. spot_in (cond b (Some (record { file = f; within = p })) (holder [] (p - length f.area)))) (sym here)
end_place p (s ∷ []) (f ∷ g ∷ fs) h l = absurd h.1
end_place p (s ∷ t ∷ ss) (f ∷ []) h l = absurd h.1
end_place p (s ∷ t ∷ ss) (f ∷ g ∷ fs) h l =
    let number : s.number ≡ f.header.number = sym h.0.number in
    let size : data_length s ≡ length f.area = sym h.0.size in
    (λ i. cond (ltb p (size i)) (record { file = number i; at = 4096 + p }) (end_spot (t ∷ ss) (p - size i)))
    ∙ in_or_behind p f (g ∷ fs) (end_spot (t ∷ ss) (p - length f.area)) (ltb p (length f.area)) refl (λ le. end_place (p - length f.area) (t ∷ ss) (g ∷ fs) h.1 (omega (arith, l, le, size)))
