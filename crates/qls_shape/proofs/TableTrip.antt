-- Fields put are the fields got, fields got and put back leave the bytes, and the bytes between them stay.
use Rattle.std.proofs.Common.{◌≡◌, ℕ, zero, suc, ◌+◌, ◌-◌, ◌<◌, ◌≤◌, ◌^◌, ◌⊎◌, inl, inr, Bool, true, false, ◌||◌, eqb, eqb→eq, T, List, [], ◌∷◌, ◌++◌, length, take, drop, get_or, refl, sym, ap, ap₂, ◌∙◌, subst, arith, length-append, length-drop, drop-drop, append_assoc, take-append-drop}
use Rattle.std.proofs.Math.Seq.{take-append_seam, drop-append_seam}
use Rattle.std.proofs.lemmas.Bool.{and_parts}
use Rattle.std.proofs.Math.Seq.{take-add}
use Rattle.std.proofs.lemmas.List.{length-take-le, drop-take, take-take, get_or-take, get_or-drop}
use Rattle.std.proofs.lemmas.Nat.{le_bytes_2, le_bytes_4, le_bytes_8, from_le_bytes-to_le_bytes_2, from_le_bytes-to_le_bytes_4, from_le_bytes-to_le_bytes_8}
use Rattle.std.specs.Int.{byte_len, to_le_bytes, from_le_bytes}
use Rattle.qls_shape.specs.declared.layout.Field.{Field}
use Rattle.qls_shape.specs.Tables.{is_width, width_of, are_joined, spelled, are_in_order, Fit, IsOutside, with_number, with_numbers, numbers_of, number_in}
use Rattle.qls_shape.proofs.TableLaws.{first_follows}

-- ---- widths

-- what holds at each width
by_width : (P : ℕ → Type 0) → P 2 → P 4 → P 8 → (n : ℕ) → is_width n ≡ true → P n
by_width P two four eight n h = by (eqb n 2) (eqb n 4) (eqb n 8) refl refl refl h
  where
    at : (k : ℕ) → eqb n k ≡ true → P k → P n
    at k e p = subst P (sym (eqb→eq n k (subst T (sym e) tt))) p

    by : (a b c : Bool) → eqb n 2 ≡ a → eqb n 4 ≡ b → eqb n 8 ≡ c → (a || b || c) ≡ true → P n
    by true b c x y z h = at 2 x two
    by false true c x y z h = at 4 y four
    by false false true x y z h = at 8 z eight
    by false false false x y z h = absurd (cc)

pub byte_len-width_of : (n : ℕ) → is_width n ≡ true → byte_len (width_of n) ≡ n
byte_len-width_of = by_width (λ n. byte_len (width_of n) ≡ n) refl refl refl

length-to_le_bytes : (n x : ℕ) → is_width n ≡ true → length (to_le_bytes (width_of n) x) ≡ n
length-to_le_bytes n x = by_width (λ n. length (to_le_bytes (width_of n) x) ≡ n) refl refl refl n

number_back : (n x : ℕ) → is_width n ≡ true → x < 256 ^ n → from_le_bytes (width_of n) (to_le_bytes (width_of n) x) ≡ x
number_back n x =
    by_width (λ n. x < 256 ^ n → from_le_bytes (width_of n) (to_le_bytes (width_of n) x) ≡ x)
    (from_le_bytes-to_le_bytes_2 x) (from_le_bytes-to_le_bytes_4 x) (from_le_bytes-to_le_bytes_8 x) n

pub bytes_back : (n : ℕ) (bytes : List ℕ) → is_width n ≡ true → length bytes ≡ n → ((i : ℕ) → get_or bytes i 0 < 256) → to_le_bytes (width_of n) (from_le_bytes (width_of n) bytes) ≡ bytes
bytes_back n bytes =
    by_width (λ n. length bytes ≡ n → ((i : ℕ) → get_or bytes i 0 < 256) → to_le_bytes (width_of n) (from_le_bytes (width_of n) bytes) ≡ bytes)
    (λ l b. le_bytes_2 bytes _ l b refl) (λ l b. le_bytes_4 bytes _ l b refl) (λ l b. le_bytes_8 bytes _ l b refl) n

-- ---- one number put

-- what stands before a field, in it and behind it, where its number was put
module _ (f : Field) (n : ℕ) (bytes : List ℕ) (width : is_width f.width ≡ true) (room : f.at + f.width ≤ length bytes) where
  front_size : length (take f.at bytes) ≡ f.at
  front_size = omega (arith, length-take-le f.at bytes (omega (arith, room)))

  spelling_size : length (to_le_bytes (width_of f.width) n) ≡ f.width
  spelling_size = length-to_le_bytes f.width n width

  before_put : take f.at (with_number f n bytes) ≡ take f.at bytes
  before_put =
      ap₂ take (sym front_size) (append_assoc (take f.at bytes) (to_le_bytes (width_of f.width) n) (drop (f.at + f.width) bytes))
      ∙ take-append_seam (take f.at bytes) (to_le_bytes (width_of f.width) n ++ drop (f.at + f.width) bytes)

  there_put : take f.width (drop f.at (with_number f n bytes)) ≡ to_le_bytes (width_of f.width) n
  there_put =
      ap (take f.width) (ap₂ drop (sym front_size) (append_assoc (take f.at bytes) (to_le_bytes (width_of f.width) n) (drop (f.at + f.width) bytes))
      ∙ drop-append_seam (take f.at bytes) (to_le_bytes (width_of f.width) n ++ drop (f.at + f.width) bytes))
      ∙ ap (λ k. take k (to_le_bytes (width_of f.width) n ++ drop (f.at + f.width) bytes)) (sym spelling_size)
      ∙ take-append_seam (to_le_bytes (width_of f.width) n) (drop (f.at + f.width) bytes)

  whole_front : f.at + f.width ≡ length (take f.at bytes ++ to_le_bytes (width_of f.width) n)
  whole_front = omega (arith, length-append (take f.at bytes) (to_le_bytes (width_of f.width) n), front_size, spelling_size)

  behind_put : drop (f.at + f.width) (with_number f n bytes) ≡ drop (f.at + f.width) bytes
  behind_put =
      ap (λ k. drop k (with_number f n bytes)) whole_front
      ∙ drop-append_seam (take f.at bytes ++ to_le_bytes (width_of f.width) n) (drop (f.at + f.width) bytes)

  up_to_put : take (f.at + f.width) (with_number f n bytes) ≡ take f.at bytes ++ to_le_bytes (width_of f.width) n
  up_to_put =
      ap (λ k. take k (with_number f n bytes)) whole_front
      ∙ take-append_seam (take f.at bytes ++ to_le_bytes (width_of f.width) n) (drop (f.at + f.width) bytes)

  length_put : length (with_number f n bytes) ≡ length bytes
  length_put =
      omega (arith, length-append (take f.at bytes ++ to_le_bytes (width_of f.width) n) (drop (f.at + f.width) bytes), whole_front, length-drop (f.at + f.width) bytes, room)

  number_put : n < 256 ^ f.width → number_in (with_number f n bytes) f ≡ n
  number_put fits =
      ap (λ k. from_le_bytes (width_of f.width) (take k (drop f.at (with_number f n bytes)))) (byte_len-width_of f.width width)
      ∙ ap (from_le_bytes (width_of f.width)) there_put
      ∙ number_back f.width n width fits

-- ---- one number got and put back

pub small_drop : (bytes : List ℕ) (k : ℕ) → ((i : ℕ) → get_or bytes i 0 < 256) → (i : ℕ) → get_or (drop k bytes) i 0 < 256
small_drop bytes k small i = subst (λ (x : ℕ). x < 256) (sym (get_or-drop k bytes i 0)) (small (k + i))

pub small_take : (k : ℕ) (bytes : List ℕ) → ((i : ℕ) → get_or bytes i 0 < 256) → (i : ℕ) → get_or (take k bytes) i 0 < 256
small_take zero bytes small i = omega arith
small_take (suc k) [] small i = omega arith
small_take (suc k) (x ∷ xs) small zero = small 0
small_take (suc k) (x ∷ xs) small (suc i) = small_take k xs (λ j. small (suc j)) i

put_back : (f : Field) (bytes : List ℕ) → is_width f.width ≡ true → f.at + f.width ≤ length bytes → ((i : ℕ) → get_or bytes i 0 < 256) → with_number f (number_in bytes f) bytes ≡ bytes
put_back f bytes width room small =
    let part : List ℕ = take f.width (drop f.at bytes) in
    let size : length part ≡ f.width = length-take-le f.width (drop f.at bytes) (omega (arith, length-drop f.at bytes, room)) in
    let same : to_le_bytes (width_of f.width) (number_in bytes f) ≡ part =
    ap (λ k. to_le_bytes (width_of f.width) (from_le_bytes (width_of f.width) (take k (drop f.at bytes)))) (byte_len-width_of f.width width)
    ∙ bytes_back f.width part width size (small_take f.width (drop f.at bytes) (small_drop bytes f.at small)) in
    ap (λ l. take f.at bytes ++ l ++ drop (f.at + f.width) bytes) same
    ∙ ap (λ l. l ++ drop (f.at + f.width) bytes) (sym (take-add f.at f.width bytes))
    ∙ take-append-drop (f.at + f.width) bytes

-- a number is read from the bytes up to its end
same_number : (f : Field) (xs ys : List ℕ) → is_width f.width ≡ true → take (f.at + f.width) xs ≡ take (f.at + f.width) ys → number_in xs f ≡ number_in ys f
same_number f xs ys width same =
    let part : (zs : List ℕ) → number_in zs f ≡ from_le_bytes (width_of f.width) (drop f.at (take (f.at + f.width) zs)) =
    λ zs. ap (λ k. from_le_bytes (width_of f.width) (take k (drop f.at zs))) (byte_len-width_of f.width width) ∙ ap (from_le_bytes (width_of f.width)) (sym (drop-take f.at f.width zs)) in
    part xs ∙ ap (λ l. from_le_bytes (width_of f.width) (drop f.at l)) same ∙ sym (part ys)

-- a place before a field, or behind it, keeps its byte
stays_put : (f : Field) (n : ℕ) (bytes : List ℕ) (i : ℕ) → is_width f.width ≡ true → f.at + f.width ≤ length bytes → (i < f.at) ⊎ (f.at + f.width ≤ i) → get_or (with_number f n bytes) i 0 ≡ get_or bytes i 0
stays_put f n bytes i width room (inl before) =
    sym (get_or-take f.at (with_number f n bytes) i 0 before) ∙ ap (λ l. get_or l i 0) (before_put f n bytes width room) ∙ get_or-take f.at bytes i 0 before
stays_put f n bytes i width room (inr behind) =
    let e = f.at + f.width in
    let place : e + (i - e) ≡ i = omega (arith, behind) in
    let there : (l : List ℕ) → get_or l i 0 ≡ get_or (drop e l) (i - e) 0 = λ l. ap (λ k. get_or l k 0) (sym place) ∙ sym (get_or-drop e l (i - e) 0) in
    there (with_number f n bytes) ∙ ap (λ l. get_or l (i - e) 0) (behind_put f n bytes width room) ∙ sym (there bytes)

-- ---- all of a table's numbers

pub length-with_numbers : (from total : ℕ) (fields : List Field) (numbers bytes : List ℕ) → are_in_order from total fields ≡ true → total ≤ length bytes → length (with_numbers fields numbers bytes) ≡ length bytes
length-with_numbers from total [] numbers bytes order room = refl
length-with_numbers from total (f ∷ fs) [] bytes order room = refl
length-with_numbers from total (f ∷ fs) (n ∷ numbers) bytes order room =
    let first = first_follows from total f fs order in
    let fits : f.at + f.width ≤ length bytes = omega (arith, first.0.within, room) in
    let size : length (with_number f n bytes) ≡ length bytes = length_put f n bytes first.0.width fits in
    length-with_numbers (f.at + f.width) total fs numbers (with_number f n bytes) first.1 (omega (arith, size, room)) ∙ size

-- what stands before the fields stays
before_fields : (from total : ℕ) (fields : List Field) (numbers bytes : List ℕ) → are_in_order from total fields ≡ true → total ≤ length bytes → take from (with_numbers fields numbers bytes) ≡ take from bytes
before_fields from total [] numbers bytes order room = refl
before_fields from total (f ∷ fs) [] bytes order room = refl
before_fields from total (f ∷ fs) (n ∷ numbers) bytes order room =
    let first = first_follows from total f fs order in
    let fits : f.at + f.width ≤ length bytes = omega (arith, first.0.within, room) in
    let next : List ℕ = with_number f n bytes in
    let size : length next ≡ length bytes = length_put f n bytes first.0.width fits in
    let later : take (f.at + f.width) (with_numbers fs numbers next) ≡ take (f.at + f.width) next = before_fields (f.at + f.width) total fs numbers next first.1 (omega (arith, size, room)) in
    let short : from ≤ f.at + f.width = omega (arith, first.0.after) in
    sym (take-take from (f.at + f.width) (with_numbers fs numbers next) short)
    ∙ ap (take from) later
    ∙ take-take from (f.at + f.width) next short
    ∙ sym (take-take from f.at next first.0.after)
    ∙ ap (take from) (before_put f n bytes first.0.width fits)
    ∙ take-take from f.at bytes first.0.after

-- Numbers put are the numbers got.
pub numbers_of-with_numbers : (from total : ℕ) (fields : List Field) (numbers bytes : List ℕ) → are_in_order from total fields ≡ true → length numbers ≡ length fields → Fit fields numbers → total ≤ length bytes
    → numbers_of fields (with_numbers fields numbers bytes) ≡ numbers
numbers_of-with_numbers from total [] [] bytes order same fit room = refl
numbers_of-with_numbers from total [] (n ∷ numbers) bytes order same fit room = absurd (omega (arith, same))
numbers_of-with_numbers from total (f ∷ fs) [] bytes order same fit room = absurd (omega (arith, same))
numbers_of-with_numbers from total (f ∷ fs) (n ∷ numbers) bytes order same fit room =
    let first = first_follows from total f fs order in
    let fits : f.at + f.width ≤ length bytes = omega (arith, first.0.within, room) in
    let next : List ℕ = with_number f n bytes in
    let size : length next ≡ length bytes = length_put f n bytes first.0.width fits in
    let room' : total ≤ length next = omega (arith, size, room) in
    ap₂ (λ x xs. x ∷ xs)
    (same_number f (with_numbers fs numbers next) next first.0.width (before_fields (f.at + f.width) total fs numbers next first.1 room')
    ∙ number_put f n bytes first.0.width fits fit.0)
    (numbers_of-with_numbers (f.at + f.width) total fs numbers next first.1 (omega (arith, same)) fit.1 room')

-- Numbers got and put back leave the bytes.
pub with_numbers-numbers_of : (from total : ℕ) (fields : List Field) (bytes : List ℕ) → are_in_order from total fields ≡ true → total ≤ length bytes → ((i : ℕ) → get_or bytes i 0 < 256)
    → with_numbers fields (numbers_of fields bytes) bytes ≡ bytes
with_numbers-numbers_of from total [] bytes order room small = refl
with_numbers-numbers_of from total (f ∷ fs) bytes order room small =
    let first = first_follows from total f fs order in
    ap (with_numbers fs (numbers_of fs bytes)) (put_back f bytes first.0.width (omega (arith, first.0.within, room)) small)
    ∙ with_numbers-numbers_of (f.at + f.width) total fs bytes first.1 room small

-- A byte in no field stays.
pub outside_stays : (from total : ℕ) (fields : List Field) (numbers bytes : List ℕ) (i : ℕ) → are_in_order from total fields ≡ true → total ≤ length bytes → IsOutside i fields → get_or (with_numbers fields numbers bytes) i 0 ≡ get_or bytes i 0
outside_stays from total [] numbers bytes i order room outside = refl
outside_stays from total (f ∷ fs) [] bytes i order room outside = refl
outside_stays from total (f ∷ fs) (n ∷ numbers) bytes i order room outside =
    let first = first_follows from total f fs order in
    let fits : f.at + f.width ≤ length bytes = omega (arith, first.0.within, room) in
    let size : length (with_number f n bytes) ≡ length bytes = length_put f n bytes first.0.width fits in
    outside_stays (f.at + f.width) total fs numbers (with_number f n bytes) i first.1 (omega (arith, size, room)) outside.1
    ∙ stays_put f n bytes i first.0.width fits outside.0

-- ---- a table without gaps

pub record Joined (from total : ℕ) (f : Field) (fs : List Field) : Type 0 where
  pub width : is_width f.width ≡ true
  pub begins : from ≡ f.at
  pub rest : are_joined (f.at + f.width) total fs ≡ true

first_joined : (from total : ℕ) (f : Field) (fs : List Field) → are_joined from total (f ∷ fs) ≡ true → Joined from total f fs
first_joined from total f fs h =
    let a = and_parts _ _ h in
    let b = and_parts _ _ a.0 in
    record { width = b.0; begins = eqb→eq from f.at (subst T (sym b.1) tt); rest = a.1 }

joined_ends : (from total : ℕ) (fields : List Field) → are_joined from total fields ≡ true → from ≤ total
joined_ends from total [] h = let same : from ≡ total = eqb→eq from total (subst T (sym h) tt) in omega (arith, same)
joined_ends from total (f ∷ fs) h =
    let first = first_joined from total f fs h in
    let later = joined_ends (f.at + f.width) total fs first.rest in
    omega (arith, first.begins, later)

-- Numbers put into fields that follow one another are their bytes, one after another.
pub with_numbers-joined : (from total : ℕ) (fields : List Field) (numbers bytes : List ℕ) → are_joined from total fields ≡ true → length numbers ≡ length fields → total ≤ length bytes
    → with_numbers fields numbers bytes ≡ take from bytes ++ (spelled fields numbers ++ drop total bytes)
with_numbers-joined from total [] numbers bytes joined same room =
    let ends : from ≡ total = eqb→eq from total (subst T (sym joined) tt) in
    sym (take-append-drop total bytes) ∙ ap (λ k. take k bytes ++ drop total bytes) (sym ends)
with_numbers-joined from total (f ∷ fs) [] bytes joined same room = absurd (omega (arith, same))
with_numbers-joined from total (f ∷ fs) (n ∷ numbers) bytes joined same room =
    let first = first_joined from total f fs joined in
    let e = f.at + f.width in
    let ends : e ≤ total = joined_ends e total fs first.rest in
    let fits : f.at + f.width ≤ length bytes = omega (arith, ends, room) in
    let next : List ℕ = with_number f n bytes in
    let le : List ℕ = to_le_bytes (width_of f.width) n in
    let size : length next ≡ length bytes = length_put f n bytes first.width fits in
    let place : e + (total - e) ≡ total = omega (arith, ends) in
    let behind : (l : List ℕ) → drop total l ≡ drop (total - e) (drop e l) = λ l. ap (λ k. drop k l) (sym place) ∙ sym (drop-drop (total - e) e l) in
    let rest : drop total next ≡ drop total bytes = behind next ∙ ap (drop (total - e)) (behind_put f n bytes first.width fits) ∙ sym (behind bytes) in
    with_numbers-joined e total fs numbers next first.rest (omega (arith, same)) (omega (arith, size, room))
    ∙ ap₂ (λ l r. l ++ (spelled fs numbers ++ r)) (up_to_put f n bytes first.width fits) rest
    ∙ append_assoc (take f.at bytes) le (spelled fs numbers ++ drop total bytes)
    ∙ ap (λ l. take f.at bytes ++ l) (sym (append_assoc le (spelled fs numbers) (drop total bytes)))
    ∙ ap (λ k. take k bytes ++ ((le ++ spelled fs numbers) ++ drop total bytes)) (sym first.begins)
