-- Moving the records in front of the holes, one exchange at a time.
use Rattle.std.proofs.Common.{◌≡◌, ℕ, zero, suc, ◌<◌, List, [], ◌∷◌, length, get_or, slice_get, None, is_some, refl, sym, ◌∙◌, arith}
use Rattle.std.specs.List.{swap, SwappedAt}
use Rattle.std.proofs.lemmas.List.Edits.{swap_is, swapped_from_swap}
use Rattle.qls_enqmap.specs.Slots.{Slots, record_in}

pub swapped_at : {X : Type 0} (xs ys : List X) (a b : ℕ) → a < length xs → b < length xs → ys ≡ swap xs a b → SwappedAt xs ys a b
swapped_at xs ys a b p q e = (
  λ d. (swapped_from_swap xs ys a b d p q e).0,
  λ d. (swapped_from_swap xs ys a b d p q e).1,
  λ i d n m. (swapped_from_swap xs ys a b d p q e).2 i n m,
  λ d. e ∙ sym (swap_is xs a b d p q),
)

-- the slot at a place has a record
pub slot_held : (es : Slots) (i : ℕ) → is_some (record_in (slice_get es i)) ≡ is_some (get_or es i (0, None)).1
slot_held [] i = refl
slot_held (e ∷ es) zero = refl
slot_held (e ∷ es) (suc i) = slot_held es i

-- what is read within a list doesn't depend on the default
pub own_default : {X : Type 0} (xs : List X) (i : ℕ) (d : X) → i < length xs → get_or xs i d ≡ get_or xs i (get_or xs i d)
own_default [] i d l = absurd (omega arith)
own_default (x ∷ xs) zero d l = refl
own_default (x ∷ xs) (suc i) d l = own_default xs i d (omega arith)
