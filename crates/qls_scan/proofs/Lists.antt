-- What is left of a list behind one of its items.
use Rattle.std.proofs.Common.{◌≡◌, ℕ, ◌+◌, ◌<◌, List, ◌∷◌, length, drop, get_or, drop-cons, add-one, sym, ap, ◌∙◌}

pub drop_next : {A : Type 0} (xs : List A) (k : ℕ) (d : A) → k < length xs → drop k xs ≡ get_or xs k d ∷ drop (k + 1) xs
drop_next xs k d h = drop-cons xs k d h ∙ ap (λ n. get_or xs k d ∷ drop n xs) (sym (add-one k))
