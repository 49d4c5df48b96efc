-- Copies of a list's entries, one after another.
use Rattle.std.proofs.Common.{◌≡◌, ℕ, zero, suc, List, [], ◌∷◌, ◌++◌, length, drop, Some, None, refl, sym, ap, ◌∙◌, arith, append_assoc, append-nil, length-append}
use Rattle.std.specs.Prelude.{slice_get}
use Rattle.qls_decide.specs.declared.ListEntry.{ListEntry}

some_is : {A : Type 0} {x y : A} → Some x ≡ Some y → x ≡ y
some_is e = cc

drop_at : {A : Type 0} (es : List A) (k : ℕ) (e : A) → slice_get es k ≡ Some e → drop k es ≡ e ∷ drop (suc k) es
drop_at [] k e h = absurd (cc)
drop_at {A} (x ∷ es) zero e h = ap (λ (z : A). z ∷ es) (some_is h)
drop_at (x ∷ es) (suc k) e h = drop_at es k e h

drop_past : {A : Type 0} (es : List A) (k : ℕ) → slice_get es k ≡ None → drop k es ≡ []
drop_past [] zero h = refl
drop_past [] (suc k) h = refl
drop_past (x ∷ es) zero h = absurd (cc)
drop_past (x ∷ es) (suc k) h = drop_past es k h

pub copied_next : (xs : List ListEntry) (e : ListEntry) (es : List ListEntry) → slice_get es (length xs) ≡ Some e → xs ++ drop (length xs) es ≡ es → (xs ++ e ∷ []) ++ drop (length (xs ++ e ∷ [])) es ≡ es
copied_next xs e es there so =
    let count : length (xs ++ e ∷ []) ≡ suc (length xs) = omega (arith, length-append xs (e ∷ [])) in
    append_assoc xs (e ∷ []) (drop (length (xs ++ e ∷ [])) es) ∙ ap (λ n. xs ++ e ∷ drop n es) count
    ∙ ap (λ (gs : List ListEntry). xs ++ gs) (sym (drop_at es (length xs) e there)) ∙ so

pub copied_all : (xs es : List ListEntry) → slice_get es (length xs) ≡ None → xs ++ drop (length xs) es ≡ es → xs ≡ es
copied_all xs es none so = sym (append-nil xs) ∙ ap (λ (gs : List ListEntry). xs ++ gs) (sym (drop_past es (length xs) none)) ∙ so
