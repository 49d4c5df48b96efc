-- Copies of the messages that are held, one after another.
use Rattle.std.proofs.Common.{◌≡◌, ℕ, zero, suc, List, [], ◌∷◌, ◌++◌, length, drop, Option, Some, None, refl, sym, ap, ◌∙◌, arith, append_assoc, append-nil, length-append}
use Rattle.std.specs.Prelude.{slice_get}
use Rattle.qls_model.specs.declared.machine.Message.{Message}
use Rattle.qls_enqmap.specs.declared.Held.{Held}
use Rattle.qls_replay.specs.Held.{message_of, messages_of}

some_same : {A : Type 0} (x y : A) → ◌≡◌ {A = Option A} (Some y) (Some x) → y ≡ x
some_same x y e = cc

none_there : {A : Type 0} (x : A) → ◌≡◌ {A = Option A} None (Some x) → ⊥
none_there x e = cc

drop_at : {A : Type 0} (hs : List A) (k : ℕ) (h : A) → slice_get hs k ≡ Some h → drop k hs ≡ h ∷ drop (suc k) hs
drop_at [] k h e = absurd (none_there h e)
drop_at {A} (g ∷ hs) zero h e = ap (λ (z : A). z ∷ hs) (some_same h g e)
drop_at (g ∷ hs) (suc k) h e = drop_at hs k h e

drop_past : {A : Type 0} (hs : List A) (k : ℕ) → slice_get hs k ≡ None → drop k hs ≡ []
drop_past [] zero e = refl
drop_past [] (suc k) e = refl
drop_past (g ∷ hs) zero e = absurd (none_there g (sym e))
drop_past (g ∷ hs) (suc k) e = drop_past hs k e

pub copied_next : (xs : List Message) (m : Message) (h : Held) (hs : List Held) → slice_get hs (length xs) ≡ Some h → m ≡ message_of h → xs ++ messages_of (drop (length xs) hs) ≡ messages_of hs
    → (xs ++ m ∷ []) ++ messages_of (drop (length (xs ++ m ∷ [])) hs) ≡ messages_of hs
copied_next xs m h hs there is so =
    let count : length (xs ++ m ∷ []) ≡ suc (length xs) = omega (arith, length-append xs (m ∷ [])) in
    append_assoc xs (m ∷ []) (messages_of (drop (length (xs ++ m ∷ [])) hs)) ∙ ap (λ n. xs ++ m ∷ messages_of (drop n hs)) count ∙ ap (λ (k : Message). xs ++ k ∷ messages_of (drop (suc (length xs)) hs)) is
    ∙ ap (λ (gs : List Held). xs ++ messages_of gs) (sym (drop_at hs (length xs) h there)) ∙ so

pub copied_all : (xs : List Message) (hs : List Held) → slice_get hs (length xs) ≡ None → xs ++ messages_of (drop (length xs) hs) ≡ messages_of hs → xs ≡ messages_of hs
copied_all xs hs none so = sym (append-nil xs) ∙ ap (λ (gs : List Held). xs ++ messages_of gs) (sym (drop_past hs (length xs) none)) ∙ so
