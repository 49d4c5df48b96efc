-- A queue that is taken out of its place: the queues stay in order, and each other name finds what it found.
use Rattle.std.proofs.Common.{◌≡◌, ℕ, zero, suc, Bool, true, false, not, cond, List, [], ◌∷◌, map, Option, Some, None, refl, sym, ap, subst, ◌∙◌}
use Rattle.std.specs.List.{AllByRecursion, remove, slice_get}
use Rattle.qls_model.specs.Bytes.{same, comes_before}
use Rattle.qls_model.specs.Machine.{without_queue}
use Rattle.qls_model.proofs.XidKeys.{same_true, same_self}
use Rattle.qls_queue.specs.Live.{LiveState}
use Rattle.qls_journals.specs.State.{queue_held, names_of, NamesRise}
use Rattle.qls_journals.proofs.Names.{held_of, Before, before_differs, behind_differs, none_held, Lacks}

some_is : {A : Type 0} {x y : A} → Some x ≡ Some y → x ≡ y
some_is e = cc

abbrev AllAfter : List ℕ → List LiveState → Type 0
AllAfter n us = AllByRecursion (λ m. comes_before n m ≡ true) (names_of us)

after_at : (n : List ℕ) (us : List LiveState) (at : ℕ) (q : LiveState) → AllAfter n us → slice_get us at ≡ Some q → Before n q.queue.name
after_at n [] at q h e = absurd (cc)
after_at n (u ∷ us) zero q h e = subst (λ (v : LiveState). Before n v.queue.name) (some_is e) h.0
after_at n (u ∷ us) (suc at) q h e = after_at n us at q h.1 e

pub all_remove : (P : LiveState → Type 0) (qs : List LiveState) (at : ℕ) → AllByRecursion P qs → AllByRecursion P (remove qs at)
all_remove P [] zero h = tt
all_remove P [] (suc at) h = tt
all_remove P (p ∷ qs) zero h = h.1
all_remove P (p ∷ qs) (suc at) h = (h.0, all_remove P qs at h.1)

names_remove : (n : List ℕ) (qs : List LiveState) (at : ℕ) → AllAfter n qs → AllAfter n (remove qs at)
names_remove n [] zero h = tt
names_remove n [] (suc at) h = tt
names_remove n (p ∷ qs) zero h = h.1
names_remove n (p ∷ qs) (suc at) h = (h.0, names_remove n qs at h.1)

pub rises_remove : (qs : List LiveState) (at : ℕ) → NamesRise (names_of qs) → NamesRise (names_of (remove qs at))
rises_remove [] zero h = tt
rises_remove [] (suc at) h = tt
rises_remove (p ∷ qs) zero h = h.1
rises_remove (p ∷ qs) (suc at) h = (names_remove p.queue.name qs at h.0, rises_remove qs at h.1)

-- those behind a name are others
behind_other : (n : List ℕ) (us : List LiveState) → AllAfter n us → AllByRecursion (λ u. same n u.queue.name ≡ false) us
behind_other n [] h = tt
behind_other n (u ∷ us) h = (before_differs n u.queue.name h.0, behind_other n us h.1)

lack_behind : (n : List ℕ) (us : List LiveState) → AllAfter n us → Lacks n us
lack_behind n [] h = tt
lack_behind n (u ∷ us) h = (behind_differs u.queue.name n h.0, lack_behind n us h.1)

-- the queues that are left have other names
pub others_left : (qs : List LiveState) (at : ℕ) (q : LiveState) → NamesRise (names_of qs) → slice_get qs at ≡ Some q → AllByRecursion (λ u. same q.queue.name u.queue.name ≡ false) (remove qs at)
others_left [] at q rise e = absurd (cc)
others_left (u ∷ us) zero q rise e = behind_other q.queue.name us (subst (λ (v : LiveState). AllAfter v.queue.name us) (some_is e) rise.0)
others_left (u ∷ us) (suc at) q rise e = (behind_differs q.queue.name u.queue.name (after_at u.queue.name us at q rise.0 e), others_left us at q rise.1 e)

kept_all : (n : List ℕ) (us : List LiveState) → Lacks n us → without_queue n (map held_of us) ≡ map held_of us
kept_all n [] h = refl
kept_all n (u ∷ us) h = ap (λ b. cond (not b) (u.queue ∷ without_queue n (map held_of us)) (without_queue n (map held_of us))) h.0 ∙ ap (λ vs. u.queue ∷ vs) (kept_all n us h.1)

-- the machine takes the same queue out
pub queues_remove : (qs : List LiveState) (at : ℕ) (q : LiveState) → NamesRise (names_of qs) → slice_get qs at ≡ Some q → without_queue q.queue.name (map held_of qs) ≡ map held_of (remove qs at)
queues_remove [] at q rise e = absurd (cc)
queues_remove (u ∷ us) zero q rise e =
    ap (λ b. cond (not b) (u.queue ∷ without_queue q.queue.name (map held_of us)) (without_queue q.queue.name (map held_of us)))
    (ap (λ (v : LiveState). same v.queue.name q.queue.name) (some_is e) ∙ same_self q.queue.name)
    ∙ kept_all q.queue.name us (lack_behind q.queue.name us (subst (λ (v : LiveState). AllAfter v.queue.name us) (some_is e) rise.0))
queues_remove (u ∷ us) (suc at) q rise e =
    ap (λ b. cond (not b) (u.queue ∷ without_queue q.queue.name (map held_of us)) (without_queue q.queue.name (map held_of us))) (before_differs u.queue.name q.queue.name (after_at u.queue.name us at q rise.0 e))
    ∙ ap (λ vs. u.queue ∷ vs) (queues_remove us at q rise.1 e)

-- ---- the look-up by name

first_gone : (n m : List ℕ) (p : LiveState) (us : List LiveState) (b : Bool) → same m n ≡ b → p.queue.name ≡ m → Lacks m us → queue_held n us ≡ cond b None (cond (same p.queue.name n) (Some p) (queue_held n us))
first_gone n m p us true e is lacks = ap (λ k. queue_held k us) (sym (same_true m n e)) ∙ none_held m us lacks
first_gone n m p us false e is lacks = sym (ap (λ b. cond b (Some p) (queue_held n us)) (ap (λ k. same k n) is ∙ e))

either : {A : Type 0} (p q : Bool) (x : A) (rest : Option A) → (p ≡ true → q ≡ true → ⊥) → cond p (Some x) (cond q None rest) ≡ cond q None (cond p (Some x) rest)
either true true x rest apart = absurd (apart refl refl)
either true false x rest apart = refl
either false true x rest apart = refl
either false false x rest apart = refl

meet : (a b n : List ℕ) → same a b ≡ false → same a n ≡ true → same b n ≡ true → ⊥
meet a b n other x y = clash (sym (same_self a) ∙ ap (same a) (same_true a n x ∙ sym (same_true b n y)) ∙ other)
  where
    clash : true ≡ false → ⊥
    clash e = cc

pub held_remove : (n : List ℕ) (qs : List LiveState) (at : ℕ) (q : LiveState) → NamesRise (names_of qs) → slice_get qs at ≡ Some q → queue_held n (remove qs at) ≡ cond (same q.queue.name n) None (queue_held n qs)
held_remove n [] at q rise e = absurd (cc)
held_remove n (u ∷ us) zero q rise e =
    first_gone n q.queue.name u us (same q.queue.name n) refl (ap (λ (v : LiveState). v.queue.name) (some_is e)) (lack_behind q.queue.name us (subst (λ (v : LiveState). AllAfter v.queue.name us) (some_is e) rise.0))
held_remove n (u ∷ us) (suc at) q rise e =
    ap (cond (same u.queue.name n) (Some u)) (held_remove n us at q rise.1 e)
    ∙ either (same u.queue.name n) (same q.queue.name n) u (queue_held n us) (meet u.queue.name q.queue.name n (before_differs u.queue.name q.queue.name (after_at u.queue.name us at q rise.0 e)))
