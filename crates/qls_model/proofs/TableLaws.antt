-- Laws of the two tables.
use Rattle.std.proofs.Common.{◌≡◌, ℕ, zero, suc, ◌+◌, ◌<◌, ◌≤◌, Bool, true, false, cond, not, Some, None, List, [], ◌∷◌, length, get_or, set, insert, position, nat_lt, is_some, IsSome, refl, sym, ap, subst, ◌∙◌, arith}
use Rattle.std.proofs.lemmas.Bool.{false≢true}
use Rattle.std.proofs.lemmas.Bool.Decides.{nat_tests}
use Rattle.std.proofs.lemmas.List.Quantifiers.{position-Some}
use Rattle.std.proofs.Math.Numerals.{one-add}
use Rattle.std.specs.List.{position_or_len, AllByRecursion}
use Rattle.std.specs.Cmp.Lexicographic.{bytes_decides}
use Rattle.std.specs.Option.{unwrap_or}
use Rattle.qls_model.specs.Bytes.{same, comes_before}
use Rattle.qls_model.specs.Machine.{XidState, with_queue, with_xid, queue_named, change_queue}
use Rattle.qls_model.specs.Sound.{NamesOnce}
use Rattle.qls_model.specs.declared.machine.QueueState.{QueueState}

module _ {A : Type 0} (p : A → Bool) where
  within : (xs : List A) → position_or_len p xs ≤ length xs
  within [] = omega arith
  within (y ∷ ys) = by (p y) (within ys)
    where
      by : (b : Bool) → position_or_len p ys ≤ length ys → cond (not b) (1 + position_or_len p ys) 0 ≤ length (y ∷ ys)
      by true h = omega arith
      by false h = omega arith

  place_is : (xs : List A) → unwrap_or (position p xs) (length xs) ≡ position_or_len p xs
  place_is xs = let h : position_or_len p xs ≤ length xs = within xs in grind (arith, nat_tests)

  module _ (x : A) (placed : List A → List A) (first : placed [] ≡ x ∷ []) (next : (y : A) (ys : List A) → placed (y ∷ ys) ≡ cond (p y) (x ∷ y ∷ ys) (y ∷ placed ys)) where
    at_place : (xs : List A) → insert xs (position_or_len p xs) x ≡ placed xs
    at_place [] = sym first
    at_place (y ∷ ys) = by (p y) (at_place ys) ∙ sym (next y ys)
      where
        by : (b : Bool) → insert ys (position_or_len p ys) x ≡ placed ys → insert (y ∷ ys) (cond (not b) (1 + position_or_len p ys) 0) x ≡ cond b (x ∷ y ∷ ys) (y ∷ placed ys)
        by true h = refl
        by false h = ap (λ k. insert (y ∷ ys) k x) (one-add (position_or_len p ys)) ∙ ap (λ (r : List A). y ∷ r) h

    pub placed-insert : (xs : List A) → insert xs (unwrap_or (position p xs) (length xs)) x ≡ placed xs
    placed-insert xs = ap (λ k. insert xs k x) (place_is xs) ∙ at_place xs

pub with_queue-insert : (q : QueueState) (qs : List QueueState) → insert qs (unwrap_or (position (λ r. comes_before q.name r.name) qs) (length qs)) q ≡ with_queue q qs
with_queue-insert q qs = placed-insert (λ r. comes_before q.name r.name) q (with_queue q) refl (λ r rs. refl) qs

pub with_xid-insert : (e : XidState) (xs : List XidState) → insert xs (unwrap_or (position (λ f. comes_before e.xid f.xid) xs) (length xs)) e ≡ with_xid e xs
with_xid-insert e xs = placed-insert (λ f. comes_before e.xid f.xid) e (with_xid e) refl (λ f fs. refl) xs

-- ---- the queue at the place of its name

module _ (name : List ℕ) where
  abbrev pub named : QueueState → Bool
  named q = same q.name name

  pub find-place : (qs : List QueueState) (i : ℕ) (d : QueueState) → i < length qs → named (get_or qs i d) ≡ true → ((k : ℕ) → k < i → named (get_or qs k d) ≡ false)
      → queue_named name qs ≡ Some (get_or qs i d)
  find-place [] i d h is first = absurd (omega arith)
  find-place (q ∷ qs) zero d h is first = ap (λ b. cond b (Some q) (queue_named name qs)) is
  find-place (q ∷ qs) (suc i) d h is first =
      ap (λ b. cond b (Some q) (queue_named name qs)) (first 0 (omega arith)) ∙ find-place qs i d (omega arith) is (λ k l. first (suc k) (omega arith))

  pub find-nowhere : (qs : List QueueState) → length qs ≤ position_or_len named qs → queue_named name qs ≡ None
  find-nowhere [] h = refl
  find-nowhere (q ∷ qs) h = by (named q) (find-nowhere qs) h
    where
      by : (b : Bool) → (length qs ≤ position_or_len named qs → queue_named name qs ≡ None) → length (q ∷ qs) ≤ cond (not b) (1 + position_or_len named qs) 0 → cond b (Some q) (queue_named name qs) ≡ None
      by true ih h = absurd (omega arith)
      by false ih h = ih (omega arith)

  find-None : (qs : List QueueState) → position named qs ≡ None → queue_named name qs ≡ None
  find-None qs e = find-nowhere qs (by (nat_lt (position_or_len named qs) (length qs)) refl e)
    where
      by : (b : Bool) → nat_lt (position_or_len named qs) (length qs) ≡ b → cond b (Some (position_or_len named qs)) None ≡ None → length qs ≤ position_or_len named qs
      by true is h = absurd (cc)
      by false is h = grind (arith, nat_tests)

  pub is_there : (qs : List QueueState) → position named qs ≡ None → IsSome (queue_named name qs) → ⊥
  is_there qs e h = false≢true (ap is_some (sym (find-None qs e)) ∙ h)

  pub find-position : (qs : List QueueState) (i : ℕ) (d : QueueState) → position named qs ≡ Some i → d ≡ get_or qs i d → queue_named name qs ≡ Some d
  find-position qs i d e is =
      let at = position-Some named qs i d e in
      find-place qs i d at.0 at.1 at.2 ∙ ap (λ q. Some q) (sym is)

  module _ (f : QueueState → QueueState) where
    unchanged : (qs : List QueueState) → AllByRecursion (λ r. named r ≡ false) qs → change_queue name f qs ≡ qs
    unchanged [] h = refl
    unchanged (q ∷ qs) h = λ i. cond (h.0 i) (f q) q ∷ unchanged qs h.1 i

    pub change-place : (qs : List QueueState) (i : ℕ) (d : QueueState) → NamesOnce qs → i < length qs → named (get_or qs i d) ≡ true → ((k : ℕ) → k < i → named (get_or qs k d) ≡ false)
        → set qs i (f (get_or qs i d)) ≡ change_queue name f qs
    change-place [] i d once h is first = absurd (omega arith)
    change-place (q ∷ qs) zero d once h is first =
        let others : AllByRecursion (λ r. named r ≡ false) qs = subst (λ n. AllByRecursion (λ r. same r.name n ≡ false) qs) ((bytes_decides q.name name).0 is) once.0 in
        sym (λ i. cond (is i) (f q) q ∷ unchanged qs others i)
    change-place (q ∷ qs) (suc i) d once h is first =
        sym (λ j. cond (first 0 (omega arith) j) (f q) q ∷ sym (change-place qs i d once.1 (omega arith) is (λ k l. first (suc k) (omega arith))) j)

    pub change-position : (qs : List QueueState) (i : ℕ) (d : QueueState) → NamesOnce qs → position named qs ≡ Some i → d ≡ get_or qs i d → set qs i (f d) ≡ change_queue name f qs
    change-position qs i d once e is =
        let at = position-Some named qs i d e in
        ap (λ q. set qs i (f q)) is ∙ change-place qs i d once at.0 at.1 at.2
