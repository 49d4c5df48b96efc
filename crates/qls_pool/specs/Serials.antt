-- The numbers that a call draws, and the serials of the files that come into use in it.
use Rattle.std.specs.Prelude.{◌≡◌, ℕ, ◌≤◌, Bool, true, false, List, [], ◌∷◌, ◌++◌, map, length, Option, Some, None}
use Rattle.qls_site.specs.Content.{Moment, Content, moments_since}
use Rattle.qls_meaning.specs.History.{newly_used}

-- the serials in the headers of the files that come into use, in order
abbrev pub serials_taken : Moment → List Moment → List ℕ
serials_taken m [] = []
serials_taken m (n ∷ ns) = map (λ f. f.header.serial) (newly_used m n) ++ serials_taken n ns

abbrev pub taken_since : Content → Content → List ℕ
taken_since old new = serials_taken old.now (moments_since old new)

-- no file comes into use
abbrev pub TakesNone : Content → Content → Type 0
TakesNone old new = taken_since old new ≡ []

-- the numbers drawn are these serials, or these and at most one more
abbrev pub AreDrawn : Bool → List ℕ → List ℕ → Type 0
AreDrawn true taken drawn = drawn ≡ taken
AreDrawn false taken drawn = (rest : List ℕ) × (drawn ≡ taken ++ rest) × (length rest ≤ 1)

-- where site and serials tell: what was drawn in the call is what the files have that came into use in it
abbrev pub DrawsTaken : Bool → Option Content → Option Content → Option (List ℕ) → Option (List ℕ) → Type 0
DrawsTaken exact (Some old) (Some new) (Some x) (Some y) = (drawn : List ℕ) × (y ≡ x ++ drawn) × AreDrawn exact (taken_since old new) drawn
DrawsTaken exact None new (Some x) (Some y) = Unit {0}
DrawsTaken exact (Some old) None (Some x) (Some y) = Unit {0}
DrawsTaken exact old new None (Some y) = ⊥
DrawsTaken exact old new x None = Unit {0}
