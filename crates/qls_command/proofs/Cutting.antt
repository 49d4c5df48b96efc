-- Cutting a line into words.
use Rattle.std.proofs.Common.{◌≡◌, ℕ, List, [], ◌∷◌, ◌++◌, refl, None, arith}
use Rattle.std.proofs.lemmas.Grind.{common_steps}
use Rattle.qls_command.specs.Lines.{words, onto_first, command_of_words}

-- bytes in front of the first piece
abbrev pub onto_front : List ℕ → List (List ℕ) → List (List ℕ)
onto_front p [] = p ∷ []
onto_front p (w ∷ ws) = (p ++ w) ∷ ws

pub onto_front-onto_first : (p : List ℕ) (b : ℕ) (ws : List (List ℕ)) → onto_front p (onto_first b ws) ≡ onto_front (p ++ b ∷ []) ws
onto_front-onto_first p b [] = refl
onto_front-onto_first p b (w ∷ ws) = grind (arith, common_steps)

onto_nothing-onto_first : (b : ℕ) (ws : List (List ℕ)) → onto_front [] (onto_first b ws) ≡ onto_first b ws
onto_nothing-onto_first b [] = refl
onto_nothing-onto_first b (w ∷ ws) = refl

-- there is a first word, if an empty one
pub onto_nothing-words : (bs : List ℕ) → onto_front [] (words bs) ≡ words bs
onto_nothing-words [] = refl
onto_nothing-words (b ∷ bs) = grind (arith, onto_nothing-onto_first b (words bs))

past_five : (a b c d e : List ℕ) (ws : List (List ℕ)) → command_of_words (a ∷ b ∷ c ∷ d ∷ e ∷ onto_front [] ws) ≡ None
past_five a b c d e [] = refl
past_five a b c d e (w ∷ ws) = refl

-- six words or more are no command
pub six_words : (a b c d e rest : List ℕ) → command_of_words (a ∷ b ∷ c ∷ d ∷ e ∷ words rest) ≡ None
six_words a b c d e rest = rw (← onto_nothing-words rest) (past_five a b c d e (words rest))
