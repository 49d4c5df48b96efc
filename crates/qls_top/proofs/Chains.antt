-- Moments that the calls of a run add.
use Rattle.std.proofs.Common.{◌≡◌, inl, List, [], ◌∷◌, ◌++◌, Option, Some, None, Result, Ok, Err, IsErr, refl, sym, ap, ◌∙◌, subst}
use Rattle.qls_site.specs.Content.{Moment, Content, Tells}
use Rattle.qls_site.proofs.Told.{Tells-then, Tells-weaken}
use Rattle.qls_meaning.specs.History.{AllUnmarked, last_of}
use Rattle.qls_pool.specs.Moments.{EndsIn, Chain, Passes, Arrives}
use Rattle.qls_pool.specs.Serials.{TakesNone, serials_taken}
use Rattle.qls_pool.proofs.Moments.{Arrives-passes, Arrives-same, Arrives-weaken, Passes-of, Passes-weaken, since_is, since_of, since_then}
use Rattle.qls_journals.specs.Moments.{IsStoreStep}
use Rattle.qls_top.specs.Moments.{Quietly, AnswersQuietly, IsRunStep, UnmarkedSince}

-- ---- by the answer

pub ends_err : {X E : Type 0} (R : Moment → Moment → Type 0) (done : X → Content → Content → Type 0) (r : Result X E) (a b : Option Content) → IsErr r → Tells (Passes R) a b → Tells (EndsIn done (Passes R) r) a b
ends_err {X} {E} R done (Ok x) a b e h = absurd (not_err x e)
  where
    not_err : (x : X) → IsErr {T = X} {E = E} (Ok x) → ⊥
    not_err x e = cc
ends_err R done (Err f) a b e h = h

-- ---- while a command is at work

-- a step while a command is at work is one of a run
pub run_of_silent : (m n : Moment) → IsStoreStep m n → IsRunStep m n
run_of_silent m n h = record { differ = h.differ; pool = h.pool; headers = h.headers }

quiet_of_silent : (m n : Moment) → IsStoreStep m n → Quietly m n
quiet_of_silent m n h = inl h.answered

pub silent_quietly : (a b : Content) → Passes IsStoreStep a b → Passes Quietly a b
silent_quietly a b h = Passes-weaken IsStoreStep Quietly quiet_of_silent a b h

pub silent_arrives_quietly : (a b : Content) → Arrives IsStoreStep a b → Arrives Quietly a b
silent_arrives_quietly a b h = Arrives-weaken IsStoreStep Quietly quiet_of_silent a b h

abbrev pub silent_passes : (a b : Content) → Passes IsStoreStep a b → Passes IsRunStep a b
silent_passes a b h = Passes-weaken IsStoreStep IsRunStep run_of_silent a b h

abbrev pub silent_arrives : (a b : Content) → Arrives IsStoreStep a b → Arrives IsRunStep a b
silent_arrives a b h = Arrives-weaken IsStoreStep IsRunStep run_of_silent a b h

-- nothing is answered while a command is at work
silent_answered : (m : Moment) (ms : List Moment) → Chain IsStoreStep m ms → (last_of m ms).answered ≡ m.answered
silent_answered m [] h = refl
silent_answered m (n ∷ ns) h = silent_answered n ns h.1 ∙ h.0.answered

pub answers_nothing : (a b : Content) → Arrives IsStoreStep a b → b.now.answered ≡ a.now.answered
answers_nothing a b h = ap (λ (m : Moment). m.answered) h.last ∙ silent_answered a.now h.since h.chain

-- ---- the chain of a run

pub went_then : (a b c : Option Content) → Tells (Arrives IsRunStep) a b → Tells (Passes IsRunStep) b c → Tells (Passes IsRunStep) a c
went_then a b c h k = Tells-then (Arrives IsRunStep) (Passes IsRunStep) (Passes IsRunStep) a b c h k (Arrives-passes IsRunStep)

pub silent_went : (a b : Option Content) → Tells (Passes IsStoreStep) a b → Tells (Passes IsRunStep) a b
silent_went a b h = Tells-weaken (Passes IsStoreStep) (Passes IsRunStep) a b h silent_passes

pub silent_quiet : (a b : Option Content) → Tells (Passes IsStoreStep) a b → Tells AnswersQuietly a b
silent_quiet a b h = Tells-weaken (Passes IsStoreStep) AnswersQuietly a b h (λ x y k q. silent_quietly x y k)

-- ---- unmarked files, call after call

pub unmarked_front : (m : Moment) (xs ys : List Moment) → AllUnmarked m (xs ++ ys) → AllUnmarked m xs
unmarked_front m [] ys h = tt
unmarked_front m (n ∷ xs) ys h = (h.0, unmarked_front n xs ys h.1)

pub unmarked_rest : (m : Moment) (xs ys : List Moment) → AllUnmarked m (xs ++ ys) → AllUnmarked (last_of m xs) ys
unmarked_rest m [] ys h = h
unmarked_rest m (n ∷ xs) ys h = unmarked_rest n xs ys h.1

-- of two calls each had its files unmarked
pub unmarked_parts : (R Q : Moment → Moment → Type 0) (a b c : Content) → Arrives R a b → Passes Q b c → UnmarkedSince a c → UnmarkedSince a b × UnmarkedSince b c
unmarked_parts R Q a b c h k unmarked =
    let all : AllUnmarked a.now (h.since ++ k.since) = subst (AllUnmarked a.now) (since_then R Q a b c (Passes-of R a b h) k) unmarked in (
      subst (AllUnmarked a.now) (sym (since_of R a b h)) (unmarked_front a.now h.since k.since all),
      subst (AllUnmarked b.now) (sym (since_is Q b c k)) (subst (λ (m : Moment). AllUnmarked m k.since) (sym h.last) (unmarked_rest a.now h.since k.since all)),
    )

-- no call was made
pub tells_none : (a : Option Content) → Tells TakesNone a a
tells_none None = tt
tells_none (Some c) = ap (serials_taken c.now) (since_of IsStoreStep c c (Arrives-same IsStoreStep c c refl))
