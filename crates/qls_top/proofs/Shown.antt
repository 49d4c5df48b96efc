-- A show: the look, and then its answer. No file changes.
use Rattle.std.proofs.Common.{◌≡◌, inl, inr, ℕ, zero, suc, Bool, List, [], ◌∷◌, ◌++◌, map, replicate, Option, Some, None, IfSome, Result, refl, sym, ap, ◌∙◌, subst, append_assoc}
use Rattle.std.specs.List.{AllByRecursion}
use Rattle.qls_model.specs.Machine.{MachineState}
use Rattle.qls_site.specs.Disk.{IsQuiet, IdsRise, full}
use Rattle.qls_site.specs.Content.{Moment, Content, Tells, OnlyLooks, moments_since}
use Rattle.qls_site.proofs.Told.{Tells-weaken}
use Rattle.qls_meaning.specs.Damage.{Damage}
use Rattle.qls_meaning.specs.History.{last_of}
use Rattle.qls_meaning.specs.Journals.{Headed}
use Rattle.qls_meaning.specs.Meaning.{meaning}
use Rattle.qls_pool.specs.Discipline.{TakesInOrder}
use Rattle.qls_pool.specs.Files.{IdsDiffer}
use Rattle.qls_pool.specs.Moments.{Chain, Passes, Arrives}
use Rattle.qls_pool.specs.Serials.{DrawsTaken, TakesNone, serials_taken}
use Rattle.qls_pool.proofs.Came.{none_came, none_same}
use Rattle.qls_pool.proofs.Moments.{since_is}
use Rattle.qls_pool.proofs.Serials.{drawn_none}
use Rattle.qls_log.specs.Leaving.{WritesInOrder}
use Rattle.qls_top.specs.Moments.{Quietly, AnswersQuietly}
use Rattle.qls_top.specs.Run.{TakesFilesInOrder, WritesFilesInOrder, begun_at}
use Rattle.qls_top.specs.Shows.{IsAnswering, OnlyAnswers, OnlyShows, shown_text}
use Rattle.qls_top.proofs.Discipline.{SameDisk, same_takes, same_writes}
use Rattle.qls_top.proofs.Starting.{Means, differ_of}

pub as_before : (text : List ℕ) (m : Moment) → IsAnswering text m m
as_before text m = record { disk = refl; answered = inl refl }

-- ---- the look, and then the answer

-- a look has the moment that is now again and again
pub looks_again : (x y : Content) → OnlyLooks x y → Arrives SameDisk x y
looks_again x y looks = record { since = replicate looks.since.0 x.now; moments = looks.since.1; chain = again looks.since.0; last = looks.now ∙ sym (last looks.since.0) }
  where
    again : (n : ℕ) → Chain SameDisk x.now (replicate n x.now)
    again zero = tt
    again (suc n) = (refl, again n)

    last : (n : ℕ) → last_of x.now (replicate n x.now) ≡ x.now
    last zero = refl
    last (suc n) = last n

all_again : (text : List ℕ) (m : Moment) (n : ℕ) → AllByRecursion (IsAnswering text m) (replicate n m)
all_again text m zero = tt
all_again text m (suc n) = (as_before text m, all_again text m n)

all_then : (P : Moment → Type 0) (xs ys : List Moment) → AllByRecursion P xs → AllByRecursion P ys → AllByRecursion P (xs ++ ys)
all_then P [] ys h k = k
all_then P (x ∷ xs) ys h k = (h.0, all_then P xs ys h.1 k)

pub after_looks : (text : List ℕ) (x y z : Content) → OnlyLooks x y → OnlyAnswers text y z → OnlyAnswers text x z
after_looks text x y z looks a =
    let from : (m : Moment) → IsAnswering text y.now m → IsAnswering text x.now m = λ m k. subst (λ (w : Moment). IsAnswering text w m) looks.now k in
    let n : ℕ = looks.since.0 in
    record {
      now = from z.now a.now;
      since = replicate n x.now ++ a.since;
      moments = a.moments ∙ ap (λ ms. ms ++ a.since) looks.since.1 ∙ append_assoc x.moments (replicate n x.now) a.since;
      each = all_then (IsAnswering text x.now) (replicate n x.now) a.since (all_again text x.now n) (subst (λ (w : Moment). AllByRecursion (IsAnswering text w) a.since) looks.now a.each);
    }

pub shows : (m : Result MachineState Damage) (a b c : Option Content) → IfSome a (Means m) → Tells OnlyLooks a b → Tells (OnlyAnswers (shown_text m)) b c → Tells OnlyShows a c
shows m None None None means looks k = tt
shows m None None (Some z) means looks k = absurd k
shows m None (Some y) c means looks k = absurd looks
shows m (Some x) None c means looks k = absurd looks
shows m (Some x) (Some y) None means looks k = absurd k
shows m (Some x) (Some y) (Some z) means looks k = subst (λ (w : Result MachineState Damage). OnlyAnswers (shown_text w) x z) (sym means) (after_looks (shown_text m) x y z looks k)

-- ---- what holds of every job's moments

module _ (text : List ℕ) (x y : Content) (h : OnlyAnswers text x y) where
  chain_of : (R : Moment → Moment → Type 0) → ((m n : Moment) → IsAnswering text x.now m → IsAnswering text x.now n → R m n) → (m : Moment) → IsAnswering text x.now m
      → (ms : List Moment) → AllByRecursion (IsAnswering text x.now) ms → Chain R m ms
  chain_of R one m first [] each = tt
  chain_of R one m first (n ∷ ns) each = (one m n first each.0, chain_of R one n each.0 ns each.1)

  since_chain : (R : Moment → Moment → Type 0) → ((m n : Moment) → IsAnswering text x.now m → IsAnswering text x.now n → R m n) → Passes R x y
  since_chain R one = record { since = h.since; moments = h.moments; chain = chain_of R one x.now (as_before text x.now) h.since h.each }

  pub shows_same : Passes SameDisk x y
  shows_same = since_chain SameDisk (λ m n a b. b.disk ∙ sym a.disk)

  shows_quietly : AnswersQuietly x y
  shows_quietly quiet = since_chain Quietly (λ m n a b. inr (subst IsQuiet (sym b.disk) quiet))

  over_same : (P : List Moment → Type 0) → ((ms : List Moment) → Chain SameDisk x.now ms → P ms) → P (moments_since x y)
  unfolding shows_same since_chain
  over_same P all = subst P (sym (since_is SameDisk x y shows_same)) (all h.since shows_same.chain)

  shows_in_order : IdsDiffer x.now.disk → TakesFilesInOrder x y
  shows_in_order differ = over_same (TakesInOrder [] (begun_at x)) (λ ms c. same_takes [] (begun_at x) ms differ c)

  shows_writes : IdsDiffer x.now.disk → WritesFilesInOrder x y
  shows_writes differ = over_same (WritesInOrder [] (begun_at x)) (λ ms c. same_writes [] (begun_at x) ms differ c)

  pub shows_none : IdsDiffer x.now.disk → TakesNone x y
  shows_none differ = over_same (λ ms. serials_taken x.now ms ≡ []) (same_serials x.now differ)
    where
      same_serials : (m : Moment) → IdsDiffer m.disk → (ms : List Moment) → Chain SameDisk m ms → serials_taken m ms ≡ []
      same_serials m differ [] c = refl
      same_serials m differ (n ∷ ns) c =
          ap (λ (fs : List Headed). map (λ f. f.header.serial) fs ++ serials_taken n ns) (none_came m n (none_same m n differ c.0)) ∙ same_serials n (subst IdsDiffer (sym c.0) differ) ns c.1

-- ---- the same, where the site tells

pub told_quiet : (a b : Option Content) → Tells OnlyShows a b → Tells AnswersQuietly a b
told_quiet a b h = Tells-weaken OnlyShows AnswersQuietly a b h (λ x y k. shows_quietly (shown_text (meaning (full x.now.disk))) x y k)

told_by : (R : Content → Content → Type 0) → ((x y : Content) → OnlyShows x y → IdsDiffer x.now.disk → R x y) → (a b : Option Content) → IfSome a (λ c. IdsRise (full c.now.disk)) → Tells OnlyShows a b → Tells R a b
told_by R one None None rise h = tt
told_by R one None (Some y) rise h = absurd h
told_by R one (Some x) None rise h = absurd h
told_by R one (Some x) (Some y) rise h = one x y h (differ_of (full x.now.disk) rise)

pub told_in_order : (a b : Option Content) → IfSome a (λ c. IdsRise (full c.now.disk)) → Tells OnlyShows a b → Tells TakesFilesInOrder a b
told_in_order = told_by TakesFilesInOrder (λ x y k differ. shows_in_order (shown_text (meaning (full x.now.disk))) x y k differ)

pub told_writes : (a b : Option Content) → IfSome a (λ c. IdsRise (full c.now.disk)) → Tells OnlyShows a b → Tells WritesFilesInOrder a b
told_writes = told_by WritesFilesInOrder (λ x y k differ. shows_writes (shown_text (meaning (full x.now.disk))) x y k differ)

pub told_drawn : (exact : Bool) (a b : Option Content) (drawn : Option (List ℕ)) → IfSome a (λ c. IdsRise (full c.now.disk)) → Tells OnlyShows a b → DrawsTaken exact a b drawn drawn
told_drawn exact a b drawn rise h =
    drawn_none exact a b drawn drawn (told_by TakesNone (λ x y k differ. shows_none (shown_text (meaning (full x.now.disk))) x y k differ) a b rise h) refl
