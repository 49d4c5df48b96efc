-- The moments of an opening in which the site is only looked at, and those of the call that follows.
use Rattle.std.proofs.Common.{◌≡◌, ℕ, zero, suc, Bool, true, false, not, ◌&&◌, ◌||◌, List, [], ◌∷◌, ◌++◌, map, length, replicate, Option, Some, None, Result, Ok, Err, IfOk, refl, sym, ap, ◌∙◌, subst, append-nil, append_assoc, length-append, arith}
use Rattle.std.specs.List.{AllByRecursion}
use Rattle.qls_site.specs.Disk.{FileState, Write, file_of}
use Rattle.qls_site.specs.Content.{Moment, Content, OnlyLooks, Tells, moments_since}
use Rattle.qls_site.specs.declared.site.Place.{Place}
use Rattle.qls_site.specs.declared.site.Place.TheVariants.{InUse, Empty}
use Rattle.qls_meaning.specs.History.{History, FreeArea, is_covered, is_unwritten, last_of, newly_used, next, now, unwritten_since, uses}
use Rattle.qls_meaning.specs.Journals.{Headed, is_in_use}
use Rattle.qls_meaning.specs.Orderly.{MeetsOnly}
use Rattle.qls_pool.specs.Files.{HeadedFile, IdsDiffer}
use Rattle.qls_pool.specs.Moments.{Arrives, Chain, Passes}
use Rattle.qls_pool.specs.Serials.{TakesNone, serials_taken}
use Rattle.qls_pool.proofs.Came.{none_came, none_same}
use Rattle.qls_pool.proofs.Moments.{Passes-of, since_is, since_of, since_then}
use Rattle.qls_pool.proofs.Steps.{all_found, all_weaken, step_same}
use Rattle.qls_log.specs.Leaving.{LeavesFile, LeavesInOrder, WritesFile, WritesInOrder, IsWritingStep}
use Rattle.qls_log.specs.Logs.{LogState, capacity_in}
use Rattle.qls_log.specs.Unwritten.{AreWrittenTo, IsClear, IsWrittenTo, history_with}
use Rattle.qls_queue.specs.Live.{LiveState}
use Rattle.qls_prepared.specs.Moments.{WrittenBy}
use Rattle.qls_journals.specs.Moments.{AreWritten, IsStoreStep}
use Rattle.qls_journals.specs.Opening.{OpensWritten, begun_at}
use Rattle.qls_journals.specs.State.{JournalsState}

-- ---- the same moment again

pub chain_again : (R : Moment → Moment → Type 0) (m : Moment) → R m m → (n : ℕ) → Chain R m (replicate n m)
chain_again R m r zero = tt
chain_again R m r (suc n) = (r, chain_again R m r n)

pub last_again : (m : Moment) (n : ℕ) → last_of m (replicate n m) ≡ m
last_again m zero = refl
last_again m (suc n) = last_again m n

all_again : (m : Moment) (n : ℕ) → AllByRecursion (λ k. k ≡ m) (replicate n m)
all_again m zero = tt
all_again m (suc n) = (refl, all_again m n)

serials_again : (m : Moment) → newly_used m m ≡ [] → (n : ℕ) → serials_taken m (replicate n m) ≡ []
serials_again m none zero = refl
serials_again m none (suc n) = ap (λ (fs : List Headed). map (λ f. f.header.serial) fs ++ serials_taken m (replicate n m)) none ∙ serials_again m none n

pub step_again : (m : Moment) → IdsDiffer m.disk → IsStoreStep m m
step_again m differ = record { answered = refl; differ = λ d. d; pool = step_same m differ; headers = λ id used. refl }

not_both : (b : Bool) → b ≡ true → b ≡ false → ⊥
not_both b e k = cc

pub leaves_again : (m : Moment) → IdsDiffer m.disk → LeavesInOrder m m
leaves_again m differ = all_weaken (λ g. file_of g.id m.disk ≡ Some g) (λ g. LeavesFile m (file_of g.id m.disk) g) one m.disk (all_found m.disk differ)
  where
    one : (g : FileState) → file_of g.id m.disk ≡ Some g → LeavesFile m (file_of g.id m.disk) g
    one g e = subst (λ (o : Option FileState). LeavesFile m o g) (sym e) (λ used not. absurd (not_both (is_in_use g.place) used not))

no_more : (ws : List Write) (w : Write) → ws ≡ ws ++ w ∷ [] → ⊥
no_more ws w e = omega (arith, ap length e, length-append ws (w ∷ []))

writing_again : (areas : List FreeArea) (h : History) (m : Moment) → now h ≡ m → IdsDiffer m.disk → IsWritingStep areas h m
writing_again areas h m e differ =
    subst (λ (k : Moment). AllByRecursion (λ g. WritesFile areas h (file_of g.id k.disk) g) m.disk) (sym e)
    (all_weaken (λ g. file_of g.id m.disk ≡ Some g) (λ g. WritesFile areas h (file_of g.id m.disk) g) one m.disk (all_found m.disk differ))
  where
    one : (g : FileState) → file_of g.id m.disk ≡ Some g → WritesFile areas h (file_of g.id m.disk) g
    one g e = subst (λ (o : Option FileState). WritesFile areas h o g) (sym e) (λ w more. absurd (no_more g.pending w more))

last_two : (k l : Moment) (xs : List Moment) → last_of k (xs ++ l ∷ []) ≡ l
last_two k l [] = refl
last_two k l (x ∷ xs) = last_two x l xs

writes_again : (areas : List FreeArea) (h : History) (m : Moment) → now h ≡ m → IdsDiffer m.disk → (n : ℕ) → WritesInOrder areas h (replicate n m)
writes_again areas h m e differ zero = tt
writes_again areas h m e differ (suc n) = (writing_again areas h m e differ, writes_again areas (next h m) m (last_two h.start m h.since) differ n)

-- ---- a call that only looks

module _ (a b : Content) (differ : IdsDiffer a.now.disk) (looks : OnlyLooks a b) where
  abbrev arrives : (R : Moment → Moment → Type 0) → R a.now a.now → Arrives R a b
  arrives R r = record { since = replicate looks.since.0 a.now; moments = looks.since.1; chain = chain_again R a.now r looks.since.0; last = looks.now ∙ sym (last_again a.now looks.since.0) }

  pub looked_since : moments_since a b ≡ replicate looks.since.0 a.now
  looked_since = since_of IsStoreStep a b (arrives IsStoreStep (step_again a.now differ))

  abbrev pub looked_arrives : Arrives IsStoreStep a b
  looked_arrives = arrives IsStoreStep (step_again a.now differ)

  abbrev pub looked_leaves : Arrives LeavesInOrder a b
  looked_leaves = arrives LeavesInOrder (leaves_again a.now differ)

  pub looked_none : TakesNone a b
  looked_none = ap (serials_taken a.now) looked_since ∙ serials_again a.now (none_came a.now a.now (none_same a.now a.now differ refl)) looks.since.0

  pub looked_still : AllByRecursion (λ k. k ≡ a.now) (moments_since a b)
  looked_still = subst (AllByRecursion (λ (k : Moment). k ≡ a.now)) (sym looked_since) (all_again a.now looks.since.0)

  pub looked_writes : WritesInOrder [] (begun_at a) (moments_since a b)
  looked_writes = subst (WritesInOrder [] (begun_at a)) (sym looked_since) (writes_again [] (begun_at a) a.now refl differ looks.since.0)

-- ---- looks before the first call make no sector unwritten

abbrev plain : Moment → List Moment → History
plain m xs = record { start = m; since = xs }

abbrev padded : Moment → ℕ → List Moment → History
padded m n xs = record { start = m; since = replicate n m ++ xs }

never : (u c : Bool) → (u && not c && (false || not u)) ≡ false
never true true = refl
never true false = refl
never false c = refl

unwritten_pad : (m : Moment) (n : ℕ) (xs : List Moment) (id k : ℕ) → is_unwritten [] (padded m n xs) id k ≡ is_unwritten [] (plain m xs) id k
unwritten_pad m zero xs id k = refl
unwritten_pad m (suc n) xs id k = ap (λ b. unwritten_since id k b m (replicate n m ++ xs)) (never (uses id m) (is_covered id k m)) ∙ unwritten_pad m n xs id k

now_pad : (m : Moment) (n : ℕ) (xs : List Moment) → now (padded m n xs) ≡ now (plain m xs)
now_pad m zero xs = refl
now_pad m (suc n) xs = now_pad m n xs

-- two histories that end in the same moment, with the same sectors unwritten
record Alike (h k : History) : Type 0 where
  now : now k ≡ now h
  unwritten : (id n : ℕ) → is_unwritten [] k id n ≡ is_unwritten [] h id n

pad_alike : (m : Moment) (n : ℕ) (xs : List Moment) → Alike (plain m xs) (padded m n xs)
pad_alike m n xs = record { now = now_pad m n xs; unwritten = unwritten_pad m n xs }

module _ (h k : History) (alike : Alike h k) where
  meets_alike : (f : FileState) (p : Place) (w : Write) → MeetsOnly [] h f p w → MeetsOnly [] k f p w
  meets_alike f InUse w x = (x.0, λ n lower upper. alike.unwritten f.id n ∙ x.1 n lower upper)
  meets_alike f (Empty part kib) w x = x

  file_alike : (o : Option FileState) (g : FileState) → WritesFile [] h o g → WritesFile [] k o g
  file_alike None g x = tt
  file_alike (Some f) g x = λ w e. meets_alike f f.place w (x w e)

  step_alike : (y : Moment) → IsWritingStep [] h y → IsWritingStep [] k y
  step_alike y x =
      subst (λ (z : Moment). AllByRecursion (λ g. WritesFile [] k (file_of g.id z.disk) g) y.disk) (sym alike.now)
      (all_weaken (λ g. WritesFile [] h (file_of g.id (now h).disk) g) (λ g. WritesFile [] k (file_of g.id (now h).disk) g) (λ g. file_alike (file_of g.id (now h).disk) g) y.disk x)

  areas_alike : (capacity used : ℕ) (fs : List HeadedFile) → AreWrittenTo [] h capacity used fs → AreWrittenTo [] k capacity used fs
  areas_alike capacity used [] x = tt
  areas_alike capacity used (f ∷ []) x = λ n lower upper. alike.unwritten f.id n ∙ x n lower upper
  areas_alike capacity used (f ∷ g ∷ fs) x = ((λ n lower upper. alike.unwritten f.id n ∙ x.0 n lower upper), areas_alike capacity used (g ∷ fs) x.1)

  clear_alike : (fs : List HeadedFile) → AllByRecursion (λ f. IsClear [] h f.id) fs → AllByRecursion (λ f. IsClear [] k f.id) fs
  clear_alike [] x = tt
  clear_alike (f ∷ fs) x = ((λ n u. ap (is_covered f.id n) alike.now ∙ x.0 n (sym (alike.unwritten f.id n) ∙ u)), clear_alike fs x.1)

  log_alike : (l : LogState) → IsWrittenTo [] h l → IsWrittenTo [] k l
  log_alike l x = record { written = areas_alike (capacity_in l.opening) l.used l.files x.written; clear = clear_alike l.files x.clear }

  queues_alike : (qs : List LiveState) → AllByRecursion (λ q. IsWrittenTo [] h q.log) qs → AllByRecursion (λ q. IsWrittenTo [] k q.log) qs
  queues_alike [] x = tt
  queues_alike (q ∷ qs) x = (log_alike q.log x.0, queues_alike qs x.1)

  list_alike : (o : Option LogState) → WrittenBy [] h o → WrittenBy [] k o
  list_alike None x = tt
  list_alike (Some l) x = log_alike l x

  all_alike : (s : JournalsState) → AreWritten [] h s → AreWritten [] k s
  all_alike s x = record { queues = queues_alike s.queues x.queues; list = list_alike s.list.log x.list }

writes_pad : (m : Moment) (n : ℕ) (xs ys : List Moment) → WritesInOrder [] (plain m xs) ys → WritesInOrder [] (padded m n xs) ys
writes_pad m n xs [] w = tt
writes_pad m n xs (y ∷ ys) w = (
  step_alike (plain m xs) (padded m n xs) (pad_alike m n xs) y w.0,
  subst (λ (ms : List Moment). WritesInOrder [] (record { start = m; since = ms }) ys) (sym (append_assoc (replicate n m) xs (y ∷ []))) (writes_pad m n (xs ++ y ∷ []) ys w.1),
)

-- ---- a look, and the call that follows

module _ {X E : Type 0} (r : Result X E) (after : X → JournalsState) where
  abbrev Ends : List FreeArea → History → Type 0
  Ends areas h = IfOk r (λ x. AreWritten areas h (after x))

  ends_pad : (m : Moment) (n : ℕ) (ys : List Moment) → Ends [] (plain m ys) → Ends [] (padded m n ys)
  ends_pad m n ys x = by r x
    where
      by : (q : Result X E) → IfOk q (λ x. AreWritten [] (plain m ys) (after x)) → IfOk q (λ x. AreWritten [] (padded m n ys) (after x))
      by (Ok x) w = all_alike (plain m ys) (padded m n ys) (pad_alike m n ys) (after x) w
      by (Err e) w = tt

  -- what is written from the second content on is so from the first on
  pub written_after : (a b c : Content) → IdsDiffer a.now.disk → OnlyLooks a b → (R : Moment → Moment → Type 0) → Passes R b c → OpensWritten r after b c → OpensWritten r after a c
  written_after a b c differ looks R passes w =
      let m : Moment = a.now in
      let n : ℕ = looks.since.0 in
      let ys : List Moment = moments_since b c in
      let all : moments_since a c ≡ replicate n m ++ ys =
      since_then IsStoreStep R a b c (Passes-of IsStoreStep a b (looked_arrives a b differ looks)) passes ∙ ap (λ (ms : List Moment). replicate n m ++ ms) (sym (since_is R b c passes)) in
      let second : WritesInOrder [] (plain m []) ys × Ends [] (plain m ys) =
      subst (λ (k : Moment). WritesInOrder [] (plain k []) ys × Ends [] (plain k ys)) looks.now w in
      subst (λ (ms : List Moment). WritesInOrder [] (plain m []) ms × Ends [] (plain m ms)) (sym all) (
        joined m n ys [] (writes_again [] (plain m []) m refl differ n) (subst (λ (ms : List Moment). WritesInOrder [] (plain m ms) ys) (append-nil (replicate n m)) (writes_pad m n [] ys second.0)),
        ends_pad m n ys second.1,
      )
    where
      joined : (m : Moment) (n : ℕ) (ys xs : List Moment) → WritesInOrder [] (plain m xs) (replicate n m) → WritesInOrder [] (plain m (xs ++ replicate n m)) ys → WritesInOrder [] (plain m xs) (replicate n m ++ ys)
      joined m zero ys xs x y = subst (λ (ms : List Moment). WritesInOrder [] (plain m ms) ys) (append-nil xs) y
      joined m (suc n) ys xs x y =
          (x.0, joined m n ys (xs ++ m ∷ []) x.1 (subst (λ (ms : List Moment). WritesInOrder [] (plain m ms) ys) (sym (append_assoc xs (m ∷ []) (replicate n m))) y))
