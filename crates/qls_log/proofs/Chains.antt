-- Files taken one after another.
use Rattle.std.proofs.Common.{IsTrue, ◌≡◌, ℕ, zero, suc, ◌+◌, List, [], ◌∷◌, ◌++◌, length, take, Option, Some, None, Result, Ok, Err, refl, sym, ap, ◌∙◌, subst, arith}
use Rattle.std.specs.Prelude.{slice_get}
use Rattle.std.specs.List.{AllByRecursion}
use Rattle.qls_model.specs.declared.machine.PoolId.{PoolId}
use Rattle.qls_site.specs.Disk.{Disk}
use Rattle.qls_site.specs.Content.{Content, Tells}
use Rattle.qls_filehdr.specs.Limits.{is_legal_header}
use Rattle.qls_blocks.specs.declared.plan.FreshFile.{FreshFile}
use Rattle.qls_pool.specs.Pools.{PoolState}
use Rattle.qls_pool.specs.Files.{HeadedFile, IsPoolOf, IsWholePool, IdsDiffer, Carries}
use Rattle.qls_pool.specs.Discipline.{Orderly}
use Rattle.qls_log.specs.declared.opening.Opening.{Opening}
use Rattle.qls_log.specs.declared.fault.LogError.{LogError}
use Rattle.qls_log.specs.Logs.{AreHeaded, header_for}
use Rattle.qls_log.specs.Faults.{Counts}
use Rattle.qls_log.specs.Taking.{TakesFile, TakesFiles, TakesFirst, DrawsOne, DrawsEach}
use Rattle.qls_log.proofs.Steps.{then_orderly, Both}

none_there : {A : Type 0} (x : A) → ◌≡◌ {A = Option A} None (Some x) → ⊥
none_there x e = cc

some_same : {A : Type 0} (x y : A) → ◌≡◌ {A = Option A} (Some y) (Some x) → y ≡ x
some_same x y e = cc

pub take_next : {A : Type 0} (xs : List A) (k : ℕ) (x : A) → slice_get xs k ≡ Some x → take (k + 1) xs ≡ take k xs ++ x ∷ []
take_next [] k x e = absurd (none_there x e)
take_next {A} (y ∷ ys) zero x e = ap (λ (z : A). z ∷ []) (some_same x y e)
take_next {A} (y ∷ ys) (suc k) x e =
    let next : suc k + 1 ≡ suc (k + 1) = omega arith in
    ap (λ n. take n (y ∷ ys)) next ∙ ap (λ (zs : List A). y ∷ zs) (take_next ys k x e)

pub all_get : {A : Type 0} (P : A → Type 0) (xs : List A) (k : ℕ) (x : A) → AllByRecursion P xs → slice_get xs k ≡ Some x → P x
all_get P [] k x h e = absurd (none_there x e)
all_get P (y ∷ ys) zero x h e = subst P (some_same x y e) h.0
all_get P (y ∷ ys) (suc k) x h e = all_get P ys k x h.1 e

-- one more at the end
pub takes_push : (home : PoolId) (pool between left : PoolState) (hs : List HeadedFile) (h : HeadedFile) (a b c : Content) → TakesFiles home pool between hs a b → TakesFile home between left h b c
    → TakesFiles home pool left (hs ++ h ∷ []) a c
takes_push home pool between left [] h a b c t u =
    (left, c, subst (λ (p : PoolState). TakesFile home p left h a c) t.0 (subst (λ (x : Content). TakesFile home between left h x c) t.1 u), (refl, refl))
takes_push home pool between left (g ∷ hs) h a b c t u = (t.0, t.1, t.2, takes_push home t.0 between left hs h t.1 b c t.3 u)

pub told_push : (home : PoolId) (pool between left : PoolState) (hs : List HeadedFile) (h : HeadedFile) (a b c : Option Content) → Tells (TakesFiles home pool between hs) a b → Tells (TakesFile home between left h) b c
    → Tells (TakesFiles home pool left (hs ++ h ∷ [])) a c
told_push home pool between left hs h None None None t u = tt
told_push home pool between left hs h None None (Some z) t u = absurd u
told_push home pool between left hs h None (Some y) c t u = absurd t
told_push home pool between left hs h (Some x) None c t u = absurd t
told_push home pool between left hs h (Some x) (Some y) None t u = absurd u
told_push home pool between left hs h (Some x) (Some y) (Some z) t u = takes_push home pool between left hs h x y z t u

pub told_none : (home : PoolId) (pool : PoolState) (a : Option Content) → Tells (TakesFiles home pool pool []) a a
told_none home pool None = tt
told_none home pool (Some x) = (refl, refl)

pub draws_push : (hs : List HeadedFile) (h : HeadedFile) (a b c : Option (List ℕ)) → DrawsEach hs a b → DrawsOne h b c → DrawsEach (hs ++ h ∷ []) a c
draws_push [] h a b c t u = (c, subst (λ (o : Option (List ℕ)). DrawsOne h o c) t u, refl)
draws_push (g ∷ hs) h a b c t u = (t.0, t.1, draws_push hs h t.0 b c t.2 u)

push_headed : (o : Opening) (newest : ℕ) (fs : List FreshFile) (hs : List HeadedFile) (f : FreshFile) (h : HeadedFile) → AreHeaded o newest fs hs → h.header ≡ header_for o h.header.serial (newest + length hs + 1) f
    → AreHeaded o newest (fs ++ f ∷ []) (hs ++ h ∷ [])
push_headed o newest [] [] f h t e = (e ∙ ap (λ n. header_for o h.header.serial n f) (omega arith), tt)
push_headed o newest [] (g ∷ hs) f h t e = absurd t
push_headed o newest (k ∷ fs) [] f h t e = absurd t
push_headed o newest (k ∷ fs) (g ∷ hs) f h t e = (t.0, push_headed o (newest + 1) fs hs f h t.1 (e ∙ ap (λ n. header_for o h.header.serial n f) (omega arith)))

pub headed_push : (o : Opening) (newest number k : ℕ) (fs : List FreshFile) (hs : List HeadedFile) (f : FreshFile) (h : HeadedFile) (next : List FreshFile) → AreHeaded o newest fs hs → length hs ≡ k
    → number ≡ newest + k → h.header ≡ header_for o h.header.serial (number + 1) f → next ≡ fs ++ f ∷ [] → AreHeaded o newest next (hs ++ h ∷ [])
headed_push o newest number k fs hs f h next t count at is e =
    subst (λ (xs : List FreshFile). AreHeaded o newest xs (hs ++ h ∷ [])) (sym e) (push_headed o newest fs hs f h t (is ∙ ap (λ n. header_for o h.header.serial n f) (omega (arith, count, at))))

pub all_push : (P : HeadedFile → Type 0) (hs : List HeadedFile) (h : HeadedFile) → AllByRecursion P hs → P h → AllByRecursion P (hs ++ h ∷ [])
all_push P [] h t p = (p, tt)
all_push P (g ∷ hs) h t p = (t.0, all_push P hs h t.1 p)

pub counts_push : (E F : Type 0) {X Y Z : Type 0} (R : Content → Content → Type 0) (v : X) (w : Y) (z : Z) (a b : Option Content) (k m n o : ℕ) → Tells R a b → Counts {X = X} {E = E} a (Ok v) k m n → Counts {X = Y} {E = F} b (Ok w) 1 n o
    → Counts {X = Z} {E = E} a (Ok z) (k + 1) m o
counts_push E F R v w z None None k m n o t s u = (omega (arith, s.0, u.0), omega (arith, s.1, u.1))
counts_push E F R v w z None (Some y) k m n o t s u = absurd t
counts_push E F R v w z (Some x) None k m n o t s u = absurd t
counts_push E F R v w z (Some x) (Some y) k m n o t s u = omega (arith, s, u)

-- ---- in order

pub orderly_chain : {Y F : Type 0} (home : PoolId) (pool between : PoolState) (hs : List HeadedFile) (r : Result Y F) (a b c : Option Content) → Tells (TakesFiles home pool between hs) a b
    → Orderly {X = Unit {0}} {E = LogError} (IsPoolOf pool []) (Ok tt) a b → Carries (IsWholePool pool) (IsWholePool between) a b → Orderly (IsPoolOf between []) r b c → Orderly (IsPoolOf pool []) r a c
orderly_chain home pool between hs r a b c t o w k =
    then_orderly LogError (IsPoolOf pool []) (IsPoolOf between []) (TakesFiles home pool between hs) (tt {0}) r a b c t o (first a b w) (second a b w) k
  where
    first : (a b : Option Content) → Carries (IsWholePool pool) (IsWholePool between) a b → Carries (Both (IsPoolOf pool [])) IdsDiffer a b
    first None b w = tt
    first (Some x) None w = tt
    first (Some x) (Some y) w = λ p. (w p).0

    second : (a b : Option Content) → Carries (IsWholePool pool) (IsWholePool between) a b → Carries (Both (IsPoolOf pool [])) (IsPoolOf between []) a b
    second None b w = tt
    second (Some x) None w = tt
    second (Some x) (Some y) w = λ p. (w p).1

pub whole_then : (p q r : Disk → Type 0) (R : Content → Content → Type 0) (a b c : Option Content) → Tells R a b → Carries p q a b → Carries q r b c → Carries p r a c
whole_then p q r R None b c t h k = tt
whole_then p q r R (Some x) b None t h k = tt
whole_then p q r R (Some x) None (Some z) t h k = absurd t
whole_then p q r R (Some x) (Some y) (Some z) t h k = λ u. k (h u)

pub orderly_stays : (E Y : Type 0) {X F : Type 0} (P : Disk → Type 0) (v : X) (f : F) (a b : Option Content) → Orderly {X = X} {E = E} P (Ok v) a b → Orderly {X = Y} {E = F} P (Err f) a b
orderly_stays E Y P v f None b h = tt
orderly_stays E Y P v f (Some x) None h = tt
orderly_stays E Y P v f (Some x) (Some y) h = λ d p. let s = h d p in record { since = s.since; moments = s.moments; steps = s.steps }

-- the files so far
pub takes_first : (o : Opening) (newest : ℕ) (fresh : List FreshFile) (at : ℕ) (pool left : PoolState) (hs : List HeadedFile) (a b : Option Content) → length hs ≡ at → AreHeaded o newest (take at fresh) hs
    → AllByRecursion (λ h. IsTrue (is_legal_header h.header)) hs → Tells (TakesFiles o.home pool left hs) a b → TakesFirst o newest fresh pool left a b
takes_first o newest fresh at pool left hs a b count headers legal told =
    record { files = hs; headers = subst (λ n. AreHeaded o newest (take n fresh) hs) (sym count) headers; legal = legal; told = told }
