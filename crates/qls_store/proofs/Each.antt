-- Ends in one queue after another: those so far, and those to come.
use Rattle.std.proofs.Common.{◌≡◌, ℕ, zero, suc, ◌+◌, ◌<◌, ◌≤◌, false, List, [], ◌∷◌, map, length, drop, get_or, Option, Some, None, Result, Ok, Err, IfOk, refl, sym, ap, ◌∙◌, subst, arith}
use Rattle.std.specs.List.{slice_get}
use Rattle.std.proofs.lemmas.Option.{slice_get_read}
use Rattle.qls_model.specs.Machine.{change_queue}
use Rattle.qls_model.specs.declared.machine.QueueState.{QueueState}
use Rattle.qls_site.specs.Content.{Content, Tells, moments_since}
use Rattle.qls_meaning.specs.History.{AllUnmarked}
use Rattle.qls_decide.specs.declared.End.{End}
use Rattle.qls_pool.specs.Files.{Carries}
use Rattle.qls_pool.specs.Moments.{Passes}
use Rattle.qls_pool.proofs.Moments.{Passes-of}
use Rattle.qls_queue.proofs.Then.{unmarked_front, unmarked_rest}
use Rattle.qls_log.proofs.Chains.{whole_then}
use Rattle.qls_queue.specs.Records.{ended_by}
use Rattle.qls_journals.specs.Homes.{homes_of, SameHomes}
use Rattle.qls_journals.specs.Moments.{IsStoreStep, Changes, BecomesClean}
use Rattle.qls_journals.specs.State.{JournalsState, IsListAlive}
use Rattle.qls_store.specs.Ends.{end_need}
use Rattle.qls_store.specs.Calls.{StopsInOne, HadFirst, ended_in}
use Rattle.qls_store.proofs.Batches.{stops_from, had_later, had_none}
use Rattle.qls_store.proofs.Named.{AreNamed, named_still}

-- ---- the next name

pub get_at : {A : Type 0} (xs : List A) (i : ℕ) (x : A) → i < length xs → x ≡ get_or xs i x → slice_get xs i ≡ Some x
get_at xs i x h e = slice_get_read xs (length xs) i x refl h e

pub drop_next : {A : Type 0} (xs : List A) (i : ℕ) (x : A) → i < length xs → x ≡ get_or xs i x → drop i xs ≡ x ∷ drop (i + 1) xs
drop_next [] i x h e = absurd (omega (arith, h))
drop_next {A} (y ∷ xs) zero x h e = ap (λ (z : A). z ∷ xs) (sym e)
drop_next {A} (y ∷ xs) (suc i) x h e =
    let less : i < length xs = omega (arith, h) in
    let next : suc (i + 1) ≡ suc i + 1 = omega arith in
    drop_next xs i x less e ∙ ap (λ n. x ∷ drop n (y ∷ xs)) next

get_map : {A B : Type 0} (f : A → B) (xs : List A) (i : ℕ) (x : A) → slice_get xs i ≡ Some x → slice_get (map f xs) i ≡ Some (f x)
get_map f [] i x e = absurd (cc)
get_map {A} {B} f (y ∷ xs) zero x e = same e
  where
    same : Some y ≡ Some x → ◌≡◌ {A = Option B} (Some (f y)) (Some (f x))
    same e = let is : y ≡ x = cc in ap (λ z. Some (f z)) is
get_map f (y ∷ xs) (suc i) x e = get_map f xs i x e

none_left : {A : Type 0} (xs : List A) (i : ℕ) → length xs ≤ i → drop i xs ≡ []
none_left [] i h = drop_nothing i
  where
    drop_nothing : {B : Type 0} (i : ℕ) → ◌≡◌ {A = List B} (drop i []) []
    drop_nothing zero = refl
    drop_nothing (suc i) = refl
none_left (x ∷ xs) zero h = absurd (omega (arith, h))
none_left (x ∷ xs) (suc i) h = none_left xs i (omega (arith, h))

-- ---- the queues

pub next_ended : (names : List (List ℕ)) (i : ℕ) (n : List ℕ) (ends : List End) (qs rs all : List QueueState) → i < length names → n ≡ get_or names i n → ended_in (drop i names) ends qs ≡ all → rs ≡ change_queue n (ended_by ends) qs
    → ended_in (drop (i + 1) names) ends rs ≡ all
next_ended names i n ends qs rs all h e is now = ap (ended_in (drop (i + 1) names) ends) now ∙ sym (ap (λ ns. ended_in ns ends qs) (drop_next names i n h e)) ∙ is

pub all_ended : (names : List (List ℕ)) (i : ℕ) (ends : List End) (qs all : List QueueState) → length names ≤ i → ended_in (drop i names) ends qs ≡ all → qs ≡ all
all_ended names i ends qs all h is = sym (ap (λ ns. ended_in ns ends qs) (none_left names i h)) ∙ is

pub next_there : (names : List (List ℕ)) (i : ℕ) (n : List ℕ) (qs : List QueueState) → i < length names → n ≡ get_or names i n → AreNamed (drop i names) qs → AreNamed (n ∷ drop (i + 1) names) qs
next_there names i n qs h e a = subst (λ ns. AreNamed ns qs) (drop_next names i n h e) a

pub later_there : (names : List (List ℕ)) (i : ℕ) (n : List ℕ) (ends : List End) (qs rs : List QueueState) → i < length names → n ≡ get_or names i n → AreNamed (drop i names) qs → rs ≡ change_queue n (ended_by ends) qs → AreNamed (drop (i + 1) names) rs
later_there names i n ends qs rs h e a now = subst (AreNamed (drop (i + 1) names)) (sym now) (named_still (drop (i + 1) names) n ends qs (next_there names i n qs h e a).1)

-- ---- the batches

-- a later call stopped
pub stops_here : (was mid : JournalsState) → SameHomes (homes_of mid) (homes_of was) → (names : List (List ℕ)) (i : ℕ) (n : List ℕ) (a b c : Option Content) → i < length names → n ≡ get_or names i n → Tells (Changes was mid) a b
    → Tells (StopsInOne mid false (end_need n ∷ [])) b c → Tells (StopsInOne was false (map end_need names)) a c
stops_here was mid e names i n a b c h is k s = stops_from was mid e false (end_need n) (map end_need names) i (get_map end_need names i n (get_at names i n h is)) a b c k s

first_had : (was : JournalsState) (names : List (List ℕ)) (n : List ℕ) (a b : Option Content) → 0 < length names → n ≡ get_or names 0 n → Tells (HadFirst was false (end_need n ∷ [])) a b → Tells (HadFirst was false (map end_need names)) a b
first_had was [] n a b h e k = absurd (omega (arith, h))
first_had was (m ∷ names) n a b h e k = subst (λ o. Tells (HadFirst was false (end_need o ∷ [])) a b) e k

pub next_had : (was mid : JournalsState) (names : List (List ℕ)) (i : ℕ) (n : List ℕ) (a b c : Option Content) → i < length names → n ≡ get_or names i n → (i ≡ 0 → (mid ≡ was) × (b ≡ a)) → (0 < i → Tells (HadFirst was false (map end_need names)) a b)
    → Tells (HadFirst mid false (end_need n ∷ [])) b c → Tells (Passes IsStoreStep) b c → Tells (HadFirst was false (map end_need names)) a c
next_had was mid names zero n a b c h is f l k p =
    let same = f refl in
    first_had was names n a c h is (subst (λ (s : JournalsState). Tells (HadFirst s false (end_need n ∷ [])) a c) same.0 (subst (λ (o : Option Content). Tells (HadFirst mid false (end_need n ∷ [])) o c) same.1 k))
next_had was mid names (suc i) n a b c h is f l k p = had_later was false (map end_need names) (Passes IsStoreStep) a b c (l (omega arith)) p

pub all_had : (was : JournalsState) (names : List (List ℕ)) (i : ℕ) (a b : Option Content) → length names ≤ i → Tells (Passes IsStoreStep) a b → (0 < i → Tells (HadFirst was false (map end_need names)) a b) → Tells (HadFirst was false (map end_need names)) a b
all_had was [] i a b h p k = had_none was a b p
all_had was (n ∷ names) i a b h p k = k (omega (arith, h))

-- ---- the list

clean_then : (was mid s : JournalsState) (a b c : Content) → Changes was mid a b → Passes IsStoreStep b c → BecomesClean mid s b c → BecomesClean was s a c
clean_then was mid s a b c h p k = λ u w q.
    let front : AllUnmarked a.now (moments_since a b) = unmarked_front IsStoreStep IsStoreStep a b c (Passes-of IsStoreStep a b h.arrives) p u in
    k (unmarked_rest IsStoreStep IsStoreStep a b c h.arrives p u) (h.whole front w) (h.alive front w q)

pub told_clean : (was mid s : JournalsState) (a b c : Option Content) → Tells (Changes was mid) a b → Tells (Passes IsStoreStep) b c → Tells (BecomesClean mid s) b c → Tells (BecomesClean was s) a c
told_clean was mid s None None None h p k = tt
told_clean was mid s None None (Some z) h p k = absurd p
told_clean was mid s None (Some y) c h p k = absurd h
told_clean was mid s (Some x) None c h p k = absurd h
told_clean was mid s (Some x) (Some y) None h p k = absurd p
told_clean was mid s (Some x) (Some y) (Some z) h p k = clean_then was mid s x y z h p k

pub ok_clean : {E : Type 0} (was mid : JournalsState) (r : Result JournalsState E) (a b c : Option Content) → Tells (Changes was mid) a b → Tells (Passes IsStoreStep) b c → IfOk r (λ s. Tells (BecomesClean mid s) b c) → IfOk r (λ s. Tells (BecomesClean was s) a c)
ok_clean was mid (Ok s) a b c h p k = told_clean was mid s a b c h p k
ok_clean was mid (Err e) a b c h p k = tt

pub alive_then : (was mid s : JournalsState) (R : Content → Content → Type 0) (a b c : Option Content) → Tells R a b → Carries (IsListAlive was) (IsListAlive mid) a b → Carries (IsListAlive mid) (IsListAlive s) b c → Carries (IsListAlive was) (IsListAlive s) a c
alive_then was mid s R a b c t h k = whole_then (IsListAlive was) (IsListAlive mid) (IsListAlive s) R a b c t h k

pub alive_still : (was : JournalsState) (a : Option Content) → Carries (IsListAlive was) (IsListAlive was) a a
alive_still was None = tt
alive_still was (Some x) = λ h. h
