-- One call after another: the moments of both.
use Rattle.std.proofs.Common.{◌≡◌, List, [], ◌∷◌, ◌++◌, length, drop, Option, Some, None, Result, Ok, Err, IsErr, IfOk, sym, ap, ◌∙◌, subst, append_assoc, append-nil}
use Rattle.std.proofs.Math.Seq.{drop-append_seam}
use Rattle.qls_site.specs.Content.{Moment, Content, Tells, moments_since}
use Rattle.qls_meaning.specs.History.{History, FreeArea, AllUnmarked, last_of, now, next}
use Rattle.qls_laws.proofs.HistoryLaws.{AllUnmarked-within}
use Rattle.qls_pool.specs.Moments.{Chain, Passes, Arrives}
use Rattle.qls_pool.proofs.Moments.{Arrives-passes, Passes-of, since_is, since_of, since_then, last-append}
use Rattle.qls_log.specs.Leaving.{WritesInOrder}
use Rattle.qls_log.specs.Unwritten.{history_with}
use Rattle.qls_log.proofs.Behind.{unmarked_first}

-- ---- the moments that were added

pub adds_of : (R : Moment → Moment → Type 0) (a b : Content) → Passes R a b → b.moments ≡ a.moments ++ moments_since a b
adds_of R a b h = h.moments ∙ ap (λ (ms : List Moment). a.moments ++ ms) (sym (since_is R a b h))

pub adds_then : (a m b : Content) (more : List Moment) → m.moments ≡ a.moments ++ moments_since a m → b.moments ≡ m.moments ++ more → b.moments ≡ a.moments ++ moments_since a b
adds_then a m b more e w =
    let all : b.moments ≡ a.moments ++ (moments_since a m ++ more) = w ∙ ap (λ (ms : List Moment). ms ++ more) e ∙ append_assoc a.moments (moments_since a m) more in
    all ∙ ap (λ (ms : List Moment). a.moments ++ ms) (sym (ap (drop (length a.moments)) all ∙ drop-append_seam a.moments (moments_since a m ++ more)))

pub chain_since : (R : Moment → Moment → Type 0) (a b : Content) → Passes R a b → Chain R a.now (moments_since a b)
chain_since R a b h = subst (Chain R a.now) (sym (since_is R a b h)) h.chain

pub last_since : (R : Moment → Moment → Type 0) (a b : Content) → Arrives R a b → b.now ≡ last_of a.now (moments_since a b)
last_since R a b h = h.last ∙ ap (last_of a.now) (sym (since_of R a b h))

pub since_both : (R Q : Moment → Moment → Type 0) (a b c : Content) → Passes R a b → Passes Q b c → moments_since a c ≡ moments_since a b ++ moments_since b c
since_both R Q a b c h k =
    since_then R Q a b c h k ∙ ap (λ (ms : List Moment). ms ++ k.since) (sym (since_is R a b h)) ∙ ap (λ (ms : List Moment). moments_since a b ++ ms) (sym (since_is Q b c k))

-- a call that arrived by one step, and passes by another, arrives by that
pub arrives_by : (R Q : Moment → Moment → Type 0) (a b : Content) → Passes R a b → Arrives Q a b → Arrives R a b
arrives_by R Q a b h k = record {
  since = h.since;
  moments = h.moments;
  chain = h.chain;
  last = k.last ∙ ap (last_of a.now) (sym (since_of Q a b k) ∙ since_is R a b h);
}

pub told_passes_by : (R Q : Moment → Moment → Type 0) (a b c : Option Content) → Tells (Arrives Q) a b → Tells (Passes R) a b → Tells (Passes R) b c → Tells (Passes R) a c
told_passes_by R Q None None None w h k = tt
told_passes_by R Q None None (Some z) w h k = absurd k
told_passes_by R Q None (Some y) c w h k = absurd h
told_passes_by R Q (Some x) None c w h k = absurd h
told_passes_by R Q (Some x) (Some y) None w h k = absurd k
told_passes_by R Q (Some x) (Some y) (Some z) w h k = Arrives-passes R x y z (arrives_by R Q x y h w) k

-- ---- files that came into use unmarked

pub unmarked_front : (R Q : Moment → Moment → Type 0) (a b c : Content) → Passes R a b → Passes Q b c → AllUnmarked a.now (moments_since a c) → AllUnmarked a.now (moments_since a b)
unmarked_front R Q a b c h k u = unmarked_first a b c k.since (adds_of R a b h) k.moments u

pub unmarked_rest : (R Q : Moment → Moment → Type 0) (a b c : Content) → Arrives R a b → Passes Q b c → AllUnmarked a.now (moments_since a c) → AllUnmarked b.now (moments_since b c)
unmarked_rest R Q a b c h k u =
    subst (λ (m : Moment). AllUnmarked m (moments_since b c)) (sym (last_since R a b h))
    (AllUnmarked-within a.now (moments_since a b) (moments_since b c) (subst (AllUnmarked a.now) (since_both R Q a b c (Passes-of R a b h) k) u))

-- ---- writes

-- from each history up to the call of which the one holds, writes are as the discipline has them, and the other holds of it then
abbrev pub Writes : (List FreeArea → History → Type 0) → (List FreeArea → History → Type 0) → Content → Content → Type 0
Writes P Q a b = (areas : List FreeArea) (h : History) → now h ≡ a.now → P areas h → WritesInOrder areas h (moments_since a b) × Q areas (history_with h (moments_since a b))

abbrev pub Whatever : List FreeArea → History → Type 0
Whatever areas h = Unit {0}

history_none : (h : History) → history_with h [] ≡ h
history_none h = ap (λ (ms : List Moment). record h { since = ms }) (append-nil h.since)

history_twice : (h : History) (xs ys : List Moment) → history_with (history_with h xs) ys ≡ history_with h (xs ++ ys)
history_twice h xs ys = ap (λ (ms : List Moment). record h { since = ms }) (append_assoc h.since xs ys)

writes_append : (areas : List FreeArea) (h : History) (xs ys : List Moment) → WritesInOrder areas h xs → WritesInOrder areas (history_with h xs) ys → WritesInOrder areas h (xs ++ ys)
writes_append areas h [] ys w v = subst (λ (k : History). WritesInOrder areas k ys) (history_none h) v
writes_append areas h (x ∷ xs) ys w v =
    (w.0, writes_append areas (next h x) xs ys w.1 (subst (λ (k : History). WritesInOrder areas k ys) (sym (history_twice h (x ∷ []) xs)) v))

now_after : (R : Moment → Moment → Type 0) (h : History) (a b : Content) → now h ≡ a.now → Arrives R a b → now (history_with h (moments_since a b)) ≡ b.now
now_after R h a b e w = last-append R h.start h.since (moments_since a b) ∙ ap (λ (m : Moment). last_of m (moments_since a b)) e ∙ sym (last_since R a b w)

writes_then : (P Q T : List FreeArea → History → Type 0) (R S : Moment → Moment → Type 0) (a b c : Content) → Arrives R a b → Passes S b c → Writes P Q a b → Writes Q T b c → Writes P T a c
writes_then P Q T R S a b c h k w v = λ areas g e p.
    let xs : List Moment = moments_since a b in
    let ys : List Moment = moments_since b c in
    let first : WritesInOrder areas g xs × Q areas (history_with g xs) = w areas g e p in
    let second : WritesInOrder areas (history_with g xs) ys × T areas (history_with (history_with g xs) ys) = v areas (history_with g xs) (now_after R g a b e h) first.1 in
    subst (λ (ms : List Moment). WritesInOrder areas g ms × T areas (history_with g ms)) (sym (since_both R S a b c (Passes-of R a b h) k))
    (writes_append areas g xs ys first.0 second.0, subst (T areas) (history_twice g xs ys) second.1)

pub told_writes : (P Q T : List FreeArea → History → Type 0) (R S : Moment → Moment → Type 0) (a b c : Option Content) → Tells (Arrives R) a b → Tells (Passes S) b c → Tells (Writes P Q) a b → Tells (Writes Q T) b c → Tells (Writes P T) a c
told_writes P Q T R S None None None h k w v = tt
told_writes P Q T R S None None (Some z) h k w v = absurd k
told_writes P Q T R S None (Some y) c h k w v = absurd h
told_writes P Q T R S (Some x) None c h k w v = absurd h
told_writes P Q T R S (Some x) (Some y) None h k w v = absurd k
told_writes P Q T R S (Some x) (Some y) (Some z) h k w v = writes_then P Q T R S x y z h k w v

pub writes_any : (P Q : List FreeArea → History → Type 0) (a b : Option Content) → Tells (Writes P Q) a b → Tells (Writes P Whatever) a b
writes_any P Q None None w = tt
writes_any P Q None (Some y) w = absurd w
writes_any P Q (Some x) None w = absurd w
writes_any P Q (Some x) (Some y) w = λ areas h e p. ((w areas h e p).0, tt)

-- no call was made
pub writes_none : (P : List FreeArea → History → Type 0) (a : Option Content) → Tells (Writes P Whatever) a a
writes_none P None = tt
writes_none P (Some x) = λ areas h e p. (subst (WritesInOrder areas h) (sym (none_since x)) tt, tt)
  where
    none_since : (c : Content) → moments_since c c ≡ []
    none_since c = since_is (λ m n. Unit {0}) c c (record { since = []; moments = sym (append-nil c.moments); chain = tt })

-- the call answered an error
pub writes_err : {X E : Type 0} (P Q : List FreeArea → History → Type 0) (r : Result X E) (a b : Option Content) → IsErr r → Tells (Writes P Whatever) a b → Tells (Writes P (λ areas h. IfOk r (λ _. Q areas h))) a b
writes_err {X} {E} P Q (Ok x) a b e h = absurd (not_ok x e)
  where
    not_ok : (x : X) → IsErr {T = X} {E = E} (Ok x) → ⊥
    not_ok x e = cc
writes_err P Q (Err f) a b e h = h
