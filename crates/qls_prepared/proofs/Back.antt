-- A batch is written, and then the files that died by it go back.
use Rattle.std.proofs.Common.{◌≡◌, true, false, List, [], ◌∷◌, Option, Some, None, Result, Ok, Err, IfOk, sym, ◌∙◌, subst}
use Rattle.std.specs.List.{AllByRecursion}
use Rattle.qls_site.specs.Disk.{Disk, FileState, IsQuiet, file_of}
use Rattle.qls_site.specs.Content.{Moment, Content, Tells, moments_since}
use Rattle.qls_pool.specs.Files.{Carries}
use Rattle.qls_pool.specs.Moments.{Chain, Passes, Arrives}
use Rattle.qls_pool.proofs.Moments.{Passes-of, chain-append, chain_weaken}
use Rattle.qls_log.specs.declared.fault.LogError.{LogError}
use Rattle.qls_log.specs.Leaving.{RemainsInUse, NoneLeaves, LeavesFile, LeavesInOrder}
use Rattle.qls_prepared.specs.Lists.{PreparedState, IsListWhole, IsListClean, StaysWhole, BecomesClean}
use Rattle.qls_prepared.specs.Moments.{LeavesDead}
use Rattle.qls_prepared.proofs.Then.{adds_then, chain_since, last_since, since_both, unmarked_front, unmarked_rest}

-- ---- on a disk

pub told_clean_then : (old between new : PreparedState) (R S : Moment → Moment → Type 0) (r : Result (Unit {0}) LogError) (a m b : Option Content) → Tells (Arrives R) a m → Tells (Passes S) m b → Tells (StaysWhole old between) a m
    → IfOk r (λ _. Carries (IsListWhole between) (IsListClean new) m b) → IfOk r (λ _. Tells (BecomesClean old new) a b)
told_clean_then old between new R S (Err e) a m b h p s k = tt
told_clean_then old between new R S (Ok v) None None None h p s k = tt
told_clean_then old between new R S (Ok v) None None (Some z) h p s k = absurd p
told_clean_then old between new R S (Ok v) None (Some y) b h p s k = absurd h
told_clean_then old between new R S (Ok v) (Some x) None b h p s k = absurd h
told_clean_then old between new R S (Ok v) (Some x) (Some y) None h p s k = absurd p
told_clean_then old between new R S (Ok v) (Some x) (Some y) (Some z) h p s k = record {
  adds = adds_then x y z p.since s.adds p.moments;
  clean = λ unmarked w. k (s.whole (unmarked_front R S x y z (Passes-of R x y h) p unmarked) w);
}

-- the same of a call that says itself that it leaves the list clean
pub told_becomes_then : (old between new : PreparedState) (R S : Moment → Moment → Type 0) (r : Result (Unit {0}) LogError) (a m b : Option Content) → Tells (Arrives R) a m → Tells (Passes S) m b → Tells (StaysWhole old between) a m
    → IfOk r (λ _. Tells (BecomesClean between new) m b) → IfOk r (λ _. Tells (BecomesClean old new) a b)
told_becomes_then old between new R S (Err e) a m b h p s k = tt
told_becomes_then old between new R S (Ok v) None None None h p s k = tt
told_becomes_then old between new R S (Ok v) None None (Some z) h p s k = absurd p
told_becomes_then old between new R S (Ok v) None (Some y) b h p s k = absurd h
told_becomes_then old between new R S (Ok v) (Some x) None b h p s k = absurd h
told_becomes_then old between new R S (Ok v) (Some x) (Some y) None h p s k = absurd p
told_becomes_then old between new R S (Ok v) (Some x) (Some y) (Some z) h p s k = record {
  adds = adds_then x y z p.since s.adds p.moments;
  clean = λ unmarked w. k.clean (unmarked_rest R S x y z h p unmarked) (s.whole (unmarked_front R S x y z (Passes-of R x y h) p unmarked) w);
}

-- ---- files that leave use

file_in_order : (m : Moment) (p : Option FileState) (g : FileState) → RemainsInUse p g → LeavesFile m p g
file_in_order m None g h = tt
file_in_order m (Some f) g h = λ used unused.
    let both : true ≡ false = sym (h used) ∙ unused in
    absurd (cc)

all_in_order : (m : Moment) (d : Disk) → AllByRecursion (λ g. RemainsInUse (file_of g.id m.disk) g) d → AllByRecursion (λ g. LeavesFile m (file_of g.id m.disk) g) d
all_in_order m [] h = tt
all_in_order m (g ∷ d) h = (file_in_order m (file_of g.id m.disk) g h.0, all_in_order m d h.1)

in_order : (m n : Moment) → NoneLeaves m n → LeavesInOrder m n
in_order m n h = all_in_order m n.disk h

chain_in_order : (a b : Content) → Passes NoneLeaves a b → Chain LeavesInOrder a.now (moments_since a b)
chain_in_order a b h = chain_weaken NoneLeaves LeavesInOrder in_order a.now (moments_since a b) (chain_since NoneLeaves a b h)

pub told_none_dead : (p : PreparedState) (a b : Option Content) → Tells (Passes NoneLeaves) a b → Tells (LeavesDead p) a b
told_none_dead p None None h = tt
told_none_dead p None (Some y) h = absurd h
told_none_dead p (Some x) None h = absurd h
told_none_dead p (Some x) (Some y) h = λ quiet unmarked whole. chain_in_order x y h

dead_then : (old between : PreparedState) (R S : Moment → Moment → Type 0) (a m b : Content) → Arrives R a m → Passes S m b → Passes NoneLeaves a m → (IsQuiet a.now.disk → IsQuiet m.now.disk) → StaysWhole old between a m
    → LeavesDead between m b → LeavesDead old a b
dead_then old between R S a m b h p n q s l = λ quiet unmarked whole.
    let xs : List Moment = moments_since a m in
    let ys : List Moment = moments_since m b in
    let second : Chain LeavesInOrder m.now ys = l (q quiet) (unmarked_rest R S a m b h p unmarked) (s.whole (unmarked_front R S a m b (Passes-of R a m h) p unmarked) whole) in
    subst (Chain LeavesInOrder a.now) (sym (since_both R S a m b (Passes-of R a m h) p))
    (chain-append LeavesInOrder a.now xs ys (chain_in_order a m n) (subst (λ (k : Moment). Chain LeavesInOrder k ys) (last_since R a m h) second))

pub told_dead : (old between : PreparedState) (R S : Moment → Moment → Type 0) (a m b : Option Content) → Tells (Arrives R) a m → Tells (Passes S) m b → Tells (Passes NoneLeaves) a m → Carries IsQuiet IsQuiet a m
    → Tells (StaysWhole old between) a m → Tells (LeavesDead between) m b → Tells (LeavesDead old) a b
told_dead old between R S None None None h p n q s l = tt
told_dead old between R S None None (Some z) h p n q s l = absurd p
told_dead old between R S None (Some y) b h p n q s l = absurd h
told_dead old between R S (Some x) None b h p n q s l = absurd h
told_dead old between R S (Some x) (Some y) None h p n q s l = absurd p
told_dead old between R S (Some x) (Some y) (Some z) h p n q s l = dead_then old between R S x y z h p n q s l
