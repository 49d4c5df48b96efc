-- A batch is written, and then the files that died by it go back.
use Rattle.std.proofs.Common.{◌≡◌, ◌⊎◌, inl, inr, ℕ, Bool, true, false, cond, ◌||◌, ◌==◌, List, [], ◌∷◌, length, Option, Some, None, Result, Ok, Err, IfOk, IfErr, refl, sym, ap, ◌∙◌, subst, arith}
use Rattle.std.specs.Prelude.{nat_lt}
use Rattle.std.specs.List.{AllByRecursion}
use Rattle.qls_record.specs.Record.{Record}
use Rattle.qls_site.specs.Disk.{Disk, FileState, Image, IsQuiet, file_of}
use Rattle.qls_site.specs.Content.{Moment, Content, Tells, moments_since}
use Rattle.qls_site.proofs.DiskLaws.{only_image}
use Rattle.qls_meaning.specs.Journals.{journal, headed, in_use}
use Rattle.qls_pool.specs.Pools.{PoolState}
use Rattle.qls_pool.specs.Files.{HeadedFile, Carries, is_among}
use Rattle.qls_pool.specs.Moments.{Chain, Passes, Arrives}
use Rattle.qls_pool.proofs.Moments.{Passes-of, chain-append, chain_weaken}
use Rattle.qls_replay.specs.Held.{messages_of}
use Rattle.qls_log.specs.Logs.{LogState, ids}
use Rattle.qls_log.specs.Faults.{Counts}
use Rattle.qls_log.specs.Appending.{LeavesOthers, ReadsInImages}
use Rattle.qls_log.specs.Returning.{before_number, released}
use Rattle.qls_log.specs.Soundness.{StaysUndamaged}
use Rattle.qls_log.specs.Leaving.{RemainsInUse, NoneLeaves, LeavesFile, LeavesInOrder}
use Rattle.qls_queue.specs.declared.fault.QueueError.{QueueError}
use Rattle.qls_queue.specs.declared.fault.QueueError.TheVariants.{Failed, Draw, Spent, Memory}
use Rattle.qls_queue.specs.Faults.{is_fault, is_end, QueueCauses, SiteCauses}
use Rattle.qls_queue.specs.Live.{LiveState, IsSound, QueueReadsOn}
use Rattle.qls_queue.specs.Moments.{LeavesDead}
use Rattle.qls_queue.specs.Releasing.{dead_files, after_release, first_needed, GivesDead, HasWrittenAndReleased, IsQueueWhole, IsQueueClean, BecomesClean, StaysWhole}
use Rattle.qls_queue.specs.Writing.{HasWritten}
use Rattle.qls_queue.proofs.Replays.{parts}
use Rattle.qls_queue.proofs.Then.{chain_since, last_since, since_both, unmarked_front, unmarked_rest}
use Rattle.qls_queue.proofs.Writes.{adds_then, rose_later}

-- ---- what a release answers

abbrev pub OnlyFaults : Result (Unit {0}) QueueError → Type 0
OnlyFaults r = IfErr r (λ e. (e ≡ Failed) ⊎ (e ≡ Memory))

pub only_faults : (r : Result (Unit {0}) QueueError) → OnlyFaults r → IfErr r (λ e. is_fault e ≡ true)
only_faults (Ok x) h = tt
only_faults (Err e) (inl k) = ap is_fault k
only_faults (Err e) (inr k) = ap is_fault k

pub unless_ended : (r : Result (Unit {0}) QueueError) (ended : Bool) (P : Type 0) → OnlyFaults r → ended ≡ is_end r → IfOk r (λ _. P) → ended ≡ false → P
unless_ended (Ok x) ended P o e h u = h
unless_ended (Err f) ended P o e h u =
    let fault : is_fault f ≡ true = only_faults (Err f) o in
    let both : true ≡ false = sym fault ∙ sym e ∙ u in
    absurd (cc)

pub not_spent : (r : Result (Unit {0}) QueueError) → OnlyFaults r → r ≡ Err Spent → ⊥
not_spent (Ok x) o e = absurd (cc)
not_spent (Err f) (inl k) e = absurd (cc)
not_spent (Err f) (inr k) e = absurd (cc)

not_draw : (r : Result (Unit {0}) QueueError) → OnlyFaults r → r ≡ Err Draw → ⊥
not_draw (Ok x) o e = absurd (cc)
not_draw (Err f) (inl k) e = absurd (cc)
not_draw (Err f) (inr k) e = absurd (cc)

pub caused : (v : Unit {0}) (r : Result (Unit {0}) QueueError) (sites between now draws draws_now : ℕ) → OnlyFaults r → QueueCauses {X = Unit {0}} sites between draws draws_now (Ok v) → SiteCauses between now r
    → QueueCauses sites now draws draws_now r
caused v r sites between now draws draws_now o c d = record {
  sites_kept = omega (arith, c.sites_kept, d.kept);
  draws_kept = c.draws_kept;
  failed = λ e. rose_later sites between now c.sites_kept (d.failed e);
  draw = λ e. absurd (not_draw r o e);
}

pub counts_same : (E : Type 0) {X Y F : Type 0} (v : X) (r : Result Y F) (a : Option Content) (n before between now : ℕ) → Counts {X = X} {E = E} a (Ok v) n before between → now ≡ between → Counts {X = Y} {E = F} a r n before now
counts_same E v r None n before between now c e = (omega (arith, c.0, e), omega (arith, c.1, e))
counts_same E v (Ok y) (Some x) n before between now c e = e ∙ c
counts_same E v (Err f) (Some x) n before between now c e = (omega (arith, c, e), omega (arith, c, e))

-- ---- the queue and its files

pub released_queue : (q : LiveState) → IsSound q → (after_release q).queue ≡ q.queue
released_queue q s = sym (parts q.queue q.log.opening.name q.log.rid (messages_of q.held) s.name s.rid s.messages)

or_parts : (a b : Bool) → (a || b) ≡ false → (a ≡ false) × (b ≡ false)
or_parts true b e = absurd (cc)
or_parts false b e = (refl, e)

or_both : (a b : Bool) → a ≡ false → b ≡ false → (a || b) ≡ false
or_both true b e f = absurd (cc)
or_both false b e f = f

before_among : (id n : ℕ) (hs : List HeadedFile) → is_among id (ids hs) ≡ false → is_among id (ids (before_number n hs)) ≡ false
before_among id n [] e = refl
before_among id n (h ∷ []) e = refl
before_among id n (h ∷ g ∷ hs) e =
    let here = or_parts (h.id == id) (is_among id (ids (g ∷ hs))) e in
    elim (nat_lt h.header.number n) as (λ b. is_among id (ids (cond b (h ∷ before_number n (g ∷ hs)) [])) ≡ false) [
      | true ↦ or_both (h.id == id) (is_among id (ids (before_number n (g ∷ hs)))) here.0 (before_among id n (g ∷ hs) here.1)
      | false ↦ refl
    ]

released_among : (id n : ℕ) (l : LogState) → is_among id (ids l.files) ≡ false → is_among id (ids (released n l)) ≡ false
released_among id n l e = elim (length l.unsynced == 0) as (λ b. is_among id (ids (cond b (before_number n l.files) [])) ≡ false) [ true ↦ before_among id n l.files e | false ↦ refl ]

others_then : (q : LiveState) (a m b : Content) → LeavesOthers q.log.files a m → LeavesOthers (dead_files q) m b → LeavesOthers q.log.files a b
others_then q a m b h k = record {
  files = λ id e. k.files id (released_among id (first_needed q) q.log e) ∙ h.files id e;
  answered = k.answered ∙ h.answered;
}

told_others_then : (q : LiveState) (a m b : Option Content) → Tells (LeavesOthers q.log.files) a m → Tells (LeavesOthers (dead_files q)) m b → Tells (LeavesOthers q.log.files) a b
told_others_then q None None None h k = tt
told_others_then q None None (Some z) h k = absurd k
told_others_then q None (Some y) b h k = absurd h
told_others_then q (Some x) None b h k = absurd h
told_others_then q (Some x) (Some y) None h k = absurd k
told_others_then q (Some x) (Some y) (Some z) h k = others_then q x y z h k

pub released_written : (rs : List Record) (old between new : LiveState) (pool pools left : PoolState) (x y : Option (List ℕ)) (a m b : Option Content) (r : Result (Unit {0}) QueueError)
    → HasWritten rs old.log between.log pool pools x y a m → IfOk r (λ _. new ≡ after_release between) → Tells (GivesDead between r) m b → Tells (LeavesOthers between.log.files) a m
    → IfOk r (λ _. Tells (LeavesOthers (dead_files between)) m b) → IfOk r (λ _. HasWrittenAndReleased rs old new pool left x y a b)
released_written rs old between new pool pools left x y a m b (Ok v) w is back h k = record {
  between = between;
  pools = pools;
  middle = m;
  written = w;
  back = back;
  queue = is;
  others = told_others_then between a m b h k;
}
released_written rs old between new pool pools left x y a m b (Err e) w is back h k = tt

-- ---- on a disk

pub told_stays_whole : (old new : LiveState) (a b : Option Content) → Tells (QueueReadsOn old new) a b → Tells (StaysUndamaged old.log new.log) a b → Tells (StaysWhole old new) a b
told_stays_whole old new None None r s = tt
told_stays_whole old new None (Some y) r s = absurd r
told_stays_whole old new (Some x) None r s = absurd r
told_stays_whole old new (Some x) (Some y) r s = record {
  adds = r.adds;
  whole = λ unmarked w. record { read = r.read unmarked w.read; undamaged = s unmarked w.read.reads w.read.read w.undamaged };
}

pub told_clean : (old between new : LiveState) (R S : Moment → Moment → Type 0) (r : Result (Unit {0}) QueueError) (a m b : Option Content) → Tells (Arrives R) a m → Tells (Passes S) m b → Tells (StaysWhole old between) a m
    → IfOk r (λ _. Carries (IsQueueWhole between) (IsQueueClean new) m b) → IfOk r (λ _. Tells (BecomesClean old new) a b)
told_clean old between new R S (Err e) a m b h p s k = tt
told_clean old between new R S (Ok v) None None None h p s k = tt
told_clean old between new R S (Ok v) None None (Some z) h p s k = absurd p
told_clean old between new R S (Ok v) None (Some y) b h p s k = absurd h
told_clean old between new R S (Ok v) (Some x) None b h p s k = absurd h
told_clean old between new R S (Ok v) (Some x) (Some y) None h p s k = absurd p
told_clean old between new R S (Ok v) (Some x) (Some y) (Some z) h p s k = record {
  adds = adds_then x y z p.since s.adds p.moments;
  clean = λ unmarked w. k (s.whole (unmarked_front R S x y z (Passes-of R x y h) p unmarked) w);
}

quiet_in_images : (l : LogState) (d : Disk) → IsQuiet d → ReadsInImages l d
quiet_in_images l d q = λ i is. ap (λ (j : Image). journal (Rattle.std.specs.Prelude.map headed (in_use j)) l.opening.kind l.opening.name) (only_image d i q is)

pub told_images : (l : LogState) (a b : Option Content) → Carries IsQuiet IsQuiet a b → Carries IsQuiet (ReadsInImages l) a b
told_images l None b h = tt
told_images l (Some x) None h = tt
told_images l (Some x) (Some y) h = λ q. quiet_in_images l y.now.disk (h q)

-- ---- files that leave use

file_in_order : (m : Moment) (p : Option FileState) (g : FileState) → RemainsInUse p g → LeavesFile m p g
file_in_order m None g h = tt
file_in_order m (Some f) g h = λ used unused.
    let both : true ≡ false = sym (h used) ∙ unused in
    absurd (cc)

all_in_order : (m : Moment) (d : Disk) → AllByRecursion (λ g. RemainsInUse (file_of g.id m.disk) g) d → AllByRecursion (λ g. LeavesFile m (file_of g.id m.disk) g) d
all_in_order m [] h = tt
all_in_order m (g ∷ d) h = (file_in_order m (file_of g.id m.disk) g h.0, all_in_order m d h.1)

in_order : (m n : Moment) → NoneLeaves m n → LeavesInOrder m n
in_order m n h = all_in_order m n.disk h

chain_in_order : (a b : Content) → Passes NoneLeaves a b → Chain LeavesInOrder a.now (moments_since a b)
chain_in_order a b h = chain_weaken NoneLeaves LeavesInOrder in_order a.now (moments_since a b) (chain_since NoneLeaves a b h)

pub told_none_dead : (q : LiveState) (a b : Option Content) → Tells (Passes NoneLeaves) a b → Tells (LeavesDead q) a b
told_none_dead q None None h = tt
told_none_dead q None (Some y) h = absurd h
told_none_dead q (Some x) None h = absurd h
told_none_dead q (Some x) (Some y) h = λ quiet unmarked whole. chain_in_order x y h

dead_then : (old between : LiveState) (R S : Moment → Moment → Type 0) (a m b : Content) → Arrives R a m → Passes S m b → Passes NoneLeaves a m → (IsQuiet a.now.disk → IsQuiet m.now.disk) → StaysWhole old between a m
    → LeavesDead between m b → LeavesDead old a b
dead_then old between R S a m b h p n q s l = λ quiet unmarked whole.
    let xs : List Moment = moments_since a m in
    let ys : List Moment = moments_since m b in
    let second : Chain LeavesInOrder m.now ys = l (q quiet) (unmarked_rest R S a m b h p unmarked) (s.whole (unmarked_front R S a m b (Passes-of R a m h) p unmarked) whole) in
    subst (Chain LeavesInOrder a.now) (sym (since_both R S a m b (Passes-of R a m h) p))
    (chain-append LeavesInOrder a.now xs ys (chain_in_order a m n) (subst (λ (k : Moment). Chain LeavesInOrder k ys) (last_since R a m h) second))

pub told_dead : (old between : LiveState) (R S : Moment → Moment → Type 0) (a m b : Option Content) → Tells (Arrives R) a m → Tells (Passes S) m b → Tells (Passes NoneLeaves) a m → Carries IsQuiet IsQuiet a m
    → Tells (StaysWhole old between) a m → Tells (LeavesDead between) m b → Tells (LeavesDead old) a b
told_dead old between R S None None None h p n q s l = tt
told_dead old between R S None None (Some z) h p n q s l = absurd p
told_dead old between R S None (Some y) b h p n q s l = absurd h
told_dead old between R S (Some x) None b h p n q s l = absurd h
told_dead old between R S (Some x) (Some y) None h p n q s l = absurd p
told_dead old between R S (Some x) (Some y) (Some z) h p n q s l = dead_then old between R S x y z h p n q s l

-- ---- where a batch was written, it isn't refused for a counter that is spent

pub no_end : (v : Unit {0}) (P : Type 0) → (◌≡◌ {A = Result (Unit {0}) QueueError} (Ok v) (Err Spent)) ⊎ (◌≡◌ {A = Result (Unit {0}) QueueError} (Ok v) (Err Memory)) → P
no_end v P (inl e) = absurd (cc)
no_end v P (inr e) = absurd (cc)
