-- Ids stay below one that comes later.
use Rattle.std.proofs.Common.{◌≡◌, ℕ, ◌+◌, ◌<◌, ◌≤◌, List, [], ◌∷◌, Option, Some, None, arith}
use Rattle.std.specs.List.{cons_option}
use Rattle.qls_model.specs.Messages.{left_by, only}
use Rattle.qls_model.specs.declared.machine.Message.{Message}
use Rattle.qls_model.specs.declared.machine.Verdict.TheVariants as verdict
use Rattle.qls_record.specs.Record.{rid_given}
use Rattle.qls_record.specs.declared.Kind.{Kind}
use Rattle.qls_record.specs.declared.Kind.TheVariants.{Enqueue, Dequeue, Commit, Abort, Filler}
use Rattle.qls_enqmap.specs.declared.Held.{Held}
use Rattle.qls_enqmap.specs.Records.{AllBelow}
use Rattle.qls_enqmap.proofs.Kept.{below_more}
use Rattle.qls_meaning.specs.Reading.{Read}
use Rattle.qls_meaning.specs.Replay.{xid_in, left_by_take}
use Rattle.qls_replay.specs.Held.{message_of, held_of, held_as, left_held, held_after, IsAbove}

below_later : (n m : ℕ) (hs : List Held) → n ≤ m → AllBelow n hs → AllBelow m hs
below_later n m [] l b = tt
below_later n m (h ∷ hs) l b = (omega (arith, b.0), below_later n m hs l b.1)

left_one : (n : ℕ) (h : Held) (o : Option Message) (hs : List Held) → h.rid < n → AllBelow n hs → AllBelow n (cons_option (held_as h o) hs)
left_one n h None hs l b = b
left_one n h (Some m) hs l b = (l, b)

pub left_below : (n : ℕ) (change : Message → Option Message) (hs : List Held) → AllBelow n hs → AllBelow n (left_held change hs)
left_below n change [] b = tt
left_below n change (h ∷ hs) b = left_one n h (change (message_of h)) (left_held change hs) b.0 (left_below n change hs b.1)

-- once ids are below this one, those that are held after the record of this id are below the next
pub below_next : (k : Kind) (r : Read) (n : ℕ) (hs : List Held) → r.what.rid ≡ n → AllBelow n hs → AllBelow (n + 1) (held_after k r hs)
below_next Enqueue r n hs e b = below_more n (n + 1) (held_of r) hs b (omega arith) (omega arith)
below_next Dequeue r n hs e b = below_later n (n + 1) _ (omega arith) (left_below n (left_by_take r.what.target (xid_in r.what.xid)) hs b)
below_next Commit r n hs e b = below_later n (n + 1) _ (omega arith) (left_below n (λ m. left_by (only r.what.xid verdict.Commit) m.status m) hs b)
below_next Abort r n hs e b = below_later n (n + 1) _ (omega arith) (left_below n (λ m. left_by (only r.what.xid verdict.Abort) m.status m) hs b)
below_next Filler r n hs e b = below_later n (n + 1) hs (omega arith) b

pub is_above : (k : Kind) (n : ℕ) (hs : List Held) → AllBelow n hs → IsAbove k n hs
is_above Enqueue n hs b = b
is_above Dequeue n hs b = tt
is_above Commit n hs b = tt
is_above Abort n hs b = tt
is_above Filler n hs b = tt

-- the ids stay below the next one where the record's id follows from the one in force
pub below_after : (k : Kind) (r : Read) (rid n : ℕ) (hs : List Held) → n ≡ rid_given rid k → r.what.rid ≡ n → AllBelow (rid + 1) hs → AllBelow (n + 1) (held_after k r hs)
below_after Enqueue r rid n hs e w b = below_more n (n + 1) (held_of r) hs (below_later (rid + 1) n hs (omega (arith, e)) b) (omega arith) (omega (arith, w))
below_after Dequeue r rid n hs e w b = below_later (rid + 1) (n + 1) _ (omega (arith, e)) (left_below (rid + 1) (left_by_take r.what.target (xid_in r.what.xid)) hs b)
below_after Commit r rid n hs e w b = below_later (rid + 1) (n + 1) _ (omega (arith, e)) (left_below (rid + 1) (λ m. left_by (only r.what.xid verdict.Commit) m.status m) hs b)
below_after Abort r rid n hs e w b = below_later (rid + 1) (n + 1) _ (omega (arith, e)) (left_below (rid + 1) (λ m. left_by (only r.what.xid verdict.Abort) m.status m) hs b)
below_after Filler r rid n hs e w b = below_later (rid + 1) (n + 1) hs (omega (arith, e)) b

-- and it may be applied
pub above_given : (k : Kind) (rid n : ℕ) (hs : List Held) → n ≡ rid_given rid k → AllBelow (rid + 1) hs → IsAbove k n hs
above_given Enqueue rid n hs e b = below_later (rid + 1) n hs (omega (arith, e)) b
above_given Dequeue rid n hs e b = tt
above_given Commit rid n hs e b = tt
above_given Abort rid n hs e b = tt
above_given Filler rid n hs e b = tt
