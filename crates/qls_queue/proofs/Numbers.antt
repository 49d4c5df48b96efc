-- The numbers of a queue whose records were read rise up to its last one.
use Rattle.std.proofs.Common.{◌≡◌, ℕ, ◌+◌, ◌<◌, ◌≤◌, ◌^◌, Bool, List, [], ◌∷◌, ◌++◌, map, Option, Some, None, refl, sym, subst, arith}
use Rattle.std.specs.List.{AllByRecursion, cons_option}
use Rattle.qls_model.specs.Messages.{left_by, only}
use Rattle.qls_model.specs.Sound.{RisesTo, IsNumbered}
use Rattle.qls_model.specs.declared.machine.Message.{Message}
use Rattle.qls_model.specs.declared.machine.Verdict.TheVariants as verdict
use Rattle.qls_record.specs.declared.Kind.{Kind}
use Rattle.qls_record.specs.declared.Kind.TheVariants.{Enqueue, Dequeue, Commit, Abort, Filler}
use Rattle.qls_record.specs.declared.Got.{Got}
use Rattle.qls_record.specs.Record.{rid_given}
use Rattle.qls_enqmap.specs.declared.Held.{Held}
use Rattle.qls_enqmap.specs.Records.{AllBelow, RidsFrom}
use Rattle.qls_meaning.specs.Reading.{Read, read_of}
use Rattle.qls_meaning.specs.Replay.{xid_in, left_by_take}
use Rattle.qls_replay.specs.Held.{message_of, messages_of, held_of, held_as, left_held, held_after, held_after_all}
use Rattle.qls_replay.proofs.Above.{below_after}
use Rattle.qls_reading.specs.ReadLogs.{AreGiven, rid_behind}
use Rattle.qls_log.specs.Logs.{LogState}
use Rattle.qls_queue.specs.Live.{live}

-- ---- ids rise

from_less : (n m : ℕ) (hs : List Held) → n ≤ m → RidsFrom m hs → RidsFrom n hs
from_less n m [] l r = tt
from_less n m (h ∷ hs) l r = (omega (arith, l, r.0), r.1)

from_one : (n : ℕ) (h : Held) (o : Option Message) (hs : List Held) → n ≤ h.rid → RidsFrom (h.rid + 1) hs → RidsFrom n (cons_option (held_as h o) hs)
from_one n h None hs l r = from_less n (h.rid + 1) hs (omega (arith, l)) r
from_one n h (Some m) hs l r = (l, r)

from_left : (n : ℕ) (change : Message → Option Message) (hs : List Held) → RidsFrom n hs → RidsFrom n (left_held change hs)
from_left n change [] r = tt
from_left n change (h ∷ hs) r = from_one n h (change (message_of h)) (left_held change hs) r.0 (from_left (h.rid + 1) change hs r.1)

from_end : (n m : ℕ) (h : Held) (hs : List Held) → n ≤ m → RidsFrom n hs → AllBelow m hs → m ≤ h.rid → RidsFrom n (hs ++ h ∷ [])
from_end n m h [] l r b k = (omega (arith, l, k), tt)
from_end n m h (g ∷ hs) l r b k = (r.0, from_end (g.rid + 1) m h hs (omega (arith, b.0)) r.1 b.1 k)

rises_after : (k : Kind) (r : Read) (rid n : ℕ) (hs : List Held) → n ≡ rid_given rid k → r.what.rid ≡ n → AllBelow (rid + 1) hs → RidsFrom 0 hs → RidsFrom 0 (held_after k r hs)
rises_after Enqueue r rid n hs e w b f = from_end 0 (rid + 1) (held_of r) hs (omega arith) f b (omega (arith, e, w))
rises_after Dequeue r rid n hs e w b f = from_left 0 (left_by_take r.what.target (xid_in r.what.xid)) hs f
rises_after Commit r rid n hs e w b f = from_left 0 (λ m. left_by (only r.what.xid verdict.Commit) m.status m) hs f
rises_after Abort r rid n hs e w b f = from_left 0 (λ m. left_by (only r.what.xid verdict.Abort) m.status m) hs f
rises_after Filler r rid n hs e w b f = f

-- behind all records ids rise, up to the one in force
abbrev pub AreRising : ℕ → List Held → Type 0
AreRising last hs = RidsFrom 0 hs × AllBelow (last + 1) hs

all_rise : (gs : List Got) (rid : ℕ) (hs : List Held) → AreRising rid hs → AreGiven rid gs → AreRising (rid_behind rid gs) (held_after_all (map read_of gs) hs)
all_rise [] rid hs r h = r
all_rise (g ∷ gs) rid hs r h =
    all_rise gs g.head.rid (held_after g.head.kind (read_of g) hs) (rises_after g.head.kind (read_of g) rid g.head.rid hs h.0 refl r.1 r.0, below_after g.head.kind (read_of g) rid g.head.rid hs h.0 refl r.1) h.2

-- ---- numbers

above_all : (n m : ℕ) (hs : List Held) → n < m → RidsFrom m hs → AllByRecursion (λ k. n < k.number) (messages_of hs)
above_all n m [] l r = tt
above_all n m (h ∷ hs) l r = (omega (arith, l, r.0), above_all n (h.rid + 1) hs (omega (arith, l, r.0)) r.1)

rises_to : (last m : ℕ) (hs : List Held) → RidsFrom m hs → AllBelow (last + 1) hs → RisesTo last (messages_of hs)
rises_to last m [] r b = tt
rises_to last m (h ∷ hs) r b = (omega (arith, b.0), above_all h.rid (h.rid + 1) hs (omega arith) r.1, rises_to last (h.rid + 1) hs r.1 b.1)

pub opened_numbered : (l : LogState) (gs : List Got) (b : Bool) (first : ℕ) → l.rid < 2 ^ 62 → AreGiven first gs → l.rid ≡ rid_behind first gs → IsNumbered (live l (held_after_all (map read_of gs) []) b).queue
opened_numbered l gs b first below given is =
    let held : List Held = held_after_all (map read_of gs) [] in
    let rising : AreRising (rid_behind first gs) held = all_rise gs first [] (tt, tt) given in
    record {
      last = below;
      rising = rises_to l.rid 0 held rising.0 (subst (λ n. AllBelow (n + 1) held) (sym is) rising.1);
    }
