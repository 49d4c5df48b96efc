-- A queue over a journal that was read: what its records leave, and what the journal on a disk says then.
use Rattle.std.proofs.Common.{◌≡◌, ℕ, ◌+◌, ◌<◌, ◌≤◌, Bool, true, false, not, cond, List, [], ◌∷◌, map, drop, length, get_or, refl, ap, sym, ◌∙◌, subst, arith}
use Rattle.std.proofs.lemmas.Grind.{common_steps}
use Rattle.std.specs.List.{AllByRecursion, filter}
use Rattle.qls_model.specs.declared.machine.QueueState.{QueueState}
use Rattle.qls_site.specs.Disk.{Disk}
use Rattle.qls_record.specs.declared.Kind.{Kind}
use Rattle.qls_record.specs.declared.Kind.TheVariants.{Enqueue, Dequeue, Commit, Abort, Filler}
use Rattle.qls_record.specs.declared.Got.{Got}
use Rattle.qls_record.specs.Record.{Record, is_enqueue, is_filler}
use Rattle.qls_filehdr.specs.declared.JournalKind.TheVariants.{Queue}
use Rattle.qls_enqmap.specs.declared.Held.{Held}
use Rattle.qls_enqmap.specs.Records.{AllBelow}
use Rattle.qls_meaning.specs.Journals.{Journal}
use Rattle.qls_meaning.specs.Reading.{Read, read_of, journal_reading}
use Rattle.qls_meaning.specs.Damage.{oldest_rid}
use Rattle.qls_meaning.specs.Spent.{rid_of_reads}
use Rattle.qls_meaning.specs.Replay.{after_record, queue_after}
use Rattle.qls_meaning.specs.Meaning.{queue_of}
use Rattle.qls_meaning.specs.Orderly.{journal_on}
use Rattle.qls_replay.specs.Held.{messages_of, held_after, held_after_all, IsAbove}
use Rattle.qls_replay.proofs.Above.{below_after, above_given}
use Rattle.qls_replay.proofs.Whole.{all_records}
use Rattle.qls_reading.specs.ReadLogs.{AreGiven, rid_behind}
use Rattle.qls_log.specs.Logs.{LogState}
use Rattle.qls_log.specs.Logs as log
use Rattle.qls_log.specs.Reads.{IsRead}
use Rattle.qls_log.specs.Soundness.{IsUndamaged}
use Rattle.qls_queue.specs.Live.{live, IsSound}
use Rattle.qls_queue.specs.Records.{HasXid}
use Rattle.qls_queue.specs.Releasing.{IsQueueWhole}
use Rattle.qls_queue.proofs.Replays.{name_after, parts}

-- ---- one record after another

-- the records that are left go on from the rid in force, which is above all that is held, to this last one
abbrev pub GoesOn : ℕ → List Held → List Got → Type 0
GoesOn last hs gs = (rid : ℕ) × AllBelow (rid + 1) hs × AreGiven rid gs × (rid_behind rid gs ≡ last)

pub may_go_on : (last : ℕ) (hs : List Held) (g : Got) (gs : List Got) → GoesOn last hs (g ∷ gs) → IsAbove g.head.kind g.head.rid hs
may_go_on last hs g gs o = above_given g.head.kind o.0 g.head.rid hs o.2.0 o.1

pub goes_on : (last : ℕ) (hs fs : List Held) (g : Got) (gs : List Got) → GoesOn last hs (g ∷ gs) → fs ≡ held_after g.head.kind (read_of g) hs → GoesOn last fs gs
goes_on last hs fs g gs o e =
    (g.head.rid, subst (AllBelow (g.head.rid + 1)) (sym e) (below_after g.head.kind (read_of g) o.0 g.head.rid hs o.2.0 refl o.1), o.2.2, o.3)

pub ends_below : (last : ℕ) (hs : List Held) (gs : List Got) → gs ≡ [] → GoesOn last hs gs → AllBelow (last + 1) hs
ends_below last hs [] e o = subst (λ n. AllBelow (n + 1) hs) o.3 o.1
ends_below last hs (g ∷ gs) e o = absurd (cc)

-- ---- the records that are left

pub here : {A : Type 0} (xs : List A) (k : ℕ) (x : A) → k < length xs → x ≡ get_or xs k x → drop k xs ≡ x ∷ drop (k + 1) xs
here xs k x l is = grind (arith, common_steps)

none_behind : {A : Type 0} (xs : List A) (k : ℕ) → length xs ≤ k → drop k xs ≡ []
none_behind xs k l = grind (arith, common_steps)

pub all_held : (gs : List Got) (k : ℕ) (hs : List Held) → length gs ≤ k → held_after_all (map read_of (drop k gs)) hs ≡ held_after_all (map read_of gs) [] → hs ≡ held_after_all (map read_of gs) []
all_held gs k hs l h = ap (λ (xs : List Got). held_after_all (map read_of xs) hs) (sym (none_behind gs k l)) ∙ h

-- ---- the queue

pub opened_sound : (l : LogState) (hs : List Held) → log.IsSound l → l.ended ≡ false → l.opening.kind ≡ Queue → l.unsynced ≡ [] → AllBelow (l.rid + 1) hs → AllByRecursion (λ h. HasXid h.status) hs → IsSound (live l hs false)
opened_sound l hs s unended kind flushed below xids = record {
  name = refl;
  rid = refl;
  messages = refl;
  unended = unended;
  kind = kind;
  flushed = flushed;
  some = s.some;
  last = s.rid;
  below = below;
  xids = xids;
}

-- ---- fillers leave what is held

filler_holds_nothing : (k : Kind) (r : Read) (hs : List Held) → is_filler k ≡ true → hs ≡ held_after k r hs
filler_holds_nothing Enqueue r hs h = absurd (cc)
filler_holds_nothing Dequeue r hs h = absurd (cc)
filler_holds_nothing Commit r hs h = absurd (cc)
filler_holds_nothing Abort r hs h = absurd (cc)
filler_holds_nothing Filler r hs h = refl

pub without_fillers : (rs : List Read) (hs : List Held) → held_after_all (filter (λ r. not (is_filler r.what.kind)) rs) hs ≡ held_after_all rs hs
without_fillers [] hs = refl
without_fillers (r ∷ rs) hs = by (is_filler r.what.kind) refl (without_fillers rs)
  where
    by : (b : Bool) → is_filler r.what.kind ≡ b → ((gs : List Held) → held_after_all (filter (λ r. not (is_filler r.what.kind)) rs) gs ≡ held_after_all rs gs)
        → held_after_all (cond (not b) (r ∷ filter (λ r. not (is_filler r.what.kind)) rs) (filter (λ r. not (is_filler r.what.kind)) rs)) hs ≡ held_after_all rs (held_after r.what.kind r hs)
    by true e ih = ih hs ∙ ap (held_after_all rs) (filler_holds_nothing r.what.kind r hs e)
    by false e ih = ih (held_after r.what.kind r hs)

-- ---- what the journal says

name_stays : (rs : List Record) (q : QueueState) → (queue_after rs q).name ≡ q.name
name_stays [] q = refl
name_stays (r ∷ rs) q = name_stays rs (after_record r.kind r q) ∙ name_after r.kind r q

one_last : (k : Kind) (r : Record) (q : QueueState) → (after_record k r q).last ≡ cond (is_enqueue k) r.rid q.last
one_last Enqueue r q = refl
one_last Dequeue r q = refl
one_last Commit r q = refl
one_last Abort r q = refl
one_last Filler r q = refl

last_is : (rs : List Read) (q : QueueState) → (queue_after (map (λ r. r.what) rs) q).last ≡ rid_of_reads q.last rs
last_is [] q = refl
last_is (r ∷ rs) q = last_is rs (after_record r.what.kind r.what q) ∙ ap (λ n. rid_of_reads n rs) (one_last r.what.kind r.what q)

-- the queue that a journal says: its name, the rid in force behind its reading, and what that leaves held
pub meant : (j : Journal) → queue_of j ≡ record { name = j.name; last = rid_of_reads (oldest_rid j.files) (journal_reading j); messages = messages_of (held_after_all (journal_reading j) []) }
meant j =
    let q : QueueState = record { name = j.name; last = oldest_rid j.files; messages = [] } in
    let rs : List Read = journal_reading j in
    parts (queue_of j) j.name (rid_of_reads (oldest_rid j.files) rs) (messages_of (held_after_all rs [])) (name_stays (map (λ r. r.what) rs) q) (last_is rs q) (all_records rs [] q refl)

pub opened_whole : (l : LogState) (hs : List Held) (gs : List Got) (b : Bool) → hs ≡ held_after_all (map read_of gs) [] → (d : Disk) (kept : List Read) → IsRead l kept d → IsUndamaged l d
    → filter (λ r. not (is_filler r.what.kind)) kept ≡ map read_of gs → IsQueueWhole (live l hs b) d
opened_whole l hs gs b e d kept read undamaged same =
    let j : Journal = journal_on d l.opening.kind l.opening.name in
    let held : held_after_all kept [] ≡ hs = sym (without_fillers kept []) ∙ ap (λ rs. held_after_all rs []) same ∙ sym e in
    let made : (ms : List Held) → QueueState = λ ms. record { name = l.opening.name; last = l.rid; messages = messages_of ms } in
    record {
      read = record {
        reads = kept;
        read = read;
        queue =
            meant j ∙ ap (λ (n : ℕ). record { name = l.opening.name; last = n; messages = messages_of (held_after_all (journal_reading j) []) }) undamaged.rid
            ∙ ap (λ (rs : List Read). made (held_after_all rs [])) read.reading ∙ ap made held;
        held = held;
      };
      undamaged = undamaged;
    }
