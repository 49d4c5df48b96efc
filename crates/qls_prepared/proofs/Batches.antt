-- The list behind each of its batches: the journal says its entries still.
use Rattle.std.proofs.Common.{◌≡◌, ℕ, ◌+◌, ◌<◌, ◌≤◌, Bool, true, false, List, [], ◌∷◌, ◌++◌, map, Option, Some, None, IfSome, refl, sym, ap, ◌∙◌, subst, arith}
use Rattle.std.proofs.lemmas.List.{map-append}
use Rattle.std.specs.List.{AllByRecursion}
use Rattle.qls_record.specs.Record.{Record, is_enqueue}
use Rattle.qls_site.specs.Disk.{Disk}
use Rattle.qls_site.specs.Content.{Moment, Content, Tells, moments_since}
use Rattle.qls_decide.specs.declared.ListEntry.{ListEntry}
use Rattle.qls_decide.specs.declared.ListState.TheVariants.{Prepared, DecidedCommit}
use Rattle.qls_decide.specs.Entries.{entry_of, state_of, with_entry}
use Rattle.qls_enqmap.specs.declared.Held.{Held}
use Rattle.qls_meaning.specs.Reading.{Read}
use Rattle.qls_meaning.specs.Replay.{decision, entries_after}
use Rattle.qls_meaning.specs.History.{AllUnmarked}
use Rattle.qls_blocks.specs.Batching.{with_fillers}
use Rattle.qls_pool.specs.Files.{OnDisk}
use Rattle.qls_pool.specs.Moments.{Passes, Arrives}
use Rattle.qls_pool.proofs.Moments.{Passes-of}
use Rattle.qls_log.specs.Logs.{LogState, IsSound}
use Rattle.qls_log.specs.Standing.{LogThere}
use Rattle.qls_log.specs.Reads.{IsRead, BeginsReading, ReadsOn, batch_reads}
use Rattle.qls_log.specs.Soundness.{IsUndamaged, BeginsUndamaged, StaysUndamaged}
use Rattle.qls_prepared.specs.Lists.{PreparedState, IsXid, XidsRise, RidsDiffer, IsReadSo, WholeBy, StaysWhole, held_in}
use Rattle.qls_prepared.specs.Records.{enqueue_of, decision_of, prepare_records, one_phase_records, end_records, without_entries}
use Rattle.qls_prepared.specs.Table.{held_at_spot}
use Rattle.qls_prepared.specs.Ending.{ended_entries, ended_held}
use Rattle.qls_prepared.specs.Saying.{spot_at, IsSaidOn, SaysOn}
use Rattle.qls_prepared.proofs.Below.{EnterUpTo, log_below}
use Rattle.qls_prepared.proofs.Said.{entries_append, entries_filled, says_prepared, says_one_phase, says_decided, says_ended, ended_are}
use Rattle.qls_prepared.proofs.HeldBehind.{NoneEnters, held_entered, held_decided, held_ended}
use Rattle.qls_prepared.proofs.Then.{adds_of, adds_then, unmarked_front, unmarked_rest}

-- ---- a batch is read behind what was said

said_on : (rs : List Record) (old new : LogState) (a b : Content) → IsSound old → LogThere old a.now.disk → ReadsOn rs old new a b → StaysUndamaged old new a b → AllUnmarked a.now (moments_since a b) → (es : List ListEntry) (hs : List Held)
    → IsReadSo old es hs a.now.disk → IsSaidOn rs old new es hs b.now.disk
said_on rs old new a b sound there r s unmarked es hs w = record {
  reads = w.reads;
  read = r.read unmarked w.reads w.read;
  undamaged = s unmarked w.reads w.read w.undamaged;
  batch = r.batch;
  entries = w.entries;
  held = w.held;
  below = log_below old a.now.disk w.reads sound there w.undamaged w.read;
}

pub told_says_on : (rs : List Record) (old new : LogState) (a b : Option Content) → IsSound old → IfSome a (OnDisk (LogThere old)) → Tells (ReadsOn rs old new) a b → Tells (StaysUndamaged old new) a b → Tells (SaysOn (Some old) rs old new) a b
told_says_on rs old new None None sound there r s = tt
told_says_on rs old new None (Some y) sound there r s = absurd r
told_says_on rs old new (Some x) None sound there r s = absurd r
told_says_on rs old new (Some x) (Some y) sound there r s = record { adds = r.adds; says = said_on rs old new x y sound there r s }

-- ---- the first batch, behind the file that was taken for it

pub nothing_yet : (l : LogState) (d : Disk) → IsRead l [] d → IsUndamaged l d → IsReadSo l [] [] d
nothing_yet l d r u = record { reads = []; read = r; undamaged = u; entries = refl; held = refl }

first_says : (rs : List Record) (start new : LogState) (R S : Moment → Moment → Type 0) (a m b : Content) → Arrives R a m → Passes S m b → BeginsReading start a m → BeginsUndamaged start a m
    → SaysOn (Some start) rs start new m b → SaysOn None rs start new a b
first_says rs start new R S a m b h p r u s = record {
  adds = adds_then a m b p.since (adds_of R a m (Passes-of R a m h)) p.moments;
  says = λ unmarked es hs w.
      let front : AllUnmarked a.now (moments_since a m) = unmarked_front R S a m b (Passes-of R a m h) p unmarked in
      let none : IsReadSo start es hs m.now.disk = subst (λ (fs : List ListEntry). IsReadSo start fs hs m.now.disk) (sym w.0) (subst (λ (gs : List Held). IsReadSo start [] gs m.now.disk) (sym w.1) (nothing_yet start m.now.disk (r front) (u front))) in
      s.says (unmarked_rest R S a m b h p unmarked) es hs none;
}

pub told_first_says : (rs : List Record) (start new : LogState) (R S : Moment → Moment → Type 0) (a m b : Option Content) → Tells (Arrives R) a m → Tells (Passes S) m b → Tells (BeginsReading start) a m → Tells (BeginsUndamaged start) a m
    → Tells (SaysOn (Some start) rs start new) m b → Tells (SaysOn None rs start new) a b
told_first_says rs start new R S None None None h p r u s = tt
told_first_says rs start new R S None None (Some z) h p r u s = absurd p
told_first_says rs start new R S None (Some y) b h p r u s = absurd h
told_first_says rs start new R S (Some x) None b h p r u s = absurd h
told_first_says rs start new R S (Some x) (Some y) None h p r u s = absurd p
told_first_says rs start new R S (Some x) (Some y) (Some z) h p r u s = first_says rs start new R S x y z h p r u s

-- ---- what the journal says then

module _ (rs : List Record) (start new : LogState) (es : List ListEntry) (hs : List Held) (d : Disk) (s : IsSaidOn rs start new es hs d) where
  entries_then : entries_after (map (λ r. r.what) (s.reads ++ batch_reads start rs)) [] ≡ entries_after rs es
  entries_then =
      ap (λ (ws : List Record). entries_after ws []) (map-append (λ r. r.what) s.reads (batch_reads start rs) ∙ ap (λ (ws : List Record). map (λ r. r.what) s.reads ++ ws) s.batch)
      ∙ entries_append (map (λ r. r.what) s.reads) (with_fillers rs) [] ∙ ap (entries_after (with_fillers rs)) s.entries ∙ entries_filled rs es

  reads_so : (fs : List ListEntry) (gs : List Held) → entries_after rs es ≡ fs → held_in fs (s.reads ++ batch_reads start rs) ≡ gs → IsReadSo new fs gs d
  reads_so fs gs e h = record { reads = s.reads ++ batch_reads start rs; read = s.read; undamaged = s.undamaged; entries = entries_then ∙ e; held = h }

less_than : (n : ℕ) (reads : List Read) → EnterUpTo n reads → AllByRecursion (λ r. is_enqueue r.what.kind ≡ true → r.what.rid < n + 1) reads
less_than n [] h = tt
less_than n (r ∷ reads) h = (λ k. let here : r.what.rid ≤ n = h.0 k in omega (arith, here), less_than n reads h.1)

-- one more entry
entered : (start new : LogState) (r : Record) (more : List Record) (e : ListEntry) (es : List ListEntry) (hs : List Held) (d : Disk) (s : IsSaidOn (r ∷ more) start new es hs d) → is_enqueue r.kind ≡ true → r.rid ≡ start.rid + 1 → e.rid ≡ r.rid
    → NoneEnters more → entry_of e.xid es ≡ None → entries_after (r ∷ more) es ≡ with_entry e es → IsReadSo new (with_entry e es) (hs ++ held_at_spot r.rid (spot_at start r) ∷ []) d
entered start new r more e es hs d s k n i m none says =
    let before : AllByRecursion (λ q. is_enqueue q.what.kind ≡ true → q.what.rid < e.rid) s.reads =
    subst (λ j. AllByRecursion (λ q. is_enqueue q.what.kind ≡ true → q.what.rid < j) s.reads) (sym (i ∙ n)) (less_than start.rid s.reads s.below) in
    reads_so (r ∷ more) start new es hs d s (with_entry e es) (hs ++ held_at_spot r.rid (spot_at start r) ∷ []) says
    (held_entered start r more e es s.reads k i m none before ∙ ap (λ (gs : List Held). gs ++ held_at_spot r.rid (spot_at start r) ∷ []) s.held)

pub then_prepared : (rid : ℕ) (x : List ℕ) (start new : LogState) (es : List ListEntry) (hs : List Held) (d : Disk) → rid ≡ start.rid → IsXid x → entry_of x es ≡ None → IsSaidOn (prepare_records rid x) start new es hs d
    → IsReadSo new (with_entry (record { xid = x; rid = rid + 1; state = Prepared }) es) (hs ++ held_at_spot (rid + 1) (spot_at start (enqueue_of (rid + 1) x false)) ∷ []) d
then_prepared rid x start new es hs d is fits none s =
    entered start new (enqueue_of (rid + 1) x false) [] (record { xid = x; rid = rid + 1; state = Prepared }) es hs d s refl (ap (λ n. n + 1) is) refl tt none (says_prepared rid x es fits)

pub then_one_phase : (rid : ℕ) (x : List ℕ) (start new : LogState) (es : List ListEntry) (hs : List Held) (d : Disk) → rid ≡ start.rid → IsXid x → entry_of x es ≡ None → IsSaidOn (one_phase_records rid x) start new es hs d
    → IsReadSo new (with_entry (record { xid = x; rid = rid + 1; state = DecidedCommit }) es) (hs ++ held_at_spot (rid + 1) (spot_at start (enqueue_of (rid + 1) x true)) ∷ []) d
then_one_phase rid x start new es hs d is fits none s =
    entered start new (enqueue_of (rid + 1) x true) (decision_of (rid + 1) (rid + 1) x true ∷ []) (record { xid = x; rid = rid + 1; state = DecidedCommit }) es hs d s refl (ap (λ n. n + 1) is) refl (refl, tt) none (says_one_phase rid x es fits none)

-- a decided entry
pub then_decided : (rid : ℕ) (x : List ℕ) (commit : Bool) (e : ListEntry) (start new : LogState) (es : List ListEntry) (hs : List Held) (d : Disk) → XidsRise es → entry_of x es ≡ Some e → state_of (entry_of x es) ≡ Some Prepared
    → IsSaidOn (decision_of rid e.rid x commit ∷ []) start new es hs d → IsReadSo new (with_entry (record e { state = decision commit }) es) hs d
then_decided rid x commit e start new es hs d rise found prepared s =
    let r : Record = decision_of rid e.rid x commit in
    reads_so (r ∷ []) start new es hs d s (with_entry (record e { state = decision commit }) es) hs (says_decided rid x commit e es found prepared)
    (held_decided start (r ∷ []) x (decision commit) e es s.reads (refl, tt) rise found ∙ s.held)

-- entries that end
pub then_ended : (rid : ℕ) (xs : List (List ℕ)) (start new : LogState) (es : List ListEntry) (hs : List Held) (d : Disk) → XidsRise es → RidsDiffer es → IsSaidOn (end_records rid xs) start new es hs d
    → IsReadSo new (without_entries xs es) (ended_held xs es hs) d
then_ended rid xs start new es hs d rise differ s =
    subst (λ (fs : List ListEntry). IsReadSo new fs (ended_held xs es hs) d) (ended_are xs es)
    (reads_so (end_records rid xs) start new es hs d s (ended_entries xs es) (ended_held xs es hs) (says_ended rid xs es) (held_ended start rid xs es s.reads rise differ ∙ ap (ended_held xs es) s.held))

-- ---- told

whole_by : (o : Option LogState) (l : LogState) (es fs : List ListEntry) (hs gs : List Held) (d : Disk) → o ≡ Some l → es ≡ fs → hs ≡ gs → IsReadSo l fs gs d → WholeBy o es hs d
whole_by o l es fs hs gs d a b c w = subst (λ p. WholeBy p es hs d) (sym a) (subst (λ (xs : List ListEntry). IsReadSo l xs hs d) (sym b) (subst (λ (ys : List Held). IsReadSo l fs ys d) (sym c) w))

stays : (old new : PreparedState) (rs : List Record) (start l : LogState) (fs : List ListEntry) (gs : List Held) (a b : Content) → SaysOn old.log rs start l a b → new.log ≡ Some l → new.entries ≡ fs → new.held ≡ gs
    → (IsSaidOn rs start l old.entries old.held b.now.disk → IsReadSo l fs gs b.now.disk) → StaysWhole old new a b
stays old new rs start l fs gs a b s log entries held then = record {
  adds = s.adds;
  whole = λ unmarked w. whole_by new.log l new.entries fs new.held gs b.now.disk log entries held (then (s.says unmarked old.entries old.held w));
}

told_stays : (old new : PreparedState) (rs : List Record) (start l : LogState) (fs : List ListEntry) (gs : List Held) (a b : Option Content) → Tells (SaysOn old.log rs start l) a b → new.log ≡ Some l → new.entries ≡ fs → new.held ≡ gs
    → ((d : Disk) → IsSaidOn rs start l old.entries old.held d → IsReadSo l fs gs d) → Tells (StaysWhole old new) a b
told_stays old new rs start l fs gs None None s log entries held then = tt
told_stays old new rs start l fs gs None (Some y) s log entries held then = absurd s
told_stays old new rs start l fs gs (Some x) None s log entries held then = absurd s
told_stays old new rs start l fs gs (Some x) (Some y) s log entries held then = stays old new rs start l fs gs x y s log entries held (then y.now.disk)

pub told_prepared : (old new : PreparedState) (rid : ℕ) (x : List ℕ) (start l : LogState) (a b : Option Content) → rid ≡ start.rid → IsXid x → entry_of x old.entries ≡ None → Tells (SaysOn old.log (prepare_records rid x) start l) a b
    → new.log ≡ Some l → new.entries ≡ with_entry (record { xid = x; rid = rid + 1; state = Prepared }) old.entries → new.held ≡ old.held ++ held_at_spot (rid + 1) (spot_at start (enqueue_of (rid + 1) x false)) ∷ []
    → Tells (StaysWhole old new) a b
told_prepared old new rid x start l a b is fits none s log entries held =
    told_stays old new (prepare_records rid x) start l (with_entry (record { xid = x; rid = rid + 1; state = Prepared }) old.entries) (old.held ++ held_at_spot (rid + 1) (spot_at start (enqueue_of (rid + 1) x false)) ∷ []) a b s log entries held
    (λ d said. then_prepared rid x start l old.entries old.held d is fits none said)

pub told_one_phase : (old new : PreparedState) (rid : ℕ) (x : List ℕ) (start l : LogState) (a b : Option Content) → rid ≡ start.rid → IsXid x → entry_of x old.entries ≡ None → Tells (SaysOn old.log (one_phase_records rid x) start l) a b
    → new.log ≡ Some l → new.entries ≡ with_entry (record { xid = x; rid = rid + 1; state = DecidedCommit }) old.entries → new.held ≡ old.held ++ held_at_spot (rid + 1) (spot_at start (enqueue_of (rid + 1) x true)) ∷ []
    → Tells (StaysWhole old new) a b
told_one_phase old new rid x start l a b is fits none s log entries held =
    told_stays old new (one_phase_records rid x) start l (with_entry (record { xid = x; rid = rid + 1; state = DecidedCommit }) old.entries) (old.held ++ held_at_spot (rid + 1) (spot_at start (enqueue_of (rid + 1) x true)) ∷ []) a b s log entries
    held (λ d said. then_one_phase rid x start l old.entries old.held d is fits none said)

pub told_decided : (old new : PreparedState) (rid : ℕ) (x : List ℕ) (commit : Bool) (e : ListEntry) (start l : LogState) (a b : Option Content) → XidsRise old.entries → entry_of x old.entries ≡ Some e → state_of (entry_of x old.entries) ≡ Some Prepared
    → Tells (SaysOn old.log (decision_of rid e.rid x commit ∷ []) start l) a b → new.log ≡ Some l → new.entries ≡ with_entry (record e { state = decision commit }) old.entries → new.held ≡ old.held → Tells (StaysWhole old new) a b
told_decided old new rid x commit e start l a b rise found prepared s log entries held =
    told_stays old new (decision_of rid e.rid x commit ∷ []) start l (with_entry (record e { state = decision commit }) old.entries) old.held a b s log entries held
    (λ d said. then_decided rid x commit e start l old.entries old.held d rise found prepared said)

pub told_ended : (old new : PreparedState) (rid : ℕ) (xs : List (List ℕ)) (start l : LogState) (a b : Option Content) → XidsRise old.entries → RidsDiffer old.entries → Tells (SaysOn old.log (end_records rid xs) start l) a b
    → new.log ≡ Some l → new.entries ≡ without_entries xs old.entries → new.held ≡ ended_held xs old.entries old.held → Tells (StaysWhole old new) a b
told_ended old new rid xs start l a b rise differ s log entries held =
    told_stays old new (end_records rid xs) start l (without_entries xs old.entries) (ended_held xs old.entries old.held) a b s log entries held (λ d said. then_ended rid xs start l old.entries old.held d rise differ said)
