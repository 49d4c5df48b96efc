-- All journals are open: what they are, and how they stand on the disk.
use Rattle.std.proofs.Common.{◌≡◌, ◌<◌, ◌^◌, true, List, [], ◌∷◌, ◌++◌, map, IfSome, Option, Some, None, Ok, Err, refl, sym, ap, ◌∙◌, subst}
use Rattle.std.specs.List.{AllByRecursion}
use Rattle.qls_model.specs.Limits.{is_partition, is_kib}
use Rattle.qls_model.specs.Sound.{IsNumbered}
use Rattle.qls_model.specs.declared.machine.PoolId.{PoolId}
use Rattle.qls_site.specs.Disk.{Disk, full_file}
use Rattle.qls_site.specs.Content.{Content, Tells}
use Rattle.qls_site.proofs.Told.{Tells-then, Tells-weaken}
use Rattle.qls_meaning.specs.Journals.{headed}
use Rattle.qls_scan.specs.Found.{JournalsRise}
use Rattle.qls_pool.specs.Pools.{PoolState}
use Rattle.qls_pool.specs.Files.{OnDisk, IsWholePool}
use Rattle.qls_pool.specs.Moments.{Passes}
use Rattle.qls_pool.specs.Serials.{TakesNone}
use Rattle.qls_pool.proofs.Moments.{Passes-of}
use Rattle.qls_log.specs.Leaving.{LeavesInOrder}
use Rattle.qls_log.specs.Logs.{IsSound as IsSoundLog}
use Rattle.qls_queue.specs.Live.{LiveState, QueueThere}
use Rattle.qls_queue.specs.Releasing.{IsQueueWhole}
use Rattle.qls_prepared.specs.Ends.{IsFitPool}
use Rattle.qls_prepared.specs.Lists.{PreparedState, rid_of, IsSound as IsSoundList}
use Rattle.qls_journals.specs.declared.cause.Cause.{Cause}
use Rattle.qls_journals.specs.State.{JournalsState, queues_of, IsKept, IsKeptList, NamesRise, names_of, AreJournals, NamesJournal, AllNamed, Fits, NonePast}
use Rattle.qls_journals.specs.Moments.{IsStoreStep}
use Rattle.qls_journals.specs.Opened.{log_behind, queues_with, list_with, IsWell, OpensOne, OpensPart}
use Rattle.qls_journals.specs.Opening.{ReadingState, IsReading, StandsSo, MayOpen, Opens, OpensWritten, begun_at, journals_in}
use Rattle.qls_journals.proofs.HomesFound.{homes_are}
use Rattle.qls_journals.proofs.AllJournals.{all_mapped}
use Rattle.qls_journals.proofs.OpenedFrom.{AreApart, queues_from, list_after, names_rise, queues_next, queues_end, list_next, list_end, queues_kept, queues_numbered, list_is_kept, apart_next}
use Rattle.qls_journals.proofs.OpenedList.{new_list}
use Rattle.qls_journals.proofs.OpenedMeant.{none_past_of, queues_meant, entries_meant, rid_meant}
use Rattle.qls_journals.proofs.OpenedNamed.{AreAmong, among_self, all_read, names_journal}
use Rattle.qls_journals.proofs.OpenedSteps.{IsOpen, UnderWay, IsNext, Stopped, begins, under_way, stopped}
use Rattle.qls_journals.proofs.OpenedWritten.{all_written}

-- ---- each of them

all_parts : (d : Disk) (qs : List LiveState) → AllByRecursion (IsOpen d) qs → AllByRecursion (λ q. QueueThere q d) qs × AllByRecursion (λ q. IsQueueWhole q d) qs
all_parts d [] h = (tt, tt)
all_parts d (q ∷ qs) h = let rest = all_parts d qs h.1 in ((h.0.there, rest.0), (h.0.whole, rest.1))

-- the open journals, whose queues and list are those of all that was read
pub record IsOpened (default : PoolId) (all : List ReadingState) (s : JournalsState) : Type 0 where
  pub home : s.home ≡ default
  pub queues : s.queues ≡ queues_from all
  pub list : s.list ≡ list_after default all (new_list default)

pub are_journals : (home : PoolId) (all : List ReadingState) (s : JournalsState) → IsOpened home all s → (is_partition home.part ≡ true) × (is_kib home.kib ≡ true) → AllByRecursion IsKept s.queues → IsKeptList home s.list → JournalsRise (journals_in all) → AreJournals s
are_journals home all s is limits kept list rise = record {
  home = subst (λ (h : PoolId). (is_partition h.part ≡ true) × (is_kib h.kib ≡ true)) (sym is.home) limits;
  kept = kept;
  rising = subst (λ (qs : List LiveState). NamesRise (names_of qs)) (sym is.queues) (names_rise all rise);
  list = subst (λ (h : PoolId). IsKeptList h s.list) (sym is.home) list;
}

module _ (home : PoolId) (all : List ReadingState) (s : JournalsState) (is : IsOpened home all s) (read : AllByRecursion IsReading all) (limit : s.pool.greatest < 2 ^ 62) (handed : PoolState) (a b : Content)
    (may : MayOpen handed all a.now.disk) (w : UnderWay home all [] s.pool s.queues s.list a b) where
  named : AllNamed s.queues b.now.disk
  named = λ id f found used. subst (λ (qs : List LiveState). NamesJournal qs (headed (full_file f)).header) (sym is.queues) (names_journal all read (headed (full_file f)).header (w.own id f found used))

  fits : Fits s b.now.disk
  fits = record {
    pool = w.pool;
    limit = limit;
    fit = w.fit;
    ids = w.ids;
    queues = (all_parts b.now.disk s.queues w.queues).0;
    list = (w.list refl).there;
    own = named;
  }

  pub opens : Opens s a b
  opens = record {
    arrives = w.arrives;
    quiet = w.quiet;
    fits = fits;
    whole = record { queues = (all_parts b.now.disk s.queues w.queues).1; list = (w.list refl).whole };
    queues = ap (λ (qs : List LiveState). map (λ q. q.queue) qs) is.queues ∙ queues_meant a.now.disk all may.journals may.stand;
    entries = ap (λ (p : PreparedState). p.entries) is.list ∙ entries_meant a.now.disk home all may.journals read may.stand;
    rid = ap rid_of is.list ∙ rid_meant a.now.disk home all may.journals read may.stand;
    homes = homes_are home a.now.disk s all is.home is.queues is.list read may.stand may.pool.0 (all_read all a.now.disk may.journals may.scanned);
  }

-- ---- by what was read alone

-- what is known once some are open, told or not
pub record SoFar (home : PoolId) (all rest : List ReadingState) (qs : List LiveState) (p : PreparedState) : Type 0 where
  pub queues : qs ++ queues_from rest ≡ queues_from all
  pub list : list_after home rest p ≡ list_after home all (new_list home)
  pub read : AllByRecursion IsReading rest → AllByRecursion IsReading all
  pub rise : JournalsRise (journals_in rest)
  pub among : AreAmong all rest
  pub kept : AllByRecursion IsKept qs
  pub own : IsKeptList home p
  pub apart : AreApart rest qs
  pub numbered : AllByRecursion (λ q. IsNumbered q.queue) qs

pub none_so_far : (home : PoolId) (all rest : List ReadingState) (qs : List LiveState) (p : PreparedState) → rest ≡ all → qs ≡ [] → p ≡ new_list home → IsSoundList p → JournalsRise (journals_in all) → SoFar home all rest qs p
none_so_far home all rest qs p e f g sound rise =
    subst (λ (rs : List ReadingState). SoFar home all rs qs p) (sym e)
    (subst (λ (xs : List LiveState). SoFar home all all xs p) (sym f)
    (subst (λ (x : PreparedState). SoFar home all all [] x) (sym g)
    (record {
      queues = refl;
      list = refl;
      read = λ h. h;
      rise = rise;
      among = among_self all;
      kept = tt;
      own = record { unended = refl; sound = subst IsSoundList g sound; home = refl };
      apart = tt;
      numbered = tt;
    })))

-- the answer of one more
pub record Answered (home : PoolId) (r : ReadingState) (qs us : List LiveState) (p u : PreparedState) : Type 0 where
  pub queues : us ≡ queues_with r.log.journal.kind (log_behind r.log) r.records qs
  pub list : u ≡ list_with home r.log.journal.kind (log_behind r.log) r.records p
  pub well : IsWell r.log.journal.kind home (log_behind r.log) r.records
  pub legal : IsSoundLog (log_behind r.log)
  pub reading : IsReading r

module _ (home : PoolId) (all : List ReadingState) (r : ReadingState) (rest : List ReadingState) (qs us : List LiveState) (p u : PreparedState) (h : SoFar home all (r ∷ rest) qs p) (k : Answered home r qs us p u) where
  pub one_so_far : SoFar home all rest us u
  one_so_far = record {
    queues = queues_next r rest qs us k.queues ∙ h.queues;
    list = list_next home r rest p u k.list ∙ h.list;
    read = λ g. h.read (k.reading, g);
    rise = h.rise.1;
    among = h.among.1;
    kept = queues_kept home r k.reading.log.order k.legal k.well qs us k.queues h.kept;
    own = list_is_kept home r k.reading.log.order k.legal k.well p u k.list h.own;
    apart = apart_next r rest qs us k.queues h.rise h.apart;
    numbered = queues_numbered home r k.reading.log.order k.legal k.well qs us k.queues h.numbered;
  }

  pub is_next : IsNext home all r rest qs us p u
  is_next = record {
    read = k.reading;
    sound = k.legal;
    rise = h.rise;
    among = h.among;
    kept = h.kept;
    list = h.own;
    apart = h.apart;
    queues_new = k.queues;
    list_new = k.list;
  }

module _ (home : PoolId) (all rest : List ReadingState) (handed : PoolState) (qs : List LiveState) (p : PreparedState) (h : SoFar home all rest qs p) (done : rest ≡ []) where
  abbrev pub all_opened : JournalsState
  all_opened = record { home = home; pool = handed; queues = qs; list = p }

  pub is_opened : IsOpened home all all_opened
  is_opened = record { home = refl; queues = queues_end rest qs (queues_from all) done h.queues; list = list_end home rest p (list_after home all (new_list home)) done h.list }

  pub opened_journals : (is_partition home.part ≡ true) × (is_kib home.kib ≡ true) → JournalsRise (journals_in all) → AreJournals all_opened
  opened_journals limits rise = are_journals home all all_opened is_opened limits h.kept h.own rise

  pub opened_numbered : AllByRecursion IsNumbered (queues_of all_opened)
  opened_numbered = all_mapped IsNumbered (λ q. q.queue) qs h.numbered

  pub opened_readings : AllByRecursion IsReading all
  opened_readings = h.read (subst (AllByRecursion IsReading) (sym done) tt)

-- ---- where the content is told

pub told_begins : (home : PoolId) (all rest : List ReadingState) (handed : PoolState) (qs : List LiveState) (p : PreparedState) (a : Option Content) → rest ≡ all → qs ≡ [] → p ≡ new_list home → IsFitPool handed → IfSome a (OnDisk (MayOpen handed all))
    → Tells (UnderWay home all rest handed qs p) a a
told_begins home all rest handed qs p None e f g fit may = tt
told_begins home all rest handed qs p (Some a) e f g fit may =
    subst (λ (rs : List ReadingState). UnderWay home all rs handed qs p a a) (sym e)
    (subst (λ (xs : List LiveState). UnderWay home all all handed xs p a a) (sym f) (subst (λ (x : PreparedState). UnderWay home all all handed [] x a a) (sym g) (begins home all handed a fit may)))

pub told_stands : (home : PoolId) (all rest : List ReadingState) (r : ReadingState) (handed : PoolState) (qs : List LiveState) (p : PreparedState) (a b : Option Content) → Tells (UnderWay home all (r ∷ rest) handed qs p) a b → IfSome b (OnDisk (λ d. StandsSo d r))
told_stands home all rest r handed qs p None None w = tt
told_stands home all rest r handed qs p None (Some b) w = absurd w
told_stands home all rest r handed qs p (Some a) None w = absurd w
told_stands home all rest r handed qs p (Some a) (Some b) w = w.stand.0

pub told_pool : (home : PoolId) (all rest : List ReadingState) (handed : PoolState) (qs : List LiveState) (p : PreparedState) (a b : Option Content) → Tells (UnderWay home all rest handed qs p) a b → IfSome b (OnDisk (IsWholePool handed))
told_pool home all rest handed qs p None None w = tt
told_pool home all rest handed qs p None (Some b) w = absurd w
told_pool home all rest handed qs p (Some a) None w = absurd w
told_pool home all rest handed qs p (Some a) (Some b) w = w.pool

pub told_next : (home : PoolId) (all : List ReadingState) (r : ReadingState) (rest : List ReadingState) (qs us : List LiveState) (p u : PreparedState) → IsNext home all r rest qs us p u → (handed left : PoolState) (a b c : Option Content)
    → Tells (UnderWay home all (r ∷ rest) handed qs p) a b → Tells (OpensOne home r left) b c → Tells (UnderWay home all rest left us u) a c
told_next home all r rest qs us p u n handed left a b c w one =
    Tells-then (UnderWay home all (r ∷ rest) handed qs p) (OpensOne home r left) (UnderWay home all rest left us u) a b c w one (λ x y z. under_way home all r rest qs us p u n handed left x y z)

pub told_stopped : (home : PoolId) (all rest : List ReadingState) (r : ReadingState) (handed : PoolState) (qs : List LiveState) (p : PreparedState) (a b c : Option Content) → Tells (UnderWay home all rest handed qs p) a b → Tells (OpensPart r) b c → Tells Stopped a c
told_stopped home all rest r handed qs p a b c w part = Tells-then (UnderWay home all rest handed qs p) (OpensPart r) Stopped a b c w part (λ x y z. stopped home all rest r handed qs p x y z)

module _ (a c : Option Content) (h : Tells Stopped a c) where
  pub stopped_passes : Tells (Passes IsStoreStep) a c
  stopped_passes = Tells-weaken Stopped (Passes IsStoreStep) a c h (λ x y k. k.passes)

  pub stopped_none : Tells TakesNone a c
  stopped_none = Tells-weaken Stopped TakesNone a c h (λ x y k. k.none)

  pub stopped_leaves : Tells (Passes LeavesInOrder) a c
  stopped_leaves = Tells-weaken Stopped (Passes LeavesInOrder) a c h (λ x y k. k.leaves)

  pub stopped_writes : (e : Cause) → Tells (OpensWritten {X = JournalsState} (Err e) (λ x. x)) a c
  stopped_writes e = Tells-weaken Stopped (OpensWritten {X = JournalsState} (Err e) (λ x. x)) a c h (λ x y k. (k.writes [] (begun_at x) refl, tt))

module _ (home : PoolId) (all : List ReadingState) (s : JournalsState) (is : IsOpened home all s) (rest : List ReadingState) (done : rest ≡ []) (handed : PoolState) (a b : Option Content) (may : IfSome a (OnDisk (MayOpen handed all)))
    (w : Tells (UnderWay home all rest s.pool s.queues s.list) a b) where
  ended : Tells (UnderWay home all [] s.pool s.queues s.list) a b
  ended = subst (λ (rs : List ReadingState). Tells (UnderWay home all rs s.pool s.queues s.list) a b) done w

  pub all_opens : AllByRecursion IsReading all → s.pool.greatest < 2 ^ 62 → Tells (Opens s) a b
  all_opens read limit = by a b may ended
    where
      by : (a b : Option Content) → IfSome a (OnDisk (MayOpen handed all)) → Tells (UnderWay home all [] s.pool s.queues s.list) a b → Tells (Opens s) a b
      by None None may w = tt
      by None (Some b) may w = absurd w
      by (Some a) None may w = absurd w
      by (Some a) (Some b) may w = opens home all s is read limit handed a b may w

  pub all_none : Tells TakesNone a b
  all_none = Tells-weaken (UnderWay home all [] s.pool s.queues s.list) TakesNone a b ended (λ x y k. k.none)

  pub all_leave : Tells (Passes LeavesInOrder) a b
  all_leave = Tells-weaken (UnderWay home all [] s.pool s.queues s.list) (Passes LeavesInOrder) a b ended (λ x y k. Passes-of LeavesInOrder x y k.leaves)

  pub all_writes : Tells (OpensWritten {E = Cause} (Ok s) (λ x. x)) a b
  all_writes =
      Tells-weaken (UnderWay home all [] s.pool s.queues s.list) (OpensWritten {E = Cause} (Ok s) (λ x. x)) a b ended
      (λ x y k. (k.writes [] (begun_at x) refl, all_written x y k.none home s all is.queues is.list))

  pub all_still : Tells (λ x y. NonePast x.now.disk → y ≡ x) a b
  all_still = by a b may ended
    where
      by : (a b : Option Content) → IfSome a (OnDisk (MayOpen handed all)) → Tells (UnderWay home all [] s.pool s.queues s.list) a b → Tells (λ x y. NonePast x.now.disk → y ≡ x) a b
      by None None may w = tt
      by None (Some b) may w = absurd w
      by (Some a) None may w = absurd w
      by (Some a) (Some b) may w = λ none. (w.still (none_past_of a.now.disk all may.journals may.stand none)).1
