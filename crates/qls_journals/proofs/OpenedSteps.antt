-- Journals opened one after another: what holds of the disk once some are open.
use Rattle.std.proofs.Common.{◌≡◌, ℕ, zero, suc, ◌-◌, Bool, true, false, cond, ◌&&◌, ◌||◌, ◌==◌, List, [], ◌∷◌, ◌++◌, length, take, drop, Some, refl, sym, ap, ◌∙◌, subst}
use Rattle.std.specs.List.{AllByRecursion}
use Rattle.qls_model.specs.Bytes.{same}
use Rattle.qls_model.specs.declared.machine.PoolId.{PoolId}
use Rattle.qls_site.specs.Disk.{Disk, FileState, IsQuiet, change_file}
use Rattle.qls_site.specs.Content.{Moment, Content, moments_since}
use Rattle.qls_filehdr.specs.declared.FileHeader.{FileHeader}
use Rattle.qls_filehdr.specs.declared.JournalKind.{JournalKind}
use Rattle.qls_filehdr.specs.declared.JournalKind.TheVariants.{Queue, List as Listed}
use Rattle.qls_meaning.specs.History.{now, last_of}
use Rattle.qls_meaning.specs.Journals.{same_kind}
use Rattle.qls_scan.specs.declared.answers.JournalFiles.{JournalFiles}
use Rattle.qls_scan.specs.Found.{JournalsRise, goes_before}
use Rattle.qls_reading.specs.ReadLogs.{linked_files, opening_behind}
use Rattle.qls_reading.proofs.Others.{stands_after, reads_after}
use Rattle.qls_reading.proofs.Row.{in_row}
use Rattle.qls_pool.specs.Pools.{PoolState}
use Rattle.qls_pool.specs.Files.{HeadedFile, IsWholePool}
use Rattle.qls_pool.specs.Moments.{Passes, Arrives}
use Rattle.qls_pool.specs.Serials.{TakesNone, taken_since}
use Rattle.qls_pool.proofs.Moments.{Arrives-then, Arrives-passes, Arrives-same, Passes-of, since_is, since_of, since_then}
use Rattle.qls_pool.proofs.Serials.{taken_then}
use Rattle.qls_log.specs.declared.opening.Opening.{Opening}
use Rattle.qls_log.specs.Leaving.{LeavesInOrder, WritesInOrder}
use Rattle.qls_log.specs.Logs.{IsSound as IsSoundLog}
use Rattle.qls_log.specs.Returning.{with_back, with_backs}
use Rattle.qls_log.specs.Steps.{IsLogStep, IsOwnNext, is_own}
use Rattle.qls_log.specs.Trimming.{newest_first}
use Rattle.qls_log.specs.Unwritten.{WritesWell, history_with}
use Rattle.qls_log.proofs.BackSteps.{told_well_same}
use Rattle.qls_log.proofs.Sectors.{now_with, in_order_then}
use Rattle.qls_queue.specs.Live.{LiveState, QueueThere}
use Rattle.qls_queue.specs.Releasing.{IsQueueWhole}
use Rattle.qls_prepared.specs.Ends.{IsFitPool}
use Rattle.qls_prepared.specs.Lists.{PreparedState, ListThere, IsListWhole}
use Rattle.qls_journals.specs.State.{IsKept, IsKeptList}
use Rattle.qls_journals.specs.Moments.{IsStoreStep}
use Rattle.qls_journals.specs.Opened.{log_behind, past_of, queues_with, list_with, IsSaid, OpensOne, OpensPart}
use Rattle.qls_journals.specs.Opening.{ReadingState, IsReading, StandAsRead, MayOpen, journals_in}
use Rattle.qls_journals.proofs.FitPools.{IsFitDisk, IsOfPool, fit_disk, fit_pool, given_back, own_pool}
use Rattle.qls_journals.proofs.Others.{HasId, store_arrival, store_passing, headed_kept, ids_kept, queue_kept, queue_whole_kept, other_list, list_kept, list_whole_kept}
use Rattle.qls_journals.proofs.OpenedFrom.{HasNonePast, IsOther, AreApart, is_queue_reading, queue_from, list_from, kind_queue, kind_list, queues_by, other_behind, apart_first}
use Rattle.qls_journals.proofs.OpenedList.{new_list}
use Rattle.qls_journals.proofs.OpenedNamed.{is_read, AreAmong, AllRead, all_read, no_file}
use Rattle.qls_journals.proofs.Resting.{takes_none}

-- ---- a queue and the list that are open

pub record IsOpen (d : Disk) (q : LiveState) : Type 0 where
  pub there : QueueThere q d
  pub whole : IsQueueWhole q d

pub record IsOpenList (d : Disk) (p : PreparedState) : Type 0 where
  pub there : ListThere p d
  pub whole : IsListWhole p d

-- ---- some are open

-- The site went so far by a store's steps, where no file came into use. The queues and the list that are open stand on the disk and are
-- said by their journals, and the others stand as they were read. The list is open once none of the others is its journal
pub record UnderWay (home : PoolId) (all rest : List ReadingState) (handed : PoolState) (qs : List LiveState) (p : PreparedState) (a b : Content) : Type 0 where
  pub arrives : Arrives IsStoreStep a b
  pub none : TakesNone a b
  pub leaves : Arrives LeavesInOrder a b
  pub writes : WritesWell a b
  pub still : AllByRecursion HasNonePast all → AllByRecursion HasNonePast rest × (b ≡ a)
  pub quiet : IsQuiet b.now.disk
  pub pool : IsWholePool handed b.now.disk
  pub fit : IsFitPool handed
  pub ids : AllByRecursion HasId b.now.disk
  pub queues : AllByRecursion (IsOpen b.now.disk) qs
  pub list : is_read rest Listed [] ≡ false → IsOpenList b.now.disk p
  pub stand : StandAsRead rest b.now.disk
  pub own : AllRead all b.now.disk

pub begins : (home : PoolId) (all : List ReadingState) (handed : PoolState) (a : Content) → IsFitPool handed → MayOpen handed all a.now.disk → UnderWay home all all handed [] (new_list home) a a
begins home all handed a fit may =
    let own : AllRead all a.now.disk = all_read all a.now.disk may.journals may.scanned in
    record {
      arrives = Arrives-same IsStoreStep a a refl;
      none = takes_none (Some a);
      leaves = Arrives-same LeavesInOrder a a refl;
      writes = told_well_same (Some a);
      still = λ past. (past, refl);
      quiet = may.quiet;
      pool = may.pool;
      fit = fit;
      ids = may.ids;
      queues = tt;
      list = λ e. record { there = no_file all Listed [] e a.now.disk may.pool.0 own; whole = (refl, refl) };
      stand = may.stand;
      own = own;
    }

-- ---- moments

arrives_by : (R Q : Moment → Moment → Type 0) (a b : Content) → Arrives R a b → Passes Q a b → Arrives Q a b
arrives_by R Q a b h k = record {
  since = k.since;
  moments = k.moments;
  chain = k.chain;
  last = h.last ∙ ap (last_of a.now) (sym (since_of R a b h) ∙ since_is Q a b k);
}

well_then : (a b c : Content) → Arrives IsStoreStep a b → (Q : Moment → Moment → Type 0) → Passes Q b c → WritesWell a b → WritesWell b c → WritesWell a c
well_then a b c h Q k v w = λ areas history at.
    let xs : List Moment = moments_since a b in
    let ys : List Moment = moments_since b c in
    let parts : moments_since a c ≡ xs ++ ys =
    since_then IsStoreStep Q a b c (Passes-of IsStoreStep a b h) k ∙ ap (λ (ms : List Moment). ms ++ k.since) (sym (since_of IsStoreStep a b h)) ∙ ap (λ (ms : List Moment). xs ++ ms) (sym (since_is Q b c k)) in
    let there : now (history_with history xs) ≡ b.now =
    now_with history xs ∙ ap (λ (m : Moment). last_of m xs) at ∙ ap (last_of a.now) (since_of IsStoreStep a b h) ∙ sym h.last in
    subst (WritesInOrder areas history) (sym parts) (in_order_then areas history xs ys (v areas history at) (w areas (history_with history xs) there))

none_then : (a b c : Content) → Arrives IsStoreStep a b → (Q : Moment → Moment → Type 0) → Passes Q b c → TakesNone a b → TakesNone b c → TakesNone a c
none_then a b c h Q k m n = taken_then IsStoreStep Q a b c h k ∙ ap (λ (s : List ℕ). s ++ taken_since b c) m ∙ n

-- ---- files that go back

all_take : {A : Type 0} (P : A → Type 0) (n : ℕ) (xs : List A) → AllByRecursion P xs → AllByRecursion P (take n xs)
all_take P zero [] h = tt
all_take P zero (x ∷ xs) h = tt
all_take P (suc n) [] h = tt
all_take P (suc n) (x ∷ xs) h = (h.0, all_take P n xs h.1)

all_drop : {A : Type 0} (P : A → Type 0) (n : ℕ) (xs : List A) → AllByRecursion P xs → AllByRecursion P (drop n xs)
all_drop P zero xs h = h
all_drop P (suc n) [] h = tt
all_drop P (suc n) (x ∷ xs) h = all_drop P n xs h.1

all_joined : {A : Type 0} (P : A → Type 0) (xs ys : List A) → AllByRecursion P xs → AllByRecursion P ys → AllByRecursion P (xs ++ ys)
all_joined P [] ys h k = k
all_joined P (x ∷ xs) ys h k = (h.0, all_joined P xs ys h.1 k)

all_newest : (P : HeadedFile → Type 0) (k : ℕ) (hs : List HeadedFile) → AllByRecursion P hs → AllByRecursion P (newest_first k hs)
all_newest P zero hs h = tt
all_newest P (suc k) hs h =
    all_joined P (drop (length hs - 1) hs) (newest_first k (take (length hs - 1) hs)) (all_drop P (length hs - 1) hs h) (all_newest P k (take (length hs - 1) hs) (all_take P (length hs - 1) hs h))

quiet_change : (id : ℕ) (c : FileState → FileState) → ((f : FileState) → (c f).pending ≡ f.pending) → (d : Disk) → IsQuiet d → IsQuiet (change_file id c d)
quiet_change id c same [] q = tt
quiet_change id c same (f ∷ d) q = (elim (f.id == id) as (λ b. (cond b (c f) f).pending ≡ []) [ true ↦ same f ∙ q.0 | false ↦ q.0 ], quiet_change id c same d q.1)

quiet_backs : (hs : List HeadedFile) (c : Content) → IsQuiet c.now.disk → IsQuiet (with_backs hs c).now.disk
quiet_backs [] c q = q
quiet_backs (h ∷ hs) c q = quiet_backs hs (with_back h c) (quiet_change h.id _ (λ f. refl) c.now.disk q)

fit_kept : (r : ReadingState) (handed left : PoolState) (b c : Content) → IsReading r → IsSoundLog (log_behind r.log) → c ≡ with_backs (past_of r.log) b → IsWholePool handed b.now.disk → IsWholePool left c.now.disk → IsFitPool handed
    → IsFitPool left
fit_kept r handed left b c read sound told whole after fit =
    let o : Opening = opening_behind r.log.journal in
    let row = in_row o r.log.journal read.log.order refl refl refl in
    fit_pool left c.now.disk after
    (subst (λ (x : Content). IsFitDisk x.now.disk) (sym told)
    (given_back o (sound.opening.part, sound.opening.kib) (past_of r.log) (all_newest (IsOfPool o) r.log.past (linked_files r.log.journal) (own_pool o (linked_files r.log.journal) row.own)) b (fit_disk handed b.now.disk whole fit)))

-- ---- the journals that aren't open yet

others_stand : (o : Opening) (b c : Content) → Arrives (IsLogStep o) b c → (rs : List ReadingState) → AllByRecursion (λ j. is_own o j.kind j.name ≡ false) (journals_in rs) → StandAsRead rs b.now.disk → StandAsRead rs c.now.disk
others_stand o b c went [] other h = tt
others_stand o b c went (r ∷ rs) other h =
    (record { log = stands_after o r.log b c went other.0 h.0.log; records = reads_after o r.log b c went other.0 r.records h.0.records }, others_stand o b c went rs other.1 h.1)

others_of : (j : JournalFiles) (js : List JournalFiles) → AllByRecursion (λ k. goes_before j k ≡ true) js → AllByRecursion (λ k. IsOther j k.kind k.name) js
others_of j [] h = tt
others_of j (k ∷ js) h = (other_behind j k h.0, others_of j js h.1)

-- ---- one more

-- what is known of the journal that is opened and of those that are, told or not
pub record IsNext (home : PoolId) (all : List ReadingState) (r : ReadingState) (rest : List ReadingState) (qs us : List LiveState) (p u : PreparedState) : Type 0 where
  pub read : IsReading r
  pub sound : IsSoundLog (log_behind r.log)
  pub rise : JournalsRise (journals_in (r ∷ rest))
  pub among : AreAmong all (r ∷ rest)
  pub kept : AllByRecursion IsKept qs
  pub list : IsKeptList home p
  pub apart : AreApart (r ∷ rest) qs
  pub queues_new : us ≡ queues_with r.log.journal.kind (log_behind r.log) r.records qs
  pub list_new : u ≡ list_with home r.log.journal.kind (log_behind r.log) r.records p

module _ (home : PoolId) (all : List ReadingState) (r : ReadingState) (rest : List ReadingState) (qs us : List LiveState) (p u : PreparedState) (n : IsNext home all r rest qs us p u) (handed left : PoolState) (a b c : Content)
    (w : UnderWay home all (r ∷ rest) handed qs p a b) (one : OpensOne home r left b c) where
  abbrev o : Opening
  o = opening_behind r.log.journal

  went : Arrives IsStoreStep b c
  went = store_arrival o b c one.arrives

  still_on : AllByRecursion HasNonePast all → AllByRecursion HasNonePast rest × (c ≡ a)
  still_on past =
      let before = w.still past in
      (before.0.1, one.told ∙ ap (λ k. with_backs (newest_first k (linked_files r.log.journal)) b) before.0.0 ∙ before.1)

  -- the queues

  queues_stay : (xs : List LiveState) → AllByRecursion IsKept xs → AllByRecursion (λ q. IsOther r.log.journal q.log.opening.kind q.log.opening.name) xs → AllByRecursion (IsOpen b.now.disk) xs → AllByRecursion (IsOpen c.now.disk) xs
  queues_stay [] kept other h = tt
  queues_stay (q ∷ xs) kept other h = (
    record { there = queue_kept o q b c kept.0 other.0 one.arrives one.pool.0 h.0.there; whole = queue_whole_kept o q b c other.0 one.arrives h.0.whole },
    queues_stay xs kept.1 other.1 h.1,
  )

  own_queue : r.log.journal.kind ≡ Queue → IsOpen c.now.disk (queue_from r)
  own_queue e = record { there = one.there; whole = subst (λ k. IsSaid k home (log_behind r.log) r.records c.now.disk) e one.said }

  queues_on : AllByRecursion (IsOpen c.now.disk) us
  queues_on = queues_by (IsOpen c.now.disk) r own_queue qs us n.queues_new (queues_stay qs n.kept (apart_first r rest qs n.apart) w.queues)

  -- the list

  list_stays : r.log.journal.kind ≡ Queue → IsOpenList b.now.disk p → IsOpenList c.now.disk p
  list_stays e h = record {
    there = list_kept o (other_list o e) b c one.arrives p n.list.sound one.pool.0 h.there;
    whole = list_whole_kept o (other_list o e) b c one.arrives p n.list.sound h.whole;
  }

  own_list : r.log.journal.kind ≡ Listed → IsOpenList c.now.disk (list_from home r)
  own_list e = record { there = one.there; whole = subst (λ k. IsSaid k home (log_behind r.log) r.records c.now.disk) e one.said }

  list_on : is_read rest Listed [] ≡ false → IsOpenList c.now.disk u
  list_on none = subst (IsOpenList c.now.disk) (sym n.list_new) (by (is_queue_reading r) refl)
    where
      by : (k : Bool) → is_queue_reading r ≡ k → IsOpenList c.now.disk (cond k p (list_from home r))
      by true e =
          let kind : r.log.journal.kind ≡ Queue = kind_queue r.log.journal.kind e in
          list_stays kind (w.list (ap (λ (k : JournalKind). (same_kind k Listed && same r.log.journal.name []) || is_read rest Listed []) kind ∙ none))
      by false e = own_list (kind_list r.log.journal.kind e)

  -- each file in use

  own_on : AllRead all c.now.disk
  own_on =
      headed_kept (λ (h : FileHeader). is_read all h.kind h.name ≡ true) o (λ (m : Moment) (g : FileState) (h : FileHeader) (is : IsOwnNext o m g h). (λ i. is_read all (is.kind i) (is.name i)) ∙ n.among.0) b c one.arrives w.own

  pub under_way : UnderWay home all rest left us u a c
  under_way = record {
    arrives = Arrives-then IsStoreStep a b c w.arrives went;
    none = none_then a b c w.arrives (IsLogStep o) (Passes-of (IsLogStep o) b c one.arrives) w.none one.none;
    leaves = Arrives-then LeavesInOrder a b c w.leaves (arrives_by (IsLogStep o) LeavesInOrder b c one.arrives (one.leaves w.quiet));
    writes = well_then a b c w.arrives (IsLogStep o) (Passes-of (IsLogStep o) b c one.arrives) w.writes one.writes;
    still = still_on;
    quiet = subst (λ (x : Content). IsQuiet x.now.disk) (sym one.told) (quiet_backs (past_of r.log) b w.quiet);
    pool = one.pool;
    fit = fit_kept r handed left b c n.read n.sound one.told w.pool one.pool w.fit;
    ids = ids_kept o b c one.arrives w.ids;
    queues = queues_on;
    list = list_on;
    stand = others_stand o b c one.arrives rest (others_of r.log.journal (journals_in rest) n.rise.0) w.stand.1;
    own = own_on;
  }

-- ---- stopped

-- the site went by a store's steps, and no file came into use
pub record Stopped (a c : Content) : Type 0 where
  pub passes : Passes IsStoreStep a c
  pub none : TakesNone a c
  pub leaves : Passes LeavesInOrder a c
  pub writes : WritesWell a c

pub stopped : (home : PoolId) (all rest : List ReadingState) (r : ReadingState) (handed : PoolState) (qs : List LiveState) (p : PreparedState) (a b c : Content) → UnderWay home all rest handed qs p a b → OpensPart r b c → Stopped a c
stopped home all rest r handed qs p a b c w part =
    let o : Opening = opening_behind r.log.journal in
    record {
      passes = Arrives-passes IsStoreStep a b c w.arrives (store_passing o b c part.passes);
      none = none_then a b c w.arrives (IsLogStep o) part.passes w.none part.none;
      leaves = Arrives-passes LeavesInOrder a b c w.leaves (part.leaves w.quiet);
      writes = well_then a b c w.arrives (IsLogStep o) part.passes w.writes part.writes;
    }
