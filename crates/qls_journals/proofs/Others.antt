-- What the calls on one journal leave: the steps of a store, the other journals, and how these stand.
use Rattle.std.proofs.Common.{◌≡◌, inl, inr, ℕ, Bool, true, false, cond, ◌&&◌, ◌+◌, ◌*◌, ◌<◌, ◌==◌, List, [], ◌∷◌, take, drop, Option, Some, None, IsTrue, refl, sym, ap, ◌∙◌, subst, arith}
use Rattle.std.specs.List.{AllByRecursion}
use Rattle.qls_model.specs.Bytes.{same}
use Rattle.qls_site.specs.declared.site.Place.{Place}
use Rattle.qls_site.specs.declared.site.Place.TheVariants.{InUse, Empty}
use Rattle.qls_site.specs.Disk.{Disk, FileState, file_of, bytes_at, full_file, all_written, seen_bytes}
use Rattle.qls_site.specs.Content.{Moment, Content, moments_since}
use Rattle.qls_filehdr.specs.declared.JournalKind.{JournalKind}
use Rattle.qls_filehdr.specs.declared.JournalKind.TheVariants.{Queue, List as TheList}
use Rattle.qls_filehdr.specs.declared.FileHeader.{FileHeader}
use Rattle.qls_decide.specs.declared.ListEntry.{ListEntry}
use Rattle.qls_enqmap.specs.declared.Held.{Held}
use Rattle.qls_model.specs.declared.machine.PoolId.{PoolId}
use Rattle.qls_filehdr.specs.Limits.{is_legal_header}
use Rattle.qls_filehdr.specs.Header.{header_fields, header_spelling}
use Rattle.qls_meaning.specs.Journals.{Journal, headed, is_in_use, is_of, same_kind}
use Rattle.qls_meaning.specs.Dead.{newest_number, past_files, has_dead_oldest}
use Rattle.qls_meaning.specs.Damage.{chain_claims, reading_claims, oldest_rid}
use Rattle.qls_meaning.specs.History.{History, FreeArea, now, last_of, is_file_in_use}
use Rattle.qls_meaning.specs.Meaning.{queue_of}
use Rattle.qls_meaning.specs.Orderly.{IsNewFile, journal_on}
use Rattle.qls_meaning.specs.Reading.{Read, epoch_end, journal_reading}
use Rattle.qls_meaning.specs.Spent.{rid_of_reads}
use Rattle.qls_pool.specs.Moments.{Chain, Passes, Arrives}
use Rattle.qls_pool.specs.Next.{IsEpochDue}
use Rattle.qls_pool.specs.Files.{HeadedFile, IsLinked, LinkedThere, RestsThere, IsAtRest, IdsDiffer, is_among}
use Rattle.qls_pool.specs.Discipline.{PoolFileSteps}
use Rattle.qls_pool.proofs.Disks.{found_id}
use Rattle.qls_pool.proofs.Moments.{Passes-weaken, Arrives-weaken, since_is}
use Rattle.qls_pool.proofs.Steps.{all_weaken}
use Rattle.qls_log.specs.declared.opening.Opening.{Opening}
use Rattle.qls_log.specs.Logs.{LogState, IsSound, IsOfJournal, capacity_in}
use Rattle.qls_log.specs.Standing.{LogThere, AreThoseFiles, LastIsUnmarked}
use Rattle.qls_log.specs.Writing.{AreInUse}
use Rattle.qls_log.specs.Reads.{IsRead}
use Rattle.qls_log.specs.Soundness.{IsUndamaged}
use Rattle.qls_log.specs.Steps.{IsLogStep, IsOwnNext, TakesOwn, is_own}
use Rattle.qls_log.specs.Unwritten.{IsWrittenTo, LeaveFiles, history_with}
use Rattle.qls_log.proofs.Takes.{header_seen}
use Rattle.qls_queue.specs.Live.{LiveState, QueueThere}
use Rattle.qls_queue.specs.Releasing.{IsQueueWhole}
use Rattle.qls_prepared.specs.Lists.{PreparedState, IsSound as IsSoundList, IsOwnLog, IsOwn, ThereBy, WholeBy, AliveBy, ListThere, IsListWhole}
use Rattle.qls_prepared.specs.Moments.{WrittenBy}
use Rattle.qls_journals.specs.State.{IsKept, queue_held, NamesJournal, AllNamed}
use Rattle.qls_journals.specs.Homes.{Homes, home_by, home_for, IsFromHome, TakesFrom, TakesFromHome}
use Rattle.qls_journals.specs.Moments.{IsStoreStep}
use Rattle.qls_journals.proofs.HeadersRead.{fields_read}

-- ---- a log's step is one of a store

pub store_step_of : (o : Opening) (m n : Moment) → IsLogStep o m n → IsStoreStep m n
store_step_of o m n h = record { answered = h.answered; differ = h.differ; pool = h.pool; headers = h.headers }

abbrev pub store_arrival : (o : Opening) (a b : Content) → Arrives (IsLogStep o) a b → Arrives IsStoreStep a b
store_arrival o a b h = Arrives-weaken (IsLogStep o) IsStoreStep (store_step_of o) a b h

abbrev pub store_passing : (o : Opening) (a b : Content) → Passes (IsLogStep o) a b → Passes IsStoreStep a b
store_passing o a b h = Passes-weaken (IsLogStep o) IsStoreStep (store_step_of o) a b h

-- ---- files come into use from the home of the journal

module _ (o : Opening) (homes : Homes) (home : home_by o.kind o.name homes ≡ Some (home_for o)) where
  -- the next file of the log's journal is that of its home
  from_own : (m : Moment) (g : FileState) (header : FileHeader) → IsOwnNext o m g header → IsFromHome homes m.disk g header
  from_own m g header is = record {
    legal = is.legal;
    home = (λ i. home_by (is.kind i) (is.name i) homes) ∙ home ∙ (λ i. Some (record { pool = record { part = sym is.part i; kib = sym is.kib i }; epoch = sym is.epoch i }));
    due = subst (λ (X : Type 0). X) (λ i. IsEpochDue (sym is.epoch i) (journal_on m.disk (sym is.kind i) (sym is.name i)).files) is.due;
    number = is.number ∙ sym (λ i. newest_number (journal_on m.disk (is.kind i) (is.name i)).files + 1);
  }

  home_of_own : (m : Moment) (f : Option FileState) (g : FileState) → TakesOwn o m f g → TakesFrom homes m.disk f g
  home_of_own m None g h = tt
  home_of_own m (Some f) g h = λ was now. let is = h was now in (is.0, from_own m g is.0 is.1)

  pub home_step_of : (m n : Moment) → IsLogStep o m n → TakesFromHome homes m n
  home_step_of m n h =
      all_weaken (λ g. TakesOwn o m (file_of g.id m.disk) g) (λ g. TakesFrom homes m.disk (file_of g.id m.disk) g) (λ g k. home_of_own m (file_of g.id m.disk) g k) n.disk h.next

  pub home_passing : (a b : Content) → Passes (IsLogStep o) a b → Passes (TakesFromHome homes) a b
  home_passing a b h = Passes-weaken (IsLogStep o) (TakesFromHome homes) home_step_of a b h

-- ---- other journals and their files

module _ (o : Opening) where
  journals_after : (m : Moment) (ms : List Moment) → Chain (IsLogStep o) m ms → (kind : JournalKind) (name : List ℕ) → is_own o kind name ≡ false
      → journal_on (last_of m ms).disk kind name ≡ journal_on m.disk kind name
  journals_after m [] h kind name other = refl
  journals_after m (n ∷ ns) h kind name other = journals_after n ns h.1 kind name other ∙ h.0.journals kind name other

  pub journal_kept : (a b : Content) → Arrives (IsLogStep o) a b → (kind : JournalKind) (name : List ℕ) → is_own o kind name ≡ false → journal_on b.now.disk kind name ≡ journal_on a.now.disk kind name
  journal_kept a b h kind name other = ap (λ (m : Moment). journal_on m.disk kind name) h.last ∙ journals_after a.now h.since h.chain kind name other

  abbrev pub IsOthers : FileState → Type 0
  IsOthers f = is_of o.kind o.name (headed (full_file f)) ≡ false

  files_after : (m : Moment) (ms : List Moment) → Chain (IsLogStep o) m ms → (id : ℕ) (f : FileState) → file_of id m.disk ≡ Some f → is_in_use f.place ≡ true → IsOthers f → file_of id (last_of m ms).disk ≡ Some f
  files_after m [] h id f there used other = there
  files_after m (n ∷ ns) h id f there used other = files_after n ns h.1 id f (h.0.files id f there used other) used other

  pub file_kept : (a b : Content) → Arrives (IsLogStep o) a b → (id : ℕ) (f : FileState) → file_of id a.now.disk ≡ Some f → is_in_use f.place ≡ true → IsOthers f → file_of id b.now.disk ≡ Some f
  file_kept a b h id f there used other = ap (λ (m : Moment). file_of id m.disk) h.last ∙ files_after a.now h.since h.chain id f there used other

-- ---- what another journal says

pub read_kept : (l : LogState) (reads : List Read) (d e : Disk) → journal_on e l.opening.kind l.opening.name ≡ journal_on d l.opening.kind l.opening.name → IsRead l reads d → IsRead l reads e
read_kept l reads d e same h = record {
  reading = ap journal_reading same ∙ h.reading;
  ends = ap (λ (j : Journal). l.older * capacity_in l.opening + epoch_end (l.older == 0) (drop l.older j.files)) same ∙ h.ends;
  behind = subst (λ (j : Journal). LastIsUnmarked l.used j.files) (sym same) h.behind;
}

pub undamaged_kept : (l : LogState) (d e : Disk) → journal_on e l.opening.kind l.opening.name ≡ journal_on d l.opening.kind l.opening.name → IsUndamaged l d → IsUndamaged l e
undamaged_kept l d e same h = record {
  chain = ap (λ (j : Journal). chain_claims j.files) same ∙ h.chain;
  reading = ap reading_claims same ∙ h.reading;
  past = ap past_files same ∙ h.past;
  rid = ap (λ (j : Journal). rid_of_reads (oldest_rid j.files) (journal_reading j)) same ∙ h.rid;
}

pub whole_kept : (q : LiveState) (d e : Disk) → journal_on e q.log.opening.kind q.log.opening.name ≡ journal_on d q.log.opening.kind q.log.opening.name → IsQueueWhole q d → IsQueueWhole q e
whole_kept q d e same h = record {
  read = record { reads = h.read.reads; read = read_kept q.log h.read.reads d e same h.read.read; queue = ap queue_of same ∙ h.read.queue; held = h.read.held };
  undamaged = undamaged_kept q.log d e same h.undamaged;
}

-- ---- another log stands

module _ (o : Opening) (l : LogState) (sound : IsSound l) (other : is_own o l.opening.kind l.opening.name ≡ false) where
  -- the file is in use with another journal's header
  abbrev IsOtherFile : Disk → HeadedFile → Type 0
  IsOtherFile d h = (f : FileState) × (file_of h.id d ≡ Some f) × (is_in_use f.place ≡ true) × IsOthers o f

  linked_file : (h : HeadedFile) (p : Option FileState) → IsLinked h p → (f : FileState) × (p ≡ Some f) × (is_in_use f.place ≡ true)
  linked_file h None k = absurd k
  linked_file h (Some f) k = (f, refl, ap is_in_use k.0)

  other_file : (d : Disk) (h : HeadedFile) → IsOfJournal l.opening h → IsTrue (is_legal_header h.header) → LinkedThere h d → take 4096 (bytes_at h.id d) ≡ header_spelling h.header → IsOtherFile d h
  other_file d h own legal linked bytes =
      let f = linked_file h (file_of h.id d) linked in
      let seen : take 4096 (all_written f.0.pending f.0.stable) ≡ header_spelling h.header = ap (λ (p : Option FileState). take 4096 (seen_bytes p)) (sym f.1) ∙ bytes in
      let fields : header_fields (take 4096 (all_written f.0.pending f.0.stable)) ≡ h.header = header_seen h.header (all_written f.0.pending f.0.stable) legal seen in
      (f.0, f.1, f.2, ap (λ (x : FileHeader). is_own o x.kind x.name) (fields ∙ own) ∙ other)

  other_files : (d : Disk) (hs : List HeadedFile) → AllByRecursion (IsOfJournal l.opening) hs → AllByRecursion (λ h. IsTrue (is_legal_header h.header)) hs → AllByRecursion (λ h. LinkedThere h d) hs
      → AllByRecursion (λ h. take 4096 (bytes_at h.id d) ≡ header_spelling h.header) hs → AllByRecursion (IsOtherFile d) hs
  other_files d [] own legal linked bytes = tt
  other_files d (h ∷ hs) own legal linked bytes = (other_file d h own.0 legal.0 linked.0 bytes.0, other_files d hs own.1 legal.1 linked.1 bytes.1)

  all_others : (d : Disk) → LogThere l d → AllByRecursion (IsOtherFile d) l.files
  all_others d h = other_files d l.files sound.all sound.legal h.there.linked h.there.headers

  same_files : (a b : Content) → Arrives (IsLogStep o) a b → (hs : List HeadedFile) → AllByRecursion (IsOtherFile a.now.disk) hs → AllByRecursion (λ h. file_of h.id b.now.disk ≡ file_of h.id a.now.disk) hs
  same_files a b went [] k = tt
  same_files a b went (h ∷ hs) k = (file_kept o a b went h.id k.0.0 k.0.1 k.0.2 k.0.3 ∙ sym k.0.1, same_files a b went hs k.1)

  all_same : (P : HeadedFile → Disk → Type 0) (a b : Disk) → ((h : HeadedFile) → file_of h.id b ≡ file_of h.id a → P h a → P h b) → (hs : List HeadedFile) → AllByRecursion (λ h. file_of h.id b ≡ file_of h.id a) hs
      → AllByRecursion (λ h. P h a) hs → AllByRecursion (λ h. P h b) hs
  all_same P a b keep [] same k = tt
  all_same P a b keep (h ∷ hs) same k = (keep h same.0 k.0, all_same P a b keep hs same.1 k.1)

  pub log_kept : (a b : Content) → Arrives (IsLogStep o) a b → IdsDiffer b.now.disk → l.unsynced ≡ [] → LogThere l a.now.disk → LogThere l b.now.disk
  log_kept a b went differ flushed h =
      let d : Disk = a.now.disk in
      let e : Disk = b.now.disk in
      let t = h.there in
      let same = same_files a b went l.files (all_others d h) in
      record {
        waiting = subst (λ (ids : List ℕ). AreInUse ids e) (sym flushed) tt;
        there = record {
          differ = differ;
          apart = t.apart;
          linked = all_same LinkedThere d e (λ h e. subst (IsLinked h) (sym e)) l.files same t.linked;
          headers = all_same (λ h x. take 4096 (bytes_at h.id x) ≡ header_spelling h.header) d e (λ h e k. ap (λ (p : Option FileState). take 4096 (seen_bytes p)) e ∙ k) l.files same t.headers;
          files = subst (λ (j : Journal). AreThoseFiles (capacity_in l.opening) l.files j.files) (sym (journal_kept o a b went l.opening.kind l.opening.name other)) t.files;
        };
        rests = all_same (λ h x. is_among h.id l.unsynced ≡ false → RestsThere h x) d e (λ h e k free. subst (IsAtRest h) (sym e) (k free)) l.files same h.rests;
      }

  -- what was written of its files
  still_other : (m n : Moment) → IsLogStep o m n → (hs : List HeadedFile) → AllByRecursion (IsOtherFile m.disk) hs → AllByRecursion (IsOtherFile n.disk) hs
  still_other m n step [] k = tt
  still_other m n step (h ∷ hs) k = ((k.0.0, step.files h.id k.0.0 k.0.1 k.0.2 k.0.3, k.0.2, k.0.3), still_other m n step hs k.1)

  step_leaves : (m n : Moment) → IsLogStep o m n → (hs : List HeadedFile) → AllByRecursion (IsOtherFile m.disk) hs → AllByRecursion (λ h. file_of h.id n.disk ≡ file_of h.id m.disk) hs
  step_leaves m n step [] k = tt
  step_leaves m n step (h ∷ hs) k = (step.files h.id k.0.0 k.0.1 k.0.2 k.0.3 ∙ sym k.0.1, step_leaves m n step hs k.1)

  leave_files : (m : Moment) (ms : List Moment) → Chain (IsLogStep o) m ms → AllByRecursion (IsOtherFile m.disk) l.files → LeaveFiles l m ms
  leave_files m [] h k = tt
  leave_files m (n ∷ ns) h k = (step_leaves m n h.0 l.files k, leave_files n ns h.1 (still_other m n h.0 l.files k))

  pub written_kept : (areas : List FreeArea) (h : History) (a b : Content)
      → ((ms : List Moment) → LogThere l (now h).disk → l.unsynced ≡ [] → LeaveFiles l (now h) ms → IsWrittenTo areas h l → IsWrittenTo areas (history_with h ms) l)
      → Passes (IsLogStep o) a b → now h ≡ a.now → l.unsynced ≡ [] → LogThere l a.now.disk → IsWrittenTo areas h l → IsWrittenTo areas (history_with h (moments_since a b)) l
  written_kept areas h a b law went at flushed there written =
      law (moments_since a b) (subst (λ (m : Moment). LogThere l m.disk) (sym at) there) flushed
      (subst (λ (m : Moment). LeaveFiles l m (moments_since a b)) (sym at)
      (subst (LeaveFiles l a.now) (sym (since_is (IsLogStep o) a b went)) (leave_files a.now went.since went.chain (all_others a.now.disk there)))) written

-- ---- the journals of queues and of the list

-- a queue of another name has another journal
pub other_name : (o : Opening) (q : LiveState) → o.kind ≡ Queue → IsKept q → same o.name q.queue.name ≡ false → is_own o q.log.opening.kind q.log.opening.name ≡ false
other_name o q kind kept other =
    ap (λ (k : JournalKind). is_own o k q.log.opening.name) kept.sound.kind ∙ ap (λ (n : List ℕ). is_own o Queue n) (sym kept.sound.name)
    ∙ ap (λ (k : JournalKind). same_kind k Queue && same o.name q.queue.name) kind ∙ other

-- the list's journal is no queue's
pub other_list : (o : Opening) → o.kind ≡ Queue → is_own o TheList [] ≡ false
other_list o kind = ap (λ (k : JournalKind). same_kind k TheList && same o.name []) kind

pub other_queue : (o : Opening) (q : LiveState) → o.kind ≡ TheList → IsKept q → is_own o q.log.opening.kind q.log.opening.name ≡ false
other_queue o q kind kept =
    ap (λ (k : JournalKind). is_own o k q.log.opening.name) kept.sound.kind ∙ ap (λ (k : JournalKind). same_kind k Queue && same o.name q.log.opening.name) kind

pub queue_kept : (o : Opening) (q : LiveState) (a b : Content) → IsKept q → is_own o q.log.opening.kind q.log.opening.name ≡ false → Arrives (IsLogStep o) a b → IdsDiffer b.now.disk → QueueThere q a.now.disk → QueueThere q b.now.disk
queue_kept o q a b kept other went differ there = log_kept o q.log kept.log other a b went differ kept.sound.flushed there

pub queue_whole_kept : (o : Opening) (q : LiveState) (a b : Content) → is_own o q.log.opening.kind q.log.opening.name ≡ false → Arrives (IsLogStep o) a b → IsQueueWhole q a.now.disk → IsQueueWhole q b.now.disk
queue_whole_kept o q a b other went whole = whole_kept q a.now.disk b.now.disk (journal_kept o a b went q.log.opening.kind q.log.opening.name other) whole

-- the queue's oldest file isn't dead
abbrev pub IsAlive : LiveState → Disk → Type 0
IsAlive q d = has_dead_oldest (journal_on d q.log.opening.kind q.log.opening.name) ≡ false

pub queue_alive_kept : (o : Opening) (q : LiveState) (a b : Content) → is_own o q.log.opening.kind q.log.opening.name ≡ false → Arrives (IsLogStep o) a b → IsAlive q a.now.disk → IsAlive q b.now.disk
queue_alive_kept o q a b other went alive = ap has_dead_oldest (journal_kept o a b went q.log.opening.kind q.log.opening.name other) ∙ alive

-- ---- the list behind a call on another journal

module _ (o : Opening) (other : is_own o TheList [] ≡ false) (a b : Content) (went : Arrives (IsLogStep o) a b) where
  abbrev HasOther : LogState → Type 0
  HasOther l = is_own o l.opening.kind l.opening.name ≡ false

  other_log : (l : LogState) → IsOwnLog l → HasOther l
  other_log l own = (λ i. is_own o (own.kind i) (own.name i)) ∙ other

  there_by : (home : PoolId) (log : Option LogState) → IsOwn log → IdsDiffer b.now.disk → ThereBy home log a.now.disk → ThereBy home log b.now.disk
  there_by home None own differ there = ap (λ (j : Journal). j.files) (journal_kept o a b went TheList [] other) ∙ there
  there_by home (Some l) own differ there = log_kept o l own.sound (other_log l own) a b went differ own.flushed there

  pub list_kept : (p : PreparedState) → IsSoundList p → IdsDiffer b.now.disk → ListThere p a.now.disk → ListThere p b.now.disk
  list_kept p sound differ there = there_by p.home p.log sound.log differ there

  whole_by : (log : Option LogState) (es : List ListEntry) (held : List Held) → IsOwn log → WholeBy log es held a.now.disk → WholeBy log es held b.now.disk
  whole_by None es held own h = h
  whole_by (Some l) es held own h =
      let same = journal_kept o a b went l.opening.kind l.opening.name (other_log l own) in
      record {
        reads = h.reads;
        read = read_kept l h.reads a.now.disk b.now.disk same h.read;
        undamaged = undamaged_kept l a.now.disk b.now.disk same h.undamaged;
        entries = h.entries;
        held = h.held;
      }

  pub list_whole_kept : (p : PreparedState) → IsSoundList p → IsListWhole p a.now.disk → IsListWhole p b.now.disk
  list_whole_kept p sound h = whole_by p.log p.entries p.held sound.log h

  alive_by : (log : Option LogState) → IsOwn log → AliveBy log a.now.disk → AliveBy log b.now.disk
  alive_by None own h = tt
  alive_by (Some l) own h = ap has_dead_oldest (journal_kept o a b went l.opening.kind l.opening.name (other_log l own)) ∙ h

  pub list_alive_kept : (p : PreparedState) → IsSoundList p → AliveBy p.log a.now.disk → AliveBy p.log b.now.disk
  list_alive_kept p sound h = alive_by p.log sound.log h

-- files of a flushed log that stay as they are stay written
abbrev pub FilesStayWritten : Type 0
FilesStayWritten =
    (areas : List FreeArea) (h : History) (l : LogState) (ms : List Moment) → LogThere l (now h).disk → l.unsynced ≡ [] → LeaveFiles l (now h) ms
    → IsWrittenTo areas h l → IsWrittenTo areas (history_with h ms) l

module _ (law : FilesStayWritten) (o : Opening) (other : is_own o TheList [] ≡ false) (areas : List FreeArea) (h : History) (a b : Content) (went : Passes (IsLogStep o) a b) (at : now h ≡ a.now) where
  written_by : (home : PoolId) (log : Option LogState) → IsOwn log → ThereBy home log a.now.disk → WrittenBy areas h log → WrittenBy areas (history_with h (moments_since a b)) log
  written_by home None own there k = tt
  written_by home (Some l) own there k =
      written_kept o l own.sound ((λ i. is_own o (own.kind i) (own.name i)) ∙ other) areas h a b (law areas h l) went at own.flushed there k

  pub list_written_kept : (p : PreparedState) → IsSoundList p → ListThere p a.now.disk → WrittenBy areas h p.log → WrittenBy areas (history_with h (moments_since a b)) p.log
  list_written_kept p sound there k = written_by p.home p.log sound.log there k

-- ---- the files in use are those of the journals

found_first : (P : FileState → Type 0) (f g : FileState) (b : Bool) (rest : Option FileState) → P g → (rest ≡ Some f → P f) → cond b (Some g) rest ≡ Some f → P f
found_first P f g true rest h more e = subst P (some_is e) h
  where
    some_is : Some g ≡ Some f → g ≡ f
    some_is e = cc
found_first P f g false rest h more e = more e

pub found_all : (P : FileState → Type 0) (id : ℕ) (f : FileState) (d : Disk) → AllByRecursion P d → file_of id d ≡ Some f → P f
found_all P id f [] h e = absurd (cc)
found_all P id f (g ∷ d) h e = found_first P f g (g.id == id) (file_of id d) h.0 (found_all P id f d h.1) e

unused_new : (m : Moment) (p : Place) (f : FileState) → IsNewFile m p f → is_in_use p ≡ true → ⊥
unused_new m InUse f h used = h
unused_new m (Empty part kib) f h used = absurd (cc)

-- the header of a file in use stays, and the header of one that comes into use is a next one's of the journal
module _ (P : FileHeader → Type 0) (o : Opening) (next : (m : Moment) (g : FileState) (header : FileHeader) → IsOwnNext o m g header → P header) where
  abbrev pub AllHeaded : Disk → Type 0
  AllHeaded d = (id : ℕ) (f : FileState) → file_of id d ≡ Some f → is_in_use f.place ≡ true → P (headed (full_file f)).header

  -- by what was there before
  headed_by : (m n : Moment) (f : FileState) (p : Option FileState) → file_of f.id m.disk ≡ p → IsLogStep o m n → file_of f.id n.disk ≡ Some f → is_in_use f.place ≡ true → AllHeaded m.disk
      → PoolFileSteps m p f → TakesOwn o m p f → P (headed (full_file f)).header
  headed_by m n f None was step now used named pool own = absurd (unused_new m f.place f pool used)
  headed_by m n f (Some g) was step now used named pool own = by_use (is_in_use g.place) refl
    where
      by_use : (b : Bool) → is_in_use g.place ≡ b → P (headed (full_file f)).header
      by_use true k =
          let same : take 4096 (all_written f.pending f.stable) ≡ take 4096 (all_written g.pending g.stable) =
          ap (λ (q : Option FileState). take 4096 (seen_bytes q)) (sym now) ∙ step.headers f.id (ap is_file_in_use was ∙ k) ∙ ap (λ (q : Option FileState). take 4096 (seen_bytes q)) was in
          subst P (ap header_fields (sym same)) (named f.id g was k)
      by_use false k =
          let is = own k used in
          let quiet : f.pending ≡ [] = (pool.taken k used).1.quiet in
          let seen : header_fields (take 4096 (all_written f.pending f.stable)) ≡ is.0 = ap (λ ws. header_fields (take 4096 (all_written ws f.stable))) quiet ∙ fields_read (take 4096 f.stable) is.0 is.1.legal in
          subst P (sym seen) (next m f is.0 is.1)

  headed_next : (m n : Moment) → IsLogStep o m n → AllHeaded m.disk → AllHeaded n.disk
  headed_next m n step named = λ id f now used.
      let own : f.id ≡ id = found_id id f n.disk now in
      headed_by m n f (file_of f.id m.disk) refl step (ap (λ k. file_of k n.disk) own ∙ now) used named
      (found_all (λ g. PoolFileSteps m (file_of g.id m.disk) g) id f n.disk step.pool now) (found_all (λ g. TakesOwn o m (file_of g.id m.disk) g) id f n.disk step.next now)

  headed_after : (m : Moment) (ms : List Moment) → Chain (IsLogStep o) m ms → AllHeaded m.disk → AllHeaded (last_of m ms).disk
  headed_after m [] h named = named
  headed_after m (n ∷ ns) h named = headed_after n ns h.1 (headed_next m n h.0 named)

  pub headed_kept : (a b : Content) → Arrives (IsLogStep o) a b → AllHeaded a.now.disk → AllHeaded b.now.disk
  headed_kept a b h named = subst (λ (m : Moment). AllHeaded m.disk) (sym h.last) (headed_after a.now h.since h.chain named)

pub named_kept : (qs : List LiveState) (o : Opening) → ((h : FileHeader) → h.kind ≡ o.kind → h.name ≡ o.name → NamesJournal qs h) → (a b : Content) → Arrives (IsLogStep o) a b → AllNamed qs a.now.disk → AllNamed qs b.now.disk
named_kept qs o named a b h all = headed_kept (NamesJournal qs) o (λ m g header is. named header is.kind is.name) a b h all

pub queue_named_by : (qs : List LiveState) (o : Opening) → o.kind ≡ Queue → (q : LiveState) → queue_held o.name qs ≡ Some q → (h : FileHeader) → h.kind ≡ o.kind → h.name ≡ o.name → NamesJournal qs h
queue_named_by qs o kind q there h is name = inl (record { kind = is ∙ kind; queue = q; there = ap (λ n. queue_held n qs) name ∙ there })

pub list_named_by : (qs : List LiveState) (o : Opening) → o.kind ≡ TheList → o.name ≡ [] → (h : FileHeader) → h.kind ≡ o.kind → h.name ≡ o.name → NamesJournal qs h
list_named_by qs o kind none h is name = inr (record { kind = is ∙ kind; name = name ∙ none })

-- ---- ids stay positive

abbrev pub HasId : FileState → Type 0
HasId f = 0 < f.id

new_id : (m : Moment) (p : Place) (f : FileState) → IsNewFile m p f → HasId f
new_id m InUse f h = absurd h
new_id m (Empty part kib) f h = omega (arith, h.0)

id_by : (m : Moment) (f : FileState) (p : Option FileState) → file_of f.id m.disk ≡ p → PoolFileSteps m p f → AllByRecursion HasId m.disk → HasId f
id_by m f None was step h = new_id m f.place f step
id_by m f (Some g) was step h = subst (λ n. 0 < n) (found_id f.id g m.disk was) (found_all HasId f.id g m.disk h was)

ids_after : (o : Opening) (m : Moment) (ms : List Moment) → Chain (IsLogStep o) m ms → AllByRecursion HasId m.disk → AllByRecursion HasId (last_of m ms).disk
ids_after o m [] h k = k
ids_after o m (n ∷ ns) h k =
    ids_after o n ns h.1 (all_weaken (λ g. PoolFileSteps m (file_of g.id m.disk) g) HasId (λ g step. id_by m g (file_of g.id m.disk) refl step k) n.disk h.0.pool)

pub ids_kept : (o : Opening) (a b : Content) → Arrives (IsLogStep o) a b → AllByRecursion HasId a.now.disk → AllByRecursion HasId b.now.disk
ids_kept o a b h k = subst (λ (m : Moment). AllByRecursion HasId m.disk) (sym h.last) (ids_after o a.now h.since h.chain k)
