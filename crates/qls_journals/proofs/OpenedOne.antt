-- One journal opened: what its log is, what its records leave, and the moments of the call.
use Rattle.std.proofs.Common.{◌≡◌, ℕ, cond, List, [], ◌∷◌, ◌++◌, Option, Some, None, IfSome, Result, Ok, Err, refl, sym, ap, ◌∙◌, subst}
use Rattle.qls_model.specs.Sound.{IsNumbered}
use Rattle.qls_model.specs.declared.machine.PoolId.{PoolId}
use Rattle.qls_record.specs.declared.Got.{Got}
use Rattle.qls_site.specs.Content.{Moment, Content, Tells}
use Rattle.qls_filehdr.specs.declared.JournalKind.{JournalKind}
use Rattle.qls_filehdr.specs.declared.JournalKind.TheVariants.{Queue, List as Listed}
use Rattle.qls_meaning.specs.Journals.{is_queue}
use Rattle.qls_meaning.specs.Orderly.{journal_on}
use Rattle.qls_meaning.specs.Reading.{journal_reading}
use Rattle.qls_reading.specs.ReadLogs.{AreGiven, rid_behind, first_rid, opening_behind}
use Rattle.qls_pool.specs.Pools.{PoolState}
use Rattle.qls_pool.specs.Files.{OnDisk, IsWholePool}
use Rattle.qls_pool.specs.Moments.{Passes}
use Rattle.qls_pool.specs.Serials.{TakesNone}
use Rattle.qls_pool.proofs.Moments.{Passes-of}
use Rattle.qls_log.specs.declared.fault.LogError.{LogError}
use Rattle.qls_log.specs.declared.fault.LogError.TheVariants as log
use Rattle.qls_log.specs.Faults.{SiteCauses as LogCauses}
use Rattle.qls_log.specs.Leaving.{LeavesFromQuiet}
use Rattle.qls_log.specs.Logs.{LogState}
use Rattle.qls_log.specs.Soundness.{IsUndamaged}
use Rattle.qls_log.specs.Standing.{LogThere}
use Rattle.qls_log.specs.Steps.{IsLogStep, GoesBy}
use Rattle.qls_log.specs.Trimming.{GivesNewest, ReadsTheSame}
use Rattle.qls_log.specs.Unwritten.{WritesWell}
use Rattle.qls_queue.specs.Live.{LiveState, IsSound as IsSoundQueue}
use Rattle.qls_queue.specs.Releasing.{IsQueueWhole}
use Rattle.qls_prepared.specs.Lists.{PreparedState, IsSound as IsSoundList, IsListWhole}
use Rattle.qls_journals.specs.declared.cause.Cause.{Cause}
use Rattle.qls_journals.specs.declared.cause.Cause.TheVariants.{Failed, Draw, Spent, Memory}
use Rattle.qls_journals.specs.Answers.{SiteCauses}
use Rattle.qls_journals.specs.Errors.{cause_by}
use Rattle.qls_journals.specs.Opened.{past_of, log_behind, queue_over, list_over, queues_with, IfRead, IsSaid, IsWell, OpensOne, OpensPart}
use Rattle.qls_journals.specs.Opening.{ReadingState, IsReading, StandsSo}
use Rattle.qls_journals.proofs.OpenedFrom.{list_name}

-- ---- held live

pub list_well : (kind : JournalKind) (home : PoolId) (l : LogState) (records : List Got) (p : PreparedState) → kind ≡ Listed → p ≡ list_over home l records → IsSoundList p → IfRead l records (IsListWhole p) → IsWell kind home l records
list_well kind home l records p e is sound whole =
    subst (λ (k : JournalKind). IsWell k home l records) (sym e) (subst (λ (x : PreparedState). IsSoundList x × IfRead l records (IsListWhole x)) is (sound, whole))

pub queue_well : (kind : JournalKind) (home : PoolId) (l : LogState) (records : List Got) (q : LiveState) → kind ≡ Queue → q ≡ queue_over l records → IsSoundQueue q → IsNumbered q.queue → IfRead l records (IsQueueWhole q)
    → IsWell kind home l records
queue_well kind home l records q e is sound numbered whole =
    subst (λ (k : JournalKind). IsWell k home l records) (sym e)
    (record { sound = subst IsSoundQueue is sound; numbered = subst (λ (x : LiveState). IsNumbered x.queue) is numbered }, subst (λ (x : LiveState). IfRead l records (IsQueueWhole x)) is whole)

pub queue_behind : (kind : JournalKind) (l : LogState) (records : List Got) (q : LiveState) (qs us : List LiveState) → kind ≡ Queue → q ≡ queue_over l records → us ≡ qs ++ q ∷ [] → us ≡ queues_with kind l records qs
queue_behind kind l records q qs us e is added =
    added ∙ ap (λ (x : LiveState). qs ++ x ∷ []) is ∙ ap (λ (k : JournalKind). cond (is_queue k) (qs ++ queue_over l records ∷ []) qs) (sym e)

-- ---- what the log asks

pub given_behind : (r : ReadingState) (l : LogState) → IsReading r → l ≡ log_behind r.log → (first : ℕ) × AreGiven first r.records × (l.rid ≡ rid_behind first r.records)
given_behind r l read e = (first_rid r.log.journal.files, read.given.rids, ap (λ (x : LogState). x.rid) e ∙ read.given.rid)

pub name_behind : (r : ReadingState) (l : LogState) → IsReading r → l ≡ log_behind r.log → r.log.journal.kind ≡ Listed → l.opening.name ≡ []
name_behind r l read e kind = ap (λ (x : LogState). x.opening.name) e ∙ list_name r.log.journal read.log.order kind

-- ---- the moments

passed : (X : Type 0) (R : Moment → Moment → Type 0) (e : LogError) (a b : Content) → GoesBy {X = X} R (Err e) a b → Passes R a b
passed X R log.Failed a b h = h
passed X R log.Draw a b h = h
passed X R log.Spent a b h = Passes-of R a b h
passed X R log.Memory a b h = h

said_by : (kind : JournalKind) (home : PoolId) (l : LogState) (records : List Got) → IsWell kind home l records → IfRead l records (IsSaid kind home l records)
said_by Queue home l records w = w.1
said_by Listed home l records w = w.1

-- what the trim leaves, where the content is told
pub record Trimmed {X : Type 0} (r : ReadingState) (result : Result X LogError) (a b : Option Content) : Type 0 where
  pub told : Tells (GivesNewest (past_of r.log) result) a b
  pub went : Tells (GoesBy (IsLogStep (opening_behind r.log.journal)) result) a b
  pub none : Tells TakesNone a b
  pub leaves : Tells LeavesFromQuiet a b
  pub writes : Tells WritesWell a b

-- and of the log that it made
pub record IsLeft (r : ReadingState) (l : LogState) (left : PoolState) (a b : Option Content) : Type 0 where
  pub is : l ≡ log_behind r.log
  pub there : IfSome b (OnDisk (LogThere l))
  pub read : Tells (ReadsTheSame l) a b
  pub undamaged : IfSome b (OnDisk (IsUndamaged l))
  pub pool : IfSome b (OnDisk (IsWholePool left))

pub opens_one : (home : PoolId) (r : ReadingState) (l : LogState) (left : PoolState) (a b : Option Content) → IfSome a (OnDisk (λ d. StandsSo d r)) → Trimmed r (Ok l) a b → IsLeft r l left a b
    → IsWell r.log.journal.kind home (log_behind r.log) r.records → Tells (OpensOne home r left) a b
opens_one home r l left None None stands t k well = tt
opens_one home r l left None (Some b) stands t k well = absurd t.none
opens_one home r l left (Some a) None stands t k well = absurd t.none
opens_one home r l left (Some a) (Some b) stands t k well =
    let own : LogState = log_behind r.log in
    let read : ReadsTheSame own a b = subst (λ (x : LogState). ReadsTheSame x a b) k.is k.read in
    record {
      told = t.told;
      arrives = t.went;
      none = t.none;
      leaves = t.leaves;
      writes = t.writes;
      pool = k.pool;
      there = subst (λ (x : LogState). LogThere x b.now.disk) k.is k.there;
      said =
          said_by r.log.journal.kind home own r.records well b.now.disk (journal_reading (journal_on a.now.disk r.log.journal.kind r.log.journal.name)) read
          (subst (λ (x : LogState). IsUndamaged x b.now.disk) k.is k.undamaged) (sym stands.records);
    }

well_behind : (kind : JournalKind) (home : PoolId) (r : ReadingState) (l : LogState) → kind ≡ r.log.journal.kind → l ≡ log_behind r.log → IsWell kind home l r.records → IsWell r.log.journal.kind home (log_behind r.log) r.records
well_behind kind home r l e is well =
    subst (λ (k : JournalKind). IsWell k home (log_behind r.log) r.records) e (subst (λ (x : LogState). IsWell kind home x r.records) is well)

-- the reading as it was handed in
pub opens_this : (home : PoolId) (r t : ReadingState) (kind : JournalKind) (l : LogState) (left : PoolState) (a b : Option Content) → r ≡ t → kind ≡ r.log.journal.kind → IfSome a (OnDisk (λ d. StandsSo d t)) → Trimmed r (Ok l) a b → IsLeft r l left a b
    → IsWell kind home l r.records → Tells (OpensOne home t left) a b
opens_this home r t kind l left a b same e stands k left_so well =
    subst (λ (x : ReadingState). Tells (OpensOne home x left) a b) same
    (opens_one home r l left a b (subst (λ (x : ReadingState). IfSome a (OnDisk (λ d. StandsSo d x))) (sym same) stands) k left_so (well_behind kind home r l e left_so.is well))

-- the log was made, and then want of memory stopped the call
pub opens_part : {X : Type 0} (r : ReadingState) (x : X) (a b : Option Content) → Trimmed r (Ok x) a b → Tells (OpensPart r) a b
opens_part r x None None t = tt
opens_part r x None (Some b) t = absurd t.none
opens_part r x (Some a) None t = absurd t.none
opens_part r x (Some a) (Some b) t = record { passes = Passes-of (IsLogStep (opening_behind r.log.journal)) a b t.went; none = t.none; leaves = t.leaves; writes = t.writes }

pub opens_none : {X : Type 0} (r : ReadingState) (e : LogError) (a b : Option Content) → Trimmed {X = X} r (Err e) a b → Tells (OpensPart r) a b
opens_none r e None None t = tt
opens_none r e None (Some b) t = absurd t.none
opens_none r e (Some a) None t = absurd t.none
opens_none {X} r e (Some a) (Some b) t = record { passes = passed X (IsLogStep (opening_behind r.log.journal)) e a b t.went; none = t.none; leaves = t.leaves; writes = t.writes }

-- ---- causes

pub failed_causes : {X Y : Type 0} (m n : ℕ) (e : LogError) (k : Cause) → k ≡ cause_by e → LogCauses {X = Y} m n (Err e) → SiteCauses {X = X} m n (Err k)
failed_causes {X} {Y} m n log.Failed k is h = record { kept = h.kept; failed = λ _. h.failed refl; no_draw = λ e. differs k Failed Draw is (cause_is k Draw e) (λ t. cc); no_end = λ e. differs k Failed Spent is (cause_is k Spent e) (λ t. cc) }
  where
    cause_is : (k j : Cause) → ◌≡◌ {A = Result X Cause} (Err k) (Err j) → k ≡ j
    cause_is k j e = cc

    differs : (k i j : Cause) → k ≡ i → k ≡ j → (i ≡ j → ⊥) → ⊥
    differs k i j e f n = n (sym e ∙ f)
failed_causes m n log.Draw k is h = absurd (h.no_draw refl)
failed_causes m n log.Spent k is h = absurd (h.no_end refl)
failed_causes {X} {Y} m n log.Memory k is h = record {
  kept = h.kept;
  failed = λ e. absurd (differs Memory Failed (sym is ∙ cause_is k Failed e) (λ t. cc));
  no_draw = λ e. differs Memory Draw (sym is ∙ cause_is k Draw e) (λ t. cc);
  no_end = λ e. differs Memory Spent (sym is ∙ cause_is k Spent e) (λ t. cc);
}
  where
    cause_is : (k j : Cause) → ◌≡◌ {A = Result X Cause} (Err k) (Err j) → k ≡ j
    cause_is k j e = cc

    differs : (i j : Cause) → i ≡ j → (i ≡ j → ⊥) → ⊥
    differs i j e n = n e
