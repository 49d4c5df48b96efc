-- The log that is left of a journal without its newest files.
use Rattle.std.proofs.Common.{◌≡◌, inr, ℕ, zero, suc, ◌+◌, ◌-◌, ◌*◌, ◌<◌, ◌≤◌, ◌^◌, Bool, true, false, ◌==◌, List, [], ◌∷◌, length, take, drop, Option, Some, None, IfSome, IsTrue, Result, Ok, Err, slice_index_or, refl, sym, ap, ◌∙◌, subst, arith, length-take, ltb-true}
use Rattle.std.proofs.lemmas.Bool.{and_parts}
use Rattle.std.specs.List.{AllByRecursion}
use Rattle.qls_model.specs.declared.machine.PoolId.{PoolId}
use Rattle.qls_site.specs.declared.site.SiteError.{SiteError}
use Rattle.qls_site.specs.Disk.{IsQuiet}
use Rattle.qls_site.specs.Content.{Content, Tells}
use Rattle.qls_site.proofs.Told.{Tells-weaken}
use Rattle.qls_filehdr.specs.declared.FileHeader.{FileHeader}
use Rattle.qls_filehdr.specs.declared.JournalKind.{JournalKind}
use Rattle.qls_filehdr.specs.Limits.{is_counter, is_legal_header, is_name}
use Rattle.qls_model.specs.Limits.{is_partition, is_kib}
use Rattle.qls_filehdr.proofs.HeaderTrip.{legal_parts, most_of}
use Rattle.qls_meaning.specs.Journals.{Headed}
use Rattle.qls_meaning.specs.Reading.{epoch_end}
use Rattle.qls_meaning.specs.Dead.{past_files}
use Rattle.qls_meaning.specs.Orderly.{journal_on}
use Rattle.qls_pool.specs.Pools.{PoolState}
use Rattle.qls_pool.specs.Files.{HeadedFile, OnDisk, IsWholePool, Carries}
use Rattle.qls_log.specs.declared.opening.Opening.{Opening}
use Rattle.qls_log.specs.declared.fault.LogError.{LogError}
use Rattle.qls_log.specs.Faults.{fault_of_site}
use Rattle.qls_log.specs.Logs.{LogState, IsOfJournal, EndBefore, NumberedFrom, capacity_in}
use Rattle.qls_log.specs.Standing.{AreThoseFiles, LogThere, LastIsUnmarked, files_on}
use Rattle.qls_log.specs.Steps.{GoesOwn, PassesOwn}
use Rattle.qls_log.specs.Returning.{GivesBack}
use Rattle.qls_log.specs.Appending.{LeavesOthers}
use Rattle.qls_log.specs.Soundness.{IsUndamaged}
use Rattle.qls_log.specs.Reopening.{reopened, MayReopen}
use Rattle.qls_log.specs.Trimming.{without_last, last_epoch, last_number, EpochsRise, CountFrom, AreInRow, MayTrim, Trims, opened_behind, GivesNewest, ReadsTheSame}
use Rattle.qls_log.proofs.Older.{those_count}
use Rattle.qls_log.proofs.Releases.{answered_arrives}

-- ---- the newest file

pub newest_or : (hs : List HeadedFile) (x : HeadedFile) (n : ℕ) → n + 1 ≡ length hs → ((slice_index_or hs n x).header.epoch ≡ last_epoch hs) × ((slice_index_or hs n x).header.number ≡ last_number hs)
newest_or [] x n e = absurd (omega (arith, e))
newest_or (g ∷ []) x zero e = (refl, refl)
newest_or (g ∷ []) x (suc n) e = absurd (omega (arith, e))
newest_or (g ∷ k ∷ hs) x zero e = absurd (omega (arith, e))
newest_or (g ∷ k ∷ hs) x (suc n) e = newest_or (k ∷ hs) x n (omega (arith, e))

pub newest_at : (hs : List HeadedFile) (x : HeadedFile) → 0 < length hs → x ≡ slice_index_or hs (length hs - 1) x → (x.header.epoch ≡ last_epoch hs) × (x.header.number ≡ last_number hs)
newest_at hs x some is =
    let newest = newest_or hs x (length hs - 1) (omega (arith, some)) in
    (ap (λ (h : HeadedFile). h.header.epoch) is ∙ newest.0, ap (λ (h : HeadedFile). h.header.number) is ∙ newest.1)

-- ---- files in a row

all_take : (P : HeadedFile → Type 0) (k : ℕ) (hs : List HeadedFile) → AllByRecursion P hs → AllByRecursion P (take k hs)
all_take P zero hs a = tt
all_take P (suc k) [] a = tt
all_take P (suc k) (h ∷ hs) a = (a.0, all_take P k hs a.1)

count_take : (k n : ℕ) (hs : List HeadedFile) → CountFrom n hs → CountFrom n (take k hs)
count_take zero n hs c = tt
count_take (suc k) n [] c = tt
count_take (suc k) n (h ∷ hs) c = (c.0, count_take k (n + 1) hs c.1)

rise_take : (k : ℕ) (hs : List HeadedFile) → EpochsRise hs → EpochsRise (take k hs)
rise_take zero hs r = tt
rise_take (suc k) [] r = tt
rise_take (suc zero) (h ∷ hs) r = tt
rise_take (suc (suc k)) (h ∷ []) r = tt
rise_take (suc (suc k)) (h ∷ g ∷ hs) r = (r.0, rise_take (suc k) (g ∷ hs) r.1)

pub row_take : (o : Opening) (k : ℕ) (hs : List HeadedFile) → AreInRow o hs → AreInRow o (take k hs)
row_take o k hs r = record {
  own = all_take (IsOfJournal o) k hs r.own;
  legal = all_take (λ h. IsTrue (is_legal_header h.header)) k hs r.legal;
  rise = rise_take k hs r.rise;
  first = r.first;
  numbers = count_take k r.first hs r.numbers;
}

pub some_left : (past : ℕ) (hs : List HeadedFile) → past < length hs → 0 < length (without_last past hs)
some_left past hs less = omega (arith, length-take (length hs - past) hs, less)

below_last : (hs : List HeadedFile) → EpochsRise hs → AllByRecursion (λ h. h.header.epoch < last_epoch hs + 1) hs
below_last [] r = tt
below_last (h ∷ []) r = (omega arith, tt)
below_last (h ∷ g ∷ hs) r = let rest = below_last (g ∷ hs) r.1 in (omega (arith, r.0, rest.0), rest)

end_before : (hs : List HeadedFile) → EndBefore (last_epoch hs + 1) hs
end_before hs = by (last_epoch hs + 1) hs refl
  where
    by : (e : ℕ) (hs : List HeadedFile) → last_epoch hs + 1 ≡ e → EndBefore e hs
    by e [] is = tt
    by e (h ∷ []) is = is
    by e (h ∷ g ∷ hs) is = by e (g ∷ hs) is

numbered : (n : ℕ) (hs : List HeadedFile) → 0 < length hs → CountFrom n hs → NumberedFrom n hs (last_number hs)
numbered n [] some c = absurd (omega (arith, some))
numbered n (h ∷ []) some c = (c.0, omega (arith, c.0))
numbered n (h ∷ g ∷ hs) some c = (c.0, numbered (n + 1) (g ∷ hs) (omega arith) c.1)

last_is : (n : ℕ) (hs : List HeadedFile) → 0 < length hs → CountFrom n hs → last_number hs + 1 ≡ n + length hs
last_is n [] some c = absurd (omega (arith, some))
last_is n (h ∷ []) some c = omega (arith, c.0)
last_is n (h ∷ g ∷ hs) some c = last_is (n + 1) (g ∷ hs) (omega arith) c.1 ∙ omega arith

least : (n : ℕ) → is_counter n ≡ true → 1 ≤ n
least n is = most_of 1 n (and_parts _ _ is).0

below : (n : ℕ) → is_counter n ≡ true → n < 2 ^ 62
below n is = ltb-true n (2 ^ 62) (and_parts _ _ is).1

last_counts : (hs : List HeadedFile) → 0 < length hs → AllByRecursion (λ h. IsTrue (is_legal_header h.header)) hs → (last_epoch hs < 2 ^ 62) × (last_number hs < 2 ^ 62)
last_counts [] some legal = absurd (omega (arith, some))
last_counts (h ∷ []) some legal = (below h.header.epoch (legal_parts h.header legal.0).epoch, below h.header.number (legal_parts h.header legal.0).number)
last_counts (h ∷ g ∷ hs) some legal = last_counts (g ∷ hs) (omega arith) legal.1

pub last_epoch_below : (o : Opening) (hs : List HeadedFile) → 0 < length hs → AreInRow o hs → last_epoch hs < 2 ^ 62
last_epoch_below o hs some r = (last_counts hs some r.legal).0

pub record FirstIsLegal (o : Opening) (n : ℕ) : Type 0 where
  pub part : is_partition o.home.part ≡ true
  pub kib : is_kib o.home.kib ≡ true
  pub name : is_name o.kind o.name ≡ true
  pub number : 1 ≤ n

first_legal : (o : Opening) (n : ℕ) (hs : List HeadedFile) → 0 < length hs → AllByRecursion (IsOfJournal o) hs → AllByRecursion (λ h. IsTrue (is_legal_header h.header)) hs → CountFrom n hs → FirstIsLegal o n
first_legal o n [] some own legal c = absurd (omega (arith, some))
first_legal o n (h ∷ hs) some own legal c =
    let parts = legal_parts h.header legal.0 in
    record {
      part = ap (λ (x : FileHeader). is_partition x.part) (sym own.0) ∙ parts.part;
      kib = ap (λ (x : FileHeader). is_kib x.kib) (sym own.0) ∙ parts.kib;
      name = ap (λ (x : FileHeader). is_name x.kind x.name) (sym own.0) ∙ parts.name;
      number = subst (λ k. 1 ≤ k) c.0 (least h.header.number parts.number);
    }

pub may_reopen : (kind : JournalKind) (name : List ℕ) (home : PoolId) (hs : List HeadedFile) (rid : ℕ) → 0 < length hs → AreInRow (opened_behind kind name home hs) hs → rid < 2 ^ 62 → MayReopen (opened_behind kind name home hs) hs (last_number hs) rid
may_reopen kind name home hs rid some r less =
    let o : Opening = opened_behind kind name home hs in
    let first : FirstIsLegal o r.first = first_legal o r.first hs some r.own r.legal r.numbers in
    let counts = last_counts hs some r.legal in
    let last : last_number hs + 1 ≡ r.first + length hs = last_is r.first hs some r.numbers in
    let number : 1 ≤ r.first = first.number in
    record {
      opening = record { part = first.part; kib = first.kib; epoch = (omega arith, omega (arith, counts.0)); name = first.name };
      all = r.own;
      olds = below_last hs r.rise;
      next = end_before hs;
      legal = r.legal;
      some = some;
      few = omega (arith, last, number);
      numbers = subst (λ n. NumberedFrom n hs (last_number hs)) (omega (arith, last)) (numbered r.first hs some r.numbers);
      newest = counts.1;
      rid = less;
    }

-- ---- how it stands

pub told_there_before : (o : Opening) (pool : PoolState) (hs : List HeadedFile) (many rid : ℕ) (a : Option Content) → IfSome a (OnDisk (MayTrim o pool hs many rid)) → IfSome a (OnDisk (LogThere (reopened o hs 0 0)))
told_there_before o pool hs many rid None may = tt
told_there_before o pool hs many rid (Some x) may = record { waiting = tt; there = may.there; rests = may.rests }

ends_none : (b : Bool) → epoch_end b [] ≡ 0
ends_none true = refl
ends_none false = refl

drop_all : (fs : List Headed) (n : ℕ) → length fs ≡ n → drop n fs ≡ []
drop_all [] zero e = refl
drop_all [] (suc n) e = refl
drop_all (f ∷ fs) zero e = absurd (omega (arith, e))
drop_all (f ∷ fs) (suc n) e = drop_all fs n (omega (arith, e))

whole_end : (n c : ℕ) → 0 < n → n * c + 0 ≡ (n - 1) * c + c
whole_end zero c some = absurd (omega (arith, some))
whole_end (suc n) c some = ap (λ m. suc n * c + m) refl ∙ grind arith ∙ ap (λ m. m * c + c) (one n)
  where
    one : (n : ℕ) → n ≡ suc n - 1
    one n = omega arith

last_unmarked : (size : ℕ) (hs : List HeadedFile) (fs : List Headed) → AreThoseFiles size hs fs → LastIsUnmarked size fs
last_unmarked size [] [] t = tt
last_unmarked size [] (f ∷ fs) t = absurd t
last_unmarked size (h ∷ hs) [] t = absurd t
last_unmarked size (h ∷ []) (f ∷ []) t = λ unit from room. absurd (omega (arith, from, room, t.0.area))
last_unmarked size (h ∷ k ∷ hs) (f ∷ []) t = absurd t.1
last_unmarked size (h ∷ []) (f ∷ g ∷ fs) t = absurd t.1
last_unmarked size (h ∷ k ∷ hs) (f ∷ g ∷ fs) t = last_unmarked size (k ∷ hs) (g ∷ fs) t.1

module _ (o : Opening) (left : PoolState) (kept : List HeadedFile) (newest rid : ℕ) (done : List HeadedFile) where
  abbrev log : LogState
  log = reopened o kept newest rid

  there_left : (x y : Content) → Trims o left kept 0 rid done x y → LogThere log y.now.disk
  there_left x y t = record { waiting = tt; there = t.may.there; rests = t.may.rests }

  read_left : (x y : Content) → Trims o left kept 0 rid done x y → ReadsTheSame log x y
  read_left x y t =
      let count : length (files_on o y.now.disk) ≡ length kept = those_count (capacity_in o) kept (files_on o y.now.disk) t.may.there.files in
      record {
        reading = t.reading;
        ends =
            ap (λ (fs : List Headed). length kept * capacity_in o + epoch_end (length kept == 0) fs) (drop_all (files_on o y.now.disk) (length kept) count)
            ∙ ap (λ n. length kept * capacity_in o + n) (ends_none (length kept == 0)) ∙ whole_end (length kept) (capacity_in o) t.may.fewer;
        behind = last_unmarked (capacity_in o) kept (files_on o y.now.disk) t.may.there.files;
      }

  none_past : (fs : List Headed) → length fs ≡ 0 → fs ≡ []
  none_past [] e = refl
  none_past (f ∷ fs) e = absurd (omega (arith, e))

  undamaged_left : (x y : Content) → Trims o left kept 0 rid done x y → IsUndamaged log y.now.disk
  undamaged_left x y t = record {
    chain = t.may.rules.chain;
    reading = t.may.rules.reading;
    past = none_past (past_files (journal_on y.now.disk o.kind o.name)) t.may.past;
    rid = t.may.rid;
  }

  pub told_there_left : (a b : Option Content) → Tells (Trims o left kept 0 rid done) a b → IfSome b (OnDisk (LogThere log))
  told_there_left None None t = tt
  told_there_left None (Some y) t = absurd t
  told_there_left (Some x) None t = absurd t
  told_there_left (Some x) (Some y) t = there_left x y t

  pub told_read_left : (a b : Option Content) → Tells (Trims o left kept 0 rid done) a b → Tells (ReadsTheSame log) a b
  told_read_left a b t = Tells-weaken (Trims o left kept 0 rid done) (ReadsTheSame log) a b t read_left

  pub told_undamaged_left : (a b : Option Content) → Tells (Trims o left kept 0 rid done) a b → IfSome b (OnDisk (IsUndamaged log))
  told_undamaged_left None None t = tt
  told_undamaged_left None (Some y) t = absurd t
  told_undamaged_left (Some x) None t = absurd t
  told_undamaged_left (Some x) (Some y) t = undamaged_left x y t

  pub told_pool_left : (a b : Option Content) → Tells (Trims o left kept 0 rid done) a b → IfSome b (OnDisk (IsWholePool left))
  told_pool_left None None t = tt
  told_pool_left None (Some y) t = absurd t
  told_pool_left (Some x) None t = absurd t
  told_pool_left (Some x) (Some y) t = (t.may.there.differ, t.may.spare)

  pub told_quiet_left : (a b : Option Content) → Tells (Trims o left kept 0 rid done) a b → Carries IsQuiet IsQuiet a b
  told_quiet_left None b t = tt
  told_quiet_left (Some x) None t = tt
  told_quiet_left (Some x) (Some y) t = t.quiet

  pub told_others_left : (a b : Option Content) → Tells (Trims o left kept 0 rid done) a b → Tells (LeavesOthers done) a b
  told_others_left a b t = Tells-weaken (Trims o left kept 0 rid done) (LeavesOthers done) a b t (λ x y r. record { files = r.others; answered = answered_arrives o x y r.arrives })

  pub told_goes_left : {X : Type 0} (v : X) (a b : Option Content) → Tells (Trims o left kept 0 rid done) a b → Tells (GoesOwn {X = X} o (Ok v)) a b
  told_goes_left {X} v a b t = Tells-weaken (Trims o left kept 0 rid done) (GoesOwn {X = X} o (Ok v)) a b t (λ x y r. (r.arrives, r.none))

site_passed : (X : Type 0) (o : Opening) (e : SiteError) (x y : Content) → PassesOwn o x y → GoesOwn {X = X} o (Err (fault_of_site e)) x y
site_passed X o Rattle.qls_site.specs.declared.site.SiteError.TheVariants.Failed x y p = (p.passes, p.none)
site_passed X o Rattle.qls_site.specs.declared.site.SiteError.TheVariants.Memory x y p = (p.passes, p.none)

pub told_stopped_left : {X : Type 0} (o : Opening) (e : SiteError) (r : Result X LogError) (a b : Option Content) → Err (fault_of_site e) ≡ r → Tells (PassesOwn o) a b → Tells (GoesOwn {X = X} o r) a b
told_stopped_left {X} o e r a b is t =
    subst (λ (q : Result X LogError). Tells (GoesOwn {X = X} o q) a b) is (Tells-weaken (PassesOwn o) (GoesOwn {X = X} o (Err (fault_of_site e))) a b t (site_passed X o e))

pub told_fails_left : {X : Type 0} (hs : List HeadedFile) (e : SiteError) (r : Result X LogError) (a b : Option Content) → Err (fault_of_site e) ≡ r → Tells (GivesBack hs (Err e)) a b → Tells (GivesNewest hs r) a b
told_fails_left {X} hs e r a b is t =
    subst (λ (q : Result X LogError). Tells (GivesNewest hs q) a b) is (Tells-weaken (GivesBack hs (Err e)) (GivesNewest {X = X} hs (Err (fault_of_site e))) a b t (λ x y s. inr (e, refl, s)))
