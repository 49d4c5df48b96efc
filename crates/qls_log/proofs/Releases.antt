-- A log whose oldest files go back to their pool.
use Rattle.std.proofs.Common.{◌≡◌, inl, inr, ℕ, zero, suc, ◌+◌, ◌-◌, ◌<◌, ◌≤◌, ◌^◌, ◌%◌, Bool, true, false, ◌||◌, ◌==◌, List, [], ◌∷◌, ◌++◌, length, take, drop, Option, Some, None, IfSome, IsTrue, Result, Ok, Err, refl, sym, ap, ap₂, ◌∙◌, subst, arith, append-nil, length-take, length-drop, take-append-drop}
use Rattle.std.specs.List.{AllByRecursion}
use Rattle.qls_site.specs.declared.site.SiteError.{SiteError}
use Rattle.qls_site.specs.Disk.{Disk, file_of}
use Rattle.qls_site.specs.Content.{Moment, Content, Tells}
use Rattle.qls_site.proofs.Told.{Tells-weaken}
use Rattle.qls_filehdr.specs.Limits.{is_legal_header}
use Rattle.qls_meaning.specs.History.{last_of}
use Rattle.qls_meaning.specs.Journals.{Headed}
use Rattle.qls_pool.specs.Pools.{PoolState}
use Rattle.qls_pool.specs.Files.{HeadedFile, IsAtRest, RestsThere, IsPoolOf, IsWholePool, OnDisk, is_among}
use Rattle.qls_pool.specs.Moments.{Chain, Arrives}
use Rattle.qls_log.specs.declared.opening.Opening.{Opening}
use Rattle.qls_log.specs.declared.fault.LogError.{LogError}
use Rattle.qls_log.specs.declared.fault.LogError.TheVariants.{Memory}
use Rattle.qls_log.specs.Faults.{fault_of_site}
use Rattle.qls_log.specs.Logs.{LogState, IsSound, IsOfOpening, IsOfJournal, EndBefore, NumberedFrom, capacity_in, ids}
use Rattle.qls_log.specs.Standing.{HasFiles, AreApart, AreThoseFiles, LogThere, RestsBut, files_on}
use Rattle.qls_log.specs.Steps.{IsLogStep, GoesOwn}
use Rattle.qls_log.specs.Returning.{MayReturn, Returned, GivesBack, GivesAll, before_number, released, with_backs}
use Rattle.qls_log.specs.Appending.{LeavesOthers}
use Rattle.qls_log.proofs.Appends.{all_drop}
use Rattle.qls_log.proofs.Older.{olds_drop, own_drop, end_dropped}

-- ---- which files

-- the newest isn't released
pub before_last : (n k : ℕ) (hs : List HeadedFile) → k + 1 ≡ length hs → before_number n (drop k hs) ≡ []
before_last n zero [] e = refl
before_last n zero (h ∷ []) e = refl
before_last n zero (h ∷ g ∷ hs) e = absurd (omega (arith, e))
before_last n (suc k) [] e = refl
before_last n (suc k) (h ∷ hs) e = before_last n k hs (omega (arith, e))

pub counted_all : (n at last : ℕ) (hs : List HeadedFile) → last + 1 ≡ length hs → at ≡ last → take at hs ++ before_number n (drop at hs) ≡ before_number n hs → take last hs ≡ before_number n hs
counted_all n at last hs size end invariant =
    ap (λ k. take k hs) (sym end) ∙ sym (append-nil (take at hs)) ∙ ap (λ (gs : List HeadedFile). take at hs ++ gs) (sym (before_last n at hs (omega (arith, size, end)))) ∙ invariant

pub count_is : (k : ℕ) (hs gs : List HeadedFile) → take k hs ≡ gs → k < length hs → length gs ≡ k
count_is k hs gs e less = ap length (sym e) ∙ length-take k hs ∙ omega (arith, less)

pub cut_files : (k : ℕ) (hs given kept : List HeadedFile) → given ≡ take k hs → kept ≡ drop k hs → given ++ kept ≡ hs
cut_files k hs given kept a b = ap₂ (λ (x y : List HeadedFile). x ++ y) a b ∙ take-append-drop k hs

pub released_is : (n k : ℕ) (l : LogState) (given : List HeadedFile) → take k l.files ≡ given → take k l.files ≡ released n l → given ≡ released n l
released_is n k l given a b = sym a ∙ b

-- ---- the log before and behind

may_return : (l : LogState) (pool : PoolState) (d : Disk) → IsSound l → LogThere l d → IsPoolOf pool [] d → MayReturn l.opening pool l.files d
may_return l pool d sound there p = record {
  spare = p;
  files = there.there;
  own = sound.all;
  legal = sound.legal;
  first = l.newest + 1 - length l.files;
  last = l.newest;
  numbers = sound.numbers;
}

pub told_may_return : (l : LogState) (pool : PoolState) (hs : List HeadedFile) (a : Option Content) → hs ≡ l.files → IsSound l → IfSome a (OnDisk (LogThere l)) → IfSome a (OnDisk (IsPoolOf pool []))
    → IfSome a (OnDisk (MayReturn l.opening pool hs))
told_may_return l pool hs None is sound there p = tt
told_may_return l pool hs (Some c) is sound there p = subst (λ (gs : List HeadedFile). MayReturn l.opening pool gs c.now.disk) (sym is) (may_return l pool c.now.disk sound there p)

numbered_drop : (n k last : ℕ) (hs : List HeadedFile) → k ≤ length hs → NumberedFrom n hs last → NumberedFrom (n + k) (drop k hs) last
numbered_drop n zero last hs less m = subst (λ i. NumberedFrom i hs last) (omega arith) m
numbered_drop n (suc k) last [] less m = absurd (omega (arith, less))
numbered_drop n (suc k) last (h ∷ hs) less m = subst (λ i. NumberedFrom i (drop k hs) last) (omega arith) (numbered_drop (n + 1) k last hs (omega (arith, less)) m.1)

length_dropped : (k : ℕ) (hs : List HeadedFile) → length (drop k hs) ≡ length hs - k
length_dropped k hs = length-drop k hs

-- the log without its first files is sound
pub sound_without : (l new : LogState) (k : ℕ) → IsSound l → k < length l.files → l.unsynced ≡ [] → new.opening ≡ l.opening → new.files ≡ drop k l.files → new.older ≡ l.older - k → new.newest ≡ l.newest → new.used ≡ l.used → new.rid ≡ l.rid → new.unsynced ≡ l.unsynced → IsSound new
sound_without l new k s less flushed opening files older newest used rid unsynced =
    let size : length new.files ≡ length l.files - k = ap length files ∙ length_dropped k l.files in
    let start : l.newest + 1 - length l.files + k ≡ new.newest + 1 - length new.files = omega (arith, size, newest, s.few, less) in
    let all : AllByRecursion (IsOfJournal l.opening) (drop k l.files) = all_drop (IsOfJournal l.opening) k l.files s.all in
    record {
      opening = subst Rattle.qls_log.specs.Logs.IsLegalOpening (sym opening) s.opening;
      all = subst (λ (o : Opening). AllByRecursion (IsOfJournal o) new.files) (sym opening) (subst (AllByRecursion (IsOfJournal l.opening)) (sym files) all);
      older = omega (arith, size, older, s.older);
      olds =
          subst (λ (o : Opening). AllByRecursion (λ h. h.header.epoch < o.epoch) (take new.older new.files)) (sym opening)
          (subst (AllByRecursion (λ h. h.header.epoch < l.opening.epoch)) (λ i. take (sym older i) (sym files i)) (olds_drop (λ h. h.header.epoch < l.opening.epoch) k l.older l.files s.olds));
      own =
          subst (λ (o : Opening). AllByRecursion (IsOfOpening o) (drop new.older new.files)) (sym opening)
          (subst (AllByRecursion (IsOfOpening l.opening)) (λ i. drop (sym older i) (sym files i)) (own_drop (IsOfOpening l.opening) k l.older l.files s.own));
      full = λ e. used ∙ s.full (omega (arith, e, size, older, less)) ∙ ap capacity_in (sym opening);
      next = λ e.
          subst (λ (o : Opening). EndBefore o.epoch new.files) (sym opening)
          (subst (EndBefore l.opening.epoch) (sym files) (end_dropped l.opening.epoch k l.files less (s.next (omega (arith, e, size, older, less)))));
      legal = subst (AllByRecursion (λ h. IsTrue (is_legal_header h.header))) (sym files) (all_drop (λ h. IsTrue (is_legal_header h.header)) k l.files s.legal);
      some = omega (arith, size, less);
      few = omega (arith, size, newest, s.few);
      numbers =
          subst (λ n. NumberedFrom n new.files new.newest) start
          (subst (λ n. NumberedFrom (l.newest + 1 - length l.files + k) new.files n) (sym newest)
          (subst (λ (hs : List HeadedFile). NumberedFrom (l.newest + 1 - length l.files + k) hs l.newest) (sym files)
          (numbered_drop (l.newest + 1 - length l.files) k l.newest l.files (omega (arith, less)) s.numbers)));
      newest = subst (λ n. n < 2 ^ 62) (sym newest) s.newest;
      used = subst (λ (o : Opening). (new.used % 4096 ≡ 0) × (new.used ≤ capacity_in o)) (sym opening) (subst (λ n. (n % 4096 ≡ 0) × (n ≤ capacity_in l.opening)) (sym used) s.used);
      rid = subst (λ n. n < 2 ^ 62) (sym rid) s.rid;
      unsynced = subst (λ (xs : List ℕ). AllByRecursion (λ id. is_among id (ids new.files) ≡ true) xs) (sym (unsynced ∙ flushed)) tt;
    }

-- ---- the files that are left

differ_by : (m n : ℕ) → ((n ≡ m) → ⊥) → (m == n) ≡ false
differ_by m n h = from (m == n) refl
  where
    from : (b : Bool) → (m == n) ≡ b → (m == n) ≡ false
    from true e = absurd (h (sym (Rattle.qls_pool.proofs.Disks.eqb_is m n e)))
    from false e = e

-- no kept file is among those that are given back
abbrev pub NotGiven : List HeadedFile → List HeadedFile → Type 0
NotGiven given kept = AllByRecursion (λ g. is_among g.id (ids given) ≡ false) kept

more_apart : (h : HeadedFile) (given kept : List HeadedFile) → AllByRecursion (λ g. (g.id ≡ h.id) → ⊥) kept → NotGiven given kept → NotGiven (h ∷ given) kept
more_apart h given [] a n = tt
more_apart h given (g ∷ kept) a n = (ap₂ (λ a b. a || b) (differ_by h.id g.id a.0) n.0, more_apart h given kept a.1 n.1)

none_given : (kept : List HeadedFile) → NotGiven [] kept
none_given [] = tt
none_given (g ∷ kept) = (refl, none_given kept)

rest_of : (P : HeadedFile → Type 0) (given kept : List HeadedFile) → AllByRecursion P (given ++ kept) → AllByRecursion P kept
rest_of P [] kept a = a
rest_of P (h ∷ given) kept a = rest_of P given kept a.1

pub apart_given : (given kept : List HeadedFile) → AreApart (given ++ kept) → NotGiven given kept
apart_given [] kept a = none_given kept
apart_given (h ∷ given) kept a = more_apart h given kept (rest_of (λ g. (g.id ≡ h.id) → ⊥) given kept a.0) (apart_given given kept a.1)

rests_still : (given kept : List HeadedFile) (d e : Disk) → ((id : ℕ) → is_among id (ids given) ≡ false → file_of id e ≡ file_of id d) → NotGiven given kept → RestsBut [] kept d → RestsBut [] kept e
rests_still given [] d e same n r = tt
rests_still given (g ∷ kept) d e same n r = (λ k. subst (IsAtRest g) (sym (same g.id n.0)) (r.0 k), rests_still given kept d e same n.1 r.1)

left_there : (l new : LogState) (left : PoolState) (given kept : List HeadedFile) (x y : Content) → given ++ kept ≡ l.files → l.unsynced ≡ [] → new.opening ≡ l.opening → new.files ≡ kept → new.unsynced ≡ [] → LogThere l x.now.disk
    → Returned l.opening left kept given x y → LogThere new y.now.disk
left_there l new left given kept x y all flushed opening files unsynced there r =
    let apart : AreApart (given ++ kept) = subst AreApart (sym all) there.there.apart in
    let rests : RestsBut [] (given ++ kept) x.now.disk = subst (λ (hs : List HeadedFile). RestsBut [] hs x.now.disk) (sym all) (subst (λ (own : List ℕ). RestsBut own l.files x.now.disk) flushed there.rests) in
    let still : RestsBut [] kept y.now.disk = rests_still given kept x.now.disk y.now.disk r.others (apart_given given kept apart) (rest_of (λ h. is_among h.id [] ≡ false → RestsThere h x.now.disk) given kept rests) in
    record {
      waiting = subst (λ (own : List ℕ). Rattle.qls_log.specs.Writing.AreInUse own y.now.disk) (sym unsynced) tt;
      there = subst (λ (o : Opening). HasFiles o new.files y.now.disk) (sym opening) (subst (λ (hs : List HeadedFile). HasFiles l.opening hs y.now.disk) (sym files) r.may.files);
      rests = subst (λ (own : List ℕ). RestsBut own new.files y.now.disk) (sym unsynced) (subst (λ (hs : List HeadedFile). RestsBut [] hs y.now.disk) (sym files) still);
    }

pub told_left : (l new : LogState) (left : PoolState) (given kept : List HeadedFile) (a b : Option Content) → given ++ kept ≡ l.files → l.unsynced ≡ [] → new.opening ≡ l.opening → new.files ≡ kept → new.unsynced ≡ []
    → IfSome a (OnDisk (LogThere l)) → Tells (Returned l.opening left kept given) a b → IfSome b (OnDisk (LogThere new))
told_left l new left given kept None None all flushed opening files unsynced there t = tt
told_left l new left given kept None (Some y) all flushed opening files unsynced there t = absurd t
told_left l new left given kept (Some x) None all flushed opening files unsynced there t = absurd t
told_left l new left given kept (Some x) (Some y) all flushed opening files unsynced there t = left_there l new left given kept x y all flushed opening files unsynced there t

-- ---- what is told

none_left : (cap : ℕ) (fs : List Headed) → AreThoseFiles cap [] fs → fs ≡ []
none_left cap [] t = refl
none_left cap (f ∷ fs) t = absurd t

answered_chain : (o : Opening) (m : Moment) (ms : List Moment) → Chain (IsLogStep o) m ms → (last_of m ms).answered ≡ m.answered
answered_chain o m [] h = refl
answered_chain o m (n ∷ ns) h = answered_chain o n ns h.1 ∙ h.0.answered

pub answered_arrives : (o : Opening) (x y : Content) → Arrives (IsLogStep o) x y → y.now.answered ≡ x.now.answered
answered_arrives o x y h = ap (λ (m : Moment). m.answered) h.last ∙ answered_chain o x.now h.since h.chain

module _ (o : Opening) (left : PoolState) (kept given : List HeadedFile) where
  pub told_spare : (a b : Option Content) → Tells (Returned o left kept given) a b → IfSome b (OnDisk (IsPoolOf left []))
  told_spare None None t = tt
  told_spare None (Some y) t = absurd t
  told_spare (Some x) None t = absurd t
  told_spare (Some x) (Some y) t = t.may.spare

  pub told_whole : (a b : Option Content) → Tells (Returned o left kept given) a b → IfSome b (OnDisk (IsWholePool left))
  told_whole None None t = tt
  told_whole None (Some y) t = absurd t
  told_whole (Some x) None t = absurd t
  told_whole (Some x) (Some y) t = (t.may.files.differ, t.may.spare)

  pub told_gone : (a b : Option Content) → kept ≡ [] → Tells (Returned o left kept given) a b → IfSome b (OnDisk (λ d. files_on o d ≡ []))
  told_gone None None e t = tt
  told_gone None (Some y) e t = absurd t
  told_gone (Some x) None e t = absurd t
  told_gone (Some x) (Some y) e t = none_left (capacity_in o) (files_on o y.now.disk) (subst (λ (hs : List HeadedFile). AreThoseFiles (capacity_in o) hs (files_on o y.now.disk)) e t.may.files.files)

  pub told_leaves : (a b : Option Content) → Tells (Returned o left kept given) a b → Tells (LeavesOthers given) a b
  told_leaves a b t = Tells-weaken (Returned o left kept given) (LeavesOthers given) a b t (λ x y r. record { files = r.others; answered = answered_arrives o x y r.arrives })

  pub told_given : (a b : Option Content) → Tells (Returned o left kept given) a b → Tells (λ x y. y ≡ with_backs given x) a b
  told_given a b t = Tells-weaken (Returned o left kept given) (λ x y. y ≡ with_backs given x) a b t (λ x y r. r.told)

  pub told_goes : (a b : Option Content) → Tells (Returned o left kept given) a b → Tells (GoesOwn {X = Unit {0}} o (Ok (tt {0}))) a b
  told_goes a b t = Tells-weaken (Returned o left kept given) (GoesOwn {X = Unit {0}} o (Ok (tt {0}))) a b t (λ x y r. (r.arrives, r.none))

-- an error of a relocation, by the log's answer
pub told_fails : (hs : List HeadedFile) (e : SiteError) (r : Result (Unit {0}) LogError) (a b : Option Content) → Err (fault_of_site e) ≡ r → Tells (GivesBack hs (Err e)) a b → Tells (GivesAll hs r) a b
told_fails hs e r a b is t =
    subst (λ (q : Result (Unit {0}) LogError). Tells (GivesAll hs q) a b) is (Tells-weaken (GivesBack hs (Err e)) (GivesAll hs (Err (fault_of_site e))) a b t (λ x y s. inr (e, refl, s)))

-- no memory, before any call
pub told_refused : (hs : List HeadedFile) (r : Result (Unit {0}) LogError) (a : Option Content) → Err Memory ≡ r → Tells (GivesAll hs r) a a
told_refused hs r None is = tt
told_refused hs r (Some x) is = subst (λ (q : Result (Unit {0}) LogError). GivesAll hs q x x) is (inl (refl, refl))

pub told_no_file : (hs : List HeadedFile) (a : Option Content) → hs ≡ [] → Tells (λ x y. y ≡ with_backs hs x) a a
told_no_file hs None e = tt
told_no_file hs (Some x) e = sym (ap (λ (gs : List HeadedFile). with_backs gs x) e)

pub leaves_all : (hs : List HeadedFile) (a : Option Content) → Tells (LeavesOthers hs) a a
leaves_all hs None = tt
leaves_all hs (Some x) = record { files = λ id e. refl; answered = refl }
