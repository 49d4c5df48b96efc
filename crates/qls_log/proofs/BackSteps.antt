-- Files that go back to their pool: nothing is written, and the other files stay as they are.
use Rattle.std.proofs.Common.{◌≡◌, ℕ, ◌<◌, Bool, true, false, ◌||◌, ◌==◌, List, [], ◌∷◌, ◌++◌, length, drop, Option, Some, None, IfSome, IsErr, Result, Ok, Err, refl, sym, ap, subst, arith, length-drop}
use Rattle.std.proofs.lemmas.Bool.Decides.{nat_tests}
use Rattle.std.specs.List.{AllByRecursion}
use Rattle.qls_site.specs.declared.site.SiteError.{SiteError}
use Rattle.qls_site.specs.declared.site.SiteError.TheVariants.{Failed, Memory}
use Rattle.qls_site.specs.declared.site.Place.TheVariants.{Empty}
use Rattle.qls_site.specs.Disk.{FileState, file_of}
use Rattle.qls_site.specs.Content.{Moment, Content, Tells, Acts, MayAct, Leads, moments_since}
use Rattle.qls_site.proofs.Told.{Tells-weaken}
use Rattle.qls_filehdr.specs.declared.FileHeader.{FileHeader}
use Rattle.qls_meaning.specs.History.{History, FreeArea, now}
use Rattle.qls_pool.specs.Files.{HeadedFile, IdsDiffer, RestsThere, OnDisk, is_among}
use Rattle.qls_pool.specs.Taking.{put_back}
use Rattle.qls_pool.specs.Moments.{Chain, Passes, Arrives}
use Rattle.qls_pool.proofs.Moments.{Arrives-then, Arrives-passes, Arrives-acts, Arrives-same, Passes-of, Passes-same, Passes-may, since_is, since_of}
use Rattle.qls_pool.proofs.Steps.{differ_change}
use Rattle.qls_log.specs.declared.opening.Opening.{Opening}
use Rattle.qls_log.specs.declared.fault.LogError.{LogError}
use Rattle.qls_log.specs.Leaving.{NoneLeaves, WritesInOrder}
use Rattle.qls_log.specs.Keeping.{WritesEmptyFile, WritesEmpty}
use Rattle.qls_log.specs.Logs.{LogState, capacity_in, ids}
use Rattle.qls_log.specs.Returning.{with_back, with_backs, GivesBack}
use Rattle.qls_log.specs.Standing.{AreApart, LogThere}
use Rattle.qls_log.specs.Unwritten.{AreWrittenTo, IsClear, IsWrittenTo, StaysWritten, WritesWell, history_with}
use Rattle.qls_log.proofs.Releases.{NotGiven, apart_given}
use Rattle.qls_log.proofs.RestingFiles.{weaker_all, later_all, all_clear, log_rests, resting_free}
use Rattle.qls_log.proofs.Sectors.{KeepsSectors, same_file_keeps, with_none, written_still, empty_in_order}
use Rattle.qls_log.proofs.Takes.{other_changed}
use Rattle.qls_log.proofs.TakeSteps.{longer, each_same, each_change, writes_same}

-- ---- by the answer

pub passes_well : (x y : Content) → Passes WritesEmpty x y → WritesWell x y
passes_well x y p = λ areas h at.
    subst (WritesInOrder areas h) (sym (since_is WritesEmpty x y p)) (empty_in_order areas WritesEmpty (λ m n e. e) h p.since (subst (λ (m : Moment). Chain WritesEmpty m p.since) (sym at) p.chain))

well_same : (x : Content) → WritesWell x x
well_same x = passes_well x x (Passes-same WritesEmpty x x refl)

pub told_none_leaves_same : (a : Option Content) → Tells (Passes NoneLeaves) a a
told_none_leaves_same None = tt
told_none_leaves_same (Some x) = Passes-same NoneLeaves x x refl

pub told_well_same : (a : Option Content) → Tells WritesWell a a
told_well_same None = tt
told_well_same (Some x) = well_same x

err_written : (X : Type 0) (e : LogError) (l new : LogState) (a b : Option Content) → Tells WritesWell a b → Tells (StaysWritten {X = X} (Err e) l new) a b
err_written X e l new a b t = Tells-weaken WritesWell (StaysWritten {X = X} (Err e) l new) a b t (λ x y w areas h at k. (w areas h at, tt))

-- after an error only the writes count
pub told_err_written : {X : Type 0} (e : LogError) (r : Result X LogError) (l new : LogState) (a b : Option Content) → Err e ≡ r → Tells WritesWell a b → Tells (StaysWritten r l new) a b
told_err_written {X} e r l new a b is t = subst (λ (q : Result X LogError). Tells (StaysWritten q l new) a b) is (err_written X e l new a b t)

pub told_failed_written : {X : Type 0} (r : Result X LogError) (l new : LogState) (a b : Option Content) → IsErr r → Tells WritesWell a b → Tells (StaysWritten r l new) a b
told_failed_written {X} (Ok x) l new a b is t = absurd (not_ok x is)
  where
    not_ok : (x : X) → IsErr {T = X} {E = LogError} (Ok x) → ⊥
    not_ok x e = cc
told_failed_written {X} (Err e) l new a b is t = err_written X e l new a b t

-- nothing was done
pub told_still_written : {X : Type 0} (v : X) (l : LogState) (a : Option Content) → Tells (StaysWritten {X = X} (Ok v) l l) a a
told_still_written v l None = tt
told_still_written v l (Some x) = λ areas h at w.
    let none : moments_since x x ≡ [] = since_is WritesEmpty x x (Passes-same WritesEmpty x x refl) in
    (well_same x areas h at, subst (λ (ms : List Moment). IsWrittenTo areas (history_with h ms) l) (sym none) (subst (λ (g : History). IsWrittenTo areas g l) (sym (with_none h)) w))

-- ---- relocations

abbrev homed : FileHeader → FileState → FileState
homed h f = record f { place = Empty h.part h.kib }

back_writes : (id : ℕ) (h : FileHeader) (m : Moment) → IdsDiffer m.disk → WritesEmpty m (put_back id h m)
back_writes id h m differ = each_change WritesEmptyFile id (homed h) (λ f. refl) m.disk differ writes_same (λ f e w k. absurd (longer f.pending w k))

record BackedQuietly (x y : Content) : Type 0 where
  arrives : Arrives WritesEmpty x y
  differ : IdsDiffer y.now.disk

backs_quietly : (hs : List HeadedFile) (x : Content) → IdsDiffer x.now.disk → BackedQuietly x (with_backs hs x)
backs_quietly [] x differ = record { arrives = Arrives-same WritesEmpty x x refl; differ = differ }
backs_quietly (h ∷ hs) x differ =
    let rest : BackedQuietly (with_back h x) (with_backs hs (with_back h x)) = backs_quietly hs (with_back h x) (differ_change h.id (homed h.header) (λ f. refl) x.now.disk differ) in
    record {
      arrives = Arrives-then WritesEmpty x (with_back h x) (with_backs hs (with_back h x)) (Arrives-acts WritesEmpty (put_back h.id h.header) x (with_back h x) (back_writes h.id h.header x.now differ) refl) rest.arrives;
      differ = rest.differ;
    }

failed_back : (h : HeadedFile) (e : SiteError) (y z : Content) → IdsDiffer y.now.disk → Leads {X = Unit {0}} (Acts (put_back h.id h.header)) (MayAct (put_back h.id h.header)) (Err e) y z → Passes WritesEmpty y z
failed_back h Failed y z differ t = Passes-may WritesEmpty (put_back h.id h.header) y z (each_same WritesEmptyFile y.now.disk differ writes_same) (back_writes h.id h.header y.now differ) t
failed_back h Memory y z differ t = Passes-same WritesEmpty y z t

backs_pass : (hs : List HeadedFile) (r : Result (Unit {0}) SiteError) (x y : Content) → IdsDiffer x.now.disk → GivesBack hs r x y → Passes WritesEmpty x y
backs_pass hs (Ok v) x y differ t = subst (λ (c : Content). Passes WritesEmpty x c) (sym t) (Passes-of WritesEmpty x (with_backs hs x) (backs_quietly hs x differ).arrives)
backs_pass hs (Err e) x y differ t =
    let first : BackedQuietly x (with_backs t.before x) = backs_quietly t.before x differ in
    Arrives-passes WritesEmpty x (with_backs t.before x) y first.arrives (failed_back t.file e (with_backs t.before x) y first.differ t.fails)

pub told_backs_well : (l : LogState) (hs : List HeadedFile) (r : Result (Unit {0}) SiteError) (a b : Option Content) → IfSome a (OnDisk (LogThere l)) → Tells (GivesBack hs r) a b → Tells WritesWell a b
told_backs_well l hs r None None there t = tt
told_backs_well l hs r None (Some y) there t = absurd t
told_backs_well l hs r (Some x) None there t = absurd t
told_backs_well l hs r (Some x) (Some y) there t = passes_well x y (backs_pass hs r x y there.there.differ t)

-- ---- the files that are kept

turned : (m n : ℕ) → (m == n) ≡ false → (n == m) ≡ false
turned m n e = grind (arith, nat_tests, e)

or_false : (a b : Bool) → (a || b) ≡ false → (a ≡ false) × (b ≡ false)
or_false true b e = absurd (cc)
or_false false b e = (refl, e)

backs_keep : (id : ℕ) (hs : List HeadedFile) (x : Content) → is_among id (ids hs) ≡ false → Arrives (KeepsSectors id) x (with_backs hs x)
backs_keep id [] x e = Arrives-same (KeepsSectors id) x x refl
backs_keep id (h ∷ hs) x e =
    let both = or_false (h.id == id) (is_among id (ids hs)) e in
    let same : file_of id (put_back h.id h.header x.now).disk ≡ file_of id x.now.disk = other_changed h.id id (homed h.header) (λ f. refl) (turned h.id id both.0) x.now.disk in
    Arrives-then (KeepsSectors id) x (with_back h x) (with_backs hs (with_back h x))
    (Arrives-acts (KeepsSectors id) (put_back h.id h.header) x (with_back h x) (same_file_keeps id x.now (put_back h.id h.header x.now) same) refl) (backs_keep id hs (with_back h x) both.1)

-- all but the first files are written as they were
written_rest : (areas : List FreeArea) (h : History) (cap used : ℕ) (given kept : List HeadedFile) → 0 < length kept → AreWrittenTo areas h cap used (given ++ kept) → AreWrittenTo areas h cap used kept
written_rest areas h cap used [] kept some w = w
written_rest areas h cap used (f ∷ []) [] some w = absurd (omega (arith, some))
written_rest areas h cap used (f ∷ []) (k ∷ kept) some w = w.1
written_rest areas h cap used (f ∷ g ∷ given) kept some w = written_rest areas h cap used (g ∷ given) kept some w.1

pub some_kept : (k : ℕ) (hs kept : List HeadedFile) → kept ≡ drop k hs → k < length hs → 0 < length kept
some_kept k hs kept e less = omega (arith, ap length e, length-drop k hs, less)

module _ (l new : LogState) (given kept : List HeadedFile) (x : Content) (all : given ++ kept ≡ l.files) (flushed : l.unsynced ≡ []) (some : 0 < length kept) (opening : new.opening ≡ l.opening) (files : new.files ≡ kept) (used : new.used ≡ l.used) where
  abbrev y : Content
  y = with_backs given x

  kept_written : LogThere l x.now.disk → (areas : List FreeArea) (h : History) → now h ≡ x.now → IsWrittenTo areas h l → IsWrittenTo areas (history_with h (moments_since x y)) new
  kept_written there areas h at w =
      let ms : List Moment = moments_since x y in
      let cap : ℕ = capacity_in l.opening in
      let rests : AllByRecursion (λ f. RestsThere f (now h).disk) kept =
      subst (λ (m : Moment). AllByRecursion (λ f. RestsThere f m.disk) kept) (sym at) (later_all (λ f. RestsThere f x.now.disk) given kept (subst (AllByRecursion (λ f. RestsThere f x.now.disk)) (sym all) (log_rests l x.now.disk there flushed))) in
      let apart : NotGiven given kept = apart_given given kept (subst AreApart (sym all) there.there.apart) in
      let chains : AllByRecursion (λ f. Chain (KeepsSectors f.id) (now h) ms) kept =
      weaker_all (λ f. is_among f.id (ids given) ≡ false) (λ f. Chain (KeepsSectors f.id) (now h) ms) (λ f e. chain_since f.id e at) kept apart in
      let still : AreWrittenTo areas (history_with h ms) cap l.used kept =
      written_still areas (history_with h ms) h cap l.used kept (resting_free areas h ms cap kept rests chains)
      (written_rest areas h cap l.used given kept some (subst (AreWrittenTo areas h cap l.used) (sym all) w.written)) in
      record {
        written =
            subst (λ (o : Opening). AreWrittenTo areas (history_with h ms) (capacity_in o) new.used new.files) (sym opening)
            (subst (λ n. AreWrittenTo areas (history_with h ms) cap n new.files) (sym used) (subst (AreWrittenTo areas (history_with h ms) cap l.used) (sym files) still));
        clear =
            subst (AllByRecursion (λ f. IsClear areas (history_with h ms) f.id)) (sym files)
            (all_clear areas h ms kept (later_all (λ f. IsClear areas h f.id) given kept (subst (AllByRecursion (λ f. IsClear areas h f.id)) (sym all) w.clear)));
      }
    where
      chain_since : (id : ℕ) → is_among id (ids given) ≡ false → {m : Moment} → m ≡ x.now → Chain (KeepsSectors id) m (moments_since x y)
      chain_since id e {m} at =
          let arrives : Arrives (KeepsSectors id) x y = backs_keep id given x e in
          subst (λ (n : Moment). Chain (KeepsSectors id) n (moments_since x y)) (sym at) (subst (Chain (KeepsSectors id) x.now) (sym (since_of (KeepsSectors id) x y arrives)) arrives.chain)

pub told_kept_written : {X : Type 0} (v : X) (l new : LogState) (given kept : List HeadedFile) (a b : Option Content) → given ++ kept ≡ l.files → l.unsynced ≡ [] → 0 < length kept → new.opening ≡ l.opening → new.files ≡ kept → new.used ≡ l.used
    → IfSome a (OnDisk (LogThere l)) → Tells (λ x y. y ≡ with_backs given x) a b → Tells (StaysWritten {X = X} (Ok v) l new) a b
told_kept_written v l new given kept None None all flushed some opening files used there t = tt
told_kept_written v l new given kept None (Some y) all flushed some opening files used there t = absurd t
told_kept_written v l new given kept (Some x) None all flushed some opening files used there t = absurd t
told_kept_written {X} v l new given kept (Some x) (Some y) all flushed some opening files used there t =
    subst (λ (c : Content). StaysWritten {X = X} (Ok v) l new x c) (sym t)
    (λ areas h at w. (passes_well x (with_backs given x) (Passes-of WritesEmpty x (with_backs given x) (backs_quietly given x there.there.differ).arrives) areas h at, kept_written l new given kept x all flushed some opening files used there areas h at w))
