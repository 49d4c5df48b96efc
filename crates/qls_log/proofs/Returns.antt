-- Files that go back to their pool, one after another.
use Rattle.std.proofs.Common.{◌≡◌, ℕ, ◌+◌, ◌<◌, Bool, true, false, ◌||◌, ◌==◌, List, [], ◌∷◌, ◌++◌, map, take, Option, Some, None, IfSome, IsErr, Result, Ok, Err, refl, sym, ap, ap₂, ◌∙◌, subst, arith, append_assoc, append-nil}
use Rattle.std.proofs.lemmas.Bool.Decides.{nat_tests}
use Rattle.std.specs.List.{AllByRecursion}
use Rattle.qls_site.specs.declared.site.SiteError.{SiteError}
use Rattle.qls_site.specs.declared.site.SiteError.TheVariants.{Failed, Memory}
use Rattle.qls_site.specs.declared.site.Place.TheVariants.{Empty}
use Rattle.qls_site.specs.Disk.{Disk, FileState, file_of, full_file, all_written, bytes_at, seen_bytes}
use Rattle.qls_site.specs.Content.{Moment, Content, Tells, Acts, MayAct, Leads}
use Rattle.qls_filehdr.specs.declared.FileHeader.{FileHeader}
use Rattle.qls_filehdr.specs.Header.{header_spelling}
use Rattle.qls_meaning.specs.Journals.{Headed, headed, is_in_use, is_of}
use Rattle.qls_meaning.specs.History.{newly_used}
use Rattle.qls_pool.specs.Pools.{PoolState}
use Rattle.qls_pool.specs.Files.{HeadedFile, IsLinked, LinkedThere, IsPoolOf, HasPool, OnDisk, Carries, is_among}
use Rattle.qls_pool.specs.Taking.{put_back}
use Rattle.qls_pool.specs.Moments.{Passes, Arrives, EndsIn}
use Rattle.qls_pool.specs.Serials.{serials_taken, taken_since}
use Rattle.qls_pool.proofs.Came.{none_came, none_same, none_back}
use Rattle.qls_pool.proofs.Disks.{eqb_own}
use Rattle.qls_pool.proofs.Moments.{Arrives-then, Arrives-passes, Arrives-acts, Arrives-same, Passes-of, Passes-may, since_of, since_is}
use Rattle.qls_pool.proofs.Serials.{taken_then}
use Rattle.qls_pool.proofs.Steps.{differ_change, back_step}
use Rattle.qls_log.specs.declared.opening.Opening.{Opening}
use Rattle.qls_log.specs.Logs.{NumberedFrom, capacity_in, ids}
use Rattle.qls_log.specs.Standing.{HasFiles, AreThoseFiles, files_on}
use Rattle.qls_log.specs.Steps.{IsLogStep, PassesOwn}
use Rattle.qls_log.specs.Returning.{with_back, with_backs, StopsBack, MayReturn, Returned, EndsBack}
use Rattle.qls_log.proofs.OwnSteps.{own_same, own_step, back_changes}
use Rattle.qls_log.proofs.OwnWrites.{own_one}
use Rattle.qls_log.proofs.Splits.{IsOrAbove, files-unlinked, split}
use Rattle.qls_log.proofs.Takes.{header_seen, other_changed}

no_both : (b : Bool) → b ≡ true → b ≡ false → ⊥
no_both b x y = cc

-- ---- the journal without its oldest file

pub those_above : (id cap k n last : ℕ) (hs : List HeadedFile) (fs : List Headed) → n < k → NumberedFrom k hs last → AreThoseFiles cap hs fs → AllByRecursion (IsOrAbove id n) fs
those_above id cap k n last [] [] l m t = tt
those_above id cap k n last [] (f ∷ fs) l m t = absurd t
those_above id cap k n last (h ∷ hs) [] l m t = absurd t
those_above id cap k n last (h ∷ hs) (f ∷ fs) l m t =
    let number : f.header.number ≡ k = ap (λ (x : FileHeader). x.number) t.0.header ∙ m.0 in
    (λ apart. omega (arith, number, l), those_above id cap (k + 1) n last hs fs (omega (arith, l)) m.1 t.1)

pub first_above : (cap n last : ℕ) (h : HeadedFile) (hs : List HeadedFile) (fs : List Headed) → NumberedFrom n (h ∷ hs) last → AreThoseFiles cap (h ∷ hs) fs → AllByRecursion (IsOrAbove h.id n) fs
first_above cap n last h hs [] m t = absurd t
first_above cap n last h hs (f ∷ fs) m t =
    (λ apart. absurd (no_both (f.id == h.id) (ap (λ i. i == h.id) t.0.id ∙ eqb_own h.id) apart), those_above h.id cap (n + 1) n last hs fs (omega arith) m.1 t.1)

pub differ_by : (m n : ℕ) → ((m ≡ n) → ⊥) → (m == n) ≡ false
differ_by m n h = from (m == n) refl
  where
    from : (b : Bool) → (m == n) ≡ b → (m == n) ≡ false
    from true e = absurd (h (Rattle.qls_pool.proofs.Disks.eqb_is m n e))
    from false e = e

pub turned_off : (m n : ℕ) → ((m == n) || false) ≡ false → (n == m) ≡ false
turned_off m n e = grind (arith, nat_tests, e)

pub linked_found : (h : HeadedFile) (o : Option FileState) → IsLinked h o → (f : FileState) × (o ≡ Some f) × IsLinked h (Some f)
linked_found h None k = absurd k
linked_found h (Some f) k = (f, refl, k)

module _ (o : Opening) (pool left : PoolState) (h : HeadedFile) (hs : List HeadedFile) (x : Content) (may : MayReturn o pool (h ∷ hs) x.now.disk) where
  abbrev d : Disk
  d = x.now.disk

  abbrev homed : FileState → FileState
  homed f = record f { place = Empty h.header.part h.header.kib }

  abbrev after : Moment
  after = put_back h.id h.header x.now

  found : (f : FileState) × (file_of h.id d ≡ Some f) × IsLinked h (Some f)
  found = linked_found h (file_of h.id d) may.files.linked.0

  useful : is_in_use found.0.place ≡ true
  useful = ap is_in_use found.2.0

  own : is_of o.kind o.name (headed (full_file found.0)) ≡ true
  own = (own_one o h d (Some found.0) found.1 found.2 may.files.headers.0 may.own.0 may.legal.0).1

  number : (headed (full_file found.0)).header.number ≡ may.first
  number =
      ap (λ (k : FileHeader). k.number) (header_seen h.header (all_written found.0.pending found.0.stable) may.legal.0 (ap (λ (p : Option FileState). take 4096 (seen_bytes p)) (sym found.1) ∙ may.files.headers.0))
      ∙ may.numbers.0

  unlinked : files_on o d ≡ headed (full_file found.0) ∷ files_on o after.disk
  unlinked =
      files-unlinked o h.id found.0 homed d (split h.id found.0 d may.files.differ found.1) useful refl own
      (subst (λ n. AllByRecursion (IsOrAbove h.id n) (files_on o d)) (sym number) (first_above (capacity_in o) may.first may.last h hs (files_on o d) may.numbers may.files.files))

  others_found : (id : ℕ) → (id == h.id) ≡ false → file_of id after.disk ≡ file_of id d
  others_found id e = other_changed h.id id homed (λ f. refl) e d

  linked_still : (gs : List HeadedFile) → AllByRecursion (λ g. (g.id ≡ h.id) → ⊥) gs → AllByRecursion (λ g. LinkedThere g d) gs → AllByRecursion (λ g. LinkedThere g after.disk) gs
  linked_still [] apart l = tt
  linked_still (g ∷ gs) apart l = (subst (IsLinked g) (sym (others_found g.id (differ_by g.id h.id apart.0))) l.0, linked_still gs apart.1 l.1)

  headers_still : (gs : List HeadedFile) → AllByRecursion (λ g. (g.id ≡ h.id) → ⊥) gs → AllByRecursion (λ g. take 4096 (bytes_at g.id d) ≡ header_spelling g.header) gs
      → AllByRecursion (λ g. take 4096 (bytes_at g.id after.disk) ≡ header_spelling g.header) gs
  headers_still [] apart k = tt
  headers_still (g ∷ gs) apart k = (ap (λ (p : Option FileState). take 4096 (seen_bytes p)) (others_found g.id (differ_by g.id h.id apart.0)) ∙ k.0, headers_still gs apart.1 k.1)

  files_after : HasFiles o hs after.disk
  files_after = record {
    differ = differ_change h.id homed (λ f. refl) d may.files.differ;
    apart = may.files.apart.1;
    linked = linked_still hs may.files.apart.0 may.files.linked.1;
    headers = headers_still hs may.files.apart.0 may.files.headers.1;
    files = (subst (AreThoseFiles (capacity_in o) (h ∷ hs)) unlinked may.files.files).1;
  }

  step_back : IsLogStep o x.now after
  step_back =
      own_step o h.id homed (λ f. refl) x.now may.files.differ found.0 found.1 (back_changes o x.now found.0 (homed found.0) own refl refl)
      (back_step h x.now may.legal.0 may.files.differ may.files.linked.0)

  none_back_one : newly_used x.now after ≡ []
  none_back_one = none_came x.now after (none_back h.id homed (λ f. refl) (λ f. refl) x.now may.files.differ)

  -- it went back
  returned_one : (y : Content) → Acts (put_back h.id h.header) x y → IsPoolOf left [] y.now.disk → Returned o left hs (h ∷ []) x y
  returned_one y acts p =
      let arrives : Arrives (IsLogStep o) x y = Arrives-acts (IsLogStep o) (put_back h.id h.header) x y step_back acts in
      record {
        told = acts;
        arrives = arrives;
        none = ap (serials_taken x.now) (since_of (IsLogStep o) x y arrives) ∙ ap (λ (fs : List Headed). map (λ f. f.header.serial) fs ++ []) none_back_one;
        others = λ id e. ap (λ (c : Content). file_of id c.now.disk) acts ∙ others_found id (turned_off h.id id e);
        may = record {
          spare = p;
          files = subst (λ (c : Content). HasFiles o hs c.now.disk) (sym acts) files_after;
          own = may.own.1;
          legal = may.legal.1;
          first = may.first + 1;
          last = may.last;
          numbers = may.numbers.1;
        };
      }

  -- it may have
  stopped_one : (e : SiteError) (y : Content) → Leads {X = Unit {0}} (Acts (put_back h.id h.header)) (MayAct (put_back h.id h.header)) (Err e) x y → PassesOwn o x y
  stopped_one Memory y same =
      let arrives : Arrives (IsLogStep o) x y = Arrives-same (IsLogStep o) x y same in
      record { passes = Passes-of (IsLogStep o) x y arrives; none = ap (serials_taken x.now) (since_of (IsLogStep o) x y arrives) }
  stopped_one Failed y acts =
      let passes : Passes (IsLogStep o) x y = Passes-may (IsLogStep o) (put_back h.id h.header) x y (own_same o x.now may.files.differ) step_back acts in
      record {
        passes = passes;
        none =
            ap (serials_taken x.now) (since_is (IsLogStep o) x y passes)
            ∙ ap (λ (fs : List Headed). map (λ f. f.header.serial) fs ++ serials_taken x.now (after ∷ [])) (none_came x.now x.now (none_same x.now x.now may.files.differ refl))
            ∙ ap (λ (fs : List Headed). map (λ f. f.header.serial) fs ++ []) none_back_one;
      }

-- ---- in a row

pub backs_append : (xs ys : List HeadedFile) (c : Content) → with_backs (xs ++ ys) c ≡ with_backs ys (with_backs xs c)
backs_append [] ys c = refl
backs_append (x ∷ xs) ys c = backs_append xs ys (with_back x c)

pub or_false : (a b : Bool) → (a || b) ≡ false → (a ≡ false) × (b ≡ false)
or_false true b e = absurd (cc)
or_false false b e = (refl, e)

pub among_parts : (id : ℕ) (xs ys : List HeadedFile) → is_among id (ids (xs ++ ys)) ≡ false → (is_among id (ids xs) ≡ false) × (is_among id (ids ys) ≡ false)
among_parts id [] ys e = (refl, e)
among_parts id (x ∷ xs) ys e =
    let both = or_false (x.id == id) (is_among id (ids (xs ++ ys))) e in
    let rest = among_parts id xs ys both.1 in
    (ap₂ (λ a b. a || b) both.0 rest.0, rest.1)

pub returned_none : (o : Opening) (pool : PoolState) (hs : List HeadedFile) (x : Content) → MayReturn o pool hs x.now.disk → Returned o pool hs [] x x
returned_none o pool hs x may =
    let arrives : Arrives (IsLogStep o) x x = Arrives-same (IsLogStep o) x x refl in
    record { told = refl; arrives = arrives; none = ap (serials_taken x.now) (since_of (IsLogStep o) x x arrives); others = λ id e. refl; may = may }

pub returned_then : (o : Opening) (between left : PoolState) (hs gs done more : List HeadedFile) (x y z : Content) → Returned o between hs done x y → Returned o left gs more y z → Returned o left gs (done ++ more) x z
returned_then o between left hs gs done more x y z h k = record {
  told = k.told ∙ ap (with_backs more) h.told ∙ sym (backs_append done more x);
  arrives = Arrives-then (IsLogStep o) x y z h.arrives k.arrives;
  none = taken_then (IsLogStep o) (IsLogStep o) x y z h.arrives (Passes-of (IsLogStep o) y z k.arrives) ∙ ap (λ (s : List ℕ). s ++ taken_since y z) h.none ∙ k.none;
  others = λ id e. let both = among_parts id done more e in k.others id both.1 ∙ h.others id both.0;
  may = k.may;
}

stopped_then : (o : Opening) (between : PoolState) (hs done : List HeadedFile) (x y z : Content) → Returned o between hs done x y → PassesOwn o y z → PassesOwn o x z
stopped_then o between hs done x y z h k = record {
  passes = Arrives-passes (IsLogStep o) x y z h.arrives k.passes;
  none = taken_then (IsLogStep o) (IsLogStep o) x y z h.arrives k.passes ∙ ap (λ (s : List ℕ). s ++ taken_since y z) h.none ∙ k.none;
}

-- the files so far went back, and those that are left are the journal's with those behind them
abbrev pub BackSo : PoolState → PoolState → List HeadedFile → List HeadedFile → Option Content → Option Content → Type 0
BackSo pool between done rest a b = (o : Opening) (kept : List HeadedFile) → IfSome a (OnDisk (MayReturn o pool (done ++ (rest ++ kept)))) → Tells (Returned o between (rest ++ kept) done) a b

pub back_none : (pool : PoolState) (hs : List HeadedFile) (a : Option Content) → BackSo pool pool [] hs a a
back_none pool hs None o kept may = tt
back_none pool hs (Some x) o kept may = returned_none o pool (hs ++ kept) x may

module _ (pool between left : PoolState) (done : List HeadedFile) (h : HeadedFile) (rest : List HeadedFile) where
  regroup : (kept : List HeadedFile) → (done ++ h ∷ []) ++ (rest ++ kept) ≡ done ++ ((h ∷ rest) ++ kept)
  regroup kept = append_assoc done (h ∷ []) (rest ++ kept)

  pub back_next : (a b n : Option Content) → BackSo pool between done (h ∷ rest) a b → Tells (Acts (put_back h.id h.header)) b n → ((out : List ℕ) → is_among h.id out ≡ false → Carries (IsPoolOf between out) (IsPoolOf left out) b n)
      → BackSo pool left (done ++ h ∷ []) rest a n
  back_next None None None s t p o kept may = tt
  back_next None None (Some z) s t p o kept may = absurd t
  back_next None (Some y) n s t p o kept may = absurd (s o kept tt)
  back_next (Some x) None n s t p o kept may = absurd (s o kept (subst (λ (hs : List HeadedFile). MayReturn o pool hs x.now.disk) (regroup kept) may))
  back_next (Some x) (Some y) None s t p o kept may = absurd t
  back_next (Some x) (Some y) (Some z) s t p o kept may =
      let first : Returned o between ((h ∷ rest) ++ kept) done x y = s o kept (subst (λ (hs : List HeadedFile). MayReturn o pool hs x.now.disk) (regroup kept) may) in
      returned_then o between left ((h ∷ rest) ++ kept) (rest ++ kept) done (h ∷ []) x y z first (returned_one o between left h (rest ++ kept) y first.may z t (p [] refl first.may.spare))

  -- what the next call asks
  pub next_linked : (o : Opening) (kept : List HeadedFile) (a b : Option Content) → BackSo pool between done (h ∷ rest) a b → IfSome a (OnDisk (MayReturn o pool (done ++ ((h ∷ rest) ++ kept)))) → IfSome b (OnDisk (LinkedThere h))
  next_linked o kept None None s may = tt
  next_linked o kept None (Some y) s may = absurd (s o kept tt)
  next_linked o kept (Some x) None s may = tt
  next_linked o kept (Some x) (Some y) s may = (s o kept may).may.files.linked.0

  pub next_pool : (o : Opening) (kept : List HeadedFile) (a b : Option Content) → BackSo pool between done (h ∷ rest) a b → IfSome a (OnDisk (MayReturn o pool (done ++ ((h ∷ rest) ++ kept)))) → IfSome b (OnDisk (HasPool between))
  next_pool o kept None None s may = tt
  next_pool o kept None (Some y) s may = absurd (s o kept tt)
  next_pool o kept (Some x) None s may = tt
  next_pool o kept (Some x) (Some y) s may = ([], (s o kept may).may.spare)

  pub back_stopped : {X E : Type 0} (e : SiteError) (r : Result X E) (a b n : Option Content) → IsErr r → BackSo pool between done (h ∷ rest) a b
      → Tells (Leads {X = Unit {0}} (Acts (put_back h.id h.header)) (MayAct (put_back h.id h.header)) (Err e)) b n → EndsBack pool left (done ++ h ∷ rest) r a n
  back_stopped e r None None None is s t o kept may = tt
  back_stopped e r None None (Some z) is s t o kept may = absurd t
  back_stopped e r None (Some y) n is s t o kept may = absurd (s o kept tt)
  back_stopped e r (Some x) None n is s t o kept may = absurd (s o kept (subst (λ (hs : List HeadedFile). MayReturn o pool hs x.now.disk) (append_assoc done (h ∷ rest) kept) may))
  back_stopped e r (Some x) (Some y) None is s t o kept may = absurd t
  back_stopped e r (Some x) (Some y) (Some z) is s t o kept may =
      let first : Returned o between ((h ∷ rest) ++ kept) done x y = s o kept (subst (λ (hs : List HeadedFile). MayReturn o pool hs x.now.disk) (append_assoc done (h ∷ rest) kept) may) in
      by_err r is (stopped_then o between ((h ∷ rest) ++ kept) done x y z first (stopped_one o between left h (rest ++ kept) y first.may e z t))
    where
      by_err : {X E : Type 0} (r : Result X E) → IsErr r → PassesOwn o x z → EndsIn (λ v. Returned o left kept (done ++ h ∷ rest)) (PassesOwn o) r x z
      by_err {X} {E} (Ok v) is k = absurd (not_ok v is)
        where
          not_ok : (v : X) → IsErr {T = X} {E = E} (Ok v) → ⊥
          not_ok v e = cc
      by_err (Err f) is k = k

  stopped_told : (e : SiteError) (x y z : Content) → y ≡ with_backs done x → Leads {X = Unit {0}} (Acts (put_back h.id h.header)) (MayAct (put_back h.id h.header)) (Err e) y z → StopsBack (done ++ h ∷ rest) e x z
  stopped_told e x y z is t = record {
    before = done;
    file = h;
    after = rest;
    is = refl;
    fails = subst (λ (c : Content). Leads {X = Unit {0}} (Acts (put_back h.id h.header)) (MayAct (put_back h.id h.header)) (Err e) c z) is t;
  }

  pub told_stopped : (e : SiteError) (a b n : Option Content) → Tells (λ x y. y ≡ with_backs done x) a b → Tells (Leads {X = Unit {0}} (Acts (put_back h.id h.header)) (MayAct (put_back h.id h.header)) (Err e)) b n
      → Tells (StopsBack (done ++ h ∷ rest) e) a n
  told_stopped e None None None s t = tt
  told_stopped e None None (Some z) s t = absurd t
  told_stopped e None (Some y) n s t = absurd s
  told_stopped e (Some x) None n s t = absurd s
  told_stopped e (Some x) (Some y) None s t = absurd t
  told_stopped e (Some x) (Some y) (Some z) s t = stopped_told e x y z s t

  pub told_next : (a b n : Option Content) → Tells (λ x y. y ≡ with_backs done x) a b → Tells (Acts (put_back h.id h.header)) b n → Tells (λ x y. y ≡ with_backs (done ++ h ∷ []) x) a n
  told_next None None None s t = tt
  told_next None None (Some z) s t = absurd t
  told_next None (Some y) n s t = absurd s
  told_next (Some x) None n s t = absurd s
  told_next (Some x) (Some y) None s t = absurd t
  told_next (Some x) (Some y) (Some z) s t = t ∙ ap (with_back h) s ∙ sym (backs_append done (h ∷ []) x)

-- all of them went back
pub back_all : (E : Type 0) {X : Type 0} (pool left : PoolState) (v : X) (done rest hs : List HeadedFile) (a b : Option Content) → rest ≡ [] → done ++ rest ≡ hs → BackSo pool left done rest a b → EndsBack {X = X} {E = E} pool left hs (Ok v) a b
back_all E {X} pool left v done rest hs a b none is s o kept may =
    let all : done ≡ hs = sym (append-nil done) ∙ ap (λ (r : List HeadedFile). done ++ r) (sym none) ∙ is in
    let went : Tells (Returned o left (rest ++ kept) done) a b = s o kept (subst (λ (xs : List HeadedFile). IfSome a (OnDisk (MayReturn o pool xs))) (ap₂ (λ (p q : List HeadedFile). p ++ (q ++ kept)) (sym all) (sym none)) may) in
    subst (λ (X : Type 0). X) (λ i. Tells (Returned o left (none i ++ kept) (all i)) a b) went

pub all_told : (done rest hs : List HeadedFile) (a b : Option Content) → rest ≡ [] → done ++ rest ≡ hs → Tells (λ x y. y ≡ with_backs done x) a b → Tells (λ x y. y ≡ with_backs hs x) a b
all_told done rest hs a b none is t =
    let all : done ≡ hs = sym (append-nil done) ∙ ap (λ (r : List HeadedFile). done ++ r) (sym none) ∙ is in
    subst (λ (xs : List HeadedFile). Tells (λ x y. y ≡ with_backs xs x) a b) all t
