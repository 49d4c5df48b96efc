-- The journal's files, as more of them are taken.
use Rattle.std.proofs.Common.{◌≡◌, ℕ, ◌+◌, ◌≤◌, Bool, true, false, ◌==◌, ◌||◌, List, [], ◌∷◌, ◌++◌, Option, Some, None, IsTrue, refl, sym, ap, ◌∙◌, subst, arith, append_assoc, append-nil}
use Rattle.std.proofs.lemmas.Bool.Decides.{nat_tests}
use Rattle.std.specs.List.{AllByRecursion}
use Rattle.qls_model.specs.declared.machine.PoolId.{PoolId}
use Rattle.qls_site.specs.declared.site.Place.TheVariants.{InUse, Empty}
use Rattle.qls_site.specs.Disk.{Disk, FileState, file_of}
use Rattle.qls_site.specs.Content.{Moment, Content}
use Rattle.qls_filehdr.specs.declared.FileHeader.{FileHeader}
use Rattle.qls_filehdr.specs.Limits.{is_legal_header}
use Rattle.qls_meaning.specs.Journals.{Headed}
use Rattle.qls_meaning.specs.History.{last_of, AllUnmarked, IsUnmarked}
use Rattle.qls_laws.proofs.HistoryLaws.{AllUnmarked-within}
use Rattle.qls_blocks.specs.declared.plan.FreshFile.{FreshFile}
use Rattle.qls_pool.specs.Pools.{PoolState, least_id, first_or}
use Rattle.qls_pool.specs.Files.{BlankFile, HeadedFile, IsLinked, IsBlank, IsAtRest, LinkedThere, RestsThere, BlankThere, IsPoolOf, IsWholePool, IdsDiffer, is_among}
use Rattle.qls_pool.specs.Taking.{Obtains}
use Rattle.qls_pool.proofs.Taken.{lacks_next, blank_there}
use Rattle.qls_log.specs.declared.opening.Opening.{Opening}
use Rattle.qls_log.specs.Logs.{capacity_in, header_for, AreHeaded, NumberedFrom, ids}
use Rattle.qls_log.specs.Taking.{TakesFile, TakesFiles}
use Rattle.qls_log.specs.Standing.{files_on, HasFiles, AreThoseFiles, IsThatFile, AreApart}
use Rattle.qls_log.proofs.Splits.{Below}
use Rattle.qls_log.proofs.Takes.{pool_after, ids_after, rests_after, others_after, journal_after, moments_after, answered_after}
use Rattle.qls_log.proofs.Flushes.{all_linked, all_show}
use Rattle.qls_log.proofs.Chains.{all_push}

-- ---- the files, at rest

-- the journal's files, with nothing pending
pub record Resting (o : Opening) (hs : List HeadedFile) (d : Disk) : Type 0 where
  pub differ : IdsDiffer d
  pub apart : AreApart hs
  pub rest : AllByRecursion (λ h. RestsThere h d) hs
  pub files : AreThoseFiles (capacity_in o) hs (files_on o d)

pub has_files : (o : Opening) (hs : List HeadedFile) (d : Disk) → Resting o hs d → HasFiles o hs d
has_files o hs d r = record { differ = r.differ; apart = r.apart; linked = all_linked hs d r.rest; headers = all_show hs d r.rest; files = r.files }

-- ---- the new one is another

blank_not_linked : (b : BlankFile) (g : HeadedFile) (o : Option FileState) → IsBlank b o → IsLinked g o → ⊥
blank_not_linked b g None k l = k
blank_not_linked b g (Some f) k l = places (sym k.0 ∙ l.0)
  where
    places : ◌≡◌ (Empty b.home.part b.home.kib) InUse → ⊥
    places e = cc

none_not_linked : (g : HeadedFile) (o : Option FileState) → o ≡ None → IsLinked g o → ⊥
none_not_linked g o e l = subst (IsLinked g) e l

apart_by : (home : PoolId) (pool : PoolState) (h g : HeadedFile) (a mid : Content) (o : Option ℕ) → h.id ≡ first_or o (pool.greatest + 1) → Obtains home pool.greatest o a mid
    → IsPoolOf pool [] a.now.disk → BlankThere (record { id = h.id; serial = h.header.serial; home = home }) mid.now.disk → LinkedThere g a.now.disk → g.id ≡ h.id → ⊥
apart_by home pool h g a mid (Some n) is e p blank l same =
    blank_not_linked (record { id = h.id; serial = h.header.serial; home = home }) g (file_of h.id a.now.disk) (subst (λ (c : Content). BlankThere (record { id = h.id; serial = h.header.serial; home = home }) c.now.disk) e blank)
    (subst (λ n. IsLinked g (file_of n a.now.disk)) same l)
apart_by home pool h g a mid None is e p blank l same =
    none_not_linked g (file_of (pool.greatest + 1) a.now.disk) (lacks_next pool a.now.disk ([], p)) (subst (λ n. IsLinked g (file_of n a.now.disk)) (same ∙ is) l)

another : (m n : ℕ) → ((m ≡ n) → ⊥) → (m == n) ≡ false
another m n h =
    elim (m == n) as (λ b. (m == n) ≡ b → b ≡ false) [
      | true ↦ λ e. absurd (h (Rattle.qls_pool.proofs.Disks.eqb_is m n e))
      | false ↦ λ e. refl
    ] refl

-- ---- lists

apart_push : (hs : List HeadedFile) (h : HeadedFile) → AreApart hs → AllByRecursion (λ g. (g.id ≡ h.id) → ⊥) hs → AreApart (hs ++ h ∷ [])
apart_push [] h a n = (tt, tt)
apart_push (g ∷ hs) h a n = (all_push (λ x. (x.id ≡ g.id) → ⊥) hs h a.0 (λ e. n.0 (sym e)), apart_push hs h a.1 n.1)

those_push : (cap : ℕ) (hs : List HeadedFile) (fs : List Headed) (h : HeadedFile) (f : Headed) → AreThoseFiles cap hs fs → IsThatFile cap h f → AreThoseFiles cap (hs ++ h ∷ []) (fs ++ f ∷ [])
those_push cap [] [] h f t is = (is, tt)
those_push cap [] (g ∷ fs) h f t is = absurd t
those_push cap (k ∷ hs) [] h f t is = absurd t
those_push cap (k ∷ hs) (g ∷ fs) h f t is = (t.0, those_push cap hs fs h f t.1 is)

-- all have lesser numbers
pub below_those : (cap n newest : ℕ) (hs : List HeadedFile) (fs : List Headed) → NumberedFrom n hs newest → AreThoseFiles cap hs fs → (n ≤ newest + 1) × Below (newest + 1) fs
below_those cap n newest [] [] m t = (omega (arith, m), tt)
below_those cap n newest [] (f ∷ fs) m t = absurd t
below_those cap n newest (h ∷ hs) [] m t = absurd t
below_those cap n newest (h ∷ hs) (f ∷ fs) m t =
    let rest = below_those cap (n + 1) newest hs fs m.1 t.1 in
    let number : f.header.number ≡ n = ap (λ (x : FileHeader). x.number) t.0.header ∙ m.0 in
    (omega (arith, rest.0), (omega (arith, number, rest.0), rest.1))

numbered_push : (n newest : ℕ) (hs : List HeadedFile) (h : HeadedFile) → NumberedFrom n hs newest → h.header.number ≡ newest + 1 → NumberedFrom n (hs ++ h ∷ []) (newest + 1)
numbered_push n newest [] h m e = (e ∙ sym m, omega (arith, m))
numbered_push n newest (g ∷ hs) h m e = (m.0, numbered_push (n + 1) newest hs h m.1 e)

-- ---- one more file

pub record Gained (o : Opening) (hs : List HeadedFile) (h : HeadedFile) (a b : Content) : Type 0 where
  pub resting : Resting o (hs ++ h ∷ []) b.now.disk
  pub file : Headed
  pub files : files_on o b.now.disk ≡ files_on o a.now.disk ++ file ∷ []
  pub early : List Moment
  pub moments : b.moments ≡ a.moments ++ (early ++ b.now ∷ [])
  pub unmarked : AllUnmarked a.now (early ++ b.now ∷ []) → IsUnmarked file
  pub answered : b.now.answered ≡ a.now.answered

module _ (o : Opening) (pool left : PoolState) (h : HeadedFile) (f : FreshFile) (newest : ℕ) (a b : Content) (t : TakesFile o.home pool left h a b)
    (legal : IsTrue (is_legal_header h.header)) (is : h.header ≡ header_for o h.header.serial (newest + 1) f) where
  part_of : h.header.part ≡ o.home.part
  part_of = ap (λ (x : FileHeader). x.part) is

  kib_of : h.header.kib ≡ o.home.kib
  kib_of = ap (λ (x : FileHeader). x.kib) is

  new_apart : (hs : List HeadedFile) → IsWholePool pool a.now.disk → AllByRecursion (λ h. RestsThere h a.now.disk) hs → AllByRecursion (λ g. (g.id ≡ h.id) → ⊥) hs
  new_apart [] w r = tt
  new_apart (g ∷ hs) w r = (
    apart_by o.home pool h g a t.blank (least_id o.home pool.files) t.hands.id t.obtains w.1
        (blank_there o.home pool left (record { id = h.id; serial = h.header.serial; home = o.home }) [] a t.blank refl t.hands t.obtains w.1) (linked g (file_of g.id a.now.disk) r.0),
    new_apart hs w r.1,
  )
    where
      linked : (g : HeadedFile) (x : Option FileState) → IsAtRest g x → IsLinked g x
      linked g None k = absurd k
      linked g (Some f) k = (k.0, k.2)

  others_rest : (hs : List HeadedFile) → AllByRecursion (λ g. (g.id ≡ h.id) → ⊥) hs → AllByRecursion (λ h. RestsThere h a.now.disk) hs → AllByRecursion (λ h. RestsThere h b.now.disk) hs
  others_rest [] n r = tt
  others_rest (g ∷ hs) n r = (subst (IsAtRest g) (sym (others_after o.home pool left h a b t legal part_of kib_of g.id (another g.id h.id n.0))) r.0, others_rest hs n.1 r.1)

  pub gained : (hs : List HeadedFile) (n : ℕ) → IsWholePool pool a.now.disk → NumberedFrom n hs newest → Resting o hs a.now.disk → Gained o hs h a b
  gained hs n w numbers r =
      let below : Below h.header.number (files_on o a.now.disk) = subst (λ k. Below k (files_on o a.now.disk)) (sym (ap (λ (x : FileHeader). x.number) is)) (below_those (capacity_in o) n newest hs (files_on o a.now.disk) numbers r.files).1 in
      let more = journal_after o.home pool left h a b t legal part_of kib_of o w (ap (λ (x : FileHeader). x.kind) is) (ap (λ (x : FileHeader). x.name) is) refl below in
      let distinct = new_apart hs w r.rest in
      let past = moments_after o.home pool left h a b t legal part_of kib_of in
      record {
        resting = record {
          differ = ids_after o.home pool left h a b t legal part_of kib_of w;
          apart = apart_push hs h r.apart distinct;
          rest = all_push (λ x. RestsThere x b.now.disk) hs h (others_rest hs distinct r.rest) (rests_after o.home pool left h a b t legal part_of kib_of w.1);
          files = subst (AreThoseFiles (capacity_in o) (hs ++ h ∷ [])) (sym more.files) (those_push (capacity_in o) hs (files_on o a.now.disk) h more.file r.files more.is);
        };
        file = more.file;
        files = more.files;
        early = past.early;
        moments = past.moments;
        unmarked = λ u. more.unmarked (subst (λ (m : Moment). AllUnmarked m (b.now ∷ [])) past.last (AllUnmarked-within a.now past.early (b.now ∷ []) u));
        answered = answered_after o.home pool left h a b t legal part_of kib_of;
      }

-- ---- and one after another

-- where the last of the files that came is unmarked
abbrev pub LastUnmarked : List Headed → Type 0
LastUnmarked [] = Unit {0}
LastUnmarked (f ∷ []) = IsUnmarked f
LastUnmarked (f ∷ g ∷ fs) = LastUnmarked (g ∷ fs)

pub record GainedAll (o : Opening) (hs taken : List HeadedFile) (newest : ℕ) (left : PoolState) (a b : Content) : Type 0 where
  pub resting : Resting o (hs ++ taken) b.now.disk
  pub pool : IsPoolOf left [] b.now.disk
  pub came : List Headed
  pub files : files_on o b.now.disk ≡ files_on o a.now.disk ++ came
  pub those : AreThoseFiles (capacity_in o) taken came
  pub since : List Moment
  pub moments : b.moments ≡ a.moments ++ since
  pub last : last_of a.now since ≡ b.now
  pub unmarked : AllUnmarked a.now since → LastUnmarked came
  pub each : AllUnmarked a.now since → AllByRecursion IsUnmarked came
  pub answered : b.now.answered ≡ a.now.answered

last_two : (m n : Moment) (xs : List Moment) → last_of m (xs ++ n ∷ []) ≡ n
last_two m n [] = refl
last_two m n (x ∷ xs) = last_two x n xs

last_then : (m : Moment) (xs ys : List Moment) → last_of m (xs ++ ys) ≡ last_of (last_of m xs) ys
last_then m [] ys = refl
last_then m (x ∷ xs) ys = last_then x xs ys

pub unmarked_front : (m : Moment) (xs ys : List Moment) → AllUnmarked m (xs ++ ys) → AllUnmarked m xs
unmarked_front m [] ys u = tt
unmarked_front m (x ∷ xs) ys u = (u.0, unmarked_front x xs ys u.1)

last_unmarked : (f : Headed) (fs : List Headed) → IsUnmarked f → LastUnmarked fs → LastUnmarked (f ∷ fs)
last_unmarked f [] u v = u
last_unmarked f (g ∷ fs) u v = v

pub gained_all : (o : Opening) (pool left : PoolState) (hs taken : List HeadedFile) (fs : List FreshFile) (newest n : ℕ) (a b : Content) → TakesFiles o.home pool left taken a b
    → AreHeaded o newest fs taken → AllByRecursion (λ h. IsTrue (is_legal_header h.header)) taken → IsWholePool pool a.now.disk → NumberedFrom n hs newest → Resting o hs a.now.disk → GainedAll o hs taken newest left a b
gained_all o pool left hs [] fs newest n a b t headed legal w numbers r = record {
  resting = subst (λ (c : Content). Resting o (hs ++ []) c.now.disk) (sym t.1) (subst (λ (xs : List HeadedFile). Resting o xs a.now.disk) (sym (append-nil hs)) r);
  pool = subst (λ (p : PoolState). IsPoolOf p [] b.now.disk) (sym t.0) (subst (λ (c : Content). IsPoolOf pool [] c.now.disk) (sym t.1) w.1);
  came = [];
  files = ap (λ (c : Content). files_on o c.now.disk) t.1 ∙ sym (append-nil (files_on o a.now.disk));
  those = tt;
  since = [];
  moments = ap (λ (c : Content). c.moments) t.1 ∙ sym (append-nil a.moments);
  last = sym (ap (λ (c : Content). c.now) t.1);
  unmarked = λ u. tt;
  each = λ u. tt;
  answered = ap (λ (c : Content). c.now.answered) t.1;
}
gained_all o pool left hs (h ∷ taken) [] newest n a b t headed legal w numbers r = absurd headed
gained_all o pool left hs (h ∷ taken) (f ∷ fs) newest n a b t headed legal w numbers r =
    let between : PoolState = t.0 in
    let mid : Content = t.1 in
    let part : h.header.part ≡ o.home.part = ap (λ (x : FileHeader). x.part) headed.0 in
    let kib : h.header.kib ≡ o.home.kib = ap (λ (x : FileHeader). x.kib) headed.0 in
    let one : Gained o hs h a mid = gained o pool between h f newest a mid t.2 legal.0 headed.0 hs n w numbers r in
    let pool_mid = pool_after o.home pool between h a mid t.2 legal.0 part kib w.1 in
    let rest : GainedAll o (hs ++ h ∷ []) taken (newest + 1) left mid b =
    gained_all o between left (hs ++ h ∷ []) taken fs (newest + 1) n mid b t.3 headed.1 legal.1 (one.resting.differ, pool_mid) (numbered_push n newest hs h numbers (ap (λ (x : FileHeader). x.number) headed.0)) one.resting in
    let first : List Moment = one.early ++ mid.now ∷ [] in
    let at : last_of a.now first ≡ mid.now = last_two a.now mid.now one.early in
    record {
      resting = subst (λ (xs : List HeadedFile). Resting o xs b.now.disk) (append_assoc hs (h ∷ []) taken) rest.resting;
      pool = rest.pool;
      came = one.file ∷ rest.came;
      files = rest.files ∙ ap (λ (xs : List Headed). xs ++ rest.came) one.files ∙ append_assoc (files_on o a.now.disk) (one.file ∷ []) rest.came;
      those = (one_is o hs h a mid one r.files, rest.those);
      since = first ++ rest.since;
      moments = rest.moments ∙ ap (λ (xs : List Moment). xs ++ rest.since) one.moments ∙ append_assoc a.moments first rest.since;
      last = last_then a.now first rest.since ∙ ap (λ m. last_of m rest.since) at ∙ rest.last;
      unmarked = λ u.
          last_unmarked one.file rest.came (one.unmarked (unmarked_front a.now first rest.since u))
          (rest.unmarked (subst (λ (m : Moment). AllUnmarked m rest.since) at (AllUnmarked-within a.now first rest.since u)));
      each = λ u. (one.unmarked (unmarked_front a.now first rest.since u), rest.each (subst (λ (m : Moment). AllUnmarked m rest.since) at (AllUnmarked-within a.now first rest.since u)));
      answered = rest.answered ∙ one.answered;
    }
  where
    those_last : (cap : ℕ) (hs : List HeadedFile) (gs : List Headed) (h : HeadedFile) (f : Headed) → AreThoseFiles cap hs gs → AreThoseFiles cap (hs ++ h ∷ []) (gs ++ f ∷ []) → IsThatFile cap h f
    those_last cap [] [] h f s t = t.0
    those_last cap [] (g ∷ gs) h f s t = absurd s
    those_last cap (k ∷ hs) [] h f s t = absurd s
    those_last cap (k ∷ hs) (g ∷ gs) h f s t = those_last cap hs gs h f s.1 t.1

    one_is : (o : Opening) (hs : List HeadedFile) (h : HeadedFile) (a mid : Content) (one : Gained o hs h a mid) → AreThoseFiles (capacity_in o) hs (files_on o a.now.disk) → IsThatFile (capacity_in o) h one.file
    one_is o hs h a mid one s = those_last (capacity_in o) hs (files_on o a.now.disk) h one.file s (subst (AreThoseFiles (capacity_in o) (hs ++ h ∷ [])) one.files one.resting.files)

-- ---- what stays

or_false : (a b : Bool) → (a || b) ≡ false → (a ≡ false) × (b ≡ false)
or_false true b e = absurd (cc)
or_false false b e = (refl, e)

turned : (m n : ℕ) → (m == n) ≡ false → (n == m) ≡ false
turned m n e = grind (arith, nat_tests, e)

pub others_all : (o : Opening) (pool left : PoolState) (taken : List HeadedFile) (fs : List FreshFile) (newest : ℕ) (a b : Content) → TakesFiles o.home pool left taken a b
    → AreHeaded o newest fs taken → AllByRecursion (λ h. IsTrue (is_legal_header h.header)) taken → (id : ℕ) → is_among id (ids taken) ≡ false → file_of id b.now.disk ≡ file_of id a.now.disk
others_all o pool left [] fs newest a b t headed legal id e = ap (λ (c : Content). file_of id c.now.disk) t.1
others_all o pool left (h ∷ taken) [] newest a b t headed legal id e = absurd headed
others_all o pool left (h ∷ taken) (f ∷ fs) newest a b t headed legal id e =
    let both = or_false (h.id == id) (is_among id (ids taken)) e in
    others_all o t.0 left taken fs (newest + 1) t.1 b t.3 headed.1 legal.1 id both.1
    ∙ others_after o.home pool t.0 h a t.1 t.2 legal.0 (ap (λ (x : FileHeader). x.part) headed.0) (ap (λ (x : FileHeader). x.kib) headed.0) id (turned h.id id both.0)

pub answered_all : (o : Opening) (pool left : PoolState) (taken : List HeadedFile) (fs : List FreshFile) (newest : ℕ) (a b : Content) → TakesFiles o.home pool left taken a b
    → AreHeaded o newest fs taken → AllByRecursion (λ h. IsTrue (is_legal_header h.header)) taken → b.now.answered ≡ a.now.answered
answered_all o pool left [] fs newest a b t headed legal = ap (λ (c : Content). c.now.answered) t.1
answered_all o pool left (h ∷ taken) [] newest a b t headed legal = absurd headed
answered_all o pool left (h ∷ taken) (f ∷ fs) newest a b t headed legal =
    answered_all o t.0 left taken fs (newest + 1) t.1 b t.3 headed.1 legal.1
    ∙ answered_after o.home pool t.0 h a t.1 t.2 legal.0 (ap (λ (x : FileHeader). x.part) headed.0) (ap (λ (x : FileHeader). x.kib) headed.0)
