-- Dead files go back to their pool, one after another: the journal says the same entries before and after each.
use Rattle.std.proofs.Common.{◌≡◌, inl, ℕ, suc, ◌+◌, ◌-◌, ◌<◌, ◌≤◌, Bool, true, false, cond, nat_lt, List, [], ◌∷◌, ◌++◌, length, drop, refl, sym, ap, ◌∙◌, subst, arith}
use Rattle.std.proofs.lemmas.Bool.Decides.{nat_tests}
use Rattle.qls_site.specs.declared.site.SiteError.{SiteError}
use Rattle.qls_site.specs.Disk.{Disk, IsQuiet, full_file}
use Rattle.qls_site.specs.Content.{Moment, Content, Acts, MayAct}
use Rattle.qls_filehdr.specs.declared.FileHeader.{FileHeader}
use Rattle.qls_decide.specs.declared.ListEntry.{ListEntry}
use Rattle.qls_filehdr.specs.declared.JournalKind.TheVariants as journal
use Rattle.qls_enqmap.specs.declared.Held.{Held}
use Rattle.qls_enqmap.specs.Records.{least_file}
use Rattle.qls_meaning.specs.Journals.{Headed, headed}
use Rattle.qls_meaning.specs.Dead.{oldest_number, has_dead_oldest, first_is_dead, is_dead}
use Rattle.qls_meaning.specs.Orderly.{journal_on}
use Rattle.qls_pool.specs.Files.{HeadedFile}
use Rattle.qls_pool.specs.Taking.{put_back}
use Rattle.qls_pool.specs.Moments.{Passes, Arrives}
use Rattle.qls_pool.proofs.Moments.{Arrives-then, Arrives-passes, Arrives-acts, Arrives-same, Passes-may, Passes-leads}
use Rattle.qls_log.specs.Logs.{LogState, IsSound, NumberedFrom, capacity_in}
use Rattle.qls_log.specs.Standing.{LogThere, AreThoseFiles, files_on}
use Rattle.qls_log.specs.Leaving.{LeavesInOrder}
use Rattle.qls_log.specs.Returning.{with_back, with_backs, before_number, StopsBack}
use Rattle.qls_prepared.specs.Lists.{IsReadSo}
use Rattle.qls_prepared.specs.Releasing.{file_or, IsReadClean}
use Rattle.qls_prepared.proofs.HeldFiles.{AboveFile, before_least}
use Rattle.qls_prepared.proofs.DeadFiles.{oldest_dead, only_alive, oldest_alive, sound_without, whole_without}
use Rattle.qls_prepared.proofs.Unlinked.{old_file, old_found, old_number, old_rests, unlinked, there_without, leaves_none, leaves_one, quiet_without}

-- ---- which files

-- these are the first of the files, each with a lesser number, and not all of them
abbrev pub FirstBelow : ℕ → List HeadedFile → List HeadedFile → Type 0
FirstBelow n fs [] = Unit {0}
FirstBelow n [] (d ∷ ds) = ⊥
FirstBelow n (f ∷ []) (d ∷ ds) = ⊥
FirstBelow n (f ∷ g ∷ fs) (d ∷ ds) = (d ≡ f) × (f.header.number < n) × FirstBelow n (g ∷ fs) ds

pub lesser : (m n : ℕ) → nat_lt m n ≡ true → m < n
lesser m n e = grind (arith, nat_tests, e)

not_lesser : (m n : ℕ) → nat_lt m n ≡ false → n ≤ m
not_lesser m n e = grind (arith, nat_tests, e)

pub first_below : (n : ℕ) (fs : List HeadedFile) → FirstBelow n fs (before_number n fs)
first_below n [] = tt
first_below n (f ∷ []) = tt
first_below n (f ∷ g ∷ fs) = by (nat_lt f.header.number n) refl (first_below n (g ∷ fs))
  where
    by : (b : Bool) → nat_lt f.header.number n ≡ b → FirstBelow n (g ∷ fs) (before_number n (g ∷ fs)) → FirstBelow n (f ∷ g ∷ fs) (cond b (f ∷ before_number n (g ∷ fs)) [])
    by true e rest = (refl, lesser f.header.number n e, rest)
    by false e rest = tt

-- the files before one of them, and that one
below_parts : (n : ℕ) (fs xs ys : List HeadedFile) → FirstBelow n fs (xs ++ ys) → FirstBelow n fs xs × FirstBelow n (drop (length xs) fs) ys
below_parts n fs [] ys h = (tt, h)
below_parts n [] (x ∷ xs) ys h = absurd h
below_parts n (f ∷ []) (x ∷ xs) ys h = absurd h
below_parts n (f ∷ g ∷ fs) (x ∷ xs) ys h = let rest = below_parts n (g ∷ fs) xs ys h.2 in ((h.0, h.1, rest.0), rest.1)

pub shorter : (n : ℕ) (fs ds : List HeadedFile) → 0 < length fs → FirstBelow n fs ds → length ds < length fs
shorter n fs [] some h = some
shorter n [] (d ∷ ds) some h = absurd h
shorter n (f ∷ []) (d ∷ ds) some h = absurd h
shorter n (f ∷ g ∷ fs) (d ∷ ds) some h = let rest = shorter n (g ∷ fs) ds (omega arith) h.2 in omega (arith, rest)

-- no more files go: the oldest is the newest, or has a number that isn't lesser
abbrev pub Stops : ℕ → List HeadedFile → Type 0
Stops n [] = ⊥
Stops n (f ∷ []) = Unit {0}
Stops n (f ∷ g ∷ fs) = n ≤ f.header.number

pub stops : (n : ℕ) (fs : List HeadedFile) → 0 < length fs → Stops n (drop (length (before_number n fs)) fs)
stops n [] some = absurd (omega (arith, some))
stops n (f ∷ []) some = tt
stops n (f ∷ g ∷ fs) some = by (nat_lt f.header.number n) refl (stops n (g ∷ fs) (omega arith))
  where
    by : (b : Bool) → nat_lt f.header.number n ≡ b → Stops n (drop (length (before_number n (g ∷ fs))) (g ∷ fs)) → Stops n (drop (length (cond b (f ∷ before_number n (g ∷ fs)) [])) (f ∷ g ∷ fs))
    by true e rest = rest
    by false e rest = not_lesser f.header.number n e

numbered_up : (k last : ℕ) (fs : List HeadedFile) → NumberedFrom k fs last → k ≤ last + 1
numbered_up k last [] h = omega (arith, h)
numbered_up k last (f ∷ fs) h = let rest = numbered_up (k + 1) last fs h.1 in omega (arith, rest)

below_last : (k last : ℕ) (f g : HeadedFile) (fs : List HeadedFile) → NumberedFrom k (f ∷ g ∷ fs) last → f.header.number < last
below_last k last f g fs h = let up : k + 1 + 1 ≤ last + 1 = numbered_up (k + 1 + 1) last fs h.1.1 in omega (arith, up, h.0)

-- where only the newest is needed, only one file is left
pub one_stays : (n k last : ℕ) (fs : List HeadedFile) → n ≡ last → NumberedFrom k fs last → Stops n fs → length fs ≡ 1
one_stays n k last [] e m s = absurd s
one_stays n k last (f ∷ []) e m s = refl
one_stays n k last (f ∷ g ∷ fs) e m s = let less = below_last k last f g fs m in absurd (omega (arith, e, s, less))

some_file : (cap : ℕ) (h : HeadedFile) (hs : List HeadedFile) (fs : List Headed) → AreThoseFiles cap (h ∷ hs) fs → (f : Headed) × (rest : List Headed) × (fs ≡ f ∷ rest) × (f.header.number ≡ h.header.number) × AreThoseFiles cap hs rest
some_file cap h hs [] t = absurd t
some_file cap h hs (f ∷ fs) t = (f, fs, refl, ap (λ (x : FileHeader). x.number) t.0.header, t.1)

-- nothing is pending after a relocation
pub quiet_after : (ds : List HeadedFile) (x : Content) → IsQuiet x.now.disk → IsQuiet (with_backs ds x).now.disk
quiet_after [] x q = q
quiet_after (d ∷ ds) x q = quiet_after ds (with_back d x) (quiet_without d x.now.disk q)

-- ---- between the calls

none_less : (n : ℕ) → n ≡ n - 0
none_less n = omega arith

one_less : (n k : ℕ) → n - 1 - k ≡ n - suc k
one_less n k = omega arith

-- the log with these files, so many of them of earlier openings, stands on the disk, and its journal is whole
pub record Ready (l : LogState) (es : List ListEntry) (held : List Held) (n : ℕ) (fs : List HeadedFile) (d : Disk) : Type 0 where
  pub sound : IsSound (record l { files = fs; older = n })
  pub there : LogThere (record l { files = fs; older = n }) d
  pub whole : IsReadSo (record l { files = fs; older = n }) es held d

module _ (l : LogState) (es : List ListEntry) (held : List Held) (kind : l.opening.kind ≡ journal.List) (flushed : l.unsynced ≡ []) where
  module _ (n : ℕ) (f g : HeadedFile) (fs : List HeadedFile) (m : Moment) (above : AboveFile f.header.number held) (r : Ready l es held n (f ∷ g ∷ fs) m.disk) where
    abbrev log : LogState
    log = record l { files = f ∷ g ∷ fs; older = n }

    abbrev after : Moment
    after = put_back f.id f.header m

    abbrev oldest : Headed
    oldest = headed (full_file (old_file log f (g ∷ fs) m.disk r.sound r.there))

    files_are : files_on l.opening m.disk ≡ oldest ∷ files_on l.opening after.disk
    files_are = unlinked log f (g ∷ fs) m.disk r.sound r.there

    there_after : LogThere (record l { files = g ∷ fs; older = n - 1 }) after.disk
    there_after = there_without log f (g ∷ fs) m.disk r.sound r.there (n - 1) flushed

    dead : is_dead (journal_on m.disk l.opening.kind l.opening.name) oldest ≡ true
    dead =
        let second = some_file (capacity_in l.opening) g fs (files_on l.opening after.disk) there_after.there.files in
        oldest_dead log es held m.disk kind r.sound r.there r.whole oldest second.0 second.1 (files_are ∙ ap (λ (xs : List Headed). oldest ∷ xs) second.2)
        (subst (λ n. AboveFile n held) (sym (old_number log f (g ∷ fs) m.disk r.sound r.there)) above)

    pub has_dead : has_dead_oldest (journal_on m.disk l.opening.kind l.opening.name) ≡ true
    has_dead = ap (first_is_dead (journal_on m.disk l.opening.kind l.opening.name)) files_are ∙ dead

    is : files_on l.opening after.disk ≡ drop 1 (files_on l.opening m.disk)
    is = sym (ap (drop 1) files_are)

    above_oldest : AboveFile (oldest_number (files_on l.opening m.disk)) held
    above_oldest = subst (λ n. AboveFile n held) (sym (ap oldest_number files_are ∙ old_number log f (g ∷ fs) m.disk r.sound r.there)) above

    ready_next : Ready l es held (n - 1) (g ∷ fs) after.disk
    ready_next = record {
      sound = sound_without log es held m.disk kind r.sound r.there r.whole after.disk (omega arith) flushed is has_dead above_oldest;
      there = there_after;
      whole = whole_without log es held m.disk kind r.sound r.there r.whole after.disk (omega arith) flushed is has_dead above_oldest;
    }

    dead_leaves : IsQuiet m.disk → LeavesInOrder m after
    dead_leaves quiet =
        leaves_one l.opening f m (old_file log f (g ∷ fs) m.disk r.sound r.there) quiet r.there.there.differ (old_found log f (g ∷ fs) m.disk r.sound r.there) (old_rests log f (g ∷ fs) m.disk r.sound r.there flushed) r.sound.legal.0 r.sound.all.0
        (inl (sym (ap oldest_number files_are), dead))

  -- ---- in a row

  abbrev needed : ℕ
  needed = file_or l.newest (least_file held)

  pub above_all : (f : HeadedFile) → f.header.number < needed → AboveFile f.header.number held
  above_all f less = before_least f.header.number l.newest held less

  pub ready_after : (ds fs : List HeadedFile) (n : ℕ) (x : Content) → FirstBelow needed fs ds → Ready l es held n fs x.now.disk → Ready l es held (n - length ds) (drop (length ds) fs) (with_backs ds x).now.disk
  ready_after [] fs n x h r = subst (λ k. Ready l es held k fs x.now.disk) (none_less n) r
  ready_after (d ∷ ds) [] n x h r = absurd h
  ready_after (d ∷ ds) (f ∷ []) n x h r = absurd h
  ready_after (d ∷ ds) (f ∷ g ∷ fs) n x h r =
      subst (λ (e : HeadedFile). Ready l es held (n - suc (length ds)) (drop (length ds) (g ∷ fs)) (with_backs ds (with_back e x)).now.disk) (sym h.0)
      (subst (λ k. Ready l es held k (drop (length ds) (g ∷ fs)) (with_backs ds (with_back f x)).now.disk) (one_less n (length ds)) (ready_after ds (g ∷ fs) (n - 1) (with_back f x) h.2 (ready_next n f g fs x.now (above_all f h.1) r)))

  pub all_leave : (ds fs : List HeadedFile) (n : ℕ) (x : Content) → FirstBelow needed fs ds → Ready l es held n fs x.now.disk → IsQuiet x.now.disk → Arrives LeavesInOrder x (with_backs ds x)
  all_leave [] fs n x h r q = Arrives-same LeavesInOrder x x refl
  all_leave (d ∷ ds) [] n x h r q = absurd h
  all_leave (d ∷ ds) (f ∷ []) n x h r q = absurd h
  all_leave (d ∷ ds) (f ∷ g ∷ fs) n x h r q =
      subst (λ (e : HeadedFile). Arrives LeavesInOrder x (with_backs ds (with_back e x))) (sym h.0)
      (Arrives-then LeavesInOrder x (with_back f x) (with_backs ds (with_back f x))
      (Arrives-acts LeavesInOrder (put_back f.id f.header) x (with_back f x) (dead_leaves n f g fs x.now (above_all f h.1) r q) refl)
      (all_leave ds (g ∷ fs) (n - 1) (with_back f x) h.2 (ready_next n f g fs x.now (above_all f h.1) r) (quiet_without f x.now.disk q)))

  -- the next one may have left
  next_leaves : (d : HeadedFile) (fs : List HeadedFile) (n : ℕ) (x : Content) → FirstBelow needed fs (d ∷ []) → Ready l es held n fs x.now.disk → IsQuiet x.now.disk → LeavesInOrder x.now (put_back d.id d.header x.now)
  next_leaves d [] n x h r q = absurd h
  next_leaves d (f ∷ []) n x h r q = absurd h
  next_leaves d (f ∷ g ∷ fs) n x h r q = subst (λ (e : HeadedFile). LeavesInOrder x.now (put_back e.id e.header x.now)) (sym h.0) (dead_leaves n f g fs x.now (above_all f h.1) r q)

  pub stopped_leave : (ds : List HeadedFile) (e : SiteError) (x y : Content) → FirstBelow needed l.files ds → StopsBack ds e x y → Ready l es held l.older l.files x.now.disk → IsQuiet x.now.disk → Passes LeavesInOrder x y
  stopped_leave ds e x y h s r q =
      let z : Content = with_backs s.before x in
      let parts = below_parts needed l.files s.before (s.file ∷ s.after) (subst (FirstBelow needed l.files) s.is h) in
      let one = (below_parts needed (drop (length s.before) l.files) (s.file ∷ []) s.after parts.1).0 in
      let now : Ready l es held (l.older - length s.before) (drop (length s.before) l.files) z.now.disk = ready_after s.before l.files l.older x parts.0 r in
      let quiet : IsQuiet z.now.disk = quiet_after s.before x q in
      Arrives-passes LeavesInOrder x z y (all_leave s.before l.files l.older x parts.0 r q)
      (Passes-leads LeavesInOrder (Unit {0}) (Acts (put_back s.file.id s.file.header)) (MayAct (put_back s.file.id s.file.header)) e z y
      (λ may. Passes-may LeavesInOrder (put_back s.file.id s.file.header) z y (leaves_none z.now now.there.there.differ) (next_leaves s.file (drop (length s.before) l.files) (l.older - length s.before) z one now quiet) may) s.fails)

  -- ---- at the end

  alive_after : (n : ℕ) (fs : List HeadedFile) (d : Disk) → Stops needed fs → Ready l es held n fs d → has_dead_oldest (journal_on d l.opening.kind l.opening.name) ≡ false
  alive_after n [] d s r = absurd s
  alive_after n (f ∷ []) d s r =
      let only = some_file (capacity_in l.opening) f [] (files_on l.opening d) r.there.there.files in
      only_alive (record l { files = f ∷ []; older = n }) es held d kind r.sound r.there r.whole only.0 (only.2 ∙ ap (λ (xs : List Headed). only.0 ∷ xs) (none_more (capacity_in l.opening) only.1 only.4))
    where
      none_more : (cap : ℕ) (xs : List Headed) → AreThoseFiles cap [] xs → xs ≡ []
      none_more cap [] t = refl
      none_more cap (x ∷ xs) t = absurd t
  alive_after n (f ∷ g ∷ fs) d s r =
      let first = some_file (capacity_in l.opening) f (g ∷ fs) (files_on l.opening d) r.there.there.files in
      let less : f.header.number < l.newest = below_last _ l.newest f g fs r.sound.numbers in
      oldest_alive (record l { files = f ∷ g ∷ fs; older = n }) es held d kind r.sound r.there r.whole l.newest first.0 first.1 first.2 (omega (arith, first.3, less)) (subst (λ n. needed ≤ n) (sym first.3) s)

  pub clean_after : (n : ℕ) (fs : List HeadedFile) (d : Disk) → Stops needed fs → Ready l es held n fs d → IsReadClean (record l { files = fs; older = n }) es held d
  clean_after n fs d s r = record { whole = r.whole; alive = alive_after n fs d s r }
