-- Dead files go back to their pool, one after another: the journal says the same queue before and after each.
use Rattle.std.proofs.Common.{◌≡◌, inl, ℕ, suc, ◌+◌, ◌-◌, ◌<◌, ◌≤◌, Bool, true, false, cond, nat_lt, List, [], ◌∷◌, ◌++◌, length, drop, refl, sym, ap, ◌∙◌, subst, arith}
use Rattle.std.proofs.lemmas.Bool.Decides.{nat_tests}
use Rattle.qls_site.specs.declared.site.SiteError.{SiteError}
use Rattle.qls_site.specs.Disk.{Disk, IsQuiet, full_file}
use Rattle.qls_site.specs.Content.{Moment, Content, Acts, MayAct}
use Rattle.qls_filehdr.specs.declared.FileHeader.{FileHeader}
use Rattle.qls_filehdr.specs.declared.JournalKind.TheVariants.{Queue}
use Rattle.qls_enqmap.specs.declared.Held.{Held}
use Rattle.qls_enqmap.specs.Records.{least_file}
use Rattle.qls_meaning.specs.Journals.{Headed, headed}
use Rattle.qls_meaning.specs.Dead.{oldest_number, has_dead_oldest, first_is_dead, is_dead}
use Rattle.qls_meaning.specs.Orderly.{journal_on}
use Rattle.qls_pool.specs.Files.{HeadedFile}
use Rattle.qls_pool.specs.Taking.{put_back}
use Rattle.qls_pool.specs.Moments.{Passes, Arrives}
use Rattle.qls_pool.proofs.Moments.{Arrives-then, Arrives-passes, Arrives-acts, Arrives-same, Passes-may, Passes-leads}
use Rattle.qls_log.specs.Logs.{LogState, IsSound, NumberedFrom, capacity_in}
use Rattle.qls_log.specs.Standing.{LogThere, AreThoseFiles, files_on}
use Rattle.qls_log.specs.Leaving.{LeavesInOrder}
use Rattle.qls_log.specs.Returning.{with_back, with_backs, before_number, StopsBack}
use Rattle.qls_log.proofs.Older.{those_count}
use Rattle.qls_queue.specs.Live.{live}
use Rattle.qls_queue.specs.Releasing.{file_or, IsQueueWhole, IsQueueClean}
use Rattle.qls_queue.proofs.HeldFiles.{AboveFile, before_least}
use Rattle.qls_queue.proofs.DeadFiles.{oldest_dead, only_alive, oldest_alive, sound_without, whole_without}
use Rattle.qls_queue.proofs.Unlinked.{old_file, old_found, old_number, old_rests, unlinked, there_without, leaves_none, leaves_one, quiet_without}

-- ---- which files

-- these are the first of the files, each with a lesser number, and not all of them
abbrev pub FirstBelow : ℕ → List HeadedFile → List HeadedFile → Type 0
FirstBelow n fs [] = Unit {0}
FirstBelow n [] (d ∷ ds) = ⊥
FirstBelow n (f ∷ []) (d ∷ ds) = ⊥
FirstBelow n (f ∷ g ∷ fs) (d ∷ ds) = (d ≡ f) × (f.header.number < n) × FirstBelow n (g ∷ fs) ds

pub lesser : (m n : ℕ) → nat_lt m n ≡ true → m < n
lesser m n e = grind (arith, nat_tests, e)

not_lesser : (m n : ℕ) → nat_lt m n ≡ false → n ≤ m
not_lesser m n e = grind (arith, nat_tests, e)

pub first_below : (n : ℕ) (fs : List HeadedFile) → FirstBelow n fs (before_number n fs)
first_below n [] = tt
first_below n (f ∷ []) = tt
first_below n (f ∷ g ∷ fs) = by (nat_lt f.header.number n) refl (first_below n (g ∷ fs))
  where
    by : (b : Bool) → nat_lt f.header.number n ≡ b → FirstBelow n (g ∷ fs) (before_number n (g ∷ fs)) → FirstBelow n (f ∷ g ∷ fs) (cond b (f ∷ before_number n (g ∷ fs)) [])
    by true e rest = (refl, lesser f.header.number n e, rest)
    by false e rest = tt

-- the files before one of them, and that one
below_parts : (n : ℕ) (fs xs ys : List HeadedFile) → FirstBelow n fs (xs ++ ys) → FirstBelow n fs xs × FirstBelow n (drop (length xs) fs) ys
below_parts n fs [] ys h = (tt, h)
below_parts n [] (x ∷ xs) ys h = absurd h
below_parts n (f ∷ []) (x ∷ xs) ys h = absurd h
below_parts n (f ∷ g ∷ fs) (x ∷ xs) ys h = let rest = below_parts n (g ∷ fs) xs ys h.2 in ((h.0, h.1, rest.0), rest.1)

pub shorter : (n : ℕ) (fs ds : List HeadedFile) → 0 < length fs → FirstBelow n fs ds → length ds < length fs
shorter n fs [] some h = some
shorter n [] (d ∷ ds) some h = absurd h
shorter n (f ∷ []) (d ∷ ds) some h = absurd h
shorter n (f ∷ g ∷ fs) (d ∷ ds) some h = let rest = shorter n (g ∷ fs) ds (omega arith) h.2 in omega (arith, rest)

-- no more files go: the oldest is the newest, or has a number that isn't lesser
abbrev pub Stops : ℕ → List HeadedFile → Type 0
Stops n [] = ⊥
Stops n (f ∷ []) = Unit {0}
Stops n (f ∷ g ∷ fs) = n ≤ f.header.number

pub stops : (n : ℕ) (fs : List HeadedFile) → 0 < length fs → Stops n (drop (length (before_number n fs)) fs)
stops n [] some = absurd (omega (arith, some))
stops n (f ∷ []) some = tt
stops n (f ∷ g ∷ fs) some = by (nat_lt f.header.number n) refl (stops n (g ∷ fs) (omega arith))
  where
    by : (b : Bool) → nat_lt f.header.number n ≡ b → Stops n (drop (length (before_number n (g ∷ fs))) (g ∷ fs)) → Stops n (drop (length (cond b (f ∷ before_number n (g ∷ fs)) [])) (f ∷ g ∷ fs))
    by true e rest = rest
    by false e rest = not_lesser f.header.number n e

numbered_up : (k last : ℕ) (fs : List HeadedFile) → NumberedFrom k fs last → k ≤ last + 1
numbered_up k last [] h = omega (arith, h)
numbered_up k last (f ∷ fs) h = let rest = numbered_up (k + 1) last fs h.1 in omega (arith, rest)

below_last : (k last : ℕ) (f g : HeadedFile) (fs : List HeadedFile) → NumberedFrom k (f ∷ g ∷ fs) last → f.header.number < last
below_last k last f g fs h = let up : k + 1 + 1 ≤ last + 1 = numbered_up (k + 1 + 1) last fs h.1.1 in omega (arith, up, h.0)

-- where only the newest is needed, only one file is left
pub one_stays : (n k last : ℕ) (fs : List HeadedFile) → n ≡ last → NumberedFrom k fs last → Stops n fs → length fs ≡ 1
one_stays n k last [] e m s = absurd s
one_stays n k last (f ∷ []) e m s = refl
one_stays n k last (f ∷ g ∷ fs) e m s = let less = below_last k last f g fs m in absurd (omega (arith, e, s, less))

some_file : (cap : ℕ) (h : HeadedFile) (hs : List HeadedFile) (fs : List Headed) → AreThoseFiles cap (h ∷ hs) fs → (f : Headed) × (rest : List Headed) × (fs ≡ f ∷ rest) × (f.header.number ≡ h.header.number) × AreThoseFiles cap hs rest
some_file cap h hs [] t = absurd t
some_file cap h hs (f ∷ fs) t = (f, fs, refl, ap (λ (x : FileHeader). x.number) t.0.header, t.1)

-- nothing is pending after a relocation
pub quiet_after : (ds : List HeadedFile) (x : Content) → IsQuiet x.now.disk → IsQuiet (with_backs ds x).now.disk
quiet_after [] x q = q
quiet_after (d ∷ ds) x q = quiet_after ds (with_back d x) (quiet_without d x.now.disk q)

-- ---- between the calls

-- the log with these files, of which so many are older ones
abbrev pub with_files : LogState → ℕ → List HeadedFile → LogState
with_files l older fs = record l { files = fs; older = older }

there_so : (l : LogState) (m n : ℕ) (fs : List HeadedFile) (d : Disk) → LogThere (with_files l m fs) d → LogThere (with_files l n fs) d
there_so l m n fs d t = record { waiting = t.waiting; there = t.there; rests = t.rests }

-- it stands on the disk, and its journal is whole
pub record Ready (l : LogState) (held : List Held) (b : Bool) (older : ℕ) (fs : List HeadedFile) (d : Disk) : Type 0 where
  pub sound : IsSound (with_files l older fs)
  pub there : LogThere (with_files l older fs) d
  pub whole : IsQueueWhole (live (with_files l older fs) held b) d

module _ (l : LogState) (held : List Held) (b : Bool) (kind : l.opening.kind ≡ Queue) (flushed : l.unsynced ≡ []) where
  module _ (older : ℕ) (f g : HeadedFile) (fs : List HeadedFile) (m : Moment) (above : AboveFile f.header.number held) (r : Ready l held b older (f ∷ g ∷ fs) m.disk) where
    abbrev log : LogState
    log = with_files l older (f ∷ g ∷ fs)

    abbrev after : Moment
    after = put_back f.id f.header m

    abbrev oldest : Headed
    oldest = headed (full_file (old_file log f (g ∷ fs) m.disk r.sound r.there))

    files_are : files_on l.opening m.disk ≡ oldest ∷ files_on l.opening after.disk
    files_are = unlinked log f (g ∷ fs) m.disk r.sound r.there

    there_after : LogThere (with_files l (older - 1) (g ∷ fs)) after.disk
    there_after = there_so l older (older - 1) (g ∷ fs) after.disk (there_without log f (g ∷ fs) m.disk r.sound r.there flushed)

    dead : is_dead (journal_on m.disk l.opening.kind l.opening.name) oldest ≡ true
    dead =
        let second = some_file (capacity_in l.opening) g fs (files_on l.opening after.disk) there_after.there.files in
        oldest_dead log held b m.disk kind r.sound r.there r.whole oldest second.0 second.1 (files_are ∙ ap (λ (xs : List Headed). oldest ∷ xs) second.2)
        (subst (λ n. AboveFile n held) (sym (old_number log f (g ∷ fs) m.disk r.sound r.there)) above)

    pub has_dead : has_dead_oldest (journal_on m.disk l.opening.kind l.opening.name) ≡ true
    has_dead = ap (first_is_dead (journal_on m.disk l.opening.kind l.opening.name)) files_are ∙ dead

    is : files_on l.opening after.disk ≡ drop 1 (files_on l.opening m.disk)
    is = sym (ap (drop 1) files_are)

    count : length (files_on l.opening m.disk) ≡ length log.files
    count = those_count (capacity_in l.opening) log.files (files_on l.opening m.disk) r.there.there.files

    ready_next : Ready l held b (older - 1) (g ∷ fs) after.disk
    ready_next = record {
      sound = sound_without log held b m.disk kind r.sound r.there r.whole after.disk (omega arith) flushed is count has_dead;
      there = there_after;
      whole = whole_without log held b m.disk kind r.sound r.there r.whole after.disk (omega arith) flushed is count has_dead;
    }

    dead_leaves : IsQuiet m.disk → LeavesInOrder m after
    dead_leaves quiet =
        leaves_one l.opening f m (old_file log f (g ∷ fs) m.disk r.sound r.there) quiet r.there.there.differ (old_found log f (g ∷ fs) m.disk r.sound r.there) (old_rests log f (g ∷ fs) m.disk r.sound r.there flushed) r.sound.legal.0 r.sound.all.0
        (inl (sym (ap oldest_number files_are), dead))

  -- ---- in a row

  abbrev pub needed : ℕ
  needed = file_or l.newest (least_file held)

  pub above_all : (f : HeadedFile) → f.header.number < needed → AboveFile f.header.number held
  above_all f less = before_least f.header.number l.newest held less

  pub ready_after : (ds : List HeadedFile) (older : ℕ) (fs : List HeadedFile) (x : Content) → FirstBelow needed fs ds → Ready l held b older fs x.now.disk
      → Ready l held b (older - length ds) (drop (length ds) fs) (with_backs ds x).now.disk
  ready_after [] older fs x h r = subst (λ n. Ready l held b n fs x.now.disk) (less_none older) r
    where
      less_none : (n : ℕ) → n ≡ n - 0
      less_none n = omega arith
  ready_after (d ∷ ds) older [] x h r = absurd h
  ready_after (d ∷ ds) older (f ∷ []) x h r = absurd h
  ready_after (d ∷ ds) older (f ∷ g ∷ fs) x h r =
      subst (λ (e : HeadedFile). Ready l held b (older - length (d ∷ ds)) (drop (length ds) (g ∷ fs)) (with_backs ds (with_back e x)).now.disk) (sym h.0)
      (subst (λ n. Ready l held b n (drop (length ds) (g ∷ fs)) (with_backs ds (with_back f x)).now.disk) (one_more older (length ds))
      (ready_after ds (older - 1) (g ∷ fs) (with_back f x) h.2 (ready_next older f g fs x.now (above_all f h.1) r)))
    where
      one_more : (n k : ℕ) → n - 1 - k ≡ n - suc k
      one_more n k = omega arith

  pub all_leave : (ds : List HeadedFile) (older : ℕ) (fs : List HeadedFile) (x : Content) → FirstBelow needed fs ds → Ready l held b older fs x.now.disk → IsQuiet x.now.disk → Arrives LeavesInOrder x (with_backs ds x)
  all_leave [] older fs x h r q = Arrives-same LeavesInOrder x x refl
  all_leave (d ∷ ds) older [] x h r q = absurd h
  all_leave (d ∷ ds) older (f ∷ []) x h r q = absurd h
  all_leave (d ∷ ds) older (f ∷ g ∷ fs) x h r q =
      subst (λ (e : HeadedFile). Arrives LeavesInOrder x (with_backs ds (with_back e x))) (sym h.0)
      (Arrives-then LeavesInOrder x (with_back f x) (with_backs ds (with_back f x))
      (Arrives-acts LeavesInOrder (put_back f.id f.header) x (with_back f x) (dead_leaves older f g fs x.now (above_all f h.1) r q) refl)
      (all_leave ds (older - 1) (g ∷ fs) (with_back f x) h.2 (ready_next older f g fs x.now (above_all f h.1) r) (quiet_without f x.now.disk q)))

  -- the next one may have left
  next_leaves : (d : HeadedFile) (older : ℕ) (fs : List HeadedFile) (x : Content) → FirstBelow needed fs (d ∷ []) → Ready l held b older fs x.now.disk → IsQuiet x.now.disk → LeavesInOrder x.now (put_back d.id d.header x.now)
  next_leaves d older [] x h r q = absurd h
  next_leaves d older (f ∷ []) x h r q = absurd h
  next_leaves d older (f ∷ g ∷ fs) x h r q = subst (λ (e : HeadedFile). LeavesInOrder x.now (put_back e.id e.header x.now)) (sym h.0) (dead_leaves older f g fs x.now (above_all f h.1) r q)

  pub stopped_leave : (ds : List HeadedFile) (e : SiteError) (x y : Content) → FirstBelow needed l.files ds → StopsBack ds e x y → Ready l held b l.older l.files x.now.disk → IsQuiet x.now.disk → Passes LeavesInOrder x y
  stopped_leave ds e x y h s r q =
      let z : Content = with_backs s.before x in
      let parts = below_parts needed l.files s.before (s.file ∷ s.after) (subst (FirstBelow needed l.files) s.is h) in
      let one = (below_parts needed (drop (length s.before) l.files) (s.file ∷ []) s.after parts.1).0 in
      let older : ℕ = l.older - length s.before in
      let now : Ready l held b older (drop (length s.before) l.files) z.now.disk = ready_after s.before l.older l.files x parts.0 r in
      let quiet : IsQuiet z.now.disk = quiet_after s.before x q in
      Arrives-passes LeavesInOrder x z y (all_leave s.before l.older l.files x parts.0 r q)
      (Passes-leads LeavesInOrder (Unit {0}) (Acts (put_back s.file.id s.file.header)) (MayAct (put_back s.file.id s.file.header)) e z y
      (λ may. Passes-may LeavesInOrder (put_back s.file.id s.file.header) z y (leaves_none z.now now.there.there.differ) (next_leaves s.file older (drop (length s.before) l.files) z one now quiet) may) s.fails)

  -- ---- at the end

  alive_after : (older : ℕ) (fs : List HeadedFile) (d : Disk) → Stops needed fs → Ready l held b older fs d → has_dead_oldest (journal_on d l.opening.kind l.opening.name) ≡ false
  alive_after older [] d s r = absurd s
  alive_after older (f ∷ []) d s r =
      let only = some_file (capacity_in l.opening) f [] (files_on l.opening d) r.there.there.files in
      only_alive (with_files l older (f ∷ [])) held b d kind r.sound r.there r.whole only.0 (only.2 ∙ ap (λ (xs : List Headed). only.0 ∷ xs) (none_more (capacity_in l.opening) only.1 only.4))
    where
      none_more : (cap : ℕ) (xs : List Headed) → AreThoseFiles cap [] xs → xs ≡ []
      none_more cap [] t = refl
      none_more cap (x ∷ xs) t = absurd t
  alive_after older (f ∷ g ∷ fs) d s r =
      let first = some_file (capacity_in l.opening) f (g ∷ fs) (files_on l.opening d) r.there.there.files in
      let less : f.header.number < l.newest = below_last _ l.newest f g fs r.sound.numbers in
      oldest_alive (with_files l older (f ∷ g ∷ fs)) held b d kind r.sound r.there r.whole l.newest first.0 first.1 first.2 (omega (arith, first.3, less)) (subst (λ n. needed ≤ n) (sym first.3) s)

  pub clean_after : (older : ℕ) (fs : List HeadedFile) (d : Disk) → Stops needed fs → Ready l held b older fs d → IsQueueClean (live (with_files l older fs) held b) d
  clean_after older fs d s r = record { whole = r.whole; alive = alive_after older fs d s r }
