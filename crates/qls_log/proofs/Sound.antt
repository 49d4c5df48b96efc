-- A log's journal breaks no damage rule: as it is made, behind a batch, and once it is flushed.
use Rattle.std.proofs.Common.{◌≡◌, ℕ, ◌+◌, ◌-◌, ◌*◌, ◌/◌, ◌<◌, true, List, [], ◌∷◌, ◌++◌, map, length, Option, Some, None, IfSome, IsTrue, Result, Ok, refl, sym, ap, ◌∙◌, subst, arith}
use Rattle.std.specs.List.{AllByRecursion, filter}
use Rattle.qls_shape.specs.declared.Version.TheVariants.{Two}
use Rattle.qls_record.specs.Record.{Record, is_legal}
use Rattle.qls_site.specs.declared.site.SiteError.{SiteError}
use Rattle.qls_site.specs.Disk.{Disk, Image, full}
use Rattle.qls_site.specs.Content.{Content, Tells}
use Rattle.qls_filehdr.specs.declared.FileHeader.{FileHeader}
use Rattle.qls_filehdr.specs.declared.JournalKind.{JournalKind}
use Rattle.qls_filehdr.specs.Limits.{is_legal_header}
use Rattle.qls_meaning.specs.Journals.{Headed, journal, in_use, headed, epochs}
use Rattle.qls_meaning.specs.Reading.{Placed, end_from, first_place, epoch_reading, epoch_end, located, journal_reading}
use Rattle.qls_meaning.specs.Damage.{chain_claims, reading_claims, oldest_rid}
use Rattle.qls_meaning.specs.Dead.{past_in, past_files}
use Rattle.qls_meaning.specs.Spent.{rid_of_reads}
use Rattle.qls_meaning.specs.History.{AllUnmarked}
use Rattle.qls_epochs.proofs.Ended.{none_after}
use Rattle.qls_laws.proofs.Claimed.{HaveEpoch, InOrder, AllKeep, in_file, rules_kept, reading_of_run}
use Rattle.qls_blocks.specs.declared.plan.FreshFile.{FreshFile}
use Rattle.qls_blocks.specs.Batching.{length_of, last_rid, with_fillers}
use Rattle.qls_blocks.specs.Parts.{Syncs}
use Rattle.qls_blocks.specs.Plans.{plan_of}
use Rattle.qls_blocks.proofs.Spelling.{length-spelled_over}
use Rattle.qls_pool.specs.Pools.{PoolState}
use Rattle.qls_pool.specs.Files.{HeadedFile, IsPoolOf, OnDisk, Carries}
use Rattle.qls_log.specs.declared.opening.Opening.{Opening}
use Rattle.qls_log.specs.Logs.{LogState, IsSound, AreHeaded, capacity_in, ids, serials}
use Rattle.qls_log.specs.Taking.{TakesFiles}
use Rattle.qls_log.specs.Writing.{WritesAll, with_parts}
use Rattle.qls_log.specs.Standing.{files_on, end_of, LogThere}
use Rattle.qls_log.specs.Appending.{FollowRids, new_log, from_newest, batch_bytes, written_files, written_place, SyncsAll}
use Rattle.qls_log.specs.Reads.{IsRead, BeginsReading, ReadsOn}
use Rattle.qls_log.specs.Soundness.{IsUndamaged, BeginsUndamaged, StaysUndamaged}
use Rattle.qls_log.proofs.Gains.{unmarked_front}
use Rattle.qls_log.proofs.Appended.{sound_capacity}
use Rattle.qls_log.proofs.Stands.{Lies, lies, new_end}
use Rattle.qls_log.proofs.News.{those_one}
use Rattle.qls_log.proofs.Flushes.{flushed, same_seen, synced_some}
use Rattle.qls_log.proofs.Behind.{begins_at_front, Added, added_by, unmarked_first}
use Rattle.qls_log.proofs.Puts.{syncs_moments}
use Rattle.qls_log.proofs.SoundBatch.{stays_undamaged}

-- ---- a new log

none_read : (e : ℕ) (kind : JournalKind) (name : List ℕ) (fs : List Headed) → HaveEpoch e fs → 0 < length fs → journal_reading (record { kind = kind; name = name; files = fs }) ≡ [] → epoch_reading true fs ≡ []
none_read e kind name fs one some h = by (epoch_reading true fs) (sym (reading_of_run e kind name fs one some) ∙ h)
  where
    by : (rs : List Placed) → map (located fs) rs ≡ [] → rs ≡ []
    by [] k = refl
    by (r ∷ rs) k = absurd (cc)

nothing_broken : (begin end rid : ℕ) (f : Headed) (reads : List Placed) → reads ≡ [] → AllKeep begin end rid reads 0 (f ∷ [])
nothing_broken begin end rid f reads e = (
  record {
    first = λ l late. absurd (omega (arith, late));
    rid_is = λ l some. absurd (omega (arith, some));
    order = subst (λ (rs : List Placed). AllByRecursion (InOrder rid rs) (filter (in_file 0 (length f.area)) rs)) (sym e) tt;
  },
  tt,
)

-- one file of which nothing is read
begun : (o : Opening) (h : HeadedFile) (d : Disk) → h.header.rid ≡ 0 → LogThere (new_log o h) d → IsRead (new_log o h) [] d → IsUndamaged (new_log o h) d
begun o h d rid there read =
    let one = those_one (capacity_in o) h (files_on o d) there.there.files in
    let f : Headed = one.0 in
    let same : HaveEpoch f.header.epoch (files_on o d) = subst (HaveEpoch f.header.epoch) (sym one.1) (refl, tt) in
    let some : 0 < length (files_on o d) = subst (λ (fs : List Headed). 0 < length fs) (sym one.1) (omega arith) in
    let none : epoch_reading true (files_on o d) ≡ [] = none_read f.header.epoch o.kind o.name (files_on o d) same some read.reading in
    let keep : (fs : List Headed) → fs ≡ f ∷ [] → epoch_reading true fs ≡ [] → AllKeep (first_place fs) (end_from (first_place fs) (epoch_reading true fs)) (oldest_rid fs) (epoch_reading true fs) 0 fs =
    λ fs e n. subst (AllKeep (first_place fs) (end_from (first_place fs) (epoch_reading true fs)) (oldest_rid fs) (epoch_reading true fs) 0) (sym e) (nothing_broken (first_place fs) (end_from (first_place fs) (epoch_reading true fs)) (oldest_rid fs) f (epoch_reading true fs) n) in
    record {
      chain = ap chain_claims one.1;
      reading = rules_kept f.header.epoch o.kind o.name (files_on o d) same (keep (files_on o d) one.1 none);
      past = ap (λ (fs : List Headed). past_in true (epochs fs)) one.1 ∙ none_after (epoch_end true (f ∷ [])) (f ∷ []) (omega arith);
      rid = ap (rid_of_reads (oldest_rid (files_on o d))) read.reading ∙ ap oldest_rid one.1 ∙ ap (λ (x : FileHeader). x.rid) one.2.header ∙ rid;
    }

pub told_begun : (o : Opening) (h : HeadedFile) (a b : Option Content) → AreHeaded o 0 (record { first = 4096; rid = 0 } ∷ []) (h ∷ []) → IfSome b (OnDisk (LogThere (new_log o h))) → Tells (BeginsReading (new_log o h)) a b
    → Tells (BeginsUndamaged (new_log o h)) a b
told_begun o h None None t there r = tt
told_begun o h None (Some y) t there r = absurd r
told_begun o h (Some x) None t there r = absurd r
told_begun o h (Some x) (Some y) t there r = λ u. begun o h y.now.disk (ap (λ (k : FileHeader). k.rid) t.0) there (r u)

-- ---- told

module _ (l : LogState) (sound : IsSound l) (flushed : l.unsynced ≡ []) (pool left : PoolState) (taken : List HeadedFile) (fs : List FreshFile) (headers : AreHeaded l.opening l.newest fs taken)
    (legal : AllByRecursion (λ h. IsTrue (is_legal_header h.header)) taken) (rs : List Record) (records : AllByRecursion (λ r. IsTrue (is_legal Two r)) (with_fillers rs))
    (some : 0 < length (batch_bytes l taken rs)) (count : length taken ≡ (l.used + length (batch_bytes l taken rs) - 1) / capacity_in l.opening)
    (new : LogState) (opening : new.opening ≡ l.opening) (files : new.files ≡ l.files ++ taken) (older : new.older ≡ l.older) (used : new.used + capacity_in l.opening * length taken ≡ l.used + length (batch_bytes l taken rs))
    (newest : new.newest ≡ l.newest + length taken) (again : IsSound new) (planned : fs ≡ (plan_of rs l.used (capacity_in l.opening) l.rid).fresh)
    (one : 0 < length rs) (rids : FollowRids l.rid rs) (rid_now : new.rid ≡ last_rid l.rid rs) where
  stays : (a mid b : Content) → TakesFiles l.opening.home pool left taken a mid → b ≡ with_parts (capacity_in l.opening) (ids (written_files l taken)) (written_place l) (batch_bytes l taken rs) mid
      → LogThere l a.now.disk → IsPoolOf pool [] a.now.disk → StaysUndamaged l new a b
  stays a mid b t w h p =
      let lying : Lies l taken rs left a mid b = lies l sound flushed pool left taken fs headers legal rs records some count new opening files used a mid b t h p w in
      let end_is : end_of l + length_of (with_fillers rs) ≡ end_of new = new_end l sound flushed pool left taken fs headers legal rs records some count new opening files used a mid b t h p w in
      let added : Added a b lying.got.since =
      added_by (capacity_in l.opening) (ids (written_files l taken)) (written_place l) (batch_bytes l taken rs) a mid b lying.got.since lying.got.moments w in
      λ unmarked reads r u.
      stays_undamaged l new sound again left taken rs a mid b h.there.files lying opening files older newest end_is
      (subst (λ n. 0 < n) (length-spelled_over (capacity_in l.opening) (serials (from_newest l taken)) l.used (with_fillers rs)) some)
      (begins_at_front l rs fs taken (sound_capacity l.opening sound.opening).0 headers planned) reads r
      (lying.got.unmarked (unmarked_front a.now lying.got.since added.writes (subst (AllUnmarked a.now) added.added unmarked))) fs headers legal planned one rids rid_now u

  pub told_stays : (a mid b : Option Content) → Tells (TakesFiles l.opening.home pool left taken) a mid
      → Tells (WritesAll (capacity_in l.opening) (ids (written_files l taken)) (written_place l) (batch_bytes l taken rs)) mid b
      → IfSome a (OnDisk (LogThere l)) → IfSome a (OnDisk (IsPoolOf pool [])) → Tells (StaysUndamaged l new) a b
  told_stays None None None t w h p = tt
  told_stays None None (Some z) t w h p = absurd w
  told_stays None (Some y) b t w h p = absurd t
  told_stays (Some x) None b t w h p = absurd t
  told_stays (Some x) (Some y) None t w h p = absurd w
  told_stays (Some x) (Some y) (Some z) t w h p = stays x y z t w h p

-- ---- once it is flushed

still_undamaged : (l : LogState) (d e : Disk) → full e ≡ full d → IsUndamaged l d → IsUndamaged (flushed l) e
still_undamaged l d e same u =
    let files : files_on l.opening e ≡ files_on l.opening d = ap (λ (i : Image). (journal (map headed (in_use i)) l.opening.kind l.opening.name).files) same in
    record {
      chain = ap chain_claims files ∙ u.chain;
      reading = ap (λ (i : Image). reading_claims (journal (map headed (in_use i)) l.opening.kind l.opening.name)) same ∙ u.reading;
      past = ap (λ (i : Image). past_files (journal (map headed (in_use i)) l.opening.kind l.opening.name)) same ∙ u.past;
      rid =
          ap (λ (i : Image). let j = journal (map headed (in_use i)) l.opening.kind l.opening.name in rid_of_reads (oldest_rid j.files) (journal_reading j)) same ∙ u.rid;
    }

pub told_still_undamaged : (l : LogState) (ids : List ℕ) (r : Result (Unit {0}) SiteError) (a b : Option Content) → Tells (Syncs ids r) a b → Carries (IsUndamaged l) (IsUndamaged (flushed l)) a b
told_still_undamaged l ids r None b t = tt
told_still_undamaged l ids r (Some x) None t = tt
told_still_undamaged l ids r (Some x) (Some y) t = still_undamaged l x.now.disk y.now.disk (same_seen ids x y (synced_some ids r x y t)).files

-- ---- a batch that is appended and then flushed

pub told_put_undamaged : (rs : List Record) (from mid new : LogState) (ids : List ℕ) (x : Unit {0}) (a m b : Option Content) → Tells (ReadsOn rs from mid) a m → Tells (StaysUndamaged from mid) a m → Tells (SyncsAll ids (Ok x)) m b
    → Carries (IsUndamaged mid) (IsUndamaged new) m b → Tells (StaysUndamaged from new) a b
told_put_undamaged rs from mid new ids x None None None r u s k = tt
told_put_undamaged rs from mid new ids x None None (Some z) r u s k = absurd s
told_put_undamaged rs from mid new ids x None (Some y) b r u s k = absurd r
told_put_undamaged rs from mid new ids x (Some w) None b r u s k = absurd r
told_put_undamaged rs from mid new ids x (Some w) (Some y) None r u s k = absurd s
told_put_undamaged rs from mid new ids x (Some w) (Some y) (Some z) r u s k = λ unmarked reads read undamaged.
    let syncs = syncs_moments ids y in
    k (u (unmarked_first w y z syncs.0 r.adds (ap (λ (c : Content). c.moments) s ∙ syncs.1) unmarked) reads read undamaged)
