-- A log whose journal is without its oldest file.
use Rattle.std.proofs.Common.{◌≡◌, ℕ, zero, suc, ◌+◌, ◌-◌, ◌*◌, ◌/◌, ◌<◌, true, false, ◌==◌, List, [], ◌∷◌, length, drop, IsTrue, refl, sym, ap, ◌∙◌, subst, arith}
use Rattle.std.specs.List.{filter, AllByRecursion}
use Rattle.qls_site.specs.Disk.{Disk}
use Rattle.qls_filehdr.specs.declared.JournalKind.{JournalKind}
use Rattle.qls_filehdr.specs.Limits.{is_legal_header}
use Rattle.qls_meaning.specs.Journals.{Headed}
use Rattle.qls_meaning.specs.Reading.{Read, stream, records_from, end_from, first_place, begin_place, epoch_end, journal_reading}
use Rattle.qls_meaning.specs.Damage.{oldest_rid, chain_claims, reading_claims}
use Rattle.qls_meaning.specs.Dead.{oldest_number, past_files}
use Rattle.qls_meaning.specs.Spent.{rid_of_reads}
use Rattle.qls_laws.specs.Returns.{IsWholeRun, starts_elsewhere}
use Rattle.qls_laws.proofs.Leftover.{ends_left}
use Rattle.qls_laws.proofs.Returned.{parted}
use Rattle.qls_laws.proofs.DeadQueue.{run}
use Rattle.qls_epochs.specs.Whole.{IsWhole}
use Rattle.qls_epochs.proofs.Ended.{rid_of_both}
use Rattle.qls_epochs.proofs.Oldest.{part, returned_is_whole, returned_reads}
use Rattle.qls_pool.specs.Files.{HeadedFile, is_among}
use Rattle.qls_log.specs.Logs.{LogState, IsSound, IsOfOpening, IsOfJournal, NumberedFrom, capacity_in, ids}
use Rattle.qls_log.specs.Standing.{files_on, end_of, AreThoseFiles, LogThere, LastIsUnmarked}
use Rattle.qls_log.specs.Reads.{IsRead}
use Rattle.qls_log.specs.Soundness.{IsUndamaged, log_without_oldest, IsKeptWithout}
use Rattle.qls_log.proofs.Appends.{all_drop}
use Rattle.qls_log.proofs.Older.{Halves, halves, apart_by, not_none, olds_drop, own_drop, end_dropped, those_count}
use Rattle.qls_log.proofs.NextEpoch.{own_kept}
use Rattle.qls_log.proofs.SoundRun.{log_whole, log_is_whole}

numbered_less : (n newest : ℕ) (hs : List HeadedFile) → 0 < length hs → NumberedFrom n hs newest → NumberedFrom (n + 1) (drop 1 hs) newest
numbered_less n newest [] some m = absurd (omega (arith, some))
numbered_less n newest (h ∷ hs) some m = m.1

length_less : (hs : List HeadedFile) → 0 < length hs → length (drop 1 hs) + 1 ≡ length hs
length_less [] some = absurd (omega (arith, some))
length_less (h ∷ hs) some = omega arith

sound_less : (l : LogState) → 1 < length l.files → l.unsynced ≡ [] → IsSound l → IsSound (log_without_oldest l)
sound_less l more synced s =
    let size : length (drop 1 l.files) + 1 ≡ length l.files = length_less l.files (omega (arith, more)) in
    record {
      opening = s.opening;
      all = all_drop (IsOfJournal l.opening) 1 l.files s.all;
      older = omega (arith, size, s.older);
      olds = olds_drop (λ h. h.header.epoch < l.opening.epoch) 1 l.older l.files s.olds;
      own = own_drop (IsOfOpening l.opening) 1 l.older l.files s.own;
      full = λ e. s.full (omega (arith, e, size, more));
      next = λ e. end_dropped l.opening.epoch 1 l.files more (s.next (omega (arith, e, size, more)));
      legal = all_drop (λ h. IsTrue (is_legal_header h.header)) 1 l.files s.legal;
      some = omega (arith, size, more);
      few = omega (arith, size, s.few);
      numbers = subst (λ n. NumberedFrom n (drop 1 l.files) l.newest) (omega (arith, size, s.few, more)) (numbered_less (l.newest + 1 - length l.files) l.newest l.files (omega (arith, more)) s.numbers);
      newest = s.newest;
      used = s.used;
      rid = s.rid;
      unsynced = subst (AllByRecursion (λ id. is_among id (ids (drop 1 l.files)) ≡ true)) (sym synced) tt;
    }

-- where the reading ends of the files of this opening: by how many older ones there are
module _ (l : LogState) (f g : Headed) (fs : List Headed) (size : length f.area ≡ capacity_in l.opening) where
  abbrev cap : ℕ
  cap = capacity_in l.opening

  ends_less : (n : ℕ) → end_of l ≡ cap + end_of (log_without_oldest l) → n * cap + epoch_end (n == 0) (drop n (f ∷ g ∷ fs)) ≡ end_of l → (n ≡ 0 → IsWholeRun (run l.opening.kind l.opening.name (f ∷ g ∷ fs)))
      → (n ≡ 1 → first_place (g ∷ fs) ≡ 0) → (n - 1) * cap + epoch_end (n - 1 == 0) (drop (n - 1) (g ∷ fs)) ≡ end_of (log_without_oldest l)
  ends_less zero less ends whole first =
      let w : IsWholeRun (run l.opening.kind l.opening.name (f ∷ g ∷ fs)) = whole refl in
      let p = parted l.opening.kind l.opening.name f g fs w in
      let all : epoch_end true (f ∷ g ∷ fs) ≡ length f.area + end_from (first_place (g ∷ fs)) p.reads = ends_left f (g ∷ fs) p f.header.rid in
      let here : epoch_end true (g ∷ fs) ≡ end_from (first_place (g ∷ fs)) p.reads = ap (end_from (first_place (g ∷ fs))) p.reading in
      let was : epoch_end true (f ∷ g ∷ fs) ≡ end_of l = omega (arith, ends) in
      ap (λ n. n * cap + epoch_end (n == 0) (drop n (g ∷ fs))) (none zero) ∙ omega (arith, all, here, was, less, size)
    where
      none : (n : ℕ) → 0 - 1 ≡ 0
      none n = omega arith
  ends_less (suc zero) less ends whole first =
      let begin : first_place (g ∷ fs) ≡ 0 = first refl in
      let same : epoch_end true (g ∷ fs) ≡ epoch_end false (g ∷ fs) = ap (λ n. end_from n (records_from (g ∷ fs) (length (stream (g ∷ fs)) / 128) n)) begin in
      let was : 1 * cap + epoch_end false (g ∷ fs) ≡ end_of l = ap (λ b. 1 * cap + epoch_end b (g ∷ fs)) (sym (not_none 0)) ∙ ends in
      ap (λ n. n * cap + epoch_end (n == 0) (drop n (g ∷ fs))) (none zero) ∙ omega (arith, same, was, less)
    where
      none : (n : ℕ) → 1 - 1 ≡ 0
      none n = omega arith
  ends_less (suc (suc m)) less ends whole first =
      let was : suc (suc m) * cap + epoch_end false (drop (suc m) (g ∷ fs)) ≡ end_of l = ap (λ b. suc (suc m) * cap + epoch_end b (drop (suc m) (g ∷ fs))) (sym (not_none (suc m))) ∙ ends in
      let next : suc (suc m) * cap ≡ suc m * cap + cap = product (suc m) cap in
      ap (λ n. n * cap + epoch_end (n == 0) (drop n (g ∷ fs))) (one m) ∙ ap (λ b. suc m * cap + epoch_end b (drop (suc m) (g ∷ fs))) (not_none m) ∙ omega (arith, was, next, less)
    where
      product : (n c : ℕ) → suc n * c ≡ n * c + c
      product n c = grind arith

      one : (m : ℕ) → suc (suc m) - 1 ≡ suc m
      one m = omega arith

-- the files of the journal, from the first two on
module _ (l : LogState) (more : 1 < length l.files) (sound : IsSound l) (reads : List Read) (f g : Headed) (fs : List Headed) (those : AreThoseFiles (capacity_in l.opening) l.files (f ∷ g ∷ fs))
    (w : IsWhole (run l.opening.kind l.opening.name (f ∷ g ∷ fs))) (one : l.older ≡ 0 → IsWholeRun (run l.opening.kind l.opening.name (f ∷ g ∷ fs)))
    (rid : rid_of_reads f.header.rid (journal_reading (run l.opening.kind l.opening.name (f ∷ g ∷ fs))) ≡ l.rid)
    (reading : journal_reading (run l.opening.kind l.opening.name (f ∷ g ∷ fs)) ≡ reads)
    (ends : l.older * capacity_in l.opening + epoch_end (l.older == 0) (drop l.older (f ∷ g ∷ fs)) ≡ end_of l) (behind : LastIsUnmarked l.used (f ∷ g ∷ fs)) where
  abbrev kind : JournalKind
  kind = l.opening.kind

  abbrev name : List ℕ
  name = l.opening.name

  first_size : (hs : List HeadedFile) → AreThoseFiles (capacity_in l.opening) hs (f ∷ g ∷ fs) → length f.area ≡ capacity_in l.opening
  first_size [] t = absurd t
  first_size (h ∷ hs) t = t.0.area

  rid_less : rid_of_reads g.header.rid (journal_reading (run kind name (g ∷ fs))) ≡ l.rid
  rid_less =
      let p = part kind name f g fs w in
      ap (λ n. rid_of_reads n (journal_reading (run kind name (g ∷ fs)))) p.rid_is ∙ sym (rid_of_both f.header.rid p.front (journal_reading (run kind name (g ∷ fs)))) ∙ ap (rid_of_reads f.header.rid) (sym p.is) ∙ rid

  -- the only file of earlier openings goes: then those of this one begin at their front
  begin_less : l.older ≡ 1 → first_place (g ∷ fs) ≡ 0
  begin_less e =
      let s : Halves (capacity_in l.opening) l.older l.files (f ∷ g ∷ fs) = halves (capacity_in l.opening) l.older l.files (f ∷ g ∷ fs) sound.older those in
      let k =
      own_kept kind name l.opening.epoch s.past s.own l.rid (apart_by l (capacity_in l.opening) sound s.past s.own s.those_past s.those_own) (subst (λ (xs : List Headed). IsWhole (run kind name xs)) s.is w)
      (subst (λ (xs : List Headed). rid_of_reads (oldest_rid xs) (journal_reading (run kind name xs)) ≡ l.rid) s.is rid) in
      let own : s.own ≡ g ∷ fs = sym s.rest ∙ ap (λ n. drop n (f ∷ g ∷ fs)) e in
      ap first_place (sym own) ∙ sym k.begin ∙ ap (λ n. begin_place (n == 0) s.own) (s.count ∙ e) ∙ ap (λ b. begin_place b s.own) (not_none 0)

  ends_now : (l.older - 1) * capacity_in l.opening + epoch_end (l.older - 1 == 0) (drop (l.older - 1) (g ∷ fs)) ≡ end_of (log_without_oldest l)
  ends_now =
      let size : length (drop 1 l.files) + 1 ≡ length l.files = length_less l.files (omega (arith, more)) in
      let product : (length l.files - 1) * capacity_in l.opening ≡ (length (drop 1 l.files) - 1) * capacity_in l.opening + capacity_in l.opening =
      ap (λ n. n * capacity_in l.opening) (omega (arith, size, more)) ∙ next (length (drop 1 l.files) - 1) (capacity_in l.opening) in
      ends_less l f g fs (first_size l.files those) l.older (omega (arith, product)) ends one begin_less
    where
      next : (k c : ℕ) → (k + 1) * c ≡ k * c + c
      next k c = grind arith

  less : (e : Disk) → files_on l.opening e ≡ g ∷ fs → IsKeptWithout l (filter (starts_elsewhere f.header.number) reads) e
  less e is =
      let left : IsWhole (run kind name (g ∷ fs)) = returned_is_whole (run kind name (f ∷ g ∷ fs)) (omega arith) w in
      record {
        undamaged = record {
          chain = ap chain_claims is ∙ left.rules.chain;
          reading = ap (λ (hs : List Headed). reading_claims (run kind name hs)) is ∙ left.rules.reading;
          past = ap (λ (hs : List Headed). past_files (run kind name hs)) is ∙ left.past;
          rid = ap (λ (hs : List Headed). rid_of_reads (oldest_rid hs) (journal_reading (run kind name hs))) is ∙ rid_less;
        };
        read = record {
          reading =
              ap (λ (hs : List Headed). journal_reading (run kind name hs)) is ∙ returned_reads (run kind name (f ∷ g ∷ fs)) (omega arith) w ∙ ap (filter (starts_elsewhere f.header.number)) reading;
          ends = ap (λ (hs : List Headed). (l.older - 1) * capacity_in l.opening + epoch_end (l.older - 1 == 0) (drop (l.older - 1) hs)) is ∙ ends_now;
          behind = subst (LastIsUnmarked l.used) (sym is) behind;
        };
      }

pub log_less : (l : LogState) (d e : Disk) (reads : List Read) → 1 < length l.files → l.unsynced ≡ [] → IsSound l → LogThere l d → IsUndamaged l d → IsRead l reads d → files_on l.opening e ≡ drop 1 (files_on l.opening d)
    → IsSound (log_without_oldest l) × IsKeptWithout l (filter (starts_elsewhere (oldest_number (files_on l.opening d))) reads) e
log_less l d e reads more synced sound there u r is =
    let count : length (files_on l.opening d) ≡ length l.files = those_count (capacity_in l.opening) l.files (files_on l.opening d) there.there.files in (
      sound_less l more synced sound,
      by (files_on l.opening d) (omega (arith, count, more)) there.there.files (log_whole l d sound there u) (λ none. log_is_whole l d none sound there u) u.rid r.reading r.ends r.behind is,
    )
  where
    by : (fs : List Headed) → 1 < length fs → AreThoseFiles (capacity_in l.opening) l.files fs → IsWhole (run l.opening.kind l.opening.name fs) → (l.older ≡ 0 → IsWholeRun (run l.opening.kind l.opening.name fs))
        → rid_of_reads (oldest_rid fs) (journal_reading (run l.opening.kind l.opening.name fs)) ≡ l.rid → journal_reading (run l.opening.kind l.opening.name fs) ≡ reads
        → l.older * capacity_in l.opening + epoch_end (l.older == 0) (drop l.older fs) ≡ end_of l → LastIsUnmarked l.used fs → files_on l.opening e ≡ drop 1 fs → IsKeptWithout l (filter (starts_elsewhere (oldest_number fs)) reads) e
    by [] some those w one rid reading ends behind is = absurd (omega (arith, some))
    by (f ∷ []) some those w one rid reading ends behind is = absurd (omega (arith, some))
    by (f ∷ g ∷ fs) some those w one rid reading ends behind is = less l more sound reads f g fs those w one rid reading ends behind e is
