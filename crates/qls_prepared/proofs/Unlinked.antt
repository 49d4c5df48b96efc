-- The oldest file of a log goes out of use.
use Rattle.std.proofs.Common.{◌≡◌, ℕ, Bool, true, false, cond, ◌==◌, List, [], ◌∷◌, map, take, Option, Some, IsTrue, refl, sym, ap, ◌∙◌, subst}
use Rattle.std.specs.List.{AllByRecursion}
use Rattle.qls_site.specs.declared.site.Place.TheVariants.{Empty}
use Rattle.qls_site.specs.Disk.{Disk, FileState, IsQuiet, file_of, full_file, full, bare, all_written, bytes_at, seen_bytes, changed, change_file}
use Rattle.qls_site.specs.Content.{Moment}
use Rattle.qls_site.proofs.DiskLaws.{only_image, IsImage-bare}
use Rattle.qls_filehdr.specs.declared.FileHeader.{FileHeader}
use Rattle.qls_filehdr.specs.Header.{header_spelling}
use Rattle.qls_filehdr.specs.Limits.{is_legal_header}
use Rattle.qls_meaning.specs.Journals.{headed, in_use, is_in_use, is_of, journal}
use Rattle.qls_meaning.specs.Orderly.{journal_on, MayLeave, IsReturned}
use Rattle.qls_pool.specs.Files.{HeadedFile, IsLinked, IsAtRest, LinkedThere, IdsDiffer, is_among}
use Rattle.qls_pool.specs.Taking.{put_back}
use Rattle.qls_pool.proofs.Disks.{eqb_is}
use Rattle.qls_pool.proofs.Steps.{all_map, all_weaken, all_found, differ_change, reads_header}
use Rattle.qls_log.specs.declared.opening.Opening.{Opening}
use Rattle.qls_log.specs.Logs.{LogState, IsSound, IsOfJournal, capacity_in}
use Rattle.qls_log.specs.Standing.{AreThoseFiles, LogThere, RestsBut, files_on}
use Rattle.qls_log.specs.Writing.{AreInUse}
use Rattle.qls_log.specs.Leaving.{LeavesFile, LeavesInOrder}
use Rattle.qls_log.proofs.OwnWrites.{own_one}
use Rattle.qls_log.proofs.Returns.{first_above, differ_by, linked_found}
use Rattle.qls_log.proofs.Splits.{IsOrAbove, files-unlinked, split}
use Rattle.qls_log.proofs.Takes.{header_seen, other_changed}

no_both : (b : Bool) → b ≡ true → b ≡ false → ⊥
no_both b x y = cc

-- ---- the journal without its oldest file

abbrev pub homed : HeadedFile → FileState → FileState
homed h f = record f { place = Empty h.header.part h.header.kib }

abbrev pub disk_without : HeadedFile → Disk → Disk
disk_without h d = change_file h.id (homed h) d

module _ (l : LogState) (h : HeadedFile) (hs : List HeadedFile) (d : Disk) (sound : IsSound (record l { files = h ∷ hs })) (there : LogThere (record l { files = h ∷ hs }) d) where
  abbrev o : Opening
  o = l.opening

  abbrev e : Disk
  e = disk_without h d

  pub found : (f : FileState) × (file_of h.id d ≡ Some f) × IsLinked h (Some f)
  found = linked_found h (file_of h.id d) there.there.linked.0

  abbrev pub old_file : FileState
  old_file = found.0

  pub old_found : file_of h.id d ≡ Some old_file
  old_found = found.1

  own : is_of o.kind o.name (headed (full_file old_file)) ≡ true
  own = (own_one o h d (Some old_file) found.1 found.2 there.there.headers.0 sound.all.0 sound.legal.0).1

  pub old_number : (headed (full_file old_file)).header.number ≡ h.header.number
  old_number =
      ap (λ (k : FileHeader). k.number) (header_seen h.header (all_written old_file.pending old_file.stable) sound.legal.0 (ap (λ (p : Option FileState). take 4096 (seen_bytes p)) (sym found.1) ∙ there.there.headers.0))

  pub unlinked : files_on o d ≡ headed (full_file old_file) ∷ files_on o e
  unlinked =
      files-unlinked o h.id old_file (homed h) d (split h.id old_file d there.there.differ found.1) (ap is_in_use found.2.0) refl own
      (subst (λ n. AllByRecursion (IsOrAbove h.id n) (files_on o d)) (sym (old_number ∙ sound.numbers.0)) (first_above (capacity_in o) _ l.newest h hs (files_on o d) sound.numbers there.there.files))

  others_found : (id : ℕ) → (id == h.id) ≡ false → file_of id e ≡ file_of id d
  others_found id k = other_changed h.id id (homed h) (λ f. refl) k d

  linked_still : (gs : List HeadedFile) → AllByRecursion (λ g. (g.id ≡ h.id) → ⊥) gs → AllByRecursion (λ g. LinkedThere g d) gs → AllByRecursion (λ g. LinkedThere g e) gs
  linked_still [] apart k = tt
  linked_still (g ∷ gs) apart k = (subst (IsLinked g) (sym (others_found g.id (differ_by g.id h.id apart.0))) k.0, linked_still gs apart.1 k.1)

  headers_still : (gs : List HeadedFile) → AllByRecursion (λ g. (g.id ≡ h.id) → ⊥) gs → AllByRecursion (λ g. take 4096 (bytes_at g.id d) ≡ header_spelling g.header) gs
      → AllByRecursion (λ g. take 4096 (bytes_at g.id e) ≡ header_spelling g.header) gs
  headers_still [] apart k = tt
  headers_still (g ∷ gs) apart k = (ap (λ (p : Option FileState). take 4096 (seen_bytes p)) (others_found g.id (differ_by g.id h.id apart.0)) ∙ k.0, headers_still gs apart.1 k.1)

  rests_still : (ids : List ℕ) (gs : List HeadedFile) → AllByRecursion (λ g. (g.id ≡ h.id) → ⊥) gs → RestsBut ids gs d → RestsBut ids gs e
  rests_still ids [] apart k = tt
  rests_still ids (g ∷ gs) apart k = (λ n. subst (IsAtRest g) (sym (others_found g.id (differ_by g.id h.id apart.0))) (k.0 n), rests_still ids gs apart.1 k.1)

  pub there_without : (n : ℕ) → l.unsynced ≡ [] → LogThere (record l { files = hs; older = n }) e
  there_without n flushed = record {
    waiting = subst (λ (ids : List ℕ). AreInUse ids e) (sym flushed) tt;
    there = record {
      differ = differ_change h.id (homed h) (λ f. refl) d there.there.differ;
      apart = there.there.apart.1;
      linked = linked_still hs there.there.apart.0 there.there.linked.1;
      headers = headers_still hs there.there.apart.0 there.there.headers.1;
      files = (subst (AreThoseFiles (capacity_in o) (h ∷ hs)) unlinked there.there.files).1;
    };
    rests = rests_still l.unsynced hs there.there.apart.0 there.rests.1;
  }

  -- it has nothing pending, and its header is stable
  pub old_rests : l.unsynced ≡ [] → IsAtRest h (Some old_file)
  old_rests flushed = subst (IsAtRest h) found.1 (there.rests.0 (ap (is_among h.id) flushed))

-- ---- in order

-- the bare image of a quiet disk is full
quiet_bare : (d : Disk) → IsQuiet d → bare d ≡ full d
quiet_bare d q = only_image d (bare d) q (IsImage-bare d)

-- nothing leaves between a moment and itself
stays_file : (m : Moment) (f : FileState) → file_of f.id m.disk ≡ Some f → LeavesFile m (file_of f.id m.disk) f
stays_file m f e = subst (λ (p : Option FileState). LeavesFile m p f) (sym e) (λ u v. absurd (no_both (is_in_use f.place) u v))

pub leaves_none : (m : Moment) → IdsDiffer m.disk → LeavesInOrder m m
leaves_none m differ = all_weaken (λ f. file_of f.id m.disk ≡ Some f) (λ f. LeavesFile m (file_of f.id m.disk) f) (stays_file m) m.disk (all_found m.disk differ)

module _ (o : Opening) (h : HeadedFile) (m : Moment) (f : FileState) (quiet : IsQuiet m.disk) (differ : IdsDiffer m.disk) (is : file_of h.id m.disk ≡ Some f) (rests : IsAtRest h (Some f)) (legal : IsTrue (is_legal_header h.header)) (own : IsOfJournal o h)
    (may : MayLeave (journal_on m.disk o.kind o.name) (headed (full_file f))) where
  may_bare : MayLeave (journal (map headed (in_use (bare m.disk))) h.header.kind h.header.name) (headed (record { id = f.id; place = f.place; bytes = f.stable }))
  may_bare =
      let kind : o.kind ≡ h.header.kind = sym (ap (λ (x : FileHeader). x.kind) own) in
      let name : o.name ≡ h.header.name = sym (ap (λ (x : FileHeader). x.name) own) in
      let image : full m.disk ≡ bare m.disk = sym (quiet_bare m.disk quiet) in
      subst (λ (X : Type 0). X) (λ i. MayLeave (journal (map headed (in_use (image i))) (kind i) (name i)) (headed (record { id = f.id; place = f.place; bytes = all_written (rests.1 i) f.stable }))) may

  returned : IsReturned m f (homed h f) h.header
  returned = record { legal = reads_header h.header f legal rests.2; home = (refl, refl); bytes = refl; quiet = (rests.1, rests.1); free = may_bare }

  leaves_file : (g : FileState) → file_of g.id m.disk ≡ Some g → LeavesFile m (file_of (changed h.id (homed h) g).id m.disk) (changed h.id (homed h) g)
  leaves_file g e = by (g.id == h.id) refl
    where
      that : (g.id == h.id) ≡ true → f ≡ g
      that k = let same : Some f ≡ Some g = sym is ∙ ap (λ id. file_of id m.disk) (sym (eqb_is g.id h.id k)) ∙ e in cc

      by : (b : Bool) → (g.id == h.id) ≡ b → LeavesFile m (file_of (cond b (homed h g) g).id m.disk) (cond b (homed h g) g)
      by true k =
          subst (λ (p : Option FileState). LeavesFile m p (homed h g)) (sym e)
          (λ u v. (h.header, subst (λ (x : FileState). IsReturned m x (homed h x) h.header) (that k) returned))
      by false k = stays_file m g e

  pub leaves_one : LeavesInOrder m (put_back h.id h.header m)
  leaves_one = all_map (λ g. file_of g.id m.disk ≡ Some g) (λ g. LeavesFile m (file_of g.id m.disk) g) (changed h.id (homed h)) leaves_file m.disk (all_found m.disk differ)

-- ---- nothing is pending

pub quiet_without : (h : HeadedFile) (d : Disk) → IsQuiet d → IsQuiet (disk_without h d)
quiet_without h [] q = tt
quiet_without h (f ∷ d) q = (elim (f.id == h.id) as (λ b. (cond b (homed h f) f).pending ≡ []) [ true ↦ q.0 | false ↦ q.0 ], quiet_without h d q.1)
