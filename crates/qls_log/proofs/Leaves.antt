-- A file that goes back to its pool, in order, from a disk on which nothing is pending.
use Rattle.std.proofs.Common.{◌≡◌, Bool, true, false, cond, ◌==◌, [], ◌∷◌, map, Option, Some, IsTrue, refl, sym, ap, ◌∙◌, subst}
use Rattle.qls_site.specs.declared.site.Place.TheVariants.{Empty}
use Rattle.qls_site.specs.Disk.{Disk, FileState, IsQuiet, file_of, full_file, full, bare, all_written, changed, change_file}
use Rattle.qls_site.specs.Content.{Moment}
use Rattle.qls_site.proofs.DiskLaws.{only_image, IsImage-bare}
use Rattle.qls_filehdr.specs.declared.FileHeader.{FileHeader}
use Rattle.qls_filehdr.specs.Limits.{is_legal_header}
use Rattle.qls_meaning.specs.Journals.{headed, in_use, is_in_use, journal}
use Rattle.qls_meaning.specs.Orderly.{journal_on, MayLeave, IsReturned}
use Rattle.qls_pool.specs.Files.{HeadedFile, IsAtRest, IdsDiffer}
use Rattle.qls_pool.specs.Taking.{put_back}
use Rattle.qls_pool.proofs.Disks.{eqb_is}
use Rattle.qls_pool.proofs.Steps.{all_map, all_weaken, all_found, reads_header}
use Rattle.qls_log.specs.declared.opening.Opening.{Opening}
use Rattle.qls_log.specs.Logs.{IsOfJournal}
use Rattle.qls_log.specs.Leaving.{LeavesFile, LeavesInOrder}

no_both : (b : Bool) → b ≡ true → b ≡ false → ⊥
no_both b x y = cc

abbrev homed : HeadedFile → FileState → FileState
homed h f = record f { place = Empty h.header.part h.header.kib }

-- the bare image of a quiet disk is full
quiet_bare : (d : Disk) → IsQuiet d → bare d ≡ full d
quiet_bare d q = only_image d (bare d) q (IsImage-bare d)

-- nothing leaves between a moment and itself
stays_file : (m : Moment) (f : FileState) → file_of f.id m.disk ≡ Some f → LeavesFile m (file_of f.id m.disk) f
stays_file m f e = subst (λ (p : Option FileState). LeavesFile m p f) (sym e) (λ u v. absurd (no_both (is_in_use f.place) u v))

pub leaves_none : (m : Moment) → IdsDiffer m.disk → LeavesInOrder m m
leaves_none m differ = all_weaken (λ f. file_of f.id m.disk ≡ Some f) (λ f. LeavesFile m (file_of f.id m.disk) f) (stays_file m) m.disk (all_found m.disk differ)

module _ (o : Opening) (h : HeadedFile) (m : Moment) (f : FileState) (quiet : IsQuiet m.disk) (differ : IdsDiffer m.disk) (is : file_of h.id m.disk ≡ Some f) (rests : IsAtRest h (Some f)) (legal : IsTrue (is_legal_header h.header)) (own : IsOfJournal o h)
    (may : MayLeave (journal_on m.disk o.kind o.name) (headed (full_file f))) where
  may_bare : MayLeave (journal (map headed (in_use (bare m.disk))) h.header.kind h.header.name) (headed (record { id = f.id; place = f.place; bytes = f.stable }))
  may_bare =
      let kind : o.kind ≡ h.header.kind = sym (ap (λ (x : FileHeader). x.kind) own) in
      let name : o.name ≡ h.header.name = sym (ap (λ (x : FileHeader). x.name) own) in
      let image : full m.disk ≡ bare m.disk = sym (quiet_bare m.disk quiet) in
      subst (λ (X : Type 0). X) (λ i. MayLeave (journal (map headed (in_use (image i))) (kind i) (name i)) (headed (record { id = f.id; place = f.place; bytes = all_written (rests.1 i) f.stable }))) may

  returned : IsReturned m f (homed h f) h.header
  returned = record { legal = reads_header h.header f legal rests.2; home = (refl, refl); bytes = refl; quiet = (rests.1, rests.1); free = may_bare }

  leaves_file : (g : FileState) → file_of g.id m.disk ≡ Some g → LeavesFile m (file_of (changed h.id (homed h) g).id m.disk) (changed h.id (homed h) g)
  leaves_file g e = by (g.id == h.id) refl
    where
      that : (g.id == h.id) ≡ true → f ≡ g
      that k = let same : Some f ≡ Some g = sym is ∙ ap (λ id. file_of id m.disk) (sym (eqb_is g.id h.id k)) ∙ e in cc

      by : (b : Bool) → (g.id == h.id) ≡ b → LeavesFile m (file_of (cond b (homed h g) g).id m.disk) (cond b (homed h g) g)
      by true k =
          subst (λ (p : Option FileState). LeavesFile m p (homed h g)) (sym e)
          (λ u v. (h.header, subst (λ (x : FileState). IsReturned m x (homed h x) h.header) (that k) returned))
      by false k = stays_file m g e

  -- the file is the journal's, and may leave
  pub leaves_one : LeavesInOrder m (put_back h.id h.header m)
  leaves_one = all_map (λ g. file_of g.id m.disk ≡ Some g) (λ g. LeavesFile m (file_of g.id m.disk) g) (changed h.id (homed h)) leaves_file m.disk (all_found m.disk differ)

-- nothing is pending once it left
pub quiet_without : (h : HeadedFile) (d : Disk) → IsQuiet d → IsQuiet (change_file h.id (homed h) d)
quiet_without h [] q = tt
quiet_without h (f ∷ d) q = (elim (f.id == h.id) as (λ b. (cond b (homed h f) f).pending ≡ []) [ true ↦ q.0 | false ↦ q.0 ], quiet_without h d q.1)
