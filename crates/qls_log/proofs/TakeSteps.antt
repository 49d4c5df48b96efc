-- Steps that change an empty file, or make one: files in use stay as they are.
use Rattle.std.proofs.Common.{◌≡◌, ℕ, ◌+◌, ◌*◌, Bool, true, false, cond, ◌==◌, List, [], ◌∷◌, ◌++◌, length, replicate, Option, Some, None, refl, sym, ap, ◌∙◌, subst, arith, length-append}
use Rattle.std.proofs.lemmas.List.{append_cancel_left}
use Rattle.std.specs.List.{AllByRecursion}
use Rattle.qls_site.specs.declared.site.Place.TheVariants.{Empty}
use Rattle.qls_site.specs.Disk.{Disk, FileState, Write, file_of, changed, change_file, create_at}
use Rattle.qls_site.specs.Content.{Moment, on_disk}
use Rattle.qls_site.proofs.Told.{KeepsId}
use Rattle.qls_meaning.specs.Journals.{is_in_use}
use Rattle.qls_meaning.specs.History.{is_file_in_use, is_pending, uses, is_covered}
use Rattle.qls_meaning.specs.Spent.{greatest_id}
use Rattle.qls_pool.specs.Files.{IdsDiffer}
use Rattle.qls_pool.proofs.Disks.{eqb_is, same_id, other-with, lacks_above}
use Rattle.qls_pool.proofs.Steps.{all_map, all_weaken, all_with, all_found, own_change}
use Rattle.qls_log.specs.declared.opening.Opening.{Opening}
use Rattle.qls_log.specs.Leaving.{RemainsInUse}
use Rattle.qls_log.specs.Keeping.{WritesEmptyFile, IsTakeStep}
use Rattle.qls_log.specs.Steps.{IsLogStep}
use Rattle.qls_log.proofs.Takes.{other_changed}

no_both : (b : Bool) → b ≡ true → b ≡ false → ⊥
no_both b x y = cc

some_is : (f g : FileState) → ◌≡◌ {A = Option FileState} (Some f) (Some g) → f ≡ g
some_is f g e = cc

-- ---- writes that are pending

pub longer : (ws : List Write) (w : Write) → ws ≡ ws ++ w ∷ [] → ⊥
longer ws w e = omega (arith, ap length e, length-append ws (w ∷ []))

pub some_more : (ws : List Write) (w : Write) → [] ≡ ws ++ w ∷ [] → ⊥
some_more ws w e = omega (arith, ap length e, length-append ws (w ∷ []))

pub same_last : (ws : List Write) (v w : Write) → ws ++ v ∷ [] ≡ ws ++ w ∷ [] → v ≡ w
same_last ws v w e = only_one v w (append_cancel_left ws (v ∷ []) (w ∷ []) e)
  where
    only_one : (v w : Write) → ◌≡◌ {A = List Write} (v ∷ []) (w ∷ []) → v ≡ w
    only_one v w e = cc

-- ---- each file of a disk with what it was before

module _ (Q : Option FileState → FileState → Type 0) where
  pub each_same : (d : Disk) → IdsDiffer d → ((f : FileState) → Q (Some f) f) → AllByRecursion (λ g. Q (file_of g.id d) g) d
  each_same d differ same = all_weaken (λ f. file_of f.id d ≡ Some f) (λ g. Q (file_of g.id d) g) (λ f e. subst (λ (p : Option FileState). Q p f) (sym e) (same f)) d (all_found d differ)

  pub each_change : (own : ℕ) (c : FileState → FileState) → KeepsId c → (d : Disk) → IdsDiffer d → ((f : FileState) → Q (Some f) f) → ((f : FileState) → file_of own d ≡ Some f → Q (Some f) (c f))
      → AllByRecursion (λ g. Q (file_of g.id d) g) (change_file own c d)
  each_change own c keeps d differ same mine =
      all_map (λ f. file_of f.id d ≡ Some f) (λ g. Q (file_of g.id d) g) (changed own c)
      (λ f e. subst (λ (p : Option FileState). Q p (changed own c f)) (sym (ap (λ n. file_of n d) (same_id own c keeps f) ∙ e)) (one f e)) d (all_found d differ)
    where
      one : (f : FileState) → file_of f.id d ≡ Some f → Q (Some f) (changed own c f)
      one f e =
          elim (f.id == own) as (λ b. (f.id == own) ≡ b → Q (Some f) (cond b (c f) f)) [
            | true ↦ λ k. mine f (subst (λ n. file_of n d ≡ Some f) (eqb_is f.id own k) e)
            | false ↦ λ k. same f
          ] refl

-- ---- a file as it was

pub writes_same : (f : FileState) → WritesEmptyFile (Some f) f
writes_same f w e = absurd (longer f.pending w e)

pub stays_in_use : (f g : FileState) → is_in_use g.place ≡ is_in_use f.place → RemainsInUse (Some f) g
stays_in_use f g e used = e ∙ used

-- ---- steps

pub take_same : (o : Opening) (m : Moment) → IdsDiffer m.disk → IsLogStep o m m → IsTakeStep o m m
take_same o m differ step = record {
  step = step;
  leaves = each_same RemainsInUse m.disk differ (λ f. stays_in_use f f refl);
  writes = each_same WritesEmptyFile m.disk differ writes_same;
  still = λ id used. refl;
  quiet = λ id k out used. absurd (no_both (uses id m) used out);
}

module _ (o : Opening) (own : ℕ) (c : FileState → FileState) (keeps : KeepsId c) (m : Moment) (differ : IdsDiffer m.disk) (f : FileState) (there : file_of own m.disk ≡ Some f) (out : is_in_use f.place ≡ false)
    (meets : WritesEmptyFile (Some f) (c f)) (clean : is_in_use (c f).place ≡ true → (c f).pending ≡ []) where
  abbrev after : Moment
  after = on_disk (change_file own c) m

  at_own : (id : ℕ) → id ≡ own → uses id m ≡ false
  at_own id e = ap (λ n. is_file_in_use (file_of n m.disk)) e ∙ ap is_file_in_use there ∙ out

  others : (id : ℕ) → (id == own) ≡ false → file_of id after.disk ≡ file_of id m.disk
  others id e = other_changed own id c keeps e m.disk

  pub take_change : IsLogStep o m after → IsTakeStep o m after
  take_change step = record {
    step = step;
    leaves =
        each_change RemainsInUse own c keeps m.disk differ (λ g. stays_in_use g g refl)
        (λ g e used. absurd (no_both (is_in_use g.place) used (ap (λ (x : FileState). is_in_use x.place) (some_is g f (sym e ∙ there)) ∙ out)));
    writes =
        each_change WritesEmptyFile own c keeps m.disk differ writes_same
        (λ g e. subst (λ (x : FileState). WritesEmptyFile (Some x) (c x)) (some_is f g (sym there ∙ e)) meets);
    still = λ id used. still_by id used (id == own) refl;
    quiet = λ id k none used. quiet_by id k none used (id == own) refl;
  }
    where
      still_by : (id : ℕ) → uses id m ≡ true → (b : Bool) → (id == own) ≡ b → file_of id after.disk ≡ file_of id m.disk
      still_by id used true e = absurd (no_both (uses id m) used (at_own id (eqb_is id own e)))
      still_by id used false e = others id e

      quiet_by : (id k : ℕ) → uses id m ≡ false → uses id after ≡ true → (b : Bool) → (id == own) ≡ b → is_covered id k after ≡ false
      quiet_by id k none used true e =
          let at : file_of id after.disk ≡ Some (c f) = ap (λ n. file_of n after.disk) (eqb_is id own e) ∙ own_change own c keeps m.disk f there in
          ap (is_pending k) at ∙ ap (λ (ws : List Write). Rattle.std.specs.List.list_any (Rattle.qls_meaning.specs.History.covers k) ws) (clean (sym (ap is_file_in_use at) ∙ used))
      quiet_by id k none used false e = absurd (no_both (uses id m) (sym (ap is_file_in_use (others id e)) ∙ used) none)

module _ (o : Opening) (id part kib : ℕ) (m : Moment) (differ : IdsDiffer m.disk) (next : id ≡ greatest_id m.disk + 1) where
  abbrev made : FileState
  made = record { id = id; place = Empty part kib; stable = replicate (4096 + 1024 * kib) 0; pending = [] }

  abbrev with_made : Moment
  with_made = on_disk (create_at id part kib) m

  lacks : file_of id m.disk ≡ None
  lacks = lacks_above id m.disk (omega (arith, next))

  there_made : file_of id with_made.disk ≡ Some made
  there_made = Rattle.qls_site.proofs.Told.file_of-with_file made m.disk lacks

  other_than : (k : ℕ) → ((k ≡ id) → ⊥) → file_of k with_made.disk ≡ file_of k m.disk
  other_than k h = from (id == k) refl
    where
      from : (b : Bool) → (id == k) ≡ b → file_of k with_made.disk ≡ file_of k m.disk
      from false e = other-with made k e m.disk
      from true e = absurd (h (sym (eqb_is id k e)))

  unused : (k : ℕ) → k ≡ id → uses k m ≡ false
  unused k e = ap (λ n. is_file_in_use (file_of n m.disk)) e ∙ ap is_file_in_use lacks

  unused_after : (k : ℕ) → k ≡ id → uses k with_made ≡ false
  unused_after k e = ap (λ n. is_file_in_use (file_of n with_made.disk)) e ∙ ap is_file_in_use there_made

  pub take_create : IsLogStep o m with_made → IsTakeStep o m with_made
  take_create step = record {
    step = step;
    leaves =
        all_with (λ g. RemainsInUse (file_of g.id m.disk) g) made (subst (λ (p : Option FileState). RemainsInUse p made) (sym lacks) tt) m.disk
        (each_same RemainsInUse m.disk differ (λ f. stays_in_use f f refl));
    writes =
        all_with (λ g. WritesEmptyFile (file_of g.id m.disk) g) made (subst (λ (p : Option FileState). WritesEmptyFile p made) (sym lacks) tt) m.disk
        (each_same WritesEmptyFile m.disk differ writes_same);
    still = λ k used. other_than k (λ e. no_both (uses k m) used (unused k e));
    quiet = λ k n none used. absurd (no_both (uses k m) (sym (ap is_file_in_use (other_than k (λ e. no_both (uses k with_made) used (unused_after k e)))) ∙ used) none);
  }
