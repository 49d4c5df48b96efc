-- A file that is taken, call by call, where the site tells its content.
use Rattle.std.proofs.Common.{◌≡◌, inl, inr, ℕ, ◌+◌, ◌<◌, ◌≤◌, Bool, true, false, List, [], ◌∷◌, ◌++◌, map, length, take, Option, Some, None, IfSome, Ok, Err, IsTrue, refl, sym, ap, ◌∙◌, subst, arith}
use Rattle.std.specs.List.{AllByRecursion}
use Rattle.qls_model.specs.declared.machine.PoolId.{PoolId}
use Rattle.qls_site.specs.declared.site.SiteError.{SiteError}
use Rattle.qls_site.specs.declared.site.SiteError.TheVariants as site
use Rattle.qls_site.specs.declared.site.Place.TheVariants.{InUse, Empty}
use Rattle.qls_site.specs.Disk.{Disk, FileState, Write, file_of, full_file, all_written, write_at, sync_at}
use Rattle.qls_site.specs.declared.serials.DrawError.{DrawError}
use Rattle.qls_site.specs.declared.serials.DrawError.TheVariants as draw
use Rattle.qls_site.specs.Content.{Content, Moment, Acts, MayAct, Leads, Tells, Draws}
use Rattle.qls_site.proofs.Told.{Tells-weaken}
use Rattle.qls_filehdr.specs.declared.FileHeader.{FileHeader}
use Rattle.qls_filehdr.specs.Limits.{is_legal_header}
use Rattle.qls_filehdr.specs.Header.{header_spelling, header_fields}
use Rattle.qls_meaning.specs.Journals.{Headed, headed, is_in_use, is_of}
use Rattle.qls_meaning.specs.Dead.{newest_number}
use Rattle.qls_meaning.specs.History.{newly_used}
use Rattle.qls_pool.specs.declared.fault.TakeFault.{TakeFault}
use Rattle.qls_pool.specs.declared.fault.TakeFault.TheVariants as take_fault
use Rattle.qls_pool.specs.Pools.{PoolState, HandsOut, has, least_id}
use Rattle.qls_pool.specs.Files.{BlankFile, HeadedFile, HeadsBlank, IsHeaded, IdsDiffer, BlankThere, HeadedThere, IsWholePool, OnDisk}
use Rattle.qls_pool.specs.Taking.{Obtains, TakesBlank, DrawsSerial, Heads, created, header_written, header_synced, put_in_use}
use Rattle.qls_pool.specs.Discipline.{IsLeastOnDisk}
use Rattle.qls_pool.specs.Moments.{Chain, Passes, Arrives}
use Rattle.qls_pool.specs.Next.{IsEpochDue}
use Rattle.qls_pool.specs.Serials.{serials_taken, taken_since, TakesNone, DrawsTaken}
use Rattle.qls_pool.proofs.Calls.{headed_there, heads_least}
use Rattle.qls_pool.proofs.Came.{none_came, none_same, none_change, none_create, link_came}
use Rattle.qls_pool.proofs.FirstTaken.{front_is_step, sync_is_step}
use Rattle.qls_pool.proofs.Order.{IsLeastOf, least_is}
use Rattle.qls_pool.proofs.Serials.{Took, Brought, TookAtMost, took_same, brought_same, brought_then, brought_took, at_most_then, brought_taken, told_few, told_none, told_took, drawn_at_most, drawn_one, drawn_none}
use Rattle.qls_pool.proofs.Steps.{header_length, own_change, link_step, differ_change, reads_header}
use Rattle.qls_pool.proofs.Taken.{create_step, blank_there, blank_least, blank_ids}
use Rattle.qls_log.specs.declared.opening.Opening.{Opening}
use Rattle.qls_log.specs.Faults.{fault_of_site, fault_of_take}
use Rattle.qls_blocks.specs.declared.plan.FreshFile.{FreshFile}
use Rattle.qls_log.specs.Logs.{header_for}
use Rattle.qls_log.specs.Standing.{files_on}
use Rattle.qls_pool.proofs.Moments.{Arrives-same}
use Rattle.qls_log.specs.Steps.{IsOwnNext, GoesBy, is_exact}
use Rattle.qls_log.specs.Taking.{TakesFile, MayTake}
use Rattle.qls_log.proofs.OwnSteps.{own_same, own_step, own_create, empty_changes, link_changes}
use Rattle.qls_log.proofs.TakeSteps.{longer, some_more, same_last, take_same, take_change, take_create}
use Rattle.qls_log.specs.Keeping.{MeetsEmpty, WritesEmptyFile, IsTakeStep}
use Rattle.qls_log.proofs.Splits.{heads, heads-with, heads-unused, full-sync, files-same, is_of-own, split}
use Rattle.qls_log.proofs.Takes.{blank_found, headed_found, header_seen, journal_after, ids_after, pool_after}

abbrev serials : List Headed → List ℕ
serials fs = map (λ f. f.header.serial) fs

abbrev write : List ℕ → FileState → FileState
write bytes f = record f { pending = f.pending ++ (record { at = 0; bytes = bytes }) ∷ [] }

abbrev sync : FileState → FileState
sync f = record f { stable = all_written f.pending f.stable; pending = [] }

abbrev linking : FileState → FileState
linking f = record f { place = InUse }

none_again : (m : Moment) → IdsDiffer m.disk → newly_used m m ≡ []
none_again m differ = none_came m m (none_same m m differ refl)

never : (b : Bool) → b ≡ true → b ≡ false → ⊥
never b x y = cc

-- the one write to an empty file is the one of these bytes at its front
front_meets : (bytes : List ℕ) (f : FileState) (part kib : ℕ) → f.place ≡ Empty part kib → 0 + length bytes ≤ 4096 → WritesEmptyFile (Some f) (write bytes f)
front_meets bytes f part kib at fits w e =
    let v : Write = record { at = 0; bytes = bytes } in
    subst (λ p. MeetsEmpty p w) (sym at) (subst (λ (x : Write). x.at + length x.bytes ≤ 4096) (same_last f.pending v w e) fits)

-- ---- a file that is created

module _ (o : Opening) (pool : PoolState) where
  abbrev made : Moment → Moment
  made = created o.home pool.greatest

  same_step : (m : Moment) → IdsDiffer m.disk → IsTakeStep o m m
  same_step m differ = take_same o m differ (own_same o m differ)

  made_step : (m : Moment) → IsWholePool pool m.disk → least_id o.home pool.files ≡ None → IsTakeStep o m (made m)
  made_step m whole none =
      take_create o (pool.greatest + 1) o.home.part o.home.kib m whole.0 (ap (λ n. n + 1) whole.1.greatest)
      (own_create o (pool.greatest + 1) o.home.part o.home.kib m whole.0 (ap (λ n. n + 1) whole.1.greatest)
      (create_step o.home pool m whole.0 whole.1 (subst (IsLeastOf (λ j. has o.home.part o.home.kib j pool.files)) none (least_is o.home pool.files))))

  none_made : (m : Moment) → IdsDiffer m.disk → newly_used m (made m) ≡ []
  none_made m differ = none_came m (made m) (none_create (pool.greatest + 1) o.home.part o.home.kib m differ)

  -- no file was handed out
  blank_failed : (e : TakeFault) (x y : Content) → IsWholePool pool x.now.disk → TakesBlank o.home pool (Err e) x y → Took (IsTakeStep o) [] x y
  blank_failed take_fault.Failed x y whole h =
      let m : Moment = x.now in
      record {
        since = m ∷ made m ∷ [];
        moments = h.1.moments;
        chain = (same_step m whole.0, (made_step m whole h.0, tt));
        serials = ap (λ (fs : List Headed). serials fs ++ serials_taken m (made m ∷ [])) (none_again m whole.0) ∙ ap (λ (fs : List Headed). serials fs ++ []) (none_made m whole.0);
      }
  blank_failed take_fault.Draw x y whole h = took_same (IsTakeStep o) x y h
  blank_failed take_fault.Spent x y whole h = took_same (IsTakeStep o) x y h
  blank_failed take_fault.Memory x y whole h = took_same (IsTakeStep o) x y h

  pub told_blank_failed : (number : ℕ) (e : TakeFault) (a b : Option Content) → IfSome a (OnDisk (MayTake o pool number)) → Tells (TakesBlank o.home pool (Err e)) a b → Tells (Took (IsTakeStep o) []) a b
  told_blank_failed number e None None start h = tt
  told_blank_failed number e None (Some y) start h = absurd h
  told_blank_failed number e (Some x) None start h = absurd h
  told_blank_failed number e (Some x) (Some y) start h = blank_failed e x y start.whole h

  -- a file was handed out
  obtained_brought : (x y : Content) → IsWholePool pool x.now.disk → Obtains o.home pool.greatest (least_id o.home pool.files) x y → Brought (IsTakeStep o) [] x y
  obtained_brought x y whole obtains = from (least_id o.home pool.files) refl obtains
    where
      from : (p : Option ℕ) → least_id o.home pool.files ≡ p → Obtains o.home pool.greatest p x y → Brought (IsTakeStep o) [] x y
      from (Some id) e h = brought_same (IsTakeStep o) x y h
      from None e acts = (
        record { since = made x.now ∷ []; moments = ap (λ (c : Content). c.moments) acts; chain = (made_step x.now whole e, tt); last = ap (λ (c : Content). c.now) acts },
        ap (λ (fs : List Headed). serials fs ++ []) (none_made x.now whole.0),
      )

  obtained_heads : (x y : Content) → Obtains o.home pool.greatest (least_id o.home pool.files) x y → heads y.now.disk ≡ heads x.now.disk
  obtained_heads x y obtains = from (least_id o.home pool.files) obtains
    where
      from : (p : Option ℕ) → Obtains o.home pool.greatest p x y → heads y.now.disk ≡ heads x.now.disk
      from (Some id) e = ap (λ (c : Content). heads c.now.disk) e
      from None e = ap (λ (c : Content). heads c.now.disk) e ∙ heads-with _ x.now.disk refl

-- ---- from a blank file to one in use

-- what is known of the moment at which a blank file was handed out
pub record IsHanded (o : Opening) (b : BlankFile) (number : ℕ) (m : Moment) : Type 0 where
  pub differ : IdsDiffer m.disk
  pub there : BlankThere b m.disk
  pub least : IsLeastOnDisk b.home.part b.home.kib b.id m.disk
  pub next : newest_number (files_on o m.disk) + 1 ≡ number
  pub due : IsEpochDue o.epoch (files_on o m.disk)

-- the header names the journal, and the file's pool and serial
pub record IsOwnHeader (o : Opening) (b : BlankFile) (header : FileHeader) : Type 0 where
  pub legal : IsTrue (is_legal_header header)
  pub blank : HeadsBlank b header
  pub kind : header.kind ≡ o.kind
  pub name : header.name ≡ o.name
  pub part : header.part ≡ o.home.part
  pub kib : header.kib ≡ o.home.kib
  pub epoch : header.epoch ≡ o.epoch

module _ (o : Opening) (b : BlankFile) (header : FileHeader) (own : IsOwnHeader o b header) where
  abbrev R : Moment → Moment → Type 0
  R = IsTakeStep o

  abbrev value : HeadedFile
  value = record { id = b.id; header = header }

  abbrev wrote : Moment → Moment
  wrote = header_written b.id header

  abbrev synced : Moment → Moment
  synced = header_synced b.id header

  module _ (m : Moment) (is : IsHanded o b header.number m) where
    blank : (f : FileState) × (file_of b.id m.disk ≡ Some f) × (f.place ≡ Empty b.home.part b.home.kib)
    blank = blank_found b (file_of b.id m.disk) is.there

    empty : is_in_use blank.0.place ≡ false
    empty = ap is_in_use blank.2

    differ_first : IdsDiffer (wrote m).disk
    differ_first = differ_change b.id (write (header_spelling header)) (λ f. refl) m.disk is.differ

    differ_second : IdsDiffer (synced m).disk
    differ_second = differ_change b.id sync (λ f. refl) (wrote m).disk differ_first

    found_first : file_of b.id (wrote m).disk ≡ Some (write (header_spelling header) blank.0)
    found_first = own_change b.id (write (header_spelling header)) (λ f. refl) m.disk blank.0 blank.1

    step_first : IsTakeStep o m (wrote m)
    step_first =
        let fits : 0 + length (header_spelling header) ≤ 4096 = omega (arith, header_length header own.legal) in
        take_change o b.id (write (header_spelling header)) (λ f. refl) m is.differ blank.0 blank.1 empty (front_meets (header_spelling header) blank.0 b.home.part b.home.kib blank.2 fits)
        (λ used. absurd (never (is_in_use blank.0.place) used empty))
        (own_step o b.id (write (header_spelling header)) (λ f. refl) m is.differ blank.0 blank.1 (empty_changes o m blank.0 (write (header_spelling header) blank.0) empty empty)
        (front_is_step b.id 0 (header_spelling header) m (wrote m) is.differ fits refl))

    step_second : IsTakeStep o (wrote m) (synced m)
    step_second =
        let f : FileState = write (header_spelling header) blank.0 in
        take_change o b.id sync (λ f. refl) (wrote m) differ_first f found_first empty (λ w e. absurd (some_more f.pending w e)) (λ used. refl)
        (own_step o b.id sync (λ f. refl) (wrote m) differ_first f found_first (empty_changes o (wrote m) f (sync f) empty empty) (sync_is_step b.id (wrote m) (synced m) differ_first refl))

    none_first : newly_used m (wrote m) ≡ []
    none_first = none_came m (wrote m) (none_change b.id (write (header_spelling header)) (λ f. refl) (λ f. refl) m is.differ)

    none_second : newly_used (wrote m) (synced m) ≡ []
    none_second = none_came (wrote m) (synced m) (none_change b.id sync (λ f. refl) (λ f. refl) (wrote m) differ_first)

    -- the journal has the same files still
    files_second : files_on o (synced m).disk ≡ files_on o m.disk
    files_second =
        files-same o m.disk (synced m).disk
        (ap (λ i. map headed (in_use_of i)) (full-sync b.id (wrote m).disk)
        ∙ heads-unused b.id blank.0 (write (header_spelling header)) m.disk (split b.id blank.0 m.disk is.differ blank.1) empty empty)
      where
        in_use_of : Rattle.qls_site.specs.Disk.Image → List Rattle.qls_site.specs.declared.site.ImageFile.ImageFile
        in_use_of i = Rattle.qls_meaning.specs.Journals.in_use i

    -- it comes into use
    module _ (there : HeadedThere value (synced m).disk) (least : IsLeastOnDisk b.home.part b.home.kib b.id (synced m).disk) where
      head : (f : FileState) × (file_of b.id (synced m).disk ≡ Some f) × IsHeaded value (Some f)
      head = headed_found value (file_of b.id (synced m).disk) there

      least_own : IsLeastOnDisk header.part header.kib b.id (synced m).disk
      least_own =
          subst (λ p. IsLeastOnDisk p header.kib b.id (synced m).disk) (sym own.blank.part)
          (subst (λ k. IsLeastOnDisk b.home.part k b.id (synced m).disk) (sym own.blank.kib) least)

      seen : header_fields (take 4096 (all_written head.0.pending head.0.stable)) ≡ header
      seen = header_seen header (all_written head.0.pending head.0.stable) own.legal (ap (λ (ws : List Write). take 4096 (all_written ws head.0.stable)) head.2.1 ∙ head.2.2.stable)

      is_next : IsOwnNext o (synced m) (linking head.0) header
      is_next = record {
        legal = reads_header header head.0 own.legal head.2.2;
        kind = own.kind;
        name = own.name;
        part = own.part;
        kib = own.kib;
        epoch = own.epoch;
        due = subst (IsEpochDue o.epoch) (sym files_second) is.due;
        number = sym is.next ∙ ap (λ (fs : List Headed). newest_number fs + 1) (sym files_second);
      }

      step_third : IsTakeStep o (synced m) (put_in_use b.id (synced m))
      step_third =
          take_change o b.id linking (λ f. refl) (synced m) differ_second head.0 head.1 (ap is_in_use head.2.0) (λ w e. absurd (longer head.0.pending w e)) (λ used. head.2.1)
          (own_step o b.id linking (λ f. refl) (synced m) differ_second head.0 head.1
          (link_changes o (synced m) head.0 (linking head.0) header (ap is_in_use head.2.0)
          (is_of-own o.kind o.name (headed (full_file (linking head.0))) (ap (λ (h : FileHeader). h.kind) seen ∙ own.kind) (ap (λ (h : FileHeader). h.name) seen ∙ own.name)) is_next)
          (link_step value (synced m) own.legal differ_second there least_own))

      came_third : newly_used (synced m) (put_in_use b.id (synced m)) ≡ headed (full_file (linking head.0)) ∷ []
      came_third = link_came (synced m) b.id head.0 differ_second head.1 (ap is_in_use head.2.0)

      serials_third : serials_taken (synced m) (put_in_use b.id (synced m) ∷ []) ≡ b.serial ∷ []
      serials_third = ap (λ (fs : List Headed). serials fs ++ []) came_third ∙ ap (λ (h : FileHeader). h.serial ∷ []) seen ∙ ap (λ n. n ∷ []) own.blank.serial

  -- ---- the header

  head_failed : (e : SiteError) (y z : Content) → IsHanded o b header.number y.now → Heads {X = Unit {0}} b.id header (Err e) y z → Took R [] y z
  head_failed e y z is (since, moments, inl k) = record { since = []; moments = moments ∙ ap (λ (ms : List Moment). y.moments ++ ms) k; chain = tt; serials = refl }
  head_failed e y z is (since, moments, inr (inl k)) = record {
    since = wrote y.now ∷ [];
    moments = moments ∙ ap (λ (ms : List Moment). y.moments ++ ms) k;
    chain = (step_first y.now is, tt);
    serials = ap (λ (fs : List Headed). serials fs ++ []) (none_first y.now is);
  }
  head_failed e y z is (since, moments, inr (inr k)) =
      let first : Moment = wrote y.now in
      record {
        since = first ∷ first ∷ [];
        moments = moments ∙ ap (λ (ms : List Moment). y.moments ++ ms) k;
        chain = (step_first y.now is, (take_same o first (differ_first y.now is) (own_same o first (differ_first y.now is)), tt));
        serials =
            ap (λ (fs : List Headed). serials fs ++ serials_taken first (first ∷ [])) (none_first y.now is)
            ∙ ap (λ (fs : List Headed). serials fs ++ []) (none_again first (differ_first y.now is));
      }

  headed_brought : (y z : Content) → IsHanded o b header.number y.now → Heads {X = Unit {0}} b.id header (Ok tt) y z → Brought R [] y z
  headed_brought y z is done = (
    record {
      since = wrote y.now ∷ synced y.now ∷ [];
      moments = ap (λ (c : Content). c.moments) done;
      chain = (step_first y.now is, (step_second y.now is, tt));
      last = ap (λ (c : Content). c.now) done;
    },
    ap (λ (fs : List Headed). serials fs ++ serials_taken (wrote y.now) (synced y.now ∷ [])) (none_first y.now is) ∙ ap (λ (fs : List Headed). serials fs ++ []) (none_second y.now is),
  )

  -- ---- the relocation

  module _ (y z w : Content) (is : IsHanded o b header.number y.now) (done : Heads {X = Unit {0}} b.id header (Ok tt) y z) where
    at : z.now ≡ synced y.now
    at = ap (λ (c : Content). c.now) done

    there_now : HeadedThere value (synced y.now).disk
    there_now = subst (λ (m : Moment). HeadedThere value m.disk) at (headed_there b header (tt {0}) own.legal own.blank y z done is.there)

    least_now : IsLeastOnDisk b.home.part b.home.kib b.id (synced y.now).disk
    least_now = subst (λ (m : Moment). IsLeastOnDisk b.home.part b.home.kib b.id m.disk) at (heads_least b.id header (tt {0}) b.home.part b.home.kib b.id y z done is.least)

    link_failed : (e : SiteError) → Leads {X = Unit {0}} (Acts (put_in_use b.id)) (MayAct (put_in_use b.id)) (Err e) z w → TookAtMost R b.serial z w
    link_failed site.Memory same = inl (took_same R z w same)
    link_failed site.Failed may =
        let m : Moment = synced y.now in
        let differ = differ_second y.now is in
        inr (record {
          since = z.now ∷ put_in_use b.id z.now ∷ [];
          moments = may.moments;
          chain = subst (λ (n : Moment). Chain R n (n ∷ put_in_use b.id n ∷ [])) (sym at) (take_same o m differ (own_same o m differ), (step_third y.now is there_now least_now, tt));
          serials =
              ap (λ (n : Moment). serials_taken n (n ∷ put_in_use b.id n ∷ [])) at
              ∙ ap (λ (fs : List Headed). serials fs ++ serials_taken m (put_in_use b.id m ∷ [])) (none_again m differ) ∙ serials_third y.now is there_now least_now;
        })

    linked_brought : Acts (put_in_use b.id) z w → Brought R (b.serial ∷ []) z w
    linked_brought acts = (
      record {
        since = put_in_use b.id z.now ∷ [];
        moments = ap (λ (c : Content). c.moments) acts;
        chain = subst (λ (n : Moment). Chain R n (put_in_use b.id n ∷ [])) (sym at) (step_third y.now is there_now least_now, tt);
        last = ap (λ (c : Content). c.now) acts;
      },
      ap (λ (n : Moment). serials_taken n (put_in_use b.id n ∷ [])) at ∙ serials_third y.now is there_now least_now,
    )

  -- ---- from the pool on

  module _ (pool new_pool : PoolState) (at_home : b.home ≡ o.home) (handed : HandsOut o.home pool new_pool b.id) where
    is_handed : (x y : Content) → MayTake o pool header.number x.now.disk → Obtains o.home pool.greatest (least_id o.home pool.files) x y → IsHanded o b header.number y.now
    is_handed x y may obtains = record {
      differ = blank_ids o.home pool x y obtains may.whole;
      there = blank_there o.home pool new_pool b [] x y at_home handed obtains may.whole.1;
      least = subst (λ (p : PoolId). IsLeastOnDisk p.part p.kib b.id y.now.disk) (sym at_home) (blank_least o.home pool new_pool b.id x y handed obtains may.whole);
      next = ap (λ (fs : List Headed). newest_number fs + 1) (files-same o x.now.disk y.now.disk (obtained_heads o pool x y obtains)) ∙ may.next;
      due = subst (IsEpochDue o.epoch) (sym (files-same o x.now.disk y.now.disk (obtained_heads o pool x y obtains))) may.due;
    }

    pub told_head_failed : (e : SiteError) (a y z : Option Content) → IfSome a (OnDisk (MayTake o pool header.number)) → Tells (Obtains o.home pool.greatest (least_id o.home pool.files)) a y
        → Tells (Heads {X = Unit {0}} b.id header (Err e)) y z → Tells (TookAtMost R b.serial) a z
    told_head_failed e None None None may obtains failed = tt
    told_head_failed e None None (Some z) may obtains failed = absurd failed
    told_head_failed e None (Some y) z may obtains failed = absurd obtains
    told_head_failed e (Some a) None z may obtains failed = absurd obtains
    told_head_failed e (Some a) (Some y) None may obtains failed = absurd failed
    told_head_failed e (Some a) (Some y) (Some z) may obtains failed =
        inl (brought_took R [] a y z (obtained_brought o pool a y may.whole obtains) (head_failed e y z (is_handed a y may obtains) failed))

    pub told_link_failed : (e : SiteError) (a y z w : Option Content) → IfSome a (OnDisk (MayTake o pool header.number)) → Tells (Obtains o.home pool.greatest (least_id o.home pool.files)) a y
        → Tells (Heads {X = Unit {0}} b.id header (Ok tt)) y z → Tells (Leads {X = Unit {0}} (Acts (put_in_use b.id)) (MayAct (put_in_use b.id)) (Err e)) z w → Tells (TookAtMost R b.serial) a w
    told_link_failed e None None None None may obtains done links = tt
    told_link_failed e None None None (Some w) may obtains done links = absurd links
    told_link_failed e None None (Some z) w may obtains done links = absurd done
    told_link_failed e None (Some y) z w may obtains done links = absurd obtains
    told_link_failed e (Some a) None z w may obtains done links = absurd obtains
    told_link_failed e (Some a) (Some y) None w may obtains done links = absurd done
    told_link_failed e (Some a) (Some y) (Some z) None may obtains done links = absurd links
    told_link_failed e (Some a) (Some y) (Some z) (Some w) may obtains done links =
        let is = is_handed a y may obtains in
        let first = brought_then R [] a y z (obtained_brought o pool a y may.whole obtains) (headed_brought y z is done) in
        at_most_then R b.serial a z w first (link_failed y z w is done e links)

    brought_file : (a y z w : Content) → MayTake o pool header.number a.now.disk → Obtains o.home pool.greatest (least_id o.home pool.files) a y → Heads {X = Unit {0}} b.id header (Ok tt) y z
        → Acts (put_in_use b.id) z w → Brought R (b.serial ∷ []) a w
    brought_file a y z w may obtains done links =
        let is = is_handed a y may obtains in
        let first = brought_then R [] a y z (obtained_brought o pool a y may.whole obtains) (headed_brought y z is done) in
        brought_then R (b.serial ∷ []) a z w first (linked_brought y z w is done links)

    pub told_file : (a y z w : Option Content) → IfSome a (OnDisk (MayTake o pool header.number)) → Tells (Obtains o.home pool.greatest (least_id o.home pool.files)) a y
        → Tells (Heads {X = Unit {0}} b.id header (Ok tt)) y z → Tells (Acts (put_in_use b.id)) z w → Tells (Brought R (b.serial ∷ [])) a w
    told_file None None None None may obtains done links = tt
    told_file None None None (Some w) may obtains done links = absurd links
    told_file None None (Some z) w may obtains done links = absurd done
    told_file None (Some y) z w may obtains done links = absurd obtains
    told_file (Some a) None z w may obtains done links = absurd obtains
    told_file (Some a) (Some y) None w may obtains done links = absurd done
    told_file (Some a) (Some y) (Some z) None may obtains done links = absurd links
    told_file (Some a) (Some y) (Some z) (Some w) may obtains done links = brought_file a y z w may obtains done links

-- ---- what was drawn

-- a draw that failed drew nothing
drawn_kept : {E : Type 0} (exact : Bool) (e : E) (a b : Option Content) (x y : Option (List ℕ)) → Tells TakesNone a b → Draws x y (Err e) → DrawsTaken exact a b x y
drawn_kept exact e a b x None h d = tt
drawn_kept exact e a b None (Some y) h d = absurd d
drawn_kept exact e a b (Some x) (Some y) h d = drawn_none exact a b (Some x) (Some y) h (ap Some d)

-- after what the pool answered
pub told_blank_goes : (o : Opening) (pool : PoolState) (number : ℕ) (X : Type 0) (e : TakeFault) (a b : Option Content) → IfSome a (OnDisk (MayTake o pool number)) → Tells (TakesBlank o.home pool (Err e)) a b
    → Tells (GoesBy {X = X} (IsTakeStep o) (Err (fault_of_take e))) a b
told_blank_goes o pool number X take_fault.Failed a b start h = told_took (IsTakeStep o) [] a b (told_blank_failed o pool number take_fault.Failed a b start h)
told_blank_goes o pool number X take_fault.Draw a b start h = told_took (IsTakeStep o) [] a b (told_blank_failed o pool number take_fault.Draw a b start h)
told_blank_goes o pool number X take_fault.Spent a b start h = Tells-weaken (λ x y. y ≡ x) (Arrives (IsTakeStep o)) a b h (λ x y. Arrives-same (IsTakeStep o) x y)
told_blank_goes o pool number X take_fault.Memory a b start h = told_took (IsTakeStep o) [] a b (told_blank_failed o pool number take_fault.Memory a b start h)

-- after a fault of the site
pub site_goes : (R : Moment → Moment → Type 0) (X : Type 0) (e : SiteError) (a b : Option Content) → Tells (Passes R) a b → Tells (GoesBy {X = X} R (Err (fault_of_site e))) a b
site_goes R X site.Failed a b h = h
site_goes R X site.Memory a b h = h

pub blank_drawn : (R : Moment → Moment → Type 0) (X : Type 0) (e : TakeFault) (a b : Option Content) (x y : Option (List ℕ)) → Tells (Took R []) a b → DrawsSerial (Err e) x y → DrawsTaken (is_exact {X = X} (Err (fault_of_take e))) a b x y
blank_drawn R X take_fault.Failed a b x y h d = drawn_at_most R DrawError d.0 a b x y (told_few R d.0 a b h) d.1
blank_drawn R X take_fault.Draw a b x y h d = drawn_kept false draw.Failed a b x y (told_none R a b h) d
blank_drawn R X take_fault.Spent a b x y h d = drawn_none true a b x y (told_none R a b h) d
blank_drawn R X take_fault.Memory a b x y h d = drawn_at_most R DrawError d.0 a b x y (told_few R d.0 a b h) d.1

-- a fault of the site may leave one number without a file
pub site_inexact : (X : Type 0) (e : SiteError) → is_exact {X = X} (Err (fault_of_site e)) ≡ false
site_inexact X site.Failed = refl
site_inexact X site.Memory = refl

pub file_drawn : (R : Moment → Moment → Type 0) (serial : ℕ) (a b : Option Content) (x y : Option (List ℕ)) → Tells (Brought R (serial ∷ [])) a b → Draws {E = DrawError} x y (Ok serial) → DrawsTaken true a b x y
file_drawn R serial a b x y h d = drawn_one DrawError serial a b x y (Tells-weaken (Brought R (serial ∷ [])) (λ p q. taken_since p q ≡ serial ∷ []) a b h (brought_taken R (serial ∷ []))) d

pub brought_arrives : (R : Moment → Moment → Type 0) (taken : List ℕ) (a b : Option Content) → Tells (Brought R taken) a b → Tells (Arrives R) a b
brought_arrives R taken a b h = Tells-weaken (Brought R taken) (Arrives R) a b h (λ x y k. k.0)

-- ---- the header as it is planned

pub own_header : (o : Opening) (b : BlankFile) (fresh : FreshFile) (h : FileHeader) (serial number : ℕ) → h ≡ header_for o serial number fresh → serial ≡ b.serial → b.home ≡ o.home → IsTrue (is_legal_header h)
    → IsOwnHeader o b h
own_header o b fresh h serial number is own at legal = record {
  legal = legal;
  blank = record {
    serial = ap (λ (x : FileHeader). x.serial) is ∙ own;
    part = ap (λ (x : FileHeader). x.part) is ∙ ap (λ (p : PoolId). p.part) (sym at);
    kib = ap (λ (x : FileHeader). x.kib) is ∙ ap (λ (p : PoolId). p.kib) (sym at);
  };
  kind = ap (λ (x : FileHeader). x.kind) is;
  name = ap (λ (x : FileHeader). x.name) is;
  part = ap (λ (x : FileHeader). x.part) is;
  kib = ap (λ (x : FileHeader). x.kib) is;
  epoch = ap (λ (x : FileHeader). x.epoch) is;
}

pub may_at : (o : Opening) (pool : PoolState) (m n : ℕ) (a : Option Content) → m ≡ n → IfSome a (OnDisk (MayTake o pool n)) → IfSome a (OnDisk (MayTake o pool m))
may_at o pool m n a e h = subst (λ k. IfSome a (OnDisk (MayTake o pool k))) (sym e) h

-- ---- the next file

pub newest_push : (fs : List Headed) (f : Headed) → newest_number (fs ++ f ∷ []) ≡ f.header.number
newest_push [] f = refl
newest_push (g ∷ []) f = refl
newest_push (g ∷ k ∷ fs) f = newest_push (k ∷ fs) f

lesser_push : (n : ℕ) (fs : List Headed) (f : Headed) → AllByRecursion (λ g. g.header.number < n) fs → f.header.number ≡ n → AllByRecursion (λ g. g.header.number < n + 1) (fs ++ f ∷ [])
lesser_push n [] f h e = (omega (arith, e), tt)
lesser_push n (g ∷ fs) f h e = (omega (arith, h.0), lesser_push n fs f h.1 e)

due_push : (epoch : ℕ) (fs : List Headed) (f : Headed) → f.header.epoch ≡ epoch → IsEpochDue epoch (fs ++ f ∷ [])
due_push epoch [] f e = inl e
due_push epoch (g ∷ []) f e = inl e
due_push epoch (g ∷ k ∷ fs) f e = due_push epoch (k ∷ fs) f e

module _ (o : Opening) (pool left : PoolState) (h : HeadedFile) (legal : IsTrue (is_legal_header h.header)) (part : h.header.part ≡ o.home.part) (kib : h.header.kib ≡ o.home.kib)
    (kind : h.header.kind ≡ o.kind) (name : h.header.name ≡ o.name) (epoch : h.header.epoch ≡ o.epoch) where
  next_after : (a b : Content) → TakesFile o.home pool left h a b → MayTake o pool h.header.number a.now.disk → MayTake o left (h.header.number + 1) b.now.disk
  next_after a b t may =
      let more = journal_after o.home pool left h a b t legal part kib o may.whole kind name refl may.lesser in
      let number : more.file.header.number ≡ h.header.number = ap (λ (x : FileHeader). x.number) more.is.header in
      record {
        whole = (ids_after o.home pool left h a b t legal part kib may.whole, pool_after o.home pool left h a b t legal part kib may.whole.1);
        next = ap (λ (fs : List Headed). newest_number fs + 1) more.files ∙ ap (λ n. n + 1) (newest_push (files_on o a.now.disk) more.file ∙ number);
        lesser = subst (λ (fs : List Headed). AllByRecursion (λ g. g.header.number < h.header.number + 1) fs) (sym more.files) (lesser_push h.header.number (files_on o a.now.disk) more.file may.lesser number);
        due = subst (IsEpochDue o.epoch) (sym more.files) (due_push o.epoch (files_on o a.now.disk) more.file (ap (λ (x : FileHeader). x.epoch) more.is.header ∙ epoch));
      }

  pub told_next : (number : ℕ) → h.header.number ≡ number → (a b : Option Content) → Tells (TakesFile o.home pool left h) a b → IfSome a (OnDisk (MayTake o pool number)) → IfSome b (OnDisk (MayTake o left (number + 1)))
  told_next number e None None t may = tt
  told_next number e None (Some y) t may = absurd t
  told_next number e (Some x) None t may = absurd t
  told_next number e (Some x) (Some y) t may =
      subst (λ n. MayTake o left (n + 1) y.now.disk) e (next_after x y t (subst (λ n. MayTake o pool n x.now.disk) (sym e) may))
