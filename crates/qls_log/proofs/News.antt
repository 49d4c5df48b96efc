-- A new log.
use Rattle.std.proofs.Common.{◌≡◌, ℕ, ◌+◌, ◌-◌, ◌*◌, ◌^◌, ◌<◌, ◌≤◌, true, cond, eqb, ltb, List, [], ◌∷◌, ◌++◌, map, length, drop, append-nil, Option, Some, None, IfSome, IsTrue, refl, sym, ap, ◌∙◌, subst, arith, ⊎_elim}
use Rattle.std.proofs.lemmas.Bool.{cases_lt}
use Rattle.std.proofs.Math.Seq.{drop-append_seam}
use Rattle.std.specs.List.{AllByRecursion}
use Rattle.qls_site.specs.Content.{Content, Tells, moments_since}
use Rattle.qls_filehdr.specs.declared.FileHeader.{FileHeader}
use Rattle.qls_filehdr.specs.Limits.{is_legal_header}
use Rattle.qls_filehdr.proofs.HeaderTrip.{legal_parts}
use Rattle.qls_meaning.specs.Journals.{Headed}
use Rattle.qls_meaning.specs.Reading.{Placed, stream, begin_place, first_place, end_from, epoch_reading, epoch_end, located, journal_reading}
use Rattle.qls_meaning.specs.History.{AllUnmarked, IsUnmarked}
use Rattle.qls_meaning.specs.Orderly.{journal_on}
use Rattle.qls_laws.specs.Areas.{IsUnmarkedAt}
use Rattle.qls_laws.proofs.Unmarked.{held_unmarked, reading_ends}
use Rattle.qls_pool.specs.Pools.{PoolState, IsSpent}
use Rattle.qls_pool.specs.Files.{HeadedFile, IsWholePool, OnDisk}
use Rattle.qls_log.specs.declared.opening.Opening.{Opening}
use Rattle.qls_log.specs.Logs.{capacity_in, AreHeaded}
use Rattle.qls_log.specs.Taking.{TakesFiles, MeetsEnd}
use Rattle.qls_log.specs.Standing.{files_on, AreThoseFiles, IsThatFile, LogThere, StandsWith, LastIsUnmarked}
use Rattle.qls_log.specs.Appending.{new_log, ReadsNone, ReadsNothing, LeavesOthers}
use Rattle.qls_log.specs.Reads.{BeginsReading}
use Rattle.qls_log.proofs.Flushes.{all_but}
use Rattle.qls_log.proofs.Gains.{has_files, GainedAll, gained_all, LastUnmarked, others_all, answered_all}

pub spent_at_once : (o : Opening) (pool : PoolState) → o.epoch ≡ 1 → MeetsEnd o 0 1 pool → IsSpent o.home pool
spent_at_once o pool first m = ⊎_elim (λ e. absurd (none m.taken m.fewer e)) (λ s. ⊎_elim (λ e. absurd (below o.epoch first e)) (λ t. t) s) m.last
  where
    none : (k : ℕ) → k < 1 → 0 + k ≡ 2 ^ 62 - 1 → ⊥
    none k h e = omega arith

    below : (n : ℕ) → n ≡ 1 → n ≡ 2 ^ 62 → ⊥
    below n a b = omega (arith, a, b)

-- nothing is read of an unmarked file
unmarked_start : (f : Headed) → f.header.serial < 2 ^ 64 → IsUnmarked f → 128 ≤ length f.area → IsUnmarkedAt (f ∷ []) 0
unmarked_start f fits u room =
    held_unmarked (f ∷ []) 0 0 (record { file = f; within = 0 }) (ap (λ b. cond b (Some (record { file = f; within = 0 })) None) (less (length f.area) room)) fits refl (omega arith)
    (λ unit from room. u unit room)
  where
    less : (n : ℕ) → 128 ≤ n → ltb 0 n ≡ true
    less n h = grind arith

begins_there : (f : Headed) → f.header.first ≡ 4096 → begin_place true (f ∷ []) ≡ 0
begins_there f first = ap (λ k. cond (eqb k 0) (length f.area + 0) (k - 4096)) first

reads_none : (f : Headed) → f.header.first ≡ 4096 → f.header.serial < 2 ^ 64 → IsUnmarked f → 128 ≤ length f.area → epoch_reading true (f ∷ []) ≡ []
reads_none f first fits u room =
    reading_ends true (f ∷ []) [] tt (drop (begin_place true (f ∷ [])) (stream (f ∷ [])), refl) (subst (IsUnmarkedAt (f ∷ [])) (sym (begins_there f first)) (unmarked_start f fits u room))

pub those_one : (cap : ℕ) (h : HeadedFile) (fs : List Headed) → AreThoseFiles cap (h ∷ []) fs → (f : Headed) × (fs ≡ f ∷ []) × IsThatFile cap h f
those_one cap h [] t = absurd t
those_one cap h (f ∷ []) t = (f, refl, t.0)
those_one cap h (f ∷ g ∷ fs) t = absurd t.1

module _ (o : Opening) (pool left : PoolState) (h : HeadedFile) (a b : Content) (t : TakesFiles o.home pool left (h ∷ []) a b)
    (headed : AreHeaded o 0 (record { first = 4096; rid = 0 } ∷ []) (h ∷ [])) (legal : AllByRecursion (λ h. IsTrue (is_legal_header h.header)) (h ∷ []))
    (whole : IsWholePool pool a.now.disk) (new : files_on o a.now.disk ≡ []) where
  gains : GainedAll o [] (h ∷ []) 0 left a b
  gains =
      gained_all o pool left [] (h ∷ []) (record { first = 4096; rid = 0 } ∷ []) 0 1 a b t headed legal whole refl
      (record { differ = whole.0; apart = tt; rest = tt; files = subst (AreThoseFiles (capacity_in o) []) (sym new) tt })

  one : (f : Headed) × (files_on o b.now.disk ≡ f ∷ []) × IsThatFile (capacity_in o) h f
  one = those_one (capacity_in o) h (files_on o b.now.disk) gains.resting.files

  first_is : one.0.header.first ≡ 4096
  first_is = ap (λ (x : FileHeader). x.first) one.2.header ∙ ap (λ (x : FileHeader). x.first) headed.0

  pub new_there : LogThere (new_log o h) b.now.disk
  new_there = record {
    waiting = tt;
    there = has_files o (h ∷ []) b.now.disk gains.resting;
    rests = all_but [] (h ∷ []) b.now.disk gains.resting.rest;
  }

  no_end : (n : ℕ) → 0 ≡ 0 * n + 0
  no_end n = omega arith

  start_stands : StandsWith (new_log o h) [] b.now.disk
  start_stands = record { begins = ap (begin_place true) one.1 ∙ begins_there one.0 first_is; stand = tt; ends = no_end (capacity_in o) }

  pub new_stands : StandsWith (new_log o h) [] b.now.disk
  new_stands = start_stands

  came_one : (fs : List Headed) → fs ≡ one.0 ∷ [] → LastUnmarked fs → IsUnmarked one.0
  came_one fs e u = subst LastUnmarked e u

  journal_one : journal_on b.now.disk o.kind o.name ≡ record { kind = o.kind; name = o.name; files = one.0 ∷ [] }
  journal_one = ap (λ (fs : List Headed). record { kind = o.kind; name = o.name; files = fs }) one.1

  pub new_reads : 128 ≤ capacity_in o → ReadsNone (new_log o h) a b
  new_reads room unmarked =
      let since : moments_since a b ≡ gains.since = ap (drop (length a.moments)) gains.moments ∙ drop-append_seam a.moments gains.since in
      let came : gains.came ≡ one.0 ∷ [] = sym (gains.files ∙ ap (λ (fs : List Headed). fs ++ gains.came) new) ∙ one.1 in
      let u : IsUnmarked one.0 = came_one gains.came came (gains.unmarked (subst (AllUnmarked a.now) since unmarked)) in
      let fits : one.0.header.serial < 2 ^ 64 = ap_serial (legal_parts h.header legal.0).serial in
      let none : epoch_reading true (one.0 ∷ []) ≡ [] = reads_none one.0 first_is fits u (omega (arith, one.2.area, room)) in
      record {
        reading = ap journal_reading journal_one ∙ ap (λ (rs : List Placed). map (located (one.0 ∷ [])) rs ++ []) none;
        behind = subst (LastIsUnmarked 0) (sym one.1) (λ unit from room. u unit room);
      }
    where
      ap_serial : h.header.serial < 2 ^ 64 → one.0.header.serial < 2 ^ 64
      ap_serial s = subst (λ (x : FileHeader). x.serial < 2 ^ 64) (sym one.2.header) s

  -- the reading of the new log ends at the front of its file
  pub new_begins : 128 ≤ capacity_in o → BeginsReading (new_log o h) a b
  new_begins room unmarked =
      let nothing : ReadsNothing (new_log o h) b = new_reads room unmarked in
      let none : epoch_reading true (files_on o b.now.disk) ≡ [] = no_reads (files_on o b.now.disk) (epoch_reading true (files_on o b.now.disk)) (sym (one_reading (files_on o b.now.disk) one.0 one.1) ∙ nothing.reading) in
      record {
        reading = nothing.reading;
        ends = no_older (capacity_in o) (epoch_end true (files_on o b.now.disk)) ∙ ap (end_from (first_place (files_on o b.now.disk))) none ∙ start_stands.begins ∙ start_stands.ends;
        behind = nothing.behind;
      }
    where
      no_older : (c n : ℕ) → 0 * c + n ≡ n
      no_older c n = omega arith

      no_reads : (fs : List Headed) (rs : List Placed) → map (located fs) rs ≡ [] → rs ≡ []
      no_reads fs [] e = refl
      no_reads fs (r ∷ rs) e = absurd (cc)

      one_reading : (fs : List Headed) (f : Headed) → fs ≡ f ∷ [] → journal_reading (record { kind = o.kind; name = o.name; files = fs }) ≡ map (located fs) (epoch_reading true fs)
      one_reading fs f e =
          ap (λ (gs : List Headed). journal_reading (record { kind = o.kind; name = o.name; files = gs })) e ∙ append-nil (map (located (f ∷ [])) (epoch_reading true (f ∷ [])))
          ∙ sym (ap (λ (gs : List Headed). map (located gs) (epoch_reading true gs)) e)

-- ---- told

module _ (o : Opening) (pool left : PoolState) (h : HeadedFile) (headed : AreHeaded o 0 (record { first = 4096; rid = 0 } ∷ []) (h ∷ [])) (legal : AllByRecursion (λ h. IsTrue (is_legal_header h.header)) (h ∷ [])) where
  pub told_new : (a b : Option Content) → Tells (TakesFiles o.home pool left (h ∷ [])) a b → IfSome a (OnDisk (IsWholePool pool)) → IfSome a (OnDisk (λ d. files_on o d ≡ [])) → IfSome b (OnDisk (LogThere (new_log o h)))
  told_new None None t w n = tt
  told_new None (Some y) t w n = absurd t
  told_new (Some x) None t w n = absurd t
  told_new (Some x) (Some y) t w n = new_there o pool left h x y t headed legal w n

  pub told_start : (a b : Option Content) → Tells (TakesFiles o.home pool left (h ∷ [])) a b → IfSome a (OnDisk (IsWholePool pool)) → IfSome a (OnDisk (λ d. files_on o d ≡ [])) → IfSome b (OnDisk (StandsWith (new_log o h) []))
  told_start None None t w n = tt
  told_start None (Some y) t w n = absurd t
  told_start (Some x) None t w n = absurd t
  told_start (Some x) (Some y) t w n = new_stands o pool left h x y t headed legal w n

  pub told_reads : (a b : Option Content) → 128 ≤ capacity_in o → Tells (TakesFiles o.home pool left (h ∷ [])) a b → IfSome a (OnDisk (IsWholePool pool)) → IfSome a (OnDisk (λ d. files_on o d ≡ [])) → Tells (ReadsNone (new_log o h)) a b
  told_reads None None room t w n = tt
  told_reads None (Some y) room t w n = absurd t
  told_reads (Some x) None room t w n = absurd t
  told_reads (Some x) (Some y) room t w n = new_reads o pool left h x y t headed legal w n room

  pub told_begins : (a b : Option Content) → 128 ≤ capacity_in o → Tells (TakesFiles o.home pool left (h ∷ [])) a b → IfSome a (OnDisk (IsWholePool pool)) → IfSome a (OnDisk (λ d. files_on o d ≡ [])) → Tells (BeginsReading (new_log o h)) a b
  told_begins None None room t w n = tt
  told_begins None (Some y) room t w n = absurd t
  told_begins (Some x) None room t w n = absurd t
  told_begins (Some x) (Some y) room t w n = new_begins o pool left h x y t headed legal w n room

pub told_others : (o : Opening) (pool left : PoolState) (taken : List HeadedFile) (newest : ℕ) (fs : List Rattle.qls_blocks.specs.declared.plan.FreshFile.FreshFile) → AreHeaded o newest fs taken
    → AllByRecursion (λ h. IsTrue (is_legal_header h.header)) taken → (a b : Option Content) → Tells (TakesFiles o.home pool left taken) a b → Tells (LeavesOthers taken) a b
told_others o pool left taken newest fs headed legal None None t = tt
told_others o pool left taken newest fs headed legal None (Some y) t = absurd t
told_others o pool left taken newest fs headed legal (Some x) None t = absurd t
told_others o pool left taken newest fs headed legal (Some x) (Some y) t = record {
  files = λ id e. others_all o pool left taken fs newest x y t headed legal id e;
  answered = answered_all o pool left taken fs newest x y t headed legal;
}

pub room_of : (o : Opening) → Rattle.qls_model.specs.Limits.is_kib o.home.kib ≡ true → 128 ≤ capacity_in o
room_of o kib =
    let least : 4 ≤ o.home.kib = Rattle.std.proofs.lemmas.Bool.leb-true 4 o.home.kib (Rattle.std.proofs.lemmas.Bool.and_parts _ _ (Rattle.std.proofs.lemmas.Bool.and_parts _ _ kib).0).0 in
    omega (arith, least)
