-- The opening of a site's journals: what is known where a look at them ended it, and once they are open.
use Rattle.std.proofs.Common.{◌≡◌, ◌⊎◌, inl, inr, ℕ, ◌≤◌, List, [], ◌++◌, map, Option, Some, None, IfSome, Result, Ok, Err, IfOk, refl, sym, ap, ◌∙◌, subst, arith}
use Rattle.std.specs.List.{AllByRecursion}
use Rattle.qls_model.specs.declared.machine.PoolId.{PoolId}
use Rattle.qls_model.specs.declared.machine.QueueState.{QueueState}
use Rattle.qls_model.specs.Machine.{MachineState}
use Rattle.qls_model.specs.Sound.{IsNumbered}
use Rattle.qls_shape.specs.Claims.{each, ◌>>◌, ◌>>=◌}
use Rattle.qls_site.specs.Disk.{Image, IdsRise, full}
use Rattle.qls_site.specs.Content.{Content, Moment, OnlyLooks, Rose, Tells, moments_since}
use Rattle.qls_site.proofs.Told.{OnlyLooks-then, Tells-then}
use Rattle.qls_meaning.specs.Damage.{Damage, Checked, reading_claims, scanned, undamaged}
use Rattle.qls_meaning.specs.Journals.{Journal, journals_of}
use Rattle.qls_meaning.specs.Meaning.{meaning, meaning_of, entries_of, queues_of as queues_in}
use Rattle.qls_meaning.specs.Spent.{list_rid}
use Rattle.qls_pool.specs.Files.{IdsDiffer}
use Rattle.qls_pool.specs.Moments.{Arrives, EndsIn, Passes}
use Rattle.qls_pool.specs.Serials.{TakesNone, taken_since}
use Rattle.qls_pool.proofs.Moments.{Arrives-passes, Arrives-then, Passes-of}
use Rattle.qls_pool.proofs.Serials.{taken_then}
use Rattle.qls_log.specs.Leaving.{LeavesInOrder}
use Rattle.qls_queue.proofs.Writes.{rose_later}
use Rattle.qls_reading.specs.declared.fault.LogFault.{LogFault}
use Rattle.qls_reading.specs.declared.fault.LogFault.TheVariants as log
use Rattle.qls_reading.specs.ReadLogs.{LogCauses, journal_in}
use Rattle.qls_scan.specs.declared.answers.Found.{Found}
use Rattle.qls_scan.specs.declared.answers.ScanFault.{ScanFault}
use Rattle.qls_scan.specs.declared.answers.ScanFault.TheVariants as scan
use Rattle.qls_scan.specs.Found.{HasCause, IsFirstDamage, IsFound}
use Rattle.qls_journals.specs.declared.cause.Cause.{Cause}
use Rattle.qls_journals.specs.declared.cause.Cause.TheVariants as cause
use Rattle.qls_journals.specs.Answers.{SiteCauses}
use Rattle.qls_journals.specs.Homes.{SameHomes, homes_of, homes_on}
use Rattle.qls_journals.specs.Moments.{IsStoreStep}
use Rattle.qls_journals.specs.Opening.{Opens, OpensWritten, ReadingState, ReadsAll}
use Rattle.qls_journals.specs.State.{JournalsState, AreJournals, NonePast, queues_of}
use Rattle.qls_look.specs.declared.fault.OpenFault.{OpenFault}
use Rattle.qls_look.specs.declared.fault.OpenFault.TheVariants.{Failed, Draw, Spent, Memory, Damaged}
use Rattle.qls_look.specs.Looking.{LookCauses, NeverTakes, of_log, of_scan}
use Rattle.qls_look.proofs.There.{same_journals}
use Rattle.qls_store.specs.Opened.{Begins, FindsAs, StaysIfNonePast, fault_by}
use Rattle.qls_store.specs.Opening.{LooksIfDamaged}
use Rattle.qls_store.proofs.OpeningLooks.{looked_arrives, looked_leaves, looked_none, looked_still, looked_writes, written_after}
use Rattle.qls_store.proofs.OpeningSite.{differ_of}

-- ---- the damage

module _ (i : Image) where
  damage_scanned : (x : ScanFault) (r : Result Found ScanFault) → r ≡ Err x → IsFirstDamage i r → FindsAs i (Err (of_scan x))
  damage_scanned x r e h = by x (subst (IsFirstDamage i) e h)
    where
      by : (x : ScanFault) → IsFirstDamage i (Err x) → FindsAs i (Err (of_scan x))
      by scan.Failed h = tt
      by scan.Memory h = tt
      by (scan.Damaged file rule) h = ap (λ (r : Result (List Journal) Damage). r >>= λ js. each reading_claims js >> Ok js) h

  undamaged_is : scanned i ≡ Ok (journals_of i) → undamaged i ≡ (each reading_claims (journals_of i) >> Ok (journals_of i))
  undamaged_is e = ap (λ (r : Result (List Journal) Damage). r >>= λ js. each reading_claims js >> Ok js) e

  module _ (found : Found) (is : IsFound i found) where
    all_journals : map (journal_in i) found.journals ≡ journals_of i
    all_journals = ap (map (journal_in i)) is.journals ∙ same_journals i

    damage_read : (x : LogFault) → ReadsAll {X = Unit {0}} (map (journal_in i) found.journals) (Err x) → FindsAs i (Err (of_log x))
    damage_read log.Failed h = tt
    damage_read log.Memory h = tt
    damage_read (log.Damaged file rule) h =
        undamaged_is is.undamaged ∙ ap (λ (r : Checked). r >> Ok (journals_of i)) (ap (λ (js : List Journal). each reading_claims js) (sym all_journals) ∙ h)

    undamaged_read : each reading_claims (map (journal_in i) found.journals) ≡ Ok tt → undamaged i ≡ Ok (journals_of i)
    undamaged_read h = undamaged_is is.undamaged ∙ ap (λ (r : Checked). r >> Ok (journals_of i)) (ap (λ (js : List Journal). each reading_claims js) (sym all_journals) ∙ h)

  -- what isn't damaged has a meaning, and no damage
  pub means : undamaged i ≡ Ok (journals_of i) → meaning i ≡ Ok (meaning_of (journals_of i))
  means e = ap (λ (r : Result (List Journal) Damage). r >>= λ js. Ok (meaning_of js)) e

  pub damage_means : (x : Damage) → undamaged i ≡ Err x → meaning i ≡ Err x
  damage_means x e = ap (λ (r : Result (List Journal) Damage). r >>= λ js. Ok (meaning_of js)) e

  pub not_damaged : undamaged i ≡ Ok (journals_of i) → (x : Damage) → meaning i ≡ Err x → ⊥
  not_damaged e x h = clash (sym (means e) ∙ h)
    where
      clash : ◌≡◌ {A = Result MachineState Damage} (Ok (meaning_of (journals_of i))) (Err x) → ⊥
      clash k = cc

abbrev pub IsUndamaged : Content → Type 0
IsUndamaged c = undamaged (full c.now.disk) ≡ Ok (journals_of (full c.now.disk))

pub told_damage_scanned : (o : Option Content) (x : ScanFault) (r : Result Found ScanFault) → r ≡ Err x → IfSome o (λ c. IsFirstDamage (full c.now.disk) r) → IfSome o (λ c. FindsAs (full c.now.disk) (Err (of_scan x)))
told_damage_scanned None x r e h = tt
told_damage_scanned (Some c) x r e h = damage_scanned (full c.now.disk) x r e h

read_fault : (X : Type 0) (js : List Journal) (x : LogFault) → ReadsAll {X = X} js (Err x) → ReadsAll {X = Unit {0}} js (Err x)
read_fault X js log.Failed h = tt
read_fault X js log.Memory h = tt
read_fault X js (log.Damaged file rule) h = h

pub told_damage_read : {X : Type 0} (a b : Option Content) (found : Found) (x : LogFault) (r : Result X LogFault) → r ≡ Err x → Tells OnlyLooks a b → IfSome a (λ c. IsFound (full c.now.disk) found)
    → IfSome b (λ c. ReadsAll (map (journal_in (full c.now.disk)) found.journals) r) → IfSome a (λ c. FindsAs (full c.now.disk) (Err (of_log x)))
told_damage_read None b found x r e looks is h = tt
told_damage_read (Some y) None found x r e looks is h = absurd looks
told_damage_read {X} (Some y) (Some z) found x r e looks is h =
    damage_read (full y.now.disk) found is x
    (read_fault X (map (journal_in (full y.now.disk)) found.journals) x
    (subst (λ (q : Result X LogFault). ReadsAll (map (journal_in (full y.now.disk)) found.journals) q) e (subst (λ (m : Moment). ReadsAll (map (journal_in (full m.disk)) found.journals) r) looks.now h)))

pub told_undamaged : (a b : Option Content) (found : Found) (rs : List ReadingState) → Tells OnlyLooks a b → IfSome a (λ c. IsFound (full c.now.disk) found) → IfSome b (λ c. ReadsAll (map (journal_in (full c.now.disk)) found.journals) (Ok rs)) → IfSome a IsUndamaged
told_undamaged None b found rs looks is h = tt
told_undamaged (Some y) None found rs looks is h = absurd looks
told_undamaged (Some y) (Some z) found rs looks is h =
    undamaged_read (full y.now.disk) found is (subst (λ (m : Moment). each reading_claims (map (journal_in (full m.disk)) found.journals) ≡ Ok tt) looks.now h)

pub nothing_said : (o : Option Content) → IfSome o (λ c. FindsAs (full c.now.disk) (Err Memory))
nothing_said None = tt
nothing_said (Some c) = tt

-- ---- the causes

fault_scan : (x : ScanFault) → of_scan x ≡ Failed → x ≡ scan.Failed
fault_scan scan.Failed e = refl
fault_scan scan.Memory e = absurd (cc)
fault_scan (scan.Damaged file rule) e = absurd (cc)

fault_log : (x : LogFault) → of_log x ≡ Failed → x ≡ log.Failed
fault_log log.Failed e = refl
fault_log log.Memory e = absurd (cc)
fault_log (log.Damaged file rule) e = absurd (cc)

fault_cause : (x : Cause) → fault_by x ≡ Failed → x ≡ cause.Failed
fault_cause cause.Failed e = refl
fault_cause cause.Draw e = absurd (cc)
fault_cause cause.Spent e = absurd (cc)
fault_cause cause.Memory e = absurd (cc)

pub rose_scan : (f g : ℕ) (x : ScanFault) (r : Result Found ScanFault) → r ≡ Err x → HasCause f g r → of_scan x ≡ Failed → Rose f g
rose_scan f g x r e h k = h.failed (e ∙ ap (λ (y : ScanFault). Err y) (fault_scan x k))

pub rose_log : {X : Type 0} (f g h : ℕ) (x : LogFault) (r : Result X LogFault) → r ≡ Err x → f ≤ g → LogCauses g h r → of_log x ≡ Failed → Rose f h
rose_log f g h x r e l c k = rose_later f g h l (c.failed (e ∙ ap (λ (y : LogFault). Err y) (fault_log x k)))

pub rose_open : {X : Type 0} (f g h : ℕ) (x : Cause) (r : Result X Cause) → r ≡ Err x → f ≤ g → SiteCauses g h r → fault_by x ≡ Failed → Rose f h
rose_open f g h x r e l c k = rose_later f g h l (c.failed (e ∙ ap (λ (y : Cause). Err y) (fault_cause x k)))

err_is : {X : Type 0} {x y : OpenFault} → ◌≡◌ {A = Result X OpenFault} (Err x) (Err y) → x ≡ y
err_is e = cc

not_failed : {X : Type 0} (x : X) → ◌≡◌ {A = Result X OpenFault} (Ok x) (Err Failed) → ⊥
not_failed x e = cc

-- ---- a look that ended it

pub told_with : (P : Content → Type 0) (R U : Content → Content → Type 0) (a b : Option Content) → IfSome a P → Tells R a b → ((x y : Content) → P x → R x y → U x y) → Tells U a b
told_with P R U None None p r f = tt
told_with P R U None (Some y) p r f = absurd r
told_with P R U (Some x) None p r f = absurd r
told_with P R U (Some x) (Some y) p r f = f x y p r

abbrev pub Rises : Content → Type 0
Rises c = IdsRise (full c.now.disk)

pub begins_looked : (home : PoolId) (fault : OpenFault) (a b : Option Content) (f g : ℕ) → IfSome a (λ c. FindsAs (full c.now.disk) (Err fault)) → IfSome a Rises → Tells OnlyLooks a b → f ≤ g → (fault ≡ Failed → Rose f g)
    → NeverTakes {X = JournalsState} (Err fault) → Begins home (Err fault) a b f g
begins_looked home fault a b f g found rising looks kept failed never = record {
  found = found;
  rising = rising;
  kept = tt;
  homed = tt;
  numbered = tt;
  told = told_with Rises OnlyLooks (Passes IsStoreStep) a b rising looks (λ x y r k. Passes-of IsStoreStep x y (looked_arrives x y (differ_of (full x.now.disk) r) k));
  none = told_with Rises OnlyLooks TakesNone a b rising looks (λ x y r k. looked_none x y (differ_of (full x.now.disk) r) k);
  leaves = told_with Rises OnlyLooks (Passes LeavesInOrder) a b rising looks (λ x y r k. Passes-of LeavesInOrder x y (looked_leaves x y (differ_of (full x.now.disk) r) k));
  writes = told_with Rises OnlyLooks (OpensWritten {X = JournalsState} {E = OpenFault} (Err fault) (λ s. s)) a b rising looks (λ x y r k. (looked_writes x y (differ_of (full x.now.disk) r) k, tt));
  looks = told_with Rises OnlyLooks LooksIfDamaged a b rising looks (λ x y r k damage e. k);
  still = tt;
  causes = record { kept = kept; failed = λ e. failed (err_is e) };
  never = never;
}

-- ---- and the call that opens them

module _ (a b c : Content) (rising : IdsRise (full a.now.disk)) (looks : OnlyLooks a b) where
  abbrev differ : IdsDiffer a.now.disk
  differ = differ_of (full a.now.disk) rising

  abbrev first : Arrives IsStoreStep a b
  first = looked_arrives a b differ looks

  opens_after : (s : JournalsState) → Opens s b c → Opens s a c
  opens_after s h = record {
    arrives = Arrives-then IsStoreStep a b c first h.arrives;
    quiet = h.quiet;
    fits = h.fits;
    whole = h.whole;
    queues = subst (λ (m : Moment). queues_of s ≡ queues_in (journals_of (full m.disk))) looks.now h.queues;
    entries = subst (λ (m : Moment). s.list.entries ≡ entries_of (journals_of (full m.disk))) looks.now h.entries;
    rid = h.rid ∙ ap (λ (m : Moment). list_rid m.disk) looks.now;
    homes = subst (λ (m : Moment). SameHomes (homes_of s) (homes_on s.home m.disk)) looks.now h.homes;
  }

  ends_after : (r : Result JournalsState Cause) → EndsIn Opens (Passes IsStoreStep) r b c → EndsIn Opens (Passes IsStoreStep) r a c
  ends_after (Ok s) h = opens_after s h
  ends_after (Err e) h = Arrives-passes IsStoreStep a b c first h

  none_after : Passes LeavesInOrder b c → TakesNone b c → TakesNone a c
  none_after p h = taken_then IsStoreStep LeavesInOrder a b c first p ∙ (λ i. looked_none a b differ looks i ++ h i)

  leaves_after : Passes LeavesInOrder b c → Passes LeavesInOrder a c
  leaves_after p = Arrives-passes LeavesInOrder a b c (looked_leaves a b differ looks) p

  still_after : (NonePast b.now.disk → c ≡ b) → StaysIfNonePast a c
  still_after h = λ none.
      let same : c ≡ b = h (subst (λ (m : Moment). NonePast m.disk) (sym looks.now) none) in
      subst (λ (d : Content). AllByRecursion (λ m. m ≡ a.now) (moments_since a d)) (sym same) (looked_still a b differ looks)

-- three contents, where the first is told
pub three : (P : Content → Type 0) (R T U : Content → Content → Type 0) (a b c : Option Content) → IfSome a P → Tells R a b → Tells T b c → ((x y z : Content) → P x → R x y → T y z → U x z) → Tells U a c
three P R T U None None None p r t f = tt
three P R T U None None (Some z) p r t f = absurd t
three P R T U None (Some y) c p r t f = absurd r
three P R T U (Some x) None c p r t f = absurd r
three P R T U (Some x) (Some y) None p r t f = absurd t
three P R T U (Some x) (Some y) (Some z) p r t f = f x y z p r t

both : (R T : Content → Content → Type 0) (a b : Option Content) → Tells R a b → Tells T a b → Tells (λ x y. R x y × T x y) a b
both R T None None r t = tt
both R T None (Some y) r t = absurd r
both R T (Some x) None r t = absurd r
both R T (Some x) (Some y) r t = (r, t)

pub undamaged_looks : (R : Content → Content → Type 0) (a c : Option Content) → IfSome a IsUndamaged → Tells R a c → Tells LooksIfDamaged a c
undamaged_looks R a c h t = told_with IsUndamaged R LooksIfDamaged a c h t (λ x y e k damage m. absurd (not_damaged (full x.now.disk) e damage m))

never_site : (k : Cause) → (k ≡ cause.Draw → ⊥) → (k ≡ cause.Spent → ⊥) → NeverTakes {X = JournalsState} (Err (fault_by k))
never_site cause.Failed d s = tt
never_site cause.Draw d s = d refl
never_site cause.Spent d s = s refl
never_site cause.Memory d s = tt

pub never_scan : (x : ScanFault) → NeverTakes {X = JournalsState} (Err (of_scan x))
never_scan scan.Failed = tt
never_scan scan.Memory = tt
never_scan (scan.Damaged file rule) = tt

pub never_log : (x : LogFault) → NeverTakes {X = JournalsState} (Err (of_log x))
never_log log.Failed = tt
never_log log.Memory = tt
never_log (log.Damaged file rule) = tt

site_fault : (i : Image) (k : Cause) → (k ≡ cause.Draw → ⊥) → (k ≡ cause.Spent → ⊥) → FindsAs i (Err (fault_by k))
site_fault i cause.Failed d s = tt
site_fault i cause.Draw d s = d refl
site_fault i cause.Spent d s = s refl
site_fault i cause.Memory d s = tt

module _ (home : PoolId) (a b c : Option Content) (f g h : ℕ) (rising : IfSome a Rises) (looks : Tells OnlyLooks a b) (sound : IfSome a IsUndamaged) (kept : f ≤ g) where
  module _ (r : Result JournalsState Cause) (told : Tells (EndsIn Opens (Passes IsStoreStep) r) b c) (none : Tells TakesNone b c) (leaves : Tells (Passes LeavesInOrder) b c) (writes : Tells (OpensWritten r (λ s. s)) b c) where
    all_told : Tells (EndsIn Opens (Passes IsStoreStep) r) a c
    all_told = three Rises OnlyLooks (EndsIn Opens (Passes IsStoreStep) r) (EndsIn Opens (Passes IsStoreStep) r) a b c rising looks told (λ x y z p q k. ends_after x y z p q r k)

    all_none : Tells TakesNone a c
    all_none =
        three Rises OnlyLooks (λ y z. Passes LeavesInOrder y z × TakesNone y z) TakesNone a b c rising looks (both (Passes LeavesInOrder) TakesNone b c leaves none) (λ x y z p q k. none_after x y z p q k.0 k.1)

    all_leaves : Tells (Passes LeavesInOrder) a c
    all_leaves = three Rises OnlyLooks (Passes LeavesInOrder) (Passes LeavesInOrder) a b c rising looks leaves (λ x y z p q k. leaves_after x y z p q k)

    all_writes : Tells (OpensWritten r (λ s. s)) a c
    all_writes =
        three Rises OnlyLooks (λ y z. Passes LeavesInOrder y z × OpensWritten r (λ s. s) y z) (OpensWritten r (λ s. s)) a b c rising looks (both (Passes LeavesInOrder) (OpensWritten r (λ s. s)) b c leaves writes)
        (λ x y z p q k. written_after r (λ s. s) x y z (differ_of (full x.now.disk) p) q LeavesInOrder k.0 k.1)

  pub begins_stopped : (k : Cause) → Tells (EndsIn Opens (Passes IsStoreStep) (Err k)) b c → Tells TakesNone b c → Tells (Passes LeavesInOrder) b c → Tells (OpensWritten {X = JournalsState} {E = Cause} (Err k) (λ s. s)) b c
      → SiteCauses {X = JournalsState} g h (Err k) → Begins home (Err (fault_by k)) a c f h
  begins_stopped k told none leaves writes causes = record {
    found = by a;
    rising = rising;
    kept = tt;
    homed = tt;
    numbered = tt;
    told = all_told (Err k) told none leaves writes;
    none = all_none (Err k) told none leaves writes;
    leaves = all_leaves (Err k) told none leaves writes;
    writes = all_writes (Err k) told none leaves writes;
    looks = undamaged_looks (Passes LeavesInOrder) a c sound (all_leaves (Err k) told none leaves writes);
    still = tt;
    causes = record { kept = omega (arith, kept, causes.kept); failed = λ e. rose_open {X = JournalsState} f g h k (Err k) refl kept causes (err_is e) };
    never = never_site k (λ e. causes.no_draw (ap (λ (y : Cause). Err y) e)) (λ e. causes.no_end (ap (λ (y : Cause). Err y) e));
  }
    where
      by : (o : Option Content) → IfSome o (λ x. FindsAs (full x.now.disk) (Err (fault_by k)))
      by None = tt
      by (Some x) = site_fault (full x.now.disk) k (λ e. causes.no_draw (ap (λ (y : Cause). Err y) e)) (λ e. causes.no_end (ap (λ (y : Cause). Err y) e))

  pub begins_done : (s : JournalsState) → AreJournals s → s.home ≡ home → AllByRecursion IsNumbered (queues_of s) → Tells (Opens s) b c → Tells TakesNone b c → Tells (Passes LeavesInOrder) b c
      → Tells (OpensWritten {X = JournalsState} {E = Cause} (Ok s) (λ t. t)) b c → Tells (λ x y. NonePast x.now.disk → y ≡ x) b c → SiteCauses {X = JournalsState} g h (Ok s) → Begins home (Ok s) a c f h
  begins_done s opened homed numbered told none leaves writes still causes = record {
    found = sound;
    rising = rising;
    kept = opened;
    homed = homed;
    numbered = numbered;
    told = all_told (Ok s) told none leaves writes;
    none = all_none (Ok s) told none leaves writes;
    leaves = all_leaves (Ok s) told none leaves writes;
    writes = all_writes (Ok s) told none leaves writes;
    looks = undamaged_looks (Passes LeavesInOrder) a c sound (all_leaves (Ok s) told none leaves writes);
    still = three Rises OnlyLooks (λ y z. NonePast y.now.disk → z ≡ y) StaysIfNonePast a b c rising looks still (λ x y z p q k. still_after x y z p q k);
    causes = record { kept = omega (arith, kept, causes.kept); failed = λ e. absurd (not_failed s e) };
    never = tt;
  }
