-- One call after another, in order.
use Rattle.std.proofs.Common.{◌≡◌, ℕ, Bool, true, false, cond, ◌==◌, List, [], ◌∷◌, ◌++◌, length, Option, Some, None, Result, Ok, Err, IsErr, refl, sym, ap, ◌∙◌, subst, arith, length-append}
use Rattle.qls_model.specs.declared.machine.PoolId.{PoolId}
use Rattle.qls_site.specs.declared.site.SiteError.{SiteError}
use Rattle.qls_site.specs.declared.site.Place.{Place}
use Rattle.qls_site.specs.declared.site.Place.TheVariants.{InUse, Empty}
use Rattle.qls_site.specs.Disk.{Disk, FileState, Write, file_of, full, changed, change_file, all_written, write_at, sync_at}
use Rattle.qls_site.specs.Content.{Moment, Content, Tells, Acts, on_disk}
use Rattle.qls_site.proofs.Told.{KeepsId}
use Rattle.qls_filehdr.specs.declared.FileHeader.{FileHeader}
use Rattle.qls_meaning.specs.Kept.{Differ, ids_of}
use Rattle.qls_meaning.specs.Journals.{is_in_use}
use Rattle.qls_pool.specs.declared.fault.TakeFault.{TakeFault}
use Rattle.qls_pool.specs.Pools.{PoolState, HandsOut, IsSpent}
use Rattle.qls_pool.specs.Files.{BlankFile, HeadedFile, BlankThere, IsPoolOf, IsWholePool, IdsDiffer, Carries}
use Rattle.qls_pool.specs.Taking.{TakesBlank, Heads, SyncsOnce, put_in_use}
use Rattle.qls_pool.specs.Discipline.{PoolFileStep, PoolFileSteps, IsPoolStep, MeetsFront, IsLeastOnDisk, EndsPoolSteps, StepsBy, Orderly}
use Rattle.qls_pool.proofs.Disks.{eqb_is, same_id}
use Rattle.qls_pool.proofs.Steps.{all_map, all_weaken, all_found, ends_then, ends_adds}
use Rattle.qls_pool.proofs.Calls.{by_err}
use Rattle.qls_log.specs.Faults.{Counts}
use Rattle.qls_log.specs.Taking.{TakesFile}

-- ---- one part after another

abbrev pub Both : (Disk → Type 0) → Disk → Type 0
Both P d = IdsDiffer d × P d

pub failed : (X : Type 0) {Y E F : Type 0} (P : Disk → Type 0) (e : E) (r : Result Y F) (a b : Option Content) → IsErr r → Orderly {X = X} {E = E} P (Err e) a b → Orderly P r a b
failed X P e r None b is h = tt
failed X P e r (Some x) None is h = tt
failed X P e r (Some x) (Some y) is h = λ differ p. by_err r x y is (h differ p)

-- the same steps, whatever Ok carries
pub ok_again : (E F : Type 0) {X Y : Type 0} (P : Disk → Type 0) (v : X) (w : Y) (a b : Option Content) → Orderly {X = X} {E = E} P (Ok v) a b → Orderly {X = Y} {E = F} P (Ok w) a b
ok_again E F P v w None b h = tt
ok_again E F P v w (Some x) None h = tt
ok_again E F P v w (Some x) (Some y) h = h

then_steps : {Y F : Type 0} (r : Result Y F) (x y z : Content) → EndsPoolSteps x y → StepsBy r y z → StepsBy r x z
then_steps (Ok v) x y z h k = ends_then x y z h k
then_steps (Err e) x y z h k = ends_adds x y z h k

pub then_orderly : (E : Type 0) {X Y F : Type 0} (P Q : Disk → Type 0) (R : Content → Content → Type 0) (v : X) (r : Result Y F) (a b c : Option Content) → Tells R a b → Orderly {X = X} {E = E} P (Ok v) a b
    → Carries (Both P) IdsDiffer a b → Carries (Both P) Q a b → Orderly Q r b c → Orderly P r a c
then_orderly E P Q R v r None b c t h i q k = tt
then_orderly E P Q R v r (Some x) b None t h i q k = tt
then_orderly E P Q R v r (Some x) None (Some z) t h i q k = absurd t
then_orderly E P Q R v r (Some x) (Some y) (Some z) t h i q k = λ differ p. then_steps r x y z (h differ p) (k (i (differ, p)) (q (differ, p)))

pub carries_more : (P Q : Disk → Type 0) (a b : Option Content) → Carries P Q a b → Carries (Both P) Q a b
carries_more P Q None b h = tt
carries_more P Q (Some x) None h = tt
carries_more P Q (Some x) (Some y) h = λ p. h p.1

pub carries_then : (P Q S : Disk → Type 0) (R : Content → Content → Type 0) (a b c : Option Content) → Tells R a b → Carries P Q a b → Carries Q S b c → Carries P S a c
carries_then P Q S R None b c t h k = tt
carries_then P Q S R (Some x) b None t h k = tt
carries_then P Q S R (Some x) None (Some z) t h k = absurd t
carries_then P Q S R (Some x) (Some y) (Some z) t h k = λ p. k (h p)

-- ---- a file is taken

pub two_orderly : {Y F : Type 0} (home : PoolId) (pool : PoolState) (blank : BlankFile) (r : Result Y F) (a b c : Option Content)
    → Tells (TakesBlank home pool (Ok blank)) a b → Orderly {X = BlankFile} {E = TakeFault} (IsPoolOf pool []) (Ok blank) a b
    → Carries (IsWholePool pool) IdsDiffer a b → Carries (IsPoolOf pool []) (BlankThere blank) a b
    → Orderly (BlankThere blank) r b c → Orderly (IsPoolOf pool []) r a c
two_orderly home pool blank r a b c t o i q k = then_orderly TakeFault (IsPoolOf pool []) (BlankThere blank) (TakesBlank home pool (Ok blank)) blank r a b c t o i (carries_more (IsPoolOf pool []) (BlankThere blank) a b q) k

pub three_orderly : {Y F : Type 0} (home : PoolId) (pool : PoolState) (blank : BlankFile) (header : FileHeader) (headed : HeadedFile) (r : Result Y F) (a b c d : Option Content)
    → header.part ≡ home.part → header.kib ≡ home.kib → headed ≡ record { id = blank.id; header = header }
    → Tells (TakesBlank home pool (Ok blank)) a b → Orderly {X = BlankFile} {E = TakeFault} (IsPoolOf pool []) (Ok blank) a b
    → Carries (IsWholePool pool) IdsDiffer a b → Carries (IsWholePool pool) (IsLeastOnDisk home.part home.kib blank.id) a b → Carries (IsPoolOf pool []) (BlankThere blank) a b
    → Tells (Heads blank.id header (Ok headed)) b c → Orderly {X = HeadedFile} {E = SiteError} (BlankThere blank) (Ok headed) b c
    → Carries IdsDiffer IdsDiffer b c → Carries (IsLeastOnDisk header.part header.kib blank.id) (IsLeastOnDisk header.part header.kib blank.id) b c
    → Orderly (IsLeastOnDisk headed.header.part headed.header.kib headed.id) r c d → Orderly (IsPoolOf pool []) r a d
three_orderly home pool blank header headed r a b c d part kib is t o i l q u p j m k =
    let P = IsPoolOf pool [] in
    let Q = IsLeastOnDisk header.part header.kib blank.id in
    let first : Orderly {X = HeadedFile} {E = SiteError} P (Ok headed) a c = two_orderly {F = SiteError} home pool blank (Ok headed) a b c t o i q p in
    let least : Carries (Both P) Q a b = subst (λ n. Carries (Both P) (IsLeastOnDisk n header.kib blank.id) a b) (sym part) (subst (λ n. Carries (Both P) (IsLeastOnDisk home.part n blank.id) a b) (sym kib) l) in
    let both : Tells (λ x y. Unit {0}) a c = any a b c t u in
    let last : Orderly Q r c d = subst (λ (h : HeadedFile). Orderly (IsLeastOnDisk h.header.part h.header.kib h.id) r c d) is k in
    then_orderly SiteError P Q (λ x y. Unit {0}) headed r a c d both first
    (carries_then (Both P) IdsDiffer IdsDiffer (TakesBlank home pool (Ok blank)) a b c t i j)
    (carries_then (Both P) Q Q (TakesBlank home pool (Ok blank)) a b c t least m) last
  where
    any : (a b c : Option Content) → Tells (TakesBlank home pool (Ok blank)) a b → Tells (Heads blank.id header (Ok headed)) b c → Tells (λ x y. Unit {0}) a c
    any None None None t u = tt
    any None None (Some z) t u = absurd u
    any None (Some y) c t u = absurd t
    any (Some x) None c t u = absurd t
    any (Some x) (Some y) None t u = absurd u
    any (Some x) (Some y) (Some z) t u = tt

took : (home : PoolId) (pool left : PoolState) (blank : BlankFile) (header : FileHeader) (x y z w : Content) → (IsSpent home pool → ⊥) → HandsOut home pool left blank.id
    → TakesBlank home pool (Ok blank) x y → Heads {X = HeadedFile} blank.id header (Ok (record { id = blank.id; header = header })) y z → Acts (put_in_use blank.id) z w
    → TakesFile home pool left (record { id = blank.id; header = header }) x w
took home pool left blank header x y z w had hands t u l = record { blank = y; headed = z; unspent = had; hands = hands; obtains = t; heads = u; links = l }

tells_took : (home : PoolId) (pool left : PoolState) (blank : BlankFile) (header : FileHeader) (a b c d : Option Content) → (IsSpent home pool → ⊥) → HandsOut home pool left blank.id
    → Tells (TakesBlank home pool (Ok blank)) a b → Tells (Heads {X = HeadedFile} blank.id header (Ok (record { id = blank.id; header = header }))) b c → Tells (Acts (put_in_use blank.id)) c d
    → Tells (TakesFile home pool left (record { id = blank.id; header = header })) a d
tells_took home pool left blank header None None None None had hands t u l = tt
tells_took home pool left blank header None None None (Some w) had hands t u l = absurd l
tells_took home pool left blank header None None (Some z) d had hands t u l = absurd u
tells_took home pool left blank header None (Some y) c d had hands t u l = absurd t
tells_took home pool left blank header (Some x) None c d had hands t u l = absurd t
tells_took home pool left blank header (Some x) (Some y) None d had hands t u l = absurd u
tells_took home pool left blank header (Some x) (Some y) (Some z) None had hands t u l = absurd l
tells_took home pool left blank header (Some x) (Some y) (Some z) (Some w) had hands t u l = took home pool left blank header x y z w had hands t u l

pub takes_told : (home : PoolId) (pool left : PoolState) (blank : BlankFile) (header : FileHeader) (headed linked : HeadedFile) (a b c d : Option Content)
    → headed ≡ record { id = blank.id; header = header } → linked ≡ headed → (IsSpent home pool → ⊥) → HandsOut home pool left blank.id
    → Tells (TakesBlank home pool (Ok blank)) a b → Tells (Heads blank.id header (Ok headed)) b c → Tells (Acts (put_in_use headed.id)) c d
    → Tells (TakesFile home pool left linked) a d
takes_told home pool left blank header headed linked a b c d is same had hands t u l =
    subst (λ (h : HeadedFile). Tells (TakesFile home pool left h) a d) (sym (same ∙ is))
    (tells_took home pool left blank header a b c d had hands t
    (subst (λ (h : HeadedFile). Tells (Heads blank.id header (Ok h)) b c) is u)
    (subst (λ (h : HeadedFile). Tells (Acts (put_in_use h.id)) c d) is l))

pub one_sync : (E : Type 0) {X Y : Type 0} (R : Content → Content → Type 0) (v : X) (w : Y) (a b : Option Content) (m n o p : ℕ) → Tells R a b → n ≡ m → SyncsOnce {X = X} b (Ok v) n o → p ≡ o → Counts {X = Y} {E = E} a (Ok w) 1 m p
one_sync E R v w None None m n o p t i s j = (omega (arith, i, s.0, j), omega (arith, i, s.1, j))
one_sync E R v w None (Some y) m n o p t i s j = absurd t
one_sync E R v w (Some x) None m n o p t i s j = absurd t
one_sync E R v w (Some x) (Some y) m n o p t i s j = omega (arith, i, s, j)

-- ---- steps of files in use

not_both : (b : Bool) → b ≡ false → b ≡ true → ⊥
not_both b e k = cc

longer : (ps : List Write) (w : Write) → ps ≡ ps ++ w ∷ [] → ⊥
longer ps w e = omega (arith, ap length e, length-append ps (w ∷ []))

some_more : (ps : List Write) (w : Write) → [] ≡ ps ++ w ∷ [] → ⊥
some_more ps w e = omega (arith, ap length e, length-append ps (w ∷ []))

unchanged : (m : Moment) (f : FileState) → PoolFileStep m f f
unchanged m f = record {
  taken = λ a b. absurd (not_both (is_in_use f.place) a b);
  returned = λ a b. absurd (not_both (is_in_use f.place) b a);
  written = λ w e. absurd (longer f.pending w e);
}

synced : (m : Moment) (f : FileState) → PoolFileStep m f (record f { stable = all_written f.pending f.stable; pending = [] })
synced m f = record {
  taken = λ a b. absurd (not_both (is_in_use f.place) a b);
  returned = λ a b. absurd (not_both (is_in_use f.place) b a);
  written = λ w e. absurd (some_more f.pending w e);
}

meets : (p : Place) (w : Write) → is_in_use p ≡ true → MeetsFront p w
meets InUse w h = tt
meets (Empty part kib) w h = absurd (cc)

wrote : (m : Moment) (f : FileState) (v : Write) → is_in_use f.place ≡ true → PoolFileStep m f (record f { pending = f.pending ++ v ∷ [] })
wrote m f v useful = record {
  taken = λ a b. absurd (not_both (is_in_use f.place) a b);
  returned = λ a b. absurd (not_both (is_in_use f.place) b a);
  written = λ w e. meets f.place w useful;
}

step_change : (own : ℕ) (c : FileState → FileState) → KeepsId c → (m : Moment) → Differ (ids_of (full m.disk)) → ((f : FileState) → file_of own m.disk ≡ Some f → PoolFileStep m f (c f))
    → IsPoolStep m (on_disk (change_file own c) m)
step_change own c keeps m differ mine =
    all_map (λ f. file_of f.id m.disk ≡ Some f) (λ g. PoolFileSteps m (file_of g.id m.disk) g) (changed own c)
    (λ f e. subst (λ (o : Option FileState). PoolFileSteps m o (changed own c f)) (sym (ap (λ n. file_of n m.disk) (same_id own c keeps f) ∙ e)) (one f e)) m.disk (all_found m.disk differ)
  where
    one : (f : FileState) → file_of f.id m.disk ≡ Some f → PoolFileStep m f (changed own c f)
    one f e =
        elim (f.id == own) as (λ b. (f.id == own) ≡ b → PoolFileStep m f (cond b (c f) f)) [
          | true ↦ λ k. mine f (subst (λ n. file_of n m.disk ≡ Some f) (eqb_is f.id own k) e)
          | false ↦ λ k. unchanged m f
        ] refl

pub step_same : (m : Moment) → IdsDiffer m.disk → IsPoolStep m m
step_same m differ =
    all_weaken (λ f. file_of f.id m.disk ≡ Some f) (λ g. PoolFileSteps m (file_of g.id m.disk) g) (λ f e. subst (λ (o : Option FileState). PoolFileSteps m o f) (sym e) (unchanged m f)) m.disk (all_found m.disk differ)

pub sync_step : (id : ℕ) (m : Moment) → IdsDiffer m.disk → IsPoolStep m (on_disk (sync_at id) m)
sync_step id m differ = step_change id (λ f. record f { stable = all_written f.pending f.stable; pending = [] }) (λ f. refl) m differ (λ f e. synced m f)

pub write_step : (id at : ℕ) (bytes : List ℕ) (m : Moment) → IdsDiffer m.disk → ((f : FileState) → file_of id m.disk ≡ Some f → is_in_use f.place ≡ true) → IsPoolStep m (on_disk (write_at id at bytes) m)
write_step id at bytes m differ useful =
    step_change id (λ f. record f { pending = f.pending ++ (record { at = at; bytes = bytes }) ∷ [] }) (λ f. refl) m differ (λ f e. wrote m f (record { at = at; bytes = bytes }) (useful f e))
