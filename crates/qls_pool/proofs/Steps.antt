-- Steps of the pool's discipline, one for each call.
use Rattle.std.proofs.Common.{◌≡◌, inl, inr, ℕ, ◌<◌, ◌≤◌, ◌+◌, ◌*◌, ◌-◌, Bool, true, false, cond, ◌==◌, ltb, nat_eq, List, [], ◌∷◌, ◌++◌, map, length, take, replicate, Option, Some, Result, Ok, Err, IsTrue, refl, sym, ap, ◌∙◌, subst, arith, option_map, codes, length-append, append_assoc, append-nil}
use Rattle.std.proofs.lemmas.List.{append_cancel_left}
use Rattle.std.proofs.lemmas.Bool.Decides.{nat_tests}
use Rattle.std.proofs.Math.ListN.{length-replicate}
use Rattle.std.specs.List.{list_any, AllByRecursion}
use Rattle.qls_model.specs.Limits.{file_size}
use Rattle.qls_shape.specs.Fields.{u16, u32, u64}
use Rattle.qls_shape.specs.Adler.{adler_of}
use Rattle.qls_site.specs.declared.site.SiteError.{SiteError}
use Rattle.qls_site.specs.declared.site.SiteError.TheVariants.{Failed, Memory}
use Rattle.qls_site.specs.declared.site.Place.{Place}
use Rattle.qls_site.specs.declared.site.Place.TheVariants.{InUse, Empty}
use Rattle.qls_site.specs.Disk.{Disk, FileState, Write, file_of, full, size_of, changed, change_file, with_file, all_written, create_at, write_at, sync_at, relocate_at}
use Rattle.qls_site.specs.Content.{Moment, Content, Acts, MayAct, Leads, on_disk}
use Rattle.qls_site.proofs.Told.{KeepsId, file_of-change_file}
use Rattle.qls_filehdr.specs.declared.FileHeader.{FileHeader}
use Rattle.qls_filehdr.specs.Limits.{is_legal_header}
use Rattle.qls_filehdr.specs.Header.{header_of, header_spelling, header_front, version_of, kind_number}
use Rattle.qls_filehdr.proofs.HeaderTrip.{legal_parts, name_fits, header_of-header_spelling}
use Rattle.qls_meaning.specs.History.{last_of}
use Rattle.qls_meaning.specs.Journals.{is_in_use}
use Rattle.qls_meaning.specs.Kept.{Differ, ids_of}
use Rattle.qls_meaning.specs.Spent.{greatest_id, is_pool_place}
use Rattle.qls_meaning.specs.Orderly.{WasLeast, NamesPool}
use Rattle.qls_pool.specs.Files.{BlankFile, HeadedFile, HasHeader, IsBlank, IsHeaded, IsLinked, BlankThere, HeadedThere, LinkedThere}
use Rattle.qls_pool.specs.Taking.{header_written, header_synced, put_in_use, put_back, Heads}
use Rattle.qls_pool.specs.Discipline.{MeetsFront, PoolFileStep, PoolFileSteps, IsPoolStep, ArePoolSteps, IsLeastOnDisk, AddsPoolSteps, EndsPoolSteps, StepsBy}
use Rattle.qls_pool.proofs.Disks.{eqb_is, eqb_own, same_id, found_id, lacks_above, eqb_less, below_left, below_right}

-- ---- all files

pub all_map : (P Q : FileState → Type 0) (h : FileState → FileState) → ((f : FileState) → P f → Q (h f)) → (d : Disk) → AllByRecursion P d → AllByRecursion Q (map h d)
all_map P Q h s [] p = tt
all_map P Q h s (f ∷ d) p = (s f p.0, all_map P Q h s d p.1)

pub all_weaken : (P Q : FileState → Type 0) → ((f : FileState) → P f → Q f) → (d : Disk) → AllByRecursion P d → AllByRecursion Q d
all_weaken P Q s [] p = tt
all_weaken P Q s (f ∷ d) p = (s f p.0, all_weaken P Q s d p.1)

pub all_both : (P Q R : FileState → Type 0) → ((f : FileState) → P f → Q f → R f) → (d : Disk) → AllByRecursion P d → AllByRecursion Q d → AllByRecursion R d
all_both P Q R s [] p q = tt
all_both P Q R s (f ∷ d) p q = (s f p.0 q.0, all_both P Q R s d p.1 q.1)

pub all_with : (P : FileState → Type 0) (f : FileState) → P f → (d : Disk) → AllByRecursion P d → AllByRecursion P (with_file f d)
all_with P f h [] p = (h, tt)
all_with P f h (g ∷ d) p =
    elim (ltb f.id g.id) as (λ b. AllByRecursion P (cond b (f ∷ g ∷ d) (g ∷ with_file f d))) [ true ↦ (h, (p.0, p.1)) | false ↦ (p.0, all_with P f h d p.1) ]

pub apart : (n : ℕ) (d : Disk) → AllByRecursion (λ id. nat_eq n id ≡ false) (ids_of (full d)) → AllByRecursion (λ g. (n == g.id) ≡ false) d
apart n [] h = tt
apart n (f ∷ d) h = (h.0, apart n d h.1)

-- where ids differ each file is found by its id
pub all_found : (d : Disk) → Differ (ids_of (full d)) → AllByRecursion (λ g. file_of g.id d ≡ Some g) d
all_found [] h = tt
all_found (f ∷ d) h = (
  ap (λ b. cond b (Some f) (file_of f.id d)) (eqb_own f.id),
  all_both (λ g. file_of g.id d ≡ Some g) (λ g. (f.id == g.id) ≡ false) (λ g. file_of g.id (f ∷ d) ≡ Some g)
      (λ g e k. ap (λ b. cond b (Some f) (file_of g.id d)) k ∙ e) d (all_found d h.1) (apart f.id d h.0),
)

pub ids_same : (own : ℕ) (c : FileState → FileState) → KeepsId c → (d : Disk) → ids_of (full (change_file own c d)) ≡ ids_of (full d)
ids_same own c keeps [] = refl
ids_same own c keeps (f ∷ d) = ap (λ n. n ∷ ids_of (full (change_file own c d))) (same_id own c keeps f) ∙ ap (λ (ns : List ℕ). f.id ∷ ns) (ids_same own c keeps d)

pub own_change : (own : ℕ) (c : FileState → FileState) → KeepsId c → (d : Disk) (f : FileState) → file_of own d ≡ Some f → file_of own (change_file own c d) ≡ Some (c f)
own_change own c keeps d f e =
    file_of-change_file own own c keeps d ∙ ap (option_map (changed own c)) e ∙ ap (λ b. Some (cond b (c f) f)) (ap (λ n. n == own) (found_id own f d e) ∙ eqb_own own)

-- ---- steps of one file

pub not_both : (b : Bool) → b ≡ false → b ≡ true → ⊥
not_both b e k = cc

longer : (ps : List Write) (w : Write) → ps ≡ ps ++ w ∷ [] → ⊥
longer ps w e = omega (arith, ap length e, length-append ps (w ∷ []))

pub some_more : (ps : List Write) (w : Write) → [] ≡ ps ++ w ∷ [] → ⊥
some_more ps w e = omega (arith, ap length e, length-append ps (w ∷ []))

pub unchanged : (m : Moment) (f : FileState) → PoolFileStep m f f
unchanged m f = record {
  taken = λ a b. absurd (not_both (is_in_use f.place) a b);
  returned = λ a b. absurd (not_both (is_in_use f.place) b a);
  written = λ w e. absurd (longer f.pending w e);
}

pub only_one : (v w : Write) → ◌≡◌ {A = List Write} (v ∷ []) (w ∷ []) → v ≡ w
only_one v w e = cc

wrote : (m : Moment) (f : FileState) (v : Write) (part kib : ℕ) → f.place ≡ Empty part kib → v.at + length v.bytes ≤ 4096 → PoolFileStep m f (record f { pending = f.pending ++ v ∷ [] })
wrote m f v part kib place fits = record {
  taken = λ a b. absurd (not_both (is_in_use f.place) a b);
  returned = λ a b. absurd (not_both (is_in_use f.place) b a);
  written = λ w e. subst (λ p. MeetsFront p w) (sym place) (subst (λ (x : Write). x.at + length x.bytes ≤ 4096) (only_one v w (append_cancel_left f.pending (v ∷ []) (w ∷ []) e)) fits);
}

pub synced : (m : Moment) (f : FileState) → PoolFileStep m f (record f { stable = all_written f.pending f.stable; pending = [] })
synced m f = record {
  taken = λ a b. absurd (not_both (is_in_use f.place) a b);
  returned = λ a b. absurd (not_both (is_in_use f.place) b a);
  written = λ w e. absurd (some_more f.pending w e);
}

-- ---- steps of a disk

pub step_change : (own : ℕ) (c : FileState → FileState) → KeepsId c → (m : Moment) → Differ (ids_of (full m.disk)) → ((f : FileState) → file_of own m.disk ≡ Some f → PoolFileStep m f (c f))
    → IsPoolStep m (on_disk (change_file own c) m)
step_change own c keeps m differ mine =
    all_map (λ f. file_of f.id m.disk ≡ Some f) (λ g. PoolFileSteps m (file_of g.id m.disk) g) (changed own c)
    (λ f e. subst (λ (o : Option FileState). PoolFileSteps m o (changed own c f)) (sym (ap (λ n. file_of n m.disk) (same_id own c keeps f) ∙ e)) (one f e)) m.disk (all_found m.disk differ)
  where
    one : (f : FileState) → file_of f.id m.disk ≡ Some f → PoolFileStep m f (changed own c f)
    one f e =
        elim (f.id == own) as (λ b. (f.id == own) ≡ b → PoolFileStep m f (cond b (c f) f)) [
          | true ↦ λ k. mine f (subst (λ n. file_of n m.disk ≡ Some f) (eqb_is f.id own k) e)
          | false ↦ λ k. unchanged m f
        ] refl

pub step_same : (m : Moment) → Differ (ids_of (full m.disk)) → IsPoolStep m m
step_same m differ =
    all_weaken (λ f. file_of f.id m.disk ≡ Some f) (λ g. PoolFileSteps m (file_of g.id m.disk) g) (λ f e. subst (λ (o : Option FileState). PoolFileSteps m o f) (sym e) (unchanged m f)) m.disk (all_found m.disk differ)

pub step_create : (m : Moment) (n part kib : ℕ) → n ≡ greatest_id m.disk + 1 → list_any (λ g. is_pool_place part kib g.place) m.disk ≡ false → Differ (ids_of (full m.disk))
    → IsPoolStep m (on_disk (create_at n part kib) m)
step_create m n part kib next none differ =
    let f : FileState = record { id = n; place = Empty part kib; stable = replicate (4096 + 1024 * kib) 0; pending = [] } in
    all_with (λ g. PoolFileSteps m (file_of g.id m.disk) g) f
    (subst (λ (o : Option FileState). PoolFileSteps m o f) (sym (lacks_above n m.disk (omega (arith, next)))) (next, refl, refl, none)) m.disk (step_same m differ)

-- ---- the moments that a call added

pub adds_none : (x y : Content) → y ≡ x → AddsPoolSteps x y
adds_none x y e = record { since = []; moments = ap (λ c. c.moments) e ∙ sym (append-nil x.moments); steps = tt }

pub ends_none : (x y : Content) → y ≡ x → EndsPoolSteps x y
ends_none x y e = record { since = []; moments = ap (λ c. c.moments) e ∙ sym (append-nil x.moments); steps = tt; last = ap (λ c. c.now) e }

pub ends_one : (act : Moment → Moment) (x y : Content) → Acts act x y → IsPoolStep x.now (act x.now) → EndsPoolSteps x y
ends_one act x y e step = record { since = act x.now ∷ []; moments = ap (λ c. c.moments) e; steps = (step, tt); last = ap (λ c. c.now) e }

pub adds_may : (act : Moment → Moment) (x y : Content) → MayAct act x y → Differ (ids_of (full x.now.disk)) → IsPoolStep x.now (act x.now) → AddsPoolSteps x y
adds_may act x y may differ step = record { since = x.now ∷ act x.now ∷ []; moments = may.moments; steps = (step_same x.now differ, (step, tt)) }

pub adds_leads : {X : Type 0} (act : Moment → Moment) (r : Result X SiteError) (x y : Content) → Leads (Acts act) (MayAct act) r x y → Differ (ids_of (full x.now.disk)) → IsPoolStep x.now (act x.now) → StepsBy r x y
adds_leads act (Ok v) x y h differ step = ends_one act x y h step
adds_leads act (Err Failed) x y h differ step = adds_may act x y h differ step
adds_leads act (Err Memory) x y h differ step = adds_none x y h

-- ---- a header

abbrev write : List ℕ → FileState → FileState
write bytes f = record f { pending = f.pending ++ (record { at = 0; bytes = bytes }) ∷ [] }

abbrev sync : FileState → FileState
sync f = record f { stable = all_written f.pending f.stable; pending = [] }

-- the sixty bytes before the name
abbrev before_name : FileHeader → List ℕ
before_name h =
    codes "QLSf" ++ u16 (version_of h) ++ u16 0 ++ u64 h.serial ++ u64 h.rid ++ u32 h.part ++ u32 h.kib ++ u64 h.first
    ++ u64 h.number ++ u64 h.epoch ++ u16 (kind_number h.kind) ++ u16 (length h.name)

pub header_length : (header : FileHeader) → IsTrue (is_legal_header header) → length (header_spelling header) ≡ 4096
header_length header legal =
    let name : length header.name ≤ 200 = name_fits header.kind header.name (legal_parts header legal).name in
    let front : List ℕ = header_front header in
    let sum : ℕ = adler_of front in
    let zeros : List ℕ = replicate (4032 - length header.name) 0 in
    omega (arith, length-append (before_name header) header.name, length-append (front ++ u32 sum) zeros, length-append front (u32 sum), length-replicate {A = ℕ} (4032 - length header.name) 0)

blank_is : (b : BlankFile) (o : Option FileState) (f : FileState) → IsBlank b o → o ≡ Some f → (f.place ≡ Empty b.home.part b.home.kib) × (size_of f ≡ file_size b.home.kib)
blank_is b o f h e = subst (IsBlank b) e h

header_step : (b : BlankFile) (h : FileHeader) (m : Moment) → IsTrue (is_legal_header h) → Differ (ids_of (full m.disk)) → BlankThere b m.disk → IsPoolStep m (header_written b.id h m)
header_step b h m legal differ there =
    step_change b.id (write (header_spelling h)) (λ f. refl) m differ
    (λ f e. wrote m f (record { at = 0; bytes = header_spelling h }) b.home.part b.home.kib (blank_is b (file_of b.id m.disk) f there e).0 (omega (arith, header_length h legal)))

pub sync_step : (id : ℕ) (m : Moment) → Differ (ids_of (full m.disk)) → IsPoolStep m (on_disk (sync_at id) m)
sync_step id m differ = step_change id sync (λ f. refl) m differ (λ f e. synced m f)

pub heads_steps : {X : Type 0} (b : BlankFile) (h : FileHeader) (r : Result X SiteError) (x y : Content) → IsTrue (is_legal_header h) → Heads b.id h r x y → Differ (ids_of (full x.now.disk)) → BlankThere b x.now.disk
    → StepsBy r x y
heads_steps b h (Ok v) x y legal e differ there =
    let later : Differ (ids_of (full (header_written b.id h x.now).disk)) = subst Differ (sym (ids_same b.id (write (header_spelling h)) (λ f. refl) x.now.disk)) differ in
    record { since = header_written b.id h x.now ∷ header_synced b.id h x.now ∷ []; moments = ap (λ c. c.moments) e; steps = (header_step b h x.now legal differ there, (sync_step b.id (header_written b.id h x.now) later, tt)); last = ap (λ c. c.now) e }
heads_steps b h (Err f) x y legal (since, e, inl k) differ there = record { since = []; moments = e ∙ ap (λ (ms : List Moment). x.moments ++ ms) k; steps = tt }
heads_steps b h (Err f) x y legal (since, e, inr (inl k)) differ there = record {
  since = header_written b.id h x.now ∷ [];
  moments = e ∙ ap (λ (ms : List Moment). x.moments ++ ms) k;
  steps = (header_step b h x.now legal differ there, tt);
}
heads_steps b h (Err f) x y legal (since, e, inr (inr k)) differ there =
    let later : Differ (ids_of (full (header_written b.id h x.now).disk)) = subst Differ (sym (ids_same b.id (write (header_spelling h)) (λ f. refl) x.now.disk)) differ in
    record {
      since = header_written b.id h x.now ∷ header_written b.id h x.now ∷ [];
      moments = e ∙ ap (λ (ms : List Moment). x.moments ++ ms) k;
      steps = (header_step b h x.now legal differ there, (step_same (header_written b.id h x.now) later, tt));
    }

-- ---- places

headed_is : (h : HeadedFile) (o : Option FileState) (f : FileState) → IsHeaded h o → o ≡ Some f → IsHeaded h (Some f)
headed_is h o f k e = subst (IsHeaded h) e k

linked_is : (h : HeadedFile) (o : Option FileState) (f : FileState) → IsLinked h o → o ≡ Some f → IsLinked h (Some f)
linked_is h o f k e = subst (IsLinked h) e k

pub reads_header : (h : FileHeader) (f : FileState) → IsTrue (is_legal_header h) → HasHeader h f → header_of (take 4096 f.stable) ≡ Ok h
reads_header h f legal k = ap header_of k.stable ∙ header_of-header_spelling h legal

into_use : (h : HeadedFile) (m : Moment) (f : FileState) → f.id ≡ h.id → IsTrue (is_legal_header h.header) → IsHeaded h (Some f) → IsLeastOnDisk h.header.part h.header.kib h.id m.disk → PoolFileStep m f (record f { place = InUse })
into_use h m f id legal k least = record {
  taken = λ a b. (
    h.header,
    record {
      legal = reads_header h.header f legal k.2;
      quiet = k.1;
      least = subst (WasLeast m.disk f) (sym k.0) (subst (λ n. IsLeastOnDisk h.header.part h.header.kib n m.disk) (sym id) least);
      pool = subst (NamesPool h.header) (sym k.0) (refl, refl);
    },
  );
  returned = λ a b. absurd (not_both true b refl);
  written = λ w e. absurd (longer f.pending w e);
}

back_home : (h : HeadedFile) (m : Moment) (f : FileState) → IsTrue (is_legal_header h.header) → IsLinked h (Some f) → PoolFileStep m f (record f { place = Empty h.header.part h.header.kib })
back_home h m f legal k = record {
  taken = λ a b. absurd (not_both false refl b);
  returned = λ a b. (h.header, record { legal = reads_header h.header f legal k.1; home = (refl, refl); bytes = refl; pending = refl });
  written = λ w e. absurd (longer f.pending w e);
}

pub link_step : (h : HeadedFile) (m : Moment) → IsTrue (is_legal_header h.header) → Differ (ids_of (full m.disk)) → HeadedThere h m.disk → IsLeastOnDisk h.header.part h.header.kib h.id m.disk
    → IsPoolStep m (put_in_use h.id m)
link_step h m legal differ there least =
    step_change h.id (λ f. record f { place = InUse }) (λ f. refl) m differ (λ f e. into_use h m f (found_id h.id f m.disk e) legal (headed_is h (file_of h.id m.disk) f there e) least)

pub back_step : (h : HeadedFile) (m : Moment) → IsTrue (is_legal_header h.header) → Differ (ids_of (full m.disk)) → LinkedThere h m.disk → IsPoolStep m (put_back h.id h.header m)
back_step h m legal differ there =
    step_change h.id (λ f. record f { place = Empty h.header.part h.header.kib }) (λ f. refl) m differ (λ f e. back_home h m f legal (linked_is h (file_of h.id m.disk) f there e))

-- ---- ids differ still

ids_all : (n : ℕ) (d : Disk) → AllByRecursion (λ g. (n == g.id) ≡ false) d → AllByRecursion (λ id. nat_eq n id ≡ false) (ids_of (full d))
ids_all n [] h = tt
ids_all n (f ∷ d) h = (h.0, ids_all n d h.1)

eqb_turned : (m n : ℕ) → (m == n) ≡ false → (n == m) ≡ false
eqb_turned m n e = grind (arith, nat_tests, e)

above_all : (n : ℕ) (d : Disk) → greatest_id d < n → AllByRecursion (λ g. (n == g.id) ≡ false) d
above_all n [] h = tt
above_all n (f ∷ d) h = (eqb_turned f.id n (eqb_less f.id n (below_left f.id (greatest_id d) n h)), above_all n d (below_right f.id (greatest_id d) n h))

differ_with : (f : FileState) (d : Disk) → AllByRecursion (λ g. (f.id == g.id) ≡ false) d → Differ (ids_of (full d)) → Differ (ids_of (full (with_file f d)))
differ_with f [] a h = (tt, tt)
differ_with f (g ∷ d) a h =
    elim (ltb f.id g.id) as (λ b. Differ (ids_of (full (cond b (f ∷ g ∷ d) (g ∷ with_file f d))))) [
      | true ↦ (ids_all f.id (g ∷ d) a, h)
      | false ↦ (ids_all g.id (with_file f d) (all_with (λ x. (g.id == x.id) ≡ false) f (eqb_turned f.id g.id a.0) d (apart g.id d h.0)), differ_with f d a.1 h.1)
    ]

pub differ_create : (n part kib : ℕ) (d : Disk) → n ≡ greatest_id d + 1 → Differ (ids_of (full d)) → Differ (ids_of (full (create_at n part kib d)))
differ_create n part kib d next h =
    differ_with (record { id = n; place = Empty part kib; stable = replicate (4096 + 1024 * kib) 0; pending = [] }) d (above_all n d (omega (arith, next))) h

pub differ_change : (own : ℕ) (c : FileState → FileState) → KeepsId c → (d : Disk) → Differ (ids_of (full d)) → Differ (ids_of (full (change_file own c d)))
differ_change own c keeps d h = subst Differ (sym (ids_same own c keeps d)) h

pub heads_ids : {X : Type 0} (id : ℕ) (h : FileHeader) (v : X) (x y : Content) → Heads id h (Ok v) x y → Differ (ids_of (full x.now.disk)) → Differ (ids_of (full y.now.disk))
heads_ids id h v x y e k =
    subst (λ (c : Content). Differ (ids_of (full c.now.disk))) (sym e)
    (differ_change id sync (λ f. refl) (write_at id 0 (header_spelling h) x.now.disk) (differ_change id (write (header_spelling h)) (λ f. refl) x.now.disk k))

pub moved_ids : (id : ℕ) (to : Place) (x y : Content) → Acts (on_disk (relocate_at id to)) x y → Differ (ids_of (full x.now.disk)) → Differ (ids_of (full y.now.disk))
moved_ids id to x y e k = subst (λ (c : Content). Differ (ids_of (full c.now.disk))) (sym e) (differ_change id (λ f. record f { place = to }) (λ f. refl) x.now.disk k)

-- ---- one call after another

-- calls that answered Ok, and then one more
steps_then : (m : Moment) (ms ns : List Moment) → ArePoolSteps m ms → ArePoolSteps (last_of m ms) ns → ArePoolSteps m (ms ++ ns)
steps_then m [] ns h k = k
steps_then m (n ∷ ms) ns h k = (h.0, steps_then n ms ns h.1 k)

last_then : (m : Moment) (ms ns : List Moment) → last_of m (ms ++ ns) ≡ last_of (last_of m ms) ns
last_then m [] ns = refl
last_then m (n ∷ ms) ns = last_then n ms ns

pub ends_adds : (x y z : Content) → EndsPoolSteps x y → AddsPoolSteps y z → AddsPoolSteps x z
ends_adds x y z h k = record {
  since = h.since ++ k.since;
  moments = k.moments ∙ ap (λ (ms : List Moment). ms ++ k.since) h.moments ∙ append_assoc x.moments h.since k.since;
  steps = steps_then x.now h.since k.since h.steps (subst (λ m. ArePoolSteps m k.since) h.last k.steps);
}

pub ends_then : (x y z : Content) → EndsPoolSteps x y → EndsPoolSteps y z → EndsPoolSteps x z
ends_then x y z h k = record {
  since = h.since ++ k.since;
  moments = k.moments ∙ ap (λ (ms : List Moment). ms ++ k.since) h.moments ∙ append_assoc x.moments h.since k.since;
  steps = steps_then x.now h.since k.since h.steps (subst (λ m. ArePoolSteps m k.since) h.last k.steps);
  last = k.last ∙ ap (λ m. last_of m k.since) h.last ∙ sym (last_then x.now h.since k.since);
}
