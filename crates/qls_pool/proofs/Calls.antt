-- What each call leaves: the files as the values name them, the pool's condition, and the discipline.
use Rattle.std.proofs.Common.{◌≡◌, inl, inr, ℕ, ◌≤◌, ◌+◌, true, false, cond, ◌==◌, List, [], ◌∷◌, ◌++◌, length, take, drop, Option, Some, None, Result, Ok, Err, IfSome, IsTrue, IsErr, refl, sym, ap, ◌∙◌, subst, arith, append_assoc, append-nil}
use Rattle.std.proofs.Math.Seq.{take-append_seam}
use Rattle.std.specs.Result.{IsErrAnd}
use Rattle.qls_model.specs.Limits.{file_size}
use Rattle.qls_site.specs.declared.site.SiteError.{SiteError}
use Rattle.qls_site.specs.declared.site.SiteError.TheVariants.{Failed, Memory}
use Rattle.qls_site.specs.declared.site.Place.TheVariants.{InUse, Empty}
use Rattle.qls_site.specs.Disk.{Disk, FileState, Write, file_of, full, size_of, changed, change_file, all_written, written, write_at, sync_at, relocate_at}
use Rattle.qls_site.specs.Content.{Moment, Content, Tells, Acts, Stays, MayAct, Leads, on_disk}
use Rattle.qls_site.proofs.DiskLaws.{length-written}
use Rattle.qls_site.proofs.Told.{KeepsId, Tells-weaken, Tells-then}
use Rattle.qls_filehdr.specs.declared.FileHeader.{FileHeader}
use Rattle.qls_filehdr.specs.Limits.{is_legal_header}
use Rattle.qls_filehdr.specs.Header.{header_spelling}
use Rattle.qls_meaning.specs.Kept.{Differ, ids_of}
use Rattle.qls_meaning.specs.Spent.{is_pool_place}
use Rattle.qls_pool.specs.Files.{BlankFile, HeadedFile, HeadsBlank, IsBlank, IsHeaded, IsAtRest, BlankThere, HeadedThere, LinkedThere, RestsThere, OnDisk, Carries, IsPoolOf}
use Rattle.qls_pool.specs.Pools.{PoolState}
use Rattle.qls_pool.specs.Taking.{header_written, header_synced, put_in_use, put_back, Heads}
use Rattle.qls_pool.specs.Discipline.{IsLeastOnDisk, AddsPoolSteps, StepsBy, Orderly}
use Rattle.qls_pool.proofs.Disks.{pool_kept, pool_linked}
use Rattle.qls_pool.proofs.Steps.{all_map, own_change, header_length, adds_none, adds_leads, link_step, back_step, heads_steps}

-- ---- told content

pub orderly_of : {X E : Type 0} (R : Content → Content → Type 0) (P : Disk → Type 0) (r : Result X E) (a b : Option Content) → Tells R a b
    → ((x y : Content) → R x y → Differ (ids_of (full x.now.disk)) → P x.now.disk → StepsBy r x y) → Orderly P r a b
orderly_of R P r None b t s = tt
orderly_of R P r (Some x) None t s = tt
orderly_of R P r (Some x) (Some y) t s = s x y t

pub carries_of : (R : Content → Content → Type 0) (P Q : Disk → Type 0) (a b : Option Content) → Tells R a b → ((x y : Content) → R x y → P x.now.disk → Q y.now.disk) → Carries P Q a b
carries_of R P Q None b r s = tt
carries_of R P Q (Some x) None r s = tt
carries_of R P Q (Some x) (Some y) r s = s x y r

pub told_then : (R : Content → Content → Type 0) (P Q : Disk → Type 0) (a b : Option Content) → Tells R a b → IfSome a (OnDisk P) → ((x y : Content) → R x y → P x.now.disk → Q y.now.disk) → IfSome b (OnDisk Q)
told_then R P Q None None r p s = tt
told_then R P Q None (Some y) r p s = absurd r
told_then R P Q (Some x) None r p s = absurd r
told_then R P Q (Some x) (Some y) r p s = s x y r p

-- what is asked at the start too
pub carries_with : (R : Content → Content → Type 0) (H P Q : Disk → Type 0) (a b : Option Content) → Tells R a b → IfSome a (OnDisk H)
    → ((x y : Content) → R x y → H x.now.disk → P x.now.disk → Q y.now.disk) → Carries P Q a b
carries_with R H P Q None b r h s = tt
carries_with R H P Q (Some x) None r h s = tt
carries_with R H P Q (Some x) (Some y) r h s = s x y r h

pub orderly_with : {X E : Type 0} (R : Content → Content → Type 0) (H P : Disk → Type 0) (r : Result X E) (a b : Option Content) → Tells R a b → IfSome a (OnDisk H)
    → ((x y : Content) → R x y → H x.now.disk → Differ (ids_of (full x.now.disk)) → P x.now.disk → StepsBy r x y) → Orderly P r a b
orderly_with R H P r None b t h s = tt
orderly_with R H P r (Some x) None t h s = tt
orderly_with R H P r (Some x) (Some y) t h s = s x y t h

pub by_err : {X E : Type 0} (r : Result X E) (x y : Content) → IsErr r → AddsPoolSteps x y → StepsBy r x y
by_err {X} {E} (Ok v) x y e h = absurd (not_ok v e)
  where
    not_ok : (v : X) → IsErr {T = X} {E = E} (Ok v) → ⊥
    not_ok v e = cc
by_err (Err f) x y e h = h

-- an error before any call
pub orderly_same : {X E : Type 0} (P : Disk → Type 0) (r : Result X E) (a : Option Content) → IsErr r → Orderly P r a a
orderly_same P r None e = tt
orderly_same P r (Some x) e = λ differ p. by_err r x x e (adds_none x x refl)

-- the error that a call handed on
pub handed_on : {X : Type 0} (r : Result X SiteError) (e : SiteError) → IsErr r × IsErrAnd r (λ f. f ≡ e) → r ≡ Err e
handed_on (Ok x) e (h, k) = absurd (cc)
handed_on (Err f) e (h, k) = ap Err k

leads_swap : (X Y : Type 0) (act : Moment → Moment) (e : SiteError) (x y : Content) → Leads {X = X} (Acts act) (MayAct act) (Err e) x y → Leads {X = Y} (Acts act) (MayAct act) (Err e) x y
leads_swap X Y act Failed x y h = h
leads_swap X Y act Memory x y h = h

pub leads_err : (X : Type 0) {Y : Type 0} (act : Moment → Moment) (e : SiteError) (r : Result Y SiteError) → r ≡ Err e → (a b : Option Content) → Tells (Leads {X = X} (Acts act) (MayAct act) (Err e)) a b
    → Tells (Leads {X = Y} (Acts act) (MayAct act) r) a b
leads_err X {Y} act e r is a b t =
    subst (λ q. Tells (Leads {X = Y} (Acts act) (MayAct act) q) a b) (sym is)
    (Tells-weaken (Leads {X = X} (Acts act) (MayAct act) (Err e)) (Leads {X = Y} (Acts act) (MayAct act) (Err e)) a b t (leads_swap X Y act e))

pub heads_err : (X : Type 0) {Y : Type 0} (id : ℕ) (h : FileHeader) (e : SiteError) (r : Result Y SiteError) → r ≡ Err e → (a b : Option Content) → Tells (Heads {X = X} id h (Err e)) a b → Tells (Heads {X = Y} id h r) a b
heads_err X {Y} id h e r is a b t = subst (λ q. Tells (Heads {X = Y} id h q) a b) (sym is) t

-- ---- the two calls of a header

abbrev wrote_header : ℕ → FileHeader → Moment → Moment
wrote_header id h = on_disk (write_at id 0 (header_spelling h))

write_failed : (X Y : Type 0) (id : ℕ) (h : FileHeader) (e : SiteError) (x y : Content) → Leads {X = X} (Acts (wrote_header id h)) (Acts (wrote_header id h)) (Err e) x y → Heads {X = Y} id h (Err e) x y
write_failed X Y id h Failed x y k = (header_written id h x.now ∷ [], ap (λ c. c.moments) k, inr (inl refl))
write_failed X Y id h Memory x y k = ([], ap (λ c. c.moments) k ∙ sym (append-nil x.moments), inl refl)

pub write_err : (X : Type 0) {Y : Type 0} (id : ℕ) (h : FileHeader) (bytes : List ℕ) (e : SiteError) (r : Result Y SiteError) → bytes ≡ header_spelling h → r ≡ Err e → (a b : Option Content)
    → Tells (Leads {X = X} (Acts (on_disk (write_at id 0 bytes))) (Acts (on_disk (write_at id 0 bytes))) (Err e)) a b → Tells (Heads {X = Y} id h r) a b
write_err X {Y} id h bytes e r spelled is a b t =
    let told : Tells (Leads {X = X} (Acts (wrote_header id h)) (Acts (wrote_header id h)) (Err e)) a b =
    subst (λ (bs : List ℕ). Tells (Leads {X = X} (Acts (on_disk (write_at id 0 bs))) (Acts (on_disk (write_at id 0 bs))) (Err e)) a b) spelled t in
    subst (λ q. Tells (Heads {X = Y} id h q) a b) (sym is)
    (Tells-weaken (Leads {X = X} (Acts (wrote_header id h)) (Acts (wrote_header id h)) (Err e)) (Heads {X = Y} id h (Err e)) a b told (write_failed X Y id h e))

sync_failed : (X Y : Type 0) (id : ℕ) (h : FileHeader) (e : SiteError) (x y z : Content) → Acts (wrote_header id h) x y → Leads {X = X} (Acts (on_disk (sync_at id))) Stays (Err e) y z → Heads {X = Y} id h (Err e) x z
sync_failed X Y id h Failed x y z k l = (
  header_written id h x.now ∷ header_written id h x.now ∷ [],
  ap (λ c. c.moments) l ∙ ap (λ (c : Content). c.moments ++ c.now ∷ []) k ∙ append_assoc x.moments (header_written id h x.now ∷ []) (header_written id h x.now ∷ []),
  inr (inr refl),
)
sync_failed X Y id h Memory x y z k l = (header_written id h x.now ∷ [], ap (λ c. c.moments) l ∙ ap (λ c. c.moments) k, inr (inl refl))

pub sync_err : (X : Type 0) {Y : Type 0} (id : ℕ) (h : FileHeader) (bytes : List ℕ) (e : SiteError) (r : Result Y SiteError) → bytes ≡ header_spelling h → r ≡ Err e → (a b c : Option Content)
    → Tells (Acts (on_disk (write_at id 0 bytes))) a b → Tells (Leads {X = X} (Acts (on_disk (sync_at id))) Stays (Err e)) b c → Tells (Heads {X = Y} id h r) a c
sync_err X {Y} id h bytes e r spelled is a b c t u =
    let told : Tells (Acts (wrote_header id h)) a b = subst (λ (bs : List ℕ). Tells (Acts (on_disk (write_at id 0 bs))) a b) spelled t in
    subst (λ q. Tells (Heads {X = Y} id h q) a c) (sym is)
    (Tells-then (Acts (wrote_header id h)) (Leads {X = X} (Acts (on_disk (sync_at id))) Stays (Err e)) (Heads {X = Y} id h (Err e)) a b c told u (sync_failed X Y id h e))

both_done : (id : ℕ) (h : FileHeader) (x y z : Content) → Acts (wrote_header id h) x y → Acts (on_disk (sync_at id)) y z → Heads {X = Unit {0}} id h (Ok tt) x z
both_done id h x y z k l =
    l ∙ ap (λ (c : Content). record { now = on_disk (sync_at id) c.now; moments = c.moments ++ on_disk (sync_at id) c.now ∷ [] }) k
    ∙ ap (λ (ms : List Moment). record { now = header_synced id h x.now; moments = ms }) (append_assoc x.moments (header_written id h x.now ∷ []) (header_synced id h x.now ∷ []))

pub heads_done : (id : ℕ) (h : FileHeader) (bytes : List ℕ) → bytes ≡ header_spelling h → (a b c : Option Content) → Tells (Acts (on_disk (write_at id 0 bytes))) a b → Tells (Acts (on_disk (sync_at id))) b c
    → Tells (Heads {X = Unit {0}} id h (Ok tt)) a c
heads_done id h bytes spelled a b c t u =
    Tells-then (Acts (wrote_header id h)) (Acts (on_disk (sync_at id))) (Heads {X = Unit {0}} id h (Ok tt)) a b c
    (subst (λ (bs : List ℕ). Tells (Acts (on_disk (write_at id 0 bs))) a b) spelled t) u (both_done id h)

-- ---- the headed file

abbrev write : List ℕ → FileState → FileState
write bytes f = record f { pending = f.pending ++ (record { at = 0; bytes = bytes }) ∷ [] }

abbrev sync : FileState → FileState
sync f = record f { stable = all_written f.pending f.stable; pending = [] }

pub one_more_write : (ps : List Write) (w : Write) (old : List ℕ) → all_written (ps ++ w ∷ []) old ≡ written w (all_written ps old)
one_more_write [] w old = refl
one_more_write (p ∷ ps) w old = one_more_write ps w (written p old)

size_wrote : (bytes : List ℕ) (f : FileState) → length bytes ≤ size_of f → size_of (write bytes f) ≡ size_of f
size_wrote bytes f fits =
    ap length (one_more_write f.pending (record { at = 0; bytes = bytes }) f.stable) ∙ length-written (record { at = 0; bytes = bytes }) (all_written f.pending f.stable) (omega (arith, fits))

front_wrote : (bytes : List ℕ) (f : FileState) → length bytes ≡ 4096 → take 4096 (all_written (write bytes f).pending f.stable) ≡ bytes
front_wrote bytes f size =
    let old : List ℕ = all_written f.pending f.stable in
    ap (take 4096) (one_more_write f.pending (record { at = 0; bytes = bytes }) f.stable)
    ∙ ap (λ n. take n (bytes ++ drop (0 + length bytes) old)) (sym size) ∙ take-append_seam bytes (drop (0 + length bytes) old)

front_fits : (h : FileHeader) (size kib : ℕ) → IsTrue (is_legal_header h) → size ≡ file_size kib → length (header_spelling h) ≤ size
front_fits h size kib legal e = omega (arith, header_length h legal, e)

same_pool : (b : BlankFile) (h : FileHeader) → HeadsBlank b h → Empty b.home.part b.home.kib ≡ Empty h.part h.kib
same_pool b h own = ap (λ p. Empty p b.home.kib) (sym own.part) ∙ ap (λ k. Empty h.part k) (sym own.kib)

headed_from : (b : BlankFile) (h : FileHeader) (d : Disk) → IsTrue (is_legal_header h) → HeadsBlank b h → (o : Option FileState) → file_of b.id d ≡ o → IsBlank b o
    → HeadedThere (record { id = b.id; header = h }) (sync_at b.id (write_at b.id 0 (header_spelling h) d))
headed_from b h d legal own None e k = absurd k
headed_from b h d legal own (Some f) e k =
    let wrote : file_of b.id (write_at b.id 0 (header_spelling h) d) ≡ Some (write (header_spelling h) f) = own_change b.id (write (header_spelling h)) (λ f. refl) d f e in
    subst (IsHeaded (record { id = b.id; header = h })) (sym (own_change b.id sync (λ f. refl) (write_at b.id 0 (header_spelling h) d) (write (header_spelling h) f) wrote)) (
      k.0 ∙ same_pool b h own,
      refl,
      record {
        size = size_wrote (header_spelling h) f (front_fits h (size_of f) b.home.kib legal k.1) ∙ k.1 ∙ ap file_size (sym own.kib);
        stable = front_wrote (header_spelling h) f (header_length h legal);
      },
    )

pub headed_there : {X : Type 0} (b : BlankFile) (h : FileHeader) (v : X) → IsTrue (is_legal_header h) → HeadsBlank b h → (x y : Content) → Heads b.id h (Ok v) x y → BlankThere b x.now.disk
    → HeadedThere (record { id = b.id; header = h }) y.now.disk
headed_there b h v legal own x y e k =
    subst (λ (c : Content). HeadedThere (record { id = b.id; header = h }) c.now.disk) (sym e) (headed_from b h x.now.disk legal own (file_of b.id x.now.disk) refl k)

blank_size : (b : BlankFile) (o : Option FileState) (f : FileState) → IsBlank b o → o ≡ Some f → size_of f ≡ file_size b.home.kib
blank_size b o f h e = (subst (IsBlank b) e h).1

pub heads_pool : {X : Type 0} (b : BlankFile) (h : FileHeader) (v : X) → IsTrue (is_legal_header h) → (pool : PoolState) (out : List ℕ) (x y : Content) → Heads b.id h (Ok v) x y → BlankThere b x.now.disk
    → IsPoolOf pool out x.now.disk → IsPoolOf pool out y.now.disk
heads_pool b h v legal pool out x y e k p =
    let d : Disk = x.now.disk in
    let first : IsPoolOf pool out (write_at b.id 0 (header_spelling h) d) =
    pool_kept b.id (write (header_spelling h)) (λ f. refl) (λ f. refl) d
    (λ f is. size_wrote (header_spelling h) f (front_fits h (size_of f) b.home.kib legal (blank_size b (file_of b.id d) f k is))) pool out p in
    subst (λ (c : Content). IsPoolOf pool out c.now.disk) (sym e) (pool_kept b.id sync (λ f. refl) (λ f. refl) (write_at b.id 0 (header_spelling h) d) (λ f is. refl) pool out first)

least_kept : (part kib id own : ℕ) (c : FileState → FileState) → KeepsId c → ((f : FileState) → (c f).place ≡ f.place) → (d : Disk) → IsLeastOnDisk part kib id d → IsLeastOnDisk part kib id (change_file own c d)
least_kept part kib id own c keeps place d h =
    all_map (λ g. is_pool_place part kib g.place ≡ true → id ≤ g.id) (λ g. is_pool_place part kib g.place ≡ true → id ≤ g.id) (changed own c)
    (λ f p. elim (f.id == own) as (λ b. is_pool_place part kib (cond b (c f) f).place ≡ true → id ≤ (cond b (c f) f).id) [
      | true ↦ λ k. subst (λ n. id ≤ n) (sym (keeps f)) (p (ap (is_pool_place part kib) (sym (place f)) ∙ k))
      | false ↦ p
    ]) d h

pub heads_least : {X : Type 0} (id : ℕ) (h : FileHeader) (v : X) (part kib n : ℕ) (x y : Content) → Heads id h (Ok v) x y → IsLeastOnDisk part kib n x.now.disk → IsLeastOnDisk part kib n y.now.disk
heads_least id h v part kib n x y e p =
    subst (λ (c : Content). IsLeastOnDisk part kib n c.now.disk) (sym e)
    (least_kept part kib n id sync (λ f. refl) (λ f. refl) (write_at id 0 (header_spelling h) x.now.disk)
    (least_kept part kib n id (write (header_spelling h)) (λ f. refl) (λ f. refl) x.now.disk p))

-- ---- the linked file

linked_from : (h : HeadedFile) (d : Disk) (o : Option FileState) → file_of h.id d ≡ o → IsHeaded h o → RestsThere h (relocate_at h.id InUse d)
linked_from h d None e k = absurd k
linked_from h d (Some f) e k =
    subst (IsAtRest h) (sym (own_change h.id (λ f. record f { place = InUse }) (λ f. refl) d f e)) (refl, k.1, record { size = k.2.size; stable = k.2.stable })

pub linked_there : (h : HeadedFile) (x y : Content) → Acts (put_in_use h.id) x y → HeadedThere h x.now.disk → RestsThere h y.now.disk
linked_there h x y e k = subst (λ (c : Content). RestsThere h c.now.disk) (sym e) (linked_from h x.now.disk (file_of h.id x.now.disk) refl k)

pub links_pool : (id : ℕ) (pool : PoolState) (out : List ℕ) (x y : Content) → Acts (put_in_use id) x y → IsPoolOf pool (id ∷ out) x.now.disk → IsPoolOf pool out y.now.disk
links_pool id pool out x y e p = subst (λ (c : Content). IsPoolOf pool out c.now.disk) (sym e) (pool_linked id x.now.disk pool out p)

pub link_orderly : {X : Type 0} (h : HeadedFile) (r : Result X SiteError) (a b : Option Content) → IsTrue (is_legal_header h.header) → Tells (Leads (Acts (put_in_use h.id)) (MayAct (put_in_use h.id)) r) a b
    → IfSome a (OnDisk (HeadedThere h)) → Orderly (IsLeastOnDisk h.header.part h.header.kib h.id) r a b
link_orderly h r a b legal t there =
    orderly_with (Leads (Acts (put_in_use h.id)) (MayAct (put_in_use h.id)) r) (HeadedThere h) (IsLeastOnDisk h.header.part h.header.kib h.id) r a b t there
    (λ x y l k differ p. adds_leads (put_in_use h.id) r x y l differ (link_step h x.now legal differ k p))

pub head_orderly : {X : Type 0} (b : BlankFile) (h : FileHeader) (r : Result X SiteError) (o p : Option Content) → IsTrue (is_legal_header h) → Tells (Heads b.id h r) o p → Orderly (BlankThere b) r o p
head_orderly b h r o p legal t = orderly_of (Heads b.id h r) (BlankThere b) r o p t (λ x y l differ k. heads_steps b h r x y legal l differ k)

pub back_orderly : {X : Type 0} (h : HeadedFile) (r : Result X SiteError) (a b : Option Content) → IsTrue (is_legal_header h.header) → Tells (Leads (Acts (put_back h.id h.header)) (MayAct (put_back h.id h.header)) r) a b
    → Orderly (LinkedThere h) r a b
back_orderly h r a b legal t =
    orderly_of (Leads (Acts (put_back h.id h.header)) (MayAct (put_back h.id h.header)) r) (LinkedThere h) r a b t
    (λ x y l differ k. adds_leads (put_back h.id h.header) r x y l differ (back_step h x.now legal differ k))

-- ---- conditions of the next call

pub carried : (R : Content → Content → Type 0) (P Q : Disk → Type 0) (a b : Option Content) → Tells R a b → Carries P Q a b → IfSome a (OnDisk P) → IfSome b (OnDisk Q)
carried R P Q None None t c h = tt
carried R P Q None (Some y) t c h = absurd t
carried R P Q (Some x) None t c h = absurd t
carried R P Q (Some x) (Some y) t c h = c h
