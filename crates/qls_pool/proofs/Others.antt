-- Calls on other files, and writes to the data area of a file.
use Rattle.std.proofs.Common.{◌≡◌, ℕ, ◌+◌, ◌≤◌, Bool, true, false, ◌==◌, List, [], ◌∷◌, ◌++◌, length, take, Option, Some, None, refl, sym, ap, ◌∙◌, subst, arith, replicate, ◌*◌}
use Rattle.qls_model.specs.Limits.{file_size}
use Rattle.qls_site.specs.declared.site.Place.TheVariants.{Empty}
use Rattle.qls_site.specs.Disk.{Disk, FileState, Write, file_of, size_of, change_file, all_written, written, write_at, sync_at}
use Rattle.qls_site.proofs.DiskLaws.{length-written, front-all_written}
use Rattle.std.proofs.Common.{IfSome}
use Rattle.qls_site.specs.Content.{Content, Tells, Acts, HasRange, HasFile, InFile, on_disk}
use Rattle.qls_site.proofs.Told.{KeepsId, file_of-change_file, Tells-then, IfSome-after, HasFile-write}
use Rattle.qls_pool.proofs.Calls.{told_then, carries_with}
use Rattle.qls_pool.specs.Pools.{PoolState}
use Rattle.qls_pool.specs.Files.{HeadedFile, IsLinked, IsAtRest, LinkedThere, RestsThere, OnDisk, Carries, IsPoolOf}
use Rattle.qls_pool.specs.Laws.{StaysByOthers, DataIsWritten}
use Rattle.qls_pool.proofs.Disks.{eqb_own, other-with, at_change, pool_kept}
use Rattle.qls_pool.proofs.Steps.{own_change}

not_both : (b : Bool) → b ≡ true → b ≡ false → ⊥
not_both b e k = cc

-- another file is found as before
kept_file : (own id : ℕ) (c : FileState → FileState) → KeepsId c → (own == id) ≡ false → (d : Disk) → file_of id (change_file own c d) ≡ file_of id d
kept_file own id c keeps apart d =
    file_of-change_file id own c keeps d
    ∙ sym (at_change own id c d (λ o p. o ≡ p) (λ e. refl) (λ f e k. absurd (not_both (own == id) (ap (λ n. n == id) e ∙ eqb_own id) apart)) (λ f e. refl))

pub stays : (Q : Option FileState → Type 0) (id : ℕ) → StaysByOthers (λ d. Q (file_of id d)) id
stays Q id own apart d h = (
  λ at bytes. subst Q (sym (kept_file own id (λ f. record f { pending = f.pending ++ (record { at = at; bytes = bytes }) ∷ [] }) (λ f. refl) apart d)) h,
  subst Q (sym (kept_file own id (λ f. record f { stable = all_written f.pending f.stable; pending = [] }) (λ f. refl) apart d)) h,
  λ to. subst Q (sym (kept_file own id (λ f. record f { place = to }) (λ f. refl) apart d)) h,
  λ part kib. subst Q (sym (other-with (new part kib) id apart d)) h,
)
  where
    new : ℕ → ℕ → FileState
    new part kib = record { id = own; place = Empty part kib; stable = replicate (4096 + 1024 * kib) 0; pending = [] }

-- ---- data

rest_is_linked : (h : HeadedFile) (o : Option FileState) → IsAtRest h o → IsLinked h o
rest_is_linked h None k = k
rest_is_linked h (Some f) k = (k.0, k.2)

pub linked_at_rest : (h : HeadedFile) (d : Disk) → RestsThere h d → LinkedThere h d
linked_at_rest h d k = rest_is_linked h (file_of h.id d) k

abbrev write : ℕ → List ℕ → FileState → FileState
write at bytes f = record f { pending = f.pending ++ (record { at = at; bytes = bytes }) ∷ [] }

abbrev sync : FileState → FileState
sync f = record f { stable = all_written f.pending f.stable; pending = [] }

-- with nothing pending before, the write alone is seen
seen_write : (at : ℕ) (bytes : List ℕ) (f : FileState) → f.pending ≡ [] → all_written (write at bytes f).pending f.stable ≡ written (record { at = at; bytes = bytes }) f.stable
seen_write at bytes f e = ap (λ (ps : List Write). all_written (ps ++ (record { at = at; bytes = bytes }) ∷ []) f.stable) e

stable_size : (f : FileState) → f.pending ≡ [] → size_of f ≡ length f.stable
stable_size f e = ap (λ (ps : List Write). length (all_written ps f.stable)) e

fits_in : (f : FileState) (at size kib : ℕ) → f.pending ≡ [] → size_of f ≡ file_size kib → at + size ≤ file_size kib → at + size ≤ length f.stable
fits_in f at size kib e k h = omega (arith, stable_size f e, k, h)

data_from : (h : HeadedFile) (at : ℕ) (bytes : List ℕ) (d : Disk) → 4096 ≤ at → at + length bytes ≤ file_size h.header.kib → (o : Option FileState) → file_of h.id d ≡ o → IsAtRest h o → DataIsWritten h at bytes d
data_from h at bytes d low high None e k = absurd k
data_from h at bytes d low high (Some f) e k =
    let w : Write = record { at = at; bytes = bytes } in
    let fits : at + length bytes ≤ length f.stable = fits_in f at (length bytes) h.header.kib k.1 k.2.size high in
    let same : size_of (write at bytes f) ≡ size_of f = ap length (seen_write at bytes f k.1) ∙ length-written w f.stable fits ∙ sym (stable_size f k.1) in
    let wrote : file_of h.id (write_at h.id at bytes d) ≡ Some (write at bytes f) = own_change h.id (write at bytes) (λ g. refl) d f e in
    let found : file_of h.id (sync_at h.id (write_at h.id at bytes d)) ≡ Some (sync (write at bytes f)) = own_change h.id sync (λ g. refl) (write_at h.id at bytes d) (write at bytes f) wrote in
    record {
      linked = subst (IsLinked h) (sym wrote) (k.0, record { size = same ∙ k.2.size; stable = k.2.stable });
      rests = subst (IsAtRest h) (sym found) (
        k.0,
        refl,
        record {
          size = same ∙ k.2.size;
          stable = ap (take 4096) (seen_write at bytes f k.1) ∙ front-all_written 4096 (w ∷ []) f.stable (low, tt) (fits, tt) ∙ k.2.stable;
        },
      );
      pool = λ pool out p.
          pool_kept h.id sync (λ g. refl) (λ g. refl) (write_at h.id at bytes d) (λ g is. refl) pool out
          (pool_kept h.id (write at bytes) (λ g. refl) (λ g. refl) d (λ g is. subst (λ (x : FileState). size_of (write at bytes x) ≡ size_of x) (same_file f g (sym e ∙ is)) same) pool out p);
    }
  where
    same_file : (f g : FileState) → ◌≡◌ {A = Option FileState} (Some f) (Some g) → f ≡ g
    same_file f g e = cc

pub data_is_written : (h : HeadedFile) (at : ℕ) (bytes : List ℕ) (d : Disk) → 4096 ≤ at → at + length bytes ≤ file_size h.header.kib → RestsThere h d → DataIsWritten h at bytes d
data_is_written h at bytes d low high k = data_from h at bytes d low high (file_of h.id d) refl k

-- ---- the two calls that write data

range_at_rest : (h : HeadedFile) (at n : ℕ) → at + n ≤ file_size h.header.kib → (o : Option FileState) → IsAtRest h o → InFile at n o
range_at_rest h at n fits None k = k
range_at_rest h at n fits (Some f) k = subst (λ s. at + n ≤ s) (sym k.2.size) fits

pub data_range : (h : HeadedFile) (at n : ℕ) → at + n ≤ file_size h.header.kib → (o : Option Content) → IfSome o (OnDisk (RestsThere h)) → IfSome o (HasRange h.id at n)
data_range h at n fits None k = tt
data_range h at n fits (Some x) k = range_at_rest h at n fits (file_of h.id x.now.disk) k

abbrev pub WritesData : HeadedFile → ℕ → List ℕ → Content → Content → Type 0
WritesData h at bytes x z = z.now.disk ≡ sync_at h.id (write_at h.id at bytes x.now.disk)

pub data_told : (h : HeadedFile) (at : ℕ) (bytes : List ℕ) (a b c : Option Content) → Tells (Acts (on_disk (write_at h.id at bytes))) a b → Tells (Acts (on_disk (sync_at h.id))) b c → Tells (WritesData h at bytes) a c
data_told h at bytes a b c t u =
    Tells-then (Acts (on_disk (write_at h.id at bytes))) (Acts (on_disk (sync_at h.id))) (WritesData h at bytes) a b c t u
    (λ x y z k l. ap (λ (m : Content). m.now.disk) l ∙ ap (λ (m : Content). sync_at h.id m.now.disk) k)

pub data_rests : (h : HeadedFile) (at : ℕ) (bytes : List ℕ) → 4096 ≤ at → at + length bytes ≤ file_size h.header.kib → (a c : Option Content) → Tells (WritesData h at bytes) a c → IfSome a (OnDisk (RestsThere h))
    → IfSome c (OnDisk (RestsThere h))
data_rests h at bytes low high a c t k =
    told_then (WritesData h at bytes) (RestsThere h) (RestsThere h) a c t k (λ x y e r. subst (RestsThere h) (sym e) (data_is_written h at bytes x.now.disk low high r).rests)

pub data_pool : (h : HeadedFile) (at : ℕ) (bytes : List ℕ) → 4096 ≤ at → at + length bytes ≤ file_size h.header.kib → (a c : Option Content) → Tells (WritesData h at bytes) a c → IfSome a (OnDisk (RestsThere h))
    → (pool : PoolState) (out : List ℕ) → Carries (IsPoolOf pool out) (IsPoolOf pool out) a c
data_pool h at bytes low high a c t k pool out =
    carries_with (WritesData h at bytes) (RestsThere h) (IsPoolOf pool out) (IsPoolOf pool out) a c t k
    (λ x y e r p. subst (IsPoolOf pool out) (sym e) ((data_is_written h at bytes x.now.disk low high r).pool pool out p))

pub after_write : (id at : ℕ) (bytes : List ℕ) (a b : Option Content) → Tells (Acts (on_disk (write_at id at bytes))) a b → IfSome a (HasRange id at (length bytes)) → IfSome b (HasFile id)
after_write id at bytes a b t h = IfSome-after (Acts (on_disk (write_at id at bytes))) (HasRange id at (length bytes)) (HasFile id) a b t h (HasFile-write id at bytes)
