-- The files as a reader sees them, kept beside the log.
use Rattle.std.proofs.Common.{◌≡◌, ℕ, List, map, None, refl, sym, ap, ◌∙◌, subst}
use Rattle.qls_site.specs.declared.site.Place.{Place}
use Rattle.qls_site.specs.Disk.{Disk, Image, full, file_of, listing, bytes_at, write_at, sync_at, create_at, relocate_at, at_rest}
use Rattle.qls_site.specs.Content.{InFile}
use Rattle.qls_memsite.specs.Seen.{seen_of, change_seen, with_bytes, at_place, with_seen, zeros, listed_seen, bytes_of, HasBytes, IdsRise}
use Rattle.qls_memsite.proofs.Full.{full-at_rest, full-write, full-sync, full-relocate, full-create, listing-full, bytes-full, range-full, lacks-full}
use Rattle.qls_memsite.proofs.Seen.{rise_changed, rise_with}

pub kept_begun : (i : Image) → full (at_rest i) ≡ i
kept_begun i = full-at_rest i

pub kept_listing : (d : Disk) (i : Image) → full d ≡ i → map listed_seen i ≡ listing d
kept_listing d i kept = ap (map listed_seen) (sym kept) ∙ sym (listing-full d)

pub kept_range : (id at n : ℕ) (d : Disk) (i : Image) → full d ≡ i → InFile at n (file_of id d) → HasBytes at n (seen_of id i)
kept_range id at n d i kept h = subst (λ j. HasBytes at n (seen_of id j)) kept (range-full id at n d h)

pub kept_lack : (id : ℕ) (d : Disk) (i : Image) → full d ≡ i → file_of id d ≡ None → seen_of id i ≡ None
kept_lack id d i kept h = subst (λ j. seen_of id j ≡ None) kept (lacks-full id d h)

pub kept_bytes : (id : ℕ) (d : Disk) (i : Image) → full d ≡ i → bytes_of (seen_of id i) ≡ bytes_at id d
kept_bytes id d i kept = ap (λ j. bytes_of (seen_of id j)) (sym kept) ∙ sym (bytes-full id d)

pub kept_write : (id at : ℕ) (bytes : List ℕ) (d : Disk) (i : Image) → full d ≡ i → full (write_at id at bytes d) ≡ change_seen id (with_bytes at bytes) i
kept_write id at bytes d i kept = full-write id at bytes d ∙ ap (change_seen id (with_bytes at bytes)) kept

pub kept_sync : (id : ℕ) (d : Disk) (i : Image) → full d ≡ i → full (sync_at id d) ≡ i
kept_sync id d i kept = full-sync id d ∙ kept

pub kept_relocate : (id : ℕ) (to : Place) (d : Disk) (i : Image) → full d ≡ i → full (relocate_at id to d) ≡ change_seen id (at_place to) i
kept_relocate id to d i kept = full-relocate id to d ∙ ap (change_seen id (at_place to)) kept

pub kept_create : (id part kib : ℕ) (d : Disk) (i : Image) → full d ≡ i → full (create_at id part kib d) ≡ with_seen (zeros id part kib) i
kept_create id part kib d i kept = full-create id part kib d ∙ ap (with_seen (zeros id part kib)) kept

pub rise_write : (id at : ℕ) (bytes : List ℕ) (i : Image) → IdsRise i → IdsRise (change_seen id (with_bytes at bytes) i)
rise_write id at bytes i h = rise_changed id (with_bytes at bytes) (λ f. refl) i h

pub rise_relocate : (id : ℕ) (to : Place) (i : Image) → IdsRise i → IdsRise (change_seen id (at_place to) i)
rise_relocate id to i h = rise_changed id (at_place to) (λ f. refl) i h

pub rise_create : (id part kib : ℕ) (i : Image) → seen_of id i ≡ None → IdsRise i → IdsRise (with_seen (zeros id part kib) i)
rise_create id part kib i none h = rise_with (zeros id part kib) i none h
