-- What a reader sees of the disk after each call.
use Rattle.std.proofs.Common.{◌≡◌, ℕ, true, false, cond, List, [], ◌∷◌, ◌++◌, map, eqb, ltb, Option, Some, None, option_map, refl, sym, ap, ◌∙◌, subst}
use Rattle.qls_site.specs.declared.site.Place.{Place}
use Rattle.qls_site.specs.declared.site.ImageFile.{ImageFile}
use Rattle.qls_site.specs.Disk.{Disk, Image, FileState, Write, full, full_file, file_of, changed, change_file, write_at, sync_at, relocate_at, create_at, with_file, written, all_written, listing, listed, bytes_at, seen_bytes, at_rest}
use Rattle.qls_site.specs.Content.{InFile}
use Rattle.qls_memsite.specs.Seen.{seen_of, changed_seen, change_seen, with_bytes, at_place, with_seen, zeros, listed_seen, bytes_of, HasBytes}

full_changed_file : (id : ℕ) (g : FileState → FileState) (h : ImageFile → ImageFile) → ((f : FileState) → full_file (g f) ≡ h (full_file f))
    → (f : FileState) → full_file (changed id g f) ≡ changed_seen id h (full_file f)
full_changed_file id g h same f = elim (eqb f.id id) as (λ b. full_file (cond b (g f) f) ≡ cond b (h (full_file f)) (full_file f)) [ true ↦ same f | false ↦ refl ]

full_changed : (id : ℕ) (g : FileState → FileState) (h : ImageFile → ImageFile) → ((f : FileState) → full_file (g f) ≡ h (full_file f))
    → (d : Disk) → full (change_file id g d) ≡ change_seen id h (full d)
full_changed id g h same [] = refl
full_changed id g h same (f ∷ d) = λ k. full_changed_file id g h same f k ∷ full_changed id g h same d k

written_last : (ws : List Write) (w : Write) (old : List ℕ) → all_written (ws ++ w ∷ []) old ≡ written w (all_written ws old)
written_last [] w old = refl
written_last (v ∷ ws) w old = written_last ws w (written v old)

pub full-write : (id at : ℕ) (bytes : List ℕ) (d : Disk) → full (write_at id at bytes d) ≡ change_seen id (with_bytes at bytes) (full d)
full-write id at bytes d =
    full_changed id (λ f. record f { pending = f.pending ++ (record { at = at; bytes = bytes }) ∷ [] }) (with_bytes at bytes)
    (λ f k. record { id = f.id; place = f.place; bytes = written_last f.pending (record { at = at; bytes = bytes }) f.stable k }) d

same_seen : (id : ℕ) (i : Image) → change_seen id (λ f. f) i ≡ i
same_seen id [] = refl
same_seen id (f ∷ i) = λ k. elim (eqb f.id id) as (λ b. cond b f f ≡ f) [ true ↦ refl | false ↦ refl ] k ∷ same_seen id i k

pub full-sync : (id : ℕ) (d : Disk) → full (sync_at id d) ≡ full d
full-sync id d = full_changed id (λ f. record f { stable = all_written f.pending f.stable; pending = [] }) (λ f. f) (λ f. refl) d ∙ same_seen id (full d)

pub full-relocate : (id : ℕ) (to : Place) (d : Disk) → full (relocate_at id to d) ≡ change_seen id (at_place to) (full d)
full-relocate id to d = full_changed id (λ f. record f { place = to }) (at_place to) (λ f. refl) d

full_with : (f : FileState) (d : Disk) → full (with_file f d) ≡ with_seen (full_file f) (full d)
full_with f [] = refl
full_with f (g ∷ d) = elim (ltb f.id g.id) as (λ b. full (cond b (f ∷ g ∷ d) (g ∷ with_file f d)) ≡ cond b (full_file f ∷ full_file g ∷ full d) (full_file g ∷ with_seen (full_file f) (full d))) [
  | true ↦ refl
  | false ↦ ap (λ i. full_file g ∷ i) (full_with f d)
]

pub full-create : (id part kib : ℕ) (d : Disk) → full (create_at id part kib d) ≡ with_seen (zeros id part kib) (full d)
full-create id part kib d = full_with _ d

pub full-at_rest : (i : Image) → full (at_rest i) ≡ i
full-at_rest [] = refl
full-at_rest (f ∷ i) = ap (λ j. f ∷ j) (full-at_rest i)

pub seen-full : (id : ℕ) (d : Disk) → seen_of id (full d) ≡ option_map full_file (file_of id d)
seen-full id [] = refl
seen-full id (f ∷ d) = elim (eqb f.id id) as (λ b. cond b (Some (full_file f)) (seen_of id (full d)) ≡ option_map full_file (cond b (Some f) (file_of id d))) [
  | true ↦ refl
  | false ↦ seen-full id d
]

pub listing-full : (d : Disk) → listing d ≡ map listed_seen (full d)
listing-full [] = refl
listing-full (f ∷ d) = ap (λ fs. listed f ∷ fs) (listing-full d)

bytes_full : (o : Option FileState) → seen_bytes o ≡ bytes_of (option_map full_file o)
bytes_full None = refl
bytes_full (Some f) = refl

pub bytes-full : (id : ℕ) (d : Disk) → bytes_at id d ≡ bytes_of (seen_of id (full d))
bytes-full id d = bytes_full (file_of id d) ∙ ap bytes_of (sym (seen-full id d))

range_full : (at n : ℕ) (o : Option FileState) → InFile at n o → HasBytes at n (option_map full_file o)
range_full at n None h = h
range_full at n (Some f) h = h

pub range-full : (id at n : ℕ) (d : Disk) → InFile at n (file_of id d) → HasBytes at n (seen_of id (full d))
range-full id at n d h = subst (HasBytes at n) (sym (seen-full id d)) (range_full at n (file_of id d) h)

none_full : (o : Option FileState) → o ≡ None → option_map full_file o ≡ None
none_full None h = refl
none_full (Some f) h = absurd (cc)

pub lacks-full : (id : ℕ) (d : Disk) → file_of id d ≡ None → seen_of id (full d) ≡ None
lacks-full id d h = seen-full id d ∙ none_full (file_of id d) h
