-- Files by rising id: where one stands, and what a change of it does.
use Rattle.std.proofs.Common.{◌≡◌, ◌≢◌, ℕ, zero, suc, ◌<◌, ◌≤◌, Bool, true, false, cond, [], ◌∷◌, length, get_or, set, eqb, ltb, Some, None, refl, sym, ap, subst, arith}
use Rattle.std.specs.List.{insert}
use Rattle.std.proofs.lemmas.Bool.Decides.{nat_tests}
use Rattle.qls_site.specs.declared.site.ImageFile.{ImageFile}
use Rattle.qls_site.specs.Disk.{Image}
use Rattle.qls_memsite.specs.Seen.{seen_of, changed_seen, change_seen, with_seen, before, AllAbove, IdsRise}

-- the id at a place
abbrev pub id_at : Image → ℕ → ImageFile → ℕ
id_at i k d = (get_or i k d).id

pub above_at : (id : ℕ) (i : Image) (k : ℕ) (d : ImageFile) → AllAbove id i → k < length i → id < id_at i k d
above_at id [] k d h within = absurd (omega arith)
above_at id (f ∷ i) zero d h within = h.0
above_at id (f ∷ i) (suc k) d h within = above_at id i k d h.1 (omega arith)

-- a file with a lesser id lies before the place
pub below_place : (i : Image) (id k : ℕ) (d : ImageFile) → IdsRise i → k < length i → id_at i k d < id → k < before id i
below_place [] id k d rise within less = absurd (omega arith)
below_place (f ∷ i) id zero d rise within less = grind (arith, nat_tests)
below_place (f ∷ i) id (suc k) d rise within less =
    grind (arith, nat_tests, above_at f.id i k d rise.0 (omega arith), below_place i id k d rise.1 (omega arith) less)

-- and one with another id at or behind it
pub at_place_or_behind : (i : Image) (id k : ℕ) (d : ImageFile) → IdsRise i → k < length i → id ≤ id_at i k d → before id i ≤ k
at_place_or_behind [] id k d rise within more = absurd (omega arith)
at_place_or_behind (f ∷ i) id zero d rise within more = grind (arith, nat_tests)
at_place_or_behind (f ∷ i) id (suc k) d rise within more = grind (arith, nat_tests, at_place_or_behind i id k d rise.1 (omega arith) more)

pub before_within : (i : Image) (id : ℕ) → before id i ≤ length i
before_within [] id = omega arith
before_within (f ∷ i) id = grind (arith, nat_tests, before_within i id)

-- ---- the file of an id

head_Some : (f g : ImageFile) → Some f ≡ Some g → f ≡ g
head_Some f g e = cc

pub above_none : (id own : ℕ) (i : Image) → AllAbove own i → id ≤ own → seen_of id i ≡ None
above_none id own [] h le = refl
above_none id own (f ∷ i) h le = grind (arith, nat_tests, h.0, above_none id own i h.1 le)

-- the file of that id stands at the place
pub seen_at : (i : Image) (id : ℕ) (f : ImageFile) → IdsRise i → before id i < length i → id_at i (before id i) f ≡ id → seen_of id i ≡ Some (get_or i (before id i) f)
seen_at [] id d rise within same = absurd (omega arith)
seen_at (f ∷ i) id d rise within same = elim (ltb f.id id) as (λ b. (cond b (suc (before id i)) 0 < length (f ∷ i)) → id_at (f ∷ i) (cond b (suc (before id i)) 0) d ≡ id
    → ltb f.id id ≡ b → seen_of id (f ∷ i) ≡ Some (get_or (f ∷ i) (cond b (suc (before id i)) 0) d)) [
      | true ↦ λ w s e. grind (arith, nat_tests, seen_at i id d rise.1 (omega arith) s)
      | false ↦ λ w s e. grind (arith, nat_tests)
    ] within same refl

-- and where another stands there, there is none
pub seen_none : (i : Image) (id : ℕ) (d : ImageFile) → IdsRise i → (before id i < length i → id_at i (before id i) d ≢ id) → seen_of id i ≡ None
seen_none [] id d rise other = refl
seen_none (f ∷ i) id d rise other = elim (ltb f.id id) as (λ b. ((cond b (suc (before id i)) 0 < length (f ∷ i)) → id_at (f ∷ i) (cond b (suc (before id i)) 0) d ≢ id)
    → ltb f.id id ≡ b → seen_of id (f ∷ i) ≡ None) [
      | true ↦ λ o e. grind (arith, nat_tests, seen_none i id d rise.1 (λ w. o (omega arith)))
      | false ↦ λ o e. grind (arith, nat_tests, o (omega arith), above_none id f.id i rise.0 (grind (arith, nat_tests)))
    ] other refl

-- ---- a change of the file at a place

same_above : (id : ℕ) (own : ℕ) (g : ImageFile → ImageFile) (i : Image) → AllAbove own i → id ≤ own → change_seen id g i ≡ i
same_above id own g [] h le = refl
same_above id own g (f ∷ i) h le = grind (arith, nat_tests, h.0, same_above id own g i h.1 le)

pub changed_at : (i : Image) (id k : ℕ) (g : ImageFile → ImageFile) (v : ImageFile) → IdsRise i → k < length i → id_at i k v ≡ id → v ≡ g (get_or i k v)
    → set i k v ≡ change_seen id g i
changed_at [] id k g v rise within same to = absurd (omega arith)
changed_at (f ∷ i) id zero g v rise within same to = grind (arith, nat_tests, same_above id f.id g i rise.0 (omega arith))
changed_at (f ∷ i) id (suc k) g v rise within same to =
    grind (arith, nat_tests, above_at f.id i k v rise.0 (omega arith), changed_at i id k g v rise.1 (omega arith) same to)

-- a change that keeps ids keeps their order
above_changed : (own id : ℕ) (g : ImageFile → ImageFile) → ((f : ImageFile) → (g f).id ≡ f.id) → (i : Image) → AllAbove own i → AllAbove own (change_seen id g i)
above_changed own id g keeps [] h = tt
above_changed own id g keeps (f ∷ i) h = (grind (arith, nat_tests, keeps f, h.0), above_changed own id g keeps i h.1)

changed_id : (id : ℕ) (g : ImageFile → ImageFile) → ((f : ImageFile) → (g f).id ≡ f.id) → (f : ImageFile) → (changed_seen id g f).id ≡ f.id
changed_id id g keeps f = elim (eqb f.id id) as (λ b. (cond b (g f) f).id ≡ f.id) [ true ↦ keeps f | false ↦ refl ]

pub rise_changed : (id : ℕ) (g : ImageFile → ImageFile) → ((f : ImageFile) → (g f).id ≡ f.id) → (i : Image) → IdsRise i → IdsRise (change_seen id g i)
rise_changed id g keeps [] h = tt
rise_changed id g keeps (f ∷ i) h = (subst (λ n. AllAbove n (change_seen id g i)) (sym (changed_id id g keeps f)) (above_changed f.id id g keeps i h.0), rise_changed id g keeps i h.1)

-- ---- a new file

pub with_seen_at : (i : Image) (f : ImageFile) → seen_of f.id i ≡ None → with_seen f i ≡ insert i (before f.id i) f
with_seen_at [] f none = refl
with_seen_at (g ∷ i) f none = at_tests (with_seen_at i f) (ltb f.id g.id) (ltb g.id f.id) refl refl
  where
    at_tests : (seen_of f.id i ≡ None → with_seen f i ≡ insert i (before f.id i) f) → (b c : Bool) → ltb f.id g.id ≡ b → ltb g.id f.id ≡ c → cond b (f ∷ g ∷ i) (g ∷ with_seen f i) ≡ insert (g ∷ i) (cond c (suc (before f.id i)) 0) f
    at_tests rest true true e h = absurd (grind (arith, nat_tests))
    at_tests rest true false e h = refl
    at_tests rest false true e h = ap (λ xs. g ∷ xs) (rest (grind (arith, nat_tests)))
    at_tests rest false false e h = absurd (grind (arith, nat_tests))

above_lower : (low high : ℕ) (i : Image) → low < high → AllAbove high i → AllAbove low i
above_lower low high [] lt h = tt
above_lower low high (f ∷ i) lt h = (omega (arith, lt, h.0), above_lower low high i lt h.1)

above_with : (own : ℕ) (f : ImageFile) (i : Image) → own < f.id → AllAbove own i → AllAbove own (with_seen f i)
above_with own f [] lt h = (lt, tt)
above_with own f (g ∷ i) lt h = elim (ltb f.id g.id) as (λ b. AllAbove own (cond b (f ∷ g ∷ i) (g ∷ with_seen f i))) [
  | true ↦ (lt, h)
  | false ↦ (h.0, above_with own f i lt h.1)
]

pub rise_with : (f : ImageFile) (i : Image) → seen_of f.id i ≡ None → IdsRise i → IdsRise (with_seen f i)
rise_with f [] none h = (tt, tt)
rise_with f (g ∷ i) none h = at_tests (rise_with f i) (ltb f.id g.id) refl
  where
    at_tests : (seen_of f.id i ≡ None → IdsRise i → IdsRise (with_seen f i)) → (b : Bool) → ltb f.id g.id ≡ b → IdsRise (cond b (f ∷ g ∷ i) (g ∷ with_seen f i))
    at_tests rest true e =
        let lt : f.id < g.id = grind (arith, nat_tests) in
        ((lt, above_lower f.id g.id i lt h.0), h)
    at_tests rest false e =
        let lt : g.id < f.id = grind (arith, nat_tests) in
        (above_with g.id f i lt h.0, rest (grind (arith, nat_tests)) h.1)
