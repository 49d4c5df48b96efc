-- Lengths of batches and of their parts, and where records lie.
use Rattle.std.proofs.Common.{◌≡◌, ℕ, zero, suc, ◌+◌, ◌-◌, ◌*◌, ◌/◌, ◌%◌, ◌<◌, ◌≤◌, Bool, true, false, cond, ◌==◌, List, [], ◌∷◌, ◌++◌, map, length, drop, Option, Some, None, refl, sym, ap, ap₂, ◌∙◌, subst, arith, append_assoc, length-drop}
use Rattle.std.proofs.lemmas.Bool.Decides.{nat_tests}
use Rattle.std.proofs.Math.Nat.{le-div_iff_mul-le, mul_comm, mul_left_comm}
use Rattle.std.specs.Prelude.{slice_get}
use Rattle.qls_shape.specs.declared.Version.TheVariants.{Two}
use Rattle.qls_record.specs.Record.{Record, record_length}
use Rattle.qls_record.proofs.RecordLength.{record_length_least}
use Rattle.qls_blocks.specs.Batching.{length_of, block_length, laid_from}
use Rattle.qls_pool.specs.Files.{HeadedFile}
use Rattle.qls_pool.proofs.Disks.{eqb_is}
use Rattle.qls_log.specs.declared.spot.Spot.{Spot}
use Rattle.qls_log.specs.Spots.{spot_in, spot_of}
use Rattle.qls_log.specs.Logs.{ids}
use Rattle.qls_log.specs.Writing.{from_written}

pub get_some : (rs : List Record) (k : ℕ) → k < length rs → (r : Record) × (slice_get rs k ≡ Some r)
get_some [] k h = absurd (omega arith)
get_some (r ∷ rs) zero h = (r, refl)
get_some (r ∷ rs) (suc k) h = get_some rs k (omega arith)

none_there : (x : Record) → ◌≡◌ {A = Option Record} None (Some x) → ⊥
none_there x e = cc

some_same : (x y : Record) → ◌≡◌ {A = Option Record} (Some y) (Some x) → y ≡ x
some_same x y e = cc

drop_at : (rs : List Record) (k : ℕ) (r : Record) → slice_get rs k ≡ Some r → drop k rs ≡ r ∷ drop (k + 1) rs
drop_at [] k r e = absurd (none_there r e)
drop_at (x ∷ rs) zero r e = ap (λ y. y ∷ rs) (some_same r x e)
drop_at (x ∷ rs) (suc k) r e =
    let next : suc k + 1 ≡ suc (k + 1) = omega arith in
    drop_at rs k r e ∙ ap (λ n. r ∷ drop n (x ∷ rs)) (sym next)

pub least : (r : Record) → 128 ≤ record_length Two r
least r = record_length_least Two r

pub spots_next : (cap present place after at : ℕ) (batch : List Record) (r : Record) (spots new : List Spot) (spot : Spot) (total : List Spot) → slice_get batch at ≡ Some r → after ≡ place + record_length Two r
    → spot ≡ spot_in cap present place after → new ≡ spots ++ spot ∷ [] → spots ++ map (spot_of cap present) (laid_from place (drop at batch)) ≡ total
    → new ++ map (spot_of cap present) (laid_from after (drop (at + 1) batch)) ≡ total
spots_next cap present place after at batch r spots new spot total there is own pushed so =
    let rest : List Record = drop (at + 1) batch in
    let end : ℕ = place + record_length Two r in
    ap₂ (λ (x : List Spot) (y : ℕ). x ++ map (spot_of cap present) (laid_from y rest)) pushed is
    ∙ append_assoc spots (spot ∷ []) (map (spot_of cap present) (laid_from end rest))
    ∙ ap (λ (s : Spot). spots ++ s ∷ map (spot_of cap present) (laid_from end rest)) (own ∙ ap (spot_in cap present place) is)
    ∙ ap (λ (xs : List Record). spots ++ map (spot_of cap present) (laid_from place xs)) (sym (drop_at batch at r there)) ∙ so

-- ---- a batch's length

pub block_facts : (rs : List Record) (n : ℕ) → 0 < length rs → n ≡ block_length (length_of rs) → (0 < n) × (n % 4096 ≡ 0)
block_facts [] n h e = absurd (omega arith)
block_facts (r ∷ rs) n h e = let l = least r in (omega (arith, e, l), omega (arith, e))

not_self : (a b : ℕ) → (a == b) ≡ false → a ≤ b → a < b
not_self a b e h = grind (arith, nat_tests)

each_by : (cap used len n i : ℕ) → 0 < cap → 0 < len → n ≡ (used + len - 1) / cap → (b : Bool) → (used == cap) ≡ b → i < cond b n (n + 1) → cap * i < cond b 0 used + len
each_by cap used len n i some more is true e h =
    let same : used ≡ cap = eqb_is used cap e in
    let up : (i + 1) * cap ≤ used + len - 1 = (le-div_iff_mul-le {k = cap} {x = i + 1} {y = used + len - 1} some).0 (omega (arith, is, h)) in
    let product : (i + 1) * cap ≡ cap * i + cap = grind arith in
    omega (arith, up, product, same, more)
each_by cap used len n i some more is false e h =
    let up : i * cap ≤ used + len - 1 = (le-div_iff_mul-le {k = cap} {x = i} {y = used + len - 1} some).0 (omega (arith, is, h)) in
    let product : i * cap ≡ cap * i = mul_comm i cap in
    omega (arith, up, product, more)

length_ids : (hs : List HeadedFile) → length (ids hs) ≡ length hs
length_ids [] = refl
length_ids (h ∷ hs) = ap suc (length_ids hs)

count_written : (cap used n : ℕ) (hs : List HeadedFile) → length hs ≡ n + 1 → length (ids (from_written cap used hs)) ≡ cond (used == cap) n (n + 1)
count_written cap used n hs h =
    length_ids (from_written cap used hs)
    ∙ elim (used == cap) as (λ b. length (cond b (drop 1 hs) hs) ≡ cond b n (n + 1)) [
      | true ↦ length-drop 1 hs ∙ omega (arith, h)
      | false ↦ h
    ]

pub each_part : (cap used len n : ℕ) (hs : List HeadedFile) (written : List ℕ) (from : ℕ) → 0 < cap → 0 < len → length hs ≡ n + 1 → n ≡ (used + len - 1) / cap → written ≡ ids (from_written cap used hs) → from ≡ cond (used == cap) 0 used
    → (i : ℕ) → i < length written → cap * i < from + len
each_part cap used len n hs written from some more count is w at i h =
    subst (λ f. cap * i < f + len) (sym at) (each_by cap used len n i some more is (used == cap) refl (subst (λ k. i < k) (ap length w ∙ count_written cap used n hs count) h))

pub blocks_left : (len cap used n : ℕ) → len % 4096 ≡ 0 → cap % 4096 ≡ 0 → used % 4096 ≡ 0 → (len - (cap - used) - cap * n) % 4096 ≡ 0
blocks_left len cap used n l c u =
    let k : ℕ = cap / 4096 in
    let is : cap ≡ 4096 * k = omega (arith, c) in
    let product : cap * n ≡ 4096 * (n * k) = mul_comm cap n ∙ ap (λ m. n * m) is ∙ mul_left_comm n 4096 k in
    omega (arith, l, c, u, product)
