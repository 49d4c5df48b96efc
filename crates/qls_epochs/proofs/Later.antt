-- An epoch that isn't the journal's oldest, as a journal of its own: it begins with its first file's data area and rid.
use Rattle.std.proofs.Common.{◌≡◌, ℕ, ◌+◌, ◌-◌, ◌/◌, ◌<◌, ◌≤◌, Bool, true, false, cond, ◌||◌, List, [], ◌∷◌, ◌++◌, length, Ok, refl, sym, ap, ◌∙◌, subst, arith, eqb, ltb}
use Rattle.std.proofs.lemmas.Bool.Decides.{nat_tests}
use Rattle.std.specs.List.{AllByRecursion, filter}
use Rattle.qls_shape.specs.Claims.{each}
use Rattle.qls_filehdr.specs.declared.Rule.TheVariants as rule
use Rattle.qls_meaning.specs.Journals.{Headed}
use Rattle.qls_meaning.specs.Reading.{Placed, stream, records_from, end_from, first_place, epoch_reading}
use Rattle.qls_meaning.specs.Damage.{Spread, spread, rid_before, first_in, order_claim, file_claims}
use Rattle.qls_laws.proofs.Rules.{Ascends, records_ascend, rid_before-append, ats}
use Rattle.qls_laws.proofs.Claimed.{then_ok, ok_then, ok_next, next_ok, claimed, claims, all_claimed, claims_all, InOrder, in_file, AllKeep}

equal : (m n : ℕ) → m ≡ n → eqb m n ≡ true
equal m n e = grind (arith, nat_tests)

is_equal : (m n : ℕ) → eqb m n ≡ true → m ≡ n
is_equal m n h = grind (arith, nat_tests)

not_less : (m n : ℕ) → n ≤ m → ltb m n ≡ false
not_less m n h = grind (arith, nat_tests)

is_less : (m n : ℕ) → ltb m n ≡ false → n ≤ m
is_less m n h = grind (arith, nat_tests)

less : (m n : ℕ) → m < n → ltb m n ≡ true
less m n h = grind (arith, nat_tests)

last_of : (a c : Bool) → ((a || false) || c) ≡ true → a ≡ false → c ≡ true
last_of true c h k = absurd (cc)
last_of false c h k = h

one_of : (a c : Bool) → (a ≡ false → c ≡ true) → ((a || false) || c) ≡ true
one_of true c h = refl
one_of false c h = h refl

-- ---- the claims of a file of a later epoch

-- what the rules say of such a file, wherever it lies
record KeepsLater (end rid : ℕ) (reads : List Placed) (s : Spread) : Type 0 where
  first : s.start ≤ end → s.file.header.first ≡ first_in s.start (length s.file.area) (ats reads ++ end ∷ [])
  rid_is : s.start ≤ end → s.file.header.rid ≡ rid_before rid reads s.start
  order : AllByRecursion (InOrder rid reads) (filter (in_file s.start (length s.file.area)) reads)

module _ (last : Bool) (rid : ℕ) (E : List Headed) (reads : List Placed) where
  abbrev end : ℕ
  end = end_from 0 reads

  keeps_later : (s : Spread) → file_claims false last rid E reads s ≡ Ok tt → KeepsLater end rid reads s
  keeps_later s h =
      let parts = then_ok _ _ h in
      let more = then_ok _ _ parts.1 in
      record {
        first = λ low. is_equal s.file.header.first _ (last_of (ltb end s.start) _ (claimed s.file.id _ rule.First parts.0) (not_less end s.start low));
        rid_is = λ low. is_equal s.file.header.rid _ (last_of (ltb end s.start) _ (claimed s.file.id _ rule.Rid more.0) (not_less end s.start low));
        order = all_claimed (InOrder rid reads) (order_claim false last rid E reads s) (λ r k. claimed s.file.id _ rule.Order k) (filter (in_file s.start (length s.file.area)) reads) more.1;
      }

  later_keeps : (s : Spread) → KeepsLater end rid reads s → file_claims false last rid E reads s ≡ Ok tt
  later_keeps s k =
      ok_then _ _
      (claims s.file.id _ rule.First (one_of (ltb end s.start) _ (λ a. equal s.file.header.first _ (k.first (is_less end s.start a)))))
      (ok_then _ _
      (claims s.file.id _ rule.Rid (one_of (ltb end s.start) _ (λ a. equal s.file.header.rid _ (k.rid_is (is_less end s.start a)))))
      (claims_all (InOrder rid reads) (order_claim false last rid E reads s) (λ r o. claims s.file.id _ rule.Order o) (filter (in_file s.start (length s.file.area)) reads) k.order))

  -- as a file of the oldest epoch it keeps them too
  files_keep : (start : ℕ) (fs : List Headed) → each (file_claims false last rid E reads) (spread start fs) ≡ Ok tt → AllKeep 0 end rid reads start fs
  files_keep start [] h = tt
  files_keep start (f ∷ fs) h =
      let parts = next_ok (file_claims false last rid E reads (record { file = f; start = start })) (each (file_claims false last rid E reads) (spread (start + length f.area) fs)) h in
      let k = keeps_later (record { file = f; start = start }) parts.0 in
      (record { first = λ low late. k.first low; rid_is = λ low some. k.rid_is low; order = k.order }, files_keep (start + length f.area) fs parts.1)

  -- and the other way, behind the first
  keep_files : (start : ℕ) (fs : List Headed) → 0 < start → AllKeep 0 end rid reads start fs → each (file_claims false last rid E reads) (spread start fs) ≡ Ok tt
  keep_files start [] some h = refl
  keep_files start (f ∷ fs) some h =
      ok_next (file_claims false last rid E reads (record { file = f; start = start })) (each (file_claims false last rid E reads) (spread (start + length f.area) fs))
      (later_keeps (record { file = f; start = start }) (record { first = λ low. h.0.first low some; rid_is = λ low. h.0.rid_is low some; order = h.0.order }))
      (keep_files (start + length f.area) fs (omega (arith, some)) h.1)

-- ---- the first place of its first file

first_here : (n : ℕ) (p : ℕ) (ps : List ℕ) → p ≡ 0 → 0 < n → first_in 0 n (p ∷ ps) ≡ 4096
first_here n p ps e some =
    ap (λ q. first_in 0 n (q ∷ ps)) e ∙ ap (λ b. cond b (4096 + (0 - 0)) 0) (less 0 (0 + n) (omega (arith, some)))

pub first_is : (n : ℕ) (reads : List Placed) → Ascends 0 reads → 0 < n → first_in 0 n (ats reads ++ end_from 0 reads ∷ []) ≡ 4096
first_is n [] h some = first_here n 0 [] refl some
first_is n (r ∷ rs) h some = first_here n r.at (ats rs ++ end_from r.after rs ∷ []) h.0 some

pub rid_is : (rid : ℕ) (reads : List Placed) → Ascends 0 reads → rid_before rid reads 0 ≡ rid
rid_is rid reads h = rid_before-append [] reads 0 0 h (omega arith) rid

pub begins_at_once : (g : Headed) (gs : List Headed) → g.header.first ≡ 4096 → first_place (g ∷ gs) ≡ 0
begins_at_once g gs e = ap (λ k. cond (eqb k 0) (length g.area + first_place gs) (k - 4096)) e

-- ---- a later epoch, as the oldest

pub reads_the_same : (E : List Headed) → first_place E ≡ 0 → epoch_reading true E ≡ epoch_reading false E
reads_the_same E e = ap (records_from E (length (stream E) / 128)) e

ascends : (E : List Headed) → Ascends 0 (epoch_reading false E)
ascends E = records_ascend E (length (stream E) / 128) 0

-- its rules are those of a journal of its own that begins with its first file's data area, and with this rid
pub record AsOldest (rid : ℕ) (g : Headed) (gs : List Headed) : Type 0 where
  pub first : g.header.first ≡ 4096
  pub rid_is : g.header.rid ≡ rid
  pub keep : AllKeep (first_place (g ∷ gs)) (end_from (first_place (g ∷ gs)) (epoch_reading true (g ∷ gs))) g.header.rid (epoch_reading true (g ∷ gs)) 0 (g ∷ gs)

module _ (rid : ℕ) (g : Headed) (gs : List Headed) (some : 0 < length g.area) where
  abbrev E : List Headed
  E = g ∷ gs

  abbrev R : List Placed
  R = epoch_reading false E

  pub as_oldest : (last : Bool) → each (file_claims false last rid E R) (spread 0 E) ≡ Ok tt → AsOldest rid g gs
  as_oldest last h =
      let k = keeps_later last rid E R (record { file = g; start = 0 }) (next_ok (file_claims false last rid E R (record { file = g; start = 0 })) (each (file_claims false last rid E R) (spread (0 + length g.area) gs)) h).0 in
      let first : g.header.first ≡ 4096 = k.first (omega arith) ∙ first_is (length g.area) R (ascends E) some in
      let given : g.header.rid ≡ rid = k.rid_is (omega arith) ∙ rid_is rid R (ascends E) in
      let begin : first_place E ≡ 0 = begins_at_once g gs first in
      record {
        first = first;
        rid_is = given;
        keep = subst (λ (X : Type 0). X) (sym (λ i. AllKeep (begin i) (end_from (begin i) (reads_the_same E begin i)) (given i) (reads_the_same E begin i) 0 E)) (files_keep last rid E R 0 E h);
      }

  pub as_later : (last : Bool) → AsOldest rid g gs → each (file_claims false last rid E R) (spread 0 E) ≡ Ok tt
  as_later last a =
      let begin : first_place E ≡ 0 = begins_at_once g gs a.first in
      let k : AllKeep 0 (end_from 0 R) rid R 0 E = subst (λ (X : Type 0). X) (λ i. AllKeep (begin i) (end_from (begin i) (reads_the_same E begin i)) (a.rid_is i) (reads_the_same E begin i) 0 E) a.keep in
      ok_next (file_claims false last rid E R (record { file = g; start = 0 })) (each (file_claims false last rid E R) (spread (0 + length g.area) gs))
      (later_keeps last rid E R (record { file = g; start = 0 }) (record {
        first = λ low. a.first ∙ sym (first_is (length g.area) R (ascends E) some);
        rid_is = λ low. a.rid_is ∙ sym (rid_is rid R (ascends E));
        order = k.0.order;
      }))
      (keep_files last rid E R (0 + length g.area) gs (omega (arith, some)) k.1)
