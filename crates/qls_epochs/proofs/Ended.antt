-- The epochs of a journal, each of which ends in its last file.
use Rattle.std.proofs.Common.{◌≡◌, ◌⊎◌, inl, inr, ℕ, ◌+◌, ◌-◌, ◌<◌, ◌≤◌, Bool, true, false, cond, List, [], ◌∷◌, ◌++◌, map, length, Ok, refl, sym, ap, ◌∙◌, arith, ltb, leb, append_assoc, append-nil}
use Rattle.std.proofs.lemmas.Bool.{cases_lt}
use Rattle.std.proofs.lemmas.Bool.Decides.{nat_tests}
use Rattle.qls_shape.specs.Claims.{each}
use Rattle.qls_record.specs.Record.{is_enqueue}
use Rattle.qls_filehdr.specs.declared.Rule.TheVariants as rule
use Rattle.qls_meaning.specs.Journals.{Headed}
use Rattle.qls_meaning.specs.Reading.{Placed, Read, located, epoch_reading, epoch_end, reads_of}
use Rattle.qls_meaning.specs.Damage.{spread, rid_at_end, ends_in, last_start, file_claims, end_claim, epoch_claims, epochs_claims}
use Rattle.qls_meaning.specs.Dead.{after_end, past_in}
use Rattle.qls_meaning.specs.Spent.{rid_of_reads}
use Rattle.qls_laws.proofs.Claimed.{ok_next, next_ok, claimed, claims}

less : (m n : ℕ) → m < n → ltb m n ≡ true
less m n h = grind (arith, nat_tests)

not_less : (m n : ℕ) → n ≤ m → ltb m n ≡ false
not_less m n h = grind (arith, nat_tests)

at_most : (m n : ℕ) → m ≤ n → leb m n ≡ true
at_most m n h = grind (arith, nat_tests)

is_most : (m n : ℕ) → leb m n ≡ true → m ≤ n
is_most m n h = grind (arith, nat_tests)

-- ---- it ends in the last file where none lies past it

pub none_after : (end : ℕ) (fs : List Headed) → last_start fs ≤ end → after_end end fs ≡ []
none_after end [] h = refl
none_after end (f ∷ []) h = elim (ltb end (length f.area)) as (λ b. cond b [] (after_end (end - length f.area) []) ≡ []) [ true ↦ refl | false ↦ refl ]
none_after end (f ∷ g ∷ fs) h =
    ap (λ b. cond b (g ∷ fs) (after_end (end - length f.area) (g ∷ fs))) (not_less end (length f.area) (omega (arith, h)))
    ∙ none_after (end - length f.area) (g ∷ fs) (omega (arith, h))

pub last_reached : (end : ℕ) (fs : List Headed) → after_end end fs ≡ [] → last_start fs ≤ end
last_reached end [] h = omega arith
last_reached end (f ∷ []) h = omega arith
last_reached end (f ∷ g ∷ fs) h = by (cases_lt end (length f.area)) (last_reached (end - length f.area) (g ∷ fs))
  where
    none : g ∷ fs ≡ [] → ⊥
    none e = cc

    by : (end < length f.area) ⊎ (length f.area ≤ end) → (after_end (end - length f.area) (g ∷ fs) ≡ [] → last_start (g ∷ fs) ≤ end - length f.area) → length f.area + last_start (g ∷ fs) ≤ end
    by (inl l) rest = absurd (none (sym (ap (λ b. cond b (g ∷ fs) (after_end (end - length f.area) (g ∷ fs))) (less end (length f.area) l)) ∙ h))
    by (inr l) rest =
        let more = rest (sym (ap (λ b. cond b (g ∷ fs) (after_end (end - length f.area) (g ∷ fs))) (not_less end (length f.area) l)) ∙ h) in
        omega (arith, l, more)

-- ---- an epoch as the last one, and as one that others follow

module _ (oldest : Bool) (rid : ℕ) (e : List Headed) where
  abbrev reads : List Placed
  reads = epoch_reading oldest e

  abbrev end : ℕ
  end = epoch_end oldest e

  pub any_end : (gs : List Headed) → end_claim oldest true rid e reads gs ≡ Ok tt
  any_end [] = refl
  any_end (g ∷ gs) = refl

  as_last : (last : Bool) → epoch_claims oldest last rid e reads ≡ Ok tt → epoch_claims oldest true rid e reads ≡ Ok tt
  as_last last h = ok_next (each (file_claims oldest true rid e reads) (spread 0 e)) (end_claim oldest true rid e reads e) (next_ok (each (file_claims oldest last rid e reads) (spread 0 e)) (end_claim oldest last rid e reads e) h).0 (any_end e)

  ends_there : (gs : List Headed) → end_claim oldest false rid e reads gs ≡ Ok tt → after_end end gs ≡ []
  ends_there [] h = refl
  ends_there (g ∷ gs) h = none_after end (g ∷ gs) (is_most (last_start (g ∷ gs)) end (claimed (ends_in end g gs).id (leb (last_start (g ∷ gs)) end) rule.End h))

  there_ends : (gs : List Headed) → after_end end gs ≡ [] → end_claim oldest false rid e reads gs ≡ Ok tt
  there_ends [] h = refl
  there_ends (g ∷ gs) h = claims (ends_in end g gs).id (leb (last_start (g ∷ gs)) end) rule.End (at_most (last_start (g ∷ gs)) end (last_reached end (g ∷ gs) h))

  as_followed : epoch_claims oldest true rid e reads ≡ Ok tt → after_end end e ≡ [] → epoch_claims oldest false rid e reads ≡ Ok tt
  as_followed h p = ok_next (each (file_claims oldest false rid e reads) (spread 0 e)) (end_claim oldest false rid e reads e) (next_ok (each (file_claims oldest true rid e reads) (spread 0 e)) (end_claim oldest true rid e reads e) h).0 (there_ends e p)

-- ---- all epochs

-- each keeps its rules and ends in its last file
abbrev pub AllEnd : Bool → ℕ → List (List Headed) → Type 0
AllEnd oldest rid [] = Unit {0}
AllEnd oldest rid (e ∷ es) = (epoch_claims oldest true rid e (epoch_reading oldest e) ≡ Ok tt) × (after_end (epoch_end oldest e) e ≡ []) × AllEnd false (rid_at_end rid (epoch_reading oldest e)) es

pub all_end : (oldest : Bool) (rid : ℕ) (es : List (List Headed)) → epochs_claims oldest rid es ≡ Ok tt → past_in oldest es ≡ [] → AllEnd oldest rid es
all_end oldest rid [] h p = tt
all_end oldest rid (e ∷ []) h p = (h, p, tt)
all_end oldest rid (e ∷ d ∷ es) h p =
    let reads = epoch_reading oldest e in
    let parts = next_ok (epoch_claims oldest false rid e reads) (epochs_claims false (rid_at_end rid reads) (d ∷ es)) h in (
      as_last oldest rid e false parts.0,
      ends_there oldest rid e e (next_ok (each (file_claims oldest false rid e reads) (spread 0 e)) (end_claim oldest false rid e reads e) parts.0).1,
      all_end false (rid_at_end rid reads) (d ∷ es) parts.1 p,
    )

pub end_all : (oldest : Bool) (rid : ℕ) (es : List (List Headed)) → AllEnd oldest rid es → (epochs_claims oldest rid es ≡ Ok tt) × (past_in oldest es ≡ [])
end_all oldest rid [] a = (refl, refl)
end_all oldest rid (e ∷ []) a = (a.0, a.1)
end_all oldest rid (e ∷ d ∷ es) a =
    let reads = epoch_reading oldest e in
    let rest = end_all false (rid_at_end rid reads) (d ∷ es) a.2 in
    (ok_next (epoch_claims oldest false rid e reads) (epochs_claims false (rid_at_end rid reads) (d ∷ es)) (as_followed oldest rid e a.0 a.1) rest.0, rest.1)

-- ---- another epoch behind them

-- the rid in force behind them
abbrev pub rid_over : Bool → ℕ → List (List Headed) → ℕ
rid_over oldest rid [] = rid
rid_over oldest rid (e ∷ es) = rid_over false (rid_at_end rid (epoch_reading oldest e)) es

pub claims_on : (oldest : Bool) (rid : ℕ) (e : List Headed) (es : List (List Headed)) (own : List Headed) → AllEnd oldest rid (e ∷ es) → epochs_claims false (rid_over oldest rid (e ∷ es)) (own ∷ []) ≡ Ok tt
    → epochs_claims oldest rid ((e ∷ es) ++ own ∷ []) ≡ Ok tt
claims_on oldest rid e [] own a h =
    ok_next (epoch_claims oldest false rid e (epoch_reading oldest e)) (epochs_claims false (rid_at_end rid (epoch_reading oldest e)) (own ∷ [])) (as_followed oldest rid e a.0 a.1) h
claims_on oldest rid e (d ∷ es) own a h =
    ok_next (epoch_claims oldest false rid e (epoch_reading oldest e)) (epochs_claims false (rid_at_end rid (epoch_reading oldest e)) ((d ∷ es) ++ own ∷ [])) (as_followed oldest rid e a.0 a.1)
    (claims_on false (rid_at_end rid (epoch_reading oldest e)) d es own a.2 h)

pub past_on : (oldest : Bool) (e : List Headed) (es : List (List Headed)) (own : List Headed) → past_in oldest ((e ∷ es) ++ own ∷ []) ≡ after_end (epoch_end false own) own
past_on oldest e [] own = refl
past_on oldest e (d ∷ es) own = past_on false d es own

pub reads_on : (oldest : Bool) (e : List Headed) (es : List (List Headed)) (own : List Headed)
    → reads_of oldest ((e ∷ es) ++ own ∷ []) ≡ reads_of oldest (e ∷ es) ++ reads_of false (own ∷ [])
reads_on oldest e [] own = ap (λ (rs : List Read). rs ++ reads_of false (own ∷ [])) (sym (append-nil (map (located e) (epoch_reading oldest e))))
reads_on oldest e (d ∷ es) own =
    ap (λ (rs : List Read). map (located e) (epoch_reading oldest e) ++ rs) (reads_on false d es own)
    ∙ sym (append_assoc (map (located e) (epoch_reading oldest e)) (reads_of false (d ∷ es)) (reads_of false (own ∷ [])))

-- ---- the rid in force

pub rid_of_located : (fs : List Headed) (rid : ℕ) (rs : List Placed) → rid_of_reads rid (map (located fs) rs) ≡ rid_at_end rid rs
rid_of_located fs rid [] = refl
rid_of_located fs rid (r ∷ rs) = rid_of_located fs (cond (is_enqueue r.what.kind) r.what.rid rid) rs

pub rid_of_both : (rid : ℕ) (xs ys : List Read) → rid_of_reads rid (xs ++ ys) ≡ rid_of_reads (rid_of_reads rid xs) ys
rid_of_both rid [] ys = refl
rid_of_both rid (x ∷ xs) ys = rid_of_both (cond (is_enqueue x.what.kind) x.what.rid rid) xs ys

pub rid_over_reads : (oldest : Bool) (rid : ℕ) (es : List (List Headed)) → rid_of_reads rid (reads_of oldest es) ≡ rid_over oldest rid es
rid_over_reads oldest rid [] = refl
rid_over_reads oldest rid (e ∷ es) =
    rid_of_both rid (map (located e) (epoch_reading oldest e)) (reads_of false es) ∙ ap (λ k. rid_of_reads k (reads_of false es)) (rid_of_located e rid (epoch_reading oldest e))
    ∙ rid_over_reads false (rid_at_end rid (epoch_reading oldest e)) es
