-- The rids of what is handed out follow each other.
use Rattle.std.proofs.Common.{◌≡◌, ℕ, ◌^◌, ◌<◌, Bool, true, false, cond, ◌&&◌, List, [], ◌∷◌, ◌++◌, drop, Ok, refl, sym, ap, ◌∙◌, subst, arith, eqb, ltb}
use Rattle.std.proofs.lemmas.Bool.Decides.{nat_tests}
use Rattle.std.specs.List.{AllByRecursion}
use Rattle.qls_filehdr.proofs.HeaderTrip.{legal_parts, less_of}
use Rattle.qls_record.specs.declared.Got.{Got}
use Rattle.qls_record.specs.declared.Kind.{Kind}
use Rattle.qls_record.specs.declared.Kind.TheVariants.{Enqueue, Dequeue, Commit, Abort, Filler}
use Rattle.qls_record.specs.Record.{is_filler, rid_given}
use Rattle.qls_scan.specs.declared.answers.HeadedFile.{HeadedFile}
use Rattle.qls_scan.specs.declared.answers.JournalFiles.{JournalFiles}
use Rattle.qls_scan.specs.Found.{IsFileOf, IsInOrder}
use Rattle.qls_reading.specs.declared.rules.Course.{Course}
use Rattle.qls_reading.specs.declared.tally.Tally.{Tally}
use Rattle.qls_reading.specs.ReadLogs.{AreGiven, rid_behind, first_rid}
use Rattle.qls_reading.specs.Tested.{come_on, is_in_order, order_of, with_record, IsTallied, TakesRecord}
use Rattle.qls_reading.proofs.Steps.{both_ok, in_order_claim}

behind_more : (rid : ℕ) (gs : List Got) (got : Got) → rid_behind rid (gs ++ got ∷ []) ≡ got.head.rid
behind_more rid [] got = refl
behind_more rid (g ∷ gs) got = behind_more g.head.rid gs got

given_more : (rid : ℕ) (gs : List Got) (got : Got) → AreGiven rid gs → got.head.rid ≡ rid_given (rid_behind rid gs) got.head.kind → got.head.rid < 2 ^ 62 → AreGiven rid (gs ++ got ∷ [])
given_more rid [] got h e l = (e, l, tt)
given_more rid (g ∷ gs) got h e l = (h.0, h.1, given_more g.head.rid gs got h.2 e l)

-- the rid in force stays below its limit
pub behind_small : (rid : ℕ) (gs : List Got) → rid < 2 ^ 62 → AreGiven rid gs → rid_behind rid gs < 2 ^ 62
behind_small rid [] l h = l
behind_small rid (g ∷ gs) l h = behind_small g.head.rid gs h.1 h.2

pub first_small : (j : JournalFiles) (fs : List HeadedFile) → AllByRecursion (IsFileOf j) fs → first_rid fs < 2 ^ 62
first_small j [] own = omega arith
first_small j (f ∷ fs) own = less_of f.header.rid (2 ^ 62) (legal_parts f.header own.0.legal).rid

-- and so it is behind all records of a journal
pub tallied_small : (j : JournalFiles) (rid : ℕ) (reads : List Got) (old new : Tally) → IsInOrder j → rid ≡ first_rid j.files → reads ≡ [] → old ≡ record { reads = reads; rid = rid; fillers = 0 }
    → ((n : ℕ) → IsTallied n old → IsTallied n new) → new.rid < 2 ^ 62
tallied_small j rid reads old new order first none is given =
    let begins : old ≡ record { reads = []; rid = rid; fillers = 0 } = is ∙ ap (λ gs. record { reads = gs; rid = rid; fillers = 0 }) none in
    let tallied : IsTallied rid new = given rid (subst (IsTallied rid) (sym begins) (tt, refl)) in
    let small : rid < 2 ^ 62 = subst (λ n. n < 2 ^ 62) (sym first) (first_small j j.files order.own) in
    subst (λ n. n < 2 ^ 62) (sym tallied.1) (behind_small rid new.reads small tallied.0)

filler_keeps : (kind : Kind) (rid : ℕ) → is_filler kind ≡ true → rid_given rid kind ≡ rid
filler_keeps Enqueue rid e = absurd (cc)
filler_keeps Dequeue rid e = refl
filler_keeps Commit rid e = refl
filler_keeps Abort rid e = refl
filler_keeps Filler rid e = refl

both : (a b : Bool) → (a && b) ≡ true → (a ≡ true) × (b ≡ true)
both true b e = (refl, e)
both false b e = absurd (cc)

tallied_with : (rid : ℕ) (t : Tally) (got : Got) → IsTallied rid t → is_in_order t.rid got.head.kind got.head.rid ≡ true → IsTallied rid (with_record t got)
tallied_with rid t got h o = by_kind (is_filler got.head.kind) refl
  where
    parts : (eqb got.head.rid (rid_given t.rid got.head.kind) ≡ true) × (ltb got.head.rid (2 ^ 62) ≡ true)
    parts = both (eqb got.head.rid (rid_given t.rid got.head.kind)) (ltb got.head.rid (2 ^ 62)) o

    follows : got.head.rid ≡ rid_given t.rid got.head.kind
    follows = let e = parts.0 in grind (arith, nat_tests, e)

    small : got.head.rid < 2 ^ 62
    small = let e = parts.1 in grind (arith, nat_tests, e)

    by_kind : (b : Bool) → is_filler got.head.kind ≡ b → AreGiven rid (cond b t.reads (t.reads ++ got ∷ [])) × (got.head.rid ≡ rid_behind rid (cond b t.reads (t.reads ++ got ∷ [])))
    by_kind true e = (h.0, follows ∙ filler_keeps got.head.kind t.rid e ∙ h.1)
    by_kind false e = (given_more rid t.reads got h.0 (follows ∙ ap (λ n. rid_given n got.head.kind) h.1) small, sym (behind_more rid t.reads got))

pub tallied_more : (rid : ℕ) (hs : List HeadedFile) (course to : Course) (t t' : Tally) (got : Got) → IsTallied rid t → TakesRecord hs course t t' got (Ok to) → IsTallied rid t'
tallied_more rid hs course to t t' got h taken =
    let went = come_on course t.rid (record { file = got.file; at = got.at }) (drop course.came hs) in
    let parts = both_ok went (λ c. order_of c.id t.rid got) to taken.0 in
    subst (IsTallied rid) (sym taken.1) (tallied_with rid t got h (in_order_claim to.id (is_in_order t.rid got.head.kind got.head.rid) parts.1))
