-- Rids rise from record to record of a reading that breaks no rule.
use Rattle.std.proofs.Common.{◌≡◌, ◌⊎◌, inl, inr, ℕ, ◌+◌, ◌<◌, ◌≤◌, Bool, true, false, cond, ◌&&◌, List, [], ◌∷◌, ◌++◌, length, refl, sym, ap, ◌∙◌, subst, arith, eqb, ltb, leb, append_assoc, length-append}
use Rattle.std.proofs.lemmas.Bool.{and_parts, cases_lt}
use Rattle.std.proofs.lemmas.Bool.Decides.{nat_tests}
use Rattle.std.specs.List.{AllByRecursion, filter}
use Rattle.qls_record.specs.declared.Kind.{Kind}
use Rattle.qls_record.specs.declared.Kind.TheVariants.{Enqueue, Dequeue, Commit, Abort, Filler}
use Rattle.qls_record.specs.Record.{rid_given, is_enqueue}
use Rattle.qls_meaning.specs.Journals.{Headed}
use Rattle.qls_meaning.specs.Reading.{Placed, stream}
use Rattle.qls_meaning.specs.Damage.{rid_before, rid_at_end}
use Rattle.qls_laws.specs.Readings.{Stand}
use Rattle.qls_laws.proofs.Ends.{record_fits}
use Rattle.qls_laws.proofs.Own.{All-of}
use Rattle.qls_laws.proofs.Rules.{rid_before-append}
use Rattle.qls_laws.proofs.Claimed.{InOrder, in_file, AllKeep}
use Rattle.qls_laws.proofs.Leftover.{stand_ascends, rid_past}

-- ---- every record is in order

filter_back : (P : Placed → Type 0) (test : Placed → Bool) (rs : List Placed) → AllByRecursion P (filter test rs) → AllByRecursion (λ r. test r ≡ true → P r) rs
filter_back P test [] h = tt
filter_back P test (r ∷ rs) h = (here (test r) refl h, filter_back P test rs (rest (test r) h))
  where
    here : (b : Bool) → test r ≡ b → AllByRecursion P (cond b (r ∷ filter test rs) (filter test rs)) → test r ≡ true → P r
    here true e k is = k.0
    here false e k is = absurd (cc)

    rest : (b : Bool) → AllByRecursion P (cond b (r ∷ filter test rs) (filter test rs)) → AllByRecursion P (filter test rs)
    rest true k = k.1
    rest false k = k

all_of_two : (P Q R : Placed → Type 0) → ((r : Placed) → P r → Q r → R r) → (rs : List Placed) → AllByRecursion P rs → AllByRecursion Q rs → AllByRecursion R rs
all_of_two P Q R f [] h k = tt
all_of_two P Q R f (r ∷ rs) h k = (f r h.0 k.0, all_of_two P Q R f rs h.1 k.1)

inside : (start size p : ℕ) → start ≤ p → p < start + size → (leb start p && ltb p (start + size)) ≡ true
inside start size p h k = grind (arith, nat_tests)

-- the record begins in one of the files, and then its rid is in order
abbrev Covered : ℕ → List Placed → ℕ → ℕ → Placed → Type 0
Covered rid reads start size r = start ≤ r.at → r.at < start + size → InOrder rid reads r

none_covered : (rid : ℕ) (reads : List Placed) (start : ℕ) (r : Placed) → Covered rid reads start 0 r
none_covered rid reads start r low high = absurd (omega (arith, low, high))

one_covered : (rid start size more : ℕ) (reads : List Placed) (r : Placed) → (in_file start size r ≡ true → InOrder rid reads r) → Covered rid reads (start + size) more r → Covered rid reads start (size + more) r
one_covered rid start size more reads r here rest low high = by (cases_lt r.at (start + size))
  where
    by : (r.at < start + size) ⊎ (start + size ≤ r.at) → InOrder rid reads r
    by (inl h) = here (inside start size r.at low h)
    by (inr h) = rest h (omega (arith, high))

covered : (begin end rid : ℕ) (reads : List Placed) (start : ℕ) (fs : List Headed) → AllKeep begin end rid reads start fs → AllByRecursion (Covered rid reads start (length (stream fs))) reads
covered begin end rid reads start [] k = All-of (Covered rid reads start 0) (none_covered rid reads start) reads
covered begin end rid reads start (f ∷ fs) k =
    let size : ℕ = length f.area in
    subst (λ n. AllByRecursion (Covered rid reads start n) reads) (sym (length-append f.area (stream fs)))
    (all_of_two (λ r. in_file start size r ≡ true → InOrder rid reads r) (Covered rid reads (start + size) (length (stream fs))) (Covered rid reads start (size + length (stream fs)))
    (one_covered rid start size (length (stream fs)) reads) reads (filter_back (InOrder rid reads) (in_file start size) reads k.0.order) (covered begin end rid reads (start + size) fs k.1))

there : (fs : List Headed) (p : ℕ) (rid : ℕ) (reads rs : List Placed) → Stand fs p rs → AllByRecursion (Covered rid reads 0 (length (stream fs))) rs → AllByRecursion (InOrder rid reads) rs
there fs p rid reads [] s h = tt
there fs p rid reads (r ∷ rs) s h =
    let fits = record_fits fs p r.what s.1 in
    (h.0 (omega arith) (omega (arith, fits.0, fits.1, s.0)), there fs r.after rid reads rs s.3 h.1)

-- ---- each rid follows from the one before

abbrev pub Follow : ℕ → List Placed → Type 0
Follow rid [] = Unit {0}
Follow rid (r ∷ rs) = (r.what.rid ≡ rid_given rid r.what.kind) × Follow r.what.rid rs

pub given_is : (kind : Kind) (rid given : ℕ) → given ≡ rid_given rid kind → cond (is_enqueue kind) given rid ≡ given
given_is Enqueue rid given e = refl
given_is Dequeue rid given e = sym e
given_is Commit rid given e = sym e
given_is Abort rid given e = sym e
given_is Filler rid given e = sym e

is_equal : (m n : ℕ) → eqb m n ≡ true → m ≡ n
is_equal m n h = grind (arith, nat_tests)

before_push : (q more : ℕ) (one : Placed) (xs : List Placed) → AllByRecursion (λ r. r.at < q) xs → q ≤ more → one.at < more → AllByRecursion (λ r. r.at < more) (xs ++ one ∷ [])
before_push q more one [] b l h = (h, tt)
before_push q more one (x ∷ xs) b l h = (omega (arith, b.0, l), before_push q more one xs b.1 l h)

rid_push : (rid : ℕ) (xs : List Placed) (one : Placed) → rid_at_end rid (xs ++ one ∷ []) ≡ cond (is_enqueue one.what.kind) one.what.rid (rid_at_end rid xs)
rid_push rid [] one = refl
rid_push rid (x ∷ xs) one = rid_push (cond (is_enqueue x.what.kind) x.what.rid rid) xs one

follow_from : (fs : List Headed) (q rid : ℕ) (before rs : List Placed) → AllByRecursion (λ r. r.at < q) before → Stand fs q rs → AllByRecursion (InOrder rid (before ++ rs)) rs → Follow (rid_at_end rid before) rs
follow_from fs q rid before [] b s h = tt
follow_from fs q rid before (r ∷ rs) b s h =
    let fits = record_fits fs q r.what s.1 in
    let force : rid_before rid (before ++ r ∷ rs) r.at ≡ rid_at_end rid before =
    ap (rid_before rid (before ++ r ∷ rs)) s.0 ∙ rid_past q before (r ∷ rs) rid b ∙ rid_before-append [] (r ∷ rs) q q (stand_ascends fs q (r ∷ rs) s) (omega arith) (rid_at_end rid before) in
    let given : r.what.rid ≡ rid_given (rid_at_end rid before) r.what.kind = is_equal r.what.rid _ (and_parts _ _ h.0).0 ∙ ap (λ k. rid_given k r.what.kind) force in
    let now : rid_at_end rid (before ++ r ∷ []) ≡ r.what.rid = rid_push rid before r ∙ given_is r.what.kind (rid_at_end rid before) r.what.rid given in (
      given,
      subst (λ k. Follow k rs) now
          (follow_from fs r.after rid (before ++ r ∷ []) rs (before_push q r.after r before b (omega (arith, fits.0, s.2)) (omega (arith, fits.0, s.0, s.2))) s.3
          (subst (λ (xs : List Placed). AllByRecursion (InOrder rid xs) rs) (sym (append_assoc before (r ∷ []) rs)) h.1)),
    )

pub rids_follow : (begin end rid p : ℕ) (fs : List Headed) (reads : List Placed) → AllKeep begin end rid reads 0 fs → Stand fs p reads → Follow rid reads
rids_follow begin end rid p fs reads k s = follow_from fs p rid [] reads tt s (there fs p rid reads reads s (covered begin end rid reads 0 fs k))

pub follow_apart : (rid : ℕ) (xs ys : List Placed) → Follow rid (xs ++ ys) → Follow rid xs × Follow (rid_at_end rid xs) ys
follow_apart rid [] ys h = (tt, h)
follow_apart rid (x ∷ xs) ys h =
    let rest = follow_apart x.what.rid xs ys h.1 in
    ((h.0, rest.0), subst (λ k. Follow (rid_at_end k xs) ys) (sym (given_is x.what.kind rid x.what.rid h.0)) rest.1)

-- ---- so enqueues have greater rids, up to the last

given_rises : (kind : Kind) (rid given : ℕ) → given ≡ rid_given rid kind → rid ≤ given
given_rises Enqueue rid given e = omega (arith, e)
given_rises Dequeue rid given e = omega (arith, e)
given_rises Commit rid given e = omega (arith, e)
given_rises Abort rid given e = omega (arith, e)
given_rises Filler rid given e = omega (arith, e)

given_more : (kind : Kind) (rid given : ℕ) → given ≡ rid_given rid kind → is_enqueue kind ≡ true → rid < given
given_more Enqueue rid given e i = omega (arith, e)
given_more Dequeue rid given e i = absurd (cc)
given_more Commit rid given e i = absurd (cc)
given_more Abort rid given e i = absurd (cc)
given_more Filler rid given e i = absurd (cc)

pub enqueues_above : (least rid : ℕ) (rs : List Placed) → least ≤ rid → Follow rid rs → AllByRecursion (λ r. is_enqueue r.what.kind ≡ true → least < r.what.rid) rs
enqueues_above least rid [] l h = tt
enqueues_above least rid (r ∷ rs) l h =
    let up = given_rises r.what.kind rid r.what.rid h.0 in
    (λ e. let more = given_more r.what.kind rid r.what.rid h.0 e in omega (arith, l, more), enqueues_above least r.what.rid rs (omega (arith, l, up)) h.1)

follow_rises : (rid : ℕ) (rs : List Placed) → Follow rid rs → rid ≤ rid_at_end rid rs
follow_rises rid [] h = omega arith
follow_rises rid (r ∷ rs) h =
    let up = given_rises r.what.kind rid r.what.rid h.0 in
    let rest = follow_rises r.what.rid rs h.1 in
    subst (λ k. rid ≤ rid_at_end k rs) (sym (given_is r.what.kind rid r.what.rid h.0)) (omega (arith, up, rest))

pub enqueues_below : (rid : ℕ) (rs : List Placed) → Follow rid rs → AllByRecursion (λ r. is_enqueue r.what.kind ≡ true → r.what.rid ≤ rid_at_end rid rs) rs
enqueues_below rid rs h = below rid rs (rid_at_end rid rs) h (omega arith)
  where
    below : (rid : ℕ) (rs : List Placed) (most : ℕ) → Follow rid rs → rid_at_end rid rs ≤ most → AllByRecursion (λ r. is_enqueue r.what.kind ≡ true → r.what.rid ≤ most) rs
    below rid [] most h l = tt
    below rid (r ∷ rs) most h l =
        let here : rid_at_end r.what.rid rs ≤ most = subst (λ k. rid_at_end k rs ≤ most) (given_is r.what.kind rid r.what.rid h.0) l in
        let rest = follow_rises r.what.rid rs h.1 in
        (λ e. omega (arith, here, rest), below r.what.rid rs most h.1 here)
