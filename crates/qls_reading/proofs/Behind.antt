-- What is left to test, as the reading comes to a file and to a record.
use Rattle.std.proofs.Common.{◌≡◌, ◌⊎◌, inl, inr, ℕ, ◌+◌, ◌-◌, ◌^◌, ◌<◌, ◌≤◌, Bool, true, false, cond, ◌&&◌, ◌||◌, List, [], ◌∷◌, ◌++◌, length, Ok, Err, refl, ap, ap₂, ◌∙◌, arith, eqb, ltb, leb}
use Rattle.std.specs.List.{AllByRecursion, filter}
use Rattle.std.proofs.lemmas.Bool.Decides.{nat_tests}
use Rattle.qls_shape.specs.Claims.{claim, each, of_file, ◌>>=◌, ◌>>◌}
use Rattle.qls_record.specs.declared.Kind.{Kind}
use Rattle.qls_record.specs.declared.Kind.TheVariants.{Enqueue, Dequeue, Commit, Abort, Filler}
use Rattle.qls_record.specs.Record.{is_enqueue, rid_given}
use Rattle.qls_filehdr.specs.declared.Rule.TheVariants as rule
use Rattle.qls_meaning.specs.Journals.{Headed}
use Rattle.qls_meaning.specs.Reading.{Placed, end_from}
use Rattle.qls_meaning.specs.Damage.{Checked, Spread, spread, rid_before, first_in}
use Rattle.qls_laws.proofs.Rules.{each-same, ats}
use Rattle.qls_reading.specs.Tested.{is_in_order}
use Rattle.qls_reading.specs.Left.{order_left, file_left, left}

-- each record begins where the one before it ends, the first at p, and none is empty
abbrev pub Stand : ℕ → List Placed → Type 0
Stand p [] = Unit {0}
Stand p (r ∷ rs) = (r.at ≡ p) × (p < r.after) × Stand r.after rs

-- ---- numbers

pub not_less : (m n : ℕ) → n ≤ m → ltb m n ≡ false
not_less m n h = grind (arith, nat_tests)

pub is_less : (m n : ℕ) → m < n → ltb m n ≡ true
is_less m n h = grind (arith, nat_tests)

pub at_most : (m n : ℕ) → m ≤ n → leb m n ≡ true
at_most m n h = grind (arith, nat_tests)

pub not_most : (m n : ℕ) → n < m → leb m n ≡ false
not_most m n h = grind (arith, nat_tests)

pub not_none : (n : ℕ) → 0 < n → eqb n 0 ≡ false
not_none n h = grind (arith, nat_tests)

pub before_or_not : (m n : ℕ) → (m < n) ⊎ (n ≤ m)
before_or_not m n = by_test (ltb m n) refl
  where
    by_test : (b : Bool) → ltb m n ≡ b → (m < n) ⊎ (n ≤ m)
    by_test true e = let l : m < n = grind (arith, nat_tests, e) in inl l
    by_test false e = let l : n ≤ m = grind (arith, nat_tests, e) in inr l

-- ---- records that begin at a place or behind it

abbrev pub AllFrom : ℕ → List Placed → Type 0
AllFrom p rs = AllByRecursion (λ r. p ≤ r.at) rs

from_later : (p q : ℕ) (rs : List Placed) → p ≤ q → Stand q rs → AllFrom p rs
from_later p q [] l h = tt
from_later p q (r ∷ rs) l h = (omega (arith, l, h.0), from_later p r.after rs (omega (arith, l, h.1)) h.2)

pub all_from : (p : ℕ) (rs : List Placed) → Stand p rs → AllFrom p rs
all_from p rs h = from_later p p rs (omega arith) h

pub all_behind : (r : Placed) (p : ℕ) (rs : List Placed) → Stand p (r ∷ rs) → AllFrom (r.at + 1) rs
all_behind r p rs h = from_later (r.at + 1) r.after rs (omega (arith, h.0, h.1)) h.2

pub all_less : (p q : ℕ) → p ≤ q → (rs : List Placed) → AllFrom q rs → AllFrom p rs
all_less p q l [] h = tt
all_less p q l (r ∷ rs) h = (omega (arith, l, h.0), all_less p q l rs h.1)

pub ends_behind : (p : ℕ) (rs : List Placed) → Stand p rs → p ≤ end_from p rs
ends_behind p [] h = omega arith
ends_behind p (r ∷ rs) h = let later = ends_behind r.after rs h.2 in omega (arith, h.1, later)

rid_stays : (start rid : ℕ) (rs : List Placed) → AllFrom start rs → rid_before rid rs start ≡ rid
rid_stays start rid [] h = refl
rid_stays start rid (r ∷ rs) h =
    ap (λ b. rid_before (cond (is_enqueue r.what.kind && b) r.what.rid rid) rs start) (not_less r.at start h.0)
    ∙ elim (is_enqueue r.what.kind) as (λ b. rid_before (cond (b && false) r.what.rid rid) rs start ≡ rid) [ true ↦ rid_stays start rid rs h.1 | false ↦ rid_stays start rid rs h.1 ]

filter-same : (P : Placed → Type 0) (test other : Placed → Bool) → ((r : Placed) → P r → test r ≡ other r) → (rs : List Placed) → AllByRecursion P rs → filter test rs ≡ filter other rs
filter-same P test other same [] h = refl
filter-same P test other same (r ∷ rs) h = ap₂ (λ (b : Bool) (xs : List Placed). cond b (r ∷ xs) xs) (same r h.0) (filter-same P test other same rs h.1)

filter-none : (rs : List Placed) → filter (λ r. false) rs ≡ []
filter-none [] = refl
filter-none (r ∷ rs) = filter-none rs

pub none_before : (start : ℕ) (rs : List Placed) → AllFrom start rs → filter (λ r. ltb r.at start) rs ≡ []
none_before start rs h = filter-same (λ r. start ≤ r.at) (λ r. ltb r.at start) (λ r. false) (λ r l. not_less r.at start l) rs h ∙ filter-none rs

pub all_within : (start end : ℕ) (rs : List Placed) → AllFrom start rs → filter (λ r. leb start r.at && ltb r.at end) rs ≡ filter (λ r. ltb r.at end) rs
all_within start end rs h = filter-same (λ r. start ≤ r.at) (λ r. leb start r.at && ltb r.at end) (λ r. ltb r.at end) (λ r l. ap (λ b. b && ltb r.at end) (at_most start r.at l)) rs h

-- ---- tests in a row

pub in_turn : (a b c : Checked) (rest : Checked) → ((a >> (b >> c)) >>= λ _. rest) ≡ ((a >> b) >>= λ _. (c >>= λ _. rest))
in_turn (Ok x) (Ok y) c rest = refl
in_turn (Ok x) (Err y) c rest = refl
in_turn (Err x) b c rest = refl

pub one_of_two : (a b c d : Bool) → a ≡ false → b ≡ d → ((a || b) || c) ≡ (d || c)
one_of_two a b c d e f = ap₂ (λ (x y : Bool). (x || y) || c) e f

module _ (oldest : Bool) (begin end : ℕ) where
  -- a file's front, where the reading comes to it at this place
  abbrev pub front_at : Bool → ℕ → ℕ → ℕ → Headed → Checked
  front_at given p rid start f =
      of_file f.id (claim (given || eqb f.header.first (cond (ltb p (start + length f.area)) (4096 + (p - start)) 0)) rule.First)
      >> of_file f.id (claim (eqb f.header.rid rid) rule.Rid)

  first_there : (p start size : ℕ) (rs : List Placed) → Stand p rs → end ≡ end_from p rs → start ≤ p
      → first_in start size (ats rs ++ end ∷ []) ≡ cond (ltb p (start + size)) (4096 + (p - start)) 0
  first_there p start size [] h e l =
      ap (λ b. cond b 0 (cond (ltb end (start + size)) (4096 + (end - start)) 0)) (not_less end start (omega (arith, l, e)))
      ∙ ap (λ n. cond (ltb n (start + size)) (4096 + (n - start)) 0) e
  first_there p start size (r ∷ rs) h e l =
      ap (λ b. cond b (first_in start size (ats rs ++ end ∷ [])) (cond (ltb r.at (start + size)) (4096 + (r.at - start)) 0)) (not_less r.at start (omega (arith, l, h.0)))
      ∙ ap (λ n. cond (ltb n (start + size)) (4096 + (n - start)) 0) h.0

  -- The reading comes to a file: its front is tested, and the records that start in it are left
  pub comes_to : (given : Bool) (p rid start : ℕ) (f : Headed) (fs : List Headed) (rs : List Placed) → Stand p rs → end ≡ end_from p rs → start ≤ p
      → (oldest && leb start begin) ≡ given → (oldest && eqb start 0) ≡ false
      → each (file_left oldest begin end rid rs) (spread start (f ∷ fs))
      ≡ (front_at given p rid start f >>= λ _. left oldest begin end f.id (start + length f.area) rid rs fs)
  comes_to given p rid start f fs rs h e l is_given some =
      let late : ltb end start ≡ false = not_less end start (let later = ends_behind p rs h in omega (arith, e, l, later)) in
      let rest = each (file_left oldest begin end rid rs) (spread (start + length f.area) fs) in
      let all : AllFrom start rs = all_less start p l rs (all_from p rs h) in
      let one = of_file f.id (claim ((ltb end start || (oldest && leb start begin)) || eqb f.header.first (first_in start (length f.area) (ats rs ++ end ∷ []))) rule.First) in
      let two = of_file f.id (claim ((ltb end start || (oldest && eqb start 0)) || eqb f.header.rid (rid_before rid rs start)) rule.Rid) in
      let first : one ≡ of_file f.id (claim (given || eqb f.header.first (cond (ltb p (start + length f.area)) (4096 + (p - start)) 0)) rule.First) =
      ap (λ b. of_file f.id (claim b rule.First))
      (one_of_two (ltb end start) (oldest && leb start begin) _ given late is_given ∙ ap (λ n. given || eqb f.header.first n) (first_there p start (length f.area) rs h e l)) in
      let is_rid : two ≡ of_file f.id (claim (eqb f.header.rid rid) rule.Rid) =
      ap (λ b. of_file f.id (claim b rule.Rid))
      (one_of_two (ltb end start) (oldest && eqb start 0) _ false late some ∙ ap (λ n. eqb f.header.rid n) (rid_stays start rid rs all)) in
      let order = order_left oldest begin end f.id rid rs in
      in_turn one two (each order (filter (λ r. leb start r.at && ltb r.at (start + length f.area)) rs)) rest
      ∙ ap₂ (λ (a b : Checked). (a >> b) >>= λ _. (each order (filter (λ r. leb start r.at && ltb r.at (start + length f.area)) rs) >>= λ _. rest)) first is_rid
      ∙ ap (λ qs. front_at given p rid start f >>= λ _. (each order qs >>= λ _. rest)) (all_within start (start + length f.area) rs all)

  -- no record starts before the files that are left
  pub goes_over : (id start rid : ℕ) (fs : List Headed) (rs : List Placed) → AllFrom start rs → left oldest begin end id start rid rs fs ≡ each (file_left oldest begin end rid rs) (spread start fs)
  goes_over id start rid fs rs h = ap (λ qs. each (order_left oldest begin end id rid rs) qs >>= λ _. each (file_left oldest begin end rid rs) (spread start fs)) (none_before start rs h)

  -- ---- a record

  abbrev after_rid : ℕ → Placed → ℕ
  after_rid rid r = cond (is_enqueue r.what.kind) r.what.rid rid

  rid_behind_it : (rid start : ℕ) (r : Placed) (rs : List Placed) → r.at < start → rid_before rid (r ∷ rs) start ≡ rid_before (after_rid rid r) rs start
  rid_behind_it rid start r rs l =
      ap (λ b. rid_before (cond (is_enqueue r.what.kind && b) r.what.rid rid) rs start) (is_less r.at start l)
      ∙ elim (is_enqueue r.what.kind) as (λ b. rid_before (cond (b && true) r.what.rid rid) rs start ≡ rid_before (cond b r.what.rid rid) rs start) [ true ↦ refl | false ↦ refl ]

  order_behind : (id rid : ℕ) (r q : Placed) (rs : List Placed) → r.at + 1 ≤ q.at → order_left oldest begin end id rid (r ∷ rs) q ≡ order_left oldest begin end id (after_rid rid r) rs q
  order_behind id rid r q rs l =
      ap (λ n. of_file id (claim (eqb q.what.rid (rid_given n q.what.kind) && ltb q.what.rid (2 ^ 62)) rule.Order)) (rid_behind_it rid q.at r rs (omega (arith, l)))

  orders_behind : (id rid : ℕ) (r : Placed) (rs qs : List Placed) → AllFrom (r.at + 1) qs → each (order_left oldest begin end id rid (r ∷ rs)) qs ≡ each (order_left oldest begin end id (after_rid rid r) rs) qs
  orders_behind id rid r rs qs h = each-same (λ q. r.at + 1 ≤ q.at) _ _ (λ q l. order_behind id rid r q rs l) qs h

  All-filter : (P : Placed → Type 0) (test : Placed → Bool) (rs : List Placed) → AllByRecursion P rs → AllByRecursion P (filter test rs)
  All-filter P test [] h = tt
  All-filter P test (r ∷ rs) h = elim (test r) as (λ b. AllByRecursion P (cond b (r ∷ filter test rs) (filter test rs))) [ true ↦ (h.0, All-filter P test rs h.1) | false ↦ All-filter P test rs h.1 ]

  file_behind : (rid : ℕ) (r : Placed) (rs : List Placed) (s : Spread) → AllFrom (r.at + 1) rs → r.at < s.start → file_left oldest begin end rid (r ∷ rs) s ≡ file_left oldest begin end (after_rid rid r) rs s
  file_behind rid r rs s all l =
      let test : Placed → Bool = λ q. leb s.start q.at && ltb q.at (s.start + length s.file.area) in
      let first : first_in s.start (length s.file.area) (ats (r ∷ rs) ++ end ∷ []) ≡ first_in s.start (length s.file.area) (ats rs ++ end ∷ []) =
      ap (λ b. cond b (first_in s.start (length s.file.area) (ats rs ++ end ∷ [])) (cond (ltb r.at (s.start + length s.file.area)) (4096 + (r.at - s.start)) 0)) (is_less r.at s.start l) in
      let in_force = rid_behind_it rid s.start r rs l in
      let out : filter test (r ∷ rs) ≡ filter test rs = ap (λ b. cond (b && ltb r.at (s.start + length s.file.area)) (r ∷ filter test rs) (filter test rs)) (not_most s.start r.at l) in
      let orders : each (order_left oldest begin end s.file.id rid (r ∷ rs)) (filter test (r ∷ rs)) ≡ each (order_left oldest begin end s.file.id (after_rid rid r) rs) (filter test rs) =
      ap (each (order_left oldest begin end s.file.id rid (r ∷ rs))) out ∙ orders_behind s.file.id rid r rs (filter test rs) (All-filter (λ q. r.at + 1 ≤ q.at) test rs all) in
      λ i. of_file s.file.id (claim ((ltb end s.start || (oldest && leb s.start begin)) || eqb s.file.header.first (first i)) rule.First)
      >> (of_file s.file.id (claim ((ltb end s.start || (oldest && eqb s.start 0)) || eqb s.file.header.rid (in_force i)) rule.Rid) >> orders i)

  files_behind : (rid start : ℕ) (r : Placed) (rs : List Placed) (fs : List Headed) → AllFrom (r.at + 1) rs → r.at < start
      → each (file_left oldest begin end rid (r ∷ rs)) (spread start fs) ≡ each (file_left oldest begin end (after_rid rid r) rs) (spread start fs)
  files_behind rid start r rs [] all l = refl
  files_behind rid start r rs (f ∷ fs) all l =
      ap₂ (λ (a b : Checked). a >>= λ _. b) (file_behind rid r rs (record { file = f; start = start }) all l) (files_behind rid (start + length f.area) r rs fs all (omega (arith, l)))

  pub rid_of_kind : (kind : Kind) (rid given : ℕ) → eqb given (rid_given rid kind) ≡ true → cond (is_enqueue kind) given rid ≡ given
  rid_of_kind Enqueue rid given h = refl
  rid_of_kind Dequeue rid given h = grind (arith, nat_tests)
  rid_of_kind Commit rid given h = grind (arith, nat_tests)
  rid_of_kind Abort rid given h = grind (arith, nat_tests)
  rid_of_kind Filler rid given h = grind (arith, nat_tests)

  -- The reading comes to a record of the last file: it is tested, and the rid in force is its own
  pub takes : (id start rid p : ℕ) (r : Placed) (rs : List Placed) (fs : List Headed) → Stand p (r ∷ rs) → p < start
      → left oldest begin end id start rid (r ∷ rs) fs
      ≡ (of_file id (claim (is_in_order rid r.what.kind r.what.rid) rule.Order) >>= λ _. left oldest begin end id start r.what.rid rs fs)
  takes id start rid p r rs fs h l =
      let all : AllFrom (r.at + 1) rs = all_behind r p rs h in
      let first : filter (λ q. ltb q.at start) (r ∷ rs) ≡ r ∷ filter (λ q. ltb q.at start) rs =
      ap (λ b. cond b (r ∷ filter (λ q. ltb q.at start) rs) (filter (λ q. ltb q.at start) rs)) (is_less r.at start (omega (arith, h.0, l))) in
      let now : order_left oldest begin end id rid (r ∷ rs) r ≡ of_file id (claim (is_in_order rid r.what.kind r.what.rid) rule.Order) =
      ap (λ n. of_file id (claim (eqb r.what.rid (rid_given n r.what.kind) && ltb r.what.rid (2 ^ 62)) rule.Order)) (rid_stays r.at rid (r ∷ rs) (omega arith, all_less r.at (r.at + 1) (omega arith) rs all)) in
      let rest : Checked = each (order_left oldest begin end id (after_rid rid r) rs) (filter (λ q. ltb q.at start) rs) in
      ap (λ qs. each (order_left oldest begin end id rid (r ∷ rs)) qs >>= λ _. each (file_left oldest begin end rid (r ∷ rs)) (spread start fs)) first
      ∙ ap₂ (λ (a b : Checked). (a >>= λ _. b) >>= λ _. each (file_left oldest begin end rid (r ∷ rs)) (spread start fs)) now
      (orders_behind id rid r rs (filter (λ q. ltb q.at start) rs) (All-filter (λ q. r.at + 1 ≤ q.at) (λ q. ltb q.at start) rs all))
      ∙ ap (λ b. (of_file id (claim (is_in_order rid r.what.kind r.what.rid) rule.Order) >>= λ _. rest) >>= λ _. b) (files_behind rid start r rs fs all (omega (arith, h.0, l)))
      ∙ by_order (is_in_order rid r.what.kind r.what.rid) refl
    where
      by_order : (b : Bool) → is_in_order rid r.what.kind r.what.rid ≡ b
          → ((of_file id (claim b rule.Order) >>= λ _. each (order_left oldest begin end id (after_rid rid r) rs) (filter (λ q. ltb q.at start) rs)) >>= λ _. each (file_left oldest begin end (after_rid rid r) rs) (spread start fs))
          ≡ (of_file id (claim b rule.Order) >>= λ _. left oldest begin end id start r.what.rid rs fs)
      by_order true e = ap (λ n. left oldest begin end id start n rs fs) (rid_of_kind r.what.kind rid r.what.rid (both (eqb r.what.rid (rid_given rid r.what.kind)) (ltb r.what.rid (2 ^ 62)) e))
        where
          both : (a b : Bool) → (a && b) ≡ true → a ≡ true
          both true b h = refl
          both false b h = absurd (cc)
      by_order false e = refl

  -- ---- the end

  past_end : (start rid : ℕ) (fs : List Headed) → end < start → each (file_left oldest begin end rid []) (spread start fs) ≡ Ok tt
  past_end start rid [] l = refl
  past_end start rid (f ∷ fs) l =
      ap (λ b. (of_file f.id (claim ((b || (oldest && leb start begin)) || eqb f.header.first (first_in start (length f.area) (end ∷ []))) rule.First)
      >> (of_file f.id (claim ((b || (oldest && eqb start 0)) || eqb f.header.rid rid) rule.Rid) >> Ok tt)) >>= λ _. each (file_left oldest begin end rid []) (spread (start + length f.area) fs)) (is_less end start l)
      ∙ past_end (start + length f.area) rid fs (omega (arith, l))

  -- nothing is left behind the end
  pub nothing_left : (id start rid : ℕ) (fs : List Headed) → end < start → left oldest begin end id start rid [] fs ≡ Ok tt
  nothing_left id start rid fs l = past_end start rid fs l
