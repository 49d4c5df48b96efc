-- The files where the enqueues of entries start, by the records that are read.
use Rattle.std.proofs.Common.{◌≡◌, ◌⊎◌, inl, inr, ℕ, ◌<◌, ◌≤◌, Bool, true, false, not, cond, ◌&&◌, ◌||◌, ◌==◌, nat_le, min, List, [], ◌∷◌, map, refl, ap, ap₂, ◌∙◌, arith}
use Rattle.std.proofs.lemmas.Bool.Decides.{nat_tests}
use Rattle.std.specs.List.{AllByRecursion, list_any, filter}
use Rattle.qls_record.specs.Record.{is_enqueue}
use Rattle.qls_decide.specs.declared.ListEntry.{ListEntry}
use Rattle.qls_enqmap.specs.declared.Held.{Held}
use Rattle.qls_enqmap.specs.Records.{least_from, least_file}
use Rattle.qls_meaning.specs.Reading.{Read}
use Rattle.qls_meaning.specs.Dead.{holds}
use Rattle.qls_laws.specs.Returns.{starts_elsewhere}
use Rattle.qls_prepared.specs.Lists.{is_entry_of, held_of, held_in}
use Rattle.qls_prepared.specs.Releasing.{file_or}

-- ---- the least file

-- each record starts behind this file
abbrev pub AboveFile : ℕ → List Held → Type 0
AboveFile n hs = AllByRecursion (λ h. n < h.file) hs

least_above : (n file : ℕ) (hs : List Held) → n < least_from file hs → (n < file) × AboveFile n hs
least_above n file [] l = (l, tt)
least_above n file (h ∷ hs) l =
    let rest = least_above n (min file h.file) hs l in
    let both : n < min file h.file = rest.0 in
    (omega (arith, both), (omega (arith, both), rest.1))

above_least : (n file : ℕ) (hs : List Held) → n < file → AboveFile n hs → n < least_from file hs
above_least n file [] l a = l
above_least n file (h ∷ hs) l a = let here : n < h.file = a.0 in above_least n (min file h.file) hs (omega (arith, l, here)) a.1

pub before_least : (n newest : ℕ) (hs : List Held) → n < file_or newest (least_file hs) → AboveFile n hs
before_least n newest [] l = tt
before_least n newest (h ∷ hs) l = least_above n h.file hs l

least_within : (n newest : ℕ) (hs : List Held) → n < newest → file_or newest (least_file hs) ≤ n → AboveFile n hs → ⊥
least_within n newest [] less l a = absurd (omega (arith, less, l))
least_within n newest (h ∷ hs) less l a = let more : n < least_from h.file hs = above_least n h.file hs a.0 a.1 in absurd (omega (arith, more, l))

-- ---- by the records

-- the enqueue of each entry starts behind this file
abbrev AllBehind : ℕ → List ListEntry → List Read → Type 0
AllBehind n es reads = AllByRecursion (λ r. is_entry_of es r ≡ true → n < r.file) reads

all_behind : (n : ℕ) (es : List ListEntry) (reads : List Read) → AboveFile n (held_in es reads) → AllBehind n es reads
all_behind n es [] a = tt
all_behind n es (r ∷ reads) a = (first (is_entry_of es r) a, all_behind n es reads (rest (is_entry_of es r) a))
  where
    first : (b : Bool) → AboveFile n (map held_of (cond b (r ∷ filter (is_entry_of es) reads) (filter (is_entry_of es) reads))) → b ≡ true → n < r.file
    first true k e = k.0
    first false k e = absurd (cc)

    rest : (b : Bool) → AboveFile n (map held_of (cond b (r ∷ filter (is_entry_of es) reads) (filter (is_entry_of es) reads))) → AboveFile n (held_in es reads)
    rest true k = k.1
    rest false k = k

-- the records of other files hold the same
pub held_elsewhere : (n : ℕ) (es : List ListEntry) (reads : List Read) → AboveFile n (held_in es reads) → held_in es (filter (starts_elsewhere n) reads) ≡ held_in es reads
held_elsewhere n es reads a = by reads (all_behind n es reads a)
  where
    apart : (m : ℕ) → n < m → (m == n) ≡ false
    apart m l = grind (arith, nat_tests, l)

    step : (r : Read) (reads : List Read) (b c : Bool) → is_entry_of es r ≡ b → starts_elsewhere n r ≡ c → (b ≡ true → n < r.file) → held_in es (filter (starts_elsewhere n) reads) ≡ held_in es reads
        → held_in es (cond c (r ∷ filter (starts_elsewhere n) reads) (filter (starts_elsewhere n) reads)) ≡ map held_of (cond b (r ∷ filter (is_entry_of es) reads) (filter (is_entry_of es) reads))
    step r reads b true e k l rest =
        ap (λ x. map held_of (cond x (r ∷ filter (is_entry_of es) (filter (starts_elsewhere n) reads)) (filter (is_entry_of es) (filter (starts_elsewhere n) reads)))) e
        ∙ elim b as (λ x. map held_of (cond x (r ∷ filter (is_entry_of es) (filter (starts_elsewhere n) reads)) (filter (is_entry_of es) (filter (starts_elsewhere n) reads))) ≡ map held_of (cond x (r ∷ filter (is_entry_of es) reads) (filter (is_entry_of es) reads))) [
          | true ↦ ap (λ (hs : List Held). held_of r ∷ hs) rest
          | false ↦ rest
        ]
    step r reads true false e k l rest = let other : not (r.file == n) ≡ true = ap (λ x. not x) (apart r.file (l refl)) in absurd (cc)
    step r reads false false e k l rest = rest

    by : (reads : List Read) → AllBehind n es reads → held_in es (filter (starts_elsewhere n) reads) ≡ held_in es reads
    by [] h = refl
    by (r ∷ reads) h = step r reads (is_entry_of es r) (starts_elsewhere n r) refl refl h.0 (by reads h.1)

-- ---- what a file holds

abbrev pub rids_of : List ListEntry → List ℕ
rids_of es = map (λ e. e.rid) es

any_rid : (k : ℕ) (es : List ListEntry) → list_any (λ rid. rid == k) (rids_of es) ≡ list_any (λ e. e.rid == k) es
any_rid k [] = refl
any_rid k (e ∷ es) = ap (λ b. e.rid == k || b) (any_rid k es)

-- as the entries say it
holds_is : (es : List ListEntry) (n : ℕ) (r : Read) → holds (rids_of es) n r ≡ ((is_entry_of es r && nat_le r.file n) && nat_le n r.end_file)
holds_is es n r = ap (λ b. is_enqueue r.what.kind && b && nat_le r.file n && nat_le n r.end_file) (any_rid r.what.rid es)

past : (m n : ℕ) → n < m → nat_le m n ≡ false
past m n l = grind (arith, nat_tests, l)

holds_not : (es : List ListEntry) (n : ℕ) (r : Read) → (is_entry_of es r ≡ true → n < r.file) → holds (rids_of es) n r ≡ false
holds_not es n r h = holds_is es n r ∙ by (is_entry_of es r) h
  where
    by : (b : Bool) → (b ≡ true → n < r.file) → ((b && nat_le r.file n) && nat_le n r.end_file) ≡ false
    by true k = ap (λ x. x && nat_le n r.end_file) (past r.file n (k refl))
    by false k = refl

none_of : (es : List ListEntry) (n : ℕ) (reads : List Read) → AllBehind n es reads → list_any (holds (rids_of es) n) reads ≡ false
none_of es n [] h = refl
none_of es n (r ∷ reads) h = ap₂ (λ x y. x || y) (holds_not es n r h.0) (none_of es n reads h.1)

-- a file before all those where enqueues of entries start holds nothing
pub none_held : (es : List ListEntry) (n : ℕ) (reads : List Read) → AboveFile n (held_in es reads) → list_any (holds (rids_of es) n) reads ≡ false
none_held es n reads a = none_of es n reads (all_behind n es reads a)

-- ---- what a file holds still

or_right : (a b : Bool) → b ≡ true → (a || b) ≡ true
or_right true b e = refl
or_right false b e = e

above_or : (es : List ListEntry) (n : ℕ) (r : Read) (reads : List Read) (b : Bool) → is_entry_of es r ≡ b → n ≤ r.end_file → AboveFile n (held_in es reads) ⊎ (list_any (holds (rids_of es) n) reads ≡ true)
    → AboveFile n (map held_of (cond b (r ∷ filter (is_entry_of es) reads) (filter (is_entry_of es) reads))) ⊎ ((holds (rids_of es) n r || list_any (holds (rids_of es) n) reads) ≡ true)
above_or es n r reads false e end (inl a) = inl a
above_or es n r reads b e end (inr k) = inr (or_right (holds (rids_of es) n r) (list_any (holds (rids_of es) n) reads) k)
above_or es n r reads true e end (inl a) = by (nat_le r.file n) refl
  where
    more : nat_le r.file n ≡ false → n < r.file
    more k = grind (arith, nat_tests, k)

    within : nat_le n r.end_file ≡ true
    within = grind (arith, nat_tests, end)

    by : (c : Bool) → nat_le r.file n ≡ c → AboveFile n (held_of r ∷ held_in es reads) ⊎ ((holds (rids_of es) n r || list_any (holds (rids_of es) n) reads) ≡ true)
    by true k =
        let one : holds (rids_of es) n r ≡ true = holds_is es n r ∙ ap₂ (λ x y. x && y) (ap₂ (λ x y. x && y) e k) within in
        inr (ap (λ x. x || list_any (holds (rids_of es) n) reads) one)
    by false k = inl (more k, a)

scan : (es : List ListEntry) (n : ℕ) (reads : List Read) → AllByRecursion (λ r. n ≤ r.end_file) reads → AboveFile n (held_in es reads) ⊎ (list_any (holds (rids_of es) n) reads ≡ true)
scan es n [] ends = inl tt
scan es n (r ∷ reads) ends = above_or es n r reads (is_entry_of es r) refl ends.0 (scan es n reads ends.1)

-- a file that isn't before the least one holds an enqueue, where all records end there or behind
pub least_held : (es : List ListEntry) (n newest : ℕ) (reads : List Read) → AllByRecursion (λ r. n ≤ r.end_file) reads → n < newest → file_or newest (least_file (held_in es reads)) ≤ n → list_any (holds (rids_of es) n) reads ≡ true
least_held es n newest reads ends less l = by (scan es n reads ends)
  where
    by : AboveFile n (held_in es reads) ⊎ (list_any (holds (rids_of es) n) reads ≡ true) → list_any (holds (rids_of es) n) reads ≡ true
    by (inl a) = absurd (least_within n newest (held_in es reads) less l a)
    by (inr k) = k
