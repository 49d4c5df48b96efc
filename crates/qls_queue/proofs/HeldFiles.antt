-- The files where held records start, by the records that are read.
use Rattle.std.proofs.Common.{◌≡◌, ◌⊎◌, inl, inr, ℕ, ◌+◌, ◌<◌, ◌≤◌, Bool, true, false, ◌&&◌, ◌||◌, ◌==◌, nat_le, min, List, [], ◌∷◌, ◌++◌, map, length, Option, Some, None, refl, sym, ap, ap₂, ◌∙◌, subst, arith, length-append, append_assoc, append-nil}
use Rattle.std.proofs.lemmas.Bool.Decides.{nat_tests}
use Rattle.std.proofs.lemmas.List.{length-map}
use Rattle.std.specs.List.{AllByRecursion, list_any, cons_option}
use Rattle.qls_record.specs.declared.Kind.{Kind}
use Rattle.qls_record.specs.declared.Kind.TheVariants.{Enqueue, Dequeue, Commit, Abort, Filler}
use Rattle.qls_record.specs.Record.{rid_given, is_enqueue}
use Rattle.qls_model.specs.Messages.{left_by, only}
use Rattle.qls_model.specs.declared.machine.Message.{Message}
use Rattle.qls_model.specs.declared.machine.Verdict.TheVariants as verdict
use Rattle.qls_enqmap.specs.declared.Held.{Held}
use Rattle.qls_enqmap.specs.Records.{AllBelow, least_from, least_file}
use Rattle.qls_meaning.specs.Reading.{Read}
use Rattle.qls_meaning.specs.Dead.{holds}
use Rattle.qls_meaning.specs.Replay.{xid_in, left_by_take}
use Rattle.qls_replay.specs.Held.{message_of, messages_of, held_of, held_as, left_held, held_after, held_after_all, is_of}
use Rattle.qls_replay.proofs.Above.{below_after}
use Rattle.qls_queue.specs.Releasing.{file_or}

-- ---- what holds of the ids and the files of held records

one_left : (P : ℕ → ℕ → Type 0) (h : Held) (o : Option Message) (hs : List Held) → P h.rid h.file → AllByRecursion (λ g. P g.rid g.file) hs → AllByRecursion (λ g. P g.rid g.file) (cons_option (held_as h o) hs)
one_left P h None hs p a = a
one_left P h (Some m) hs p a = (p, a)

all_left : (P : ℕ → ℕ → Type 0) (change : Message → Option Message) (hs : List Held) → AllByRecursion (λ g. P g.rid g.file) hs → AllByRecursion (λ g. P g.rid g.file) (left_held change hs)
all_left P change [] a = tt
all_left P change (h ∷ hs) a = one_left P h (change (message_of h)) (left_held change hs) a.0 (all_left P change hs a.1)

all_end : (P : ℕ → ℕ → Type 0) (hs : List Held) (h : Held) → AllByRecursion (λ g. P g.rid g.file) hs → P h.rid h.file → AllByRecursion (λ g. P g.rid g.file) (hs ++ h ∷ [])
all_end P [] h a p = (p, tt)
all_end P (g ∷ hs) h a p = (a.0, all_end P hs h a.1 p)

all_after : (P : ℕ → ℕ → Type 0) (k : Kind) (r : Read) (hs : List Held) → (is_enqueue k ≡ true → P r.what.rid r.file) → AllByRecursion (λ g. P g.rid g.file) hs → AllByRecursion (λ g. P g.rid g.file) (held_after k r hs)
all_after P Enqueue r hs p a = all_end P hs (held_of r) a (p refl)
all_after P Dequeue r hs p a = all_left P (left_by_take r.what.target (xid_in r.what.xid)) hs a
all_after P Commit r hs p a = all_left P (λ m. left_by (only r.what.xid verdict.Commit) m.status m) hs a
all_after P Abort r hs p a = all_left P (λ m. left_by (only r.what.xid verdict.Abort) m.status m) hs a
all_after P Filler r hs p a = a

-- ---- an id has one file

-- each rid follows from the one before
abbrev pub Rise : ℕ → List Read → Type 0
Rise rid [] = Unit {0}
Rise rid (r ∷ rs) = (r.what.rid ≡ rid_given rid r.what.kind) × Rise r.what.rid rs

-- a record that is held under this id starts in this file
abbrev pub OwnFile : ℕ → ℕ → List Held → Type 0
OwnFile rid file hs = AllByRecursion (λ h. h.rid ≡ rid → h.file ≡ file) hs

given_rises : (k : Kind) (rid given : ℕ) → given ≡ rid_given rid k → rid ≤ given
given_rises Enqueue rid given e = omega (arith, e)
given_rises Dequeue rid given e = omega (arith, e)
given_rises Commit rid given e = omega (arith, e)
given_rises Abort rid given e = omega (arith, e)
given_rises Filler rid given e = omega (arith, e)

given_more : (k : Kind) (rid given : ℕ) → given ≡ rid_given rid k → is_enqueue k ≡ true → given ≡ rid + 1
given_more Enqueue rid given e i = e
given_more Dequeue rid given e i = absurd (cc)
given_more Commit rid given e i = absurd (cc)
given_more Abort rid given e i = absurd (cc)
given_more Filler rid given e i = absurd (cc)

-- later records leave it so
own_later : (rid file now : ℕ) (rs : List Read) (hs : List Held) → rid ≤ now → Rise now rs → OwnFile rid file hs → OwnFile rid file (held_after_all rs hs)
own_later rid file now [] hs l f a = a
own_later rid file now (r ∷ rs) hs l f a =
    let up : now ≤ r.what.rid = given_rises r.what.kind now r.what.rid f.0 in
    own_later rid file r.what.rid rs (held_after r.what.kind r hs) (omega (arith, l, up)) f.1
    (all_after (λ i n. i ≡ rid → n ≡ file) r.what.kind r hs (λ i s. let more : r.what.rid ≡ now + 1 = given_more r.what.kind now r.what.rid f.0 i in absurd (omega (arith, l, more, s))) a)

below_apart : (rid file : ℕ) (hs : List Held) → AllBelow rid hs → OwnFile rid file hs
below_apart rid file [] b = tt
below_apart rid file (h ∷ hs) b = (λ e. let less : h.rid < rid = b.0 in absurd (omega (arith, less, e)), below_apart rid file hs b.1)

own_start : (k : Kind) (r : Read) (now : ℕ) (hs : List Held) → is_enqueue k ≡ true → r.what.rid ≡ rid_given now k → AllBelow (now + 1) hs → OwnFile r.what.rid r.file (held_after k r hs)
own_start k r now hs i e b =
    all_after (λ n f. n ≡ r.what.rid → f ≡ r.file) k r hs (λ _ _. refl) (below_apart r.what.rid r.file hs (subst (λ n. AllBelow n hs) (sym (given_more k now r.what.rid e i)) b))

-- each enqueue's file is that of the records held under its id
pub each_own : (now : ℕ) (rs : List Read) (hs : List Held) → Rise now rs → AllBelow (now + 1) hs → AllByRecursion (λ r. is_enqueue r.what.kind ≡ true → OwnFile r.what.rid r.file (held_after_all rs hs)) rs
each_own now [] hs f b = tt
each_own now (r ∷ rs) hs f b = (
  λ i. own_later r.what.rid r.file r.what.rid rs (held_after r.what.kind r hs) (omega arith) f.1 (own_start r.what.kind r now hs i f.0 b),
  each_own r.what.rid rs (held_after r.what.kind r hs) f.1 (below_after r.what.kind r now r.what.rid hs f.0 refl b),
)

-- ---- the least file

-- each record starts behind this file
abbrev pub AboveFile : ℕ → List Held → Type 0
AboveFile n hs = AllByRecursion (λ h. n < h.file) hs

least_above : (n file : ℕ) (hs : List Held) → n < least_from file hs → (n < file) × AboveFile n hs
least_above n file [] l = (l, tt)
least_above n file (h ∷ hs) l =
    let rest = least_above n (min file h.file) hs l in
    let both : n < min file h.file = rest.0 in
    (omega (arith, both), (omega (arith, both), rest.1))

above_least : (n file : ℕ) (hs : List Held) → n < file → AboveFile n hs → n < least_from file hs
above_least n file [] l a = l
above_least n file (h ∷ hs) l a = let here : n < h.file = a.0 in above_least n (min file h.file) hs (omega (arith, l, here)) a.1

pub before_least : (n newest : ℕ) (hs : List Held) → n < file_or newest (least_file hs) → AboveFile n hs
before_least n newest [] l = tt
before_least n newest (h ∷ hs) l = least_above n h.file hs l

-- ---- what a file holds

abbrev rids_of : List Held → List ℕ
rids_of hs = map (λ m. m.number) (messages_of hs)

least_not : (file n k : ℕ) → k ≡ file → n < k → nat_le file n ≡ false
least_not file n k e l = grind (arith, nat_tests, e, l)

equal : (m n : ℕ) → (m == n) ≡ true → m ≡ n
equal m n e = grind (arith, nat_tests, e)

own : (n : ℕ) → (n == n) ≡ true
own n = grind (arith, nat_tests)

not_held : (rid file n : ℕ) (hs : List Held) → OwnFile rid file hs → AboveFile n hs → (list_any (λ k. k == rid) (rids_of hs) && nat_le file n) ≡ false
not_held rid file n [] o a = refl
not_held rid file n (h ∷ hs) o a = by (h.rid == rid) refl (not_held rid file n hs o.1 a.1)
  where
    by : (b : Bool) → (h.rid == rid) ≡ b → (list_any (λ k. k == rid) (rids_of hs) && nat_le file n) ≡ false → ((b || list_any (λ k. k == rid) (rids_of hs)) && nat_le file n) ≡ false
    by true e rest = least_not file n h.file (o.0 (equal h.rid rid e)) a.0
    by false e rest = rest

holds_not : (hs : List Held) (n : ℕ) (r : Read) → (is_enqueue r.what.kind ≡ true → OwnFile r.what.rid r.file hs) → AboveFile n hs → holds (rids_of hs) n r ≡ false
holds_not hs n r o a = by (is_enqueue r.what.kind) refl
  where
    by : (b : Bool) → is_enqueue r.what.kind ≡ b → (b && list_any (λ k. k == r.what.rid) (rids_of hs) && nat_le r.file n && nat_le n r.end_file) ≡ false
    by true e = ap (λ x. x && nat_le n r.end_file) (not_held r.what.rid r.file n hs (o e) a)
    by false e = refl

-- a file before all those where held records start holds nothing
pub none_held : (hs : List Held) (n : ℕ) (rs : List Read) → AllByRecursion (λ r. is_enqueue r.what.kind ≡ true → OwnFile r.what.rid r.file hs) rs → AboveFile n hs → list_any (holds (rids_of hs) n) rs ≡ false
none_held hs n [] o a = refl
none_held hs n (r ∷ rs) o a = ap₂ (λ x y. x || y) (holds_not hs n r o.0 a) (none_held hs n rs o.1 a)

-- ---- what a file holds still

-- a record is held in a file up to this one
record HeldBy (n : ℕ) (hs : List Held) (rs : List Read) : Type 0 where
  one : Held
  file : one.file ≤ n
  read : list_any (is_of one) rs ≡ true
  rid : list_any (λ k. k == one.rid) (rids_of hs) ≡ true

or_right : (a b : Bool) → b ≡ true → (a || b) ≡ true
or_right true b e = refl
or_right false b e = e

or_cases : (a b : Bool) → (a || b) ≡ true → (a ≡ true) ⊎ (b ≡ true)
or_cases true b e = inl refl
or_cases false b e = inr e

scan_held : (n : ℕ) (rs : List Read) (hs : List Held) → AllByRecursion (λ h. list_any (is_of h) rs ≡ true) hs → AboveFile n hs ⊎ HeldBy n hs rs
scan_held n rs [] a = inl tt
scan_held n rs (h ∷ hs) a = by (nat_le h.file n) refl (scan_held n rs hs a.1)
  where
    most : nat_le h.file n ≡ true → h.file ≤ n
    most e = grind (arith, nat_tests, e)

    more : nat_le h.file n ≡ false → n < h.file
    more e = grind (arith, nat_tests, e)

    by : (b : Bool) → nat_le h.file n ≡ b → AboveFile n hs ⊎ HeldBy n hs rs → AboveFile n (h ∷ hs) ⊎ HeldBy n (h ∷ hs) rs
    by true e rest = inr (record { one = h; file = most e; read = a.0; rid = ap (λ b. b || list_any (λ k. k == h.rid) (rids_of hs)) (own h.rid) })
    by false e (inl k) = inl (more e, k)
    by false e (inr k) = inr (record { one = k.one; file = k.file; read = k.read; rid = or_right (h.rid == k.one.rid) (list_any (λ i. i == k.one.rid) (rids_of hs)) k.rid })

and_left : (a b : Bool) → (a && b) ≡ true → a ≡ true
and_left true b e = refl
and_left false b e = absurd (cc)

and_right : (a b : Bool) → (a && b) ≡ true → b ≡ true
and_right true b e = e
and_right false b e = absurd (cc)

is_most : (m n k : ℕ) → m ≡ k → k ≤ n → nat_le m n ≡ true
is_most m n k e l = grind (arith, nat_tests, e, l)

holds_one : (hs : List Held) (n : ℕ) (h : Held) (r : Read) → is_of h r ≡ true → h.file ≤ n → list_any (λ k. k == h.rid) (rids_of hs) ≡ true → n ≤ r.end_file → holds (rids_of hs) n r ≡ true
holds_one hs n h r e l rid end =
    let three = and_left (is_enqueue r.what.kind && r.what.rid == h.rid && r.file == h.file) (r.end_file == h.end_file) e in
    let file : r.file ≡ h.file = equal r.file h.file (and_right (is_enqueue r.what.kind && r.what.rid == h.rid) (r.file == h.file) three) in
    let two = and_left (is_enqueue r.what.kind && r.what.rid == h.rid) (r.file == h.file) three in
    let same : r.what.rid ≡ h.rid = equal r.what.rid h.rid (and_right (is_enqueue r.what.kind) (r.what.rid == h.rid) two) in
    let any : list_any (λ k. k == r.what.rid) (rids_of hs) ≡ true = subst (λ i. list_any (λ k. k == i) (rids_of hs) ≡ true) (sym same) rid in
    λ i. ((and_left (is_enqueue r.what.kind) (r.what.rid == h.rid) two i && any i) && is_most r.file n h.file file l i) && is_most n r.end_file n refl end i

some_held : (hs : List Held) (n : ℕ) (h : Held) (rs : List Read) → list_any (is_of h) rs ≡ true → h.file ≤ n → list_any (λ k. k == h.rid) (rids_of hs) ≡ true → AllByRecursion (λ r. n ≤ r.end_file) rs → list_any (holds (rids_of hs) n) rs ≡ true
some_held hs n h [] e l rid ends = absurd (cc)
some_held hs n h (r ∷ rs) e l rid ends = by (or_cases (is_of h r) (list_any (is_of h) rs) e) (λ k. some_held hs n h rs k l rid ends.1)
  where
    by : (is_of h r ≡ true) ⊎ (list_any (is_of h) rs ≡ true) → (list_any (is_of h) rs ≡ true → list_any (holds (rids_of hs) n) rs ≡ true) → (holds (rids_of hs) n r || list_any (holds (rids_of hs) n) rs) ≡ true
    by (inl k) rest = ap (λ b. b || list_any (holds (rids_of hs) n) rs) (holds_one hs n h r k l rid ends.0)
    by (inr k) rest = or_right (holds (rids_of hs) n r) (list_any (holds (rids_of hs) n) rs) (rest k)

-- a file that isn't before the least one holds a record, where all records end there or behind
pub least_held : (n newest : ℕ) (hs : List Held) (rs : List Read) → AllByRecursion (λ h. list_any (is_of h) rs ≡ true) hs → AllByRecursion (λ r. n ≤ r.end_file) rs → n < newest → file_or newest (least_file hs) ≤ n
    → list_any (holds (rids_of hs) n) rs ≡ true
least_held n newest [] rs a ends less l = absurd (omega (arith, less, l))
least_held n newest (h ∷ hs) rs a ends less l = by (scan_held n rs (h ∷ hs) a)
  where
    by : AboveFile n (h ∷ hs) ⊎ HeldBy n (h ∷ hs) rs → list_any (holds (rids_of (h ∷ hs)) n) rs ≡ true
    by (inl k) = let more : n < least_from h.file hs = above_least n h.file hs k.0 k.1 in absurd (omega (arith, more, l))
    by (inr k) = some_held (h ∷ hs) n k.one rs k.read k.file k.rid ends

-- ---- records before others

left_apart : (change : Message → Option Message) (gs ns : List Held) → left_held change (gs ++ ns) ≡ left_held change gs ++ left_held change ns
left_apart change [] ns = refl
left_apart change (g ∷ gs) ns =
    ap (cons_option (held_as g (change (message_of g)))) (left_apart change gs ns)
    ∙ elim (held_as g (change (message_of g))) as (λ o. cons_option o (left_held change gs ++ left_held change ns) ≡ cons_option o (left_held change gs) ++ left_held change ns) [ None ↦ refl | Some h ↦ refl ]

record Apart (rs : List Read) (gs ns : List Held) : Type 0 where
  left : List Held
  is : held_after_all rs (gs ++ ns) ≡ left ++ held_after_all rs ns

step_apart : (k : Kind) (r : Read) (gs ns : List Held) → (left : List Held) × (held_after k r (gs ++ ns) ≡ left ++ held_after k r ns)
step_apart Enqueue r gs ns = (gs, append_assoc gs ns (held_of r ∷ []))
step_apart Dequeue r gs ns = let change = left_by_take r.what.target (xid_in r.what.xid) in (left_held change gs, left_apart change gs ns)
step_apart Commit r gs ns = let change : Message → Option Message = λ m. left_by (only r.what.xid verdict.Commit) m.status m in (left_held change gs, left_apart change gs ns)
step_apart Abort r gs ns = let change : Message → Option Message = λ m. left_by (only r.what.xid verdict.Abort) m.status m in (left_held change gs, left_apart change gs ns)
step_apart Filler r gs ns = (gs, refl)

-- what records leave of these stands before what they make of the others
set_apart : (rs : List Read) (gs ns : List Held) → Apart rs gs ns
set_apart [] gs ns = record { left = gs; is = refl }
set_apart (r ∷ rs) gs ns =
    let one = step_apart r.what.kind r gs ns in
    let rest = set_apart rs one.0 (held_after r.what.kind r ns) in
    record { left = rest.left; is = ap (held_after_all rs) one.1 ∙ rest.is }

none_left : (left more hs : List Held) → hs ≡ left ++ more → length (messages_of hs) ≡ length (messages_of more) → hs ≡ more
none_left [] more hs e l = e
none_left (h ∷ left) more hs e l =
    let size : length hs ≡ length more = sym (length-map hs message_of) ∙ l ∙ length-map more message_of in
    absurd (omega (arith, ap length e, length-append left more, size))

-- where the same messages are made without what was held before, nothing of it is left
pub held_without : (gs : List Held) (rs : List Read) (hs : List Held) → held_after_all rs gs ≡ hs → messages_of hs ≡ messages_of (held_after_all rs []) → held_after_all rs [] ≡ hs
held_without gs rs hs e m =
    let a = set_apart rs gs [] in
    sym (none_left a.left (held_after_all rs []) hs (sym e ∙ ap (held_after_all rs) (sym (append-nil gs)) ∙ a.is) (ap length m))
