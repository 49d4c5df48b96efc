-- Which enqueues the list holds behind its batches.
use Rattle.std.proofs.Common.{◌≡◌, ℕ, zero, suc, ◌+◌, ◌<◌, ◌≤◌, Bool, true, false, not, cond, ◌&&◌, ◌||◌, ◌==◌, List, [], ◌∷◌, ◌++◌, map, replicate, Option, Some, None, refl, sym, ap, ◌∙◌, subst, arith, append-nil}
use Rattle.std.proofs.lemmas.Bool.Decides.{nat_tests}
use Rattle.std.specs.List.{AllByRecursion, filter, list_any}
use Rattle.qls_shape.specs.declared.Version.TheVariants.{Two}
use Rattle.qls_model.specs.Bytes.{same, comes_before}
use Rattle.qls_model.proofs.XidKeys.{same_true}
use Rattle.qls_record.specs.Record.{Record, record_length, is_enqueue}
use Rattle.qls_decide.specs.declared.ListEntry.{ListEntry}
use Rattle.qls_decide.specs.declared.ListState.{ListState}
use Rattle.qls_decide.specs.Entries.{entry_of, without_entry, placed_entry, with_entry}
use Rattle.qls_enqmap.specs.declared.Held.{Held}
use Rattle.qls_enqmap.specs.Records.{AllBelow, without}
use Rattle.qls_meaning.specs.Reading.{Read}
use Rattle.qls_blocks.specs.Batching.{with_fillers, filler_of, filler_count, last_rid, laid_from}
use Rattle.qls_laws.proofs.EntryOrder.{AllAfter, Sorted, without_lacking, lacks_if_none, sorted_filtered}
use Rattle.qls_log.specs.Logs.{LogState, capacity_in}
use Rattle.qls_log.specs.Reads.{batch_reads, read_in}
use Rattle.qls_prepared.specs.Lists.{XidsRise, RidsDiffer, is_entry_of, held_of, held_in}
use Rattle.qls_prepared.specs.Records.{end_records}
use Rattle.qls_prepared.specs.Table.{held_at_spot, held_without}
use Rattle.qls_prepared.specs.Ending.{ended_entries, ended_held}
use Rattle.qls_prepared.specs.Saying.{spot_at}
use Rattle.qls_prepared.proofs.Kept.{sorted_rise, some_is, all_later, all_found, stated, decided_there, rids_stated, differ_kept}
use Rattle.qls_prepared.proofs.Said.{only_placed}

abbrev pub has_rid : ℕ → List ListEntry → Bool
has_rid n es = list_any (λ e. e.rid == n) es

-- no enqueue among them
abbrev pub NoEnqueue : List Read → Type 0
NoEnqueue rs = AllByRecursion (λ r. is_enqueue r.what.kind ≡ false) rs

abbrev pub NoneEnters : List Record → Type 0
NoneEnters rs = AllByRecursion (λ r. is_enqueue r.kind ≡ false) rs

-- ---- by the entries, and by the records

pub held_append : (es : List ListEntry) (xs ys : List Read) → held_in es (xs ++ ys) ≡ held_in es xs ++ held_in es ys
held_append es [] ys = refl
held_append es (x ∷ xs) ys =
    elim (is_entry_of es x) as (λ b. map held_of (cond b (x ∷ filter (is_entry_of es) (xs ++ ys)) (filter (is_entry_of es) (xs ++ ys))) ≡ map held_of (cond b (x ∷ filter (is_entry_of es) xs) (filter (is_entry_of es) xs)) ++ held_in es ys) [
      | true ↦ ap (λ (hs : List Held). held_of x ∷ hs) (held_append es xs ys)
      | false ↦ held_append es xs ys
    ]

pub held_same : (es fs : List ListEntry) (rs : List Read) → AllByRecursion (λ r. is_entry_of es r ≡ is_entry_of fs r) rs → held_in es rs ≡ held_in fs rs
held_same es fs [] h = refl
held_same es fs (r ∷ rs) h =
    ap (λ b. map held_of (cond b (r ∷ filter (is_entry_of es) rs) (filter (is_entry_of es) rs))) h.0
    ∙ elim (is_entry_of fs r) as (λ b. map held_of (cond b (r ∷ filter (is_entry_of es) rs) (filter (is_entry_of es) rs)) ≡ map held_of (cond b (r ∷ filter (is_entry_of fs) rs) (filter (is_entry_of fs) rs))) [
      | true ↦ ap (λ (hs : List Held). held_of r ∷ hs) (held_same es fs rs h.1)
      | false ↦ held_same es fs rs h.1
    ]

pub none_entered : (es : List ListEntry) (rs : List Read) → NoEnqueue rs → held_in es rs ≡ []
none_entered es [] h = refl
none_entered es (r ∷ rs) h =
    ap (λ b. map held_of (cond (b && has_rid r.what.rid es) (r ∷ filter (is_entry_of es) rs) (filter (is_entry_of es) rs))) h.0 ∙ none_entered es rs h.1

-- ---- a batch

read_none : (cap present p : ℕ) (rs : List Record) → NoneEnters rs → NoEnqueue (map (read_in cap present) (laid_from p rs))
read_none cap present p [] h = tt
read_none cap present p (r ∷ rs) h = (h.0, read_none cap present (p + record_length Two r) rs h.1)

none_more : (rs : List Record) (n rid : ℕ) → NoneEnters rs → NoneEnters (rs ++ replicate n (filler_of rid))
none_more [] zero rid h = tt
none_more [] (suc n) rid h = (refl, none_more [] n rid tt)
none_more (r ∷ rs) n rid h = (h.0, none_more rs n rid h.1)

none_batch : (l : LogState) (es : List ListEntry) (rs : List Record) → NoneEnters rs → held_in es (batch_reads l rs) ≡ []
none_batch l es rs h =
    none_entered es (batch_reads l rs) (read_none (capacity_in l.opening) l.newest l.used (with_fillers rs) (none_more rs (filler_count rs) (last_rid 0 rs) h))

same_behind : (l : LogState) (es fs : List ListEntry) (rs : List Record) (reads : List Read) → NoneEnters rs → AllByRecursion (λ r. is_entry_of es r ≡ is_entry_of fs r) reads → held_in es (reads ++ batch_reads l rs) ≡ held_in fs reads
same_behind l es fs rs reads n h =
    held_append es reads (batch_reads l rs) ∙ ap (λ (hs : List Held). held_in es reads ++ hs) (none_batch l es rs n) ∙ append-nil (held_in es reads) ∙ held_same es fs reads h

-- ---- one more entry

or_swap : (a b c d : Bool) → d ≡ (b || c) → (a || d) ≡ (b || (a || c))
or_swap true true c d e = refl
or_swap true false c d e = refl
or_swap false b c d e = e

any_placed : (n : ℕ) (e : ListEntry) (es : List ListEntry) → has_rid n (placed_entry e es) ≡ (e.rid == n || has_rid n es)
any_placed n e [] = refl
any_placed n e (f ∷ es) =
    elim (comes_before e.xid f.xid) as (λ b. has_rid n (cond b (e ∷ f ∷ es) (f ∷ placed_entry e es)) ≡ (e.rid == n || (f.rid == n || has_rid n es))) [
      | true ↦ refl
      | false ↦ or_swap (f.rid == n) (e.rid == n) (has_rid n es) (has_rid n (placed_entry e es)) (any_placed n e es)
    ]

pub any_with : (n : ℕ) (e : ListEntry) (es : List ListEntry) → entry_of e.xid es ≡ None → has_rid n (with_entry e es) ≡ (e.rid == n || has_rid n es)
any_with n e es none = ap (has_rid n) (only_placed e es none) ∙ any_placed n e es

above : (m n : ℕ) → m < n → (n == m) ≡ false
above m n h = grind (arith, nat_tests)

own : (n : ℕ) → (n == n) ≡ true
own n = grind (arith, nat_tests)

-- the older enqueues are held as before
pub as_before : (e : ListEntry) (es : List ListEntry) (reads : List Read) → entry_of e.xid es ≡ None → AllByRecursion (λ r. is_enqueue r.what.kind ≡ true → r.what.rid < e.rid) reads
    → AllByRecursion (λ r. is_entry_of (with_entry e es) r ≡ is_entry_of es r) reads
as_before e es [] none h = tt
as_before e es (r ∷ reads) none h = (by (is_enqueue r.what.kind) refl, as_before e es reads none h.1)
  where
    by : (b : Bool) → is_enqueue r.what.kind ≡ b → (b && has_rid r.what.rid (with_entry e es)) ≡ (b && has_rid r.what.rid es)
    by true k = any_with r.what.rid e es none ∙ ap (λ b. b || has_rid r.what.rid es) (above r.what.rid e.rid (h.0 k))
    by false k = refl

and_both : (a b : Bool) → a ≡ true → b ≡ true → (a && b) ≡ true
and_both true b h k = k
and_both false b h k = absurd (cc)

pub held_entered : (l : LogState) (r : Record) (more : List Record) (e : ListEntry) (es : List ListEntry) (reads : List Read) → is_enqueue r.kind ≡ true → e.rid ≡ r.rid → NoneEnters more → entry_of e.xid es ≡ None
    → AllByRecursion (λ q. is_enqueue q.what.kind ≡ true → q.what.rid < e.rid) reads → held_in (with_entry e es) (reads ++ batch_reads l (r ∷ more)) ≡ held_in es reads ++ held_at_spot r.rid (spot_at l r) ∷ []
held_entered l r more e es reads k i n none h =
    let fs : List ListEntry = with_entry e es in
    let after : ℕ = l.used + record_length Two r in
    let first : Read = read_in (capacity_in l.opening) l.newest (record { what = r; at = l.used; after = after }) in
    let rest : List Read = map (read_in (capacity_in l.opening) l.newest) (laid_from after (more ++ replicate (filler_count (r ∷ more)) (filler_of (last_rid 0 (r ∷ more))))) in
    let here : has_rid r.rid fs ≡ true = any_with r.rid e es none ∙ ap (λ b. b || has_rid r.rid es) (ap (λ m. m == r.rid) i ∙ own r.rid) in
    let entered : is_entry_of fs first ≡ true = and_both (is_enqueue r.kind) (has_rid r.rid fs) k here in
    let others : held_in fs rest ≡ [] =
    none_entered fs rest (read_none (capacity_in l.opening) l.newest after (more ++ replicate (filler_count (r ∷ more)) (filler_of (last_rid 0 (r ∷ more)))) (none_more more (filler_count (r ∷ more)) (last_rid 0 (r ∷ more)) n)) in
    let batch : held_in fs (first ∷ rest) ≡ held_of first ∷ [] =
    ap (λ b. map held_of (cond b (first ∷ filter (is_entry_of fs) rest) (filter (is_entry_of fs) rest))) entered ∙ ap (λ (hs : List Held). held_of first ∷ hs) others in
    held_append fs reads (first ∷ rest) ∙ ap (λ (hs : List Held). held_in fs reads ++ hs) batch ∙ ap (λ (hs : List Held). hs ++ held_of first ∷ []) (held_same fs es reads (as_before e es reads none h))

-- ---- a decided entry

pub stated_held : (x : List ℕ) (s : ListState) (es : List ListEntry) (reads : List Read) → AllByRecursion (λ r. is_entry_of (map (stated x s) es) r ≡ is_entry_of es r) reads
stated_held x s es [] = tt
stated_held x s es (r ∷ reads) = (ap (λ b. is_enqueue r.what.kind && b) (rids_stated x s r.what.rid es), stated_held x s es reads)

pub held_decided : (l : LogState) (rs : List Record) (x : List ℕ) (s : ListState) (e : ListEntry) (es : List ListEntry) (reads : List Read) → NoneEnters rs → XidsRise es → entry_of x es ≡ Some e
    → held_in (with_entry (record e { state = s }) es) (reads ++ batch_reads l rs) ≡ held_in es reads
held_decided l rs x s e es reads n o h =
    ap (λ (fs : List ListEntry). held_in fs (reads ++ batch_reads l rs)) (decided_there x s e es (sorted_rise es o) h) ∙ same_behind l (map (stated x s) es) es rs reads n (stated_held x s es reads)

-- ---- without an entry

equal : (m n : ℕ) → (m == n) ≡ true → m ≡ n
equal m n h = grind (arith, nat_tests, h)

pub none_of : (n : ℕ) (es : List ListEntry) → AllByRecursion (λ f. (f.rid == n) ≡ false) es → has_rid n es ≡ false
none_of n [] h = refl
none_of n (f ∷ es) h = ap (λ b. b || has_rid n es) h.0 ∙ none_of n es h.1

-- where this one has the id, no other does
only_one : (n : ℕ) (b any : Bool) → (b ≡ true → any ≡ false) → any ≡ ((b || any) && not b)
only_one n true any h = h refl
only_one n false any h = all any
  where
    all : (c : Bool) → c ≡ (c && true)
    all true = refl
    all false = refl

-- this one has it, so the one that goes does not
not_gone : (b any gone : Bool) → (b ≡ true → gone ≡ false) → (b || (any && not gone)) ≡ ((b || any) && not gone)
not_gone true any gone h = ap (λ c. not c) (sym (h refl))
not_gone false any gone h = refl

apart_of : (n : ℕ) (f e : ListEntry) → (e.rid == f.rid) ≡ false → (f.rid == n) ≡ true → (e.rid == n) ≡ false
apart_of n f e h k = subst (λ m. (e.rid == m) ≡ false) (equal f.rid n k) h

lone : (n : ℕ) (f : ListEntry) (es : List ListEntry) → AllByRecursion (λ g. (g.rid == f.rid) ≡ false) es → (f.rid == n) ≡ true → has_rid n es ≡ false
lone n f es d k = none_of n es (subst (λ m. AllByRecursion (λ g. (g.rid == m) ≡ false) es) (equal f.rid n k) d)

without_step : (n : ℕ) (x : List ℕ) (f e : ListEntry) (es : List ListEntry) (b : Bool) → same f.xid x ≡ b → AllAfter f.xid es → AllByRecursion (λ g. (g.rid == f.rid) ≡ false) es → cond b (Some f) (entry_of x es) ≡ Some e
    → (entry_of x es ≡ Some e → has_rid n (without_entry x es) ≡ (has_rid n es && not (e.rid == n))) → has_rid n (cond (not b) (f ∷ without_entry x es) (without_entry x es)) ≡ ((f.rid == n || has_rid n es) && not (e.rid == n))
without_step n x f e es true k a d h rest =
    ap (has_rid n) (without_lacking x es (all_later x es (subst (λ y. AllAfter y es) (same_true f.xid x k) a)))
    ∙ only_one n (f.rid == n) (has_rid n es) (lone n f es d)
    ∙ ap (λ (g : ListEntry). (f.rid == n || has_rid n es) && not (g.rid == n)) (some_is f e h)
without_step n x f e es false k a d h rest =
    ap (λ b. f.rid == n || b) (rest h) ∙ not_gone (f.rid == n) (has_rid n es) (e.rid == n) (apart_of n f e (all_found (λ g. (g.rid == f.rid) ≡ false) x e es d h))

any_without : (n : ℕ) (x : List ℕ) (e : ListEntry) (es : List ListEntry) → Sorted es → RidsDiffer es → entry_of x es ≡ Some e → has_rid n (without_entry x es) ≡ (has_rid n es && not (e.rid == n))
any_without n x e [] o d h = absurd (cc)
any_without n x e (f ∷ es) o d h = without_step n x f e es (same f.xid x) refl o.0 d.0 h (any_without n x e es o.1 d.1)

turned : (m n : ℕ) → (m == n) ≡ (n == m)
turned m n = grind (arith, nat_tests)

and_three : (a b c : Bool) → (a && (b && c)) ≡ ((a && b) && c)
and_three true b c = refl
and_three false b c = refl

entry_without : (x : List ℕ) (e : ListEntry) (es : List ListEntry) (r : Read) → Sorted es → RidsDiffer es → entry_of x es ≡ Some e → is_entry_of (without_entry x es) r ≡ (is_entry_of es r && not (r.what.rid == e.rid))
entry_without x e es r o d h =
    ap (λ b. is_enqueue r.what.kind && b) (any_without r.what.rid x e es o d h ∙ ap (λ b. has_rid r.what.rid es && not b) (turned e.rid r.what.rid))
    ∙ and_three (is_enqueue r.what.kind) (has_rid r.what.rid es) (not (r.what.rid == e.rid))

some_step : (rid : ℕ) (r : Read) (xs ys : List Read) (b c : Bool) → not (r.what.rid == rid) ≡ c → map held_of xs ≡ without rid (map held_of ys)
    → map held_of (cond (b && c) (r ∷ xs) xs) ≡ without rid (map held_of (cond b (r ∷ ys) ys))
some_step rid r xs ys true true k h = ap (λ (hs : List Held). held_of r ∷ hs) h ∙ sym (ap (λ c. cond c (held_of r ∷ without rid (map held_of ys)) (without rid (map held_of ys))) k)
some_step rid r xs ys true false k h = h ∙ sym (ap (λ c. cond c (held_of r ∷ without rid (map held_of ys)) (without rid (map held_of ys))) k)
some_step rid r xs ys false c k h = h

some_without : (x : List ℕ) (e : ListEntry) (es : List ListEntry) (reads : List Read) → Sorted es → RidsDiffer es → entry_of x es ≡ Some e → held_in (without_entry x es) reads ≡ without e.rid (held_in es reads)
some_without x e es [] o d h = refl
some_without x e es (r ∷ reads) o d h =
    ap (λ b. map held_of (cond b (r ∷ filter (is_entry_of (without_entry x es)) reads) (filter (is_entry_of (without_entry x es)) reads))) (entry_without x e es r o d h)
    ∙ some_step e.rid r (filter (is_entry_of (without_entry x es)) reads) (filter (is_entry_of es) reads) (is_entry_of es r) (not (r.what.rid == e.rid)) refl (some_without x e es reads o d h)

pub one_without : (x : List ℕ) (o : Option ListEntry) (es : List ListEntry) (reads : List Read) → entry_of x es ≡ o → Sorted es → RidsDiffer es → held_in (without_entry x es) reads ≡ held_without o (held_in es reads)
one_without x None es reads h o d = ap (λ (fs : List ListEntry). held_in fs reads) (without_lacking x es (lacks_if_none x es h))
one_without x (Some e) es reads h o d = some_without x e es reads o d h

all_ended : (xs : List (List ℕ)) (es : List ListEntry) (reads : List Read) → Sorted es → RidsDiffer es → held_in (ended_entries xs es) reads ≡ ended_held xs es (held_in es reads)
all_ended [] es reads o d = refl
all_ended (x ∷ xs) es reads o d =
    let t : ListEntry → Bool = λ f. not (same f.xid x) in
    all_ended xs (without_entry x es) reads (sorted_filtered t es o) (differ_kept t es d) ∙ ap (ended_held xs (without_entry x es)) (one_without x (entry_of x es) es reads refl o d)

none_ends : (rid : ℕ) (xs : List (List ℕ)) → NoneEnters (end_records rid xs)
none_ends rid [] = tt
none_ends rid (x ∷ xs) = (refl, none_ends rid xs)

pub held_ended : (l : LogState) (rid : ℕ) (xs : List (List ℕ)) (es : List ListEntry) (reads : List Read) → XidsRise es → RidsDiffer es
    → held_in (ended_entries xs es) (reads ++ batch_reads l (end_records rid xs)) ≡ ended_held xs es (held_in es reads)
held_ended l rid xs es reads o d =
    let fs : List ListEntry = ended_entries xs es in
    held_append fs reads (batch_reads l (end_records rid xs)) ∙ ap (λ (hs : List Held). held_in fs reads ++ hs) (none_batch l fs (end_records rid xs) (none_ends rid xs)) ∙ append-nil (held_in fs reads)
    ∙ all_ended xs es reads (sorted_rise es o) d

-- ---- ids that are held

pub below_more : (m n : ℕ) (hs : List Held) → m ≤ n → AllBelow m hs → AllBelow n hs
below_more m n [] l h = tt
below_more m n (g ∷ hs) l h = let here = h.0 in (omega (arith, here, l), below_more m n hs l h.1)

pub below_end : (n : ℕ) (hs : List Held) (h : Held) → AllBelow n hs → h.rid < n → AllBelow n (hs ++ h ∷ [])
below_end n [] h a l = (l, tt)
below_end n (g ∷ hs) h a l = (a.0, below_end n hs h a.1 l)

below_without : (n rid : ℕ) (hs : List Held) → AllBelow n hs → AllBelow n (without rid hs)
below_without n rid [] h = tt
below_without n rid (g ∷ hs) h =
    elim (g.rid == rid) as (λ b. AllBelow n (cond (not b) (g ∷ without rid hs) (without rid hs))) [ true ↦ below_without n rid hs h.1 | false ↦ (h.0, below_without n rid hs h.1) ]

pub below_one : (n : ℕ) (o : Option ListEntry) (hs : List Held) → AllBelow n hs → AllBelow n (held_without o hs)
below_one n None hs h = h
below_one n (Some e) hs h = below_without n e.rid hs h

pub below_ended : (n : ℕ) (xs : List (List ℕ)) (es : List ListEntry) (hs : List Held) → AllBelow n hs → AllBelow n (ended_held xs es hs)
below_ended n [] es hs h = h
below_ended n (x ∷ xs) es hs h = below_ended n xs (without_entry x es) (held_without (entry_of x es) hs) (below_one n (entry_of x es) hs h)
