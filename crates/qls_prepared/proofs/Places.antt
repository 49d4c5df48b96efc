-- Entries in byte order of xid: where an xid stands among them, and what it is to put one in there, to change one and to take one out.
use Rattle.std.proofs.Common.{◌≡◌, ℕ, zero, suc, ◌<◌, ◌≤◌, true, false, not, cond, List, [], ◌∷◌, length, take, drop, get_or, Option, Some, None, IfSome, Result, Ok, Err, IfOk, IfErr, refl, sym, ap, subst, ◌∙◌, arith}
use Rattle.std.proofs.Math.ListN.{set}
use Rattle.std.specs.List.{AllByRecursion, slice_get, insert, remove}
use Rattle.std.specs.declared.cmp.Ordering.TheVariants.{Less, Equal, Greater}
use Rattle.std.specs.Ordering.{nat_cmp, is_eq, is_lt, ordering_reverse}
use Rattle.std.specs.Cmp.Lexicographic.{slice_cmp}
use Rattle.std.proofs.lemmas.Cmp.{nat_list_cmp_total}
use Rattle.std.proofs.lemmas.Map.Text.{is_eq-slice_cmp}
use Rattle.std.proofs.lemmas.Option.{slice_get_read, get_or_from_slice_get}
use Rattle.qls_model.specs.Bytes.{same, comes_before}
use Rattle.qls_model.proofs.XidKeys.{same_true, same_self}
use Rattle.qls_decide.specs.declared.ListEntry.{ListEntry}
use Rattle.qls_decide.specs.declared.ListState.{ListState}
use Rattle.qls_decide.specs.Entries.{entry_of, without_entry, placed_entry, with_entry}
use Rattle.qls_enqmap.specs.declared.Held.{Held}
use Rattle.qls_enqmap.specs.declared.EnqFault.{EnqFault}
use Rattle.qls_enqmap.specs.Records.{held_at, without, removed as removed_of}
use Rattle.qls_enqmap.proofs.Writes.{without_none}
use Rattle.qls_laws.proofs.EntryOrder.{Lacks, is_less, found_xid, lacks_if_none, none_lacking, without_lacking}
use Rattle.qls_prepared.specs.Lists.{XidsRise}
use Rattle.qls_prepared.specs.Places.{StandsAt, WouldStandAt}
use Rattle.qls_prepared.specs.Table.{held_without}

-- ---- xids

abbrev pub Before : List ℕ → List ℕ → Type 0
Before a b = comes_before a b ≡ true

pub is_before : (a b : List ℕ) → slice_cmp nat_cmp a b ≡ Less → Before a b
is_before a b e = ap is_lt e

pub is_behind : (a b : List ℕ) → slice_cmp nat_cmp a b ≡ Greater → Before b a
is_behind a b e = ap is_lt (nat_list_cmp_total.antisymm b a ∙ ap ordering_reverse e)

pub are_same : (a b : List ℕ) → slice_cmp nat_cmp a b ≡ Equal → a ≡ b
are_same a b e = same_true a b (sym (is_eq-slice_cmp a b) ∙ ap is_eq e)

before_all : (a b c : List ℕ) → Before a b → Before b c → Before a c
before_all a b c h g = ap is_lt (nat_list_cmp_total.trans a b c (is_less (slice_cmp nat_cmp a b) h) (is_less (slice_cmp nat_cmp b c) g))

before_differs : (a b : List ℕ) → Before a b → same a b ≡ false
before_differs a b h = sym (is_eq-slice_cmp a b) ∙ ap is_eq (is_less (slice_cmp nat_cmp a b) h)

behind_differs : (a b : List ℕ) → Before b a → same a b ≡ false
behind_differs a b h = sym (is_eq-slice_cmp a b) ∙ ap is_eq (nat_list_cmp_total.antisymm a b ∙ ap ordering_reverse (is_less (slice_cmp nat_cmp b a) h))

not_before : (a b : List ℕ) → Before b a → comes_before a b ≡ false
not_before a b h = ap is_lt (nat_list_cmp_total.antisymm a b ∙ ap ordering_reverse (is_less (slice_cmp nat_cmp b a) h))

-- ---- where an xid stands

abbrev pub AllBefore : List ℕ → List ListEntry → Type 0
AllBefore x es = AllByRecursion (λ e. comes_before e.xid x ≡ true) es

abbrev pub AllBehind : List ℕ → List ListEntry → Type 0
AllBehind x es = AllByRecursion (λ e. comes_before x e.xid ≡ true) es

all_behind : (a b : List ℕ) (es : List ListEntry) → Before a b → AllBehind b es → AllBehind a es
all_behind a b [] h r = tt
all_behind a b (e ∷ es) h r = (before_all a b e.xid h r.0, all_behind a b es h r.1)

rises_to : (x : List ℕ) (es : List ListEntry) (i : ℕ) (e : ListEntry) → i < length es → e ≡ get_or es i e → AllBehind x es → Before x e.xid
rises_to x [] i e h k r = absurd (omega arith)
rises_to x (f ∷ es) zero e h k r = ap (λ (g : ListEntry). comes_before x g.xid) k ∙ r.0
rises_to x (f ∷ es) (suc i) e h k r = rises_to x es i e (omega arith) k r.1

-- where the entry at a place comes before the xid, so do all up to it
pub before_up_to : (x : List ℕ) (es : List ListEntry) (i : ℕ) (e : ListEntry) → i < length es → e ≡ get_or es i e → XidsRise es → Before e.xid x → AllBefore x (take (suc i) es)
before_up_to x [] i e h k r b = absurd (omega arith)
before_up_to x (f ∷ es) zero e h k r b = (ap (λ (g : ListEntry). comes_before g.xid x) (sym k) ∙ b, tt)
before_up_to x (f ∷ es) (suc i) e h k r b = (before_all f.xid e.xid x (rises_to f.xid es i e (omega arith) k r.0) b, before_up_to x es i e (omega arith) k r.1 b)

-- where the xid comes before the entry at a place, it does before all from there on
pub behind_from : (x : List ℕ) (es : List ListEntry) (i : ℕ) (e : ListEntry) → i < length es → e ≡ get_or es i e → XidsRise es → Before x e.xid → AllBehind x (drop i es)
behind_from x [] i e h k r b = absurd (omega arith)
behind_from x (f ∷ es) zero e h k r b =
    let first : Before x f.xid = ap (λ (g : ListEntry). comes_before x g.xid) (sym k) ∙ b in
    (first, all_behind x f.xid es first r.0)
behind_from x (f ∷ es) (suc i) e h k r b = behind_from x es i e (omega arith) k r.1 b

lacks_between : (x : List ℕ) (es : List ListEntry) (i : ℕ) → AllBefore x (take i es) → AllBehind x (drop i es) → Lacks x es
lacks_between x [] i b a = tt
lacks_between x (e ∷ es) zero b a = (behind_differs e.xid x a.0, lacks_between x es zero tt a.1)
lacks_between x (e ∷ es) (suc i) b a = (before_differs e.xid x b.0, lacks_between x es i b.1 a)

found_at : (es : List ListEntry) (i : ℕ) (e : ListEntry) → i < length es → e ≡ get_or es i e → XidsRise es → entry_of e.xid es ≡ Some e
found_at [] i e h k r = absurd (omega arith)
found_at (f ∷ es) zero e h k r =
    ap (λ (g : ListEntry). cond (same f.xid g.xid) (Some f) (entry_of g.xid es)) k ∙ ap (λ b. cond b (Some f) (entry_of f.xid es)) (same_self f.xid) ∙ ap (λ (g : ListEntry). Some g) (sym k)
found_at (f ∷ es) (suc i) e h k r =
    ap (λ b. cond b (Some f) (entry_of e.xid es)) (before_differs f.xid e.xid (rises_to f.xid es i e (omega arith) k r.0)) ∙ found_at es i e (omega arith) k r.1

pub stands_at : (x : List ℕ) (es : List ListEntry) (i : ℕ) (e : ListEntry) → i < length es → e ≡ get_or es i e → XidsRise es → e.xid ≡ x → StandsAt es x i
stands_at x es i e h k r is = record { entry = e; there = slice_get_read es (length es) i e refl h k; found = subst (λ y. entry_of y es ≡ Some e) is (found_at es i e h k r) }

pub would_stand_at : (x : List ℕ) (es : List ListEntry) (i : ℕ) → i ≤ length es → AllBefore x (take i es) → AllBehind x (drop i es) → WouldStandAt es x i
would_stand_at x es i h b a = record { within = h; none = none_lacking x es (lacks_between x es i b a); before = b; behind = a }

-- ---- one more entry

all_insert : (P : ListEntry → Type 0) (es : List ListEntry) (at : ℕ) (e : ListEntry) → P e → AllByRecursion P es → AllByRecursion P (insert es at e)
all_insert P [] zero e new h = (new, tt)
all_insert P [] (suc at) e new h = (new, tt)
all_insert P (f ∷ es) zero e new h = (new, h)
all_insert P (f ∷ es) (suc at) e new h = (h.0, all_insert P es at e new h.1)

rises_between : (es : List ListEntry) (at : ℕ) (e : ListEntry) → XidsRise es → AllBefore e.xid (take at es) → AllBehind e.xid (drop at es) → XidsRise (insert es at e)
rises_between [] zero e rise before behind = (tt, tt)
rises_between [] (suc at) e rise before behind = (tt, tt)
rises_between (f ∷ es) zero e rise before behind = (behind, rise)
rises_between (f ∷ es) (suc at) e rise before behind = (all_insert (λ g. comes_before f.xid g.xid ≡ true) es at e before.0 rise.0, rises_between es at e rise.1 before.1 behind)

placed_between : (es : List ListEntry) (at : ℕ) (e : ListEntry) → AllBefore e.xid (take at es) → AllBehind e.xid (drop at es) → insert es at e ≡ placed_entry e es
placed_between [] zero e before behind = refl
placed_between [] (suc at) e before behind = refl
placed_between (f ∷ es) zero e before behind = sym (ap (λ b. cond b (e ∷ f ∷ es) (f ∷ placed_entry e es)) behind.0)
placed_between (f ∷ es) (suc at) e before behind =
    ap (λ (gs : List ListEntry). f ∷ gs) (placed_between es at e before.1 behind) ∙ sym (ap (λ b. cond b (e ∷ f ∷ es) (f ∷ placed_entry e es)) (not_before e.xid f.xid before.0))

pub rises_insert : (es : List ListEntry) (at : ℕ) (e : ListEntry) → XidsRise es → WouldStandAt es e.xid at → XidsRise (insert es at e)
rises_insert es at e rise w = rises_between es at e rise w.before w.behind

pub with_insert : (es : List ListEntry) (at : ℕ) (e : ListEntry) → WouldStandAt es e.xid at → insert es at e ≡ with_entry e es
with_insert es at e w = placed_between es at e w.before w.behind ∙ ap (placed_entry e) (sym (without_lacking e.xid es (lacks_if_none e.xid es w.none)))

-- ---- an entry that is there

some_is : (e f : ListEntry) → Some e ≡ Some f → e ≡ f
some_is e f h = cc

there_behind : (x : List ℕ) (es : List ListEntry) (at : ℕ) (e : ListEntry) → AllBehind x es → slice_get es at ≡ Some e → Before x e.xid
there_behind x [] at e h k = absurd (cc)
there_behind x (f ∷ es) zero e h k = ap (λ (g : ListEntry). comes_before x g.xid) (sym (some_is f e k)) ∙ h.0
there_behind x (f ∷ es) (suc at) e h k = there_behind x es at e h.1 k

all_lack : (x : List ℕ) (es : List ListEntry) → AllBehind x es → Lacks x es
all_lack x [] h = tt
all_lack x (e ∷ es) h = (behind_differs e.xid x h.0, all_lack x es h.1)

-- the first of the entries is the one of its xid
without_first : (x : List ℕ) (f : ListEntry) (es : List ListEntry) → f.xid ≡ x → AllBehind f.xid es → without_entry x (f ∷ es) ≡ es
without_first x f es is h =
    ap (λ b. cond (not b) (f ∷ without_entry x es) (without_entry x es)) (ap (λ y. same y x) is ∙ same_self x) ∙ without_lacking x es (all_lack x es (subst (λ y. AllBehind y es) is h))

without_later : (x : List ℕ) (f : ListEntry) (es : List ListEntry) → Before f.xid x → without_entry x (f ∷ es) ≡ f ∷ without_entry x es
without_later x f es h = ap (λ b. cond (not b) (f ∷ without_entry x es) (without_entry x es)) (before_differs f.xid x h)

removed : (x : List ℕ) (es : List ListEntry) (at : ℕ) (e : ListEntry) → XidsRise es → slice_get es at ≡ Some e → e.xid ≡ x → remove es at ≡ without_entry x es
removed x [] at e r k is = absurd (cc)
removed x (f ∷ es) zero e r k is = sym (without_first x f es (ap (λ (g : ListEntry). g.xid) (some_is f e k) ∙ is) r.0)
removed x (f ∷ es) (suc at) e r k is =
    ap (λ (gs : List ListEntry). f ∷ gs) (removed x es at e r.1 k is) ∙ sym (without_later x f es (subst (λ y. Before f.xid y) is (there_behind f.xid es at e r.0 k)))

pub without_remove : (x : List ℕ) (es : List ListEntry) (at : ℕ) → XidsRise es → StandsAt es x at → remove es at ≡ without_entry x es
without_remove x es at r s = removed x es at s.entry r s.there (found_xid x s.entry es s.found)

all_removed : (P : ListEntry → Type 0) (es : List ListEntry) (at : ℕ) → AllByRecursion P es → AllByRecursion P (remove es at)
all_removed P [] zero h = tt
all_removed P [] (suc at) h = tt
all_removed P (e ∷ es) zero h = h.1
all_removed P (e ∷ es) (suc at) h = (h.0, all_removed P es at h.1)

pub rises_remove : (es : List ListEntry) (at : ℕ) → XidsRise es → XidsRise (remove es at)
rises_remove [] zero h = tt
rises_remove [] (suc at) h = tt
rises_remove (e ∷ es) zero h = h.1
rises_remove (e ∷ es) (suc at) h = (all_removed (λ f. comes_before e.xid f.xid ≡ true) es at h.0, rises_remove es at h.1)

-- ---- an entry that changes its state

placed_first : (e : ListEntry) (es : List ListEntry) → AllBehind e.xid es → placed_entry e es ≡ e ∷ es
placed_first e [] h = refl
placed_first e (f ∷ es) h = ap (λ b. cond b (e ∷ f ∷ es) (f ∷ placed_entry e es)) h.0

replaced : (es : List ListEntry) (at : ℕ) (e n : ListEntry) → XidsRise es → slice_get es at ≡ Some e → e.xid ≡ n.xid → set es at n ≡ with_entry n es
replaced [] at e n r k is = absurd (cc)
replaced (f ∷ es) zero e n r k is =
    let own : f.xid ≡ n.xid = ap (λ (g : ListEntry). g.xid) (some_is f e k) ∙ is in
    sym (ap (placed_entry n) (without_first n.xid f es own r.0) ∙ placed_first n es (subst (λ y. AllBehind y es) own r.0))
replaced (f ∷ es) (suc at) e n r k is =
    let before : Before f.xid n.xid = subst (λ y. Before f.xid y) is (there_behind f.xid es at e r.0 k) in
    ap (λ (gs : List ListEntry). f ∷ gs) (replaced es at e n r.1 k is)
    ∙ sym (ap (placed_entry n) (without_later n.xid f es before) ∙ ap (λ b. cond b (n ∷ f ∷ without_entry n.xid es) (f ∷ placed_entry n (without_entry n.xid es))) (not_before n.xid f.xid before))

pub with_set : (x : List ℕ) (es : List ListEntry) (at : ℕ) (n : ListEntry) → XidsRise es → StandsAt es x at → n.xid ≡ x → set es at n ≡ with_entry n es
with_set x es at n r s is = replaced es at s.entry n r s.there (found_xid x s.entry es s.found ∙ sym is)

all_set : (P : ListEntry → Type 0) (es : List ListEntry) (at : ℕ) (n : ListEntry) → P n → AllByRecursion P es → AllByRecursion P (set es at n)
all_set P [] at n p h = tt
all_set P (e ∷ es) zero n p h = (p, h.1)
all_set P (e ∷ es) (suc at) n p h = (h.0, all_set P es at n p h.1)

rises_replaced : (es : List ListEntry) (at : ℕ) (e n : ListEntry) → XidsRise es → slice_get es at ≡ Some e → e.xid ≡ n.xid → XidsRise (set es at n)
rises_replaced [] at e n r k is = tt
rises_replaced (f ∷ es) zero e n r k is = (subst (λ y. AllBehind y es) (ap (λ (g : ListEntry). g.xid) (some_is f e k) ∙ is) r.0, r.1)
rises_replaced (f ∷ es) (suc at) e n r k is =
    (all_set (λ g. comes_before f.xid g.xid ≡ true) es at n (subst (λ y. Before f.xid y) is (there_behind f.xid es at e r.0 k)) r.0, rises_replaced es at e n r.1 k is)

pub rises_set : (x : List ℕ) (es : List ListEntry) (at : ℕ) (n : ListEntry) → XidsRise es → StandsAt es x at → n.xid ≡ x → XidsRise (set es at n)
rises_set x es at n r s is = rises_replaced es at s.entry n r s.there (found_xid x s.entry es s.found ∙ sym is)

pub there_is : (x : List ℕ) (es : List ListEntry) (at : ℕ) (e : ListEntry) → StandsAt es x at → e ≡ get_or es at e → entry_of x es ≡ Some e
there_is x es at e s k = s.found ∙ ap (λ (g : ListEntry). Some g) (sym (k ∙ get_or_from_slice_get es at s.entry e s.there))

pub with_decided : (x : List ℕ) (es : List ListEntry) (at : ℕ) (e : ListEntry) (s t : ListState) → XidsRise es → StandsAt es x at → e ≡ get_or es at e → s ≡ t
    → IfSome (entry_of x es) (λ f. set es at (record e { state = s }) ≡ with_entry (record f { state = t }) es)
with_decided x es at e s t r p k is =
    let found : entry_of x es ≡ Some e = there_is x es at e p k in
    subst (λ o. IfSome o (λ f. set es at (record e { state = s }) ≡ with_entry (record f { state = t }) es)) (sym found)
    (ap (λ u. set es at (record e { state = u })) is ∙ with_set x es at (record e { state = t }) r p (found_xid x e es found))

pub rises_decided : (x : List ℕ) (es : List ListEntry) (at : ℕ) (e : ListEntry) (s : ListState) → XidsRise es → StandsAt es x at → e ≡ get_or es at e → XidsRise (set es at (record e { state = s }))
rises_decided x es at e s r p k = rises_set x es at (record e { state = s }) r p (found_xid x e es (there_is x es at e p k))

-- ---- what is held

left_by : (rid : ℕ) (hs gs : List Held) (o : Option Held) (r : Result Held EnqFault) → held_at rid hs ≡ o → r ≡ removed_of o → IfOk r (λ _. gs ≡ without rid hs) → IfErr r (λ _. gs ≡ hs) → gs ≡ without rid hs
left_by rid hs gs o (Ok h) k e l n = l
left_by rid hs gs None (Err f) k e l n = n ∙ sym (without_none rid hs k)
left_by rid hs gs (Some h) (Err f) k e l n = absurd (cc)

-- the enqueue of the entry is held no more
pub left_held : (x : List ℕ) (es : List ListEntry) (at : ℕ) (e : ListEntry) (hs gs : List Held) (r : Result Held EnqFault) → StandsAt es x at → e ≡ get_or es at e
    → r ≡ removed_of (held_at e.rid hs) → IfOk r (λ _. gs ≡ without e.rid hs) → IfErr r (λ _. gs ≡ hs) → gs ≡ held_without (entry_of x es) hs
left_held x es at e hs gs r p k a l n = left_by e.rid hs gs (held_at e.rid hs) r refl a l n ∙ ap (λ o. held_without o hs) (sym (there_is x es at e p k))

pub without_absent : (x : List ℕ) (es : List ListEntry) (at : ℕ) → WouldStandAt es x at → es ≡ without_entry x es
without_absent x es at w = sym (without_lacking x es (lacks_if_none x es w.none))
