-- What holds of the entries stays so: as one more is put in its place, as one is decided, and without some.
use Rattle.std.proofs.Common.{◌≡◌, ℕ, Bool, true, false, not, cond, ◌||◌, ◌==◌, List, [], ◌∷◌, map, Some, refl, sym, ap, ◌∙◌, subst, arith}
use Rattle.std.proofs.lemmas.Bool.Decides.{nat_tests}
use Rattle.std.proofs.lemmas.Cmp.{nat_list_cmp_total}
use Rattle.std.specs.List.{AllByRecursion, filter, list_any}
use Rattle.std.specs.declared.cmp.Ordering.TheVariants.{Less}
use Rattle.std.specs.Ordering.{nat_cmp, is_lt, ordering_reverse}
use Rattle.std.specs.Cmp.Lexicographic.{slice_cmp}
use Rattle.qls_model.specs.Bytes.{same, comes_before}
use Rattle.qls_model.proofs.XidKeys.{same_true}
use Rattle.qls_decide.specs.declared.ListEntry.{ListEntry}
use Rattle.qls_decide.specs.declared.ListState.{ListState}
use Rattle.qls_decide.specs.Entries.{entry_of, without_entry, placed_entry, with_entry}
use Rattle.qls_laws.proofs.EntryOrder.{AllAfter, Sorted, Lacks, less_differs, is_less, sorted_filtered, sorted_with, without_lacking, found_xid}
use Rattle.qls_prepared.specs.Lists.{XidsRise, RidsDiffer}

-- ---- byte order

after_rise : (x : List ℕ) (es : List ListEntry) → AllByRecursion (λ f. comes_before x f.xid ≡ true) es → AllAfter x es
after_rise x [] h = tt
after_rise x (f ∷ es) h = (is_less (slice_cmp nat_cmp x f.xid) h.0, after_rise x es h.1)

rise_after : (x : List ℕ) (es : List ListEntry) → AllAfter x es → AllByRecursion (λ f. comes_before x f.xid ≡ true) es
rise_after x [] h = tt
rise_after x (f ∷ es) h = (ap is_lt h.0, rise_after x es h.1)

pub sorted_rise : (es : List ListEntry) → XidsRise es → Sorted es
sorted_rise [] h = tt
sorted_rise (e ∷ es) h = (after_rise e.xid es h.0, sorted_rise es h.1)

pub rise_sorted : (es : List ListEntry) → Sorted es → XidsRise es
rise_sorted [] h = tt
rise_sorted (e ∷ es) h = (rise_after e.xid es h.0, rise_sorted es h.1)

-- ---- of each entry

pub all_kept : (P : ListEntry → Type 0) (t : ListEntry → Bool) (es : List ListEntry) → AllByRecursion P es → AllByRecursion P (filter t es)
all_kept P t [] h = tt
all_kept P t (e ∷ es) h = elim (t e) as (λ b. AllByRecursion P (cond b (e ∷ filter t es) (filter t es))) [ true ↦ (h.0, all_kept P t es h.1) | false ↦ all_kept P t es h.1 ]

pub all_placed : (P : ListEntry → Type 0) (e : ListEntry) (es : List ListEntry) → P e → AllByRecursion P es → AllByRecursion P (placed_entry e es)
all_placed P e [] p h = (p, tt)
all_placed P e (f ∷ es) p h =
    elim (comes_before e.xid f.xid) as (λ b. AllByRecursion P (cond b (e ∷ f ∷ es) (f ∷ placed_entry e es))) [ true ↦ (p, h) | false ↦ (h.0, all_placed P e es p h.1) ]

pub all_with : (P : ListEntry → Type 0) (e : ListEntry) (es : List ListEntry) → P e → AllByRecursion P es → AllByRecursion P (with_entry e es)
all_with P e es p h = all_placed P e (without_entry e.xid es) p (all_kept P (λ f. not (same f.xid e.xid)) es h)

pub some_is : (e f : ListEntry) → Some e ≡ Some f → e ≡ f
some_is e f h = cc

pub all_found : (P : ListEntry → Type 0) (x : List ℕ) (e : ListEntry) (es : List ListEntry) → AllByRecursion P es → entry_of x es ≡ Some e → P e
all_found P x e [] h k = absurd (cc)
all_found P x e (f ∷ es) h k = by (same f.xid x) k (all_found P x e es h.1)
  where
    by : (b : Bool) → cond b (Some f) (entry_of x es) ≡ Some e → (entry_of x es ≡ Some e → P e) → P e
    by true k rest = subst P (some_is f e k) h.0
    by false k rest = rest k

-- ---- record ids

apart_turned : (m n : ℕ) → (m == n) ≡ false → (n == m) ≡ false
apart_turned m n e = grind (arith, nat_tests, e)

pub differ_kept : (t : ListEntry → Bool) (es : List ListEntry) → RidsDiffer es → RidsDiffer (filter t es)
differ_kept t [] h = tt
differ_kept t (e ∷ es) h =
    elim (t e) as (λ b. RidsDiffer (cond b (e ∷ filter t es) (filter t es))) [ true ↦ (all_kept (λ f. (f.rid == e.rid) ≡ false) t es h.0, differ_kept t es h.1) | false ↦ differ_kept t es h.1 ]

differ_placed : (e : ListEntry) (es : List ListEntry) → AllByRecursion (λ f. (f.rid == e.rid) ≡ false) es → RidsDiffer es → RidsDiffer (placed_entry e es)
differ_placed e [] n h = (tt, tt)
differ_placed e (f ∷ es) n h =
    elim (comes_before e.xid f.xid) as (λ b. RidsDiffer (cond b (e ∷ f ∷ es) (f ∷ placed_entry e es))) [
      | true ↦ (n, h)
      | false ↦ (all_placed (λ g. (g.rid == f.rid) ≡ false) e es (apart_turned f.rid e.rid n.0) h.0, differ_placed e es n.1 h.1)
    ]

pub differ_with : (e : ListEntry) (es : List ListEntry) → AllByRecursion (λ f. (f.rid == e.rid) ≡ false) es → RidsDiffer es → RidsDiffer (with_entry e es)
differ_with e es n h =
    differ_placed e (without_entry e.xid es) (all_kept (λ f. (f.rid == e.rid) ≡ false) (λ f. not (same f.xid e.xid)) es n) (differ_kept (λ f. not (same f.xid e.xid)) es h)

-- ---- an entry that is decided stays where it is

abbrev pub stated : List ℕ → ListState → ListEntry → ListEntry
stated x s f = cond (same f.xid x) (record f { state = s }) f

pub all_later : (x : List ℕ) (es : List ListEntry) → AllAfter x es → Lacks x es
all_later x [] a = tt
all_later x (e ∷ es) a = (less_differs x e.xid a.0, all_later x es a.1)

none_stated : (x : List ℕ) (s : ListState) (es : List ListEntry) → Lacks x es → map (stated x s) es ≡ es
none_stated x s [] h = refl
none_stated x s (e ∷ es) h = ap (λ b. cond b (record e { state = s }) e ∷ map (stated x s) es) h.0 ∙ ap (λ (fs : List ListEntry). e ∷ fs) (none_stated x s es h.1)

-- before all that are behind it
placed_first : (e : ListEntry) (es : List ListEntry) → AllAfter e.xid es → placed_entry e es ≡ e ∷ es
placed_first e [] a = refl
placed_first e (f ∷ es) a = ap (λ c. cond (is_lt c) (e ∷ f ∷ es) (f ∷ placed_entry e es)) a.0

not_before : (x y : List ℕ) → slice_cmp nat_cmp x y ≡ Less → comes_before y x ≡ false
not_before x y e = ap is_lt (nat_list_cmp_total.antisymm y x ∙ ap ordering_reverse e)

decided_step : (x : List ℕ) (s : ListState) (f e : ListEntry) (es : List ListEntry) (b : Bool) → same f.xid x ≡ b → AllAfter f.xid es → cond b (Some f) (entry_of x es) ≡ Some e
    → (entry_of x es ≡ Some e → placed_entry (record e { state = s }) (without_entry x es) ≡ map (stated x s) es)
    → placed_entry (record e { state = s }) (cond (not b) (f ∷ without_entry x es) (without_entry x es)) ≡ cond b (record f { state = s }) f ∷ map (stated x s) es
decided_step x s f e es true k a h rest =
    let lacks : Lacks x es = all_later x es (subst (λ y. AllAfter y es) (same_true f.xid x k) a) in
    ap (λ (g : ListEntry). placed_entry (record g { state = s }) (without_entry x es)) (sym (some_is f e h)) ∙ ap (placed_entry (record f { state = s })) (without_lacking x es lacks)
    ∙ placed_first (record f { state = s }) es a ∙ ap (λ (gs : List ListEntry). (record f { state = s }) ∷ gs) (sym (none_stated x s es lacks))
decided_step x s f e es false k a h rest =
    let less : slice_cmp nat_cmp f.xid e.xid ≡ Less = all_found (λ g. slice_cmp nat_cmp f.xid g.xid ≡ Less) x e es a h in
    ap (λ b. cond b ((record e { state = s }) ∷ f ∷ without_entry x es) (f ∷ placed_entry (record e { state = s }) (without_entry x es))) (not_before f.xid e.xid less) ∙ ap (λ (gs : List ListEntry). f ∷ gs) (rest h)

placed_decided : (x : List ℕ) (s : ListState) (e : ListEntry) (es : List ListEntry) → Sorted es → entry_of x es ≡ Some e → placed_entry (record e { state = s }) (without_entry x es) ≡ map (stated x s) es
placed_decided x s e [] o h = absurd (cc)
placed_decided x s e (f ∷ es) o h = decided_step x s f e es (same f.xid x) refl o.0 h (placed_decided x s e es o.1)

pub decided_there : (x : List ℕ) (s : ListState) (e : ListEntry) (es : List ListEntry) → Sorted es → entry_of x es ≡ Some e → with_entry (record e { state = s }) es ≡ map (stated x s) es
decided_there x s e es o h = ap (λ y. placed_entry (record e { state = s }) (without_entry y es)) (found_xid x e es h) ∙ placed_decided x s e es o h

same_rid : (x : List ℕ) (s : ListState) (e : ListEntry) → (stated x s e).rid ≡ e.rid
same_rid x s e = elim (same e.xid x) as (λ b. (cond b (record e { state = s }) e).rid ≡ e.rid) [ true ↦ refl | false ↦ refl ]

-- the ids stay
pub rids_stated : (x : List ℕ) (s : ListState) (n : ℕ) (es : List ListEntry) → list_any (λ e. e.rid == n) (map (stated x s) es) ≡ list_any (λ e. e.rid == n) es
rids_stated x s n [] = refl
rids_stated x s n (e ∷ es) = ap (λ m. m == n || list_any (λ f. f.rid == n) (map (stated x s) es)) (same_rid x s e) ∙ ap (λ b. e.rid == n || b) (rids_stated x s n es)

all_stated : (P : ℕ → Type 0) (x : List ℕ) (s : ListState) (es : List ListEntry) → AllByRecursion (λ e. P e.rid) es → AllByRecursion (λ e. P e.rid) (map (stated x s) es)
all_stated P x s [] h = tt
all_stated P x s (e ∷ es) h = (subst P (sym (same_rid x s e)) h.0, all_stated P x s es h.1)

differ_stated : (x : List ℕ) (s : ListState) (es : List ListEntry) → RidsDiffer es → RidsDiffer (map (stated x s) es)
differ_stated x s [] h = tt
differ_stated x s (e ∷ es) h =
    (subst (λ n. AllByRecursion (λ f. (f.rid == n) ≡ false) (map (stated x s) es)) (sym (same_rid x s e)) (all_stated (λ n. (n == e.rid) ≡ false) x s es h.0), differ_stated x s es h.1)

pub differ_decided : (x : List ℕ) (s : ListState) (e : ListEntry) (es : List ListEntry) → XidsRise es → entry_of x es ≡ Some e → RidsDiffer es → RidsDiffer (with_entry (record e { state = s }) es)
differ_decided x s e es o h d = subst RidsDiffer (sym (decided_there x s e es (sorted_rise es o) h)) (differ_stated x s es d)

-- ---- the order of xids

pub rise_with : (e : ListEntry) (es : List ListEntry) → XidsRise es → XidsRise (with_entry e es)
rise_with e es h = rise_sorted (with_entry e es) (sorted_with e es (sorted_rise es h))

pub rise_kept : (t : ListEntry → Bool) (es : List ListEntry) → XidsRise es → XidsRise (filter t es)
rise_kept t es h = rise_sorted (filter t es) (sorted_filtered t es (sorted_rise es h))
