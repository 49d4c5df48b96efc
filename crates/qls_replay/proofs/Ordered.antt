-- Entries in byte order of xid, none twice: what a look-up finds in them, and that look-ups tell which they are.
use Rattle.std.proofs.Common.{◌≡◌, ℕ, Bool, true, false, not, cond, List, [], ◌∷◌, Option, Some, None, refl, ap, sym, subst, ◌∙◌}
use Rattle.std.specs.declared.cmp.Ordering.{Ordering}
use Rattle.std.specs.declared.cmp.Ordering.TheVariants.{Less, Equal, Greater}
use Rattle.std.specs.Ordering.{nat_cmp, is_eq, is_lt, ordering_reverse}
use Rattle.std.specs.Cmp.Lexicographic.{slice_cmp}
use Rattle.std.proofs.lemmas.Cmp.{nat_list_cmp_total}
use Rattle.std.proofs.lemmas.Map.Text.{is_eq-slice_cmp}
use Rattle.qls_model.specs.Bytes.{same}
use Rattle.qls_model.proofs.XidKeys.{same_true, same_self}
use Rattle.qls_decide.specs.declared.ListEntry.{ListEntry}
use Rattle.qls_decide.specs.Entries.{entry_of, without_entry, placed_entry, with_entry}
use Rattle.qls_replay.proofs.Agreeing.{same_turned}

-- each entry is behind this xid
abbrev pub AllAfter : List ℕ → List ListEntry → Type 0
AllAfter x [] = Unit {0}
AllAfter x (e ∷ es) = (slice_cmp nat_cmp x e.xid ≡ Less) × AllAfter x es

-- in byte order, none twice
abbrev pub InOrder : List ListEntry → Type 0
InOrder [] = Unit {0}
InOrder (e ∷ es) = AllAfter e.xid es × InOrder es

-- ---- xids

pub equal_xids : (x y : List ℕ) → Equal ≡ slice_cmp nat_cmp x y → x ≡ y
equal_xids x y e = same_true x y (sym (is_eq-slice_cmp x y) ∙ ap is_eq (sym e))

pub less_differs : (x y : List ℕ) → Less ≡ slice_cmp nat_cmp x y → same x y ≡ false
less_differs x y e = sym (is_eq-slice_cmp x y) ∙ ap is_eq (sym e)

turned_less : (x y : List ℕ) → Greater ≡ slice_cmp nat_cmp x y → Less ≡ slice_cmp nat_cmp y x
turned_less x y e = ap ordering_reverse e ∙ sym (nat_list_cmp_total.antisymm y x)

-- of two xids that differ, the one that isn't less is behind
pub behind : (x y : List ℕ) (c : Ordering) → c ≡ slice_cmp nat_cmp x y → is_lt c ≡ false → same x y ≡ false → slice_cmp nat_cmp y x ≡ Less
behind x y Less e l n = absurd (cc)
behind x y Equal e l n = let t : same x y ≡ true = sym (is_eq-slice_cmp x y) ∙ ap is_eq (sym e) in absurd (cc)
behind x y Greater e l n = sym (turned_less x y e)

-- an xid that is found is one's own
passes : (x y : List ℕ) (b : Bool) → b ≡ same x y → b ≡ true → x ≡ y
passes x y b e t = same_true x y (sym e ∙ t)

-- ---- what an entry removed or put in its place leaves for look-ups

skipped : (b c : Bool) (f : ListEntry) (o p : Option ListEntry) → (b ≡ true → c ≡ false) → p ≡ cond c None o → cond b (Some f) p ≡ cond c None (cond b (Some f) o)
skipped true true f o p n e = absurd (let h = n refl in cc)
skipped true false f o p n e = refl
skipped false c f o p n e = e

differs_if_other : (k x y : List ℕ) → same y k ≡ false → same y x ≡ true → same k x ≡ false
differs_if_other k x y n t = ap (same k) (sym (same_true y x t)) ∙ same_turned k y ∙ n

dropped : (c d : Bool) (f : ListEntry) (o : Option ListEntry) → c ≡ d → cond c None o ≡ cond c None (cond d (Some f) o)
dropped true d f o h = refl
dropped false true f o h = absurd (cc)
dropped false false f o h = refl

without_by : (b : Bool) (k x : List ℕ) (f : ListEntry) (es : List ListEntry) → b ≡ same f.xid k
    → entry_of x (without_entry k es) ≡ cond (same k x) None (entry_of x es)
    → entry_of x (cond (not b) (f ∷ without_entry k es) (without_entry k es)) ≡ cond (same k x) None (entry_of x (f ∷ es))
without_by true k x f es e i = i ∙ dropped (same k x) (same f.xid x) f (entry_of x es) (ap (λ z. same z x) (sym (same_true f.xid k (sym e))))
without_by false k x f es e i = skipped (same f.xid x) (same k x) f (entry_of x es) (entry_of x (without_entry k es)) (differs_if_other k x f.xid (sym e)) i

none_either : (c : Bool) (o : Option ListEntry) → o ≡ None → o ≡ cond c None o
none_either true o h = h
none_either false o h = refl

pub found_without : (k x : List ℕ) (es : List ListEntry) → entry_of x (without_entry k es) ≡ cond (same k x) None (entry_of x es)
found_without k x [] = none_either (same k x) None refl
found_without k x (f ∷ es) = without_by (same f.xid k) k x f es refl (found_without k x es)

-- no entry is of this xid
pub none_without : (x : List ℕ) (es : List ListEntry) → entry_of x (without_entry x es) ≡ None
none_without x es = found_without x x es ∙ ap (λ b. cond b None (entry_of x es)) (same_self x)

first_two : (b c : Bool) (e f : ListEntry) (o : Option ListEntry) → (b ≡ true → c ≡ false) → cond b (Some f) (cond c (Some e) o) ≡ cond c (Some e) (cond b (Some f) o)
first_two true true e f o n = absurd (let h = n refl in cc)
first_two true false e f o n = refl
first_two false c e f o n = refl

none_ahead : (b : Bool) (f : ListEntry) (o : Option ListEntry) → cond b (Some f) o ≡ None → b ≡ false
none_ahead true f o h = absurd (cc)
none_ahead false f o h = refl

none_behind : (b : Bool) (f : ListEntry) (o : Option ListEntry) → cond b (Some f) o ≡ None → o ≡ None
none_behind true f o h = absurd (cc)
none_behind false f o h = h

placed_by : (l : Bool) (x : List ℕ) (e f : ListEntry) (es : List ListEntry) → same f.xid e.xid ≡ false
    → entry_of x (placed_entry e es) ≡ cond (same e.xid x) (Some e) (entry_of x es)
    → entry_of x (cond l (e ∷ f ∷ es) (f ∷ placed_entry e es)) ≡ cond (same e.xid x) (Some e) (entry_of x (f ∷ es))
placed_by true x e f es n i = refl
placed_by false x e f es n i = ap (cond (same f.xid x) (Some f)) i ∙ first_two (same f.xid x) (same e.xid x) e f (entry_of x es) (differs_if_other e.xid x f.xid n)

found_placed : (x : List ℕ) (e : ListEntry) (es : List ListEntry) → entry_of e.xid es ≡ None → entry_of x (placed_entry e es) ≡ cond (same e.xid x) (Some e) (entry_of x es)
found_placed x e [] n = refl
found_placed x e (f ∷ es) n =
    placed_by (is_lt (slice_cmp nat_cmp e.xid f.xid)) x e f es (none_ahead (same f.xid e.xid) f (entry_of e.xid es) n) (found_placed x e es (none_behind (same f.xid e.xid) f (entry_of e.xid es) n))

covered : (b : Bool) (e : ListEntry) (o : Option ListEntry) → cond b (Some e) (cond b None o) ≡ cond b (Some e) o
covered true e o = refl
covered false e o = refl

pub found_with : (x : List ℕ) (e : ListEntry) (es : List ListEntry) → entry_of x (with_entry e es) ≡ cond (same e.xid x) (Some e) (entry_of x es)
found_with x e es =
    found_placed x e (without_entry e.xid es) (none_without e.xid es) ∙ ap (cond (same e.xid x) (Some e)) (found_without e.xid x es) ∙ covered (same e.xid x) e (entry_of x es)

-- ---- order

pub later : (x y : List ℕ) (es : List ListEntry) → slice_cmp nat_cmp x y ≡ Less → AllAfter y es → AllAfter x es
later x y [] l a = tt
later x y (e ∷ es) l a = (nat_list_cmp_total.trans x y e.xid l a.0, later x y es l a.1)

after_kept : (b : Bool) (x : List ℕ) (f : ListEntry) (es : List ListEntry) → slice_cmp nat_cmp x f.xid ≡ Less → AllAfter x es → AllAfter x (cond b (f ∷ es) es)
after_kept true x f es l a = (l, a)
after_kept false x f es l a = a

after_without : (x k : List ℕ) (es : List ListEntry) → AllAfter x es → AllAfter x (without_entry k es)
after_without x k [] a = tt
after_without x k (f ∷ es) a = after_kept (not (same f.xid k)) x f (without_entry k es) a.0 (after_without x k es a.1)

kept_in_order : (b : Bool) (f : ListEntry) (es : List ListEntry) → AllAfter f.xid es → InOrder es → InOrder (cond b (f ∷ es) es)
kept_in_order true f es a o = (a, o)
kept_in_order false f es a o = o

pub ordered_without : (k : List ℕ) (es : List ListEntry) → InOrder es → InOrder (without_entry k es)
ordered_without k [] o = tt
ordered_without k (f ∷ es) o = kept_in_order (not (same f.xid k)) f (without_entry k es) (after_without f.xid k es o.0) (ordered_without k es o.1)

after_placed_by : (l : Bool) (x : List ℕ) (e f : ListEntry) (es ps : List ListEntry) → slice_cmp nat_cmp x e.xid ≡ Less → AllAfter x (f ∷ es) → AllAfter x ps → AllAfter x (cond l (e ∷ f ∷ es) (f ∷ ps))
after_placed_by true x e f es ps l a p = (l, a)
after_placed_by false x e f es ps l a p = (a.0, p)

after_placed : (x : List ℕ) (e : ListEntry) (es : List ListEntry) → slice_cmp nat_cmp x e.xid ≡ Less → AllAfter x es → AllAfter x (placed_entry e es)
after_placed x e [] l a = (l, tt)
after_placed x e (f ∷ es) l a = after_placed_by (is_lt (slice_cmp nat_cmp e.xid f.xid)) x e f es (placed_entry e es) l a (after_placed x e es l a.1)

is_less : (c : Ordering) → is_lt c ≡ true → c ≡ Less
is_less Less h = refl
is_less Equal h = absurd (cc)
is_less Greater h = absurd (cc)

ordered_by : (l : Bool) (e f : ListEntry) (es : List ListEntry) → l ≡ is_lt (slice_cmp nat_cmp e.xid f.xid) → same e.xid f.xid ≡ false → InOrder (f ∷ es) → InOrder (placed_entry e es) → InOrder (cond l (e ∷ f ∷ es) (f ∷ placed_entry e es))
ordered_by true e f es h n o p =
    let l = is_less (slice_cmp nat_cmp e.xid f.xid) (sym h) in
    ((l, later e.xid f.xid es l o.0), o)
ordered_by false e f es h n o p = (after_placed f.xid e es (behind e.xid f.xid (slice_cmp nat_cmp e.xid f.xid) refl (sym h) n) o.0, p)

ordered_placed : (e : ListEntry) (es : List ListEntry) → entry_of e.xid es ≡ None → InOrder es → InOrder (placed_entry e es)
ordered_placed e [] n o = (tt, tt)
ordered_placed e (f ∷ es) n o =
    ordered_by (is_lt (slice_cmp nat_cmp e.xid f.xid)) e f es refl (same_turned e.xid f.xid ∙ none_ahead (same f.xid e.xid) f (entry_of e.xid es) n) o
    (ordered_placed e es (none_behind (same f.xid e.xid) f (entry_of e.xid es) n) o.1)

pub ordered_with : (e : ListEntry) (es : List ListEntry) → InOrder es → InOrder (with_entry e es)
ordered_with e es o = ordered_placed e (without_entry e.xid es) (none_without e.xid es) (ordered_without e.xid es o)

-- ---- entries in order that look-ups can't tell apart are the same

none_after : (x : List ℕ) (es : List ListEntry) → AllAfter x es → entry_of x es ≡ None
none_after x [] a = refl
none_after x (f ∷ es) a =
    ap (λ b. cond b (Some f) (entry_of x es)) (same_turned f.xid x ∙ less_differs x f.xid (sym a.0)) ∙ none_after x es a.1

first_found : (e : ListEntry) (es : List ListEntry) → entry_of e.xid (e ∷ es) ≡ Some e
first_found e es = ap (λ b. cond b (Some e) (entry_of e.xid es)) (same_self e.xid)

rest_by : (b : Bool) (x : List ℕ) (e : ListEntry) (es fs : List ListEntry) → b ≡ same e.xid x → AllAfter e.xid es → AllAfter e.xid fs
    → cond b (Some e) (entry_of x es) ≡ cond b (Some e) (entry_of x fs) → entry_of x es ≡ entry_of x fs
rest_by true x e es fs h a b q =
    let s = same_true e.xid x (sym h) in
    none_after x es (subst (λ z. AllAfter z es) s a) ∙ sym (none_after x fs (subst (λ z. AllAfter z fs) s b))
rest_by false x e es fs h a b q = q

abbrev pub AsFound : List ListEntry → List ListEntry → Type 0
AsFound es fs = (x : List ℕ) → entry_of x es ≡ entry_of x fs

some_is : (e f : ListEntry) → Some e ≡ Some f → e ≡ f
some_is e f h = (cc)

not_both : (e : ListEntry) (o : Option ListEntry) → o ≡ Some e → o ≡ None → ⊥
not_both e o s n = (cc)

same_head : (c : Ordering) (e f : ListEntry) (es fs : List ListEntry) → c ≡ slice_cmp nat_cmp e.xid f.xid → AllAfter e.xid es → AllAfter f.xid fs → AsFound (e ∷ es) (f ∷ fs) → e ≡ f
same_head Less e f es fs h a b q =
    absurd (not_both e (entry_of e.xid (f ∷ fs)) (sym (q e.xid) ∙ first_found e es) (none_after e.xid (f ∷ fs) (sym h, later e.xid f.xid fs (sym h) b)))
same_head Equal e f es fs h a b q =
    some_is e f (sym (first_found e es) ∙ q e.xid ∙ ap (λ z. entry_of z (f ∷ fs)) (equal_xids e.xid f.xid h) ∙ first_found f fs)
same_head Greater e f es fs h a b q =
    let l = sym (turned_less e.xid f.xid h) in
    absurd (not_both f (entry_of f.xid (e ∷ es)) (q f.xid ∙ first_found f fs) (none_after f.xid (e ∷ es) (l, later f.xid e.xid es l a)))

pub same_entries : (es fs : List ListEntry) → InOrder es → InOrder fs → AsFound es fs → es ≡ fs
same_entries [] [] o p q = refl
same_entries [] (f ∷ fs) o p q = absurd (not_both f None (q f.xid ∙ first_found f fs) refl)
same_entries (e ∷ es) [] o p q = absurd (not_both e None (sym (q e.xid) ∙ first_found e es) refl)
same_entries (e ∷ es) (f ∷ fs) o p q =
    let h = same_head (slice_cmp nat_cmp e.xid f.xid) e f es fs refl o.0 p.0 q in
    let b : AllAfter e.xid fs = subst (λ z. AllAfter z fs) (ap (λ z. z.xid) (sym h)) p.0 in
    let t : AsFound es fs = λ x. rest_by (same e.xid x) x e es fs refl o.0 b (q x ∙ ap (λ z. entry_of x (z ∷ fs)) (sym h)) in
    ap (λ l. e ∷ l) (same_entries es fs o.1 p.1 t) ∙ ap (λ z. z ∷ fs) h
