-- Slots by rising id: what a look-up finds, and what a change of one slot changes.
use Rattle.std.proofs.Common.{◌≡◌, ℕ, zero, suc, ◌+◌, ◌<◌, ◌≤◌, Bool, true, false, not, ◌==◌, nat_eq, cond, List, [], ◌∷◌, length, take, Option, Some, None, is_some, refl, ap, sym, subst, ◌∙◌, arith}
use Rattle.std.specs.List.{cons_option}
use Rattle.std.specs.Map.{lookup, lookup_key, set_value}
use Rattle.qls_model.specs.declared.machine.Status.{Status}
use Rattle.qls_enqmap.specs.declared.Held.{Held}
use Rattle.qls_enqmap.specs.Records.{held_at, with_status, without}
use Rattle.qls_enqmap.specs.Slots.{Slots, held_in, occupied, none_of, HasRid, RisesFrom, FilesRise}

-- ---- a slot of another id is passed over

abbrev pub Other : ℕ → Option Held → Type 0
Other rid None = Unit {0}
Other rid (Some h) = (h.rid == rid) ≡ false

differ : (a b : ℕ) → a < b → (a == b) ≡ false
differ a b h = grind arith

pub other_above : (rid k : ℕ) (v : Option Held) → rid < k → HasRid k v → Other rid v
other_above rid k None l h = tt
other_above rid k (Some h) l e = grind arith

pub other_below : (rid k : ℕ) (v : Option Held) → k < rid → HasRid k v → Other rid v
other_below rid k None l h = tt
other_below rid k (Some h) l e = grind arith

find_skip : (rid : ℕ) (v : Option Held) (hs : List Held) → Other rid v → held_at rid (cons_option v hs) ≡ held_at rid hs
find_skip rid None hs o = refl
find_skip rid (Some h) hs o = ap (λ b. cond b (Some h) (held_at rid hs)) o

without_skip : (rid : ℕ) (v : Option Held) (hs : List Held) → Other rid v → without rid (cons_option v hs) ≡ cons_option v (without rid hs)
without_skip rid None hs o = refl
without_skip rid (Some h) hs o = ap (λ b. cond (not b) (h ∷ without rid hs) (without rid hs)) o

status_skip : (rid : ℕ) (s : Status) (v : Option Held) (hs : List Held) → Other rid v → with_status rid s (cons_option v hs) ≡ cons_option v (with_status rid s hs)
status_skip rid s None hs o = refl
status_skip rid s (Some h) hs o = ap (λ b. cond b (record h { status = s }) h ∷ with_status rid s hs) o

-- ---- ids below the first

find_below : (rid n : ℕ) (es : Slots) → rid < n → RisesFrom n es → held_at rid (held_in es) ≡ None
find_below rid n [] l r = refl
find_below rid n (e ∷ es) l r =
    find_skip rid e.1 (held_in es) (other_above rid e.0 e.1 (omega (arith, r.0)) r.1) ∙ find_below rid (e.0 + 1) es (omega (arith, r.0)) r.2

without_below : (rid n : ℕ) (es : Slots) → rid < n → RisesFrom n es → without rid (held_in es) ≡ held_in es
without_below rid n [] l r = refl
without_below rid n (e ∷ es) l r =
    without_skip rid e.1 (held_in es) (other_above rid e.0 e.1 (omega (arith, r.0)) r.1) ∙ ap (λ hs. cons_option e.1 hs) (without_below rid (e.0 + 1) es (omega (arith, r.0)) r.2)

status_below : (rid n : ℕ) (s : Status) (es : Slots) → rid < n → RisesFrom n es → with_status rid s (held_in es) ≡ held_in es
status_below rid n s [] l r = refl
status_below rid n s (e ∷ es) l r =
    status_skip rid s e.1 (held_in es) (other_above rid e.0 e.1 (omega (arith, r.0)) r.1) ∙ ap (λ hs. cons_option e.1 hs) (status_below rid (e.0 + 1) s es (omega (arith, r.0)) r.2)

-- ---- what a look-up by id finds

abbrev pub flat : Option (Option Held) → Option Held
flat None = None
flat (Some v) = v

same_nat : (a b : ℕ) → true ≡ nat_eq a b → a ≡ b
same_nat a b h = grind arith

other_nat : (rid k : ℕ) (v : Option Held) → false ≡ nat_eq rid k → HasRid k v → Other rid v
other_nat rid k None l h = tt
other_nat rid k (Some h) l e = grind arith

has_id : (rid k : ℕ) (h : Held) → true ≡ nat_eq rid k → h.rid ≡ k → (h.rid == rid) ≡ true
has_id rid k h e r = grind arith

just_above : (rid k : ℕ) → true ≡ nat_eq rid k → rid < k + 1
just_above rid k h = let e : rid ≡ k = same_nat rid k h in omega arith

found_by : (b : Bool) (rid k : ℕ) (v : Option Held) (es : Slots) → b ≡ nat_eq rid k → HasRid k v → RisesFrom (k + 1) es
    → held_at rid (held_in es) ≡ flat (lookup (nat_eq rid) es) → held_at rid (cons_option v (held_in es)) ≡ flat (cond b (Some v) (lookup (nat_eq rid) es))
found_by true rid k None es e h r i = find_below rid (k + 1) es (just_above rid k e) r
found_by true rid k (Some g) es e h r i = ap (λ b. cond b (Some g) (held_at rid (held_in es))) (has_id rid k g e h)
found_by false rid k v es e h r i = find_skip rid v (held_in es) (other_nat rid k v e h) ∙ i

pub found : (rid n : ℕ) (es : Slots) → RisesFrom n es → held_at rid (held_in es) ≡ flat (lookup (nat_eq rid) es)
found rid n [] r = refl
found rid n (e ∷ es) r = found_by (nat_eq rid e.0) rid e.0 e.1 es refl r.1 r.2 (found rid (e.0 + 1) es r.2)

-- ---- a record that goes out

emptied_by : (b : Bool) (rid k : ℕ) (v : Option Held) (es : Slots) → b ≡ nat_eq rid k → HasRid k v → RisesFrom (k + 1) es
    → held_in (set_value (nat_eq rid) es None) ≡ without rid (held_in es)
    → held_in (cond b ((k, None) ∷ es) ((k, v) ∷ set_value (nat_eq rid) es None)) ≡ without rid (cons_option v (held_in es))
emptied_by true rid k None es e h r i = sym (without_below rid (k + 1) es (just_above rid k e) r)
emptied_by true rid k (Some g) es e h r i =
    sym (ap (λ b. cond (not b) (g ∷ without rid (held_in es)) (without rid (held_in es))) (has_id rid k g e h) ∙ without_below rid (k + 1) es (just_above rid k e) r)
emptied_by false rid k v es e h r i = ap (λ hs. cons_option v hs) i ∙ sym (without_skip rid v (held_in es) (other_nat rid k v e h))

pub emptied : (rid n : ℕ) (es : Slots) → RisesFrom n es → held_in (set_value (nat_eq rid) es None) ≡ without rid (held_in es)
emptied rid n [] r = refl
emptied rid n (e ∷ es) r = emptied_by (nat_eq rid e.0) rid e.0 e.1 es refl r.1 r.2 (emptied rid (e.0 + 1) es r.2)

-- ---- a record whose status changes

status_by : (b : Bool) (rid k : ℕ) (s : Status) (v : Option Held) (h : Held) (es : Slots) → b ≡ nat_eq rid k → HasRid k v → RisesFrom (k + 1) es
    → cond b (Some v) (lookup (nat_eq rid) es) ≡ Some (Some h)
    → (lookup (nat_eq rid) es ≡ Some (Some h) → held_in (set_value (nat_eq rid) es (Some (record h { status = s }))) ≡ with_status rid s (held_in es))
    → held_in (cond b ((k, Some (record h { status = s })) ∷ es) ((k, v) ∷ set_value (nat_eq rid) es (Some (record h { status = s })))) ≡ with_status rid s (cons_option v (held_in es))
status_by true rid k s None h es e o r l i = absurd (cc)
status_by true rid k s (Some g) h es e o r l i =
    let q : g ≡ h = (cc) in
    ap {A = Held} (λ x. record x { status = s } ∷ held_in es) (sym q)
    ∙ sym (ap (λ b. cond b (record g { status = s }) g ∷ with_status rid s (held_in es)) (has_id rid k g e o)
    ∙ ap (λ hs. record g { status = s } ∷ hs) (status_below rid (k + 1) s es (just_above rid k e) r))
status_by false rid k s v h es e o r l i = ap (λ hs. cons_option v hs) (i l) ∙ sym (status_skip rid s v (held_in es) (other_nat rid k v e o))

pub status_set : (rid n : ℕ) (s : Status) (h : Held) (es : Slots) → RisesFrom n es → lookup (nat_eq rid) es ≡ Some (Some h)
    → held_in (set_value (nat_eq rid) es (Some (record h { status = s }))) ≡ with_status rid s (held_in es)
status_set rid n s h [] r l = absurd (cc)
status_set rid n s h (e ∷ es) r l = status_by (nat_eq rid e.0) rid e.0 s e.1 h es refl r.1 r.2 l (λ m. status_set rid (e.0 + 1) s h es r.2 m)

-- no status changes where there is no record of the id
pub status_none : (rid : ℕ) (s : Status) (hs : List Held) → held_at rid hs ≡ None → with_status rid s hs ≡ hs
status_none rid s [] h = refl
status_none rid s (g ∷ hs) h = none_by (g.rid == rid) g hs rid s h (λ m. status_none rid s hs m)
  where
    none_by : (b : Bool) (g : Held) (hs : List Held) (rid : ℕ) (s : Status) → cond b (Some g) (held_at rid hs) ≡ None → (held_at rid hs ≡ None → with_status rid s hs ≡ hs)
        → cond b (record g { status = s }) g ∷ with_status rid s hs ≡ g ∷ hs
    none_by true g hs rid s h i = absurd (cc)
    none_by false g hs rid s h i = ap (λ l. g ∷ l) (i h)

-- ---- the ids still rise

rises_by : (b : Bool) (rid n : ℕ) (k : ℕ) (v w : Option Held) (es : Slots) → b ≡ nat_eq rid k → n ≤ k → HasRid k v → RisesFrom (k + 1) es → HasRid rid w
    → RisesFrom (k + 1) (set_value (nat_eq rid) es w) → RisesFrom n (cond b ((k, w) ∷ es) ((k, v) ∷ set_value (nat_eq rid) es w))
rises_by true rid n k v w es e l h r o i = (l, subst (λ z. HasRid z w) (same_nat rid k e) o, r)
rises_by false rid n k v w es e l h r o i = (l, h, i)

pub rises_set : (rid n : ℕ) (w : Option Held) (es : Slots) → HasRid rid w → RisesFrom n es → RisesFrom n (set_value (nat_eq rid) es w)
rises_set rid n w [] o r = tt
rises_set rid n w (e ∷ es) o r = rises_by (nat_eq rid e.0) rid n e.0 e.1 w es refl r.0 r.1 r.2 o (rises_set rid (e.0 + 1) w es o r.2)

-- a record found has the id
pub found_rid : (rid n : ℕ) (h : Held) (es : Slots) → RisesFrom n es → lookup (nat_eq rid) es ≡ Some (Some h) → h.rid ≡ rid
found_rid rid n h [] r l = absurd (cc)
found_rid rid n h (e ∷ es) r l = rid_by (nat_eq rid e.0) rid e.0 e.1 h es refl r.1 l (λ m. found_rid rid (e.0 + 1) h es r.2 m)
  where
    rid_by : (b : Bool) (rid k : ℕ) (v : Option Held) (h : Held) (es : Slots) → b ≡ nat_eq rid k → HasRid k v → cond b (Some v) (lookup (nat_eq rid) es) ≡ Some (Some h)
        → (lookup (nat_eq rid) es ≡ Some (Some h) → h.rid ≡ rid) → h.rid ≡ rid
    rid_by true rid k None h es e o l i = absurd (cc)
    rid_by true rid k (Some g) h es e o l i = let q : g ≡ h = (cc) in ap (λ (x : Held). x.rid) (sym q) ∙ o ∙ sym (same_nat rid k e)
    rid_by false rid k v h es e o l i = i l

-- ---- which slots have a record

occupied_by : (b : Bool) (k : ℕ) (v : Option Held) (w h : Held) (rest : Option (Option Held)) (es fs : Slots) → cond b (Some v) rest ≡ Some (Some h)
    → (rest ≡ Some (Some h) → occupied fs ≡ occupied es) → occupied (cond b ((k, Some w) ∷ es) ((k, v) ∷ fs)) ≡ is_some v ∷ occupied es
occupied_by true k None w h rest es fs l i = absurd (cc)
occupied_by true k (Some g) w h rest es fs l i = refl
occupied_by false k v w h rest es fs l i = ap (λ bs. is_some v ∷ bs) (i l)

pub occupied_set : (test : ℕ → Bool) (w h : Held) (es : Slots) → lookup test es ≡ Some (Some h) → occupied (set_value test es (Some w)) ≡ occupied es
occupied_set test w h [] l = refl
occupied_set test w h (e ∷ es) l = occupied_by (test e.0) e.0 e.1 w h (lookup test es) es (set_value test es (Some w)) l (λ m. occupied_set test w h es m)

none_rest : (b : Bool) (bs : List Bool) → none_of (b ∷ bs) ≡ true → none_of bs ≡ true
none_rest true bs h = absurd (cc)
none_rest false bs h = h

none_head : (b : Bool) (bs cs : List Bool) → none_of (b ∷ bs) ≡ true → (none_of bs ≡ true → none_of cs ≡ true) → none_of (b ∷ cs) ≡ true
none_head true bs cs h f = absurd (cc)
none_head false bs cs h f = f h

none_by : (b : Bool) (k : ℕ) (v : Option Held) (n : ℕ) (es fs : Slots) → none_of (is_some v ∷ take n (occupied es)) ≡ true
    → (none_of (take n (occupied es)) ≡ true → none_of (take n (occupied fs)) ≡ true)
    → none_of (take (suc n) (occupied (cond b ((k, None) ∷ es) ((k, v) ∷ fs)))) ≡ true
none_by true k v n es fs h i = none_rest (is_some v) (take n (occupied es)) h
none_by false k v n es fs h i = none_head (is_some v) (take n (occupied es)) (take n (occupied fs)) h i

-- holes stay holes where a record goes out
pub holes_set : (test : ℕ → Bool) (n : ℕ) (es : Slots) → none_of (take n (occupied es)) ≡ true → none_of (take n (occupied (set_value test es None))) ≡ true
holes_set test zero es h = refl
holes_set test (suc n) [] h = refl
holes_set test (suc n) (e ∷ es) h = none_by (test e.0) e.0 e.1 n es (set_value test es None) h (λ m. holes_set test n es m)

-- ---- how many

fewer_by : (b : Bool) (k : ℕ) (v : Option Held) (h : Held) (rest : Option (Option Held)) (es fs : Slots) → cond b (Some v) rest ≡ Some (Some h)
    → (rest ≡ Some (Some h) → suc (length (held_in fs)) ≡ length (held_in es))
    → suc (length (held_in (cond b ((k, None) ∷ es) ((k, v) ∷ fs)))) ≡ length (cons_option v (held_in es))
fewer_by true k None h rest es fs l i = absurd (cc)
fewer_by true k (Some g) h rest es fs l i = refl
fewer_by false k None h rest es fs l i = i l
fewer_by false k (Some g) h rest es fs l i = ap suc (i l)

pub fewer_set : (test : ℕ → Bool) (h : Held) (es : Slots) → lookup test es ≡ Some (Some h) → suc (length (held_in (set_value test es None))) ≡ length (held_in es)
fewer_set test h [] l = absurd (cc)
fewer_set test h (e ∷ es) l = fewer_by (test e.0) e.0 e.1 h (lookup test es) es (set_value test es None) l (λ m. fewer_set test h es m)

-- ---- files

status_file : (b : Bool) (s : Status) (h : Held) → (cond b (record h { status = s }) h).file ≡ h.file
status_file true s h = refl
status_file false s h = refl

pub files_status : (file rid : ℕ) (s : Status) (hs : List Held) → FilesRise file hs → FilesRise file (with_status rid s hs)
files_status file rid s [] r = tt
files_status file rid s (h ∷ hs) r =
    let e = status_file (h.rid == rid) s h in
    (subst (λ f. file ≤ f) (sym e) r.0, subst (λ f. FilesRise f (with_status rid s hs)) (sym e) (files_status h.file rid s hs r.1))

files_from : (f g : ℕ) (hs : List Held) → f ≤ g → FilesRise g hs → FilesRise f hs
files_from f g [] l r = tt
files_from f g (h ∷ hs) l r = (omega (arith, r.0), r.1)

without_by : (b : Bool) (file : ℕ) (h : Held) (hs gs : List Held) → file ≤ h.file → FilesRise h.file hs → (FilesRise h.file hs → FilesRise h.file gs) → FilesRise file (cond (not b) (h ∷ gs) gs)
without_by true file h hs gs l r i = files_from file h.file gs l (i r)
without_by false file h hs gs l r i = (l, i r)

pub files_without : (file rid : ℕ) (hs : List Held) → FilesRise file hs → FilesRise file (without rid hs)
files_without file rid [] r = tt
files_without file rid (h ∷ hs) r = without_by (h.rid == rid) file h hs (without rid hs) r.0 r.1 (λ q. files_without h.file rid hs q)

key_by : (b : Bool) (rid k e : ℕ) (o : Option ℕ) → b ≡ nat_eq rid e → Some k ≡ cond b (Some e) o → (Some k ≡ o → k ≡ rid) → k ≡ rid
key_by true rid k e o b h i = let q : k ≡ e = (cc) in q ∙ sym (same_nat rid e b)
key_by false rid k e o b h i = i h

-- a key that is found is the id
pub key_found : (rid k : ℕ) (es : Slots) → Some k ≡ lookup_key (nat_eq rid) es → k ≡ rid
key_found rid k [] h = absurd (cc)
key_found rid k (e ∷ es) h = key_by (nat_eq rid e.0) rid k e.0 (lookup_key (nat_eq rid) es) refl h (λ g. key_found rid k es g)
