-- The slots after one was written.
use Rattle.std.proofs.Common.{◌≡◌, ℕ, ◌+◌, Bool, true, false, not, ◌==◌, nat_eq, cond, List, [], ◌∷◌, length, take, Option, Some, None, is_some, IfNone, IfSome, refl, ap, sym, subst, ◌∙◌, arith}
use Rattle.std.specs.Map.{lookup, set_value}
use Rattle.std.proofs.lemmas.Map.{length-set_value}
use Rattle.std.proofs.lemmas.Map.Steps.{set_value_same}
use Rattle.qls_model.specs.declared.machine.Status.{Status}
use Rattle.qls_enqmap.specs.declared.Held.{Held}
use Rattle.qls_enqmap.specs.Records.{held_at, with_status, without}
use Rattle.qls_enqmap.specs.Slots.{Slots, held_in, occupied, none_of, restatus, RisesFrom, before, IsSlotOf, Loses}
use Rattle.qls_enqmap.proofs.Blocking.{before_same, loses_slot}
use Rattle.qls_enqmap.proofs.Rising.{flat, found, found_rid, emptied, status_set, status_none, rises_set, occupied_set, holes_set, fewer_set}

-- ---- a status is written

pub record AfterStatus (rid : ℕ) (s : Status) (es us : Slots) : Type 0 where
  pub set : held_in us ≡ with_status rid s (held_in es)
  pub rises : RisesFrom 0 us
  pub occupied : occupied us ≡ occupied es
  pub long : length us ≡ length es
  pub before : (n : ℕ) → before us n ≡ before es n

unchanged : (rid : ℕ) (s : Status) (es : Slots) → RisesFrom 0 es → held_at rid (held_in es) ≡ None → AfterStatus rid s es es
unchanged rid s es r n = record { set = sym (status_none rid s (held_in es) n); rises = r; occupied = refl; long = refl; before = λ m. refl }

pub no_status : (rid : ℕ) (s : Status) (es us : Slots) → RisesFrom 0 es → None ≡ lookup (nat_eq rid) es → us ≡ es → AfterStatus rid s es us
no_status rid s es us r l u = subst (λ x. AfterStatus rid s es x) (sym u) (unchanged rid s es r (found rid 0 es r ∙ ap flat (sym l)))

pub status_written : (rid : ℕ) (s : Status) (v w : Option Held) (es us : Slots) → RisesFrom 0 es → Some v ≡ lookup (nat_eq rid) es → w ≡ restatus s v
    → us ≡ set_value (nat_eq rid) es w → AfterStatus rid s es us
status_written rid s None w es us r l e u =
    let q = u ∙ ap (λ x. set_value (nat_eq rid) es x) e ∙ set_value_same (nat_eq rid) es None (sym l) in
    subst (λ x. AfterStatus rid s es x) (sym q) (unchanged rid s es r (found rid 0 es r ∙ ap flat (sym l)))
status_written rid s (Some h) w es us r l e u =
    let q = u ∙ ap (λ x. set_value (nat_eq rid) es x) e in
    subst (λ x. AfterStatus rid s es x) (sym q) (record {
      set = status_set rid 0 s h es r (sym l);
      rises = rises_set rid 0 (Some (record h { status = s })) es (found_rid rid 0 h es r (sym l)) r;
      occupied = occupied_set (nat_eq rid) (record h { status = s }) h es (sym l);
      long = length-set_value (nat_eq rid) es (Some (record h { status = s }));
      before = λ n. before_same (set_value (nat_eq rid) es (Some (record h { status = s }))) es n (occupied_set (nat_eq rid) (record h { status = s }) h es (sym l));
    })

-- ---- a record is taken out

pub record AfterTake (rid : ℕ) (o : Option Held) (es us : Slots) : Type 0 where
  pub found : o ≡ held_at rid (held_in es)
  pub left : held_in us ≡ without rid (held_in es)
  pub rises : RisesFrom 0 us
  pub holes : (n : ℕ) → none_of (take n (occupied es)) ≡ true → none_of (take n (occupied us)) ≡ true
  pub long : length us ≡ length es
  pub unknown : IfNone o (us ≡ es)
  pub loses : IfSome o (λ _. (p : ℕ) → IsSlotOf es p rid → Loses es us p)
  pub fewer : length (held_in us) + cond (is_some o) 1 0 ≡ length (held_in es)

without_by : (b : Bool) (h : Held) (hs gs : List Held) (rid : ℕ) → cond b (Some h) (held_at rid hs) ≡ None → (held_at rid hs ≡ None → gs ≡ hs) → cond (not b) (h ∷ gs) gs ≡ h ∷ hs
without_by true h hs gs rid n i = absurd (cc)
without_by false h hs gs rid n i = ap (λ l. h ∷ l) (i n)

pub without_none : (rid : ℕ) (hs : List Held) → held_at rid hs ≡ None → without rid hs ≡ hs
without_none rid [] n = refl
without_none rid (h ∷ hs) n = without_by (h.rid == rid) h hs (without rid hs) rid n (λ m. without_none rid hs m)

nothing_taken : (rid : ℕ) (es : Slots) → RisesFrom 0 es → held_at rid (held_in es) ≡ None → AfterTake rid None es es
nothing_taken rid es r n = record {
  found = sym n;
  left = sym (without_none rid (held_in es) n);
  rises = r;
  holes = λ k h. h;
  long = refl;
  unknown = refl;
  loses = tt;
  fewer = omega arith;
}

pub none_taken : (rid : ℕ) (es us : Slots) → RisesFrom 0 es → None ≡ lookup (nat_eq rid) es → us ≡ es → AfterTake rid None es us
none_taken rid es us r l u = subst (λ x. AfterTake rid None es x) (sym u) (nothing_taken rid es r (found rid 0 es r ∙ ap flat (sym l)))

pub taken_out : (rid : ℕ) (v w : Option Held) (es us : Slots) → RisesFrom 0 es → Some v ≡ lookup (nat_eq rid) es → w ≡ None
    → us ≡ set_value (nat_eq rid) es w → AfterTake rid v es us
taken_out rid None w es us r l e u =
    let q = u ∙ ap (λ x. set_value (nat_eq rid) es x) e ∙ set_value_same (nat_eq rid) es None (sym l) in
    subst (λ x. AfterTake rid None es x) (sym q) (nothing_taken rid es r (found rid 0 es r ∙ ap flat (sym l)))
taken_out rid (Some h) w es us r l e u =
    let q = u ∙ ap (λ x. set_value (nat_eq rid) es x) e in
    subst (λ x. AfterTake rid (Some h) es x) (sym q) (record {
      found = sym (found rid 0 es r ∙ ap flat (sym l));
      left = emptied rid 0 es r;
      rises = rises_set rid 0 None es tt r;
      holes = λ n k. holes_set (nat_eq rid) n es k;
      long = length-set_value (nat_eq rid) es None;
      unknown = tt;
      loses = loses_slot rid h es (set_value (nat_eq rid) es None) r (sym l) refl;
      fewer = omega (arith, fewer_set (nat_eq rid) h es (sym l));
    })
