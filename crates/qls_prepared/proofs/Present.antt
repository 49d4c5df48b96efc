-- Entries that there are: their xids, and the log that has them.
use Rattle.std.proofs.Common.{◌≡◌, ℕ, ◌<◌, Bool, true, false, cond, List, [], ◌∷◌, length, Option, Some, None, IfSome, refl, sym, ap, ◌∙◌, subst, arith}
use Rattle.std.specs.List.{AllByRecursion}
use Rattle.qls_model.specs.Bytes.{same}
use Rattle.qls_model.proofs.XidKeys.{same_true}
use Rattle.qls_record.specs.Record.{Record}
use Rattle.qls_decide.specs.declared.ListEntry.{ListEntry}
use Rattle.qls_decide.specs.declared.ListState.{ListState}
use Rattle.qls_decide.specs.Entries.{entry_of, state_of}
use Rattle.qls_log.specs.Logs.{LogState}
use Rattle.qls_prepared.specs.Lists.{IsXid, IsBegun, MayEnd}
use Rattle.qls_prepared.specs.Writing.{FitsFirst}
use Rattle.qls_prepared.proofs.Kept.{all_found}

first_xid : (x : List ℕ) (e f : ListEntry) (b : Bool) (rest : Option ListEntry) → same f.xid x ≡ b → (rest ≡ Some e → e.xid ≡ x) → cond b (Some f) rest ≡ Some e → e.xid ≡ x
first_xid x e f true rest k more h =
    let is : f ≡ e = cc in
    subst (λ (g : ListEntry). g.xid ≡ x) is (same_true f.xid x k)
first_xid x e f false rest k more h = more h

pub found_xid : (x : List ℕ) (e : ListEntry) (es : List ListEntry) → entry_of x es ≡ Some e → e.xid ≡ x
found_xid x e [] h = absurd (cc)
found_xid x e (f ∷ es) h = first_xid x e f (same f.xid x) (entry_of x es) refl (found_xid x e es) h

pub entry_xid : (x : List ℕ) (e : ListEntry) (es : List ListEntry) → AllByRecursion (λ f. IsXid f.xid) es → entry_of x es ≡ Some e → IsXid x
entry_xid x e es h found = subst IsXid (found_xid x e es found) (all_found (λ f. IsXid f.xid) x e es h found)

pub first_some : (log : Option LogState) (rs : List Record) (x : List ℕ) (e : ListEntry) (es : List ListEntry) → IsBegun log es → entry_of x es ≡ Some e → FitsFirst log rs
first_some (Some l) rs x e es begun found = tt
first_some None rs x e es begun found =
    let none : None ≡ Some e = ap (entry_of x) (sym begun) ∙ found in
    absurd (cc)

-- ---- an entry in a state

pub record Present (x : List ℕ) (es : List ListEntry) : Type 0 where
  pub entry : ListEntry
  pub is : entry_of x es ≡ Some entry

of_some : (x : List ℕ) (es : List ListEntry) (o : Option ListEntry) (s : ListState) → entry_of x es ≡ o → state_of o ≡ Some s → Present x es
of_some x es None s is h = absurd (cc)
of_some x es (Some e) s is h = record { entry = e; is = is }

pub present : (x : List ℕ) (es : List ListEntry) (s : ListState) → state_of (entry_of x es) ≡ Some s → Present x es
present x es s h = of_some x es (entry_of x es) s refl h

of_end : (x : List ℕ) (es : List ListEntry) (o : Option ListEntry) → entry_of x es ≡ o → MayEnd o → Present x es
of_end x es None is h = absurd h
of_end x es (Some e) is h = record { entry = e; is = is }

pub may_end : (x : List ℕ) (es : List ListEntry) → MayEnd (entry_of x es) → Present x es
may_end x es h = of_end x es (entry_of x es) refl h

pub end_xids : (es : List ListEntry) (xs : List (List ℕ)) → AllByRecursion (λ f. IsXid f.xid) es → AllByRecursion (λ x. MayEnd (entry_of x es)) xs → AllByRecursion IsXid xs
end_xids es [] h d = tt
end_xids es (x ∷ xs) h d = let p = may_end x es d.0 in (entry_xid x p.entry es h p.is, end_xids es xs h d.1)

pub ends_first : (log : Option LogState) (rs : List Record) (es : List ListEntry) (xs : List (List ℕ)) → IsBegun log es → 0 < length xs → AllByRecursion (λ x. MayEnd (entry_of x es)) xs → FitsFirst log rs
ends_first log rs es [] begun some d = absurd (omega (arith, some))
ends_first log rs es (x ∷ xs) begun some d = let p = may_end x es d.0 in first_some log rs x p.entry es begun p.is

pub of_there : (P : ListEntry → Type 0) (o : Option ListEntry) (e : ListEntry) → o ≡ Some e → IfSome o P → P e
of_there P o e is h = subst (λ (p : Option ListEntry). IfSome p P) is h
