-- One transaction that ends: what its end asks for.
use Rattle.std.proofs.Common.{◌≡◌, ℕ, ◌<◌, List, [], ◌∷◌, length, Option, Some, None, sym, subst, arith}
use Rattle.std.specs.List.{AllByRecursion, IsDistinct}
use Rattle.qls_model.specs.Bytes.{same}
use Rattle.qls_decide.specs.declared.ListEntry.{ListEntry}
use Rattle.qls_decide.specs.declared.ListState.{ListState}
use Rattle.qls_decide.specs.Entries.{entry_of, state_of}
use Rattle.qls_prepared.specs.Lists.{MayEnd, MayEndBy}

some_is : (s t : ListState) → Some s ≡ Some t → s ≡ t
some_is s t h = cc

-- an entry in a state in which it may end
pub may_end_in : (o : Option ListEntry) (s : ListState) → Some s ≡ state_of o → MayEndBy s → MayEnd o
may_end_in None s e m = absurd (cc)
may_end_in (Some f) s e m = subst MayEndBy (some_is s f.state e) m

pub one_some : (x : List ℕ) (xs : List (List ℕ)) → xs ≡ x ∷ [] → 0 < length xs
one_some x xs e = subst (λ (ys : List (List ℕ)). 0 < length ys) (sym e) (omega arith)

pub one_distinct : (x : List ℕ) (xs : List (List ℕ)) → xs ≡ x ∷ [] → IsDistinct same xs
unfolding IsDistinct
one_distinct x xs e = subst (IsDistinct same) (sym e) (tt, tt)

pub one_decided : (x : List ℕ) (xs : List (List ℕ)) (es : List ListEntry) → xs ≡ x ∷ [] → MayEnd (entry_of x es) → AllByRecursion (λ y. MayEnd (entry_of y es)) xs
one_decided x xs es e m = subst (AllByRecursion (λ y. MayEnd (entry_of y es))) (sym e) (m, tt)
