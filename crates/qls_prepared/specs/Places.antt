-- Where an entry stands among the others by xid.
use Rattle.std.specs.Prelude.{◌≡◌, ℕ, ◌≤◌, true, List, length, take, drop, Some, None, Result, Ok, Err}
use Rattle.std.specs.List.{AllByRecursion, slice_get}
use Rattle.qls_model.specs.Bytes.{comes_before}
use Rattle.qls_decide.specs.declared.ListEntry.{ListEntry}
use Rattle.qls_decide.specs.Entries.{entry_of}

-- the entry of the xid stands there
pub record StandsAt (es : List ListEntry) (xid : List ℕ) (at : ℕ) : Type 0 where
  pub entry : ListEntry
  pub there : slice_get es at ≡ Some entry
  pub found : entry_of xid es ≡ Some entry

-- the xid has no entry; those before the place come before it, and it comes before the others
pub record WouldStandAt (es : List ListEntry) (xid : List ℕ) (at : ℕ) : Type 0 where
  pub within : at ≤ length es
  pub none : entry_of xid es ≡ None
  pub before : AllByRecursion (λ e. comes_before e.xid xid ≡ true) (take at es)
  pub behind : AllByRecursion (λ e. comes_before xid e.xid ≡ true) (drop at es)

abbrev pub IsPlace : List ListEntry → List ℕ → Result ℕ ℕ → Type 0
IsPlace es xid (Ok at) = StandsAt es xid at
IsPlace es xid (Err at) = WouldStandAt es xid at
