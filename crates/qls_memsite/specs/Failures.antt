-- Which calls are set to fail.
use Rattle.std.specs.Prelude.{ℕ, ◌+◌, ◌-◌, ◌^◌, Bool, false, ◌&&◌, ◌||◌, List, [], ◌∷◌, ◌++◌, map, min, Option, Some, None, if◌then◌else◌, ◌==◌}
use Rattle.std.specs.List.{list_any}
use Rattle.qls_memsite.specs.declared.plan.CallKind.{CallKind}
use Rattle.qls_memsite.specs.declared.plan.CallKind.TheVariants as kind
use Rattle.qls_memsite.specs.declared.plan.Failure.{Failure}
use Rattle.qls_memsite.specs.declared.plan.Plan.{Plan}

-- the failures that are set, and how many calls pass before all fail, where a stop is set
pub record Failing : Type 0 where
  pub failures : List Failure
  pub stop : Option ℕ

abbrev pub failing_of : Plan → Failing
failing_of p = record { failures = p.failures.items; stop = p.stop }

abbrev pub number_of : CallKind → ℕ
number_of kind.Any = 0
number_of kind.List = 1
number_of kind.Read = 2
number_of kind.Write = 3
number_of kind.Sync = 4
number_of kind.Create = 5
number_of kind.Relocate = 6
number_of kind.Answer = 7

-- a setting for calls of one kind, or of any, counts this call
abbrev pub counts : CallKind → CallKind → Bool
counts set call = number_of set == 0 || number_of set == number_of call

-- the setting is for this very call
abbrev pub is_due : CallKind → Failure → Bool
is_due call f = counts f.kind call && f.left == 1

-- this call or an earlier one is the last that ends well
abbrev pub is_stopped : Option ℕ → Bool
is_stopped None = false
is_stopped (Some passing) = passing == 0

abbrev pub fails_next : CallKind → Failing → Bool
fails_next call p = list_any (is_due call) p.failures || is_stopped p.stop

-- a call of that kind was made
abbrev pub counted : CallKind → Failure → Failure
counted call f = if counts f.kind call then record f { left = f.left - 1 } else f

abbrev pub one_less : Option ℕ → Option ℕ
one_less None = None
one_less (Some passing) = Some (passing - 1)

abbrev pub after_call : CallKind → Failing → Failing
after_call call p = record { failures = map (counted call) p.failures; stop = one_less p.stop }

-- the count of faults after a call that failed or not; at its greatest value it stays
abbrev pub faults_after : Bool → ℕ → ℕ
faults_after failed faults = if failed then min (faults + 1) (2 ^ 64 - 1) else faults

-- no call is set to fail
abbrev pub none_failing : Failing
none_failing = record { failures = []; stop = None }

-- the n-th call of that kind from now is set to fail too; the 0-th is none
abbrev pub with_failure : CallKind → ℕ → Failing → Failing
with_failure call n p = record p { failures = p.failures ++ (record { kind = call; left = n }) ∷ [] }

-- the stop that comes first
abbrev pub earlier : Option ℕ → ℕ → Option ℕ
earlier None passing = Some passing
earlier (Some other) passing = Some (min other passing)

-- the k-th call from now and all later ones are set to fail too; the 0-th is none
abbrev pub with_stop : ℕ → Failing → Failing
with_stop k p = if k == 0 then p else record p { stop = earlier p.stop (k - 1) }
