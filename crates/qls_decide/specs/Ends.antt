-- The ends that settle the pending transactions of one queue.
use Rattle.std.specs.Prelude.{ℕ, true, false, List, Option, Some, None, if◌then◌else◌}
use Rattle.std.specs.List.{find}
use Rattle.qls_model.specs.Bytes.{same, is_listed}
use Rattle.qls_model.specs.declared.machine.Verdict.{Verdict}
use Rattle.qls_model.specs.declared.machine.Verdict.TheVariants.{Commit, Abort, Doubt}
use Rattle.qls_decide.specs.declared.ListEntry.{ListEntry}
use Rattle.qls_decide.specs.declared.End.{End}
use Rattle.qls_decide.specs.Entries.{verdict_by}

-- the end of x that carries out a verdict; a transaction in doubt has none
abbrev pub end_by : Verdict → List ℕ → Option End
end_by Commit x = Some (record { xid = x; commit = true })
end_by Abort x = Some (record { xid = x; commit = false })
end_by Doubt x = None

-- the end of x among the ends
abbrev pub end_of : List ℕ → List End → Option End
end_of x ends = find (λ e. same x e.xid) ends

-- the end that a plan has for x: the one of its verdict where x is pending, else none
abbrev pub planned_end : List ℕ → List (List ℕ) → List ListEntry → Option End
planned_end x pending es = if is_listed x pending then end_by (verdict_by es x) x else None
