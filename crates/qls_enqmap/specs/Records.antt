-- Held records by rising record id, and what each call does to them.
use Rattle.std.specs.Prelude.{ℕ, ◌+◌, ◌<◌, ◌≤◌, not, List, [], ◌∷◌, map, Option, Some, None, Result, Ok, Err, if◌then◌else◌, ◌==◌, min}
use Rattle.std.specs.List.{filter, find}
use Rattle.qls_model.specs.declared.machine.Status.{Status}
use Rattle.qls_model.specs.declared.machine.Status.TheVariants.{Ready, Coming, Going}
use Rattle.qls_enqmap.specs.declared.Held.{Held}
use Rattle.qls_enqmap.specs.declared.EnqFault.{EnqFault}
use Rattle.qls_enqmap.specs.declared.EnqFault.TheVariants.{Unknown, Locked}

-- the record of this id
abbrev pub held_at : ℕ → List Held → Option Held
held_at rid hs = find (λ h. h.rid == rid) hs

-- the record of this id with another status, and all others as they are
abbrev pub with_status_if : ℕ → Status → Held → Held
with_status_if rid status h = if h.rid == rid then record h { status = status } else h

abbrev pub with_status : ℕ → Status → List Held → List Held
with_status rid status hs = map (with_status_if rid status) hs

-- all records but the one of this id
abbrev pub without : ℕ → List Held → List Held
without rid hs = filter (λ h. not (h.rid == rid)) hs

-- what a lock answers: only a ready record is locked
abbrev pub lock_by_status : Status → Result (Unit {0}) EnqFault
lock_by_status Ready = Ok tt
lock_by_status (Coming x) = Err Locked
lock_by_status (Going x) = Err Locked

abbrev pub lock_answer : Option Held → Result (Unit {0}) EnqFault
lock_answer None = Err Unknown
lock_answer (Some h) = lock_by_status h.status

-- what an unlock answers
abbrev pub unlock_answer : Option Held → Result (Unit {0}) EnqFault
unlock_answer None = Err Unknown
unlock_answer (Some h) = Ok tt

-- what a removal answers
abbrev pub removed : Option Held → Result Held EnqFault
removed None = Err Unknown
removed (Some h) = Ok h

-- the least file of the records
abbrev pub least_from : ℕ → List Held → ℕ
least_from file [] = file
least_from file (h ∷ hs) = least_from (min file h.file) hs

abbrev pub least_file : List Held → Option ℕ
least_file [] = None
least_file (h ∷ hs) = Some (least_from h.file hs)

-- the lesser of two files, where there are two
abbrev pub lesser : Option ℕ → Option ℕ → Option ℕ
lesser None b = b
lesser (Some a) None = Some a
lesser (Some a) (Some b) = Some (min a b)

-- each id is below this one
abbrev pub AllBelow : ℕ → List Held → Type 0
AllBelow rid [] = Unit {0}
AllBelow rid (h ∷ hs) = (h.rid < rid) × AllBelow rid hs

-- the ids rise
abbrev pub RidsFrom : ℕ → List Held → Type 0
RidsFrom rid [] = Unit {0}
RidsFrom rid (h ∷ hs) = (rid ≤ h.rid) × RidsFrom (h.rid + 1) hs

abbrev pub RidsRise : List Held → Type 0
RidsRise hs = RidsFrom 0 hs
