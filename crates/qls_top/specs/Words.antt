-- The words of the command line, and the line for each status.
use Rattle.std.specs.Prelude.{ℕ, not, ◌&&◌, List, [], ◌∷◌, Option, Some, None, if◌then◌else◌, ◌==◌, codes, length}
use Rattle.qls_model.specs.Bytes.{same}
use Rattle.qls_model.specs.declared.machine.PoolId.{PoolId}
use Rattle.qls_command.specs.Lines.{pool_of_words}
use Rattle.qls_top.specs.declared.words.Job.{Job}
use Rattle.qls_top.specs.declared.words.Job.TheVariants.{Run, Show}

abbrev pub run_in : Option PoolId → Option Job
run_in None = None
run_in (Some home) = Some (Run home)

-- the pool of a run whose words name none
abbrev pub default_pool : PoolId
default_pool = record { part = 1; kib = 2048 }

-- the job of one word
abbrev pub job_of_word : List ℕ → Option Job
job_of_word job = if same job (codes "run") then Some (Run default_pool) else if same job (codes "show") then Some Show else None

-- `DIR run`, `DIR show` and `DIR run PART KIB`, DIR being any text of at least one byte
abbrev pub job_of : List (List ℕ) → Option Job
job_of (directory ∷ job ∷ []) = if length directory == 0 then None else job_of_word job
job_of (directory ∷ job ∷ part ∷ kib ∷ []) = if not (length directory == 0) && same job (codes "run") then run_in (pool_of_words part kib) else None
job_of words = None

abbrev pub first_of : List (ℕ × List ℕ) → ℕ → Option (List ℕ)
first_of [] n = None
first_of (l ∷ ls) n = if n == l.0 then Some l.1 else first_of ls n

-- what a program says on standard error
abbrev pub line_of : ℕ → Option (List ℕ)
line_of status = first_of (
    (2, codes "usage: qls DIR run [PART KIB] | show") ∷ (4, codes "source fault") ∷ (5, codes "site fault") ∷ (6, codes "want of memory")
    ∷ (7, codes "script too long") ∷ (8, codes "draw fault") ∷ (9, codes "counter spent") ∷ []) status
