-- How a batch lies over files. Places count from the start of the present file's data area, and go on through the fresh files.
use Rattle.std.specs.Prelude.{◌≡◌, ℕ, zero, suc, ◌+◌, ◌-◌, ◌/◌, List, [], ◌∷◌, map, length}
use Rattle.qls_record.specs.Record.{Record}
use Rattle.qls_meaning.specs.Damage.{first_in, rid_before}
use Rattle.qls_blocks.specs.declared.plan.Plan.{Plan}
use Rattle.qls_blocks.specs.declared.plan.FreshFile.{FreshFile}
use Rattle.qls_blocks.specs.Batching.{length_of, block_length, filler_count, with_fillers, laid_from, places_from}

-- The header values of the file that starts at a place. Its first place is that of the first record that starts in it, or the batch's
-- end where that lies in it, and 0 where one record covers it to its end. Its rid is that of the last enqueue that starts before it
abbrev pub fresh_file : ℕ → ℕ → ℕ → List Record → ℕ → FreshFile
fresh_file capacity rid p rs start = record { first = first_in start capacity (places_from p rs); rid = rid_before rid (laid_from p rs) start }

-- where n files start, one behind another
abbrev pub starts : ℕ → ℕ → ℕ → List ℕ
starts capacity start zero = []
starts capacity start (suc n) = start ∷ starts capacity (start + capacity) n

-- the files behind the present one, up to the one that has the last byte before the end
abbrev pub fresh_count : ℕ → ℕ → ℕ
fresh_count capacity end = (end - 1) / capacity

abbrev pub plan_of : List Record → ℕ → ℕ → ℕ → Plan
plan_of rs used capacity rid = let length = block_length (length_of rs) in record {
  length = length;
  fillers = filler_count rs;
  fresh = map (fresh_file capacity rid used (with_fillers rs)) (starts capacity capacity (fresh_count capacity (used + length)));
}

-- a plan of this batch for a present file of which so much is used
pub record IsPlanOf (rs : List Record) (used capacity : ℕ) (plan : Plan) : Type 0 where
  pub bytes : plan.length ≡ block_length (length_of rs)
  pub fillers : plan.fillers ≡ filler_count rs
  pub files : length plan.fresh ≡ fresh_count capacity (used + plan.length)
