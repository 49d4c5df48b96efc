-- What images after a crash mean.
use Rattle.std.proofs.Common.{◌≡◌, ℕ, List, [], ◌∷◌, map, Ok, refl, replicate}
use Rattle.qls_model.specs.declared.machine.Status.{Status}
use Rattle.qls_model.specs.declared.machine.Status.TheVariants.{Ready, Coming}
use Rattle.qls_model.specs.declared.machine.Phase.TheVariants.{Prepared}
use Rattle.qls_model.specs.Machine.{MachineState, XidState}
use Rattle.qls_site.specs.Disk.{Image}
use Rattle.qls_meaning.specs.Journals.{journals_of}
use Rattle.qls_meaning.specs.Dead.{past_files}
use Rattle.qls_meaning.specs.Meaning.{meaning}
use Rattle.qls_vectors.proofs.Stores.{first_sector, without_a_sector, both_whole, none_written, store_prepared, store_decided, store_committed, store_ended, store_open, store_settled, store_used_again, store_unsettled}
use Rattle.qls_vectors.proofs.Meanings.{only_a, ready}

-- ---- a put over two files, torn: it is there whole or not at all

abbrev past_ids : Image → List (List ℕ)
past_ids i = map (λ j. map (λ f. f.id) (past_files j)) (journals_of i)

first_sector_is_nothing : meaning first_sector ≡ Ok (only_a 1 (ready 1 (1 ∷ []) ∷ []))
first_sector_is_nothing = refl

-- the reading ends in file 2, so an opening returns file 3 alone
one_file_is_past : past_ids first_sector ≡ (3 ∷ []) ∷ []
one_file_is_past = refl

all_but_a_sector_is_nothing : meaning without_a_sector ≡ Ok (only_a 1 (ready 1 (1 ∷ []) ∷ []))
all_but_a_sector_is_nothing = refl

nothing_is_nothing : meaning none_written ≡ Ok (only_a 1 (ready 1 (1 ∷ []) ∷ []))
nothing_is_nothing = refl

whole_is_there : meaning both_whole ≡ Ok (only_a 2 (ready 1 (1 ∷ []) ∷ ready 2 (replicate 4033 0x5a) ∷ []))
whole_is_there = refl

none_is_past : past_ids both_whole ≡ [] ∷ []
none_is_past = refl

-- ---- a transaction over two queues

abbrev both : Status → List XidState → MachineState
both status xids = record {
  queues =
      record { name = 97 ∷ []; last = 1; messages = record { number = 1; body = 0x0a ∷ []; status = status } ∷ [] }
      ∷ record { name = 98 ∷ []; last = 1; messages = record { number = 1; body = 0x0b ∷ []; status = status } ∷ [] }
      ∷ [];
  xids = xids;
}

prepared_is_in_doubt : meaning store_prepared ≡ Ok (both (Coming (1 ∷ [])) (record { xid = 1 ∷ []; phase = Prepared } ∷ []))
prepared_is_in_doubt = refl

-- from the decision on it is committed in all queues, whatever they hold themselves
decided_is_committed : meaning store_decided ≡ Ok (both Ready [])
decided_is_committed = refl

committed_means : meaning store_committed ≡ Ok (both Ready [])
committed_means = refl

ended_means : meaning store_ended ≡ Ok (both Ready [])
ended_means = refl

-- ---- an open transaction is gone, and stays so when its xid is used again, since the next opening wrote its end

open_is_gone : meaning store_open ≡ Ok (only_a 1 [])
open_is_gone = refl

settled_means : meaning store_settled ≡ Ok (only_a 1 [])
settled_means = refl

used_again_means : meaning store_used_again ≡ Ok (only_a 1 [])
used_again_means = refl

-- without that end the later commit would bring the old message back
unsettled_would_come_back : meaning store_unsettled ≡ Ok (only_a 1 (ready 1 (0x0a ∷ []) ∷ []))
unsettled_would_come_back = refl
