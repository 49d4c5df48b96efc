-- Journals of which the oldest file may go: they meet what the laws on returns ask, and what these give is what is computed.
use Rattle.std.proofs.Common.{◌≡◌, inr, ℕ, true, false, [], ◌∷◌, length, refl, arith, ◌++◌, map, replicate, Ok}
use Rattle.qls_shape.specs.declared.Version.TheVariants.{Two}
use Rattle.qls_record.specs.declared.Kind.TheVariants.{Enqueue, Dequeue, Commit, Filler}
use Rattle.qls_record.specs.Record.{Record}
use Rattle.qls_record.specs.Spelling.{spelling}
use Rattle.qls_filehdr.specs.declared.JournalKind.{JournalKind}
use Rattle.qls_filehdr.specs.declared.JournalKind.TheVariants.{Queue, List as Listed}
use Rattle.qls_meaning.specs.Journals.{Headed, Journal}
use Rattle.qls_meaning.specs.Damage.{chain_claims, reading_claims}
use Rattle.qls_meaning.specs.Dead.{has_dead_oldest, past_files}
use Rattle.qls_meaning.specs.Meaning.{queue_of, entries_of}
use Rattle.qls_laws.specs.Returns.{HasPlaces, IsWholeRun, without_oldest}
use Rattle.qls_laws.proofs.DeadQueue.{dead_queue}
use Rattle.qls_laws.proofs.DeadList.{dead_list}

-- records, by an xid of one byte in the list
abbrev put : Record
put = record { kind = Enqueue; flagged = false; rid = 1; target = 0; xid = []; props = []; body = [] }

abbrev take_of_it : Record
take_of_it = record { kind = Dequeue; flagged = false; rid = 1; target = 1; xid = []; props = []; body = [] }

abbrev filler : Record
filler = record { kind = Filler; flagged = false; rid = 0; target = 0; xid = []; props = []; body = [] }

abbrev prepare : Record
prepare = record put { xid = 1 ∷ [] }

abbrev end_of_it : Record
end_of_it = record { kind = Commit; flagged = false; rid = 1; target = 0; xid = 1 ∷ []; props = []; body = [] }

-- a file of the first epoch that holds one record and nothing else
abbrev holding : JournalKind → ℕ → ℕ → ℕ → Record → Headed
holding kind number serial rid r = record {
  id = number;
  header = record { serial = serial; rid = rid; part = 1; kib = 4; first = 4096; number = number; epoch = 1; kind = kind; name = [] };
  area = spelling Two serial r;
}

-- one record of 128 bytes, at the front
one_unit : (f : Headed) → f.header.first ≡ 4096 → length f.area ≡ 128 → HasPlaces f
one_unit f first size = record { some = omega (arith, size); first = inr (omega (arith, first), omega (arith, first, size)) }

-- a message, and in the next file the dequeue that takes it
abbrev taken : Journal
taken = record { kind = Queue; name = []; files = holding Queue 1 7 0 put ∷ holding Queue 2 8 1 take_of_it ∷ [] }

taken_is_whole : IsWholeRun taken
taken_is_whole = record {
  epoch = 1;
  one = (refl, (refl, tt));
  places = (
    one_unit (holding Queue 1 7 0 put) refl refl,
    (one_unit (holding Queue 2 8 1 take_of_it) refl refl, tt),
  );
  rules = record { chain = refl; reading = refl };
  past = refl;
}

taken_says_nothing : queue_of (without_oldest taken) ≡ queue_of taken
taken_says_nothing = dead_queue taken taken_is_whole refl refl

taken_computed : queue_of (without_oldest taken) ≡ record { name = []; last = 1; messages = [] }
taken_computed = refl

-- an entry of the prepared list, and in the next file its end
abbrev ended : Journal
ended = record { kind = Listed; name = []; files = holding Listed 1 7 0 prepare ∷ holding Listed 2 8 1 end_of_it ∷ [] }

ended_is_whole : IsWholeRun ended
ended_is_whole = record {
  epoch = 1;
  one = (refl, (refl, tt));
  places = (
    one_unit (holding Listed 1 7 0 prepare) refl refl,
    (one_unit (holding Listed 2 8 1 end_of_it) refl refl, tt),
  );
  rules = record { chain = refl; reading = refl };
  past = refl;
}

ended_says_nothing : entries_of (without_oldest ended ∷ []) ≡ entries_of (ended ∷ [])
ended_says_nothing = dead_list ended ended_is_whole refl refl

ended_computed : entries_of (without_oldest ended ∷ []) ≡ []
ended_computed = refl

-- ---- a file past the reading

-- The reading ends in the first file, though a record stands in the second: what a torn batch may leave. The oldest file is dead here too
-- and no rule fails, but without it that record would be read. So the laws ask that no file lies past the reading
abbrev torn : Journal
torn = record {
  kind = Queue;
  name = [];
  files = record (holding Queue 1 7 0 filler) { area = spelling Two 7 filler ++ replicate 128 0 } ∷ holding Queue 2 8 0 put ∷ [];
}

torn_breaks_no_rule : (chain_claims torn.files ≡ Ok tt) × (reading_claims torn ≡ Ok tt)
torn_breaks_no_rule = (refl, refl)

torn_has_a_dead_file : has_dead_oldest torn ≡ true
torn_has_a_dead_file = refl

torn_has_one_past : map (λ f. f.header.number) (past_files torn) ≡ 2 ∷ []
torn_has_one_past = refl

torn_means : (queue_of torn).messages ≡ []
torn_means = refl

torn_without_means : map (λ m. m.number) (queue_of (without_oldest torn)).messages ≡ 1 ∷ []
torn_without_means = refl
