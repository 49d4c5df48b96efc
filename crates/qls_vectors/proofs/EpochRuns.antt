-- Small journals of two epochs: they meet what the laws ask, and what these give is what is computed.
use Rattle.std.proofs.Common.{◌≡◌, inl, inr, ℕ, ◌<◌, List, [], ◌∷◌, ◌++◌, map, length, replicate, false, Ok, Err, refl, arith}
use Rattle.qls_shape.specs.declared.Version.TheVariants.{Two}
use Rattle.qls_record.specs.declared.Kind.{Kind}
use Rattle.qls_record.specs.declared.Kind.TheVariants.{Enqueue, Dequeue, Commit}
use Rattle.qls_record.specs.Record.{Record}
use Rattle.qls_record.specs.Spelling.{spelling}
use Rattle.qls_filehdr.specs.declared.JournalKind.{JournalKind}
use Rattle.qls_filehdr.specs.declared.JournalKind.TheVariants.{Queue, List as Listed}
use Rattle.qls_filehdr.specs.declared.Rule.TheVariants as rule
use Rattle.qls_meaning.specs.Journals.{Headed, Journal}
use Rattle.qls_meaning.specs.Reading.{Read, journal_reading}
use Rattle.qls_meaning.specs.Damage.{chain_claims, reading_claims}
use Rattle.qls_meaning.specs.Dead.{past_files}
use Rattle.qls_meaning.specs.Meaning.{queue_of, entries_of}
use Rattle.qls_laws.specs.Returns.{HasPlaces, without_oldest}
use Rattle.qls_epochs.specs.Whole.{IsWhole}
use Rattle.qls_epochs.specs.Trims.{without_newest}
use Rattle.qls_epochs.specs.Joins.{joined, alone, IsNextEpoch}
use Rattle.qls_epochs.proofs.Oldest.{returned_is_whole}
use Rattle.qls_epochs.proofs.Dead.{dead_queue, dead_list}

-- ---- records of 128 bytes, and files of a few of them

abbrev record_of : Kind → ℕ → ℕ → List ℕ → Record
record_of kind rid target xid = record { kind = kind; flagged = false; rid = rid; target = target; xid = xid; props = []; body = [] }

abbrev put : ℕ → Record
put rid = record_of Enqueue rid 0 []

abbrev take_of : ℕ → ℕ → Record
take_of rid target = record_of Dequeue rid target []

abbrev prepare : ℕ → Record
prepare rid = record_of Enqueue rid 0 (1 ∷ [])

abbrev end_of_it : ℕ → Record
end_of_it rid = record_of Commit rid 0 (1 ∷ [])

abbrev spelled : ℕ → Record → List ℕ
spelled serial r = spelling Two serial r

abbrev blank : ℕ → List ℕ
blank bytes = replicate bytes 0

abbrev file : JournalKind → ℕ → ℕ → ℕ → ℕ → ℕ → List ℕ → Headed
file kind number epoch serial rid first area = record {
  id = number;
  header = record { serial = serial; rid = rid; part = 1; kib = 4; first = first; number = number; epoch = epoch; kind = kind; name = [] };
  area = area;
}

abbrev queue_file : ℕ → ℕ → ℕ → ℕ → ℕ → List ℕ → Headed
queue_file number epoch serial rid first area = file Queue number epoch serial rid first area

abbrev list_file : ℕ → ℕ → ℕ → ℕ → ℕ → List ℕ → Headed
list_file number epoch serial rid first area = file Listed number epoch serial rid first area

abbrev queue : List Headed → Journal
queue files = record { kind = Queue; name = []; files = files }

abbrev prepared_list : List Headed → Journal
prepared_list files = record { kind = Listed; name = []; files = files }

-- a record of a reading that ends in the file in which it starts, at the front of its data area
abbrev lies : Record → ℕ → Read
lies r number = record { what = r; file = number; at = 4096; end_file = number }

-- a file whose first place is the start of its data area, and one without a first place
at_once : (f : Headed) → f.header.first ≡ 4096 → 0 < length f.area → HasPlaces f
at_once f first some = record { some = some; first = inr (omega (arith, first), omega (arith, first, some)) }

covered : (f : Headed) → f.header.first ≡ 0 → 0 < length f.area → HasPlaces f
covered f first some = record { some = some; first = inl first }

abbrev numbers : List Headed → List ℕ
numbers fs = map (λ f. f.header.number) fs

-- ---- the oldest file is the only one of its epoch

abbrev taken : Journal
taken = queue (queue_file 1 1 7 0 4096 (spelled 7 (put 1)) ∷ queue_file 2 2 8 1 4096 (spelled 8 (take_of 1 1)) ∷ [])

taken_is_whole : IsWhole taken
taken_is_whole = record {
  places = (
    at_once (queue_file 1 1 7 0 4096 (spelled 7 (put 1))) refl (omega arith),
    (at_once (queue_file 2 2 8 1 4096 (spelled 8 (take_of 1 1))) refl (omega arith), tt),
  );
  rules = record { chain = refl; reading = refl };
  past = refl;
}

taken_says_nothing : queue_of (without_oldest taken) ≡ queue_of taken
taken_says_nothing = dead_queue taken taken_is_whole refl refl

taken_computed : queue_of (without_oldest taken) ≡ record { name = []; last = 1; messages = [] }
taken_computed = refl

-- what is left begins with its own epoch
left_reads : journal_reading (without_oldest taken) ≡ lies (take_of 1 1) 2 ∷ []
left_reads = refl

-- ---- it has another file in its epoch, and nothing is read of the last epoch

abbrev ended : Journal
ended = prepared_list (list_file 1 1 7 0 4096 (spelled 7 (prepare 1)) ∷ list_file 2 1 8 1 4096 (spelled 8 (end_of_it 1)) ∷ list_file 3 2 9 1 4096 (blank 128) ∷ [])

ended_is_whole : IsWhole ended
ended_is_whole = record {
  places = (
    at_once (list_file 1 1 7 0 4096 (spelled 7 (prepare 1))) refl (omega arith),
    (at_once (list_file 2 1 8 1 4096 (spelled 8 (end_of_it 1))) refl (omega arith), (at_once (list_file 3 2 9 1 4096 (blank 128)) refl (omega arith), tt)),
  );
  rules = record { chain = refl; reading = refl };
  past = refl;
}

ended_says_nothing : entries_of (without_oldest ended ∷ []) ≡ entries_of (ended ∷ [])
ended_says_nothing = dead_list ended ended_is_whole refl refl

ended_again : IsWhole (without_oldest (without_oldest ended))
ended_again = returned_is_whole (without_oldest ended) (omega arith) (returned_is_whole ended (omega arith) ended_is_whole)

-- ---- files that are passed over, up to the end of their epoch

abbrev passed_over : Journal
passed_over = queue (queue_file 4 1 7 5 0 (blank 128) ∷ queue_file 5 1 8 5 0 (blank 128) ∷ queue_file 6 2 9 5 4096 (spelled 9 (put 6)) ∷ [])

passed_over_is_whole : IsWhole passed_over
passed_over_is_whole = record {
  places = (
    covered (queue_file 4 1 7 5 0 (blank 128)) refl (omega arith),
    (covered (queue_file 5 1 8 5 0 (blank 128)) refl (omega arith), (at_once (queue_file 6 2 9 5 4096 (spelled 9 (put 6))) refl (omega arith), tt)),
  );
  rules = record { chain = refl; reading = refl };
  past = refl;
}

passed_over_says_nothing : queue_of (without_oldest (without_oldest passed_over)) ≡ queue_of passed_over
passed_over_says_nothing = refl

-- ---- files past the reading of the last epoch

abbrev torn : Journal
torn = queue (queue_file 1 1 7 0 4096 (spelled 7 (put 1)) ∷ queue_file 2 2 8 1 4096 (blank 128) ∷ queue_file 3 2 9 1 4096 (spelled 9 (put 2)) ∷ queue_file 4 2 10 1 0 (blank 128) ∷ [])

two_past : numbers (past_files torn) ≡ 3 ∷ 4 ∷ []
two_past = refl

one_past : numbers (past_files (without_newest torn)) ≡ 3 ∷ []
one_past = refl

none_past : numbers (past_files (without_newest (without_newest torn))) ≡ []
none_past = refl

reads_the_same : journal_reading (without_newest (without_newest torn)) ≡ lies (put 1) 1 ∷ []
reads_the_same = refl

-- ---- a later epoch

abbrev old : Journal
old = queue (queue_file 1 1 7 0 4096 (spelled 7 (put 1)) ∷ [])

abbrev own : List Headed
own = queue_file 2 2 8 1 4096 (spelled 8 (put 2) ++ blank 128) ∷ []

old_is_whole : IsWhole old
old_is_whole = record {
  places = (at_once (queue_file 1 1 7 0 4096 (spelled 7 (put 1))) refl (omega arith), tt);
  rules = record { chain = refl; reading = refl };
  past = refl;
}

own_is_next : IsNextEpoch old own
own_is_next = record {
  epoch = 2;
  one = (refl, tt);
  above = (omega arith, tt);
  places = (at_once (queue_file 2 2 8 1 4096 (spelled 8 (put 2) ++ blank 128)) refl (omega arith), tt);
  rules = record { chain = refl; reading = refl };
  begins = record { next = refl; first = refl; rid = refl };
}

joined_computed : reading_claims (joined old own) ≡ Ok tt
joined_computed = refl

-- A file without a data area breaks no rule alone, and does so behind others: the place where the reading ends lies in no file. So the laws
-- ask for places
abbrev no_area : List Headed
no_area = queue_file 2 2 8 1 4096 [] ∷ []

no_area_alone : (chain_claims (alone old no_area).files ≡ Ok tt) × (reading_claims (alone old no_area) ≡ Ok tt)
no_area_alone = (refl, refl)

no_area_behind : reading_claims (joined old no_area) ≡ Err (2, rule.First)
no_area_behind = refl
