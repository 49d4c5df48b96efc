-- Files in use in their groups: each group by number and then id, the queues' groups by name.
use Rattle.std.specs.Prelude.{◌≡◌, ℕ, List, [], ◌∷◌, map, Option, Some, None}
use Rattle.std.specs.List.{AllByRecursion, filter}
use Rattle.std.specs.declared.cmp.Ordering.{Ordering}
use Rattle.std.specs.Ordering.{nat_cmp, ordering_then}
use Rattle.std.specs.Cmp.Lexicographic.{slice_cmp}
use Rattle.std.specs.BTreeMap.{BTreeMap, insert_entry, is_at}
use Rattle.std.specs.Map.{lookup, set_value, values_of}
use Rattle.qls_filehdr.specs.declared.JournalKind.TheVariants.{Queue, List as Listed}
use Rattle.qls_meaning.specs.Journals.{Headed, is_of, by_number, queue_names}
use Rattle.qls_scan.specs.declared.groups.Groups.{Groups}
use Rattle.qls_scan.specs.declared.answers.HeadedFile.{HeadedFile}
use Rattle.qls_scan.specs.declared.answers.JournalFiles.{JournalFiles}
use Rattle.qls_scan.specs.Found.{head_of}

-- by number and then by id
abbrev pub number_cmp : ℕ × ℕ → ℕ × ℕ → Ordering
number_cmp a b = ordering_then (nat_cmp a.0 b.0) (nat_cmp a.1 b.1)

abbrev pub number_key : HeadedFile → ℕ × ℕ
number_key f = (f.header.number, f.id)

-- the entries of a group
abbrev pub Entries : Type 0
Entries = List ((ℕ × ℕ) × HeadedFile)

-- the entries of each queue's group
abbrev pub entries_within : List ℕ × BTreeMap (ℕ × ℕ) HeadedFile → List ℕ × Entries
entries_within e = (e.0, e.1.entries)

abbrev pub within : List (List ℕ × BTreeMap (ℕ × ℕ) HeadedFile) → List (List ℕ × Entries)
within es = map entries_within es

-- the group with the file, and the groups of the queues with a file of one
abbrev pub with_file : HeadedFile → Entries → Entries
with_file f es = insert_entry number_cmp es (number_key f) f

abbrev pub add_to : HeadedFile → List (List ℕ × Entries) → Option Entries → List (List ℕ × Entries)
add_to f es None = insert_entry (slice_cmp nat_cmp) es f.header.name (with_file f [])
add_to f es (Some group) = set_value (is_at (slice_cmp nat_cmp f.header.name)) es (with_file f group)

abbrev pub with_file_of_queue : HeadedFile → List (List ℕ × Entries) → List (List ℕ × Entries)
with_file_of_queue f es = add_to f es (lookup (is_at (slice_cmp nat_cmp f.header.name)) es)

-- ---- the groups of these files

abbrev pub keyed : Headed → (ℕ × ℕ) × HeadedFile
keyed f = (number_key (head_of f), head_of f)

abbrev pub queue_group : List Headed → List ℕ → List ℕ × Entries
queue_group fs name = (name, map keyed (by_number (filter (is_of Queue name) fs)))

pub record IsGrouped (g : Groups) (fs : List Headed) : Type 0 where
  pub list : g.list.entries ≡ map keyed (by_number (filter (is_of Listed []) fs))
  pub queues : within g.queues.entries ≡ map (queue_group fs) (queue_names fs)

-- ---- the groups as journals

abbrev pub list_found : List HeadedFile → List JournalFiles
list_found [] = []
list_found (f ∷ fs) = record { kind = Listed; name = []; files = f ∷ fs } ∷ []

abbrev pub queue_found : List ℕ × Entries → JournalFiles
queue_found e = record { kind = Queue; name = e.0; files = values_of e.1 }

-- ---- conditions

abbrev pub LacksId : ℕ → List Headed → Type 0
LacksId id fs = AllByRecursion (λ f. f.id ≡ id → ⊥) fs

abbrev pub IdsDiffer : List Headed → Type 0
IdsDiffer [] = Unit {0}
IdsDiffer (f ∷ fs) = LacksId f.id fs × IdsDiffer fs
