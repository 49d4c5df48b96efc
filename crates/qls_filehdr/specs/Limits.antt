-- The limits of headers, and the words of the rules.
use Rattle.qls_model.specs.Limits.{is_partition, is_kib, file_size, is_queue_name}
use Rattle.std.specs.Prelude.{ℕ, ◌+◌, ◌%◌, ◌^◌, Bool, ◌&&◌, ◌||◌, List, length, ◌==◌, nat_lt, nat_le, codes}
use Rattle.qls_filehdr.specs.declared.JournalKind.{JournalKind}
use Rattle.qls_filehdr.specs.declared.JournalKind.TheVariants.{Queue, List as Listed}
use Rattle.qls_filehdr.specs.declared.FileHeader.{FileHeader}
use Rattle.qls_filehdr.specs.declared.Rule.{Rule}
use Rattle.qls_filehdr.specs.declared.Rule.TheVariants as rule

-- 0, or a unit of the data area
abbrev pub is_first_place : ℕ → ℕ → Bool
is_first_place kib first = first == 0 || (nat_le 4096 first && nat_le (first + 128) (file_size kib) && first % 128 == 0)

-- below 2 ^ 62, and not 0
abbrev pub is_counter : ℕ → Bool
is_counter n = nat_le 1 n && nat_lt n (2 ^ 62)

-- the list's name is empty
abbrev pub is_name : JournalKind → List ℕ → Bool
is_name Queue name = is_queue_name name
is_name Listed name = length name == 0

-- a header that has a spelling
abbrev pub is_legal_header : FileHeader → Bool
is_legal_header h =
    nat_lt h.serial (2 ^ 64) && nat_lt h.rid (2 ^ 62) && is_partition h.part && is_kib h.kib && is_first_place h.kib h.first
    && is_counter h.number && is_counter h.epoch && is_name h.kind h.name

abbrev pub rule_word : Rule → List ℕ
rule_word rule.Id = codes "id"
rule_word rule.Pool = codes "pool"
rule_word rule.Short = codes "short"
rule_word rule.Magic = codes "magic"
rule_word rule.Version = codes "version"
rule_word rule.Flags = codes "flags"
rule_word rule.Partition = codes "partition"
rule_word rule.Kib = codes "kib"
rule_word rule.Place = codes "place"
rule_word rule.Counter = codes "counter"
rule_word rule.Kind = codes "kind"
rule_word rule.Name = codes "name"
rule_word rule.Checksum = codes "checksum"
rule_word rule.Zeros = codes "zeros"
rule_word rule.Size = codes "size"
rule_word rule.Number = codes "number"
rule_word rule.Epoch = codes "epoch"
rule_word rule.Home = codes "home"
rule_word rule.First = codes "first"
rule_word rule.Rid = codes "rid"
rule_word rule.Order = codes "order"
rule_word rule.End = codes "end"
