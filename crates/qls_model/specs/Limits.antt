-- The limits of names and pools.
use Rattle.std.specs.Prelude.{ℕ, ◌+◌, ◌*◌, ◌%◌, Bool, ◌&&◌, List, length, ◌==◌, nat_le}
use Rattle.std.specs.List.{list_all}

-- 1 to 999
abbrev pub is_partition : ℕ → Bool
is_partition part = nat_le 1 part && nat_le part 999

-- 4 to 65,536 KiB of data, a multiple of 4
abbrev pub is_kib : ℕ → Bool
is_kib kib = nat_le 4 kib && nat_le kib 65536 && kib % 4 == 0

-- the size in bytes of a file with this data area
abbrev pub file_size : ℕ → ℕ
file_size kib = 4096 + 1024 * kib

-- from `!` to `~`
abbrev pub is_name_byte : ℕ → Bool
is_name_byte b = nat_le 33 b && nat_le b 126

-- 1 to 200 such bytes
abbrev pub is_queue_name : List ℕ → Bool
is_queue_name name = nat_le 1 (length name) && nat_le (length name) 200 && list_all is_name_byte name
