-- The lines of a script, and the command of a line.
use Rattle.std.specs.Prelude.{ℕ, ◌+◌, ◌-◌, ◌*◌, ◌^◌, Bool, true, false, ◌&&◌, List, [], ◌∷◌, map, length, Option, Some, None, Result, Ok, Err, if◌then◌else◌, ◌==◌, nat_lt, nat_le, codes}
use Rattle.std.specs.List.{fold}
use Rattle.std.specs.Fmt.{decimal}
use Rattle.hex.specs.Hex.{decode_of}
use Rattle.hex.specs.declared.error.FromHexError.{FromHexError}
use Rattle.qls_model.specs.Bytes.{same}
use Rattle.qls_model.specs.declared.machine.PoolId.{PoolId}
use Rattle.qls_model.specs.declared.machine.Command.{Command}
use Rattle.qls_model.specs.declared.machine.Command.TheVariants as command
use Rattle.qls_command.specs.declared.line.Parsed.{Parsed}
use Rattle.qls_command.specs.declared.line.Parsed.TheVariants.{Good, Bad}
use Rattle.qls_model.specs.Limits.{is_partition, is_kib, is_queue_name}

-- ---- cutting

-- a byte at the front of the first piece
abbrev pub onto_first : ℕ → List (List ℕ) → List (List ℕ)
onto_first b [] = (b ∷ []) ∷ []
onto_first b (p ∷ ps) = (b ∷ p) ∷ ps

-- the lines of a script: each ends with an LF, and bytes after the last LF are a line
abbrev pub lines : List ℕ → List (List ℕ)
lines [] = []
lines (b ∷ bs) = let rest = lines bs in if b == 10 then [] ∷ rest else onto_first b rest

-- the pieces between spaces: one more than there are spaces
abbrev pub words : List ℕ → List (List ℕ)
words [] = [] ∷ []
words (b ∷ bs) = let rest = words bs in if b == 32 then [] ∷ rest else onto_first b rest

-- the words behind the space after a word, where there is one
abbrev pub words_behind : Option (List ℕ) → List (List ℕ)
words_behind None = []
words_behind (Some rest) = words rest

-- ---- words

infixl 10 ◌>>=◌
abbrev pub ◌>>=◌ : {A B : Type 0} → Option A → (A → Option B) → Option B
None >>= f = None
(Some x) >>= f = f x

abbrev pub where_true : {A : Type 0} → Bool → A → Option A
where_true true x = Some x
where_true false x = None

-- the number of the digits, whatever the bytes are
abbrev pub digits_value : List ℕ → ℕ
digits_value w = fold (λ n b. 10 * n + (b - 48)) 0 w

-- the number whose decimal text the word is
abbrev pub number_of_word : List ℕ → Option ℕ
number_of_word w = let n = digits_value w in where_true (nat_lt (length w) 20 && same w (decimal n)) n

abbrev pub message_number : List ℕ → Option ℕ
message_number w = number_of_word w >>= λ n. where_true (nat_le 1 n && nat_lt n (2 ^ 62)) n

abbrev pub name_of_word : List ℕ → Option (List ℕ)
name_of_word w = where_true (is_queue_name w) w

abbrev pub pool_of_words : List ℕ → List ℕ → Option PoolId
pool_of_words p k =
    number_of_word p >>= λ part. number_of_word k >>= λ kib. where_true (is_partition part && is_kib kib) (record { part = part; kib = kib })

abbrev pub decoded : Result (List ℕ) FromHexError → Option (List ℕ)
decoded (Ok bytes) = Some bytes
decoded (Err e) = None

-- hex of at least two digits
abbrev pub bytes_of_word : List ℕ → Option (List ℕ)
bytes_of_word w = where_true (nat_le 2 (length w)) w >>= λ v. decoded (decode_of v)

abbrev pub xid_of_word : List ℕ → Option (List ℕ)
xid_of_word w = bytes_of_word w >>= λ x. where_true (nat_le (length x) 128) x

-- hex, or a dash for the empty body
abbrev pub body_of_word : List ℕ → Option (List ℕ)
body_of_word w = if same w (codes "-") then Some [] else (bytes_of_word w >>= λ b. where_true (nat_le (length b) 1048576) b)

-- ---- commands

abbrev pub put_words : List ℕ → List ℕ → Option (List ℕ) → Option Command
put_words n b xid = name_of_word n >>= λ name. body_of_word b >>= λ body. Some (command.Put name body xid)

abbrev pub take_words : List ℕ → List ℕ → Option (List ℕ) → Option Command
take_words n k xid = name_of_word n >>= λ name. message_number k >>= λ number. Some (command.Take name number xid)

-- the choice by the first word
abbrev pub choose : List (List ℕ × Option Command) → List ℕ → Option Command
choose [] w = None
choose (c ∷ cs) w = if same w c.0 then c.1 else choose cs w

-- the command that the words are
abbrev pub command_of_words : List (List ℕ) → Option Command
command_of_words (w ∷ []) = choose ((codes "doubt", Some command.Doubt) ∷ []) w
command_of_words (w ∷ a ∷ []) = choose (
    (codes "queue", name_of_word a >>= λ name. Some (command.Queue name None))
    ∷ (codes "drop", name_of_word a >>= λ name. Some (command.Drop name))
    ∷ (codes "list", name_of_word a >>= λ name. Some (command.List name))
    ∷ (codes "begin", xid_of_word a >>= λ x. Some (command.Begin x))
    ∷ (codes "prepare", xid_of_word a >>= λ x. Some (command.Prepare x))
    ∷ (codes "commit", xid_of_word a >>= λ x. Some (command.Commit x))
    ∷ (codes "abort", xid_of_word a >>= λ x. Some (command.Abort x)) ∷ []) w
command_of_words (w ∷ a ∷ b ∷ []) = choose ((codes "put", put_words a b None) ∷ (codes "take", take_words a b None) ∷ []) w
command_of_words (w ∷ a ∷ b ∷ c ∷ []) = choose (
    (codes "queue", name_of_word a >>= λ name. pool_of_words b c >>= λ home. Some (command.Queue name (Some home))) ∷ []) w
command_of_words (w ∷ a ∷ b ∷ c ∷ d ∷ []) = if same c (codes "in")
    then (xid_of_word d >>= λ x. choose ((codes "put", put_words a b (Some x)) ∷ (codes "take", take_words a b (Some x)) ∷ []) w)
    else None
command_of_words ws = None

-- the command of a line, if it is one
abbrev pub command_of : List ℕ → Option Command
command_of line = if nat_le (length line) 2100000 then command_of_words (words line) else None

-- what a line was found to be, as the grammar has it
abbrev pub parsed : Parsed → Option Command
parsed (Good c) = Some c
parsed Bad = None

-- the commands of a script; None for a line that is none
abbrev pub commands : List ℕ → List (Option Command)
commands bytes = map command_of (lines bytes)
