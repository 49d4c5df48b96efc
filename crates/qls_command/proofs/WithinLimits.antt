-- The command of a line is within the limits.
use Rattle.std.proofs.Common.{◌≡◌, ℕ, Bool, true, false, ◌&&◌, List, [], ◌∷◌, length, refl, arith, Option, Some, None, Result, Ok, Err, nat_le, codes, if◌then◌else◌, IfSome, IsTrue}
use Rattle.hex.specs.Hex.{decode_of}
use Rattle.hex.specs.declared.error.FromHexError.{FromHexError}
use Rattle.hex.proofs.HexLemmas.{decode_of-ok}
use Rattle.qls_model.specs.Bytes.{same}
use Rattle.qls_model.specs.declared.machine.PoolId.{PoolId}
use Rattle.qls_model.specs.declared.machine.Command.{Command}
use Rattle.qls_model.specs.declared.machine.Command.TheVariants as command
use Rattle.qls_model.specs.Limits.{is_partition, is_kib, is_queue_name}
use Rattle.qls_command.specs.Within.{is_xid, is_body, is_home, is_by, IsWithin}
use Rattle.qls_command.specs.Lines.{◌>>=◌, where_true, decoded, number_of_word, message_number, name_of_word, xid_of_word, body_of_word, put_words, take_words, words, command_of_words, command_of}

abbrev Holds : Option Command → Type 0
Holds o = IfSome o IsWithin

holds_if : (b : Bool) (x y : Option Command) → Holds x → Holds y → Holds (if b then x else y)
holds_if true x y h g = h
holds_if false x y h g = g

holds_any : {A : Type 0} (o : Option A) (k : A → Option Command) → ((x : A) → Holds (k x)) → Holds (o >>= k)
holds_any None k h = tt
holds_any (Some x) k h = h x

holds_where : {A : Type 0} (b : Bool) (x : A) (k : A → Option Command) → (b ≡ true → Holds (k x)) → Holds (where_true b x >>= k)
holds_where true x k h = h refl
holds_where false x k h = tt

holds_name : (w : List ℕ) (k : List ℕ → Option Command) → (is_queue_name w ≡ true → Holds (k w)) → Holds (name_of_word w >>= k)
holds_name w k h = holds_where (is_queue_name w) w k h

-- hex of a size

holds_decoded : (limit : ℕ) (r : Result (List ℕ) FromHexError) (k : List ℕ → Option Command)
    → ((x : List ℕ) → r ≡ Ok x → nat_le (length x) limit ≡ true → Holds (k x))
    → Holds ((decoded r >>= λ x. where_true (nat_le (length x) limit) x) >>= k)
holds_decoded limit (Ok x) k h = holds_where (nat_le (length x) limit) x k (h x refl)
holds_decoded limit (Err e) k h = tt

holds_sized : (b : Bool) (limit : ℕ) (w : List ℕ) (k : List ℕ → Option Command)
    → (b ≡ true → (x : List ℕ) → decode_of w ≡ Ok x → nat_le (length x) limit ≡ true → Holds (k x))
    → Holds (((where_true b w >>= λ v. decoded (decode_of v)) >>= λ x. where_true (nat_le (length x) limit) x) >>= k)
holds_sized true limit w k h = holds_decoded limit (decode_of w) k (h refl)
holds_sized false limit w k h = tt

some_bytes : (w x : List ℕ) → nat_le 2 (length w) ≡ true → decode_of w ≡ Ok x → nat_le (length x) 128 ≡ true → is_xid x ≡ true
some_bytes w x two e few = let k = (decode_of-ok w x e).2 in grind (arith, k)

holds_xid : (w : List ℕ) (k : List ℕ → Option Command) → ((x : List ℕ) → is_xid x ≡ true → Holds (k x)) → Holds (xid_of_word w >>= k)
holds_xid w k h = holds_sized (nat_le 2 (length w)) 128 w k (λ two x e few. h x (some_bytes w x two e few))

holds_dash : (b : Bool) (o : Option (List ℕ)) (k : List ℕ → Option Command) → Holds (k []) → Holds (o >>= k) → Holds ((if b then Some [] else o) >>= k)
holds_dash true o k h g = h
holds_dash false o k h g = g

holds_body : (w : List ℕ) (k : List ℕ → Option Command) → ((x : List ℕ) → is_body x ≡ true → Holds (k x)) → Holds (body_of_word w >>= k)
holds_body w k h =
    holds_dash (same w (codes "-")) _ k (h [] refl) (holds_sized (nat_le 2 (length w)) 1048576 w k (λ two x e few. h x few))

holds_pool_of : (p q : Option ℕ) (k : PoolId → Option Command) → ((x : PoolId) → is_home (Some x) ≡ true → Holds (k x))
    → Holds ((p >>= λ part. q >>= λ kib. where_true (is_partition part && is_kib kib) (record { part = part; kib = kib })) >>= k)
holds_pool_of None q k h = tt
holds_pool_of (Some part) None k h = tt
holds_pool_of (Some part) (Some kib) k h =
    holds_where (is_partition part && is_kib kib) (record { part = part; kib = kib }) k (h (record { part = part; kib = kib }))

-- ---- commands

pub both : (a b : Bool) → a ≡ true → b ≡ true → IsTrue (a && b)
both a b h g = grind (arith, h, g)

pub three : (a b c : Bool) → a ≡ true → b ≡ true → c ≡ true → IsTrue (a && b && c)
three a b c h g f = grind (arith, h, g, f)

pub one : (a : Bool) → a ≡ true → IsTrue a
one a h = grind (arith, h)

holds_put : (n b : List ℕ) (xid : Option (List ℕ)) → is_by xid ≡ true → Holds (put_words n b xid)
holds_put n b xid by = holds_name n _ (λ name. holds_body b _ (λ x body. three (is_queue_name n) (is_body x) (is_by xid) name body by))

holds_take : (n k : List ℕ) (xid : Option (List ℕ)) → is_by xid ≡ true → Holds (take_words n k xid)
holds_take n k xid by = holds_name n _ (λ name. holds_any (message_number k) _ (λ number. both (is_queue_name n) (is_by xid) name by))

holds_by_xid : (w : List ℕ) (make : List ℕ → Command) → ((x : List ℕ) → is_xid x ≡ true → IsWithin (make x)) → Holds (xid_of_word w >>= λ x. Some (make x))
holds_by_xid w make h = holds_xid w (λ x. Some (make x)) h

pub holds_words : (ws : List (List ℕ)) → IfSome (command_of_words ws) IsWithin
holds_words [] = tt
holds_words (w ∷ []) = holds_if (same w (codes "doubt")) _ None (one true refl) tt
holds_words (w ∷ a ∷ []) =
    holds_if (same w (codes "queue")) _ _ (holds_name a _ (λ name. both (is_queue_name a) true name refl))
    (holds_if (same w (codes "drop")) _ _ (holds_name a _ (one (is_queue_name a)))
    (holds_if (same w (codes "list")) _ _ (holds_name a _ (one (is_queue_name a)))
    (holds_if (same w (codes "begin")) _ _ (holds_by_xid a command.Begin (λ x. one (is_xid x)))
    (holds_if (same w (codes "prepare")) _ _ (holds_by_xid a command.Prepare (λ x. one (is_xid x)))
    (holds_if (same w (codes "commit")) _ _ (holds_by_xid a command.Commit (λ x. one (is_xid x)))
    (holds_if (same w (codes "abort")) _ None (holds_by_xid a command.Abort (λ x. one (is_xid x))) tt))))))
holds_words (w ∷ a ∷ b ∷ []) =
    holds_if (same w (codes "put")) _ _ (holds_put a b None refl) (holds_if (same w (codes "take")) _ None (holds_take a b None refl) tt)
holds_words (w ∷ a ∷ b ∷ c ∷ []) =
    holds_if (same w (codes "queue")) _ None
    (holds_name a _ (λ name. holds_pool_of (number_of_word b) (number_of_word c) _ (λ home pool. both (is_queue_name a) (is_home (Some home)) name pool))) tt
holds_words (w ∷ a ∷ b ∷ c ∷ d ∷ []) =
    holds_if (same c (codes "in")) _ None
    (holds_xid d _ (λ x xid. holds_if (same w (codes "put")) _ _ (holds_put a b (Some x) xid) (holds_if (same w (codes "take")) _ None (holds_take a b (Some x) xid) tt))) tt
holds_words (w ∷ a ∷ b ∷ c ∷ d ∷ e ∷ ws) = tt

-- what is read of a line is within the limits
pub command_of-within : (line : List ℕ) → IfSome (command_of line) IsWithin
command_of-within line = holds_if (nat_le (length line) 2100000) _ None (holds_words (words line)) tt
