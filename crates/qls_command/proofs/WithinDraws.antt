-- The generated commands are within the limits.
use Rattle.std.proofs.Common.{◌≡◌, ℕ, zero, suc, ◌+◌, ◌-◌, ◌/◌, ◌%◌, ◌^◌, ◌<◌, Bool, true, false, ◌==◌, List, ◌++◌, length, refl, ap, arith, Option, Some, None, nat_lt, if◌then◌else◌, slice_index, All}
use Rattle.std.proofs.lemmas.List.Elements.{All-from_recursion, All-append, All-take}
use Rattle.std.specs.List.{AllByRecursion}
use Rattle.qls_model.specs.declared.machine.Command.{Command}
use Rattle.qls_model.specs.Limits.{is_queue_name}
use Rattle.qls_command.specs.Within.{is_xid, is_body, is_by, IsWithin}
use Rattle.qls_command.specs.Generated.{Drawn, queue_name, xid_of_number, body_from, puts_one, takes_one, ends_open, begins, lists_or_ends, drawn_command, with_next_number, drawn_from, begun, first_commands, generated}
use Rattle.qls_command.proofs.WithinLimits.{both, three, one}

name_at : (q : ℕ) → q < 4 → is_queue_name (queue_name (q + 1)) ≡ true
name_at zero h = refl
name_at (suc zero) h = refl
name_at (suc (suc zero)) h = refl
name_at (suc (suc (suc zero))) h = refl
name_at (suc (suc (suc (suc q)))) h = absurd (omega arith)

xid_at : (n : ℕ) → is_xid (xid_of_number n) ≡ true
xid_at n = refl

length-body_from : (m r : ℕ) → length (body_from m r) ≡ m
length-body_from zero r = refl
length-body_from (suc m) r = ap suc (length-body_from m (r + 1))

body_at : (r : ℕ) → is_body (body_from (r / 32 % 300) r) ≡ true
body_at r = let size = length-body_from (r / 32 % 300) r in grind (arith, size)

either_within : (b : Bool) (x y : Command × Drawn) → IsWithin x.0 → IsWithin y.0 → IsWithin (if b then x else y).0
either_within true x y h g = h
either_within false x y h g = g

within_put : (d : Drawn) (q r : ℕ) (xid : Option (List ℕ)) → q < 4 → is_by xid ≡ true → IsWithin (puts_one d q r xid).0
within_put d q r xid h by = three (is_queue_name (queue_name (q + 1))) (is_body (body_from (r / 32 % 300) r)) (is_by xid) (name_at q h) (body_at r) by

within_begin : (d : Drawn) (j q r : ℕ) (o : Option ℕ) → q < 4 → IsWithin (begins d j q r o).0
within_begin d j q r None h = one (is_xid (xid_of_number j)) (xid_at j)
within_begin d j q r (Some t) h = within_put d q r (Some (xid_of_number t)) h (xid_at t)

within_take : (d : Drawn) (q r : ℕ) → q < 4 → IsWithin (takes_one d q r).0
within_take d q r h =
    either_within (nat_lt (slice_index d.takes q) (slice_index d.puts q)) _ _
    (both (is_queue_name (queue_name (q + 1))) true (name_at q h) refl) (within_put d q r None h refl)

within_end : (n : ℕ) (x : List ℕ) → is_xid x ≡ true → IsWithin (ends_open n x)
within_end zero x h = one (is_xid x) h
within_end (suc zero) x h = one (is_xid x) h
within_end (suc (suc n)) x h = one (is_xid x) h

within_list : (d : Drawn) (q r : ℕ) (o : Option ℕ) → q < 4 → IsWithin (lists_or_ends d q r o).0
within_list d q r None h = one (is_queue_name (queue_name (q + 1))) (name_at q h)
within_list d q r (Some t) h = within_end (r / 32 % 4) (xid_of_number t) (xid_at t)

within_drawn : (d : Drawn) (j r : ℕ) → IsWithin (drawn_command d j r).0
within_drawn d j r =
    let q = r % 4 in
    let c = r / 4 % 8 in
    let four : q < 4 = omega arith in
    either_within (nat_lt c 4) _ _ (within_put d q r None four refl)
    (either_within (c == 4) _ _ (within_begin d j q r d.open_number four)
    (either_within (nat_lt c 7) _ _ (within_take d q r four) (within_list d q r d.open_number four)))

within_from : (d : Drawn) (j n : ℕ) → AllByRecursion IsWithin (drawn_from d j n)
within_from d j zero = tt
within_from d j (suc n) =
    let e = with_next_number d in
    let r = e.x / 2 ^ 33 in
    (within_drawn e j r, within_from (drawn_command e j r).1 (j + 1) n)

within_first : AllByRecursion IsWithin first_commands
within_first = (one true refl, (one true refl, (one true refl, (one true refl, tt))))

-- each of them
pub generated-within : (seed count : ℕ) → All IsWithin (generated seed count)
generated-within seed count =
    let drawn = drawn_from (begun seed) 5 (count - 4) in
    let four : All IsWithin first_commands = All-from_recursion IsWithin first_commands within_first in
    let rest : All IsWithin drawn = All-from_recursion IsWithin drawn (within_from (begun seed) 5 (count - 4)) in
    All-take IsWithin count (first_commands ++ drawn) (All-append IsWithin first_commands drawn four rest)
