-- The generated commands, one after another.
use Rattle.std.proofs.Common.{◌≡◌, ℕ, zero, suc, ◌+◌, ◌-◌, ◌/◌, ◌%◌, ◌^◌, ◌<◌, List, [], ◌∷◌, ◌++◌, length, take, refl, ap, sym, ◌∙◌, arith, Option, Some, None, if◌then◌else◌, nat_lt, slice_index, Bool, true, false, ◌==◌, min, append_assoc}
use Rattle.std.proofs.lemmas.Grind.{common_steps}
use Rattle.qls_model.specs.declared.machine.Command.{Command}
use Rattle.qls_model.specs.declared.machine.Command.TheVariants as command
use Rattle.qls_command.specs.Generated.{Drawn, queue_name, first_commands, body_from, drawn_from, drawn_command, takes_one, begins, lists_or_ends, with_next_number, raised, AllAtMost}

body_from-suc : (n m r next : ℕ) → n ≡ suc m → next ≡ r + 1 → body_from n r ≡ r % 256 ∷ body_from m next
body_from-suc n m r next e f = rw (e, f) refl

-- one byte more
pub body_from-step : (size place r : ℕ) → place < size → body_from (size - place) (r + place) ≡ (r + place) % 256 ∷ body_from (size - (place + 1)) (r + (place + 1))
body_from-step size place r h = body_from-suc (size - place) (size - (place + 1)) (r + place) (r + (place + 1)) (omega arith) (omega arith)

-- one queue more
pub first_commands-step : (i : ℕ) → i < 4 → take (i + 1) first_commands ≡ take i first_commands ++ command.Queue (queue_name (i + 1)) None ∷ []
first_commands-step zero h = refl
first_commands-step (suc zero) h = refl
first_commands-step (suc (suc zero)) h = refl
first_commands-step (suc (suc (suc zero))) h = refl
first_commands-step (suc (suc (suc (suc i)))) h = absurd (omega arith)

-- a count is raised by one at most
raised-at_most : (counts : List ℕ) (q n : ℕ) → AllAtMost n counts → AllAtMost (n + 1) (raised counts q)
raised-at_most counts q n h k = let here = h q in let there = h k in grind (arith, common_steps, here, there)

same_at_most : (counts : List ℕ) (n : ℕ) → AllAtMost n counts → AllAtMost (n + 1) counts
same_at_most counts n h k = omega (arith, h k)

either_at_most : (b : Bool) (x y : Command × Drawn) (n : ℕ) → AllAtMost n x.1.puts → AllAtMost n y.1.puts → AllAtMost n (if b then x else y).1.puts
either_at_most true x y n h g = h
either_at_most false x y n h g = g

takes_at_most : (d : Drawn) (q r n : ℕ) → AllAtMost n d.puts → AllAtMost (n + 1) (takes_one d q r).1.puts
takes_at_most d q r n h = either_at_most (nat_lt (slice_index d.takes q) (slice_index d.puts q)) _ _ (n + 1) (same_at_most d.puts n h) (raised-at_most d.puts q n h)

begins_at_most : (d : Drawn) (j q r n : ℕ) (o : Option ℕ) → AllAtMost n d.puts → AllAtMost (n + 1) (begins d j q r o).1.puts
begins_at_most d j q r n None h = same_at_most d.puts n h
begins_at_most d j q r n (Some t) h = raised-at_most d.puts q n h

ends_at_most : (d : Drawn) (q r n : ℕ) (o : Option ℕ) → AllAtMost n d.puts → AllAtMost (n + 1) (lists_or_ends d q r o).1.puts
ends_at_most d q r n None h = same_at_most d.puts n h
ends_at_most d q r n (Some t) h = same_at_most d.puts n h

pub drawn_command-at_most : (d : Drawn) (j r n : ℕ) → AllAtMost n d.puts → AllAtMost (n + 1) (drawn_command d j r).1.puts
drawn_command-at_most d j r n h =
    let q = r % 4 in
    let c = r / 4 % 8 in
    either_at_most (nat_lt c 4) _ _ (n + 1) (raised-at_most d.puts q n h)
    (either_at_most (c == 4) _ _ (n + 1) (begins_at_most d j q r n d.open_number h)
    (either_at_most (nat_lt c 7) _ _ (n + 1) (takes_at_most d q r n h) (ends_at_most d q r n d.open_number h)))

-- a draw made this command, and leaves this
abbrev pub Draws : Drawn → ℕ → Command → Drawn → Type 0
Draws d j c next = let e = with_next_number d in (c, next) ≡ drawn_command e j (e.x / 2 ^ 33)

drawn_from-suc : (d next : Drawn) (j n m : ℕ) (c : Command) → n ≡ suc m → Draws d j c next → drawn_from d j n ≡ c ∷ drawn_from next (j + 1) m
drawn_from-suc d next j n m c e draws = rw e (ap (λ (p : Command × Drawn). p.0 ∷ drawn_from p.1 (j + 1) m) (sym draws))

-- one command more
pub drawn_from-step : (commands new whole : List Command) (d next : Drawn) (j n m : ℕ) (c : Command) → n ≡ suc m → Draws d j c next
    → new ≡ commands ++ c ∷ [] → commands ++ drawn_from d j n ≡ whole → new ++ drawn_from next (j + 1) m ≡ whole
drawn_from-step commands new whole d next j n m c e draws put h =
    let more = drawn_from-suc d next j n m c e draws in
    rw put (append_assoc commands (c ∷ []) (drawn_from next (j + 1) m) ∙ ap (λ k. commands ++ k) (sym more) ∙ h)

pub length-drawn_from : (d : Drawn) (j n : ℕ) → length (drawn_from d j n) ≡ n
length-drawn_from d j zero = refl
length-drawn_from d j (suc n) =
    let e = with_next_number d in
    ap suc (length-drawn_from (drawn_command e j (e.x / 2 ^ 33)).1 (j + 1) n)

take_whole : (n : ℕ) (xs : List Command) → length xs ≡ n → take n xs ≡ xs
take_whole n xs h = grind (arith, common_steps, h)

no_more : (xs : List Command) → length xs ≡ 0 → xs ≡ []
no_more [] h = refl
no_more (x ∷ xs) h = absurd (omega arith)

-- the first commands and those drawn, cut at the count
pub generated-whole : (count : ℕ) (xs : List Command) → length xs ≡ count - 4 → take (min count 4) first_commands ++ xs ≡ take count (first_commands ++ xs)
generated-whole zero xs h = no_more xs h
generated-whole (suc zero) xs h = rw (no_more xs h) refl
generated-whole (suc (suc zero)) xs h = rw (no_more xs h) refl
generated-whole (suc (suc (suc zero))) xs h = rw (no_more xs h) refl
generated-whole (suc (suc (suc (suc n)))) xs h =
    let four : min (suc (suc (suc (suc n)))) 4 ≡ 4 = omega arith in
    let all : take n xs ≡ xs = take_whole n xs (omega arith) in
    rw (four, all) refl
