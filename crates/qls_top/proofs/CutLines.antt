-- Lines of a script that is read in pieces.
use Rattle.std.proofs.Common.{◌≡◌, ℕ, zero, suc, ◌||◌, ◌+◌, ◌-◌, ◌<◌, ◌≤◌, Bool, true, false, cond, eqb, List, [], ◌∷◌, ◌++◌, length, take, drop, refl, sym, ap, ◌∙◌, arith, append_assoc, take-append-drop, length-append, length-take, Option, Some, None}
use Rattle.std.proofs.Math.Seq.{take-append-add}
use Rattle.std.proofs.lemmas.List.{length-take-le, take_all, drop-take, drop-drop}
use borrow.Author.Tests.{ltb-true, ltb-false}
use Rattle.qls_command.specs.Lines.{lines, onto_first}
use Rattle.std.proofs.Common.{Ok, nat_lt, not, append-nil, lit<, ◌==◌}
use Rattle.std.proofs.lemmas.List.Folds.{list_any-append}
use Rattle.std.proofs.lemmas.Bool.{or_from}
use Rattle.qls_site.specs.Content.{Gives, Takes}
use Rattle.qls_site.specs.declared.source.SourceError.{SourceError}
use Rattle.qls_top.specs.Cutting.{Cutter, has_feed, kept_of_line, Counted, Refills, HasPart, SoFar, TakesPart, Cuts, CutsTold}

-- ---- what is kept of a line

pub kept_whole : (n : ℕ) (l m : List ℕ) → length l + length m ≤ n → l ++ m ≡ take n (l ++ m)
kept_whole n l m h = sym (take_all n (l ++ m) (omega (arith, length-append l m)))

pub kept_front : (n : ℕ) (l m : List ℕ) (room : ℕ) → length l + room ≡ n → l ++ take room m ≡ take n (l ++ m)
kept_front n l m room h = sym (take-append-add l m room) ∙ ap (λ k. take k (l ++ m)) h

-- what is kept of the front is enough to keep the whole
pub kept_again : (n : ℕ) (l m : List ℕ) → take n (take n l ++ m) ≡ take n (l ++ m)
kept_again zero l m = refl
kept_again (suc n) [] m = refl
kept_again (suc n) (x ∷ l) m = ap (λ (t : List ℕ). x ∷ t) (kept_again n l m)

-- what waits behind the first k bytes that wait
pub rest_waiting : (from to k : ℕ) (piece : List ℕ) → from + k ≤ to → drop k (take (to - from) (drop from piece)) ≡ take (to - (from + k)) (drop (from + k) piece)
rest_waiting from to k piece h =
    let n : ℕ = to - (from + k) in
    let size : to - from ≡ k + n = omega arith in
    ap (λ m. drop k (take m (drop from piece))) size ∙ drop-take k n (drop from piece) ∙ ap (take n) (drop-drop k from piece)

-- ---- lines

not_feed : (b : ℕ) (bs : List ℕ) → has_feed (b ∷ bs) ≡ false → (eqb b 10 ≡ false) × (has_feed bs ≡ false)
not_feed b bs h = elim (eqb b 10) as (λ t. t || has_feed bs ≡ false → (t ≡ false) × (has_feed bs ≡ false)) [ true ↦ λ e. absurd (cc) | false ↦ λ e. (refl, e) ] h

pub lines-feed : (l r : List ℕ) → has_feed l ≡ false → lines (l ++ 10 ∷ r) ≡ l ∷ lines r
lines-feed [] r h = refl
lines-feed (b ∷ l) r h = let n = not_feed b l h in
    ap (λ t. cond t ([] ∷ lines (l ++ 10 ∷ r)) (onto_first b (lines (l ++ 10 ∷ r)))) n.0 ∙ ap (onto_first b) (lines-feed l r n.1)

pub lines-last : (b : ℕ) (l : List ℕ) → has_feed (b ∷ l) ≡ false → lines (b ∷ l) ≡ (b ∷ l) ∷ []
lines-last b [] h = let n = not_feed b [] h in ap (λ t. cond t ([] ∷ []) ((b ∷ []) ∷ [])) n.0
lines-last b (c ∷ l) h = let n = not_feed b (c ∷ l) h in
    ap (λ t. cond t ([] ∷ lines (c ∷ l)) (onto_first b (lines (c ∷ l)))) n.0 ∙ ap (onto_first b) (lines-last c l n.1)

-- ---- reading on

read_some : (l m into items : List ℕ) (n budget : ℕ) → Takes l m into n → n ≤ length into → take n items ≡ take n into → (b : Bool) → nat_lt 0 n ≡ b
    → Refills (Some l) (record { waiting = take (n - 0) (drop 0 items); budget = budget }) (Some m) b
read_some l m into items n budget takes fits same true e =
    let none : n - 0 ≡ n = omega arith in
    let more : 0 < n = ltb-true 0 n e in
    let size : length (take n into) ≡ n = length-take-le n into fits in (
      sym (take-append-drop n l) ∙ ap (λ t. t ++ drop n l) (sym takes.bytes) ∙ ap (λ t. take n into ++ t) (sym takes.rest) ∙ ap (λ t. t ++ m) (sym same) ∙ ap (λ k. take k items ++ m) (sym none),
      omega (arith, ap (λ k. length (take k items)) none, ap length same, size),
    )
read_some l m into items n budget takes fits same false e =
    let zero_read : n ≡ 0 = omega (arith, ltb-false 0 n e) in
    let none : n - 0 ≡ 0 = omega arith in
    (takes.end zero_read, takes.rest ∙ ap (drop n) (takes.end zero_read) ∙ nothing n, ap (λ k. take k items) none)
  where
    nothing : (k : ℕ) → drop {A = ℕ} k [] ≡ []
    nothing zero = refl
    nothing (suc k) = refl

pub refilled : (l m : Option (List ℕ)) (into items : List ℕ) (n budget : ℕ) → Gives {E = SourceError} l m into (Ok n) → n ≤ length into → take n items ≡ take n into
    → Refills l (record { waiting = take (n - 0) (drop 0 items); budget = budget }) m (nat_lt 0 n)
refilled None None into items n budget gives fits same = elim (nat_lt 0 n) as (λ b. Refills None (record { waiting = take (n - 0) (drop 0 items); budget = budget }) None b) [ true ↦ tt | false ↦ tt ]
refilled None (Some m) into items n budget gives fits same = absurd gives
refilled (Some l) None into items n budget gives fits same = absurd gives
refilled (Some l) (Some m) into items n budget gives fits same = read_some l m into items n budget gives fits same (nat_lt 0 n) refl

-- ---- a line in parts

has_feed-append : (a b : List ℕ) → has_feed a ≡ false → has_feed b ≡ false → has_feed (a ++ b) ≡ false
has_feed-append a b x y = list_any-append (λ b. b == 10) a b ∙ or_from (has_feed a) (has_feed b) x y

kept_joined : (part more line kept : List ℕ) → line ≡ kept_of_line part → kept ≡ kept_of_line (line ++ more) → kept ≡ kept_of_line (part ++ more)
kept_joined part more line kept e h = h ∙ ap (λ t. take 2100001 (t ++ more)) e ∙ kept_again 2100001 part more

part_ended : (old waiting rest m line kept : List ℕ) → HasPart old (waiting ++ m) line → TakesPart waiting rest line kept true → Cuts old (rest ++ m) kept true
part_ended old waiting rest m line kept h t =
    let all : List ℕ = h.0 ++ t.0 in (
      all,
      ap lines (h.1 ∙ ap (λ w. h.0 ++ (w ++ m)) t.1 ∙ ap (λ w. h.0 ++ w) (append_assoc t.0 (10 ∷ rest) m) ∙ sym (append_assoc h.0 t.0 (10 ∷ rest ++ m)))
          ∙ lines-feed all (rest ++ m) (has_feed-append h.0 t.0 h.2 t.2),
      kept_joined h.0 t.0 line kept h.3 t.3,
    )

pub line_ended : (old mid : Cutter) (l m : Option (List ℕ)) (new : Cutter) (line kept : List ℕ) → SoFar old l mid m line → TakesPart mid.waiting new.waiting line kept true
    → CutsTold old l new m kept true
line_ended old mid None None new line kept s t = tt
line_ended old mid None (Some m) new line kept s t = absurd s
line_ended old mid (Some l) None new line kept s t = absurd s
line_ended old mid (Some l) (Some m) new line kept s t = part_ended (old.waiting ++ l) mid.waiting new.waiting m line kept s t

part_longer : (old waiting m line kept : List ℕ) → HasPart old (waiting ++ m) line → has_feed waiting ≡ false → kept ≡ kept_of_line (line ++ waiting) → HasPart old m kept
part_longer old waiting m line kept h n k =
    (h.0 ++ waiting, h.1 ∙ sym (append_assoc h.0 waiting m), has_feed-append h.0 waiting h.2 n, kept_joined h.0 waiting line kept h.3 k)

-- what waited belongs to the line, and more was read
pub line_goes_on : (old mid next new : Cutter) (l m k : Option (List ℕ)) (line kept : List ℕ) → SoFar old l mid m line → TakesPart mid.waiting next.waiting line kept false
    → Refills m new k true → SoFar old l new k kept
line_goes_on old mid next new None None None line kept s t r = tt
line_goes_on old mid next new None None (Some k) line kept s t r = absurd r
line_goes_on old mid next new None (Some m) k line kept s t r = absurd s
line_goes_on old mid next new (Some l) None k line kept s t r = absurd s
line_goes_on old mid next new (Some l) (Some m) None line kept s t r = absurd r
line_goes_on old mid next new (Some l) (Some m) (Some k) line kept s t r =
    let p = part_longer (old.waiting ++ l) mid.waiting m line kept s t.1 t.2 in
    (p.0, p.1 ∙ ap (λ w. p.0 ++ w) r.0, p.2, p.3)

differ : true ≡ false → ⊥
differ e = cc

eqb_not : (n : ℕ) → n ≡ 0 → eqb n 0 ≡ false → ⊥
eqb_not n z e = differ (sym (ap (λ k. eqb k 0) z) ∙ e)

-- what is kept of a line with a byte has a byte
kept_some : (n : ℕ) (x : ℕ) (part : List ℕ) → 0 < n → eqb (length (take n (x ∷ part))) 0 ≡ false
kept_some zero x part h = absurd (omega arith)
kept_some (suc n) x part h = grind arith

last_part : (old new line part : List ℕ) → old ≡ part → new ≡ [] → has_feed part ≡ false → line ≡ kept_of_line part → (b : Bool) → b ≡ eqb (length line) 0 → Cuts old new line (not b)
last_part old new line [] o n f k true e = (o, n)
last_part old new line [] o n f k false e = let none : length line ≡ 0 = ap length k in absurd (eqb_not (length line) none (sym e))
last_part old new line (x ∷ part) o n f k true e = absurd (differ (e ∙ ap (λ (t : List ℕ). eqb (length t) 0) k ∙ kept_some 2100001 x part (lit< tt)))
last_part old new line (x ∷ part) o n f k false e = (x ∷ part, ap lines o ∙ lines-last x part f ∙ ap (λ (t : List ℕ). (x ∷ part) ∷ lines t) (sym n), k)

pub line_is_last : (old mid next new : Cutter) (l m k : Option (List ℕ)) (line kept : List ℕ) (b : Bool) → SoFar old l mid m line → TakesPart mid.waiting next.waiting line kept false
    → Refills m new k false → b ≡ eqb (length kept) 0 → CutsTold old l new k kept (not b)
line_is_last old mid next new None None None line kept b s t r e = tt
line_is_last old mid next new None None (Some k) line kept b s t r e = absurd r
line_is_last old mid next new None (Some m) k line kept b s t r e = absurd s
line_is_last old mid next new (Some l) None k line kept b s t r e = absurd s
line_is_last old mid next new (Some l) (Some m) None line kept b s t r e = absurd r
line_is_last old mid next new (Some l) (Some m) (Some k) line kept b s t r e =
    let p = part_longer (old.waiting ++ l) mid.waiting m line kept s t.1 t.2 in
    last_part (old.waiting ++ l) (new.waiting ++ k) kept p.0 (p.1 ∙ ap (λ w. p.0 ++ w) r.0 ∙ append-nil p.0) (ap (λ w. w ++ k) r.2 ∙ r.1) p.2 p.3 b e

pub kept_length : (waiting rest line kept : List ℕ) (b : Bool) → TakesPart waiting rest line kept b → length kept ≤ 2100001
kept_length waiting rest line kept true t = omega (arith, ap length t.3, length-take 2100001 (line ++ t.0))
kept_length waiting rest line kept false t = omega (arith, ap length t.2, length-take 2100001 (line ++ waiting))

pub rest_spent : (waiting rest line kept : List ℕ) → TakesPart waiting rest line kept false → (length kept ≤ length waiting + length line) × (rest ≡ [])
rest_spent waiting rest line kept t = (omega (arith, ap length t.2, length-take 2100001 (line ++ waiting), length-append line waiting), t.0)

pub counted_then : (a b c : ℕ) (l m k : Option (List ℕ)) (x y : Bool) → Counted a l b m (Ok x) → Counted b m c k (Ok y) → Counted a l c k (Ok x)
counted_then a b c None None None x y p q = tt
counted_then a b c None None (Some k) x y p q = absurd q
counted_then a b c None (Some m) k x y p q = absurd p
counted_then a b c (Some l) None k x y p q = absurd p
counted_then a b c (Some l) (Some m) None x y p q = absurd q
counted_then a b c (Some l) (Some m) (Some k) x y p q = omega (arith, p, q)
