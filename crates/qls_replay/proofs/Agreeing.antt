-- The table of operations agrees with the held records, after each record of a queue.
use Rattle.std.proofs.Common.{◌≡◌, ℕ, ◌+◌, ◌<◌, Bool, true, false, not, ◌||◌, ◌&&◌, ◌==◌, cond, List, [], ◌∷◌, ◌++◌, Option, Some, None, refl, ap, sym, ◌∙◌, arith}
use Rattle.std.specs.List.{cons_option}
use Rattle.std.proofs.lemmas.List.Folds.{list_any-append}
use Rattle.std.proofs.lemmas.List.Elements.{filter_map-append}
use Rattle.qls_model.specs.Bytes.{same}
use Rattle.qls_model.specs.Machine.{is_ready}
use Rattle.qls_model.specs.Messages.{left_by, only}
use Rattle.qls_model.proofs.XidKeys.{same_true}
use Rattle.qls_model.specs.declared.machine.Status.{Status}
use Rattle.qls_model.specs.declared.machine.Status.TheVariants.{Ready, Coming, Going}
use Rattle.qls_model.specs.declared.machine.Verdict.TheVariants.{Doubt}
use Rattle.qls_enqmap.specs.declared.Held.{Held}
use Rattle.qls_enqmap.specs.Records.{RidsFrom, held_at, with_status, without}
use Rattle.qls_txnmap.specs.declared.Op.{Op}
use Rattle.qls_txnmap.specs.declared.Op.TheVariants.{Put, Take}
use Rattle.qls_txnmap.specs.Pending.{Table, ops_of, ops_with, ops_without}
use Rattle.qls_replay.specs.Held.{message_of, held_as, ended_held}
use Rattle.qls_replay.specs.Ops.{op_by_status, op_by, ops_in, same_op, has_op, verdict_if, Agrees}

-- ---- same xids

same_by : (a b : Bool) (x y : List ℕ) → a ≡ same x y → b ≡ same y x → same x y ≡ same y x
same_by true b x y e f = let q = same_true x y (sym e) in ap (λ z. same x z) (sym q) ∙ ap (λ z. same z x) q
same_by false true x y e f = let q = same_true y x (sym f) in ap (λ z. same x z) q ∙ ap (λ z. same z x) (sym q)
same_by false false x y e f = sym e ∙ f

pub same_turned : (x y : List ℕ) → same x y ≡ same y x
same_turned x y = same_by (same x y) (same y x) x y refl refl

-- ---- after the end of x

none_if_ready : (y : List ℕ) (s : Status) (rid : ℕ) → s ≡ Ready → op_by_status y rid s ≡ None
none_if_ready y s rid e = ap (λ q. op_by_status y rid q) e

-- a record of x: it shows nothing afterwards, and showed nothing by another
of_x : (b : Bool) (p : Option Op) (tl tail : List Op) → (b ≡ false → p ≡ None) → tl ≡ cond b [] tail → tl ≡ cond b [] (cons_option p tail)
of_x true p tl tail n e = e
of_x false p tl tail n e = e ∙ ap (λ o. cons_option o tail) (sym (n refl))

-- a record of none or of another: it shows the same, and nothing by x
of_other : (b : Bool) (p : Option Op) (tl tail : List Op) → (b ≡ true → p ≡ None) → tl ≡ cond b [] tail → cons_option p tl ≡ cond b [] (cons_option p tail)
of_other true p tl tail n e = ap (λ o. cons_option o tl) (n refl) ∙ e
of_other false p tl tail n e = ap (λ l. cons_option p l) e

by_another : (d : Bool) (rid : ℕ) (op : Op) → d ≡ false → cond d (Some op) None ≡ None
by_another d rid op e = ap (λ b. cond b (Some op) None) e

-- y is not z where z is x and y is not
not_by : (x y z : List ℕ) → same x z ≡ true → same x y ≡ false → same y z ≡ false
not_by x y z e f = ap (λ w. same y w) (sym (same_true x z e)) ∙ same_turned y x ∙ f

-- and y is not z where y is x and z is not
nor_by : (x y z : List ℕ) → same x z ≡ false → same x y ≡ true → same y z ≡ false
nor_by x y z e f = ap (λ w. same w z) (sym (same_true x y f)) ∙ e

coming_after : (d c : Bool) (x y z : List ℕ) (h : Held) (hs gs : List Held) → d ≡ same x z → Coming z ≡ h.status → ops_in y gs ≡ cond (same x y) [] (ops_in y hs)
    → ops_in y (cons_option (held_as h (left_by (λ w. cond d (verdict_if c) Doubt) (Coming z) (message_of h))) gs) ≡ cond (same x y) [] (cons_option (op_by y h) (ops_in y hs))
coming_after true true x y z h hs gs e s i = of_x (same x y) (op_by y h) (ops_in y gs) (ops_in y hs) (λ n. ap (λ q. op_by_status y h.rid q) (sym s) ∙ by_another (same y z) h.rid (Put h.rid) (not_by x y z (sym e) n)) i
coming_after true false x y z h hs gs e s i = of_x (same x y) (op_by y h) (ops_in y gs) (ops_in y hs) (λ n. ap (λ q. op_by_status y h.rid q) (sym s) ∙ by_another (same y z) h.rid (Put h.rid) (not_by x y z (sym e) n)) i
coming_after false c x y z h hs gs e s i = of_other (same x y) (op_by y h) (ops_in y gs) (ops_in y hs) (λ n. ap (λ q. op_by_status y h.rid q) (sym s) ∙ by_another (same y z) h.rid (Put h.rid) (nor_by x y z (sym e) n)) i

going_after : (d c : Bool) (x y z : List ℕ) (h : Held) (hs gs : List Held) → d ≡ same x z → Going z ≡ h.status → ops_in y gs ≡ cond (same x y) [] (ops_in y hs)
    → ops_in y (cons_option (held_as h (left_by (λ w. cond d (verdict_if c) Doubt) (Going z) (message_of h))) gs) ≡ cond (same x y) [] (cons_option (op_by y h) (ops_in y hs))
going_after true true x y z h hs gs e s i = of_x (same x y) (op_by y h) (ops_in y gs) (ops_in y hs) (λ n. ap (λ q. op_by_status y h.rid q) (sym s) ∙ by_another (same y z) h.rid (Take h.rid) (not_by x y z (sym e) n)) i
going_after true false x y z h hs gs e s i = of_x (same x y) (op_by y h) (ops_in y gs) (ops_in y hs) (λ n. ap (λ q. op_by_status y h.rid q) (sym s) ∙ by_another (same y z) h.rid (Take h.rid) (not_by x y z (sym e) n)) i
going_after false c x y z h hs gs e s i = of_other (same x y) (op_by y h) (ops_in y gs) (ops_in y hs) (λ n. ap (λ q. op_by_status y h.rid q) (sym s) ∙ by_another (same y z) h.rid (Take h.rid) (nor_by x y z (sym e) n)) i

one_after : (s : Status) (c : Bool) (x y : List ℕ) (h : Held) (hs gs : List Held) → s ≡ h.status → ops_in y gs ≡ cond (same x y) [] (ops_in y hs)
    → ops_in y (cons_option (held_as h (left_by (only x (verdict_if c)) s (message_of h))) gs) ≡ cond (same x y) [] (cons_option (op_by y h) (ops_in y hs))
one_after Ready c x y h hs gs s i = of_other (same x y) (op_by y h) (ops_in y gs) (ops_in y hs) (λ n. none_if_ready y h.status h.rid (sym s)) i
one_after (Coming z) c x y h hs gs s i = coming_after (same x z) c x y z h hs gs refl s i
one_after (Going z) c x y h hs gs s i = going_after (same x z) c x y z h hs gs refl s i

none_either : (b : Bool) → ops_in [] [] ≡ cond b [] (ops_in [] [])
none_either true = refl
none_either false = refl

ops_ended : (c : Bool) (x y : List ℕ) (hs : List Held) → ops_in y (ended_held x (verdict_if c) hs) ≡ cond (same x y) [] (ops_in y hs)
ops_ended c x y [] = none_either (same x y)
ops_ended c x y (h ∷ hs) = one_after h.status c x y h hs (ended_held x (verdict_if c) hs) refl (ops_ended c x y hs)

has_if : (b : Bool) (op : Op) (ops : List Op) (gs : List Op) → has_op op ops ≡ has_op op gs → has_op op (cond b [] ops) ≡ has_op op (cond b [] gs)
has_if true op ops gs e = refl
has_if false op ops gs e = e

pub agrees_ended : (c : Bool) (x : List ℕ) (hs us : List Held) (t u : Table) → Agrees hs t → us ≡ ended_held x (verdict_if c) hs → ((y : List ℕ) → ops_of y u ≡ ops_without x t y) → Agrees us u
agrees_ended c x hs us t u a e f y op =
    ap (has_op op) (f y) ∙ has_if (same x y) op (ops_of y t) (ops_in y hs) (a y op) ∙ ap (has_op op) (sym (ap (ops_in y) e ∙ ops_ended c x y hs))

-- ---- after a take without a transaction

two_ops : (p : Option Op) (ps bs : List Op) → ps ≡ bs → cons_option p ps ≡ cons_option p bs
two_ops p ps bs e = ap (λ l. cons_option p l) e

below_apart : (n m : ℕ) → n < m → (m == n) ≡ false
below_apart n m l = grind arith

next_below : (a n : ℕ) → true ≡ (a == n) → n < a + 1
next_below a n e = grind arith

without_low : (n m : ℕ) (hs : List Held) → n < m → RidsFrom m hs → without n hs ≡ hs
without_low n m [] l r = refl
without_low n m (h ∷ hs) l r =
    ap (λ b. cond (not b) (h ∷ without n hs) (without n hs)) (below_apart n h.rid (omega (arith, r.0))) ∙ ap (λ l. h ∷ l) (without_low n (h.rid + 1) hs (omega (arith, r.0)) r.1)

status_low : (n m : ℕ) (s : Status) (hs : List Held) → n < m → RidsFrom m hs → with_status n s hs ≡ hs
status_low n m s [] l r = refl
status_low n m s (h ∷ hs) l r =
    ap (λ b. cond b (record h { status = s }) h ∷ with_status n s hs) (below_apart n h.rid (omega (arith, r.0))) ∙ ap (λ l. h ∷ l) (status_low n (h.rid + 1) s hs (omega (arith, r.0)) r.1)

pub is_ready_then : (s : Status) → is_ready s ≡ true → s ≡ Ready
is_ready_then Ready e = refl
is_ready_then (Coming x) e = absurd (cc)
is_ready_then (Going x) e = absurd (cc)

gone_by : (b : Bool) (n : ℕ) (y : List ℕ) (g h : Held) (hs : List Held) → b ≡ (g.rid == n) → cond b (Some g) (held_at n hs) ≡ Some h → is_ready h.status ≡ true → RidsFrom (g.rid + 1) hs
    → (held_at n hs ≡ Some h → ops_in y (without n hs) ≡ ops_in y hs) → ops_in y (cond (not b) (g ∷ without n hs) (without n hs)) ≡ cons_option (op_by y g) (ops_in y hs)
gone_by true n y g h hs e f s r i =
    let z : g ≡ h = (cc) in
    ap (ops_in y) (without_low n (g.rid + 1) hs (next_below g.rid n e) r)
    ∙ ap (λ o. cons_option o (ops_in y hs)) (sym (none_if_ready y g.status g.rid (is_ready_then g.status (ap (λ (k : Held). is_ready k.status) z ∙ s))))
gone_by false n y g h hs e f s r i = two_ops (op_by y g) (ops_in y (without n hs)) (ops_in y hs) (i f)

ops_gone : (n m : ℕ) (y : List ℕ) (h : Held) (hs : List Held) → RidsFrom m hs → held_at n hs ≡ Some h → is_ready h.status ≡ true → ops_in y (without n hs) ≡ ops_in y hs
ops_gone n m y h [] r f s = refl
ops_gone n m y h (g ∷ hs) r f s = gone_by (g.rid == n) n y g h hs refl f s r.1 (λ k. ops_gone n (g.rid + 1) y h hs r.1 k s)

pub agrees_gone : (n : ℕ) (h : Held) (hs us : List Held) (t : Table) → Agrees hs t → RidsFrom 0 hs → held_at n hs ≡ Some h → is_ready h.status ≡ true → us ≡ without n hs → Agrees us t
agrees_gone n h hs us t a r f s e y op = a y op ∙ ap (has_op op) (sym (ap (ops_in y) e ∙ ops_gone n 0 y h hs r f s))

-- ---- after a take by a transaction

or_swap : (a b : Bool) → (a || b) ≡ (b || a)
or_swap true true = refl
or_swap true false = refl
or_swap false true = refl
or_swap false false = refl

or_none : (a : Bool) → a ≡ (a || false)
or_none true = refl
or_none false = refl

or_assoc : (a b c : Bool) → (a || (b || c)) ≡ ((a || b) || c)
or_assoc true b c = refl
or_assoc false b c = refl

now_going : (d : Bool) (n : ℕ) (op : Op) (tail : List Op) → has_op op (cons_option (cond d (Some (Take n)) None) tail) ≡ (has_op op tail || (d && same_op op (Take n)))
now_going true n op tail = or_swap (same_op op (Take n)) (has_op op tail)
now_going false n op tail = or_none (has_op op tail)

more_ops : (p : Option Op) (op : Op) (ps bs : List Op) (z : Bool) → has_op op ps ≡ (has_op op bs || z) → has_op op (cons_option p ps) ≡ (has_op op (cons_option p bs) || z)
more_ops None op ps bs z e = e
more_ops (Some o) op ps bs z e = ap (λ b. same_op op o || b) e ∙ or_assoc (same_op op o) (has_op op bs) z

same_nat : (a n : ℕ) → true ≡ (a == n) → a ≡ n
same_nat a n e = grind arith

going_by : (b : Bool) (n : ℕ) (x y : List ℕ) (op : Op) (g h : Held) (hs : List Held) → b ≡ (g.rid == n) → cond b (Some g) (held_at n hs) ≡ Some h → is_ready h.status ≡ true → RidsFrom (g.rid + 1) hs
    → (held_at n hs ≡ Some h → has_op op (ops_in y (with_status n (Going x) hs)) ≡ (has_op op (ops_in y hs) || (same y x && same_op op (Take n))))
    → has_op op (ops_in y (cond b (record g { status = Going x }) g ∷ with_status n (Going x) hs)) ≡ (has_op op (cons_option (op_by y g) (ops_in y hs)) || (same y x && same_op op (Take n)))
going_by true n x y op g h hs e f s r i =
    let z : g ≡ h = (cc) in
    ap (λ l. has_op op (cons_option (op_by_status y g.rid (Going x)) (ops_in y l))) (status_low n (g.rid + 1) (Going x) hs (next_below g.rid n e) r)
    ∙ ap (λ k. has_op op (cons_option (op_by_status y k (Going x)) (ops_in y hs))) (same_nat g.rid n e)
    ∙ now_going (same y x) n op (ops_in y hs)
    ∙ ap (λ o. has_op op (cons_option o (ops_in y hs)) || (same y x && same_op op (Take n))) (sym (none_if_ready y g.status g.rid (is_ready_then g.status (ap (λ (k : Held). is_ready k.status) z ∙ s))))
going_by false n x y op g h hs e f s r i = more_ops (op_by y g) op (ops_in y (with_status n (Going x) hs)) (ops_in y hs) (same y x && same_op op (Take n)) (i f)

ops_going : (n m : ℕ) (x y : List ℕ) (op : Op) (h : Held) (hs : List Held) → RidsFrom m hs → held_at n hs ≡ Some h → is_ready h.status ≡ true
    → has_op op (ops_in y (with_status n (Going x) hs)) ≡ (has_op op (ops_in y hs) || (same y x && same_op op (Take n)))
ops_going n m x y op h [] r f s = absurd (cc)
ops_going n m x y op h (g ∷ hs) r f s = going_by (g.rid == n) n x y op g h hs refl f s r.1 (λ k. ops_going n (g.rid + 1) x y op h hs r.1 k s)

one_more : (b : Bool) (op o : Op) (ps : List Op) (z : Bool) → has_op op ps ≡ z → has_op op (cond b (ps ++ o ∷ []) ps) ≡ (z || (b && same_op op o))
one_more true op o ps z e = list_any-append (same_op op) ps (o ∷ []) ∙ ap (λ b. b || (same_op op o || false)) e ∙ ap (λ b. z || b) (sym (or_none (same_op op o)))
one_more false op o ps z e = e ∙ or_none z

pub agrees_going : (n : ℕ) (x : List ℕ) (h : Held) (hs us : List Held) (t u : Table) → Agrees hs t → RidsFrom 0 hs → held_at n hs ≡ Some h → is_ready h.status ≡ true
    → us ≡ with_status n (Going x) hs → ((y : List ℕ) → ops_of y u ≡ ops_with x (Take n) t y) → Agrees us u
agrees_going n x h hs us t u a r f s e g y op =
    ap (has_op op) (g y) ∙ one_more (same x y) op (Take n) (ops_of y t) (has_op op (ops_in y hs)) (a y op)
    ∙ ap (λ b. has_op op (ops_in y hs) || (b && same_op op (Take n))) (same_turned x y)
    ∙ sym (ap (λ l. has_op op (ops_in y l)) e ∙ ops_going n 0 x y op h hs r f s)

-- ---- after an enqueue

has_end : (y : List ℕ) (op : Op) (hs : List Held) (h : Held) → has_op op (ops_in y (hs ++ h ∷ [])) ≡ (has_op op (ops_in y hs) || has_op op (cons_option (op_by y h) []))
has_end y op hs h = ap (has_op op) (filter_map-append (op_by y) hs (h ∷ [])) ∙ list_any-append (same_op op) (ops_in y hs) (cons_option (op_by y h) [])

pub agrees_put : (h : Held) (hs us : List Held) (t : Table) → Agrees hs t → h.status ≡ Ready → us ≡ hs ++ h ∷ [] → Agrees us t
agrees_put h hs us t a s e y op =
    a y op ∙ or_none (has_op op (ops_in y hs)) ∙ ap (λ o. has_op op (ops_in y hs) || has_op op (cons_option o [])) (sym (none_if_ready y h.status h.rid s))
    ∙ sym (ap (λ l. has_op op (ops_in y l)) e ∙ has_end y op hs h)

coming_one : (d : Bool) (op o : Op) → (d && same_op op o) ≡ has_op op (cons_option (cond d (Some o) None) [])
coming_one true op o = or_none (same_op op o)
coming_one false op o = refl

pub agrees_coming : (x : List ℕ) (h : Held) (hs us : List Held) (t u : Table) → Agrees hs t → h.status ≡ Coming x → us ≡ hs ++ h ∷ [] → ((y : List ℕ) → ops_of y u ≡ ops_with x (Put h.rid) t y) → Agrees us u
agrees_coming x h hs us t u a s e g y op =
    ap (has_op op) (g y) ∙ one_more (same x y) op (Put h.rid) (ops_of y t) (has_op op (ops_in y hs)) (a y op)
    ∙ ap (λ b. has_op op (ops_in y hs) || (b && same_op op (Put h.rid))) (same_turned x y)
    ∙ ap (λ b. has_op op (ops_in y hs) || b) (coming_one (same y x) op (Put h.rid) ∙ ap (λ q. has_op op (cons_option (op_by_status y h.rid q) [])) (sym s))
    ∙ sym (ap (λ l. has_op op (ops_in y l)) e ∙ has_end y op hs h)
