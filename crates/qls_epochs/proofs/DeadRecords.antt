-- What the records of a dead file made of a queue is gone behind the other records.
use Rattle.std.proofs.Common.{◌≡◌, ℕ, true, false, cond, ◌&&◌, ◌||◌, List, [], ◌∷◌, ◌++◌, map, Option, Some, None, refl, sym, ap, ◌∙◌, subst, arith, eqb, append_assoc, append-nil}
use Rattle.std.proofs.lemmas.Bool.Decides.{nat_tests}
use Rattle.std.specs.List.{filter_map, cons_option, list_any}
use Rattle.qls_model.specs.declared.machine.Status.{Status}
use Rattle.qls_model.specs.declared.machine.Status.TheVariants.{Ready, Coming, Going}
use Rattle.qls_model.specs.declared.machine.Message.{Message}
use Rattle.qls_model.specs.declared.machine.QueueState.{QueueState}
use Rattle.qls_model.specs.declared.machine.Verdict.{Verdict}
use Rattle.qls_model.specs.declared.machine.Verdict.TheVariants as verdict
use Rattle.qls_model.specs.Machine.{is_ready, put_message}
use Rattle.qls_model.specs.Messages.{left_by, after_coming, after_going, only}
use Rattle.qls_record.specs.declared.Kind.{Kind}
use Rattle.qls_record.specs.declared.Kind.TheVariants.{Enqueue, Dequeue, Commit, Abort, Filler}
use Rattle.qls_record.specs.Record.{Record, is_enqueue}
use Rattle.qls_meaning.specs.Replay.{xid_in, gone, left_by_take, after_record, queue_after}
use Rattle.qls_epochs.proofs.Replayed.{queue_both}
use Rattle.qls_laws.proofs.DeadQueue.{AllNumbered, EnqueuesHave, NotHeld}

-- ---- messages

-- what is left of a message has its number
abbrev Keeps : Option Message → Message → Type 0
Keeps None m = Unit {0}
Keeps (Some k) m = k.number ≡ m.number

gone_keeps : (xid : Option (List ℕ)) (m : Message) → Keeps (gone xid m) m
gone_keeps None m = tt
gone_keeps (Some x) m = refl

take_keeps : (target : ℕ) (xid : Option (List ℕ)) (m : Message) → Keeps (left_by_take target xid m) m
take_keeps target xid m = elim (eqb m.number target && is_ready m.status) as (λ b. Keeps (cond b (gone xid m) (Some m)) m) [ true ↦ gone_keeps xid m | false ↦ refl ]

coming_keeps : (v : Verdict) (m : Message) → Keeps (after_coming v m) m
coming_keeps verdict.Commit m = refl
coming_keeps verdict.Abort m = tt
coming_keeps verdict.Doubt m = refl

going_keeps : (v : Verdict) (m : Message) → Keeps (after_going v m) m
going_keeps verdict.Commit m = tt
going_keeps verdict.Abort m = refl
going_keeps verdict.Doubt m = refl

end_keeps : (v : List ℕ → Verdict) (s : Status) (m : Message) → Keeps (left_by v s m) m
end_keeps v Ready m = refl
end_keeps v (Coming x) m = coming_keeps (v x) m
end_keeps v (Going x) m = going_keeps (v x) m

kept_numbered : (P : ℕ → Type 0) (g : Message → Option Message) → ((m : Message) → Keeps (g m) m) → (ms : List Message) → AllNumbered P ms → AllNumbered P (filter_map g ms)
kept_numbered P g keeps [] h = tt
kept_numbered P g keeps (m ∷ ms) h = by (g m) (keeps m) (kept_numbered P g keeps ms h.1)
  where
    by : (o : Option Message) → Keeps o m → AllNumbered P (filter_map g ms) → AllNumbered P (cons_option o (filter_map g ms))
    by None k rest = rest
    by (Some x) k rest = (subst P (sym k) h.0, rest)

filtered_apart : (g : Message → Option Message) (ms ns : List Message) → filter_map g (ms ++ ns) ≡ filter_map g ms ++ filter_map g ns
filtered_apart g [] ns = refl
filtered_apart g (m ∷ ms) ns =
    ap (cons_option (g m)) (filtered_apart g ms ns) ∙ elim (g m) as (λ o. cons_option o (filter_map g ms ++ filter_map g ns) ≡ cons_option o (filter_map g ms) ++ filter_map g ns) [ None ↦ refl | Some x ↦ refl ]

-- ---- records

abbrev queue_with : List ℕ → ℕ → List Message → QueueState
queue_with name last ms = record { name = name; last = last; messages = ms }

-- what records leave of these messages stands before what they make of the others
record Apart (P : ℕ → Type 0) (rs : List Record) (name : List ℕ) (last : ℕ) (ms ns : List Message) : Type 0 where
  left : List Message
  numbered : AllNumbered P left
  is : queue_after rs (queue_with name last (ms ++ ns)) ≡ record (queue_after rs (queue_with name last ns)) { messages = left ++ (queue_after rs (queue_with name last ns)).messages }

apart_step : (P : ℕ → Type 0) (rs : List Record) (name : List ℕ) (r : Record) (last : ℕ) (ms ns : List Message) → AllNumbered P ms
    → ((last : ℕ) (ms ns : List Message) → AllNumbered P ms → Apart P rs name last ms ns) → (k : Kind)
    → (left : List Message) × AllNumbered P left
    × (queue_after rs (after_record k r (queue_with name last (ms ++ ns))) ≡ record (queue_after rs (after_record k r (queue_with name last ns))) { messages = left ++ (queue_after rs (after_record k r (queue_with name last ns))).messages })
apart_step P rs name r last ms ns h ih Enqueue =
    let m : Message = put_message r.rid r.body (xid_in r.xid) in
    let a = ih r.rid ms (ns ++ m ∷ []) h in
    (a.left, a.numbered, ap (λ (xs : List Message). queue_after rs (queue_with name r.rid xs)) (append_assoc ms ns (m ∷ [])) ∙ a.is)
apart_step P rs name r last ms ns h ih Dequeue =
    let g = left_by_take r.target (xid_in r.xid) in
    let a = ih last (filter_map g ms) (filter_map g ns) (kept_numbered P g (take_keeps r.target (xid_in r.xid)) ms h) in
    (a.left, a.numbered, ap (λ (xs : List Message). queue_after rs (queue_with name last xs)) (filtered_apart g ms ns) ∙ a.is)
apart_step P rs name r last ms ns h ih Commit =
    let g : Message → Option Message = λ m. left_by (only r.xid verdict.Commit) m.status m in
    let a = ih last (filter_map g ms) (filter_map g ns) (kept_numbered P g (λ m. end_keeps (only r.xid verdict.Commit) m.status m) ms h) in
    (a.left, a.numbered, ap (λ (xs : List Message). queue_after rs (queue_with name last xs)) (filtered_apart g ms ns) ∙ a.is)
apart_step P rs name r last ms ns h ih Abort =
    let g : Message → Option Message = λ m. left_by (only r.xid verdict.Abort) m.status m in
    let a = ih last (filter_map g ms) (filter_map g ns) (kept_numbered P g (λ m. end_keeps (only r.xid verdict.Abort) m.status m) ms h) in
    (a.left, a.numbered, ap (λ (xs : List Message). queue_after rs (queue_with name last xs)) (filtered_apart g ms ns) ∙ a.is)
apart_step P rs name r last ms ns h ih Filler = let a = ih last ms ns h in (a.left, a.numbered, a.is)

set_apart : (P : ℕ → Type 0) (rs : List Record) (name : List ℕ) (last : ℕ) (ms ns : List Message) → AllNumbered P ms → Apart P rs name last ms ns
set_apart P [] name last ms ns h = record { left = ms; numbered = h; is = refl }
set_apart P (r ∷ rs) name last ms ns h = let s = apart_step P rs name r last ms ns h (set_apart P rs name) r.kind in record { left = s.0; numbered = s.1; is = s.2 }

-- the last number behind records is the rid in force
abbrev pub last_behind : ℕ → List Record → ℕ
last_behind rid [] = rid
last_behind rid (r ∷ rs) = last_behind (cond (is_enqueue r.kind) r.rid rid) rs

record Makes (P : ℕ → Type 0) (rs : List Record) (name : List ℕ) (last : ℕ) (ms : List Message) : Type 0 where
  made : List Message
  numbered : AllNumbered P made
  is : queue_after rs (queue_with name last ms) ≡ queue_with name (last_behind last rs) made

numbered_push : (P : ℕ → Type 0) (ms : List Message) (m : Message) → AllNumbered P ms → P m.number → AllNumbered P (ms ++ m ∷ [])
numbered_push P [] m h p = (p, tt)
numbered_push P (n ∷ ms) m h p = (h.0, numbered_push P ms m h.1 p)

makes_step : (P : ℕ → Type 0) (rs : List Record) (name : List ℕ) (r : Record) (last : ℕ) (ms : List Message) → AllNumbered P ms
    → ((last : ℕ) (ms : List Message) → AllNumbered P ms → Makes P rs name last ms) → (k : Kind) → (is_enqueue k ≡ true → P r.rid)
    → (made : List Message) × AllNumbered P made × (queue_after rs (after_record k r (queue_with name last ms)) ≡ queue_with name (last_behind (cond (is_enqueue k) r.rid last) rs) made)
makes_step P rs name r last ms h ih Enqueue p =
    let a = ih r.rid (ms ++ put_message r.rid r.body (xid_in r.xid) ∷ []) (numbered_push P ms (put_message r.rid r.body (xid_in r.xid)) h (p refl)) in (a.made, a.numbered, a.is)
makes_step P rs name r last ms h ih Dequeue p =
    let g = left_by_take r.target (xid_in r.xid) in
    let a = ih last (filter_map g ms) (kept_numbered P g (take_keeps r.target (xid_in r.xid)) ms h) in (a.made, a.numbered, a.is)
makes_step P rs name r last ms h ih Commit p =
    let g : Message → Option Message = λ m. left_by (only r.xid verdict.Commit) m.status m in
    let a = ih last (filter_map g ms) (kept_numbered P g (λ m. end_keeps (only r.xid verdict.Commit) m.status m) ms h) in (a.made, a.numbered, a.is)
makes_step P rs name r last ms h ih Abort p =
    let g : Message → Option Message = λ m. left_by (only r.xid verdict.Abort) m.status m in
    let a = ih last (filter_map g ms) (kept_numbered P g (λ m. end_keeps (only r.xid verdict.Abort) m.status m) ms h) in (a.made, a.numbered, a.is)
makes_step P rs name r last ms h ih Filler p = let a = ih last ms h in (a.made, a.numbered, a.is)

makes : (P : ℕ → Type 0) (rs : List Record) (name : List ℕ) (last : ℕ) (ms : List Message) → EnqueuesHave P rs → AllNumbered P ms → Makes P rs name last ms
makes P [] name last ms e h = record { made = ms; numbered = h; is = refl }
makes P (r ∷ rs) name last ms e h = let s = makes_step P rs name r last ms h (λ l ns k. makes P rs name l ns e.1 k) r.kind e.0 in record { made = s.0; numbered = s.1; is = s.2 }

-- ---- what is held

-- nothing is left of what the dead file made
none_left : (rids : List ℕ) (left more : List Message) → AllNumbered (NotHeld rids) left → rids ≡ map (λ m. m.number) (left ++ more) → left ≡ []
none_left rids [] more h e = refl
none_left rids (m ∷ left) more h e = absurd (first m.number (map (λ k. k.number) (left ++ more)) (subst (λ (ns : List ℕ). NotHeld ns m.number) e h.0))
  where
    equal : (n : ℕ) → eqb n n ≡ true
    equal n = grind (arith, nat_tests)

    first : (n : ℕ) (ns : List ℕ) → NotHeld (n ∷ ns) n → ⊥
    first n ns k = let t = sym (ap (λ b. b || list_any (λ rid. eqb rid n) ns) (equal n)) ∙ k in absurd (cc)

-- the numbers that are held are those of the messages behind all records, and none of them is an enqueue's of the records before: then
-- the records behind make the same without them
pub queue_without : (before rest : List Record) (name : List ℕ) (last : ℕ) (rids : List ℕ) → EnqueuesHave (NotHeld rids) before → rids ≡ map (λ m. m.number) (queue_after (before ++ rest) (queue_with name last [])).messages
    → queue_after rest (queue_with name (last_behind last before) []) ≡ queue_after (before ++ rest) (queue_with name last [])
queue_without before rest name last rids h held =
    let m : Makes (NotHeld rids) before name last [] = makes (NotHeld rids) before name last [] h tt in
    let next : ℕ = last_behind last before in
    let a : Apart (NotHeld rids) rest name next m.made [] = set_apart (NotHeld rids) rest name next m.made [] m.numbered in
    let after : QueueState = queue_after rest (queue_with name next []) in
    let whole : queue_after (before ++ rest) (queue_with name last []) ≡ record after { messages = a.left ++ after.messages } =
    queue_both before rest (queue_with name last []) ∙ ap (queue_after rest) m.is ∙ (λ i. queue_after rest (queue_with name next (sym (append-nil m.made) i))) ∙ a.is in
    let none : a.left ≡ [] = none_left rids a.left after.messages a.numbered (held ∙ ap (λ (s : QueueState). map (λ m. m.number) s.messages) whole) in
    sym (whole ∙ ap (λ (ms : List Message). record after { messages = ms ++ after.messages }) none)
