-- What is held after all records.
use Rattle.std.proofs.Common.{◌≡◌, ℕ, Bool, true, false, ◌&&◌, ◌||◌, ◌==◌, List, [], ◌∷◌, ◌++◌, map, Option, Some, None, refl, ap, sym, subst, ◌∙◌, append_assoc, arith}
use Rattle.std.specs.List.{AllByRecursion, list_any, filter_map, cons_option}
use Rattle.std.proofs.lemmas.List.Folds.{list_any-append}
use Rattle.qls_model.specs.Messages.{left_by, only}
use Rattle.qls_model.specs.declared.machine.Message.{Message}
use Rattle.qls_model.specs.declared.machine.QueueState.{QueueState}
use Rattle.qls_model.specs.declared.machine.Verdict.TheVariants as verdict
use Rattle.qls_record.specs.declared.Kind.{Kind}
use Rattle.qls_record.specs.declared.Kind.TheVariants.{Enqueue, Dequeue, Commit, Abort, Filler}
use Rattle.qls_record.specs.Record.{is_enqueue}
use Rattle.qls_enqmap.specs.declared.Held.{Held}
use Rattle.qls_meaning.specs.Reading.{Read}
use Rattle.qls_meaning.specs.Replay.{xid_in, left_by_take, after_record, queue_after}
use Rattle.qls_replay.specs.Held.{message_of, messages_of, held_of, held_as, left_held, held_after, held_after_all, is_of}
use Rattle.qls_replay.proofs.Steps.{left_messages, keeps_take, keeps_end}

-- ---- messages

messages_end : (hs : List Held) (h : Held) → messages_of (hs ++ h ∷ []) ≡ messages_of hs ++ message_of h ∷ []
messages_end [] h = refl
messages_end (g ∷ hs) h = ap (λ l. message_of g ∷ l) (messages_end hs h)

one_record : (k : Kind) (r : Read) (hs : List Held) (q : QueueState) → q.messages ≡ messages_of hs → (after_record k r.what q).messages ≡ messages_of (held_after k r hs)
one_record Enqueue r hs q e = ap (λ l. l ++ message_of (held_of r) ∷ []) e ∙ sym (messages_end hs (held_of r))
one_record Dequeue r hs q e =
    let change : Message → Option Message = left_by_take r.what.target (xid_in r.what.xid) in
    ap (λ ms. filter_map change ms) e ∙ sym (left_messages change (λ m. keeps_take r.what.target (xid_in r.what.xid) m) hs)
one_record Commit r hs q e =
    let change : Message → Option Message = λ m. left_by (only r.what.xid verdict.Commit) m.status m in
    ap (λ ms. filter_map change ms) e ∙ sym (left_messages change (λ m. keeps_end (only r.what.xid verdict.Commit) m.status m) hs)
one_record Abort r hs q e =
    let change : Message → Option Message = λ m. left_by (only r.what.xid verdict.Abort) m.status m in
    ap (λ ms. filter_map change ms) e ∙ sym (left_messages change (λ m. keeps_end (only r.what.xid verdict.Abort) m.status m) hs)
one_record Filler r hs q e = e

pub all_records : (rs : List Read) (hs : List Held) (q : QueueState) → q.messages ≡ messages_of hs → (queue_after (map (λ r. r.what) rs) q).messages ≡ messages_of (held_after_all rs hs)
all_records [] hs q e = e
all_records (r ∷ rs) hs q e = all_records rs (held_after r.what.kind r hs) (after_record r.what.kind r.what q) (one_record r.what.kind r hs q e)

-- ---- files

-- each is the record of one of these
Among : List Read → List Held → Type 0
Among rs hs = AllByRecursion (λ h. list_any (is_of h) rs ≡ true) hs

or_left : (a b : Bool) → a ≡ true → (a || b) ≡ true
or_left true b h = refl
or_left false b h = absurd (cc)

more_reads : (h : Held) (rs qs : List Read) → list_any (is_of h) rs ≡ true → list_any (is_of h) (rs ++ qs) ≡ true
more_reads h rs qs e = list_any-append (is_of h) rs qs ∙ or_left (list_any (is_of h) rs) (list_any (is_of h) qs) e

among_more : (rs qs : List Read) (hs : List Held) → AllByRecursion (λ h. list_any (is_of h) rs ≡ true) hs → AllByRecursion (λ h. list_any (is_of h) (rs ++ qs) ≡ true) hs
among_more rs qs [] a = tt
among_more rs qs (h ∷ hs) a = (more_reads h rs qs a.0, among_more rs qs hs a.1)

left_one : (rs : List Read) (h : Held) (o : Option Message) (hs : List Held) → list_any (is_of h) rs ≡ true → AllByRecursion (λ h. list_any (is_of h) rs ≡ true) hs
    → AllByRecursion (λ h. list_any (is_of h) rs ≡ true) (cons_option (held_as h o) hs)
left_one rs h None hs e a = a
left_one rs h (Some m) hs e a = (e, a)

left_among : (rs : List Read) (change : Message → Option Message) (hs : List Held) → AllByRecursion (λ h. list_any (is_of h) rs ≡ true) hs → AllByRecursion (λ h. list_any (is_of h) rs ≡ true) (left_held change hs)
left_among rs change [] a = tt
left_among rs change (h ∷ hs) a = left_one rs h (change (message_of h)) (left_held change hs) a.0 (left_among rs change hs a.1)

same_nat : (n : ℕ) → (n == n) ≡ true
same_nat n = grind arith

both : (a b : Bool) → a ≡ true → b ≡ true → (a && b) ≡ true
both true b e f = f
both false b e f = absurd (cc)

own_by : (k : Kind) (r : Read) → k ≡ Enqueue → r.what.kind ≡ k → is_of (held_of r) r ≡ true
own_by k r e f =
    let a = both (is_enqueue r.what.kind) (r.what.rid == r.what.rid) (ap is_enqueue (f ∙ e)) (same_nat r.what.rid) in
    let b = both (is_enqueue r.what.kind && r.what.rid == r.what.rid) (r.file == r.file) a (same_nat r.file) in
    both (is_enqueue r.what.kind && r.what.rid == r.what.rid && r.file == r.file) (r.end_file == r.end_file) b (same_nat r.end_file)

or_right : (a b : Bool) → b ≡ true → (a || b) ≡ true
or_right true b h = refl
or_right false b h = h

end_among : (rs : List Read) (h : Held) (hs : List Held) → list_any (is_of h) rs ≡ true → AllByRecursion (λ h. list_any (is_of h) rs ≡ true) hs → AllByRecursion (λ h. list_any (is_of h) rs ≡ true) (hs ++ h ∷ [])
end_among rs h [] e a = (e, tt)
end_among rs h (g ∷ hs) e a = (a.0, end_among rs h hs e a.1)

step_among : (k : Kind) (r : Read) (rs : List Read) (hs : List Held) → r.what.kind ≡ k → AllByRecursion (λ h. list_any (is_of h) rs ≡ true) hs
    → AllByRecursion (λ h. list_any (is_of h) (rs ++ r ∷ []) ≡ true) (held_after k r hs)
step_among Enqueue r rs hs e a =
    end_among (rs ++ r ∷ []) (held_of r) hs
    (list_any-append (is_of (held_of r)) rs (r ∷ []) ∙ or_right (list_any (is_of (held_of r)) rs) (is_of (held_of r) r || false) (or_left (is_of (held_of r) r) false (own_by Enqueue r refl e)))
    (among_more rs (r ∷ []) hs a)
step_among Dequeue r rs hs e a = left_among (rs ++ r ∷ []) (left_by_take r.what.target (xid_in r.what.xid)) hs (among_more rs (r ∷ []) hs a)
step_among Commit r rs hs e a = left_among (rs ++ r ∷ []) (λ m. left_by (only r.what.xid verdict.Commit) m.status m) hs (among_more rs (r ∷ []) hs a)
step_among Abort r rs hs e a = left_among (rs ++ r ∷ []) (λ m. left_by (only r.what.xid verdict.Abort) m.status m) hs (among_more rs (r ∷ []) hs a)
step_among Filler r rs hs e a = among_more rs (r ∷ []) hs a

run_among : (qs rs : List Read) (hs : List Held) → AllByRecursion (λ h. list_any (is_of h) qs ≡ true) hs → AllByRecursion (λ h. list_any (is_of h) (qs ++ rs) ≡ true) (held_after_all rs hs)
run_among qs [] hs a = among_more qs [] hs a
run_among qs (r ∷ rs) hs a =
    subst (λ l. AllByRecursion (λ h. list_any (is_of h) l ≡ true) (held_after_all rs (held_after r.what.kind r hs))) (append_assoc qs (r ∷ []) rs)
    (run_among (qs ++ r ∷ []) rs (held_after r.what.kind r hs) (step_among r.what.kind r qs hs refl a))

pub all_files : (rs : List Read) → AllByRecursion (λ h. list_any (is_of h) rs ≡ true) (held_after_all rs [])
all_files rs = run_among [] rs [] tt
