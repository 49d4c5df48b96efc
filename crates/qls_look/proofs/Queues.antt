-- What the records of a queue leave, and what the verdicts leave of that.
use Rattle.std.proofs.Common.{◌≡◌, ℕ, ◌+◌, ◌<◌, ◌≤◌, ◌^◌, Bool, true, false, not, cond, ◌&&◌, ltb, List, [], ◌∷◌, map, Option, Some, None, option_map, refl, ap, sym, ◌∙◌, subst, arith}
use Rattle.std.proofs.lemmas.Bool.Decides.{nat_tests}
use Rattle.std.specs.List.{AllByRecursion, filter, cons_option}
use Rattle.qls_model.specs.Messages.{decided}
use Rattle.qls_model.specs.Ends.{status_left, messages_left}
use Rattle.qls_model.specs.Sound.{RisesTo}
use Rattle.qls_model.specs.declared.machine.Message.{Message}
use Rattle.qls_model.specs.declared.machine.Status.{Status}
use Rattle.qls_model.specs.declared.machine.QueueState.{QueueState}
use Rattle.qls_model.specs.declared.machine.Verdict.{Verdict}
use Rattle.qls_record.specs.declared.Kind.{Kind}
use Rattle.qls_record.specs.declared.Kind.TheVariants.{Enqueue, Dequeue, Commit, Abort, Filler}
use Rattle.qls_record.specs.declared.Got.{Got}
use Rattle.qls_record.specs.Record.{Record, is_enqueue, is_filler}
use Rattle.qls_filehdr.specs.declared.FileHeader.{FileHeader}
use Rattle.qls_filehdr.specs.Limits.{is_legal_header}
use Rattle.qls_enqmap.specs.declared.Held.{Held}
use Rattle.qls_enqmap.specs.Records.{AllBelow, RidsFrom}
use Rattle.qls_replay.specs.Held.{messages_of, held_after, held_after_all, IsAbove}
use Rattle.qls_replay.proofs.Above.{below_after, above_given}
use Rattle.qls_replay.proofs.Whole.{all_records}
use Rattle.qls_meaning.specs.Journals.{Journal}
use Rattle.qls_meaning.specs.Reading.{Read, read_of, journal_reading}
use Rattle.qls_meaning.specs.Damage.{oldest_rid}
use Rattle.qls_meaning.specs.Spent.{rid_of_reads}
use Rattle.qls_meaning.specs.Replay.{after_record, queue_after}
use Rattle.qls_meaning.specs.Meaning.{records_of, queue_of}
use Rattle.qls_scan.specs.declared.answers.JournalFiles.{JournalFiles}
use Rattle.qls_scan.specs.declared.answers.HeadedFile.{HeadedFile}
use Rattle.qls_scan.specs.Found.{IsFileOf, IsInOrder}
use Rattle.qls_reading.specs.ReadLogs.{ReadLogState, IsReadWhole, IsGiven, AreGiven, rid_behind, first_rid}
use Rattle.qls_look.proofs.Settling.{left_message}

-- ---- one record after another

-- the records that are left go on from the rid in force, which is above all that is held, to this last one
abbrev pub GoesOn : ℕ → List Held → List Got → Type 0
GoesOn last hs gs = (rid : ℕ) × AllBelow (rid + 1) hs × AreGiven rid gs × (rid_behind rid gs ≡ last)

pub begins : (j : JournalFiles) (log : ReadLogState) (hs : List Held) (gs : List Got) → IsGiven j log gs → hs ≡ [] → GoesOn log.rid hs gs
begins j log hs gs g e = (first_rid j.files, subst (AllBelow (first_rid j.files + 1)) (sym e) tt, g.rids, sym g.rid)

pub may_go_on : (last : ℕ) (hs : List Held) (g : Got) (gs : List Got) → GoesOn last hs (g ∷ gs) → IsAbove g.head.kind g.head.rid hs
may_go_on last hs g gs o = above_given g.head.kind o.0 g.head.rid hs o.2.0 o.1

pub goes_on : (last : ℕ) (hs fs : List Held) (g : Got) (gs : List Got) → GoesOn last hs (g ∷ gs) → fs ≡ held_after g.head.kind (read_of g) hs → GoesOn last fs gs
goes_on last hs fs g gs o e =
    (g.head.rid, subst (AllBelow (g.head.rid + 1)) (sym e) (below_after g.head.kind (read_of g) o.0 g.head.rid hs o.2.0 refl o.1), o.2.2, o.3)

pub ends_below : (last : ℕ) (hs : List Held) (gs : List Got) → gs ≡ [] → GoesOn last hs gs → AllBelow (last + 1) hs
ends_below last hs [] e o = subst (λ n. AllBelow (n + 1) hs) o.3 o.1
ends_below last hs (g ∷ gs) e o = absurd (cc)

-- ---- the last number

behind_below : (rid : ℕ) (gs : List Got) → rid < 2 ^ 62 → AreGiven rid gs → rid_behind rid gs < 2 ^ 62
behind_below rid [] l h = l
behind_below rid (g ∷ gs) l h = behind_below g.head.rid gs h.1 h.2

both : (a b : Bool) → (a && b) ≡ true → (a ≡ true) × (b ≡ true)
both true b h = (refl, h)
both false b h = absurd (cc)

below : (m n : ℕ) → ltb m n ≡ true → m < n
below m n h = grind (arith, nat_tests)

legal_rid : (h : FileHeader) → is_legal_header h ≡ true → h.rid < 2 ^ 62
legal_rid h l = let one = both _ _ l in let two = both _ _ one.0 in let three = both _ _ two.0 in let four = both _ _ three.0 in let five = both _ _ four.0 in let six = both _ _ five.0 in
    below h.rid (2 ^ 62) (both _ _ six.0).1

first_below : (j : JournalFiles) (fs : List HeadedFile) → AllByRecursion (IsFileOf j) fs → first_rid fs < 2 ^ 62
first_below j [] h = omega arith
first_below j (f ∷ fs) h = legal_rid f.header h.0.legal

pub last_below : (j : JournalFiles) (log : ReadLogState) (gs : List Got) → IsInOrder j → IsGiven j log gs → log.rid < 2 ^ 62
last_below j log gs o g = subst (λ n. n < 2 ^ 62) (sym g.rid) (behind_below (first_rid j.files) gs (first_below j j.files o.own) g.rids)

-- ---- numbers rise

one_left : (P : Message → Type 0) (n : ℕ) (b : List ℕ) (o : Option Status) (ms : List Message) → ((s : Status) → P (record { number = n; body = b; status = s })) → AllByRecursion P ms
    → AllByRecursion P (cons_option (option_map (λ s. record { number = n; body = b; status = s }) o) ms)
one_left P n b None ms p a = a
one_left P n b (Some s) ms p a = (p s, a)

left_above : (v : List ℕ → Verdict) (n m : ℕ) (hs : List Held) → n < m → RidsFrom m hs → AllByRecursion (λ k. n < k.number) (messages_left v (messages_of hs))
left_above v n m [] l r = tt
left_above v n m (h ∷ hs) l r =
    subst (λ o. AllByRecursion (λ k. n < k.number) (cons_option o (messages_left v (messages_of hs)))) (sym (left_message v h.rid h.body h.status))
    (one_left (λ k. n < k.number) h.rid h.body (status_left v h.status) (messages_left v (messages_of hs)) (λ s. omega (arith, l, r.0)) (left_above v n (h.rid + 1) hs (omega (arith, l, r.0)) r.1))

one_rises : (last n : ℕ) (b : List ℕ) (o : Option Status) (ms : List Message) → n ≤ last → AllByRecursion (λ k. n < k.number) ms → RisesTo last ms → RisesTo last (cons_option (option_map (λ s. record { number = n; body = b; status = s }) o) ms)
one_rises last n b None ms l a r = r
one_rises last n b (Some s) ms l a r = (l, a, r)

pub left_rises : (v : List ℕ → Verdict) (last m : ℕ) (hs : List Held) → RidsFrom m hs → AllBelow (last + 1) hs → RisesTo last (messages_left v (messages_of hs))
left_rises v last m [] r b = tt
left_rises v last m (h ∷ hs) r b =
    subst (λ o. RisesTo last (cons_option o (messages_left v (messages_of hs)))) (sym (left_message v h.rid h.body h.status))
    (one_rises last h.rid h.body (status_left v h.status) (messages_left v (messages_of hs)) (omega (arith, b.0)) (left_above v h.rid (h.rid + 1) hs (omega arith) r.1) (left_rises v last (h.rid + 1) hs r.1 b.1))

-- ---- fillers leave what is held

filler_holds_nothing : (k : Kind) (r : Read) (hs : List Held) → is_filler k ≡ true → hs ≡ held_after k r hs
filler_holds_nothing Enqueue r hs h = absurd (cc)
filler_holds_nothing Dequeue r hs h = absurd (cc)
filler_holds_nothing Commit r hs h = absurd (cc)
filler_holds_nothing Abort r hs h = absurd (cc)
filler_holds_nothing Filler r hs h = refl

without_fillers : (rs : List Read) (hs : List Held) → held_after_all (filter (λ r. not (is_filler r.what.kind)) rs) hs ≡ held_after_all rs hs
without_fillers [] hs = refl
without_fillers (r ∷ rs) hs = by (is_filler r.what.kind) refl (without_fillers rs)
  where
    by : (b : Bool) → is_filler r.what.kind ≡ b → ((gs : List Held) → held_after_all (filter (λ r. not (is_filler r.what.kind)) rs) gs ≡ held_after_all rs gs)
        → held_after_all (cond (not b) (r ∷ filter (λ r. not (is_filler r.what.kind)) rs) (filter (λ r. not (is_filler r.what.kind)) rs)) hs ≡ held_after_all rs (held_after r.what.kind r hs)
    by true e ih = ih hs ∙ ap (held_after_all rs) (filler_holds_nothing r.what.kind r hs e)
    by false e ih = ih (held_after r.what.kind r hs)

-- ---- the queue that is meant

one_name : (k : Kind) (r : Record) (q : QueueState) → (after_record k r q).name ≡ q.name
one_name Enqueue r q = refl
one_name Dequeue r q = refl
one_name Commit r q = refl
one_name Abort r q = refl
one_name Filler r q = refl

name_stays : (rs : List Record) (q : QueueState) → (queue_after rs q).name ≡ q.name
name_stays [] q = refl
name_stays (r ∷ rs) q = name_stays rs (after_record r.kind r q) ∙ one_name r.kind r q

one_last : (k : Kind) (r : Record) (q : QueueState) → (after_record k r q).last ≡ cond (is_enqueue k) r.rid q.last
one_last Enqueue r q = refl
one_last Dequeue r q = refl
one_last Commit r q = refl
one_last Abort r q = refl
one_last Filler r q = refl

last_is : (rs : List Read) (q : QueueState) → (queue_after (map (λ r. r.what) rs) q).last ≡ rid_of_reads q.last rs
last_is [] q = refl
last_is (r ∷ rs) q = last_is rs (after_record r.what.kind r.what q) ∙ ap (λ n. rid_of_reads n rs) (one_last r.what.kind r.what q)

pub queue_whole : (v : List ℕ → Verdict) (j : Journal) (log : ReadLogState) (gs : List Got) → IsReadWhole j log gs
    → record { name = j.name; last = log.rid; messages = messages_left v (messages_of (held_after_all (map read_of gs) [])) } ≡ decided v (queue_of j)
queue_whole v j log gs w =
    let q : QueueState = record { name = j.name; last = oldest_rid j.files; messages = [] } in
    let rs : List Read = journal_reading j in
    let name : j.name ≡ (queue_of j).name = sym (name_stays (records_of j) q) in
    let last : log.rid ≡ (queue_of j).last = w.rid ∙ sym (last_is rs q) in
    let held : held_after_all (map read_of gs) [] ≡ held_after_all rs [] = ap (λ xs. held_after_all xs []) w.reads ∙ without_fillers rs [] in
    let messages : messages_of (held_after_all (map read_of gs) []) ≡ (queue_of j).messages = ap messages_of held ∙ sym (all_records rs [] q refl) in
    λ i. record { name = name i; last = last i; messages = messages_left v (messages i) }
