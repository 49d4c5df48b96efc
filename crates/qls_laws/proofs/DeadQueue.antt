-- A queue means the same without its dead oldest file.
use Rattle.std.proofs.Common.{◌≡◌, ◌⊎◌, inl, inr, drop, ℕ, ◌-◌, ◌<◌, ◌≤◌, Bool, true, false, cond, not, ◌&&◌, ◌||◌, List, [], ◌∷◌, ◌++◌, map, length, Option, Some, None, refl, sym, ap, ◌∙◌, subst, arith, eqb, ltb, leb, append_assoc, append-nil, length-append}
use Rattle.std.proofs.lemmas.Bool.{and_parts, cases_lt}
use Rattle.std.proofs.lemmas.Bool.Decides.{nat_tests}
use Rattle.std.proofs.lemmas.List.{map-append}
use Rattle.std.specs.List.{AllByRecursion, filter_map, cons_option, list_any}
use Rattle.qls_model.specs.declared.machine.Status.{Status}
use Rattle.qls_model.specs.declared.machine.Status.TheVariants.{Ready, Coming, Going}
use Rattle.qls_model.specs.declared.machine.Message.{Message}
use Rattle.qls_model.specs.declared.machine.QueueState.{QueueState}
use Rattle.qls_model.specs.declared.machine.Verdict.{Verdict}
use Rattle.qls_model.specs.declared.machine.Verdict.TheVariants as verdict
use Rattle.qls_model.specs.Machine.{is_ready, put_message}
use Rattle.qls_model.specs.Messages.{left_by, after_coming, after_going, only}
use Rattle.qls_record.specs.declared.Kind.{Kind}
use Rattle.qls_record.specs.declared.Kind.TheVariants.{Enqueue, Dequeue, Commit, Abort, Filler}
use Rattle.qls_record.specs.Record.{Record, is_enqueue}
use Rattle.qls_filehdr.specs.declared.JournalKind.{JournalKind}
use Rattle.qls_meaning.specs.Journals.{Headed, Journal, is_queue}
use Rattle.qls_meaning.specs.Reading.{Placed, Read, holder, stream, first_place, number_of, located, journal_reading}
use Rattle.qls_meaning.specs.Damage.{rid_at_end}
use Rattle.qls_meaning.specs.Dead.{newest_number, held_rids, holds, is_dead, has_dead_oldest, first_is_dead}
use Rattle.qls_meaning.specs.Meaning.{records_of, queue_of, entries_of}
use Rattle.qls_meaning.specs.Replay.{xid_in, gone, left_by_take, after_record, queue_after}
use Rattle.qls_laws.specs.Readings.{Stand}
use Rattle.qls_laws.specs.Returns.{without_oldest, IsWholeRun}
use Rattle.qls_laws.proofs.Ends.{record_fits}
use Rattle.qls_laws.proofs.Leftover.{within}
use Rattle.qls_laws.proofs.Returned.{AllAbove, numbers_rise, parted, next_rid_is, reading_all}

-- ---- messages

-- what is left of a message has its number
abbrev Keeps : Option Message → Message → Type 0
Keeps None m = Unit {0}
Keeps (Some k) m = k.number ≡ m.number

gone_keeps : (xid : Option (List ℕ)) (m : Message) → Keeps (gone xid m) m
gone_keeps None m = tt
gone_keeps (Some x) m = refl

take_keeps : (target : ℕ) (xid : Option (List ℕ)) (m : Message) → Keeps (left_by_take target xid m) m
take_keeps target xid m = elim (eqb m.number target && is_ready m.status) as (λ b. Keeps (cond b (gone xid m) (Some m)) m) [ true ↦ gone_keeps xid m | false ↦ refl ]

coming_keeps : (v : Verdict) (m : Message) → Keeps (after_coming v m) m
coming_keeps verdict.Commit m = refl
coming_keeps verdict.Abort m = tt
coming_keeps verdict.Doubt m = refl

going_keeps : (v : Verdict) (m : Message) → Keeps (after_going v m) m
going_keeps verdict.Commit m = tt
going_keeps verdict.Abort m = refl
going_keeps verdict.Doubt m = refl

end_keeps : (v : List ℕ → Verdict) (s : Status) (m : Message) → Keeps (left_by v s m) m
end_keeps v Ready m = refl
end_keeps v (Coming x) m = coming_keeps (v x) m
end_keeps v (Going x) m = going_keeps (v x) m

abbrev pub AllNumbered : (ℕ → Type 0) → List Message → Type 0
AllNumbered P ms = AllByRecursion (λ m. P m.number) ms

kept_numbered : (P : ℕ → Type 0) (g : Message → Option Message) → ((m : Message) → Keeps (g m) m) → (ms : List Message) → AllNumbered P ms → AllNumbered P (filter_map g ms)
kept_numbered P g keeps [] h = tt
kept_numbered P g keeps (m ∷ ms) h = by (g m) (keeps m) (kept_numbered P g keeps ms h.1)
  where
    by : (o : Option Message) → Keeps o m → AllNumbered P (filter_map g ms) → AllNumbered P (cons_option o (filter_map g ms))
    by None k rest = rest
    by (Some x) k rest = (subst P (sym k) h.0, rest)

filtered_apart : (g : Message → Option Message) (ms ns : List Message) → filter_map g (ms ++ ns) ≡ filter_map g ms ++ filter_map g ns
filtered_apart g [] ns = refl
filtered_apart g (m ∷ ms) ns =
    ap (cons_option (g m)) (filtered_apart g ms ns) ∙ elim (g m) as (λ o. cons_option o (filter_map g ms ++ filter_map g ns) ≡ cons_option o (filter_map g ms) ++ filter_map g ns) [ None ↦ refl | Some x ↦ refl ]

-- ---- records

abbrev queue_with : List ℕ → ℕ → List Message → QueueState
queue_with name last ms = record { name = name; last = last; messages = ms }

-- what records leave of these messages stands before what they make of the others
record Apart (P : ℕ → Type 0) (rs : List Record) (name : List ℕ) (last : ℕ) (ms ns : List Message) : Type 0 where
  left : List Message
  numbered : AllNumbered P left
  is : queue_after rs (queue_with name last (ms ++ ns)) ≡ record (queue_after rs (queue_with name last ns)) { messages = left ++ (queue_after rs (queue_with name last ns)).messages }

apart_step : (P : ℕ → Type 0) (rs : List Record) (name : List ℕ) (r : Record) (last : ℕ) (ms ns : List Message) → AllNumbered P ms
    → ((last : ℕ) (ms ns : List Message) → AllNumbered P ms → Apart P rs name last ms ns) → (k : Kind)
    → (left : List Message) × AllNumbered P left
    × (queue_after rs (after_record k r (queue_with name last (ms ++ ns))) ≡ record (queue_after rs (after_record k r (queue_with name last ns))) { messages = left ++ (queue_after rs (after_record k r (queue_with name last ns))).messages })
apart_step P rs name r last ms ns h ih Enqueue =
    let m : Message = put_message r.rid r.body (xid_in r.xid) in
    let a = ih r.rid ms (ns ++ m ∷ []) h in
    (a.left, a.numbered, ap (λ (xs : List Message). queue_after rs (queue_with name r.rid xs)) (append_assoc ms ns (m ∷ [])) ∙ a.is)
apart_step P rs name r last ms ns h ih Dequeue =
    let g = left_by_take r.target (xid_in r.xid) in
    let a = ih last (filter_map g ms) (filter_map g ns) (kept_numbered P g (take_keeps r.target (xid_in r.xid)) ms h) in
    (a.left, a.numbered, ap (λ (xs : List Message). queue_after rs (queue_with name last xs)) (filtered_apart g ms ns) ∙ a.is)
apart_step P rs name r last ms ns h ih Commit =
    let g : Message → Option Message = λ m. left_by (only r.xid verdict.Commit) m.status m in
    let a = ih last (filter_map g ms) (filter_map g ns) (kept_numbered P g (λ m. end_keeps (only r.xid verdict.Commit) m.status m) ms h) in
    (a.left, a.numbered, ap (λ (xs : List Message). queue_after rs (queue_with name last xs)) (filtered_apart g ms ns) ∙ a.is)
apart_step P rs name r last ms ns h ih Abort =
    let g : Message → Option Message = λ m. left_by (only r.xid verdict.Abort) m.status m in
    let a = ih last (filter_map g ms) (filter_map g ns) (kept_numbered P g (λ m. end_keeps (only r.xid verdict.Abort) m.status m) ms h) in
    (a.left, a.numbered, ap (λ (xs : List Message). queue_after rs (queue_with name last xs)) (filtered_apart g ms ns) ∙ a.is)
apart_step P rs name r last ms ns h ih Filler = let a = ih last ms ns h in (a.left, a.numbered, a.is)

set_apart : (P : ℕ → Type 0) (rs : List Record) (name : List ℕ) (last : ℕ) (ms ns : List Message) → AllNumbered P ms → Apart P rs name last ms ns
set_apart P [] name last ms ns h = record { left = ms; numbered = h; is = refl }
set_apart P (r ∷ rs) name last ms ns h = let s = apart_step P rs name r last ms ns h (set_apart P rs name) r.kind in record { left = s.0; numbered = s.1; is = s.2 }

-- the enqueues have such rids
abbrev pub EnqueuesHave : (ℕ → Type 0) → List Record → Type 0
EnqueuesHave P rs = AllByRecursion (λ r. is_enqueue r.kind ≡ true → P r.rid) rs

-- the last number behind records is the rid in force
abbrev last_behind : ℕ → List Record → ℕ
last_behind rid [] = rid
last_behind rid (r ∷ rs) = last_behind (cond (is_enqueue r.kind) r.rid rid) rs

record Makes (P : ℕ → Type 0) (rs : List Record) (name : List ℕ) (last : ℕ) (ms : List Message) : Type 0 where
  made : List Message
  numbered : AllNumbered P made
  is : queue_after rs (queue_with name last ms) ≡ queue_with name (last_behind last rs) made

numbered_push : (P : ℕ → Type 0) (ms : List Message) (m : Message) → AllNumbered P ms → P m.number → AllNumbered P (ms ++ m ∷ [])
numbered_push P [] m h p = (p, tt)
numbered_push P (n ∷ ms) m h p = (h.0, numbered_push P ms m h.1 p)

makes_step : (P : ℕ → Type 0) (rs : List Record) (name : List ℕ) (r : Record) (last : ℕ) (ms : List Message) → AllNumbered P ms
    → ((last : ℕ) (ms : List Message) → AllNumbered P ms → Makes P rs name last ms) → (k : Kind) → (is_enqueue k ≡ true → P r.rid)
    → (made : List Message) × AllNumbered P made × (queue_after rs (after_record k r (queue_with name last ms)) ≡ queue_with name (last_behind (cond (is_enqueue k) r.rid last) rs) made)
makes_step P rs name r last ms h ih Enqueue p =
    let a = ih r.rid (ms ++ put_message r.rid r.body (xid_in r.xid) ∷ []) (numbered_push P ms (put_message r.rid r.body (xid_in r.xid)) h (p refl)) in (a.made, a.numbered, a.is)
makes_step P rs name r last ms h ih Dequeue p =
    let g = left_by_take r.target (xid_in r.xid) in
    let a = ih last (filter_map g ms) (kept_numbered P g (take_keeps r.target (xid_in r.xid)) ms h) in (a.made, a.numbered, a.is)
makes_step P rs name r last ms h ih Commit p =
    let g : Message → Option Message = λ m. left_by (only r.xid verdict.Commit) m.status m in
    let a = ih last (filter_map g ms) (kept_numbered P g (λ m. end_keeps (only r.xid verdict.Commit) m.status m) ms h) in (a.made, a.numbered, a.is)
makes_step P rs name r last ms h ih Abort p =
    let g : Message → Option Message = λ m. left_by (only r.xid verdict.Abort) m.status m in
    let a = ih last (filter_map g ms) (kept_numbered P g (λ m. end_keeps (only r.xid verdict.Abort) m.status m) ms h) in (a.made, a.numbered, a.is)
makes_step P rs name r last ms h ih Filler p = let a = ih last ms h in (a.made, a.numbered, a.is)

makes : (P : ℕ → Type 0) (rs : List Record) (name : List ℕ) (last : ℕ) (ms : List Message) → EnqueuesHave P rs → AllNumbered P ms → Makes P rs name last ms
makes P [] name last ms e h = record { made = ms; numbered = h; is = refl }
makes P (r ∷ rs) name last ms e h = let s = makes_step P rs name r last ms h (λ l ns k. makes P rs name l ns e.1 k) r.kind e.0 in record { made = s.0; numbered = s.1; is = s.2 }

after_both : (xs ys : List Record) (q : QueueState) → queue_after (xs ++ ys) q ≡ queue_after ys (queue_after xs q)
after_both [] ys q = refl
after_both (x ∷ xs) ys q = after_both xs ys (after_record x.kind x q)

-- ---- what a dead file holds

-- no message or entry of this rid is held
abbrev pub NotHeld : List ℕ → ℕ → Type 0
NotHeld rids n = list_any (λ rid. eqb rid n) rids ≡ false

or_parts : (a b : Bool) → (a || b) ≡ false → (a ≡ false) × (b ≡ false)
or_parts true b e = absurd (cc)
or_parts false b e = (refl, e)

not_true : (b : Bool) → not b ≡ true → b ≡ false
not_true true e = absurd (cc)
not_true false e = refl

at_most : (m n : ℕ) → m ≤ n → leb m n ≡ true
at_most m n h = grind (arith, nat_tests)

own : (n : ℕ) → leb n n ≡ true
own n = grind (arith, nat_tests)

-- the number of the file that holds a place is none below those of the files
least_number : (n : ℕ) (fs : List Headed) (p : ℕ) → AllByRecursion (λ f. n ≤ f.header.number) fs → p < length (stream fs) → n ≤ number_of (holder fs p)
least_number n [] p a l = absurd (omega (arith, l))
least_number n (f ∷ fs) p a l = by (cases_lt p (length f.area)) (λ h. least_number n fs (p - length f.area) a.1 (omega (arith, l, h, length-append f.area (stream fs))))
  where
    less : (m n : ℕ) → m < n → ltb m n ≡ true
    less m n h = grind (arith, nat_tests)

    not_less : (m n : ℕ) → n ≤ m → ltb m n ≡ false
    not_less m n h = grind (arith, nat_tests)

    by : (p < length f.area) ⊎ (length f.area ≤ p) → (length f.area ≤ p → n ≤ number_of (holder fs (p - length f.area))) → n ≤ number_of (cond (ltb p (length f.area)) (Some (record { file = f; within = p })) (holder fs (p - length f.area)))
    by (inl h) rest = subst (λ b. n ≤ number_of (cond b (Some (record { file = f; within = p })) (holder fs (p - length f.area)))) (sym (less p (length f.area) h)) a.0
    by (inr h) rest = subst (λ b. n ≤ number_of (cond b (Some (record { file = f; within = p })) (holder fs (p - length f.area)))) (sym (not_less p (length f.area) h)) (rest h)

all_least : (n : ℕ) (fs : List Headed) → AllAbove n fs → AllByRecursion (λ f. n ≤ f.header.number) fs
all_least n [] a = tt
all_least n (f ∷ fs) a = (omega (arith, a.0), all_least n fs a.1)

-- a record that starts in the file and isn't held
not_holding : (rids : List ℕ) (n : ℕ) (r : Read) → holds rids n r ≡ false → r.file ≡ n → n ≤ r.end_file → is_enqueue r.what.kind ≡ true → NotHeld rids r.what.rid
not_holding rids n r h file end e = by (list_any (λ rid. eqb rid r.what.rid) rids) (sym (λ i. ((e i && list_any (λ rid. eqb rid r.what.rid) rids) && at_most r.file n low i) && at_most n r.end_file end i) ∙ h)
  where
    low : r.file ≤ n
    low = omega (arith, file)

    by : (b : Bool) → (((true && b) && true) && true) ≡ false → b ≡ false
    by true k = absurd (cc)
    by false k = refl

front_not_held : (rids : List ℕ) (f : Headed) (fs : List Headed) (p : ℕ) (rs : List Placed) (more : List Read) → AllAbove f.header.number fs → AllByRecursion (λ r. r.at < length f.area) rs → Stand (f ∷ fs) p rs
    → list_any (holds rids f.header.number) (map (located (f ∷ fs)) rs ++ more) ≡ false → EnqueuesHave (NotHeld rids) (map (λ r. r.what) (map (located (f ∷ fs)) rs))
front_not_held rids f fs p [] more a b s h = tt
front_not_held rids f fs p (r ∷ rs) more a b s h =
    let parts = or_parts (holds rids f.header.number (located (f ∷ fs) r)) (list_any (holds rids f.header.number) (map (located (f ∷ fs)) rs ++ more)) h in
    let fits = record_fits (f ∷ fs) p r.what s.1 in
    let end : f.header.number ≤ number_of (holder (f ∷ fs) (r.after - 1)) =
    least_number f.header.number (f ∷ fs) (r.after - 1) (omega arith, all_least f.header.number fs a) (omega (arith, fits.0, fits.1, s.2)) in
    (not_holding rids f.header.number (located (f ∷ fs) r) parts.0 (ap number_of (within f fs r.at b.0)) end, front_not_held rids f fs r.after rs more a b.1 s.3 parts.1)

abbrev pub run : JournalKind → List ℕ → List Headed → Journal
run kind name fs = record { kind = kind; name = name; files = fs }

module _ (kind : JournalKind) (name : List ℕ) (f g : Headed) (fs : List Headed) (w : IsWholeRun (run kind name (f ∷ g ∷ fs))) (dead : is_dead (run kind name (f ∷ g ∷ fs)) f ≡ true) where
  abbrev J : Journal
  J = run kind name (f ∷ g ∷ fs)

  abbrev K : Journal
  K = run kind name (g ∷ fs)

  -- the records that start in the dead file
  abbrev pub dead_records : List Record
  dead_records = map (λ r. r.what) (map (located (f ∷ g ∷ fs)) (parted kind name f g fs w).front)

  pub none_held : EnqueuesHave (NotHeld (held_rids J)) dead_records
  none_held =
      let p = parted kind name f g fs w in
      let none : list_any (holds (held_rids J) f.header.number) (journal_reading J) ≡ false = not_true _ (and_parts (not (eqb f.header.number (newest_number (f ∷ g ∷ fs)))) (not (list_any (holds (held_rids J) f.header.number) (journal_reading J))) dead).1 in
      front_not_held (held_rids J) f (g ∷ fs) (first_place (f ∷ g ∷ fs)) p.front (journal_reading K) (numbers_rise f (g ∷ fs) w.rules.chain) p.before p.stand_front
      (sym (ap (list_any (holds (held_rids J) f.header.number)) (reading_all kind name f g fs w)) ∙ none)

  pub records_all : records_of J ≡ dead_records ++ records_of K
  records_all =
      ap (map (λ r. r.what)) (reading_all kind name f g fs w) ∙ map-append (λ r. r.what) (map (located (f ∷ g ∷ fs)) (parted kind name f g fs w).front) (journal_reading K)

  last_is : (rid : ℕ) (rs : List Placed) → last_behind rid (map (λ r. r.what) (map (located (f ∷ g ∷ fs)) rs)) ≡ rid_at_end rid rs
  last_is rid [] = refl
  last_is rid (r ∷ rs) = last_is (cond (is_enqueue r.what.kind) r.what.rid rid) rs

  -- nothing is left of what the dead file made
  none_left : (rids : List ℕ) (left more : List Message) → AllNumbered (NotHeld rids) left → rids ≡ map (λ m. m.number) (left ++ more) → left ≡ []
  none_left rids [] more h e = refl
  none_left rids (m ∷ left) more h e = absurd (first m.number (map (λ k. k.number) (left ++ more)) (subst (λ (ns : List ℕ). NotHeld ns m.number) e h.0))
    where
      equal : (n : ℕ) → eqb n n ≡ true
      equal n = grind (arith, nat_tests)

      first : (n : ℕ) (ns : List ℕ) → NotHeld (n ∷ ns) n → ⊥
      first n ns k = let t = sym (ap (λ b. b || list_any (λ rid. eqb rid n) ns) (equal n)) ∙ k in absurd (cc)

  pub queue_without : is_queue kind ≡ true → queue_of K ≡ queue_of J
  queue_without q =
      let rids : List ℕ = held_rids J in
      let P : ℕ → Type 0 = NotHeld rids in
      let m : Makes P dead_records name f.header.rid [] = makes P dead_records name f.header.rid [] none_held tt in
      let a : Apart P (records_of K) name g.header.rid m.made [] = set_apart P (records_of K) name g.header.rid m.made [] m.numbered in
      let last : last_behind f.header.rid dead_records ≡ g.header.rid = last_is f.header.rid (parted kind name f g fs w).front ∙ sym (next_rid_is kind name f g fs w) in
      let whole : queue_of J ≡ record (queue_of K) { messages = a.left ++ (queue_of K).messages } =
      ap (λ (rs : List Record). queue_after rs (queue_with name f.header.rid [])) records_all ∙ after_both dead_records (records_of K) (queue_with name f.header.rid [])
      ∙ ap (queue_after (records_of K)) m.is ∙ (λ i. queue_after (records_of K) (queue_with name (last i) (sym (append-nil m.made) i))) ∙ a.is in
      let held : rids ≡ map (λ m. m.number) (a.left ++ (queue_of K).messages) =
      ap (λ b. cond b (map (λ m. m.number) (queue_of J).messages) (map (λ e. e.rid) (entries_of (J ∷ [])))) q ∙ ap (λ (s : QueueState). map (λ m. m.number) s.messages) whole in
      let none : a.left ≡ [] = none_left rids a.left (queue_of K).messages a.numbered held in
      sym (whole ∙ ap (λ (ms : List Message). record (queue_of K) { messages = ms ++ (queue_of K).messages }) none)

-- ---- the law

pub only_one : (kind : JournalKind) (name : List ℕ) (f : Headed) → is_dead (run kind name (f ∷ [])) f ≡ true → ⊥
only_one kind name f h = by f.header.number (list_any (holds (held_rids (run kind name (f ∷ []))) f.header.number) (journal_reading (run kind name (f ∷ [])))) h
  where
    equal : (n : ℕ) → eqb n n ≡ true
    equal n = grind (arith, nat_tests)

    by : (n : ℕ) (b : Bool) → (not (eqb n n) && not b) ≡ true → ⊥
    by n b k = let t = sym (ap (λ x. not x && not b) (equal n)) ∙ k in absurd (cc)

pub dead_queue : (j : Journal) → IsWholeRun j → has_dead_oldest j ≡ true → is_queue j.kind ≡ true → queue_of (without_oldest j) ≡ queue_of j
dead_queue j = by j.files
  where
    by : (fs : List Headed) → IsWholeRun (run j.kind j.name fs) → first_is_dead (run j.kind j.name fs) fs ≡ true → is_queue j.kind ≡ true
        → queue_of (run j.kind j.name (drop 1 fs)) ≡ queue_of (run j.kind j.name fs)
    by [] w h q = absurd (cc)
    by (f ∷ []) w h q = absurd (only_one j.kind j.name f h)
    by (f ∷ g ∷ fs) w h q = queue_without j.kind j.name f g fs w h q
