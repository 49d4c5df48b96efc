-- The table of the transactions in doubt, entry after entry of the list, and then queue after queue.
use Rattle.std.proofs.Common.{◌≡◌, ℕ, zero, suc, ◌+◌, ◌<◌, ◌≤◌, Bool, true, false, ◌||◌, cond, List, [], ◌∷◌, ◌++◌, map, filter, length, take, get_or, Option, Some, None, option_map, refl, sym, ap, subst, ◌∙◌, arith}
use Rattle.std.specs.List.{AllByRecursion, list_any, slice_get}
use Rattle.std.proofs.lemmas.List.Folds.{list_any-append}
use Rattle.std.proofs.lemmas.Option.{slice_get_read}
use Rattle.qls_model.specs.Bytes.{same, comes_before, is_listed}
use Rattle.qls_model.proofs.XidKeys.{same_self}
use Rattle.qls_model.specs.declared.machine.Phase.{Phase}
use Rattle.qls_model.specs.declared.machine.Phase.TheVariants as phase
use Rattle.qls_model.specs.declared.machine.QueueState.{QueueState}
use Rattle.qls_decide.specs.declared.ListEntry.{ListEntry}
use Rattle.qls_queue.specs.Answers.{is_pending}
use Rattle.qls_queue.specs.Live.{LiveState}
use Rattle.qls_prepared.specs.Lists.{XidsRise as EntriesRise}
use Rattle.qls_journals.specs.State.{JournalsState, NamesRise, names_of, queues_of}
use Rattle.qls_store.specs.Settling.{doubt_in}
use Rattle.qls_store.specs.Stores.{TransactionState, XidsRise, touched}
use Rattle.qls_store.specs.Table.{Rises, begun, change, named, phase_in, placed, prepared, prepared_in, touched_by, with_name, with_queue}
use Rattle.qls_store.proofs.Keys.{all_at, all_filter, all_weaken, before_differs, not_before}
use Rattle.qls_store.proofs.States.{name_of, rises_by}
use Rattle.qls_store.proofs.Tables.{rise_placed}

-- ---- lists up to a place

take_end : {A : Type 0} (xs : List A) (i : ℕ) (x : A) → slice_get xs i ≡ Some x → take (suc i) xs ≡ take i xs ++ x ∷ []
take_end [] i x e = absurd (cc)
take_end {A} (y ∷ xs) zero x e = ap (λ (z : A). z ∷ []) (some_is e)
  where
    some_is : {B : Type 0} {a b : B} → Some a ≡ Some b → a ≡ b
    some_is e = cc
take_end {A} (y ∷ xs) (suc i) x e = ap (λ (ys : List A). y ∷ ys) (take_end xs i x e)

pub take_more : {A : Type 0} (xs : List A) (i : ℕ) (x : A) → slice_get xs i ≡ Some x → take (i + 1) xs ≡ take i xs ++ x ∷ []
take_more xs i x e =
    let next : i + 1 ≡ suc i = omega arith in
    ap (λ n. take n xs) next ∙ take_end xs i x e

take_all : {A : Type 0} (xs : List A) (n : ℕ) → length xs ≤ n → take n xs ≡ xs
take_all [] zero h = refl
take_all [] (suc n) h = refl
take_all (x ∷ xs) zero h = absurd (omega (arith, h))
take_all {A} (x ∷ xs) (suc n) h = ap (λ (ys : List A). x ∷ ys) (take_all xs n (omega (arith, h)))

map_end : {A B : Type 0} (f : A → B) (xs : List A) (x : A) → map f (xs ++ x ∷ []) ≡ map f xs ++ f x ∷ []
map_end f [] x = refl
map_end {A} {B} f (y ∷ xs) x = ap (λ (ys : List B). f y ∷ ys) (map_end f xs x)

-- those before a place in order come before the one there
before_at : {A : Type 0} (key : A → List ℕ) (xs : List A) (i : ℕ) (x : A) → Rises key xs → slice_get xs i ≡ Some x → AllByRecursion (λ a. comes_before (key a) (key x) ≡ true) (take i xs)
before_at key [] i x r e = absurd (cc)
before_at key (y ∷ xs) zero x r e = tt
before_at key (y ∷ xs) (suc i) x r e = (all_at (λ a. comes_before (key y) (key a) ≡ true) xs i x r.0 e, before_at key xs i x r.1 e)

all_take : {A : Type 0} (P : A → Type 0) (xs : List A) (n : ℕ) → AllByRecursion P xs → AllByRecursion P (take n xs)
all_take P xs zero h = tt
all_take P [] (suc n) h = tt
all_take P (x ∷ xs) (suc n) h = (h.0, all_take P xs n h.1)

rises_take : {A : Type 0} (key : A → List ℕ) (xs : List A) (n : ℕ) → Rises key xs → Rises key (take n xs)
rises_take key xs zero h = tt
rises_take key [] (suc n) h = tt
rises_take key (x ∷ xs) (suc n) h = (all_take (λ a. comes_before (key x) (key a) ≡ true) xs n h.0, rises_take key xs n h.1)

-- ---- the entries

abbrev xid_in : ListEntry → List ℕ
xid_in e = e.xid

entries_rise : (es : List ListEntry) → EntriesRise es → Rises xid_in es
entries_rise [] h = tt
entries_rise (e ∷ es) h = (h.0, entries_rise es h.1)

module _ (f : ListEntry → TransactionState) (keyed : (e : ListEntry) → (f e).xid ≡ e.xid) where
  later_rise : (x : List ℕ) (es : List ListEntry) → AllByRecursion (λ e. comes_before x (xid_in e) ≡ true) es → AllByRecursion (λ t. comes_before x t.xid ≡ true) (map f es)
  later_rise x [] h = tt
  later_rise x (e ∷ es) h = (ap (comes_before x) (keyed e) ∙ h.0, later_rise x es h.1)

  pub table_rises : (es : List ListEntry) → Rises xid_in es → XidsRise (map f es)
  table_rises [] h = tt
  table_rises (e ∷ es) h = (subst (λ n. AllByRecursion (λ t. comes_before n t.xid ≡ true) (map f es)) (sym (keyed e)) (later_rise e.xid es h.0), table_rises es h.1)

  earlier_lack : (x : List ℕ) (es : List ListEntry) → AllByRecursion (λ e. comes_before (xid_in e) x ≡ true) es → AllByRecursion (λ t. comes_before t.xid x ≡ true) (map f es)
  earlier_lack x [] h = tt
  earlier_lack x (e ∷ es) h = (ap (λ n. comes_before n x) (keyed e) ∙ h.0, earlier_lack x es h.1)

unnamed : (x : List ℕ) (ts : List TransactionState) → AllByRecursion (λ t. comes_before t.xid x ≡ true) ts → named x ts ≡ None
unnamed x [] h = refl
unnamed x (t ∷ ts) h = ap (λ b. cond b (Some t) (named x ts)) (before_differs t.xid x h.0) ∙ unnamed x ts h.1

placed_last : (t : TransactionState) (ts : List TransactionState) → AllByRecursion (λ u. comes_before u.xid t.xid ≡ true) ts → placed t ts ≡ ts ++ t ∷ []
placed_last t [] h = refl
placed_last t (u ∷ ts) h = ap (λ b. cond b (t ∷ u ∷ ts) (u ∷ placed t ts)) (not_before t.xid u.xid h.0) ∙ ap (λ (us : List TransactionState). u ∷ us) (placed_last t ts h.1)

prepared_last : (t : TransactionState) (ts : List TransactionState) → AllByRecursion (λ u. comes_before u.xid t.xid ≡ true) ts → prepared_in t.xid (ts ++ t ∷ []) ≡ ts ++ prepared t ∷ []
prepared_last t [] h = ap (λ b. cond b (prepared t) t ∷ []) (same_self t.xid)
prepared_last t (u ∷ ts) h = (λ i. cond (before_differs u.xid t.xid h.0 i) (prepared u) u ∷ prepared_in t.xid (ts ++ t ∷ [])) ∙ ap (λ (us : List TransactionState). u ∷ us) (prepared_last t ts h.1)

-- one more entry
module _ (es : List ListEntry) (rising : EntriesRise es) (i : ℕ) (e : ListEntry) (within : i < length es) (is : e ≡ get_or es i e) where
  abbrev so_far : List TransactionState
  so_far = map (doubt_in []) (take i es)

  there : slice_get es i ≡ Some e
  there = slice_get_read es (length es) i e refl within is

  abbrev entry_begun : TransactionState
  entry_begun = record { xid = e.xid; phase = phase.Open; queues = [] }

  earlier : AllByRecursion (λ t. comes_before t.xid e.xid ≡ true) so_far
  earlier = earlier_lack (doubt_in []) (λ f. refl) e.xid (take i es) (before_at xid_in es i e (entries_rise es rising) there)

  pub so_far_rises : XidsRise so_far
  so_far_rises = table_rises (doubt_in []) (λ f. refl) (take i es) (rises_take xid_in es i (entries_rise es rising))

  pub not_begun : phase_in e.xid so_far ≡ None
  not_begun = ap (λ (o : Option TransactionState). phase_by o) (unnamed e.xid so_far earlier)
    where
      phase_by : Option TransactionState → Option Phase
      phase_by o = option_map (λ (t : TransactionState). t.phase) o

  pub begun_rises : XidsRise (begun e.xid so_far)
  begun_rises = rise_placed entry_begun so_far (unnamed e.xid so_far earlier) so_far_rises

  pub entry_prepared : prepared_in e.xid (begun e.xid so_far) ≡ map (doubt_in []) (take (i + 1) es)
  entry_prepared =
      ap (prepared_in e.xid) (placed_last entry_begun so_far earlier) ∙ prepared_last entry_begun so_far earlier ∙ sym (map_end (doubt_in []) (take i es) e) ∙ ap (map (doubt_in [])) (sym (take_more es i e there))

-- ---- the queues

names_rise : (qs : List QueueState) → Rises name_of qs → Rises (λ n. n) (map name_of qs)
names_rise [] h = tt
names_rise (q ∷ qs) h = (behind q.name qs h.0, names_rise qs h.1)
  where
    behind : (n : List ℕ) (rs : List QueueState) → AllByRecursion (λ r. comes_before n (name_of r) ≡ true) rs → AllByRecursion (λ m. comes_before n m ≡ true) (map name_of rs)
    behind n [] h = tt
    behind n (r ∷ rs) h = (h.0, behind n rs h.1)

rises_filter : (t : QueueState → Bool) (qs : List QueueState) → Rises name_of qs → Rises name_of (filter t qs)
rises_filter t [] h = tt
rises_filter t (q ∷ qs) h =
    elim (t q) as (λ b. Rises name_of (cond b (q ∷ filter t qs) (filter t qs))) [
      | true ↦ (all_filter (λ r. comes_before q.name (name_of r) ≡ true) t qs h.0, rises_filter t qs h.1)
      | false ↦ rises_filter t qs h.1
    ]

touched_rises : (x : List ℕ) (qs : List QueueState) → Rises name_of qs → Rises (λ n. n) (touched x qs)
touched_rises x qs h = names_rise (filter (is_pending x) qs) (rises_filter (is_pending x) qs h)

names_before : (n : List ℕ) (qs : List QueueState) → AllByRecursion (λ q. comes_before (name_of q) n ≡ true) qs → AllByRecursion (λ m. comes_before m n ≡ true) (map name_of qs)
names_before n [] h = tt
names_before n (q ∷ qs) h = (h.0, names_before n qs h.1)

touched_before : (x n : List ℕ) (qs : List QueueState) → AllByRecursion (λ q. comes_before (name_of q) n ≡ true) qs → AllByRecursion (λ m. comes_before m n ≡ true) (touched x qs)
touched_before x n qs h = names_before n (filter (is_pending x) qs) (all_filter (λ q. comes_before (name_of q) n ≡ true) (is_pending x) qs h)

touched_end : (x : List ℕ) (qs : List QueueState) (q : QueueState) → touched x (qs ++ q ∷ []) ≡ cond (is_pending x q) (touched x qs ++ q.name ∷ []) (touched x qs)
touched_end x [] q = by (is_pending x q)
  where
    by : (b : Bool) → map name_of (cond b (q ∷ []) []) ≡ cond b (q.name ∷ []) []
    by true = refl
    by false = refl
touched_end x (r ∷ qs) q = by (is_pending x r) (is_pending x q) (touched_end x qs q)
  where
    by : (b c : Bool) → touched x (qs ++ q ∷ []) ≡ cond c (touched x qs ++ q.name ∷ []) (touched x qs)
        → map name_of (cond b (r ∷ filter (is_pending x) (qs ++ q ∷ [])) (filter (is_pending x) (qs ++ q ∷ [])))
        ≡ cond c (map name_of (cond b (r ∷ filter (is_pending x) qs) (filter (is_pending x) qs)) ++ q.name ∷ []) (map name_of (cond b (r ∷ filter (is_pending x) qs) (filter (is_pending x) qs)))
    by true true h = ap (λ (ns : List (List ℕ)). r.name ∷ ns) h
    by true false h = ap (λ (ns : List (List ℕ)). r.name ∷ ns) h
    by false true h = h
    by false false h = h

-- a name that comes behind all others
name_last : (n : List ℕ) (ns : List (List ℕ)) → AllByRecursion (λ m. comes_before m n ≡ true) ns → with_name n ns ≡ ns ++ n ∷ []
name_last n [] h = refl
name_last n (m ∷ ns) h =
    (λ i. cond (before_differs m n h.0 i) (m ∷ ns) (cond (not_before n m h.0 i) (n ∷ m ∷ ns) (m ∷ with_name n ns))) ∙ ap (λ (ms : List (List ℕ)). m ∷ ms) (name_last n ns h.1)

name_again : (n : List ℕ) (ns : List (List ℕ)) → AllByRecursion (λ m. comes_before m n ≡ true) ns → with_name n (ns ++ n ∷ []) ≡ ns ++ n ∷ []
name_again n [] h = ap (λ b. cond b (n ∷ []) (cond (comes_before n n) (n ∷ n ∷ []) (n ∷ n ∷ []))) (same_self n)
name_again n (m ∷ ns) h =
    (λ i. cond (before_differs m n h.0 i) (m ∷ (ns ++ n ∷ [])) (cond (not_before n m h.0 i) (n ∷ m ∷ (ns ++ n ∷ [])) (m ∷ with_name n (ns ++ n ∷ []))))
    ∙ ap (λ (ms : List (List ℕ)). m ∷ ms) (name_again n ns h.1)

all_end : {A : Type 0} (P : A → Type 0) (xs : List A) (x : A) → AllByRecursion P xs → P x → AllByRecursion P (xs ++ x ∷ [])
all_end P [] x h k = (k, tt)
all_end P (y ∷ xs) x h k = (h.0, all_end P xs x h.1 k)

rises_end : (n : List ℕ) (ns : List (List ℕ)) → Rises (λ m. m) ns → AllByRecursion (λ m. comes_before m n ≡ true) ns → Rises (λ m. m) (ns ++ n ∷ [])
rises_end n [] r h = (tt, tt)
rises_end n (m ∷ ns) r h = (all_end (λ k. comes_before m k ≡ true) ns n r.0 h.0, rises_end n ns r.1 h.1)

-- those by which a message of one more queue is pending, so far
module _ (qs : List QueueState) (n : List ℕ) where
  abbrev with_last : Bool → List (List ℕ) → List (List ℕ)
  with_last b ns = cond b (ns ++ n ∷ []) ns

  abbrev pub doubt_so : List (List ℕ) → ListEntry → TransactionState
  doubt_so xs e = record { xid = e.xid; phase = phase.Prepared; queues = with_last (is_listed e.xid xs) (touched e.xid qs) }

  pub none_touched : (es : List ListEntry) → map (doubt_in qs) es ≡ map (doubt_so []) es
  none_touched [] = refl
  none_touched (e ∷ es) = ap (λ (ts : List TransactionState). doubt_in qs e ∷ ts) (none_touched es)

  pub so_rises : (xs : List (List ℕ)) (es : List ListEntry) → EntriesRise es → XidsRise (map (doubt_so xs) es)
  so_rises xs es h = table_rises (doubt_so xs) (λ e. refl) es (entries_rise es h)

  module _ (rising : Rises name_of qs) (before : AllByRecursion (λ q. comes_before (name_of q) n ≡ true) qs) where
    one_rises : (b : Bool) (x : List ℕ) → Rises (λ m. m) (with_last b (touched x qs))
    one_rises true x = rises_end n (touched x qs) (touched_rises x qs rising) (touched_before x n qs before)
    one_rises false x = touched_rises x qs rising

    pub names_in_order : (xs : List (List ℕ)) (es : List ListEntry) → AllByRecursion (λ t. Rises (λ m. m) t.queues) (map (doubt_so xs) es)
    names_in_order xs [] = tt
    names_in_order xs (e ∷ es) = (one_rises (is_listed e.xid xs) e.xid, names_in_order xs es)

    named_now : (b : Bool) (x : List ℕ) → with_name n (with_last b (touched x qs)) ≡ touched x qs ++ n ∷ []
    named_now true x = name_again n (touched x qs) (touched_before x n qs before)
    named_now false x = name_last n (touched x qs) (touched_before x n qs before)

    or_true : (b : Bool) → true ≡ (b || (true || false))
    or_true true = refl
    or_true false = refl

    or_none : (b : Bool) → b ≡ (b || (false || false))
    or_none true = refl
    or_none false = refl

    one_touched : (x : List ℕ) (xs : List (List ℕ)) (e : ListEntry) → cond (same e.xid x) (with_queue n (doubt_so xs e)) (doubt_so xs e) ≡ doubt_so (xs ++ x ∷ []) e
    one_touched x xs e = by (same e.xid x) refl
      where
        after : (b : Bool) → is_listed e.xid (xs ++ x ∷ []) ≡ b → (ns : List (List ℕ)) → ns ≡ with_last b (touched e.xid qs) → ◌≡◌ {A = TransactionState} (record { xid = e.xid; phase = phase.Prepared; queues = ns }) (doubt_so (xs ++ x ∷ []) e)
        after b h ns k = λ i. record { xid = e.xid; phase = phase.Prepared; queues = (k ∙ ap (λ c. with_last c (touched e.xid qs)) (sym h)) i }

        by : (b : Bool) → same e.xid x ≡ b → cond b (with_queue n (doubt_so xs e)) (doubt_so xs e) ≡ doubt_so (xs ++ x ∷ []) e
        by true is =
            after true (list_any-append (λ y. same e.xid y) xs (x ∷ []) ∙ ap (λ c. is_listed e.xid xs || (c || false)) is ∙ sym (or_true (is_listed e.xid xs))) (with_name n (with_last (is_listed e.xid xs) (touched e.xid qs)))
            (named_now (is_listed e.xid xs) e.xid)
        by false is =
            after (is_listed e.xid xs) (list_any-append (λ y. same e.xid y) xs (x ∷ []) ∙ ap (λ c. is_listed e.xid xs || (c || false)) is ∙ sym (or_none (is_listed e.xid xs))) (with_last (is_listed e.xid xs) (touched e.xid qs)) refl

    all_touched : (x : List ℕ) (xs : List (List ℕ)) (es : List ListEntry) → touched_by (Some x) n (map (doubt_so xs) es) ≡ map (doubt_so (xs ++ x ∷ [])) es
    all_touched x xs [] = refl
    all_touched x xs (e ∷ es) = λ i. one_touched x xs e i ∷ all_touched x xs es i

    pub next_touched : (xs : List (List ℕ)) (i : ℕ) (x : List ℕ) → i < length xs → x ≡ get_or xs i x → (es : List ListEntry) → touched_by (Some x) n (map (doubt_so (take i xs)) es) ≡ map (doubt_so (take (i + 1) xs)) es
    next_touched xs i x h is es = all_touched x (take i xs) es ∙ ap (λ ys. map (doubt_so ys) es) (sym (take_more xs i x (slice_get_read xs (length xs) i x refl h is)))

-- ---- the queue at a place

module _ (s : JournalsState) (rising : NamesRise (names_of s.queues)) (at : ℕ) (q : QueueState) (there : slice_get (queues_of s) at ≡ Some q) where
  pub earlier_names : AllByRecursion (λ r. comes_before (name_of r) q.name ≡ true) (take at (queues_of s))
  earlier_names = before_at name_of (queues_of s) at q (rises_by s.queues rising) there

  pub earlier_rise : Rises name_of (take at (queues_of s))
  earlier_rise = rises_take name_of (queues_of s) at (rises_by s.queues rising)

  one_more : (xs : List (List ℕ)) → ((x : List ℕ) → is_listed x xs ≡ is_pending x q) → (e : ListEntry) → doubt_so (take at (queues_of s)) q.name xs e ≡ doubt_in (take (at + 1) (queues_of s)) e
  one_more xs listed e = λ i. record {
    xid = e.xid;
    phase = phase.Prepared;
    queues = (ap (λ b. cond b (touched e.xid (take at (queues_of s)) ++ q.name ∷ []) (touched e.xid (take at (queues_of s)))) (listed e.xid) ∙ sym (touched_end e.xid (take at (queues_of s)) q)
        ∙ ap (touched e.xid) (sym (take_more (queues_of s) at q there))) i;
  }

  pub queue_touched : (xs : List (List ℕ)) (n : ℕ) → length xs ≤ n → ((x : List ℕ) → is_listed x xs ≡ is_pending x q) → (es : List ListEntry) → map (doubt_so (take at (queues_of s)) q.name (take n xs)) es ≡ map (doubt_in (take (at + 1) (queues_of s))) es
  queue_touched xs n h listed es = ap (λ ys. map (doubt_so (take at (queues_of s)) q.name ys) es) (take_all xs n h) ∙ each es
    where
      each : (fs : List ListEntry) → map (doubt_so (take at (queues_of s)) q.name xs) fs ≡ map (doubt_in (take (at + 1) (queues_of s))) fs
      each [] = refl
      each (f ∷ fs) = λ i. one_more xs listed f i ∷ each fs i

as_many : (qs : List LiveState) → length (map (λ q. q.queue) qs) ≡ length qs
as_many [] = refl
as_many (q ∷ qs) = ap suc (as_many qs)

-- all queues
pub queues_touched : (s : JournalsState) (n : ℕ) → length s.queues ≤ n → (es : List ListEntry) → map (doubt_in (take n (queues_of s))) es ≡ map (doubt_in (queues_of s)) es
queues_touched s n h es =
    let within : length (queues_of s) ≤ n = omega (arith, h, as_many s.queues) in
    ap (λ qs. map (doubt_in qs) es) (take_all (queues_of s) n within)
