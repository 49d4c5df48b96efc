-- The list over a journal that was read: what its records make, one after another, and what the journal on a disk says then.
use Rattle.std.proofs.Common.{◌≡◌, ℕ, ◌+◌, ◌^◌, ◌<◌, ◌≤◌, Bool, true, false, not, cond, ◌&&◌, ◌||◌, ◌==◌, IfSome, List, [], ◌∷◌, ◌++◌, map, take, drop, length, get_or, Option, Some, None, refl, ap, sym, ◌∙◌, subst, arith, append-nil}
use Rattle.std.proofs.lemmas.Bool.Decides.{nat_tests}
use Rattle.std.proofs.lemmas.Grind.{common_steps}
use Rattle.std.specs.List.{AllByRecursion, filter}
use Rattle.qls_model.specs.Bytes.{same}
use Rattle.qls_model.specs.Limits.{is_partition, is_kib}
use Rattle.qls_model.specs.declared.machine.PoolId.{PoolId}
use Rattle.qls_site.specs.Disk.{Disk}
use Rattle.qls_record.specs.declared.Kind.{Kind}
use Rattle.qls_record.specs.declared.Kind.TheVariants.{Enqueue, Dequeue, Commit, Abort, Filler}
use Rattle.qls_record.specs.declared.Got.{Got}
use Rattle.qls_record.specs.Record.{Record, rid_given, is_enqueue, is_filler}
use Rattle.qls_decide.specs.declared.ListEntry.{ListEntry}
use Rattle.qls_decide.specs.declared.ListState.{ListState}
use Rattle.qls_decide.specs.Entries.{entry_of, without_entry, placed_entry, with_entry}
use Rattle.qls_enqmap.specs.declared.Held.{Held}
use Rattle.qls_enqmap.specs.Records.{AllBelow}
use Rattle.qls_meaning.specs.Reading.{Read, read_of}
use Rattle.qls_meaning.specs.Replay.{xid_in, decision, is_undecided, entry_state, decide_entry, prepare_entry, after_list_record, entries_after}
use Rattle.qls_laws.proofs.EntryOrder.{Lacks, without_lacking, none_lacking}
use Rattle.qls_reading.specs.ReadLogs.{AreGiven, rid_behind}
use Rattle.qls_log.specs.Logs.{LogState}
use Rattle.qls_log.specs.Reads.{IsRead}
use Rattle.qls_log.specs.Soundness.{IsUndamaged}
use Rattle.qls_prepared.specs.Lists.{IsXid, IsSound, IsOwn, IsBegun, IsReadSo, WholeBy, rid_of_log, opened, XidsRise, RidsDiffer, is_entry_of, held_of, held_in}
use Rattle.qls_prepared.specs.Table.{TableState, held_without}
use Rattle.qls_prepared.specs.Opening.{held_entered, held_after, may_decide}
use Rattle.qls_prepared.proofs.Kept.{sorted_rise, all_kept, all_with, all_found, differ_kept, differ_with, differ_decided, rise_with, rise_kept, stated, decided_there}
use Rattle.qls_prepared.proofs.Sounds.{list_with}
use Rattle.qls_prepared.proofs.HeldBehind.{has_rid, held_append, held_same, none_entered, as_before, any_with, stated_held, one_without, none_of, below_more, below_end, below_one}

-- ---- an enqueue

pub lacks_own : (x : List ℕ) (es : List ListEntry) → Lacks x (without_entry x es)
lacks_own x [] = tt
lacks_own x (e ∷ es) = by (same e.xid x) refl (lacks_own x es)
  where
    by : (b : Bool) → same e.xid x ≡ b → Lacks x (without_entry x es) → Lacks x (cond (not b) (e ∷ without_entry x es) (without_entry x es))
    by true h rest = rest
    by false h rest = (h, rest)

pub none_own : (x : List ℕ) (es : List ListEntry) → entry_of x (without_entry x es) ≡ None
none_own x es = none_lacking x (without_entry x es) (lacks_own x es)

pub with_twice : (e : ListEntry) (es : List ListEntry) → with_entry e (without_entry e.xid es) ≡ with_entry e es
with_twice e es = ap (placed_entry e) (without_lacking e.xid (without_entry e.xid es) (lacks_own e.xid es))

pub none_enters : (r : Read) (x : List ℕ) (es : List ListEntry) → length x ≡ 0 → es ≡ prepare_entry r.what (xid_in x) es
none_enters r [] es h = refl
none_enters r (b ∷ x) es h = absurd (omega (arith, h))

pub none_held : (r : Read) (x : List ℕ) (t : TableState) → length x ≡ 0 → t.held ≡ held_entered r (xid_in x) t
none_held r [] t h = refl
none_held r (b ∷ x) t h = absurd (omega (arith, h))

pub xid_is : (x : List ℕ) → 0 < length x → xid_in x ≡ Some x
xid_is [] h = absurd (omega (arith, h))
xid_is (b ∷ x) h = refl

-- ---- a decision

pub decided_so : (r : Record) (o : Option ListEntry) (es new : List ListEntry) → may_decide r.target o ≡ true → IfSome o (λ e. new ≡ with_entry (record e { state = decision r.flagged }) es) → new ≡ decide_entry r o es
decided_so r None es new m h = absurd (cc)
decided_so r (Some e) es new m h = h ∙ sym (ap (λ b. cond b (with_entry (record e { state = decision r.flagged }) es) es) m)

pub not_decided : (r : Record) (o : Option ListEntry) (es : List ListEntry) → may_decide r.target o ≡ false → es ≡ decide_entry r o es
not_decided r None es m = refl
not_decided r (Some e) es m = sym (ap (λ b. cond b (with_entry (record e { state = decision r.flagged }) es) es) m)

-- ---- what holds behind some records

pub record IsMadeOf (rid : ℕ) (rs : List Read) (es : List ListEntry) (hs : List Held) : Type 0 where
  pub entries : entries_after (map (λ r. r.what) rs) [] ≡ es
  pub held : held_in es rs ≡ hs
  pub rising : XidsRise es
  pub xids : AllByRecursion (λ e. IsXid e.xid) es
  pub below : AllByRecursion (λ e. e.rid ≤ rid) es
  pub apart : RidsDiffer es
  pub ids : AllBelow (rid + 1) hs
  pub reads : AllByRecursion (λ r. is_enqueue r.what.kind ≡ true → r.what.rid ≤ rid) rs

pub made_of_none : (rid : ℕ) → IsMadeOf rid [] [] []
made_of_none rid = record { entries = refl; held = refl; rising = tt; xids = tt; below = tt; apart = tt; ids = tt; reads = tt }

entries_more : (rs : List Read) (r : Read) (es : List ListEntry) → entries_after (map (λ r. r.what) (rs ++ r ∷ [])) es ≡ after_list_record r.what.kind r.what (entries_after (map (λ r. r.what) rs) es)
entries_more [] r es = refl
entries_more (q ∷ rs) r es = entries_more rs r (after_list_record q.what.kind q.what es)

reads_more : (m n : ℕ) (rs : List Read) (r : Read) → m ≤ n → (is_enqueue r.what.kind ≡ true → r.what.rid ≤ n) → AllByRecursion (λ r. is_enqueue r.what.kind ≡ true → r.what.rid ≤ m) rs
    → AllByRecursion (λ r. is_enqueue r.what.kind ≡ true → r.what.rid ≤ n) (rs ++ r ∷ [])
reads_more m n [] r l last h = (last, tt)
reads_more m n (q ∷ rs) r l last h = ((λ e. let low = h.0 e in omega (arith, low, l)), reads_more m n rs r l last h.1)

all_more : (m n : ℕ) (es : List ListEntry) → m ≤ n → AllByRecursion (λ e. e.rid ≤ m) es → AllByRecursion (λ e. e.rid ≤ n) es
all_more m n [] l h = tt
all_more m n (e ∷ es) l h = let here = h.0 in (omega (arith, here, l), all_more m n es l h.1)

held_on : (es : List ListEntry) (rs : List Read) (r : Read) → is_enqueue r.what.kind ≡ false → held_in es (rs ++ r ∷ []) ≡ held_in es rs
held_on es rs r k = held_append es rs (r ∷ []) ∙ ap (λ (hs : List Held). held_in es rs ++ hs) (none_entered es (r ∷ []) (k, tt)) ∙ append-nil (held_in es rs)

-- ---- a record that enters nothing

module _ (rid : ℕ) (rs : List Read) (es : List ListEntry) (hs : List Held) (m : IsMadeOf rid rs es hs) (r : Read) where
  no_enqueue : (k : Kind) → r.what.kind ≡ k → is_enqueue k ≡ false → is_enqueue r.what.kind ≡ false
  no_enqueue k e f = ap is_enqueue e ∙ f

  later_reads : is_enqueue r.what.kind ≡ false → AllByRecursion (λ r. is_enqueue r.what.kind ≡ true → r.what.rid ≤ rid) (rs ++ r ∷ [])
  later_reads f = reads_more rid rid rs r (omega arith) (λ e. let both : true ≡ false = sym e ∙ f in absurd (cc)) m.reads

  later_entries : (k : Kind) → r.what.kind ≡ k → entries_after (map (λ r. r.what) (rs ++ r ∷ [])) [] ≡ after_list_record k r.what es
  later_entries k e = entries_more rs r [] ∙ ap (λ c. after_list_record c r.what (entries_after (map (λ r. r.what) rs) [])) e ∙ ap (after_list_record k r.what) m.entries

  -- nothing changes
  made_same : (k : Kind) → r.what.kind ≡ k → is_enqueue k ≡ false → after_list_record k r.what es ≡ es → IsMadeOf rid (rs ++ r ∷ []) es hs
  made_same k e f same = record {
    entries = later_entries k e ∙ same;
    held = held_on es rs r (no_enqueue k e f) ∙ m.held;
    rising = m.rising;
    xids = m.xids;
    below = m.below;
    apart = m.apart;
    ids = m.ids;
    reads = later_reads (no_enqueue k e f);
  }

  made_ended : r.what.kind ≡ Commit → IsMadeOf rid (rs ++ r ∷ []) (without_entry r.what.xid es) (held_without (entry_of r.what.xid es) hs)
  made_ended e =
      let x : List ℕ = r.what.xid in
      let fs : List ListEntry = without_entry x es in
      let f : is_enqueue r.what.kind ≡ false = no_enqueue Commit e refl in
      record {
        entries = later_entries Commit e;
        held = held_on fs rs r f ∙ one_without x (entry_of x es) es rs refl (sorted_rise es m.rising) m.apart ∙ ap (held_without (entry_of x es)) m.held;
        rising = rise_kept _ es m.rising;
        xids = all_kept (λ g. IsXid g.xid) _ es m.xids;
        below = all_kept (λ g. g.rid ≤ rid) _ es m.below;
        apart = differ_kept _ es m.apart;
        ids = below_one (rid + 1) (entry_of x es) hs m.ids;
        reads = later_reads f;
      }

  made_decided : r.what.kind ≡ Dequeue → IsMadeOf rid (rs ++ r ∷ []) (decide_entry r.what (entry_of r.what.xid es) es) hs
  made_decided e = by (entry_of r.what.xid es) refl
    where
      x : List ℕ
      x = r.what.xid

      s : ListState
      s = decision r.what.flagged

      f : is_enqueue r.what.kind ≡ false
      f = no_enqueue Dequeue e refl

      if_so : (g : ListEntry) → entry_of x es ≡ Some g → (b : Bool) → (g.rid == r.what.target && is_undecided g.state) ≡ b → IsMadeOf rid (rs ++ r ∷ []) (cond b (with_entry (record g { state = s }) es) es) hs
      if_so g h false t = made_same Dequeue e refl (ap (λ o. decide_entry r.what o es) h ∙ ap (λ b. cond b (with_entry (record g { state = s }) es) es) t)
      if_so g h true t = record {
        entries = later_entries Dequeue e ∙ ap (λ o. decide_entry r.what o es) h ∙ ap (λ b. cond b (with_entry (record g { state = s }) es) es) t;
        held =
            held_on (with_entry (record g { state = s }) es) rs r f ∙ ap (λ (fs : List ListEntry). held_in fs rs) (decided_there x s g es (sorted_rise es m.rising) h)
            ∙ held_same (map (stated x s) es) es rs (stated_held x s es rs) ∙ m.held;
        rising = rise_with (record g { state = s }) es m.rising;
        xids = all_with (λ k. IsXid k.xid) (record g { state = s }) es (all_found (λ k. IsXid k.xid) x g es m.xids h) m.xids;
        below = all_with (λ k. k.rid ≤ rid) (record g { state = s }) es (all_found (λ k. k.rid ≤ rid) x g es m.below h) m.below;
        apart = differ_decided x s g es m.rising h m.apart;
        ids = m.ids;
        reads = later_reads f;
      }

      by : (o : Option ListEntry) → entry_of x es ≡ o → IsMadeOf rid (rs ++ r ∷ []) (decide_entry r.what o es) hs
      by None h = made_same Dequeue e refl (ap (λ o. decide_entry r.what o es) h)
      by (Some g) h = if_so g h (g.rid == r.what.target && is_undecided g.state) refl

-- ---- an enqueue

own_rid : (n : ℕ) → (n == n) ≡ true
own_rid n = grind (arith, nat_tests)

differs : (m n : ℕ) → m < n → (m == n) ≡ false
differs m n h = grind (arith, nat_tests)

apart_from : (n rid : ℕ) (es : List ListEntry) → n < rid → AllByRecursion (λ e. e.rid ≤ n) es → AllByRecursion (λ f. (f.rid == rid) ≡ false) es
apart_from n rid [] l h = tt
apart_from n rid (e ∷ es) l h = let here = h.0 in (differs e.rid rid (omega (arith, here, l)), apart_from n rid es l h.1)

below_reads : (m n : ℕ) (rs : List Read) → m < n → AllByRecursion (λ r. is_enqueue r.what.kind ≡ true → r.what.rid ≤ m) rs → AllByRecursion (λ r. is_enqueue r.what.kind ≡ true → r.what.rid < n) rs
below_reads m n [] l h = tt
below_reads m n (r ∷ rs) l h = ((λ e. let low = h.0 e in omega (arith, low, l)), below_reads m n rs l h.1)

one_held : (es : List ListEntry) (r : Read) (b : Bool) → is_entry_of es r ≡ b → held_in es (r ∷ []) ≡ cond b (held_of r ∷ []) []
one_held es r true e = ap (λ b. map held_of (cond b (r ∷ []) [])) e
one_held es r false e = ap (λ b. map held_of (cond b (r ∷ []) [])) e

and_right : (a b c : Bool) → a ≡ true → b ≡ c → (a && b) ≡ c
and_right true b c h k = k
and_right false b c h k = absurd (cc)

module _ (rid : ℕ) (rs : List Read) (es : List ListEntry) (hs : List Held) (m : IsMadeOf rid rs es hs) (r : Read) (kind : r.what.kind ≡ Enqueue) (given : r.what.rid ≡ rid + 1) where
  enters : is_enqueue r.what.kind ≡ true
  enters = ap is_enqueue kind

  more_entries : entries_after (map (λ r. r.what) (rs ++ r ∷ [])) [] ≡ prepare_entry r.what (xid_in r.what.xid) es
  more_entries = entries_more rs r [] ∙ ap (λ c. after_list_record c r.what (entries_after (map (λ r. r.what) rs) [])) kind ∙ ap (after_list_record Enqueue r.what) m.entries

  more_reads : AllByRecursion (λ r. is_enqueue r.what.kind ≡ true → r.what.rid ≤ rid + 1) (rs ++ r ∷ [])
  more_reads = reads_more rid (rid + 1) rs r (omega arith) (λ e. omega (arith, given)) m.reads

  -- of no transaction
  made_alone : xid_in r.what.xid ≡ None → IsMadeOf (rid + 1) (rs ++ r ∷ []) es hs
  made_alone none = record {
    entries = more_entries ∙ ap (λ o. prepare_entry r.what o es) none;
    held =
        held_append es rs (r ∷ [])
        ∙ ap (λ (gs : List Held). held_in es rs ++ gs) (one_held es r false (and_right (is_enqueue r.what.kind) (has_rid r.what.rid es) false enters (none_of r.what.rid es (apart_from rid r.what.rid es (omega (arith, given)) m.below))))
        ∙ append-nil (held_in es rs) ∙ m.held;
    rising = m.rising;
    xids = m.xids;
    below = all_more rid (rid + 1) es (omega arith) m.below;
    apart = m.apart;
    ids = below_more (rid + 1) (rid + 1 + 1) hs (omega arith) m.ids;
    reads = more_reads;
  }

  made_entered : xid_in r.what.xid ≡ Some r.what.xid → IsXid r.what.xid
      → IsMadeOf (rid + 1) (rs ++ r ∷ []) (with_entry (record { xid = r.what.xid; rid = r.what.rid; state = entry_state r.what.flagged }) es) (held_without (entry_of r.what.xid es) hs ++ held_of r ∷ [])
  made_entered some legal =
      let x : List ℕ = r.what.xid in
      let e : ListEntry = record { xid = x; rid = r.what.rid; state = entry_state r.what.flagged } in
      let fs : List ListEntry = without_entry x es in
      let low : AllByRecursion (λ f. f.rid ≤ rid) fs = all_kept (λ f. f.rid ≤ rid) _ es m.below in
      let older : AllByRecursion (λ q. is_enqueue q.what.kind ≡ true → q.what.rid < e.rid) rs = below_reads rid e.rid rs (omega (arith, given)) m.reads in
      let here : has_rid r.what.rid (with_entry e fs) ≡ true = any_with r.what.rid e fs (none_own x es) ∙ ap (λ b. b || has_rid r.what.rid fs) (own_rid r.what.rid) in
      let all : IsMadeOf (rid + 1) (rs ++ r ∷ []) (with_entry e fs) (held_without (entry_of x es) hs ++ held_of r ∷ []) =
      record {
        entries = more_entries ∙ ap (λ o. prepare_entry r.what o es) some ∙ sym (with_twice e es);
        held =
            held_append (with_entry e fs) rs (r ∷ [])
            ∙ ap (λ (gs : List Held). held_in (with_entry e fs) rs ++ gs) (one_held (with_entry e fs) r true (and_right (is_enqueue r.what.kind) (has_rid r.what.rid (with_entry e fs)) true enters here))
            ∙ ap (λ (gs : List Held). gs ++ held_of r ∷ []) (held_same (with_entry e fs) fs rs (as_before e fs rs (none_own x es) older) ∙ one_without x (entry_of x es) es rs refl (sorted_rise es m.rising) m.apart ∙ ap (held_without (entry_of x es)) m.held);
        rising = rise_with e fs (rise_kept _ es m.rising);
        xids = all_with (λ f. IsXid f.xid) e fs legal (all_kept (λ f. IsXid f.xid) _ es m.xids);
        below = all_with (λ f. f.rid ≤ rid + 1) e fs (omega (arith, given)) (all_more rid (rid + 1) fs (omega arith) low);
        apart = differ_with e fs (apart_from rid e.rid fs (omega (arith, given)) low) (differ_kept _ es m.apart);
        ids = below_end (rid + 1 + 1) (held_without (entry_of x es) hs) (held_of r) (below_more (rid + 1) (rid + 1 + 1) (held_without (entry_of x es) hs) (omega arith) (below_one (rid + 1) (entry_of x es) hs m.ids)) (omega (arith, given));
        reads = more_reads;
      } in
      subst (λ (gs : List ListEntry). IsMadeOf (rid + 1) (rs ++ r ∷ []) gs (held_without (entry_of x es) hs ++ held_of r ∷ [])) (with_twice e es) all

  made_enqueued : length r.what.xid ≤ 128 → IsMadeOf (rid + 1) (rs ++ r ∷ []) (prepare_entry r.what (xid_in r.what.xid) es) (held_entered r (xid_in r.what.xid) (record { entries = es; held = hs }))
  made_enqueued short = by r.what.xid refl
    where
      by : (x : List ℕ) → r.what.xid ≡ x → IsMadeOf (rid + 1) (rs ++ r ∷ []) (prepare_entry r.what (xid_in x) es) (held_entered r (xid_in x) (record { entries = es; held = hs }))
      by [] e = made_alone (ap xid_in e)
      by (b ∷ x) e =
          let is : xid_in r.what.xid ≡ Some r.what.xid = ap xid_in e ∙ ap (λ y. Some y) (sym e) in
          let legal : IsXid r.what.xid = (subst (λ y. 0 < length y) (sym e) (omega arith), short) in
          subst (λ (o : Option (List ℕ)). IsMadeOf (rid + 1) (rs ++ r ∷ []) (prepare_entry r.what o es) (held_entered r o (record { entries = es; held = hs }))) (sym is ∙ ap xid_in e) (made_entered is legal)

-- ---- any record

pub made_next : (rid : ℕ) (rs : List Read) (es : List ListEntry) (hs : List Held) → IsMadeOf rid rs es hs → (r : Read) → r.what.rid ≡ rid_given rid r.what.kind → length r.what.xid ≤ 128
    → IsMadeOf r.what.rid (rs ++ r ∷ []) (after_list_record r.what.kind r.what es) (held_after r.what.kind r (record { entries = es; held = hs }))
made_next rid rs es hs m r given short =
    subst (λ n. IsMadeOf n (rs ++ r ∷ []) (after_list_record r.what.kind r.what es) (held_after r.what.kind r (record { entries = es; held = hs }))) (sym given) (by r.what.kind refl)
  where
    by : (k : Kind) → r.what.kind ≡ k → IsMadeOf (rid_given rid k) (rs ++ r ∷ []) (after_list_record k r.what es) (held_after k r (record { entries = es; held = hs }))
    by Enqueue e = made_enqueued rid rs es hs m r e (given ∙ ap (rid_given rid) e) short
    by Dequeue e = made_decided rid rs es hs m r e
    by Commit e = made_ended rid rs es hs m r e
    by Abort e = made_same rid rs es hs m r Abort e refl refl
    by Filler e = made_same rid rs es hs m r Filler e refl refl

-- ---- the records that are left

-- these are made, and those that are left go on from the rid in force to this last one
pub record GoesOn (last : ℕ) (done rest : List Got) (t : TableState) : Type 0 where
  pub rid : ℕ
  pub made : IsMadeOf rid (map read_of done) t.entries t.held
  pub given : AreGiven rid rest
  pub ends : rid_behind rid rest ≡ last

pub goes_from : (last : ℕ) (gs : List Got) (t : TableState) → (rid : ℕ) × AreGiven rid gs × (last ≡ rid_behind rid gs) → t ≡ record { entries = []; held = [] } → GoesOn last [] gs t
goes_from last gs t g e = record {
  rid = g.0;
  made = subst (λ (u : TableState). IsMadeOf g.0 [] u.entries u.held) (sym e) (made_of_none g.0);
  given = g.1;
  ends = sym g.2;
}

pub may_go_on : (last : ℕ) (done : List Got) (g : Got) (rest : List Got) (t : TableState) → GoesOn last done (g ∷ rest) t → is_enqueue g.head.kind ≡ true → AllBelow g.head.rid t.held
may_go_on last done g rest t o k = by g.head.kind k o.given.0
  where
    by : (k : Kind) → is_enqueue k ≡ true → g.head.rid ≡ rid_given o.rid k → AllBelow g.head.rid t.held
    by Enqueue h e = subst (λ n. AllBelow n t.held) (sym e) o.made.ids
    by Dequeue h e = absurd (cc)
    by Commit h e = absurd (cc)
    by Abort h e = absurd (cc)
    by Filler h e = absurd (cc)

map_more : (gs : List Got) (g : Got) → map read_of (gs ++ g ∷ []) ≡ map read_of gs ++ read_of g ∷ []
map_more [] g = refl
map_more (h ∷ gs) g = ap (λ (rs : List Read). read_of h ∷ rs) (map_more gs g)

pub goes_on : (last : ℕ) (done : List Got) (g : Got) (rest : List Got) (t u : TableState) → GoesOn last done (g ∷ rest) t → length g.xid ≤ 128 → u.entries ≡ after_list_record g.head.kind (read_of g).what t.entries
    → u.held ≡ held_after g.head.kind (read_of g) t → GoesOn last (done ++ g ∷ []) rest u
goes_on last done g rest t u o short entries held = record {
  rid = g.head.rid;
  made =
      subst (λ (rs : List Read). IsMadeOf g.head.rid rs u.entries u.held) (sym (map_more done g))
      (subst (λ (es : List ListEntry). IsMadeOf g.head.rid (map read_of done ++ read_of g ∷ []) es u.held) (sym entries)
      (subst (λ (hs : List Held). IsMadeOf g.head.rid (map read_of done ++ read_of g ∷ []) (after_list_record g.head.kind (read_of g).what t.entries) hs) (sym held)
      (made_next o.rid (map read_of done) t.entries t.held o.made (read_of g) o.given.0 short)));
  given = o.given.2;
  ends = o.ends;
}

pub left_here : (xs : List Got) (k : ℕ) (x : Got) → k < length xs → x ≡ get_or xs k x → drop k xs ≡ x ∷ drop (k + 1) xs
left_here xs k x l is = grind (arith, common_steps)

pub done_here : (xs : List Got) (k : ℕ) (x : Got) → k < length xs → x ≡ get_or xs k x → take (k + 1) xs ≡ take k xs ++ x ∷ []
done_here xs k x l is = grind (arith, common_steps)

pub all_done : (xs : List Got) (k : ℕ) → length xs ≤ k → take k xs ≡ xs
all_done xs k l = grind (arith, common_steps)

pub none_left : (xs : List Got) (k : ℕ) → length xs ≤ k → drop k xs ≡ []
none_left xs k l = grind (arith, common_steps)

-- all are made
pub made_of_all : (last : ℕ) (gs : List Got) (k : ℕ) (t : TableState) → length gs ≤ k → GoesOn last (take k gs) (drop k gs) t → IsMadeOf last (map read_of gs) t.entries t.held
made_of_all last gs k t l o =
    let end : o.rid ≡ last = sym (ap (rid_behind o.rid) (none_left gs k l)) ∙ o.ends in
    subst (λ n. IsMadeOf n (map read_of gs) t.entries t.held) end (subst (λ (xs : List Got). IsMadeOf o.rid (map read_of xs) t.entries t.held) (all_done gs k l) o.made)

-- ---- the list

below_limit : (log : Option LogState) → IsOwn log → rid_of_log log < 2 ^ 62
below_limit None own = omega arith
below_limit (Some l) own = own.sound.rid

begun_by : (log : Option LogState) (es : List ListEntry) → (log ≡ None → es ≡ []) → IsBegun log es
begun_by None es h = h refl
begun_by (Some l) es h = tt

pub opened_sound : (home : PoolId) (log : Option LogState) (gs : List Got) (t : TableState) → (is_partition home.part ≡ true) × (is_kib home.kib ≡ true) → IsOwn log → (log ≡ None → gs ≡ [])
    → IsMadeOf (rid_of_log log) (map read_of gs) t.entries t.held → IsSound (list_with home log t.entries t.held)
opened_sound home log gs t legal own none m = record {
  home = legal;
  log = own;
  begun = begun_by log t.entries (λ e. sym m.entries ∙ ap (λ (xs : List Got). entries_after (map (λ r. r.what) (map read_of xs)) []) (none e));
  rid = below_limit log own;
  rising = m.rising;
  xids = m.xids;
  below = m.below;
  apart = m.apart;
  held = m.ids;
}

-- ---- what the journal says: fillers change nothing

is_filler_kind : (k : Kind) → is_filler k ≡ true → k ≡ Filler
is_filler_kind Enqueue h = absurd (cc)
is_filler_kind Dequeue h = absurd (cc)
is_filler_kind Commit h = absurd (cc)
is_filler_kind Abort h = absurd (cc)
is_filler_kind Filler h = refl

abbrev kept_of : List Read → List Read
kept_of rs = filter (λ r. not (is_filler r.what.kind)) rs

filled_entries : (rs : List Read) (es : List ListEntry) → entries_after (map (λ r. r.what) rs) es ≡ entries_after (map (λ r. r.what) (kept_of rs)) es
filled_entries [] es = refl
filled_entries (r ∷ rs) es = by (is_filler r.what.kind) refl (filled_entries rs)
  where
    by : (b : Bool) → is_filler r.what.kind ≡ b → ((fs : List ListEntry) → entries_after (map (λ r. r.what) rs) fs ≡ entries_after (map (λ r. r.what) (kept_of rs)) fs) → entries_after (map (λ r. r.what) rs) (after_list_record r.what.kind r.what es) ≡ entries_after (map (λ r. r.what) (cond (not b) (r ∷ kept_of rs) (kept_of rs))) es
    by true e rest = ap (λ k. entries_after (map (λ r. r.what) rs) (after_list_record k r.what es)) (is_filler_kind r.what.kind e) ∙ rest es
    by false e rest = rest (after_list_record r.what.kind r.what es)

filler_out : (es : List ListEntry) (r : Read) → is_filler r.what.kind ≡ true → is_entry_of es r ≡ false
filler_out es r e = ap (λ k. is_enqueue k && has_rid r.what.rid es) (is_filler_kind r.what.kind e)

first_held : (es : List ListEntry) (r : Read) (xs ys : List Read) (b : Bool) → held_in es xs ≡ held_in es ys → map held_of (cond b (r ∷ filter (is_entry_of es) xs) (filter (is_entry_of es) xs)) ≡ map held_of (cond b (r ∷ filter (is_entry_of es) ys) (filter (is_entry_of es) ys))
first_held es r xs ys true h = ap (λ (hs : List Held). held_of r ∷ hs) h
first_held es r xs ys false h = h

filled_held : (es : List ListEntry) (rs : List Read) → held_in es rs ≡ held_in es (kept_of rs)
filled_held es [] = refl
filled_held es (r ∷ rs) = by (is_filler r.what.kind) refl (filled_held es rs)
  where
    by : (b : Bool) → is_filler r.what.kind ≡ b → held_in es rs ≡ held_in es (kept_of rs) → held_in es (r ∷ rs) ≡ held_in es (cond (not b) (r ∷ kept_of rs) (kept_of rs))
    by true e rest = ap (λ c. map held_of (cond c (r ∷ filter (is_entry_of es) rs) (filter (is_entry_of es) rs))) (filler_out es r e) ∙ rest
    by false e rest = first_held es r rs (kept_of rs) (is_entry_of es r) rest

says_so : (rid : ℕ) (l : LogState) (gs : List Got) (t : TableState) → IsMadeOf rid (map read_of gs) t.entries t.held → (d : Disk) (kept : List Read) → IsRead l kept d → IsUndamaged l d → kept_of kept ≡ map read_of gs → IsReadSo l t.entries t.held d
says_so rid l gs t m d kept read undamaged same = record {
  reads = kept;
  read = read;
  undamaged = undamaged;
  entries = filled_entries kept [] ∙ ap (λ (rs : List Read). entries_after (map (λ r. r.what) rs) []) same ∙ m.entries;
  held = filled_held t.entries kept ∙ ap (held_in t.entries) same ∙ m.held;
}

pub opened_whole : (rid : ℕ) (log : Option LogState) (gs : List Got) (t : TableState) → IsMadeOf rid (map read_of gs) t.entries t.held
    → IfSome log (λ l. (d : Disk) (kept : List Read) → IsRead l kept d → IsUndamaged l d → filter (λ r. not (is_filler r.what.kind)) kept ≡ map read_of gs → WholeBy log t.entries t.held d)
opened_whole rid None gs t m = tt
opened_whole rid (Some l) gs t m = says_so rid l gs t m

pub opened_is : (home : PoolId) (log : Option LogState) (gs : List Got) (t : TableState) (rid : ℕ) → IsMadeOf rid (map read_of gs) t.entries t.held
    → list_with home log t.entries t.held ≡ opened home log (map read_of gs)
opened_is home log gs t rid m =
    ap (λ (hs : List Held). list_with home log t.entries hs) (sym m.held)
    ∙ ap (λ (es : List ListEntry). list_with home log es (held_in es (map read_of gs))) (sym m.entries)
