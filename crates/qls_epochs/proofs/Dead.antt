-- A whole journal means the same without its dead oldest file.
use Rattle.std.proofs.Common.{◌≡◌, ℕ, ◌<◌, ◌≤◌, Bool, true, false, cond, not, ◌&&◌, ◌||◌, List, [], ◌∷◌, ◌++◌, map, drop, refl, sym, ap, ◌∙◌, subst, arith, eqb, ltb, leb}
use Rattle.std.proofs.lemmas.Bool.{and_parts}
use Rattle.std.proofs.lemmas.Bool.Decides.{nat_tests}
use Rattle.std.proofs.lemmas.List.{map-append}
use Rattle.std.specs.List.{AllByRecursion, list_any}
use Rattle.qls_model.specs.declared.machine.QueueState.{QueueState}
use Rattle.qls_record.specs.Record.{Record, is_enqueue}
use Rattle.qls_filehdr.specs.declared.JournalKind.{JournalKind}
use Rattle.qls_meaning.specs.Journals.{Headed, Journal, is_queue}
use Rattle.qls_meaning.specs.Reading.{Read, journal_reading}
use Rattle.qls_meaning.specs.Dead.{newest_number, held_rids, holds, is_dead, has_dead_oldest, first_is_dead}
use Rattle.qls_meaning.specs.Meaning.{records_of, queue_of, entries_of}
use Rattle.qls_meaning.specs.Replay.{queue_after, entries_after}
use Rattle.qls_meaning.specs.Spent.{rid_of_reads}
use Rattle.qls_laws.specs.Returns.{without_oldest}
use Rattle.qls_laws.proofs.DeadQueue.{EnqueuesHave, NotHeld, run, only_one}
use Rattle.qls_epochs.specs.Whole.{IsWhole}
use Rattle.qls_epochs.proofs.Oldest.{Parted, part}
use Rattle.qls_epochs.proofs.Follows.{Follows, whole_follows, up_to_last}
use Rattle.qls_epochs.proofs.DeadRecords.{last_behind, queue_without}
use Rattle.qls_epochs.proofs.Replayed.{entries_of-list}
use Rattle.qls_epochs.proofs.DeadEntries.{weaker, entries_without}

-- ---- what the dead file holds

or_parts : (a b : Bool) → (a || b) ≡ false → (a ≡ false) × (b ≡ false)
or_parts true b e = absurd (cc)
or_parts false b e = (refl, e)

not_true : (b : Bool) → not b ≡ true → b ≡ false
not_true true e = absurd (cc)
not_true false e = refl

at_most : (m n : ℕ) → m ≤ n → leb m n ≡ true
at_most m n h = grind (arith, nat_tests)

-- a record that starts in the file and isn't held
not_holding : (rids : List ℕ) (n : ℕ) (r : Read) → holds rids n r ≡ false → r.file ≡ n → n ≤ r.end_file → is_enqueue r.what.kind ≡ true → NotHeld rids r.what.rid
not_holding rids n r h file end e = by (list_any (λ rid. eqb rid r.what.rid) rids) (sym (λ i. ((e i && list_any (λ rid. eqb rid r.what.rid) rids) && at_most r.file n low i) && at_most n r.end_file end i) ∙ h)
  where
    low : r.file ≤ n
    low = omega (arith, file)

    by : (b : Bool) → (((true && b) && true) && true) ≡ false → b ≡ false
    by true k = absurd (cc)
    by false k = refl

front_not_held : (rids : List ℕ) (n : ℕ) (rs more : List Read) → AllByRecursion (λ r. (r.file ≡ n) × (n ≤ r.end_file)) rs → list_any (holds rids n) (rs ++ more) ≡ false
    → EnqueuesHave (NotHeld rids) (map (λ r. r.what) rs)
front_not_held rids n [] more a h = tt
front_not_held rids n (r ∷ rs) more a h =
    let parts = or_parts (holds rids n r) (list_any (holds rids n) (rs ++ more)) h in
    (not_holding rids n r parts.0 a.0.0 a.0.1, front_not_held rids n rs more a.1 parts.1)

last_is : (rid : ℕ) (rs : List Read) → last_behind rid (map (λ r. r.what) rs) ≡ rid_of_reads rid rs
last_is rid [] = refl
last_is rid (r ∷ rs) = last_is (cond (is_enqueue r.what.kind) r.what.rid rid) rs

less : (m n : ℕ) → m < n → ltb m n ≡ true
less m n h = grind (arith, nat_tests)

not_less : (m n : ℕ) → n ≤ m → ltb m n ≡ false
not_less m n h = grind (arith, nat_tests)

module _ (kind : JournalKind) (name : List ℕ) (f g : Headed) (fs : List Headed) (w : IsWhole (run kind name (f ∷ g ∷ fs))) (dead : is_dead (run kind name (f ∷ g ∷ fs)) f ≡ true) where
  abbrev J : Journal
  J = run kind name (f ∷ g ∷ fs)

  abbrev K : Journal
  K = run kind name (g ∷ fs)

  abbrev p : Parted kind name f g fs
  p = part kind name f g fs w

  -- the records that start in the dead file
  abbrev gone : List Record
  gone = map (λ r. r.what) p.front

  none_held : EnqueuesHave (NotHeld (held_rids J)) gone
  none_held =
      let none : list_any (holds (held_rids J) f.header.number) (journal_reading J) ≡ false = not_true _ (and_parts (not (eqb f.header.number (newest_number (f ∷ g ∷ fs)))) (not (list_any (holds (held_rids J) f.header.number) (journal_reading J))) dead).1 in
      front_not_held (held_rids J) f.header.number p.front (journal_reading K) p.start (sym (ap (list_any (holds (held_rids J) f.header.number)) p.is) ∙ none)

  records_all : records_of J ≡ gone ++ records_of K
  records_all = ap (map (λ r. r.what)) p.is ∙ map-append (λ r. r.what) p.front (journal_reading K)

  top_is : g.header.rid ≡ last_behind f.header.rid gone
  top_is = p.rid_is ∙ sym (last_is f.header.rid p.front)

  abbrev queue_with : ℕ → QueueState
  queue_with last = record { name = name; last = last; messages = [] }

  pub queue_stays : is_queue kind ≡ true → queue_of K ≡ queue_of J
  queue_stays q =
      let whole : queue_of J ≡ queue_after (gone ++ records_of K) (queue_with f.header.rid) = ap (λ (rs : List Record). queue_after rs (queue_with f.header.rid)) records_all in
      let held : held_rids J ≡ map (λ m. m.number) (queue_after (gone ++ records_of K) (queue_with f.header.rid)).messages =
      ap (λ b. cond b (map (λ m. m.number) (queue_of J).messages) (map (λ e. e.rid) (entries_of (J ∷ [])))) q ∙ ap (λ (s : QueueState). map (λ m. m.number) s.messages) whole in
      ap (λ n. queue_after (records_of K) (queue_with n)) top_is ∙ queue_without gone (records_of K) name f.header.rid (held_rids J) none_held held ∙ sym whole

  pub entries_stay : is_queue kind ≡ false → entries_of (K ∷ []) ≡ entries_of (J ∷ [])
  entries_stay q =
      let top : ℕ = last_behind f.header.rid gone in
      let rids = up_to_last f.header.rid gone (records_of K) (subst (Follows f.header.rid) records_all (whole_follows J f (g ∷ fs) w)) in
      let whole : entries_of (J ∷ []) ≡ entries_after (gone ++ records_of K) [] = entries_of-list J q ∙ ap (λ (rs : List Record). entries_after rs []) records_all in
      let held : held_rids J ≡ map (λ e. e.rid) (entries_after (gone ++ records_of K) []) =
      ap (λ b. cond b (map (λ m. m.number) (queue_of J).messages) (map (λ e. e.rid) (entries_of (J ∷ [])))) q ∙ ap (map (λ e. e.rid)) whole in
      entries_of-list K q
      ∙ entries_without gone (records_of K) top (held_rids J) (weaker (λ n. n ≤ top) (λ n. ltb top n ≡ false) (λ n h. not_less top n h) gone rids.0)
      (weaker (λ n. top < n) (λ n. ltb top n ≡ true) (λ n h. less top n h) (records_of K) rids.1) none_held held
      ∙ sym whole

-- ---- the laws

pub dead_queue : (j : Journal) → IsWhole j → has_dead_oldest j ≡ true → is_queue j.kind ≡ true → queue_of (without_oldest j) ≡ queue_of j
dead_queue j = by j.files
  where
    by : (fs : List Headed) → IsWhole (run j.kind j.name fs) → first_is_dead (run j.kind j.name fs) fs ≡ true → is_queue j.kind ≡ true
        → queue_of (run j.kind j.name (drop 1 fs)) ≡ queue_of (run j.kind j.name fs)
    by [] w h q = absurd (cc)
    by (f ∷ []) w h q = absurd (only_one j.kind j.name f h)
    by (f ∷ g ∷ fs) w h q = queue_stays j.kind j.name f g fs w h q

pub dead_list : (j : Journal) → IsWhole j → has_dead_oldest j ≡ true → is_queue j.kind ≡ false → entries_of (without_oldest j ∷ []) ≡ entries_of (j ∷ [])
dead_list j = by j.files
  where
    by : (fs : List Headed) → IsWhole (run j.kind j.name fs) → first_is_dead (run j.kind j.name fs) fs ≡ true → is_queue j.kind ≡ false
        → entries_of (run j.kind j.name (drop 1 fs) ∷ []) ≡ entries_of (run j.kind j.name fs ∷ [])
    by [] w h q = absurd (cc)
    by (f ∷ []) w h q = absurd (only_one j.kind j.name f h)
    by (f ∷ g ∷ fs) w h q = entries_stay j.kind j.name f g fs w h q
