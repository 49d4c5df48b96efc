-- A journal with the files of a later epoch behind it.
use Rattle.std.proofs.Common.{◌≡◌, ℕ, ◌<◌, true, false, List, [], ◌∷◌, ◌++◌, map, Ok, refl, sym, ap, ap₂, ◌∙◌, subst, append-nil}
use Rattle.std.proofs.lemmas.List.{map-append}
use Rattle.std.specs.List.{AllByRecursion}
use Rattle.qls_shape.specs.Claims.{each}
use Rattle.qls_record.specs.Record.{Record}
use Rattle.qls_filehdr.specs.declared.JournalKind.{JournalKind}
use Rattle.qls_meaning.specs.Journals.{Headed, Journal, is_queue, epochs}
use Rattle.qls_meaning.specs.Reading.{Read, Placed, located, epoch_reading, end_from, first_place, reads_of, journal_reading}
use Rattle.qls_meaning.specs.Damage.{next_claims, chain_claims, spread, file_claims, end_claim, epochs_claims, oldest_rid}
use Rattle.qls_meaning.specs.Dead.{after_end, past_in, past_files}
use Rattle.qls_meaning.specs.Meaning.{records_of, queue_of, entries_of}
use Rattle.qls_meaning.specs.Replay.{queue_after, entries_after}
use Rattle.qls_laws.specs.Undamaged.{BreaksNoRule}
use Rattle.qls_laws.specs.Returns.{HasPlaces}
use Rattle.qls_laws.proofs.Claimed.{ok_next, next_ok, one_run, keeps_rules}
use Rattle.qls_laws.proofs.DeadQueue.{run}
use Rattle.qls_epochs.specs.Whole.{IsWhole}
use Rattle.qls_epochs.specs.Joins.{joined, alone, ComesNext, IsNextEpoch}
use Rattle.qls_epochs.proofs.Alls.{all_both}
use Rattle.qls_epochs.proofs.Replayed.{queue_both, entries_both, entries_of-list}
use Rattle.qls_epochs.proofs.Later.{begins_at_once, reads_the_same, as_later}
use Rattle.qls_epochs.proofs.Turns.{Runs, runs, Differs, epochs_apart}
use Rattle.qls_epochs.proofs.Ended.{AllEnd, all_end, any_end, rid_over, claims_on, past_on, reads_on, rid_over_reads}

chain_on : (f : Headed) (fs : List Headed) (g : Headed) (gs : List Headed) → chain_claims (f ∷ fs) ≡ Ok tt → ComesNext (f ∷ fs) g → chain_claims (g ∷ gs) ≡ Ok tt → chain_claims ((f ∷ fs) ++ g ∷ gs) ≡ Ok tt
chain_on f [] g gs h c k = ok_next (next_claims f g) (chain_claims (g ∷ gs)) c k
chain_on f (h ∷ fs) g gs a c k =
    let parts = next_ok (next_claims f h) (chain_claims (h ∷ fs)) a in
    ok_next (next_claims f h) (chain_claims ((h ∷ fs) ++ g ∷ gs)) parts.0 (chain_on h fs g gs parts.1 c k)

differs : (epoch : ℕ) (f : Headed) (fs : List Headed) (g : Headed) (gs : List Headed) → AllByRecursion (λ x. x.header.epoch < epoch) (f ∷ fs) → g.header.epoch ≡ epoch → Differs (f ∷ fs) (g ∷ gs)
differs epoch f [] g gs a e = subst (λ n. f.header.epoch < n) (sym e) a.0
differs epoch f (h ∷ fs) g gs a e = differs epoch h fs g gs a.1 e

-- ---- both have files

module _ (kind : JournalKind) (name : List ℕ) (f : Headed) (fs : List Headed) (g : Headed) (gs : List Headed) (w : IsWhole (run kind name (f ∷ fs))) (n : IsNextEpoch (run kind name (f ∷ fs)) (g ∷ gs)) where
  abbrev old : List Headed
  old = f ∷ fs

  abbrev own : List Headed
  own = g ∷ gs

  one : epochs own ≡ own ∷ []
  one = one_run n.epoch g gs n.one

  r : Runs f (epochs old)
  r = runs f fs

  apart : epochs (old ++ own) ≡ ((f ∷ r.more) ∷ r.rest) ++ own ∷ []
  apart = epochs_apart f fs g gs (differs n.epoch f fs g gs n.above n.one.0) ∙ ap₂ (λ (x y : List (List Headed)). x ++ y) r.is one

  begin : first_place own ≡ 0
  begin = begins_at_once g gs n.begins.first

  all : AllEnd true f.header.rid ((f ∷ r.more) ∷ r.rest)
  all = subst (AllEnd true f.header.rid) r.is (all_end true f.header.rid (epochs old) w.rules.reading w.past)

  rid : g.header.rid ≡ rid_over true f.header.rid ((f ∷ r.more) ∷ r.rest)
  rid = n.begins.rid ∙ rid_over_reads true f.header.rid (epochs old) ∙ ap (rid_over true f.header.rid) r.is

  own_claims : epochs_claims false (rid_over true f.header.rid ((f ∷ r.more) ∷ r.rest)) (own ∷ []) ≡ Ok tt
  own_claims =
      let R : ℕ = rid_over true f.header.rid ((f ∷ r.more) ∷ r.rest) in
      ok_next (each (file_claims false true R own (epoch_reading false own)) (spread 0 own)) (end_claim false true R own (epoch_reading false own) own)
      (as_later R g gs n.places.0.some true (record { first = n.begins.first; rid_is = rid; keep = keeps_rules n.epoch kind name own n.one n.rules.reading }))
      (any_end false R own own)

  pub rules_of_both : BreaksNoRule (run kind name (old ++ own))
  rules_of_both = record {
    chain = chain_on f fs g gs w.rules.chain n.begins.next n.rules.chain;
    reading = ap (epochs_claims true f.header.rid) apart ∙ claims_on true f.header.rid (f ∷ r.more) r.rest own all own_claims;
  }

  pub reading_of_both : journal_reading (run kind name (old ++ own)) ≡ journal_reading (run kind name old) ++ journal_reading (run kind name own)
  reading_of_both =
      ap (reads_of true) apart ∙ reads_on true (f ∷ r.more) r.rest own
      ∙ ap₂ (λ (x y : List Read). x ++ y) (ap (reads_of true) (sym r.is)) (ap (λ (rs : List Placed). map (located own) rs ++ []) (sym (reads_the_same own begin)) ∙ ap (reads_of true) (sym one))

  pub past_of_both : past_files (run kind name (old ++ own)) ≡ past_files (run kind name own)
  past_of_both =
      ap (past_in true) apart ∙ past_on true (f ∷ r.more) r.rest own
      ∙ (λ i. after_end (end_from (sym begin i) (sym (reads_the_same own begin) i)) own) ∙ ap (past_in true) (sym one)

-- ---- the laws

pub joined_rules : (j : Journal) (own : List Headed) → IsWhole j → IsNextEpoch j own → BreaksNoRule (joined j own)
joined_rules j own w n = by j.files own w n
  where
    by : (fs gs : List Headed) → IsWhole (run j.kind j.name fs) → IsNextEpoch (run j.kind j.name fs) gs → BreaksNoRule (run j.kind j.name (fs ++ gs))
    by [] gs w n = n.rules
    by (f ∷ fs) [] w n = subst (λ (xs : List Headed). BreaksNoRule (run j.kind j.name xs)) (sym (append-nil (f ∷ fs))) w.rules
    by (f ∷ fs) (g ∷ gs) w n = rules_of_both j.kind j.name f fs g gs w n

pub joined_reading : (j : Journal) (own : List Headed) → IsWhole j → IsNextEpoch j own → journal_reading (joined j own) ≡ journal_reading j ++ journal_reading (alone j own)
joined_reading j own w n = by j.files own w n
  where
    by : (fs gs : List Headed) → IsWhole (run j.kind j.name fs) → IsNextEpoch (run j.kind j.name fs) gs
        → journal_reading (run j.kind j.name (fs ++ gs)) ≡ journal_reading (run j.kind j.name fs) ++ journal_reading (run j.kind j.name gs)
    by [] gs w n = refl
    by (f ∷ fs) [] w n = ap (λ (xs : List Headed). journal_reading (run j.kind j.name xs)) (append-nil (f ∷ fs)) ∙ sym (append-nil (journal_reading (run j.kind j.name (f ∷ fs))))
    by (f ∷ fs) (g ∷ gs) w n = reading_of_both j.kind j.name f fs g gs w n

pub joined_past : (j : Journal) (own : List Headed) → IsWhole j → IsNextEpoch j own → past_files (joined j own) ≡ past_files (alone j own)
joined_past j own w n = by j.files own w n
  where
    by : (fs gs : List Headed) → IsWhole (run j.kind j.name fs) → IsNextEpoch (run j.kind j.name fs) gs → past_files (run j.kind j.name (fs ++ gs)) ≡ past_files (run j.kind j.name gs)
    by [] gs w n = refl
    by (f ∷ fs) [] w n = ap (λ (xs : List Headed). past_files (run j.kind j.name xs)) (append-nil (f ∷ fs)) ∙ w.past
    by (f ∷ fs) (g ∷ gs) w n = past_of_both j.kind j.name f fs g gs w n

pub joined_whole : (j : Journal) (own : List Headed) → IsWhole j → IsNextEpoch j own → past_files (alone j own) ≡ [] → IsWhole (joined j own)
joined_whole j own w n p = record { places = all_both HasPlaces j.files own w.places n.places; rules = joined_rules j own w n; past = joined_past j own w n ∙ p }

-- ---- what it means

records_both : (j : Journal) (own : List Headed) → IsWhole j → IsNextEpoch j own → records_of (joined j own) ≡ records_of j ++ records_of (alone j own)
records_both j own w n = ap (map (λ r. r.what)) (joined_reading j own w n) ∙ map-append (λ r. r.what) (journal_reading j) (journal_reading (alone j own))

-- the rid in the oldest file's header
rid_stays : (kind : JournalKind) (name : List ℕ) (fs gs : List Headed) → IsNextEpoch (run kind name fs) gs → oldest_rid (fs ++ gs) ≡ oldest_rid fs
rid_stays kind name [] [] n = refl
rid_stays kind name [] (g ∷ gs) n = n.begins.rid
rid_stays kind name (f ∷ fs) gs n = refl

pub joined_queue : (j : Journal) (own : List Headed) → IsWhole j → IsNextEpoch j own → queue_of (joined j own) ≡ queue_after (records_of (alone j own)) (queue_of j)
joined_queue j own w n =
    (λ i. queue_after (records_both j own w n i) (record { name = j.name; last = rid_stays j.kind j.name j.files own n i; messages = [] }))
    ∙ queue_both (records_of j) (records_of (alone j own)) (record { name = j.name; last = oldest_rid j.files; messages = [] })

pub joined_entries : (j : Journal) (own : List Headed) → IsWhole j → IsNextEpoch j own → is_queue j.kind ≡ false → entries_of (joined j own ∷ []) ≡ entries_after (records_of (alone j own)) (entries_of (j ∷ []))
joined_entries j own w n q =
    entries_of-list (joined j own) q ∙ ap (λ (rs : List Record). entries_after rs []) (records_both j own w n) ∙ entries_both (records_of j) (records_of (alone j own)) []
    ∙ ap (entries_after (records_of (alone j own))) (sym (entries_of-list j q))
