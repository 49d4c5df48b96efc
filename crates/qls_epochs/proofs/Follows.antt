-- Rids rise from record to record of a whole journal, over all its epochs.
use Rattle.std.proofs.Common.{◌≡◌, ℕ, ◌/◌, ◌<◌, ◌≤◌, true, false, cond, List, [], ◌∷◌, ◌++◌, map, length, Ok, refl, sym, ap, ◌∙◌, subst, arith}
use Rattle.std.proofs.lemmas.List.{map-append}
use Rattle.std.specs.List.{AllByRecursion}
use Rattle.qls_shape.specs.Claims.{each}
use Rattle.qls_record.specs.Record.{Record, is_enqueue}
use Rattle.qls_filehdr.specs.declared.JournalKind.TheVariants.{Queue}
use Rattle.qls_meaning.specs.Journals.{Headed, Journal, epochs}
use Rattle.qls_meaning.specs.Reading.{Placed, Read, stream, end_from, first_place, epoch_reading, located, reads_of}
use Rattle.qls_meaning.specs.Damage.{spread, rid_at_end, file_claims, end_claim, epochs_claims}
use Rattle.qls_meaning.specs.Meaning.{records_of}
use Rattle.qls_laws.specs.Returns.{HasPlaces}
use Rattle.qls_laws.proofs.Seen.{All-epochs}
use Rattle.qls_laws.proofs.Reaches.{records_stand}
use Rattle.qls_laws.proofs.Claimed.{HaveEpoch, AllKeep, next_ok, one_run, keeps_rules}
use Rattle.qls_laws.proofs.Rising.{Follow, rids_follow, given_is, follow_apart, enqueues_above, enqueues_below}
use Rattle.qls_laws.proofs.DeadQueue.{EnqueuesHave}
use Rattle.qls_epochs.specs.Whole.{IsWhole}
use Rattle.qls_epochs.proofs.Later.{begins_at_once, reads_the_same, as_oldest}
use Rattle.qls_epochs.proofs.Turns.{Runs, runs, IsRun, all_runs}
use Rattle.qls_epochs.proofs.Ended.{AllEnd, all_end}
use Rattle.qls_epochs.proofs.DeadRecords.{last_behind}

-- ---- one epoch

follows_by : (e : List Headed) (rid : ℕ) → AllKeep (first_place e) (end_from (first_place e) (epoch_reading true e)) rid (epoch_reading true e) 0 e → Follow rid (epoch_reading true e)
follows_by e rid k =
    rids_follow (first_place e) (end_from (first_place e) (epoch_reading true e)) rid (first_place e) e (epoch_reading true e) k (records_stand e (length (stream e) / 128) (first_place e))

first_follows : (f : Headed) (fs : List Headed) → HaveEpoch f.header.epoch (f ∷ fs) → epochs_claims true f.header.rid ((f ∷ fs) ∷ []) ≡ Ok tt → Follow f.header.rid (epoch_reading true (f ∷ fs))
first_follows f fs one h =
    follows_by (f ∷ fs) f.header.rid (keeps_rules f.header.epoch Queue [] (f ∷ fs) one (ap (epochs_claims true f.header.rid) (one_run f.header.epoch f fs one) ∙ h))

later_follows : (rid : ℕ) (e : List Headed) → AllByRecursion HasPlaces e → epochs_claims false rid (e ∷ []) ≡ Ok tt → Follow rid (epoch_reading false e)
later_follows rid [] p h = tt
later_follows rid (g ∷ gs) p h =
    let e : List Headed = g ∷ gs in
    let a = as_oldest rid g gs p.0.some true (next_ok (each (file_claims false true rid e (epoch_reading false e)) (spread 0 e)) (end_claim false true rid e (epoch_reading false e) e) h).0 in
    let same = reads_the_same e (begins_at_once g gs a.first) in
    subst (λ (X : Type 0). X) (λ i. Follow (a.rid_is i) (same i)) (follows_by e g.header.rid a.keep)

-- ---- all epochs, by the records alone

abbrev placed : Record → Placed
placed r = record { what = r; at = 0; after = 0 }

-- each rid follows from the one before
abbrev pub Follows : ℕ → List Record → Type 0
Follows rid rs = Follow rid (map placed rs)

abbrev whats : List Read → List Record
whats rs = map (λ r. r.what) rs

located_follow : (e : List Headed) (rid : ℕ) (rs : List Placed) → Follow rid rs → Follows rid (whats (map (located e) rs))
located_follow e rid [] h = tt
located_follow e rid (r ∷ rs) h = (h.0, located_follow e r.what.rid rs h.1)

follow_both : (rid : ℕ) (xs ys : List Record) → Follows rid xs → Follows (last_behind rid xs) ys → Follows rid (xs ++ ys)
follow_both rid [] ys h k = k
follow_both rid (x ∷ xs) ys h k = (h.0, follow_both x.rid xs ys h.1 (subst (λ n. Follows (last_behind n xs) ys) (given_is x.kind rid x.rid h.0) k))

pub last_located : (e : List Headed) (rid : ℕ) (rs : List Placed) → last_behind rid (map (λ r. r.what) (map (located e) rs)) ≡ rid_at_end rid rs
last_located e rid [] = refl
last_located e rid (r ∷ rs) = last_located e (cond (is_enqueue r.what.kind) r.what.rid rid) rs

later_all : (rid : ℕ) (es : List (List Headed)) → AllByRecursion (AllByRecursion HasPlaces) es → AllEnd false rid es → Follows rid (whats (reads_of false es))
later_all rid [] p a = tt
later_all rid (e ∷ es) p a =
    let reads = epoch_reading false e in
    subst (Follows rid) (sym (map-append (λ r. r.what) (map (located e) reads) (reads_of false es)))
    (follow_both rid (whats (map (located e) reads)) (whats (reads_of false es)) (located_follow e rid reads (later_follows rid e p.0 a.0))
    (subst (λ n. Follows n (whats (reads_of false es))) (sym (last_located e rid reads)) (later_all (rid_at_end rid reads) es p.1 a.2)))

first_all : (f : Headed) (fs : List Headed) (es : List (List Headed)) → HaveEpoch f.header.epoch (f ∷ fs) → AllByRecursion (AllByRecursion HasPlaces) es → AllEnd true f.header.rid ((f ∷ fs) ∷ es)
    → Follows f.header.rid (whats (reads_of true ((f ∷ fs) ∷ es)))
first_all f fs es one p a =
    let e : List Headed = f ∷ fs in
    let reads = epoch_reading true e in
    subst (Follows f.header.rid) (sym (map-append (λ r. r.what) (map (located e) reads) (reads_of false es)))
    (follow_both f.header.rid (whats (map (located e) reads)) (whats (reads_of false es)) (located_follow e f.header.rid reads (first_follows f fs one a.0))
    (subst (λ n. Follows n (whats (reads_of false es))) (sym (last_located e f.header.rid reads)) (later_all (rid_at_end f.header.rid reads) es p a.2)))

pub whole_follows : (j : Journal) (f : Headed) (fs : List Headed) → IsWhole (record j { files = f ∷ fs }) → Follows f.header.rid (records_of (record j { files = f ∷ fs }))
whole_follows j f fs w =
    let r : Runs f (epochs (f ∷ fs)) = runs f fs in
    let ends : AllEnd true f.header.rid ((f ∷ r.more) ∷ r.rest) = subst (AllEnd true f.header.rid) r.is (all_end true f.header.rid (epochs (f ∷ fs)) w.rules.reading w.past) in
    let one = subst (AllByRecursion IsRun) r.is (all_runs (f ∷ fs)) in
    let places = subst (AllByRecursion (AllByRecursion HasPlaces)) r.is (All-epochs HasPlaces (f ∷ fs) w.places) in
    subst (λ es. Follows f.header.rid (whats (reads_of true es))) (sym r.is) (first_all f r.more r.rest one.0 places.1 ends)

-- ---- so enqueues have greater rids, up to the last

of_placed : (P : ℕ → Type 0) (rs : List Record) → AllByRecursion (λ r. is_enqueue r.what.kind ≡ true → P r.what.rid) (map placed rs) → EnqueuesHave P rs
of_placed P [] h = tt
of_placed P (r ∷ rs) h = (h.0, of_placed P rs h.1)

end_is_last : (rid : ℕ) (rs : List Record) → rid_at_end rid (map placed rs) ≡ last_behind rid rs
end_is_last rid [] = refl
end_is_last rid (r ∷ rs) = end_is_last (cond (is_enqueue r.kind) r.rid rid) rs

pub up_to_last : (rid : ℕ) (xs ys : List Record) → Follows rid (xs ++ ys) → EnqueuesHave (λ n. n ≤ last_behind rid xs) xs × EnqueuesHave (λ n. last_behind rid xs < n) ys
up_to_last rid xs ys h =
    let both = follow_apart rid (map placed xs) (map placed ys) (subst (Follow rid) (map-append placed xs ys) h) in
    let last = end_is_last rid xs in (
      of_placed (λ n. n ≤ last_behind rid xs) xs (subst (λ k. AllByRecursion (λ r. is_enqueue r.what.kind ≡ true → r.what.rid ≤ k) (map placed xs)) last (enqueues_below rid (map placed xs) both.0)),
      of_placed (λ n. last_behind rid xs < n) ys (subst (λ k. AllByRecursion (λ r. is_enqueue r.what.kind ≡ true → k < r.what.rid) (map placed ys)) last
          (enqueues_above (rid_at_end rid (map placed xs)) (rid_at_end rid (map placed xs)) (map placed ys) (omega arith) both.1)),
    )
