-- A queue is made and a message put on an empty site: the moments are orderly, and the premises on what a disk holds are met.
use Rattle.std.proofs.Common.{◌≡◌, ℕ, ◌+◌, ◌-◌, ◌*◌, ◌/◌, ◌≤◌, ◌<◌, true, false, not, ◌&&◌, ◌||◌, cond, List, [], ◌∷◌, ◌++◌, length, take, drop, replicate, Some, None, refl, sym, ap, ap₂, ◌∙◌, subst, arith, ltb, leb, le_refl, inl, inr}
use Rattle.std.specs.Prelude.{codes}
use Rattle.std.proofs.lemmas.Bool.Decides.{nat_tests}
use Rattle.std.proofs.lemmas.List.{drop-replicate, take-replicate}
use Rattle.std.specs.Int.{w64, from_le_bytes}
use Rattle.std.proofs.lemmas.Bool.{cases_lt}
use Rattle.qls_shape.specs.Fields.{number_at}
use Rattle.qls_site.specs.declared.site.Place.TheVariants.{InUse}
use Rattle.qls_site.specs.Disk.{Write, full, create_at, write_at, sync_at, relocate_at}
use Rattle.qls_site.specs.Content.{Moment, on_disk, on_answered}
use Rattle.qls_filehdr.specs.declared.FileHeader.{FileHeader}
use Rattle.qls_filehdr.specs.Header.{header_spelling}
use Rattle.qls_meaning.specs.Journals.{Headed, headed}
use Rattle.qls_meaning.specs.Reading.{holder, record_in}
use Rattle.qls_meaning.specs.History.{History, is_covered, unwritten_since, is_unwritten, AllUnmarked}
use Rattle.qls_meaning.specs.Chance.{WrittenAt, SpellsWritten, EachPlaceOf, NoChanceMatch, places}
use Rattle.qls_meaning.specs.Crash.{IsFairImage}
use Rattle.qls_meaning.specs.Orderly.{IsOrderly, IsOrderlyStep, MeetsOnly}
use Rattle.qls_laws.proofs.Own.{All-of, spells_its_own}
use Rattle.qls_vectors.proofs.Stores.{head_a, used, store1, bytes1}

-- ---- the moments

abbrev start : Moment
start = record { disk = []; answered = [] }

abbrev first_header : FileHeader
first_header = head_a 7 0 4096 1 1

abbrev created : Moment
created = on_disk (create_at 1 1 4) start

abbrev headed_file : Moment
headed_file = on_disk (write_at 1 0 (header_spelling first_header)) created

abbrev stable_header : Moment
stable_header = on_disk (sync_at 1) headed_file

abbrev linked : Moment
linked = on_disk (relocate_at 1 InUse) stable_header

abbrev queue_answered : Moment
queue_answered = on_answered (codes "ok" ++ 10 ∷ []) linked

abbrev bytes_linked : List ℕ
bytes_linked = header_spelling first_header ++ replicate 4096 0

abbrev block : List ℕ
block = drop 4096 bytes1

abbrev written : Moment
written = on_disk (write_at 1 4096 block) queue_answered

abbrev synced : Moment
synced = on_disk (sync_at 1) written

abbrev put_answered : Moment
put_answered = on_answered (codes "ok 1" ++ 10 ∷ []) synced

abbrev all : List Moment
all = created ∷ headed_file ∷ stable_header ∷ linked ∷ queue_answered ∷ written ∷ synced ∷ put_answered ∷ []

last_is_the_store : full put_answered.disk ≡ store1
last_is_the_store = refl

abbrev up_to : List Moment → History
up_to ms = record { start = start; since = ms }

-- the whole run
abbrev run : History
run = up_to all

-- ---- the steps, one after another

-- the first of some writes, or another one
abbrev first_of : Write → List Write → Write
first_of other [] = other
first_of other (w ∷ ws) = w

same_write : (v w : Write) → (v ∷ []) ≡ (w ∷ []) → v ≡ w
same_write v w e = ap (first_of v) e

not_less : {X : Type 0} → (n : ℕ) → n < n → X
not_less n lt = absurd (omega (arith, lt))

false_is_true : {X : Type 0} → false ≡ true → X
false_is_true e = absurd (cc)

true_is_false : {X : Type 0} → true ≡ false → X
true_is_false e = absurd (cc)

none_is_one : {X : Type 0} → (ws : List Write) (w : Write) → [] ≡ ws ++ w ∷ [] → X
none_is_one [] w e = absurd (cc)
none_is_one (v ∷ ws) w e = absurd (cc)

nothing_spelled : (h : History) (fs : List Headed) (p : ℕ) → record_in fs p ≡ None → SpellsWritten [] h fs p
nothing_spelled h fs p none r is q le lt = absurd (cc)

step1 : IsOrderlyStep [] (up_to []) created
step1 = record { files = ((refl, refl, refl, refl), tt); answers = not_less 0 }

-- the header's write lies in the first 4,096 bytes
step2 : IsOrderlyStep [] (up_to (created ∷ [])) headed_file
step2 = record {
  files = (
    record {
      taken = λ a b. false_is_true b;
      returned = λ a b. false_is_true a;
      written = λ w e. subst (λ v. v.at + length v.bytes ≤ 4096) (same_write (record { at = 0; bytes = header_spelling first_header }) w e) (le_refl 4096);
    },
    tt,
  );
  answers = not_less 0;
}

step3 : IsOrderlyStep [] (up_to (created ∷ headed_file ∷ [])) stable_header
step3 = record {
  files = (
    record {
      taken = λ a b. false_is_true b;
      returned = λ a b. false_is_true a;
      written = λ w e. none_is_one (record { at = 0; bytes = header_spelling first_header } ∷ []) w e;
    },
    tt,
  );
  answers = not_less 0;
}

step4 : IsOrderlyStep [] (up_to (created ∷ headed_file ∷ stable_header ∷ [])) linked
step4 = record {
  files = (
    record {
      taken = λ a b. (first_header, record { legal = refl; quiet = refl; least = (λ u. le_refl 1, tt); pool = (refl, refl); epoch = refl; number = refl });
      returned = λ a b. false_is_true a;
      written = λ w e. none_is_one [] w e;
    },
    tt,
  );
  answers = not_less 0;
}

-- nothing is read of the new queue, and its one file isn't dead
step5 : IsOrderlyStep [] (up_to (created ∷ headed_file ∷ stable_header ∷ linked ∷ [])) queue_answered
step5 = record {
  files = (record { taken = λ a b. true_is_false a; returned = λ a b. true_is_false b; written = λ w e. none_is_one [] w e }, tt);
  answers = λ lt. record {
    none_dead = (refl, tt);
    written = (((nothing_spelled (up_to (created ∷ headed_file ∷ stable_header ∷ linked ∷ queue_answered ∷ [])) (headed (used 1 bytes_linked) ∷ []) 0 refl, tt), tt), tt);
  };
}

-- the put is written behind the header, into sectors that nothing covered since the file came into use
step6 : IsOrderlyStep [] (up_to (created ∷ headed_file ∷ stable_header ∷ linked ∷ queue_answered ∷ [])) written
step6 = record {
  files = (
    record {
      taken = λ a b. true_is_false a;
      returned = λ a b. true_is_false b;
      written = λ w e. subst
          (MeetsOnly [] (up_to (created ∷ headed_file ∷ stable_header ∷ linked ∷ queue_answered ∷ [])) (record { id = 1; place = InUse; stable = bytes_linked; pending = [] }) InUse)
          (same_write (record { at = 4096; bytes = block }) w e)
          (le_refl 4096, λ k a b. refl);
    },
    tt,
  );
  answers = not_less 3;
}

step7 : IsOrderlyStep [] (up_to (created ∷ headed_file ∷ stable_header ∷ linked ∷ queue_answered ∷ written ∷ [])) synced
step7 = record {
  files = (
    record {
      taken = λ a b. true_is_false a;
      returned = λ a b. true_is_false b;
      written = λ w e. none_is_one (record { at = 4096; bytes = block } ∷ []) w e;
    },
    tt,
  );
  answers = not_less 3;
}

-- ---- at the last answer all that is read was written

is_true : (m n : ℕ) → m ≤ n → leb m n ≡ true
is_true m n h = grind (arith, nat_tests)

is_less : (m n : ℕ) → m < n → ltb m n ≡ true
is_less m n h = grind (arith, nat_tests)

isnt_less : (m n : ℕ) → n ≤ m → ltb m n ≡ false
isnt_less m n h = grind (arith, nat_tests)

-- the put's write covers the sectors of the data area
covered : (k : ℕ) → 8 ≤ k → k < 16 → is_covered 1 k written ≡ true
covered k lo hi = ap₂ (λ a b. (a && b) || false) (is_true 4096 (512 * k) (omega (arith, lo))) (is_less (512 * k) 8192 (omega (arith, hi)))

sector_written : (k : ℕ) → 8 ≤ k → k < 16 → is_unwritten [] run 1 k ≡ false
sector_written k lo hi = ap (λ b. unwritten_since 1 k (true && not b && true) written (synced ∷ put_answered ∷ [])) (covered k lo hi)

abbrev the_file : Headed
the_file = headed (used 1 bytes1)

byte_written : (q : ℕ) → WrittenAt [] run (holder (the_file ∷ []) q)
byte_written q =
    elim (cases_lt q 4096) [
      | inl lt ↦
          subst (λ b. WrittenAt [] run (cond b (Some (record { file = the_file; within = q })) None)) (sym (is_less q 4096 lt))
          (sector_written ((4096 + q) / 512) (omega (arith, lt)) (omega (arith, lt)))
      | inr ge ↦ subst (λ b. WrittenAt [] run (cond b (Some (record { file = the_file; within = q })) None)) (sym (isnt_less q 4096 ge)) tt
    ]

all_written_there : EachPlaceOf (SpellsWritten [] run) store1
all_written_there = ((All-of (SpellsWritten [] run (the_file ∷ [])) (λ p r e q le lt. byte_written q) (places true (the_file ∷ [])), tt), tt)

step8 : IsOrderlyStep [] (up_to (created ∷ headed_file ∷ stable_header ∷ linked ∷ queue_answered ∷ written ∷ synced ∷ [])) put_answered
step8 = record {
  files = (record { taken = λ a b. true_is_false a; returned = λ a b. true_is_false b; written = λ w e. none_is_one [] w e }, tt);
  answers = λ lt. record { none_dead = (refl, tt); written = all_written_there };
}

run_is_orderly : IsOrderly start all
run_is_orderly = (step1, (step2, (step3, (step4, (step5, (step6, (step7, (step8, tt))))))))

-- ---- the premises

number_in_zeros : (n : ℕ) → n + 8 ≤ 4096 → number_at w64 n (replicate 4096 0) ≡ 0
number_in_zeros n h =
    ap (λ b. from_le_bytes w64 (take 8 b)) (drop-replicate n 4096 0)
    ∙ ap (from_le_bytes w64) (take-replicate 8 (4096 - n) 0 (omega (arith, h)))

-- the new file holds zeros, and no zeros are its serial
unmarked : (unit : ℕ) → 128 * unit + 128 ≤ 4096 → number_at w64 (128 * unit + 8) (replicate 4096 0) ≡ 7 → ⊥
unmarked unit h is = let zero : number_at w64 (128 * unit + 8) (replicate 4096 0) ≡ 0 = number_in_zeros (128 * unit + 8) (omega (arith, h)) in absurd (omega (arith, zero, is))

run_is_unmarked : AllUnmarked start all
run_is_unmarked = (tt, (tt, (tt, ((unmarked, tt), (tt, (tt, (tt, (tt, tt))))))))

no_chance : NoChanceMatch [] run store1
no_chance = record { torn = spells_its_own store1 (tt, tt); reused = all_written_there }

-- so the store as it is after the put is an image that the premises allow
store_is_fair : IsFairImage [] run store1
store_is_fair = record { image = (record { id = refl; place = refl; bytes = refl }, tt); unmarked = run_is_unmarked; chance = no_chance }

-- ---- and what isn't orderly: a write to a file that was in use at the start

old_file_is_not_written : IsOrderlyStep [] (record { start = linked; since = [] }) written → ⊥
old_file_is_not_written s =
    let meets = s.files.0.written (record { at = 4096; bytes = block }) refl in
    let unwritten : false ≡ true = meets.1 8 (le_refl 4096) (omega arith) in
    false_is_true unwritten
