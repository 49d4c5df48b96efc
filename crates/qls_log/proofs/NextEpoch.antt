-- A whole journal whose last files are of one opening: the files before are a whole journal, and these a later epoch of it.
use Rattle.std.proofs.Common.{◌≡◌, ℕ, ◌<◌, Bool, true, false, List, [], ◌∷◌, ◌++◌, map, length, Ok, refl, sym, ap, ◌∙◌, subst, arith, append-nil}
use Rattle.std.specs.List.{AllByRecursion}
use Rattle.qls_shape.specs.Claims.{each}
use Rattle.qls_filehdr.specs.declared.JournalKind.{JournalKind}
use Rattle.qls_meaning.specs.Journals.{Headed, epochs}
use Rattle.qls_meaning.specs.Reading.{Placed, Read, end_from, first_place, begin_place, epoch_reading, epoch_end, located, journal_reading}
use Rattle.qls_meaning.specs.Damage.{spread, rid_at_end, oldest_rid, next_claims, chain_claims, file_claims, end_claim}
use Rattle.qls_meaning.specs.Dead.{after_end, past_in}
use Rattle.qls_meaning.specs.Spent.{rid_of_reads}
use Rattle.qls_laws.specs.Undamaged.{BreaksNoRule}
use Rattle.qls_laws.specs.Returns.{HasPlaces}
use Rattle.qls_laws.proofs.Claimed.{HaveEpoch, AllKeep, next_ok, one_run, keeps_rules, rules_kept}
use Rattle.qls_laws.proofs.DeadQueue.{run}
use Rattle.qls_epochs.specs.Whole.{IsWhole}
use Rattle.qls_epochs.specs.Joins.{ComesNext, IsNextEpoch}
use Rattle.qls_epochs.proofs.Turns.{runs}
use Rattle.qls_epochs.proofs.Later.{begins_at_once, reads_the_same, AsOldest, as_oldest}
use Rattle.qls_epochs.proofs.Ended.{AllEnd, all_end, end_all, rid_over, rid_of_located, rid_of_both, rid_over_reads}
use Rattle.qls_epochs.proofs.Joined.{joined_whole}
use Rattle.qls_log.proofs.Older.{Apart, is_oldest, not_none, epochs_both, reading_both}

-- ---- both parts

all_first : (P : Headed → Type 0) (fs gs : List Headed) → AllByRecursion P (fs ++ gs) → AllByRecursion P fs
all_first P [] gs h = tt
all_first P (f ∷ fs) gs h = (h.0, all_first P fs gs h.1)

all_rest : (P : Headed → Type 0) (fs gs : List Headed) → AllByRecursion P (fs ++ gs) → AllByRecursion P gs
all_rest P [] gs h = h
all_rest P (f ∷ fs) gs h = all_rest P fs gs h.1

chain_first : (f : Headed) (fs gs : List Headed) → chain_claims ((f ∷ fs) ++ gs) ≡ Ok tt → chain_claims (f ∷ fs) ≡ Ok tt
chain_first f [] gs h = refl
chain_first f (k ∷ fs) gs h =
    let parts = next_ok (next_claims f k) (chain_claims ((k ∷ fs) ++ gs)) h in
    Rattle.qls_laws.proofs.Claimed.ok_next (next_claims f k) (chain_claims (k ∷ fs)) parts.0 (chain_first k fs gs parts.1)

-- the epochs before, and those behind
ends_first : (oldest : Bool) (rid : ℕ) (es ds : List (List Headed)) → AllEnd oldest rid (es ++ ds) → AllEnd oldest rid es
ends_first oldest rid [] ds a = tt
ends_first oldest rid (e ∷ es) ds a = (a.0, a.1, ends_first false (rid_at_end rid (epoch_reading oldest e)) es ds a.2)

ends_rest : (oldest : Bool) (rid : ℕ) (e : List Headed) (es ds : List (List Headed)) → AllEnd oldest rid ((e ∷ es) ++ ds) → AllEnd false (rid_over oldest rid (e ∷ es)) ds
ends_rest oldest rid e [] ds a = a.2
ends_rest oldest rid e (d ∷ es) ds a = ends_rest false (rid_at_end rid (epoch_reading oldest e)) d es ds a.2

-- ---- the files of this opening, by themselves

-- the first of them begins with its data area
abbrev pub BeginAtFront : List Headed → Type 0
BeginAtFront [] = Unit {0}
BeginAtFront (f ∷ fs) = f.header.first ≡ 4096

pub begin_at_front : (fs : List Headed) → BeginAtFront fs → first_place fs ≡ 0
begin_at_front [] b = refl
begin_at_front (f ∷ fs) b = begins_at_once f fs b

-- What the rules say of them: their rids begin with one that is in force behind the files before, and at their end it is this
pub record OwnKept (kind : JournalKind) (name : List ℕ) (past own : List Headed) (now : ℕ) : Type 0 where
  pub rid : ℕ
  pub keep : AllKeep (first_place own) (end_from (first_place own) (epoch_reading true own)) rid (epoch_reading true own) 0 own
  pub rid_now : rid_at_end rid (epoch_reading true own) ≡ now
  pub oldest : 0 < length own → oldest_rid own ≡ rid
  pub front : 0 < length past → BeginAtFront own
  pub begin : begin_place (is_oldest past) own ≡ first_place own
  pub whole : 0 < length past → IsWhole (run kind name past)
  pub behind : 0 < length past → rid ≡ rid_of_reads (oldest_rid past) (journal_reading (run kind name past))

module _ (kind : JournalKind) (name : List ℕ) (e : ℕ) (f : Headed) (fs : List Headed) (g : Headed) (gs : List Headed) (w : IsWhole (run kind name ((f ∷ fs) ++ g ∷ gs))) (a : Apart e (f ∷ fs) (g ∷ gs)) where
  abbrev past : List Headed
  past = f ∷ fs

  abbrev own : List Headed
  own = g ∷ gs

  both : epochs (past ++ own) ≡ epochs past ++ own ∷ []
  both = epochs_both e f fs g gs a

  ends : AllEnd true f.header.rid (epochs past ++ own ∷ [])
  ends = subst (AllEnd true f.header.rid) both (all_end true f.header.rid (epochs (past ++ own)) w.rules.reading w.past)

  whole_before : IsWhole (run kind name past)
  whole_before =
      let parts = end_all true f.header.rid (epochs past) (ends_first true f.header.rid (epochs past) (own ∷ []) ends) in
      record {
        places = all_first HasPlaces past own w.places;
        rules = record { chain = chain_first f fs own w.rules.chain; reading = parts.0 };
        past = parts.1;
      }

  abbrev in_force : ℕ
  in_force = rid_over true f.header.rid (epochs past)

  own_end : AllEnd false in_force (own ∷ [])
  own_end =
      let r = runs f fs in
      subst (λ (es : List (List Headed)). AllEnd false (rid_over true f.header.rid es) (own ∷ [])) (sym r.is)
      (ends_rest true f.header.rid (f ∷ r.more) r.rest (own ∷ []) (subst (λ (es : List (List Headed)). AllEnd true f.header.rid (es ++ own ∷ [])) r.is ends))

  become : AsOldest in_force g gs
  become =
      as_oldest in_force g gs (all_rest HasPlaces past own w.places).0.some true
      (next_ok (each (file_claims false true in_force own (epoch_reading false own)) (spread 0 own)) (end_claim false true in_force own (epoch_reading false own) own) own_end.0).0

  in_force_is : g.header.rid ≡ rid_of_reads f.header.rid (journal_reading (run kind name past))
  in_force_is = become.rid_is ∙ sym (rid_over_reads true f.header.rid (epochs past))

  kept_both : (now : ℕ) → rid_of_reads f.header.rid (journal_reading (run kind name (past ++ own))) ≡ now → OwnKept kind name past own now
  kept_both now rid =
      let begin : first_place own ≡ 0 = begins_at_once g gs become.first in
      let before : List Read = journal_reading (run kind name past) in
      let later : journal_reading (run kind name (past ++ own)) ≡ before ++ map (located own) (epoch_reading true own) =
      reading_both e past own a ∙ ap (λ b. before ++ map (located own) (epoch_reading b own)) (not_none (length fs)) ∙ ap (λ (rs : List Placed). before ++ map (located own) rs) (sym (reads_the_same own begin)) in
      record {
        rid = g.header.rid;
        keep = become.keep;
        rid_now =
            ap (λ n. rid_at_end n (epoch_reading true own)) in_force_is ∙ sym (rid_of_located own (rid_of_reads f.header.rid before) (epoch_reading true own))
            ∙ sym (rid_of_both f.header.rid before (map (located own) (epoch_reading true own))) ∙ ap (rid_of_reads f.header.rid) (sym later) ∙ rid;
        oldest = λ some. refl;
        front = λ some. become.first;
        begin = ap (λ b. begin_place b own) (not_none (length fs)) ∙ sym begin;
        whole = λ some. whole_before;
        behind = λ some. in_force_is;
      }

pub own_kept : (kind : JournalKind) (name : List ℕ) (e : ℕ) (past own : List Headed) (now : ℕ) → Apart e past own → IsWhole (run kind name (past ++ own)) → rid_of_reads (oldest_rid (past ++ own)) (journal_reading (run kind name (past ++ own))) ≡ now
    → OwnKept kind name past own now
own_kept kind name e [] own now a w rid = record {
  rid = oldest_rid own;
  keep = keeps_rules e kind name own a.one w.rules.reading;
  rid_now = sym (rid_of_located own (oldest_rid own) (epoch_reading true own)) ∙ ap (rid_of_reads (oldest_rid own)) (sym (reading_both e [] own a)) ∙ rid;
  oldest = λ some. refl;
  front = λ some. absurd (omega (arith, some));
  begin = refl;
  whole = λ some. absurd (omega (arith, some));
  behind = λ some. absurd (omega (arith, some));
}
own_kept kind name e (f ∷ fs) [] now a w rid =
    let same : (f ∷ fs) ++ [] ≡ f ∷ fs = append-nil (f ∷ fs) in
    record {
      rid = now;
      keep = tt;
      rid_now = refl;
      oldest = λ some. absurd (omega (arith, some));
      front = λ some. tt;
      begin = nothing (is_oldest (f ∷ fs));
      whole = λ some. subst (λ (xs : List Headed). IsWhole (run kind name xs)) same w;
      behind = λ some. sym (ap (λ (xs : List Headed). rid_of_reads f.header.rid (journal_reading (run kind name xs))) (sym same) ∙ rid);
    }
  where
    nothing : (b : Bool) → begin_place b [] ≡ 0
    nothing true = refl
    nothing false = refl
own_kept kind name e (f ∷ fs) (g ∷ gs) now a w rid = kept_both kind name e f fs g gs w a now rid

-- ---- and joined

-- the first of them comes next behind the files before
abbrev pub FirstComesNext : List Headed → List Headed → Type 0
FirstComesNext past [] = Unit {0}
FirstComesNext past (g ∷ gs) = ComesNext past g

whole_joined : (kind : JournalKind) (name : List ℕ) (e rid : ℕ) (f : Headed) (fs own : List Headed) → IsWhole (run kind name (f ∷ fs)) → Apart e (f ∷ fs) own → AllByRecursion HasPlaces own → BreaksNoRule (run kind name own)
    → after_end (epoch_end true own) own ≡ [] → BeginAtFront own → (0 < length own → oldest_rid own ≡ rid) → rid ≡ rid_of_reads f.header.rid (journal_reading (run kind name (f ∷ fs))) → FirstComesNext (f ∷ fs) own
    → IsWhole (run kind name ((f ∷ fs) ++ own))
whole_joined kind name e rid f fs [] w a places rules ends front oldest behind next = subst (λ (xs : List Headed). IsWhole (run kind name xs)) (sym (append-nil (f ∷ fs))) w
whole_joined kind name e rid f fs (g ∷ gs) w a places rules ends front oldest behind next =
    let n : IsNextEpoch (run kind name (f ∷ fs)) (g ∷ gs) = record {
      epoch = e;
      one = a.one;
      above = a.less;
      places = places;
      rules = rules;
      begins = record { next = next; first = front; rid = oldest (omega arith) ∙ behind };
    } in
    joined_whole (run kind name (f ∷ fs)) (g ∷ gs) w n (ap (past_in true) (one_run e g gs a.one) ∙ ends)

pub whole_on : (kind : JournalKind) (name : List ℕ) (e now : ℕ) (past was own : List Headed) → Apart e past own → AllByRecursion HasPlaces own → BreaksNoRule (run kind name own)
    → after_end (epoch_end true own) own ≡ [] → (0 < length past → BeginAtFront own) → (k : OwnKept kind name past was now) → (0 < length own → oldest_rid own ≡ k.rid) → FirstComesNext past own → IsWhole (run kind name (past ++ own))
whole_on kind name e now [] was own a places rules ends front k oldest next = record { places = places; rules = rules; past = past_one own a.one ends }
  where
    past_one : (fs : List Headed) → HaveEpoch e fs → after_end (epoch_end true fs) fs ≡ [] → past_in true (epochs fs) ≡ []
    past_one [] one p = refl
    past_one (x ∷ fs) one p = ap (past_in true) (one_run e x fs one) ∙ p
whole_on kind name e now (f ∷ fs) was own a places rules ends front k oldest next =
    whole_joined kind name e k.rid f fs own (k.whole (omega arith)) a places rules ends (front (omega arith)) oldest (k.behind (omega arith)) next
