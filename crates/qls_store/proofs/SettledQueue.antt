-- A queue in which each transaction ended by its verdict: what is still pending in it is in doubt, and the ends of a plan leave just this.
use Rattle.std.proofs.Common.{◌≡◌, ℕ, ◌<◌, Bool, true, false, ◌||◌, cond, List, [], ◌∷◌, map, filter, Option, Some, None, refl, sym, ap, subst, ◌∙◌}
use Rattle.std.specs.List.{AllByRecursion, filter_map, cons_option, list_any}
use Rattle.qls_model.specs.Bytes.{same, is_listed}
use Rattle.qls_model.proofs.XidKeys.{same_true, same_self}
use Rattle.qls_model.proofs.EndLaws.{messages_left-staying}
use Rattle.qls_model.specs.Ends.{status_left, stays, with_status, with_status_left}
use Rattle.qls_model.specs.Messages.{left_by, after_coming, after_going, decided, only}
use Rattle.qls_model.specs.Sound.{IsNumbered, RisesTo}
use Rattle.qls_model.specs.declared.machine.Status.{Status}
use Rattle.qls_model.specs.declared.machine.Status.TheVariants.{Ready, Coming, Going}
use Rattle.qls_model.specs.declared.machine.Message.{Message}
use Rattle.qls_model.specs.declared.machine.QueueState.{QueueState}
use Rattle.qls_model.specs.declared.machine.Verdict.{Verdict}
use Rattle.qls_model.specs.declared.machine.Verdict.TheVariants.{Commit, Abort, Doubt}
use Rattle.qls_decide.specs.declared.End.{End}
use Rattle.qls_decide.specs.declared.ListEntry.{ListEntry}
use Rattle.qls_decide.specs.Ends.{end_by, end_of, planned_end}
use Rattle.qls_decide.specs.Entries.{verdict_by}
use Rattle.qls_replay.specs.Ops.{is_moved, verdict_if}
use Rattle.qls_replay.proofs.Agreeing.{same_turned}
use Rattle.qls_queue.specs.Answers.{is_pending}
use Rattle.qls_queue.specs.Records.{ended_by}
use Rattle.qls_store.specs.Settling.{IsDoubted}

abbrev moves : List ℕ → List Message → Bool
moves x ms = list_any (λ m. is_moved x m.status) ms

or_first : (a b : Bool) → a ≡ true → (a || b) ≡ true
or_first true b e = refl
or_first false b e = absurd (cc)

or_second : (a b : Bool) → b ≡ true → (a || b) ≡ true
or_second true b e = refl
or_second false b e = e

or_either : (P : Type 0) (a b : Bool) → (a ≡ true → P) → (b ≡ true → P) → (a || b) ≡ true → P
or_either P true b f g e = f refl
or_either P false b f g e = g e

-- ---- a queue by verdicts

module _ (v : List ℕ → Verdict) where
  abbrev left : List Message → List Message
  left ms = filter_map (λ m. left_by v m.status m) ms

  again : (m : Message) (rest : List Message) (s : Status) → m.status ≡ s → left (cons_option (left_by v s m) rest) ≡ cons_option (left_by v s m) (left rest)
  again m rest Ready e = ap (λ s. cons_option (left_by v s m) (left rest)) e
  again m rest (Coming y) e = by (v y) refl
    where
      by : (d : Verdict) → v y ≡ d → left (cons_option (after_coming d m) rest) ≡ cons_option (after_coming d m) (left rest)
      by Commit is = refl
      by Abort is = refl
      by Doubt is = ap (λ s. cons_option (left_by v s m) (left rest)) e ∙ ap (λ d. cons_option (after_coming d m) (left rest)) is
  again m rest (Going y) e = by (v y) refl
    where
      by : (d : Verdict) → v y ≡ d → left (cons_option (after_going d m) rest) ≡ cons_option (after_going d m) (left rest)
      by Commit is = refl
      by Abort is = refl
      by Doubt is = ap (λ s. cons_option (left_by v s m) (left rest)) e ∙ ap (λ d. cons_option (after_going d m) (left rest)) is

  left_twice : (ms : List Message) → left (left ms) ≡ left ms
  left_twice [] = refl
  left_twice (m ∷ ms) = again m (left ms) m.status refl ∙ ap (cons_option (left_by v m.status m)) (left_twice ms)

  -- twice is as once
  pub decided_twice : (q : QueueState) → decided v (decided v q) ≡ decided v q
  decided_twice q = ap (λ (ms : List Message). record q { messages = ms }) (left_twice q.messages)

  -- all that is pending is in doubt
  abbrev AreDoubted : List Message → Type 0
  AreDoubted ms = (x : List ℕ) → moves x ms ≡ true → v x ≡ Doubt

  same_doubt : (x y : List ℕ) → v y ≡ Doubt → same x y ≡ true → v x ≡ Doubt
  same_doubt x y e h = ap v (same_true x y h) ∙ e

  moved_left : (x : List ℕ) (m : Message) (rest : List Message) (s : Status) → m.status ≡ s → (moves x rest ≡ true → v x ≡ Doubt) → moves x (cons_option (left_by v s m) rest) ≡ true → v x ≡ Doubt
  moved_left x m rest Ready e h = λ k. h (sym (ap (λ s. is_moved x s || moves x rest) e) ∙ k)
  moved_left x m rest (Coming y) e h = by (v y) refl
    where
      by : (d : Verdict) → v y ≡ d → moves x (cons_option (after_coming d m) rest) ≡ true → v x ≡ Doubt
      by Commit is k = h k
      by Abort is k = h k
      by Doubt is k = or_either (v x ≡ Doubt) (same x y) (moves x rest) (same_doubt x y is) h (sym (ap (λ s. is_moved x s || moves x rest) e) ∙ k)
  moved_left x m rest (Going y) e h = by (v y) refl
    where
      by : (d : Verdict) → v y ≡ d → moves x (cons_option (after_going d m) rest) ≡ true → v x ≡ Doubt
      by Commit is k = h k
      by Abort is k = h k
      by Doubt is k = or_either (v x ≡ Doubt) (same x y) (moves x rest) (same_doubt x y is) h (sym (ap (λ s. is_moved x s || moves x rest) e) ∙ k)

  left_doubted : (ms : List Message) → AreDoubted (left ms)
  left_doubted [] x k = absurd (none k)
    where
      none : false ≡ true → ⊥
      none e = cc
  left_doubted (m ∷ ms) x k = moved_left x m (left ms) m.status refl (left_doubted ms x) k

  pub decided_doubted : (q : QueueState) → IsDoubted v (decided v q)
  decided_doubted q = left_doubted q.messages

  stays_by : (m : Message) (s : Status) → ((x : List ℕ) → is_moved x s ≡ true → v x ≡ Doubt) → left_by v s m ≡ Some m
  stays_by m Ready h = refl
  stays_by m (Coming y) h = ap (λ d. after_coming d m) (h y (same_self y))
  stays_by m (Going y) h = ap (λ d. after_going d m) (h y (same_self y))

  left_stays : (ms : List Message) → AreDoubted ms → left ms ≡ ms
  left_stays [] h = refl
  left_stays (m ∷ ms) h =
      ap (λ o. cons_option o (left ms)) (stays_by m m.status (λ x k. h x (or_first (is_moved x m.status) (moves x ms) k)))
      ∙ ap (λ (ks : List Message). m ∷ ks) (left_stays ms (λ x k. h x (or_second (is_moved x m.status) (moves x ms) k)))

  -- where all is in doubt nothing ends
  pub doubted_stays : (q : QueueState) → IsDoubted v q → decided v q ≡ q
  doubted_stays q h = ap (λ (ms : List Message). record q { messages = ms }) (left_stays q.messages h)

-- ---- verdicts that agree on what is pending

module _ (v w : List ℕ → Verdict) where
  agreed : (m : Message) (s : Status) → ((x : List ℕ) → is_moved x s ≡ true → v x ≡ w x) → left_by v s m ≡ left_by w s m
  agreed m Ready h = refl
  agreed m (Coming y) h = ap (λ d. after_coming d m) (h y (same_self y))
  agreed m (Going y) h = ap (λ d. after_going d m) (h y (same_self y))

  left_agreed : (ms : List Message) → ((x : List ℕ) → moves x ms ≡ true → v x ≡ w x) → left v ms ≡ left w ms
  left_agreed [] h = refl
  left_agreed (m ∷ ms) h =
      ap (λ o. cons_option o (left v ms)) (agreed m m.status (λ x k. h x (or_first (is_moved x m.status) (moves x ms) k)))
      ∙ ap (cons_option (left_by w m.status m)) (left_agreed ms (λ x k. h x (or_second (is_moved x m.status) (moves x ms) k)))

  pub decided_agreed : (q : QueueState) → ((x : List ℕ) → is_pending x q ≡ true → v x ≡ w x) → decided v q ≡ decided w q
  decided_agreed q h = ap (λ (ms : List Message). record q { messages = ms }) (left_agreed q.messages h)

-- ---- ends, as verdicts

abbrev verdict_of_end : Option End → Verdict
verdict_of_end None = Doubt
verdict_of_end (Some e) = verdict_if e.commit

abbrev verdict_in : List End → List ℕ → Verdict
verdict_in es x = verdict_of_end (end_of x es)

module _ (e : End) (es : List End) where
  abbrev first : List ℕ → Verdict
  first = only e.xid (verdict_if e.commit)

  abbrev later : List ℕ → Verdict
  later = verdict_in es

  abbrev both : List ℕ → Verdict
  both = verdict_in (e ∷ es)

  both_first : (y : List ℕ) → same e.xid y ≡ true → both y ≡ verdict_if e.commit
  both_first y h = ap (λ b. verdict_of_end (cond b (Some e) (end_of y es))) (same_turned y e.xid ∙ h)

  both_later : (y : List ℕ) → same e.xid y ≡ false → both y ≡ later y
  both_later y h = ap (λ b. verdict_of_end (cond b (Some e) (end_of y es))) (same_turned y e.xid ∙ h)

  fused : (m : Message) (rest : List Message) (s : Status) → m.status ≡ s → left later (cons_option (left_by first s m) rest) ≡ cons_option (left_by both s m) (left later rest)
  fused m rest Ready i = ap (λ s. cons_option (left_by later s m) (left later rest)) i
  fused m rest (Coming y) i = by (same e.xid y) refl
    where
      ended : (c : Bool) → left later (cons_option (after_coming (verdict_if c) m) rest) ≡ cons_option (after_coming (verdict_if c) m) (left later rest)
      ended true = refl
      ended false = refl

      by : (b : Bool) → same e.xid y ≡ b → left later (cons_option (after_coming (cond b (verdict_if e.commit) Doubt) m) rest) ≡ cons_option (after_coming (both y) m) (left later rest)
      by true is = ended e.commit ∙ ap (λ d. cons_option (after_coming d m) (left later rest)) (sym (both_first y is))
      by false is = ap (λ s. cons_option (left_by later s m) (left later rest)) i ∙ ap (λ d. cons_option (after_coming d m) (left later rest)) (sym (both_later y is))
  fused m rest (Going y) i = by (same e.xid y) refl
    where
      ended : (c : Bool) → left later (cons_option (after_going (verdict_if c) m) rest) ≡ cons_option (after_going (verdict_if c) m) (left later rest)
      ended true = refl
      ended false = refl

      by : (b : Bool) → same e.xid y ≡ b → left later (cons_option (after_going (cond b (verdict_if e.commit) Doubt) m) rest) ≡ cons_option (after_going (both y) m) (left later rest)
      by true is = ended e.commit ∙ ap (λ d. cons_option (after_going d m) (left later rest)) (sym (both_first y is))
      by false is = ap (λ s. cons_option (left_by later s m) (left later rest)) i ∙ ap (λ d. cons_option (after_going d m) (left later rest)) (sym (both_later y is))

  all_fused : (ms : List Message) → left later (left first ms) ≡ left both ms
  all_fused [] = refl
  all_fused (m ∷ ms) = fused m (left first ms) m.status refl ∙ ap (cons_option (left_by both m.status m)) (all_fused ms)

none_left : (ms : List Message) → ms ≡ left (verdict_in []) ms
none_left ms = sym (left_stays (verdict_in []) ms (λ x k. refl))

pub ends_are : (es : List End) (q : QueueState) → ended_by es q ≡ decided (verdict_in es) q
ends_are [] q = ap (λ (ms : List Message). record q { messages = ms }) (none_left q.messages)
ends_are (e ∷ es) q = ends_are es (decided (first e es) q) ∙ ap (λ (ms : List Message). record q { messages = ms }) (all_fused e es q.messages)

-- ---- the ends of a plan

planned_verdict : (v : Verdict) (x : List ℕ) → verdict_of_end (end_by v x) ≡ v
planned_verdict Commit x = refl
planned_verdict Abort x = refl
planned_verdict Doubt x = refl

-- these are the ends of what is pending in a queue by the entries
pub planned_ends : (es : List ListEntry) (q : QueueState) (pending : List (List ℕ)) (ends : List End) → ((x : List ℕ) → is_listed x pending ≡ is_pending x q) → ((x : List ℕ) → end_of x ends ≡ planned_end x pending es)
    → (x : List ℕ) → end_of x ends ≡ cond (is_pending x q) (end_by (verdict_by es x) x) None
planned_ends es q pending ends listed each x = each x ∙ ap (λ b. cond b (end_by (verdict_by es x) x) None) (listed x)

pub planned_leave : (es : List ListEntry) (q : QueueState) (ends : List End) → ((x : List ℕ) → end_of x ends ≡ cond (is_pending x q) (end_by (verdict_by es x) x) None) → ended_by ends q ≡ decided (verdict_by es) q
planned_leave es q ends planned = ends_are ends q ∙ decided_agreed (verdict_in ends) (verdict_by es) q agree
  where
    agree : (x : List ℕ) → is_pending x q ≡ true → verdict_in ends x ≡ verdict_by es x
    agree x h = ap verdict_of_end (planned x ∙ ap (λ b. cond b (end_by (verdict_by es x) x) None) h) ∙ planned_verdict (verdict_by es x) x

-- ---- numbers that rise

all_filter : {A : Type 0} (P : A → Type 0) (t : A → Bool) (xs : List A) → AllByRecursion P xs → AllByRecursion P (filter t xs)
all_filter P t [] h = tt
all_filter P t (x ∷ xs) h =
    elim (t x) as (λ b. AllByRecursion P (cond b (x ∷ filter t xs) (filter t xs))) [ true ↦ (h.0, all_filter P t xs h.1) | false ↦ all_filter P t xs h.1 ]

rise_filter : (t : Message → Bool) (last : ℕ) (ms : List Message) → RisesTo last ms → RisesTo last (filter t ms)
rise_filter t last [] h = tt
rise_filter t last (m ∷ ms) h =
    elim (t m) as (λ b. RisesTo last (cond b (m ∷ filter t ms) (filter t ms))) [
      | true ↦ (h.0, all_filter (λ k. m.number < k.number) t ms h.1, rise_filter t last ms h.2)
      | false ↦ rise_filter t last ms h.2
    ]

all_behind : (f : Message → Message) → ((m : Message) → (f m).number ≡ m.number) → (n : ℕ) (ms : List Message) → AllByRecursion (λ k. n < k.number) ms → AllByRecursion (λ k. n < k.number) (map f ms)
all_behind f keeps n [] h = tt
all_behind f keeps n (m ∷ ms) h = (subst (λ k. n < k) (sym (keeps m)) h.0, all_behind f keeps n ms h.1)

rise_map : (f : Message → Message) → ((m : Message) → (f m).number ≡ m.number) → (last : ℕ) (ms : List Message) → RisesTo last ms → RisesTo last (map f ms)
rise_map f keeps last [] h = tt
rise_map f keeps last (m ∷ ms) h = (rw keeps h.0, subst (λ n. AllByRecursion (λ k. n < k.number) (map f ms)) (sym (keeps m)) (all_behind f keeps m.number ms h.1), rise_map f keeps last ms h.2)

kept_number : (m : Message) (o : Option Status) → (with_status m o).number ≡ m.number
kept_number m None = refl
kept_number m (Some s) = refl

pub decided_numbered : (v : List ℕ → Verdict) (q : QueueState) → IsNumbered q → IsNumbered (decided v q)
decided_numbered v q h = record {
  last = h.last;
  rising = subst (RisesTo q.last) (messages_left-staying v q.messages)
      (rise_map (with_status_left v) (λ m. kept_number m (status_left v m.status)) q.last (filter (stays v) q.messages) (rise_filter (stays v) q.last q.messages h.rising));
}
