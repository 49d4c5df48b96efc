-- Each step and settling keep what holds of each state.
use Rattle.std.proofs.Common.{◌≡◌, ℕ, ◌+◌, ◌-◌, ◌<◌, ◌^◌, eqb, Bool, true, false, cond, not, Option, Some, None, is_some, is_none, IsSomeAnd, Result, Ok, Err, IfOk, IfErr, List, [], ◌∷◌, ◌++◌, map, filter, find, lit<, refl, sym, ap, subst, ◌∙◌, arith}
use Rattle.std.proofs.lemmas.Bool.{false≢true}
use Rattle.std.proofs.lemmas.Bool.Decides.{nat_tests}
use Rattle.std.specs.List.{AllByRecursion}
use Rattle.std.specs.Cmp.Lexicographic.{bytes_decides}
use Rattle.qls_model.specs.Bytes.{same, comes_before}
use Rattle.qls_model.specs.Messages.{decided, only, with_message, going_if}
use Rattle.qls_model.specs.Machine.{MachineState, XidState, queue_named, xid_named, with_queue, with_xid, change_queue, put_message, next_number, taken, prepared, settle, is_prepared, verdict_at, passes, first_true, refusals, by_open, accepted}
use Rattle.qls_model.specs.Sound.{Once, NamesOnce, XidsOnce, RisesTo, IsNumbered, IsSound}
use Rattle.qls_model.specs.Ends.{status_left, with_status, with_status_left, stays}
use Rattle.qls_model.proofs.EndLaws.{messages_left-staying}
use Rattle.qls_model.specs.declared.machine.QueueState.{QueueState}
use Rattle.qls_model.specs.declared.machine.Message.{Message}
use Rattle.qls_model.specs.declared.machine.Status.{Status}
use Rattle.qls_model.specs.declared.machine.Status.TheVariants.{Going}
use Rattle.qls_model.specs.declared.machine.Verdict.{Verdict}
use Rattle.qls_model.specs.declared.machine.Refusal.{Refusal}
use Rattle.qls_model.specs.declared.machine.Refusal.TheVariants as refusal
use Rattle.qls_model.specs.declared.machine.Verdict.TheVariants as verdict
use Rattle.qls_model.specs.declared.machine.Phase.TheVariants as phase
use Rattle.qls_model.specs.declared.machine.Reply.{Reply}
use Rattle.qls_model.specs.declared.machine.Command.{Command}
use Rattle.qls_model.specs.declared.machine.Command.TheVariants as command
use Rattle.qls_model.specs.declared.bytes.NoMemory.{NoMemory}

pub other_way : (a b : List ℕ) → same a b ≡ false → same b a ≡ false
other_way a b h = by (same b a) refl
  where
    by : (r : Bool) → same b a ≡ r → r ≡ false
    by true e = absurd (false≢true (sym h ∙ (bytes_decides a b).1 (sym ((bytes_decides b a).0 e))))
    by false e = refl

cond_keeps : {A B : Type 0} (key : A → B) (b : Bool) (x y : A) → key x ≡ key y → key (cond b x y) ≡ key y
cond_keeps key true x y e = e
cond_keeps key false x y e = refl

module _ {A : Type 0} where
  all_fail : (t : A → Bool) (xs : List A) → find t xs ≡ None → AllByRecursion (λ x. t x ≡ false) xs
  all_fail t [] e = tt
  all_fail t (x ∷ xs) e = by (t x) refl (all_fail t xs) e
    where
      by : (b : Bool) → t x ≡ b → (find t xs ≡ None → AllByRecursion (λ x. t x ≡ false) xs) → cond b (Some x) (find t xs) ≡ None → (t x ≡ false) × AllByRecursion (λ x. t x ≡ false) xs
      by true is rest h = absurd (cc)
      by false is rest h = (is, rest h)

  all_found : (P : A → Type 0) (t : A → Bool) (xs : List A) (y : A) → AllByRecursion P xs → find t xs ≡ Some y → P y
  all_found P t [] y h e = absurd (cc)
  all_found P t (x ∷ xs) y h e = by (t x) (all_found P t xs y h.1) e
    where
      by : (b : Bool) → (find t xs ≡ Some y → P y) → cond b (Some x) (find t xs) ≡ Some y → P y
      by true rest is = let x-is : x ≡ y = cc in subst P x-is h.0
      by false rest is = rest is

  all_filter : (P : A → Type 0) (t : A → Bool) (xs : List A) → AllByRecursion P xs → AllByRecursion P (filter t xs)
  all_filter P t [] h = tt
  all_filter P t (x ∷ xs) h = by (t x) (all_filter P t xs h.1)
    where
      by : (b : Bool) → AllByRecursion P (filter t xs) → AllByRecursion P (cond b (x ∷ filter t xs) (filter t xs))
      by true k = (h.0, k)
      by false k = k

  all_map : (P Q : A → Type 0) (f : A → A) → ((x : A) → P x → Q (f x)) → (xs : List A) → AllByRecursion P xs → AllByRecursion Q (map f xs)
  all_map P Q f keeps [] h = tt
  all_map P Q f keeps (x ∷ xs) h = (keeps x h.0, all_map P Q f keeps xs h.1)

  all_each : (P Q : A → Type 0) → ((x : A) → P x → Q x) → (xs : List A) → AllByRecursion P xs → AllByRecursion Q xs
  all_each P Q each [] h = tt
  all_each P Q each (x ∷ xs) h = (each x h.0, all_each P Q each xs h.1)

  all_both : (P Q R : A → Type 0) → ((x : A) → P x → Q x → R x) → (xs : List A) → AllByRecursion P xs → AllByRecursion Q xs → AllByRecursion R xs
  all_both P Q R both [] h k = tt
  all_both P Q R both (x ∷ xs) h k = (both x h.0 k.0, all_both P Q R both xs h.1 k.1)

  all_append : (P : A → Type 0) (xs ys : List A) → AllByRecursion P xs → AllByRecursion P ys → AllByRecursion P (xs ++ ys)
  all_append P [] ys h k = k
  all_append P (x ∷ xs) ys h k = (h.0, all_append P xs ys h.1 k)

  module _ (key : A → List ℕ) where
    once_filter : (t : A → Bool) (xs : List A) → Once key xs → Once key (filter t xs)
    once_filter t [] h = tt
    once_filter t (x ∷ xs) h = by (t x) (once_filter t xs h.1)
      where
        by : (b : Bool) → Once key (filter t xs) → Once key (cond b (x ∷ filter t xs) (filter t xs))
        by true k = (all_filter (λ y. same (key y) (key x) ≡ false) t xs h.0, k)
        by false k = k

    once_map : (f : A → A) → ((x : A) → key (f x) ≡ key x) → (xs : List A) → Once key xs → Once key (map f xs)
    once_map f keeps [] h = tt
    once_map f keeps (x ∷ xs) h =
        (all_map (λ y. same (key y) (key x) ≡ false) (λ y. same (key y) (key (f x)) ≡ false) f (λ y e. (λ i. same (keeps y i) (keeps x i)) ∙ e) xs h.0, once_map f keeps xs h.1)

    -- one more entry at its place
    module _ (p : A → Bool) (x : A) (placed : List A → List A) (first : placed [] ≡ x ∷ []) (next : (y : A) (ys : List A) → placed (y ∷ ys) ≡ cond (p y) (x ∷ y ∷ ys) (y ∷ placed ys)) where
      all_placed : (P : A → Type 0) (xs : List A) → P x → AllByRecursion P xs → AllByRecursion P (placed xs)
      all_placed P [] px h = subst (AllByRecursion P) (sym first) (px, tt)
      all_placed P (y ∷ ys) px h = subst (AllByRecursion P) (sym (next y ys)) (by (p y) (all_placed P ys px h.1))
        where
          by : (b : Bool) → AllByRecursion P (placed ys) → AllByRecursion P (cond b (x ∷ y ∷ ys) (y ∷ placed ys))
          by true k = (px, h)
          by false k = (h.0, k)

      once_placed : (xs : List A) → AllByRecursion (λ y. same (key y) (key x) ≡ false) xs → Once key xs → Once key (placed xs)
      once_placed [] none h = subst (Once key) (sym first) (tt, tt)
      once_placed (y ∷ ys) none h = subst (Once key) (sym (next y ys)) (by (p y) (once_placed ys none.1 h.1))
        where
          by : (b : Bool) → Once key (placed ys) → Once key (cond b (x ∷ y ∷ ys) (y ∷ placed ys))
          by true k = (none, h)
          by false k = (all_placed (λ z. same (key z) (key y) ≡ false) ys (other_way (key y) (key x) none.0) h.0, k)

-- ---- numbers that rise

rise_filter : (t : Message → Bool) (last : ℕ) (ms : List Message) → RisesTo last ms → RisesTo last (filter t ms)
rise_filter t last [] h = tt
rise_filter t last (m ∷ ms) h = by (t m) (rise_filter t last ms h.2)
  where
    by : (b : Bool) → RisesTo last (filter t ms) → RisesTo last (cond b (m ∷ filter t ms) (filter t ms))
    by true k = (h.0, all_filter (λ k. m.number < k.number) t ms h.1, k)
    by false k = k

rise_map : (f : Message → Message) → ((m : Message) → (f m).number ≡ m.number) → (last : ℕ) (ms : List Message) → RisesTo last ms → RisesTo last (map f ms)
rise_map f same_number last [] h = tt
rise_map f same_number last (m ∷ ms) h =
    (rw same_number h.0, all_map (λ k. m.number < k.number) (λ k. (f m).number < k.number) f (λ k l. rw (same_number m, same_number k) l) ms h.1, rise_map f same_number last ms h.2)

rise_more : (m : Message) (last : ℕ) (ms : List Message) → last < m.number → RisesTo last ms → RisesTo m.number (ms ++ m ∷ [])
rise_more m last [] l h = (omega arith, tt, tt)
rise_more m last (k ∷ ms) l h =
    (omega arith, all_append (λ j. k.number < j.number) ms (m ∷ []) h.1 (omega arith, tt), rise_more m last ms l h.2)

kept_number : (m : Message) (o : Option Status) → (with_status m o).number ≡ m.number
kept_number m None = refl
kept_number m (Some s) = refl

decided-numbered : (v : List ℕ → Verdict) (q : QueueState) → IsNumbered q → IsNumbered (decided v q)
decided-numbered v q h = record {
  last = h.last;
  rising = subst (RisesTo q.last) (messages_left-staying v q.messages)
      (rise_map (with_status_left v) (λ m. kept_number m (status_left v m.status)) q.last (filter (stays v) q.messages) (rise_filter (stays v) q.last q.messages h.rising));
}

taken-numbered : (n : ℕ) (xid : Option (List ℕ)) (q : QueueState) → IsNumbered q → IsNumbered (taken n xid q)
taken-numbered n None q h = record { last = h.last; rising = rise_filter (λ m. not (eqb m.number n)) q.last q.messages h.rising }
taken-numbered n (Some x) q h = record {
  last = h.last;
  rising = rise_map (going_if n x) (λ m. cond_keeps (λ k. k.number) (eqb m.number n) (record m { status = Going x }) m refl) q.last q.messages h.rising;
}

-- ---- the two tables

pub with_queue-sound : (q : QueueState) (qs : List QueueState) (xs : List XidState) → IsSound qs xs → queue_named q.name qs ≡ None → IsNumbered q → IsSound (with_queue q qs) xs
with_queue-sound q qs xs h none numbered = record {
  names = once_placed (λ r. r.name) (λ r. comes_before q.name r.name) q (with_queue q) refl (λ r rs. refl) qs (all_fail (λ r. same r.name q.name) qs none) h.names;
  xids = h.xids;
  numbers = all_placed (λ r. r.name) (λ r. comes_before q.name r.name) q (with_queue q) refl (λ r rs. refl) IsNumbered qs numbered h.numbers;
}

pub with_xid-sound : (e : XidState) (qs : List QueueState) (xs : List XidState) → IsSound qs xs → xid_named e.xid xs ≡ None → IsSound qs (with_xid e xs)
with_xid-sound e qs xs h none = record {
  names = h.names;
  xids = once_placed (λ f. f.xid) (λ f. comes_before e.xid f.xid) e (with_xid e) refl (λ f fs. refl) xs (all_fail (λ f. same f.xid e.xid) xs none) h.xids;
  numbers = h.numbers;
}

map-sound : (f : QueueState → QueueState) (qs : List QueueState) (xs : List XidState) → ((q : QueueState) → (f q).name ≡ q.name) → ((q : QueueState) → IsNumbered q → IsNumbered (f q))
    → IsSound qs xs → IsSound (map f qs) xs
map-sound f qs xs names numbers h = record {
  names = once_map (λ q. q.name) f names qs h.names;
  xids = h.xids;
  numbers = all_map IsNumbered IsNumbered f numbers qs h.numbers;
}

-- the queues of this name are the one that is found
all_one : (name : List ℕ) (q : QueueState) (qs : List QueueState) → NamesOnce qs → queue_named name qs ≡ Some q → AllByRecursion (λ r. same r.name name ≡ true → r ≡ q) qs
all_one name q [] once e = tt
all_one name q (r ∷ rs) once e = by (same r.name name) refl (all_one name q rs once.1) e
  where
    others : r.name ≡ name → AllByRecursion (λ s. same s.name name ≡ true → s ≡ q) rs
    others is = all_each (λ s. same s.name r.name ≡ false) (λ s. same s.name name ≡ true → s ≡ q) (λ s no_name h. absurd (false≢true (sym no_name ∙ ap (same s.name) is ∙ h))) rs once.0

    by : (b : Bool) → same r.name name ≡ b → (queue_named name rs ≡ Some q → AllByRecursion (λ s. same s.name name ≡ true → s ≡ q) rs) → cond b (Some r) (queue_named name rs) ≡ Some q
        → (same r.name name ≡ true → r ≡ q) × AllByRecursion (λ s. same s.name name ≡ true → s ≡ q) rs
    by true is rest found = (λ h. cc, others ((bytes_decides r.name name).0 is))
    by false is rest found = (λ h. absurd (false≢true (sym is ∙ h)), rest found)

change-sound : (name : List ℕ) (f : QueueState → QueueState) (qs : List QueueState) (xs : List XidState) → ((q : QueueState) → (f q).name ≡ q.name)
    → (P : QueueState → Type 0) → AllByRecursion (λ q. same q.name name ≡ true → P q) qs → ((q : QueueState) → P q → IsNumbered q → IsNumbered (f q))
    → IsSound qs xs → IsSound (change_queue name f qs) xs
change-sound name f qs xs names P known numbers h = record {
  names = once_map (λ q. q.name) (λ q. cond (same q.name name) (f q) q) (λ q. cond_keeps (λ r. r.name) (same q.name name) (f q) q (names q)) qs h.names;
  xids = h.xids;
  numbers = all_map (λ q. (same q.name name ≡ true → P q) × IsNumbered q) IsNumbered (λ q. cond (same q.name name) (f q) q) (λ q k. by q (same q.name name) refl k)
      qs (all_both (λ q. same q.name name ≡ true → P q) IsNumbered (λ q. (same q.name name ≡ true → P q) × IsNumbered q) (λ q k l. (k, l)) qs known h.numbers);
}
  where
    by : (q : QueueState) (b : Bool) → same q.name name ≡ b → (same q.name name ≡ true → P q) × IsNumbered q → IsNumbered (cond b (f q) q)
    by q true is k = numbers q (k.0 is) k.1
    by q false is k = k.1

xids-sound : (qs : List QueueState) (xs ys : List XidState) → XidsOnce ys → IsSound qs xs → IsSound qs ys
xids-sound qs xs ys once h = record { names = h.names; xids = once; numbers = h.numbers }

-- ---- what a command that is not refused may rely on

last_tests : (ts us : List (Bool × Refusal)) → first_true (ts ++ us) ≡ None → first_true us ≡ None
last_tests [] us h = h
last_tests (t ∷ ts) us h = by t.0 (last_tests ts us) h
  where
    by : (b : Bool) → (first_true (ts ++ us) ≡ None → first_true us ≡ None) → cond b (Some t.1) (first_true (ts ++ us)) ≡ None → first_true us ≡ None
    by true rest e = absurd (cc)
    by false rest e = rest e

not_last : (q : QueueState) (b : Bool) → q.last < 2 ^ 62 → eqb q.last (2 ^ 62 - 1) ≡ b → first_true ((b, refusal.Spent) ∷ []) ≡ None → q.last + 1 < 2 ^ 62
not_last q true l e f = absurd (cc)
not_last q false l e f = grind (arith, nat_tests)

has_room : (ts : List (Bool × Refusal)) (o : Option QueueState) → ((q : QueueState) → o ≡ Some q → q.last < 2 ^ 62)
    → first_true ((is_none o, refusal.Queue) ∷ (ts ++ (passes (λ q. eqb q.last (2 ^ 62 - 1)) o, refusal.Spent) ∷ [])) ≡ None → IsSomeAnd o (λ q. q.last + 1 < 2 ^ 62)
has_room ts None lasts h = cc
has_room ts (Some q) lasts h = not_last q (eqb q.last (2 ^ 62 - 1)) (lasts q refl) refl (last_tests ts _ h)

-- the queue of an accepted put can have one more number
pub room : (S : MachineState) (name body : List ℕ) (xid : Option (List ℕ)) → AllByRecursion IsNumbered S.queues → first_true (refusals S (command.Put name body xid)) ≡ None
    → IsSomeAnd (queue_named name S.queues) (λ q. q.last + 1 < 2 ^ 62)
room S name body xid numbers h =
    has_room (by_open S xid) (queue_named name S.queues) (λ q e. (all_found IsNumbered (λ q. same q.name name) S.queues q numbers e).last) h

none_found : {A : Type 0} (r : Refusal) (o : Option A) → first_true ((is_some o, r) ∷ []) ≡ None → o ≡ None
none_found r None h = refl
none_found r (Some x) h = cc

taken_name : (n : ℕ) (xid : Option (List ℕ)) (q : QueueState) → (taken n xid q).name ≡ q.name
taken_name n None q = refl
taken_name n (Some x) q = refl

-- a put to the queue that is found
put-sound : (S : MachineState) (name body : List ℕ) (xid : Option (List ℕ)) (o : Option QueueState) → IsSound S.queues S.xids → queue_named name S.queues ≡ o → IsSomeAnd o (λ q. q.last + 1 < 2 ^ 62)
    → IsSound (change_queue name (with_message (put_message (next_number o) body xid)) S.queues) S.xids
put-sound S name body xid None h found fits = absurd fits
put-sound S name body xid (Some q) h found fits =
    let m = put_message (q.last + 1) body xid in
    change-sound name (with_message m) S.queues S.xids (λ r. refl) (λ r. r ≡ q) (all_one name q S.queues h.names found)
    (λ r is k. record { last = fits; rising = rise_more m r.last r.messages (subst (λ (s : QueueState). s.last < q.last + 1) (sym is) (omega arith)) k.rising }) h

end-sound : (v : List ℕ → Verdict) (t : XidState → Bool) (S : MachineState) → IsSound S.queues S.xids → IsSound (map (decided v) S.queues) (filter t S.xids)
end-sound v t S h =
    xids-sound (map (decided v) S.queues) S.xids (filter t S.xids) (once_filter (λ e. e.xid) t S.xids h.xids) (map-sound (decided v) S.queues S.xids (λ q. refl) (decided-numbered v) h)

pub accepted-sound : (S : MachineState) (c : Command) → IsSound S.queues S.xids → first_true (refusals S c) ≡ None → IsSound (accepted S c).0.queues (accepted S c).0.xids
accepted-sound S (command.Queue name home) h e =
    with_queue-sound (record { name = name; last = 0; messages = [] }) S.queues S.xids h (none_found refusal.Exists (queue_named name S.queues) e) (record { last = lit< tt; rising = tt })
accepted-sound S (command.Drop name) h e = record {
  names = once_filter (λ q. q.name) (λ q. not (same q.name name)) S.queues h.names;
  xids = h.xids;
  numbers = all_filter IsNumbered (λ q. not (same q.name name)) S.queues h.numbers;
}
accepted-sound S (command.Put name body xid) h e = put-sound S name body xid (queue_named name S.queues) h refl (room S name body xid h.numbers e)
accepted-sound S (command.Take name n xid) h e =
    change-sound name (taken n xid) S.queues S.xids (taken_name n xid) (λ q. Unit {0}) (all_each IsNumbered (λ q. same q.name name ≡ true → Unit {0}) (λ q k l. tt) S.queues h.numbers)
    (λ q k. taken-numbered n xid q) h
accepted-sound S (command.Begin x) h e =
    with_xid-sound (record { xid = x; phase = phase.Open }) S.queues S.xids h (none_found refusal.Exists (xid_named x S.xids) e)
accepted-sound S (command.Prepare x) h e =
    xids-sound S.queues S.xids (map (prepared x) S.xids)
    (once_map (λ f. f.xid) (prepared x) (λ f. cond_keeps (λ g. g.xid) (same f.xid x) (record f { phase = phase.Prepared }) f refl) S.xids h.xids) h
accepted-sound S (command.Commit x) h e = end-sound (only x verdict.Commit) (λ f. not (same f.xid x)) S h
accepted-sound S (command.Abort x) h e = end-sound (only x verdict.Abort) (λ f. not (same f.xid x)) S h
accepted-sound S (command.List name) h e = h
accepted-sound S command.Doubt h e = h

pub settle-sound : (S : MachineState) → IsSound S.queues S.xids → IsSound (settle S).queues (settle S).xids
settle-sound S h = end-sound (λ x. verdict_at (xid_named x S.xids)) (λ e. is_prepared e.phase) S h

-- ---- as the program's calls need it

pub step-sound : (S T : MachineState) (c : Command) (r : Result Reply NoMemory) → IsSound S.queues S.xids → first_true (refusals S c) ≡ None
    → IfOk r (λ reply. (T, reply) ≡ accepted S c) → IfErr r (λ _. T.queues ≡ S.queues) → IfErr r (λ _. T.xids ≡ S.xids) → IsSound T.queues T.xids
step-sound S T c (Ok reply) h e ok qs xs =
    let is : T ≡ (accepted S c).0 = ap (λ p. p.0) ok in
    subst (λ (U : MachineState). IsSound U.queues U.xids) (sym is) (accepted-sound S c h e)
step-sound S T c (Err refused) h e ok qs xs = subst (λ us. IsSound us T.xids) (sym qs) (subst (λ ys. IsSound S.queues ys) (sym xs) h)

pub queue_put-sound : (q : QueueState) (qs rs : List QueueState) (xs : List XidState) (r : Result (Unit {0}) NoMemory) → IsSound qs xs → queue_named q.name qs ≡ None → IsNumbered q
    → IfOk r (λ _. rs ≡ with_queue q qs) → IfErr r (λ _. rs ≡ qs) → IsSound rs xs
queue_put-sound q qs rs xs (Ok u) h none fits ok err = subst (λ us. IsSound us xs) (sym ok) (with_queue-sound q qs xs h none fits)
queue_put-sound q qs rs xs (Err refused) h none fits ok err = subst (λ us. IsSound us xs) (sym err) h

pub xid_put-sound : (e : XidState) (qs : List QueueState) (xs ys : List XidState) (r : Result (Unit {0}) NoMemory) → IsSound qs xs → xid_named e.xid xs ≡ None
    → IfOk r (λ _. ys ≡ with_xid e xs) → IfErr r (λ _. ys ≡ xs) → IsSound qs ys
xid_put-sound e qs xs ys (Ok u) h none ok err = subst (λ us. IsSound qs us) (sym ok) (with_xid-sound e qs xs h none)
xid_put-sound e qs xs ys (Err refused) h none ok err = subst (λ us. IsSound qs us) (sym err) h
