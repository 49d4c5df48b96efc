-- Which files are due at the start of a run, and from line to line; so files come into use in order over a whole run.
use Rattle.std.proofs.Common.{◌≡◌, inl, inr, ℕ, ◌≤◌, max, Bool, true, false, cond, ◌&&◌, List, [], ◌∷◌, ◌++◌, map, Option, Some, None, IfSome, refl, sym, ap, ap₂, ◌∙◌, subst, arith}
use Rattle.std.proofs.lemmas.Bool.Decides.{nat_tests}
use Rattle.std.specs.List.{filter, AllByRecursion}
use Rattle.qls_model.specs.Bytes.{same}
use Rattle.qls_model.proofs.XidKeys.{same_true, same_self}
use Rattle.qls_model.specs.Machine.{MachineState, step}
use Rattle.qls_model.specs.declared.machine.PoolId.{PoolId}
use Rattle.qls_model.specs.declared.machine.Reply.{Reply}
use Rattle.qls_model.specs.declared.machine.Command.{Command}
use Rattle.qls_model.specs.declared.machine.Command.TheVariants as command
use Rattle.qls_site.specs.Disk.{Disk, FileState, IdsRise, file_of, full, full_file}
use Rattle.qls_site.specs.Content.{Moment, Content, Tells, moments_since}
use Rattle.qls_site.proofs.Told.{Tells-weaken}
use Rattle.qls_filehdr.specs.declared.FileHeader.{FileHeader}
use Rattle.qls_filehdr.specs.declared.JournalKind.{JournalKind}
use Rattle.qls_filehdr.specs.declared.JournalKind.TheVariants.{Queue, List as Listed}
use Rattle.qls_filehdr.specs.Limits.{is_name}
use Rattle.qls_meaning.specs.Journals.{Headed, headed, is_in_use, in_use, is_of, same_kind}
use Rattle.qls_meaning.specs.History.{History, came_into_use, next, now}
use Rattle.qls_meaning.specs.Orderly.{journal_on}
use Rattle.qls_meaning.specs.Spent.{greatest_epoch}
use Rattle.qls_pool.specs.Files.{IdsDiffer, OnDisk}
use Rattle.qls_pool.specs.Discipline.{TakesInOrder}
use Rattle.qls_pool.specs.Moments.{Chain, Passes, Arrives}
use Rattle.qls_pool.proofs.Moments.{chain_weaken, Passes-of, Arrives-same, Arrives-then}
use Rattle.qls_log.proofs.Splits.{by_number-back}
use Rattle.qls_log.specs.Unwritten.{history_with}
use Rattle.qls_queue.specs.Live.{LiveState}
use Rattle.qls_journals.specs.State.{AllNamed, NamesJournal, queue_held}
use Rattle.qls_journals.specs.Homes.{Home, Homes, TakesFromHome, home_by, homes_on, list_home, queue_home, new_home, with_home, SameHomes}
use Rattle.qls_journals.specs.Moments.{IsStoreStep}
use Rattle.qls_store.specs.Homes.{homes_of, is_accepted, pool_or, home_by as home_after}
use Rattle.qls_store.specs.Stores.{StoreState, state_of, Fits}
use Rattle.qls_store.proofs.Machines.{named_by, queue_step}
use Rattle.qls_top.specs.Answers.{answer_line}
use Rattle.qls_top.specs.Due.{IsDueBy, AreDue, TakesDue}
use Rattle.qls_top.specs.Moments.{IsRunStep}
use Rattle.qls_top.specs.Run.{TakesFilesInOrder, begun_at}
use Rattle.qls_top.specs.Running.{RunsLine, UnderLine, IsUnderLine, homes_by}
use Rattle.qls_top.proofs.Beginning.{Opened}
use Rattle.qls_top.proofs.Chains.{run_of_silent}
use Rattle.qls_top.proofs.Discipline.{with_none, with_next, with_then}
use Rattle.qls_top.proofs.Due.{chain_due, found_all}
use Rattle.qls_top.proofs.LineDiscipline.{since_split, now_after, passes_chain, since_none}
use Rattle.qls_top.proofs.Lines.{same_homes}
use Rattle.qls_top.proofs.Starting.{differ_of}

-- ---- at the start

back_filtered : (test : Headed → Bool) (P : Headed → Type 0) (fs : List Headed) → AllByRecursion P (filter test fs) → AllByRecursion (λ f. test f ≡ true → P f) fs
back_filtered test P [] h = tt
back_filtered test P (f ∷ fs) h =
    elim (test f) as (λ b. test f ≡ b → AllByRecursion P (cond b (f ∷ filter test fs) (filter test fs)) → AllByRecursion (λ g. test g ≡ true → P g) (f ∷ fs)) [
      | true ↦ λ e k. ((λ own. k.0), back_filtered test P fs k.1)
      | false ↦ λ e k. ((λ own. absurd (cc)), back_filtered test P fs k)
    ] refl h

back_used : (P : Headed → Type 0) (d : Disk) → AllByRecursion P (map headed (in_use (full d))) → AllByRecursion (λ g. is_in_use g.place ≡ true → P (headed (full_file g))) d
back_used P [] h = tt
back_used P (g ∷ d) h =
    elim (is_in_use g.place) as (λ b. is_in_use g.place ≡ b → AllByRecursion P (map headed (cond b (full_file g ∷ in_use (full d)) (in_use (full d)))) → AllByRecursion (λ g. is_in_use g.place ≡ true → P (headed (full_file g))) (g ∷ d)) [
      | true ↦ λ e k. ((λ used. k.0), back_used P d k.1)
      | false ↦ λ e k. ((λ used. absurd (cc)), back_used P d k)
    ] refl h

below_max : (m n : ℕ) → (m ≤ max m n) × (n ≤ max m n)
below_max m n = (omega arith, omega arith)

all_below : (fs : List Headed) (most : ℕ) → greatest_epoch fs ≤ most → AllByRecursion (λ f. f.header.epoch ≤ most) fs
all_below [] most le = tt
all_below (f ∷ fs) most le =
    let two = below_max f.header.epoch (greatest_epoch fs) in
    (omega (arith, two.0, le), all_below fs most (omega (arith, two.1, le)))

-- some file of the journal is there, and none has a greater epoch
abbrev IsBelow : List Headed → Headed → Type 0
IsBelow [] f = ⊥
IsBelow (g ∷ gs) f = f.header.epoch ≤ greatest_epoch (g ∷ gs)

all_are_below : (fs : List Headed) → AllByRecursion (IsBelow fs) fs
all_are_below [] = tt
all_are_below (g ∷ gs) = all_below (g ∷ gs) (greatest_epoch (g ∷ gs)) (omega arith)

below_of : (d : Disk) (kind : JournalKind) (name : List ℕ) (id : ℕ) (f : FileState) → file_of id d ≡ Some f → is_in_use f.place ≡ true → is_of kind name (headed (full_file f)) ≡ true
    → IsBelow (journal_on d kind name).files (headed (full_file f))
below_of d kind name id f there used own =
    let files : List Headed = (journal_on d kind name).files in
    found_all (λ g. is_in_use g.place ≡ true → is_of kind name (headed (full_file g)) ≡ true → IsBelow files (headed (full_file g))) id f d
    (back_used (λ g. is_of kind name g ≡ true → IsBelow files g) d
    (back_filtered (is_of kind name) (IsBelow files) (map headed (in_use (full d))) (by_number-back (IsBelow files) (filter (is_of kind name) (map headed (in_use (full d)))) (all_are_below files))))
    there used own

of_own : (kind : JournalKind) (name : List ℕ) → (same_kind kind kind && same name name) ≡ true
of_own Queue name = same_self name
of_own Listed name = same_self name

no_name : (name : List ℕ) → is_name Listed name ≡ true → name ≡ []
no_name [] e = refl
no_name (x ∷ xs) e = absurd (grind (arith, nat_tests))

queue_due : (fs : List Headed) (f : Headed) → IsBelow fs f → IsDueBy false (queue_home fs) f.header.epoch
queue_due [] f b = absurd b
queue_due (g ∷ gs) f b = omega (arith, b)

list_due : (default : PoolId) (fs : List Headed) (f : Headed) → IsBelow fs f → IsDueBy false (Some (list_home default fs)) f.header.epoch
list_due default [] f b = absurd b
list_due default (g ∷ gs) f b = omega (arith, b)

module _ (default : PoolId) (c : Content) where
  due_by : (id : ℕ) (f : FileState) → file_of id c.now.disk ≡ Some f → is_in_use f.place ≡ true → (kind : JournalKind) (name : List ℕ) → (headed (full_file f)).header.kind ≡ kind → (headed (full_file f)).header.name ≡ name
      → is_name kind name ≡ true → IsDueBy false (home_by kind name (homes_on default c.now.disk)) (headed (full_file f)).header.epoch
  due_by id f there used Queue name k n legal =
      queue_due (journal_on c.now.disk Queue name).files (headed (full_file f))
      (below_of c.now.disk Queue name id f there used (ap₂ (λ a b. same_kind Queue a && same name b) k n ∙ of_own Queue name))
  due_by id f there used Listed name k n legal =
      list_due default (journal_on c.now.disk Listed []).files (headed (full_file f))
      (below_of c.now.disk Listed [] id f there used (ap₂ (λ a b. same_kind Listed a && same [] b) k (n ∙ no_name name legal) ∙ of_own Listed []))

  pub due_at_start : AreDue (begun_at c) (homes_on default c.now.disk)
  due_at_start = λ id f there used legal. due_by id f there used (headed (full_file f)).header.kind (headed (full_file f)).header.name refl refl legal

-- ---- while a line is at work

module _ (s : StoreState) (h : History) (named : AllNamed s.journals.queues (now h).disk) (due : AreDue h (homes_of s)) where
  -- a queue goes
  due_dropped : (name : List ℕ) → AreDue h (with_home name None (homes_of s))
  due_dropped name = λ id f there used legal. by (headed (full_file f)).header (came_of f) (due id f there used legal)
    where
      came_of : FileState → Bool
      came_of f = came_into_use f.id false h.start h.since

      by_bool : (b : Bool) (came : Bool) (o : Option Home) (epoch : ℕ) → IsDueBy came o epoch → IsDueBy came (cond b None o) epoch
      by_bool true came o epoch d = tt
      by_bool false came o epoch d = d

      by_kind : (kind : JournalKind) (other : List ℕ) (came : Bool) (epoch : ℕ) → IsDueBy came (home_by kind other (homes_of s)) epoch → IsDueBy came (home_by kind other (with_home name None (homes_of s))) epoch
      by_kind Queue other came epoch d = by_bool (same name other) came ((homes_of s).queue other) epoch d
      by_kind Listed other came epoch d = d

      by : (x : FileHeader) (came : Bool) → IsDueBy came (home_by x.kind x.name (homes_of s)) x.epoch → IsDueBy came (home_by x.kind x.name (with_home name None (homes_of s))) x.epoch
      by x came d = by_kind x.kind x.name came x.epoch d

  -- a queue is made that isn't there
  due_made : (name : List ℕ) (pool : PoolId) → queue_held name s.journals.queues ≡ None → AreDue h (with_home name (Some pool) (homes_of s))
  due_made name pool none = λ id f there used legal. by (headed (full_file f)).header (came_of f) (named id f there used) (due id f there used legal)
    where
      came_of : FileState → Bool
      came_of f = came_into_use f.id false h.start h.since

      no_queue : (other : List ℕ) → same name other ≡ true → (q : LiveState) → queue_held other s.journals.queues ≡ Some q → ⊥
      no_queue other e q there = apart (sym none ∙ ap (λ n. queue_held n s.journals.queues) (same_true name other e) ∙ there)
        where
          apart : None ≡ Some q → ⊥
          apart e = cc

      by_bool : (b : Bool) (came : Bool) (o p : Option Home) (epoch : ℕ) → (b ≡ true → ⊥) → IsDueBy came o epoch → IsDueBy came (cond b p o) epoch
      by_bool true came o p epoch other d = absurd (other refl)
      by_bool false came o p epoch other d = d

      by_kind : (kind : JournalKind) (other : List ℕ) (came : Bool) (epoch : ℕ) → (kind ≡ Queue → (q : LiveState) × (queue_held other s.journals.queues ≡ Some q))
          → IsDueBy came (home_by kind other (homes_of s)) epoch → IsDueBy came (home_by kind other (with_home name (Some pool) (homes_of s))) epoch
      by_kind Queue other came epoch held d = by_bool (same name other) came ((homes_of s).queue other) (Some (new_home pool)) epoch (λ e. no_queue other e (held refl).0 (held refl).1) d
      by_kind Listed other came epoch held d = d

      held_by : (x : FileHeader) → NamesJournal s.journals.queues x → x.kind ≡ Queue → (q : LiveState) × (queue_held x.name s.journals.queues ≡ Some q)
      held_by x (inl n) k = (n.queue, n.there)
      held_by x (inr n) k = absurd (not_both x.kind k n.kind)
        where
          not_both : (kind : JournalKind) → kind ≡ Queue → kind ≡ Listed → ⊥
          not_both kind a b = cc

      by : (x : FileHeader) (came : Bool) → NamesJournal s.journals.queues x → IsDueBy came (home_by x.kind x.name (homes_of s)) x.epoch → IsDueBy came (home_by x.kind x.name (with_home name (Some pool) (homes_of s))) x.epoch
      by x came n d = by_kind x.kind x.name came x.epoch (held_by x n) d

  -- the machine makes no queue that is there
  made_none : (name : List ℕ) (home : Option PoolId) (o : Option LiveState) → queue_held name s.journals.queues ≡ o → is_accepted (step (state_of s) (command.Queue name home)).1 ≡ true → queue_held name s.journals.queues ≡ None
  made_none name home None e accepted = e
  made_none name home (Some q) e accepted =
      absurd (refused (sym accepted ∙ ap (λ (p : MachineState × Reply). is_accepted p.1) (queue_step (state_of s) name home (Some q.queue) (named_by name s.journals (Some q) e))))
    where
      refused : true ≡ false → ⊥
      refused e = cc

  due_command : (c : Command) → is_accepted (step (state_of s) c).1 ≡ true → AreDue h (home_after c (homes_of s))
  due_command (command.Queue name home) accepted = due_made name (pool_or (homes_of s).default home) (made_none name home (queue_held name s.journals.queues) refl accepted)
  due_command (command.Drop name) accepted = due_dropped name
  due_command (command.Put name body xid) accepted = due
  due_command (command.Take name number xid) accepted = due
  due_command (command.Begin x) accepted = due
  due_command (command.Prepare x) accepted = due
  due_command (command.Commit x) accepted = due
  due_command (command.Abort x) accepted = due
  due_command (command.List name) accepted = due
  due_command command.Doubt accepted = due

  due_at_work : (asked : Option Command) → AreDue h (homes_by (state_of s) asked (homes_of s))
  due_at_work None = due
  due_at_work (Some c) = by (is_accepted (step (state_of s) c).1) refl
    where
      by : (b : Bool) → is_accepted (step (state_of s) c).1 ≡ b → AreDue h (cond b (home_after c (homes_of s)) (homes_of s))
      by true e = due_command c e
      by false e = due

-- ---- lines in a row

takes_then : (h : History) (xs ys : List Moment) → TakesInOrder [] h xs → TakesInOrder [] (history_with h xs) ys → TakesInOrder [] h (xs ++ ys)
takes_then h [] ys a b = subst (λ (k : History). TakesInOrder [] k ys) (with_none h) b
takes_then h (m ∷ xs) ys a b = (a.0, takes_then (next h m) xs ys a.1 (subst (λ (k : History). TakesInOrder [] k ys) (sym (with_next h m xs)) b))

-- from the first store to this one files came into use in order, and those in use are due by its homes
pub record TakenSoFar (first s : StoreState) (x y : Content) : Type 0 where
  pub arrives : Arrives IsRunStep x y
  pub takes : TakesDue first x y
  pub due : (h : History) → now h ≡ x.now → AreDue h (homes_of first) → AreDue (history_with h (moments_since x y)) (homes_of s)

taken_at_first : (s : StoreState) (c : Content) → TakenSoFar s s c c
taken_at_first s c =
    let none : [] ≡ moments_since c c = sym (since_none c c refl) in
    record {
      arrives = Arrives-same IsRunStep c c refl;
      takes = λ h at due. subst (λ (ms : List Moment). TakesInOrder [] h ms) none tt;
      due = λ h at due. subst (λ (ms : List Moment). AreDue (history_with h ms) (homes_of s)) none (subst (λ (k : History). AreDue k (homes_of s)) (sym (with_none h)) due);
    }

pub taken_none : (s : StoreState) (a : Option Content) → Tells (TakenSoFar s s) a a
taken_none s None = tt
taken_none s (Some c) = taken_at_first s c

module _ (first was : StoreState) (line : Option Command) where
  abbrev At : Homes
  At = homes_by (state_of was) line (homes_of was)

  line_due : (y z : Content) → Fits was y.now.disk → Passes IsRunStep y z → UnderLine was line y z → (h : History) → now h ≡ y.now → AreDue h (homes_of was)
      → TakesInOrder [] h (moments_since y z) × AreDue (history_with h (moments_since y z)) At
  line_due y z fits went under h at due =
      chain_due At h.start h.since (moments_since y z) (subst (λ (m : Moment). IdsDiffer m.disk) (sym at) fits.pool.0)
      (due_at_work was h (subst (λ (m : Moment). AllNamed was.journals.queues m.disk) (sym at) fits.own) due line)
      (subst (λ (m : Moment). Chain IsRunStep m (moments_since y z)) (sym at) (passes_chain IsRunStep y z went))
      (subst (λ (m : Moment). Chain (TakesFromHome At) m (moments_since y z)) (sym at)
      (chain_weaken (IsUnderLine At (is_accepted (answer_line (state_of was) line).1) y.now.answered) (TakesFromHome At) (λ m n u. u.pools) y.now (moments_since y z) under))

  takes_on : (x y z : Content) → TakenSoFar first was x y → Fits was y.now.disk → Passes IsRunStep y z → UnderLine was line y z → TakesDue first x z
  takes_on x y z so fits went under = λ h at due.
      let xs : List Moment = moments_since x y in
      subst (λ (ms : List Moment). TakesInOrder [] h ms) (sym (since_split IsRunStep IsRunStep x y z so.arrives went))
      (takes_then h xs (moments_since y z) (so.takes h at due) (line_due y z fits went under (history_with h xs) (now_after IsRunStep x y h so.arrives at) (so.due h at due)).0)

  taken_on : (s : StoreState) (x y z : Content) → SameHomes (homes_of s) At → TakenSoFar first was x y → Fits was y.now.disk → Arrives IsRunStep y z → UnderLine was line y z → TakenSoFar first s x z
  taken_on s x y z homes so fits went under =
      let k : Passes IsRunStep y z = Passes-of IsRunStep y z went in
      let xs : List Moment = moments_since x y in
      record {
        arrives = Arrives-then IsRunStep x y z so.arrives went;
        takes = takes_on x y z so fits k under;
        due = λ h at due.
            subst (λ (ms : List Moment). AreDue (history_with h ms) (homes_of s)) (sym (since_split IsRunStep IsRunStep x y z so.arrives k))
            (subst (λ (i : History). AreDue i (homes_of s)) (with_then h xs (moments_since y z))
            (subst (λ (f : Homes). AreDue (history_with (history_with h xs) (moments_since y z)) f) (sym (same_homes (homes_of s) At homes))
            (line_due y z fits k under (history_with h xs) (now_after IsRunStep x y h so.arrives at) (so.due h at due)).1));
      }

  pub line_takes : (a b c : Option Content) → Tells (TakenSoFar first was) a b → IfSome b (OnDisk (Fits was)) → Tells (Passes IsRunStep) b c → Tells (UnderLine was line) b c → Tells (TakesDue first) a c
  line_takes None None None so fits went under = tt
  line_takes None None (Some z) so fits went under = absurd went
  line_takes None (Some y) c so fits went under = absurd so
  line_takes (Some x) None c so fits went under = absurd so
  line_takes (Some x) (Some y) None so fits went under = absurd went
  line_takes (Some x) (Some y) (Some z) so fits went under = takes_on x y z so fits went under

  pub line_taken : (s : StoreState) (a b c : Option Content) → SameHomes (homes_of s) At → Tells (TakenSoFar first was) a b → IfSome b (OnDisk (Fits was)) → Tells (RunsLine was line s) b c → Tells (UnderLine was line) b c
      → Tells (TakenSoFar first s) a c
  line_taken s None None None homes so fits ran under = tt
  line_taken s None None (Some z) homes so fits ran under = absurd ran
  line_taken s None (Some y) c homes so fits ran under = absurd so
  line_taken s (Some x) None c homes so fits ran under = absurd so
  line_taken s (Some x) (Some y) None homes so fits ran under = absurd ran
  line_taken s (Some x) (Some y) (Some z) homes so fits ran under = taken_on s x y z homes so fits ran.arrives under

pub taken_takes : (first s : StoreState) (a b : Option Content) → Tells (TakenSoFar first s) a b → Tells (TakesDue first) a b
taken_takes first s a b h = Tells-weaken (TakenSoFar first s) (TakesDue first) a b h (λ x y k. k.takes)

-- ---- a run

abbrev OpensFrom : PoolId → Content → Content → Type 0
OpensFrom home x y = Passes (TakesFromHome (homes_on home x.now.disk)) x y

opening_due : (home : PoolId) (x y : Content) → IdsDiffer x.now.disk → Passes IsStoreStep x y → OpensFrom home x y
    → TakesFilesInOrder x y × AreDue (history_with (begun_at x) (moments_since x y)) (homes_on home x.now.disk)
opening_due home x y differ went from =
    chain_due (homes_on home x.now.disk) x.now [] (moments_since x y) differ (due_at_start home x)
    (chain_weaken IsStoreStep IsRunStep run_of_silent x.now (moments_since x y) (passes_chain IsStoreStep x y went)) (passes_chain (TakesFromHome (homes_on home x.now.disk)) x y from)

-- the opening ended it
pub opening_in_order : (home : PoolId) (a b : Option Content) → IfSome a (λ c. IdsRise (full c.now.disk)) → Tells (Passes IsStoreStep) a b → Tells (OpensFrom home) a b → Tells TakesFilesInOrder a b
opening_in_order home None None rise went from = tt
opening_in_order home None (Some y) rise went from = absurd went
opening_in_order home (Some x) None rise went from = absurd went
opening_in_order home (Some x) (Some y) rise went from = (opening_due home x y (differ_of (full x.now.disk) rise) went from).0

-- the lines followed
run_from_opening : (home : PoolId) (s : StoreState) (x y z : Content) → IdsDiffer x.now.disk → Opened home s x y → OpensFrom home x y → Passes IsRunStep y z → TakesDue s y z → TakesFilesInOrder x z
run_from_opening home s x y z differ o from went takes =
    let one = opening_due home x y differ (Passes-of IsStoreStep x y o.opens.arrives) from in
    let h : History = begun_at x in
    let xs : List Moment = moments_since x y in
    subst (λ (ms : List Moment). TakesInOrder [] h ms) (sym (since_split IsStoreStep IsRunStep x y z o.opens.arrives went))
    (takes_then h xs (moments_since y z) one.0
    (takes (history_with h xs) (now_after IsStoreStep x y h o.opens.arrives refl) (subst (λ (f : Homes). AreDue (history_with h xs) f) (sym o.homes) one.1)))

pub lines_in_order : (home : PoolId) (s : StoreState) (a b c : Option Content) → IfSome a (λ c. IdsRise (full c.now.disk)) → Tells (Opened home s) a b → Tells (OpensFrom home) a b → Tells (Passes IsRunStep) b c → Tells (TakesDue s) b c
    → Tells TakesFilesInOrder a c
lines_in_order home s None None None rise o from went takes = tt
lines_in_order home s None None (Some z) rise o from went takes = absurd went
lines_in_order home s None (Some y) c rise o from went takes = absurd o
lines_in_order home s (Some x) None c rise o from went takes = absurd o
lines_in_order home s (Some x) (Some y) None rise o from went takes = absurd went
lines_in_order home s (Some x) (Some y) (Some z) rise o from went takes = run_from_opening home s x y z (differ_of (full x.now.disk) rise) o from went takes
