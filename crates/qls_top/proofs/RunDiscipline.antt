-- A run, line after line: what files do from each moment to the next, and what is answered when.
use Rattle.std.proofs.Common.{◌≡◌, List, [], Option, Some, None, Result, Ok, refl, sym, subst}
use Rattle.qls_model.specs.declared.machine.Command.{Command}
use Rattle.qls_site.specs.Content.{Moment, Content, Tells, moments_since}
use Rattle.qls_site.proofs.Told.{Tells-then, Tells-weaken}
use Rattle.qls_meaning.specs.History.{History, AllUnmarked, now}
use Rattle.qls_pool.specs.Moments.{Chain, Passes, Arrives}
use Rattle.qls_pool.proofs.Moments.{since_of, Passes-of, Arrives-then, Arrives-same}
use Rattle.qls_log.specs.Leaving.{LeavesInOrder, WritesInOrder}
use Rattle.qls_log.specs.Unwritten.{history_with}
use Rattle.qls_store.specs.Stores.{StoreState}
use Rattle.qls_journals.specs.Moments.{AreWritten, StaysQuiet}
use Rattle.qls_top.specs.declared.fault.Fault.{Fault}
use Rattle.qls_top.specs.Moments.{IsRunStep, UnmarkedSince}
use Rattle.qls_top.specs.Running.{RunsLine, WritesLine, LeavesLine, AnswersLine, AnswersInOrder}
use Rattle.qls_top.specs.Run.{StaysClean, WritesClean, LeavesClean, AnswersClean}
use Rattle.qls_top.proofs.Chains.{unmarked_parts}
use Rattle.qls_top.proofs.Discipline.{with_none, with_then, writes_then, answers_then}
use Rattle.qls_top.proofs.LineDiscipline.{since_none, since_split, now_after, chain_then}

-- ---- so far

-- where the files of the first store were written, those of this one are
abbrev pub KeepsWritten : StoreState → StoreState → Content → Content → Type 0
KeepsWritten first s x y = (h : History) → now h ≡ x.now → AreWritten [] h first.journals → AreWritten [] (history_with h (moments_since x y)) s.journals

pub record KeptSoFar (first s : StoreState) (x y : Content) : Type 0 where
  pub arrives : Arrives IsRunStep x y
  pub quiet : StaysQuiet x y
  pub clean : StaysClean first s x y
  pub written : KeepsWritten first s x y
  pub writes : WritesClean first x y
  pub leaves : LeavesClean first x y
  pub answers : AnswersClean first x y

kept_at_first : (s : StoreState) (c : Content) → KeptSoFar s s c c
kept_at_first s c =
    let none : [] ≡ moments_since c c = sym (since_none c c refl) in
    record {
      arrives = Arrives-same IsRunStep c c refl;
      quiet = λ q. q;
      clean = λ unmarked clean. clean;
      written = λ h at written. subst (λ (ms : List Moment). AreWritten [] (history_with h ms) s.journals) none (subst (λ (k : History). AreWritten [] k s.journals) (sym (with_none h)) written);
      writes = λ h at written. subst (λ (ms : List Moment). WritesInOrder [] h ms) none tt;
      leaves = λ quiet unmarked clean. subst (λ (ms : List Moment). Chain LeavesInOrder c.now ms) none tt;
      answers = λ h at written quiet unmarked clean. subst (λ (ms : List Moment). AnswersInOrder h ms) none tt;
    }

pub kept_none : (s : StoreState) (a : Option Content) → Tells (KeptSoFar s s) a a
kept_none s None = tt
kept_none s (Some c) = kept_at_first s c

both : (Q : Content → Content → Type 0) (a b : Option Content) → Tells (Passes IsRunStep) a b → Tells Q a b → Tells (λ x y. Passes IsRunStep x y × Q x y) a b
both Q None None p q = tt
both Q None (Some y) p q = absurd p
both Q (Some x) None p q = absurd p
both Q (Some x) (Some y) p q = (p, q)

-- ---- one more line, whatever it answers

module _ (first was : StoreState) where
  writes_on : (r : Result StoreState Fault) (x y z : Content) → KeptSoFar first was x y → Passes IsRunStep y z → WritesLine r was y z → WritesClean first x z
  writes_on r x y z h k w = λ j at written.
      let xs : List Moment = moments_since x y in
      let ys : List Moment = moments_since y z in
      subst (λ (ms : List Moment). WritesInOrder [] j ms) (sym (since_split IsRunStep IsRunStep x y z h.arrives k))
      (writes_then [] j xs ys (h.writes j at written) (w (history_with j xs) (now_after IsRunStep x y j h.arrives at) (h.written j at written)).0)

  leaves_on : (x y z : Content) → KeptSoFar first was x y → Passes IsRunStep y z → LeavesLine was y z → LeavesClean first x z
  leaves_on x y z h k l = λ quiet unmarked begun.
      let parts : UnmarkedSince x y × UnmarkedSince y z = unmarked_parts IsRunStep IsRunStep x y z h.arrives k unmarked in
      chain_then LeavesInOrder IsRunStep IsRunStep x y z h.arrives k (h.leaves quiet parts.0 begun) (l (h.quiet quiet) parts.1 (h.clean parts.0 begun))

  answers_on : (x y z : Content) → KeptSoFar first was x y → Passes IsRunStep y z → AnswersLine was y z → AnswersClean first x z
  answers_on x y z h k l = λ j at written quiet unmarked begun.
      let xs : List Moment = moments_since x y in
      let ys : List Moment = moments_since y z in
      let parts : UnmarkedSince x y × UnmarkedSince y z = unmarked_parts IsRunStep IsRunStep x y z h.arrives k unmarked in
      subst (λ (ms : List Moment). AnswersInOrder j ms) (sym (since_split IsRunStep IsRunStep x y z h.arrives k))
      (answers_then j xs ys (h.answers j at written quiet parts.0 begun)
      (l (history_with j xs) (now_after IsRunStep x y j h.arrives at) (h.written j at written) (h.quiet quiet) parts.1 (h.clean parts.0 begun)))

  -- the line failed
  module _ (a b c : Option Content) (h : Tells (KeptSoFar first was) a b) (k : Tells (Passes IsRunStep) b c) where
    pub fails_writing : (r : Result StoreState Fault) → Tells (WritesLine r was) b c → Tells (WritesClean first) a c
    fails_writing r w = Tells-then (KeptSoFar first was) (λ y z. Passes IsRunStep y z × WritesLine r was y z) (WritesClean first) a b c h (both (WritesLine r was) b c k w) (λ x y z p q. writes_on r x y z p q.0 q.1)

    pub fails_leaving : Tells (LeavesLine was) b c → Tells (LeavesClean first) a c
    fails_leaving l = Tells-then (KeptSoFar first was) (λ y z. Passes IsRunStep y z × LeavesLine was y z) (LeavesClean first) a b c h (both (LeavesLine was) b c k l) (λ x y z p q. leaves_on x y z p q.0 q.1)

    pub fails_answering : Tells (AnswersLine was) b c → Tells (AnswersClean first) a c
    fails_answering l = Tells-then (KeptSoFar first was) (λ y z. Passes IsRunStep y z × AnswersLine was y z) (AnswersClean first) a b c h (both (AnswersLine was) b c k l) (λ x y z p q. answers_on x y z p q.0 q.1)

  -- the line was answered
  kept_on : (s : StoreState) (line : Option Command) (x y z : Content) → KeptSoFar first was x y → RunsLine was line s y z → WritesLine (Ok s) was y z → LeavesLine was y z → AnswersLine was y z → KeptSoFar first s x z
  kept_on s line x y z h r w l n =
      let k : Passes IsRunStep y z = Passes-of IsRunStep y z r.arrives in
      let xs : List Moment = moments_since x y in
      let ys : List Moment = moments_since y z in
      record {
        arrives = Arrives-then IsRunStep x y z h.arrives r.arrives;
        quiet = λ q. r.quiet (h.quiet q);
        clean = λ unmarked begun.
            let parts : UnmarkedSince x y × UnmarkedSince y z = unmarked_parts IsRunStep IsRunStep x y z h.arrives k unmarked in
            r.clean (subst (AllUnmarked y.now) (since_of IsRunStep y z r.arrives) parts.1) (h.clean parts.0 begun);
        written = λ j at written.
            subst (λ (ms : List Moment). AreWritten [] (history_with j ms) s.journals) (sym (since_split IsRunStep IsRunStep x y z h.arrives k))
            (subst (λ (i : History). AreWritten [] i s.journals) (with_then j xs ys) (w (history_with j xs) (now_after IsRunStep x y j h.arrives at) (h.written j at written)).1);
        writes = writes_on (Ok s) x y z h k w;
        leaves = leaves_on x y z h k l;
        answers = answers_on x y z h k n;
      }

  pub line_kept : (s : StoreState) (line : Option Command) (a b c : Option Content) → Tells (KeptSoFar first was) a b → Tells (RunsLine was line s) b c → Tells (WritesLine (Ok s) was) b c → Tells (LeavesLine was) b c → Tells (AnswersLine was) b c
      → Tells (KeptSoFar first s) a c
  line_kept s line None None None h r w l n = tt
  line_kept s line None None (Some z) h r w l n = absurd r
  line_kept s line None (Some y) c h r w l n = absurd h
  line_kept s line (Some x) None c h r w l n = absurd h
  line_kept s line (Some x) (Some y) None h r w l n = absurd r
  line_kept s line (Some x) (Some y) (Some z) h r w l n = kept_on s line x y z h r w l n

  -- the end
  pub kept_writes : (a b : Option Content) → Tells (KeptSoFar first was) a b → Tells (WritesClean first) a b
  kept_writes a b h = Tells-weaken (KeptSoFar first was) (WritesClean first) a b h (λ x y k. k.writes)

  pub kept_leaves : (a b : Option Content) → Tells (KeptSoFar first was) a b → Tells (LeavesClean first) a b
  kept_leaves a b h = Tells-weaken (KeptSoFar first was) (LeavesClean first) a b h (λ x y k. k.leaves)

  pub kept_answers : (a b : Option Content) → Tells (KeptSoFar first was) a b → Tells (AnswersClean first) a b
  kept_answers a b h = Tells-weaken (KeptSoFar first was) (AnswersClean first) a b h (λ x y k. k.answers)
