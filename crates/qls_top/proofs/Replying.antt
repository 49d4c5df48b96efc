-- What the disk holds at each reply: line by line, and over a whole run.
use Rattle.std.proofs.Common.{◌≡◌, inl, inr, ℕ, true, List, [], ◌∷◌, ◌++◌, Option, Some, None, Ok, refl, sym, ap, ◌∙◌, subst, append_assoc, append-nil}
use Rattle.qls_model.specs.declared.machine.PoolId.{PoolId}
use Rattle.qls_model.specs.declared.machine.Command.{Command}
use Rattle.qls_model.specs.Machine.{MachineState}
use Rattle.qls_site.specs.Disk.{IsQuiet, full}
use Rattle.qls_site.specs.Content.{Content, Moment, Tells, moments_since, on_answered}
use Rattle.qls_meaning.specs.History.{AllUnmarked}
use Rattle.qls_meaning.specs.Meaning.{meaning}
use Rattle.qls_command.specs.Lines.{lines, commands, command_of}
use Rattle.qls_model.specs.declared.machine.Reply.{Reply}
use Rattle.qls_command.specs.Texts.{reply_text}
use Rattle.qls_top.specs.Answers.{answer_line, state_answered, answers_text}
use Rattle.qls_top.specs.Cutting.{Cutter, kept_of_line, CutsTold, Counted}
use Rattle.qls_pool.specs.Moments.{Chain, Passes, Arrives}
use Rattle.qls_store.specs.Stores.{StoreState, state_of, IsStore, IsClean}
use Rattle.qls_journals.specs.Moments.{IsStoreStep}
use Rattle.qls_top.specs.Moments.{AddsAnswer, AtReplies, IsRunStep, UnmarkedSince}
use Rattle.qls_top.specs.Held.{IsHeld}
use Rattle.qls_top.specs.Running.{RepliesLine}
use Rattle.qls_top.specs.Run.{IsUnderWay, UnderWay, StaysClean, IsReplied, RepliesIn, RepliesFrom, RepliesStored, RepliesClean}
use Rattle.qls_pool.proofs.Moments.{chain-append, chain_weaken, Arrives-same, Passes-of, since_is, since_of, since_then}
use Rattle.qls_top.proofs.Chains.{answers_nothing, unmarked_front, unmarked_parts}
use Rattle.qls_top.proofs.Holding.{MeansItsState}
use Rattle.qls_top.proofs.Discipline.{Silent}
use Rattle.qls_top.proofs.LineDiscipline.{chain_then, silent_chain}
use Rattle.qls_top.proofs.Lines.{Commanded, Quieted, answers_append, state_append, cut_split}
use Rattle.qls_top.proofs.Beginning.{Opened}
use Rattle.qls_top.proofs.Starting.{one_meaning}

-- ---- a line

-- while a command is at work nothing is answered
silent_replies : (P : Moment → Type 0) (m : Moment) (ms : List Moment) → Chain IsStoreStep m ms → Chain (AtReplies P) m ms
silent_replies P m ms h = chain_weaken IsStoreStep (AtReplies P) (λ m n s. inl s.answered) m ms h

silent_in : (was : StoreState) (line : Option Command) (x y : Content) → Passes IsStoreStep x y → RepliesLine was line x y
silent_in was line x y h = λ quiet unmarked clean.
    subst (λ (ms : List Moment). Chain (AtReplies (λ n. (n.answered ≡ x.now.answered ++ reply_text (answer_line (state_of was) line).1) × IsHeld (answer_line (state_of was) line).0 n.disk)) x.now ms)
    (sym (since_is IsStoreStep x y h)) (silent_replies _ x.now h.since h.chain)

pub told_silent : (was : StoreState) (line : Option Command) (a b : Option Content) → Tells (Passes IsStoreStep) a b → Tells (RepliesLine was line) a b
told_silent was line None None h = tt
told_silent was line None (Some y) h = absurd h
told_silent was line (Some x) None h = absurd h
told_silent was line (Some x) (Some y) h = silent_in was line x y h

-- the moments of an answer
answer_chain : (P : Moment → Type 0) (bytes : List ℕ) (mid new : Content) → AddsAnswer bytes mid new → P (on_answered bytes mid.now) → Chain (AtReplies P) mid.now (moments_since mid new)
answer_chain P bytes mid new (inl e) p = subst (λ (ms : List Moment). Chain (AtReplies P) mid.now ms) (sym e) tt
answer_chain P bytes mid new (inr (inl e)) p = subst (λ (ms : List Moment). Chain (AtReplies P) mid.now ms) (sym e) (inr p, tt)
answer_chain P bytes mid new (inr (inr e)) p = subst (λ (ms : List Moment). Chain (AtReplies P) mid.now ms) (sym e) (inl refl, (inr p, tt))

module _ (was s : StoreState) (line : Option Command) (answer : Reply) (means : MeansItsState) (store : IsStore s) (stepped : (state_of s, answer) ≡ answer_line (state_of was) line) where
  abbrev after : MachineState × Reply
  after = answer_line (state_of was) line

  abbrev Says : Content → Moment → Type 0
  Says old n = (n.answered ≡ old.now.answered ++ reply_text after.1) × IsHeld after.0 n.disk

  replied_in : (old mid new : Content) → Commanded was line s old mid → Passes IsRunStep mid new → AddsAnswer (reply_text answer) mid new → RepliesLine was line old new
  replied_in old mid new r k adds = λ quiet unmarked clean.
      let xs : List Moment = r.arrives.since in
      let ys : List Moment = moments_since mid new in
      let split : moments_since old new ≡ xs ++ ys = since_then IsStoreStep IsRunStep old mid new (Passes-of IsStoreStep old mid r.arrives) k ∙ ap (λ (ms : List Moment). xs ++ ms) (sym (since_is IsRunStep mid new k)) in
      let begun : IsClean s mid.now.disk = r.clean (unmarked_front old.now xs ys (subst (AllUnmarked old.now) split unmarked)) clean in
      let here : IsHeld after.0 mid.now.disk = subst (λ (S : MachineState). IsHeld S mid.now.disk) (ap (λ p. p.0) stepped) (means s mid.now.disk store r.fits begun (r.quiet quiet)) in
      let said : mid.now.answered ++ reply_text answer ≡ old.now.answered ++ reply_text after.1 =
      ap (λ (b : List ℕ). b ++ reply_text answer) (answers_nothing old mid r.arrives) ∙ ap (λ p. old.now.answered ++ reply_text p.1) stepped in
      subst (λ (ms : List Moment). Chain (AtReplies (Says old)) old.now ms) (sym split)
      (chain-append (AtReplies (Says old)) old.now xs ys (silent_replies (Says old) old.now xs r.arrives.chain)
      (subst (λ (m : Moment). Chain (AtReplies (Says old)) m ys) r.arrives.last (answer_chain (Says old) (reply_text answer) mid new adds (said, here))))

  pub told_replied : (a b c : Option Content) → Tells (Commanded was line s) a b → Tells (Passes IsRunStep) b c → Tells (AddsAnswer (reply_text answer)) b c → Tells (RepliesLine was line) a c
  told_replied None None None r k adds = tt
  told_replied None None (Some z) r k adds = absurd k
  told_replied None (Some y) c r k adds = absurd r
  told_replied (Some x) None c r k adds = absurd r
  told_replied (Some x) (Some y) None r k adds = absurd k
  told_replied (Some x) (Some y) (Some z) r k adds = replied_in x y z r k adds

-- ---- a run, line after line

pub replies_none : (s : StoreState) (a : Option Content) (script : Option (List ℕ)) → RepliesClean s a a script
replies_none s None script = tt
replies_none s (Some c) None = tt
replies_none s (Some c) (Some script) = λ quiet unmarked clean.
    subst (λ (ms : List Moment). Chain (AtReplies (IsReplied (state_of s) script c.now.answered)) c.now ms) (sym (since_of IsRunStep c c (Arrives-same IsRunStep c c refl))) tt

-- what a line's answer says is what a run's reply says
reply_of : (first : StoreState) (script before rest line kept : List ℕ) (was : StoreState) (old mid : Content) (n : Moment) → lines before ≡ line ∷ lines rest → kept ≡ kept_of_line line
    → IsUnderWay first script before was old mid → n.answered ≡ mid.now.answered ++ reply_text (answer_line (state_of was) (command_of kept)).1
    → IsHeld (answer_line (state_of was) (command_of kept)).0 n.disk → IsReplied (state_of first) script old.now.answered n
reply_of first script before rest line kept was old mid n cut is u said holds =
    let c : Option Command = command_of kept in
    let S : MachineState = state_of first in
    let step : answer_line (state_of was) c ≡ answer_line (state_answered S u.done) c = ap (λ (T : MachineState). answer_line T c) u.state in
    let text : List ℕ = reply_text (answer_line (state_answered S u.done) c).1 in
    record {
      done = u.done ++ c ∷ [];
      rest = commands rest;
      split = cut_split script before rest line kept u.done u.split cut is ∙ sym (append_assoc u.done (c ∷ []) (commands rest));
      answered =
          said ∙ ap (λ p. mid.now.answered ++ reply_text p.1) step ∙ ap (λ (a : List ℕ). a ++ text) u.answered
          ∙ append_assoc old.now.answered (answers_text S u.done) text
          ∙ ap (λ (a : List ℕ). old.now.answered ++ a) (ap (λ (a : List ℕ). answers_text S u.done ++ a) (sym (append-nil text)) ∙ sym (answers_append S u.done (c ∷ [])));
      stored =
          subst (λ (T : MachineState). IsHeld T n.disk) (ap (λ p. p.0) step ∙ sym (state_append S u.done (c ∷ []))) holds;
    }

pub at_replies : (P Q : Moment → Type 0) → ((n : Moment) → P n → Q n) → (m n : Moment) → AtReplies P m n → AtReplies Q m n
at_replies P Q f m n (inl e) = inl e
at_replies P Q f m n (inr p) = inr (f n p)

module _ (first was : StoreState) (script before rest line kept : List ℕ) (cut : lines before ≡ line ∷ lines rest) (is : kept ≡ kept_of_line line) where
  abbrev Said : Content → Moment → Type 0
  Said y n = (n.answered ≡ y.now.answered ++ reply_text (answer_line (state_of was) (command_of kept)).1) × IsHeld (answer_line (state_of was) (command_of kept)).0 n.disk

  replies_in : (x y z : Content) → IsUnderWay first script before was x y → Arrives IsRunStep x y → Quieted x y → StaysClean first was x y
      → (IsQuiet x.now.disk → UnmarkedSince x y → IsClean first x.now.disk → RepliesIn (state_of first) script x y) → Passes IsRunStep y z → RepliesLine was (command_of kept) y z
      → IsQuiet x.now.disk → UnmarkedSince x z → IsClean first x.now.disk → RepliesIn (state_of first) script x z
  replies_in x y z u h q clean so_far k l = λ quiet unmarked begun.
      let P : Moment → Type 0 = IsReplied (state_of first) script x.now.answered in
      let xs : List Moment = h.since in
      let ys : List Moment = k.since in
      let split : moments_since x z ≡ xs ++ ys = since_then IsRunStep IsRunStep x y z (Passes-of IsRunStep x y h) k in
      let parts = unmarked_parts IsRunStep IsRunStep x y z h k unmarked in
      let said = subst (λ (ms : List Moment). Chain (AtReplies (Said y)) y.now ms) (since_is IsRunStep y z k) (l (q.1 quiet) parts.1 (clean parts.0 begun)) in
      subst (λ (ms : List Moment). Chain (AtReplies P) x.now ms) (sym split)
      (chain-append (AtReplies P) x.now xs ys (subst (λ (ms : List Moment). Chain (AtReplies P) x.now ms) (since_of IsRunStep x y h) (so_far quiet parts.0 begun))
      (subst (λ (m : Moment). Chain (AtReplies P) m ys) h.last
      (chain_weaken (AtReplies (Said y)) (AtReplies P)
      (at_replies (Said y) P (λ n p. reply_of first script before rest line kept was x y n cut is u p.0 p.1)) y.now ys said)))

pub line_replies : (first was : StoreState) (old mid new : Option Content) (script left rest : Option (List ℕ)) (a b : Cutter) (kept : List ℕ) (limit : ℕ)
    → UnderWay first old mid script a.waiting left was → Counted limit script a.budget left (Ok true) → CutsTold a left b rest kept true → Tells (Arrives IsRunStep) old mid → Tells Quieted old mid
    → Tells (StaysClean first was) old mid → RepliesClean first old mid script → Tells (Passes IsRunStep) mid new → Tells (RepliesLine was (command_of kept)) mid new → RepliesClean first old new script
line_replies first was None mid new script left rest a b kept limit u counted cut h q clean so_far k l = tt
line_replies first was (Some x) mid None script left rest a b kept limit u counted cut h q clean so_far k l = tt
line_replies first was (Some x) mid (Some z) None left rest a b kept limit u counted cut h q clean so_far k l = tt
line_replies first was (Some x) None (Some z) (Some script) left rest a b kept limit u counted cut h q clean so_far k l = absurd h
line_replies first was (Some x) (Some y) (Some z) (Some script) None rest a b kept limit u counted cut h q clean so_far k l = absurd counted
line_replies first was (Some x) (Some y) (Some z) (Some script) (Some l) None a b kept limit u counted cut h q clean so_far k r = absurd cut
line_replies first was (Some x) (Some y) (Some z) (Some script) (Some l) (Some m) a b kept limit u counted cut h q clean so_far k r =
    replies_in first was script (a.waiting ++ l) (b.waiting ++ m) cut.0 kept cut.1 cut.2 x y z u h q clean so_far k r

-- ---- a run from its first call

replies_from : (home : PoolId) (s : StoreState) (script : List ℕ) (x y z : Content) → Opened home s x y → Passes IsRunStep y z → (IsQuiet y.now.disk → UnmarkedSince y z → IsClean s y.now.disk → RepliesIn (state_of s) script y z)
    → UnmarkedSince x z → RepliesIn (state_of s) script x z
replies_from home s script x y z o k so_far = λ unmarked.
    let P : Moment → Type 0 = IsReplied (state_of s) script x.now.answered in
    let arrives : Arrives IsStoreStep x y = o.opens.arrives in
    let parts = unmarked_parts IsStoreStep IsRunStep x y z arrives k unmarked in
    let said : Chain (AtReplies P) y.now (moments_since y z) =
    subst (λ (a : List ℕ). Chain (AtReplies (IsReplied (state_of s) script a)) y.now (moments_since y z)) (answers_nothing x y arrives) (so_far o.opens.quiet parts.1 (o.opens.clean parts.0)) in
    chain_then (AtReplies P) IsStoreStep IsRunStep x y z arrives k (chain_weaken Silent (AtReplies P) (λ m n e. inl e) x.now (moments_since x y) (silent_chain x y (Passes-of IsStoreStep x y arrives))) said

replies_since : (home : PoolId) (s : StoreState) (x y : Content) (c : Option Content) (script : Option (List ℕ)) → Opened home s x y → Tells (Passes IsRunStep) (Some y) c → RepliesClean s (Some y) c script → RepliesFrom (state_of s) (Some x) c script
replies_since home s x y None script o k r = tt
replies_since home s x y (Some z) None o k r = tt
replies_since home s x y (Some z) (Some script) o k r = λ quiet. replies_from home s script x y z o k r

pub run_replies : (home : PoolId) (s : StoreState) (a b c : Option Content) (script : Option (List ℕ)) → Tells (Opened home s) a b → Tells (Passes IsRunStep) b c → RepliesClean s b c script → RepliesStored a c script
run_replies home s None b c script h k r = tt
run_replies home s (Some x) None c script h k r = absurd h
run_replies home s (Some x) (Some y) c script h k r = λ S is.
    subst (λ (T : MachineState). RepliesFrom T (Some x) c script) (one_meaning (meaning (full x.now.disk)) (state_of s) S h.means is) (replies_since home s x y c script h k r)

-- the store couldn't be opened
opening_replies_in : (S : MachineState) (script : List ℕ) (x y : Content) → Passes IsStoreStep x y → RepliesIn S script x y
opening_replies_in S script x y h =
    let P : Moment → Type 0 = IsReplied S script x.now.answered in
    chain_weaken Silent (AtReplies P) (λ m n e. inl e) x.now (moments_since x y) (silent_chain x y h)

pub opening_replies : (a b : Option Content) (script : Option (List ℕ)) → Tells (Passes IsStoreStep) a b → RepliesStored a b script
opening_replies None b script h = tt
opening_replies (Some x) None script h = absurd h
opening_replies (Some x) (Some y) None h = λ S is. tt
opening_replies (Some x) (Some y) (Some script) h = λ S is quiet unmarked. opening_replies_in S script x y h
