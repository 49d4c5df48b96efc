-- A line that is run and answered, and a script that is run line by line.
use Rattle.std.proofs.Common.{◌≡◌, inl, inr, ℕ, Bool, true, false, cond, leb, ◌<◌, List, [], ◌∷◌, ◌++◌, map, length, take, Option, Some, None, IfSome, Result, Ok, Err, refl, sym, ap, ◌∙◌, subst, arith, append_assoc, append-nil, length-take}
use Rattle.std.proofs.lemmas.Bool.{leb-true}
use Rattle.std.proofs.lemmas.List.{take_all}
use Rattle.qls_model.specs.declared.machine.Command.{Command}
use Rattle.qls_model.specs.Machine.{MachineState}
use Rattle.qls_site.specs.declared.site.SiteError.{SiteError}
use Rattle.qls_site.specs.declared.site.SiteError.TheVariants.{Failed, Memory}
use Rattle.qls_site.specs.Disk.{Disk, IsQuiet, bytes_at}
use Rattle.qls_site.specs.Content.{Content, Moment, Acts, MayAct, Leads, Tells, on_answered}
use Rattle.qls_site.proofs.Told.{Tells-then, Tells-weaken}
use Rattle.qls_meaning.specs.Journals.{Headed}
use Rattle.qls_meaning.specs.History.{AllUnmarked, newly_used}
use Rattle.qls_pool.specs.Files.{IdsDiffer, OnDisk}
use Rattle.qls_pool.proofs.FirstTaken.{same_is_step}
use Rattle.qls_command.specs.Lines.{lines, command_of, command_of_words, words, commands}
use Rattle.qls_model.specs.declared.machine.Reply.{Reply}
use Rattle.qls_top.specs.declared.fault.Fault.{Fault}
use Rattle.qls_top.specs.declared.fault.Fault.TheVariants as fault
use Rattle.qls_command.specs.Texts.{reply_text}
use Rattle.qls_top.specs.Answers.{answer_line, state_answered, answers_text}
use Rattle.qls_top.specs.Cutting.{Cutter, kept_of_line, CutsTold, Counted, script_limit}
use Rattle.qls_pool.specs.Moments.{Arrives, Passes, EndsIn}
use Rattle.qls_meaning.specs.History.{last_of}
use Rattle.qls_top.specs.Moments.{AddsAnswer, AtReplies, Quietly, AnswersQuietly, IsRunStep, UnmarkedSince}
use Rattle.qls_pool.specs.Serials.{TakesNone, serials_taken}
use Rattle.qls_top.specs.Serials.{is_exact}
use Rattle.qls_store.specs.Stores.{StoreState, state_of, rid_of, IsStore, Fits, IsClean}
use Rattle.qls_log.specs.Leaving.{WritesInOrder}
use Rattle.qls_log.specs.Unwritten.{history_with}
use Rattle.qls_journals.specs.Homes.{Homes, SameHomes}
use Rattle.qls_store.specs.Homes.{homes_of}
use Rattle.qls_journals.specs.Moments.{IsStoreStep, StaysQuiet, StaysWritten, AreWritten}
use Rattle.qls_top.specs.Held.{IsHeld}
use Rattle.qls_top.specs.Running.{LineMeetsEnd, LineMeetsAtOnce, LineStops, RunsLine, RunsBuilt, homes_by, rid_after}
use Rattle.qls_top.specs.Status.{status_of, IsOfLine}
use Rattle.qls_top.specs.Run.{homes_answered, rid_answered, IsUnderWay, UnderWay, IsRunClean, EndsClean, StaysClean, MeetsEnd, EndsSpentIn, is_exact_status, is_too_long, ReadsBytes, ReadBytes}
use Rattle.qls_pool.proofs.Came.{none_came, none_same}
use Rattle.qls_pool.proofs.Moments.{chain-append, chain_weaken, Arrives-same, Arrives-then, Arrives-acts, Arrives-passes, Passes-may, Passes-same, Passes-of, since_is, since_of}
use Rattle.qls_top.proofs.Chains.{silent_arrives, silent_arrives_quietly, answers_nothing, unmarked_front, unmarked_parts}
use Rattle.qls_top.proofs.Holding.{MeansItsState, SaysItsRid}

-- ---- the answer

-- a moment that has the disk of the one before
pub same_disk : (m n : Moment) → IdsDiffer m.disk → n.disk ≡ m.disk → IsRunStep m n
same_disk m n differ e = record {
  differ = λ d. subst IdsDiffer (sym e) d;
  pool = same_is_step m n differ e;
  headers = λ id used. ap (λ (d : Disk). take 4096 (bytes_at id d)) e;
}

none_comes : (m n : Moment) → IdsDiffer m.disk → n.disk ≡ m.disk → newly_used m n ≡ []
none_comes m n differ e = none_came m n (none_same m n differ e)

-- what an answer does
pub record Answers (bytes : List ℕ) (mid new : Content) : Type 0 where
  pub passes : Passes IsRunStep mid new
  pub quietly : AnswersQuietly mid new
  pub none : TakesNone mid new
  pub adds : AddsAnswer bytes mid new

taken_one : (a b : Content) (n : Moment) → IdsDiffer a.now.disk → n.disk ≡ a.now.disk → (h : Passes IsRunStep a b) → h.since ≡ n ∷ [] → TakesNone a b
taken_one a b n differ e h is =
    ap (serials_taken a.now) (since_is IsRunStep a b h ∙ is) ∙ ap (λ (fs : List Headed). map (λ f. f.header.serial) fs ++ []) (none_comes a.now n differ e)

taken_two : (a b : Content) (m n : Moment) → IdsDiffer a.now.disk → m ≡ a.now → n.disk ≡ a.now.disk → (h : Passes IsRunStep a b) → h.since ≡ m ∷ n ∷ [] → TakesNone a b
taken_two a b m n differ same e h is =
    ap (serials_taken a.now) (since_is IsRunStep a b h ∙ is)
    ∙ ap (λ (fs : List Headed). map (λ f. f.header.serial) fs ++ serials_taken m (n ∷ [])) (none_comes a.now m differ (ap (λ (x : Moment). x.disk) same))
    ∙ ap (λ (x : Moment). serials_taken x (n ∷ [])) same ∙ ap (λ (fs : List Headed). map (λ f. f.header.serial) fs ++ []) (none_comes a.now n differ e)

answered_ok : (bytes : List ℕ) (mid new : Content) → IdsDiffer mid.now.disk → Acts (on_answered bytes) mid new → Answers bytes mid new
answered_ok bytes mid new differ acts =
    let passes : Passes IsRunStep mid new = Passes-of IsRunStep mid new (Arrives-acts IsRunStep (on_answered bytes) mid new (same_disk mid.now (on_answered bytes mid.now) differ refl) acts) in
    record {
      passes = passes;
      quietly = λ q. Passes-of Quietly mid new (Arrives-acts Quietly (on_answered bytes) mid new (inr q) acts);
      none = taken_one mid new (on_answered bytes mid.now) differ refl passes refl;
      adds = inr (inl (since_is IsRunStep mid new passes));
    }

answered_failed : (bytes : List ℕ) (mid new : Content) → IdsDiffer mid.now.disk → MayAct (on_answered bytes) mid new → Answers bytes mid new
answered_failed bytes mid new differ may =
    let passes : Passes IsRunStep mid new =
    Passes-may IsRunStep (on_answered bytes) mid new (same_disk mid.now mid.now differ refl) (same_disk mid.now (on_answered bytes mid.now) differ refl) may in
    record {
      passes = passes;
      quietly = λ q. Passes-may Quietly (on_answered bytes) mid new (inl refl) (inr q) may;
      none = taken_two mid new mid.now (on_answered bytes mid.now) differ refl refl passes refl;
      adds = inr (inr (since_is IsRunStep mid new passes));
    }

answered_same : (bytes : List ℕ) (mid new : Content) → new ≡ mid → Answers bytes mid new
answered_same bytes mid new same = let passes : Passes IsRunStep mid new = Passes-same IsRunStep mid new same in record {
  passes = passes;
  quietly = λ q. Passes-same Quietly mid new same;
  none = ap (serials_taken mid.now) (since_is IsRunStep mid new passes);
  adds = inl (since_is IsRunStep mid new passes);
}

answered_by : (bytes : List ℕ) (r : Result (Unit {0}) SiteError) (mid new : Content) → IdsDiffer mid.now.disk → Leads (Acts (on_answered bytes)) (MayAct (on_answered bytes)) r mid new → Answers bytes mid new
answered_by bytes (Ok x) mid new differ h = answered_ok bytes mid new differ h
answered_by bytes (Err Failed) mid new differ h = answered_failed bytes mid new differ h
answered_by bytes (Err Memory) mid new differ h = answered_same bytes mid new h

pub told_answers : (bytes : List ℕ) (r : Result (Unit {0}) SiteError) (mid new : Option Content) → IfSome mid (OnDisk IdsDiffer) → Tells (Leads (Acts (on_answered bytes)) (MayAct (on_answered bytes)) r) mid new → Tells (Answers bytes) mid new
told_answers bytes r None None differ h = tt
told_answers bytes r None (Some new) differ h = absurd h
told_answers bytes r (Some mid) None differ h = absurd h
told_answers bytes r (Some mid) (Some new) differ h = answered_by bytes r mid new differ h

pub of_answers : (bytes : List ℕ) (R : Content → Content → Type 0) → ((x y : Content) → Answers bytes x y → R x y) → (a b : Option Content) → Tells (Answers bytes) a b → Tells R a b
of_answers bytes R f a b h = Tells-weaken (Answers bytes) R a b h f

-- an answer's moments, by its result
pub answer_passes : (answer : Reply) (r : Result (Unit {0}) Fault) (mid new : Option Content) → IfSome mid (OnDisk IdsDiffer) → Tells (EndsIn (λ _. Acts (on_answered (reply_text answer))) (Passes IsRunStep) r) mid new → Tells (Passes IsRunStep) mid new
answer_passes answer (Ok x) None None differ h = tt
answer_passes answer (Ok x) None (Some new) differ h = absurd h
answer_passes answer (Ok x) (Some mid) None differ h = absurd h
answer_passes answer (Ok x) (Some mid) (Some new) differ h = (answered_ok (reply_text answer) mid new differ h).passes
answer_passes answer (Err f) mid new differ h = h

-- ---- a line

-- what a command did, or a line that is none
pub record Commanded (was : StoreState) (asked : Option Command) (s : StoreState) (old new : Content) : Type 0 where
  pub arrives : Arrives IsStoreStep old new
  pub quiet : StaysQuiet old new
  pub had : IsClean was old.now.disk → LineMeetsAtOnce (homes_of was) (state_of was) asked old.now.disk → ⊥
  pub fits : Fits s new.now.disk
  pub clean : AllUnmarked old.now arrives.since → IsClean was old.now.disk → IsClean s new.now.disk

commanded : (was : StoreState) (asked : Option Command) (s : StoreState) (old new : Content) → Fits was old.now.disk → RunsBuilt was asked s old new → Commanded was asked s old new
commanded was None s old new fits r =
    let disk : new.now.disk ≡ old.now.disk = ap (λ (c : Content). c.now.disk) r.1 in
    record {
      arrives = Arrives-same IsStoreStep old new r.1;
      quiet = λ q. subst IsQuiet (sym disk) q;
      had = λ clean meets. meets;
      fits = subst (λ (t : StoreState). Fits t new.now.disk) (sym r.0) (subst (Fits was) (sym disk) fits);
      clean = λ unmarked clean. subst (λ (t : StoreState). IsClean t new.now.disk) (sym r.0) (subst (IsClean was) (sym disk) clean);
    }
commanded was (Some c) s old new fits r = record {
  arrives = r.arrives;
  quiet = r.quiet;
  had = r.had;
  fits = r.fits;
  clean = λ unmarked clean. r.clean (subst (AllUnmarked old.now) (sym (since_of IsStoreStep old new r.arrives)) unmarked) clean;
}

pub told_commanded : (was : StoreState) (asked : Option Command) (s : StoreState) (a b : Option Content) → IfSome a (OnDisk (Fits was)) → Tells (RunsBuilt was asked s) a b → Tells (Commanded was asked s) a b
told_commanded was asked s None None fits r = tt
told_commanded was asked s None (Some y) fits r = absurd r
told_commanded was asked s (Some x) None fits r = absurd r
told_commanded was asked s (Some x) (Some y) fits r = commanded was asked s x y fits r

module _ (was : StoreState) (line : Option Command) (s : StoreState) (answer : Reply) (stepped : (state_of s, answer) ≡ answer_line (state_of was) line)
    (ridden : rid_of s ≡ rid_after (state_of was) line (rid_of was)) (homed : SameHomes (homes_of s) (homes_by (state_of was) line (homes_of was))) where
  answered_in : (old mid new : Content) → Commanded was line s old mid → Acts (on_answered (reply_text answer)) mid new → RunsLine was line s old new
  answered_in old mid new r acts =
      let now = ap (λ (c : Content). c.now) acts in
      let disk : new.now.disk ≡ mid.now.disk = ap (λ (m : Moment). m.disk) now in
      let one : Arrives IsRunStep mid new =
      Arrives-acts IsRunStep (on_answered (reply_text answer)) mid new (same_disk mid.now (on_answered (reply_text answer) mid.now) r.fits.pool.0 refl) acts in
      record {
        state = ap (λ p. p.0) stepped;
        rid = ridden;
        homes = homed;
        arrives = Arrives-then IsRunStep old mid new (silent_arrives old mid r.arrives) one;
        quiet = λ q. subst IsQuiet (sym disk) (r.quiet q);
        last = chain-append (AtReplies (λ n. n ≡ new.now)) old.now r.arrives.since (on_answered (reply_text answer) mid.now ∷ [])
            (chain_weaken IsStoreStep (AtReplies (λ n. n ≡ new.now)) (λ m n s. inl s.answered) old.now r.arrives.since r.arrives.chain) (inr (sym now), tt);
        had = r.had;
        answered = ap (λ (m : Moment). m.answered) now ∙ ap (λ (a : List ℕ). a ++ reply_text answer) (answers_nothing old mid r.arrives) ∙ ap (λ p. old.now.answered ++ reply_text p.1) stepped;
        fits = subst (Fits s) (sym disk) r.fits;
        clean = λ unmarked clean. subst (IsClean s) (sym disk) (r.clean (unmarked_front old.now r.arrives.since (on_answered (reply_text answer) mid.now ∷ []) unmarked) clean);
      }

  -- by the result of the answer
  ended_in : (r : Result (Unit {0}) Fault) (old mid new : Content) → Commanded was line s old mid
      → EndsIn (λ _. Acts (on_answered (reply_text answer))) (Passes IsRunStep) r mid new → EndsIn (λ _. RunsLine was line s) (Passes IsRunStep) r old new
  ended_in (Ok x) old mid new r h = answered_in old mid new r h
  ended_in (Err f) old mid new r h = Arrives-passes IsRunStep old mid new (silent_arrives old mid r.arrives) h

  pub line_ended : (r : Result (Unit {0}) Fault) (old mid new : Option Content) → Tells (Commanded was line s) old mid
      → Tells (EndsIn (λ _. Acts (on_answered (reply_text answer))) (Passes IsRunStep) r) mid new → Tells (EndsIn (λ _. RunsLine was line s) (Passes IsRunStep) r) old new
  line_ended r old mid new a b =
      Tells-then (Commanded was line s) (EndsIn (λ _. Acts (on_answered (reply_text answer))) (Passes IsRunStep) r) (EndsIn (λ _. RunsLine was line s) (Passes IsRunStep) r) old mid new a b (ended_in r)

module _ (was : StoreState) (asked : Option Command) (s : StoreState) where
  quiet_in : (old mid new : Content) → Commanded was asked s old mid → AnswersQuietly mid new → AnswersQuietly old new
  quiet_in old mid new r h = λ q. Arrives-passes Quietly old mid new (silent_arrives_quietly old mid r.arrives) (h (r.quiet q))

  pub line_quiet : (old mid new : Option Content) → Tells (Commanded was asked s) old mid → Tells AnswersQuietly mid new → Tells AnswersQuietly old new
  line_quiet old mid new a b = Tells-then (Commanded was asked s) AnswersQuietly AnswersQuietly old mid new a b quiet_in

  -- the chain of the command
  pub command_arrives : (old mid : Option Content) → Tells (Commanded was asked s) old mid → Tells (Arrives IsStoreStep) old mid
  command_arrives old mid h = Tells-weaken (Commanded was asked s) (Arrives IsStoreStep) old mid h (λ x y r. r.arrives)

  -- a command leaves ids that differ
  pub differ_after : (old new : Option Content) → Tells (Commanded was asked s) old new → IfSome new (OnDisk IdsDiffer)
  differ_after None None r = tt
  differ_after None (Some new) r = absurd r
  differ_after (Some old) None r = absurd r
  differ_after (Some old) (Some new) r = r.fits.pool.0

-- a line that is none writes nothing
pub none_written : (s : StoreState) (answer : Reply) (a : Option Content) → Tells (StaysWritten {X = StoreState × Reply} {E = Fault} (Ok (s, answer)) (λ r. r.0.journals) s.journals) a a
none_written s answer None = tt
none_written s answer (Some c) = λ areas h at written.
    subst (λ (ms : List Moment). WritesInOrder areas h ms × AreWritten areas (history_with h ms) s.journals) (sym (since_of IsStoreStep c c (Arrives-same IsStoreStep c c refl)))
    (tt, subst (λ (since : List Moment). AreWritten areas (record h { since = since }) s.journals) (sym (append-nil h.since)) written)

-- ---- a line that was cut

short_or_long : (line : List ℕ) (b : Bool) → leb (length line) 2100000 ≡ b → command_of (take 2100001 line) ≡ cond b (command_of_words (words line)) None
short_or_long line true e = ap command_of (take_all 2100001 line (omega (arith, leb-true (length line) 2100000 e))) ∙ ap (λ b. cond b (command_of_words (words line)) None) e
short_or_long line false e =
    ap (λ b. cond b (command_of_words (words (take 2100001 line))) None) (long (length (take 2100001 line)) (omega (arith, length-take 2100001 line, not_leb (length line) 2100000 e)))
  where
    long : (n : ℕ) → 2100000 < n → leb n 2100000 ≡ false
    long n h = grind arith

    not_leb : (m n : ℕ) → leb m n ≡ false → n < m
    not_leb m n h = grind arith

-- what is kept of a line is the same command
pub kept_command : (line : List ℕ) → command_of (kept_of_line line) ≡ command_of line
kept_command line = short_or_long line (leb (length line) 2100000) refl

-- ---- the script, line by line

pub answers_append : (S : MachineState) (cs ds : List (Option Command)) → answers_text S (cs ++ ds) ≡ answers_text S cs ++ answers_text (state_answered S cs) ds
answers_append S [] ds = refl
answers_append S (c ∷ cs) ds =
    let here = answer_line S c in
    ap (λ (t : List ℕ). reply_text here.1 ++ t) (answers_append here.0 cs ds) ∙ sym (append_assoc (reply_text here.1) (answers_text here.0 cs) (answers_text (state_answered here.0 cs) ds))

pub state_append : (S : MachineState) (cs ds : List (Option Command)) → state_answered S (cs ++ ds) ≡ state_answered (state_answered S cs) ds
state_append S [] ds = refl
state_append S (c ∷ cs) ds = state_append (answer_line S c).0 cs ds

pub rid_append : (S : MachineState) (cs ds : List (Option Command)) (given : ℕ) → rid_answered S (cs ++ ds) given ≡ rid_answered (state_answered S cs) ds (rid_answered S cs given)
rid_append S [] ds given = refl
rid_append S (c ∷ cs) ds given = rid_append (answer_line S c).0 cs ds (rid_after S c given)

-- what a cut leaves of the commands
pub cut_split : (script before rest line kept : List ℕ) (done : List (Option Command)) → commands script ≡ done ++ commands before → lines before ≡ line ∷ lines rest → kept ≡ kept_of_line line
    → commands script ≡ done ++ command_of kept ∷ commands rest
cut_split script before rest line kept done split cut is =
    split ∙ ap (λ cs. done ++ cs) (ap (map command_of) cut ∙ ap (λ (c : Option Command). c ∷ commands rest) (sym (ap command_of is ∙ kept_command line)))

-- homes are known by what each journal has
pub same_homes : (f g : Homes) → SameHomes f g → f ≡ g
same_homes f g h = λ i. record { default = h.default i; queue = λ name. h.queue name i; list = h.list i }

pub homes_append : (S : MachineState) (cs ds : List (Option Command)) (homes : Homes) → homes_answered S (cs ++ ds) homes ≡ homes_answered (state_answered S cs) ds (homes_answered S cs homes)
homes_append S [] ds homes = refl
homes_append S (c ∷ cs) ds homes = homes_append (answer_line S c).0 cs ds (homes_by S c homes)

pub step_in : (first : StoreState) (script before rest line kept : List ℕ) (s t : StoreState) (old mid new : Content) → lines before ≡ line ∷ lines rest → kept ≡ kept_of_line line
    → IsUnderWay first script before s old mid → RunsLine s (command_of kept) t mid new → IsUnderWay first script rest t old new
step_in first script before rest line kept s t old mid new cut is u r =
    let c : Option Command = command_of kept in
    let Z : MachineState = state_of first in
    let homes : Homes = homes_answered Z u.done (homes_of first) in
    let step : answer_line (state_of s) c ≡ answer_line (state_answered Z u.done) c = ap (λ (S : MachineState). answer_line S c) u.state in
    record {
      done = u.done ++ c ∷ [];
      split = cut_split script before rest line kept u.done u.split cut is ∙ sym (append_assoc u.done (c ∷ []) (commands rest));
      answered =
          r.answered ∙ ap (λ p. mid.now.answered ++ reply_text p.1) step ∙ ap (λ (a : List ℕ). a ++ reply_text (answer_line (state_answered Z u.done) c).1) u.answered
          ∙ append_assoc old.now.answered (answers_text Z u.done) (reply_text (answer_line (state_answered Z u.done) c).1)
          ∙ ap (λ (a : List ℕ). old.now.answered ++ a)
          (ap (λ (a : List ℕ). answers_text Z u.done ++ a) (sym (append-nil (reply_text (answer_line (state_answered Z u.done) c).1))) ∙ sym (answers_append Z u.done (c ∷ [])));
      state = r.state ∙ ap (λ p. p.0) step ∙ sym (state_append Z u.done (c ∷ []));
      rid = r.rid ∙ ap (λ (S : MachineState). rid_after S c (rid_of s)) u.state ∙ ap (rid_after (state_answered Z u.done) c) u.rid ∙ sym (rid_append Z u.done (c ∷ []) (rid_of first));
      homes = subst (λ (f : Homes). SameHomes (homes_of t) f)
          (ap (λ (S : MachineState). homes_by S c (homes_of s)) u.state ∙ ap (homes_by (state_answered Z u.done) c) (same_homes (homes_of s) homes u.homes) ∙ sym (homes_append Z u.done (c ∷ []) (homes_of first))) r.homes;
    }

pub line_run : (first : StoreState) (old mid new : Option Content) (script left rest : Option (List ℕ)) (a b : Cutter) (kept : List ℕ) (s t : StoreState)
    → UnderWay first old mid script a.waiting left s → CutsTold a left b rest kept true → Tells (RunsLine s (command_of kept) t) mid new → UnderWay first old new script b.waiting rest t
line_run first None mid new script left rest a b kept s t u cut r = tt
line_run first (Some old) mid None script left rest a b kept s t u cut r = tt
line_run first (Some old) mid (Some new) None left rest a b kept s t u cut r = tt
line_run first (Some old) mid (Some new) (Some script) left None a b kept s t u cut r = tt
line_run first (Some old) None (Some new) (Some script) left (Some m) a b kept s t u cut r = absurd r
line_run first (Some old) (Some mid) (Some new) (Some script) None (Some m) a b kept s t u cut r = absurd cut
line_run first (Some old) (Some mid) (Some new) (Some script) (Some l) (Some m) a b kept s t u cut r =
    step_in first script (a.waiting ++ l) (b.waiting ++ m) cut.0 kept s t old mid new cut.1 cut.2 u r

-- ---- a run that ends since no file is left, or no record id of the prepared list

module _ (first s : StoreState) (script before rest line kept : List ℕ) (cut : lines before ≡ line ∷ lines rest) (is : kept ≡ kept_of_line line) where
  ends_in : (old mid new : Content) → IsUnderWay first script before s old mid → Arrives IsStoreStep mid new → LineMeetsEnd (homes_of s) (state_of s) (command_of kept) new.now.disk → MeetsEnd (homes_of first) (state_of first) script old new
  ends_in old mid new u arrives meets = record {
    done = u.done;
    next = command_of kept;
    rest = commands rest;
    split = cut_split script before rest line kept u.done u.split cut is;
    answered = answers_nothing mid new arrives ∙ u.answered;
    meets = subst (λ (f : Homes). LineMeetsEnd f (state_answered (state_of first) u.done) (command_of kept) new.now.disk) (same_homes (homes_of s) (homes_answered (state_of first) u.done (homes_of first)) u.homes)
        (subst (λ (S : MachineState). LineMeetsEnd (homes_of s) S (command_of kept) new.now.disk) u.state meets);
  }

  spent_in : (old mid new : Content) → IsUnderWay first script before s old mid → Arrives IsRunStep old mid → StaysClean first s old mid → LineStops s (command_of kept) mid new
      → UnmarkedSince old new → IsClean first old.now.disk → MeetsEnd (homes_of first) (state_of first) script old new
  spent_in old mid new u went clean stops = λ unmarked begun.
      let k = stopped (command_of kept) mid new stops in
      let parts = unmarked_parts IsRunStep IsStoreStep old mid new went (Passes-of IsStoreStep mid new k.0) unmarked in
      ends_in old mid new u k.0 (k.1 parts.1 (clean parts.0 begun))
    where
      stopped : (asked : Option Command) (x y : Content) → LineStops s asked x y → Arrives IsStoreStep x y × (UnmarkedSince x y → IsClean s x.now.disk → LineMeetsEnd (homes_of s) (state_of s) asked y.now.disk)
      stopped None x y stops = absurd stops
      stopped (Some c) x y stops = (stops.arrives, stops.meets)

pub line_spent : (first s : StoreState) (old mid new : Option Content) (script left rest : Option (List ℕ)) (a b : Cutter) (kept : List ℕ) (limit : ℕ)
    → UnderWay first old mid script a.waiting left s → Counted limit script a.budget left (Ok true) → CutsTold a left b rest kept true → Tells (Arrives IsRunStep) old mid → Tells (StaysClean first s) old mid
    → Tells (LineStops s (command_of kept)) mid new → EndsSpentIn first old new script
line_spent first s None mid new script left rest a b kept limit u counted cut went clean stops = tt
line_spent first s (Some old) mid None script left rest a b kept limit u counted cut went clean stops = tt
line_spent first s (Some old) mid (Some new) None left rest a b kept limit u counted cut went clean stops = tt
line_spent first s (Some old) None (Some new) (Some script) left rest a b kept limit u counted cut went clean stops = absurd stops
line_spent first s (Some old) (Some mid) (Some new) (Some script) None rest a b kept limit u counted cut went clean stops = absurd counted
line_spent first s (Some old) (Some mid) (Some new) (Some script) (Some l) None a b kept limit u counted cut went clean stops = absurd cut
line_spent first s (Some old) (Some mid) (Some new) (Some script) (Some l) (Some m) a b kept limit u counted cut went clean stops =
    spent_in first s script (a.waiting ++ l) (b.waiting ++ m) cut.0 kept cut.1 cut.2 old mid new u went clean stops

-- no more was read than the limit, where a line ended the run
pub read_so_far : (f : Fault) (a b : Option (List ℕ)) (budget : ℕ) → IsOfLine f → Counted script_limit a budget b (Ok true) → ReadsBytes (is_too_long (Err f)) a b
read_so_far f None None budget only h = tt
read_so_far f None (Some m) budget only h = absurd h
read_so_far f (Some l) None budget only h = absurd h
read_so_far f (Some l) (Some m) budget only h = subst (λ e. ReadBytes e l m) (sym (not_long f only)) (omega (arith, h))
  where
    not_long : (f : Fault) → IsOfLine f → is_too_long (Err f) ≡ false
    not_long fault.TooLong only = absurd (cc)
    not_long fault.Source only = refl
    not_long fault.Site only = refl
    not_long fault.Memory only = refl
    not_long fault.Draw only = refl
    not_long fault.Spent only = refl
    not_long fault.Damaged only = refl

-- ---- the end of the script

nothing_left : (a b : List ℕ) → a ++ b ≡ [] → b ≡ []
nothing_left [] b e = e
nothing_left (x ∷ a) b e = absurd (cc)

end_in : (first s : StoreState) (script : List ℕ) (rest : List ℕ) (old new : Content) → MeansItsState → SaysItsRid → rest ≡ [] → IsUnderWay first script rest s old new → IsStore s → Fits s new.now.disk
    → StaysQuiet old new → StaysClean first s old new → IsRunClean first script old new
end_in first s script rest old new means says none u store fits quiet clean =
    let Z : MachineState = state_of first in
    let all : commands script ≡ u.done = u.split ∙ ap (λ (r : List ℕ). u.done ++ commands r) none ∙ append-nil u.done in
    record {
      answered = u.answered ∙ ap (λ cs. old.now.answered ++ answers_text Z cs) (sym all);
      stored = λ q unmarked begun. subst (λ (S : MachineState). IsHeld S new.now.disk) (u.state ∙ ap (state_answered Z) (sym all)) (means s new.now.disk store fits (clean unmarked begun) (quiet q));
      rid = λ unmarked begun. says s new.now.disk store fits (clean unmarked begun) ∙ u.rid ∙ ap (λ cs. rid_answered Z cs (rid_of first)) (sym all);
    }

pub script_ended : (old new : Option Content) (script left rest : Option (List ℕ)) (a b : Cutter) (kept : List ℕ) (first s : StoreState) → MeansItsState → SaysItsRid
    → UnderWay first old new script a.waiting left s → IsStore s → IfSome new (OnDisk (Fits s)) → Tells StaysQuiet old new → Tells (StaysClean first s) old new → CutsTold a left b rest kept false → EndsClean first old new script rest
script_ended None new script left rest a b kept first s means says u store fits quiet clean cut = tt
script_ended (Some old) None script left rest a b kept first s means says u store fits quiet clean cut = tt
script_ended (Some old) (Some new) None left rest a b kept first s means says u store fits quiet clean cut = tt
script_ended (Some old) (Some new) (Some script) left None a b kept first s means says u store fits quiet clean cut = tt
script_ended (Some old) (Some new) (Some script) None (Some m) a b kept first s means says u store fits quiet clean cut = absurd cut
script_ended (Some old) (Some new) (Some script) (Some l) (Some m) a b kept first s means says u store fits quiet clean cut =
    (nothing_left b.waiting m cut.1, end_in first s script (a.waiting ++ l) old new means says cut.0 u store fits quiet clean)

-- ---- the start

-- nothing of the script is run yet
pub begun : (s : StoreState) (o : Option Content) (script : Option (List ℕ)) → UnderWay s o o script [] script s
begun s None script = tt
begun s (Some c) None = tt
begun s (Some c) (Some script) = record { done = []; split = refl; answered = sym (append-nil c.now.answered); state = refl; rid = refl; homes = record { default = refl; queue = λ name. refl; list = refl } }

-- ---- one more line

pub line_went : (was : StoreState) (line : Option Command) (s : StoreState) (a b c : Option Content) → Tells (Arrives IsRunStep) a b → Tells (RunsLine was line s) b c → Tells (Arrives IsRunStep) a c
line_went was line s a b c g r = Tells-then (Arrives IsRunStep) (RunsLine was line s) (Arrives IsRunStep) a b c g r (λ x y z h k. Arrives-then IsRunStep x y z h k.arrives)

pub line_passes : (was : StoreState) (line : Option Command) (s : StoreState) (b c : Option Content) → Tells (RunsLine was line s) b c → Tells (Passes IsRunStep) b c
line_passes was line s b c r = Tells-weaken (RunsLine was line s) (Passes IsRunStep) b c r (λ x y k. Passes-of IsRunStep x y k.arrives)

pub line_fits : (was : StoreState) (line : Option Command) (s : StoreState) (b c : Option Content) → Tells (RunsLine was line s) b c → IfSome c (OnDisk (Fits s))
line_fits was line s None None r = tt
line_fits was line s None (Some c) r = absurd r
line_fits was line s (Some b) None r = absurd r
line_fits was line s (Some b) (Some c) r = r.fits

-- the call arrived, and where nothing was pending it answered quietly
abbrev pub Quieted : Content → Content → Type 0
Quieted old new = Arrives IsRunStep old new × StaysQuiet old new × (IsQuiet old.now.disk → Arrives Quietly old new)

quiet_fails : (x y z : Content) → Quieted x y → AnswersQuietly y z → AnswersQuietly x z
quiet_fails x y z h k = λ q. Arrives-passes Quietly x y z (h.2 q) (k (h.1 q))

pub fails_quietly : (a b c : Option Content) → Tells Quieted a b → Tells AnswersQuietly b c → Tells AnswersQuietly a c
fails_quietly a b c g h = Tells-then Quieted AnswersQuietly AnswersQuietly a b c g h quiet_fails

pub quieted_passes : (a b : Option Content) → Tells Quieted a b → Tells AnswersQuietly a b
quieted_passes a b h = Tells-weaken Quieted AnswersQuietly a b h (λ x y k q. Passes-of Quietly x y (k.2 q))

-- a call that arrived, and whose answers were quiet, arrived quietly
arrives_from : (R Q : Moment → Moment → Type 0) (x y : Content) → Arrives R x y → Passes Q x y → Arrives Q x y
arrives_from R Q x y h p = record { since = p.since; moments = p.moments; chain = p.chain; last = h.last ∙ ap (last_of x.now) (sym (since_of R x y h) ∙ since_is Q x y p) }

quieted_in : (was s : StoreState) (line : Option Command) (x y z : Content) → Quieted x y → RunsLine was line s y z × AnswersQuietly y z → Quieted x z
quieted_in was s line x y z h k = (
  Arrives-then IsRunStep x y z h.0 k.0.arrives,
  λ q. k.0.quiet (h.1 q),
  λ q. Arrives-then Quietly x y z (h.2 q) (arrives_from IsRunStep Quietly y z k.0.arrives (k.1 (h.1 q))),
)

-- where files were unmarked the store is clean still, line after line
clean_in : (first was s : StoreState) (line : Option Command) (x y z : Content) → Arrives IsRunStep x y × StaysClean first was x y → RunsLine was line s y z → StaysClean first s x z
clean_in first was s line x y z h k unmarked begun =
    let parts = unmarked_parts IsRunStep IsRunStep x y z h.0 (Passes-of IsRunStep y z k.arrives) unmarked in
    k.clean (subst (AllUnmarked y.now) (since_of IsRunStep y z k.arrives) parts.1) (h.1 parts.0 begun)

both : (P Q : Content → Content → Type 0) (a b : Option Content) → Tells P a b → Tells Q a b → Tells (λ x y. P x y × Q x y) a b
both P Q None None p q = tt
both P Q None (Some y) p q = absurd p
both P Q (Some x) None p q = absurd p
both P Q (Some x) (Some y) p q = (p, q)

pub line_quieted : (was s : StoreState) (line : Option Command) (a b c : Option Content) → Tells Quieted a b → Tells (RunsLine was line s) b c → Tells AnswersQuietly b c → Tells Quieted a c
line_quieted was s line a b c h r q =
    Tells-then Quieted (λ x y. RunsLine was line s x y × AnswersQuietly x y) Quieted a b c h (both (RunsLine was line s) AnswersQuietly b c r q) (quieted_in was s line)

pub quieted_rests : (a b : Option Content) → Tells Quieted a b → Tells StaysQuiet a b
quieted_rests a b h = Tells-weaken Quieted StaysQuiet a b h (λ x y k. k.1)

pub went_none : (a : Option Content) → Tells (Arrives IsRunStep) a a
went_none None = tt
went_none (Some c) = Arrives-same IsRunStep c c refl

pub quieted_none : (a : Option Content) → Tells Quieted a a
quieted_none None = tt
quieted_none (Some c) = (Arrives-same IsRunStep c c refl, (λ q. q), λ q. Arrives-same Quietly c c refl)

pub clean_none : (s : StoreState) (a : Option Content) → Tells (StaysClean s s) a a
clean_none s None = tt
clean_none s (Some c) = λ unmarked clean. clean

pub line_clean : (first was s : StoreState) (line : Option Command) (a b c : Option Content) → Tells (Arrives IsRunStep) a b → Tells (StaysClean first was) a b → Tells (RunsLine was line s) b c → Tells (StaysClean first s) a c
line_clean first was s line a b c g h r =
    Tells-then (λ x y. Arrives IsRunStep x y × StaysClean first was x y) (RunsLine was line s) (StaysClean first s) a b c (both (Arrives IsRunStep) (StaysClean first was) a b g h) r (clean_in first was s line)

-- ---- by the status

-- the statuses at which each number drawn is the serial of a file
pub exact_status : (f : Fault) → is_exact_status (status_of f) ≡ is_exact {X = Unit {0}} (Err f)
exact_status fault.Source = refl
exact_status fault.Site = refl
exact_status fault.Memory = refl
exact_status fault.TooLong = refl
exact_status fault.Draw = refl
exact_status fault.Spent = refl
exact_status fault.Damaged = refl
