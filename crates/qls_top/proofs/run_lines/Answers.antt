use Rattle.std.proofs.Common.{rules, ◌≡◌, ◌≤◌, IfSome, Bool, true, List, [], ℕ, Result, Ok, Err, refl, subst, arith, sym, ap}
use Rattle.qls_site.specs.Content.{Tells}
use Rattle.qls_command.specs.Lines.{command_of}
use Rattle.qls_pool.specs.Files.{OnDisk}
use Rattle.qls_pool.specs.Moments.{Arrives}
use Rattle.qls_pool.specs.Serials.{DrawsTaken}
use Rattle.qls_pool.proofs.Serials.{drawn_then, drawn_none, drawn_any}
use Rattle.qls_store.specs.Stores.{StoreState, state_of, IsStore, Fits}
use Rattle.qls_journals.specs.Homes.{SameHomes}
use Rattle.qls_store.specs.Homes.{homes_of}
use Rattle.qls_top.specs.declared.fault.Fault.{Fault}
use Rattle.qls_top.specs.declared.fault.Fault.TheVariants as fault
use Rattle.qls_top.specs.Cutting.{Counted, CutsTold, script_limit, Cutter}
use Rattle.qls_top.specs.Moments.{IsRunStep}
use Rattle.qls_top.specs.Run.{ReadsBytes, is_too_long, UnderWay, StaysClean, RepliesClean}
use Rattle.qls_top.specs.Running.{LineStops, RunsLine, RepliesLine, UnderLine, homes_by}
use Rattle.qls_top.specs.Serials.{is_exact}
use Rattle.qls_top.proofs.Chains.{went_then, tells_none}
use Rattle.qls_top.proofs.CutLines.{counted_then}
use Rattle.qls_top.proofs.DueRuns.{TakenSoFar, line_takes, line_taken, taken_none, taken_takes}
use Rattle.qls_top.proofs.Having.{line_had, script_had, HadWay, had_none}
use Rattle.qls_top.proofs.Holding.{means_its_state}
use Rattle.qls_top.proofs.Lines.{line_run, line_went, line_passes, line_fits, line_quieted, line_clean, line_spent, read_so_far, script_ended, fails_quietly, quieted_rests, quieted_passes, begun, Quieted, quieted_none, clean_none, went_none}
use Rattle.qls_top.proofs.Replying.{line_replies, replies_none}
use Rattle.qls_top.proofs.RunDiscipline.{KeptSoFar, line_kept, kept_none, kept_writes, kept_leaves, kept_answers, fails_writing, fails_leaving, fails_answering}
use Rattle.qls_top.proofs.Working.{WorkedWay, line_worked, line_works, script_works, worked_none, none_works}
use Rattle.qls_top.proofs.run_lines.Goals as goal

-- ---- line after line

pub loop-store-init : goal.loop-store-init
loop-store-init g c =
    let none : List ℕ = [] in
    let fresh : none ≡ c.in_ok-script.script.waiting = sym (ap (λ (k : Cutter). k.waiting) c.in_ok-script.ensures.fresh) in
    subst (λ (s : StoreState). record {
      fits : IfSome (g.S.Site.told c.args.site.now) (OnDisk (Fits s));
      went : Tells (Arrives IsRunStep) (g.S.Site.told c.args.site.now) (g.S.Site.told c.args.site.now);
      quieted : Tells Quieted (g.S.Site.told c.args.site.now) (g.S.Site.told c.args.site.now);
      clean : Tells (StaysClean c.args.store s) (g.S.Site.told c.args.site.now) (g.S.Site.told c.args.site.now);
      drawn : DrawsTaken true (g.S.Site.told c.args.site.now) (g.S.Site.told c.args.site.now) (g.N.Serials.drawn c.args.serials.now) (g.N.Serials.drawn c.args.serials.now);
      replied : RepliesClean c.args.store (g.S.Site.told c.args.site.now) (g.S.Site.told c.args.site.now) (g.R.Source.left c.args.source.now);
      under_way : UnderWay c.args.store (g.S.Site.told c.args.site.now) (g.S.Site.told c.args.site.now) (g.R.Source.left c.args.source.now) c.in_ok-script.script.waiting (g.R.Source.left c.args.source.now) s;
      had : HadWay c.args.store (g.S.Site.told c.args.site.now) (g.S.Site.told c.args.site.now) (g.R.Source.left c.args.source.now) c.in_ok-script.script.waiting (g.R.Source.left c.args.source.now) s;
      kept : Tells (KeptSoFar c.args.store s) (g.S.Site.told c.args.site.now) (g.S.Site.told c.args.site.now);
      taken : Tells (TakenSoFar c.args.store s) (g.S.Site.told c.args.site.now) (g.S.Site.told c.args.site.now);
      worked : WorkedWay c.args.store (g.S.Site.told c.args.site.now) (g.S.Site.told c.args.site.now) (g.R.Source.left c.args.source.now) c.in_ok-script.script.waiting (g.R.Source.left c.args.source.now) s;
      counted : Counted script_limit (g.R.Source.left c.args.source.now) c.in_ok-script.script.budget (g.R.Source.left c.args.source.now) (Ok true);
      sources : g.R.Source.faults c.args.source.now ≤ g.R.Source.faults c.args.source.now;
      sites : g.S.Site.faults c.args.site.now ≤ g.S.Site.faults c.args.site.now;
      draws : g.N.Serials.faults c.args.serials.now ≤ g.N.Serials.faults c.args.serials.now;
    }) (sym c.store.view_is) (record {
      fits = c.requires.fits;
      went = went_none (g.S.Site.told c.args.site.now);
      quieted = quieted_none (g.S.Site.told c.args.site.now);
      clean = clean_none c.args.store (g.S.Site.told c.args.site.now);
      drawn = drawn_none true _ _ _ _ (tells_none (g.S.Site.told c.args.site.now)) refl;
      replied = replies_none c.args.store (g.S.Site.told c.args.site.now) (g.R.Source.left c.args.source.now);
      under_way = subst (λ (w : List ℕ). UnderWay c.args.store (g.S.Site.told c.args.site.now) (g.S.Site.told c.args.site.now) (g.R.Source.left c.args.source.now) w (g.R.Source.left c.args.source.now) c.args.store) fresh
          (begun c.args.store (g.S.Site.told c.args.site.now) (g.R.Source.left c.args.source.now));
      had = subst (λ (w : List ℕ). HadWay c.args.store (g.S.Site.told c.args.site.now) (g.S.Site.told c.args.site.now) (g.R.Source.left c.args.source.now) w (g.R.Source.left c.args.source.now) c.args.store) fresh
          (had_none c.args.store (g.S.Site.told c.args.site.now) (g.R.Source.left c.args.source.now));
      kept = kept_none c.args.store (g.S.Site.told c.args.site.now);
      taken = taken_none c.args.store (g.S.Site.told c.args.site.now);
      worked = subst (λ (w : List ℕ). WorkedWay c.args.store (g.S.Site.told c.args.site.now) (g.S.Site.told c.args.site.now) (g.R.Source.left c.args.source.now) w (g.R.Source.left c.args.source.now) c.args.store) fresh
          (worked_none c.args.store (g.S.Site.told c.args.site.now) (g.R.Source.left c.args.source.now));
      counted = search rules;
      sources = search rules;
      sites = search rules;
      draws = search rules;
    })

pub loop-store-preserved : goal.loop-store-preserved
loop-store-preserved g c =
    let i = c.loop-store.invariant in
    let s : StoreState = c.in_ok-store.store in
    let ran = subst (λ (bytes : List ℕ). Tells (RunsLine c.loop-store.store (command_of bytes) s) (g.S.Site.told c.loop-store.site) (g.S.Site.told c.run_line.new.site)) c.deref.ensures.value c.in_ok-store.ensures.told in
    let cut = subst (λ (b : Bool). CutsTold c.loop-store.script (g.R.Source.left c.loop-store.source) c.next_line.new.self (g.R.Source.left c.next_line.new.source) c.next_line.new.line.items b) c.if-branch.true c.in_ok-next_line.ensures.cut in
    let command = command_of c.next_line.new.line.items in
    record {
      fits = line_fits c.loop-store.store command s (g.S.Site.told c.loop-store.site) _ ran;
      went = line_went c.loop-store.store command s _ (g.S.Site.told c.loop-store.site) _ i.went ran;
      quieted = line_quieted c.loop-store.store s command _ (g.S.Site.told c.loop-store.site) _ i.quieted ran c.in_ok-store.ensures.quiet;
      clean = line_clean c.args.store c.loop-store.store s command _ (g.S.Site.told c.loop-store.site) _ i.went c.loop-store.invariant.clean ran;
      drawn =
          drawn_then IsRunStep IsRunStep true _ (g.S.Site.told c.loop-store.site) _ _ (g.N.Serials.drawn c.loop-store.serials) _ i.went
          (line_passes c.loop-store.store command s (g.S.Site.told c.loop-store.site) _ ran) i.drawn c.in_ok-store.ensures.drawn;
      replied =
          line_replies c.args.store c.loop-store.store _ (g.S.Site.told c.loop-store.site) _ _ (g.R.Source.left c.loop-store.source) _ c.loop-store.script c.next_line.new.self c.next_line.new.line.items script_limit c.loop-store.invariant.under_way i.counted cut
          i.went i.quieted c.loop-store.invariant.clean i.replied (line_passes c.loop-store.store command s (g.S.Site.told c.loop-store.site) _ ran)
          (subst (λ (bytes : List ℕ). Tells (RepliesLine c.loop-store.store (command_of bytes)) (g.S.Site.told c.loop-store.site) (g.S.Site.told c.run_line.new.site)) c.deref.ensures.value c.in_ok-store.ensures.replied);
      under_way = line_run c.args.store _ (g.S.Site.told c.loop-store.site) _ _ (g.R.Source.left c.loop-store.source) _ c.loop-store.script c.next_line.new.self c.next_line.new.line.items
          c.loop-store.store s c.loop-store.invariant.under_way cut ran;
      had = line_had c.args.store _ (g.S.Site.told c.loop-store.site) _ _ (g.R.Source.left c.loop-store.source) _ c.loop-store.script c.next_line.new.self c.next_line.new.line.items
          c.loop-store.store s c.loop-store.invariant.had cut i.went c.loop-store.invariant.clean ran;
      kept = line_kept c.args.store c.loop-store.store s command _ (g.S.Site.told c.loop-store.site) _ c.loop-store.invariant.kept ran c.in_ok-store.ensures.writes c.in_ok-store.ensures.leaves c.in_ok-store.ensures.answers;
      taken = line_taken c.args.store c.loop-store.store command s _ (g.S.Site.told c.loop-store.site) _
          (subst (λ (bytes : List ℕ). SameHomes (homes_of s) (homes_by (state_of c.loop-store.store) (command_of bytes) (homes_of c.loop-store.store))) c.deref.ensures.value c.in_ok-store.ensures.homes)
          i.taken i.fits ran
          (subst (λ (bytes : List ℕ). Tells (UnderLine c.loop-store.store (command_of bytes)) (g.S.Site.told c.loop-store.site) (g.S.Site.told c.run_line.new.site)) c.deref.ensures.value c.in_ok-store.ensures.under);
      worked = line_worked c.args.store c.loop-store.store c.loop-store.script c.next_line.new.self c.next_line.new.line.items s _ (g.S.Site.told c.loop-store.site) _ _ (g.R.Source.left c.loop-store.source) _ c.loop-store.invariant.worked cut i.went ran
          (subst (λ (bytes : List ℕ). Tells (UnderLine c.loop-store.store (command_of bytes)) (g.S.Site.told c.loop-store.site) (g.S.Site.told c.run_line.new.site)) c.deref.ensures.value c.in_ok-store.ensures.under)
          (subst (λ (bytes : List ℕ). SameHomes (homes_of s) (homes_by (state_of c.loop-store.store) (command_of bytes) (homes_of c.loop-store.store))) c.deref.ensures.value
          c.in_ok-store.ensures.homes);
      counted = counted_then script_limit c.loop-store.script.budget c.next_line.new.self.budget _ (g.R.Source.left c.loop-store.source) _ true c.in_ok-next_line.field-0 i.counted c.in_ok-next_line.ensures.counted;
      sources = omega (arith, i.sources, c.in_ok-next_line.ensures.kept);
      sites = omega (arith, i.sites, c.in_ok-store.ensures.causes.sites_kept);
      draws = omega (arith, i.draws, c.in_ok-store.ensures.causes.draws_kept);
    }

-- ---- a line ended it

pub returns-in_err-store-clause-went : goal.returns-in_err-store-clause-went
returns-in_err-store-clause-went g c = went_then _ (g.S.Site.told c.loop-store.site) _ c.loop-store.invariant.went c.in_err-store.ensures.told

pub returns-in_err-store-clause-quiet : goal.returns-in_err-store-clause-quiet
returns-in_err-store-clause-quiet g c = fails_quietly _ (g.S.Site.told c.loop-store.site) _ c.loop-store.invariant.quieted c.in_err-store.ensures.quiet

pub returns-in_err-store-clause-drawn : goal.returns-in_err-store-clause-drawn
returns-in_err-store-clause-drawn g c =
    let is : Err c.in_err-store.field-0.0 ≡ c.from_residual-in_err-store.result = search (rules, c.from_residual-in_err-store.ensures) in
    subst (λ (r : Result (Unit {0}) Fault). DrawsTaken (is_exact r) (g.S.Site.told c.args.site.now) (g.S.Site.told c.run_line.new.site) (g.N.Serials.drawn c.args.serials.now) (g.N.Serials.drawn c.run_line.new.serials)) is
    (drawn_then IsRunStep IsRunStep (is_exact {X = Unit {0}} (Err c.in_err-store.field-0.0)) _ (g.S.Site.told c.loop-store.site) _ _ (g.N.Serials.drawn c.loop-store.serials) _ c.loop-store.invariant.went c.in_err-store.ensures.told
    c.loop-store.invariant.drawn c.in_err-store.ensures.drawn)

pub returns-in_err-store-clause-spent : goal.returns-in_err-store-clause-spent
returns-in_err-store-clause-spent g c = λ e.
    let i = c.loop-store.invariant in
    let is : c.run_line.result ≡ Err fault.Spent = search (rules, c.from_residual-in_err-store.ensures, c.in_err-store.was, e) in
    let cut = subst (λ (b : Bool). CutsTold c.loop-store.script (g.R.Source.left c.loop-store.source) c.next_line.new.self (g.R.Source.left c.next_line.new.source) c.next_line.new.line.items b) c.if-branch.true c.in_ok-next_line.ensures.cut in
    line_spent c.args.store c.loop-store.store _ (g.S.Site.told c.loop-store.site) _ _ (g.R.Source.left c.loop-store.source) _ c.loop-store.script c.next_line.new.self c.next_line.new.line.items script_limit
    c.loop-store.invariant.under_way i.counted cut i.went c.loop-store.invariant.clean
    (subst (λ (bytes : List ℕ). Tells (LineStops c.loop-store.store (command_of bytes)) (g.S.Site.told c.loop-store.site) (g.S.Site.told c.run_line.new.site)) c.deref.ensures.value
    (c.run_line.ensures.spent is))

pub returns-in_err-store-clause-too_long : goal.returns-in_err-store-clause-too_long
returns-in_err-store-clause-too_long g c =
    let i = c.loop-store.invariant in
    let is : Err c.in_err-store.field-0.0 ≡ c.from_residual-in_err-store.result = search (rules, c.from_residual-in_err-store.ensures) in
    subst (λ (r : Result (Unit {0}) Fault). ReadsBytes (is_too_long r) (g.R.Source.left c.args.source.now) (g.R.Source.left c.next_line.new.source)) is
    (read_so_far c.in_err-store.field-0.0 _ _ c.next_line.new.self.budget c.in_err-store.ensures.only
    (counted_then script_limit c.loop-store.script.budget c.next_line.new.self.budget _ (g.R.Source.left c.loop-store.source) _ true c.in_ok-next_line.field-0 i.counted c.in_ok-next_line.ensures.counted))

pub returns-in_err-store-clause-replied : goal.returns-in_err-store-clause-replied
returns-in_err-store-clause-replied g c =
    let i = c.loop-store.invariant in
    let cut = subst (λ (b : Bool). CutsTold c.loop-store.script (g.R.Source.left c.loop-store.source) c.next_line.new.self (g.R.Source.left c.next_line.new.source) c.next_line.new.line.items b) c.if-branch.true c.in_ok-next_line.ensures.cut in
    line_replies c.args.store c.loop-store.store _ (g.S.Site.told c.loop-store.site) _ _ (g.R.Source.left c.loop-store.source) _ c.loop-store.script c.next_line.new.self c.next_line.new.line.items script_limit c.loop-store.invariant.under_way i.counted cut
    i.went i.quieted c.loop-store.invariant.clean i.replied c.in_err-store.ensures.told
    (subst (λ (bytes : List ℕ). Tells (RepliesLine c.loop-store.store (command_of bytes)) (g.S.Site.told c.loop-store.site) (g.S.Site.told c.run_line.new.site)) c.deref.ensures.value c.in_err-store.ensures.replied)

pub returns-in_err-store-clause-writes : goal.returns-in_err-store-clause-writes
returns-in_err-store-clause-writes g c =
    fails_writing c.args.store c.loop-store.store _ (g.S.Site.told c.loop-store.site) _ c.loop-store.invariant.kept c.in_err-store.ensures.told (Err c.in_err-store.field-0.0) c.in_err-store.ensures.writes

pub returns-in_err-store-clause-leaves : goal.returns-in_err-store-clause-leaves
returns-in_err-store-clause-leaves g c =
    fails_leaving c.args.store c.loop-store.store _ (g.S.Site.told c.loop-store.site) _ c.loop-store.invariant.kept c.in_err-store.ensures.told c.in_err-store.ensures.leaves

pub returns-in_err-store-clause-answers : goal.returns-in_err-store-clause-answers
returns-in_err-store-clause-answers g c =
    fails_answering c.args.store c.loop-store.store _ (g.S.Site.told c.loop-store.site) _ c.loop-store.invariant.kept c.in_err-store.ensures.told c.in_err-store.ensures.answers

pub returns-in_err-store-clause-takes : goal.returns-in_err-store-clause-takes
returns-in_err-store-clause-takes g c =
    line_takes c.args.store c.loop-store.store (command_of c.next_line.new.line.items) _ (g.S.Site.told c.loop-store.site) _ c.loop-store.invariant.taken c.loop-store.invariant.fits c.in_err-store.ensures.told
    (subst (λ (bytes : List ℕ). Tells (UnderLine c.loop-store.store (command_of bytes)) (g.S.Site.told c.loop-store.site) (g.S.Site.told c.run_line.new.site)) c.deref.ensures.value c.in_err-store.ensures.under)

pub returns-in_err-store-clause-commands : goal.returns-in_err-store-clause-commands
returns-in_err-store-clause-commands g c =
    let i = c.loop-store.invariant in
    let cut = subst (λ (b : Bool). CutsTold c.loop-store.script (g.R.Source.left c.loop-store.source) c.next_line.new.self (g.R.Source.left c.next_line.new.source) c.next_line.new.line.items b) c.if-branch.true c.in_ok-next_line.ensures.cut in
    line_works c.args.store c.loop-store.store c.loop-store.script c.next_line.new.self c.next_line.new.line.items _ (g.S.Site.told c.loop-store.site) _ _ (g.R.Source.left c.loop-store.source) _ script_limit c.loop-store.invariant.worked i.counted cut i.went
    c.in_err-store.ensures.told
    (subst (λ (bytes : List ℕ). Tells (UnderLine c.loop-store.store (command_of bytes)) (g.S.Site.told c.loop-store.site) (g.S.Site.told c.run_line.new.site)) c.deref.ensures.value c.in_err-store.ensures.under)

-- ---- the script couldn't be read on

pub returns-in_err-next_line-clause-quiet : goal.returns-in_err-next_line-clause-quiet
returns-in_err-next_line-clause-quiet g c = quieted_passes _ _ c.loop-store.invariant.quieted

pub returns-in_err-next_line-clause-drawn : goal.returns-in_err-next_line-clause-drawn
returns-in_err-next_line-clause-drawn g c = drawn_any (is_exact c.from_residual-in_err-next_line.result) _ _ _ _ c.loop-store.invariant.drawn

pub returns-in_err-next_line-clause-writes : goal.returns-in_err-next_line-clause-writes
returns-in_err-next_line-clause-writes g c = kept_writes c.args.store c.loop-store.store _ _ c.loop-store.invariant.kept

pub returns-in_err-next_line-clause-leaves : goal.returns-in_err-next_line-clause-leaves
returns-in_err-next_line-clause-leaves g c = kept_leaves c.args.store c.loop-store.store _ _ c.loop-store.invariant.kept

pub returns-in_err-next_line-clause-answers : goal.returns-in_err-next_line-clause-answers
returns-in_err-next_line-clause-answers g c = kept_answers c.args.store c.loop-store.store _ _ c.loop-store.invariant.kept

pub returns-in_err-next_line-clause-takes : goal.returns-in_err-next_line-clause-takes
returns-in_err-next_line-clause-takes g c = taken_takes c.args.store c.loop-store.store _ _ c.loop-store.invariant.taken

pub returns-in_err-next_line-clause-commands : goal.returns-in_err-next_line-clause-commands
returns-in_err-next_line-clause-commands g c =
    script_works c.args.store c.loop-store.store _ _ _ (g.R.Source.left c.loop-store.source) c.loop-store.script.waiting c.loop-store.script.budget script_limit c.loop-store.invariant.worked c.loop-store.invariant.counted

-- ---- there was no memory for the script

pub returns-in_err-script-clause-replied : goal.returns-in_err-script-clause-replied
returns-in_err-script-clause-replied g c = replies_none c.args.store (g.S.Site.told c.args.site.now) (g.R.Source.left c.args.source.now)

pub returns-in_err-script-clause-drawn : goal.returns-in_err-script-clause-drawn
returns-in_err-script-clause-drawn g c = drawn_none (is_exact c.from_residual.result) _ _ _ _ (tells_none (g.S.Site.told c.args.site.now)) refl

pub returns-in_err-script-clause-writes : goal.returns-in_err-script-clause-writes
returns-in_err-script-clause-writes g c = kept_writes c.args.store c.args.store _ _ (kept_none c.args.store (g.S.Site.told c.args.site.now))

pub returns-in_err-script-clause-leaves : goal.returns-in_err-script-clause-leaves
returns-in_err-script-clause-leaves g c = kept_leaves c.args.store c.args.store _ _ (kept_none c.args.store (g.S.Site.told c.args.site.now))

pub returns-in_err-script-clause-answers : goal.returns-in_err-script-clause-answers
returns-in_err-script-clause-answers g c = kept_answers c.args.store c.args.store _ _ (kept_none c.args.store (g.S.Site.told c.args.site.now))

pub returns-in_err-script-clause-takes : goal.returns-in_err-script-clause-takes
returns-in_err-script-clause-takes g c = taken_takes c.args.store c.args.store _ _ (taken_none c.args.store (g.S.Site.told c.args.site.now))

pub returns-in_err-script-clause-commands : goal.returns-in_err-script-clause-commands
returns-in_err-script-clause-commands g c = none_works (state_of c.args.store) (homes_of c.args.store) (g.S.Site.told c.args.site.now) (g.R.Source.left c.args.source.now)

-- ---- the script is at its end

pub returns-clause-quiet : goal.returns-clause-quiet
returns-clause-quiet g c = quieted_passes _ _ c.loop-store.invariant.quieted

pub returns-clause-done : goal.returns-clause-done
returns-clause-done g c =
    let i = c.loop-store.invariant in
    let cut = subst (λ (b : Bool). CutsTold c.loop-store.script (g.R.Source.left c.loop-store.source) c.next_line.new.self (g.R.Source.left c.next_line.new.source) c.next_line.new.line.items b) c.if-branch.false c.in_ok-next_line.ensures.cut in
    script_ended _ _ _ (g.R.Source.left c.loop-store.source) _ c.loop-store.script c.next_line.new.self c.next_line.new.line.items c.args.store c.loop-store.store
    (means_its_state c.clean_store_is_its_meaning.ensures.meaning c.clean_store_is_its_meaning.ensures.alive c.clean_store_is_its_meaning.ensures.past) c.clean_store_is_its_meaning.ensures.rid
    i.under_way (subst IsStore c.store-in-loop-store.view_is c.store-in-loop-store.invariant) i.fits (quieted_rests _ _ i.quieted) i.clean cut

pub returns-clause-rests : goal.returns-clause-rests
returns-clause-rests g c = quieted_rests _ _ c.loop-store.invariant.quieted

pub returns-clause-had : goal.returns-clause-had
returns-clause-had g c =
    let i = c.loop-store.invariant in
    let cut = subst (λ (b : Bool). CutsTold c.loop-store.script (g.R.Source.left c.loop-store.source) c.next_line.new.self (g.R.Source.left c.next_line.new.source) c.next_line.new.line.items b) c.if-branch.false c.in_ok-next_line.ensures.cut in
    script_had c.args.store _ _ _ (g.R.Source.left c.loop-store.source) _ c.loop-store.script c.next_line.new.self c.next_line.new.line.items script_limit c.loop-store.store i.had i.counted cut i.went

pub returns-clause-writes : goal.returns-clause-writes
returns-clause-writes g c = kept_writes c.args.store c.loop-store.store _ _ c.loop-store.invariant.kept

pub returns-clause-leaves : goal.returns-clause-leaves
returns-clause-leaves g c = kept_leaves c.args.store c.loop-store.store _ _ c.loop-store.invariant.kept

pub returns-clause-answers : goal.returns-clause-answers
returns-clause-answers g c = kept_answers c.args.store c.loop-store.store _ _ c.loop-store.invariant.kept

pub returns-clause-takes : goal.returns-clause-takes
returns-clause-takes g c = taken_takes c.args.store c.loop-store.store _ _ c.loop-store.invariant.taken

pub returns-clause-commands : goal.returns-clause-commands
returns-clause-commands g c =
    script_works c.args.store c.loop-store.store _ _ _ (g.R.Source.left c.loop-store.source) c.loop-store.script.waiting c.loop-store.script.budget script_limit c.loop-store.invariant.worked c.loop-store.invariant.counted
