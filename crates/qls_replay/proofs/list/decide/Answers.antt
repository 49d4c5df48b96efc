use Rattle.std.proofs.Common.{◌≡◌, ◌==◌, ◌&&◌, ℕ, List, Bool, true, false, cond, Option, Some, None, is_some, IfOk, refl, ap, sym, subst, ◌∙◌, arith}
use Rattle.std.specs.Option.{option_map}
use Rattle.std.specs.Map.{lookup}
use Rattle.qls_model.proofs.XidKeys.{xid_eq_is, xid_eq}
use Rattle.qls_record.specs.Record.{Record}
use Rattle.qls_decide.specs.declared.ListState.{ListState}
use Rattle.qls_decide.specs.declared.ListEntry.{ListEntry}
use Rattle.qls_decide.specs.Entries.{entry_of, with_entry}
use Rattle.qls_meaning.specs.Reading.{read_of}
use Rattle.qls_meaning.specs.Replay.{decide_entry, decision, is_undecided}
use Rattle.qls_replay.specs.Entries.{Pair, entry_for, entries_of}
use Rattle.qls_replay.proofs.Placing.{looked_up}
use Rattle.qls_replay.proofs.list.decide.Goals as goal
use Rattle.qls_replay.proofs.list.decide.Goals.{else-rid-got-via-then-rid-got+else-is_undecided, else-rid-got-via-else-rid-got}

entry_found : (x : List ℕ) (ps : List Pair) (o : Option (ℕ × ListState)) → o ≡ lookup (xid_eq x) ps → entry_of x (entries_of ps) ≡ option_map (λ v. entry_for (x, v)) o
entry_found x ps o e = looked_up x ps ∙ ap (option_map (λ v. entry_for (x, v))) (sym (e ∙ ap (λ f. lookup (f x) ps) xid_eq_is))

both : (a b : Bool) → a ≡ true → b ≡ true → (a && b) ≡ true
both true b e f = f
both false b e f = absurd (cc)

second_not : (a b : Bool) → b ≡ false → (a && b) ≡ false
second_not true b f = f
second_not false b f = refl

first_not : (a b : Bool) → a ≡ false → (a && b) ≡ false
first_not true b f = absurd (cc)
first_not false b f = refl

equal : (a b : ℕ) → a ≡ b → (a == b) ≡ true
equal a b e = grind arith

differs : (a b : ℕ) → (a ≡ b → ⊥) → (a == b) ≡ false
differs a b n = grind arith

decided_by : (r : Record) (e : ListEntry) (es : List ListEntry) (b : Bool) → (e.rid == r.target && is_undecided e.state) ≡ b → decide_entry r (Some e) es ≡ cond b (with_entry (record e { state = decision r.flagged }) es) es
decided_by r e es b h = ap (λ t. cond t (with_entry (record e { state = decision r.flagged }) es) es) h

pub returns-then-is_undecided-clause-decided : goal.returns-then-is_undecided-clause-decided
returns-then-is_undecided-clause-decided c =
    let got = c.args.got.now in
    let es = entries_of c.args.entries.now.entries in
    let r = (read_of got).what in
    let f = entry_found got.xid c.args.entries.now.entries (Some (c.in-Some.rid, c.in-Some.state)) (sym c.in-Some.is ∙ c.copied.ensures ∙ c.get.ensures.value) in
    let e : ListEntry = entry_for (got.xid, (c.in-Some.rid, c.in-Some.state)) in
    let d = ap (λ o. decide_entry r o es) f
    ∙ decided_by r e es true (both (c.in-Some.rid == got.head.target) (is_undecided c.in-Some.state) (equal c.in-Some.rid got.head.target c.if-rid-got.true) (sym c.is_undecided.ensures.undecided ∙ c.if-is_undecided.true))
    ∙ ap {A = ListState} (λ s. with_entry (record e { state = s }) es) (sym c.decision.ensures.decided) in
    subst (λ l. IfOk c.set.result (λ _. entries_of c.set.new.entries.entries ≡ l)) (sym d) c.set.ensures.set

pub returns-then-is_undecided-clause-fewer : goal.returns-then-is_undecided-clause-fewer
returns-then-is_undecided-clause-fewer c =
    let f = entry_found c.args.got.now.xid c.args.entries.now.entries (Some (c.in-Some.rid, c.in-Some.state)) (sym c.in-Some.is ∙ c.copied.ensures ∙ c.get.ensures.value) in
    c.set.ensures.known (ap is_some f)

pub returns-in-None-clause-decided : goal.returns-in-None-clause-decided
returns-in-None-clause-decided c =
    let got = c.args.got.now in
    sym (ap (λ o. decide_entry (read_of got).what o (entries_of c.args.entries.now.entries)) (entry_found got.xid c.args.entries.now.entries None (sym c.in-None.is ∙ c.copied.ensures ∙ c.get.ensures.value)))

pub returns-else-rid-got-clause-decided : goal.returns-else-rid-got-clause-decided
returns-else-rid-got-clause-decided c =
    let got = c.args.got.now in
    let es = entries_of c.args.entries.now.entries in
    let r = (read_of got).what in
    let f = entry_found got.xid c.args.entries.now.entries (Some (c.in-Some.rid, c.in-Some.state)) (sym c.in-Some.is ∙ c.copied.ensures ∙ c.get.ensures.value) in
    let e : ListEntry = entry_for (got.xid, (c.in-Some.rid, c.in-Some.state)) in
    elim c.else-rid-got.branch [
      | else-rid-got-via-then-rid-got+else-is_undecided w ↦ sym (ap (λ o. decide_entry r o es) f ∙ decided_by r e es false (second_not (c.in-Some.rid == got.head.target) (is_undecided c.in-Some.state) (sym w.is_undecided.ensures.undecided ∙ w.if-is_undecided.false)))
      | else-rid-got-via-else-rid-got w ↦ sym (ap (λ o. decide_entry r o es) f ∙ decided_by r e es false (first_not (c.in-Some.rid == got.head.target) (is_undecided c.in-Some.state) (differs c.in-Some.rid got.head.target w.if-rid-got.false)))
    ]
