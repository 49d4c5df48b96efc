use Rattle.std.proofs.Common.{◌≡◌, List, ℕ, [], None, sym, ap, subst, ◌∙◌}
use Rattle.std.specs.List.{insert}
use Rattle.qls_model.specs.declared.machine.Phase.TheVariants.{Open}
use Rattle.qls_store.specs.Stores.{TransactionState, XidsRise}
use Rattle.qls_store.specs.Table.{begun, phase_in}
use Rattle.qls_store.proofs.Placed.{isnt_there, placed_in}
use Rattle.qls_store.proofs.transactions.Transactions.begin.Goals.{in-Ok, in-Ok-2}
use Rattle.qls_store.proofs.transactions.Transactions.begin.Goals as goal

pub returns : goal.returns
returns c =
    let x = c.args.xid in
    let ts = c.self.inside.items.items in
    let rising : XidsRise ts = subst XidsRise (sym c.self.view_is) c.requires.rising in
    let none : phase_in x ts ≡ None = ap (phase_in x) c.self.view_is ∙ c.requires.none in
    let one : List (List ℕ) → TransactionState = λ ns. record { xid = x; phase = Open; queues = ns } in
    record {
      begun = elim c.match-place_of.branch as (λ _. c.insert.new.self.items ≡ begun x c.args.self.now) [
        | in-Ok w ↦ absurd (isnt_there x c.deref.result.now ts c.deref.ensures.value w.in-Ok.place rising none w.in-Ok.ensures.place)
        | in-Ok-2 w ↦
            c.in_ok-insert.ensures.items ∙ ap (λ k. insert ts k (one c.new.result.items)) w.place-is ∙ ap (λ ns. insert ts w.in-Ok.place (one ns)) c.new.ensures.items
            ∙ placed_in (one []) c.deref.result.now ts c.deref.ensures.value w.in-Ok.place w.in-Ok.ensures.place
            ∙ ap (begun x) c.self.view_is
      ];
    }
