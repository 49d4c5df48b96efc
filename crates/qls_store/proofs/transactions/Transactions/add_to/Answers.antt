use Rattle.std.proofs.Common.{List, ap, sym, subst, ◌∙◌}
use Rattle.qls_model.specs.Machine.{MachineState, XidState, xid_named, with_xid}
use Rattle.qls_store.specs.Stores.{TransactionState, XidsRise}
use Rattle.qls_store.proofs.Machines.{entry_of}
use Rattle.qls_store.proofs.States.{xid_absent, xid_added}
use Rattle.qls_store.proofs.transactions.Transactions.add_to.Goals as goal

pub add_xid-requires : goal.add_xid-requires
add_xid-requires c =
    let ts = c.deref-item-items.result.now in
    let t = c.item-item.result in
    let rising : XidsRise ts = subst XidsRise (sym (c.deref-item-items.ensures.value ∙ c.self.view_is)) c.requires.rising in
    record {
      absent =
          ap (λ (u : TransactionState). xid_named u.xid c.loop-item.state.xids) c.item.view_is ∙ ap (λ (s : MachineState). xid_named t.xid s.xids) c.loop-item.invariant
          ∙ xid_absent ts rising c.loop-item.item-index t c.loop-item-test.true c.item-item.is;
    }

pub loop-item-preserved : goal.loop-item-preserved
loop-item-preserved c =
    let ts = c.deref-item-items.result.now in
    let t = c.item-item.result in
    let rising : XidsRise ts = subst XidsRise (sym (c.deref-item-items.ensures.value ∙ c.self.view_is)) c.requires.rising in
    c.in_ok-add_xid.ensures.added ∙ ap (λ (u : TransactionState). record c.loop-item.state { xids = with_xid (entry_of u) c.loop-item.state.xids }) c.item.view_is
    ∙ ap (λ (s : MachineState). record s { xids = with_xid (entry_of t) s.xids }) c.loop-item.invariant
    ∙ ap (λ (xs : List XidState). record c.args.state.now { xids = xs }) (xid_added ts rising c.loop-item.item-index t c.loop-item-test.true c.item-item.is)
