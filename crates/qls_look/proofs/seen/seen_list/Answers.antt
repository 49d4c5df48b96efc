use Rattle.std.proofs.Common.{List, [], take, sym, ap, ◌∙◌}
use Rattle.std.specs.List.{filter_map}
use Rattle.std.specs.HashMap.{get as looked_up}
use Rattle.qls_model.specs.Bytes.{same}
use Rattle.qls_model.specs.Machine.{MachineState, XidState, xid_named}
use Rattle.qls_meaning.specs.Meaning.{in_doubt}
use Rattle.qls_look.specs.Seen.{with_doubt}
use Rattle.qls_look.proofs.Lists.{rise_front, one_more, next_states}
use Rattle.qls_look.proofs.Order.{xid_absent, doubt_next}
use Rattle.qls_look.proofs.seen.seen_list.Goals as goal

pub add_entry-requires : goal.add_entry-requires
add_entry-requires c =
    let es = c.args.entries.now in
    let k = c.loop-entry.entry-index in
    let e = c.entry-item.result in
    record {
      absent =
          ap (λ (S : MachineState). xid_named e.xid S.xids) c.loop-entry.invariant.state
          ∙ xid_absent e.xid (take k es) (rise_front es k e c.loop-entry-test.true c.entry-item.is c.requires.rise);
    }

pub loop-entry-preserved : goal.loop-entry-preserved
loop-entry-preserved c =
    let es = c.args.entries.now in
    let k = c.loop-entry.entry-index in
    let e = c.entry-item.result in
    let front = rise_front es k e c.loop-entry-test.true c.entry-item.is c.requires.rise in
    record {
      state =
          c.in_ok-add_entry.ensures.state
          ∙ ap (λ (S : MachineState). record S { xids = with_doubt (in_doubt e) S.xids }) c.loop-entry.invariant.state
          ∙ ap (λ (xs : List XidState). record { queues = []; xids = xs }) (doubt_next e (take k es) front ∙ ap (filter_map in_doubt) (sym (one_more es k e c.loop-entry-test.true c.entry-item.is)));
      states = λ x.
          next_states x es k e (looked_up same c.loop-entry.seen.states x) (looked_up same c.add_entry.new.seen.states x) c.loop-entry-test.true c.entry-item.is c.requires.rise
          (c.in_ok-add_entry.ensures.states x) (c.loop-entry.invariant.states x);
    }
