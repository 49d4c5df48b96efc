use Rattle.std.proofs.Common.{◌≡◌, None, sym, subst}
use Rattle.qls_model.specs.Machine.{MachineState, xid_named}
use Rattle.qls_model.specs.declared.machine.Phase.TheVariants.{Prepared}
use Rattle.qls_model.proofs.SoundLaws.{xid_put-sound}
use Rattle.qls_model.proofs.state.State.put_prepared.Goals as goal

pub invariant_of-self : goal.invariant_of-self
invariant_of-self c =
    let absent = subst (λ (S : MachineState). xid_named c.args.xid S.xids ≡ None) (sym c.self.view_is) c.requires.absent in
    xid_put-sound (record { xid = c.args.xid; phase = Prepared }) _ _ _ c.add_xid.result c.self.invariant absent c.add_xid.ensures.added c.add_xid.ensures.kept
