use Rattle.std.proofs.Common.{[], ap, ◌∙◌}
use Rattle.qls_txnmap.specs.Pending.{ops_of}
use Rattle.qls_replay.specs.Ops.{has_op, ended_all}
use Rattle.qls_replay.proofs.Decided.{handed_is, handed_none}
use Rattle.qls_replay.proofs.EndLaws.{all_ended}
use Rattle.qls_replay.proofs.Agreeing.{agrees_ended}
use Rattle.qls_replay.proofs.ends.end_transaction.Goals as goal

pub returns-in-Some-clause-ended : goal.returns-in-Some-clause-ended
returns-in-Some-clause-ended c =
    let x = c.args.xid.now in
    let e = handed_is c.in-Some.ops (ops_of x c.args.txns.now) c.in-Some.ensures.handed in
    c.end_ops.ensures.ended ∙ ap (λ ops. ended_all c.args.commit ops c.args.held.now) c.as_slice.ensures.same
    ∙ all_ended c.args.commit x c.in-Some.ops c.args.held.now c.requires.rising (λ op. ap (has_op op) e ∙ c.requires.agrees x op)

pub returns-in-Some-clause-agrees : goal.returns-in-Some-clause-agrees
returns-in-Some-clause-agrees c =
    let x = c.args.xid.now in
    let e = handed_is c.in-Some.ops (ops_of x c.args.txns.now) c.in-Some.ensures.handed in
    let d = c.end_ops.ensures.ended ∙ ap (λ ops. ended_all c.args.commit ops c.args.held.now) c.as_slice.ensures.same
    ∙ all_ended c.args.commit x c.in-Some.ops c.args.held.now c.requires.rising (λ op. ap (has_op op) e ∙ c.requires.agrees x op) in
    agrees_ended c.args.commit x c.args.held.now c.end_ops.new.held c.args.txns.now c.finish.new.self c.requires.agrees d c.finish.ensures.removed

pub returns-in-None-clause-ended : goal.returns-in-None-clause-ended
returns-in-None-clause-ended c =
    let x = c.args.xid.now in
    let e = handed_none (ops_of x c.args.txns.now) c.in-None.ensures.handed in
    all_ended c.args.commit x [] c.args.held.now c.requires.rising (λ op. ap (has_op op) e ∙ c.requires.agrees x op)
