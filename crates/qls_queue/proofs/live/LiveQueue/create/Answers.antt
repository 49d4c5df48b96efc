use Rattle.std.proofs.Common.{◌≡◌, Err, rules}
use Rattle.qls_log.specs.Steps.{IsLogStep}
use Rattle.qls_queue.specs.Faults.{fault_of_log}
use Rattle.qls_queue.specs.Records.{opening_of}
use Rattle.qls_queue.proofs.Begun.{told_begins_clean}
use Rattle.qls_queue.proofs.Going.{told_fault, draws_fault, told_begun_err}
use Rattle.qls_log.specs.declared.log.Log.{Log}
use Rattle.qls_queue.proofs.live.LiveQueue.create.Goals as goal

pub returns-clause-clean : goal.returns-clause-clean
returns-clause-clean g c =
    told_begins_clean (opening_of c.args.name c.args.home) c.in_ok-log.log c.new.result.held _ _ c.new.ensures.nothing c.in_ok-log.ensures.new c.in_ok-log.ensures.there c.in_ok-log.ensures.begins c.in_ok-log.ensures.sound

pub returns-in_err-log-clause-went : goal.returns-in_err-log-clause-went
returns-in_err-log-clause-went g c =
    let is : Err (fault_of_log c.in_err-log.field-0.0) ≡ c.from_residual.result = search (rules, c.from_residual.ensures) in
    told_fault (IsLogStep (opening_of c.args.name c.args.home)) Log c.in_err-log.field-0.0 c.from_residual.result _ _ is c.in_err-log.ensures.went

pub returns-in_err-log-clause-drew : goal.returns-in_err-log-clause-drew
returns-in_err-log-clause-drew g c =
    let is : Err (fault_of_log c.in_err-log.field-0.0) ≡ c.from_residual.result = search (rules, c.from_residual.ensures) in
    draws_fault Log c.in_err-log.field-0.0 c.from_residual.result _ _ _ _ is c.in_err-log.ensures.drew

pub returns-in_err-log-clause-writes : goal.returns-in_err-log-clause-writes
returns-in_err-log-clause-writes g c = told_begun_err Log c.in_err-log.field-0.0 c.from_residual.result (λ l. l) _ _ c.from_residual.ensures.0 c.in_err-log.ensures.writes
