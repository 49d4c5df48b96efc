use Rattle.qls_pool.proofs.FirstTaken.{link_takes_first, taking_step, taking_steps, first_then}
use Rattle.qls_pool.proofs.laws.first_files_are_taken_in_order.Goals as goal

pub returns-clause-link : goal.returns-clause-link
returns-clause-link c = link_takes_first

pub returns-clause-step : goal.returns-clause-step
returns-clause-step c = taking_step

pub returns-clause-steps : goal.returns-clause-steps
returns-clause-steps c = taking_steps

pub returns-clause-join : goal.returns-clause-join
returns-clause-join c = first_then
