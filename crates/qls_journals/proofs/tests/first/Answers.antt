use Rattle.std.proofs.Common.{sym}
use Rattle.qls_journals.proofs.Tested.{first_state, no_first}
use Rattle.qls_journals.proofs.tests.first.Goals as goal

pub returns-in_err-entry-clause-none : goal.returns-in_err-entry-clause-none
returns-in_err-entry-clause-none c = λ none. no_first c.args.journals.now.list.entries (sym c.in_err-entry.ensures.exact)

pub returns-clause-state : goal.returns-clause-state
returns-clause-state c = first_state c.args.journals.now.list.entries c.in_ok-entry.entry.now (sym c.in_ok-entry.ensures.exact)
