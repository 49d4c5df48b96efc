use Rattle.qls_journals.proofs.Meanings.{meaning_is, none_dead, none_past, list_rid_is}
use Rattle.qls_journals.proofs.laws.whole_journals_are_their_meaning.Goals as goal

pub returns : goal.returns
returns c = record { meaning = meaning_is; alive = none_dead; past = none_past; rid = list_rid_is }
