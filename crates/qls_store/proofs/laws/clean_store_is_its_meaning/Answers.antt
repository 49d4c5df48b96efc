use Rattle.std.proofs.Common.{Ok, ap, ◌∙◌}
use Rattle.qls_store.proofs.MeansSettled.{settled, clean_whole}
use Rattle.qls_store.proofs.laws.clean_store_is_its_meaning.Goals as goal

pub returns-clause-meaning : goal.returns-clause-meaning
returns-clause-meaning c = λ s d h f w. c.whole_journals_are_their_meaning.ensures.meaning s.journals d h.journals f (clean_whole s.journals d w) ∙ ap (λ S. Ok S) (settled s h)

pub returns-clause-alive : goal.returns-clause-alive
returns-clause-alive c = λ s d h f w. c.whole_journals_are_their_meaning.ensures.alive s.journals d h.journals f w

pub returns-clause-past : goal.returns-clause-past
returns-clause-past c = λ s d h f w. c.whole_journals_are_their_meaning.ensures.past s.journals d h.journals f (clean_whole s.journals d w)

pub returns-clause-rid : goal.returns-clause-rid
returns-clause-rid c = λ s d h f w. c.whole_journals_are_their_meaning.ensures.rid s.journals d h.journals f (clean_whole s.journals d w)
