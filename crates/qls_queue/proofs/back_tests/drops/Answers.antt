use Rattle.std.proofs.Common.{rules, ◌≡◌, true, false, List, [], ◌∷◌, Option, Some, None, IfSome, refl, sym, ap, ◌∙◌, option_map}
use Rattle.std.specs.Prelude.{is_some}
use Rattle.std.specs.List.{slice_get}
use Rattle.qls_model.specs.declared.machine.Message.{Message}
use Rattle.qls_site.specs.Content.{Content}
use Rattle.qls_pool.specs.Pools.{PoolState}
use Rattle.qls_pool.specs.Files.{IsPoolOf, IsWholePool, OnDisk}
use Rattle.qls_queue.specs.Answers.{numbered}
use Rattle.qls_queue.proofs.back_tests.drops.Goals as goal

none_first : (ms : List Message) → is_some (option_map numbered (slice_get ms 0)) ≡ false → ms ≡ []
none_first [] e = refl
none_first (m ∷ ms) e = absurd (cc)

told_pool : (pool : PoolState) (a : Option Content) → IfSome a (OnDisk (IsWholePool pool)) → IfSome a (OnDisk (IsPoolOf pool []))
told_pool pool None h = tt
told_pool pool (Some x) h = h.1

pub drop_empty-requires-clause-empty : goal.drop_empty-requires-clause-empty
drop_empty-requires-clause-empty g c = none_first c.take.new.self.queue.messages (sym (ap is_some c.message_at.ensures.exact) ∙ sym c.is_some.ensures ∙ c.if-is_some.false)

pub drop_empty-requires-clause-one : goal.drop_empty-requires-clause-one
drop_empty-requires-clause-one g c = c.in_ok-take.ensures.one (none_first c.take.new.self.queue.messages (sym (ap is_some c.message_at.ensures.exact) ∙ sym c.is_some.ensures ∙ c.if-is_some.false))

pub drop_empty-requires-clause-pool : goal.drop_empty-requires-clause-pool
drop_empty-requires-clause-pool g c = told_pool c.take.new.pool (g.S.Site.told c.take.new.site) (c.in_ok-take.ensures.pool (search rules))
