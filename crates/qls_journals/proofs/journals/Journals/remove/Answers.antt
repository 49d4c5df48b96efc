use Rattle.std.proofs.Common.{◌<◌, ap, subst, arith, length}
use Rattle.qls_log.specs.Steps.{IsLogStep}
use Rattle.qls_journals.specs.State.{JournalsState, AreJournals}
use Rattle.qls_journals.proofs.Dropping.{IsDropped, dropped_there, place_within, kept_queue, stands_there, leaves_so, store_passes, pool_there, writes_failed, causes_dropped, pools_untaken, handed_store, handed_queues, handed_homes, handed_released, handed_changes, handed_alive, handed_writes}
use Rattle.qls_journals.proofs.Writing.{passes_of}
use Rattle.qls_journals.proofs.journals.Journals.remove.Given.{Over}
use Rattle.qls_journals.proofs.journals.Journals.remove.Goals as goal

pub remove-queue-requires : goal.remove-queue-requires
remove-queue-requires g c =
    let within : c.args.at < length c.self.inside.queues.items = place_within (record { home = c.self.inside.home; pool = c.self.inside.pool; queues = c.self.inside.queues.items; list = c.self.inside.list }) c.args.self c.self.view_is c.args.name.now c.args.at c.requires.place in
    omega (arith, within)

-- ---- what is asked

pub drop_empty-requires-clause-unended : goal.drop_empty-requires-clause-unended
drop_empty-requires-clause-unended g c =
    let was : JournalsState = record { home = c.self.inside.home; pool = c.self.inside.pool; queues = c.self.inside.queues.items; list = c.self.inside.list } in
    let gone : IsDropped c.args.self c.args.at c.args.name.now c.remove-queue.result = dropped_there was c.args.self c.self.view_is c.args.name.now c.args.at c.remove-queue.result c.requires.place c.requires.empty c.requires.one c.remove-queue.ensures.value in
    (kept_queue c.args.self (subst AreJournals c.self.view_is c.self.invariant) c.args.at c.args.name.now c.remove-queue.result gone).unended

pub drop_empty-requires-clause-empty : goal.drop_empty-requires-clause-empty
drop_empty-requires-clause-empty g c =
    let was : JournalsState = record { home = c.self.inside.home; pool = c.self.inside.pool; queues = c.self.inside.queues.items; list = c.self.inside.list } in
    let gone : IsDropped c.args.self c.args.at c.args.name.now c.remove-queue.result = dropped_there was c.args.self c.self.view_is c.args.name.now c.args.at c.remove-queue.result c.requires.place c.requires.empty c.requires.one c.remove-queue.ensures.value in
    gone.empty

pub drop_empty-requires-clause-one : goal.drop_empty-requires-clause-one
drop_empty-requires-clause-one g c =
    let was : JournalsState = record { home = c.self.inside.home; pool = c.self.inside.pool; queues = c.self.inside.queues.items; list = c.self.inside.list } in
    let gone : IsDropped c.args.self c.args.at c.args.name.now c.remove-queue.result = dropped_there was c.args.self c.self.view_is c.args.name.now c.args.at c.remove-queue.result c.requires.place c.requires.empty c.requires.one c.remove-queue.ensures.value in
    gone.one

pub drop_empty-requires-clause-there : goal.drop_empty-requires-clause-there
drop_empty-requires-clause-there g c =
    let was : JournalsState = record { home = c.self.inside.home; pool = c.self.inside.pool; queues = c.self.inside.queues.items; list = c.self.inside.list } in
    let gone : IsDropped c.args.self c.args.at c.args.name.now c.remove-queue.result = dropped_there was c.args.self c.self.view_is c.args.name.now c.args.at c.remove-queue.result c.requires.place c.requires.empty c.requires.one c.remove-queue.ensures.value in
    stands_there c.args.self (subst AreJournals c.self.view_is c.self.invariant) c.args.at c.args.name.now c.remove-queue.result gone (g.S.Site.told c.args.site.now) c.requires.fits

pub drop_empty-requires-clause-pool : goal.drop_empty-requires-clause-pool
drop_empty-requires-clause-pool g c =
    let was : JournalsState = record { home = c.self.inside.home; pool = c.self.inside.pool; queues = c.self.inside.queues.items; list = c.self.inside.list } in
    pool_there was c.args.self c.self.view_is (g.S.Site.told c.args.site.now) c.requires.fits

-- ---- after an error

pub returns-in-Err-clause-told : goal.returns-in-Err-clause-told
returns-in-Err-clause-told g c =
    let was : JournalsState = record { home = c.self.inside.home; pool = c.self.inside.pool; queues = c.self.inside.queues.items; list = c.self.inside.list } in
    let gone : IsDropped c.args.self c.args.at c.args.name.now c.remove-queue.result = dropped_there was c.args.self c.self.view_is c.args.name.now c.args.at c.remove-queue.result c.requires.place c.requires.empty c.requires.one c.remove-queue.ensures.value in
    store_passes c.args.self (subst AreJournals c.self.view_is c.self.invariant) c.args.at c.args.name.now c.remove-queue.result gone c.drop_empty.result _ _ c.drop_empty.ensures.went

pub returns-in-Err-clause-leaves : goal.returns-in-Err-clause-leaves
returns-in-Err-clause-leaves g c =
    let was : JournalsState = record { home = c.self.inside.home; pool = c.self.inside.pool; queues = c.self.inside.queues.items; list = c.self.inside.list } in
    let gone : IsDropped c.args.self c.args.at c.args.name.now c.remove-queue.result = dropped_there was c.args.self c.self.view_is c.args.name.now c.args.at c.remove-queue.result c.requires.place c.requires.empty c.requires.one c.remove-queue.ensures.value in
    leaves_so c.args.self (subst AreJournals c.self.view_is c.self.invariant) c.args.at c.args.name.now c.remove-queue.result gone _ _ c.drop_empty.ensures.leaves

pub returns-in-Err-clause-writes : goal.returns-in-Err-clause-writes
returns-in-Err-clause-writes g c = writes_failed c.args.self c.cause_of_queue.result _ _ c.drop_empty.ensures.writes

pub returns-in-Err-clause-pools : goal.returns-in-Err-clause-pools
returns-in-Err-clause-pools g c = λ homes.
    pools_untaken homes (IsLogStep c.remove-queue.result.log.opening) _ _ (passes_of (IsLogStep c.remove-queue.result.log.opening) c.drop_empty.result _ _ c.drop_empty.ensures.went) c.drop_empty.ensures.none

pub returns-in-Err-clause-causes : goal.returns-in-Err-clause-causes
returns-in-Err-clause-causes g c = causes_dropped c.in-Err.error c.cause_of_queue.result _ _ c.drop_empty.result c.in-Err.is c.in-Err.ensures.only c.cause_of_queue.ensures.exact c.drop_empty.ensures.cause

-- ---- it is gone

abbrev was_in : (g : Over) (c : goal.In-Ok g) → JournalsState
was_in g c = record { home = c.self.inside.home; pool = c.self.inside.pool; queues = c.self.inside.queues.items; list = c.self.inside.list }

store_in : (g : Over) (c : goal.In-Ok g) → AreJournals c.args.self
store_in g c = subst AreJournals c.self.view_is c.self.invariant

gone_in : (g : Over) (c : goal.In-Ok g) → IsDropped c.args.self c.args.at c.args.name.now c.remove-queue.result
gone_in g c = dropped_there (was_in g c) c.args.self c.self.view_is c.args.name.now c.args.at c.remove-queue.result c.requires.place c.requires.empty c.requires.one c.remove-queue.ensures.value

pub invariant_of-self : goal.invariant_of-self
invariant_of-self g c =
    handed_store (was_in g c) c.args.self c.self.view_is (store_in g c) c.args.at c.args.name.now c.remove-queue.result (gone_in g c) c.drop_empty.new.pool c.remove-queue.new.self.items c.remove-queue.ensures.items

pub returns-in-Ok-clause-queues : goal.returns-in-Ok-clause-queues
returns-in-Ok-clause-queues g c =
    handed_queues (was_in g c) c.args.self c.self.view_is (store_in g c) c.args.at c.args.name.now c.remove-queue.result (gone_in g c) c.drop_empty.new.pool c.remove-queue.new.self.items c.remove-queue.ensures.items

pub returns-in-Ok-clause-list : goal.returns-in-Ok-clause-list
returns-in-Ok-clause-list g c = ap (λ (s : JournalsState). s.list) c.self.view_is

pub returns-in-Ok-clause-kept : goal.returns-in-Ok-clause-kept
returns-in-Ok-clause-kept g c =
    handed_store (was_in g c) c.args.self c.self.view_is (store_in g c) c.args.at c.args.name.now c.remove-queue.result (gone_in g c) c.drop_empty.new.pool c.remove-queue.new.self.items c.remove-queue.ensures.items

pub returns-in-Ok-clause-released : goal.returns-in-Ok-clause-released
returns-in-Ok-clause-released g c =
    handed_released (was_in g c) c.args.self c.self.view_is (store_in g c) c.args.at c.args.name.now c.remove-queue.result (gone_in g c) c.drop_empty.new.pool c.remove-queue.new.self.items c.remove-queue.ensures.items

pub returns-in-Ok-clause-told : goal.returns-in-Ok-clause-told
returns-in-Ok-clause-told g c =
    handed_changes (was_in g c) c.args.self c.self.view_is (store_in g c) c.args.at c.args.name.now c.remove-queue.result (gone_in g c) c.drop_empty.new.pool c.remove-queue.new.self.items c.remove-queue.ensures.items
    (g.S.Site.told c.args.site.now) (g.S.Site.told c.drop_empty.new.site) c.requires.fits c.in-Ok.ensures.went c.in-Ok.ensures.quiet c.in-Ok.ensures.gone c.in-Ok.ensures.pool c.in-Ok.ensures.told

pub returns-in-Ok-clause-alive : goal.returns-in-Ok-clause-alive
returns-in-Ok-clause-alive g c =
    handed_alive (was_in g c) c.args.self c.self.view_is (store_in g c) c.args.at c.args.name.now c.remove-queue.result (gone_in g c) c.drop_empty.new.pool c.remove-queue.new.self.items c.remove-queue.ensures.items
    (g.S.Site.told c.args.site.now) (g.S.Site.told c.drop_empty.new.site) c.in-Ok.ensures.went

pub returns-in-Ok-clause-leaves : goal.returns-in-Ok-clause-leaves
returns-in-Ok-clause-leaves g c = leaves_so c.args.self (store_in g c) c.args.at c.args.name.now c.remove-queue.result (gone_in g c) _ _ c.drop_empty.ensures.leaves

pub returns-in-Ok-clause-writes : goal.returns-in-Ok-clause-writes
returns-in-Ok-clause-writes g c =
    handed_writes (was_in g c) c.args.self c.self.view_is (store_in g c) c.args.at c.args.name.now c.remove-queue.result (gone_in g c) c.drop_empty.new.pool c.remove-queue.new.self.items c.remove-queue.ensures.items
    c.files_that_stay_stay_written.ensures.stays (g.S.Site.told c.args.site.now) (g.S.Site.told c.drop_empty.new.site) c.requires.fits c.in-Ok.ensures.went c.drop_empty.ensures.writes

pub returns-in-Ok-clause-homes : goal.returns-in-Ok-clause-homes
returns-in-Ok-clause-homes g c =
    handed_homes (was_in g c) c.args.self c.self.view_is (store_in g c) c.args.at c.args.name.now c.remove-queue.result (gone_in g c) c.drop_empty.new.pool c.remove-queue.new.self.items c.remove-queue.ensures.items

pub returns-in-Ok-clause-pools : goal.returns-in-Ok-clause-pools
returns-in-Ok-clause-pools g c = λ homes.
    pools_untaken homes (IsLogStep c.remove-queue.result.log.opening) _ _ (passes_of (IsLogStep c.remove-queue.result.log.opening) c.drop_empty.result _ _ c.drop_empty.ensures.went) c.drop_empty.ensures.none
