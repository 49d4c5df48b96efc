use Rattle.std.proofs.Common.{◌≡◌, ◌^◌, ◌<◌, List, Result, Err, refl, ap, sym, subst, ◌∙◌}
use Rattle.std.specs.List.{insert}
use Rattle.qls_pool.specs.Pools.{IsSpent}
use Rattle.qls_log.specs.Taking.{TakesFiles}
use Rattle.qls_site.specs.Content.{Tells}
use Rattle.qls_log.specs.Steps.{IsLogStep}
use Rattle.qls_queue.specs.Live.{LiveState}
use Rattle.qls_queue.specs.Records.{opening_of}
use Rattle.qls_queue.specs.declared.fault.QueueError.TheVariants as queue
use Rattle.qls_journals.specs.declared.cause.Cause.{Cause}
use Rattle.qls_journals.specs.declared.cause.Cause.TheVariants.{Spent}
use Rattle.qls_journals.specs.State.{JournalsState, AreJournals}
use Rattle.qls_journals.proofs.Making.{IsMade, legal_opening, leaves_staying, asked, stops, pools_made, had_file, failed_told, writes_unmade, none_written, drawn_so, drawn_cause, spent_error, causes_made, store_passed, none_passed, not_ended, handed_store, handed_queues, handed_homes, handed_released, handed_changes, handed_alive, handed_writes}
use Rattle.qls_journals.proofs.Resting.{leaves_none, drawn_none}
use Rattle.qls_journals.proofs.Writing.{passes_of}
use Rattle.qls_journals.proofs.journals.Journals.create.Given.{Over}
use Rattle.qls_journals.proofs.journals.Journals.create.Goals as goal

-- ---- no call was made

pub returns-in_err-reserve-clause-told : goal.returns-in_err-reserve-clause-told
returns-in_err-reserve-clause-told g c = failed_told _ c.from_residual.result _ _ c.from_residual.ensures.0 (none_passed (g.S.Site.told c.args.site.now))

pub returns-in_err-reserve-clause-drawn : goal.returns-in_err-reserve-clause-drawn
returns-in_err-reserve-clause-drawn g c = drawn_none _ (g.S.Site.told c.args.site.now) (g.N.Serials.drawn c.args.serials.now)

pub returns-in_err-reserve-clause-leaves : goal.returns-in_err-reserve-clause-leaves
returns-in_err-reserve-clause-leaves g c = leaves_none c.args.self (g.S.Site.told c.args.site.now)

pub returns-in_err-reserve-clause-writes : goal.returns-in_err-reserve-clause-writes
returns-in_err-reserve-clause-writes g c = none_written c.from_residual.result c.args.self (g.S.Site.told c.args.site.now) c.from_residual.ensures.0

-- ---- the new queue

pub create-requires-clause-legal : goal.create-requires-clause-legal
create-requires-clause-legal g c = legal_opening c.args.name c.args.home c.requires.name c.requires.home

pub create-requires-clause-new : goal.create-requires-clause-new
create-requires-clause-new g c = asked c.args.self (subst AreJournals c.self.view_is c.self.invariant) c.args.name c.args.home c.args.at c.requires.place (g.S.Site.told c.args.site.now) c.requires.fits

pub returns-in-Err-clause-told : goal.returns-in-Err-clause-told
returns-in-Err-clause-told g c = store_passed c.args.name c.args.home _ _ (passes_of (IsLogStep (opening_of c.args.name c.args.home)) c.create.result _ _ c.create.ensures.went)

pub returns-in-Err-clause-drawn : goal.returns-in-Err-clause-drawn
returns-in-Err-clause-drawn g c = drawn_cause c.in-Err.error c.cause_of_queue.result _ _ _ _ c.cause_of_queue.ensures.exact c.in-Err.ensures.drew

pub returns-in-Err-clause-leaves : goal.returns-in-Err-clause-leaves
returns-in-Err-clause-leaves g c = leaves_staying c.args.self _ _ c.create.ensures.stays

pub returns-in-Err-clause-writes : goal.returns-in-Err-clause-writes
returns-in-Err-clause-writes g c = writes_unmade c.create.result (Err c.cause_of_queue.result) c.args.self _ _ refl c.create.ensures.writes

pub returns-in-Err-clause-pools : goal.returns-in-Err-clause-pools
returns-in-Err-clause-pools g c =
    pools_made c.args.self (subst AreJournals c.self.view_is c.self.invariant) c.args.name c.args.home c.args.at c.requires.place _ _
    (passes_of (IsLogStep (opening_of c.args.name c.args.home)) c.create.result _ _ c.create.ensures.went)

pub returns-in-Err-clause-spent : goal.returns-in-Err-clause-spent
returns-in-Err-clause-spent g c = λ e.
    let is : c.create.result ≡ Err queue.Spent = c.in-Err.is ∙ ap Err (spent_error c.in-Err.error c.cause_of_queue.result c.cause_of_queue.ensures.exact (cause_is c.cause_of_queue.result e)) in
    stops c.args.self (subst AreJournals c.self.view_is c.self.invariant) c.args.name c.args.home c.args.at c.requires.place c.create.new.pool _ _ c.requires.fits (ap g.S.Site.told (c.create.ensures.no_call is))
    (c.create.ensures.spent_pool is ∙ ap (λ (s : JournalsState). s.pool) c.self.view_is) (c.create.ensures.spent is)
  where
    cause_is : (k : Cause) → ◌≡◌ {A = Result JournalsState Cause} (Err k) (Err Spent) → k ≡ Spent
    cause_is k e = cc

pub returns-in-Err-clause-causes : goal.returns-in-Err-clause-causes
returns-in-Err-clause-causes g c = causes_made c.in-Err.error c.cause_of_queue.result _ _ _ _ c.create.result c.in-Err.is c.cause_of_queue.ensures.exact c.create.ensures.cause

-- ---- it finds no room

pub returns-in_err-insert-clause-told : goal.returns-in_err-insert-clause-told
returns-in_err-insert-clause-told g c =
    failed_told _ c.from_residual-in_err-insert.result _ _ c.from_residual-in_err-insert.ensures.0
    (store_passed c.args.name c.args.home _ _ (passes_of (IsLogStep (opening_of c.args.name c.args.home)) c.create.result _ _ c.create.ensures.went))

pub returns-in_err-insert-clause-drawn : goal.returns-in_err-insert-clause-drawn
returns-in_err-insert-clause-drawn g c = drawn_so _ _ _ _ _ c.in-Ok.ensures.drew

pub returns-in_err-insert-clause-leaves : goal.returns-in_err-insert-clause-leaves
returns-in_err-insert-clause-leaves g c = leaves_staying c.args.self _ _ c.create.ensures.stays

pub returns-in_err-insert-clause-writes : goal.returns-in_err-insert-clause-writes
returns-in_err-insert-clause-writes g c = writes_unmade c.create.result c.from_residual-in_err-insert.result c.args.self _ _ c.from_residual-in_err-insert.ensures.0 c.create.ensures.writes

pub returns-in_err-insert-clause-pools : goal.returns-in_err-insert-clause-pools
returns-in_err-insert-clause-pools g c =
    pools_made c.args.self (subst AreJournals c.self.view_is c.self.invariant) c.args.name c.args.home c.args.at c.requires.place _ _
    (passes_of (IsLogStep (opening_of c.args.name c.args.home)) c.create.result _ _ c.create.ensures.went)

-- ---- it stands in its place

abbrev was_in : (g : Over) (c : goal.In_ok-insert g) → JournalsState
was_in g c = record { home = c.self.inside.home; pool = c.self.inside.pool; queues = c.self.inside.queues.items; list = c.self.inside.list }

store_in : (g : Over) (c : goal.In_ok-insert g) → AreJournals c.args.self
store_in g c = subst AreJournals c.self.view_is c.self.invariant

made_in : (g : Over) (c : goal.In_ok-insert g) → IsMade c.args.name c.args.home c.in-Ok.queue
made_in g c = record { queue = c.in-Ok.ensures.queue; unended = c.in-Ok.ensures.open; new = c.in-Ok.ensures.log; sound = c.in-Ok.ensures.sound; log = c.in-Ok.ensures.legal }

placed_in : (g : Over) (c : goal.In_ok-insert g) → c.insert.new.self.items ≡ insert c.self.inside.queues.items c.args.at c.in-Ok.queue
placed_in g c = c.in_ok-insert.ensures.items ∙ ap (λ (qs : List LiveState). insert qs c.args.at c.in-Ok.queue) c.in_ok-reserve.ensures.items

pub invariant_of-self : goal.invariant_of-self
invariant_of-self g c =
    handed_store (was_in g c) c.args.self c.self.view_is (store_in g c) c.args.name c.args.home c.args.at c.requires.place c.in-Ok.queue c.create.new.pool c.requires.name (made_in g c) c.insert.new.self.items (placed_in g c)

pub returns-clause-queues : goal.returns-clause-queues
returns-clause-queues g c =
    handed_queues (was_in g c) c.args.self c.self.view_is (store_in g c) c.args.name c.args.home c.args.at c.requires.place c.in-Ok.queue c.create.new.pool c.requires.name (made_in g c) c.insert.new.self.items (placed_in g c)

pub returns-clause-list : goal.returns-clause-list
returns-clause-list g c = ap (λ (s : JournalsState). s.list) c.self.view_is

pub returns-clause-kept : goal.returns-clause-kept
returns-clause-kept g c =
    handed_store (was_in g c) c.args.self c.self.view_is (store_in g c) c.args.name c.args.home c.args.at c.requires.place c.in-Ok.queue c.create.new.pool c.requires.name (made_in g c) c.insert.new.self.items (placed_in g c)

pub returns-clause-released : goal.returns-clause-released
returns-clause-released g c =
    handed_released (was_in g c) c.args.self c.self.view_is (store_in g c) c.args.name c.args.home c.args.at c.requires.place c.in-Ok.queue c.create.new.pool c.requires.name (made_in g c) c.insert.new.self.items (placed_in g c)

pub returns-clause-told : goal.returns-clause-told
returns-clause-told g c =
    handed_changes (was_in g c) c.args.self c.self.view_is (store_in g c) c.args.name c.args.home c.args.at c.requires.place c.in-Ok.queue c.create.new.pool c.requires.name (made_in g c) c.insert.new.self.items (placed_in g c)
    (g.S.Site.told c.args.site.now) (g.S.Site.told c.create.new.site) c.requires.fits (record {
      went = c.in-Ok.ensures.went;
      quiet = c.in-Ok.ensures.quiet;
      there = c.in-Ok.ensures.there;
      whole = c.in-Ok.ensures.pool;
      limit = λ h. c.create.ensures.limit (subst (λ (s : JournalsState). s.pool.greatest < 2 ^ 62) (sym c.self.view_is) h);
      took = subst (λ (s : JournalsState). Tells (TakesFiles c.args.home s.pool c.create.new.pool c.in-Ok.queue.log.files) (g.S.Site.told c.args.site.now) (g.S.Site.told c.create.new.site)) c.self.view_is c.in-Ok.ensures.told;
      clean = c.in-Ok.ensures.clean;
      within = c.requires.home;
    })

pub returns-clause-alive : goal.returns-clause-alive
returns-clause-alive g c =
    handed_alive (was_in g c) c.args.self c.self.view_is (store_in g c) c.args.name c.args.home c.args.at c.requires.place c.in-Ok.queue c.create.new.pool c.requires.name (made_in g c) c.insert.new.self.items (placed_in g c)
    (g.S.Site.told c.args.site.now) (g.S.Site.told c.create.new.site) c.in-Ok.ensures.went

pub returns-clause-drawn : goal.returns-clause-drawn
returns-clause-drawn g c = c.in-Ok.ensures.drew

pub returns-clause-leaves : goal.returns-clause-leaves
returns-clause-leaves g c = leaves_staying c.args.self _ _ c.create.ensures.stays

pub returns-clause-writes : goal.returns-clause-writes
returns-clause-writes g c =
    handed_writes (was_in g c) c.args.self c.self.view_is (store_in g c) c.args.name c.args.home c.args.at c.requires.place c.in-Ok.queue c.create.new.pool c.requires.name (made_in g c) c.insert.new.self.items (placed_in g c)
    c.files_that_stay_stay_written.ensures.stays (g.S.Site.told c.args.site.now) (g.S.Site.told c.create.new.site) c.requires.fits c.in-Ok.ensures.went c.in-Ok.ensures.writes

pub returns-clause-pools : goal.returns-clause-pools
returns-clause-pools g c =
    pools_made c.args.self (store_in g c) c.args.name c.args.home c.args.at c.requires.place _ _
    (passes_of (IsLogStep (opening_of c.args.name c.args.home)) c.create.result _ _ c.create.ensures.went)

pub returns-clause-homes : goal.returns-clause-homes
returns-clause-homes g c =
    handed_homes (was_in g c) c.args.self c.self.view_is (store_in g c) c.args.name c.args.home c.args.at c.requires.place c.in-Ok.queue c.create.new.pool c.requires.name (made_in g c) c.insert.new.self.items (placed_in g c)

pub returns-clause-had : goal.returns-clause-had
returns-clause-had g c =
    had_file c.args.self (store_in g c) c.args.name c.args.home c.args.at c.requires.place (g.S.Site.told c.args.site.now) (g.S.Site.told c.create.new.site) c.requires.fits
    (λ spent. not_ended c.in-Ok.queue queue.Spent queue.Memory (c.in-Ok.ensures.at_end (subst (λ (s : JournalsState). IsSpent c.args.home s.pool) (sym c.self.view_is) spent))) c.in-Ok.ensures.went
