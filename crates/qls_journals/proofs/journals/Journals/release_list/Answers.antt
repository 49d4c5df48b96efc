use Rattle.std.proofs.Common.{IfSome, Ok, Err, refl, sym, subst}
use Rattle.qls_site.specs.Content.{Tells}
use Rattle.qls_pool.specs.Pools.{PoolState}
use Rattle.qls_pool.specs.Files.{OnDisk}
use Rattle.qls_prepared.specs.Lists.{PreparedState}
use Rattle.qls_journals.specs.declared.cause.Cause.{Cause}
use Rattle.qls_journals.specs.Moments.{StaysWritten}
use Rattle.qls_journals.specs.Releasing.{AreSame, GivesBack, HasGivenBack, ListComesAlive}
use Rattle.qls_journals.specs.State.{AreJournals, Fits, JournalsState}
use Rattle.qls_journals.proofs.ListCalls.{ListCallDone, NextList, changes_clean, list_journals_after, list_writes_done, list_writes_failed, with_list}
use Rattle.qls_journals.proofs.ReleasedList.{list_alive, list_causes, list_done, list_gives, list_same}
use Rattle.qls_journals.proofs.journals.Journals.release_list.Given.{Over}
use Rattle.qls_journals.proofs.journals.Journals.release_list.Goals as goal

-- ---- at Ok

abbrev was_in : (g : Over) (c : goal.In-Ok g) → JournalsState
was_in g c = record { home = c.self.inside.home; pool = c.self.inside.pool; queues = c.self.inside.queues.items; list = c.self.inside.list }

next_in : (g : Over) (c : goal.In-Ok g) → NextList c.self.inside.list c.release.new.self
next_in g c = let is = c.in-Ok.ensures in record { home = is.home; opening = is.opening; unended = is.ended; sound = is.sound }

abbrev then_in : (g : Over) (c : goal.In-Ok g) → JournalsState
then_in g c = with_list (was_in g c) c.self.invariant c.release.new.self c.release.new.pool (next_in g c)

gives_in : (g : Over) (c : goal.In-Ok g) → Tells (GivesBack (was_in g c)) (g.S.Site.told c.args.site.now) (g.S.Site.told c.release.new.site)
gives_in g c = let is = c.in-Ok.ensures in list_gives (was_in g c) c.self.invariant {X = Unit {0}} (Ok (tt {0})) _ _ is.went is.none is.leaves

pub returns-in-Ok-clause-same : goal.returns-in-Ok-clause-same
returns-in-Ok-clause-same g c =
    let is = c.in-Ok.ensures in
    subst (λ w. AreSame w (then_in g c)) c.self.view_is (list_same (was_in g c) c.self.invariant c.release.new.self c.release.new.pool (next_in g c) is.entries is.rid)

pub returns-in-Ok-clause-kept : goal.returns-in-Ok-clause-kept
returns-in-Ok-clause-kept g c = list_journals_after (was_in g c) c.self.invariant c.release.new.self c.release.new.pool (next_in g c)

pub returns-in-Ok-clause-gives : goal.returns-in-Ok-clause-gives
returns-in-Ok-clause-gives g c = subst (λ w. Tells (GivesBack w) (g.S.Site.told c.args.site.now) (g.S.Site.told c.release.new.site)) c.self.view_is (gives_in g c)

pub returns-in-Ok-clause-done : goal.returns-in-Ok-clause-done
returns-in-Ok-clause-done g c =
    let s : JournalsState = was_in g c in
    let all : AreJournals s = c.self.invariant in
    let a = g.S.Site.told c.args.site.now in
    let b = g.S.Site.told c.release.new.site in
    let fits : IfSome a (OnDisk (Fits s)) = subst (λ w. IfSome a (OnDisk (Fits w))) (sym c.self.view_is) c.requires.fits in
    let new : PreparedState = c.release.new.self in
    let left : PoolState = c.release.new.pool in
    let is = c.in-Ok.ensures in
    let done : ListCallDone s.list new s.pool left a b = record { went = is.went; quiet = is.quiet; there = is.there; whole = is.pool; limit = is.limit; fit = is.fit } in
    subst (λ w. Tells (HasGivenBack w (then_in g c)) a b) c.self.view_is
    (list_done s all new left (next_in g c) a b (gives_in g c) (changes_clean s all new left (next_in g c) a b fits done is.clean) is.clean is.still)

pub returns-in-Ok-clause-alive : goal.returns-in-Ok-clause-alive
returns-in-Ok-clause-alive g c =
    let is = c.in-Ok.ensures in
    subst (λ w. Tells (ListComesAlive w (then_in g c)) (g.S.Site.told c.args.site.now) (g.S.Site.told c.release.new.site)) c.self.view_is
    (list_alive (was_in g c) c.self.invariant c.release.new.self c.release.new.pool (next_in g c) _ _ is.none is.clean)

pub returns-in-Ok-clause-writes : goal.returns-in-Ok-clause-writes
returns-in-Ok-clause-writes g c =
    let s : JournalsState = was_in g c in
    let a = g.S.Site.told c.args.site.now in
    let b = g.S.Site.told c.release.new.site in
    let fits : IfSome a (OnDisk (Fits s)) = subst (λ w. IfSome a (OnDisk (Fits w))) (sym c.self.view_is) c.requires.fits in
    subst (λ w. Tells (StaysWritten {X = JournalsState} {E = Cause} (Ok (then_in g c)) (λ x. x) w) a b) c.self.view_is
    (list_writes_done s c.self.invariant c.release.new.self c.release.new.pool (next_in g c) c.files_that_stay_stay_written.ensures.stays (tt {0}) (then_in g c) (λ x. x) a b refl fits c.in-Ok.ensures.went c.in-Ok.ensures.writes)

-- ---- after an error

pub returns-in-Err-clause-gives : goal.returns-in-Err-clause-gives
returns-in-Err-clause-gives g c =
    let s : JournalsState = record { home = c.self.inside.home; pool = c.self.inside.pool; queues = c.self.inside.queues.items; list = c.self.inside.list } in
    let is = c.in-Err.ensures in
    subst (λ w. Tells (GivesBack w) (g.S.Site.told c.args.site.now) (g.S.Site.told c.release.new.site)) c.self.view_is (list_gives s c.self.invariant {X = Unit {0}} (Err c.in-Err.error) _ _ is.went is.none is.leaves)

pub returns-in-Err-clause-writes : goal.returns-in-Err-clause-writes
returns-in-Err-clause-writes g c =
    let s : JournalsState = record { home = c.self.inside.home; pool = c.self.inside.pool; queues = c.self.inside.queues.items; list = c.self.inside.list } in
    let a = g.S.Site.told c.args.site.now in
    let b = g.S.Site.told c.release.new.site in
    subst (λ w. Tells (StaysWritten {X = JournalsState} {E = Cause} (Err c.cause_of_log.result) (λ x. x) w) a b) c.self.view_is
    (list_writes_failed {X = Unit {0}} s (Err c.in-Err.error) c.release.new.self c.cause_of_log.result (λ x. x) a b c.in-Err.ensures.writes)

pub returns-in-Err-clause-causes : goal.returns-in-Err-clause-causes
returns-in-Err-clause-causes g c = list_causes c.in-Err.error c.cause_of_log.result _ _ c.release.result c.in-Err.is c.in-Err.ensures.only c.cause_of_log.ensures.exact c.release.ensures.cause
