use Rattle.std.proofs.Common.{[], IfSome, Ok, Err, refl, sym, ap, subst}
use Rattle.qls_filehdr.specs.declared.JournalKind.TheVariants as journal
use Rattle.qls_site.specs.Content.{Tells}
use Rattle.qls_pool.specs.Pools.{PoolState}
use Rattle.qls_pool.specs.Files.{OnDisk}
use Rattle.qls_pool.specs.Moments.{Passes}
use Rattle.qls_prepared.specs.Lists.{PreparedState, rid_of}
use Rattle.qls_prepared.specs.Records.{end_records}
use Rattle.qls_journals.specs.declared.cause.Cause.{Cause}
use Rattle.qls_journals.specs.State.{JournalsState, AreJournals, Fits}
use Rattle.qls_journals.specs.Homes.{homes_of, TakesFromHome}
use Rattle.qls_journals.specs.Moments.{Changes, BecomesClean, StaysWritten}
use Rattle.qls_journals.specs.Ends.{StopsAtEnd, HadRoom}
use Rattle.qls_journals.proofs.ListCalls.{NextList, ListCallDone, with_list, changes_clean, told_clean, list_passes, list_pools, list_writes_failed, list_writes_done}
use Rattle.qls_journals.proofs.ListEnds.{list_drawn, told_had, ok_had, spent_error, list_stops}
use Rattle.qls_journals.proofs.journals.Journals.end_all.Goals as goal

pub returns-in-Ok-clause-told : goal.returns-in-Ok-clause-told
returns-in-Ok-clause-told g c =
    let s : JournalsState = record { home = c.self.inside.home; pool = c.self.inside.pool; queues = c.self.inside.queues.items; list = c.self.inside.list } in
    let all : AreJournals s = c.self.invariant in
    let a = g.S.Site.told c.args.site.now in
    let b = g.S.Site.told c.end.new.site in
    let fits : IfSome a (OnDisk (Fits s)) = subst (λ w. IfSome a (OnDisk (Fits w))) (sym c.self.view_is) c.requires.fits in
    let new : PreparedState = c.end.new.self in
    let left : PoolState = c.end.new.pool in
    let is = c.in-Ok.ensures in
    let next : NextList s.list new = record { home = is.home; opening = is.opening; unended = is.ended; sound = is.sound } in
    let done : ListCallDone s.list new s.pool left a b = record { went = is.went; quiet = is.quiet; there = is.there; whole = is.pool; limit = is.limit; fit = is.fit } in
    subst (λ w. Tells (Changes w (with_list s all new left next)) a b) c.self.view_is (changes_clean s all new left next a b fits done is.clean)

pub returns-in-Ok-clause-clean : goal.returns-in-Ok-clause-clean
returns-in-Ok-clause-clean g c =
    let s : JournalsState = record { home = c.self.inside.home; pool = c.self.inside.pool; queues = c.self.inside.queues.items; list = c.self.inside.list } in
    let all : AreJournals s = c.self.invariant in
    let a = g.S.Site.told c.args.site.now in
    let b = g.S.Site.told c.end.new.site in
    let new : PreparedState = c.end.new.self in
    let left : PoolState = c.end.new.pool in
    let is = c.in-Ok.ensures in
    let next : NextList s.list new = record { home = is.home; opening = is.opening; unended = is.ended; sound = is.sound } in
    subst (λ w. Tells (BecomesClean w (with_list s all new left next)) a b) c.self.view_is (told_clean s all new left next a b is.went is.clean)

pub returns-in-Ok-clause-writes : goal.returns-in-Ok-clause-writes
returns-in-Ok-clause-writes g c =
    let s : JournalsState = record { home = c.self.inside.home; pool = c.self.inside.pool; queues = c.self.inside.queues.items; list = c.self.inside.list } in
    let all : AreJournals s = c.self.invariant in
    let a = g.S.Site.told c.args.site.now in
    let b = g.S.Site.told c.end.new.site in
    let fits : IfSome a (OnDisk (Fits s)) = subst (λ w. IfSome a (OnDisk (Fits w))) (sym c.self.view_is) c.requires.fits in
    let new : PreparedState = c.end.new.self in
    let left : PoolState = c.end.new.pool in
    let is = c.in-Ok.ensures in
    let next : NextList s.list new = record { home = is.home; opening = is.opening; unended = is.ended; sound = is.sound } in
    subst (λ w. Tells (StaysWritten {X = JournalsState} {E = Cause} (Ok (with_list s all new left next)) (λ x. x) w) a b) c.self.view_is
    (list_writes_done s all new left next c.files_that_stay_stay_written.ensures.stays c.in-Ok.field-0 (with_list s all new left next) (λ x. x) a b refl fits is.went is.writes)

pub returns-in-Ok-clause-pools : goal.returns-in-Ok-clause-pools
returns-in-Ok-clause-pools g c =
    let s : JournalsState = record { home = c.self.inside.home; pool = c.self.inside.pool; queues = c.self.inside.queues.items; list = c.self.inside.list } in
    let all : AreJournals s = c.self.invariant in
    let a = g.S.Site.told c.args.site.now in
    let b = g.S.Site.told c.end.new.site in
    subst (λ w. Tells (Passes (TakesFromHome (homes_of w))) a b) c.self.view_is (list_pools {X = Unit {0}} s all (Ok c.in-Ok.field-0) a b c.in-Ok.ensures.went)

pub returns-in-Ok-clause-had : goal.returns-in-Ok-clause-had
returns-in-Ok-clause-had g c =
    let s : JournalsState = record { home = c.self.inside.home; pool = c.self.inside.pool; queues = c.self.inside.queues.items; list = c.self.inside.list } in
    let all : AreJournals s = c.self.invariant in
    let a = g.S.Site.told c.args.site.now in
    let b = g.S.Site.told c.end.new.site in
    let fits : IfSome a (OnDisk (Fits s)) = subst (λ w. IfSome a (OnDisk (Fits w))) (sym c.self.view_is) c.requires.fits in
    subst (λ w. Tells (HadRoom w journal.List [] (end_records (rid_of w.list) c.args.xids.now)) a b) c.self.view_is
    (told_had c.log_has_its_room.ensures.room s all (end_records (rid_of s.list) c.args.xids.now) a b c.in-Ok.ensures.went fits (λ at. ok_had c.in-Ok.field-0 (c.in-Ok.ensures.at_end at)))

pub returns-in-Err-clause-drawn : goal.returns-in-Err-clause-drawn
returns-in-Err-clause-drawn g c = list_drawn (Unit {0}) (Unit {0}) c.in-Err.error c.cause_of_log.result _ _ _ _ c.cause_of_log.ensures.exact c.in-Err.ensures.drew

pub returns-in-Err-clause-told : goal.returns-in-Err-clause-told
returns-in-Err-clause-told g c =
    let s : JournalsState = record { home = c.self.inside.home; pool = c.self.inside.pool; queues = c.self.inside.queues.items; list = c.self.inside.list } in
    let a = g.S.Site.told c.args.site.now in
    let b = g.S.Site.told c.end.new.site in
    list_passes {X = Unit {0}} s c.self.invariant (Err c.in-Err.error) a b c.in-Err.ensures.went

pub returns-in-Err-clause-writes : goal.returns-in-Err-clause-writes
returns-in-Err-clause-writes g c =
    let s : JournalsState = record { home = c.self.inside.home; pool = c.self.inside.pool; queues = c.self.inside.queues.items; list = c.self.inside.list } in
    let a = g.S.Site.told c.args.site.now in
    let b = g.S.Site.told c.end.new.site in
    subst (λ w. Tells (StaysWritten {X = JournalsState} {E = Cause} (Err c.cause_of_log.result) (λ x. x) w) a b) c.self.view_is
    (list_writes_failed {X = Unit {0}} s (Err c.in-Err.error) c.end.new.self c.cause_of_log.result (λ x. x) a b c.in-Err.ensures.writes)

pub returns-in-Err-clause-pools : goal.returns-in-Err-clause-pools
returns-in-Err-clause-pools g c =
    let s : JournalsState = record { home = c.self.inside.home; pool = c.self.inside.pool; queues = c.self.inside.queues.items; list = c.self.inside.list } in
    let all : AreJournals s = c.self.invariant in
    let a = g.S.Site.told c.args.site.now in
    let b = g.S.Site.told c.end.new.site in
    subst (λ w. Tells (Passes (TakesFromHome (homes_of w))) a b) c.self.view_is (list_pools {X = Unit {0}} s all (Err c.in-Err.error) a b c.in-Err.ensures.went)

pub returns-in-Err-clause-spent : goal.returns-in-Err-clause-spent
returns-in-Err-clause-spent g c =
    let s : JournalsState = record { home = c.self.inside.home; pool = c.self.inside.pool; queues = c.self.inside.queues.items; list = c.self.inside.list } in
    let all : AreJournals s = c.self.invariant in
    let a = g.S.Site.told c.args.site.now in
    let b = g.S.Site.told c.end.new.site in
    let fits : IfSome a (OnDisk (Fits s)) = subst (λ w. IfSome a (OnDisk (Fits w))) (sym c.self.view_is) c.requires.fits in
    λ spent.
    let is = spent_error c.in-Err.error c.cause_of_log.result c.cause_of_log.ensures.exact spent in
    subst (λ w. Tells (StopsAtEnd w journal.List [] (end_records (rid_of w.list) c.args.xids.now)) a b) c.self.view_is
    (list_stops s all (end_records (rid_of s.list) c.args.xids.now) c.in-Err.error a b is fits c.in-Err.ensures.went (c.in-Err.ensures.spent (ap (λ f. Err f) is)))
