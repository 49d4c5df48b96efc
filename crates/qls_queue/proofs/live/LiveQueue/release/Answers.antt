use Rattle.std.proofs.Common.{◌≡◌, false, List, drop, length, Ok, Err, IfSome, sym, ap, ◌∙◌, subst}
use Rattle.qls_site.specs.Content.{Tells}
use Rattle.qls_pool.specs.Files.{OnDisk, Carries}
use Rattle.qls_enqmap.specs.declared.Held.{Held}
use Rattle.qls_enqmap.specs.Records.{least_file}
use Rattle.qls_log.specs.Logs.{LogState, without_first}
use Rattle.qls_log.specs.Standing.{LogThere}
use Rattle.qls_log.specs.Returning.{GivesAll, released}
use Rattle.qls_queue.specs.Live.{LiveState, live, IsSound}
use Rattle.qls_queue.specs.Moments.{LeavesDead, StaysWritten}
use Rattle.qls_queue.specs.Releasing.{file_or, IsQueueWhole, IsQueueClean, StaysStill}
use Rattle.qls_queue.proofs.Released.{needed_is, log_is, released_sound, released_one, queue_sound, told_clean, told_leaves, told_quiet}
use Rattle.qls_queue.proofs.Still.{told_still}
use Rattle.qls_queue.proofs.live.LiveQueue.release.Goals as goal

pub returns-in_err-release_before-clause-leaves : goal.returns-in_err-release_before-clause-leaves
returns-in_err-release_before-clause-leaves g c =
    let l : LogState = c.self.inside.log in
    let hs : List Held = c.self.inside.tables.held in
    let unended : c.self.inside.ended ≡ false = ap (λ (q : LiveState). q.ended) c.self.view_is ∙ c.requires.unended in
    let s : IsSound (live l hs c.self.inside.ended) = c.self.invariant unended in
    let needed : c.first_needed-number.result ≡ file_or l.newest (least_file hs) = needed_is _ _ l.newest _ hs c.first_needed-number.ensures.exact c.newest.ensures.exact c.held.ensures.same in
    let old : live l hs false ≡ c.args.self.now = ap (live l hs) (sym unended) ∙ c.self.view_is in
    let there : IfSome (g.S.Site.told c.args.site.now) (OnDisk (LogThere l)) = subst (λ (q : LiveState). IfSome (g.S.Site.told c.args.site.now) (OnDisk (LogThere q.log))) (sym c.self.view_is) c.requires.there in
    let back : Tells (GivesAll (released (file_or l.newest (least_file hs)) l) (Err c.in_err-release_before.field-0.0)) (g.S.Site.told c.args.site.now) (g.S.Site.told c.release_before.new.site) =
    subst (λ n. Tells (GivesAll (released n l) (Err c.in_err-release_before.field-0.0)) (g.S.Site.told c.args.site.now) (g.S.Site.told c.release_before.new.site)) needed c.in_err-release_before.ensures.told in
    subst (λ (q : LiveState). Tells (LeavesDead q) (g.S.Site.told c.args.site.now) (g.S.Site.told c.release_before.new.site)) old
    (told_leaves l hs c.in_err-release_before.ensures.legal s.kind s.flushed (Err c.in_err-release_before.field-0.0) _ _ there back)

pub invariant_of-self-2 : goal.invariant_of-self-2
invariant_of-self-2 g c = λ _.
    let l : LogState = c.self.inside.log in
    let hs : List Held = c.self.inside.tables.held in
    let unended : c.self.inside.ended ≡ false = ap (λ (q : LiveState). q.ended) c.self.view_is ∙ c.requires.unended in
    let s : IsSound (live l hs c.self.inside.ended) = c.self.invariant unended in
    let needed : c.first_needed-number.result ≡ file_or l.newest (least_file hs) = needed_is _ _ l.newest _ hs c.first_needed-number.ensures.exact c.newest.ensures.exact c.held.ensures.same in
    let is : c.release_before.new.self ≡ without_first (length (released (file_or l.newest (least_file hs)) l)) l =
    log_is l c.release_before.new.self c.first_needed-number.result _ needed c.in_ok-release_before.ensures.log in
    queue_sound l hs c.in_ok-release_before.ensures.legal s.kind s.flushed c.release_before.new.self is c.self.inside.ended s

pub returns-clause-sound : goal.returns-clause-sound
returns-clause-sound g c =
    let l : LogState = c.self.inside.log in
    let hs : List Held = c.self.inside.tables.held in
    let unended : c.self.inside.ended ≡ false = ap (λ (q : LiveState). q.ended) c.self.view_is ∙ c.requires.unended in
    let s : IsSound (live l hs c.self.inside.ended) = c.self.invariant unended in
    let needed : c.first_needed-number.result ≡ file_or l.newest (least_file hs) = needed_is _ _ l.newest _ hs c.first_needed-number.ensures.exact c.newest.ensures.exact c.held.ensures.same in
    let is : c.release_before.new.self ≡ without_first (length (released (file_or l.newest (least_file hs)) l)) l =
    log_is l c.release_before.new.self c.first_needed-number.result _ needed c.in_ok-release_before.ensures.log in
    queue_sound l hs c.in_ok-release_before.ensures.legal s.kind s.flushed c.release_before.new.self is c.self.inside.ended s

pub returns-clause-log : goal.returns-clause-log
returns-clause-log g c =
    let l : LogState = c.self.inside.log in
    let hs : List Held = c.self.inside.tables.held in
    let unended : c.self.inside.ended ≡ false = ap (λ (q : LiveState). q.ended) c.self.view_is ∙ c.requires.unended in
    let s : IsSound (live l hs c.self.inside.ended) = c.self.invariant unended in
    let needed : c.first_needed-number.result ≡ file_or l.newest (least_file hs) = needed_is _ _ l.newest _ hs c.first_needed-number.ensures.exact c.newest.ensures.exact c.held.ensures.same in
    let is : c.release_before.new.self ≡ without_first (length (released (file_or l.newest (least_file hs)) l)) l =
    log_is l c.release_before.new.self c.first_needed-number.result _ needed c.in_ok-release_before.ensures.log in
    released_sound l hs c.in_ok-release_before.ensures.legal s.kind s.flushed c.release_before.new.self is

pub returns-clause-one : goal.returns-clause-one
returns-clause-one g c =
    let l : LogState = c.self.inside.log in
    let hs : List Held = c.self.inside.tables.held in
    let unended : c.self.inside.ended ≡ false = ap (λ (q : LiveState). q.ended) c.self.view_is ∙ c.requires.unended in
    let s : IsSound (live l hs c.self.inside.ended) = c.self.invariant unended in
    let needed : c.first_needed-number.result ≡ file_or l.newest (least_file hs) = needed_is _ _ l.newest _ hs c.first_needed-number.ensures.exact c.newest.ensures.exact c.held.ensures.same in
    let is : c.release_before.new.self ≡ without_first (length (released (file_or l.newest (least_file hs)) l)) l =
    log_is l c.release_before.new.self c.first_needed-number.result _ needed c.in_ok-release_before.ensures.log in
    released_one l hs c.in_ok-release_before.ensures.legal s.kind s.flushed c.release_before.new.self is

pub returns-clause-clean : goal.returns-clause-clean
returns-clause-clean g c =
    let l : LogState = c.self.inside.log in
    let hs : List Held = c.self.inside.tables.held in
    let unended : c.self.inside.ended ≡ false = ap (λ (q : LiveState). q.ended) c.self.view_is ∙ c.requires.unended in
    let s : IsSound (live l hs c.self.inside.ended) = c.self.invariant unended in
    let needed : c.first_needed-number.result ≡ file_or l.newest (least_file hs) = needed_is _ _ l.newest _ hs c.first_needed-number.ensures.exact c.newest.ensures.exact c.held.ensures.same in
    let old : live l hs false ≡ c.args.self.now = ap (live l hs) (sym unended) ∙ c.self.view_is in
    let there : IfSome (g.S.Site.told c.args.site.now) (OnDisk (LogThere l)) = subst (λ (q : LiveState). IfSome (g.S.Site.told c.args.site.now) (OnDisk (LogThere q.log))) (sym c.self.view_is) c.requires.there in
    let is : c.release_before.new.self ≡ without_first (length (released (file_or l.newest (least_file hs)) l)) l =
    log_is l c.release_before.new.self c.first_needed-number.result _ needed c.in_ok-release_before.ensures.log in
    let back : Tells (GivesAll (released (file_or l.newest (least_file hs)) l) (Ok c.in_ok-release_before.field-0)) (g.S.Site.told c.args.site.now) (g.S.Site.told c.release_before.new.site) =
    subst (λ n. Tells (GivesAll (released n l) (Ok c.in_ok-release_before.field-0)) (g.S.Site.told c.args.site.now) (g.S.Site.told c.release_before.new.site)) needed c.in_ok-release_before.ensures.told in
    subst (λ (q : LiveState). Carries (IsQueueWhole q) (IsQueueClean (live c.release_before.new.self hs false)) (g.S.Site.told c.args.site.now) (g.S.Site.told c.release_before.new.site)) old
    (told_clean l hs c.in_ok-release_before.ensures.legal s.kind s.flushed c.release_before.new.self is c.in_ok-release_before.field-0 _ _ there back)

pub returns-clause-quiet : goal.returns-clause-quiet
returns-clause-quiet g c = told_quiet (released c.first_needed-number.result c.self.inside.log) c.in_ok-release_before.field-0 _ _ c.in_ok-release_before.ensures.told

pub returns-clause-leaves : goal.returns-clause-leaves
returns-clause-leaves g c =
    let l : LogState = c.self.inside.log in
    let hs : List Held = c.self.inside.tables.held in
    let unended : c.self.inside.ended ≡ false = ap (λ (q : LiveState). q.ended) c.self.view_is ∙ c.requires.unended in
    let s : IsSound (live l hs c.self.inside.ended) = c.self.invariant unended in
    let needed : c.first_needed-number.result ≡ file_or l.newest (least_file hs) = needed_is _ _ l.newest _ hs c.first_needed-number.ensures.exact c.newest.ensures.exact c.held.ensures.same in
    let old : live l hs false ≡ c.args.self.now = ap (live l hs) (sym unended) ∙ c.self.view_is in
    let there : IfSome (g.S.Site.told c.args.site.now) (OnDisk (LogThere l)) = subst (λ (q : LiveState). IfSome (g.S.Site.told c.args.site.now) (OnDisk (LogThere q.log))) (sym c.self.view_is) c.requires.there in
    let back : Tells (GivesAll (released (file_or l.newest (least_file hs)) l) (Ok c.in_ok-release_before.field-0)) (g.S.Site.told c.args.site.now) (g.S.Site.told c.release_before.new.site) =
    subst (λ n. Tells (GivesAll (released n l) (Ok c.in_ok-release_before.field-0)) (g.S.Site.told c.args.site.now) (g.S.Site.told c.release_before.new.site)) needed c.in_ok-release_before.ensures.told in
    subst (λ (q : LiveState). Tells (LeavesDead q) (g.S.Site.told c.args.site.now) (g.S.Site.told c.release_before.new.site)) old
    (told_leaves l hs c.in_ok-release_before.ensures.legal s.kind s.flushed (Ok c.in_ok-release_before.field-0) _ _ there back)

pub returns-clause-writes : goal.returns-clause-writes
returns-clause-writes g c =
    subst (λ (q : LiveState). Tells (StaysWritten (Ok c.in_ok-release_before.field-0) q (live c.release_before.new.self c.self.inside.tables.held false)) (g.S.Site.told c.args.site.now) (g.S.Site.told c.release_before.new.site)) c.self.view_is
    c.in_ok-release_before.ensures.writes

pub returns-clause-still : goal.returns-clause-still
returns-clause-still g c =
    let l : LogState = c.self.inside.log in
    let hs : List Held = c.self.inside.tables.held in
    let unended : c.self.inside.ended ≡ false = ap (λ (q : LiveState). q.ended) c.self.view_is ∙ c.requires.unended in
    let s : IsSound (live l hs c.self.inside.ended) = c.self.invariant unended in
    let needed : c.first_needed-number.result ≡ file_or l.newest (least_file hs) = needed_is _ _ l.newest _ hs c.first_needed-number.ensures.exact c.newest.ensures.exact c.held.ensures.same in
    let old : live l hs false ≡ c.args.self.now = ap (live l hs) (sym unended) ∙ c.self.view_is in
    let there : IfSome (g.S.Site.told c.args.site.now) (OnDisk (LogThere l)) = subst (λ (q : LiveState). IfSome (g.S.Site.told c.args.site.now) (OnDisk (LogThere q.log))) (sym c.self.view_is) c.requires.there in
    let back : Tells (GivesAll (released (file_or l.newest (least_file hs)) l) (Ok c.in_ok-release_before.field-0)) (g.S.Site.told c.args.site.now) (g.S.Site.told c.release_before.new.site) =
    subst (λ n. Tells (GivesAll (released n l) (Ok c.in_ok-release_before.field-0)) (g.S.Site.told c.args.site.now) (g.S.Site.told c.release_before.new.site)) needed c.in_ok-release_before.ensures.told in
    subst (λ (q : LiveState). Tells (StaysStill q) (g.S.Site.told c.args.site.now) (g.S.Site.told c.release_before.new.site)) old
    (told_still l hs false s.kind s.flushed c.in_ok-release_before.ensures.legal c.in_ok-release_before.field-0 _ _ there back)
