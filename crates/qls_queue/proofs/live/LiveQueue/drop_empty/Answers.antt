use Rattle.std.proofs.Common.{◌≡◌, List, [], length, Ok, Err, IfSome, sym, ap, ◌∙◌, subst}
use Rattle.qls_site.specs.Content.{Tells}
use Rattle.qls_pool.specs.Files.{OnDisk}
use Rattle.qls_enqmap.specs.declared.Held.{Held}
use Rattle.qls_replay.specs.Held.{messages_of}
use Rattle.qls_log.specs.Logs.{LogState}
use Rattle.qls_log.specs.Standing.{LogThere}
use Rattle.qls_queue.specs.Live.{LiveState, live, IsSound}
use Rattle.qls_queue.specs.Moments.{LeavesDead}
use Rattle.qls_queue.proofs.Emptied.{told_only_leaves}
use Rattle.qls_queue.proofs.Released.{told_quiet}
use Rattle.qls_queue.proofs.live.LiveQueue.drop_empty.Goals as goal

pub returns-in_err-remove-clause-leaves : goal.returns-in_err-remove-clause-leaves
returns-in_err-remove-clause-leaves g c =
    let l : LogState = c.self.inside.log in
    let hs : List Held = c.self.inside.tables.held in
    let s : IsSound (live l hs c.self.inside.ended) = c.self.invariant (ap (λ (q : LiveState). q.ended) c.self.view_is ∙ c.requires.unended) in
    let empty : messages_of hs ≡ [] = ap (λ (q : LiveState). q.queue.messages) c.self.view_is ∙ c.requires.empty in
    let one : length l.files ≡ 1 = ap (λ (q : LiveState). length q.log.files) c.self.view_is ∙ c.requires.one in
    let there : IfSome (g.S.Site.told c.args.site.now) (OnDisk (LogThere l)) = subst (λ (q : LiveState). IfSome (g.S.Site.told c.args.site.now) (OnDisk (LogThere q.log))) (sym c.self.view_is) c.requires.there in
    subst (λ (q : LiveState). Tells (LeavesDead q) (g.S.Site.told c.args.site.now) (g.S.Site.told c.remove.new.site)) c.self.view_is
    (told_only_leaves l hs c.self.inside.ended s.kind s.flushed empty one c.in_err-remove.ensures.legal (Err c.in_err-remove.field-0.0) _ _ there c.in_err-remove.ensures.told)

pub returns-clause-leaves : goal.returns-clause-leaves
returns-clause-leaves g c =
    let l : LogState = c.self.inside.log in
    let hs : List Held = c.self.inside.tables.held in
    let s : IsSound (live l hs c.self.inside.ended) = c.self.invariant (ap (λ (q : LiveState). q.ended) c.self.view_is ∙ c.requires.unended) in
    let empty : messages_of hs ≡ [] = ap (λ (q : LiveState). q.queue.messages) c.self.view_is ∙ c.requires.empty in
    let one : length l.files ≡ 1 = ap (λ (q : LiveState). length q.log.files) c.self.view_is ∙ c.requires.one in
    let there : IfSome (g.S.Site.told c.args.site.now) (OnDisk (LogThere l)) = subst (λ (q : LiveState). IfSome (g.S.Site.told c.args.site.now) (OnDisk (LogThere q.log))) (sym c.self.view_is) c.requires.there in
    subst (λ (q : LiveState). Tells (LeavesDead q) (g.S.Site.told c.args.site.now) (g.S.Site.told c.remove.new.site)) c.self.view_is
    (told_only_leaves l hs c.self.inside.ended s.kind s.flushed empty one c.in_ok-remove.ensures.legal (Ok c.in_ok-remove.field-0) _ _ there c.in_ok-remove.ensures.told)

pub returns-clause-quiet : goal.returns-clause-quiet
returns-clause-quiet g c = told_quiet c.self.inside.log.files c.in_ok-remove.field-0 _ _ c.in_ok-remove.ensures.told
