use Rattle.std.proofs.Common.{◌≡◌, ℕ, ◌≤◌, length, IsTrue, List, [], ◌∷◌, false, Err, IfOk, IfSome, refl, sym, ap, subst, ◌∙◌, rules}
use Rattle.qls_record.specs.declared.Head.{Head}
use Rattle.qls_record.specs.Record.{Record, rid_given}
use Rattle.qls_record.specs.Head.{record_with, is_legal_head}
use Rattle.qls_site.specs.Content.{Tells}
use Rattle.qls_meaning.specs.Reading.{Read, read_of}
use Rattle.qls_meaning.specs.Replay.{after_record}
use Rattle.qls_replay.specs.Held.{held_after}
use Rattle.qls_pool.specs.Files.{OnDisk}
use Rattle.qls_log.specs.Standing.{LogThere}
use Rattle.qls_log.specs.Steps.{IsLogStep}
use Rattle.qls_log.specs.Unwritten.{IsWrittenTo}
use Rattle.qls_pool.specs.Moments.{Arrives}
use Rattle.qls_pool.proofs.Serials.{drawn_any}
use Rattle.qls_record.specs.declared.Got.{Got}
use Rattle.qls_blocks.proofs.Lengths.{legal_xid}
use Rattle.qls_queue.specs.Live.{LiveState, live, IsSound}
use Rattle.qls_queue.specs.Faults.{fault_of_log}
use Rattle.qls_queue.specs.Moments.{is_exact, GoesBy}
use Rattle.qls_queue.specs.Releasing.{StaysWhole}
use Rattle.qls_queue.proofs.Back.{told_stays_whole}
use Rattle.qls_queue.proofs.Going.{told_fault, told_arrived, draws_fault, writes_err}
use Rattle.qls_queue.proofs.Then.{Writes, writes_any}
use Rattle.qls_queue.specs.Records.{read_at}
use Rattle.qls_queue.proofs.Applied.{Behind, behind, next_queue, next_sound, next_says}
use Rattle.qls_queue.proofs.live.LiveQueue.write_record.Goals as goal

short : (h : Head) (xid : List ℕ) → IsTrue (is_legal_head h) → length xid ≡ h.xid_size → length xid ≤ 128
short h xid legal e = subst (λ n. n ≤ 128) (sym e) (legal_xid h legal)

pub invariant_of-self-2 : goal.invariant_of-self-2
invariant_of-self-2 g c = λ _.
    let r : Record = record_with c.args.head c.args.xid c.args.body in
    let log = c.self.inside.log in
    let hs = c.self.inside.tables.held in
    let s : IsSound (live log hs c.self.inside.ended) = c.self.invariant (ap (λ (q : LiveState). q.ended) c.self.view_is ∙ c.requires.unended) in
    let w : Behind (r ∷ []) log c.write_one.new.log = behind (r ∷ []) log c.write_one.new.log _ _ _ _ _ _ c.in_ok-got.ensures.written in
    let e : r.rid ≡ rid_given log.rid r.kind = subst (λ (q : LiveState). c.args.head.rid ≡ rid_given q.queue.last c.args.head.kind) (sym c.self.view_is) c.requires.rid in
    let h : c.take_in.new.self.held ≡ held_after r.kind (read_at log r) hs =
    c.in_ok-take_in.ensures.held ∙ ap (λ (k : Head). held_after k.kind (read_of c.in_ok-got.got) hs) c.in_ok-got.ensures.head ∙ ap (λ (x : Read). held_after r.kind x hs) c.in_ok-got.ensures.got in
    next_sound log c.write_one.new.log hs c.take_in.new.self.held r c.self.inside.ended s w c.in_ok-got.ensures.ended e c.requires.rid_fits (short c.args.head c.args.xid c.requires.legal c.requires.xid) h

pub returns-clause-queue : goal.returns-clause-queue
returns-clause-queue g c =
    let r : Record = record_with c.args.head c.args.xid c.args.body in
    let log = c.self.inside.log in
    let hs = c.self.inside.tables.held in
    let w : Behind (r ∷ []) log c.write_one.new.log = behind (r ∷ []) log c.write_one.new.log _ _ _ _ _ _ c.in_ok-got.ensures.written in
    let e : r.rid ≡ rid_given log.rid r.kind = subst (λ (q : LiveState). c.args.head.rid ≡ rid_given q.queue.last c.args.head.kind) (sym c.self.view_is) c.requires.rid in
    let h : c.take_in.new.self.held ≡ held_after r.kind (read_at log r) hs =
    c.in_ok-take_in.ensures.held ∙ ap (λ (k : Head). held_after k.kind (read_of c.in_ok-got.got) hs) c.in_ok-got.ensures.head ∙ ap (λ (x : Read). held_after r.kind x hs) c.in_ok-got.ensures.got in
    next_queue log c.write_one.new.log hs c.take_in.new.self.held r c.self.inside.ended false w e h ∙ ap (λ (q : LiveState). after_record r.kind r q.queue) c.self.view_is

pub returns-clause-whole : goal.returns-clause-whole
returns-clause-whole g c =
    let r : Record = record_with c.args.head c.args.xid c.args.body in
    let log = c.self.inside.log in
    let hs = c.self.inside.tables.held in
    let s : IsSound (live log hs c.self.inside.ended) = c.self.invariant (ap (λ (q : LiveState). q.ended) c.self.view_is ∙ c.requires.unended) in
    let w : Behind (r ∷ []) log c.write_one.new.log = behind (r ∷ []) log c.write_one.new.log _ _ _ _ _ _ c.in_ok-got.ensures.written in
    let e : r.rid ≡ rid_given log.rid r.kind = subst (λ (q : LiveState). c.args.head.rid ≡ rid_given q.queue.last c.args.head.kind) (sym c.self.view_is) c.requires.rid in
    let h : c.take_in.new.self.held ≡ held_after r.kind (read_at log r) hs =
    c.in_ok-take_in.ensures.held ∙ ap (λ (k : Head). held_after k.kind (read_of c.in_ok-got.got) hs) c.in_ok-got.ensures.head ∙ ap (λ (x : Read). held_after r.kind x hs) c.in_ok-got.ensures.got in
    let there : IfSome (g.S.Site.told c.args.site.now) (OnDisk (LogThere log)) = subst (λ (q : LiveState). IfSome (g.S.Site.told c.args.site.now) (OnDisk (LogThere q.log))) (sym c.self.view_is) c.requires.there in
    subst (λ (q : LiveState). Tells (StaysWhole q (live c.write_one.new.log c.take_in.new.self.held false)) (g.S.Site.told c.args.site.now) (g.S.Site.told c.write_one.new.site)) c.self.view_is
    (told_stays_whole (live log hs c.self.inside.ended) (live c.write_one.new.log c.take_in.new.self.held false) _ _
    (next_says log c.write_one.new.log hs c.take_in.new.self.held r c.self.inside.ended false _ _ s w e h c.in_ok-got.ensures.reading there c.in_ok-got.ensures.there) c.in_ok-got.ensures.sound)

pub returns-clause-sound : goal.returns-clause-sound
returns-clause-sound g c = invariant_of-self-2 g c refl

-- ---- the moments

pub returns-in_err-got-clause-went : goal.returns-in_err-got-clause-went
returns-in_err-got-clause-went g c =
    let is : Err (fault_of_log c.in_err-got.field-0.0) ≡ c.from_residual.result = search (rules, c.from_residual.ensures) in
    subst (λ (q : LiveState). Tells (GoesBy (IsLogStep q.log.opening) c.from_residual.result) (g.S.Site.told c.args.site.now) (g.S.Site.told c.write_one.new.site)) c.self.view_is
    (told_fault (IsLogStep c.self.inside.log.opening) Got c.in_err-got.field-0.0 c.from_residual.result _ _ is c.in_err-got.ensures.went)

pub returns-in_err-take_in-clause-went : goal.returns-in_err-take_in-clause-went
returns-in_err-take_in-clause-went g c =
    subst (λ (q : LiveState). Tells (GoesBy (IsLogStep q.log.opening) c.from_residual-in_err-take_in.result) (g.S.Site.told c.args.site.now) (g.S.Site.told c.write_one.new.site)) c.self.view_is
    (told_arrived (IsLogStep c.self.inside.log.opening) c.from_residual-in_err-take_in.result _ _ c.in_ok-got.ensures.went)

pub returns-clause-went : goal.returns-clause-went
returns-clause-went g c =
    subst (λ (q : LiveState). Tells (Arrives (IsLogStep q.log.opening)) (g.S.Site.told c.args.site.now) (g.S.Site.told c.write_one.new.site)) c.self.view_is c.in_ok-got.ensures.went

pub returns-in_err-got-clause-drew : goal.returns-in_err-got-clause-drew
returns-in_err-got-clause-drew g c =
    let is : Err (fault_of_log c.in_err-got.field-0.0) ≡ c.from_residual.result = search (rules, c.from_residual.ensures) in
    draws_fault Got c.in_err-got.field-0.0 c.from_residual.result _ _ _ _ is c.in_err-got.ensures.drew

pub returns-in_err-take_in-clause-drew : goal.returns-in_err-take_in-clause-drew
returns-in_err-take_in-clause-drew g c = drawn_any (is_exact c.from_residual-in_err-take_in.result) _ _ _ _ c.in_ok-got.ensures.drew

pub returns-in_err-got-clause-writes : goal.returns-in_err-got-clause-writes
returns-in_err-got-clause-writes g c =
    subst (λ (q : LiveState). Tells (Writes (λ areas h. IsWrittenTo areas h q.log) (λ areas h. IfOk c.from_residual.result (λ _. IsWrittenTo areas h c.write_one.new.log))) (g.S.Site.told c.args.site.now) (g.S.Site.told c.write_one.new.site)) c.self.view_is
    (writes_err (λ areas h. IsWrittenTo areas h c.self.inside.log) (λ areas h. IsWrittenTo areas h c.write_one.new.log) c.from_residual.result _ _ c.from_residual.ensures.0 c.in_err-got.ensures.writes)

pub returns-in_err-take_in-clause-writes : goal.returns-in_err-take_in-clause-writes
returns-in_err-take_in-clause-writes g c =
    subst (λ (q : LiveState). Tells (Writes (λ areas h. IsWrittenTo areas h q.log) (λ areas h. IfOk c.from_residual-in_err-take_in.result (λ _. IsWrittenTo areas h c.write_one.new.log))) (g.S.Site.told c.args.site.now) (g.S.Site.told c.write_one.new.site)) c.self.view_is
    (writes_err (λ areas h. IsWrittenTo areas h c.self.inside.log) (λ areas h. IsWrittenTo areas h c.write_one.new.log) c.from_residual-in_err-take_in.result _ _ c.from_residual-in_err-take_in.ensures.0
    (writes_any (λ areas h. IsWrittenTo areas h c.self.inside.log) (λ areas h. IsWrittenTo areas h c.write_one.new.log) _ _ c.in_ok-got.ensures.writes))

pub returns-clause-writes : goal.returns-clause-writes
returns-clause-writes g c =
    subst (λ (q : LiveState). Tells (Writes (λ areas h. IsWrittenTo areas h q.log) (λ areas h. IsWrittenTo areas h c.write_one.new.log)) (g.S.Site.told c.args.site.now) (g.S.Site.told c.write_one.new.site)) c.self.view_is
    c.in_ok-got.ensures.writes
