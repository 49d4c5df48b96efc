use Rattle.std.proofs.Common.{◌≡◌, true, [], Ok, Err, IfSome, sym, ap, ◌∙◌, subst, rules}
use Rattle.qls_site.specs.Content.{Tells}
use Rattle.qls_blocks.specs.Parts.{Syncs, HasFiles}
use Rattle.qls_pool.specs.Files.{OnDisk, Carries}
use Rattle.qls_log.specs.declared.fault.LogError.{LogError}
use Rattle.qls_log.specs.Logs.{LogState, IsSound}
use Rattle.qls_log.specs.Standing.{LogThere, IsUnmarkedBehind}
use Rattle.qls_log.specs.Appending.{StandsStill, IsQuietBut, ReadsInImages}
use Rattle.qls_log.specs.Reads.{IsRead}
use Rattle.qls_log.specs.Soundness.{IsUndamaged}
use Rattle.qls_log.proofs.Sound.{told_still_undamaged}
use Rattle.qls_log.proofs.Flushes.{there_are, waiting_of, told_same, told_pool, told_quiet, told_images, told_there, told_still, told_read, told_behind, told_orderly_ok, told_orderly_err}
use Rattle.qls_log.specs.Faults.{fault_of_site}
use Rattle.qls_log.specs.Steps.{IsLogStep, GoesBy}
use Rattle.qls_log.proofs.OwnWrites.{told_log_own, told_syncs, stopped_own, ended_own, goes_of, none_of}
use Rattle.qls_log.specs.Unwritten.{StaysWritten}
use Rattle.qls_log.proofs.Passing.{told_flush, told_none_leaves, told_flush_ok, told_flush_err}
use Rattle.qls_log.proofs.log.Log.flush.Goals as goal

pub sync_parts-requires : goal.sync_parts-requires
sync_parts-requires g c = record {
  there =
      subst (λ (l : LogState). IfSome (g.S.Site.told c.args.site.now) (HasFiles l.unsynced)) (sym c.self.view_is)
      (there_are c.args.self.now.unsynced (g.S.Site.told c.args.site.now) (waiting_of c.args.self.now (g.S.Site.told c.args.site.now) c.requires.there));
}

pub returns-in_err-sync_parts-clause-reading : goal.returns-in_err-sync_parts-clause-reading
returns-in_err-sync_parts-clause-reading g c = told_same c.self.inside.unsynced (Err c.in_err-sync_parts.field-0.0) _ _ c.in_err-sync_parts.ensures.told

pub returns-in_err-sync_parts-clause-pool : goal.returns-in_err-sync_parts-clause-pool
returns-in_err-sync_parts-clause-pool g c = λ pool out. told_pool c.self.inside.unsynced (Err c.in_err-sync_parts.field-0.0) pool out _ _ c.in_err-sync_parts.ensures.told

pub returns-in_err-sync_parts-clause-orderly : goal.returns-in_err-sync_parts-clause-orderly
returns-in_err-sync_parts-clause-orderly g c = told_orderly_err c.self.inside.unsynced c.in_err-sync_parts.field-0.0 c.from_residual.result _ _ c.from_residual.ensures.0 c.in_err-sync_parts.ensures.told

pub returns-clause-log : goal.returns-clause-log
returns-clause-log g c = search rules

pub returns-clause-there : goal.returns-clause-there
returns-clause-there g c =
    subst (λ (l : LogState). IfSome (g.S.Site.told c.sync_parts.new.site) (OnDisk (LogThere l))) (sym (returns-clause-log g c))
    (told_there c.args.self.now _ _ _
    (subst (λ (l : LogState). Tells (Syncs l.unsynced (Ok c.in_ok-sync_parts.field-0)) (g.S.Site.told c.args.site.now) (g.S.Site.told c.sync_parts.new.site)) c.self.view_is c.in_ok-sync_parts.ensures.told) c.requires.there)

pub returns-clause-reading : goal.returns-clause-reading
returns-clause-reading g c = told_same c.self.inside.unsynced (Ok c.in_ok-sync_parts.field-0) _ _ c.in_ok-sync_parts.ensures.told

pub returns-clause-behind : goal.returns-clause-behind
returns-clause-behind g c =
    subst (λ (l : LogState). Carries (IsUnmarkedBehind c.args.self.now) (IsUnmarkedBehind l) (g.S.Site.told c.args.site.now) (g.S.Site.told c.sync_parts.new.site)) (sym (returns-clause-log g c))
    (told_behind c.args.self.now c.self.inside.unsynced (Ok c.in_ok-sync_parts.field-0) _ _ c.in_ok-sync_parts.ensures.told)

pub returns-clause-read : goal.returns-clause-read
returns-clause-read g c = λ reads.
    subst (λ (l : LogState). Carries (IsRead c.args.self.now reads) (IsRead l reads) (g.S.Site.told c.args.site.now) (g.S.Site.told c.sync_parts.new.site)) (sym (returns-clause-log g c))
    (told_read c.args.self.now reads c.self.inside.unsynced (Ok c.in_ok-sync_parts.field-0) _ _ c.in_ok-sync_parts.ensures.told)

pub returns-clause-pool : goal.returns-clause-pool
returns-clause-pool g c = λ pool out. told_pool c.self.inside.unsynced (Ok c.in_ok-sync_parts.field-0) pool out _ _ c.in_ok-sync_parts.ensures.told

pub returns-clause-quiet : goal.returns-clause-quiet
returns-clause-quiet g c =
    subst (λ (l : LogState). Carries (IsQuietBut l.unsynced) Rattle.qls_site.specs.Disk.IsQuiet (g.S.Site.told c.args.site.now) (g.S.Site.told c.sync_parts.new.site)) c.self.view_is
    (told_quiet c.self.inside.unsynced _ _ _ c.in_ok-sync_parts.ensures.told)

pub returns-clause-images : goal.returns-clause-images
returns-clause-images g c =
    subst (λ (l : LogState). Carries (IsQuietBut c.args.self.now.unsynced) (ReadsInImages l) (g.S.Site.told c.args.site.now) (g.S.Site.told c.sync_parts.new.site)) (sym (returns-clause-log g c))
    (told_images (record c.args.self.now { unsynced = [] }) c.args.self.now.unsynced _ _ _
    (subst (λ (l : LogState). Tells (Syncs l.unsynced (Ok c.in_ok-sync_parts.field-0)) (g.S.Site.told c.args.site.now) (g.S.Site.told c.sync_parts.new.site)) c.self.view_is c.in_ok-sync_parts.ensures.told))

pub returns-clause-orderly : goal.returns-clause-orderly
returns-clause-orderly g c = told_orderly_ok LogError c.self.inside.unsynced _ (tt {0}) _ _ c.in_ok-sync_parts.ensures.told

pub returns-clause-stands : goal.returns-clause-stands
returns-clause-stands g c =
    subst (λ (l : LogState). Tells (StandsStill c.args.self.now l) (g.S.Site.told c.args.site.now) (g.S.Site.told c.sync_parts.new.site)) (sym (returns-clause-log g c))
    (told_still c.args.self.now c.self.inside.unsynced (Ok c.in_ok-sync_parts.field-0) _ _ c.in_ok-sync_parts.ensures.told)

pub returns-in_err-sync_parts-clause-went : goal.returns-in_err-sync_parts-clause-went
returns-in_err-sync_parts-clause-went g c =
    let l : LogState = record { opening = c.self.inside.opening; files = c.self.inside.files.items; older = c.self.inside.older; newest = c.self.inside.newest; used = c.self.inside.used; rid = c.self.inside.rid; unsynced = c.self.inside.unsynced; ended = c.self.inside.ended } in
    let sound : IsSound l = c.self.invariant (ap (λ (x : LogState). x.ended) c.self.view_is ∙ c.requires.unended) in
    let own = told_log_own l _ sound (subst (λ (x : LogState). IfSome (g.S.Site.told c.args.site.now) (OnDisk (LogThere x))) (sym c.self.view_is) c.requires.there) in
    let is : Err (fault_of_site c.in_err-sync_parts.field-0.0) ≡ c.from_residual.result = search (rules, c.from_residual.ensures) in
    let went = stopped_own l.opening l.unsynced c.in_err-sync_parts.field-0.0 c.from_residual.result _ _ is (told_syncs l.opening l.unsynced (Err c.in_err-sync_parts.field-0.0) _ _ own c.in_err-sync_parts.ensures.told) in
    subst (λ (x : LogState). Tells (GoesBy (IsLogStep x.opening) c.from_residual.result) (g.S.Site.told c.args.site.now) (g.S.Site.told c.sync_parts.new.site)) c.self.view_is (goes_of l.opening c.from_residual.result _ _ went)

pub returns-in_err-sync_parts-clause-none : goal.returns-in_err-sync_parts-clause-none
returns-in_err-sync_parts-clause-none g c =
    let l : LogState = record { opening = c.self.inside.opening; files = c.self.inside.files.items; older = c.self.inside.older; newest = c.self.inside.newest; used = c.self.inside.used; rid = c.self.inside.rid; unsynced = c.self.inside.unsynced; ended = c.self.inside.ended } in
    let sound : IsSound l = c.self.invariant (ap (λ (x : LogState). x.ended) c.self.view_is ∙ c.requires.unended) in
    let own = told_log_own l _ sound (subst (λ (x : LogState). IfSome (g.S.Site.told c.args.site.now) (OnDisk (LogThere x))) (sym c.self.view_is) c.requires.there) in
    let is : Err (fault_of_site c.in_err-sync_parts.field-0.0) ≡ c.from_residual.result = search (rules, c.from_residual.ensures) in
    let went = stopped_own l.opening l.unsynced c.in_err-sync_parts.field-0.0 c.from_residual.result _ _ is (told_syncs l.opening l.unsynced (Err c.in_err-sync_parts.field-0.0) _ _ own c.in_err-sync_parts.ensures.told) in
    none_of l.opening c.from_residual.result _ _ went

pub returns-clause-went : goal.returns-clause-went
returns-clause-went g c =
    let l : LogState = record { opening = c.self.inside.opening; files = c.self.inside.files.items; older = c.self.inside.older; newest = c.self.inside.newest; used = c.self.inside.used; rid = c.self.inside.rid; unsynced = c.self.inside.unsynced; ended = c.self.inside.ended } in
    let sound : IsSound l = c.self.invariant (ap (λ (x : LogState). x.ended) c.self.view_is ∙ c.requires.unended) in
    let own = told_log_own l _ sound (subst (λ (x : LogState). IfSome (g.S.Site.told c.args.site.now) (OnDisk (LogThere x))) (sym c.self.view_is) c.requires.there) in
    let went = ended_own (Unit {0}) l.opening l.unsynced c.in_ok-sync_parts.field-0 (tt {0}) _ _ (told_syncs l.opening l.unsynced (Ok c.in_ok-sync_parts.field-0) _ _ own c.in_ok-sync_parts.ensures.told) in
    subst (λ (x : LogState). Tells (GoesBy (IsLogStep x.opening) (Ok (tt {0}))) (g.S.Site.told c.args.site.now) (g.S.Site.told c.sync_parts.new.site)) c.self.view_is (goes_of l.opening (Ok (tt {0})) _ _ went)

pub returns-clause-none : goal.returns-clause-none
returns-clause-none g c =
    let l : LogState = record { opening = c.self.inside.opening; files = c.self.inside.files.items; older = c.self.inside.older; newest = c.self.inside.newest; used = c.self.inside.used; rid = c.self.inside.rid; unsynced = c.self.inside.unsynced; ended = c.self.inside.ended } in
    let sound : IsSound l = c.self.invariant (ap (λ (x : LogState). x.ended) c.self.view_is ∙ c.requires.unended) in
    let own = told_log_own l _ sound (subst (λ (x : LogState). IfSome (g.S.Site.told c.args.site.now) (OnDisk (LogThere x))) (sym c.self.view_is) c.requires.there) in
    let went = ended_own (Unit {0}) l.opening l.unsynced c.in_ok-sync_parts.field-0 (tt {0}) _ _ (told_syncs l.opening l.unsynced (Ok c.in_ok-sync_parts.field-0) _ _ own c.in_ok-sync_parts.ensures.told) in
    none_of l.opening (Ok (tt {0})) _ _ went

pub returns-clause-sound : goal.returns-clause-sound
returns-clause-sound g c =
    subst (λ (l : LogState). Carries (IsUndamaged c.args.self.now) (IsUndamaged l) (g.S.Site.told c.args.site.now) (g.S.Site.told c.sync_parts.new.site)) (sym (returns-clause-log g c))
    (told_still_undamaged c.args.self.now c.self.inside.unsynced (Ok c.in_ok-sync_parts.field-0) _ _ c.in_ok-sync_parts.ensures.told)

pub returns-in_err-sync_parts-clause-stays : goal.returns-in_err-sync_parts-clause-stays
returns-in_err-sync_parts-clause-stays g c =
    told_none_leaves _ _ (told_flush c.args.self.now c.self.inside.unsynced (Err c.in_err-sync_parts.field-0.0) _ _ c.requires.there c.in_err-sync_parts.ensures.told)

pub returns-clause-stays : goal.returns-clause-stays
returns-clause-stays g c = told_none_leaves _ _ (told_flush c.args.self.now c.self.inside.unsynced (Ok c.in_ok-sync_parts.field-0) _ _ c.requires.there c.in_ok-sync_parts.ensures.told)

pub returns-in_err-sync_parts-clause-writes : goal.returns-in_err-sync_parts-clause-writes
returns-in_err-sync_parts-clause-writes g c =
    let is : Err (fault_of_site c.in_err-sync_parts.field-0.0) ≡ c.from_residual.result = search (rules, c.from_residual.ensures) in
    let new : LogState = record { opening = c.self.inside.opening; files = c.self.inside.files.items; older = c.self.inside.older; newest = c.self.inside.newest; used = c.self.inside.used; rid = c.self.inside.rid; unsynced = c.self.inside.unsynced; ended = true } in
    told_flush_err (fault_of_site c.in_err-sync_parts.field-0.0) c.from_residual.result c.args.self.now new _ _ is c.requires.there
    (told_flush c.args.self.now c.self.inside.unsynced (Err c.in_err-sync_parts.field-0.0) _ _ c.requires.there c.in_err-sync_parts.ensures.told)

pub returns-clause-writes : goal.returns-clause-writes
returns-clause-writes g c =
    subst (λ (l : LogState). Tells (StaysWritten (Ok (tt {0})) c.args.self.now l) (g.S.Site.told c.args.site.now) (g.S.Site.told c.sync_parts.new.site)) (sym (returns-clause-log g c))
    (told_flush_ok c.args.self.now (tt {0}) _ _ c.requires.there (told_flush c.args.self.now c.self.inside.unsynced (Ok c.in_ok-sync_parts.field-0) _ _ c.requires.there c.in_ok-sync_parts.ensures.told))
