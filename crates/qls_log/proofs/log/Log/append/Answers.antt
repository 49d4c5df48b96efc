use Rattle.std.proofs.Common.{◌≡◌, ℕ, true, Ok, Err, if◌then◌else◌, ◌==◌, ◌+◌, ◌-◌, ◌*◌, ◌/◌, ◌%◌, ◌<◌, ◌≤◌, [], ◌++◌, List, length, drop, false, ◌^◌, IfSome, refl, sym, ap, ◌∙◌, subst, rules}
use Rattle.std.specs.List.{AllByRecursion}
use Rattle.qls_site.specs.Content.{Tells}
use Rattle.qls_blocks.specs.declared.plan.FreshFile.{FreshFile}
use Rattle.qls_blocks.specs.declared.plan.Plan.{Plan}
use Rattle.qls_blocks.specs.Plans.{plan_of}
use Rattle.qls_pool.specs.Files.{HeadedFile, OnDisk}
use Rattle.qls_log.specs.Logs.{LogState, FitsFile, IsSound, AreHeaded, capacity_in, ids, serials}
use Rattle.qls_log.specs.Taking.{DrawsEach}
use Rattle.qls_log.specs.Writing.{HaveRoom, from_written}
use Rattle.qls_log.specs.Standing.{LogThere}
use Rattle.qls_log.specs.Appending.{FollowRids, HasAppended, TakesAndWrites, StandsBehind, from_newest, written_files, batch_bytes}
use Rattle.qls_log.proofs.Fits.{plan_fits, filled_legal, rid_behind, rid_of_some}
use Rattle.qls_log.proofs.Sizes.{block_facts}
use Rattle.qls_log.proofs.Stands.{told_stands}
use Rattle.qls_log.proofs.Appended.{sound_capacity, among_written_files, told_room, headed_count, tail_length, sound_after, some_taken, told_appended, told_writes, told_there, told_pool_after, told_others_after, batch_size}
use Rattle.qls_log.specs.Reads.{ReadsOn}
use Rattle.qls_log.proofs.Behind.{told_reads_on}
use Rattle.qls_model.specs.declared.bytes.Seq.{Seq}
use Rattle.qls_blocks.specs.Batching.{with_fillers, length_of, block_length}
use Rattle.qls_blocks.specs.Spelled.{spelled_over}
use Rattle.qls_pool.specs.Moments.{Arrives}
use Rattle.qls_pool.proofs.Moments.{told_arrives}
use Rattle.qls_pool.proofs.Serials.{drawn_any, drawn_none}
use Rattle.qls_log.specs.Steps.{IsLogStep, GoesBy, AreOwn, MeetsEndWith, KeepsRoom, is_exact}
use Rattle.qls_log.proofs.OwnWrites.{goes_of, none_of}
use Rattle.qls_log.proofs.AppendSteps.{told_newest, told_meets, told_whole_after}
use Rattle.qls_log.proofs.Room.{told_keeps_room}
use Rattle.qls_log.proofs.Quiets.{told_pending}
use Rattle.qls_log.proofs.Going.{told_may, told_on, told_handed, draws_on, draws_handed, draws_nothing}
use Rattle.qls_log.proofs.Quiets.{AreAmong}
use Rattle.qls_log.specs.Soundness.{StaysUndamaged}
use Rattle.qls_log.proofs.Sound.{told_stays}
use Rattle.qls_log.specs.Keeping.{IsTakeStep}
use Rattle.qls_log.specs.Unwritten.{StaysWritten}
use Rattle.qls_pool.proofs.Moments.{told_of}
use Rattle.qls_log.proofs.BackSteps.{told_none_leaves_same, told_well_same, told_failed_written}
use Rattle.qls_log.proofs.AppendSectors.{last_place, told_append_ok, told_append_err, told_append_stays, told_batch_parts, told_took, told_took_stays, told_took_well}
use Rattle.qls_log.proofs.SpentEpoch.{told_no_epoch}
use Rattle.qls_log.proofs.log.Log.append.Goals as goal

pub take_files-requires-clause-fits : goal.take_files-requires-clause-fits
take_files-requires-clause-fits g c =
    let sound : IsSound (record { opening = c.self.inside.opening; files = c.self.inside.files.items; older = c.self.inside.older; newest = c.self.inside.newest; used = c.self.inside.used; rid = c.self.inside.rid; unsynced = c.self.inside.unsynced; ended = c.self.inside.ended }) = c.self.invariant (ap (λ (l : LogState). l.ended) c.self.view_is ∙ c.requires.unended) in
    subst (AllByRecursion (FitsFile c.self.inside.opening.home.kib)) (sym c.as_slice-fresh.ensures.same)
    (plan_fits c.self.inside.opening.home.kib c.capacity-capacity.result c.self.inside.rid c.self.inside.used c.args.batch.now c.in_ok-plan.plan c.in_ok-plan.ensures.exact c.capacity-capacity.ensures.exact
    (subst (λ n. n % 4096 ≡ 0) (sym c.capacity-capacity.ensures.exact) (sound_capacity c.self.inside.opening sound.opening).1) sound.used.0 sound.rid
    (subst (λ (l : LogState). FollowRids l.rid c.args.batch.now) (sym c.self.view_is) c.requires.rids))

pub write_batch-requires-clause-files : goal.write_batch-requires-clause-files
write_batch-requires-clause-files g c =
    let sound : IsSound (record { opening = c.self.inside.opening; files = c.self.inside.files.items; older = c.self.inside.older; newest = c.self.inside.newest; used = c.self.inside.used; rid = c.self.inside.rid; unsynced = c.self.inside.unsynced; ended = c.self.inside.ended }) = c.self.invariant (ap (λ (l : LogState). l.ended) c.self.view_is ∙ c.requires.unended) in
    let over : c.files_from-over.result.now ≡ drop (length c.self.inside.files.items - 1) (c.self.inside.files.items ++ c.in_ok-taken.taken.items) = search rules in
    ap length over ∙ tail_length c.self.inside.files.items c.in_ok-taken.taken.items (length c.in_ok-plan.plan.fresh) sound.some (headed_count c.self.inside.opening c.self.inside.newest c.as_slice-fresh.result.now c.in_ok-taken.taken.items c.in_ok-taken.ensures.headers ∙ ap length c.as_slice-fresh.ensures.same)

pub write_batch-requires-clause-there : goal.write_batch-requires-clause-there
write_batch-requires-clause-there g c =
    let l : LogState = record { opening = c.self.inside.opening; files = c.self.inside.files.items; older = c.self.inside.older; newest = c.self.inside.newest; used = c.self.inside.used; rid = c.self.inside.rid; unsynced = c.self.inside.unsynced; ended = c.self.inside.ended } in
    let sound : IsSound l = c.self.invariant (ap (λ (x : LogState). x.ended) c.self.view_is ∙ c.requires.unended) in
    let over : c.files_from-over.result.now ≡ drop (length c.self.inside.files.items - 1) (c.self.inside.files.items ++ c.in_ok-taken.taken.items) = search rules in
    subst (λ (hs : List HeadedFile). IfSome (g.S.Site.told c.take_files.new.site) (HaveRoom c.capacity-capacity.result (ids hs))) (sym over)
    (subst (λ n. IfSome (g.S.Site.told c.take_files.new.site) (HaveRoom n (ids (from_newest l c.in_ok-taken.taken.items)))) (sym c.capacity-capacity.ensures.exact)
    (told_room l sound (ap (λ (x : LogState). x.unsynced) c.self.view_is ∙ c.requires.flushed) c.args.pool.now c.take_files.new.pool c.in_ok-taken.taken.items c.as_slice-fresh.result.now c.in_ok-taken.ensures.headers c.in_ok-taken.ensures.legal _ _
    c.in_ok-taken.ensures.told (subst (λ (x : LogState). IfSome (g.S.Site.told c.args.site.now) (OnDisk (LogThere x))) (sym c.self.view_is) c.requires.there) c.requires.pool))

pub used_behind-self-inside-requires-clause-length : goal.used_behind-self-inside-requires-clause-length
used_behind-self-inside-requires-clause-length g c = block_facts c.args.batch.now c.in_ok-plan.plan.length c.requires.some c.in_ok-plan.ensures.own.bytes

pub invariant_of-self-2 : goal.invariant_of-self-2
invariant_of-self-2 g c = λ e.
    let l : LogState = record { opening = c.self.inside.opening; files = c.self.inside.files.items; older = c.self.inside.older; newest = c.self.inside.newest; used = c.self.inside.used; rid = c.self.inside.rid; unsynced = c.self.inside.unsynced; ended = c.self.inside.ended } in
    let new : LogState = record { opening = c.self.inside.opening; files = c.append.new.self.items; older = c.self.inside.older; newest = c.self.inside.newest + length c.as_slice-fresh.result.now; used = c.used_behind-self-inside.result; rid = c.last_rid-self-inside.result; unsynced = c.in_ok-written.written; ended = false } in
    let sound : IsSound l = c.self.invariant (ap (λ (x : LogState). x.ended) c.self.view_is ∙ c.requires.unended) in
    let cap : c.capacity-capacity.result ≡ capacity_in l.opening = c.capacity-capacity.ensures.exact in
    let taken : List HeadedFile = c.in_ok-taken.taken.items in
    let files : new.files ≡ l.files ++ taken = c.in_ok-append.ensures.items in
    let count : length taken ≡ length c.as_slice-fresh.result.now = headed_count l.opening l.newest c.as_slice-fresh.result.now taken c.in_ok-taken.ensures.headers in
    let over : c.files_from-over.result.now ≡ from_newest l taken = search rules in
    let written : c.in_ok-written.written ≡ ids (from_written c.capacity-capacity.result l.used c.files_from-over.result.now) = c.in_ok-written.ensures.written in
    let unsynced : new.unsynced ≡ ids (written_files l taken) = written ∙ (λ i. ids (from_written (cap i) l.used (over i))) in
    let size : length (batch_bytes l taken c.args.batch.now) ≡ c.in_ok-plan.plan.length = batch_size l taken c.args.batch.now c.in_ok-plan.plan.length c.in_ok-plan.ensures.own.bytes in
    let some : 0 < length (batch_bytes l taken c.args.batch.now) = subst (λ n. 0 < n) (sym size) (block_facts c.args.batch.now c.in_ok-plan.plan.length c.requires.some c.in_ok-plan.ensures.own.bytes).0 in
    let number : length taken ≡ (l.used + length (batch_bytes l taken c.args.batch.now) - 1) / capacity_in l.opening =
    count ∙ ap length c.as_slice-fresh.ensures.same ∙ c.in_ok-plan.ensures.own.files ∙ (λ i. (l.used + sym size i - 1) / cap i) in
    sound_after l c.as_slice-fresh.result.now taken new sound c.in_ok-taken.ensures.headers refl files refl (some_taken (capacity_in l.opening) l.used (length (batch_bytes l taken c.args.batch.now)) (length taken) (sound_capacity l.opening sound.opening).0 some number) (ap (λ n. l.newest + n) (sym count)) (subst (λ n. l.newest + n < 2 ^ 62) count c.in_ok-taken.ensures.newest)
    (c.used_behind-self-inside.ensures.blocks, subst (λ n. c.used_behind-self-inside.result ≤ n) cap c.used_behind-self-inside.ensures.within)
    (subst (λ n. n < 2 ^ 62) (sym c.last_rid-self-inside.ensures.exact) (rid_behind l.rid c.args.batch.now (subst (λ (x : LogState). FollowRids x.rid c.args.batch.now) (sym c.self.view_is) c.requires.rids)))
    c.in_ok-taken.ensures.legal
    (subst (AreAmong (ids new.files)) (sym unsynced) (among_written_files l taken new.files files))

pub returns-clause-appended : goal.returns-clause-appended
returns-clause-appended g c =
    let l : LogState = record { opening = c.self.inside.opening; files = c.self.inside.files.items; older = c.self.inside.older; newest = c.self.inside.newest; used = c.self.inside.used; rid = c.self.inside.rid; unsynced = c.self.inside.unsynced; ended = c.self.inside.ended } in
    let new : LogState = record { opening = c.self.inside.opening; files = c.append.new.self.items; older = c.self.inside.older; newest = c.self.inside.newest + length c.as_slice-fresh.result.now; used = c.used_behind-self-inside.result; rid = c.last_rid-self-inside.result; unsynced = c.in_ok-written.written; ended = false } in
    let sound : IsSound l = c.self.invariant (ap (λ (x : LogState). x.ended) c.self.view_is ∙ c.requires.unended) in
    let cap : c.capacity-capacity.result ≡ capacity_in l.opening = c.capacity-capacity.ensures.exact in
    let taken : List HeadedFile = c.in_ok-taken.taken.items in
    let files : new.files ≡ l.files ++ taken = c.in_ok-append.ensures.items in
    let count : length taken ≡ length c.as_slice-fresh.result.now = headed_count l.opening l.newest c.as_slice-fresh.result.now taken c.in_ok-taken.ensures.headers in
    let over : c.files_from-over.result.now ≡ from_newest l taken = search rules in
    let written : c.in_ok-written.written ≡ ids (from_written c.capacity-capacity.result l.used c.files_from-over.result.now) = c.in_ok-written.ensures.written in
    subst (λ (x : LogState). (t : List HeadedFile) × HasAppended c.args.batch.now x new t × DrawsEach t (g.N.Serials.drawn c.args.serials.now) (g.N.Serials.drawn c.take_files.new.serials)
    × Tells (TakesAndWrites c.args.batch.now x new c.args.pool.now c.take_files.new.pool t) (g.S.Site.told c.args.site.now) (g.S.Site.told c.write_batch.new.site)) c.self.view_is (
      taken,
      record {
        headers =
            subst (λ (xs : List FreshFile). AreHeaded l.opening l.newest xs taken)
            (c.as_slice-fresh.ensures.same ∙ ap (λ (p : Plan). p.fresh) (c.in_ok-plan.ensures.exact ∙ ap (λ n. plan_of c.args.batch.now l.used n l.rid) cap)) c.in_ok-taken.ensures.headers;
        opening = refl;
        files = files;
        older = refl;
        newest = ap (λ n. l.newest + n) (sym count);
        used =
            (λ i. c.used_behind-self-inside.result + sym cap i * count i) ∙ c.used_behind-self-inside.ensures.exact ∙ ap (λ n. l.used + n) c.in_ok-plan.ensures.own.bytes;
        rid = c.last_rid-self-inside.ensures.exact ∙ rid_of_some 0 l.rid c.args.batch.now c.requires.some;
        unsynced = written ∙ (λ i. ids (from_written (cap i) l.used (over i)));
        ended = refl;
      },
      c.in_ok-taken.ensures.drawn,
      told_appended c.args.batch.now l new c.args.pool.now c.take_files.new.pool taken c.files_from-over.result.now c.capacity-capacity.result c.in_ok-written.written _ _ _ cap over written
          c.in_ok-taken.ensures.told c.in_ok-written.ensures.told,
    )

pub returns-clause-there : goal.returns-clause-there
returns-clause-there g c =
    let l : LogState = record { opening = c.self.inside.opening; files = c.self.inside.files.items; older = c.self.inside.older; newest = c.self.inside.newest; used = c.self.inside.used; rid = c.self.inside.rid; unsynced = c.self.inside.unsynced; ended = c.self.inside.ended } in
    let new : LogState = record { opening = c.self.inside.opening; files = c.append.new.self.items; older = c.self.inside.older; newest = c.self.inside.newest + length c.as_slice-fresh.result.now; used = c.used_behind-self-inside.result; rid = c.last_rid-self-inside.result; unsynced = c.in_ok-written.written; ended = false } in
    let sound : IsSound l = c.self.invariant (ap (λ (x : LogState). x.ended) c.self.view_is ∙ c.requires.unended) in
    let cap : c.capacity-capacity.result ≡ capacity_in l.opening = c.capacity-capacity.ensures.exact in
    let taken : List HeadedFile = c.in_ok-taken.taken.items in
    let files : new.files ≡ l.files ++ taken = c.in_ok-append.ensures.items in
    let count : length taken ≡ length c.as_slice-fresh.result.now = headed_count l.opening l.newest c.as_slice-fresh.result.now taken c.in_ok-taken.ensures.headers in
    let over : c.files_from-over.result.now ≡ from_newest l taken = search rules in
    let written : c.in_ok-written.written ≡ ids (from_written c.capacity-capacity.result l.used c.files_from-over.result.now) = c.in_ok-written.ensures.written in
    let unsynced : new.unsynced ≡ ids (written_files l taken) = written ∙ (λ i. ids (from_written (cap i) l.used (over i))) in
    let writes = told_writes c.args.batch.now l taken c.files_from-over.result.now c.capacity-capacity.result c.in_ok-written.written (g.S.Site.told c.take_files.new.site) (g.S.Site.told c.write_batch.new.site) cap over written c.in_ok-written.ensures.told in
    let size : length (batch_bytes l taken c.args.batch.now) ≡ c.in_ok-plan.plan.length = batch_size l taken c.args.batch.now c.in_ok-plan.plan.length c.in_ok-plan.ensures.own.bytes in
    let some : 0 < length (batch_bytes l taken c.args.batch.now) = subst (λ n. 0 < n) (sym size) (block_facts c.args.batch.now c.in_ok-plan.plan.length c.requires.some c.in_ok-plan.ensures.own.bytes).0 in
    let number : length taken ≡ (l.used + length (batch_bytes l taken c.args.batch.now) - 1) / capacity_in l.opening =
    count ∙ ap length c.as_slice-fresh.ensures.same ∙ c.in_ok-plan.ensures.own.files ∙ (λ i. (l.used + sym size i - 1) / cap i) in
    let flushed : l.unsynced ≡ [] = ap (λ (x : LogState). x.unsynced) c.self.view_is ∙ c.requires.flushed in
    let there : IfSome (g.S.Site.told c.args.site.now) (OnDisk (LogThere l)) = subst (λ (x : LogState). IfSome (g.S.Site.told c.args.site.now) (OnDisk (LogThere x))) (sym c.self.view_is) c.requires.there in
    told_there l sound flushed c.args.pool.now c.take_files.new.pool taken c.as_slice-fresh.result.now c.in_ok-taken.ensures.headers c.in_ok-taken.ensures.legal (batch_bytes l taken c.args.batch.now) some number
    new refl files unsynced _ _ _ c.in_ok-taken.ensures.told writes there c.requires.pool

pub returns-clause-pool : goal.returns-clause-pool
returns-clause-pool g c =
    let l : LogState = record { opening = c.self.inside.opening; files = c.self.inside.files.items; older = c.self.inside.older; newest = c.self.inside.newest; used = c.self.inside.used; rid = c.self.inside.rid; unsynced = c.self.inside.unsynced; ended = c.self.inside.ended } in
    let new : LogState = record { opening = c.self.inside.opening; files = c.append.new.self.items; older = c.self.inside.older; newest = c.self.inside.newest + length c.as_slice-fresh.result.now; used = c.used_behind-self-inside.result; rid = c.last_rid-self-inside.result; unsynced = c.in_ok-written.written; ended = false } in
    let sound : IsSound l = c.self.invariant (ap (λ (x : LogState). x.ended) c.self.view_is ∙ c.requires.unended) in
    let cap : c.capacity-capacity.result ≡ capacity_in l.opening = c.capacity-capacity.ensures.exact in
    let taken : List HeadedFile = c.in_ok-taken.taken.items in
    let files : new.files ≡ l.files ++ taken = c.in_ok-append.ensures.items in
    let count : length taken ≡ length c.as_slice-fresh.result.now = headed_count l.opening l.newest c.as_slice-fresh.result.now taken c.in_ok-taken.ensures.headers in
    let over : c.files_from-over.result.now ≡ from_newest l taken = search rules in
    let written : c.in_ok-written.written ≡ ids (from_written c.capacity-capacity.result l.used c.files_from-over.result.now) = c.in_ok-written.ensures.written in
    let unsynced : new.unsynced ≡ ids (written_files l taken) = written ∙ (λ i. ids (from_written (cap i) l.used (over i))) in
    let writes = told_writes c.args.batch.now l taken c.files_from-over.result.now c.capacity-capacity.result c.in_ok-written.written (g.S.Site.told c.take_files.new.site) (g.S.Site.told c.write_batch.new.site) cap over written c.in_ok-written.ensures.told in
    let size : length (batch_bytes l taken c.args.batch.now) ≡ c.in_ok-plan.plan.length = batch_size l taken c.args.batch.now c.in_ok-plan.plan.length c.in_ok-plan.ensures.own.bytes in
    let some : 0 < length (batch_bytes l taken c.args.batch.now) = subst (λ n. 0 < n) (sym size) (block_facts c.args.batch.now c.in_ok-plan.plan.length c.requires.some c.in_ok-plan.ensures.own.bytes).0 in
    let number : length taken ≡ (l.used + length (batch_bytes l taken c.args.batch.now) - 1) / capacity_in l.opening =
    count ∙ ap length c.as_slice-fresh.ensures.same ∙ c.in_ok-plan.ensures.own.files ∙ (λ i. (l.used + sym size i - 1) / cap i) in
    let flushed : l.unsynced ≡ [] = ap (λ (x : LogState). x.unsynced) c.self.view_is ∙ c.requires.flushed in
    let there : IfSome (g.S.Site.told c.args.site.now) (OnDisk (LogThere l)) = subst (λ (x : LogState). IfSome (g.S.Site.told c.args.site.now) (OnDisk (LogThere x))) (sym c.self.view_is) c.requires.there in
    told_pool_after l sound flushed c.args.pool.now c.take_files.new.pool taken c.as_slice-fresh.result.now c.in_ok-taken.ensures.headers c.in_ok-taken.ensures.legal (batch_bytes l taken c.args.batch.now) some number
    new refl files unsynced _ _ _ c.in_ok-taken.ensures.told writes there c.requires.pool

pub returns-clause-others : goal.returns-clause-others
returns-clause-others g c =
    let l : LogState = record { opening = c.self.inside.opening; files = c.self.inside.files.items; older = c.self.inside.older; newest = c.self.inside.newest; used = c.self.inside.used; rid = c.self.inside.rid; unsynced = c.self.inside.unsynced; ended = c.self.inside.ended } in
    let new : LogState = record { opening = c.self.inside.opening; files = c.append.new.self.items; older = c.self.inside.older; newest = c.self.inside.newest + length c.as_slice-fresh.result.now; used = c.used_behind-self-inside.result; rid = c.last_rid-self-inside.result; unsynced = c.in_ok-written.written; ended = false } in
    let sound : IsSound l = c.self.invariant (ap (λ (x : LogState). x.ended) c.self.view_is ∙ c.requires.unended) in
    let cap : c.capacity-capacity.result ≡ capacity_in l.opening = c.capacity-capacity.ensures.exact in
    let taken : List HeadedFile = c.in_ok-taken.taken.items in
    let files : new.files ≡ l.files ++ taken = c.in_ok-append.ensures.items in
    let count : length taken ≡ length c.as_slice-fresh.result.now = headed_count l.opening l.newest c.as_slice-fresh.result.now taken c.in_ok-taken.ensures.headers in
    let over : c.files_from-over.result.now ≡ from_newest l taken = search rules in
    let written : c.in_ok-written.written ≡ ids (from_written c.capacity-capacity.result l.used c.files_from-over.result.now) = c.in_ok-written.ensures.written in
    let unsynced : new.unsynced ≡ ids (written_files l taken) = written ∙ (λ i. ids (from_written (cap i) l.used (over i))) in
    let writes = told_writes c.args.batch.now l taken c.files_from-over.result.now c.capacity-capacity.result c.in_ok-written.written (g.S.Site.told c.take_files.new.site) (g.S.Site.told c.write_batch.new.site) cap over written c.in_ok-written.ensures.told in
    let size : length (batch_bytes l taken c.args.batch.now) ≡ c.in_ok-plan.plan.length = batch_size l taken c.args.batch.now c.in_ok-plan.plan.length c.in_ok-plan.ensures.own.bytes in
    let some : 0 < length (batch_bytes l taken c.args.batch.now) = subst (λ n. 0 < n) (sym size) (block_facts c.args.batch.now c.in_ok-plan.plan.length c.requires.some c.in_ok-plan.ensures.own.bytes).0 in
    let number : length taken ≡ (l.used + length (batch_bytes l taken c.args.batch.now) - 1) / capacity_in l.opening =
    count ∙ ap length c.as_slice-fresh.ensures.same ∙ c.in_ok-plan.ensures.own.files ∙ (λ i. (l.used + sym size i - 1) / cap i) in
    let flushed : l.unsynced ≡ [] = ap (λ (x : LogState). x.unsynced) c.self.view_is ∙ c.requires.flushed in
    let there : IfSome (g.S.Site.told c.args.site.now) (OnDisk (LogThere l)) = subst (λ (x : LogState). IfSome (g.S.Site.told c.args.site.now) (OnDisk (LogThere x))) (sym c.self.view_is) c.requires.there in
    told_others_after l c.args.pool.now c.take_files.new.pool taken c.as_slice-fresh.result.now c.in_ok-taken.ensures.headers c.in_ok-taken.ensures.legal (batch_bytes l taken c.args.batch.now) new.files files _ _ _
    c.in_ok-taken.ensures.told writes

pub returns-clause-stands : goal.returns-clause-stands
returns-clause-stands g c =
    let l : LogState = record { opening = c.self.inside.opening; files = c.self.inside.files.items; older = c.self.inside.older; newest = c.self.inside.newest; used = c.self.inside.used; rid = c.self.inside.rid; unsynced = c.self.inside.unsynced; ended = c.self.inside.ended } in
    let new : LogState = record { opening = c.self.inside.opening; files = c.append.new.self.items; older = c.self.inside.older; newest = c.self.inside.newest + length c.as_slice-fresh.result.now; used = c.used_behind-self-inside.result; rid = c.last_rid-self-inside.result; unsynced = c.in_ok-written.written; ended = false } in
    let sound : IsSound l = c.self.invariant (ap (λ (x : LogState). x.ended) c.self.view_is ∙ c.requires.unended) in
    let cap : c.capacity-capacity.result ≡ capacity_in l.opening = c.capacity-capacity.ensures.exact in
    let taken : List HeadedFile = c.in_ok-taken.taken.items in
    let files : new.files ≡ l.files ++ taken = c.in_ok-append.ensures.items in
    let count : length taken ≡ length c.as_slice-fresh.result.now = headed_count l.opening l.newest c.as_slice-fresh.result.now taken c.in_ok-taken.ensures.headers in
    let over : c.files_from-over.result.now ≡ from_newest l taken = search rules in
    let written : c.in_ok-written.written ≡ ids (from_written c.capacity-capacity.result l.used c.files_from-over.result.now) = c.in_ok-written.ensures.written in
    let unsynced : new.unsynced ≡ ids (written_files l taken) = written ∙ (λ i. ids (from_written (cap i) l.used (over i))) in
    let writes = told_writes c.args.batch.now l taken c.files_from-over.result.now c.capacity-capacity.result c.in_ok-written.written (g.S.Site.told c.take_files.new.site) (g.S.Site.told c.write_batch.new.site) cap over written c.in_ok-written.ensures.told in
    let size : length (batch_bytes l taken c.args.batch.now) ≡ c.in_ok-plan.plan.length = batch_size l taken c.args.batch.now c.in_ok-plan.plan.length c.in_ok-plan.ensures.own.bytes in
    let some : 0 < length (batch_bytes l taken c.args.batch.now) = subst (λ n. 0 < n) (sym size) (block_facts c.args.batch.now c.in_ok-plan.plan.length c.requires.some c.in_ok-plan.ensures.own.bytes).0 in
    let number : length taken ≡ (l.used + length (batch_bytes l taken c.args.batch.now) - 1) / capacity_in l.opening =
    count ∙ ap length c.as_slice-fresh.ensures.same ∙ c.in_ok-plan.ensures.own.files ∙ (λ i. (l.used + sym size i - 1) / cap i) in
    let flushed : l.unsynced ≡ [] = ap (λ (x : LogState). x.unsynced) c.self.view_is ∙ c.requires.flushed in
    let there : IfSome (g.S.Site.told c.args.site.now) (OnDisk (LogThere l)) = subst (λ (x : LogState). IfSome (g.S.Site.told c.args.site.now) (OnDisk (LogThere x))) (sym c.self.view_is) c.requires.there in
    let rids = subst (λ (x : LogState). FollowRids x.rid c.args.batch.now) (sym c.self.view_is) c.requires.rids in
    let used : new.used + capacity_in l.opening * length taken ≡ l.used + length (batch_bytes l taken c.args.batch.now) =
    (λ i. c.used_behind-self-inside.result + sym cap i * count i) ∙ c.used_behind-self-inside.ensures.exact ∙ ap (λ n. l.used + n) (sym size) in
    subst (λ (x : LogState). Tells (StandsBehind c.args.batch.now x new) (g.S.Site.told c.args.site.now) (g.S.Site.told c.write_batch.new.site)) c.self.view_is
    (told_stands l sound flushed c.args.pool.now c.take_files.new.pool taken c.as_slice-fresh.result.now c.in_ok-taken.ensures.headers c.in_ok-taken.ensures.legal c.args.batch.now
    (filled_legal l.rid c.args.batch.now rids c.in_ok-spots.ensures.legal) some number new refl files used _ _ _ c.in_ok-taken.ensures.told writes there c.requires.pool)

pub returns-clause-reading : goal.returns-clause-reading
returns-clause-reading g c =
    let l : LogState = record { opening = c.self.inside.opening; files = c.self.inside.files.items; older = c.self.inside.older; newest = c.self.inside.newest; used = c.self.inside.used; rid = c.self.inside.rid; unsynced = c.self.inside.unsynced; ended = c.self.inside.ended } in
    let new : LogState = record { opening = c.self.inside.opening; files = c.append.new.self.items; older = c.self.inside.older; newest = c.self.inside.newest + length c.as_slice-fresh.result.now; used = c.used_behind-self-inside.result; rid = c.last_rid-self-inside.result; unsynced = c.in_ok-written.written; ended = false } in
    let sound : IsSound l = c.self.invariant (ap (λ (x : LogState). x.ended) c.self.view_is ∙ c.requires.unended) in
    let cap : c.capacity-capacity.result ≡ capacity_in l.opening = c.capacity-capacity.ensures.exact in
    let taken : List HeadedFile = c.in_ok-taken.taken.items in
    let files : new.files ≡ l.files ++ taken = c.in_ok-append.ensures.items in
    let count : length taken ≡ length c.as_slice-fresh.result.now = headed_count l.opening l.newest c.as_slice-fresh.result.now taken c.in_ok-taken.ensures.headers in
    let over : c.files_from-over.result.now ≡ from_newest l taken = search rules in
    let written : c.in_ok-written.written ≡ ids (from_written c.capacity-capacity.result l.used c.files_from-over.result.now) = c.in_ok-written.ensures.written in
    let unsynced : new.unsynced ≡ ids (written_files l taken) = written ∙ (λ i. ids (from_written (cap i) l.used (over i))) in
    let writes = told_writes c.args.batch.now l taken c.files_from-over.result.now c.capacity-capacity.result c.in_ok-written.written (g.S.Site.told c.take_files.new.site) (g.S.Site.told c.write_batch.new.site) cap over written c.in_ok-written.ensures.told in
    let size : length (batch_bytes l taken c.args.batch.now) ≡ c.in_ok-plan.plan.length = batch_size l taken c.args.batch.now c.in_ok-plan.plan.length c.in_ok-plan.ensures.own.bytes in
    let some : 0 < length (batch_bytes l taken c.args.batch.now) = subst (λ n. 0 < n) (sym size) (block_facts c.args.batch.now c.in_ok-plan.plan.length c.requires.some c.in_ok-plan.ensures.own.bytes).0 in
    let number : length taken ≡ (l.used + length (batch_bytes l taken c.args.batch.now) - 1) / capacity_in l.opening =
    count ∙ ap length c.as_slice-fresh.ensures.same ∙ c.in_ok-plan.ensures.own.files ∙ (λ i. (l.used + sym size i - 1) / cap i) in
    let flushed : l.unsynced ≡ [] = ap (λ (x : LogState). x.unsynced) c.self.view_is ∙ c.requires.flushed in
    let there : IfSome (g.S.Site.told c.args.site.now) (OnDisk (LogThere l)) = subst (λ (x : LogState). IfSome (g.S.Site.told c.args.site.now) (OnDisk (LogThere x))) (sym c.self.view_is) c.requires.there in
    let rids = subst (λ (x : LogState). FollowRids x.rid c.args.batch.now) (sym c.self.view_is) c.requires.rids in
    let used : new.used + capacity_in l.opening * length taken ≡ l.used + length (batch_bytes l taken c.args.batch.now) =
    (λ i. c.used_behind-self-inside.result + sym cap i * count i) ∙ c.used_behind-self-inside.ensures.exact ∙ ap (λ n. l.used + n) (sym size) in
    let again : IsSound new = invariant_of-self-2 g c refl in
    let planned : c.as_slice-fresh.result.now ≡ (plan_of c.args.batch.now l.used (capacity_in l.opening) l.rid).fresh =
    c.as_slice-fresh.ensures.same ∙ ap (λ (p : Plan). p.fresh) (c.in_ok-plan.ensures.exact ∙ ap (λ n. plan_of c.args.batch.now l.used n l.rid) cap) in
    subst (λ (x : LogState). Tells (ReadsOn c.args.batch.now x new) (g.S.Site.told c.args.site.now) (g.S.Site.told c.write_batch.new.site)) c.self.view_is
    (told_reads_on l sound flushed c.args.pool.now c.take_files.new.pool taken c.as_slice-fresh.result.now c.in_ok-taken.ensures.headers c.in_ok-taken.ensures.legal c.args.batch.now
    (filled_legal l.rid c.args.batch.now rids c.in_ok-spots.ensures.legal) some number new refl files refl used (ap (λ n. l.newest + n) (sym count)) again planned _ _ _ c.in_ok-taken.ensures.told writes there c.requires.pool)

pub take_files-requires-clause-start : goal.take_files-requires-clause-start
take_files-requires-clause-start g c =
    let l : LogState = record { opening = c.self.inside.opening; files = c.self.inside.files.items; older = c.self.inside.older; newest = c.self.inside.newest; used = c.self.inside.used; rid = c.self.inside.rid; unsynced = c.self.inside.unsynced; ended = c.self.inside.ended } in
    let sound : IsSound l = c.self.invariant (ap (λ (x : LogState). x.ended) c.self.view_is ∙ c.requires.unended) in
    told_may l c.args.pool.now _ sound (subst (λ (x : LogState). IfSome (g.S.Site.told c.args.site.now) (OnDisk (LogThere x))) (sym c.self.view_is) c.requires.there) c.requires.pool

pub returns-in_err-plan-clause-drew : goal.returns-in_err-plan-clause-drew
returns-in_err-plan-clause-drew g c =
    draws_nothing (IsLogStep c.args.self.now.opening) (is_exact c.from_residual.result) _ _

pub returns-in_err-taken-clause-ends : goal.returns-in_err-taken-clause-ends
returns-in_err-taken-clause-ends g c = λ e.
    let l : LogState = record { opening = c.self.inside.opening; files = c.self.inside.files.items; older = c.self.inside.older; newest = c.self.inside.newest; used = c.self.inside.used; rid = c.self.inside.rid; unsynced = c.self.inside.unsynced; ended = c.self.inside.ended } in
    let sound : IsSound l = c.self.invariant (ap (λ (x : LogState). x.ended) c.self.view_is ∙ c.requires.unended) in
    let cap : c.capacity-capacity.result ≡ capacity_in l.opening = c.capacity-capacity.ensures.exact in
    let needed : c.in_ok-plan.plan.length ≡ block_length (length_of c.args.batch.now) = c.in_ok-plan.ensures.own.bytes in
    let count : length c.as_slice-fresh.result.now ≡ (l.used + block_length (length_of c.args.batch.now) - 1) / capacity_in l.opening =
    ap length c.as_slice-fresh.ensures.same ∙ c.in_ok-plan.ensures.own.files ∙ (λ i. (l.used + needed i - 1) / cap i) in
    subst (λ (x : LogState). IfSome (g.S.Site.told c.take_files.new.site) (OnDisk (MeetsEndWith x (block_length (length_of c.args.batch.now))))) c.self.view_is
    (told_meets l c.take_files.new.pool (length c.as_slice-fresh.result.now) (block_length (length_of c.args.batch.now)) _ (sound_capacity l.opening sound.opening).0 sound.used.1 count (c.in_err-taken.ensures.ends (search rules))
    (told_no_epoch l sound c.as_slice-fresh.result.now c.args.pool.now c.take_files.new.pool _ _ (c.in_err-taken.ensures.some (search rules))
    (subst (λ (x : LogState). IfSome (g.S.Site.told c.args.site.now) (OnDisk (LogThere x))) (sym c.self.view_is) c.requires.there)))

pub returns-in_err-taken-clause-room : goal.returns-in_err-taken-clause-room
returns-in_err-taken-clause-room g c = λ e.
    let l : LogState = record { opening = c.self.inside.opening; files = c.self.inside.files.items; older = c.self.inside.older; newest = c.self.inside.newest; used = c.self.inside.used; rid = c.self.inside.rid; unsynced = c.self.inside.unsynced; ended = c.self.inside.ended } in
    let sound : IsSound l = c.self.invariant (ap (λ (x : LogState). x.ended) c.self.view_is ∙ c.requires.unended) in
    let cap : c.capacity-capacity.result ≡ capacity_in l.opening = c.capacity-capacity.ensures.exact in
    let flushed : l.unsynced ≡ [] = ap (λ (x : LogState). x.unsynced) c.self.view_is ∙ c.requires.flushed in
    let there : IfSome (g.S.Site.told c.args.site.now) (OnDisk (LogThere l)) = subst (λ (x : LogState). IfSome (g.S.Site.told c.args.site.now) (OnDisk (LogThere x))) (sym c.self.view_is) c.requires.there in
    let planned : c.as_slice-fresh.result.now ≡ (plan_of c.args.batch.now l.used (capacity_in l.opening) l.rid).fresh =
    c.as_slice-fresh.ensures.same ∙ ap (λ (p : Plan). p.fresh) (c.in_ok-plan.ensures.exact ∙ ap (λ n. plan_of c.args.batch.now l.used n l.rid) cap) in
    subst (λ (x : LogState). Tells (KeepsRoom x) (g.S.Site.told c.args.site.now) (g.S.Site.told c.take_files.new.site)) c.self.view_is
    (told_keeps_room l c.args.pool.now c.take_files.new.pool c.as_slice-fresh.result.now c.args.batch.now sound flushed planned _ _ (c.in_err-taken.ensures.some (search rules)) there c.requires.pool)

pub returns-in_err-append-clause-drew : goal.returns-in_err-append-clause-drew
returns-in_err-append-clause-drew g c =
    drawn_any (is_exact c.from_residual-in_err-append.result) _ _ _ _ c.in_ok-taken.ensures.drew

pub returns-in_err-written-clause-went : goal.returns-in_err-written-clause-went
returns-in_err-written-clause-went g c =
    let l : LogState = record { opening = c.self.inside.opening; files = c.self.inside.files.items; older = c.self.inside.older; newest = c.self.inside.newest; used = c.self.inside.used; rid = c.self.inside.rid; unsynced = c.self.inside.unsynced; ended = c.self.inside.ended } in
    let sound : IsSound l = c.self.invariant (ap (λ (x : LogState). x.ended) c.self.view_is ∙ c.requires.unended) in
    let cap : c.capacity-capacity.result ≡ capacity_in l.opening = c.capacity-capacity.ensures.exact in
    let taken : List HeadedFile = c.in_ok-taken.taken.items in
    let over : c.files_from-over.result.now ≡ from_newest l taken = search rules in
    let flushed : l.unsynced ≡ [] = ap (λ (x : LogState). x.unsynced) c.self.view_is ∙ c.requires.flushed in
    let there : IfSome (g.S.Site.told c.args.site.now) (OnDisk (LogThere l)) = subst (λ (x : LogState). IfSome (g.S.Site.told c.args.site.now) (OnDisk (LogThere x))) (sym c.self.view_is) c.requires.there in
    let own : IfSome (g.S.Site.told c.take_files.new.site) (OnDisk (AreOwn l.opening (ids c.files_from-over.result.now))) =
    subst (λ (hs : List HeadedFile). IfSome (g.S.Site.told c.take_files.new.site) (OnDisk (AreOwn l.opening (ids hs)))) (sym over)
    (told_newest l sound flushed c.args.pool.now c.take_files.new.pool taken c.as_slice-fresh.result.now c.in_ok-taken.ensures.headers c.in_ok-taken.ensures.legal _ _ c.in_ok-taken.ensures.told there c.requires.pool) in
    let is : Err c.in_err-written.field-0.0 ≡ c.from_residual-in_err-written.result = search (rules, c.from_residual-in_err-written.ensures) in
    let wrote = c.in_err-written.ensures.own l.opening own in
    let went = told_on (IsLogStep l.opening) {X = Seq ℕ} (Err c.in_err-written.field-0.0) _ _ _ c.in_ok-taken.ensures.went (goes_of {X = Seq ℕ} l.opening (Err c.in_err-written.field-0.0) _ _ wrote) in
    subst (λ (x : LogState). Tells (GoesBy (IsLogStep x.opening) c.from_residual-in_err-written.result) (g.S.Site.told c.args.site.now) (g.S.Site.told c.write_batch.new.site)) c.self.view_is
    (told_handed (IsLogStep l.opening) (Seq ℕ) c.in_err-written.field-0.0 c.from_residual-in_err-written.result _ _ is went)

pub returns-in_err-written-clause-drew : goal.returns-in_err-written-clause-drew
returns-in_err-written-clause-drew g c =
    let l : LogState = record { opening = c.self.inside.opening; files = c.self.inside.files.items; older = c.self.inside.older; newest = c.self.inside.newest; used = c.self.inside.used; rid = c.self.inside.rid; unsynced = c.self.inside.unsynced; ended = c.self.inside.ended } in
    let sound : IsSound l = c.self.invariant (ap (λ (x : LogState). x.ended) c.self.view_is ∙ c.requires.unended) in
    let cap : c.capacity-capacity.result ≡ capacity_in l.opening = c.capacity-capacity.ensures.exact in
    let taken : List HeadedFile = c.in_ok-taken.taken.items in
    let over : c.files_from-over.result.now ≡ from_newest l taken = search rules in
    let flushed : l.unsynced ≡ [] = ap (λ (x : LogState). x.unsynced) c.self.view_is ∙ c.requires.flushed in
    let there : IfSome (g.S.Site.told c.args.site.now) (OnDisk (LogThere l)) = subst (λ (x : LogState). IfSome (g.S.Site.told c.args.site.now) (OnDisk (LogThere x))) (sym c.self.view_is) c.requires.there in
    let own : IfSome (g.S.Site.told c.take_files.new.site) (OnDisk (AreOwn l.opening (ids c.files_from-over.result.now))) =
    subst (λ (hs : List HeadedFile). IfSome (g.S.Site.told c.take_files.new.site) (OnDisk (AreOwn l.opening (ids hs)))) (sym over)
    (told_newest l sound flushed c.args.pool.now c.take_files.new.pool taken c.as_slice-fresh.result.now c.in_ok-taken.ensures.headers c.in_ok-taken.ensures.legal _ _ c.in_ok-taken.ensures.told there c.requires.pool) in
    let is : Err c.in_err-written.field-0.0 ≡ c.from_residual-in_err-written.result = search (rules, c.from_residual-in_err-written.ensures) in
    let wrote = c.in_err-written.ensures.own l.opening own in
    let went = told_on (IsLogStep l.opening) {X = Seq ℕ} (Err c.in_err-written.field-0.0) _ _ _ c.in_ok-taken.ensures.went (goes_of {X = Seq ℕ} l.opening (Err c.in_err-written.field-0.0) _ _ wrote) in
    draws_handed (Seq ℕ) c.in_err-written.field-0.0 c.from_residual-in_err-written.result _ _ _ _ is
    (draws_on (IsLogStep l.opening) {X = Seq ℕ} (Err c.in_err-written.field-0.0) _ _ _ _ _ _ c.in_ok-taken.ensures.went (goes_of {X = Seq ℕ} l.opening (Err c.in_err-written.field-0.0) _ _ wrote) c.in_ok-taken.ensures.drew
    (drawn_none (is_exact {X = Seq ℕ} (Err c.in_err-written.field-0.0)) _ _ _ _ (none_of {X = Seq ℕ} l.opening (Err c.in_err-written.field-0.0) _ _ wrote) refl))

pub returns-clause-went : goal.returns-clause-went
returns-clause-went g c =
    let l : LogState = record { opening = c.self.inside.opening; files = c.self.inside.files.items; older = c.self.inside.older; newest = c.self.inside.newest; used = c.self.inside.used; rid = c.self.inside.rid; unsynced = c.self.inside.unsynced; ended = c.self.inside.ended } in
    let sound : IsSound l = c.self.invariant (ap (λ (x : LogState). x.ended) c.self.view_is ∙ c.requires.unended) in
    let cap : c.capacity-capacity.result ≡ capacity_in l.opening = c.capacity-capacity.ensures.exact in
    let taken : List HeadedFile = c.in_ok-taken.taken.items in
    let over : c.files_from-over.result.now ≡ from_newest l taken = search rules in
    let flushed : l.unsynced ≡ [] = ap (λ (x : LogState). x.unsynced) c.self.view_is ∙ c.requires.flushed in
    let there : IfSome (g.S.Site.told c.args.site.now) (OnDisk (LogThere l)) = subst (λ (x : LogState). IfSome (g.S.Site.told c.args.site.now) (OnDisk (LogThere x))) (sym c.self.view_is) c.requires.there in
    let own : IfSome (g.S.Site.told c.take_files.new.site) (OnDisk (AreOwn l.opening (ids c.files_from-over.result.now))) =
    subst (λ (hs : List HeadedFile). IfSome (g.S.Site.told c.take_files.new.site) (OnDisk (AreOwn l.opening (ids hs)))) (sym over)
    (told_newest l sound flushed c.args.pool.now c.take_files.new.pool taken c.as_slice-fresh.result.now c.in_ok-taken.ensures.headers c.in_ok-taken.ensures.legal _ _ c.in_ok-taken.ensures.told there c.requires.pool) in
    let wrote = c.in_ok-written.ensures.own l.opening own in
    let went : Tells (Arrives (IsLogStep l.opening)) (g.S.Site.told c.take_files.new.site) (g.S.Site.told c.write_batch.new.site) = goes_of {X = Seq ℕ} l.opening (Ok c.in_ok-written.written) _ _ wrote in
    subst (λ (x : LogState). Tells (Arrives (IsLogStep x.opening)) (g.S.Site.told c.args.site.now) (g.S.Site.told c.write_batch.new.site)) c.self.view_is
    (told_arrives (IsLogStep l.opening) _ _ _ c.in_ok-taken.ensures.went went)

pub returns-clause-drew : goal.returns-clause-drew
returns-clause-drew g c =
    let l : LogState = record { opening = c.self.inside.opening; files = c.self.inside.files.items; older = c.self.inside.older; newest = c.self.inside.newest; used = c.self.inside.used; rid = c.self.inside.rid; unsynced = c.self.inside.unsynced; ended = c.self.inside.ended } in
    let sound : IsSound l = c.self.invariant (ap (λ (x : LogState). x.ended) c.self.view_is ∙ c.requires.unended) in
    let cap : c.capacity-capacity.result ≡ capacity_in l.opening = c.capacity-capacity.ensures.exact in
    let taken : List HeadedFile = c.in_ok-taken.taken.items in
    let over : c.files_from-over.result.now ≡ from_newest l taken = search rules in
    let flushed : l.unsynced ≡ [] = ap (λ (x : LogState). x.unsynced) c.self.view_is ∙ c.requires.flushed in
    let there : IfSome (g.S.Site.told c.args.site.now) (OnDisk (LogThere l)) = subst (λ (x : LogState). IfSome (g.S.Site.told c.args.site.now) (OnDisk (LogThere x))) (sym c.self.view_is) c.requires.there in
    let own : IfSome (g.S.Site.told c.take_files.new.site) (OnDisk (AreOwn l.opening (ids c.files_from-over.result.now))) =
    subst (λ (hs : List HeadedFile). IfSome (g.S.Site.told c.take_files.new.site) (OnDisk (AreOwn l.opening (ids hs)))) (sym over)
    (told_newest l sound flushed c.args.pool.now c.take_files.new.pool taken c.as_slice-fresh.result.now c.in_ok-taken.ensures.headers c.in_ok-taken.ensures.legal _ _ c.in_ok-taken.ensures.told there c.requires.pool) in
    let wrote = c.in_ok-written.ensures.own l.opening own in
    let went : Tells (Arrives (IsLogStep l.opening)) (g.S.Site.told c.take_files.new.site) (g.S.Site.told c.write_batch.new.site) = goes_of {X = Seq ℕ} l.opening (Ok c.in_ok-written.written) _ _ wrote in
    draws_on (IsLogStep l.opening) {X = Seq ℕ} (Ok c.in_ok-written.written) _ _ _ _ _ _ c.in_ok-taken.ensures.went went c.in_ok-taken.ensures.drew
    (drawn_none true _ _ _ _ (none_of {X = Seq ℕ} l.opening (Ok c.in_ok-written.written) _ _ wrote) refl)

pub returns-clause-pending : goal.returns-clause-pending
returns-clause-pending g c =
    let l : LogState = record { opening = c.self.inside.opening; files = c.self.inside.files.items; older = c.self.inside.older; newest = c.self.inside.newest; used = c.self.inside.used; rid = c.self.inside.rid; unsynced = c.self.inside.unsynced; ended = c.self.inside.ended } in
    let sound : IsSound l = c.self.invariant (ap (λ (x : LogState). x.ended) c.self.view_is ∙ c.requires.unended) in
    told_pending l.opening.home c.args.pool.now c.take_files.new.pool c.in_ok-taken.taken.items c.capacity-capacity.result c.in_ok-written.written (if l.used == c.capacity-capacity.result then 0 else l.used)
    (spelled_over c.capacity-capacity.result (serials c.files_from-over.result.now) l.used (with_fillers c.args.batch.now)) _ _ _ c.in_ok-taken.ensures.told c.in_ok-written.ensures.told

pub returns-clause-whole : goal.returns-clause-whole
returns-clause-whole g c =
    told_whole_after _ c.take_files.new.pool _ (returns-clause-there g c) (returns-clause-pool g c)

pub returns-clause-legal : goal.returns-clause-legal
returns-clause-legal g c = invariant_of-self-2 g c refl

pub returns-clause-sound : goal.returns-clause-sound
returns-clause-sound g c =
    let l : LogState = record { opening = c.self.inside.opening; files = c.self.inside.files.items; older = c.self.inside.older; newest = c.self.inside.newest; used = c.self.inside.used; rid = c.self.inside.rid; unsynced = c.self.inside.unsynced; ended = c.self.inside.ended } in
    let new : LogState = record { opening = c.self.inside.opening; files = c.append.new.self.items; older = c.self.inside.older; newest = c.self.inside.newest + length c.as_slice-fresh.result.now; used = c.used_behind-self-inside.result; rid = c.last_rid-self-inside.result; unsynced = c.in_ok-written.written; ended = false } in
    let sound : IsSound l = c.self.invariant (ap (λ (x : LogState). x.ended) c.self.view_is ∙ c.requires.unended) in
    let cap : c.capacity-capacity.result ≡ capacity_in l.opening = c.capacity-capacity.ensures.exact in
    let taken : List HeadedFile = c.in_ok-taken.taken.items in
    let files : new.files ≡ l.files ++ taken = c.in_ok-append.ensures.items in
    let count : length taken ≡ length c.as_slice-fresh.result.now = headed_count l.opening l.newest c.as_slice-fresh.result.now taken c.in_ok-taken.ensures.headers in
    let over : c.files_from-over.result.now ≡ from_newest l taken = search rules in
    let written : c.in_ok-written.written ≡ ids (from_written c.capacity-capacity.result l.used c.files_from-over.result.now) = c.in_ok-written.ensures.written in
    let unsynced : new.unsynced ≡ ids (written_files l taken) = written ∙ (λ i. ids (from_written (cap i) l.used (over i))) in
    let writes = told_writes c.args.batch.now l taken c.files_from-over.result.now c.capacity-capacity.result c.in_ok-written.written (g.S.Site.told c.take_files.new.site) (g.S.Site.told c.write_batch.new.site) cap over written c.in_ok-written.ensures.told in
    let size : length (batch_bytes l taken c.args.batch.now) ≡ c.in_ok-plan.plan.length = batch_size l taken c.args.batch.now c.in_ok-plan.plan.length c.in_ok-plan.ensures.own.bytes in
    let some : 0 < length (batch_bytes l taken c.args.batch.now) = subst (λ n. 0 < n) (sym size) (block_facts c.args.batch.now c.in_ok-plan.plan.length c.requires.some c.in_ok-plan.ensures.own.bytes).0 in
    let number : length taken ≡ (l.used + length (batch_bytes l taken c.args.batch.now) - 1) / capacity_in l.opening =
    count ∙ ap length c.as_slice-fresh.ensures.same ∙ c.in_ok-plan.ensures.own.files ∙ (λ i. (l.used + sym size i - 1) / cap i) in
    let flushed : l.unsynced ≡ [] = ap (λ (x : LogState). x.unsynced) c.self.view_is ∙ c.requires.flushed in
    let there : IfSome (g.S.Site.told c.args.site.now) (OnDisk (LogThere l)) = subst (λ (x : LogState). IfSome (g.S.Site.told c.args.site.now) (OnDisk (LogThere x))) (sym c.self.view_is) c.requires.there in
    let rids = subst (λ (x : LogState). FollowRids x.rid c.args.batch.now) (sym c.self.view_is) c.requires.rids in
    let used : new.used + capacity_in l.opening * length taken ≡ l.used + length (batch_bytes l taken c.args.batch.now) =
    (λ i. c.used_behind-self-inside.result + sym cap i * count i) ∙ c.used_behind-self-inside.ensures.exact ∙ ap (λ n. l.used + n) (sym size) in
    let again : IsSound new = invariant_of-self-2 g c refl in
    let planned : c.as_slice-fresh.result.now ≡ (plan_of c.args.batch.now l.used (capacity_in l.opening) l.rid).fresh =
    c.as_slice-fresh.ensures.same ∙ ap (λ (p : Plan). p.fresh) (c.in_ok-plan.ensures.exact ∙ ap (λ n. plan_of c.args.batch.now l.used n l.rid) cap) in
    subst (λ (x : LogState). Tells (StaysUndamaged x new) (g.S.Site.told c.args.site.now) (g.S.Site.told c.write_batch.new.site)) c.self.view_is
    (told_stays l sound flushed c.args.pool.now c.take_files.new.pool taken c.as_slice-fresh.result.now c.in_ok-taken.ensures.headers c.in_ok-taken.ensures.legal c.args.batch.now
    (filled_legal l.rid c.args.batch.now rids c.in_ok-spots.ensures.legal) some number new refl files refl used (ap (λ n. l.newest + n) (sym count)) again planned c.requires.some rids
    (c.last_rid-self-inside.ensures.exact ∙ rid_of_some 0 l.rid c.args.batch.now c.requires.some) _ _ _ c.in_ok-taken.ensures.told writes there c.requires.pool)

pub returns-in_err-plan-clause-stays : goal.returns-in_err-plan-clause-stays
returns-in_err-plan-clause-stays g c = told_none_leaves_same _

pub returns-in_err-plan-clause-writes : goal.returns-in_err-plan-clause-writes
returns-in_err-plan-clause-writes g c =
    let new : LogState = record { opening = c.self.inside.opening; files = c.self.inside.files.items; older = c.self.inside.older; newest = c.self.inside.newest; used = c.self.inside.used; rid = c.self.inside.rid; unsynced = c.self.inside.unsynced; ended = true } in
    told_failed_written c.from_residual.result c.args.self.now new _ _ (search (rules, c.from_residual.ensures)) (told_well_same _)

pub returns-in_err-spots-clause-stays : goal.returns-in_err-spots-clause-stays
returns-in_err-spots-clause-stays g c = told_none_leaves_same _

pub returns-in_err-spots-clause-writes : goal.returns-in_err-spots-clause-writes
returns-in_err-spots-clause-writes g c =
    let new : LogState = record { opening = c.self.inside.opening; files = c.self.inside.files.items; older = c.self.inside.older; newest = c.self.inside.newest; used = c.self.inside.used; rid = c.self.inside.rid; unsynced = c.self.inside.unsynced; ended = true } in
    told_failed_written c.from_residual-in_err-spots.result c.args.self.now new _ _ (search (rules, c.from_residual-in_err-spots.ensures)) (told_well_same _)

pub returns-in_err-taken-clause-stays : goal.returns-in_err-taken-clause-stays
returns-in_err-taken-clause-stays g c = told_took_stays c.self.inside.opening _ _ (told_took _ c.self.inside.opening c.take_files.result _ _ c.take_files.ensures.kept)

pub returns-in_err-taken-clause-writes : goal.returns-in_err-taken-clause-writes
returns-in_err-taken-clause-writes g c =
    let new : LogState = record { opening = c.self.inside.opening; files = c.self.inside.files.items; older = c.self.inside.older; newest = c.self.inside.newest; used = c.self.inside.used; rid = c.self.inside.rid; unsynced = c.self.inside.unsynced; ended = true } in
    told_failed_written c.from_residual-in_err-taken.result c.args.self.now new _ _ (search (rules, c.from_residual-in_err-taken.ensures))
    (told_took_well c.self.inside.opening _ _ (told_took _ c.self.inside.opening c.take_files.result _ _ c.take_files.ensures.kept))

pub returns-in_err-append-clause-stays : goal.returns-in_err-append-clause-stays
returns-in_err-append-clause-stays g c = told_took_stays c.self.inside.opening _ _ (told_of (IsTakeStep c.self.inside.opening) _ _ c.in_ok-taken.ensures.kept)

pub returns-in_err-append-clause-writes : goal.returns-in_err-append-clause-writes
returns-in_err-append-clause-writes g c =
    let new : LogState = record { opening = c.self.inside.opening; files = c.append.new.self.items; older = c.self.inside.older; newest = c.self.inside.newest; used = c.self.inside.used; rid = c.self.inside.rid; unsynced = c.self.inside.unsynced; ended = true } in
    told_failed_written c.from_residual-in_err-append.result c.args.self.now new _ _ (search (rules, c.from_residual-in_err-append.ensures))
    (told_took_well c.self.inside.opening _ _ (told_of (IsTakeStep c.self.inside.opening) _ _ c.in_ok-taken.ensures.kept))

pub returns-in_err-written-clause-stays : goal.returns-in_err-written-clause-stays
returns-in_err-written-clause-stays g c =
    told_append_stays (Seq ℕ) c.self.inside.opening c.args.self.now c.capacity-capacity.result (ids (from_written c.capacity-capacity.result c.self.inside.used c.files_from-over.result.now))
    (if c.self.inside.used == c.capacity-capacity.result then 0 else c.self.inside.used) (spelled_over c.capacity-capacity.result (serials c.files_from-over.result.now) c.self.inside.used (with_fillers c.args.batch.now)) (Err c.in_err-written.field-0.0) _ (g.S.Site.told c.take_files.new.site) _
    c.requires.there c.in_ok-taken.ensures.kept c.in_err-written.ensures.parts

pub returns-clause-stays : goal.returns-clause-stays
returns-clause-stays g c =
    told_append_stays (Seq ℕ) c.self.inside.opening c.args.self.now c.capacity-capacity.result (ids (from_written c.capacity-capacity.result c.self.inside.used c.files_from-over.result.now))
    (if c.self.inside.used == c.capacity-capacity.result then 0 else c.self.inside.used) (spelled_over c.capacity-capacity.result (serials c.files_from-over.result.now) c.self.inside.used (with_fillers c.args.batch.now)) (Ok c.in_ok-written.written) _ (g.S.Site.told c.take_files.new.site) _
    c.requires.there c.in_ok-taken.ensures.kept c.in_ok-written.ensures.parts

pub returns-in_err-written-clause-writes : goal.returns-in_err-written-clause-writes
returns-in_err-written-clause-writes g c =
    let l : LogState = record { opening = c.self.inside.opening; files = c.self.inside.files.items; older = c.self.inside.older; newest = c.self.inside.newest; used = c.self.inside.used; rid = c.self.inside.rid; unsynced = c.self.inside.unsynced; ended = c.self.inside.ended } in
    let sound : IsSound l = c.self.invariant (ap (λ (x : LogState). x.ended) c.self.view_is ∙ c.requires.unended) in
    let cap : c.capacity-capacity.result ≡ capacity_in l.opening = c.capacity-capacity.ensures.exact in
    let taken : List HeadedFile = c.in_ok-taken.taken.items in
    let count : length taken ≡ length c.as_slice-fresh.result.now = headed_count l.opening l.newest c.as_slice-fresh.result.now taken c.in_ok-taken.ensures.headers in
    let over : c.files_from-over.result.now ≡ from_newest l taken = search rules in
    let size : length (batch_bytes l taken c.args.batch.now) ≡ c.in_ok-plan.plan.length = batch_size l taken c.args.batch.now c.in_ok-plan.plan.length c.in_ok-plan.ensures.own.bytes in
    let some : 0 < length (batch_bytes l taken c.args.batch.now) = subst (λ n. 0 < n) (sym size) (block_facts c.args.batch.now c.in_ok-plan.plan.length c.requires.some c.in_ok-plan.ensures.own.bytes).0 in
    let flushed : l.unsynced ≡ [] = ap (λ (x : LogState). x.unsynced) c.self.view_is ∙ c.requires.flushed in
    let there : IfSome (g.S.Site.told c.args.site.now) (OnDisk (LogThere l)) = subst (λ (x : LogState). IfSome (g.S.Site.told c.args.site.now) (OnDisk (LogThere x))) (sym c.self.view_is) c.requires.there in
    let new : LogState = record { opening = c.self.inside.opening; files = c.append.new.self.items; older = c.self.inside.older; newest = c.self.inside.newest; used = c.self.inside.used; rid = c.self.inside.rid; unsynced = c.self.inside.unsynced; ended = true } in
    let number : length taken ≡ (l.used + length (batch_bytes l taken c.args.batch.now) - 1) / capacity_in l.opening =
    count ∙ ap length c.as_slice-fresh.ensures.same ∙ c.in_ok-plan.ensures.own.files ∙ (λ i. (l.used + sym size i - 1) / cap i) in
    let ends = last_place (capacity_in l.opening) l.used (length (batch_bytes l taken c.args.batch.now)) (length taken) (sound_capacity l.opening sound.opening).0 some number in
    let parts = told_batch_parts (Seq ℕ) c.args.batch.now l taken c.files_from-over.result.now c.capacity-capacity.result (Err c.in_err-written.field-0.0) (g.S.Site.told c.take_files.new.site) (g.S.Site.told c.write_batch.new.site) cap over c.in_err-written.ensures.parts in
    let is : Err c.in_err-written.field-0.0 ≡ c.from_residual-in_err-written.result = search (rules, c.from_residual-in_err-written.ensures) in
    subst (λ (x : LogState). Tells (StaysWritten c.from_residual-in_err-written.result x new) (g.S.Site.told c.args.site.now) (g.S.Site.told c.write_batch.new.site)) c.self.view_is
    (told_append_err l sound flushed c.args.pool.now c.take_files.new.pool taken c.as_slice-fresh.result.now c.in_ok-taken.ensures.headers c.in_ok-taken.ensures.legal (batch_bytes l taken c.args.batch.now) ends.0 ends.1 ends.2 some
    _ (Seq ℕ) c.in_err-written.field-0.0 c.in_err-written.field-0.0 c.from_residual-in_err-written.result new _ (g.S.Site.told c.take_files.new.site) _ is c.in_ok-taken.ensures.told c.in_ok-taken.ensures.kept parts there c.requires.pool)

pub returns-clause-writes : goal.returns-clause-writes
returns-clause-writes g c =
    let l : LogState = record { opening = c.self.inside.opening; files = c.self.inside.files.items; older = c.self.inside.older; newest = c.self.inside.newest; used = c.self.inside.used; rid = c.self.inside.rid; unsynced = c.self.inside.unsynced; ended = c.self.inside.ended } in
    let sound : IsSound l = c.self.invariant (ap (λ (x : LogState). x.ended) c.self.view_is ∙ c.requires.unended) in
    let cap : c.capacity-capacity.result ≡ capacity_in l.opening = c.capacity-capacity.ensures.exact in
    let taken : List HeadedFile = c.in_ok-taken.taken.items in
    let count : length taken ≡ length c.as_slice-fresh.result.now = headed_count l.opening l.newest c.as_slice-fresh.result.now taken c.in_ok-taken.ensures.headers in
    let over : c.files_from-over.result.now ≡ from_newest l taken = search rules in
    let size : length (batch_bytes l taken c.args.batch.now) ≡ c.in_ok-plan.plan.length = batch_size l taken c.args.batch.now c.in_ok-plan.plan.length c.in_ok-plan.ensures.own.bytes in
    let some : 0 < length (batch_bytes l taken c.args.batch.now) = subst (λ n. 0 < n) (sym size) (block_facts c.args.batch.now c.in_ok-plan.plan.length c.requires.some c.in_ok-plan.ensures.own.bytes).0 in
    let flushed : l.unsynced ≡ [] = ap (λ (x : LogState). x.unsynced) c.self.view_is ∙ c.requires.flushed in
    let there : IfSome (g.S.Site.told c.args.site.now) (OnDisk (LogThere l)) = subst (λ (x : LogState). IfSome (g.S.Site.told c.args.site.now) (OnDisk (LogThere x))) (sym c.self.view_is) c.requires.there in
    let new : LogState = record { opening = c.self.inside.opening; files = c.append.new.self.items; older = c.self.inside.older; newest = c.self.inside.newest + length c.as_slice-fresh.result.now; used = c.used_behind-self-inside.result; rid = c.last_rid-self-inside.result; unsynced = c.in_ok-written.written; ended = false } in
    let files : new.files ≡ l.files ++ taken = c.in_ok-append.ensures.items in
    let used : new.used + capacity_in l.opening * length taken ≡ l.used + length (batch_bytes l taken c.args.batch.now) =
    (λ i. c.used_behind-self-inside.result + sym cap i * count i) ∙ c.used_behind-self-inside.ensures.exact ∙ ap (λ n. l.used + n) (sym size) in
    let within : new.used ≤ capacity_in l.opening = subst (λ n. c.used_behind-self-inside.result ≤ n) cap c.used_behind-self-inside.ensures.within in
    let parts = told_batch_parts (Seq ℕ) c.args.batch.now l taken c.files_from-over.result.now c.capacity-capacity.result (Ok c.in_ok-written.written) (g.S.Site.told c.take_files.new.site) (g.S.Site.told c.write_batch.new.site) cap over c.in_ok-written.ensures.parts in
    subst (λ (x : LogState). Tells (StaysWritten (Ok c.in_ok-spots.spots) x new) (g.S.Site.told c.args.site.now) (g.S.Site.told c.write_batch.new.site)) c.self.view_is
    (told_append_ok l sound flushed c.args.pool.now c.take_files.new.pool taken c.as_slice-fresh.result.now c.in_ok-taken.ensures.headers c.in_ok-taken.ensures.legal (batch_bytes l taken c.args.batch.now) new.used within used some
    _ (Seq ℕ) c.in_ok-spots.spots c.in_ok-written.written new refl files refl _ (g.S.Site.told c.take_files.new.site) _ c.in_ok-taken.ensures.told c.in_ok-taken.ensures.kept parts there c.requires.pool)
