use Rattle.std.proofs.Common.{rules, ◌≡◌, ◌<◌, List, length, false, Ok, Err, refl, sym, ap, subst, ◌∙◌}
use Rattle.std.specs.List.{AllByRecursion}
use Rattle.qls_record.specs.Record.{Record}
use Rattle.qls_site.specs.Content.{Tells}
use Rattle.qls_decide.specs.Entries.{entry_of}
use Rattle.qls_pool.specs.Moments.{Arrives}
use Rattle.qls_log.specs.Appending.{FollowRids}
use Rattle.qls_log.specs.Steps.{IsLogStep}
use Rattle.qls_log.specs.declared.spot.Spot.{Spot}
use Rattle.qls_log.specs.declared.fault.LogError.TheVariants.{Spent}
use Rattle.qls_prepared.specs.Lists.{PreparedState, IsSound, MayEnd, StaysWhole, opening_by, rid_of}
use Rattle.qls_prepared.specs.Records.{end_records, without_entries}
use Rattle.qls_prepared.specs.Ends.{Stops, StopsBy}
use Rattle.qls_prepared.specs.Moments.{WritesOn}
use Rattle.qls_prepared.specs.Ending.{ended_held}
use Rattle.qls_prepared.specs.Writing.{base_of, IsOwnBehind, SaysBy}
use Rattle.qls_blocks.specs.Batching.{last_rid}
use Rattle.qls_prepared.proofs.Based.{same_fault}
use Rattle.qls_prepared.proofs.Entered.{told_ends, list_is}
use Rattle.qls_prepared.proofs.Fitting.{told_fit}
use Rattle.qls_prepared.proofs.Follows.{ends_follow, ends_last, ends_some}
use Rattle.qls_prepared.proofs.Present.{end_xids, ends_first}
use Rattle.qls_prepared.proofs.Said.{ended_are}
use Rattle.qls_prepared.proofs.Sounds.{rid_behind, sound_ended}
use Rattle.qls_prepared.proofs.list.PreparedList.write_ends.Goals as goal

pub end_batch-requires-clause-xids : goal.end_batch-requires-clause-xids
end_batch-requires-clause-xids g c =
    let q : PreparedState = record { home = c.self.inside.home; log = c.self.inside.log; entries = c.self.inside.entries.entries; held = c.self.inside.entries.held; ended = c.self.inside.ended } in
    let s : IsSound q = c.self.invariant (ap (λ (p : PreparedState). p.ended) c.self.view_is ∙ c.requires.unended) in
    end_xids q.entries c.args.xids.now s.xids (subst (λ (p : PreparedState). AllByRecursion (λ x. MayEnd (entry_of x p.entries)) c.args.xids.now) (sym c.self.view_is) c.requires.decided)

pub write-requires-clause-some : goal.write-requires-clause-some
write-requires-clause-some g c = subst (λ (rs : List Record). 0 < length rs) (sym c.in_ok-batch.ensures.exact) (ends_some c.rid-rid.result c.args.xids.now c.requires.some)

pub write-requires-clause-rids : goal.write-requires-clause-rids
write-requires-clause-rids g c =
    let q : PreparedState = record { home = c.self.inside.home; log = c.self.inside.log; entries = c.self.inside.entries.entries; held = c.self.inside.entries.held; ended = c.self.inside.ended } in
    let s : IsSound q = c.self.invariant (ap (λ (p : PreparedState). p.ended) c.self.view_is ∙ c.requires.unended) in
    let rid : c.rid-rid.result ≡ rid_of q = c.rid-rid.ensures.exact ∙ ap rid_of (sym c.self.view_is) in
    let batch : c.in_ok-batch.batch ≡ end_records (rid_of q) c.args.xids.now = c.in_ok-batch.ensures.exact ∙ ap (λ n. end_records n c.args.xids.now) rid in
    subst (FollowRids (rid_of q)) (sym batch) (ends_follow (rid_of q) c.args.xids.now s.rid)

pub write-requires-clause-first : goal.write-requires-clause-first
write-requires-clause-first g c =
    let q : PreparedState = record { home = c.self.inside.home; log = c.self.inside.log; entries = c.self.inside.entries.entries; held = c.self.inside.entries.held; ended = c.self.inside.ended } in
    let s : IsSound q = c.self.invariant (ap (λ (p : PreparedState). p.ended) c.self.view_is ∙ c.requires.unended) in
    ends_first q.log c.in_ok-batch.batch q.entries c.args.xids.now s.begun c.requires.some (subst (λ (p : PreparedState). AllByRecursion (λ x. MayEnd (entry_of x p.entries)) c.args.xids.now) (sym c.self.view_is) c.requires.decided)

pub returns-in_err-_spot-clause-spent : goal.returns-in_err-_spot-clause-spent
returns-in_err-_spot-clause-spent g c = λ e.
    let q : PreparedState = record { home = c.self.inside.home; log = c.self.inside.log; entries = c.self.inside.entries.entries; held = c.self.inside.entries.held; ended = c.self.inside.ended } in
    let rid : c.rid-rid.result ≡ rid_of q = c.rid-rid.ensures.exact ∙ ap rid_of (sym c.self.view_is) in
    let batch : c.in_ok-batch.batch ≡ end_records (rid_of q) c.args.xids.now = c.in_ok-batch.ensures.exact ∙ ap (λ n. end_records n c.args.xids.now) rid in
    let is : Err c.in_err-_spot.field-0.0 ≡ c.from_residual-in_err-_spot.result = search (rules, c.from_residual-in_err-_spot.ensures) in
    let stops : Tells (StopsBy q.home c.in_ok-batch.batch q.log) (g.S.Site.told c.args.site.now) (g.S.Site.told c.write.new.site) = c.in_err-_spot.ensures.spent (same_fault Spot c.in_err-_spot.field-0.0 Spent c.from_residual-in_err-_spot.result is e) in
    subst (λ (p : PreparedState). Tells (Stops p (end_records (rid_of p) c.args.xids.now)) (g.S.Site.told c.args.site.now) (g.S.Site.told c.write.new.site)) c.self.view_is
    (subst (λ (rs : List Record). Tells (StopsBy q.home rs q.log) (g.S.Site.told c.args.site.now) (g.S.Site.told c.write.new.site)) batch stops)

pub invariant_of-self-2 : goal.invariant_of-self-2
invariant_of-self-2 g c = λ _.
    let q : PreparedState = record { home = c.self.inside.home; log = c.self.inside.log; entries = c.self.inside.entries.entries; held = c.self.inside.entries.held; ended = c.self.inside.ended } in
    let s : IsSound q = c.self.invariant (ap (λ (p : PreparedState). p.ended) c.self.view_is ∙ c.requires.unended) in
    let rid : c.rid-rid.result ≡ rid_of q = c.rid-rid.ensures.exact ∙ ap rid_of (sym c.self.view_is) in
    let batch : c.in_ok-batch.batch ≡ end_records (rid_of q) c.args.xids.now = c.in_ok-batch.ensures.exact ∙ ap (λ n. end_records n c.args.xids.now) rid in
    let own : IsOwnBehind (rid_of q) (end_records (rid_of q) c.args.xids.now) c.write.new.log = subst (λ (rs : List Record). IsOwnBehind (rid_of q) rs c.write.new.log) batch c.in_ok-_spot.ensures.own in
    list_is q.home c.write.new.log c.end_each.new.entries.entries (without_entries c.args.xids.now q.entries) c.end_each.new.entries.held (ended_held c.args.xids.now q.entries q.held)
    (c.end_each.ensures.entries ∙ ended_are c.args.xids.now q.entries) c.end_each.ensures.held
    (sound_ended q s (end_records (rid_of q) c.args.xids.now) c.write.new.log own c.args.xids.now (ends_last (rid_of q) c.args.xids.now))

pub returns-clause-sound : goal.returns-clause-sound
returns-clause-sound g c = invariant_of-self-2 g c refl

pub returns-clause-entries : goal.returns-clause-entries
returns-clause-entries g c =
    c.end_each.ensures.entries ∙ ended_are c.args.xids.now c.self.inside.entries.entries ∙ ap (λ (p : PreparedState). without_entries c.args.xids.now p.entries) c.self.view_is

pub returns-clause-rid : goal.returns-clause-rid
returns-clause-rid g c =
    let q : PreparedState = record { home = c.self.inside.home; log = c.self.inside.log; entries = c.self.inside.entries.entries; held = c.self.inside.entries.held; ended = c.self.inside.ended } in
    let rid : c.rid-rid.result ≡ rid_of q = c.rid-rid.ensures.exact ∙ ap rid_of (sym c.self.view_is) in
    let batch : c.in_ok-batch.batch ≡ end_records (rid_of q) c.args.xids.now = c.in_ok-batch.ensures.exact ∙ ap (λ n. end_records n c.args.xids.now) rid in
    rid_behind (rid_of q) c.in_ok-batch.batch c.write.new.log c.in_ok-_spot.ensures.own ∙ ap (last_rid (rid_of q)) batch ∙ ends_last (rid_of q) c.args.xids.now ∙ ap rid_of c.self.view_is

pub returns-clause-fit : goal.returns-clause-fit
returns-clause-fit g c = told_fit c.args.pool.now c.write.new.pool (Arrives (IsLogStep (opening_by c.self.inside.home c.self.inside.log))) _ _ c.in_ok-_spot.ensures.went c.requires.pool c.in_ok-_spot.ensures.pool c.in_ok-_spot.ensures.fit

pub returns-clause-whole : goal.returns-clause-whole
returns-clause-whole g c =
    let q : PreparedState = record { home = c.self.inside.home; log = c.self.inside.log; entries = c.self.inside.entries.entries; held = c.self.inside.entries.held; ended = c.self.inside.ended } in
    let s : IsSound q = c.self.invariant (ap (λ (p : PreparedState). p.ended) c.self.view_is ∙ c.requires.unended) in
    let new : PreparedState = record { home = c.self.inside.home; log = c.write.new.log; entries = c.end_each.new.entries.entries; held = c.end_each.new.entries.held; ended = false } in
    let rid : c.rid-rid.result ≡ rid_of q = c.rid-rid.ensures.exact ∙ ap rid_of (sym c.self.view_is) in
    let rs : List Record = end_records (rid_of q) c.args.xids.now in
    let batch : c.in_ok-batch.batch ≡ rs = c.in_ok-batch.ensures.exact ∙ ap (λ n. end_records n c.args.xids.now) rid in
    let says : Tells (SaysBy q.log rs (base_of q.home q.log) c.write.new.log) (g.S.Site.told c.args.site.now) (g.S.Site.told c.write.new.site) =
    subst (λ (qs : List Record). Tells (SaysBy q.log qs (base_of q.home q.log) c.write.new.log) (g.S.Site.told c.args.site.now) (g.S.Site.told c.write.new.site)) batch c.in_ok-_spot.ensures.whole in
    subst (λ (p : PreparedState). Tells (StaysWhole p new) (g.S.Site.told c.args.site.now) (g.S.Site.told c.write.new.site)) c.self.view_is
    (told_ends q new c.args.xids.now c.write.new.log _ _ s.rising s.apart says refl (c.end_each.ensures.entries ∙ ended_are c.args.xids.now q.entries) c.end_each.ensures.held)

pub returns-clause-writes : goal.returns-clause-writes
returns-clause-writes g c =
    subst (λ (p : PreparedState). Tells (WritesOn {X = Unit {0}} (Ok tt) p.log (λ _. c.write.new.log)) (g.S.Site.told c.args.site.now) (g.S.Site.told c.write.new.site)) c.self.view_is c.in_ok-_spot.ensures.writes
