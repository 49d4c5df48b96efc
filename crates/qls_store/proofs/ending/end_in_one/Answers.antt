use Rattle.std.proofs.Common.{◌∷◌, [], false, IfOk, subst}
use Rattle.qls_site.specs.Content.{Tells}
use Rattle.qls_filehdr.specs.declared.JournalKind.TheVariants as journal
use Rattle.qls_queue.specs.Live.{LiveState}
use Rattle.qls_queue.specs.Records.{end_records}
use Rattle.qls_journals.specs.State.{JournalsState}
use Rattle.qls_journals.specs.Ends.{StopsAtEnd, HadRoom}
use Rattle.qls_store.specs.Ends.{end_need}
use Rattle.qls_store.specs.Calls.{HadFirst, StopsInOne}
use Rattle.qls_store.proofs.Batches.{ends_size, ok_had_one, told_stops_one}
use Rattle.qls_store.proofs.Entries.{ok_map}
use Rattle.qls_store.proofs.Named.{not_missing, at_place}
use Rattle.qls_store.proofs.Deciding.{firsts_at}
use Rattle.qls_store.proofs.ending.end_in_one.Goals as goal

pub finish-requires-clause-order : goal.finish-requires-clause-order
finish-requires-clause-order g c = firsts_at c.args.name.now c.args.journals c.in-Ok.at c.args.ends.now c.place_of.ensures.journals.rising c.in-Ok.ensures.place c.requires.order

pub returns-in-Ok-clause-had : goal.returns-in-Ok-clause-had
returns-in-Ok-clause-had g c =
    let w = c.in-Ok.ensures.place in
    let rs = end_records w.queue.queue.last c.args.ends.now in
    subst (λ n. IfOk c.finish.result (λ (x : JournalsState). Tells (HadFirst c.args.journals false (end_need n ∷ [])) (g.S.Site.told c.args.site.now) (g.S.Site.told c.finish.new.site))) w.named
    (ok_had_one c.args.journals journal.Queue w.queue.queue.name rs (ends_size w.queue.queue.last c.args.ends.now c.requires.one c.requires.xids) c.finish.result _ _
    (ok_map (λ (x : JournalsState). _) (λ (x : JournalsState). Tells (HadRoom c.args.journals journal.Queue w.queue.queue.name rs) (g.S.Site.told c.args.site.now) (g.S.Site.told c.finish.new.site))
    (λ x k. at_place c.args.name.now c.args.journals.queues c.in-Ok.at (λ (q : LiveState). Tells (HadRoom c.args.journals journal.Queue q.queue.name (end_records q.queue.last c.args.ends.now)) (g.S.Site.told c.args.site.now) (g.S.Site.told c.finish.new.site)) w k) c.finish.result c.finish.ensures.had))

pub returns-in-Ok-clause-spent : goal.returns-in-Ok-clause-spent
returns-in-Ok-clause-spent g c = λ e.
    let w = c.in-Ok.ensures.place in
    let rs = end_records w.queue.queue.last c.args.ends.now in
    subst (λ n. Tells (StopsInOne c.args.journals false (end_need n ∷ [])) (g.S.Site.told c.args.site.now) (g.S.Site.told c.finish.new.site)) w.named
    (told_stops_one c.args.journals journal.Queue w.queue.queue.name rs (ends_size w.queue.queue.last c.args.ends.now c.requires.one c.requires.xids) false _ _
    (at_place c.args.name.now c.args.journals.queues c.in-Ok.at (λ (q : LiveState). Tells (StopsAtEnd c.args.journals journal.Queue q.queue.name (end_records q.queue.last c.args.ends.now)) (g.S.Site.told c.args.site.now) (g.S.Site.told c.finish.new.site)) w (c.finish.ensures.spent e)))

pub returns-in-Err-clause-queues : goal.returns-in-Err-clause-queues
returns-in-Err-clause-queues g c = absurd (not_missing c.args.name.now c.args.journals c.in-Err.field-0 c.requires.there c.in-Err.ensures.place)

pub returns-in-Err-clause-called : goal.returns-in-Err-clause-called
returns-in-Err-clause-called g c = absurd (not_missing c.args.name.now c.args.journals c.in-Err.field-0 c.requires.there c.in-Err.ensures.place)

pub returns-in-Err-clause-had : goal.returns-in-Err-clause-had
returns-in-Err-clause-had g c = absurd (not_missing c.args.name.now c.args.journals c.in-Err.field-0 c.requires.there c.in-Err.ensures.place)
