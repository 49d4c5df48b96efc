use Rattle.qls_journals.specs.Opening.{ReadingState}
use Rattle.qls_journals.proofs.OpenedOne.{opens_this}
use Rattle.qls_journals.proofs.opening.open_one.Goals as goal

pub returns-in-Ok-clause-told : goal.returns-in-Ok-clause-told
returns-in-Ok-clause-told g c =
    let r : ReadingState = record { log = c.reading.inside.log; records = c.reading.inside.records } in
    let is = c.in-Ok.ensures in
    opens_this c.args.home r c.args.reading c.kind-kind.result c.in-Ok.log c.trim.new.pool (g.S.Site.told c.args.site.now) (g.S.Site.told c.trim.new.site) c.reading.view_is c.kind-kind.ensures.exact c.requires.stands
    (record { told = is.told; went = is.went; none = is.none; leaves = is.leaves; writes = is.writes })
    (record { is = is.log; there = is.there; read = is.read; undamaged = is.undamaged; pool = is.pool })
    c.in_ok-add_journal-in-Ok.ensures.well
