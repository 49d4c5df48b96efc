use Rattle.std.proofs.Common.{◌≡◌, Ok, Err, IfOk}
use Rattle.qls_store.proofs.Together.{calls_then, told_passes}
use Rattle.qls_store.proofs.SettledCalls.{calls_released, no_spent, ok_clean, ok_still}
use Rattle.qls_store.proofs.settling.settle_and_release.Goals as goal

pub returns-clause-called : goal.returns-clause-called
returns-clause-called g c =
    let e = c.release.ensures in
    let mid = c.in_ok-settled.settled in
    calls_then c.args.journals mid c.release.result _ _ _ _ _ _ _ _ _ _ _ _ c.in_ok-settled.ensures.called
    (calls_released c.release.result mid _ _ _ _ _ _ e.told e.none e.leaves e.writes e.homes e.released e.pools e.causes)

pub returns-clause-clean : goal.returns-clause-clean
returns-clause-clean g c = ok_clean c.args.journals c.in_ok-settled.settled c.release.result _ _ _ c.in_ok-settled.ensures.called.told (told_passes c.in_ok-settled.settled c.release.result _ _ c.release.ensures.told) c.release.ensures.clean

pub returns-clause-still : goal.returns-clause-still
returns-clause-still g c = ok_still g.S.Site.told c.args.journals c.in_ok-settled.settled c.release.result c.args.site.now c.settle.new.site _ c.in_ok-settled.ensures.still c.release.ensures.still

pub returns-clause-spent : goal.returns-clause-spent
returns-clause-spent g c = λ e. absurd (no_spent _ _ c.release.result c.release.ensures.causes e)
