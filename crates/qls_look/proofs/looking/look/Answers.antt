use Rattle.qls_site.specs.Content.{OnlyLooks}
use Rattle.qls_site.proofs.Told.{Tells-then, OnlyLooks-then}
use Rattle.qls_look.proofs.There.{found_there, still_there, seen_means}
use Rattle.qls_look.proofs.looking.look.Goals as goal

pub see_all-requires-clause-there : goal.see_all-requires-clause-there
see_all-requires-clause-there g c =
    let told = g.S.Site.told c.args.site.now in
    still_there c.in_ok-found.found.journals told (g.S.Site.told c.scan.new.site) c.in_ok-found.ensures.told (found_there told c.in_ok-found.found c.in_ok-found.ensures.rising c.in_ok-found.ensures.found)

pub returns-clause-meaning : goal.returns-clause-meaning
returns-clause-meaning g c =
    seen_means (g.S.Site.told c.args.site.now) (g.S.Site.told c.scan.new.site) c.in_ok-found.found c.see_all.result c.in_ok-found.ensures.told c.in_ok-found.ensures.found c.see_all.ensures.says

pub returns-clause-told : goal.returns-clause-told
returns-clause-told g c = Tells-then OnlyLooks OnlyLooks OnlyLooks _ _ _ c.in_ok-found.ensures.told c.see_all.ensures.told OnlyLooks-then
