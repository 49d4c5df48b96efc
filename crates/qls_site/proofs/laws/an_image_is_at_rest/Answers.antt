use Rattle.qls_site.proofs.DiskLaws.{IsQuiet-at_rest, full-at_rest}
use Rattle.qls_site.proofs.laws.an_image_is_at_rest.Goals as goal

pub returns-clause-quiet : goal.returns-clause-quiet
returns-clause-quiet c = IsQuiet-at_rest

pub returns-clause-seen : goal.returns-clause-seen
returns-clause-seen c = full-at_rest
