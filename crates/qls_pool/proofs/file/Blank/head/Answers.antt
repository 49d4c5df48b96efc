use Rattle.std.proofs.Common.{Result, Ok, IfSome, sym, subst}
use Rattle.qls_site.specs.declared.site.SiteError.{SiteError}
use Rattle.qls_site.specs.Content.{Tells}
use Rattle.qls_pool.specs.Files.{BlankFile, BlankThere, HeadedThere, OnDisk, IdsDiffer, IsPoolOf}
use Rattle.qls_pool.specs.Taking.{Heads}
use Rattle.qls_pool.specs.Discipline.{IsLeastOnDisk}
use Rattle.qls_pool.proofs.Steps.{heads_ids}
use Rattle.qls_pool.proofs.Calls.{handed_on, heads_err, head_orderly, told_then, carries_of, carries_with, headed_there, heads_pool, heads_least}
use Rattle.qls_pool.proofs.file.Blank.head.Given as Given
use Rattle.qls_pool.proofs.file.Blank.head.Goals as goal

pub returns-in_err-write_header-clause-told : goal.returns-in_err-write_header-clause-told
returns-in_err-write_header-clause-told g c =
    subst (λ (b : BlankFile). Tells (Heads b.id c.args.header c.from_residual.result) (g.S.Site.told c.args.site.now) (g.S.Site.told c.write_header.new.site)) c.self.view_is
    (heads_err (Unit {0}) c.self.inside.id c.args.header c.in_err-write_header.field-0.0 c.from_residual.result
    (handed_on c.from_residual.result c.in_err-write_header.field-0.0 c.from_residual.ensures) _ _ c.in_err-write_header.ensures.told)

pub returns-in_err-write_header-clause-orderly : goal.returns-in_err-write_header-clause-orderly
returns-in_err-write_header-clause-orderly g c = head_orderly c.args.self c.args.header c.from_residual.result _ _ c.requires.legal (returns-in_err-write_header-clause-told g c)

-- the content, for the file that the value names
told : (g : Given.Over) (c : goal.In_ok-write_header g) → Tells (Heads {X = Unit {0}} c.args.self.id c.args.header (Ok (tt {0}))) (g.S.Site.told c.args.site.now) (g.S.Site.told c.write_header.new.site)
told g c = subst (λ (b : BlankFile). Tells (Heads {X = Unit {0}} b.id c.args.header (Ok (tt {0}))) (g.S.Site.told c.args.site.now) (g.S.Site.told c.write_header.new.site)) c.self.view_is c.in_ok-write_header.ensures.told

pub returns-clause-told : goal.returns-clause-told
returns-clause-told g c = told g c

pub returns-clause-there : goal.returns-clause-there
returns-clause-there g c =
    subst (λ (b : BlankFile). IfSome (g.S.Site.told c.write_header.new.site) (OnDisk (HeadedThere (record { id = b.id; header = c.args.header })))) (sym c.self.view_is)
    (told_then (Heads {X = Unit {0}} c.args.self.id c.args.header (Ok (tt {0}))) (BlankThere c.args.self) (HeadedThere (record { id = c.args.self.id; header = c.args.header })) _ _ (told g c) c.requires.there
    (headed_there c.args.self c.args.header (tt {0}) c.requires.legal c.requires.own))

pub returns-clause-pool : goal.returns-clause-pool
returns-clause-pool g c = λ pool out.
    carries_with (Heads {X = Unit {0}} c.args.self.id c.args.header (Ok (tt {0}))) (BlankThere c.args.self) (IsPoolOf pool out) (IsPoolOf pool out) _ _ (told g c) c.requires.there
    (heads_pool c.args.self c.args.header (tt {0}) c.requires.legal pool out)

pub returns-clause-least : goal.returns-clause-least
returns-clause-least g c =
    carries_of (Heads {X = Unit {0}} c.args.self.id c.args.header (Ok (tt {0}))) (IsLeastOnDisk c.args.header.part c.args.header.kib c.args.self.id) (IsLeastOnDisk c.args.header.part c.args.header.kib c.args.self.id) _ _ (told g c)
    (heads_least c.args.self.id c.args.header (tt {0}) c.args.header.part c.args.header.kib c.args.self.id)

pub returns-clause-orderly : goal.returns-clause-orderly
returns-clause-orderly g c =
    let r : Result (Unit {0}) SiteError = Ok (tt {0}) in
    head_orderly c.args.self c.args.header r _ _ c.requires.legal (told g c)

pub returns-clause-ids : goal.returns-clause-ids
returns-clause-ids g c =
    carries_of (Heads {X = Unit {0}} c.args.self.id c.args.header (Ok (tt {0}))) IdsDiffer IdsDiffer _ _ (told g c) (heads_ids c.args.self.id c.args.header (tt {0}))
