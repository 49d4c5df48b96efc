use Rattle.std.proofs.Common.{◌≡◌, ◌∙◌, ap, sym, subst, map, IfSome, Result, Err, Ok, rules}
use Rattle.std.specs.List.{AllByRecursion}
use Rattle.qls_shape.specs.Claims.{each}
use Rattle.qls_meaning.specs.Damage.{chain_claims}
use Rattle.qls_scan.specs.declared.answers.Found.{Found}
use Rattle.qls_scan.specs.declared.answers.ScanFault.{ScanFault}
use Rattle.qls_site.specs.Disk.{full}
use Rattle.qls_site.specs.Content.{Tells, OnlyLooks}
use Rattle.qls_site.proofs.Told.{Tells-weaken, Tells-then, OnlyLooks-call, OnlyLooks-then}
use Rattle.qls_scan.specs.declared.answers.ScanFault.TheVariants.{Damaged}
use Rattle.qls_scan.specs.Found.{with_no_area, IsFound, IsFirstDamage, IsSound, IsSpelledOn}
use Rattle.qls_scan.proofs.Whole.{listing_told, heads_back, listing_damaged, heads_damaged, chain_damaged, all_found}
use Rattle.qls_scan.proofs.HeadSteps.{looked_back}
use Rattle.qls_scan.proofs.Sound.{heads_differ, all_sound, all_spelled}
use Rattle.qls_scan.proofs.scanning.scan.Goals as goal

pub returns-in_err-check_files-clause-damage : goal.returns-in_err-check_files-clause-damage
returns-in_err-check_files-clause-damage g c =
    let told = g.S.Site.told c.args.site.now in
    let files = c.as_slice-files.result.now in
    let x = c.in_err-check_files.field-0.0 in
    let answer : Result Found ScanFault = Err (Damaged x.0 x.1) in
    let is : answer ≡ c.from_residual-in_err-check_files.result = search (rules, c.from_residual-in_err-check_files.ensures) in
    subst (λ r. IfSome told (λ k. IsFirstDamage (full k.now.disk) r)) is
    (listing_damaged files x told (listing_told told c.in_ok-listed.listed files c.in_ok-listed.ensures.listed c.list.ensures.rising c.as_slice-files.ensures.same) c.in_err-check_files.ensures.rules)

pub returns-in_err-check_files-clause-told : goal.returns-in_err-check_files-clause-told
returns-in_err-check_files-clause-told g c = Tells-weaken _ OnlyLooks _ _ c.list.ensures.told (OnlyLooks-call _)

pub returns-in_err-heads-clause-damage : goal.returns-in_err-heads-clause-damage
returns-in_err-heads-clause-damage g c =
    let told = g.S.Site.told c.args.site.now in
    let files = c.as_slice-files.result.now in
    let fault = c.in_err-heads.field-0.0 in
    let looked : Tells OnlyLooks told (g.S.Site.told c.list.new.self) = Tells-weaken _ OnlyLooks _ _ c.list.ensures.told (OnlyLooks-call _) in
    let answer : Result Found ScanFault = Err (fault) in
    let is : answer ≡ c.from_residual-in_err-heads.result = search (rules, c.from_residual-in_err-heads.ensures) in
    subst (λ r. IfSome told (λ k. IsFirstDamage (full k.now.disk) r)) is
    (heads_damaged files c.in_ok-check_files.ensures.kept told fault (listing_told told c.in_ok-listed.listed files c.in_ok-listed.ensures.listed c.list.ensures.rising c.as_slice-files.ensures.same)
    (heads_back told (g.S.Site.told c.list.new.self) (Err fault) looked c.in_err-heads.ensures.read))

pub returns-in_err-heads-clause-told : goal.returns-in_err-heads-clause-told
returns-in_err-heads-clause-told g c = Tells-then OnlyLooks OnlyLooks OnlyLooks _ _ _ (Tells-weaken _ OnlyLooks _ _ c.list.ensures.told (OnlyLooks-call _)) c.read_heads.ensures.told OnlyLooks-then

pub group-requires-clause-differ : goal.group-requires-clause-differ
group-requires-clause-differ g c = heads_differ c.in_ok-heads.heads c.as_slice-files.result.now c.in_ok-heads.ensures.ids c.in_ok-check_files.ensures.rising

pub returns-in_err-journals-clause-told : goal.returns-in_err-journals-clause-told
returns-in_err-journals-clause-told g c = Tells-then OnlyLooks OnlyLooks OnlyLooks _ _ _ (Tells-weaken _ OnlyLooks _ _ c.list.ensures.told (OnlyLooks-call _)) c.read_heads.ensures.told OnlyLooks-then

pub returns-in_err-check_chains-clause-damage : goal.returns-in_err-check_chains-clause-damage
returns-in_err-check_chains-clause-damage g c =
    let told = g.S.Site.told c.args.site.now in
    let files = c.as_slice-files.result.now in
    let x = c.in_err-check_chains.field-0.0 in
    let looked : Tells OnlyLooks told (g.S.Site.told c.list.new.self) = Tells-weaken _ OnlyLooks _ _ c.list.ensures.told (OnlyLooks-call _) in
    let answer : Result Found ScanFault = Err (Damaged x.0 x.1) in
    let is : answer ≡ c.from_residual-in_err-check_chains.result = search (rules, c.from_residual-in_err-check_chains.ensures) in
    subst (λ r. IfSome told (λ k. IsFirstDamage (full k.now.disk) r)) is
    (chain_damaged files c.in_ok-check_files.ensures.kept c.in_ok-heads.heads c.in_ok-journals.journals c.in_ok-journals.ensures.grouped told x
    (listing_told told c.in_ok-listed.listed files c.in_ok-listed.ensures.listed c.list.ensures.rising c.as_slice-files.ensures.same)
    (heads_back told (g.S.Site.told c.list.new.self) (Ok c.in_ok-heads.heads) looked c.in_ok-heads.ensures.read)
    (c.in_err-check_chains.ensures.exact ∙ ap (each (λ j. chain_claims (map with_no_area j.files))) c.as_slice.ensures.same))

pub returns-in_err-check_chains-clause-told : goal.returns-in_err-check_chains-clause-told
returns-in_err-check_chains-clause-told g c = Tells-then OnlyLooks OnlyLooks OnlyLooks _ _ _ (Tells-weaken _ OnlyLooks _ _ c.list.ensures.told (OnlyLooks-call _)) c.read_heads.ensures.told OnlyLooks-then

pub returns-in_err-empties_of-clause-told : goal.returns-in_err-empties_of-clause-told
returns-in_err-empties_of-clause-told g c = Tells-then OnlyLooks OnlyLooks OnlyLooks _ _ _ (Tells-weaken _ OnlyLooks _ _ c.list.ensures.told (OnlyLooks-call _)) c.read_heads.ensures.told OnlyLooks-then

pub returns-clause-found : goal.returns-clause-found
returns-clause-found g c =
    let told = g.S.Site.told c.args.site.now in
    let files = c.as_slice-files.result.now in
    let found = c.in_ok-journals.journals in
    let empty = c.in_ok-empties_of.field-0 in
    let looked : Tells OnlyLooks told (g.S.Site.told c.list.new.self) = Tells-weaken _ OnlyLooks _ _ c.list.ensures.told (OnlyLooks-call _) in
    let kept : each (λ j. chain_claims (map with_no_area j.files)) found ≡ Ok tt = ap (each (λ j. chain_claims (map with_no_area j.files))) (sym c.as_slice.ensures.same) ∙ sym c.in_ok-check_chains.ensures.exact in
    subst (λ n. IfSome told (λ k. IsFound (full k.now.disk) (record { greatest = n; empties = empty; journals = found }))) (sym c.greatest_id.ensures.exact)
    (all_found files c.in_ok-check_files.ensures.kept c.in_ok-heads.heads found c.in_ok-journals.ensures.grouped told empty
    (listing_told told c.in_ok-listed.listed files c.in_ok-listed.ensures.listed c.list.ensures.rising c.as_slice-files.ensures.same)
    (heads_back told (g.S.Site.told c.list.new.self) (Ok c.in_ok-heads.heads) looked c.in_ok-heads.ensures.read)
    kept
    c.in_ok-empties_of.ensures.exact)

pub returns-clause-sound : goal.returns-clause-sound
returns-clause-sound g c =
    let files = c.as_slice-files.result.now in
    let found = c.in_ok-journals.journals in
    let empty = c.in_ok-empties_of.field-0 in
    let kept : each (λ j. chain_claims (map with_no_area j.files)) found ≡ Ok tt = ap (each (λ j. chain_claims (map with_no_area j.files))) (sym c.as_slice.ensures.same) ∙ sym c.in_ok-check_chains.ensures.exact in
    subst (λ n. IsSound (record { greatest = n; empties = empty; journals = found })) (sym c.greatest_id.ensures.exact)
    (all_sound files empty c.in_ok-heads.heads found c.in_ok-check_files.ensures.kept c.in_ok-heads.ensures.legal c.in_ok-journals.ensures.grouped
    kept
    c.in_ok-empties_of.ensures.exact)

pub returns-clause-spelled : goal.returns-clause-spelled
returns-clause-spelled g c =
    let told = g.S.Site.told c.args.site.now in
    let looked : Tells OnlyLooks told (g.S.Site.told c.list.new.self) = Tells-weaken _ OnlyLooks _ _ c.list.ensures.told (OnlyLooks-call _) in
    all_spelled told c.in_ok-heads.heads c.in_ok-journals.journals c.in_ok-journals.ensures.grouped
    (looked_back (λ d. AllByRecursion (IsSpelledOn d) c.in_ok-heads.heads) told (g.S.Site.told c.list.new.self) looked c.in_ok-heads.ensures.spelled)

pub returns-clause-told : goal.returns-clause-told
returns-clause-told g c = Tells-then OnlyLooks OnlyLooks OnlyLooks _ _ _ (Tells-weaken _ OnlyLooks _ _ c.list.ensures.told (OnlyLooks-call _)) c.read_heads.ensures.told OnlyLooks-then
