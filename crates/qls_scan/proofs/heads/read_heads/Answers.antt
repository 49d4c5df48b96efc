use Rattle.std.proofs.Common.{◌≡◌, ◌++◌, ◌∷◌, [], ◌∙◌, ap, sym, subst, map, drop, IfSome, get_or, option_map, Option, Some, None, List, Result, Ok, Err, ◌+◌, arith, rules}
use Rattle.std.specs.List.{AllByRecursion, filter}
use Rattle.qls_site.specs.Content.{Content, OnlyLooks}
use Rattle.qls_site.specs.Disk.{file_of, listed}
use Rattle.qls_site.specs.declared.site.Place.TheVariants.{InUse}
use Rattle.qls_site.proofs.Told.{Tells-then, OnlyLooks-then}
use Rattle.qls_meaning.specs.Journals.{is_in_use}
use Rattle.qls_scan.specs.declared.answers.HeadedFile.{HeadedFile}
use Rattle.qls_scan.specs.declared.answers.ScanFault.{ScanFault}
use Rattle.qls_scan.specs.declared.answers.ScanFault.TheVariants.{Memory}
use Rattle.qls_scan.specs.Found.{IsSpelledOn}
use Rattle.qls_scan.specs.Heads.{HeadIsRead, HeadsAreRead, HasLegalHeader}
use Rattle.qls_scan.proofs.HeadSteps.{AreReadSoFar, looked_back, looked_on, next_listed, next_skipped, next_taken, next_stopped, ids_skipped, ids_taken, ids_more, legal_more, spelled_more}
use Rattle.qls_scan.proofs.heads.read_heads.Goals as goal

pub loop-file-preserved-in_default : goal.loop-file-preserved-in_default
loop-file-preserved-in_default g c =
    let told = g.S.Site.told c.args.site.now in
    let files = c.args.files.now in
    let k = c.loop-file.file-index in
    let so = c.loop-file.invariant in
    let out = ap is_in_use c.in_default.is in
    record {
      read = next_skipped files k _ c.loop-file-test.true c.loop-file.heads told out c.requires.listed so.read;
      told = so.told;
      kept = so.kept;
      syncs = so.syncs;
      legal = so.legal;
      spelled = so.spelled;
      ids = ap (λ fs. map (λ h. h.id) c.loop-file.heads ++ map (λ f. f.id) fs) (sym (ids_skipped files k _ c.loop-file-test.true out)) ∙ so.ids;
    }

pub read_head-requires : goal.read_head-requires
read_head-requires g c = let file = get_or c.args.files.now c.loop-file.file-index (record { id = 0; place = InUse; size = 0 }) in record {
  listed =
      looked_on (λ d. option_map listed (file_of file.id d) ≡ Some file) (g.S.Site.told c.args.site.now) (g.S.Site.told c.loop-file.site) c.loop-file.invariant.told
      (next_listed c.args.files.now c.loop-file.file-index _ c.loop-file-test.true (g.S.Site.told c.args.site.now) c.requires.listed);
}

pub returns-in_err-head-clause-read : goal.returns-in_err-head-clause-read
returns-in_err-head-clause-read g c =
    let told = g.S.Site.told c.args.site.now in
    let so = c.loop-file.invariant in
    let file = get_or c.args.files.now c.loop-file.file-index (record { id = 0; place = InUse; size = 0 }) in
    let read = looked_back (λ d. HeadIsRead d file (Err c.in_err-head.field-0.0)) told (g.S.Site.told c.loop-file.site) so.told c.in_err-head.ensures.read in
    subst (λ r. HeadsAreRead told r) (search (rules, c.from_residual.ensures))
    (next_stopped c.args.files.now c.loop-file.file-index _ c.loop-file-test.true c.loop-file.heads told c.in_err-head.field-0.0 (ap is_in_use c.in-InUse.is) c.requires.listed so.read read)

none_read : (o : Option Content) → HeadsAreRead o (Err Memory)
none_read None = tt
none_read (Some c) = tt

pub returns-in_err-push-clause-read : goal.returns-in_err-push-clause-read
returns-in_err-push-clause-read g c =
    let told = g.S.Site.told c.args.site.now in
    let answer : Result (List HeadedFile) ScanFault = Err Memory in
    let is : answer ≡ c.from_residual-in_err-push.result = search (rules, c.from_residual-in_err-push.ensures) in
    subst (λ r. HeadsAreRead told r) is (none_read told)

pub returns-in_err-head-clause-told : goal.returns-in_err-head-clause-told
returns-in_err-head-clause-told g c = Tells-then OnlyLooks OnlyLooks OnlyLooks _ _ _ c.loop-file.invariant.told c.read_head.ensures.told OnlyLooks-then

pub returns-in_err-push-clause-told : goal.returns-in_err-push-clause-told
returns-in_err-push-clause-told g c = Tells-then OnlyLooks OnlyLooks OnlyLooks _ _ _ c.loop-file.invariant.told c.read_head.ensures.told OnlyLooks-then

pub loop-file-preserved : goal.loop-file-preserved
loop-file-preserved g c =
    let told = g.S.Site.told c.args.site.now in
    let files = c.args.files.now in
    let k = c.loop-file.file-index in
    let so = c.loop-file.invariant in
    let file = get_or files k (record { id = 0; place = InUse; size = 0 }) in
    let used = ap is_in_use c.in-InUse.is in
    let head = c.in_ok-head.head in
    let all = c.loop-file.heads ++ head ∷ [] in
    let pushed = c.in_ok-push.ensures.pushed in
    record {
      read =
          subst (λ hs. IfSome told (λ k'. AreReadSoFar k'.now.disk (k + 1) hs)) (sym pushed)
          (next_taken files k _ c.loop-file-test.true c.loop-file.heads told head used c.requires.listed so.read
          (looked_back (λ d. HeadIsRead d file (Ok head)) told (g.S.Site.told c.loop-file.site) so.told c.in_ok-head.ensures.read));
      told = Tells-then OnlyLooks OnlyLooks OnlyLooks _ _ _ so.told c.read_head.ensures.told OnlyLooks-then;
      kept = omega (arith, so.kept, c.read_head.ensures.cause.kept);
      syncs = c.read_head.ensures.syncs ∙ so.syncs;
      legal = subst (λ hs. AllByRecursion HasLegalHeader hs) (sym pushed) (legal_more HasLegalHeader c.loop-file.heads head so.legal c.in_ok-head.ensures.legal);
      spelled =
          subst (λ hs. IfSome told (λ k'. AllByRecursion (IsSpelledOn k'.now.disk) hs)) (sym pushed)
          (spelled_more c.loop-file.heads head told so.spelled (looked_back (λ d. IsSpelledOn d head) told (g.S.Site.told c.loop-file.site) so.told c.in_ok-head.ensures.spelled));
      ids =
          ap (λ hs. map (λ h. h.id) hs ++ map (λ f. f.id) (filter (λ f. is_in_use f.place) (drop (k + 1) files))) pushed
          ∙ ids_more c.loop-file.heads head file (filter (λ f. is_in_use f.place) (drop (k + 1) files)) c.in_ok-head.ensures.id
          ∙ ap (λ fs. map (λ h. h.id) c.loop-file.heads ++ map (λ f. f.id) fs) (sym (ids_taken files k _ c.loop-file-test.true used)) ∙ so.ids;
    }
