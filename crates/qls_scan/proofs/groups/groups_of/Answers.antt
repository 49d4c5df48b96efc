use Rattle.std.proofs.Common.{◌∷◌, [], ◌++◌, ◌∙◌, ap, subst, append_assoc}
use Rattle.std.specs.List.{AllByRecursion}
use Rattle.qls_scan.specs.Found.{with_no_area}
use Rattle.qls_scan.specs.Heads.{HasLegalHeader}
use Rattle.qls_scan.specs.Groups.{IdsDiffer}
use Rattle.std.proofs.Common.{map}
use Rattle.qls_scan.proofs.Grouping.{differ_behind, legal_at}
use Rattle.qls_scan.proofs.groups.groups_of.Goals as goal

pub loop-file-preserved : goal.loop-file-preserved
loop-file-preserved c =
    let file = c.in-Some.file in
    let left = c.pop.new.self in
    let done = c.loop-file.invariant.0 in
    let split = c.loop-file.invariant.1 ∙ ap (λ hs. hs ++ done) c.in-Some.ensures.last ∙ append_assoc left (file ∷ []) done in (
      file ∷ done,
      split,
      c.in_ok-add.ensures.added (map with_no_area done) c.loop-file.invariant.2
          (differ_behind left file done (subst (λ hs. IdsDiffer (map with_no_area hs)) split c.requires.differ))
          (legal_at left file done (subst (λ hs. AllByRecursion HasLegalHeader hs) split c.requires.legal)),
    )
