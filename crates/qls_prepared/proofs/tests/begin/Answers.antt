use Rattle.std.proofs.Common.{◌≡◌, ◌<◌, List, [], ◌∷◌, ◌++◌, sym, ap, ◌∙◌, subst, arith}
use Rattle.qls_site.specs.declared.site.ImageFile.{ImageFile}
use Rattle.qls_memsite.specs.Seen.{IdsDiffer}
use Rattle.qls_pool.proofs.TwoFiles.{apart, fits_begun, free_begun}
use Rattle.qls_prepared.proofs.tests.begin.Goals as goal

rise : (f g : ImageFile) → f.id ≡ 5 → g.id ≡ 4611686018427387903 → f.id < g.id
rise f g p q = subst (λ n. n < g.id) (sym p) (subst (λ n. 5 < n) (sym q) (omega arith))

two : (xs ys zs : List ImageFile) (f g : ImageFile) → xs ≡ [] → ys ≡ xs ++ f ∷ [] → zs ≡ ys ++ g ∷ [] → zs ≡ f ∷ g ∷ []
two xs ys zs f g e p q = q ∙ ap (λ (l : List ImageFile). l ++ g ∷ []) (p ∙ ap (λ (l : List ImageFile). l ++ f ∷ []) e)

pub from_image-requires : goal.from_image-requires
from_image-requires c =
    subst IdsDiffer (sym (two _ _ _ c.in_ok-empty_file.field-0 c.in_ok-empty_file-2.field-0 c.new-files.ensures.empty c.in_ok-push.ensures.pushed c.in_ok-push-2.ensures.pushed))
    (apart c.in_ok-empty_file.field-0 c.in_ok-empty_file-2.field-0 (rise c.in_ok-empty_file.field-0 c.in_ok-empty_file-2.field-0 c.in_ok-empty_file.ensures.id c.in_ok-empty_file-2.ensures.id))

pub returns-clause-fits : goal.returns-clause-fits
returns-clause-fits c =
    fits_begun c.in_ok-empty_file.field-0 c.in_ok-empty_file-2.field-0 c.push-2.new.self 4611686018427387903 c.from_image.result
    (two _ _ _ c.in_ok-empty_file.field-0 c.in_ok-empty_file-2.field-0 c.new-files.ensures.empty c.in_ok-push.ensures.pushed c.in_ok-push-2.ensures.pushed) c.in_ok-empty_file-2.ensures.id
    (rise c.in_ok-empty_file.field-0 c.in_ok-empty_file-2.field-0 c.in_ok-empty_file.ensures.id c.in_ok-empty_file-2.ensures.id) c.in_ok-empty_file.ensures.size c.in_ok-empty_file-2.ensures.size
    c.from_image.ensures.begins

pub returns-clause-free : goal.returns-clause-free
returns-clause-free c =
    free_begun c.in_ok-empty_file.field-0 c.in_ok-empty_file-2.field-0 c.push-2.new.self c.from_image.result
    (two _ _ _ c.in_ok-empty_file.field-0 c.in_ok-empty_file-2.field-0 c.new-files.ensures.empty c.in_ok-push.ensures.pushed c.in_ok-push-2.ensures.pushed)
    (rise c.in_ok-empty_file.field-0 c.in_ok-empty_file-2.field-0 c.in_ok-empty_file.ensures.id c.in_ok-empty_file-2.ensures.id) c.in_ok-empty_file.ensures.empty c.in_ok-empty_file-2.ensures.empty
    c.from_image.ensures.begins
