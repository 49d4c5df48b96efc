use Rattle.std.proofs.Common.{◌≡◌, ℕ, ◌<◌, List, [], ◌∷◌, ◌++◌, sym, ap, ◌∙◌, subst}
use Rattle.qls_site.specs.declared.site.ImageFile.{ImageFile}
use Rattle.qls_memsite.specs.Seen.{IdsDiffer}
use Rattle.qls_pool.proofs.TwoFiles.{apart, fits_begun, free_begun}
use Rattle.qls_log.proofs.tests.begin.Goals as goal

both : (a b : ℕ) (f g : ImageFile) → f.id ≡ a → g.id ≡ b → a < b → f.id < g.id
both a b f g p q h = subst (λ n. n < g.id) (sym p) (subst (λ n. a < n) (sym q) h)

two : (xs ys zs : List ImageFile) (f g : ImageFile) → xs ≡ [] → ys ≡ xs ++ f ∷ [] → zs ≡ ys ++ g ∷ [] → zs ≡ f ∷ g ∷ []
two xs ys zs f g e p q = q ∙ ap (λ (l : List ImageFile). l ++ g ∷ []) (p ∙ ap (λ (l : List ImageFile). l ++ f ∷ []) e)

pub from_image-requires : goal.from_image-requires
from_image-requires c =
    subst IdsDiffer (sym (two _ _ _ c.in_ok-filled.field-0 c.in_ok-filled-2.field-0 c.new-files.ensures.empty c.in_ok-push.ensures.pushed c.in_ok-push-2.ensures.pushed))
    (apart c.in_ok-filled.field-0 c.in_ok-filled-2.field-0 (both c.args.first c.args.second c.in_ok-filled.field-0 c.in_ok-filled-2.field-0 c.in_ok-filled.ensures.id c.in_ok-filled-2.ensures.id c.requires))

pub returns-clause-fits : goal.returns-clause-fits
returns-clause-fits c =
    fits_begun c.in_ok-filled.field-0 c.in_ok-filled-2.field-0 c.push-2.new.self c.args.second c.from_image.result
    (two _ _ _ c.in_ok-filled.field-0 c.in_ok-filled-2.field-0 c.new-files.ensures.empty c.in_ok-push.ensures.pushed c.in_ok-push-2.ensures.pushed) c.in_ok-filled-2.ensures.id
    (both c.args.first c.args.second c.in_ok-filled.field-0 c.in_ok-filled-2.field-0 c.in_ok-filled.ensures.id c.in_ok-filled-2.ensures.id c.requires) c.in_ok-filled.ensures.size c.in_ok-filled-2.ensures.size
    c.from_image.ensures.begins

pub returns-clause-free : goal.returns-clause-free
returns-clause-free c =
    free_begun c.in_ok-filled.field-0 c.in_ok-filled-2.field-0 c.push-2.new.self c.from_image.result
    (two _ _ _ c.in_ok-filled.field-0 c.in_ok-filled-2.field-0 c.new-files.ensures.empty c.in_ok-push.ensures.pushed c.in_ok-push-2.ensures.pushed)
    (both c.args.first c.args.second c.in_ok-filled.field-0 c.in_ok-filled-2.field-0 c.in_ok-filled.ensures.id c.in_ok-filled-2.ensures.id c.requires) c.in_ok-filled.ensures.empty c.in_ok-filled-2.ensures.empty
    c.from_image.ensures.begins
