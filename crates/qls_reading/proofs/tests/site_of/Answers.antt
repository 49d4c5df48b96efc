use Rattle.std.proofs.Common.{◌≡◌, ◌∙◌, List, [], ◌∷◌, ◌++◌, Some, None, cond, eqb, refl, sym, ap, subst}
use Rattle.qls_site.specs.declared.site.ImageFile.{ImageFile}
use Rattle.qls_memsite.specs.Seen.{IdsDiffer}
use Rattle.qls_reading.proofs.tests.site_of.Goals as goal

all_of : (s t u v w x : List ImageFile) (a b c d e : ImageFile) → s ≡ [] → t ≡ s ++ a ∷ [] → u ≡ t ++ b ∷ [] → v ≡ u ++ c ∷ [] → w ≡ v ++ d ∷ [] → x ≡ w ++ e ∷ [] → x ≡ a ∷ b ∷ c ∷ d ∷ e ∷ []
all_of s t u v w x a b c d e none one two three four five =
    let is_one : t ≡ a ∷ [] = one ∙ ap (λ xs. xs ++ a ∷ []) none in
    let is_two : u ≡ a ∷ b ∷ [] = two ∙ ap (λ xs. xs ++ b ∷ []) is_one in
    let is_three : v ≡ a ∷ b ∷ c ∷ [] = three ∙ ap (λ xs. xs ++ c ∷ []) is_two in
    let is_four : w ≡ a ∷ b ∷ c ∷ d ∷ [] = four ∙ ap (λ xs. xs ++ d ∷ []) is_three in
    five ∙ ap (λ xs. xs ++ e ∷ []) is_four

differ : (a b c d e : ImageFile) → a.id ≡ 1 → b.id ≡ 2 → c.id ≡ 3 → d.id ≡ 4 → e.id ≡ 5 → IdsDiffer (a ∷ b ∷ c ∷ d ∷ e ∷ [])
differ a b c d e p q r s t = (
  λ i. cond (eqb (q i) (p i)) (Some b) (cond (eqb (r i) (p i)) (Some c) (cond (eqb (s i) (p i)) (Some d) (cond (eqb (t i) (p i)) (Some e) None))),
  (
    λ i. cond (eqb (r i) (q i)) (Some c) (cond (eqb (s i) (q i)) (Some d) (cond (eqb (t i) (q i)) (Some e) None)),
    (
      λ i. cond (eqb (s i) (r i)) (Some d) (cond (eqb (t i) (r i)) (Some e) None),
      (
        λ i. cond (eqb (t i) (s i)) (Some e) None,
        (refl, tt),
      ),
    ),
  ),
)

pub from_image-requires : goal.from_image-requires
from_image-requires c =
    subst IdsDiffer
    (sym (all_of c.new-files.result c.push.new.self c.push-2.new.self c.push-3.new.self c.push-4.new.self c.push-5.new.self c.in_ok-file.field-0 c.in_ok-file-2.field-0 c.in_ok-file-3.field-0 c.in_ok-file-4.field-0 c.in_ok-file-5.field-0 c.new-files.ensures.empty
    c.in_ok-push.ensures.pushed c.in_ok-push-2.ensures.pushed c.in_ok-push-3.ensures.pushed c.in_ok-push-4.ensures.pushed c.in_ok-push-5.ensures.pushed))
    (differ c.in_ok-file.field-0 c.in_ok-file-2.field-0 c.in_ok-file-3.field-0 c.in_ok-file-4.field-0 c.in_ok-file-5.field-0 c.in_ok-file.ensures.id c.in_ok-file-2.ensures.id c.in_ok-file-3.ensures.id c.in_ok-file-4.ensures.id c.in_ok-file-5.ensures.id)
