use Rattle.std.proofs.Common.{rules}
use Rattle.std.proofs.lemmas.List.Sorted.{IsNonDecreasingBy-from_sort_by_key}
use Rattle.qls_site.specs.declared.site.ImageFile.{ImageFile}
use Rattle.qls_memsite.proofs.Sorting.{sorted_is}
use Rattle.qls_memsite.proofs.memory.sort.Goals as goal

pub returns : goal.returns
returns c =
    sorted_is _ _ c.requires c.sort_by_key.ensures.permutation
    (IsNonDecreasingBy-from_sort_by_key (λ (f : ImageFile). f.id) _ c.in_ok-sort_by_key.ensures.sorted (λ a r q k. search rules))
