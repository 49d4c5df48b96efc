use Rattle.std.proofs.Common.{◌++◌, ◌∙◌, ap, map, IfOk, Ok, Err, Result}
use Rattle.qls_scan.specs.Found.{with_no_area}
use Rattle.qls_scan.specs.Groups.{within, queue_found}
use Rattle.qls_scan.proofs.Grouping.{groups_are, lists_named}
use Rattle.qls_scan.proofs.groups.group.Goals as goal

where_ok : {X E : Type 0} (r : Result X E) {P Q : X → Type 0} → ((x : X) → P x → Q x) → IfOk r P → IfOk r Q
where_ok (Ok x) f p = f x p
where_ok (Err e) f p = tt

pub returns : goal.returns
returns c =
    let groups = c.in_ok-groups.groups in
    let heads = map with_no_area c.args.heads in
    record {
      grouped = where_ok c.with_queues.result
          (λ all found. found ∙ ap (λ fs. fs ++ map queue_found (within groups.queues.entries)) c.in_ok-found.ensures.found ∙ groups_are groups heads (lists_named c.args.heads c.requires.legal) c.in_ok-groups.ensures.grouped)
          c.with_queues.ensures.found;
    }
