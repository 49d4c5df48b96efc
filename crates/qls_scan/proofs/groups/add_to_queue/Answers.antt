use Rattle.std.proofs.Common.{ap, sym, ◌∙◌, OnOk, Ok, Err, Result, None, option_map}
use Rattle.std.specs.BTreeMap.{is_at}
use Rattle.std.specs.Map.{lookup, set_value}
use Rattle.qls_model.proofs.XidOrder.{order_is_bytes}
use Rattle.qls_scan.specs.Groups.{within, add_to}
use Rattle.qls_scan.proofs.Names.{order}
use Rattle.qls_scan.proofs.Grouping.{within-set, within-lookup, entries_in}
use Rattle.qls_scan.proofs.groups.add_to_queue.Goals as goal

where_ok : {X E : Type 0} (r : Result X E) {P Q : Type 0} → (P → Q) → OnOk r P → OnOk r Q
where_ok (Ok x) f p = f p
where_ok (Err e) f p = tt

pub returns-in-Some : goal.returns-in-Some
returns-in-Some c =
    let file = c.args.file in
    let name = file.header.name in
    let old = c.args.queues.now.entries in
    let new = c.add_file.new.files in
    let there = within-lookup (is_at (order name)) old ∙ ap (option_map entries_in) (sym (c.in-Some.ensures.value ∙ ap (λ f. lookup (is_at (f name)) old) (order_is_bytes 200))) in
    record {
      added = where_ok c.add_file.result
          (λ added.
          ap within ((c.get_mut.follows.holds new).0 ∙ ap (λ f. set_value (is_at (f name)) old new) (order_is_bytes 200)) ∙ within-set (is_at (order name)) old new
          ∙ ap (set_value (is_at (order name)) (within old)) added ∙ sym (ap (add_to file (within old)) there))
          c.add_file.ensures.added;
    }

pub returns-in-None : goal.returns-in-None
returns-in-None c =
    let file = c.args.file in
    let name = file.header.name in
    let old = c.args.queues.now.entries in
    let there = within-lookup (is_at (order name)) old ∙ ap (option_map entries_in) (sym (c.in-None.ensures.value ∙ ap (λ f. lookup (is_at (f name)) old) (order_is_bytes 200))) in
    let kept = c.get_mut.follows.holds-at-none in
    record {
      added = where_ok c.begin_queue.result (λ added. added ∙ ap (λ m. add_to file (within m.entries) None) kept ∙ sym (ap (add_to file (within old)) there)) c.begin_queue.ensures.added;
    }
