use Rattle.std.proofs.Common.{ap, ◌∙◌}
use Rattle.std.specs.BTreeMap.{insert_entry}
use Rattle.qls_model.proofs.XidOrder.{order_is_bytes}
use Rattle.qls_scan.specs.Groups.{within, number_key, number_cmp}
use Rattle.qls_scan.proofs.Names.{order}
use Rattle.qls_scan.proofs.Grouping.{within-insert}
use Rattle.qls_scan.proofs.groups.begin_queue.Goals as goal

pub returns : goal.returns
returns c =
    let old = c.args.queues.now.entries in
    let files = c.add_file.new.files in
    let file = c.args.file in
    let begun = c.in_ok-add_file.ensures.added ∙ ap (λ es. insert_entry number_cmp es (number_key file) file) c.new-files.ensures.empty in
    record {
      added =
          ap within (c.in_ok-insert.ensures.entries ∙ ap (λ f. insert_entry f old c.name_of-name.result files) (order_is_bytes 200))
          ∙ within-insert old c.name_of-name.result files
          ∙ (λ k. insert_entry order (within old) (c.name_of-name.ensures.name k) (begun k));
    }
