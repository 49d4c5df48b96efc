use Rattle.std.proofs.Common.{refl, OnOk, Ok, Err, Result}
use Rattle.qls_scan.specs.Found.{with_no_area}
use Rattle.qls_scan.proofs.Grouping.{list_more, queue_more, list_name}
use Rattle.qls_scan.proofs.groups.Groups.add.Goals as goal

where_ok : {X E : Type 0} (r : Result X E) {P Q : Type 0} → (P → Q) → OnOk r P → OnOk r Q
where_ok (Ok x) f p = f p
where_ok (Err e) f p = tt

pub returns-in-List : goal.returns-in-List
returns-in-List c =
    let f = with_no_area c.args.file in
    record {
      added = where_ok c.add_file.result
          (λ added fs so fresh legal. list_more f fs fresh c.args.self.now (record { list = c.add_file.new.files; queues = c.args.self.now.queues }) c.in-List.is (list_name c.args.file legal c.in-List.is) so added refl)
          c.add_file.ensures.added;
    }

pub returns-in-Queue : goal.returns-in-Queue
returns-in-Queue c =
    let f = with_no_area c.args.file in
    record {
      added = where_ok c.add_to_queue.result
          (λ added fs so fresh legal. queue_more f fs fresh c.in-Queue.is c.args.self.now (record { list = c.args.self.now.list; queues = c.add_to_queue.new.queues }) so refl added)
          c.add_to_queue.ensures.added;
    }
