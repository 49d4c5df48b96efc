use Rattle.std.proofs.Common.{arith, refl, ap, inl, inr}
use Rattle.qls_record.specs.declared.Kind.TheVariants.{Enqueue, Dequeue, Commit, Abort}
use Rattle.qls_record.proofs.HeadPut.{header_put}
use Rattle.qls_record.proofs.encode.put_header.Goals as goal

pub returns-in-Enqueue : goal.returns-in-Enqueue
returns-in-Enqueue c = record {
  exact =
      header_put c.args.head Enqueue c.args.serial c.magic_of-magic.result c.flags_of-flags.result _ _ c.args.into.now c.put_fields.new.into c.in-Enqueue.is
      c.magic_of-magic.ensures.exact c.flags_of-flags.ensures.exact (ap (λ t. t.fields) c.two_more_table.ensures.exact) refl
      (omega arith) (omega arith) (omega arith) (omega arith) c.ranges.serial.fits c.put_fields.ensures.exact;
}

pub returns-in-Dequeue : goal.returns-in-Dequeue
returns-in-Dequeue c = record {
  exact =
      header_put c.args.head Dequeue c.args.serial c.magic_of-magic.result c.flags_of-flags.result _ _ c.args.into.now c.put_fields-in-Dequeue.new.into c.in-Dequeue.is
      c.magic_of-magic.ensures.exact c.flags_of-flags.ensures.exact (ap (λ t. t.fields) c.two_more_table-in-Dequeue.ensures.exact) refl
      (omega arith) (omega arith) (omega arith) (omega arith) c.ranges.serial.fits c.put_fields-in-Dequeue.ensures.exact;
}

pub returns-in-Commit : goal.returns-in-Commit
returns-in-Commit c =
    elim c.in-Commit.is [
      | inl is ↦ record {
        exact =
            header_put c.args.head Commit c.args.serial c.magic_of-magic.result c.flags_of-flags.result _ _ c.args.into.now c.put_fields-in-Commit.new.into is
            c.magic_of-magic.ensures.exact c.flags_of-flags.ensures.exact (ap (λ t. t.fields) c.one_more_table.ensures.exact) refl
            (omega arith) (omega arith) (omega arith) (omega arith) c.ranges.serial.fits c.put_fields-in-Commit.ensures.exact;
      }
      | inr is ↦ record {
        exact =
            header_put c.args.head Abort c.args.serial c.magic_of-magic.result c.flags_of-flags.result _ _ c.args.into.now c.put_fields-in-Commit.new.into is
            c.magic_of-magic.ensures.exact c.flags_of-flags.ensures.exact (ap (λ t. t.fields) c.one_more_table.ensures.exact) refl
            (omega arith) (omega arith) (omega arith) (omega arith) c.ranges.serial.fits c.put_fields-in-Commit.ensures.exact;
      }
    ]
