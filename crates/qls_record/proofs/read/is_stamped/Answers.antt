use Rattle.std.proofs.Common.{ap, ◌∙◌, sym, rules}
use Rattle.qls_shape.specs.Tables.{numbers_of}
use Rattle.qls_record.proofs.Stands.{AreBytes}
use Rattle.qls_record.proofs.HeadRead.{stamp_there, tested}
use Rattle.qls_record.proofs.read.is_stamped.Goals as goal

pub returns : goal.returns
returns c =
    let bytes : AreBytes c.args.from.now = record { small = search rules } in
    let numbers = c.get_fields.ensures.exact ∙ ap (λ t. numbers_of t.fields c.args.from.now) c.record_table.ensures.exact in
    record {
      exact =
          tested c.args.from.now c.get_fields.result c.args.head.flagged c.args.serial c.flags_of.result c.eq.result numbers c.flags_of.ensures.exact c.eq.ensures
          ∙ sym (stamp_there c.args.head c.args.serial c.args.from.now bytes c.ranges.serial.fits c.requires.kind c.requires.room c.requires.fields);
    }
