use Rattle.std.proofs.Common.{◌≡◌, get_or, ap, ◌∙◌, rules}
use Rattle.std.specs.Int.{w32}
use Rattle.qls_shape.specs.Fields.{number_at}
use Rattle.qls_shape.specs.Tables.{numbers_of}
use Rattle.qls_record.proofs.Stands.{AreBytes, has_32}
use Rattle.qls_record.proofs.HeadRead.{kind_there}
use Rattle.qls_record.proofs.read.kind_at.Goals as goal

pub kind_of-requires : goal.kind_of-requires
kind_of-requires c =
    let bytes : AreBytes c.args.from.now = record { small = search rules } in
    let first : get_or c.get_fields.result 0 0 ≡ number_at w32 0 c.args.from.now =
    ap (λ l. get_or l 0 0) (c.get_fields.ensures.exact ∙ ap (λ t. numbers_of t.fields c.args.from.now) c.record_table.ensures.exact) in
    let small = has_32 0 c.args.from.now bytes in
    record { number = rw first small }

pub returns : goal.returns
returns c =
    let bytes : AreBytes c.args.from.now = record { small = search rules } in
    let first : get_or c.get_fields.result 0 0 ≡ number_at w32 0 c.args.from.now =
    ap (λ l. get_or l 0 0) (c.get_fields.ensures.exact ∙ ap (λ t. numbers_of t.fields c.args.from.now) c.record_table.ensures.exact) in
    record { exact = kind_there c.args.from.now (get_or c.get_fields.result 0 0) c.kind_of.result bytes c.requires.room first c.kind_of.ensures.exact }
