use Rattle.qls_record.proofs.Assembled.{assembled}
use Rattle.qls_record.proofs.encode.encode_into.Goals as goal

pub returns : goal.returns
returns c = record {
  spelled =
      assembled c.args.head.now c.args.serial c.header_length-header.result c.tail_length.result c.args.xid.now c.args.body.now c.args.into.now c.put_header.new.into c.put_part.new.into c.put_part-2.new.into
      c.put_tail.new.into c.put_padding.new.into c.requires.xid c.requires.body c.requires.room c.header_length-header.ensures c.tail_length.ensures c.put_header.ensures.exact c.put_part.ensures.exact
      c.put_part-2.ensures.exact c.put_tail.ensures.exact c.put_padding.ensures.exact;
}
