-- What a batch holds of a record, as the record.
use Rattle.qls_record.specs.Record.{Record}
use Rattle.qls_record.specs.Head.{record_with}
use Rattle.qls_blocks.specs.declared.entry.Entry.{Entry}

abbrev pub record_of : Entry → Record
record_of e = record_with e.head e.xid e.body
