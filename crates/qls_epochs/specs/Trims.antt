-- The words of the laws on a journal without its newest file.
use Rattle.std.specs.Prelude.{◌-◌, take, length}
use Rattle.qls_meaning.specs.Journals.{Journal}

abbrev pub without_newest : Journal → Journal
without_newest j = record j { files = take (length j.files - 1) j.files }
