use Rattle.std.proofs.Common.{◌≡◌}
use Rattle.qls_reader.proofs.Stream.{begin_there}
use Rattle.qls_reader.proofs.reader.Reader.new.Goals as goal

pub returns-clause-begins : goal.returns-clause-begins
returns-clause-begins c = λ fs h.
    let files : c.deref.result.now ≡ c.into_vec-files.result.items = c.deref.ensures.value in
    let same : c.into_vec-files.result.items ≡ c.args.files = c.into_vec-files.ensures.same in
    (cc (c.begin-at.ensures.place, files, same, begin_there c.args.oldest c.args.files fs h))
