use Rattle.std.proofs.Common.{◌∙◌, drop, sym, arith, length-drop, take_all}
use Rattle.std.proofs.lemmas.List.{take_rest}
use Rattle.qls_filehdr.proofs.read.name_bytes.Goals as goal

pub returns-else-size-rest : goal.returns-else-size-rest
returns-else-size-rest c =
    let rest = drop 60 c.args.from.now in
    record { exact = take_rest c.args.from.now 60 ∙ sym (take_all c.args.size rest (omega (arith, length-drop 60 c.args.from.now))) }
