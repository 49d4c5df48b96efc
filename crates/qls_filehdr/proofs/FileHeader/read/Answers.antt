use Rattle.std.proofs.Common.{◌≡◌, ◌∙◌, Ok, Err, ap, arith, rules}
use Rattle.qls_filehdr.specs.declared.Rule.TheVariants as rule
use Rattle.qls_filehdr.specs.Header.{header_of}
use Rattle.std.proofs.lemmas.Result.{err_from_is_err_and}
use Rattle.qls_filehdr.proofs.HeaderRead.{passed, read_steps, held_is, header_is}
use Rattle.qls_filehdr.proofs.FileHeader.read.Goals as goal

pub check_rest-requires-clause-room : goal.check_rest-requires-clause-room
check_rest-requires-clause-room c =
    let short = c.is_name.ensures.short (passed c.is_name.result rule.Name _ c.in_ok-claim.ensures.exact) in
    omega (arith, short)

pub returns-in_err-check_rest : goal.returns-in_err-check_rest
returns-in_err-check_rest c =
    let short = c.is_name.ensures.short (passed c.is_name.result rule.Name _ c.in_ok-claim.ensures.exact) in
    let all : Err c.in_err-check_rest.field-0.0 ≡ header_of c.args.from.now =
    read_steps c.args.from.now c.name_bytes-name.result.now c.numbers_of-numbers.result c.journal_kind-kind.result c.is_name.result _ _ _
    c.requires.size c.numbers_of-numbers.ensures.exact c.journal_kind-kind.ensures.exact c.name_bytes-name.ensures.exact c.is_name.ensures.exact short
    c.in_ok-check_numbers.ensures.exact c.in_ok-claim.ensures.exact c.in_err-check_rest.ensures.exact in
    let p = err_from_is_err_and c.from_residual-in_err-check_rest.result c.from_residual-in_err-check_rest.ensures.1 in
    record { exact = p.1 ∙ ap (λ e. Err e) p.2 ∙ all }

pub unwrap-requires : goal.unwrap-requires
unwrap-requires c =
    let short = c.is_name.ensures.short (passed c.is_name.result rule.Name _ c.in_ok-claim.ensures.exact) in
    search rules

pub returns : goal.returns
returns c =
    let short = c.is_name.ensures.short (passed c.is_name.result rule.Name _ c.in_ok-claim.ensures.exact) in
    let name_is = held_is _ c.new.result c.name_bytes-name.result.now c.unwrap.result c.new.ensures.kept c.unwrap.ensures in
    record {
      exact =
          ap (λ h. Ok h) (header_is c.args.from.now c.numbers_of-numbers.result c.journal_kind-kind.result c.unwrap.result
          c.numbers_of-numbers.ensures.exact c.journal_kind-kind.ensures.exact (name_is ∙ c.name_bytes-name.ensures.exact))
          ∙ read_steps c.args.from.now c.name_bytes-name.result.now c.numbers_of-numbers.result c.journal_kind-kind.result c.is_name.result _ _ (Ok c.in_ok-check_rest.field-0)
          c.requires.size c.numbers_of-numbers.ensures.exact c.journal_kind-kind.ensures.exact c.name_bytes-name.ensures.exact c.is_name.ensures.exact short
          c.in_ok-check_numbers.ensures.exact c.in_ok-claim.ensures.exact c.in_ok-check_rest.ensures.exact;
    }
