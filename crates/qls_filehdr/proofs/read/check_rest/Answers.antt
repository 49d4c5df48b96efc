use Rattle.std.proofs.Common.{◌≡◌, ◌+◌, drop, ap, ◌∙◌, eqb}
use Rattle.std.proofs.lemmas.List.{take_rest}
use Rattle.std.specs.List.{list_all}
use Rattle.std.specs.Int.{w32}
use Rattle.qls_shape.specs.Fields.{number_at}
use Rattle.qls_shape.proofs.Numbers.{number_read_4}
use Rattle.qls_filehdr.proofs.HeaderRead.{rest_is}
use Rattle.qls_filehdr.proofs.read.check_rest.Goals as goal

pub returns : goal.returns
returns c =
    let bytes = c.args.from.now in
    let end = c.args.end in
    let sum : c.read_u32-sum.result ≡ number_at w32 end bytes = c.read_u32-sum.ensures ∙ number_read_4 bytes end in
    let zeros : c.are_zeros.result ≡ list_all (λ b. eqb b 0) (drop (end + 4) bytes) = c.are_zeros.ensures.exact ∙ ap (list_all (λ b. eqb b 0)) (take_rest bytes (end + 4)) in
    record { exact = rest_is end _ _ bytes _ c.claim-2.result c.in_ok-claim.field-0 c.requires.size sum c.adler.ensures.sum zeros c.in_ok-claim.ensures.exact c.claim-2.ensures.exact }
