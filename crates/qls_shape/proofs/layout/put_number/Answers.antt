use Rattle.std.proofs.Common.{◌≡◌, arith}
use Rattle.std.proofs.lemmas.Bool.Decides.{nat_tests}
use Rattle.qls_shape.proofs.TableLaws.{written}
use Rattle.qls_shape.proofs.layout.put_number.Goals as goal

pub returns-in-2 : goal.returns-in-2
returns-in-2 c = record { exact = written _ _ 2 _ _ c.in-2.is c.requires.room c.write_u16.ensures }

pub returns-in-4 : goal.returns-in-4
returns-in-4 c = record { exact = written _ _ 4 _ _ c.in-4.is c.requires.room c.write_u32.ensures }

pub returns-in_default : goal.returns-in_default
returns-in_default c =
    let eight : c.args.field.width ≡ 8 = grind (arith, nat_tests) in
    record { exact = written _ _ 8 _ _ eight c.requires.room c.write_u64.ensures }
