use Rattle.std.proofs.Common.{◌≡◌, ◌<◌, ◌^◌, false, refl, ap, ◌∙◌, sym, rules, arith}
use Rattle.std.proofs.Common.{nat_eq}
use Rattle.std.specs.List.{starts_with}
use Rattle.qls_shape.specs.Adler.{adler_of}
use Rattle.qls_shape.specs.Tables.{numbers_of}
use Rattle.qls_record.specs.declared.Kind.{Kind}
use Rattle.qls_record.specs.declared.Kind.TheVariants.{Enqueue, Dequeue, Commit, Abort, Filler}
use Rattle.qls_record.specs.contracts.Kind.{the_type}
use Rattle.qls_record.specs.Record.{is_filler}
use Rattle.qls_record.specs.Spelling.{tail_with}
use Rattle.qls_record.proofs.Stands.{AreBytes}
use Rattle.qls_record.proofs.WholeRead.{tail_tested}
use denote.Enum.Bare.{sameb}
use Rattle.qls_record.proofs.read.has_tail.Goals as goal

other : (k : Kind) → false ≡ sameb the_type k Filler → is_filler k ≡ false
other Enqueue h = refl
other Dequeue h = refl
other Commit h = refl
other Abort h = refl
other Filler h = sym h

pub returns : goal.returns
returns c =
    let bytes : AreBytes c.args.from.now = record { small = search rules } in
    let numbers = c.get_fields-found.ensures.exact ∙ ap (λ t. numbers_of t.fields c.args.from.now) c.tail_table.ensures.exact in
    let sum = c.from-sum.ensures ∙ c.adler.ensures.sum in
    let small : adler_of c.args.covered.now < 2 ^ 32 = omega (arith, c.adler.ensures.sum, c.adler.type_inv) in
    let rid : c.args.head.rid < 2 ^ 64 = omega arith in
    record {
      exact =
          tail_tested c.args.head.kind c.args.from.now c.get_fields-found.result c.inverted_of.result c.from-sum.result c.args.serial c.args.head.rid c.eq-2.result
          bytes (other c.args.head.kind c.if-eq.ensures) c.requires.room (rw sum small) c.ranges.serial.fits rid numbers c.inverted_of.ensures.exact c.eq-2.ensures
          ∙ ap (λ n. starts_with nat_eq c.args.from.now (tail_with c.args.head.kind n c.args.serial c.args.head.rid)) sum;
    }
