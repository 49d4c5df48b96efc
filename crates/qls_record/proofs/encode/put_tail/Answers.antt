use Rattle.std.proofs.Common.{◌≡◌, ◌+◌, ◌<◌, ◌^◌, ◌++◌, false, refl, ap, ◌∙◌, sym, arith, take, drop}
use Rattle.qls_shape.specs.Adler.{adler_of}
use Rattle.qls_record.specs.declared.Kind.{Kind}
use Rattle.qls_record.specs.declared.Kind.TheVariants.{Enqueue, Dequeue, Commit, Abort, Filler}
use Rattle.qls_record.specs.contracts.Kind.{the_type}
use Rattle.qls_record.specs.Record.{is_filler, tail_length}
use Rattle.qls_record.specs.Spelling.{tail_with}
use Rattle.qls_record.proofs.HeadPut.{tail_put}
use denote.Enum.Bare.{sameb}
use Rattle.qls_record.proofs.encode.put_tail.Goals as goal

other : (k : Kind) → false ≡ sameb the_type k Filler → is_filler k ≡ false
other Enqueue h = refl
other Dequeue h = refl
other Commit h = refl
other Abort h = refl
other Filler h = sym h

pub returns : goal.returns
returns c =
    let sum = c.from-sum.ensures ∙ c.adler.ensures.sum in
    let small : adler_of (take c.args.at c.args.into.now) < 2 ^ 32 = omega (arith, c.adler.ensures.sum, c.adler.type_inv) in
    record {
      exact =
          tail_put c.args.head.kind c.from-sum.result c.args.serial c.args.head.rid c.args.at c.inverted_of.result _ c.args.into.now c.put_fields.new.into
          (other c.args.head.kind c.if-eq.ensures) (omega (arith, sum, small)) c.ranges.serial.fits (omega arith) c.requires.room
          (ap (λ t. t.fields) c.tail_table.ensures.exact) c.inverted_of.ensures.exact c.put_fields.ensures.exact
          ∙ ap (λ n. take c.args.at c.args.into.now ++ tail_with c.args.head.kind n c.args.serial c.args.head.rid ++ drop (c.args.at + tail_length c.args.head.kind) c.args.into.now) sum;
    }
