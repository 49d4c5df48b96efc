use Rattle.std.proofs.Common.{arith}
use Rattle.qls_command.proofs.Writing.{chunk_step, chunks_done}
use Rattle.qls_command.proofs.pieces.put_digits.Goals as goal

pub loop-rest-preserved : goal.loop-rest-preserved
loop-rest-preserved c =
    chunk_step c.loop-rest.out.items c.put_chunk.new.out.items c.loop-rest.rest.now c.split_at.result.0.now c.split_at.result.1.now _ c.min.result
    c.loop-rest.invariant c.in_ok-put_chunk.ensures.put c.split_at.ensures.front c.split_at.ensures.back

pub returns : goal.returns
returns c = record { put = chunks_done c.loop-rest.out.items c.loop-rest.rest.now _ (grind arith) c.loop-rest.invariant }
