use Rattle.std.proofs.Common.{[], refl}
use Rattle.qls_pool.proofs.tests.a_file_goes_into_use_and_back.Goals as goal

pub give_back-requires-clause-pool : goal.give_back-requires-clause-pool
give_back-requires-clause-pool g c = ([], c.in_ok-write_data.ensures.pool c.take.new.pool [] c.in_ok-file.ensures.pool)

pub blank-requires : goal.blank-requires
blank-requires g c = record { pool = ([], c.in_ok-give_back.ensures.pool [] refl (c.in_ok-write_data.ensures.pool c.take.new.pool [] c.in_ok-file.ensures.pool)) }
