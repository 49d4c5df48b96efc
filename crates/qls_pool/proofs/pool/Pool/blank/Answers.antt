use Rattle.std.proofs.Common.{◌∷◌, refl}
use Rattle.qls_pool.specs.Pools.{least_id}
use Rattle.qls_pool.specs.Files.{BlankFile, BlankThere, IsPoolOf, IdsDiffer, IsWholePool}
use Rattle.qls_pool.specs.Taking.{Obtains}
use Rattle.qls_pool.specs.Discipline.{IsLeastOnDisk}
use Rattle.qls_pool.proofs.Calls.{carries_of}
use Rattle.qls_pool.proofs.Taken.{blank_failed, blank_orderly, blank_there, blank_pool, blank_least, blank_ids}
use Rattle.qls_pool.proofs.pool.Pool.blank.Goals as goal

pub returns-in_err-id-clause-orderly : goal.returns-in_err-id-clause-orderly
returns-in_err-id-clause-orderly g c = blank_failed c.args.home c.args.self.now c.in_err-id.field-0.0 c.from_residual-in_err-id.result _ _ c.from_residual-in_err-id.ensures.0 c.in_err-id.ensures.told

pub returns-clause-there : goal.returns-clause-there
returns-clause-there g c = λ out.
    let b : BlankFile = record { id = c.in_ok-id.id; serial = c.in_ok-serial.serial; home = c.args.home } in
    carries_of (Obtains c.args.home c.args.self.now.greatest (least_id c.args.home c.args.self.now.files)) (IsPoolOf c.args.self.now out) (BlankThere b) _ _ c.in_ok-id.ensures.told
    (λ x y e p. blank_there c.args.home c.args.self.now c.obtain.new.self b out x y refl c.in_ok-id.ensures.handed e p)

pub returns-clause-pool : goal.returns-clause-pool
returns-clause-pool g c = λ out.
    carries_of (Obtains c.args.home c.args.self.now.greatest (least_id c.args.home c.args.self.now.files)) (IsPoolOf c.args.self.now out) (IsPoolOf c.obtain.new.self (c.in_ok-id.id ∷ out)) _ _ c.in_ok-id.ensures.told
    (λ x y e p. blank_pool c.args.home c.args.self.now c.obtain.new.self c.in_ok-id.id out x y c.in_ok-id.ensures.handed e p)

pub returns-clause-least : goal.returns-clause-least
returns-clause-least g c =
    carries_of (Obtains c.args.home c.args.self.now.greatest (least_id c.args.home c.args.self.now.files)) (IsWholePool c.args.self.now) (IsLeastOnDisk c.args.home.part c.args.home.kib c.in_ok-id.id) _ _ c.in_ok-id.ensures.told
    (λ x y e w. blank_least c.args.home c.args.self.now c.obtain.new.self c.in_ok-id.id x y c.in_ok-id.ensures.handed e w)

pub returns-clause-orderly : goal.returns-clause-orderly
returns-clause-orderly g c = blank_orderly c.args.home c.args.self.now (record { id = c.in_ok-id.id; serial = c.in_ok-serial.serial; home = c.args.home }) _ _ c.in_ok-id.ensures.told

pub returns-clause-ids : goal.returns-clause-ids
returns-clause-ids g c =
    carries_of (Obtains c.args.home c.args.self.now.greatest (least_id c.args.home c.args.self.now.files)) (IsWholePool c.args.self.now) IdsDiffer _ _ c.in_ok-id.ensures.told
    (λ x y e w. blank_ids c.args.home c.args.self.now x y e w)
