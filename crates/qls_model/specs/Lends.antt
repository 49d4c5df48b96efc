-- What a list ends as, once a `&mut` to the vector that holds it has ended.
use Rattle.std.specs.Prelude.{List}
use Rattle.std.specs.Global.{Vec}
use Rattle.std.specs.Borrow.{Lends, MutBor, Fml, RattleType}
use Rattle.std.specs.contracts.alloc.Global as global
use Rattle.std.specs.contracts.vec.Vec as vec
use Rattle.std.specs.contracts.impls.GlobalAllocator.TheImpl.{ghosts}
use Rattle.qls_model.specs.contracts.bytes.Seq as seq

-- the list ends as the last items behind r
abbrev pub lends_vec : (T : RattleType) → MutBor (List T.Denot) → MutBor (Vec T.Denot) → Fml
lends_vec T s r = Lends (seq.the_row T) (vec.the_row T global.the_row ghosts) s r (λ v. v.items)
