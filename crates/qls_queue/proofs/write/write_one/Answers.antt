use Rattle.std.proofs.Common.{◌≡◌, ◌+◌, ℕ, List, [], ◌∷◌, Some, Err, IsSome, map, refl, sym, ap, subst, ◌∙◌, rules}
use Rattle.std.specs.Prelude.{slice_index_or}
use Rattle.qls_shape.specs.declared.Version.TheVariants.{Two}
use Rattle.qls_record.specs.Record.{Record, record_length}
use Rattle.qls_record.specs.Head.{record_with}
use Rattle.qls_meaning.specs.Reading.{Read}
use Rattle.qls_blocks.specs.Batching.{laid_from}
use Rattle.qls_log.specs.declared.spot.Spot.{Spot}
use Rattle.qls_log.specs.Logs.{capacity_in}
use Rattle.qls_log.specs.Spots.{spot_of}
use Rattle.qls_log.specs.Leaving.{NoneLeaves}
use Rattle.qls_log.specs.Steps.{IsLogStep, is_exact}
use Rattle.qls_log.specs.Unwritten.{IsWrittenTo}
use Rattle.qls_log.proofs.Going.{told_handed, goes_nowhere, draws_handed, draws_nothing}
use Rattle.qls_model.specs.declared.bytes.Seq.{Seq}
use Rattle.qls_pool.proofs.Moments.{told_of, told_same}
use Rattle.qls_queue.proofs.Going.{writes_err}
use Rattle.qls_queue.proofs.Then.{writes_none}
use Rattle.qls_queue.proofs.write.write_one.Goals as goal

pub unwrap-body-requires : goal.unwrap-body-requires
unwrap-body-requires g c = subst IsSome (sym (c.into_body.ensures.last [] (record_with c.args.head c.args.xid c.args.body) c.in_ok-batch.ensures.exact)) refl

some_is : {A : Type 0} (x y : A) → Some x ≡ Some y → x ≡ y
some_is x y e = cc

pub returns-clause-got : goal.returns-clause-got
returns-clause-got g c =
    let r : Record = record_with c.args.head c.args.xid c.args.body in
    let l = c.args.log.now in
    let body : c.unwrap-body.result ≡ c.args.body = some_is c.unwrap-body.result c.args.body (sym c.unwrap-body.ensures ∙ c.into_body.ensures.last [] r c.in_ok-batch.ensures.exact) in
    let spots : c.as_slice.result.now ≡ spot_of (capacity_in l.opening) l.newest (record { what = r; at = l.used; after = l.used + record_length Two r }) ∷ [] =
    c.as_slice.ensures.same ∙ c.in_ok-spots.ensures.spots ∙ ap (λ (rs : List Record). map (spot_of (capacity_in l.opening) l.newest) (laid_from l.used rs)) c.in_ok-batch.ensures.exact in
    let zero : Spot = record { file = 0; at = 0; end_file = 0 } in
    ap {B = Read} (λ (b : List ℕ). record { what = record_with c.args.head c.args.xid b; file = (slice_index_or c.as_slice.result.now 0 zero).file; at = (slice_index_or c.as_slice.result.now 0 zero).at; end_file = (slice_index_or c.as_slice.result.now 0 zero).end_file }) body
    ∙ ap {B = Read} (λ (xs : List Spot). record { what = r; file = (slice_index_or xs 0 zero).file; at = (slice_index_or xs 0 zero).at; end_file = (slice_index_or xs 0 zero).end_file }) spots

-- ---- the moments

pub returns-in_err-batch-clause-went : goal.returns-in_err-batch-clause-went
returns-in_err-batch-clause-went g c = goes_nowhere (IsLogStep c.args.log.now.opening) c.from_residual.result _

pub returns-in_err-spots-clause-went : goal.returns-in_err-spots-clause-went
returns-in_err-spots-clause-went g c =
    let is : Err c.in_err-spots.field-0.0 ≡ c.from_residual-in_err-spots.result = search (rules, c.from_residual-in_err-spots.ensures) in
    told_handed (IsLogStep c.args.log.now.opening) (Seq Spot) c.in_err-spots.field-0.0 c.from_residual-in_err-spots.result _ _ is c.in_err-spots.ensures.went

pub returns-in_err-batch-clause-drew : goal.returns-in_err-batch-clause-drew
returns-in_err-batch-clause-drew g c = draws_nothing (IsLogStep c.args.log.now.opening) (is_exact c.from_residual.result) _ _

pub returns-in_err-spots-clause-drew : goal.returns-in_err-spots-clause-drew
returns-in_err-spots-clause-drew g c =
    let is : Err c.in_err-spots.field-0.0 ≡ c.from_residual-in_err-spots.result = search (rules, c.from_residual-in_err-spots.ensures) in
    draws_handed (Seq Spot) c.in_err-spots.field-0.0 c.from_residual-in_err-spots.result _ _ _ _ is c.in_err-spots.ensures.drew

pub returns-in_err-batch-clause-stays : goal.returns-in_err-batch-clause-stays
returns-in_err-batch-clause-stays g c = told_of NoneLeaves _ _ (told_same NoneLeaves _)

pub returns-in_err-batch-clause-writes : goal.returns-in_err-batch-clause-writes
returns-in_err-batch-clause-writes g c =
    writes_err (λ areas h. IsWrittenTo areas h c.args.log.now) (λ areas h. IsWrittenTo areas h c.args.log.now) c.from_residual.result _ _ c.from_residual.ensures.0 (writes_none (λ areas h. IsWrittenTo areas h c.args.log.now) _)

pub returns-in_err-spots-clause-writes : goal.returns-in_err-spots-clause-writes
returns-in_err-spots-clause-writes g c =
    writes_err (λ areas h. IsWrittenTo areas h c.args.log.now) (λ areas h. IsWrittenTo areas h c.write_batch.new.log) c.from_residual-in_err-spots.result _ _ c.from_residual-in_err-spots.ensures.0 c.in_err-spots.ensures.writes
