use Rattle.std.proofs.Common.{◌≡◌, true, arith, rules, sym, ◌∙◌, ap, take_all}
use Rattle.qls_shape.specs.Tables.{numbers_of, with_numbers, is_table}
use Rattle.qls_shape.proofs.TableTrip.{with_numbers-numbers_of}
use Rattle.qls_shape.proofs.TableLaws.{field_width, field_within, got_more}
use Rattle.qls_shape.proofs.layout.Layout.get_fields.Goals as goal

pub number-requires-clause-width : goal.number-requires-clause-width
number-requires-clause-width g c = field_width 0 c.self.inside.total c.self.inside.fields c.loop-i.i _ c.self.invariant (omega arith)

pub number-requires-clause-room : goal.number-requires-clause-room
number-requires-clause-room g c =
    let within = field_within 0 c.self.inside.total c.self.inside.fields c.loop-i.i (record { at = 0; width = 0 }) c.self.invariant (omega arith) in
    let same = c.self.view_is in
    omega (arith, within, ap (λ t. t.total) same)

pub loop-i-preserved : goal.loop-i-preserved
loop-i-preserved g c = record { size = search rules; done = got_more c.loop-i.numbers c.self.inside.fields c.args.from.now c.loop-i.i _ (record { at = 0; width = 0 }) (omega arith) (omega arith) c.loop-i.invariant.done c.number.ensures.exact }

pub returns-clause-exact : goal.returns-clause-exact
returns-clause-exact g c =
    sym (take_all c.loop-i.i c.loop-i.numbers (omega arith))
    ∙ c.loop-i.invariant.done
    ∙ ap (λ l. numbers_of l c.args.from.now) (take_all c.loop-i.i c.self.inside.fields (omega arith) ∙ ap (λ t. t.fields) c.self.view_is)

pub returns-clause-put_back : goal.returns-clause-put_back
returns-clause-put_back g c =
    let t = c.args.self.now in
    let order : is_table t.total t.fields ≡ true = ap (λ t. is_table t.total t.fields) (sym c.self.view_is) ∙ c.self.invariant in
    ap (λ l. with_numbers t.fields l c.args.from.now) (returns-clause-exact g c)
    ∙ with_numbers-numbers_of 0 t.total t.fields c.args.from.now order c.requires.room (search rules)
