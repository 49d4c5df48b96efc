use Rattle.std.proofs.Common.{drop, [], ◌≡◌, true, sym, ◌∙◌, length, get_or, arith, ap}
use Rattle.std.proofs.lemmas.List.{drop_all}
use Rattle.qls_shape.specs.Tables.{numbers_of, with_numbers, is_table}
use Rattle.qls_shape.proofs.TableTrip.{numbers_of-with_numbers, outside_stays}
use Rattle.qls_shape.proofs.TableLaws.{field_width, field_within, number_fits}
use Rattle.qls_shape.proofs.layout.Layout.put_fields.Goals as goal

pub put_number-requires-clause-width : goal.put_number-requires-clause-width
put_number-requires-clause-width g c = field_width 0 c.self.inside.total c.self.inside.fields c.loop-i.i _ c.self.invariant (omega arith)

pub put_number-requires-clause-room : goal.put_number-requires-clause-room
put_number-requires-clause-room g c =
    let within = field_within 0 c.self.inside.total c.self.inside.fields c.loop-i.i (record { at = 0; width = 0 }) c.self.invariant (omega arith) in
    omega (arith, within, ap (λ t. t.total) c.self.view_is)

pub put_number-requires-clause-fits : goal.put_number-requires-clause-fits
put_number-requires-clause-fits g c = number_fits c.self.inside.fields c.args.values.now c.loop-i.i (record { at = 0; width = 0 }) (rw (ap (λ t. t.fields) c.self.view_is) c.requires.fit) (omega arith) (omega arith)

pub returns-clause-got : goal.returns-clause-got
returns-clause-got g c =
    let t = c.args.self.now in
    let order : is_table t.total t.fields ≡ true = ap (λ t. is_table t.total t.fields) (sym c.self.view_is) ∙ c.self.invariant in
    let size : length t.fields ≡ g.row.N = ap (λ t. length t.fields) (sym c.self.view_is) ∙ c.self.told in
    let none : drop c.loop-i.i c.self.inside.fields ≡ [] = drop_all c.loop-i.i c.self.inside.fields (omega arith) in
    let put : c.loop-i.into ≡ with_numbers t.fields c.args.values.now c.args.into.now =
    sym (ap (λ l. with_numbers l (drop c.loop-i.i c.args.values.now) c.loop-i.into) none)
    ∙ c.loop-i.invariant.left
    ∙ ap (λ t. with_numbers t.fields c.args.values.now c.args.into.now) c.self.view_is in
    ap (numbers_of t.fields) put
    ∙ numbers_of-with_numbers 0 t.total t.fields c.args.values.now c.args.into.now order (omega arith) c.requires.fit c.requires.room

pub returns-clause-others : goal.returns-clause-others
returns-clause-others g c i outside =
    let t = c.args.self.now in
    let order : is_table t.total t.fields ≡ true = ap (λ t. is_table t.total t.fields) (sym c.self.view_is) ∙ c.self.invariant in
    let none : drop c.loop-i.i c.self.inside.fields ≡ [] = drop_all c.loop-i.i c.self.inside.fields (omega arith) in
    let put : c.loop-i.into ≡ with_numbers t.fields c.args.values.now c.args.into.now =
    sym (ap (λ l. with_numbers l (drop c.loop-i.i c.args.values.now) c.loop-i.into) none)
    ∙ c.loop-i.invariant.left
    ∙ ap (λ t. with_numbers t.fields c.args.values.now c.args.into.now) c.self.view_is in
    ap (λ l. get_or l i 0) put
    ∙ outside_stays 0 t.total t.fields c.args.values.now c.args.into.now i order c.requires.room outside
