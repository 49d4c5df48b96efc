use Rattle.std.proofs.Common.{ℕ, List, ◌+◌, ◌-◌, ◌++◌, ◌∷◌, ◌∙◌, ap, sym, take, drop, arith, length-take}
use Rattle.qls_top.proofs.CutLines.{rest_waiting}
use Rattle.qls_top.specs.Cutting.{has_feed}
use Rattle.qls_top.proofs.script.Script.take_part.Goals as goal

pub returns-in_ok-add_kept-in-Some-clause-part : goal.returns-in_ok-add_kept-in-Some-clause-part
returns-in_ok-add_kept-in-Some-clause-part c =
    let s = c.self.inside in
    let at : ℕ = c.in-Some.at in
    let seen : List ℕ → List ℕ = λ (items : List ℕ). take (s.to - s.from) (drop s.from items) in
    let e = c.deref.ensures.value in
    let place = c.in-Some.ensures.place in (
      take at (seen s.piece.items),
      ap (λ v. v.waiting) (sym c.self.view_is) ∙ ap seen (sym e) ∙ place.2 ∙ ap (λ (items : List ℕ). take at (seen items) ++ 10 ∷ drop (at + 1) (seen items)) e
          ∙ ap (λ (rest : List ℕ). take at (seen s.piece.items) ++ 10 ∷ rest) (rest_waiting s.from s.to (at + 1) s.piece.items (omega (arith, place.0, length-take (s.to - s.from) (drop s.from c.deref.result.now)))),
      ap (λ (items : List ℕ). has_feed (take at (seen items))) (sym e) ∙ place.1,
      c.in_ok-add_kept-in-Some.ensures.kept ∙ ap (λ (items : List ℕ). take 2100001 (c.args.line.now.items ++ take at (seen items))) e,
    )
