use Rattle.std.proofs.Common.{Ok, Err}
use Rattle.qls_pool.specs.Moments.{Passes}
use Rattle.qls_top.specs.Moments.{AddsAnswer, AnswersQuietly, IsRunStep}
use Rattle.qls_pool.specs.Serials.{TakesNone}
use Rattle.qls_top.proofs.Lines.{told_answers, of_answers}
use Rattle.qls_top.proofs.line.send_text.Goals as goal

pub returns-in-Ok-clause-quiet : goal.returns-in-Ok-clause-quiet
returns-in-Ok-clause-quiet g c = of_answers c.args.text.now AnswersQuietly (λ x y a. a.quietly) _ _ (told_answers c.args.text.now (Ok tt) _ _ c.requires.differ c.in-Ok.ensures.told)

pub returns-in-Ok-clause-none : goal.returns-in-Ok-clause-none
returns-in-Ok-clause-none g c = of_answers c.args.text.now TakesNone (λ x y a. a.none) _ _ (told_answers c.args.text.now (Ok tt) _ _ c.requires.differ c.in-Ok.ensures.told)

pub returns-in-Err-clause-told : goal.returns-in-Err-clause-told
returns-in-Err-clause-told g c = of_answers c.args.text.now (Passes IsRunStep) (λ x y a. a.passes) _ _ (told_answers c.args.text.now (Err c.in-Err.error) _ _ c.requires.differ c.in-Err.ensures.told)

pub returns-in-Err-clause-quiet : goal.returns-in-Err-clause-quiet
returns-in-Err-clause-quiet g c = of_answers c.args.text.now AnswersQuietly (λ x y a. a.quietly) _ _ (told_answers c.args.text.now (Err c.in-Err.error) _ _ c.requires.differ c.in-Err.ensures.told)

pub returns-in-Err-clause-none : goal.returns-in-Err-clause-none
returns-in-Err-clause-none g c = of_answers c.args.text.now TakesNone (λ x y a. a.none) _ _ (told_answers c.args.text.now (Err c.in-Err.error) _ _ c.requires.differ c.in-Err.ensures.told)

pub returns-in-Ok-clause-adds : goal.returns-in-Ok-clause-adds
returns-in-Ok-clause-adds g c = of_answers c.args.text.now (AddsAnswer c.args.text.now) (λ x y a. a.adds) _ _ (told_answers c.args.text.now (Ok tt) _ _ c.requires.differ c.in-Ok.ensures.told)

pub returns-in-Err-clause-adds : goal.returns-in-Err-clause-adds
returns-in-Err-clause-adds g c = of_answers c.args.text.now (AddsAnswer c.args.text.now) (λ x y a. a.adds) _ _ (told_answers c.args.text.now (Err c.in-Err.error) _ _ c.requires.differ c.in-Err.ensures.told)
