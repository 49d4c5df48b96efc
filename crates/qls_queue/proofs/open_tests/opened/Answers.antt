use Rattle.std.proofs.Common.{◌≡◌, ℕ, ◌<◌, ◌^◌, List, [], ◌∷◌, ◌++◌, refl, sym, ap, ◌∙◌, subst}
use Rattle.qls_record.specs.Record.{rid_given}
use Rattle.qls_record.specs.declared.Got.{Got}
use Rattle.qls_reading.specs.ReadLogs.{AreGiven, rid_behind}
use Rattle.qls_queue.proofs.open_tests.opened.Goals as goal

given_more : (rid : ℕ) (gs : List Got) (g : Got) → AreGiven rid gs → g.head.rid ≡ rid_given (rid_behind rid gs) g.head.kind → g.head.rid < 2 ^ 62 → AreGiven rid (gs ++ g ∷ [])
given_more rid [] g a e l = (e, l, tt)
given_more rid (h ∷ gs) g a e l = (a.0, a.1, given_more h.head.rid gs g a.2 e l)

behind_more : (rid : ℕ) (gs : List Got) (g : Got) → rid_behind rid (gs ++ g ∷ []) ≡ g.head.rid
behind_more rid [] g = refl
behind_more rid (h ∷ gs) g = behind_more h.head.rid gs g

pub loop-word-preserved : goal.loop-word-preserved
loop-word-preserved g c =
    let gs : List Got = c.loop-word.reads in
    let got : Got = c.in_ok-got.got in
    let made = c.in_ok-got.ensures in
    let pushed : c.push.new.self ≡ gs ++ got ∷ [] = c.in_ok-push.ensures.pushed in
    let next : got.head.rid ≡ rid_given (rid_behind 0 gs) got.head.kind = made.next ∙ ap (λ n. rid_given n got.head.kind) c.loop-word.invariant.last in
    record {
      rid = subst (λ n. n < 2 ^ 62) (sym made.rid) made.fits;
      unended = made.unended;
      kind = made.kind;
      files = made.files;
      flushed = made.flushed;
      there = made.there;
      pool = made.pool;
      given = subst (AreGiven 0) (sym pushed) (given_more 0 gs got c.loop-word.invariant.given next made.fits);
      last = made.rid ∙ sym (ap (rid_behind 0) pushed ∙ behind_more 0 gs got);
    }
