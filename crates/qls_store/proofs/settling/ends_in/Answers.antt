use Rattle.std.proofs.Common.{List, [], ℕ, length, IfOk, IfSome, ◌≡◌, sym, subst, ◌∙◌}
use Rattle.std.specs.List.{AllByRecursion, slice_get}
use Rattle.std.specs.List.Sorted.{IsStrictlySortedBy}
use Rattle.std.specs.Ordering.{nat_cmp}
use Rattle.std.specs.Cmp.Lexicographic.{slice_cmp}
use Rattle.std.specs.Prelude.{map}
use Rattle.qls_model.specs.Bytes.{is_listed}
use Rattle.qls_decide.specs.declared.End.{End}
use Rattle.qls_decide.specs.Ends.{end_of, planned_end}
use Rattle.qls_queue.specs.Answers.{is_pending}
use Rattle.qls_queue.specs.Records.{IsXid}
use Rattle.qls_journals.specs.Deciding.{MayCarryOut}
use Rattle.qls_journals.specs.State.{queues_of}
use Rattle.qls_store.specs.Opening.{AreItsEnds}
use Rattle.qls_store.proofs.SettledPlan.{if_there, none_planned, ok_both, ok_so, plan_decides, plan_xids, some_queue}
use Rattle.qls_store.proofs.SettledQueue.{planned_ends}
use Rattle.qls_store.proofs.settling.ends_in.Goals as goal

pub returns-then-len-eq0-clause-planned : goal.returns-then-len-eq0-clause-planned
returns-then-len-eq0-clause-planned c =
    let s = c.args.journals.now in
    let es = c.args.entries.now in
    let pending = c.in_ok-pending.pending in
    let o = slice_get (queues_of s) c.args.at in
    let none : length pending ≡ 0 = sym c.len.ensures.counted ∙ c.if-len-eq0.true in
    subst (λ ends. IfSome o (λ q. AreItsEnds es q ends)) (sym c.new.ensures.empty)
    (if_there (λ q. (x : List ℕ) → is_listed x pending ≡ is_pending x q) (λ q. AreItsEnds es q []) o (λ q there listed. none_planned es q pending none listed)
    (some_queue (λ q. (x : List ℕ) → is_listed x pending ≡ is_pending x q) s c.args.at c.in_ok-pending.ensures.exact))

pub returns-clause-planned : goal.returns-clause-planned
returns-clause-planned c =
    let s = c.args.journals.now in
    let es = c.args.entries.now in
    let pending = c.in_ok-pending.pending in
    let o = slice_get (queues_of s) c.args.at in
    ok_so (λ ends. (x : List ℕ) → end_of x ends ≡ planned_end x pending es) (λ ends. IfSome o (λ q. AreItsEnds es q ends)) c.plan_settle.result
    (λ ends each.
    if_there (λ q. (x : List ℕ) → is_listed x pending ≡ is_pending x q) (λ q. AreItsEnds es q ends) o (λ q there listed. planned_ends es q pending ends listed each)
    (some_queue (λ q. (x : List ℕ) → is_listed x pending ≡ is_pending x q) s c.args.at c.in_ok-pending.ensures.exact)) c.plan_settle.ensures.each

pub returns-clause-xids : goal.returns-clause-xids
returns-clause-xids c =
    let es = c.args.entries.now in
    let pending = c.in_ok-pending.pending in
    ok_both (λ (ends : List End). IsStrictlySortedBy (slice_cmp nat_cmp) (map (λ e. e.xid) ends)) (λ ends. (x : List ℕ) → end_of x ends ≡ planned_end x pending es) (λ ends. AllByRecursion (λ e. IsXid e.xid) ends) c.plan_settle.result
    (λ ends sorted each. plan_xids es pending ends sorted each c.in_ok-pending.ensures.xids) c.plan_settle.ensures.once_in_order c.plan_settle.ensures.each

pub returns-clause-decided : goal.returns-clause-decided
returns-clause-decided c =
    let es = c.args.entries.now in
    let pending = c.in_ok-pending.pending in
    ok_both (λ (ends : List End). IsStrictlySortedBy (slice_cmp nat_cmp) (map (λ e. e.xid) ends)) (λ ends. (x : List ℕ) → end_of x ends ≡ planned_end x pending es) (λ ends. MayCarryOut es ends) c.plan_settle.result
    (λ ends sorted each. plan_decides es pending ends sorted each) c.plan_settle.ensures.once_in_order c.plan_settle.ensures.each
