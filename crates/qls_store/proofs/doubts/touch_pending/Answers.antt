use Rattle.std.proofs.Common.{◌≡◌, ℕ, true, List, Some, map, take, IfSome, sym, ap, subst, ◌∙◌}
use Rattle.std.specs.List.{AllByRecursion, slice_get}
use Rattle.qls_model.specs.Bytes.{comes_before, is_listed}
use Rattle.qls_queue.specs.Answers.{is_pending}
use Rattle.qls_journals.specs.State.{queues_of}
use Rattle.qls_store.specs.Stores.{TransactionState, XidsRise}
use Rattle.qls_store.specs.Table.{Rises, touched_by}
use Rattle.qls_store.proofs.States.{name_of}
use Rattle.qls_store.proofs.DoubtTable.{doubt_so, earlier_names, earlier_rise, names_in_order, next_touched, queue_touched, so_rises}
use Rattle.qls_store.proofs.SettledPlan.{some_queue}
use Rattle.qls_store.proofs.SettledQueues.{queue_at, some_at}
use Rattle.qls_store.proofs.doubts.touch_pending.Goals as goal

pub touch-requires-clause-rising : goal.touch-requires-clause-rising
touch-requires-clause-rising c =
    let s = c.args.journals.now in
    subst XidsRise (sym c.loop-xid.invariant) (so_rises (take c.args.at (queues_of s)) c.name_at-name.result.now (take c.loop-xid.xid-index c.as_slice-xids.result.now) s.list.entries c.requires.rising)

pub touch-requires-clause-queues : goal.touch-requires-clause-queues
touch-requires-clause-queues c =
    let s = c.args.journals.now in
    let at = c.args.at in
    let n = c.name_at-name.result.now in
    let q = queue_at s at c.requires.place in
    let is : n ≡ q.0.name = some_at (λ p. n ≡ p.name) (slice_get (queues_of s) at) q.0 q.1 (some_queue (λ p. n ≡ p.name) s at c.name_at-name.ensures.exact) in
    let before : AllByRecursion (λ r. comes_before (name_of r) n ≡ true) (take at (queues_of s)) =
    subst (λ m. AllByRecursion (λ r. comes_before (name_of r) m ≡ true) (take at (queues_of s))) (sym is) (earlier_names s c.requires.names at q.0 q.1) in
    subst (AllByRecursion (λ (t : TransactionState). Rises (λ m. m) t.queues)) (sym c.loop-xid.invariant)
    (names_in_order (take at (queues_of s)) n (earlier_rise s c.requires.names at q.0 q.1) before (take c.loop-xid.xid-index c.as_slice-xids.result.now) s.list.entries)

pub loop-xid-preserved : goal.loop-xid-preserved
loop-xid-preserved c =
    let s = c.args.journals.now in
    let at = c.args.at in
    let n = c.name_at-name.result.now in
    let q = queue_at s at c.requires.place in
    let is : n ≡ q.0.name = some_at (λ p. n ≡ p.name) (slice_get (queues_of s) at) q.0 q.1 (some_queue (λ p. n ≡ p.name) s at c.name_at-name.ensures.exact) in
    let before : AllByRecursion (λ r. comes_before (name_of r) n ≡ true) (take at (queues_of s)) =
    subst (λ m. AllByRecursion (λ r. comes_before (name_of r) m ≡ true) (take at (queues_of s))) (sym is) (earlier_names s c.requires.names at q.0 q.1) in
    c.in_ok-touch.ensures.touched ∙ ap (touched_by (Some c.xid-item.result) n) c.loop-xid.invariant
    ∙ next_touched (take at (queues_of s)) n (earlier_rise s c.requires.names at q.0 q.1) before c.as_slice-xids.result.now c.loop-xid.xid-index c.xid-item.result c.loop-xid-test.true c.xid-item.is s.list.entries

pub returns : goal.returns
returns c =
    let s = c.args.journals.now in
    let at = c.args.at in
    let n = c.name_at-name.result.now in
    let xs = c.as_slice-xids.result.now in
    let q = queue_at s at c.requires.place in
    let is : n ≡ q.0.name = some_at (λ p. n ≡ p.name) (slice_get (queues_of s) at) q.0 q.1 (some_queue (λ p. n ≡ p.name) s at c.name_at-name.ensures.exact) in
    let listed : (x : List ℕ) → is_listed x c.in_ok-pending.pending ≡ is_pending x q.0 =
    some_at (λ p. (x : List ℕ) → is_listed x c.in_ok-pending.pending ≡ is_pending x p) (slice_get (queues_of s) at) q.0 q.1
    (some_queue (λ p. (x : List ℕ) → is_listed x c.in_ok-pending.pending ≡ is_pending x p) s at c.in_ok-pending.ensures.exact) in
    record {
      touched = c.loop-xid.invariant ∙ ap (λ m. map (doubt_so (take at (queues_of s)) m (take c.loop-xid.xid-index xs)) s.list.entries) is
          ∙ queue_touched s c.requires.names at q.0 q.1 xs c.loop-xid.xid-index c.loop-xid-test.false (λ x. ap (is_listed x) c.as_slice-xids.ensures.same ∙ listed x) s.list.entries;
    }
