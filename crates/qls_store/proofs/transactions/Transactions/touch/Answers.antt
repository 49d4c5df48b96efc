use Rattle.std.proofs.Common.{◌≡◌, List, ℕ, ◌<◌, set, sym, ap, subst, ◌∙◌}
use Rattle.std.specs.List.{AllByRecursion}
use Rattle.qls_store.specs.Stores.{TransactionState, XidsRise}
use Rattle.qls_store.specs.Table.{Rises, with_queue, change, touched_by}
use Rattle.qls_store.proofs.Placed.{changed_in, unchanged_in, within_in, names_at, name_of, xid_of}
use Rattle.qls_store.proofs.Keys.{at_within}
use Rattle.qls_store.proofs.transactions.Transactions.touch.Goals as goal

pub returns : goal.returns
returns c =
    let x = c.in-Some.xid in
    let ts = c.self.inside.items.items in
    let t = c.behind-self.inside in
    let name = c.args.name in
    let rising : XidsRise ts = subst XidsRise (sym c.self.view_is) c.requires.rising in
    let one : List (List ℕ) → TransactionState = λ ns. record { xid = t.xid; phase = t.phase; queues = ns } in
    record {
      touched = ap (λ ns. set ts c.in-Ok.place (one ns)) c.in_ok-insert_name.ensures.inserted
          ∙ ap (λ u. set ts c.in-Ok.place (with_queue name u)) c.behind-self.view_is
          ∙ changed_in x c.deref.result.now ts c.deref.ensures.value c.in-Ok.place (with_queue name) rising c.in-Ok.ensures.place c.index_mut.result.now c.index_mut.ensures.value
          ∙ ap (change x (with_queue name)) c.self.view_is
          ∙ sym (ap (λ o. touched_by o name c.args.self.now) c.in-Some.is);
    }

pub returns-in_default-place_of : goal.returns-in_default-place_of
returns-in_default-place_of c =
    let x = c.in-Some.xid in
    let ts = c.self.inside.items.items in
    record {
      touched = subst (λ us. us ≡ change x (with_queue c.args.name) us) c.self.view_is (unchanged_in x c.deref.result.now ts c.deref.ensures.value c.in_default-place_of.field-0 (with_queue c.args.name) c.in_default-place_of.ensures.place)
          ∙ sym (ap (λ o. touched_by o c.args.name c.args.self.now) c.in-Some.is);
    }

pub index_mut-requires : goal.index_mut-requires
index_mut-requires c = subst (λ n. c.in-Ok.place < n) c.deref.ensures.len (at_within xid_of c.in-Some.xid c.deref.result.now c.in-Ok.place c.in-Ok.ensures.place)

pub insert_name-requires : goal.insert_name-requires
insert_name-requires c =
    let ts = c.self.inside.items.items in
    let names : AllByRecursion (λ t. Rises name_of t.queues) ts = subst (AllByRecursion (λ t. Rises name_of t.queues)) (sym c.self.view_is) c.requires.queues in
    let here = within_in c.in-Some.xid c.deref.result.now ts c.deref.ensures.value c.in-Ok.place c.in-Ok.ensures.place in
    record {
      rising = subst (λ (t : TransactionState). Rises name_of t.queues) (sym c.behind-self.view_is) (names_at ts c.in-Ok.place c.index_mut.result.now here c.index_mut.ensures.value names);
    }
