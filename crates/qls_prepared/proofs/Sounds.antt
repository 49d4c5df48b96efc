-- The list is sound behind each of its batches.
use Rattle.std.proofs.Common.{◌≡◌, ℕ, ◌+◌, ◌^◌, ◌<◌, ◌≤◌, Bool, true, false, ◌==◌, eqb, List, [], ◌∷◌, ◌++◌, Option, Some, None, refl, sym, ◌∙◌, subst, arith}
use Rattle.std.specs.List.{AllByRecursion}
use Rattle.std.proofs.lemmas.Bool.{eqb-true}
use Rattle.qls_model.specs.declared.machine.PoolId.{PoolId}
use Rattle.qls_record.specs.Record.{Record}
use Rattle.qls_decide.specs.declared.ListEntry.{ListEntry}
use Rattle.qls_decide.specs.declared.ListState.{ListState}
use Rattle.qls_decide.specs.Entries.{entry_of, with_entry}
use Rattle.qls_enqmap.specs.declared.Held.{Held}
use Rattle.qls_enqmap.specs.Records.{AllBelow}
use Rattle.qls_blocks.specs.Batching.{last_rid}
use Rattle.qls_log.specs.Logs.{LogState}
use Rattle.qls_prepared.specs.Lists.{PreparedState, IsSound, IsOwn, IsBegun, IsXid, rid_of, rid_of_log}
use Rattle.qls_prepared.specs.Records.{without_entries}
use Rattle.qls_prepared.specs.Ending.{ended_held}
use Rattle.qls_prepared.specs.Writing.{IsOwnBehind}
use Rattle.qls_prepared.proofs.Kept.{all_kept, all_with, all_found, differ_kept, differ_with, differ_decided, rise_with, rise_kept}
use Rattle.qls_prepared.proofs.HeldBehind.{below_more, below_end, below_ended}

-- ---- the log behind a batch

pub rid_behind : (rid : ℕ) (rs : List Record) (o : Option LogState) → IsOwnBehind rid rs o → rid_of_log o ≡ last_rid rid rs
rid_behind rid rs None h = absurd h
rid_behind rid rs (Some l) h = h.1

own_of : (rid : ℕ) (rs : List Record) (o : Option LogState) → IsOwnBehind rid rs o → IsOwn o
own_of rid rs None h = absurd h
own_of rid rs (Some l) h = h.0

begun_of : (rid : ℕ) (rs : List Record) (o : Option LogState) (es : List ListEntry) → IsOwnBehind rid rs o → IsBegun o es
begun_of rid rs None es h = absurd h
begun_of rid rs (Some l) es h = tt

-- ---- the entries

all_more : (m n : ℕ) (es : List ListEntry) → m ≤ n → AllByRecursion (λ e. e.rid ≤ m) es → AllByRecursion (λ e. e.rid ≤ n) es
all_more m n [] l h = tt
all_more m n (e ∷ es) l h = let here = h.0 in (omega (arith, here, l), all_more m n es l h.1)

not_equal : (m n : ℕ) → m < n → (m == n) ≡ false
not_equal m n l = by (eqb m n) refl
  where
    by : (b : Bool) → eqb m n ≡ b → b ≡ false
    by false e = refl
    by true e = absurd (omega (arith, l, eqb-true m n e))

apart_from : (n rid : ℕ) (es : List ListEntry) → n < rid → AllByRecursion (λ e. e.rid ≤ n) es → AllByRecursion (λ f. (f.rid == rid) ≡ false) es
apart_from n rid [] l h = tt
apart_from n rid (e ∷ es) l h = let here = h.0 in (not_equal e.rid rid (omega (arith, here, l)), apart_from n rid es l h.1)

abbrev pub list_with : PoolId → Option LogState → List ListEntry → List Held → PreparedState
list_with home log es hs = record { home = home; log = log; entries = es; held = hs; ended = false }

module _ (old : PreparedState) (sound : IsSound old) (rs : List Record) (log : Option LogState) (own : IsOwnBehind (rid_of old) rs log) where
  pub sound_entered : (e : ListEntry) (h : Held) → last_rid (rid_of old) rs ≡ rid_of old + 1 → rid_of old + 1 < 2 ^ 62 → IsXid e.xid → e.rid ≡ rid_of old + 1 → h.rid ≡ e.rid
      → IsSound (list_with old.home log (with_entry e old.entries) (old.held ++ h ∷ []))
  sound_entered e h last fits xid is same =
      let rid : rid_of_log log ≡ rid_of old + 1 = rid_behind (rid_of old) rs log own ∙ last in
      record {
        home = sound.home;
        log = own_of (rid_of old) rs log own;
        begun = begun_of (rid_of old) rs log (with_entry e old.entries) own;
        rid = subst (λ n. n < 2 ^ 62) (sym rid) fits;
        rising = rise_with e old.entries sound.rising;
        xids = all_with (λ f. IsXid f.xid) e old.entries xid sound.xids;
        below = all_with (λ f. f.rid ≤ rid_of_log log) e old.entries (omega (arith, is, rid)) (all_more (rid_of old) (rid_of_log log) old.entries (omega (arith, rid)) sound.below);
        apart = differ_with e old.entries (apart_from (rid_of old) e.rid old.entries (omega (arith, is)) sound.below) sound.apart;
        held = below_end (rid_of_log log + 1) old.held h (below_more (rid_of old + 1) (rid_of_log log + 1) old.held (omega (arith, rid)) sound.held) (omega (arith, same, is, rid));
      }

  pub sound_decided : (e : ListEntry) (x : List ℕ) (s : ListState) → last_rid (rid_of old) rs ≡ rid_of old → entry_of x old.entries ≡ Some e
      → IsSound (list_with old.home log (with_entry (record e { state = s }) old.entries) old.held)
  sound_decided e x s last found =
      let rid : rid_of_log log ≡ rid_of old = rid_behind (rid_of old) rs log own ∙ last in
      let f : ListEntry = record e { state = s } in
      record {
        home = sound.home;
        log = own_of (rid_of old) rs log own;
        begun = begun_of (rid_of old) rs log (with_entry f old.entries) own;
        rid = subst (λ n. n < 2 ^ 62) (sym rid) sound.rid;
        rising = rise_with f old.entries sound.rising;
        xids = all_with (λ g. IsXid g.xid) f old.entries (all_found (λ g. IsXid g.xid) x e old.entries sound.xids found) sound.xids;
        below = subst (λ n. AllByRecursion (λ g. g.rid ≤ n) (with_entry f old.entries)) (sym rid)
            (all_with (λ g. g.rid ≤ rid_of old) f old.entries (all_found (λ g. g.rid ≤ rid_of old) x e old.entries sound.below found) sound.below);
        apart = differ_decided x s e old.entries sound.rising found sound.apart;
        held = subst (λ n. AllBelow (n + 1) old.held) (sym rid) sound.held;
      }

  pub sound_ended : (xs : List (List ℕ)) → last_rid (rid_of old) rs ≡ rid_of old → IsSound (list_with old.home log (without_entries xs old.entries) (ended_held xs old.entries old.held))
  sound_ended xs last =
      let rid : rid_of_log log ≡ rid_of old = rid_behind (rid_of old) rs log own ∙ last in
      record {
        home = sound.home;
        log = own_of (rid_of old) rs log own;
        begun = begun_of (rid_of old) rs log (without_entries xs old.entries) own;
        rid = subst (λ n. n < 2 ^ 62) (sym rid) sound.rid;
        rising = rise_kept _ old.entries sound.rising;
        xids = all_kept (λ g. IsXid g.xid) _ old.entries sound.xids;
        below = subst (λ n. AllByRecursion (λ g. g.rid ≤ n) (without_entries xs old.entries)) (sym rid) (all_kept (λ g. g.rid ≤ rid_of old) _ old.entries sound.below);
        apart = differ_kept _ old.entries sound.apart;
        held = subst (λ n. AllBelow (n + 1) (ended_held xs old.entries old.held)) (sym rid) (below_ended (rid_of old + 1) xs old.entries old.held sound.held);
      }
