-- The list behind a batch that was written.
use Rattle.std.proofs.Common.{◌≡◌, ℕ, ◌+◌, Bool, true, false, List, [], ◌∷◌, ◌++◌, Option, Some, None, refl, sym, subst}
use Rattle.qls_model.specs.declared.machine.PoolId.{PoolId}
use Rattle.qls_record.specs.Record.{Record}
use Rattle.qls_site.specs.Content.{Content, Tells}
use Rattle.qls_decide.specs.declared.ListEntry.{ListEntry}
use Rattle.qls_decide.specs.declared.ListState.TheVariants.{Prepared}
use Rattle.qls_decide.specs.Entries.{entry_of, state_of, with_entry}
use Rattle.qls_enqmap.specs.declared.Held.{Held}
use Rattle.qls_meaning.specs.Replay.{decision}
use Rattle.qls_log.specs.Logs.{LogState}
use Rattle.qls_prepared.specs.Lists.{PreparedState, IsSound, IsXid, XidsRise, RidsDiffer, StaysWhole, rid_of, rid_of_log}
use Rattle.qls_prepared.specs.Records.{entry_records, entered_state, decision_of, end_records, without_entries}
use Rattle.qls_prepared.specs.Table.{held_at_spot}
use Rattle.qls_prepared.specs.Ending.{ended_held}
use Rattle.qls_prepared.specs.Writing.{base_of, first_spot, SaysBy}
use Rattle.qls_prepared.proofs.Batches.{told_prepared, told_one_phase, told_decided, told_ended}
use Rattle.qls_prepared.proofs.Sounds.{list_with}

rid_base : (home : PoolId) (log : Option LogState) → rid_of_log log ≡ (base_of home log).rid
rid_base home None = refl
rid_base home (Some l) = refl

none_says : (old : Option LogState) (rs : List Record) (base : LogState) (P : Content → Content → Type 0) (a b : Option Content) → Tells (SaysBy old rs base None) a b → Tells P a b
none_says old rs base P None None s = tt
none_says old rs base P None (Some y) s = absurd s
none_says old rs base P (Some x) None s = absurd s
none_says old rs base P (Some x) (Some y) s = absurd s

-- ---- a transaction that enters

pub told_entered : (old new : PreparedState) (one_phase : Bool) (x : List ℕ) (o : Option LogState) (a b : Option Content) → IsXid x → entry_of x old.entries ≡ None
    → Tells (SaysBy old.log (entry_records (rid_of old) x one_phase) (base_of old.home old.log) o) a b → new.log ≡ o → new.entries ≡ with_entry (record { xid = x; rid = rid_of old + 1; state = entered_state one_phase }) old.entries
    → new.held ≡ old.held ++ held_at_spot (rid_of old + 1) (first_spot (base_of old.home old.log) (entry_records (rid_of old) x one_phase)) ∷ [] → Tells (StaysWhole old new) a b
told_entered old new one_phase x None a b xid none s log entries held = none_says old.log (entry_records (rid_of old) x one_phase) (base_of old.home old.log) (StaysWhole old new) a b s
told_entered old new true x (Some l) a b xid none s log entries held = told_one_phase old new (rid_of old) x (base_of old.home old.log) l a b (rid_base old.home old.log) xid none s log entries held
told_entered old new false x (Some l) a b xid none s log entries held = told_prepared old new (rid_of old) x (base_of old.home old.log) l a b (rid_base old.home old.log) xid none s log entries held

-- ---- an entry that is decided

pub told_decision : (old new : PreparedState) (x : List ℕ) (commit : Bool) (e : ListEntry) (o : Option LogState) (a b : Option Content) → XidsRise old.entries → entry_of x old.entries ≡ Some e → state_of (entry_of x old.entries) ≡ Some Prepared
    → Tells (SaysBy old.log (decision_of (rid_of old) e.rid x commit ∷ []) (base_of old.home old.log) o) a b → new.log ≡ o → new.entries ≡ with_entry (record e { state = decision commit }) old.entries → new.held ≡ old.held → Tells (StaysWhole old new) a b
told_decision old new x commit e None a b rise found prepared s log entries held = none_says old.log (decision_of (rid_of old) e.rid x commit ∷ []) (base_of old.home old.log) (StaysWhole old new) a b s
told_decision old new x commit e (Some l) a b rise found prepared s log entries held = told_decided old new (rid_of old) x commit e (base_of old.home old.log) l a b rise found prepared s log entries held

-- ---- entries that end

pub told_ends : (old new : PreparedState) (xs : List (List ℕ)) (o : Option LogState) (a b : Option Content) → XidsRise old.entries → RidsDiffer old.entries → Tells (SaysBy old.log (end_records (rid_of old) xs) (base_of old.home old.log) o) a b → new.log ≡ o
    → new.entries ≡ without_entries xs old.entries → new.held ≡ ended_held xs old.entries old.held → Tells (StaysWhole old new) a b
told_ends old new xs None a b rise differ s log entries held = none_says old.log (end_records (rid_of old) xs) (base_of old.home old.log) (StaysWhole old new) a b s
told_ends old new xs (Some l) a b rise differ s log entries held = told_ended old new (rid_of old) xs (base_of old.home old.log) l a b rise differ s log entries held

-- ---- the same list

pub list_is : (home : PoolId) (log : Option LogState) (es fs : List ListEntry) (hs gs : List Held) → es ≡ fs → hs ≡ gs → IsSound (list_with home log fs gs) → IsSound (list_with home log es hs)
list_is home log es fs hs gs e h s = subst (λ (xs : List ListEntry). IsSound (list_with home log xs hs)) (sym e) (subst (λ (ys : List Held). IsSound (list_with home log fs ys)) (sym h) s)
