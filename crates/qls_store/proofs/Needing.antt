-- What the first batch of a command needs: where it stops, and that it could be had.
use Rattle.std.proofs.Common.{◌≡◌, inl, inr, ℕ, true, false, List, ◌∷◌, Option, Some, sym, ap, subst, ◌∙◌}
use Rattle.std.specs.List.{slice_get}
use Rattle.qls_model.specs.Machine.{step}
use Rattle.qls_model.specs.declared.machine.PoolId.{PoolId}
use Rattle.qls_model.specs.declared.machine.Command.{Command}
use Rattle.qls_model.specs.declared.machine.Command.TheVariants as command
use Rattle.qls_record.specs.Record.{Record}
use Rattle.qls_site.specs.Content.{Content, Tells}
use Rattle.qls_site.proofs.Told.{Tells-weaken}
use Rattle.qls_filehdr.specs.declared.JournalKind.{JournalKind}
use Rattle.qls_blocks.specs.Batching.{length_of, block_length}
use Rattle.qls_journals.specs.Ends.{at_end_for, StopsAtEnd as JournalsStop, HadRoom}
use Rattle.qls_store.specs.Stores.{StoreState, state_of}
use Rattle.qls_store.specs.Homes.{homes_of, is_accepted}
use Rattle.qls_store.specs.Ends.{Need, needs_of, raises_rid, StopsAtEnd}
use Rattle.qls_store.proofs.Running.{HadFirst, whole_of}

false_true : false ≡ true → ⊥
false_true e = cc

need_is : {a b : Need} → Some a ≡ Some b → a ≡ b
need_is e = cc

module _ (s : StoreState) (c : Command) (kind : JournalKind) (name : List ℕ) (rs : List Record) (bytes : ℕ) (size : block_length (length_of rs) ≡ bytes) (rest : List Need) (needs : needs_of (state_of s) c ≡ (record { kind = kind; name = name; bytes = bytes }) ∷ rest) where
  abbrev first : Need
  first = record { kind = kind; name = name; bytes = bytes }

  stops_first : is_accepted (step (state_of s) c).1 ≡ true → (a b : Content) → JournalsStop s.journals kind name rs a b → StopsAtEnd s c a b
  stops_first accepted a b h = record {
    arrives = h.arrives;
    meets = λ u clean. inr (inr (
      0,
      record {
        need = first;
        accepted = accepted;
        there = ap (λ ns. slice_get ns 0) needs;
        spent = subst (λ n. at_end_for (homes_of s) kind name n b.now.disk ≡ true) size (h.meets u (whole_of s.journals a.now.disk clean));
      },
    ));
  }

  pub told_stops_first : is_accepted (step (state_of s) c).1 ≡ true → (a b : Option Content) → Tells (JournalsStop s.journals kind name rs) a b → Tells (StopsAtEnd s c) a b
  told_stops_first accepted a b h = Tells-weaken (JournalsStop s.journals kind name rs) (StopsAtEnd s c) a b h (stops_first accepted)

  pub had_first : ((m : List ℕ) (home : Option PoolId) → c ≡ command.Queue m home → ⊥) → (a b : Content) → (raises_rid (state_of s) c ≡ true → Rattle.qls_meaning.specs.Spent.prepare_meets_end a.now.disk ≡ true → Rattle.qls_store.specs.Stores.IsClean s a.now.disk → ⊥) → HadRoom s.journals kind name rs a b → HadFirst s c a b
  had_first made a b rid h clean (inl n) = made n.name n.home n.makes
  had_first made a b rid h clean (inr (inl n)) = rid n.raises n.spent clean
  had_first made a b rid h clean (inr (inr n)) =
      let is : first ≡ n.need = need_is (sym (ap (λ ns. slice_get ns 0) needs) ∙ n.there) in
      h (whole_of s.journals a.now.disk clean)
      (subst (λ k. at_end_for (homes_of s) kind name k a.now.disk ≡ true) (sym size) (subst (λ (k : Need). at_end_for (homes_of s) k.kind k.name k.bytes a.now.disk ≡ true) (sym is) n.spent))

  pub told_had_first : ((m : List ℕ) (home : Option PoolId) → c ≡ command.Queue m home → ⊥) → raises_rid (state_of s) c ≡ false → (a b : Option Content) → Tells (HadRoom s.journals kind name rs) a b → Tells (HadFirst s c) a b
  told_had_first made unraised a b h = Tells-weaken (HadRoom s.journals kind name rs) (HadFirst s c) a b h (λ x y k. had_first made x y (λ r m l. absurd (false_true (sym unraised ∙ r))) k)
