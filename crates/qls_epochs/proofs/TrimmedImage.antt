-- An image breaks no rule and means the same once a file past a reading went to its pool.
use Rattle.std.proofs.Common.{◌≡◌, ℕ, true, false, List, [], ◌∷◌, ◌++◌, map, length, refl, sym, ap, ◌∙◌, subst}
use Rattle.std.specs.List.{AllByRecursion, filter}
use Rattle.qls_record.specs.Record.{Record}
use Rattle.qls_site.specs.declared.site.Place.TheVariants.{InUse, Empty}
use Rattle.qls_site.specs.declared.site.ImageFile.{ImageFile}
use Rattle.qls_site.specs.Disk.{Image}
use Rattle.qls_meaning.specs.Journals.{Headed, Journal, is_queue, is_of, in_use, headed, by_number}
use Rattle.qls_meaning.specs.Damage.{is_pool, chain_claims, oldest_rid}
use Rattle.qls_meaning.specs.Dead.{past_files}
use Rattle.qls_meaning.specs.Meaning.{records_of, queue_of, entries_of, meaning}
use Rattle.qls_meaning.specs.Replay.{queue_after, entries_after}
use Rattle.qls_laws.specs.Undamaged.{BreaksNoRule, journal_with}
use Rattle.qls_laws.specs.Returns.{with_between, KeepsAllRules}
use Rattle.qls_laws.proofs.DeadQueue.{run}
use Rattle.qls_epochs.specs.Trims.{without_newest}
use Rattle.qls_epochs.proofs.Alls.{that_one}
use Rattle.qls_epochs.proofs.Trimmed.{newest_is, trimmed_reading, trimmed_rules, not_alone}
use Rattle.qls_epochs.proofs.Replayed.{entries_of-list}
use Rattle.qls_epochs.proofs.ByNumber.{last_of}
use Rattle.qls_epochs.proofs.OneLess.{sorted_own, GoesFrom, heads_before, goes_back}

records_stay : (j : Journal) (ps : List Headed) (f : Headed) → past_files j ≡ ps ++ f ∷ [] → records_of (without_newest j) ≡ records_of j
records_stay j ps f h = ap (map (λ r. r.what)) (trimmed_reading j ps f h)

entries_stay : (j : Journal) (ps : List Headed) (f : Headed) → past_files j ≡ ps ++ f ∷ [] → is_queue j.kind ≡ false → entries_of (without_newest j ∷ []) ≡ entries_of (j ∷ [])
entries_stay j ps f h q = entries_of-list (without_newest j) q ∙ ap (λ (rs : List Record). entries_after rs []) (records_stay j ps f h) ∙ sym (entries_of-list j q)

-- the oldest file stays where there are others
queue_stays : (j : Journal) (ps : List Headed) (f g : Headed) (gs : List Headed) → past_files j ≡ ps ++ f ∷ [] → (without_newest j).files ≡ g ∷ gs → queue_of (without_newest j) ≡ queue_of j
queue_stays j ps f g gs h e =
    let all : j.files ≡ g ∷ gs ++ f ∷ [] = newest_is j ps f h ∙ ap (λ (fs : List Headed). fs ++ f ∷ []) e in
    λ i. queue_after (records_stay j ps f h i) (record { name = j.name; last = (ap oldest_rid e ∙ sym (ap oldest_rid all)) i; messages = [] })

-- what is left of its journal
module _ (xs : List Headed) (h : Headed) (ys : List Headed) (ps : List Headed) (past : past_files (journal_with (xs ++ h ∷ ys) h) ≡ ps ++ h ∷ []) (rules : BreaksNoRule (journal_with (xs ++ h ∷ ys) h)) where
  abbrev j : Journal
  j = journal_with (xs ++ h ∷ ys) h

  abbrev own : List Headed → List Headed
  own fs = filter (is_of h.header.kind h.header.name) fs

  left_own : by_number (own xs ++ own ys) ≡ (without_newest j).files
  left_own =
      last_of (own xs) h (own ys) (without_newest j).files (sym (sorted_own xs h ys) ∙ newest_is j ps h past) (ap chain_claims (sym (newest_is j ps h past)) ∙ rules.chain)

  goes : (fs : List Headed) → (without_newest j).files ≡ fs → GoesFrom xs h ys
  goes [] e = absurd (not_alone h ps h (sym (ap (λ fs. past_files (run h.header.kind h.header.name fs)) (newest_is j ps h past ∙ ap (λ (fs : List Headed). fs ++ h ∷ []) e)) ∙ past))
  goes (g ∷ gs) e = record {
    first = g;
    rest = gs;
    left = left_own ∙ e;
    rules = subst (λ fs. BreaksNoRule (run h.header.kind h.header.name fs)) e (trimmed_rules j ps h past rules);
    queue = λ q. ap (λ fs. queue_of (run h.header.kind h.header.name fs)) (sym e) ∙ queue_stays j ps h g gs past e;
    list = λ q. ap (λ fs. entries_of (run h.header.kind h.header.name fs ∷ [])) (sym e) ∙ entries_stay j ps h past q;
  }

  pub trimmed_from : GoesFrom xs h ys
  trimmed_from = goes (without_newest j).files refl

pub trimmed_back : (before after : Image) (f : ImageFile) (part kib : ℕ) (ps : List Headed) → KeepsAllRules (with_between before f InUse after)
    → past_files (journal_with (map headed (in_use (with_between before f InUse after))) (headed f)) ≡ ps ++ headed f ∷ [] → is_pool (length f.bytes) (Empty part kib) ≡ true
    → KeepsAllRules (with_between before f (Empty part kib) after) × (meaning (with_between before f (Empty part kib) after) ≡ meaning (with_between before f InUse after))
trimmed_back before after f part kib ps k past fits =
    let xs : List Headed = map headed (in_use before) in
    let ys : List Headed = map headed (in_use after) in
    let is = heads_before before f part kib after in
    let rules : BreaksNoRule (journal_with (xs ++ headed f ∷ ys) (headed f)) =
    that_one (λ g. BreaksNoRule (journal_with (xs ++ headed f ∷ ys) g)) xs (headed f) ys (subst (λ fs. AllByRecursion (λ g. BreaksNoRule (journal_with fs g)) fs) is k.1) in
    goes_back before f part kib after k (trimmed_from xs (headed f) ys ps (ap (λ fs. past_files (journal_with fs (headed f))) (sym is) ∙ past) rules) fits
