-- An image breaks no rule and means the same once a dead oldest file went back to its pool.
use Rattle.std.proofs.Common.{◌≡◌, ℕ, true, List, [], ◌∷◌, ◌++◌, map, length, sym, ap, ◌∙◌, subst}
use Rattle.std.specs.List.{filter}
use Rattle.qls_site.specs.declared.site.Place.TheVariants.{InUse, Empty}
use Rattle.qls_site.specs.declared.site.ImageFile.{ImageFile}
use Rattle.qls_site.specs.Disk.{Image}
use Rattle.qls_filehdr.specs.declared.JournalKind.{JournalKind}
use Rattle.qls_meaning.specs.Journals.{Headed, Journal, is_of, in_use, headed}
use Rattle.qls_meaning.specs.Damage.{is_pool}
use Rattle.qls_meaning.specs.Dead.{has_dead_oldest, first_is_dead}
use Rattle.qls_meaning.specs.Meaning.{queue_of, entries_of, meaning}
use Rattle.qls_laws.specs.Undamaged.{journal_with}
use Rattle.qls_laws.specs.Returns.{with_between, KeepsAllRules}
use Rattle.qls_laws.proofs.DeadQueue.{run, only_one}
use Rattle.qls_epochs.specs.Whole.{IsWhole, MayGoBack}
use Rattle.qls_epochs.proofs.Oldest.{part}
use Rattle.qls_epochs.proofs.Dead.{queue_stays, entries_stay}
use Rattle.qls_epochs.proofs.ByNumber.{first_of}
use Rattle.qls_epochs.proofs.OneLess.{sorted_own, GoesFrom, heads_before, goes_back}

-- what is left of its journal
module _ (xs : List Headed) (h : Headed) (ys : List Headed) where
  abbrev j : Journal
  j = journal_with (xs ++ h ∷ ys) h

  abbrev kind : JournalKind
  kind = h.header.kind

  abbrev name : List ℕ
  name = h.header.name

  abbrev own : List Headed → List Headed
  own fs = filter (is_of kind name) fs

  pub dead_from : (rest : List Headed) → j.files ≡ h ∷ rest → has_dead_oldest j ≡ true → IsWhole j → GoesFrom xs h ys
  dead_from [] oldest dead w = absurd (only_one kind name h (sym (ap (λ fs. first_is_dead (run kind name fs) fs) oldest) ∙ dead))
  dead_from (g ∷ gs) oldest dead w =
      let v : IsWhole (run kind name (h ∷ g ∷ gs)) = subst (λ fs. IsWhole (run kind name fs)) oldest w in
      let d = sym (ap (λ fs. first_is_dead (run kind name fs) fs) oldest) ∙ dead in
      record {
        first = g;
        rest = gs;
        left = first_of (own xs) h (own ys) (g ∷ gs) (sym (sorted_own xs h ys) ∙ oldest) v.rules.chain;
        rules = (part kind name h g gs v).whole.rules;
        queue = λ q. queue_stays kind name h g gs v d q ∙ ap (λ fs. queue_of (run kind name fs)) (sym oldest);
        list = λ q. entries_stay kind name h g gs v d q ∙ ap (λ fs. entries_of (run kind name fs ∷ [])) (sym oldest);
      }

pub dead_back : (before after : Image) (f : ImageFile) (part kib : ℕ) → KeepsAllRules (with_between before f InUse after) → MayGoBack (with_between before f InUse after) (headed f)
    → is_pool (length f.bytes) (Empty part kib) ≡ true
    → KeepsAllRules (with_between before f (Empty part kib) after) × (meaning (with_between before f (Empty part kib) after) ≡ meaning (with_between before f InUse after))
dead_back before after f part kib k m fits =
    let xs : List Headed = map headed (in_use before) in
    let ys : List Headed = map headed (in_use after) in
    let at : List Headed → Journal = λ fs. journal_with fs (headed f) in
    let is = heads_before before f part kib after in
    goes_back before f part kib after k
    (dead_from xs (headed f) ys m.rest (ap (λ fs. (at fs).files) (sym is) ∙ m.oldest) (ap (λ fs. has_dead_oldest (at fs)) (sym is) ∙ m.dead) (subst (λ fs. IsWhole (at fs)) is m.whole)) fits
