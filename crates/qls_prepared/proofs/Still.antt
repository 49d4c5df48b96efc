-- Where the list's oldest file isn't dead, no file goes back.
use Rattle.std.proofs.Common.{◌≡◌, ℕ, Bool, true, false, cond, nat_lt, List, [], ◌∷◌, Option, Some, None, IfSome, Result, Ok, refl, sym, ap, ◌∙◌, subst}
use Rattle.qls_site.specs.Content.{Moment, Content, Tells}
use Rattle.qls_decide.specs.declared.ListEntry.{ListEntry}
use Rattle.qls_filehdr.specs.declared.JournalKind.TheVariants as journal
use Rattle.qls_enqmap.specs.declared.Held.{Held}
use Rattle.qls_meaning.specs.Dead.{has_dead_oldest}
use Rattle.qls_meaning.specs.Orderly.{journal_on}
use Rattle.qls_pool.specs.Files.{HeadedFile, OnDisk}
use Rattle.qls_log.specs.Logs.{LogState, IsSound}
use Rattle.qls_log.specs.Standing.{LogThere}
use Rattle.qls_log.specs.Returning.{GivesAll, before_number, released, with_backs}
use Rattle.qls_prepared.specs.Lists.{PreparedState, IsOwnLog, IsReadSo, AliveBy, StaysStill}
use Rattle.qls_prepared.specs.Lists as lists
use Rattle.qls_prepared.specs.Releasing.{first_needed}
use Rattle.qls_prepared.proofs.GoneDead.{Ready, above_all, has_dead, lesser}
use Rattle.qls_prepared.proofs.Released.{flushed_released, whole_of, own_by}

module _ (l : LogState) (es : List ListEntry) (hs : List Held) (kind : l.opening.kind ≡ journal.List) (flushed : l.unsynced ≡ []) where
  abbrev first : ℕ
  first = first_needed l hs

  none_below : (older : ℕ) (fs : List HeadedFile) (m : Moment) → Ready l es hs older fs m.disk → has_dead_oldest (journal_on m.disk l.opening.kind l.opening.name) ≡ false → before_number first fs ≡ []
  none_below older [] m r alive = refl
  none_below older (f ∷ []) m r alive = refl
  none_below older (f ∷ g ∷ fs) m r alive = by (nat_lt f.header.number first) refl
    where
      clash : true ≡ false → ⊥
      clash e = cc

      by : (c : Bool) → nat_lt f.header.number first ≡ c → cond c (f ∷ before_number first (g ∷ fs)) [] ≡ []
      by true e = absurd (clash (sym (has_dead l es hs kind flushed older f g fs m (above_all l es hs kind flushed f (lesser f.header.number first e)) r) ∙ alive))
      by false e = refl

  none_released : IsSound l → (x : Content) → LogThere l x.now.disk → IsReadSo l es hs x.now.disk → has_dead_oldest (journal_on x.now.disk l.opening.kind l.opening.name) ≡ false → released first l ≡ []
  none_released sound x there whole alive =
      flushed_released first l flushed ∙ none_below l.older l.files x.now (record { sound = sound; there = there; whole = whole }) alive

module _ (p : PreparedState) (l : LogState) (of : p.log ≡ Some l) (s : lists.IsSound p) where
  own : IsOwnLog l
  own = own_by p.log l of s.log

  still : (x y : Content) → LogThere l x.now.disk → y ≡ with_backs (released (first_needed l p.held) l) x → StaysStill p x y
  still x y there t = λ clean.
      t ∙ ap (λ (ds : List HeadedFile). with_backs ds x)
      (none_released l p.entries p.held own.kind own.flushed own.sound x there (whole_of p l x.now.disk of clean.whole) (subst (λ o. AliveBy o x.now.disk) of clean.alive))

  pub told_still : (v : Unit {0}) (x y : Option Content) → IfSome x (OnDisk (LogThere l)) → Tells (GivesAll (released (first_needed l p.held) l) (Ok v)) x y → Tells (StaysStill p) x y
  told_still v None None there t = tt
  told_still v None (Some y) there t = absurd t
  told_still v (Some x) None there t = absurd t
  told_still v (Some x) (Some y) there t = still x y there t

-- no call was made
pub told_none_still : (p : PreparedState) (x : Option Content) → Tells (StaysStill p) x x
told_none_still p None = tt
told_none_still p (Some x) = λ clean. refl
