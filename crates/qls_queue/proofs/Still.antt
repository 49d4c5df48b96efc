-- Where a queue's oldest file isn't dead, no file goes back.
use Rattle.std.proofs.Common.{◌≡◌, ℕ, Bool, true, false, cond, nat_lt, List, [], ◌∷◌, Option, Some, None, IfSome, Result, Ok, refl, sym, ap, ◌∙◌}
use Rattle.qls_site.specs.Content.{Moment, Content, Tells}
use Rattle.qls_filehdr.specs.declared.JournalKind.TheVariants.{Queue}
use Rattle.qls_enqmap.specs.declared.Held.{Held}
use Rattle.qls_meaning.specs.Dead.{has_dead_oldest}
use Rattle.qls_meaning.specs.Orderly.{journal_on}
use Rattle.qls_pool.specs.Files.{HeadedFile, OnDisk}
use Rattle.qls_log.specs.Logs.{LogState, IsSound}
use Rattle.qls_log.specs.Standing.{LogThere}
use Rattle.qls_log.specs.Returning.{GivesAll, before_number, released, with_backs}
use Rattle.qls_queue.specs.Live.{live}
use Rattle.qls_queue.specs.Releasing.{IsQueueClean, StaysStill}
use Rattle.qls_queue.proofs.GoneDead.{Ready, needed, above_all, has_dead, lesser}
use Rattle.qls_queue.proofs.Released.{flushed_released}

module _ (l : LogState) (hs : List Held) (b : Bool) (kind : l.opening.kind ≡ Queue) (flushed : l.unsynced ≡ []) where
  abbrev first : ℕ
  first = needed l hs b kind flushed

  none_below : (older : ℕ) (fs : List HeadedFile) (m : Moment) → Ready l hs b older fs m.disk → has_dead_oldest (journal_on m.disk l.opening.kind l.opening.name) ≡ false → before_number first fs ≡ []
  none_below older [] m r alive = refl
  none_below older (f ∷ []) m r alive = refl
  none_below older (f ∷ g ∷ fs) m r alive = by (nat_lt f.header.number first) refl
    where
      clash : true ≡ false → ⊥
      clash e = cc

      by : (c : Bool) → nat_lt f.header.number first ≡ c → cond c (f ∷ before_number first (g ∷ fs)) [] ≡ []
      by true e = absurd (clash (sym (has_dead l hs b kind flushed older f g fs m (above_all l hs b kind flushed f (lesser f.header.number first e)) r) ∙ alive))
      by false e = refl

  still : (sound : IsSound l) (x y : Content) → LogThere l x.now.disk → y ≡ with_backs (released first l) x → StaysStill (live l hs b) x y
  still sound x y there t = λ clean.
      let none : released first l ≡ [] = flushed_released first l flushed ∙ none_below l.older l.files x.now (record { sound = sound; there = there; whole = clean.whole }) clean.alive in
      t ∙ ap (λ (ds : List HeadedFile). with_backs ds x) none

  pub told_still : IsSound l → (v : Unit {0}) (x y : Option Content) → IfSome x (OnDisk (LogThere l)) → Tells (GivesAll (released first l) (Ok v)) x y → Tells (StaysStill (live l hs b)) x y
  told_still sound v None None there t = tt
  told_still sound v None (Some y) there t = absurd t
  told_still sound v (Some x) None there t = absurd t
  told_still sound v (Some x) (Some y) there t = still sound x y there t
