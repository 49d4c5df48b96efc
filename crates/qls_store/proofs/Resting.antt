-- No call is made: what holds of the moments, the draws and the writes of none.
use Rattle.std.proofs.Common.{◌≡◌, Bool, true, false, List, [], length, drop, ℕ, Option, Some, None, refl, sym, ap, subst, ◌∙◌, append-nil, arith}
use Rattle.std.proofs.Math.Seq.{drop-append_seam}
use Rattle.qls_site.specs.Content.{Content, Tells, moments_since}
use Rattle.qls_meaning.specs.History.{History, FreeArea, now}
use Rattle.qls_log.specs.Leaving.{LeavesInOrder, WritesInOrder}
use Rattle.qls_log.specs.Unwritten.{history_with}
use Rattle.qls_pool.specs.Moments.{Chain, Passes}
use Rattle.qls_pool.specs.Serials.{DrawsTaken, AreDrawn, TakesNone, serials_taken}
use Rattle.qls_pool.proofs.Moments.{Passes-same}
use Rattle.qls_journals.specs.State.{JournalsState}
use Rattle.qls_journals.specs.Homes.{Homes, TakesFromHome}
use Rattle.qls_journals.specs.Moments.{LeavesDead, AreWritten}

pub since_none : (a : Content) → moments_since a a ≡ []
since_none a = ap (drop (length a.moments)) (sym (append-nil a.moments)) ∙ drop-append_seam a.moments []

pub drawn_none : (exact : Bool) (a : Option Content) (x : Option (List ℕ)) → DrawsTaken exact a a x x
drawn_none exact (Some a) (Some x) = ([], sym (append-nil x), by exact (sym (ap (serials_taken a.now) (since_none a))))
  where
    by : (exact : Bool) {taken : List ℕ} → [] ≡ taken → AreDrawn exact taken []
    by true e = e
    by false {taken} e = ([], e ∙ sym (append-nil taken), omega arith)
drawn_none exact (Some a) None = tt
drawn_none exact None (Some x) = tt
drawn_none exact None None = tt

-- nor is a number drawn where no file comes into use
pub drawn_untaken : (exact : Bool) (a b : Option Content) (x : Option (List ℕ)) → Tells TakesNone a b → DrawsTaken exact a b x x
drawn_untaken exact (Some a) (Some b) (Some x) h = ([], sym (append-nil x), by exact (sym h))
  where
    by : (exact : Bool) {taken : List ℕ} → [] ≡ taken → AreDrawn exact taken []
    by true e = e
    by false {taken} e = ([], e ∙ sym (append-nil taken), omega arith)
drawn_untaken exact (Some a) (Some b) None h = tt
drawn_untaken exact (Some a) None x h = absurd h
drawn_untaken exact None (Some b) x h = absurd h
drawn_untaken exact None None (Some x) h = tt
drawn_untaken exact None None None h = tt

-- what was drawn exactly was drawn with at most one more
pub drawn_weaken : (exact : Bool) (a b : Option Content) (x y : Option (List ℕ)) → DrawsTaken true a b x y → DrawsTaken exact a b x y
drawn_weaken exact (Some a) (Some b) (Some x) (Some y) h = (h.0, h.1, by exact h.2)
  where
    by : (exact : Bool) {taken drawn : List ℕ} → drawn ≡ taken → AreDrawn exact taken drawn
    by true e = e
    by false {taken} e = ([], e ∙ sym (append-nil taken), omega arith)
drawn_weaken exact (Some a) (Some b) (Some x) None h = tt
drawn_weaken exact (Some a) (Some b) None (Some y) h = absurd h
drawn_weaken exact (Some a) (Some b) None None h = tt
drawn_weaken exact (Some a) None (Some x) (Some y) h = tt
drawn_weaken exact (Some a) None (Some x) None h = tt
drawn_weaken exact (Some a) None None (Some y) h = absurd h
drawn_weaken exact (Some a) None None None h = tt
drawn_weaken exact None b (Some x) (Some y) h = tt
drawn_weaken exact None b (Some x) None h = tt
drawn_weaken exact None b None (Some y) h = absurd h
drawn_weaken exact None b None None h = tt

pub leaves_none : (j : JournalsState) (a : Option Content) → Tells (LeavesDead j) a a
leaves_none j None = tt
leaves_none j (Some a) = λ quiet marked whole. subst (Chain LeavesInOrder a.now) (sym (since_none a)) tt

pub pools_none : (homes : Homes) (a : Option Content) → Tells (Passes (TakesFromHome homes)) a a
pools_none homes None = tt
pools_none homes (Some a) = Passes-same (TakesFromHome homes) a a refl

with_none : (h : History) → h ≡ history_with h []
with_none h = ap (λ ms. record h { since = ms }) (sym (append-nil h.since))

-- writes are as the discipline has them, and the files of the journals are written up to their last batches still
abbrev pub Writes : JournalsState → JournalsState → Content → Content → Type 0
Writes was j old new =
    (areas : List FreeArea) (h : History) → now h ≡ old.now → AreWritten areas h was
    → WritesInOrder areas h (moments_since old new) × AreWritten areas (history_with h (moments_since old new)) j

pub writes_none : (j : JournalsState) (a : Option Content) → Tells (Writes j j) a a
writes_none j None = tt
writes_none j (Some a) = λ areas h at w. subst (λ ms. WritesInOrder areas h ms × AreWritten areas (history_with h ms) j) (sym (since_none a)) (tt, subst (λ k. AreWritten areas k j) (with_none h) w)
