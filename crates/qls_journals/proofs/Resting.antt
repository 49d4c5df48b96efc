-- A call that makes none on the site: what holds of its moments, its draws and its writes.
use Rattle.std.proofs.Common.{◌≡◌, Bool, true, false, List, [], length, drop, ℕ, Option, Some, None, IfSome, Result, Ok, Err, IfOk, refl, sym, ap, subst, ◌∙◌, append-nil, arith}
use Rattle.std.proofs.Math.Seq.{drop-append_seam}
use Rattle.qls_site.specs.Content.{Content, Tells, moments_since}
use Rattle.qls_meaning.specs.History.{History, FreeArea}
use Rattle.qls_log.specs.Leaving.{LeavesInOrder, WritesInOrder}
use Rattle.qls_log.specs.Unwritten.{history_with}
use Rattle.qls_pool.specs.Files.{OnDisk, Carries}
use Rattle.qls_pool.specs.Moments.{Chain, Passes}
use Rattle.qls_pool.specs.Serials.{DrawsTaken, AreDrawn, TakesNone, serials_taken}
use Rattle.qls_pool.proofs.Moments.{Arrives-same, Passes-same}
use Rattle.qls_journals.specs.State.{JournalsState, Fits, IsListAlive}
use Rattle.qls_journals.specs.Homes.{Homes, TakesFromHome}
use Rattle.qls_journals.specs.Moments.{IsStoreStep, Changes, LeavesDead, StaysWritten, AreWritten}

pub since_none : (a : Content) → moments_since a a ≡ []
since_none a = ap (drop (length a.moments)) (sym (append-nil a.moments)) ∙ drop-append_seam a.moments []

pub changes_none : (s : JournalsState) (a : Content) → Fits s a.now.disk → Changes s s a a
changes_none s a fits = record {
  arrives = Arrives-same IsStoreStep a a refl;
  quiet = λ q. q;
  fits = fits;
  whole = λ marked whole. whole;
  alive = λ marked whole alive. alive;
}

pub told_none : (s : JournalsState) (a : Option Content) → IfSome a (OnDisk (Fits s)) → Tells (Changes s s) a a
told_none s None fits = tt
told_none s (Some a) fits = changes_none s a fits

pub alive_none : (s : JournalsState) (a : Option Content) → Carries (IsListAlive s) (IsListAlive s) a a
alive_none s None = tt
alive_none s (Some a) = λ alive. alive

pub drawn_none : (exact : Bool) (a : Option Content) (x : Option (List ℕ)) → DrawsTaken exact a a x x
drawn_none exact (Some a) (Some x) = ([], sym (append-nil x), by exact (sym (ap (serials_taken a.now) (since_none a))))
  where
    by : (exact : Bool) {taken : List ℕ} → [] ≡ taken → AreDrawn exact taken []
    by true e = e
    by false {taken} e = ([], e ∙ sym (append-nil taken), omega arith)
drawn_none exact (Some a) None = tt
drawn_none exact None (Some x) = tt
drawn_none exact None None = tt

pub takes_none : (a : Option Content) → Tells TakesNone a a
takes_none None = tt
takes_none (Some a) = ap (serials_taken a.now) (since_none a)

pub leaves_none : (s : JournalsState) (a : Option Content) → Tells (LeavesDead s) a a
leaves_none s None = tt
leaves_none s (Some a) = λ quiet marked clean. subst (Chain LeavesInOrder a.now) (sym (since_none a)) tt

pub pools_none : (homes : Homes) (a : Option Content) → Tells (Passes (TakesFromHome homes)) a a
pools_none homes None = tt
pools_none homes (Some a) = Passes-same (TakesFromHome homes) a a refl

with_none : (h : History) → h ≡ history_with h []
with_none h = ap (λ ms. record h { since = ms }) (sym (append-nil h.since))

pub writes_none : {X E : Type 0} (r : Result X E) (after : X → JournalsState) (s : JournalsState) (a : Option Content) → IfOk r (λ x. after x ≡ s) → Tells (StaysWritten r after s) a a
writes_none r after s None e = tt
writes_none {X} {E} r after s (Some a) e = λ areas h at w.
    subst (λ ms. WritesInOrder areas h ms × IfOk r (λ x. AreWritten areas (history_with h ms) (after x))) (sym (since_none a)) (tt, by areas h w r e)
  where
    by : (areas : List FreeArea) (h : History) → AreWritten areas h s → (r : Result X E) → IfOk r (λ x. after x ≡ s) → IfOk r (λ x. AreWritten areas (history_with h []) (after x))
    by areas h w (Ok x) e = subst (λ k. AreWritten areas k (after x)) (with_none h) (subst (AreWritten areas h) (sym e) w)
    by areas h w (Err f) e = tt
