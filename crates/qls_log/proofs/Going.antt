-- Moments of calls in a row, by the answer of the last one.
use Rattle.std.proofs.Common.{◌≡◌, ◌⊎◌, inl, inr, ℕ, zero, suc, ◌+◌, ◌<◌, ◌≤◌, ◌-◌, Bool, true, List, [], ◌∷◌, length, drop, Option, Some, None, Result, Ok, Err, IfSome, refl, sym, ap, ◌∙◌, subst, arith}
use Rattle.std.proofs.lemmas.Bool.{cases_lt}
use Rattle.qls_site.specs.Content.{Moment, Content, Tells}
use Rattle.qls_site.proofs.Told.{Tells-then, Tells-weaken}
use Rattle.qls_pool.specs.Pools.{PoolState}
use Rattle.qls_pool.specs.Files.{HeadedFile, OnDisk, IsPoolOf, IsWholePool}
use Rattle.qls_pool.specs.Moments.{Passes, Arrives}
use Rattle.qls_pool.specs.Next.{IsEpochDue}
use Rattle.qls_pool.specs.Serials.{DrawsTaken}
use Rattle.qls_pool.proofs.Moments.{Arrives-then, Arrives-passes, Arrives-weaken, Passes-of, Passes-weaken, told_same}
use Rattle.qls_pool.proofs.Serials.{drawn_then, drawn_none, tells_none}
use Rattle.std.specs.List.{AllByRecursion}
use Rattle.qls_site.specs.Disk.{Disk}
use Rattle.qls_meaning.specs.Journals.{Headed}
use Rattle.qls_meaning.specs.Dead.{newest_number}
use Rattle.qls_filehdr.specs.declared.FileHeader.{FileHeader}
use Rattle.qls_log.specs.Logs.{LogState, IsSound, IsOfOpening, EndBefore, NumberedFrom, capacity_in}
use Rattle.qls_log.specs.Standing.{files_on, AreThoseFiles, LogThere}
use Rattle.qls_log.proofs.Gains.{below_those}
use Rattle.qls_log.specs.declared.opening.Opening.{Opening}
use Rattle.qls_log.specs.declared.fault.LogError.{LogError}
use Rattle.qls_log.specs.declared.fault.LogError.TheVariants.{Failed, Draw, Spent, Memory}
use Rattle.qls_log.specs.Steps.{GoesBy, is_exact}
use Rattle.qls_log.specs.Taking.{NoneNext, MayTake, StopsAfter}

module _ (R : Moment → Moment → Type 0) where
  goes_passes : {X : Type 0} (r : Result X LogError) (a b : Content) → GoesBy R r a b → Passes R a b
  goes_passes (Ok x) a b h = Passes-of R a b h
  goes_passes (Err Spent) a b h = Passes-of R a b h
  goes_passes (Err Failed) a b h = h
  goes_passes (Err Draw) a b h = h
  goes_passes (Err Memory) a b h = h

  goes_on : {X : Type 0} (r : Result X LogError) (a b c : Content) → Arrives R a b → GoesBy R r b c → GoesBy R r a c
  goes_on (Ok x) a b c h k = Arrives-then R a b c h k
  goes_on (Err Spent) a b c h k = Arrives-then R a b c h k
  goes_on (Err Failed) a b c h k = Arrives-passes R a b c h k
  goes_on (Err Draw) a b c h k = Arrives-passes R a b c h k
  goes_on (Err Memory) a b c h k = Arrives-passes R a b c h k

  goes_arrived : {X : Type 0} (r : Result X LogError) (a b : Content) → Arrives R a b → GoesBy R r a b
  goes_arrived (Ok x) a b h = h
  goes_arrived (Err Spent) a b h = h
  goes_arrived (Err Failed) a b h = Passes-of R a b h
  goes_arrived (Err Draw) a b h = Passes-of R a b h
  goes_arrived (Err Memory) a b h = Passes-of R a b h

  -- the error is handed on
  goes_handed : (X Y : Type 0) (e : LogError) (a b : Content) → GoesBy {X = X} R (Err e) a b → GoesBy {X = Y} R (Err e) a b
  goes_handed X Y Spent a b h = h
  goes_handed X Y Failed a b h = h
  goes_handed X Y Draw a b h = h
  goes_handed X Y Memory a b h = h

  pub told_passes : {X : Type 0} (r : Result X LogError) (a b : Option Content) → Tells (GoesBy R r) a b → Tells (Passes R) a b
  told_passes r a b h = Tells-weaken (GoesBy R r) (Passes R) a b h (goes_passes r)

  pub told_on : {X : Type 0} (r : Result X LogError) (a b c : Option Content) → Tells (Arrives R) a b → Tells (GoesBy R r) b c → Tells (GoesBy R r) a c
  told_on r a b c h k = Tells-then (Arrives R) (GoesBy R r) (GoesBy R r) a b c h k (goes_on r)

  pub told_arrived : {X : Type 0} (r : Result X LogError) (a b : Option Content) → Tells (Arrives R) a b → Tells (GoesBy R r) a b
  told_arrived r a b h = Tells-weaken (Arrives R) (GoesBy R r) a b h (goes_arrived r)

  pub told_handed : (X : Type 0) {Y : Type 0} (e : LogError) (r : Result Y LogError) (a b : Option Content) → Err e ≡ r → Tells (GoesBy {X = X} R (Err e)) a b → Tells (GoesBy {X = Y} R r) a b
  told_handed X {Y} e r a b is h = subst (λ (q : Result Y LogError). Tells (GoesBy {X = Y} R q) a b) is (Tells-weaken (GoesBy {X = X} R (Err e)) (GoesBy {X = Y} R (Err e)) a b h (goes_handed X Y e))

  -- no call was made, and nothing drawn
  pub goes_nowhere : {X : Type 0} (r : Result X LogError) (a : Option Content) → Tells (GoesBy R r) a a
  goes_nowhere r a = told_arrived r a a (told_same R a)

  pub draws_nothing : (exact : Bool) (a : Option Content) (x : Option (List ℕ)) → DrawsTaken exact a a x x
  draws_nothing exact a x = drawn_none exact a a x x (tells_none R a) refl

  -- calls that arrived, and then one that answered this
  pub draws_on : {X : Type 0} (r : Result X LogError) (a b c : Option Content) (x y z : Option (List ℕ)) → Tells (Arrives R) a b → Tells (GoesBy R r) b c → DrawsTaken true a b x y → DrawsTaken (is_exact r) b c y z
      → DrawsTaken (is_exact r) a c x z
  draws_on r a b c x y z h k d e = drawn_then R R (is_exact r) a b c x y z h (told_passes r b c k) d e

-- by a weaker step
weaker_goes : {X : Type 0} (R Q : Moment → Moment → Type 0) → ((m n : Moment) → R m n → Q m n) → (r : Result X LogError) (a b : Content) → GoesBy R r a b → GoesBy Q r a b
weaker_goes R Q w (Ok x) a b h = Arrives-weaken R Q w a b h
weaker_goes R Q w (Err Spent) a b h = Arrives-weaken R Q w a b h
weaker_goes R Q w (Err Failed) a b h = Passes-weaken R Q w a b h
weaker_goes R Q w (Err Draw) a b h = Passes-weaken R Q w a b h
weaker_goes R Q w (Err Memory) a b h = Passes-weaken R Q w a b h

pub told_weaker : {X : Type 0} (R Q : Moment → Moment → Type 0) → ((m n : Moment) → R m n → Q m n) → (r : Result X LogError) (a b : Option Content) → Tells (GoesBy R r) a b → Tells (GoesBy Q r) a b
told_weaker R Q w r a b h = Tells-weaken (GoesBy R r) (GoesBy Q r) a b h (weaker_goes R Q w r)

exact_handed : (X Y : Type 0) (e : LogError) → is_exact {X = X} (Err e) ≡ is_exact {X = Y} (Err e)
exact_handed X Y Spent = refl
exact_handed X Y Failed = refl
exact_handed X Y Draw = refl
exact_handed X Y Memory = refl

pub draws_handed : (X : Type 0) {Y : Type 0} (e : LogError) (r : Result Y LogError) (a b : Option Content) (x y : Option (List ℕ)) → Err e ≡ r → DrawsTaken (is_exact {X = X} (Err e)) a b x y → DrawsTaken (is_exact r) a b x y
draws_handed X {Y} e r a b x y is h = subst (λ exact. DrawsTaken exact a b x y) (exact_handed X Y e ∙ ap is_exact is) h

-- ---- the next file can't be had

stops : (o : Opening) (newest number at n : ℕ) (pool : PoolState) (c : Content) → number ≡ newest + at → at < n → MayTake o pool (number + 1) c.now.disk → NoneNext o number pool → StopsAfter o newest n pool c.now.disk
stops o newest number at n pool c is less may last = record {
  taken = at;
  fewer = less;
  may = subst (λ k. MayTake o pool (k + 1) c.now.disk) is may;
  last = subst (λ k. NoneNext o k pool) is last;
}

pub told_stops : (o : Opening) (newest number at n : ℕ) (pool : PoolState) (a : Option Content) → number ≡ newest + at → at < n → IfSome a (OnDisk (MayTake o pool (number + 1))) → NoneNext o number pool
    → IfSome a (OnDisk (StopsAfter o newest n pool))
told_stops o newest number at n pool None is less may last = tt
told_stops o newest number at n pool (Some c) is less may last = stops o newest number at n pool c is less may last

-- ---- the first file

may_first : (o : Opening) (pool : PoolState) (d : Disk) (fs : List Headed) → o.epoch ≡ 1 → files_on o d ≡ fs → IsWholePool pool d → fs ≡ [] → MayTake o pool (0 + 1) d
may_first o pool d fs first is whole none = record {
  whole = whole;
  next = ap (λ (gs : List Headed). newest_number gs + 1) (is ∙ none);
  lesser = subst (λ (gs : List Headed). AllByRecursion (λ f. f.header.number < 1) gs) (sym (is ∙ none)) tt;
  due = subst (IsEpochDue o.epoch) (sym (is ∙ none)) first;
}

pub told_first : (o : Opening) (pool : PoolState) (a : Option Content) → o.epoch ≡ 1 → IfSome a (OnDisk (IsWholePool pool)) → IfSome a (OnDisk (λ d. files_on o d ≡ [])) → IfSome a (OnDisk (MayTake o pool (0 + 1)))
told_first o pool None first whole none = tt
told_first o pool (Some c) first whole none = may_first o pool c.now.disk (files_on o c.now.disk) first refl whole none

-- ---- the next file of a log

pub newest_those : (cap n newest : ℕ) (hs : List HeadedFile) (fs : List Headed) → 0 < length hs → NumberedFrom n hs newest → AreThoseFiles cap hs fs → newest_number fs ≡ newest
newest_those cap n newest [] fs some m t = absurd (omega (arith, some))
newest_those cap n newest (h ∷ hs) [] some m t = absurd t
newest_those cap n newest (h ∷ []) (f ∷ []) some m t = ap (λ (x : FileHeader). x.number) t.0.header ∙ m.0 ∙ omega (arith, m.1)
newest_those cap n newest (h ∷ []) (f ∷ g ∷ fs) some m t = absurd t.1
newest_those cap n newest (h ∷ k ∷ hs) (f ∷ []) some m t = absurd t.1
newest_those cap n newest (h ∷ k ∷ hs) (f ∷ g ∷ fs) some m t = newest_those cap (n + 1) newest (k ∷ hs) (g ∷ fs) (omega arith) m.1 t.1

-- the newest of the files has this epoch, or the one before
abbrev EndDue : ℕ → List HeadedFile → Type 0
EndDue epoch [] = ⊥
EndDue epoch (h ∷ []) = (h.header.epoch ≡ epoch) ⊎ (h.header.epoch + 1 ≡ epoch)
EndDue epoch (h ∷ g ∷ hs) = EndDue epoch (g ∷ hs)

due_before : (epoch : ℕ) (hs : List HeadedFile) → 0 < length hs → EndBefore epoch hs → EndDue epoch hs
due_before epoch [] some e = absurd (omega (arith, some))
due_before epoch (h ∷ []) some e = inr e
due_before epoch (h ∷ g ∷ hs) some e = due_before epoch (g ∷ hs) (omega arith) e

due_own : (o : Opening) (n : ℕ) (hs : List HeadedFile) → n < length hs → AllByRecursion (IsOfOpening o) (drop n hs) → EndDue o.epoch hs
due_own o n [] less own = absurd (omega (arith, less))
due_own o zero (h ∷ []) less own = inl (ap (λ (x : FileHeader). x.epoch) own.0)
due_own o (suc n) (h ∷ []) less own = absurd (omega (arith, less))
due_own o zero (h ∷ g ∷ hs) less own = due_own o zero (g ∷ hs) (omega arith) own.1
due_own o (suc n) (h ∷ g ∷ hs) less own = due_own o n (g ∷ hs) (omega (arith, less)) own

due_those : (cap epoch : ℕ) (hs : List HeadedFile) (fs : List Headed) → EndDue epoch hs → AreThoseFiles cap hs fs → IsEpochDue epoch fs
due_those cap epoch [] fs e t = absurd e
due_those cap epoch (h ∷ hs) [] e t = absurd t
due_those cap epoch (h ∷ []) (f ∷ []) e t = subst (λ n. (n ≡ epoch) ⊎ (n + 1 ≡ epoch)) (sym (ap (λ (x : FileHeader). x.epoch) t.0.header)) e
due_those cap epoch (h ∷ []) (f ∷ g ∷ fs) e t = absurd t.1
due_those cap epoch (h ∷ k ∷ hs) (f ∷ []) e t = absurd t.1
due_those cap epoch (h ∷ k ∷ hs) (f ∷ g ∷ fs) e t = due_those cap epoch (k ∷ hs) (g ∷ fs) e t.1

due_sound : (cap : ℕ) (l : LogState) (fs : List Headed) → IsSound l → AreThoseFiles cap l.files fs → IsEpochDue l.opening.epoch fs
due_sound cap l fs sound t = due_those cap l.opening.epoch l.files fs (by (cases_lt l.older (length l.files))) t
  where
    by : (l.older < length l.files) ⊎ (length l.files ≤ l.older) → EndDue l.opening.epoch l.files
    by (inl less) = due_own l.opening l.older l.files less sound.own
    by (inr more) = due_before l.opening.epoch l.files sound.some (sound.next (omega (arith, more, sound.older)))

may_of : (l : LogState) (pool : PoolState) (d : Disk) → IsSound l → LogThere l d → IsPoolOf pool [] d → MayTake l.opening pool (l.newest + 1) d
may_of l pool d sound there p = record {
  whole = (there.there.differ, p);
  next = ap (λ n. n + 1) (newest_those (capacity_in l.opening) (l.newest + 1 - length l.files) l.newest l.files (files_on l.opening d) sound.some sound.numbers there.there.files);
  lesser = (below_those (capacity_in l.opening) (l.newest + 1 - length l.files) l.newest l.files (files_on l.opening d) sound.numbers there.there.files).1;
  due = due_sound (capacity_in l.opening) l (files_on l.opening d) sound there.there.files;
}

pub told_may : (l : LogState) (pool : PoolState) (a : Option Content) → IsSound l → IfSome a (OnDisk (LogThere l)) → IfSome a (OnDisk (IsPoolOf pool [])) → IfSome a (OnDisk (MayTake l.opening pool (l.newest + 1)))
told_may l pool None sound there p = tt
told_may l pool (Some c) sound there p = may_of l pool c.now.disk sound there p
