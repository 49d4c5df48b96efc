-- Moments that calls add, one call after another.
use Rattle.std.proofs.Common.{◌≡◌, List, [], ◌∷◌, ◌++◌, length, drop, Option, Some, None, Result, Ok, Err, IsErr, refl, sym, ap, ◌∙◌, subst, append_assoc, append-nil}
use Rattle.std.proofs.Math.Seq.{drop-append_seam}
use Rattle.qls_site.specs.declared.site.SiteError.{SiteError}
use Rattle.qls_site.specs.declared.site.SiteError.TheVariants.{Failed, Memory}
use Rattle.qls_site.specs.Content.{Moment, Content, Acts, MayAct, Leads, Tells, moments_since}
use Rattle.qls_site.proofs.Told.{Tells-then, Tells-weaken}
use Rattle.qls_meaning.specs.History.{last_of}
use Rattle.qls_pool.specs.Moments.{Chain, Passes, Arrives, Goes}

module _ (R : Moment → Moment → Type 0) where
  pub chain-append : (m : Moment) (xs ys : List Moment) → Chain R m xs → Chain R (last_of m xs) ys → Chain R m (xs ++ ys)
  chain-append m [] ys h k = k
  chain-append m (x ∷ xs) ys h k = (h.0, chain-append x xs ys h.1 k)

  pub last-append : (m : Moment) (xs ys : List Moment) → last_of m (xs ++ ys) ≡ last_of (last_of m xs) ys
  last-append m [] ys = refl
  last-append m (x ∷ xs) ys = last-append x xs ys

  abbrev pub Arrives-then : (a b c : Content) → Arrives R a b → Arrives R b c → Arrives R a c
  Arrives-then a b c h k = record {
    since = h.since ++ k.since;
    moments = k.moments ∙ ap (λ ms. ms ++ k.since) h.moments ∙ append_assoc a.moments h.since k.since;
    chain = chain-append a.now h.since k.since h.chain (subst (λ m. Chain R m k.since) h.last k.chain);
    last = k.last ∙ ap (λ m. last_of m k.since) h.last ∙ sym (last-append a.now h.since k.since);
  }

  abbrev pub Arrives-passes : (a b c : Content) → Arrives R a b → Passes R b c → Passes R a c
  Arrives-passes a b c h k = record {
    since = h.since ++ k.since;
    moments = k.moments ∙ ap (λ ms. ms ++ k.since) h.moments ∙ append_assoc a.moments h.since k.since;
    chain = chain-append a.now h.since k.since h.chain (subst (λ m. Chain R m k.since) h.last k.chain);
  }

  abbrev pub Passes-of : (a b : Content) → Arrives R a b → Passes R a b
  Passes-of a b h = record { since = h.since; moments = h.moments; chain = h.chain }

  abbrev pub Arrives-acts : (act : Moment → Moment) (a b : Content) → R a.now (act a.now) → Acts act a b → Arrives R a b
  Arrives-acts act a b r h = record { since = act a.now ∷ []; moments = ap (λ c. c.moments) h; chain = (r, tt); last = ap (λ c. c.now) h }

  abbrev pub Arrives-same : (a b : Content) → b ≡ a → Arrives R a b
  Arrives-same a b e = record { since = []; moments = ap (λ c. c.moments) e ∙ sym (append-nil a.moments); chain = tt; last = ap (λ c. c.now) e }

  abbrev pub Passes-same : (a b : Content) → b ≡ a → Passes R a b
  Passes-same a b e = record { since = []; moments = ap (λ c. c.moments) e ∙ sym (append-nil a.moments); chain = tt }

  abbrev pub Passes-may : (act : Moment → Moment) (a b : Content) → R a.now a.now → R a.now (act a.now) → MayAct act a b → Passes R a b
  Passes-may act a b stay go h = record { since = a.now ∷ act a.now ∷ []; moments = h.moments; chain = (stay, (go, tt)) }

  -- a call that answered an error
  pub Passes-leads : (X : Type 0) (done failed : Content → Content → Type 0) (e : SiteError) (a b : Content) → (failed a b → Passes R a b)
      → Leads {X = X} done failed (Err e) a b → Passes R a b
  Passes-leads X done failed Failed a b p h = p h
  Passes-leads X done failed Memory a b p h = Passes-same a b h

  -- ---- by the answer

  pub goes_then : {X E : Type 0} (r : Result X E) (a b c : Content) → Arrives R a b → Goes R r b c → Goes R r a c
  goes_then (Ok x) a b c h k = Arrives-then a b c h k
  goes_then (Err e) a b c h k = Arrives-passes a b c h k

  pub goes_err : {X E : Type 0} (r : Result X E) (a b : Content) → IsErr r → Passes R a b → Goes R r a b
  goes_err {X} {E} (Ok x) a b e h = absurd (not_err x e)
    where
      not_err : (x : X) → IsErr {T = X} {E = E} (Ok x) → ⊥
      not_err x e = cc
  goes_err (Err f) a b e h = h

  pub told_then : {X E : Type 0} (r : Result X E) (a b c : Option Content) → Tells (Arrives R) a b → Tells (Goes R r) b c → Tells (Goes R r) a c
  told_then r a b c h k = Tells-then (Arrives R) (Goes R r) (Goes R r) a b c h k (λ x y z. goes_then r x y z)

  pub told_arrives : (a b c : Option Content) → Tells (Arrives R) a b → Tells (Arrives R) b c → Tells (Arrives R) a c
  told_arrives a b c h k = Tells-then (Arrives R) (Arrives R) (Arrives R) a b c h k (λ x y z. Arrives-then x y z)

  pub told_passes : (a b c : Option Content) → Tells (Arrives R) a b → Tells (Passes R) b c → Tells (Passes R) a c
  told_passes a b c h k = Tells-then (Arrives R) (Passes R) (Passes R) a b c h k (λ x y z. Arrives-passes x y z)

  pub told_err : {X E : Type 0} (r : Result X E) (a b : Option Content) → IsErr r → Tells (Passes R) a b → Tells (Goes R r) a b
  told_err r a b e h = Tells-weaken (Passes R) (Goes R r) a b h (λ x y. goes_err r x y e)

  pub told_of : (a b : Option Content) → Tells (Arrives R) a b → Tells (Passes R) a b
  told_of a b h = Tells-weaken (Arrives R) (Passes R) a b h (λ x y. Passes-of x y)

  -- no call was made
  pub told_same : (a : Option Content) → Tells (Arrives R) a a
  told_same None = tt
  told_same (Some c) = Arrives-same c c refl

-- ---- the moments that were added

pub since_is : (R : Moment → Moment → Type 0) (a b : Content) (h : Passes R a b) → moments_since a b ≡ h.since
since_is R a b h = ap (drop (length a.moments)) h.moments ∙ drop-append_seam a.moments h.since

pub since_of : (R : Moment → Moment → Type 0) (a b : Content) (h : Arrives R a b) → moments_since a b ≡ h.since
since_of R a b h = since_is R a b (Passes-of R a b h)

-- one call after another
pub since_then : (R Q : Moment → Moment → Type 0) (a b c : Content) → (h : Passes R a b) (k : Passes Q b c) → moments_since a c ≡ h.since ++ k.since
since_then R Q a b c h k =
    ap (drop (length a.moments)) (k.moments ∙ ap (λ (ms : List Moment). ms ++ k.since) h.moments ∙ append_assoc a.moments h.since k.since)
    ∙ drop-append_seam a.moments (h.since ++ k.since)

-- ---- weaker steps

pub chain_weaken : (R Q : Moment → Moment → Type 0) → ((m n : Moment) → R m n → Q m n) → (m : Moment) (ms : List Moment) → Chain R m ms → Chain Q m ms
chain_weaken R Q w m [] h = tt
chain_weaken R Q w m (n ∷ ns) h = (w m n h.0, chain_weaken R Q w n ns h.1)

abbrev pub Passes-weaken : (R Q : Moment → Moment → Type 0) → ((m n : Moment) → R m n → Q m n) → (a b : Content) → Passes R a b → Passes Q a b
Passes-weaken R Q w a b h = record { since = h.since; moments = h.moments; chain = chain_weaken R Q w a.now h.since h.chain }

abbrev pub Arrives-weaken : (R Q : Moment → Moment → Type 0) → ((m n : Moment) → R m n → Q m n) → (a b : Content) → Arrives R a b → Arrives Q a b
Arrives-weaken R Q w a b h = record { since = h.since; moments = h.moments; chain = chain_weaken R Q w a.now h.since h.chain; last = h.last }

pub goes_weaken : {X E : Type 0} (R Q : Moment → Moment → Type 0) → ((m n : Moment) → R m n → Q m n) → (r : Result X E) (a b : Content) → Goes R r a b → Goes Q r a b
goes_weaken R Q w (Ok x) a b h = Arrives-weaken R Q w a b h
goes_weaken R Q w (Err e) a b h = Passes-weaken R Q w a b h
