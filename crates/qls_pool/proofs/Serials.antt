-- Numbers that are drawn, and the serials of the files that come into use.
use Rattle.std.proofs.Common.{◌≡◌, ◌⊎◌, inl, inr, ℕ, ◌≤◌, Bool, true, false, List, [], ◌∷◌, ◌++◌, map, length, Option, Some, None, Ok, refl, sym, ap, ◌∙◌, subst, arith, append_assoc, append-nil}
use Rattle.qls_site.specs.Content.{Moment, Content, Tells, Draws}
use Rattle.qls_site.proofs.Told.{Tells-weaken}
use Rattle.qls_meaning.specs.History.{last_of, newly_used}
use Rattle.qls_pool.specs.Moments.{Chain, Passes, Arrives}
use Rattle.qls_pool.specs.Serials.{serials_taken, taken_since, TakesNone, AreDrawn, DrawsTaken}
use Rattle.qls_pool.proofs.Moments.{since_is, since_of, since_then, Passes-of, chain-append}

pub serials_then : (m : Moment) (xs ys : List Moment) → serials_taken m (xs ++ ys) ≡ serials_taken m xs ++ serials_taken (last_of m xs) ys
serials_then m [] ys = refl
serials_then m (n ∷ xs) ys =
    let here : List ℕ = map (λ f. f.header.serial) (newly_used m n) in
    ap (λ (s : List ℕ). here ++ s) (serials_then n xs ys) ∙ sym (append_assoc here (serials_taken n xs) (serials_taken (last_of n xs) ys))

-- the files of one call and then of another
pub taken_then : (R Q : Moment → Moment → Type 0) (a b c : Content) → Arrives R a b → Passes Q b c → taken_since a c ≡ taken_since a b ++ taken_since b c
taken_then R Q a b c h k =
    ap (serials_taken a.now) (since_then R Q a b c (Passes-of R a b h) k) ∙ serials_then a.now h.since k.since
    ∙ ap (λ (s : List ℕ). s ++ serials_taken (last_of a.now h.since) k.since) (ap (serials_taken a.now) (sym (since_of R a b h)))
    ∙ ap (λ (s : List ℕ). taken_since a b ++ s) (ap (λ (m : Moment). serials_taken m k.since) (sym h.last) ∙ ap (serials_taken b.now) (sym (since_is Q b c k)))

-- ---- moments with the serials of the files that came into use

pub record Took (R : Moment → Moment → Type 0) (taken : List ℕ) (old new : Content) : Type 0 where
  pub since : List Moment
  pub moments : new.moments ≡ old.moments ++ since
  pub chain : Chain R old.now since
  pub serials : serials_taken old.now since ≡ taken

-- a call that arrived, with these serials
abbrev pub Brought : (Moment → Moment → Type 0) → List ℕ → Content → Content → Type 0
Brought R taken x y = (h : Arrives R x y) × (serials_taken x.now h.since ≡ taken)

module _ (R : Moment → Moment → Type 0) where
  abbrev pub took_passes : (taken : List ℕ) (a b : Content) → Took R taken a b → Passes R a b
  took_passes taken a b h = record { since = h.since; moments = h.moments; chain = h.chain }

  pub took_taken : (taken : List ℕ) (a b : Content) → Took R taken a b → taken_since a b ≡ taken
  took_taken taken a b h = ap (serials_taken a.now) (since_is R a b (took_passes taken a b h)) ∙ h.serials

  pub brought_taken : (taken : List ℕ) (a b : Content) → Brought R taken a b → taken_since a b ≡ taken
  brought_taken taken a b h = ap (serials_taken a.now) (since_of R a b h.0) ∙ h.1

  pub took_same : (x y : Content) → y ≡ x → Took R [] x y
  took_same x y e = record { since = []; moments = ap (λ (c : Content). c.moments) e ∙ sym (append-nil x.moments); chain = tt; serials = refl }

  pub brought_same : (x y : Content) → y ≡ x → Brought R [] x y
  brought_same x y e = (record { since = []; moments = ap (λ (c : Content). c.moments) e ∙ sym (append-nil x.moments); chain = tt; last = ap (λ (c : Content). c.now) e }, refl)

  pub brought_then : (taken : List ℕ) (x y z : Content) → Brought R [] x y → Brought R taken y z → Brought R taken x z
  brought_then taken x y z h k = (
    Rattle.qls_pool.proofs.Moments.Arrives-then R x y z h.0 k.0,
    serials_then x.now h.0.since k.0.since ∙ ap (λ (s : List ℕ). s ++ serials_taken (last_of x.now h.0.since) k.0.since) h.1 ∙ ap (λ (m : Moment). serials_taken m k.0.since) (sym h.0.last) ∙ k.1,
  )

  -- a call that arrived, and one that failed after it
  pub brought_took : (taken : List ℕ) (a b c : Content) → Brought R [] a b → Took R taken b c → Took R taken a c
  brought_took taken a b c h k = record {
    since = h.0.since ++ k.since;
    moments = k.moments ∙ ap (λ (ms : List Moment). ms ++ k.since) h.0.moments ∙ append_assoc a.moments h.0.since k.since;
    chain = chain-append R a.now h.0.since k.since h.0.chain (subst (λ (m : Moment). Chain R m k.since) h.0.last k.chain);
    serials =
        serials_then a.now h.0.since k.since ∙ ap (λ (s : List ℕ). s ++ serials_taken (last_of a.now h.0.since) k.since) h.1
        ∙ ap (λ (m : Moment). serials_taken m k.since) (sym h.0.last) ∙ k.serials;
  }

  -- none or this one
  abbrev pub TookAtMost : ℕ → Content → Content → Type 0
  TookAtMost serial a b = Took R [] a b ⊎ Took R (serial ∷ []) a b

  pub at_most_passes : (serial : ℕ) (a b : Content) → TookAtMost serial a b → Passes R a b
  at_most_passes serial a b (inl h) = took_passes [] a b h
  at_most_passes serial a b (inr h) = took_passes (serial ∷ []) a b h

  pub at_most_then : (serial : ℕ) (a b c : Content) → Brought R [] a b → TookAtMost serial b c → TookAtMost serial a c
  at_most_then serial a b c h (inl k) = inl (brought_took [] a b c h k)
  at_most_then serial a b c h (inr k) = inr (brought_took (serial ∷ []) a b c h k)

-- ---- what was drawn

one_short : (n : ℕ) → length (n ∷ []) ≤ 1
one_short n = omega arith

none_short : length {A = ℕ} [] ≤ 1
none_short = omega arith

-- one number was drawn, and at most its file came into use
pub drawn_at_most : (R : Moment → Moment → Type 0) (E : Type 0) (serial : ℕ) (a b : Option Content) (x y : Option (List ℕ)) → Tells (TookAtMost R serial) a b → Draws {E = E} x y (Ok serial) → DrawsTaken false a b x y
drawn_at_most R E serial a b x None h d = tt
drawn_at_most R E serial a b None (Some y) h d = absurd d
drawn_at_most R E serial None b (Some x) (Some y) h d = tt
drawn_at_most R E serial (Some a) None (Some x) (Some y) h d = tt
drawn_at_most R E serial (Some a) (Some b) (Some x) (Some y) (inl h) d = (serial ∷ [], d, (serial ∷ [], ap (λ (s : List ℕ). s ++ serial ∷ []) (sym (took_taken R [] a b h)), one_short serial))
drawn_at_most R E serial (Some a) (Some b) (Some x) (Some y) (inr h) d =
    (serial ∷ [], d, ([], sym (append-nil (serial ∷ [])) ∙ ap (λ (s : List ℕ). s ++ []) (sym (took_taken R (serial ∷ []) a b h)), none_short))

-- one number was drawn, and its file came into use
pub drawn_one : (E : Type 0) (serial : ℕ) (a b : Option Content) (x y : Option (List ℕ)) → Tells (λ x y. taken_since x y ≡ serial ∷ []) a b → Draws {E = E} x y (Ok serial) → DrawsTaken true a b x y
drawn_one E serial a b x None h d = tt
drawn_one E serial a b None (Some y) h d = absurd d
drawn_one E serial None b (Some x) (Some y) h d = tt
drawn_one E serial (Some a) None (Some x) (Some y) h d = tt
drawn_one E serial (Some a) (Some b) (Some x) (Some y) h d = (serial ∷ [], d, sym h)

-- no number was drawn, and no file came into use
none_drawn : (exact : Bool) (taken : List ℕ) → taken ≡ [] → AreDrawn exact taken []
none_drawn true taken e = sym e
none_drawn false taken e = ([], sym (append-nil taken ∙ e), none_short)

pub drawn_none : (exact : Bool) (a b : Option Content) (x y : Option (List ℕ)) → Tells TakesNone a b → y ≡ x → DrawsTaken exact a b x y
drawn_none exact a b x None h e = tt
drawn_none exact a b None (Some y) h e = absurd (cc)
drawn_none exact None b (Some x) (Some y) h e = tt
drawn_none exact (Some a) None (Some x) (Some y) h e = tt
drawn_none exact (Some a) (Some b) (Some x) (Some y) h e = ([], some_is e ∙ sym (append-nil x), none_drawn exact (taken_since a b) h)
  where
    some_is : Some y ≡ Some x → y ≡ x
    some_is e = cc

-- what is exact is so up to one more
pub drawn_weaken : (a b : Option Content) (x y : Option (List ℕ)) → DrawsTaken true a b x y → DrawsTaken false a b x y
drawn_weaken a b x None h = tt
drawn_weaken a b None (Some y) h = absurd h
drawn_weaken None b (Some x) (Some y) h = tt
drawn_weaken (Some a) None (Some x) (Some y) h = tt
drawn_weaken (Some a) (Some b) (Some x) (Some y) h = (h.0, h.1, ([], h.2 ∙ sym (append-nil (taken_since a b)), none_short))

pub drawn_any : (exact : Bool) (a b : Option Content) (x y : Option (List ℕ)) → DrawsTaken true a b x y → DrawsTaken exact a b x y
drawn_any true a b x y h = h
drawn_any false a b x y h = drawn_weaken a b x y h

drawn_join : (exact : Bool) (p q drawn : List ℕ) → AreDrawn exact q drawn → AreDrawn exact (p ++ q) (p ++ drawn)
drawn_join true p q drawn e = ap (λ (s : List ℕ). p ++ s) e
drawn_join false p q drawn (rest, e, short) = (rest, ap (λ (s : List ℕ). p ++ s) e ∙ sym (append_assoc p q rest), short)

-- one call after another
pub drawn_then : (R Q : Moment → Moment → Type 0) (exact : Bool) (a b c : Option Content) (x y z : Option (List ℕ)) → Tells (Arrives R) a b → Tells (Passes Q) b c
    → DrawsTaken true a b x y → DrawsTaken exact b c y z → DrawsTaken exact a c x z
drawn_then R Q exact a b c x y None h k d e = tt
drawn_then R Q exact a b c None None (Some z) h k d e = absurd e
drawn_then R Q exact a b c None (Some y) (Some z) h k d e = absurd d
drawn_then R Q exact a b c (Some x) None (Some z) h k d e = absurd e
drawn_then R Q exact None b c (Some x) (Some y) (Some z) h k d e = tt
drawn_then R Q exact (Some a) None c (Some x) (Some y) (Some z) h k d e = absurd h
drawn_then R Q exact (Some a) (Some b) None (Some x) (Some y) (Some z) h k d e = absurd k
drawn_then R Q exact (Some a) (Some b) (Some c) (Some x) (Some y) (Some z) h k d e = (
  d.0 ++ e.0,
  e.1 ∙ ap (λ (s : List ℕ). s ++ e.0) d.1 ∙ append_assoc x d.0 e.0,
  subst (λ (t : List ℕ). AreDrawn exact t (d.0 ++ e.0)) (sym (taken_then R Q a b c h k))
      (subst (λ (t : List ℕ). AreDrawn exact (taken_since a b ++ taken_since b c) (t ++ e.0)) (sym d.2) (drawn_join exact (taken_since a b) (taken_since b c) e.0 e.2)),
)

-- ---- told content

module _ (R : Moment → Moment → Type 0) where
  pub told_took : (taken : List ℕ) (a b : Option Content) → Tells (Took R taken) a b → Tells (Passes R) a b
  told_took taken a b h = Tells-weaken (Took R taken) (Passes R) a b h (took_passes R taken)

  pub told_none : (a b : Option Content) → Tells (Took R []) a b → Tells TakesNone a b
  told_none a b h = Tells-weaken (Took R []) TakesNone a b h (took_taken R [])

  pub told_at_most : (serial : ℕ) (a b : Option Content) → Tells (TookAtMost R serial) a b → Tells (Passes R) a b
  told_at_most serial a b h = Tells-weaken (TookAtMost R serial) (Passes R) a b h (at_most_passes R serial)

  pub told_few : (serial : ℕ) (a b : Option Content) → Tells (Took R []) a b → Tells (TookAtMost R serial) a b
  told_few serial a b h = Tells-weaken (Took R []) (TookAtMost R serial) a b h (λ x y k. inl k)

  pub none_then : (Q : Moment → Moment → Type 0) (a b c : Option Content) → Tells (Arrives R) a b → Tells TakesNone a b → Tells (Passes Q) b c → Tells TakesNone b c → Tells TakesNone a c
  none_then Q None None None h m k n = tt
  none_then Q None None (Some z) h m k n = absurd k
  none_then Q None (Some y) c h m k n = absurd h
  none_then Q (Some x) None c h m k n = absurd h
  none_then Q (Some x) (Some y) None h m k n = absurd k
  none_then Q (Some x) (Some y) (Some z) h m k n = taken_then R Q x y z h k ∙ ap (λ (s : List ℕ). s ++ taken_since y z) m ∙ n

  -- no call was made
  pub tells_none : (a : Option Content) → Tells TakesNone a a
  tells_none None = tt
  tells_none (Some c) = took_taken R [] c c (record { since = []; moments = sym (append-nil c.moments); chain = tt; serials = refl })
