-- What a take leaves of held records, by what is found at its target.
use Rattle.std.proofs.Common.{◌≡◌, ℕ, ◌+◌, ◌<◌, Bool, true, false, not, ◌&&◌, ◌==◌, cond, List, [], ◌∷◌, Option, Some, None, refl, ap, sym, ◌∙◌, arith}
use Rattle.std.specs.List.{cons_option}
use Rattle.qls_model.specs.Machine.{is_ready}
use Rattle.qls_model.specs.declared.machine.Status.{Status}
use Rattle.qls_model.specs.declared.machine.Status.TheVariants.{Ready, Going}
use Rattle.qls_enqmap.specs.declared.Held.{Held}
use Rattle.qls_enqmap.specs.Records.{RidsFrom, held_at, with_status, without}
use Rattle.qls_meaning.specs.Replay.{left_by_take, gone}
use Rattle.qls_replay.specs.Held.{message_of, held_as, left_held, may_take}

-- ---- ids below the first

apart : (n m : ℕ) → n < m → (m == n) ≡ false
apart n m l = grind arith

left_one : (b r : Bool) (o : Option (List ℕ)) (h : Held) (hs gs : List Held) → b ≡ false → hs ≡ gs
    → cons_option (held_as h (cond (b && r) (gone o (message_of h)) (Some (message_of h)))) hs ≡ h ∷ gs
left_one true r o h hs gs e f = absurd (cc)
left_one false r o h hs gs e f = ap (λ l. h ∷ l) f

left_below : (n m : ℕ) (o : Option (List ℕ)) (hs : List Held) → n < m → RidsFrom m hs → left_held (left_by_take n o) hs ≡ hs
left_below n m o [] l r = refl
left_below n m o (h ∷ hs) l r =
    left_one (h.rid == n) (is_ready h.status) o h (left_held (left_by_take n o) hs) hs (apart n h.rid (omega (arith, r.0))) (left_below n (h.rid + 1) o hs (omega (arith, r.0)) r.1)

without_below : (n m : ℕ) (hs : List Held) → n < m → RidsFrom m hs → without n hs ≡ hs
without_below n m [] l r = refl
without_below n m (h ∷ hs) l r =
    ap (λ b. cond (not b) (h ∷ without n hs) (without n hs)) (apart n h.rid (omega (arith, r.0))) ∙ ap (λ l. h ∷ l) (without_below n (h.rid + 1) hs (omega (arith, r.0)) r.1)

status_below : (n m : ℕ) (s : Status) (hs : List Held) → n < m → RidsFrom m hs → with_status n s hs ≡ hs
status_below n m s [] l r = refl
status_below n m s (h ∷ hs) l r =
    ap (λ b. cond b (record h { status = s }) h ∷ with_status n s hs) (apart n h.rid (omega (arith, r.0))) ∙ ap (λ l. h ∷ l) (status_below n (h.rid + 1) s hs (omega (arith, r.0)) r.1)

next_below : (a n : ℕ) → true ≡ (a == n) → n < a + 1
next_below a n e = grind arith

-- ---- a ready one is found

gone_by : (b r : Bool) (n : ℕ) (g h : Held) (hs : List Held) → b ≡ (g.rid == n) → r ≡ is_ready g.status → cond b (Some g) (held_at n hs) ≡ Some h → is_ready h.status ≡ true
    → RidsFrom (g.rid + 1) hs → (held_at n hs ≡ Some h → left_held (left_by_take n None) hs ≡ without n hs)
    → cons_option (held_as g (cond (b && r) None (Some (message_of g)))) (left_held (left_by_take n None) hs) ≡ cond (not b) (g ∷ without n hs) (without n hs)
gone_by true true n g h hs e q f y s i = left_below n (g.rid + 1) None hs (next_below g.rid n e) s ∙ sym (without_below n (g.rid + 1) hs (next_below g.rid n e) s)
gone_by true false n g h hs e q f y s i = let z : g ≡ h = (cc) in let t : false ≡ true = q ∙ ap (λ (k : Held). is_ready k.status) z ∙ y in absurd (cc)
gone_by false r n g h hs e q f y s i = ap (λ l. g ∷ l) (i f)

pub take_gone : (n m : ℕ) (h : Held) (hs : List Held) → RidsFrom m hs → held_at n hs ≡ Some h → is_ready h.status ≡ true → left_held (left_by_take n None) hs ≡ without n hs
take_gone n m h [] r f y = refl
take_gone n m h (g ∷ hs) r f y = gone_by (g.rid == n) (is_ready g.status) n g h hs refl refl f y r.1 (λ k. take_gone n (g.rid + 1) h hs r.1 k y)

going_by : (b r : Bool) (n : ℕ) (x : List ℕ) (g h : Held) (hs : List Held) → b ≡ (g.rid == n) → r ≡ is_ready g.status → cond b (Some g) (held_at n hs) ≡ Some h → is_ready h.status ≡ true
    → RidsFrom (g.rid + 1) hs → (held_at n hs ≡ Some h → left_held (left_by_take n (Some x)) hs ≡ with_status n (Going x) hs)
    → cons_option (held_as g (cond (b && r) (gone (Some x) (message_of g)) (Some (message_of g)))) (left_held (left_by_take n (Some x)) hs) ≡ cond b (record g { status = Going x }) g ∷ with_status n (Going x) hs
going_by true true n x g h hs e q f y s i = ap {A = List Held} (λ l. record g { status = Going x } ∷ l) (left_below n (g.rid + 1) (Some x) hs (next_below g.rid n e) s ∙ sym (status_below n (g.rid + 1) (Going x) hs (next_below g.rid n e) s))
going_by true false n x g h hs e q f y s i = let z : g ≡ h = (cc) in let t : false ≡ true = q ∙ ap (λ (k : Held). is_ready k.status) z ∙ y in absurd (cc)
going_by false r n x g h hs e q f y s i = ap (λ l. g ∷ l) (i f)

pub take_going : (n m : ℕ) (x : List ℕ) (h : Held) (hs : List Held) → RidsFrom m hs → held_at n hs ≡ Some h → is_ready h.status ≡ true → left_held (left_by_take n (Some x)) hs ≡ with_status n (Going x) hs
take_going n m x h [] r f y = refl
take_going n m x h (g ∷ hs) r f y = going_by (g.rid == n) (is_ready g.status) n x g h hs refl refl f y r.1 (λ k. take_going n (g.rid + 1) x h hs r.1 k y)

-- ---- none is found, or one that isn't ready

stays_by : (b r : Bool) (n : ℕ) (o : Option (List ℕ)) (g : Held) (hs : List Held) → b ≡ (g.rid == n) → r ≡ is_ready g.status → may_take (cond b (Some g) (held_at n hs)) ≡ false
    → RidsFrom (g.rid + 1) hs → (may_take (held_at n hs) ≡ false → left_held (left_by_take n o) hs ≡ hs)
    → cons_option (held_as g (cond (b && r) (gone o (message_of g)) (Some (message_of g)))) (left_held (left_by_take n o) hs) ≡ g ∷ hs
stays_by true true n o g hs e q f s i = let t : true ≡ false = q ∙ f in absurd (cc)
stays_by true false n o g hs e q f s i = ap (λ l. g ∷ l) (left_below n (g.rid + 1) o hs (next_below g.rid n e) s)
stays_by false r n o g hs e q f s i = ap (λ l. g ∷ l) (i f)

pub take_stays : (n m : ℕ) (o : Option (List ℕ)) (hs : List Held) → RidsFrom m hs → may_take (held_at n hs) ≡ false → left_held (left_by_take n o) hs ≡ hs
take_stays n m o [] r f = refl
take_stays n m o (g ∷ hs) r f = stays_by (g.rid == n) (is_ready g.status) n o g hs refl refl f r.1 (λ k. take_stays n (g.rid + 1) o hs r.1 k)

-- ---- a lock that is taken back, a record that is put and taken out again

back_by : (b r : Bool) (n : ℕ) (s : Status) (g h : Held) (hs : List Held) → b ≡ (g.rid == n) → cond b (Some g) (held_at n hs) ≡ Some h → h.status ≡ Ready
    → RidsFrom (g.rid + 1) hs → (held_at n hs ≡ Some h → with_status n Ready (with_status n s hs) ≡ hs)
    → cond ((cond b (record g { status = s }) g).rid == n) (record (cond b (record g { status = s }) g) { status = Ready }) (cond b (record g { status = s }) g) ∷ with_status n Ready (with_status n s hs) ≡ g ∷ hs
back_by true r n s g h hs e f y t i =
    let z : g ≡ h = (cc) in
    let w : g.status ≡ Ready = ap (λ (k : Held). k.status) z ∙ y in
    ap (λ b. cond b (record g { status = Ready }) (record g { status = s }) ∷ with_status n Ready (with_status n s hs)) (sym e)
    ∙ ap {A = Status} (λ q. record g { status = q } ∷ with_status n Ready (with_status n s hs)) (sym w)
    ∙ ap (λ l. g ∷ l) (ap (λ l. with_status n Ready l) (status_below n (g.rid + 1) s hs (next_below g.rid n e) t) ∙ status_below n (g.rid + 1) Ready hs (next_below g.rid n e) t)
back_by false r n s g h hs e f y t i = ap (λ b. cond b (record g { status = Ready }) g ∷ with_status n Ready (with_status n s hs)) (sym e) ∙ ap (λ l. g ∷ l) (i f)

pub status_back : (n m : ℕ) (s : Status) (h : Held) (hs : List Held) → RidsFrom m hs → held_at n hs ≡ Some h → h.status ≡ Ready → with_status n Ready (with_status n s hs) ≡ hs
status_back n m s h [] r f y = refl
status_back n m s h (g ∷ hs) r f y = back_by (g.rid == n) true n s g h hs refl f y r.1 (λ k. status_back n (g.rid + 1) s h hs r.1 k y)

-- ---- by what is found

found_by : (o : Option Held) (n : ℕ) (hs : List Held) → o ≡ held_at n hs → may_take o ≡ true → (h : Held) × (held_at n hs ≡ Some h) × (is_ready h.status ≡ true)
found_by None n hs e t = absurd (cc)
found_by (Some h) n hs e t = (h, sym e, t)

pub found : (n : ℕ) (hs : List Held) → may_take (held_at n hs) ≡ true → (h : Held) × (held_at n hs ≡ Some h) × (is_ready h.status ≡ true)
found n hs t = found_by (held_at n hs) n hs refl t
