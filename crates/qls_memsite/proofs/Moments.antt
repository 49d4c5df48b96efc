-- The moments of a log, call by call.
use Rattle.std.proofs.Common.{◌≡◌, ℕ, suc, zero, ◌+◌, ◌-◌, ◌<◌, ◌≤◌, Bool, true, false, cond, List, [], ◌∷◌, ◌++◌, length, take, drop, get_or, slice_get, Some, refl, sym, ap, ◌∙◌, add-one, append_assoc, append-nil, arith, length-append}
use Rattle.std.proofs.Math.Seq.{take-suc}
use Rattle.qls_memsite.specs.declared.call.Call.{Call}
use Rattle.qls_site.specs.Content.{Content, Moment}
use Rattle.qls_memsite.specs.Log.{after, content_after, act_of, is_in_doubt}
use Rattle.qls_memsite.proofs.Log.{one_more}

after_take : (calls : List Call) (i : ℕ) (call : Call) (c : Content) → i < length calls → call ≡ get_or calls i call → content_after (take (i + 1) calls) c ≡ after call (content_after (take i calls) c)
after_take calls i call c within is =
    ap (λ n. content_after (take n calls) c) (add-one i) ∙ ap (λ cs. content_after cs c) (take-suc calls i call within)
    ∙ one_more (take i calls) (get_or calls i call) c ∙ ap (λ x. after x (content_after (take i calls) c)) (sym is)

after_doubt : (call : Call) (c : Content) → is_in_doubt call ≡ true → after call c ≡ record { now = c.now; moments = c.moments ++ c.now ∷ act_of call c.now ∷ [] }
after_doubt call c is = ap (λ b. cond b (record { now = c.now; moments = c.moments ++ c.now ∷ act_of call c.now ∷ [] }) (record { now = act_of call c.now; moments = c.moments ++ act_of call c.now ∷ [] })) is

after_sure : (call : Call) (c : Content) → is_in_doubt call ≡ false → after call c ≡ record { now = act_of call c.now; moments = c.moments ++ act_of call c.now ∷ [] }
after_sure call c is = ap (λ b. cond b (record { now = c.now; moments = c.moments ++ c.now ∷ act_of call c.now ∷ [] }) (record { now = act_of call c.now; moments = c.moments ++ act_of call c.now ∷ [] })) is

-- moments stay
more_after : (call : Call) (c : Content) → (ms : List Moment) × ((after call c).moments ≡ c.moments ++ ms)
more_after call c = at_flag (is_in_doubt call)
  where
    at_flag : (b : Bool) → (ms : List Moment) × ((cond {A = Content} b (record { now = c.now; moments = c.moments ++ c.now ∷ act_of call c.now ∷ [] })
        (record { now = act_of call c.now; moments = c.moments ++ act_of call c.now ∷ [] })).moments ≡ c.moments ++ ms)
    at_flag true = (c.now ∷ act_of call c.now ∷ [], refl)
    at_flag false = (act_of call c.now ∷ [], refl)

more_moments : (calls : List Call) (c : Content) → (ms : List Moment) × ((content_after calls c).moments ≡ c.moments ++ ms)
more_moments [] c = ([], sym (append-nil c.moments))
more_moments (call ∷ calls) c =
    let first = more_after call c in
    let others = more_moments calls (after call c) in
    (first.0 ++ others.0, others.1 ∙ ap (λ ms. ms ++ others.0) first.1 ∙ append_assoc c.moments first.0 others.0)

get_front : (xs ys : List Moment) (k : ℕ) (m : Moment) → slice_get xs k ≡ Some m → slice_get (xs ++ ys) k ≡ Some m
get_front [] ys k m is = cc
get_front (x ∷ xs) ys zero m is = is
get_front (x ∷ xs) ys (suc k) m is = get_front xs ys k m is

split : (calls : List Call) (i : ℕ) (c : Content) → content_after calls c ≡ content_after (drop i calls) (content_after (take i calls) c)
split calls zero c = refl
split [] (suc i) c = refl
split (call ∷ calls) (suc i) c = split calls i (after call c)

pub stays : (calls : List Call) (i k : ℕ) (c : Content) (m : Moment) → slice_get (content_after (take i calls) c).moments k ≡ Some m → slice_get (content_after calls c).moments k ≡ Some m
stays calls i k c m is =
    let later = more_moments (drop i calls) (content_after (take i calls) c) in
    ap (λ (d : Content). slice_get d.moments k) (split calls i c) ∙ ap (λ ms. slice_get ms k) later.1 ∙ get_front (content_after (take i calls) c).moments later.0 k m is

within_front : (xs : List Moment) (m : Moment) (ys : List Moment) (k : ℕ) → k ≡ length xs → slice_get (xs ++ m ∷ ys) k ≡ Some m
within_front [] m ys k is = ap (λ n. slice_get (m ∷ ys) n) is
within_front (x ∷ xs) m ys zero is = absurd (omega arith)
within_front (x ∷ xs) m ys (suc k) is = within_front xs m ys k (omega arith)

pub as_if_not : (calls : List Call) (i k : ℕ) (call : Call) (c : Content) (m : Moment) → i < length calls → call ≡ get_or calls i call → is_in_doubt call ≡ true
    → m ≡ (content_after (take i calls) c).now → k ≡ length (content_after (take i calls) c).moments → slice_get (content_after calls c).moments k ≡ Some m
as_if_not calls i k call c m within is doubt same at =
    let d = content_after (take i calls) c in
    let e : (content_after (take (i + 1) calls) c).moments ≡ d.moments ++ d.now ∷ act_of call d.now ∷ [] = ap (λ (x : Content). x.moments) (after_take calls i call c within is ∙ after_doubt call d doubt) in
    stays calls (i + 1) k c m (ap (λ ms. slice_get ms k) e ∙ within_front d.moments d.now (act_of call d.now ∷ []) k at ∙ ap Some (sym same))

pub as_if : (calls : List Call) (i k : ℕ) (call : Call) (c : Content) (m : Moment) → i < length calls → call ≡ get_or calls i call → is_in_doubt call ≡ true
    → m ≡ act_of call (content_after (take i calls) c).now → k ≡ length (content_after (take i calls) c).moments + 1 → slice_get (content_after calls c).moments k ≡ Some m
as_if calls i k call c m within is doubt same at =
    let d = content_after (take i calls) c in
    let e : (content_after (take (i + 1) calls) c).moments ≡ (d.moments ++ d.now ∷ []) ++ act_of call d.now ∷ [] =
    ap (λ (x : Content). x.moments) (after_take calls i call c within is ∙ after_doubt call d doubt) ∙ sym (append_assoc d.moments (d.now ∷ []) (act_of call d.now ∷ [])) in
    stays calls (i + 1) k c m (ap (λ ms. slice_get ms k) e ∙ within_front (d.moments ++ d.now ∷ []) (act_of call d.now) [] k (at ∙ sym (length-append d.moments (d.now ∷ []))) ∙ ap Some (sym same))

-- after i calls: m is what is now, and `left` moments on from it is the k-th moment
pub record At (calls : List Call) (i k left : ℕ) (c : Content) (m : Moment) : Type 0 where
  pub same : m ≡ (content_after (take i calls) c).now
  pub count : k + 1 ≡ length (content_after (take i calls) c).moments + left
  pub here : left ≡ 0 → slice_get (content_after (take i calls) c).moments k ≡ Some m

pub at_doubt : (calls : List Call) (i k left : ℕ) (call : Call) (c : Content) (m : Moment) → i < length calls → call ≡ get_or calls i call → is_in_doubt call ≡ true
    → At calls i k left c m → 3 ≤ left → At calls (i + 1) k (left - 2) c m
at_doubt calls i k left call c m within is doubt was more =
    let d = content_after (take i calls) c in
    let e : content_after (take (i + 1) calls) c ≡ record { now = d.now; moments = d.moments ++ d.now ∷ act_of call d.now ∷ [] } = after_take calls i call c within is ∙ after_doubt call d doubt in
    let size : length (content_after (take (i + 1) calls) c).moments ≡ length d.moments + 2 = ap (λ (x : Content). length x.moments) e ∙ length-append d.moments (d.now ∷ act_of call d.now ∷ []) in
    record {
      same = was.same ∙ ap (λ (x : Content). x.now) (sym e);
      count = omega (arith, size, was.count);
      here = λ none. absurd (omega arith);
    }

pub at_sure : (calls : List Call) (i k left : ℕ) (call : Call) (c : Content) (m n : Moment) → i < length calls → call ≡ get_or calls i call → is_in_doubt call ≡ false
    → At calls i k left c m → n ≡ act_of call m → 1 ≤ left → At calls (i + 1) k (left - 1) c n
at_sure calls i k left call c m n within is sure was next more =
    let d = content_after (take i calls) c in
    let last = act_of call d.now in
    let e : content_after (take (i + 1) calls) c ≡ record { now = last; moments = d.moments ++ last ∷ [] } = after_take calls i call c within is ∙ after_sure call d sure in
    let size : length (content_after (take (i + 1) calls) c).moments ≡ length d.moments + 1 = ap (λ (x : Content). length x.moments) e ∙ length-append d.moments (last ∷ []) in
    let is_last : n ≡ last = next ∙ ap (act_of call) was.same in
    record {
      same = is_last ∙ ap (λ (x : Content). x.now) (sym e);
      count = omega (arith, size, was.count);
      here = λ none. ap (λ (x : Content). slice_get x.moments k) e ∙ within_front d.moments last [] k (omega (arith, was.count)) ∙ ap Some (sym is_last);
    }

pub count_next : (calls : List Call) (i : ℕ) (call : Call) (c : Content) → i < length calls → call ≡ get_or calls i call
    → length (content_after (take (i + 1) calls) c).moments ≡ length (content_after (take i calls) c).moments + cond (is_in_doubt call) 2 1
count_next calls i call c within is = ap (λ (x : Content). length x.moments) (after_take calls i call c within is) ∙ at_flag (is_in_doubt call) (content_after (take i calls) c)
  where
    at_flag : (b : Bool) (d : Content) → length (cond {A = Content} b (record { now = d.now; moments = d.moments ++ d.now ∷ act_of call d.now ∷ [] })
        (record { now = act_of call d.now; moments = d.moments ++ act_of call d.now ∷ [] })).moments ≡ length d.moments + cond b 2 1
    at_flag true d = length-append d.moments (d.now ∷ act_of call d.now ∷ [])
    at_flag false d = length-append d.moments (act_of call d.now ∷ [])
