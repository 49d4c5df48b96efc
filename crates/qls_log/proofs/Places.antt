-- Where records lie in the files of one epoch, and where their reading ends.
use Rattle.std.proofs.Common.{◌≡◌, ◌⊎◌, inl, inr, ℕ, suc, ◌+◌, ◌-◌, ◌*◌, ◌/◌, ◌%◌, ◌^◌, ◌<◌, ◌≤◌, Bool, true, false, cond, eqb, ltb, List, [], ◌∷◌, ◌++◌, map, length, drop, Option, Some, refl, sym, ap, ap₂, ◌∙◌, subst, arith, length-append, append_assoc, append-nil, T, ltb→lt}
use Rattle.std.proofs.Math.Nat.{div-eq_of_lt, mod-eq_of_lt, mod-eq-sub-mod}
use Rattle.std.proofs.Math.Seq.{drop-drop, drop-append_seam}
use Rattle.std.specs.List.{AllByRecursion}
use Rattle.std.specs.Int.{w64}
use Rattle.qls_shape.specs.Fields.{number_at}
use Rattle.qls_shape.specs.declared.Version.TheVariants.{Two}
use Rattle.qls_record.specs.Record.{Record, record_length}
use Rattle.qls_record.proofs.RecordLength.{record_length_least}
use Rattle.qls_filehdr.specs.declared.FileHeader.{FileHeader}
use Rattle.qls_meaning.specs.Journals.{Headed}
use Rattle.qls_meaning.specs.Reading.{Holder, Placed, Read, holder, stream, first_place, number_of, place_of, located}
use Rattle.qls_laws.specs.Readings.{Stand}
use Rattle.qls_laws.specs.Areas.{IsUnmarkedFrom, IsUnmarkedAt, UnmarkedFor}
use Rattle.qls_laws.proofs.Ends.{record_fits}
use Rattle.qls_laws.proofs.Unmarked.{held_unmarked}
use Rattle.qls_laws.proofs.CleanAreas.{number_past}
use Rattle.qls_blocks.specs.Batching.{length_of, laid_from}
use Rattle.qls_blocks.specs.Laws.{HaveCapacity}
use Rattle.qls_blocks.proofs.Stream.{holder-behind}
use Rattle.qls_pool.specs.Files.{HeadedFile}
use Rattle.qls_pool.proofs.Disks.{eqb_is}
use Rattle.qls_log.specs.Logs.{NumberedFrom}
use Rattle.qls_log.specs.Standing.{AreThoseFiles, LastIsUnmarked}
use Rattle.qls_log.specs.Reads.{read_in}
use Rattle.qls_log.proofs.Streams.{HaveSameHeads, same_length, holder_front}

-- ---- the same places, with other bytes and more files

first_front : (fs gs more : List Headed) → HaveSameHeads fs gs → first_place fs < length (stream fs) → first_place (gs ++ more) ≡ first_place fs
first_front [] [] more h l = absurd (omega arith)
first_front [] (g ∷ gs) more h l = absurd h
first_front (f ∷ fs) [] more h l = absurd h
first_front (f ∷ fs) (g ∷ gs) more h l =
    ap (λ (x : FileHeader). cond (eqb x.first 0) (length g.area + first_place (gs ++ more)) (x.first - 4096)) h.0 ∙ step (eqb f.header.first 0) refl (first_front fs gs more h.2)
  where
    step : (b : Bool) → eqb f.header.first 0 ≡ b → (first_place fs < length (stream fs) → first_place (gs ++ more) ≡ first_place fs)
        → cond b (length g.area + first_place (gs ++ more)) (f.header.first - 4096) ≡ cond b (length f.area + first_place fs) (f.header.first - 4096)
    step true e ih =
        let here : length f.area + first_place fs < length (stream (f ∷ fs)) = subst (λ b. cond b (length f.area + first_place fs) (f.header.first - 4096) < length (stream (f ∷ fs))) e l in
        ap₂ (λ m n. m + n) h.1 (ih (omega (arith, here, length-append f.area (stream fs))))
    step false e ih = refl

-- the first place of a file lies in it
abbrev pub FirstFits : ℕ → List Headed → Type 0
FirstFits cap fs = AllByRecursion (λ f. (f.header.first ≡ 0) ⊎ (f.header.first - 4096 < cap)) fs

-- no file has a first place
record NoFirst (fs : List Headed) : Type 0 where
  at_end : first_place fs ≡ length (stream fs)
  next : (gs more : List Headed) → HaveSameHeads fs gs → first_place (gs ++ more) ≡ length (stream fs) + first_place more

first_or_none : (cap : ℕ) (fs : List Headed) → HaveCapacity cap fs → FirstFits cap fs → (first_place fs < length (stream fs)) ⊎ NoFirst fs
first_or_none cap [] have fit = inr (record { at_end = refl; next = none })
  where
    none : (gs more : List Headed) → HaveSameHeads [] gs → first_place (gs ++ more) ≡ 0 + first_place more
    none [] more h = omega arith
    none (g ∷ gs) more h = absurd h
first_or_none cap (f ∷ fs) have fit = by fit.0 (first_or_none cap fs have.1 fit.1)
  where
    skipped : f.header.first ≡ 0 → first_place (f ∷ fs) ≡ length f.area + first_place fs
    skipped e = ap (λ k. cond (eqb k 0) (length f.area + first_place fs) (k - 4096)) e

    next_of : f.header.first ≡ 0 → NoFirst fs → (gs more : List Headed) → HaveSameHeads (f ∷ fs) gs → first_place (gs ++ more) ≡ length (stream (f ∷ fs)) + first_place more
    next_of e n [] more h = absurd h
    next_of e n (g ∷ gs) more h =
        ap (λ k. cond (eqb k 0) (length g.area + first_place (gs ++ more)) (k - 4096)) (ap (λ (x : FileHeader). x.first) h.0 ∙ e)
        ∙ omega (arith, h.1, n.next gs more h.2, length-append f.area (stream fs))

    none : f.header.first ≡ 0 → (first_place fs < length (stream fs)) ⊎ NoFirst fs → (first_place (f ∷ fs) < length (stream (f ∷ fs))) ⊎ NoFirst (f ∷ fs)
    none e (inl l) = inl (omega (arith, skipped e, l, length-append f.area (stream fs)))
    none e (inr n) = inr (record { at_end = skipped e ∙ omega (arith, n.at_end, length-append f.area (stream fs)); next = next_of e n })

    some : f.header.first - 4096 < cap → (b : Bool) → eqb f.header.first 0 ≡ b → (first_place fs < length (stream fs)) ⊎ NoFirst fs → (first_place (f ∷ fs) < length (stream (f ∷ fs))) ⊎ NoFirst (f ∷ fs)
    some l true e rest = none (eqb_is f.header.first 0 e) rest
    some l false e rest =
        let is : first_place (f ∷ fs) ≡ f.header.first - 4096 = ap (λ b. cond b (length f.area + first_place fs) (f.header.first - 4096)) e in
        inl (omega (arith, is, l, have.0, length-append f.area (stream fs)))

    by : (f.header.first ≡ 0) ⊎ (f.header.first - 4096 < cap) → (first_place fs < length (stream fs)) ⊎ NoFirst fs → (first_place (f ∷ fs) < length (stream (f ∷ fs))) ⊎ NoFirst (f ∷ fs)
    by (inl e) rest = none e rest
    by (inr l) rest = some l (eqb f.header.first 0) refl rest

-- where no file had a first place, the next ones begin with theirs
pub first_again : (cap : ℕ) (fs gs more : List Headed) → HaveCapacity cap fs → FirstFits cap fs → HaveSameHeads fs gs → (length (stream fs) ≤ first_place fs → first_place more ≡ 0)
    → first_place (gs ++ more) ≡ first_place fs
first_again cap fs gs more have fit h next = by (first_or_none cap fs have fit)
  where
    by : (first_place fs < length (stream fs)) ⊎ NoFirst fs → first_place (gs ++ more) ≡ first_place fs
    by (inl l) = first_front fs gs more h l
    by (inr n) = n.next gs more h ∙ omega (arith, n.at_end, next (omega (arith, n.at_end)))

number_step : (f g : Headed) (p : ℕ) (x y : Option Holder) → g.header ≡ f.header → number_of y ≡ number_of x → (b : Bool)
    → number_of (cond b (Some (record { file = g; within = p })) y) ≡ number_of (cond b (Some (record { file = f; within = p })) x)
number_step f g p x y e rest true = ap (λ (h : FileHeader). h.number) e
number_step f g p x y e rest false = rest

place_step : (f g : Headed) (p : ℕ) (x y : Option Holder) → place_of y ≡ place_of x → (b : Bool)
    → place_of (cond b (Some (record { file = g; within = p })) y) ≡ place_of (cond b (Some (record { file = f; within = p })) x)
place_step f g p x y rest true = refl
place_step f g p x y rest false = rest

number_same : (fs gs : List Headed) → HaveSameHeads fs gs → (p : ℕ) → number_of (holder gs p) ≡ number_of (holder fs p)
number_same [] [] h p = refl
number_same [] (g ∷ gs) h p = absurd h
number_same (f ∷ fs) [] h p = absurd h
number_same (f ∷ fs) (g ∷ gs) h p =
    ap (λ n. number_of (cond (ltb p n) (Some (record { file = g; within = p })) (holder gs (p - n)))) h.1
    ∙ number_step f g p (holder fs (p - length f.area)) (holder gs (p - length f.area)) h.0 (number_same fs gs h.2 (p - length f.area)) (ltb p (length f.area))

place_same : (fs gs : List Headed) → HaveSameHeads fs gs → (p : ℕ) → place_of (holder gs p) ≡ place_of (holder fs p)
place_same [] [] h p = refl
place_same [] (g ∷ gs) h p = absurd h
place_same (f ∷ fs) [] h p = absurd h
place_same (f ∷ fs) (g ∷ gs) h p =
    ap (λ n. place_of (cond (ltb p n) (Some (record { file = g; within = p })) (holder gs (p - n)))) h.1
    ∙ place_step f g p (holder fs (p - length f.area)) (holder gs (p - length f.area)) (place_same fs gs h.2 (p - length f.area)) (ltb p (length f.area))

located_same : (fs gs more : List Headed) → HaveSameHeads fs gs → (r : Placed) → r.at < length (stream fs) → r.after - 1 < length (stream fs) → located (gs ++ more) r ≡ located fs r
located_same fs gs more h r a b =
    let size = same_length fs gs h in
    let at : holder (gs ++ more) r.at ≡ holder gs r.at = holder_front gs more r.at (omega (arith, a, size)) in
    let last : holder (gs ++ more) (r.after - 1) ≡ holder gs (r.after - 1) = holder_front gs more (r.after - 1) (omega (arith, b, size)) in
    let number : number_of (holder (gs ++ more) r.at) ≡ number_of (holder fs r.at) = ap number_of at ∙ number_same fs gs h r.at in
    let place : place_of (holder (gs ++ more) r.at) ≡ place_of (holder fs r.at) = ap place_of at ∙ place_same fs gs h r.at in
    let end : number_of (holder (gs ++ more) (r.after - 1)) ≡ number_of (holder fs (r.after - 1)) = ap number_of last ∙ number_same fs gs h (r.after - 1) in
    λ i. record { what = r.what; file = number i; at = place i; end_file = end i }

-- records that stood lie where they lay
pub all_located : (fs gs more : List Headed) → HaveSameHeads fs gs → (p : ℕ) (rs : List Placed) → Stand fs p rs → map (located (gs ++ more)) rs ≡ map (located fs) rs
all_located fs gs more h p [] s = refl
all_located fs gs more h p (r ∷ rs) s =
    let fits = record_fits fs p r.what s.1 in
    ap₂ (λ (x : Read) (xs : List Read). x ∷ xs) (located_same fs gs more h r (omega (arith, fits.0, fits.1, s.0)) (omega (arith, fits.0, fits.1, s.2))) (all_located fs gs more h r.after rs s.3)

-- ---- a batch over files of one capacity, whose numbers count on

abbrev pub CountFrom : ℕ → List Headed → Type 0
CountFrom n [] = Unit {0}
CountFrom n (f ∷ fs) = (f.header.number ≡ n) × CountFrom (n + 1) fs

pub count_of : (cap n newest : ℕ) (hs : List HeadedFile) (fs : List Headed) → NumberedFrom n hs newest → AreThoseFiles cap hs fs → CountFrom n fs
count_of cap n newest [] [] m t = tt
count_of cap n newest [] (f ∷ fs) m t = absurd t
count_of cap n newest (h ∷ hs) [] m t = absurd t
count_of cap n newest (h ∷ hs) (f ∷ fs) m t = (ap (λ (x : FileHeader). x.number) t.0.header ∙ m.0, count_of cap (n + 1) newest hs fs m.1 t.1)

less : (p s : ℕ) → p < s → ltb p s ≡ true
less p s h = grind arith

not_less : (p s : ℕ) → s ≤ p → ltb p s ≡ false
not_less p s h = grind arith

less_back : (p s : ℕ) → ltb p s ≡ true → p < s
less_back p s h = ltb→lt p s (subst T (sym h) tt)

not_less_back : (p s : ℕ) → ltb p s ≡ false → s ≤ p
not_less_back p s h = grind arith

behind : (f : Headed) (fs : List Headed) (p : ℕ) → length f.area ≤ p → holder (f ∷ fs) p ≡ holder fs (p - length f.area)
behind f fs p h = ap (λ b. cond b (Some (record { file = f; within = p })) (holder fs (p - length f.area))) (not_less p (length f.area) h)

within : (f : Headed) (fs : List Headed) (p : ℕ) → p < length f.area → holder (f ∷ fs) p ≡ Some (record { file = f; within = p })
within f fs p h = ap (λ b. cond b (Some (record { file = f; within = p })) (holder fs (p - length f.area))) (less p (length f.area) h)

divided : (capacity p : ℕ) → 0 < capacity → capacity ≤ p → p / capacity ≡ suc ((p - capacity) / capacity)
divided capacity p some h = grind arith

-- the file that holds a place, and the place in it, are those that division finds
record IsSpotOf (cap n p : ℕ) (o : Option Holder) : Type 0 where
  number : number_of o ≡ n + p / cap
  place : place_of o ≡ 4096 + p % cap

spot_there : (cap p n : ℕ) (fs : List Headed) → 0 < cap → HaveCapacity cap fs → CountFrom n fs → p < length (stream fs) → IsSpotOf cap n p (holder fs p)
spot_there cap p n [] some have counts l = absurd (omega arith)
spot_there cap p n (f ∷ fs) some have counts l =
    go (ltb p cap) refl (λ le. spot_there cap (p - cap) (n + 1) fs some have.1 counts.1 (omega (arith, l, le, have.0, length-append f.area (stream fs))))
  where
    go : (b : Bool) → ltb p cap ≡ b → (cap ≤ p → IsSpotOf cap (n + 1) (p - cap) (holder fs (p - cap))) → IsSpotOf cap n p (holder (f ∷ fs) p)
    go true e more =
        let lt = less_back p cap e in
        let is : holder (f ∷ fs) p ≡ Some (record { file = f; within = p }) = within f fs p (omega (arith, lt, have.0)) in
        record {
          number = ap number_of is ∙ counts.0 ∙ omega (arith, div-eq_of_lt {n = p} {m = cap} lt);
          place = ap place_of is ∙ ap (λ k. 4096 + k) (sym (mod-eq_of_lt {n = p} {m = cap} lt));
        }
    go false e more =
        let le = not_less_back p cap e in
        let is : holder (f ∷ fs) p ≡ holder fs (p - cap) = behind f fs p (omega (arith, le, have.0)) ∙ ap (λ k. holder fs (p - k)) have.0 in
        let rest = more le in
        record {
          number = ap number_of is ∙ rest.number ∙ omega (arith, divided cap p some le);
          place = ap place_of is ∙ rest.place ∙ ap (λ k. 4096 + k) (sym (mod-eq-sub-mod {n = p} {m = cap} le));
        }

pub laid_located : (cap present q : ℕ) (before fs : List Headed) (rs : List Record) → 0 < cap → HaveCapacity cap fs → CountFrom present fs → q + length_of rs ≤ length (stream fs)
    → map (located (before ++ fs)) (laid_from (length (stream before) + q) rs) ≡ map (read_in cap present) (laid_from q rs)
laid_located cap present q before fs [] some have counts l = refl
laid_located cap present q before fs (r ∷ rs) some have counts l =
    let k : ℕ = length (stream before) in
    let len : ℕ = record_length Two r in
    let least : 128 ≤ len = record_length_least Two r in
    let start = spot_there cap q present fs some have counts (omega (arith, least, l)) in
    let end = spot_there cap (q + len - 1) present fs some have counts (omega (arith, least, l)) in
    let held : holder (before ++ fs) (k + q) ≡ holder fs q = holder-behind before fs q in
    let last : holder (before ++ fs) (k + q + len - 1) ≡ holder fs (q + len - 1) = ap (holder (before ++ fs)) (omega (arith, least)) ∙ holder-behind before fs (q + len - 1) in
    let number = ap number_of held ∙ start.number in
    let place = ap place_of held ∙ start.place in
    let end_number = ap number_of last ∙ end.number in
    let next : k + q + len ≡ k + (q + len) = omega arith in
    ap₂ (λ (x : Read) (xs : List Read). x ∷ xs) (λ i. record { what = r; file = number i; at = place i; end_file = end_number i })
    (ap (λ p. map (located (before ++ fs)) (laid_from p rs)) next ∙ laid_located cap present (q + len) before fs rs some have counts (omega (arith, l)))

-- ---- what lies behind

pub later_unmarked : (u v : ℕ) (fs : List Headed) → u ≤ v → LastIsUnmarked u fs → LastIsUnmarked v fs
later_unmarked u v [] h k = tt
later_unmarked u v (f ∷ []) h k = λ unit from room. k unit (omega (arith, h, from)) room
later_unmarked u v (f ∷ g ∷ fs) h k = later_unmarked u v (g ∷ fs) h k

tail_same : (q cap : ℕ) (a b x y : List ℕ) → length a ≡ cap → length b ≡ cap → drop q (a ++ x) ≡ drop q (b ++ y) → drop (q - cap) x ≡ drop (q - cap) y
tail_same q cap a b x y sa sb e = sym (past a x sa) ∙ ap (drop (cap - q)) e ∙ past b y sb
  where
    past : (a x : List ℕ) → length a ≡ cap → drop (cap - q) (drop q (a ++ x)) ≡ drop (q - cap) x
    past a x s =
        drop-drop (cap - q) q (a ++ x) ∙ ap (λ k. drop k (a ++ x)) (omega (arith, s)) ∙ sym (drop-drop (q - cap) (length a) (a ++ x)) ∙ ap (drop (q - cap)) (drop-append_seam a x)

number_behind : (q k : ℕ) (a b : List ℕ) → q ≤ k → drop q a ≡ drop q b → number_at w64 k a ≡ number_at w64 k b
number_behind q k a b h e =
    ap (λ n. number_at w64 n a) (omega (arith, h)) ∙ sym (number_past q (k - q) a) ∙ ap (number_at w64 (k - q)) e ∙ number_past q (k - q) b ∙ ap (λ n. number_at w64 n b) (omega (arith, h))

-- with the same bytes behind, the last file is unmarked there as before
pub unmarked_again : (cap u q : ℕ) (hs : List HeadedFile) (fs gs : List Headed) → AreThoseFiles cap hs fs → AreThoseFiles cap hs gs → drop q (stream gs) ≡ drop q (stream fs) → q ≤ cap * (length hs - 1) + u → LastIsUnmarked u fs
    → LastIsUnmarked u gs
unmarked_again cap u q [] [] [] s t e l k = tt
unmarked_again cap u q [] [] (g ∷ gs) s t e l k = absurd t
unmarked_again cap u q [] (f ∷ fs) gs s t e l k = absurd s
unmarked_again cap u q (h ∷ hs) [] gs s t e l k = absurd s
unmarked_again cap u q (h ∷ hs) (f ∷ fs) [] s t e l k = absurd t
unmarked_again cap u q (h ∷ []) (f ∷ []) (g ∷ []) s t e l k = λ unit from room is.
    let low : q ≤ u = omega (arith, l, none cap) in
    let same : drop q g.area ≡ drop q f.area = ap (drop q) (sym (append-nil g.area)) ∙ e ∙ ap (drop q) (append-nil f.area) in
    k unit from (omega (arith, room, s.0.area, t.0.area)) (sym (number_behind q (128 * unit + 8) g.area f.area (omega (arith, low, from)) same) ∙ is ∙ ap (λ (x : FileHeader). x.serial) (t.0.header ∙ sym s.0.header))
  where
    none : (c : ℕ) → c * (1 - 1) ≡ 0
    none c = omega arith
unmarked_again cap u q (h ∷ []) (f ∷ f2 ∷ fs) gs s t e l k = absurd s.1
unmarked_again cap u q (h ∷ []) (f ∷ []) (g ∷ g2 ∷ gs) s t e l k = absurd t.1
unmarked_again cap u q (h ∷ h2 ∷ hs) (f ∷ []) gs s t e l k = absurd s.1
unmarked_again cap u q (h ∷ h2 ∷ hs) (f ∷ f2 ∷ fs) (g ∷ []) s t e l k = absurd t.1
unmarked_again cap u q (h ∷ h2 ∷ hs) (f ∷ f2 ∷ fs) (g ∷ g2 ∷ gs) s t e l k =
    unmarked_again cap u (q - cap) (h2 ∷ hs) (f2 ∷ fs) (g2 ∷ gs) s.1 t.1 (tail_same q cap g.area f.area (stream (g2 ∷ gs)) (stream (f2 ∷ fs)) t.0.area s.0.area e)
    (omega (arith, l, more cap (length hs))) k
  where
    next : (c n : ℕ) → c * suc n ≡ c * n + c
    next c n = grind arith

    more : (c n : ℕ) → c * (suc (suc n) - 1) ≡ c * (suc n - 1) + c
    more c n = ap (λ k. c * k) (omega arith) ∙ next c n ∙ ap (λ k. c * k + c) (omega arith)

-- ---- the end of the reading

record Ending (fs : List Headed) : Type 0 where
  front : List Headed
  last : Headed
  is : fs ≡ front ++ last ∷ []

ending : (f : Headed) (fs : List Headed) → Ending (f ∷ fs)
ending f [] = record { front = []; last = f; is = refl }
ending f (g ∷ fs) = let e = ending g fs in record { front = f ∷ e.front; last = e.last; is = ap (λ (xs : List Headed). f ∷ xs) e.is }

last_of_front : (u : ℕ) (front : List Headed) (f : Headed) → LastIsUnmarked u (front ++ f ∷ []) → IsUnmarkedFrom f.header.serial u f.area
last_of_front u [] f k = k
last_of_front u (g ∷ []) f k = k
last_of_front u (g ∷ h ∷ front) f k = last_of_front u (h ∷ front) f k

all_last : (P : Headed → Type 0) (front : List Headed) (f : Headed) → AllByRecursion P (front ++ f ∷ []) → P f
all_last P [] f h = h.0
all_last P (g ∷ front) f h = all_last P front f h.1

all_front : (P : Headed → Type 0) (front : List Headed) (f : Headed) → AllByRecursion P (front ++ f ∷ []) → AllByRecursion P front
all_front P [] f h = tt
all_front P (g ∷ front) f h = (h.0, all_front P front f h.1)

stream_length : (cap : ℕ) (fs : List Headed) → HaveCapacity cap fs → length (stream fs) ≡ cap * length fs
stream_length cap [] h = none cap
  where
    none : (c : ℕ) → 0 ≡ c * 0
    none c = omega arith
stream_length cap (f ∷ fs) h = length-append f.area (stream fs) ∙ ap₂ (λ m n. m + n) h.0 (stream_length cap fs h.1) ∙ more cap (length fs)
  where
    more : (c n : ℕ) → c + c * n ≡ c * suc n
    more c n = grind arith

-- no record can stand at the front of the first of these files
abbrev pub FrontIsUnmarked : List Headed → Type 0
FrontIsUnmarked [] = Unit {0}
FrontIsUnmarked (f ∷ fs) = (f.header.serial < 2 ^ 64) × (128 ≤ length f.area) × IsUnmarkedFrom f.header.serial 0 f.area

-- no record stands behind what is unmarked in the last file, nor at the front of the file behind it
pub unmarked_then : (cap u unit : ℕ) (fs more : List Headed) → HaveCapacity cap fs → AllByRecursion (λ f. f.header.serial < 2 ^ 64) fs → 0 < length fs → u ≡ 128 * unit → u ≤ cap → cap % 128 ≡ 0 → LastIsUnmarked u fs
    → FrontIsUnmarked more → IsUnmarkedAt (fs ++ more) (cap * (length fs - 1) + u)
unmarked_then cap u unit [] more have fit some at low whole k front = absurd (omega arith)
unmarked_then cap u unit (g ∷ gs) more have fit some at low whole k front =
    let e : Ending (g ∷ gs) = ending g gs in
    let f : Headed = e.last in
    let parts : HaveCapacity cap (e.front ++ f ∷ []) = subst (HaveCapacity cap) e.is have in
    let size : length f.area ≡ cap = all_last (λ f. length f.area ≡ cap) e.front f parts in
    let serial : f.header.serial < 2 ^ 64 = all_last (λ f. f.header.serial < 2 ^ 64) e.front f (subst (AllByRecursion (λ f. f.header.serial < 2 ^ 64)) e.is fit) in
    let u_last : IsUnmarkedFrom f.header.serial u f.area = last_of_front u e.front f (subst (LastIsUnmarked u) e.is k) in
    let count : length (g ∷ gs) ≡ length e.front + 1 = ap length e.is ∙ length-append e.front (f ∷ []) in
    let before : cap * (length (g ∷ gs) - 1) ≡ length (stream e.front) =
    ap (λ n. cap * n) (omega (arith, count)) ∙ sym (stream_length cap e.front (all_front (λ f. length f.area ≡ cap) e.front f parts)) in
    let all : (g ∷ gs) ++ more ≡ e.front ++ f ∷ more = ap (λ (fs : List Headed). fs ++ more) e.is ∙ append_assoc e.front (f ∷ []) more in
    let held : holder (e.front ++ f ∷ more) (length (stream e.front) + u) ≡ holder (f ∷ more) u = holder-behind e.front (f ∷ more) u in
    subst (λ n. IsUnmarkedAt ((g ∷ gs) ++ more) (n + u)) (sym before)
    (subst (λ (fs : List Headed). IsUnmarkedAt fs (length (stream e.front) + u)) (sym all)
    (by f e.front size serial u_last held (Rattle.std.proofs.lemmas.Bool.cases_lt u cap)))
  where
    at_front : (fs cs : List Headed) (p : ℕ) → FrontIsUnmarked cs → holder fs p ≡ holder cs 0 → IsUnmarkedAt fs p
    at_front fs [] p c is = subst (λ (o : Option Holder). UnmarkedFor o (drop p (stream fs))) (sym is) tt
    at_front fs (c ∷ cs) p u is =
        held_unmarked fs p 0 (record { file = c; within = 0 }) (is ∙ within c cs 0 (omega (arith, u.1))) u.0 refl (omega (arith, u.1)) u.2

    by : (f : Headed) (front : List Headed) → length f.area ≡ cap → f.header.serial < 2 ^ 64 → IsUnmarkedFrom f.header.serial u f.area → holder (front ++ f ∷ more) (length (stream front) + u) ≡ holder (f ∷ more) u
        → (u < cap) ⊎ (cap ≤ u) → IsUnmarkedAt (front ++ f ∷ more) (length (stream front) + u)
    by f before size serial k held (inl l) =
        held_unmarked (before ++ f ∷ more) (length (stream before) + u) unit (record { file = f; within = u }) (held ∙ within f more u (omega (arith, l, size))) serial at (omega (arith, l, at, size, whole))
        (subst (λ n. IsUnmarkedFrom f.header.serial n f.area) at k)
    by f before size serial k held (inr l) =
        at_front (before ++ f ∷ more) more (length (stream before) + u) front (held ∙ behind f more u (omega (arith, l, size)) ∙ ap (holder more) (omega (arith, l, low, size)))

-- nor at the end of the stream
pub unmarked_end : (cap u unit : ℕ) (fs : List Headed) → HaveCapacity cap fs → AllByRecursion (λ f. f.header.serial < 2 ^ 64) fs → 0 < length fs → u ≡ 128 * unit → u ≤ cap → cap % 128 ≡ 0 → LastIsUnmarked u fs
    → IsUnmarkedAt fs (cap * (length fs - 1) + u)
unmarked_end cap u unit fs have fit some at low whole k =
    subst (λ (gs : List Headed). IsUnmarkedAt gs (cap * (length fs - 1) + u)) (append-nil fs) (unmarked_then cap u unit fs [] have fit some at low whole k tt)
