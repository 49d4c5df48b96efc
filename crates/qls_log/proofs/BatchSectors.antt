-- Which sectors of a log's files the writes of a batch leave unwritten.
use Rattle.std.proofs.Common.{◌≡◌, ℕ, suc, ◌+◌, ◌-◌, ◌*◌, ◌<◌, ◌≤◌, true, false, List, [], ◌∷◌, ◌++◌, length, take, drop, refl, sym, ap, ◌∙◌, subst, arith, length-take, length-drop}
use Rattle.std.specs.List.{AllByRecursion}
use Rattle.qls_site.specs.Disk.{FileState, file_of, write_at}
use Rattle.qls_site.specs.Content.{Moment, on_disk}
use Rattle.qls_meaning.specs.History.{History, FreeArea, now, next, uses}
use Rattle.qls_pool.specs.Files.{HeadedFile, IdsDiffer, RestsThere, is_among}
use Rattle.qls_pool.specs.Moments.{Chain}
use Rattle.qls_pool.proofs.Steps.{differ_change}
use Rattle.qls_log.specs.Leaving.{WritesInOrder}
use Rattle.qls_log.specs.Logs.{ids}
use Rattle.qls_log.specs.Standing.{AreApart}
use Rattle.qls_log.specs.Unwritten.{IsFreeFrom, IsClear, AreWrittenTo, history_with}
use Rattle.qls_log.proofs.PartSteps.{parts_moments, parts_keep, unequal, not_among, used_after, write_meets, write_free}
use Rattle.qls_log.proofs.RestingFiles.{every, both_all, weaker_all, later_all, earlier_all, at_rest_used, at_rest_clear, resting_free}
use Rattle.qls_log.proofs.Sectors.{KeepsSectors, same_file_keeps, now_with, with_more, StaysFree, settled_next, kept_free}
use Rattle.qls_log.proofs.Takes.{other_changed}

abbrev writing : ℕ → List ℕ → FileState → FileState
writing at bytes f = record f { pending = f.pending ++ (record { at = at; bytes = bytes }) ∷ [] }

-- the first file is free from here on, and the others whole
abbrev pub AreFreeFrom : List FreeArea → History → ℕ → ℕ → List HeadedFile → Type 0
AreFreeFrom areas h cap from [] = Unit {0}
AreFreeFrom areas h cap from (f ∷ fs) = IsFreeFrom areas h cap from f.id × AllByRecursion (λ g. IsFreeFrom areas h cap 0 g.id) fs

-- these files are in use, and none of their unwritten sectors is being written
pub record AreReady (areas : List FreeArea) (h : History) (m : Moment) (hs : List HeadedFile) : Type 0 where
  pub at : now h ≡ m
  pub differ : IdsDiffer m.disk
  pub apart : AreApart hs
  pub used : AllByRecursion (λ f. uses f.id m ≡ true) hs
  pub clear : AllByRecursion (λ f. IsClear areas h f.id) hs

pub free_whole : (areas : List FreeArea) (h : History) (cap : ℕ) (hs : List HeadedFile) → AllByRecursion (λ g. IsFreeFrom areas h cap 0 g.id) hs → AreFreeFrom areas h cap 0 hs
free_whole areas h cap [] a = tt
free_whole areas h cap (f ∷ fs) a = a

-- after the first file's write the others are ready as they were
module _ (areas : List FreeArea) (h : History) (m : Moment) (f : HeadedFile) (hs : List HeadedFile) (ready : AreReady areas h m (f ∷ hs)) (from cap : ℕ) (part : List ℕ) where
  abbrev n : Moment
  n = on_disk (write_at f.id (4096 + from) part) m

  other_same : (g : HeadedFile) → ((g.id ≡ f.id) → ⊥) → file_of g.id n.disk ≡ file_of g.id m.disk
  other_same g apart = other_changed f.id g.id (writing (4096 + from) part) (λ x. refl) (unequal g.id f.id apart) m.disk

  other_keeps : (g : HeadedFile) → ((g.id ≡ f.id) → ⊥) → KeepsSectors g.id m n
  other_keeps g apart = same_file_keeps g.id m n (other_same g apart)

  ready_next : AreReady areas (next h n) n hs
  ready_next = record {
    at = now_with h (n ∷ []);
    differ = differ_change f.id (writing (4096 + from) part) (λ x. refl) m.disk ready.differ;
    apart = ready.apart.1;
    used = both_all (λ g. (g.id ≡ f.id) → ⊥) (λ g. uses g.id m ≡ true) (λ g. uses g.id n ≡ true) (λ g a u. (other_keeps g a u).0) hs ready.apart.0 ready.used.1;
    clear = every (λ g. IsClear areas (next h n) g.id) (λ g. settled_next areas h n g.id) hs;
  }

  one_free : (g : HeadedFile) → ((g.id ≡ f.id) → ⊥) → uses g.id m ≡ true → IsClear areas h g.id → IsFreeFrom areas h cap 0 g.id → IsFreeFrom areas (next h n) cap 0 g.id
  one_free g apart used clear free =
      kept_free areas h g.id (n ∷ []) cap 0 (subst (λ (x : Moment). Chain (KeepsSectors g.id) x (n ∷ [])) (sym ready.at) (other_keeps g apart, tt)) (ap (uses g.id) ready.at ∙ used) clear free

  rest_free : AllByRecursion (λ g. IsFreeFrom areas h cap 0 g.id) hs → AllByRecursion (λ g. IsFreeFrom areas (next h n) cap 0 g.id) hs
  rest_free free = all_free hs ready.apart.0 ready.used.1 ready.clear.1 free
    where
      all_free : (gs : List HeadedFile) → AllByRecursion (λ g. (g.id ≡ f.id) → ⊥) gs → AllByRecursion (λ g. uses g.id m ≡ true) gs → AllByRecursion (λ g. IsClear areas h g.id) gs
          → AllByRecursion (λ g. IsFreeFrom areas h cap 0 g.id) gs → AllByRecursion (λ g. IsFreeFrom areas (next h n) cap 0 g.id) gs
      all_free [] a u c e = tt
      all_free (g ∷ gs) a u c e = (one_free g a.0 u.0 c.0 e.0, all_free gs a.1 u.1 c.1 e.1)

-- ---- all the writes

next_product : (c k : ℕ) → c * (k + 1) ≡ c * k + c
next_product c k = grind arith

one_left : (cap v from len part : ℕ) (bytes : List ℕ) → v + cap * (1 - 1) ≡ from + length bytes → v ≤ cap → part ≡ length (take (cap - from) bytes) → from + part ≡ v
one_left cap v from len part bytes size less is = omega (arith, size, less, is, length-take (cap - from) bytes, none cap)
  where
    none : (c : ℕ) → c * (1 - 1) ≡ 0
    none c = grind arith

module _ (areas : List FreeArea) (cap v : ℕ) (less : v ≤ cap) where
  parts_written : (hs : List HeadedFile) (from : ℕ) (bytes : List ℕ) (h : History) (m : Moment) → AreReady areas h m hs → from ≤ cap → 0 < length hs → v + cap * (length hs - 1) ≡ from + length bytes → AreFreeFrom areas h cap from hs
      → WritesInOrder areas h (parts_moments cap (ids hs) from bytes m) × AreWrittenTo areas (history_with h (parts_moments cap (ids hs) from bytes m)) cap v hs
  parts_written [] from bytes h m ready low some size free = absurd (omega (arith, some))
  parts_written (f ∷ []) from bytes h m ready low some size free =
      let part : List ℕ = take (cap - from) bytes in
      let fits : from + length part ≤ cap = omega (arith, length-take (cap - from) bytes, low) in
      let ends : from + length part ≡ v = one_left cap v from (length bytes) (length part) bytes size less refl in (
        (write_meets areas h m ready.at f.id from part cap ready.used.0 free.0 fits ready.differ, tt),
        subst (λ k. IsFreeFrom areas (next h (on_disk (write_at f.id (4096 + from) part) m)) cap k f.id) ends (write_free areas h m ready.at f.id from part cap ready.used.0 free.0 fits ready.clear.0),
      )
  parts_written (f ∷ g ∷ hs) from bytes h m ready low some size free =
      let part : List ℕ = take (cap - from) bytes in
      let left : List ℕ = drop (cap - from) bytes in
      let n : Moment = on_disk (write_at f.id (4096 + from) part) m in
      let fits : from + length part ≤ cap = omega (arith, length-take (cap - from) bytes, low) in
      let more : v + (cap * length hs + cap) ≡ from + length bytes = ap (λ k. v + k) (sym (next_product cap (length hs)) ∙ ap (λ k. cap * k) (counted (length hs))) ∙ size in
      let ends : from + length part ≡ cap = omega (arith, length-take (cap - from) bytes, low, more) in
      let rest_size : v + cap * (length (g ∷ hs) - 1) ≡ 0 + length left = ap (λ k. v + cap * k) (one_less (length hs)) ∙ omega (arith, length-drop (cap - from) bytes, low, more) in
      let again : AreReady areas (next h n) n (g ∷ hs) = ready_next areas h m f (g ∷ hs) ready from cap part in
      let rest = parts_written (g ∷ hs) 0 left (next h n) n again (omega arith) (omega arith) rest_size (rest_free areas h m f (g ∷ hs) ready from cap part free.1) in
      let ms : List Moment = parts_moments cap (ids (g ∷ hs)) 0 left n in
      let own : IsFreeFrom areas (next h n) cap cap f.id =
      subst (λ k. IsFreeFrom areas (next h n) cap k f.id) ends (write_free areas h m ready.at f.id from part cap ready.used.0 free.0 fits ready.clear.0) in
      let still : IsFreeFrom areas (history_with (next h n) ms) cap cap f.id =
      kept_free areas (next h n) f.id ms cap cap
      (subst (λ (x : Moment). Chain (KeepsSectors f.id) x ms) (sym again.at) (parts_keep f.id cap (ids (g ∷ hs)) 0 left n (not_among f.id (g ∷ hs) ready.apart.0)))
      (ap (uses f.id) again.at ∙ used_after areas h m ready.at f.id from part cap ready.used.0 free.0 fits) (settled_next areas h n f.id) own in (
        (write_meets areas h m ready.at f.id from part cap ready.used.0 free.0 fits ready.differ, rest.0),
        (
          subst (λ (x : History). IsFreeFrom areas x cap cap f.id) (with_more h n ms) still,
          subst (λ (x : History). AreWrittenTo areas x cap v (g ∷ hs)) (with_more h n ms) rest.1,
        ),
      )
    where
      counted : (k : ℕ) → k + 1 ≡ suc (suc k) - 1
      counted k = omega arith

      one_less : (k : ℕ) → suc k - 1 ≡ k
      one_less k = omega arith

-- ---- with the files before them

written_join : (areas : List FreeArea) (h : History) (cap v : ℕ) (before hs : List HeadedFile) → 0 < length hs → AllByRecursion (λ f. IsFreeFrom areas h cap cap f.id) before → AreWrittenTo areas h cap v hs → AreWrittenTo areas h cap v (before ++ hs)
written_join areas h cap v [] hs some a w = w
written_join areas h cap v (b ∷ []) [] some a w = absurd (omega (arith, some))
written_join areas h cap v (b ∷ []) (f ∷ hs) some a w = (a.0, w)
written_join areas h cap v (b ∷ d ∷ before) hs some a w = (a.0, written_join areas h cap v (d ∷ before) hs some a.1 w)

apart_later : (before hs : List HeadedFile) → AreApart (before ++ hs) → AreApart hs
apart_later [] hs a = a
apart_later (b ∷ before) hs a = apart_later before hs a.1

apart_before : (before hs : List HeadedFile) → AreApart (before ++ hs) → AllByRecursion (λ b. is_among b.id (ids hs) ≡ false) before
apart_before [] hs a = tt
apart_before (b ∷ before) hs a = (not_among b.id hs (later_all (λ g. (g.id ≡ b.id) → ⊥) before hs a.0), apart_before before hs a.1)

-- the files before are written whole, and stay so
pub batch_written : (areas : List FreeArea) (cap v : ℕ) (before hs : List HeadedFile) (from : ℕ) (bytes : List ℕ) (h : History) (m : Moment) → v ≤ cap → now h ≡ m → IdsDiffer m.disk → AreApart (before ++ hs)
    → AllByRecursion (λ f. RestsThere f m.disk) (before ++ hs) → from ≤ cap → 0 < length hs → v + cap * (length hs - 1) ≡ from + length bytes → AllByRecursion (λ f. IsFreeFrom areas h cap cap f.id) before → AreFreeFrom areas h cap from hs
    → WritesInOrder areas h (parts_moments cap (ids hs) from bytes m) × AreWrittenTo areas (history_with h (parts_moments cap (ids hs) from bytes m)) cap v (before ++ hs)
batch_written areas cap v before hs from bytes h m less at differ apart rests low some size full free =
    let ms : List Moment = parts_moments cap (ids hs) from bytes m in
    let there : AllByRecursion (λ f. RestsThere f (now h).disk) (before ++ hs) = subst (λ (x : Moment). AllByRecursion (λ f. RestsThere f x.disk) (before ++ hs)) (sym at) rests in
    let ready : AreReady areas h m hs = record {
      at = at;
      differ = differ;
      apart = apart_later before hs apart;
      used = weaker_all (λ f. RestsThere f m.disk) (λ f. uses f.id m ≡ true) (λ f r. at_rest_used f m r) hs (later_all (λ f. RestsThere f m.disk) before hs rests);
      clear = weaker_all (λ f. RestsThere f (now h).disk) (λ f. IsClear areas h f.id) (λ f r. at_rest_clear areas h f r) hs (later_all (λ f. RestsThere f (now h).disk) before hs there);
    } in
    let wrote = parts_written areas cap v less hs from bytes h m ready low some size free in
    let chains : AllByRecursion (λ b. Chain (KeepsSectors b.id) (now h) ms) before =
    weaker_all (λ b. is_among b.id (ids hs) ≡ false) (λ b. Chain (KeepsSectors b.id) (now h) ms)
    (λ b e. subst (λ (x : Moment). Chain (KeepsSectors b.id) x ms) (sym at) (parts_keep b.id cap (ids hs) from bytes m e)) before (apart_before before hs apart) in
    let still : AllByRecursion (λ f. IsFreeFrom areas (history_with h ms) cap cap f.id) before =
    both_all (λ f. StaysFree areas (history_with h ms) h cap f.id) (λ f. IsFreeFrom areas h cap cap f.id) (λ f. IsFreeFrom areas (history_with h ms) cap cap f.id) (λ f s e. s cap e) before
    (resting_free areas h ms cap before (earlier_all (λ f. RestsThere f (now h).disk) before hs there) chains) full in
    (wrote.0, written_join areas (history_with h ms) cap v before hs some still wrote.1)
