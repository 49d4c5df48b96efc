-- What holds of the slots still holds after a record is put behind the others, gets another status or goes out.
use Rattle.std.proofs.Common.{◌≡◌, ℕ, zero, suc, ◌+◌, ◌<◌, ◌≤◌, Bool, true, false, List, [], ◌∷◌, ◌++◌, length, take, drop, Option, Some, None, is_some, refl, ap, sym, subst, ◌∙◌, arith, length-append}
use Rattle.std.specs.List.{cons_option}
use Rattle.std.proofs.lemmas.List.Elements.{filter_map-append}
use Rattle.qls_enqmap.specs.declared.Held.{Held}
use Rattle.qls_model.specs.declared.machine.Status.{Status}
use Rattle.qls_enqmap.specs.Records.{AllBelow, RidsFrom, with_status, without}
use Rattle.qls_enqmap.proofs.Rising.{files_status, files_without}
use Rattle.qls_enqmap.specs.Slots.{Slots, held_in, occupied, none_of, first_of, last_of, last_file, HasRid, RisesFrom, RidsBelow, FilesRise, AreCounted, IsKept}
use Rattle.qls_enqmap.specs.declared.blocks.Blocks.{Blocks}

-- ---- files

rises_more : (file : ℕ) (hs : List Held) (h : Held) → FilesRise file hs → last_file file hs ≤ h.file → FilesRise file (hs ++ h ∷ [])
rises_more file [] h r l = (l, tt)
rises_more file (g ∷ hs) h r l = (r.0, rises_more g.file hs h r.1 l)

pub files_more : (hs : List Held) (h : Held) (file : ℕ) → h.file ≡ file → FilesRise 0 hs → last_file 0 hs ≤ file → FilesRise 0 (hs ++ h ∷ [])
files_more hs h file e r l = rises_more 0 hs h r (omega arith)

pub files_first : (es : Slots) (h : Held) → length es ≡ 0 → FilesRise 0 (held_in es ++ h ∷ [])
files_first [] h e = (omega arith, tt)
files_first (x ∷ es) h e = absurd (omega arith)

-- ---- a record put behind the others

below_one : (v : Option Held) (k rid : ℕ) → HasRid k v → is_some v ≡ true → AllBelow rid (cons_option v []) → k < rid
below_one None k rid h s b = absurd (cc)
below_one (Some g) k rid h s b = subst (λ n. n < rid) h b.0

below_rest : (v : Option Held) (rid : ℕ) (hs : List Held) → AllBelow rid (cons_option v hs) → AllBelow rid hs
below_rest None rid hs b = b
below_rest (Some g) rid hs b = b.1

pub rids_below : (n rid : ℕ) (es : Slots) → RisesFrom n es → last_of (occupied es) ≡ true → AllBelow rid (held_in es) → RidsBelow rid es
rids_below n rid [] r l b = tt
rids_below n rid (e ∷ []) r l b = (below_one e.1 e.0 rid r.1 l b, tt)
rids_below n rid (e ∷ f ∷ es) r l b =
    let more : RidsBelow rid (f ∷ es) = rids_below (e.0 + 1) rid (f ∷ es) r.2 l (below_rest e.1 rid (held_in (f ∷ es)) b) in
    (omega (arith, more.0, r.2.0), more)

rises_append : (n : ℕ) (h : Held) (es : Slots) → n ≤ h.rid → RidsBelow h.rid es → RisesFrom n es → RisesFrom n (es ++ (h.rid, Some h) ∷ [])
rises_append n h [] l b r = (l, refl, tt)
rises_append n h (e ∷ es) l b r = (r.0, r.1, rises_append (e.0 + 1) h es (omega (arith, b.0)) b.1 r.2)

none_more : (n : ℕ) (bs : List Bool) → n ≤ length bs → none_of (take n bs) ≡ true → none_of (take n (bs ++ true ∷ [])) ≡ true
none_more zero bs l h = refl
none_more (suc n) [] l h = absurd (omega arith)
none_more (suc n) (true ∷ bs) l h = absurd (cc)
none_more (suc n) (false ∷ bs) l h = none_more n bs (omega arith) h

first_more : (n : ℕ) (bs : List Bool) → n ≤ length bs → first_of (drop n bs) ≡ true → first_of (drop n (bs ++ true ∷ [])) ≡ true
first_more zero [] l h = refl
first_more zero (b ∷ bs) l h = h
first_more (suc n) [] l h = absurd (omega arith)
first_more (suc n) (b ∷ bs) l h = first_more n bs (omega arith) h

last_more : (bs : List Bool) → last_of (bs ++ true ∷ []) ≡ true
last_more [] = refl
last_more (b ∷ []) = refl
last_more (b ∷ c ∷ bs) = last_more (c ∷ bs)

occupied_append : (es : Slots) (k : ℕ) (h : Held) → occupied (es ++ (k, Some h) ∷ []) ≡ occupied es ++ true ∷ []
occupied_append [] k h = refl
occupied_append (e ∷ es) k h = ap (λ bs. is_some e.1 ∷ bs) (occupied_append es k h)

long_occupied : (es : Slots) → length (occupied es) ≡ length es
long_occupied [] = refl
long_occupied (e ∷ es) = ap suc (long_occupied es)

pub held_append : (es : Slots) (h : Held) → held_in (es ++ (h.rid, Some h) ∷ []) ≡ held_in es ++ h ∷ []
held_append es h = filter_map-append (λ e. e.1) es ((h.rid, Some h) ∷ [])

count_more : (hs : List Held) (h : Held) (count : ℕ) → count ≡ length hs → count + 1 ≡ length (hs ++ h ∷ [])
count_more hs h count e = omega (arith, length-append hs (h ∷ []))

pub kept_more : (es us : Slots) (blocks later : Blocks) (h : Held) (count start : ℕ) (rising more : Bool) → IsKept es blocks count start rising → RidsBelow h.rid es
    → us ≡ es ++ (h.rid, Some h) ∷ [] → AreCounted later us → (more ≡ true → FilesRise 0 (held_in es ++ h ∷ [])) → IsKept us later (count + 1) start more
kept_more es us blocks later h count start rising more k b e a f =
    let bits = occupied_append es h.rid h in
    let l : start ≤ length (occupied es) = omega (arith, long_occupied es, k.within) in
    subst (λ x. AreCounted later x → IsKept x later (count + 1) start more) (sym e) (λ d. record {
      blocks_counted = d;
      rises = rises_append 0 h es (omega arith) b k.rises;
      counted = count_more (held_in es) h count k.counted ∙ sym (ap length (held_append es h));
      within = omega (arith, k.within, length-append es ((h.rid, Some h) ∷ []));
      holes = subst (λ bs. none_of (take start bs) ≡ true) (sym bits) (none_more start (occupied es) l k.holes);
      first = subst (λ bs. first_of (drop start bs) ≡ true) (sym bits) (first_more start (occupied es) l k.first);
      last = subst (λ bs. last_of bs ≡ true) (sym bits) (last_more (occupied es));
      files = λ t. subst (λ hs. FilesRise 0 hs) (sym (held_append es h)) (f t);
    }) a

pub few : (es : Slots) → length (held_in es) ≤ length es
few [] = omega arith
few (e ∷ es) = few_by e.1 (held_in es) (length es) (few es)
  where
    few_by : (v : Option Held) (hs : List Held) (n : ℕ) → length hs ≤ n → length (cons_option v hs) ≤ suc n
    few_by None hs n l = omega arith
    few_by (Some g) hs n l = omega arith

-- ---- another status

pub kept_status : (es us : Slots) (blocks : Blocks) (count start : ℕ) (rising : Bool) → IsKept es blocks count start rising → AreCounted blocks us → RisesFrom 0 us → occupied us ≡ occupied es
    → length us ≡ length es → count ≡ length (held_in us) → (FilesRise 0 (held_in es) → FilesRise 0 (held_in us)) → IsKept us blocks count start rising
kept_status es us blocks count start rising k a r o l n f = record {
  blocks_counted = a;
  rises = r;
  counted = n;
  within = omega (arith, k.within);
  holes = subst (λ bs. none_of (take start bs) ≡ true) (sym o) k.holes;
  first = subst (λ bs. first_of (drop start bs) ≡ true) (sym o) k.first;
  last = subst (λ bs. last_of bs ≡ true) (sym o) k.last;
  files = λ t. f (k.files t);
}

status_length : (rid : ℕ) (s : Status) (hs : List Held) → length (with_status rid s hs) ≡ length hs
status_length rid s [] = refl
status_length rid s (h ∷ hs) = ap suc (status_length rid s hs)

pub same_count : (rid : ℕ) (s : Status) (es us : Slots) (count : ℕ) → count ≡ length (held_in es) → held_in us ≡ with_status rid s (held_in es) → count ≡ length (held_in us)
same_count rid s es us count n e = n ∙ sym (ap length e ∙ status_length rid s (held_in es))

pub files_set : (rid : ℕ) (s : Status) (es us : Slots) → held_in us ≡ with_status rid s (held_in es) → FilesRise 0 (held_in es) → FilesRise 0 (held_in us)
files_set rid s es us e f = subst (λ hs. FilesRise 0 hs) (sym e) (files_status 0 rid s (held_in es) f)

-- ---- a record goes out

-- the slots after one went out, and after they were put in order
pub kept_less : (rid : ℕ) (es us vs : Slots) (blocks later : Blocks) (count less start next : ℕ) (rising : Bool) → IsKept es blocks count start rising → AreCounted later vs
    → held_in us ≡ without rid (held_in es) → length (held_in us) + 1 ≡ length (held_in es) → count ≡ less + 1
    → held_in vs ≡ held_in us → RisesFrom 0 vs → next ≤ length vs → none_of (take next (occupied vs)) ≡ true → first_of (drop next (occupied vs)) ≡ true → last_of (occupied vs) ≡ true
    → IsKept vs later less next rising
kept_less rid es us vs blocks later count less start next rising k a left fewer n same rises within holes first last = record {
  blocks_counted = a;
  rises = rises;
  counted = let c : less ≡ length (held_in us) = omega (arith, k.counted) in c ∙ sym (ap length same);
  within = within;
  holes = holes;
  first = first;
  last = last;
  files = λ t. subst (λ hs. FilesRise 0 hs) (sym (same ∙ left)) (files_without 0 rid (held_in es) (k.files t));
}

-- ---- the ids rise

rids_by : (n k : ℕ) (v : Option Held) (hs : List Held) → n ≤ k → HasRid k v → RidsFrom (k + 1) hs → RidsFrom n (cons_option v hs)
rids_by n k None hs l h r = rids_later n (k + 1) hs (omega arith) r
  where
    rids_later : (m n : ℕ) (hs : List Held) → m ≤ n → RidsFrom n hs → RidsFrom m hs
    rids_later m n [] l r = tt
    rids_later m n (h ∷ hs) l r = (omega (arith, r.0), r.1)
rids_by n k (Some g) hs l h r = (subst (λ m. n ≤ m) (sym h) l, subst (λ m. RidsFrom (m + 1) hs) (sym h) r)

pub rids_rise : (n : ℕ) (es : Slots) → RisesFrom n es → RidsFrom n (held_in es)
rids_rise n [] r = tt
rids_rise n (e ∷ es) r = rids_by n e.0 e.1 (held_in es) r.0 r.1 (rids_rise (e.0 + 1) es r.2)

-- ---- ids put one after another

pub below_more : (n m : ℕ) (h : Held) (hs : List Held) → AllBelow n hs → n ≤ m → h.rid < m → AllBelow m (hs ++ h ∷ [])
below_more n m h [] b l r = (r, tt)
below_more n m h (g ∷ hs) b l r = (omega (arith, b.0), below_more n m h hs b.1 l r)
