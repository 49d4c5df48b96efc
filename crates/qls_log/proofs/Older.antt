-- The files of earlier openings in a log's journal, and those of this one, which are an epoch of their own.
use Rattle.std.proofs.Common.{◌≡◌, ◌⊎◌, inl, inr, ℕ, zero, suc, ◌+◌, ◌-◌, ◌*◌, ◌<◌, ◌≤◌, Bool, true, false, cond, ◌==◌, eqb, List, [], ◌∷◌, ◌++◌, map, length, take, drop, IsTrue, Ok, refl, sym, ap, ap₂, ◌∙◌, subst, arith, append-nil, append_assoc, take-append-drop, length-append}
use Rattle.std.proofs.lemmas.Bool.{cases_lt, and_parts}
use Rattle.std.proofs.lemmas.Bool.Decides.{nat_tests}
use Rattle.std.proofs.Math.Nat.{mul-le-mul_right}
use Rattle.std.proofs.Math.Seq.{drop-append_seam, drop-drop, take-append_seam}
use Rattle.std.proofs.lemmas.List.{drop-append-le, take-append-le}
use Rattle.std.specs.List.{AllByRecursion}
use Rattle.qls_filehdr.specs.declared.FileHeader.{FileHeader}
use Rattle.qls_filehdr.specs.Limits.{is_counter, is_legal_header}
use Rattle.qls_filehdr.proofs.HeaderTrip.{legal_parts, most_of}
use Rattle.qls_site.specs.Disk.{Disk}
use Rattle.qls_meaning.specs.Journals.{Headed, epochs}
use Rattle.qls_meaning.specs.Reading.{Read, stream, epoch_reading, epoch_end, located, reads_of}
use Rattle.qls_meaning.specs.Dead.{after_end, past_in}
use Rattle.qls_laws.proofs.Claimed.{HaveEpoch, one_run}
use Rattle.qls_epochs.proofs.Turns.{runs, Differs, epochs_apart}
use Rattle.qls_epochs.proofs.Ended.{past_on, reads_on}
use Rattle.qls_pool.specs.Files.{HeadedFile}
use Rattle.qls_log.specs.declared.opening.Opening.{Opening}
use Rattle.qls_log.specs.Logs.{LogState, IsSound, IsOfOpening, IsOfJournal, EndBefore, header_for, capacity_in}
use Rattle.qls_log.specs.Standing.{AreThoseFiles, files_on, end_of}
use Rattle.qls_log.specs.Reads.{IsRead}
use Rattle.qls_log.specs.Steps.{room_in}
use Rattle.qls_log.proofs.Laid.{those_length}
use Rattle.qls_log.proofs.Appends.{those_split, all_drop}
use Rattle.qls_log.proofs.Shifted.{stream_both}

-- ---- headers

pub of_journal : (o : Opening) (h : HeadedFile) → IsOfOpening o h → IsOfJournal o h
of_journal o h e =
    e ∙ ap (λ n. record (header_for o h.header.serial h.header.number (record { first = h.header.first; rid = h.header.rid })) { epoch = n }) (sym (ap (λ (x : FileHeader). x.epoch) e))

pub all_of_journal : (o : Opening) (hs : List HeadedFile) → AllByRecursion (IsOfOpening o) hs → AllByRecursion (IsOfJournal o) hs
all_of_journal o [] own = tt
all_of_journal o (h ∷ hs) own = (of_journal o h own.0, all_of_journal o hs own.1)

-- ---- both parts of a list

pub all_take : (P : HeadedFile → Type 0) (k : ℕ) (hs : List HeadedFile) → AllByRecursion P hs → AllByRecursion P (take k hs)
all_take P zero hs h = tt
all_take P (suc k) [] h = tt
all_take P (suc k) (x ∷ hs) h = (h.0, all_take P k hs h.1)

-- the first so many without some of them, and the others
pub olds_drop : (P : HeadedFile → Type 0) (k n : ℕ) (hs : List HeadedFile) → AllByRecursion P (take n hs) → AllByRecursion P (take (n - k) (drop k hs))
olds_drop P zero n hs h = subst (λ m. AllByRecursion P (take m hs)) (less_none n) h
  where
    less_none : (n : ℕ) → n ≡ n - 0
    less_none n = omega arith
olds_drop P (suc k) zero hs h = subst (λ m. AllByRecursion P (take m (drop (suc k) hs))) (none k) tt
  where
    none : (k : ℕ) → 0 ≡ 0 - suc k
    none k = omega arith
olds_drop P (suc k) (suc n) [] h = nothing (suc n - suc k)
  where
    nothing : (m : ℕ) → AllByRecursion P (take m [])
    nothing zero = tt
    nothing (suc m) = tt
olds_drop P (suc k) (suc n) (x ∷ hs) h = subst (λ m. AllByRecursion P (take m (drop k hs))) (both n k) (olds_drop P k n hs h.1)
  where
    both : (n k : ℕ) → n - k ≡ suc n - suc k
    both n k = omega arith

pub own_drop : (P : HeadedFile → Type 0) (k n : ℕ) (hs : List HeadedFile) → AllByRecursion P (drop n hs) → AllByRecursion P (drop (n - k) (drop k hs))
own_drop P k n hs h =
    subst (AllByRecursion P) (drop-drop (k - n) n hs ∙ ap (λ m. drop m hs) (more k n) ∙ sym (drop-drop (n - k) k hs)) (all_drop P (k - n) (drop n hs) h)
  where
    more : (k n : ℕ) → n + (k - n) ≡ k + (n - k)
    more k n = omega arith

pub those_both : (cap : ℕ) (hs ks : List HeadedFile) (fs gs : List Headed) → AreThoseFiles cap hs fs → AreThoseFiles cap ks gs → AreThoseFiles cap (hs ++ ks) (fs ++ gs)
those_both cap [] ks [] gs s t = t
those_both cap [] ks (f ∷ fs) gs s t = absurd s
those_both cap (h ∷ hs) ks [] gs s t = absurd s
those_both cap (h ∷ hs) ks (f ∷ fs) gs s t = (s.0, those_both cap hs ks fs gs s.1 t)

pub those_count : (cap : ℕ) (hs : List HeadedFile) (fs : List Headed) → AreThoseFiles cap hs fs → length fs ≡ length hs
those_count cap [] [] t = refl
those_count cap [] (f ∷ fs) t = absurd t
those_count cap (h ∷ hs) [] t = absurd t
those_count cap (h ∷ hs) (f ∷ fs) t = ap suc (those_count cap hs fs t.1)

-- files that have these headers, and the same bytes in a row, are the same
pub same_files : (cap : ℕ) (hs : List HeadedFile) (fs gs : List Headed) → AreThoseFiles cap hs fs → AreThoseFiles cap hs gs → stream fs ≡ stream gs → fs ≡ gs
same_files cap [] [] [] s t e = refl
same_files cap [] [] (g ∷ gs) s t e = absurd t
same_files cap [] (f ∷ fs) gs s t e = absurd s
same_files cap (h ∷ hs) [] gs s t e = absurd s
same_files cap (h ∷ hs) (f ∷ fs) [] s t e = absurd t
same_files cap (h ∷ hs) (f ∷ fs) (g ∷ gs) s t e =
    let size : length f.area ≡ length g.area = s.0.area ∙ sym t.0.area in
    let area : f.area ≡ g.area = sym (take-append_seam f.area (stream fs)) ∙ (λ i. take (size i) (e i)) ∙ take-append_seam g.area (stream gs) in
    let rest : stream fs ≡ stream gs = sym (drop-append_seam f.area (stream fs)) ∙ (λ i. drop (size i) (e i)) ∙ drop-append_seam g.area (stream gs) in
    let id : f.id ≡ g.id = s.0.id ∙ sym t.0.id in
    let header : f.header ≡ g.header = s.0.header ∙ sym t.0.header in
    ap₂ (λ (x : Headed) (xs : List Headed). x ∷ xs) (λ i. record { id = id i; header = header i; area = area i }) (same_files cap hs fs gs s.1 t.1 rest)

-- the files on the disk, those of the first so many and the others
pub record Halves (cap older : ℕ) (hs : List HeadedFile) (fs : List Headed) : Type 0 where
  pub past : List Headed
  pub own : List Headed
  pub is : fs ≡ past ++ own
  pub those_past : AreThoseFiles cap (take older hs) past
  pub those_own : AreThoseFiles cap (drop older hs) own
  pub count : length past ≡ older
  pub count_own : length own ≡ length hs - older
  pub rest : drop older fs ≡ own
  pub size : length (stream past) ≡ older * cap

turned : (c k : ℕ) → c * k ≡ k * c
turned c k = grind arith

take_many : (k : ℕ) (hs : List HeadedFile) → k ≤ length hs → length (take k hs) ≡ k
take_many k hs less = Rattle.std.proofs.lemmas.List.length-take-le k hs less

pub halves : (cap older : ℕ) (hs : List HeadedFile) (fs : List Headed) → older ≤ length hs → AreThoseFiles cap hs fs → Halves cap older hs fs
halves cap older hs fs less t =
    let s = those_split cap (take older hs) (drop older hs) fs (subst (λ (ks : List HeadedFile). AreThoseFiles cap ks fs) (sym (take-append-drop older hs)) t) in
    let many : length (take older hs) ≡ older = take_many older hs less in
    let count : length s.0 ≡ older = those_count cap (take older hs) s.0 s.3 ∙ many in
    record {
      past = s.0;
      own = s.1;
      is = s.2;
      those_past = s.3;
      those_own = s.4;
      count = count;
      count_own = those_count cap (drop older hs) s.1 s.4 ∙ Rattle.std.proofs.Common.length-drop older hs;
      rest = ap₂ (λ n (xs : List Headed). drop n xs) (sym count) s.2 ∙ drop-append_seam s.0 s.1;
      size = those_length cap (take older hs) s.0 s.3 ∙ ap (λ n. cap * n) many ∙ turned cap older;
    }

-- where the files of this opening begin, the next batch goes or has gone
pub older_before : (cap used older n : ℕ) → 0 < n → older ≤ n → (older ≡ n → used ≡ cap) → older * cap ≤ (n - 1) * cap + used
older_before cap used older n some less full = by (cases_lt older n)
  where
    next : (k c : ℕ) → (k + 1) * c ≡ k * c + c
    next k c = grind arith

    by : (older < n) ⊎ (n ≤ older) → older * cap ≤ (n - 1) * cap + used
    by (inl l) = let up : older * cap ≤ (n - 1) * cap = mul-le-mul_right {m = older} {n = n - 1} cap (omega (arith, l)) in omega (arith, up)
    by (inr l) =
        let is : older ≡ (n - 1) + 1 = omega (arith, l, less, some) in
        let all : older * cap ≡ (n - 1) * cap + cap = ap (λ k. k * cap) is ∙ next (n - 1) cap in
        omega (arith, all, full (omega (arith, l, less)))

-- the files before and behind a call that left the first of them alone
pub record Onward (cap older : ℕ) (hs taken : List HeadedFile) (fs gs : List Headed) : Type 0 where
  pub past : List Headed
  pub own : List Headed
  pub kept : List Headed
  pub more : List Headed
  pub was : fs ≡ past ++ own
  pub is : gs ≡ past ++ (kept ++ more)
  pub those_past : AreThoseFiles cap (take older hs) past
  pub those_own : AreThoseFiles cap (drop older hs) own
  pub those_kept : AreThoseFiles cap (drop older hs) kept
  pub those_more : AreThoseFiles cap taken more
  pub those_now : AreThoseFiles cap (drop older hs ++ taken) (kept ++ more)
  pub count : length past ≡ older
  pub count_own : length own ≡ length hs - older
  pub size : length (stream past) ≡ older * cap
  pub rest_was : drop older fs ≡ own
  pub rest_is : drop older gs ≡ kept ++ more

pub onward : (cap older : ℕ) (hs taken : List HeadedFile) (fs gs : List Headed) → older ≤ length hs → AreThoseFiles cap hs fs → AreThoseFiles cap (hs ++ taken) gs → take (older * cap) (stream gs) ≡ take (older * cap) (stream fs)
    → Onward cap older hs taken fs gs
onward cap older hs taken fs gs less s t front =
    let a : Halves cap older hs fs = halves cap older hs fs less s in
    let b : Halves cap older (hs ++ taken) gs = halves cap older (hs ++ taken) gs (omega (arith, less, length-append hs taken)) t in
    let before : AreThoseFiles cap (take older hs) b.past = subst (λ (ks : List HeadedFile). AreThoseFiles cap ks b.past) (take-append-le older hs taken less) b.those_past in
    let behind : AreThoseFiles cap (drop older hs ++ taken) b.own = subst (λ (ks : List HeadedFile). AreThoseFiles cap ks b.own) (drop-append-le older hs taken less) b.those_own in
    let parts = those_split cap (drop older hs) taken b.own behind in
    let same : b.past ≡ a.past = same_files cap (take older hs) b.past a.past before a.those_past (sym (front_of b.past b.own gs b.is b.size) ∙ front ∙ front_of a.past a.own fs a.is a.size) in
    record {
      past = a.past;
      own = a.own;
      kept = parts.0;
      more = parts.1;
      was = a.is;
      is = b.is ∙ ap₂ (λ (xs ys : List Headed). xs ++ ys) same parts.2;
      those_past = a.those_past;
      those_own = a.those_own;
      those_kept = parts.3;
      those_more = parts.4;
      those_now = subst (AreThoseFiles cap (drop older hs ++ taken)) parts.2 behind;
      count = a.count;
      count_own = a.count_own;
      size = a.size;
      rest_was = a.rest;
      rest_is = b.rest ∙ parts.2;
    }
  where
    front_of : (xs ys zs : List Headed) → zs ≡ xs ++ ys → length (stream xs) ≡ older * cap → take (older * cap) (stream zs) ≡ stream xs
    front_of xs ys zs is size = ap₂ (λ n (b : List ℕ). take n b) (sym size) (ap stream is ∙ stream_both xs ys) ∙ take-append_seam (stream xs) (stream ys)

-- ---- epochs

those_less : (cap e : ℕ) (hs : List HeadedFile) (fs : List Headed) → AreThoseFiles cap hs fs → AllByRecursion (λ h. h.header.epoch < e) hs → AllByRecursion (λ f. f.header.epoch < e) fs
those_less cap e [] [] t k = tt
those_less cap e [] (f ∷ fs) t k = absurd t
those_less cap e (h ∷ hs) [] t k = absurd t
those_less cap e (h ∷ hs) (f ∷ fs) t k = (subst (λ (x : FileHeader). x.epoch < e) (sym t.0.header) k.0, those_less cap e hs fs t.1 k.1)

pub those_epoch : (cap : ℕ) (o : Opening) (hs : List HeadedFile) (fs : List Headed) → AreThoseFiles cap hs fs → AllByRecursion (IsOfOpening o) hs → HaveEpoch o.epoch fs
those_epoch cap o [] [] t own = tt
those_epoch cap o [] (f ∷ fs) t own = absurd t
those_epoch cap o (h ∷ hs) [] t own = absurd t
those_epoch cap o (h ∷ hs) (f ∷ fs) t own = (ap (λ (x : FileHeader). x.epoch) (t.0.header ∙ own.0), those_epoch cap o hs fs t.1 own.1)

-- the files of earlier openings are of lesser epochs, and those of this one of its epoch
pub record Apart (e : ℕ) (past own : List Headed) : Type 0 where
  pub less : AllByRecursion (λ f. f.header.epoch < e) past
  pub one : HaveEpoch e own

pub apart_by : (l : LogState) (cap : ℕ) → IsSound l → (past own : List Headed) → AreThoseFiles cap (take l.older l.files) past → AreThoseFiles cap (drop l.older l.files) own → Apart l.opening.epoch past own
apart_by l cap sound past own t s = record {
  less = those_less cap l.opening.epoch (take l.older l.files) past t sound.olds;
  one = those_epoch cap l.opening (drop l.older l.files) own s sound.own;
}

pub not_none : (n : ℕ) → eqb (suc n) 0 ≡ false
not_none n = grind (arith, nat_tests)

-- whether an epoch is the journal's oldest, where these files lie before it
abbrev pub is_oldest : List Headed → Bool
is_oldest past = length past == 0

differs : (e : ℕ) (f : Headed) (fs : List Headed) (g : Headed) (gs : List Headed) → AllByRecursion (λ x. x.header.epoch < e) (f ∷ fs) → g.header.epoch ≡ e → Differs (f ∷ fs) (g ∷ gs)
differs e f [] g gs a is = subst (λ n. f.header.epoch < n) (sym is) a.0
differs e f (h ∷ fs) g gs a is = differs e h fs g gs a.1 is

-- then the own files are the last epoch
pub epochs_both : (e : ℕ) (f : Headed) (fs : List Headed) (g : Headed) (gs : List Headed) → Apart e (f ∷ fs) (g ∷ gs) → epochs ((f ∷ fs) ++ g ∷ gs) ≡ epochs (f ∷ fs) ++ (g ∷ gs) ∷ []
epochs_both e f fs g gs a =
    epochs_apart f fs g gs (differs e f fs g gs a.less a.one.0) ∙ ap (λ (es : List (List Headed)). epochs (f ∷ fs) ++ es) (one_run e g gs a.one)

-- what is read are the records of the earlier files, and then those of this epoch
pub reading_both : (e : ℕ) (past own : List Headed) → Apart e past own → reads_of true (epochs (past ++ own)) ≡ reads_of true (epochs past) ++ map (located own) (epoch_reading (is_oldest past) own)
reading_both e [] [] a = refl
reading_both e [] (g ∷ gs) a = ap (reads_of true) (one_run e g gs a.one) ∙ append-nil (map (located (g ∷ gs)) (epoch_reading true (g ∷ gs)))
reading_both e (f ∷ fs) [] a =
    ap (λ (xs : List Headed). reads_of true (epochs xs)) (append-nil (f ∷ fs)) ∙ sym (append-nil (reads_of true (epochs (f ∷ fs))))
    ∙ ap (λ b. reads_of true (epochs (f ∷ fs)) ++ map (located []) (epoch_reading b [])) (sym (not_none (length fs)))
reading_both e (f ∷ fs) (g ∷ gs) a =
    let r = runs f fs in
    ap (reads_of true) (epochs_both e f fs g gs a ∙ ap (λ (es : List (List Headed)). es ++ (g ∷ gs) ∷ []) r.is) ∙ reads_on true (f ∷ r.more) r.rest (g ∷ gs)
    ∙ ap₂ (λ (xs ys : List Read). xs ++ ys) (ap (reads_of true) (sym r.is)) (append-nil (map (located (g ∷ gs)) (epoch_reading false (g ∷ gs))))
    ∙ ap (λ b. reads_of true (epochs (f ∷ fs)) ++ map (located (g ∷ gs)) (epoch_reading b (g ∷ gs))) (sym (not_none (length fs)))

-- the bytes behind the reading are those of this epoch
pub room_both : (e : ℕ) (past own : List Headed) → Apart e past own → 0 < length own → room_in true (epochs (past ++ own)) ≡ length (stream own) - epoch_end (is_oldest past) own
room_both e past [] a some = absurd (omega (arith, some))
room_both e [] (g ∷ gs) a some = ap (room_in true) (one_run e g gs a.one)
room_both e (f ∷ fs) (g ∷ gs) a some =
    let r = runs f fs in
    ap (room_in true) (epochs_both e f fs g gs a ∙ ap (λ (es : List (List Headed)). es ++ (g ∷ gs) ∷ []) r.is) ∙ last true (f ∷ r.more) r.rest
    ∙ ap (λ b. length (stream (g ∷ gs)) - epoch_end b (g ∷ gs)) (sym (not_none (length fs)))
  where
    last : (oldest : Bool) (d : List Headed) (es : List (List Headed)) → room_in oldest ((d ∷ es) ++ (g ∷ gs) ∷ []) ≡ length (stream (g ∷ gs)) - epoch_end false (g ∷ gs)
    last oldest d [] = refl
    last oldest d (c ∷ es) = last false c es

-- the files past the reading too
pub past_both : (e : ℕ) (past own : List Headed) → Apart e past own → 0 < length own → past_in true (epochs (past ++ own)) ≡ after_end (epoch_end (is_oldest past) own) own
past_both e past [] a some = absurd (omega (arith, some))
past_both e [] (g ∷ gs) a some = ap (past_in true) (one_run e g gs a.one)
past_both e (f ∷ fs) (g ∷ gs) a some =
    let r = runs f fs in
    ap (past_in true) (epochs_both e f fs g gs a ∙ ap (λ (es : List (List Headed)). es ++ (g ∷ gs) ∷ []) r.is) ∙ past_on true (f ∷ r.more) r.rest (g ∷ gs)
    ∙ ap (λ b. after_end (epoch_end b (g ∷ gs)) (g ∷ gs)) (sym (not_none (length fs)))

-- the newest file is the same without the first ones
pub end_dropped : (e k : ℕ) (hs : List HeadedFile) → k < length hs → EndBefore e hs → EndBefore e (drop k hs)
end_dropped e zero hs less h = h
end_dropped e (suc k) [] less h = absurd (omega (arith, less))
end_dropped e (suc k) (x ∷ []) less h = absurd (omega (arith, less))
end_dropped e (suc k) (x ∷ y ∷ hs) less h = end_dropped e k (y ∷ hs) (omega (arith, less)) h

-- ---- a log of the first opening

-- it has no file of an earlier one: no legal header has a lesser epoch
pub none_older : (l : LogState) → IsSound l → l.opening.epoch ≡ 1 → l.older ≡ 0
none_older l s first = by l.older l.files s.older s.olds s.legal
  where
    by : (n : ℕ) (hs : List HeadedFile) → n ≤ length hs → AllByRecursion (λ h. h.header.epoch < l.opening.epoch) (take n hs) → AllByRecursion (λ h. IsTrue (is_legal_header h.header)) hs → n ≡ 0
    by zero hs less olds legal = refl
    by (suc n) [] less olds legal = absurd (omega (arith, less))
    by (suc n) (h ∷ hs) less olds legal =
        let some : 1 ≤ h.header.epoch = counted h.header.epoch (legal_parts h.header legal.0).epoch in
        absurd (omega (arith, olds.0, some, first))
      where
        counted : (e : ℕ) → is_counter e ≡ true → 1 ≤ e
        counted e is = most_of 1 e (and_parts _ _ is).0

-- where there is none, the reading of all files ends where the next batch goes
pub ends_first : (l : LogState) (reads : List Read) (d : Disk) → l.older ≡ 0 → IsRead l reads d → epoch_end true (files_on l.opening d) ≡ end_of l
ends_first l reads d none r = omega (arith, subst (λ n. n * capacity_in l.opening + epoch_end (n == 0) (drop n (files_on l.opening d)) ≡ end_of l) none r.ends)
