-- A batch that is appended: what stands in the journal then.
use Rattle.std.proofs.Common.{◌≡◌, ◌⊎◌, inl, inr, ℕ, zero, suc, ◌+◌, ◌-◌, ◌*◌, ◌/◌, ◌<◌, ◌≤◌, true, List, [], ◌∷◌, ◌++◌, map, length, take, drop, Option, Some, None, IsTrue, refl, sym, ap, ap₂, ◌∙◌, subst, arith, length-append, length-take, append_assoc, take-append-drop}
use Rattle.std.proofs.Math.Nat.{le-div_iff_mul-le, mul_comm}
use Rattle.std.proofs.Math.Seq.{drop-append_seam, take-append_seam}
use Rattle.std.specs.List.{AllByRecursion}
use Rattle.qls_shape.specs.declared.Version.TheVariants.{Two}
use Rattle.qls_record.specs.Record.{Record, is_legal, record_length}
use Rattle.qls_site.specs.Disk.{Disk, FileState, file_of}
use Rattle.qls_site.specs.Content.{Content, InFile}
use Rattle.qls_filehdr.specs.declared.FileHeader.{FileHeader}
use Rattle.qls_filehdr.specs.Limits.{is_legal_header}
use Rattle.qls_meaning.specs.Journals.{Headed, is_in_use}
use Rattle.qls_meaning.specs.History.{is_file_in_use}
use Rattle.qls_meaning.specs.Reading.{Placed, stream, spelled_from, placed_from, end_from, length_in, held_length}
use Rattle.qls_laws.specs.Readings.{LegalFrom}
use Rattle.qls_blocks.specs.declared.plan.FreshFile.{FreshFile}
use Rattle.qls_blocks.specs.Batching.{length_of, laid_from}
use Rattle.qls_blocks.specs.Laws.{HaveCapacity, serials_of}
use Rattle.qls_blocks.proofs.Stream.{is_held}
use Rattle.qls_pool.specs.Pools.{PoolState}
use Rattle.qls_pool.specs.Files.{HeadedFile, IsAtRest, IsLinked, LinkedThere, RestsThere, IsPoolOf}
use Rattle.qls_log.specs.declared.opening.Opening.{Opening}
use Rattle.qls_log.specs.Logs.{LogState, IsSound, IsOfJournal, AreHeaded, capacity_in, ids, serials}
use Rattle.qls_log.specs.Taking.{TakesFiles}
use Rattle.qls_log.specs.Writing.{HaveRoom, AreInUse}
use Rattle.qls_log.specs.Standing.{AreThoseFiles, LogThere, RestsBut}
use Rattle.qls_log.specs.Appending.{from_newest}
use Rattle.qls_log.proofs.Gains.{Resting, GainedAll, gained_all}
use Rattle.qls_log.proofs.Streams.{splice, HaveSameHeads, legal_held}

-- ---- lists

pub those_split : (cap : ℕ) (xs ys : List HeadedFile) (fs : List Headed) → AreThoseFiles cap (xs ++ ys) fs → (gs : List Headed) × (more : List Headed) × (fs ≡ gs ++ more) × AreThoseFiles cap xs gs × AreThoseFiles cap ys more
those_split cap [] ys fs t = ([], fs, refl, tt, t)
those_split cap (x ∷ xs) ys [] t = absurd t
those_split cap (x ∷ xs) ys (f ∷ fs) t = let rest = those_split cap xs ys fs t.1 in (f ∷ rest.0, rest.1, ap (λ (gs : List Headed). f ∷ gs) rest.2, (t.0, rest.3), rest.4)

pub same_heads : (cap : ℕ) (hs : List HeadedFile) (fs gs : List Headed) → AreThoseFiles cap hs fs → AreThoseFiles cap hs gs → HaveSameHeads fs gs
same_heads cap [] [] [] s t = tt
same_heads cap [] [] (g ∷ gs) s t = absurd t
same_heads cap [] (f ∷ fs) gs s t = absurd s
same_heads cap (h ∷ hs) [] gs s t = absurd s
same_heads cap (h ∷ hs) (f ∷ fs) [] s t = absurd t
same_heads cap (h ∷ hs) (f ∷ fs) (g ∷ gs) s t = (t.0.header ∙ sym s.0.header, t.0.area ∙ sym s.0.area, same_heads cap hs fs gs s.1 t.1)

pub all_capacity : (cap : ℕ) (hs : List HeadedFile) (fs : List Headed) → AreThoseFiles cap hs fs → HaveCapacity cap fs
all_capacity cap [] [] t = tt
all_capacity cap [] (f ∷ fs) t = absurd t
all_capacity cap (h ∷ hs) [] t = absurd t
all_capacity cap (h ∷ hs) (f ∷ fs) t = (t.0.area, all_capacity cap hs fs t.1)

pub same_serials : (cap : ℕ) (hs : List HeadedFile) (fs : List Headed) → AreThoseFiles cap hs fs → serials_of fs ≡ serials hs
same_serials cap [] [] t = refl
same_serials cap [] (f ∷ fs) t = absurd t
same_serials cap (h ∷ hs) [] t = absurd t
same_serials cap (h ∷ hs) (f ∷ fs) t = ap₂ (λ (n : ℕ) (ns : List ℕ). n ∷ ns) (ap (λ (x : FileHeader). x.serial) t.0.header) (same_serials cap hs fs t.1)

pub all_drop : (P : HeadedFile → Type 0) (k : ℕ) (hs : List HeadedFile) → AllByRecursion P hs → AllByRecursion P (drop k hs)
all_drop P zero hs h = h
all_drop P (suc k) [] h = tt
all_drop P (suc k) (x ∷ hs) h = all_drop P k hs h.1

pub all_append : (P : HeadedFile → Type 0) (xs ys : List HeadedFile) → AllByRecursion P xs → AllByRecursion P ys → AllByRecursion P (xs ++ ys)
all_append P [] ys a b = b
all_append P (x ∷ xs) ys a b = (a.0, all_append P xs ys a.1 b)

all_weaken : (P Q : HeadedFile → Type 0) → ((h : HeadedFile) → P h → Q h) → (hs : List HeadedFile) → AllByRecursion P hs → AllByRecursion Q hs
all_weaken P Q w [] h = tt
all_weaken P Q w (x ∷ hs) h = (w x h.0, all_weaken P Q w hs h.1)

-- ---- files taken

headed_sized : (o : Opening) (newest : ℕ) (fs : List FreshFile) (hs : List HeadedFile) → AreHeaded o newest fs hs → AllByRecursion (λ g. g.header.kib * 1024 ≡ capacity_in o) hs
headed_sized o newest [] [] t = tt
headed_sized o newest [] (h ∷ hs) t = absurd t
headed_sized o newest (f ∷ fs) [] t = absurd t
headed_sized o newest (f ∷ fs) (h ∷ hs) t = (ap (λ (x : FileHeader). x.kib * 1024) t.0, headed_sized o (newest + 1) fs hs t.1)

range_of : (h : HeadedFile) (cap : ℕ) (o : Option FileState) → IsAtRest h o → h.header.kib * 1024 ≡ cap → InFile 0 (4096 + cap) o
range_of h cap None k is = k
range_of h cap (Some f) k is = omega (arith, k.2.size, is)

rooms : (cap : ℕ) (hs : List HeadedFile) (c : Content) → AllByRecursion (λ h. RestsThere h c.now.disk) hs → AllByRecursion (λ g. g.header.kib * 1024 ≡ cap) hs → HaveRoom cap (ids hs) c
rooms cap [] c r s = tt
rooms cap (h ∷ hs) c r s = (range_of h cap (file_of h.id c.now.disk) r.0 s.0, rooms cap hs c r.1 s.1)

used_of : (h : HeadedFile) (o : Option FileState) → IsLinked h o → is_file_in_use o ≡ true
used_of h None k = absurd k
used_of h (Some f) k = ap is_in_use k.0

pub all_used : (hs : List HeadedFile) (d : Disk) → AllByRecursion (λ h. LinkedThere h d) hs → AreInUse (ids hs) d
all_used [] d k = tt
all_used (h ∷ hs) d k = (used_of h (file_of h.id d) k.0, all_used hs d k.1)

-- ---- records

pub end_laid : (p : ℕ) (rs : List Record) → end_from p (laid_from p rs) ≡ p + length_of rs
end_laid p [] = omega arith
end_laid p (r ∷ rs) = end_laid (p + record_length Two r) rs ∙ omega arith

pub what_laid : (p : ℕ) (rs : List Record) → map (λ r. r.what) (laid_from p rs) ≡ rs
what_laid p [] = refl
what_laid p (r ∷ rs) = ap (λ (qs : List Record). r ∷ qs) (what_laid (p + record_length Two r) rs)

least_one : (r : Record) → 128 ≤ record_length Two r
least_one r = Rattle.qls_record.proofs.RecordLength.record_length_least Two r

pub all_legal : (fs : List Headed) (p : ℕ) (rs : List Record) → AllByRecursion (λ r. IsTrue (is_legal Two r)) rs → p + length_of rs ≤ length (stream fs) → LegalFrom fs p rs
all_legal fs p [] l fits = tt
all_legal fs p (r ∷ rs) l fits =
    let some = least_one r in
    let held = is_held p fs (omega (arith, fits, some)) in
    let len : length_in fs p r ≡ record_length Two r = ap (λ o. held_length o r) held.is in
    (legal_held (Rattle.qls_meaning.specs.Reading.holder fs p) r held l.0, subst (λ n. LegalFrom fs (p + n) rs) (sym len) (all_legal fs (p + record_length Two r) rs l.1 (omega (arith, fits))))

pub take_splice : (p : ℕ) (b old : List ℕ) → p ≤ length old → take p (splice p b old) ≡ take p old
take_splice p b old h =
    let size : length (take p old) ≡ p = length-take p old ∙ omega (arith, h) in
    ap (take p) (append_assoc (take p old) b (drop (p + length b) old)) ∙ ap (λ n. take n (take p old ++ (b ++ drop (p + length b) old))) (sym size) ∙ take-append_seam (take p old) (b ++ drop (p + length b) old)

pub drop_splice : (p : ℕ) (b old : List ℕ) → p ≤ length old → drop p (splice p b old) ≡ b ++ drop (p + length b) old
drop_splice p b old h =
    let size : length (take p old) ≡ p = length-take p old ∙ omega (arith, h) in
    ap (drop p) (append_assoc (take p old) b (drop (p + length b) old)) ∙ ap (λ n. drop n (take p old ++ (b ++ drop (p + length b) old))) (sym size) ∙ drop-append_seam (take p old) (b ++ drop (p + length b) old)

-- ---- the files behind a batch

pub enough_room : (cap used len k : ℕ) → 0 < cap → 0 < len → k ≡ (used + len - 1) / cap → used + len ≤ cap * (k + 1)
enough_room cap used len k some more is = by (Rattle.std.proofs.lemmas.Bool.cases_lt (cap * (k + 1)) (used + len))
  where
    by : (cap * (k + 1) < used + len) ⊎ (used + len ≤ cap * (k + 1)) → used + len ≤ cap * (k + 1)
    by (inr fine) = fine
    by (inl less) =
        let product : (k + 1) * cap ≡ cap * (k + 1) = mul_comm (k + 1) cap in
        let up : k + 1 ≤ (used + len - 1) / cap = (le-div_iff_mul-le {k = cap} {x = k + 1} {y = used + len - 1} some).1 (omega (arith, product, less)) in
        absurd (omega (arith, up, is))

pub cut_last : (hs more : List HeadedFile) → 0 < length hs → (front : List HeadedFile) × (hs ++ more ≡ front ++ drop (length hs - 1) (hs ++ more)) × (length front + 1 ≡ length hs)
cut_last hs more some =
    let all : List HeadedFile = hs ++ more in
    let k : ℕ = length hs - 1 in
    (take k all, sym (take-append-drop k all), ap (λ n. n + 1) (length-take k all) ∙ omega (arith, some, length-append hs more))

module _ (l : LogState) (sound : IsSound l) (flushed : l.unsynced ≡ []) (pool left : PoolState) (taken : List HeadedFile) (fs : List FreshFile) (headers : AreHeaded l.opening l.newest fs taken)
    (legal : AllByRecursion (λ h. IsTrue (is_legal_header h.header)) taken) (a mid : Content) (t : TakesFiles l.opening.home pool left taken a mid) (there : LogThere l a.now.disk) (p : IsPoolOf pool [] a.now.disk) where
  abbrev cap : ℕ
  cap = capacity_in l.opening

  abbrev all : List HeadedFile
  all = l.files ++ taken

  rested : (hs : List HeadedFile) → RestsBut [] hs a.now.disk → AllByRecursion (λ h. RestsThere h a.now.disk) hs
  rested [] r = tt
  rested (h ∷ hs) r = (r.0 refl, rested hs r.1)

  resting_old : Resting l.opening l.files a.now.disk
  resting_old = record {
    differ = there.there.differ;
    apart = there.there.apart;
    rest = rested l.files (subst (λ (own : List ℕ). RestsBut own l.files a.now.disk) flushed there.rests);
    files = there.there.files;
  }

  pub gains : GainedAll l.opening l.files taken l.newest left a mid
  gains = gained_all l.opening pool left l.files taken fs l.newest (l.newest + 1 - length l.files) a mid t headers legal (there.there.differ, p) sound.numbers resting_old

  own_kib : (h : HeadedFile) → IsOfJournal l.opening h → h.header.kib * 1024 ≡ cap
  own_kib h e = ap (λ (x : FileHeader). x.kib * 1024) e

  pub sized : AllByRecursion (λ g. g.header.kib * 1024 ≡ cap) all
  sized = all_append (λ g. g.header.kib * 1024 ≡ cap) l.files taken (all_weaken (IsOfJournal l.opening) (λ g. g.header.kib * 1024 ≡ cap) own_kib l.files sound.all) (headed_sized l.opening l.newest fs taken headers)

  pub room : HaveRoom cap (ids (from_newest l taken)) mid
  room =
      rooms cap (drop (length l.files - 1) all) mid (all_drop (λ h. RestsThere h mid.now.disk) (length l.files - 1) all gains.resting.rest)
      (all_drop (λ g. g.header.kib * 1024 ≡ cap) (length l.files - 1) all sized)
