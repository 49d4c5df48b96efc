-- One write after another.
use Rattle.std.proofs.Common.{◌≡◌, ℕ, zero, suc, ◌+◌, ◌-◌, ◌*◌, ◌%◌, ◌<◌, ◌≤◌, Bool, true, false, cond, ◌==◌, min, get_or, List, [], ◌∷◌, ◌++◌, length, take, drop, Option, Some, None, Result, Ok, Err, IfSome, IsErr, refl, sym, ap, ap₂, ◌∙◌, subst, arith, option_map, length-take, length-drop, append_assoc, append-nil}
use Rattle.qls_site.specs.declared.site.SiteError.{SiteError}
use Rattle.qls_site.specs.declared.site.SiteError.TheVariants.{Failed, Memory}
use Rattle.qls_site.specs.Disk.{Disk, FileState, file_of, full, changed, change_file, all_written, write_at, size_of}
use Rattle.qls_site.specs.Content.{Moment, Content, Tells, Acts, Leads, HasRange, InFile, on_disk}
use Rattle.qls_site.proofs.Told.{file_of-change_file, Tells-then}
use Rattle.qls_site.proofs.DiskLaws.{length-written}
use Rattle.qls_meaning.specs.Journals.{is_in_use}
use Rattle.qls_meaning.specs.History.{is_file_in_use}
use Rattle.qls_pool.specs.Files.{HeadedFile, IdsDiffer}
use Rattle.qls_log.specs.Logs.{ids}
use Rattle.qls_pool.specs.Discipline.{EndsPoolSteps, AddsPoolSteps, Orderly}
use Rattle.qls_pool.proofs.Steps.{ends_one, ends_none, ends_then, ends_adds, adds_none, differ_change}
use Rattle.qls_pool.proofs.Calls.{by_err}
use Rattle.qls_log.specs.Writing.{with_write, with_parts, HaveRoom, AreInUse, StopsParts, WritesParts}
use Rattle.qls_log.proofs.Steps.{write_step}

-- what is left to write comes to the same as the whole
abbrev pub WritesOn : ℕ → List ℕ → ℕ → List ℕ → List ℕ → ℕ → List ℕ → Content → Content → Type 0
WritesOn capacity rest at left ids from bytes a b = with_parts capacity rest at left b ≡ with_parts capacity ids from bytes a

pub record InOrderSo (ids : List ℕ) (a b : Content) : Type 0 where
  pub steps : EndsPoolSteps a b
  pub differ : IdsDiffer b.now.disk
  pub used : AreInUse ids b.now.disk

-- the writes so far are orderly, and the files are in use still
abbrev pub InOrder : List ℕ → Option Content → Option Content → Type 0
InOrder ids (Some a) (Some b) = IdsDiffer a.now.disk → AreInUse ids a.now.disk → InOrderSo ids a b
InOrder ids (Some a) None = Unit {0}
InOrder ids None b = Unit {0}

-- ---- one write more

drop_next : (xs : List ℕ) (k : ℕ) → k < length xs → drop k xs ≡ get_or xs k 0 ∷ drop (k + 1) xs
drop_next [] k h = absurd (omega arith)
drop_next (x ∷ xs) zero h = refl
drop_next (x ∷ xs) (suc k) h =
    let next : suc k + 1 ≡ suc (k + 1) = omega arith in
    drop_next xs k (omega arith) ∙ ap (λ n. get_or xs k 0 ∷ drop n (x ∷ xs)) (sym next)

take_none : (k : ℕ) → take {A = ℕ} k [] ≡ []
take_none zero = refl
take_none (suc k) = refl

drop_none : (k : ℕ) → drop {A = ℕ} k [] ≡ []
drop_none zero = refl
drop_none (suc k) = refl

take_least : (n : ℕ) (xs : List ℕ) → take (min (length xs) n) xs ≡ take n xs
take_least zero [] = take_none (min 0 0)
take_least (suc n) [] = take_none (min 0 (suc n))
take_least zero (x ∷ xs) = ap (λ k. take k (x ∷ xs)) (least (suc (length xs)))
  where
    least : (k : ℕ) → min k 0 ≡ 0
    least k = omega arith
take_least (suc n) (x ∷ xs) = ap (λ k. take k (x ∷ xs)) (least (length xs) n) ∙ ap (λ (ys : List ℕ). x ∷ ys) (take_least n xs)
  where
    least : (a b : ℕ) → min (suc a) (suc b) ≡ suc (min a b)
    least a b = omega arith

drop_least : (n : ℕ) (xs : List ℕ) → drop (min (length xs) n) xs ≡ drop n xs
drop_least zero [] = drop_none (min 0 0)
drop_least (suc n) [] = drop_none (min 0 (suc n))
drop_least zero (x ∷ xs) = ap (λ k. drop k (x ∷ xs)) (least (suc (length xs)))
  where
    least : (k : ℕ) → min k 0 ≡ 0
    least k = omega arith
drop_least (suc n) (x ∷ xs) = ap (λ k. drop k (x ∷ xs)) (least (length xs) n) ∙ drop_least n xs
  where
    least : (a b : ℕ) → min (suc a) (suc b) ≡ suc (min a b)
    least a b = omega arith

drop_twice : (m n : ℕ) (xs : List ℕ) → drop n (drop m xs) ≡ drop (m + n) xs
drop_twice zero n xs = ap (λ k. drop k xs) (omega arith)
drop_twice (suc m) n [] = nothing n (suc m + n)
  where
    nothing : (a b : ℕ) → drop a [] ≡ drop {A = ℕ} b []
    nothing zero zero = refl
    nothing zero (suc b) = refl
    nothing (suc a) zero = refl
    nothing (suc a) (suc b) = refl
drop_twice (suc m) n (x ∷ xs) =
    let next : suc m + n ≡ suc (m + n) = omega arith in
    drop_twice m n xs ∙ ap (λ k. drop k (x ∷ xs)) (sym next)

abbrev writing : ℕ → List ℕ → FileState → FileState
writing at bytes f = record f { pending = f.pending ++ (record { at = at; bytes = bytes }) ∷ [] }

wrote_next : (capacity at k done more : ℕ) (ids bytes part : List ℕ) (from : ℕ) (a b n : Content) → k < length ids → more ≡ min (length bytes - done) (capacity - at) → part ≡ take more (drop done bytes)
    → with_parts capacity (drop k ids) at (drop done bytes) b ≡ with_parts capacity ids from bytes a → Acts (on_disk (write_at (get_or ids k 0) (4096 + at) part)) b n
    → with_parts capacity (drop (k + 1) ids) 0 (drop (done + more) bytes) n ≡ with_parts capacity ids from bytes a
wrote_next capacity at k done more ids bytes part from a b n there size is so acts =
    let left : List ℕ = drop done bytes in
    let id : ℕ = get_or ids k 0 in
    let more_is : more ≡ min (length left) (capacity - at) = size ∙ ap (λ m. min m (capacity - at)) (sym (length-drop done bytes)) in
    let part_is : part ≡ take (capacity - at) left = is ∙ ap (λ m. take m left) more_is ∙ take_least (capacity - at) left in
    let rest_is : drop (done + more) bytes ≡ drop (capacity - at) left = sym (drop_twice done more bytes) ∙ ap (λ m. drop m left) more_is ∙ drop_least (capacity - at) left in
    let now : n ≡ with_write id (4096 + at) (take (capacity - at) left) b = acts ∙ ap (λ (p : List ℕ). with_write id (4096 + at) p b) part_is in
    ap₂ (λ (r : List ℕ) (x : Content). with_parts capacity (drop (k + 1) ids) 0 r x) rest_is now
    ∙ ap (λ (is : List ℕ). with_parts capacity is at left b) (sym (drop_next ids k there)) ∙ so

pub told_next : (capacity at k done more : ℕ) (ids bytes part : List ℕ) (from : ℕ) (a b n : Option Content) → k < length ids → more ≡ min (length bytes - done) (capacity - at) → part ≡ take more (drop done bytes)
    → Tells (WritesOn capacity (drop k ids) at (drop done bytes) ids from bytes) a b → Tells (Acts (on_disk (write_at (get_or ids k 0) (4096 + at) part))) b n
    → Tells (WritesOn capacity (drop (k + 1) ids) 0 (drop (done + more) bytes) ids from bytes) a n
told_next capacity at k done more ids bytes part from None None None there size is t u = tt
told_next capacity at k done more ids bytes part from None None (Some z) there size is t u = absurd u
told_next capacity at k done more ids bytes part from None (Some y) n there size is t u = absurd t
told_next capacity at k done more ids bytes part from (Some x) None n there size is t u = absurd t
told_next capacity at k done more ids bytes part from (Some x) (Some y) None there size is t u = absurd u
told_next capacity at k done more ids bytes part from (Some x) (Some y) (Some z) there size is t u = wrote_next capacity at k done more ids bytes part from x y z there size is t u

past_end : (k : ℕ) (xs : List ℕ) → length xs ≤ k → drop k xs ≡ []
past_end zero [] h = refl
past_end (suc k) [] h = refl
past_end zero (x ∷ xs) h = absurd (omega arith)
past_end (suc k) (x ∷ xs) h = past_end k xs (omega arith)

pub told_all : (capacity at k : ℕ) (left ids : List ℕ) (from : ℕ) (bytes : List ℕ) (x : Unit {0}) (a b : Option Content) → length ids ≤ k → Tells (WritesOn capacity (drop k ids) at left ids from bytes) a b
    → Tells (WritesParts {E = SiteError} capacity ids from bytes (Ok x)) a b
told_all capacity at k left ids from bytes x None None h t = tt
told_all capacity at k left ids from bytes x None (Some z) h t = absurd t
told_all capacity at k left ids from bytes x (Some y) None h t = absurd t
told_all capacity at k left ids from bytes x (Some y) (Some z) h t = ap (λ (is : List ℕ). with_parts capacity is at left z) (sym (past_end k ids h)) ∙ t

-- ---- a write that failed

-- moments were only added
abbrev pub Adds : Content → Content → Type 0
Adds x y = (since : List Moment) × (y.moments ≡ x.moments ++ since)

pub adds_same : (a : Option Content) → Tells Adds a a
adds_same None = tt
adds_same (Some x) = ([], sym (append-nil x.moments))

pub told_adds : (act : Moment → Moment) (a b n : Option Content) → Tells Adds a b → Tells (Acts act) b n → Tells Adds a n
told_adds act a b n h t =
    Tells-then Adds (Acts act) Adds a b n h t (λ x y z p q. (p.0 ++ act y.now ∷ [], ap (λ (c : Content). c.moments) q ∙ ap (λ (ms : List Moment). ms ++ act y.now ∷ []) p.1 ∙ append_assoc x.moments p.0 (act y.now ∷ [])))

pub parts_add : (capacity : ℕ) (ids : List ℕ) (from : ℕ) (bytes : List ℕ) (c : Content) → Adds c (with_parts capacity ids from bytes c)
parts_add capacity [] from bytes c = ([], sym (append-nil c.moments))
parts_add capacity (id ∷ ids) from bytes c =
    let n : Content = with_write id (4096 + from) (take (capacity - from) bytes) c in
    let rest = parts_add capacity ids 0 (drop (capacity - from) bytes) n in
    (n.now ∷ rest.0, rest.1 ∙ append_assoc c.moments (n.now ∷ []) rest.0)

-- nothing was written
pub stops_same : (capacity : ℕ) (ids : List ℕ) (from : ℕ) (bytes : List ℕ) (x y : Content) → y ≡ x → StopsParts capacity ids from bytes x y
stops_same capacity ids from bytes x y e =
    let all = parts_add capacity ids from bytes x in
    record {
      since = [];
      moments = ap (λ (c : Content). c.moments) e ∙ sym (append-nil x.moments);
      rest = all.0;
      whole = all.1 ∙ ap (λ (c : Content). c.moments ++ all.0) (sym e);
    }

module _ (capacity at k done more : ℕ) (ids bytes part : List ℕ) (from : ℕ) (there : k < length ids) (size : more ≡ min (length bytes - done) (capacity - at)) (is : part ≡ take more (drop done bytes)) where
  stops_here : (e : SiteError) (x y z : Content) → WritesOn capacity (drop k ids) at (drop done bytes) ids from bytes x y → Adds x y
      → Leads {X = Unit {0}} (Acts (on_disk (write_at (get_or ids k 0) (4096 + at) part))) (Acts (on_disk (write_at (get_or ids k 0) (4096 + at) part))) (Err e) y z → StopsParts capacity ids from bytes x z
  stops_here Failed x y z on adds acts =
      let act : Moment → Moment = on_disk (write_at (get_or ids k 0) (4096 + at) part) in
      let rest = parts_add capacity (drop (k + 1) ids) 0 (drop (done + more) bytes) z in
      record {
        since = adds.0 ++ act y.now ∷ [];
        moments = ap (λ (c : Content). c.moments) acts ∙ ap (λ (ms : List Moment). ms ++ act y.now ∷ []) adds.1 ∙ append_assoc x.moments adds.0 (act y.now ∷ []);
        rest = rest.0;
        whole = ap (λ (c : Content). c.moments) (sym (wrote_next capacity at k done more ids bytes part from x y z there size is on acts)) ∙ rest.1;
      }
  stops_here Memory x y z on adds same =
      let rest = parts_add capacity (drop k ids) at (drop done bytes) y in
      record {
        since = adds.0;
        moments = ap (λ (c : Content). c.moments) same ∙ adds.1;
        rest = rest.0;
        whole = ap (λ (c : Content). c.moments) (sym on) ∙ rest.1 ∙ ap (λ (c : Content). c.moments ++ rest.0) (sym same);
      }

  pub told_stops : (e : SiteError) (a b n : Option Content) → Tells (WritesOn capacity (drop k ids) at (drop done bytes) ids from bytes) a b → Tells Adds a b
      → Tells (Leads {X = Unit {0}} (Acts (on_disk (write_at (get_or ids k 0) (4096 + at) part))) (Acts (on_disk (write_at (get_or ids k 0) (4096 + at) part))) (Err e)) b n → Tells (StopsParts capacity ids from bytes) a n
  told_stops e None None None on adds t = tt
  told_stops e None None (Some z) on adds t = absurd t
  told_stops e None (Some y) n on adds t = absurd on
  told_stops e (Some x) None n on adds t = absurd on
  told_stops e (Some x) (Some y) None on adds t = absurd t
  told_stops e (Some x) (Some y) (Some z) on adds t = stops_here e x y z on adds t

pub told_err_parts : {X E : Type 0} (capacity : ℕ) (ids : List ℕ) (from : ℕ) (bytes : List ℕ) (r : Result X E) (a b : Option Content) → IsErr r → Tells (StopsParts capacity ids from bytes) a b → Tells (WritesParts capacity ids from bytes r) a b
told_err_parts {X} {E} capacity ids from bytes (Ok x) a b is t = absurd (not_ok x is)
  where
    not_ok : (x : X) → IsErr {T = X} {E = E} (Ok x) → ⊥
    not_ok x e = cc
told_err_parts capacity ids from bytes (Err e) a b is t = t

pub told_no_parts : {X E : Type 0} (capacity : ℕ) (ids : List ℕ) (from : ℕ) (bytes : List ℕ) (r : Result X E) (a : Option Content) → IsErr r → Tells (WritesParts capacity ids from bytes r) a a
told_no_parts capacity ids from bytes r None is = tt
told_no_parts capacity ids from bytes r (Some x) is = told_err_parts capacity ids from bytes r (Some x) (Some x) is (stops_same capacity ids from bytes x x refl)

-- ---- sizes

pub part_is : (done more : ℕ) (bytes : List ℕ) → take (done + more - done) (drop done bytes) ≡ take more (drop done bytes)
part_is done more bytes = ap (λ k. take k (drop done bytes)) (omega arith)

pub part_size : (done more room : ℕ) (bytes : List ℕ) → more ≡ min (length bytes - done) room → length (take (done + more - done) (drop done bytes)) ≡ more
part_size done more room bytes h =
    ap length (part_is done more bytes) ∙ length-take more (drop done bytes) ∙ omega (arith, h, length-drop done bytes)

-- the next file has a part
pub some_left : (capacity k done more len : ℕ) (ids : List ℕ) → ((i : ℕ) → i < length (drop (k + 1) ids) → capacity * i < 0 + (len - (done + more))) → k + 1 < length ids → 0 < len - (done + more)
some_left capacity k done more len ids e h = let first = e 0 (omega (arith, h, length-drop (k + 1) ids)) in omega (arith, first)

pub each_next : (capacity k at done more len : ℕ) (ids : List ℕ) → k < length ids → more ≡ min (len - done) (capacity - at) → at < capacity → ((i : ℕ) → i < length (drop k ids) → capacity * i < at + (len - done))
    → (i : ℕ) → i < length (drop (k + 1) ids) → capacity * i < 0 + (len - (done + more))
each_next capacity k at done more len ids l is less e i h =
    let there : i + 1 < length (drop k ids) = omega (arith, h, length-drop k ids, length-drop (k + 1) ids) in
    let before = e (i + 1) there in
    let product : capacity * (i + 1) ≡ capacity * i + capacity = grind arith in
    omega (arith, before, product, is, less)

pub each_next_done : (at capacity done more len : ℕ) → more ≡ min (len - done) (capacity - at) → done ≤ len → at % 4096 ≡ 0 → capacity % 4096 ≡ 0 → at < capacity → (len - done) % 4096 ≡ 0 → (done + more ≤ len) × ((len - (done + more)) % 4096 ≡ 0)
each_next_done at capacity done more len is within a c less l = (omega (arith, is, within), omega (arith, is, within, a, c, less, l))

pub part_sectors : (at capacity left more : ℕ) (part : List ℕ) → length part ≡ more → more ≡ min left (capacity - at) → at % 4096 ≡ 0 → capacity % 4096 ≡ 0 → at < capacity → left % 4096 ≡ 0 → 0 < left
    → ((4096 + at) % 512 ≡ 0) × (length part % 512 ≡ 0) × (0 < length part)
part_sectors at capacity left more part size is a c less l some =
    let n : ℕ = length part in
    let one : n ≡ min left (capacity - at) = size ∙ is in
    let whole : n % 4096 ≡ 0 = omega (arith, one, a, c, less, l) in
    (omega (arith, a), omega (arith, whole), omega (arith, one, less, some))

pub size_after : (w : Rattle.qls_site.specs.Disk.Write) (f : FileState) → w.at + length w.bytes ≤ size_of f → size_of (record f { pending = f.pending ++ w ∷ [] }) ≡ size_of f
size_after w f h = ap length (one_more f.pending w f.stable) ∙ length-written w (all_written f.pending f.stable) h
  where
    one_more : (ps : List Rattle.qls_site.specs.Disk.Write) (w : Rattle.qls_site.specs.Disk.Write) (old : List ℕ) → all_written (ps ++ w ∷ []) old ≡ Rattle.qls_site.specs.Disk.written w (all_written ps old)
    one_more [] w old = refl
    one_more (p ∷ ps) w old = one_more ps w (Rattle.qls_site.specs.Disk.written p old)

-- ---- files stay there

range_kept : (n at : ℕ) (own : ℕ) (part : List ℕ) (o : Option FileState) → InFile 0 n o → (at + length part ≤ n) → InFile 0 n (option_map (changed own (writing at part)) o)
range_kept n at own part None h fits = h
range_kept n at own part (Some f) h fits =
    elim (f.id == own) as (λ b. 0 + n ≤ size_of (cond b (writing at part f) f)) [
      | true ↦ omega (arith, size_after (record { at = at; bytes = part }) f (omega (arith, fits, h)), h)
      | false ↦ h
    ]

room_one : (capacity id own at : ℕ) (part : List ℕ) (b n : Content) → at + length part ≤ 4096 + capacity → Acts (on_disk (write_at own at part)) b n → HasRange id 0 (4096 + capacity) b → HasRange id 0 (4096 + capacity) n
room_one capacity id own at part b n fits acts h =
    subst (λ (c : Content). HasRange id 0 (4096 + capacity) c) (sym acts)
    (subst (InFile 0 (4096 + capacity)) (sym (file_of-change_file id own (writing at part) (λ f. refl) b.now.disk)) (range_kept (4096 + capacity) at own part (file_of id b.now.disk) h fits))

pub room_all : (capacity own at : ℕ) (part ids : List ℕ) (b n : Content) → at + length part ≤ 4096 + capacity → Acts (on_disk (write_at own at part)) b n → HaveRoom capacity ids b → HaveRoom capacity ids n
room_all capacity own at part [] b n fits acts h = tt
room_all capacity own at part (id ∷ ids) b n fits acts h = (room_one capacity id own at part b n fits acts h.0, room_all capacity own at part ids b n fits acts h.1)

pub room_next : (capacity own at left more : ℕ) (part ids : List ℕ) (b n : Option Content) → length part ≡ more → more ≡ min left (capacity - at) → at < capacity → Tells (Acts (on_disk (write_at own (4096 + at) part))) b n → IfSome b (HaveRoom capacity ids)
    → IfSome n (HaveRoom capacity ids)
room_next capacity own at left more part ids None None size is less t h = tt
room_next capacity own at left more part ids None (Some z) size is less t h = absurd t
room_next capacity own at left more part ids (Some y) None size is less t h = absurd t
room_next capacity own at left more part ids (Some y) (Some z) size is less t h =
    let n : ℕ = length part in
    let one : n ≡ min left (capacity - at) = size ∙ is in
    room_all capacity own (4096 + at) part ids y z (omega (arith, one, less)) t h

room_get : (capacity k : ℕ) (ids : List ℕ) (c : Content) → k < length ids → HaveRoom capacity ids c → HasRange (get_or ids k 0) 0 (4096 + capacity) c
room_get capacity k [] c l h = absurd (omega arith)
room_get capacity zero (id ∷ ids) c l h = h.0
room_get capacity (suc k) (id ∷ ids) c l h = room_get capacity k ids c (omega arith) h.1

range_less : (n at m : ℕ) (o : Option FileState) → InFile 0 n o → at + m ≤ n → InFile at m o
range_less n at m None h fits = h
range_less n at m (Some f) h fits = omega (arith, h, fits)

pub range_there : (capacity k at left more : ℕ) (ids part : List ℕ) (b : Option Content) → k < length ids → length part ≡ more → more ≡ min left (capacity - at) → at < capacity → IfSome b (HaveRoom capacity ids)
    → IfSome b (HasRange (get_or ids k 0) (4096 + at) (length part))
range_there capacity k at left more ids part None l size is less h = tt
range_there capacity k at left more ids part (Some c) l size is less h =
    let n : ℕ = length part in
    let one : n ≡ min left (capacity - at) = size ∙ is in
    range_less (4096 + capacity) (4096 + at) n (file_of (get_or ids k 0) c.now.disk) (room_get capacity k ids c l h) (omega (arith, one, less))

-- ---- in order

use_kept : (own at : ℕ) (part : List ℕ) (o : Option FileState) → is_file_in_use o ≡ true → is_file_in_use (option_map (changed own (writing at part)) o) ≡ true
use_kept own at part None h = h
use_kept own at part (Some f) h = elim (f.id == own) as (λ b. is_in_use (cond b (writing at part f) f).place ≡ true) [ true ↦ h | false ↦ h ]

uses_kept : (own at : ℕ) (part ids : List ℕ) (d : Disk) → AreInUse ids d → AreInUse ids (write_at own at part d)
uses_kept own at part [] d h = tt
uses_kept own at part (id ∷ ids) d h =
    (ap is_file_in_use (file_of-change_file id own (writing at part) (λ f. refl) d) ∙ use_kept own at part (file_of id d) h.0, uses_kept own at part ids d h.1)

uses_get : (k : ℕ) (ids : List ℕ) (d : Disk) → k < length ids → AreInUse ids d → is_file_in_use (file_of (get_or ids k 0) d) ≡ true
uses_get k [] d l h = absurd (omega arith)
uses_get zero (id ∷ ids) d l h = h.0
uses_get (suc k) (id ∷ ids) d l h = uses_get k ids d (omega arith) h.1

found_used : (o : Option FileState) (f : FileState) → is_file_in_use o ≡ true → o ≡ Some f → is_in_use f.place ≡ true
found_used o f h e = sym (ap is_file_in_use e) ∙ h

pub none_written : (ids : List ℕ) (a : Option Content) → InOrder ids a a
none_written ids None = tt
none_written ids (Some x) = λ d u. record { steps = ends_none x x refl; differ = d; used = u }

next_in_order : (k at : ℕ) (ids part : List ℕ) (x y z : Content) → k < length ids → InOrderSo ids x y → Acts (on_disk (write_at (get_or ids k 0) at part)) y z → InOrderSo ids x z
next_in_order k at ids part x y z l h acts =
    let id : ℕ = get_or ids k 0 in
    record {
      steps = ends_then x y z h.steps (ends_one (on_disk (write_at id at part)) y z acts (write_step id at part y.now h.differ (λ f e. found_used (file_of id y.now.disk) f (uses_get k ids y.now.disk l h.used) e)));
      differ = subst (λ (c : Content). IdsDiffer c.now.disk) (sym acts) (differ_change id (writing at part) (λ f. refl) y.now.disk h.differ);
      used = subst (λ (c : Content). AreInUse ids c.now.disk) (sym acts) (uses_kept id at part ids y.now.disk h.used);
    }

pub in_order_next : (k at : ℕ) (ids part : List ℕ) (a b n : Option Content) → k < length ids → InOrder ids a b → Tells (Acts (on_disk (write_at (get_or ids k 0) at part))) b n → InOrder ids a n
in_order_next k at ids part None b n l h t = tt
in_order_next k at ids part (Some x) b None l h t = tt
in_order_next k at ids part (Some x) None (Some z) l h t = absurd t
in_order_next k at ids part (Some x) (Some y) (Some z) l h t = λ d u. next_in_order k at ids part x y z l (h d u) t

failed_steps : (k at : ℕ) (ids part : List ℕ) (e : SiteError) (x y z : Content) → k < length ids → InOrderSo ids x y
    → Leads {X = Unit {0}} (Acts (on_disk (write_at (get_or ids k 0) at part))) (Acts (on_disk (write_at (get_or ids k 0) at part))) (Err e) y z → AddsPoolSteps x z
failed_steps k at ids part Failed x y z l h acts = let s = (next_in_order k at ids part x y z l h acts).steps in record { since = s.since; moments = s.moments; steps = s.steps }
failed_steps k at ids part Memory x y z l h same = ends_adds x y z h.steps (adds_none y z same)

pub failed_in_order : {F : Type 0} (k at : ℕ) (ids part : List ℕ) (e : SiteError) (r : Result (Unit {0}) F) (a b n : Option Content) → k < length ids → IsErr r → InOrder ids a b
    → Tells (Leads {X = Unit {0}} (Acts (on_disk (write_at (get_or ids k 0) at part))) (Acts (on_disk (write_at (get_or ids k 0) at part))) (Err e)) b n → Orderly (AreInUse ids) r a n
failed_in_order k at ids part e r None b n l is h t = tt
failed_in_order k at ids part e r (Some x) b None l is h t = tt
failed_in_order k at ids part e r (Some x) None (Some z) l is h t = absurd t
failed_in_order k at ids part e r (Some x) (Some y) (Some z) l is h t = λ d u. by_err r x z is (failed_steps k at ids part e x y z l (h d u) t)

pub ended_in_order : (ids : List ℕ) (x : Unit {0}) (a b : Option Content) → InOrder ids a b → Orderly {X = Unit {0}} {E = SiteError} (AreInUse ids) (Ok x) a b
ended_in_order ids x None b h = tt
ended_in_order ids x (Some y) None h = tt
ended_in_order ids x (Some y) (Some z) h = λ d u. (h d u).steps

-- ---- a full file isn't written

pub used_room : (x : Bool) (hs : List HeadedFile) (d : Disk) → AreInUse (ids hs) d → AreInUse (ids (cond x (drop 1 hs) hs)) d
used_room false hs d u = u
used_room true [] d u = u
used_room true (h ∷ hs) d u = u.1

pub room_orderly : {X E F : Type 0} (x : Bool) (hs : List HeadedFile) (own : List ℕ) (e : E) (r : Result X F) (a b : Option Content) → own ≡ ids (cond x (drop 1 hs) hs) → IsErr r → Orderly {X = Unit {0}} (AreInUse own) (Err e) a b
    → Orderly (AreInUse (ids hs)) r a b
room_orderly x hs own e r None b at is h = tt
room_orderly x hs own e r (Some y) None at is h = tt
room_orderly x hs own e r (Some y) (Some z) at is h = λ d u. by_err r y z is (h d (subst (λ (xs : List ℕ). AreInUse xs y.now.disk) (sym at) (used_room x hs y.now.disk u)))
