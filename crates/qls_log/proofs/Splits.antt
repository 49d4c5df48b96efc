-- One file of a disk among the others, and the files of a journal.
use Rattle.std.proofs.Common.{◌≡◌, ℕ, ◌<◌, Bool, true, false, cond, ◌&&◌, ◌||◌, ◌==◌, ltb, eqb, List, [], ◌∷◌, ◌++◌, map, Some, refl, sym, ap, ap₂, ◌∙◌, subst, arith}
use Rattle.std.proofs.lemmas.Bool.Decides.{nat_tests}
use Rattle.std.proofs.lemmas.List.{map-append}
use Rattle.std.proofs.lemmas.List.Elements.{filter-append}
use Rattle.std.specs.List.{AllByRecursion, filter}
use Rattle.qls_model.specs.Bytes.{same}
use Rattle.qls_model.proofs.XidKeys.{same_self}
use Rattle.qls_site.specs.Disk.{Disk, Image, FileState, full, full_file, file_of, changed, change_file, with_file, all_written, sync_at}
use Rattle.qls_filehdr.specs.declared.JournalKind.{JournalKind}
use Rattle.qls_filehdr.specs.declared.JournalKind.TheVariants.{Queue, List as Listed}
use Rattle.qls_meaning.specs.Journals.{Headed, is_in_use, in_use, headed, is_of, same_kind, with_numbered, by_number}
use Rattle.qls_pool.specs.Files.{IdsDiffer}
use Rattle.qls_pool.proofs.Disks.{eqb_is, eqb_own}
use Rattle.qls_pool.proofs.Steps.{apart}
use Rattle.qls_log.specs.declared.opening.Opening.{Opening}
use Rattle.qls_log.specs.Standing.{files_on}

-- ---- one file of a disk

-- no file of these has the id
abbrev pub Lacks : ℕ → Disk → Type 0
Lacks id d = AllByRecursion (λ g. (g.id == id) ≡ false) d

pub record Split (id : ℕ) (f : FileState) (d : Disk) : Type 0 where
  pub before : Disk
  pub after : Disk
  pub is : d ≡ before ++ f ∷ after
  pub own : f.id ≡ id
  pub lacks_before : Lacks id before
  pub lacks_after : Lacks id after

turned : (m n : ℕ) → (m == n) ≡ false → (n == m) ≡ false
turned m n e = grind (arith, nat_tests, e)

all_turned : (id n : ℕ) (d : Disk) → n ≡ id → AllByRecursion (λ g. (n == g.id) ≡ false) d → Lacks id d
all_turned id n [] e h = tt
all_turned id n (g ∷ d) e h = (turned id g.id (ap (λ k. k == g.id) (sym e) ∙ h.0), all_turned id n d e h.1)

split_step : (id : ℕ) (f g : FileState) (d : Disk) → AllByRecursion (λ h. (g.id == h.id) ≡ false) d → (file_of id d ≡ Some f → Split id f d)
    → (b : Bool) → (g.id == id) ≡ b → cond b (Some g) (file_of id d) ≡ Some f → Split id f (g ∷ d)
split_step id f g d apart rest true e h =
    let same : g ≡ f = cc in
    let own : g.id ≡ id = eqb_is g.id id e in
    record { before = []; after = d; is = ap (λ (x : FileState). x ∷ d) same; own = sym (ap (λ (x : FileState). x.id) same) ∙ own; lacks_before = tt; lacks_after = all_turned id g.id d own apart }
split_step id f g d apart rest false e h =
    let s = rest h in
    record { before = g ∷ s.before; after = s.after; is = ap (λ (x : Disk). g ∷ x) s.is; own = s.own; lacks_before = (e, s.lacks_before); lacks_after = s.lacks_after }

pub split : (id : ℕ) (f : FileState) (d : Disk) → IdsDiffer d → file_of id d ≡ Some f → Split id f d
split id f [] differ h = absurd (cc)
split id f (g ∷ d) differ h = split_step id f g d (apart g.id d differ.0) (split id f d differ.1) (g.id == id) refl h

unchanged : (id : ℕ) (c : FileState → FileState) (d : Disk) → Lacks id d → change_file id c d ≡ d
unchanged id c [] h = refl
unchanged id c (g ∷ d) h = ap₂ (λ (x : FileState) (xs : Disk). x ∷ xs) (ap (λ b. cond b (c g) g) h.0) (unchanged id c d h.1)

-- the change of that file
pub change_split : (id : ℕ) (f : FileState) (c : FileState → FileState) (d : Disk) (s : Split id f d) → change_file id c d ≡ s.before ++ c f ∷ s.after
change_split id f c d s =
    ap (change_file id c) s.is ∙ map-append (changed id c) s.before (f ∷ s.after)
    ∙ ap₂ (λ (x y : Disk). x ++ y) (unchanged id c s.before s.lacks_before)
    (ap₂ (λ (x : FileState) (xs : Disk). x ∷ xs) (ap (λ b. cond b (c f) f) (ap (λ n. n == id) s.own ∙ eqb_own id)) (unchanged id c s.after s.lacks_after))

-- ---- the files in use, with their headers

abbrev pub heads : Disk → List Headed
heads d = map headed (in_use (full d))

abbrev pub mine : JournalKind → List ℕ → Disk → List Headed
mine kind name d = filter (is_of kind name) (heads d)

pub heads-append : (a b : Disk) → heads (a ++ b) ≡ heads a ++ heads b
heads-append a b =
    ap (λ i. map headed (in_use i)) (map-append full_file a b) ∙ ap (map headed) (filter-append (λ f. is_in_use f.place) (full a) (full b))
    ∙ map-append headed (in_use (full a)) (in_use (full b))

pub heads-out : (f : FileState) (d : Disk) → is_in_use f.place ≡ false → heads (f ∷ d) ≡ heads d
heads-out f d h = ap (λ b. map headed (cond b (full_file f ∷ in_use (full d)) (in_use (full d)))) h

pub heads-in : (f : FileState) (d : Disk) → is_in_use f.place ≡ true → heads (f ∷ d) ≡ headed (full_file f) ∷ heads d
heads-in f d h = ap (λ b. map headed (cond b (full_file f ∷ in_use (full d)) (in_use (full d)))) h

-- a file that isn't in use and stays so
pub heads-unused : (id : ℕ) (f : FileState) (c : FileState → FileState) (d : Disk) → Split id f d → is_in_use f.place ≡ false → is_in_use (c f).place ≡ false → heads (change_file id c d) ≡ heads d
heads-unused id f c d s a b =
    ap heads (change_split id f c d s) ∙ heads-append s.before (c f ∷ s.after) ∙ ap (λ (x : List Headed). heads s.before ++ x) (heads-out (c f) s.after b ∙ sym (heads-out f s.after a))
    ∙ sym (heads-append s.before (f ∷ s.after)) ∙ ap heads (sym s.is)

-- a new file that isn't in use
pub heads-with : (f : FileState) (d : Disk) → is_in_use f.place ≡ false → heads (with_file f d) ≡ heads d
heads-with f [] h = heads-out f [] h
heads-with f (g ∷ d) h =
    elim (ltb f.id g.id) as (λ b. heads (cond b (f ∷ g ∷ d) (g ∷ with_file f d)) ≡ heads (g ∷ d)) [
      | true ↦ heads-out f (g ∷ d) h
      | false ↦
          elim (is_in_use g.place) as (λ b. map headed (cond b (full_file g ∷ in_use (full (with_file f d))) (in_use (full (with_file f d)))) ≡ map headed (cond b (full_file g ∷ in_use (full d)) (in_use (full d)))) [
            | true ↦ ap (λ (x : List Headed). headed (full_file g) ∷ x) (heads-with f d h)
            | false ↦ heads-with f d h
          ]
    ]

synced_full : (id : ℕ) (f : FileState) → full_file (changed id (λ f. record f { stable = all_written f.pending f.stable; pending = [] }) f) ≡ full_file f
synced_full id f =
    elim (f.id == id) as (λ b. full_file (cond b (record f { stable = all_written f.pending f.stable; pending = [] }) f) ≡ full_file f) [ true ↦ refl | false ↦ refl ]

-- a sync leaves what is seen
pub full-sync : (id : ℕ) (d : Disk) → full (sync_at id d) ≡ full d
full-sync id [] = refl
full-sync id (f ∷ d) = ap₂ (λ x (xs : Image). x ∷ xs) (synced_full id f) (full-sync id d)

-- ---- by number

abbrev pub Below : ℕ → List Headed → Type 0
Below n fs = AllByRecursion (λ f. f.header.number < n) fs

behind_all : (g : Headed) (f : Headed) → f.header.number < g.header.number → (ltb g.header.number f.header.number || (eqb g.header.number f.header.number && ltb g.id f.id)) ≡ false
behind_all g f h =
    let a : ltb g.header.number f.header.number ≡ false = grind arith in
    let b : eqb g.header.number f.header.number ≡ false = grind (arith, nat_tests) in
    ap₂ (λ x y. x || (y && ltb g.id f.id)) a b

before_that : (f g : Headed) → f.header.number < g.header.number → (ltb f.header.number g.header.number || (eqb f.header.number g.header.number && ltb f.id g.id)) ≡ true
before_that f g h =
    let a : ltb f.header.number g.header.number ≡ true = grind arith in
    ap (λ x. x || (eqb f.header.number g.header.number && ltb f.id g.id)) a

number_last : (g : Headed) (fs : List Headed) → Below g.header.number fs → with_numbered g fs ≡ fs ++ g ∷ []
number_last g [] h = refl
number_last g (f ∷ fs) h =
    ap (λ b. cond b (g ∷ f ∷ fs) (f ∷ with_numbered g fs)) (behind_all g f h.0) ∙ ap (λ (x : List Headed). f ∷ x) (number_last g fs h.1)

number_push : (f g : Headed) (fs : List Headed) → f.header.number < g.header.number → with_numbered f (fs ++ g ∷ []) ≡ with_numbered f fs ++ g ∷ []
number_push f g [] h = ap (λ b. cond b (f ∷ g ∷ []) (g ∷ f ∷ [])) (before_that f g h)
number_push f g (e ∷ fs) h =
    elim (ltb f.header.number e.header.number || (eqb f.header.number e.header.number && ltb f.id e.id)) as (λ b.
    cond b (f ∷ e ∷ (fs ++ g ∷ [])) (e ∷ with_numbered f (fs ++ g ∷ [])) ≡ cond b (f ∷ e ∷ fs) (e ∷ with_numbered f fs) ++ g ∷ []) [
      | true ↦ refl
      | false ↦ ap (λ (x : List Headed). e ∷ x) (number_push f g fs h)
    ]

all_numbered : (P : Headed → Type 0) (f : Headed) (fs : List Headed) → P f → AllByRecursion P fs → AllByRecursion P (with_numbered f fs)
all_numbered P f [] p h = (p, tt)
all_numbered P f (g ∷ fs) p h =
    elim (ltb f.header.number g.header.number || (eqb f.header.number g.header.number && ltb f.id g.id)) as (λ b. AllByRecursion P (cond b (f ∷ g ∷ fs) (g ∷ with_numbered f fs))) [
      | true ↦ (p, h)
      | false ↦ (h.0, all_numbered P f fs p h.1)
    ]

pub all_by_number : (P : Headed → Type 0) (fs : List Headed) → AllByRecursion P fs → AllByRecursion P (by_number fs)
all_by_number P [] h = tt
all_by_number P (f ∷ fs) h = all_numbered P f (by_number fs) h.0 (all_by_number P fs h.1)

-- the greatest number goes to the end
pub by_number-insert : (g : Headed) (xs ys : List Headed) → Below g.header.number (xs ++ ys) → by_number (xs ++ g ∷ ys) ≡ by_number (xs ++ ys) ++ g ∷ []
by_number-insert g [] ys h = number_last g (by_number ys) (all_by_number (λ f. f.header.number < g.header.number) ys h)
by_number-insert g (x ∷ xs) ys h = ap (with_numbered x) (by_number-insert g xs ys h.1) ∙ number_push x g (by_number (xs ++ ys)) h.0

-- what holds of all files by number holds of all files
numbered_back : (P : Headed → Type 0) (f : Headed) (fs : List Headed) → AllByRecursion P (with_numbered f fs) → P f × AllByRecursion P fs
numbered_back P f [] h = (h.0, tt)
numbered_back P f (g ∷ fs) h =
    (elim (ltb f.header.number g.header.number || (eqb f.header.number g.header.number && ltb f.id g.id)) as (λ b. AllByRecursion P (cond b (f ∷ g ∷ fs) (g ∷ with_numbered f fs)) → P f × AllByRecursion P (g ∷ fs)) [
      | true ↦ λ k. k
      | false ↦ λ k. let rest = numbered_back P f fs k.1 in (rest.0, (k.0, rest.1))
    ]) h

pub by_number-back : (P : Headed → Type 0) (fs : List Headed) → AllByRecursion P (by_number fs) → AllByRecursion P fs
by_number-back P [] h = tt
by_number-back P (f ∷ fs) h = let both = numbered_back P f (by_number fs) h in (both.0, by_number-back P fs both.1)

-- ---- a file that comes to the journal

own_kind : (k : JournalKind) → same_kind k k ≡ true
own_kind Queue = refl
own_kind Listed = refl

pub is_of-own : (kind : JournalKind) (name : List ℕ) (f : Headed) → f.header.kind ≡ kind → f.header.name ≡ name → is_of kind name f ≡ true
is_of-own kind name f k n = ap₂ (λ a (b : List ℕ). same_kind kind a && same name b) k n ∙ ap₂ (λ a b. a && b) (own_kind kind) (same_self name)

-- that file is put into use, behind all others of its journal
pub files-linked : (o : Opening) (id : ℕ) (f : FileState) (c : FileState → FileState) (d : Disk) → Split id f d → is_in_use f.place ≡ false → is_in_use (c f).place ≡ true
    → (headed (full_file (c f))).header.kind ≡ o.kind → (headed (full_file (c f))).header.name ≡ o.name
    → Below (headed (full_file (c f))).header.number (files_on o d)
    → files_on o (change_file id c d) ≡ files_on o d ++ headed (full_file (c f)) ∷ []
files-linked o id f c d s out useful kind name below =
    let g : Headed = headed (full_file (c f)) in
    let test = is_of o.kind o.name in
    let xs = mine o.kind o.name s.before in
    let ys = mine o.kind o.name s.after in
    let old : mine o.kind o.name d ≡ xs ++ ys =
    ap (λ e. mine o.kind o.name e) s.is ∙ ap (filter test) (heads-append s.before (f ∷ s.after) ∙ ap (λ (x : List Headed). heads s.before ++ x) (heads-out f s.after out))
    ∙ filter-append test (heads s.before) (heads s.after) in
    let new : mine o.kind o.name (change_file id c d) ≡ xs ++ g ∷ ys =
    ap (λ e. mine o.kind o.name e) (change_split id f c d s) ∙ ap (filter test) (heads-append s.before (c f ∷ s.after) ∙ ap (λ (x : List Headed). heads s.before ++ x) (heads-in (c f) s.after useful))
    ∙ filter-append test (heads s.before) (g ∷ heads s.after) ∙ ap (λ b. xs ++ cond b (g ∷ ys) ys) (is_of-own o.kind o.name g kind name) in
    ap by_number new
    ∙ by_number-insert g xs ys (subst (Below g.header.number) old (by_number-back (λ h. h.header.number < g.header.number) (mine o.kind o.name d) below))
    ∙ ap (λ (x : List Headed). by_number x ++ g ∷ []) (sym old)

pub files-same : (o : Opening) (d e : Disk) → heads e ≡ heads d → files_on o e ≡ files_on o d
files-same o d e h = ap (λ (fs : List Headed). by_number (filter (is_of o.kind o.name) fs)) h

-- ---- a file of the journal whose bytes change

module _ (w : Headed → Headed) (ids : (f : Headed) → (w f).id ≡ f.id) (headers : (f : Headed) → (w f).header ≡ f.header) where
  filter-changed : (kind : JournalKind) (name : List ℕ) (fs : List Headed) → filter (is_of kind name) (map w fs) ≡ map w (filter (is_of kind name) fs)
  filter-changed kind name [] = refl
  filter-changed kind name (f ∷ fs) =
      ap (λ h. cond (same_kind kind h.kind && same name h.name) (w f ∷ filter (is_of kind name) (map w fs)) (filter (is_of kind name) (map w fs))) (headers f)
      ∙ elim (is_of kind name f) as (λ b. cond b (w f ∷ filter (is_of kind name) (map w fs)) (filter (is_of kind name) (map w fs)) ≡ map w (cond b (f ∷ filter (is_of kind name) fs) (filter (is_of kind name) fs))) [
        | true ↦ ap (λ (r : List Headed). w f ∷ r) (filter-changed kind name fs)
        | false ↦ filter-changed kind name fs
      ]

  same_order : (f g : Headed) → (ltb (w f).header.number (w g).header.number || (eqb (w f).header.number (w g).header.number && ltb (w f).id (w g).id)) ≡ (ltb f.header.number g.header.number || (eqb f.header.number g.header.number && ltb f.id g.id))
  same_order f g = λ i. ltb (headers f i).number (headers g i).number || (eqb (headers f i).number (headers g i).number && ltb (ids f i) (ids g i))

  with_numbered-changed : (f : Headed) (fs : List Headed) → with_numbered (w f) (map w fs) ≡ map w (with_numbered f fs)
  with_numbered-changed f [] = refl
  with_numbered-changed f (g ∷ fs) =
      ap (λ b. cond b (w f ∷ w g ∷ map w fs) (w g ∷ with_numbered (w f) (map w fs))) (same_order f g)
      ∙ elim (ltb f.header.number g.header.number || (eqb f.header.number g.header.number && ltb f.id g.id)) as (λ b. cond b (w f ∷ w g ∷ map w fs) (w g ∷ with_numbered (w f) (map w fs)) ≡ map w (cond b (f ∷ g ∷ fs) (g ∷ with_numbered f fs))) [
        | true ↦ refl
        | false ↦ ap (λ (r : List Headed). w g ∷ r) (with_numbered-changed f fs)
      ]

  by_number-changed : (fs : List Headed) → by_number (map w fs) ≡ map w (by_number fs)
  by_number-changed [] = refl
  by_number-changed (f ∷ fs) = ap (with_numbered (w f)) (by_number-changed fs) ∙ with_numbered-changed f (by_number fs)

  pub files-changed : (o : Opening) (d e : Disk) → heads e ≡ map w (heads d) → files_on o e ≡ map w (files_on o d)
  files-changed o d e h = files_same ∙ ap by_number (filter-changed o.kind o.name (heads d)) ∙ by_number-changed (filter (is_of o.kind o.name) (heads d))
    where
      files_same : files_on o e ≡ by_number (filter (is_of o.kind o.name) (map w (heads d)))
      files_same = ap (λ (fs : List Headed). by_number (filter (is_of o.kind o.name) fs)) h

-- ---- the oldest file of the journal leaves it

abbrev pub Above : ℕ → List Headed → Type 0
Above n fs = AllByRecursion (λ f. n < f.header.number) fs

number_first : (g : Headed) (fs : List Headed) → Above g.header.number fs → with_numbered g fs ≡ g ∷ fs
number_first g [] h = refl
number_first g (f ∷ fs) h = ap (λ b. cond b (g ∷ f ∷ fs) (f ∷ with_numbered g fs)) (before_that g f h.0)

-- the least number comes to the front
by_number-first : (g : Headed) (xs ys : List Headed) → Above g.header.number (xs ++ ys) → by_number (xs ++ g ∷ ys) ≡ g ∷ by_number (xs ++ ys)
by_number-first g [] ys h = number_first g (by_number ys) (all_by_number (λ f. g.header.number < f.header.number) ys h)
by_number-first g (x ∷ xs) ys h =
    ap (with_numbered x) (by_number-first g xs ys h.1) ∙ ap (λ b. cond b (x ∷ g ∷ by_number (xs ++ ys)) (g ∷ with_numbered x (by_number (xs ++ ys)))) (behind_all x g h.0)

filter_all : (P : Headed → Type 0) (t : Headed → Bool) (fs : List Headed) → AllByRecursion P fs → AllByRecursion P (filter t fs)
filter_all P t [] h = tt
filter_all P t (f ∷ fs) h = elim (t f) as (λ b. AllByRecursion P (cond b (f ∷ filter t fs) (filter t fs))) [ true ↦ (h.0, filter_all P t fs h.1) | false ↦ filter_all P t fs h.1 ]

heads_all : (P : Headed → Type 0) (d : Disk) → AllByRecursion (λ f. P (headed (full_file f))) d → AllByRecursion P (heads d)
heads_all P [] h = tt
heads_all P (f ∷ d) h =
    elim (is_in_use f.place) as (λ b. AllByRecursion P (map headed (cond b (full_file f ∷ in_use (full d)) (in_use (full d))))) [ true ↦ (h.0, heads_all P d h.1) | false ↦ heads_all P d h.1 ]

mine_all : (P : Headed → Type 0) (kind : JournalKind) (name : List ℕ) (d : Disk) → AllByRecursion (λ f. P (headed (full_file f))) d → AllByRecursion P (mine kind name d)
mine_all P kind name d h = filter_all P (is_of kind name) (heads d) (heads_all P d h)

-- it is the one, or has a greater number
abbrev pub IsOrAbove : ℕ → ℕ → Headed → Type 0
IsOrAbove id n f = (f.id == id) ≡ false → n < f.header.number

all_above : (id n : ℕ) (fs : List Headed) → AllByRecursion (λ f. (f.id == id) ≡ false) fs → AllByRecursion (IsOrAbove id n) fs → Above n fs
all_above id n [] l h = tt
all_above id n (f ∷ fs) l h = (h.0 l.0, all_above id n fs l.1 h.1)

cut_all : (P : Headed → Type 0) (g : Headed) (xs ys : List Headed) → AllByRecursion P (xs ++ g ∷ ys) → AllByRecursion P xs × AllByRecursion P ys
cut_all P g [] ys h = (tt, h.1)
cut_all P g (x ∷ xs) ys h = let rest = cut_all P g xs ys h.1 in ((h.0, rest.0), rest.1)

join_all : (P : Headed → Type 0) (xs ys : List Headed) → AllByRecursion P xs → AllByRecursion P ys → AllByRecursion P (xs ++ ys)
join_all P [] ys a b = b
join_all P (x ∷ xs) ys a b = (a.0, join_all P xs ys a.1 b)

-- that file goes out of use, before all others of its journal
pub files-unlinked : (o : Opening) (id : ℕ) (f : FileState) (c : FileState → FileState) (d : Disk) → Split id f d → is_in_use f.place ≡ true → is_in_use (c f).place ≡ false
    → is_of o.kind o.name (headed (full_file f)) ≡ true → AllByRecursion (IsOrAbove id (headed (full_file f)).header.number) (files_on o d)
    → files_on o d ≡ headed (full_file f) ∷ files_on o (change_file id c d)
files-unlinked o id f c d s useful out own above =
    let g : Headed = headed (full_file f) in
    let test = is_of o.kind o.name in
    let xs = mine o.kind o.name s.before in
    let ys = mine o.kind o.name s.after in
    let old : mine o.kind o.name d ≡ xs ++ g ∷ ys =
    ap (λ e. mine o.kind o.name e) s.is ∙ ap (filter test) (heads-append s.before (f ∷ s.after) ∙ ap (λ (x : List Headed). heads s.before ++ x) (heads-in f s.after useful))
    ∙ filter-append test (heads s.before) (g ∷ heads s.after) ∙ ap (λ b. xs ++ cond b (g ∷ ys) ys) own in
    let new : mine o.kind o.name (change_file id c d) ≡ xs ++ ys =
    ap (λ e. mine o.kind o.name e) (change_split id f c d s) ∙ ap (filter test) (heads-append s.before (c f ∷ s.after) ∙ ap (λ (x : List Headed). heads s.before ++ x) (heads-out (c f) s.after out))
    ∙ filter-append test (heads s.before) (heads s.after) in
    let all = cut_all (IsOrAbove id g.header.number) g xs ys (subst (AllByRecursion (IsOrAbove id g.header.number)) old (by_number-back (IsOrAbove id g.header.number) (mine o.kind o.name d) above)) in
    let before : Above g.header.number xs = all_above id g.header.number xs (mine_all (λ h. (h.id == id) ≡ false) o.kind o.name s.before s.lacks_before) all.0 in
    let after : Above g.header.number ys = all_above id g.header.number ys (mine_all (λ h. (h.id == id) ≡ false) o.kind o.name s.after s.lacks_after) all.1 in
    ap by_number old ∙ by_number-first g xs ys (join_all (λ h. g.header.number < h.header.number) xs ys before after) ∙ ap (λ (x : List Headed). g ∷ by_number x) (sym new)

-- ---- the newest file of the journal leaves it

-- it is the one, or has a lesser number
abbrev pub IsOrBelow : ℕ → ℕ → Headed → Type 0
IsOrBelow id n f = (f.id == id) ≡ false → f.header.number < n

all_below : (id n : ℕ) (fs : List Headed) → AllByRecursion (λ f. (f.id == id) ≡ false) fs → AllByRecursion (IsOrBelow id n) fs → Below n fs
all_below id n [] l h = tt
all_below id n (f ∷ fs) l h = (h.0 l.0, all_below id n fs l.1 h.1)

-- that file goes out of use, behind all others of its journal
pub files-unlinked_last : (o : Opening) (id : ℕ) (f : FileState) (c : FileState → FileState) (d : Disk) → Split id f d → is_in_use f.place ≡ true → is_in_use (c f).place ≡ false
    → is_of o.kind o.name (headed (full_file f)) ≡ true → AllByRecursion (IsOrBelow id (headed (full_file f)).header.number) (files_on o d)
    → files_on o d ≡ files_on o (change_file id c d) ++ headed (full_file f) ∷ []
files-unlinked_last o id f c d s useful out own below =
    let g : Headed = headed (full_file f) in
    let test = is_of o.kind o.name in
    let xs = mine o.kind o.name s.before in
    let ys = mine o.kind o.name s.after in
    let old : mine o.kind o.name d ≡ xs ++ g ∷ ys =
    ap (λ e. mine o.kind o.name e) s.is ∙ ap (filter test) (heads-append s.before (f ∷ s.after) ∙ ap (λ (x : List Headed). heads s.before ++ x) (heads-in f s.after useful))
    ∙ filter-append test (heads s.before) (g ∷ heads s.after) ∙ ap (λ b. xs ++ cond b (g ∷ ys) ys) own in
    let new : mine o.kind o.name (change_file id c d) ≡ xs ++ ys =
    ap (λ e. mine o.kind o.name e) (change_split id f c d s) ∙ ap (filter test) (heads-append s.before (c f ∷ s.after) ∙ ap (λ (x : List Headed). heads s.before ++ x) (heads-out (c f) s.after out))
    ∙ filter-append test (heads s.before) (heads s.after) in
    let all = cut_all (IsOrBelow id g.header.number) g xs ys (subst (AllByRecursion (IsOrBelow id g.header.number)) old (by_number-back (IsOrBelow id g.header.number) (mine o.kind o.name d) below)) in
    let before : Below g.header.number xs = all_below id g.header.number xs (mine_all (λ h. (h.id == id) ≡ false) o.kind o.name s.before s.lacks_before) all.0 in
    let after : Below g.header.number ys = all_below id g.header.number ys (mine_all (λ h. (h.id == id) ≡ false) o.kind o.name s.after s.lacks_after) all.1 in
    ap by_number old ∙ by_number-insert g xs ys (join_all (λ h. h.header.number < g.header.number) xs ys before after) ∙ ap (λ (x : List Headed). by_number x ++ g ∷ []) (sym new)
