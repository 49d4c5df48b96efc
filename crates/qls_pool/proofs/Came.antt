-- Which files come into use between two moments.
use Rattle.std.proofs.Common.{◌≡◌, ℕ, Bool, true, false, cond, not, ◌==◌, List, [], ◌∷◌, map, take, Option, Some, None, Ok, refl, sym, ap, ◌∙◌, subst}
use Rattle.std.specs.List.{filter, AllByRecursion}
use Rattle.qls_site.specs.declared.site.Place.TheVariants.{InUse}
use Rattle.qls_site.specs.Disk.{Disk, FileState, file_of, full_file, changed, change_file, create_at}
use Rattle.qls_site.specs.Content.{Moment, on_disk}
use Rattle.qls_site.proofs.Told.{KeepsId}
use Rattle.qls_filehdr.specs.declared.FileHeader.{FileHeader}
use Rattle.qls_filehdr.specs.Header.{header_of}
use Rattle.qls_meaning.specs.Journals.{Headed, headed, is_in_use, in_use}
use Rattle.qls_meaning.specs.Kept.{Differ, ids_of}
use Rattle.qls_meaning.specs.Orderly.{journal_on}
use Rattle.qls_meaning.specs.History.{uses, is_file_in_use, newly_used}
use Rattle.qls_site.specs.Disk.{full}
use Rattle.qls_pool.specs.Taking.{put_in_use}
use Rattle.qls_pool.specs.Discipline.{TakesFirst, IsFirstTaken}
use Rattle.qls_pool.proofs.Disks.{eqb_is, same_id}
use Rattle.qls_pool.proofs.Steps.{all_map, all_weaken, all_with, all_found, apart}

-- a file in use was in use before
abbrev pub WasInUse : Moment → FileState → Type 0
WasInUse m g = is_in_use g.place ≡ true → uses g.id m ≡ true

abbrev pub NoneComes : Moment → Moment → Type 0
NoneComes m n = AllByRecursion (WasInUse m) n.disk

-- the files of the disk that are in use and weren't at the moment
abbrev came : Moment → Disk → List Headed
came m d = filter (λ f. not (uses f.id m)) (map headed (in_use (full d)))

-- one file before the others
abbrev came_with : Bool → Bool → FileState → List Headed → List Headed
came_with used was g fs = cond used (cond (not was) (headed (full_file g) ∷ fs) fs) fs

came_step : (m : Moment) (g : FileState) (d : Disk) → came m (g ∷ d) ≡ came_with (is_in_use g.place) (uses g.id m) g (came m d)
came_step m g d =
    elim (is_in_use g.place) as (λ b. filter (λ f. not (uses f.id m)) (map headed (cond b (full_file g ∷ in_use (full d)) (in_use (full d)))) ≡ came_with b (uses g.id m) g (came m d)) [ true ↦ refl | false ↦ refl ]

not_both : (b : Bool) → b ≡ true → b ≡ false → ⊥
not_both b e k = cc

passed_over : (used was : Bool) (g : FileState) (fs : List Headed) → (used ≡ true → was ≡ true) → came_with used was g fs ≡ fs
passed_over false was g fs h = refl
passed_over true was g fs h = ap (λ b. cond (not b) (headed (full_file g) ∷ fs) fs) (h refl)

pub none_came_on : (m : Moment) (d : Disk) → AllByRecursion (WasInUse m) d → came m d ≡ []
none_came_on m [] h = refl
none_came_on m (g ∷ d) h = came_step m g d ∙ passed_over (is_in_use g.place) (uses g.id m) g (came m d) h.0 ∙ none_came_on m d h.1

pub none_came : (m n : Moment) → NoneComes m n → newly_used m n ≡ []
none_came m n h = none_came_on m n.disk h

-- ---- where no file comes into use

found_used : (m : Moment) (f : FileState) → file_of f.id m.disk ≡ Some f → WasInUse m f
found_used m f e used = ap is_file_in_use e ∙ used

pub none_same : (m n : Moment) → Differ (ids_of (full m.disk)) → n.disk ≡ m.disk → NoneComes m n
none_same m n differ e =
    subst (λ (d : Disk). AllByRecursion (WasInUse m) d) (sym e)
    (all_weaken (λ f. file_of f.id m.disk ≡ Some f) (WasInUse m) (λ f k. found_used m f k) m.disk (all_found m.disk differ))

-- a change that keeps ids and places
pub none_change : (own : ℕ) (c : FileState → FileState) → KeepsId c → ((f : FileState) → (c f).place ≡ f.place) → (m : Moment) → Differ (ids_of (full m.disk)) → NoneComes m (on_disk (change_file own c) m)
none_change own c keeps stays m differ =
    all_map (λ f. file_of f.id m.disk ≡ Some f) (WasInUse m) (changed own c)
    (λ f e used. ap (λ n. uses n m) (same_id own c keeps f) ∙ found_used m f e (sym (ap is_in_use (same_place f)) ∙ used)) m.disk (all_found m.disk differ)
  where
    same_place : (f : FileState) → (changed own c f).place ≡ f.place
    same_place f = elim (f.id == own) as (λ b. (cond b (c f) f).place ≡ f.place) [ true ↦ stays f | false ↦ refl ]

-- a file that goes out of use
pub none_back : (own : ℕ) (c : FileState → FileState) → KeepsId c → ((f : FileState) → is_in_use (c f).place ≡ false) → (m : Moment) → Differ (ids_of (full m.disk)) → NoneComes m (on_disk (change_file own c) m)
none_back own c keeps out m differ =
    all_map (λ f. file_of f.id m.disk ≡ Some f) (WasInUse m) (changed own c)
    (λ f e used. ap (λ n. uses n m) (same_id own c keeps f) ∙ found_used m f e (was f used)) m.disk (all_found m.disk differ)
  where
    was : (f : FileState) → is_in_use (changed own c f).place ≡ true → is_in_use f.place ≡ true
    was f = elim (f.id == own) as (λ b. is_in_use (cond b (c f) f).place ≡ true → is_in_use f.place ≡ true) [ true ↦ λ e. absurd (not_both (is_in_use (c f).place) e (out f)) | false ↦ λ e. e ]

pub none_create : (n part kib : ℕ) (m : Moment) → Differ (ids_of (full m.disk)) → NoneComes m (on_disk (create_at n part kib) m)
none_create n part kib m differ = all_with (WasInUse m) _ (λ used. absurd (cc)) m.disk (none_same m m differ refl)

first_of_none : (m : Moment) (o : Option FileState) (g : FileState) → (is_in_use g.place ≡ true → is_file_in_use o ≡ true) → TakesFirst m o g
first_of_none m None g h = tt
first_of_none m (Some f) g h = λ was now. absurd (not_both (is_in_use f.place) (h now) was)

-- none of them is the first of its journal
pub none_first : (m n : Moment) → NoneComes m n → IsFirstTaken m n
none_first m n h = all_weaken (WasInUse m) (λ g. TakesFirst m (file_of g.id m.disk) g) (λ g k. first_of_none m (file_of g.id m.disk) g k) n.disk h

-- ---- one file comes into use

abbrev used : FileState → FileState
used f = record f { place = InUse }

-- the file of the id, where it is there
abbrev only : Option FileState → List Headed
only None = []
only (Some g) = headed (full_file (used g)) ∷ []

lacks_of : (id : ℕ) (f : FileState) (d : Disk) → (f.id == id) ≡ true → AllByRecursion (λ g. (f.id == g.id) ≡ false) d → file_of id d ≡ None
lacks_of id f [] e h = refl
lacks_of id f (g ∷ d) e h = ap (λ b. cond b (Some g) (file_of id d)) (apart (g.id == id) refl) ∙ lacks_of id f d e h.1
  where
    apart : (b : Bool) → (g.id == id) ≡ b → b ≡ false
    apart false k = refl
    apart true k = absurd (not_both (f.id == g.id) (ap (λ x. f.id == x) (eqb_is g.id id k) ∙ e) h.0)

link_one : (m : Moment) (id : ℕ) (g : FileState) (d : Disk) (b : Bool) → (g.id == id) ≡ b → file_of g.id m.disk ≡ Some g → (b ≡ true → is_in_use g.place ≡ false) → came m (change_file id used d) ≡ only (file_of id d)
    → (b ≡ true → file_of id d ≡ None) → came_with (is_in_use (cond b (used g) g).place) (uses (cond b (used g) g).id m) (cond b (used g) g) (came m (change_file id used d)) ≡ only (cond b (Some g) (file_of id d))
link_one m id g d true e found was ih lacks =
    let free : uses g.id m ≡ false = ap is_file_in_use found ∙ was refl in
    ap (λ c. cond (not c) (headed (full_file (used g)) ∷ came m (change_file id used d)) (came m (change_file id used d))) free
    ∙ ap (λ (fs : List Headed). headed (full_file (used g)) ∷ fs) (ih ∙ ap only (lacks refl))
link_one m id g d false e found was ih lacks = passed_over (is_in_use g.place) (uses g.id m) g (came m (change_file id used d)) (found_used m g found) ∙ ih

link_on : (m : Moment) (id : ℕ) → is_file_in_use (file_of id m.disk) ≡ false → (d : Disk) → Differ (ids_of (full d)) → AllByRecursion (λ g. file_of g.id m.disk ≡ Some g) d → came m (change_file id used d) ≡ only (file_of id d)
link_on m id free [] differ found = refl
link_on m id free (g ∷ d) differ found =
    came_step m (changed id used g) (change_file id used d)
    ∙ link_one m id g d (g.id == id) refl found.0
    (λ e. ap is_file_in_use (sym found.0) ∙ ap (λ n. is_file_in_use (file_of n m.disk)) (eqb_is g.id id e) ∙ free) (link_on m id free d differ.1 found.1)
    (λ e. lacks_of id g d e (apart g.id d differ.0))

-- the file that is put into use is the one that comes into use
pub link_came : (m : Moment) (id : ℕ) (f : FileState) → Differ (ids_of (full m.disk)) → file_of id m.disk ≡ Some f → is_in_use f.place ≡ false → newly_used m (put_in_use id m) ≡ headed (full_file (used f)) ∷ []
link_came m id f differ there free = link_on m id (ap is_file_in_use there ∙ free) m.disk differ (all_found m.disk differ) ∙ ap only there

-- what a header says of a file that is the first of its journal
pub record SaysFirst (m : Moment) (header : FileHeader) : Type 0 where
  pub epoch : header.epoch ≡ 1
  pub number : header.number ≡ 1
  pub new : (journal_on m.disk header.kind header.name).files ≡ []

one_first : (m : Moment) (id : ℕ) (header : FileHeader) (b : Bool) (f : FileState) → (f.id == id) ≡ b → (b ≡ true → header_of (take 4096 f.stable) ≡ Ok header) → SaysFirst m header
    → TakesFirst m (Some f) (cond b (used f) f)
one_first m id header true f k reads first = λ was now. (header, record { legal = reads refl; epoch = first.epoch; number = first.number; new = first.new })
one_first m id header false f k reads first = λ was now. absurd (not_both (is_in_use f.place) now was)

-- and it is the first of its journal
pub link_first : (m : Moment) (id : ℕ) (header : FileHeader) → Differ (ids_of (full m.disk)) → ((f : FileState) → file_of id m.disk ≡ Some f → header_of (take 4096 f.stable) ≡ Ok header) → SaysFirst m header
    → IsFirstTaken m (put_in_use id m)
link_first m id header differ reads first =
    all_map (λ f. file_of f.id m.disk ≡ Some f) (λ g. TakesFirst m (file_of g.id m.disk) g) (changed id used)
    (λ f e. subst (λ (o : Option FileState). TakesFirst m o (changed id used f)) (sym (ap (λ n. file_of n m.disk) (same_id id used (λ f. refl) f) ∙ e))
    (one_first m id header (f.id == id) f refl (λ k. reads f (subst (λ n. file_of n m.disk ≡ Some f) (eqb_is f.id id k) e)) first)) m.disk (all_found m.disk differ)
