-- A log's files with nothing pending: what is written of them while they stay as they are.
use Rattle.std.proofs.Common.{◌≡◌, ℕ, true, false, List, [], ◌∷◌, ◌++◌, Option, Some, None, refl, ap, subst}
use Rattle.std.specs.List.{list_any, AllByRecursion}
use Rattle.qls_site.specs.Disk.{Disk, FileState, Write, file_of}
use Rattle.qls_site.specs.Content.{Moment}
use Rattle.qls_meaning.specs.Journals.{is_in_use}
use Rattle.qls_meaning.specs.History.{History, FreeArea, now, is_file_in_use, is_pending, covers, uses}
use Rattle.qls_pool.specs.Files.{HeadedFile, IsAtRest, RestsThere, is_among}
use Rattle.qls_pool.specs.Moments.{Chain}
use Rattle.qls_log.specs.Logs.{LogState, capacity_in}
use Rattle.qls_log.specs.Standing.{LogThere, RestsBut}
use Rattle.qls_log.specs.Unwritten.{IsClear, IsWrittenTo, LeaveFiles, history_with}
use Rattle.qls_log.proofs.Sectors.{KeepsSectors, same_file_keeps, StaysFree, kept_free, clear_with, written_still}

-- ---- lists

pub every : {A : Type 0} (P : A → Type 0) → ((a : A) → P a) → (xs : List A) → AllByRecursion P xs
every P p [] = tt
every P p (x ∷ xs) = (p x, every P p xs)

pub both_all : {A : Type 0} (P Q R : A → Type 0) → ((a : A) → P a → Q a → R a) → (xs : List A) → AllByRecursion P xs → AllByRecursion Q xs → AllByRecursion R xs
both_all P Q R s [] p q = tt
both_all P Q R s (x ∷ xs) p q = (s x p.0 q.0, both_all P Q R s xs p.1 q.1)

pub weaker_all : {A : Type 0} (P R : A → Type 0) → ((a : A) → P a → R a) → (xs : List A) → AllByRecursion P xs → AllByRecursion R xs
weaker_all P R s [] p = tt
weaker_all P R s (x ∷ xs) p = (s x p.0, weaker_all P R s xs p.1)

pub later_all : (P : HeadedFile → Type 0) (given kept : List HeadedFile) → AllByRecursion P (given ++ kept) → AllByRecursion P kept
later_all P [] kept a = a
later_all P (g ∷ given) kept a = later_all P given kept a.1

pub earlier_all : (P : HeadedFile → Type 0) (given kept : List HeadedFile) → AllByRecursion P (given ++ kept) → AllByRecursion P given
earlier_all P [] kept a = tt
earlier_all P (g ∷ given) kept a = (a.0, earlier_all P given kept a.1)

pub all_clear : (areas : List FreeArea) (h : History) (ms : List Moment) (hs : List HeadedFile) → AllByRecursion (λ f. IsClear areas h f.id) hs → AllByRecursion (λ f. IsClear areas (history_with h ms) f.id) hs
all_clear areas h ms hs c = weaker_all (λ f. IsClear areas h f.id) (λ f. IsClear areas (history_with h ms) f.id) (λ f k. clear_with areas h ms f.id k) hs c

-- ---- a file with nothing pending

rest_used : (h : HeadedFile) (p : Option FileState) → IsAtRest h p → is_file_in_use p ≡ true
rest_used h None r = absurd r
rest_used h (Some f) r = ap is_in_use r.0

rest_clear : (h : HeadedFile) (p : Option FileState) (k : ℕ) → IsAtRest h p → is_pending k p ≡ false
rest_clear h None k r = refl
rest_clear h (Some f) k r = ap (λ (ws : List Write). list_any (covers k) ws) r.1

pub at_rest_used : (h : HeadedFile) (m : Moment) → RestsThere h m.disk → uses h.id m ≡ true
at_rest_used h m r = rest_used h (file_of h.id m.disk) r

pub at_rest_clear : (areas : List FreeArea) (h : History) (f : HeadedFile) → RestsThere f (now h).disk → IsClear areas h f.id
at_rest_clear areas h f r = λ k e. rest_clear f (file_of f.id (now h).disk) k r

pub all_resting : (hs : List HeadedFile) (d : Disk) → RestsBut [] hs d → AllByRecursion (λ h. RestsThere h d) hs
all_resting hs d r = weaker_all (λ h. is_among h.id [] ≡ false → RestsThere h d) (λ h. RestsThere h d) (λ h k. k refl) hs r

pub log_rests : (l : LogState) (d : Disk) → LogThere l d → l.unsynced ≡ [] → AllByRecursion (λ h. RestsThere h d) l.files
log_rests l d there flushed = all_resting l.files d (subst (λ (own : List ℕ). RestsBut own l.files d) flushed there.rests)

-- files at rest that keep their sectors stay free from where they were
pub resting_free : (areas : List FreeArea) (h : History) (ms : List Moment) (cap : ℕ) (hs : List HeadedFile) → AllByRecursion (λ f. RestsThere f (now h).disk) hs → AllByRecursion (λ f. Chain (KeepsSectors f.id) (now h) ms) hs
    → AllByRecursion (λ f. StaysFree areas (history_with h ms) h cap f.id) hs
resting_free areas h ms cap hs r c =
    both_all (λ f. RestsThere f (now h).disk) (λ f. Chain (KeepsSectors f.id) (now h) ms) (λ f. StaysFree areas (history_with h ms) h cap f.id)
    (λ f a b from free. kept_free areas h f.id ms cap from b (at_rest_used f (now h) a) (at_rest_clear areas h f a) free) hs r c

-- ---- files that stay as they are

left_alone : (l : LogState) (m : Moment) (ms : List Moment) → LeaveFiles l m ms → AllByRecursion (λ f. Chain (KeepsSectors f.id) m ms) l.files
left_alone l m [] h = every (λ f. Unit {0}) (λ f. tt) l.files
left_alone l m (n ∷ ns) h =
    both_all (λ f. file_of f.id n.disk ≡ file_of f.id m.disk) (λ f. Chain (KeepsSectors f.id) n ns) (λ f. Chain (KeepsSectors f.id) m (n ∷ ns)) (λ f e c. (same_file_keeps f.id m n e, c)) l.files h.0 (left_alone l n ns h.1)

pub stays_written : (areas : List FreeArea) (h : History) (l : LogState) (ms : List Moment) → LogThere l (now h).disk → l.unsynced ≡ [] → LeaveFiles l (now h) ms → IsWrittenTo areas h l → IsWrittenTo areas (history_with h ms) l
stays_written areas h l ms there flushed leave w = record {
  written =
      written_still areas (history_with h ms) h (capacity_in l.opening) l.used l.files (resting_free areas h ms (capacity_in l.opening) l.files (log_rests l (now h).disk there flushed) (left_alone l (now h) ms leave)) w.written;
  clear = all_clear areas h ms l.files w.clear;
}
