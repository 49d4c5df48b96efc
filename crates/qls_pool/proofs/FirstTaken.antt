-- Calls by which no pool changes, and files that come into use as the first of their journals.
use Rattle.std.proofs.Common.{◌≡◌, ℕ, ◌+◌, ◌*◌, ◌≤◌, true, false, cond, ◌==◌, List, [], ◌∷◌, ◌++◌, length, take, replicate, Option, Some, None, Result, Ok, IsTrue, refl, sym, ap, ◌∙◌, subst}
use Rattle.std.proofs.lemmas.List.{append_cancel_left}
use Rattle.std.specs.List.{AllByRecursion}
use Rattle.qls_site.specs.declared.site.Place.{Place}
use Rattle.qls_site.specs.declared.site.Place.TheVariants.{InUse, Empty}
use Rattle.qls_site.specs.Disk.{Disk, FileState, Write, file_of, size_of, changed, change_file, all_written, write_at, sync_at, create_at, relocate_at}
use Rattle.qls_site.specs.Content.{Moment, InFile}
use Rattle.qls_site.proofs.DiskLaws.{length-written}
use Rattle.qls_site.proofs.Told.{KeepsId}
use Rattle.qls_filehdr.specs.declared.FileHeader.{FileHeader}
use Rattle.qls_filehdr.specs.declared.Rule.{Rule}
use Rattle.qls_filehdr.specs.Limits.{is_legal_header}
use Rattle.qls_filehdr.specs.Header.{header_of}
use Rattle.qls_meaning.specs.History.{History, FreeArea, last_of, now, next, uses, is_file_in_use}
use Rattle.qls_meaning.specs.Journals.{Headed, is_in_use}
use Rattle.qls_meaning.specs.Dead.{newest_number}
use Rattle.qls_meaning.specs.Orderly.{FileSteps, IsOrderlyFrom, next_epoch, journal_on}
use Rattle.qls_pool.specs.Pools.{PoolState}
use Rattle.qls_pool.specs.Files.{HeadedFile, HeadedThere, IsHeaded, IsPoolOf, IdsDiffer}
use Rattle.qls_pool.specs.Discipline.{MeetsFront, PoolFileStep, PoolFileSteps, IsPoolStep, ArePoolSteps, TakesFile, IsTakingStep, TakesInOrder, TakesFirst, IsFirstTaken, AreFirstTaken}
use Rattle.qls_pool.proofs.Disks.{eqb_is, same_id, pool_kept}
use Rattle.qls_pool.proofs.Calls.{one_more_write}
use Rattle.qls_pool.proofs.Steps.{all_map, all_weaken, all_both, all_with, all_found, not_both, only_one, step_change, step_same, sync_step, reads_header, differ_change}

abbrev write : ℕ → List ℕ → FileState → FileState
write at bytes f = record f { pending = f.pending ++ (record { at = at; bytes = bytes }) ∷ [] }

abbrev sync : FileState → FileState
sync f = record f { stable = all_written f.pending f.stable; pending = [] }

abbrev move : Place → FileState → FileState
move to f = record f { place = to }

-- ---- pools

in_file : (at n : ℕ) (o : Option FileState) (f : FileState) → InFile at n o → o ≡ Some f → at + n ≤ size_of f
in_file at n o f h e = subst (InFile at n) e h

size_kept : (at : ℕ) (bytes : List ℕ) (f : FileState) → at + length bytes ≤ size_of f → size_of (write at bytes f) ≡ size_of f
size_kept at bytes f fits =
    let w : Write = record { at = at; bytes = bytes } in
    ap length (one_more_write f.pending w f.stable) ∙ length-written w (all_written f.pending f.stable) fits

pub write_pool : (pool : PoolState) (out : List ℕ) (id at : ℕ) (bytes : List ℕ) (d : Disk) → InFile at (length bytes) (file_of id d) → IsPoolOf pool out d → IsPoolOf pool out (write_at id at bytes d)
write_pool pool out id at bytes d fits h =
    pool_kept id (write at bytes) (λ f. refl) (λ f. refl) d (λ f e. size_kept at bytes f (in_file at (length bytes) (file_of id d) f fits e)) pool out h

pub sync_pool : (pool : PoolState) (out : List ℕ) (id : ℕ) (d : Disk) → IsPoolOf pool out d → IsPoolOf pool out (sync_at id d)
sync_pool pool out id d h = pool_kept id sync (λ f. refl) (λ f. refl) d (λ f e. refl) pool out h

pub write_ids : (id at : ℕ) (bytes : List ℕ) (d : Disk) → IdsDiffer d → IdsDiffer (write_at id at bytes d)
write_ids id at bytes d h = differ_change id (write at bytes) (λ f. refl) d h

pub sync_ids : (id : ℕ) (d : Disk) → IdsDiffer d → IdsDiffer (sync_at id d)
sync_ids id d h = differ_change id sync (λ f. refl) d h

-- ---- steps of the pool

wrote : (m : Moment) (f : FileState) (v : Write) → MeetsFront f.place v → PoolFileStep m f (record f { pending = f.pending ++ v ∷ [] })
wrote m f v meets = record {
  taken = λ a b. absurd (not_both (is_in_use f.place) a b);
  returned = λ a b. absurd (not_both (is_in_use f.place) b a);
  written = λ w e. subst (MeetsFront f.place) (only_one v w (append_cancel_left f.pending (v ∷ []) (w ∷ []) e)) meets;
}

used_meets : (p : Place) (w : Write) → is_in_use p ≡ true → MeetsFront p w
used_meets InUse w e = tt
used_meets (Empty part kib) w e = absurd (cc)

front_meets : (p : Place) (w : Write) → w.at + length w.bytes ≤ 4096 → MeetsFront p w
front_meets InUse w h = tt
front_meets (Empty part kib) w h = h

used_is : (o : Option FileState) (f : FileState) → is_file_in_use o ≡ true → o ≡ Some f → is_in_use f.place ≡ true
used_is o f h e = ap is_file_in_use (sym e) ∙ h

-- the later moment's disk is what counts
by_disk : (m n : Moment) (d : Disk) → n.disk ≡ d → AllByRecursion (λ g. PoolFileSteps m (file_of g.id m.disk) g) d → IsPoolStep m n
by_disk m n d e h = subst (λ (x : Disk). AllByRecursion (λ g. PoolFileSteps m (file_of g.id m.disk) g) x) (sym e) h

pub same_is_step : (m n : Moment) → IdsDiffer m.disk → n.disk ≡ m.disk → IsPoolStep m n
same_is_step m n differ e = by_disk m n m.disk e (step_same m differ)

pub write_is_step : (id at : ℕ) (bytes : List ℕ) (m n : Moment) → IdsDiffer m.disk → uses id m ≡ true → n.disk ≡ write_at id at bytes m.disk → IsPoolStep m n
write_is_step id at bytes m n differ used e =
    let w : Write = record { at = at; bytes = bytes } in
    by_disk m n (write_at id at bytes m.disk) e
    (step_change id (write at bytes) (λ f. refl) m differ (λ f k. wrote m f w (used_meets f.place w (used_is (file_of id m.disk) f used k))))

pub front_is_step : (id at : ℕ) (bytes : List ℕ) (m n : Moment) → IdsDiffer m.disk → at + length bytes ≤ 4096 → n.disk ≡ write_at id at bytes m.disk → IsPoolStep m n
front_is_step id at bytes m n differ fits e =
    let w : Write = record { at = at; bytes = bytes } in
    by_disk m n (write_at id at bytes m.disk) e (step_change id (write at bytes) (λ f. refl) m differ (λ f k. wrote m f w (front_meets f.place w fits)))

pub sync_is_step : (id : ℕ) (m n : Moment) → IdsDiffer m.disk → n.disk ≡ sync_at id m.disk → IsPoolStep m n
sync_is_step id m n differ e = by_disk m n (sync_at id m.disk) e (sync_step id m differ)

-- ---- no file comes into use

first_disk : (m n : Moment) (d : Disk) → n.disk ≡ d → AllByRecursion (λ g. TakesFirst m (file_of g.id m.disk) g) d → IsFirstTaken m n
first_disk m n d e h = subst (λ (x : Disk). AllByRecursion (λ g. TakesFirst m (file_of g.id m.disk) g) x) (sym e) h

place_kept : (m : Moment) (f g : FileState) → g.place ≡ f.place → TakesFirst m (Some f) g
place_kept m f g e a b = absurd (not_both (is_in_use f.place) a (ap is_in_use (sym e) ∙ b))

stays_used : (m : Moment) (f : FileState) → TakesFirst m (Some f) f
stays_used m f = place_kept m f f refl

-- an empty file is taken by nobody
empty_untaken : (m : Moment) (o : Option FileState) (g : FileState) → is_in_use g.place ≡ false → TakesFirst m o g
empty_untaken m None g e = tt
empty_untaken m (Some f) g e = λ a b. absurd (not_both (is_in_use g.place) e b)

first_same : (m : Moment) → IdsDiffer m.disk → AllByRecursion (λ g. TakesFirst m (file_of g.id m.disk) g) m.disk
first_same m differ =
    all_weaken (λ f. file_of f.id m.disk ≡ Some f) (λ g. TakesFirst m (file_of g.id m.disk) g) (λ f e. subst (λ (o : Option FileState). TakesFirst m o f) (sym e) (stays_used m f)) m.disk (all_found m.disk differ)

first_change : (own : ℕ) (c : FileState → FileState) → KeepsId c → (m : Moment) → IdsDiffer m.disk → ((f : FileState) → file_of own m.disk ≡ Some f → TakesFirst m (Some f) (c f))
    → AllByRecursion (λ g. TakesFirst m (file_of g.id m.disk) g) (change_file own c m.disk)
first_change own c keeps m differ mine =
    all_map (λ f. file_of f.id m.disk ≡ Some f) (λ g. TakesFirst m (file_of g.id m.disk) g) (changed own c)
    (λ f e. subst (λ (o : Option FileState). TakesFirst m o (changed own c f)) (sym (ap (λ n. file_of n m.disk) (same_id own c keeps f) ∙ e)) (one f e)) m.disk (all_found m.disk differ)
  where
    one : (f : FileState) → file_of f.id m.disk ≡ Some f → TakesFirst m (Some f) (changed own c f)
    one f e =
        elim (f.id == own) as (λ b. (f.id == own) ≡ b → TakesFirst m (Some f) (cond b (c f) f)) [
          | true ↦ λ k. mine f (subst (λ n. file_of n m.disk ≡ Some f) (eqb_is f.id own k) e)
          | false ↦ λ k. stays_used m f
        ] refl

pub same_takes_none : (m n : Moment) → IdsDiffer m.disk → n.disk ≡ m.disk → IsFirstTaken m n
same_takes_none m n differ e = first_disk m n m.disk e (first_same m differ)

pub write_takes_none : (id at : ℕ) (bytes : List ℕ) (m n : Moment) → IdsDiffer m.disk → n.disk ≡ write_at id at bytes m.disk → IsFirstTaken m n
write_takes_none id at bytes m n differ e = first_disk m n (write_at id at bytes m.disk) e (first_change id (write at bytes) (λ f. refl) m differ (λ f k. place_kept m f (write at bytes f) refl))

pub sync_takes_none : (id : ℕ) (m n : Moment) → IdsDiffer m.disk → n.disk ≡ sync_at id m.disk → IsFirstTaken m n
sync_takes_none id m n differ e = first_disk m n (sync_at id m.disk) e (first_change id sync (λ f. refl) m differ (λ f k. place_kept m f (sync f) refl))

pub create_takes_none : (id part kib : ℕ) (m n : Moment) → IdsDiffer m.disk → n.disk ≡ create_at id part kib m.disk → IsFirstTaken m n
create_takes_none id part kib m n differ e =
    let f : FileState = record { id = id; place = Empty part kib; stable = replicate (4096 + 1024 * kib) 0; pending = [] } in
    first_disk m n (create_at id part kib m.disk) e
    (all_with (λ g. TakesFirst m (file_of g.id m.disk) g) f (empty_untaken m (file_of id m.disk) f refl) m.disk (first_same m differ))

pub return_takes_none : (id part kib : ℕ) (m n : Moment) → IdsDiffer m.disk → n.disk ≡ relocate_at id (Empty part kib) m.disk → IsFirstTaken m n
return_takes_none id part kib m n differ e =
    first_disk m n (relocate_at id (Empty part kib) m.disk) e
    (first_change id (move (Empty part kib)) (λ f. refl) m differ (λ f k. empty_untaken m (Some f) (move (Empty part kib) f) refl))

-- ---- the first file of a journal comes into use

headed_is : (h : HeadedFile) (o : Option FileState) (f : FileState) → IsHeaded h o → o ≡ Some f → IsHeaded h (Some f)
headed_is h o f k e = subst (IsHeaded h) e k

pub link_takes_first : (h : HeadedFile) (m n : Moment) → IdsDiffer m.disk → IsTrue (is_legal_header h.header) → HeadedThere h m.disk → h.header.epoch ≡ 1 → h.header.number ≡ 1
    → (journal_on m.disk h.header.kind h.header.name).files ≡ [] → n.disk ≡ relocate_at h.id InUse m.disk → IsFirstTaken m n
link_takes_first h m n differ legal there epoch number new e =
    first_disk m n (relocate_at h.id InUse m.disk) e
    (first_change h.id (move InUse) (λ f. refl) m differ
    (λ f k a b. (h.header, record { legal = reads_header h.header f legal (headed_is h (file_of h.id m.disk) f there k).2; epoch = epoch; number = number; new = new })))

-- ---- in order

one_header : (a b : FileHeader) (r : Result FileHeader Rule) → r ≡ Ok a → r ≡ Ok b → a ≡ b
one_header a b r h k = same a b (sym h ∙ k)
  where
    same : (a b : FileHeader) → ◌≡◌ {A = Result FileHeader Rule} (Ok a) (Ok b) → a ≡ b
    same a b e = cc

taken_first : (areas : List FreeArea) (h : History) (o : Option FileState) (g : FileState) → PoolFileSteps (now h) o g → TakesFirst (now h) o g → TakesFile areas h o g
taken_first areas h None g step first = step
taken_first areas h (Some f) g step first = λ a b.
    let put = step.taken a b in
    let new = first a b in
    let header : FileHeader = put.0 in
    let same : new.0 ≡ header = one_header new.0 header (header_of (take 4096 g.stable)) new.1.legal put.1.legal in
    let none : (journal_on (now h).disk header.kind header.name).files ≡ [] = ap (λ (x : FileHeader). (journal_on (now h).disk x.kind x.name).files) (sym same) ∙ new.1.new in (
      header,
      record {
        legal = put.1.legal;
        quiet = put.1.quiet;
        least = put.1.least;
        pool = put.1.pool;
        epoch = ap (λ (x : FileHeader). x.epoch) (sym same) ∙ new.1.epoch ∙ ap (next_epoch areas h) (sym none);
        number = ap (λ (x : FileHeader). x.number) (sym same) ∙ new.1.number ∙ ap (λ (fs : List Headed). newest_number fs + 1) (sym none);
      },
    )

taking_now : (areas : List FreeArea) (h : History) (n : Moment) → IsPoolStep (now h) n → IsFirstTaken (now h) n → IsTakingStep areas h n
taking_now areas h n step first =
    all_both (λ g. PoolFileSteps (now h) (file_of g.id (now h).disk) g) (λ g. TakesFirst (now h) (file_of g.id (now h).disk) g) (λ g. TakesFile areas h (file_of g.id (now h).disk) g)
    (λ g. taken_first areas h (file_of g.id (now h).disk) g) n.disk step first

pub taking_step : (areas : List FreeArea) (h : History) (m n : Moment) → now h ≡ m → IsPoolStep m n → IsFirstTaken m n → IsTakingStep areas h n
taking_step areas h m n e step first = taking_now areas h n (subst (λ (x : Moment). IsPoolStep x n) (sym e) step) (subst (λ (x : Moment). IsFirstTaken x n) (sym e) first)

last-next : (m n : Moment) (ms : List Moment) → last_of m (ms ++ n ∷ []) ≡ n
last-next m n [] = refl
last-next m n (x ∷ ms) = last-next x n ms

pub taking_steps : (areas : List FreeArea) (h : History) (m : Moment) (ms : List Moment) → now h ≡ m → ArePoolSteps m ms → AreFirstTaken m ms → TakesInOrder areas h ms
taking_steps areas h m [] e steps first = tt
taking_steps areas h m (n ∷ ms) e steps first =
    (taking_step areas h m n e steps.0 first.0, taking_steps areas (next h n) n ms (last-next h.start n h.since) steps.1 first.1)

pub first_then : (m : Moment) (ms ns : List Moment) → AreFirstTaken m ms → AreFirstTaken (last_of m ms) ns → AreFirstTaken m (ms ++ ns)
first_then m [] ns h k = k
first_then m (n ∷ ms) ns h k = (h.0, first_then n ms ns h.1 k)

-- ---- the whole discipline takes in order

orderly_file : (areas : List FreeArea) (h : History) (o : Option FileState) (g : FileState) → FileSteps areas h o g → TakesFile areas h o g
orderly_file areas h None g s = s
orderly_file areas h (Some f) g s = s.taken

pub orderly_takes : (areas : List FreeArea) (h : History) (ms : List Moment) → IsOrderlyFrom areas h ms → TakesInOrder areas h ms
orderly_takes areas h [] o = tt
orderly_takes areas h (m ∷ ms) o = (
  all_weaken (λ g. FileSteps areas h (file_of g.id (now h).disk) g) (λ g. TakesFile areas h (file_of g.id (now h).disk) g) (λ g. orderly_file areas h (file_of g.id (now h).disk) g) m.disk o.0.files,
  orderly_takes areas (next h m) ms o.1,
)
