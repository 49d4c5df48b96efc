-- Files that come into use: each step takes the next file of a journal, by the homes of the journals, and all of them are in order.
use Rattle.std.proofs.Common.{◌≡◌, inl, inr, ℕ, ◌+◌, ◌<◌, Bool, true, false, cond, not, ◌&&◌, ◌||◌, ◌==◌, List, [], ◌∷◌, ◌++◌, map, take, Option, Some, None, Ok, ◌⊎◌, refl, sym, ap, ap₂, ◌∙◌, subst, arith, append_assoc, append-nil}
use Rattle.std.specs.List.{filter, AllByRecursion}
use Rattle.qls_model.specs.Bytes.{same}
use Rattle.qls_model.proofs.XidKeys.{same_true}
use Rattle.qls_site.specs.declared.site.Place.{Place}
use Rattle.qls_site.specs.declared.site.Place.TheVariants.{InUse, Empty}
use Rattle.qls_site.specs.Disk.{Disk, FileState, file_of, full, full_file, all_written}
use Rattle.qls_site.specs.Content.{Moment}
use Rattle.qls_filehdr.specs.declared.FileHeader.{FileHeader}
use Rattle.qls_filehdr.specs.declared.JournalKind.{JournalKind}
use Rattle.qls_filehdr.specs.declared.JournalKind.TheVariants.{Queue, List as Listed}
use Rattle.qls_filehdr.specs.Limits.{is_name}
use Rattle.qls_filehdr.specs.Header.{header_of, header_fields}
use Rattle.qls_meaning.specs.Journals.{Headed, headed, is_in_use, in_use, is_of, same_kind}
use Rattle.qls_meaning.specs.History.{History, last_of, now, next, uses, is_file_in_use, came_into_use}
use Rattle.qls_meaning.specs.Orderly.{IsNewFile, NamesPool, next_epoch, journal_on}
use Rattle.qls_pool.specs.Files.{IdsDiffer}
use Rattle.qls_pool.specs.Discipline.{PoolFileSteps, IsTakingStep, TakesInOrder, TakesFile}
use Rattle.qls_pool.specs.Moments.{Chain}
use Rattle.qls_pool.specs.Next.{IsEpochDue}
use Rattle.qls_pool.proofs.Disks.{found_id}
use Rattle.qls_pool.proofs.Steps.{all_weaken, all_both, all_found}
use Rattle.qls_log.proofs.Splits.{all_by_number}
use Rattle.qls_journals.specs.Homes.{Home, Homes, home_by, TakesFrom, TakesFromHome}
use Rattle.qls_top.specs.Moments.{IsRunStep}
use Rattle.qls_top.specs.Due.{IsDueBy, IsDue, AreDue}
use Rattle.qls_top.proofs.Headers.{fields_read, named_well}

-- ---- files on a disk

found_one : (P : FileState → Type 0) (f g : FileState) (b : Bool) (rest : Option FileState) → P g → (rest ≡ Some f → P f) → cond b (Some g) rest ≡ Some f → P f
found_one P f g true rest h more e = subst P (some_is e) h
  where
    some_is : Some g ≡ Some f → g ≡ f
    some_is e = cc
found_one P f g false rest h more e = more e

pub found_all : (P : FileState → Type 0) (id : ℕ) (f : FileState) (d : Disk) → AllByRecursion P d → file_of id d ≡ Some f → P f
found_all P id f [] h e = absurd (cc)
found_all P id f (g ∷ d) h e = found_one P f g (g.id == id) (file_of id d) h.0 (found_all P id f d h.1) e

abbrev seen_of : Option FileState → List ℕ
seen_of None = []
seen_of (Some f) = all_written f.pending f.stable

not_new : (m : Moment) (p : Place) (f : FileState) → IsNewFile m p f → is_in_use p ≡ true → ⊥
not_new m InUse f h used = h
not_new m (Empty part kib) f h used = absurd (cc)

-- ---- one more moment

came_on : (id : ℕ) (c : Bool) (m n : Moment) (ms : List Moment) → came_into_use id c m (ms ++ n ∷ []) ≡ (uses id n && (came_into_use id c m ms || not (uses id (last_of m ms))))
came_on id c m n [] = refl
came_on id c m n (x ∷ ms) = came_on id (uses id x && (c || not (uses id m))) x n ms

pub last_next : (m n : Moment) (xs : List Moment) → last_of m (xs ++ n ∷ []) ≡ n
last_next m n [] = refl
last_next m n (x ∷ xs) = last_next x n xs

stays_came : (is c was : Bool) → is ≡ true → was ≡ true → (is && (c || not was)) ≡ c
stays_came is c was e k = ap (λ (b : Bool). b && (c || not was)) e ∙ ap (λ (b : Bool). c || not b) k ∙ or_none c
  where
    or_none : (c : Bool) → (c || false) ≡ c
    or_none true = refl
    or_none false = refl

new_came : (is c was : Bool) → is ≡ true → was ≡ false → (is && (c || not was)) ≡ true
new_came is c was e k = ap (λ (b : Bool). b && (c || not was)) e ∙ ap (λ (b : Bool). c || not b) k ∙ or_true c
  where
    or_true : (c : Bool) → (c || true) ≡ true
    or_true true = refl
    or_true false = refl

-- ---- one step

module _ (homes : Homes) (h : History) (n : Moment) (step : IsRunStep (now h) n) (takes : TakesFromHome homes (now h) n) (due : AreDue h homes) where
  stays : (f g : FileState) → file_of f.id (now h).disk ≡ Some g → file_of f.id n.disk ≡ Some f → is_in_use g.place ≡ true → is_in_use f.place ≡ true → IsDue (next h n) homes f.id (headed (full_file f)).header
  stays f g was is k used =
      let one : take 4096 (all_written f.pending f.stable) ≡ take 4096 (all_written g.pending g.stable) =
      ap (λ (q : Option FileState). take 4096 (seen_of q)) (sym is) ∙ step.headers f.id (ap is_file_in_use was ∙ k) ∙ ap (λ (q : Option FileState). take 4096 (seen_of q)) was in
      let header : (headed (full_file f)).header ≡ (headed (full_file g)).header = ap header_fields one in
      let came : came_into_use f.id false h.start (h.since ++ n ∷ []) ≡ came_into_use g.id false h.start h.since =
      came_on f.id false h.start n h.since ∙ stays_came (uses f.id n) (came_into_use f.id false h.start h.since) (uses f.id (now h)) (ap is_file_in_use is ∙ used) (ap is_file_in_use was ∙ k)
      ∙ ap (λ (id : ℕ). came_into_use id false h.start h.since) (sym (found_id f.id g (now h).disk was)) in
      subst (λ (b : Bool). is_name (headed (full_file f)).header.kind (headed (full_file f)).header.name ≡ true → IsDueBy b (home_by (headed (full_file f)).header.kind (headed (full_file f)).header.name homes) (headed (full_file f)).header.epoch)
      (sym came) (subst (λ (x : FileHeader). is_name x.kind x.name ≡ true → IsDueBy (came_into_use g.id false h.start h.since) (home_by x.kind x.name homes) x.epoch) (sym header) (due f.id g was k))

  comes : (f g : FileState) → file_of f.id (now h).disk ≡ Some g → file_of f.id n.disk ≡ Some f → is_in_use g.place ≡ false → is_in_use f.place ≡ true → PoolFileSteps (now h) (Some g) f → TakesFrom homes (now h).disk (Some g) f
      → IsDue (next h n) homes f.id (headed (full_file f)).header
  comes f g was is k used pool from =
      let one = from k used in
      let quiet : f.pending ≡ [] = (pool.taken k used).1.quiet in
      let header : (headed (full_file f)).header ≡ one.0 = ap (λ ws. header_fields (take 4096 (all_written ws f.stable))) quiet ∙ fields_read (take 4096 f.stable) one.0 one.1.legal in
      let came : came_into_use f.id false h.start (h.since ++ n ∷ []) ≡ true =
      came_on f.id false h.start n h.since ∙ new_came (uses f.id n) (came_into_use f.id false h.start h.since) (uses f.id (now h)) (ap is_file_in_use is ∙ used) (ap is_file_in_use was ∙ k) in
      λ legal. subst (λ (b : Bool). IsDueBy b (home_by (headed (full_file f)).header.kind (headed (full_file f)).header.name homes) (headed (full_file f)).header.epoch) (sym came)
      (subst (λ (x : FileHeader). IsDueBy true (home_by x.kind x.name homes) x.epoch) (sym header) (subst (λ (o : Option Home). IsDueBy true o one.0.epoch) (sym one.1.home) refl))

  by : (f : FileState) (p : Option FileState) → file_of f.id (now h).disk ≡ p → file_of f.id n.disk ≡ Some f → is_in_use f.place ≡ true → PoolFileSteps (now h) p f → TakesFrom homes (now h).disk p f
      → IsDue (next h n) homes f.id (headed (full_file f)).header
  by f None was is used pool from = absurd (not_new (now h) f.place f pool used)
  by f (Some g) was is used pool from = by_place (is_in_use g.place) refl
    where
      by_place : (b : Bool) → is_in_use g.place ≡ b → IsDue (next h n) homes f.id (headed (full_file f)).header
      by_place true k = stays f g was is k used
      by_place false k = comes f g was is k used pool from

  pub due_next : AreDue (next h n) homes
  due_next = λ id f there used.
      let at : file_of id n.disk ≡ Some f = ap (λ (m : Moment). file_of id m.disk) (sym (last_next h.start n h.since)) ∙ there in
      let own : f.id ≡ id = found_id id f n.disk at in
      by f (file_of f.id (now h).disk) refl (ap (λ (k : ℕ). file_of k n.disk) own ∙ at) used
      (found_all (λ g. PoolFileSteps (now h) (file_of g.id (now h).disk) g) id f n.disk step.pool at) (found_all (λ g. TakesFrom homes (now h).disk (file_of g.id (now h).disk) g) id f n.disk takes at)

-- ---- the epoch that is next in a journal

-- each of these files is of a journal with this home
record IsOfHome (h : History) (epoch : ℕ) (f : Headed) : Type 0 where
  pub came : came_into_use f.id false h.start h.since ≡ true → f.header.epoch ≡ epoch
  pub found : came_into_use f.id false h.start h.since ≡ false → f.header.epoch < epoch

next_due : (h : History) (epoch : ℕ) (fs : List Headed) → AllByRecursion (IsOfHome h epoch) fs → IsEpochDue epoch fs → epoch ≡ next_epoch [] h fs
next_due h epoch [] all due = due
next_due h epoch (f ∷ []) all due = by (came_into_use f.id false h.start h.since) refl due
  where
    by : (b : Bool) → came_into_use f.id false h.start h.since ≡ b → (f.header.epoch ≡ epoch) ⊎ (f.header.epoch + 1 ≡ epoch) → epoch ≡ cond b f.header.epoch (f.header.epoch + 1)
    by true k due = sym (all.0.came k)
    by false k (inl e) = absurd (omega (arith, all.0.found k, e))
    by false k (inr e) = sym e
next_due h epoch (f ∷ g ∷ fs) all due = next_due h epoch (g ∷ fs) all.1 due

-- ---- the files of a journal

both : (a b : Bool) → (a && b) ≡ true → (a ≡ true) × (b ≡ true)
both true b h = (refl, h)
both false b h = absurd (cc)

kind_true : (k j : JournalKind) → same_kind k j ≡ true → k ≡ j
kind_true Queue Queue e = refl
kind_true Queue Listed e = absurd (cc)
kind_true Listed Queue e = absurd (cc)
kind_true Listed Listed e = refl

all_filtered : (P : Headed → Type 0) (test : Headed → Bool) (fs : List Headed) → AllByRecursion (λ f. test f ≡ true → P f) fs → AllByRecursion P (filter test fs)
all_filtered P test [] h = tt
all_filtered P test (f ∷ fs) h =
    elim (test f) as (λ b. test f ≡ b → AllByRecursion P (cond b (f ∷ filter test fs) (filter test fs))) [
      | true ↦ λ e. (h.0 e, all_filtered P test fs h.1)
      | false ↦ λ e. all_filtered P test fs h.1
    ] refl

all_heads : (P Q : Headed → Type 0) → ((f : Headed) → P f → Q f) → (fs : List Headed) → AllByRecursion P fs → AllByRecursion Q fs
all_heads P Q g [] h = tt
all_heads P Q g (f ∷ fs) h = (g f h.0, all_heads P Q g fs h.1)

all_used : (P : Headed → Type 0) (d : Disk) → AllByRecursion (λ g. is_in_use g.place ≡ true → P (headed (full_file g))) d → AllByRecursion P (map headed (in_use (full d)))
all_used P [] h = tt
all_used P (g ∷ d) h =
    elim (is_in_use g.place) as (λ b. is_in_use g.place ≡ b → AllByRecursion P (map headed (cond b (full_file g ∷ in_use (full d)) (in_use (full d))))) [
      | true ↦ λ e. (h.0 e, all_used P d h.1)
      | false ↦ λ e. all_used P d h.1
    ] refl

-- the two headers of a file are one
one_header : (bytes : List ℕ) (x y : FileHeader) → header_of bytes ≡ Ok x → header_of bytes ≡ Ok y → x ≡ y
one_header bytes x y a b = sym (fields_read bytes x a) ∙ fields_read bytes y b

module _ (homes : Homes) (h : History) (differ : IdsDiffer (now h).disk) (due : AreDue h homes) where
  abbrev Due : Headed → Type 0
  Due f = IsDue h homes f.id f.header

  module _ (kind : JournalKind) (name : List ℕ) (legal : is_name kind name ≡ true) (home : Home) (at : home_by kind name homes ≡ Some home) where
    one_of_home : (f : Headed) → Due f → is_of kind name f ≡ true → IsOfHome h home.epoch f
    one_of_home f d own =
        let parts = both (same_kind kind f.header.kind) (same name f.header.name) own in
        let kinds : kind ≡ f.header.kind = kind_true kind f.header.kind parts.0 in
        let names : name ≡ f.header.name = same_true name f.header.name parts.1 in
        let is : home_by f.header.kind f.header.name homes ≡ Some home = ap₂ (λ k n. home_by k n homes) (sym kinds) (sym names) ∙ at in
        let by : IsDueBy (came_into_use f.id false h.start h.since) (Some home) f.header.epoch =
        subst (λ (o : Option Home). IsDueBy (came_into_use f.id false h.start h.since) o f.header.epoch) is (d (ap₂ is_name (sym kinds) (sym names) ∙ legal)) in
        record {
          came = λ e. subst (λ (b : Bool). IsDueBy b (Some home) f.header.epoch) e by;
          found = λ e. subst (λ (b : Bool). IsDueBy b (Some home) f.header.epoch) e by;
        }

    files_of_home : AllByRecursion (IsOfHome h home.epoch) (journal_on (now h).disk kind name).files
    files_of_home =
        all_by_number (IsOfHome h home.epoch) (filter (is_of kind name) (map headed (in_use (full (now h).disk))))
        (all_filtered (IsOfHome h home.epoch) (is_of kind name) (map headed (in_use (full (now h).disk)))
        (all_heads Due (λ f. is_of kind name f ≡ true → IsOfHome h home.epoch f) (λ f d own. one_of_home f d own) (map headed (in_use (full (now h).disk)))
        (all_used Due (now h).disk
        (all_weaken (λ g. file_of g.id (now h).disk ≡ Some g) (λ g. is_in_use g.place ≡ true → Due (headed (full_file g))) (λ g there used. due g.id g there used) (now h).disk (all_found (now h).disk differ)))))

  takes_one : (p : Option FileState) (g : FileState) → PoolFileSteps (now h) p g → TakesFrom homes (now h).disk p g → TakesFile [] h p g
  takes_one None g pool from = pool
  takes_one (Some f) g pool from = λ was used.
      let put = pool.taken was used in
      let is = from was used in
      let header : FileHeader = is.0 in
      let one : put.0 ≡ header = one_header (take 4096 g.stable) put.0 header put.1.legal is.1.legal in (
        header,
        record {
          legal = is.1.legal;
          quiet = put.1.quiet;
          least = put.1.least;
          pool = subst (λ (x : FileHeader). NamesPool x f.place) one put.1.pool;
          epoch = next_due h header.epoch (journal_on (now h).disk header.kind header.name).files
              (files_of_home header.kind header.name (named_well (take 4096 g.stable) header is.1.legal) (record { pool = record { part = header.part; kib = header.kib }; epoch = header.epoch }) is.1.home) is.1.due;
          number = is.1.number;
        },
      )

  taking_step : (n : Moment) → IsRunStep (now h) n → TakesFromHome homes (now h) n → IsTakingStep [] h n
  taking_step n step takes =
      all_both (λ g. PoolFileSteps (now h) (file_of g.id (now h).disk) g) (λ g. TakesFrom homes (now h).disk (file_of g.id (now h).disk) g) (λ g. TakesFile [] h (file_of g.id (now h).disk) g)
      (λ g pool from. takes_one (file_of g.id (now h).disk) g pool from) n.disk step.pool takes

-- ---- steps in a row, with the same homes

pub chain_due : (homes : Homes) (start : Moment) (since ms : List Moment) → IdsDiffer (last_of start since).disk → AreDue (record { start = start; since = since }) homes
    → Chain IsRunStep (last_of start since) ms → Chain (TakesFromHome homes) (last_of start since) ms
    → TakesInOrder [] (record { start = start; since = since }) ms × AreDue (record { start = start; since = since ++ ms }) homes
chain_due homes start since [] differ due chain takes = (tt, subst (λ (xs : List Moment). AreDue (record { start = start; since = xs }) homes) (sym (append-nil since)) due)
chain_due homes start since (n ∷ ns) differ due chain takes =
    let h : History = record { start = start; since = since } in
    let at : last_of start (since ++ n ∷ []) ≡ n = last_next start n since in
    let rest = chain_due homes start (since ++ n ∷ []) ns (subst (λ (m : Moment). IdsDiffer m.disk) (sym at) (chain.0.differ differ)) (due_next homes h n chain.0 takes.0 due)
    (subst (λ (m : Moment). Chain IsRunStep m ns) (sym at) chain.1) (subst (λ (m : Moment). Chain (TakesFromHome homes) m ns) (sym at) takes.1) in (
      (taking_step homes h differ due n chain.0 takes.0, rest.0),
      subst (λ (xs : List Moment). AreDue (record { start = start; since = xs }) homes) (append_assoc since (n ∷ []) ns) rest.1,
    )
