-- Writes and syncs of the journal's own files, one after another.
use Rattle.std.proofs.Common.{◌≡◌, ℕ, zero, suc, ◌+◌, ◌<◌, ◌≤◌, Bool, true, false, ◌||◌, ◌==◌, get_or, List, [], ◌∷◌, ◌++◌, map, length, take, Option, Some, None, IfSome, IsTrue, IsErr, Result, Ok, Err, refl, sym, ap, ◌∙◌, subst, arith}
use Rattle.std.specs.List.{AllByRecursion}
use Rattle.qls_model.specs.Bytes.{same}
use Rattle.qls_site.specs.declared.site.SiteError.{SiteError}
use Rattle.qls_site.specs.declared.site.SiteError.TheVariants.{Failed, Memory}
use Rattle.qls_site.specs.Disk.{Disk, FileState, Write, file_of, full_file, size_of, changed, change_file, all_written, bytes_at, write_at, sync_at}
use Rattle.qls_site.specs.Content.{Moment, Content, Tells, Acts, Leads, Stays, InFile, HasRange, on_disk}
use Rattle.qls_site.proofs.DiskLaws.{front-all_written}
use Rattle.qls_site.proofs.Told.{KeepsId, file_of-change_file, Tells-weaken}
use Rattle.qls_filehdr.specs.declared.FileHeader.{FileHeader}
use Rattle.qls_filehdr.specs.Limits.{is_legal_header}
use Rattle.qls_filehdr.specs.Header.{header_fields, header_spelling}
use Rattle.qls_meaning.specs.Journals.{Headed, headed, is_in_use, is_of, same_kind}
use Rattle.qls_meaning.specs.History.{newly_used, is_file_in_use}
use Rattle.qls_blocks.specs.Parts.{Syncs, with_sync, with_syncs}
use Rattle.qls_pool.specs.Files.{HeadedFile, IsLinked, LinkedThere, OnDisk, is_among}
use Rattle.qls_pool.specs.Moments.{Arrives, EndsIn}
use Rattle.qls_pool.specs.Serials.{serials_taken, taken_since, TakesNone}
use Rattle.qls_pool.proofs.Calls.{one_more_write}
use Rattle.qls_pool.proofs.Came.{none_came, none_same, none_change}
use Rattle.qls_pool.proofs.Disks.{at_change, eqb_is}
use Rattle.qls_pool.proofs.FirstTaken.{write_is_step, sync_is_step}
use Rattle.qls_pool.proofs.Moments.{Arrives-then, Arrives-same, Arrives-acts, Passes-of, since_of}
use Rattle.qls_pool.proofs.Serials.{taken_then, tells_none}
use Rattle.qls_pool.proofs.Steps.{differ_change}
use Rattle.qls_log.specs.declared.opening.Opening.{Opening}
use Rattle.qls_log.specs.declared.fault.LogError.{LogError}
use Rattle.qls_log.specs.Faults.{fault_of_site}
use Rattle.qls_log.proofs.Going.{goes_nowhere}
use Rattle.qls_log.specs.Logs.{LogState, IsSound, IsOfJournal, ids}
use Rattle.qls_log.specs.Standing.{HasFiles, LogThere}
use Rattle.qls_log.specs.Steps.{IsLogStep, IsOwnFile, AreOwn, KeepsOwn, PassesOwn, EndsOwn, GoesOwn, GoesBy}
use Rattle.qls_log.proofs.OwnSteps.{own_same, own_step, used_changes}
use Rattle.qls_log.proofs.Quiets.{AreAmong}
use Rattle.qls_log.proofs.Splits.{is_of-own}
use Rattle.qls_log.proofs.Takes.{header_seen}

abbrev writing : ℕ → List ℕ → FileState → FileState
writing at bytes f = record f { pending = f.pending ++ (record { at = at; bytes = bytes }) ∷ [] }

abbrev syncing : FileState → FileState
syncing f = record f { stable = all_written f.pending f.stable; pending = [] }

abbrev seen : FileState → List ℕ
seen f = all_written f.pending f.stable

-- ---- an own file

own_found : (o : Opening) (p : Option FileState) → IsOwnFile o p → (f : FileState) × (p ≡ Some f) × (is_in_use f.place ≡ true) × (is_of o.kind o.name (headed (full_file f)) ≡ true)
own_found o None h = absurd h
own_found o (Some f) h = (f, refl, h.0, h.1)

fields_same : (o : Opening) (f g : FileState) → take 4096 (seen g) ≡ take 4096 (seen f) → is_of o.kind o.name (headed (full_file f)) ≡ true → is_of o.kind o.name (headed (full_file g)) ≡ true
fields_same o f g e h = ap (λ (bytes : List ℕ). is_named (header_fields bytes)) e ∙ h
  where
    is_named : FileHeader → Bool
    is_named header = Rattle.std.specs.Prelude.◌&&◌ (same_kind o.kind header.kind) (same o.name header.name)

-- a change of one file that keeps its place and its header keeps which files are the journal's
own_kept : (o : Opening) (own id : ℕ) (c : FileState → FileState) → KeepsId c → ((f : FileState) → (c f).place ≡ f.place) → (d : Disk) → ((f : FileState) → file_of own d ≡ Some f → take 4096 (seen (c f)) ≡ take 4096 (seen f))
    → IsOwnFile o (file_of id d) → IsOwnFile o (file_of id (change_file own c d))
own_kept o own id c keeps place d header h =
    subst (IsOwnFile o) (sym (file_of-change_file id own c keeps d))
    (at_change own id c d (λ p q. IsOwnFile o p → IsOwnFile o q) (λ e k. k) (λ f e there k. (ap is_in_use (place f) ∙ k.0, fields_same o f (c f) (header f there) k.1)) (λ f e k. k) h)

all_kept : (o : Opening) (own : ℕ) (ids : List ℕ) (c : FileState → FileState) → KeepsId c → ((f : FileState) → (c f).place ≡ f.place) → (d : Disk) → ((f : FileState) → file_of own d ≡ Some f → take 4096 (seen (c f)) ≡ take 4096 (seen f))
    → AllByRecursion (λ id. IsOwnFile o (file_of id d)) ids → AllByRecursion (λ id. IsOwnFile o (file_of id (change_file own c d))) ids
all_kept o own [] c keeps place d header h = tt
all_kept o own (id ∷ ids) c keeps place d header h = (own_kept o own id c keeps place d header h.0, all_kept o own ids c keeps place d header h.1)

-- ---- one call

-- nothing happened
pub keeps_same : (o : Opening) (ids : List ℕ) (x y : Content) → AreOwn o ids x.now.disk → y ≡ x → KeepsOwn o ids x y
keeps_same o ids x y own e = record {
  arrives = Arrives-same (IsLogStep o) x y e;
  none = ap (serials_taken x.now) (since_of (IsLogStep o) x y (Arrives-same (IsLogStep o) x y e));
  own = subst (λ (c : Content). AreOwn o ids c.now.disk) (sym e) own;
}

keeps_act : (o : Opening) (ids : List ℕ) (act : Moment → Moment) (x y : Content) → IsLogStep o x.now (act x.now) → newly_used x.now (act x.now) ≡ [] → AreOwn o ids (act x.now).disk → Acts act x y → KeepsOwn o ids x y
keeps_act o ids act x y step none own acts =
    let arrives : Arrives (IsLogStep o) x y = Arrives-acts (IsLogStep o) act x y step acts in
    record {
      arrives = arrives;
      none = ap (serials_taken x.now) (since_of (IsLogStep o) x y arrives) ∙ ap (λ (fs : List Headed). map (λ f. f.header.serial) fs ++ []) none;
      own = subst (λ (c : Content). AreOwn o ids c.now.disk) (sym acts) own;
    }

pub keeps_then : (o : Opening) (ids : List ℕ) (x y z : Content) → KeepsOwn o ids x y → KeepsOwn o ids y z → KeepsOwn o ids x z
keeps_then o ids x y z h k = record {
  arrives = Arrives-then (IsLogStep o) x y z h.arrives k.arrives;
  none = taken_then (IsLogStep o) (IsLogStep o) x y z h.arrives (Passes-of (IsLogStep o) y z k.arrives) ∙ ap (λ (s : List ℕ). s ++ taken_since y z) h.none ∙ k.none;
  own = k.own;
}

pub passes_of : (o : Opening) (ids : List ℕ) (x y : Content) → KeepsOwn o ids x y → PassesOwn o x y
passes_of o ids x y h = record { passes = Passes-of (IsLogStep o) x y h.arrives; none = h.none }

-- a file of the journal is changed past its header
module _ (o : Opening) (ids : List ℕ) (id : ℕ) (c : FileState → FileState) (keeps : KeepsId c) (place : (f : FileState) → (c f).place ≡ f.place) (m : Moment) (all : AreOwn o ids m.disk)
    (own : IsOwnFile o (file_of id m.disk)) (header : (f : FileState) → file_of id m.disk ≡ Some f → take 4096 (seen (c f)) ≡ take 4096 (seen f)) where
  abbrev after : Moment
  after = on_disk (change_file id c) m

  changed_step : Rattle.qls_pool.specs.Discipline.IsPoolStep m after → IsLogStep o m after
  changed_step pool =
      let found = own_found o (file_of id m.disk) own in
      own_step o id c keeps m all.differ found.0 found.1 (used_changes o m found.0 (c found.0) found.2 found.3 (header found.0 found.1)) pool

  changed_none : newly_used m after ≡ []
  changed_none = none_came m after (none_change id c keeps place m all.differ)

  changed_own : AreOwn o ids after.disk
  changed_own = record { differ = differ_change id c keeps m.disk all.differ; own = all_kept o id ids c keeps place m.disk header all.own }

front_stays : (at : ℕ) (bytes : List ℕ) (f : FileState) → 4096 ≤ at → at + length bytes ≤ size_of f → take 4096 (seen (writing at bytes f)) ≡ take 4096 (seen f)
front_stays at bytes f low fits =
    let w : Write = record { at = at; bytes = bytes } in
    ap (take 4096) (one_more_write f.pending w f.stable) ∙ front-all_written 4096 (w ∷ []) (seen f) (low, tt) (fits, tt)

in_range : (at n : ℕ) (p : Option FileState) (f : FileState) → InFile at n p → p ≡ Some f → at + n ≤ size_of f
in_range at n p f h e = subst (InFile at n) e h

used_own : (o : Opening) (p : Option FileState) → IsOwnFile o p → is_file_in_use p ≡ true
used_own o None h = absurd h
used_own o (Some f) h = h.0

pub keeps_write : (o : Opening) (ids : List ℕ) (id at : ℕ) (bytes : List ℕ) (x y : Content) → AreOwn o ids x.now.disk → IsOwnFile o (file_of id x.now.disk) → 4096 ≤ at → HasRange id at (length bytes) x
    → Acts (on_disk (write_at id at bytes)) x y → KeepsOwn o ids x y
keeps_write o ids id at bytes x y all own low range acts =
    let header : (f : FileState) → file_of id x.now.disk ≡ Some f → take 4096 (seen (writing at bytes f)) ≡ take 4096 (seen f) =
    λ f e. front_stays at bytes f low (in_range at (length bytes) (file_of id x.now.disk) f range e) in
    let n : Moment = on_disk (write_at id at bytes) x.now in
    keeps_act o ids (on_disk (write_at id at bytes)) x y
    (changed_step o ids id (writing at bytes) (λ f. refl) (λ f. refl) x.now all own header (write_is_step id at bytes x.now n all.differ (used_own o (file_of id x.now.disk) own) refl))
    (changed_none o ids id (writing at bytes) (λ f. refl) (λ f. refl) x.now all own header)
    (changed_own o ids id (writing at bytes) (λ f. refl) (λ f. refl) x.now all own header) acts

pub keeps_sync : (o : Opening) (ids : List ℕ) (id : ℕ) (x y : Content) → AreOwn o ids x.now.disk → IsOwnFile o (file_of id x.now.disk) → Acts (on_disk (sync_at id)) x y → KeepsOwn o ids x y
keeps_sync o ids id x y all own acts =
    let n : Moment = on_disk (sync_at id) x.now in
    keeps_act o ids (on_disk (sync_at id)) x y
    (changed_step o ids id syncing (λ f. refl) (λ f. refl) x.now all own (λ f e. refl) (sync_is_step id x.now n all.differ refl))
    (changed_none o ids id syncing (λ f. refl) (λ f. refl) x.now all own (λ f e. refl))
    (changed_own o ids id syncing (λ f. refl) (λ f. refl) x.now all own (λ f e. refl)) acts

-- the call failed, and nothing changed
pub keeps_stay : (o : Opening) (ids : List ℕ) (x y : Content) → AreOwn o ids x.now.disk → Stays x y → KeepsOwn o ids x y
keeps_stay o ids x y all acts = keeps_act o ids (λ m. m) x y (own_same o x.now all.differ) (none_came x.now x.now (none_same x.now x.now all.differ refl)) all acts

-- ---- writes in a row

own_get : (o : Opening) (k : ℕ) (ids : List ℕ) (d : Disk) → k < length ids → AllByRecursion (λ id. IsOwnFile o (file_of id d)) ids → IsOwnFile o (file_of (get_or ids k 0) d)
own_get o k [] d l h = absurd (omega arith)
own_get o zero (id ∷ ids) d l h = h.0
own_get o (suc k) (id ∷ ids) d l h = own_get o k ids d (omega arith) h.1

-- what is kept of the files, where they were the journal's
abbrev pub KeptSo : List ℕ → Option Content → Option Content → Type 0
KeptSo ids a b = (o : Opening) → IfSome a (OnDisk (AreOwn o ids)) → Tells (KeepsOwn o ids) a b

pub kept_none : (ids : List ℕ) (a : Option Content) → KeptSo ids a a
kept_none ids None o h = tt
kept_none ids (Some x) o h = keeps_same o ids x x h refl

pub kept_next : (k at : ℕ) (ids part : List ℕ) (a b n : Option Content) → k < length ids → KeptSo ids a b → IfSome b (HasRange (get_or ids k 0) (4096 + at) (length part))
    → Tells (Acts (on_disk (write_at (get_or ids k 0) (4096 + at) part))) b n → KeptSo ids a n
kept_next k at ids part None None None l h r t o p = tt
kept_next k at ids part None None (Some z) l h r t o p = absurd t
kept_next k at ids part None (Some y) n l h r t o p = absurd (h o p)
kept_next k at ids part (Some x) None n l h r t o p = absurd (h o p)
kept_next k at ids part (Some x) (Some y) None l h r t o p = absurd t
kept_next k at ids part (Some x) (Some y) (Some z) l h r t o p =
    let first : KeepsOwn o ids x y = h o p in
    keeps_then o ids x y z first (keeps_write o ids (get_or ids k 0) (4096 + at) part y z first.own (own_get o k ids y.now.disk l first.own.own) (omega arith) r t)

write_failed : (o : Opening) (k at : ℕ) (ids part : List ℕ) (e : SiteError) (x y z : Content) → k < length ids → KeepsOwn o ids x y → HasRange (get_or ids k 0) (4096 + at) (length part) y
    → Leads {X = Unit {0}} (Acts (on_disk (write_at (get_or ids k 0) (4096 + at) part))) (Acts (on_disk (write_at (get_or ids k 0) (4096 + at) part))) (Err e) y z → PassesOwn o x z
write_failed o k at ids part Failed x y z l h r t =
    passes_of o ids x z (keeps_then o ids x y z h (keeps_write o ids (get_or ids k 0) (4096 + at) part y z h.own (own_get o k ids y.now.disk l h.own.own) (omega arith) r t))
write_failed o k at ids part Memory x y z l h r t = passes_of o ids x z (keeps_then o ids x y z h (keeps_same o ids y z h.own t))

by_err : {X E : Type 0} (o : Opening) (ids : List ℕ) (r : Result X E) (x y : Content) → IsErr r → PassesOwn o x y → EndsIn (λ v. KeepsOwn o ids) (PassesOwn o) r x y
by_err {X} {E} o ids (Ok v) x y e h = absurd (not_ok v e)
  where
    not_ok : (v : X) → IsErr {T = X} {E = E} (Ok v) → ⊥
    not_ok v e = cc
by_err o ids (Err f) x y e h = h

pub failed_own : {F : Type 0} (k at : ℕ) (ids part : List ℕ) (e : SiteError) (r : Result (Unit {0}) F) (a b n : Option Content) → k < length ids → IsErr r → KeptSo ids a b → IfSome b (HasRange (get_or ids k 0) (4096 + at) (length part))
    → Tells (Leads {X = Unit {0}} (Acts (on_disk (write_at (get_or ids k 0) (4096 + at) part))) (Acts (on_disk (write_at (get_or ids k 0) (4096 + at) part))) (Err e)) b n → EndsOwn ids r a n
failed_own k at ids part e r None None None l is h g t o p = tt
failed_own k at ids part e r None None (Some z) l is h g t o p = absurd t
failed_own k at ids part e r None (Some y) n l is h g t o p = absurd (h o p)
failed_own k at ids part e r (Some x) None n l is h g t o p = absurd (h o p)
failed_own k at ids part e r (Some x) (Some y) None l is h g t o p = absurd t
failed_own k at ids part e r (Some x) (Some y) (Some z) l is h g t o p = by_err o ids r x z is (write_failed o k at ids part e x y z l (h o p) g t)

-- ---- syncs in a row

among_step : (o : Opening) (id n : ℕ) (d : Disk) (rest b : Bool) → (n == id) ≡ b → IsOwnFile o (file_of n d) → (rest ≡ true → IsOwnFile o (file_of id d)) → (b || rest) ≡ true → IsOwnFile o (file_of id d)
among_step o id n d rest true k own later e = subst (λ i. IsOwnFile o (file_of i d)) (eqb_is n id k) own
among_step o id n d rest false k own later e = later e

among_own : (o : Opening) (id : ℕ) (all : List ℕ) (d : Disk) → AllByRecursion (λ i. IsOwnFile o (file_of i d)) all → is_among id all ≡ true → IsOwnFile o (file_of id d)
among_own o id [] d h e = absurd (cc)
among_own o id (n ∷ all) d h e = among_step o id n d (is_among id all) (n == id) refl h.0 (among_own o id all d h.1) e

syncs_kept : (o : Opening) (all ids : List ℕ) (x : Content) → AreAmong all ids → AreOwn o all x.now.disk → KeepsOwn o all x (with_syncs ids x)
syncs_kept o all [] x among own = keeps_same o all x x own refl
syncs_kept o all (id ∷ ids) x among own =
    let first : KeepsOwn o all x (with_sync id x) = keeps_sync o all id x (with_sync id x) own (among_own o id all x.now.disk own.own among.0) refl in
    keeps_then o all x (with_sync id x) (with_syncs ids (with_sync id x)) first (syncs_kept o all ids (with_sync id x) among.1 first.own)

among_take : (all : List ℕ) (k : ℕ) (ids : List ℕ) → AreAmong all ids → AreAmong all (take k ids)
among_take all zero ids h = nothing (take 0 ids) refl
  where
    nothing : (xs : List ℕ) → xs ≡ [] → AreAmong all xs
    nothing [] e = tt
    nothing (x ∷ xs) e = absurd (cc)
among_take all (suc k) [] h = tt
among_take all (suc k) (id ∷ ids) h = (h.0, among_take all k ids h.1)

sync_failed : (o : Opening) (all : List ℕ) (e : SiteError) (x y z : Content) → KeepsOwn o all x y → Leads {X = Unit {0}} Stays Stays (Err e) y z → PassesOwn o x z
sync_failed o all Failed x y z h t = passes_of o all x z (keeps_then o all x y z h (keeps_stay o all y z h.own t))
sync_failed o all Memory x y z h t = passes_of o all x z (keeps_then o all x y z h (keeps_same o all y z h.own t))

pub told_syncs : (o : Opening) (ids : List ℕ) (r : Result (Unit {0}) SiteError) (a b : Option Content) → IfSome a (OnDisk (AreOwn o ids)) → Tells (Syncs ids r) a b → Tells (EndsIn (λ x. KeepsOwn o ids) (PassesOwn o) r) a b
told_syncs o ids r None None own t = tt
told_syncs o ids r None (Some y) own t = absurd t
told_syncs o ids r (Some x) None own t = absurd t
told_syncs o ids (Ok v) (Some x) (Some y) own t =
    subst (λ (c : Content). KeepsOwn o ids x c) (sym t) (syncs_kept o ids ids x (Rattle.qls_log.proofs.Quiets.among_self ids) own)
told_syncs o ids (Err e) (Some x) (Some y) own t =
    sync_failed o ids e x (with_syncs (take t.0 ids) x) y (syncs_kept o ids (take t.0 ids) x (among_take ids t.0 ids (Rattle.qls_log.proofs.Quiets.among_self ids)) own) t.2

-- ---- the log's files

seen_of : (id : ℕ) (d : Disk) (p : Option FileState) → file_of id d ≡ p → (f : FileState) → p ≡ Some f → bytes_at id d ≡ seen f
seen_of id d p e f k = ap Rattle.qls_site.specs.Disk.seen_bytes (e ∙ k)

pub own_one : (o : Opening) (h : HeadedFile) (d : Disk) (p : Option FileState) → file_of h.id d ≡ p → IsLinked h p → take 4096 (bytes_at h.id d) ≡ header_spelling h.header → IsOfJournal o h → IsTrue (is_legal_header h.header)
    → IsOwnFile o p
own_one o h d None e l k is legal = absurd l
own_one o h d (Some f) e l k is legal =
    let header : header_fields (take 4096 (seen f)) ≡ h.header = header_seen h.header (seen f) legal (ap (take 4096) (sym (seen_of h.id d (Some f) e f refl)) ∙ k) in
    (ap is_in_use l.0, is_of-own o.kind o.name (headed (full_file f)) (ap (λ (x : FileHeader). x.kind) (header ∙ is)) (ap (λ (x : FileHeader). x.name) (header ∙ is)))

own_all : (o : Opening) (hs : List HeadedFile) (d : Disk) → AllByRecursion (λ h. LinkedThere h d) hs → AllByRecursion (λ h. take 4096 (bytes_at h.id d) ≡ header_spelling h.header) hs → AllByRecursion (IsOfJournal o) hs
    → AllByRecursion (λ h. IsTrue (is_legal_header h.header)) hs → AllByRecursion (λ id. IsOwnFile o (file_of id d)) (ids hs)
own_all o [] d l k is legal = tt
own_all o (h ∷ hs) d l k is legal = (own_one o h d (file_of h.id d) refl l.0 k.0 is.0 legal.0, own_all o hs d l.1 k.1 is.1 legal.1)

pub own_files : (o : Opening) (hs : List HeadedFile) (d : Disk) → HasFiles o hs d → AllByRecursion (IsOfJournal o) hs → AllByRecursion (λ h. IsTrue (is_legal_header h.header)) hs → AreOwn o (ids hs) d
own_files o hs d h is legal = record { differ = h.differ; own = own_all o hs d h.linked h.headers is legal }

some_own : (o : Opening) (all ids : List ℕ) (d : Disk) → AreAmong all ids → AllByRecursion (λ id. IsOwnFile o (file_of id d)) all → AllByRecursion (λ id. IsOwnFile o (file_of id d)) ids
some_own o all [] d among h = tt
some_own o all (id ∷ ids) d among h = (among_own o id all d h among.0, some_own o all ids d among.1 h)

pub own_among : (o : Opening) (all ids : List ℕ) (d : Disk) → AreAmong all ids → AreOwn o all d → AreOwn o ids d
own_among o all ids d among h = record { differ = h.differ; own = some_own o all ids d among h.own }

log_own : (l : LogState) (d : Disk) → IsSound l → LogThere l d → AreOwn l.opening l.unsynced d
log_own l d sound there = own_among l.opening (ids l.files) l.unsynced d sound.unsynced (own_files l.opening l.files d there.there sound.all sound.legal)

pub told_log_own : (l : LogState) (a : Option Content) → IsSound l → IfSome a (OnDisk (LogThere l)) → IfSome a (OnDisk (AreOwn l.opening l.unsynced))
told_log_own l None sound there = tt
told_log_own l (Some c) sound there = log_own l c.now.disk sound there

-- ---- by the answer of a log's call

pub ended_own : (X : Type 0) (o : Opening) (ids : List ℕ) (x : Unit {0}) (v : X) (a b : Option Content) → Tells (EndsIn {X = Unit {0}} {E = SiteError} (λ u. KeepsOwn o ids) (PassesOwn o) (Ok x)) a b → Tells (GoesOwn {X = X} o (Ok v)) a b
ended_own X o ids x v a b h = Tells-weaken (KeepsOwn o ids) (GoesOwn {X = X} o (Ok v)) a b h (λ p q k. (k.arrives, k.none))

site_own : (X : Type 0) (o : Opening) (e : SiteError) (a b : Option Content) → Tells (PassesOwn o) a b → Tells (GoesOwn {X = X} o (Err (fault_of_site e))) a b
site_own X o Failed a b h = Tells-weaken (PassesOwn o) (GoesOwn {X = X} o (Err (fault_of_site Failed))) a b h (λ p q k. (k.passes, k.none))
site_own X o Memory a b h = Tells-weaken (PassesOwn o) (GoesOwn {X = X} o (Err (fault_of_site Memory))) a b h (λ p q k. (k.passes, k.none))

pub stopped_own : {X : Type 0} (o : Opening) (ids : List ℕ) (e : SiteError) (r : Result X LogError) (a b : Option Content) → Err (fault_of_site e) ≡ r
    → Tells (EndsIn {X = Unit {0}} (λ u. KeepsOwn o ids) (PassesOwn o) (Err e)) a b → Tells (GoesOwn {X = X} o r) a b
stopped_own {X} o ids e r a b is h = subst (λ (q : Result X LogError). Tells (GoesOwn {X = X} o q) a b) is (site_own X o e a b h)

pub goes_of : {X : Type 0} (o : Opening) (r : Result X LogError) (a b : Option Content) → Tells (GoesOwn {X = X} o r) a b → Tells (GoesBy (IsLogStep o) r) a b
goes_of {X} o r a b h = Tells-weaken (GoesOwn {X = X} o r) (GoesBy (IsLogStep o) r) a b h (λ p q k. k.0)

pub none_of : {X : Type 0} (o : Opening) (r : Result X LogError) (a b : Option Content) → Tells (GoesOwn {X = X} o r) a b → Tells TakesNone a b
none_of {X} o r a b h = Tells-weaken (GoesOwn {X = X} o r) TakesNone a b h (λ p q k. k.1)

-- no call was made
pub own_nowhere : {X : Type 0} (o : Opening) (r : Result X LogError) (a : Option Content) → Tells (GoesOwn {X = X} o r) a a
own_nowhere o r None = tt
own_nowhere o r (Some x) = (goes_nowhere (IsLogStep o) r (Some x), tells_none (IsLogStep o) (Some x))
