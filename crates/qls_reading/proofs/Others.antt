-- What the log of another journal does leaves a journal that was read as it stands.
use Rattle.std.proofs.Common.{◌≡◌, ℕ, Bool, true, false, cond, not, ◌&&◌, ◌||◌, List, [], ◌∷◌, map, length, take, Option, refl, sym, ap, ◌∙◌, subst, eqb, ltb}
use Rattle.std.proofs.lemmas.Bool.{and_parts}
use Rattle.std.specs.List.{AllByRecursion, filter}
use Rattle.qls_model.specs.Bytes.{same}
use Rattle.qls_model.proofs.XidKeys.{same_true}
use Rattle.qls_record.specs.declared.Got.{Got}
use Rattle.qls_record.specs.Record.{is_filler}
use Rattle.qls_site.specs.Disk.{Disk, FileState, file_of, full, bytes_at, seen_bytes}
use Rattle.qls_site.specs.Content.{Moment, Content}
use Rattle.qls_filehdr.specs.declared.JournalKind.{JournalKind}
use Rattle.qls_filehdr.specs.declared.JournalKind.TheVariants.{Queue, List as Listed}
use Rattle.qls_filehdr.specs.Header.{header_spelling}
use Rattle.qls_meaning.specs.Journals.{Headed, Journal, headed, in_use, is_in_use, is_of, same_kind, with_numbered, by_number}
use Rattle.qls_meaning.specs.Reading.{journal_reading}
use Rattle.qls_meaning.specs.Damage.{oldest_rid}
use Rattle.qls_meaning.specs.Dead.{past_files}
use Rattle.qls_meaning.specs.History.{last_of}
use Rattle.qls_meaning.specs.Spent.{rid_of_reads}
use Rattle.qls_meaning.specs.Orderly.{journal_on}
use Rattle.qls_laws.specs.Undamaged.{BreaksNoRule}
use Rattle.qls_pool.specs.Files.{HeadedFile as LinkedFile, IsLinked, LinkedThere, IsAtRest, RestsThere, is_among}
use Rattle.qls_pool.specs.Moments.{Chain, Arrives}
use Rattle.qls_log.specs.declared.opening.Opening.{Opening}
use Rattle.qls_log.specs.Logs.{capacity_in}
use Rattle.qls_log.specs.Standing.{AreThoseFiles}
use Rattle.qls_log.specs.Steps.{IsLogStep, is_own}
use Rattle.qls_reading.specs.ReadLogs.{ReadLogState, linked_files, opening_behind, StandsAsRead, ReadsAs}
use Rattle.qls_reading.proofs.Rests.{IsSeen, all_seen}

-- ---- the files of a journal are its own

own_filter : (test : Headed → Bool) (fs : List Headed) → AllByRecursion (λ f. test f ≡ true) (filter test fs)
own_filter test [] = tt
own_filter test (f ∷ fs) = by (test f) refl (own_filter test fs)
  where
    by : (b : Bool) → test f ≡ b → AllByRecursion (λ g. test g ≡ true) (filter test fs) → AllByRecursion (λ g. test g ≡ true) (cond b (f ∷ filter test fs) (filter test fs))
    by true e rest = (e, rest)
    by false e rest = rest

own_with : (test : Headed → Bool) (f : Headed) (fs : List Headed) → test f ≡ true → AllByRecursion (λ g. test g ≡ true) fs → AllByRecursion (λ g. test g ≡ true) (with_numbered f fs)
own_with test f [] e h = (e, tt)
own_with test f (g ∷ fs) e h =
    elim (ltb f.header.number g.header.number || (eqb f.header.number g.header.number && ltb f.id g.id)) as (λ b. AllByRecursion (λ x. test x ≡ true) (cond b (f ∷ g ∷ fs) (g ∷ with_numbered f fs))) [
      | true ↦ (e, h)
      | false ↦ (h.0, own_with test f fs e h.1)
    ]

own_sorted : (test : Headed → Bool) (fs : List Headed) → AllByRecursion (λ f. test f ≡ true) fs → AllByRecursion (λ f. test f ≡ true) (by_number fs)
own_sorted test [] h = tt
own_sorted test (f ∷ fs) h = own_with test f (by_number fs) h.0 (own_sorted test fs h.1)

pub all_own : (d : Disk) (kind : JournalKind) (name : List ℕ) → AllByRecursion (λ f. is_of kind name f ≡ true) (journal_on d kind name).files
all_own d kind name = own_sorted (is_of kind name) (filter (is_of kind name) (map headed (in_use (full d)))) (own_filter (is_of kind name) (map headed (in_use (full d))))

kind_is : (a b : JournalKind) → same_kind a b ≡ true → a ≡ b
kind_is Queue Queue e = refl
kind_is Queue Listed e = absurd (cc)
kind_is Listed Queue e = absurd (cc)
kind_is Listed Listed e = refl

-- and so they aren't another's
not_of : (o : Opening) (kind : JournalKind) (name : List ℕ) (f : Headed) → is_own o kind name ≡ false → is_of kind name f ≡ true → is_of o.kind o.name f ≡ false
not_of o kind name f other own =
    let parts = and_parts (same_kind kind f.header.kind) (same name f.header.name) own in
    (λ i. is_own o (sym (kind_is kind f.header.kind parts.0) i) (sym (same_true name f.header.name parts.1) i)) ∙ other

-- ---- one step

module _ (o : Opening) (log : ReadLogState) (m n : Moment) (step : IsLogStep o m n) (other : is_own o log.journal.kind log.journal.name ≡ false) where
  abbrev kind : JournalKind
  kind = log.journal.kind

  abbrev name : List ℕ
  name = log.journal.name

  same_journal : journal_on n.disk kind name ≡ journal_on m.disk kind name
  same_journal = step.journals kind name other

  same_file : (f : Headed) → IsSeen m.disk f → is_of kind name f ≡ true → file_of f.id n.disk ≡ file_of f.id m.disk
  same_file f seen own =
      step.files f.id seen.state seen.found (ap is_in_use seen.used) (ap (is_of o.kind o.name) seen.is ∙ not_of o kind name f other own) ∙ sym seen.found

  same_files : (capacity : ℕ) (hs : List LinkedFile) (fs : List Headed) → AreThoseFiles capacity hs fs → AllByRecursion (IsSeen m.disk) fs → AllByRecursion (λ f. is_of kind name f ≡ true) fs
      → AllByRecursion (λ h. file_of h.id n.disk ≡ file_of h.id m.disk) hs
  same_files capacity [] fs those seen own = tt
  same_files capacity (h ∷ hs) [] those seen own = absurd those
  same_files capacity (h ∷ hs) (f ∷ fs) those seen own =
      (subst (λ id. file_of id n.disk ≡ file_of id m.disk) those.0.id (same_file f seen.0 own.0), same_files capacity hs fs those.1 seen.1 own.1)

  all_same : (P : LinkedFile → Disk → Type 0) → ((h : LinkedFile) → file_of h.id n.disk ≡ file_of h.id m.disk → P h m.disk → P h n.disk) → (hs : List LinkedFile)
      → AllByRecursion (λ h. file_of h.id n.disk ≡ file_of h.id m.disk) hs → AllByRecursion (λ h. P h m.disk) hs → AllByRecursion (λ h. P h n.disk) hs
  all_same P keep [] same k = tt
  all_same P keep (h ∷ hs) same k = (keep h same.0 k.0, all_same P keep hs same.1 k.1)

  pub stands_kept : StandsAsRead log m.disk → StandsAsRead log n.disk
  stands_kept h =
      let t = h.there in
      let hs : List LinkedFile = linked_files log.journal in
      let same = same_files (capacity_in (opening_behind log.journal)) hs (journal_on m.disk kind name).files t.files (all_seen m.disk kind name t.differ) (all_own m.disk kind name) in
      record {
        there = record {
          differ = step.differ t.differ;
          apart = t.apart;
          linked = all_same LinkedThere (λ h e. subst (IsLinked h) (sym e)) hs same t.linked;
          headers = all_same (λ h x. take 4096 (bytes_at h.id x) ≡ header_spelling h.header) (λ h e k. ap (λ (p : Option FileState). take 4096 (seen_bytes p)) e ∙ k) hs same t.headers;
          files = subst (λ (j : Journal). AreThoseFiles (capacity_in (opening_behind log.journal)) hs j.files) (sym same_journal) t.files;
        };
        rests = all_same (λ h x. is_among h.id [] ≡ false → RestsThere h x) (λ h e k free. subst (IsAtRest h) (sym e) (k free)) hs same h.rests;
        rules = subst BreaksNoRule (sym same_journal) h.rules;
        past = ap (λ (j : Journal). length (past_files j)) same_journal ∙ h.past;
        rid = ap (λ (j : Journal). rid_of_reads (oldest_rid j.files) (journal_reading j)) same_journal ∙ h.rid;
      }

  pub reads_kept : (records : List Got) → ReadsAs log records m.disk → ReadsAs log records n.disk
  reads_kept records h = h ∙ ap (λ (j : Journal). filter (λ r. not (is_filler r.what.kind)) (journal_reading j)) (sym same_journal)

-- ---- over the moments of a call

chain_kept : (P : Moment → Type 0) (R : Moment → Moment → Type 0) → ((m n : Moment) → R m n → P m → P n) → (m : Moment) (ms : List Moment) → Chain R m ms → P m → P (last_of m ms)
chain_kept P R keep m [] h k = k
chain_kept P R keep m (n ∷ ns) h k = chain_kept P R keep n ns h.1 (keep m n h.0 k)

module _ (o : Opening) (log : ReadLogState) (a b : Content) (went : Arrives (IsLogStep o) a b) (other : is_own o log.journal.kind log.journal.name ≡ false) where
  pub stands_after : StandsAsRead log a.now.disk → StandsAsRead log b.now.disk
  stands_after h =
      subst (λ (m : Moment). StandsAsRead log m.disk) (sym went.last)
      (chain_kept (λ m. StandsAsRead log m.disk) (IsLogStep o) (λ m n step. stands_kept o log m n step other) a.now went.since went.chain h)

  pub reads_after : (records : List Got) → ReadsAs log records a.now.disk → ReadsAs log records b.now.disk
  reads_after records h =
      subst (λ (m : Moment). ReadsAs log records m.disk) (sym went.last)
      (chain_kept (λ m. ReadsAs log records m.disk) (IsLogStep o) (λ m n step. reads_kept o log m n step other records) a.now went.since went.chain h)
