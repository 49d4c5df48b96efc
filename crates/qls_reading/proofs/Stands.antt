-- A journal that was read stands on a disk with nothing pending as it was read.
use Rattle.std.proofs.Common.{◌≡◌, ℕ, ◌*◌, Option, Some, None, IfSome, List, [], ◌∷◌, map, take, Ok, refl, sym, ap, ◌∙◌, subst}
use Rattle.std.specs.List.{AllByRecursion}
use Rattle.qls_shape.specs.Claims.{◌>>=◌}
use Rattle.qls_record.specs.declared.Got.{Got}
use Rattle.qls_site.specs.Disk.{Disk, IsQuiet, full, bytes_at}
use Rattle.qls_site.specs.Content.{Content}
use Rattle.qls_filehdr.specs.Header.{header_spelling}
use Rattle.qls_meaning.specs.Journals.{Headed, Journal}
use Rattle.qls_meaning.specs.Damage.{next_claims, chain_claims}
use Rattle.qls_pool.specs.Files.{OnDisk, RestsThere}
use Rattle.qls_log.specs.Standing.{AreApart, AreThoseFiles, HasFiles}
use Rattle.qls_scan.specs.declared.answers.HeadedFile.{HeadedFile}
use Rattle.qls_scan.specs.declared.answers.JournalFiles.{JournalFiles}
use Rattle.qls_scan.specs.Found.{head_of, with_no_area, IsInOrder}
use Rattle.qls_scan.specs.Heads.{HasLegalHeader}
use Rattle.qls_reading.specs.ReadLogs.{journal_in, IsThere, ReadLogState, IsReadWhole, Says, linked, linked_files, first_home, opening_behind, AreSpelled, StandsAsRead, ReadsAs}
use Rattle.qls_reading.proofs.Sites.{heads, all_legal}
use Rattle.qls_reading.proofs.Row.{in_pool}
use Rattle.qls_reading.proofs.Rests.{ids_differ, all_seen, rest_all, linked_all, rest_but, headed_all, those_all, all_apart}

-- the rules on files in a row don't see the data areas
same_chain : (fs : List Headed) → chain_claims (map with_no_area (map head_of fs)) ≡ chain_claims fs
same_chain [] = refl
same_chain (f ∷ []) = refl
same_chain (f ∷ g ∷ fs) = ap (λ r. next_claims f g >>= λ _. r) (same_chain (g ∷ fs))

kibs : (hs : List HeadedFile) (kib : ℕ) → AllByRecursion (λ h. (h.header.part ≡ (first_home hs).part) × (h.header.kib ≡ kib)) hs → AllByRecursion (λ h. h.header.kib ≡ kib) hs
kibs hs kib h = only hs (first_home hs).part h
  where
    only : (gs : List HeadedFile) (part : ℕ) → AllByRecursion (λ h. (h.header.part ≡ part) × (h.header.kib ≡ kib)) gs → AllByRecursion (λ h. h.header.kib ≡ kib) gs
    only [] part k = tt
    only (g ∷ gs) part k = (k.0.1, only gs part k.1)

module _ (j : JournalFiles) (c : Content) (order : IsInOrder j) (there : IsThere j c) (quiet : IsQuiet c.now.disk) (spelled : AreSpelled j c.now.disk) where
  abbrev d : Disk
  d = c.now.disk

  abbrev here : Journal
  here = journal_in (full d) j

  abbrev hs : List HeadedFile
  hs = map head_of here.files

  same : hs ≡ j.files
  same = heads j c order there

  rest : AllByRecursion (λ h. RestsThere h d) (map linked hs)
  rest = rest_all d here.files quiet (all_seen d j.kind j.name (ids_differ (full d) there.rising)) there.sizes (subst (AllByRecursion HasLegalHeader) (sym same) (all_legal j j.files order.own))
      (subst (AllByRecursion (λ (f : HeadedFile). take 4096 (bytes_at f.id d) ≡ header_spelling f.header)) (sym same) spelled)

  rest_there : AllByRecursion (λ h. RestsThere h d) (linked_files j)
  rest_there = subst (λ (fs : List HeadedFile). AllByRecursion (λ h. RestsThere h d) (map linked fs)) same rest

  those : AreThoseFiles ((first_home j.files).kib * 1024) (linked_files j) here.files
  those =
      let kib : ℕ = (first_home j.files).kib in
      subst (λ (fs : List HeadedFile). AreThoseFiles (kib * 1024) (map linked fs) here.files) same
      (those_all kib here.files there.sizes (subst (AllByRecursion (λ (h : HeadedFile). h.header.kib ≡ kib)) (sym same) (kibs j.files kib (in_pool j.files order.chain))))

  files_there : HasFiles (opening_behind j) (linked_files j) d
  files_there = record {
    differ = ids_differ (full d) there.rising;
    apart = subst (λ (fs : List HeadedFile). AreApart (map linked fs)) same (all_apart d j.kind j.name (ids_differ (full d) there.rising));
    linked = linked_all d (linked_files j) rest_there;
    headers = headed_all d j.files spelled;
    files = those;
  }

  pub stands_as_read : (rid fillers past : ℕ) (gs : List Got) → let log : ReadLogState = record { journal = j; rid = rid; fillers = fillers; past = past } in IsReadWhole here log gs → StandsAsRead log d × ReadsAs log gs d
  stands_as_read rid fillers past gs read = (
    record {
      there = files_there;
      rests = rest_but d (linked_files j) rest_there;
      rules = record { chain = sym (same_chain here.files) ∙ ap (λ (fs : List HeadedFile). chain_claims (map with_no_area fs)) same ∙ order.chain; reading = read.rules };
      past = sym read.past;
      rid = sym read.rid;
    },
    read.reads,
  )

pub told_stands : (a : Option Content) (j : JournalFiles) (rid fillers past : ℕ) (gs : List Got) → let log : ReadLogState = record { journal = j; rid = rid; fillers = fillers; past = past } in
    IsInOrder j → IfSome a (IsThere j) → IfSome a (λ c. Says (journal_in (full c.now.disk) j) (Ok (log, gs))) → IfSome a (OnDisk (λ d. IsQuiet d → AreSpelled j d → StandsAsRead log d × ReadsAs log gs d))
told_stands None j rid fillers past gs order there says = tt
told_stands (Some c) j rid fillers past gs order there says = λ quiet spelled. stands_as_read j c order there quiet spelled rid fillers past gs says
