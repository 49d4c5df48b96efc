-- The files of a journal as a site has them.
use Rattle.std.proofs.Common.{◌≡◌, ℕ, ◌+◌, ◌*◌, ◌<◌, ◌≤◌, Bool, true, false, cond, not, List, [], ◌∷◌, ◌++◌, map, length, drop, Option, Some, None, IfSome, Result, Ok, Err, refl, sym, ap, ◌∙◌, subst, arith, eqb, length-drop}
use Rattle.std.specs.List.{AllByRecursion, filter}
use Rattle.std.proofs.lemmas.Bool.Decides.{nat_tests}
use Rattle.qls_shape.specs.Claims.{claim, of_file, ◌>>=◌, ◌>>◌}
use Rattle.qls_site.specs.Disk.{Disk, FileState, file_of, full, full_file, bytes_at, seen_bytes, size_of, all_written, AllAbove, IdsRise}
use Rattle.qls_site.specs.Content.{Content}
use Rattle.qls_filehdr.specs.declared.Rule.{Rule}
use Rattle.qls_filehdr.specs.declared.Rule.TheVariants as rule
use Rattle.qls_filehdr.proofs.HeaderTrip.{legal_parts}
use Rattle.qls_meaning.specs.Journals.{Headed, Journal, headed, in_use, is_in_use, epochs}
use Rattle.qls_meaning.specs.Reading.{reads_of, read_of}
use Rattle.qls_meaning.specs.Damage.{Checked, Damage, next_claims, chain_claims, oldest_rid, epochs_claims, reading_claims}
use Rattle.qls_meaning.specs.Dead.{past_in}
use Rattle.qls_meaning.specs.Spent.{rid_of_reads}
use Rattle.qls_record.specs.Record.{is_filler}
use Rattle.qls_laws.proofs.Seen.{All-journal}
use Rattle.qls_scan.specs.declared.answers.HeadedFile.{HeadedFile}
use Rattle.qls_scan.specs.declared.answers.JournalFiles.{JournalFiles}
use Rattle.qls_scan.specs.Found.{head_of, with_no_area, IsFileOf, IsInOrder}
use Rattle.qls_scan.specs.Heads.{HasLegalHeader}
use Rattle.qls_reader.specs.Spots.{HasSize}
use Rattle.qls_reading.specs.declared.tally.Tally.{Tally}
use Rattle.qls_reading.specs.declared.fault.LogFault.{LogFault}
use Rattle.qls_reading.specs.declared.fault.LogFault.TheVariants.{Failed, Memory, Damaged}
use Rattle.qls_reading.specs.ReadLogs.{journal_in, IsThere, IsReadWhole, Says, first_rid}
use Rattle.qls_reading.specs.Groups.{AreCounted}
use Rattle.qls_reading.specs.Left.{file_on, files_on, AreOnSite, AreEpochsRead, ReadsEpochs}
use Rattle.qls_reading.proofs.Begins.{kib_some}

-- ---- each file is found by its id

own_found : (f : FileState) (rest : Option FileState) → cond (eqb f.id f.id) (Some f) rest ≡ Some f
own_found f rest = let same : eqb f.id f.id ≡ true = grind (arith, nat_tests) in ap (λ b. cond b (Some f) rest) same

other_found : (g f : FileState) (rest : Option FileState) → g.id < f.id → cond (eqb g.id f.id) (Some g) rest ≡ rest
other_found g f rest l = let other : eqb g.id f.id ≡ false = grind (arith, nat_tests, l) in ap (λ b. cond b (Some g) rest) other

abbrev IsFound : Disk → FileState → Type 0
IsFound d f = file_of f.id d ≡ Some f

found_behind : (g : FileState) (d rest : Disk) → AllAbove g.id (full rest) → AllByRecursion (IsFound d) rest → AllByRecursion (IsFound (g ∷ d)) rest
found_behind g d [] above h = tt
found_behind g d (f ∷ rest) above h = (other_found g f (file_of f.id d) above.0 ∙ h.0, found_behind g d rest above.1 h.1)

found_all : (d : Disk) → IdsRise (full d) → AllByRecursion (IsFound d) d
found_all [] h = tt
found_all (f ∷ d) h = (own_found f (file_of f.id d), found_behind f d d h.0 (found_all d h.1))

-- a file as the disk has it
record IsOn (d : Disk) (f : Headed) : Type 0 where
  pub state : FileState
  pub found : file_of f.id d ≡ Some state
  pub area : f.area ≡ drop 4096 (all_written state.pending state.stable)

on_all : (d all : Disk) → AllByRecursion (IsFound all) d → AllByRecursion (IsOn all) (map headed (in_use (full d)))
on_all [] all h = tt
on_all (f ∷ d) all h = by_place (is_in_use f.place) (on_all d all h.1)
  where
    here : IsOn all (headed (full_file f))
    here = record { state = f; found = h.0; area = refl }

    by_place : (b : Bool) → AllByRecursion (IsOn all) (map headed (in_use (full d))) → AllByRecursion (IsOn all) (map headed (cond b (full_file f ∷ in_use (full d)) (in_use (full d))))
    by_place true rest = (here, rest)
    by_place false rest = rest

-- ---- the journal's files

on_is : (d : Disk) (f : Headed) → IsOn d f → file_on d (head_of f) ≡ f
on_is d f on = λ i. record { id = f.id; header = f.header; area = area i }
  where
    area : drop 4096 (bytes_at f.id d) ≡ f.area
    area = ap (λ o. drop 4096 (seen_bytes o)) on.found ∙ sym on.area

all_on : (d : Disk) (fs : List Headed) → AllByRecursion (IsOn d) fs → files_on d (map head_of fs) ≡ fs
all_on d [] h = refl
all_on d (f ∷ fs) h = λ i. on_is d f h.0 i ∷ all_on d fs h.1 i

size_is : (d : Disk) (f : Headed) → IsOn d f → length f.area ≡ 1024 * f.header.kib → 4 ≤ f.header.kib → HasSize (4096 + 1024 * f.header.kib) (file_of f.id d)
size_is d f on size some =
    let area = ap length on.area in
    let whole : size_of on.state ≡ 4096 + 1024 * f.header.kib = omega (arith, area, size, some, length-drop 4096 (all_written on.state.pending on.state.stable)) in
    subst (HasSize (4096 + 1024 * f.header.kib)) (sym on.found) whole

sizes_are : (c : Content) (fs : List Headed) → AllByRecursion (IsOn c.now.disk) fs → AllByRecursion (λ f. length f.area ≡ 1024 * f.header.kib) fs → AllByRecursion HasLegalHeader (map head_of fs) → AreOnSite (map head_of fs) c
sizes_are c [] on size legal = tt
sizes_are c (f ∷ fs) on size legal =
    (size_is c.now.disk f on.0 size.0 (kib_some f.header.kib (legal_parts f.header legal.0).kib), sizes_are c fs on.1 size.1 legal.1)

pub all_legal : (j : JournalFiles) (hs : List HeadedFile) → AllByRecursion (IsFileOf j) hs → AllByRecursion HasLegalHeader hs
all_legal j [] h = tt
all_legal j (f ∷ hs) h = (h.0.legal, all_legal j hs h.1)

module _ (j : JournalFiles) (c : Content) (order : IsInOrder j) (there : IsThere j c) where
  abbrev here : Journal
  here = journal_in (full c.now.disk) j

  on_here : AllByRecursion (IsOn c.now.disk) here.files
  on_here = All-journal (IsOn c.now.disk) (map headed (in_use (full c.now.disk))) j.kind j.name (on_all c.now.disk c.now.disk (found_all c.now.disk there.rising))

  pub heads : map head_of here.files ≡ j.files
  heads = ap (λ k. k.files) there.files

  pub are_here : files_on c.now.disk j.files ≡ here.files
  are_here = ap (files_on c.now.disk) (sym heads) ∙ all_on c.now.disk here.files on_here

  pub on_site : AreOnSite j.files c
  on_site = subst (λ hs. AreOnSite hs c) heads (sizes_are c here.files on_here there.sizes (subst (AllByRecursion HasLegalHeader) (sym heads) (all_legal j j.files order.own)))

  rid_here : first_rid j.files ≡ oldest_rid here.files
  rid_here = sym (ap first_rid heads) ∙ first_is here.files
    where
      first_is : (fs : List Headed) → first_rid (map head_of fs) ≡ oldest_rid fs
      first_is [] = refl
      first_is (f ∷ fs) = refl

  -- what was read of its files is read of the journal
  pub whole : (old new : Tally) (count : ℕ) → old ≡ record { reads = []; rid = first_rid j.files; fillers = 0 } → AreEpochsRead true (epochs (files_on c.now.disk j.files)) old new count
      → IsReadWhole here (record { journal = j; rid = new.rid; fillers = new.fillers; past = count }) new.reads
  whole old new count is read =
      let same = are_here in
      let rid = ap (λ (t : Tally). t.rid) is ∙ rid_here in
      record {
        rules = (λ i. epochs_claims true (sym rid i) (epochs (sym same i))) ∙ read.claims;
        reads = read.tallied.reads ∙ ap (λ (t : Tally). map read_of t.reads ++ filter (λ r. not (is_filler r.what.kind)) (reads_of true (epochs (files_on c.now.disk j.files)))) is
            ∙ ap (λ fs. filter (λ r. not (is_filler r.what.kind)) (reads_of true (epochs fs))) same;
        rid = read.tallied.rid ∙ (λ i. rid_of_reads (rid i) (reads_of true (epochs (same i))));
        fillers = read.tallied.fillers ∙ ap (λ (t : Tally). t.fillers + length (filter (λ r. is_filler r.what.kind) (reads_of true (epochs (files_on c.now.disk j.files))))) is
            ∙ none_more (length (filter (λ r. is_filler r.what.kind) (reads_of true (epochs (files_on c.now.disk j.files)))))
            ∙ ap (λ fs. length (filter (λ r. is_filler r.what.kind) (reads_of true (epochs fs)))) same;
        past = read.past ∙ ap (λ fs. length (past_in true (epochs fs))) same;
      }
    where
      none_more : (n : ℕ) → 0 + n ≡ n
      none_more n = omega arith

  pub broken : (rid : ℕ) (fault : Damage) → rid ≡ first_rid j.files → epochs_claims true rid (epochs (files_on c.now.disk j.files)) ≡ Err fault → reading_claims here ≡ Err fault
  broken rid fault is e =
      let same = are_here in
      let rid_is = is ∙ rid_here in
      (λ i. epochs_claims true (sym rid_is i) (epochs (sym same i))) ∙ e

-- ---- where the site tells

pub told_on : (a : Option Content) (j : JournalFiles) → IsInOrder j → IfSome a (IsThere j) → IfSome a (AreOnSite j.files)
told_on None j order there = tt
told_on (Some c) j order there = on_site j c order there

pub told_whole : (a : Option Content) (j : JournalFiles) (old new : Tally) (count : ℕ) → IsInOrder j → IfSome a (IsThere j) → old ≡ record { reads = []; rid = first_rid j.files; fillers = 0 }
    → IfSome a (λ c. ReadsEpochs true (epochs (files_on c.now.disk j.files)) old new (Ok count))
    → IfSome a (λ c. Says (journal_in (full c.now.disk) j) (Ok (record { journal = j; rid = new.rid; fillers = new.fillers; past = count }, new.reads)))
told_whole None j old new count order there is read = tt
told_whole (Some c) j old new count order there is read = whole j c order there old new count is read

pub told_broken : (a : Option Content) (j : JournalFiles) (old any : Tally) (fault : LogFault) → IsInOrder j → IfSome a (IsThere j) → old.rid ≡ first_rid j.files
    → IfSome a (λ c. ReadsEpochs true (epochs (files_on c.now.disk j.files)) old any (Err fault)) → IfSome a (λ c. Says (journal_in (full c.now.disk) j) (Err fault))
told_broken None j old any fault order there is read = tt
told_broken (Some c) j old any Failed order there is read = tt
told_broken (Some c) j old any Memory order there is read = tt
told_broken (Some c) j old any (Damaged id rule) order there is read = broken j c order there old.rid (id, rule) is read

-- ---- the files in a row

first_claim : (id : ℕ) (b : Bool) (rest : Result (Unit {0}) Rule) → of_file id (claim b rule.Number >> rest) ≡ Ok tt → b ≡ true
first_claim id true rest e = refl
first_claim id false rest e = absurd (cc)

next_number : (f g : Headed) → next_claims f g ≡ Ok tt → g.header.number ≡ f.header.number + 1
next_number f g e = let is = first_claim g.id (eqb g.header.number (f.header.number + 1)) _ e in grind (arith, nat_tests, is)

first_kept : (a : Checked) (b : Checked) → (a >>= λ _. b) ≡ Ok tt → (a ≡ Ok tt) × (b ≡ Ok tt)
first_kept (Ok u) b e = (refl, e)
first_kept (Err d) b e = absurd (cc)

pub are_counted : (hs : List HeadedFile) → chain_claims (map with_no_area hs) ≡ Ok tt → AreCounted hs
are_counted [] e = tt
are_counted (f ∷ []) e = tt
are_counted (f ∷ g ∷ hs) e =
    let parts = first_kept (next_claims (with_no_area f) (with_no_area g)) (chain_claims (map with_no_area (g ∷ hs))) e in
    (next_number (with_no_area f) (with_no_area g) parts.0, are_counted (g ∷ hs) parts.1)
