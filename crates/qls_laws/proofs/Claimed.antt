-- The rules on a journal of one epoch, as facts on its files.
use Rattle.std.proofs.Common.{◌≡◌, ℕ, ◌+◌, ◌^◌, ◌<◌, ◌≤◌, Bool, true, false, cond, ◌&&◌, ◌||◌, List, [], ◌∷◌, ◌++◌, map, length, Ok, Err, refl, sym, ap, ◌∙◌, arith, eqb, ltb, leb, append-nil}
use Rattle.std.proofs.lemmas.Bool.Decides.{nat_tests}
use Rattle.std.specs.List.{AllByRecursion, filter}
use Rattle.qls_shape.specs.Claims.{claim, each, of_file, ◌>>=◌, ◌>>◌}
use Rattle.qls_record.specs.Record.{rid_given}
use Rattle.qls_filehdr.specs.declared.FileHeader.{FileHeader}
use Rattle.qls_filehdr.specs.declared.JournalKind.{JournalKind}
use Rattle.qls_filehdr.specs.declared.Rule.{Rule}
use Rattle.qls_filehdr.specs.declared.Rule.TheVariants as rule
use Rattle.qls_meaning.specs.Journals.{Headed, epochs, onto_epoch}
use Rattle.qls_meaning.specs.Reading.{Placed, end_from, first_place, epoch_reading, located, reads_of, journal_reading}
use Rattle.qls_meaning.specs.Damage.{Checked, Spread, spread, rid_before, first_in, order_claim, file_claims, end_claim, epoch_claims, epochs_claims, oldest_rid, reading_claims}
use Rattle.qls_laws.proofs.Rules.{ats}

-- ---- claims

pub then_ok : (a b : Checked) → (a >> b) ≡ Ok tt → (a ≡ Ok tt) × (b ≡ Ok tt)
then_ok (Ok u) b h = (refl, h)
then_ok (Err e) b h = absurd (cc)

pub ok_then : (a b : Checked) → a ≡ Ok tt → b ≡ Ok tt → (a >> b) ≡ Ok tt
ok_then (Ok u) b h k = k
ok_then (Err e) b h k = absurd (cc)

pub ok_next : (a b : Checked) → a ≡ Ok tt → b ≡ Ok tt → (a >>= λ _. b) ≡ Ok tt
ok_next (Ok u) b h k = k
ok_next (Err e) b h k = absurd (cc)

pub next_ok : (a b : Checked) → (a >>= λ _. b) ≡ Ok tt → (a ≡ Ok tt) × (b ≡ Ok tt)
next_ok (Ok u) b h = (refl, h)
next_ok (Err e) b h = absurd (cc)

pub claimed : (id : ℕ) (b : Bool) (r : Rule) → of_file id (claim b r) ≡ Ok tt → b ≡ true
claimed id true r h = refl
claimed id false r h = absurd (cc)

pub claims : (id : ℕ) (b : Bool) (r : Rule) → b ≡ true → of_file id (claim b r) ≡ Ok tt
claims id true r h = refl
claims id false r h = absurd (cc)

pub all_claimed : {A : Type 0} (P : A → Type 0) (check : A → Checked) → ((x : A) → check x ≡ Ok tt → P x) → (xs : List A) → each check xs ≡ Ok tt → AllByRecursion P xs
all_claimed P check f [] h = tt
all_claimed P check f (x ∷ xs) h = let parts = next_ok (check x) (each check xs) h in (f x parts.0, all_claimed P check f xs parts.1)

pub claims_all : {A : Type 0} (P : A → Type 0) (check : A → Checked) → ((x : A) → P x → check x ≡ Ok tt) → (xs : List A) → AllByRecursion P xs → each check xs ≡ Ok tt
claims_all P check f [] h = refl
claims_all P check f (x ∷ xs) h = ok_next (check x) (each check xs) (f x h.0) (claims_all P check f xs h.1)

-- ---- one epoch

-- all files are of this epoch
abbrev pub HaveEpoch : ℕ → List Headed → Type 0
HaveEpoch e fs = AllByRecursion (λ f. f.header.epoch ≡ e) fs

equal : (m n : ℕ) → m ≡ n → eqb m n ≡ true
equal m n e = grind (arith, nat_tests)

-- they are one run
pub one_run : (e : ℕ) (f : Headed) (fs : List Headed) → HaveEpoch e (f ∷ fs) → epochs (f ∷ fs) ≡ (f ∷ fs) ∷ []
one_run e f [] h = refl
one_run e f (g ∷ fs) h =
    ap (onto_epoch f) (one_run e g fs h.1)
    ∙ ap (λ b. cond b ((f ∷ g ∷ fs) ∷ []) ((f ∷ []) ∷ (g ∷ fs) ∷ [])) (equal f.header.epoch g.header.epoch (h.0 ∙ sym h.1.0))

pub reading_of_run : (e : ℕ) (kind : JournalKind) (name : List ℕ) (fs : List Headed) → HaveEpoch e fs → 0 < length fs
    → journal_reading (record { kind = kind; name = name; files = fs }) ≡ map (located fs) (epoch_reading true fs)
reading_of_run e kind name [] h some = absurd (omega arith)
reading_of_run e kind name (f ∷ fs) h some = ap (reads_of true) (one_run e f fs h) ∙ append-nil (map (located (f ∷ fs)) (epoch_reading true (f ∷ fs)))

-- ---- the claims of a file

-- the rid is the one that its kind gives after the rid in force where the record begins, and below 2 ^ 62
abbrev pub InOrder : ℕ → List Placed → Placed → Type 0
InOrder rid reads r = (eqb r.what.rid (rid_given (rid_before rid reads r.at) r.what.kind) && ltb r.what.rid (2 ^ 62)) ≡ true

abbrev pub in_file : ℕ → ℕ → Placed → Bool
in_file start size r = leb start r.at && ltb r.at (start + size)

-- the rules on a file whose data area has this start and size: the reading begins and ends there, and the journal's rids begin with this rid
pub record KeepsRules (begin end rid : ℕ) (reads : List Placed) (start size : ℕ) (header : FileHeader) : Type 0 where
  pub first : start ≤ end → begin < start → header.first ≡ first_in start size (ats reads ++ end ∷ [])
  pub rid_is : start ≤ end → 0 < start → header.rid ≡ rid_before rid reads start
  pub order : AllByRecursion (InOrder rid reads) (filter (in_file start size) reads)

abbrev pub AllKeep : ℕ → ℕ → ℕ → List Placed → ℕ → List Headed → Type 0
AllKeep begin end rid reads start [] = Unit {0}
AllKeep begin end rid reads start (f ∷ fs) = KeepsRules begin end rid reads start (length f.area) f.header × AllKeep begin end rid reads (start + length f.area) fs

not_less : (m n : ℕ) → n ≤ m → ltb m n ≡ false
not_less m n h = grind (arith, nat_tests)

not_most : (m n : ℕ) → n < m → leb m n ≡ false
not_most m n h = grind (arith, nat_tests)

not_none : (n : ℕ) → 0 < n → eqb n 0 ≡ false
not_none n h = grind (arith, nat_tests)

is_equal : (m n : ℕ) → eqb m n ≡ true → m ≡ n
is_equal m n h = grind (arith, nat_tests)

third : (a b c : Bool) → ((a || b) || c) ≡ true → a ≡ false → b ≡ false → c ≡ true
third true b c h k l = absurd (cc)
third false true c h k l = absurd (cc)
third false false c h k l = h

-- one of three holds, where the third does if the first two don't
one_of : (a b c : Bool) → (a ≡ false → b ≡ false → c ≡ true) → ((a || b) || c) ≡ true
one_of true b c h = refl
one_of false true c h = refl
one_of false false c h = h refl refl

is_less : (m n : ℕ) → ltb m n ≡ false → n ≤ m
is_less m n h = grind (arith, nat_tests)

is_more : (m n : ℕ) → leb m n ≡ false → n < m
is_more m n h = grind (arith, nat_tests)

is_some : (n : ℕ) → eqb n 0 ≡ false → 0 < n
is_some n h = grind (arith, nat_tests)

module _ (last : Bool) (rid : ℕ) (E : List Headed) (reads : List Placed) where
  abbrev begin : ℕ
  begin = first_place E

  abbrev end : ℕ
  end = end_from (first_place E) reads

  file_keeps : (s : Spread) → file_claims true last rid E reads s ≡ Ok tt → KeepsRules begin end rid reads s.start (length s.file.area) s.file.header
  file_keeps s h =
      let parts = then_ok _ _ h in
      let more = then_ok _ _ parts.1 in
      record {
        first = λ low late. is_equal s.file.header.first _ (third _ _ _ (claimed s.file.id _ rule.First parts.0) (not_less end s.start low) (not_most s.start begin late));
        rid_is = λ low some. is_equal s.file.header.rid _ (third _ _ _ (claimed s.file.id _ rule.Rid more.0) (not_less end s.start low) (not_none s.start some));
        order = all_claimed (InOrder rid reads) (order_claim true last rid E reads s) (λ r k. claimed s.file.id _ rule.Order k) (filter (in_file s.start (length s.file.area)) reads) more.1;
      }

  keeps_file : (s : Spread) → KeepsRules begin end rid reads s.start (length s.file.area) s.file.header → file_claims true last rid E reads s ≡ Ok tt
  keeps_file s k =
      ok_then _ _
      (claims s.file.id _ rule.First (one_of (ltb end s.start) (leb s.start begin) _ (λ a b. equal s.file.header.first _ (k.first (is_less end s.start a) (is_more s.start begin b)))))
      (ok_then _ _
      (claims s.file.id _ rule.Rid (one_of (ltb end s.start) (eqb s.start 0) _ (λ a b. equal s.file.header.rid _ (k.rid_is (is_less end s.start a) (is_some s.start b)))))
      (claims_all (InOrder rid reads) (order_claim true last rid E reads s) (λ r o. claims s.file.id _ rule.Order o) (filter (in_file s.start (length s.file.area)) reads) k.order))

  files_keep : (start : ℕ) (fs : List Headed) → each (file_claims true last rid E reads) (spread start fs) ≡ Ok tt → AllKeep begin end rid reads start fs
  files_keep start [] h = tt
  files_keep start (f ∷ fs) h =
      let parts = next_ok (file_claims true last rid E reads (record { file = f; start = start })) (each (file_claims true last rid E reads) (spread (start + length f.area) fs)) h in
      (file_keeps (record { file = f; start = start }) parts.0, files_keep (start + length f.area) fs parts.1)

  keep_files : (start : ℕ) (fs : List Headed) → AllKeep begin end rid reads start fs → each (file_claims true last rid E reads) (spread start fs) ≡ Ok tt
  keep_files start [] h = refl
  keep_files start (f ∷ fs) h =
      ok_next (file_claims true last rid E reads (record { file = f; start = start })) (each (file_claims true last rid E reads) (spread (start + length f.area) fs)) (keeps_file (record { file = f; start = start }) h.0)
      (keep_files (start + length f.area) fs h.1)

  any_end : (gs : List Headed) → end_claim true true rid E reads gs ≡ Ok tt
  any_end [] = refl
  any_end (g ∷ gs) = refl

-- ---- the claims of a journal of one epoch

pub keeps_rules : (e : ℕ) (kind : JournalKind) (name : List ℕ) (fs : List Headed) → HaveEpoch e fs → reading_claims (record { kind = kind; name = name; files = fs }) ≡ Ok tt
    → AllKeep (first_place fs) (end_from (first_place fs) (epoch_reading true fs)) (oldest_rid fs) (epoch_reading true fs) 0 fs
keeps_rules e kind name [] one h = tt
keeps_rules e kind name (f ∷ fs) one h =
    let claimed_all : epoch_claims true true f.header.rid (f ∷ fs) (epoch_reading true (f ∷ fs)) ≡ Ok tt = sym (ap (epochs_claims true f.header.rid) (one_run e f fs one)) ∙ h in
    files_keep true f.header.rid (f ∷ fs) (epoch_reading true (f ∷ fs)) 0 (f ∷ fs) (next_ok _ _ claimed_all).0

pub rules_kept : (e : ℕ) (kind : JournalKind) (name : List ℕ) (fs : List Headed) → HaveEpoch e fs
    → AllKeep (first_place fs) (end_from (first_place fs) (epoch_reading true fs)) (oldest_rid fs) (epoch_reading true fs) 0 fs → reading_claims (record { kind = kind; name = name; files = fs }) ≡ Ok tt
rules_kept e kind name [] one h = refl
rules_kept e kind name (f ∷ fs) one h =
    ap (epochs_claims true f.header.rid) (one_run e f fs one)
    ∙ ok_next _ _ (keep_files true f.header.rid (f ∷ fs) (epoch_reading true (f ∷ fs)) 0 (f ∷ fs) h) (any_end true f.header.rid (f ∷ fs) (epoch_reading true (f ∷ fs)) (f ∷ fs))
