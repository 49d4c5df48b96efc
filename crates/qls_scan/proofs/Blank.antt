-- The journals of files without their data areas are the journals without theirs.
use Rattle.std.proofs.Common.{◌≡◌, ℕ, ◌&&◌, ◌||◌, true, false, cond, not, List, [], ◌∷◌, ◌++◌, map, refl, sym, ap, ap₂, ◌∙◌, eqb, ltb}
use Rattle.std.specs.List.{filter, list_any}
use Rattle.std.proofs.lemmas.List.{map-append}
use Rattle.qls_shape.specs.Claims.{each, ◌>>=◌}
use Rattle.qls_filehdr.specs.declared.JournalKind.{JournalKind}
use Rattle.qls_filehdr.specs.declared.JournalKind.TheVariants.{Queue, List as Listed}
use Rattle.qls_meaning.specs.Journals.{Headed, Journal, is_of, is_queue, with_numbered, by_number, journal, with_name, queue_names, list_journals, journals}
use Rattle.qls_meaning.specs.Damage.{Checked, next_claims, chain_claims}
use Rattle.qls_scan.specs.declared.answers.HeadedFile.{HeadedFile}
use Rattle.qls_scan.specs.Found.{head_of, with_no_area, files_of}

abbrev blank : Headed → Headed
blank f = with_no_area (head_of f)

abbrev blank_journal : Journal → Journal
blank_journal j = record j { files = map blank j.files }

filter-blank : (kind : JournalKind) (name : List ℕ) (fs : List Headed) → filter (is_of kind name) (map blank fs) ≡ map blank (filter (is_of kind name) fs)
filter-blank kind name [] = refl
filter-blank kind name (f ∷ fs) =
    elim (is_of kind name f) as (λ b. cond b (blank f ∷ filter (is_of kind name) (map blank fs)) (filter (is_of kind name) (map blank fs)) ≡ map blank (cond b (f ∷ filter (is_of kind name) fs) (filter (is_of kind name) fs))) [
      | true ↦ ap (λ (r : List Headed). blank f ∷ r) (filter-blank kind name fs)
      | false ↦ filter-blank kind name fs
    ]

with_numbered-blank : (f : Headed) (fs : List Headed) → with_numbered (blank f) (map blank fs) ≡ map blank (with_numbered f fs)
with_numbered-blank f [] = refl
with_numbered-blank f (g ∷ fs) =
    elim (ltb f.header.number g.header.number || (eqb f.header.number g.header.number && ltb f.id g.id)) as (λ b.
    cond b (blank f ∷ blank g ∷ map blank fs) (blank g ∷ with_numbered (blank f) (map blank fs)) ≡ map blank (cond b (f ∷ g ∷ fs) (g ∷ with_numbered f fs))) [
      | true ↦ refl
      | false ↦ ap (λ (r : List Headed). blank g ∷ r) (with_numbered-blank f fs)
    ]

by_number-blank : (fs : List Headed) → by_number (map blank fs) ≡ map blank (by_number fs)
by_number-blank [] = refl
by_number-blank (f ∷ fs) = ap (with_numbered (blank f)) (by_number-blank fs) ∙ with_numbered-blank f (by_number fs)

journal-blank : (fs : List Headed) (kind : JournalKind) (name : List ℕ) → journal (map blank fs) kind name ≡ blank_journal (journal fs kind name)
journal-blank fs kind name =
    ap (λ gs. record { kind = kind; name = name; files = gs }) (ap by_number (filter-blank kind name fs) ∙ by_number-blank (filter (is_of kind name) fs))

queue_names-blank : (fs : List Headed) → queue_names (map blank fs) ≡ queue_names fs
queue_names-blank [] = refl
queue_names-blank (f ∷ fs) = ap (λ ns. cond (is_queue f.header.kind) (with_name f.header.name ns) ns) (queue_names-blank fs)

has_list-blank : (fs : List Headed) → list_any (λ f. not (is_queue f.header.kind)) (map blank fs) ≡ list_any (λ f. not (is_queue f.header.kind)) fs
has_list-blank [] = refl
has_list-blank (f ∷ fs) = ap (λ b. not (is_queue f.header.kind) || b) (has_list-blank fs)

list_journals-blank : (fs : List Headed) → list_journals (map blank fs) ≡ map blank_journal (list_journals fs)
list_journals-blank fs =
    ap₂ (λ b (j : Journal). cond b (j ∷ []) []) (has_list-blank fs) (journal-blank fs Listed [])
    ∙ elim (list_any (λ f. not (is_queue f.header.kind)) fs) as (λ b. cond b (blank_journal (journal fs Listed []) ∷ []) [] ≡ map blank_journal (cond b (journal fs Listed [] ∷ []) [])) [ true ↦ refl | false ↦ refl ]

named-blank : (fs : List Headed) (names : List (List ℕ)) → map (journal (map blank fs) Queue) names ≡ map blank_journal (map (journal fs Queue) names)
named-blank fs [] = refl
named-blank fs (n ∷ names) = λ k. journal-blank fs Queue n k ∷ named-blank fs names k

journals-blank : (fs : List Headed) → journals (map blank fs) ≡ map blank_journal (journals fs)
journals-blank fs =
    (λ k. list_journals-blank fs k ++ (ap (map (journal (map blank fs) Queue)) (queue_names-blank fs) ∙ named-blank fs (queue_names fs)) k)
    ∙ sym (map-append blank_journal (list_journals fs) (map (journal fs Queue) (queue_names fs)))

blanked : (fs : List Headed) → map with_no_area (map head_of fs) ≡ map blank fs
blanked [] = refl
blanked (f ∷ fs) = ap (λ (r : List Headed). blank f ∷ r) (blanked fs)

heads-blank : (fs : List Headed) → map head_of (map blank fs) ≡ map head_of fs
heads-blank [] = refl
heads-blank (f ∷ fs) = ap (λ (r : List HeadedFile). head_of f ∷ r) (heads-blank fs)

files-blank : (js : List Journal) → map files_of (map blank_journal js) ≡ map files_of js
files-blank [] = refl
files-blank (j ∷ js) = λ k. (record { kind = j.kind; name = j.name; files = heads-blank j.files k }) ∷ files-blank js k

-- the heads of files give the journals of these files
pub same_journals : (fs : List Headed) → map files_of (journals (map with_no_area (map head_of fs))) ≡ map files_of (journals fs)
same_journals fs = ap (λ gs. map files_of (journals gs)) (blanked fs) ∙ ap (map files_of) (journals-blank fs) ∙ files-blank (journals fs)

same_chain : (fs : List Headed) → chain_claims (map with_no_area (map head_of fs)) ≡ chain_claims fs
same_chain [] = refl
same_chain (f ∷ []) = refl
same_chain (f ∷ g ∷ fs) = ap (λ (c : Checked). next_claims f g >>= λ _. c) (same_chain (g ∷ fs))

-- and the same rule that fails first in a row
pub same_chains : (js : List Journal) → each (λ j. chain_claims (map with_no_area j.files)) (map files_of js) ≡ each (λ j. chain_claims j.files) js
same_chains [] = refl
same_chains (j ∷ js) = λ k. same_chain j.files k >>= λ _. same_chains js k
