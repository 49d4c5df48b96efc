-- Where no file came into use no sector counts as unwritten: so the files of journals that were opened are written whole.
use Rattle.std.proofs.Common.{◌≡◌, ℕ, ◌+◌, ◌*◌, ◌<◌, Bool, true, false, cond, not, ◌&&◌, ◌||◌, leb, List, [], ◌∷◌, ◌++◌, map, Option, Some, None, refl, sym, ap, ◌∙◌, subst, arith}
use Rattle.std.proofs.lemmas.Bool.Decides.{nat_tests}
use Rattle.std.specs.List.{AllByRecursion, list_any, filter}
use Rattle.qls_model.specs.declared.machine.PoolId.{PoolId}
use Rattle.qls_site.specs.Disk.{FileState, file_of, full}
use Rattle.qls_site.specs.Content.{Moment, Content, moments_since}
use Rattle.qls_meaning.specs.Journals.{Headed}
use Rattle.qls_meaning.specs.History.{History, is_file_in_use, uses, newly_used, is_covered, unwritten_since, is_unwritten}
use Rattle.qls_pool.specs.Files.{HeadedFile}
use Rattle.qls_pool.specs.Serials.{TakesNone, serials_taken}
use Rattle.qls_pool.proofs.Disks.{found_id}
use Rattle.qls_log.specs.Logs.{LogState, capacity_in}
use Rattle.qls_log.specs.Unwritten.{IsFreeFrom, IsClear, AreWrittenTo, IsWrittenTo, history_with}
use Rattle.qls_log.proofs.Splits.{heads}
use Rattle.qls_prepared.specs.Lists.{PreparedState}
use Rattle.qls_prepared.specs.Moments.{WrittenBy}
use Rattle.qls_journals.specs.State.{JournalsState}
use Rattle.qls_journals.specs.Moments.{AreWritten}
use Rattle.qls_journals.specs.Opening.{ReadingState, begun_at}
use Rattle.qls_journals.proofs.OpenedFrom.{is_queue_reading, queue_from, queues_from, list_after}
use Rattle.qls_journals.proofs.OpenedList.{new_list, IfListed, list_by}
use Rattle.qls_journals.proofs.OpenedNamed.{any_head}

-- ---- no file came into use

none_any : (test : Headed → Bool) (fs : List Headed) → filter test fs ≡ [] → list_any test fs ≡ false
none_any test [] e = refl
none_any test (f ∷ fs) e = by (test f) (none_any test fs) e
  where
    by : (b : Bool) → (filter test fs ≡ [] → list_any test fs ≡ false) → cond b (f ∷ filter test fs) (filter test fs) ≡ [] → (b || list_any test fs) ≡ false
    by true later e = absurd (cc)
    by false later e = later e

no_both : (b : Bool) → b ≡ true → b ≡ false → ⊥
no_both b x y = cc

-- a file in use was so before
used_before : (id : ℕ) (m n : Moment) → newly_used m n ≡ [] → uses id n ≡ true → uses id m ≡ true
used_before id m n none used = by (uses id m) refl
  where
    test : Headed → Bool
    test f = not (uses f.id m)

    one : (o : Option FileState) → file_of id n.disk ≡ o → is_file_in_use o ≡ true → uses id m ≡ false → ⊥
    one None found used e = absurd (cc)
    one (Some g) found used e =
        no_both (list_any test (heads n.disk)) (any_head test id n.disk g found used (ap (λ i. not (uses i m)) (found_id id g n.disk found) ∙ ap not e)) (none_any test (heads n.disk) none)

    by : (b : Bool) → uses id m ≡ b → uses id m ≡ true
    by true e = e
    by false e = absurd (one (file_of id n.disk) refl used e)

map_none : {A B : Type 0} (f : A → B) (xs : List A) (ys : List B) → map f xs ++ ys ≡ [] → (xs ≡ []) × (ys ≡ [])
map_none f [] ys e = (refl, e)
map_none f (x ∷ xs) ys e = absurd (cc)

not_free : (u c v : Bool) → (u ≡ true → v ≡ true) → (u && not c && (false || not v)) ≡ false
not_free true true v h = refl
not_free true false v h = ap not (h refl)
not_free false c v h = refl

never_unwritten : (id k : ℕ) (m : Moment) (ms : List Moment) → serials_taken m ms ≡ [] → unwritten_since id k false m ms ≡ false
never_unwritten id k m [] e = refl
never_unwritten id k m (n ∷ ns) e =
    let parts = map_none (λ f. f.header.serial) (newly_used m n) (serials_taken n ns) e in
    ap (λ b. unwritten_since id k b n ns) (not_free (uses id n) (is_covered id k n) (uses id m) (used_before id m n parts.0)) ∙ never_unwritten id k n ns parts.1

-- ---- what was written

abbrev pub since_begun : Content → Content → History
since_begun a b = history_with (begun_at a) (moments_since a b)

none_unwritten : (a b : Content) → TakesNone a b → (id k : ℕ) → is_unwritten [] (since_begun a b) id k ≡ false
none_unwritten a b none id k = never_unwritten id k a.now (moments_since a b) none

past_end : (cap k : ℕ) → 512 * k < 4096 + cap → leb (4096 + cap) (512 * k) ≡ false
past_end cap k l = grind (arith, nat_tests)

module _ (a b : Content) (none : TakesNone a b) where
  free_from : (cap id : ℕ) → IsFreeFrom [] (since_begun a b) cap cap id
  free_from cap id = λ k low high. none_unwritten a b none id k ∙ sym (past_end cap k high)

  written_to : (cap : ℕ) (fs : List HeadedFile) → AreWrittenTo [] (since_begun a b) cap cap fs
  written_to cap [] = tt
  written_to cap (f ∷ []) = free_from cap f.id
  written_to cap (f ∷ g ∷ fs) = (free_from cap f.id, written_to cap (g ∷ fs))

  all_clear : (fs : List HeadedFile) → AllByRecursion (λ f. IsClear [] (since_begun a b) f.id) fs
  all_clear [] = tt
  all_clear (f ∷ fs) = ((λ k e. absurd (no_both (is_unwritten [] (since_begun a b) f.id k) e (none_unwritten a b none f.id k))), all_clear fs)

  log_written : (l : LogState) → l.used ≡ capacity_in l.opening → IsWrittenTo [] (since_begun a b) l
  log_written l full = record {
    written = subst (λ to. AreWrittenTo [] (since_begun a b) (capacity_in l.opening) to l.files) (sym full) (written_to (capacity_in l.opening) l.files);
    clear = all_clear l.files;
  }

  queues_written : (rs : List ReadingState) → AllByRecursion (λ q. IsWrittenTo [] (since_begun a b) q.log) (queues_from rs)
  queues_written [] = tt
  queues_written (r ∷ rs) = elim (is_queue_reading r) as (λ c. AllByRecursion (λ q. IsWrittenTo [] (since_begun a b) q.log) (cond c (queue_from r ∷ queues_from rs) (queues_from rs))) [
    | true ↦ (log_written (queue_from r).log refl, queues_written rs)
    | false ↦ queues_written rs
  ]

  lists_written : (home : PoolId) (rs : List ReadingState) → AllByRecursion (IfListed home (λ p. WrittenBy [] (since_begun a b) p.log)) rs
  lists_written home [] = tt
  lists_written home (r ∷ rs) = ((λ e. log_written (queue_from r).log refl), lists_written home rs)

  pub all_written : (home : PoolId) (s : JournalsState) (rs : List ReadingState) → s.queues ≡ queues_from rs → s.list ≡ list_after home rs (new_list home) → AreWritten [] (since_begun a b) s
  all_written home s rs queues list = record {
    queues = subst (AllByRecursion (λ q. IsWrittenTo [] (since_begun a b) q.log)) (sym queues) (queues_written rs);
    list = subst (λ (p : PreparedState). WrittenBy [] (since_begun a b) p.log) (sym list) (list_by home (λ p. WrittenBy [] (since_begun a b) p.log) rs (lists_written home rs) (λ e. tt));
  }
