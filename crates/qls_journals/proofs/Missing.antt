-- A name that no queue of a store has: the site has no file of it, and a new queue needs a file that can be had.
use Rattle.std.proofs.Common.{◌≡◌, inl, inr, ℕ, Bool, true, false, cond, not, ◌&&◌, ◌||◌, ◌==◌, eq-eqb, List, [], ◌∷◌, map, Option, Some, None, refl, sym, ap, ◌∙◌}
use Rattle.std.specs.List.{filter, list_any, AllByRecursion}
use Rattle.std.proofs.lemmas.Bool.{and_parts, eqb-true}
use Rattle.qls_model.specs.Bytes.{same}
use Rattle.qls_model.specs.declared.machine.PoolId.{PoolId}
use Rattle.qls_model.proofs.XidKeys.{same_true}
use Rattle.qls_site.specs.Disk.{Disk, FileState, file_of, full, full_file}
use Rattle.qls_filehdr.specs.declared.FileHeader.{FileHeader}
use Rattle.qls_filehdr.specs.declared.JournalKind.{JournalKind}
use Rattle.qls_filehdr.specs.declared.JournalKind.TheVariants.{Queue}
use Rattle.qls_meaning.specs.Journals.{Headed, headed, is_in_use, in_use, is_of, same_kind, by_number}
use Rattle.qls_meaning.specs.Spent.{last_count, greatest_id, has_empty, is_pool_place, no_file_left, new_journal_meets_end}
use Rattle.qls_pool.specs.Pools.{PoolState, IsSpent, least_id, has}
use Rattle.qls_pool.specs.Files.{IsWholePool, is_at, is_among}
use Rattle.qls_pool.proofs.Order.{IsLeastOf, least_is}
use Rattle.qls_pool.proofs.Steps.{all_weaken, all_found}
use Rattle.qls_pool.proofs.Taken.{no_empty}
use Rattle.qls_log.specs.Standing.{files_on}
use Rattle.qls_queue.specs.Live.{LiveState}
use Rattle.qls_queue.specs.Records.{opening_of}
use Rattle.qls_journals.specs.State.{queue_held, NamesJournal, AllNamed}

-- ---- a journal without files

none_of : (test : Headed → Bool) (e : Disk) → AllByRecursion (λ g. is_in_use g.place ≡ true → test (headed (full_file g)) ≡ false) e → filter test (map headed (in_use (full e))) ≡ []
none_of test [] h = refl
none_of test (g ∷ e) h =
    elim (is_in_use g.place) as (λ b. is_in_use g.place ≡ b → filter test (map headed (cond b (full_file g ∷ in_use (full e)) (in_use (full e)))) ≡ []) [
      | true ↦ λ u. ap (λ c. cond c (headed (full_file g) ∷ filter test (map headed (in_use (full e)))) (filter test (map headed (in_use (full e))))) (h.0 u) ∙ none_of test e h.1
      | false ↦ λ u. none_of test e h.1
    ] refl

-- a file in use is another journal's
other_name : (qs : List LiveState) (name : List ℕ) → queue_held name qs ≡ None → (header : FileHeader) → NamesJournal qs header → (same_kind Queue header.kind && same name header.name) ≡ false
other_name qs name none header (inl own) =
    ap (λ (kind : JournalKind). same_kind Queue kind && same name header.name) own.kind ∙ apart (same name header.name) refl own.queue own.there
  where
    not_some : (t : LiveState) → None ≡ Some t → ⊥
    not_some t e = cc

    apart : (b : Bool) → same name header.name ≡ b → (t : LiveState) → queue_held header.name qs ≡ Some t → b ≡ false
    apart false e t h = refl
    apart true e t h = absurd (not_some t (sym none ∙ ap (λ n. queue_held n qs) (same_true name header.name e) ∙ h))
other_name qs name none header (inr own) = ap (λ (kind : JournalKind). same_kind Queue kind && same name header.name) own.kind

pub no_journal : (qs : List LiveState) (pool : PoolState) (d : Disk) (name : List ℕ) (home : PoolId) → IsWholePool pool d → AllNamed qs d → queue_held name qs ≡ None → files_on (opening_of name home) d ≡ []
no_journal qs pool d name home whole named none =
    ap by_number
    (none_of (is_of Queue name) d
    (all_weaken (λ g. file_of g.id d ≡ Some g) (λ g. is_in_use g.place ≡ true → is_of Queue name (headed (full_file g)) ≡ false) (λ g e used. other_name qs name none (headed (full_file g)).header (named g.id g e used)) d (all_found d whole.0)))

-- ---- a disk without a file for the next journal

not_both : (b : Bool) → b ≡ true → b ≡ false → ⊥
not_both b e k = cc

any_first : (t : FileState → Bool) (f g : FileState) (b : Bool) (rest : Option FileState) (any : Bool) → t f ≡ true → (rest ≡ Some f → any ≡ true) → cond b (Some g) rest ≡ Some f → (t g || any) ≡ true
any_first t f g true rest any is more e = ap (λ (x : FileState). t x || any) (some_is e) ∙ ap (λ b. b || any) is
  where
    some_is : Some g ≡ Some f → g ≡ f
    some_is e = cc
any_first t f g false rest any is more e = or_true (t g) any (more e)
  where
    or_true : (a b : Bool) → b ≡ true → (a || b) ≡ true
    or_true true b e = refl
    or_true false b e = e

any_found : (t : FileState → Bool) (id : ℕ) (f : FileState) (d : Disk) → t f ≡ true → file_of id d ≡ Some f → list_any t d ≡ true
any_found t id f [] is e = absurd (cc)
any_found t id f (g ∷ d) is e = any_first t f g (g.id == id) (file_of id d) (list_any t d) is (any_found t id f d is) e

found_at : (part kib : ℕ) (o : Option FileState) → is_at part kib o ≡ true → (f : FileState) × (o ≡ Some f) × (is_pool_place part kib f.place ≡ true)
found_at part kib None e = absurd (cc)
found_at part kib (Some f) e = (f, refl, e)

none_least : (home : PoolId) (pool : PoolState) (d : Disk) → IsWholePool pool d → has_empty home d ≡ false → (o : Option ℕ) → IsLeastOf (λ j. has home.part home.kib j pool.files) o → o ≡ None
none_least home pool d whole none None least = refl
none_least home pool d whole none (Some m) least =
    let at : is_at home.part home.kib (file_of m d) ≡ true = (and_parts (is_at home.part home.kib (file_of m d)) (not (is_among m [])) (sym (whole.1.files home.part home.kib m) ∙ least.0)).0 in
    let found = found_at home.part home.kib (file_of m d) at in
    absurd (not_both (has_empty home d) (any_found (λ f. is_pool_place home.part home.kib f.place) m found.0 d found.2 found.1) none)

not_true : (b : Bool) → not b ≡ true → b ≡ false
not_true true e = cc
not_true false e = refl

-- where the disk has no file left, nor has the pool
pub spent_of_disk : (home : PoolId) (pool : PoolState) (d : Disk) → IsWholePool pool d → no_file_left home d ≡ true → IsSpent home pool
spent_of_disk home pool d whole e =
    let parts = and_parts (greatest_id d == last_count) (not (has_empty home d)) e in
    record { empty = none_least home pool d whole (not_true (has_empty home d) parts.1) (least_id home pool.files) (least_is home pool.files); last = whole.1.greatest ∙ eqb-true (greatest_id d) last_count parts.0 }

-- the pool is spent, so the disk is
pub no_file_of : (home : PoolId) (pool : PoolState) (d : Disk) → IsWholePool pool d → IsSpent home pool → new_journal_meets_end home d ≡ true
no_file_of home pool d whole spent =
    let last : (greatest_id d == last_count) ≡ true = eq-eqb (greatest_id d) last_count (sym whole.1.greatest ∙ spent.last) in
    let none : has_empty home d ≡ false = no_empty home pool d whole.0 whole.1 spent.empty in
    λ i. last i && not (none i)
