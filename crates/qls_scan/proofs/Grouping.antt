-- Files put into their groups, and the groups as journals.
use Rattle.std.proofs.Common.{◌≡◌, ℕ, Bool, true, false, cond, not, ◌&&◌, ◌||◌, List, [], ◌∷◌, ◌++◌, map, length, eqb, ltb, Some, None, option_map, refl, sym, ap, ◌∙◌, arith}
use Rattle.std.specs.declared.cmp.Ordering.TheVariants.{Less, Equal, Greater}
use Rattle.std.specs.Ordering.{nat_cmp, match_ordering, ordering_then}
use Rattle.std.specs.List.{AllByRecursion, filter, list_any}
use Rattle.std.specs.BTreeMap.{BTreeMap, insert_entry, is_at}
use Rattle.std.specs.Map.{lookup, set_value, values_of}
use Rattle.std.proofs.lemmas.List.{map-append}
use Rattle.std.proofs.lemmas.Bool.Decides.{nat_tests}
use Rattle.qls_model.specs.Bytes.{same}
use Rattle.qls_model.proofs.XidKeys.{same_self}
use Rattle.qls_filehdr.specs.declared.JournalKind.{JournalKind}
use Rattle.qls_filehdr.specs.declared.JournalKind.TheVariants.{Queue, List as Listed}
use Rattle.qls_meaning.specs.Journals.{Headed, Journal, is_of, is_queue, same_kind, with_numbered, by_number, journal, queue_names, with_name, list_journals, journals}
use Rattle.qls_scan.specs.declared.groups.Groups.{Groups}
use Rattle.qls_scan.specs.declared.answers.HeadedFile.{HeadedFile}
use Rattle.qls_scan.specs.declared.answers.JournalFiles.{JournalFiles}
use Rattle.qls_scan.specs.Found.{head_of, with_no_area, files_of}
use Rattle.qls_filehdr.specs.Limits.{is_name}
use Rattle.qls_filehdr.proofs.HeaderTrip.{legal_parts}
use Rattle.qls_scan.specs.Heads.{HasLegalHeader}
use Rattle.qls_scan.specs.Groups.{Entries, number_cmp, number_key, entries_within, within, with_file, add_to, with_file_of_queue, keyed, queue_group, IsGrouped, list_found, queue_found, LacksId, IdsDiffer}
use Rattle.qls_scan.proofs.Names.{order, names_rise, names_are, inserted, replaced, looked_up}

-- ---- a map of maps as entries

abbrev Maps : Type 0
Maps = List (List ℕ × BTreeMap (ℕ × ℕ) HeadedFile)

pub within-insert : (es : Maps) (k : List ℕ) (m : BTreeMap (ℕ × ℕ) HeadedFile) → within (insert_entry order es k m) ≡ insert_entry order (within es) k m.entries
within-insert [] k m = refl
within-insert (e ∷ es) k m = elim (order k e.0) as (λ o.
    within (match_ordering o ((k, m) ∷ e ∷ es) ((e.0, m) ∷ es) (e ∷ insert_entry order es k m))
    ≡ match_ordering o ((k, m.entries) ∷ entries_within e ∷ within es) ((e.0, m.entries) ∷ within es) (entries_within e ∷ insert_entry order (within es) k m.entries)) [
      | Less ↦ refl
      | Equal ↦ refl
      | Greater ↦ ap (λ r. entries_within e ∷ r) (within-insert es k m)
    ]

pub within-set : (test : List ℕ → Bool) (es : Maps) (m : BTreeMap (ℕ × ℕ) HeadedFile) → within (set_value test es m) ≡ set_value test (within es) m.entries
within-set test [] m = refl
within-set test (e ∷ es) m = elim (test e.0) as (λ b.
    within (cond b ((e.0, m) ∷ es) (e ∷ set_value test es m)) ≡ cond b ((e.0, m.entries) ∷ within es) (entries_within e ∷ set_value test (within es) m.entries)) [
      | true ↦ refl
      | false ↦ ap (λ r. entries_within e ∷ r) (within-set test es m)
    ]

abbrev pub entries_in : BTreeMap (ℕ × ℕ) HeadedFile → Entries
entries_in m = m.entries

pub within-lookup : (test : List ℕ → Bool) (es : Maps) → lookup test (within es) ≡ option_map (λ (m : BTreeMap (ℕ × ℕ) HeadedFile). m.entries) (lookup test es)
within-lookup test [] = refl
within-lookup test (e ∷ es) = elim (test e.0) as (λ b.
    cond b (Some e.1.entries) (lookup test (within es)) ≡ option_map (λ (m : BTreeMap (ℕ × ℕ) HeadedFile). m.entries) (cond b (Some e.1) (lookup test es))) [
      | true ↦ refl
      | false ↦ within-lookup test es
    ]

-- ---- one group

-- the order of keys is that of the files
key_order : (n m a b : ℕ) → (a ≡ b → ⊥) → number_cmp (n, a) (m, b) ≡ cond (ltb n m || (eqb n m && ltb a b)) Less Greater
key_order n m a b differ = elim (ltb n m) as (λ l. ltb n m ≡ l → ordering_then (cond l Less (cond (eqb n m) Equal Greater)) (nat_cmp a b) ≡ cond (l || (eqb n m && ltb a b)) Less Greater) [
  | true ↦ λ l. refl
  | false ↦ λ l. elim (eqb n m) as (λ e. ordering_then (cond e Equal Greater) (nat_cmp a b) ≡ cond (e && ltb a b) Less Greater) [
    | true ↦ elim (ltb a b) as (λ s. cond s Less (cond (eqb a b) Equal Greater) ≡ cond s Less Greater) [
      | true ↦ refl
      | false ↦ let other : eqb a b ≡ false = grind (arith, nat_tests, differ) in ap (λ e. cond e Equal Greater) other
    ]
    | false ↦ refl
  ]
] refl

pub keyed_with : (f : Headed) (fs : List Headed) → LacksId f.id fs → with_file (head_of f) (map keyed fs) ≡ map keyed (with_numbered f fs)
keyed_with f [] h = refl
keyed_with f (g ∷ fs) h =
    ap (λ o. match_ordering o (keyed f ∷ keyed g ∷ map keyed fs) (((number_key (head_of g)), head_of f) ∷ map keyed fs) (keyed g ∷ with_file (head_of f) (map keyed fs)))
    (key_order f.header.number g.header.number f.id g.id (λ e. h.0 (sym e)))
    ∙ elim (ltb f.header.number g.header.number || (eqb f.header.number g.header.number && ltb f.id g.id)) as (λ b.
    match_ordering (cond b Less Greater) (keyed f ∷ keyed g ∷ map keyed fs) (((number_key (head_of g)), head_of f) ∷ map keyed fs) (keyed g ∷ with_file (head_of f) (map keyed fs))
    ≡ map keyed (cond b (f ∷ g ∷ fs) (g ∷ with_numbered f fs))) [
      | true ↦ refl
      | false ↦ ap (λ r. keyed g ∷ r) (keyed_with f fs h.1)
    ]

module _ (P : Headed → Type 0) where
  all_filter : (test : Headed → Bool) (fs : List Headed) → AllByRecursion P fs → AllByRecursion P (filter test fs)
  all_filter test [] h = tt
  all_filter test (f ∷ fs) h = elim (test f) as (λ b. AllByRecursion P (cond b (f ∷ filter test fs) (filter test fs))) [
    | true ↦ (h.0, all_filter test fs h.1)
    | false ↦ all_filter test fs h.1
  ]

  all_with : (f : Headed) (fs : List Headed) → P f → AllByRecursion P fs → AllByRecursion P (with_numbered f fs)
  all_with f [] p h = (p, tt)
  all_with f (g ∷ fs) p h = elim (ltb f.header.number g.header.number || (eqb f.header.number g.header.number && ltb f.id g.id)) as (λ b. AllByRecursion P (cond b (f ∷ g ∷ fs) (g ∷ with_numbered f fs))) [
    | true ↦ (p, h)
    | false ↦ (h.0, all_with f fs p h.1)
  ]

  pub all_by_number : (fs : List Headed) → AllByRecursion P fs → AllByRecursion P (by_number fs)
  all_by_number [] h = tt
  all_by_number (f ∷ fs) h = all_with f (by_number fs) h.0 (all_by_number fs h.1)

  pub all_group : (test : Headed → Bool) (fs : List Headed) → AllByRecursion P fs → AllByRecursion P (by_number (filter test fs))
  all_group test fs h = all_by_number (filter test fs) (all_filter test fs h)

-- ---- one more file

module _ (f : Headed) (fs : List Headed) (fresh : LacksId f.id fs) where
  -- in a group that it belongs to
  joins : (test : Headed → Bool) → test f ≡ true → with_file (head_of f) (map keyed (by_number (filter test fs))) ≡ map keyed (by_number (filter test (f ∷ fs)))
  joins test e =
      keyed_with f (by_number (filter test fs)) (all_group (λ g. g.id ≡ f.id → ⊥) test fs fresh)
      ∙ ap (λ b. map keyed (by_number (cond b (f ∷ filter test fs) (filter test fs)))) (sym e)

  -- and in any other
  stays_out : (test : Headed → Bool) → test f ≡ false → map keyed (by_number (filter test fs)) ≡ map keyed (by_number (filter test (f ∷ fs)))
  stays_out test e = ap (λ b. map keyed (by_number (cond b (f ∷ filter test fs) (filter test fs)))) (sym e)

  pub list_more : (g h : Groups) → f.header.kind ≡ Listed → f.header.name ≡ [] → IsGrouped g fs → h.list.entries ≡ with_file (head_of f) g.list.entries → h.queues.entries ≡ g.queues.entries
      → IsGrouped h (f ∷ fs)
  list_more g h kind name so listed kept =
      let own : is_of Listed [] f ≡ true = (λ k. same_kind Listed (kind k) && same [] (name k)) in
      let no_queue : is_queue f.header.kind ≡ false = ap is_queue kind in
      record {
        list = listed ∙ ap (with_file (head_of f)) so.list ∙ joins (is_of Listed []) own;
        queues = ap within kept ∙ so.queues ∙ same_groups (queue_names fs) no_queue ∙ ap (λ b. map (queue_group (f ∷ fs)) (cond b (with_name f.header.name (queue_names fs)) (queue_names fs))) (sym no_queue);
      }
    where
      same_groups : (ns : List (List ℕ)) → is_queue f.header.kind ≡ false → map (queue_group fs) ns ≡ map (queue_group (f ∷ fs)) ns
      same_groups [] e = refl
      same_groups (n ∷ ns) e = λ k. (n, stays_out (is_of Queue n) (ap (λ b. b && same n f.header.name) e) k) ∷ same_groups ns e k

  abbrev group_of : List Headed → List ℕ → Entries
  group_of gs n = map keyed (by_number (filter (is_of Queue n) gs))

  module _ (kind : f.header.kind ≡ Queue) where
    is_own : (n : List ℕ) → is_of Queue n f ≡ same n f.header.name
    is_own n = ap (λ k. same_kind Queue k && same n f.header.name) kind

    others : (n : List ℕ) → same n f.header.name ≡ false → group_of (f ∷ fs) n ≡ group_of fs n
    others n e = sym (stays_out (is_of Queue n) (is_own n ∙ e))

    grown : with_file (head_of f) (group_of fs f.header.name) ≡ group_of (f ∷ fs) f.header.name
    grown = joins (is_of Queue f.header.name) (is_own f.header.name ∙ same_self f.header.name)

    names_more : with_name f.header.name (queue_names fs) ≡ queue_names (f ∷ fs)
    names_more = ap (λ b. cond b (with_name f.header.name (queue_names fs)) (queue_names fs)) (sym (ap is_queue kind))

    none_there : (gs : List Headed) → list_any (is_of Queue f.header.name) gs ≡ false → group_of gs f.header.name ≡ []
    none_there [] e = refl
    none_there (g ∷ gs) e = by_test (is_of Queue f.header.name g) refl e (none_there gs)
      where
        by_test : (b : Bool) → is_of Queue f.header.name g ≡ b → (b || list_any (is_of Queue f.header.name) gs) ≡ false
            → (list_any (is_of Queue f.header.name) gs ≡ false → group_of gs f.header.name ≡ []) → group_of (g ∷ gs) f.header.name ≡ []
        by_test true t e rest = absurd (cc)
        by_test false t e rest = ap (λ b. map keyed (by_number (cond b (g ∷ filter (is_of Queue f.header.name) gs) (filter (is_of Queue f.header.name) gs)))) t ∙ rest e

    groups_more : with_file_of_queue (head_of f) (map (queue_group fs) (queue_names fs)) ≡ map (queue_group (f ∷ fs)) (queue_names (f ∷ fs))
    groups_more = by_there (list_any (is_of Queue f.header.name) fs) refl
      where
        there : lookup (is_at (order f.header.name)) (map (queue_group fs) (queue_names fs)) ≡ cond (list_any (is_of Queue f.header.name) fs) (Some (group_of fs f.header.name)) None
        there = looked_up f.header.name (group_of fs) (queue_names fs) ∙ ap (λ b. cond b (Some (group_of fs f.header.name)) None) (names_are f.header.name fs)

        placed : insert_entry order (map (queue_group fs) (queue_names fs)) f.header.name (group_of (f ∷ fs) f.header.name) ≡ map (queue_group (f ∷ fs)) (queue_names (f ∷ fs))
        placed = inserted f.header.name (group_of fs) (group_of (f ∷ fs)) others (queue_names fs) (names_rise fs) ∙ ap (map (queue_group (f ∷ fs))) names_more

        by_there : (b : Bool) → list_any (is_of Queue f.header.name) fs ≡ b → with_file_of_queue (head_of f) (map (queue_group fs) (queue_names fs)) ≡ map (queue_group (f ∷ fs)) (queue_names (f ∷ fs))
        by_there true e =
            ap (add_to (head_of f) (map (queue_group fs) (queue_names fs))) (there ∙ ap (λ b. cond b (Some (group_of fs f.header.name)) None) e)
            ∙ ap (set_value (is_at (order f.header.name)) (map (queue_group fs) (queue_names fs))) grown
            ∙ replaced f.header.name (group_of fs) (group_of (f ∷ fs)) others (queue_names fs) (names_rise fs) (names_are f.header.name fs ∙ e)
            ∙ placed
        by_there false e =
            ap (add_to (head_of f) (map (queue_group fs) (queue_names fs))) (there ∙ ap (λ b. cond b (Some (group_of fs f.header.name)) None) e)
            ∙ ap (λ g. insert_entry order (map (queue_group fs) (queue_names fs)) f.header.name (with_file (head_of f) g)) (sym (none_there fs e))
            ∙ ap (insert_entry order (map (queue_group fs) (queue_names fs)) f.header.name) grown
            ∙ placed

    pub queue_more : (g h : Groups) → IsGrouped g fs → h.list.entries ≡ g.list.entries → within h.queues.entries ≡ with_file_of_queue (head_of f) (within g.queues.entries) → IsGrouped h (f ∷ fs)
    queue_more g h so kept added = record {
      list = kept ∙ so.list ∙ stays_out (is_of Listed []) (ap (λ k. same_kind Listed k && same [] f.header.name) kind);
      queues = added ∙ ap (with_file_of_queue (head_of f)) so.queues ∙ groups_more;
    }

-- ---- the groups as journals

values_keyed : (fs : List Headed) → values_of (map keyed fs) ≡ map head_of fs
values_keyed [] = refl
values_keyed (f ∷ fs) = ap (λ r. head_of f ∷ r) (values_keyed fs)

abbrev list_files : List HeadedFile → JournalFiles
list_files hs = record { kind = Listed; name = []; files = hs }

list_with : (f : Headed) (fs : List Headed) → list_found (map head_of (with_numbered f fs)) ≡ list_files (map head_of (with_numbered f fs)) ∷ []
list_with f [] = refl
list_with f (g ∷ fs) = elim (ltb f.header.number g.header.number || (eqb f.header.number g.header.number && ltb f.id g.id)) as (λ b.
    list_found (map head_of (cond b (f ∷ g ∷ fs) (g ∷ with_numbered f fs))) ≡ list_files (map head_of (cond b (f ∷ g ∷ fs) (g ∷ with_numbered f fs))) ∷ []) [ true ↦ refl | false ↦ refl ]

abbrev list_by : Bool → List Headed → List Journal
list_by any fs = cond any (record { kind = Listed; name = []; files = by_number fs } ∷ []) []

list_of : (test : Headed → Bool) (fs : List Headed) → list_found (map head_of (by_number (filter test fs))) ≡ map files_of (list_by (list_any test fs) (filter test fs))
list_of test [] = refl
list_of test (f ∷ fs) = elim (test f) as (λ b.
    list_found (map head_of (by_number (cond b (f ∷ filter test fs) (filter test fs)))) ≡ map files_of (list_by (b || list_any test fs) (cond b (f ∷ filter test fs) (filter test fs)))) [
      | true ↦ list_with f (by_number (filter test fs))
      | false ↦ list_of test fs
    ]

-- a list's file has no name
abbrev pub HasItsName : Headed → Type 0
HasItsName f = f.header.kind ≡ Listed → f.header.name ≡ []

pub any_list : (fs : List Headed) → AllByRecursion HasItsName fs → list_any (is_of Listed []) fs ≡ list_any (λ f. not (is_queue f.header.kind)) fs
any_list [] h = refl
any_list (f ∷ fs) h = λ k. one f.header.kind refl k || any_list fs h.1 k
  where
    one : (kind : JournalKind) → f.header.kind ≡ kind → is_of Listed [] f ≡ not (is_queue f.header.kind)
    one Queue e = ap (λ q. same_kind Listed q && same [] f.header.name) e ∙ ap (λ q. not (is_queue q)) (sym e)
    one Listed e = (λ k. same_kind Listed (e k) && same [] (h.0 e k)) ∙ ap (λ q. not (is_queue q)) (sym e)

queues_of : (fs : List Headed) (ns : List (List ℕ)) → map queue_found (map (queue_group fs) ns) ≡ map files_of (map (journal fs Queue) ns)
queues_of fs [] = refl
queues_of fs (n ∷ ns) = λ k. (record { kind = Queue; name = n; files = values_keyed (by_number (filter (is_of Queue n) fs)) k }) ∷ queues_of fs ns k

pub groups_are : (g : Groups) (fs : List Headed) → AllByRecursion HasItsName fs → IsGrouped g fs → list_found (values_of g.list.entries) ++ map queue_found (within g.queues.entries) ≡ map files_of (journals fs)
groups_are g fs named so =
    (λ k. list_found (ap values_of so.list k) ++ map queue_found (so.queues k))
    ∙ (λ k. (ap list_found (values_keyed (by_number (filter (is_of Listed []) fs))) ∙ list_of (is_of Listed []) fs ∙ ap (λ b. map files_of (list_by b (filter (is_of Listed []) fs))) (any_list fs named)) k
    ++ queues_of fs (queue_names fs) k)
    ∙ sym (map-append files_of (list_journals fs) (map (journal fs Queue) (queue_names fs)))

-- ---- legal headers

no_bytes : (name : List ℕ) → eqb (length name) 0 ≡ true → name ≡ []
no_bytes [] e = refl
no_bytes (b ∷ name) e = absurd (grind (arith, nat_tests, e))

named_as : (kind : JournalKind) (name : List ℕ) → is_name kind name ≡ true → kind ≡ Listed → name ≡ []
named_as Queue name e k = absurd (cc)
named_as Listed name e k = no_bytes name e

pub list_name : (f : HeadedFile) → HasLegalHeader f → f.header.kind ≡ Listed → f.header.name ≡ []
list_name f legal kind = named_as f.header.kind f.header.name (legal_parts f.header legal).name kind

pub lists_named : (hs : List HeadedFile) → AllByRecursion HasLegalHeader hs → AllByRecursion HasItsName (map with_no_area hs)
lists_named [] h = tt
lists_named (f ∷ hs) h = (list_name f h.0, lists_named hs h.1)

-- ---- a file among others

pub differ_behind : (xs : List HeadedFile) (f : HeadedFile) (ys : List HeadedFile) → IdsDiffer (map with_no_area (xs ++ f ∷ ys)) → LacksId f.id (map with_no_area ys)
differ_behind [] f ys h = h.0
differ_behind (x ∷ xs) f ys h = differ_behind xs f ys h.1

pub legal_at : (xs : List HeadedFile) (f : HeadedFile) (ys : List HeadedFile) → AllByRecursion HasLegalHeader (xs ++ f ∷ ys) → HasLegalHeader f
legal_at [] f ys h = h.0
legal_at (x ∷ xs) f ys h = legal_at xs f ys h.1
