-- A file of an image goes to its pool: where its journal without it breaks no rule and means the same, so does the image.
use Rattle.std.proofs.Common.{◌≡◌, ℕ, ◌<◌, Bool, true, false, not, cond, ◌&&◌, ◌||◌, List, [], ◌∷◌, ◌++◌, map, length, Result, Ok, refl, sym, ap, ap₂, ◌∙◌, subst, arith}
use Rattle.std.proofs.lemmas.Bool.{and_parts}
use Rattle.std.proofs.lemmas.List.{map-append}
use Rattle.std.specs.List.{AllByRecursion, filter, list_any, filter_map}
use Rattle.qls_model.specs.Bytes.{same}
use Rattle.qls_model.specs.Messages.{decided}
use Rattle.qls_model.specs.Machine.{MachineState}
use Rattle.qls_model.specs.declared.machine.QueueState.{QueueState}
use Rattle.qls_model.proofs.XidKeys.{same_true, same_self}
use Rattle.qls_decide.specs.declared.ListEntry.{ListEntry}
use Rattle.qls_decide.specs.Entries.{verdict_by}
use Rattle.qls_shape.specs.Claims.{◌>>=◌}
use Rattle.qls_site.specs.declared.site.Place.TheVariants.{InUse, Empty}
use Rattle.qls_site.specs.declared.site.ImageFile.{ImageFile}
use Rattle.qls_site.specs.Disk.{Image}
use Rattle.qls_filehdr.specs.declared.JournalKind.{JournalKind}
use Rattle.qls_filehdr.specs.declared.JournalKind.TheVariants.{Queue, List as Listed}
use Rattle.qls_filehdr.specs.Limits.{is_counter}
use Rattle.qls_meaning.specs.Journals.{Headed, Journal, is_queue, same_kind, is_of, is_in_use, in_use, empties, headed, by_number, journal, queue_names, journals, journals_of}
use Rattle.qls_meaning.specs.Damage.{Damage, is_pool, header_claims}
use Rattle.qls_meaning.specs.Meaning.{queue_of, entries_of, queues_of, in_doubt, meaning_of, meaning}
use Rattle.qls_laws.specs.Undamaged.{FilesBreakNoRule, BreaksNoRule, journal_with}
use Rattle.qls_laws.specs.Returns.{with_between, KeepsAllRules}
use Rattle.qls_laws.proofs.Rules.{filter-append}
use Rattle.qls_laws.proofs.Undamaged.{whole_is_undamaged}
use Rattle.qls_laws.proofs.DeadQueue.{run}
use Rattle.qls_laws.proofs.NameOrder.{names_by}
use Rattle.qls_epochs.proofs.Alls.{all_but}

-- ---- files without one of them

any_apart : (t : Headed → Bool) (xs : List Headed) (h : Headed) (ys : List Headed) → list_any t (xs ++ h ∷ ys) ≡ (t h || list_any t (xs ++ ys))
any_apart t [] h ys = refl
any_apart t (x ∷ xs) h ys = ap (λ b. t x || b) (any_apart t xs h ys) ∙ turn (t x) (t h) (list_any t (xs ++ ys))
  where
    turn : (a b c : Bool) → (a || (b || c)) ≡ (b || (a || c))
    turn true true c = refl
    turn true false c = refl
    turn false true c = refl
    turn false false c = refl

any_if : (t : Headed → Bool) (fs : List Headed) → 0 < length (filter t fs) → list_any t fs ≡ true
any_if t [] l = absurd (omega (arith, l))
any_if t (f ∷ fs) l = by (t f) l (any_if t fs)
  where
    by : (b : Bool) → 0 < length (cond b (f ∷ filter t fs) (filter t fs)) → (0 < length (filter t fs) → list_any t fs ≡ true) → (b || list_any t fs) ≡ true
    by true l rest = refl
    by false l rest = rest l

any_weaker : (t u : Headed → Bool) → ((f : Headed) → t f ≡ true → u f ≡ true) → (fs : List Headed) → list_any t fs ≡ true → list_any u fs ≡ true
any_weaker t u w [] h = h
any_weaker t u w (f ∷ fs) h = by (t f) refl h (any_weaker t u w fs)
  where
    by : (b : Bool) → t f ≡ b → (b || list_any t fs) ≡ true → (list_any t fs ≡ true → list_any u fs ≡ true) → (u f || list_any u fs) ≡ true
    by true e k rest = ap (λ c. c || list_any u fs) (w f e)
    by false e k rest = or_true (u f) (list_any u fs) (rest k)
      where
        or_true : (a b : Bool) → b ≡ true → (a || b) ≡ true
        or_true true b h = refl
        or_true false b h = h

-- where one of the others passes the test too, nothing changes
any_same : (t : Headed → Bool) (xs : List Headed) (h : Headed) (ys : List Headed) → (t h ≡ true → list_any t (xs ++ ys) ≡ true) → list_any t (xs ++ h ∷ ys) ≡ list_any t (xs ++ ys)
any_same t xs h ys w = any_apart t xs h ys ∙ by (t h) w
  where
    by : (b : Bool) → (b ≡ true → list_any t (xs ++ ys) ≡ true) → (b || list_any t (xs ++ ys)) ≡ list_any t (xs ++ ys)
    by true w = sym (w refl)
    by false w = refl

filter_other : (t : Headed → Bool) (xs : List Headed) (h : Headed) (ys : List Headed) → t h ≡ false → filter t (xs ++ h ∷ ys) ≡ filter t (xs ++ ys)
filter_other t xs h ys e =
    filter-append t xs (h ∷ ys) ∙ ap (λ b. filter t xs ++ cond b (h ∷ filter t ys) (filter t ys)) e ∙ sym (filter-append t xs ys)

filter_own : (t : Headed → Bool) (xs : List Headed) (h : Headed) (ys : List Headed) → t h ≡ true → filter t (xs ++ h ∷ ys) ≡ filter t xs ++ h ∷ filter t ys
filter_own t xs h ys e = filter-append t xs (h ∷ ys) ∙ ap (λ b. filter t xs ++ cond b (h ∷ filter t ys) (filter t ys)) e

some_sorted : (g : Headed) (gs fs : List Headed) → by_number fs ≡ g ∷ gs → 0 < length fs
some_sorted g gs [] e = absurd (cc)
some_sorted g gs (f ∷ fs) e = omega arith

kind_is : (a b : JournalKind) → same_kind a b ≡ true → a ≡ b
kind_is Queue Queue e = refl
kind_is Queue Listed e = absurd (cc)
kind_is Listed Queue e = absurd (cc)
kind_is Listed Listed e = refl

own_kind : (k : JournalKind) → same_kind k k ≡ true
own_kind Queue = refl
own_kind Listed = refl

own_name : (n : List ℕ) → same n n ≡ true
own_name n = same_self n

-- the files of its journal, by number
pub sorted_own : (xs : List Headed) (h : Headed) (ys : List Headed)
    → (journal_with (xs ++ h ∷ ys) h).files ≡ by_number (filter (is_of h.header.kind h.header.name) xs ++ h ∷ filter (is_of h.header.kind h.header.name) ys)
sorted_own xs h ys =
    ap by_number (filter_own (is_of h.header.kind h.header.name) xs h ys (ap₂ (λ a b. a && b) (own_kind h.header.kind) (own_name h.header.name)))

-- ---- the journals

-- one of its files goes, and these are left of its journal
pub record GoesFrom (xs : List Headed) (h : Headed) (ys : List Headed) : Type 0 where
  pub first : Headed
  pub rest : List Headed
  pub left : by_number (filter (is_of h.header.kind h.header.name) xs ++ filter (is_of h.header.kind h.header.name) ys) ≡ first ∷ rest
  pub rules : BreaksNoRule (run h.header.kind h.header.name (first ∷ rest))
  pub queue : is_queue h.header.kind ≡ true → queue_of (run h.header.kind h.header.name (first ∷ rest)) ≡ queue_of (journal_with (xs ++ h ∷ ys) h)
  pub list : is_queue h.header.kind ≡ false → entries_of (run h.header.kind h.header.name (first ∷ rest) ∷ []) ≡ entries_of (journal_with (xs ++ h ∷ ys) h ∷ [])

module _ (xs : List Headed) (h : Headed) (ys : List Headed) (w : GoesFrom xs h ys) where
  abbrev kind : JournalKind
  kind = h.header.kind

  abbrev name : List ℕ
  name = h.header.name

  abbrev all : List Headed
  all = xs ++ h ∷ ys

  abbrev others : List Headed
  others = xs ++ ys

  abbrev left : Journal
  left = run kind name (w.first ∷ w.rest)

  left_own : by_number (filter (is_of kind name) others) ≡ w.first ∷ w.rest
  left_own = ap by_number (filter-append (is_of kind name) xs ys) ∙ w.left

  same_queue : is_queue kind ≡ true → queue_of left ≡ queue_of (journal all kind name)
  same_queue = w.queue

  same_entries : is_queue kind ≡ false → entries_of (left ∷ []) ≡ entries_of (journal all kind name ∷ [])
  same_entries = w.list

  -- its journal is without it
  own_journal : journal others kind name ≡ left
  own_journal = ap (run kind name) left_own

  other_journal : (k : JournalKind) (n : List ℕ) → is_of k n h ≡ false → journal others k n ≡ journal all k n
  other_journal k n e = ap (λ (fs : List Headed). record { kind = k; name = n; files = by_number fs }) (sym (filter_other (is_of k n) xs h ys e))

  -- a journal of its kind and name is its journal
  same_journal : (k : JournalKind) (n : List ℕ) (fs : List Headed) → is_of k n h ≡ true → journal fs k n ≡ journal fs kind name
  same_journal k n fs e =
      let parts = and_parts (same_kind k kind) (same n name) e in
      (λ i. journal fs (kind_is k kind parts.0 i) (same_true n name parts.1 i))

  -- each journal is as before, or without it
  each_journal : (P : Journal → Type 0) (k : JournalKind) (n : List ℕ) → P (journal all k n) → P left → P (journal others k n)
  each_journal P k n p q = by (is_of k n h) refl
    where
      by : (b : Bool) → is_of k n h ≡ b → P (journal others k n)
      by true e = subst P (sym (same_journal k n others e ∙ own_journal)) q
      by false e = subst P (sym (other_journal k n e)) p

  some_other : list_any (is_of kind name) others ≡ true
  some_other = any_if (is_of kind name) others (some_sorted w.first w.rest (filter (is_of kind name) others) left_own)

  -- the names of queues, and that there is a list, stay
  names_stay : queue_names others ≡ queue_names all
  names_stay = names_by others all (λ x. sym (any_same (is_of Queue x) xs h ys (λ e.
      let parts = and_parts (same_kind Queue kind) (same x name) e in
      subst (λ (X : Bool). X ≡ true) (λ i. list_any (is_of (sym (kind_is Queue kind parts.0) i) (sym (same_true x name parts.1) i)) others) some_other)))

  list_stays : list_any (λ f. not (is_queue f.header.kind)) others ≡ list_any (λ f. not (is_queue f.header.kind)) all
  list_stays = sym (any_same (λ f. not (is_queue f.header.kind)) xs h ys (λ e. any_weaker (is_of kind name) (λ f. not (is_queue f.header.kind)) (listed kind e) others some_other))
    where
      listed : (k : JournalKind) → not (is_queue k) ≡ true → (f : Headed) → is_of k name f ≡ true → not (is_queue f.header.kind) ≡ true
      listed Queue e f i = absurd (cc)
      listed Listed e f i = (and_parts (not (is_queue f.header.kind)) (same name f.header.name) i).0

  -- ---- what they mean

  queue_stays : (n : List ℕ) → queue_of (journal others Queue n) ≡ queue_of (journal all Queue n)
  queue_stays n = by (is_of Queue n h) refl
    where
      by : (b : Bool) → is_of Queue n h ≡ b → queue_of (journal others Queue n) ≡ queue_of (journal all Queue n)
      by false e = ap queue_of (other_journal Queue n e)
      by true e =
          ap queue_of (same_journal Queue n others e ∙ own_journal)
          ∙ same_queue (queue_kind kind (and_parts (same_kind Queue kind) (same n name) e).0) ∙ ap queue_of (sym (same_journal Queue n all e))
        where
          queue_kind : (k : JournalKind) → is_queue k ≡ true → is_queue k ≡ true
          queue_kind k q = q

  list_stays_so : entries_of (journal others Listed [] ∷ []) ≡ entries_of (journal all Listed [] ∷ [])
  list_stays_so = by (is_of Listed [] h) refl
    where
      by : (b : Bool) → is_of Listed [] h ≡ b → entries_of (journal others Listed [] ∷ []) ≡ entries_of (journal all Listed [] ∷ [])
      by false e = ap (λ (j : Journal). entries_of (j ∷ [])) (other_journal Listed [] e)
      by true e =
          ap (λ (j : Journal). entries_of (j ∷ [])) (same_journal Listed [] others e ∙ own_journal)
          ∙ same_entries (list_kind kind (and_parts (same_kind Listed kind) (same [] name) e).0) ∙ ap (λ (j : Journal). entries_of (j ∷ [])) (sym (same_journal Listed [] all e))
        where
          list_kind : (k : JournalKind) → not (is_queue k) ≡ true → is_queue k ≡ false
          list_kind Queue q = absurd (cc)
          list_kind Listed q = refl

  queues_stay : (ns : List (List ℕ)) → map queue_of (map (journal others Queue) ns) ≡ map queue_of (map (journal all Queue) ns)
  queues_stay [] = refl
  queues_stay (n ∷ ns) = ap₂ (λ (q : QueueState) (qs : List QueueState). q ∷ qs) (queue_stays n) (queues_stay ns)

  only_queues : (fs : List Headed) (ns : List (List ℕ)) → filter (λ j. is_queue j.kind) (map (journal fs Queue) ns) ≡ map (journal fs Queue) ns
  only_queues fs [] = refl
  only_queues fs (n ∷ ns) = ap (λ (js : List Journal). journal fs Queue n ∷ js) (only_queues fs ns)

  no_entries : (fs : List Headed) (ns : List (List ℕ)) → entries_of (map (journal fs Queue) ns) ≡ []
  no_entries fs [] = refl
  no_entries fs (n ∷ ns) = no_entries fs ns

  queues_are : (fs : List Headed) (b : Bool) → queues_of (cond b (journal fs Listed [] ∷ []) [] ++ map (journal fs Queue) (queue_names fs)) ≡ map queue_of (map (journal fs Queue) (queue_names fs))
  queues_are fs true = ap (map queue_of) (only_queues fs (queue_names fs))
  queues_are fs false = ap (map queue_of) (only_queues fs (queue_names fs))

  entries_are : (fs : List Headed) (b : Bool) → entries_of (cond b (journal fs Listed [] ∷ []) [] ++ map (journal fs Queue) (queue_names fs)) ≡ cond b (entries_of (journal fs Listed [] ∷ [])) []
  entries_are fs true = refl
  entries_are fs false = no_entries fs (queue_names fs)

  entries_stay : entries_of (journals others) ≡ entries_of (journals all)
  entries_stay =
      entries_are others (list_any (λ f. not (is_queue f.header.kind)) others)
      ∙ ap₂ (λ b (es : List ListEntry). cond b es []) list_stays list_stays_so ∙ sym (entries_are all (list_any (λ f. not (is_queue f.header.kind)) all))

  all_queues_stay : queues_of (journals others) ≡ queues_of (journals all)
  all_queues_stay =
      queues_are others (list_any (λ f. not (is_queue f.header.kind)) others) ∙ ap (λ (ns : List (List ℕ)). map queue_of (map (journal others Queue) ns)) names_stay
      ∙ queues_stay (queue_names all) ∙ sym (queues_are all (list_any (λ f. not (is_queue f.header.kind)) all))

  pub meaning_stays : meaning_of (journals others) ≡ meaning_of (journals all)
  meaning_stays = λ i. record { queues = map (decided (verdict_by (entries_stay i))) (all_queues_stay i); xids = filter_map in_doubt (entries_stay i) }

  -- ---- and that they break no rule

  rules_of : (fs : List Headed) → AllByRecursion (λ f. BreaksNoRule (journal_with all f)) fs → AllByRecursion (λ f. BreaksNoRule (journal_with others f)) fs
  rules_of [] k = tt
  rules_of (f ∷ fs) k = (each_journal BreaksNoRule f.header.kind f.header.name k.0 w.rules, rules_of fs k.1)

  pub rules_stay : AllByRecursion (λ f. BreaksNoRule (journal_with all f)) all → AllByRecursion (λ f. BreaksNoRule (journal_with others f)) others
  rules_stay k = rules_of others (all_but (λ f. BreaksNoRule (journal_with all f)) xs h ys k)

-- ---- the image

all_image : (P : ImageFile → Type 0) (before : Image) (f : ImageFile) (after : Image) → AllByRecursion P (before ++ f ∷ after) → AllByRecursion P before × P f × AllByRecursion P after
all_image P [] f after h = (tt, h.0, h.1)
all_image P (b ∷ before) f after h = let rest = all_image P before f after h.1 in ((h.0, rest.0), rest.1, rest.2)

image_all : (P : ImageFile → Type 0) (before : Image) (f : ImageFile) (after : Image) → AllByRecursion P before → P f → AllByRecursion P after → AllByRecursion P (before ++ f ∷ after)
image_all P [] f after h p k = (p, k)
image_all P (b ∷ before) f after h p k = (h.0, image_all P before f after h.1 p k)

image_both : (P : ImageFile → Type 0) (xs ys : Image) → AllByRecursion P xs → AllByRecursion P ys → AllByRecursion P (xs ++ ys)
image_both P [] ys h k = k
image_both P (x ∷ xs) ys h k = (h.0, image_both P xs ys h.1 k)

image_apart : (P : ImageFile → Type 0) (xs ys : Image) → AllByRecursion P (xs ++ ys) → AllByRecursion P xs × AllByRecursion P ys
image_apart P [] ys h = (tt, h)
image_apart P (x ∷ xs) ys h = let rest = image_apart P xs ys h.1 in ((h.0, rest.0), rest.1)

module _ (before : Image) (f : ImageFile) (part kib : ℕ) (after : Image) where
  abbrev used : Image
  used = with_between before f InUse after

  abbrev back : Image
  back = with_between before f (Empty part kib) after

  in_use_before : in_use used ≡ in_use before ++ record f { place = InUse } ∷ in_use after
  in_use_before = filter-append (λ g. is_in_use g.place) before (record f { place = InUse } ∷ after)

  in_use_behind : in_use back ≡ in_use before ++ in_use after
  in_use_behind = filter-append (λ g. is_in_use g.place) before (record f { place = Empty part kib } ∷ after)

  empties_before : empties used ≡ empties before ++ empties after
  empties_before = filter-append (λ g. not (is_in_use g.place)) before (record f { place = InUse } ∷ after)

  empties_behind : empties back ≡ empties before ++ record f { place = Empty part kib } ∷ empties after
  empties_behind = filter-append (λ g. not (is_in_use g.place)) before (record f { place = Empty part kib } ∷ after)

  pub heads_before : map headed (in_use used) ≡ map headed (in_use before) ++ headed f ∷ map headed (in_use after)
  heads_before = ap (map headed) in_use_before ∙ map-append headed (in_use before) (record f { place = InUse } ∷ in_use after)

  heads_behind : map headed (in_use back) ≡ map headed (in_use before) ++ map headed (in_use after)
  heads_behind = ap (map headed) in_use_behind ∙ map-append headed (in_use before) (in_use after)

  files_stay : FilesBreakNoRule used → is_pool (length f.bytes) (Empty part kib) ≡ true → FilesBreakNoRule back
  files_stay h fits =
      let ids = all_image (λ g. is_counter g.id ≡ true) before (record f { place = InUse }) after h.ids in
      let pools = image_apart (λ g. is_pool (length g.bytes) g.place ≡ true) (empties before) (empties after) (subst (AllByRecursion (λ g. is_pool (length g.bytes) g.place ≡ true)) empties_before h.pools) in
      let headers = all_image (λ g. header_claims g ≡ Ok tt) (in_use before) (record f { place = InUse }) (in_use after) (subst (AllByRecursion (λ g. header_claims g ≡ Ok tt)) in_use_before h.headers) in
      record {
        ids = image_all (λ g. is_counter g.id ≡ true) before (record f { place = Empty part kib }) after ids.0 ids.1 ids.2;
        pools =
            subst (AllByRecursion (λ g. is_pool (length g.bytes) g.place ≡ true)) (sym empties_behind)
            (image_all (λ g. is_pool (length g.bytes) g.place ≡ true) (empties before) (record f { place = Empty part kib }) (empties after) pools.0 fits pools.1);
        headers = subst (AllByRecursion (λ g. header_claims g ≡ Ok tt)) (sym in_use_behind) (image_both (λ g. header_claims g ≡ Ok tt) (in_use before) (in_use after) headers.0 headers.2);
      }

  -- the meaning of an image that keeps all rules is that of its journals
  means : (i : Image) → KeepsAllRules i → meaning i ≡ Ok (meaning_of (journals_of i))
  means i k = ap (λ (r : Result (List Journal) Damage). r >>= λ js. Ok (meaning_of js)) (whole_is_undamaged i k.0 k.1)

  -- it goes back, from the files as they lie in use
  pub goes_back : KeepsAllRules used → GoesFrom (map headed (in_use before)) (headed f) (map headed (in_use after)) → is_pool (length f.bytes) (Empty part kib) ≡ true → KeepsAllRules back × (meaning back ≡ meaning used)
  goes_back k w fits =
      let xs : List Headed = map headed (in_use before) in
      let ys : List Headed = map headed (in_use after) in
      let rules = rules_stay xs (headed f) ys w (subst (λ fs. AllByRecursion (λ g. BreaksNoRule (journal_with fs g)) fs) heads_before k.1) in
      let now : KeepsAllRules back = (files_stay k.0 fits, subst (λ fs. AllByRecursion (λ g. BreaksNoRule (journal_with fs g)) fs) (sym heads_behind) rules) in (
        now,
        means back now
            ∙ ap (λ (S : MachineState). Ok S) (ap (λ fs. meaning_of (journals fs)) heads_behind ∙ meaning_stays xs (headed f) ys w ∙ ap (λ fs. meaning_of (journals fs)) (sym heads_before))
            ∙ sym (means used k),
      )
