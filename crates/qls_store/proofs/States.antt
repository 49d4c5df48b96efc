-- A machine's state that is built up from a store's tables: each queue and each transaction comes behind those that are there.
use Rattle.std.proofs.Common.{◌≡◌, ℕ, zero, suc, ◌+◌, ◌<◌, true, false, cond, List, [], ◌∷◌, ◌++◌, map, length, take, get_or, Some, None, option_map, refl, ap, sym, ◌∙◌, add-one}
use Rattle.std.specs.List.{AllByRecursion, slice_get}
use Rattle.std.proofs.lemmas.Option.{slice_get-map, slice_get_read}
use Rattle.qls_model.specs.Bytes.{same, comes_before}
use Rattle.qls_model.specs.Machine.{XidState, queue_named, xid_named, with_queue, with_xid}
use Rattle.qls_model.specs.Sound.{IsNumbered}
use Rattle.qls_model.specs.declared.machine.QueueState.{QueueState}
use Rattle.qls_queue.specs.Live.{LiveState}
use Rattle.qls_journals.specs.State.{NamesRise, names_of}
use Rattle.qls_store.specs.Stores.{TransactionState, XidsRise, xids_of}
use Rattle.qls_store.specs.Table.{Rises}
use Rattle.qls_store.proofs.Keys.{AllBefore, Lacks, all_at, all_weaken, before_differs, not_before, none_keyed}
use Rattle.qls_store.proofs.Machines.{entry_of}

-- ---- lists in order of a key

some_is : {A : Type 0} {a b : A} → Some a ≡ Some b → a ≡ b
some_is e = cc

module _ {A : Type 0} (key : A → List ℕ) where
  before_next : (xs : List A) (i : ℕ) (x : A) → Rises key xs → slice_get xs i ≡ Some x → AllBefore key (key x) (take i xs)
  before_next [] i x r e = absurd (cc)
  before_next (y ∷ xs) zero x r e = tt
  before_next (y ∷ xs) (suc i) x r e = (all_at (λ a. comes_before (key y) (key a) ≡ true) xs i x r.0 e, before_next xs i x r.1 e)

  lacks_next : (xs : List A) (i : ℕ) (x : A) → Rises key xs → slice_get xs i ≡ Some x → Lacks key (key x) (take i xs)
  lacks_next xs i x r e =
      all_weaken (λ a. comes_before (key a) (key x) ≡ true) (λ a. same (key a) (key x) ≡ false) (λ a h. before_differs (key a) (key x) h) (take i xs) (before_next xs i x r e)

take_suc : {A : Type 0} (xs : List A) (i : ℕ) (x : A) → slice_get xs i ≡ Some x → take i xs ++ x ∷ [] ≡ take (suc i) xs
take_suc [] i x e = absurd (cc)
take_suc {A} (y ∷ xs) zero x e = ap (λ (z : A). z ∷ []) (sym (some_is e))
take_suc {A} (y ∷ xs) (suc i) x e = ap (λ (us : List A). y ∷ us) (take_suc xs i x e)

take_next : {A : Type 0} (xs : List A) (i : ℕ) (x : A) → slice_get xs i ≡ Some x → take i xs ++ x ∷ [] ≡ take (i + 1) xs
take_next xs i x e = take_suc xs i x e ∙ ap (λ n. take n xs) (sym (add-one i))

-- ---- queues

abbrev pub name_of : QueueState → List ℕ
name_of q = q.name

names_behind : (name : List ℕ) (qs : List LiveState) → AllByRecursion (λ m. comes_before name m ≡ true) (names_of qs) → AllByRecursion (λ q. comes_before name (name_of q) ≡ true) (map (λ q. q.queue) qs)
names_behind name [] h = tt
names_behind name (q ∷ qs) h = (h.0, names_behind name qs h.1)

pub rises_by : (qs : List LiveState) → NamesRise (names_of qs) → Rises name_of (map (λ q. q.queue) qs)
rises_by [] h = tt
rises_by (q ∷ qs) h = (names_behind q.queue.name qs h.0, rises_by qs h.1)

queue_behind : (q : QueueState) (rs : List QueueState) → AllBefore name_of q.name rs → with_queue q rs ≡ rs ++ q ∷ []
queue_behind q [] h = refl
queue_behind q (r ∷ rs) h = ap (λ b. cond b (q ∷ r ∷ rs) (r ∷ with_queue q rs)) (not_before q.name r.name h.0) ∙ ap (λ (us : List QueueState). r ∷ us) (queue_behind q rs h.1)

module _ (qs : List LiveState) (rising : NamesRise (names_of qs)) (i : ℕ) (q : QueueState) (there : slice_get (map (λ q. q.queue) qs) i ≡ Some q) where
  pub queue_absent : queue_named q.name (take i (map (λ q. q.queue) qs)) ≡ None
  queue_absent = none_keyed name_of q.name (take i (map (λ q. q.queue) qs)) (lacks_next name_of (map (λ q. q.queue) qs) i q (rises_by qs rising) there)

  pub queue_added : with_queue q (take i (map (λ q. q.queue) qs)) ≡ take (i + 1) (map (λ q. q.queue) qs)
  queue_added = queue_behind q (take i (map (λ q. q.queue) qs)) (before_next name_of (map (λ q. q.queue) qs) i q (rises_by qs rising) there) ∙ take_next (map (λ q. q.queue) qs) i q there

  pub queue_numbered : AllByRecursion IsNumbered (map (λ q. q.queue) qs) → IsNumbered q
  queue_numbered h = all_at IsNumbered (map (λ q. q.queue) qs) i q h there

-- ---- transactions

abbrev pub key_of : XidState → List ℕ
key_of e = e.xid

xids_behind : (x : List ℕ) (ts : List TransactionState) → AllByRecursion (λ t. comes_before x t.xid ≡ true) ts → AllByRecursion (λ e. comes_before x (key_of e) ≡ true) (xids_of ts)
xids_behind x [] h = tt
xids_behind x (t ∷ ts) h = (h.0, xids_behind x ts h.1)

xids_by : (ts : List TransactionState) → XidsRise ts → Rises key_of (xids_of ts)
xids_by [] h = tt
xids_by (t ∷ ts) h = (xids_behind t.xid ts h.0, xids_by ts h.1)

xid_behind : (e : XidState) (xs : List XidState) → AllBefore key_of e.xid xs → with_xid e xs ≡ xs ++ e ∷ []
xid_behind e [] h = refl
xid_behind e (f ∷ xs) h = ap (λ b. cond b (e ∷ f ∷ xs) (f ∷ with_xid e xs)) (not_before e.xid f.xid h.0) ∙ ap (λ (us : List XidState). f ∷ us) (xid_behind e xs h.1)

module _ (ts : List TransactionState) (rising : XidsRise ts) (i : ℕ) (t : TransactionState) (within : i < length ts) (is : t ≡ get_or ts i t) where
  there : slice_get (xids_of ts) i ≡ Some (entry_of t)
  there = slice_get-map entry_of ts i ∙ ap (option_map entry_of) (slice_get_read ts (length ts) i t refl within is)

  pub xid_absent : xid_named t.xid (take i (xids_of ts)) ≡ None
  xid_absent = none_keyed key_of t.xid (take i (xids_of ts)) (lacks_next key_of (xids_of ts) i (entry_of t) (xids_by ts rising) there)

  pub xid_added : with_xid (entry_of t) (take i (xids_of ts)) ≡ take (i + 1) (xids_of ts)
  xid_added = xid_behind (entry_of t) (take i (xids_of ts)) (before_next key_of (xids_of ts) i (entry_of t) (xids_by ts rising) there) ∙ take_next (xids_of ts) i (entry_of t) there
