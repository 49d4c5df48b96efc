-- The batches of a transaction's end: each takes one block, and what one of them lacks, they all together lack.
use Rattle.std.proofs.Common.{◌≡◌, ◌⊎◌, inl, inr, ℕ, zero, suc, ◌+◌, ◌-◌, ◌^◌, ◌==◌, Bool, true, false, List, [], ◌∷◌, ◌++◌, length, Option, Some, None, Result, Ok, Err, IfOk, IfSome, refl, sym, ap, ◌∙◌, subst, arith}
use Rattle.std.proofs.lemmas.Bool.Decides.{nat_tests}
use Rattle.std.specs.List.{AllByRecursion, slice_get}
use Rattle.qls_shape.specs.declared.Version.TheVariants.{Two}
use Rattle.qls_record.specs.Record.{Record, record_length}
use Rattle.qls_site.specs.Disk.{Disk}
use Rattle.qls_site.specs.Content.{Content, Tells}
use Rattle.qls_site.proofs.Told.{Tells-then, Tells-weaken}
use Rattle.qls_filehdr.specs.declared.JournalKind.{JournalKind}
use Rattle.qls_filehdr.specs.declared.JournalKind.TheVariants as journal
use Rattle.qls_meaning.specs.Orderly.{journal_on}
use Rattle.qls_meaning.specs.Spent.{list_rid}
use Rattle.qls_blocks.specs.Batching.{length_of, block_length}
use Rattle.qls_decide.specs.declared.End.{End}
use Rattle.qls_pool.specs.Files.{OnDisk}
use Rattle.qls_pool.specs.Moments.{Passes}
use Rattle.qls_pool.proofs.Moments.{Arrives-then, Arrives-same, Passes-of}
use Rattle.qls_queue.specs.Records.{IsXid, end_record, end_records}
use Rattle.qls_queue.proofs.Then.{unmarked_front, unmarked_rest}
use Rattle.qls_prepared.specs.Lists.{rid_of}
use Rattle.qls_prepared.specs.Records.{decision_of, end_of, one_phase_records}
use Rattle.qls_journals.specs.declared.cause.Cause.{Cause}
use Rattle.qls_journals.specs.declared.cause.Cause.TheVariants.{Spent}
use Rattle.qls_journals.specs.Ends.{at_end_by, at_end_for, StopsAtEnd, HadRoom}
use Rattle.qls_journals.specs.Homes.{Home, Homes, homes_of, SameHomes}
use Rattle.qls_journals.specs.Moments.{IsStoreStep, Changes}
use Rattle.qls_journals.specs.State.{JournalsState, Fits, IsWhole}
use Rattle.qls_store.specs.Ends.{Need, list_need}
use Rattle.qls_store.specs.Calls.{NeedsOne, NeedsOneRid, StopsInOne, HadFirst}
use Rattle.qls_store.proofs.Together.{home_same}

-- ---- sizes

end_size : (commit : Bool) (last : ℕ) (x : List ℕ) → IsXid x → block_length (record_length Two (end_record last (record { xid = x; commit = commit })) + 0) ≡ 4096
end_size true last x h = omega (arith, h.0, h.1)
end_size false last x h = omega (arith, h.0, h.1)

-- one end
pub ends_size : (last : ℕ) (es : List End) → length es ≡ 1 → AllByRecursion (λ e. IsXid e.xid) es → block_length (length_of (end_records last es)) ≡ 4096
ends_size last [] one h = absurd (omega (arith, one))
ends_size last (e ∷ []) one h = end_size e.commit last e.xid h.0
ends_size last (e ∷ f ∷ es) one h = absurd (omega (arith, one))

pub one_phase_size : (rid : ℕ) (x : List ℕ) → IsXid x → block_length (length_of (one_phase_records rid x)) ≡ 4096
one_phase_size rid x h = omega (arith, h.0, h.1)

pub decision_size : (rid target : ℕ) (x : List ℕ) (commit : Bool) → IsXid x → block_length (length_of (decision_of rid target x commit ∷ [])) ≡ 4096
decision_size rid target x commit h = omega (arith, h.0, h.1)

pub end_of_size : (rid : ℕ) (x : List ℕ) → IsXid x → block_length (length_of (end_of rid x ∷ [])) ≡ 4096
end_of_size rid x h = omega (arith, h.0, h.1)

-- ---- one batch

module _ (was : JournalsState) (kind : JournalKind) (name : List ℕ) (rs : List Record) (size : block_length (length_of rs) ≡ 4096) where
  abbrev need : Need
  need = record { kind = kind; name = name; bytes = 4096 }

  of_size : (d : Disk) → at_end_for (homes_of was) kind name (block_length (length_of rs)) d ≡ true → at_end_for (homes_of was) kind name 4096 d ≡ true
  of_size d e = subst (λ n. at_end_for (homes_of was) kind name n d ≡ true) size e

  to_size : (d : Disk) → at_end_for (homes_of was) kind name 4096 d ≡ true → at_end_for (homes_of was) kind name (block_length (length_of rs)) d ≡ true
  to_size d e = subst (λ n. at_end_for (homes_of was) kind name n d ≡ true) (sym size) e

  stops_one : (raises : Bool) (a b : Content) → StopsAtEnd was kind name rs a b → StopsInOne was raises (need ∷ []) a b
  stops_one raises a b h = record { arrives = h.arrives; meets = λ u w. inr (record { at = 0; need = need; there = refl; spent = of_size b.now.disk (h.meets u w) }) }

  pub told_stops_one : (raises : Bool) (a b : Option Content) → Tells (StopsAtEnd was kind name rs) a b → Tells (StopsInOne was raises (need ∷ [])) a b
  told_stops_one raises a b h = Tells-weaken (StopsAtEnd was kind name rs) (StopsInOne was raises (need ∷ [])) a b h (stops_one raises)

  had_one : (raises : Bool) (a b : Content) → (NeedsOneRid raises a.now.disk → IsWhole was a.now.disk → ⊥) → HadRoom was kind name rs a b → HadFirst was raises (need ∷ []) a b
  had_one raises a b r h w (inl n) = r n w
  had_one raises a b r h w (inr e) = h w (to_size a.now.disk e)

  not_raised : (d : Disk) → NeedsOneRid false d → IsWhole was d → ⊥
  not_raised d n w = absurd (false_true n.raised)
    where
      false_true : false ≡ true → ⊥
      false_true e = cc

  pub told_had_one : (a b : Option Content) → Tells (HadRoom was kind name rs) a b → Tells (HadFirst was false (need ∷ [])) a b
  told_had_one a b h = Tells-weaken (HadRoom was kind name rs) (HadFirst was false (need ∷ [])) a b h (λ x y k. had_one false x y (not_raised x.now.disk) k)

  pub ok_had_one : {X : Type 0} (r : Result X Cause) (a b : Option Content) → IfOk r (λ _. Tells (HadRoom was kind name rs) a b) → IfOk r (λ _. Tells (HadFirst was false (need ∷ [])) a b)
  ok_had_one (Ok x) a b h = told_had_one a b h
  ok_had_one (Err e) a b h = tt

-- ---- a record id

not_spent : {X : Type 0} (x : X) → ◌≡◌ {A = Result X Cause} (Ok x) (Err Spent) → ⊥
not_spent x e = cc

is_last : (n : ℕ) → (n == 2 ^ 62 - 1) ≡ true → n ≡ 2 ^ 62 - 1
is_last n e = grind (arith, nat_tests)

meets_last : (n : ℕ) → n ≡ 2 ^ 62 - 1 → (n == 2 ^ 62 - 1) ≡ true
meets_last n e = grind (arith, nat_tests)

abbrev pub RidIs : JournalsState → Type 0
RidIs was = (d : Disk) → Fits was d → IsWhole was d → list_rid d ≡ rid_of was.list

pub ok_had_rid : (was : JournalsState) (rs : List Record) → block_length (length_of rs) ≡ 4096 → RidIs was → (r : Result JournalsState Cause) (a b : Option Content) → IfSome a (OnDisk (Fits was)) → (rid_of was.list ≡ 2 ^ 62 - 1 → r ≡ Err Spent)
    → IfOk r (λ _. Tells (HadRoom was journal.List [] rs) a b) → IfOk r (λ _. Tells (HadFirst was true (list_need ∷ [])) a b)
ok_had_rid was rs size law (Ok s) None None f last h = tt
ok_had_rid was rs size law (Ok s) None (Some b) f last h = absurd h
ok_had_rid was rs size law (Ok s) (Some a) None f last h = absurd h
ok_had_rid was rs size law (Ok s) (Some a) (Some b) f last h =
    had_one was journal.List [] rs size true a b (λ n w. not_spent s (last (sym (law a.now.disk f w) ∙ is_last (list_rid a.now.disk) n.spent))) h
ok_had_rid was rs size law (Err e) a b f last h = tt

-- where the last record id is given, no call was made
rid_stops : (was : JournalsState) → RidIs was → (a : Option Content) → IfSome a (OnDisk (Fits was)) → rid_of was.list ≡ 2 ^ 62 - 1 → Tells (StopsInOne was true (list_need ∷ [])) a a
rid_stops was law None f e = tt
rid_stops was law (Some a) f e = record {
  arrives = Arrives-same IsStoreStep a a refl;
  meets = λ u w. inl (record { raised = refl; spent = meets_last (list_rid a.now.disk) (law a.now.disk f w ∙ e) });
}

pub stops_rid : (was : JournalsState) (rs : List Record) → block_length (length_of rs) ≡ 4096 → RidIs was → (a b : Option Content) → IfSome a (OnDisk (Fits was)) → (rid_of was.list ≡ 2 ^ 62 - 1 → b ≡ a)
    → (rid_of was.list ≡ 2 ^ 62 - 1) ⊎ Tells (StopsAtEnd was journal.List [] rs) a b → Tells (StopsInOne was true (list_need ∷ [])) a b
stops_rid was rs size law a b f last (inl e) = subst (λ (c : Option Content). Tells (StopsInOne was true (list_need ∷ [])) a c) (sym (last e)) (rid_stops was law a f e)
stops_rid was rs size law a b f last (inr h) = told_stops_one was journal.List [] rs size true a b h

-- ---- several batches

get_front : {A : Type 0} (xs ys : List A) (i : ℕ) (x : A) → slice_get xs i ≡ Some x → slice_get (xs ++ ys) i ≡ Some x
get_front [] ys i x e = absurd (cc)
get_front (y ∷ xs) ys zero x e = e
get_front (y ∷ xs) ys (suc i) x e = get_front xs ys i x e

get_behind : {A : Type 0} (xs ys : List A) (i : ℕ) → (j : ℕ) × (slice_get (xs ++ ys) j ≡ slice_get ys i)
get_behind [] ys i = (i, refl)
get_behind (x ∷ xs) ys i = let h = get_behind xs ys i in (suc h.0, h.1)

-- the room for a batch depends on its journal's home alone
pub at_end_same : (h k : Homes) → SameHomes h k → (kind : JournalKind) (name : List ℕ) (needed : ℕ) (d : Disk) → at_end_for h kind name needed d ≡ at_end_for k kind name needed d
at_end_same h k s kind name needed d = ap (λ (o : Option Home). at_end_by o d (journal_on d kind name) needed) (home_same h k s kind name)

abbrev pub Lacks : JournalsState → Bool → List Need → Disk → Type 0
Lacks was raises needs d = NeedsOneRid raises d ⊎ NeedsOne (homes_of was) needs d

lacks_front : (was : JournalsState) (raises : Bool) (xs ys : List Need) (d : Disk) → Lacks was raises xs d → Lacks was raises (xs ++ ys) d
lacks_front was raises xs ys d (inl n) = inl n
lacks_front was raises xs ys d (inr n) = inr (record { at = n.at; need = n.need; there = get_front xs ys n.at n.need n.there; spent = n.spent })

pub stops_front : (was : JournalsState) (raises : Bool) (xs ys : List Need) (a b : Option Content) → Tells (StopsInOne was raises xs) a b → Tells (StopsInOne was raises (xs ++ ys)) a b
stops_front was raises xs ys a b h =
    Tells-weaken (StopsInOne was raises xs) (StopsInOne was raises (xs ++ ys)) a b h (λ x y k. record { arrives = k.arrives; meets = λ u w. lacks_front was raises xs ys y.now.disk (k.meets u w) })

lacks_behind : (was mid : JournalsState) → SameHomes (homes_of mid) (homes_of was) → (raises : Bool) (xs ys : List Need) (d : Disk) → Lacks mid false ys d → Lacks was raises (xs ++ ys) d
lacks_behind was mid e raises xs ys d (inl n) = absurd (false_true n.raised)
  where
    false_true : false ≡ true → ⊥
    false_true e = cc
lacks_behind was mid e raises xs ys d (inr n) =
    let j = get_behind xs ys n.at in
    inr (record { at = j.0; need = n.need; there = j.1 ∙ n.there; spent = sym (at_end_same (homes_of mid) (homes_of was) e n.need.kind n.need.name n.need.bytes d) ∙ n.spent })

-- the first calls went well, and a later one stopped
stops_behind : (was mid : JournalsState) → SameHomes (homes_of mid) (homes_of was) → (raises : Bool) (xs ys : List Need) (a b c : Content) → Changes was mid a b → StopsInOne mid false ys b c → StopsInOne was raises (xs ++ ys) a c
stops_behind was mid e raises xs ys a b c h k = record {
  arrives = Arrives-then IsStoreStep a b c h.arrives k.arrives;
  meets = λ u w. lacks_behind was mid e raises xs ys c.now.disk
      (k.meets (unmarked_rest IsStoreStep IsStoreStep a b c h.arrives (Passes-of IsStoreStep b c k.arrives) u)
      (h.whole (unmarked_front IsStoreStep IsStoreStep a b c (Passes-of IsStoreStep a b h.arrives) (Passes-of IsStoreStep b c k.arrives) u) w));
}

pub told_stops_behind : (was mid : JournalsState) → SameHomes (homes_of mid) (homes_of was) → (raises : Bool) (xs ys : List Need) (a b c : Option Content) → Tells (Changes was mid) a b → Tells (StopsInOne mid false ys) b c
    → Tells (StopsInOne was raises (xs ++ ys)) a c
told_stops_behind was mid e raises xs ys a b c h k = Tells-then (Changes was mid) (StopsInOne mid false ys) (StopsInOne was raises (xs ++ ys)) a b c h k (stops_behind was mid e raises xs ys)

only_one : (n m : Need) (at : ℕ) → slice_get (n ∷ []) at ≡ Some m → n ≡ m
only_one n m zero e = same e
  where
    same : Some n ≡ Some m → n ≡ m
    same e = cc
only_one n m (suc at) e = absurd (cc)

lacks_one : (was mid : JournalsState) → SameHomes (homes_of mid) (homes_of was) → (raises : Bool) (n : Need) (needs : List Need) (i : ℕ) → slice_get needs i ≡ Some n → (d : Disk) → Lacks mid false (n ∷ []) d → Lacks was raises needs d
lacks_one was mid e raises n needs i there d (inl k) = absurd (false_true k.raised)
  where
    false_true : false ≡ true → ⊥
    false_true e = cc
lacks_one was mid e raises n needs i there d (inr k) =
    inr (record { at = i; need = k.need; there = there ∙ ap (λ (m : Need). Some m) (only_one n k.need k.at k.there); spent = sym (at_end_same (homes_of mid) (homes_of was) e k.need.kind k.need.name k.need.bytes d) ∙ k.spent })

stops_at : (was mid : JournalsState) → SameHomes (homes_of mid) (homes_of was) → (raises : Bool) (n : Need) (needs : List Need) (i : ℕ) → slice_get needs i ≡ Some n → (a b c : Content) → Changes was mid a b → StopsInOne mid false (n ∷ []) b c → StopsInOne was raises needs a c
stops_at was mid e raises n needs i there a b c h k = record {
  arrives = Arrives-then IsStoreStep a b c h.arrives k.arrives;
  meets = λ u w. lacks_one was mid e raises n needs i there c.now.disk
      (k.meets (unmarked_rest IsStoreStep IsStoreStep a b c h.arrives (Passes-of IsStoreStep b c k.arrives) u)
      (h.whole (unmarked_front IsStoreStep IsStoreStep a b c (Passes-of IsStoreStep a b h.arrives) (Passes-of IsStoreStep b c k.arrives) u) w));
}

-- one of the batches, at its place
pub stops_from : (was mid : JournalsState) → SameHomes (homes_of mid) (homes_of was) → (raises : Bool) (n : Need) (needs : List Need) (i : ℕ) → slice_get needs i ≡ Some n → (a b c : Option Content) → Tells (Changes was mid) a b → Tells (StopsInOne mid false (n ∷ [])) b c
    → Tells (StopsInOne was raises needs) a c
stops_from was mid e raises n needs i there a b c h k = Tells-then (Changes was mid) (StopsInOne mid false (n ∷ [])) (StopsInOne was raises needs) a b c h k (stops_at was mid e raises n needs i there)

-- what was before the first call was before all of them
pub had_later : (was : JournalsState) (raises : Bool) (needs : List Need) (R : Content → Content → Type 0) (a b c : Option Content) → Tells (HadFirst was raises needs) a b → Tells R b c → Tells (HadFirst was raises needs) a c
had_later was raises needs R a b c h k = Tells-then (HadFirst was raises needs) R (HadFirst was raises needs) a b c h k (λ x y z m n. m)

pub ok_had_later : {X : Type 0} (was : JournalsState) (raises : Bool) (needs : List Need) (R : Content → Content → Type 0) (r : Result X Cause) (a b c : Option Content) → Tells (HadFirst was raises needs) a b → Tells R b c
    → IfOk r (λ _. Tells (HadFirst was raises needs) a c)
ok_had_later was raises needs R (Ok x) a b c h k = had_later was raises needs R a b c h k
ok_had_later was raises needs R (Err e) a b c h k = tt

-- without a batch there is nothing to have
pub had_none : (was : JournalsState) (a b : Option Content) → Tells (Passes IsStoreStep) a b → Tells (HadFirst was false []) a b
had_none was a b h = Tells-weaken (Passes IsStoreStep) (HadFirst was false []) a b h (λ x y k w n. none n)
  where
    none : {d : Disk} → NeedsOneRid false d ⊎ ⊥ → ⊥
    none (inl n) = absurd (false_true n.raised)
      where
        false_true : false ≡ true → ⊥
        false_true e = cc
    none (inr e) = e
