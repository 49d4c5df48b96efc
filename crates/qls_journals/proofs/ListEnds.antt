-- Records of the list for which there is no further file: they had one where the call wrote them, and there is none where it stopped.
use Rattle.std.proofs.Common.{◌≡◌, ◌⊎◌, inl, inr, ℕ, Bool, true, false, cond, not, ◌||◌, ◌-◌, ◌^◌, ◌<◌, List, [], ◌∷◌, Option, Some, None, IfSome, Result, Ok, Err, IfOk, IsErr, refl, sym, ap, ◌∙◌, subst, arith}
use Rattle.std.specs.List.{IsDistinct}
use Rattle.qls_record.specs.Record.{Record}
use Rattle.qls_model.specs.Bytes.{same}
use Rattle.qls_site.specs.Disk.{Disk}
use Rattle.qls_site.specs.Content.{Content, Tells, moments_since}
use Rattle.qls_filehdr.specs.declared.JournalKind.TheVariants.{List as Listed}
use Rattle.qls_decide.specs.declared.ListEntry.{ListEntry}
use Rattle.qls_decide.specs.Entries.{without_entry}
use Rattle.qls_meaning.specs.History.{AllUnmarked}
use Rattle.qls_meaning.specs.Journals.{Headed}
use Rattle.qls_meaning.specs.Orderly.{journal_on}
use Rattle.qls_meaning.specs.Spent.{new_journal_meets_end}
use Rattle.qls_blocks.specs.Batching.{length_of, block_length}
use Rattle.qls_pool.specs.Pools.{PoolState}
use Rattle.qls_pool.specs.Files.{IsWholePool, OnDisk}
use Rattle.qls_pool.specs.Moments.{Arrives}
use Rattle.qls_log.specs.declared.fault.LogError.{LogError}
use Rattle.qls_log.specs.declared.fault.LogError.TheVariants as log
use Rattle.qls_log.specs.Logs.{LogState}
use Rattle.qls_log.specs.Steps.{IsLogStep, GoesBy, is_exact as is_exact_log}
use Rattle.qls_pool.specs.Serials.{DrawsTaken}
use Rattle.qls_prepared.specs.Lists.{PreparedState, opening_by, IsOwn, IsOwnLog, ThereBy, WholeBy}
use Rattle.qls_prepared.specs.Records.{without_entries}
use Rattle.qls_prepared.specs.Ends.{Stops, IsAtEnd}
use Rattle.qls_journals.specs.declared.cause.Cause.{Cause}
use Rattle.qls_journals.specs.declared.cause.Cause.TheVariants as cause
use Rattle.qls_journals.specs.Answers.{is_exact}
use Rattle.qls_journals.specs.Ends.{at_end_in, batch_at_end, StopsAtEnd, HadRoom}
use Rattle.qls_journals.specs.Errors.{cause_by}
use Rattle.qls_journals.specs.Homes.{Home, Homes, home_by, home_for, homes_of}
use Rattle.qls_journals.specs.State.{JournalsState, AreJournals, Fits}
use Rattle.qls_journals.proofs.Ending.{HasItsRoom, spent_of_disk, batch_had, batch_ends}
use Rattle.qls_journals.proofs.Others.{store_arrival}
use Rattle.qls_journals.proofs.ListCalls.{own_opening}

-- ---- without a file

-- then the end is that of a new journal
end_without : (homes : Homes) (rs : List Record) (d : Disk) → (journal_on d Listed []).files ≡ [] → batch_at_end homes Listed [] rs d ≡ new_journal_meets_end homes.list.pool d
end_without homes rs d none = ap (λ (fs : List Headed). at_end_in homes.list d (journal_on d Listed []) fs (block_length (length_of rs))) none

-- the list's home is that of its log
home_of : (homes : Homes) (l : LogState) → IsOwnLog l → homes.list ≡ home_for l.opening → home_by l.opening.kind l.opening.name homes ≡ Some (home_for l.opening)
home_of homes l own is = (λ i. home_by (own.kind i) (own.name i) homes) ∙ ap (λ (h : Home). Some h) is

-- ---- where the call wrote

module _ (law : HasItsRoom) (homes : Homes) (rs : List Record) (pool : PoolState) (d : Disk) (whole : IsWholePool pool d) (p : PreparedState) where
  had_by : (log : Option LogState) → homes.list ≡ home_for (opening_by p.home log) → IsOwn log → ThereBy p.home log d → WholeBy log p.entries p.held d → (IsAtEnd (record p { log = log }) rs pool → ⊥) → batch_at_end homes Listed [] rs d ≡ true → ⊥
  had_by None is own there was had e =
      had (spent_of_disk p.home pool d whole (ap (λ (h : Home). new_journal_meets_end h.pool d) (sym is) ∙ sym (end_without homes rs d there) ∙ e))
  had_by (Some l) is own there was had e =
      batch_had homes l own.sound (home_of homes l own is) rs law pool d was.reads there whole was.read (λ some meets. had (some, meets)) ((λ i. batch_at_end homes (own.kind i) (own.name i) rs d) ∙ e)

list_had : (law : HasItsRoom) (s : JournalsState) (all : AreJournals s) (rs : List Record) (x y : Content) → Fits s x.now.disk → (IsAtEnd s.list rs s.pool → ⊥) → HadRoom s Listed [] rs x y
list_had law s all rs x y fits had = λ was. had_by law (homes_of s) rs s.pool x.now.disk fits.pool s.list s.list.log refl all.list.sound.log fits.list was.list had

pub told_had : (law : HasItsRoom) (s : JournalsState) (all : AreJournals s) (rs : List Record) (a b : Option Content) → Tells (Arrives (IsLogStep (own_opening s.list))) a b → IfSome a (OnDisk (Fits s)) → (IsAtEnd s.list rs s.pool → ⊥)
    → Tells (HadRoom s Listed [] rs) a b
told_had law s all rs None None went fits had = tt
told_had law s all rs None (Some y) went fits had = absurd went
told_had law s all rs (Some x) None went fits had = absurd went
told_had law s all rs (Some x) (Some y) went fits had = list_had law s all rs x y fits had

-- ---- where the call stopped

stops_by : (homes : Homes) (rs : List Record) (p : PreparedState) (x y : Content) → AllUnmarked x.now (moments_since x y) → (log : Option LogState) → homes.list ≡ home_for (opening_by p.home log) → Arrives (IsLogStep (opening_by p.home log)) x y
    → IsOwn log → ThereBy p.home log x.now.disk → WholeBy log p.entries p.held x.now.disk → Stops (record p { log = log }) rs x y → batch_at_end homes Listed [] rs y.now.disk ≡ true
stops_by homes rs p x y unmarked None is went own there was stops =
    end_without homes rs y.now.disk (ap (λ (c : Content). (journal_on c.now.disk Listed []).files) stops.0 ∙ there) ∙ ap (λ (h : Home). new_journal_meets_end h.pool y.now.disk) is ∙ stops.1
stops_by homes rs p x y unmarked (Some l) is went own there was stops =
    sym (λ i. batch_at_end homes (own.kind i) (own.name i) rs y.now.disk) ∙ batch_ends homes l own.sound (home_of homes l own is) rs x y was.reads went stops.stays there stops.room unmarked was.read stops.ends

stops_at_end : (s : JournalsState) (all : AreJournals s) (rs : List Record) (x y : Content) → Fits s x.now.disk → Arrives (IsLogStep (own_opening s.list)) x y → Stops s.list rs x y → StopsAtEnd s Listed [] rs x y
stops_at_end s all rs x y fits went stops = record {
  arrives = store_arrival (own_opening s.list) x y went;
  meets = λ unmarked was. stops_by (homes_of s) rs s.list x y unmarked s.list.log refl went all.list.sound.log fits.list was.list stops;
}

pub list_stops : (s : JournalsState) (all : AreJournals s) (rs : List Record) (f : LogError) (a b : Option Content) → f ≡ log.Spent → IfSome a (OnDisk (Fits s)) → Tells (GoesBy {X = Unit {0}} (IsLogStep (own_opening s.list)) (Err f)) a b
    → Tells (Stops s.list rs) a b → Tells (StopsAtEnd s Listed [] rs) a b
list_stops s all rs f a b e fits went stops = by a b fits (subst (λ g. Tells (GoesBy {X = Unit {0}} (IsLogStep (own_opening s.list)) (Err g)) a b) e went) stops
  where
    by : (a b : Option Content) → IfSome a (OnDisk (Fits s)) → Tells (Arrives (IsLogStep (own_opening s.list))) a b → Tells (Stops s.list rs) a b → Tells (StopsAtEnd s Listed [] rs) a b
    by None None fits went stops = tt
    by None (Some y) fits went stops = absurd went
    by (Some x) None fits went stops = absurd went
    by (Some x) (Some y) fits went stops = stops_at_end s all rs x y fits went stops

-- where the last record id may be the reason too
pub list_stops_or : {L : Type 0} (s : JournalsState) (all : AreJournals s) (rs : List Record) (f : LogError) (a b : Option Content) → f ≡ log.Spent → IfSome a (OnDisk (Fits s)) → Tells (GoesBy {X = Unit {0}} (IsLogStep (own_opening s.list)) (Err f)) a b
    → L ⊎ Tells (Stops s.list rs) a b → L ⊎ Tells (StopsAtEnd s Listed [] rs) a b
list_stops_or s all rs f a b e fits went (inl last) = inl last
list_stops_or s all rs f a b e fits went (inr stops) = inr (list_stops s all rs f a b e fits went stops)

-- ---- answers

-- the cause is Spent where the log's error is
log_spent : (f : LogError) → cause_by f ≡ cause.Spent → f ≡ log.Spent
log_spent log.Failed e = absurd (cc)
log_spent log.Draw e = absurd (cc)
log_spent log.Spent e = refl
log_spent log.Memory e = absurd (cc)

pub spent_error : {Y : Type 0} (f : LogError) (x : Cause) → x ≡ cause_by f → ◌≡◌ {A = Result Y Cause} (Err x) (Err cause.Spent) → f ≡ log.Spent
spent_error {Y} f x is e = log_spent f (sym is ∙ err_is e)
  where
    err_is : ◌≡◌ {A = Result Y Cause} (Err x) (Err cause.Spent) → x ≡ cause.Spent
    err_is e = cc

-- what was drawn, by the cause
drawn_by : (X Y : Type 0) (f : LogError) (a b : Option Content) (x y : Option (List ℕ)) → DrawsTaken (is_exact_log {X = X} (Err f)) a b x y → DrawsTaken (is_exact {X = Y} (Err (cause_by f))) a b x y
drawn_by X Y log.Failed a b x y d = d
drawn_by X Y log.Draw a b x y d = d
drawn_by X Y log.Spent a b x y d = d
drawn_by X Y log.Memory a b x y d = d

pub list_drawn : (X Y : Type 0) (f : LogError) (k : Cause) (a b : Option Content) (x y : Option (List ℕ)) → k ≡ cause_by f → DrawsTaken (is_exact_log {X = X} (Err f)) a b x y → DrawsTaken (is_exact {X = Y} (Err k)) a b x y
list_drawn X Y f k a b x y e d = subst (λ c. DrawsTaken (is_exact {X = Y} (Err c)) a b x y) (sym e) (drawn_by X Y f a b x y d)

-- a call that answered Ok wasn't at the end
ok_err : {X : Type 0} (v : X) (f : LogError) → ◌≡◌ {A = Result X LogError} (Ok v) (Err f) → ⊥
ok_err v f e = cc

pub ok_had : {X : Type 0} (v : X) → (◌≡◌ {A = Result X LogError} (Ok v) (Err log.Spent)) ⊎ (◌≡◌ {A = Result X LogError} (Ok v) (Err log.Memory)) → ⊥
ok_had v (inl e) = ok_err v log.Spent e
ok_had v (inr e) = ok_err v log.Memory e

-- nor was the last record id in force
pub ok_before_last : {X : Type 0} (v : X) (n : ℕ) → n < 2 ^ 62 → (n ≡ 2 ^ 62 - 1 → ◌≡◌ {A = Result X LogError} (Ok v) (Err log.Spent)) → n < 2 ^ 62 - 1
ok_before_last v n h last = let ne : n ≡ 2 ^ 62 - 1 → ⊥ = λ e. ok_err v log.Spent (last e) in omega (arith, h, ne)

-- ---- records by the entry that there is

pub had_some : (o : Option ListEntry) (P Q : ListEntry → Type 0) → (IfSome o P → ⊥) → ((e : ListEntry) → (P e → ⊥) → Q e) → IfSome o Q
had_some None P Q none by = tt
had_some (Some e) P Q none by = by e none

pub some_by : (o : Option ListEntry) (P Q : ListEntry → Type 0) → IfSome o P → ((e : ListEntry) → P e → Q e) → IfSome o Q
some_by None P Q h by = tt
some_by (Some e) P Q h by = by e h

-- ---- the end of one transaction

or_false : (b : Bool) → (b || false) ≡ b
or_false true = refl
or_false false = refl

without_one : (x : List ℕ) (es : List ListEntry) → without_entries (x ∷ []) es ≡ without_entry x es
without_one x [] = refl
without_one x (e ∷ es) = λ i. cond (not (or_false (same e.xid x) i)) (e ∷ without_one x es i) (without_one x es i)

pub ends_one : (r : Result JournalsState Cause) (x : List ℕ) (xs : List (List ℕ)) (es : List ListEntry) → xs ≡ x ∷ [] → IfOk r (λ s. s.list.entries ≡ without_entries xs es) → IfOk r (λ s. s.list.entries ≡ without_entry x es)
ends_one (Ok s) x xs es one h = h ∙ ap (λ ys. without_entries ys es) one ∙ without_one x es
ends_one (Err e) x xs es one h = tt

pub one_is_distinct : (x : List ℕ) (xs : List (List ℕ)) → xs ≡ x ∷ [] → IsDistinct same xs
unfolding IsDistinct
one_is_distinct x xs e = subst (IsDistinct same) (sym e) (tt, tt)

pub not_ok : {X E : Type 0} (P : X → Type 0) (r : Result X E) → IsErr r → IfOk r P
not_ok {X} {E} P (Ok x) e = absurd (none x e)
  where
    none : (x : X) → IsErr {T = X} {E = E} (Ok x) → ⊥
    none x e = cc
not_ok P (Err f) e = tt
