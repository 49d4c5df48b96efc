-- The moments of a run from the first on: first come those of the opening, and then those of the lines.
use Rattle.std.proofs.Common.{◌≡◌, List, [], ◌++◌, Option, Some, None, IfSome, Result, Ok, Err, refl, sym, subst}
use Rattle.qls_model.specs.declared.machine.PoolId.{PoolId}
use Rattle.qls_site.specs.Disk.{full}
use Rattle.qls_site.specs.Content.{Moment, Content, Tells, moments_since}
use Rattle.qls_meaning.specs.Damage.{Damage}
use Rattle.qls_meaning.specs.History.{History, now}
use Rattle.qls_meaning.specs.Meaning.{meaning}
use Rattle.qls_pool.specs.Moments.{Passes}
use Rattle.qls_log.specs.Leaving.{LeavesInOrder, WritesInOrder}
use Rattle.qls_log.specs.Unwritten.{history_with}
use Rattle.qls_journals.specs.Moments.{IsStoreStep}
use Rattle.qls_journals.specs.Opening.{OpensWritten}
use Rattle.qls_look.specs.declared.fault.OpenFault.{OpenFault}
use Rattle.qls_store.specs.Opening.{OpensLeaving}
use Rattle.qls_store.specs.Stores.{StoreState}
use Rattle.qls_pool.proofs.Moments.{Passes-of}
use Rattle.qls_top.specs.Moments.{IsRunStep}
use Rattle.qls_top.specs.Running.{AnswersInOrder}
use Rattle.qls_top.specs.Run.{begun_at, WritesClean, LeavesClean, AnswersClean, WritesFilesInOrder, TakesFilesInOrder, KeepsDiscipline}
use Rattle.qls_top.proofs.Beginning.{Opened}
use Rattle.qls_top.proofs.Chains.{unmarked_parts}
use Rattle.qls_top.proofs.Discipline.{writes_then, answers_then, silent_answers, orderly_from}
use Rattle.qls_top.proofs.LineDiscipline.{since_split, now_after, chain_then, silent_chain}
use Rattle.qls_top.proofs.Starting.{Means, not_damaged}

-- ---- the opening alone

-- how an opening writes, whatever it answers
abbrev pub OpensWriting : Result StoreState OpenFault → Content → Content → Type 0
OpensWriting r old new = OpensWritten r (λ s. s.journals) old new

pub opening_writes : (r : Result StoreState OpenFault) (a b : Option Content) → Tells (OpensWriting r) a b → Tells WritesFilesInOrder a b
opening_writes r None None h = tt
opening_writes r None (Some y) h = absurd h
opening_writes r (Some x) None h = absurd h
opening_writes r (Some x) (Some y) h = h.0

-- nothing is answered
opening_answers : (x y : Content) → Passes IsStoreStep x y → AnswersInOrder (begun_at x) (moments_since x y)
opening_answers x y h = silent_answers (begun_at x) (moments_since x y) (silent_chain x y h)

pub opening_keeps : (r : Result StoreState OpenFault) (a b : Option Content) → Tells (Passes IsStoreStep) a b → Tells TakesFilesInOrder a b → Tells (OpensWriting r) a b → Tells OpensLeaving a b → Tells KeepsDiscipline a b
opening_keeps r None None h takes writes leaves = tt
opening_keeps r None (Some y) h takes writes leaves = absurd h
opening_keeps r (Some x) None h takes writes leaves = absurd h
opening_keeps r (Some x) (Some y) h takes writes leaves = λ S is quiet unmarked. orderly_from (begun_at x) (moments_since x y) takes writes.0 (leaves unmarked) (opening_answers x y h)

-- the files are damaged
pub damaged_keeps : (damage : Damage) (a b : Option Content) → IfSome a (Means (Err damage)) → Tells WritesFilesInOrder a b → Tells KeepsDiscipline a b
damaged_keeps damage None None bad told = tt
damaged_keeps damage None (Some y) bad told = absurd told
damaged_keeps damage (Some x) None bad told = absurd told
damaged_keeps damage (Some x) (Some y) bad told = λ S is. not_damaged (meaning (full x.now.disk)) S damage is bad

-- ---- and the lines

module _ (home : PoolId) (s : StoreState) (x y z : Content) (o : Opened home s x y) (written : OpensWriting (Ok s) x y) (k : Passes IsRunStep y z) where
  abbrev seen : History
  seen = history_with (begun_at x) (moments_since x y)

  seen_at : now seen ≡ y.now
  seen_at = now_after IsStoreStep x y (begun_at x) o.opens.arrives refl

  split : moments_since x z ≡ moments_since x y ++ moments_since y z
  split = since_split IsStoreStep IsRunStep x y z o.opens.arrives k

  ran_writing : WritesClean s y z → WritesFilesInOrder x z
  ran_writing writes =
      subst (λ (ms : List Moment). WritesInOrder [] (begun_at x) ms) (sym split)
      (writes_then [] (begun_at x) (moments_since x y) (moments_since y z) written.0 (writes seen seen_at written.1))

  ran_orderly : OpensLeaving x y → TakesFilesInOrder x z → WritesClean s y z → LeavesClean s y z → AnswersClean s y z → KeepsDiscipline x z
  ran_orderly leaving takes writes leaves answers = λ S is quiet unmarked.
      let parts = unmarked_parts IsStoreStep IsRunStep x y z o.opens.arrives k unmarked in
      orderly_from (begun_at x) (moments_since x z) takes (ran_writing writes)
      (chain_then LeavesInOrder IsStoreStep IsRunStep x y z o.opens.arrives k (leaving parts.0) (leaves o.opens.quiet parts.1 (o.opens.clean parts.0)))
      (subst (λ (ms : List Moment). AnswersInOrder (begun_at x) ms) (sym split)
      (answers_then (begun_at x) (moments_since x y) (moments_since y z) (opening_answers x y (Passes-of IsStoreStep x y o.opens.arrives))
      (answers seen seen_at written.1 o.opens.quiet parts.1 (o.opens.clean parts.0))))

pub run_writes : (home : PoolId) (s : StoreState) (a b c : Option Content) → Tells (Opened home s) a b → Tells (OpensWriting (Ok s)) a b → Tells (Passes IsRunStep) b c → Tells (WritesClean s) b c → Tells WritesFilesInOrder a c
run_writes home s None None None o w k v = tt
run_writes home s None None (Some z) o w k v = absurd k
run_writes home s None (Some y) c o w k v = absurd o
run_writes home s (Some x) None c o w k v = absurd o
run_writes home s (Some x) (Some y) None o w k v = absurd k
run_writes home s (Some x) (Some y) (Some z) o w k v = ran_writing home s x y z o w k v

pub run_keeps : (home : PoolId) (s : StoreState) (a b c : Option Content) → Tells (Opened home s) a b → Tells (OpensWriting (Ok s)) a b → Tells OpensLeaving a b → Tells (Passes IsRunStep) b c → Tells TakesFilesInOrder a c → Tells (WritesClean s) b c
    → Tells (LeavesClean s) b c → Tells (AnswersClean s) b c → Tells KeepsDiscipline a c
run_keeps home s None None None o w g k t v l n = tt
run_keeps home s None None (Some z) o w g k t v l n = absurd k
run_keeps home s None (Some y) c o w g k t v l n = absurd o
run_keeps home s (Some x) None c o w g k t v l n = absurd o
run_keeps home s (Some x) (Some y) None o w g k t v l n = absurd k
run_keeps home s (Some x) (Some y) (Some z) o w g k t v l n = ran_orderly home s x y z o w k g t v l n
