-- A queue that is put in at its place by name: the queues stay in order, and each name finds what it found.
use Rattle.std.proofs.Common.{◌≡◌, ℕ, zero, suc, Bool, true, false, cond, List, [], ◌∷◌, map, take, drop, Option, Some, refl, sym, ap, ◌∙◌}
use Rattle.std.specs.List.{AllByRecursion, insert}
use Rattle.std.specs.Ordering.{nat_cmp, is_lt, ordering_reverse}
use Rattle.std.specs.Cmp.Lexicographic.{slice_cmp}
use Rattle.std.proofs.lemmas.Cmp.{nat_list_cmp_total}
use Rattle.qls_model.specs.Bytes.{same, comes_before}
use Rattle.qls_model.specs.Machine.{with_queue}
use Rattle.qls_model.proofs.XidKeys.{same_true, same_self}
use Rattle.qls_laws.proofs.EntryOrder.{is_less}
use Rattle.qls_queue.specs.Live.{LiveState}
use Rattle.qls_journals.specs.State.{queue_held, names_of, NamesRise}
use Rattle.qls_journals.proofs.Names.{Before, AllBefore, AllBehind, Lacks, held_of}

pub all_insert : (P : LiveState → Type 0) (qs : List LiveState) (at : ℕ) (q : LiveState) → P q → AllByRecursion P qs → AllByRecursion P (insert qs at q)
all_insert P [] zero q new h = (new, tt)
all_insert P [] (suc at) q new h = (new, tt)
all_insert P (p ∷ qs) zero q new h = (new, h)
all_insert P (p ∷ qs) (suc at) q new h = (h.0, all_insert P qs at q new h.1)

pub to_names : (P : List ℕ → Type 0) (qs : List LiveState) → AllByRecursion (λ q. P q.queue.name) qs → AllByRecursion P (names_of qs)
to_names P [] h = tt
to_names P (q ∷ qs) h = (h.0, to_names P qs h.1)

pub from_names : (P : List ℕ → Type 0) (qs : List LiveState) → AllByRecursion P (names_of qs) → AllByRecursion (λ q. P q.queue.name) qs
from_names P [] h = tt
from_names P (q ∷ qs) h = (h.0, from_names P qs h.1)

pub rises_insert : (qs : List LiveState) (at : ℕ) (q : LiveState) → NamesRise (names_of qs) → AllBefore q.queue.name (take at qs) → AllBehind q.queue.name (drop at qs) → NamesRise (names_of (insert qs at q))
rises_insert [] zero q rise before behind = (tt, tt)
rises_insert [] (suc at) q rise before behind = (tt, tt)
rises_insert (p ∷ qs) zero q rise before behind = (to_names (λ m. comes_before q.queue.name m ≡ true) (p ∷ qs) behind, rise)
rises_insert (p ∷ qs) (suc at) q rise before behind = (
  to_names (λ m. comes_before p.queue.name m ≡ true) (insert qs at q)
      (all_insert (λ u. comes_before p.queue.name u.queue.name ≡ true) qs at q before.0 (from_names (λ m. comes_before p.queue.name m ≡ true) qs rise.0)),
  rises_insert qs at q rise.1 before.1 behind,
)

not_before : (a b : List ℕ) → Before b a → comes_before a b ≡ false
not_before a b h = ap is_lt (nat_list_cmp_total.antisymm a b ∙ ap ordering_reverse (is_less (slice_cmp nat_cmp b a) h))

-- the machine puts the queue at the same place
pub queues_insert : (qs : List LiveState) (at : ℕ) (q : LiveState) → AllBefore q.queue.name (take at qs) → AllBehind q.queue.name (drop at qs) → with_queue q.queue (map held_of qs) ≡ map held_of (insert qs at q)
queues_insert [] zero q before behind = refl
queues_insert [] (suc at) q before behind = refl
queues_insert (p ∷ qs) zero q before behind = ap (λ b. cond b (q.queue ∷ p.queue ∷ map held_of qs) (p.queue ∷ with_queue q.queue (map held_of qs))) behind.0
queues_insert (p ∷ qs) (suc at) q before behind =
    ap (λ b. cond b (q.queue ∷ p.queue ∷ map held_of qs) (p.queue ∷ with_queue q.queue (map held_of qs))) (not_before q.queue.name p.queue.name before.0)
    ∙ ap (λ us. p.queue ∷ us) (queues_insert qs at q before.1 behind)

-- one of two answers comes first where they don't meet
either : {A : Type 0} (p q : Bool) (x y : A) (rest : Option A) → (p ≡ true → q ≡ true → ⊥) → cond p (Some x) (cond q (Some y) rest) ≡ cond q (Some y) (cond p (Some x) rest)
either true true x y rest apart = absurd (apart refl refl)
either true false x y rest apart = refl
either false true x y rest apart = refl
either false false x y rest apart = refl

meet : (a b n : List ℕ) → same a b ≡ false → same a n ≡ true → same b n ≡ true → ⊥
meet a b n other x y = clash (sym (same_self a) ∙ ap (same a) (same_true a n x ∙ sym (same_true b n y)) ∙ other)
  where
    clash : true ≡ false → ⊥
    clash e = cc

pub held_insert : (n : List ℕ) (qs : List LiveState) (at : ℕ) (q : LiveState) → Lacks q.queue.name qs → queue_held n (insert qs at q) ≡ cond (same q.queue.name n) (Some q) (queue_held n qs)
held_insert n [] zero q lacks = refl
held_insert n [] (suc at) q lacks = refl
held_insert n (p ∷ qs) zero q lacks = refl
held_insert n (p ∷ qs) (suc at) q lacks =
    ap (cond (same p.queue.name n) (Some p)) (held_insert n qs at q lacks.1)
    ∙ either (same p.queue.name n) (same q.queue.name n) p q (queue_held n qs) (meet p.queue.name q.queue.name n lacks.0)
