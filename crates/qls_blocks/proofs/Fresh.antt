-- The header values of fresh files, as the records before them are passed.
use Rattle.std.proofs.Common.{◌≡◌, ℕ, zero, suc, ◌+◌, ◌-◌, ◌<◌, ◌≤◌, Bool, true, false, cond, ◌&&◌, ltb, List, [], ◌∷◌, ◌++◌, map, length, refl, sym, ap, ap₂, ◌∙◌, arith, append_assoc, append-nil}
use Rattle.qls_shape.specs.declared.Version.TheVariants.{Two}
use Rattle.qls_record.specs.Record.{Record, record_length, is_enqueue}
use Rattle.qls_meaning.specs.Damage.{first_in, rid_before}
use Rattle.qls_blocks.specs.declared.plan.FreshFile.{FreshFile}
use Rattle.qls_blocks.specs.Batching.{laid_from, places_from}
use Rattle.qls_blocks.specs.Plans.{fresh_file, starts}

less : (p s : ℕ) → p < s → ltb p s ≡ true
less p s h = grind arith

not_less : (p s : ℕ) → s ≤ p → ltb p s ≡ false
not_less p s h = grind arith

and_true : (b : Bool) → (b && true) ≡ b
and_true true = refl
and_true false = refl

and_false : (b : Bool) → (b && false) ≡ false
and_false true = refl
and_false false = refl

-- a record that starts before the file is passed
pub passes : (capacity rid p s : ℕ) (r : Record) (rs : List Record) → p < s
    → fresh_file capacity rid p (r ∷ rs) s ≡ fresh_file capacity (cond (is_enqueue r.kind) r.rid rid) (p + record_length Two r) rs s
passes capacity rid p s r rs h =
    let test = less p s h in
    let ps : List ℕ = places_from (p + record_length Two r) rs in
    let first : first_in s capacity (p ∷ ps) ≡ first_in s capacity ps =
    ap (λ b. cond b (first_in s capacity ps) (cond (ltb p (s + capacity)) (4096 + (p - s)) 0)) test in
    let before : rid_before rid (laid_from p (r ∷ rs)) s ≡ rid_before (cond (is_enqueue r.kind) r.rid rid) (laid_from (p + record_length Two r) rs) s =
    ap (λ b. rid_before (cond b r.rid rid) (laid_from (p + record_length Two r) rs) s) (ap (λ b. is_enqueue r.kind && b) test ∙ and_true (is_enqueue r.kind)) in
    λ i. record { first = first i; rid = before i }

-- what starts in the file or behind it doesn't change the rid before it
later : (rid p s : ℕ) (rs : List Record) → s ≤ p → rid_before rid (laid_from p rs) s ≡ rid
later rid p s [] h = refl
later rid p s (r ∷ rs) h =
    ap (λ b. rid_before (cond b r.rid rid) (laid_from (p + record_length Two r) rs) s) (ap (λ b. is_enqueue r.kind && b) (not_less p s h) ∙ and_false (is_enqueue r.kind))
    ∙ later rid (p + record_length Two r) s rs (omega arith)

head_of_places : (p : ℕ) (rs : List Record) → (ps : List ℕ) × (places_from p rs ≡ p ∷ ps)
head_of_places p [] = ([], refl)
head_of_places p (r ∷ rs) = (places_from (p + record_length Two r) rs, refl)

-- the first place at the file's start or behind it is the first in the file, or behind the file
pub there : (capacity rid p s first : ℕ) (rs : List Record) → s ≤ p → first ≡ cond (ltb p (s + capacity)) (4096 + (p - s)) 0
    → record { first = first; rid = rid } ≡ fresh_file capacity rid p rs s
there capacity rid p s first rs h e =
    let places = head_of_places p rs in
    let at : first_in s capacity (places_from p rs) ≡ cond (ltb p (s + capacity)) (4096 + (p - s)) 0 =
    ap (first_in s capacity) places.1 ∙ ap (λ b. cond b (first_in s capacity places.0) (cond (ltb p (s + capacity)) (4096 + (p - s)) 0)) (not_less p s h) in
    let f = e ∙ sym at in
    let r = sym (later rid p s rs h) in
    λ i. record { first = f i; rid = r i }

-- files that start at s or behind it have what two ways of counting agree on
pub agree : (f g : ℕ → FreshFile) (capacity s n : ℕ) → ((q : ℕ) → s ≤ q → f q ≡ g q) → map f (starts capacity s n) ≡ map g (starts capacity s n)
agree f g capacity s zero h = refl
agree f g capacity s (suc n) h =
    ap₂ (λ (x : FreshFile) (xs : List FreshFile). x ∷ xs) (h s (omega arith)) (agree f g capacity (s + capacity) n (λ q le. h q (omega arith)))

pub length-starts : (f : ℕ → FreshFile) (capacity s n : ℕ) → length (map f (starts capacity s n)) ≡ n
length-starts f capacity s zero = refl
length-starts f capacity s (suc n) = ap suc (length-starts f capacity (s + capacity) n)

-- one file more
pub one_more_file : (F G : ℕ → FreshFile) (capacity start n m : ℕ) (fresh new whole : List FreshFile) (x : FreshFile) → m ≡ suc n → ((s : ℕ) → start ≤ s → G s ≡ F s) → x ≡ G start
    → new ≡ fresh ++ x ∷ [] → fresh ++ map F (starts capacity start m) ≡ whole → new ++ map G (starts capacity (start + capacity) n) ≡ whole
one_more_file F G capacity start n m fresh new whole x more same at push done =
    let rest : map G (starts capacity (start + capacity) n) ≡ map F (starts capacity (start + capacity) n) = agree G F capacity (start + capacity) n (λ s le. same s (omega arith)) in
    let head : x ≡ F start = at ∙ same start (omega arith) in
    ap₂ (λ (a b : List FreshFile). a ++ b) push rest
    ∙ append_assoc fresh (x ∷ []) (map F (starts capacity (start + capacity) n))
    ∙ ap (λ (y : FreshFile). fresh ++ y ∷ map F (starts capacity (start + capacity) n)) head
    ∙ ap (λ k. fresh ++ map F (starts capacity start k)) (sym more)
    ∙ done

pub all_files : (F : ℕ → FreshFile) (capacity start n : ℕ) (fresh whole : List FreshFile) → n ≡ 0 → fresh ++ map F (starts capacity start n) ≡ whole → fresh ≡ whole
all_files F capacity start n fresh whole none done = sym (append-nil fresh) ∙ ap (λ k. fresh ++ map F (starts capacity start k)) (sym none) ∙ done
