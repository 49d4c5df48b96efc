-- The image of a list of choices is one that a crash may leave.
use Rattle.std.proofs.Common.{◌≡◌, ◌⊎◌, ℕ, zero, suc, ◌+◌, ◌-◌, ◌*◌, ◌/◌, ◌%◌, ◌<◌, ◌≤◌, Bool, true, false, cond, List, [], ◌∷◌, ◌++◌, length, take, drop, refl, sym, ap, ◌∙◌, subst, inl, inr, ⊎_elim, arith, append_assoc, length-append, length-take, length-drop}
use Rattle.std.proofs.lemmas.List.{take-append-le, drop-append-le, take-append-drop, drop-drop, drop_at, take_at}
use Rattle.std.proofs.lemmas.Bool.{cases_lt}
use Rattle.qls_site.specs.Disk.{Disk, Write, Torn, TornInTurn, IsImage, sector, LieWithin, WritesLieWithin}
use Rattle.qls_site.specs.Chosen.{first_choice, sectors, mixed, chosen, all_chosen, all_sectors, chosen_image, AreSectors, WritesAreSectors}

-- a sector behind a front of whole sectors, and one inside a front
behind : (front y : List ℕ) (a j : ℕ) → length front ≡ 512 * a → sector (a + j) (front ++ y) ≡ sector j y
behind front y a j size =
    let split : 512 * (a + j) ≡ 512 * a + 512 * j = omega arith in
    ap (take 512) (ap (λ n. drop n (front ++ y)) split ∙ sym (drop-drop (512 * j) (512 * a) (front ++ y)) ∙ ap (drop (512 * j)) (drop_at front y (512 * a) size))

inside : (front y : List ℕ) (k : ℕ) → 512 * k + 512 ≤ length front → sector k (front ++ y) ≡ sector k front
inside front y k fits =
    ap (take 512) (drop-append-le (512 * k) front y (omega (arith, fits)))
    ∙ take-append-le 512 (drop (512 * k) front) y (omega (arith, fits, length-drop (512 * k) front))

-- ---- a mix

picked : List Bool → List ℕ → List ℕ → List ℕ
picked cs new old = cond (first_choice cs) (take 512 new) (take 512 old)

length_picked : (cs : List Bool) (new old : List ℕ) → 512 ≤ length new → 512 ≤ length old → length (cond (first_choice cs) (take 512 new) (take 512 old)) ≡ 512
length_picked cs new old n o = elim (first_choice cs) as (λ b. length (cond b (take 512 new) (take 512 old)) ≡ 512) [
  | true ↦ omega (arith, n, length-take 512 new)
  | false ↦ omega (arith, o, length-take 512 old)
]

length_mixed : (n : ℕ) (cs : List Bool) (new old : List ℕ) → 512 * n ≤ length new → 512 * n ≤ length old → length (mixed n cs new old) ≡ 512 * n
length_mixed zero cs new old fn fo = omega arith
length_mixed (suc n) cs new old fn fo =
    let rest = length_mixed n (drop 1 cs) (drop 512 new) (drop 512 old) (omega (arith, fn, length-drop 512 new)) (omega (arith, fo, length-drop 512 old)) in
    omega (arith, rest, length_picked cs new old (omega (arith, fn)) (omega (arith, fo)), length-append (cond (first_choice cs) (take 512 new) (take 512 old)) (mixed n (drop 1 cs) (drop 512 new) (drop 512 old)))

first_sector : (cs : List Bool) (new old y : List ℕ) → 512 ≤ length new → 512 ≤ length old
    → (take 512 (cond (first_choice cs) (take 512 new) (take 512 old) ++ y) ≡ take 512 new) ⊎ (take 512 (cond (first_choice cs) (take 512 new) (take 512 old) ++ y) ≡ take 512 old)
first_sector cs new old y n o = elim (first_choice cs) as (λ b. (take 512 (cond b (take 512 new) (take 512 old) ++ y) ≡ take 512 new) ⊎ (take 512 (cond b (take 512 new) (take 512 old) ++ y) ≡ take 512 old)) [
  | true ↦ inl (take_at (take 512 new) y 512 (omega (arith, n, length-take 512 new)))
  | false ↦ inr (take_at (take 512 old) y 512 (omega (arith, o, length-take 512 old)))
]

next_sector : (j : ℕ) (xs : List ℕ) → sector (suc j) xs ≡ sector j (drop 512 xs)
next_sector j xs =
    let split : 512 * suc j ≡ 512 + 512 * j = omega arith in
    ap (take 512) (ap (λ n. drop n xs) split ∙ sym (drop-drop (512 * j) 512 xs))

-- each sector of a mix is one of the new bytes or of the old ones
mixed_sector : (n j : ℕ) (cs : List Bool) (new old y : List ℕ) → j < n → 512 * n ≤ length new → 512 * n ≤ length old
    → (sector j (mixed n cs new old ++ y) ≡ sector j new) ⊎ (sector j (mixed n cs new old ++ y) ≡ sector j old)
mixed_sector zero j cs new old y within fn fo = absurd (omega arith)
mixed_sector (suc n) zero cs new old y within fn fo =
    let assoc = append_assoc (cond (first_choice cs) (take 512 new) (take 512 old)) (mixed n (drop 1 cs) (drop 512 new) (drop 512 old)) y in
    ⊎_elim (λ e. inl (ap (take 512) assoc ∙ e)) (λ e. inr (ap (take 512) assoc ∙ e))
    (first_sector cs new old (mixed n (drop 1 cs) (drop 512 new) (drop 512 old) ++ y) (omega (arith, fn)) (omega (arith, fo)))
mixed_sector (suc n) (suc j) cs new old y within fn fo =
    let first = cond (first_choice cs) (take 512 new) (take 512 old) in
    let rest = mixed n (drop 1 cs) (drop 512 new) (drop 512 old) in
    let skip : sector (suc j) ((first ++ rest) ++ y) ≡ sector j (rest ++ y) =
    ap (sector (suc j)) (append_assoc first rest y) ∙ next_sector j (first ++ (rest ++ y))
    ∙ ap (sector j) (drop_at first (rest ++ y) 512 (length_picked cs new old (omega (arith, fn)) (omega (arith, fo)))) in
    ⊎_elim (λ e. inl (skip ∙ e ∙ sym (next_sector j new))) (λ e. inr (skip ∙ e ∙ sym (next_sector j old)))
    (mixed_sector n j (drop 1 cs) (drop 512 new) (drop 512 old) y (omega arith) (omega (arith, fn, length-drop 512 new)) (omega (arith, fo, length-drop 512 old)))

-- ---- a write of which sectors are chosen

-- a middle that is mixed sector by sector of two others
sector_of_parts : (a n : ℕ) (F M B H T : List ℕ) → length F ≡ 512 * a → length M ≡ 512 * n → length B ≡ 512 * n → length H ≡ 512 * n
    → ((j : ℕ) → j < n → (sector j (M ++ T) ≡ sector j B) ⊎ (sector j (M ++ T) ≡ sector j (H ++ T)))
    → (k : ℕ) → (sector k ((F ++ M) ++ T) ≡ sector k (F ++ (H ++ T))) ⊎ (sector k ((F ++ M) ++ T) ≡ sector k ((F ++ B) ++ T))
sector_of_parts a n F M B H T f m b h mix k = ⊎_elim low (λ le. high (k - a) (omega (arith, le))) (cases_lt k a)
  where
    whole : (M : List ℕ) → sector k ((F ++ M) ++ T) ≡ sector k (F ++ (M ++ T))
    whole M = ap (sector k) (append_assoc F M T)

    low : k < a → (sector k ((F ++ M) ++ T) ≡ sector k (F ++ (H ++ T))) ⊎ (sector k ((F ++ M) ++ T) ≡ sector k ((F ++ B) ++ T))
    low l = inl (whole M ∙ inside F (M ++ T) k (omega (arith, f, l)) ∙ sym (inside F (H ++ T) k (omega (arith, f, l))))

    from : (y : List ℕ) (j : ℕ) → k ≡ a + j → sector k (F ++ y) ≡ sector j y
    from y j e = ap (λ n. sector n (F ++ y)) e ∙ behind F y a j f

    past : (X : List ℕ) (j : ℕ) → length X ≡ 512 * n → n ≤ j → sector j (X ++ T) ≡ sector (j - n) T
    past X j x le =
        let split : j ≡ n + (j - n) = omega (arith, le) in
        ap (λ i. sector i (X ++ T)) split ∙ behind X T n (j - n) x

    high : (j : ℕ) → k ≡ a + j → (sector k ((F ++ M) ++ T) ≡ sector k (F ++ (H ++ T))) ⊎ (sector k ((F ++ M) ++ T) ≡ sector k ((F ++ B) ++ T))
    high j e =
        ⊎_elim
        (λ l. ⊎_elim (λ new. inr (whole M ∙ from (M ++ T) j e ∙ new ∙ sym (inside B T j (omega (arith, b, l))) ∙ sym (from (B ++ T) j e) ∙ sym (whole B)))
        (λ old. inl (whole M ∙ from (M ++ T) j e ∙ old ∙ sym (from (H ++ T) j e))) (mix j l))
        (λ le. inl (whole M ∙ from (M ++ T) j e ∙ past M j m le ∙ sym (past H j h le) ∙ sym (from (H ++ T) j e)))
        (cases_lt j n)

chosen_size : (cs : List Bool) (w : Write) (old : List ℕ) → length w.bytes % 512 ≡ 0 → w.at + length w.bytes ≤ length old → length (chosen cs w old) ≡ length old
chosen_size cs w old wl fits =
    let mix = mixed (sectors w) cs w.bytes (drop w.at old) in
    omega (
      arith,
      fits,
      length-append (take w.at old ++ mix) (drop (w.at + length w.bytes) old),
      length-append (take w.at old) mix,
      length-take w.at old,
      length-drop (w.at + length w.bytes) old,
      length_mixed (sectors w) cs w.bytes (drop w.at old) (omega arith) (omega (arith, fits, length-drop w.at old)),
    )

torn_chosen : (cs : List Bool) (w : Write) (old : List ℕ) → w.at % 512 ≡ 0 → length w.bytes % 512 ≡ 0 → w.at + length w.bytes ≤ length old → Torn w old (chosen cs w old)
torn_chosen cs w old wa wl fits =
    let n = sectors w in
    let F = take w.at old in
    let G = drop w.at old in
    let H = take (length w.bytes) G in
    let T = drop (w.at + length w.bytes) old in
    let room : 512 * n ≤ length G = omega (arith, fits, length-drop w.at old) in
    let rest : H ++ T ≡ G = ap (λ t. H ++ t) (sym (drop-drop (length w.bytes) w.at old)) ∙ take-append-drop (length w.bytes) G in
    let all : F ++ (H ++ T) ≡ old = ap (λ g. F ++ g) rest ∙ take-append-drop w.at old in
    record {
      size = chosen_size cs w old wl fits;
      each = λ k.
          ⊎_elim (λ e. inl (e ∙ ap (sector k) all)) inr
          (sector_of_parts (w.at / 512) n F (mixed n cs w.bytes G) w.bytes H T (omega (arith, fits, length-take w.at old)) (length_mixed n cs w.bytes G (omega arith) room) (omega arith)
          (omega (arith, fits, length-take (length w.bytes) G, length-drop w.at old))
          (λ j l. ⊎_elim inl (λ e. inr (e ∙ ap (sector j) (sym rest))) (mixed_sector n j cs w.bytes G T l (omega arith) room)) k);
    }

all_torn : (cs : List Bool) (ws : List Write) (old : List ℕ) → AreSectors ws → LieWithin (length old) ws → TornInTurn ws old (all_chosen cs ws old)
all_torn cs [] old whole within = refl
all_torn cs (w ∷ ws) old whole within = (
  chosen cs w old,
  torn_chosen cs w old whole.0.0 whole.0.1 within.0,
  all_torn (drop (sectors w) cs) ws (chosen cs w old) whole.1 (subst (λ n. LieWithin n ws) (sym (chosen_size cs w old whole.0.1 within.0)) within.1),
)

pub IsImage-chosen : (cs : List Bool) (d : Disk) → WritesLieWithin d → WritesAreSectors d → IsImage d (chosen_image cs d)
IsImage-chosen cs [] within whole = tt
IsImage-chosen cs (f ∷ d) within whole =
    (record { id = refl; place = refl; bytes = all_torn cs f.pending f.stable whole.0 within.0 }, IsImage-chosen (drop (all_sectors f.pending) cs) d within.1 whole.1)
