-- The reading comes to files: what the code tests by their numbers is what is left to test by the place.
use Rattle.std.proofs.Common.{◌≡◌, ◌⊎◌, inl, inr, ℕ, zero, suc, ◌+◌, ◌-◌, ◌*◌, ◌<◌, ◌≤◌, Bool, true, false, cond, ◌&&◌, ◌||◌, List, [], ◌∷◌, map, length, drop, Ok, Err, refl, sym, ap, ap₂, ◌∙◌, subst, arith, eqb, ltb, leb}
use Rattle.std.specs.List.{AllByRecursion}
use Rattle.std.proofs.lemmas.Bool.Decides.{nat_tests}
use Rattle.qls_shape.specs.Claims.{claim, each, of_file, ◌>>=◌, ◌>>◌}
use Rattle.qls_site.specs.Disk.{Disk}
use Rattle.qls_filehdr.specs.declared.Rule.TheVariants as rule
use Rattle.qls_meaning.specs.Reading.{Placed, end_from}
use Rattle.qls_meaning.specs.Damage.{Checked, spread}
use Rattle.qls_scan.specs.declared.answers.HeadedFile.{HeadedFile}
use Rattle.qls_reader.specs.Spots.{end_spot}
use Rattle.qls_reading.specs.declared.rules.Spot.{Spot}
use Rattle.qls_reading.specs.Groups.{spot_of, AreCounted}
use Rattle.qls_reading.specs.Tested.{is_first, front_claims, first_due, come_by, fronts, last_id}
use Rattle.qls_reading.specs.Left.{file_on, files_on, file_left, left, start_at}
use Rattle.qls_reading.proofs.Behind.{Stand, all_from, not_less, is_less, not_none, before_or_not, front_at, comes_to, goes_over, all_less}
use Rattle.qls_reading.proofs.Counts.{come_at, start_none, drop_none}

-- where a reading stands that stands at this place of the files' joined areas
abbrev pub IsSpotAt : List HeadedFile → ℕ → Spot → Type 0
IsSpotAt [] p spot = Unit {0}
IsSpotAt (h ∷ hs) p spot = (spot.file ≡ (end_spot (map spot_of (h ∷ hs)) p).file) × (spot.at ≡ (end_spot (map spot_of (h ∷ hs)) p).at)

-- ---- numbers

file_least : (h : HeadedFile) (hs : List HeadedFile) (p : ℕ) → AreCounted (h ∷ hs) → h.header.number ≤ (end_spot (map spot_of (h ∷ hs)) p).file
file_least h [] p c = omega arith
file_least h (g ∷ hs) p c =
    let rest = file_least g hs (p - 1024 * h.header.kib) c.1 in
    elim (ltb p (1024 * h.header.kib)) as (λ b. h.header.number ≤ (cond b (record { file = h.header.number; at = 4096 + p }) (end_spot (map spot_of (g ∷ hs)) (p - 1024 * h.header.kib))).file) [
      | true ↦ omega arith
      | false ↦ omega (arith, rest, c.0)
    ]

-- files with greater numbers aren't come to
later_none : (m : ℕ) (spot : Spot) (h : HeadedFile) (hs : List HeadedFile) → AreCounted (h ∷ hs) → spot.file ≤ h.header.number → come_by spot (drop m hs) ≡ []
later_none m spot h [] c l = ap (come_by spot) (drop_none {A = HeadedFile} m)
later_none zero spot h (g ∷ hs) c l = ap (λ b. cond b [] (g ∷ come_by spot hs)) (is_less spot.file g.header.number (omega (arith, c.0, l)))
later_none (suc m) spot h (g ∷ hs) c l = later_none m spot g hs c.1 (omega (arith, c.0, l))

pub counted_rest : (n : ℕ) (hs : List HeadedFile) → AreCounted hs → AreCounted (drop n hs)
counted_rest zero hs c = c
counted_rest (suc n) [] c = tt
counted_rest (suc n) (h ∷ []) c = subst AreCounted (sym (drop_none {A = HeadedFile} n)) tt
counted_rest (suc n) (h ∷ g ∷ hs) c = counted_rest n (g ∷ hs) c.1

here_of : (h : HeadedFile) (hs : List HeadedFile) (p : ℕ) → p < 1024 * h.header.kib → end_spot (map spot_of (h ∷ hs)) p ≡ record { file = h.header.number; at = 4096 + p }
here_of h [] p l = refl
here_of h (g ∷ hs) p l = ap (λ b. cond b (record { file = h.header.number; at = 4096 + p }) (end_spot (map spot_of (g ∷ hs)) (p - 1024 * h.header.kib))) (is_less p (1024 * h.header.kib) l)

pub there_of : (h g : HeadedFile) (hs : List HeadedFile) (p : ℕ) → 1024 * h.header.kib ≤ p → end_spot (map spot_of (h ∷ g ∷ hs)) p ≡ end_spot (map spot_of (g ∷ hs)) (p - 1024 * h.header.kib)
there_of h g hs p l = ap (λ b. cond b (record { file = h.header.number; at = 4096 + p }) (end_spot (map spot_of (g ∷ hs)) (p - 1024 * h.header.kib))) (not_less p (1024 * h.header.kib) l)

spot_next : (h : HeadedFile) (hs : List HeadedFile) (p : ℕ) (spot : Spot) → 1024 * h.header.kib ≤ p → IsSpotAt (h ∷ hs) p spot → IsSpotAt hs (p - 1024 * h.header.kib) spot
spot_next h [] p spot l s = tt
spot_next h (g ∷ hs) p spot l s = (s.0 ∙ ap (λ e. e.file) (there_of h g hs p l), s.1 ∙ ap (λ e. e.at) (there_of h g hs p l))

-- the spot among the files from one on, where the place isn't before them
pub spot_ahead : (d : Disk) (n p : ℕ) (spot : Spot) (hs : List HeadedFile) → AllByRecursion (λ h. length (file_on d h).area ≡ 1024 * h.header.kib) hs
    → IsSpotAt hs p spot → start_at n (files_on d hs) ≤ p → IsSpotAt (drop n hs) (p - start_at n (files_on d hs)) spot
spot_ahead d zero p spot hs sized s l =
    let none = start_none (files_on d hs) in
    let same : p ≡ p - start_at zero (files_on d hs) = omega (arith, none) in
    subst (λ q. IsSpotAt hs q spot) same s
spot_ahead d (suc n) p spot [] sized s l = tt
spot_ahead d (suc n) p spot (h ∷ hs) sized s l =
    let size = sized.0 in
    let same : p - 1024 * h.header.kib - start_at n (files_on d hs) ≡ p - (length (file_on d h).area + start_at n (files_on d hs)) = omega (arith, size) in
    subst (λ q. IsSpotAt (drop n hs) q spot) same
    (spot_ahead d n (p - 1024 * h.header.kib) spot hs sized.1 (spot_next h hs p spot (omega (arith, size, l)) s) (omega (arith, size, l)))

-- where it is before them, none is come to
pub none_ahead : (d : Disk) (n p : ℕ) (spot : Spot) (hs : List HeadedFile) → AllByRecursion (λ h. length (file_on d h).area ≡ 1024 * h.header.kib) hs
    → AreCounted hs → IsSpotAt hs p spot → p < start_at n (files_on d hs) → come_by spot (drop n hs) ≡ []
none_ahead d n p spot [] sized c s l = ap (come_by spot) (drop_none {A = HeadedFile} n)
none_ahead d zero p spot (h ∷ hs) sized c s l = absurd (omega (arith, l))
none_ahead d (suc n) p spot (h ∷ hs) sized c s l = by_order (before_or_not p (1024 * h.header.kib)) (none_ahead d n (p - 1024 * h.header.kib) spot hs sized.1 (counted_rest 1 (h ∷ hs) c))
  where
    by_order : (p < 1024 * h.header.kib) ⊎ (1024 * h.header.kib ≤ p) → (IsSpotAt hs (p - 1024 * h.header.kib) spot → p - 1024 * h.header.kib < start_at n (files_on d hs) → come_by spot (drop n hs) ≡ []) → come_by spot (drop n hs) ≡ []
    by_order (inl before) ih =
        let file : spot.file ≡ h.header.number = s.0 ∙ ap (λ e. e.file) (here_of h hs p before) in
        later_none n spot h hs c (omega (arith, file))
    by_order (inr behind) ih = ih (spot_next h hs p spot behind s) (let size = sized.0 in omega (arith, l, size, behind))

-- ---- one file

pub fronts_apart : (id : ℕ) (a b : Bool) → of_file id (claim a rule.First >> claim b rule.Rid) ≡ (of_file id (claim a rule.First) >> of_file id (claim b rule.Rid))
fronts_apart id true b = refl
fronts_apart id false b = refl

-- the first place that is due: here, or 0 where the place lies behind the file
due_is : (h : HeadedFile) (hs : List HeadedFile) (p : ℕ) (spot : Spot) → AreCounted (h ∷ hs) → IsSpotAt (h ∷ hs) p spot
    → cond (eqb h.header.number spot.file && ltb spot.at (4096 + 1024 * h.header.kib)) spot.at 0 ≡ cond (ltb p (1024 * h.header.kib)) (4096 + p) 0
due_is h hs p spot c s = by_order (before_or_not p (1024 * h.header.kib))
  where
    last : (hs : List HeadedFile) → AreCounted (h ∷ hs) → IsSpotAt (h ∷ hs) p spot → 1024 * h.header.kib ≤ p → (eqb h.header.number spot.file && ltb spot.at (4096 + 1024 * h.header.kib)) ≡ false
    last [] c s behind =
        let late : ltb spot.at (4096 + 1024 * h.header.kib) ≡ false = not_less spot.at (4096 + 1024 * h.header.kib) (omega (arith, s.1, behind)) in
        elim (eqb h.header.number spot.file) as (λ b. (b && ltb spot.at (4096 + 1024 * h.header.kib)) ≡ false) [ true ↦ late | false ↦ refl ]
    last (g ∷ hs) c s behind =
        let least = file_least g hs (p - 1024 * h.header.kib) c.1 in
        let file : spot.file ≡ (end_spot (map spot_of (g ∷ hs)) (p - 1024 * h.header.kib)).file = s.0 ∙ ap (λ e. e.file) (there_of h g hs p behind) in
        let apart : h.header.number < spot.file = omega (arith, least, file, c.0) in
        let other : eqb h.header.number spot.file ≡ false = grind (arith, nat_tests, apart) in
        ap (λ b. b && ltb spot.at (4096 + 1024 * h.header.kib)) other

    by_order : (p < 1024 * h.header.kib) ⊎ (1024 * h.header.kib ≤ p)
        → cond (eqb h.header.number spot.file && ltb spot.at (4096 + 1024 * h.header.kib)) spot.at 0 ≡ cond (ltb p (1024 * h.header.kib)) (4096 + p) 0
    by_order (inl before) =
        let file : spot.file ≡ h.header.number = s.0 ∙ ap (λ e. e.file) (here_of h hs p before) in
        let at : spot.at ≡ 4096 + p = s.1 ∙ ap (λ e. e.at) (here_of h hs p before) in
        let same : eqb h.header.number spot.file ≡ true = grind (arith, nat_tests, file) in
        let early : ltb spot.at (4096 + 1024 * h.header.kib) ≡ true = is_less spot.at (4096 + 1024 * h.header.kib) (omega (arith, at, before)) in
        ap₂ (λ (a b : Bool). cond (a && b) spot.at 0) same early ∙ at ∙ sym (ap (λ b. cond b (4096 + p) 0) (is_less p (1024 * h.header.kib) before))
    by_order (inr behind) =
        ap (λ b. cond b spot.at 0) (last hs c s behind) ∙ sym (ap (λ b. cond b (4096 + p) 0) (not_less p (1024 * h.header.kib) behind))

module _ (d : Disk) where
  -- each data area is as long as the header tells
  abbrev pub AreSized : List HeadedFile → Type 0
  AreSized hs = AllByRecursion (λ h. length (file_on d h).area ≡ 1024 * h.header.kib) hs

  pub sized_rest : (n : ℕ) (hs : List HeadedFile) → AreSized hs → AreSized (drop n hs)
  sized_rest zero hs s = s
  sized_rest (suc n) [] s = tt
  sized_rest (suc n) (h ∷ hs) s = sized_rest n hs s.1

  pub on_rest : (n : ℕ) (hs : List HeadedFile) → drop n (files_on d hs) ≡ files_on d (drop n hs)
  on_rest zero hs = refl
  on_rest (suc n) [] = refl
  on_rest (suc n) (h ∷ hs) = on_rest n hs

  -- the front that the code tests is the one that the place asks for
  front_is : (given : Bool) (rid start p : ℕ) (h : HeadedFile) (hs : List HeadedFile) (spot : Spot) → length (file_on d h).area ≡ 1024 * h.header.kib
      → AreCounted (h ∷ hs) → start ≤ p → IsSpotAt (h ∷ hs) (p - start) spot → (oldest : Bool) (begin end : ℕ)
      → front_claims (first_due given spot h) rid h ≡ front_at oldest begin end given p rid start (file_on d h)
  front_is given rid start p h hs spot size c l s oldest begin end =
      fronts_apart h.id (is_first (first_due given spot h) h.header.first) (eqb h.header.rid rid)
      ∙ ap (λ b. of_file h.id (claim b rule.First) >> of_file h.id (claim (eqb h.header.rid rid) rule.Rid)) (by_given given)
    where
      due : cond (eqb h.header.number spot.file && ltb spot.at (4096 + 1024 * h.header.kib)) spot.at 0 ≡ cond (ltb p (start + length (file_on d h).area)) (4096 + (p - start)) 0
      due = due_is h hs (p - start) spot c s ∙ ap (λ b. cond b (4096 + (p - start)) 0) (same_test (before_or_not (p - start) (1024 * h.header.kib)))
        where
          same_test : (p - start < 1024 * h.header.kib) ⊎ (1024 * h.header.kib ≤ p - start) → ltb (p - start) (1024 * h.header.kib) ≡ ltb p (start + length (file_on d h).area)
          same_test (inl before) = is_less (p - start) (1024 * h.header.kib) before ∙ sym (is_less p (start + length (file_on d h).area) (omega (arith, before, size, l)))
          same_test (inr behind) = not_less (p - start) (1024 * h.header.kib) behind ∙ sym (not_less p (start + length (file_on d h).area) (omega (arith, behind, size, l)))

      by_given : (given : Bool) → is_first (first_due given spot h) h.header.first ≡ (given || eqb h.header.first (cond (ltb p (start + length (file_on d h).area)) (4096 + (p - start)) 0))
      by_given true = refl
      by_given false = ap (eqb h.header.first) due

  module _ (oldest : Bool) (begin end : ℕ) where
    pub record Enters (given : Bool) (id start p rid : ℕ) (rs : List Placed) (spot : Spot) (hs : List HeadedFile) : Type 0 where
      pub count : length (come_by spot hs) ≡ come_at (p - start) (files_on d hs)
      pub claims : each (file_left oldest begin end rid rs) (spread start (files_on d hs))
          ≡ (fronts given rid spot (come_by spot hs) >>= λ _.
          left oldest begin end (last_id id (come_by spot hs)) (start + start_at (length (come_by spot hs)) (files_on d hs)) rid rs (drop (length (come_by spot hs)) (files_on d hs)))

    -- the first place is given exactly where the reading hasn't begun
    abbrev pub IsGivenTo : Bool → ℕ → ℕ → Type 0
    IsGivenTo given start p = (s : ℕ) → start ≤ s → s ≤ p → (oldest && leb s begin) ≡ given

    in_turn : (a b c : Checked) → (a >>= λ _. (b >>= λ _. c)) ≡ ((a >>= λ _. b) >>= λ _. c)
    in_turn (Ok x) b c = refl
    in_turn (Err e) b c = refl

    pub enters : (given : Bool) (id start p rid : ℕ) (rs : List Placed) (spot : Spot) (hs : List HeadedFile) → AreSized hs → AreCounted hs
        → Stand p rs → end ≡ end_from p rs → start ≤ p → 0 < start → IsGivenTo given start p → IsSpotAt hs (p - start) spot → Enters given id start p rid rs spot hs
    enters given id start p rid rs spot [] sized c h e l some is_given s = record {
      count = refl;
      claims = sym (goes_over oldest begin end id (start + 0) rid [] rs (all_less (start + 0) p (omega (arith, l)) rs (all_from p rs h)));
    }
    enters given id start p rid rs spot (f ∷ hs) sized c h e l some is_given s = by_order (before_or_not (p - start) (1024 * f.header.kib))
        (λ behind. enters given f.id (start + length (file_on d f).area) p rid rs spot hs sized.1 (counted_rest 1 (f ∷ hs) c) h e (omega (arith, behind, sized.0, l)) (omega (arith, some))
        (λ q a b. is_given q (omega (arith, a)) b) (subst (λ q. IsSpotAt hs q spot) (omega (arith, sized.0)) (spot_next f hs (p - start) spot behind s)))
      where
        area : ℕ
        area = length (file_on d f).area

        least : f.header.number ≤ spot.file
        least = let low = file_least f hs (p - start) c in omega (arith, low, s.0)

        by_more : come_by spot (f ∷ hs) ≡ f ∷ come_by spot hs
        by_more = ap (λ b. cond b [] (f ∷ come_by spot hs)) (not_less spot.file f.header.number least)

        here : each (file_left oldest begin end rid rs) (spread start (files_on d (f ∷ hs))) ≡ (front_claims (first_due given spot f) rid f >>= λ _. left oldest begin end f.id (start + area) rid rs (files_on d hs))
        here =
            comes_to oldest begin end given p rid start (file_on d f) (files_on d hs) rs h e l (is_given start (omega arith) l) (first_some (not_none start some))
            ∙ ap (λ (x : Checked). x >>= λ _. left oldest begin end f.id (start + area) rid rs (files_on d hs)) (sym (front_is given rid start p f hs spot sized.0 c l s oldest begin end))
          where
            first_some : eqb start 0 ≡ false → (oldest && eqb start 0) ≡ false
            first_some n = elim oldest as (λ b. (b && eqb start 0) ≡ false) [ true ↦ n | false ↦ refl ]

        by_order : (p - start < 1024 * f.header.kib) ⊎ (1024 * f.header.kib ≤ p - start)
            → (1024 * f.header.kib ≤ p - start → Enters given f.id (start + length (file_on d f).area) p rid rs spot hs) → Enters given id start p rid rs spot (f ∷ hs)
        by_order (inl before) ih =
            let file : spot.file ≡ f.header.number = s.0 ∙ ap (λ x. x.file) (here_of f hs (p - start) before) in
            let none : come_by spot hs ≡ [] = later_none zero spot f hs c (omega (arith, file)) in
            let one : come_by spot (f ∷ hs) ≡ f ∷ [] = by_more ∙ ap (λ (x : List HeadedFile). f ∷ x) none in
            let to : start + (area + start_at 0 (files_on d hs)) ≡ start + area = let z = start_none (files_on d hs) in omega (arith, z) in
            record {
              count = ap length one ∙ sym (ap (λ b. suc (cond b 0 (come_at (p - start - length (file_on d f).area) (files_on d hs)))) (is_less (p - start) (length (file_on d f).area) (omega (arith, before, sized.0))));
              claims =
                  here
                  ∙ ap (λ n. front_claims (first_due given spot f) rid f >>= λ _. left oldest begin end f.id n rid rs (files_on d hs)) (sym to)
                  ∙ in_turn (front_claims (first_due given spot f) rid f) (Ok tt) (left oldest begin end f.id (start + (area + start_at 0 (files_on d hs))) rid rs (files_on d hs))
                  ∙ ap (λ by. fronts given rid spot by >>= λ _. left oldest begin end (last_id id by) (start + start_at (length by) (files_on d (f ∷ hs))) rid rs (drop (length by) (files_on d (f ∷ hs)))) (sym one);
            }
        by_order (inr behind) ih =
            let more = ih behind in
            let by = come_by spot hs in
            let k = length by in
            let over : left oldest begin end f.id (start + area) rid rs (files_on d hs) ≡ each (file_left oldest begin end rid rs) (spread (start + area) (files_on d hs)) =
            goes_over oldest begin end f.id (start + area) rid (files_on d hs) rs (all_less (start + area) p (omega (arith, behind, sized.0, l)) rs (all_from p rs h)) in
            let to : (start + area) + start_at k (files_on d hs) ≡ start + (area + start_at k (files_on d hs)) = omega arith in
            record {
              count =
                  ap length by_more ∙ ap suc more.count
                  ∙ ap (λ q. suc (come_at q (files_on d hs))) (omega arith)
                  ∙ sym (ap (λ b. suc (cond b 0 (come_at (p - start - length (file_on d f).area) (files_on d hs)))) (not_less (p - start) (length (file_on d f).area) (omega (arith, behind, sized.0))));
              claims =
                  here
                  ∙ ap (λ x. front_claims (first_due given spot f) rid f >>= λ _. x) (over ∙ more.claims ∙ ap (λ n. fronts given rid spot by >>= λ _. left oldest begin end (last_id f.id by) n rid rs (drop k (files_on d hs))) to)
                  ∙ in_turn (front_claims (first_due given spot f) rid f) (fronts given rid spot by) (left oldest begin end (last_id f.id by) (start + (area + start_at k (files_on d hs))) rid rs (drop k (files_on d hs)))
                  ∙ ap (λ b. fronts given rid spot b >>= λ _. left oldest begin end (last_id id b) (start + start_at (length b) (files_on d (f ∷ hs))) rid rs (drop (length b) (files_on d (f ∷ hs)))) (sym by_more);
            }
