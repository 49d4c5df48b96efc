-- The headers of the files in use, one file after another.
use Rattle.std.proofs.Common.{◌≡◌, ℕ, zero, suc, ◌+◌, ◌<◌, ◌≤◌, true, false, cond, List, [], ◌∷◌, ◌++◌, map, length, drop, eqb, Option, Some, None, IfSome, option_map, Result, Ok, Err, refl, sym, ap, ◌∙◌, subst, arith, append_assoc, add-one, get_or}
use Rattle.std.specs.List.{AllByRecursion, filter}
use Rattle.std.proofs.lemmas.Bool.Decides.{nat_tests}
use Rattle.qls_shape.specs.Claims.{each, ◌>>=◌}
use Rattle.qls_site.specs.declared.site.FileAt.{FileAt}
use Rattle.qls_site.specs.Disk.{Disk, FileState, file_of, full, full_file, listed, listing, AllAbove, IdsRise}
use Rattle.qls_site.specs.Content.{Moment, Content, Tells, OnlyLooks}
use Rattle.qls_meaning.specs.Journals.{headed, in_use, is_in_use}
use Rattle.qls_meaning.specs.Damage.{Damage, header_claims}
use Rattle.qls_scan.proofs.Lists.{drop_next}
use Rattle.qls_scan.specs.Found.{head_of, IsSpelledOn}
use Rattle.qls_scan.specs.Heads.{IsListedOn, IsHeadOf, HeadIsRead, AreHeadsOf, HeadsAreRead}
use Rattle.qls_scan.specs.declared.answers.HeadedFile.{HeadedFile}
use Rattle.qls_scan.specs.declared.answers.ScanFault.{ScanFault}
use Rattle.qls_scan.specs.declared.answers.ScanFault.TheVariants.{Failed, Memory, Damaged}

-- ---- each file is found by its id

own_found : (f : FileState) (rest : Option FileState) → cond (eqb f.id f.id) (Some f) rest ≡ Some f
own_found f rest = let same : eqb f.id f.id ≡ true = grind (arith, nat_tests) in ap (λ b. cond b (Some f) rest) same

other_found : (g f : FileState) (rest : Option FileState) → g.id < f.id → cond (eqb g.id f.id) (Some g) rest ≡ rest
other_found g f rest l = let other : eqb g.id f.id ≡ false = grind (arith, nat_tests, l) in ap (λ b. cond b (Some g) rest) other

abbrev IsFound : Disk → FileState → Type 0
IsFound d f = file_of f.id d ≡ Some f

found_behind : (g : FileState) (d rest : Disk) → AllAbove g.id (full rest) → AllByRecursion (IsFound d) rest → AllByRecursion (IsFound (g ∷ d)) rest
found_behind g d [] above h = tt
found_behind g d (f ∷ rest) above h = (other_found g f (file_of f.id d) above.0 ∙ h.0, found_behind g d rest above.1 h.1)

found_all : (d : Disk) → IdsRise (full d) → AllByRecursion (IsFound d) d
found_all [] h = tt
found_all (f ∷ d) h = (own_found f (file_of f.id d), found_behind f d d h.0 (found_all d h.1))

-- the file at a place of the listing
record At (d all : Disk) (k : ℕ) (file : FileAt) : Type 0 where
  pub state : FileState
  pub here : drop k d ≡ state ∷ drop (suc k) d
  pub there : file_of state.id all ≡ Some state
  pub same : listed state ≡ file

at : (d all : Disk) (k : ℕ) (x : FileAt) → AllByRecursion (IsFound all) d → k < length (listing d) → At d all k (get_or (listing d) k x)
at [] all k x h l = absurd (omega (arith, l))
at (f ∷ d) all zero x h l = record { state = f; here = refl; there = h.0; same = refl }
at (f ∷ d) all (suc k) x h l =
    let rest = at d all k x h.1 (omega (arith, l)) in
    record { state = rest.state; here = rest.here; there = rest.there; same = rest.same }

-- ---- the files so far

-- of the first k files those in use broke no rule, and these are their heads
pub record AreReadSoFar (d : Disk) (k : ℕ) (found : List HeadedFile) : Type 0 where
  pub claims : each header_claims (in_use (full d)) ≡ each header_claims (in_use (full (drop k d)))
  pub heads : found ++ map head_of (map headed (in_use (full (drop k d)))) ≡ map head_of (map headed (in_use (full d)))

module _ (f : FileState) (d : Disk) where
  skips : is_in_use f.place ≡ false → in_use (full (f ∷ d)) ≡ in_use (full d)
  skips e = ap (λ b. cond b (full_file f ∷ in_use (full d)) (in_use (full d))) e

  keeps : is_in_use f.place ≡ true → in_use (full (f ∷ d)) ≡ full_file f ∷ in_use (full d)
  keeps e = ap (λ b. cond b (full_file f ∷ in_use (full d)) (in_use (full d))) e

module _ (d : Disk) (k : ℕ) (found : List HeadedFile) (f : FileState) (here : drop k d ≡ f ∷ drop (suc k) d) (so : AreReadSoFar d k found) where
  skipped : is_in_use f.place ≡ false → AreReadSoFar d (suc k) found
  skipped out =
      let rest : in_use (full (drop k d)) ≡ in_use (full (drop (suc k) d)) = ap (λ ds. in_use (full ds)) here ∙ skips f (drop (suc k) d) out in
      record {
        claims = so.claims ∙ ap (each header_claims) rest;
        heads = ap (λ is. found ++ map head_of (map headed is)) (sym rest) ∙ so.heads;
      }

  module _ (used : is_in_use f.place ≡ true) where
    rest_here : in_use (full (drop k d)) ≡ full_file f ∷ in_use (full (drop (suc k) d))
    rest_here = ap (λ ds. in_use (full ds)) here ∙ keeps f (drop (suc k) d) used

    claims_here : each header_claims (in_use (full d)) ≡ (header_claims (full_file f) >>= λ _. each header_claims (in_use (full (drop (suc k) d))))
    claims_here = so.claims ∙ ap (each header_claims) rest_here

    taken : (head : HeadedFile) → IsHeadOf (full_file f) (Ok head) → AreReadSoFar d (suc k) (found ++ head ∷ [])
    taken head h = record {
      claims = claims_here ∙ ap (λ r. r >>= λ _. each header_claims (in_use (full (drop (suc k) d)))) h.0;
      heads =
          append_assoc found (head ∷ []) (map head_of (map headed (in_use (full (drop (suc k) d)))))
          ∙ ap (λ x. found ++ x ∷ map head_of (map headed (in_use (full (drop (suc k) d))))) h.1
          ∙ ap (λ is. found ++ map head_of (map headed is)) (sym rest_here) ∙ so.heads;
    }

    broken : (x : Damage) → header_claims (full_file f) ≡ Err x → each header_claims (in_use (full d)) ≡ Err x
    broken x e = claims_here ∙ ap (λ r. r >>= λ _. each header_claims (in_use (full (drop (suc k) d)))) e

-- ---- where the site tells

abbrev pub IsTheListing : List FileAt → Content → Type 0
IsTheListing files c = (files ≡ listing c.now.disk) × IdsRise (full c.now.disk)

-- what is said of the disk stays so
pub looked_back : (Q : Disk → Type 0) (o n : Option Content) → Tells OnlyLooks o n → IfSome n (λ c. Q c.now.disk) → IfSome o (λ c. Q c.now.disk)
looked_back Q None None t h = tt
looked_back Q None (Some c) t h = absurd t
looked_back Q (Some c) None t h = absurd t
looked_back Q (Some a) (Some b) t h = subst (λ (m : Moment). Q m.disk) t.now h

pub looked_on : (Q : Disk → Type 0) (o n : Option Content) → Tells OnlyLooks o n → IfSome o (λ c. Q c.now.disk) → IfSome n (λ c. Q c.now.disk)
looked_on Q None None t h = tt
looked_on Q None (Some c) t h = absurd t
looked_on Q (Some c) None t h = absurd t
looked_on Q (Some a) (Some b) t h = subst (λ (m : Moment). Q m.disk) (sym t.now) h

module _ (files : List FileAt) (k : ℕ) (x : FileAt) (within : k < length files) where
  at_file : (d : Disk) → files ≡ listing d → IdsRise (full d) → At d d k (get_or files k x)
  at_file d e rise =
      subst (λ fs. At d d k (get_or fs k x)) (sym e) (at d d k x (found_all d rise) (subst (λ (fs : List FileAt). k < length fs) e within))

  listed_by : (d : Disk) (file : FileAt) → At d d k file → option_map listed (file_of file.id d) ≡ Some file
  listed_by d file a = subst (λ (y : FileAt). option_map listed (file_of y.id d) ≡ Some y) a.same (ap (option_map listed) a.there)

  pub next_listed : (o : Option Content) → IfSome o (IsTheListing files) → IfSome o (IsListedOn (get_or files k x))
  next_listed None h = tt
  next_listed (Some c) h = listed_by c.now.disk (get_or files k x) (at_file c.now.disk h.0 h.1)

  module _ (found : List HeadedFile) where
    pub next_skipped : (o : Option Content) → is_in_use (get_or files k x).place ≡ false → IfSome o (IsTheListing files) → IfSome o (λ c. AreReadSoFar c.now.disk k found)
        → IfSome o (λ c. AreReadSoFar c.now.disk (k + 1) found)
    next_skipped None out h so = tt
    next_skipped (Some c) out h so =
        let a = at_file c.now.disk h.0 h.1 in
        subst (λ n. AreReadSoFar c.now.disk n found) (sym (add-one k)) (skipped c.now.disk k found a.state a.here so (ap (λ (y : FileAt). is_in_use y.place) a.same ∙ out))

    head_here : (d : Disk) (r : Result HeadedFile ScanFault) → (a : At d d k (get_or files k x)) → HeadIsRead d (get_or files k x) r → IsHeadOf (full_file a.state) r
    head_here d r a h =
        let own : HeadIsRead d (listed a.state) r = subst (λ (y : FileAt). HeadIsRead d y r) (sym a.same) h in
        subst (λ s. IfSome (option_map full_file s) (λ f. IsHeadOf f r)) a.there own

    pub next_taken : (o : Option Content) (head : HeadedFile) → is_in_use (get_or files k x).place ≡ true → IfSome o (IsTheListing files) → IfSome o (λ c. AreReadSoFar c.now.disk k found)
        → IfSome o (λ c. HeadIsRead c.now.disk (get_or files k x) (Ok head)) → IfSome o (λ c. AreReadSoFar c.now.disk (k + 1) (found ++ head ∷ []))
    next_taken None head used h so r = tt
    next_taken (Some c) head used h so r =
        let a = at_file c.now.disk h.0 h.1 in
        subst (λ n. AreReadSoFar c.now.disk n (found ++ head ∷ [])) (sym (add-one k))
        (taken c.now.disk k found a.state a.here so (ap (λ (y : FileAt). is_in_use y.place) a.same ∙ used) head (head_here c.now.disk (Ok head) a r))

    stopped : (d : Disk) (e : ScanFault) → is_in_use (get_or files k x).place ≡ true → At d d k (get_or files k x) → AreReadSoFar d k found
        → HeadIsRead d (get_or files k x) (Err e) → AreHeadsOf (full d) (Err e)
    stopped d Failed used a so r = tt
    stopped d Memory used a so r = tt
    stopped d (Damaged file rule) used a so r =
        broken d k found a.state a.here so (ap (λ (y : FileAt). is_in_use y.place) a.same ∙ used) (file, rule) (head_here d (Err (Damaged file rule)) a r)

    pub next_stopped : (o : Option Content) (e : ScanFault) → is_in_use (get_or files k x).place ≡ true → IfSome o (IsTheListing files) → IfSome o (λ c. AreReadSoFar c.now.disk k found)
        → IfSome o (λ c. HeadIsRead c.now.disk (get_or files k x) (Err e)) → HeadsAreRead o (Err e)
    next_stopped None e used h so r = tt
    next_stopped (Some c) e used h so r = stopped c.now.disk e used (at_file c.now.disk h.0 h.1) so r

-- ---- the whole

all_read : (d : Disk) (k : ℕ) (found : List HeadedFile) → length d ≤ k → AreReadSoFar d k found → AreHeadsOf (full d) (Ok found)
all_read d k found l so =
    let none : drop k d ≡ [] = drop_all d k l in (
      so.claims ∙ ap (λ ds. each header_claims (in_use (full ds))) none,
      no_more found ∙ ap (λ ds. found ++ map head_of (map headed (in_use (full ds)))) (sym none) ∙ so.heads,
    )
  where
    drop_all : (d : Disk) (k : ℕ) → length d ≤ k → drop k d ≡ []
    drop_all [] zero l = refl
    drop_all [] (suc k) l = refl
    drop_all (f ∷ d) zero l = absurd (omega (arith, l))
    drop_all (f ∷ d) (suc k) l = drop_all d k (omega (arith, l))

    no_more : (xs : List HeadedFile) → xs ≡ xs ++ []
    no_more [] = refl
    no_more (x ∷ xs) = ap (λ ys. x ∷ ys) (no_more xs)

listing_length : (d : Disk) → length (listing d) ≡ length d
listing_length [] = refl
listing_length (f ∷ d) = ap suc (listing_length d)

pub all_told : (o : Option Content) (files : List FileAt) (k : ℕ) (found : List HeadedFile) → length files ≤ k → IfSome o (IsTheListing files) → IfSome o (λ c. AreReadSoFar c.now.disk k found) → HeadsAreRead o (Ok found)
all_told None files k found l h so = tt
all_told (Some c) files k found l h so = all_read c.now.disk k found (subst (λ n. n ≤ k) (ap (λ (fs : List FileAt). length fs) h.0 ∙ listing_length c.now.disk) l) so

-- ---- the ids of the heads

module _ (files : List FileAt) (k : ℕ) (x : FileAt) (within : k < length files) where
  pub ids_skipped : is_in_use (get_or files k x).place ≡ false → filter (λ f. is_in_use f.place) (drop k files) ≡ filter (λ f. is_in_use f.place) (drop (k + 1) files)
  ids_skipped out =
      let rest = filter (λ (f : FileAt). is_in_use f.place) (drop (k + 1) files) in
      ap (filter (λ f. is_in_use f.place)) (drop_next files k x within) ∙ ap (λ b. cond b (get_or files k x ∷ rest) rest) out

  pub ids_taken : is_in_use (get_or files k x).place ≡ true → filter (λ f. is_in_use f.place) (drop k files) ≡ get_or files k x ∷ filter (λ f. is_in_use f.place) (drop (k + 1) files)
  ids_taken used =
      let rest = filter (λ (f : FileAt). is_in_use f.place) (drop (k + 1) files) in
      ap (filter (λ f. is_in_use f.place)) (drop_next files k x within) ∙ ap (λ b. cond b (get_or files k x ∷ rest) rest) used

pub ids_more : (found : List HeadedFile) (head : HeadedFile) (f : FileAt) (rest : List FileAt) → head.id ≡ f.id
    → map (λ (h : HeadedFile). h.id) (found ++ head ∷ []) ++ map (λ (g : FileAt). g.id) rest ≡ map (λ (h : HeadedFile). h.id) found ++ map (λ (g : FileAt). g.id) (f ∷ rest)
ids_more [] head f rest e = ap (λ n. n ∷ map (λ (g : FileAt). g.id) rest) e
ids_more (h ∷ found) head f rest e = ap (λ ns. h.id ∷ ns) (ids_more found head f rest e)

pub legal_more : (P : HeadedFile → Type 0) (found : List HeadedFile) (head : HeadedFile) → AllByRecursion P found → P head → AllByRecursion P (found ++ head ∷ [])
legal_more P [] head h p = (p, tt)
legal_more P (f ∷ found) head h p = (h.0, legal_more P found head h.1 p)

pub spelled_more : (found : List HeadedFile) (head : HeadedFile) (o : Option Content) → IfSome o (λ c. AllByRecursion (IsSpelledOn c.now.disk) found) → IfSome o (λ c. IsSpelledOn c.now.disk head)
    → IfSome o (λ c. AllByRecursion (IsSpelledOn c.now.disk) (found ++ head ∷ []))
spelled_more found head None h p = tt
spelled_more found head (Some c) h p = legal_more (IsSpelledOn c.now.disk) found head h p
