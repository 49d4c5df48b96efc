-- The runs of one epoch into which the files of a journal fall.
use Rattle.std.proofs.Common.{◌≡◌, ◌⊎◌, inl, inr, ℕ, ◌<◌, Bool, true, false, cond, List, [], ◌∷◌, ◌++◌, Ok, refl, sym, ap, ◌∙◌, subst, arith, eqb}
use Rattle.std.proofs.lemmas.Bool.Decides.{nat_tests}
use Rattle.std.specs.List.{AllByRecursion}
use Rattle.qls_meaning.specs.Journals.{Headed, epochs, onto_epoch}
use Rattle.qls_meaning.specs.Damage.{next_claims, chain_claims}
use Rattle.qls_laws.proofs.Claimed.{HaveEpoch, ok_next, next_ok}
use Rattle.qls_epochs.proofs.Alls.{all_by}

is_equal : (m n : ℕ) → eqb m n ≡ true → m ≡ n
is_equal m n h = grind (arith, nat_tests)

-- the first run begins with the first file
pub record Runs (f : Headed) (es : List (List Headed)) : Type 0 where
  pub more : List Headed
  pub rest : List (List Headed)
  pub is : es ≡ (f ∷ more) ∷ rest

onto_runs : (f : Headed) (es : List (List Headed)) → Runs f (onto_epoch f es)
onto_runs f [] = record { more = []; rest = []; is = refl }
onto_runs f ([] ∷ es) = record { more = []; rest = es; is = refl }
onto_runs f ((g ∷ e) ∷ es) =
    elim (eqb f.header.epoch g.header.epoch) as (λ b. Runs f (cond b ((f ∷ g ∷ e) ∷ es) ((f ∷ []) ∷ (g ∷ e) ∷ es))) [
      | true ↦ record { more = g ∷ e; rest = es; is = refl }
      | false ↦ record { more = []; rest = (g ∷ e) ∷ es; is = refl }
    ]

pub runs : (f : Headed) (fs : List Headed) → Runs f (epochs (f ∷ fs))
runs f fs = onto_runs f (epochs fs)

-- ---- each run is of one epoch, and its files are in a row

abbrev pub IsRun : List Headed → Type 0
IsRun [] = Unit {0}
IsRun (f ∷ fs) = HaveEpoch f.header.epoch (f ∷ fs)

abbrev pub InRow : List Headed → Type 0
InRow fs = chain_claims fs ≡ Ok tt

onto_is_run : (f : Headed) (es : List (List Headed)) → AllByRecursion IsRun es → AllByRecursion IsRun (onto_epoch f es)
onto_is_run f [] h = ((refl, tt), tt)
onto_is_run f ([] ∷ es) h = ((refl, tt), h.1)
onto_is_run f ((g ∷ e) ∷ es) h = by (eqb f.header.epoch g.header.epoch) refl
  where
    by : (b : Bool) → eqb f.header.epoch g.header.epoch ≡ b → AllByRecursion IsRun (cond b ((f ∷ g ∷ e) ∷ es) ((f ∷ []) ∷ (g ∷ e) ∷ es))
    by true k =
        let same = is_equal f.header.epoch g.header.epoch k in
        ((refl, all_by (λ x. x.header.epoch ≡ g.header.epoch) (λ x. x.header.epoch ≡ f.header.epoch) (λ x p. p ∙ sym same) (g ∷ e) h.0), h.1)
    by false k = ((refl, tt), h)

pub all_runs : (fs : List Headed) → AllByRecursion IsRun (epochs fs)
all_runs [] = tt
all_runs (f ∷ fs) = onto_is_run f (epochs fs) (all_runs fs)

pub first_in_row : (f : Headed) (fs : List Headed) → InRow (f ∷ fs) → (more : List Headed) (rest : List (List Headed)) → epochs (f ∷ fs) ≡ (f ∷ more) ∷ rest → InRow (f ∷ more)
first_in_row f [] h more rest e = subst (λ e. InRow (head e)) e refl
  where
    head : List (List Headed) → List Headed
    head [] = []
    head (e ∷ es) = e
first_in_row f (g ∷ fs) h more rest e =
    let parts = next_ok (next_claims f g) (chain_claims (g ∷ fs)) h in
    let r = runs g fs in
    let row : InRow (g ∷ r.more) = first_in_row g fs parts.1 r.more r.rest r.is in
    subst (λ (es : List (List Headed)). InRow (head es)) (sym (ap (onto_epoch f) r.is) ∙ e)
    (elim (eqb f.header.epoch g.header.epoch) as (λ b. InRow (head (cond b ((f ∷ g ∷ r.more) ∷ r.rest) ((f ∷ []) ∷ (g ∷ r.more) ∷ r.rest)))) [
      | true ↦ ok_next (next_claims f g) (chain_claims (g ∷ r.more)) parts.0 row
      | false ↦ refl
    ])
  where
    head : List (List Headed) → List Headed
    head [] = []
    head (e ∷ es) = e

-- ---- files behind the last

-- the epochs of both, where the later files begin another
abbrev pub Differs : List Headed → List Headed → Type 0
Differs [] gs = Unit {0}
Differs fs [] = Unit {0}
Differs (f ∷ []) (g ∷ gs) = f.header.epoch < g.header.epoch
Differs (f ∷ h ∷ fs) (g ∷ gs) = Differs (h ∷ fs) (g ∷ gs)

not_same : (m n : ℕ) → m < n → eqb m n ≡ false
not_same m n h = grind (arith, nat_tests)

onto_both : (f : Headed) (e : List Headed) (es ds : List (List Headed)) (h : Headed) → onto_epoch f (((h ∷ e) ∷ es) ++ ds) ≡ onto_epoch f ((h ∷ e) ∷ es) ++ ds
onto_both f e es ds h =
    elim (eqb f.header.epoch h.header.epoch) as (λ b. cond b ((f ∷ h ∷ e) ∷ (es ++ ds)) ((f ∷ []) ∷ (h ∷ e) ∷ (es ++ ds)) ≡ cond b ((f ∷ h ∷ e) ∷ es) ((f ∷ []) ∷ (h ∷ e) ∷ es) ++ ds) [ true ↦ refl | false ↦ refl ]

pub epochs_apart : (f : Headed) (fs : List Headed) (g : Headed) (gs : List Headed) → Differs (f ∷ fs) (g ∷ gs) → epochs ((f ∷ fs) ++ g ∷ gs) ≡ epochs (f ∷ fs) ++ epochs (g ∷ gs)
epochs_apart f [] g gs d =
    let r = runs g gs in
    ap (onto_epoch f) r.is ∙ ap (λ b. cond b ((f ∷ g ∷ r.more) ∷ r.rest) ((f ∷ []) ∷ (g ∷ r.more) ∷ r.rest)) (not_same f.header.epoch g.header.epoch d)
    ∙ ap (λ (es : List (List Headed)). (f ∷ []) ∷ es) (sym r.is)
epochs_apart f (h ∷ fs) g gs d =
    let r = runs h fs in
    ap (onto_epoch f) (epochs_apart h fs g gs d ∙ ap (λ es. es ++ epochs (g ∷ gs)) r.is) ∙ onto_both f r.more r.rest (epochs (g ∷ gs)) h ∙ ap (λ es. onto_epoch f es ++ epochs (g ∷ gs)) (sym r.is)

-- one file more is one more of the last run, or a run of its own
abbrev pub grown : List (List Headed) → Headed → List (List Headed)
grown [] f = (f ∷ []) ∷ []
grown (e ∷ []) f = (e ++ f ∷ []) ∷ []
grown (e ∷ d ∷ es) f = e ∷ grown (d ∷ es) f

onto_grown : (g h : Headed) (e : List Headed) (es : List (List Headed)) (f : Headed) → onto_epoch g (grown ((h ∷ e) ∷ es) f) ≡ grown (onto_epoch g ((h ∷ e) ∷ es)) f
onto_grown g h e [] f =
    elim (eqb g.header.epoch h.header.epoch) as (λ b. cond b ((g ∷ h ∷ (e ++ f ∷ [])) ∷ []) ((g ∷ []) ∷ (h ∷ (e ++ f ∷ [])) ∷ []) ≡ grown (cond b ((g ∷ h ∷ e) ∷ []) ((g ∷ []) ∷ (h ∷ e) ∷ [])) f) [ true ↦ refl | false ↦ refl ]
onto_grown g h e (d ∷ es) f =
    elim (eqb g.header.epoch h.header.epoch) as (λ b. cond b ((g ∷ h ∷ e) ∷ grown (d ∷ es) f) ((g ∷ []) ∷ (h ∷ e) ∷ grown (d ∷ es) f) ≡ grown (cond b ((g ∷ h ∷ e) ∷ d ∷ es) ((g ∷ []) ∷ (h ∷ e) ∷ d ∷ es)) f) [ true ↦ refl | false ↦ refl ]

pub one_more : (g : Headed) (gs : List Headed) (f : Headed)
    → (epochs ((g ∷ gs) ++ f ∷ []) ≡ grown (epochs (g ∷ gs)) f) ⊎ (epochs ((g ∷ gs) ++ f ∷ []) ≡ epochs (g ∷ gs) ++ (f ∷ []) ∷ [])
one_more g [] f = by (eqb g.header.epoch f.header.epoch)
  where
    by : (b : Bool) → (cond b ((g ∷ f ∷ []) ∷ []) ((g ∷ []) ∷ (f ∷ []) ∷ []) ≡ (g ∷ f ∷ []) ∷ []) ⊎ (cond b ((g ∷ f ∷ []) ∷ []) ((g ∷ []) ∷ (f ∷ []) ∷ []) ≡ (g ∷ []) ∷ (f ∷ []) ∷ [])
    by true = inl refl
    by false = inr refl
one_more g (h ∷ gs) f = by (one_more h gs f) (runs h gs)
  where
    by : (epochs ((h ∷ gs) ++ f ∷ []) ≡ grown (epochs (h ∷ gs)) f) ⊎ (epochs ((h ∷ gs) ++ f ∷ []) ≡ epochs (h ∷ gs) ++ (f ∷ []) ∷ []) → Runs h (epochs (h ∷ gs))
        → (epochs ((g ∷ h ∷ gs) ++ f ∷ []) ≡ grown (epochs (g ∷ h ∷ gs)) f) ⊎ (epochs ((g ∷ h ∷ gs) ++ f ∷ []) ≡ epochs (g ∷ h ∷ gs) ++ (f ∷ []) ∷ [])
    by (inl k) r = inl (ap (onto_epoch g) (k ∙ ap (λ es. grown es f) r.is) ∙ onto_grown g h r.more r.rest f ∙ ap (λ es. grown (onto_epoch g es) f) (sym r.is))
    by (inr k) r = inr (ap (onto_epoch g) (k ∙ ap (λ es. es ++ (f ∷ []) ∷ []) r.is) ∙ onto_both g r.more r.rest ((f ∷ []) ∷ []) h ∙ ap (λ es. onto_epoch g es ++ (f ∷ []) ∷ []) (sym r.is))
