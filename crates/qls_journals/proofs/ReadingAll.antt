-- Journals read one after another.
use Rattle.std.proofs.Common.{◌≡◌, ℕ, ◌*◌, List, [], ◌∷◌, ◌++◌, map, length, Option, Some, None, IfSome, Result, Ok, Err, refl, sym, ap, ◌∙◌, subst, arith, append_assoc, append-nil}
use Rattle.std.proofs.lemmas.List.{map-append}
use Rattle.std.specs.List.{AllByRecursion}
use Rattle.qls_shape.specs.Claims.{each, ◌>>=◌}
use Rattle.qls_record.specs.declared.Got.{Got}
use Rattle.qls_site.specs.Disk.{Disk, IsQuiet, IdsRise, full}
use Rattle.qls_site.specs.Content.{Moment, Content, Tells, OnlyLooks}
use Rattle.qls_site.proofs.Told.{Tells-then, OnlyLooks-then}
use Rattle.qls_meaning.specs.Journals.{Journal}
use Rattle.qls_meaning.specs.Damage.{Damage, Checked, reading_claims}
use Rattle.qls_scan.specs.declared.answers.JournalFiles.{JournalFiles}
use Rattle.qls_scan.specs.Found.{files_of}
use Rattle.qls_pool.specs.Files.{OnDisk}
use Rattle.qls_reading.specs.declared.fault.LogFault.{LogFault}
use Rattle.qls_reading.specs.declared.fault.LogFault.TheVariants.{Failed, Memory, Damaged}
use Rattle.qls_reading.specs.ReadLogs.{ReadLogState, IsThere, IsReadWhole, Says, AreSpelled, StandsAsRead, ReadsAs, journal_in}
use Rattle.qls_journals.specs.Opening.{ReadingState, StandsSo, StandAsRead, ReadsAll, journals_in}

-- ---- while the site is only looked at

there_on : (j : JournalFiles) (a b : Content) → b.now ≡ a.now → IsThere j a → IsThere j b
there_on j a b e h = record {
  rising = subst (λ (m : Moment). IdsRise (full m.disk)) (sym e) h.rising;
  files = subst (λ (m : Moment). files_of (journal_in (full m.disk) j) ≡ j) (sym e) h.files;
  sizes = subst (λ (m : Moment). AllByRecursion (λ f. length f.area ≡ 1024 * f.header.kib) (journal_in (full m.disk) j).files) (sym e) h.sizes;
}

abbrev pub AllThere : List JournalFiles → Content → Type 0
AllThere js c = AllByRecursion (λ j. IsThere j c) js

pub first_there : (j : JournalFiles) (js : List JournalFiles) (o n : Option Content) → Tells OnlyLooks o n → IfSome o (AllThere (j ∷ js)) → IfSome n (IsThere j)
first_there j js None None t h = tt
first_there j js None (Some b) t h = absurd t
first_there j js (Some a) None t h = absurd t
first_there j js (Some a) (Some b) t h = there_on j a b t.now h.0

pub others_there : (j : JournalFiles) (js : List JournalFiles) (o : Option Content) → IfSome o (AllThere (j ∷ js)) → IfSome o (AllThere js)
others_there j js None h = tt
others_there j js (Some c) h = h.1

-- ---- which journals

abbrev pub within : Content → List JournalFiles → List Journal
within c js = map (journal_in (full c.now.disk)) js

-- as far as they were read no rule fails: the first that does is the first of the others
abbrev pub AllSoFar : List JournalFiles → List JournalFiles → Content → Type 0
AllSoFar all rest c = each reading_claims (within c all) ≡ each reading_claims (within c rest)

pub so_far_none : (all : List JournalFiles) (o : Option Content) → IfSome o (AllSoFar all all)
so_far_none all None = tt
so_far_none all (Some c) = refl

one_more : (r s t : Checked) → t ≡ (r >>= λ _. s) → r ≡ Ok tt → t ≡ s
one_more r s t e k = e ∙ ap (λ (q : Checked). q >>= λ _. s) k

stopped : (r s t : Checked) (d : Damage) → t ≡ (r >>= λ _. s) → r ≡ Err d → t ≡ Err d
stopped r s t d e k = e ∙ ap (λ (q : Checked). q >>= λ _. s) k

-- the journal as it was at the start
told_now : (f : JournalFiles) (a b : Content) (r : Result (ReadLogState × List Got) LogFault) → OnlyLooks a b → Says (journal_in (full b.now.disk) f) r → Says (journal_in (full a.now.disk) f) r
told_now f a b r t h = subst (λ (m : Moment). Says (journal_in (full m.disk) f) r) t.now h

pub so_far_next : (all rest : List JournalFiles) (f : JournalFiles) (log : ReadLogState) (records : List Got) (o n : Option Content) → Tells OnlyLooks o n → IfSome o (AllSoFar all (f ∷ rest))
    → IfSome n (λ c. IsReadWhole (journal_in (full c.now.disk) f) log records) → IfSome o (AllSoFar all rest)
so_far_next all rest f log records None n t h s = tt
so_far_next all rest f log records (Some a) None t h s = absurd t
so_far_next all rest f log records (Some a) (Some b) t h s =
    let rules : reading_claims (journal_in (full a.now.disk) f) ≡ Ok tt = subst (λ (m : Moment). reading_claims (journal_in (full m.disk) f) ≡ Ok tt) t.now s.rules in
    one_more (reading_claims (journal_in (full a.now.disk) f)) (each reading_claims (within a rest)) (each reading_claims (within a all)) h rules

pub so_far_end : {X : Type 0} (all rest : List JournalFiles) (x : X) (o : Option Content) → rest ≡ [] → IfSome o (AllSoFar all rest) → IfSome o (λ c. ReadsAll {X = X} (within c all) (Ok x))
so_far_end all rest x None e h = tt
so_far_end all rest x (Some c) e h = h ∙ ap (λ (js : List JournalFiles). each reading_claims (within c js)) e

pub so_far_stops : (X : Type 0) (all rest : List JournalFiles) (f : JournalFiles) (fault : LogFault) (o n : Option Content) → Tells OnlyLooks o n → IfSome o (AllSoFar all (f ∷ rest))
    → IfSome n (λ c. Says (journal_in (full c.now.disk) f) (Err fault)) → IfSome o (λ c. ReadsAll {X = X} (within c all) (Err fault))
so_far_stops X all rest f fault None n t h s = tt
so_far_stops X all rest f fault (Some a) None t h s = absurd t
so_far_stops X all rest f fault (Some a) (Some b) t h s = by fault (told_now f a b (Err fault) t s)
  where
    by : (fault : LogFault) → Says (journal_in (full a.now.disk) f) (Err fault) → ReadsAll {X = X} (within a all) (Err fault)
    by Failed s = tt
    by Memory s = tt
    by (Damaged file rule) s = stopped (reading_claims (journal_in (full a.now.disk) f)) (each reading_claims (within a rest)) (each reading_claims (within a all)) (file, rule) h s

-- ---- what was read

abbrev pub AllSpelled : List JournalFiles → Disk → Type 0
AllSpelled js d = AllByRecursion (λ j. AreSpelled j d) js

-- what was read so far stands, where nothing is pending and headers have their one spelling
abbrev pub StandSoFar : List ReadingState → Disk → Type 0
StandSoFar rs d = IsQuiet d → AllSpelled (journals_in rs) d → StandAsRead rs d

pub stand_none : (rs : List ReadingState) (o : Option Content) → rs ≡ [] → IfSome o (OnDisk (StandSoFar rs))
stand_none rs None e = tt
stand_none rs (Some c) e = subst (λ (us : List ReadingState). StandSoFar us c.now.disk) (sym e) (λ quiet spelled. tt)

all_front : {A : Type 0} (P : A → Type 0) (xs ys : List A) → AllByRecursion P (xs ++ ys) → AllByRecursion P xs
all_front P [] ys h = tt
all_front P (x ∷ xs) ys h = (h.0, all_front P xs ys h.1)

all_last : {A : Type 0} (P : A → Type 0) (xs : List A) (y : A) → AllByRecursion P (xs ++ y ∷ []) → P y
all_last P [] y h = h.0
all_last P (x ∷ xs) y h = all_last P xs y h.1

all_end : {A : Type 0} (P : A → Type 0) (xs : List A) (y : A) → AllByRecursion P xs → P y → AllByRecursion P (xs ++ y ∷ [])
all_end P [] y h k = (k, tt)
all_end P (x ∷ xs) y h k = (h.0, all_end P xs y h.1 k)

one_stands : (rs : List ReadingState) (r : ReadingState) (d : Disk) → StandSoFar rs d → (IsQuiet d → AreSpelled r.log.journal d → StandsAsRead r.log d × ReadsAs r.log r.records d) → StandSoFar (rs ++ r ∷ []) d
one_stands rs r d h k = λ quiet spelled.
    let both : AllSpelled (journals_in rs ++ r.log.journal ∷ []) d = subst (λ (js : List JournalFiles). AllSpelled js d) (map-append (λ (x : ReadingState). x.log.journal) rs (r ∷ [])) spelled in
    let own = k quiet (all_last (λ j. AreSpelled j d) (journals_in rs) r.log.journal both) in
    all_end (StandsSo d) rs r (h quiet (all_front (λ j. AreSpelled j d) (journals_in rs) (r.log.journal ∷ []) both)) (record { log = own.0; records = own.1 })

pub stand_next : (rs us : List ReadingState) (r : ReadingState) (files : JournalFiles) (o n : Option Content) → Tells OnlyLooks o n → us ≡ rs ++ r ∷ [] → r.log.journal ≡ files → IfSome o (OnDisk (StandSoFar rs))
    → IfSome n (OnDisk (λ d. IsQuiet d → AreSpelled files d → StandsAsRead r.log d × ReadsAs r.log r.records d)) → IfSome o (OnDisk (StandSoFar us))
stand_next rs us r files None n t e own h k = tt
stand_next rs us r files (Some a) None t e own h k = absurd t
stand_next rs us r files (Some a) (Some b) t e own h k =
    let d : Disk = a.now.disk in
    let here : IsQuiet d → AreSpelled files d → StandsAsRead r.log d × ReadsAs r.log r.records d =
    subst (λ (m : Moment). IsQuiet m.disk → AreSpelled files m.disk → StandsAsRead r.log m.disk × ReadsAs r.log r.records m.disk) t.now k in
    subst (λ (xs : List ReadingState). StandSoFar xs d) (sym e) (one_stands rs r d h (subst (λ (j : JournalFiles). IsQuiet d → AreSpelled j d → StandsAsRead r.log d × ReadsAs r.log r.records d) (sym own) here))

-- ---- all of them

pub one_read : (rs us : List ReadingState) (r : ReadingState) (f : JournalFiles) (rest all : List JournalFiles) → us ≡ rs ++ r ∷ [] → r.log.journal ≡ f → journals_in rs ++ f ∷ rest ≡ all → journals_in us ++ rest ≡ all
one_read rs us r f rest all e own h =
    ap (λ (xs : List ReadingState). journals_in xs ++ rest) e
    ∙ ap (λ (js : List JournalFiles). js ++ rest) (map-append (λ (x : ReadingState). x.log.journal) rs (r ∷ []))
    ∙ ap (λ (j : JournalFiles). (journals_in rs ++ j ∷ []) ++ rest) own
    ∙ append_assoc (journals_in rs) (f ∷ []) rest ∙ h

pub all_read : (rs : List ReadingState) (rest all : List JournalFiles) → rest ≡ [] → journals_in rs ++ rest ≡ all → journals_in rs ≡ all
all_read rs rest all e h = sym (append-nil (journals_in rs)) ∙ ap (λ (js : List JournalFiles). journals_in rs ++ js) (sym e) ∙ h

pub stand_all : (rs : List ReadingState) (all : List JournalFiles) (o : Option Content) → journals_in rs ≡ all → IfSome o (OnDisk (StandSoFar rs)) → IfSome o (OnDisk (λ d. IsQuiet d → AllSpelled all d → StandAsRead rs d))
stand_all rs all None e h = tt
stand_all rs all (Some c) e h = subst (λ (js : List JournalFiles). IsQuiet c.now.disk → AllSpelled js c.now.disk → StandAsRead rs c.now.disk) e h

pub looks_on : (a b c : Option Content) → Tells OnlyLooks a b → Tells OnlyLooks b c → Tells OnlyLooks a c
looks_on a b c t u = Tells-then OnlyLooks OnlyLooks OnlyLooks a b c t u OnlyLooks-then

pub none_left : {A : Type 0} (xs : List A) (n : ℕ) → n ≡ length xs → n ≡ 0 → xs ≡ []
none_left [] n e z = refl
none_left (x ∷ xs) n e z = absurd (omega (arith, e, z))

-- no fault comes out of want of memory
pub memory_says : (X : Type 0) (all : List JournalFiles) (o : Option Content) → IfSome o (λ c. ReadsAll {X = X} (within c all) (Err Memory))
memory_says X all None = tt
memory_says X all (Some c) = tt
