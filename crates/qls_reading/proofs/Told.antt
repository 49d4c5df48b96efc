-- The steps of a reading where the site tells.
use Rattle.std.proofs.Common.{◌≡◌, ℕ, zero, suc, ◌+◌, ◌-◌, ◌*◌, ◌<◌, ◌≤◌, false, List, [], ◌∷◌, map, length, drop, Option, Some, None, IfSome, Result, Ok, Err, refl, sym, ap, ◌∙◌, subst, arith}
use Rattle.qls_site.specs.Disk.{Disk}
use Rattle.qls_site.specs.Content.{Content, Moment, Tells, OnlyLooks}
use Rattle.qls_site.proofs.Told.{Tells-then, Tells-weaken, OnlyLooks-none, OnlyLooks-then}
use Rattle.qls_record.specs.declared.Got.{Got}
use Rattle.qls_meaning.specs.Journals.{Headed}
use Rattle.qls_meaning.specs.Reading.{stream, records_from, and_then, holder, number_of, place_of, read_of}
use Rattle.qls_meaning.specs.Damage.{Damage}
use Rattle.qls_laws.proofs.Prefix.{follow}
use Rattle.qls_laws.proofs.Ends.{record_fits}
use Rattle.qls_scan.specs.declared.answers.HeadedFile.{HeadedFile}
use Rattle.qls_scan.proofs.HeadSteps.{looked_back}
use Rattle.qls_reader.specs.Spots.{all_length, end_spot, AreSpotsOf, AreSeen, AreThere}
use Rattle.qls_reader.specs.declared.spot.FileSpot.{FileSpot}
use Rattle.qls_reader.specs.Reads.{OnlyReads}
use Rattle.qls_reader.specs.Windows.{AreAhead}
use Rattle.qls_reader.specs.States.{ReaderState, ReadsAhead, ReadsNext, Steps}
use Rattle.qls_reader.specs.declared.fault.ReadFault.{ReadFault}
use Rattle.qls_reader.specs.declared.reader.Next.{Next}
use Rattle.qls_reader.specs.declared.reader.Next.TheVariants as next
use Rattle.qls_reader.proofs.Stream.{length-area}
use Rattle.qls_reader.proofs.Ending.{end_place}
use Rattle.qls_reading.specs.declared.rules.Spot.{Spot}
use Rattle.qls_reading.specs.declared.rules.Course.{Course}
use Rattle.qls_reading.specs.declared.tally.Tally.{Tally}
use Rattle.qls_reading.specs.declared.fault.LogFault.{LogFault}
use Rattle.qls_reading.specs.declared.fault.LogFault.TheVariants.{Failed, Memory, Damaged}
use Rattle.qls_reading.specs.Groups.{spot_of, last_spot, AreCounted}
use Rattle.qls_reading.specs.Tested.{come_on, TakesRecord}
use Rattle.qls_reading.specs.Left.{file_on, files_on, AreOnSite, ReadsOn}
use Rattle.qls_reading.proofs.Counts.{length-stream}
use Rattle.qls_reading.proofs.Enter.{IsSpotAt, AreSized, there_of}
use Rattle.qls_reading.proofs.Way.{IsUnderWay}
use Rattle.qls_reading.proofs.Steps.{takes_one, refuses_one, reads_end, refuses_end}

pub only_looks : (a b : Content) → OnlyReads a b → OnlyLooks a b
only_looks a b r = record { now = r.now; since = (r.count, r.moments) }

pub looks_none : (a : Option Content) → Tells OnlyLooks a a
looks_none None = tt
looks_none (Some c) = OnlyLooks-none c

-- a reader that has read nothing yet
pub none_ahead : (a : Option Content) (r : ReaderState) → r.held ≡ [] → IfSome a (λ c. ReadsAhead c.now.disk r)
none_ahead None r e = tt
none_ahead (Some c) r e = subst (λ (bs : List ℕ). AreAhead c.now.disk r.files r.place bs) (sym e) refl

-- what a step says by its answer alone
pub steps_on : (old new : ReaderState) (r : Next) (got : Got) → r ≡ next.Got got → Steps old new (Ok r) → (new.ended ≡ false) × (new.files ≡ old.files)
steps_on old new r got e h = let steps : Steps old new (Ok (next.Got got)) = subst (λ x. Steps old new (Ok x)) e h in (steps.1, steps.2)

pub ends_at : (old new : ReaderState) (r : Next) (file at : ℕ) → r ≡ next.End file at → Steps old new (Ok r) → end_spot old.files old.place ≡ record { file = file; at = at }
ends_at old new r file at e h = let steps : Steps old new (Ok (next.End file at)) = subst (λ x. Steps old new (Ok x)) e h in steps.1

-- one read more
pub looks_on : (a b c : Option Content) → Tells OnlyLooks a b → Tells OnlyReads b c → Tells OnlyLooks a c
looks_on a b c looked read = Tells-then OnlyLooks OnlyLooks OnlyLooks a b c looked (Tells-weaken OnlyReads OnlyLooks b c read only_looks) OnlyLooks-then

-- ---- the files on the site

pub are_there : (hs : List HeadedFile) (c : Content) → AreOnSite hs c → AreThere (map spot_of hs) c
are_there [] c h = tt
are_there (f ∷ hs) c h = (h.0, are_there hs c h.1)

-- they are there after looks too
pub still_there : (a b : Option Content) (hs : List HeadedFile) (ss : List FileSpot) → Tells OnlyLooks a b → IfSome a (AreOnSite hs) → ss ≡ map spot_of hs → IfSome b (AreThere ss)
still_there None None hs ss t h e = tt
still_there None (Some c) hs ss t h e = absurd t
still_there (Some b) None hs ss t h e = absurd t
still_there (Some b) (Some c) hs ss t h e =
    subst (λ (xs : List FileSpot). AreThere xs c) (sym e) (are_there hs c (subst (λ (m : Moment). AreOnSite hs (record { now = m; moments = c.moments })) (sym t.now) h))

pub still_on : (a b : Option Content) (hs : List HeadedFile) → Tells OnlyLooks a b → IfSome a (AreOnSite hs) → IfSome b (AreOnSite hs)
still_on None None hs t h = tt
still_on None (Some c) hs t h = absurd t
still_on (Some b) None hs t h = absurd t
still_on (Some b) (Some c) hs t h = subst (λ (m : Moment). AreOnSite hs (record { now = m; moments = c.moments })) (sym t.now) h

pub are_sized : (hs : List HeadedFile) (c : Content) → AreOnSite hs c → AreSized c.now.disk hs
are_sized [] c h = tt
are_sized (f ∷ hs) c h = (length-area (spot_of f) c h.0, are_sized hs c h.1)

pub are_seen : (d : Disk) (hs : List HeadedFile) → AreSized d hs → AreSeen d (map spot_of hs) (files_on d hs)
are_seen d [] s = tt
are_seen d (f ∷ hs) s = (record { number = refl; serial = refl; first = refl; size = s.0 }, refl, are_seen d hs s.1)

pub are_spots : (d : Disk) (hs : List HeadedFile) → AreSized d hs → AreSpotsOf (map spot_of hs) (files_on d hs)
are_spots d [] s = tt
are_spots d (f ∷ hs) s = (record { number = refl; serial = refl; first = refl; size = s.0 }, are_spots d hs s.1)

pub length-all : (d : Disk) (hs : List HeadedFile) → AreSized d hs → length (stream (files_on d hs)) ≡ all_length (map spot_of hs)
length-all d [] s = refl
length-all d (f ∷ hs) s = omega (arith, length-stream (file_on d f) (files_on d hs), s.0, length-all d hs s.1)

-- ---- spots

spot_got : (d : Disk) (hs : List HeadedFile) (place : ℕ) (spot : Spot) → AreSized d hs → place < length (stream (files_on d hs))
    → spot.file ≡ number_of (holder (files_on d hs) place) → spot.at ≡ place_of (holder (files_on d hs) place) → IsSpotAt hs place spot
spot_got d [] place spot s l file at = tt
spot_got d (h ∷ hs) place spot s l file at =
    let law = end_place place (map spot_of (h ∷ hs)) (files_on d (h ∷ hs)) (are_spots d (h ∷ hs) s) (let all = length-all d (h ∷ hs) s in omega (arith, l, all)) in
    (file ∙ sym (ap (λ e. e.file) law), at ∙ sym (ap (λ e. e.at) law))

spot_end : (hs : List HeadedFile) (ss : List FileSpot) (place file at : ℕ) → ss ≡ map spot_of hs → end_spot ss place ≡ record { file = file; at = at } → IsSpotAt hs place (record { file = file; at = at })
spot_end [] ss place file at is e = tt
spot_end (h ∷ hs) ss place file at is e =
    let same : end_spot (map spot_of (h ∷ hs)) place ≡ record { file = file; at = at } = ap (λ x. end_spot x place) (sym is) ∙ e in
    (sym (ap (λ x. x.file) same), sym (ap (λ x. x.at) same))

spot_last : (d : Disk) (hs : List HeadedFile) (place : ℕ) → AreSized d hs → place ≡ length (stream (files_on d hs)) → IsSpotAt hs place (last_spot hs)
spot_last d [] place s e = tt
spot_last d (h ∷ []) place s e = let all = length-stream (file_on d h) [] in (refl, omega (arith, e, all, s.0))
spot_last d (h ∷ g ∷ hs) place s e =
    let all = length-stream (file_on d h) (files_on d (g ∷ hs)) in
    let size = s.0 in
    let rest = spot_last d (g ∷ hs) (place - 1024 * h.header.kib) s.1 (omega (arith, e, all, size)) in
    let there = there_of h g hs place (omega (arith, e, all, size)) in
    (rest.0 ∙ sym (ap (λ x. x.file) there), rest.1 ∙ sym (ap (λ x. x.at) there))

-- ---- the steps

one_more : (i units : ℕ) → i < units → units - i ≡ suc (units - (i + 1))
one_more i units l = omega (arith, l)

module _ (hs : List HeadedFile) (from : Course) (old : Tally) (counted : AreCounted hs) where
  module _ (now : Tally) (course : Course) (reader : ReaderState) (files : reader.files ≡ map spot_of hs) where
    abbrev pub IsOn : ℕ → Content → Type 0
    IsOn n c = IsUnderWay c.now.disk hs from old now course n reader.place

    abbrev pub Reads : ReaderState → Result Next ReadFault → Content → Type 0
    Reads after r c = (fs : List Headed) → AreSeen c.now.disk reader.files fs → ReadsNext fs reader after r

    -- what was read after looks is read of the disk before them
    pub reads_back : (a b : Option Content) (after : ReaderState) (r r' : Result Next ReadFault) → Tells OnlyLooks a b → r ≡ r' → IfSome b (Reads after r) → IfSome a (Reads after r')
    reads_back a b after r r' t e h =
        looked_back (λ d. (fs : List Headed) → AreSeen d reader.files fs → ReadsNext fs reader after r') a b t (subst (λ x. IfSome b (Reads after x)) e h)

    seen : (c : Content) → AreOnSite hs c → AreSeen c.now.disk reader.files (files_on c.now.disk hs)
    seen c on = subst (λ ss. AreSeen c.now.disk ss (files_on c.now.disk hs)) (sym files) (are_seen c.now.disk hs (are_sized hs c on))

    module _ (after : ReaderState) (got : Got) where
      spot_there : (c : Content) → AreOnSite hs c → Reads after (Ok (next.Got got)) c → IsSpotAt hs reader.place (record { file = got.file; at = got.at })
      spot_there c on reads =
          let out = reads (files_on c.now.disk hs) (seen c on) in
          let fits = record_fits (files_on c.now.disk hs) reader.place (read_of got).what out.stands in
          spot_got c.now.disk hs reader.place (record { file = got.file; at = got.at }) (are_sized hs c on) (omega (arith, fits.0, fits.1))
          (ap (λ r. r.file) out.there) (ap (λ r. r.at) out.there)

      pub told_takes : (a : Option Content) (i units : ℕ) (now' : Tally) (to : Course) → IfSome a (AreOnSite hs) → i < units → IfSome a (IsOn (units - i)) → IfSome a (Reads after (Ok (next.Got got)))
          → TakesRecord hs course now now' got (Ok to) → IfSome a (λ c. IsUnderWay c.now.disk hs from old now' to (units - (i + 1)) after.place)
      told_takes None i units now' to on l way reads taken = tt
      told_takes (Some c) i units now' to on l way reads taken =
          let under : IsOn (suc (units - (i + 1))) c = subst (λ n. IsOn n c) (one_more i units l) way in
          takes_one c.now.disk hs from old (are_sized hs c on) counted now course (units - (i + 1)) reader.place under reader after got refl (reads (files_on c.now.disk hs) (seen c on)) now' to (spot_there c on reads) taken

      pub told_refuses : (a : Option Content) (i units : ℕ) (now' : Tally) (fault : LogFault) → IfSome a (AreOnSite hs) → i < units → IfSome a (IsOn (units - i)) → IfSome a (Reads after (Ok (next.Got got)))
          → TakesRecord hs course now now' got (Err fault) → (any : Tally) → IfSome a (λ c. ReadsOn (files_on c.now.disk hs) from old any (Err fault))
      told_refuses None i units now' fault on l way reads taken any = tt
      told_refuses (Some c) i units now' Failed on l way reads taken any = tt
      told_refuses (Some c) i units now' Memory on l way reads taken any = tt
      told_refuses (Some c) i units now' (Damaged id broken) on l way reads taken any =
          let under : IsOn (suc (units - (i + 1))) c = subst (λ n. IsOn n c) (one_more i units l) way in
          refuses_one c.now.disk hs from old (are_sized hs c on) counted now course (units - (i + 1)) reader.place under reader after got refl (reads (files_on c.now.disk hs) (seen c on)) now' id broken (spot_there c on reads) taken

    -- no record stands at the place
    module _ (after : ReaderState) (file at : ℕ) (there : end_spot reader.files reader.place ≡ record { file = file; at = at }) where
      abbrev spot : Spot
      spot = record { file = file; at = at }

      none_stands : (c : Content) (n : ℕ) → AreOnSite hs c → Reads after (Ok (next.End file at)) c → records_from (files_on c.now.disk hs) n reader.place ≡ []
      none_stands c zero on reads = refl
      none_stands c (suc n) on reads = ap (λ o. and_then o (follow (files_on c.now.disk hs) n reader.place)) (reads (files_on c.now.disk hs) (seen c on))

      pub told_ends : (a : Option Content) (n : ℕ) (to : Course) → IfSome a (AreOnSite hs) → IfSome a (IsOn n) → IfSome a (Reads after (Ok (next.End file at)))
          → come_on course now.rid spot (drop course.came hs) ≡ Ok to → IfSome a (λ c. ReadsOn (files_on c.now.disk hs) from old now (Ok to))
      told_ends None n to on way reads came = tt
      told_ends (Some c) n to on way reads came =
          reads_end c.now.disk hs from old (are_sized hs c on) counted now course n reader.place spot way (none_stands c n on reads) (spot_end hs reader.files reader.place file at files there) to came

      pub told_refuses_end : (a : Option Content) (n : ℕ) (fault : Damage) → IfSome a (AreOnSite hs) → IfSome a (IsOn n) → IfSome a (Reads after (Ok (next.End file at)))
          → come_on course now.rid spot (drop course.came hs) ≡ Err fault → (any : Tally) → IfSome a (λ c. ReadsOn (files_on c.now.disk hs) from old any (Err (Damaged fault.0 fault.1)))
      told_refuses_end None n fault on way reads came any = tt
      told_refuses_end (Some c) n fault on way reads came any =
          refuses_end c.now.disk hs from old (are_sized hs c on) counted now course n reader.place spot way (none_stands c n on reads) (spot_end hs reader.files reader.place file at files there) fault came

    -- the epoch is full
    full_place : (c : Content) → AreOnSite hs c → IsOn 0 c → IsSpotAt hs reader.place (last_spot hs)
    full_place c on way = spot_last c.now.disk hs reader.place (are_sized hs c on) (omega (arith, way.room, way.within))

    pub told_full : (a : Option Content) (i units : ℕ) (to : Course) → IfSome a (AreOnSite hs) → units ≤ i → IfSome a (IsOn (units - i))
        → come_on course now.rid (last_spot hs) (drop course.came hs) ≡ Ok to → IfSome a (λ c. ReadsOn (files_on c.now.disk hs) from old now (Ok to))
    told_full None i units to on l way came = tt
    told_full (Some c) i units to on l way came =
        let under : IsOn 0 c = subst (λ n. IsOn n c) (omega (arith, l)) way in
        reads_end c.now.disk hs from old (are_sized hs c on) counted now course 0 reader.place (last_spot hs) under refl (full_place c on under) to came

    pub told_refuses_full : (a : Option Content) (i units : ℕ) (fault : Damage) → IfSome a (AreOnSite hs) → units ≤ i → IfSome a (IsOn (units - i))
        → come_on course now.rid (last_spot hs) (drop course.came hs) ≡ Err fault → (any : Tally) → IfSome a (λ c. ReadsOn (files_on c.now.disk hs) from old any (Err (Damaged fault.0 fault.1)))
    told_refuses_full None i units fault on l way came any = tt
    told_refuses_full (Some c) i units fault on l way came any =
        let under : IsOn 0 c = subst (λ n. IsOn n c) (omega (arith, l)) way in
        refuses_end c.now.disk hs from old (are_sized hs c on) counted now course 0 reader.place (last_spot hs) under refl (full_place c on under) fault came
