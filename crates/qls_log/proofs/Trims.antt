-- A file past the reading goes back to its pool, and then the others.
use Rattle.std.proofs.Common.{◌≡◌, inl, inr, ℕ, zero, suc, ◌+◌, ◌-◌, ◌<◌, ◌≤◌, Bool, true, false, ◌||◌, ◌==◌, List, [], ◌∷◌, ◌++◌, map, length, take, drop, Option, Some, None, IfSome, IsTrue, Ok, Err, refl, sym, ap, ap₂, ◌∙◌, subst, arith, append_assoc, append-nil, length-append}
use Rattle.std.specs.List.{AllByRecursion, list_any}
use Rattle.qls_site.specs.declared.site.SiteError.{SiteError}
use Rattle.qls_site.specs.declared.site.SiteError.TheVariants.{Failed, Memory}
use Rattle.qls_site.specs.declared.site.Place.TheVariants.{Empty}
use Rattle.qls_site.specs.Disk.{Disk, FileState, IsQuiet, file_of, full_file, all_written, bytes_at, seen_bytes}
use Rattle.qls_site.specs.Content.{Moment, Content, Tells, Acts, MayAct, Leads}
use Rattle.qls_site.proofs.Told.{Tells-weaken}
use Rattle.qls_filehdr.specs.declared.FileHeader.{FileHeader}
use Rattle.qls_filehdr.specs.Header.{header_spelling}
use Rattle.qls_filehdr.specs.Limits.{is_legal_header}
use Rattle.qls_meaning.specs.Journals.{Headed, Journal, headed, is_in_use, is_of, epochs}
use Rattle.qls_meaning.specs.Reading.{journal_reading}
use Rattle.qls_meaning.specs.Damage.{oldest_rid}
use Rattle.qls_meaning.specs.Dead.{newest_number, past_in, past_files}
use Rattle.qls_meaning.specs.Spent.{rid_of_reads}
use Rattle.qls_meaning.specs.Orderly.{journal_on}
use Rattle.qls_meaning.specs.History.{newly_used}
use Rattle.qls_laws.specs.Undamaged.{BreaksNoRule}
use Rattle.qls_epochs.specs.Trims.{without_newest}
use Rattle.qls_epochs.proofs.Trimmed.{snoc, files_less, trimmed_past, trimmed_reading, trimmed_rules}
use Rattle.qls_pool.specs.Pools.{PoolState}
use Rattle.qls_pool.specs.Files.{HeadedFile, IsLinked, IsAtRest, LinkedThere, RestsThere, IsPoolOf, HasPool, OnDisk, Carries, is_among}
use Rattle.qls_pool.specs.Taking.{put_back}
use Rattle.qls_pool.specs.Moments.{Passes, Arrives, EndsIn}
use Rattle.qls_pool.specs.Serials.{serials_taken, taken_since}
use Rattle.qls_pool.proofs.Came.{none_came, none_same, none_back}
use Rattle.qls_pool.proofs.Disks.{eqb_own}
use Rattle.qls_pool.proofs.Moments.{Arrives-then, Arrives-passes, Arrives-acts, Arrives-same, Passes-of, Passes-same, Passes-may, since_of, since_is}
use Rattle.qls_pool.proofs.Serials.{taken_then}
use Rattle.qls_pool.proofs.Steps.{differ_change, back_step}
use Rattle.qls_log.specs.declared.opening.Opening.{Opening}
use Rattle.qls_log.specs.Logs.{IsOfJournal, capacity_in}
use Rattle.qls_log.specs.Standing.{HasFiles, AreApart, AreThoseFiles, RestsBut, files_on}
use Rattle.qls_log.specs.Leaving.{LeavesInOrder, LeavesFromQuiet}
use Rattle.qls_log.specs.Steps.{IsLogStep, PassesOwn}
use Rattle.qls_log.specs.Returning.{with_backs, StopsBack}
use Rattle.qls_log.specs.Trimming.{newest_first, EpochsRise, CountFrom, AreInRow, MayTrim, Trims}
use Rattle.qls_log.proofs.Leaves.{leaves_none, leaves_one, quiet_without}
use Rattle.qls_log.proofs.Making.{newest_push}
use Rattle.qls_log.proofs.OwnSteps.{own_same, own_step, back_changes}
use Rattle.qls_log.proofs.OwnWrites.{own_one}
use Rattle.qls_log.proofs.Splits.{IsOrBelow, files-unlinked_last, split}
use Rattle.qls_log.proofs.Returns.{backs_append, among_parts, linked_found, differ_by}
use Rattle.qls_log.proofs.Takes.{header_seen, other_changed}

no_both : (b : Bool) → b ≡ true → b ≡ false → ⊥
no_both b x y = cc

-- ---- lists by their last element

pub last_all : (P : HeadedFile → Type 0) (hs : List HeadedFile) (h : HeadedFile) → AllByRecursion P (hs ++ h ∷ []) → AllByRecursion P hs × P h
last_all P [] h a = (tt, a.0)
last_all P (g ∷ hs) h a = let rest = last_all P hs h a.1 in ((a.0, rest.0), rest.1)

more_by_one : (hs : List HeadedFile) (h : HeadedFile) → length (hs ++ h ∷ []) ≡ length hs + 1
more_by_one hs h = length-append hs (h ∷ [])

take_seam : (hs gs : List HeadedFile) → take (length hs) (hs ++ gs) ≡ hs
take_seam [] gs = refl
take_seam (h ∷ hs) gs = ap (λ (xs : List HeadedFile). h ∷ xs) (take_seam hs gs)

drop_seam : (hs gs : List HeadedFile) → drop (length hs) (hs ++ gs) ≡ gs
drop_seam [] gs = refl
drop_seam (h ∷ hs) gs = drop_seam hs gs

pub newest_snoc : (k : ℕ) (hs : List HeadedFile) (h : HeadedFile) → newest_first (suc k) (hs ++ h ∷ []) ≡ h ∷ newest_first k hs
newest_snoc k hs h =
    let less : length (hs ++ h ∷ []) - 1 ≡ length hs = omega (arith, more_by_one hs h) in
    ap (λ n. drop n (hs ++ h ∷ []) ++ newest_first k (take n (hs ++ h ∷ []))) less
    ∙ ap₂ (λ (x y : List HeadedFile). x ++ newest_first k y) (drop_seam hs (h ∷ [])) (take_seam hs (h ∷ []))

take_front : (fs : List Headed) (g : Headed) → take (length (fs ++ g ∷ []) - 1) (fs ++ g ∷ []) ≡ fs
take_front fs g = ap (λ n. take n (fs ++ g ∷ [])) (omega (arith, length-append fs (g ∷ []))) ∙ seam fs
  where
    seam : (xs : List Headed) → take (length xs) (xs ++ g ∷ []) ≡ xs
    seam [] = refl
    seam (x ∷ xs) = ap (λ (ys : List Headed). x ∷ ys) (seam xs)

number_last : (n : ℕ) (hs : List HeadedFile) (h : HeadedFile) → CountFrom n (hs ++ h ∷ []) → h.header.number ≡ n + length hs
number_last n [] h m = m.0 ∙ omega arith
number_last n (g ∷ hs) h m = number_last (n + 1) hs h m.1 ∙ omega arith

count_front : (n : ℕ) (hs : List HeadedFile) (h : HeadedFile) → CountFrom n (hs ++ h ∷ []) → CountFrom n hs
count_front n [] h m = tt
count_front n (g ∷ hs) h m = (m.0, count_front (n + 1) hs h m.1)

rise_front : (hs : List HeadedFile) (h : HeadedFile) → EpochsRise (hs ++ h ∷ []) → EpochsRise hs
rise_front [] h r = tt
rise_front (g ∷ []) h r = tt
rise_front (g ∷ k ∷ hs) h r = (r.0, rise_front (k ∷ hs) h r.1)

pub row_front : (o : Opening) (hs : List HeadedFile) (h : HeadedFile) → AreInRow o (hs ++ h ∷ []) → AreInRow o hs
row_front o hs h r = record {
  own = (last_all (IsOfJournal o) hs h r.own).0;
  legal = (last_all (λ g. IsTrue (is_legal_header g.header)) hs h r.legal).0;
  rise = rise_front hs h r.rise;
  first = r.first;
  numbers = count_front r.first hs h r.numbers;
}

apart_last : (hs : List HeadedFile) (h : HeadedFile) → AreApart (hs ++ h ∷ []) → AreApart hs × AllByRecursion (λ g. (g.id ≡ h.id) → ⊥) hs
apart_last [] h a = (tt, tt)
apart_last (g ∷ hs) h a =
    let rest = apart_last hs h a.1 in
    let own = last_all (λ k. (k.id ≡ g.id) → ⊥) hs h a.0 in
    ((own.0, rest.0), (λ e. own.1 (sym e), rest.1))

those_last : (size : ℕ) (hs : List HeadedFile) (h : HeadedFile) (fs : List Headed) (g : Headed) → AreThoseFiles size (hs ++ h ∷ []) (fs ++ g ∷ []) → AreThoseFiles size hs fs
those_last size [] h [] g t = tt
those_last size [] h (f ∷ []) g t = absurd t.1
those_last size [] h (f ∷ e ∷ fs) g t = absurd t.1
those_last size (k ∷ []) h [] g t = absurd t.1
those_last size (k ∷ l ∷ hs) h [] g t = absurd t.1
those_last size (k ∷ hs) h (f ∷ fs) g t = (t.0, those_last size hs h fs g t.1)

those_below : (size n : ℕ) (hs : List HeadedFile) (h : HeadedFile) (fs : List Headed) → CountFrom n (hs ++ h ∷ []) → AreThoseFiles size (hs ++ h ∷ []) fs → AllByRecursion (IsOrBelow h.id h.header.number) fs
those_below size n [] h [] m t = absurd t
those_below size n [] h (f ∷ []) m t = (λ same. absurd (no_both (f.id == h.id) (ap (λ i. i == h.id) t.0.id ∙ eqb_own h.id) same), tt)
those_below size n [] h (f ∷ g ∷ fs) m t = absurd t.1
those_below size n (k ∷ hs) h [] m t = absurd t
those_below size n (k ∷ hs) h (f ∷ fs) m t =
    let number : f.header.number ≡ n = ap (λ (x : FileHeader). x.number) t.0.header ∙ m.0 in
    let newest : h.header.number ≡ n + 1 + length hs = number_last (n + 1) hs h m.1 in
    (λ same. omega (arith, number, newest), those_below size (n + 1) hs h fs m.1 t.1)

among_last : (ps : List Headed) (f : Headed) → list_any (λ g. g.id == f.id) (ps ++ f ∷ []) ≡ true
among_last [] f = ap (λ b. b || false) (eqb_own f.id)
among_last (p ∷ ps) f = ap (λ b. (p.id == f.id) || b) (among_last ps f) ∙ or_true (p.id == f.id)
  where
    or_true : (b : Bool) → (b || true) ≡ true
    or_true true = refl
    or_true false = refl

oldest_front : (fs : List Headed) (g : Headed) → 0 < length fs → oldest_rid (fs ++ g ∷ []) ≡ oldest_rid fs
oldest_front [] g some = absurd (omega (arith, some))
oldest_front (f ∷ fs) g some = refl

pub record Last (fs : List Headed) (k : ℕ) : Type 0 where
  pub front : List Headed
  pub newest : Headed
  pub is : fs ≡ front ++ newest ∷ []
  pub count : length front ≡ k

last_of_some : (fs : List Headed) (k : ℕ) → length fs ≡ suc k → Last fs k
last_of_some [] k e = absurd (omega (arith, e))
last_of_some (f ∷ fs) k e =
    let s = snoc f fs in
    record { front = s.front; newest = s.newest; is = s.is; count = omega (arith, sym e ∙ ap length s.is ∙ length-append s.front (s.newest ∷ [])) }

-- ---- one file

module _ (o : Opening) (pool left : PoolState) (hs : List HeadedFile) (h : HeadedFile) (k rid : ℕ) (x : Content) (row : AreInRow o (hs ++ h ∷ [])) (may : MayTrim o pool (hs ++ h ∷ []) (suc k) rid x.now.disk) where
  abbrev d : Disk
  d = x.now.disk

  abbrev homed : FileState → FileState
  homed f = record f { place = Empty h.header.part h.header.kib }

  abbrev after : Moment
  after = put_back h.id h.header x.now

  linked : AllByRecursion (λ g. LinkedThere g d) hs × LinkedThere h d
  linked = last_all (λ g. LinkedThere g d) hs h may.there.linked

  headers : AllByRecursion (λ g. take 4096 (bytes_at g.id d) ≡ header_spelling g.header) hs × (take 4096 (bytes_at h.id d) ≡ header_spelling h.header)
  headers = last_all (λ g. take 4096 (bytes_at g.id d) ≡ header_spelling g.header) hs h may.there.headers

  legal : IsTrue (is_legal_header h.header)
  legal = (last_all (λ g. IsTrue (is_legal_header g.header)) hs h row.legal).1

  apart : AreApart hs × AllByRecursion (λ g. (g.id ≡ h.id) → ⊥) hs
  apart = apart_last hs h may.there.apart

  some : 0 < length hs
  some = omega (arith, may.fewer, more_by_one hs h)

  found : (f : FileState) × (file_of h.id d ≡ Some f) × IsLinked h (Some f)
  found = linked_found h (file_of h.id d) linked.1

  useful : is_in_use found.0.place ≡ true
  useful = ap is_in_use found.2.0

  own : is_of o.kind o.name (headed (full_file found.0)) ≡ true
  own = (own_one o h d (Some found.0) found.1 found.2 headers.1 (last_all (IsOfJournal o) hs h row.own).1 legal).1

  number : (headed (full_file found.0)).header.number ≡ h.header.number
  number =
      ap (λ (z : FileHeader). z.number) (header_seen h.header (all_written found.0.pending found.0.stable) legal (ap (λ (p : Option FileState). take 4096 (seen_bytes p)) (sym found.1) ∙ headers.1))

  unlinked : files_on o d ≡ files_on o after.disk ++ headed (full_file found.0) ∷ []
  unlinked =
      files-unlinked_last o h.id found.0 homed d (split h.id found.0 d may.there.differ found.1) useful refl own
      (subst (λ n. AllByRecursion (IsOrBelow h.id n) (files_on o d)) (sym number) (those_below (capacity_in o) row.first hs h (files_on o d) row.numbers may.there.files))

  others_found : (id : ℕ) → (id == h.id) ≡ false → file_of id after.disk ≡ file_of id d
  others_found id e = other_changed h.id id homed (λ f. refl) e d

  linked_still : (gs : List HeadedFile) → AllByRecursion (λ g. (g.id ≡ h.id) → ⊥) gs → AllByRecursion (λ g. LinkedThere g d) gs → AllByRecursion (λ g. LinkedThere g after.disk) gs
  linked_still [] apart l = tt
  linked_still (g ∷ gs) apart l = (subst (IsLinked g) (sym (others_found g.id (differ_by g.id h.id apart.0))) l.0, linked_still gs apart.1 l.1)

  headers_still : (gs : List HeadedFile) → AllByRecursion (λ g. (g.id ≡ h.id) → ⊥) gs → AllByRecursion (λ g. take 4096 (bytes_at g.id d) ≡ header_spelling g.header) gs
      → AllByRecursion (λ g. take 4096 (bytes_at g.id after.disk) ≡ header_spelling g.header) gs
  headers_still [] apart k = tt
  headers_still (g ∷ gs) apart k = (ap (λ (p : Option FileState). take 4096 (seen_bytes p)) (others_found g.id (differ_by g.id h.id apart.0)) ∙ k.0, headers_still gs apart.1 k.1)

  rests_still : (gs : List HeadedFile) → AllByRecursion (λ g. (g.id ≡ h.id) → ⊥) gs → RestsBut [] gs d → RestsBut [] gs after.disk
  rests_still [] apart r = tt
  rests_still (g ∷ gs) apart r = (λ e. subst (IsAtRest g) (sym (others_found g.id (differ_by g.id h.id apart.0))) (r.0 e), rests_still gs apart.1 r.1)

  files_after : HasFiles o hs after.disk
  files_after = record {
    differ = differ_change h.id homed (λ f. refl) d may.there.differ;
    apart = apart.0;
    linked = linked_still hs apart.1 linked.0;
    headers = headers_still hs apart.1 headers.0;
    files = those_last (capacity_in o) hs h (files_on o after.disk) (headed (full_file found.0)) (subst (AreThoseFiles (capacity_in o) (hs ++ h ∷ [])) unlinked may.there.files);
  }

  abbrev journal_was : Journal
  journal_was = journal_on d o.kind o.name

  abbrev journal_is : Journal
  journal_is = journal_on after.disk o.kind o.name

  less : without_newest journal_was ≡ journal_is
  less =
      ap (λ (fs : List Headed). record journal_was { files = fs })
      (ap (λ (fs : List Headed). take (length fs - 1) fs) unlinked ∙ take_front (files_on o after.disk) (headed (full_file found.0)))

  newest : Last (past_files journal_was) k
  newest = last_of_some (past_files journal_was) k may.past

  reading : journal_reading journal_is ≡ journal_reading journal_was
  reading = ap journal_reading (sym less) ∙ trimmed_reading journal_was newest.front newest.newest newest.is

  some_on : 0 < length (files_on o after.disk)
  some_on = subst (λ n. 0 < n) (sym (Rattle.qls_log.proofs.Older.those_count (capacity_in o) hs (files_on o after.disk) files_after.files)) some

  oldest : oldest_rid (files_on o after.disk) ≡ oldest_rid (files_on o d)
  oldest = sym (oldest_front (files_on o after.disk) (headed (full_file found.0)) some_on) ∙ ap oldest_rid (sym unlinked)

  may_after : IsPoolOf left [] after.disk → MayTrim o left hs k rid after.disk
  may_after p = record {
    spare = p;
    there = files_after;
    rests = rests_still hs apart.1 (last_all (λ g. is_among g.id [] ≡ false → RestsThere g d) hs h may.rests).0;
    fewer = omega (arith, may.fewer, more_by_one hs h);
    past = ap (λ (j : Journal). length (past_files j)) (sym less) ∙ ap length (trimmed_past journal_was newest.front newest.newest newest.is) ∙ newest.count;
    rules = subst BreaksNoRule less (trimmed_rules journal_was newest.front newest.newest newest.is may.rules);
    rid = ap₂ rid_of_reads oldest reading ∙ may.rid;
  }

  step_back : IsLogStep o x.now after
  step_back =
      own_step o h.id homed (λ f. refl) x.now may.there.differ found.0 found.1 (back_changes o x.now found.0 (homed found.0) own refl refl)
      (back_step h x.now legal may.there.differ linked.1)

  none_back_one : newly_used x.now after ≡ []
  none_back_one = none_came x.now after (none_back h.id homed (λ f. refl) (λ f. refl) x.now may.there.differ)

  rests_own : IsAtRest h (Some found.0)
  rests_own = subst (IsAtRest h) found.1 ((last_all (λ g. is_among g.id [] ≡ false → RestsThere g d) hs h may.rests).1 refl)

  -- it is the journal's newest file, and lies past the reading
  leaves_back : IsQuiet d → LeavesInOrder x.now after
  leaves_back quiet =
      let f : Headed = headed (full_file found.0) in
      let same : f ≡ newest.newest = (files_less (files_on o after.disk) f newest.front newest.newest (ap (λ (fs : List Headed). past_in true (epochs fs)) (sym unlinked) ∙ newest.is)).same in
      leaves_one o h x.now found.0 quiet may.there.differ found.1 rests_own legal (last_all (IsOfJournal o) hs h row.own).1
      (inr (inl (
        sym (ap newest_number unlinked ∙ newest_push (files_on o after.disk) f),
        subst (λ (ps : List Headed). list_any (λ g. g.id == f.id) ps ≡ true) (sym newest.is)
            (subst (λ (g : Headed). list_any (λ p. p.id == f.id) (newest.front ++ g ∷ []) ≡ true) same (among_last newest.front f)),
      )))

  -- it went back
  pub trims_one : (y : Content) → Acts (put_back h.id h.header) x y → IsPoolOf left [] y.now.disk → Trims o left hs k rid (h ∷ []) x y
  trims_one y acts p =
      let arrives : Arrives (IsLogStep o) x y = Arrives-acts (IsLogStep o) (put_back h.id h.header) x y step_back acts in
      record {
        told = acts;
        arrives = arrives;
        none = ap (serials_taken x.now) (since_of (IsLogStep o) x y arrives) ∙ ap (λ (fs : List Headed). map (λ f. f.header.serial) fs ++ []) none_back_one;
        others = λ id e. ap (λ (c : Content). file_of id c.now.disk) acts ∙ others_found id (Rattle.qls_log.proofs.Returns.turned_off h.id id e);
        reading = ap (λ (c : Content). journal_reading (journal_on c.now.disk o.kind o.name)) acts ∙ reading;
        may = subst (λ (c : Content). MayTrim o left hs k rid c.now.disk) (sym acts) (may_after (subst (λ (c : Content). IsPoolOf left [] c.now.disk) acts p));
        leaves = λ quiet. Arrives-acts LeavesInOrder (put_back h.id h.header) x y (leaves_back quiet) acts;
        quiet = λ quiet. subst (λ (c : Content). IsQuiet c.now.disk) (sym acts) (quiet_without h d quiet);
      }

  -- it may have
  pub trim_stopped : (e : SiteError) (y : Content) → Leads {X = Unit {0}} (Acts (put_back h.id h.header)) (MayAct (put_back h.id h.header)) (Err e) x y → PassesOwn o x y
  trim_stopped Memory y same =
      let arrives : Arrives (IsLogStep o) x y = Arrives-same (IsLogStep o) x y same in
      record { passes = Passes-of (IsLogStep o) x y arrives; none = ap (serials_taken x.now) (since_of (IsLogStep o) x y arrives) }
  trim_stopped Failed y acts =
      let passes : Passes (IsLogStep o) x y = Passes-may (IsLogStep o) (put_back h.id h.header) x y (own_same o x.now may.there.differ) step_back acts in
      record {
        passes = passes;
        none =
            ap (serials_taken x.now) (since_is (IsLogStep o) x y passes)
            ∙ ap (λ (fs : List Headed). map (λ f. f.header.serial) fs ++ serials_taken x.now (after ∷ [])) (none_came x.now x.now (none_same x.now x.now may.there.differ refl))
            ∙ ap (λ (fs : List Headed). map (λ f. f.header.serial) fs ++ []) none_back_one;
      }

  pub trim_stopped_leaves : (e : SiteError) (y : Content) → Leads {X = Unit {0}} (Acts (put_back h.id h.header)) (MayAct (put_back h.id h.header)) (Err e) x y → LeavesFromQuiet x y
  trim_stopped_leaves Memory y same = λ quiet. Passes-same LeavesInOrder x y same
  trim_stopped_leaves Failed y acts = λ quiet. Passes-may LeavesInOrder (put_back h.id h.header) x y (leaves_none x.now may.there.differ) (leaves_back quiet) acts

-- ---- in a row

pub trims_none : (o : Opening) (pool : PoolState) (hs : List HeadedFile) (k rid : ℕ) (x : Content) → MayTrim o pool hs k rid x.now.disk → Trims o pool hs k rid [] x x
trims_none o pool hs k rid x may =
    let arrives : Arrives (IsLogStep o) x x = Arrives-same (IsLogStep o) x x refl in
    record { told = refl; arrives = arrives; none = ap (serials_taken x.now) (since_of (IsLogStep o) x x arrives); others = λ id e. refl; reading = refl; may = may; leaves = λ quiet. Arrives-same LeavesInOrder x x refl; quiet = λ quiet. quiet }

pub trims_then : (o : Opening) (between left : PoolState) (hs gs : List HeadedFile) (m n rid : ℕ) (done more : List HeadedFile) (x y z : Content) → Trims o between hs m rid done x y → Trims o left gs n rid more y z → Trims o left gs n rid (done ++ more) x z
trims_then o between left hs gs m n rid done more x y z h k = record {
  told = k.told ∙ ap (with_backs more) h.told ∙ sym (backs_append done more x);
  arrives = Arrives-then (IsLogStep o) x y z h.arrives k.arrives;
  none = taken_then (IsLogStep o) (IsLogStep o) x y z h.arrives (Passes-of (IsLogStep o) y z k.arrives) ∙ ap (λ (s : List ℕ). s ++ taken_since y z) h.none ∙ k.none;
  others = λ id e. let both = among_parts id done more e in k.others id both.1 ∙ h.others id both.0;
  reading = k.reading ∙ h.reading;
  may = k.may;
  leaves = λ quiet. Arrives-then LeavesInOrder x y z (h.leaves quiet) (k.leaves (h.quiet quiet));
  quiet = λ quiet. k.quiet (h.quiet quiet);
}

pub trim_stopped_then : (o : Opening) (between : PoolState) (hs : List HeadedFile) (m rid : ℕ) (done : List HeadedFile) (x y z : Content) → Trims o between hs m rid done x y → PassesOwn o y z → PassesOwn o x z
trim_stopped_then o between hs m rid done x y z h k = record {
  passes = Arrives-passes (IsLogStep o) x y z h.arrives k.passes;
  none = taken_then (IsLogStep o) (IsLogStep o) x y z h.arrives k.passes ∙ ap (λ (s : List ℕ). s ++ taken_since y z) h.none ∙ k.none;
}

-- ---- so far

-- the newest files so far went back, and those that are left may be trimmed
abbrev pub TrimSo : PoolState → PoolState → ℕ → List HeadedFile → ℕ → List HeadedFile → Option Content → Option Content → Type 0
TrimSo pool between many hs rest kept a b =
    (done : List HeadedFile) × (newest_first many hs ≡ done ++ newest_first rest kept)
    × ((o : Opening) (rid : ℕ) → AreInRow o hs → IfSome a (OnDisk (MayTrim o pool hs many rid)) → AreInRow o kept × Tells (Trims o between kept rest rid done) a b)

trim_begins : (pool : PoolState) (many : ℕ) (hs : List HeadedFile) (a : Option Content) → TrimSo pool pool many hs many hs a a
trim_begins pool many hs None = ([], refl, λ o rid row may. (row, tt))
trim_begins pool many hs (Some x) = ([], refl, λ o rid row may. (row, trims_none o pool hs many rid x may))

pub trim_begun : (pool : PoolState) (many : ℕ) (hs : List HeadedFile) (a : Option Content) → TrimSo pool pool many hs (many - 0) hs a a
trim_begun pool many hs a = subst (λ n. TrimSo pool pool many hs n hs a a) (omega arith) (trim_begins pool many hs a)

pub none_cut : (hs : List HeadedFile) → hs ≡ take (length hs - 0) hs
none_cut hs = sym (take_seam hs []) ∙ (λ i. take (all hs i) (append-nil hs i))
  where
    all : (hs : List HeadedFile) → length hs ≡ length hs - 0
    all hs = omega arith

module _ (pool between left : PoolState) (many : ℕ) (hs : List HeadedFile) (k : ℕ) (kept : List HeadedFile) (h : HeadedFile) where
  -- what the next call asks
  pub trim_linked : (a b : Option Content) → TrimSo pool between many hs (suc k) (kept ++ h ∷ []) a b → (o : Opening) (rid : ℕ) → AreInRow o hs → IfSome a (OnDisk (MayTrim o pool hs many rid)) → IfSome b (OnDisk (LinkedThere h))
  trim_linked a None s o rid row may = tt
  trim_linked None (Some y) s o rid row may = absurd (s.2 o rid row tt).1
  trim_linked (Some x) (Some y) s o rid row may = (last_all (λ g. LinkedThere g y.now.disk) kept h (s.2 o rid row may).1.may.there.linked).1

  pub trim_pool : (a b : Option Content) → TrimSo pool between many hs (suc k) (kept ++ h ∷ []) a b → (o : Opening) (rid : ℕ) → AreInRow o hs → IfSome a (OnDisk (MayTrim o pool hs many rid)) → IfSome b (OnDisk (HasPool between))
  trim_pool a None s o rid row may = tt
  trim_pool None (Some y) s o rid row may = absurd (s.2 o rid row tt).1
  trim_pool (Some x) (Some y) s o rid row may = ([], (s.2 o rid row may).1.may.spare)

  pub trim_next : (a b n : Option Content) → TrimSo pool between many hs (suc k) (kept ++ h ∷ []) a b → Tells (Acts (put_back h.id h.header)) b n → ((out : List ℕ) → is_among h.id out ≡ false → Carries (IsPoolOf between out) (IsPoolOf left out) b n)
      → TrimSo pool left many hs k kept a n
  trim_next a b n s t p = (
    s.0 ++ h ∷ [],
    s.1 ∙ ap (λ (xs : List HeadedFile). s.0 ++ xs) (newest_snoc k kept h) ∙ sym (append_assoc s.0 (h ∷ []) (newest_first k kept)),
    λ o rid row may. let was = s.2 o rid row may in (row_front o kept h was.0, on o rid was.0 a b n was.1 t p),
  )
    where
      on : (o : Opening) (rid : ℕ) → AreInRow o (kept ++ h ∷ []) → (a b n : Option Content) → Tells (Trims o between (kept ++ h ∷ []) (suc k) rid s.0) a b → Tells (Acts (put_back h.id h.header)) b n
          → ((out : List ℕ) → is_among h.id out ≡ false → Carries (IsPoolOf between out) (IsPoolOf left out) b n) → Tells (Trims o left kept k rid (s.0 ++ h ∷ [])) a n
      on o rid row None None None w t p = tt
      on o rid row None None (Some z) w t p = absurd t
      on o rid row None (Some y) n w t p = absurd w
      on o rid row (Some x) None n w t p = absurd w
      on o rid row (Some x) (Some y) None w t p = absurd t
      on o rid row (Some x) (Some y) (Some z) w t p =
          trims_then o between left (kept ++ h ∷ []) kept (suc k) k rid s.0 (h ∷ []) x y z w (trims_one o between left kept h k rid y row w.may z t (p [] refl w.may.spare))

  pub trim_fails : (e : SiteError) (a b n : Option Content) → TrimSo pool between many hs (suc k) (kept ++ h ∷ []) a b → Tells (Leads {X = Unit {0}} (Acts (put_back h.id h.header)) (MayAct (put_back h.id h.header)) (Err e)) b n
      → (o : Opening) (rid : ℕ) → AreInRow o hs → IfSome a (OnDisk (MayTrim o pool hs many rid))
      → Tells (PassesOwn o) a n × Tells (StopsBack (newest_first many hs) e) a n × Tells LeavesFromQuiet a n
  trim_fails e a b n s t o rid row may = let was = s.2 o rid row may in on a b n was.1 t
    where
      on : (a b n : Option Content) → Tells (Trims o between (kept ++ h ∷ []) (suc k) rid s.0) a b → Tells (Leads {X = Unit {0}} (Acts (put_back h.id h.header)) (MayAct (put_back h.id h.header)) (Err e)) b n
          → Tells (PassesOwn o) a n × Tells (StopsBack (newest_first many hs) e) a n × Tells LeavesFromQuiet a n
      on None None None w t = (tt, tt, tt)
      on None None (Some z) w t = absurd t
      on None (Some y) n w t = absurd w
      on (Some x) None n w t = absurd w
      on (Some x) (Some y) None w t = absurd t
      on (Some x) (Some y) (Some z) w t = (
        trim_stopped_then o between (kept ++ h ∷ []) (suc k) rid s.0 x y z w (trim_stopped o between left kept h k rid y (s.2 o rid row may).0 w.may e z t),
        record {
          before = s.0;
          file = h;
          after = newest_first k kept;
          is = s.1 ∙ ap (λ (xs : List HeadedFile). s.0 ++ xs) (newest_snoc k kept h);
          fails = subst (λ (c : Content). Leads {X = Unit {0}} (Acts (put_back h.id h.header)) (MayAct (put_back h.id h.header)) (Err e) c z) w.told t;
        },
        λ quiet. Arrives-passes LeavesInOrder x y z (w.leaves quiet) (trim_stopped_leaves o between left kept h k rid y (s.2 o rid row may).0 w.may e z t (w.quiet quiet)),
      )

take_twice : (k m : ℕ) (hs : List HeadedFile) → k ≤ m → take k (take m hs) ≡ take k hs
take_twice zero m hs less = refl
take_twice (suc k) zero hs less = absurd (omega (arith, less))
take_twice (suc k) (suc m) [] less = refl
take_twice (suc k) (suc m) (h ∷ hs) less = ap (λ (xs : List HeadedFile). h ∷ xs) (take_twice k m hs (omega (arith, less)))

-- one file less is kept
pub kept_less : (at all : ℕ) (hs kept : List HeadedFile) (h : HeadedFile) → kept ++ h ∷ [] ≡ take (all - at) hs → length (kept ++ h ∷ []) + at ≡ all → kept ≡ take (all - (at + 1)) hs
kept_less at all hs kept h e count =
    let few : length kept ≡ all - (at + 1) = omega (arith, count, more_by_one kept h) in
    sym (take_seam kept (h ∷ [])) ∙ ap (take (length kept)) e ∙ take_twice (length kept) (all - at) hs (omega (arith, few, count, more_by_one kept h)) ∙ ap (λ n. take n hs) few

-- all of them went back
pub trim_done : (E : Type 0) {X : Type 0} (pool left : PoolState) (many rest : ℕ) (hs kept : List HeadedFile) (v : X) (a b : Option Content) → rest ≡ 0 → TrimSo pool left many hs rest kept a b → (o : Opening) (rid : ℕ) → AreInRow o hs → IfSome a (OnDisk (MayTrim o pool hs many rid))
    → Tells (EndsIn {E = E} (λ x. Trims o left kept 0 rid (newest_first many hs)) (PassesOwn o) (Ok v)) a b
trim_done E pool left many rest hs kept v a b none s o rid row may =
    let all : s.0 ≡ newest_first many hs = sym (append-nil s.0) ∙ sym (s.1 ∙ ap (λ n. s.0 ++ newest_first n kept) none) in
    subst (λ (done : List HeadedFile). Tells (Trims o left kept 0 rid done) a b) all (subst (λ n. Tells (Trims o left kept n rid s.0) a b) none (s.2 o rid row may).1)

pub trim_told : (o : Opening) (left : PoolState) (kept : List HeadedFile) (many rid : ℕ) (done : List HeadedFile) (a b : Option Content) → Tells (Trims o left kept many rid done) a b → Tells (λ x y. y ≡ with_backs done x) a b
trim_told o left kept many rid done a b t = Tells-weaken (Trims o left kept many rid done) (λ x y. y ≡ with_backs done x) a b t (λ x y r. r.told)

-- they left in order
pub trim_leaves : (o : Opening) (left : PoolState) (kept : List HeadedFile) (many rid : ℕ) (done : List HeadedFile) (a b : Option Content) → Tells (Trims o left kept many rid done) a b → Tells LeavesFromQuiet a b
trim_leaves o left kept many rid done a b t = Tells-weaken (Trims o left kept many rid done) LeavesFromQuiet a b t (λ x y r quiet. Passes-of LeavesInOrder x y (r.leaves quiet))
