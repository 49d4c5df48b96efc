-- A crash leaves no damage: where full has none and no chance match is, an image has none.
use Rattle.std.proofs.Common.{◌≡◌, ℕ, ◌+◌, ◌^◌, ◌<◌, ◌≤◌, Bool, true, false, cond, not, ◌/◌, ◌&&◌, ◌||◌, List, [], ◌∷◌, ◌++◌, map, length, take, Result, Ok, Err, refl, sym, ap, ap₂, ◌∙◌, subst, arith, eqb, ltb, leb, inl, inr, le_refl}
use Rattle.std.proofs.lemmas.Bool.{cases_lt}
use Rattle.std.proofs.lemmas.Bool.Decides.{nat_tests}
use Rattle.std.specs.List.{AllByRecursion, filter}
use Rattle.qls_shape.specs.Claims.{claim, each, of_file, ◌>>=◌, ◌>>◌}
use Rattle.qls_site.specs.declared.site.ImageFile.{ImageFile}
use Rattle.qls_site.specs.Disk.{Disk, Image, FileState, IsImage, IsImageFile, full, full_file, LieFrom, LieWithin, WritesLieWithin}
use Rattle.qls_site.proofs.DiskLaws.{length-torn, length-all_written, front-torn, front-all_written}
use Rattle.qls_model.specs.Limits.{file_size}
use Rattle.qls_filehdr.specs.Limits.{is_counter}
use Rattle.qls_filehdr.specs.Header.{header_of}
use Rattle.qls_record.specs.Record.{rid_given}
use Rattle.qls_filehdr.specs.declared.Rule.{Rule}
use Rattle.qls_filehdr.specs.declared.Rule.TheVariants as rule
use Rattle.qls_meaning.specs.Journals.{Headed, Journal, is_in_use, in_use, empties, headed, journals, journals_of, epochs}
use Rattle.qls_meaning.specs.Reading.{Placed, end_from, begin_place, epoch_reading, stream}
use Rattle.qls_meaning.specs.Damage.{Damage, Checked, Spread, spread, rid_before, first_in, starts_in, order_claim, file_claims, end_claim, epoch_claims, epochs_claims, rid_at_end, oldest_rid, reading_claims, chain_claims, next_claims, id_claim, is_pool, pool_claim, header_claims, undamaged}
use Rattle.qls_meaning.specs.Chance.{seen_in, SpellsNoOther, EachPlace, EachPlaceOf, places}
use Rattle.qls_meaning.specs.Kept.{seen_journal, HeadersAreStable, IsWellKept, Differ}
use Rattle.qls_laws.proofs.Prefix.{SameAreas, SameEpochs, ClosedAreTheSame, begin_place-seen, epoch_begins}
use Rattle.qls_laws.proofs.Seen.{epochs-seen, journals-seen, All-epochs, All-journals}
use Rattle.qls_laws.proofs.CrashReading.{finds_own, ids-image, journals_closed, IsFoundIn, found_in_use, same_areas, in_use-seen}
use Rattle.qls_laws.proofs.Rules.{records_ascend, Ascends, ascends_front, ascends_rest, end_from-append, ends_later, begin_by, not_less, rid_before-append, first_in-append, ats, each-append, filter-append, All-filter, each-same}

-- ---- claims, taken apart and put together

then_ok : (a b : Checked) → (a >> b) ≡ Ok tt → (a ≡ Ok tt) × (b ≡ Ok tt)
then_ok (Ok u) b h = (refl, h)
then_ok (Err e) b h = absurd (cc)

ok_then : (a b : Checked) → a ≡ Ok tt → b ≡ Ok tt → (a >> b) ≡ Ok tt
ok_then (Ok u) b h k = k
ok_then (Err e) b h k = absurd (cc)

ok_next : (a b : Checked) → a ≡ Ok tt → b ≡ Ok tt → (a >>= λ _. b) ≡ Ok tt
ok_next (Ok u) b h k = k
ok_next (Err e) b h k = absurd (cc)

next_ok : (a b : Checked) → (a >>= λ _. b) ≡ Ok tt → (a ≡ Ok tt) × (b ≡ Ok tt)
next_ok (Ok u) b h = (refl, h)
next_ok (Err e) b h = absurd (cc)

claimed : (id : ℕ) (b : Bool) (r : Rule) → of_file id (claim b r) ≡ Ok tt → b ≡ true
claimed id true r h = refl
claimed id false r h = absurd (cc)

claims : (id : ℕ) (b : Bool) (r : Rule) → b ≡ true → of_file id (claim b r) ≡ Ok tt
claims id true r h = refl
claims id false r h = absurd (cc)

module _ (i : Image) (oldest last : Bool) (rid : ℕ) (fs : List Headed) (same : SameAreas i fs) (xs ys : List Placed) (ascends : Ascends (begin_place oldest fs) (xs ++ ys)) where
  abbrev seen : List Headed
  seen = map (seen_in i) fs

  abbrev seen_spread : Spread → Spread
  seen_spread s = record s { file = seen_in i s.file }

  abbrev earlier : ℕ
  earlier = end_from (begin_place oldest fs) xs

  abbrev later : ℕ
  later = end_from (begin_place oldest fs) (xs ++ ys)

  earlier_is : end_from (begin_place oldest seen) xs ≡ earlier
  earlier_is = ap (λ b. end_from b xs) (begin_place-seen i oldest fs same)

  rest_ascends : Ascends earlier ys
  rest_ascends = ascends_rest (begin_place oldest fs) xs ys ascends

  ends_earlier : earlier ≤ later
  ends_earlier = subst (λ e. earlier ≤ e) (sym (end_from-append (begin_place oldest fs) xs ys)) (ends_later earlier ys rest_ascends)

  -- the first place
  first_kept : (start size n : ℕ)
      → ((ltb later start || (oldest && leb start (begin_place oldest fs))) || eqb n (first_in start size (ats (xs ++ ys) ++ later ∷ []))) ≡ true
      → ((ltb earlier start || (oldest && leb start (begin_place oldest fs))) || eqb n (first_in start size (ats xs ++ earlier ∷ []))) ≡ true
  first_kept start size n h =
      elim (cases_lt earlier start) [
        | inl lt ↦ ap (λ b. (b || (oldest && leb start (begin_place oldest fs))) || eqb n (first_in start size (ats xs ++ earlier ∷ []))) (is_less earlier start lt)
        | inr ge ↦
            ap (λ b. (b || (oldest && leb start (begin_place oldest fs))) || eqb n (first_in start size (ats xs ++ earlier ∷ [])))
            (not_less earlier start ge ∙ sym (not_less later start (omega (arith, ends_earlier))))
            ∙ ap (λ k. (ltb later start || (oldest && leb start (begin_place oldest fs))) || eqb n k) (sym (first_in-append (begin_place oldest fs) start size xs ys rest_ascends ge))
            ∙ h
      ]
    where
      is_less : (m n : ℕ) → m < n → ltb m n ≡ true
      is_less m n h = grind (arith, nat_tests)

  -- the rid
  rid_kept : (start n : ℕ)
      → ((ltb later start || (oldest && eqb start 0)) || eqb n (rid_before rid (xs ++ ys) start)) ≡ true
      → ((ltb earlier start || (oldest && eqb start 0)) || eqb n (rid_before rid xs start)) ≡ true
  rid_kept start n h =
      elim (cases_lt earlier start) [
        | inl lt ↦ ap (λ b. (b || (oldest && eqb start 0)) || eqb n (rid_before rid xs start)) (is_less earlier start lt)
        | inr ge ↦
            ap (λ b. (b || (oldest && eqb start 0)) || eqb n (rid_before rid xs start))
            (not_less earlier start ge ∙ sym (not_less later start (omega (arith, ends_earlier))))
            ∙ ap (λ k. (ltb later start || (oldest && eqb start 0)) || eqb n k) (sym (rid_before-append xs ys earlier start rest_ascends ge rid))
            ∙ h
      ]
    where
      is_less : (m n : ℕ) → m < n → ltb m n ≡ true
      is_less m n h = grind (arith, nat_tests)

  -- the rids of the records
  order_kept : (s : Spread) → each (order_claim oldest last rid fs (xs ++ ys) s) (filter (starts_in oldest last rid fs (xs ++ ys) s) (xs ++ ys)) ≡ Ok tt
      → length (seen_in i s.file).area ≡ length s.file.area
      → each (order_claim oldest true rid seen xs (seen_spread s)) (filter (starts_in oldest true rid seen xs (seen_spread s)) xs) ≡ Ok tt
  order_kept s h size =
      ap (λ n. each (order_claim oldest true rid seen xs (seen_spread s)) (filter (λ r. leb s.start r.at && ltb r.at (s.start + n)) xs)) size
      ∙ each-same (λ r. r.at ≤ earlier) (order_claim oldest true rid seen xs (seen_spread s)) (order_claim oldest last rid fs (xs ++ ys) s)
      (λ r l. ap (λ k. of_file s.file.id (claim (eqb r.what.rid (rid_given k r.what.kind) && ltb r.what.rid (2 ^ 62)) rule.Order)) (sym (rid_before-append xs ys earlier r.at rest_ascends l rid)))
      (filter (starts_in oldest last rid fs (xs ++ ys) s) xs)
      (All-filter (λ r. r.at ≤ earlier) (starts_in oldest last rid fs (xs ++ ys) s) xs (begin_by (begin_place oldest fs) earlier xs (ascends_front (begin_place oldest fs) xs ys ascends) (le_refl earlier)))
      ∙ each-append (order_claim oldest last rid fs (xs ++ ys) s) (filter (starts_in oldest last rid fs (xs ++ ys) s) xs) (filter (starts_in oldest last rid fs (xs ++ ys) s) ys)
      (ap (each (order_claim oldest last rid fs (xs ++ ys) s)) (sym (filter-append (starts_in oldest last rid fs (xs ++ ys) s) xs ys)) ∙ h)

  -- a file's claims
  file_kept : (s : Spread) → file_claims oldest last rid fs (xs ++ ys) s ≡ Ok tt → length (seen_in i s.file).area ≡ length s.file.area
      → file_claims oldest true rid seen xs (seen_spread s) ≡ Ok tt
  file_kept s h size =
      let parts = then_ok _ _ h in
      let more = then_ok _ _ parts.1 in
      let start = s.start in
      let begin_is : begin_place oldest seen ≡ begin_place oldest fs = begin_place-seen i oldest fs same in
      ok_then _ _
      (claims s.file.id _ rule.First
      (ap₂ (λ b n. (ltb (end_from b xs) start || (oldest && leb start b)) || eqb s.file.header.first (first_in start n (ats xs ++ end_from b xs ∷ []))) begin_is size
      ∙ first_kept start (length s.file.area) s.file.header.first (claimed s.file.id _ rule.First parts.0)))
      (ok_then _ _
      (claims s.file.id _ rule.Rid
      (ap (λ e. (ltb e start || (oldest && eqb start 0)) || eqb s.file.header.rid (rid_before rid xs start)) earlier_is
      ∙ rid_kept start s.file.header.rid (claimed s.file.id _ rule.Rid more.0)))
      (order_kept s more.1 size))

  abbrev full_claims : Spread → Checked
  full_claims = file_claims oldest last rid fs (xs ++ ys)

  abbrev image_claims : Spread → Checked
  image_claims = file_claims oldest true rid seen xs

  files_step : (a b : Checked) → (a ≡ Ok tt → b ≡ Ok tt) → (c d : Checked) → (c ≡ Ok tt → d ≡ Ok tt) → (a >>= λ _. c) ≡ Ok tt → (b >>= λ _. d) ≡ Ok tt
  files_step (Err e) b f c d g h = absurd (cc)
  files_step (Ok u) b f c d g h = ok_next b d (f refl) (g h)

  files_kept : (gs : List Headed) → SameAreas i gs → (start : ℕ) → each full_claims (spread start gs) ≡ Ok tt → each image_claims (spread start (map (seen_in i) gs)) ≡ Ok tt
  files_kept [] sizes start h = refl
  files_kept (g ∷ gs) sizes start h =
      let s : Spread = record { file = g; start = start } in
      ap (λ n. image_claims (seen_spread s) >>= λ _. each image_claims (spread (start + n) (map (seen_in i) gs))) sizes.0
      ∙ files_step (full_claims s) (image_claims (seen_spread s)) (λ k. file_kept s k sizes.0)
      (each full_claims (spread (start + length g.area) gs)) (each image_claims (spread (start + length g.area) (map (seen_in i) gs)))
      (files_kept gs sizes.1 (start + length g.area)) h

  last_ends : (gs : List Headed) → end_claim oldest true rid seen xs gs ≡ Ok tt
  last_ends [] = refl
  last_ends (g ∷ gs) = refl

  epoch_kept : epoch_claims oldest last rid fs (xs ++ ys) ≡ Ok tt → epoch_claims oldest true rid seen xs ≡ Ok tt
  epoch_kept h = ok_next _ _ (files_kept fs same 0 (next_ok _ _ h).0) (last_ends seen)

-- ---- a journal

module _ (i : Image) where
  last_kept : (oldest : Bool) (rid : ℕ) (e : List Headed) → SameAreas i e → AllByRecursion (SpellsNoOther i e) (places oldest e)
      → epoch_claims oldest true rid e (epoch_reading oldest e) ≡ Ok tt
      → epoch_claims oldest true rid (map (seen_in i) e) (epoch_reading oldest (map (seen_in i) e)) ≡ Ok tt
  last_kept oldest rid e same h claims =
      let found = epoch_begins i oldest e same h in
      let xs = epoch_reading oldest (map (seen_in i) e) in
      epoch_kept i oldest true rid e same xs found.0
      (subst (Ascends (begin_place oldest e)) found.1 (records_ascend e (length (stream e) / 128) (begin_place oldest e)))
      (ap (epoch_claims oldest true rid e) (sym found.1) ∙ claims)

  epochs_kept : (oldest : Bool) (rid : ℕ) (es : List (List Headed)) → SameEpochs i es → ClosedAreTheSame i es → EachPlace (SpellsNoOther i) oldest es
      → epochs_claims oldest rid es ≡ Ok tt → epochs_claims oldest rid (map (map (seen_in i)) es) ≡ Ok tt
  epochs_kept oldest rid [] same closed h claims = refl
  epochs_kept oldest rid (e ∷ []) same closed h claims = last_kept oldest rid e same.0 h.0 claims
  epochs_kept oldest rid (e ∷ f ∷ es) same closed h claims =
      let parts = next_ok (epoch_claims oldest false rid e (epoch_reading oldest e)) (epochs_claims false (rid_at_end rid (epoch_reading oldest e)) (f ∷ es)) claims in
      ap (λ d. epoch_claims oldest false rid d (epoch_reading oldest d) >>= λ _. epochs_claims false (rid_at_end rid (epoch_reading oldest d)) (map (map (seen_in i)) (f ∷ es))) closed.0
      ∙ ok_next (epoch_claims oldest false rid e (epoch_reading oldest e)) (epochs_claims false (rid_at_end rid (epoch_reading oldest e)) (map (map (seen_in i)) (f ∷ es))) parts.0
      (epochs_kept false (rid_at_end rid (epoch_reading oldest e)) (f ∷ es) same.1 closed.1 h.1 parts.1)

  oldest_rid-seen : (fs : List Headed) → oldest_rid (map (seen_in i) fs) ≡ oldest_rid fs
  oldest_rid-seen [] = refl
  oldest_rid-seen (f ∷ fs) = refl

  reading_kept : (j : Journal) → SameAreas i j.files → ClosedAreTheSame i (epochs j.files) → EachPlace (SpellsNoOther i) true (epochs j.files)
      → reading_claims j ≡ Ok tt → reading_claims (seen_journal i j) ≡ Ok tt
  reading_kept j same closed h claims =
      ap₂ (epochs_claims true) (oldest_rid-seen j.files) (epochs-seen i j.files)
      ∙ epochs_kept true (oldest_rid j.files) (epochs j.files) (All-epochs (λ f. length (seen_in i f).area ≡ length f.area) j.files same) closed h claims

  readings_kept : (js : List Journal) → AllByRecursion (λ j. SameAreas i j.files) js → AllByRecursion (λ j. ClosedAreTheSame i (epochs j.files)) js
      → AllByRecursion (λ j. EachPlace (SpellsNoOther i) true (epochs j.files)) js → each reading_claims js ≡ Ok tt → each reading_claims (map (seen_journal i) js) ≡ Ok tt
  readings_kept [] same closed h claims = refl
  readings_kept (j ∷ js) same closed h claims =
      let parts = next_ok (reading_claims j) (each reading_claims js) claims in
      ok_next (reading_claims (seen_journal i j)) (each reading_claims (map (seen_journal i) js)) (reading_kept j same.0 closed.0 h.0 parts.0) (readings_kept js same.1 closed.1 h.1 parts.1)

  -- the rules on numbers, epochs and homes see headers alone
  chain-seen : (fs : List Headed) → chain_claims (map (seen_in i) fs) ≡ chain_claims fs
  chain-seen [] = refl
  chain-seen (f ∷ []) = refl
  chain-seen (f ∷ g ∷ fs) = ap (λ r. next_claims f g >>= λ _. r) (chain-seen (g ∷ fs))

  chains-seen : (js : List Journal) → each (λ j. chain_claims j.files) (map (seen_journal i) js) ≡ each (λ j. chain_claims j.files) js
  chains-seen [] = refl
  chains-seen (j ∷ js) = ap₂ (λ a (b : Checked). a >>= λ _. b) (chain-seen j.files) (chains-seen js)

-- ---- the files

-- a file of an image has the id, the place, the size and, in use, the front that full has
record Alike (g f : ImageFile) : Type 0 where
  id : g.id ≡ f.id
  place : g.place ≡ f.place
  size : length g.bytes ≡ length f.bytes
  front : is_in_use f.place ≡ true → take 4096 g.bytes ≡ take 4096 f.bytes

alike : (f : FileState) (g : ImageFile) → IsImageFile f g → (is_in_use f.place ≡ true → LieFrom 4096 f.pending) → LieWithin (length f.stable) f.pending → Alike g (full_file f)
alike f g image stable within = record {
  id = image.id;
  place = image.place;
  size = length-torn f.pending f.stable g.bytes image.bytes ∙ sym (length-all_written f.pending f.stable within);
  front = λ u. front-torn 8 f.pending f.stable g.bytes (stable u) within image.bytes ∙ sym (front-all_written 4096 f.pending f.stable (stable u) within);
}

abbrev AllAlike : Image → Image → Type 0
AllAlike [] [] = Unit {0}
AllAlike [] (f ∷ fs) = ⊥
AllAlike (g ∷ gs) [] = ⊥
AllAlike (g ∷ gs) (f ∷ fs) = Alike g f × AllAlike gs fs

all_alike : (d : Disk) (i : Image) → IsImage d i → WritesLieWithin d → HeadersAreStable d → AllAlike i (full d)
all_alike [] [] image within stable = tt
all_alike [] (g ∷ i) image within stable = absurd image
all_alike (f ∷ d) [] image within stable = absurd image
all_alike (f ∷ d) (g ∷ i) image within stable = (alike f g image.0 stable.0 within.0, all_alike d i image.1 within.1 stable.1)

ids_same : (gs fs : Image) → AllAlike gs fs → each id_claim gs ≡ each id_claim fs
ids_same [] [] h = refl
ids_same [] (f ∷ fs) h = absurd h
ids_same (g ∷ gs) [] h = absurd h
ids_same (g ∷ gs) (f ∷ fs) h = ap₂ (λ n (r : Checked). of_file n (claim (is_counter n) rule.Id) >>= λ _. r) h.0.id (ids_same gs fs h.1)

pool_step : (g f : ImageFile) → Alike g f → (b : Bool) → (gs fs : Image) → each pool_claim gs ≡ each pool_claim fs → each pool_claim (cond b (g ∷ gs) gs) ≡ each pool_claim (cond b (f ∷ fs) fs)
pool_step g f a true gs fs h =
    λ k. of_file (a.id k) (claim (is_pool (a.size k) (a.place k)) rule.Pool) >>= λ _. h k
pool_step g f a false gs fs h = h

pools_same : (gs fs : Image) → AllAlike gs fs → each pool_claim (empties gs) ≡ each pool_claim (empties fs)
pools_same [] [] h = refl
pools_same [] (f ∷ fs) h = absurd h
pools_same (g ∷ gs) [] h = absurd h
pools_same (g ∷ gs) (f ∷ fs) h =
    ap (λ p. each pool_claim (cond (not (is_in_use p)) (g ∷ empties gs) (empties gs))) h.0.place
    ∙ pool_step g f h.0 (not (is_in_use f.place)) (empties gs) (empties fs) (pools_same gs fs h.1)

header_step : (g f : ImageFile) → Alike g f → (b : Bool) → is_in_use f.place ≡ b → (gs fs : Image) → each header_claims gs ≡ each header_claims fs → each header_claims (cond b (g ∷ gs) gs) ≡ each header_claims (cond b (f ∷ fs) fs)
header_step g f a true u gs fs h =
    λ k. of_file (a.id k) (claim (leb 4096 (a.size k)) rule.Short >> (header_of (a.front u k) >>= λ x. claim (eqb (a.size k) (file_size x.kib)) rule.Size)) >>= λ _. h k
header_step g f a false u gs fs h = h

headers_same : (gs fs : Image) → AllAlike gs fs → each header_claims (in_use gs) ≡ each header_claims (in_use fs)
headers_same [] [] h = refl
headers_same [] (f ∷ fs) h = absurd h
headers_same (g ∷ gs) [] h = absurd h
headers_same (g ∷ gs) (f ∷ fs) h =
    ap (λ p. each header_claims (cond (is_in_use p) (g ∷ in_use gs) (in_use gs))) h.0.place
    ∙ header_step g f h.0 (is_in_use f.place) refl (in_use gs) (in_use fs) (headers_same gs fs h.1)

-- ---- the whole image

abbrev scan_of : Checked → Checked → Checked → Checked → List Journal → Result (List Journal) Damage
scan_of a b c d js = a >> (b >> (c >> (d >> Ok js)))

abbrev read_of : Result (List Journal) Damage → Result (List Journal) Damage
read_of r = r >>= λ js. (each reading_claims js >> Ok js)

-- what passes the scan and has whole readings
read_ok : (js ks : List Journal) → read_of (Ok js) ≡ Ok ks → each reading_claims js ≡ Ok tt
read_ok js ks h = by (each reading_claims js) h
  where
    by : (r : Checked) → (r >> Ok js) ≡ Ok ks → r ≡ Ok tt
    by (Ok u) h = refl
    by (Err e) h = absurd (cc)

reads_ok : (js : List Journal) → each reading_claims js ≡ Ok tt → read_of (Ok js) ≡ Ok js
reads_ok js h = ap (λ (r : Checked). r >> Ok js) h

scan_kept : (a b c d : Checked) (js ks image : List Journal) → read_of (scan_of a b c d js) ≡ Ok ks → (each reading_claims js ≡ Ok tt → each reading_claims image ≡ Ok tt)
    → read_of (scan_of a b c d image) ≡ Ok image
scan_kept (Ok u) (Ok v) (Ok w) (Ok x) js ks image h kept = reads_ok image (kept (read_ok js ks h))
scan_kept (Ok u) (Ok v) (Ok w) (Err e) js ks image h kept = absurd (cc)
scan_kept (Ok u) (Ok v) (Err e) d js ks image h kept = absurd (cc)
scan_kept (Ok u) (Err e) c d js ks image h kept = absurd (cc)
scan_kept (Err e) b c d js ks image h kept = absurd (cc)

-- A crash leaves no damage.
pub image_is_undamaged : (d : Disk) (i : Image) (js : List Journal) → IsWellKept d → IsImage d i → EachPlaceOf (SpellsNoOther i) (full d)
    → undamaged (full d) ≡ Ok js → undamaged i ≡ Ok (map (seen_journal i) (journals_of (full d)))
image_is_undamaged d i js kept image h whole =
    let found = finds_own i (subst Differ (sym (ids-image d i image)) kept.differ) in
    let own = finds_own (full d) kept.differ in
    let J = journals_of (full d) in
    let closed = journals_closed d i image J (All-journals (IsFoundIn (full d)) (map headed (in_use (full d))) (found_in_use (full d) (full d) own)) kept.closed in
    let areas = All-journals (λ f. length (seen_in i f).area ≡ length f.area) (map headed (in_use (full d))) (same_areas i d i image kept.within found) in
    let same = all_alike d i image kept.within kept.stable in
    let journals_are : journals_of i ≡ map (seen_journal i) J = ap journals (in_use-seen i d i image kept.within kept.stable found) ∙ journals-seen i (map headed (in_use (full d))) in
    let scan : read_of (scan_of (each id_claim i) (each pool_claim (empties i)) (each header_claims (in_use i)) (each (λ j. chain_claims j.files) (journals_of i)) (journals_of i))
    ≡ read_of (scan_of (each id_claim (full d)) (each pool_claim (empties (full d))) (each header_claims (in_use (full d))) (each (λ j. chain_claims j.files) J) (map (seen_journal i) J)) =
    λ k. read_of (scan_of (ids_same i (full d) same k) (pools_same i (full d) same k) (headers_same i (full d) same k)
    ((ap (each (λ j. chain_claims j.files)) journals_are ∙ chains-seen i J) k) (journals_are k)) in
    scan ∙ scan_kept (each id_claim (full d)) (each pool_claim (empties (full d))) (each header_claims (in_use (full d))) (each (λ j. chain_claims j.files) J) J js (map (seen_journal i) J) whole
    (readings_kept i J areas closed h)
