-- The damage rules on a journal behind a batch.
use Rattle.std.proofs.Common.{◌≡◌, ℕ, zero, suc, ◌+◌, ◌-◌, ◌*◌, ◌^◌, ◌<◌, ◌≤◌, Bool, true, false, cond, ◌&&◌, ◌==◌, List, [], ◌∷◌, ◌++◌, map, length, replicate, Option, Some, Result, Ok, refl, sym, ap, ap₂, ◌∙◌, subst, arith, eqb, ltb, leb, append_assoc}
use Rattle.std.proofs.lemmas.Bool.Decides.{nat_tests}
use Rattle.std.specs.List.{AllByRecursion, filter}
use Rattle.qls_shape.specs.Claims.{claim, of_file, ◌>>◌}
use Rattle.qls_shape.specs.declared.Version.TheVariants.{Two}
use Rattle.qls_record.specs.Record.{Record, record_length, rid_given, is_enqueue}
use Rattle.qls_filehdr.specs.declared.FileHeader.{FileHeader}
use Rattle.qls_filehdr.specs.declared.Rule.TheVariants as rule
use Rattle.qls_meaning.specs.Journals.{Headed}
use Rattle.qls_meaning.specs.Reading.{Placed, stream, end_from}
use Rattle.qls_meaning.specs.Damage.{rid_before, rid_at_end, first_in, next_claims, chain_claims}
use Rattle.qls_laws.specs.Readings.{Stand}
use Rattle.qls_laws.proofs.Ends.{record_fits}
use Rattle.qls_laws.proofs.Rules.{Ascends, ats, rid_before-append, first_in-append, end_from-append, filter-append, All-filter}
use Rattle.qls_laws.proofs.Reaches.{stand_end}
use Rattle.qls_laws.proofs.Leftover.{AllBefore, before_later, first_past, ats_append, rid_past, none_in}
use Rattle.qls_laws.proofs.Rising.{given_is}
use Rattle.qls_laws.proofs.Claimed.{InOrder, in_file, KeepsRules, AllKeep, ok_next}
use Rattle.qls_blocks.specs.declared.plan.FreshFile.{FreshFile}
use Rattle.qls_blocks.specs.Batching.{filler_count, filler_of, last_rid, with_fillers, laid_from, places_from}
use Rattle.qls_blocks.specs.Plans.{fresh_file, starts}
use Rattle.qls_blocks.specs.Laws.{HaveCapacity}
use Rattle.qls_blocks.proofs.Stream.{places-laid, first_in-shifted, rid_before-shifted}
use Rattle.qls_pool.specs.Files.{HeadedFile}
use Rattle.qls_log.specs.declared.opening.Opening.{Opening}
use Rattle.qls_log.specs.Logs.{IsOfOpening, IsOfJournal, NumberedFrom, AreHeaded}
use Rattle.qls_log.specs.Standing.{AreThoseFiles}
use Rattle.qls_log.specs.Appending.{FollowRids}
use Rattle.qls_log.proofs.Fits.{rid_behind, rid_of_some}
use Rattle.qls_log.proofs.Streams.{HaveSameHeads}
use Rattle.qls_log.proofs.Older.{of_journal}
use Rattle.qls_epochs.specs.Joins.{ComesNext}

less : (m n : ℕ) → m < n → ltb m n ≡ true
less m n h = grind (arith, nat_tests)

not_less : (m n : ℕ) → n ≤ m → ltb m n ≡ false
not_less m n h = grind (arith, nat_tests)

not_most : (m n : ℕ) → n < m → leb m n ≡ false
not_most m n h = grind (arith, nat_tests)

equal : (m n : ℕ) → m ≡ n → eqb m n ≡ true
equal m n e = grind (arith, nat_tests)

-- ---- files in a row

next_number : (n newest : ℕ) (h : HeadedFile) (hs : List HeadedFile) → NumberedFrom n (h ∷ hs) newest → h.header.number ≡ n
next_number n newest h hs m = m.0

-- a file of the journal follows the one whose number is one less, where its epoch isn't less
follows : (o : Opening) (h k : HeadedFile) (f g : Headed) → IsOfJournal o h → IsOfJournal o k → f.header ≡ h.header → g.header ≡ k.header → k.header.number ≡ h.header.number + 1 → h.header.epoch ≤ k.header.epoch → next_claims f g ≡ Ok tt
follows o h k f g a b one two next least =
    ap (of_file g.id)
    (λ i. claim (equal g.header.number (f.header.number + 1) number i) rule.Number >> (claim (most f.header.epoch g.header.epoch epoch i) rule.Epoch >> claim (equal g.header.part f.header.part part i && equal g.header.kib f.header.kib kib i) rule.Home))
  where
    number : g.header.number ≡ f.header.number + 1
    number = ap (λ (x : FileHeader). x.number) two ∙ next ∙ ap (λ i. i + 1) (sym (ap (λ (x : FileHeader). x.number) one))

    epoch : f.header.epoch ≤ g.header.epoch
    epoch = subst (λ (x : FileHeader). x.epoch ≤ g.header.epoch) (sym one) (subst (λ (x : FileHeader). h.header.epoch ≤ x.epoch) (sym two) least)

    part : g.header.part ≡ f.header.part
    part = ap (λ (x : FileHeader). x.part) (two ∙ b) ∙ sym (ap (λ (x : FileHeader). x.part) (one ∙ a))

    kib : g.header.kib ≡ f.header.kib
    kib = ap (λ (x : FileHeader). x.kib) (two ∙ b) ∙ sym (ap (λ (x : FileHeader). x.kib) (one ∙ a))

    most : (a b : ℕ) → a ≤ b → leb a b ≡ true
    most a b e = grind (arith, nat_tests)

-- files of one opening whose numbers count on follow one another
pub chain_of : (cap : ℕ) (o : Opening) (n newest : ℕ) (hs : List HeadedFile) (fs : List Headed) → NumberedFrom n hs newest → AllByRecursion (IsOfOpening o) hs → AreThoseFiles cap hs fs → chain_claims fs ≡ Ok tt
chain_of cap o n newest [] [] m own t = refl
chain_of cap o n newest [] (f ∷ fs) m own t = absurd t
chain_of cap o n newest (h ∷ hs) [] m own t = absurd t
chain_of cap o n newest (h ∷ []) (f ∷ []) m own t = refl
chain_of cap o n newest (h ∷ []) (f ∷ g ∷ fs) m own t = absurd t.1
chain_of cap o n newest (h ∷ k ∷ hs) (f ∷ []) m own t = absurd t.1
chain_of cap o n newest (h ∷ k ∷ hs) (f ∷ g ∷ fs) m own t =
    let next : k.header.number ≡ h.header.number + 1 = m.1.0 ∙ ap (λ i. i + 1) (sym m.0) in
    let epoch : h.header.epoch ≡ k.header.epoch = ap (λ (x : FileHeader). x.epoch) own.0 ∙ sym (ap (λ (x : FileHeader). x.epoch) own.1.0) in
    ok_next (next_claims f g) (chain_claims (g ∷ fs)) (follows o h k f g (of_journal o h own.0) (of_journal o k own.1.0) t.0.header t.1.0.header next (omega (arith, epoch)))
    (chain_of cap o (n + 1) newest (k ∷ hs) (g ∷ fs) m.1 own.1 t.1)

-- the first file of an opening comes next behind those of earlier ones
pub comes_next : (cap : ℕ) (o : Opening) (n newest : ℕ) (hs : List HeadedFile) (k : HeadedFile) (ks : List HeadedFile) (fs : List Headed) (g : Headed) → NumberedFrom n (hs ++ k ∷ ks) newest → AllByRecursion (IsOfJournal o) hs → IsOfJournal o k
    → AllByRecursion (λ h. h.header.epoch < k.header.epoch) hs → AreThoseFiles cap hs fs → g.header ≡ k.header → ComesNext fs g
comes_next cap o n newest [] k ks [] g m all one less t e = tt
comes_next cap o n newest [] k ks (f ∷ fs) g m all one less t e = absurd t
comes_next cap o n newest (h ∷ hs) k ks [] g m all one less t e = absurd t
comes_next cap o n newest (h ∷ []) k ks (f ∷ []) g m all one less t e =
    follows o h k f g all.0 one t.0.header e (m.1.0 ∙ ap (λ i. i + 1) (sym m.0)) (omega (arith, less.0))
comes_next cap o n newest (h ∷ []) k ks (f ∷ x ∷ fs) g m all one less t e = absurd t.1
comes_next cap o n newest (h ∷ j ∷ hs) k ks (f ∷ []) g m all one less t e = absurd t.1
comes_next cap o n newest (h ∷ j ∷ hs) k ks (f ∷ x ∷ fs) g m all one less t e = comes_next cap o (n + 1) newest (j ∷ hs) k ks (x ∷ fs) g m.1 all.1 one less.1 t.1 e

-- ---- rids

pub all_before : (fs : List Headed) (p q : ℕ) (rs : List Placed) → Stand fs p rs → end_from p rs ≤ q → AllBefore q rs
all_before fs p q [] s l = tt
all_before fs p q (r ∷ rs) s l =
    let fits = record_fits fs p r.what s.1 in
    let later = stand_end fs r.after rs s.3 in
    (omega (arith, fits.0, later, l, s.0, s.2), all_before fs r.after q rs s.3 l)

pub rid_at_end-append : (rid : ℕ) (xs ys : List Placed) → rid_at_end rid (xs ++ ys) ≡ rid_at_end (rid_at_end rid xs) ys
rid_at_end-append rid [] ys = refl
rid_at_end-append rid (x ∷ xs) ys = rid_at_end-append (cond (is_enqueue x.what.kind) x.what.rid rid) xs ys

pub laid_ascend : (p : ℕ) (rs : List Record) → Ascends p (laid_from p rs)
laid_ascend p [] = tt
laid_ascend p (r ∷ rs) = (refl, omega arith, laid_ascend (p + record_length Two r) rs)

pub rid_laid : (rid p : ℕ) (rs : List Record) → FollowRids rid rs → rid_at_end rid (laid_from p rs) ≡ last_rid rid rs
rid_laid rid p [] f = refl
rid_laid rid p (r ∷ rs) f =
    ap (λ k. rid_at_end k (laid_from (p + record_length Two r) rs)) (given_is r.kind rid r.rid f.0) ∙ rid_laid r.rid (p + record_length Two r) rs f.2

follow_append : (rid : ℕ) (rs qs : List Record) → FollowRids rid rs → FollowRids (last_rid rid rs) qs → FollowRids rid (rs ++ qs)
follow_append rid [] qs f g = g
follow_append rid (r ∷ rs) qs f g = (f.0, f.1, follow_append r.rid rs qs f.2 g)

follow_copies : (k n : ℕ) → n < 2 ^ 62 → FollowRids n (replicate k (filler_of n))
follow_copies zero n h = tt
follow_copies (suc k) n h = (refl, h, follow_copies k n h)

-- fillers have the rid that is in force
pub follow_filled : (rid : ℕ) (rs : List Record) → 0 < length rs → FollowRids rid rs → FollowRids rid (with_fillers rs)
follow_filled rid rs some f =
    follow_append rid rs (replicate (filler_count rs) (filler_of (last_rid 0 rs))) f
    (subst (λ n. FollowRids n (replicate (filler_count rs) (filler_of (last_rid 0 rs)))) (rid_of_some 0 rid rs some) (follow_copies (filler_count rs) (last_rid 0 rs) (rid_behind rid rs f)))

last_append : (rid : ℕ) (rs qs : List Record) → last_rid rid (rs ++ qs) ≡ last_rid (last_rid rid rs) qs
last_append rid [] qs = refl
last_append rid (r ∷ rs) qs = last_append r.rid rs qs

last_copies : (k n : ℕ) → last_rid n (replicate k (filler_of n)) ≡ n
last_copies zero n = refl
last_copies (suc k) n = last_copies k n

pub last_filled : (rid : ℕ) (rs : List Record) → 0 < length rs → last_rid rid (with_fillers rs) ≡ last_rid rid rs
last_filled rid rs some =
    let same : last_rid 0 rs ≡ last_rid rid rs = rid_of_some 0 rid rs some in
    last_append rid rs (replicate (filler_count rs) (filler_of (last_rid 0 rs)))
    ∙ ap (λ n. last_rid (last_rid rid rs) (replicate (filler_count rs) (filler_of n))) same ∙ last_copies (filler_count rs) (last_rid rid rs)

-- records laid behind others, whose rids follow from the one at their end, are in order
pub laid_in_order : (first rid p : ℕ) (before : List Placed) (rs : List Record) → FollowRids rid rs → AllBefore p before → rid_at_end first before ≡ rid → AllByRecursion (InOrder first (before ++ laid_from p rs)) (laid_from p rs)
laid_in_order first rid p before [] f b e = tt
laid_in_order first rid p before (r ∷ rs) f b e =
    let q : ℕ = p + record_length Two r in
    let one : Placed = record { what = r; at = p; after = q } in
    let least : 128 ≤ record_length Two r = Rattle.qls_record.proofs.RecordLength.record_length_least Two r in
    let next : AllByRecursion (InOrder first ((before ++ one ∷ []) ++ laid_from q rs)) (laid_from q rs) =
    laid_in_order first r.rid q (before ++ one ∷ []) rs f.2 (push q one before (before_later p q before (omega arith) b) (omega (arith, least)))
    (rid_at_end-append first before (one ∷ []) ∙ ap (λ n. cond (is_enqueue r.kind) r.rid n) e ∙ given_is r.kind rid r.rid f.0) in
    let force : rid_before first (before ++ one ∷ laid_from q rs) p ≡ rid =
    rid_past p before (one ∷ laid_from q rs) first b ∙ ap (λ n. rid_before n (one ∷ laid_from q rs) p) e
    ∙ rid_before-append [] (one ∷ laid_from q rs) p p (laid_ascend p (r ∷ rs)) (omega arith) rid in (
      ap₂ (λ x y. x && y) (equal r.rid (rid_given (rid_before first (before ++ one ∷ laid_from q rs) p) r.kind) (f.0 ∙ ap (λ n. rid_given n r.kind) (sym force))) (less r.rid (2 ^ 62) f.1),
      subst (λ (xs : List Placed). AllByRecursion (InOrder first xs) (laid_from q rs)) (append_assoc before (one ∷ []) (laid_from q rs)) next,
    )
  where
    push : (q : ℕ) (one : Placed) (xs : List Placed) → AllBefore q xs → one.at < q → AllBefore q (xs ++ one ∷ [])
    push q one [] b l = (l, tt)
    push q one (x ∷ xs) b l = (b.0, push q one xs b.1 l)

-- ---- the files that were there

-- an earlier record has the same rid in force behind it, whatever follows
order_stays : (rid q : ℕ) (xs ys zs : List Placed) → Ascends q ys → AllBefore q zs → AllByRecursion (InOrder rid xs) zs → AllByRecursion (InOrder rid (xs ++ ys)) zs
order_stays rid q xs ys [] h b o = tt
order_stays rid q xs ys (z ∷ zs) h b o = (
  subst (λ n. (eqb z.what.rid (rid_given n z.what.kind) && ltb z.what.rid (2 ^ 62)) ≡ true) (sym (rid_before-append xs ys q z.at h (omega (arith, b.0)) rid)) o.0,
  order_stays rid q xs ys zs h b.1 o.1,
)

all_both : (P : Placed → Type 0) (xs ys : List Placed) → AllByRecursion P xs → AllByRecursion P ys → AllByRecursion P (xs ++ ys)
all_both P [] ys a b = b
all_both P (x ∷ xs) ys a b = (a.0, all_both P xs ys a.1 b)

module _ (begin limit rid : ℕ) (xs ys : List Placed) (ends : end_from begin xs ≡ limit) (ascends : Ascends limit ys) (before : AllBefore limit xs) (batch : AllByRecursion (InOrder rid (xs ++ ys)) ys) where
  abbrev all : List Placed
  all = xs ++ ys

  abbrev end : ℕ
  end = end_from begin (xs ++ ys)

  file_stays : (start size n : ℕ) (f g : FileHeader) → g ≡ f → n ≡ size → start ≤ limit → KeepsRules begin limit rid xs start size f → KeepsRules begin end rid all start n g
  file_stays start size n f g e s low k = record {
    first = λ l late.
        ap (λ (x : FileHeader). x.first) e ∙ k.first low late ∙ ap (λ q. first_in start size (ats xs ++ q ∷ [])) (sym ends)
        ∙ sym (first_in-append begin start size xs ys (subst (λ q. Ascends q ys) (sym ends) ascends) (subst (λ q. start ≤ q) (sym ends) low)) ∙ ap (λ m. first_in start m (ats all ++ end ∷ [])) (sym s);
    rid_is = λ l some. ap (λ (x : FileHeader). x.rid) e ∙ k.rid_is low some ∙ sym (rid_before-append xs ys limit start ascends low rid);
    order =
        subst (λ m. AllByRecursion (InOrder rid all) (filter (in_file start m) all)) (sym s)
        (subst (AllByRecursion (InOrder rid all)) (sym (filter-append (in_file start size) xs ys))
        (all_both (InOrder rid all) (filter (in_file start size) xs) (filter (in_file start size) ys)
        (order_stays rid limit xs ys (filter (in_file start size) xs) ascends (All-filter (λ r. r.at < limit) (in_file start size) xs before) k.order)
        (All-filter (InOrder rid all) (in_file start size) ys batch)));
  }

  next_product : (c k : ℕ) → c * suc k ≡ c * k + c
  next_product c k = grind arith

  pub files_stay : (cap start : ℕ) (fs gs : List Headed) → HaveCapacity cap fs → HaveSameHeads fs gs → start + cap * length fs ≤ limit + cap → AllKeep begin limit rid xs start fs → AllKeep begin end rid all start gs
  files_stay cap start [] [] have h l k = tt
  files_stay cap start [] (g ∷ gs) have h l k = absurd h
  files_stay cap start (f ∷ fs) [] have h l k = absurd h
  files_stay cap start (f ∷ fs) (g ∷ gs) have h l k =
      let next = next_product cap (length fs) in (
        file_stays start (length f.area) (length g.area) f.header g.header h.0 h.1 (omega (arith, l, next)) k.0,
        subst (λ n. AllKeep begin end rid all (start + n) gs) (sym h.1) (files_stay cap (start + length f.area) fs gs have.1 h.2 (omega (arith, l, next, have.0)) k.1),
      )

-- ---- the files that were taken

-- the same batch, counted from another place on
first_elsewhere : (q used j cap : ℕ) (ws : List Record) → first_in (used + j) cap (places_from used ws) ≡ first_in (q + j) cap (places_from q ws)
first_elsewhere q used j cap ws =
    ap (λ n. first_in (used + j) cap (places_from n ws)) (plus used) ∙ first_in-shifted used j cap 0 ws ∙ sym (ap (λ n. first_in (q + j) cap (places_from n ws)) (plus q) ∙ first_in-shifted q j cap 0 ws)
  where
    plus : (n : ℕ) → n ≡ n + 0
    plus n = omega arith

rid_elsewhere : (q used j rid : ℕ) (ws : List Record) → rid_before rid (laid_from used ws) (used + j) ≡ rid_before rid (laid_from q ws) (q + j)
rid_elsewhere q used j rid ws =
    ap (λ n. rid_before rid (laid_from n ws) (used + j)) (plus used) ∙ rid_before-shifted used j rid 0 ws ∙ sym (ap (λ n. rid_before rid (laid_from n ws) (q + j)) (plus q) ∙ rid_before-shifted q j rid 0 ws)
  where
    plus : (n : ℕ) → n ≡ n + 0
    plus n = omega arith

module _ (begin q used rid at_end : ℕ) (xs : List Placed) (ws : List Record) (ends : end_from begin xs ≡ q) (before : AllBefore q xs) (is : rid_at_end rid xs ≡ at_end)
    (batch : AllByRecursion (InOrder rid (xs ++ laid_from q ws)) (laid_from q ws)) where
  abbrev ys : List Placed
  ys = laid_from q ws

  abbrev whole : List Placed
  whole = xs ++ ys

  abbrev till : ℕ
  till = end_from begin (xs ++ ys)

  till_is : till ≡ end_from q ys
  till_is = end_from-append begin xs ys ∙ ap (λ p. end_from p ys) ends

  file_comes : (cap j size : ℕ) (h : FileHeader) → size ≡ cap → h.first ≡ (fresh_file cap at_end used ws (used + j)).first → h.rid ≡ (fresh_file cap at_end used ws (used + j)).rid → KeepsRules begin till rid whole (q + j) size h
  file_comes cap j size h e first rid_of =
      let early : AllBefore (q + j) xs = before_later q (q + j) xs (omega arith) before in
      record {
        first = λ l m.
            first ∙ first_elsewhere q used j cap ws ∙ ap (first_in (q + j) cap) (sym (places-laid q ws)) ∙ ap (λ p. first_in (q + j) cap (ats ys ++ p ∷ [])) (sym till_is)
            ∙ sym (first_past (q + j) cap xs (ats ys ++ till ∷ []) early) ∙ ap (first_in (q + j) cap) (sym (ats_append xs ys (till ∷ []))) ∙ ap (λ n. first_in (q + j) n (ats whole ++ till ∷ [])) (sym e);
        rid_is = λ l m. rid_of ∙ rid_elsewhere q used j at_end ws ∙ ap (λ n. rid_before n ys (q + j)) (sym is) ∙ sym (rid_past (q + j) xs ys rid early);
        order =
            subst (AllByRecursion (InOrder rid whole)) (sym (filter-append (in_file (q + j) size) xs ys ∙ ap (λ (zs : List Placed). zs ++ filter (in_file (q + j) size) ys) (none_in (q + j) size xs early)))
            (All-filter (InOrder rid whole) (in_file (q + j) size) ys batch);
      }

  pub files_come : (cap j n : ℕ) (o : Opening) (newest : ℕ) (fs : List FreshFile) (taken : List HeadedFile) (more : List Headed) → fs ≡ map (fresh_file cap at_end used ws) (starts cap (used + j) n) → AreHeaded o newest fs taken
      → AreThoseFiles cap taken more → AllKeep begin till rid whole (q + j) more
  files_come cap j n o newest fs [] [] e t those = tt
  files_come cap j n o newest fs [] (f ∷ more) e t those = absurd those
  files_come cap j n o newest fs (h ∷ taken) [] e t those = absurd those
  files_come cap j zero o newest [] (h ∷ taken) (f ∷ more) e t those = absurd t
  files_come cap j zero o newest (x ∷ fs) (h ∷ taken) (f ∷ more) e t those = absurd (cc)
  files_come cap j (suc n) o newest [] (h ∷ taken) (f ∷ more) e t those = absurd t
  files_come cap j (suc n) o newest (x ∷ fs) (h ∷ taken) (f ∷ more) e t those =
      let here : x ≡ fresh_file cap at_end used ws (used + j) = cc in
      let rest : fs ≡ map (fresh_file cap at_end used ws) (starts cap (used + j + cap) n) = cc in
      let header : f.header ≡ Rattle.qls_log.specs.Logs.header_for o h.header.serial (newest + 1) x = those.0.header ∙ t.0 in (
        file_comes cap j (length f.area) f.header those.0.area (ap (λ (y : FileHeader). y.first) header ∙ ap (λ (y : FreshFile). y.first) here) (ap (λ (y : FileHeader). y.rid) header ∙ ap (λ (y : FreshFile). y.rid) here),
        subst (λ m. AllKeep begin till rid whole m more) (add q j cap ∙ ap (λ c. q + j + c) (sym those.0.area))
            (files_come cap (j + cap) n o (newest + 1) fs taken more (rest ∙ ap (λ m. map (fresh_file cap at_end used ws) (starts cap m n)) (sym (add used j cap))) t.1 those.1),
      )
    where
      add : (a b c : ℕ) → a + (b + c) ≡ a + b + c
      add a b c = omega arith

pub keep_append : (begin end rid : ℕ) (reads : List Placed) (start : ℕ) (fs gs : List Headed) → AllKeep begin end rid reads start fs → AllKeep begin end rid reads (start + length (stream fs)) gs → AllKeep begin end rid reads start (fs ++ gs)
keep_append begin end rid reads start [] gs a b = subst (λ n. AllKeep begin end rid reads n gs) (omega arith) b
keep_append begin end rid reads start (f ∷ fs) gs a b =
    (a.0, keep_append begin end rid reads (start + length f.area) fs gs a.1 (subst (λ n. AllKeep begin end rid reads n gs) (omega (arith, Rattle.std.proofs.Common.length-append f.area (stream fs))) b))
