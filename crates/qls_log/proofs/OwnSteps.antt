-- What one call on the site does to the log's own journal, and what it leaves.
use Rattle.std.proofs.Common.{◌≡◌, ℕ, ◌+◌, ◌*◌, Bool, true, false, cond, ◌&&◌, ◌==◌, List, [], ◌∷◌, ◌++◌, take, replicate, Option, Some, None, refl, sym, ap, ap₂, ◌∙◌, subst, arith}
use Rattle.std.specs.List.{filter, AllByRecursion}
use Rattle.std.specs.Cmp.Lexicographic.{bytes_decides}
use Rattle.std.proofs.lemmas.List.Elements.{filter-append}
use Rattle.qls_model.specs.Bytes.{same}
use Rattle.qls_site.specs.declared.site.Place.TheVariants.{Empty}
use Rattle.qls_site.specs.Disk.{Disk, FileState, file_of, full_file, changed, change_file, all_written, bytes_at, seen_bytes, create_at}
use Rattle.qls_site.specs.Content.{Moment, on_disk}
use Rattle.qls_site.proofs.Told.{KeepsId}
use Rattle.qls_filehdr.specs.declared.JournalKind.{JournalKind}
use Rattle.qls_filehdr.specs.declared.JournalKind.TheVariants.{Queue, List as Listed}
use Rattle.qls_filehdr.specs.declared.FileHeader.{FileHeader}
use Rattle.qls_meaning.specs.Journals.{Headed, headed, is_in_use, is_of, same_kind, by_number}
use Rattle.qls_meaning.specs.History.{is_file_in_use}
use Rattle.qls_meaning.specs.Orderly.{journal_on}
use Rattle.qls_meaning.specs.Spent.{greatest_id}
use Rattle.qls_pool.specs.Files.{IdsDiffer}
use Rattle.qls_pool.specs.Discipline.{IsPoolStep}
use Rattle.qls_pool.specs.Next.{HeadersStay}
use Rattle.qls_pool.proofs.Disks.{eqb_is, same_id, other-with, lacks_above}
use Rattle.qls_pool.proofs.Steps.{all_map, all_weaken, all_with, all_found, own_change, differ_change, differ_create}
use Rattle.qls_pool.proofs.FirstTaken.{same_is_step}
use Rattle.qls_log.specs.declared.opening.Opening.{Opening}
use Rattle.qls_log.specs.Steps.{is_own, IsOwnNext, TakesOwn, IsLogStep}
use Rattle.qls_log.proofs.Splits.{Split, split, change_split, mine, heads, heads-append, heads-in, heads-out, heads-with}
use Rattle.qls_log.proofs.Takes.{other_changed}

-- ---- the files of another journal

no_both : (b : Bool) → b ≡ true → b ≡ false → ⊥
no_both b x y = cc

both : (a b : Bool) → (a && b) ≡ true → (a ≡ true) × (b ≡ true)
both true b e = (refl, e)
both false b e = absurd (cc)

named : (a b : List ℕ) → same a b ≡ true → a ≡ b
named a b e = (bytes_decides a b).0 e

same_kinds : (k l j : JournalKind) → same_kind k l ≡ true → same_kind j l ≡ same_kind k j
same_kinds Queue Queue Queue e = refl
same_kinds Queue Queue Listed e = refl
same_kinds Listed Listed Queue e = refl
same_kinds Listed Listed Listed e = refl
same_kinds Queue Listed j e = absurd (cc)
same_kinds Listed Queue j e = absurd (cc)

same_names : (a b c : List ℕ) → same a b ≡ true → same c b ≡ same a c
same_names a b c e = from (same c b) refl (same a c) refl
  where
    is : a ≡ b
    is = named a b e

    from : (x : Bool) → same c b ≡ x → (y : Bool) → same a c ≡ y → same c b ≡ same a c
    from true h true k = h ∙ sym k
    from true h false k = absurd (no_both (same a c) ((bytes_decides a c).1 (is ∙ sym (named c b h))) k)
    from false h true k = absurd (no_both (same c b) ((bytes_decides c b).1 (sym (named a c k) ∙ is)) h)
    from false h false k = h ∙ sym k

-- a file of one journal is of no other
pub of_one : (o : Opening) (kind : JournalKind) (name : List ℕ) (f : Headed) → is_of o.kind o.name f ≡ true → is_own o kind name ≡ false → is_of kind name f ≡ false
of_one o kind name f own other =
    let parts = both (same_kind o.kind f.header.kind) (same o.name f.header.name) own in
    ap₂ (λ a b. a && b) (same_kinds o.kind f.header.kind kind parts.0) (same_names o.name f.header.name name parts.1) ∙ other

-- the journal doesn't see the file
abbrev pub IsHidden : JournalKind → List ℕ → FileState → Type 0
IsHidden kind name f = is_in_use f.place ≡ true → is_of kind name (headed (full_file f)) ≡ false

hidden : (kind : JournalKind) (name : List ℕ) (f : FileState) (d : Disk) → IsHidden kind name f → mine kind name (f ∷ d) ≡ mine kind name d
hidden kind name f d h = from (is_in_use f.place) refl
  where
    from : (b : Bool) → is_in_use f.place ≡ b → mine kind name (f ∷ d) ≡ mine kind name d
    from false e = ap (filter (is_of kind name)) (heads-out f d e)
    from true e = ap (filter (is_of kind name)) (heads-in f d e) ∙ ap (λ b. cond b (headed (full_file f) ∷ mine kind name d) (mine kind name d)) (h e)

pub hidden_change : (kind : JournalKind) (name : List ℕ) (id : ℕ) (f : FileState) (c : FileState → FileState) (d : Disk) → Split id f d → IsHidden kind name f → IsHidden kind name (c f) → mine kind name (change_file id c d) ≡ mine kind name d
hidden_change kind name id f c d s a b =
    let test = is_of kind name in
    ap (λ e. mine kind name e) (change_split id f c d s) ∙ around (c f) b ∙ sym (around f a) ∙ sym (ap (λ e. mine kind name e) s.is)
  where
    around : (g : FileState) → IsHidden kind name g → mine kind name (s.before ++ g ∷ s.after) ≡ mine kind name s.before ++ mine kind name s.after
    around g h =
        ap (filter (is_of kind name)) (heads-append s.before (g ∷ s.after)) ∙ filter-append (is_of kind name) (heads s.before) (heads (g ∷ s.after))
        ∙ ap (λ (x : List Headed). mine kind name s.before ++ x) (hidden kind name g s.after h)

same_journal : (kind : JournalKind) (name : List ℕ) (d e : Disk) → mine kind name e ≡ mine kind name d → journal_on e kind name ≡ journal_on d kind name
same_journal kind name d e h = ap (λ (fs : List Headed). record { kind = kind; name = name; files = by_number fs }) h

-- ---- a file that comes into use

next_stays : (o : Opening) (m : Moment) (f : FileState) → TakesOwn o m (Some f) f
next_stays o m f = λ a b. absurd (no_both (is_in_use f.place) b a)

next_same : (o : Opening) (m : Moment) → IdsDiffer m.disk → AllByRecursion (λ g. TakesOwn o m (file_of g.id m.disk) g) m.disk
next_same o m differ =
    all_weaken (λ f. file_of f.id m.disk ≡ Some f) (λ g. TakesOwn o m (file_of g.id m.disk) g) (λ f e. subst (λ (p : Option FileState). TakesOwn o m p f) (sym e) (next_stays o m f)) m.disk (all_found m.disk differ)

next_change : (o : Opening) (own : ℕ) (c : FileState → FileState) → KeepsId c → (m : Moment) → IdsDiffer m.disk → ((f : FileState) → file_of own m.disk ≡ Some f → TakesOwn o m (Some f) (c f))
    → AllByRecursion (λ g. TakesOwn o m (file_of g.id m.disk) g) (change_file own c m.disk)
next_change o own c keeps m differ mine =
    all_map (λ f. file_of f.id m.disk ≡ Some f) (λ g. TakesOwn o m (file_of g.id m.disk) g) (changed own c)
    (λ f e. subst (λ (p : Option FileState). TakesOwn o m p (changed own c f)) (sym (ap (λ n. file_of n m.disk) (same_id own c keeps f) ∙ e)) (one f e)) m.disk (all_found m.disk differ)
  where
    one : (f : FileState) → file_of f.id m.disk ≡ Some f → TakesOwn o m (Some f) (changed own c f)
    one f e =
        elim (f.id == own) as (λ b. (f.id == own) ≡ b → TakesOwn o m (Some f) (cond b (c f) f)) [
          | true ↦ λ k. mine f (subst (λ n. file_of n m.disk ≡ Some f) (eqb_is f.id own k) e)
          | false ↦ λ k. next_stays o m f
        ] refl

-- an empty file is taken by nobody
next_empty : (o : Opening) (m : Moment) (p : Option FileState) (g : FileState) → is_in_use g.place ≡ false → TakesOwn o m p g
next_empty o m None g e = tt
next_empty o m (Some f) g e = λ a b. absurd (no_both (is_in_use g.place) b e)

-- ---- steps

-- nothing happened
pub own_same : (o : Opening) (m : Moment) → IdsDiffer m.disk → IsLogStep o m m
own_same o m differ = record {
  answered = refl;
  differ = λ d. d;
  pool = same_is_step m m differ refl;
  next = next_same o m differ;
  headers = λ id used. refl;
  journals = λ kind name other. refl;
  files = λ id f there used other. there;
}

-- what is owed of the one file that a call changes, f before and g after
pub record ChangesOwn (o : Opening) (m : Moment) (f g : FileState) : Type 0 where
  pub before : (kind : JournalKind) (name : List ℕ) → is_own o kind name ≡ false → IsHidden kind name f
  pub after : (kind : JournalKind) (name : List ℕ) → is_own o kind name ≡ false → IsHidden kind name g
  pub next : TakesOwn o m (Some f) g
  pub header : is_in_use f.place ≡ true → take 4096 (all_written g.pending g.stable) ≡ take 4096 (all_written f.pending f.stable)
  pub own : is_in_use f.place ≡ true → is_of o.kind o.name (headed (full_file f)) ≡ true

some_is : (f g : FileState) → ◌≡◌ {A = Option FileState} (Some f) (Some g) → f ≡ g
some_is f g e = cc

module _ (o : Opening) (id : ℕ) (c : FileState → FileState) (keeps : KeepsId c) (m : Moment) (differ : IdsDiffer m.disk) (f : FileState) (there : file_of id m.disk ≡ Some f)
    (changes : ChangesOwn o m f (c f)) where
  abbrev after : Moment
  after = on_disk (change_file id c) m

  header_stays : HeadersStay m after
  header_stays k used = from (k == id) refl
    where
      from : (b : Bool) → (k == id) ≡ b → take 4096 (bytes_at k after.disk) ≡ take 4096 (bytes_at k m.disk)
      from false e = ap (λ (p : Option FileState). take 4096 (seen_bytes p)) (other_changed id k c keeps e m.disk)
      from true e =
          let is : k ≡ id = eqb_is k id e in
          let at : file_of k m.disk ≡ Some f = ap (λ n. file_of n m.disk) is ∙ there in
          ap (λ (p : Option FileState). take 4096 (seen_bytes p)) (ap (λ n. file_of n after.disk) is ∙ own_change id c keeps m.disk f there)
          ∙ changes.header (sym (ap is_file_in_use at) ∙ used)
          ∙ sym (ap (λ (p : Option FileState). take 4096 (seen_bytes p)) at)

  others_stay : (k : ℕ) (g : FileState) → file_of k m.disk ≡ Some g → is_in_use g.place ≡ true → is_of o.kind o.name (headed (full_file g)) ≡ false → file_of k after.disk ≡ Some g
  others_stay k g at used other = from (k == id) refl
    where
      from : (b : Bool) → (k == id) ≡ b → file_of k after.disk ≡ Some g
      from false e = other_changed id k c keeps e m.disk ∙ at
      from true e =
          let same : g ≡ f = some_is g f (sym at ∙ ap (λ n. file_of n m.disk) (eqb_is k id e) ∙ there) in
          absurd (no_both (is_of o.kind o.name (headed (full_file g))) (ap (λ (x : FileState). is_of o.kind o.name (headed (full_file x))) same ∙ changes.own (ap (λ (x : FileState). is_in_use x.place) (sym same) ∙ used)) other)

  -- one file changed
  pub own_step : IsPoolStep m after → IsLogStep o m after
  own_step pool = record {
    answered = refl;
    differ = differ_change id c keeps m.disk;
    pool = pool;
    next = next_change o id c keeps m differ (λ g e. subst (λ (x : FileState). TakesOwn o m (Some x) (c x)) (some_is f g (sym there ∙ e)) changes.next);
    headers = header_stays;
    journals = λ kind name other.
        same_journal kind name m.disk after.disk (hidden_change kind name id f c m.disk (split id f m.disk differ there) (changes.before kind name other) (changes.after kind name other));
    files = others_stay;
  }

-- an empty file is changed, and stays one
pub empty_changes : (o : Opening) (m : Moment) (f g : FileState) → is_in_use f.place ≡ false → is_in_use g.place ≡ false → ChangesOwn o m f g
empty_changes o m f g e k = record {
  before = λ kind name other used. absurd (no_both (is_in_use f.place) used e);
  after = λ kind name other used. absurd (no_both (is_in_use g.place) used k);
  next = next_empty o m (Some f) g k;
  header = λ used. absurd (no_both (is_in_use f.place) used e);
  own = λ used. absurd (no_both (is_in_use f.place) used e);
}

-- a file of the journal is changed, past its header, and stays in use
pub used_changes : (o : Opening) (m : Moment) (f g : FileState) → is_in_use f.place ≡ true → is_of o.kind o.name (headed (full_file f)) ≡ true → take 4096 (all_written g.pending g.stable) ≡ take 4096 (all_written f.pending f.stable)
    → ChangesOwn o m f g
used_changes o m f g used own header = record {
  before = λ kind name other u. of_one o kind name (headed (full_file f)) own other;
  after = λ kind name other u. of_one o kind name (headed (full_file g)) (ap (λ (bytes : List ℕ). same_kind o.kind (fields bytes).kind && same o.name (fields bytes).name) header ∙ own) other;
  next = λ a b. absurd (no_both (is_in_use f.place) used a);
  header = λ u. header;
  own = λ u. own;
}
  where
    fields : List ℕ → FileHeader
    fields bytes = Rattle.qls_filehdr.specs.Header.header_fields bytes

-- an empty file comes into use as the journal's next one
pub link_changes : (o : Opening) (m : Moment) (f g : FileState) (header : FileHeader) → is_in_use f.place ≡ false → is_of o.kind o.name (headed (full_file g)) ≡ true → IsOwnNext o m g header → ChangesOwn o m f g
link_changes o m f g header e own is = record {
  before = λ kind name other used. absurd (no_both (is_in_use f.place) used e);
  after = λ kind name other used. of_one o kind name (headed (full_file g)) own other;
  next = λ a b. (header, is);
  header = λ used. absurd (no_both (is_in_use f.place) used e);
  own = λ used. absurd (no_both (is_in_use f.place) used e);
}

-- a file of the journal goes out of use, with all its bytes
pub back_changes : (o : Opening) (m : Moment) (f g : FileState) → is_of o.kind o.name (headed (full_file f)) ≡ true → is_in_use g.place ≡ false → all_written g.pending g.stable ≡ all_written f.pending f.stable → ChangesOwn o m f g
back_changes o m f g own out same = record {
  before = λ kind name other used. of_one o kind name (headed (full_file f)) own other;
  after = λ kind name other used. absurd (no_both (is_in_use g.place) used out);
  next = next_empty o m (Some f) g out;
  header = λ used. ap (take 4096) same;
  own = λ used. own;
}

-- ---- a new file

some_none : (f : FileState) → ◌≡◌ {A = Option FileState} None (Some f) → ⊥
some_none f e = cc

module _ (o : Opening) (id part kib : ℕ) (m : Moment) (differ : IdsDiffer m.disk) (next : id ≡ greatest_id m.disk + 1) where
  lacks : file_of id m.disk ≡ None
  lacks = lacks_above id m.disk (omega (arith, next))

  abbrev made : FileState
  made = record { id = id; place = Empty part kib; stable = replicate (4096 + 1024 * kib) 0; pending = [] }

  abbrev with_made : Moment
  with_made = on_disk (create_at id part kib) m

  another : (k : ℕ) → is_file_in_use (file_of k m.disk) ≡ true → (id == k) ≡ false
  another k used = from (id == k) refl
    where
      from : (b : Bool) → (id == k) ≡ b → b ≡ false
      from false e = refl
      from true e = absurd (no_both (is_file_in_use (file_of k m.disk)) used (ap is_file_in_use (ap (λ n. file_of n m.disk) (sym (eqb_is id k e)) ∙ lacks)))

  stays_found : (k : ℕ) → is_file_in_use (file_of k m.disk) ≡ true → file_of k with_made.disk ≡ file_of k m.disk
  stays_found k used = other-with made k (another k used) m.disk

  pub own_create : IsPoolStep m with_made → IsLogStep o m with_made
  own_create pool = record {
    answered = refl;
    differ = differ_create id part kib m.disk next;
    pool = pool;
    next = all_with (λ g. TakesOwn o m (file_of g.id m.disk) g) made (next_empty o m (file_of id m.disk) made refl) m.disk (next_same o m differ);
    headers = λ k used. ap (λ (p : Option FileState). take 4096 (seen_bytes p)) (stays_found k used);
    journals = λ kind name other. same_journal kind name m.disk with_made.disk (ap (filter (is_of kind name)) (heads-with made m.disk refl));
    files = λ k f there used other. stays_found k (ap is_file_in_use there ∙ used) ∙ there;
  }
