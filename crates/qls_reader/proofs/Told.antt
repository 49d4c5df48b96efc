-- One read after another.
use Rattle.std.proofs.Common.{◌≡◌, ℕ, zero, suc, ◌+◌, List, ◌∷◌, ◌++◌, take, drop, replicate, Option, Some, None, Result, Ok, Err, refl, sym, ap, ap₂, ◌∙◌, subst, arith, append_assoc, append-nil}
use Rattle.std.specs.Prelude.{IfSome}
use Rattle.std.proofs.lemmas.List.{drop-drop}
use Rattle.qls_site.specs.declared.site.SiteError.{SiteError}
use Rattle.qls_site.specs.declared.site.SiteError.TheVariants.{Failed, Memory}
use Rattle.qls_site.specs.Disk.{Disk, bytes_at}
use Rattle.qls_site.specs.Content.{Moment, Content, Tells, Leads, Stays, IsRead}
use Rattle.qls_reader.specs.declared.spot.FileSpot.{FileSpot}
use Rattle.qls_reader.specs.Spots.{area_on}
use Rattle.qls_reader.specs.Reads.{OnlyReads}

pub only_none : (a : Option Content) → Tells OnlyReads a a
only_none None = tt
only_none (Some c) = record { now = refl; count = 0; moments = sym (append-nil c.moments) }

replicate-more : (m : Moment) (j k : ℕ) → replicate j m ++ replicate k m ≡ replicate (j + k) m
replicate-more m zero k = ap (λ n. replicate n m) (omega arith)
replicate-more m (suc j) k = ap (λ (ms : List Moment). m ∷ ms) (replicate-more m j k) ∙ ap (λ n. replicate n m) (more j k)
  where
    more : (j k : ℕ) → suc (j + k) ≡ suc j + k
    more j k = omega arith

only_both : (a b c : Content) → OnlyReads a b → OnlyReads b c → OnlyReads a c
only_both a b c x y = record {
  now = y.now ∙ x.now;
  count = x.count + y.count;
  moments = y.moments ∙ ap₂ (λ (ms : List Moment) (m : Moment). ms ++ replicate y.count m) x.moments x.now
      ∙ append_assoc a.moments (replicate x.count a.now) (replicate y.count a.now) ∙ ap (λ (ms : List Moment). a.moments ++ ms) (replicate-more a.now x.count y.count);
}

pub only_then : (a b c : Option Content) → Tells OnlyReads a b → Tells OnlyReads b c → Tells OnlyReads a c
only_then None None None x y = tt
only_then None None (Some c) x y = absurd y
only_then None (Some b) c x y = absurd x
only_then (Some a) None c x y = absurd x
only_then (Some a) (Some b) None x y = absurd y
only_then (Some a) (Some b) (Some c) x y = only_both a b c x y

one_read : (r : Result (Unit {0}) SiteError) (a b : Content) → Leads Stays Stays r a b → OnlyReads a b
one_read (Ok x) a b h = record { now = ap (λ (c : Content). c.now) h; count = 1; moments = ap (λ (c : Content). c.moments) h }
one_read (Err Failed) a b h = record { now = ap (λ (c : Content). c.now) h; count = 1; moments = ap (λ (c : Content). c.moments) h }
one_read (Err Memory) a b h = record { now = ap (λ (c : Content). c.now) h; count = 0; moments = ap (λ (c : Content). c.moments) h ∙ sym (append-nil a.moments) }

pub only_read : (r : Result (Unit {0}) SiteError) (a b : Option Content) → Tells (Leads Stays Stays r) a b → Tells OnlyReads a b
only_read r None None h = tt
only_read r None (Some b) h = absurd h
only_read r (Some a) None h = absurd h
only_read r (Some a) (Some b) h = one_read r a b h

-- what was said of the disk before reads holds of it after them, and the other way round
pub still : (P : Disk → Type 0) (a b : Option Content) → Tells OnlyReads a b → IfSome a (λ c. P c.now.disk) → IfSome b (λ c. P c.now.disk)
still P None None t h = tt
still P None (Some b) t h = absurd t
still P (Some a) None t h = absurd t
still P (Some a) (Some b) t h = subst (λ (m : Moment). P m.disk) (sym t.now) h

pub before : (P : Disk → Type 0) (a b : Option Content) → Tells OnlyReads a b → IfSome b (λ c. P c.now.disk) → IfSome a (λ c. P c.now.disk)
before P None None t h = tt
before P None (Some b) t h = absurd t
before P (Some a) None t h = absurd t
before P (Some a) (Some b) t h = subst (λ (m : Moment). P m.disk) t.now h

-- the bytes that were read are those of the data area
pub bytes_read : (a : Option Content) (s : FileSpot) (within n count : ℕ) (x : Unit {0}) (into old new : List ℕ) → IsRead a s.id (4096 + within) n into (Ok x) → n ≡ count → new ≡ old ++ into
    → IfSome a (λ c. new ≡ old ++ take count (drop within (area_on c.now.disk s)))
bytes_read None s within n count x into old new r size e = tt
bytes_read (Some c) s within n count x into old new r size e =
    let place : drop (4096 + within) (bytes_at s.id c.now.disk) ≡ drop within (area_on c.now.disk s) = sym (drop-drop within 4096 (bytes_at s.id c.now.disk)) in
    e ∙ ap (λ t. old ++ t) (r ∙ ap₂ take size place)
