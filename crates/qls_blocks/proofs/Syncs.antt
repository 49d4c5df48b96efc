-- One sync after another.
use Rattle.std.proofs.Common.{◌≡◌, ℕ, zero, suc, ◌+◌, ◌<◌, List, [], ◌∷◌, ◌++◌, length, take, Option, Some, None, Ok, Err, refl, sym, ap, ◌∙◌, subst, arith, get_or, add-one}
use Rattle.std.specs.Prelude.{IfSome}
use Rattle.std.proofs.Math.Seq.{take-suc}
use Rattle.qls_site.specs.declared.site.SiteError.{SiteError}
use Rattle.qls_site.specs.declared.site.SiteError.TheVariants.{Failed, Memory}
use Rattle.qls_site.specs.Disk.{all_written, sync_at}
use Rattle.qls_site.specs.Content.{Content, Tells, Leads, Acts, Stays, HasFile, CountsOne, on_disk}
use Rattle.qls_site.proofs.Told.{HasFile-change}
use Rattle.qls_blocks.specs.Parts.{HasFiles, Syncs, CountsUpTo, with_sync, with_syncs}

with_syncs-push : (ids : List ℕ) (id : ℕ) (c : Content) → with_syncs (ids ++ id ∷ []) c ≡ with_sync id (with_syncs ids c)
with_syncs-push [] id c = refl
with_syncs-push (i ∷ ids) id c = with_syncs-push ids id (with_sync i c)

-- a sync keeps which files there are
has_after : (id own : ℕ) (c : Content) → HasFile id c → HasFile id (with_sync own c)
has_after id own c h = HasFile-change id own (λ f. record f { stable = all_written f.pending f.stable; pending = [] }) (λ f. refl) c (with_sync own c) refl h

has_afters : (id : ℕ) (ids : List ℕ) (c : Content) → HasFile id c → HasFile id (with_syncs ids c)
has_afters id [] c h = h
has_afters id (i ∷ ids) c h = has_afters id ids (with_sync i c) (has_after id i c h)

has_one : (ids : List ℕ) (k : ℕ) (c : Content) → HasFiles ids c → k < length ids → HasFile (get_or ids k 0) c
has_one [] k c h l = absurd (omega arith)
has_one (id ∷ ids) zero c h l = h.0
has_one (id ∷ ids) (suc k) c h l = has_one ids k c h.1 (omega arith)

-- the first k were synced
abbrev pub SyncedFirst : ℕ → List ℕ → Content → Content → Type 0
SyncedFirst k ids old new = new ≡ with_syncs (take k ids) old

pub none_synced : (ids : List ℕ) (a : Option Content) → Tells (SyncedFirst 0 ids) a a
none_synced ids None = tt
none_synced ids (Some c) = refl

pub next_there : (ids : List ℕ) (k : ℕ) (a b : Option Content) → IfSome a (HasFiles ids) → k < length ids → Tells (SyncedFirst k ids) a b → IfSome b (HasFile (get_or ids k 0))
next_there ids k None None h l t = tt
next_there ids k None (Some n) h l t = absurd t
next_there ids k (Some c) None h l t = absurd t
next_there ids k (Some c) (Some n) h l t = subst (HasFile (get_or ids k 0)) (sym t) (has_afters (get_or ids k 0) (take k ids) c (has_one ids k c h l))

acted : (id : ℕ) (b n : Content) → Acts (on_disk (sync_at id)) b n → n ≡ with_sync id b
acted id b n h = h

pub one_more_synced : (ids : List ℕ) (k : ℕ) (x : Unit {0}) (a b n : Option Content) → k < length ids → Tells (SyncedFirst k ids) a b
    → Tells (Leads {X = Unit {0}} (Acts (on_disk (sync_at (get_or ids k 0)))) Stays (Ok x)) b n → Tells (SyncedFirst (k + 1) ids) a n
one_more_synced ids k x None None None l t s = tt
one_more_synced ids k x None None (Some n) l t s = absurd s
one_more_synced ids k x None (Some b) n l t s = absurd t
one_more_synced ids k x (Some a) None n l t s = absurd t
one_more_synced ids k x (Some a) (Some b) None l t s = absurd s
one_more_synced ids k x (Some a) (Some b) (Some n) l t s =
    let id : ℕ = get_or ids k 0 in
    acted id b n s ∙ ap (with_sync id) t ∙ sym (with_syncs-push (take k ids) id a) ∙ ap (λ (xs : List ℕ). with_syncs xs a) (sym (take-suc ids k 0 l) ∙ ap (λ j. take j ids) (sym (add-one k)))

failed_at : (ids : List ℕ) (k : ℕ) (e : SiteError) (a b n : Content) → b ≡ with_syncs (take k ids) a → Leads {X = Unit {0}} (Acts (on_disk (sync_at (get_or ids k 0)))) Stays (Err e) b n
    → Leads {X = Unit {0}} Stays Stays (Err e) (with_syncs (take k ids) a) n
failed_at ids k Failed a b n t s = s ∙ ap (λ (c : Content). record { now = c.now; moments = c.moments ++ c.now ∷ [] }) t
failed_at ids k Memory a b n t s = s ∙ t

pub failed_there : (ids : List ℕ) (k : ℕ) (e : SiteError) (a b n : Option Content) → k < length ids → Tells (SyncedFirst k ids) a b
    → Tells (Leads {X = Unit {0}} (Acts (on_disk (sync_at (get_or ids k 0)))) Stays (Err e)) b n → Tells (Syncs ids (Err e)) a n
failed_there ids k e None None None l t s = tt
failed_there ids k e None None (Some n) l t s = absurd s
failed_there ids k e None (Some b) n l t s = absurd t
failed_there ids k e (Some a) None n l t s = absurd t
failed_there ids k e (Some a) (Some b) None l t s = absurd s
failed_there ids k e (Some a) (Some b) (Some n) l t s = (k, l, failed_at ids k e a b n t s)

pub all_synced : (ids : List ℕ) (x : Unit {0}) (a b : Option Content) → Tells (SyncedFirst (length ids) ids) a b → Tells (Syncs ids (Ok x)) a b
all_synced ids x None None t = tt
all_synced ids x None (Some n) t = absurd t
all_synced ids x (Some c) None t = absurd t
all_synced ids x (Some c) (Some n) t = t ∙ ap (λ (xs : List ℕ). with_syncs xs c) (take_all ids)
  where
    take_all : (xs : List ℕ) → take (length xs) xs ≡ xs
    take_all [] = refl
    take_all (y ∷ ys) = ap (λ (zs : List ℕ). y ∷ zs) (take_all ys)

-- ---- counts

pub none_counted : (a : Option Content) (n : ℕ) → CountsUpTo a (Ok (tt {0})) 0 n n
none_counted None n = (omega arith, omega arith)
none_counted (Some c) n = omega arith

pub one_more_counted : (ids : List ℕ) (k : ℕ) (x : Unit {0}) (a b : Option Content) (before mid now : ℕ) → Tells (SyncedFirst k ids) a b → CountsUpTo a (Ok (tt {0})) k before mid
    → CountsOne {X = Unit {0}} b (Ok x) mid now → CountsUpTo a (Ok (tt {0})) (k + 1) before now
one_more_counted ids k x None None before mid now t c o = (omega (arith, c.0, o.0), omega (arith, c.1, o.1))
one_more_counted ids k x None (Some n) before mid now t c o = absurd t
one_more_counted ids k x (Some a) None before mid now t c o = absurd t
one_more_counted ids k x (Some a) (Some n) before mid now t c o = omega (arith, c, o)

pub failed_counted : (ids : List ℕ) (k : ℕ) (e : SiteError) (a b : Option Content) (before mid now : ℕ) → k < length ids → Tells (SyncedFirst k ids) a b → CountsUpTo a (Ok (tt {0})) k before mid
    → CountsOne {X = Unit {0}} b (Err e) mid now → CountsUpTo a (Err e) (length ids) before now
failed_counted ids k e None None before mid now l t c o = (omega (arith, c.0, o.0), omega (arith, c.1, o.1, l))
failed_counted ids k e None (Some n) before mid now l t c o = absurd t
failed_counted ids k e (Some a) None before mid now l t c o = absurd t
failed_counted ids k Failed (Some a) (Some n) before mid now l t c o = (omega (arith, c, o), omega (arith, c, o, l))
failed_counted ids k Memory (Some a) (Some n) before mid now l t c o = (omega (arith, c, o), omega (arith, c, o, l))
