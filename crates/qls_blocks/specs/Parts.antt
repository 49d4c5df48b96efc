-- What a sync of several files does: one call a file, in order.
use Rattle.std.specs.Prelude.{◌≡◌, ℕ, ◌+◌, ◌≤◌, ◌<◌, List, [], ◌∷◌, ◌++◌, length, take, Option, Some, None, Result, Ok, Err}
use Rattle.std.specs.List.{AllByRecursion}
use Rattle.qls_site.specs.declared.site.SiteError.{SiteError}
use Rattle.qls_site.specs.Disk.{sync_at}
use Rattle.qls_site.specs.Content.{Content, Stays, Leads, HasFile, on_disk}

-- each of the files is there
abbrev pub HasFiles : List ℕ → Content → Type 0
HasFiles ids c = AllByRecursion (λ id. HasFile id c) ids

-- a sync happened, and that is one more moment
abbrev pub with_sync : ℕ → Content → Content
with_sync id c = let m = on_disk (sync_at id) c.now in record { now = m; moments = c.moments ++ m ∷ [] }

abbrev pub with_syncs : List ℕ → Content → Content
with_syncs [] c = c
with_syncs (id ∷ ids) c = with_syncs ids (with_sync id c)

-- At Ok each file was synced, in order. At an error those before the k-th were; the sync of the k-th failed, or was refused memory
abbrev pub Syncs : List ℕ → Result (Unit {0}) SiteError → Content → Content → Type 0
Syncs ids (Ok x) old new = new ≡ with_syncs ids old
Syncs ids (Err e) old new = (k : ℕ) × (k < length ids) × Leads {X = Unit {0}} Stays Stays (Err e) (with_syncs (take k ids) old) new

-- where the content is told and all went well, n calls were counted, else n at most
abbrev pub CountsUpTo : Option Content → Result (Unit {0}) SiteError → ℕ → ℕ → ℕ → Type 0
CountsUpTo (Some c) (Ok x) n before now = now ≡ before + n
CountsUpTo (Some c) (Err e) n before now = (before ≤ now) × (now ≤ before + n)
CountsUpTo None result n before now = (before ≤ now) × (now ≤ before + n)
