-- A batch that is appended and then flushed.
use Rattle.std.proofs.Common.{◌≡◌, List, [], ◌∷◌, ◌++◌, ℕ, Option, Some, None, Ok, sym, ap, ◌∙◌, append_assoc, append-nil}
use Rattle.qls_record.specs.Record.{Record}
use Rattle.qls_site.specs.Content.{Moment, Content, Tells, moments_since}
use Rattle.qls_meaning.specs.Reading.{Read}
use Rattle.qls_meaning.specs.History.{AllUnmarked}
use Rattle.qls_blocks.specs.Parts.{with_sync, with_syncs}
use Rattle.qls_pool.specs.Files.{Carries}
use Rattle.qls_log.specs.Logs.{LogState}
use Rattle.qls_log.specs.Appending.{SyncsAll}
use Rattle.qls_log.specs.Reads.{IsRead, ReadsOn, batch_reads}
use Rattle.qls_log.proofs.Behind.{unmarked_first}

pub syncs_moments : (ids : List ℕ) (c : Content) → (xs : List Moment) × ((with_syncs ids c).moments ≡ c.moments ++ xs)
syncs_moments [] c = ([], sym (append-nil c.moments))
syncs_moments (id ∷ ids) c =
    let one : Content = with_sync id c in
    let rest = syncs_moments ids one in
    (one.now ∷ rest.0, rest.1 ∙ append_assoc c.moments (one.now ∷ []) rest.0)

-- what was read before, and then the batch
abbrev pub ReadsPut : List Record → LogState → LogState → Content → Content → Type 0
ReadsPut rs old new a b = AllUnmarked a.now (moments_since a b) → (reads : List Read) → IsRead old reads a.now.disk → IsRead new (reads ++ batch_reads old rs) b.now.disk

pub told_put : (rs : List Record) (old mid new : LogState) (ids : List ℕ) (x : Unit {0}) (a m b : Option Content) → Tells (ReadsOn rs old mid) a m → Tells (SyncsAll ids (Ok x)) m b → ((reads : List Read) → Carries (IsRead mid reads) (IsRead new reads) m b)
    → Tells (ReadsPut rs old new) a b
told_put rs old mid new ids x None None None r s k = tt
told_put rs old mid new ids x None None (Some z) r s k = absurd s
told_put rs old mid new ids x None (Some y) b r s k = absurd r
told_put rs old mid new ids x (Some w) None b r s k = absurd r
told_put rs old mid new ids x (Some w) (Some y) None r s k = absurd s
told_put rs old mid new ids x (Some w) (Some y) (Some z) r s k = λ unmarked reads read.
    let syncs = syncs_moments ids y in
    k (reads ++ batch_reads old rs) (r.read (unmarked_first w y z syncs.0 r.adds (ap (λ (c : Content). c.moments) s ∙ syncs.1) unmarked) reads read)
