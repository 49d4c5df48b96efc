use Rattle.std.proofs.Common.{◌≡◌, [], ◌∷◌, List, Ok, Err, IfSome, IsTrue, refl, sym, ap, subst, rules}
use Rattle.std.specs.List.{AllByRecursion}
use Rattle.qls_site.specs.Content.{Tells}
use Rattle.qls_filehdr.specs.Limits.{is_legal_header}
use Rattle.qls_pool.specs.Files.{HeadedFile, OnDisk}
use Rattle.qls_log.specs.declared.opening.Opening.{Opening}
use Rattle.qls_log.specs.Logs.{LogState}
use Rattle.qls_log.specs.Taking.{TakesFiles}
use Rattle.qls_log.specs.Standing.{LogThere, StandsWith}
use Rattle.qls_log.specs.Appending.{ReadsNone}
use Rattle.qls_log.specs.Reads.{BeginsReading}
use Rattle.qls_log.specs.Soundness.{BeginsUndamaged}
use Rattle.qls_log.proofs.Sound.{told_begun}
use Rattle.qls_log.proofs.News.{spent_at_once, told_new, told_start, told_reads, told_begins, told_others, room_of}
use Rattle.qls_log.proofs.Going.{told_first}
use Rattle.qls_log.proofs.Quiets.{told_quiet_files}
use Rattle.qls_log.specs.Keeping.{IsTakeStep}
use Rattle.qls_log.specs.Unwritten.{BeginsWritten}
use Rattle.qls_pool.proofs.Moments.{told_of}
use Rattle.qls_log.proofs.AppendSectors.{told_took, told_took_stays, told_took_well, told_begun_written, told_not_begun}
use Rattle.qls_log.proofs.log.Log.create.Goals as goal

pub returns-in_err-files-clause-spent : goal.returns-in_err-files-clause-spent
returns-in_err-files-clause-spent g c = λ e. spent_at_once (record { kind = c.args.kind; name = c.args.name; home = c.args.home; epoch = 1 }) c.take_files.new.pool refl (c.in_err-files.ensures.spent (search rules))

pub returns-clause-new : goal.returns-clause-new
returns-clause-new g c = search rules

pub returns-clause-others : goal.returns-clause-others
returns-clause-others g c =
    told_others (record { kind = c.args.kind; name = c.args.name; home = c.args.home; epoch = 1 }) c.args.pool.now c.take_files.new.pool c.in_ok-files.files.items 0 (record { first = 4096; rid = 0 } ∷ [])
    c.in_ok-files.ensures.headers c.in_ok-files.ensures.legal _ _ c.in_ok-files.ensures.told

pub returns-clause-there : goal.returns-clause-there
returns-clause-there g c =
    let o : Opening = record { kind = c.args.kind; name = c.args.name; home = c.args.home; epoch = 1 } in
    let n = returns-clause-new g c in
    let files : c.in_ok-files.files.items ≡ n.file ∷ [] = ap (λ (l : LogState). l.files) n.log in
    subst (λ (l : LogState). IfSome (g.S.Site.told c.take_files.new.site) (OnDisk (LogThere l))) (sym n.log)
    (told_new o c.args.pool.now c.take_files.new.pool n.file n.header (subst (λ (hs : List HeadedFile). AllByRecursion (λ h. IsTrue (is_legal_header h.header)) hs) files c.in_ok-files.ensures.legal) _ _
    (subst (λ (hs : List HeadedFile). Tells (TakesFiles o.home c.args.pool.now c.take_files.new.pool hs) (g.S.Site.told c.args.site.now) (g.S.Site.told c.take_files.new.site)) files c.in_ok-files.ensures.told) c.requires.pool c.requires.new)

pub returns-clause-reading : goal.returns-clause-reading
returns-clause-reading g c =
    let o : Opening = record { kind = c.args.kind; name = c.args.name; home = c.args.home; epoch = 1 } in
    let n = returns-clause-new g c in
    let files : c.in_ok-files.files.items ≡ n.file ∷ [] = ap (λ (l : LogState). l.files) n.log in
    subst (λ (l : LogState). Tells (ReadsNone l) (g.S.Site.told c.args.site.now) (g.S.Site.told c.take_files.new.site)) (sym n.log)
    (told_reads o c.args.pool.now c.take_files.new.pool n.file n.header (subst (λ (hs : List HeadedFile). AllByRecursion (λ h. IsTrue (is_legal_header h.header)) hs) files c.in_ok-files.ensures.legal) _ _ (room_of o c.requires.legal.kib)
    (subst (λ (hs : List HeadedFile). Tells (TakesFiles o.home c.args.pool.now c.take_files.new.pool hs) (g.S.Site.told c.args.site.now) (g.S.Site.told c.take_files.new.site)) files c.in_ok-files.ensures.told) c.requires.pool c.requires.new)

pub returns-clause-stands : goal.returns-clause-stands
returns-clause-stands g c =
    let o : Opening = record { kind = c.args.kind; name = c.args.name; home = c.args.home; epoch = 1 } in
    let n = returns-clause-new g c in
    let files : c.in_ok-files.files.items ≡ n.file ∷ [] = ap (λ (l : LogState). l.files) n.log in
    subst (λ (l : LogState). IfSome (g.S.Site.told c.take_files.new.site) (OnDisk (StandsWith l []))) (sym n.log)
    (told_start o c.args.pool.now c.take_files.new.pool n.file n.header (subst (λ (hs : List HeadedFile). AllByRecursion (λ h. IsTrue (is_legal_header h.header)) hs) files c.in_ok-files.ensures.legal) _ _
    (subst (λ (hs : List HeadedFile). Tells (TakesFiles o.home c.args.pool.now c.take_files.new.pool hs) (g.S.Site.told c.args.site.now) (g.S.Site.told c.take_files.new.site)) files c.in_ok-files.ensures.told) c.requires.pool c.requires.new)

pub returns-clause-begins : goal.returns-clause-begins
returns-clause-begins g c =
    let o : Opening = record { kind = c.args.kind; name = c.args.name; home = c.args.home; epoch = 1 } in
    let n = returns-clause-new g c in
    let files : c.in_ok-files.files.items ≡ n.file ∷ [] = ap (λ (l : LogState). l.files) n.log in
    subst (λ (l : LogState). Tells (BeginsReading l) (g.S.Site.told c.args.site.now) (g.S.Site.told c.take_files.new.site)) (sym n.log)
    (told_begins o c.args.pool.now c.take_files.new.pool n.file n.header (subst (λ (hs : List HeadedFile). AllByRecursion (λ h. IsTrue (is_legal_header h.header)) hs) files c.in_ok-files.ensures.legal) _ _ (room_of o c.requires.legal.kib)
    (subst (λ (hs : List HeadedFile). Tells (TakesFiles o.home c.args.pool.now c.take_files.new.pool hs) (g.S.Site.told c.args.site.now) (g.S.Site.told c.take_files.new.site)) files c.in_ok-files.ensures.told) c.requires.pool c.requires.new)

pub take_files-requires-clause-start : goal.take_files-requires-clause-start
take_files-requires-clause-start g c = told_first (record { kind = c.args.kind; name = c.args.name; home = c.args.home; epoch = 1 }) c.args.pool.now _ refl c.requires.pool c.requires.new

pub returns-clause-quiet : goal.returns-clause-quiet
returns-clause-quiet g c = told_quiet_files c.args.home c.args.pool.now c.take_files.new.pool c.in_ok-files.files.items _ _ c.in_ok-files.ensures.told

pub returns-clause-sound : goal.returns-clause-sound
returns-clause-sound g c =
    let o : Opening = record { kind = c.args.kind; name = c.args.name; home = c.args.home; epoch = 1 } in
    let n = returns-clause-new g c in
    let there = subst (λ (l : LogState). IfSome (g.S.Site.told c.take_files.new.site) (OnDisk (LogThere l))) n.log (returns-clause-there g c) in
    let begins = subst (λ (l : LogState). Tells (BeginsReading l) (g.S.Site.told c.args.site.now) (g.S.Site.told c.take_files.new.site)) n.log (returns-clause-begins g c) in
    subst (λ (l : LogState). Tells (BeginsUndamaged l) (g.S.Site.told c.args.site.now) (g.S.Site.told c.take_files.new.site)) (sym n.log)
    (told_begun o n.file (g.S.Site.told c.args.site.now) (g.S.Site.told c.take_files.new.site) n.header there begins)

pub returns-in_err-files-clause-stays : goal.returns-in_err-files-clause-stays
returns-in_err-files-clause-stays g c =
    let o : Opening = record { kind = c.args.kind; name = c.args.name; home = c.args.home; epoch = 1 } in
    told_took_stays o _ _ (told_took _ o c.take_files.result _ _ c.take_files.ensures.kept)

pub returns-in_err-files-clause-writes : goal.returns-in_err-files-clause-writes
returns-in_err-files-clause-writes g c =
    let o : Opening = record { kind = c.args.kind; name = c.args.name; home = c.args.home; epoch = 1 } in
    let is : Err c.in_err-files.field-0.0 ≡ c.from_residual.result = search (rules, c.from_residual.ensures) in
    told_not_begun LogState (λ l. l) c.in_err-files.field-0.0 c.from_residual.result _ _ is (told_took_well o _ _ (told_took _ o c.take_files.result _ _ c.take_files.ensures.kept))

pub returns-clause-stays : goal.returns-clause-stays
returns-clause-stays g c =
    let o : Opening = record { kind = c.args.kind; name = c.args.name; home = c.args.home; epoch = 1 } in
    told_took_stays o _ _ (told_of (IsTakeStep o) _ _ c.in_ok-files.ensures.kept)

pub returns-clause-writes : goal.returns-clause-writes
returns-clause-writes g c =
    let o : Opening = record { kind = c.args.kind; name = c.args.name; home = c.args.home; epoch = 1 } in
    let n = returns-clause-new g c in
    let files : c.in_ok-files.files.items ≡ n.file ∷ [] = ap (λ (l : LogState). l.files) n.log in
    let legal = subst (λ (hs : List HeadedFile). AllByRecursion (λ h. IsTrue (is_legal_header h.header)) hs) files c.in_ok-files.ensures.legal in
    let told = subst (λ (hs : List HeadedFile). Tells (TakesFiles o.home c.args.pool.now c.take_files.new.pool hs) (g.S.Site.told c.args.site.now) (g.S.Site.told c.take_files.new.site)) files c.in_ok-files.ensures.told in
    subst (λ (l : LogState). Tells (BeginsWritten {X = LogState} (Ok l) (λ x. x)) (g.S.Site.told c.args.site.now) (g.S.Site.told c.take_files.new.site)) (sym n.log)
    (told_begun_written o c.args.pool.now c.take_files.new.pool n.file _ _ told n.header legal c.in_ok-files.ensures.kept c.requires.pool
    (told_new o c.args.pool.now c.take_files.new.pool n.file n.header legal _ _ told c.requires.pool c.requires.new))
