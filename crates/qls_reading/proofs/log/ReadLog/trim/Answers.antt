use Rattle.std.proofs.Common.{◌≡◌, ◌<◌, ℕ, List, length, map, IfOk, IfSome, refl, sym, ap, ◌∙◌, subst}
use Rattle.qls_site.specs.Content.{Tells}
use Rattle.qls_pool.specs.Files.{HeadedFile as LinkedFile, OnDisk}
use Rattle.qls_log.specs.declared.opening.Opening.{Opening}
use Rattle.qls_log.specs.Steps.{IsLogStep, GoesBy}
use Rattle.qls_log.specs.Reopening.{reopened}
use Rattle.qls_log.specs.Trimming.{without_last, last_number, opened_behind, AreInRow}
use Rattle.qls_scan.specs.declared.answers.JournalFiles.{JournalFiles}
use Rattle.qls_reading.specs.ReadLogs.{ReadLogState, linked, linked_files, first_home, opening_behind, StandsAsRead}
use Rattle.qls_reading.proofs.Kept.{fewer}
use Rattle.qls_reading.proofs.Row.{in_row}
use Rattle.qls_reading.proofs.Trimmed.{opening_left, told_may, log_left, told_epoch, told_home}
use Rattle.qls_reading.proofs.log.ReadLog.trim.Goals as goal

pub trim-requires-clause-row : goal.trim-requires-clause-row
trim-requires-clause-row g c =
    let j : JournalFiles = c.self.inside.journal in
    let files : c.in_ok-files.files.items ≡ linked_files j = c.in_ok-files.ensures.exact ∙ ap (map linked) c.into_vec-files.ensures.same in
    let home : c.home_of-home.result ≡ first_home j.files = c.home_of-home.ensures.exact ∙ ap first_home c.as_slice.ensures.same in
    let o : Opening = opened_behind j.kind j.name c.home_of-home.result (without_last c.self.inside.past c.in_ok-files.files.items) in
    subst (AreInRow o) (sym files) (in_row o j c.self.invariant.order refl refl home)

pub trim-requires-clause-fewer : goal.trim-requires-clause-fewer
trim-requires-clause-fewer g c =
    let j : JournalFiles = c.self.inside.journal in
    let files : c.in_ok-files.files.items ≡ linked_files j = c.in_ok-files.ensures.exact ∙ ap (map linked) c.into_vec-files.ensures.same in
    subst (λ (hs : List LinkedFile). c.self.inside.past < length hs) (sym files) (fewer j c.self.inside.past c.self.invariant.within)

pub trim-requires-clause-may : goal.trim-requires-clause-may
trim-requires-clause-may g c =
    let j : JournalFiles = c.self.inside.journal in
    let log : ReadLogState = record { journal = j; rid = c.self.inside.rid; fillers = c.self.inside.fillers; past = c.self.inside.past } in
    let files : c.in_ok-files.files.items ≡ linked_files j = c.in_ok-files.ensures.exact ∙ ap (map linked) c.into_vec-files.ensures.same in
    let home : c.home_of-home.result ≡ first_home j.files = c.home_of-home.ensures.exact ∙ ap first_home c.as_slice.ensures.same in
    told_may log c.args.pool.now (opened_behind j.kind j.name c.home_of-home.result (without_last c.self.inside.past c.in_ok-files.files.items)) c.in_ok-files.files.items (g.S.Site.told c.args.site.now)
    (opening_left j c.self.inside.past c.home_of-home.result c.in_ok-files.files.items c.self.invariant.within home files) files c.self.invariant
    (subst (λ (l : ReadLogState). IfSome (g.S.Site.told c.args.site.now) (OnDisk (StandsAsRead l))) (sym c.self.view_is) c.requires.stands) c.requires.pool

pub returns-clause-log : goal.returns-clause-log
returns-clause-log g c =
    let j : JournalFiles = c.self.inside.journal in
    let past : ℕ = c.self.inside.past in
    let files : c.in_ok-files.files.items ≡ linked_files j = c.in_ok-files.ensures.exact ∙ ap (map linked) c.into_vec-files.ensures.same in
    let home : c.home_of-home.result ≡ first_home j.files = c.home_of-home.ensures.exact ∙ ap first_home c.as_slice.ensures.same in
    let opening = opening_left j past c.home_of-home.result c.in_ok-files.files.items c.self.invariant.within home files in
    subst (λ (l : ReadLogState). IfOk c.trim.result (λ log. log ≡ log_left l)) c.self.view_is
    (subst (λ (X : Type 0). X) (λ i. IfOk c.trim.result (λ log. log ≡ reopened (opening i) (without_last past (files i)) (last_number (without_last past (files i))) c.self.inside.rid)) c.trim.ensures.log)

pub returns-clause-went : goal.returns-clause-went
returns-clause-went g c =
    let j : JournalFiles = c.self.inside.journal in
    let files : c.in_ok-files.files.items ≡ linked_files j = c.in_ok-files.ensures.exact ∙ ap (map linked) c.into_vec-files.ensures.same in
    let home : c.home_of-home.result ≡ first_home j.files = c.home_of-home.ensures.exact ∙ ap first_home c.as_slice.ensures.same in
    subst (λ (o : Opening). Tells (GoesBy (IsLogStep o) c.trim.result) (g.S.Site.told c.args.site.now) (g.S.Site.told c.trim.new.site))
    (opening_left j c.self.inside.past c.home_of-home.result c.in_ok-files.files.items c.self.invariant.within home files ∙ ap (λ (l : ReadLogState). opening_behind l.journal) c.self.view_is) c.trim.ensures.went

pub returns-clause-epoch : goal.returns-clause-epoch
returns-clause-epoch g c = told_epoch c.args.self (g.S.Site.told c.args.site.now) c.trim.result (returns-clause-log g c) c.requires.stands

pub returns-clause-home : goal.returns-clause-home
returns-clause-home g c = told_home c.args.self (g.S.Site.told c.args.site.now) c.trim.result (returns-clause-log g c) c.requires.stands
