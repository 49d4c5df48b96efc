use Rattle.std.proofs.Common.{rules, ◌≡◌, ◌+◌, ◌-◌, length, List, Ok, Err, IfSome, sym, ap, ◌∙◌, subst}
use Rattle.qls_site.specs.Content.{Tells}
use Rattle.qls_filehdr.specs.declared.FileHeader.{FileHeader}
use Rattle.qls_pool.specs.Files.{HeadedFile, OnDisk}
use Rattle.qls_log.specs.declared.opening.Opening.{Opening}
use Rattle.qls_log.specs.Logs.{LogState}
use Rattle.qls_log.specs.Soundness.{IsUndamaged}
use Rattle.qls_log.specs.Reopening.{MayReopen, reopened}
use Rattle.qls_log.specs.Trimming.{newest_first, without_last, last_number, last_epoch, opened_behind, Trims, ReadsTheSame}
use Rattle.qls_log.proofs.BackSteps.{told_backs_well}
use Rattle.qls_log.proofs.Trimmed.{told_there_before, row_take, some_left, may_reopen, told_read_left, told_undamaged_left, told_others_left}
use Rattle.qls_log.proofs.log.Log.trim.Goals as goal

pub returns-in_err-give_back_newest-clause-writes : goal.returns-in_err-give_back_newest-clause-writes
returns-in_err-give_back_newest-clause-writes g c =
    let hs : List HeadedFile = c.args.files.items in
    let kept : List HeadedFile = without_last c.args.past hs in
    let o : Opening = opened_behind c.args.kind c.args.name c.args.home kept in
    told_backs_well (reopened o hs 0 0) (newest_first c.args.past hs) (Err c.in_err-give_back_newest.field-0.0) _ _ (told_there_before o c.args.pool.now hs c.args.past c.args.rid _ c.requires.may) c.in_err-give_back_newest.ensures.told

pub reopen-requires : goal.reopen-requires
reopen-requires g c =
    let hs : List HeadedFile = c.args.files.items in
    let kept : List HeadedFile = without_last c.args.past hs in
    let o : Opening = opened_behind c.args.kind c.args.name c.args.home kept in
    let files : kept ≡ c.give_back_newest.new.files.items = sym c.in_ok-give_back_newest.ensures.files in
    let read : c.deref.result.now ≡ kept = search (rules, sym files) in
    let epoch : last_epoch kept ≡ c.header.result.now.epoch = sym (ap (λ (h : FileHeader). h.epoch) c.header.ensures.same ∙ c.newest_of-newest.ensures.epoch ∙ ap last_epoch read) in
    let number : last_number kept ≡ c.header-2.result.now.number = sym (ap (λ (h : FileHeader). h.number) c.header-2.ensures.same ∙ c.newest_of-newest.ensures.number ∙ ap last_number read) in
    let may : MayReopen o kept (last_number kept) c.args.rid =
    may_reopen c.args.kind c.args.name c.args.home kept c.args.rid (some_left c.args.past hs c.requires.fewer) (row_take o (length hs - c.args.past) hs c.requires.row) c.requires.rid in
    record {
      may = subst (λ (X : Type 0). X) (λ i. MayReopen (record { kind = c.args.kind; name = c.args.name; home = c.args.home; epoch = epoch i + 1 }) (files i) (number i) c.args.rid) may;
    }

pub returns-clause-log : goal.returns-clause-log
returns-clause-log g c = search rules

pub returns-clause-read : goal.returns-clause-read
returns-clause-read g c =
    let hs : List HeadedFile = c.args.files.items in
    let kept : List HeadedFile = without_last c.args.past hs in
    let o : Opening = opened_behind c.args.kind c.args.name c.args.home kept in
    let files : c.give_back_newest.new.files.items ≡ kept = c.in_ok-give_back_newest.ensures.files in
    let trims : Tells (Trims o c.give_back_newest.new.pool kept 0 c.args.rid (newest_first c.args.past hs)) (g.S.Site.told c.args.site.now) (g.S.Site.told c.give_back_newest.new.site) =
    subst (λ (xs : List HeadedFile). Tells (Trims o c.give_back_newest.new.pool xs 0 c.args.rid (newest_first c.args.past hs)) (g.S.Site.told c.args.site.now) (g.S.Site.told c.give_back_newest.new.site)) files
    (c.in_ok-give_back_newest.ensures.trims o c.args.rid c.requires.row c.requires.may) in
    let log : c.reopen.result ≡ reopened o kept (last_number kept) c.args.rid = returns-clause-log g c in
    subst (λ (l : LogState). Tells (ReadsTheSame l) (g.S.Site.told c.args.site.now) (g.S.Site.told c.give_back_newest.new.site)) (sym log)
    (told_read_left o c.give_back_newest.new.pool kept (last_number kept) c.args.rid (newest_first c.args.past hs) _ _ trims)

pub returns-clause-undamaged : goal.returns-clause-undamaged
returns-clause-undamaged g c =
    let hs : List HeadedFile = c.args.files.items in
    let kept : List HeadedFile = without_last c.args.past hs in
    let o : Opening = opened_behind c.args.kind c.args.name c.args.home kept in
    let files : c.give_back_newest.new.files.items ≡ kept = c.in_ok-give_back_newest.ensures.files in
    let trims : Tells (Trims o c.give_back_newest.new.pool kept 0 c.args.rid (newest_first c.args.past hs)) (g.S.Site.told c.args.site.now) (g.S.Site.told c.give_back_newest.new.site) =
    subst (λ (xs : List HeadedFile). Tells (Trims o c.give_back_newest.new.pool xs 0 c.args.rid (newest_first c.args.past hs)) (g.S.Site.told c.args.site.now) (g.S.Site.told c.give_back_newest.new.site)) files
    (c.in_ok-give_back_newest.ensures.trims o c.args.rid c.requires.row c.requires.may) in
    let log : c.reopen.result ≡ reopened o kept (last_number kept) c.args.rid = returns-clause-log g c in
    subst (λ (l : LogState). IfSome (g.S.Site.told c.give_back_newest.new.site) (OnDisk (IsUndamaged l))) (sym log)
    (told_undamaged_left o c.give_back_newest.new.pool kept (last_number kept) c.args.rid (newest_first c.args.past hs) _ _ trims)

pub returns-clause-others : goal.returns-clause-others
returns-clause-others g c =
    let hs : List HeadedFile = c.args.files.items in
    let kept : List HeadedFile = without_last c.args.past hs in
    let o : Opening = opened_behind c.args.kind c.args.name c.args.home kept in
    let files : c.give_back_newest.new.files.items ≡ kept = c.in_ok-give_back_newest.ensures.files in
    let trims : Tells (Trims o c.give_back_newest.new.pool kept 0 c.args.rid (newest_first c.args.past hs)) (g.S.Site.told c.args.site.now) (g.S.Site.told c.give_back_newest.new.site) =
    subst (λ (xs : List HeadedFile). Tells (Trims o c.give_back_newest.new.pool xs 0 c.args.rid (newest_first c.args.past hs)) (g.S.Site.told c.args.site.now) (g.S.Site.told c.give_back_newest.new.site)) files
    (c.in_ok-give_back_newest.ensures.trims o c.args.rid c.requires.row c.requires.may) in
    told_others_left o c.give_back_newest.new.pool kept (last_number kept) c.args.rid (newest_first c.args.past hs) _ _ trims

pub returns-clause-writes : goal.returns-clause-writes
returns-clause-writes g c =
    let hs : List HeadedFile = c.args.files.items in
    let kept : List HeadedFile = without_last c.args.past hs in
    let o : Opening = opened_behind c.args.kind c.args.name c.args.home kept in
    told_backs_well (reopened o hs 0 0) (newest_first c.args.past hs) (Ok c.in_ok-give_back_newest.field-0) _ _ (told_there_before o c.args.pool.now hs c.args.past c.args.rid _ c.requires.may) c.in_ok-give_back_newest.ensures.told
