use Rattle.std.proofs.Common.{refl, ap, true, Ok, Err}
use Rattle.qls_command.specs.Lines.{command_of}
use Rattle.qls_journals.specs.Moments.{IsStoreStep}
use Rattle.qls_top.specs.Moments.{IsRunStep}
use Rattle.qls_top.specs.Serials.{is_exact}
use Rattle.qls_pool.proofs.Serials.{drawn_then, drawn_none}
use Rattle.qls_top.proofs.Chains.{ends_err, silent_went, silent_quiet}
use Rattle.qls_top.proofs.Holding.{means_its_state}
use Rattle.qls_top.proofs.Lines.{told_commanded, line_ended, line_quiet, command_arrives, differ_after, answer_passes}
use Rattle.qls_command.specs.Texts.{reply_text}
use Rattle.qls_top.proofs.LineDiscipline.{told_under, told_under_command, told_leaves, told_writes, told_writes_err, told_writes_command, told_answers, told_answers_command}
use Rattle.qls_top.proofs.Replying.{told_silent, told_replied}
use Rattle.qls_top.proofs.line.run_line.Goals as goal

pub send_reply-requires : goal.send_reply-requires
send_reply-requires g c = record {
  differ = differ_after c.args.store (command_of c.args.line.now) c.in_ok-store.store (g.S.Site.told c.args.site.now) (g.S.Site.told c.reply_to_line.new.site)
      (told_commanded c.args.store (command_of c.args.line.now) c.in_ok-store.store (g.S.Site.told c.args.site.now) (g.S.Site.told c.reply_to_line.new.site) c.requires.fits c.in_ok-store.ensures.told);
}

-- ---- the reply was sent

pub returns-clause-told : goal.returns-clause-told
returns-clause-told g c =
    let ran = told_commanded c.args.store (command_of c.args.line.now) c.in_ok-store.store (g.S.Site.told c.args.site.now) (g.S.Site.told c.reply_to_line.new.site) c.requires.fits c.in_ok-store.ensures.told in
    line_ended c.args.store (command_of c.args.line.now) c.in_ok-store.store c.in_ok-store.reply c.in_ok-store.ensures.stepped c.in_ok-store.ensures.rid c.in_ok-store.ensures.homes (Ok tt) _ (g.S.Site.told c.reply_to_line.new.site) _ ran c.in_ok-send_reply.ensures.told

pub returns-clause-quiet : goal.returns-clause-quiet
returns-clause-quiet g c =
    let ran = told_commanded c.args.store (command_of c.args.line.now) c.in_ok-store.store (g.S.Site.told c.args.site.now) (g.S.Site.told c.reply_to_line.new.site) c.requires.fits c.in_ok-store.ensures.told in
    line_quiet c.args.store (command_of c.args.line.now) c.in_ok-store.store _ (g.S.Site.told c.reply_to_line.new.site) _ ran c.send_reply.ensures.quiet

pub returns-clause-drawn : goal.returns-clause-drawn
returns-clause-drawn g c =
    let ran = told_commanded c.args.store (command_of c.args.line.now) c.in_ok-store.store (g.S.Site.told c.args.site.now) (g.S.Site.told c.reply_to_line.new.site) c.requires.fits c.in_ok-store.ensures.told in
    drawn_then IsStoreStep IsRunStep true _ (g.S.Site.told c.reply_to_line.new.site) _ _ (g.N.Serials.drawn c.reply_to_line.new.serials) _
    (command_arrives c.args.store (command_of c.args.line.now) c.in_ok-store.store _ _ ran)
    (answer_passes c.in_ok-store.reply (Ok tt) _ _ (differ_after c.args.store (command_of c.args.line.now) c.in_ok-store.store _ _ ran) c.in_ok-send_reply.ensures.told)
    c.in_ok-store.ensures.drawn (drawn_none true _ _ _ _ c.send_reply.ensures.none refl)

pub returns-clause-replied : goal.returns-clause-replied
returns-clause-replied g c =
    let ran = told_commanded c.args.store (command_of c.args.line.now) c.in_ok-store.store (g.S.Site.told c.args.site.now) (g.S.Site.told c.reply_to_line.new.site) c.requires.fits c.in_ok-store.ensures.told in
    told_replied c.args.store c.in_ok-store.store (command_of c.args.line.now) c.in_ok-store.reply
    (means_its_state c.clean_store_is_its_meaning.ensures.meaning c.clean_store_is_its_meaning.ensures.alive c.clean_store_is_its_meaning.ensures.past) c.in_ok-store.ensures.store c.in_ok-store.ensures.stepped
    _ (g.S.Site.told c.reply_to_line.new.site) _ ran
    (answer_passes c.in_ok-store.reply (Ok tt) _ _ (differ_after c.args.store (command_of c.args.line.now) c.in_ok-store.store _ _ ran) c.in_ok-send_reply.ensures.told)
    c.send_reply.ensures.adds

-- ---- it wasn't

pub returns-in_err-send_reply-clause-told : goal.returns-in_err-send_reply-clause-told
returns-in_err-send_reply-clause-told g c =
    let ran = told_commanded c.args.store (command_of c.args.line.now) c.in_ok-store.store (g.S.Site.told c.args.site.now) (g.S.Site.told c.reply_to_line.new.site) c.requires.fits c.in_ok-store.ensures.told in
    ends_err IsRunStep _ c.from_residual-in_err-send_reply.result _ _ c.from_residual-in_err-send_reply.ensures.0
    (line_ended c.args.store (command_of c.args.line.now) c.in_ok-store.store c.in_ok-store.reply c.in_ok-store.ensures.stepped c.in_ok-store.ensures.rid c.in_ok-store.ensures.homes (Err c.in_err-send_reply.field-0.0) _ (g.S.Site.told c.reply_to_line.new.site) _ ran c.in_err-send_reply.ensures.told)

pub returns-in_err-send_reply-clause-quiet : goal.returns-in_err-send_reply-clause-quiet
returns-in_err-send_reply-clause-quiet g c =
    let ran = told_commanded c.args.store (command_of c.args.line.now) c.in_ok-store.store (g.S.Site.told c.args.site.now) (g.S.Site.told c.reply_to_line.new.site) c.requires.fits c.in_ok-store.ensures.told in
    line_quiet c.args.store (command_of c.args.line.now) c.in_ok-store.store _ (g.S.Site.told c.reply_to_line.new.site) _ ran c.send_reply.ensures.quiet

pub returns-in_err-send_reply-clause-drawn : goal.returns-in_err-send_reply-clause-drawn
returns-in_err-send_reply-clause-drawn g c =
    let ran = told_commanded c.args.store (command_of c.args.line.now) c.in_ok-store.store (g.S.Site.told c.args.site.now) (g.S.Site.told c.reply_to_line.new.site) c.requires.fits c.in_ok-store.ensures.told in
    drawn_then IsStoreStep IsRunStep (is_exact c.from_residual-in_err-send_reply.result) _ (g.S.Site.told c.reply_to_line.new.site) _ _ (g.N.Serials.drawn c.reply_to_line.new.serials) _
    (command_arrives c.args.store (command_of c.args.line.now) c.in_ok-store.store _ _ ran) c.in_err-send_reply.ensures.told c.in_ok-store.ensures.drawn
    (drawn_none (is_exact c.from_residual-in_err-send_reply.result) _ _ _ _ c.send_reply.ensures.none refl)

pub returns-in_err-send_reply-clause-replied : goal.returns-in_err-send_reply-clause-replied
returns-in_err-send_reply-clause-replied g c =
    let ran = told_commanded c.args.store (command_of c.args.line.now) c.in_ok-store.store (g.S.Site.told c.args.site.now) (g.S.Site.told c.reply_to_line.new.site) c.requires.fits c.in_ok-store.ensures.told in
    told_replied c.args.store c.in_ok-store.store (command_of c.args.line.now) c.in_ok-store.reply
    (means_its_state c.clean_store_is_its_meaning.ensures.meaning c.clean_store_is_its_meaning.ensures.alive c.clean_store_is_its_meaning.ensures.past) c.in_ok-store.ensures.store c.in_ok-store.ensures.stepped
    _ (g.S.Site.told c.reply_to_line.new.site) _ ran c.in_err-send_reply.ensures.told c.send_reply.ensures.adds

-- ---- the command ended it

pub returns-in_err-store-clause-told : goal.returns-in_err-store-clause-told
returns-in_err-store-clause-told g c = ends_err IsRunStep _ c.from_residual.result _ _ c.from_residual.ensures.0 (silent_went _ _ c.in_err-store.ensures.told)

pub returns-in_err-store-clause-quiet : goal.returns-in_err-store-clause-quiet
returns-in_err-store-clause-quiet g c = silent_quiet _ _ c.in_err-store.ensures.told

pub returns-in_err-store-clause-replied : goal.returns-in_err-store-clause-replied
returns-in_err-store-clause-replied g c = told_silent c.args.store (command_of c.args.line.now) _ _ c.in_err-store.ensures.told

-- ---- the discipline

pub returns-clause-under : goal.returns-clause-under
returns-clause-under g c =
    let ran = told_commanded c.args.store (command_of c.args.line.now) c.in_ok-store.store (g.S.Site.told c.args.site.now) (g.S.Site.told c.reply_to_line.new.site) c.requires.fits c.in_ok-store.ensures.told in
    told_under c.args.store (command_of c.args.line.now) c.in_ok-store.store c.in_ok-store.reply c.in_ok-store.ensures.stepped _ (g.S.Site.told c.reply_to_line.new.site) _ c.requires.fits c.in_ok-store.ensures.told
    c.reply_to_line.ensures.pools (λ e. ap g.S.Site.told (c.in_ok-store.ensures.refused e))
    (answer_passes c.in_ok-store.reply (Ok tt) _ _ (differ_after c.args.store (command_of c.args.line.now) c.in_ok-store.store _ _ ran) c.in_ok-send_reply.ensures.told) c.send_reply.ensures.adds

pub returns-in_err-send_reply-clause-under : goal.returns-in_err-send_reply-clause-under
returns-in_err-send_reply-clause-under g c =
    told_under c.args.store (command_of c.args.line.now) c.in_ok-store.store c.in_ok-store.reply c.in_ok-store.ensures.stepped _ (g.S.Site.told c.reply_to_line.new.site) _ c.requires.fits c.in_ok-store.ensures.told
    c.reply_to_line.ensures.pools (λ e. ap g.S.Site.told (c.in_ok-store.ensures.refused e)) c.in_err-send_reply.ensures.told c.send_reply.ensures.adds

pub returns-in_err-store-clause-under : goal.returns-in_err-store-clause-under
returns-in_err-store-clause-under g c = told_under_command c.args.store (command_of c.args.line.now) _ _ c.in_err-store.ensures.told c.reply_to_line.ensures.pools (λ e. ap g.S.Site.told (c.reply_to_line.ensures.still e))

pub returns-clause-leaves : goal.returns-clause-leaves
returns-clause-leaves g c =
    let ran = told_commanded c.args.store (command_of c.args.line.now) c.in_ok-store.store (g.S.Site.told c.args.site.now) (g.S.Site.told c.reply_to_line.new.site) c.requires.fits c.in_ok-store.ensures.told in
    told_leaves c.args.store c.in_ok-store.store (command_of c.args.line.now) (reply_text c.in_ok-store.reply) _ (g.S.Site.told c.reply_to_line.new.site) _ c.requires.fits c.in_ok-store.ensures.told c.reply_to_line.ensures.leaves
    (answer_passes c.in_ok-store.reply (Ok tt) _ _ (differ_after c.args.store (command_of c.args.line.now) c.in_ok-store.store _ _ ran) c.in_ok-send_reply.ensures.told) c.send_reply.ensures.adds

pub returns-in_err-send_reply-clause-leaves : goal.returns-in_err-send_reply-clause-leaves
returns-in_err-send_reply-clause-leaves g c =
    told_leaves c.args.store c.in_ok-store.store (command_of c.args.line.now) (reply_text c.in_ok-store.reply) _ (g.S.Site.told c.reply_to_line.new.site) _ c.requires.fits c.in_ok-store.ensures.told c.reply_to_line.ensures.leaves
    c.in_err-send_reply.ensures.told c.send_reply.ensures.adds

pub returns-clause-writes : goal.returns-clause-writes
returns-clause-writes g c =
    let ran = told_commanded c.args.store (command_of c.args.line.now) c.in_ok-store.store (g.S.Site.told c.args.site.now) (g.S.Site.told c.reply_to_line.new.site) c.requires.fits c.in_ok-store.ensures.told in
    told_writes c.args.store c.in_ok-store.store (command_of c.args.line.now) (reply_text c.in_ok-store.reply) c.files_that_stay_stay_written.ensures.stays c.in_ok-store.ensures.store
    _ (g.S.Site.told c.reply_to_line.new.site) _ c.requires.fits c.in_ok-store.ensures.told c.in_ok-store.ensures.writes
    (answer_passes c.in_ok-store.reply (Ok tt) _ _ (differ_after c.args.store (command_of c.args.line.now) c.in_ok-store.store _ _ ran) c.in_ok-send_reply.ensures.told) c.send_reply.ensures.adds

pub returns-in_err-send_reply-clause-writes : goal.returns-in_err-send_reply-clause-writes
returns-in_err-send_reply-clause-writes g c =
    told_writes_err c.args.store c.in_ok-store.store (command_of c.args.line.now) (reply_text c.in_ok-store.reply) c.files_that_stay_stay_written.ensures.stays c.in_ok-store.ensures.store
    c.from_residual-in_err-send_reply.result _ (g.S.Site.told c.reply_to_line.new.site) _ c.from_residual-in_err-send_reply.ensures.0 c.requires.fits c.in_ok-store.ensures.told c.in_ok-store.ensures.writes
    c.in_err-send_reply.ensures.told c.send_reply.ensures.adds

pub returns-in_err-store-clause-writes : goal.returns-in_err-store-clause-writes
returns-in_err-store-clause-writes g c = told_writes_command c.reply_to_line.result (λ r. r.0.journals) c.from_residual.result c.args.store _ _ c.from_residual.ensures.0 c.reply_to_line.ensures.writes

pub returns-clause-answers : goal.returns-clause-answers
returns-clause-answers g c =
    let ran = told_commanded c.args.store (command_of c.args.line.now) c.in_ok-store.store (g.S.Site.told c.args.site.now) (g.S.Site.told c.reply_to_line.new.site) c.requires.fits c.in_ok-store.ensures.told in
    told_answers c.args.store c.in_ok-store.store (command_of c.args.line.now) (reply_text c.in_ok-store.reply) c.files_that_stay_stay_written.ensures.stays c.in_ok-store.ensures.store
    c.clean_store_is_its_meaning.ensures.alive c.what_a_store_reads_was_written.ensures.written _ (g.S.Site.told c.reply_to_line.new.site) _ c.requires.fits c.in_ok-store.ensures.told c.in_ok-store.ensures.writes
    (answer_passes c.in_ok-store.reply (Ok tt) _ _ (differ_after c.args.store (command_of c.args.line.now) c.in_ok-store.store _ _ ran) c.in_ok-send_reply.ensures.told) c.send_reply.ensures.adds

pub returns-in_err-send_reply-clause-answers : goal.returns-in_err-send_reply-clause-answers
returns-in_err-send_reply-clause-answers g c =
    told_answers c.args.store c.in_ok-store.store (command_of c.args.line.now) (reply_text c.in_ok-store.reply) c.files_that_stay_stay_written.ensures.stays c.in_ok-store.ensures.store
    c.clean_store_is_its_meaning.ensures.alive c.what_a_store_reads_was_written.ensures.written _ (g.S.Site.told c.reply_to_line.new.site) _ c.requires.fits c.in_ok-store.ensures.told c.in_ok-store.ensures.writes
    c.in_err-send_reply.ensures.told c.send_reply.ensures.adds

pub returns-in_err-store-clause-answers : goal.returns-in_err-store-clause-answers
returns-in_err-store-clause-answers g c = told_answers_command c.args.store _ _ c.in_err-store.ensures.told
