use Rattle.std.proofs.Common.{◌≡◌, ◌<◌, true, ◌∙◌, [], length, refl, ap, sym, subst, Result, Ok, Err, IfSome, List, rules}
use Rattle.qls_site.specs.Disk.{full}
use Rattle.qls_meaning.specs.Journals.{epochs}
use Rattle.qls_record.specs.declared.Got.{Got}
use Rattle.qls_reading.specs.declared.fault.LogFault.{LogFault}
use Rattle.qls_reading.specs.declared.tally.Tally.{Tally}
use Rattle.qls_reading.specs.ReadLogs.{journal_in, ReadLogState, Says, first_rid}
use Rattle.qls_reading.specs.Groups.{last_run, AreCounted}
use Rattle.qls_reading.specs.Left.{files_on, AreOnSite, ReadsEpochs}
use Rattle.qls_reading.proofs.Sites.{told_on, told_whole, told_broken, are_counted}
use Rattle.qls_reading.proofs.Given.{tallied_small}
use Rattle.qls_reading.proofs.Stands.{told_stands}
use Rattle.qls_reading.proofs.log.ReadLog.read.Goals as goal

pub read_epochs-requires-clause-counted : goal.read_epochs-requires-clause-counted
read_epochs-requires-clause-counted g c = subst AreCounted (sym c.as_slice-headed.ensures.same) (are_counted c.args.files.files c.requires.order.chain)

pub read_epochs-requires-clause-there : goal.read_epochs-requires-clause-there
read_epochs-requires-clause-there g c =
    subst (λ hs. IfSome (g.S.Site.told c.args.site.now) (AreOnSite hs)) (sym c.as_slice-headed.ensures.same) (told_on (g.S.Site.told c.args.site.now) c.args.files c.requires.order c.requires.there)

pub returns-in_err-past-clause-says : goal.returns-in_err-past-clause-says
returns-in_err-past-clause-says g c =
    let told = g.S.Site.told c.args.site.now in
    let fault = c.in_err-past.field-0.0 in
    let old : Tally = record { reads = c.new.result; rid = c.first_rid.result; fillers = 0 } in
    let answer : Result (ReadLogState × List Got) LogFault = Err fault in
    let is : answer ≡ c.from_residual.result = search (rules, c.from_residual.ensures) in
    let same = c.as_slice-headed.ensures.same in
    subst (λ r. IfSome told (λ k. Says (journal_in (full k.now.disk) c.args.files) r)) is
    (told_broken told c.args.files old c.read_epochs.new.tally fault c.requires.order c.requires.there (c.first_rid.ensures.exact ∙ ap first_rid same)
    (subst (λ hs. IfSome told (λ k. ReadsEpochs true (epochs (files_on k.now.disk hs)) old c.read_epochs.new.tally (Err fault))) same c.in_err-past.ensures.says))

pub invariant_of-log : goal.invariant_of-log
invariant_of-log g c =
    let old : Tally = record { reads = c.new.result; rid = c.first_rid.result; fillers = 0 } in
    let same = c.as_slice-headed.ensures.same in
    record {
      order = c.requires.order;
      within = subst (λ hs. c.in_ok-past.past < length (last_run hs)) same c.in_ok-past.ensures.within;
      rid = tallied_small c.args.files c.first_rid.result c.new.result old c.read_epochs.new.tally c.requires.order (c.first_rid.ensures.exact ∙ ap first_rid same) c.new.ensures.empty refl c.in_ok-past.ensures.given;
    }

pub returns-clause-says : goal.returns-clause-says
returns-clause-says g c =
    let told = g.S.Site.told c.args.site.now in
    let old : Tally = record { reads = c.new.result; rid = c.first_rid.result; fillers = 0 } in
    let same = c.as_slice-headed.ensures.same in
    let none = c.new.ensures.empty in
    let rid = c.first_rid.ensures.exact ∙ ap first_rid same in
    let begins : old ≡ record { reads = []; rid = first_rid c.args.files.files; fillers = 0 } = λ i. record { reads = none i; rid = rid i; fillers = 0 } in
    told_whole told c.args.files old c.read_epochs.new.tally c.in_ok-past.past c.requires.order c.requires.there begins
    (subst (λ hs. IfSome told (λ k. ReadsEpochs true (epochs (files_on k.now.disk hs)) old c.read_epochs.new.tally (Ok c.in_ok-past.past))) same c.in_ok-past.ensures.says)

pub returns-clause-stands : goal.returns-clause-stands
returns-clause-stands g c =
    told_stands (g.S.Site.told c.args.site.now) c.args.files c.read_epochs.new.tally.rid c.read_epochs.new.tally.fillers c.in_ok-past.past c.read_epochs.new.tally.reads c.requires.order c.requires.there (returns-clause-says g c)
