use Rattle.std.proofs.Common.{refl}
use Rattle.qls_record.specs.Head.{head_record_length}
use Rattle.qls_reader.specs.Windows.{held}
use Rattle.qls_reader.proofs.Steps.{ends_next, gets_next, ahead_passed, there_is}
use Rattle.qls_reader.proofs.reader.Reader.next.Goals as goal

pub returns-in-None-clause-read : goal.returns-in-None-clause-read
returns-in-None-clause-read g c = λ live.
    ends_next c.self.inside.files.items c.deref-2.result.now c.self.inside.window.at (held c.self.inside.window) c.self.inside.ended c.args.self.now _ (g.S.Site.told c.args.site.now) _ c.in_ok-found.found
    c.end-in-None.result c.ending-in-None.result.file c.ending-in-None.result.at c.self.view_is c.in_ok-found.ensures.stands c.deref-2.ensures.value c.self.invariant.at.within c.in-None.is c.end-in-None.ensures.exact

pub returns-in_ok-got-in-Some-clause-read : goal.returns-in_ok-got-in-Some-clause-read
returns-in_ok-got-in-Some-clause-read g c = λ live.
    gets_next c.self.inside.files.items c.deref-2.result.now c.deref-in-Some.result.now c.self.inside.window.at c.read_record.new.window.at c.hand_out.new.window.at (held c.self.inside.window) c.self.inside.ended
    c.args.self.now _ (g.S.Site.told c.args.site.now) (held c.read_record.new.window) c.in_ok-found.found c.in-Some.head c.in_ok-got-in-Some.got
    c.self.view_is c.in_ok-found.ensures.stands c.deref-2.ensures.value c.deref-in-Some.ensures.value c.read_record.ensures.at c.self.invariant.at.within c.in-Some.is
    (there_is _ c.in_ok-found.found c.in-Some.head c.in_ok-found.ensures.sizes c.in-Some.is).2 c.in_ok-got-in-Some.ensures.what c.in_ok-got-in-Some.ensures.there c.in_ok-got-in-Some.ensures.after refl

pub returns-in_ok-got-in-Some-clause-ahead : goal.returns-in_ok-got-in-Some-clause-ahead
returns-in_ok-got-in-Some-clause-ahead g c =
    ahead_passed c.self.inside.files.items c.deref-2.result.now c.deref-in-Some.result.now c.read_record.new.window c.hand_out.new.window (head_record_length c.in-Some.head)
    (g.S.Site.told c.args.site.now) (g.S.Site.told c.read_record.new.site) c.read_record.ensures.told c.deref-2.ensures.value c.deref-in-Some.ensures.value c.read_record.ensures.ahead
    (there_is _ c.in_ok-found.found c.in-Some.head c.in_ok-found.ensures.sizes c.in-Some.is).2 c.in_ok-got-in-Some.ensures.after c.in_ok-got-in-Some.ensures.passed
