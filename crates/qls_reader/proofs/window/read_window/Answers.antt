use Rattle.std.proofs.Common.{◌+◌, take, ap, ◌∙◌, arith}
use Rattle.qls_reader.specs.declared.spot.Position.{Position}
use Rattle.qls_reader.specs.Spots.{all_length}
use Rattle.qls_reader.proofs.Ahead.{file_there, window_more, once_more}
use Rattle.qls_reader.proofs.window.read_window.Goals as goal

pub read_onto-requires-clause-there : goal.read_onto-requires-clause-there
read_onto-requires-clause-there g c = file_there c.args.files.now c.args.window.now.end.file (g.S.Site.told c.args.site.now) c.requires.more c.requires.there

pub returns-clause-ahead : goal.returns-clause-ahead
returns-clause-ahead g c =
    window_more c.args.files.now c.let_go.new.window.at c.args.window.now.at c.args.window.now.end c.let_go.new.window.passed c.min-part.result c.data_length.result _ _ c.read_onto.new.buffer.items
    (g.S.Site.told c.args.site.now) c.requires.there c.requires.more c.requires.sound.end c.data_length.ensures.exact c.min-part.ensures
    c.in_ok-let_go.ensures.at c.in_ok-let_go.ensures.none c.in_ok-let_go.ensures.held c.requires.sound.reach c.in_ok-read_onto.ensures.bytes c.requires.ahead

pub returns-clause-once : goal.returns-clause-once
returns-clause-once g c =
    once_more c.args.files.now c.args.window.now
    (record { bytes = c.read_onto.new.buffer; passed = c.let_go.new.window.passed; at = c.let_go.new.window.at; end = c.settled-window.result })
    c.min-part.result c.data_length.result (g.S.Site.reads c.args.site.now) (g.S.Site.reads c.read_onto.new.site) c.requires.more c.requires.sound.end
    c.data_length.ensures.exact c.min-part.ensures (c.settled-window.ensures.same
    ∙ ap (λ (e : Position). all_length (take e.file c.args.files.now) + (c.args.window.now.end.within + c.min-part.result)) c.in_ok-let_go.ensures.end ∙ omega arith) c.in_ok-read_onto.ensures.once
