use Rattle.std.proofs.Common.{ℕ, List, get_or, refl, ap, ◌∙◌, arith}
use Rattle.std.specs.Option.{option_map}
use Rattle.qls_shape.specs.declared.Version.TheVariants.{Two}
use Rattle.qls_record.specs.Spelling.{record_at}
use Rattle.qls_record.specs.Head.{head_of}
use Rattle.qls_reader.proofs.Places.{none}
use Rattle.qls_reader.proofs.Told.{only_then}
use Rattle.qls_reader.proofs.Ahead.{there_still, ahead_before}
use Rattle.qls_reader.proofs.Parts.{no_head_told, whole_told, slice_from, fits_there, sizes_there}
use Rattle.qls_reader.proofs.record.read_record.Goals as goal

pub returns-in_default-clause-stands : goal.returns-in_default-clause-stands
returns-in_default-clause-stands g c =
    no_head_told c.args.files.now c.args.window.now.at c.read_ahead.new.window (get_or c.args.files.now c.args.window.now.at.file none).serial _ (g.S.Site.told c.args.site.now)
    c.requires.there c.read_ahead.ensures.at (omega (arith, c.if-window-files.false)) refl c.read_ahead.ensures.sound c.in_ok-read_ahead.ensures.enough c.read_ahead.ensures.ahead
    (slice_from c.read_ahead.new.window.passed c.deref.result.now c.read_ahead.new.window.bytes.items c.deref.ensures.value) c.in_default.ensures.exact

pub read_ahead-requires-2-clause-there : goal.read_ahead-requires-2-clause-there
read_ahead-requires-2-clause-there g c = there_still c.args.files.now (g.S.Site.told c.args.site.now) (g.S.Site.told c.read_ahead.new.site) c.read_ahead.ensures.told c.requires.there

pub returns-in_err-read_ahead-2-clause-told : goal.returns-in_err-read_ahead-2-clause-told
returns-in_err-read_ahead-2-clause-told g c =
    only_then (g.S.Site.told c.args.site.now) (g.S.Site.told c.read_ahead.new.site) (g.S.Site.told c.read_ahead-2.new.site) c.read_ahead.ensures.told c.read_ahead-2.ensures.told

pub returns-clause-told : goal.returns-clause-told
returns-clause-told g c =
    only_then (g.S.Site.told c.args.site.now) (g.S.Site.told c.read_ahead.new.site) (g.S.Site.told c.read_ahead-2.new.site) c.read_ahead.ensures.told c.read_ahead-2.ensures.told

pub returns-clause-stands : goal.returns-clause-stands
returns-clause-stands g c =
    whole_told c.args.files.now c.args.window.now.at c.read_ahead.new.window c.read_ahead-2.new.window (get_or c.args.files.now c.args.window.now.at.file none).serial c.length.result _ _
    c.in-Some.head c.read_whole.result (g.S.Site.told c.args.site.now)
    c.requires.there c.read_ahead.ensures.at c.read_ahead-2.ensures.at (omega (arith, c.if-window-files.false)) refl c.read_ahead.ensures.sound c.in_ok-read_ahead.ensures.enough c.read_ahead.ensures.ahead
    (slice_from c.read_ahead.new.window.passed c.deref.result.now c.read_ahead.new.window.bytes.items c.deref.ensures.value) c.in-Some.ensures.exact
    c.length.ensures c.read_ahead-2.ensures.sound c.in_ok-read_ahead-2.ensures.enough
    (ahead_before c.args.files.now c.read_ahead-2.new.window (g.S.Site.told c.args.site.now) (g.S.Site.told c.read_ahead.new.site) c.read_ahead.ensures.told c.read_ahead-2.ensures.ahead)
    (slice_from c.read_ahead-2.new.window.passed c.deref-2.result.now c.read_ahead-2.new.window.bytes.items c.deref-2.ensures.value) c.read_whole.ensures.exact

pub returns-clause-sizes : goal.returns-clause-sizes
returns-clause-sizes g c =
    sizes_there c.read_whole.result _ c.read_whole.ensures.limits
    (fits_there (get_or c.args.files.now c.args.window.now.at.file none).serial _ c.read_whole.result
    (c.read_whole.ensures.exact
    ∙ ap (λ (bs : List ℕ). option_map head_of (record_at Two (get_or c.args.files.now c.args.window.now.at.file none).serial bs))
    (slice_from c.read_ahead-2.new.window.passed c.deref-2.result.now c.read_ahead-2.new.window.bytes.items c.deref-2.ensures.value)))
