use Rattle.std.proofs.Common.{◌∙◌, arith}
use Rattle.qls_reader.proofs.Told.{only_then}
use Rattle.qls_reader.proofs.Ahead.{ahead_before, nearer, once_then}
use Rattle.qls_reader.proofs.window.read_ahead.Goals as goal

pub loop-window-smaller : goal.loop-window-smaller
loop-window-smaller g c = nearer c.args.files.now c.loop-window.window c.read_window.new.window c.read_window.ensures.sound c.in_ok-read_window.ensures.further

pub loop-window-preserved : goal.loop-window-preserved
loop-window-preserved g c = record {
  sound = c.read_window.ensures.sound;
  at = c.read_window.ensures.at ∙ c.loop-window.invariant.at;
  ahead = ahead_before c.args.files.now c.read_window.new.window (g.S.Site.told c.args.site.now) (g.S.Site.told c.loop-window.site) c.loop-window.invariant.told c.read_window.ensures.ahead;
  once = once_then c.args.files.now c.args.window.now c.loop-window.window c.read_window.new.window (g.S.Site.reads c.args.site.now) (g.S.Site.reads c.loop-window.site) (g.S.Site.reads c.read_window.new.site)
      c.loop-window.invariant.once c.in_ok-read_window.ensures.once;
  told = only_then (g.S.Site.told c.args.site.now) (g.S.Site.told c.loop-window.site) (g.S.Site.told c.read_window.new.site) c.loop-window.invariant.told c.read_window.ensures.told;
  faults = omega (arith, c.loop-window.invariant.faults, c.read_window.ensures.cause.kept);
  syncs = c.read_window.ensures.syncs ∙ c.loop-window.invariant.syncs;
  reads = omega (arith, c.loop-window.invariant.reads, c.read_window.ensures.reads);
}

pub returns-in_err-read_window-clause-told : goal.returns-in_err-read_window-clause-told
returns-in_err-read_window-clause-told g c =
    only_then (g.S.Site.told c.args.site.now) (g.S.Site.told c.loop-window.site) (g.S.Site.told c.read_window.new.site) c.loop-window.invariant.told c.read_window.ensures.told
