-- A call within a call.
use Rattle.std.specs.Prelude.{List, ◌++◌}
use Rattle.qls_site.specs.Content.{Moment}
use Rattle.qls_meaning.specs.History.{History, now}

-- the history of an inner call that begins at the moment that is now, and that of the outer call after the same moments
abbrev pub inner : History → List Moment → History
inner h ys = record { start = now h; since = ys }

abbrev pub outer : History → List Moment → History
outer h ys = record { start = h.start; since = h.since ++ ys }
