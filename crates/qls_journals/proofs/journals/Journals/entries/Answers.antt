use Rattle.std.proofs.Common.{◌≡◌, ◌++◌, List, Some, None, length, drop, sym, ap, ◌∙◌, subst}
use Rattle.std.specs.Prelude.{slice_get}
use Rattle.qls_decide.specs.declared.ListEntry.{ListEntry}
use Rattle.qls_journals.specs.State.{JournalsState}
use Rattle.qls_journals.proofs.Copied.{copied_next, copied_all}
use Rattle.qls_journals.proofs.journals.Journals.entries.Goals as goal

pub loop-entry-preserved : goal.loop-entry-preserved
loop-entry-preserved c =
    let es : List ListEntry = c.self.inside.list.entries in
    let there : slice_get es (length c.loop-entry.entries) ≡ Some c.in-Some.entry.now = ap (slice_get es) (sym c.len.ensures.counted) ∙ sym c.in-Some.ensures.exact in
    subst (λ (xs : List ListEntry). xs ++ drop (length xs) es ≡ es) (sym c.in_ok-push.ensures.pushed) (copied_next c.loop-entry.entries c.in-Some.entry.now es there c.loop-entry.invariant)

pub returns : goal.returns
returns c =
    let es : List ListEntry = c.self.inside.list.entries in
    let none : slice_get es (length c.loop-entry.entries) ≡ None = ap (slice_get es) (sym c.len.ensures.counted) ∙ sym c.in_default.ensures.exact in
    record { exact = copied_all c.loop-entry.entries es none c.loop-entry.invariant ∙ ap (λ (s : JournalsState). s.list.entries) c.self.view_is }
