-- What a site in memory tells: the content that its log of calls leads to.
use Rattle.std.specs.Prelude.{Bool, false, List, [], ◌∷◌, ◌++◌, if◌then◌else◌}
use Rattle.qls_memsite.specs.declared.call.Call.{Call}
use Rattle.qls_memsite.specs.declared.call.Call.TheVariants as call
use Rattle.qls_site.specs.Disk.{Image, at_rest, write_at, sync_at, create_at, relocate_at}
use Rattle.qls_site.specs.Content.{Moment, Content, on_disk, on_answered}

-- nothing has happened on the files at rest
abbrev pub begun : Image → Content
begun i = let first : Moment = record { disk = at_rest i; answered = [] } in record { now = first; moments = first ∷ [] }

-- what the call does where it happens
abbrev pub act_of : Call → Moment → Moment
act_of call.Look m = m
act_of (call.Write id at bytes) m = on_disk (write_at id at bytes) m
act_of (call.Sync id) m = on_disk (sync_at id) m
act_of (call.Create id part kib failed) m = on_disk (create_at id part kib) m
act_of (call.Relocate id to failed) m = on_disk (relocate_at id to) m
act_of (call.Answer bytes failed) m = on_answered bytes m

-- it failed, and it happened or not
abbrev pub is_in_doubt : Call → Bool
is_in_doubt call.Look = false
is_in_doubt (call.Write id at bytes) = false
is_in_doubt (call.Sync id) = false
is_in_doubt (call.Create id part kib failed) = failed
is_in_doubt (call.Relocate id to failed) = failed
is_in_doubt (call.Answer bytes failed) = failed

-- in doubt the site stays as it was, and there is a moment for each
abbrev pub after : Call → Content → Content
after c old =
    let next = act_of c old.now in
    if is_in_doubt c then
    record { now = old.now; moments = old.moments ++ old.now ∷ next ∷ [] }
    else
    record { now = next; moments = old.moments ++ next ∷ [] }

abbrev pub content_after : List Call → Content → Content
content_after [] c = c
content_after (call ∷ calls) c = content_after calls (after call c)
