-- A moment that is made again from the log.
use Rattle.std.specs.Prelude.{ℕ, suc, List, [], ◌∷◌, ◌++◌, map, if◌then◌else◌, nat_lt}
use Rattle.qls_site.specs.Disk.{FileState, Disk, Write, changed, all_written}
use Rattle.qls_site.specs.Content.{Moment}
use Rattle.qls_memsite.specs.declared.call.Call.{Call}
use Rattle.qls_memsite.specs.declared.call.Call.TheVariants as call
use Rattle.qls_memsite.specs.declared.scene.PendingWrite.{PendingWrite}
use Rattle.qls_memsite.specs.declared.scene.SceneFile.{SceneFile}
use Rattle.qls_memsite.specs.declared.scene.Scene.{Scene}

abbrev pub write_of : PendingWrite → Write
write_of w = record { at = w.at; bytes = w.bytes }

abbrev pub state_of : SceneFile → FileState
state_of f = record { id = f.id; place = f.place; stable = f.stable.items; pending = map write_of f.pending.items }

abbrev pub disk_of : List SceneFile → Disk
disk_of files = map state_of files

abbrev pub moment_of : Scene → Moment
moment_of s = record { disk = disk_of s.files.items; answered = s.answered.items }

-- the file after a call that changes a file
abbrev pub changed_by : Call → FileState → FileState
changed_by call.Look f = f
changed_by (call.Write id at bytes) f = changed id (λ g. record g { pending = g.pending ++ (record { at = at; bytes = bytes }) ∷ [] }) f
changed_by (call.Sync id) f = changed id (λ g. record g { stable = all_written g.pending g.stable; pending = [] }) f
changed_by (call.Create id part kib failed) f = f
changed_by (call.Relocate id to failed) f = changed id (λ g. record g { place = to }) f
changed_by (call.Answer bytes failed) f = f

-- how many files stand before a new one of that id
abbrev pub place_in : ℕ → Disk → ℕ
place_in id [] = 0
place_in id (f ∷ d) = if nat_lt id f.id then 0 else suc (place_in id d)
