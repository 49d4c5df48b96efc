-- The folders of a store.
use Rattle.std.specs.Prelude.{ℕ, ◌-◌, List, ◌++◌, length, codes, decimal, replicate}
use Rattle.qls_hostsite.specs.declared.paths.Folder.{Folder}
use Rattle.qls_hostsite.specs.declared.paths.Folder.TheVariants.{Above, Store, InUse, Empty, Part, Pool}
use Rattle.qls_site.specs.declared.site.Place.{Place}
use Rattle.qls_site.specs.declared.site.Place.TheVariants as At

-- where files of this place lie
abbrev pub folder_of : Place → Folder
folder_of At.InUse = InUse
folder_of (At.Empty part kib) = Pool part kib

-- the folder that holds this one; nothing is asked of the one above the store
abbrev pub holder_of : Folder → Folder
holder_of Above = Above
holder_of Store = Above
holder_of InUse = Store
holder_of Empty = Store
holder_of (Part part) = Empty
holder_of (Pool part kib) = Part part

-- ---- texts of paths

abbrev pub folder_path : List ℕ → Folder → List ℕ
folder_path store Above = store ++ codes "/.."
folder_path store Store = store
folder_path store InUse = store ++ codes "/inuse"
folder_path store Empty = store ++ codes "/empty"
folder_path store (Part part) = store ++ codes "/empty/" ++ decimal part
folder_path store (Pool part kib) = store ++ codes "/empty/" ++ decimal part ++ codes "/" ++ decimal kib

-- an id in 19 digits, with leading zeros
abbrev pub id_digits : ℕ → List ℕ
id_digits id = replicate (19 - length (decimal id)) 48 ++ decimal id

abbrev pub file_path : List ℕ → Place → ℕ → List ℕ → List ℕ
file_path store place id ending = folder_path store (folder_of place) ++ (codes "/" ++ (id_digits id ++ ending))
