-- The words of the law that a batch lies over files as a reading sees it.
use Rattle.std.specs.Prelude.{◌≡◌, ℕ, List, map, length}
use Rattle.std.specs.List.{AllByRecursion}
use Rattle.qls_meaning.specs.Journals.{Headed}

-- each file's data area has this many bytes
abbrev pub HaveCapacity : ℕ → List Headed → Type 0
HaveCapacity capacity fs = AllByRecursion (λ f. length f.area ≡ capacity) fs

abbrev pub serials_of : List Headed → List ℕ
serials_of fs = map (λ f. f.header.serial) fs
