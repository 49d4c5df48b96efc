-- Reading the headers of files in use.
use Rattle.std.specs.Prelude.{◌≡◌, List, map, Option, Some, None, Result, Ok, Err, IsTrue, IfSome, if◌then◌else◌, ◌==◌}
use Rattle.std.specs.Option.{option_map}
use Rattle.qls_shape.specs.Claims.{each}
use Rattle.qls_site.specs.declared.site.FileAt.{FileAt}
use Rattle.qls_site.specs.declared.site.ImageFile.{ImageFile}
use Rattle.qls_site.specs.Disk.{Disk, Image, full, full_file, file_of, listed}
use Rattle.qls_site.specs.Content.{Content}
use Rattle.qls_filehdr.specs.declared.FileHeader.{FileHeader}
use Rattle.qls_filehdr.specs.declared.Rule.{Rule}
use Rattle.qls_filehdr.specs.declared.Rule.TheVariants as rule
use Rattle.qls_filehdr.specs.Limits.{is_legal_header}
use Rattle.qls_model.specs.Limits.{file_size}
use Rattle.qls_meaning.specs.Journals.{headed, in_use}
use Rattle.qls_meaning.specs.Damage.{header_claims}
use Rattle.qls_scan.specs.Found.{head_of}
use Rattle.qls_scan.specs.declared.answers.HeadedFile.{HeadedFile}
use Rattle.qls_scan.specs.declared.answers.ScanFault.{ScanFault}
use Rattle.qls_scan.specs.declared.answers.ScanFault.TheVariants.{Failed, Memory, Damaged}

-- the site has the file as it is listed
abbrev pub IsListedOn : FileAt → Content → Type 0
IsListedOn file c = option_map listed (file_of file.id c.now.disk) ≡ Some file

-- the file's header, or the first rule that it breaks by itself
abbrev pub IsHeadOf : ImageFile → Result HeadedFile ScanFault → Type 0
IsHeadOf f (Ok head) = (header_claims f ≡ Ok tt) × (head ≡ head_of (headed f))
IsHeadOf f (Err Failed) = Unit {0}
IsHeadOf f (Err Memory) = Unit {0}
IsHeadOf f (Err (Damaged file rule)) = header_claims f ≡ Err (file, rule)

abbrev pub HeadIsRead : Disk → FileAt → Result HeadedFile ScanFault → Type 0
HeadIsRead d file result = IfSome (option_map full_file (file_of file.id d)) (λ f. IsHeadOf f result)

-- the heads of all files in use, or the first rule that one of them breaks by itself
abbrev pub AreHeadsOf : Image → Result (List HeadedFile) ScanFault → Type 0
AreHeadsOf i (Ok heads) = (each header_claims (in_use i) ≡ Ok tt) × (heads ≡ map head_of (map headed (in_use i)))
AreHeadsOf i (Err Failed) = Unit {0}
AreHeadsOf i (Err Memory) = Unit {0}
AreHeadsOf i (Err (Damaged file rule)) = each header_claims (in_use i) ≡ Err (file, rule)

abbrev pub HeadsAreRead : Option Content → Result (List HeadedFile) ScanFault → Type 0
HeadsAreRead None result = Unit {0}
HeadsAreRead (Some c) result = AreHeadsOf (full c.now.disk) result

abbrev pub HasLegalHeader : HeadedFile → Type 0
HasLegalHeader f = IsTrue (is_legal_header f.header)

-- the file with its header, where its size is the one that the header tells
abbrev pub sized_head : FileAt → FileHeader → Result HeadedFile ScanFault
sized_head file h = if file.size == file_size h.kib then Ok (record { id = file.id; header = h }) else Err (Damaged file.id rule.Size)

-- what these 4,096 bytes of the file tell
abbrev pub head_from : FileAt → Result FileHeader Rule → Result HeadedFile ScanFault
head_from file (Ok h) = sized_head file h
head_from file (Err rule) = Err (Damaged file.id rule)
