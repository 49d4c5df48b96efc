-- The first rule that a changed store breaks, and the file: for each rule a store that breaks it.
use Rattle.std.proofs.Common.{◌≡◌, [], ◌∷◌, ◌++◌, Err, refl, take, replicate}
use Rattle.std.proofs.Math.ListN.{set}
use Rattle.qls_shape.specs.declared.Version.TheVariants.{Two}
use Rattle.qls_site.specs.declared.site.Place.TheVariants.{Empty}
use Rattle.qls_record.specs.Spelling.{spelling}
use Rattle.qls_filehdr.specs.Header.{header_spelling}
use Rattle.qls_filehdr.specs.declared.Rule.TheVariants as rule
use Rattle.qls_meaning.specs.Meaning.{meaning}
use Rattle.qls_vectors.proofs.Stores.{bytes1, used, put, fillers, head_a, file5a, file5b, head5b, area5a, later}

id_fails : meaning (used 0 bytes1 ∷ []) ≡ Err (0, rule.Id)
id_fails = refl

pool_fails : meaning (used 1 bytes1 ∷ record { id = 2; place = Empty 1 4; bytes = replicate 4096 0 } ∷ []) ≡ Err (2, rule.Pool)
pool_fails = refl

short_fails : meaning (used 1 (take 4095 bytes1) ∷ []) ≡ Err (1, rule.Short)
short_fails = refl

magic_fails : meaning (used 1 (set bytes1 0 0) ∷ []) ≡ Err (1, rule.Magic)
magic_fails = refl

version_fails : meaning (used 1 (set bytes1 4 9) ∷ []) ≡ Err (1, rule.Version)
version_fails = refl

flags_fail : meaning (used 1 (set bytes1 6 16) ∷ []) ≡ Err (1, rule.Flags)
flags_fail = refl

partition_fails : meaning (used 1 (set bytes1 24 0) ∷ []) ≡ Err (1, rule.Partition)
partition_fails = refl

kib_fails : meaning (used 1 (set bytes1 28 5) ∷ []) ≡ Err (1, rule.Kib)
kib_fails = refl

place_fails : meaning (used 1 (set bytes1 32 1) ∷ []) ≡ Err (1, rule.Place)
place_fails = refl

counter_fails : meaning (used 1 (set bytes1 48 0) ∷ []) ≡ Err (1, rule.Counter)
counter_fails = refl

kind_fails : meaning (used 1 (set bytes1 56 3) ∷ []) ≡ Err (1, rule.Kind)
kind_fails = refl

name_fails : meaning (used 1 (set bytes1 60 32) ∷ []) ≡ Err (1, rule.Name)
name_fails = refl

checksum_fails : meaning (used 1 (set bytes1 48 3) ∷ []) ≡ Err (1, rule.Checksum)
checksum_fails = refl

zeros_fail : meaning (used 1 (set bytes1 4095 1) ∷ []) ≡ Err (1, rule.Zeros)
zeros_fail = refl

size_fails : meaning (used 1 (bytes1 ++ replicate 512 0) ∷ []) ≡ Err (1, rule.Size)
size_fails = refl

number_fails : meaning (file5a ∷ file5b (head_a 8 1 4224 3 1) ∷ []) ≡ Err (2, rule.Number)
number_fails = refl

epoch_fails : meaning (used 1 (header_spelling (head_a 7 0 4096 1 2) ++ area5a) ∷ file5b head5b ∷ []) ≡ Err (2, rule.Epoch)
epoch_fails = refl

home_fails : meaning (file5a ∷ file5b (record head5b { part = 2 }) ∷ []) ≡ Err (2, rule.Home)
home_fails = refl

first_fails : meaning (file5a ∷ file5b (head_a 8 1 4096 2 1) ∷ []) ≡ Err (2, rule.First)
first_fails = refl

rid_fails : meaning (file5a ∷ file5b (head_a 8 2 4224 2 1) ∷ []) ≡ Err (2, rule.Rid)
rid_fails = refl

order_fails : meaning (used 1 (header_spelling (head_a 7 0 4096 1 1) ++ spelling Two 7 (put 2 [] (0x68 ∷ 0x69 ∷ [])) ++ fillers 31 7 1) ∷ []) ≡ Err (1, rule.Order)
order_fails = refl

end_fails : meaning (record file5a { bytes = set file5a.bytes 4096 0 } ∷ file5b head5b ∷ later 3 3 ∷ []) ≡ Err (1, rule.End)
end_fails = refl

rid_later_fails : meaning (used 1 (set bytes1 4096 0) ∷ later 2 2 ∷ []) ≡ Err (2, rule.Rid)
rid_later_fails = refl

pool_before_magic : meaning (used 1 (set bytes1 0 0) ∷ record { id = 2; place = Empty 1 4; bytes = replicate 4096 0 } ∷ []) ≡ Err (2, rule.Pool)
pool_before_magic = refl
