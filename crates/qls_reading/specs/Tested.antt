-- The rules on a reading, tested as its records come.
use Rattle.std.specs.Prelude.{◌≡◌, ℕ, ◌+◌, ◌-◌, ◌*◌, ◌^◌, Bool, true, false, ◌&&◌, ◌||◌, List, [], ◌∷◌, ◌++◌, length, drop, Option, Some, None, Result, Ok, Err, if◌then◌else◌, ◌==◌, nat_lt, nat_le}
use Rattle.qls_shape.specs.Claims.{claim, each, of_file, ◌>>=◌, ◌>>◌}
use Rattle.qls_record.specs.declared.Kind.{Kind}
use Rattle.qls_record.specs.declared.Got.{Got}
use Rattle.qls_record.specs.Record.{is_filler, rid_given}
use Rattle.qls_filehdr.specs.declared.Rule.TheVariants as rule
use Rattle.qls_meaning.specs.Damage.{Damage, Checked}
use Rattle.qls_scan.specs.declared.answers.HeadedFile.{HeadedFile}
use Rattle.qls_reader.specs.declared.fault.ReadFault.{ReadFault}
use Rattle.qls_reader.specs.declared.fault.ReadFault.TheVariants as read
use Rattle.qls_reading.specs.declared.fault.LogFault.{LogFault}
use Rattle.qls_reading.specs.declared.fault.LogFault.TheVariants.{Failed, Memory, Damaged}
use Rattle.qls_reading.specs.declared.rules.Spot.{Spot}
use Rattle.qls_reading.specs.declared.rules.Course.{Course}
use Rattle.qls_reading.specs.declared.tally.Tally.{Tally}
use Rattle.qls_reading.specs.ReadLogs.{AreGiven, rid_behind}

abbrev pub fault_of : ReadFault → LogFault
fault_of read.Failed = Failed
fault_of read.Memory = Memory

-- ---- one step, by what the headers tell

abbrev pub is_first : Option ℕ → ℕ → Bool
is_first None n = true
is_first (Some first) n = n == first

-- the header's first place, where one is due, and its rid
abbrev pub front_claims : Option ℕ → ℕ → HeadedFile → Checked
front_claims first rid f = of_file f.id (do
  claim (is_first first f.header.first) rule.First
  claim (f.header.rid == rid) rule.Rid)

-- the first place of a file that the reading comes to as it is at this spot: there, or 0 where the spot lies behind the file
abbrev pub first_due : Bool → Spot → HeadedFile → Option ℕ
first_due given spot f =
    if given then None else Some (if f.header.number == spot.file && nat_lt spot.at (4096 + 1024 * f.header.kib) then spot.at else 0)

-- the files from the front on up to that of the spot
abbrev pub come_by : Spot → List HeadedFile → List HeadedFile
come_by spot [] = []
come_by spot (f ∷ fs) = if nat_lt spot.file f.header.number then [] else (f ∷ come_by spot fs)

abbrev pub fronts : Bool → ℕ → Spot → List HeadedFile → Checked
fronts given rid spot fs = each (λ f. front_claims (first_due given spot f) rid f) fs

abbrev pub last_id : ℕ → List HeadedFile → ℕ
last_id id [] = id
last_id id (f ∷ fs) = last_id f.id fs

-- the files up to that of the spot are tested
abbrev pub come_on : Course → ℕ → Spot → List HeadedFile → Result Course Damage
come_on c rid spot fs =
    fronts c.given rid spot (come_by spot fs) >>= λ _. Ok (record { came = c.came + length (come_by spot fs); id = last_id c.id (come_by spot fs); given = false })

abbrev pub begun : Bool → ℕ → List HeadedFile → Result Course Damage
begun oldest rid [] = Ok (record { came = 0; id = 0; given = oldest })
begun oldest rid (f ∷ fs) =
    (if oldest then Ok tt else front_claims (Some 4096) rid f) >>= λ _. Ok (record { came = 1; id = f.id; given = oldest })

-- the reading of so many files ended so, and must have come to all where the epoch isn't the last; how many it hasn't come to
abbrev pub ended : Bool → ℕ → Course → Result ℕ Damage
ended last count c = of_file c.id (claim (last || nat_le (count - c.came) 0) rule.End) >>= λ _. Ok (count - c.came)

-- the reading has come to the first file alone
abbrev pub IsBegun : List HeadedFile → Course → Type 0
IsBegun [] c = ⊥
IsBegun (f ∷ fs) c = (c.came ≡ 1) × (c.id ≡ f.id)

abbrev pub is_in_order : ℕ → Kind → ℕ → Bool
is_in_order in_force kind rid = rid == rid_given in_force kind && nat_lt rid (2 ^ 62)

abbrev pub order_of : ℕ → ℕ → Got → Checked
order_of file in_force got = of_file file (claim (is_in_order in_force got.head.kind got.head.rid) rule.Order)

abbrev pub with_record : Tally → Got → Tally
with_record t got = record {
  reads = if is_filler got.head.kind then t.reads else (t.reads ++ got ∷ []);
  rid = got.head.rid;
  fillers = if is_filler got.head.kind then t.fillers + 1 else t.fillers;
}

abbrev pub Adds : Tally → Tally → Got → ℕ → Result (Unit {0}) LogFault → Type 0
Adds old new got file (Ok x) = (order_of file old.rid got ≡ Ok tt) × (new ≡ with_record old got)
Adds old new got file (Err Failed) = Unit {0}
Adds old new got file (Err Memory) = Unit {0}
Adds old new got file (Err (Damaged id rule)) = order_of file old.rid got ≡ Err (id, rule)

-- the files up to that of the record's place, and the record's rid
abbrev pub record_claims : List HeadedFile → Course → ℕ → Got → Result Course Damage
record_claims fs c rid got =
    come_on c rid (record { file = got.file; at = got.at }) (drop c.came fs) >>= λ to. (order_of to.id rid got >>= λ _. Ok to)

abbrev pub TakesRecord : List HeadedFile → Course → Tally → Tally → Got → Result Course LogFault → Type 0
TakesRecord fs c old new got (Ok to) = (record_claims fs c old.rid got ≡ Ok to) × (new ≡ with_record old got)
TakesRecord fs c old new got (Err Failed) = Unit {0}
TakesRecord fs c old new got (Err Memory) = Unit {0}
TakesRecord fs c old new got (Err (Damaged id rule)) = record_claims fs c old.rid got ≡ Err (id, rule)

-- the rids of what was handed out follow each other from this one on, up to the one in force
abbrev pub IsTallied : ℕ → Tally → Type 0
IsTallied rid t = AreGiven rid t.reads × (t.rid ≡ rid_behind rid t.reads)
