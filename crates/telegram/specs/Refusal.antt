-- The numbers of the refusals. Assumes nothing.
use Rattle.std.specs.Prelude.{ℕ, List, ◌++◌, codes, decimal}
use Rattle.telegram.specs.declared.refusal.Reason.{Reason}
use Rattle.telegram.specs.declared.refusal.Reason.TheVariants.{Size, Envelope, Checksum, Unknown, Cut, Misspelt, Limit, Rest, Room}
use Rattle.telegram.specs.declared.refusal.Refusal.{Refusal}
use Rattle.telegram.specs.declared.refusal.Fault.{Fault}
use Rattle.telegram.specs.declared.refusal.Fault.TheVariants.{Cut as cut, Misspelt as misspelt}

-- the one definition of every refusal's number
abbrev pub reason_number : Reason → ℕ
reason_number Size = 1
reason_number Envelope = 2
reason_number Checksum = 3
reason_number Unknown = 4
reason_number Cut = 5
reason_number Misspelt = 6
reason_number Limit = 7
reason_number Rest = 8
reason_number Room = 9

-- the fault of an item, as a refusal
abbrev pub fault_number : Fault → ℕ
fault_number cut = reason_number Cut
fault_number misspelt = reason_number Misspelt

-- a refusal in words: its number and its place
abbrev pub told : Refusal → List ℕ
told e = codes "refused " ++ (decimal (reason_number e.reason) ++ (codes " " ++ decimal e.place))
