-- What every row of the catalogue keeps to. Assumes nothing.
use Rattle.std.proofs.Common.{◌≡◌, ℕ, ◌<◌, ◌≤◌, Bool, true, ◌&&◌, eqb, ltb, leb, List, [], ◌∷◌, length, Some, refl}
use Rattle.std.specs.List.{AllByRecursion}
use Rattle.std.proofs.lemmas.Bool.{eqb-true, leb-true, ltb-true, and_parts}
use Rattle.telegram.specs.declared.row.Row.{Row}
use Rattle.telegram.specs.declared.row.Row.TheVariants.{SsnScanData, SraScanData, SrnScanData, SenScanData, SeaScanData, SmnRun, SanRun, SmnSetAccessMode, SanSetAccessMode, SmnStoreAll, SanStoreAll, SmnResetOutputs, SanResetOutputs, SrnDeviceState, SraDeviceState, SrnSensorState, SraSensorState, SrnDeviceIdent, SraDeviceIdent, SwnParticle, SwaParticle, SwnMeanFilter, SwaMeanFilter, SwnOneOfN, SwaOneOfN, SwnGate, SwaGate}
use Rattle.telegram.specs.Catalogue.{command, name, rows, listed}

-- no byte is a blank, nor less than one
abbrev dark : List ℕ → Bool
dark [] = true
dark (c ∷ cs) = ltb 32 c && dark cs

all_dark : (cs : List ℕ) → dark cs ≡ true → AllByRecursion (λ c. 32 < c) cs
all_dark [] h = tt
all_dark (c ∷ cs) h = let p = and_parts (ltb 32 c) (dark cs) h in (ltb-true 32 c p.0, all_dark cs p.1)

abbrev tests : Row → Bool
tests r = eqb (length (command r)) 3 && (leb (length (name r)) 13 && (dark (command r) && dark (name r)))

passes : (r : Row) → tests r ≡ true
passes SsnScanData = refl
passes SraScanData = refl
passes SrnScanData = refl
passes SenScanData = refl
passes SeaScanData = refl
passes SmnRun = refl
passes SanRun = refl
passes SmnSetAccessMode = refl
passes SanSetAccessMode = refl
passes SmnStoreAll = refl
passes SanStoreAll = refl
passes SmnResetOutputs = refl
passes SanResetOutputs = refl
passes SrnDeviceState = refl
passes SraDeviceState = refl
passes SrnSensorState = refl
passes SraSensorState = refl
passes SrnDeviceIdent = refl
passes SraDeviceIdent = refl
passes SwnParticle = refl
passes SwaParticle = refl
passes SwnMeanFilter = refl
passes SwaMeanFilter = refl
passes SwnOneOfN = refl
passes SwaOneOfN = refl
passes SwnGate = refl
passes SwaGate = refl

module _ (r : Row) where
  long : (eqb (length (command r)) 3 ≡ true) × ((leb (length (name r)) 13 && (dark (command r) && dark (name r))) ≡ true)
  long = and_parts (eqb (length (command r)) 3) (leb (length (name r)) 13 && (dark (command r) && dark (name r))) (passes r)

  brief : (leb (length (name r)) 13 ≡ true) × ((dark (command r) && dark (name r)) ≡ true)
  brief = and_parts (leb (length (name r)) 13) (dark (command r) && dark (name r)) long.1

  both : (dark (command r) ≡ true) × (dark (name r) ≡ true)
  both = and_parts (dark (command r)) (dark (name r)) brief.1

  pub command_long : length (command r) ≡ 3
  command_long = eqb-true _ 3 long.0

  pub name_long : length (name r) ≤ 13
  name_long = leb-true _ 13 brief.0

  pub command_dark : AllByRecursion (λ c. 32 < c) (command r)
  command_dark = all_dark (command r) both.0

  pub name_dark : AllByRecursion (λ c. 32 < c) (name r)
  name_dark = all_dark (name r) both.1

-- a row is found under its type and name
pub own_row : (r : Row) → listed (command r) (name r) ≡ Some r
unfolding rows
own_row SsnScanData = refl
own_row SraScanData = refl
own_row SrnScanData = refl
own_row SenScanData = refl
own_row SeaScanData = refl
own_row SmnRun = refl
own_row SanRun = refl
own_row SmnSetAccessMode = refl
own_row SanSetAccessMode = refl
own_row SmnStoreAll = refl
own_row SanStoreAll = refl
own_row SmnResetOutputs = refl
own_row SanResetOutputs = refl
own_row SrnDeviceState = refl
own_row SraDeviceState = refl
own_row SrnSensorState = refl
own_row SraSensorState = refl
own_row SrnDeviceIdent = refl
own_row SraDeviceIdent = refl
own_row SwnParticle = refl
own_row SwaParticle = refl
own_row SwnMeanFilter = refl
own_row SwaMeanFilter = refl
own_row SwnOneOfN = refl
own_row SwaOneOfN = refl
own_row SwnGate = refl
own_row SwaGate = refl
