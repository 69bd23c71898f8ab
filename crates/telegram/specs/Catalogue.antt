-- The catalogue. Assumes nothing.
use Rattle.std.specs.Prelude.{ℕ, Bool, ◌&&◌, List, [], ◌∷◌, codes, Option}
use Rattle.std.specs.Str.{bytes_eq}
use Rattle.std.specs.List.{find}
use Rattle.telegram.specs.declared.row.Row.{Row}
use Rattle.telegram.specs.declared.row.Row.TheVariants.{SsnScanData, SraScanData, SrnScanData, SenScanData, SeaScanData, SmnRun, SanRun, SmnSetAccessMode, SanSetAccessMode, SmnStoreAll, SanStoreAll, SmnResetOutputs, SanResetOutputs, SrnDeviceState, SraDeviceState, SrnSensorState, SraSensorState, SrnDeviceIdent, SraDeviceIdent, SwnParticle, SwaParticle, SwnMeanFilter, SwaMeanFilter, SwnOneOfN, SwaOneOfN, SwnGate, SwaGate}

-- the three letters of a row's type
abbrev pub command : Row → List ℕ
command SsnScanData = codes "sSN"
command SraScanData = codes "sRA"
command SrnScanData = codes "sRN"
command SenScanData = codes "sEN"
command SeaScanData = codes "sEA"
command SmnRun = codes "sMN"
command SanRun = codes "sAN"
command SmnSetAccessMode = codes "sMN"
command SanSetAccessMode = codes "sAN"
command SmnStoreAll = codes "sMN"
command SanStoreAll = codes "sAN"
command SmnResetOutputs = codes "sMN"
command SanResetOutputs = codes "sAN"
command SrnDeviceState = codes "sRN"
command SraDeviceState = codes "sRA"
command SrnSensorState = codes "sRN"
command SraSensorState = codes "sRA"
command SrnDeviceIdent = codes "sRN"
command SraDeviceIdent = codes "sRA"
command SwnParticle = codes "sWN"
command SwaParticle = codes "sWA"
command SwnMeanFilter = codes "sWN"
command SwaMeanFilter = codes "sWA"
command SwnOneOfN = codes "sWN"
command SwaOneOfN = codes "sWA"
command SwnGate = codes "sWN"
command SwaGate = codes "sWA"

-- a row's name
abbrev pub name : Row → List ℕ
name SsnScanData = codes "LMDscandata"
name SraScanData = codes "LMDscandata"
name SrnScanData = codes "LMDscandata"
name SenScanData = codes "LMDscandata"
name SeaScanData = codes "LMDscandata"
name SmnRun = codes "Run"
name SanRun = codes "Run"
name SmnSetAccessMode = codes "SetAccessMode"
name SanSetAccessMode = codes "SetAccessMode"
name SmnStoreAll = codes "mEEwriteall"
name SanStoreAll = codes "mEEwriteall"
name SmnResetOutputs = codes "LIDrstoutpcnt"
name SanResetOutputs = codes "LIDrstoutpcnt"
name SrnDeviceState = codes "SCdevicestate"
name SraDeviceState = codes "SCdevicestate"
name SrnSensorState = codes "LDMSenStat"
name SraSensorState = codes "LDMSenStat"
name SrnDeviceIdent = codes "DeviceIdent"
name SraDeviceIdent = codes "DeviceIdent"
name SwnParticle = codes "LFPparticle"
name SwaParticle = codes "LFPparticle"
name SwnMeanFilter = codes "LFPmeanfilter"
name SwaMeanFilter = codes "LFPmeanfilter"
name SwnOneOfN = codes "LFPnto1filter"
name SwaOneOfN = codes "LFPnto1filter"
name SwnGate = codes "EIgate"
name SwaGate = codes "EIgate"

-- the catalogue
unfoldable pub rows : List Row
rows =
    SsnScanData ∷ SraScanData ∷ SrnScanData ∷ SenScanData ∷ SeaScanData ∷ SmnRun ∷ SanRun ∷ SmnSetAccessMode ∷ SanSetAccessMode ∷ SmnStoreAll ∷ SanStoreAll ∷ SmnResetOutputs ∷ SanResetOutputs
    ∷ SrnDeviceState ∷ SraDeviceState ∷ SrnSensorState ∷ SraSensorState ∷ SrnDeviceIdent ∷ SraDeviceIdent ∷ SwnParticle ∷ SwaParticle ∷ SwnMeanFilter ∷ SwaMeanFilter ∷ SwnOneOfN ∷ SwaOneOfN ∷ SwnGate ∷ SwaGate ∷ []

-- whether a type and a name are a row's
abbrev pub called : List ℕ → List ℕ → Row → Bool
called c n r = bytes_eq n (name r) && bytes_eq c (command r)

-- the row of the catalogue with a type and a name
abbrev pub listed : List ℕ → List ℕ → Option Row
listed c n = find (called c n) rows
