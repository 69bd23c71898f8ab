-- Sample telegrams, and what they come to. Assumes nothing.
use Rattle.std.specs.Prelude.{◌≡◌, ℕ, false, List, [], ◌∷◌, ◌++◌, codes}
use Rattle.std.specs.List.{AllByRecursion}
use Rattle.telegram.specs.declared.kind.Kind.TheVariants.{Bool as Truth, Uint8, Uint16, Uint32, Int8, Int32}
use Rattle.telegram.specs.declared.item.Want.{Want}
use Rattle.telegram.specs.declared.item.Want.TheVariants.{Number, Real}
use Rattle.telegram.specs.declared.refusal.Fault.TheVariants.{Misspelt}
use Rattle.telegram.specs.declared.row.Row.{Row}
use Rattle.telegram.specs.declared.row.Row.TheVariants.{SmnRun, SanRun, SmnSetAccessMode, SwnParticle, SwaParticle, SsnScanData, SraScanData}
use Rattle.telegram.specs.Value.{Value, num}
use Rattle.layout.specs.Source.{Seen}
use Rattle.spelling.specs.Spell.{Spelt, found, faulty}
use Rattle.framing.specs.Read.{Reading, Outcome, accepted, refused}
use Rattle.cola_a.specs.Items.{find_text}
use Rattle.cola_a.specs.Read.{reads_text}
use Rattle.cola_b.specs.Read.{reads_binary}

-- a body between 02 and 03, or an input as it stands in binary, and what it comes to
pub data Sample : Type 0 where
  text : List ℕ → Outcome → Sample
  binary : List ℕ → Outcome → Sample

abbrev pub ComesTo : Sample → Type 0
ComesTo (text body o) = reads_text (2 ∷ (body ++ 3 ∷ [])) ≡ o
ComesTo (binary input o) = reads_binary input ≡ o

-- a body behind its header and its length, before its checksum
abbrev pub framed : ℕ → ℕ → List ℕ → List ℕ
framed length sum body = 2 ∷ 2 ∷ 2 ∷ 2 ∷ 0 ∷ 0 ∷ 0 ∷ length ∷ (body ++ sum ∷ [])

abbrev pub at : Value → ℕ → ℕ → Seen
at v from to = record { value = v; from = from; to = to }

-- a row, the places of the body's first byte, behind the head's span and behind the body, and the items
abbrev pub reading : Row → ℕ → ℕ → ℕ → List Seen → Reading
reading row from behind to items = record { row = row; from = from; to = to; behind = behind; items = items }

abbrev pub run_text : Sample
run_text = text (codes "sMN Run") (accepted (reading SmnRun 1 8 8 ([])))

abbrev pub ran_text : Sample
ran_text = text (codes "sAN Run 1") (accepted (reading SanRun 1 8 10 (at (num Truth 1) 8 10 ∷ [])))

abbrev pub login_zero_text : Sample
login_zero_text = text (codes "sMN SetAccessMode 03 F4724744") (accepted (reading SmnSetAccessMode 1 18 30 (at (num Int8 3) 18 21 ∷ at (num Uint32 4101130052) 21 30 ∷ [])))

abbrev pub login_text : Sample
login_text = text (codes "sMN SetAccessMode 3 F4724744") (accepted (reading SmnSetAccessMode 1 18 29 (at (num Int8 3) 18 20 ∷ at (num Uint32 4101130052) 20 29 ∷ [])))

abbrev pub particle_decimal_text : Sample
particle_decimal_text = text (codes "sWN LFPparticle 1 +500") (accepted (reading SwnParticle 1 16 23 (at (num Truth 1) 16 18 ∷ at (num Uint16 500) 18 23 ∷ [])))

abbrev pub particle_zero_text : Sample
particle_zero_text = text (codes "sWN LFPparticle 1 01F4") (accepted (reading SwnParticle 1 16 23 (at (num Truth 1) 16 18 ∷ at (num Uint16 500) 18 23 ∷ [])))

abbrev pub particle_text : Sample
particle_text = text (codes "sWN LFPparticle 1 1F4") (accepted (reading SwnParticle 1 16 22 (at (num Truth 1) 16 18 ∷ at (num Uint16 500) 18 22 ∷ [])))

abbrev pub particle_most_text : Sample
particle_most_text = text (codes "sWN LFPparticle 1 +65535") (accepted (reading SwnParticle 1 16 25 (at (num Truth 1) 16 18 ∷ at (num Uint16 65535) 18 25 ∷ [])))

abbrev pub particle_beyond_text : Sample
particle_beyond_text = text (codes "sWN LFPparticle 1 +65536") (refused 6 18)

abbrev pub particle_two_text : Sample
particle_two_text = text (codes "sWN LFPparticle 2 +500") (refused 6 16)

abbrev pub scan_sent_text : Sample
scan_sent_text = text (codes "sSN LMDscandata 0 1 9F14CE 0 0 2 3 A B 0 0 7 0 0 9C4 21C 0 0 0 0 0 0 0 0") (accepted (reading SsnScanData 1 16 73 (at (num Uint16 0) 16 18 ∷ at (num Uint16 1) 18 20 ∷ at (num Uint32 10425550) 20 27 ∷ at (num Uint8 0) 27 29 ∷ at (num Uint8 0) 29 31 ∷ at (num Uint16 2) 31 33 ∷ at (num Uint16 3) 33 35 ∷ at (num Uint32 10) 35 37 ∷ at (num Uint32 11) 37 39 ∷ at (num Uint8 0) 39 41 ∷ at (num Uint8 0) 41 43 ∷ at (num Uint8 7) 43 45 ∷ at (num Uint8 0) 45 47 ∷ at (num Uint16 0) 47 49 ∷ at (num Uint32 2500) 49 53 ∷ at (num Uint32 540) 53 57 ∷ at (num Uint16 0) 57 59 ∷ at (num Uint16 0) 59 61 ∷ at (num Uint16 0) 61 63 ∷ at (num Uint16 0) 63 65 ∷ at (num Uint16 0) 65 67 ∷ at (num Uint16 0) 67 69 ∷ at (num Uint16 0) 69 71 ∷ at (num Uint16 0) 71 73 ∷ [])))

abbrev pub scan_asked_text : Sample
scan_asked_text = text (codes "sRA LMDscandata 0 1 9F14CE 0 0 5 3 A B 0 0 7 0 0 9C4 21C 0 0 0 0 0 0 0 0") (accepted (reading SraScanData 1 16 73 (at (num Uint16 0) 16 18 ∷ at (num Uint16 1) 18 20 ∷ at (num Uint32 10425550) 20 27 ∷ at (num Uint8 0) 27 29 ∷ at (num Uint8 0) 29 31 ∷ at (num Uint16 5) 31 33 ∷ at (num Uint16 3) 33 35 ∷ at (num Uint32 10) 35 37 ∷ at (num Uint32 11) 37 39 ∷ at (num Uint8 0) 39 41 ∷ at (num Uint8 0) 41 43 ∷ at (num Uint8 7) 43 45 ∷ at (num Uint8 0) 45 47 ∷ at (num Uint16 0) 47 49 ∷ at (num Uint32 2500) 49 53 ∷ at (num Uint32 540) 53 57 ∷ at (num Uint16 0) 57 59 ∷ at (num Uint16 0) 59 61 ∷ at (num Uint16 0) 61 63 ∷ at (num Uint16 0) 63 65 ∷ at (num Uint16 0) 65 67 ∷ at (num Uint16 0) 67 69 ∷ at (num Uint16 0) 69 71 ∷ at (num Uint16 0) 71 73 ∷ [])))

abbrev pub nothing_text : Sample
nothing_text = text (codes "") (refused 4 1)

abbrev pub run_binary : Sample
run_binary = binary (framed 7 25 (codes "sMN Run" ++ ([]))) (accepted (reading SmnRun 8 15 15 ([])))

abbrev pub ran_binary : Sample
ran_binary = binary (framed 9 52 (codes "sAN Run" ++ (32 ∷ 1 ∷ []))) (accepted (reading SanRun 8 15 17 (at (num Truth 1) 15 17 ∷ [])))

abbrev pub login_binary : Sample
login_binary = binary (framed 23 179 (codes "sMN SetAccessMode" ++ (32 ∷ 3 ∷ 244 ∷ 114 ∷ 71 ∷ 68 ∷ []))) (accepted (reading SmnSetAccessMode 8 25 31 (at (num Int8 3) 25 27 ∷ at (num Uint32 4101130052) 27 31 ∷ [])))

abbrev pub particle_binary : Sample
particle_binary = binary (framed 19 208 (codes "sWN LFPparticle" ++ (32 ∷ 1 ∷ 1 ∷ 244 ∷ []))) (accepted (reading SwnParticle 8 23 27 (at (num Truth 1) 23 25 ∷ at (num Uint16 500) 25 27 ∷ [])))

abbrev pub done_blank_binary : Sample
done_blank_binary = binary (framed 16 43 (codes "sWA LFPparticle ")) (accepted (reading SwaParticle 8 24 24 ([])))

abbrev pub done_binary : Sample
done_binary = binary (framed 15 11 (codes "sWA LFPparticle")) (accepted (reading SwaParticle 8 23 23 ([])))

abbrev pub scan_sent_binary : Sample
scan_sent_binary = binary (framed 68 180 (codes "sSN LMDscandata" ++ (32 ∷ 0 ∷ 0 ∷ 0 ∷ 1 ∷ 0 ∷ 159 ∷ 20 ∷ 206 ∷ 0 ∷ 0 ∷ 0 ∷ 2 ∷ 0 ∷ 3 ∷ 0 ∷ 0 ∷ 0 ∷ 10 ∷ 0 ∷ 0 ∷ 0 ∷ 11 ∷ 0 ∷ 0 ∷ 7 ∷ 0 ∷ 0 ∷ 0 ∷ 0 ∷ 0 ∷ 9 ∷ 196 ∷ 0 ∷ 0 ∷ 2 ∷ 28 ∷ 0 ∷ 0 ∷ 0 ∷ 0 ∷ 0 ∷ 0 ∷ 0 ∷ 0 ∷ 0 ∷ 0 ∷ 0 ∷ 0 ∷ 0 ∷ 0 ∷ 0 ∷ 0 ∷ []))) (accepted (reading SsnScanData 8 23 76 (at (num Uint16 0) 23 26 ∷ at (num Uint16 1) 26 28 ∷ at (num Uint32 10425550) 28 32 ∷ at (num Uint8 0) 32 33 ∷ at (num Uint8 0) 33 34 ∷ at (num Uint16 2) 34 36 ∷ at (num Uint16 3) 36 38 ∷ at (num Uint32 10) 38 42 ∷ at (num Uint32 11) 42 46 ∷ at (num Uint8 0) 46 47 ∷ at (num Uint8 0) 47 48 ∷ at (num Uint8 7) 48 49 ∷ at (num Uint8 0) 49 50 ∷ at (num Uint16 0) 50 52 ∷ at (num Uint32 2500) 52 56 ∷ at (num Uint32 540) 56 60 ∷ at (num Uint16 0) 60 62 ∷ at (num Uint16 0) 62 64 ∷ at (num Uint16 0) 64 66 ∷ at (num Uint16 0) 66 68 ∷ at (num Uint16 0) 68 70 ∷ at (num Uint16 0) 70 72 ∷ at (num Uint16 0) 72 74 ∷ at (num Uint16 0) 74 76 ∷ [])))

abbrev pub samples : List Sample
samples =
    run_text
    ∷ ran_text
    ∷ login_zero_text
    ∷ login_text
    ∷ particle_decimal_text
    ∷ particle_zero_text
    ∷ particle_text
    ∷ particle_most_text
    ∷ particle_beyond_text
    ∷ particle_two_text
    ∷ scan_sent_text
    ∷ scan_asked_text
    ∷ nothing_text
    ∷ run_binary
    ∷ ran_binary
    ∷ login_binary
    ∷ particle_binary
    ∷ done_blank_binary
    ∷ done_binary
    ∷ scan_sent_binary
    ∷ []

-- an item in text, behind its blank
pub record Spelling : Type 0 where
  pub wants : Want
  pub letters : List ℕ
  pub is : Spelt

abbrev pub SpeltSo : Spelling → Type 0
SpeltSo s = find_text false s.wants (32 ∷ s.letters) ≡ s.is

abbrev pub spelling : Want → List ℕ → Spelt → Spelling
spelling w l s = record { wants = w; letters = l; is = s }

abbrev pub spellings : List Spelling
spellings =
    spelling (Number Int32) (codes "FFF92230") (found (num Int32 4294517296) [])
    ∷ spelling (Number Int32) (codes "-450000") (found (num Int32 4294517296) [])
    ∷ spelling (Number Int32) (codes "FF") (found (num Int32 255) [])
    ∷ spelling Real (codes "0") (faulty Misspelt)
    ∷ []

-- what the samples come to
abbrev pub SamplesStand : Type 0
SamplesStand = AllByRecursion ComesTo samples × AllByRecursion SpeltSo spellings
