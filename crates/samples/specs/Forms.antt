-- The canonical spellings of the sample telegrams and of some more, and what respelling makes of them. Assumes nothing.
use Rattle.std.specs.Prelude.{◌≡◌, ℕ, List, [], ◌∷◌, ◌++◌, replicate, Some, None, codes, Option}
use Rattle.std.specs.List.{AllByRecursion}
use Rattle.telegram.specs.declared.kind.Kind.TheVariants.{Uint8, Uint16, Uint32, Int8}
use Rattle.telegram.specs.declared.row.Row.TheVariants.{SraScanData, SmnSetAccessMode, SwaParticle, SraDeviceIdent}
use Rattle.telegram.specs.Value.{num, text as words}
use Rattle.layout.specs.Source.{Telegram}
use Rattle.spelling.specs.Write.{spelled}
use Rattle.framing.specs.Read.{Outcome, accepted, refused, telegram}
use Rattle.framing.specs.Respell.{Answer, wrote, declined, Written, respelt}
use Rattle.cola_a.specs.Canon.{canon_text}
use Rattle.cola_a.specs.Envelope.{wrap_text}
use Rattle.cola_a.specs.Read.{reads_text}
use Rattle.cola_b.specs.Read.{reads_binary}
use Rattle.cola_b.specs.Canon.{canon_binary}
use Rattle.cola_b.specs.Envelope.{wrap_binary}
use Rattle.samples.specs.Samples.{Sample, text, binary, ComesTo, framed, at, reading, run_text, ran_text, login_zero_text, login_text, particle_decimal_text, particle_zero_text, particle_text, particle_most_text, particle_beyond_text, particle_two_text, scan_sent_text, scan_asked_text, nothing_text, run_binary, ran_binary, login_binary, particle_binary, done_blank_binary, done_binary, scan_sent_binary}

abbrev pub spells_text : Telegram → List ℕ
spells_text = spelled canon_text wrap_text

abbrev pub spells_binary : Telegram → List ℕ
spells_binary = spelled canon_binary wrap_binary

-- the canonical spellings of a telegram, in text and in binary
pub record Forms : Type 0 where
  pub in_text : List ℕ
  pub in_binary : List ℕ

-- those of what is accepted
abbrev pub forms_of : Outcome → Option Forms
forms_of (accepted g) = Some (record { in_text = spells_text (telegram g); in_binary = spells_binary (telegram g) })
forms_of (refused n p) = None

abbrev pub between : List ℕ → List ℕ
between body = 2 ∷ (body ++ 3 ∷ [])

-- a canonical body in text; in binary its length and its checksum, its head, and the bytes behind the head
abbrev pub forms : List ℕ → ℕ → ℕ → List ℕ → List ℕ → Option Forms
forms letters length sum head items = Some (record { in_text = between letters; in_binary = framed length sum (head ++ items) })

abbrev pub run : Option Forms
run = forms (codes "sMN Run") 7 0x19 (codes "sMN Run") []

abbrev pub ran : Option Forms
ran = forms (codes "sAN Run 1") 9 0x34 (codes "sAN Run ") (1 ∷ [])

abbrev pub login : Option Forms
login = forms (codes "sMN SetAccessMode 3 F4724744") 23 0xB3 (codes "sMN SetAccessMode ") (3 ∷ 0xF4 ∷ 0x72 ∷ 0x47 ∷ 0x44 ∷ [])

abbrev pub login_most : Option Forms
login_most = forms (codes "sMN SetAccessMode FF FFFFFFFF") 23 0xCA (codes "sMN SetAccessMode ") (0xFF ∷ 0xFF ∷ 0xFF ∷ 0xFF ∷ 0xFF ∷ [])

abbrev pub particle : Option Forms
particle = forms (codes "sWN LFPparticle 1 1F4") 19 0xD0 (codes "sWN LFPparticle ") (1 ∷ 1 ∷ 0xF4 ∷ [])

abbrev pub particle_most : Option Forms
particle_most = forms (codes "sWN LFPparticle 1 FFFF") 19 0x25 (codes "sWN LFPparticle ") (1 ∷ 0xFF ∷ 0xFF ∷ [])

abbrev pub done : Option Forms
done = forms (codes "sWA LFPparticle") 15 0x0B (codes "sWA LFPparticle") []

abbrev pub ident : Option Forms
ident = forms (codes "sRA DeviceIdent 6 LMS 10 0 ") 26 0x7F (codes "sRA DeviceIdent ") (0 ∷ 6 ∷ (codes "LMS 10" ++ (0 ∷ 0 ∷ [])))

abbrev pub scan_sent : Option Forms
scan_sent = forms (codes "sSN LMDscandata 0 1 9F14CE 0 0 2 3 A B 0 0 7 0 0 9C4 21C 0 0 0 0 0 0 0 0") 68 0xB4 (codes "sSN LMDscandata ") (0 ∷ 0 ∷ 0 ∷ 1 ∷ 0 ∷ 0x9F ∷ 0x14 ∷ 0xCE ∷ 0 ∷ 0 ∷ 0 ∷ 2 ∷ 0 ∷ 3 ∷ 0 ∷ 0 ∷ 0 ∷ 0xA ∷ 0 ∷ 0 ∷ 0 ∷ 0xB ∷ 0 ∷ 0 ∷ 7 ∷ 0 ∷ 0 ∷ 0 ∷ 0 ∷ 0 ∷ 9 ∷ 0xC4 ∷ 0 ∷ 0 ∷ 2 ∷ 0x1C ∷ 0 ∷ 0 ∷ 0 ∷ 0 ∷ 0 ∷ 0 ∷ 0 ∷ 0 ∷ 0 ∷ 0 ∷ 0 ∷ 0 ∷ 0 ∷ 0 ∷ 0 ∷ 0 ∷ [])

abbrev pub scan_asked : Option Forms
scan_asked = forms (codes "sRA LMDscandata 0 1 9F14CE 0 0 5 3 A B 0 0 7 0 0 9C4 21C 0 0 0 0 0 0 0 0") 68 0xBD (codes "sRA LMDscandata ") (0 ∷ 0 ∷ 0 ∷ 1 ∷ 0 ∷ 0x9F ∷ 0x14 ∷ 0xCE ∷ 0 ∷ 0 ∷ 0 ∷ 5 ∷ 0 ∷ 3 ∷ 0 ∷ 0 ∷ 0 ∷ 0xA ∷ 0 ∷ 0 ∷ 0 ∷ 0xB ∷ 0 ∷ 0 ∷ 7 ∷ 0 ∷ 0 ∷ 0 ∷ 0 ∷ 0 ∷ 9 ∷ 0xC4 ∷ 0 ∷ 0 ∷ 2 ∷ 0x1C ∷ 0 ∷ 0 ∷ 0 ∷ 0 ∷ 0 ∷ 0 ∷ 0 ∷ 0 ∷ 0 ∷ 0 ∷ 0 ∷ 0 ∷ 0 ∷ 0 ∷ 0 ∷ 0 ∷ [])

-- samples beyond the list
abbrev pub login_signed_text : Sample
login_signed_text = text (codes "sMN SetAccessMode -1 +4294967295") (accepted (reading SmnSetAccessMode 1 18 33 (at (num Int8 255) 18 21 ∷ at (num Uint32 4294967295) 21 33 ∷ [])))

abbrev pub done_text : Sample
done_text = text (codes "sWA LFPparticle") (accepted (reading SwaParticle 1 16 16 ([])))

abbrev pub ident_text : Sample
ident_text = text (codes "sRA DeviceIdent +6 LMS 10 0000 ") (accepted (reading SraDeviceIdent 1 16 32 (at (num Uint16 6) 16 19 ∷ at (words (codes "LMS 10")) 19 26 ∷ at (num Uint16 0) 26 31 ∷ at (words []) 31 32 ∷ [])))

abbrev pub ident_binary : Sample
ident_binary = binary (framed 26 0x7F (codes "sRA DeviceIdent " ++ (0 ∷ 6 ∷ (codes "LMS 10" ++ (0 ∷ 0 ∷ []))))) (accepted (reading SraDeviceIdent 8 23 34 (at (num Uint16 6) 23 26 ∷ at (words (codes "LMS 10")) 26 32 ∷ at (num Uint16 0) 32 34 ∷ at (words []) 34 34 ∷ [])))

abbrev pub scan_switched_text : Sample
scan_switched_text = text (codes "sRA LMDscandata 0 1 9F14CE 0 0 5 3 A B 0 0 6 0 0 9C4 21C 0 0 0 0 0 0 0 0") (accepted (reading SraScanData 1 16 73 (at (num Uint16 0) 16 18 ∷ at (num Uint16 1) 18 20 ∷ at (num Uint32 10425550) 20 27 ∷ at (num Uint8 0) 27 29 ∷ at (num Uint8 0) 29 31 ∷ at (num Uint16 5) 31 33 ∷ at (num Uint16 3) 33 35 ∷ at (num Uint32 10) 35 37 ∷ at (num Uint32 11) 37 39 ∷ at (num Uint8 0) 39 41 ∷ at (num Uint8 0) 41 43 ∷ at (num Uint8 6) 43 45 ∷ at (num Uint8 0) 45 47 ∷ at (num Uint16 0) 47 49 ∷ at (num Uint32 2500) 49 53 ∷ at (num Uint32 540) 53 57 ∷ at (num Uint16 0) 57 59 ∷ at (num Uint16 0) 59 61 ∷ at (num Uint16 0) 61 63 ∷ at (num Uint16 0) 63 65 ∷ at (num Uint16 0) 65 67 ∷ at (num Uint16 0) 67 69 ∷ at (num Uint16 0) 69 71 ∷ at (num Uint16 0) 71 73 ∷ [])))

abbrev pub further : List Sample
further = login_signed_text ∷ done_text ∷ ident_text ∷ ident_binary ∷ scan_switched_text ∷ []

-- what a sample comes to
abbrev pub outcome : Sample → Outcome
outcome (text body o) = o
outcome (binary input o) = o

-- a sample, and what writing makes of it
pub record Formed : Type 0 where
  pub sample : Sample
  pub forms : Option Forms

abbrev pub formed : Sample → Option Forms → Formed
formed s f = record { sample = s; forms = f }

abbrev pub FormedSo : Formed → Type 0
FormedSo x = forms_of (outcome x.sample) ≡ x.forms

abbrev pub formings : List Formed
formings =
    formed run_text run
    ∷ formed ran_text ran
    ∷ formed login_zero_text login
    ∷ formed login_text login
    ∷ formed login_signed_text login_most
    ∷ formed particle_decimal_text particle
    ∷ formed particle_zero_text particle
    ∷ formed particle_text particle
    ∷ formed particle_most_text particle_most
    ∷ formed particle_beyond_text None
    ∷ formed particle_two_text None
    ∷ formed done_text done
    ∷ formed ident_text ident
    ∷ formed scan_sent_text scan_sent
    ∷ formed scan_asked_text scan_asked
    ∷ formed nothing_text None
    ∷ formed run_binary run
    ∷ formed ran_binary ran
    ∷ formed login_binary login
    ∷ formed particle_binary particle
    ∷ formed done_blank_binary done
    ∷ formed done_binary done
    ∷ formed ident_binary ident
    ∷ formed scan_sent_binary scan_sent
    ∷ []

-- what is read, respelt into an output of so many bytes FF
pub record Respelling : Type 0 where
  pub source : Outcome
  pub spells : Telegram → List ℕ
  pub room : ℕ
  pub is : Written

abbrev pub RespeltSo : Respelling → Type 0
RespeltSo r = respelt r.source r.spells (replicate r.room 0xFF) ≡ r.is

abbrev pub respelling_of : Outcome → (Telegram → List ℕ) → ℕ → Answer → List ℕ → Respelling
respelling_of o s n a w = record { source = o; spells = s; room = n; is = record { answer = a; output = w } }

-- of a body in text, and of an input in binary
abbrev pub respelling : List ℕ → (Telegram → List ℕ) → ℕ → Answer → List ℕ → Respelling
respelling l = respelling_of (reads_text (between l))

abbrev pub respelling_binary : List ℕ → (Telegram → List ℕ) → ℕ → Answer → List ℕ → Respelling
respelling_binary bs = respelling_of (reads_binary bs)

abbrev pub respellings : List Respelling
respellings =
    respelling (codes "sWN LFPparticle 1 +500") spells_text 26 (wrote 23) (between (codes "sWN LFPparticle 1 1F4") ++ replicate 3 0xFF)
    ∷ respelling (codes "sWN LFPparticle 1 +500") spells_binary 28 (wrote 28) (framed 19 0xD0 (codes "sWN LFPparticle " ++ (1 ∷ 1 ∷ 0xF4 ∷ [])))
    ∷ respelling (codes "sWN LFPparticle 1 +500") spells_binary 27 (declined 9 28) (replicate 27 0xFF)
    ∷ respelling (codes "sWN LFPparticle 2 +500") spells_binary 28 (declined 6 16) (replicate 28 0xFF)
    ∷ respelling_binary (framed 16 0x2B (codes "sWA LFPparticle ")) spells_binary 26 (wrote 24) (framed 15 0x0B (codes "sWA LFPparticle") ++ replicate 2 0xFF)
    ∷ respelling_binary (framed 19 0xD0 (codes "sWN LFPparticle " ++ (1 ∷ 1 ∷ 0xF4 ∷ []))) spells_text 24 (wrote 23) (between (codes "sWN LFPparticle 1 1F4") ++ replicate 1 0xFF)
    ∷ []

-- what writing makes of the samples and of those beyond their list
abbrev pub FormsStand : Type 0
FormsStand = AllByRecursion ComesTo further × AllByRecursion FormedSo formings × AllByRecursion RespeltSo respellings
