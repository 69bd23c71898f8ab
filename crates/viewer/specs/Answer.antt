-- What a call answers. Assumes nothing.
use Rattle.std.specs.Prelude.{ℕ, Bool, List, length, Some, None, Option, ◌==◌}
use Rattle.framing.specs.Read.{Outcome, accepted, refused, is_none}
use Rattle.framing.specs.Respell.{Answer as Word, Written, wrote, declined, respelt}
use Rattle.viewer.specs.declared.answer.Answer.{Answer}
use Rattle.known.specs.Known.{Known, numbered, reads_in, spells_in}

-- the number of an answer that is no refusal
abbrev pub done_number : ℕ
done_number = 0

-- the one definition of the number that refuses an unknown framing
abbrev pub unknown_number : ℕ
unknown_number = 255

abbrev pub says_unknown : ℕ → Bool
says_unknown number = number == unknown_number

-- so many items were read, or bytes written
abbrev pub done : ℕ → Answer
done n = record { number = done_number; place = n }

abbrev pub refused_at : ℕ → ℕ → Answer
refused_at n p = record { number = n; place = p }

-- no framing has this number
abbrev pub unknown : ℕ → Answer
unknown framing = refused_at unknown_number framing

-- what is answered to reading
abbrev pub read_answer : Outcome → Answer
read_answer (accepted g) = done (length g.items)
read_answer (refused n p) = refused_at n p

-- what is answered to writing
abbrev pub write_answer : Word → Answer
write_answer (wrote n) = done n
write_answer (declined n p) = refused_at n p

-- an answer, and the output afterwards
pub record Told : Type 0 where
  pub answer : Answer
  pub output : List ℕ

abbrev pub told : Written → Told
told w = record { answer = write_answer w.answer; output = w.output }

-- a refusal that leaves the output as it was
abbrev pub untouched : Answer → List ℕ → Told
untouched a out = record { answer = a; output = out }

-- no framing has a number
abbrev pub is_unknown : ℕ → Bool
is_unknown n = is_none (numbered n)

-- reading in the framing of number n, where there is one
abbrev pub read_known : ℕ → Option Known → List ℕ → Answer
read_known n None bs = unknown n
read_known n (Some c) bs = read_answer (reads_in c bs)

abbrev pub read_by : ℕ → List ℕ → Answer
read_by n bs = read_known n (numbered n) bs

-- respelling into the framing of number n, where there is one
abbrev pub respelt_to : Outcome → ℕ → Option Known → List ℕ → Told
respelt_to o n None out = untouched (unknown n) out
respelt_to o n (Some c) out = told (respelt o (spells_in c) out)

-- respelling from the framing of number n, where there is one, into that of number m
abbrev pub respelt_from : ℕ → Option Known → ℕ → List ℕ → List ℕ → Told
respelt_from n None m bs out = untouched (unknown n) out
respelt_from n (Some c) m bs out = respelt_to (reads_in c bs) m (numbered m) out

abbrev pub respelt_by : ℕ → ℕ → List ℕ → List ℕ → Told
respelt_by n m bs out = respelt_from n (numbered n) m bs out
