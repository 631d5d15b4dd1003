-- Texts that are put into bytes, which are written where they are full.
use Rattle.std.specs.Prelude.{ℕ, ◌≡◌, ◌≤◌, List, ◌++◌, Option, Result, Ok, Err, IfOk, length, take}
use Rattle.sr_outside.specs.declared.write.WriteFault.{WriteFault}
use Rattle.report.specs.Writes.{Writes}

-- the answer without its number
abbrev pub answered : Result ℕ WriteFault → Result (Unit {0}) WriteFault
answered (Ok end) = Ok tt
answered (Err fault) = Err fault

-- The front of the text was written, and the rest of it stands in front of the bytes, up to the end that is answered; or the writing of a front was a fault.
pub record Puts {K : Type 0} (written : K → Option (List ℕ)) (room : K → Option ℕ) (faults : K → ℕ) (before after : K) (answer : Result ℕ WriteFault) (bytes text : List ℕ) : Type 0 where
  pub sent : List ℕ
  pub rest : List ℕ
  pub whole : text ≡ sent ++ rest
  pub writes : Writes written room faults before after (answered answer) sent
  pub left : IfOk answer (λ end. (end ≤ length bytes) × (take end bytes ≡ rest))
