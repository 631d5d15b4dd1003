-- How a run ends: the exit codes, and what is neither a fault nor want of memory.
use Rattle.std.specs.Prelude.{ℕ, ⊤}
use Rattle.restore_program.specs.declared.status.Status.{Status}
use Rattle.restore_program.specs.declared.status.Status.TheVariants.{Done, Contradiction, Words, Netlist, Dump, ReadFault, WriteFault, NoMemory, Certificate}

abbrev pub code_of : Status → ℕ
code_of Done = 0
code_of Contradiction = 1
code_of Words = 2
code_of Netlist = 3
code_of Dump = 4
code_of ReadFault = 5
code_of WriteFault = 6
code_of NoMemory = 7
code_of Certificate = 8

-- neither a fault nor want of memory
abbrev pub IsPlain : Status → Type 0
IsPlain ReadFault = ⊥
IsPlain WriteFault = ⊥
IsPlain NoMemory = ⊥
IsPlain _ = ⊤
