-- How large a netlist and a dump may be.
use Rattle.std.specs.Prelude.{ℕ, ◌+◌, ◌*◌, ◌/◌}

-- signals of a netlist
abbrev pub max_signals : ℕ
max_signals = 65536

-- pins of a gate
abbrev pub max_gate_pins : ℕ
max_gate_pins = 1024

-- signals of a gate: its target and its pins
abbrev pub max_gate_signals : ℕ
max_gate_signals = 1025

-- pins of a netlist, over all its gates and flip-flops
abbrev pub max_pins : ℕ
max_pins = 1048576

-- cycles of a dump
abbrev pub max_cycles : ℕ
max_cycles = 8192

-- blocks of a netlist over a number of cycles: its signals, times the chunks of 64 cycles
abbrev pub max_blocks : ℕ
max_blocks = 4194304

-- cells of a netlist over a number of cycles
abbrev pub max_cells : ℕ
max_cells = max_signals * max_cycles

-- how many chunks of 64 cycles there are, the last one perhaps not full
abbrev pub chunk_count : ℕ → ℕ
chunk_count cycles = (cycles + 63) / 64

-- how many blocks signals have over a number of cycles: one for each signal and chunk
abbrev pub block_count : ℕ → ℕ → ℕ
block_count signals cycles = signals * chunk_count cycles
