-- The text and the status of each reply.
use Rattle.std.specs.Prelude.{ℕ, ◌<◌, ◌≤◌, ⊤, All, List, Option, IsSome, length}
use Rattle.sr_model.specs.declared.cells.Cell.{Cell}
use Rattle.sr_model.specs.Closure.{HasBoth, passing}
use Rattle.bench_reader.specs.declared.reader.BenchRefusal.{BenchRefusal}
use Rattle.bench_reader.specs.declared.reader.BenchRefusal.TheVariants as bench
use Rattle.netlist.specs.declared.checks.NetRefusal.{NetRefusal}
use Rattle.netlist.specs.declared.checks.NetRefusal.TheVariants as net
use Rattle.dump_reader.specs.declared.refusal.DumpRefusal.{DumpRefusal}
use Rattle.dump_reader.specs.declared.refusal.DumpRefusal.TheVariants as dumps
use Rattle.sr_model.specs.Limits.{block_count, max_blocks, max_cells}
use Rattle.dump_reader.specs.Recording.{IsCount}
use Rattle.unroll.specs.Problem.{Unrolling}
use Rattle.known_planes.specs.Planes.{IsOf, has}
use Rattle.certificates.specs.declared.refusal.CertRefusal.{CertRefusal}
use Rattle.certificates.specs.declared.refusal.CertRefusal.TheVariants as certs
use Rattle.certificates.specs.Logs.{IsClashIn, IsStepIn, facts_of}
use Rattle.certificates.specs.Printed.{cert_text}
use Rattle.report.specs.declared.refusal.Part.{Part}
use Rattle.report.specs.declared.refusal.Part.TheVariants as parts
use Rattle.report.specs.declared.refusal.Refusal.{Refusal}
use Rattle.report.specs.declared.refusal.Refusal.TheVariants as refusals
use Rattle.report.specs.Check.{checked_text}
use Rattle.report.specs.Clash.{clash_line}
use Rattle.report.specs.Refusals.{AreThere, refusal_line}
use Rattle.report.specs.Table.{table_text}
use Rattle.report.specs.Load.{load_line}
use Rattle.report.specs.Picks.{pick_lines}
use Rattle.restore_program.specs.Certifying.{ends_with}
use Rattle.restore_program.specs.declared.reply.Loaded.{Loaded}
use Rattle.restore_program.specs.declared.reply.Table.{Table}
use Rattle.restore_program.specs.declared.reply.Reply.{Reply}
use Rattle.restore_program.specs.declared.reply.Reply.TheVariants as replies
use Rattle.restore_program.specs.declared.status.Status.{Status}
use Rattle.restore_program.specs.declared.status.Status.TheVariants as statuses

-- the netlist of a table over its cycles
abbrev pub unrolling_of : Table → Unrolling
unrolling_of table = record { circuit = table.netlist; cycles = table.cycles }

-- the planes are those of the netlist over the cycles, and have not both literals of a cell
pub record IsTable (table : Table) : Type 0 where
  pub cycles : IsCount table.cycles
  pub few : block_count (length table.netlist.drivers) table.cycles ≤ max_blocks
  pub of : IsOf (unrolling_of table) table.planes
  pub no_clash : (cell : Cell) → HasBoth (passing (has (unrolling_of table) table.planes)) cell → ⊥
  pub traced : table.traced ≤ max_cells

-- how a run ends with a result
abbrev pub IsResult : Status → Type 0
IsResult statuses.Done = ⊤
IsResult statuses.Contradiction = ⊤
IsResult _ = ⊥

-- what a reply on these words speaks of is there
abbrev pub IsReady : List (List ℕ) → Reply → Type 0
IsReady words (replies.Refused refusal) = AreThere words refusal
IsReady words (replies.Known table) = IsTable table
IsReady words (replies.Clash netlist cell) = cell.sig.0 < length netlist.drivers
IsReady words (replies.Text text status) = IsResult status
IsReady words (replies.Ranking ranked) = All (λ pick. pick.sig.0 < length ranked.netlist.drivers) ranked.picks.items
IsReady words (replies.Load loaded) = ⊤
IsReady words (replies.Certificate netlist log) = All (IsStepIn (length netlist.drivers)) log.steps.items × IsClashIn (length netlist.drivers) log.clash
IsReady words (replies.Checked netlist facts clash) = IsClashIn (length netlist.drivers) clash

-- the line of a load netlist
abbrev pub loaded_line : Loaded → List ℕ
loaded_line loaded = load_line loaded.number loaded.signals loaded.flip_flops loaded.ratio

-- the text that is written of a reply on these words
abbrev pub text_of : List (List ℕ) → Reply → List ℕ
text_of words (replies.Refused refusal) = refusal_line words refusal
text_of words (replies.Known table) = table_text table.netlist table.cycles (has (unrolling_of table) table.planes) table.traced table.all
text_of words (replies.Clash netlist cell) = clash_line netlist cell
text_of words (replies.Text text status) = text.items
text_of words (replies.Ranking ranked) = pick_lines ranked.netlist.names ranked.picks.items
text_of words (replies.Load loaded) = loaded_line loaded
text_of words (replies.Certificate netlist log) = cert_text netlist.names (facts_of log.steps.items) log.clash
text_of words (replies.Checked netlist facts clash) = checked_text netlist facts clash

-- the status of a refused input
abbrev pub part_status : Part → Status
part_status parts.Netlist = statuses.Netlist
part_status parts.Dump = statuses.Dump
part_status parts.Certificate = statuses.Certificate

abbrev pub bench_status : BenchRefusal → Status
bench_status bench.NoMemory = statuses.NoMemory
bench_status _ = statuses.Netlist

abbrev pub net_status : NetRefusal → Status
net_status net.NoMemory = statuses.NoMemory
net_status _ = statuses.Netlist

abbrev pub dump_status : DumpRefusal → Status
dump_status dumps.NoMemory = statuses.NoMemory
dump_status _ = statuses.Dump

abbrev pub certificate_status : CertRefusal → Status
certificate_status certs.NoMemory = statuses.NoMemory
certificate_status _ = statuses.Certificate

abbrev pub refusal_status : Refusal → Status
refusal_status (refusals.Bench refusal) = bench_status refusal
refusal_status (refusals.Net refusal) = net_status refusal
refusal_status (refusals.Dumped refusal) = dump_status refusal
refusal_status (refusals.Cert refusal) = certificate_status refusal
refusal_status (refusals.Words refusal) = statuses.Words
refusal_status (refusals.TooLong part) = part_status part
refusal_status (refusals.Fault part) = statuses.ReadFault
refusal_status (refusals.CellsByWords product) = statuses.Dump
refusal_status (refusals.WidthOver flip_flops) = statuses.Words
refusal_status (refusals.TraceUnknown place item) = statuses.Words
refusal_status (refusals.TraceTwice place item) = statuses.Words
refusal_status refusals.NoMemory = statuses.NoMemory

abbrev pub status_of : Reply → Status
status_of (replies.Refused refusal) = refusal_status refusal
status_of (replies.Known table) = statuses.Done
status_of (replies.Clash netlist cell) = statuses.Contradiction
status_of (replies.Text text status) = status
status_of (replies.Ranking ranked) = statuses.Done
status_of (replies.Load loaded) = statuses.Done
status_of (replies.Certificate netlist log) = ends_with log.clash
status_of (replies.Checked netlist facts clash) = ends_with clash

-- the reply is written by a buffer
abbrev pub IsBuffered : Reply → Type 0
IsBuffered (replies.Known table) = ⊤
IsBuffered (replies.Certificate netlist log) = ⊤
IsBuffered _ = ⊥

-- the buffer by which it is written is there
abbrev pub HasBuffer : {B : Type 0} → Reply → Option B → Type 0
HasBuffer reply buf = IsBuffered reply → IsSome buf
