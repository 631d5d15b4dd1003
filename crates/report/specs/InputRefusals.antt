-- The lines of the refusals of a netlist, a dump and a certificate.
use Rattle.std.specs.Prelude.{ℕ, List, ◌++◌, codes}
use Rattle.std.specs.Fmt.{decimal}
use Rattle.bench_reader.specs.declared.reader.BenchRefusal.{BenchRefusal}
use Rattle.bench_reader.specs.declared.reader.BenchRefusal.TheVariants as bench
use Rattle.netlist.specs.declared.checks.NetRefusal.{NetRefusal}
use Rattle.netlist.specs.declared.checks.NetRefusal.TheVariants as net
use Rattle.dump_reader.specs.declared.refusal.DumpRefusal.{DumpRefusal}
use Rattle.dump_reader.specs.declared.refusal.DumpRefusal.TheVariants as dumps
use Rattle.certificates.specs.declared.refusal.CertRefusal.{CertRefusal}
use Rattle.certificates.specs.declared.refusal.CertRefusal.TheVariants as certs
use Rattle.report.specs.declared.refusal.Part.{Part}
use Rattle.report.specs.declared.refusal.Part.TheVariants as parts

abbrev pub name_of : Part → List ℕ
name_of parts.Netlist = codes "netlist"
name_of parts.Dump = codes "dump"
name_of parts.Certificate = codes "certificate"

abbrev pub too_long_line : Part → List ℕ
too_long_line part = codes "srestore: " ++ name_of part ++ codes ": 24 too long\n"

abbrev pub fault_line : Part → List ℕ
fault_line part = codes "srestore: read fault " ++ name_of part ++ codes "\n"

-- what is written of a line of an input, and why it is refused
abbrev pub refused_line : Part → ℕ → List ℕ → List ℕ
refused_line part line why = codes "srestore: " ++ name_of part ++ codes " line " ++ decimal line ++ why

abbrev pub no_memory_line : List ℕ
no_memory_line = codes "srestore: no memory\n"

-- what is written of a netlist's text that is refused
abbrev pub bench_line : BenchRefusal → List ℕ
bench_line (bench.Syntax line) = refused_line parts.Netlist line (codes ": 1 syntax\n")
bench_line (bench.NameLong line) = refused_line parts.Netlist line (codes ": 2 name too long\n")
bench_line (bench.UnknownKind line) = refused_line parts.Netlist line (codes ": 3 unknown kind\n")
bench_line (bench.WrongPins line) = refused_line parts.Netlist line (codes ": 4 wrong number of pins\n")
bench_line bench.NoMemory = no_memory_line

-- what is written of statements that stand for no netlist
abbrev pub net_line : NetRefusal → List ℕ
net_line (net.TooManySignals line) = refused_line parts.Netlist line (codes ": 5 too many signals\n")
net_line (net.TooManyPins line) = refused_line parts.Netlist line (codes ": 6 too many pins\n")
net_line (net.TwoDrivers line) = refused_line parts.Netlist line (codes ": 7 two drivers\n")
net_line (net.NoDriver name) = codes "srestore: netlist: 8 no driver " ++ name.items ++ codes "\n"
net_line (net.Loop name length) = codes "srestore: netlist: 9 loop " ++ name.items ++ codes " " ++ decimal length ++ codes "\n"
net_line net.NoMemory = no_memory_line

-- what is written of a dump's text that is refused
abbrev pub dump_line : DumpRefusal → List ℕ
dump_line (dumps.Head line) = refused_line parts.Dump line (codes ": 10 bad head\n")
dump_line (dumps.Cycles line) = refused_line parts.Dump line (codes ": 11 bad cycles\n")
dump_line (dumps.RowSyntax line) = refused_line parts.Dump line (codes ": 12 bad row\n")
dump_line (dumps.UnknownSignal line) = refused_line parts.Dump line (codes ": 13 unknown signal\n")
dump_line (dumps.TwiceNamed line) = refused_line parts.Dump line (codes ": 14 signal named twice\n")
dump_line (dumps.RowLength line) = refused_line parts.Dump line (codes ": 15 row length\n")
dump_line (dumps.BadBit line) = refused_line parts.Dump line (codes ": 16 bad bit\n")
dump_line (dumps.TooManyCells line product) = refused_line parts.Dump line (codes ": 17 too many cells " ++ decimal product ++ codes "\n")
dump_line dumps.NoMemory = no_memory_line

-- what is written of a certificate that is refused
abbrev pub cert_line : CertRefusal → List ℕ
cert_line (certs.CertHead line) = refused_line parts.Certificate line (codes ": 18 bad head\n")
cert_line (certs.CertSyntax line) = refused_line parts.Certificate line (codes ": 19 syntax\n")
cert_line (certs.CertCell line) = refused_line parts.Certificate line (codes ": 20 no such cell\n")
cert_line (certs.NotForced line) = refused_line parts.Certificate line (codes ": 21 not forced\n")
cert_line certs.NoMemory = no_memory_line
