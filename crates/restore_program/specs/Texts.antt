-- What the text of an input stands for, and how it is refused.
use Rattle.std.specs.Prelude.{ℕ, ◌≡◌, ◌≢◌, ◌<◌, ◌≤◌, List, length, Option}
use Rattle.sr_model.specs.declared.cells.Cell.{Cell}
use Rattle.sr_model.specs.declared.cells.Lit.{Lit}
use Rattle.sr_model.specs.Declaration.{Declaration}
use Rattle.sr_model.specs.Closure.{IsClash, passing}
use Rattle.sr_model.specs.Dump.{Known, Row, dump_has}
use Rattle.bench_reader.specs.declared.reader.BenchRefusal.{BenchRefusal}
use Rattle.bench_reader.specs.declared.reader.BenchRefusal.TheVariants as bench
use Rattle.bench_reader.specs.Grammar as grammar
use Rattle.bench_reader.specs.Refusal as bench_refusal
use Rattle.netlist.specs.declared.checks.NetRefusal.{NetRefusal}
use Rattle.netlist.specs.declared.checks.NetRefusal.TheVariants as net
use Rattle.netlist.specs.Checks as checks
use Rattle.netlist.specs.Circuit.{Circuit, IsNetlist, circuit_of, unrolled_over}
use Rattle.dump_reader.specs.declared.refusal.DumpRefusal.{DumpRefusal}
use Rattle.dump_reader.specs.declared.refusal.DumpRefusal.TheVariants as dumps
use Rattle.dump_reader.specs.Recording.{Recording}
use Rattle.dump_reader.specs.Grammar as dump_grammar
use Rattle.dump_reader.specs.Refusal as dump_refusal
use Rattle.known_planes.specs.Counts.{known_count}
use Rattle.certificates.specs.declared.claim.Fact.{Fact}
use Rattle.certificates.specs.declared.refusal.CertRefusal.{CertRefusal}
use Rattle.certificates.specs.declared.refusal.CertRefusal.TheVariants as certs
use Rattle.certificates.specs.Refusal as cert_refusal
use Rattle.certificates.specs.Validity.{IsValid}
use Rattle.report.specs.declared.refusal.Part.{Part}
use Rattle.report.specs.declared.refusal.Part.TheVariants as parts
use Rattle.report.specs.InputRefusals.{bench_line, cert_line, dump_line, net_line, too_long_line}
use Rattle.restore_program.specs.declared.status.Status.{Status}
use Rattle.restore_program.specs.declared.status.Status.TheVariants as statuses

-- the most bytes of an input
abbrev pub most_bytes : Part → ℕ
most_bytes parts.Netlist = 16777216
most_bytes parts.Dump = 16777216
most_bytes parts.Certificate = 268435456

-- ---- a netlist's text

-- the text's statements stand for this netlist
pub record IsNetlistText (bytes : List ℕ) (c : Circuit) : Type 0 where
  pub few : length bytes ≤ most_bytes parts.Netlist
  pub stated : List (ℕ × Declaration)
  pub spells : grammar.Spells bytes stated
  pub netlist : IsNetlist (checks.without_lines stated)
  pub circuit : c ≡ circuit_of (checks.without_lines stated)

-- a netlist's text is too long or is refused: first by a line that is not in the grammar, and then by a rule that the statements break
pub data RefusedNetlist (bytes : List ℕ) : List ℕ → Status → Type 0 where
  netlist_too_long : most_bytes parts.Netlist < length bytes → RefusedNetlist bytes (too_long_line parts.Netlist) statuses.Netlist
  bad_line : (r : BenchRefusal) → length bytes ≤ most_bytes parts.Netlist → r ≢ bench.NoMemory → bench_refusal.IsRefusal bytes r → RefusedNetlist bytes (bench_line r) statuses.Netlist
  no_netlist : (stated : List (ℕ × Declaration)) (r : NetRefusal) → length bytes ≤ most_bytes parts.Netlist → r ≢ net.NoMemory → grammar.Spells bytes stated → checks.IsRefusal stated r
      → RefusedNetlist bytes (net_line r) statuses.Netlist

-- ---- a dump's text

abbrev pub SpellsDump : Circuit → List ℕ → Recording → Type 0
SpellsDump c bytes d = dump_grammar.Spells c.names (length c.drivers) bytes d

abbrev pub IsDumpRefusal : Circuit → List ℕ → DumpRefusal → Type 0
IsDumpRefusal c bytes r = dump_refusal.IsRefusal c.names (length c.drivers) bytes r

-- the text is a dump of the netlist with this recording
abbrev pub IsDumpText : Circuit → List ℕ → Recording → Type 0
IsDumpText c bytes d = (length bytes ≤ most_bytes parts.Dump) × SpellsDump c bytes d

-- the rows that a recording gives
abbrev pub given_rows : Recording → List Row
given_rows d = d.rows

-- what is known from a recording
abbrev pub KnownFrom : Circuit → Recording → Lit → Type 0
KnownFrom c d = Known (unrolled_over c d.cycles) (given_rows d)

-- how many cells of flip-flops have a bit in a recording
abbrev pub traced_count : Circuit → Recording → ℕ
traced_count c d = known_count c d.cycles (dump_has (given_rows d))

-- The cell of a recording's contradiction: the least one that has both literals in the first level that has such a cell.
abbrev pub IsClashOf : Circuit → Recording → Cell → Type 0
IsClashOf c d cell = (level : ℕ) × IsClash (unrolled_over c d.cycles) (passing (dump_has (given_rows d))) cell level

-- a dump's text is too long or is refused
pub data RefusedDump (c : Circuit) (bytes : List ℕ) : List ℕ → Status → Type 0 where
  dump_too_long : most_bytes parts.Dump < length bytes → RefusedDump c bytes (too_long_line parts.Dump) statuses.Dump
  bad_dump : (r : DumpRefusal) → length bytes ≤ most_bytes parts.Dump → r ≢ dumps.NoMemory → IsDumpRefusal c bytes r → RefusedDump c bytes (dump_line r) statuses.Dump

-- ---- a certificate's text

-- the text is a certificate of these facts for a recording, and of a contradiction at the cell, if there is one
abbrev pub IsCertificateText : Circuit → Recording → List ℕ → List Fact → Option Cell → Type 0
IsCertificateText c d bytes facts clash = (length bytes ≤ most_bytes parts.Certificate) × IsValid c d bytes facts clash

-- a certificate's text is too long or is refused
pub data RefusedCertificate (c : Circuit) (d : Recording) (bytes : List ℕ) : List ℕ → Status → Type 0 where
  certificate_too_long : most_bytes parts.Certificate < length bytes → RefusedCertificate c d bytes (too_long_line parts.Certificate) statuses.Certificate
  bad_certificate : (r : CertRefusal) → length bytes ≤ most_bytes parts.Certificate → r ≢ certs.NoMemory → cert_refusal.IsRefusal c d bytes r → RefusedCertificate c d bytes (cert_line r) statuses.Certificate
