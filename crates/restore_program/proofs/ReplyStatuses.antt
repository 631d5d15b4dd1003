-- The replies whose status is that of refused words, and those whose status is a fault's.
use Rattle.std.proofs.Common.{◌≡◌, ℕ, List, Option, Some, None, refl, subst}
use Rattle.std.specs.Prelude.{⊤, IsSome}
use Rattle.bench_reader.specs.declared.reader.BenchRefusal.{BenchRefusal}
use Rattle.bench_reader.specs.declared.reader.BenchRefusal.TheVariants as bench
use Rattle.netlist.specs.declared.checks.NetRefusal.{NetRefusal}
use Rattle.netlist.specs.declared.checks.NetRefusal.TheVariants as net
use Rattle.dump_reader.specs.declared.refusal.DumpRefusal.{DumpRefusal}
use Rattle.dump_reader.specs.declared.refusal.DumpRefusal.TheVariants as dumps
use Rattle.sr_model.specs.declared.cells.Cell.{Cell}
use Rattle.certificates.specs.declared.refusal.CertRefusal.{CertRefusal}
use Rattle.certificates.specs.declared.refusal.CertRefusal.TheVariants as certs
use Rattle.report.specs.declared.refusal.Part.{Part}
use Rattle.report.specs.declared.refusal.Part.TheVariants as parts
use Rattle.report.specs.declared.refusal.Refusal.{Refusal}
use Rattle.report.specs.declared.refusal.Refusal.TheVariants as refusals
use Rattle.restore_program.specs.declared.reply.Reply.{Reply}
use Rattle.restore_program.specs.declared.reply.Reply.TheVariants as replies
use Rattle.restore_program.specs.declared.status.Status.{Status}
use Rattle.restore_program.specs.declared.status.Status.TheVariants as statuses
use Rattle.restore_program.specs.Certifying.{ends_with}
use Rattle.restore_program.specs.Reply.{IsReady, IsResult, bench_status, certificate_status, dump_status, net_status, part_status, refusal_status, status_of}
use Rattle.restore_program.specs.ReplyAnswers.{IsOfWords, IsWordsRefusal, fault_of, refusal_fault}

-- the status of an input that is refused, or of want of memory
abbrev IsOfInput : Status → Type 0
IsOfInput statuses.Netlist = ⊤
IsOfInput statuses.Dump = ⊤
IsOfInput statuses.Certificate = ⊤
IsOfInput statuses.NoMemory = ⊤
IsOfInput _ = ⊥

of_bench : (r : BenchRefusal) → IsOfInput (bench_status r)
of_bench bench.NoMemory = tt
of_bench (bench.Syntax line) = tt
of_bench (bench.NameLong line) = tt
of_bench (bench.UnknownKind line) = tt
of_bench (bench.WrongPins line) = tt

of_net : (r : NetRefusal) → IsOfInput (net_status r)
of_net net.NoMemory = tt
of_net (net.TooManySignals line) = tt
of_net (net.TooManyPins line) = tt
of_net (net.TwoDrivers line) = tt
of_net (net.NoDriver name) = tt
of_net (net.Loop name count) = tt

of_dump : (r : DumpRefusal) → IsOfInput (dump_status r)
of_dump dumps.NoMemory = tt
of_dump (dumps.Head line) = tt
of_dump (dumps.Cycles line) = tt
of_dump (dumps.TooManyCells line product) = tt
of_dump (dumps.RowSyntax line) = tt
of_dump (dumps.UnknownSignal line) = tt
of_dump (dumps.TwiceNamed line) = tt
of_dump (dumps.RowLength line) = tt
of_dump (dumps.BadBit line) = tt

of_certificate : (r : CertRefusal) → IsOfInput (certificate_status r)
of_certificate certs.NoMemory = tt
of_certificate (certs.CertHead line) = tt
of_certificate (certs.CertSyntax line) = tt
of_certificate (certs.CertCell line) = tt
of_certificate (certs.NotForced line) = tt

of_part : (part : Part) → IsOfInput (part_status part)
of_part parts.Netlist = tt
of_part parts.Dump = tt
of_part parts.Certificate = tt

pub of_end : (clash : Option Cell) → IsResult (ends_with clash)
of_end None = tt
of_end (Some cell) = tt

-- ---- refused words

words_refusal : (r : Refusal) → refusal_status r ≡ statuses.Words → IsWordsRefusal r
words_refusal (refusals.Bench r) e = absurd (subst IsOfInput e (of_bench r))
words_refusal (refusals.Net r) e = absurd (subst IsOfInput e (of_net r))
words_refusal (refusals.Dumped r) e = absurd (subst IsOfInput e (of_dump r))
words_refusal (refusals.Cert r) e = absurd (subst IsOfInput e (of_certificate r))
words_refusal (refusals.Words r) e = tt
words_refusal (refusals.TooLong part) e = absurd (subst IsOfInput e (of_part part))
words_refusal (refusals.Fault part) e = absurd cc
words_refusal (refusals.CellsByWords product) e = absurd cc
words_refusal (refusals.WidthOver flip_flops) e = tt
words_refusal (refusals.TraceUnknown place item) e = tt
words_refusal (refusals.TraceTwice place item) e = tt
words_refusal refusals.NoMemory e = absurd cc

pub status_of_words : (words : List (List ℕ)) (reply : Reply) → IsReady words reply → status_of reply ≡ statuses.Words → IsOfWords reply
status_of_words words (replies.Refused r) ready e = words_refusal r e
status_of_words words (replies.Known table) ready e = absurd cc
status_of_words words (replies.Clash n cell) ready e = absurd cc
status_of_words words (replies.Text text status) ready e = subst IsResult e ready
status_of_words words (replies.Ranking ranked) ready e = absurd cc
status_of_words words (replies.Load loaded) ready e = absurd cc
status_of_words words (replies.Certificate n log) ready e = absurd (subst IsResult e (of_end log.clash))
status_of_words words (replies.Checked n facts clash) ready e = absurd (subst IsResult e (of_end clash))

-- ---- a fault of reading

fault_refusal : (r : Refusal) → refusal_status r ≡ statuses.ReadFault → IsSome (refusal_fault r)
fault_refusal (refusals.Bench r) e = absurd (subst IsOfInput e (of_bench r))
fault_refusal (refusals.Net r) e = absurd (subst IsOfInput e (of_net r))
fault_refusal (refusals.Dumped r) e = absurd (subst IsOfInput e (of_dump r))
fault_refusal (refusals.Cert r) e = absurd (subst IsOfInput e (of_certificate r))
fault_refusal (refusals.Words r) e = absurd cc
fault_refusal (refusals.TooLong part) e = absurd (subst IsOfInput e (of_part part))
fault_refusal (refusals.Fault part) e = refl
fault_refusal (refusals.CellsByWords product) e = absurd cc
fault_refusal (refusals.WidthOver flip_flops) e = absurd cc
fault_refusal (refusals.TraceUnknown place item) e = absurd cc
fault_refusal (refusals.TraceTwice place item) e = absurd cc
fault_refusal refusals.NoMemory e = absurd cc

pub status_of_fault : (words : List (List ℕ)) (reply : Reply) → IsReady words reply → status_of reply ≡ statuses.ReadFault → IsSome (fault_of reply)
status_of_fault words (replies.Refused r) ready e = fault_refusal r e
status_of_fault words (replies.Known table) ready e = absurd cc
status_of_fault words (replies.Clash n cell) ready e = absurd cc
status_of_fault words (replies.Text text status) ready e = absurd (subst IsResult e ready)
status_of_fault words (replies.Ranking ranked) ready e = absurd cc
status_of_fault words (replies.Load loaded) ready e = absurd cc
status_of_fault words (replies.Certificate n log) ready e = absurd (subst IsResult e (of_end log.clash))
status_of_fault words (replies.Checked n facts clash) ready e = absurd (subst IsResult e (of_end clash))

pub fault_status : (reply : Reply) → IsSome (fault_of reply) → status_of reply ≡ statuses.ReadFault
fault_status (replies.Refused (refusals.Fault part)) some = refl
fault_status (replies.Refused (refusals.Bench r)) some = absurd cc
fault_status (replies.Refused (refusals.Net r)) some = absurd cc
fault_status (replies.Refused (refusals.Dumped r)) some = absurd cc
fault_status (replies.Refused (refusals.Cert r)) some = absurd cc
fault_status (replies.Refused (refusals.Words r)) some = absurd cc
fault_status (replies.Refused (refusals.TooLong part)) some = absurd cc
fault_status (replies.Refused (refusals.CellsByWords product)) some = absurd cc
fault_status (replies.Refused (refusals.WidthOver flip_flops)) some = absurd cc
fault_status (replies.Refused (refusals.TraceUnknown place item)) some = absurd cc
fault_status (replies.Refused (refusals.TraceTwice place item)) some = absurd cc
fault_status (replies.Refused refusals.NoMemory) some = absurd cc
fault_status (replies.Known table) some = absurd cc
fault_status (replies.Clash n cell) some = absurd cc
fault_status (replies.Text text status) some = absurd cc
fault_status (replies.Ranking ranked) some = absurd cc
fault_status (replies.Load loaded) some = absurd cc
fault_status (replies.Certificate n log) some = absurd cc
fault_status (replies.Checked n facts clash) some = absurd cc

-- ---- a fault of writing is the status of no reply

refusal_is_written : (r : Refusal) → refusal_status r ≡ statuses.WriteFault → ⊥
refusal_is_written (refusals.Bench r) e = subst IsOfInput e (of_bench r)
refusal_is_written (refusals.Net r) e = subst IsOfInput e (of_net r)
refusal_is_written (refusals.Dumped r) e = subst IsOfInput e (of_dump r)
refusal_is_written (refusals.Cert r) e = subst IsOfInput e (of_certificate r)
refusal_is_written (refusals.Words r) e = cc
refusal_is_written (refusals.TooLong part) e = subst IsOfInput e (of_part part)
refusal_is_written (refusals.Fault part) e = cc
refusal_is_written (refusals.CellsByWords product) e = cc
refusal_is_written (refusals.WidthOver flip_flops) e = cc
refusal_is_written (refusals.TraceUnknown place item) e = cc
refusal_is_written (refusals.TraceTwice place item) e = cc
refusal_is_written refusals.NoMemory e = cc

pub status_is_written : (words : List (List ℕ)) (reply : Reply) → IsReady words reply → status_of reply ≡ statuses.WriteFault → ⊥
status_is_written words (replies.Refused r) ready e = refusal_is_written r e
status_is_written words (replies.Known table) ready e = cc
status_is_written words (replies.Clash n cell) ready e = cc
status_is_written words (replies.Text text status) ready e = subst IsResult e ready
status_is_written words (replies.Ranking ranked) ready e = cc
status_is_written words (replies.Load loaded) ready e = cc
status_is_written words (replies.Certificate n log) ready e = subst IsResult e (of_end log.clash)
status_is_written words (replies.Checked n facts clash) ready e = subst IsResult e (of_end clash)
