use Rattle.std.proofs.Common.{List, sym, subst, ℕ}
use Rattle.sr_model.specs.Declaration.{Declaration}
use Rattle.netlist.specs.Circuit.{IsNetlist, circuit_of}
use Rattle.sr_text.proofs.lemmas.PrintedLines.{from_number}
use Rattle.bench_reader.specs.Grammar.{Spells}
use Rattle.bench_reader.specs.PrintLaws.{SameNetlist}
use Rattle.bench_reader.proofs.PrintedStatements.{spelled, numbered-without, stated_by, text_stated}
use Rattle.bench_reader.proofs.ReadBack.{accepted, same_netlist, stated_are}
use Rattle.bench_reader.proofs.laws.print_laws.Goals as goal

pub returns : goal.returns
returns _ c is =
    let ds : List Declaration = stated_by c in
    record {
      stated = from_number 1 ds;
      spells = subst (λ (text : List ℕ). Spells text (from_number 1 ds)) (sym (text_stated c)) (spelled ds (stated_are c is));
      netlist = subst IsNetlist (sym (numbered-without 1 ds)) (accepted c is);
      same = subst (λ (read : List Declaration). SameNetlist c (circuit_of read)) (sym (numbered-without 1 ds)) (same_netlist c is);
    }
