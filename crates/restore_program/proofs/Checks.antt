-- The contradiction of a certificate that is accepted.
use Rattle.std.proofs.Common.{◌<◌, ℕ, List, length, Option, Some, None, subst}
use Rattle.std.proofs.lemmas.Option.{slice_get_within}
use Rattle.sr_model.specs.declared.cells.Cell.{Cell}
use Rattle.netlist.specs.Circuit.{Circuit, IsCircuit}
use Rattle.dump_reader.specs.Recording.{Recording}
use Rattle.certificates.specs.declared.claim.Fact.{Fact}
use Rattle.certificates.specs.Forms.{LineForm, FactLine, EndLine, ContradictionLine}
use Rattle.certificates.specs.Grammar.{Means}
use Rattle.certificates.specs.Logs.{IsClashIn}
use Rattle.certificates.specs.Validity.{IsValid, last_claim}

named_within : (c : Circuit) (cycles : ℕ) (cell : Cell) (form : LineForm) → IsCircuit c → Means c cycles form (last_claim (Some cell)) → cell.sig.0 < length c.drivers
named_within c cycles cell (ContradictionLine name cycle) circuit is = subst (λ n. cell.sig.0 < n) circuit.one_name_each (slice_get_within c.names cell.sig.0 name is.named)
named_within c cycles cell (FactLine name cycle bit target at) circuit is = absurd is
named_within c cycles cell EndLine circuit is = absurd is

-- its signal is there
pub clash_is_in : (c : Circuit) (d : Recording) (text : List ℕ) (facts : List Fact) (clash : Option Cell) → IsCircuit c → IsValid c d text facts clash → IsClashIn (length c.drivers) clash
clash_is_in c d text facts None circuit valid = tt
clash_is_in c d text facts (Some cell) circuit valid = let stated = valid.complete.last_stated in named_within c d.cycles cell stated.form circuit stated.means
