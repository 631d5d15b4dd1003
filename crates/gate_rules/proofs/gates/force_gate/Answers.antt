use Rattle.std.proofs.Common.{◌≡◌, ◌&&◌, ℕ, Some, List, length, bit_and, sym, ap, ◌∙◌, subst}
use Rattle.sr_model.specs.declared.cells.Sig.{Sig}
use Rattle.sr_model.specs.declared.gates.Family.TheVariants.{AndLike, Parity}
use Rattle.sr_model.specs.Netlist.{Driver}
use Rattle.netlist.specs.Circuit.{Circuit}
use Rattle.netlist.specs.Wiring.{driver_at, kind_of, pins_of, pin_parities}
use Rattle.unroll.specs.declared.problem.Block.{Block}
use Rattle.unroll.specs.declared.words.PinWord.{PinWord}
use Rattle.unroll.specs.Problem.{Unrolling, block_at}
use Rattle.unroll.specs.Bits.{is_set}
use Rattle.unroll.specs.Tasks.{task_at}
use Rattle.unroll.proofs.lemmas.Words.{is_set_and}
use Rattle.gate_rules.specs.Forced.{IsForcedExactlyIn}
use Rattle.gate_rules.proofs.GateLanes.{kind-driver, count-odd, own-block}
use Rattle.gate_rules.proofs.GateForced.{family-rule, place-within, place-at, and_like-task, parity-task}
use Rattle.gate_rules.proofs.gates.force_gate.Goals as goal

pub place_of-place-requires : goal.place_of-place-requires
place_of-place-requires c =
    own-block c.args.p.now c.args.at.sig c.args.at.chunk c.requires.inside.1 c.requires.inside.0 c.requires.gate c.as_slice.result.now c.block.result
    (c.as_slice.ensures ∙ c.requires.blocks) c.block.ensures.block

pub force_parity-requires-clause-odd : goal.force_parity-requires-clause-odd
force_parity-requires-clause-odd c =
    ap length c.pin_parities-odd.ensures ∙ ap (λ (n : Circuit). length (pin_parities n.drivers c.args.at.sig)) c.net-net.ensures.net
    ∙ count-odd c.args.p.now c.args.at.sig c.args.at.chunk c.requires.gate c.args.blocks.now.items c.requires.blocks ∙ sym (ap length c.as_slice-in-Parity.ensures ∙ c.requires.view)

pub returns-in-AndLike-clause-forced : goal.returns-in-AndLike-clause-forced
returns-in-AndLike-clause-forced c =
    let u : Unrolling = c.args.p.now in
    let target : Sig = c.args.at.sig in
    let blocks : List Block = c.args.blocks.now.items in
    let place : ℕ = c.place_of-place.result in
    let view : List PinWord = c.as_slice-in-AndLike.result.now in
    let driver : Driver = driver_at c.args.p.now.circuit.drivers c.args.at.sig.0 in
    let circuit : c.net-net.result.now ≡ c.args.p.now.circuit = c.net-net.ensures.net in
    let kind : kind_of (driver_at c.args.p.now.circuit.drivers c.args.at.sig.0) ≡ Some c.gate_kind.result =
    subst (λ (n : Circuit). kind_of (driver_at n.drivers c.args.at.sig.0) ≡ Some c.gate_kind.result) circuit c.gate_kind.ensures in
    let size : length c.as_slice-in-AndLike.result.now ≡ length c.args.blocks.now.items = ap length c.as_slice-in-AndLike.ensures ∙ c.requires.view in
    subst (λ (words : List PinWord). IsForcedExactlyIn u (task_at u target c.args.at.chunk) c.args.mask blocks words c.force_and_like.new.out.items) c.as_slice-in-AndLike.ensures
    (and_like-task u c.net-net.ensures.problem target c.args.at.chunk c.requires.inside.1 c.gate_kind.result (pins_of driver) (kind-driver driver c.gate_kind.result kind) c.requires.gate
    blocks c.requires.blocks place (place-within c.as_slice.result.now blocks place c.as_slice.ensures c.place_of-place.ensures.within)
    (place-at c.as_slice.result.now blocks place c.block.result (block_at u target c.args.at.chunk) c.as_slice.ensures c.block.ensures.block c.place_of-place.ensures.at)
    c.args.mask view c.force_and_like.new.out.items size (bit_and c.valid_bits.result c.args.mask)
    (λ k h. is_set_and c.valid_bits.result c.args.mask k ∙ ap (λ b. b && is_set c.args.mask k) (c.valid_bits.ensures k h)) c.force_and_like.ensures.invalid
    c.in-AndLike.pins c.in-AndLike.target (family-rule c.gate_kind.result (AndLike c.in-AndLike.pins c.in-AndLike.target) (sym c.in-AndLike.is ∙ c.family.ensures)) c.force_and_like.ensures.forced)

pub returns-in-Parity-clause-forced : goal.returns-in-Parity-clause-forced
returns-in-Parity-clause-forced c =
    let u : Unrolling = c.args.p.now in
    let target : Sig = c.args.at.sig in
    let blocks : List Block = c.args.blocks.now.items in
    let place : ℕ = c.place_of-place.result in
    let view : List PinWord = c.as_slice-in-Parity.result.now in
    let driver : Driver = driver_at c.args.p.now.circuit.drivers c.args.at.sig.0 in
    let circuit : c.net-net.result.now ≡ c.args.p.now.circuit = c.net-net.ensures.net in
    let kind : kind_of (driver_at c.args.p.now.circuit.drivers c.args.at.sig.0) ≡ Some c.gate_kind.result =
    subst (λ (n : Circuit). kind_of (driver_at n.drivers c.args.at.sig.0) ≡ Some c.gate_kind.result) circuit c.gate_kind.ensures in
    let size : length c.as_slice-in-Parity.result.now ≡ length c.args.blocks.now.items = ap length c.as_slice-in-Parity.ensures ∙ c.requires.view in
    subst (λ (words : List PinWord). IsForcedExactlyIn u (task_at u target c.args.at.chunk) c.args.mask blocks words c.force_parity.new.out.items) c.as_slice-in-Parity.ensures
    (parity-task u c.net-net.ensures.problem target c.args.at.chunk c.requires.inside.1 c.gate_kind.result (pins_of driver) (kind-driver driver c.gate_kind.result kind) c.requires.gate
    blocks c.requires.blocks place (place-within c.as_slice.result.now blocks place c.as_slice.ensures c.place_of-place.ensures.within)
    (place-at c.as_slice.result.now blocks place c.block.result (block_at u target c.args.at.chunk) c.as_slice.ensures c.block.ensures.block c.place_of-place.ensures.at)
    c.args.mask view c.force_parity.new.out.items size (bit_and c.valid_bits.result c.args.mask)
    (λ k h. is_set_and c.valid_bits.result c.args.mask k ∙ ap (λ b. b && is_set c.args.mask k) (c.valid_bits.ensures k h)) c.force_parity.ensures.invalid
    c.in-Parity.inverted c.pin_parities-odd.result.now (c.pin_parities-odd.ensures ∙ ap (λ (n : Circuit). pin_parities n.drivers target) circuit) (family-rule c.gate_kind.result (Parity c.in-Parity.inverted) (sym c.in-Parity.is ∙ c.family.ensures)) c.force_parity.ensures.forced)
