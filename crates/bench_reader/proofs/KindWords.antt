-- The words of the kinds, and how many pins they may have.
use Rattle.std.proofs.Common.{◌≡◌, ◌≢◌, ℕ, true, List, [], length, Some, ap, refl, arith}
use Rattle.sr_model.specs.declared.gates.Kind.{Kind}
use Rattle.sr_model.specs.declared.gates.Kind.TheVariants.{And, Nand, Or, Nor, Xor, Xnor, Not, Buf, Dff}
use Rattle.sr_model.specs.Gate.{IsPinCount}
use Rattle.sr_model.proofs.lemmas.Laws.{some_pins}
use Rattle.sr_text.specs.Name.{is_name}
use Rattle.bench_reader.specs.Kinds.{kind_named, kind_text}

-- the printed word of a kind is a name, and names the kind
pub printed_kind : (kind : Kind) → (is_name (kind_text kind) ≡ true) × (kind_named (kind_text kind) ≡ Some kind)
printed_kind And = (refl, refl)
printed_kind Nand = (refl, refl)
printed_kind Or = (refl, refl)
printed_kind Nor = (refl, refl)
printed_kind Xor = (refl, refl)
printed_kind Xnor = (refl, refl)
printed_kind Not = (refl, refl)
printed_kind Buf = (refl, refl)
printed_kind Dff = (refl, refl)

-- a kind has some pins
pub has_pins : (kind : Kind) (pins : List (List ℕ)) → IsPinCount kind (length pins) → pins ≢ []
has_pins kind pins count none = let some = some_pins kind (length pins) count in absurd (omega (arith, some.0, ap length none))
