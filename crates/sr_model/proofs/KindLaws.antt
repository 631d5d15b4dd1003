-- The laws of the kinds.
use Rattle.std.proofs.Common.{◌≡◌, ◌⊎◌, ℕ, ◌&&◌, ◌||◌, Bool, true, false, not, cond, List, [], ◌∷◌, length, map, arith, inl, inr, refl, ap, ◌∙◌}
use mathlib.Core.Bool.{beq}
use Rattle.std.proofs.lemmas.Bool.{cases_lt, cases_eq}
use Rattle.sr_model.specs.declared.cells.Cell.{Cell}
use Rattle.sr_model.specs.declared.gates.Kind.{Kind}
use Rattle.sr_model.specs.declared.gates.Kind.TheVariants.{And, Nand, Or, Nor, Xor, Xnor, Not, Buf, Dff}
use Rattle.sr_model.specs.AndLike.{all_have}
use Rattle.sr_model.specs.Gate.{all_one, some_one, lone_bit, family_of, IsFewPins, IsPinCount}
use Rattle.sr_model.specs.KindLaws.{IsOfFamily, HasItsFamily, HasSomePins, PinCountIsDecided, FlipFlopIsDff}
use Rattle.sr_model.specs.Netlist.{Valuation}
use Rattle.sr_model.proofs.Parity.{odd_one-is}

beq-true_is : (b : Bool) → beq b true ≡ b
beq-true_is true = refl
beq-true_is false = refl

all_one-is : (w : Valuation) (pins : List Cell) → all_one (map w pins) ≡ all_have true w pins
all_one-is w [] = refl
all_one-is w (c ∷ pins) = let head : beq (w c) true ≡ w c = beq-true_is (w c) in let tail : all_one (map w pins) ≡ all_have true w pins = all_one-is w pins in cc

or_is : (a b : Bool) → (a || not b) ≡ not (beq a false && b)
or_is true b = refl
or_is false b = refl

some_one-is : (w : Valuation) (pins : List Cell) → some_one (map w pins) ≡ not (all_have false w pins)
some_one-is w [] = refl
some_one-is w (c ∷ pins) =
    let tail : some_one (map w pins) ≡ not (all_have false w pins) = some_one-is w pins in
    ap (λ b. w c || b) tail ∙ or_is (w c) (all_have false w pins)

cond_same : (b : Bool) → b ≡ cond b true false
cond_same true = refl
cond_same false = refl

cond_not : (b : Bool) → not b ≡ cond b false true
cond_not true = refl
cond_not false = refl

not_not : (b : Bool) → not (not b) ≡ b
not_not true = refl
not_not false = refl

lone_is : (w : Valuation) (pins : List Cell) → length pins ≡ 1 → lone_bit (map w pins) ≡ all_have true w pins
lone_is w [] one = let wrong : ⊥ = omega arith in absurd wrong
lone_is w (pin ∷ []) one = lone (w pin) where
  lone : (b : Bool) → b ≡ (beq b true && true)
  lone true = refl
  lone false = refl
lone_is w (pin ∷ next ∷ pins) one = let wrong : ⊥ = omega arith in absurd wrong

pub family-stands : (kind : Kind) (target : Cell) (pins : List Cell) → IsPinCount kind (length pins)
    → IsOfFamily (family_of kind) (record { kind = kind; target = target; pins = pins })
family-stands And target pins count = λ w. all_one-is w pins ∙ cond_same (all_have true w pins)
family-stands Nand target pins count = λ w. ap not (all_one-is w pins) ∙ cond_not (all_have true w pins)
family-stands Or target pins count = λ w. some_one-is w pins ∙ cond_not (all_have false w pins)
family-stands Nor target pins count = λ w. ap not (some_one-is w pins) ∙ not_not (all_have false w pins) ∙ cond_same (all_have false w pins)
family-stands Xor target pins count = λ w. odd_one-is w pins
family-stands Xnor target pins count = λ w. ap not (odd_one-is w pins)
family-stands Not target pins count = λ w. ap not (lone_is w pins count) ∙ cond_not (all_have true w pins)
family-stands Buf target pins count = λ w. lone_is w pins count ∙ cond_same (all_have true w pins)
family-stands Dff target pins count = λ w. lone_is w pins count ∙ cond_same (all_have true w pins)

pub has_its_family : HasItsFamily
has_its_family i count = family-stands i.kind i.target i.pins count

pub some_pins : HasSomePins
some_pins And n count = count
some_pins Nand n count = count
some_pins Or n count = count
some_pins Nor n count = count
some_pins Xor n count = count
some_pins Xnor n count = count
some_pins Not n count = (omega (arith, count), omega (arith, count))
some_pins Buf n count = (omega (arith, count), omega (arith, count))
some_pins Dff n count = (omega (arith, count), omega (arith, count))

few_or_not : (n : ℕ) → IsFewPins n ⊎ ¬ IsFewPins n
few_or_not n =
    elim (cases_lt n 1) [
      | inl none ↦ inr (λ few. omega (arith, few.0))
      | inr some ↦ elim (cases_lt 1024 n) [ inl many ↦ inr (λ few. omega (arith, few.1)) | inr few ↦ inl (some, few) ]
    ]

pub pin_count_decided : PinCountIsDecided
pin_count_decided And n = few_or_not n
pin_count_decided Nand n = few_or_not n
pin_count_decided Or n = few_or_not n
pin_count_decided Nor n = few_or_not n
pin_count_decided Xor n = few_or_not n
pin_count_decided Xnor n = few_or_not n
pin_count_decided Not n = cases_eq n 1
pin_count_decided Buf n = cases_eq n 1
pin_count_decided Dff n = cases_eq n 1

pub flip_flop-dff : FlipFlopIsDff
flip_flop-dff Dff e = refl
flip_flop-dff And e = cc
flip_flop-dff Nand e = cc
flip_flop-dff Or e = cc
flip_flop-dff Nor e = cc
flip_flop-dff Xor e = cc
flip_flop-dff Xnor e = cc
flip_flop-dff Not e = cc
flip_flop-dff Buf e = cc
