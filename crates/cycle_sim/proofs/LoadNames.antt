-- The names of a load netlist.
use Rattle.std.proofs.Common.{ℕ, suc, eqb, not, ◌≡◌, ◌<◌, true, List, [], ◌∷◌, length, drop, ap, refl, arith}
use Rattle.std.specs.Int.{IsInRange}
use Rattle.std.specs.Fmt.{decimal}
use Rattle.std.specs.List.{list_all}
use Rattle.std.specs.Str.Parse.{AllDigits}
use Rattle.std.proofs.lemmas.Bool.{and_from}
use Rattle.std.proofs.lemmas.Bool.Decides.{nat_tests}
use Rattle.std.proofs.lemmas.Fmt.{decimal_injective, decimal_is_IsNumeral, length-decimal-le}
use Rattle.std.proofs.lemmas.Str.Parse.{digit_from_value}
use Rattle.sr_text.specs.Name.{is_name_byte}
use Rattle.netlist.specs.Numbering.{IsSignalName}
use Rattle.cycle_sim.specs.Load.{load_name}

-- signals with one name are one
pub load_name-same : (i j : ℕ) → i < 65536 → j < 65536 → load_name i ≡ load_name j → i ≡ j
load_name-same i j small below e = decimal_injective i j (omega arith) (omega arith) (ap (drop 1) e)

digit-passes : (c : ℕ) → IsInRange 48 57 c → is_name_byte c ≡ true
digit-passes c h = grind (arith, nat_tests)

digits-pass : (ds : List ℕ) → AllDigits 10 ds → list_all is_name_byte ds ≡ true
digits-pass [] all = refl
digits-pass (c ∷ cs) all = and_from (is_name_byte c) (list_all is_name_byte cs) (digit-passes c (digit_from_value c all.0)) (digits-pass cs all.1)

is_some : (n : ℕ) → not (eqb (suc n) 0) ≡ true
is_some n = grind (arith, nat_tests)

pub load_name-stands : (i : ℕ) → i < 65536 → IsSignalName (load_name i)
load_name-stands i small = (
  and_from (not (eqb (length (load_name i)) 0)) (list_all is_name_byte (decimal i)) (is_some (length (decimal i))) (digits-pass (decimal i) (decimal_is_IsNumeral i (omega arith)).0.1),
  omega (arith, length-decimal-le 5 i (omega arith) (omega arith) (omega arith)),
)
