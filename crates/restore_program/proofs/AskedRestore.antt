-- What the words of a `restore` ask for, where each word is seen by its text.
use Rattle.std.proofs.Common.{◌≡◌, ◌<◌, ℕ, Bool, List, length, get_or, map, subst, arith}
use Rattle.std.proofs.lemmas.List.{length-map}
use Rattle.restore_program.specs.Words.{Restores}
use Rattle.restore_program.proofs.AskedSimulation.{text_here}

module _ {A : Type 0} (text : A → List ℕ) (xs : List A) (netlist dump : List ℕ) (all : Bool) (is : Restores (map text xs) netlist dump all) where
  pub restore_files : 2 < length xs
  restore_files = subst (λ n. 2 < n) (length-map xs text) is.shaped.files

  -- the files by their words
  pub restores_seen : (x y : A) (seen other : List ℕ) → x ≡ get_or xs 1 x → y ≡ get_or xs 2 y → seen ≡ text x → other ≡ text y → Restores (map text xs) seen other all
  restores_seen x y seen other at_first at_second is_seen is_other = record {
    shaped = is.shaped;
    is_netlist = text_here text xs 1 x seen (omega (arith, restore_files)) at_first is_seen;
    is_dump = text_here text xs 2 y other restore_files at_second is_other;
    has_all = is.has_all;
  }
