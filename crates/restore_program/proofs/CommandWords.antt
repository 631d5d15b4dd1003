-- What the words of a `print`, a `certify` and a `check` ask for.
use Rattle.std.proofs.Common.{◌≡◌, ◌<◌, List, ℕ, [], length, get_or, map, subst, arith}
use Rattle.std.proofs.lemmas.List.{length-map}
use Rattle.std.proofs.lemmas.Option.{slice_get-get_or}
use Rattle.restore_program.specs.Words.{Certifies, Checks, IsCertify, IsCheck, IsPrint, IsShaped, Prints, certify_rule, check_rule, print_rule}
use Rattle.restore_program.proofs.AskedSimulation.{text_here}

pub shape_print : (words : List (List ℕ)) → IsShaped print_rule words → IsPrint words
shape_print words shaped = (get_or words 1 [], record { shaped = shaped; is_netlist = slice_get-get_or words 1 [] shaped.files })

pub shape_certify : (words : List (List ℕ)) → IsShaped certify_rule words → IsCertify words
shape_certify words shaped =
    let there : 2 < length words = shaped.files in
    let before : 1 < length words = omega (arith, there) in
    (get_or words 1 [], get_or words 2 [], record { shaped = shaped; is_netlist = slice_get-get_or words 1 [] before; is_dump = slice_get-get_or words 2 [] there })

pub shape_check : (words : List (List ℕ)) → IsShaped check_rule words → IsCheck words
shape_check words shaped =
    let there : 3 < length words = shaped.files in
    let second : 2 < length words = omega (arith, there) in
    let first : 1 < length words = omega (arith, there) in (
      get_or words 1 [],
      get_or words 2 [],
      get_or words 3 [],
      record { shaped = shaped; is_netlist = slice_get-get_or words 1 [] first; is_dump = slice_get-get_or words 2 [] second; is_certificate = slice_get-get_or words 3 [] there },
    )

-- where each word is seen by its text
module _ {A : Type 0} (text : A → List ℕ) (xs : List A) (is : IsPrint (map text xs)) where
  pub print_file : 1 < length xs
  print_file = subst (λ n. 1 < n) (length-map xs text) is.1.shaped.files

  pub asked_print : (x : A) (seen : List ℕ) → x ≡ get_or xs 1 x → seen ≡ text x → Prints (map text xs) seen
  asked_print x seen at e = record { shaped = is.1.shaped; is_netlist = text_here text xs 1 x seen print_file at e }

module _ {A : Type 0} (text : A → List ℕ) (xs : List A) (is : IsCertify (map text xs)) where
  pub certify_files : 2 < length xs
  certify_files = subst (λ n. 2 < n) (length-map xs text) is.2.shaped.files

  pub asked_certify : (x y : A) (seen other : List ℕ) → x ≡ get_or xs 1 x → y ≡ get_or xs 2 y → seen ≡ text x → other ≡ text y → Certifies (map text xs) seen other
  asked_certify x y seen other at_first at_second is_seen is_other = record {
    shaped = is.2.shaped;
    is_netlist = text_here text xs 1 x seen (omega (arith, certify_files)) at_first is_seen;
    is_dump = text_here text xs 2 y other certify_files at_second is_other;
  }

module _ {A : Type 0} (text : A → List ℕ) (xs : List A) (is : IsCheck (map text xs)) where
  pub check_files : 3 < length xs
  check_files = subst (λ n. 3 < n) (length-map xs text) is.3.shaped.files

  pub asked_check : (x y z : A) (seen other third : List ℕ) → x ≡ get_or xs 1 x → y ≡ get_or xs 2 y → z ≡ get_or xs 3 z → seen ≡ text x → other ≡ text y → third ≡ text z → Checks (map text xs) seen other third
  asked_check x y z seen other third at_first at_second at_third is_seen is_other is_third = record {
    shaped = is.3.shaped;
    is_netlist = text_here text xs 1 x seen (omega (arith, check_files)) at_first is_seen;
    is_dump = text_here text xs 2 y other (omega (arith, check_files)) at_second is_other;
    is_certificate = text_here text xs 3 z third check_files at_third is_third;
  }
