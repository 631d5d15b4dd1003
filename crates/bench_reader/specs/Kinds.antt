-- The words of the kinds.
use Rattle.std.specs.Prelude.{ℕ, List, [], ◌∷◌, codes, Option, Some, if◌then◌else◌}
use Rattle.std.specs.List.{find}
use Rattle.std.specs.Str.{str_eq_ignore_ascii_case}
use Rattle.sr_model.specs.declared.gates.Kind.{Kind}
use Rattle.sr_model.specs.declared.gates.Kind.TheVariants.{And, Nand, Or, Nor, Xor, Xnor, Not, Buf, Dff}

abbrev pub kinds : List Kind
kinds = And ∷ Nand ∷ Or ∷ Nor ∷ Xor ∷ Xnor ∷ Not ∷ Buf ∷ Dff ∷ []

-- the word of a kind, as it is printed
abbrev pub kind_text : Kind → List ℕ
kind_text And = codes "AND"
kind_text Nand = codes "NAND"
kind_text Or = codes "OR"
kind_text Nor = codes "NOR"
kind_text Xor = codes "XOR"
kind_text Xnor = codes "XNOR"
kind_text Not = codes "NOT"
kind_text Buf = codes "BUFF"
kind_text Dff = codes "DFF"

-- the kind that a word names, in any case: BUF is another word of BUFF
abbrev pub kind_named : List ℕ → Option Kind
kind_named word = if str_eq_ignore_ascii_case word (codes "BUF") then Some Buf else find (λ kind. str_eq_ignore_ascii_case word (kind_text kind)) kinds
