-- The keys of `load` are given.
use Rattle.std.proofs.Common.{◌≡◌, ℕ, List, refl, sym, subst, lit<}
use Rattle.std.specs.Prelude.{Any}
use Rattle.restore_program.specs.Words.{IsFor, IsShaped, later, load_rule, number_rule, signals_rule}

pub number_given : (words rest : List (List ℕ)) → IsShaped load_rule words → rest ≡ later load_rule words → Any (IsFor number_rule) rest
number_given words rest shaped is = subst (λ ws. Any (IsFor number_rule) ws) (sym is) ((shaped.given 0 number_rule (lit< tt)).given refl)

pub signals_given : (words rest : List (List ℕ)) → IsShaped load_rule words → rest ≡ later load_rule words → Any (IsFor signals_rule) rest
signals_given words rest shaped is = subst (λ ws. Any (IsFor signals_rule) ws) (sym is) ((shaped.given 1 signals_rule (lit< tt)).given refl)
