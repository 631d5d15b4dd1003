-- Tests that give the same literals are one.
use Rattle.std.proofs.Common.{◌≡◌, Bool, true, false, refl, sym}
use mathlib.Core.Path.{fun_ext}
use Rattle.sr_model.specs.declared.cells.Lit.{Lit}
use Rattle.sr_model.specs.Closure.{LitSet, SameLits, passing}

pub same_test : (known : LitSet) (test last : Lit → Bool) → SameLits (passing test) known → SameLits (passing last) known → test ≡ last
same_test known test last a b = fun_ext (λ l. same_bit (test l) (last l) (λ h. b.1 l (a.0 l h)) (λ h. a.1 l (b.0 l h)))
  where
    same_bit : (x y : Bool) → (x ≡ true → y ≡ true) → (y ≡ true → x ≡ true) → x ≡ y
    same_bit true y first second = sym (first refl)
    same_bit false true first second = second refl
    same_bit false false first second = refl
