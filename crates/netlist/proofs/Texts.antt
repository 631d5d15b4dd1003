-- Names in lists that know their room.
use Rattle.std.proofs.Common.{◌≡◌, ℕ, ◌+◌, ◌<◌, List, [], ◌∷◌, ◌++◌, length, get_or, take, map, sym, ap, subst, ◌∙◌, append_assoc, arith}
use Rattle.std.specs.List.{All}
use Rattle.std.proofs.lemmas.List.{length-map, get_or-map, take_more, map-append}
use Rattle.sr_model.specs.Room.{WithRoom, texts}
use Rattle.sr_model.specs.declared.cells.Sig.{Sig}

-- the next name of a list
pub text_more : (names : WithRoom (WithRoom ℕ)) (i : ℕ) (m : WithRoom ℕ) → i < length names.items → m ≡ get_or names.items i m → take (i + 1) (texts names) ≡ take i (texts names) ++ m.items ∷ []
text_more names i m lt is =
    take_more (texts names) i m.items (omega (arith, lt, length-map names.items (λ (x : WithRoom ℕ). x.items)))
    ∙ ap (λ text. take i (texts names) ++ text ∷ []) (get_or-map (λ (x : WithRoom ℕ). x.items) names.items i m m.items lt ∙ ap (λ (x : WithRoom ℕ). x.items) (sym is))

pub text_holds : (P : List ℕ → Type 0) (names : WithRoom (WithRoom ℕ)) (i : ℕ) (m : WithRoom ℕ) → i < length names.items → m ≡ get_or names.items i m → All P (texts names) → P m.items
text_holds P names i m lt is all =
    subst P (get_or-map (λ (x : WithRoom ℕ). x.items) names.items i m m.items lt ∙ ap (λ (x : WithRoom ℕ). x.items) (sym is))
    (all i m.items (omega (arith, lt, length-map names.items (λ (x : WithRoom ℕ). x.items))))

-- one more signal behind those of a list
pub sigs_more : (f : List ℕ → Sig) (before now after : List Sig) (ns : List (List ℕ)) (n : List ℕ) (sig : Sig) → now ≡ before ++ map f ns → sig ≡ f n → after ≡ now ++ sig ∷ [] → after ≡ before ++ map f (ns ++ n ∷ [])
sigs_more f before now after ns n sig so_far is more =
    more ∙ ap (λ (x : Sig). now ++ x ∷ []) is ∙ ap (λ (xs : List Sig). xs ++ f n ∷ []) so_far ∙ append_assoc before (map f ns) (f n ∷ []) ∙ ap (λ (xs : List Sig). before ++ xs) (sym (map-append f ns (n ∷ [])))
