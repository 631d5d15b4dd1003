-- Writing one part of a text after another.
use Rattle.std.proofs.Common.{◌≡◌, ℕ, ◌+◌, ◌<◌, List, [], ◌∷◌, ◌++◌, length, take, drop, get_or, suc, Option, Some, None, arith, sym, refl, ap, ◌∙◌, append_assoc, length-append}
use Rattle.std.specs.List.{flat_map}
use Rattle.std.proofs.Math.Seq.{drop-cons}
use Rattle.std.proofs.lemmas.List.{take-append-drop, take-append-le, take_more, append-nil}
use Rattle.std.proofs.lemmas.List.Concat.{flat_map-append}
use Rattle.std.specs.Io.KnownBytes.{append_known}
use Rattle.sr_outside.specs.Told.{AppendsPart}

pub append_known-append : (known : Option (List ℕ)) (a b : List ℕ) → append_known (append_known known a) b ≡ append_known known (a ++ b)
append_known-append None a b = refl
append_known-append (Some bytes) a b = ap Some (append_assoc bytes a b)

pub append_known-nil : (known : Option (List ℕ)) → append_known known [] ≡ known
append_known-nil None = refl
append_known-nil (Some bytes) = ap Some (append-nil bytes)

-- a front of a text behind another
take-behind : (a b : List ℕ) (n : ℕ) → take (length a + n) (a ++ b) ≡ a ++ take n b
take-behind [] b n = ap (λ k. take k b) (omega arith)
take-behind (x ∷ a) b n = let at : length (x ∷ a) + n ≡ suc (length a + n) = omega arith in ap (λ k. take k (x ∷ a ++ b)) at ∙ ap (λ xs. x ∷ xs) (take-behind a b n)

-- a part of a text is a part of that text with more behind it
pub part_before : (old new : Option (List ℕ)) (a b : List ℕ) → AppendsPart old new a → AppendsPart old new (a ++ b)
part_before old new a b part =
    let proper : part.count < length a = part.proper in
    record {
      count = part.count;
      proper = omega (arith, proper, length-append a b);
      appended = part.appended ∙ ap (append_known old) (sym (take-append-le part.count a b (omega (arith, proper))));
    }

-- a part of a text, behind another, is a part of both
pub part_behind : (old mid new : Option (List ℕ)) (a b : List ℕ) → mid ≡ append_known old a → AppendsPart mid new b → AppendsPart old new (a ++ b)
part_behind old mid new a b before part =
    let proper : part.count < length b = part.proper in
    record {
      count = length a + part.count;
      proper = omega (arith, proper, length-append a b);
      appended = part.appended ∙ ap (λ known. append_known known (take part.count b)) before ∙ append_known-append old a (take part.count b)
          ∙ ap (append_known old) (sym (take-behind a b part.count));
    }

-- the texts before one, that text, and those after it
pub texts_at : {A : Type 0} (f : A → List ℕ) (xs : List A) (i : ℕ) (d : A) → i < length xs → flat_map f xs ≡ flat_map f (take i xs) ++ (f (get_or xs i d) ++ flat_map f (drop (suc i) xs))
texts_at f xs i d h =
    let whole : xs ≡ take i xs ++ get_or xs i d ∷ drop (suc i) xs = sym (take-append-drop i xs) ∙ ap (λ ys. take i xs ++ ys) (drop-cons xs i d h) in
    ap (flat_map f) whole ∙ flat_map-append f (take i xs) (get_or xs i d ∷ drop (suc i) xs)

-- the texts before one, and that text
pub texts_more : {A : Type 0} (f : A → List ℕ) (xs : List A) (i : ℕ) (d : A) → i < length xs → flat_map f (take (i + 1) xs) ≡ flat_map f (take i xs) ++ f (get_or xs i d)
texts_more f xs i d h = ap (flat_map f) (take_more xs i d h) ∙ flat_map-append f (take i xs) (get_or xs i d ∷ []) ∙ ap (λ ys. flat_map f (take i xs) ++ ys) (append-nil (f (get_or xs i d)))

-- a text, those before one behind it, and those from there on
pub texts_behind : {A : Type 0} (f : A → List ℕ) (head : List ℕ) (xs : List A) (i : ℕ) → head ++ flat_map f xs ≡ (head ++ flat_map f (take i xs)) ++ flat_map f (drop i xs)
texts_behind f head xs i =
    ap (λ ys. head ++ ys) (ap (flat_map f) (sym (take-append-drop i xs)) ∙ flat_map-append f (take i xs) (drop i xs)) ∙ sym (append_assoc head (flat_map f (take i xs)) (flat_map f (drop i xs)))
