-- Signals that are listed once, with a mark for each.
use Rattle.std.proofs.Common.{◌≡◌, ℕ, Bool, true, false, List, [], ◌∷◌, ◌++◌, map, set, get_or, sym, ap, subst, ◌∙◌}
use Rattle.std.specs.List.{Contains}
use Rattle.std.proofs.lemmas.List.{map-append}
use Rattle.sr_model.specs.declared.cells.Sig.{Sig}
use Rattle.sr_model.proofs.lemmas.Members.{map-agree}
use Rattle.netlist.specs.Numbering.{once, place_in}
use Rattle.netlist.proofs.Once.{has, has-push_same, has-push_other, has-push_present, once-push_present, once-push_absent, IsApart}
use Rattle.netlist.proofs.Places.{set-map_place, get_or-map_place}

-- the names of the list have been listed, each once, and those that have are marked
pub record IsListed (sig : List ℕ → Sig) (names front : List (List ℕ)) (listed : List Sig) (marks : List Bool) : Type 0 where
  pub listed_once : listed ≡ map sig (once front)
  pub marked : marks ≡ map (has front) names

module _ (sig : List ℕ → Sig) (names front more : List (List ℕ)) (listed : List Sig) (marks : List Bool) (before : IsListed sig names front listed marks) where
  pub listed_same : more ≡ front → IsListed sig names more listed marks
  listed_same e = subst (λ (ns : List (List ℕ)). IsListed sig names ns listed marks) (sym e) before

  module _ (t : List ℕ) (mark : Bool) (next : more ≡ front ++ t ∷ []) (member : Contains names t) (read : mark ≡ get_or marks (place_in names t) mark) where
    mark_is : mark ≡ has front t
    mark_is = read ∙ ap (λ bs. get_or bs (place_in names t) mark) before.marked ∙ get_or-map_place (has front) names t mark member

    pub listed_again : mark ≡ true → IsListed sig names more listed marks
    listed_again e =
        let here : has front t ≡ true = sym mark_is ∙ e in
        let one_more : IsListed sig names (front ++ t ∷ []) listed marks = record {
          listed_once = before.listed_once ∙ ap (map sig) (sym (once-push_present front t here));
          marked = before.marked ∙ map-agree (has front) (has (front ++ t ∷ [])) names (λ n _. sym (has-push_present front t n here));
        } in
        subst (λ (ns : List (List ℕ)). IsListed sig names ns listed marks) (sym next) one_more

    pub listed_more : IsApart names → mark ≡ false → (after : List Sig) (s : Sig) → s ≡ sig t → after ≡ listed ++ s ∷ [] → IsListed sig names more after (set marks (place_in names t) true)
    listed_more apart e after s is added =
        let fails : has front t ≡ false = sym mark_is ∙ e in
        let one_more : IsListed sig names (front ++ t ∷ []) after (set marks (place_in names t) true) = record {
          listed_once =
              added ∙ ap (λ x. listed ++ x ∷ []) is ∙ ap (λ xs. xs ++ sig t ∷ []) before.listed_once ∙ sym (map-append sig (once front) (t ∷ [])) ∙ ap (map sig) (sym (once-push_absent front t fails));
          marked =
              ap (λ bs. set bs (place_in names t) true) before.marked ∙ ap (λ b. set (map (has front) names) (place_in names t) b) (sym (has-push_same front t))
              ∙ sym (set-map_place (has front) (has (front ++ t ∷ [])) names t apart member (λ n other. has-push_other front t n other));
        } in
        subst (λ (ns : List (List ℕ)). IsListed sig names ns after (set marks (place_in names t) true)) (sym next) one_more
