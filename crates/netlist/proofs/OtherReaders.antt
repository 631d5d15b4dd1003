-- The entries of readers other than the signal itself.
use Rattle.std.proofs.Common.{ℕ, ◌≡◌, Bool, true, false, not, List, [], ◌∷◌, map, eqb, cond, sym, ap, ◌∙◌, refl, inl, inr}
use Rattle.std.proofs.lemmas.Bool.{cases_Bool, cond-true, cond-false, eqb-true}
use Rattle.std.specs.List.{filter}
use Rattle.sr_model.specs.declared.cells.Sig.{Sig}
use Rattle.netlist.specs.declared.lists.Entry.{Entry}
use Rattle.netlist.specs.Entries.{items_in}

abbrev pub is_other : Entry → Bool
is_other r = not (eqb r.item.0 r.list.0)

abbrev pub differs : ℕ → Sig → Bool
differs s t = not (eqb t.0 s)

items_in-cons : (r : Entry) (entries : List Entry) (s : ℕ) (is : Bool) → eqb r.list.0 s ≡ is → items_in (r ∷ entries) s ≡ cond is (r.item ∷ items_in entries s) (items_in entries s)
items_in-cons r entries s true e = ap (map (λ (x : Entry). x.item)) (cond-true (eqb r.list.0 s) (r ∷ filter (λ (x : Entry). eqb x.list.0 s) entries) (filter (λ (x : Entry). eqb x.list.0 s) entries) e)
items_in-cons r entries s false e = ap (map (λ (x : Entry). x.item)) (cond-false (eqb r.list.0 s) (r ∷ filter (λ (x : Entry). eqb x.list.0 s) entries) (filter (λ (x : Entry). eqb x.list.0 s) entries) e)

-- each list keeps the items that are others
pub items_in-others : (entries : List Entry) (s : ℕ) → items_in (filter (λ r. not (eqb r.item.0 r.list.0)) entries) s ≡ filter (λ t. not (eqb t.0 s)) (items_in entries s)
items_in-others [] s = refl
items_in-others (r ∷ entries) s =
    elim (cases_Bool (eqb r.list.0 s)) [
      | inl here ↦
          let same : differs s r.item ≡ is_other r = ap (λ n. not (eqb r.item.0 n)) (sym (eqb-true r.list.0 s here)) in
          elim (cases_Bool (is_other r)) [
            | inl other ↦
                ap (λ rs. items_in rs s) (cond-true (is_other r) (r ∷ filter is_other entries) (filter is_other entries) other)
                ∙ items_in-cons r (filter is_other entries) s true here ∙ ap (λ xs. r.item ∷ xs) (items_in-others entries s)
                ∙ sym (cond-true (differs s r.item) (r.item ∷ filter (differs s) (items_in entries s)) (filter (differs s) (items_in entries s)) (same ∙ other))
                ∙ ap (filter (differs s)) (sym (items_in-cons r entries s true here))
            | inr own ↦
                ap (λ rs. items_in rs s) (cond-false (is_other r) (r ∷ filter is_other entries) (filter is_other entries) own)
                ∙ items_in-others entries s
                ∙ sym (cond-false (differs s r.item) (r.item ∷ filter (differs s) (items_in entries s)) (filter (differs s) (items_in entries s)) (same ∙ own))
                ∙ ap (filter (differs s)) (sym (items_in-cons r entries s true here))
          ]
      | inr there ↦
          let rest : items_in (r ∷ filter is_other entries) s ≡ items_in (filter is_other entries) s = items_in-cons r (filter is_other entries) s false there in
          let kept : items_in (filter is_other (r ∷ entries)) s ≡ items_in (filter is_other entries) s =
          elim (cases_Bool (is_other r)) [
            | inl other ↦ ap (λ rs. items_in rs s) (cond-true (is_other r) (r ∷ filter is_other entries) (filter is_other entries) other) ∙ rest
            | inr own ↦ ap (λ rs. items_in rs s) (cond-false (is_other r) (r ∷ filter is_other entries) (filter is_other entries) own)
          ] in
          kept ∙ items_in-others entries s ∙ ap (filter (differs s)) (sym (items_in-cons r entries s false there))
    ]
