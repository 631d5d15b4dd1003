-- The signals of a list of names, one after another.
use Rattle.std.proofs.Common.{ℕ, ◌≡◌, ◌<◌, ◌+◌, Bool, true, false, Some, List, [], ◌∷◌, ◌++◌, length, map, get_or, take, drop, set, inl, inr, sym, ap, subst, ◌∙◌}
use Rattle.std.specs.Prelude.{◌↔◌, Contains}
use Rattle.std.specs.List.{slice_get}
use Rattle.std.proofs.lemmas.Bool.{cases_eq}
use Rattle.std.proofs.lemmas.Option.{same_Some, slice_get_within}
use Rattle.std.proofs.lemmas.List.{map-append, take_more, get_or-map, length-map, drop_more, get_or-set_same, get_or-set_other, take-append-drop}
use Rattle.std.proofs.lemmas.List.Elements.{Contains-push_cases, Contains-append_left, Contains-push}
use Rattle.std.proofs.lemmas.List.Quantifiers.{all_pairs_push}
use Rattle.sr_model.specs.declared.cells.Sig.{Sig}
use Rattle.netlist.specs.Circuit.{Circuit, IsCircuit}
use Rattle.restore_program.specs.Tracing.{AreNamed, StandsNext}
use Rattle.restore_program.specs.TraceRefusals.{IsItem, IsTraceRefusal}
use Rattle.restore_program.specs.declared.trace.TraceRefusal.TheVariants as traces

-- a list at one of its places
parted : (names : List (List ℕ)) (n : ℕ) (d : List ℕ) → n < length names → names ≡ take n names ++ get_or names n d ∷ drop (n + 1) names
parted names n d h = sym (take-append-drop n names) ∙ ap (λ xs. take n names ++ xs) (drop_more names n d h)

pub size : (c : Circuit) (names : List (List ℕ)) (sigs : List Sig) → AreNamed c names sigs → length sigs ≡ length names
size c names sigs named = sym (length-map sigs (λ (sig : Sig). slice_get c.names sig.0)) ∙ ap length named.each ∙ length-map names Some

-- the name at a place of a list whose names are those of signals
pub name-at : (c : Circuit) (names : List (List ℕ)) (sigs : List Sig) → AreNamed c names sigs → (k : ℕ) (d : Sig) (e : List ℕ) → k < length sigs → slice_get c.names (get_or sigs k d).0 ≡ Some (get_or names k e)
name-at c names sigs named k d e h =
    sym (get_or-map (λ (sig : Sig). slice_get c.names sig.0) sigs k d (Some e) h) ∙ ap (λ xs. get_or xs k (Some e)) named.each
    ∙ get_or-map Some names k e (Some e) (subst (λ m. k < m) (size c names sigs named) h)

module _ (c : Circuit) (is : IsCircuit c) (names : List (List ℕ)) (n : ℕ) (name : List ℕ) (within : n < length names) (at : name ≡ get_or names n name) (sigs : List Sig) (named : AreNamed c (take n names) sigs) where
  pub next : StandsNext c names name (take n names)
  next = record {
    sigs = sigs;
    named = named;
    after = drop (n + 1) names;
    whole = parted names n name within ∙ ap (λ x. take n names ++ x ∷ drop (n + 1) names) (sym at);
  }

  -- its item
  abbrev item-is : (item : ℕ) → item ≡ length sigs → IsItem c names name item
  item-is item is = record { before = take n names; next = next; place = is ∙ size c (take n names) sigs named }

  -- no signal has it
  pub unknown-first : (item : ℕ) → item ≡ length sigs → (Contains c.names name → ⊥) → IsTraceRefusal c names (traces.Unknown item)
  unknown-first item is none = (name, item-is item is, none)

  module _ (s : Sig) (has : slice_get c.names s.0 ≡ Some name) where
    -- its signal stands among those before it
    pub its-name : Contains sigs s → Contains (take n names) name
    its-name (k, h, e) =
        let there : k < length (take n names) = subst (λ m. k < m) (size c (take n names) sigs named) h in
        (k, there, same_Some _ _ (sym (name-at c (take n names) sigs named k s name h) ∙ ap (λ (x : Sig). slice_get c.names x.0) e ∙ has))

    pub twice-first : (item : ℕ) → item ≡ length sigs → Contains sigs s → IsTraceRefusal c names (traces.Twice item)
    twice-first item is h = (name, item-is item is, its-name h)

    -- or it is one more
    pub named-more : (Contains sigs s → ⊥) → (new : List Sig) → new ≡ sigs ++ s ∷ [] → AreNamed c (take (n + 1) names) new
    named-more apart new new-is =
        subst (AreNamed c (take (n + 1) names)) (sym new-is) (subst (λ xs. AreNamed c xs (sigs ++ s ∷ [])) (sym (take_more names n name within ∙ ap (λ x. take n names ++ x ∷ []) (sym at))) (record {
          each = map-append (λ (sig : Sig). slice_get c.names sig.0) sigs (s ∷ []) ∙ ap (λ xs. xs ++ slice_get c.names s.0 ∷ []) named.each ∙ ap (λ x. map Some (take n names) ++ x ∷ []) has
              ∙ sym (map-append Some (take n names) (name ∷ []));
          once = all_pairs_push (λ a b. a ≡ b → ⊥) (take n names) name named.once (λ k d h e. apart (again k d h e));
        }))
      where
        again : (k : ℕ) (d : List ℕ) → k < length (take n names) → get_or (take n names) k d ≡ name → Contains sigs s
        again k d h e =
            let there : k < length sigs = subst (λ m. k < m) (sym (size c (take n names) sigs named)) h in
            let same : (get_or sigs k s).0 ≡ s.0 = is.distinct (get_or sigs k s).0 s.0 name (name-at c (take n names) sigs named k s d there ∙ ap Some e) has in
            (k, there, ap (λ m. record { 0 = m }) same)

-- a signal stands in a list that is as long as the signals are many
pub has-place : (c : Circuit) → IsCircuit c → (s : Sig) (name : List ℕ) → slice_get c.names s.0 ≡ Some name → (n : ℕ) → n ≡ length c.drivers → s.0 < n
has-place c is s name has n same = subst (λ m. s.0 < m) (is.one_name_each ∙ sym same) (slice_get_within c.names s.0 name has)

-- one mark more
pub marks-more : (marks : List Bool) (sigs new : List Sig) (s : Sig) → s.0 < length marks → new ≡ sigs ++ s ∷ [] → ((x : Sig) → (get_or marks x.0 false ≡ true) ↔ Contains sigs x)
    → (x : Sig) → (get_or (set marks s.0 true) x.0 false ≡ true) ↔ Contains new x
marks-more marks sigs new s within is before x =
    subst (λ xs. (get_or (set marks s.0 true) x.0 false ≡ true) ↔ Contains xs x) (sym is)
    (elim (cases_eq x.0 s.0) [
      | inl same ↦
          let one : x ≡ s = ap (λ n. record { 0 = n }) same in (
            λ _. subst (Contains (sigs ++ s ∷ [])) (sym one) (Contains-push sigs s),
            λ _. ap (λ n. get_or (set marks s.0 true) n false) same ∙ get_or-set_same marks s.0 true false within,
          )
      | inr other ↦ (
        λ h. Contains-append_left sigs (s ∷ []) x ((before x).0 (sym (get_or-set_other marks s.0 x.0 true false other) ∙ h)),
        λ h. get_or-set_other marks s.0 x.0 true false other ∙ (before x).1 (elim (Contains-push_cases sigs s x h) [
          | inl earlier ↦ earlier
          | inr e ↦ absurd (other (ap (λ (y : Sig). y.0) (sym e)))
        ]),
      )
    ])
