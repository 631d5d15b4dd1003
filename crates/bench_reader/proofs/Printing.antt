-- How the printed text grows.
use Rattle.std.proofs.Common.{◌≡◌, ◌⊎◌, ℕ, ◌+◌, ◌<◌, List, [], ◌∷◌, ◌++◌, length, map, take, get_or, Some, sym, ap, subst, ◌∙◌, append_assoc, arith, inl, inr}
use Rattle.std.specs.Prelude.{codes}
use Rattle.std.specs.List.{flat_map, All}
use Rattle.sr_model.proofs.lemmas.Members.{All-from_Contains}
use Rattle.netlist.specs.Circuit.{Circuit, IsCircuit}
use Rattle.std.proofs.lemmas.List.{take_more, map-append, length-map, length-take-le, append-nil}
use Rattle.std.proofs.lemmas.List.Concat.{flat_map-append}
use Rattle.std.proofs.lemmas.List.FromFn.{map-range_with_len_more}
use Rattle.netlist.specs.Wiring.{signals_below, kind_of, pins_of}
use Rattle.sr_model.specs.declared.cells.Sig.{Sig}
use Rattle.sr_model.specs.declared.gates.Kind.{Kind}
use Rattle.sr_model.specs.Netlist.{Driver, Input, Driven}
use Rattle.bench_reader.specs.Kinds.{kind_text}
use Rattle.bench_reader.specs.Printed.{listed, port_line, driver_line, name_in}

flat_map-push : {X : Type 0} (f : X → List ℕ) (xs : List X) (x : X) (before now after : List ℕ) → now ≡ before ++ flat_map f xs → after ≡ now ++ f x → after ≡ before ++ flat_map f (xs ++ x ∷ [])
flat_map-push f xs x before now after so_far more =
    more ∙ ap (λ (t : List ℕ). t ++ f x) so_far ∙ append_assoc before (flat_map f xs) (f x)
    ∙ ap (λ (t : List ℕ). before ++ t) (ap (λ (t : List ℕ). flat_map f xs ++ t) (sym (append-nil (f x))) ∙ sym (flat_map-append f xs (x ∷ [])))

-- the text with the lines of one item more
pub items_more : {X : Type 0} (f : X → List ℕ) (xs : List X) (i : ℕ) (d : X) (before now after : List ℕ) → i < length xs → now ≡ before ++ flat_map f (take i xs)
    → after ≡ now ++ f (get_or xs i d) → after ≡ before ++ flat_map f (take (i + 1) xs)
items_more f xs i d before now after lt so_far more =
    flat_map-push f (take i xs) (get_or xs i d) before now after so_far more ∙ ap (λ ys. before ++ flat_map f ys) (sym (take_more xs i d lt))

abbrev number : ℕ → Sig
number k = record { 0 = k }

pub signals_below-more : (n : ℕ) → signals_below (n + 1) ≡ signals_below n ++ number n ∷ []
signals_below-more n = map-range_with_len_more number 0 n n (omega arith)

-- and with the line of one signal more
pub signals_more : (f : Sig → List ℕ) (n : ℕ) (before now after : List ℕ) → now ≡ before ++ flat_map f (signals_below n) → after ≡ now ++ f (number n) → after ≡ before ++ flat_map f (signals_below (n + 1))
signals_more f n before now after so_far more =
    flat_map-push f (signals_below n) (number n) before now after so_far more ∙ ap (λ ys. before ++ flat_map f ys) (sym (signals_below-more n))

listed-push : (a : List ℕ) (names : List (List ℕ)) (name : List ℕ) → listed ((a ∷ names) ++ name ∷ []) ≡ listed (a ∷ names) ++ (codes ", " ++ name)
listed-push a [] name = append_assoc a (codes ", ") name
listed-push a (b ∷ names) name =
    ap (λ (t : List ℕ). a ++ codes ", " ++ t) (listed-push b names name) ∙ sym (append_assoc (a ++ codes ", ") (listed (b ∷ names)) (codes ", " ++ name))

names_more : (names : List (List ℕ)) (name before now mid after : List ℕ) → now ≡ before ++ listed names
    → ((0 < length names) × (mid ≡ now ++ codes ", ")) ⊎ ((length names ≡ 0) × (mid ≡ now)) → after ≡ mid ++ name → after ≡ before ++ listed (names ++ name ∷ [])
names_more [] name before now mid after so_far (inl (some, is)) more = absurd (omega arith)
names_more [] name before now mid after so_far (inr (none, is)) more =
    more ∙ ap (λ (t : List ℕ). t ++ name) (is ∙ so_far ∙ append-nil before)
names_more (a ∷ names) name before now mid after so_far (inr (none, is)) more = absurd (omega arith)
names_more (a ∷ names) name before now mid after so_far (inl (some, is)) more =
    more ∙ ap (λ (t : List ℕ). t ++ name) (is ∙ ap (λ (t : List ℕ). t ++ codes ", ") so_far) ∙ append_assoc (before ++ listed (a ∷ names)) (codes ", ") name
    ∙ append_assoc before (listed (a ∷ names)) (codes ", " ++ name) ∙ ap (λ (t : List ℕ). before ++ t) (sym (listed-push a names name))

-- the text with one name more
pub listed_more : {X : Type 0} (f : X → List ℕ) (xs : List X) (i : ℕ) (d : X) (before now mid after : List ℕ) → i < length xs → now ≡ before ++ listed (map f (take i xs))
    → ((0 < i) × (mid ≡ now ++ codes ", ")) ⊎ ((i ≡ 0) × (mid ≡ now)) → after ≡ mid ++ f (get_or xs i d) → after ≡ before ++ listed (map f (take (i + 1) xs))
listed_more f xs i d before now mid after lt so_far joint more =
    let size : length (map f (take i xs)) ≡ i = length-map (take i xs) f ∙ length-take-le i xs (omega arith) in
    let joined : ((0 < length (map f (take i xs))) × (mid ≡ now ++ codes ", ")) ⊎ ((length (map f (take i xs)) ≡ 0) × (mid ≡ now)) =
    elim joint [ inl both ↦ inl (subst (λ n. 0 < n) (sym size) both.0, both.1) | inr both ↦ inr (size ∙ both.0, both.1) ] in
    names_more (map f (take i xs)) (f (get_or xs i d)) before now mid after so_far joined more
    ∙ ap (λ (t : List (List ℕ)). before ++ listed t) (sym (ap (map f) (take_more xs i d lt) ∙ map-append f (take i xs) (get_or xs i d ∷ [])))

-- the text with the line of one port more
pub port_pushed : (before word name a b c d : List ℕ) → a ≡ before ++ word → b ≡ a ++ codes "(" → c ≡ b ++ name → d ≡ c ++ codes ")\n" → d ≡ before ++ port_line word name
port_pushed before word name a b c d is_a is_b is_c is_d =
    let whole : d ≡ (((before ++ word) ++ codes "(") ++ name) ++ codes ")\n" =
    is_d ∙ ap (λ (t : List ℕ). t ++ codes ")\n") (is_c ∙ ap (λ (t : List ℕ). t ++ name) (is_b ∙ ap (λ (t : List ℕ). t ++ codes "(") is_a)) in
    whole ∙ ap (λ (t : List ℕ). t ++ codes ")\n") (ap (λ (t : List ℕ). t ++ name) (append_assoc before word (codes "(")) ∙ append_assoc before (word ++ codes "(") name)
    ∙ append_assoc before (word ++ codes "(" ++ name) (codes ")\n")

-- and with the line of one driver more
pub driver_pushed : (before name kind pins a b c d e f : List ℕ) → a ≡ before ++ name → b ≡ a ++ codes " = " → c ≡ b ++ kind → d ≡ c ++ codes "(" → e ≡ d ++ pins → f ≡ e ++ codes ")\n"
    → f ≡ before ++ (name ++ codes " = " ++ kind ++ codes "(" ++ pins ++ codes ")\n")
driver_pushed before name kind pins a b c d e f is_a is_b is_c is_d is_e is_f =
    let at_b : b ≡ before ++ (name ++ codes " = ") = is_b ∙ ap (λ (t : List ℕ). t ++ codes " = ") is_a ∙ append_assoc before name (codes " = ") in
    let at_c : c ≡ before ++ (name ++ codes " = " ++ kind) = is_c ∙ ap (λ (t : List ℕ). t ++ kind) at_b ∙ append_assoc before (name ++ codes " = ") kind in
    port_pushed before (name ++ codes " = " ++ kind) pins c d e f at_c is_d is_e is_f

pub driver_line-driven : (names : List (List ℕ)) (s : Sig) (driver : Driver) (kind : Kind) (pins : List Sig) → Some kind ≡ kind_of driver → pins ≡ pins_of driver
    → name_in names s ++ codes " = " ++ kind_text kind ++ codes "(" ++ listed (map (name_in names) pins) ++ codes ")\n" ≡ driver_line names s driver
driver_line-driven names s Input kind pins is its_pins = absurd cc
driver_line-driven names s (Driven of_kind of_pins) kind pins is its_pins =
    let same : kind ≡ of_kind = cc in
    ap (λ k. name_in names s ++ codes " = " ++ kind_text k ++ codes "(" ++ listed (map (name_in names) pins) ++ codes ")\n") same
    ∙ ap (λ (ps : List Sig). name_in names s ++ codes " = " ++ kind_text of_kind ++ codes "(" ++ listed (map (name_in names) ps) ++ codes ")\n") its_pins

pub inputs_within : (c : Circuit) → IsCircuit c → (inputs : List Sig) → inputs ≡ c.inputs → All (λ s. s.0 < length c.drivers) inputs
inputs_within c is inputs e = subst (λ (ss : List Sig). All (λ s. s.0 < length c.drivers) ss) (sym e) (All-from_Contains (λ s. s.0 < length c.drivers) c.inputs (λ s h. ((is.inputs s).0 h).0))
