-- What the statements so far drive, and the nodes that are kept of it.
use Rattle.std.proofs.Common.{◌≡◌, ◌≢◌, ℕ, ◌+◌, ◌<◌, ◌≤◌, Bool, true, false, ◌||◌, cond, List, [], ◌∷◌, ◌++◌, length, get_or, set, take, drop, map, replicate, Option, Some, None, is_some, refl, sym, ap, subst, ◌∙◌, inl, inr, append_assoc, arith}
use Rattle.std.specs.Prelude.{option_map, IfSome}
use Rattle.std.specs.Option.{option_or}
use Rattle.std.specs.List.{Contains, AllPairs, find, flat_map, list_any}
use Rattle.std.proofs.Math.Seq.{drop-append_seam, take-append_seam}
use Rattle.std.proofs.lemmas.Bool.{cases_Bool, cond-true, cond-false, true≢false}
use Rattle.std.proofs.lemmas.List.{append-nil, length-append, length-map, map-set, get_or-map, get_or_append_left, get_or_push, take-append-drop, take-map, drop-map}
use Rattle.std.proofs.lemmas.List.Concat.{flat_map-append}
use Rattle.std.proofs.lemmas.List.Elements.{All-set, All-weaker, All-replicate, Contains-get_or}
use Rattle.std.proofs.lemmas.List.Quantifiers.{all_pairs_push}
use Rattle.std.proofs.lemmas.List.Folds.{find-append, length-flat_map-take}
use Rattle.std.proofs.lemmas.Simd.{splat_is_map}
use Rattle.sr_model.specs.declared.cells.Sig.{Sig}
use Rattle.sr_model.specs.declared.statements.Numbered.{Numbered}
use Rattle.sr_model.specs.Declaration.{Declaration, InputNamed, OutputNamed, DriverNamed}
use Rattle.sr_model.specs.Netlist.{Driver}
use Rattle.sr_model.proofs.lemmas.Members.{map-agree}
use Rattle.netlist.specs.declared.wiring.Node.{Node}
use Rattle.netlist.specs.Numbering.{driven_name, drives, pin_names, place_in, sig_in, stated_driver}
use Rattle.netlist.specs.Nodes.{driver_of, driver_by, IsNodeWithin}
use Rattle.netlist.specs.Checks.{IsDrivenOnce}
use Rattle.netlist.specs.Driving.{kind_stated, node_at, driver_among, HoldsDrivers, AreWithin}
use Rattle.netlist.proofs.Once.{has, has-append, has-there, has-here, Contains-from_has, lacks-from_has, IsApart}
use Rattle.netlist.proofs.Places.{set-map_place, get_or-map_place, place_in-lt}
use Rattle.netlist.proofs.Statements.{StandsAt, stated_by, stated_more, flat_more, flat_same, pins_front}

-- ---- which names are driven

found_or_not : {X : Type 0} (test : X → Bool) (xs : List X) → is_some (find test xs) ≡ list_any test xs
found_or_not test [] = refl
found_or_not test (x ∷ xs) =
    elim (cases_Bool (test x)) [
      | inl passes ↦ ap is_some (cond-true (test x) (Some x) (find test xs) passes) ∙ sym (ap (λ b. b || list_any test xs) passes)
      | inr fails ↦ ap is_some (cond-false (test x) (Some x) (find test xs) fails) ∙ found_or_not test xs ∙ sym (ap (λ b. b || list_any test xs) fails)
    ]

driven_has : (ds : List Declaration) (t : List ℕ) → list_any (drives t) ds ≡ has (flat_map driven_name ds) t
driven_has [] t = refl
driven_has (d ∷ ds) t = ap (λ b. has (driven_name d) t || b) (driven_has ds t) ∙ sym (has-append (driven_name d) (flat_map driven_name ds) t)

-- a name is driven where a statement that drives it is found
found_driven : (ds : List Declaration) (t : List ℕ) → is_some (find (drives t) ds) ≡ has (flat_map driven_name ds) t
found_driven ds t = found_or_not (drives t) ds ∙ driven_has ds t

none_from_false : {X : Type 0} (o : Option X) → is_some o ≡ false → o ≡ None
none_from_false None e = refl
none_from_false (Some x) e = absurd (true≢false e)

find_push : {X : Type 0} (test : X → Bool) (xs : List X) (x : X) → find test (xs ++ x ∷ []) ≡ option_or (find test xs) (cond (test x) (Some x) None)
find_push test xs x = find-append test xs (x ∷ [])

or_none : {X : Type 0} (o : Option X) → option_or o None ≡ o
or_none None = refl
or_none (Some x) = refl

find_push_fails : {X : Type 0} (test : X → Bool) (xs : List X) (x : X) → test x ≡ false → find test (xs ++ x ∷ []) ≡ find test xs
find_push_fails test xs x fails = find_push test xs x ∙ ap (option_or (find test xs)) (cond-false (test x) (Some x) None fails) ∙ or_none (find test xs)

find_push_first : {X : Type 0} (test : X → Bool) (xs : List X) (x : X) → find test xs ≡ None → test x ≡ true → find test (xs ++ x ∷ []) ≡ Some x
find_push_first test xs x none passes = find_push test xs x ∙ ap (λ o. option_or o (cond (test x) (Some x) None)) none ∙ cond-true (test x) (Some x) None passes

-- ---- the nodes

map_some : {X Y : Type 0} (f : X → Y) (o : Option X) → is_some (option_map f o) ≡ is_some o
map_some f None = refl
map_some f (Some x) = refl

module _ (pins : List Sig) (sig : List ℕ → Sig) (names : List (List ℕ)) where
  pub drivers_none : (n : ℕ) (nodes : List (Option Node)) → n ≡ length names → nodes ≡ replicate n None → HoldsDrivers pins sig names [] nodes
  drivers_none n nodes long e = ap (map (option_map (driver_of pins))) (e ∙ splat_is_map names n None (sym long)) ∙ map_map
    where
      map_map : map (option_map (driver_of pins)) (map (λ _. None) names) ≡ map (driver_among sig []) names
      map_map = all_none names
        where
          all_none : (ns : List (List ℕ)) → map (option_map (driver_of pins)) (map (λ _. None) ns) ≡ map (driver_among sig []) ns
          all_none [] = refl
          all_none (n ∷ ns) = ap (λ (ds : List (Option Driver)). None ∷ ds) (all_none ns)

  -- there is a node at the place of a name where the name is driven
  pub node_driven : (ds : List Declaration) (nodes : List (Option Node)) (t : List ℕ) (node : Option Node) → HoldsDrivers pins sig names ds nodes → Contains names t → node ≡ get_or nodes (place_in names t) node
      → is_some node ≡ has (flat_map driven_name ds) t
  node_driven ds nodes t node holds member read =
      let lt : place_in names t < length nodes = omega (arith, place_in-lt names t member, ap length holds, length-map nodes (option_map (driver_of pins)), length-map names (driver_among sig ds)) in
      let there : option_map (driver_of pins) node ≡ driver_among sig ds t =
      ap (option_map (driver_of pins)) read ∙ sym (get_or-map (option_map (driver_of pins)) nodes (place_in names t) node (driver_among sig ds t) lt)
      ∙ ap (λ ys. get_or ys (place_in names t) (driver_among sig ds t)) holds ∙ get_or-map_place (driver_among sig ds) names t (driver_among sig ds t) member in
      sym (map_some (driver_of pins) node) ∙ ap is_some there ∙ map_some (stated_driver sig) (find (drives t) ds) ∙ found_driven ds t

  -- a statement that drives nothing
  pub drivers_same : (ds : List Declaration) (d : Declaration) (nodes : List (Option Node)) → driven_name d ≡ [] → HoldsDrivers pins sig names ds nodes → HoldsDrivers pins sig names (ds ++ d ∷ []) nodes
  drivers_same ds d nodes none holds =
      holds ∙ map-agree (driver_among sig ds) (driver_among sig (ds ++ d ∷ [])) names (λ n _. ap (option_map (stated_driver sig)) (sym (find_push_fails (drives n) ds d (ap (λ ns. has ns n) none))))

  -- a statement that drives a name for the first time
  pub drivers_more : (ds : List Declaration) (d : Declaration) (t : List ℕ) (nodes : List (Option Node)) (node : Node) → IsApart names → Contains names t → driven_name d ≡ t ∷ [] → has (flat_map driven_name ds) t ≡ false → driver_of pins node ≡ stated_driver sig d
      → HoldsDrivers pins sig names ds nodes → HoldsDrivers pins sig names (ds ++ d ∷ []) (set nodes (place_in names t) (Some node))
  drivers_more ds d t nodes node apart member one fresh is holds =
      let others : (n : List ℕ) → (n ≡ t → ⊥) → driver_among sig (ds ++ d ∷ []) n ≡ driver_among sig ds n =
      λ n other. ap (option_map (stated_driver sig)) (find_push_fails (drives n) ds d (ap (λ ns. has ns n) one ∙ has-there t [] n other)) in
      let first : driver_among sig (ds ++ d ∷ []) t ≡ Some (stated_driver sig d) =
      ap (option_map (stated_driver sig)) (find_push_first (drives t) ds d (none_from_false (find (drives t) ds) (found_driven ds t ∙ fresh)) (ap (λ ns. has ns t) one ∙ has-here t [] t refl)) in
      map-set (option_map (driver_of pins)) nodes (place_in names t) (Some node) ∙ ap (λ ys. set ys (place_in names t) (Some (driver_of pins node))) holds
      ∙ ap (λ y. set (map (driver_among sig ds) names) (place_in names t) y) (ap (λ (x : Driver). Some x) is ∙ sym first)
      ∙ sym (set-map_place (driver_among sig ds) (driver_among sig (ds ++ d ∷ [])) names t apart member others)

-- ---- names that are driven once

driven_more : (ds : List Declaration) (d : Declaration) (t : List ℕ) → driven_name d ≡ t ∷ [] → has (flat_map driven_name ds) t ≡ false → IsDrivenOnce ds → IsDrivenOnce (ds ++ d ∷ [])
driven_more ds d t one fresh once =
    let more : flat_map driven_name (ds ++ d ∷ []) ≡ flat_map driven_name ds ++ t ∷ [] =
    flat_map-append driven_name ds (d ∷ []) ∙ ap (λ ns. flat_map driven_name ds ++ ns) (append-nil (driven_name d) ∙ one) in
    subst (AllPairs (λ a b. a ≢ b)) (sym more)
    (all_pairs_push (λ a b. a ≢ b) (flat_map driven_name ds) t once (λ k d lt e. lacks-from_has (flat_map driven_name ds) t fresh (subst (Contains (flat_map driven_name ds)) e (Contains-get_or (flat_map driven_name ds) k d lt))))

driven_same : (ds : List Declaration) (d : Declaration) → driven_name d ≡ [] → IsDrivenOnce ds → IsDrivenOnce (ds ++ d ∷ [])
driven_same ds d none once =
    let more : flat_map driven_name (ds ++ d ∷ []) ≡ flat_map driven_name ds =
    flat_map-append driven_name ds (d ∷ []) ∙ ap (λ ns. flat_map driven_name ds ++ ns) (append-nil (driven_name d) ∙ none) ∙ append-nil (flat_map driven_name ds) in
    subst (AllPairs (λ a b. a ≢ b)) (sym more) once

driven_again : (ds : List Declaration) (d : Declaration) (t : List ℕ) → driven_name d ≡ t ∷ [] → has (flat_map driven_name ds) t ≡ true → IsDrivenOnce (ds ++ d ∷ []) → ⊥
driven_again ds d t one here once =
    let more : flat_map driven_name (ds ++ d ∷ []) ≡ flat_map driven_name ds ++ t ∷ [] =
    flat_map-append driven_name ds (d ∷ []) ∙ ap (λ ns. flat_map driven_name ds ++ ns) (append-nil (driven_name d) ∙ one) in
    let pairs : AllPairs (λ a b. a ≢ b) (flat_map driven_name ds ++ t ∷ []) = subst (AllPairs (λ a b. a ≢ b)) more once in
    let h : Contains (flat_map driven_name ds) t = Contains-from_has (flat_map driven_name ds) t here in
    pairs h.0 (length (flat_map driven_name ds)) t h.1 (omega (arith, length-append (flat_map driven_name ds) (t ∷ [])))
    (get_or_append_left (flat_map driven_name ds) (t ∷ []) t h.0 h.1 ∙ h.2 ∙ sym (get_or_push (flat_map driven_name ds) t t (length (flat_map driven_name ds)) refl))

-- ---- where the pins of a node lie

cut_out : {X : Type 0} (xs ys zs : List X) → take (length ys) (drop (length xs) (xs ++ (ys ++ zs))) ≡ ys
cut_out xs ys zs = ap (take (length ys)) (drop-append_seam xs (ys ++ zs)) ∙ take-append_seam ys zs

node_driver : (sig : List ℕ → Sig) (items : List Numbered) (i : ℕ) (x : Numbered) → StandsAt items i x
    → driver_of (map sig (flat_map pin_names (map stated_by items))) (node_at (length (flat_map pin_names (take i (map stated_by items)))) (stated_by x)) ≡ stated_driver sig (stated_by x)
node_driver sig items i x at =
    let front : List (List ℕ) = flat_map pin_names (take i (map stated_by items)) in
    let back : List (List ℕ) = flat_map pin_names (drop (i + 1) (map stated_by items)) in
    let split : flat_map pin_names (map stated_by items) ≡ front ++ (pin_names (stated_by x) ++ back) =
    ap (flat_map pin_names) (sym (take-append-drop (i + 1) (map stated_by items))) ∙ flat_map-append pin_names (take (i + 1) (map stated_by items)) (drop (i + 1) (map stated_by items))
    ∙ ap (λ ns. ns ++ back) (flat_more pin_names items i x at) ∙ append_assoc front (pin_names (stated_by x)) back in
    let own : take (length (pin_names (stated_by x))) (drop (length front) (map sig (flat_map pin_names (map stated_by items)))) ≡ map sig (pin_names (stated_by x)) =
    ap (take (length (pin_names (stated_by x)))) (drop-map sig (length front) (flat_map pin_names (map stated_by items))) ∙ take-map sig (length (pin_names (stated_by x))) (drop (length front) (flat_map pin_names (map stated_by items)))
    ∙ ap (map sig) (ap (λ ns. take (length (pin_names (stated_by x))) (drop (length front) ns)) split ∙ cut_out front (pin_names (stated_by x)) back) in
    ap (λ (sigs : List Sig). driver_by (kind_stated (stated_by x)) sigs) own ∙ with_kind (stated_by x)
  where
    with_kind : (d : Declaration) → driver_by (kind_stated d) (map sig (pin_names d)) ≡ stated_driver sig d
    with_kind (InputNamed name) = refl
    with_kind (OutputNamed name) = refl
    with_kind (DriverNamed target kind pins) = refl

node_within : (d : Declaration) (first_pin n : ℕ) → n ≡ first_pin + length (pin_names d) → IsNodeWithin n (node_at first_pin d)
node_within d first_pin n e = (omega (arith, e), input d)
  where
    input : (d : Declaration) → kind_stated d ≡ None → length (pin_names d) ≡ 0
    input (InputNamed name) h = refl
    input (OutputNamed name) h = refl
    input (DriverNamed target kind pins) h = absurd cc

within_none : (n m : ℕ) (nodes : List (Option Node)) → nodes ≡ replicate n None → AreWithin m nodes
within_none n m nodes e = subst (AreWithin m) (sym e) (All-replicate (λ node. IfSome node (IsNodeWithin m)) n None tt)

still_within : (m n : ℕ) → m ≤ n → (node : Option Node) → IfSome node (IsNodeWithin m) → IfSome node (IsNodeWithin n)
still_within m n le None h = tt
still_within m n le (Some node) h = (omega (arith, h.0), h.1)

within_more : (nodes : List (Option Node)) (k m n : ℕ) (node : Node) → m ≤ n → AreWithin m nodes → IsNodeWithin n node → AreWithin n (set nodes k (Some node))
within_more nodes k m n node le all h =
    All-set (λ (x : Option Node). IfSome x (IsNodeWithin n)) nodes k (Some node) h (All-weaker (λ (x : Option Node). IfSome x (IsNodeWithin m)) (λ (x : Option Node). IfSome x (IsNodeWithin n)) (still_within m n le) nodes all)

-- no pins where nothing is driven
pub no_pins : (d : Declaration) → driven_name d ≡ [] → pin_names d ≡ []
no_pins (InputNamed name) none = refl
no_pins (OutputNamed name) none = refl
no_pins (DriverNamed target kind pins) none = absurd cc

-- ---- statement after statement

-- what is kept after the first i statements
pub record IsDrivenSoFar (ds : List Declaration) (names : List (List ℕ)) (i : ℕ) (nodes : List (Option Node)) (first_pin : ℕ) : Type 0 where
  pub pins_before : first_pin ≡ length (flat_map pin_names (take i ds))
  pub drivers : HoldsDrivers (map (sig_in names) (flat_map pin_names ds)) (sig_in names) names (take i ds) nodes
  pub within : AreWithin first_pin nodes
  pub once : IsDrivenOnce (take i ds)

pub so_far_none : (ds : List Declaration) (names : List (List ℕ)) (n : ℕ) (nodes : List (Option Node)) → n ≡ length names → nodes ≡ replicate n None → IsDrivenSoFar ds names 0 nodes 0
so_far_none ds names n nodes long e =
    record {
      pins_before = refl;
      drivers = drivers_none (map (sig_in names) (flat_map pin_names ds)) (sig_in names) names n nodes long e;
      within = within_none n 0 nodes e;
      once = λ i j d lt within. absurd (omega arith);
    }

module _ (items : List Numbered) (names : List (List ℕ)) (i : ℕ) (x : Numbered) (nodes : List (Option Node)) (first_pin : ℕ) (at : StandsAt items i x)
    (so_far : IsDrivenSoFar (map stated_by items) names i nodes first_pin) where
  pub so_far_same : driven_name (stated_by x) ≡ [] → IsDrivenSoFar (map stated_by items) names (i + 1) nodes first_pin
  so_far_same none =
      let more : take (i + 1) (map stated_by items) ≡ take i (map stated_by items) ++ stated_by x ∷ [] = stated_more items i x at in
      record {
        pins_before = so_far.pins_before ∙ ap length (sym (flat_same pin_names items i x at (no_pins (stated_by x) none)));
        drivers =
            subst (λ (ds : List Declaration). HoldsDrivers (map (sig_in names) (flat_map pin_names (map stated_by items))) (sig_in names) names ds nodes) (sym more)
            (drivers_same (map (sig_in names) (flat_map pin_names (map stated_by items))) (sig_in names) names (take i (map stated_by items)) (stated_by x) nodes none so_far.drivers);
        within = so_far.within;
        once = subst IsDrivenOnce (sym more) (driven_same (take i (map stated_by items)) (stated_by x) none so_far.once);
      }

  module _ (t : List ℕ) (here : Option Node) (one : driven_name (stated_by x) ≡ t ∷ []) (member : Contains names t) (read : here ≡ get_or nodes (place_in names t) here) where
    here_driven : is_some here ≡ has (flat_map driven_name (take i (map stated_by items))) t
    here_driven = node_driven (map (sig_in names) (flat_map pin_names (map stated_by items))) (sig_in names) names (take i (map stated_by items)) nodes t here so_far.drivers member read

    pub so_far_again : is_some here ≡ true → ¬ IsDrivenOnce (take (i + 1) (map stated_by items))
    so_far_again e once =
        driven_again (take i (map stated_by items)) (stated_by x) t one (sym here_driven ∙ e) (subst IsDrivenOnce (stated_more items i x at) once)

    pub so_far_more : is_some here ≡ false → IsApart names → (node : Node) → node ≡ node_at first_pin (stated_by x)
        → IsDrivenSoFar (map stated_by items) names (i + 1) (set nodes (place_in names t) (Some node)) (first_pin + node.pin_count)
    so_far_more e apart node is =
        let more : take (i + 1) (map stated_by items) ≡ take i (map stated_by items) ++ stated_by x ∷ [] = stated_more items i x at in
        let fresh : has (flat_map driven_name (take i (map stated_by items))) t ≡ false = sym here_driven ∙ e in
        let pins : List Sig = map (sig_in names) (flat_map pin_names (map stated_by items)) in
        let count : node.pin_count ≡ length (pin_names (stated_by x)) = ap (λ (n : Node). n.pin_count) is in
        let own : driver_of pins node ≡ stated_driver (sig_in names) (stated_by x) =
        ap (driver_of pins) (is ∙ ap (λ n. node_at n (stated_by x)) so_far.pins_before) ∙ node_driver (sig_in names) items i x at in
        record {
          pins_before = omega (arith, pins_front items i x at, count, so_far.pins_before);
          drivers =
              subst (λ (ds : List Declaration). HoldsDrivers pins (sig_in names) names ds (set nodes (place_in names t) (Some node))) (sym more)
              (drivers_more pins (sig_in names) names (take i (map stated_by items)) (stated_by x) t nodes node apart member one fresh own so_far.drivers);
          within =
              within_more nodes (place_in names t) first_pin (first_pin + node.pin_count) node (omega arith) so_far.within
              (subst (IsNodeWithin (first_pin + node.pin_count)) (sym is) (node_within (stated_by x) first_pin (first_pin + node.pin_count) (omega (arith, count))));
          once = subst IsDrivenOnce (sym more) (driven_more (take i (map stated_by items)) (stated_by x) t one fresh so_far.once);
        }

  -- the pins of the next statement stay within those of all
  pub so_far_fits : first_pin + length (pin_names (stated_by x)) ≤ length (flat_map pin_names (map stated_by items))
  so_far_fits =
      let some : length (flat_map pin_names (take i (map stated_by items))) + length (pin_names (get_or (map stated_by items) i (stated_by x))) ≤ length (flat_map pin_names (map stated_by items)) =
      length-flat_map-take pin_names (map stated_by items) i (stated_by x) (omega (arith, at.within, length-map items stated_by)) in
      let read : get_or (map stated_by items) i (stated_by x) ≡ stated_by x = get_or-map stated_by items i x (stated_by x) at.within ∙ ap stated_by (sym at.read) in
      omega (arith, some, ap (λ (d : Declaration). length (pin_names d)) read, so_far.pins_before)

pub nodes-long : (pins : List Sig) (sig : List ℕ → Sig) (names : List (List ℕ)) (ds : List Declaration) (nodes : List (Option Node)) → HoldsDrivers pins sig names ds nodes → length nodes ≡ length names
nodes-long pins sig names ds nodes holds = sym (length-map nodes (option_map (driver_of pins))) ∙ ap length holds ∙ length-map names (driver_among sig ds)
