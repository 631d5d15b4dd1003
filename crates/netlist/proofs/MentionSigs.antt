-- The signals of the names that were mentioned so far, as more names are added.
use Rattle.std.proofs.Common.{◌≡◌, ℕ, ◌<◌, Bool, true, false, not, eqb, cond, get_or, ◌+◌, ◌≤◌, List, [], ◌∷◌, ◌++◌, length, take, map, sym, ap, subst, ◌∙◌, inl, inr, append_assoc, arith}
use Rattle.std.specs.Cmp.Lexicographic.{pointwise}
use Rattle.std.specs.List.{Contains, flat_map}
use Rattle.std.proofs.lemmas.List.Sums.{length-filter, count_by-le-length}
use Rattle.std.proofs.lemmas.List.{length-append, length-map, get_or-map, map-append}
use Rattle.std.proofs.lemmas.Bool.{cond-true, cond-false}
use Rattle.std.proofs.lemmas.List.Elements.{Contains-append_left, Contains-append_right, Contains-push}
use Rattle.sr_model.specs.declared.cells.Sig.{Sig}
use Rattle.sr_model.specs.declared.statements.Numbered.{Numbered}
use Rattle.sr_model.specs.Declaration.{Declaration, InputNamed, OutputNamed, DriverNamed}
use Rattle.sr_model.proofs.lemmas.Members.{not_in_nil, Contains-here, Contains-cases, map-agree}
use Rattle.netlist.specs.Numbering.{once, mentions, driven_name, names_of, pin_names, sig_in}
use Rattle.netlist.specs.Mentions.{first_mention}
use Rattle.netlist.proofs.Once.{once-once}
use Rattle.netlist.proofs.Places.{place-kept, sigs-kept}
use Rattle.netlist.proofs.Statements.{StandsAt, stated_by, stated_more, flat_more, Contains-once, all_mentioned, pins_mentioned, is_mentioned}

stays_once : (names ns : List (List ℕ)) → names ≡ once ns → once names ≡ names
stays_once names ns e = ap once e ∙ once-once ns ∙ sym e

once-fewer : (ns : List (List ℕ)) → length (once ns) ≤ length ns
once-fewer [] = omega arith
once-fewer (n ∷ ns) = let rest : length (once ns) ≤ length ns = once-fewer ns in
    let p : List ℕ → Bool = λ other. not (pointwise eqb n other) in
    omega (arith, rest, length-filter p (once ns), count_by-le-length p (once ns))

-- one name more
pub once-one : (ns : List (List ℕ)) (n : List ℕ) → length (once (ns ++ n ∷ [])) ≤ length ns + 1
once-one ns n = let few : length (once (ns ++ n ∷ [])) ≤ length (ns ++ n ∷ []) = once-fewer (ns ++ n ∷ []) in omega (arith, few, length-append ns (n ∷ []))

-- the signal of one name more, behind those of names in front
pub sigs_more : (ns front more : List (List ℕ)) (m : List ℕ) (now after : List (List ℕ)) (old sigs new : List Sig) (sig : Sig) → more ≡ front ++ m ∷ [] → now ≡ once (ns ++ front) → after ≡ once (now ++ m ∷ []) → sig ≡ sig_in after m
    → sigs ≡ old ++ map (sig_in now) front → new ≡ sigs ++ sig ∷ [] → new ≡ old ++ map (sig_in after) more
sigs_more ns front more m now after old sigs new sig next is added sig_is so_far pushed =
    let among : (n : List ℕ) → Contains front n → Contains now n = λ n h. subst (λ (zs : List (List ℕ)). Contains zs n) (sym is) (Contains-once (ns ++ front) n (Contains-append_right ns front n h)) in
    let kept : map (sig_in after) front ≡ map (sig_in now) front = ap (λ (zs : List (List ℕ)). map (sig_in zs) front) added ∙ sigs-kept now (m ∷ []) front (stays_once now (ns ++ front) is) among in
    pushed ∙ ap (λ (xs : List Sig). xs ++ sig ∷ []) (so_far ∙ ap (λ (xs : List Sig). old ++ xs) (sym kept)) ∙ append_assoc old (map (sig_in after) front) (sig ∷ [])
    ∙ ap (λ (s : Sig). old ++ (map (sig_in after) front ++ s ∷ [])) sig_is ∙ ap (λ (xs : List Sig). old ++ xs) (sym (map-append (sig_in after) front (m ∷ [])) ∙ ap (map (sig_in after)) (sym next))

-- a name keeps its signal while others are added
pub sig-kept : (ns ms now after : List (List ℕ)) (n : List ℕ) → now ≡ once (ns ++ n ∷ []) → after ≡ once (now ++ ms) → sig_in after n ≡ sig_in now n
sig-kept ns ms now after n is added =
    let member : Contains now n = subst (λ (zs : List (List ℕ)). Contains zs n) (sym is) (Contains-once (ns ++ n ∷ []) n (Contains-push ns n)) in
    ap (λ (zs : List (List ℕ)). sig_in zs n) added ∙ ap (λ (i : ℕ). let s : Sig = record { 0 = i } in s) (place-kept now ms n (stays_once now (ns ++ n ∷ []) is) member)

-- ---- statement after statement

first_mentioned : (d : Declaration) → Contains (mentions d) (first_mention d)
first_mentioned (InputNamed name) = Contains-here name []
first_mentioned (OutputNamed name) = Contains-here name []
first_mentioned (DriverNamed target kind pins) = Contains-here target pins

firsts_mentioned : (ds : List Declaration) (d : Declaration) → Contains ds d → Contains (flat_map mentions ds) (first_mention d)
firsts_mentioned [] d h = absurd (not_in_nil d h)
firsts_mentioned (x ∷ ds) d h =
    elim (Contains-cases x ds d h) [
      | inl same ↦ Contains-append_left (mentions x) (flat_map mentions ds) (first_mention d) (subst (λ y. Contains (mentions y) (first_mention d)) (sym same) (first_mentioned d))
      | inr later ↦ Contains-append_right (mentions x) (flat_map mentions ds) (first_mention d) (firsts_mentioned ds d later)
    ]

module _ (items : List Numbered) (i : ℕ) (x : Numbered) (names after : List (List ℕ)) (at : StandsAt items i x) (is : names ≡ names_of (take i (map stated_by items))) (added : after ≡ once (names ++ mentions (stated_by x))) where
  abbrev pub front : List Declaration
  front = take i (map stated_by items)

  stays : once names ≡ names
  stays = stays_once names (flat_map mentions front) is

  among : (n : List ℕ) → Contains (flat_map mentions front) n → Contains names n
  among n h = subst (λ (zs : List (List ℕ)). Contains zs n) (sym is) (Contains-once (flat_map mentions front) n h)

  pub firsts_more : (firsts new : List Sig) → firsts ≡ map (λ d. sig_in names (first_mention d)) front → new ≡ firsts ++ sig_in after (first_mention (stated_by x)) ∷ []
      → new ≡ map (λ d. sig_in after (first_mention d)) (take (i + 1) (map stated_by items))
  firsts_more firsts new so_far pushed =
      let same : (d : Declaration) → Contains front d → sig_in after (first_mention d) ≡ sig_in names (first_mention d) =
      λ d h. ap (λ (zs : List (List ℕ)). sig_in zs (first_mention d)) added
      ∙ ap (λ (k : ℕ). let s : Sig = record { 0 = k } in s) (place-kept names (mentions (stated_by x)) (first_mention d) stays (among (first_mention d) (firsts_mentioned front d h))) in
      let kept : map (λ d. sig_in after (first_mention d)) front ≡ map (λ d. sig_in names (first_mention d)) front = map-agree (λ d. sig_in after (first_mention d)) (λ d. sig_in names (first_mention d)) front same in
      pushed ∙ ap (λ (xs : List Sig). xs ++ sig_in after (first_mention (stated_by x)) ∷ []) (so_far ∙ sym kept)
      ∙ sym (map-append (λ d. sig_in after (first_mention d)) front (stated_by x ∷ [])) ∙ ap (map (λ d. sig_in after (first_mention d))) (sym (stated_more items i x at))

  pub pins_more : (pins new : List Sig) → pins ≡ map (sig_in names) (flat_map pin_names front) → new ≡ pins ++ map (sig_in after) (pin_names (stated_by x))
      → new ≡ map (sig_in after) (flat_map pin_names (take (i + 1) (map stated_by items)))
  pins_more pins new so_far pushed =
      let kept : map (sig_in after) (flat_map pin_names front) ≡ map (sig_in names) (flat_map pin_names front) =
      ap (λ (zs : List (List ℕ)). map (sig_in zs) (flat_map pin_names front)) added
      ∙ sigs-kept names (mentions (stated_by x)) (flat_map pin_names front) stays (λ n h. among n (all_mentioned pin_names pins_mentioned front n h)) in
      pushed ∙ ap (λ (xs : List Sig). xs ++ map (sig_in after) (pin_names (stated_by x))) (so_far ∙ sym kept)
      ∙ sym (map-append (sig_in after) (flat_map pin_names front) (pin_names (stated_by x))) ∙ ap (map (sig_in after)) (sym (flat_more pin_names items i x at))

-- the signal that a statement mentions first
pub first_at : (sig : List ℕ → Sig) (items : List Numbered) (i : ℕ) (x : Numbered) (firsts : List Sig) (d : Sig) → StandsAt items i x → firsts ≡ map (λ e. sig (first_mention e)) (map stated_by items)
    → (i < length firsts) × (get_or firsts i d ≡ sig (first_mention (stated_by x)))
first_at sig items i x firsts d at is =
    let size : length firsts ≡ length (map stated_by items) = ap length is ∙ length-map (map stated_by items) (λ e. sig (first_mention e)) in
    let long : length (map stated_by items) ≡ length items = length-map items stated_by in
    let within : i < length items = at.within in (
      omega arith,
      ap (λ (xs : List Sig). get_or xs i d) is ∙ get_or-map (λ e. sig (first_mention e)) (map stated_by items) i (stated_by x) d (omega arith)
          ∙ ap (λ e. sig (first_mention e)) (get_or-map stated_by items i x (stated_by x) within ∙ ap stated_by (sym at.read)),
    )

-- it is the one that the statement names, as an input, an output or what it drives
pub first_driven : (d : Declaration) (drives : Bool) → driven_name d ≡ cond drives (first_mention d ∷ []) [] → drives ≡ true → driven_name d ≡ first_mention d ∷ []
first_driven d drives is holds = is ∙ cond-true drives (first_mention d ∷ []) [] holds

pub none_driven : (d : Declaration) (drives : Bool) → driven_name d ≡ cond drives (first_mention d ∷ []) [] → drives ≡ false → driven_name d ≡ []
none_driven d drives is fails = is ∙ cond-false drives (first_mention d ∷ []) [] fails

pub first_member : (items : List Numbered) (i : ℕ) (x : Numbered) (names : List (List ℕ)) → StandsAt items i x → names ≡ names_of (map stated_by items) → Contains names (first_mention (stated_by x))
first_member items i x names at numbered = is_mentioned items i x names (first_mention (stated_by x)) at numbered (first_mentioned (stated_by x))
