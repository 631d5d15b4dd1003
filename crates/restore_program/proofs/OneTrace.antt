-- A list of names has one trace at most.
use Rattle.std.proofs.Common.{ℕ, ◌≡◌, ◌<◌, ◌≤◌, ◌⊎◌, ◌+◌, Option, Some, None, List, [], ◌∷◌, ◌++◌, length, map, get_or, inl, inr, arith, refl, sym, ap, subst, ◌∙◌}
use Rattle.std.specs.List.{All, Contains, slice_get}
use Rattle.std.proofs.Math.Seq.{get_or-append_seam}
use Rattle.std.proofs.lemmas.List.{get_or_append_left, get_or-map, length-append, length-map}
use Rattle.std.proofs.lemmas.Option.{get_or_from_slice_get, slice_get_within}
use Rattle.sr_model.specs.declared.cells.Sig.{Sig}
use Rattle.netlist.specs.Circuit.{Circuit, IsCircuit}
use Rattle.sr_model.specs.Limits.{block_count, max_blocks}
use Rattle.dump_reader.specs.Print.{printed}
use Rattle.restore_program.specs.declared.status.Status.{Status}
use Rattle.restore_program.specs.declared.status.Status.TheVariants as statuses
use Rattle.report.specs.Refusals.{unknown_trace_line, trace_twice_line}
use Rattle.restore_program.specs.Tracing.{AreNamed, IsTraceText, IsTwiceFirst, IsUnknownFirst, OnTrace, StandsNext, RefusedCells, RefusedNames, many_cells, refused_cells, refused_names, name_twice, names_in, traced, unknown_name}
use Rattle.restore_program.proofs.OneRun.{one_trace}
use Rattle.restore_program.proofs.TraceSignals.{signals_within}

-- ---- the signals of names

module _ (c : Circuit) where
  abbrev name_of_signal : Sig → Option (List ℕ)
  name_of_signal sig = slice_get c.names sig.0

  -- a name that is listed is that of a signal
  its-signal : (names : List (List ℕ)) (sigs : List Sig) → map name_of_signal sigs ≡ map Some names → (name : List ℕ) → Contains names name → (sig : Sig) × (name_of_signal sig ≡ Some name)
  its-signal names sigs same name (k, below, at) =
      let as_many : length names ≡ length sigs = sym (length-map names Some) ∙ ap length (sym same) ∙ length-map sigs name_of_signal in
      let sig : Sig = get_or sigs k (record { 0 = 0 }) in
      let its : name_of_signal sig ≡ get_or (map name_of_signal sigs) k None = sym (get_or-map name_of_signal sigs k (record { 0 = 0 }) None (subst (λ n. k < n) as_many below)) in
      (sig, its ∙ ap (λ xs. get_or xs k None) same ∙ get_or-map Some names k name None below ∙ ap Some at)

  module _ (is : IsCircuit c) where
    one-signal : (a b : Sig) (name : List ℕ) → name_of_signal a ≡ Some name → name_of_signal b ≡ Some name → a ≡ b
    one-signal a b name first second = ap (λ n. record { 0 = n }) (is.distinct a.0 b.0 name first second)

    -- names have one list of signals
    same-signals : (names : List (List ℕ)) (sigs others : List Sig) → map name_of_signal sigs ≡ map Some names → map name_of_signal others ≡ map Some names → sigs ≡ others
    same-signals [] [] [] first second = refl
    same-signals [] (a ∷ sigs) others first second = absurd (cc)
    same-signals [] [] (b ∷ others) first second = absurd (cc)
    same-signals (name ∷ names) [] others first second = absurd (cc)
    same-signals (name ∷ names) (a ∷ sigs) [] first second = absurd (cc)
    same-signals (name ∷ names) (a ∷ sigs) (b ∷ others) first second =
        let is_a : name_of_signal a ≡ Some name = cc in
        let is_b : name_of_signal b ≡ Some name = cc in
        let rest : map name_of_signal sigs ≡ map Some names = cc in
        let rest_too : map name_of_signal others ≡ map Some names = cc in
        let here : a ≡ b = one-signal a b name is_a is_b in
        let later : sigs ≡ others = same-signals names sigs others rest rest_too in
        cc

  -- ---- the first wrong name

  listed : (names : List (List ℕ)) (sigs : List Sig) → AreNamed c names sigs → (name : List ℕ) → Contains names name → Contains c.names name
  listed names sigs named name h =
      let found : (sig : Sig) × (name_of_signal sig ≡ Some name) = its-signal names sigs named.each name h in
      (found.0.0, slice_get_within c.names found.0.0 name found.1, get_or_from_slice_get c.names found.0.0 name name found.1)

  -- behind these names, a name is that of no signal or stands among them
  abbrev IsWrong : List (List ℕ) → List ℕ → Type 0
  IsWrong before name = ¬ Contains c.names name ⊎ Contains before name

  -- names of signals, each once, have none that is wrong
  none-unknown : (names : List (List ℕ)) (sigs : List Sig) (before : List (List ℕ)) (name : List ℕ) (after : List (List ℕ)) → AreNamed c names sigs → names ≡ before ++ name ∷ after → Contains c.names name
  none-unknown names sigs before name after named whole =
      listed names sigs named name (subst (λ xs. Contains xs name) (sym whole) (length before, omega (arith, length-append before (name ∷ after)), get_or-append_seam before name after name))

  none-twice : (names : List (List ℕ)) (sigs : List Sig) (before : List (List ℕ)) (name : List ℕ) (after : List (List ℕ)) → AreNamed c names sigs → names ≡ before ++ name ∷ after → ¬ Contains before name
  none-twice names sigs before name after named whole (k, below, at) =
      let size : length names ≡ length before + length (name ∷ after) = ap length whole ∙ length-append before (name ∷ after) in
      let first : get_or names k name ≡ name = ap (λ xs. get_or xs k name) whole ∙ get_or_append_left before (name ∷ after) name k below ∙ at in
      let second : get_or names (length before) name ≡ name = ap (λ xs. get_or xs (length before) name) whole ∙ get_or-append_seam before name after name in
      named.once k (length before) name below (omega (arith, size)) (first ∙ sym second)

  none-wrong : (names : List (List ℕ)) (sigs : List Sig) (before : List (List ℕ)) (name : List ℕ) (after : List (List ℕ)) → AreNamed c names sigs → names ≡ before ++ name ∷ after → ¬ IsWrong before name
  none-wrong names sigs before name after named whole (inl unknown) = unknown (none-unknown names sigs before name after named whole)
  none-wrong names sigs before name after named whole (inr twice) = none-twice names sigs before name after named whole twice

-- two partings of a list are one, or one is longer
data Parted (a b : List (List ℕ)) (x y : List ℕ) : Type 0 where
  at_once : a ≡ b → x ≡ y → Parted a b x y
  sooner : (more : List (List ℕ)) → b ≡ a ++ x ∷ more → Parted a b x y
  later : (more : List (List ℕ)) → a ≡ b ++ y ∷ more → Parted a b x y

parted : (a b : List (List ℕ)) (x y : List ℕ) (xs ys : List (List ℕ)) → a ++ x ∷ xs ≡ b ++ y ∷ ys → Parted a b x y
parted [] [] x y xs ys e = at_once refl (cc)
parted [] (z ∷ b) x y xs ys e = sooner b (cc)
parted (z ∷ a) [] x y xs ys e = later a (cc)
parted (z ∷ a) (u ∷ b) x y xs ys e =
    let same : z ≡ u = cc in
    let rest : a ++ x ∷ xs ≡ b ++ y ∷ ys = cc in
    cons same (parted a b x y xs ys rest)
  where
    cons : z ≡ u → Parted a b x y → Parted (z ∷ a) (u ∷ b) x y
    cons same (at_once e is) = at_once (cc) is
    cons same (sooner more e) = sooner more (cc)
    cons same (later more e) = later more (cc)

-- the first wrong name is one
module _ (c : Circuit) (names : List (List ℕ)) (x y : List ℕ) (a b : List (List ℕ)) (first : StandsNext c names x a) (second : StandsNext c names y b) (wrong : IsWrong c a x) (wrong_too : IsWrong c b y) where
  pub one-wrong : (a ≡ b) × (x ≡ y)
  one-wrong = by (parted a b x y first.after second.after (sym first.whole ∙ second.whole))
    where
      by : Parted a b x y → (a ≡ b) × (x ≡ y)
      by (at_once same is) = (same, is)
      by (sooner more e) = absurd (none-wrong c b second.sigs a x more second.named e wrong)
      by (later more e) = absurd (none-wrong c a first.sigs b y more first.named e wrong_too)

module _ (c : Circuit) (names : List (List ℕ)) where
  one-unknown : (x y : List ℕ) → IsUnknownFirst c names x → IsUnknownFirst c names y → x ≡ y
  one-unknown x y (a, first, unknown) (b, second, unknown_too) = (one-wrong c names x y a b first second (inl unknown) (inl unknown_too)).1

  one-twice : (x y : List ℕ) → IsTwiceFirst c names x → IsTwiceFirst c names y → x ≡ y
  one-twice x y (a, first, twice) (b, second, twice_too) = (one-wrong c names x y a b first second (inr twice) (inr twice_too)).1

  -- a name that stands twice is that of a signal
  unknown-or-twice : (x y : List ℕ) → IsUnknownFirst c names x → ¬ IsTwiceFirst c names y
  unknown-or-twice x y (a, first, unknown) (b, second, twice) =
      let same = one-wrong c names x y a b first second (inl unknown) (inr twice) in
      unknown (subst (Contains c.names) (sym same.1) (listed c b second.sigs second.named y twice))

  unknown-or-named : (x : List ℕ) (sigs : List Sig) → AreNamed c names sigs → ¬ IsUnknownFirst c names x
  unknown-or-named x sigs named (a, first, unknown) = none-wrong c names sigs a x first.after named first.whole (inl unknown)

  twice-or-named : (x : List ℕ) (sigs : List Sig) → AreNamed c names sigs → ¬ IsTwiceFirst c names x
  twice-or-named x sigs named (a, first, twice) = none-wrong c names sigs a x first.after named first.whole (inr twice)

-- ---- one trace

one-text : (c : Circuit) (seed cycles : ℕ) (sigs : List Sig) (text other : List ℕ) → IsCircuit c → All (λ (s : Sig). s.0 < length c.drivers) sigs → IsTraceText c seed cycles sigs text → IsTraceText c seed cycles sigs other
    → text ≡ other
one-text c seed cycles sigs text other is within (v, first, e) (w, second, e_too) =
    e ∙ ap (λ rows. printed c.names (record { cycles = cycles; rows = rows })) (one_trace c seed cycles v w sigs is first second within) ∙ sym e_too

same-text : (c : Circuit) (seed cycles : ℕ) (names : List (List ℕ)) (sigs others : List Sig) (text other : List ℕ) → IsCircuit c → AreNamed c names sigs → AreNamed c names others → IsTraceText c seed cycles sigs text
    → IsTraceText c seed cycles others other → text ≡ other
same-text c seed cycles names sigs others text other is named named_too first second =
    let same : sigs ≡ others = same-signals c is names sigs others named.each named_too.each in
    one-text c seed cycles others text other is (signals_within c is names others named_too) (subst (λ xs. IsTraceText c seed cycles xs text) same first) second

one_refused_name : (c : Circuit) (names : List (List ℕ)) (text other : List ℕ) (status last : Status) → IsCircuit c → RefusedNames c names text status → RefusedNames c names other last → (text ≡ other) × (status ≡ last)
one_refused_name c names text other status last is (unknown_name x unknown) (unknown_name y unknown_too) = (ap unknown_trace_line (one-unknown c names x y unknown unknown_too), refl)
one_refused_name c names text other status last is (unknown_name x unknown) (name_twice y twice) = absurd (unknown-or-twice c names x y unknown twice)
one_refused_name c names text other status last is (name_twice x twice) (unknown_name y unknown) = absurd (unknown-or-twice c names y x unknown twice)
one_refused_name c names text other status last is (name_twice x twice) (name_twice y twice_too) = (ap trace_twice_line (one-twice c names x y twice twice_too), refl)

refused-or-named : (c : Circuit) (names : List (List ℕ)) (text : List ℕ) (status : Status) (sigs : List Sig) → AreNamed c names sigs → ¬ RefusedNames c names text status
refused-or-named c names text status sigs named (unknown_name x unknown) = unknown-or-named c names x sigs named unknown
refused-or-named c names text status sigs named (name_twice x twice) = twice-or-named c names x sigs named twice

pub one_refused_count : (signals cycles : ℕ) (text other : List ℕ) (status last : Status) → RefusedCells signals cycles text status → RefusedCells signals cycles other last → (text ≡ other) × (status ≡ last)
one_refused_count signals cycles text other status last (many_cells many) (many_cells many_too) = (refl, refl)

-- no count of cells is both too many and not
pub refused-or-few : (signals cycles : ℕ) (text : List ℕ) (status : Status) → block_count signals cycles ≤ max_blocks → ¬ RefusedCells signals cycles text status
refused-or-few signals cycles text status few (many_cells many) = omega (arith, many, few)

pub one_on_trace : (c : Circuit) (cycles seed : ℕ) (list text other : List ℕ) (status last : Status) → IsCircuit c → OnTrace c cycles seed list text status → OnTrace c cycles seed list other last → (text ≡ other) × (status ≡ last)
one_on_trace c cycles seed list text other status last is (refused_names _ _ refused) (refused_names _ _ again) = one_refused_name c (names_in list) text other status last is refused again
one_on_trace c cycles seed list text other status last is (refused_names _ _ refused) (refused_cells sigs _ _ named _) = absurd (refused-or-named c (names_in list) text status sigs named refused)
one_on_trace c cycles seed list text other status last is (refused_names _ _ refused) (traced sigs _ named _ _) = absurd (refused-or-named c (names_in list) text status sigs named refused)
one_on_trace c cycles seed list text other status last is (refused_cells sigs _ _ named _) (refused_names _ _ refused) = absurd (refused-or-named c (names_in list) other last sigs named refused)
one_on_trace c cycles seed list text other status last is (refused_cells _ _ _ _ refused) (refused_cells _ _ _ _ again) = one_refused_count (length c.drivers) cycles text other status last refused again
one_on_trace c cycles seed list text other status last is (refused_cells _ _ _ _ refused) (traced _ _ _ few _) = absurd (refused-or-few (length c.drivers) cycles text status few refused)
one_on_trace c cycles seed list text other status last is (traced sigs _ named _ _) (refused_names _ _ refused) = absurd (refused-or-named c (names_in list) other last sigs named refused)
one_on_trace c cycles seed list text other status last is (traced _ _ _ few _) (refused_cells _ _ _ _ refused) = absurd (refused-or-few (length c.drivers) cycles other last few refused)
one_on_trace c cycles seed list text other status last is (traced sigs t named few traces) (traced others u named_too few_too traces_too) =
    (same-text c seed cycles (names_in list) sigs others t u is named named_too traces traces_too, refl)

-- the trace of names of signals, each once, and of few enough cells
pub traced_done : (c : Circuit) (cycles seed : ℕ) (list text : List ℕ) (status : Status) (sigs : List Sig) → AreNamed c (names_in list) sigs → block_count (length c.drivers) cycles ≤ max_blocks → OnTrace c cycles seed list text status
    → status ≡ statuses.Done
traced_done c cycles seed list text status sigs named few (refused_names _ _ refused) = absurd (refused-or-named c (names_in list) text status sigs named refused)
traced_done c cycles seed list text status sigs named few (refused_cells _ _ _ _ refused) = absurd (refused-or-few (length c.drivers) cycles text status few refused)
traced_done c cycles seed list text status sigs named few (traced others _ _ _ traces) = refl
