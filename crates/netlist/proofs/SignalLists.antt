-- The lists of signals, by the readers of each signal.
use Rattle.std.proofs.Common.{ℕ, ◌≡◌, ◌+◌, ◌<◌, ◌&&◌, ◌||◌, Bool, true, false, Option, Some, None, List, [], ◌∷◌, ◌++◌, length, eqb, cond, get_or, arith, sym, ap, ◌∙◌, refl, subst, inl, inr}
use Rattle.std.proofs.lemmas.Bool.{cases_lt, cases_Bool, eqb-true, eq-eqb}
use Rattle.std.proofs.lemmas.List.{get_or-map, get_or_past, length-map}
use Rattle.std.proofs.lemmas.List.FromFn.{length-range_with_len, get_or-range_with_len}
use Rattle.std.proofs.lemmas.List.Folds.{list_any-append, list_any_at}
use Rattle.std.proofs.lemmas.Map.Views.{any-filter_same}
use Rattle.std.proofs.lemmas.List.Elements.{All-append, All-filter, All-nil, All-cons}
use Rattle.netlist.proofs.Marks.{signals_within}
use Rattle.std.specs.List.{All, range_with_len}
use Rattle.sr_model.specs.declared.cells.Sig.{Sig}
use Rattle.sr_model.specs.Netlist.{Driver, Input, Driven}
use Rattle.netlist.specs.Entries.{has_sig}
use Rattle.netlist.specs.declared.wiring.Node.{Node}
use Rattle.sr_model.specs.declared.gates.Kind.{Kind}
use Rattle.netlist.proofs.EachItem.{driver_at-node}
use Rattle.netlist.specs.Wiring.{driver_at, reads, readers, signals_below, is_driven, has_signal}
use Rattle.netlist.specs.Nodes.{driver_by, drivers_from}

abbrev sig : ℕ → Sig
sig s = record { 0 = s }

-- the signals below n have t where t is below n
pub below-has : (n t : ℕ) → t < n → has_sig (signals_below n) t ≡ true
below-has n t h =
    let size : t < length (range_with_len 0 n) = subst (λ m. t < m) (sym (length-range_with_len 0 n)) h in
    let place : get_or (range_with_len 0 n) t 0 ≡ t = get_or-range_with_len 0 n t 0 h ∙ zero-add t in
    let at : get_or (signals_below n) t (sig 0) ≡ sig t = get_or-map sig (range_with_len 0 n) t 0 (sig 0) size ∙ ap sig place in
    let within : t < length (signals_below n) = subst (λ m. t < m) (sym (length-map (range_with_len 0 n) sig)) size in
    list_any_at (λ (x : Sig). eqb x.0 t) (signals_below n) t (sig 0) within (ap (λ (x : Sig). eqb x.0 t) at ∙ eq-eqb t t refl)
  where
    zero-add : (s : ℕ) → 0 + s ≡ s
    zero-add s = omega arith

and-true : (b : Bool) → (b && true) ≡ b
and-true true = refl
and-true false = refl

or-true : (b : Bool) → (b || true) ≡ true
or-true true = refl
or-true false = refl

or-false : (b : Bool) → (b || false) ≡ b
or-false true = refl
or-false false = refl

-- t is among the readers of s where it reads s
reader-among : (drivers : List Driver) (s : Sig) (t : ℕ) → has_sig (readers drivers s) t ≡ reads (driver_at drivers t) s
reader-among drivers s t =
    any-filter_same (λ (x : Sig). eqb x.0 t) (λ r. reads (driver_at drivers r.0) s) (reads (driver_at drivers t) s)
    (λ r is. ap (λ n. reads (driver_at drivers n) s) (eqb-true r.0 t is)) (signals_below (length drivers))
    ∙ elim (cases_lt t (length drivers)) [
      | inl h ↦ ap (λ b. reads (driver_at drivers t) s && b) (below-has (length drivers) t h) ∙ and-true (reads (driver_at drivers t) s)
      | inr h ↦
          let none : reads (driver_at drivers t) s ≡ false = ap (λ (driver : Driver). reads driver s) (get_or_past drivers t Input h) in
          ap (λ b. b && has_sig (signals_below (length drivers)) t) none ∙ sym none
    ]

-- what no gate or flip-flop drives reads nothing
pub undriven-reads : (driver : Driver) (s : Sig) → is_driven driver ≡ false → reads driver s ≡ false
undriven-reads Input s h = refl
undriven-reads (Driven kind pins) s h = absurd cc

same-signal : (read driven : Bool) → (driven ≡ false → read ≡ false) → (read || (driven && true)) ≡ (driven && (true || read))
same-signal read true h = or-true read
same-signal read false h = or-false read ∙ h refl

other-signal : (read driven : Bool) (own : Bool) → (driven ≡ false → read ≡ false) → (read || (own && false)) ≡ (driven && (false || read))
other-signal read true true h = or-false read
other-signal read true false h = or-false read
other-signal read false true h = or-false read ∙ h refl
other-signal read false false h = or-false read ∙ h refl

own-list : (driven : Bool) (s t : ℕ) → has_sig (cond driven (sig s ∷ []) []) t ≡ (driven && eqb s t)
own-list true s t = or-false (eqb s t)
own-list false s t = refl

-- the lists that signal s is in
pub lists-of : (drivers : List Driver) (s t : ℕ) → has_sig (readers drivers (record { 0 = s }) ++ cond (is_driven (driver_at drivers s)) (record { 0 = s } ∷ []) []) t ≡ has_signal (driver_at drivers t) (record { 0 = t }) (record { 0 = s })
lists-of drivers s t =
    list_any-append (λ (x : Sig). eqb x.0 t) (readers drivers (sig s)) (cond (is_driven (driver_at drivers s)) (sig s ∷ []) [])
    ∙ ap (λ b. b || has_sig (cond (is_driven (driver_at drivers s)) (sig s ∷ []) []) t) (reader-among drivers (sig s) t)
    ∙ ap (λ b. reads (driver_at drivers t) (sig s) || b) (own-list (is_driven (driver_at drivers s)) s t)
    ∙ elim (cases_Bool (eqb s t)) [
      | inl same ↦
          let driven : is_driven (driver_at drivers s) ≡ is_driven (driver_at drivers t) = ap (λ n. is_driven (driver_at drivers n)) (eqb-true s t same) in
          ap (λ b. reads (driver_at drivers t) (sig s) || (b && eqb s t)) driven
          ∙ ap (λ b. reads (driver_at drivers t) (sig s) || (is_driven (driver_at drivers t) && b)) same
          ∙ same-signal (reads (driver_at drivers t) (sig s)) (is_driven (driver_at drivers t)) (undriven-reads (driver_at drivers t) (sig s))
          ∙ ap (λ b. is_driven (driver_at drivers t) && (b || reads (driver_at drivers t) (sig s))) (sym same)
      | inr differ ↦
          ap (λ b. reads (driver_at drivers t) (sig s) || (is_driven (driver_at drivers s) && b)) differ
          ∙ other-signal (reads (driver_at drivers t) (sig s)) (is_driven (driver_at drivers t)) (is_driven (driver_at drivers s)) (undriven-reads (driver_at drivers t) (sig s))
          ∙ ap (λ b. is_driven (driver_at drivers t) && (b || reads (driver_at drivers t) (sig s))) (sym differ)
    ]

driven-by : (kind : Option Kind) (ps qs : List Sig) → is_driven (driver_by kind ps) ≡ is_driven (driver_by kind qs)
driven-by None ps qs = refl
driven-by (Some kind) ps qs = refl

-- the lists of a node's signal, as they are put together
pub node-lists : (pins : List Sig) (nodes : List Node) (n : ℕ) (d : Node) (cleared its_readers put its : List Sig) → n < length nodes
    → cleared ≡ [] → its_readers ≡ readers (drivers_from pins nodes) (record { 0 = n })
    → put ≡ cleared ++ its_readers ++ cond (is_driven (driver_by (get_or nodes n d).kind [])) (record { 0 = n } ∷ []) [] → its ≡ put
    → its ≡ readers (drivers_from pins nodes) (record { 0 = n }) ++ cond (is_driven (driver_at (drivers_from pins nodes) n)) (record { 0 = n } ∷ []) []
node-lists pins nodes n d cleared its_readers put its h empty is together same =
    same ∙ together ∙ ap (λ xs. xs ++ its_readers ++ cond (is_driven (driver_by (get_or nodes n d).kind [])) (sig n ∷ []) []) empty
    ∙ ap (λ rs. rs ++ cond (is_driven (driver_by (get_or nodes n d).kind [])) (sig n ∷ []) []) is
    ∙ ap (λ b. readers (drivers_from pins nodes) (sig n) ++ cond b (sig n ∷ []) []) (driven-by (get_or nodes n d).kind [] _ ∙ ap is_driven (sym (driver_at-node pins nodes n d h)))

own-within : (driven : Bool) (n m : ℕ) → n < m → All (λ (x : Sig). x.0 < m) (cond driven (sig n ∷ []) [])
own-within true n m h = All-cons (λ (x : Sig). x.0 < m) (sig n) [] h (All-nil (λ (x : Sig). x.0 < m))
own-within false n m h = All-nil (λ (x : Sig). x.0 < m)

readers-within : (drivers : List Driver) (n : ℕ) → n < length drivers → All (λ x. x.0 < length drivers) (readers drivers (record { 0 = n }) ++ cond (is_driven (driver_at drivers n)) (record { 0 = n } ∷ []) [])
readers-within drivers n h =
    All-append (λ (x : Sig). x.0 < length drivers) (readers drivers (sig n)) _
    (All-filter (λ r. reads (driver_at drivers r.0) (sig n)) (λ (x : Sig). x.0 < length drivers) (signals_below (length drivers)) (signals_within (length drivers)))
    (own-within (is_driven (driver_at drivers n)) n (length drivers) h)

-- they are signals of the netlist
pub lists-within : (drivers : List Driver) (n m : ℕ) (its : List Sig) → length drivers ≡ m → n < m
    → its ≡ readers drivers (record { 0 = n }) ++ cond (is_driven (driver_at drivers n)) (record { 0 = n } ∷ []) [] → All (λ x. x.0 < m) its
lists-within drivers n m its size h is =
    subst (λ xs. All (λ (x : Sig). x.0 < m) xs) (sym is)
    (subst (λ k. All (λ (x : Sig). x.0 < k) (readers drivers (sig n) ++ cond (is_driven (driver_at drivers n)) (sig n ∷ []) [])) size (readers-within drivers n (omega (arith, size, h))))
