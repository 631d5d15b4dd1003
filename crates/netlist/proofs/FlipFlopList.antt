-- The flip-flops among the nodes.
use Rattle.std.proofs.Common.{ℕ, ◌≡◌, ◌+◌, ◌<◌, Bool, List, [], ◌∷◌, ◌++◌, length, cond, get_or, arith, sym, ap, ◌∙◌}
use Rattle.std.proofs.lemmas.List.FromFn.{filter_of_map_range_with_len_more}
use Rattle.std.specs.List.{filter}
use Rattle.sr_model.specs.declared.cells.Sig.{Sig}
use Rattle.netlist.specs.declared.wiring.Node.{Node}
use Rattle.netlist.specs.Wiring.{driver_at, is_flip_flop, signals_below}
use Rattle.netlist.specs.Nodes.{driver_of, drivers_from}
use Rattle.netlist.proofs.EachItem.{driver_at-node}

-- the flip-flops among the signals below n
abbrev pub flip_flops_below : List Sig → List Node → ℕ → List Sig
flip_flops_below pins nodes n = filter (λ s. is_flip_flop (driver_at (drivers_from pins nodes) s.0)) (signals_below n)

-- one more node
pub flip_flops-more : (pins : List Sig) (nodes : List Node) (n : ℕ) (d : Node) (found new : List Sig) (is : Bool) → n < length nodes → is ≡ is_flip_flop (driver_of pins (get_or nodes n d))
    → found ≡ flip_flops_below pins nodes n → new ≡ found ++ cond is (record { 0 = n } ∷ []) [] → new ≡ flip_flops_below pins nodes (n + 1)
flip_flops-more pins nodes n d found new is h test before more =
    more ∙ ap (λ xs. xs ++ cond is (record { 0 = n } ∷ []) []) before
    ∙ ap (λ b. flip_flops_below pins nodes n ++ cond b (record { 0 = n } ∷ []) []) (test ∙ ap is_flip_flop (sym (driver_at-node pins nodes n d h)))
    ∙ sym (filter_of_map_range_with_len_more (λ (s : Sig). is_flip_flop (driver_at (drivers_from pins nodes) s.0)) (λ k. record { 0 = k }) 0 n n (omega arith))
