-- What the flat arrays of a netlist hold.
use Rattle.std.specs.Prelude.{ℕ, ◌≡◌, ◌+◌, ◌<◌, ◌≤◌, Bool, List, [], length, slice_index, slice_index_or, slice_range}
use Rattle.std.specs.List.{All}
use Rattle.sr_model.specs.Limits.{max_signals}
use Rattle.sr_model.specs.declared.cells.Sig.{Sig}
use Rattle.sr_model.specs.Netlist.{Driver}
use Rattle.netlist.specs.declared.wiring.Node.{Node}
use Rattle.netlist.specs.Entries.{AreMarksOf}
use Rattle.netlist.specs.Wiring.{driver_at, pins_of, ArePinPlaces, readers, other_readers, signals_of, pin_parities, flip_flops}
use Rattle.netlist.specs.Nodes.{drivers_from, IsNodeWithin}

-- the lists are these, one for each of so many signals
pub record AreListsOf (count : ℕ) (lists : List (List Sig)) (list_of : Sig → List Sig) : Type 0 where
  pub one_each : length lists ≡ count
  pub each : (s : ℕ) → s < count → slice_index_or lists s [] ≡ list_of (record { 0 = s })

-- of the first n signals the places of the pins, each signal's from its start on
pub record ArePlaces (drivers : List Driver) (n : ℕ) (starts places : List ℕ) : Type 0 where
  pub starts_size : length starts ≡ n
  pub within : (s : ℕ) → s < n → slice_index starts s + length (pins_of (driver_at drivers s)) ≤ length places
  pub each : (s : ℕ) → s < n
      → ArePinPlaces drivers (record { 0 = s }) (slice_range places (slice_index starts s) (slice_index starts s + length (pins_of (driver_at drivers s))))

-- the nodes and pins are a netlist's, and the readers, the other readers, the signals, the parities and the pins' places of each signal and the flip-flops are those of its drivers
pub record IsIndexed (pins : List Sig) (nodes : List Node) (reader_lists other_lists signal_lists : List (List Sig)) (parities : List Bool) (place_starts places : List ℕ) (flip_flop_list : List Sig) : Type 0 where
  pub few : length nodes ≤ max_signals
  pub within : All (IsNodeWithin (length pins)) nodes
  pub wired : All (λ pin. pin.0 < length nodes) pins
  pub all_readers : AreListsOf (length nodes) reader_lists (readers (drivers_from pins nodes))
  pub all_others : AreListsOf (length nodes) other_lists (other_readers (drivers_from pins nodes))
  pub all_signals : AreListsOf (length nodes) signal_lists (signals_of (drivers_from pins nodes))
  pub all_parities : AreMarksOf signal_lists parities (pin_parities (drivers_from pins nodes))
  pub all_places : ArePlaces (drivers_from pins nodes) (length nodes) place_starts places
  pub all_flip_flops : flip_flop_list ≡ flip_flops (drivers_from pins nodes)
