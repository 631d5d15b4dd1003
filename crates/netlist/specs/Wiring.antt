-- What a netlist's drivers say of each signal: what drives it, its pins and its readers.
use Rattle.std.specs.Prelude.{ℕ, ◌≡◌, ◌%◌, ◌<◌, ◌==◌, ◌&&◌, ◌||◌, ⊤, Bool, true, false, not, List, [], length, map, Option, Some, None, slice_get, slice_index_or}
use Rattle.std.specs.List.{All, filter, list_any, count_by, range_with_len, sum_by}
use Rattle.sr_model.specs.declared.gates.Kind.{Kind}
use Rattle.sr_model.specs.declared.cells.Sig.{Sig}
use Rattle.sr_model.specs.Gate.{is_flip_flop_kind, IsPinCount}
use Rattle.sr_model.specs.Netlist.{Driver, Input, Driven}

-- what drives signal s
abbrev pub driver_at : List Driver → ℕ → Driver
driver_at drivers s = slice_index_or drivers s Input

-- the kind of gate, or flip-flop; none for an input
abbrev pub kind_of : Driver → Option Kind
kind_of Input = None
kind_of (Driven kind pins) = Some kind

-- the pins from left to right; none for an input
abbrev pub pins_of : Driver → List Sig
pins_of Input = []
pins_of (Driven kind pins) = pins

-- the number of pins over all
abbrev pub pin_sum : List Driver → ℕ
pin_sum drivers = sum_by (λ driver. length (pins_of driver)) drivers

-- driven by a flip-flop
abbrev pub is_flip_flop : Driver → Bool
is_flip_flop Input = false
is_flip_flop (Driven kind pins) = is_flip_flop_kind kind

-- driven by a gate
abbrev pub is_gate : Driver → Bool
is_gate Input = false
is_gate (Driven kind pins) = not (is_flip_flop_kind kind)

-- the signals with numbers below n, ascending
abbrev pub signals_below : ℕ → List Sig
signals_below n = map (λ s. record { 0 = s }) (range_with_len 0 n)

-- the signals that a flip-flop drives, ascending
abbrev pub flip_flops : List Driver → List Sig
flip_flops drivers = filter (λ s. is_flip_flop (driver_at drivers s.0)) (signals_below (length drivers))

-- whether s is among the pins
abbrev pub reads : Driver → Sig → Bool
reads driver s = list_any (λ pin. pin.0 == s.0) (pins_of driver)

-- the signals whose gate or flip-flop reads s, each once, ascending
abbrev pub readers : List Driver → Sig → List Sig
readers drivers s = filter (λ t. reads (driver_at drivers t.0) s) (signals_below (length drivers))

-- the signals other than s whose gate or flip-flop reads s, each once, ascending
abbrev pub other_readers : List Driver → Sig → List Sig
other_readers drivers s = filter (λ t. not (t.0 == s.0)) (readers drivers s)

-- driven by a gate or flip-flop
abbrev pub is_driven : Driver → Bool
is_driven Input = false
is_driven (Driven kind pins) = true

-- whether s is t or among its pins, where a gate or flip-flop drives t
abbrev pub has_signal : Driver → Sig → Sig → Bool
has_signal driver t s = is_driven driver && (s.0 == t.0 || reads driver s)

-- the signals of the gate or flip-flop that drives t: t and its pins, each once, ascending; none for an input
abbrev pub signals_of : List Driver → Sig → List Sig
signals_of drivers t = filter (has_signal (driver_at drivers t.0) t) (signals_below (length drivers))

-- whether s stands an odd number of times among the pins
abbrev pub is_odd_pin : Driver → Sig → Bool
is_odd_pin driver s = count_by (λ pin. pin.0 == s.0) (pins_of driver) % 2 == 1

-- and so for each of the signals of the gate or flip-flop that drives s, in their order
abbrev pub pin_parities : List Driver → Sig → List Bool
pin_parities drivers s = map (is_odd_pin (driver_at drivers s.0)) (signals_of drivers s)

-- at these places among the signals of the gate or flip-flop that drives s stand its pins, from left to right
abbrev pub ArePinPlaces : List Driver → Sig → List ℕ → Type 0
ArePinPlaces drivers s places = map (slice_get (signals_of drivers s)) places ≡ map Some (pins_of (driver_at drivers s.0))

-- each pin is a signal of the netlist
abbrev pub IsWired : List Driver → Type 0
IsWired drivers = All (λ driver. All (λ pin. pin.0 < length drivers) (pins_of driver)) drivers

-- the kind may have so many pins
abbrev pub HasPinCount : Driver → Type 0
HasPinCount Input = ⊤
HasPinCount (Driven kind pins) = IsPinCount kind (length pins)

-- and so for each driver
abbrev pub HasPinCounts : List Driver → Type 0
HasPinCounts drivers = All HasPinCount drivers
