-- Names once each, and their places; the mentions of statements.
pub use Rattle.netlist.proofs.Once.{AllPairs-from_apart, Contains-from_has, IsApart, apart_from_AllPairs, has, has-append, has-from_Contains, lacks-from_has, once-apart, other_name}
pub use Rattle.netlist.proofs.Places.{get_or-map_place, get_or-place_in, place_in-get_or, place_in-lt}
pub use Rattle.netlist.proofs.Statements.{Contains-from_once, Contains-once, all_mentioned, driven_mentioned, without_lines-stated}
pub use Rattle.netlist.proofs.Settling.{found_member}
