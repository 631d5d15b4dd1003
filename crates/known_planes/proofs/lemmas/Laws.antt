-- The literals of planes, and how many there are.
pub use Rattle.known_planes.proofs.PlanesLaws.{bits_are_literals, literals_are_of_cells}
pub use Rattle.known_planes.proofs.CountLaws.{literals_are_bits, more_literals_count_more}
pub use Rattle.known_planes.proofs.WordLists.{lists_tell_planes}
