use Rattle.known_planes.proofs.PlanesLaws.{bits_are_literals, literals_are_of_cells, new_words_are_literals, other_literals_stay}
use Rattle.known_planes.proofs.WordLists.{lists_tell_planes}
use Rattle.known_planes.proofs.laws.planes_laws.Goals as goal

pub returns-clause-bits : goal.returns-clause-bits
returns-clause-bits c = bits_are_literals

pub returns-clause-cells : goal.returns-clause-cells
returns-clause-cells c = literals_are_of_cells

pub returns-clause-new : goal.returns-clause-new
returns-clause-new c = new_words_are_literals

pub returns-clause-others : goal.returns-clause-others
returns-clause-others c = other_literals_stay

pub returns-clause-lists : goal.returns-clause-lists
returns-clause-lists c = lists_tell_planes
