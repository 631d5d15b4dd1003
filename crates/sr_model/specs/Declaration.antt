-- What the statements of a netlist's text declare, without the room of their lists.
use Rattle.std.specs.Prelude.{ℕ, List, map}
use Rattle.sr_model.specs.declared.gates.Kind.{Kind}
use Rattle.sr_model.specs.declared.statements.Statement.{Statement}
use Rattle.sr_model.specs.declared.statements.Statement.TheVariants.{Input, OutputOf, Drive}
use Rattle.sr_model.specs.declared.statements.Numbered.{Numbered}
use Rattle.sr_model.specs.Room.{WithRoom, texts}

-- an input, an output, or a gate or flip-flop with the names of its pins
pub data Declaration : Type 0 where
  InputNamed : List ℕ → Declaration
  OutputNamed : List ℕ → Declaration
  DriverNamed : List ℕ → Kind → List (List ℕ) → Declaration

abbrev pub declaration_of : Statement → Declaration
declaration_of (Input name) = InputNamed name.items
declaration_of (OutputOf name) = OutputNamed name.items
declaration_of (Drive target kind pins) = DriverNamed target.items kind (texts pins)

-- the declarations in order
abbrev pub declared : WithRoom Numbered → List Declaration
declared statements = map (λ s. declaration_of s.statement) statements.items

-- the same, each with its line
abbrev pub declarations_of : WithRoom Numbered → List (ℕ × Declaration)
declarations_of statements = map (λ s. (s.line, declaration_of s.statement)) statements.items
