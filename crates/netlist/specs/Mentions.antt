-- What is kept of the names that statements mention.
use Rattle.std.specs.Prelude.{ℕ, List}
use Rattle.sr_model.specs.Declaration.{Declaration, InputNamed, OutputNamed, DriverNamed}

-- the name that a statement mentions first
abbrev pub first_mention : Declaration → List ℕ
first_mention (InputNamed name) = name
first_mention (OutputNamed name) = name
first_mention (DriverNamed target kind pins) = target
