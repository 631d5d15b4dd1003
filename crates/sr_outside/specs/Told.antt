-- What inputs and sinks tell of themselves: an option, none where they don't tell.
use Rattle.std.specs.Prelude.{◌≡◌, ◌⊎◌, ℕ, ◌+◌, ◌<◌, ◌≤◌, Bool, false, IsTrue, IsSome, IsNone, IsSomeAnd, IfSome, OnSome, List, length, take, Option, None, Some, is_some, if◌then◌else◌}
use Rattle.std.specs.Io.KnownBytes.{append_known}

-- a name's bytes, or none where the name is not held
abbrev pub Held : Type 0
Held = List ℕ → Option (List ℕ)

-- the name, or none where it is not held
abbrev pub held_name : Held → List ℕ → Option (List ℕ)
held_name held name = if is_some (held name) then Some name else None

-- it is told that some call on this name is to fail
abbrev pub IsShaky : Option (List ℕ → Bool) → List ℕ → Type 0
IsShaky shaky name = IsSomeAnd shaky (λ is_shaky. IsTrue (is_shaky name))

-- it is told that this name is held and that no call on it is to fail
pub record IsSteady (held : Option Held) (shaky : Option (List ℕ → Bool)) (name : List ℕ)
    : Type 0 where
  pub is_held : IsSomeAnd held (λ bytes_of. IsSome (bytes_of name))
  pub not_shaky : IsSomeAnd shaky (λ is_shaky. is_shaky name ≡ false)

-- where it is told, the name is not held or is shaky
abbrev pub MayFail : Option Held → Option (List ℕ → Bool) → List ℕ → Type 0
MayFail held shaky name = IfSome held (λ bytes_of. IsNone (bytes_of name) ⊎ IsShaky shaky name)

-- where it is told, the name that was started last is shaky
abbrev pub IsLastShaky : Option Held → Option (List ℕ → Bool) → Option (Option (List ℕ)) → Type 0
IsLastShaky held shaky last = OnSome held (IsSomeAnd last (λ name. IsSomeAnd name (IsShaky shaky)))

-- where both are told, as many bytes are written as there is room for
abbrev pub IsFull : Option (List ℕ) → Option ℕ → Type 0
IsFull written room = IfSome written (λ bytes. IfSome room (λ most. length bytes ≡ most))

-- where both are told, no more bytes are written than there is room for
abbrev pub FitsRoom : Option (List ℕ) → Option ℕ → Type 0
FitsRoom written room = IfSome written (λ bytes. IfSome room (λ most. length bytes ≤ most))

-- where both are told, there is no room for the whole text
abbrev pub LacksPlace : Option (List ℕ) → Option ℕ → List ℕ → Type 0
LacksPlace written room text = IfSome written (λ bytes. IfSome room (λ most. most < length bytes + length text))

-- some of the piece was appended, from its front, and not all of it
pub record AppendsPart (before after : Option (List ℕ)) (piece : List ℕ) : Type 0 where
  pub count : ℕ
  pub proper : count < length piece
  pub appended : after ≡ append_known before (take count piece)
