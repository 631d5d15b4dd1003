-- What contracts see of inputs and of a sink in memory.
use Rattle.std.specs.Prelude.{◌≡◌, ◌<◌, ◌≤◌, ◌==◌, ◌&&◌, ◌⊎◌, ℕ, zero, suc, Bool, false, IsTrue, IsSome, IsNone, IsSomeAnd, List, [], ◌∷◌, length, drop, Option, None, Some, if◌then◌else◌, slice_get, unwrap_or}
use Rattle.std.specs.List.{list_any}
use Rattle.std.specs.Option.{option_map, option_and_then, ForSome}
use Rattle.std.specs.Str.{bytes_eq}
use Rattle.sr_outside.specs.Counts.{count_after}

-- a name with its bytes
pub record Named : Type 0 where
  pub name : List ℕ
  pub bytes : List ℕ

-- a call on a name: number 0 is its start, and number k the k-th read after its last start
pub record Call : Type 0 where
  pub name : List ℕ
  pub number : ℕ

-- the files, the calls that are to fail, the most bytes that a read gives, the place of the file that was
-- started last, and the counts
pub record InMemory : Type 0 where
  pub files : List Named
  pub failing : List Call
  pub most : ℕ
  pub last : Option ℕ
  pub live : Bool
  pub taken : ℕ
  pub reads : ℕ
  pub starts : ℕ
  pub faults : ℕ

-- the bytes of the first file with this name
abbrev pub bytes_of : List Named → List ℕ → Option (List ℕ)
bytes_of [] name = None
bytes_of (file ∷ files) name =
    if bytes_eq file.name name then Some file.bytes else bytes_of files name

-- the first file with this name stands at this place, counted from 0
abbrev pub IsPlaceOf : List Named → List ℕ → ℕ → Type 0
IsPlaceOf [] name place = ⊥
IsPlaceOf (file ∷ files) name zero = file.name ≡ name
IsPlaceOf (file ∷ files) name (suc place) =
    (bytes_eq file.name name ≡ false) × IsPlaceOf files name place

-- the bytes of the file at this place
abbrev pub bytes_at : List Named → Option ℕ → List ℕ
bytes_at files place =
    unwrap_or (option_map (λ file. file.bytes) (option_and_then (slice_get files) place)) []

-- the name of the file at this place
abbrev pub name_at : List Named → Option ℕ → Option (List ℕ)
name_at files place = option_map (λ file. file.name) (option_and_then (slice_get files) place)

-- whether this call on this name is listed
abbrev pub is_listed : List Call → List ℕ → ℕ → Bool
is_listed calls name number =
    list_any (λ call. bytes_eq call.name name && (call.number == number)) calls

-- whether some call on this name is listed
abbrev pub has_listed : List Call → List ℕ → Bool
has_listed calls name = list_any (λ call. bytes_eq call.name name) calls

-- what was started last is one of the files, and of a live input no more was taken than it has
pub record IsInPlace (files : List Named) (last : Option ℕ) (live : Bool) (taken : ℕ) : Type 0 where
  pub place : ForSome last (λ place. place < length files)
  pub started : IsTrue live → IsSome last
  pub within : IsTrue live → taken ≤ length (bytes_at files last)

-- the name that was started last, if it was held
abbrev pub last_name : InMemory → Option (List ℕ)
last_name inputs = name_at inputs.files inputs.last

-- the bytes of the file that was started last that were not read
abbrev pub unread : InMemory → List ℕ
unread inputs = drop inputs.taken (bytes_at inputs.files inputs.last)

-- a start of this name is to fail: the name is not held, or its start is listed
abbrev pub StartFails : InMemory → List ℕ → Type 0
StartFails inputs name =
    IsNone (bytes_of inputs.files name) ⊎ IsTrue (is_listed inputs.failing name 0)

-- the next read is to fail: it is listed as a call on the name that was started last
abbrev pub ReadFails : InMemory → Type 0
ReadFails inputs = IsSomeAnd (last_name inputs) (λ name.
    IsTrue (is_listed inputs.failing name (count_after inputs.reads 1)))

-- the bytes taken so far, how many can be taken in all, and the most that a put takes
pub record Bounded : Type 0 where
  pub bytes : List ℕ
  pub room : ℕ
  pub most : ℕ
  pub faults : ℕ
