-- The files that a request comes to.
use Rattle.std.proofs.Common.{ℕ, List, [], ◌∷◌, Option, None, Some, refl}
use Rattle.std.specs.Prelude.{IfSome}
use Rattle.std.proofs.lemmas.List.Elements.{All-cons, All-nil}
use Rattle.sr_outside.specs.Told.{Held}
use Rattle.netlist.specs.Circuit.{Circuit, circuit_of}
use Rattle.dump_reader.specs.Recording.{Recording}
use Rattle.report.specs.declared.refusal.Part.TheVariants as parts
use Rattle.restore_program.specs.Answer.{IsDumpOf, IsNetlistOf}
use Rattle.restore_program.specs.Faults.{AreAccepted, IsAcceptedOn, IsComeTo}
use Rattle.restore_program.specs.Requests.{File}

-- one that serves where no dump is read
no_recording : Recording
no_recording = record { cycles = 1; rows = [] }

none_before : (told : Option Held) → IfSome told (λ held. AreAccepted held [])
none_before None = tt
none_before (Some held) = (circuit_of [], no_recording, All-nil (IsAcceptedOn (circuit_of []) no_recording held))

-- the first one is come to
pub first_file : (told : Option Held) (file : File) (files : List File) → IsComeTo told (file ∷ files) file
first_file told file files = record { before = []; after = files; is_one = refl; accepted = none_before told }

netlist_before : (told : Option Held) (netlist : List ℕ) (c : Circuit) → IfSome told (λ held. IsNetlistOf held netlist c) → IfSome told (λ held. AreAccepted held ((parts.Netlist, netlist) ∷ []))
netlist_before None netlist c is = tt
netlist_before (Some held) netlist c is = (c, no_recording, All-cons (IsAcceptedOn c no_recording held) (parts.Netlist, netlist) [] is (All-nil (IsAcceptedOn c no_recording held)))

dump_before : (told : Option Held) (netlist dump : List ℕ) (c : Circuit) (d : Recording) → IfSome told (λ held. IsNetlistOf held netlist c) → IfSome told (λ held. IsDumpOf held dump c d)
    → IfSome told (λ held. AreAccepted held ((parts.Netlist, netlist) ∷ (parts.Dump, dump) ∷ []))
dump_before None netlist dump c d is read = tt
dump_before (Some held) netlist dump c d is read =
    (c, d, All-cons (IsAcceptedOn c d held) (parts.Netlist, netlist) ((parts.Dump, dump) ∷ []) is (All-cons (IsAcceptedOn c d held) (parts.Dump, dump) [] read (All-nil (IsAcceptedOn c d held))))

-- the second one is, behind an accepted netlist
pub behind_netlist : (told : Option Held) (netlist : List ℕ) (c : Circuit) (file : File) (files : List File) → IfSome told (λ held. IsNetlistOf held netlist c)
    → IsComeTo told ((parts.Netlist, netlist) ∷ file ∷ files) file
behind_netlist told netlist c file files is = record { before = (parts.Netlist, netlist) ∷ []; after = files; is_one = refl; accepted = netlist_before told netlist c is }

-- the third one is, behind an accepted netlist and an accepted dump
pub behind_dump : (told : Option Held) (netlist dump : List ℕ) (c : Circuit) (d : Recording) (file : File) (files : List File) → IfSome told (λ held. IsNetlistOf held netlist c) → IfSome told (λ held. IsDumpOf held dump c d)
    → IsComeTo told ((parts.Netlist, netlist) ∷ (parts.Dump, dump) ∷ file ∷ files) file
behind_dump told netlist dump c d file files is read =
    record { before = (parts.Netlist, netlist) ∷ (parts.Dump, dump) ∷ []; after = files; is_one = refl; accepted = dump_before told netlist dump c d is read }
