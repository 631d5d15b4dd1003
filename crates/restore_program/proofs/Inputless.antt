-- Words that ask for what an input holds.
use Rattle.std.proofs.Common.{◌≡◌, ℕ, List, [], ◌∷◌, ap, sym, ◌∙◌, inl, inr}
use Rattle.restore_program.specs.Faults.{NeedsNoInput}
use Rattle.restore_program.specs.Requests.{File, Request, Asks, files_of}
use Rattle.restore_program.proofs.OneRequest.{asked_refused, one_request}

no_files : (words : List (List ℕ)) (request : Request) → Asks words request → NeedsNoInput words → files_of request ≡ []
no_files words request asks (inl refused) = absurd (asked_refused words request asks refused)
no_files words request asks (inr (other, asks_other, none)) = ap files_of (one_request words request other asks asks_other) ∙ none

-- what comes to a file needs an input
pub needs_files : (words : List (List ℕ)) (request : Request) (file : File) (files : List File) → files_of request ≡ file ∷ files → Asks words request → ¬ NeedsNoInput words
needs_files words request file files is asks needs = let wrong : file ∷ files ≡ [] = sym is ∙ no_files words request asks needs in absurd cc
