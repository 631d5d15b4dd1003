-- The printed text, line by line.
use Rattle.std.proofs.Common.{◌≡◌, ℕ, ◌+◌, ◌<◌, List, [], ◌∷◌, ◌++◌, length, get_or, take, map, Option, sym, ap, ◌∙◌}
use Rattle.std.specs.List.{flat_map}
use Rattle.std.proofs.lemmas.List.{append-nil, map-append, take_more}
use Rattle.std.proofs.lemmas.List.Concat.{flat_map-append}
use Rattle.sr_model.specs.declared.cells.Cell.{Cell}
use Rattle.sr_text.specs.Lines.{with_line_feed}
use Rattle.plain_close.specs.declared.log.Step.{Step}
use Rattle.certificates.specs.Logs.{fact_of, facts_of}
use Rattle.certificates.specs.Printed.{cert_text, fact_line, head_line, last_line}

-- the text up to these steps
abbrev pub up_to : List (List ℕ) → List Step → List ℕ
up_to names steps = flat_map with_line_feed (head_line ∷ map (fact_line names) (facts_of steps))

line-more : (lines : List (List ℕ)) (line : List ℕ) → flat_map with_line_feed (lines ++ line ∷ []) ≡ flat_map with_line_feed lines ++ with_line_feed line
line-more lines line = flat_map-append with_line_feed lines (line ∷ []) ∙ ap (λ (t : List ℕ). flat_map with_line_feed lines ++ t) (append-nil (with_line_feed line))

pub step-more : (names : List (List ℕ)) (steps : List Step) (i : ℕ) (step : Step) (old new : List ℕ) → i < length steps → get_or steps i step ≡ step → old ≡ up_to names (take i steps)
    → new ≡ old ++ with_line_feed (fact_line names (fact_of step)) → new ≡ up_to names (take (i + 1) steps)
step-more names steps i step old new lt at is grown =
    let facts : facts_of (take i steps ++ step ∷ []) ≡ facts_of (take i steps) ++ fact_of step ∷ [] = map-append fact_of (take i steps) (step ∷ []) in
    let lines : map (fact_line names) (facts_of (take i steps ++ step ∷ [])) ≡ map (fact_line names) (facts_of (take i steps)) ++ fact_line names (fact_of step) ∷ [] =
    ap (map (fact_line names)) facts ∙ map-append (fact_line names) (facts_of (take i steps)) (fact_of step ∷ []) in
    grown ∙ ap (λ (t : List ℕ). t ++ with_line_feed (fact_line names (fact_of step))) is ∙ sym (line-more (head_line ∷ map (fact_line names) (facts_of (take i steps))) (fact_line names (fact_of step)))
    ∙ ap (λ (ls : List (List ℕ)). flat_map with_line_feed (head_line ∷ ls)) (sym lines) ∙ ap (up_to names) (ap (λ (s : Step). take i steps ++ s ∷ []) (sym at) ∙ sym (take_more steps i step lt))

pub all-printed : (names : List (List ℕ)) (steps : List Step) (clash : Option Cell) (old new : List ℕ) → old ≡ up_to names steps → new ≡ old ++ with_line_feed (last_line names clash)
    → new ≡ cert_text names (facts_of steps) clash
all-printed names steps clash old new is grown =
    grown ∙ ap (λ (t : List ℕ). t ++ with_line_feed (last_line names clash)) is ∙ sym (line-more (head_line ∷ map (fact_line names) (facts_of steps)) (last_line names clash))
