-- What the words of a `simulate` ask for, where each word is seen by its text.
use Rattle.std.proofs.Common.{◌≡◌, ◌<◌, ◌≤◌, ℕ, List, length, get_or, map, Some, refl, sym, ap, subst, ◌∙◌}
use Rattle.std.specs.Prelude.{option_map}
use Rattle.std.specs.List.{slice_get}
use Rattle.std.proofs.lemmas.List.{length-map}
use Rattle.std.proofs.lemmas.Option.{same_Some, slice_get-map, slice_get_read, slice_get_within}
use Rattle.sr_model.specs.Limits.{max_cycles}
use Rattle.restore_program.specs.TraceRefusals.{HasListAt}
use Rattle.restore_program.specs.Words.{Gives, IsBadNumber, Simulates, trace_rule}
use Rattle.restore_program.specs.Requests.{Traces}
use Rattle.restore_program.proofs.Gifts.{list_at}

-- ---- the word at a place

pub text_here : {A : Type 0} (text : A → List ℕ) (xs : List A) (place : ℕ) (x : A) (seen : List ℕ) → place < length xs → x ≡ get_or xs place x → seen ≡ text x → slice_get (map text xs) place ≡ Some seen
text_here text xs place x seen within at is = slice_get-map text xs place ∙ ap (option_map text) (slice_get_read xs (length xs) place x refl within at) ∙ ap Some (sym is)

pub within_words : {A : Type 0} (text : A → List ℕ) (xs : List A) (place : ℕ) (word : List ℕ) → slice_get (map text xs) place ≡ Some word → place < length xs
within_words text xs place word at = subst (λ n. place < n) (length-map xs text) (slice_get_within (map text xs) place word at)

module _ {A : Type 0} (text : A → List ℕ) (xs : List A) where
  -- ---- a simulation

  module _ (netlist : List ℕ) (cycles seed trace : ℕ) (is : Simulates (map text xs) netlist cycles seed trace) where
    pub trace_within : trace < length xs
    trace_within = within_words text xs trace is.has_trace.1.word is.has_trace.1.at

    pub cycles_counted : (1 ≤ cycles) × (cycles ≤ max_cycles)
    cycles_counted = let number = is.has_cycles.3 in (number.1, number.2)

    -- the netlist by its word
    pub same_netlist : (x : A) (seen : List ℕ) → 1 < length xs → x ≡ get_or xs 1 x → seen ≡ text x → Simulates (map text xs) seen cycles seed trace
    same_netlist x seen within at e = subst (λ n. Simulates (map text xs) n cycles seed trace) (same_Some netlist seen (sym is.is_netlist ∙ text_here text xs 1 x seen within at e)) is

    -- the list of names by its word
    module _ (x : A) (seen : List ℕ) (at : x ≡ get_or xs trace x) (e : seen ≡ text x) where
      pub has_list : (list : List ℕ) × Gives seen trace_rule.name list
      has_list =
          let gift = is.has_trace.1 in
          (is.has_trace.0, subst (λ w. Gives w trace_rule.name is.has_trace.0) (same_Some gift.word seen (sym gift.at ∙ text_here text xs trace x seen trace_within at e)) gift.gives)

      pub traces_list : (list : List ℕ) → Gives seen trace_rule.name list → Traces (map text xs) netlist cycles seed list
      traces_list list gives = (trace, is, record { behind = is.has_trace.1.behind; word = seen; at = text_here text xs trace x seen trace_within at e; gives = gives })

      pub listed : (list : List ℕ) → Gives seen trace_rule.name list → HasListAt (map text xs) trace list
      listed list gives = list_at (map text xs) trace seen list (text_here text xs trace x seen trace_within at e) gives

  -- ---- a bad number

  pub bad_within : (place : ℕ) → IsBadNumber (map text xs) place → place < length xs
  bad_within place (k, rule, h, e, (shaped, ((k', key, h', e', (value, gift, wrong)), before))) = within_words text xs place gift.word gift.at
