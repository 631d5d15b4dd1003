-- Words are no command, or have a first bad number, or ask for something.
use Rattle.std.proofs.Common.{◌⊎◌, ◌<◌, ◌^◌, ◌-◌, ℕ, List, [], length, get_or, inl, inr, refl, lit<, arith}
use Rattle.std.specs.Prelude.{Contains}
use Rattle.std.proofs.lemmas.Option.{slice_get-get_or}
use Rattle.sr_model.specs.Limits.{max_cycles, max_signals}
use Rattle.restore_program.specs.Requests.{Asks, Request, certification, checking, loading, printing, restoration, selection, simulation}
use Rattle.restore_program.specs.WordLaws.{WordsAreDecided}
use Rattle.restore_program.specs.Words.{CommandRule, IsBadAt, IsBadNumber, IsCommand, IsShaped, all_rule, certify_rule, check_rule, command_rules, cycles_rule, load_rule, number_rule, print_rule, restore_rule, seed_rule, select_rule, signals_rule, simulate_rule, trace_rule, width_rule}
use Rattle.restore_program.proofs.CommandShapes.{certify_is_one, check_is_one, load_is_one, no_shape, print_is_one, restore_is_one, select_is_one, simulate_is_one}
use Rattle.restore_program.proofs.CommandWords.{shape_print}
use Rattle.restore_program.proofs.DecidedNumbers.{choice_of, first_bad, gift_behind, good_gift}
use Rattle.restore_program.proofs.DecidedShapes.{decided_shape}

module _ (words : List (List ℕ)) where
  abbrev NoBad : CommandRule → Type 0
  NoBad rule = (place : ℕ) → ¬ IsBadAt rule words place

  abbrev AsksSome : Type 0
  AsksSome = (request : Request) × Asks words request

  asked_restore : IsShaped restore_rule words → AsksSome
  asked_restore shaped =
      let there : 2 < length words = shaped.files in
      let before : 1 < length words = omega (arith, there) in
      let chosen = choice_of restore_rule words all_rule in (
        restoration (get_or words 1 []) (get_or words 2 []) chosen.0,
        record { shaped = shaped; is_netlist = slice_get-get_or words 1 [] before; is_dump = slice_get-get_or words 2 [] there; has_all = chosen.1 },
      )

  asked_print : IsShaped print_rule words → AsksSome
  asked_print shaped = let print = shape_print words shaped in (printing print.0, print.1)

  asked_simulate : IsShaped simulate_rule words → NoBad simulate_rule → AsksSome
  asked_simulate shaped good =
      let cycles = good_gift simulate_rule words cycles_rule 0 1 max_cycles (lit< tt) refl refl good ((shaped.given 0 cycles_rule (lit< tt)).given refl) in
      let seed = good_gift simulate_rule words seed_rule 1 0 (2 ^ 64 - 1) (lit< tt) refl refl good ((shaped.given 1 seed_rule (lit< tt)).given refl) in
      let trace = gift_behind simulate_rule words trace_rule ((shaped.given 2 trace_rule (lit< tt)).given refl) in (
        simulation (get_or words 1 []) cycles.0 seed.0 trace.1,
        (
          trace.0,
          record { shaped = shaped; is_netlist = slice_get-get_or words 1 [] shaped.files; has_cycles = cycles.1; has_seed = seed.1; has_trace = (trace.1, trace.2) },
          trace.2,
        ),
      )

  asked_select : IsShaped select_rule words → NoBad select_rule → AsksSome
  asked_select shaped good =
      let width = good_gift select_rule words width_rule 0 1 max_signals (lit< tt) refl refl good ((shaped.given 0 width_rule (lit< tt)).given refl) in
      let cycles = good_gift select_rule words cycles_rule 1 1 max_cycles (lit< tt) refl refl good ((shaped.given 1 cycles_rule (lit< tt)).given refl) in
      let seed = good_gift select_rule words seed_rule 2 0 (2 ^ 64 - 1) (lit< tt) refl refl good ((shaped.given 2 seed_rule (lit< tt)).given refl) in (
        selection (get_or words 1 []) width.0 cycles.0 seed.0,
        record { shaped = shaped; is_netlist = slice_get-get_or words 1 [] shaped.files; has_width = width.1; has_cycles = cycles.1; has_seed = seed.1 },
      )

  asked_load : IsShaped load_rule words → NoBad load_rule → AsksSome
  asked_load shaped good =
      let number = good_gift load_rule words number_rule 0 0 (2 ^ 64 - 1) (lit< tt) refl refl good ((shaped.given 0 number_rule (lit< tt)).given refl) in
      let signals = good_gift load_rule words signals_rule 1 16 max_signals (lit< tt) refl refl good ((shaped.given 1 signals_rule (lit< tt)).given refl) in
      (loading number.0 signals.0, record { shaped = shaped; has_number = number.1; has_signals = signals.1 })

  asked_certify : IsShaped certify_rule words → AsksSome
  asked_certify shaped =
      let there : 2 < length words = shaped.files in
      let before : 1 < length words = omega (arith, there) in
      (certification (get_or words 1 []) (get_or words 2 []), record { shaped = shaped; is_netlist = slice_get-get_or words 1 [] before; is_dump = slice_get-get_or words 2 [] there })

  asked_check : IsShaped check_rule words → AsksSome
  asked_check shaped =
      let there : 3 < length words = shaped.files in
      let second : 2 < length words = omega (arith, there) in
      let first : 1 < length words = omega (arith, there) in (
        checking (get_or words 1 []) (get_or words 2 []) (get_or words 3 []),
        record { shaped = shaped; is_netlist = slice_get-get_or words 1 [] first; is_dump = slice_get-get_or words 2 [] second; is_certificate = slice_get-get_or words 3 [] there },
      )

  abbrev OneOfThree : Type 0
  OneOfThree = (¬ IsCommand words) ⊎ ((place : ℕ) × IsBadNumber words place) ⊎ AsksSome

  command_decided : (rule : CommandRule) → Contains command_rules rule → IsShaped rule words → (NoBad rule → AsksSome) → OneOfThree
  command_decided rule (k, h, e) shaped ask =
      elim (first_bad rule words) [ inl good ↦ inr (inr (ask good)) | inr bad ↦ inr (inl (bad.0, (k, rule, h, e, (shaped, bad.1)))) ]

  one_of_three : OneOfThree
  one_of_three =
      elim (decided_shape restore_rule words) [
        | inl restore ↦ command_decided restore_rule restore_is_one restore (λ _. asked_restore restore)
        | inr no_restore ↦ elim (decided_shape select_rule words) [
          | inl select ↦ command_decided select_rule select_is_one select (asked_select select)
          | inr no_select ↦ elim (decided_shape simulate_rule words) [
            | inl simulate ↦ command_decided simulate_rule simulate_is_one simulate (asked_simulate simulate)
            | inr no_simulate ↦ elim (decided_shape print_rule words) [
              | inl print ↦ command_decided print_rule print_is_one print (λ _. asked_print print)
              | inr no_print ↦ elim (decided_shape load_rule words) [
                | inl load ↦ command_decided load_rule load_is_one load (asked_load load)
                | inr no_load ↦ elim (decided_shape certify_rule words) [
                  | inl certify ↦ command_decided certify_rule certify_is_one certify (λ _. asked_certify certify)
                  | inr no_certify ↦ elim (decided_shape check_rule words) [
                    | inl check ↦ command_decided check_rule check_is_one check (λ _. asked_check check)
                    | inr no_check ↦ inl (no_shape words no_restore no_select no_simulate no_print no_load no_certify no_check)
                  ]
                ]
              ]
            ]
          ]
        ]
      ]

pub words_decided : WordsAreDecided
words_decided = one_of_three
