use Rattle.std.proofs.Common.{◌≡◌, ℕ, List, [], ◌∷◌, ◌++◌, length, map, sym, ap, ◌∙◌}
use Rattle.std.proofs.lemmas.List.{length-map}
use Rattle.sr_model.specs.declared.cells.Sig.{Sig}
use Rattle.netlist.specs.Numbering.{sig_in, place_in}
use Rattle.netlist.proofs.Once.{table_same, table_added, table_stays, added_last}
use Rattle.netlist.proofs.Places.{found_place, missing_place, found_key, missing_key, place-last}
use Rattle.netlist.proofs.names.NameTable.add.Goals as goal

pub returns-in-Some-clause-ok : goal.returns-in-Some-clause-ok
returns-in-Some-clause-ok c =
    let keys = c.self.inside.names.keys in
    table_same (λ v. v.items) keys c.args.self.now c.args.name.now c.self.view_is c.self.invariant
    (found_key (λ v. v.items) keys c.args.name.now c.in-Some.number (sym c.in-Some.ensures.index))

pub returns-in-Some-clause-sig : goal.returns-in-Some-clause-sig
returns-in-Some-clause-sig c =
    let found = found_place (λ v. v.items) c.self.inside.names.keys c.args.name.now c.in-Some.number (sym c.in-Some.ensures.index) in
    let sig : ℕ → Sig = λ n. record { 0 = n } in
    ap sig found.1 ∙ ap (λ (ns : List (List ℕ)). sig_in ns c.args.name.now) c.self.view_is

pub invariant_of-self-2 : goal.invariant_of-self-2
invariant_of-self-2 c =
    let keys = c.self.inside.names.keys in
    table_stays (λ v. v.items) keys c.args.self.now c.args.name.now c.self.view_is c.self.invariant c.in-Ok.copy c.insert.new.self.keys
    (missing_key (λ v. v.items) keys c.args.name.now (sym c.get_index_of.ensures.index ∙ c.in_default.is)) c.in-Ok.ensures.items c.in-Ok-insert.ensures.keys

pub returns-clause-ok : goal.returns-clause-ok
returns-clause-ok c =
    let keys = c.self.inside.names.keys in
    table_added (λ v. v.items) keys c.args.self.now c.args.name.now c.self.view_is c.self.invariant c.in-Ok.copy c.insert.new.self.keys
    (missing_key (λ v. v.items) keys c.args.name.now (sym c.get_index_of.ensures.index ∙ c.in_default.is)) c.in-Ok.ensures.items c.in-Ok-insert.ensures.keys

pub returns-clause-sig : goal.returns-clause-sig
returns-clause-sig c =
    let keys = c.self.inside.names.keys in
    let none = sym c.get_index_of.ensures.index ∙ c.in_default.is in
    let last = added_last (λ v. v.items) keys c.args.self.now c.args.name.now c.self.view_is c.self.invariant c.in-Ok.copy c.insert.new.self.keys
    (missing_key (λ v. v.items) keys c.args.name.now none) c.in-Ok.ensures.items c.in-Ok-insert.ensures.keys in
    let names : List (List ℕ) = map (λ v. v.items) keys in
    let sig : ℕ → Sig = λ n. record { 0 = n } in
    let at : place_in (names ++ c.args.name.now ∷ []) c.args.name.now ≡ length names = place-last names c.args.name.now (missing_place (λ v. v.items) keys c.args.name.now none) in
    ap sig (c.len-number.ensures.len ∙ sym (length-map keys (λ v. v.items)) ∙ sym at) ∙ ap (λ (ns : List (List ℕ)). sig_in ns c.args.name.now) (sym last)
