use Rattle.std.proofs.Common.{◌≡◌, ◌+◌, ◌≤◌, ℕ, List, [], ◌∷◌, ◌++◌, length, sym, ap, subst, ◌∙◌, arith}
use Rattle.std.specs.Prelude.{OnOk}
use Rattle.std.proofs.lemmas.List.{length-map}
use Rattle.std.proofs.lemmas.Result.{on_ok_weaker}
use Rattle.sr_model.specs.Limits.{max_gate_pins}
use Rattle.sr_model.specs.Room.{texts}
use Rattle.sr_model.specs.Declaration.{declaration_of}
use Rattle.sr_model.specs.declared.cells.Sig.{Sig}
use Rattle.netlist.specs.Numbering.{once, mentions, pin_names, sig_in}
use Rattle.netlist.specs.Mentions.{first_mention}
use Rattle.netlist.proofs.Once.{once_then}
use Rattle.netlist.proofs.MentionSigs.{sig-kept, once-one}
use Rattle.netlist.proofs.names.NameTable.add_mentions.Goals as goal

pub add_all-requires : goal.add_all-requires
add_all-requires c =
    let one : length (once (c.args.self.now ++ c.as_slice.result.now ∷ [])) ≤ length c.args.self.now + 1 = once-one c.args.self.now c.as_slice.result.now in
    let few : length (pin_names (declaration_of c.args.statement.now)) ≤ max_gate_pins = c.requires.pins in
    let pins : length (pin_names (declaration_of c.args.statement.now)) ≡ length c.in-Drive.names.items = ap (λ s. length (pin_names (declaration_of s))) c.in-Drive.is ∙ length-map c.in-Drive.names.items (λ name. name.items) in
    omega (arith, one, few, pins, ap length c.in_ok-first-in-Drive.ensures.ok, c.requires.few)

pub returns-in_ok-push-in-Drive-clause-names : goal.returns-in_ok-push-in-Drive-clause-names
returns-in_ok-push-in-Drive-clause-names c =
    let first : c.add.new.self ≡ once (c.args.self.now ++ c.in-Drive.target.items ∷ []) = subst (λ text. c.add.new.self ≡ once (c.args.self.now ++ text ∷ [])) c.as_slice.ensures c.in_ok-first-in-Drive.ensures.ok in
    let all : once (c.add.new.self ++ texts c.in-Drive.names) ≡ once (c.args.self.now ++ mentions (declaration_of c.args.statement.now)) =
    once_then c.args.self.now c.in-Drive.target.items (texts c.in-Drive.names) c.add.new.self first ∙ ap (λ s. once (c.args.self.now ++ mentions (declaration_of s))) (sym c.in-Drive.is) in
    subst (λ (zs : List (List ℕ)). OnOk c.add_all.result (c.add_all.new.self ≡ zs)) all c.add_all.ensures.names

pub returns-in_ok-push-in-Drive-clause-firsts : goal.returns-in_ok-push-in-Drive-clause-firsts
returns-in_ok-push-in-Drive-clause-firsts c =
    let t : List ℕ = c.in-Drive.target.items in
    let first : c.add.new.self ≡ once (c.args.self.now ++ t ∷ []) = subst (λ text. c.add.new.self ≡ once (c.args.self.now ++ text ∷ [])) c.as_slice.ensures c.in_ok-first-in-Drive.ensures.ok in
    let sig : c.in_ok-first-in-Drive.first ≡ sig_in c.add.new.self t = c.in_ok-first-in-Drive.ensures.sig ∙ ap (sig_in c.add.new.self) c.as_slice.ensures in
    let named : t ≡ first_mention (declaration_of c.args.statement.now) = ap (λ s. first_mention (declaration_of s)) (sym c.in-Drive.is) in
    on_ok_weaker c.add_all.result
    (λ added.
    c.in_ok-push-in-Drive.ensures.ok
    ∙ ap (λ (s : Sig). c.args.firsts.now.items ++ s ∷ []) (sig ∙ sym (sig-kept c.args.self.now (texts c.in-Drive.names) c.add.new.self c.add_all.new.self t first added) ∙ ap (sig_in c.add_all.new.self) named))
    c.add_all.ensures.names
