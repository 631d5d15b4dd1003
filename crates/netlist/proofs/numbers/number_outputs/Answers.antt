use Rattle.std.proofs.Common.{◌≡◌, ℕ, ◌+◌, ◌<◌, true, List, [], ◌∷◌, length, get_or, set, take, sym, ap, subst, ◌∙◌, rules, arith}
use Rattle.std.specs.List.{Contains, flat_map}
use Rattle.std.proofs.lemmas.List.{length-map}
use Rattle.sr_model.specs.declared.cells.Sig.{Sig}
use Rattle.sr_model.specs.Declaration.{declaration_of, declared}
use Rattle.netlist.specs.Numbering.{output_name, mentions, sig_in, place_in}
use Rattle.netlist.specs.Mentions.{first_mention}
use Rattle.netlist.proofs.Once.{has, IsApart, once-apart}
use Rattle.netlist.proofs.Outputs.{IsListed, listed_same, listed_again, listed_more}
use Rattle.netlist.proofs.Places.{place_in-lt}
use Rattle.netlist.proofs.Statements.{stands_at, stated_by, flat_same, flat_one, no_output, marks_none}
use Rattle.netlist.proofs.MentionSigs.{first_at, first_member}
use Rattle.netlist.proofs.numbers.number_outputs.Goals as goal

pub loop-i-init : goal.loop-i-init
loop-i-init c =
    record {
      listed_once = c.new-outputs.ensures.items;
      marked = marks_none c.args.names.now c.len.result c.in-Ok.listed.items c.len.ensures (search rules);
    }

pub loop-i-preserved-in_default-statement : goal.loop-i-preserved-in_default-statement
loop-i-preserved-in_default-statement c =
    let items = c.args.s.now.items in
    let i = c.loop-i.i in
    let x = c.stated-item.result in
    let at = stands_at c.as_slice-stated-items.result.now items i x c.as_slice-stated-items.ensures c.loop-i-test.true c.stated-item.is in
    let so_far = flat_map output_name (take i (declared c.args.s.now)) in
    let more = flat_map output_name (take (i + 1) (declared c.args.s.now)) in
    let none : output_name (declaration_of x.statement) ≡ [] = no_output x.statement c.in_default-statement.not-OutputOf in
    listed_same (sig_in c.args.names.now) c.args.names.now so_far more c.loop-i.outputs.items c.loop-i.listed.items c.loop-i.invariant (flat_same output_name items i x at none)

pub index-requires : goal.index-requires
index-requires c =
    let items = c.args.s.now.items in
    let i = c.loop-i.i in
    let x = c.stated-item.result in
    let at = stands_at c.as_slice-stated-items.result.now items i x c.as_slice-stated-items.ensures c.loop-i-test.true c.stated-item.is in
    let t : List ℕ = first_mention (stated_by x) in
    let sig : get_or c.args.firsts.now i (record { 0 = 0 }) ≡ sig_in c.args.names.now t = (first_at (sig_in c.args.names.now) items i x c.args.firsts.now (record { 0 = 0 }) at c.requires.firsts).1 in
    let place : (get_or c.args.firsts.now i (record { 0 = 0 })).0 ≡ place_in c.args.names.now t = ap (λ (s : Sig). s.0) sig in
    let member : Contains c.args.names.now t = first_member items i x c.args.names.now at c.requires.names in
    let so_far = flat_map output_name (take i (declared c.args.s.now)) in
    let below : place_in c.args.names.now t < length c.args.names.now = place_in-lt c.args.names.now t member in
    let long : length c.loop-i.listed.items ≡ length c.args.names.now = ap length c.loop-i.invariant.marked ∙ length-map c.args.names.now (has so_far) in
    omega (arith, below, long, place, c.loop-i.listed.ok.0)

pub loop-i-preserved-then-index : goal.loop-i-preserved-then-index
loop-i-preserved-then-index c =
    let items = c.args.s.now.items in
    let i = c.loop-i.i in
    let x = c.stated-item.result in
    let at = stands_at c.as_slice-stated-items.result.now items i x c.as_slice-stated-items.ensures c.loop-i-test.true c.stated-item.is in
    let t : List ℕ = first_mention (stated_by x) in
    let sig : get_or c.args.firsts.now i (record { 0 = 0 }) ≡ sig_in c.args.names.now t = (first_at (sig_in c.args.names.now) items i x c.args.firsts.now (record { 0 = 0 }) at c.requires.firsts).1 in
    let place : (get_or c.args.firsts.now i (record { 0 = 0 })).0 ≡ place_in c.args.names.now t = ap (λ (s : Sig). s.0) sig in
    let member : Contains c.args.names.now t = first_member items i x c.args.names.now at c.requires.names in
    let so_far = flat_map output_name (take i (declared c.args.s.now)) in
    let more = flat_map output_name (take (i + 1) (declared c.args.s.now)) in
    let one : output_name (declaration_of x.statement) ≡ t ∷ [] = ap (λ s. output_name (declaration_of s)) c.in-OutputOf.is ∙ ap (λ s. first_mention (declaration_of s) ∷ []) (sym c.in-OutputOf.is) in
    listed_again (sig_in c.args.names.now) c.args.names.now so_far more c.loop-i.outputs.items c.loop-i.listed.items c.loop-i.invariant t c.index.result.now (flat_one output_name items i x t at one) member
    (c.index.ensures ∙ ap (λ k. get_or c.loop-i.listed.items k c.index.result.now) place) c.if-index.true

pub index_mut-requires : goal.index_mut-requires
index_mut-requires c =
    let items = c.args.s.now.items in
    let i = c.loop-i.i in
    let x = c.stated-item.result in
    let at = stands_at c.as_slice-stated-items.result.now items i x c.as_slice-stated-items.ensures c.loop-i-test.true c.stated-item.is in
    let t : List ℕ = first_mention (stated_by x) in
    let sig : get_or c.args.firsts.now i (record { 0 = 0 }) ≡ sig_in c.args.names.now t = (first_at (sig_in c.args.names.now) items i x c.args.firsts.now (record { 0 = 0 }) at c.requires.firsts).1 in
    let place : (get_or c.args.firsts.now i (record { 0 = 0 })).0 ≡ place_in c.args.names.now t = ap (λ (s : Sig). s.0) sig in
    let member : Contains c.args.names.now t = first_member items i x c.args.names.now at c.requires.names in
    let so_far = flat_map output_name (take i (declared c.args.s.now)) in
    let below : place_in c.args.names.now t < length c.args.names.now = place_in-lt c.args.names.now t member in
    let long : length c.loop-i.listed.items ≡ length c.args.names.now = ap length c.loop-i.invariant.marked ∙ length-map c.args.names.now (has so_far) in
    omega (arith, below, long, place, c.loop-i.listed.ok.0)

pub loop-i-preserved : goal.loop-i-preserved
loop-i-preserved c =
    let items = c.args.s.now.items in
    let i = c.loop-i.i in
    let x = c.stated-item.result in
    let at = stands_at c.as_slice-stated-items.result.now items i x c.as_slice-stated-items.ensures c.loop-i-test.true c.stated-item.is in
    let t : List ℕ = first_mention (stated_by x) in
    let sig : get_or c.args.firsts.now i (record { 0 = 0 }) ≡ sig_in c.args.names.now t = (first_at (sig_in c.args.names.now) items i x c.args.firsts.now (record { 0 = 0 }) at c.requires.firsts).1 in
    let place : (get_or c.args.firsts.now i (record { 0 = 0 })).0 ≡ place_in c.args.names.now t = ap (λ (s : Sig). s.0) sig in
    let member : Contains c.args.names.now t = first_member items i x c.args.names.now at c.requires.names in
    let so_far = flat_map output_name (take i (declared c.args.s.now)) in
    let more = flat_map output_name (take (i + 1) (declared c.args.s.now)) in
    let one : output_name (declaration_of x.statement) ≡ t ∷ [] = ap (λ s. output_name (declaration_of s)) c.in-OutputOf.is ∙ ap (λ s. first_mention (declaration_of s) ∷ []) (sym c.in-OutputOf.is) in
    let apart : IsApart c.args.names.now = subst IsApart (sym c.requires.names) (once-apart (flat_map mentions (declared c.args.s.now))) in
    let after : IsListed (sig_in c.args.names.now) c.args.names.now more c.push.new.self.items (set c.loop-i.listed.items (place_in c.args.names.now t) true) =
    listed_more (sig_in c.args.names.now) c.args.names.now so_far more c.loop-i.outputs.items c.loop-i.listed.items c.loop-i.invariant t c.index.result.now (flat_one output_name items i x t at one) member
    (c.index.ensures ∙ ap (λ k. get_or c.loop-i.listed.items k c.index.result.now) place) apart c.if-index.false c.push.new.self.items (get_or c.args.firsts.now i (record { 0 = 0 })) sig c.in_ok-push.ensures.ok in
    subst (λ k. IsListed (sig_in c.args.names.now) c.args.names.now more c.push.new.self.items (set c.loop-i.listed.items k true)) (sym place) after
