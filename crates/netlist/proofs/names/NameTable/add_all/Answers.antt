use Rattle.std.proofs.Common.{◌≡◌, ◌+◌, ◌<◌, ◌≤◌, [], ◌∷◌, ◌++◌, length, get_or, take, ap, subst, ◌∙◌, arith}
use Rattle.sr_model.specs.Room.{texts}
use Rattle.netlist.specs.Numbering.{once, sig_in}
use Rattle.netlist.proofs.Once.{once_more}
use Rattle.netlist.proofs.MentionSigs.{sigs_more, once-one}
use Rattle.netlist.proofs.Texts.{text_more}
use Rattle.netlist.proofs.names.NameTable.add_all.Goals as goal

pub loop-name-preserved : goal.loop-name-preserved
loop-name-preserved c =
    let i = c.loop-name.name-index in
    let all = texts c.args.names.now in
    let m = c.name-item.result.items in
    let below : i < length c.args.names.now.items = subst (λ xs. i < length xs) c.as_slice-name-items.ensures c.loop-name-test.true in
    let read : c.name-item.result ≡ get_or c.args.names.now.items i c.name-item.result =
    subst (λ xs. c.name-item.result ≡ get_or xs i c.name-item.result) c.as_slice-name-items.ensures c.name-item.is in
    let next : take (i + 1) all ≡ take i all ++ m ∷ [] = text_more c.args.names.now i c.name-item.result below read in
    let added : c.add.new.self ≡ once (c.loop-name.self ++ m ∷ []) = subst (λ text. c.add.new.self ≡ once (c.loop-name.self ++ text ∷ [])) c.as_slice.ensures c.in_ok-sig.ensures.ok in
    let sig : c.in_ok-sig.sig ≡ sig_in c.add.new.self m = c.in_ok-sig.ensures.sig ∙ ap (sig_in c.add.new.self) c.as_slice.ensures in
    let one : length (once (c.loop-name.self ++ m ∷ [])) ≤ length c.loop-name.self + 1 = once-one c.loop-name.self m in
    let few : length c.loop-name.self ≤ length c.args.self.now + i = c.loop-name.invariant.few in
    record {
      names = once_more c.args.self.now (take i all) (take (i + 1) all) m c.loop-name.self c.add.new.self next c.loop-name.invariant.names added;
      sigs = sigs_more c.args.self.now (take i all) (take (i + 1) all) m c.loop-name.self c.add.new.self c.args.sigs.now.items c.loop-name.sigs.items c.push.new.self.items c.in_ok-sig.sig
          next c.loop-name.invariant.names added sig c.loop-name.invariant.sigs c.in_ok-push.ensures.ok;
      few = omega (arith, one, few, ap length added);
    }
