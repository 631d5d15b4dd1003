use Rattle.std.proofs.Common.{refl, ⊎_elim, inl, inr}
use Rattle.dump_reader.specs.Head.{cycles_word}
use Rattle.dump_reader.proofs.Front.{none_given, no_cycles, other_word, no_number, no_count, count_given}
use Rattle.dump_reader.proofs.reader.cycles_of.Goals as goal

pub returns-in_err-word : goal.returns-in_err-word
returns-in_err-word c = none_given c.args.text.now c.from_residual.result c.from_residual.ensures (no_cycles c.args.text.now c.in_err-word.ensures)

pub returns-then-ne : goal.returns-then-ne
returns-then-ne c =
    none_given c.args.text.now _ refl (other_word c.args.text.now c.in_ok-word.word.now c.in_ok-word.number.now cycles_word c.ne.result c.in_ok-word.ensures refl c.ne.ensures c.if-ne.true)

pub returns-in_err-cycles : goal.returns-in_err-cycles
returns-in_err-cycles c =
    none_given c.args.text.now _ c.from_residual-in_err-cycles.ensures (no_number c.args.text.now c.in_ok-word.word.now c.in_ok-word.number.now c.read_u64.result c.in_ok-word.ensures c.read_u64.ensures c.in_err-cycles.was)

pub returns-then-cycles-eq0 : goal.returns-then-cycles-eq0
returns-then-cycles-eq0 c =
    none_given c.args.text.now _ refl (no_count c.args.text.now c.in_ok-word.word.now c.in_ok-word.number.now c.read_u64.result c.in_ok-cycles.cycles c.in_ok-word.ensures c.read_u64.ensures c.in_ok-cycles.was
    (⊎_elim (λ h. inl h) (λ h. inr h.1) c.then-cycles-eq0.either))

pub returns : goal.returns
returns c =
    count_given c.args.text.now c.in_ok-word.word.now c.in_ok-word.number.now cycles_word c.ne.result c.read_u64.result c.in_ok-cycles.cycles c.in_ok-word.ensures refl c.ne.ensures c.if-ne.false
    c.read_u64.ensures c.in_ok-cycles.was c.if-cycles-eq0.false c.if-cycles-gt-MAX_CYCLES.false
