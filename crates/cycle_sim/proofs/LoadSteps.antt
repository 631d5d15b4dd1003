-- The statements of a load netlist, one after another.
use Rattle.std.proofs.Common.{ℕ, suc, ◌≡◌, ◌+◌, ◌-◌, ◌%◌, List, [], ◌∷◌, ◌++◌, length, map, Result, Ok, Err, OnOk, OnErr, refl, sym, ap, subst, ◌∙◌, append_assoc, arith}
use Rattle.std.specs.List.{enumerate_from, range_with_len}
use Rattle.std.proofs.lemmas.List.{length-append, length-map, map_push}
use Rattle.std.proofs.lemmas.List.FromFn.{length-map-range_with_len, map-range_with_len_more}
use Rattle.sr_model.specs.declared.lists.NoMemory.{NoMemory}
use Rattle.sr_model.specs.declared.statements.Numbered.{Numbered}
use Rattle.sr_model.specs.Declaration.{Declaration, InputNamed, OutputNamed, declaration_of, declarations_of, declared}
use Rattle.sr_model.specs.Room.{WithRoom, texts}
use Rattle.netlist.specs.Checks.{without_lines}
use Rattle.netlist.specs.Circuit.{IsNetlist}
use Rattle.netlist.proofs.lemmas.Laws.{netlists_are_not_refused}
use Rattle.netlist.proofs.lemmas.Names.{without_lines-stated}
use Rattle.cycle_sim.specs.Laws.{LinesDeclare}
use Rattle.cycle_sim.specs.Load.{AreOnLines, KeepsAllRules, load_name, load_word, input_count, flip_flop_count, gate_count, pins_drawn, gate_words, gate_start, load_gate, load_flip_flop, load_statements}

-- ---- one more line

numbered-push : {X : Type 0} (n : ℕ) (xs : List X) (x : X) → enumerate_from n (xs ++ x ∷ []) ≡ enumerate_from n xs ++ (n + length xs, x) ∷ []
numbered-push n [] x = let e : n ≡ n + 0 = omega arith in ap (λ k. (k, x) ∷ []) e
numbered-push n (y ∷ ys) x =
    let e : n + 1 + length ys ≡ n + suc (length ys) = omega arith in
    ap (λ rest. (n, y) ∷ rest) (numbered-push (n + 1) ys x ∙ ap (λ k. enumerate_from (n + 1) ys ++ (k, x) ∷ []) e)

line-more : (statements after : WithRoom Numbered) (s : Numbered) → AreOnLines (declared statements) statements → after.items ≡ statements.items ++ s ∷ [] → s.line ≡ length statements.items + 1 → AreOnLines (declared after) after
line-more statements after s before pushed line =
    let place : s.line ≡ 1 + length (declared statements) = omega (arith, length-map statements.items (λ (x : Numbered). declaration_of x.statement)) in
    ap (map (λ (x : Numbered). (x.line, declaration_of x.statement))) pushed ∙ map_push (λ (x : Numbered). (x.line, declaration_of x.statement)) statements.items s
    ∙ (λ i. before i ++ (place i, declaration_of s.statement) ∷ []) ∙ sym (numbered-push 1 (declared statements) (declaration_of s.statement))
    ∙ ap (enumerate_from 1) (sym (ap (map (λ (x : Numbered). declaration_of x.statement)) pushed ∙ map_push (λ (x : Numbered). declaration_of x.statement) statements.items s))

-- whether there was room for it or not
pub lines-pushed : (r : Result (Unit {0}) NoMemory) (statements after : WithRoom Numbered) (s : Numbered) → AreOnLines (declared statements) statements
    → OnOk r (after.items ≡ statements.items ++ s ∷ []) → OnErr r (after.items ≡ statements.items) → s.line ≡ length statements.items + 1 → AreOnLines (declared after) after
lines-pushed (Ok done) statements after s before ok err line = line-more statements after s before ok line
lines-pushed (Err refused) statements after s before ok err line =
    ap (map (λ (x : Numbered). (x.line, declaration_of x.statement))) err ∙ before ∙ ap (λ items. enumerate_from 1 (map (λ (x : Numbered). declaration_of x.statement) items)) (sym err)

-- ---- one more statement of a kind

module _ (f : ℕ → Declaration) (start lines : List Declaration) (i : ℕ) where
  pub added-more : (after : List Declaration) (d : Declaration) → lines ≡ start ++ map f (range_with_len 0 i) → after ≡ lines ++ d ∷ [] → d ≡ f i → after ≡ start ++ map f (range_with_len 0 (i + 1))
  added-more after d before pushed is =
      let zero-place : 0 + i ≡ i = omega arith in
      pushed ∙ ap (λ ds. ds ++ d ∷ []) before ∙ append_assoc start (map f (range_with_len 0 i)) (d ∷ []) ∙ ap (λ e. start ++ (map f (range_with_len 0 i) ++ e ∷ [])) is
      ∙ ap (λ ds. start ++ ds) (sym (map-range_with_len_more f 0 i i zero-place))

  pub added-length : lines ≡ start ++ map f (range_with_len 0 i) → length lines ≡ length start + i
  added-length before = omega (arith, ap length before, length-append start (map f (range_with_len 0 i)), length-map-range_with_len f 0 i)

-- ---- one more pin, and one more gate

pub pins-more : (number n count bound word : ℕ) (pins after : WithRoom (WithRoom ℕ)) (name : WithRoom ℕ) → after.items ≡ pins.items ++ name ∷ [] → name.items ≡ load_name (word % bound)
    → word ≡ load_word number (n + count) → texts pins ≡ pins_drawn number n count bound → texts after ≡ pins_drawn number n (count + 1) bound
pins-more number n count bound word pins after name pushed named drawn before =
    let is : name.items ≡ load_name (load_word number (n + count) % bound) = named ∙ ap (λ w. load_name (w % bound)) drawn in
    ap (map (λ (x : WithRoom ℕ). x.items)) pushed ∙ map_push (λ (x : WithRoom ℕ). x.items) pins.items name ∙ (λ i. before i ++ is i ∷ [])
    ∙ sym (map-range_with_len_more (λ k. load_name (load_word number k % bound)) n count (n + count) refl)

pub gate_start-none : (number : ℕ) → gate_start number 0 ≡ 0
unfolding gate_start
gate_start-none number = refl

pub gate_start-more : (number i : ℕ) → gate_start number (i + 1) ≡ gate_start number i + gate_words number (gate_start number i)
unfolding gate_start
gate_start-more number i = let one : i + 1 ≡ suc i = omega arith in ap (gate_start number) one

-- ---- all statements

pub load-made : (number signals : ℕ) (none inputs gates flip_flops all : List Declaration) (name : List ℕ) → none ≡ [] → inputs ≡ none ++ map (λ i. InputNamed (load_name i)) (range_with_len 0 (input_count signals))
    → gates ≡ inputs ++ map (load_gate number signals) (range_with_len 0 (gate_count signals)) → flip_flops ≡ gates ++ map (load_flip_flop number signals) (range_with_len 0 (flip_flop_count signals))
    → all ≡ flip_flops ++ OutputNamed name ∷ [] → name ≡ load_name (signals - 1) → all ≡ load_statements number signals
load-made number signals none inputs gates flip_flops all name empty first second third last is =
    last ∙ ap (λ n. flip_flops ++ OutputNamed n ∷ []) is ∙ ap (λ ds. ds ++ OutputNamed (load_name (signals - 1)) ∷ []) (third
    ∙ ap (λ ds. ds ++ map (load_flip_flop number signals) (range_with_len 0 (flip_flop_count signals))) (second
    ∙ ap (λ ds. ds ++ map (load_gate number signals) (range_with_len 0 (gate_count signals))) (first ∙ ap (λ ds. ds ++ map (λ i. InputNamed (load_name i)) (range_with_len 0 (input_count signals))) empty)))

lines-apart : (n : ℕ) (ds : List Declaration) → without_lines (enumerate_from n ds) ≡ ds
lines-apart n [] = refl
lines-apart n (d ∷ ds) = ap (λ rest. d ∷ rest) (lines-apart (n + 1) ds)

module _ (ds : List Declaration) (statements : WithRoom Numbered) (on_lines : AreOnLines ds statements) where
  without-lines : without_lines (declarations_of statements) ≡ ds
  without-lines = ap without_lines on_lines ∙ lines-apart 1 ds

  declared-are : declared statements ≡ ds
  declared-are = sym (without_lines-stated statements.items) ∙ without-lines

  pub keeps-all : IsNetlist ds → KeepsAllRules statements
  keeps-all netlist refusal refused = netlists_are_not_refused (declarations_of statements) refusal (subst IsNetlist (sym without-lines) netlist) refused

pub lines_declare : LinesDeclare
lines_declare = declared-are
