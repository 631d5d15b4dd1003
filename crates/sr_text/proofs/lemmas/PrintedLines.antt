-- The lines of a text that was printed, each with a line feed behind it.
use Rattle.std.proofs.Common.{◌≡◌, ◌≢◌, ℕ, ◌+◌, ◌-◌, ◌<◌, Bool, true, false, not, ◌&&◌, ◌||◌, cond, eqb, ltb, List, [], ◌∷◌, ◌++◌, length, get_or, take, drop, map, refl, sym, ap, ◌∙◌, inr, zero-add, add-zero, arith}
use Rattle.std.specs.List.{All, flat_map, prefix_len, suffix_len, position_or_len, before_first}
use Rattle.std.proofs.lemmas.Bool.{cond-true, cond-false, and_from, and_right, or_from, lt-ltb, ne_eqb, eq-eqb, not_from_false}
use Rattle.std.proofs.lemmas.List.{append-nil, length-append, take_all, take_at, get_or_at, get_or_append_left}
use Rattle.std.proofs.lemmas.List.Elements.{All-head, All-tail}
use Rattle.std.proofs.lemmas.List.Sums.{suffix_len_is}
use Rattle.bstr.specs.Text.{lines_of, without_terminator, no_cr}
use Rattle.bstr.proofs.lemmas.LineLemmas.{lines-nil, lines-append, lines-one}
use Rattle.sr_text.specs.Lines.{text_lines, numbered_from, numbered, with_line_feed}
use Rattle.sr_text.specs.Text.{is_blank, skip_blanks, drop_end_blanks, cut_line}

-- ---- runs of bytes

pub run : (p : ℕ → Bool) (a b : List ℕ) → All (λ x. p x ≡ true) a → prefix_len p (a ++ b) ≡ length a + prefix_len p b
run p [] b all = sym (zero-add (prefix_len p b))
run p (x ∷ a) b all =
    let rest = run p a b (All-tail (λ x. p x ≡ true) x a all) in
    let front = cond-true (p x) (1 + prefix_len p (a ++ b)) 0 (All-head (λ x. p x ≡ true) x a all) in
    omega (arith, rest, front)

pub stops : (p : ℕ → Bool) (a b : List ℕ) → a ≢ [] → All (λ x. p x ≡ false) a → prefix_len p (a ++ b) ≡ 0
stops p [] b some all = absurd (some refl)
stops p (x ∷ a) b some all = cond-false (p x) (1 + prefix_len p (a ++ b)) 0 (All-head (λ x. p x ≡ false) x a all)

-- ---- one line

pub not_blank : (b : ℕ) → 32 < b → is_blank b ≡ false
not_blank b h =
    or_from (eqb b 9 || eqb b 13) (eqb b 32) (or_from (eqb b 9) (eqb b 13) (ne_eqb b 9 (λ e. omega (arith, h, e))) (ne_eqb b 13 (λ e. omega (arith, h, e)))) (ne_eqb b 32 (λ e. omega (arith, h, e)))

-- what is so of a printed line
pub record IsPrinted (line : List ℕ) : Type 0 where
  pub some : 0 < length line
  pub bytes : All (λ b. (31 < b) × (b ≢ 35)) line
  pub begins : prefix_len is_blank line ≡ 0
  pub ends : 32 < get_or line (length line - 1) 0

printed_uncut : (line : List ℕ) → IsPrinted line → cut_line line ≡ line
unfolding cut_line
printed_uncut line h =
    let none : position_or_len (λ b. eqb b 35) line ≡ length line =
    ap (position_or_len (λ b. eqb b 35)) (sym (append-nil line)) ∙ run (λ b. not (eqb b 35)) line [] (λ k d lt. not_from_false (eqb (get_or line k d) 35) (ne_eqb (get_or line k d) 35 (h.bytes k d lt).1)) ∙ add-zero (length line) in
    let before : before_first (λ b. eqb b 35) line ≡ line = ap (λ n. take n line) none ∙ take_all (length line) line (omega arith) in
    let begins : skip_blanks line ≡ line = ap (λ n. drop n line) h.begins in
    let last : suffix_len is_blank line ≡ length line - length line =
    suffix_len_is is_blank line (length line) 0 (omega arith) (λ k ge lt. absurd (omega (arith, ge, lt))) (λ some. not_blank (get_or line (length line - 1) 0) h.ends) in
    let ends : drop_end_blanks line ≡ line = ap (λ n. take (length line - n) line) last ∙ take_all (length line - (length line - length line)) line (omega arith) in
    ap (λ (t : List ℕ). drop_end_blanks (skip_blanks t)) before ∙ ap drop_end_blanks begins ∙ ends

-- ---- the lines of a text

unended : (line : List ℕ) → IsPrinted line → without_terminator (with_line_feed line) ≡ line
unended line h =
    let whole : List ℕ = line ++ 10 ∷ [] in
    let len : length whole ≡ length line + 1 = length-append line (10 ∷ []) in
    let feed : get_or whole (length whole - 1) 0 ≡ 10 = get_or_at line 10 [] 0 (length whole - 1) (omega (arith, len)) in
    let some : ltb 0 (length whole) ≡ true = lt-ltb 0 (length whole) (omega (arith, len)) in
    let is_feed : eqb (get_or whole (length whole - 1) 0) 10 ≡ true = eq-eqb (get_or whole (length whole - 1) 0) 10 feed in
    let front : take (length whole - 1) whole ≡ line = take_at line (10 ∷ []) (length whole - 1) (omega (arith, len)) in
    let other : eqb (get_or line (length line - 1) 0) 13 ≡ false = ne_eqb (get_or line (length line - 1) 0) 13 (λ e. omega (arith, h.ends, e)) in
    cond-true (ltb 0 (length whole) && eqb (get_or whole (length whole - 1) 0) 10) (no_cr (take (length whole - 1) whole)) whole (and_from (ltb 0 (length whole)) (eqb (get_or whole (length whole - 1) 0) 10) some is_feed)
    ∙ ap no_cr front
    ∙ cond-false (ltb 0 (length line) && eqb (get_or line (length line - 1) 0) 13) (take (length line - 1) line) line (and_right (ltb 0 (length line)) (eqb (get_or line (length line - 1) 0) 13) other)

one_line : (line : List ℕ) → IsPrinted line → lines_of (with_line_feed line) ≡ with_line_feed line ∷ []
one_line line h =
    let len : length (line ++ 10 ∷ []) ≡ length line + 1 = length-append line (10 ∷ []) in
    lines-one (line ++ 10 ∷ []) (omega (arith, len)) (λ k lt e.
    let within : k < length line = omega (arith, len, lt) in
    let at : get_or line k 0 ≡ 10 = sym (get_or_append_left line (10 ∷ []) 0 k within) ∙ e in
    omega (arith, (h.bytes k 0 within).0, at))

abbrev pub ArePrinted : List (List ℕ) → Type 0
ArePrinted lines = All IsPrinted lines

printed_text : (lines : List (List ℕ)) → ArePrinted lines → text_lines (flat_map with_line_feed lines) ≡ lines
printed_text [] all = ap (map without_terminator) lines-nil
printed_text (line ∷ lines) all =
    let h = All-head IsPrinted line lines all in
    let whole : List ℕ = line ++ 10 ∷ [] in
    let len : length whole ≡ length line + 1 = length-append line (10 ∷ []) in
    let rest : List ℕ = flat_map with_line_feed lines in
    let feed : get_or whole (length whole - 1) 0 ≡ 10 = get_or_at line 10 [] 0 (length whole - 1) (omega (arith, len)) in
    let split : lines_of (whole ++ rest) ≡ whole ∷ lines_of rest =
    lines-append (length whole) whole rest (omega arith) (inr feed) ∙ ap (λ (ls : List (List ℕ)). ls ++ lines_of rest) (one_line line h) in
    ap (map without_terminator) split ∙ ap (λ (t : List ℕ). t ∷ map without_terminator (lines_of rest)) (unended line h)
    ∙ ap (λ (ls : List (List ℕ)). line ∷ ls) (printed_text lines (All-tail IsPrinted line lines all))

-- some things with numbers, from one on
abbrev pub from_number : {X : Type 0} → ℕ → List X → List (ℕ × X)
from_number n [] = []
from_number n (x ∷ xs) = (n, x) ∷ from_number (n + 1) xs

numbers_printed : (n : ℕ) (lines : List (List ℕ)) → ArePrinted lines → numbered_from n lines ≡ from_number n lines
numbers_printed n [] all = refl
numbers_printed n (line ∷ lines) all =
    let h = All-head IsPrinted line lines all in
    let uncut : cut_line line ≡ line = printed_uncut line h in
    let some : eqb (length line) 0 ≡ false = ne_eqb (length line) 0 (λ e. omega (arith, h.some, e)) in
    ap (λ (t : List ℕ). cond (eqb (length t) 0) (numbered_from (n + 1) lines) ((n, t) ∷ numbered_from (n + 1) lines)) uncut
    ∙ cond-false (eqb (length line) 0) (numbered_from (n + 1) lines) ((n, line) ∷ numbered_from (n + 1) lines) some
    ∙ ap (λ (ls : List (ℕ × List ℕ)). (n, line) ∷ ls) (numbers_printed (n + 1) lines (All-tail IsPrinted line lines all))

-- the lines that were printed are those that say something
pub numbered_printed : (lines : List (List ℕ)) → ArePrinted lines → numbered (flat_map with_line_feed lines) ≡ from_number 1 lines
numbered_printed lines all = ap (numbered_from 1) (printed_text lines all) ∙ numbers_printed 1 lines all
