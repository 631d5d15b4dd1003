-- The two tokens of a text.
use Rattle.std.proofs.Common.{◌≡◌, ◌≢◌, ◌↔◌, ◌⊎◌, ℕ, ◌+◌, ◌-◌, ◌<◌, ◌≤◌, true, false, not, cond, ltb, List, [], ◌∷◌, ◌++◌, length, get_or, take, drop, Option, Some, None, Bor, refl, sym, ap, subst, ◌∙◌, inl, inr, append_assoc, zero-add, add-zero, arith}
use Rattle.std.specs.Prelude.{IsTrue}
use Rattle.std.specs.List.{All, prefix_len, position_or_len}
use Rattle.std.proofs.lemmas.Bool.{cond-true, lt-ltb, ltb-true, cases_lt, not_from_true, not_from_false, true≢false}
use Rattle.std.proofs.lemmas.List.{append-nil, length-append, length-take, length-take-le, length-drop, get_or-take, get_or-drop, take-append-drop, drop-drop, drop_at, take_at, take_rest}
use Rattle.std.proofs.lemmas.List.Sums.{prefix_len-le-length, prefix_len_passes, prefix_len_stops, fails_before_first, passes_at_first}
use Rattle.std.proofs.lemmas.Option.{none-some, same_Some, some_pair_parts, cond_some}
use Rattle.sr_text.specs.Text.{is_blank, token_at}
use Rattle.sr_text.proofs.lemmas.PrintedLines.{run, stops}
use Rattle.dump_reader.specs.Tokens.{HasTwoTokens, texts_of}

no_blanks : (a : List ℕ) → All (λ x. is_blank x ≡ false) a → All (λ x. not (is_blank x) ≡ true) a
no_blanks a all k d lt = not_from_false (is_blank (get_or a k d)) (all k d lt)

blanks : (a : List ℕ) → All (λ x. IsTrue (is_blank x)) a → All (λ x. not (is_blank x) ≡ false) a
blanks a all k d lt = not_from_true (is_blank (get_or a k d)) (all k d lt)

pub some_bytes : (a : List ℕ) → a ≢ [] → 0 < length a
some_bytes [] some = absurd (some refl)
some_bytes (x ∷ a) some = omega arith

pub not_nil : (a : List ℕ) → 0 < length a → a ≢ []
not_nil [] lt = absurd (omega arith)
not_nil (x ∷ a) lt = λ e. cc

-- ---- one token

token_is : (line : List ℕ) (from gap len : ℕ) → prefix_len is_blank (drop from line) ≡ gap → from + gap < length line → position_or_len is_blank (drop (from + gap) line) ≡ len
    → token_at line from ≡ Some (from + gap, from + gap + len)
unfolding token_at
token_is line from gap len e lt f =
    let at : ℕ → Option (ℕ × ℕ) = λ b. cond (ltb (from + b) (length line)) (Some (from + b, from + b + position_or_len is_blank (drop (from + b) line))) None in
    ap at e ∙ cond-true (ltb (from + gap) (length line)) (Some (from + gap, from + gap + position_or_len is_blank (drop (from + gap) line))) None (lt-ltb (from + gap) (length line) lt)
    ∙ ap (λ n. Some (from + gap, from + gap + n)) f

record IsTokenAt (line : List ℕ) (from start end : ℕ) : Type 0 where
  at : start ≡ from + prefix_len is_blank (drop from line)
  within : start < length line
  ends : end ≡ start + position_or_len is_blank (drop start line)

token_found : (line : List ℕ) (from start end : ℕ) → token_at line from ≡ Some (start, end) → IsTokenAt line from start end
unfolding token_at
token_found line from start end e =
    let s : ℕ = from + prefix_len is_blank (drop from line) in
    let parts = cond_some (ltb s (length line)) (s, s + position_or_len is_blank (drop s line)) (start, end) e in
    let at : s ≡ start = ap (λ (p : ℕ × ℕ). p.0) parts.1 in
    record {
      at = sym at;
      within = subst (λ n. n < length line) at (ltb-true s (length line) parts.0);
      ends = sym (ap (λ (p : ℕ × ℕ). p.1) parts.1) ∙ ap (λ n. n + position_or_len is_blank (drop n line)) at;
    }

-- ---- two tokens

pub record AreTokensAt (text first second : List ℕ) : Type 0 where
  pub start : ℕ
  pub one : token_at text 0 ≡ Some (0, length first)
  pub two : token_at text (length first) ≡ Some (start, length text)
  pub is_first : take (length first) text ≡ first
  pub is_second : drop start text ≡ second

pub two_again : (text first second : List ℕ) → HasTwoTokens text first second → AreTokensAt text first second
two_again text first second h =
    let rest : List ℕ = h.gap ++ second in
    let whole : text ≡ first ++ rest = h.whole ∙ append_assoc first h.gap second in
    let some : 0 < length second = some_bytes second h.is_second.0 in
    let len : length text ≡ length first + length h.gap + length second = omega (arith, ap length h.whole, length-append (first ++ h.gap) second, length-append first h.gap) in
    let none : prefix_len is_blank text ≡ 0 = ap (prefix_len is_blank) whole ∙ stops is_blank first rest h.is_first.0 h.is_first.1 in
    let ends : position_or_len is_blank text ≡ length first =
    ap (position_or_len is_blank) whole ∙ run (λ x. not (is_blank x)) first rest (no_blanks first h.is_first.1)
    ∙ ap (λ n. length first + n) (stops (λ x. not (is_blank x)) h.gap second h.is_gap.0 (blanks h.gap h.is_gap.1)) ∙ add-zero (length first) in
    let behind : drop (length first) text ≡ rest = ap (drop (length first)) whole ∙ drop_at first rest (length first) refl in
    let gap : prefix_len is_blank (drop (length first) text) ≡ length h.gap =
    ap (prefix_len is_blank) behind ∙ run is_blank h.gap second h.is_gap.1 ∙ ap (λ n. length h.gap + n) (subst (λ t. prefix_len is_blank t ≡ 0) (append-nil second) (stops is_blank second [] h.is_second.0 h.is_second.1)) ∙ add-zero (length h.gap) in
    let last : drop (length first + length h.gap) text ≡ second =
    ap (drop (length first + length h.gap)) h.whole ∙ drop_at (first ++ h.gap) second (length first + length h.gap) (length-append first h.gap) in
    let all : position_or_len is_blank (drop (length first + length h.gap) text) ≡ length second =
    ap (position_or_len is_blank) (last ∙ sym (append-nil second)) ∙ run (λ x. not (is_blank x)) second [] (no_blanks second h.is_second.1) ∙ add-zero (length second) in
    record {
      start = length first + length h.gap;
      one = token_is text 0 0 (length first) none (omega (arith, len, some)) ends ∙ ap (λ n. Some (0, n)) (zero-add (length first));
      two = token_is text (length first) (length h.gap) (length second) gap (omega (arith, len, some)) all ∙ ap (λ n. Some (length first + length h.gap, n)) (sym len);
      is_first = ap (take (length first)) whole ∙ take_at first rest (length first) refl;
      is_second = last;
    }

pub two_found : (text : List ℕ) (first_end start : ℕ) → token_at text 0 ≡ Some (0, first_end) → token_at text first_end ≡ Some (start, length text) → 0 < first_end → first_end ≤ length text
    → HasTwoTokens text (take first_end text) (drop start text)
two_found text n s e f some within =
    let one = token_found text 0 0 n e in
    let two = token_found text n s (length text) f in
    let ends : n ≡ position_or_len is_blank text = omega (arith, one.ends) in
    let gap : ℕ = prefix_len is_blank (drop n text) in
    let rest : List ℕ = drop n text in
    let left : length rest ≡ length text - n = length-drop n text in
    let same : s - n ≡ gap = omega (arith, two.at) in
    let apart : n < s =
    elim (cases_lt n s) [
      | inl lt ↦ lt
      | inr ge ↦
          let none : gap ≡ 0 = omega (arith, two.at) in
          let blank : is_blank (get_or text n 0) ≡ true = subst (λ k. is_blank (get_or text k 0) ≡ true) (sym ends) (passes_at_first is_blank text 0 (omega (arith, ends, two.at, two.within))) in
          let other : is_blank (get_or rest gap 0) ≡ false = prefix_len_stops is_blank rest 0 (omega (arith, left, two.at, two.within)) in
          let at : get_or rest gap 0 ≡ get_or text n 0 = get_or-drop n text gap 0 ∙ ap (λ k. get_or text k 0) (omega (arith, none)) in
          absurd (true≢false (sym blank ∙ ap is_blank (sym at) ∙ other))
    ] in
    let last : drop s text ≡ drop (s - n) rest = ap (λ k. drop k text) (omega (arith, apart)) ∙ sym (drop-drop (s - n) n text) in
    let all : position_or_len is_blank (drop s text) ≡ length (drop s text) = omega (arith, two.ends, length-drop s text, two.within) in
    record {
      gap = take (s - n) rest;
      whole =
          sym (take-append-drop n text) ∙ ap (λ t. take n text ++ t) (sym (take-append-drop (s - n) rest)) ∙ ap (λ t. take n text ++ (take (s - n) rest ++ t)) (sym last)
          ∙ sym (append_assoc (take n text) (take (s - n) rest) (drop s text));
      is_first = (
        not_nil (take n text) (omega (arith, length-take-le n text within)),
        λ k d lt.
            let below : k < n = omega (arith, length-take-le n text within) in
            ap is_blank (get_or-take n text k d below) ∙ fails_before_first is_blank text k d (omega (arith, ends, below)),
      );
      is_gap = (
        not_nil (take (s - n) rest) (omega (arith, length-take (s - n) rest, apart, left, two.within)),
        λ k d lt.
            let below : k < s - n = omega (arith, length-take (s - n) rest) in
            ap is_blank (get_or-take (s - n) rest k d below) ∙ prefix_len_passes is_blank rest k d (omega (arith, same, below)),
      );
      is_second = (not_nil (drop s text) (omega (arith, length-drop s text, two.within)), λ k d lt. fails_before_first is_blank (drop s text) k d (omega (arith, all)));
    }

pub same_tokens : (text a b first second : List ℕ) → HasTwoTokens text a b → HasTwoTokens text first second → (a ≡ first) × (b ≡ second)
same_tokens text a b first second h k =
    let one = two_again text a b h in
    let two = two_again text first second k in
    let end : length a ≡ length first = ap (λ (p : ℕ × ℕ). p.1) (same_Some (0, length a) (0, length first) (sym one.one ∙ two.one)) in
    let start : one.start ≡ two.start =
    ap (λ (p : ℕ × ℕ). p.0) (same_Some (one.start, length text) (two.start, length text) (sym one.two ∙ ap (token_at text) end ∙ two.two)) in
    (sym one.is_first ∙ ap (λ n. take n text) end ∙ two.is_first, sym one.is_second ∙ ap (λ n. drop n text) start ∙ two.is_second)

-- ---- what the reader answers

abbrev pub Both : Type 0
Both = Bor (List ℕ) × Bor (List ℕ)

pub none_is : (text : List ℕ) (o : Option Both) → o ≡ None → ((first second : List ℕ) → HasTwoTokens text first second → ⊥) → (first second : List ℕ) → (texts_of o ≡ Some (first, second)) ↔ HasTwoTokens text first second
none_is text o e none first second = (λ f. absurd (none-some (first, second) (ap texts_of (sym e) ∙ f)), λ h. absurd (none first second h))

pub no_first : (text : List ℕ) → token_at text 0 ≡ None → (first second : List ℕ) → HasTwoTokens text first second → ⊥
no_first text e first second h = none-some (0, length first) (sym e ∙ (two_again text first second h).one)

pub no_second : (text : List ℕ) (start end : ℕ) → token_at text 0 ≡ Some (start, end) → token_at text end ≡ None → (first second : List ℕ) → HasTwoTokens text first second → ⊥
no_second text start end e f first second h =
    let again = two_again text first second h in
    let same : end ≡ length first = ap (λ (p : ℕ × ℕ). p.1) (same_Some (start, end) (0, length first) (sym e ∙ again.one)) in
    none-some (again.start, length text) (sym f ∙ ap (token_at text) same ∙ again.two)

pub not_whole : (text : List ℕ) (start end second_start last : ℕ) → token_at text 0 ≡ Some (start, end) → token_at text end ≡ Some (second_start, last) → (0 < start) ⊎ (last < length text)
    → (first second : List ℕ) → HasTwoTokens text first second → ⊥
not_whole text start end second_start last e f more first second h =
    let again = two_again text first second h in
    let same : (start ≡ 0) × (end ≡ length first) = some_pair_parts start 0 end (length first) (sym e ∙ again.one) in
    let rest : last ≡ length text = (some_pair_parts second_start again.start last (length text) (sym f ∙ ap (token_at text) same.1 ∙ again.two)).1 in
    elim more [ inl lt ↦ omega (arith, same.0, lt) | inr lt ↦ omega (arith, rest, lt) ]

pub some_is : (text : List ℕ) (a b : List ℕ) (o : Option (List ℕ × List ℕ)) → o ≡ Some (a, b) → HasTwoTokens text a b → (first second : List ℕ) → (o ≡ Some (first, second)) ↔ HasTwoTokens text first second
some_is text a b o is h first second = (
  λ e. let same : (a, b) ≡ (first, second) = same_Some (a, b) (first, second) (sym is ∙ e) in
      subst (λ (p : List ℕ × List ℕ). HasTwoTokens text p.0 p.1) same h,
  λ k. let same = same_tokens text a b first second h k in is ∙ ap (λ t. Some (t, b)) same.0 ∙ ap (λ t. Some (first, t)) same.1,
)

pub whole_is : (text : List ℕ) (start end second_start last : ℕ) → token_at text 0 ≡ Some (start, end) → token_at text end ≡ Some (second_start, last) → start ≤ 0 → length text ≤ last
    → start < end → end ≤ length text → last ≤ length text → HasTwoTokens text (take end text) (take (length text - second_start) (drop second_start text))
whole_is text start end second_start last e f zero all some within below =
    let e : token_at text 0 ≡ Some (0, end) = e ∙ ap (λ n. Some (n, end)) (omega (arith, zero)) in
    let f : token_at text end ≡ Some (second_start, length text) = f ∙ ap (λ n. Some (second_start, n)) (omega (arith, all, below)) in
    subst (HasTwoTokens text (take end text)) (sym (take_rest text second_start)) (two_found text end second_start e f (omega (arith, some)) within)

-- ---- a text has two tokens, or not

-- a token that is found is no empty one, and ends within its line
token_within : (line : List ℕ) (from start end : ℕ) → IsTokenAt line from start end → (start < end) × (end ≤ length line)
token_within line from start end is =
    let rest : List ℕ = drop start line in
    let left : length rest ≡ length line - start = length-drop start line in
    let few : position_or_len is_blank rest ≤ length rest = prefix_len-le-length (λ x. not (is_blank x)) rest in
    let gap : ℕ = prefix_len is_blank (drop from line) in
    let front : length (drop from line) ≡ length line - from = length-drop from line in
    let some : 0 < position_or_len is_blank rest =
    elim (cases_lt 0 (position_or_len is_blank rest)) [
      | inl lt ↦ lt
      | inr none ↦
          let zero : position_or_len is_blank rest ≡ 0 = omega arith in
          let blank : is_blank (get_or rest 0 0) ≡ true = subst (λ k. is_blank (get_or rest k 0) ≡ true) zero (passes_at_first is_blank rest 0 (omega (arith, zero, left, is.within))) in
          let other : is_blank (get_or (drop from line) gap 0) ≡ false = prefix_len_stops is_blank (drop from line) 0 (omega (arith, front, is.at, is.within)) in
          let at : get_or rest 0 0 ≡ get_or (drop from line) gap 0 =
          get_or-drop start line 0 0 ∙ ap (λ k. get_or line k 0) (omega (arith, is.at)) ∙ sym (get_or-drop from line gap 0) in
          absurd (true≢false (sym blank ∙ ap is_blank at ∙ other))
    ] in
    (omega (arith, is.ends, some), omega (arith, is.ends, few, left, is.within))

abbrev pub HasNone : List ℕ → Type 0
HasNone text = (first second : List ℕ) → HasTwoTokens text first second → ⊥

second_or_none : (text : List ℕ) (start end : ℕ) (second : Option (ℕ × ℕ)) → token_at text 0 ≡ Some (start, end) → token_at text end ≡ second → ((a b : List ℕ) × HasTwoTokens text a b) ⊎ HasNone text
second_or_none text start end None e f = inr (no_second text start end e f)
second_or_none text start end (Some (from, last)) e f =
    elim (cases_lt 0 start) [
      | inl late ↦ inr (not_whole text start end from last e f (inl late))
      | inr first ↦ elim (cases_lt last (length text)) [
        | inl early ↦ inr (not_whole text start end from last e f (inr early))
        | inr whole ↦
            let one = token_within text 0 start end (token_found text 0 start end e) in
            let two = token_within text end from last (token_found text end from last f) in
            inl (take end text, take (length text - from) (drop from text), whole_is text start end from last e f first whole one.0 one.1 two.1)
      ]
    ]

first_or_none : (text : List ℕ) (first : Option (ℕ × ℕ)) → token_at text 0 ≡ first → ((a b : List ℕ) × HasTwoTokens text a b) ⊎ HasNone text
first_or_none text None e = inr (no_first text e)
first_or_none text (Some (start, end)) e = second_or_none text start end (token_at text end) e refl

pub two_or_none : (text : List ℕ) → ((first second : List ℕ) × HasTwoTokens text first second) ⊎ HasNone text
two_or_none text = first_or_none text (token_at text 0) refl
