-- What the tokens of a text are, read from its front.
use Rattle.std.proofs.Common.{◌≡◌, ◌⊎◌, ◌↔◌, ℕ, suc, ◌+◌, ◌<◌, Bool, true, false, ◌||◌, cond, eqb, List, [], ◌∷◌, take, drop, Option, Some, None, refl, sym, ap, subst, ◌∙◌, inl, inr, arith, rules, option_map, option_and_then}
use Rattle.std.specs.List.{prefix_len}
use Rattle.std.proofs.lemmas.Bool.{cases_Bool, cond-true, cond-false, eqb-true}
use Rattle.std.proofs.lemmas.Option.{none-some}
use Rattle.sr_text.specs.Text.{is_blank, skip_blanks}
use Rattle.sr_text.specs.Name.{is_name_byte}
use Rattle.bench_reader.specs.Grammar.{Token, Name, Open, Close, Comma, Equals, is_mark, mark_of, begins_with_name, longer_name, with_byte, tokens}

-- a byte is a blank, a mark, a byte of a name, or none of them
pub data ByteClass (b : ℕ) : Type 0 where
  a_blank : is_blank b ≡ true → ByteClass b
  a_mark : is_blank b ≡ false → is_mark b ≡ true → ByteClass b
  a_name : is_blank b ≡ false → is_mark b ≡ false → is_name_byte b ≡ true → ByteClass b
  another : is_blank b ≡ false → is_mark b ≡ false → is_name_byte b ≡ false → ByteClass b

pub class_of : (b : ℕ) → ByteClass b
class_of b =
    elim (cases_Bool (is_blank b)) [
      | inl a ↦ a_blank a
      | inr a ↦ elim (cases_Bool (is_mark b)) [
        | inl m ↦ a_mark a m
        | inr m ↦ elim (cases_Bool (is_name_byte b)) [ inl n ↦ a_name a m n | inr n ↦ another a m n ]
      ]
    ]

with_blank : (b : ℕ) (text : List ℕ) (o : Option (List Token)) → is_blank b ≡ true → option_and_then (with_byte b text) o ≡ o
with_blank b text None e = refl
with_blank b text (Some ts) e = cond-true (is_blank b) (Some ts) _ e

with_mark : (b : ℕ) (text : List ℕ) (o : Option (List Token)) → is_blank b ≡ false → is_mark b ≡ true → option_and_then (with_byte b text) o ≡ option_map (λ ts. mark_of b ∷ ts) o
with_mark b text None e m = refl
with_mark b text (Some ts) e m = cond-false (is_blank b) (Some ts) _ e ∙ cond-true (is_mark b) (Some (mark_of b ∷ ts)) _ m

with_other : (b : ℕ) (text : List ℕ) (o : Option (List Token)) → is_blank b ≡ false → is_mark b ≡ false → is_name_byte b ≡ false → option_and_then (with_byte b text) o ≡ None
with_other b text None e m n = refl
with_other b text (Some ts) e m n = cond-false (is_blank b) (Some ts) _ e ∙ cond-false (is_mark b) (Some (mark_of b ∷ ts)) _ m ∙ cond-false (is_name_byte b) _ None n

with_name : (b : ℕ) (text : List ℕ) (ts : List Token) → is_blank b ≡ false → is_mark b ≡ false → is_name_byte b ≡ true
    → with_byte b text ts ≡ Some (cond (begins_with_name text) (longer_name b ts) (Name (b ∷ []) ∷ ts))
with_name b text ts e m n = cond-false (is_blank b) (Some ts) _ e ∙ cond-false (is_mark b) (Some (mark_of b ∷ ts)) _ m ∙ cond-true (is_name_byte b) _ None n

with_first : (b : ℕ) (text : List ℕ) (o : Option (List Token)) → is_blank b ≡ false → is_mark b ≡ false → is_name_byte b ≡ true → begins_with_name text ≡ false
    → option_and_then (with_byte b text) o ≡ option_map (λ ts. Name (b ∷ []) ∷ ts) o
with_first b text None e m n first = refl
with_first b text (Some ts) e m n first = with_name b text ts e m n ∙ ap (λ x. Some x) (cond-false (begins_with_name text) (longer_name b ts) (Name (b ∷ []) ∷ ts) first)

with_later : (b : ℕ) (text before : List ℕ) (o : Option (List Token)) → is_blank b ≡ false → is_mark b ≡ false → is_name_byte b ≡ true → begins_with_name text ≡ true
    → option_and_then (with_byte b text) (option_map (λ ts. Name before ∷ ts) o) ≡ option_map (λ ts. Name (b ∷ before) ∷ ts) o
with_later b text before None e m n later = refl
with_later b text before (Some ts) e m n later =
    with_name b text (Name before ∷ ts) e m n ∙ ap (λ x. Some x) (cond-true (begins_with_name text) (longer_name b (Name before ∷ ts)) (Name (b ∷ []) ∷ Name before ∷ ts) later)

-- a text without its blanks at the front has the same tokens
pub tokens-skip : (text : List ℕ) → tokens (skip_blanks text) ≡ tokens text
tokens-skip [] = refl
tokens-skip (b ∷ text) =
    elim (cases_Bool (is_blank b)) [
      | inl e ↦
          let one : prefix_len is_blank (b ∷ text) ≡ suc (prefix_len is_blank text) = cond-true (is_blank b) (1 + prefix_len is_blank text) 0 e ∙ omega arith in
          ap (λ n. tokens (drop n (b ∷ text))) one ∙ tokens-skip text ∙ sym (with_blank b text (tokens text) e)
      | inr e ↦ ap (λ n. tokens (drop n (b ∷ text))) (cond-false (is_blank b) (1 + prefix_len is_blank text) 0 e)
    ]

-- what is left of a text without its blanks at the front
pub data Skipped (text : List ℕ) : Type 0 where
  nothing : text ≡ [] → Skipped text
  something : (b : ℕ) (rest : List ℕ) → text ≡ b ∷ rest → is_blank b ≡ false → Skipped text

pub skipped : (text : List ℕ) → Skipped (skip_blanks text)
skipped [] = nothing refl
skipped (b ∷ text) =
    elim (cases_Bool (is_blank b)) [
      | inl e ↦
          let one : prefix_len is_blank (b ∷ text) ≡ suc (prefix_len is_blank text) = cond-true (is_blank b) (1 + prefix_len is_blank text) 0 e ∙ omega arith in
          subst (λ n. Skipped (drop n (b ∷ text))) (sym one) (skipped text)
      | inr e ↦ subst (λ n. Skipped (drop n (b ∷ text))) (sym (cond-false (is_blank b) (1 + prefix_len is_blank text) 0 e)) (something b text refl e)
    ]

either : (a b : Bool) → (a || b) ≡ true → (a ≡ true) ⊎ (b ≡ true)
either true b e = inl refl
either false b e = inr e

mark_is_no_blank : (b : ℕ) → is_mark b ≡ true → is_blank b ≡ false
mark_is_no_blank b m = elim (cases_Bool (is_blank b)) [ inl e ↦ absurd (search (arith, rules)) | inr e ↦ e ]

pub name_is_no_blank : (b : ℕ) → is_name_byte b ≡ true → is_blank b ≡ false
name_is_no_blank b n = elim (cases_Bool (is_blank b)) [ inl e ↦ absurd (search (arith, rules)) | inr e ↦ e ]

name_is_no_mark : (b : ℕ) → is_name_byte b ≡ true → is_mark b ≡ false
name_is_no_mark b n = elim (cases_Bool (is_mark b)) [ inl e ↦ absurd (search (arith, rules)) | inr e ↦ e ]

-- the byte of a token that is a mark
abbrev mark_byte : Token → ℕ
mark_byte (Name text) = 0
mark_byte Open = 40
mark_byte Close = 41
mark_byte Comma = 44
mark_byte Equals = 61

or_last : (p q r s : Bool) → (p || q || r || s) ≡ true → p ≡ false → q ≡ false → r ≡ false → s ≡ true
or_last true q r s e no_p no_q no_r = absurd cc
or_last false true r s e no_p no_q no_r = absurd cc
or_last false false true s e no_p no_q no_r = absurd cc
or_last false false false s e no_p no_q no_r = e

mark_byte-of : (b : ℕ) → is_mark b ≡ true → mark_byte (mark_of b) ≡ b
mark_byte-of b m =
    elim (cases_Bool (eqb b 40)) [
      | inl e ↦ ap mark_byte (cond-true (eqb b 40) Open _ e) ∙ sym (eqb-true b 40 e)
      | inr no40 ↦ elim (cases_Bool (eqb b 41)) [
        | inl e ↦ ap mark_byte (cond-false (eqb b 40) Open _ no40 ∙ cond-true (eqb b 41) Close _ e) ∙ sym (eqb-true b 41 e)
        | inr no41 ↦ elim (cases_Bool (eqb b 44)) [
          | inl e ↦ ap mark_byte (cond-false (eqb b 40) Open _ no40 ∙ cond-false (eqb b 41) Close _ no41 ∙ cond-true (eqb b 44) Comma Equals e) ∙ sym (eqb-true b 44 e)
          | inr no44 ↦
              let last : eqb b 61 ≡ true = or_last (eqb b 40) (eqb b 41) (eqb b 44) (eqb b 61) m no40 no41 no44 in
              ap mark_byte (cond-false (eqb b 40) Open _ no40 ∙ cond-false (eqb b 41) Close _ no41 ∙ cond-false (eqb b 44) Comma Equals no44) ∙ sym (eqb-true b 61 last)
        ]
      ]
    ]

mark_is_no_name : (b : ℕ) (text : List ℕ) → is_mark b ≡ true → mark_of b ≡ Name text → ⊥
mark_is_no_name b text m e =
    let zero_byte : b ≡ 0 = sym (mark_byte-of b m) ∙ ap mark_byte e in
    let bad : is_mark 0 ≡ true = subst (λ n. is_mark n ≡ true) zero_byte m in cc

mark_same : (a b : ℕ) → is_mark a ≡ true → is_mark b ≡ true → mark_of a ≡ mark_of b → a ≡ b
mark_same a b m n e = sym (mark_byte-of a m) ∙ ap mark_byte e ∙ mark_byte-of b n

pub tokens-mark : (b : ℕ) (text : List ℕ) → is_mark b ≡ true → tokens (b ∷ text) ≡ option_map (λ ts. mark_of b ∷ ts) (tokens text)
tokens-mark b text m = with_mark b text (tokens text) (mark_is_no_blank b m) m

name_len-cons : (b : ℕ) (text : List ℕ) → is_name_byte b ≡ true → prefix_len is_name_byte (b ∷ text) ≡ suc (prefix_len is_name_byte text)
name_len-cons b text n = cond-true (is_name_byte b) (1 + prefix_len is_name_byte text) 0 n ∙ omega arith

begins_long : (text : List ℕ) → begins_with_name text ≡ true → 0 < prefix_len is_name_byte text
begins_long [] e = absurd cc
begins_long (b ∷ text) e = let long = name_len-cons b text e in omega arith

begins_not : (text : List ℕ) → begins_with_name text ≡ false → prefix_len is_name_byte text ≡ 0
begins_not [] e = refl
begins_not (b ∷ text) e = cond-false (is_name_byte b) (1 + prefix_len is_name_byte text) 0 e

-- what a name at the front of a text makes of its tokens
abbrev pub name_first : List ℕ → ℕ → Option (List Token)
name_first text n = option_map (λ ts. Name (take n text) ∷ ts) (tokens (drop n text))

-- the name at the front of a text is its first token
pub tokens-name : (text : List ℕ) → 0 < prefix_len is_name_byte text → tokens text ≡ name_first text (prefix_len is_name_byte text)
tokens-name [] some = absurd (omega arith)
tokens-name (b ∷ text) some =
    elim (cases_Bool (is_name_byte b)) [
      | inl n ↦
          let e = name_is_no_blank b n in
          let m = name_is_no_mark b n in
          let long = name_len-cons b text n in
          elim (cases_Bool (begins_with_name text)) [
            | inl later ↦
                let len = prefix_len is_name_byte text in
                let rest : tokens text ≡ name_first text len = tokens-name text (begins_long text later) in
                ap (λ o. option_and_then (with_byte b text) o) rest ∙ with_later b text (take len text) (tokens (drop len text)) e m n later ∙ ap (λ k. name_first (b ∷ text) k) (sym long)
            | inr first ↦
                let one : prefix_len is_name_byte (b ∷ text) ≡ 1 = long ∙ ap (λ k. suc k) (begins_not text first) in
                with_first b text (tokens text) e m n first ∙ ap (λ k. name_first (b ∷ text) k) (sym one)
          ]
      | inr n ↦ absurd (let none : prefix_len is_name_byte (b ∷ text) ≡ 0 = cond-false (is_name_byte b) (1 + prefix_len is_name_byte text) 0 n in omega arith)
    ]

pub map_some : {A B : Type 0} (f : A → B) (o : Option A) (y : B) → option_map f o ≡ Some y → (x : A) × (o ≡ Some x) × (f x ≡ y)
map_some f None y e = absurd (none-some y e)
map_some f (Some x) y e = (x, refl, cc)

-- where the first token is a name, a name stands at the front
name_there : (text name : List ℕ) (ts : List Token) → Skipped text → tokens text ≡ Some (Name name ∷ ts) → 0 < prefix_len is_name_byte text
name_there text name ts (nothing empty) e = absurd (let none : tokens [] ≡ Some (Name name ∷ ts) = ap tokens (sym empty) ∙ e in cc)
name_there text name ts (something b rest is e0) e =
    let there : tokens (b ∷ rest) ≡ Some (Name name ∷ ts) = ap tokens (sym is) ∙ e in
    elim (class_of b) [
      | a_blank f ↦ absurd cc
      | a_mark f m ↦ let x = map_some (λ ts. mark_of b ∷ ts) (tokens rest) (Name name ∷ ts) (sym (tokens-mark b rest m) ∙ there) in absurd (mark_is_no_name b name m (let both = x.2 in cc))
      | a_name f m n ↦ let long = ap (prefix_len is_name_byte) is ∙ name_len-cons b rest n in omega arith
      | another f m n ↦ absurd (let none : None ≡ Some (Name name ∷ ts) = sym (with_other b rest (tokens rest) f m n) ∙ there in cc)
    ]

pub no_name : (text : List ℕ) → prefix_len is_name_byte (skip_blanks text) ≡ 0 → (name : List ℕ) (ts : List Token) → tokens text ≡ Some (Name name ∷ ts) → ⊥
no_name text none name ts e =
    let some = name_there (skip_blanks text) name ts (skipped text) (tokens-skip text ∙ e) in omega arith

-- where the first token is a mark, it stands at the front
mark_there : (text : List ℕ) (mark : ℕ) (ts : List Token) → is_mark mark ≡ true → Skipped text → tokens text ≡ Some (mark_of mark ∷ ts) → (rest : List ℕ) × (text ≡ mark ∷ rest)
mark_there text mark ts is_m (nothing empty) e = absurd (let none : tokens [] ≡ Some (mark_of mark ∷ ts) = ap tokens (sym empty) ∙ e in cc)
mark_there text mark ts is_m (something b rest is e0) e =
    let there : tokens (b ∷ rest) ≡ Some (mark_of mark ∷ ts) = ap tokens (sym is) ∙ e in
    elim (class_of b) [
      | a_blank f ↦ absurd cc
      | a_mark f m ↦ let x = map_some (λ ts. mark_of b ∷ ts) (tokens rest) (mark_of mark ∷ ts) (sym (tokens-mark b rest m) ∙ there) in
          let same : b ≡ mark = mark_same b mark m is_m (let both = x.2 in cc) in
          (rest, is ∙ ap (λ k. k ∷ rest) same)
      | a_name f m n ↦
          let some : 0 < prefix_len is_name_byte (b ∷ rest) = let long = name_len-cons b rest n in omega arith in
          let len = prefix_len is_name_byte (b ∷ rest) in
          let x = map_some (λ ts. Name (take len (b ∷ rest)) ∷ ts) (tokens (drop len (b ∷ rest))) (mark_of mark ∷ ts) (sym (tokens-name (b ∷ rest) some) ∙ there) in
          absurd (mark_is_no_name mark (take len (b ∷ rest)) is_m (let both = x.2 in cc))
      | another f m n ↦ absurd (let none : None ≡ Some (mark_of mark ∷ ts) = sym (with_other b rest (tokens rest) f m n) ∙ there in cc)
    ]

pub mark_first : (text : List ℕ) (mark : ℕ) (ts : List Token) → is_mark mark ≡ true → tokens text ≡ Some (mark_of mark ∷ ts) → (rest : List ℕ) × (skip_blanks text ≡ mark ∷ rest)
mark_first text mark ts is_m e = mark_there (skip_blanks text) mark ts is_m (skipped text) (tokens-skip text ∙ e)

-- a text has no token where it has blanks alone
ended : (text : List ℕ) → Skipped text → tokens text ≡ Some [] → text ≡ []
ended text (nothing empty) e = empty
ended text (something b rest is e0) e =
    let there : tokens (b ∷ rest) ≡ Some [] = ap tokens (sym is) ∙ e in
    elim (class_of b) [
      | a_blank f ↦ absurd cc
      | a_mark f m ↦ let x = map_some (λ ts. mark_of b ∷ ts) (tokens rest) [] (sym (tokens-mark b rest m) ∙ there) in absurd (let bad = x.2 in cc)
      | a_name f m n ↦
          let some : 0 < prefix_len is_name_byte (b ∷ rest) = let long = name_len-cons b rest n in omega arith in
          let len = prefix_len is_name_byte (b ∷ rest) in
          let x = map_some (λ ts. Name (take len (b ∷ rest)) ∷ ts) (tokens (drop len (b ∷ rest))) [] (sym (tokens-name (b ∷ rest) some) ∙ there) in
          absurd (let bad = x.2 in cc)
      | another f m n ↦ absurd (let none : None ≡ Some [] = sym (with_other b rest (tokens rest) f m n) ∙ there in cc)
    ]

pub tokens_end : (text : List ℕ) → (skip_blanks text ≡ []) ↔ (tokens text ≡ Some [])
tokens_end text = (λ e. sym (tokens-skip text) ∙ ap tokens e, λ e. ended (skip_blanks text) (skipped text) (tokens-skip text ∙ e))

pub name_read : (text cut front back : List ℕ) (len : ℕ) → cut ≡ skip_blanks text → len ≡ prefix_len is_name_byte cut → (len ≡ 0 → ⊥) → front ≡ take len cut → back ≡ drop len cut
    → tokens text ≡ option_map (λ ts. Name front ∷ ts) (tokens back)
name_read text cut front back len is long some front_is back_is =
    let first : tokens cut ≡ name_first cut (prefix_len is_name_byte cut) = tokens-name cut (omega arith) in
    sym (tokens-skip text) ∙ ap tokens (sym is) ∙ first ∙ ap (λ n. name_first cut n) (sym long)
    ∙ ap (λ (t : List ℕ). option_map (λ ts. Name (take len cut) ∷ ts) (tokens t)) (sym back_is)
    ∙ ap (λ (t : List ℕ). option_map (λ ts. Name t ∷ ts) (tokens back)) (sym front_is)

-- a closing bracket and no more
pub closed_read : (text rest : List ℕ) → tokens text ≡ option_map (λ ts. Close ∷ ts) (tokens rest) → (skip_blanks rest ≡ []) ↔ (tokens text ≡ Some (Close ∷ []))
closed_read text rest e = (
  λ empty. e ∙ ap (λ o. option_map (λ ts. Close ∷ ts) o) ((tokens_end rest).0 empty),
  λ whole. let x = map_some (λ ts. Close ∷ ts) (tokens rest) (Close ∷ []) (sym e ∙ whole) in
      let none : x.0 ≡ [] = let same = x.2 in cc in
      (tokens_end rest).1 (x.1 ∙ ap (λ ts. Some ts) none),
)
