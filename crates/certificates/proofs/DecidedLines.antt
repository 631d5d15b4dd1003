-- Whether a line has a form, and whether that makes a claim, is decided.
use Rattle.std.proofs.Common.{◌≡◌, ◌<◌, ◌^◌, ℕ, Bool, true, false, List, [], ◌∷◌, length, drop, get_or, Option, Some, None, inl, inr, refl, sym, ap, subst, ◌∙◌, arith}
use Rattle.std.specs.Prelude.{IsSome, IsTrue}
use Rattle.std.specs.List.{slice_get}
use Rattle.std.specs.Fmt.{decimal}
use Rattle.std.specs.Str.{bytes_eq}
use Rattle.std.proofs.lemmas.Bool.{cases_Bool, cases_lt, true≢false}
use Rattle.std.proofs.lemmas.Option.{same_Some, slice_get-get_or, slice_get_within}
use Rattle.std.proofs.lemmas.Slice.Eq.{bytes_eq-Decides}
use Rattle.sr_model.specs.declared.cells.Cell.{Cell}
use Rattle.sr_model.specs.declared.cells.Place.{Place}
use Rattle.sr_model.specs.declared.cells.Sig.{Sig}
use Rattle.sr_model.specs.Netlist.{Instance, instance_at}
use Rattle.sr_model.proofs.lemmas.Decisions.{Decided, decided_as, decided_below, decided_both}
use Rattle.netlist.specs.Circuit.{Circuit, IsCircuit, unrolled_over}
use Rattle.sr_text.specs.Name.{is_name}
use Rattle.certificates.specs.declared.claim.Claim.{Claim}
use Rattle.certificates.specs.declared.claim.Claim.TheVariants.{Forced, End, Contradiction}
use Rattle.certificates.specs.Forms.{AreTokensOf, ContradictionLine, EndLine, FactLine, IsHead, LineForm, by_word, contradiction_word, digit, end_word, format, version}
use Rattle.certificates.specs.Grammar.{IsCellOf, IsPlaceOf, Means}
use Rattle.certificates.specs.Tokens.{tokens_of}
use Rattle.certificates.proofs.Names.{one-signal}

-- ---- words and numbers

text_or_not : (a b : List ℕ) → Decided (a ≡ b)
text_or_not a b =
    elim (cases_Bool (bytes_eq a b)) [ inl same ↦ inl ((bytes_eq-Decides a b).0 same) | inr other ↦ inr (λ e. true≢false (sym ((bytes_eq-Decides a b).1 e) ∙ other)) ]

name_or_not : (a : List ℕ) → Decided (IsTrue (is_name a))
name_or_not a = elim (cases_Bool (is_name a)) [ inl is ↦ inl is | inr other ↦ inr (λ e. true≢false (sym e ∙ other)) ]

abbrev IsNumber : List ℕ → Type 0
IsNumber text = (n : ℕ) × (n < 2 ^ 64) × (text ≡ decimal n)

number_or_none : (text : List ℕ) → Decided (IsNumber text)
number_or_none text = decided_below (λ n. text ≡ decimal n) (λ n. text_or_not text (decimal n)) (2 ^ 64)

abbrev IsDigit : List ℕ → Type 0
IsDigit text = (bit : Bool) × (text ≡ digit bit)

digit_or_none : (text : List ℕ) → Decided (IsDigit text)
digit_or_none text =
    elim (text_or_not text (digit false)) [
      | inl zero_bit ↦ inl (false, zero_bit)
      | inr not_zero ↦ elim (text_or_not text (digit true)) [ inl one_bit ↦ inl (true, one_bit) | inr not_one ↦ inr (λ (bit, e). neither bit e not_zero not_one) ]
    ]
  where
    neither : (bit : Bool) → text ≡ digit bit → (text ≡ digit false → ⊥) → (text ≡ digit true → ⊥) → ⊥
    neither false e not_zero not_one = not_zero e
    neither true e not_zero not_one = not_one e

-- ---- forms

-- the tokens are those of a line of some form
abbrev pub HasSome : List (List ℕ) → Type 0
HasSome tokens = (form : LineForm) × AreTokensOf tokens form

abbrev LengthOf : List (List ℕ) → ℕ
LengthOf tokens = length tokens

by_length : (tokens : List (List ℕ)) → (LengthOf tokens ≡ 6 → ⊥) → (LengthOf tokens ≡ 1 → ⊥) → (LengthOf tokens ≡ 3 → ⊥) → HasSome tokens → ⊥
by_length tokens not_six not_one not_three (FactLine n k x t i, h) = not_six (ap (λ (ts : List (List ℕ)). length ts) h.0)
by_length tokens not_six not_one not_three (EndLine, h) = not_one (ap (λ (ts : List (List ℕ)). length ts) h)
by_length tokens not_six not_one not_three (ContradictionLine n k, h) = not_three (ap (λ (ts : List (List ℕ)). length ts) h.0)

one_token : (a : List ℕ) → Decided (HasSome (a ∷ []))
one_token a = decided_as (a ≡ end_word) (HasSome (a ∷ [])) (λ e. (EndLine, ap (λ t. t ∷ []) e)) from (text_or_not a end_word)
  where
    from : HasSome (a ∷ []) → a ≡ end_word
    from (FactLine n k x t i, h) = let e = ap (λ (ts : List (List ℕ)). length ts) h.0 in absurd (omega (arith, e))
    from (EndLine, h) = ap (λ ts. get_or ts 0 []) h
    from (ContradictionLine n k, h) = let e = ap (λ (ts : List (List ℕ)). length ts) h.0 in absurd (omega (arith, e))

-- the parts of a contradiction's line
abbrev AreThree : (a b d : List ℕ) → Type 0
AreThree a b d = (a ≡ contradiction_word) × (IsTrue (is_name b) × IsNumber d)

three_tokens : (a b d : List ℕ) → Decided (HasSome (a ∷ b ∷ d ∷ []))
three_tokens a b d =
    decided_as (AreThree a b d) (HasSome (a ∷ b ∷ d ∷ [])) to from
    (decided_both (a ≡ contradiction_word) (IsTrue (is_name b) × IsNumber d) (text_or_not a contradiction_word) (decided_both (IsTrue (is_name b)) (IsNumber d) (name_or_not b) (number_or_none d)))
  where
    to : AreThree a b d → HasSome (a ∷ b ∷ d ∷ [])
    to (word, (name, (n, few, number))) = (ContradictionLine b n, (ap (λ t. t ∷ b ∷ d ∷ []) word ∙ ap (λ t. contradiction_word ∷ b ∷ t ∷ []) number, name, few))

    from : HasSome (a ∷ b ∷ d ∷ []) → AreThree a b d
    from (FactLine n k x t i, h) = let e = ap (λ (ts : List (List ℕ)). length ts) h.0 in absurd (omega (arith, e))
    from (EndLine, h) = let e = ap (λ (ts : List (List ℕ)). length ts) h in absurd (omega (arith, e))
    from (ContradictionLine n k, h) =
        (ap (λ ts. get_or ts 0 []) h.0, (subst (λ t. IsTrue (is_name t)) (sym (ap (λ ts. get_or ts 1 []) h.0)) h.1, (k, h.2, ap (λ ts. get_or ts 2 []) h.0)))

-- the parts of a fact's line
abbrev AreSix : (a b d e f g : List ℕ) → Type 0
AreSix a b d e f g = (IsTrue (is_name a) × IsNumber b) × (IsDigit d × ((e ≡ by_word) × (IsTrue (is_name f) × IsNumber g)))

six_tokens : (a b d e f g : List ℕ) → Decided (HasSome (a ∷ b ∷ d ∷ e ∷ f ∷ g ∷ []))
six_tokens a b d e f g =
    decided_as (AreSix a b d e f g) (HasSome (a ∷ b ∷ d ∷ e ∷ f ∷ g ∷ [])) to from
    (decided_both (IsTrue (is_name a) × IsNumber b) (IsDigit d × ((e ≡ by_word) × (IsTrue (is_name f) × IsNumber g)))
    (decided_both (IsTrue (is_name a)) (IsNumber b) (name_or_not a) (number_or_none b))
    (decided_both (IsDigit d) ((e ≡ by_word) × (IsTrue (is_name f) × IsNumber g)) (digit_or_none d)
    (decided_both (e ≡ by_word) (IsTrue (is_name f) × IsNumber g) (text_or_not e by_word) (decided_both (IsTrue (is_name f)) (IsNumber g) (name_or_not f) (number_or_none g)))))
  where
    to : AreSix a b d e f g → HasSome (a ∷ b ∷ d ∷ e ∷ f ∷ g ∷ [])
    to ((name, (n, few, number)), ((bit, is_bit), (word, (target, (at, small, place))))) = (
      FactLine a n bit f at,
      (
        ap (λ t. a ∷ t ∷ d ∷ e ∷ f ∷ g ∷ []) number ∙ ap (λ t. a ∷ decimal n ∷ t ∷ e ∷ f ∷ g ∷ []) is_bit ∙ ap (λ t. a ∷ decimal n ∷ digit bit ∷ t ∷ f ∷ g ∷ []) word
            ∙ ap (λ t. a ∷ decimal n ∷ digit bit ∷ by_word ∷ f ∷ t ∷ []) place,
        name,
        few,
        target,
        small,
      ),
    )

    from : HasSome (a ∷ b ∷ d ∷ e ∷ f ∷ g ∷ []) → AreSix a b d e f g
    from (FactLine n k x t i, h) = (
      (subst (λ z. IsTrue (is_name z)) (sym (ap (λ ts. get_or ts 0 []) h.0)) h.1, (k, h.2, ap (λ ts. get_or ts 1 []) h.0)),
      (
        (x, ap (λ ts. get_or ts 2 []) h.0),
        (ap (λ ts. get_or ts 3 []) h.0, (subst (λ z. IsTrue (is_name z)) (sym (ap (λ ts. get_or ts 4 []) h.0)) h.3, (i, h.4, ap (λ ts. get_or ts 5 []) h.0))),
      ),
    )
    from (EndLine, h) = let e = ap (λ (ts : List (List ℕ)). length ts) h in absurd (omega (arith, e))
    from (ContradictionLine n k, h) = let e = ap (λ (ts : List (List ℕ)). length ts) h.0 in absurd (omega (arith, e))

pub form_or_none : (tokens : List (List ℕ)) → Decided (HasSome tokens)
form_or_none [] = inr (by_length [] (λ e. omega (arith, e)) (λ e. omega (arith, e)) (λ e. omega (arith, e)))
form_or_none (a ∷ []) = one_token a
form_or_none (a ∷ b ∷ []) = inr (by_length (a ∷ b ∷ []) (λ e. omega (arith, e)) (λ e. omega (arith, e)) (λ e. omega (arith, e)))
form_or_none (a ∷ b ∷ d ∷ []) = three_tokens a b d
form_or_none (a ∷ b ∷ d ∷ e ∷ []) = inr (by_length (a ∷ b ∷ d ∷ e ∷ []) (λ h. omega (arith, h)) (λ h. omega (arith, h)) (λ h. omega (arith, h)))
form_or_none (a ∷ b ∷ d ∷ e ∷ f ∷ []) = inr (by_length (a ∷ b ∷ d ∷ e ∷ f ∷ []) (λ h. omega (arith, h)) (λ h. omega (arith, h)) (λ h. omega (arith, h)))
form_or_none (a ∷ b ∷ d ∷ e ∷ f ∷ g ∷ []) = six_tokens a b d e f g
form_or_none (a ∷ b ∷ d ∷ e ∷ f ∷ g ∷ h ∷ more) = inr (by_length (a ∷ b ∷ d ∷ e ∷ f ∷ g ∷ h ∷ more) (λ k. omega (arith, k)) (λ k. omega (arith, k)) (λ k. omega (arith, k)))

-- ---- claims

module _ (c : Circuit) (cycles : ℕ) (circuit : IsCircuit c) where
  named_or_not : (name : List ℕ) (k : ℕ) → Decided (slice_get c.names k ≡ Some name)
  named_or_not name k =
      elim (cases_lt k (length c.names)) [
        | inl within ↦
            let here : slice_get c.names k ≡ Some (get_or c.names k []) = slice_get-get_or c.names k [] within in
            elim (text_or_not (get_or c.names k []) name) [
              | inl same ↦ inl (here ∙ ap (λ (n : List ℕ). Some n) same)
              | inr other ↦ inr (λ e. other (same_Some (get_or c.names k []) name (sym here ∙ e)))
            ]
        | inr past ↦ inr (λ e. let within : k < length c.names = slice_get_within c.names k name e in omega (arith, within, past))
      ]

  abbrev IsNamed : List ℕ → Type 0
  IsNamed name = (sig : Sig) × (slice_get c.names sig.0 ≡ Some name)

  signal_or_none : (name : List ℕ) → Decided (IsNamed name)
  signal_or_none name =
      decided_as ((k : ℕ) × (k < length c.names) × (slice_get c.names k ≡ Some name)) (IsNamed name) (λ (k, within, e). (record { 0 = k }, e))
      (λ (sig, e). (sig.0, slice_get_within c.names sig.0 name e, e)) (decided_below (λ k. slice_get c.names k ≡ Some name) (named_or_not name) (length c.names))

  early_or_not : (cycle : ℕ) → Decided (cycle < cycles)
  early_or_not cycle = elim (cases_lt cycle cycles) [ inl early ↦ inl early | inr late ↦ inr (λ early. omega (arith, early, late)) ]

  abbrev SomeCell : List ℕ → ℕ → Type 0
  SomeCell name cycle = (cell : Cell) × IsCellOf c cycles name cycle cell

  cell_or_none : (name : List ℕ) (cycle : ℕ) → Decided (SomeCell name cycle)
  cell_or_none name cycle =
      decided_as (IsNamed name × (cycle < cycles)) (SomeCell name cycle) (λ (named, early). (record { cycle = cycle; sig = named.0 }, record { named = named.1; is_cycle = refl; early = early }))
      (λ (cell, is). ((cell.sig, is.named), is.early)) (decided_both (IsNamed name) (cycle < cycles) (signal_or_none name) (early_or_not cycle))

  stands_or_not : (o : Option Instance) → Decided (IsSome o)
  stands_or_not None = inr (λ e. absurd cc)
  stands_or_not (Some i) = inl refl

  abbrev SomePlace : List ℕ → ℕ → Type 0
  SomePlace target at = (place : Place) × IsPlaceOf c cycles target at place

  place_or_none : (target : List ℕ) (at : ℕ) → Decided (SomePlace target at)
  place_or_none target at =
      elim (signal_or_none target) [
        | inr none ↦ inr (λ (place, is). none (place.target, is.named))
        | inl (sig, named) ↦
            let here : Place = record { cycle = at; target = sig } in
            elim (stands_or_not (instance_at (unrolled_over c cycles) here)) [
              | inl stands ↦ inl (here, record { named = named; is_cycle = refl; stands = stands })
              | inr none ↦ inr (λ (place, is).
                  let same : place ≡ here =
                  ap (λ n. record { cycle = n; target = place.target }) is.is_cycle ∙ ap (λ s. record { cycle = at; target = s }) (one-signal c target place.target sig circuit is.named named) in
                  none (subst (λ (p : Place). IsSome (instance_at (unrolled_over c cycles) p)) same is.stands))
            ]
      ]

  abbrev pub MeansSome : LineForm → Type 0
  MeansSome form = (claim : Claim) × Means c cycles form claim

  pub claim_or_none : (form : LineForm) → Decided (MeansSome form)
  claim_or_none (FactLine name cycle bit target at) =
      decided_as (SomeCell name cycle × SomePlace target at) (MeansSome (FactLine name cycle bit target at))
      (λ (cell, place). (Forced (record { lit = record { cell = cell.0; bit = bit }; place = place.0 }), record { cell = cell.1; is_bit = refl; place = place.1 })) from
      (decided_both (SomeCell name cycle) (SomePlace target at) (cell_or_none name cycle) (place_or_none target at))
    where
      from : MeansSome (FactLine name cycle bit target at) → SomeCell name cycle × SomePlace target at
      from (Forced fact, is) = ((fact.lit.cell, is.cell), (fact.place, is.place))
      from (End, is) = absurd is
      from (Contradiction cell, is) = absurd is
  claim_or_none EndLine = inl (End, tt)
  claim_or_none (ContradictionLine name cycle) = decided_as (SomeCell name cycle) (MeansSome (ContradictionLine name cycle)) (λ (cell, is). (Contradiction cell, is)) from (cell_or_none name cycle)
    where
      from : MeansSome (ContradictionLine name cycle) → SomeCell name cycle
      from (Forced fact, is) = absurd is
      from (End, is) = absurd is
      from (Contradiction cell, is) = (cell, is)

-- ---- the head

tokens_or_not : (xs ys : List (List ℕ)) → Decided (xs ≡ ys)
tokens_or_not [] [] = inl refl
tokens_or_not [] (y ∷ ys) = inr (λ e. absurd cc)
tokens_or_not (x ∷ xs) [] = inr (λ e. absurd cc)
tokens_or_not (x ∷ xs) (y ∷ ys) =
    decided_as ((x ≡ y) × (xs ≡ ys)) (x ∷ xs ≡ y ∷ ys) (λ (first, rest). ap (λ t. t ∷ xs) first ∙ ap (λ ts. y ∷ ts) rest) (λ e. (ap (λ ts. get_or ts 0 []) e, ap (λ (ts : List (List ℕ)). drop 1 ts) e))
    (decided_both (x ≡ y) (xs ≡ ys) (text_or_not x y) (tokens_or_not xs ys))

pub head_or_not : (text : List ℕ) → Decided (IsHead text)
head_or_not text = tokens_or_not (tokens_of text) (format ∷ version ∷ [])
