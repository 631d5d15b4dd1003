-- What is noted since a mark was set stays so with a change more, and with one less.
use Rattle.std.specs.Prelude.{Some, not}
use Rattle.std.proofs.Common.{ℕ, ◌≡◌, ◌+◌, ◌*◌, ◌/◌, ◌<◌, ◌≤◌, Bool, true, false, List, [], ◌∷◌, ◌++◌, cond, length, get_or, set, length-set, replicate, arith, inl, inr, sym, ap, subst, ◌∙◌}
use Rattle.std.specs.List.{All, Contains, count_by}
use Rattle.std.proofs.lemmas.Bool.{cases_eq, true≢false}
use Rattle.std.proofs.lemmas.List.{get_or-set_same, get_or-set_other, get_or-replicate, get_or_default, length-replicate, length_push, map-append}
use Rattle.std.proofs.lemmas.List.Elements.{All-nil, All-push, All-pop, Contains-append_left, Contains-push, Contains-push_cases}
use Rattle.std.proofs.lemmas.List.Folds.{sum_by-replicate}
use Rattle.std.proofs.lemmas.List.Sums.{sum_by-set}
use Rattle.std.proofs.lemmas.Nat.{mul-add-lt, same_from_place}
use Rattle.sr_model.specs.Limits.{chunk_count, max_cycles, max_signals}
use Rattle.unroll.specs.declared.problem.InChunk.{InChunk}
use Rattle.known_planes.specs.declared.mark.Change.{Change}
use Rattle.known_planes.specs.Layout.{place_of}
use Rattle.known_planes.specs.Marks.{IsAmong, IsNotedOnce, Noted, blocks_of, order_of}

times-swap : (a b : ℕ) → a * b ≡ b * a
times-swap a b = grind arith

pub order-within : (signals chunks : ℕ) (at : InChunk) → IsAmong signals chunks at → order_of signals at < signals * chunks
order-within signals chunks at among = mul-add-lt at.chunk signals at.sig.0 chunks among.1 among.0

pub order-placed : (signals place : ℕ) (at : InChunk) → place ≡ place_of signals at.sig.0 at.chunk → place / 2 ≡ order_of signals at
order-placed signals place at is = omega (arith, is)

one-block : (signals chunks : ℕ) (a b : InChunk) → IsAmong signals chunks a → IsAmong signals chunks b → order_of signals a ≡ order_of signals b → a ≡ b
one-block signals chunks a b among_a among_b e =
    let same : (a.chunk ≡ b.chunk) × (a.sig.0 ≡ b.sig.0) = same_from_place a.chunk a.sig.0 b.chunk b.sig.0 signals among_a.0 among_b.0 e in
    ap (λ n. record { sig = record { 0 = n }; chunk = a.chunk }) same.1 ∙ ap (λ n. record { sig = b.sig; chunk = n }) same.0

-- nothing is noted
pub noted-none : (signals chunks capacity : ℕ) (changes : List Change) (changed : List Bool) → signals ≤ max_signals → chunks ≤ chunk_count max_cycles → changes ≡ []
    → changed ≡ replicate (signals * chunks) false → signals * chunks ≤ capacity → IsNotedOnce (record { signals = signals; chunks = chunks; changes = changes }) capacity changed
noted-none signals chunks capacity changes changed few_signals few_chunks none all room =
    record {
      few_signals = few_signals;
      few_chunks = few_chunks;
      inside = subst (All (λ change. IsAmong signals chunks change.at)) (sym none) (All-nil (λ (change : Change). IsAmong signals chunks change.at));
      size = ap length all ∙ length-replicate (signals * chunks) false;
      listed = λ at among is.
          absurd (true≢false (sym is ∙ ap (λ bs. get_or bs (order_of signals at) false) all ∙ get_or-replicate (signals * chunks) (order_of signals at) false false (order-within signals chunks at among)));
      few = omega (arith, ap length none, ap (count_by not) all, sum_by-replicate (λ b. cond (not b) 1 0) (signals * chunks) false, no-more (signals * chunks));
      room = room;
    }
  where
    no-more : (n : ℕ) → n * 1 ≡ n
    no-more n = omega arith

module _ (noted : Noted) (capacity : ℕ) (changed : List Bool) (before : IsNotedOnce noted capacity changed) (change : Change) (order : ℕ) (is : order ≡ order_of noted.signals change.at) where
  -- the number of blocks that do not count as changed
  abbrev left : List Bool → ℕ
  left bs = count_by not bs

  left-set : (b : Bool) → order < length changed → left (set changed order b) + cond (not (get_or changed order false)) 1 0 ≡ left changed + cond (not b) 1 0
  left-set b h = sum_by-set (λ b. cond (not b) 1 0) changed order b false h

  -- a change more
  module _ (among : IsAmong noted.signals noted.chunks change.at) where
    pub order-there : order < length changed
    order-there = omega (arith, is, order-within noted.signals noted.chunks change.at among, before.size)

    module _ (r b : Bool) (read : r ≡ get_or changed order r) (r_is : r ≡ b) where
      read-is : get_or changed order false ≡ b
      read-is = sym (get_or_default changed order r false order-there) ∙ sym read ∙ r_is

      -- a block that counts as changed is among them
      pub listed-there : b ≡ true → Contains (blocks_of noted.changes) change.at
      listed-there set_there = before.listed change.at among (ap (λ n. get_or changed n false) (sym is) ∙ read-is ∙ set_there)

    module _ (changes : List Change) (pushed : changes ≡ noted.changes ++ change ∷ []) (room : ℕ) (same_room : room ≡ capacity) (r : Bool) (read : r ≡ get_or changed order r) (new : r ≡ false) where
      listed-more : (at : InChunk) → IsAmong noted.signals noted.chunks at → get_or (set changed order true) (order_of noted.signals at) false ≡ true → Contains (blocks_of (noted.changes ++ change ∷ [])) at
      listed-more at here set_there =
          subst (λ bs. Contains bs at) (sym (map-append (λ (c : Change). c.at) noted.changes (change ∷ [])))
          (elim (cases_eq (order_of noted.signals at) order) [
            | inl same ↦
                subst (Contains (blocks_of noted.changes ++ change.at ∷ [])) (one-block noted.signals noted.chunks change.at at among here (sym is ∙ sym same)) (Contains-push (blocks_of noted.changes) change.at)
            | inr other ↦
                Contains-append_left (blocks_of noted.changes) (change.at ∷ []) at
                (before.listed at here (sym (get_or-set_other changed order (order_of noted.signals at) true false other) ∙ set_there))
          ])

      pub noted-more : IsNotedOnce (record { signals = noted.signals; chunks = noted.chunks; changes = changes }) room (set changed order true)
      noted-more = record {
        few_signals = before.few_signals;
        few_chunks = before.few_chunks;
        inside = subst (All (λ c. IsAmong noted.signals noted.chunks c.at)) (sym pushed) (All-push (λ (c : Change). IsAmong noted.signals noted.chunks c.at) noted.changes change before.inside among);
        size = length-set changed order true ∙ before.size;
        listed = λ at here h. subst (λ cs. Contains (blocks_of cs) at) (sym pushed) (listed-more at here h);
        few = omega (arith, before.few, ap length pushed, length_push noted.changes change, left-set true order-there, ap {B = ℕ} (λ b. cond (not b) 1 0) (read-is r false read new));
        room = omega (arith, before.room, same_room);
      }

  -- a change less
  module _ (changes : List Change) (popped : noted.changes ≡ changes ++ change ∷ []) (room : ℕ) (same_room : room ≡ capacity) where
    pub among-popped : IsAmong noted.signals noted.chunks change.at
    among-popped = (All-pop (λ (c : Change). IsAmong noted.signals noted.chunks c.at) noted.changes changes (Some change) popped before.inside).1

    listed-less : (at : InChunk) → IsAmong noted.signals noted.chunks at → get_or (set changed order false) (order_of noted.signals at) false ≡ true → Contains (blocks_of changes) at
    listed-less at here set_there =
        elim (cases_eq (order_of noted.signals at) order) [
          | inl same ↦
              absurd (true≢false (sym set_there ∙ ap (λ n. get_or (set changed order false) n false) same ∙ get_or-set_same changed order false false (order-there among-popped)))
          | inr other ↦
              elim (Contains-push_cases (blocks_of changes) change.at at
              (subst (λ bs. Contains bs at) (ap blocks_of popped ∙ map-append (λ (c : Change). c.at) changes (change ∷ []))
              (before.listed at here (sym (get_or-set_other changed order (order_of noted.signals at) false false other) ∙ set_there)))) [
                | inl there ↦ there
                | inr last ↦ absurd (other (ap (order_of noted.signals) (sym last) ∙ sym is))
              ]
        ]

    pub noted-less : IsNotedOnce (record { signals = noted.signals; chunks = noted.chunks; changes = changes }) room (set changed order false)
    noted-less = record {
      few_signals = before.few_signals;
      few_chunks = before.few_chunks;
      inside = (All-pop (λ (c : Change). IsAmong noted.signals noted.chunks c.at) noted.changes changes (Some change) popped before.inside).0;
      size = length-set changed order false ∙ before.size;
      listed = listed-less;
      few = omega (arith, before.few, ap length popped, length_push changes change, left-set false (order-there among-popped));
      room = omega (arith, before.room, same_room);
    }
