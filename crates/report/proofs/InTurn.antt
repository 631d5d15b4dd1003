-- Writing several texts in turn.
use Rattle.std.proofs.Common.{◌≡◌, ℕ, ◌<◌, ◌≤◌, List, [], ◌++◌, Option, Some, None, length, take, refl, sym, ap, subst, ◌∙◌, arith, length-append, length-take}
use Rattle.std.proofs.lemmas.List.{append-nil}
use Rattle.std.specs.Prelude.{Result, Ok, Err}
use Rattle.std.specs.Io.KnownBytes.{append_known}
use Rattle.sr_outside.specs.declared.write.WriteFault.{WriteFault}
use Rattle.sr_outside.specs.Counts.{IsCounted}
use Rattle.sr_outside.specs.Told.{AppendsPart, IsFull, LacksPlace}
use Rattle.report.specs.Writes.{Writes}
use Rattle.report.proofs.Joined.{append_known-append, append_known-nil, part_before, part_behind}

-- where a part of a text was appended and the room is used up, there was no room for the whole text
pub lacks_place : (before after : Option (List ℕ)) (room : Option ℕ) (text : List ℕ) → AppendsPart before after text → IsFull after room → LacksPlace before room text
lacks_place None after room text part full = tt
lacks_place (Some bytes) after None text part full = tt
lacks_place (Some bytes) after (Some most) text part full =
    let told : length (bytes ++ take part.count text) ≡ most = subst (λ now. IsFull now (Some most)) part.appended full in
    let proper : part.count < length text = part.proper in
    omega (arith, told, proper, length-append bytes (take part.count text), length-take part.count text)

-- the whole text was written
pub record Wrote {K : Type 0} (written : K → Option (List ℕ)) (room : K → Option ℕ) (faults : K → ℕ) (before after : K) (text : List ℕ) : Type 0 where
  pub appended : written after ≡ append_known (written before) text
  pub uncounted : faults after ≡ faults before
  pub same_room : room after ≡ room before

-- nothing was written
pub wrote_none : {K : Type 0} (written : K → Option (List ℕ)) (room : K → Option ℕ) (faults : K → ℕ) (now : K) → Wrote written room faults now now []
wrote_none written room faults now = record { appended = sym (append_known-nil (written now)); uncounted = refl; same_room = refl }

-- two texts were written, one after the other
pub wrote_both : {K : Type 0} (written : K → Option (List ℕ)) (room : K → Option ℕ) (faults : K → ℕ) (old mid new : K) (a b whole : List ℕ) → whole ≡ a ++ b
    → Wrote written room faults old mid a → Wrote written room faults mid new b → Wrote written room faults old new whole
wrote_both written room faults old mid new a b whole is first second = record {
  appended = second.appended ∙ ap (λ known. append_known known b) first.appended ∙ append_known-append (written old) a b ∙ ap (append_known (written old)) (sym is);
  uncounted = second.uncounted ∙ first.uncounted;
  same_room = second.same_room ∙ first.same_room;
}

-- a text whose writing was no fault was written
pub wrote_whole : {K : Type 0} (written : K → Option (List ℕ)) (room : K → Option ℕ) (faults : K → ℕ) (old new : K) (u : Unit {0}) (text : List ℕ) → Writes written room faults old new (Ok u) text
    → Wrote written room faults old new text
wrote_whole written room faults old new u text writes = record { appended = writes.appended; uncounted = writes.uncounted; same_room = writes.same_room }

-- a text that was written is one whose writing is no fault
pub writes_whole : {K : Type 0} (written : K → Option (List ℕ)) (room : K → Option ℕ) (faults : K → ℕ) (old new : K) (u : Unit {0}) (text : List ℕ) → Wrote written room faults old new text
    → Writes written room faults old new (Ok u) text
writes_whole written room faults old new u text wrote =
    let same : faults new ≡ faults old = wrote.uncounted in record {
      appended = wrote.appended;
      uncounted = same;
      part = tt;
      full = tt;
      lacks = tt;
      counted = tt;
      rose = λ lt. absurd (omega (arith, lt, same));
      never_falls = omega (arith, same);
      same_room = wrote.same_room;
    }

-- a fault with one text of several, behind those that were written, is a fault with them all
pub writes_fault : {K : Type 0} (written : K → Option (List ℕ)) (room : K → Option ℕ) (faults : K → ℕ) (old mid new : K) (one answer : Result (Unit {0}) WriteFault) (d e : WriteFault) (front text more whole : List ℕ)
    → one ≡ Err d → answer ≡ Err e → whole ≡ front ++ (text ++ more) → Wrote written room faults old mid front → Writes written room faults mid new one text → Writes written room faults old new answer whole
writes_fault written room faults old mid new one answer d e front text more whole one_is is parts wrote writes =
    let fault : Writes written room faults mid new (Err d) text = subst (λ r. Writes written room faults mid new r text) one_is writes in
    let part : AppendsPart (written old) (written new) whole =
    subst (AppendsPart (written old) (written new)) (sym parts)
    (part_behind (written old) (written mid) (written new) front (text ++ more) wrote.appended (part_before (written mid) (written new) text more fault.part)) in
    let same : room new ≡ room old = fault.same_room ∙ wrote.same_room in
    subst (λ r. Writes written room faults old new r whole) (sym is)
    (let all : Writes written room faults old new (Err e) whole = record {
      appended = tt;
      uncounted = tt;
      part = part;
      full = fault.full;
      lacks = lacks_place (written old) (written new) (room old) whole part (subst (IsFull (written new)) same fault.full);
      counted = subst (λ n. IsCounted n (faults new)) wrote.uncounted fault.counted;
      rose = λ lt. refl;
      never_falls = subst (λ n. n ≤ faults new) wrote.uncounted fault.never_falls;
      same_room = same;
    } in all)

-- the first text was written, and then the second or a part of it
pub writes_both : {K : Type 0} (written : K → Option (List ℕ)) (room : K → Option ℕ) (faults : K → ℕ) (old mid new : K) (answer : Result (Unit {0}) WriteFault) (a b : List ℕ)
    → Wrote written room faults old mid a → Writes written room faults mid new answer b → Writes written room faults old new answer (a ++ b)
writes_both written room faults old mid new (Ok u) a b first second =
    writes_whole written room faults old new u (a ++ b) (wrote_both written room faults old mid new a b (a ++ b) refl first (wrote_whole written room faults mid new u b second))
writes_both written room faults old mid new (Err e) a b first second =
    writes_fault written room faults old mid new (Err e) (Err e) e e a b [] (a ++ b) refl refl (ap (λ xs. a ++ xs) (sym (append-nil b))) first second
