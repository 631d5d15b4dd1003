-- What the reading of files did to the inputs, part by part.
use Rattle.std.proofs.Common.{◌≡◌, ◌<◌, ◌≤◌, ℕ, Bool, List, Option, None, Result, Ok, Err, inl, inr, refl, sym, subst, arith}
use Rattle.std.specs.Prelude.{IsErrOf, IsSome, IfSome}
use Rattle.std.proofs.lemmas.Bool.{cases_lt}
use Rattle.std.proofs.lemmas.Option.{IfSome_then}
use Rattle.sr_outside.specs.Counts.{IsCounted}
use Rattle.sr_outside.specs.Told.{Held, IsSteady}
use Rattle.sr_outside.specs.declared.whole.ReadRefusal.{ReadRefusal}
use Rattle.sr_outside.specs.declared.whole.ReadRefusal.TheVariants as reads
use Rattle.report.specs.declared.refusal.Part.{Part}
use Rattle.restore_program.specs.Faults.{AreAllSteady, IsFaultOf}
use Rattle.restore_program.specs.Reads.{Reads}
use Rattle.restore_program.specs.ReplyAnswers.{refusal_fault, unread_refusal}
use Rattle.restore_program.specs.Requests.{File}

-- the part of which a reading says that it was not read
abbrev pub read_fault : {B : Type 0} → Part → Result B ReadRefusal → Option Part
read_fault part (Ok bytes) = None
read_fault part (Err refusal) = refusal_fault (unread_refusal part refusal)

is_fault : {B : Type 0} (part : Part) (result : Result B ReadRefusal) → IsSome (read_fault part result) → IsErrOf result reads.Fault
is_fault part (Ok bytes) some = absurd cc
is_fault part (Err reads.Fault) some = refl
is_fault part (Err reads.TooLong) some = absurd cc
is_fault part (Err reads.NoMemory) some = absurd cc

of_fault : {B : Type 0} (part : Part) (P : Part → Type 0) (result : Result B ReadRefusal) → (IsErrOf result reads.Fault → P part) → IfSome (read_fault part result) P
of_fault part P (Ok bytes) h = tt
of_fault part P (Err reads.Fault) h = h refl
of_fault part P (Err reads.TooLong) h = tt
of_fault part P (Err reads.NoMemory) h = tt

module _ {I : Type 0} (held : I → Option Held) (shaky : I → Option (List ℕ → Bool)) (faults : I → ℕ) where
  -- no input was read
  pub none_read : (inputs : I) (Of : File → Type 0) → Reads held shaky faults inputs inputs Of None
  none_read inputs Of = record {
    counted = λ some. absurd cc;
    rose = λ less. absurd (omega (arith, less));
    never_falls = omega arith;
    steady = λ _. refl;
    cause = tt;
    same_held = refl;
    same_shaky = refl;
  }

  -- such a file was read whole, or was not
  pub whole_read : {B : Type 0} (before after : I) (Of : File → Type 0) (file : File) → Of file → (result : Result B ReadRefusal) → (IsErrOf result reads.Fault → IsCounted (faults before) (faults after)) → (faults before < faults after → IsErrOf result reads.Fault)
      → faults before ≤ faults after → (IsSteady (held before) (shaky before) file.1 → (¬ IsErrOf result reads.Fault) × (faults after ≡ faults before)) → held after ≡ held before → shaky after ≡ shaky before
      → Reads held shaky faults before after Of (read_fault file.0 result)
  whole_read before after Of file of result counted rose never_falls steady same_held same_shaky = record {
    counted = λ some. counted (is_fault file.0 result some);
    rose = λ less. subst (λ r. IsSome (read_fault file.0 r)) (sym (rose less)) refl;
    never_falls = never_falls;
    steady = λ each. (steady (each file of)).1;
    cause = of_fault file.0 (IsFaultOf (held before) (shaky before) Of) result (λ fault. (file.1, of, λ is. (steady is).0 fault));
    same_held = same_held;
    same_shaky = same_shaky;
  }

  -- these files are among others
  pub read_among : (before after : I) (Of Among : File → Type 0) (unread : Option Part) → ((file : File) → Of file → Among file) → Reads held shaky faults before after Of unread → Reads held shaky faults before after Among unread
  read_among before after Of Among unread each r = record {
    counted = r.counted;
    rose = r.rose;
    never_falls = r.never_falls;
    steady = λ steady. r.steady (λ file of. steady file (each file of));
    cause = IfSome_then unread r.cause (λ part (name, of, unsteady). (name, each (part, name) of, unsteady));
    same_held = r.same_held;
    same_shaky = r.same_shaky;
  }

  -- one reading behind another, which was whole
  pub read_then : (before middle after : I) (Of : File → Type 0) (unread : Option Part) → Reads held shaky faults before middle Of None → Reads held shaky faults middle after Of unread → Reads held shaky faults before after Of unread
  read_then before middle after Of unread first second = record {
    counted = subst (λ n. IsSome unread → IsCounted n (faults after)) same second.counted;
    rose = subst (λ n. n < faults after → IsSome unread) same second.rose;
    never_falls = subst (λ n. n ≤ faults after) same second.never_falls;
    steady = λ steady. subst (λ n. faults after ≡ n) same (second.steady (told (λ t s. AreAllSteady t s Of) steady));
    cause = back (λ t s. IfSome unread (IsFaultOf t s Of)) second.cause;
    same_held = subst (λ h. held after ≡ h) first.same_held second.same_held;
    same_shaky = subst (λ s. shaky after ≡ s) first.same_shaky second.same_shaky;
  } where
    same : faults middle ≡ faults before
    same = elim (cases_lt (faults before) (faults middle)) [
      | inl less ↦ let some : IsSome {T = Part} None = first.rose less in absurd cc
      | inr more ↦ omega (arith, more, first.never_falls)
    ]

    told : (P : Option Held → Option (List ℕ → Bool) → Type 0) → P (held before) (shaky before) → P (held middle) (shaky middle)
    told P h = subst (λ t. P t (shaky middle)) (sym first.same_held) (subst (λ s. P (held before) s) (sym first.same_shaky) h)

    back : (P : Option Held → Option (List ℕ → Bool) → Type 0) → P (held middle) (shaky middle) → P (held before) (shaky before)
    back P h = subst (λ t. P t (shaky before)) first.same_held (subst (λ s. P (held middle) s) first.same_shaky h)
