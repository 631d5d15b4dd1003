-- A reply, or want of memory in place of one that is written by a buffer.
use Rattle.std.proofs.Common.{◌≡◌, ◌⊎◌, ℕ, List, Option, inl, inr, sym, ap, subst}
use Rattle.sr_outside.specs.Told.{Held}
use Rattle.report.specs.declared.refusal.Refusal.TheVariants as refusals
use Rattle.restore_program.specs.declared.reply.Reply.{Reply}
use Rattle.restore_program.specs.declared.reply.Reply.TheVariants as replies
use Rattle.restore_program.specs.declared.status.Status.TheVariants as statuses
use Rattle.restore_program.specs.Reply.{IsBuffered, IsResult, status_of}
use Rattle.restore_program.specs.ReplyAnswers.{ReplyAnswer, fault_of}
use Rattle.restore_program.proofs.ReplyStatuses.{of_end}

abbrev pub IsPrepared : Reply → Reply → Type 0
IsPrepared reply prepared = (prepared ≡ reply) ⊎ (IsBuffered reply × (prepared ≡ replies.Refused refusals.NoMemory))

pub prepared_answer : (words : List (List ℕ)) (told : Option Held) (reply prepared : Reply) → IsPrepared reply prepared → ReplyAnswer words told reply → ReplyAnswer words told prepared
prepared_answer words told reply prepared (inl same) answer = subst (ReplyAnswer words told) (sym same) answer
prepared_answer words told reply prepared (inr (_, none)) answer = subst (ReplyAnswer words told) (sym none) (λ held enough plain. absurd plain)

-- a refusal of words is as it was
pub prepared_status : (reply prepared : Reply) → IsPrepared reply prepared → status_of reply ≡ statuses.Words → status_of prepared ≡ statuses.Words
prepared_status reply prepared (inl same) e = subst (λ r. status_of r ≡ statuses.Words) (sym same) e
prepared_status (replies.Known table) prepared (inr (_, none)) e = absurd cc
prepared_status (replies.Refused r) prepared (inr (other, none)) e = absurd other
prepared_status (replies.Clash n cell) prepared (inr (other, none)) e = absurd other
prepared_status (replies.Text text status) prepared (inr (other, none)) e = absurd other
prepared_status (replies.Ranking ranked) prepared (inr (other, none)) e = absurd other
prepared_status (replies.Load loaded) prepared (inr (other, none)) e = absurd other
prepared_status (replies.Certificate n log) prepared (inr (_, none)) e = absurd (subst IsResult e (of_end log.clash))
prepared_status (replies.Checked n facts clash) prepared (inr (other, none)) e = absurd other

-- and none says that a part was not read
pub prepared_fault : (reply prepared : Reply) → IsPrepared reply prepared → fault_of prepared ≡ fault_of reply
prepared_fault reply prepared (inl same) = ap fault_of same
prepared_fault (replies.Known table) prepared (inr (_, none)) = ap fault_of none
prepared_fault (replies.Refused r) prepared (inr (other, none)) = absurd other
prepared_fault (replies.Clash n cell) prepared (inr (other, none)) = absurd other
prepared_fault (replies.Text text status) prepared (inr (other, none)) = absurd other
prepared_fault (replies.Ranking ranked) prepared (inr (other, none)) = absurd other
prepared_fault (replies.Load loaded) prepared (inr (other, none)) = absurd other
prepared_fault (replies.Certificate n log) prepared (inr (_, none)) = ap fault_of none
prepared_fault (replies.Checked n facts clash) prepared (inr (other, none)) = absurd other
