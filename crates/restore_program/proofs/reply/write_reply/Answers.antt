use Rattle.std.proofs.Common.{map, sym, subst}
use Rattle.std.specs.String.{string_bytes}
use Rattle.report.specs.Writes.{Writes}
use Rattle.restore_program.specs.Reply.{text_of}
use Rattle.restore_program.proofs.reply.write_reply.Goals as goal

pub returns-in-Clash : goal.returns-in-Clash
returns-in-Clash g c =
    subst (λ reply. Writes g.K.Sink.written g.K.Sink.room g.K.Sink.faults c.args.out.now c.write_clash.new.out c.write_clash.result (text_of (map string_bytes c.args.words.now) reply)) (sym c.in-Clash.is) c.write_clash.ensures

pub returns-in-Load : goal.returns-in-Load
returns-in-Load g c =
    subst (λ reply. Writes g.K.Sink.written g.K.Sink.room g.K.Sink.faults c.args.out.now c.write_loaded.new.out c.write_loaded.result (text_of (map string_bytes c.args.words.now) reply)) (sym c.in-Load.is) c.write_loaded.ensures

pub returns-in-Ranking : goal.returns-in-Ranking
returns-in-Ranking g c =
    subst (λ reply. Writes g.K.Sink.written g.K.Sink.room g.K.Sink.faults c.args.out.now c.write_picks.new.out c.write_picks.result (text_of (map string_bytes c.args.words.now) reply)) (sym c.in-Ranking.is) c.write_picks.ensures

pub returns-in-Certificate : goal.returns-in-Certificate
returns-in-Certificate g c =
    subst (λ reply. Writes g.K.Sink.written g.K.Sink.room g.K.Sink.faults c.args.out.now c.write_certificate.new.out c.write_certificate.result (text_of (map string_bytes c.args.words.now) reply)) (sym c.in-Certificate.is) c.write_certificate.ensures

pub returns-in-Checked : goal.returns-in-Checked
returns-in-Checked g c =
    subst (λ reply. Writes g.K.Sink.written g.K.Sink.room g.K.Sink.faults c.args.out.now c.write_checked.new.out c.write_checked.result (text_of (map string_bytes c.args.words.now) reply)) (sym c.in-Checked.is) c.write_checked.ensures
