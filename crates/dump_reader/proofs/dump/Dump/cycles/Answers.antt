use Rattle.std.proofs.Common.{subst}
use Rattle.dump_reader.specs.Recording.{IsRecording}
use Rattle.dump_reader.proofs.Rows.{kept_recording}
use Rattle.dump_reader.proofs.dump.Dump.cycles.Goals as goal

pub returns-clause-recording : goal.returns-clause-recording
returns-clause-recording c = subst IsRecording c.self.view_is (kept_recording c.self.inside.cycles c.self.inside.sigs.items c.self.inside.cells.items c.self.inside.marks.items c.self.invariant)
