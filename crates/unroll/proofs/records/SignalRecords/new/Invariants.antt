use Rattle.std.proofs.Common.{◌≡◌, ◌≤◌, ◌*◌, length}
use Rattle.unroll.specs.Records.{AreRecordsOf}
use Rattle.unroll.proofs.records.SignalRecords.new.Given as goal

abbrev pub invariant-loop-number : goal.invariant-loop-number
invariant-loop-number l =
    AreRecordsOf l.net.drivers l.adjacent.items l.records.items × (length l.records.items ≡ l.number) × (length l.adjacent.items ≤ l.number * 65537)
