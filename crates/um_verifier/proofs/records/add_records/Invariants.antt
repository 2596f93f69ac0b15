use Rattle.std.proofs.Common.{◌≡◌, [], take}
use Rattle.um_verify.specs.Heads.{RecordHolds}
use Rattle.um_verifier.specs.KnownHeads.{TakesRecords}
use Rattle.um_verifier.proofs.Firsts.{HoldBefore}
use Rattle.um_verifier.proofs.RecordHeads.{trees}
use Rattle.um_verifier.proofs.records.add_records.Given as goal

abbrev pub invariant-loop-i : goal.invariant-loop-i
invariant-loop-i l = record {
  heads : l.known.heads.items ≡ [];
  takes : TakesRecords (take l.i (trees l.declared)) l.known l.names l.field_names;
  hold : HoldBefore (RecordHolds (trees l.declared)) (trees l.declared) l.i;
}
