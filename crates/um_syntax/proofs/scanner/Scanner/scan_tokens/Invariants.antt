use Rattle.std.proofs.Common.{◌≡◌, ◌+◌, ◌-◌, [], length}
use Rattle.std.specs.Str.{IsCharBoundary}
use Rattle.std.specs.String.{string_bytes}
use Rattle.um_syntax.specs.declared.pending.Pending.TheVariants as pending
use Rattle.um_syntax.specs.Scanning.{scan_of, Scans}
use Rattle.um_syntax.proofs.scanner.Scanner.scan_tokens.Given as goal

abbrev pub invariant-loop-len : goal.invariant-loop-len
invariant-loop-len l = record {
  boundary : IsCharBoundary l.text l.len;
  scans : Scans (scan_of l.fn.self) l.text l.len (scan_of l.self);
  free : l.self.pending ≡ pending.Free;
  none : string_bytes l.self.letters ≡ [];
  place : l.self.at ≡ l.fn.self.at + l.len;
}

abbrev pub decreases-loop-len : goal.decreases-loop-len
decreases-loop-len l = length l.text - l.len
