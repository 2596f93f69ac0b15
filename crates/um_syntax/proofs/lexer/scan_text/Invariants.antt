use Rattle.std.proofs.Common.{◌≡◌, ◌+◌, length, drop, Ok}
use Rattle.std.specs.Str.{chars}
use Rattle.um_syntax.specs.Lexing.{size_of}
use Rattle.um_syntax.specs.Machine.{steps, scan_start, PendingFits}
use Rattle.um_syntax.specs.Scanning.{scan_of}
use Rattle.um_syntax.proofs.lexer.scan_text.Given as goal

abbrev pub invariant-loop-c : goal.invariant-loop-c
invariant-loop-c l = record {
  fits : PendingFits l.scanner.pending;
  place : l.scanner.at + size_of (drop (length l.yielded) (chars l.text)) ≡ length l.text;
  so_far : steps (Ok (scan_of l.scanner)) (drop (length l.yielded) (chars l.text)) ≡ steps (Ok scan_start) (chars l.text);
}
