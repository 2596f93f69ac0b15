use Rattle.std.proofs.Common.{rules, ◌≡◌, true, get_or}
use Rattle.um_syntax.specs.declared.pending.Pending.TheVariants as pending
use Rattle.um_syntax.specs.Machine.{keeps}
use Rattle.um_syntax.specs.Scanning.{scan_of}
use Rattle.um_syntax.proofs.AtOnce.{scans_none, scans_blank}
use Rattle.um_syntax.proofs.scanner.Scanner.scan_token.Goals as goal

pub returns-then-is_blank-clause-scans : goal.returns-then-is_blank-clause-scans
returns-then-is_blank-clause-scans c =
    let text = c.args.text.now in
    let blank : keeps pending.Free (get_or text 0 0) ≡ true = search rules in
    scans_blank (scan_of c.args.self.now) text c.requires.free c.utf8.text c.requires.some blank

pub returns-then-first-lt32-clause-scans : goal.returns-then-first-lt32-clause-scans
returns-then-first-lt32-clause-scans c = scans_none (scan_of c.args.self.now) c.args.text.now c.utf8.text
