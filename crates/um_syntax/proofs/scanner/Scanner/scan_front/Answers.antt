use Rattle.std.proofs.Common.{arith}
use Rattle.um_syntax.specs.Scanning.{scan_of}
use Rattle.um_syntax.proofs.AtOnce.{scans_none}
use Rattle.um_syntax.proofs.scanner.Scanner.scan_front.Goals as goal

pub returns-in_default : goal.returns-in_default
returns-in_default c = record {
  scans = scans_none (scan_of c.args.self.now) c.args.text.now c.utf8.text;
  fits = c.requires.fits;
  place = omega arith;
  stays = tt;
}
