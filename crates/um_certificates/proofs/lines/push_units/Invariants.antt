use Rattle.std.proofs.Common.{◌≡◌, ◌++◌, take}
use Rattle.um_certificates.specs.CertificateText.{numbered, unit_line}
use Rattle.um_certificates.proofs.lines.push_units.Given as goal

abbrev pub invariant-loop-k : goal.invariant-loop-k
invariant-loop-k l = l.text.items ≡ l.initial.text.items ++ numbered (unit_line l.word l.bases) 0 (take l.k l.units)
