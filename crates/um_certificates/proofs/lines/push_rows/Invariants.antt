use Rattle.std.proofs.Common.{◌≡◌, ◌++◌, take}
use Rattle.um_certificates.specs.CertificateText.{numbered, rows_line}
use Rattle.um_certificates.proofs.lines.push_rows.Given as goal

abbrev pub invariant-loop-k : goal.invariant-loop-k
invariant-loop-k l = l.text.items ≡ l.initial.text.items ++ numbered rows_line 0 (take l.k l.lists)
