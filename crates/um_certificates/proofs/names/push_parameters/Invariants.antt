use Rattle.std.proofs.Common.{◌≡◌, ◌++◌, map}
use Rattle.std.specs.List.{range_with_len}
use Rattle.um_certificates.specs.CertificateText.{parameter_name}
use Rattle.um_certificates.proofs.names.push_parameters.Given as goal

abbrev pub invariant-loop-k : goal.invariant-loop-k
invariant-loop-k l = l.items.items ≡ l.initial.items.items ++ map parameter_name (range_with_len 0 l.k)
