use Rattle.std.proofs.Common.{◌≡◌, ◌++◌, take}
use Rattle.um_tree.specs.ProgramTree.{program_tree}
use Rattle.um_certificates.specs.CertificateText.{function_name, numbered, yes_text}
use Rattle.um_certificates.proofs.text.push_all.Given as goal

abbrev pub invariant-loop-i : goal.invariant-loop-i
invariant-loop-i l =
    (l.bases ≡ l.program.bases)
    × (l.text.items ≡ l.initial.text.items ++ numbered (λ i. yes_text l.program.bases (function_name (program_tree l.program) i)) 0 (take l.i l.yes))
