use Rattle.std.proofs.Common.{map, take, []}
use Rattle.um_tree.specs.ProgramTree.{program_tree, scheme_tree}
use Rattle.um_show.specs.SchemeText.{scheme_text}
use Rattle.um_call_answers.proofs.DifferentTexts.{HoldsOnce}
use Rattle.um_call_answers.proofs.big.different_schemes.Given as goal

-- the texts of the first schemes are held once
abbrev pub invariant-loop-scheme : goal.invariant-loop-scheme
invariant-loop-scheme l = HoldsOnce l.texts (map (scheme_text (program_tree l.program) []) (map scheme_tree (take l.scheme-index l.schemes)))
