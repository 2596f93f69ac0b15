use Rattle.um_tree.specs.ProgramTree.{program_tree}
use Rattle.um_infer.specs.Answers.{scheme_trees}
use Rattle.um_unit_reasons.proofs.FunctionFacts.{below, right_for}
use Rattle.um_unit_reasons.proofs.function.agreements.Goals as goal

pub agreed_rows-requires-clause-schemes : goal.agreed_rows-requires-clause-schemes
agreed_rows-requires-clause-schemes c =
    let x = c.args.function.now in below (program_tree x.shaped.now) c.requires.formed c.requires.shaped (scheme_trees c.args.schemes.now) x.number x.rigid c.requires.refused

pub agreed_rows-requires-clause-right : goal.agreed_rows-requires-clause-right
agreed_rows-requires-clause-right c =
    let x = c.args.function.now in right_for (program_tree x.shaped.now) c.requires.formed c.requires.shaped (scheme_trees c.args.schemes.now) x.number x.rigid c.requires.refused
