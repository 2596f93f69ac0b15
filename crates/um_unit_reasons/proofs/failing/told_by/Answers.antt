use Rattle.std.proofs.Common.{sym, ap, ◌∙◌}
use Rattle.um_tree.specs.TypeTree.{type_tree}
use Rattle.um_reasons.specs.Answers.{reason_tree as tree_of_reason}
use Rattle.um_unit_reasons.specs.UnitReasons.{by_reason}
use Rattle.um_unit_reasons.specs.Answers.{refusal_of}
use Rattle.um_unit_reasons.proofs.FailingSteps.{others_held, told_are}
use Rattle.um_unit_reasons.proofs.failing.told_by.Goals as goal

pub told_types-requires-clause-own : goal.told_types-requires-clause-own
told_types-requires-clause-own c = c.requires.low (type_tree c.in-Disagree.first) (type_tree c.in-Disagree.second) c.in-Disagree.factor (ap tree_of_reason c.in-Disagree.is)

pub told_types-requires-clause-others : goal.told_types-requires-clause-others
told_types-requires-clause-others c =
    let s = c.requires.sound in
    others_held c.args.x.now s.0 s.2 s.1 c.args.agreements.now s.3

pub returns-in-Ok : goal.returns-in-Ok
returns-in-Ok c = λ agreed core sound are.
    let x = c.args.x.now in
    told_are x agreed sound core c.args.agreements.now are (type_tree c.in-Disagree.first) (type_tree c.in-Disagree.second) c.in-Disagree.factor c.args.cut_off c.in-Ok.told.items (c.in-Ok.ensures agreed)
    ∙ ap (by_reason (refusal_of x agreed) core c.args.cut_off) (sym (ap tree_of_reason c.in-Disagree.is))
