use Rattle.std.proofs.Common.{map, ap, ◌∙◌, subst}
use Rattle.std.specs.Prelude.{IfOk}
use Rattle.um_tree.specs.TypeTree.{type_tree}
use Rattle.um_unit_reasons.specs.UnitReasons.{other_named}
use Rattle.um_unit_reasons.specs.Answers.{IsNumberingOf, refusal_of}
use Rattle.um_unit_reasons.proofs.telling.other_numbering.Goals as goal

pub returns : goal.returns
returns c = λ agreed.
    subst (λ ts. IfOk c.other_numbered-numbering.result (IsNumberingOf (other_named (refusal_of c.args.x.now agreed)) ts)) (ap (map type_tree) c.deref.ensures.value ∙ c.in_ok-types.ensures) (c.other_numbered-numbering.ensures agreed)
