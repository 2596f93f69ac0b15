use Rattle.std.proofs.Common.{◌+◌, ◌<◌, [], map, sym, ap, ◌∙◌, subst}
use Rattle.std.specs.Prelude.{All, IfOk}
use Rattle.um_tree.specs.TypeTree.{type_tree}
use Rattle.um_tree.specs.Scheme.{variables}
use Rattle.um_unit_reasons.specs.UnitReasons.{own_named}
use Rattle.um_unit_reasons.specs.Answers.{IsNumberingOf, refusal_of}
use Rattle.um_unit_reasons.proofs.TellingSteps.{own_held}
use Rattle.um_unit_reasons.proofs.telling.own_numbering.Goals as goal

pub own_numbered-numbering-requires-clause-types : goal.own_numbered-numbering-requires-clause-types
own_numbered-numbering-requires-clause-types c =
    let x = c.args.x.now in
    let same = ap (map type_tree) c.deref.ensures.value ∙ c.in_ok-types.ensures [] in
    subst (λ ts. All (λ k. k < x.found.now.rows.slots + x.parameters) (variables ts)) (sym same) (own_held x c.requires.low [] (type_tree c.args.first) (type_tree c.args.second) c.requires.types)

pub returns : goal.returns
returns c = λ agreed.
    subst (λ ts. IfOk c.own_numbered-numbering.result (IsNumberingOf (own_named (refusal_of c.args.x.now agreed)) ts)) (ap (map type_tree) c.deref.ensures.value ∙ c.in_ok-types.ensures agreed) (c.own_numbered-numbering.ensures agreed)
