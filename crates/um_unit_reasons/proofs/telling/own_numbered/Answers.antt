use Rattle.std.proofs.Common.{◌≡◌, [], None, map, get_or, subst}
use Rattle.std.specs.Prelude.{IfOk}
use Rattle.um_tree.specs.TypeTree.{type_tree}
use Rattle.um_unit_reasons.specs.VariableNames.{named_from}
use Rattle.um_unit_reasons.specs.Answers.{IsNumberingOf}
use Rattle.um_unit_reasons.proofs.TellingSteps.{own_are, own_small}
use Rattle.um_unit_reasons.proofs.telling.own_numbered.Goals as goal

pub numbered-requires : goal.numbered-requires
numbered-requires c =
    let x = c.args.x.now in
    let named = c.in_ok-named.named.items in
    let by = subst (λ vs. named ≡ named_from (λ v. get_or vs v None) 0 x.names.now) c.deref.ensures.value c.in_ok-named.ensures in
    own_small x c.requires.low [] named (own_are x c.requires.low [] c.in_ok-variables.variables.items c.in_ok-variables.ensures named by) (map type_tree c.args.types.now) c.requires.types

pub returns : goal.returns
returns c = λ agreed.
    let x = c.args.x.now in
    let named = c.in_ok-named.named.items in
    let by = subst (λ vs. named ≡ named_from (λ v. get_or vs v None) 0 x.names.now) c.deref.ensures.value c.in_ok-named.ensures in
    subst (λ ns. IfOk c.numbered.result (IsNumberingOf ns (map type_tree c.args.types.now))) (own_are x c.requires.low agreed c.in_ok-variables.variables.items c.in_ok-variables.ensures named by) c.numbered.ensures
