use Rattle.std.proofs.Common.{◌≡◌, ℕ, ◌<◌, List, [], ◌++◌, None, get_or, length, sym, ap, ◌∙◌, arith}
use Rattle.std.proofs.lemmas.List.{get_or-map, length-map}
use Rattle.um_unit_reasons.specs.VariableNames.{with_variable}
use Rattle.um_unit_reasons.proofs.NamedSteps.{more_named, all_named}
use Rattle.um_unit_reasons.proofs.named.named_by.Goals as goal

pub loop-v-preserved : goal.loop-v-preserved
loop-v-preserved c =
    let names : List (List ℕ) = c.args.names.now in
    let v = c.loop-v.v in
    let texts = c.in_ok-texts.texts.items in
    let long = length-map texts (λ name. name.now) in
    let size = ap length c.in_ok-texts.ensures in
    let inside : v < length texts = omega (arith, c.loop-v-test.true) in
    let named = c.loop-v.named.items in
    let text : c.index.result.now.now ≡ get_or names v [] =
    ap (λ name. name.now) c.index.ensures ∙ sym (get_or-map (λ name. name.now) texts v c.index.result.now [] inside)
    ∙ ap (λ (ns : List (List ℕ)). get_or ns v []) c.in_ok-texts.ensures in
    more_named (λ v. get_or c.args.variables.now v None) names v named c.push_named.new.named.items (omega (arith, inside, long, size)) c.loop-v.invariant
    (c.in_ok-push_named.ensures ∙ ap (λ o. named ++ with_variable o c.index.result.now.now []) c.variable_at.ensures
    ∙ ap (λ (x : List ℕ). named ++ with_variable (get_or c.args.variables.now v None) x []) text)

pub returns : goal.returns
returns c =
    let long = length-map c.in_ok-texts.texts.items (λ name. name.now) in
    let size = ap length c.in_ok-texts.ensures in
    all_named (λ v. get_or c.args.variables.now v None) c.args.names.now c.loop-v.v c.loop-v.named.items (omega (arith, c.loop-v-test.false, long, size)) c.loop-v.invariant
