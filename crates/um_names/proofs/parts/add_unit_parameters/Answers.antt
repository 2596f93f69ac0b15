use Rattle.std.proofs.Common.{◌≡◌, ◌+◌, ℕ, List, false, true, [], ◌∷◌, ◌++◌, cond, map, drop, sym, ap, ◌∙◌, subst}
use Rattle.um_tree.specs.RawTree.{var_syntax}
use Rattle.um_measures.specs.Known.{is_among}
use Rattle.um_names.specs.Resolution.{resolved_parameters}
use Rattle.um_measures.proofs.Stages.{map_from_more}
use Rattle.um_names.proofs.Declarations.{parameters_next, parameters_stop}
use Rattle.um_names.proofs.parts.add_unit_parameters.Goals as goal

pub loop-var-preserved : goal.loop-var-preserved
loop-var-preserved c =
    let vs = c.args.raw.now in
    let i = c.loop-var.var-index in
    let v = c.var-item.result in
    let rest = map_from_more var_syntax vs i v c.loop-var-test.true c.var-item.is in
    let absent : is_among c.loop-var.names v.name ≡ false = sym (c.has.ensures ∙ ap (is_among c.loop-var.names) c.as_slice.ensures) ∙ c.if-has.false in
    let added = subst (λ (x : List ℕ). c.add.new.self ≡ cond (is_among c.loop-var.names x) c.loop-var.names (c.loop-var.names ++ x ∷ [])) c.as_slice-in-loop-var.ensures c.in_ok-add.ensures in
    parameters_next (resolved_parameters c.args.names.now (map var_syntax vs)) c.loop-var.names c.add.new.self (var_syntax v) (map var_syntax (drop i vs)) (map var_syntax (drop (i + 1) vs)) c.loop-var.invariant rest absent added

pub returns-then-has-clause-faults : goal.returns-then-has-clause-faults
returns-then-has-clause-faults c =
    let vs = c.args.raw.now in
    let i = c.loop-var.var-index in
    let v = c.var-item.result in
    let rest = map_from_more var_syntax vs i v c.loop-var-test.true c.var-item.is in
    let known : is_among c.loop-var.names v.name ≡ true = sym (c.has.ensures ∙ ap (is_among c.loop-var.names) c.as_slice.ensures) ∙ c.if-has.true in
    parameters_stop (resolved_parameters c.args.names.now (map var_syntax vs)) c.loop-var.names (var_syntax v) (map var_syntax (drop i vs)) (map var_syntax (drop (i + 1) vs)) c.loop-var.invariant rest known
