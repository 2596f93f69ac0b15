use Rattle.std.proofs.Common.{◌∙◌, inl, inr, refl, sym, ap, subst, arith}
use Rattle.std.proofs.lemmas.List.{length-map}
use Rattle.um_tree.specs.ProgramTree.{program_tree, scheme_tree}
use Rattle.um_infer.specs.Inference.{infer_first}
use Rattle.um_infer.specs.Answers.{scheme_trees}
use Rattle.um_proof.specs.Proving.{IsRefusal}
use Rattle.um_proof.proofs.program.prove.Goals as goal
use Rattle.std.proofs.Common.{None}

pub with_yes-requires-clause-count : goal.with_yes-requires-clause-count
with_yes-requires-clause-count c =
    sym (length-map c.in-Ok.schemes.items.items scheme_tree) ∙ c.in-Ok.ensures.typings.count ∙ sym c.function_count.ensures

pub with_yes-requires-clause-before : goal.with_yes-requires-clause-before
with_yes-requires-clause-before c =
    let p = program_tree c.args.shaped.now in
    ap (infer_first p) (sym (length-map c.in-Ok.schemes.items.items scheme_tree) ∙ c.in-Ok.ensures.typings.count) ∙ c.in-Ok.ensures.inferred

pub with_yes-requires-clause-few : goal.with_yes-requires-clause-few
with_yes-requires-clause-few c =
    let n = sym (length-map c.in-Ok.schemes.items.items scheme_tree) ∙ c.in-Ok.ensures.typings.count in
    omega (arith, n)

pub with_yes-requires-clause-no : goal.with_yes-requires-clause-no
with_yes-requires-clause-no c =
    let p = program_tree c.args.shaped.now in
    subst (λ r. IsRefusal p (scheme_trees c.in-Ok.schemes) r None) (sym c.in-Ok.ensures.inferred) refl

pub refused_proofs-requires : goal.refused_proofs-requires
refused_proofs-requires c = let w = rw c.in-Err-Units.field-0-is at c.in-Err-Units.ensures.inferred in (w.0, c.in-Err-Units.field-0-1, inl w.1)

pub refused_proofs-requires-in-Err-NotGeneral : goal.refused_proofs-requires-in-Err-NotGeneral
refused_proofs-requires-in-Err-NotGeneral c = let w = rw c.in-Err-NotGeneral.field-0-is at c.in-Err-NotGeneral.ensures.inferred in (w.0, c.in-Err-NotGeneral.field-0-1, inr w.1)

pub with_yes-requires-clause-tidy : goal.with_yes-requires-clause-tidy
with_yes-requires-clause-tidy c = λ c e. absurd (cc e)
