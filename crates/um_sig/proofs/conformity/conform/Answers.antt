use Rattle.std.proofs.Common.{map, subst, Err}
use Rattle.um_tree.specs.TypeTree.{type_tree, type_trees}
use Rattle.um_tree.specs.ProgramTree.{scheme_tree}
use Rattle.um_sig.specs.declared.stop.SigStop.TheVariants as stop
use Rattle.um_sig.specs.Form.{AreAlike, IsFirstDifference}
use Rattle.um_sig.specs.Matching.{match_types}
use Rattle.um_sig.specs.Instances.{scheme_types}
use Rattle.um_sig.specs.Answers.{IsMatching}
use Rattle.um_sig.proofs.InstanceLaws.{answers_say_what_instances_are, conformed_from_matching}
use Rattle.um_sig.proofs.conformity.conform.Goals as goal

pub returns-in-Some-clause-instances : goal.returns-in-Some-clause-instances
returns-in-Some-clause-instances c =
    let s = scheme_tree c.args.scheme.now in
    let types = type_trees c.args.signature.now.types in
    let i = c.in-Some.index in
    let first = subst (λ ts. IsFirstDifference (scheme_types s) (map type_tree ts) i) c.deref.ensures.value c.in-Some.ensures in
    λ low_own low. answers_say_what_instances_are c.args.bases s types (Err (stop.Form i)) c.requires.scheme low_own low first

pub returns-in-None-clause-instances : goal.returns-in-None-clause-instances
returns-in-None-clause-instances c =
    let b = c.args.bases in
    let s = scheme_tree c.args.scheme.now in
    let types = type_trees c.args.signature.now.types in
    let r = c.match_types.result in
    let alike = subst (λ ts. AreAlike (scheme_types s) (map type_tree ts)) c.deref.ensures.value c.in-None.ensures in
    let matching = subst (λ ts. IsMatching (match_types b s.vars (scheme_types s) (map type_tree ts)) r) c.deref-in-None.ensures.value c.match_types.ensures in
    λ low_own low. answers_say_what_instances_are b s types r c.requires.scheme low_own low (conformed_from_matching b s types r alike matching)
