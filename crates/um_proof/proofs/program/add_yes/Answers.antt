use Rattle.std.proofs.Common.{◌≡◌, ◌+◌, ◌∙◌, inl, inr, [], ◌∷◌, ◌++◌, List, Some, length, slice_get, sym, ap, subst, arith}
use Rattle.std.proofs.lemmas.List.{length_push}
use Rattle.um_tree.specs.ProgramTree.{FunctionTree, ProgramTree, SchemeTree, program_tree}
use Rattle.um_infer.specs.Answers.{scheme_trees}
use Rattle.um_infer.proofs.SchemeLists.{item_or_last}
use Rattle.um_check.specs.declared.certificate.Yes.{Yes}
use Rattle.um_proof.specs.Proving.{IsYesOf}
use Rattle.um_check.specs.Tidy.{IsTidyYes}
use Rattle.um_proof.specs.ProgramSteps.{AreYesOf, AreTidyYes, CarriesInSome}
use Rattle.um_proof.proofs.FunctionAnswers.{function_stops}
use Rattle.um_proof.proofs.program.add_yes.Goals as goal

-- one more
yes_more : (p : ProgramTree) (schemes : List SchemeTree) (list : List Yes) (c : Yes) → AreYesOf p schemes list →
    ((f : FunctionTree) (s : SchemeTree) → slice_get p.functions (length list) ≡ Some f → slice_get schemes (length list) ≡ Some s → IsYesOf p schemes (length list) f s c) → AreYesOf p schemes (list ++ c ∷ [])
yes_more p schemes list c valid last = λ i f s d g h at. elim (item_or_last list c i d at) [
  | inl there ↦ valid i f s d g h there
  | inr w ↦
      let q : i ≡ length list = w.0 in
      subst (λ (y : Yes). IsYesOf p schemes i f s y) w.1 (subst (λ n. IsYesOf p schemes n f s c) (sym q) (last f s (ap (slice_get p.functions) (sym q) ∙ g) (ap (slice_get schemes) (sym q) ∙ h)))
]

tidy_more : (p : ProgramTree) (list : List Yes) (c : Yes) → AreTidyYes p list → ((f : FunctionTree) → slice_get p.functions (length list) ≡ Some f → IsTidyYes (length p.bases) f.units c) → AreTidyYes p (list ++ c ∷ [])
tidy_more p list c tidy last = λ i f d g at. elim (item_or_last list c i d at) [
  | inl there ↦ tidy i f d g there
  | inr w ↦ let q : i ≡ length list = w.0 in subst (λ (y : Yes). IsTidyYes (length p.bases) f.units y) w.1 (last f (ap (slice_get p.functions) (sym q) ∙ g))
]

no_yes : (p : ProgramTree) (schemes : List SchemeTree) → AreYesOf p schemes []
no_yes p schemes = λ i f s c e g at. absurd (cc at)

pub loop-i-init : goal.loop-i-init
loop-i-init c =
    let p = program_tree c.args.shaped.now in
    let schemes = scheme_trees c.args.schemes.now in
    record { count = ap length c.requires.empty; valid = subst (AreYesOf p schemes) (sym c.requires.empty) (no_yes p schemes); tidy = subst (AreTidyYes p) (sym c.requires.empty) (λ i f c e at. absurd (cc at)) }

pub yes_of-requires-clause-inside : goal.yes_of-requires-clause-inside
yes_of-requires-clause-inside c = let l = c.loop-i-test.true in let n = c.requires.count in omega (arith, l, n)

pub returns-in-Err-clause-range : goal.returns-in-Err-clause-range
returns-in-Err-clause-range c =
    subst (CarriesInSome (program_tree c.args.shaped.now)) (sym c.of_function.ensures) (function_stops (program_tree c.args.shaped.now) c.loop-i.i c.in-Err.stop c.in-Err.ensures.range)

pub loop-i-preserved : goal.loop-i-preserved
loop-i-preserved c =
    let p = program_tree c.args.shaped.now in
    let schemes = scheme_trees c.args.schemes.now in
    let list = c.loop-i.items.items in
    let n : length list ≡ c.loop-i.i = c.loop-i.invariant.count in
    record {
      count = ap length c.in_ok-push-in-Ok.ensures.items ∙ length_push list c.in-Ok.yes ∙ ap (λ k. k + 1) n;
      valid = subst (AreYesOf p schemes) (sym c.in_ok-push-in-Ok.ensures.items) (yes_more p schemes list c.in-Ok.yes c.loop-i.invariant.valid
          (λ f s e g. subst (λ k. IsYesOf p schemes k f s c.in-Ok.yes) (sym n) (c.in-Ok.ensures.valid f s (ap (slice_get p.functions) (sym n) ∙ e) (ap (slice_get schemes) (sym n) ∙ g))));
      tidy = subst (AreTidyYes p) (sym c.in_ok-push-in-Ok.ensures.items) (tidy_more p list c.in-Ok.yes c.loop-i.invariant.tidy (λ f e. c.in-Ok.ensures.tidy f (ap (slice_get p.functions) (sym n) ∙ e)));
    }

pub returns-clause-count : goal.returns-clause-count
returns-clause-count c =
    let end : c.loop-i.i ≡ c.args.count = omega (arith, c.loop-i-test.false, c.loop-i.auto.i-end) in
    c.loop-i.invariant.count ∙ end ∙ sym c.requires.count
