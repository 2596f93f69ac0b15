use Rattle.std.proofs.Common.{◌≡◌, ℕ, List, ◌++◌, ap, ◌∙◌, arith}
use Rattle.um_tree.specs.ProgramTree.{program_tree}
use Rattle.um_check.specs.declared.certificate.Yes.{Yes}
use Rattle.um_certificates.specs.CertificateText.{function_name, yes_text}
use Rattle.um_certificates.proofs.NumberedTexts.{numbered_more, numbered_all}
use Rattle.um_certificates.proofs.text.push_all.Goals as goal

pub loop-i-preserved : goal.loop-i-preserved
loop-i-preserved c =
    let p = c.args.program.now in
    let before = c.loop-i.text.items in
    let text : ℕ → Yes → List ℕ = λ i. yes_text p.bases (function_name (program_tree p) i) in
    let kept : c.loop-i.bases ≡ p.bases = c.loop-i.invariant.0 in (
      c.in_ok-bases-2.ensures.names ∙ kept,
      numbered_more text c.args.yes.now c.loop-i.i c.index-yes-i.result c.args.text.now.items before c.push_yes.new.text.items c.loop-i-test.true c.loop-i.invariant.1
          (c.in_ok-bases-2.ensures.text ∙ ap (λ bs. before ++ yes_text bs c.function_name.result.now c.index-yes-i.result) kept
          ∙ ap (λ n. before ++ yes_text p.bases n c.index-yes-i.result) c.function_name.ensures ∙ ap (λ y. before ++ text c.loop-i.i y) c.index-yes-i.is),
    )

pub returns : goal.returns
returns c =
    let p = c.args.program.now in
    let past = c.loop-i-test.false in
    numbered_all (λ i. yes_text p.bases (function_name (program_tree p) i)) c.args.yes.now c.loop-i.i c.args.text.now.items c.loop-i.text.items (omega (arith, past)) c.loop-i.invariant.1
