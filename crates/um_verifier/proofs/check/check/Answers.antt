use Rattle.um_verify.specs.ImageTree.{image_tree}
use Rattle.um_verifier.proofs.FunctionHeads.{all_heads}
use Rattle.um_verifier.proofs.ReadyImages.{ready, code_holds, code_fails}
use Rattle.um_verifier.proofs.check.check.Goals as goal

pub verify_code-requires : goal.verify_code-requires
verify_code-requires c = record { ready = ready (image_tree c.args.image.now) c.in_ok-known.known c.in_ok-known.ensures c.requires.form }

pub returns-in-None-clause-verified : goal.returns-in-None-clause-verified
returns-in-None-clause-verified c =
    let image = image_tree c.args.image.now in
    let known = c.in_ok-known.known in
    record {
      form = c.requires.form;
      heads = all_heads image known c.in_ok-known.ensures;
      code = code_holds image known c.in_ok-known.ensures c.in_ok-verify_code.field-0 c.in-None.is c.in_ok-verify_code.ensures;
    }

pub returns-clause-refused : goal.returns-clause-refused
returns-clause-refused c =
    let image = image_tree c.args.image.now in
    let known = c.in_ok-known.known in
    (all_heads image known c.in_ok-known.ensures, code_fails image known c.in_ok-known.ensures c.in_ok-verify_code.field-0 c.in-Some.at c.in-Some.is c.in_ok-verify_code.ensures)
