use Rattle.um_verifier.proofs.NameTests.{no_text, text_test}
use Rattle.um_verifier.proofs.names.is_name.Goals as goal

pub returns-in-Ok : goal.returns-in-Ok
returns-in-Ok c = text_test c.args.bytes.now c.in-Ok.text.now c.in-Ok.ensures.cases.0 c.in-Ok.ensures.cases.1 c.is_name_text.result c.is_name_text.ensures

pub returns-in-Err : goal.returns-in-Err
returns-in-Err c = no_text c.args.bytes.now c.in-Err.ensures.cases.0
