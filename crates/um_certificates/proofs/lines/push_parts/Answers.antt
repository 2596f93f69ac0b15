use Rattle.std.proofs.Common.{codes}
use Rattle.um_certificates.specs.CertificateText.{part_text}
use Rattle.um_certificates.proofs.NumberedTexts.{joined}
use Rattle.um_certificates.proofs.lines.push_parts.Goals as goal

pub returns : goal.returns
returns c =
    joined part_text (codes " ") c.in-Some.first.now c.in-Some.rest.now c.args.parts.now c.loop-part.part-index c.args.text.now.items
    c.push_part.new.text.items c.loop-part.text.items c.in-Some.ensures.cases.0 c.loop-part-test.false c.in_ok-push_part.ensures c.loop-part.invariant
