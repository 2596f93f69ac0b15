use Rattle.std.proofs.Common.{◌++◌, ap, ◌∙◌}
use Rattle.um_certificates.specs.CertificateText.{rigid_text}
use Rattle.um_certificates.proofs.NumberedTexts.{more_added}
use Rattle.um_certificates.proofs.text.push_yes.Goals as goal

pub returns-clause-text : goal.returns-clause-text
returns-clause-text c =
    more_added _ _ _ _ _ c.in_ok-push_open.ensures
    (c.in_ok-push_rigid.ensures.text ∙ ap (λ us. c.push_open.new.text.items ++ rigid_text c.args.bases us) c.as_slice.ensures.items)
