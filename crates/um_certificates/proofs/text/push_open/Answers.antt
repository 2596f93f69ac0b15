use Rattle.std.proofs.Common.{◌++◌, codes, ap, ◌∙◌, w64, rules}
use Rattle.std.proofs.lemmas.Int.{to_z-of_z}
use Rattle.um_certificates.specs.CertificateText.{heading, numbered, rows_line, unit_line}
use Rattle.um_certificates.proofs.NumberedTexts.{more_added}
use Rattle.um_certificates.proofs.text.push_open.Goals as goal

pub returns : goal.returns
returns c =
    let bases = c.args.bases.now in
    let cert = c.args.cert.now in
    more_added _ _ _ _ _
    (more_added _ _ _ _ _
    (more_added _ _ _ _ _
    (c.in_ok-push_heading.ensures ∙ ap (λ z. c.args.text.now.items ++ heading c.args.name.now (codes " yes ") cert.vars z) (to_z-of_z w64 cert.divisor (search rules)))
    (c.in_ok-push_units.ensures ∙ ap (λ us. c.push_heading.new.text.items ++ numbered (unit_line (codes "  slot ") bases) 0 us) c.as_slice.ensures.items))
    (c.in_ok-push_units-2.ensures ∙ ap (λ us. c.push_units.new.text.items ++ numbered (unit_line (codes "  back ") bases) 0 us) c.as_slice-2.ensures.items))
    (c.in_ok-push_rows.ensures ∙ ap (λ ps. c.push_units-2.new.text.items ++ numbered rows_line 0 ps) c.as_slice-3.ensures.items)
