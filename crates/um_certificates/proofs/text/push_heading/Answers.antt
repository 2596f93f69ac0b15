use Rattle.std.proofs.Common.{◌++◌, ap, ◌∙◌, w64}
use Rattle.std.specs.Fmt.{signed_decimal}
use Rattle.std.proofs.lemmas.Int.{to_z-of_z}
use Rattle.um_certificates.proofs.NumberedTexts.{more_added}
use Rattle.um_certificates.proofs.text.push_heading.Goals as goal

pub returns : goal.returns
returns c =
    more_added _ _ _ _ _
    (more_added _ _ _ _ _
    (more_added _ _ _ _ _
    (more_added _ _ _ _ _
    (more_added _ _ _ _ _ c.in_ok-extend_from_slice.ensures.items c.in_ok-extend_from_slice-2.ensures.items)
    c.in_ok-push_number.ensures) c.in_ok-push.ensures.items)
    (c.in_ok-push_integer.ensures ∙ ap (λ z. c.push.new.self.items ++ signed_decimal z) (to_z-of_z w64 c.args.k c.ranges.k)))
    c.in_ok-push-2.ensures.items
