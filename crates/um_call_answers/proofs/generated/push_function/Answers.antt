use Rattle.std.proofs.Common.{◌++◌, codes}
use Rattle.std.specs.Fmt.{decimal}
use Rattle.um_call_answers.specs.BigText.{body_text}
use Rattle.um_call_answers.proofs.AddedTexts.{more_added}
use Rattle.um_call_answers.proofs.generated.push_function.Goals as goal

pub returns : goal.returns
returns c =
    let before = c.args.text.now.items in let k = c.args.k in
    let one = codes "let g" in let two = one ++ decimal k in let three = two ++ codes " (x: num<_>) (y: num<_>) = " in let four = three ++ body_text k in
    let number = more_added before one (decimal k) c.extend_from_slice.new.self.items c.push_number.new.text.items c.in_ok-extend_from_slice.ensures.items c.in_ok-push_number.ensures in
    let parameters = more_added before two (codes " (x: num<_>) (y: num<_>) = ") c.push_number.new.text.items c.extend_from_slice-2.new.self.items number c.in_ok-extend_from_slice-2.ensures.items in
    let body = more_added before three (body_text k) c.extend_from_slice-2.new.self.items c.push_body.new.text.items parameters c.in_ok-push_body.ensures in
    more_added before four (codes "\n") c.push_body.new.text.items c.push.new.self.items body c.in_ok-push.ensures.items
