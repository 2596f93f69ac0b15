use Rattle.std.proofs.Common.{map, drop, length, ◌-◌, string_bytes, sym, ap, ◌∙◌, arith}
use Rattle.std.proofs.lemmas.List.{take_all, length-drop, drop-map}
use Rattle.um_orders.proofs.words.Words.after.Goals as goal

pub returns : goal.returns
returns c =
    let xs = c.deref.result.now in let k = c.args.k in
    ap (map string_bytes) (take_all (length xs - k) (drop k xs) (omega (arith, length-drop k xs)))
    ∙ sym (drop-map string_bytes k xs)
    ∙ ap (drop k) (ap (map string_bytes) c.deref.ensures.value ∙ c.self.view_is)
