use Rattle.std.proofs.Common.{rules, ◌≡◌, ◌∙◌, ap, take}
use Rattle.std.proofs.lemmas.List.{take-take}
use Rattle.um_inline.proofs.short.ShortBytes.from_front.Goals as goal

pub returns : goal.returns
returns c =
    let bytes = c.args.slice.now in
    let is : c.copy_from_slice.new.self ≡ take 16 bytes = search rules in
    ap (take c.args.len) is ∙ take-take c.args.len 16 bytes c.requires.short
