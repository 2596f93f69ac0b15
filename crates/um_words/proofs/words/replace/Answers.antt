use Rattle.std.proofs.Common.{◌∙◌, ap, take, add-one}
use Rattle.std.specs.Prelude.{slice_set}
use Rattle.um_words.proofs.Settled.{set_top}
use Rattle.um_words.proofs.words.replace.Goals as goal

pub returns : goal.returns
returns c =
    ap (λ ws. slice_set ws c.args.at c.args.word) (c.truncate.ensures.items ∙ ap (λ n. take n c.args.words.now.items) (add-one c.args.at))
    ∙ set_top c.args.at c.args.word c.args.words.now.items c.requires
