use Rattle.std.proofs.Common.{[], map}
use Rattle.um_tree.specs.TypeTree.{type_tree}
use Rattle.um_unit_reasons.proofs.TellingSteps.{other_small}
use Rattle.um_unit_reasons.proofs.telling.other_numbered.Goals as goal

pub numbered-requires : goal.numbered-requires
numbered-requires c = other_small c.args.x.now c.requires.low [] c.in_ok-named.named.items c.in_ok-named.ensures (map type_tree c.args.types.now) c.requires.types
