use Rattle.std.proofs.Common.{◌≡◌, ◌++◌, take, codes}
use Rattle.std.specs.List.{flat_map}
use Rattle.um_tree.specs.RawTree.{field_decl_syntax}
use Rattle.um_show.specs.Pieces.{text_of}
use Rattle.um_show.specs.Layout.{field_decl_pieces}
use Rattle.um_show.proofs.decl.push_field_decls.Given as goal

abbrev pub invariant-loop-field : goal.invariant-loop-field
invariant-loop-field l = l.text.items ≡ l.initial.text.items ++ flat_map (λ f. codes "; " ++ text_of (field_decl_pieces (field_decl_syntax f))) (take l.field-index l.rest)
