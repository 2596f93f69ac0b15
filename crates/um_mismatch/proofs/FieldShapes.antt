-- The shapes of declared fields are those of the record's tree.
use Rattle.std.proofs.Common.{◌≡◌, refl, ap, List, [], ◌∷◌, map}
use Rattle.um_tree.specs.TypeTree.{type_tree}
use Rattle.um_tree.specs.ProgramTree.{field_tree}
use Rattle.um_tree.specs.declared.program.FieldDecl.{FieldDecl}
use Rattle.um_tree.specs.Shapes.{type_shape}

pub shapes_of_trees : (fields : List FieldDecl) → map (λ f. type_shape (type_tree f.ty)) fields ≡ map type_shape (map (λ f. f.type) (map field_tree fields))
shapes_of_trees [] = refl
shapes_of_trees (f ∷ fs) = ap (λ ss. type_shape (type_tree f.ty) ∷ ss) (shapes_of_trees fs)
