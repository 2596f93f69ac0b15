-- The texts of lists of units, expressions and fields, by the texts of their items.
use Rattle.std.proofs.Common.{◌≡◌, refl, ap, ◌∙◌, List, [], ◌∷◌, ◌++◌, map, codes}
use Rattle.std.specs.List.{flat_map, join_by}
use Rattle.um_tree.specs.RawTree.{UnitSyntax, units_in_order, ExprSyntax, exprs_in_order, FieldPart, fields_in_order}
use Rattle.um_show.specs.Pieces.{text_of}
use Rattle.um_show.specs.Layout.{unit_pieces, side_pieces, more_side_pieces, expr_pieces, argument_pieces, item_pieces, more_item_pieces, field_pieces, more_field_pieces}
use Rattle.um_show.specs.Lists.{part_pieces, part_text}
use Rattle.um_show.proofs.Joined.{text_append}

more_sides : {A : Type 0} (g : A → UnitSyntax) (xs : List A) → text_of (more_side_pieces (units_in_order (map g xs))) ≡ flat_map (λ x. codes " " ++ text_of (unit_pieces (g x))) xs
more_sides g [] = refl
more_sides g (x ∷ xs) =
    ap (λ s. codes " " ++ s) (text_append (unit_pieces (g x)) (more_side_pieces (units_in_order (map g xs))) ∙ ap (λ s. text_of (unit_pieces (g x)) ++ s) (more_sides g xs))

pub sides : {A : Type 0} (g : A → UnitSyntax) (xs : List A) → text_of (side_pieces (units_in_order (map g xs))) ≡ join_by (λ x. text_of (unit_pieces (g x))) (codes " ") xs
sides g [] = refl
sides g (x ∷ xs) = text_append (unit_pieces (g x)) (more_side_pieces (units_in_order (map g xs))) ∙ ap (λ s. text_of (unit_pieces (g x)) ++ s) (more_sides g xs)

pub arguments : {A : Type 0} (g : A → ExprSyntax) (xs : List A) → text_of (argument_pieces (exprs_in_order (map g xs))) ≡ flat_map (λ x. codes " " ++ text_of (expr_pieces (g x))) xs
arguments g [] = refl
arguments g (x ∷ xs) =
    ap (λ s. codes " " ++ s) (text_append (expr_pieces (g x)) (argument_pieces (exprs_in_order (map g xs))) ∙ ap (λ s. text_of (expr_pieces (g x)) ++ s) (arguments g xs))

more_items : {A : Type 0} (g : A → ExprSyntax) (xs : List A) → text_of (more_item_pieces (exprs_in_order (map g xs))) ≡ flat_map (λ x. codes "; " ++ text_of (expr_pieces (g x))) xs
more_items g [] = refl
more_items g (x ∷ xs) =
    ap (λ s. codes "; " ++ s) (text_append (expr_pieces (g x)) (more_item_pieces (exprs_in_order (map g xs))) ∙ ap (λ s. text_of (expr_pieces (g x)) ++ s) (more_items g xs))

pub items : {A : Type 0} (g : A → ExprSyntax) (xs : List A) → text_of (item_pieces (exprs_in_order (map g xs))) ≡ join_by (λ x. text_of (expr_pieces (g x))) (codes "; ") xs
items g [] = refl
items g (x ∷ xs) = text_append (expr_pieces (g x)) (more_item_pieces (exprs_in_order (map g xs))) ∙ ap (λ s. text_of (expr_pieces (g x)) ++ s) (more_items g xs)

more_fields_text : {A : Type 0} (g : A → FieldPart) (xs : List A) → text_of (more_field_pieces (fields_in_order (map g xs))) ≡ flat_map (λ x. codes "; " ++ part_text (g x)) xs
more_fields_text g [] = refl
more_fields_text g (x ∷ xs) =
    ap (λ s. codes "; " ++ s) (text_append (part_pieces (g x)) (more_field_pieces (fields_in_order (map g xs))) ∙ ap (λ s. part_text (g x) ++ s) (more_fields_text g xs))

pub fields : {A : Type 0} (g : A → FieldPart) (xs : List A) → text_of (field_pieces (fields_in_order (map g xs))) ≡ join_by (λ x. part_text (g x)) (codes "; ") xs
fields g [] = refl
fields g (x ∷ xs) = text_append (part_pieces (g x)) (more_field_pieces (fields_in_order (map g xs))) ∙ ap (λ s. part_text (g x) ++ s) (more_fields_text g xs)
