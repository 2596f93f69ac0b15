-- The value of a value text has its shape.
use Rattle.std.proofs.Common.{ℕ, List, [], ◌∷◌, map, Option, refl}
use Rattle.um_units.specs.PowerMap.{PowerMap}
use Rattle.um_syntax.specs.declared.token.Token.{Token}
use Rattle.um_tree.specs.TypeTree.{ShapeTree}
use Rattle.um_tree.specs.ValueTree.{without_units, without_units_each}
use Rattle.um_tree.specs.ProgramTree.{FieldTree, RecordTree}
use Rattle.um_tree.specs.Shapes.{type_shape}
use Rattle.um_tree.specs.InputType.{ValueHas, EachValueHas, ValuesHave}
use Rattle.um_value.specs.ValueSyntax.{ValueSyntax, ValueSyntaxes, raw_truth, raw_number, raw_list, raw_record, raw_none, raw_more}
use Rattle.um_value.specs.ValueGrammar.{Spells, ItemsSpell, MoreItemsSpell, FieldsSpell, MoreFieldsSpell}
use Rattle.um_value.specs.ValueNames.{input_of, inputs_of}

module _ (records : List RecordTree) (measures : List ℕ → Option PowerMap) where
  mutual
    pub has_shape : (v : ValueSyntax) (s : ShapeTree) (tokens rest : List Token) → Spells records v s tokens rest → ValueHas records (without_units (input_of measures v)) s
    has_shape (raw_truth b) s tokens rest h = h.0
    has_shape (raw_number at negative value n) s tokens rest h = h.0
    has_shape (raw_list vs) s tokens rest h = (h.0, items_have vs h.0 h.1 rest h.4, h.2)
    has_shape (raw_record r vs) s tokens rest h = let d : RecordTree = h.0 in (d, h.3, fields_have vs d.fields h.1 rest h.5, h.2)

    items_have : (vs : ValueSyntaxes) (t : ShapeTree) (tokens rest : List Token) → ItemsSpell records vs t tokens rest → EachValueHas records (without_units_each (inputs_of measures vs)) t
    items_have raw_none t tokens rest h = tt
    items_have (raw_more v vs) t tokens rest h = (has_shape v t tokens h.0 h.1, more_items_have vs t h.0 rest h.2)

    more_items_have : (vs : ValueSyntaxes) (t : ShapeTree) (tokens rest : List Token) → MoreItemsSpell records vs t tokens rest → EachValueHas records (without_units_each (inputs_of measures vs)) t
    more_items_have raw_none t tokens rest h = tt
    more_items_have (raw_more v vs) t tokens rest h = (has_shape v t h.0 h.1 h.3, more_items_have vs t h.1 rest h.4)

    fields_have : (vs : ValueSyntaxes) (fs : List FieldTree) (tokens rest : List Token) → FieldsSpell records vs fs tokens rest
        → ValuesHave records (without_units_each (inputs_of measures vs)) (map type_shape (map (λ (f : FieldTree). f.type) fs))
    fields_have raw_none fs tokens rest h = absurd h
    fields_have (raw_more v vs) [] tokens rest h = absurd h
    fields_have (raw_more v vs) (f ∷ fs) tokens rest h =
        (type_shape f.type, map type_shape (map (λ (g : FieldTree). g.type) fs), has_shape v (type_shape f.type) h.1.1 h.0 h.1.4, more_fields_have vs fs h.0 rest h.2, refl)

    more_fields_have : (vs : ValueSyntaxes) (fs : List FieldTree) (tokens rest : List Token) → MoreFieldsSpell records vs fs tokens rest
        → ValuesHave records (without_units_each (inputs_of measures vs)) (map type_shape (map (λ (f : FieldTree). f.type) fs))
    more_fields_have raw_none [] tokens rest h = refl
    more_fields_have raw_none (f ∷ fs) tokens rest h = absurd h
    more_fields_have (raw_more v vs) [] tokens rest h = absurd h
    more_fields_have (raw_more v vs) (f ∷ fs) tokens rest h =
        (type_shape f.type, map type_shape (map (λ (g : FieldTree). g.type) fs), has_shape v (type_shape f.type) h.3.1 h.1 h.3.4, more_fields_have vs fs h.1 rest h.4, refl)
