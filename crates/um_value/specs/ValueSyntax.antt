-- Value texts as pure trees: what the grammar reads, before names are looked up.
-- Source: this project's own.
use Rattle.std.specs.Prelude.{ℕ, Bool, List, [], ◌∷◌, Option}
use Rattle.um_frac.specs.declared.number.Frac.{Frac}
use Rattle.um_tree.specs.RawTree.{NoteSyntax, written_note}
use Rattle.um_value.specs.declared.raw.RawValue.{RawValue}
use Rattle.um_value.specs.declared.raw.RawValue.TheOpen.{RawValue-F, RawValues-F}
use Rattle.um_value.specs.declared.raw.RawValue.TheFolds.{fold-RawValue, fold-RawValues}
use Rattle.um_value.specs.declared.raw.RawValues.{RawValues}

mutual
  pub data ValueSyntax : Type 0 where
    raw_truth : Bool → ValueSyntax
    -- a number at its place, whether `-` stands before it, its digits, and what stands between `<` and `>`, if anything
    raw_number : ℕ → Bool → Frac → Option NoteSyntax → ValueSyntax
    raw_list : ValueSyntaxes → ValueSyntax
    -- a value of the record of this number, field by field
    raw_record : ℕ → ValueSyntaxes → ValueSyntax

  pub data ValueSyntaxes : Type 0 where
    raw_none : ValueSyntaxes
    raw_more : ValueSyntax → ValueSyntaxes → ValueSyntaxes

-- these, and then the others
abbrev pub behind : List ValueSyntax → ValueSyntaxes → ValueSyntaxes
behind [] vs = vs
behind (v ∷ earlier) vs = raw_more v (behind earlier vs)

abbrev pub raws_in_order : List ValueSyntax → ValueSyntaxes
raws_in_order vs = behind vs raw_none

abbrev pub listed_raw : RawValue-F ValueSyntax ValueSyntaxes → ValueSyntax
listed_raw (RawValue-F.Bool b) = raw_truth b
listed_raw (RawValue-F.Num at negative value n) = raw_number at negative value (written_note n)
listed_raw (RawValue-F.List vs) = raw_list vs
listed_raw (RawValue-F.Rec r vs) = raw_record r vs

abbrev pub listed_raws : RawValues-F ValueSyntax ValueSyntaxes → ValueSyntaxes
listed_raws vs = raws_in_order vs.items.items

-- the tree that a value text stands for
abbrev pub value_syntax : RawValue → ValueSyntax
value_syntax = fold-RawValue ValueSyntax ValueSyntaxes listed_raw listed_raws

abbrev pub value_syntaxes : RawValues → ValueSyntaxes
value_syntaxes = fold-RawValues ValueSyntax ValueSyntaxes listed_raw listed_raws
