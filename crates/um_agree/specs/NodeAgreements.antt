-- The agreements that the typing rule of each node asks for, from the types of its parts.
-- Source: Kennedy (1996); F# specification, Units Of Measure. They are the equations of `Rules` in um_rows, with who
-- asks for them.
use Rattle.std.specs.Prelude.{ℕ, suc, List, [], ◌∷◌, map, Option, Some, None}
use Rattle.um_units.specs.PowerMap.{PowerMap}
use Rattle.um_tree.specs.declared.expression.Arith.{Arith}
use Rattle.um_tree.specs.declared.expression.Arith.TheVariants.{Add, Sub, Mul, Div}
use Rattle.um_tree.specs.TypeTree.{TypeTree, list_type}
use Rattle.um_tree.specs.ProgramTree.{RecordTree, Signature}
use Rattle.um_tree.specs.Typing.{put, unit_at, field_types}
use Rattle.um_agree.specs.declared.rule.Rule.{Rule}
use Rattle.um_agree.specs.declared.rule.Rule.TheVariants as asks
use Rattle.um_agree.specs.Agreements.{Agreement}

abbrev pub agree : Rule → ℕ → TypeTree → TypeTree → Agreement
agree rule at s t = record { rule = rule; at = at; first = s; second = t }

-- type by type, numbered from k on
abbrev pub agree_each : (ℕ → Rule) → ℕ → ℕ → List TypeTree → List TypeTree → List Agreement
agree_each rule k at (s ∷ ss) (t ∷ ts) = agree (rule k) at s t ∷ agree_each rule (suc k) at ss ts
agree_each rule k at ss ts = []

-- one type with each of the others, numbered from k on
abbrev pub agree_with : (ℕ → Rule) → ℕ → ℕ → TypeTree → List TypeTree → List Agreement
agree_with rule k at s [] = []
agree_with rule k at s (t ∷ ts) = agree (rule k) at s t ∷ agree_with rule (suc k) at s ts

-- ---- the nodes that ask for some

abbrev pub arith_agreements : ℕ → Arith → TypeTree → TypeTree → List Agreement
arith_agreements at Add s t = agree asks.Sum at s t ∷ []
arith_agreements at Sub s t = agree asks.Difference at s t ∷ []
arith_agreements at Mul s t = []
arith_agreements at Div s t = []

-- parameter and argument, argument by argument
abbrev pub call_agreements : ℕ → ℕ → Option Signature → List TypeTree → List Agreement
call_agreements at j (Some g) ts = agree_each (asks.Argument j) 1 at g.params ts
call_agreements at j None ts = []

-- the first item with each other
abbrev pub list_agreements : ℕ → List TypeTree → List Agreement
list_agreements at [] = []
list_agreements at (t ∷ ts) = agree_with asks.Item 2 at t ts

abbrev pub cons_agreements : ℕ → TypeTree → TypeTree → List Agreement
cons_agreements at s (list_type t) = agree asks.Head at s t ∷ []
cons_agreements at s t = []

-- declared type and part, field by field, of a value of record r at these units
abbrev pub record_agreements : ℕ → ℕ → List PowerMap → Option RecordTree → List TypeTree → List Agreement
record_agreements at r us (Some d) ts = agree_each (asks.Part r) 0 at (map (put (unit_at us)) (field_types d)) ts
record_agreements at r us None ts = []
