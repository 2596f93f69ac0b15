-- What is told, by computation of the definitions. Digits aren't computed here.
use Rattle.std.proofs.Common.{◌≡◌, ℕ, pos, negsuc, true, false, List, [], ◌∷◌, ◌++◌, codes, Some, None, refl}
use Rattle.std.specs.Fmt.{decimal}
use Rattle.um_units.specs.declared.Atom.TheVariants.{Base}
use Rattle.um_units.specs.PowerMap.{product}
use Rattle.um_tree.specs.ProgramTree.{ProgramTree}
use Rattle.um_agree.specs.declared.rule.Rule.TheVariants as asks
use Rattle.um_unit_reasons.specs.declared.reason.Told.{Told}
use Rattle.um_unit_reasons.specs.UnitReasons.{told_of, out_of_range}
use Rattle.um_explain_answers.specs.UnitsDetails.{reason_text}

abbrev program : ProgramTree
program = record { bases = codes "m" ∷ codes "s" ∷ []; records = []; functions = [] }

abbrev sum : ℕ → List ℕ → List ℕ → Told
sum at first second = record { rule = asks.Sum; at = at; first = first; second = second }

three_sums : reason_text (codes "x + 1\ny") program 0 (told_of (sum 6 (codes "num<m>") (codes "num<s>") ∷ sum 2 (codes "num<'a>") (codes "num<m>") ∷ [])
    (Some (product ((record { atom = Base 0; power = negsuc 0 }) ∷ (record { atom = Base 1; power = pos 1 }) ∷ []))) true)
    ≡ codes "the two sides of this sum must have the same type\n  left: num<m>\n  right: num<s>\n  factor: s/m\nsince\n  "
    ++ (decimal 1 ++ codes ":" ++ decimal 3 ++ codes " " ++ codes "the two sides of this sum must have the same type" ++ codes "\n" ++ codes "    left: num<'a>\n    right: num<m>\n" ++ [] ++ codes "and more\n")
unfolding product
three_sums = refl

-- nothing forces it to fail
alone : reason_text (codes "x") program 0 (told_of (sum 0 (codes "num<m>") (codes "num<'a m>") ∷ []) None false)
    ≡ codes "the two sides of this sum must have the same type\n  left: num<m>\n  right: num<'a m>\n"
alone = refl

past : reason_text (codes "x") program 0 out_of_range ≡ codes "the units pass the range of powers\n"
past = refl
