-- The call that is asked for, as the code reads it.
use Rattle.std.proofs.Common.{◌≡◌, ℕ, List, length, Result, Err, subst}
use Rattle.std.proofs.lemmas.Option.{slice_get_within}
use Rattle.um_tree.specs.declared.program.Program.{Program}
use Rattle.um_tree.specs.declared.program.Schemes.{Schemes}
use Rattle.um_tree.specs.ProgramTree.{ProgramTree, SchemeTree, program_tree}
use Rattle.um_measures.specs.declared.abbreviation.Abbreviation.{Abbreviation}
use Rattle.um_infer.specs.Answers.{scheme_trees}
use Rattle.um_run.specs.declared.call.CallRefusal.{CallRefusal}
use Rattle.um_run.specs.declared.call.CallRefusal.TheVariants as refusal
use Rattle.um_run.specs.Calls.{CallTree, IsCallOf}
use Rattle.um_reports.specs.Calling.{NamesText}

-- in the same program with the same abbreviations and schemes
pub read_as_asked : (p q : Program) (shorts given : List Abbreviation) (schemes others : Schemes) (name : List ℕ) (texts : List (List ℕ)) (r : Result CallTree CallRefusal) → q ≡ p → given ≡ shorts → others ≡ schemes
    → IsCallOf (program_tree q) given (scheme_trees others) name texts r → IsCallOf (program_tree p) shorts (scheme_trees schemes) name texts r
read_as_asked p q shorts given schemes others name texts r program abbreviations same is =
    subst (λ (x : Program). IsCallOf (program_tree x) shorts (scheme_trees schemes) name texts r) program
    (subst (λ (x : List Abbreviation). IsCallOf (program_tree q) x (scheme_trees schemes) name texts r) abbreviations
    (subst (λ (x : Schemes). IsCallOf (program_tree q) given (scheme_trees x) name texts r) same is))

-- of the texts, the one that a refusal names is there
pub text_named : (p : ProgramTree) (shorts : List Abbreviation) (schemes : List SchemeTree) (name : List ℕ) (texts : List (List ℕ)) (refused : CallRefusal) → IsCallOf p shorts schemes name texts (Err refused) → NamesText (length texts) refused
text_named p shorts schemes name texts refusal.NoFunction is = tt
text_named p shorts schemes name texts refusal.WrongCount is = tt
text_named p shorts schemes name texts (refusal.Argument index stop) (k, f, named, (same, first)) = slice_get_within texts index first.text first.has_text
text_named p shorts schemes name texts refusal.Units is = tt
text_named p shorts schemes name texts refusal.PowerRange is = tt
text_named p shorts schemes name texts refusal.Slots is = tt
text_named p shorts schemes name texts refusal.NoMemory is = tt
