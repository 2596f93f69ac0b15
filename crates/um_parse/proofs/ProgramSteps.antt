-- The token that the last declaration of a program has refused, told by what the next declaration gives.
use Rattle.std.proofs.Common.{◌≡◌, ◌≤◌, List, [], ◌∷◌, ◌++◌, Option, Some, false, cond, sym, ap, subst, ◌∙◌, arith}
use Rattle.um_syntax.specs.declared.token.Token.{Token}
use Rattle.um_tree.specs.RawTree.{DeclSyntax}
use Rattle.um_reader.specs.Takes.{Gives, Takes}
use Rattle.um_reader.specs.declared.taken.Taken.{Taken}
use Rattle.um_reader.specs.declared.taken.Taken.TheVariants as taken
use Rattle.um_reader.proofs.Readers.{gives_as}
use Rattle.um_unit_texts.specs.UnitStops.{greatest_height}
use Rattle.um_decls.specs.DeclMachine.{DeclBegin, DeclState, Expects, decl_step, decl_finish, ProgramState, InProgram, NoProgram, program_goes, next_decl, program_step, at_start, program_found, program_finish}
use Rattle.um_parse.specs.ProgramHeights.{decl_height, program_height}
use Rattle.um_decls.specs.DeclLeast.{decl_least, machine_of_declarations}
use Rattle.um_parse.specs.ProgramLeast.{program_least, machine_of_programs}
use Rattle.um_decls.specs.DeclTokens.{BeginsAlike}
use Rattle.um_parse.proofs.DeclHeights.{decl_found_height}
use Rattle.um_parse.proofs.ProgramLow.{height_last}

-- the declaration before it isn't too high
pub last_low : (decls : List DeclSyntax) (old mid : DeclState) (token : Token) → program_least (InProgram decls old) ≤ greatest_height → Takes machine_of_declarations greatest_height old token taken.Stops mid
    → (d : DeclSyntax) → decl_finish mid ≡ Some d → decl_height d ≤ greatest_height
last_low decls old mid token low t d e = let same = decl_found_height old d (sym t.1 ∙ e) in omega (arith, low, same)

-- the token that it has refused, of which something is left that begins the next as the token does
pub next_gives : (decls : List DeclSyntax) (old mid : DeclState) (token left : Token) (given : Taken) (new : ProgramState) → at_start old ≡ false → Takes machine_of_declarations greatest_height old token taken.Stops mid → BeginsAlike left token
    → ((st : ProgramState) → program_finish st ≡ program_found decls (decl_finish mid) → Gives machine_of_programs greatest_height st (next_decl decls (decl_finish mid) (decl_step (Expects DeclBegin) left)) given new)
    → Takes machine_of_programs greatest_height (InProgram decls old) token given new
next_gives decls old mid token left given new begun t same gives =
    let over : ProgramState = next_decl decls (decl_finish old) (decl_step (Expects DeclBegin) token) in
    let whole : program_finish (InProgram decls old) ≡ program_found decls (decl_finish mid) =
    ap (λ b. cond b (Some decls) (program_found decls (decl_finish old))) begun ∙ ap (program_found decls) (sym t.1)
    in
    let e : next_decl decls (decl_finish mid) (decl_step (Expects DeclBegin) left) ≡ program_step (InProgram decls old) token =
    ap (λ o. next_decl decls o (decl_step (Expects DeclBegin) left)) t.1 ∙ ap (next_decl decls (decl_finish old)) same ∙ sym (ap (λ d. program_goes decls d over) t.0)
    in
    subst (λ n. Gives machine_of_programs greatest_height (InProgram decls old) n given new) e (gives (InProgram decls old) whole)

-- a declaration ends there, and stands after the others
module _ (earlier new : List DeclSyntax) (d : DeclSyntax) (s : DeclState) (pushed : new ≡ earlier ++ d ∷ []) (begun : s ≡ Expects DeclBegin) where
  pub more_low : program_height earlier ≤ greatest_height → decl_height d ≤ greatest_height → program_least (InProgram new s) ≤ greatest_height
  more_low low high =
      let last = height_last earlier d in
      let heights = ap program_height pushed in
      let least = ap decl_least begun in
      omega (arith, low, high, last, heights, least)

  pub one_ends : (found : Option DeclSyntax) (token : Token) (given : Taken) (last : ProgramState) → found ≡ Some d
      → Takes machine_of_programs greatest_height (InProgram new s) token given last → (st : ProgramState) → program_finish st ≡ program_found earlier found
      → Gives machine_of_programs greatest_height st (next_decl earlier found (decl_step (Expects DeclBegin) token)) given last
  one_ends found token given last is t st whole =
      let next : DeclState = decl_step (Expects DeclBegin) token in
      let ends : program_finish (InProgram new s) ≡ program_finish st =
      ap (λ x. program_finish (InProgram new x)) begun ∙ ap (λ ds. Some ds) pushed ∙ ap (program_found earlier) (sym is) ∙ sym whole
      in
      let e : program_step (InProgram new s) token ≡ next_decl earlier found next =
      ap (λ x. program_step (InProgram new x) token) begun ∙ ap (λ ds. program_goes ds next NoProgram) pushed ∙ ap (λ o. next_decl earlier o next) (sym is)
      in
      gives_as machine_of_programs greatest_height (InProgram new s) st (program_step (InProgram new s) token) (next_decl earlier found next) given last ends e t
