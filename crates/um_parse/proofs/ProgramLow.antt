-- The least height of a program that the tokens begin: it is reached, and none is lower.
use Rattle.std.proofs.Common.{◌≡◌, ◌≢◌, ℕ, ◌≤◌, max, List, [], ◌∷◌, ◌++◌, Option, Some, None, refl, sym, ap, ◌∙◌, inl, inr, arith}
use Rattle.um_syntax.specs.declared.token.Token.{Token}
use Rattle.um_tree.specs.RawTree.{DeclSyntax}
use Rattle.um_reader.specs.Machine.{reached, IsReaderOf}
use Rattle.um_reader.proofs.Readers.{none_some}
use Rattle.um_parse.specs.DeclGrammar.{IsProgram}
use Rattle.um_decls.specs.DeclMachine.{DeclBegin, DeclState, Expects, NoDecl, decl_step, decl_finish, ProgramState, InProgram, NoProgram, program_goes, next_decl, program_step, program_finish}
use Rattle.um_parse.specs.ProgramHeights.{decl_height, program_height}
use Rattle.um_decls.specs.DeclLeast.{decl_least}
use Rattle.um_parse.specs.ProgramLeast.{program_least, machine_of_programs}
use Rattle.um_parse.proofs.DeclCompletions.{decl_completed}
use Rattle.um_parse.proofs.DeclHeights.{decl_completed_height, decl_up, decl_found_height}
use Rattle.um_parse.proofs.ProgramComplete.{finds}
use Rattle.um_parse.proofs.ProgramSound.{ProgramSpellsPrefix, spells_prefix, program_ending, program_completed, can_go_on, found_is, found}

pub height_last : (decls : List DeclSyntax) (d : DeclSyntax) → program_height (decls ++ d ∷ []) ≡ max (program_height decls) (decl_height d)
height_last [] d = omega arith
height_last (c ∷ decls) d = let e = height_last decls d in omega (arith, e)

completed_height : (st : ProgramState) (tokens rest : List Token) → ProgramSpellsPrefix st tokens rest → st ≢ NoProgram → program_height (program_completed st) ≡ program_least st
completed_height (InProgram decls d) tokens rest h ok =
    let last = height_last decls (decl_completed d) in
    let same = decl_completed_height d h.0 rest h.3 h.4 in
    omega (arith, last, same)
completed_height NoProgram tokens rest h ok = absurd (ok refl)

-- ---- a token never lowers it

goes_up : (decls : List DeclSyntax) (low : ℕ) (new : DeclState) (over : ProgramState) → program_goes decls new over ≢ NoProgram → (new ≢ NoDecl → low ≤ max (program_height decls) (decl_least new))
    → (over ≢ NoProgram → low ≤ program_least over) → low ≤ program_least (program_goes decls new over)
goes_up decls low NoDecl over ok up next = next ok
goes_up decls low _ over ok up next = up (λ e. cc)

next_up : (decls : List DeclSyntax) (d : DeclState) (found : Option DeclSyntax) (begun : DeclState) → decl_finish d ≡ found → next_decl decls found begun ≢ NoProgram
    → program_least (InProgram decls d) ≤ program_least (next_decl decls found begun)
next_up decls d None begun e ok = absurd (ok refl)
next_up decls d (Some c) begun e ok =
    let last = height_last decls c in
    let same = decl_found_height d c e in
    goes_up (decls ++ c ∷ []) (program_least (InProgram decls d)) begun NoProgram ok (λ goes. omega (arith, last, same)) (λ h. absurd (h refl))

step_up : (st : ProgramState) (x : Token) → program_step st x ≢ NoProgram → program_least st ≤ program_least (program_step st x)
step_up (InProgram decls d) x ok =
    let begun : DeclState = decl_step (Expects DeclBegin) x in
    goes_up decls (program_least (InProgram decls d)) (decl_step d x) (next_decl decls (decl_finish d) begun) ok (λ goes. further goes) (λ h. next_up decls d (decl_finish d) begun refl h)
  where
    further : decl_step d x ≢ NoDecl → max (program_height decls) (decl_least d) ≤ max (program_height decls) (decl_least (decl_step d x))
    further goes = let up = decl_up d x goes in omega (arith, up)
step_up NoProgram x ok = absurd (ok refl)

-- ---- what is found has it

found_height : (st : ProgramState) (ds : List DeclSyntax) → program_finish st ≡ Some ds → program_height ds ≡ program_least st
found_height (InProgram decls d) ds e =
    elim (found_is decls d ds e) [
      | inl w ↦ let least = ap decl_least w.0 in ap program_height (sym w.1) ∙ omega (arith, least)
      | inr w ↦
          let last = height_last decls w.0 in
          let low = decl_found_height d w.0 w.1 in
          ap program_height (sym w.2) ∙ omega (arith, last, low)
    ]
found_height NoProgram ds e = absurd (none_some ds e)

-- ---- the machine reads programs

program_ends : (tokens : List Token) → reached machine_of_programs tokens ≢ NoProgram
    → (more : List Token) × (ds : List DeclSyntax) × IsProgram (tokens ++ more) ds × (program_height ds ≡ program_least (reached machine_of_programs tokens))
program_ends tokens ok =
    let st : ProgramState = reached machine_of_programs tokens in
    (program_ending st, program_completed st, can_go_on tokens ok, completed_height st (tokens ++ program_ending st) (program_ending st) (spells_prefix tokens (program_ending st)) ok)

pub programs_read : IsReaderOf machine_of_programs IsProgram program_height
programs_read = record { stays = λ token. refl; nothing = refl; finds = finds; found = found; completed = program_ends; up = step_up; same_height = found_height }
