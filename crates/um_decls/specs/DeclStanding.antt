-- Whether a token goes on in a declaration or a program: the state after it is no refusal.
-- Source: this project's own.
use Rattle.std.specs.Prelude.{Bool, true, false}
use Rattle.um_syntax.specs.declared.token.Kind.{Kind}
use Rattle.um_syntax.specs.declared.token.Kind.TheVariants as kind
use Rattle.um_vocabulary.specs.declared.vocabulary.Symbol.TheVariants as symbol
use Rattle.um_decls.specs.DeclMachine.{DeclState, NoDecl, ProgramState, NoProgram}

abbrev pub decl_stands : DeclState → Bool
decl_stands NoDecl = false
decl_stands _ = true

abbrev pub program_stands : ProgramState → Bool
program_stands NoProgram = false
program_stands _ = true

abbrev pub is_less : Kind → Bool
is_less (kind.Sign symbol.Less) = true
is_less _ = false
