-- A declaration that ends stands after the others, and is the one that was found.
use Rattle.std.proofs.Common.{◌≡◌, List, [], ◌∷◌, ◌++◌, map, Option, Some, None, true, refl, sym, ap, ◌∙◌}
use Rattle.std.proofs.lemmas.List.{map-append}
use Rattle.um_tree.specs.declared.raw.RawDecl.{RawDecl}
use Rattle.um_tree.specs.RawTree.{DeclSyntax, decl_syntax}
use Rattle.um_reader.proofs.Readers.{none_some, some_same}
use Rattle.um_decls.specs.DeclMachine.{program_found}
use Rattle.um_decls.specs.DeclTakes.{Ends}

-- what was found was pushed
pub ends : (old new : List RawDecl) (d : RawDecl) (found : Option DeclSyntax) → new ≡ old ++ d ∷ [] → found ≡ Some (decl_syntax d) → Ends found true old new
ends old new d found pushed is =
    ap (program_found (map decl_syntax old)) is ∙ ap (λ ds. Some ds) (sym (ap (map decl_syntax) pushed ∙ map-append decl_syntax old (d ∷ [])))

-- what was found, with the others before it
pub ended : (found : Option DeclSyntax) (old new : List RawDecl) → Ends found true old new → (d : DeclSyntax) × (found ≡ Some d) × (map decl_syntax new ≡ map decl_syntax old ++ d ∷ [])
ended None old new e = absurd (none_some (map decl_syntax new) e)
ended (Some d) old new e = (d, refl, sym (some_same (map decl_syntax old ++ d ∷ []) (map decl_syntax new) e))
