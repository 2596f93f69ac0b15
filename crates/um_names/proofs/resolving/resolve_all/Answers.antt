use Rattle.std.proofs.Common.{◌≡◌, List, map, subst, Ok}
use Rattle.um_tree.specs.declared.raw.RawDecl.{RawDecl}
use Rattle.um_tree.specs.RawTree.{decl_syntax}
use Rattle.um_names.specs.Resolution.{resolution}
use Rattle.um_names.specs.Tables.{known_of}
use Rattle.um_names.proofs.KnownParts.{program_found, abbreviations_found, program_formed}
use Rattle.um_names.proofs.resolving.resolve_all.Goals as goal

pub returns-clause-exact : goal.returns-clause-exact
returns-clause-exact c =
    let known = known_of c.in_ok-tables.tables in
    let whole = subst (λ (raw : List RawDecl). resolution (map decl_syntax raw) ≡ Ok known) c.deref.ensures.value c.in_ok-tables.ensures.exact in
    program_found (map decl_syntax c.args.raw.now.items.items) known c.known_parts.result.program whole c.known_parts.ensures.program

pub returns-clause-formed : goal.returns-clause-formed
returns-clause-formed c =
    let known = known_of c.in_ok-tables.tables in
    let whole = subst (λ (raw : List RawDecl). resolution (map decl_syntax raw) ≡ Ok known) c.deref.ensures.value c.in_ok-tables.ensures.exact in
    program_formed (map decl_syntax c.args.raw.now.items.items) known c.known_parts.result.program whole c.known_parts.ensures.program

pub returns-clause-abbreviated : goal.returns-clause-abbreviated
returns-clause-abbreviated c =
    let known = known_of c.in_ok-tables.tables in
    let whole = subst (λ (raw : List RawDecl). resolution (map decl_syntax raw) ≡ Ok known) c.deref.ensures.value c.in_ok-tables.ensures.exact in
    abbreviations_found (map decl_syntax c.args.raw.now.items.items) known c.known_parts.result.abbreviations whole c.known_parts.ensures.abbreviations
