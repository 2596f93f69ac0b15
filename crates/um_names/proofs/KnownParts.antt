-- The program and the abbreviations of what is known behind all declarations.
use Rattle.std.proofs.Common.{◌≡◌, List, Ok, sym, ap, ◌∙◌}
use Rattle.um_tree.specs.declared.program.Program.{Program}
use Rattle.um_tree.specs.ProgramTree.{ProgramTree, program_tree}
use Rattle.um_tree.specs.RawTree.{DeclSyntax}
use Rattle.um_tree.specs.Formed.{IsFormed}
use Rattle.um_measures.specs.declared.abbreviation.Abbreviation.{Abbreviation}
use Rattle.um_measures.specs.Faults.{Found, and_then}
use Rattle.um_measures.specs.Known.{Known}
use Rattle.um_names.specs.Readable.{IsReadable}
use Rattle.um_names.specs.Resolution.{resolution, resolved_program, resolved_abbreviations}
use Rattle.um_names.proofs.FormedPrograms.{resolution_formed}

module _ (ds : List DeclSyntax) (known : Known) where
  pub program_found : (p : Program) → resolution ds ≡ Ok known → program_tree p ≡ known.program → resolved_program ds ≡ Ok (program_tree p)
  program_found p whole same = ap (λ (r : Found Known). and_then r (λ k. Ok k.program)) whole ∙ ap (λ (q : ProgramTree). Ok q) (sym same)

  pub program_formed : (p : Program) → resolution ds ≡ Ok known → program_tree p ≡ known.program → IsReadable ds → IsFormed (program_tree p)
  program_formed p whole same readable = resolution_formed ds (program_tree p) readable (program_found p whole same)

  pub abbreviations_found : (shorts : List Abbreviation) → resolution ds ≡ Ok known → shorts ≡ known.shorts → resolved_abbreviations ds ≡ Ok shorts
  abbreviations_found shorts whole same = ap (λ (r : Found Known). and_then r (λ k. Ok k.shorts)) whole ∙ ap (λ (l : List Abbreviation). Ok l) (sym same)
