-- Declarations, one after another.
use Rattle.std.proofs.Common.{◌≡◌, List, ◌∷◌, ap, ◌∙◌, Ok}
use Rattle.um_tree.specs.RawTree.{DeclSyntax}
use Rattle.um_measures.specs.declared.stop.NameStop.{NameStop}
use Rattle.um_measures.specs.Faults.{Found, and_then}
use Rattle.um_measures.specs.Stops.{IsFirst}
use Rattle.um_measures.specs.Known.{Known}
use Rattle.um_names.specs.Resolution.{resolved_decl, resolved_decls}
use Rattle.um_measures.proofs.Firsts.{first_from}

pub decl_next : (whole : Found Known) (known after : Known) (d : DeclSyntax) (rest ds : List DeclSyntax) → whole ≡ resolved_decls known rest → rest ≡ d ∷ ds → resolved_decl known d ≡ Ok after → whole ≡ resolved_decls after ds
decl_next whole known after d rest ds h e r = h ∙ ap (resolved_decls known) e ∙ ap (λ q. and_then q (λ k. resolved_decls k ds)) r

pub decl_stops : (whole : Found Known) (known : Known) (d : DeclSyntax) (rest ds : List DeclSyntax) (stop : NameStop) → whole ≡ resolved_decls known rest → rest ≡ d ∷ ds → IsFirst (resolved_decl known d) stop → IsFirst whole stop
decl_stops whole known d rest ds stop h e = first_from (resolved_decl known d) whole (λ f r. h ∙ ap (resolved_decls known) e ∙ ap (λ q. and_then q (λ k. resolved_decls k ds)) r) stop
