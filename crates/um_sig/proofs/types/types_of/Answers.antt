use Rattle.std.proofs.Common.{◌≡◌, List, map, ap, ◌∙◌, subst, Ok}
use Rattle.std.specs.Prelude.{IfOk, IfErr}
use Rattle.um_tree.specs.declared.raw.RawType.{RawType}
use Rattle.um_tree.specs.ProgramTree.{program_tree}
use Rattle.um_tree.specs.RawTree.{type_syntax, type_syntaxes}
use Rattle.um_tree.specs.TypeTree.{type_trees}
use Rattle.um_measures.specs.ClosedUnits.{given}
use Rattle.um_measures.specs.Faults.{Found}
use Rattle.um_measures.specs.Known.{Known}
use Rattle.um_sig.specs.SignatureNames.{SignatureTypes, resolved_signature}
use Rattle.um_measures.specs.Stops.{IsFirst}
use Rattle.um_names.specs.Tables.{known_of}
use Rattle.um_sig.proofs.SignatureHeads.{signature_alike}
use Rattle.um_sig.proofs.NeverTwice.{no_twice, signature_is_never_twice}
use Rattle.um_sig.proofs.types.types_of.Goals as goal

pub returns-clause-exact : goal.returns-clause-exact
returns-clause-exact c =
    let p = program_tree c.args.program.now in
    let ss = c.args.abbreviations.now in
    let ts = type_syntaxes c.args.raw.now in
    let t = known_of c.in_ok-tables.tables in
    let whole : resolved_signature t (map type_syntax c.deref.result.now) ≡ resolved_signature (given p ss) ts =
    ap (λ (rs : List RawType). resolved_signature t (map type_syntax rs)) c.deref.ensures.value ∙ ap (λ (k : Known). resolved_signature k ts) c.in_ok-tables.ensures.known ∙ signature_alike p ss ts in
    subst (λ (r : Found SignatureTypes). IfOk c.signature-found.result (λ found. r ≡ Ok (record { types = type_trees found.0; vars = found.1 }))) whole c.signature-found.ensures.exact

pub returns-clause-faults : goal.returns-clause-faults
returns-clause-faults c =
    let p = program_tree c.args.program.now in
    let ss = c.args.abbreviations.now in
    let ts = type_syntaxes c.args.raw.now in
    let t = known_of c.in_ok-tables.tables in
    let whole : resolved_signature t (map type_syntax c.deref.result.now) ≡ resolved_signature (given p ss) ts =
    ap (λ (rs : List RawType). resolved_signature t (map type_syntax rs)) c.deref.ensures.value ∙ ap (λ (k : Known). resolved_signature k ts) c.in_ok-tables.ensures.known ∙ signature_alike p ss ts in
    subst (λ (r : Found SignatureTypes). IfErr c.signature-found.result (IsFirst r)) whole c.signature-found.ensures.faults

pub returns-clause-never_twice : goal.returns-clause-never_twice
returns-clause-never_twice c =
    let t = known_of c.in_ok-tables.tables in
    let ts = map type_syntax c.deref.result.now in
    no_twice (resolved_signature t ts) c.signature-found.result (signature_is_never_twice t ts) c.signature-found.ensures.faults
