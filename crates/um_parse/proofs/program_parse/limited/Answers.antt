use Rattle.std.proofs.Common.{List, map, refl, sym, ap, subst, arith}
use Rattle.um_tree.specs.declared.raw.RawDecl.{RawDecl}
use Rattle.um_tree.specs.RawTree.{decl_syntax}
use Rattle.um_parse.specs.ProgramNodes.{program_nodes}
use Rattle.um_parse.specs.ProgramLimits.{WithinLimits, PassesAt}
use Rattle.um_parse.specs.Spaced.{Spaced}
use Rattle.um_parse.proofs.program_parse.limited.Goals as goal

pub first_passed-requires : goal.first_passed-requires
first_passed-requires c = record {
  few = omega (arith, c.requires.few, ap (λ (w : List RawDecl). program_nodes (map decl_syntax w)) c.deref.ensures.value);
  spaced = λ s. subst (λ (w : List RawDecl). Spaced (map decl_syntax w) c.args.end) (sym c.deref.ensures.value) (c.requires.spaced s);
}

pub returns-in-Some : goal.returns-in-Some
returns-in-Some c =
    let p = c.in-Some.passed in
    subst (λ (w : List RawDecl). PassesAt 0 (map decl_syntax w) p.kind p.at) c.deref.ensures.value c.in-Some.ensures

pub returns-in-None : goal.returns-in-None
returns-in-None c = (refl, subst (λ (w : List RawDecl). WithinLimits 0 (map decl_syntax w)) c.deref.ensures.value c.in-None.ensures)
