use Rattle.std.proofs.Common.{◌+◌, map, drop, refl, ap, ◌∙◌}
use Rattle.std.proofs.lemmas.Result.{err_from_is_err_and}
use Rattle.um_tree.specs.RawTree.{decl_syntax}
use Rattle.um_names.specs.Tables.{known_of}
use Rattle.um_names.specs.Resolution.{resolved_decls}
use Rattle.um_measures.proofs.Stages.{map_from_more, map_from-end}
use Rattle.um_names.proofs.DeclLoops.{decl_next, decl_stops}
use Rattle.um_names.proofs.resolving.declare_all.Goals as goal

pub loop-decl-init : goal.loop-decl-init
loop-decl-init c = record { are = c.requires; done = refl }

pub loop-decl-preserved : goal.loop-decl-preserved
loop-decl-preserved c =
    let ds = c.args.raw.now in
    let i = c.loop-decl.decl-index in
    let x = c.decl-item.result in
    record {
      are = c.in_ok-declare.ensures.tables;
      done = decl_next (resolved_decls (known_of c.args.tables.now) (map decl_syntax ds)) (known_of c.loop-decl.tables) (known_of c.declare.new.tables) (decl_syntax x) (map decl_syntax (drop i ds)) (map decl_syntax (drop (i + 1) ds))
          c.loop-decl.invariant.done (map_from_more decl_syntax ds i x c.loop-decl-test.true c.decl-item.is) c.in_ok-declare.ensures.exact;
    }

pub returns-clause-exact : goal.returns-clause-exact
returns-clause-exact c = c.loop-decl.invariant.done ∙ ap (resolved_decls (known_of c.loop-decl.tables)) (map_from-end decl_syntax c.args.raw.now c.loop-decl.decl-index c.loop-decl-test.false)

pub returns-in_err-declare-clause-faults : goal.returns-in_err-declare-clause-faults
returns-in_err-declare-clause-faults c =
    let ds = c.args.raw.now in
    let i = c.loop-decl.decl-index in
    let x = c.decl-item.result in
    let p = err_from_is_err_and c.from_residual.result c.from_residual.ensures.1 in
    rw (p.1, p.2)
    (decl_stops (resolved_decls (known_of c.args.tables.now) (map decl_syntax ds)) (known_of c.loop-decl.tables) (decl_syntax x) (map decl_syntax (drop i ds)) (map decl_syntax (drop (i + 1) ds)) c.in_err-declare.field-0.0
    c.loop-decl.invariant.done (map_from_more decl_syntax ds i x c.loop-decl-test.true c.decl-item.is) c.in_err-declare.ensures.faults)
