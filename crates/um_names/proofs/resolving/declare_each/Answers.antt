use Rattle.std.proofs.Common.{rules, arith, ◌≡◌, ◌+◌, length, map, drop, refl, sym, ap, subst, ◌∙◌}
use Rattle.std.proofs.lemmas.List.{length_push}
use Rattle.std.proofs.lemmas.Result.{err_from_is_err_and}
use Rattle.std.proofs.lemmas.Iterator.Consumers.{YieldsList-turn, YieldsList-end}
use Rattle.std.proofs.lemmas.Iterator.Adapters.{YieldsList-from_vec}
use Rattle.um_tree.specs.RawTree.{decl_syntax}
use Rattle.um_names.specs.Tables.{known_of}
use Rattle.um_names.specs.Resolution.{resolved_decls}
use Rattle.um_measures.proofs.Stages.{map_from_more, map_from-end}
use Rattle.um_names.proofs.DeclLoops.{decl_next, decl_stops}
use Rattle.um_names.proofs.resolving.declare_each.Goals as goal

pub loop-decl-init : goal.loop-decl-init
loop-decl-init c = record { are = c.requires; done = refl }

pub loop-decl-preserved : goal.loop-decl-preserved
loop-decl-preserved c =
    let ds = c.args.raw.items in
    let seen = c.loop-decl.yielded in
    let x = c.in-Some.decl in
    let turn = YieldsList-turn (YieldsList-from_vec {s = c.into_iter-decl-iterator.result} ds (search rules) (search rules)) seen c.loop-decl.decl-iterator c.loop-decl.yielded_by c.next.result c.next.new.self x c.in-Some.is c.next.ensures.steps in
    let whole = resolved_decls (known_of c.args.tables.now) (map decl_syntax ds) in
    let known = known_of c.declare_last.new.tables in
    record {
      are = c.in_ok-declare_last.ensures.tables;
      done = subst (λ k. whole ≡ resolved_decls known (map decl_syntax (drop k ds))) (sym (length_push seen x))
          (decl_next whole (known_of c.loop-decl.tables) known (decl_syntax x) (map decl_syntax (drop (length seen) ds)) (map decl_syntax (drop (length seen + 1) ds)) c.loop-decl.invariant.done (map_from_more decl_syntax ds (length seen) x turn.0 turn.1)
          c.in_ok-declare_last.ensures.exact);
    }

pub returns-clause-exact : goal.returns-clause-exact
returns-clause-exact c =
    let ds = c.args.raw.items in
    let seen = c.loop-decl.yielded in
    let end = YieldsList-end (YieldsList-from_vec {s = c.into_iter-decl-iterator.result} ds (search rules) (search rules)) seen c.loop-decl.decl-iterator c.loop-decl.yielded_by c.next.result c.next.new.self c.in-None.is c.next.ensures.steps in
    c.loop-decl.invariant.done ∙ ap (resolved_decls (known_of c.loop-decl.tables)) (map_from-end decl_syntax ds (length seen) (omega (arith, end.1)))

pub returns-in_err-declare_last-clause-faults : goal.returns-in_err-declare_last-clause-faults
returns-in_err-declare_last-clause-faults c =
    let ds = c.args.raw.items in
    let seen = c.loop-decl.yielded in
    let x = c.in-Some.decl in
    let turn = YieldsList-turn (YieldsList-from_vec {s = c.into_iter-decl-iterator.result} ds (search rules) (search rules)) seen c.loop-decl.decl-iterator c.loop-decl.yielded_by c.next.result c.next.new.self x c.in-Some.is c.next.ensures.steps in
    let p = err_from_is_err_and c.from_residual.result c.from_residual.ensures.1 in
    rw (p.1, p.2)
    (decl_stops (resolved_decls (known_of c.args.tables.now) (map decl_syntax ds)) (known_of c.loop-decl.tables) (decl_syntax x) (map decl_syntax (drop (length seen) ds)) (map decl_syntax (drop (length seen + 1) ds)) c.in_err-declare_last.field-0.0
    c.loop-decl.invariant.done (map_from_more decl_syntax ds (length seen) x turn.0 turn.1) c.in_err-declare_last.ensures.faults)
