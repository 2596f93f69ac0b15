use Rattle.std.proofs.Common.{◌≡◌, ◌+◌, ℕ, List, [], ◌∷◌, ◌++◌, cond, map, drop, sym, ap, ◌∙◌, subst, Ok}
use Rattle.std.proofs.lemmas.List.{map-append}
use Rattle.std.proofs.lemmas.Result.{err_from_is_err_and}
use Rattle.um_tree.specs.declared.program.FieldDecl.{FieldDecl}
use Rattle.um_tree.specs.ProgramTree.{FieldTree, field_tree}
use Rattle.um_tree.specs.RawTree.{field_decl_syntax}
use Rattle.um_measures.specs.Stops.{IsFirst}
use Rattle.um_measures.specs.Known.{is_among}
use Rattle.um_names.specs.Parts.{resolved_field_decl}
use Rattle.um_names.specs.Resolution.{resolved_field_decls}
use Rattle.um_names.specs.Tables.{known_of}
use Rattle.um_measures.proofs.Stages.{map_from_more}
use Rattle.um_names.proofs.FieldDecls.{names_in, field_next, field_stops, names_next}
use Rattle.um_names.proofs.fields.field_decls.Goals as goal

pub loop-text-preserved : goal.loop-text-preserved
loop-text-preserved c =
    let k = known_of c.args.tables.now in
    let v = c.args.variables.now in
    let fs = c.args.raw.now in
    let i = c.loop-text.text-index in
    let x = c.text-item.result in
    let own = c.loop-text.own in
    let done = map field_tree c.loop-text.fields.items in
    let g = field_tree c.in_ok-field_decl.field-0 in
    let rest = map_from_more field_decl_syntax fs i x c.loop-text-test.true c.text-item.is in
    let there = subst (λ (ns : List (List ℕ)). resolved_field_decl k v ns (field_decl_syntax x) ≡ Ok g) c.loop-text.invariant.own c.in_ok-field_decl.ensures.exact in
    let pushed : map field_tree c.push.new.self.items ≡ done ++ g ∷ [] = ap (λ (ds : List FieldDecl). map field_tree ds) c.in_ok-push.ensures.items ∙ map-append field_tree c.loop-text.fields.items (c.in_ok-field_decl.field-0 ∷ []) in
    let added : c.add.new.self ≡ cond (is_among own x.name) own (own ++ x.name ∷ []) = subst (λ (y : List ℕ). c.add.new.self ≡ cond (is_among own y) own (own ++ y ∷ [])) c.as_slice.ensures c.in_ok-add.ensures in
    record {
      done = field_next k v (resolved_field_decls k v [] (map field_decl_syntax fs)) done (field_decl_syntax x) (map field_decl_syntax (drop i fs)) (map field_decl_syntax (drop (i + 1) fs)) g c.loop-text.invariant.done rest there
          ∙ ap (λ (gs : List FieldTree). resolved_field_decls k v gs (map field_decl_syntax (drop (i + 1) fs))) (sym pushed);
      own = names_next k v own c.add.new.self done (field_decl_syntax x) g c.loop-text.invariant.own c.in_ok-field_decl.ensures.exact added ∙ ap names_in (sym pushed);
    }

pub returns-in_err-field_decl-clause-faults : goal.returns-in_err-field_decl-clause-faults
returns-in_err-field_decl-clause-faults c =
    let k = known_of c.args.tables.now in
    let v = c.args.variables.now in
    let fs = c.args.raw.now in
    let i = c.loop-text.text-index in
    let x = c.text-item.result in
    let stop = c.in_err-field_decl.field-0.0 in
    let rest = map_from_more field_decl_syntax fs i x c.loop-text-test.true c.text-item.is in
    let there = subst (λ (ns : List (List ℕ)). IsFirst (resolved_field_decl k v ns (field_decl_syntax x)) stop) c.loop-text.invariant.own c.in_err-field_decl.ensures.faults in
    let p = err_from_is_err_and c.from_residual-in_err-field_decl.result c.from_residual-in_err-field_decl.ensures.1 in
    rw (p.1, p.2)
    (field_stops k v (resolved_field_decls k v [] (map field_decl_syntax fs)) (map field_tree c.loop-text.fields.items) (field_decl_syntax x) (map field_decl_syntax (drop i fs)) (map field_decl_syntax (drop (i + 1) fs)) stop c.loop-text.invariant.done rest there)
