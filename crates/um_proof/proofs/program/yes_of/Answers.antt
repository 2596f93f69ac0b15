use Rattle.std.proofs.Common.{◌≡◌, ◌∙◌, Some, map, length, slice_get, refl, sym, ap, subst, arith}
use Rattle.std.specs.Prelude.{All, IfOk}
use Rattle.std.specs.Option.{option_map}
use Rattle.std.proofs.lemmas.List.{length-map}
use Rattle.std.proofs.lemmas.Option.{slice_get_read, slice_get-map}
use Rattle.um_tree.specs.ProgramTree.{program_tree, scheme_tree}
use Rattle.um_tree.specs.Formed.{BasesBelow}
use Rattle.um_equal_types.specs.Steps.{units_of}
use Rattle.um_check.specs.Tidy.{IsTidyYes}
use Rattle.um_infer.specs.Answers.{scheme_trees}
use Rattle.um_infer.proofs.SchemeLists.{item_at}
use Rattle.um_rows.specs.Judgement.{has_scheme}
use Rattle.um_proof.specs.Answers.{AreFunctionRows, judged, IsYesMade}
use Rattle.um_infer.proofs.SchemeJudgements.{scheme_judgement, yes_judged}
use Rattle.um_proof.proofs.FunctionAnswers.{same_item, yes_valid, yes_range}
use Rattle.um_proof.proofs.program.yes_of.Goals as goal

pub rows_of-requires-clause-function : goal.rows_of-requires-clause-function
rows_of-requires-clause-function c = let l = c.requires.inside in let f = c.requires.few in omega (arith, l, f)

pub rows_of-requires-clause-formed : goal.rows_of-requires-clause-formed
rows_of-requires-clause-formed c = c.base_count-bases.ensures.formed

pub rows_of-requires-clause-shapes : goal.rows_of-requires-clause-shapes
rows_of-requires-clause-shapes c = c.base_count-bases.ensures.shapes

pub rows_of-requires-clause-inferred : goal.rows_of-requires-clause-inferred
rows_of-requires-clause-inferred c = let l = c.requires.inside in (length c.args.schemes.now.items.items, omega (arith, l), c.requires.few, c.requires.before)

pub rows_of-requires-clause-limits : goal.rows_of-requires-clause-limits
rows_of-requires-clause-limits c = λ f e.
    let w = item_at (scheme_trees c.args.schemes.now) c.args.i (let n = length-map c.args.schemes.now.items.items scheme_tree in let l = c.requires.inside in omega (arith, n, l)) in
    let h = scheme_judgement (program_tree c.args.shaped.now) c.base_count-bases.ensures.formed (length c.args.schemes.now.items.items) (scheme_trees c.args.schemes.now) c.requires.few c.requires.before c.args.i c.requires.inside f e w.0 w.1 in
    (h.few, h.in_range)

pub unit_count-units-requires : goal.unit_count-units-requires
unit_count-units-requires c = let l = c.requires.inside in let f = c.requires.few in omega (arith, l, f)

pub make_yes-made-requires-clause-rows : goal.make_yes-made-requires-clause-rows
make_yes-made-requires-clause-rows c =
    let p = program_tree c.args.shaped.now in
    let w = item_at p.functions c.args.i (let l = c.requires.inside in let f = c.requires.few in omega (arith, l, f)) in
    subst (λ n. AreFunctionRows c.base_count-bases.result n c.in_ok-equations.equations) (sym (c.unit_count-units.ensures w.0 w.1))
    (subst (λ n. AreFunctionRows n (w.0).units c.in_ok-equations.equations) (sym c.base_count-bases.ensures.count) (c.in_ok-equations.ensures.rows w.0 w.1))

pub make_yes-made-requires-clause-judged : goal.make_yes-made-requires-clause-judged
make_yes-made-requires-clause-judged c =
    let p = program_tree c.args.shaped.now in
    let w = item_at p.functions c.args.i (let l = c.requires.inside in let f = c.requires.few in omega (arith, l, f)) in
    let items = c.args.schemes.now.items.items in
    let there : slice_get (map scheme_tree items) c.args.i ≡ Some (scheme_tree c.index.result.now) = slice_get-map scheme_tree items c.args.i ∙ ap (option_map scheme_tree) (slice_get_read items (length items) c.args.i c.index.result.now refl c.requires.inside c.index.ensures) in
    let r = c.in_ok-equations.equations in (
      (w.0).at,
      subst (λ n. judged c.base_count-bases.result n (w.0).at r ≡ has_scheme (scheme_tree c.index.result.now)) (sym (c.unit_count-units.ensures w.0 w.1))
          (subst (λ n. judged n (w.0).units (w.0).at r ≡ has_scheme (scheme_tree c.index.result.now)) (sym c.base_count-bases.ensures.count)
          (yes_judged p c.base_count-bases.ensures.formed (length items) (scheme_trees c.args.schemes.now) c.requires.few c.requires.before c.args.i c.requires.inside w.0 w.1 (scheme_tree c.index.result.now) there r (c.in_ok-equations.ensures.equations w.0 w.1))),
    )

pub returns-clause-valid : goal.returns-clause-valid
returns-clause-valid c = λ f s e at.
    let p = program_tree c.args.shaped.now in
    let items = c.args.schemes.now.items.items in
    let there : slice_get (map scheme_tree items) c.args.i ≡ Some (scheme_tree c.index.result.now) = slice_get-map scheme_tree items c.args.i ∙ ap (option_map scheme_tree) (slice_get_read items (length items) c.args.i c.index.result.now refl c.requires.inside c.index.ensures) in
    let same : scheme_tree c.index.result.now ≡ s = same_item (scheme_tree c.index.result.now) s (sym there ∙ at) in
    let r = c.in_ok-equations.equations in
    yes_valid p c.base_count-bases.ensures.formed (length items) (scheme_trees c.args.schemes.now) c.requires.few c.requires.before c.args.i c.requires.inside f e s at r (c.in_ok-equations.ensures.equations f e) c.make_yes-made.result
    (subst (λ t. IsYesMade (length p.bases) f.units r t c.make_yes-made.result) same
    (subst (λ n. IsYesMade n f.units r (scheme_tree c.index.result.now) c.make_yes-made.result) c.base_count-bases.ensures.count
    (subst (λ n. IsYesMade c.base_count-bases.result n r (scheme_tree c.index.result.now) c.make_yes-made.result) (c.unit_count-units.ensures f e) c.make_yes-made.ensures.made)))

pub returns-clause-tidy : goal.returns-clause-tidy
returns-clause-tidy c = λ f e.
    let p = program_tree c.args.shaped.now in
    subst (λ n. IfOk c.make_yes-made.result (IsTidyYes n f.units)) c.base_count-bases.ensures.count
    (subst (λ n. IfOk c.make_yes-made.result (IsTidyYes c.base_count-bases.result n)) (c.unit_count-units.ensures f e)
    (c.make_yes-made.ensures.tidy (subst (λ n. All (BasesBelow n) (units_of c.in_ok-equations.equations.list.items.items)) (sym c.base_count-bases.ensures.count) c.in_ok-equations.ensures.declared)))

pub returns-clause-range : goal.returns-clause-range
returns-clause-range c =
    let p = program_tree c.args.shaped.now in
    let w = item_at p.functions c.args.i (let l = c.requires.inside in let f = c.requires.few in omega (arith, l, f)) in
    let items = c.args.schemes.now.items.items in
    let there : slice_get (map scheme_tree items) c.args.i ≡ Some (scheme_tree c.index.result.now) = slice_get-map scheme_tree items c.args.i ∙ ap (option_map scheme_tree) (slice_get_read items (length items) c.args.i c.index.result.now refl c.requires.inside c.index.ensures) in
    let r = c.in_ok-equations.equations in
    yes_range p c.base_count-bases.ensures.formed (length items) (scheme_trees c.args.schemes.now) c.requires.few c.requires.before c.args.i c.requires.inside w.0 w.1 (scheme_tree c.index.result.now) there r (c.in_ok-equations.ensures.equations w.0 w.1) c.make_yes-made.result
    (subst (λ n. IsYesMade n (w.0).units r (scheme_tree c.index.result.now) c.make_yes-made.result) c.base_count-bases.ensures.count
    (subst (λ n. IsYesMade c.base_count-bases.result n r (scheme_tree c.index.result.now) c.make_yes-made.result) (c.unit_count-units.ensures w.0 w.1) c.make_yes-made.ensures.made))
