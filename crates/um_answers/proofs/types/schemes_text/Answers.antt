use Rattle.std.proofs.Common.{◌≡◌, ◌<◌, ◌≤◌, ◌+◌, ◌++◌, [], ◌∷◌, codes, sym, ap, ◌∙◌, append_assoc, rules, map, length, take, get_or, arith}
use Rattle.std.proofs.lemmas.List.{take_more, take_all, length-map, length-take-le, map-append}
use Rattle.um_tree.specs.declared.program.Function.{Function}
use Rattle.um_tree.specs.ProgramTree.{program_tree, function_tree, scheme_tree}
use Rattle.um_show.specs.SchemeText.{scheme_text}
use Rattle.um_reports.specs.Steps.{line}
use Rattle.um_answers.specs.TypesAnswer.{scheme_lines}
use Rattle.um_answers.proofs.SchemesPrinted.{one_more_line}
use Rattle.um_answers.proofs.types.schemes_text.Goals as goal

pub loop-i-preserved : goal.loop-i-preserved
loop-i-preserved c =
    let p = program_tree c.args.program.now in
    let fs = c.deref-functions.result.now in let ss = c.args.schemes.now.items.items in let i = c.loop-i.i in
    let f = c.index-functions-i.result in let s = c.index.result.now in
    let below : i < length fs = c.loop-i-test.true in
    let counted = c.requires.count in
    let n = length-map c.args.program.now.functions.items.items function_tree in let m = ap length c.deref-functions.ensures.value in
    let inside : i < length ss = omega (arith, below, counted, n, m) in
    let low : i ≤ length fs = omega (arith, below) in let low_too : i ≤ length ss = omega (arith, inside) in
    let found : s ≡ get_or ss i s = search rules in
    let same : length (map function_tree (take i fs)) ≡ length (map scheme_tree (take i ss)) =
    omega (arith, length-map (take i fs) function_tree, length-map (take i ss) scheme_tree, length-take-le i fs low, length-take-le i ss low_too) in
    let more_fs : map function_tree (take (i + 1) fs) ≡ map function_tree (take i fs) ++ function_tree f ∷ [] =
    ap (map function_tree) (take_more fs i f below ∙ ap (λ u. take i fs ++ u ∷ []) (sym c.index-functions-i.is)) ∙ map-append function_tree (take i fs) (f ∷ []) in
    let more_ss : map scheme_tree (take (i + 1) ss) ≡ map scheme_tree (take i ss) ++ scheme_tree s ∷ [] =
    ap (map scheme_tree) (take_more ss i s inside ∙ ap (λ u. take i ss ++ u ∷ []) (sym found)) ∙ map-append scheme_tree (take i ss) (s ∷ []) in
    let one = scheme_text p f.name (scheme_tree s) in
    let named = c.in_ok-one.ensures ∙ ap (λ (g : Function). scheme_text p g.name (scheme_tree s)) (sym c.index-functions-i.is) in
    c.in_ok-push.ensures.items
    ∙ ap (λ t. t ++ codes "\n") (c.in_ok-extend_from_slice.ensures.items ∙ ap (λ t. c.loop-i.text.items ++ t) (c.deref.ensures.value ∙ named))
    ∙ append_assoc c.loop-i.text.items one (codes "\n")
    ∙ ap (λ t. t ++ line one) c.loop-i.invariant
    ∙ sym (one_more_line p (map function_tree (take i fs)) (map scheme_tree (take i ss)) (function_tree f) (scheme_tree s) same)
    ∙ ap (λ l. scheme_lines p l (map scheme_tree (take i ss) ++ scheme_tree s ∷ [])) (sym more_fs)
    ∙ ap (λ l. scheme_lines p (map function_tree (take (i + 1) fs)) l) (sym more_ss)

pub returns : goal.returns
returns c =
    let p = program_tree c.args.program.now in
    let fs = c.deref-functions.result.now in let ss = c.args.schemes.now.items.items in let i = c.loop-i.i in
    let functions = c.deref-functions.ensures.value in
    let past : length fs ≤ i = c.loop-i-test.false in
    let counted = c.requires.count in let n = length-map c.args.program.now.functions.items.items function_tree in let m = ap length functions in
    let covered : length ss ≤ i = omega (arith, past, counted, n, m) in
    c.loop-i.invariant
    ∙ ap (λ l. scheme_lines p (map function_tree l) (map scheme_tree (take i ss))) (take_all i fs past ∙ functions)
    ∙ ap (λ l. scheme_lines p p.functions (map scheme_tree l)) (take_all i ss covered)
