use Rattle.std.proofs.Common.{◌≡◌, ◌+◌, [], ◌∷◌, ◌++◌, cond, map, take, sym, ap, subst, ◌∙◌}
use Rattle.std.specs.Set.{distinct_count}
use Rattle.std.specs.Str.{bytes_eq}
use Rattle.std.proofs.lemmas.List.{take_more, take_all, map-append}
use Rattle.um_tree.specs.ProgramTree.{program_tree, scheme_tree}
use Rattle.um_measures.specs.Known.{is_among}
use Rattle.um_show.specs.SchemeText.{scheme_text}
use Rattle.um_call_answers.proofs.DifferentTexts.{HoldsOnce, none_held, one_more_held, held_counted}
use Rattle.um_call_answers.proofs.big.different_schemes.Goals as goal

pub loop-scheme-init : goal.loop-scheme-init
loop-scheme-init c = subst (λ kept. HoldsOnce kept []) (sym c.new-texts.ensures) none_held

pub loop-scheme-preserved : goal.loop-scheme-preserved
loop-scheme-preserved c =
    let p = program_tree c.args.program.now in let ss = c.deref-schemes.result.now in let i = c.loop-scheme.scheme-index in
    let s = c.scheme-item.result in let kept = c.loop-scheme.texts in
    let f = scheme_text p [] in let before = map f (map scheme_tree (take i ss)) in let t = f (scheme_tree s) in
    let more : map f (map scheme_tree (take (i + 1) ss)) ≡ before ++ t ∷ [] =
    ap (λ l. map f (map scheme_tree l)) (take_more ss i s c.loop-scheme-test.true ∙ ap (λ u. take i ss ++ u ∷ []) (sym c.scheme-item.is))
    ∙ ap (map f) (map-append scheme_tree (take i ss) (s ∷ [])) ∙ map-append f (map scheme_tree (take i ss)) (scheme_tree s ∷ []) in
    let unnamed : scheme_text p c.empty-unnamed.result (scheme_tree s) ≡ t = ap (λ n. scheme_text p n (scheme_tree s)) c.empty-unnamed.ensures in
    let added : c.add_text.new.texts ≡ cond (is_among kept t) kept (kept ++ t ∷ []) =
    c.in-Ok.ensures ∙ ap (λ u. cond (is_among kept u) kept (kept ++ u ∷ [])) unnamed in
    subst (HoldsOnce c.add_text.new.texts) (sym more)
    (subst (λ k. HoldsOnce k (before ++ t ∷ [])) (sym added) (one_more_held kept before t c.loop-scheme.invariant))

pub returns : goal.returns
returns c =
    let p = program_tree c.args.program.now in let ss = c.deref-schemes.result.now in let i = c.loop-scheme.scheme-index in
    let f = scheme_text p [] in
    c.count-count.ensures
    ∙ held_counted c.loop-scheme.texts (map f (map scheme_tree (take i ss))) c.loop-scheme.invariant
    ∙ ap (λ l. distinct_count bytes_eq (map f (map scheme_tree l))) (take_all i ss c.loop-scheme-test.false ∙ c.deref-schemes.ensures.value)
