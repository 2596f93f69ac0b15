-- The first literal that can't be rescaled has the place of a token.
use Rattle.std.proofs.Common.{ℕ, List, [], ◌∷◌, All, Option, Some, None, inl, subst}
use Rattle.std.specs.Option.{option_or}
use Rattle.std.proofs.lemmas.List.Elements.{All-head, All-tail}
use Rattle.um_frac.specs.declared.number.Frac.{Frac}
use Rattle.um_tree.specs.ExprTree.{ExprTree, ExprTrees, truth, number, local, call, negate, not_expr, pown, arith, compare, both, either, if, bind, split, nil, list_expr, cons, record_expr, field, none, more}
use Rattle.um_tree.specs.ProgramTree.{FunctionTree}
use Rattle.um_front.specs.Places.{BeginsToken, EachPlace, EachPlaceOf}
use Rattle.um_front.proofs.BeginningTokens.{programs_begin_tokens}
use Rattle.um_scale.specs.RescaledLiterals.{rescaled_number, misfit_at, misfit, first_misfit, misfit_in}
use Rattle.um_answers.specs.Laws.{LiteralsBeginTokens}

module _ (P : ℕ → Type 0) (cs : List Frac) where
  abbrev PlaceHolds : Option ℕ → Type 0
  PlaceHolds None = Unit {0}
  PlaceHolds (Some at) = P at

  first : (o other : Option ℕ) → PlaceHolds o → PlaceHolds other → PlaceHolds (option_or o other)
  first None other h k = k
  first (Some at) other h k = h

  literal : (at : ℕ) (o : Option Frac) → P at → PlaceHolds (misfit_at at o)
  literal at None h = h
  literal at (Some d) h = tt

  mutual
    misfit_holds : (e : ExprTree) → EachPlace P e → PlaceHolds (misfit cs e)
    misfit_holds (truth at b) h = tt
    misfit_holds (number at c n) h = literal at (rescaled_number cs c n) h
    misfit_holds (local at k) h = tt
    misfit_holds (call at j es) h = misfits_hold es h.1
    misfit_holds (negate at a) h = misfit_holds a h.1
    misfit_holds (not_expr at a) h = misfit_holds a h.1
    misfit_holds (pown at a k) h = misfit_holds a h.1
    misfit_holds (arith at op a b) h = first (misfit cs a) (misfit cs b) (misfit_holds a h.1) (misfit_holds b h.2)
    misfit_holds (compare at sign a b) h = first (misfit cs a) (misfit cs b) (misfit_holds a h.1) (misfit_holds b h.2)
    misfit_holds (both at a b) h = first (misfit cs a) (misfit cs b) (misfit_holds a h.1) (misfit_holds b h.2)
    misfit_holds (either at a b) h = first (misfit cs a) (misfit cs b) (misfit_holds a h.1) (misfit_holds b h.2)
    misfit_holds (if at c a b) h =
        first (misfit cs c) (option_or (misfit cs a) (misfit cs b)) (misfit_holds c h.1) (first (misfit cs a) (misfit cs b) (misfit_holds a h.2) (misfit_holds b h.3))
    misfit_holds (bind at a b) h = first (misfit cs a) (misfit cs b) (misfit_holds a h.1) (misfit_holds b h.2)
    misfit_holds (split at l a b) h =
        first (misfit cs l) (option_or (misfit cs a) (misfit cs b)) (misfit_holds l h.1) (first (misfit cs a) (misfit cs b) (misfit_holds a h.2) (misfit_holds b h.3))
    misfit_holds (nil at n) h = tt
    misfit_holds (list_expr at es) h = misfits_hold es h.1
    misfit_holds (cons at a b) h = first (misfit cs a) (misfit cs b) (misfit_holds a h.1) (misfit_holds b h.2)
    misfit_holds (record_expr at r es) h = misfits_hold es h.1
    misfit_holds (field at r k a) h = misfit_holds a h.1

    misfits_hold : (es : ExprTrees) → EachPlaceOf P es → PlaceHolds (first_misfit cs es)
    misfits_hold none h = tt
    misfits_hold (more e es) h = first (misfit cs e) (first_misfit cs es) (misfit_holds e h.0) (misfits_hold es h.1)

  abbrev Declared : FunctionTree → Type 0
  Declared f = P f.at × EachPlace P f.body

  functions_hold : (fs : List FunctionTree) → All Declared fs → PlaceHolds (misfit_in cs fs)
  functions_hold [] h = tt
  functions_hold (f ∷ fs) h = first (misfit cs f.body) (misfit_in cs fs) (misfit_holds f.body (All-head Declared f fs h).1) (functions_hold fs (All-tail Declared f fs h))

pub literals_begin_tokens : LiteralsBeginTokens
literals_begin_tokens bytes s cs at shaped is =
    let read = shaped.written in
    let places = programs_begin_tokens read.tokens shaped.raw s.program read.read.is shaped.resolved in
    let all = functions_hold (BeginsToken read.tokens) cs s.program.functions places.functions in
    (read.tokens, read.lexed, inl (subst (PlaceHolds (BeginsToken read.tokens) cs) is all))
