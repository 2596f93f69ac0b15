-- Layouts of declarations with each form, as they are computed. Digits aren't computed here: tests print numbers.
use Rattle.std.proofs.Common.{◌≡◌, ℕ, List, [], ◌∷◌, true, false, Some, None, codes, refl}
use Rattle.um_tree.specs.declared.expression.Arith.TheVariants as arith
use Rattle.um_tree.specs.declared.expression.Sign.TheVariants as compare
use Rattle.um_tree.specs.RawTree.{UnitSyntax, measure_syntax, variable_syntax, side_syntax, times_syntax, over_syntax, inverse_syntax, bracket_syntax, no_units, more_units, hole_syntax, unit_note_syntax, TypeSyntax, bool_syntax, num_syntax, record_syntax, list_type_syntax, bracket_type_syntax, BinderSyntax, ExprSyntax, truth_syntax, name_syntax, call_syntax, negate_syntax, not_syntax, arith_syntax, compare_syntax, and_syntax, or_syntax, if_syntax, let_syntax, match_syntax, nil_syntax, list_syntax, cons_syntax, fields_syntax, field_syntax, bracket_expr_syntax, no_exprs, more_exprs, no_fields, more_fields, DeclSyntax, base_syntax, short_syntax, record_decl_syntax, function_syntax}
use Rattle.um_show.specs.Layout.{layout}

abbrev m : UnitSyntax
m = measure_syntax 0 (codes "m")

abbrev s : UnitSyntax
s = measure_syntax 0 (codes "s")

abbrev u : UnitSyntax
u = variable_syntax 0 (codes "u")

abbrev x : ExprSyntax
x = name_syntax 0 (codes "x")

abbrev y : ExprSyntax
y = name_syntax 0 (codes "y")

abbrev bound : List ℕ → BinderSyntax
bound a = record { at = 0; name = Some a }

abbrev unbound : BinderSyntax
unbound = record { at = 0; name = None }

-- let k = BODY
abbrev constant : ExprSyntax → List DeclSyntax
constant e = function_syntax (record { at = 0; name = codes "k"; recursive = false; units = []; params = []; result = None; body = e }) ∷ []

measures : layout (base_syntax 0 (codes "m") ∷ short_syntax 0 (codes "A") (over_syntax (times_syntax (side_syntax (more_units m (more_units s no_units))) (bracket_syntax 0 m)) s) ∷ []) ≡ codes "[<Measure>] type m\n[<Measure>] type A = m s*(m)/s\n"
measures = refl

inverse : layout (short_syntax 0 (codes "A") (times_syntax (inverse_syntax 0 s) m) ∷ []) ≡ codes "[<Measure>] type A = /s*m\n"
inverse = refl

abbrev quotient : TypeSyntax
quotient = num_syntax (Some (unit_note_syntax 0 (over_syntax u (variable_syntax 0 (codes "v")))))

records : layout (record_decl_syntax 0 (codes "R") (record { at = 0; name = codes "u" } ∷ record { at = 0; name = codes "v" } ∷ []) (record { at = 0; name = codes "f"; type = num_syntax (Some (unit_note_syntax 0 u)) } ∷ record { at = 0; name = codes "g"; type = list_type_syntax (bracket_type_syntax (list_type_syntax quotient)) } ∷ []) ∷ record_decl_syntax 0 (codes "P") [] (record { at = 0; name = codes "h"; type = bool_syntax } ∷ []) ∷ []) ≡ codes "type R<[<Measure>] 'u, [<Measure>] 'v> = { f: num<'u>; g: (num<'u/'v> list) list }\ntype P = { h: bool }\n"
records = refl

abbrev units : TypeSyntax
units = record_syntax 0 (codes "R") (unit_note_syntax 0 m ∷ unit_note_syntax 0 (inverse_syntax 0 (side_syntax (more_units s (more_units m no_units)))) ∷ [])

functions : layout (function_syntax (record { at = 0; name = codes "f"; recursive = true; units = []; params = record { binder = bound (codes "x"); type = num_syntax None } ∷ record { binder = unbound; type = num_syntax (Some (hole_syntax 0)) } ∷ []; result = Some (list_type_syntax units); body = nil_syntax 0 (list_type_syntax units) }) ∷ []) ≡ codes "let rec f (x: num) (_: num<_>) : R<m, /s m> list = ([] : R<m, /s m> list)\n"
functions = refl

parameters : layout (function_syntax (record { at = 0; name = codes "f"; recursive = false; units = record { at = 0; name = codes "u" } ∷ record { at = 0; name = codes "v" } ∷ []; params = record { binder = bound (codes "x"); type = quotient } ∷ []; result = None; body = x }) ∷ function_syntax (record { at = 0; name = codes "g"; recursive = true; units = record { at = 0; name = codes "u" } ∷ []; params = []; result = Some (num_syntax (Some (unit_note_syntax 0 u))); body = name_syntax 0 (codes "g") }) ∷ []) ≡ codes "let f<[<Measure>] 'u, [<Measure>] 'v> (x: num<'u/'v>) = x\nlet rec g<[<Measure>] 'u> : num<'u> = g\n"
parameters = refl

arms : layout (constant (match_syntax 0 x y (bound (codes "a")) unbound (let_syntax 0 (bound (codes "b")) (list_syntax 0 (more_exprs x (more_exprs y no_exprs))) (fields_syntax 0 (more_fields 0 (codes "f") x (more_fields 0 (codes "g") (cons_syntax 0 x y) no_fields)))))) ≡ codes "let k = match x with [] -> y | a :: _ -> let b = [x; y] in { f = x; g = x :: y }\n"
arms = refl

signs : layout (constant (or_syntax 0 (and_syntax 0 (compare_syntax 0 compare.Ge (arith_syntax 0 arith.Add x (arith_syntax 0 arith.Mul x y)) (negate_syntax 0 (negate_syntax 0 y))) (not_syntax 0 (bracket_expr_syntax 0 (compare_syntax 0 compare.Ne x y)))) (compare_syntax 0 compare.Le x (arith_syntax 0 arith.Sub x (arith_syntax 0 arith.Div y y))))) ≡ codes "let k = x + x * y >= --y && not (x <> y) || x <= x - y / y\n"
signs = refl

comparisons : layout (constant (if_syntax 0 (compare_syntax 0 compare.Lt x y) (compare_syntax 0 compare.Gt x y) (compare_syntax 0 compare.Eq x y))) ≡ codes "let k = if x < y then x > y else x = y\n"
comparisons = refl

calls : layout (constant (call_syntax 0 (codes "f") (more_exprs (truth_syntax 0 true) (more_exprs (field_syntax 0 0 (codes "g") (bracket_expr_syntax 0 x)) (more_exprs (truth_syntax 0 false) no_exprs))))) ≡ codes "let k = f true (x).g false\n"
calls = refl
