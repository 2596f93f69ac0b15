-- Mirrors the code: expressions in the body of a function, by what the code knows there.
-- Source: this project's own.
use Rattle.std.specs.Prelude.{List, [], ◌∷◌, ◌++◌, Ok, map}
use Rattle.um_tree.specs.ExprTree.{ExprTree, ExprTrees}
use Rattle.um_tree.specs.RawTree.{BinderSyntax, ExprSyntax, ExprSyntaxes, FieldSyntaxes, FunctionSyntax}
use Rattle.um_tree.specs.TypeTree.{note_tree}
use Rattle.um_tree.specs.ProgramTree.{FunctionTree, result_tree}
use Rattle.um_names.specs.declared.known.Tables.{Tables}
use Rattle.um_names.specs.declared.callable.Callable.{Callable}
use Rattle.um_names.specs.declared.node.Body.{Body}
use Rattle.um_names.specs.declared.declare.Head.{Head}
use Rattle.um_measures.specs.Faults.{Found, and_then, unless_taken}
use Rattle.um_measures.specs.Known.{Known}
use Rattle.um_measures.specs.Scopes.{Scope, same_binding}
use Rattle.um_names.specs.ExprNames.{resolved_expr, resolved_exprs, resolved_parts}
use Rattle.um_names.specs.Resolution.{with_function}
use Rattle.um_names.specs.Tables.{known_of, callables_in}

abbrev pub callables_of : Tables → Body → List Callable
callables_of t b = callables_in (known_of t) b.own

abbrev pub resolved_in : Tables → Body → Scope → ExprSyntax → Found ExprTree
resolved_in t b scope e = resolved_expr (known_of t) b.variables (callables_of t b) scope e

abbrev pub resolved_all_in : Tables → Body → Scope → ExprSyntaxes → Found ExprTrees
resolved_all_in t b scope es = resolved_exprs (known_of t) b.variables (callables_of t b) scope es

abbrev pub resolved_parts_in : Tables → Body → Scope → FieldSyntaxes → Found ExprTrees
resolved_parts_in t b scope fs = resolved_parts (known_of t) b.variables (callables_of t b) scope fs

-- one expression and then another
abbrev pub found_both : Found ExprTree → Found ExprTree → Found (ExprTree × ExprTree)
found_both first second = and_then first (λ e. and_then second (λ f. Ok (e, f)))

-- the arm of a list with a head, whose two variables have two names
abbrev pub resolved_arm : Tables → Body → Scope → BinderSyntax → BinderSyntax → ExprSyntax → Found ExprTree
resolved_arm t b scope x y e =
    and_then (unless_taken (same_binding x.name y.name) y.at) (λ _.
    resolved_in t b (scope ++ x.name ∷ y.name ∷ []) e)

-- the function that has this head, with its body
abbrev pub with_body : Tables → FunctionSyntax → Head → Found FunctionTree
with_body t f h =
    and_then (resolved_in t h.known h.scope f.body) (λ body.
    Ok (record {
      name = f.name;
      at = f.at;
      recursive = f.recursive;
      units = h.units;
      params = map note_tree h.params.items;
      named = h.named;
      result = result_tree h.result;
      body = body;
    }))

-- what is known after the function that has this head
abbrev pub with_whole : Tables → FunctionSyntax → Head → Found Known
with_whole t f h = and_then (with_body t f h) (λ g. Ok (with_function (known_of t) g))
