use Rattle.std.proofs.Common.{◌≡◌, ℕ, ◌<◌, List, length, cond, refl, ap, sym, ◌∙◌, Ok, Err, arith, subst}
use Rattle.std.specs.Prelude.{Some, None, slice_get, ◌==◌, option_map, IfOk, IfErr}
use Rattle.std.proofs.lemmas.Option.{slice_get-map, slice_get_read}
use Rattle.std.proofs.lemmas.List.{length-map}
use Rattle.um_tree.specs.TypeTree.{note_tree}
use Rattle.um_tree.specs.ProgramTree.{function_tree}
use Rattle.um_measures.specs.Faults.{Found, wrong_count}
use Rattle.um_measures.specs.Stops.{IsFirst}
use Rattle.um_measures.specs.Known.{number_of, function_names}
use Rattle.um_names.specs.Tables.{known_of, own_found}
use Rattle.um_measures.proofs.NameLists.{number_of-below}
use Rattle.um_names.proofs.CallableNames.{callable_declared, callable_else}
use Rattle.um_names.proofs.known.Tables.callable.Goals as goal

pub index-requires : goal.index-requires
index-requires c =
    let t = c.args.self.now in
    let fs = t.functions.items in
    let trees = (known_of t).program.functions in
    let numbered : number_of (function_names trees) c.args.name.now ≡ Some c.in-Some.j = sym (c.in-Some.ensures ∙ ap (λ (ns : List (List ℕ)). number_of ns c.args.name.now) c.requires.functions) in
    let below : c.in-Some.j < length fs = omega (arith, number_of-below c.args.name.now (function_names trees) c.in-Some.j numbered, length-map trees (λ f. f.name), length-map fs function_tree) in
    omega (arith, below, t.functions.ok)

pub returns-in-Some-clause-exact : goal.returns-in-Some-clause-exact
returns-in-Some-clause-exact c =
    let t = c.args.self.now in
    let fs = t.functions.items in
    let trees = (known_of t).program.functions in
    let numbered : number_of (function_names trees) c.args.name.now ≡ Some c.in-Some.j = sym (c.in-Some.ensures ∙ ap (λ (ns : List (List ℕ)). number_of ns c.args.name.now) c.requires.functions) in
    let below : c.in-Some.j < length fs = omega (arith, number_of-below c.args.name.now (function_names trees) c.in-Some.j numbered, length-map trees (λ f. f.name), length-map fs function_tree) in
    let there : slice_get trees c.in-Some.j ≡ Some (function_tree c.index.result.now) = slice_get-map function_tree fs c.in-Some.j ∙ ap (option_map function_tree) (slice_get_read fs (length fs) c.in-Some.j c.index.result.now refl below c.index.ensures) in
    let same : length (function_tree c.index.result.now).params ≡ c.len.result = omega (arith, length-map c.index.result.now.params.items.items note_tree, c.len.ensures, c.index.result.now.params.items.ok.0) in
    let found = callable_declared trees c.args.own.now c.args.name.now c.args.arguments c.args.at c.in-Some.j (function_tree c.index.result.now) numbered there
    ∙ ap (λ (n : ℕ). cond (c.args.arguments == n) (Ok c.in-Some.j) (Err (wrong_count c.args.at))) same in
    subst (λ (r : Found ℕ). IfOk c.counted.result (λ j. r ≡ Ok j)) (sym found) c.counted.ensures.exact

pub returns-in-Some-clause-faults : goal.returns-in-Some-clause-faults
returns-in-Some-clause-faults c =
    let t = c.args.self.now in
    let fs = t.functions.items in
    let trees = (known_of t).program.functions in
    let numbered : number_of (function_names trees) c.args.name.now ≡ Some c.in-Some.j = sym (c.in-Some.ensures ∙ ap (λ (ns : List (List ℕ)). number_of ns c.args.name.now) c.requires.functions) in
    let below : c.in-Some.j < length fs = omega (arith, number_of-below c.args.name.now (function_names trees) c.in-Some.j numbered, length-map trees (λ f. f.name), length-map fs function_tree) in
    let there : slice_get trees c.in-Some.j ≡ Some (function_tree c.index.result.now) = slice_get-map function_tree fs c.in-Some.j ∙ ap (option_map function_tree) (slice_get_read fs (length fs) c.in-Some.j c.index.result.now refl below c.index.ensures) in
    let same : length (function_tree c.index.result.now).params ≡ c.len.result = omega (arith, length-map c.index.result.now.params.items.items note_tree, c.len.ensures, c.index.result.now.params.items.ok.0) in
    let found = callable_declared trees c.args.own.now c.args.name.now c.args.arguments c.args.at c.in-Some.j (function_tree c.index.result.now) numbered there
    ∙ ap (λ (n : ℕ). cond (c.args.arguments == n) (Ok c.in-Some.j) (Err (wrong_count c.args.at))) same in
    subst (λ (r : Found ℕ). IfErr c.counted.result (IsFirst r)) (sym found) c.counted.ensures.faults

pub returns-in-None-clause-exact : goal.returns-in-None-clause-exact
returns-in-None-clause-exact c =
    let t = c.args.self.now in
    let trees = (known_of t).program.functions in
    let absent : number_of (function_names trees) c.args.name.now ≡ None = sym (c.in-None.ensures ∙ ap (λ (ns : List (List ℕ)). number_of ns c.args.name.now) c.requires.functions) in
    let same : length trees ≡ c.count.result = sym (c.count.ensures ∙ ap length c.requires.functions ∙ length-map trees (λ f. f.name)) in
    let found = callable_else trees c.args.own.now c.args.name.now c.args.arguments c.args.at absent ∙ ap (λ (j : ℕ). own_found c.args.own.now j c.args.name.now c.args.arguments c.args.at) same in
    subst (λ (r : Found ℕ). IfOk c.own_number.result (λ j. r ≡ Ok j)) (sym found) c.own_number.ensures.exact

pub returns-in-None-clause-faults : goal.returns-in-None-clause-faults
returns-in-None-clause-faults c =
    let t = c.args.self.now in
    let trees = (known_of t).program.functions in
    let absent : number_of (function_names trees) c.args.name.now ≡ None = sym (c.in-None.ensures ∙ ap (λ (ns : List (List ℕ)). number_of ns c.args.name.now) c.requires.functions) in
    let same : length trees ≡ c.count.result = sym (c.count.ensures ∙ ap length c.requires.functions ∙ length-map trees (λ f. f.name)) in
    let found = callable_else trees c.args.own.now c.args.name.now c.args.arguments c.args.at absent ∙ ap (λ (j : ℕ). own_found c.args.own.now j c.args.name.now c.args.arguments c.args.at) same in
    subst (λ (r : Found ℕ). IfErr c.own_number.result (IsFirst r)) (sym found) c.own_number.ensures.faults
