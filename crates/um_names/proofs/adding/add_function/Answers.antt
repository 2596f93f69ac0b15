use Rattle.std.proofs.Common.{◌≡◌, ℕ, false, List, [], ◌∷◌, ◌++◌, map, cond, sym, ap, ◌∙◌, subst}
use Rattle.std.proofs.lemmas.List.{map-append}
use Rattle.um_tree.specs.declared.program.Function.{Function}
use Rattle.um_tree.specs.ProgramTree.{FunctionTree, function_tree}
use Rattle.um_measures.specs.Known.{is_among, function_names}
use Rattle.um_names.specs.Tables.{known_of}
use Rattle.um_names.proofs.adding.add_function.Goals as goal

pub returns-in_ok-push-in-Ok-clause-known : goal.returns-in_ok-push-in-Ok-clause-known
returns-in_ok-push-in-Ok-clause-known c =
    let k = known_of c.args.tables.now in
    let is : map function_tree c.push.new.self.items ≡ k.program.functions ++ function_tree c.args.function ∷ [] =
    ap (λ (fs : List Function). map function_tree fs) c.in_ok-push-in-Ok.ensures.items ∙ map-append function_tree c.args.tables.now.functions.items (c.args.function ∷ []) in
    ap (λ (fs : List FunctionTree). record { program = record { bases = k.program.bases; records = k.program.records; functions = fs }; shorts = k.shorts }) is

pub returns-in_ok-push-in-Ok-clause-tables : goal.returns-in_ok-push-in-Ok-clause-tables
returns-in_ok-push-in-Ok-clause-tables c =
    let k = known_of c.args.tables.now in
    let t = c.args.tables.now in
    let x = c.args.function.name in
    let is : map function_tree c.push.new.self.items ≡ k.program.functions ++ function_tree c.args.function ∷ [] =
    ap (λ (fs : List Function). map function_tree fs) c.in_ok-push-in-Ok.ensures.items ∙ map-append function_tree t.functions.items (c.args.function ∷ []) in
    let absent : is_among t.function_names x ≡ false = ap (λ (ns : List (List ℕ)). is_among ns x) c.requires.tables.functions ∙ c.requires.new in
    let added : c.add.new.self ≡ cond (is_among t.function_names x) t.function_names (t.function_names ++ x ∷ []) =
    subst (λ (y : List ℕ). c.add.new.self ≡ cond (is_among t.function_names y) t.function_names (t.function_names ++ y ∷ [])) c.as_slice.ensures c.in-Ok.ensures in
    let named : function_names (k.program.functions ++ function_tree c.args.function ∷ []) ≡ function_names k.program.functions ++ x ∷ [] = map-append (λ f. f.name) k.program.functions (function_tree c.args.function ∷ []) in
    record {
      measures = c.requires.tables.measures;
      records = c.requires.tables.records;
      fields = c.requires.tables.fields;
      counts = c.requires.tables.counts;
      functions = added ∙ ap (λ b. cond b t.function_names (t.function_names ++ x ∷ [])) absent ∙ ap (λ (ns : List (List ℕ)). ns ++ x ∷ []) c.requires.tables.functions
          ∙ sym (ap function_names is ∙ named);
    }
