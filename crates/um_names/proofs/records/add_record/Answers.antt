use Rattle.std.proofs.Common.{◌≡◌, ℕ, false, List, [], ◌∷◌, ◌++◌, map, cond, length, sym, ap, ◌∙◌}
use Rattle.std.proofs.lemmas.List.{map-append, length-map}
use Rattle.um_tree.specs.declared.program.Record.{Record}
use Rattle.um_tree.specs.ProgramTree.{RecordTree, record_tree}
use Rattle.um_measures.specs.Known.{number_of, is_among, record_names, names_of_fields}
use Rattle.um_names.specs.ExprNames.{field_of}
use Rattle.um_names.specs.Parts.{field_else, field_at}
use Rattle.um_names.specs.Tables.{known_of}
use Rattle.um_names.proofs.FieldNumbers.{field_of-append}
use Rattle.um_names.proofs.records.add_record.Goals as goal

pub returns-in_ok-push-in-Ok-clause-known : goal.returns-in_ok-push-in-Ok-clause-known
returns-in_ok-push-in-Ok-clause-known c =
    let k = known_of c.args.tables.now in
    let is : map record_tree c.push.new.self.items ≡ k.program.records ++ record_tree c.args.decl ∷ [] =
    ap (λ (ds : List Record). map record_tree ds) c.in_ok-push-in-Ok.ensures.items ∙ map-append record_tree c.args.tables.now.records.items (c.args.decl ∷ []) in
    ap (λ (ds : List RecordTree). record { program = record { bases = k.program.bases; records = ds; functions = k.program.functions }; shorts = k.shorts }) is

pub returns-in_ok-push-in-Ok-clause-tables : goal.returns-in_ok-push-in-Ok-clause-tables
returns-in_ok-push-in-Ok-clause-tables c =
    let t = c.args.tables.now in
    let k = known_of t in
    let d = record_tree c.args.decl in
    let x = c.args.decl.name in
    let is : map record_tree c.push.new.self.items ≡ k.program.records ++ d ∷ [] =
    ap (λ (ds : List Record). map record_tree ds) c.in_ok-push-in-Ok.ensures.items ∙ map-append record_tree t.records.items (c.args.decl ∷ []) in
    let absent : is_among t.record_names x ≡ false = ap (λ (ns : List (List ℕ)). is_among ns x) c.requires.tables.records ∙ c.requires.new in
    let added : c.add_names.new.record_names ≡ cond (is_among t.record_names x) t.record_names (t.record_names ++ x ∷ []) = c.in-Ok.ensures.names in
    let named : record_names (k.program.records ++ d ∷ []) ≡ record_names k.program.records ++ x ∷ [] = map-append (λ f. f.name) k.program.records (d ∷ []) in
    let count : c.len-number.result ≡ length k.program.records = c.len-number.ensures ∙ t.records.ok.0 ∙ sym (length-map t.records.items record_tree) in
    record {
      measures = c.requires.tables.measures;
      records = added ∙ ap (λ b. cond b t.record_names (t.record_names ++ x ∷ [])) absent ∙ ap (λ (ns : List (List ℕ)). ns ++ x ∷ []) c.requires.tables.records
          ∙ sym (ap record_names is ∙ named);
      fields = λ y. c.in-Ok.ensures.fields y
          ∙ ap (λ o. field_else o (field_at c.len-number.result (number_of (names_of_fields d) y))) (c.requires.tables.fields y)
          ∙ ap (λ (n : ℕ). field_else (field_of k.program.records y) (field_at n (number_of (names_of_fields d) y))) count
          ∙ sym (field_of-append k.program.records d y) ∙ ap (λ (ds : List RecordTree). field_of ds y) (sym is);
      counts = c.in-Ok.ensures.counts;
      functions = c.requires.tables.functions;
    }
