use Rattle.std.proofs.Common.{◌≡◌, ℕ, ◌<◌, List, map, length, cond, refl, ap, sym, ◌∙◌, Ok, Err, arith}
use Rattle.std.specs.Prelude.{Some, slice_get, option_map}
use Rattle.std.proofs.lemmas.Option.{slice_get-map, slice_get_read}
use Rattle.std.proofs.lemmas.List.{length-map}
use Rattle.um_tree.specs.ProgramTree.{record_tree}
use Rattle.um_measures.specs.Known.{number_of, record_names}
use Rattle.std.proofs.lemmas.Bool.{eq-eqb, ne_eqb}
use Rattle.um_measures.specs.Faults.{wrong_count}
use Rattle.um_names.specs.Tables.{known_of}
use Rattle.um_measures.proofs.NameLists.{number_of-below}
use Rattle.um_names.proofs.RecordNames.{record_numbered}
use Rattle.um_names.proofs.known.Tables.record.Goals as goal

pub index-requires : goal.index-requires
index-requires c =
    let t = c.args.self.now in
    let numbered : number_of (record_names (known_of t).program.records) c.args.name.now ≡ Some c.in-Some.r = sym (c.in-Some.ensures ∙ ap (λ (ns : List (List ℕ)). number_of ns c.args.name.now) c.requires.records) in
    omega (arith, number_of-below c.args.name.now (record_names (known_of t).program.records) c.in-Some.r numbered, length-map (known_of t).program.records (λ d. d.name), length-map t.records.items record_tree, t.records.ok)

pub returns-in-Some-clause-exact : goal.returns-in-Some-clause-exact
returns-in-Some-clause-exact c =
    let t = c.args.self.now in
    let rs = t.records.items in
    let numbered : number_of (record_names (known_of t).program.records) c.args.name.now ≡ Some c.in-Some.r = sym (c.in-Some.ensures ∙ ap (λ (ns : List (List ℕ)). number_of ns c.args.name.now) c.requires.records) in
    let below : c.in-Some.r < length rs = omega (arith, number_of-below c.args.name.now (record_names (known_of t).program.records) c.in-Some.r numbered, length-map (known_of t).program.records (λ d. d.name), length-map rs record_tree) in
    let there : slice_get (map record_tree rs) c.in-Some.r ≡ Some (record_tree c.index.result.now) = slice_get-map record_tree rs c.in-Some.r ∙ ap (option_map record_tree) (slice_get_read rs (length rs) c.in-Some.r c.index.result.now refl below c.index.ensures) in
    let found = record_numbered (known_of t) c.args.name.now c.args.units c.args.at c.in-Some.r (record_tree c.index.result.now) numbered there in
    found ∙ ap (λ b. cond b (Ok c.in-Some.r) (Err (wrong_count c.args.at))) (eq-eqb c.args.units c.index.result.now.units (sym c.if-index-units.true))

pub returns-in-Some-2-clause-faults : goal.returns-in-Some-2-clause-faults
returns-in-Some-2-clause-faults c =
    let t = c.args.self.now in
    let rs = t.records.items in
    let numbered : number_of (record_names (known_of t).program.records) c.args.name.now ≡ Some c.in-Some.r = sym (c.in-Some.ensures ∙ ap (λ (ns : List (List ℕ)). number_of ns c.args.name.now) c.requires.records) in
    let below : c.in-Some.r < length rs = omega (arith, number_of-below c.args.name.now (record_names (known_of t).program.records) c.in-Some.r numbered, length-map (known_of t).program.records (λ d. d.name), length-map rs record_tree) in
    let there : slice_get (map record_tree rs) c.in-Some.r ≡ Some (record_tree c.index.result.now) = slice_get-map record_tree rs c.in-Some.r ∙ ap (option_map record_tree) (slice_get_read rs (length rs) c.in-Some.r c.index.result.now refl below c.index.ensures) in
    let found = record_numbered (known_of t) c.args.name.now c.args.units c.args.at c.in-Some.r (record_tree c.index.result.now) numbered there in
    found ∙ ap (λ b. cond b (Ok c.in-Some.r) (Err (wrong_count c.args.at))) (ne_eqb c.args.units c.index.result.now.units (λ e. c.if-index-units.false (sym e)))
