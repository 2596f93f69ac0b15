use Rattle.std.proofs.Common.{◌≡◌, ℕ, List, [], ◌∷◌, ◌++◌, sym, ap, ◌∙◌, subst}
use Rattle.um_units.specs.PowerMap.{PowerMap}
use Rattle.um_measures.specs.declared.abbreviation.Abbreviation.{Abbreviation}
use Rattle.um_measures.specs.Known.{number_of, short_unit, base_or}
use Rattle.um_names.specs.Tables.{known_of}
use Rattle.um_names.proofs.Added.{short_added}
use Rattle.um_names.proofs.adding.add_short.Goals as goal

pub returns-clause-tables : goal.returns-clause-tables
returns-clause-tables c =
    let k = known_of c.args.tables.now in
    let x = c.args.name.now in
    let is : c.push.new.self.items ≡ c.args.tables.now.shorts.items ++ record { name = x; unit = c.args.unit } ∷ [] = c.in_ok-push.ensures.items ∙ ap (λ (y : List ℕ). c.args.tables.now.shorts.items ++ record { name = y; unit = c.args.unit } ∷ []) c.in_ok-name.ensures in
    let e : record { name = x; unit = c.in_ok-measure.measure } ≡ record { name = x; unit = c.args.unit } = ap (λ (u : PowerMap). record { name = x; unit = u }) c.in_ok-measure.ensures.same in
    let added : (y : List ℕ) → short_unit c.add_measure.new.measures y ≡ short_unit (c.args.tables.now.measures ++ record { name = x; unit = c.args.unit } ∷ []) y =
    subst (λ (s : Abbreviation). (y : List ℕ) → short_unit c.add_measure.new.measures y ≡ short_unit (c.args.tables.now.measures ++ s ∷ []) y) e c.in_ok-add_measure.ensures in
    record {
      measures = λ y. short_added k (record { name = x; unit = c.args.unit }) c.args.tables.now.measures c.add_measure.new.measures c.requires.tables.measures added y ∙ ap (λ (ss : List Abbreviation). base_or (number_of k.program.bases y) (short_unit ss y)) (sym is);
      records = c.requires.tables.records;
      fields = c.requires.tables.fields;
      counts = c.requires.tables.counts;
      functions = c.requires.tables.functions;
    }

pub returns-clause-known : goal.returns-clause-known
returns-clause-known c =
    let k = known_of c.args.tables.now in
    let x = c.args.name.now in
    let is : c.push.new.self.items ≡ c.args.tables.now.shorts.items ++ record { name = x; unit = c.args.unit } ∷ [] = c.in_ok-push.ensures.items ∙ ap (λ (y : List ℕ). c.args.tables.now.shorts.items ++ record { name = y; unit = c.args.unit } ∷ []) c.in_ok-name.ensures in
    ap (λ (ss : List Abbreviation). record { program = k.program; shorts = ss }) is
