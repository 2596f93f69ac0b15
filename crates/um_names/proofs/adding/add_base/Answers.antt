use Rattle.std.proofs.Common.{◌≡◌, ℕ, List, [], ◌∷◌, ◌++◌, length, sym, ap, ◌∙◌, subst}
use Rattle.um_units.specs.declared.Atom.TheVariants.{Base}
use Rattle.um_units.specs.PowerMap.{PowerMap, atom}
use Rattle.um_measures.specs.declared.abbreviation.Abbreviation.{Abbreviation}
use Rattle.um_measures.specs.Known.{number_of, short_unit, base_or}
use Rattle.um_names.specs.Tables.{known_of}
use Rattle.um_names.proofs.Added.{base_added}
use Rattle.um_names.proofs.adding.add_base.Goals as goal

pub returns-clause-tables : goal.returns-clause-tables
returns-clause-tables c =
    let k = known_of c.args.tables.now in
    let x = c.args.name.now in
    let is : c.push.new.self.items ≡ c.args.tables.now.bases.items ++ x ∷ [] = c.in_ok-push.ensures.items ∙ ap (λ (y : List ℕ). c.args.tables.now.bases.items ++ y ∷ []) c.in_ok-name.ensures in
    let unit : c.in_ok-unit.unit ≡ atom (Base (length c.args.tables.now.bases.items)) = c.in_ok-unit.ensures.exact ∙ ap (λ (n : ℕ). atom (Base n)) (c.len-2.ensures ∙ c.args.tables.now.bases.ok.0) in
    let e : record { name = x; unit = c.in_ok-unit.unit } ≡ record { name = x; unit = atom (Base (length c.args.tables.now.bases.items)) } = ap (λ (u : PowerMap). record { name = x; unit = u }) unit in
    let added : (y : List ℕ) → short_unit c.add_measure.new.measures y ≡ short_unit (c.args.tables.now.measures ++ record { name = x; unit = atom (Base (length c.args.tables.now.bases.items)) } ∷ []) y =
    subst (λ (s : Abbreviation). (y : List ℕ) → short_unit c.add_measure.new.measures y ≡ short_unit (c.args.tables.now.measures ++ s ∷ []) y) e c.in_ok-add_measure.ensures in
    record {
      measures = λ y. base_added k x c.args.tables.now.measures c.add_measure.new.measures c.requires.tables.measures c.requires.new added y ∙ ap (λ (bs : List (List ℕ)). base_or (number_of bs y) (short_unit k.shorts y)) (sym is);
      records = c.requires.tables.records;
      fields = c.requires.tables.fields;
      counts = c.requires.tables.counts;
      functions = c.requires.tables.functions;
    }

pub returns-clause-known : goal.returns-clause-known
returns-clause-known c =
    let k = known_of c.args.tables.now in
    let x = c.args.name.now in
    let is : c.push.new.self.items ≡ c.args.tables.now.bases.items ++ x ∷ [] = c.in_ok-push.ensures.items ∙ ap (λ (y : List ℕ). c.args.tables.now.bases.items ++ y ∷ []) c.in_ok-name.ensures in
    ap (λ (bs : List (List ℕ)). record { program = record { bases = bs; records = k.program.records; functions = k.program.functions }; shorts = k.shorts }) is
