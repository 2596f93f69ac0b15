use Rattle.std.proofs.Common.{◌≡◌, ℕ, List, true, false, ◌||◌, sym, ap, ◌∙◌}
use Rattle.std.specs.Prelude.{is_some}
use Rattle.um_measures.specs.Known.{is_among, short_unit, record_names}
use Rattle.um_names.specs.Tables.{known_of}
use Rattle.um_names.proofs.Taken.{taken_is}
use Rattle.um_names.proofs.declare.is_taken.Goals as goal

pub returns-then-has : goal.returns-then-has
returns-then-has c =
    let t = c.args.tables.now in
    let x = c.args.name.now in
    let s : is_some (short_unit t.measures x) ≡ true = sym c.has.ensures ∙ c.if-has.true in
    c.if-has.true ∙ sym (ap (λ b. b || is_among (record_names (known_of t).program.records) x) s) ∙ taken_is (known_of t) x t.measures (c.requires.measures x)

pub returns-else-has : goal.returns-else-has
returns-else-has c =
    let t = c.args.tables.now in
    let x = c.args.name.now in
    let s : is_some (short_unit t.measures x) ≡ false = sym c.has.ensures ∙ c.if-has.false in
    c.has-else-has.ensures ∙ ap (λ (ns : List (List ℕ)). is_among ns x) c.requires.records
    ∙ sym (ap (λ b. b || is_among (record_names (known_of t).program.records) x) s) ∙ taken_is (known_of t) x t.measures (c.requires.measures x)
