use Rattle.std.proofs.Common.{◌≡◌, ℕ, List, [], ◌∷◌, ◌++◌, map, take, ap, sym, ◌∙◌}
use Rattle.std.proofs.lemmas.List.{map-append}
use Rattle.um_tree.specs.declared.program.Record.{Record}
use Rattle.um_tree.specs.ProgramTree.{RecordTree, record_tree}
use Rattle.um_measures.specs.Known.{Known, is_among, record_names}
use Rattle.um_names.specs.Resolution.{with_record}
use Rattle.um_sig.specs.Heads.{head_of, with_heads}
use Rattle.um_names.specs.Tables.{known_of}
use Rattle.um_sig.proofs.HeadNames.{head_new, names_of_heads, heads_more}
use Rattle.um_measures.proofs.MeasureLists.{take_next}
use Rattle.um_sig.proofs.heads.with_heads.Goals as goal

pub with_head-requires-clause-new : goal.with_head-requires-clause-new
with_head-requires-clause-new c =
    let ds = c.args.records.now in
    let i = c.loop-i.i in
    let x = c.index-records-i.result in
    let before = map record_tree (take i ds) in
    let records : map record_tree c.loop-i.all.records.items ≡ map head_of before = ap (λ (k : Known). k.program.records) c.loop-i.invariant.known ∙ ap (λ (rs : List RecordTree). rs ++ map head_of before) c.requires.none in
    ap (λ (rs : List RecordTree). is_among (record_names rs) x.name) records ∙ ap (λ (ns : List (List ℕ)). is_among ns x.name) (names_of_heads before)
    ∙ head_new ds i x c.requires.once c.loop-i-test.true c.index-records-i.is

pub loop-i-preserved : goal.loop-i-preserved
loop-i-preserved c =
    let ds = c.args.records.now in
    let i = c.loop-i.i in
    let x = c.index-records-i.result in
    let k = known_of c.args.tables in
    let before = map record_tree (take i ds) in
    record {
      are = c.in_ok-all.ensures.tables;
      known = c.in_ok-all.ensures.known ∙ ap (λ (j : Known). with_record j (head_of (record_tree x))) c.loop-i.invariant.known
          ∙ heads_more k before (record_tree x)
          ∙ ap (with_heads k) (sym (ap (λ (rs : List Record). map record_tree rs) (take_next ds i x c.loop-i-test.true c.index-records-i.is) ∙ map-append record_tree (take i ds) (x ∷ [])));
    }
