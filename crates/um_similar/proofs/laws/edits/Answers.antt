use Rattle.um_similar.proofs.EditLaws.{similar_are_one_edit}
use Rattle.um_similar.proofs.SearchLaws.{searches_find_similar}
use Rattle.um_similar.proofs.laws.edits.Goals as goal

pub returns : goal.returns
returns c = record { edits = similar_are_one_edit; searches = searches_find_similar }
