use Rattle.std.proofs.Common.{◌++◌, [], ◌∷◌, ◌∙◌, sym, ap, List}
use Rattle.std.proofs.lemmas.List.{append-nil}
use Rattle.std.proofs.lemmas.Result.{on_ok_weaker}
use Rattle.um_tree.specs.RawTree.{decl_syntax, unit_syntax}
use Rattle.um_show.specs.Pieces.{Piece, name, space, equal, type_word}
use Rattle.um_show.specs.Layout.{attribute_pieces, unit_pieces, decl_pieces}
use Rattle.um_show.proofs.Joined.{grown, grows}
use Rattle.um_show.proofs.decl.push_decl.Goals as goal

pub returns-in_ok-extend_from_slice-in-Base : goal.returns-in_ok-extend_from_slice-in-Base
returns-in_ok-extend_from_slice-in-Base c =
    let x = c.in-Base.name in let mid = c.extend_from_slice.new.self.items in
    grows c.push_name.result _ _ _ (attribute_pieces ++ space ∷ type_word ∷ space ∷ []) (name x ∷ []) _ (ap (λ d. decl_pieces (decl_syntax d)) c.in-Base.is) c.in_ok-extend_from_slice-in-Base.ensures.items
    (on_ok_weaker c.push_name.result (λ e. e ∙ ap (λ s. mid ++ s) (sym (append-nil x))) c.push_name.ensures)

pub returns-in_ok-extend_from_slice-in-Short-2 : goal.returns-in_ok-extend_from_slice-in-Short-2
returns-in_ok-extend_from_slice-in-Short-2 c =
    let x = c.in-Short.name in let u = unit_pieces (unit_syntax c.in-Short.unit) in
    let head : List Piece = attribute_pieces ++ space ∷ type_word ∷ space ∷ [] in
    let named = c.in_ok-push_name-in-Short.ensures ∙ ap (λ s. c.extend_from_slice-in-Short.new.self.items ++ s) (sym (append-nil x)) in
    let two = grown _ _ _ head (name x ∷ []) c.in_ok-extend_from_slice-in-Short.ensures.items named in
    let three = grown _ _ _ (head ++ name x ∷ []) (space ∷ equal ∷ space ∷ []) two c.in_ok-extend_from_slice-in-Short-2.ensures.items in
    grows c.push_unit.result _ _ _ ((head ++ name x ∷ []) ++ space ∷ equal ∷ space ∷ []) u _ (ap (λ d. decl_pieces (decl_syntax d)) c.in-Short.is) three c.push_unit.ensures
