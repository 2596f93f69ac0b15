-- Mirrors the code: what its values stand for.
-- Source: this project's own.
use Rattle.um_tree.specs.ProgramTree.{program_tree}
use Rattle.um_infer.specs.Answers.{scheme_trees}
use Rattle.um_front.specs.declared.parts.ShapedText.{ShapedText}
use Rattle.um_front.specs.declared.parts.CheckedParts.{CheckedParts}
use Rattle.um_front.specs.Stages.{ShapedTree, CheckedTree}

abbrev pub shaped_tree : ShapedText → ShapedTree
shaped_tree s = record {
  program = program_tree s.shaped;
  abbreviations = s.abbreviations;
}

abbrev pub checked_tree : CheckedParts → CheckedTree
checked_tree c = record { text = shaped_tree c.text; schemes = scheme_trees c.schemes }
