use Rattle.std.proofs.Common.{◌≤◌, length, IsUtf8}
use Rattle.um_display.specs.UnitWords.{texts_in}
use Rattle.um_display.specs.PartView.{list_syntax}
use Rattle.um_display.proofs.Words.{Stand}
use Rattle.um_display.proofs.word.add_parts.Given as goal

abbrev pub invariant-parts : goal.invariant-parts
invariant-parts l = record {
  stand : Stand (list_syntax l.fn.items.items) (list_syntax l.items.items) (texts_in l.fn.word) (texts_in l.rest);
  text : IsUtf8 l.rest;
  short : length l.rest ≤ 1048576;
}

abbrev pub decreases-parts : goal.decreases-parts
decreases-parts l = length l.rest
