use Rattle.std.proofs.Common.{◌≡◌, length, IsUtf8}
use Rattle.um_sizes.specs.Parts.{parts_of}
use Rattle.um_sizes.specs.Adding.{names_after}
use Rattle.um_sizes.proofs.word.add_sizes.Given as goal

abbrev pub invariant-parts : goal.invariant-parts
invariant-parts l = record {
  behind : names_after l.fn.names (parts_of l.fn.word) ≡ names_after l.names (parts_of l.rest);
  text : IsUtf8 l.rest;
}

abbrev pub decreases-parts : goal.decreases-parts
decreases-parts l = length l.rest
