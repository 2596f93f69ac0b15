use Rattle.std.proofs.Common.{◌≡◌, length, IsUtf8}
use Rattle.um_sizes.specs.Parts.{parts_of}
use Rattle.um_sizes.specs.Setting.{sizes_set}
use Rattle.um_sizes.proofs.read.set_sizes.Given as goal

abbrev pub invariant-parts : goal.invariant-parts
invariant-parts l = record {
  behind : sizes_set l.bases l.fn.scales (parts_of l.fn.word) ≡ sizes_set l.bases l.scales (parts_of l.rest);
  many : length l.scales ≡ length l.bases;
  text : IsUtf8 l.rest;
}

abbrev pub decreases-parts : goal.decreases-parts
decreases-parts l = length l.rest
