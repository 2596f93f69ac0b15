use Rattle.std.proofs.Common.{◌≡◌, ◌≤◌, length, List, ℕ, sym, subst, ◌∙◌}
use Rattle.std.specs.Fmt.{decimal}
use Rattle.std.proofs.lemmas.Fmt.{length-decimal-le}
use Rattle.um_decimals.proofs.DecimalNumbers.{padded_added}
use Rattle.um_decimals.proofs.decimal.push_padded.Goals as goal

pub slice_bounds-extend_from_slice-count : goal.slice_bounds-extend_from_slice-count
slice_bounds-extend_from_slice-count c =
    let written : c.as_bytes-written.result.now ≡ decimal c.args.n = c.as_bytes-written.ensures.value ∙ c.format.ensures.text in
    subst (λ (ds : List ℕ). length ds ≤ c.args.digits) (sym written)
    (length-decimal-le c.args.digits c.args.n c.requires.some c.requires.fits c.ranges.n.fits)

pub returns : goal.returns
returns c =
    let written : c.as_bytes-written.result.now ≡ decimal c.args.n = c.as_bytes-written.ensures.value ∙ c.format.ensures.text in
    padded_added c.extend_from_slice-2.result c.args.text.now.items c.extend_from_slice.new.self.items c.extend_from_slice-2.new.self.items
    c.as_bytes-written.result.now c.args.digits c.args.n c.requires.few written c.in_ok-extend_from_slice.ensures.items c.extend_from_slice-2.ensures.items
