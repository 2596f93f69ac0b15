use Rattle.std.proofs.Common.{rules, ◌∙◌, SFits, to_z-of_z, to_z, of_z, w64}
use Rattle.std.proofs.lemmas.Result.{on_ok_weaker}
use Rattle.um_frac.specs.Fraction.{numerator, denominator}
use Rattle.um_image.proofs.Added.{both_long}
use Rattle.um_image.proofs.encoding.put_fraction.Goals as goal

pub returns : goal.returns
returns c =
    let num_fits : SFits w64 c.num.result = search rules in
    let den_fits : SFits w64 c.den.result = search rules in
    on_ok_weaker c.put_long-2.result (λ e. both_long c.args.out.now.items c.put_long.new.out.items c.put_long-2.new.out.items (to_z w64 (of_z w64 c.num.result)) (numerator c.args.c) (to_z w64 (of_z w64 c.den.result)) (denominator c.args.c) (to_z-of_z num_fits ∙ c.num.ensures.value) (to_z-of_z den_fits ∙ c.den.ensures.value) c.in_ok-put_long.ensures e) c.put_long-2.ensures
