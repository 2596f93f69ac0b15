-- The definition computed on short texts.
use Rattle.std.proofs.Common.{◌≡◌, true, false, [], codes, refl}
use Rattle.um_tidy.specs.Gaps.{first_gap, inner_gap, last_gap, only_gap}

blank_lines_go : first_gap true (codes "\n \n// a\n\n\n  // b  \n\n") ≡ codes "// a\n\n  // b\n\n"
blank_lines_go = refl

one_space : inner_gap true false (codes "\t  ") ≡ codes " "
one_space = refl

no_space : inner_gap false false (codes "  ") ≡ []
no_space = refl

comment_stays : inner_gap false false (codes "// x \t\r\n") ≡ codes " // x\n  "
comment_stays = refl

a_tab_goes_to_a_column : inner_gap true false (codes " \r\n \t") ≡ codes "\n    "
a_tab_goes_to_a_column = refl

one_blank_line_stays : inner_gap true true (codes "\n\n \n      ") ≡ codes "\n\n"
one_blank_line_stays = refl

the_last_line_ends : last_gap (codes "  // x") ≡ codes " // x\n"
the_last_line_ends = refl

comments_alone : only_gap (codes "\n  // a\n\n\n// b\n\n") ≡ codes "  // a\n\n// b\n"
comments_alone = refl
