-- The text of a program laid out anew is the same program, places aside; so it has the same layout.
use Rattle.std.specs.Str.{chars}
use Rattle.um_syntax.specs.Lexing.{body, body_place}
use Rattle.um_tidy.proofs.TokensAnew.{all_of, laid_out}
use Rattle.um_tidy.proofs.GlueAnew.{whole_stays}
use Rattle.um_tidy.specs.ProgramLaws.{LayoutStays, ProgramStays}
use Rattle.um_tidy.proofs.Alike.{alike_all}
use Rattle.um_tidy.proofs.DeclsStay.{all_stays}
use Rattle.um_tidy.proofs.BareLayouts.{same_layout}

pub program_stays : ProgramStays
program_stays text tokens ds answer program =
    let cs = chars text in
    let l = answer.1 in
    let others = all_of tokens (body_place cs) (body cs) l in
    let out = laid_out text tokens answer.0 l in
    let again = all_stays tokens ds others program (alike_all tokens others (whole_stays tokens (body_place cs) (body cs) l)) in
    (others, again.0, out.read, again.1, again.2)

pub layout_stays : LayoutStays
layout_stays text tokens ds answer program =
    let (others, again, read, spelled, same) = program_stays text tokens ds answer program in
    (others, again, read, spelled, same_layout again ds same)
