use Rattle.std.proofs.Common.{◌≡◌, get_or, refl, arith}
use Rattle.c_lex.proofs.GapEnds.{open-without-gap, two-bytes}
use Rattle.c_lex.proofs.directives.is_open_comment.Goals as goal

pub returns-in-47 : goal.returns-in-47
returns-in-47 c =
    let first : get_or c.args.text.now 0 0 ≡ 47 = omega arith in
    let second : get_or c.args.text.now 1 0 ≡ 42 = omega arith in
    let (body, e) = two-bytes c.args.text.now 47 42 first second c.in-47.len_at_least in
    (λ y. open-without-gap c.args.text.now body e c.requires, λ o. refl)
