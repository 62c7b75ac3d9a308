use Rattle.std.proofs.Common.{◌≡◌, ℕ, List, Option, Some, None, sym, Bor}
use Rattle.std.specs.Prelude.{IfSome}
use Rattle.std.specs.Option.{option_copied}
use Rattle.c_lex.specs.Blanks.{IsGap}
use Rattle.c_lex.specs.Reading.{after_gap}
use Rattle.c_lex.proofs.GapSound.{after_gap-sound}
use Rattle.c_lex.proofs.blanks.after_gap.Goals as goal

gap_found : (t : List ℕ) (r : Option (Bor (List ℕ))) → option_copied r ≡ after_gap t → IfSome r (λ rest. IsGap t rest.now)
gap_found t None e = tt
gap_found t (Some rest) e = after_gap-sound t rest.now (sym e)

pub returns-clause-gap : goal.returns-clause-gap
returns-clause-gap c = gap_found c.args.text.now _ c.gap_end.ensures
