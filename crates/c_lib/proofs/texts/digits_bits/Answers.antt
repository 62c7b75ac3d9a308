use Rattle.std.proofs.Common.{◌+◌, ◌-◌, ◌*◌, ◌%◌, List, ℕ, ap, sym, ◌∙◌, get_or}
use Rattle.std.proofs.lemmas.List.{take_rest}
use Rattle.rank_range.specs.Library.{digits_value}
use Rattle.c_lib.proofs.TextLemmas.{bits_of, digits_more}
use Rattle.c_lib.proofs.texts.digits_bits.Goals as goal

pub loop-rest-preserved : goal.loop-rest-preserved
loop-rest-preserved c =
    let rest = c.loop-rest.rest.now in
    let bits = c.loop-rest.bits in
    ap (λ (xs : List ℕ). bits_of (digits_value ((bits * 10 % 4294967296 + (get_or rest 0 0 - 48)) % 4294967296) xs)) (take_rest rest 1)
    ∙ digits_more bits rest c.in-len1-up.len_at_least (sym c.is_digit.ensures ∙ c.if-not-is_digit.false)
    ∙ c.loop-rest.invariant
