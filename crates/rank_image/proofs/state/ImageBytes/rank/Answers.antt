use Rattle.std.proofs.Common.{◌∙◌, ◌≡◌, sym, ap, subst}
use Rattle.byte_formats.specs.Formats.{number16}
use Rattle.rank_image.proofs.ImageLemmas.{rank_is_read, same_rank, number_read}
use Rattle.rank_image.proofs.state.ImageBytes.rank.Goals as goal

pub unreachable-requires : goal.unreachable-requires
unreachable-requires c =
    rank_is_read c.args.self.now c.as_slice.ensures.image
    (ap number16.read (sym c.as_slice.ensures.value) ∙ c.in-Err-Bad.ensures.bad (cc c.in-Err-Bad.field-0-is))

pub returns-clause-value : goal.returns-clause-value
returns-clause-value c =
    number_read c.args.self.now c.take_u16.new.cursor.rest.now c.in-Ok.number (ap number16.read (sym c.as_slice.ensures.value) ∙ c.in-Ok.ensures.ok)

pub returns-clause-owner : goal.returns-clause-owner
returns-clause-owner c =
    λ r s. same_rank c.args.self.now c.take_u16.new.cursor.rest.now c.in-Ok.number r
    (ap number16.read (sym c.as_slice.ensures.value) ∙ c.in-Ok.ensures.ok) s
