use Rattle.std.proofs.Common.{◌∙◌, sym, rules}
use Rattle.byte_formats.proofs.ListLemmas.{whole_spells}
use Rattle.rank_image.specs.Image.{image}
use Rattle.rank_image.specs.ImageLaws.{image_is}
use Rattle.rank_image.proofs.state.is_image.Goals as goal

pub returns-in-Ok-clause-yes : goal.returns-in-Ok-clause-yes
returns-in-Ok-clause-yes c =
    λ e. (
      _,
      whole_spells image c.args.bytes.now c.take_image.new.cursor.rest.now _ image_is (λ i. (let h = c.type_inv.bytes i in search rules))
          c.in-Ok.ensures.ok (sym e ∙ c.is_empty.ensures),
    )
