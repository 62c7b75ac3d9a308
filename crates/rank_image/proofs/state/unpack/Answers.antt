use Rattle.std.proofs.Common.{◌∙◌, ◌≡◌, List, ℕ, ap, sym, subst, refl, arith, rules}
use Rattle.byte_formats.specs.Lawful.{Spells}
use Rattle.byte_formats.proofs.ListLemmas.{none_spelled, front_spells_none, whole_spells}
use Rattle.rank_image.specs.Image.{Rank, image, rank_made}
use Rattle.rank_image.specs.ImageLaws.{image_is}
use Rattle.rank_image.proofs.ImageLemmas.{unpacked}
use Rattle.rank_image.proofs.state.unpack.Goals as goal

pub returns-in-Err-Bad-clause-unpacked : goal.returns-in-Err-Bad-clause-unpacked
returns-in-Err-Bad-clause-unpacked g c = λ r s. none_spelled image c.args.b.now r image_is (c.in-Err-Bad.ensures.bad (cc c.in-Err-Bad.field-0-is)) s

pub with_memory-requires : goal.with_memory-requires
with_memory-requires g c =
    (whole_spells image c.args.b.now c.take_image.new.cursor.rest.now _ image_is (λ i. (let h = c.type_inv.b i in search rules))
    c.in-Ok.ensures.ok c.if-is_empty.ensures).fits

pub returns-else-is_empty-clause-unpacked : goal.returns-else-is_empty-clause-unpacked
returns-else-is_empty-clause-unpacked g c =
    λ r s. front_spells_none image c.args.b.now c.take_image.new.cursor.rest.now _ r image_is c.in-Ok.ensures.ok c.if-is_empty.ensures s

pub returns-in-Ok-with_memory-clause-unpacked : goal.returns-in-Ok-with_memory-clause-unpacked
returns-in-Ok-with_memory-clause-unpacked g c =
    unpacked c.args.b.now _ _ _
    (whole_spells image c.args.b.now c.take_image.new.cursor.rest.now _ image_is (λ i. (let h = c.type_inv.b i in search rules))
    c.in-Ok.ensures.ok c.if-is_empty.ensures)
    c.in-Ok-with_memory.ensures.state c.in-Ok-with_memory.ensures.stack
