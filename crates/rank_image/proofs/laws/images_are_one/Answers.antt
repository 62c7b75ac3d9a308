use Rattle.rank_image.proofs.ImageLemmas.{is_one_image, has_one_image, none_is_longer}
use Rattle.rank_image.proofs.laws.images_are_one.Goals as goal

pub returns-clause-rank : goal.returns-clause-rank
returns-clause-rank c = is_one_image

pub returns-clause-bytes : goal.returns-clause-bytes
returns-clause-bytes c = has_one_image

pub returns-clause-longer : goal.returns-clause-longer
returns-clause-longer c = none_is_longer
