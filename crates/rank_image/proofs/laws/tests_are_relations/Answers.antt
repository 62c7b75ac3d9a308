use Rattle.rank_image.proofs.HeapLaw.{heap_is_tested}
use Rattle.rank_image.proofs.ImageLemmas.{records_are_tested}
use Rattle.rank_image.specs.ImageLaws.{image_told, image_tells}
use Rattle.rank_image.proofs.laws.tests_are_relations.Goals as goal

pub returns-clause-heap : goal.returns-clause-heap
returns-clause-heap c = heap_is_tested

pub returns-clause-records : goal.returns-clause-records
returns-clause-records c = records_are_tested

pub returns-clause-images : goal.returns-clause-images
returns-clause-images c = λ bytes h. (image_told bytes h, image_tells bytes)
