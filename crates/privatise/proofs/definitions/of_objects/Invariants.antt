use Rattle.privatise.proofs.SecondLemmas.{ObjectsSoFar}
use Rattle.privatise.proofs.definitions.of_objects.Given as goal

abbrev pub invariant-loop-object : goal.invariant-loop-object
invariant-loop-object l = ObjectsSoFar l.program.objects l.object-index l.definitions
