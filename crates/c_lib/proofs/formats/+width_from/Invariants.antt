use Rattle.c_lib.proofs.formats.+width_from.Given as goal

abbrev pub decreases-width_from : goal.decreases-width_from
decreases-width_from l = l.n
