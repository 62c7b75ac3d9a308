use Rattle.c_phrases.proofs.levels.+phrase.Given as goal

abbrev pub decreases-phrase : goal.decreases-phrase
decreases-phrase l = l.room
