use Rattle.run_words.proofs.command.files_are_few.Goals as goal

pub returns-clause-run : goal.returns-clause-run
returns-clause-run c = λ words asked asks. asks.some_files

pub returns-clause-code : goal.returns-clause-code
returns-clause-code c = λ words files asks. asks.some_files
