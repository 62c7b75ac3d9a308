-- The numbers that a process ends with.
use Rattle.std.specs.Prelude.{ℕ}
use Rattle.ampi.specs.declared.status.Status.{Status}
use Rattle.ampi.specs.declared.status.Status.TheVariants.{Done, Usage, ReadFault, TooLong, Source, Deadlock, OutOfTicks, Trapped, WriteFault, NoMemory}

abbrev pub exit_number : Status → ℕ
exit_number Done = 0
exit_number Usage = 1
exit_number (ReadFault file) = 2
exit_number (TooLong file) = 3
exit_number (Source file line cause) = 4
exit_number Deadlock = 6
exit_number OutOfTicks = 7
exit_number (Trapped rank) = 8
exit_number WriteFault = 10
exit_number NoMemory = 11
