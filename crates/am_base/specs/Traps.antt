-- The texts and numbers of the causes of traps. This profile's own.
use Rattle.std.specs.Prelude.{ℕ, List, codes}
use Rattle.am_base.specs.declared.traps.TrapCause.{TrapCause}
use Rattle.am_base.specs.declared.traps.TrapCause.TheVariants.{BadAddress, BadFree, DivisionByZero, DivisionOverflow, ShiftCount, CallDepth, DataStack, BadFormat, TextLimit, ErrOther, ErrComm, ErrRequest, ErrCount, ErrType, ErrOp, ErrRoot, ErrRank, ErrTag, ErrBuffer, ErrTruncate, CollectiveMismatch}

-- by what text a report tells the cause
abbrev pub trap_text : TrapCause → List ℕ
trap_text BadAddress = codes "bad address"
trap_text BadFree = codes "bad free"
trap_text DivisionByZero = codes "division by zero"
trap_text DivisionOverflow = codes "division overflow"
trap_text ShiftCount = codes "shift count"
trap_text CallDepth = codes "call depth"
trap_text DataStack = codes "data stack"
trap_text BadFormat = codes "bad format"
trap_text TextLimit = codes "text limit"
trap_text ErrOther = codes "MPI_ERR_OTHER"
trap_text ErrComm = codes "MPI_ERR_COMM"
trap_text ErrRequest = codes "MPI_ERR_REQUEST"
trap_text ErrCount = codes "MPI_ERR_COUNT"
trap_text ErrType = codes "MPI_ERR_TYPE"
trap_text ErrOp = codes "MPI_ERR_OP"
trap_text ErrRoot = codes "MPI_ERR_ROOT"
trap_text ErrRank = codes "MPI_ERR_RANK"
trap_text ErrTag = codes "MPI_ERR_TAG"
trap_text ErrBuffer = codes "MPI_ERR_BUFFER"
trap_text ErrTruncate = codes "MPI_ERR_TRUNCATE"
trap_text CollectiveMismatch = codes "collective mismatch"

-- its number in a rank's image
abbrev pub trap_number : TrapCause → ℕ
trap_number BadAddress = 1
trap_number BadFree = 2
trap_number DivisionByZero = 3
trap_number DivisionOverflow = 4
trap_number ShiftCount = 5
trap_number CallDepth = 6
trap_number DataStack = 7
trap_number BadFormat = 8
trap_number TextLimit = 9
trap_number ErrOther = 20
trap_number ErrComm = 21
trap_number ErrRequest = 22
trap_number ErrCount = 23
trap_number ErrType = 24
trap_number ErrOp = 25
trap_number ErrRoot = 26
trap_number ErrRank = 27
trap_number ErrTag = 28
trap_number ErrBuffer = 29
trap_number ErrTruncate = 30
trap_number CollectiveMismatch = 31
