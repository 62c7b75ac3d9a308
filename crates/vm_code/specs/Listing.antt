-- How a listing spells code: a line for each instruction, with its number, its name and its operands. This profile's own.
use Rattle.std.specs.Prelude.{ℕ, suc, List, [], ◌∷◌, ◌++◌, length, drop, codes}
use Rattle.std.specs.Fmt.{decimal}
use Rattle.am_base.specs.Calls.{lib_name, mpi_name}
use Rattle.rank_range.specs.declared.kinds.Kind.{Kind}
use Rattle.rank_range.specs.declared.kinds.Kind.TheVariants.{Char, UnsignedChar, Short, UnsignedShort, Int, Unsigned, Long, UnsignedLong}
use Rattle.rank_range.specs.declared.operators.Unary.{Unary}
use Rattle.rank_range.specs.declared.operators.Unary.TheVariants.{Negate, Complement}
use Rattle.rank_range.specs.declared.operators.Binary.{Binary}
use Rattle.rank_range.specs.declared.operators.Binary.TheVariants as op
use Rattle.vm_code.specs.declared.instr.Instr.{Instr}
use Rattle.vm_code.specs.declared.instr.Instr.TheVariants as instr

-- a number in six digits, or in as many as it has where these are more
abbrev pub six_digits : ℕ → List ℕ
six_digits n = drop (length (decimal n)) (codes "000000") ++ decimal n

-- how a number lies in memory: its sign, and its bytes
abbrev pub access_name : Kind → List ℕ
access_name Char = codes "s1"
access_name UnsignedChar = codes "u1"
access_name Short = codes "s2"
access_name UnsignedShort = codes "u2"
access_name Int = codes "s4"
access_name Unsigned = codes "u4"
access_name Long = codes "w8"
access_name UnsignedLong = codes "w8"

-- in which kind an operator works
abbrev pub kind_name : Kind → List ℕ
kind_name Char = codes "i1"
kind_name UnsignedChar = codes "u1"
kind_name Short = codes "i2"
kind_name UnsignedShort = codes "u2"
kind_name Int = codes "i4"
kind_name Unsigned = codes "u4"
kind_name Long = codes "i8"
kind_name UnsignedLong = codes "u8"

abbrev pub binary_name : Binary → List ℕ
binary_name op.Add = codes "add"
binary_name op.Subtract = codes "sub"
binary_name op.Multiply = codes "mul"
binary_name op.Divide = codes "div"
binary_name op.Remainder = codes "rem"
binary_name op.And = codes "and"
binary_name op.Or = codes "or"
binary_name op.Xor = codes "xor"
binary_name op.ShiftLeft = codes "shl"
binary_name op.ShiftRight = codes "shr"
binary_name op.Equal = codes "eq"
binary_name op.NotEqual = codes "ne"
binary_name op.Less = codes "lt"
binary_name op.AtMost = codes "le"

abbrev pub unary_name : Unary → List ℕ
unary_name Negate = codes "neg"
unary_name Complement = codes "not"

-- a word behind a space
abbrev pub behind_space : List ℕ → List ℕ
behind_space word = codes " " ++ word

abbrev pub number_word : ℕ → List ℕ
number_word n = behind_space (decimal n)

-- its name, and its operands
abbrev pub spelled : Instr → List ℕ
spelled (instr.Push value) = codes "push" ++ number_word value
spelled instr.Pop = codes "pop"
spelled instr.Dup = codes "dup"
spelled (instr.Local offset) = codes "local" ++ number_word offset
spelled (instr.Global offset) = codes "global" ++ number_word offset
spelled (instr.Load kind) = codes "load" ++ behind_space (access_name kind)
spelled (instr.Store kind) = codes "store" ++ behind_space (access_name kind)
spelled (instr.Copy count) = codes "copy" ++ number_word count
spelled (instr.Zero count) = codes "zero" ++ number_word count
spelled (instr.Binary op kind) = binary_name op ++ behind_space (kind_name kind)
spelled (instr.Unary op kind) = unary_name op ++ behind_space (kind_name kind)
spelled (instr.Extend kind) = codes "ext" ++ behind_space (access_name kind)
spelled (instr.Jump place) = codes "jump" ++ number_word place
spelled (instr.JumpIfZero place) = codes "jz" ++ number_word place
spelled (instr.JumpIfNot place) = codes "jnz" ++ number_word place
spelled (instr.Tick unit line) = codes "tick" ++ number_word unit ++ number_word line
spelled (instr.Call function arguments) = codes "call" ++ number_word function ++ number_word arguments
spelled (instr.Library call arguments) = codes "lib" ++ behind_space (lib_name call) ++ number_word arguments
spelled (instr.Mpi call arguments second) = codes "mpi" ++ behind_space (mpi_name call) ++ number_word arguments
spelled instr.Return = codes "ret"

abbrev pub listing_line : ℕ → Instr → List ℕ
listing_line number i = six_digits number ++ codes " " ++ spelled i ++ codes "\n"

-- the lines of instructions, numbered from that number on
abbrev pub listing_from : ℕ → List Instr → List ℕ
listing_from number [] = []
listing_from number (i ∷ is) = listing_line number i ++ listing_from (suc number) is
