use Rattle.codegen.proofs.Needing.{number_count, pointer_count}
use Rattle.codegen.proofs.need.count_need.Goals as goal

pub returns-in-Number : goal.returns-in-Number
returns-in-Number c n is = number_count _ _ n _ _ c.in-Number.is is c.max.ensures

pub returns-in-Pointer : goal.returns-in-Pointer
returns-in-Pointer c n is = pointer_count _ _ n _ _ c.in-Pointer.is is c.max-in-Pointer.ensures
