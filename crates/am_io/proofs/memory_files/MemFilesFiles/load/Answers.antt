use Rattle.std.proofs.Common.{◌≡◌, ℕ, List, true, false, arith, Some, Ok, Err, Result}
use Rattle.std.specs.Prelude.{IsErrOf, IsOkUnless}
use Rattle.am_io.specs.declared.files.LoadError.{LoadError}
use Rattle.am_io.specs.declared.files.LoadError.TheVariants.{Failed, Memory}
use Rattle.am_io.specs.Memory.{MemFilesState, is_among, is_refused}
use Rattle.am_io.specs.Contents.{file_of}
use Rattle.am_io.proofs.memory_files.MemFilesFiles.load.Goals as goal

-- neither test of a load holds
not_refused : (s : MemFilesState) (name bytes : List ℕ)
    → is_among s.failing s.calls ≡ false → Some bytes ≡ file_of s.files name → is_refused s name ≡ true → ⊥
not_refused s name bytes a f t = grind arith

-- the one error of a result excludes another
only : {T : Type 0} (r : Result T LoadError) → IsErrOf r Failed → IsOkUnless r Memory → ⊥
only (Ok v) e h = cc
only (Err Failed) e h = cc
only (Err Memory) e h = cc

pub returns-clause-refused : goal.returns-clause-refused
returns-clause-refused c = (
  λ e. absurd (only _ e c.copy_within.ensures.sure),
  λ t. absurd (not_refused c.args.self.now c.args.name.now c.in-Some.bytes.now (grind arith) (grind arith) t),
)
