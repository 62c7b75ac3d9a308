use Rattle.std.proofs.Common.{◌≡◌, ◌∙◌, ap, take}
use Rattle.byteorder.specs.Endian.{little_bytes}
use Rattle.mpi_types.proofs.ReduceLemmas.{take-bytes_low_first}
use Rattle.mpi_types.proofs.reduce.append_element.Goals as goal

pub returns : goal.returns
returns c =
    let e : take c.args.size c.to_le_bytes-bytes.result ≡ little_bytes c.args.size c.args.element =
    ap (take c.args.size) c.to_le_bytes-bytes.ensures ∙ take-bytes_low_first c.args.size 8 0 c.args.element c.requires.high in
    rw (← e) c.append.ensures.ok
