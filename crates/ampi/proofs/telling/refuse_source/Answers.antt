use Rattle.ampi.proofs.telling.refuse_source.Goals as goal

pub returns-in-Ok-clause-told : goal.returns-in-Ok-clause-told
returns-in-Ok-clause-told g c = λ words r journal explains.
    c.tell.ensures.told words r journal (rw (c.as_slice.ensures, c.in-Ok.ensures, c.number.ensures, c.from.ensures) explains)
