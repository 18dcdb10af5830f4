use Rattle.nb_conns.proofs.tcp.Tcp.take_back.Goals as goal

pub returns : goal.returns
returns c = rw c.deref_mut.ensures.value at c.take_lent.ensures
