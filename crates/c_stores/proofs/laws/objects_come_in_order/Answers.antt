use Rattle.c_stores.proofs.OrderLemmas.{comes_in_order}
use Rattle.c_stores.proofs.laws.objects_come_in_order.Goals as goal

pub returns : goal.returns
returns c = comes_in_order
