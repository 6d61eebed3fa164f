-- `base_queue::place_of` meets its contract: the search gives the place, and where it finds nothing the length stands for it.
use Rattle.base_queue.specs.Queues.{items}
use Rattle.base_queue.proofs.Lists.{place_found}
use Rattle.base_queue.proofs.place_of.Goals as goal

pub returns : goal.returns
returns c = rw (c.unwrap_or.ensures, c.position.ensures, c.size.ensures) (place_found c.args.x (items c.args.q))
