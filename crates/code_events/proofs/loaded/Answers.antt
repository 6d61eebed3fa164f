-- `code_events::loaded` meets its contract: the event is stored, and past the last one nothing is.
use mathlib.Core.Path.{◌≡◌}
use native.Mathlib.Omega.{arith}
use lib.ListN.{length}
use lib.Seq.{set_out}
use borrow.Author.Rules.{rules}
use Rattle.spec_kernel.specs.Sizes.{event_count}
use Rattle.spec_events.specs.Events.{load_event}
use Rattle.code_events.proofs.loaded.Goals as goal

pub returns-then-c-lt-EVENT_IDS : goal.returns-then-c-lt-EVENT_IDS
unfolding load_event
returns-then-c-lt-EVENT_IDS c = search rules

pub returns-else-c-lt-EVENT_IDS : goal.returns-else-c-lt-EVENT_IDS
unfolding load_event
returns-else-c-lt-EVENT_IDS c =
    let k = c.args.k in
    let e : length k.events ≡ event_count = c.well_formed.0.1.1.1.1.0.1.0.1 in
    rw (set_out k.events c.args.c.a _ (omega arith))
