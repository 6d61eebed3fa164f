-- `code_rules::told::of_messages` meets its contract: of the m messages passed `kept`, the set and the keys tell, and the rest decides.
use lib.ListN.{get_or}
use Rattle.base_bits.specs.Sets.{Tells}
use Rattle.base_queue.specs.Lists.{every_from}
use Rattle.base_tables.specs.Taken.{Keys}
use Rattle.spec_kernel.specs.Records.{no_message}
use Rattle.spec_kernel.specs.Places.{is_queued, stream_of}
use Rattle.spec_rules.specs.Tests.{message_kept}
use Rattle.code_rules.proofs.Loops.{Sweep}
use Rattle.code_rules.proofs.told.of_messages.Given as goal

abbrev pub invariant-loop-i : goal.invariant-loop-i
invariant-loop-i l =
    Sweep (every_from (λ _ r. message_kept l.threads r) 0 l.messages) l.kept (message_kept l.threads) l.messages l.i
    × Tells l.queued l.i (λ x. is_queued (get_or l.messages x no_message))
    × Keys l.streams l.i (λ x. stream_of (get_or l.messages x no_message))
