-- The tests of `keeps_asked` in the groups that the code goes through; the runner's is the last.
use Rattle.std.specs.Prelude.{Bool, List, [], ◌∷◌}
use Rattle.spec_kernel.specs.declared.records.Kernel.{Kernel}
use Rattle.spec_rules.specs.declared.tests.Asked.{Asked}
use Rattle.spec_rules.specs.Tests.{places_kept, time_kept, posted_kept, threads_kept, semaphores_kept, messages_kept}
use Rattle.spec_rules.specs.Tests.{if_asked, conditions_asked, owners_asked}

abbrev pub thread_tests : Asked → Kernel → List Bool
thread_tests asked k =
    if_asked asked.semaphores (semaphores_kept k)
    ∷ if_asked (conditions_asked asked) (threads_kept k)
    ∷ if_asked asked.threads (places_kept k)
    ∷ if_asked asked.threads (time_kept k)
    ∷ []

abbrev pub message_tests : Asked → Kernel → List Bool
message_tests asked k = if_asked (owners_asked asked) (messages_kept k) ∷ if_asked asked.messages (posted_kept k) ∷ []
