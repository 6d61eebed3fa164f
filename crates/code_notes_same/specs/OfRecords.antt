-- The tests of `same_asked` in two parts: the four kinds of records, and what else a state has.
use Rattle.std.specs.Prelude.{Bool, List, [], ◌∷◌}
use Rattle.spec_kernel.specs.declared.records.Kernel.{Kernel}
use Rattle.spec_rules.specs.declared.tests.Asked.{Asked}
use Rattle.spec_rules.specs.Tests.{if_asked}
use Rattle.spec_notes.specs.Touched.{same_thread, same_semaphore, same_event, same_message}
use Rattle.spec_notes.specs.Same.{same_all, same_queue, same_numbers}

abbrev pub of_records : Asked → Kernel → Kernel → List Bool
of_records asked a b =
    if_asked asked.threads (same_all same_thread a.threads b.threads)
    ∷ if_asked asked.semaphores (same_all same_semaphore a.semaphores b.semaphores)
    ∷ if_asked asked.events (same_all same_event a.events b.events)
    ∷ if_asked asked.messages (same_all same_message a.messages b.messages)
    ∷ []

abbrev pub of_others : Asked → Kernel → Kernel → List Bool
of_others asked a b =
    if_asked asked.threads (same_queue a.places b.places)
    ∷ if_asked asked.threads (same_queue a.time b.time)
    ∷ if_asked asked.messages (same_queue a.posted b.posted)
    ∷ same_numbers a b
    ∷ []
