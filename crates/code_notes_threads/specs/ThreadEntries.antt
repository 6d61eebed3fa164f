-- One entry of the threads' section, of the records and queues that the code holds.
use Rattle.std.specs.Prelude.{ℕ, cond, List, [], ltb}
use Rattle.base_queue.specs.declared.Queue.{Queue}
use Rattle.base_queue.specs.Tables.{old_place}
use Rattle.base_queue.specs.Queues.{items}
use Rattle.spec_kernel.specs.declared.records.Thread.{Thread}
use Rattle.spec_calls.specs.declared.call.Call.{Call}
use Rattle.spec_notes.specs.Touched.{changed_thread}
use Rattle.spec_notes.specs.Sections.{thread_noted}

-- the entry of one that is touched, of its two records, else nothing; an id above 255 is nobody's
unfoldable pub entry_in : Call → ℕ → Queue → Queue → Thread → Thread → ℕ → List ℕ
entry_in c runner places time before after t =
    cond (ltb 255 t) []
    (cond (changed_thread t runner c before after) (thread_noted t c before (old_place t (items places)) (old_place t (items time)) after) [])
