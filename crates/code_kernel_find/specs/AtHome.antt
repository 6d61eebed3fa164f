-- The first thread of a list or queue.
use Rattle.std.specs.Prelude.{ℕ, List, eqb, get_or}
use Rattle.base_queue.specs.declared.Queue.{Queue}
use Rattle.base_queue.specs.Lists.{keep, first_of}
use Rattle.base_queue.specs.Queues.{items}
use Rattle.spec_kernel.specs.declared.records.Thread.{Thread}
use Rattle.spec_kernel.specs.Records.{no_thread}
use Rattle.spec_kernel.specs.Places.{home_of}

-- the first of those whose home is h, or 255; `line` of the kernel, over the two arrays that it reads
unfoldable pub first_at_home : List Thread → Queue → ℕ → ℕ
first_at_home threads places h = first_of (keep (λ t. eqb (home_of (get_or threads t no_thread)) h) (items places))
