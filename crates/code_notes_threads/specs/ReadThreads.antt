-- What the code holds of the threads' section that is read back.
use Rattle.std.specs.Prelude.{ℕ, set}
use Rattle.spec_kernel.specs.declared.records.Thread.{Thread}
use Rattle.spec_notes.specs.Back.{Threading}
use Rattle.code_notes_threads.specs.declared.thread_back.Threading as code

-- the code's threads, as the definitions have them
abbrev pub meant_threads : code.Threading → Threading
meant_threads a = record { threads = a.threads; out = a.out; at = a.at; due = a.due }

-- thread t has the record r, and stood at these places
abbrev pub with_marks : ℕ → Thread → ℕ → ℕ → Threading → Threading
with_marks t r place due a =
    record { threads = set a.threads t r; out = set a.out t 1; at = set a.at place t; due = set a.due due t }
