-- `code_notes_back::state_back::before_at` meets its contract: each part of the state from the bytes of its section.
use Prim.Native.Nat.{ℕ}
use mathlib.Core.Path.{◌≡◌}
use mathlib.Core.List.{List}
use Rattle.spec_kernel.specs.declared.records.Semaphore.{Semaphore}
use Rattle.spec_kernel.specs.declared.records.Event.{Event}
use Rattle.spec_kernel.specs.declared.records.Kernel.{Kernel}
use Rattle.spec_moves.specs.declared.parts.Threads.{Threads}
use Rattle.spec_moves.specs.declared.parts.Posts.{Posts}
use Rattle.spec_moves.specs.Standing.{threads_of, posts_of}
use Rattle.spec_moves.specs.States.{state_of}
use Rattle.spec_calls.specs.declared.call.Call.{Call}
use Rattle.spec_notes.specs.Notes.{section_count, threads_in, semaphores_in, events_in, flags_in, messages_in}
use Rattle.spec_notes.specs.Frames.{sections_at}
use Rattle.spec_notes.specs.Back.{semaphores_before, events_before, bits_before, flags_before, earlier, threads_back, posts_back, before_at}
use Rattle.code_notes_back.proofs.state_back.before_at.Goals as goal

-- the state that the parts make, of the bytes of their sections
together : (c : Call) (k : Kernel) (x : List (List ℕ)) (u v runner : ℕ) {old t : Threads} {m : Posts}
    {semaphores : List Semaphore} {events : List Event} {bits uptime flags : ℕ} {ts ss es ms fs : List ℕ}
    → old ≡ threads_of k
    → ts ≡ threads_in x
    → ss ≡ semaphores_in x
    → es ≡ events_in x
    → ms ≡ messages_in x
    → fs ≡ flags_in x
    → t ≡ threads_back c old ts
    → m ≡ posts_back c k.runner (posts_of k) ms
    → semaphores ≡ semaphores_before c k.semaphores ss
    → events ≡ events_before k.events es
    → bits ≡ bits_before c k.bits es
    → uptime ≡ earlier c k.uptime
    → flags ≡ flags_before c k.flags fs
    → state_of t semaphores events bits flags m uptime u v runner ≡ before_at c k x u v runner
unfolding before_at
together c k x u v runner old ts ss es ms fs threads posts semaphores events bits uptime flags =
    rw (threads, posts, semaphores, events, bits, uptime, flags, old, ts, ss, es, ms, fs)

pub returns : goal.returns
returns c =
    let a = c.args in
    together a.c a.k (sections_at section_count a.s.now) a.u a.v a.runner
    c.threads_of.ensures
    c.section_of.ensures
    c.section_of-3.ensures
    c.section_of-bytes.ensures
    c.section_of-2.ensures
    c.section_of-4.ensures
    c.threads_back-t.ensures
    c.posts_back-m.ensures
    c.semaphores_before.ensures
    c.events_before.ensures
    c.bits_before.ensures
    c.earlier.ensures
    c.flags_before.ensures
