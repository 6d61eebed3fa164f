-- `code_images::reading::state_in` meets its contract: each part of the state from the bytes of its section.
use Prim.Native.Nat.{ℕ}
use mathlib.Core.Path.{◌≡◌, ap, ◌∙◌}
use mathlib.Core.List.{List}
use lib.ListN.{get_or, drop}
use Rattle.base_bytes.specs.Bytes.{un}
use Rattle.spec_kernel.specs.declared.records.Semaphore.{Semaphore}
use Rattle.spec_kernel.specs.declared.records.Event.{Event}
use Rattle.spec_kernel.specs.declared.records.Kernel.{Kernel}
use Rattle.spec_kernel.specs.Records.{fresh}
use Rattle.spec_moves.specs.declared.parts.Threads.{Threads}
use Rattle.spec_moves.specs.declared.parts.Posts.{Posts}
use Rattle.spec_moves.specs.Standing.{threads_of, posts_of}
use Rattle.spec_moves.specs.States.{state_of}
use Rattle.spec_calls.specs.declared.call.Call.{Call}
use Rattle.spec_notes.specs.Notes.{section_count, scheduler_in, threads_in, semaphores_in, events_in, flags_in, messages_in}
use Rattle.spec_notes.specs.Frames.{sections_at}
use Rattle.spec_notes.specs.Back.{semaphores_before, events_before, threads_back, posts_back}
use Rattle.spec_images.specs.Images.{no_call, no_threads, no_semaphores, fresh_events, no_posts, state_from}
use Rattle.code_images.proofs.reading.state_in.Goals as goal

-- ---- the state that the parts make, of the bytes of their sections: there is no call, and nothing is told against the fresh state
module _ (x : List (List ℕ)) {c : Call} {none : Kernel} (e : c ≡ no_call) (f : none ≡ fresh) where
  threads_told : {old t : Threads} {s : List ℕ} → old ≡ threads_of none → s ≡ threads_in x → t ≡ threads_back c old s
      → t ≡ threads_back no_call no_threads (threads_in x)
  unfolding fresh
  threads_told {old = old} {s = s} o b t =
      t ∙ ap (λ z. threads_back z old s) e ∙ ap (λ z. threads_back no_call z s) (o ∙ ap threads_of f) ∙ ap (threads_back no_call no_threads) b

  semaphores_told : {l : List Semaphore} {s : List ℕ} → s ≡ semaphores_in x → l ≡ semaphores_before c none.semaphores s
      → l ≡ semaphores_before no_call no_semaphores (semaphores_in x)
  unfolding fresh
  semaphores_told {s = s} b l =
      l ∙ ap (λ z. semaphores_before z none.semaphores s) e ∙ ap (λ (z : Kernel). semaphores_before no_call z.semaphores s) f
      ∙ ap (semaphores_before no_call no_semaphores) b

  events_told : {l : List Event} {s rest : List ℕ} → s ≡ events_in x → rest ≡ drop 4 s → l ≡ events_before none.events rest
      → l ≡ events_before fresh_events (drop 4 (events_in x))
  unfolding fresh
  events_told {rest = rest} b d l =
      l ∙ ap (λ (z : Kernel). events_before z.events rest) f ∙ ap (events_before fresh_events) (d ∙ ap (drop 4) b)

  posts_told : {m : Posts} {s : List ℕ} → s ≡ messages_in x → m ≡ posts_back c 255 (posts_of none) s
      → m ≡ posts_back no_call 255 no_posts (messages_in x)
  unfolding fresh
  posts_told {s = s} b m =
      m ∙ ap (λ z. posts_back z 255 (posts_of none) s) e ∙ ap (λ (z : Kernel). posts_back no_call 255 (posts_of z) s) f
      ∙ ap (posts_back no_call 255 no_posts) b

together : (x : List (List ℕ)) {t : Threads} {m : Posts} {semaphores : List Semaphore} {events : List Event}
    {bits uptime u v runner flags : ℕ} {ss es fs : List ℕ}
    → ss ≡ scheduler_in x
    → es ≡ events_in x
    → fs ≡ flags_in x
    → t ≡ threads_back no_call no_threads (threads_in x)
    → semaphores ≡ semaphores_before no_call no_semaphores (semaphores_in x)
    → events ≡ events_before fresh_events (drop 4 (events_in x))
    → bits ≡ un 4 es
    → flags ≡ un 2 fs
    → m ≡ posts_back no_call 255 no_posts (messages_in x)
    → uptime ≡ un 4 ss
    → u ≡ get_or ss 4 0
    → v ≡ get_or ss 5 0
    → runner ≡ get_or ss 6 0
    → state_of t semaphores events bits flags m uptime u v runner ≡ state_from x
unfolding state_from
together x ss es fs threads semaphores events bits flags posts uptime u v runner =
    rw (threads, semaphores, events, bits, flags, posts, uptime, u, v, runner, ss, es, fs)

pub returns : goal.returns
returns c =
    let x : List (List ℕ) = sections_at section_count c.behind-all.result.now in
    let e = c.no_call-c.ensures in
    let f = c.fresh-none.ensures in
    let es = c.section_of-events.ensures in
    together x c.section_of-scheduler.ensures es c.section_of-4.ensures
    (threads_told x e f c.threads_of-nobody.ensures c.section_of.ensures c.threads_back-t.ensures)
    (semaphores_told x e f c.section_of-3.ensures c.semaphores_before.ensures)
    (events_told x e f es c.behind.ensures c.events_before.ensures)
    c.number_at.ensures
    c.flags_in.ensures
    (posts_told x e f c.section_of-2.ensures c.posts_back-m.ensures)
    c.number_at-2.ensures
    c.byte_at.ensures
    c.byte_at-2.ensures
    c.byte_at-3.ensures
    ∙ ap (λ s. state_from (sections_at section_count s)) c.behind-all.ensures
