-- The parts of a note, each put where the one before it ended, are together all of the note but its length.
use mathlib.Core.Path.{◌≡◌, ap, ◌∙◌}
use mathlib.Core.List.{List, ◌++◌}
use Prim.Native.Nat.{ℕ}
use lib.ListN.{length}
use Rattle.base_bytes.specs.Pens.{Pen, puts}
use Rattle.spec_kernel.specs.declared.records.Kernel.{Kernel}
use Rattle.spec_kernel.specs.Sizes.{thread_count}
use Rattle.spec_moves.specs.Standing.{threads_of, posts_of}
use Rattle.spec_calls.specs.declared.call.Call.{Call}
use Rattle.spec_calls.specs.Calls.{call_of}
use Rattle.spec_refusals.specs.declared.named.Named.{Named}
use Rattle.spec_refusals.specs.Named.{named}
use Rattle.spec_refusals.specs.Refusals.{number_of}
use Rattle.spec_notes.specs.Sections.{scheduler_section, thread_entries, semaphore_entries, bit_noted, event_entries}
use Rattle.spec_notes.specs.Predicted.{predicted_flags}
use Rattle.spec_notes.specs.Sections.{flags_noted, flags_section, message_entries}
use Rattle.spec_notes.specs.Notes.{section, before_length}
use Rattle.code_notes_spans.specs.Spans.{in_span, thread_span, semaphore_span, event_span, message_span}
use Rattle.code_notes_spans.proofs.SpansOfCalls.{Spanned, accepted_spanned, threads_in_lem, semaphores_in_lem, events_in_lem, messages_in_lem}
use Rattle.code_notes_spans.proofs.Waiters.{waiter_found}
use Rattle.code_notes.proofs.BeforeLength.{parts_put}
use Rattle.spec_answers.specs.Logs.{state_after}
use Rattle.code_answers.proofs.Numbers.{value_by}

-- x is the call as the code has it, n what it looked up; p is the pen at first, and then behind each part
pub one_by_one : (k u : Kernel) (bytes : List ℕ) (x : Call) (n : Named) (p p₁ p₂ p₃ p₄ p₅ p₆ : Pen)
    → length k.threads ≡ thread_count
    → number_of k (call_of bytes) ≡ 0 → x ≡ call_of bytes → n ≡ named k x → u ≡ state_after k bytes
    → p₁ ≡ puts (puts p bytes) (section (scheduler_section k x u))
    → p₂ ≡ puts p₁
    (section (in_span (thread_span x k.runner n.found n.waiter) (thread_entries x k.runner (threads_of k) u.threads)))
    → p₃ ≡ puts p₂ (section (in_span (semaphore_span x n.found) (semaphore_entries x k.semaphores u.semaphores)))
    → p₄ ≡ puts p₃ (section (bit_noted k.bits u.bits ++ in_span (event_span x) (event_entries k.events u.events)))
    → p₅ ≡ puts p₄ (section (flags_noted k.flags (predicted_flags x u.flags)))
    → p₆ ≡ puts p₅ (section (in_span (message_span x n.found) (message_entries x u.runner (posts_of k) u.messages)))
    → p₆ ≡ puts p (before_length k bytes u)
unfolding flags_section
one_by_one k u bytes x n p p₁ p₂ p₃ p₄ p₅ p₆ all z e f s g₁ g₂ g₃ g₄ g₅ g₆ =
    let c = call_of bytes in
    let looked : n ≡ named k c = f ∙ ap (named k) e in
    let S : Spanned k c n.found u = rw (value_by k x c n f e, s) (accepted_spanned k c all z) in
    rw (
      g₆,
      g₅,
      g₄,
      g₃,
      g₂,
      g₁,
      e,
      waiter_found k c n k.runner n.found looked,
      threads_in_lem k c u S,
      semaphores_in_lem k c u S,
      events_in_lem k c u S,
      messages_in_lem k c u S,
    )
    (parts_put k bytes u p)
