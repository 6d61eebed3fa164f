-- A note, put one part behind the other as the code does, and how long it can be.
use Prim.Native.Nat.{ℕ, ◌+◌, ◌≤◌, min}
use mathlib.Core.Path.{◌≡◌, ◌∙◌}
use mathlib.Core.List.{List, append-nil}
use native.Mathlib.Omega.{arith}
use lib.ListN.{length, length-append}
use Rattle.base_bytes.specs.Bytes.{le}
use Rattle.base_bytes.specs.Pens.{Pen, pen, puts}
use Rattle.base_bytes.proofs.Numbers.{length_le}
use Rattle.base_bytes.proofs.Writing.{front_written, puts_append}
use Rattle.spec_kernel.specs.declared.records.Kernel.{Kernel}
use Rattle.spec_calls.specs.Calls.{call_of}
use Rattle.spec_notes.specs.Sections.{scheduler_section, threads_section, semaphores_section, events_section}
use Rattle.spec_notes.specs.Sections.{flags_section, messages_section}
use Rattle.spec_notes.specs.Notes.{section, before_length, note_of, longest_note}
use Rattle.spec_notes.proofs.EntriesShort.{scheduler_short, threads_below, semaphores_below, events_below, flags_below, messages_below}
use Rattle.spec_notes.proofs.Lengths.{note_length}

module _ (k : Kernel) (bytes : List ℕ) (k' : Kernel) where
  pub parts_put : (p : Pen) → let c = call_of bytes in
      puts (puts (puts (puts (puts (puts (puts p bytes) (section (scheduler_section k c k'))) (section (threads_section k c k')))
      (section (semaphores_section k c k'))) (section (events_section k c k'))) (section (flags_section k c k')))
      (section (messages_section k c k'))
      ≡ puts p (before_length k bytes k')
  unfolding before_length
  parts_put p = simp (append-nil, puts_append)

  module _ (sixteen : length bytes ≡ 16) where
    pub note_short : length (note_of k bytes k') ≤ longest_note
    note_short =
        let c = call_of bytes in
        let all = note_length k bytes k' sixteen in
        omega (
          arith,
          scheduler_short k c k',
          threads_below k c k',
          semaphores_below k c k',
          events_below k c k',
          flags_below k c k',
          messages_below k c k',
        )

    -- a front and its length behind it are the note: m and n from the front's writer, q from the number's
    pub note_closed : (l m : List ℕ) (n : ℕ) (q : Pen) → longest_note ≤ length l → pen m n ≡ puts (pen l 0) (before_length k bytes k')
        → q ≡ puts (pen m n) (le 2 (min n longest_note + 2)) → q ≡ puts (pen l 0) (note_of k bytes k')
    unfolding note_of
    note_closed l m n q room e f =
        let front = before_length k bytes k' in
        let short : length front + 2 ≤ longest_note = rw (length-append, length_le) at note_short in
        let (z, _) = front_written l m front n e (omega (arith, short, room)) in
        let w : min n longest_note + 2 ≡ length front + 2 = omega (arith, z, short) in
        f ∙ rw (e, w, puts_append)
