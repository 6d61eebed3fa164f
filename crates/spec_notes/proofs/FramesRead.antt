-- A note's frame reads back: its call record and its sections; and the last note of a log is found.
use Prim.Native.Nat.{ℕ, ◌+◌, ◌-◌, ◌≤◌, ◌<◌}
use mathlib.Core.Path.{◌≡◌, refl, sym, ◌∙◌}
use mathlib.Core.Bool.{true}
use mathlib.Core.List.{List, [], ◌∷◌, ◌++◌, append_assoc}
use native.Mathlib.Omega.{arith}
use lib.ListN.{length, take, drop, length-append}
use lib.Seq.{take_at, drop_at, drop-drop, take-append_seam, drop-append_seam}
use borrow.Author.Tests.{le-leb}
use Rattle.base_bytes.specs.Bytes.{le, un}
use Rattle.base_bytes.proofs.Numbers.{length_le, drop_le, un_le}
use Rattle.spec_kernel.specs.declared.records.Kernel.{Kernel}
use Rattle.spec_calls.specs.Calls.{call_of}
use Rattle.spec_notes.specs.Sections.{scheduler_section, threads_section, semaphores_section, events_section}
use Rattle.spec_notes.specs.Sections.{flags_section, messages_section}
use Rattle.spec_notes.specs.Notes.{section, framed, sections_of, before_length, note_of, least_note}
use Rattle.spec_notes.specs.Frames.{sections, is_whole, first_section, behind_section, sections_at, are_whole, section_bytes, frames_of}
use Rattle.spec_notes.specs.Undo.{last_length, has_last, last_note}
use Rattle.spec_notes.proofs.EntriesShort.{scheduler_short, threads_below, semaphores_below, events_below, flags_below}
use Rattle.spec_notes.proofs.EntriesShort.{messages_below}
use Rattle.spec_notes.proofs.Lengths.{note_length}

-- ---- one section
module _ (s rest : List ℕ) (b : length s < 65536) where
  abbrev bytes : List ℕ
  bytes = section s ++ rest

  size : un 2 bytes ≡ length s
  size = rw append_assoc (un_le 2 (length s) (s ++ rest) b)

  past : drop 2 bytes ≡ s ++ rest
  past = rw append_assoc (drop_le 2 (length s) (s ++ rest))

  whole : is_whole bytes ≡ true
  unfolding is_whole
  whole = rw size (le-leb (2 + length s) (length bytes) (simp (length-append, length_le) (omega arith)))

  first : first_section bytes ≡ s
  unfolding first_section
  first = rw (size, past) (take-append_seam s rest)

  behind : behind_section bytes ≡ rest
  unfolding behind_section
  behind = rw (size, ← drop-drop (length s) 2 bytes, past) (drop-append_seam s rest)

-- ---- any sections that are not too long for their two bytes
pub data Short : List (List ℕ) → Type 0 where
  none : Short []
  more : {s : List ℕ} {rest : List (List ℕ)} → length s < 65536 → Short rest → Short (s ∷ rest)

pub sections_back : {x : List (List ℕ)} → Short x → sections_at (length x) (framed x) ≡ x
unfolding sections_at
sections_back none = refl
sections_back (more {s} {rest} b h) = rw (first s (framed rest) b, behind s (framed rest) b, sections_back h)

pub whole_back : {x : List (List ℕ)} → Short x → are_whole (length x) (framed x) ≡ true
unfolding are_whole
whole_back none = refl
whole_back (more {s} {rest} b h) = rw (whole s (framed rest) b, behind s (framed rest) b, whole_back h)

-- between sixteen bytes and two
between : (bytes middle end : List ℕ) → length bytes ≡ 16 → length end ≡ 2 → section_bytes ((bytes ++ middle) ++ end) ≡ middle
unfolding section_bytes
between bytes middle end h e =
    let n : length middle ≡ length ((bytes ++ middle) ++ end) - 2 - 16 = simp length-append (omega arith) in
    rw (← n, append_assoc, drop_at bytes (middle ++ end) 16 h) (take-append_seam middle end)

-- ---- the note
module _ (k : Kernel) (bytes : List ℕ) (k' : Kernel) (h : length bytes ≡ 16) where
  short : Short (sections_of k (call_of bytes) k')
  short =
      let c = call_of bytes in
      more {s = scheduler_section k c k'} (omega (arith, scheduler_short k c k'))
      (more {s = threads_section k c k'} (omega (arith, threads_below k c k'))
      (more {s = semaphores_section k c k'} (omega (arith, semaphores_below k c k'))
      (more {s = events_section k c k'} (omega (arith, events_below k c k'))
      (more {s = flags_section k c k'} (omega (arith, flags_below k c k'))
      (more {s = messages_section k c k'} (omega (arith, messages_below k c k')) none)))))

  pub frames_back : frames_of (note_of k bytes k') ≡ sections (sections_of k (call_of bytes) k')
  unfolding frames_of note_of before_length
  frames_back = rw (between bytes (framed (sections_of k (call_of bytes) k')) _ h (length_le 2 _), whole_back short, sections_back short)

  pub record_back : take 16 (note_of k bytes k') ≡ bytes
  unfolding note_of before_length
  record_back = rw append_assoc (take_at bytes _ 16 h)

  -- no note is shorter than the least, and its length fits its two bytes
  pub note_sizes : (least_note ≤ length (note_of k bytes k')) × (length (note_of k bytes k') < 65536)
  note_sizes =
      let c = call_of bytes in
      let all = note_length k bytes k' h in
      omega (
        arith,
        scheduler_short k c k',
        threads_below k c k',
        semaphores_below k c k',
        events_below k c k',
        flags_below k c k',
        messages_below k c k',
      )

  front_size : length (note_of k bytes k') ≡ length (before_length k bytes k') + 2
  unfolding note_of
  front_size = rw (length-append, length_le)

  -- ---- the last note of a log
  module _ (earlier rest : List ℕ) where
    abbrev log : List ℕ
    log = earlier ++ (note_of k bytes k' ++ rest)

    abbrev used : ℕ
    used = length earlier + length (note_of k bytes k')

    split : log ≡ (earlier ++ before_length k bytes k') ++ (le 2 (length (before_length k bytes k') + 2) ++ rest)
    unfolding note_of
    split = simp append_assoc

    last_length_lem : last_length log used ≡ length (note_of k bytes k')
    unfolding last_length
    last_length_lem =
        let f = front_size in
        let (_, small) = note_sizes in
        let e : used - 2 ≡ length (earlier ++ before_length k bytes k') = rw length-append (omega arith) in
        rw (e, split, drop-append_seam) (un_le 2 (length (before_length k bytes k') + 2) rest (omega arith) ∙ sym f)

    has_last_lem : has_last log used ≡ true
    unfolding has_last
    has_last_lem =
        let (low, _) = note_sizes in
        let n = length (note_of k bytes k') in
        let l : used ≤ length log = simp length-append (omega arith) in
        rw (last_length_lem, le-leb 2 used (omega arith), le-leb used (length log) l, le-leb least_note n low, le-leb n used (omega arith))

    pub last_back : last_note log used ≡ note_of k bytes k'
    unfolding last_note
    last_back =
        let e : used - length (note_of k bytes k') ≡ length earlier = omega arith in
        rw (has_last_lem, last_length_lem, e, drop-append_seam) (take-append_seam (note_of k bytes k') rest)
