-- The events' section, read back: the bits and the events.
use Prim.Native.Nat.{ℕ, suc, ◌≤◌, ◌<◌}
use mathlib.Core.Path.{◌≡◌, refl, sym, ap, ◌∙◌}
use mathlib.Core.Bool.{Bool, false, not, cond}
use mathlib.Core.List.{List, ◌++◌}
use mathlib.Core.Logic.{⊎_elim}
use native.Mathlib.Nat.{le_refl, le-suc}
use native.Mathlib.Omega.{arith}
use lib.Dec.{eqb}
use lib.ListN.{length, get_or, set, drop}
use borrow.Author.Tests.{eqb-true, eqb-false, ne_eqb, not-false}
use borrow.Table.Steps.{cases}
use Rattle.base_rows.specs.Rows.{flags_of}
use Rattle.base_rows.specs.Entries.{head_of, id_of, own_in, read_entries}
use Rattle.base_rows.proofs.EntriesRead.{id_back}
use Rattle.spec_kernel.specs.declared.records.Event.{Event}
use Rattle.spec_kernel.specs.declared.records.Kernel.{Kernel}
use Rattle.spec_kernel.specs.Sizes.{event_count}
use Rattle.spec_kernel.specs.Records.{event, no_event}
use Rattle.spec_rules.specs.Rules.{Sized}
use Rattle.spec_calls.specs.declared.call.Call.{Call}
use Rattle.spec_notes.specs.Rows.{event_row, event_widths}
use Rattle.spec_notes.specs.Touched.{touched_event}
use Rattle.spec_notes.specs.Predicted.{predicted_event}
use Rattle.spec_notes.specs.Sections.{event_entry, event_entries, bit_noted, events_section}
use Rattle.spec_notes.specs.Back.{event_read, bit_changed, bits_before, events_before}
use Rattle.spec_notes.specs.Within.{Within}
use Rattle.spec_notes.specs.LeftAlone.{LeftAlone}
use Rattle.spec_notes.proofs.RowsBack.{Fit, field, unused, entry_row, entry_rest}
use Rattle.spec_notes.proofs.RecordsBack.{flag_below, event_back, same_event_lem}
use Rattle.spec_notes.proofs.EntriesBack.{read_part, first_other, records_back}

module _ (k : Kernel) (c : Call) (k' : Kernel) where
  abbrev touched : ℕ → Bool
  touched = touched_event k c k'

  abbrev entry : ℕ → List ℕ
  entry = event_entry k.events k'.events

  abbrev entries : ℕ → List ℕ
  entries n = event_entries k.events k'.events 0 n

  -- a section tells whether a bit changed, and the entries come next
  abbrev Opening : List ℕ → ℕ → Type 0
  Opening s n =
      (bit_changed s ≡ not (eqb k.bits k'.bits)) × (drop (cond (bit_changed s) 1 0) s ≡ entries n) × (length (entries n) ≤ length s)

  -- no head is 8
  not_eight : (i : ℕ) → i < 8 → head_of i 0 0 (flags_of (event_row (event k i)) (predicted_event (event k' i))) ≡ 8 → ⊥
  unfolding id_of
  not_eight i b e = let z = sym (id_back i 0 0 (flags_of (event_row (event k i)) (predicted_event (event k' i))) (omega arith)) ∙ ap id_of e in
      omega arith

  opens_at : (n : ℕ) → n ≤ 8 → Opening (bit_noted k.bits k'.bits ++ entries n) n
  unfolding touched_event
  opens_at n b =
      cases (eqb k.bits k'.bits)
      (λ e. let other = first_other touched entry (λ _. refl) 8 8 (λ z. omega arith) not_eight 0 n (omega arith) in
      rw (e, ne_eqb (get_or (entries n) 0 0) 8 other) (refl, refl, le_refl _))
      (λ e. rw e (refl, refl, le-suc _))

  opens : Opening (events_section k c k') event_count
  unfolding events_section
  opens = opens_at event_count (omega arith)

  pub bits_back : LeftAlone k c k' → bits_before c k'.bits (events_section k c k') ≡ k.bits
  unfolding bits_before
  bits_back F =
      rw opens.0
      (cases (eqb k.bits k'.bits) (λ e. rw e (sym (eqb-true k.bits k'.bits e)))
      (λ e. rw e (⊎_elim (λ is. absurd (eqb-false k.bits k'.bits e is)) sym F.bits)))

  module _ (W : Within k) where
    -- what an entry gives
    abbrev step : ℕ → List Event → List Event
    step i a = set a i (event k i)

    fits : (i : ℕ) → Fit event_widths (event_row (event k i)) (predicted_event (event k' i))
    fits i = field (λ _. flag_below (event k i).any) (field (λ _. W.mask i) (field (λ _. W.values i) (unused 5)))

    next : (n i : ℕ) (rest : List ℕ) (a : List Event) → i < 64
        → read_entries (own_in event_widths) (event_read k'.events) (suc n) (entry i ++ rest) a
        ≡ read_entries (own_in event_widths) (event_read k'.events) n rest (step i a)
    unfolding read_entries event_read
    next n i rest a b = rw (id_back i 0 0 _ b, entry_rest i 0 0 rest (fits i), entry_row i 0 0 rest (fits i), event_back)

    module _ (Z : Sized k) (Z' : Sized k') where
      untouched : (i : ℕ) → touched i ≡ false → event k' i ≡ event k i
      unfolding touched_event
      untouched i h = sym (same_event_lem (event k i) (event k' i) (not-false _ h))

      pub events_back : events_before k'.events (events_section k c k') ≡ k.events
      unfolding events_before touched_event
      events_back =
          ap (λ (s : List ℕ). read_entries (own_in event_widths) (event_read k'.events) (length (events_section k c k')) s k'.events)
          opens.1
          ∙ read_part (own_in event_widths) (event_read k'.events) touched entry step (λ _. refl) next (λ a. a) step
          (λ _ _. refl) _ event_count _ (omega arith) opens.2
          ∙ records_back touched no_event event_count k.events k'.events Z.events Z'.events (λ i _ e. untouched i e)
