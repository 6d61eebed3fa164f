-- An undo is accepted exactly where an earlier state and a call lead to this end state with this note [01, table: number 15].
use Prim.Native.Nat.{ℕ, zero, suc, ◌+◌, ◌-◌, ◌≤◌, ◌<◌}
use mathlib.Core.Path.{◌≡◌, sym, ap, ◌∙◌}
use mathlib.Core.Bool.{Bool, true, false, cond, and-true, and-eq-true_iff}
use mathlib.Core.List.{List, []}
use mathlib.Core.Logic.{◌↔◌}
use native.Mathlib.Omega.{arith}
use lib.Dec.{eqb, ltb}
use lib.ListN.{length, get_or, drop, length-take, length-drop}
use lib.Seq.{length-take-le}
use borrow.Author.Tests.{eqb-true, eq-eqb, ltb-true, lt-ltb, leb-true}
use borrow.Table.Steps.{cases}
use Rattle.base_bits.specs.Words.{bit_at}
use Rattle.base_bits.proofs.Laws.{with_small, without_small}
use Rattle.base_bytes.specs.Bytes.{un}
use Rattle.base_queue.specs.Lists.{is_empty}
use Rattle.spec_kernel.specs.declared.records.Kernel.{Kernel}
use Rattle.spec_rules.specs.Rules.{Sized, Rules}
use Rattle.spec_rules.proofs.Exactly.{rules_mean, rules_hold}
use Rattle.spec_calls.specs.declared.call.Call.{Call}
use Rattle.spec_calls.specs.Calls.{call_of}
use Rattle.spec_refusals.specs.Refusals.{is, number_of}
use Rattle.spec_moves.specs.States.{scheduled}
use Rattle.spec_effects.specs.Effects.{effect}
use Rattle.proof_rules.proofs.Ends.{before}
use Rattle.spec_effects.proofs.RulesKept.{rules_kept}
use Rattle.spec_notes.specs.Notes.{section_count, threads_in, semaphores_in, events_in, flags_in, messages_in, note_of, least_note}
use Rattle.spec_notes.specs.Predicted.{predicted_flags}
use Rattle.spec_notes.specs.Back.{bit_changed, bits_before, flags_before, earlier, threads_back, posts_back, before_at, state_before}
use Rattle.spec_notes.specs.Within.{Within}
use Rattle.spec_notes.specs.Frames.{nothing, sections, first_section, behind_section}
use Rattle.spec_notes.specs.Frames.{sections_at, are_whole, section_bytes, frames_of, sections_in}
use Rattle.spec_notes.specs.Undo.{last_length, has_last, last_note, Yields}
use Rattle.spec_notes.specs.Undoes.{call_bytes, back_from, is_decoded, levels_fit, yields_again, undoes_note, undoes}
use Rattle.spec_notes.proofs.Limits.{Limits, limits_within}
use Rattle.spec_notes.proofs.RecordsBack.{same_row_lem}
use Rattle.spec_notes.proofs.Slight.{row_same}
use Rattle.spec_notes.proofs.SameStates.{kernel_same, same_exactly}
use Rattle.base_rows.proofs.Fitted.{Bytes, drop_bytes, take_bytes}
use Rattle.spec_notes.proofs.AnyNote.{threads_any, threads_sized, semaphores_any, semaphores_sized_lem}
use Rattle.spec_notes.proofs.AnyNote.{events_any, events_sized_lem, messages_any, messages_sized, back_full}
use Rattle.spec_notes.proofs.FlagsBack.{predicted_small}
use Rattle.spec_notes.proofs.FramesRead.{frames_back, note_sizes}
use Rattle.spec_notes.proofs.Yields.{yields_call, yields_back}

-- ---- the bytes of the sections
abbrev pub SmallSections : List (List ℕ) → Type 0
SmallSections x = (i : ℕ) → Bytes (get_or x i [])

pub sections_bytes : (n : ℕ) (s : List ℕ) → Bytes s → SmallSections (sections_at n s)
unfolding sections_at first_section behind_section
sections_bytes zero s h i = λ j. omega arith
sections_bytes (suc n) s h zero = take_bytes (un 2 s) (drop 2 s) (drop_bytes 2 s h)
sections_bytes (suc n) s h (suc i) = sections_bytes n _ (drop_bytes (2 + un 2 s) s h) i

chosen_sections : (b : Bool) (x : List (List ℕ)) → SmallSections x → SmallSections (sections_in (cond b (sections x) nothing))
chosen_sections true x h = h
chosen_sections false x h = λ i j. omega arith

frames_bytes : (note : List ℕ) → Bytes note → SmallSections (sections_in (frames_of note))
unfolding frames_of section_bytes
frames_bytes note h =
    let s = section_bytes note in
    chosen_sections (are_whole section_count s) (sections_at section_count s)
    (sections_bytes section_count s (take_bytes (length note - 2 - 16) (drop 16 note) (drop_bytes 16 note h)))

-- ---- the state that is put back
module _ (c : Call) (k' : Kernel) (x : List (List ℕ)) (Z : Sized k') (W : Within k') (S : SmallSections x) where
  back_sized : Sized (state_before c k' x)
  unfolding state_before scheduled before_at threads_back posts_back
  back_sized =
      record {
        threads = threads_sized c k'.threads (λ t. (W.ticks t, W.priority t)) (threads_in x) ∙ Z.threads;
        semaphores = semaphores_sized_lem c k'.semaphores (λ i. (W.maximum i, W.left i, W.period i)) (semaphores_in x) ∙ Z.semaphores;
        events = events_sized_lem k'.events (λ i. (W.mask i, W.values i)) (events_in x) ∙ Z.events;
        messages =
            messages_sized c k'.runner k'.messages (λ m. (W.kind m, W.size m, W.address m, W.channel m)) (messages_in x)
            ∙ Z.messages;
        places = back_full _ _ k'.places;
        time = back_full _ _ k'.time;
        posted = back_full _ _ k'.posted;
        priorities = λ i. (threads_any c k'.threads (λ t. (W.ticks t, W.priority t)) (threads_in x) (S _) i).1;
        channels = λ i.
            (messages_any c k'.runner k'.messages (λ m. (W.kind m, W.size m, W.address m, W.channel m)) (messages_in x) (S _) i).3;
      }

  bits_small : bits_before c k'.bits (events_in x) < 4294967296
  unfolding bits_before
  bits_small =
      cases (bit_changed (events_in x))
      (λ e. rw e (cases (bit_at k'.bits c.a) (λ b. rw b (without_small k'.bits c.a W.bits)) (λ b. rw b (with_small k'.bits
      c.a W.bits))))
      (λ e. rw e W.bits)

  flags_small : flags_before c k'.flags (flags_in x) < 65536
  unfolding flags_before
  flags_small =
      let b = predicted_small c k'.flags W.flags in
      cases (is_empty (flags_in x)) (λ e. rw e b) (λ e. rw e (without_small (predicted_flags c k'.flags) _ b))

  earlier_small : earlier c k'.uptime < 4294967296
  earlier_small =
      let u = W.uptime in
      cases (is c 1)
      (λ e. rw e (cases (eqb k'.uptime 0) (λ z. rw z (omega arith)) (λ z. rw z (omega arith)))) (λ e. rw e u)

  back_limits : levels_fit (state_before c k' x) ≡ true → Limits (state_before c k' x)
  unfolding state_before scheduled before_at threads_back posts_back levels_fit
  back_limits h =
      let (u, v) = (and-eq-true_iff (ltb (state_before c k' x).unscheduled 256) (ltb (state_before c k' x).critical 256)).0 h in
      record {
        threads = λ i. (threads_any c k'.threads (λ t. (W.ticks t, W.priority t)) (threads_in x) (S _) i).0;
        semaphores = semaphores_any c k'.semaphores (λ i. (W.maximum i, W.left i, W.period i)) (semaphores_in x) (S _);
        events = events_any k'.events (λ i. (W.mask i, W.values i)) (events_in x) (S _);
        messages = λ i.
            let (a, b, d, _) =
            messages_any c k'.runner k'.messages (λ m. (W.kind m, W.size m, W.address m, W.channel m)) (messages_in x) (S _) i in
            (a, b, d);
        bits = bits_small;
        flags = flags_small;
        scheduler = (earlier_small, ltb-true _ 256 u, ltb-true _ 256 v);
      }

-- ---- one note
module _ (k' : Kernel) (note : List ℕ) where
  -- a state and a call that yield it are those that it gives back
  module _ {k : Kernel} {bytes : List ℕ} (Y : Yields k bytes k' note) where
    record_found : call_bytes note ≡ bytes
    unfolding call_bytes
    record_found = yields_call Y

    pub state_found : back_from k' note ≡ k
    unfolding back_from
    state_found = rw record_found (yields_back Y)

    levels_found : levels_fit k ≡ true
    unfolding levels_fit
    levels_found = rw (lt-ltb k.unscheduled 256 Y.inside.unscheduled, lt-ltb k.critical 256 Y.inside.critical)

    yields_undone : undoes_note k' note ≡ true
    unfolding undoes_note yields_again
    yields_undone =
        let f : is_decoded (frames_of note) ≡ true = rw (← Y.noted, frames_back k bytes k' Y.sixteen) in
        rw (
          f,
          record_found,
          state_found,
          levels_found,
          rules_hold k Y.sized Y.rules,
          eq-eqb (number_of k (call_of bytes)) 0 Y.accepted,
          Y.state,
          kernel_same k',
          Y.noted,
          row_same note,
        )

  module _ (Z : Sized k') (R : Rules k') (W : Within k') (B : Bytes note) where
    pub found_sized : Sized (back_from k' note)
    unfolding back_from
    found_sized = back_sized (call_of (call_bytes note)) k' (sections_in (frames_of note)) Z W (frames_bytes note B)

    pub found_limits : levels_fit (back_from k' note) ≡ true → Limits (back_from k' note)
    unfolding back_from
    found_limits h = back_limits (call_of (call_bytes note)) k' (sections_in (frames_of note)) Z W (frames_bytes note B) h

    pub record_size : 16 ≤ length note → length (call_bytes note) ≡ 16
    unfolding call_bytes
    record_size b = length-take-le 16 note b

    pub record_bytes : Bytes (call_bytes note)
    unfolding call_bytes
    record_bytes = take_bytes 16 note B

    undone_yields : 16 ≤ length note → undoes_note k' note ≡ true → Yields (back_from k' note) (call_bytes note) k' note
    unfolding undoes_note yields_again
    undone_yields b h =
        let k = back_from k' note in
        let c = call_of (call_bytes note) in
        let (_, (l, (r, (n, (s, e))))) = simp (and-true, and-eq-true_iff) at h in
        let Z₀ = found_sized in
        let R₀ = rules_mean k Z₀ r in
        let n₀ = eqb-true (number_of k c) 0 n in
        let (Z₁, R₁) = rules_kept k c Z₀ R₀ n₀ in
        let s₀ = (same_exactly (scheduled (effect k c)) k').0 s in
        record {
          sized = Z₀;
          inside = limits_within (before k Z₀ R₀) (found_limits l);
          rules = R₀;
          sixteen = record_size b;
          small = record_bytes;
          accepted = n₀;
          state = s₀;
          noted = ap (note_of k (call_bytes note)) (sym s₀) ∙ same_row_lem (note_of k (call_bytes note) (scheduled (effect k c))) note e;
        }

-- ---- the last one of a log
module _ (log : List ℕ) (used : ℕ) where
  pub last_bytes : Bytes log → Bytes (last_note log used)
  unfolding last_note
  last_bytes h =
      let n = last_length log used in
      cases (has_last log used) (λ e. rw e (take_bytes n (drop (used - n) log) (drop_bytes (used - n) log h))) (λ e. rw e (λ i. omega arith))

  pub last_sizes : has_last log used ≡ true
      → (length (last_note log used) ≡ last_length log used) × (least_note ≤ last_length log used) × (last_length log used ≤ used)
  unfolding last_note has_last
  last_sizes h =
      let n = last_length log used in
      let (((_, b), c), d) = simp and-eq-true_iff at h in
      let b' = leb-true used (length log) b in
      let c' = leb-true least_note n c in
      let d' = leb-true n used d in
      (rw h (simp (length-take, length-drop) (omega arith)), c', d')

  last_none : has_last log used ≡ false → last_note log used ≡ []
  unfolding last_note
  last_none h = rw h

  -- a last note that a state and a call yield is there, and is undone
  module _ {k k' : Kernel} {bytes : List ℕ} (Y : Yields k bytes k' (last_note log used)) where
    pub yields_last : has_last log used ≡ true
    yields_last =
        cases (has_last log used) (λ e. e)
        (λ e. let (low, _) = note_sizes k bytes k' Y.sixteen in
        let z = ap length (Y.noted ∙ last_none e) in absurd (omega arith))

    pub yields_undoes : undoes k' log used ≡ true
    unfolding undoes
    yields_undoes = rw yields_last (yields_undone k' (last_note log used) Y)

  -- There is something to undo exactly where an earlier state and a call yield k' with the log's last note [01, table: number 15].
  pub undo_exactly : (k' : Kernel) → Sized k' → Rules k' → Within k' → Bytes log
      → (undoes k' log used ≡ true) ↔ ((k : Kernel) × (bytes : List ℕ) × Yields k bytes k' (last_note log used))
  unfolding undoes
  undo_exactly k' Z R W B = (
    λ h. let (a, b) = (and-eq-true_iff (has_last log used) (undoes_note k' (last_note log used))).0 h in
        let s = last_sizes a in (
          back_from k' (last_note log used),
          call_bytes (last_note log used),
          undone_yields k' (last_note log used) Z R W (last_bytes B) (omega arith) b,
        ),
    λ y. yields_undoes y.2,
  )
