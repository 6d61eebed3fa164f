-- On an end state that keeps its rules the test that looks only at what a note speaks of finds what the whole one finds.
use Prim.Native.Nat.{ℕ, ◌≤◌}
use mathlib.Core.Path.{◌≡◌, refl, sym, ap, ◌∙◌}
use mathlib.Core.Bool.{Bool, true, false, not, ◌&&◌, ◌||◌, and-true, and-false, false≢true}
use mathlib.Core.List.{List, [], ◌∷◌}
use native.Mathlib.Omega.{arith}
use lib.Dec.{eqb}
use lib.ListN.{length}
use borrow.Author.Tests.{eqb-true}
use borrow.Table.Steps.{cases}
use Rattle.base_queue.specs.Lists.{is_empty}
use Rattle.spec_kernel.specs.declared.records.Kernel.{Kernel}
use Rattle.spec_rules.specs.Rules.{Sized, Rules}
use Rattle.spec_rules.specs.Tests.{keeps_rules, keeps_asked}
use Rattle.spec_rules.proofs.Exactly.{rules_mean, rules_hold}
use Rattle.spec_rules.specs.declared.tests.Asked.{Asked}
use Rattle.spec_rules.proofs.Asked.{Unasked, by_third, asked_means}
use Rattle.spec_moves.specs.Standing.{threads_of, posts_of}
use Rattle.spec_moves.specs.States.{scheduled}
use Rattle.spec_calls.specs.declared.call.Call.{Call}
use Rattle.spec_calls.specs.Calls.{call_of}
use Rattle.spec_refusals.specs.Refusals.{is, number_of}
use Rattle.proof_rules.proofs.Ends.{before}
use Rattle.spec_effects.specs.Effects.{effect}
use Rattle.spec_notes.specs.Touched.{same_row}
use Rattle.spec_notes.specs.Notes.{threads_in, semaphores_in, events_in, flags_in, messages_in, note_of}
use Rattle.spec_notes.specs.Frames.{frames_of, sections_in}
use Rattle.spec_notes.specs.Same.{same_kernel, same_asked}
use Rattle.spec_notes.specs.Undo.{has_last, last_note, Yields}
use Rattle.spec_notes.specs.Undoes.{call_bytes, back_from, is_decoded, levels_fit, yields_again, undoes_note, undoes}
use Rattle.spec_notes.specs.Undoes.{asked_by, yields_asked, undoes_note_kept, undoes_kept}
use Rattle.spec_notes.specs.Within.{Within, AreBytes}
use Rattle.spec_notes.proofs.RecordsBack.{same_row_lem}
use Rattle.spec_notes.proofs.SameStates.{same_asked_lem}
use Rattle.spec_notes.proofs.Unnoted.{threads_unnoted, semaphores_unnoted, events_unnoted, posts_unnoted, flags_unnoted}
use Rattle.spec_notes.proofs.Limits.{limits_within}
use Rattle.spec_notes.proofs.Yields.{yields_kept, yields_back}
use Rattle.spec_notes.proofs.Undoing.{found_sized, found_limits, record_size, record_bytes, last_bytes, last_sizes}

-- who isn't asked for has no section, and the call is of no kind that needs none
none_there : (l : List ℕ) → not (is_empty l) ≡ false → l ≡ []
none_there [] h = refl
none_there (x ∷ l) h = absurd (false≢true (sym h))

no_kind_lem : (c : Call) (n : ℕ) (l : List ℕ) → (is c n || not (is_empty l)) ≡ false → (is c n ≡ false) × (l ≡ [])
no_kind_lem c n l h = cases (is c n) (λ e. absurd (false≢true (sym (rw e at h)))) (λ e. (e, none_there l (rw e at h)))

module _ (k' : Kernel) (note : List ℕ) (Z : Sized k') (R : Rules k') (W : Within k') (B : AreBytes note) (long : 16 ≤ length note) where
  abbrev bytes : List ℕ
  bytes = call_bytes note

  abbrev c : Call
  c = call_of bytes

  abbrev x : List (List ℕ)
  x = sections_in (frames_of note)

  abbrev k : Kernel
  k = back_from k' note

  abbrev next : Kernel
  next = scheduled (effect k c)

  abbrev asked : Asked
  asked = asked_by c x

  -- of an end state that the note leads back from to k, what isn't asked for is as in k
  unasked : (u : Kernel) → Sized u → Rules u → back_from u note ≡ k → Unasked asked k u
  unfolding back_from
  unasked u Z R e =
      record {
        threads = λ h. let (o, none) = no_kind_lem c 1 (threads_in x) h in ap threads_of (sym e) ∙ threads_unnoted c u x Z R o none;
        semaphores =
            λ h. let (o, none) = no_kind_lem c 1 (semaphores_in x) h in
            ap (λ (v : Kernel). v.semaphores) (sym e) ∙ semaphores_unnoted c u x o none;
        events =
            λ h. let (records, bits) = events_unnoted c u x (none_there (events_in x) h) in
            (ap (λ (v : Kernel). v.events) (sym e) ∙ records, ap (λ (v : Kernel). v.bits) (sym e) ∙ bits);
        messages = λ h. ap posts_of (sym e) ∙ posts_unnoted c u x Z R (none_there (messages_in x) h);
        flags =
            λ h. let (o, none) = no_kind_lem c 32 (flags_in x) h in ap (λ (v : Kernel). v.flags) (sym e) ∙ flags_unnoted c u x o none;
      }

  asked_rules : keeps_asked asked k ≡ keeps_rules k
  asked_rules = asked_means k' k (rules_hold k' Z R) (unasked k' Z R refl)

  -- the call run again yields its own note, and leads back by it
  module _ (l : levels_fit k ≡ true) (r : keeps_rules k ≡ true) (n : number_of k c ≡ 0) (e : same_row (note_of k bytes next) note ≡ true) where
    again : Yields k bytes next note
    again =
        let Z₀ = found_sized k' note Z R W B in
        let R₀ = rules_mean k Z₀ r in
        record {
          sized = Z₀;
          inside = limits_within (before k Z₀ R₀) (found_limits k' note Z R W B l);
          rules = R₀;
          sixteen = record_size k' note Z R W B long;
          small = record_bytes k' note Z R W B;
          accepted = n;
          state = refl;
          noted = same_row_lem (note_of k bytes next) note e;
        }

    asked_same : same_asked asked next k' ≡ same_kernel next k'
    unfolding back_from
    asked_same =
        let (Zₙ, Rₙ, _, _) = yields_kept again in
        let b : back_from next note ≡ k = yields_back again in
        same_asked_lem next k' (by_third (unasked next Zₙ Rₙ b) (unasked k' Z R refl))

  pub note_kept : undoes_note_kept k' note ≡ undoes_note k' note
  unfolding undoes_note_kept undoes_note yields_asked yields_again
  note_kept =
      cases (is_decoded (frames_of note))
      (λ d. cases (levels_fit k)
      (λ l. cases (keeps_rules k)
      (λ r. cases (eqb (number_of k c) 0)
      (λ n. cases (same_row (note_of k bytes next) note)
      (λ e. rw (d, l, asked_rules, r, n, e, asked_same l r (eqb-true (number_of k c) 0 n) e, and-true))
      (λ e. rw (d, l, asked_rules, r, n, e, and-false)))
      (λ n. rw (d, l, asked_rules, r, n)))
      (λ r. rw (d, l, asked_rules, r)))
      (λ l. rw (d, l)))
      (λ d. rw d)

-- ---- the last note of a log
pub undoes_kept_lem : (log : List ℕ) (used : ℕ) (k' : Kernel) → Sized k' → Rules k' → Within k' → AreBytes log
    → undoes_kept k' log used ≡ undoes k' log used
unfolding undoes_kept undoes
undoes_kept_lem log used k' Z R W B =
    cases (has_last log used)
    (λ h. let s = last_sizes log used h in
    rw h (note_kept k' (last_note log used) Z R W (last_bytes log used B) (omega arith)))
    (λ h. rw h)
