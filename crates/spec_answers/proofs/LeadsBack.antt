-- Demand 3 over many: after any calls, and any mix of calls and undos, the run follows the calls that count, and its notes lead back.
use Prim.Native.Nat.{ℕ, zero, suc, ◌+◌}
use mathlib.Core.Path.{◌≡◌, refl, sym, ap}
use mathlib.Core.Bool.{true}
use mathlib.Core.List.{List, [], ◌∷◌, ◌++◌, map, append-nil}
use native.Mathlib.Omega.{arith}
use lib.Dec.{eqb}
use lib.ListN.{length, take, drop, take-append-drop}
use lib.Seq.{length-take-le}
use borrow.Author.Tests.{eqb-true}
use borrow.Table.Steps.{cases}
use Rattle.spec_kernel.specs.declared.records.Kernel.{Kernel}
use Rattle.spec_rules.proofs.Exactly.{rules_hold}
use Rattle.spec_notes.proofs.Undoing.{state_found}
use Rattle.spec_answers.specs.Steps.{called}
use Rattle.spec_answers.specs.declared.Logged.{Logged}
use Rattle.spec_answers.specs.Logs.{note_for, undone, reached, one_more, many_by, undone_many}
use Rattle.spec_answers.specs.Runs.{Undamaged, AreRecords, replayed, Accepts, notes, back_times, Run, Follows, Step, call, undo}
use Rattle.spec_answers.specs.Runs.{AreSteps, after_all, counted, after_calls, accepted_of, accepted_from}
use Rattle.spec_answers.specs.Runs.{led_back, stood_at, undone_times, counting, given, after}
use Rattle.spec_answers.specs.Promises.{RunsFollow, LogLeadsBack, LogLeadsBackAtOnce, LedBetween, NotesLeadBack, AnyMix}
use Rattle.spec_answers.proofs.Following.{accepted_yields, replayed_kept, call_follows, run_kept}
use Rattle.spec_answers.proofs.Following.{undo_given, undo_follows, any_undo_follows}

-- at its start a run follows no calls
pub begun : (start : Run) → Follows start [] [] start
begun start =
    let e = sym (append-nil (take start.used start.log)) in
    record { earlier = tt; accepted = tt; state = refl; lent = refl; ends = omega arith; stands = e }

-- ---- over a log
module _ (start : Run) (gone : List (List ℕ)) where
  -- many calls keep that it follows the accepted ones,
  pub calls_follow : {calls : List (List ℕ)} {r : Run} (records : List (List ℕ)) → AreRecords records → Follows start gone calls r
      → Follows start gone (counted calls r (map call records)) (after_calls r records)
  calls_follow [] _ F = F
  calls_follow {calls = calls} {r = r} (bytes ∷ records) (b, bs) F =
      calls_follow {calls = counting calls (call bytes) (given r (call bytes)).answer.number} records bs
      (call_follows start gone bytes b F)

  module _ (K : Undamaged start.kernel) where
    -- and from an empty log calls and undos those that count
    pub steps_follow : {calls : List (List ℕ)} {r : Run} (steps : List Step) → start.used ≡ 0 → AreSteps steps
        → Follows start gone calls r → Follows start gone (counted calls r steps) (after_all r steps)
    steps_follow [] z _ F = F
    steps_follow {calls = calls} {r = r} (call bytes ∷ steps) z (b, bs) F =
        steps_follow {calls = counting calls (call bytes) (given r (call bytes)).answer.number} steps z bs
        (call_follows start gone bytes b F)
    steps_follow {calls = calls} {r = r} (undo ∷ steps) z bs F =
        steps_follow {calls = counting calls undo (given r undo).answer.number} steps z bs (any_undo_follows start gone K z F)

    -- to undo the notes of the later calls leads to where the others did
    pub times_undone : {r : Run} (calls later : List (List ℕ)) → Follows start gone (later ++ calls) r
        → undone_times (length later) r ≡ led_back (stood_at start gone calls r.log)
    times_undone calls [] F = rw (F.state, F.ends)
    times_undone calls (bytes ∷ []) F = undo_given start gone K F
    times_undone {r = r} calls (bytes ∷ next ∷ later) F =
        times_undone {r = after r undo} calls (next ∷ later) (undo_follows start gone K F)

    -- and so it does in one call
    pub many_undone : {r : Run} (calls later : List (List ℕ)) → Follows start gone (later ++ calls) r
        → many_by undone (length later) r.kernel r.log r.used
        ≡ reached (led_back (stood_at start gone calls r.log)) (length later)
    many_undone calls [] F = rw (F.state, F.ends)
    many_undone {r = r} calls (bytes ∷ later) F =
        let z : eqb (undone r.kernel r.log r.used).answer.number 0 ≡ true =
        ap (λ (x : Logged). eqb x.answer.number 0) (undo_given start gone K F) in
        rw z
        (ap one_more (many_undone {r = after r undo} calls later (undo_follows start gone K F)))

pub runs_follow : RunsFollow
unfolding RunsFollow
runs_follow start records b = calls_follow start [] records b (begun start)

pub any_mix : AnyMix
unfolding AnyMix
any_mix start steps U z b = steps_follow start [] U steps z b (begun start)

pub log_leads_back : LogLeadsBack
unfolding LogLeadsBack RunsFollow
log_leads_back start records j U b h =
    let l = accepted_of start records in
    let F = rw (← take-append-drop j l) at (runs_follow start records b) in
    rw (length-take-le j l h) at (times_undone start [] U (drop j l) (take j l) F)

pub log_leads_back_at_once : LogLeadsBackAtOnce
unfolding LogLeadsBackAtOnce RunsFollow undone_many
log_leads_back_at_once start records j U b h =
    let l = accepted_of start records in
    let r : Run = after_calls start records in
    let F = rw (← take-append-drop j l) at (runs_follow start records b) in
    let K = run_kept start [] U F in
    rw (rules_hold r.kernel K.types.sized K.rules)
    (rw (length-take-le j l h) at (many_undone start [] U (drop j l) (take j l) F))

pub led_between : LedBetween
unfolding LedBetween RunsFollow
led_between start earlier later U b c =
    let between : Run = after_calls start earlier in
    let K = run_kept start [] U (runs_follow start earlier b) in
    let F = rw (← append-nil (accepted_of between later)) at (runs_follow between later c) in
    let u : between.used + 0 ≡ between.used = omega arith in
    rw u at (times_undone between [] K [] (accepted_of between later) F)

-- ---- over notes
-- who comes and is accepted is accepted in its turn
accepts_from : (k : Kernel) (calls records : List (List ℕ)) → AreRecords records → Accepts k calls
    → Accepts k (accepted_from k calls records)
accepts_from k calls [] _ A = A
accepts_from k calls (bytes ∷ records) (b, bs) A =
    let n = (called (replayed k calls) bytes).answer.number in
    cases (eqb n 0) (λ e. rw e (accepts_from k (bytes ∷ calls) records bs (b, eqb-true n 0 e, A)))
    (λ e. rw e (accepts_from k calls records bs A))

lead_back : (k : Kernel) (calls : List (List ℕ)) (j : ℕ) → Undamaged k → Accepts k calls
    → back_times j (replayed k calls) (notes k calls) ≡ replayed k (drop j calls)
lead_back k calls zero K A = refl
lead_back k [] (suc j) K A = refl
lead_back k (bytes ∷ calls) (suc j) K (b, a, A) =
    let q = replayed k calls in
    rw (state_found (replayed k (bytes ∷ calls)) (note_for q bytes) (accepted_yields q bytes (replayed_kept k calls K A) b a))
    (lead_back k calls j K A)

pub notes_lead_back : NotesLeadBack
unfolding NotesLeadBack
notes_lead_back k records j U b = lead_back k (accepted_from k [] records) j U (accepts_from k [] records b tt)
