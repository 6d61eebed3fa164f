-- The records from i on, and that what is read of the threads' section fits.
use Prim.Native.Nat.{ℕ, ◌+◌, ◌^◌, ◌<◌}
use mathlib.Core.Path.{◌≡◌}
use mathlib.Core.Bool.{cond, not, ◌&&◌, ◌||◌}
use mathlib.Core.List.{List, [], ◌∷◌, map}
use native.Mathlib.Numerals.{add-one}
use native.Mathlib.Omega.{arith}
use lib.Dec.{eqb, ltb}
use lib.ListN.{length, get_or, drop}
use lib.Seq.{drop-cons}
use borrow.Table.Steps.{cases}
use Rattle.base_rows.specs.Rows.{cut, fitted, Fit}
use Rattle.base_rows.specs.Entries.{row_in}
use Rattle.base_rows.proofs.Fitted.{Bytes}
use Rattle.spec_kernel.specs.declared.records.Thread.{Thread}
use Rattle.spec_kernel.specs.Conditions.{is_ready}
use Rattle.spec_calls.specs.declared.call.Call.{Call}
use Rattle.spec_refusals.specs.Refusals.{is, is_one_of}
use Rattle.spec_notes.specs.Rows.{condition_data, thread_widths}
use Rattle.spec_notes.specs.Predicted.{was_blocked, blocks, data_now, predicted_thread}
use Rattle.spec_notes.proofs.ThreadsBack.{wake_below}
use Rattle.code_notes_entries.proofs.Fits.{below, read_fits}

-- the records from i on, one after another
pub map_next : {A B : Type 0} (f : A → B) (d : A) (l : List A) (i : ℕ) → i < length l
    → map f (drop i l) ≡ f (get_or l i d) ∷ map f (drop (i + 1) l)
map_next f d l i h = rw (add-one, drop-cons l i d h)

-- ---- what is predicted fits its widths
-- a thread whose fields are as wide as their types
abbrev pub Typed : Thread → Type 0
Typed r = (r.priority < 256) × (r.first < 256) × (condition_data r.condition < 65536) × (r.ticks < 4294967296) × (r.reply < 256)

-- an id is cut to the field of its code
data_fit : (c : Call) (r : Thread) (code : ℕ) → c.a < 256 → condition_data r.condition < 65536
    → cond (ltb 2 code) (cond (is_one_of c (19 ∷ 28 ∷ 34 ∷ [])) c.a (data_now code r.condition)) 0 < 256 ^ cond (eqb code 5) 2 1
data_fit c r code a d =
    cases (eqb code 5)
    (λ e. rw e (below (ltb 2 code) _ 0 65536 (below (is_one_of c (19 ∷ 28 ∷ 34 ∷ [])) c.a _ _ (omega arith) d) (omega arith)))
    (λ e. rw e (below (ltb 2 code) _ 0 256 (below (is_one_of c (19 ∷ 28 ∷ 34 ∷ [])) c.a _ _ a (omega arith)) (omega arith)))

predicted_fit : (c : Call) (r : Thread) (code : ℕ) → c.a < 256 → Typed r → Fit (thread_widths code) (predicted_thread c r code)
unfolding predicted_thread
predicted_fit c r code a (p, f, d, t, y) =
    let priority = below (eqb code 0) 0 _ 256 (omega arith) p in
    let first = below (eqb code 0) 0 _ 256 (omega arith) f in
    let woken = was_blocked code && is_ready r in
    let what = data_fit c r code a d in
    let left = below (was_blocked code) _ 0 4294967296 (below (is c 1) 1 _ _ (omega arith) t) (omega arith) in
    let wake = below woken 0 _ 256 (omega arith) (below (blocks code r) 1 _ _ (omega arith) (wake_below r.wake)) in
    let reply = below (eqb code 0) 0 _ 256 (omega arith) (below (not r.live || woken) 255 _ _ (omega arith) y) in
    let listed = below (eqb code 1 || eqb code 3 || eqb code 4 || eqb code 6) 0 255 256 (omega arith) (omega arith) in
    let place = below (is c 34) 1 _ 256 (omega arith) listed in
    let due = below (eqb code 2 || (is c 1 && was_blocked code)) 0 255 256 (omega arith) (omega arith) in
    (priority, (first, (what, (left, (wake, (reply, (place, (due, tt))))))))

pub cut_thread : (code : ℕ) → cut (thread_widths code) ≡ thread_widths code
unfolding cut
cut_thread code = cases (eqb code 5) (λ e. rw e) (λ e. rw e)

-- so the row that is read fits, and is all there as far as its widths go
pub row_fitted : (c : Call) (r : Thread) (code head : ℕ) (s : List ℕ) → c.a < 256 → Typed r → Bytes s
    → fitted (thread_widths code) (row_in (cut (thread_widths code)) (predicted_thread c r code) head s)
    ≡ row_in (thread_widths code) (predicted_thread c r code) head s
row_fitted c r code head s a y h = read_fits (thread_widths code) _ head s (cut_thread code) h (predicted_fit c r code a y)
