-- `code_answers::recorded` meets its contract: the sections one behind the other are the note, and what the writer leaves is the log.
use Prim.Native.Nat.{ℕ, ◌≤◌}
use mathlib.Core.Path.{◌≡◌, sym, ap, ◌∙◌}
use mathlib.Core.List.{List}
use native.Mathlib.Omega.{arith}
use lib.ListN.{length, take, replicate, length-replicate}
use lib.Seq.{length-take-le}
use Rattle.base_bytes.specs.Pens.{pen, puts}
use Rattle.base_bytes.specs.Logs.{noted, ends}
use Rattle.spec_kernel.specs.declared.records.Kernel.{Kernel}
use Rattle.spec_kernel.specs.Sizes.{thread_count}
use Rattle.spec_calls.specs.Calls.{call_of}
use Rattle.spec_refusals.specs.Refusals.{number_of}
use Rattle.spec_notes.specs.Notes.{before_length, note_of, longest_note}
use Rattle.code_notes.proofs.BeforeLength.{note_closed, note_short}
use Rattle.code_notes.proofs.Sizes.{composed}
use Rattle.spec_answers.specs.declared.Answer.{Answer}
use Rattle.spec_answers.specs.declared.Logged.{Logged}
use Rattle.spec_answers.specs.Steps.{next_state}
use Rattle.spec_answers.specs.Logs.{logged, state_after, recorded, log_after}
use Rattle.spec_answers.specs.Promises.{AnsweredUntested}
use Rattle.spec_answers.proofs.WithLogs.{answers_untested}
use Rattle.spec_answers.proofs.FromTypes.{of_types, is_record}
use Rattle.code_answers.proofs.Numbers.{number_by, value_by}
use Rattle.code_answers.proofs.Recording.{ends_refused, Left, left}
use Rattle.code_answers.proofs.Sections.{one_by_one}
use Rattle.code_answers.proofs.recorded.Goals as goal
use Rattle.code_answers.proofs.recorded.Goals.{After-number_of-number, After-put_end-size, After-put_message_part-sixth, After-write-end, Start}

-- what is promised of the definition's result
promised : (s : Start) (r : Logged) (log' : List ℕ)
    → (let a = s.args in
    (r ≡ recorded a.k a.bytes a.log.now a.used) × (log' ≡ log_after a.k a.bytes a.log.now a.used))
    → (let a = s.args in AnsweredUntested a.k a.bytes a.log.now a.used r log')
promised s r log' (e, f) =
    let a = s.args in
    let T = of_types a.k _ s.well_formed.0 in
    rw (e, f) (answers_untested a.k a.bytes a.log.now a.used T (is_record a.bytes _ s.well_formed.1.0))

-- the call's number, by the bytes
number : (c : After-number_of-number)
    → let a = c.args in c.number_of-number.result ≡ number_of a.k (call_of a.bytes)
number c =
    let a = c.args in
    number_by a.k _ (call_of a.bytes) _ c.named_by-n.ensures c.call_of-c.ensures c.number_of-number.ensures

pub returns-then-number-ne0 : goal.returns-then-number-ne0
returns-then-number-ne0 c =
    let a = c.args in
    let (r, l) = ends_refused a.k a.bytes a.log.now a.used _ (number (goal.at.returns-then-number-ne0 c).After-number_of-number) c.if-number-ne0.true in
    promised (goal.at.returns-then-number-ne0 c).Start _ _ (c.refused.ensures ∙ r, l)

-- ---- and what they gave
abbrev kernel : After-put_message_part-sixth → Kernel
kernel c = c.args.k

abbrev record-bytes : After-put_message_part-sixth → List ℕ
record-bytes c = c.args.bytes

abbrev next : After-put_message_part-sixth → Kernel
next c = c.next_state-next.result

-- the call is accepted, and leads to the next state
accepts : (c : After-put_message_part-sixth) → number_of (kernel c) (call_of (record-bytes c)) ≡ 0
accepts c =
    sym (number_by (kernel c) _ (call_of (record-bytes c)) _ c.named_by-n.ensures c.call_of-c.ensures c.number_of-number.ensures)
    ∙ c.if-number-ne0.false

leads : (c : After-put_message_part-sixth) → next c ≡ state_after (kernel c) (record-bytes c)
leads c = c.next_state-next.ensures ∙ ap (next_state (kernel c)) c.call_of-c.ensures

-- the record and the sections, one behind the other
sections : (c : After-put_message_part-sixth)
    → pen c.put_message_part-sixth.new.log c.put_message_part-sixth.result
    ≡ puts (pen (replicate longest_note 0) 0) (before_length (kernel c) (record-bytes c) (next c))
sections c =
    let every : length c.args.k.threads ≡ thread_count = c.well_formed.0.1.1.0.1.0.1 in
    one_by_one (kernel c) (next c) (record-bytes c) _ c.named_by-n.result _ _ _ _ _ _ _ every
    (accepts c)
    c.call_of-c.ensures c.named_by-n.ensures (leads c) c.put_start-first.ensures
    c.put_thread_part-second.ensures c.put_semaphore_part-third.ensures c.put_event_part-fourth.ensures
    c.put_flag_part-fifth.ensures c.put_message_part-sixth.ensures

-- what the buffer holds then is the note
composed_note : (c : After-put_end-size)
    → pen c.put_message_part-sixth.new.log c.put_message_part-sixth.result
    ≡ puts (pen (replicate longest_note 0) 0) (before_length c.args.k c.args.bytes c.next_state-next.result)
    → (c.put_end-size.result ≤ length c.put_end-size.new.log)
    × (take c.put_end-size.result c.put_end-size.new.log ≡ note_of c.args.k c.args.bytes c.next_state-next.result)
composed_note c parts =
    let k = c.args.k in
    let bytes = c.args.bytes in
    let u = c.next_state-next.result in
    let sixteen : length bytes ≡ 16 = c.well_formed.1.0.1.0.1 in
    let room : longest_note ≤ length {A = ℕ} (replicate longest_note 0) = rw length-replicate (omega arith) in
    let e = note_closed k bytes u sixteen (replicate longest_note 0) _ _ _ room parts c.put_end-size.ensures in
    let short = note_short k bytes u sixteen in
    let w = composed (replicate longest_note 0) _ _ _ e (rw length-replicate (omega (arith, short))) in
    (w.0, w.1)

pub slice_bounds-buffer-end : goal.slice_bounds-buffer-end
slice_bounds-buffer-end c =
    let at = goal.at.slice_bounds-buffer-end c in
    (composed_note at.After-put_end-size (sections at.After-put_message_part-sixth)).0

pub slice_bounds-write-end : goal.slice_bounds-write-end
slice_bounds-write-end c =
    let at = goal.at.slice_bounds-write-end c in
    sym (length-take-le _ _ (composed_note at.After-put_end-size (sections at.After-put_message_part-sixth)).0)

-- what the writer leaves, by the bytes
written : (c : After-write-end)
    → (let a = c.args in let u = c.next_state-next.result in
    take c.put_end-size.result c.put_end-size.new.log ≡ note_of a.k a.bytes u → number_of a.k (call_of a.bytes) ≡ 0
    → u ≡ state_after a.k a.bytes
    → Left a.k a.bytes a.log.now c.write-end.new.log a.used c.write-end.result c.named_by-n.result.found u)
written c noted_so accepted led =
    let k = c.args.k in
    let bytes = c.args.bytes in
    let sixteen : length bytes ≡ 16 = c.well_formed.1.0.1.0.1 in
    let n = note_of k bytes c.next_state-next.result in
    let w : (c.write-end.new.log ≡ noted c.args.log.now c.args.used n)
    × (c.write-end.result ≡ ends c.args.log.now c.args.used n) =
    rw (← noted_so) c.write-end.ensures in
    left k bytes c.args.log.now _ c.args.used _ _ _ sixteen accepted
    (value_by k _ (call_of bytes) _ c.named_by-n.ensures c.call_of-c.ensures) led w

pub returns-then-end-used : goal.returns-then-end-used
returns-then-end-used c =
    let at = goal.at.returns-then-end-used c in
    let p = at.After-put_message_part-sixth in
    let l = written at.After-write-end (composed_note at.After-put_end-size (sections p)).1 (accepts p) (leads p) in
    promised at.Start _ _
    (ap (λ (x : Answer). logged x (kernel p) c.args.used) c.given-answer.ensures ∙ l.no_room_lem c.if-end-used.true, l.log_after_lem)

pub returns : goal.returns
returns c =
    let at = goal.at.returns c in
    let p = at.After-put_message_part-sixth in
    let l = written at.After-write-end (composed_note at.After-put_end-size (sections p)).1 (accepts p) (leads p) in
    promised at.Start _ _
    (ap (λ (x : Answer). logged x (next p) c.write-end.result) c.given-answer.ensures ∙ l.with_room c.if-end-used.false, l.log_after_lem)
