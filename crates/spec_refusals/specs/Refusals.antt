-- The refusals, in the order of document 01's table, each number with its condition over all kinds. The conditions read the two levels,
-- who runs, the call, and what it names.
use Rattle.std.specs.Prelude.{ℕ, ◌+◌, Bool, false, not, cond, ◌&&◌, ◌||◌, List, [], ◌∷◌, eqb, ltb, leb}
use Rattle.spec_kernel.specs.declared.records.Kernel.{Kernel}
use Rattle.spec_kernel.specs.Sizes.{event_count, priority_count, channel_count, bit_count}
use Rattle.spec_kernel.specs.Places.{is_queued}
use Rattle.spec_calls.specs.declared.call.Call.{Call}
use Rattle.spec_calls.specs.declared.kinds.Which.TheVariants.{A, Bit}
use Rattle.spec_calls.specs.Kinds.{is_which, kind_of, names, is_known, unused_are_zero, from_interrupt, from_thread}
use Rattle.spec_refusals.specs.declared.named.Named.{Named}
use Rattle.spec_refusals.specs.Named.{named}

-- some of a list
abbrev pub some_of : List Bool → Bool
some_of [] = false
some_of (b ∷ l) = let r = some_of l in b || r

abbrev pub outside : ℕ → ℕ → ℕ → Bool
outside low high n = ltb n low || ltb high n

abbrev pub is : Call → ℕ → Bool
is c kind = eqb c.kind kind

-- the call's kind is one of these
abbrev pub is_one_of : Call → List ℕ → Bool
is_one_of c [] = false
is_one_of c (n ∷ l) = let r = is_one_of c l in is c n || r

abbrev pub in_region : ℕ → ℕ → Bool
in_region unscheduled critical = ltb 0 (unscheduled + critical)

-- 1: no call has this kind, or a field that the kind doesn't use isn't 0 [01, table: number 1].
unfoldable pub unknown : Call → Bool
unknown c = not (is_known c && unused_are_zero c)

-- 3: an interrupt's kind comes inside a critical region [01, table: number 3].
unfoldable pub interrupts_off : ℕ → Call → Bool
interrupts_off critical c = from_interrupt c && ltb 0 critical

-- 2: nobody runs, and only the running thread may make this call [01, table: number 2].
unfoldable pub no_caller : ℕ → Call → Bool
no_caller runner c = from_thread c && eqb runner 255

-- 5: a priority not in 1..30, a channel not in 1..15, a mask not in 1..32,767, a maximum not in 1..65,535 or less than the count,
-- a mode that is neither 0 nor 1, or 0 ticks for a sleep, a delay or a period [01, table: number 5].
unfoldable pub bad_number : Call → Bool
bad_number c =
    some_of
    ((is c 2 && outside 1 priority_count c.a)
    ∷ (is c 4 && outside 1 priority_count c.b)
    ∷ (is c 26 && outside 1 channel_count c.c)
    ∷ (is c 27 && outside 1 32767 c.b)
    ∷ (is c 14 && (outside 1 65535 c.c || ltb c.c c.b))
    ∷ (is c 20 && ltb 1 c.b)
    ∷ (is c 7 && eqb c.c 0)
    ∷ (is c 16 && (eqb c.c 0 || eqb c.d 0))
    ∷ [])

-- 4: a thread, semaphore, message or flag named that isn't live (no id too large is), an event above 7, a bit above 31 [01, table:
-- number 4; 02 §1].
unfoldable pub bad_id : Named → Call → Bool
bad_id n c =
    some_of
    ((names (kind_of c).thread && not n.thread)
    ∷ (names (kind_of c).semaphore && not n.semaphore.live)
    ∷ (is_which (kind_of c).event A && leb event_count c.a)
    ∷ (is_which (kind_of c).event Bit && leb bit_count c.a)
    ∷ (names (kind_of c).message && not n.message.live)
    ∷ (names (kind_of c).flag && not n.flag)
    ∷ [])

-- 9: the message to destroy or post stands in a channel [01, table: number 9].
unfoldable pub is_in_channel : Named → Call → Bool
is_in_channel n c = names (kind_of c).message && is_queued n.message

-- 8: the message to destroy or post belongs to another than the caller [01, table: number 8].
unfoldable pub not_owner : ℕ → Named → Call → Bool
not_owner runner n c = names (kind_of c).message && not (eqb n.message.owner runner)

-- 10: the semaphore or flag to destroy has waiters, and so a first one; 255 is no thread (`has_waiters_lem`) [01, table: number 10; 02 §1].
unfoldable pub has_waiters : Named → Call → Bool
has_waiters n c = is_one_of c (15 ∷ 32 ∷ []) && not (eqb n.waiter 255)

-- 12: the semaphore whose period is to be removed has none [01, table: number 12].
unfoldable pub not_periodic : Named → Call → Bool
not_periodic n c = is c 17 && eqb n.semaphore.period 0

-- 11: the level to pop, once or wholly, is 0 already [01, table: number 11].
unfoldable pub pops_nothing : ℕ → ℕ → Call → Bool
pops_nothing unscheduled critical c =
    (is_one_of c (9 ∷ 10 ∷ []) && eqb unscheduled 0) || (is_one_of c (12 ∷ 13 ∷ []) && eqb critical 0)

-- The caller stops or steps back: a pend that doesn't pass, a sleep, a yield, its own destruction [01, table: number 6].
unfoldable pub stops_caller : ℕ → Named → Call → Bool
stops_caller runner n c =
    some_of
    ((is c 18 && eqb n.semaphore.count 0)
    ∷ (is c 21 && not n.truth)
    ∷ (is c 27 && eqb n.found 255)
    ∷ is_one_of c (6 ∷ 7 ∷ [])
    ∷ (is c 3 && eqb c.a runner)
    ∷ [])

-- 6: such a call inside a region, unscheduled or critical [01, table: number 6]. A flag's pend has this number, and for another reason: it
-- comes from inside a critical region, "critical level exactly 1 and unscheduled level 0, else 6" [02 §1].
unfoldable pub blocks_in_region : ℕ → ℕ → ℕ → Named → Call → Bool
blocks_in_region unscheduled critical runner n c =
    cond (is c 33) (not (eqb unscheduled 0 && eqb critical 1)) (in_region unscheduled critical && stops_caller runner n c)

-- 7: every id of what is to be created is taken, or the level to push is 255 already [01, table: number 7].
unfoldable pub none_free : ℕ → ℕ → Named → Call → Bool
none_free unscheduled critical n c =
    some_of
    ((is_one_of c (2 ∷ 14 ∷ 24 ∷ 31 ∷ []) && eqb n.found 255)
    ∷ (is c 8 && eqb unscheduled 255)
    ∷ (is c 11 && eqb critical 255)
    ∷ [])

-- Each number with its condition, in table order, by the two levels and who runs. (14 is asked before, 13 after.)
abbrev pub refusals_of : ℕ → ℕ → ℕ → Named → Call → List (ℕ × Bool)
refusals_of unscheduled critical runner n c =
    (1, unknown c)
    ∷ (3, interrupts_off critical c)
    ∷ (2, no_caller runner c)
    ∷ (5, bad_number c)
    ∷ (4, bad_id n c)
    ∷ (9, is_in_channel n c)
    ∷ (8, not_owner runner n c)
    ∷ (10, has_waiters n c)
    ∷ (12, not_periodic n c)
    ∷ (11, pops_nothing unscheduled critical c)
    ∷ (6, blocks_in_region unscheduled critical runner n c)
    ∷ (7, none_free unscheduled critical n c)
    ∷ []

abbrev pub refusals : Kernel → Call → List (ℕ × Bool)
refusals k c = refusals_of k.unscheduled k.critical k.runner (named k c) c

-- The first in the list whose condition holds decides; 0 where none does [01, answers 4].
abbrev pub first_that_applies : List (ℕ × Bool) → ℕ
first_that_applies [] = 0
first_that_applies (t ∷ l) = let r = first_that_applies l in cond t.1 t.0 r

-- The number of the answer: 0 where the call is accepted.
unfoldable pub number_from : ℕ → ℕ → ℕ → Named → Call → ℕ
number_from unscheduled critical runner n c = first_that_applies (refusals_of unscheduled critical runner n c)

unfoldable pub number_of : Kernel → Call → ℕ
number_of k c = first_that_applies (refusals k c)
