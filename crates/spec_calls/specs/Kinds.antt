-- The table of call kinds: who may call, which fields have a meaning, and whom of each class a call names or can touch.
use Rattle.std.specs.Prelude.{ℕ, ◌+◌, ◌/◌, ◌%◌, Bool, cond, ◌&&◌, ◌||◌, List, [], ◌∷◌, eqb, ltb, leb, get_or}
use Rattle.spec_calls.specs.declared.call.Call.{Call}
use Rattle.spec_calls.specs.declared.kinds.Caller.{Caller}
use Rattle.spec_calls.specs.declared.kinds.Caller.TheVariants.{Thread, ThreadOrBoot, Interrupt}
use Rattle.spec_calls.specs.declared.kinds.Which.{Which}
use Rattle.spec_calls.specs.declared.kinds.Which.TheVariants.{Nobody, A, B, Runner, Waiter, New, Taken, Bit, Any}
use Rattle.spec_calls.specs.declared.kinds.Kind.{Kind}

-- two words for who calls are the same
abbrev pub caller_code : Caller → ℕ
caller_code Thread = 0
caller_code ThreadOrBoot = 1
caller_code Interrupt = 2

abbrev pub is_caller : Caller → Caller → Bool
is_caller x y = eqb (caller_code x) (caller_code y)

-- two words for which one of a class are the same
abbrev pub which_code : Which → ℕ
which_code Nobody = 0
which_code A = 1
which_code B = 2
which_code Runner = 3
which_code Waiter = 4
which_code New = 5
which_code Taken = 6
which_code Bit = 7
which_code Any = 8

abbrev pub is_which : Which → Which → Bool
is_which x y = eqb (which_code x) (which_code y)

-- a used field has a bit
abbrev pub fa : ℕ
fa = 1

abbrev pub fb : ℕ
fb = 2

abbrev pub fc : ℕ
fc = 4

abbrev pub fd : ℕ
fd = 8

abbrev pub row : Caller → ℕ → Which → Which → Which → Which → Which → Kind
row caller used thread semaphore event message flag =
    record { caller = caller; used = used; thread = thread; semaphore = semaphore; event = event; message = message; flag = flag }

abbrev pub no_kind : Kind
no_kind = row Thread 0 Nobody Nobody Nobody Nobody Nobody

-- The rows of kinds 0 to 34; 0 is no kind, and 31 to 34 are document 02's [02 §1]. A row has who calls: an interrupt (kinds 1, 28, 29 and
-- 30); the running thread or, while none runs, the boot (2, 14 and 20); the running thread only (all others) [01, records 3 to 5]; then the
-- fields with a meaning; then which thread, semaphore, event, message and flag it names or can touch [01, records: table; 01, calls].
abbrev pub kinds : List Kind
kinds =
    no_kind
    ∷ row Interrupt 0 Any Any Nobody Nobody Nobody  -- 1 tick
    ∷ row ThreadOrBoot fa New Nobody Nobody Nobody Nobody  -- 2 create thread, priority a
    ∷ row Thread fa A Nobody Nobody Any Nobody  -- 3 destroy thread a
    ∷ row Thread (fa + fb) A Nobody Nobody Nobody Nobody  -- 4 set priority of a to b
    ∷ row Thread fa A Nobody Nobody Nobody Nobody  -- 5 reset priority of a
    ∷ row Thread 0 Runner Nobody Nobody Nobody Nobody  -- 6 yield
    ∷ row Thread fc Runner Nobody Nobody Nobody Nobody  -- 7 sleep c
    ∷ row Thread 0 Nobody Nobody Nobody Nobody Nobody  -- 8 push unscheduled
    ∷ row Thread 0 Nobody Nobody Nobody Nobody Nobody  -- 9 pop unscheduled
    ∷ row Thread 0 Nobody Nobody Nobody Nobody Nobody  -- 10 pop all unscheduled
    ∷ row Thread 0 Nobody Nobody Nobody Nobody Nobody  -- 11 push critical
    ∷ row Thread 0 Nobody Nobody Nobody Nobody Nobody  -- 12 pop critical
    ∷ row Thread 0 Nobody Nobody Nobody Nobody Nobody  -- 13 pop all critical
    ∷ row ThreadOrBoot (fb + fc) Nobody New Nobody Nobody Nobody  -- 14 create semaphore, count b, maximum c
    ∷ row Thread fa Waiter A Nobody Nobody Nobody  -- 15 destroy semaphore a
    ∷ row Thread (fa + fc + fd) Nobody A Nobody Nobody Nobody  -- 16 make semaphore a periodic, delay c, period d
    ∷ row Thread fa Nobody A Nobody Nobody Nobody  -- 17 remove periodic a
    ∷ row Thread (fa + fc) Runner A Nobody Nobody Nobody  -- 18 pend semaphore a, timeout c
    ∷ row Thread fa Waiter A Nobody Nobody Nobody  -- 19 post semaphore a
    ∷ row ThreadOrBoot (fa + fb + fc + fd) Any Nobody A Nobody Nobody  -- 20 load event a, mode b, mask c, values d
    ∷ row Thread (fa + fc) Runner Nobody A Nobody Nobody  -- 21 pend event a, timeout c
    ∷ row Thread fa Any Nobody Bit Nobody Nobody  -- 22 set event bit a
    ∷ row Thread fa Any Nobody Bit Nobody Nobody  -- 23 clear event bit a
    ∷ row Thread (fb + fc + fd) Nobody Nobody Nobody New Nobody  -- 24 create message, type b, size c, address d
    ∷ row Thread fa Nobody Nobody Nobody A Nobody  -- 25 destroy message a
    ∷ row Thread (fa + fb + fc) B Nobody Nobody A Nobody  -- 26 post message a to thread b, channel c
    ∷ row Thread (fb + fc) Runner Nobody Nobody Taken Nobody  -- 27 pend message, mask b, timeout c
    ∷ row Interrupt fa Waiter A Nobody Nobody Nobody  -- 28 interrupt: post semaphore a
    ∷ row Interrupt fa Any Nobody Bit Nobody Nobody  -- 29 interrupt: set bit a
    ∷ row Interrupt fa Any Nobody Bit Nobody Nobody  -- 30 interrupt: clear bit a
    ∷ row Thread 0 Nobody Nobody Nobody Nobody New  -- 31 create flag
    ∷ row Thread fa Waiter Nobody Nobody Nobody A  -- 32 destroy flag a
    ∷ row Thread (fa + fc) Runner Nobody Nobody Nobody A  -- 33 pend flag a, timeout c
    ∷ row Thread fa Any Nobody Nobody Nobody A  -- 34 post flag a
    ∷ []

unfoldable pub kind_of : Call → Kind
kind_of c = get_or kinds c.kind no_kind

-- A call names the one whose id is its field a or b.
abbrev pub names : Which → Bool
names which = is_which which A || is_which which B

abbrev pub id_named : Which → Call → ℕ
id_named which c = cond (is_which which B) c.b c.a

-- the last row's number
abbrev pub last_kind : ℕ
last_kind = 34

unfoldable pub is_known : Call → Bool
is_known c = ltb 0 c.kind && leb c.kind last_kind

-- field number n of a row (a, b, c, d are 1, 2, 4, 8) is used, or the call has it 0
abbrev pub used_or_zero : ℕ → ℕ → ℕ → Bool
used_or_zero used n field = eqb (used / n % 2) 1 || eqb field 0

-- Each field that the kind doesn't use is 0; no kind uses e [01, records 2].
unfoldable pub unused_are_zero : Call → Bool
unused_are_zero c =
    used_or_zero (kind_of c).used fa c.a
    && used_or_zero (kind_of c).used fb c.b
    && used_or_zero (kind_of c).used fc c.c
    && used_or_zero (kind_of c).used fd c.d
    && eqb c.e 0

unfoldable pub from_interrupt : Call → Bool
from_interrupt c = is_caller (kind_of c).caller Interrupt

unfoldable pub from_thread : Call → Bool
from_thread c = is_caller (kind_of c).caller Thread
