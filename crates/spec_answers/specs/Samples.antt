-- Document 01's sample runs marked *, in one table: the calls, the answers, and what then holds. Each goes through the public call, on
-- sixteen bytes and with a log, and is then undone to its start.
use Rattle.std.specs.Prelude.{ℕ, zero, suc, ◌+◌, Bool, true, false, ◌&&◌, List, [], ◌∷◌, ◌++◌, eqb, replicate}
use Rattle.base_bytes.specs.Bytes.{le}
use Rattle.base_queue.specs.Lists.{is_empty}
use Rattle.base_queue.specs.Tables.{one}
use Rattle.spec_kernel.specs.declared.records.Wake.{Wake}
use Rattle.spec_kernel.specs.declared.records.Kernel.{Kernel}
use Rattle.spec_kernel.specs.Records.{fresh, semaphore, thread}
use Rattle.spec_kernel.specs.Places.{semaphore_queue}
use Rattle.spec_calls.specs.declared.call.Call.{Call}
use Rattle.spec_moves.specs.States.{with_uptime}
use Rattle.spec_notes.specs.Same.{same_kernel}
use Rattle.spec_answers.specs.declared.Answer.{Answer}
use Rattle.spec_answers.specs.Steps.{answer}
use Rattle.spec_answers.specs.Runs.{Run, Step, given, after}

abbrev pub same_answer : Answer → Answer → Bool
same_answer x y = eqb x.number y.number && (eqb x.value y.value && eqb x.runner y.runner)

abbrev pub call : ℕ → ℕ → ℕ → ℕ → ℕ → Call
call kind a b c d = record { kind = kind; a = a; b = b; c = c; d = d; e = 0 }

-- its sixteen bytes
abbrev pub bytes_of : Call → List ℕ
bytes_of c = c.kind ∷ c.a ∷ (le 2 c.b ++ (le 4 c.c ++ (le 4 c.d ++ le 4 c.e)))

-- The run is undone note by note until none is left, and is where it began.
abbrev pub leads_home : Kernel → ℕ → Run → Bool
leads_home start zero r = eqb r.used 0 && same_kernel start r.kernel
leads_home start (suc n) r = let next = after r Step.undo in leads_home start n next

-- Each call comes as sixteen bytes, with the log of the run, and gets its answer; the last state passes the test; and then the run, of
-- which so many calls were accepted, leads home.
abbrev pub runs : Kernel → (Kernel → Bool) → ℕ → Run → List Call → List Answer → Bool
runs start then n r [] [] = then r.kernel && leads_home start n r
runs start then n r [] (x ∷ xs) = false
runs start then n r (c ∷ cs) [] = false
runs start then n r (c ∷ cs) (x ∷ xs) =
    let came = (given r (Step.call (bytes_of c))).answer in
    let rest = runs start then (n + one (eqb came.number 0)) (after r (Step.call (bytes_of c))) cs xs in
    same_answer came x && rest

pub record Sample : Type 0 where
  pub start : Kernel
  pub calls : List Call
  pub answers : List Answer
  pub then : Kernel → Bool

-- from an empty log of 512 bytes
abbrev pub holds : Sample → Bool
holds s =
    runs s.start s.then 0 (record { kernel = s.start; log = replicate 512 0; used = 0 }) s.calls s.answers

abbrev pub all : List Sample → Bool
all [] = true
all (s ∷ l) = let r = all l in holds s && r

-- nothing more is asked for
abbrev pub anything : Kernel → Bool
anything k = true

abbrev pub timed_out : Wake → Bool
timed_out Wake.None = false
timed_out Wake.Met = false
timed_out (Wake.TimedOut object) = true

abbrev pub tick : Call
tick = call 1 0 0 0 0

abbrev pub create : ℕ → Call
create priority = call 2 priority 0 0 0

abbrev pub semaphore_of : ℕ → ℕ → Call
semaphore_of count maximum = call 14 0 count maximum 0

abbrev pub pend : ℕ → Call
pend timeout = call 18 0 0 timeout 0

abbrev pub samples : List Sample
samples =
    -- With no thread there, a yield has no caller (2), and a tick passes with nobody running after it [01, samples 1].
    record {
      start = fresh;
      calls = call 6 0 0 0 0 ∷ tick ∷ [];
      answers = answer 2 255 255 ∷ answer 0 255 255 ∷ [];
      then = anything;
    }
    -- A thread of the lowest priority, 30, can be created; 0 and 31 are refused with 5 [01, samples 2].
    ∷ record {
      start = fresh;
      calls = create 30 ∷ create 0 ∷ create 31 ∷ [];
      answers = answer 0 0 0 ∷ answer 5 255 0 ∷ answer 5 255 0 ∷ [];
      then = anything;
    }
    -- While thread 1, the highest, sleeps two ticks, the two of priority 5 take turns by a yield; then it runs again [01, samples 3].
    ∷ record {
      start = fresh;
      calls = create 5 ∷ create 3 ∷ create 5 ∷ call 7 0 0 2 0 ∷ call 6 0 0 0 0 ∷ tick ∷ tick ∷ [];
      answers =
          answer 0 0 0
          ∷ answer 0 1 1
          ∷ answer 0 2 1
          ∷ answer 0 255 0
          ∷ answer 0 255 2
          ∷ answer 0 255 2
          ∷ answer 0 255 1
          ∷ [];
      then = anything;
    }
    -- A pend is not met within its one tick: the thread is timed out, and nobody is left in the queue [01, samples 4].
    ∷ record {
      start = fresh;
      calls = semaphore_of 0 1 ∷ create 5 ∷ pend 1 ∷ tick ∷ [];
      answers = answer 0 0 255 ∷ answer 0 0 0 ∷ answer 0 255 255 ∷ answer 0 255 0 ∷ [];
      then = λ k. timed_out (thread k 0).wake && (is_empty (semaphore_queue k 0) && eqb (semaphore k 0).count 0);
    }
    -- The same, and a post after it finds nobody to wake and raises the count to 1 [01, samples 4].
    ∷ record {
      start = fresh;
      calls = semaphore_of 0 1 ∷ create 5 ∷ pend 1 ∷ tick ∷ call 19 0 0 0 0 ∷ [];
      answers = answer 0 0 255 ∷ answer 0 0 0 ∷ answer 0 255 255 ∷ answer 0 255 0 ∷ answer 0 255 0 ∷ [];
      then = λ k. eqb (semaphore k 0).count 1;
    }
    -- A post at the maximum, which is 1, passes and adds nothing [01, samples 5].
    ∷ record {
      start = fresh;
      calls = semaphore_of 1 1 ∷ create 5 ∷ call 19 0 0 0 0 ∷ [];
      answers = answer 0 0 255 ∷ answer 0 0 0 ∷ answer 0 255 0 ∷ [];
      then = λ k. eqb (semaphore k 0).count 1;
    }
    -- In an unscheduled region a pend that would block is refused with 6; once the count is 1 it passes [01, samples 6].
    ∷ record {
      start = fresh;
      calls = semaphore_of 0 1 ∷ create 5 ∷ call 8 0 0 0 0 ∷ pend 0 ∷ call 19 0 0 0 0 ∷ pend 0 ∷ [];
      answers =
          answer 0 0 255 ∷ answer 0 0 0 ∷ answer 0 255 0 ∷ answer 6 255 0 ∷ answer 0 255 0 ∷ answer 0 255 0 ∷ [];
      then = λ k. eqb (semaphore k 0).count 0;
    }
    -- In a critical region a tick is refused with 3, and the uptime stays [01, samples 7].
    ∷ record {
      start = fresh;
      calls = create 5 ∷ call 11 0 0 0 0 ∷ tick ∷ [];
      answers = answer 0 0 0 ∷ answer 0 255 0 ∷ answer 3 255 0 ∷ [];
      then = λ k. eqb k.uptime 0;
    }
    -- In an unscheduled region it is accepted, and the uptime goes up [01, samples 7].
    ∷ record {
      start = fresh;
      calls = create 5 ∷ call 8 0 0 0 0 ∷ tick ∷ [];
      answers = answer 0 0 0 ∷ answer 0 255 0 ∷ answer 0 255 0 ∷ [];
      then = λ k. eqb k.uptime 1;
    }
    -- The tick after the greatest uptime makes it 0, and its undo leads back to the start, as that of every sample: to the greatest
    -- uptime [01, samples 8].
    ∷ record {
      start = with_uptime 4294967295 fresh;
      calls = tick ∷ [];
      answers = answer 0 255 255 ∷ [];
      then = λ k. eqb k.uptime 0;
    }
    ∷ []
