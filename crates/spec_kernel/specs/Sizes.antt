-- How many there are of each thing that documents 01 and 02 number: the one place in the definitions that has these numbers
-- [01, modelled 4; 02 §1].
use Rattle.std.specs.Prelude.{ℕ}

-- ids are below these
abbrev pub thread_count : ℕ
thread_count = 32

abbrev pub semaphore_count : ℕ
semaphore_count = 16

abbrev pub event_count : ℕ
event_count = 8

abbrev pub message_count : ℕ
message_count = 64

abbrev pub flag_count : ℕ
flag_count = 16

-- priorities and channels are counted from 1
abbrev pub priority_count : ℕ
priority_count = 30

abbrev pub channel_count : ℕ
channel_count = 15

-- event bits
abbrev pub bit_count : ℕ
bit_count = 32
