-- A call record's sixteen bytes, low byte first: one each for kind and a, two for b, four each for c, d and e [01, records 1].
use Rattle.std.specs.Prelude.{ℕ, ◌+◌, ◌*◌, List, get_or}
use Rattle.spec_calls.specs.declared.call.Call.{Call}

-- the number of two and of four bytes from place i on
abbrev pub two_bytes : List ℕ → ℕ → ℕ
two_bytes bytes i = get_or bytes i 0 + get_or bytes (i + 1) 0 * 256

abbrev pub four_bytes : List ℕ → ℕ → ℕ
four_bytes bytes i = two_bytes bytes i + two_bytes bytes (i + 2) * 65536

unfoldable pub call_of : List ℕ → Call
call_of bytes =
    record {
      kind = get_or bytes 0 0;
      a = get_or bytes 1 0;
      b = two_bytes bytes 2;
      c = four_bytes bytes 4;
      d = four_bytes bytes 8;
      e = four_bytes bytes 12;
    }
