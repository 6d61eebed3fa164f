-- A part of a note is written to a scratch array that is long enough, and from there behind its length: what the array holds then.
use Prim.Native.Nat.{ℕ, ◌+◌, ◌≤◌}
use mathlib.Core.Path.{◌≡◌, ap, sym, ◌∙◌}
use mathlib.Core.List.{List}
use native.Mathlib.Omega.{arith}
use lib.ListN.{length, take, replicate, length-replicate}
use lib.Seq.{length-take-le}
use Rattle.base_bytes.specs.Pens.{pen, puts}
use Rattle.code_notes_spans.specs.Spans.{Span, in_span}
use Rattle.code_notes.proofs.Sizes.{composed}

-- the first r bytes of an array are the part
pub record Held (m : List ℕ) (r : ℕ) (part : List ℕ) : Type 0 where
  pub within : r ≤ length m
  pub bytes : take r m ≡ part

-- so many bytes are lent
pub held_length : {m part : List ℕ} {r : ℕ} → Held m r part → r ≡ length (take r m)
held_length h = sym (length-take-le _ _ h.within)

pub held : {n : ℕ} {m part : List ℕ} {r : ℕ} → length part ≤ n → pen m r ≡ puts (pen (replicate n 0) 0) part → Held m r part
held {n} h e =
    let w = composed (replicate n 0) _ _ _ e (rw length-replicate h) in
    record { within = w.0; bytes = w.1 }

-- ---- by the span that the code found, which is the call's
module _ {s s' : Span} (e : s ≡ s') where
  pub held_in : {n : ℕ} (entries : ℕ → ℕ → List ℕ) {m : List ℕ} {r : ℕ} → length (in_span s' entries) ≤ n
      → pen m r ≡ puts (pen (replicate n 0) 0) (in_span s entries) → Held m r (in_span s' entries)
  held_in {n} entries h w = held h (w ∙ ap (λ x. puts (pen (replicate n 0) 0) (in_span x entries)) e)

  -- no id can be touched
  pub nobody : s.count ≡ 0 → s'.count ≡ 0
  nobody z = sym (ap (λ x. x.count) e) ∙ z

  -- the first id is one of the table's, or the table's end
  pub first_inside : (size : ℕ) → s'.first + s'.count ≤ size → s.first ≤ size
  first_inside size h = omega (arith, ap (λ x. x.first) e)
