-- A pass over records: whether those that are done keep a rule, and the rest decides.
use Prim.Native.Nat.{ℕ, ◌+◌, ◌≤◌, ◌<◌}
use mathlib.Core.Path.{◌≡◌, refl, sym, ◌∙◌}
use mathlib.Core.Bool.{Bool, true, ◌&&◌, and-true, and_assoc}
use mathlib.Core.List.{List}
use native.Mathlib.Numerals.{add-one}
use lib.ListN.{length, drop, get_or, drop_of_length-le}
use lib.Seq.{drop-cons}
use Rattle.base_bits.specs.Sets.{joined, Tells}
use Rattle.base_bits.proofs.Members.{tells_next}
use Rattle.base_queue.specs.Lists.{every_from}

-- `all` is the test of all records, of which i are done, and `kept` that of these
pub record Sweep {A : Type 0} (all kept : Bool) (test : A → Bool) (records : List A) (i : ℕ) : Type 0 where
  pub rest : all ≡ (kept && every_from (λ _ r. test r) i (drop i records))

pub sweep_starts : {A : Type 0} (test : A → Bool) (records : List A)
    → Sweep (every_from (λ _ r. test r) 0 records) true test records 0
sweep_starts test records = record { rest = refl }

module _ {A : Type 0} {all kept : Bool} {test : A → Bool} {records : List A} {i : ℕ} (w : Sweep all kept test records i) where
  -- b is the test of the next record
  pub sweep_next : (none : A) → i < length records → {b : Bool} → b ≡ (kept && test (get_or records i none))
      → Sweep all b test records (i + 1)
  sweep_next none h e = record { rest = w.rest ∙ rw (drop-cons records i none h, e, and_assoc, add-one) }

  pub sweep_ends : length records ≤ i → kept ≡ all
  sweep_ends h = sym (w.rest ∙ rw (drop_of_length-le records h, and-true))

-- b is what f says of the next, and w the set with it where it joins
pub tells_more : {set n w : ℕ} {f : ℕ → Bool} {b : Bool} → Tells set n f → n < 64 → w ≡ joined set n b → b ≡ f n → Tells w (n + 1) f
tells_more t h e q = rw e (tells_next t h q)
