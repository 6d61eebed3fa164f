-- Laws on pens: what several writers write together, and what a log holds that had room for it.
use Prim.Native.Nat.{ℕ, suc, ◌+◌, ◌-◌, ◌≤◌, min}
use mathlib.Core.Path.{◌≡◌, refl, sym, ap, ◌∙◌}
use mathlib.Core.List.{List, [], ◌∷◌, ◌++◌, append_assoc}
use mathlib.Core.Bool.{Bool, true, false, cond}
use native.Mathlib.Nat.{zero-add}
use native.Mathlib.Numerals.{add-one}
use native.Mathlib.Omega.{arith}
use lib.Dec.{ltb}
use lib.ListN.{length, take, drop, set, length-set, drop_of_length-le}
use lib.Seq.{sets, sets-eq, take-append_seam, length-take-le}
use Rattle.std.proofs.lemmas.List.{take-append-drop}
use borrow.Author.Tests.{lt-ltb, le-ltb, ltb-true, ltb-false}
use borrow.Table.Steps.{cases}
use Rattle.base_bytes.specs.Pens.{Pen, pen, put, puts}

-- One list behind another is what the second pen writes behind the first.
pub puts_append : (p : Pen) (a b : List ℕ) → puts p (a ++ b) ≡ puts (puts p a) b
unfolding puts
puts_append p [] b = refl
puts_append p (x ∷ a) b = puts_append (put p x) a b

-- A log keeps its length.
pub length_puts : (p : Pen) (bytes : List ℕ) → length (puts p bytes).log ≡ length p.log
unfolding puts put
length_puts p [] = refl
length_puts p (b ∷ bytes) = length_puts (put p b) bytes ∙ go (ltb p.at (length p.log))
  where
    go : (t : Bool) → length (cond t (pen (set p.log p.at b) (p.at + 1)) p).log ≡ length p.log
    go true = length-set p.log p.at b
    go false = refl

-- A full log takes nothing.
pub puts_full : (l : List ℕ) (k : ℕ) (bytes : List ℕ) → length l ≤ k → puts (pen l k) bytes ≡ pen l k
unfolding puts put
puts_full l k [] h = refl
puts_full l k (b ∷ bytes) h = rw (le-ltb k (length l) h) (puts_full l k bytes h)

-- With room, all of it is written.
puts_sets : (l : List ℕ) (k : ℕ) (bytes : List ℕ) → k + length bytes ≤ length l
    → puts (pen l k) bytes ≡ pen (sets l k bytes) (k + length bytes)
unfolding puts put
puts_sets l k [] h = let e : k ≡ k + 0 = omega arith in ap (pen l) e
puts_sets l k (b ∷ bytes) h =
    let e : suc k + length bytes ≡ k + suc (length bytes) = omega arith in
    rw (lt-ltb k (length l) (omega arith), add-one)
    (puts_sets (set l k b) (suc k) bytes (rw length-set (omega arith)) ∙ ap (pen (sets (set l k b) (suc k) bytes)) e)

pub puts_room : (l : List ℕ) (k : ℕ) (bytes : List ℕ) → k + length bytes ≤ length l
    → puts (pen l k) bytes ≡ pen (take k l ++ (bytes ++ drop (k + length bytes) l)) (k + length bytes)
puts_room l k bytes h =
    puts_sets l k bytes h
    ∙ ap (λ m. pen m (k + length bytes)) (sets-eq bytes l k h ∙ append_assoc (take k l) bytes (drop (k + length bytes) l))

-- Without, what there is room for.
pub puts_some : (l : List ℕ) (k : ℕ) (bytes : List ℕ) (n : ℕ) → k ≤ length l → n ≡ min (length bytes) (length l - k)
    → puts (pen l k) bytes ≡ pen (take k l ++ (take n bytes ++ drop (k + n) l)) (k + n)
unfolding puts
puts_some l k bytes n h e =
    let front = take n bytes in
    let m = take k l ++ (front ++ drop (k + n) l) in
    let f : length front ≡ n = length-take-le n bytes (omega arith) in
    let one : puts (pen l k) front ≡ pen m (k + n) = rw f at (puts_room l k front (omega arith)) in
    let s : length m ≡ length l = ap (λ p. length p.log) (sym one) ∙ length_puts (pen l k) front in
    let rest : puts (pen m (k + n)) (drop n bytes) ≡ pen m (k + n) =
    cases (ltb n (length bytes)) (λ t. puts_full m (k + n) (drop n bytes) (omega (arith, ltb-true n (length bytes) t)))
    (λ t. rw (drop_of_length-le bytes (ltb-false n (length bytes) t))) in
    ap (puts (pen l k)) (sym (take-append-drop n bytes)) ∙ puts_append (pen l k) front (drop n bytes)
    ∙ ap (λ p. puts p (drop n bytes)) one ∙ rest

-- From the front of a log that is long enough,
pub puts_front : (l bytes : List ℕ) → length bytes ≤ length l → puts (pen l 0) bytes ≡ pen (bytes ++ drop (length bytes) l) (length bytes)
puts_front l bytes h =
    let z : 0 + length bytes ≡ length bytes = zero-add _ in
    puts_room l 0 bytes (omega arith) ∙ rw z

-- what then stands before the place is what was written.
pub front_written : (l m bytes : List ℕ) (r : ℕ) → pen m r ≡ puts (pen l 0) bytes → length bytes ≤ length l
    → (r ≡ length bytes) × (take r m ≡ bytes)
front_written l m bytes r e h =
    let f : pen m r ≡ pen (bytes ++ drop (length bytes) l) (length bytes) = e ∙ puts_front l bytes h in
    (ap (λ p. p.at) f, ap (λ p. take p.at p.log) f ∙ take-append_seam bytes (drop (length bytes) l))
