-- Laws on a note's frame: each section from where it begins to where the next one does.
use Prim.Native.Nat.{ℕ, zero, suc, ◌+◌, ◌-◌, ◌*◌, ◌≤◌, ◌<◌, min}
use mathlib.Core.Path.{◌≡◌, refl, sym, ap, ◌∙◌}
use mathlib.Core.List.{List, [], ◌∷◌, ◌++◌, append-nil}
use native.Mathlib.Omega.{arith}
use lib.Dec.{eqb, leb}
use lib.ListN.{length, take, drop, get_or, replicate, length-take, length-append, length-drop, get_or-eq_default}
use lib.Seq.{drop-drop, take-append-le, take-append-add, take-length, get_or-take}
use Rattle.std.proofs.lemmas.List.{drop-replicate, take-replicate}
use borrow.Author.Tests.{eq-eqb, ne_eqb, eqb-true, eqb-false, le-leb, lt-leb, leb-true, leb-false}
use borrow.Table.Steps.{cases}
use Rattle.base_queue.proofs.Lists.{take_size}
use Rattle.base_bytes.specs.Bytes.{un}
use Rattle.base_bytes.proofs.Turns.{drop_least}
use Rattle.spec_notes.specs.Notes.{section_count, least_note}
use Rattle.spec_notes.specs.Frames.{is_whole, first_section, behind_section, sections_at, are_whole, section_bytes, frames_of}
use Rattle.spec_notes.specs.Undoes.{call_bytes}
use Rattle.code_notes_frame.specs.Meant.{part_of, start_from, decoded, meant, record_of}
use Rattle.code_notes_frame.specs.declared.frames.Part.{Part}
use Rattle.code_notes_frame.specs.declared.frames.Decoded.{Decoded}
use Rattle.code_notes_frame.specs.declared.frames.Decoded.TheVariants.{Nothing, Sections}

abbrev pub part : ℕ → ℕ → Part
part p q = record { from = p; to = q }

-- a part whose places are past the end is as far as there are bytes
pub part_least : (p q : ℕ) (s : List ℕ) → take (min q (length s) - min p (length s)) (drop (min p (length s)) s) ≡ part_of (part p q) s
unfolding part_of
part_least p q s =
    let e : min q (length s) - min p (length s) ≡ length (take (q - p) (drop p s)) = simp (length-take, length-drop) (omega arith) in
    rw (drop_least, e) (take_size (q - p) (drop p s))

-- ---- where the sections begin
-- each takes two bytes at least
start_grows : (s : List ℕ) (n p : ℕ) → p + 2 * n ≤ start_from s n p
unfolding start_from
start_grows s zero p = omega arith
start_grows s (suc n) p = omega (arith, start_grows s n (p + 2 + un 2 (drop p s)))

sections_count : (n : ℕ) (s : List ℕ) → length (sections_at n s) ≡ n
unfolding sections_at
sections_count zero s = refl
sections_count (suc n) s = rw (sections_count n (behind_section s))

module _ (s : List ℕ) where
  behind : (p : ℕ) → behind_section (drop p s) ≡ drop (p + 2 + un 2 (drop p s)) s
  unfolding behind_section
  behind p = let r : p + (2 + un 2 (drop p s)) ≡ p + 2 + un 2 (drop p s) = omega arith in rw (drop-drop, r)

  -- one that is gone over
  pub start_next : (n p : ℕ) → 0 < n → start_from s n p ≡ start_from s (n - 1) (p + 2 + un 2 (drop p s))
  unfolding start_from
  start_next zero p h = absurd (omega arith)
  start_next (suc n) p h = let e : suc n - 1 ≡ n = omega arith in rw e

  -- n of them fill the bytes from p on exactly where one more would begin at the end
  pub whole_at : (n p : ℕ) → p ≤ length s → are_whole n (drop p s) ≡ eqb (start_from s n p) (length s)
  unfolding are_whole start_from is_whole
  whole_at zero p h =
      rw length-drop
      (cases (eqb p (length s)) (λ e. rw e (eq-eqb (length s - p) 0 (omega (arith, eqb-true p (length s) e))))
      (λ e. rw e (ne_eqb (length s - p) 0 (λ z. eqb-false p (length s) e (omega arith)))))
  whole_at (suc n) p h =
      let m = 2 + un 2 (drop p s) in
      let q = p + 2 + un 2 (drop p s) in
      cases (leb q (length s))
      (λ e. let b : q ≤ length s = leb-true q (length s) e in
      let w = le-leb m (length (drop p s)) (rw length-drop (omega arith)) in
      rw (w, behind p) (whole_at n q b))
      (λ e. let b : length s < q = leb-false q (length s) e in
      let w = lt-leb m (length (drop p s)) (rw length-drop (omega arith)) in
      rw w (sym (ne_eqb (start_from s n q) (length s) (λ z. omega (arith, start_grows s n q)))))

  -- section i of n, of those from p on
  pub section_at : (n i p : ℕ) → i < n → let q = start_from s i p in
      get_or (sections_at n (drop p s)) i [] ≡ take (un 2 (drop q s)) (drop (q + 2) s)
  unfolding sections_at start_from first_section
  section_at zero i p h = absurd (omega arith)
  section_at (suc n) zero p h = rw drop-drop
  section_at (suc n) (suc i) p h = rw (behind p) (section_at n i (p + 2 + un 2 (drop p s)) (omega arith))

  -- behind them there is none
  pub section_none : (n i : ℕ) → n ≤ i → get_or (sections_at n s) i [] ≡ []
  section_none n i h = get_or-eq_default (sections_at n s) [] (rw (sections_count n s) h)

-- the note's sections fill what stands between, or they don't
module _ (note : List ℕ) where
  abbrev s : List ℕ
  s = part_of (part 16 (length note - 2)) note

  whole : are_whole section_count (section_bytes note) ≡ eqb (start_from s section_count 0) (length s)
  unfolding section_bytes part_of
  whole = whole_at s section_count 0 (omega arith)

  -- what is read, and that it means the note's sections
  abbrev Read : Decoded → Type 0
  Read r = (r ≡ decoded note) × (meant r note ≡ frames_of note)

  pub frames_fit : start_from s section_count 0 ≡ length s → Read (Sections (part 16 (length note - 2)))
  unfolding decoded frames_of section_bytes part_of
  frames_fit h = let e = eq-eqb (start_from s section_count 0) (length s) h in (rw (whole, e), rw (whole, e))

  pub frames_none : (start_from s section_count 0 ≡ length s → ⊥) → Read Nothing
  unfolding decoded frames_of
  frames_none h = let e = ne_eqb (start_from s section_count 0) (length s) h in (rw (whole, e), rw (whole, e))

  part_size : length s ≤ length note - 2 - 16
  unfolding part_of
  part_size = rw length-take (omega arith)

  pub frames_short : length note < least_note → Read Nothing
  frames_short h = frames_none (λ z. omega (arith, z, start_grows s section_count 0, part_size))

-- ---- the call record
-- of a note that has one
pub record_whole : (note : List ℕ) → 16 ≤ length note → record_of note ≡ call_bytes note
unfolding record_of call_bytes
record_whole note h = take-append-le 16 note (replicate 16 0) h

-- it has sixteen bytes
pub record_size : (note : List ℕ) → length (record_of note) ≡ 16
unfolding record_of
record_size note = simp (length-take, length-append) (omega arith)

-- zeros behind a list change none of its elements
padded : (n : ℕ) (s : List ℕ) (k : ℕ) → get_or {A = ℕ} (s ++ replicate n 0) k 0 ≡ get_or s k 0
padded zero [] k = refl
padded (suc n) [] zero = refl
padded (suc n) [] (suc k) = padded n [] k
padded n (b ∷ s) zero = refl
padded n (b ∷ s) (suc k) = padded n s k

-- each is the note's byte there, or 0 past its end
pub record_byte : (note : List ℕ) (i : ℕ) → i < 16 → get_or (record_of note) i 0 ≡ get_or note i 0
unfolding record_of
record_byte note i h = get_or-take 16 (note ++ replicate 16 0) i 0 h ∙ padded 16 note i

-- its bytes as far as the note has them, and zeros behind
pub record_padded : (note : List ℕ) (n : ℕ) → n ≡ min (length note) 16 → take n note ++ drop n (replicate 16 0) ≡ record_of note
unfolding record_of
record_padded note n e =
    cases (leb 16 (length note))
    (λ t. let h : 16 ≤ length note = leb-true 16 (length note) t in
    let m : n ≡ 16 = omega arith in
    rw (m, append-nil (take 16 note)) (sym (take-append-le 16 note (replicate 16 0) h)))
    (λ t. let h : length note < 16 = leb-false 16 (length note) t in
    let m : n ≡ length note = omega arith in
    let k : length note + (16 - length note) ≡ 16 = omega arith in
    rw (m, take-length note, drop-replicate {X = ℕ} (length note) 16 0)
    (sym (rw k at (take-append-add note (replicate 16 0) (16 - length note))
    ∙ ap (λ (z : List ℕ). note ++ z) (take-replicate {X = ℕ} (16 - length note) 16 0 (omega arith)))))
