-- `code_notes_frame::frames::start_of` meets its contract: what is left to go over, from where it has come to.
use Prim.Native.Nat.{ℕ, ◌+◌, ◌-◌, ◌<◌}
use mathlib.Core.Path.{◌≡◌, sym, ◌∙◌}
use mathlib.Core.List.{List}
use native.Mathlib.Omega.{arith}
use lib.ListN.{drop}
use lib.Seq.{get_or-drop}
use Rattle.base_bytes.specs.Bytes.{un}
use Rattle.base_bytes.proofs.Numbers.{un_small}
use Rattle.code_notes_frame.specs.Meant.{start_from}
use Rattle.code_notes_frame.proofs.Framing.{start_next}
use Rattle.code_notes_frame.proofs.frames.start_of.Goals as goal

pub loop-preserved : goal.loop-preserved
loop-preserved c =
    let s : List ℕ = c.args.s.now in
    let l = c.loop in
    let n : ℕ = c.args.n in
    let u : ℕ = un 2 (drop l.at s) in
    let e : c.number_at.result ≡ u = c.number_at.ensures in
    let h : u < 65536 = un_small 2 (drop l.at s) (λ i. rw get_or-drop (omega (arith, c.type_inv.s (l.at + i)))) in
    let m : n - l.counter - 1 ≡ n - (l.counter + 1) = omega arith in
    let p : l.at + 2 + u ≡ l.at + (2 + u) = omega arith in
    (l.invariant.0 ∙ rw e (rw (m, p) at (start_next s (n - l.counter) l.at (omega arith))), omega arith)

pub returns : goal.returns
unfolding start_from
returns c =
    let l = c.loop in
    let z : c.args.n - l.counter ≡ 0 = omega arith in
    (sym (rw z at l.invariant.0), omega arith)
