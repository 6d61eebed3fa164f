-- There is one earlier state and one call at most: the end state and the note give them back.
use Prim.Native.Nat.{ℕ, ◌<◌}
use mathlib.Core.Path.{◌≡◌, sym, ap, ◌∙◌}
use mathlib.Core.List.{List}
use native.Mathlib.Omega.{arith}
use lib.ListN.{get_or, take}
use Rattle.spec_kernel.specs.declared.records.Kernel.{Kernel}
use Rattle.spec_rules.specs.Rules.{Sized, Rules}
use Rattle.spec_calls.specs.Calls.{call_of}
use Rattle.spec_moves.specs.States.{scheduled}
use Rattle.spec_effects.specs.Effects.{effect}
use Rattle.spec_effects.proofs.RulesKept.{rules_kept}
use Rattle.spec_notes.specs.Back.{state_before}
use Rattle.spec_notes.specs.Within.{Within, CallWithin}
use Rattle.spec_notes.specs.LeftAlone.{LeftAlone}
use Rattle.spec_notes.specs.Frames.{frames_of, sections_in}
use Rattle.spec_notes.specs.Undo.{Yields}
use Rattle.spec_notes.proofs.StaysAtCalls.{call_leaves}
use Rattle.spec_notes.proofs.WithinKept.{within_kept}
use Rattle.spec_notes.proofs.WayBack.{way_back}
use Rattle.spec_notes.proofs.FramesRead.{frames_back, record_back}

-- the fields of a call that comes in bytes
pub call_within : (bytes : List ℕ) → ((i : ℕ) → get_or bytes i 0 < 256) → CallWithin (call_of bytes)
unfolding call_of
call_within bytes h = record {
  a = h 1;
  b = omega (arith, h 2, h 3);
  c = omega (arith, h 4, h 5, h 6, h 7);
  d = omega (arith, h 8, h 9, h 10, h 11);
}

module _ {k : Kernel} {bytes : List ℕ} {k' : Kernel} {note : List ℕ} (Y : Yields k bytes k' note) where
  -- the end state keeps the rules
  pub yields_kept : Sized k' × Rules k' × Within k' × LeftAlone k (call_of bytes) k'
  yields_kept =
      let c = call_of bytes in
      let X = call_within bytes Y.small in
      let (Z', R') = rules_kept k c Y.sized Y.rules Y.accepted in
      let W' = within_kept k c Y.sized Y.rules Y.inside X Y.accepted in
      let F = call_leaves k c Y.sized Y.rules Y.inside X Y.accepted in
      let all : Sized (scheduled (effect k c)) × Rules (scheduled (effect k c)) × Within (scheduled (effect k c))
      × LeftAlone k c (scheduled (effect k c)) =
      (Z', R', W', F) in
      rw Y.state at all

  -- the call record stands first
  pub yields_call : take 16 note ≡ bytes
  yields_call = rw (← Y.noted) (record_back k bytes k' Y.sixteen)

  pub yields_back : state_before (call_of bytes) k' (sections_in (frames_of note)) ≡ k
  yields_back =
      let (Z', R', _, F) = yields_kept in
      rw (← Y.noted, frames_back k bytes k' Y.sixteen) (way_back k (call_of bytes) k' Y.sized Z' Y.rules R' Y.inside F)

pub yields_once : {k u : Kernel} {bytes other : List ℕ} {k' : Kernel} {note : List ℕ}
    → Yields k bytes k' note → Yields u other k' note → (k ≡ u) × (bytes ≡ other)
yields_once {k} {u} {bytes} {other} {k'} {note} Y X =
    let e : bytes ≡ other = sym (yields_call Y) ∙ yields_call X in
    (sym (yields_back Y) ∙ ap (λ (b : List ℕ). state_before (call_of b) k' (sections_in (frames_of note))) e ∙ yields_back X, e)
