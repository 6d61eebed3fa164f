-- `replay_c::record_or_0` meets its contract.
use mathlib.Core.Path.{◌≡◌, ◌∙◌}
use native.Mathlib.Omega.{arith}
use lib.ListN.{length}
use lib.Seq.{take_all}
use borrow.Author.Tests.{eq-eqb, ne_eqb}
use borrow.Author.Rules.{rules}
use Rattle.spec_notes.specs.Undoes.{call_bytes}
use Rattle.code_notes_frame.proofs.Framing.{record_whole}
use Rattle.spec_images.specs.OnImages.{record_or0}
use Rattle.replay_c.proofs.record_or_0.Goals as goal

pub returns-then-bytes-eq16 : goal.returns-then-bytes-eq16
unfolding record_or0 call_bytes
returns-then-bytes-eq16 c =
    let bytes = c.args.bytes.now in
    let e : length bytes ≡ 16 = c.if-bytes-eq16.true in
    rw (eq-eqb (length bytes) 16 e) (c.call_bytes.ensures ∙ record_whole bytes (omega arith) ∙ take_all 16 bytes (omega arith))

pub returns-else-bytes-eq16 : goal.returns-else-bytes-eq16
unfolding record_or0
returns-else-bytes-eq16 c = rw (ne_eqb (length c.args.bytes.now) 16 c.if-bytes-eq16.false)
