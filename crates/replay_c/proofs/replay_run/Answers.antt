-- `replay_c::replay_run` meets its contract: the call on the image is the one that is promised; 1 for a record of another length.
use mathlib.Core.Path.{ap, ◌∙◌}
use lib.ListN.{length}
use borrow.Author.Rules.{rules}
use Rattle.spec_images.specs.declared.Stored.{Stored}
use Rattle.spec_images.specs.Promises.{OtherLengthsGetOne}
use Rattle.spec_images.proofs.OnImages.{other_lengths_get_one}
use Rattle.replay_c.proofs.replay_run.Goals as goal

pub returns : goal.returns
unfolding OtherLengthsGetOne
returns c =
    let a = c.args in
    let r = c.record_or_0 in
    let e = rw r.ensures at c.called_on-s.ensures in
    record {
      given = c.called_on-s.result.answer;
      answered = c.packed.ensures;
      promised = e;
      other_length = λ k H o.
          ap (λ (x : Stored). x.answer)
          (e.result ∙ other_lengths_get_one a.image.now a.length.now a.bytes.now a.log.now a.used.now k H o);
    }
