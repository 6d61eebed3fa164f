-- `code_semaphores::semaphores::post_semaphore` meets its contract: the post, on the part that it touches.
use mathlib.Core.Path.{ap, ◌∙◌}
use Rattle.code_semaphores.specs.declared.waiting.Waiting.{Waiting}
use Rattle.code_semaphores.specs.Waiting.{with_waiting}
use Rattle.spec_semaphores.specs.Semaphores.{post, post_semaphore}
use Rattle.code_semaphores.proofs.semaphores.post_semaphore.Goals as goal

pub returns : goal.returns
unfolding post_semaphore
returns c =
    let a = c.args in
    c.with_waiting.ensures ∙ c.post.ensures a.k
    ∙ ap (λ (w : Waiting). post a.c.a (with_waiting w a.k)) c.waiting_of.ensures
