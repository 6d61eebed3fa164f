-- `code_semaphores::semaphores::post` meets its contract: 255 says that nobody waits, and any other id is the first of the queue.
use Prim.Native.Nat.{ℕ}
use mathlib.Core.Path.{◌≡◌, refl, sym, ◌∙◌}
use mathlib.Core.Bool.{true, false≢true}
use mathlib.Core.List.{[], List, ◌∷◌}
use native.Mathlib.Omega.{arith}
use lib.ListN.{length}
use lib.Seq.{set-get_or}
use borrow.Author.Tests.{eq-eqb, ne_eqb}
use Rattle.base_queue.specs.Lists.{is_empty}
use Rattle.spec_kernel.specs.Sizes.{thread_count}
use Rattle.spec_kernel.specs.Records.{no_semaphore}
use Rattle.spec_kernel.specs.Places.{semaphore_queue}
use Rattle.code_kernel_find.proofs.OfHomes.{first_empty, first_head}
use Rattle.spec_threads.specs.Threads.{wake}
use Rattle.code_semaphores.specs.Waiting.{with_waiting}
use Rattle.spec_semaphores.specs.Semaphores.{post}
use Rattle.code_semaphores.proofs.semaphores.post.Goals as goal

empty : (l : List ℕ) → is_empty l ≡ true → l ≡ []
empty [] h = refl
empty (x ∷ l) h = absurd (false≢true h)

pub returns-then-first : goal.returns-then-first
unfolding post
returns-then-first c k =
    let p = c.args.w.threads in
    let f = c.first_at_home-first.ensures in
    let e : length p.records ≡ thread_count = c.well_formed.0.1.1.0.1.1.0.1.0.1 in
    let z : semaphore_queue (with_waiting c.args.w k) c.args.i ≡ [] =
    empty _ (sym (first_empty p.records e p.places (omega arith)) ∙ eq-eqb _ _ (sym f ∙ c.if-first.true)) in
    rw (
      z,
      c.stored-next.ensures,
      c.counted.ensures,
      c.semaphore_at.ensures,
      eq-eqb _ _ c.if-first.true,
    )

pub returns : goal.returns
unfolding post wake
returns c k =
    let w = c.args.w in
    let p = w.threads in
    let f = c.first_at_home-first.ensures in
    rw (
      first_head p.records p.places _ (λ z. c.if-first.false (f ∙ z)),
      c.woken.ensures,
      c.stored-next.ensures,
      c.counted.ensures,
      c.semaphore_at.ensures,
      ne_eqb _ _ c.if-first.false,
      set-get_or w.semaphores _ no_semaphore,
      f,
    )
