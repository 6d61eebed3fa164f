-- `code_events::wakes` meets its contract: 255 is nobody.
use mathlib.Core.Path.{◌≡◌, refl, sym, ◌∙◌}
use lib.ListN.{length}
use Rattle.spec_kernel.specs.Sizes.{thread_count}
use Rattle.code_kernel_find.proofs.OfHomes.{first_empty}
use Rattle.code_events.proofs.wakes.Goals as goal

pub returns-then-is_true : goal.returns-then-is_true
returns-then-is_true c =
    let p = c.args.p in
    let e : length p.records ≡ thread_count = c.well_formed.0.1.1.0.1.0.1 in
    rw (
      sym c.is_true.ensures ∙ c.if-is_true.true,
      c.first_at_home.ensures,
      first_empty p.records e p.places c.requires,
    ) refl
