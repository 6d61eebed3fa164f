-- Only where its row says so can a call touch the first that waits for a semaphore: for other kinds it needn't be known.
use Prim.Native.Nat.{ℕ}
use mathlib.Core.Path.{◌≡◌, ap}
use lib.Dec.{eqb}
use borrow.Table.Steps.{cases}
use Rattle.spec_kernel.specs.declared.records.Kernel.{Kernel}
use Rattle.code_kernel_find.specs.AtHome.{first_at_home}
use Rattle.spec_calls.specs.declared.call.Call.{Call}
use Rattle.spec_calls.specs.declared.kinds.Which.TheVariants.{Waiter}
use Rattle.spec_calls.specs.Kinds.{is_which, kind_of}
use Rattle.spec_refusals.specs.declared.named.Named.{Named}
use Rattle.spec_refusals.specs.Named.{waiter_by, named}
use Rattle.code_notes_spans.specs.Spans.{span_of, thread_span, waiter_of}

-- what a call finds is enough for its span
pub waiter_found : (k : Kernel) (c : Call) (n : Named) (runner value : ℕ) → n ≡ named k c
    → thread_span c runner value n.waiter ≡ thread_span c runner value (waiter_of k c)
unfolding thread_span span_of named waiter_by first_at_home
waiter_found k c n runner value e =
    rw (ap (λ m. m.waiter) e) (cases (is_which (kind_of c).thread Waiter) (λ h. rw h) (λ h. rw h))
