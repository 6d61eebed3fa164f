-- `code_kernel::places::home_of` meets its contract: a record that isn't live has no home, and that of a live one is its condition's.
use mathlib.Core.Logic.{inl, inr}
use borrow.Author.Tests.{not-true, not-false}
use Rattle.spec_kernel.specs.Places.{home_of}
use Rattle.code_kernel.proofs.places.home_of.Goals as goal

pub returns-then-not-r : goal.returns-then-not-r
unfolding home_of
returns-then-not-r c = rw (not-true c.args.r.live c.if-not-r.true)

pub returns-in-Ready : goal.returns-in-Ready
unfolding home_of
returns-in-Ready c = rw (not-false c.args.r.live c.if-not-r.false, c.in-Ready.is)

pub returns-in-ForSemaphore : goal.returns-in-ForSemaphore
unfolding home_of
returns-in-ForSemaphore c = rw (not-false c.args.r.live c.if-not-r.false, c.in-ForSemaphore.is)

pub returns-in-ForEvent : goal.returns-in-ForEvent
unfolding home_of
returns-in-ForEvent c = rw (not-false c.args.r.live c.if-not-r.false, c.in-ForEvent.is)

pub returns-in-ForFlag : goal.returns-in-ForFlag
unfolding home_of
returns-in-ForFlag c = rw (not-false c.args.r.live c.if-not-r.false, c.in-ForFlag.is)

pub returns-in-Asleep : goal.returns-in-Asleep
unfolding home_of
returns-in-Asleep c =
    elim c.in-Asleep.is [
      | inl a ↦ rw (not-false c.args.r.live c.if-not-r.false, a)
      | inr m ↦ rw (not-false c.args.r.live c.if-not-r.false, m.1)
    ]
