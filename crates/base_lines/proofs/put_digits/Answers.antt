-- `base_lines::put_digits` meets its contract: a turn writes the last digit of what is left.
use Rattle.std.proofs.Common.{ℕ, ◌≡◌, ◌++◌, subst, ◌-◌, ◌<◌, ◌≤◌, ◌%◌, ◌+◌, ◌^◌, length, set, drop, rules, arith, ap, ◌∙◌, append-nil}
use lib.ListN.{drop_of_length-le}
use Rattle.base_lines.specs.Lines.{decimal, decimal_in, spelt_behind}
use Rattle.base_lines.proofs.Lines.{spelt, last_written, more_written}
use Rattle.base_lines.proofs.put_digits.Goals as goal
use Rattle.base_lines.proofs.put_digits.Goals.{Then-rest-lt10, After-loop-i}

pub loop-i-init : goal.loop-i-init
unfolding decimal
loop-i-init c =
    let long : length c.args.digits.now ≡ 20 = search rules in
    let past : length c.args.digits.now ≤ 20 = omega arith in
    (long, rw (drop_of_length-le c.args.digits.now past, append-nil))

-- the digits where the last one is written
written : (c : Then-rest-lt10)
    → drop (c.loop-i.i - 1) (set c.loop-i.digits (c.loop-i.i - 1) (48 + c.loop-i.rest % 10)) ≡ decimal c.args.n
written c =
    let h = c.loop-i.invariant in
    last_written c.loop-i.i c.loop-i.rest c.loop-i.digits c.loop-i-test.true (omega arith) c.if-rest-lt10.true ∙ h.1

pub returns-then-rest-lt10-clause-digits : goal.returns-then-rest-lt10-clause-digits
returns-then-rest-lt10-clause-digits c = written c

pub returns-then-rest-lt10-clause-whole : goal.returns-then-rest-lt10-clause-whole
returns-then-rest-lt10-clause-whole c =
    let small : c.args.n < 2 ^ 64 = search rules in
    ap (spelt_behind 0) (written c) ∙ spelt c.args.n small

pub loop-i-preserved : goal.loop-i-preserved
loop-i-preserved c =
    let h = c.loop-i.invariant in
    let within : c.loop-i.i ≤ length c.loop-i.digits = omega arith in
    (search rules, more_written c.loop-i.i c.loop-i.rest c.loop-i.digits c.loop-i-test.true within c.if-rest-lt10.false ∙ h.1)

-- no room is left
through : (c : After-loop-i) → c.loop-i.digits ≡ decimal c.args.n
unfolding decimal_in
through c =
    let none : c.loop-i.i ≡ 0 = omega arith in
    let P : ℕ → Type 0 = λ i. decimal_in i c.loop-i.rest ++ drop i c.loop-i.digits ≡ decimal c.args.n in
    subst P none c.loop-i.invariant.1

pub returns-clause-digits : goal.returns-clause-digits
returns-clause-digits c = through c

pub returns-clause-whole : goal.returns-clause-whole
returns-clause-whole c =
    let small : c.args.n < 2 ^ 64 = search rules in
    ap (spelt_behind 0) (through c) ∙ spelt c.args.n small
