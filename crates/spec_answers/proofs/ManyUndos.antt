-- What is promised of many undos in one call: they are single undos, one after the other, up to the first that is refused.
use Prim.Native.Nat.{ℕ, zero, suc, ◌<◌}
use mathlib.Core.Path.{◌≡◌, refl, sym, ap, ◌∙◌}
use mathlib.Core.Bool.{true, false, false≢true}
use mathlib.Core.List.{List}
use native.Mathlib.Omega.{arith}
use lib.Dec.{eqb}
use borrow.Author.Tests.{eqb-true, eqb-false}
use borrow.Table.Steps.{cases}
use Rattle.spec_kernel.specs.declared.records.Kernel.{Kernel}
use Rattle.spec_rules.specs.Rules.{Rules}
use Rattle.spec_rules.specs.Tests.{keeps_rules}
use Rattle.spec_rules.proofs.Exactly.{rules_mean, rules_hold}
use Rattle.spec_notes.specs.Within.{OfTypes, AreBytes}
use Rattle.spec_notes.specs.Undoes.{undoes}
use Rattle.spec_answers.specs.declared.Logged.{Logged}
use Rattle.spec_answers.specs.declared.Reached.{Reached}
use Rattle.spec_answers.specs.Steps.{answer}
use Rattle.spec_answers.specs.Logs.{logged, undone, undone_kept, reached, one_more, many_by, undone_many}
use Rattle.spec_answers.specs.Runs.{Run, undo, after, undone_times}
use Rattle.spec_answers.specs.Promises.{BrokenIsRefused, BrokenUndoesNone, EachIsUndone, AllAreUndone, StopsAtRefusal, RulesAreKept}
use Rattle.spec_answers.specs.Promises.{UndoneMany, OneReached}
use Rattle.spec_answers.proofs.Undos.{one_of_three, led_back_lem, undone_if_lem, undone_kept_lem, rules_are_kept_lem}

-- where a run stands
abbrev standing : Kernel → List ℕ → ℕ → Run
standing k log used = record { kernel = k; log = log; used = used }

module _ (k : Kernel) (log : List ℕ) (used : ℕ) (T : OfTypes k) (R : Rules k) where
  -- after an undo that answers 0, n single undos are one more
  times_next : (n : ℕ) → (undone k log used).answer.number ≡ 0
      → undone_times (suc n) (standing k log used) ≡ undone_times n (after (standing k log used) undo)
  times_next zero z = led_back_lem k log used (undoes k log used) (undone k log used) (undone_if_lem k log used T R) z
  times_next (suc n) z = refl

  -- one that doesn't answer 0 answers 15
  refused_is_15 : ((undone k log used).answer.number ≡ 0 → ⊥) → (undone k log used).answer.number ≡ 15
  refused_is_15 =
      one_of_three k log used (λ x. (x.answer.number ≡ 0 → ⊥) → x.answer.number ≡ 15)
      (λ _ _ n. absurd (n refl)) (λ _ _ _. refl) (λ e _. absurd (false≢true (sym e ∙ rules_hold k T.sized R)))

-- ---- on a state that keeps its rules
-- what is promised there
record So (n : ℕ) (s : Run) (r : Reached) : Type 0 where
  kept : OfTypes r.kernel × Rules r.kernel
  number : (r.answer.number ≡ 14) → ⊥
  each : (i : ℕ) → i < r.undone → (undone_times (suc i) s).answer.number ≡ 0
  all : r.answer.number ≡ 0 → r ≡ reached (undone_times n s) n
  stops : (r.answer.number ≡ 0 → ⊥)
      → (r.answer.number ≡ 15) × (r.undone < n) × (r ≡ reached (undone_times (suc r.undone) s) r.undone)

module _ (log : List ℕ) (B : AreBytes log) where
  -- of none
  none_so : (k : Kernel) (used : ℕ) → OfTypes k → Rules k → So zero (standing k log used) (many_by undone zero k log used)
  none_so k used T R =
      record {
        kept = (T, R);
        number = λ z. omega arith;
        each = λ i h. absurd (omega arith);
        all = λ _. refl;
        stops = λ n. absurd (n refl);
      }

  module _ (k : Kernel) (used : ℕ) (T : OfTypes k) (R : Rules k) (n : ℕ) where
    abbrev u : Logged
    u = undone k log used

    -- the first is refused
    refused_so : (u.answer.number ≡ 0 → ⊥) → So (suc n) (standing k log used) (reached u 0)
    unfolding RulesAreKept
    refused_so z =
        let f = refused_is_15 k log used T R z in
        record {
          kept = rules_are_kept_lem k log used T B R;
          number = λ e. omega arith;
          each = λ i h. absurd (omega arith);
          all = λ e. absurd (z e);
          stops = λ _. (f, omega arith, refl);
        }

    -- the first is undone, and then come the others
    undone_so : u.answer.number ≡ 0 → (r : Reached) → So n (standing u.kernel log u.used) r
        → So (suc n) (standing k log used) (one_more r)
    undone_so z r S =
        record {
          kept = S.kept;
          number = S.number;
          each = λ i h. first i h;
          all = λ e. ap one_more (S.all e) ∙ ap (λ (x : Logged). reached x (suc n)) (sym (times_next k log used T R n z));
          stops = λ e. let (a, b, c) = S.stops e in (a, omega arith, ap one_more c);
        }
      where
        first : (i : ℕ) → i < suc r.undone → (undone_times (suc i) (standing k log used)).answer.number ≡ 0
        first zero h = z
        first (suc i) h = S.each i (omega arith)

  many_so : (n : ℕ) (k : Kernel) (used : ℕ) → OfTypes k → Rules k → So n (standing k log used) (many_by undone n k log used)
  unfolding RulesAreKept
  many_so zero k used T R = none_so k used T R
  many_so (suc n) k used T R =
      let r = undone k log used in
      let (T', R') = rules_are_kept_lem k log used T B R in
      cases (eqb r.answer.number 0)
      (λ e. rw e (undone_so k used T R n (eqb-true r.answer.number 0 e) _ (many_so n r.kernel r.used T' R')))
      (λ e. rw e (refused_so k used T R n (eqb-false r.answer.number 0 e)))

  -- they are as many without a test
  pub many_kept : (n : ℕ) (k : Kernel) (used : ℕ) → OfTypes k → Rules k → many_by undone n k log used ≡ many_by undone_kept n k log used
  unfolding RulesAreKept
  many_kept zero k used T R = refl
  many_kept (suc n) k used T R =
      let r = undone k log used in
      let (T', R') = rules_are_kept_lem k log used T B R in
      let e = undone_kept_lem k log used T B R in
      rw (many_kept n r.kernel r.used T' R', e)

-- ---- on any state
module _ (n : ℕ) (k : Kernel) (log : List ℕ) (used : ℕ) (T : OfTypes k) (B : AreBytes log) where
  kept_many : keeps_rules k ≡ true → UndoneMany n k log used (many_by undone n k log used)
  unfolding undone_many BrokenIsRefused BrokenUndoesNone EachIsUndone AllAreUndone StopsAtRefusal RulesAreKept
  kept_many e =
      let R = rules_mean k T.sized e in
      let S = many_so log B n k used T R in
      record {
        result = rw e;
        broken_is_refused = (λ z. absurd (S.number z), λ b. absurd (b R));
        broken_undoes_none = λ b. absurd (b R);
        each_is_undone = S.each;
        all_are_undone = λ _. S.all;
        stops_at_refusal = λ _. S.stops;
        rules_are_kept = λ _. S.kept;
      }

  broken_many : keeps_rules k ≡ false → UndoneMany n k log used (reached (logged (answer 14 255 255) k used) 0)
  unfolding undone_many BrokenIsRefused BrokenUndoesNone EachIsUndone AllAreUndone StopsAtRefusal RulesAreKept
  broken_many e =
      let broken : Rules k → ⊥ = λ R. false≢true (sym e ∙ rules_hold k T.sized R) in
      record {
        result = rw e;
        broken_is_refused = (λ _. broken, λ _. refl);
        broken_undoes_none = λ _. refl;
        each_is_undone = λ i h. absurd (omega arith);
        all_are_undone = λ R. absurd (broken R);
        stops_at_refusal = λ R. absurd (broken R);
        rules_are_kept = λ R. absurd (broken R);
      }

-- ---- the promises
pub undoes_many : (n : ℕ) (k : Kernel) (log : List ℕ) (used : ℕ) → OfTypes k → AreBytes log
    → UndoneMany n k log used (undone_many n k log used)
unfolding undone_many
undoes_many n k log used T B =
    cases (keeps_rules k) (λ e. rw e (kept_many n k log used T B e)) (λ e. rw e (broken_many n k log used T B e))

pub one_reached : OneReached
unfolding OneReached
one_reached n k log used r s A B = A.result ∙ sym B.result
