-- No kind of call changes who runs: that is the scheduler's, after the effect.
use Prim.Native.Nat.{ℕ, zero, suc}
use mathlib.Core.Path.{◌≡◌, refl, ◌∙◌}
use mathlib.Core.Bool.{Bool, true, false, cond}
use mathlib.Core.List.{List, [], ◌∷◌, map}
use lib.ListN.{get_or}
use Rattle.spec_kernel.specs.declared.records.Kernel.{Kernel}
use Rattle.spec_kernel.specs.Places.{semaphore_queue}
use Rattle.spec_calls.specs.declared.call.Call.{Call}
use Rattle.spec_threads.specs.Threads.{block, wake, create_thread, free_messages, destroy_thread, set_priority, reset_priority, yielded, sleep}
use Rattle.spec_regions.specs.Regions.{push_unscheduled, pop_unscheduled, pop_all_unscheduled, push_critical, pop_critical, pop_all_critical}
use Rattle.spec_semaphores.specs.Semaphores.{create_semaphore, destroy_semaphore, make_periodic, remove_periodic}
use Rattle.spec_semaphores.specs.Semaphores.{pend_semaphore, post_to, post, post_semaphore}
use Rattle.spec_events.specs.Events.{worked_out, load_event, pend_event, set_bit, clear_bit}
use Rattle.spec_flags.specs.Flags.{create_flag, destroy_flag, pend_flag, post_flag}
use Rattle.spec_messages.specs.Messages.{create_message, destroy_message, hand_over, post_message, receive, pend_message}
use Rattle.spec_time.specs.Time.{pulse, pulse_from, tick}
use Rattle.spec_effects.specs.Effects.{Does, nothing, effects_of_kinds, effect}

-- where both ways leave the runner, it stays
cond_runner : (b : Bool) (x y : Kernel) → (cond b x y).runner ≡ cond b x.runner y.runner
cond_runner true x y = refl
cond_runner false x y = refl

both : (b : Bool) (n : ℕ) → cond b n n ≡ n
both true n = refl
both false n = refl

post_runner : (i : ℕ) (k : Kernel) → (post i k).runner ≡ k.runner
unfolding post wake
post_runner i k = go (semaphore_queue k i)
  where
    go : (q : List ℕ) → (post_to q i k).runner ≡ k.runner
    go [] = refl
    go (t ∷ q) = refl

pulse_runner : (i : ℕ) (k : Kernel) → (pulse i k).runner ≡ k.runner
unfolding pulse
pulse_runner i k = simp (cond_runner, post_runner, both)

pulses_runner : (i n : ℕ) (k : Kernel) → (pulse_from i n k).runner ≡ k.runner
unfolding pulse_from
pulses_runner i zero k = refl
pulses_runner i (suc n) k = pulses_runner (suc i) n (pulse i k) ∙ pulse_runner i k

module _ (k : Kernel) (c : Call) where
  -- the runners that the kinds of a list leave
  abbrev runners : List Does → List ℕ
  runners l = map (λ x. (x k c).runner) l

  -- Unfolded is each row of the table and what it is made of: a shut one would not show the runner that it leaves.
  same_runners : runners effects_of_kinds ≡ map (λ x. k.runner) effects_of_kinds
  unfolding
      -- spec_threads
      block create_thread free_messages destroy_thread set_priority reset_priority yielded sleep
      -- spec_regions
      push_unscheduled pop_unscheduled pop_all_unscheduled push_critical pop_critical pop_all_critical
      -- spec_semaphores
      create_semaphore destroy_semaphore make_periodic remove_periodic pend_semaphore post_semaphore
      -- spec_events
      worked_out load_event pend_event set_bit clear_bit
      -- spec_flags
      create_flag destroy_flag pend_flag post_flag
      -- spec_messages
      create_message destroy_message hand_over post_message receive pend_message
      -- spec_time
      tick
  same_runners = simp (cond_runner, post_runner, pulses_runner, both)

  runner_at : (l : List Does) → runners l ≡ map (λ x. k.runner) l → (i : ℕ) → (get_or l i nothing k c).runner ≡ k.runner
  runner_at [] e i = refl
  runner_at (x ∷ l) e zero = cc
  runner_at (x ∷ l) e (suc i) = runner_at l (cc) i

  pub effect_runner : (effect k c).runner ≡ k.runner
  unfolding effect
  effect_runner = runner_at effects_of_kinds same_runners c.kind
