-- All threads get records at once: what each of them has to keep.
use Prim.Native.Nat.{ℕ}
use mathlib.Core.Path.{◌≡◌, refl}
use mathlib.Core.Bool.{Bool, true, false}
use mathlib.Core.List.{List}
use Rattle.spec_kernel.specs.declared.records.Wake.{Wake}
use Rattle.spec_kernel.specs.declared.records.Thread.{Thread}
use Rattle.spec_kernel.specs.declared.records.Semaphore.{Semaphore}
use Rattle.spec_kernel.specs.declared.records.Kernel.{Kernel}
use Rattle.spec_moves.specs.declared.parts.Threads.{Threads}
use Rattle.spec_kernel.specs.Records.{thread, message}
use Rattle.spec_kernel.specs.Conditions.{is_ready, awaits}
use Rattle.spec_moves.specs.Moves.{thread_in}
use Rattle.spec_moves.specs.Standing.{Standing}
use Rattle.spec_moves.specs.States.{with_threads}
use Rattle.spec_threads.specs.Threads.{awake}
use Rattle.proof_rules.proofs.Core.{FineThread, Core}
use Rattle.proof_rules.proofs.Steps.{awake_fine}

-- the record r becomes s: that is fine, who is live or ready stays so, and nobody comes to await messages
pub record Becomes (semaphores : List Semaphore) (waited : ℕ → Bool) (flags : ℕ) (r s : Thread) : Type 0 where
  pub fine : FineThread semaphores waited flags s
  pub live : r.live ≡ true → s.live ≡ true
  pub ready : is_ready r ≡ true → is_ready s ≡ true
  pub calm : (c : ℕ) → awaits r.condition c ≡ false → awaits s.condition c ≡ false

module _ {S : List Semaphore} {waited : ℕ → Bool} {flags : ℕ} where
  pub stays : {r : Thread} → FineThread S waited flags r → Becomes S waited flags r r
  stays F = record { fine = F; live = λ e. e; ready = λ e. e; calm = λ _ e. e }

  -- a live thread may wake
  pub becomes_awake : {r s : Thread} → Becomes S waited flags r s → s.live ≡ true → (why : Wake)
      → Becomes S waited flags r (awake why s.reply s)
  becomes_awake {s} B l why = record {
    fine = awake_fine B.fine l why s.reply (B.fine.living l).reply;
    live = λ _. l;
    ready = λ _. rw l;
    calm = λ _ _. refl;
  }

module _ {waited : ℕ → Bool} {k : Kernel} (C : Core waited k) {p : Threads} (S : Standing p)
    (B : (t : ℕ) → Becomes k.semaphores waited k.flags (thread k t) (thread_in p t)) where
  pub threads_core : Core waited (with_threads p k)
  threads_core = record {
    standing = S;
    filed = C.filed;
    semaphores_sized = C.semaphores_sized;
    events_sized = C.events_sized;
    threads = λ t. (B t).fine;
    semaphores = C.semaphores;
    messages = λ m. record {
      living = λ e. let L = (C.messages m).living e in let b = B (message k m).owner in record {
        owner = b.live L.owner;
        sender = L.sender;
        channel = L.channel;
        unawaited = b.calm (message k m).channel L.unawaited;
      };
      gone = (C.messages m).gone;
    };
  }
